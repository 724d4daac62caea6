-- When terms fit patterns, and what is then shown of them: what a reader looks for, to compare an equation with its clause.
use Rattle.std.specs.Prelude.{◌≡◌, ℕ, List, [], ◌∷◌, ◌++◌, length}
use Rattle.theory.specs.Terms.{Term, Con}
use Rattle.theory.specs.Telescopes.{applied}
use Rattle.theory.specs.Families.{Family}
use Rattle.theory.specs.Signatures.{Signature, FamilyOf, IsEntryAt}
use Rattle.core_terms.specs.Patterns as pattern
use Rattle.core_terms.specs.Patterns.{Pat, Pats}

-- `Fits S written pat t u terms`: t fits the pattern, whose variables have these terms, in the order of the source file, and u is t with
-- each dot as it is written. A variable has the term itself, and any term fits `_`; in both cases the term itself is shown. Any term fits a
-- dot, and the written term is shown. What fits a constructor pattern is the constructor at as many terms as its family has parameters, and
-- then at terms that fit its patterns; the constructor is shown at the same parameters. Nothing fits `( )`.
mutual
  pub data Fits (S : Signature) (written : Term → Term) : Pat → (t u : Term) → (terms : List Term) → Type 0 where
    variable : (t : Term) → Fits S written pattern.Bind t t (t ∷ [])
    wild : (t : Term) → Fits S written pattern.Wild t t []
    dot : (s t : Term) → Fits S written (pattern.Dot s) t (written s) []
    built : (n number : ℕ) (f : Family) (pats : Pats) (ps ts us terms : List Term) → IsEntryAt S n (FamilyOf f)
        → length ps ≡ length f.parameters → AllFit S written pats ts us terms
        → Fits S written (pattern.Con n number pats) (applied (Con n number) (ps ++ ts)) (applied (Con n number) (ps ++ us)) terms

  pub data AllFit (S : Signature) (written : Term → Term) : Pats → (ts us : List Term) → (terms : List Term) → Type 0 where
    none : AllFit S written pattern.nil [] [] []
    more : (pat : Pat) (pats : Pats) (t u : Term) (ts us first rest : List Term) → Fits S written pat t u first
        → AllFit S written pats ts us rest → AllFit S written (pattern.cons pat pats) (t ∷ ts) (u ∷ us) (first ++ rest)

-- a list of terms fits patterns, whatever is shown of them
abbrev pub IsTaken : Signature → Pats → (vector : List Term) → Type 0
IsTaken S pats vector = (shown : List Term) × (terms : List Term) × AllFit S (λ t. t) pats vector shown terms
