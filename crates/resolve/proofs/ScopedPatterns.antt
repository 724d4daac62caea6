-- Resolved patterns are scoped, bind the variables that are written, and have all arguments of their constructors.
use Rattle.std.proofs.Common.{◌≡◌, ℕ, ◌==◌, Bool, true, false, List, [], ◌∷◌, ◌++◌, length, Option, Some, None, option_and_then, Ok, Err, IfOk, IfSome, slice_get, get_or, bytes_eq, refl, ap, sym, ◌∙◌, subst, arith}
use Rattle.std.specs.Prelude.{if◌then◌else◌}
use Rattle.std.specs.List.{list_any}
use Rattle.std.specs.Option.{option_map_or}
use Rattle.std.proofs.lemmas.Bool.Decides.{nat_tests}
use Rattle.std.proofs.lemmas.List.{append-nil, length-append}
use Rattle.std.proofs.lemmas.Option.{slice_get-get_or}
use Rattle.theory.specs.Families as theory
use Rattle.theory.specs.Signatures.{Signature, FamilyOf, IsPrefix}
use Rattle.theory.proofs.Lists.{slice_get-longer}
use Rattle.core_terms.specs.Patterns as core
use Rattle.core_sig.specs.Names.{find}
use Rattle.core_sig.specs.declared.entry.Found.{Found}
use Rattle.core_sig.specs.declared.entry.Found.TheVariants.{Entry, Con}
use Rattle.surface_syntax.specs.Trees as surf
use Rattle.surface_syntax.specs.declared.tree.Word.{Word}
use Rattle.resolve.specs.declared.stop.ResolveStop.TheVariants.{UnknownName, WrongArity, NotLinear}
use Rattle.resolve.specs.Names.{Known, Scope}
use Rattle.resolve.specs.Resolving.{resolve}
use Rattle.resolve.specs.Patterns as spec
use Rattle.resolve.specs.Scoping.{IsResolved, HasArguments, IsPattern, ArePatterns, binds, binds_all, count}
use Rattle.resolve.proofs.KnownNames.{IsKnown, IsFound, is_found}
use Rattle.core_terms.proofs.Answers.{and_then-has}
use Rattle.resolve.proofs.ScopedTerms.{term_resolved}

no_constructor : theory.Constructor
no_constructor = record { name = []; arguments = []; targets = [] }

-- a constructor that is found has as many arguments as is said
pub constructor_known : (S T : Signature) → IsPrefix S T → (name : List ℕ) → IfSome (spec.constructor S name) (λ c. HasArguments T c.family c.number c.arguments)
constructor_known S T p name = go (find S name) (is_found S name)
  where
    go : (o : Option Found) → IfSome o (IsFound S.entries) → IfSome (option_and_then (spec.constructor_found S) o) (λ c. HasArguments T c.family c.number c.arguments)
    go None is = tt
    go (Some (Entry n)) is = tt
    go (Some (Con n number)) (f, at, few) = (
      f,
      get_or f.constructors number no_constructor,
      ap (λ es. slice_get es n) p.entries ∙ slice_get-longer S.entries p.more n (FamilyOf f) at,
      slice_get-get_or f.constructors number no_constructor few,
      sym (ap (spec.arguments_in number) at ∙ ap (λ o. option_map_or (λ (k : theory.Constructor). length k.arguments) o 0) (slice_get-get_or f.constructors number no_constructor few)),
    )

-- a head with n arguments is a constructor with all of them, or a variable without any
abbrev HasHead : Signature → ℕ → Option spec.Constructor → Type 0
HasHead T n (Some c) = HasArguments T c.family c.number n
HasHead T n None = n ≡ 0

head_known : (T : Signature) (n : ℕ) (before : List (List ℕ)) (x : Word) (o : Option spec.Constructor) → IfSome o (λ c. HasArguments T c.family c.number c.arguments)
    → IfOk (spec.head n before x o) (λ h. (h ≡ o) × HasHead T n h)
head_known T n before x (Some c) known = go (n == c.arguments) (λ e. grind (arith, nat_tests))
  where
    go : (b : Bool) → (b ≡ true → c.arguments ≡ n) → IfOk (if b then Ok (Some c) else Err (WrongArity x.start x.text)) (λ h. (h ≡ Some c) × HasHead T n h)
    go true e = (refl, subst (HasArguments T c.family c.number) (e refl) known)
    go false e = tt
head_known T n before x None known = go (n == 0) (λ e. grind (arith, nat_tests))
  where
    linear : (b : Bool) → n ≡ 0 → IfOk (if b then Err (NotLinear x.start x.text) else Ok None) (λ h. (h ≡ None) × HasHead T n h)
    linear true e = tt
    linear false e = (refl, e)

    go : (b : Bool) → (b ≡ true → n ≡ 0) → IfOk (if b then (if list_any (bytes_eq x.text) before then Err (NotLinear x.start x.text) else Ok None) else Err (UnknownName x.start x.text)) (λ h. (h ≡ None) × HasHead T n h)
    go true e = linear (list_any (bytes_eq x.text) before) (e refl)
    go false e = tt

-- patterns over n variables for those that are written
pub record Stands (S T : Signature) (n : ℕ) (ps : surf.Pats) (qs : core.Pats) : Type 0 where
  pub patterns : ArePatterns T n qs
  pub variables : binds_all qs ≡ length (spec.bound_all S ps)
  pub many : count qs ≡ spec.count ps

pub record StandsOne (S T : Signature) (n : ℕ) (p : surf.Pat) (q : core.Pat) : Type 0 where
  pub pattern : IsPattern T n q
  pub variables : binds q ≡ length (spec.bound S p)

no_arguments : (S : Signature) (args : surf.Pats) → spec.count args ≡ 0 → spec.bound_all S args ≡ []
no_arguments S surf.no_pat none = refl
no_arguments S (surf.arg p ps) none = absurd (omega arith)

-- a head with its arguments
headed_stands : (S T : Signature) (n : ℕ) (x : Word) (args : surf.Pats) (o h : Option spec.Constructor) (qs : core.Pats) → h ≡ o → HasHead T (spec.count args) h → Stands S T n args qs
    → IsPattern T n (spec.headed h qs) × (binds (spec.headed h qs) ≡ length (spec.variable (spec.count args) x o ++ spec.bound_all S args))
headed_stands S T n x args o (Some c) qs is has s = (
  (subst (HasArguments T c.family c.number) (sym s.many) has, s.patterns),
  s.variables ∙ ap (λ o. length (spec.variable (spec.count args) x o ++ spec.bound_all S args)) is,
)
headed_stands S T n x args o None qs is has s = (
  tt,
  ap (λ xs. length (x.text ∷ xs)) (sym (no_arguments S args has))
      ∙ (ap (λ m. length ((if m == 0 then x.text ∷ [] else []) ++ spec.bound_all S args)) (sym has)
      ∙ ap (λ o. length (spec.variable (spec.count args) x o ++ spec.bound_all S args)) is),
)

mutual
  pub pattern_resolved : (S T : Signature) → IsPrefix S T → (known : Known) → IsKnown T known → (scope : Scope) (before : List (List ℕ)) (p : surf.Pat)
      → IfOk (spec.pattern S known scope before p) (StandsOne S T (length scope) p)
  pattern_resolved S T e known k scope before (surf.Name x) =
      and_then-has (λ h. (h ≡ spec.constructor S x.text) × HasHead T 0 h) (StandsOne S T (length scope) (surf.Name x)) (spec.head 0 before x (spec.constructor S x.text)) _
      (head_known T 0 before x (spec.constructor S x.text) (constructor_known S T e x.text))
      (λ h is.
      let s = headed_stands S T (length scope) x surf.no_pat (spec.constructor S x.text) h core.nil is.0 is.1 (record { patterns = tt; variables = refl; many = refl }) in
      record { pattern = s.0; variables = s.1 ∙ ap length (append-nil (spec.variable 0 x (spec.constructor S x.text))) })
  pattern_resolved S T e known k scope before surf.Wild = record { pattern = tt; variables = refl }
  pattern_resolved S T e known k scope before (surf.Dot t) =
      and_then-has (IsResolved T (length scope)) (StandsOne S T (length scope) (surf.Dot t)) (resolve known t scope) _ (term_resolved T known k t scope)
      (λ t h. record { pattern = h; variables = refl })
  pattern_resolved S T e known k scope before surf.Void = record { pattern = tt; variables = refl }
  pattern_resolved S T e known k scope before (surf.Con x args) =
      let after = before ++ spec.variable (spec.count args) x (spec.constructor S x.text) in
      and_then-has (λ h. (h ≡ spec.constructor S x.text) × HasHead T (spec.count args) h) (StandsOne S T (length scope) (surf.Con x args)) (spec.head (spec.count args) before x (spec.constructor S x.text)) _
      (head_known T (spec.count args) before x (spec.constructor S x.text) (constructor_known S T e x.text))
      (λ h is.
      and_then-has (Stands S T (length scope) args) (StandsOne S T (length scope) (surf.Con x args)) (spec.patterns S known scope after args) _
      (patterns_resolved S T e known k scope after args)
      (λ qs s.
      let stands = headed_stands S T (length scope) x args (spec.constructor S x.text) h qs is.0 is.1 s in
      record { pattern = stands.0; variables = stands.1 }))

  pub patterns_resolved : (S T : Signature) → IsPrefix S T → (known : Known) → IsKnown T known → (scope : Scope) (before : List (List ℕ)) (ps : surf.Pats)
      → IfOk (spec.patterns S known scope before ps) (Stands S T (length scope) ps)
  patterns_resolved S T e known k scope before surf.no_pat = record { patterns = tt; variables = refl; many = refl }
  patterns_resolved S T e known k scope before (surf.arg p ps) =
      and_then-has (StandsOne S T (length scope) p) (Stands S T (length scope) (surf.arg p ps)) (spec.pattern S known scope before p) _ (pattern_resolved S T e known k scope before p) (λ q x.
      and_then-has (Stands S T (length scope) ps) (Stands S T (length scope) (surf.arg p ps)) (spec.patterns S known scope (before ++ spec.bound S p) ps) _
      (patterns_resolved S T e known k scope (before ++ spec.bound S p) ps)
      (λ qs y. record {
        patterns = (x.pattern, y.patterns);
        variables = omega (arith, x.variables, y.variables, length-append (spec.bound S p) (spec.bound_all S ps));
        many = omega (arith, y.many);
      }))
