-- A term that is a constructor with all its arguments, as the code finds it.
use Rattle.std.proofs.Common.{◌≡◌, ℕ, Some, Result, Ok, List, refl, sym, subst}
use Rattle.std.proofs.lemmas.List.Elements.{All-drop}
use Rattle.std.specs.List.{All}
use Rattle.theory.specs.Spines.{spine_of}
use Rattle.theory.specs.Terms.{Term}
use Rattle.theory.specs.Signatures.{Signature}
use Rattle.theory.specs.SignatureScopes.{IsScoped}
use Rattle.theory.proofs.ScopedTerms.{spine-scoped}
use Rattle.core_terms.specs.Meanings.{tele_of}
use Rattle.core_terms.specs.Patterns as pattern
use Rattle.core_terms.specs.declared.stop.Stop.{Stop}
use Rattle.core_terms.specs.declared.term.Term as term
use Rattle.unification.specs.Built.{built_of}
use Rattle.problems.specs.CodeBuilt.{IfThere, IsBuiltAs, split_of, teles_of}
use Rattle.problems.specs.declared.built.Built.{Built}
use Rattle.problems.proofs.BuiltCodes.{code-of, code-there, from_code, of-built, split-rest}

module _ (S : Signature) (w : Term) (b : Built) (there : IfThere (IsBuiltAs b) (built_of S w)) where
  pub built-whole : built_of S w ≡ Some (from_code b w)
  built-whole = of-built S w b (code-of S w b there)

  pub is-as : IsBuiltAs b (from_code b w)
  is-as =
      let found = code-there b (built_of S w) there in
      record { n = refl; number = refl; family = refl; constructor = refl; kinds = found.2.kinds; there = found.2.there }

-- the arguments of a scoped term
pub arguments-scoped : (S : Signature) (n k : ℕ) (w : Term) (lists : List term.Term × List term.Term) → ◌≡◌ {A = Result (List Term × List Term) Stop} (Ok (teles_of lists)) (Ok (split_of k w))
    → IsScoped S n w → All (IsScoped S n) (tele_of lists.1)
arguments-scoped S n k w lists split h =
    subst (All (IsScoped S n)) (sym (split-rest lists k k w split refl)) (All-drop (IsScoped S n) k (spine_of w) (spine-scoped S n w h))
