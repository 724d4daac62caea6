-- Constructors on both sides, which are to be injected, are of the signature, and their arguments are terms of the context.
use Rattle.std.proofs.Common.{◌≡◌, ℕ, List, [], ◌∷◌, drop, sym, subst}
use Rattle.theory.specs.Signatures.{Signature}
use Rattle.theory.specs.Spines.{spine_of}
use Rattle.theory.specs.Terms.{Term}
use Rattle.core_terms.specs.Meanings.{tele_of}
use Rattle.core_terms.specs.declared.term.Term as code
use Rattle.unification.specs.Built.{built_of}
use Rattle.unification.specs.ScopedStates.{IsReady}
use Rattle.problems.specs.CodeBuilt.{IfThere, IsBuiltAs, IsInjected, IsKnown}
use Rattle.problems.specs.Conditions.{AreGiven, IsGiven}
use Rattle.problems.specs.declared.built.Built.{Built}
use Rattle.problems.proofs.BuiltCodes.{code-of, code-there}
use Rattle.problems.proofs.GivenTerms.{drop-given, spine-given}

-- the constructor is one of the signature in which it was found
pub known-of : (S : Signature) (t : Term) (b : Built) → IsReady S → IfThere (IsBuiltAs b) (built_of S t) → IsKnown b
known-of S t b ready there =
    let found = code-there b (built_of S t) there in
    record { S = S; ready = ready; family = (code-of S t b there).family; kinds = (found.2).kinds; there = (found.2).there }

-- both sides are terms of the context
pub sides-known : (S : Signature) (n : ℕ) (l r : Term) (b : Built) (ps : List Term) → IsReady S → IfThere (IsBuiltAs b) (built_of S l)
    → AreGiven S n ps → IsGiven S n l → IsGiven S n r → IsInjected b n ps (l ∷ []) (r ∷ [])
unfolding known-of
sides-known S n l r b ps ready there hp hl hr =
    record { known = known-of S l b ready there; parameters = hp; left = (hl, tt); right = (hr, tt) }

-- and so are their arguments
pub arguments-known : (n count : ℕ) (l r : Term) (b : Built) (ps : List Term) (us vs : List code.Term) → IsInjected b n ps (l ∷ []) (r ∷ [])
    → tele_of us ≡ drop count (spine_of l) → tele_of vs ≡ drop count (spine_of r) → IsInjected b n ps (tele_of us) (tele_of vs)
arguments-known n count l r b ps us vs h eu ev =
    let S = h.known.S in
    record {
      known = h.known;
      parameters = h.parameters;
      left = subst (AreGiven S n) (sym eu) (drop-given S n count (spine_of l) (spine-given S n l h.left.0));
      right = subst (AreGiven S n) (sym ev) (drop-given S n count (spine_of r) (spine-given S n r h.right.0));
    }
