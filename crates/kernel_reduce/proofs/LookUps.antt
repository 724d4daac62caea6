-- Consequences of tests and look-ups.
use Rattle.std.proofs.Common.{◌≡◌, ℕ, Bool, true, false, ◌&&◌, Option, Some, None, option_and_then, slice_get, refl, arith}
use Rattle.theory.specs.Families.{Family}
use Rattle.theory.specs.Signatures.{Entry, FamilyOf, EliminatorAt, AxiomKAt, Definition, Signature, IsEntryAt}
use Rattle.kernel_reduce.specs.Entries.{family_in, family_at}

pub both-true : (a b : Bool) → (a && b) ≡ true → (a ≡ true) × (b ≡ true)
both-true true b h = (refl, h)
both-true false b h = absurd (grind arith)

family-in : (o : Option Entry) (f : Family) → option_and_then family_in o ≡ Some f → o ≡ Some (FamilyOf f)
family-in (Some (FamilyOf f)) g e = grind arith
family-in (Some (EliminatorAt n m)) g e = grind arith
family-in (Some (AxiomKAt i m)) g e = grind arith
family-in (Some (Definition name type body)) g e = grind arith
family-in None g e = grind arith

-- the signature has each family that is found
pub family-found : (S : Signature) (n : ℕ) (f : Family) → family_at S n ≡ Some f → IsEntryAt S n (FamilyOf f)
family-found S n f e = family-in (slice_get S.entries n) f e
