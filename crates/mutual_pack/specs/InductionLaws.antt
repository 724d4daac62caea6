-- Induction computes: `Mk!ind` unfolds to the eliminator of the packed family.
use Rattle.std.specs.Prelude.{ℕ, ◌≤◌, ◌<◌, List, length, get_or}
use Rattle.theory.specs.Terms.{Term, App, Con}
use Rattle.theory.specs.Signatures.{Signature, HasClosedBodies}
use Rattle.theory.specs.Conversion.{Converts}
use Rattle.core_sig.specs.Shapes.{Shape}
use Rattle.case_below_gen.specs.CourseLaws.{HasBody}
use Rattle.mutual_pack.specs.Equations.{induction_at}
use Rattle.mutual_pack.specs.Inductions.{packed_numbers, induction_size, eliminated, induction_term}
use Rattle.mutual_pack.specs.MutualFamilies.{Packed}

-- The signature has `T!case.(l+1)` as the constant `analysis`, and the inductions of the members of a packed family, which has a shape, as
-- constants that mention it.
pub record HasInductions (S : Signature) (packed : Packed) (f : Shape) (analysis : ℕ) (inductions : List ℕ) : Type 0 where
  pub bodies : HasClosedBodies S
  pub entries : (k : ℕ) → k < length packed.members → HasBody S (get_or inductions k 0) (induction_term (packed_numbers packed f) packed.owners f analysis k)

-- Mk!ind p P ms x converts to S!elim.l p (\t s. T!case.(l+1) (\t. S p t -> Type l) P1 .. Pn t s) ms tk x, at each depth behind p, P and ms.
abbrev pub InductionUnfolds : Type 0
InductionUnfolds =
    (S : Signature) (packed : Packed) (f : Shape) (analysis : ℕ) (inductions : List ℕ) → HasInductions S packed f analysis inductions
    → (k depth : ℕ) (x : Term) → k < length packed.members → let q = packed_numbers packed f in induction_size q ≤ depth
    → Converts S (App (induction_at q inductions k depth) x) (App (App (eliminated q analysis depth) (Con q.tag k)) x)
