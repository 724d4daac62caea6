-- The conditions of the choice of a position: terms that are not too high, with few variables.
use Rattle.std.specs.Prelude.{◌≤◌, List, [], ◌∷◌, length}
use Rattle.theory.specs.Terms.{Term}
use Rattle.tele_eq.specs.Items.{IsSmall, AreSmallTerms}
use Rattle.tree_translation.specs.structural_rec.Uses.{Use}

-- at most 2,000 types, each of them small
pub record IsSmallTelescope (tele : List Term) : Type 0 where
  pub few : length tele ≤ 2000
  pub small : AreSmallTerms tele

abbrev pub AreSmallUses : List Use → Type 0
AreSmallUses [] = Unit {0}
AreSmallUses (u ∷ uses) = (AreSmallTerms u.terms × IsSmall u.body) × AreSmallUses uses
