-- The entries that an entry adds to the signature when it enters.
use Rattle.std.specs.Prelude.{◌≡◌, ℕ, Bool, true, false, List, length}
use Rattle.std.specs.List.{list_any}
use Rattle.theory.specs.Terms.{Term}
use Rattle.theory.specs.Families.{Family}
use Rattle.theory.specs.Signatures.{EliminatorAt, AxiomKAt, Definition, FamilyOf, Signature}
use Rattle.theory.specs.WellFormed.{pushed}
use Rattle.core_sig.specs.Instances.{is_eliminator, is_axiom_k}
use Rattle.core_sig.specs.Raw.{RawFamily}
use Rattle.core_text.specs.RawEntries.{RawEntry, RawFamilyOf, RawEliminator, RawAxiomK, RawDefinition}
use Rattle.family_check.specs.Laws.{IsAsDeclared}

-- the signature S with one entry more, the one that is given; the levels that a family keeps are not given
pub data Adds (S : Signature) : RawEntry → Signature → Type 0 where
  family : (raw : RawFamily) (f : Family) → IsAsDeclared (length S.entries) raw f → Adds S (RawFamilyOf raw) (pushed S (FamilyOf f))
  eliminator : (n m : ℕ) → Adds S (RawEliminator n m) (pushed S (EliminatorAt n m))
  axiom_k : (i m : ℕ) → Adds S (RawAxiomK i m) (pushed S (AxiomKAt i m))
  definition : (name : List ℕ) (type body : Term) → Adds S (RawDefinition name type body) (pushed S (Definition name type body))

-- the entry is an instance that the signature has
abbrev pub has_instance : Signature → RawEntry → Bool
has_instance S (RawEliminator n m) = list_any (is_eliminator n m) S.entries
has_instance S (RawAxiomK i m) = list_any (is_axiom_k i m) S.entries
has_instance S _ = false

-- An entry that was accepted is added. An instance is there once: where the signature has it already, nothing is added.
pub record IsAdded (S : Signature) (raw : RawEntry) (T : Signature) : Type 0 where
  pub added : has_instance S raw ≡ false → Adds S raw T
  pub there : has_instance S raw ≡ true → T ≡ S
