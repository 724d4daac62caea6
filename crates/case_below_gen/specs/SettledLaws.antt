-- The settled drafts of course-of-values recursion: the entries on whose bodies the laws on computing are stated.
use Rattle.std.specs.Prelude.{◌≡◌, ℕ, Some, Ok, length, codes}
use Rattle.theory.specs.Families.{Family}
use Rattle.theory.specs.Signatures.{Signature, FamilyOf, Definition, IsEntryAt}
use Rattle.theory.specs.SignatureScopes.{IsScopedSignature}
use Rattle.core_sig.specs.Drafts.{Draft, generated_name}
use Rattle.core_sig.specs.FamilyShapes.{family_shape}
use Rattle.core_sig.specs.Names.{find}
use Rattle.core_sig.specs.Settling.{renumbered_entry, settled_number}
use Rattle.core_sig.specs.declared.entry.Found.TheVariants.{Entry}
use Rattle.case_below_gen.specs.declared.sides.Side.{Side}
use Rattle.case_below_gen.specs.CourseEntries.{course_of, aux_type, aux_term, aux_entry}
use Rattle.case_below_gen.specs.Projections.{side_entry_type, side_entry_term, side_mark, side_entry}

-- The draft of `D!aux.m` over S, settled over T, where `D!below.m` is the constant `below`.
abbrev pub AuxSettles : Type 0
AuxSettles =
    (S T : Signature) (n : ℕ) (f : Family) (m below : ℕ) (d : Draft) → IsScopedSignature S → IsEntryAt S n (FamilyOf f)
    → aux_entry (length S.entries) n f m ≡ Ok d → find T (generated_name f.name (codes "!below.") m) ≡ Some (Entry below)
    → renumbered_entry (settled_number T d.base d.names) d.entry ≡ Definition (generated_name f.name (codes "!aux.") m) (aux_type n (family_shape n f) (course_of (family_shape n f) m below)) (aux_term n (family_shape n f) (course_of (family_shape n f) m below))

-- The drafts of `D!rec.m` and `D!all.m` over S, settled over T, where `D!below.m` and `D!aux.m` are the constants `below` and `aux`.
abbrev pub SidesSettle : Type 0
SidesSettle =
    (side : Side) (S T : Signature) (n : ℕ) (f : Family) (m below aux : ℕ) (d : Draft) → IsScopedSignature S → IsEntryAt S n (FamilyOf f)
    → side_entry side (length S.entries) n f m ≡ Ok d
    → find T (generated_name f.name (codes "!below.") m) ≡ Some (Entry below) → find T (generated_name f.name (codes "!aux.") m) ≡ Some (Entry aux)
    → renumbered_entry (settled_number T d.base d.names) d.entry ≡ Definition (generated_name f.name (side_mark side) m) (side_entry_type side n (family_shape n f) (course_of (family_shape n f) m below)) (side_entry_term side n (family_shape n f) (course_of (family_shape n f) m below) aux)
