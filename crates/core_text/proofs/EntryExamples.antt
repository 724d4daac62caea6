-- Reading entries, computed: the entries that lines show, and the offsets at which other lines are wrong.
use Rattle.std.proofs.Common.{◌≡◌, false, [], ◌∷◌, refl}
use Rattle.std.specs.Prelude.{codes, Some, None, Ok, Err}
use Rattle.std.specs.Str.{is_utf8, chars}
use Rattle.unicode_ident.proofs.Computing.{unicode_ident}
use Rattle.theory.specs.Terms.{Var, Sort, Pi, App, Fam, Con}
use Rattle.theory.specs.Families.{Recursive}
use Rattle.theory.specs.Signatures.{Signature, FamilyOf}
use Rattle.core_text.specs.EntryReading.{entry_from}
use Rattle.core_text.specs.LineReading.{nested}
use Rattle.core_text.specs.RawEntries.{RawFamilyOf}
use Rattle.core_text.specs.declared.stop.CoreTextStop.TheVariants.{NotCoreText}

abbrev nothing : Signature
nothing = record { entries = []; has_k = false }

abbrev with_nat : Signature
with_nat = record {
  entries = FamilyOf (record {
    name = codes "Nat";
    parameters = [];
    indices = [];
    level = 0;
    constructors = record { name = codes "zero"; arguments = []; targets = [] }
        ∷ record { name = codes "suc"; arguments = Recursive [] [] 0 ∷ []; targets = [] }
        ∷ [];
  }) ∷ [];
  has_k = false;
}

end : entry_from nothing (codes "# a\n#\n") 0 ≡ Ok None
end = refl

open_note : entry_from nothing (codes "# a\n# b") 0 ≡ Err (NotCoreText 7)
open_note = refl

nat : entry_from nothing (codes "data Nat : Type 0 { zero : Nat ; suc : (Nat -> Nat) }\n") 0
    ≡ Ok (Some (
      RawFamilyOf (record {
        name = codes "Nat";
        parameters = [];
        type = Sort 0;
        constructors = record { name = codes "zero"; type = Fam 0 } ∷ record { name = codes "suc"; type = Pi (Fam 0) (Fam 0) } ∷ [];
      }),
      54,
    ))
unfolding is_utf8 chars unicode_ident lib.Utf8.encode nested
nat = refl

vec : entry_from with_nat (codes "data Vec (Type 0) : (Nat -> Type 0) { nil : (Vec %0 zero) ; cons : (Nat -> (%1 -> ((Vec %2 %1) -> (Vec %3 (suc %2))))) }\n") 0
    ≡ Ok (Some (
      RawFamilyOf (record {
        name = codes "Vec";
        parameters = Sort 0 ∷ [];
        type = Pi (Fam 0) (Sort 0);
        constructors = record { name = codes "nil"; type = App (App (Fam 1) (Var 0)) (Con 0 0) }
            ∷ record { name = codes "cons"; type = Pi (Fam 0) (Pi (Var 1) (Pi (App (App (Fam 1) (Var 2)) (Var 1)) (App (App (Fam 1) (Var 3)) (App (Con 0 1) (Var 2))))) }
            ∷ [];
      }),
      121,
    ))
unfolding is_utf8 chars unicode_ident lib.Utf8.encode nested
vec = refl

-- a name that is cut off is unknown at its first byte
cut_off : entry_from nothing (codes "data Nat : Ty") 0 ≡ Err (NotCoreText 11)
unfolding is_utf8 chars unicode_ident lib.Utf8.encode nested
cut_off = refl

-- the constructor's type does not end in the family at its parameter
no_record : entry_from nothing (codes "data D (Type 0) : Type 0 { c : (D D) }\n") 0 ≡ Err (NotCoreText 0)
unfolding is_utf8 chars unicode_ident lib.Utf8.encode nested
no_record = refl
