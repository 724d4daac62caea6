-- Places, computed: what a line says by its spelling, how it goes on, and what is looked at where a text is refused.
use Rattle.std.proofs.Common.{◌≡◌, ◌⊎◌, inl, inr, true, false, [], ◌∷◌, length, refl, arith}
use Rattle.std.specs.Prelude.{codes, Err}
use Rattle.std.specs.Fmt.{digits}
use Rattle.std.specs.Str.{is_utf8, chars}
use Rattle.std.proofs.lemmas.Bool.{false≢true}
use Rattle.unicode_ident.proofs.Computing.{unicode_ident}
use Rattle.theory.specs.Terms.{Var, Sort, Fam}
use Rattle.theory.specs.Signatures.{Signature}
use Rattle.theory.specs.SignatureScopes.{IsFamilyNumber}
use Rattle.core_sig.specs.Raw.{RawFamily}
use Rattle.core_text.specs.EntryReading.{entry_from}
use Rattle.core_text.specs.LineLaws.{no_note}
use Rattle.core_text.specs.LineReading.{nested}
use Rattle.core_text.specs.Places.{GoesOn, first_character, first_name, IsPlace}
use Rattle.core_text.specs.RawEntries.{RawFamilyOf, RawDefinition, shows_record}
use Rattle.core_text.specs.Spellings.{raw_line, IsNewName}
use Rattle.core_text.specs.declared.stop.CoreTextStop.TheVariants.{NotCoreText}
use Rattle.core_text.proofs.PlacesFirst.{places-are-first}
use Rattle.core_text.proofs.Over.{IsTermOver, IsFamilyOver}

abbrev nothing : Signature
nothing = record { entries = []; has_k = false }

-- ---- characters and names

-- `é`, of two bytes, and the first of them alone
whole_character : first_character (195 ∷ 169 ∷ codes " : ") ≡ 195 ∷ 169 ∷ []
whole_character = refl

cut_character : first_character (195 ∷ []) ≡ 195 ∷ []
cut_character = refl

no_character : first_character [] ≡ []
no_character = refl

name_in_parentheses : first_name (codes "let) = ") ≡ (codes "let", codes ")")
unfolding is_utf8 chars unicode_ident lib.Utf8.encode
name_in_parentheses = refl

no_name : first_name (codes "%0)") ≡ ([], codes "%")
unfolding is_utf8 chars unicode_ident lib.Utf8.encode
no_name = refl

-- ---- lines by their spelling

definition_line : raw_line nothing (RawDefinition (codes "t") (Sort 1) (Sort 0)) ≡ codes "def t : Type 1 = Type 0\n"
unfolding digits
definition_line = refl

-- a family that shows a record, and one that shows none
point : RawFamily
point = record { name = codes "D"; parameters = []; type = Sort 0; constructors = record { name = codes "c"; type = Fam 0 } ∷ [] }

no_sort : RawFamily
no_sort = record { name = codes "D"; parameters = []; type = Sort 0; constructors = record { name = codes "c"; type = Sort 0 } ∷ [] }

family_line : raw_line nothing (RawFamilyOf point) ≡ codes "data D : Type 0 { c : D }\n"
unfolding point digits
family_line = refl

line_of_no_record : raw_line nothing (RawFamilyOf no_sort) ≡ codes "data D : Type 0 { c : Type 0 }\n"
unfolding no_sort digits
line_of_no_record = refl

shows_none : shows_record 0 no_sort ≡ false
unfolding no_sort
shows_none = refl

-- both are spelled right
family_name_is_new : IsNewName nothing [] [] (codes "D")
unfolding is_utf8 chars unicode_ident lib.Utf8.encode
family_name_is_new = record { chars = refl; shape = refl; may = refl }

constructor_name_is_new : IsNewName nothing (codes "D") [] (codes "c")
unfolding is_utf8 chars unicode_ident lib.Utf8.encode
constructor_name_is_new = record { chars = refl; shape = refl; may = refl }

point_is_spelled : IsFamilyOver nothing point
unfolding point
point_is_spelled = record {
  name = family_name_is_new;
  parameters = tt;
  type = record { symbols = omega arith; free = omega arith };
  constructors = (constructor_name_is_new, record { symbols = inr (refl, refl); free = omega arith }, tt);
}

no_record_is_spelled : IsFamilyOver nothing no_sort
unfolding no_sort
no_record_is_spelled = record {
  name = family_name_is_new;
  parameters = tt;
  type = record { symbols = omega arith; free = omega arith };
  constructors = (constructor_name_is_new, record { symbols = omega arith; free = omega arith }, tt);
}

-- under no binder there is no variable
no_variable : IsTermOver nothing false 0 (Var 0) → ⊥
no_variable over = absurd (omega (arith, over.free))

-- and the family that is declared is a symbol in its constructors' types alone
no_family : IsTermOver nothing false 0 (Fam 0) → ⊥
no_family over = none over.symbols
  where
    none : IsFamilyNumber nothing 0 ⊎ ((false ≡ true) × (0 ≡ length nothing.entries)) → ⊥
    none (inl family) = absurd (let there = family.1 in cc)
    none (inr own) = false≢true own.0

-- ---- texts that go on, and places

family_goes_on : GoesOn nothing (codes "data D : Type 0 { c : ")
unfolding point digits
family_goes_on = record {
  more = codes "D }\n";
  notes = [];
  entry = RawFamilyOf point;
  are_notes = no_note;
  over = point_is_spelled;
  line = refl;
}

percent : entry_from nothing (codes "def t : %") 0 ≡ Err (NotCoreText 8)
unfolding is_utf8 chars unicode_ident lib.Utf8.encode nested
percent = refl

percent_is_first : IsPlace nothing (codes "def t : %") 0 8
percent_is_first = places-are-first nothing (codes "def t : %") 0 8 (omega arith) (omega arith) percent
