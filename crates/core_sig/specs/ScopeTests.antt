-- The test by which the numbers of a term have their entries.
use Rattle.std.specs.Prelude.{ℕ, Bool, true, false, ◌&&◌, nat_lt, Option, Some, length, slice_get}
use Rattle.theory.specs.Terms.{Term, Pi, Lam, App, Let, Const, Fam, Con, Elim}
use Rattle.theory.specs.Signatures.{Entry, FamilyOf, Definition, Signature}

abbrev pub is_constant : Option Entry → Bool
is_constant (Some (Definition name type body)) = true
is_constant _ = false

abbrev pub is_family : Option Entry → Bool
is_family (Some (FamilyOf f)) = true
is_family _ = false

-- the entry is a family with more than c constructors
abbrev pub has_constructor : ℕ → Option Entry → Bool
has_constructor c (Some (FamilyOf f)) = nat_lt c (length f.constructors)
has_constructor c _ = false

-- each constant, family and constructor number has its entry
abbrev pub has_entries : Signature → Term → Bool
has_entries S (Pi a b) = has_entries S a && has_entries S b
has_entries S (Lam a b) = has_entries S a && has_entries S b
has_entries S (App f a) = has_entries S f && has_entries S a
has_entries S (Let a t b) = has_entries S a && (has_entries S t && has_entries S b)
has_entries S (Const n) = is_constant (slice_get S.entries n)
has_entries S (Fam n) = is_family (slice_get S.entries n)
has_entries S (Con n c) = has_constructor c (slice_get S.entries n)
has_entries S (Elim n m) = is_family (slice_get S.entries n)
has_entries S _ = true
