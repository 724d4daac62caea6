-- The entry with a number in a signature.
use Rattle.std.specs.Prelude.{ℕ, Bool, false, cond, ◌==◌, Option, Some, None, option_and_then, slice_get}
use Rattle.theory.specs.Terms.{Term, Const}
use Rattle.theory.specs.Families.{Family, Constructor}
use Rattle.theory.specs.Signatures.{Entry, FamilyOf, Definition, Signature}

abbrev pub is_constant : ℕ → Term → Bool
is_constant n (Const c) = c == n
is_constant n _ = false

abbrev pub body_in : ℕ → Entry → Option Term
body_in n (Definition name type body) = cond (is_constant n body) None (Some body)
body_in n _ = None

-- the body of a constant, or None where the number has no definition, or a provisional one
abbrev pub body_at : Signature → ℕ → Option Term
body_at S n = option_and_then (body_in n) (slice_get S.entries n)

abbrev pub family_in : Entry → Option Family
family_in (FamilyOf f) = Some f
family_in _ = None

-- the family with an entry number
abbrev pub family_at : Signature → ℕ → Option Family
family_at S n = option_and_then family_in (slice_get S.entries n)

-- constructor `number` of family n
abbrev pub constructor_at : Signature → ℕ → ℕ → Option Constructor
constructor_at S n number = option_and_then (λ f. slice_get f.constructors number) (family_at S n)
