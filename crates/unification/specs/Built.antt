-- Constructors with all their arguments.
use Rattle.std.specs.Prelude.{ℕ, ◌+◌, ◌-◌, Bool, true, false, ◌==◌, nat_le, cond, Option, Some, None, option_and_then, List, [], ◌++◌, length, take, drop, slice_get}
use Rattle.theory.specs.Terms.{Term, Con, top}
use Rattle.theory.specs.Telescopes.{applied}
use Rattle.theory.specs.Spines.{head_of, spine_of}
use Rattle.theory.specs.Families.{Argument, Recursive, Family, Constructor}
use Rattle.theory.specs.Signatures.{Signature}
use Rattle.kernel_reduce.specs.Entries.{family_at}

-- constructor `number` of family n with its record, at its parameters and its arguments
pub record Built : Type 0 where
  pub n : ℕ
  pub number : ℕ
  pub family : Family
  pub constructor : Constructor
  pub parameters : List Term
  pub arguments : List Term

-- the term that it is
abbrev pub term_of : Built → Term
term_of b = applied (Con b.n b.number) (b.parameters ++ b.arguments)

abbrev pub with_all : (n number : ℕ) → Family → List Term → Constructor → Option Built
with_all n number f us c =
    let count = length f.parameters in
    cond (length us == count + length c.arguments)
    (Some (record { n = n; number = number; family = f; constructor = c; parameters = take count us; arguments = drop count us }))
    None

abbrev pub with_spine : Signature → Term → List Term → Option Built
with_spine S (Con n number) us =
    option_and_then (λ f. option_and_then (with_all n number f us) (slice_get f.constructors number)) (family_at S n)
with_spine S h us = None

-- a term as a constructor with all its arguments
abbrev pub built_of : Signature → Term → Option Built
built_of S t = with_spine S (head_of t) (spine_of t)

-- no confusion and acyclicity are made of families up to this level
abbrev pub greatest_level : ℕ
greatest_level = top - 2

abbrev pub is_fitting : Family → Bool
is_fitting f = nat_le f.level greatest_level

abbrev pub has_no_indices : Family → Bool
has_no_indices f = length f.indices == 0

-- The type of the argument is exactly the family, where this has no indices.
abbrev pub is_direct : Argument → Bool
is_direct (Recursive [] targets level) = true
is_direct _ = false
