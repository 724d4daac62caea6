-- The equations of the inductions of families that refer to each other: both sides of each are compared, member by member and constructor
-- by constructor, and each has one line.
use Rattle.std.specs.Prelude.{ℕ, ◌+◌, Bool, cond, Option, Some, None, List, [], ◌∷◌, map, flat_map, Result, Ok, Err}
use Rattle.theory.specs.Families.{Family}
use Rattle.theory.specs.Terms.{Term}
use Rattle.theory.specs.Telescopes.{Telescope}
use Rattle.theory.specs.Signatures.{Signature}
use Rattle.core_terms.specs.Answers.{and_next}
use Rattle.core_terms.specs.declared.stop.Stop.{Stop}
use Rattle.core_terms.specs.declared.stop.Stop.TheVariants.{Deep}
use Rattle.core_sig.specs.Raw.{RawConstructor, RawMember}
use Rattle.kernel_reduce.specs.Comparison.{convertible_of}
use Rattle.kernel_reduce.specs.Entries.{family_at}
use Rattle.kernel_reduce.specs.Reduction.{nesting}
use Rattle.elab_session.specs.Entering.{Declaring, answers}
use Rattle.elab_session.specs.Refusals.{stopped}
use Rattle.elab_session.specs.declared.refusal.Refusal.{Refusal}
use Rattle.function_session.specs.mutual_families.Refusals.{or_refused, refused_with, unequal}
use Rattle.mutual_pack.specs.Equations.{induction_equation}
use Rattle.mutual_pack.specs.Inductions.{packed_number}
use Rattle.mutual_pack.specs.MutualFamilies.{Packed}

-- the equation of constructor `con` of member k, where the signature has the packed family
abbrev pub equation_over : Signature → Packed → Option Family → (k con : ℕ) → Result (Telescope × Term × Term) Stop
equation_over S packed (Some f) k con = induction_equation S packed f k con
equation_over S packed None k con = Err Deep

abbrev pub equation_of : Signature → Packed → (k con : ℕ) → Result (Telescope × Term × Term) Stop
equation_of S packed k con = equation_over S packed (family_at S (packed_number packed)) k con

abbrev pub unless_unequal : Signature → (member con : List ℕ) → Telescope × Term × Term → Bool → Result (Unit {0}) Refusal
unless_unequal S member con sides equal = cond equal (Ok tt) (Err (unequal S member con sides))

-- the sides of the equation of a member's constructor convert
abbrev pub sides_compared : Signature → (fuel : ℕ) → (member name : List ℕ) → Telescope × Term × Term → ℕ → Declaring (Unit {0})
sides_compared S fuel member name sides left =
    and_next (refused_with (stopped fuel) (convertible_of S nesting sides.1 sides.2 left)) (λ equal end. answers (unless_unequal S member name sides equal) end)

-- its sides convert, where these are the names of the member and of the constructor
abbrev pub equation_checked : Signature → (fuel : ℕ) → Packed → (k con : ℕ) → (member name : List ℕ) → ℕ → Declaring (Unit {0})
equation_checked S fuel packed k con member name left =
    and_next (answers (or_refused (stopped fuel) (equation_of S packed k con)) left) (λ sides rest. sides_compared S fuel member name sides rest)

-- those of the constructors of member k from number `con` on
abbrev pub constructors_checked : Signature → (fuel : ℕ) → Packed → (k con : ℕ) → (member : List ℕ) → List RawConstructor → ℕ → Declaring (Unit {0})
constructors_checked S fuel packed k con member [] left = answers (Ok tt) left
constructors_checked S fuel packed k con member (c ∷ constructors) left =
    and_next (equation_checked S fuel packed k con member c.name left) (λ one rest. constructors_checked S fuel packed k (con + 1) member constructors rest)

-- those of the members from k on
abbrev pub equations_checked : Signature → (fuel : ℕ) → Packed → (k : ℕ) → List RawMember → ℕ → Declaring (Unit {0})
equations_checked S fuel packed k [] left = answers (Ok tt) left
equations_checked S fuel packed k (m ∷ members) left =
    and_next (constructors_checked S fuel packed k 0 m.name m.constructors left) (λ one rest. equations_checked S fuel packed (k + 1) members rest)

-- the names of a line: a member, and one of its constructors
abbrev pub MutualLine : Type 0
MutualLine = List ℕ × List ℕ

abbrev pub member_lines : RawMember → List MutualLine
member_lines m = map (λ c. (m.name, c.name)) m.constructors

-- one line for each constructor, in the written order
abbrev pub mutual_lines : List RawMember → List MutualLine
mutual_lines members = flat_map member_lines members
