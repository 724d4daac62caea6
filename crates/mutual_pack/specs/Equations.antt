-- The equation of a constructor c of member k: Mk!ind p P ms (c p a) = m_c a h, where h is Mi!ind p P ms at each recursive argument.
use Rattle.std.specs.Prelude.{ℕ, suc, ◌+◌, nat_le, nat_lt, ◌&&◌, if◌then◌else◌, cond, List, [], ◌∷◌, ◌++◌, length, map, get_or, Result, Ok, Err, option_and_then, slice_get}
use Rattle.std.specs.Option.{option_map_or}
use Rattle.theory.specs.Terms.{Term, Pi, Lam, App, Const}
use Rattle.theory.specs.Telescopes.{Telescope, applied}
use Rattle.theory.specs.Families.{Family}
use Rattle.theory.specs.Signatures.{Signature, Entry}
use Rattle.core_terms.specs.Answers.{is_low, are_low}
use Rattle.core_terms.specs.Levels.{variable, run, place}
use Rattle.core_terms.specs.Meanings.{tele_of, tree_of}
use Rattle.core_terms.specs.declared.term.Term as code
use Rattle.core_terms.specs.declared.stop.Stop.{Stop}
use Rattle.core_terms.specs.declared.stop.Stop.TheVariants.{Deep}
use Rattle.core_sig.specs.FamilyShapes.{family_shape}
use Rattle.core_sig.specs.Names.{find}
use Rattle.core_sig.specs.Settling.{entry_found}
use Rattle.core_sig.specs.Shapes.{ArgumentShape, Shape, types_of, by_kind}
use Rattle.mutual_pack.specs.declared.packed_family.PackedFamily.{PackedFamily}
use Rattle.mutual_pack.specs.MutualFamilies.{Packed}
use Rattle.mutual_pack.specs.Inductions.{packed_number, packed_numbers, name_of, member_in, at_inner, constructor_at, induction_telescope, induction_size, induction_name}

-- ---- numbers

-- the entry with a name in the signature
abbrev pub entry_named : Signature → (name : List ℕ) → ℕ
entry_named S name = option_map_or (λ n. n) (option_and_then entry_found (find S name)) 0

-- the constants Mi!ind of the members
abbrev pub inductions_in : Signature → (members : List Entry) → List ℕ
inductions_in S members = map (λ m. entry_named S (induction_name (name_of m))) members

-- how many of the owners come before a member
abbrev pub count_before : (member : ℕ) → (owners : List ℕ) → ℕ
count_before member [] = 0
count_before member (j ∷ owners) = cond (nat_lt j member) (count_before member owners + 1) (count_before member owners)

-- the constructor of the packed family that is constructor `con` of a member
abbrev pub constructor_number : (owners : List ℕ) (member con : ℕ) → ℕ
constructor_number owners member con = count_before member owners + con

-- ---- terms, where the constants Mi!ind are given

-- Mi!ind p P ms
abbrev pub induction_at : PackedFamily → (inductions : List ℕ) (i depth : ℕ) → Term
induction_at q inductions i depth = applied (Const (get_or inductions i 0)) (run depth 0 (induction_size q))

-- \inner. Mi!ind p P ms (r inner), from the type (inner) -> S p ti of the argument with the level r, which has `count` inner arguments,
-- whose levels begin with `start`
abbrev pub recursion_from : PackedFamily → (inductions : List ℕ) (runs : List (ℕ × ℕ)) (size depth r start count : ℕ) → Term → Term
recursion_from q inductions runs size depth r start (suc count) (Pi a b) =
    Lam (place runs size depth a) (recursion_from q inductions runs (size + 1) (depth + 1) r start count b)
recursion_from q inductions runs size depth r start _ t = App (induction_at q inductions (member_in t) depth) (at_inner r start depth)

-- that for argument `at` of a constructor whose arguments' levels begin with `first`; a type with more than 2,000 inner arguments stays
-- as it is, since no answer has it
abbrev pub recursion_at : PackedFamily → (inductions : List ℕ) (first at depth count : ℕ) → Term → Term
recursion_at q inductions first at depth count t =
    if nat_le count 2000
    then recursion_from q inductions ((0, q.params) ∷ (first, at) ∷ (depth, count) ∷ []) (q.params + at) depth (first + at) depth count t
    else t

-- `head` applied to that for argument `at`, where it is recursive
abbrev pub applied_to_recursion : PackedFamily → (inductions : List ℕ) (first at depth : ℕ) → Term → ArgumentShape → Term
applied_to_recursion q inductions first at depth head a =
    by_kind a.kind head (λ count. App head (recursion_at q inductions first at depth count a.type))

-- `head` applied to that for each recursive one among arguments after `at` others
abbrev pub applied_to_recursions : PackedFamily → (inductions : List ℕ) (first at depth : ℕ) → Term → List ArgumentShape → Term
applied_to_recursions q inductions first at depth head [] = head
applied_to_recursions q inductions first at depth head (a ∷ arguments) =
    applied_to_recursions q inductions first (at + 1) depth (applied_to_recursion q inductions first at depth head a) arguments

-- a telescope of a record, at a depth: each type is over one variable of the record more than the one before it
abbrev pub places : (runs : List (ℕ × ℕ)) (size depth : ℕ) → Telescope → Telescope
places runs size depth [] = []
places runs size depth (a ∷ tele) = place runs size depth a ∷ places runs (size + 1) (depth + 1) tele

-- (p) (P) methods (Ac)
abbrev pub equation_telescope : PackedFamily → (owners : List ℕ) → Shape → List ArgumentShape → Telescope
equation_telescope q owners f arguments =
    let x = induction_size q in
    induction_telescope q owners f ++ places ((0, q.params) ∷ (x, length arguments) ∷ []) q.params x (types_of arguments)

-- Mk!ind p P ms (c p a), for c with `count` arguments
abbrev pub left_side : PackedFamily → (inductions : List ℕ) (k number count : ℕ) → Term
left_side q inductions k number count =
    let x = induction_size q in
    App (induction_at q inductions k (x + count)) (constructor_at q number x count (x + count))

-- m_c a h
abbrev pub right_side : PackedFamily → (inductions : List ℕ) (number : ℕ) → List ArgumentShape → Term
right_side q inductions number arguments =
    let x = induction_size q in
    let depth = x + length arguments in
    applied_to_recursions q inductions x 0 depth
    (applied (variable depth (q.params + q.members + number)) (run depth x (length arguments))) arguments

abbrev pub sides_of : List code.Term × code.Term × code.Term → Telescope × Term × Term
sides_of sides = (tele_of sides.0, tree_of sides.1, tree_of sides.2)

-- a telescope and two terms, or Deep where one of them is too high
abbrev pub bounded_sides : Telescope → (left right : Term) → Result (Telescope × Term × Term) Stop
bounded_sides tele left right = cond (are_low tele && (is_low left && is_low right)) (Ok (tele, left, right)) (Err Deep)

-- the equation of the constructor with a number, as one of member k
abbrev pub equation_of : PackedFamily → (owners inductions : List ℕ) → Shape → (k number : ℕ) → List ArgumentShape → Result (Telescope × Term × Term) Stop
equation_of q owners inductions f k number arguments =
    bounded_sides (equation_telescope q owners f arguments) (left_side q inductions k number (length arguments)) (right_side q inductions number arguments)

-- the arguments of the constructor with a number, if it is there
abbrev pub arguments_of : Shape → (number : ℕ) → List ArgumentShape
arguments_of f number = option_map_or (λ c. c.arguments) (slice_get f.constructors number) []

abbrev pub induction_equation_of_shape : Signature → Packed → Shape → (member con : ℕ) → Result (Telescope × Term × Term) Stop
induction_equation_of_shape S packed f member con =
    let number = constructor_number packed.owners member con in
    equation_of (packed_numbers packed f) packed.owners (inductions_in S packed.members) f member number
    (arguments_of f number)

-- the equation of constructor `con` of a member, both counted from 0, where the entries Mk!ind are in the signature
abbrev pub induction_equation : Signature → Packed → Family → (member con : ℕ) → Result (Telescope × Term × Term) Stop
induction_equation S packed f member con =
    induction_equation_of_shape S packed (family_shape (packed_number packed) f) member con
