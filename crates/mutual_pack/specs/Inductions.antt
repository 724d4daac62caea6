-- Induction over families that refer to each other: `Mk!ind` proves a motive for each member from a method for each constructor, and is
-- the eliminator of the packed family S at a motive that selects by the tag. Variables are by level: first the parameters p, then the
-- motives P1 .. Pn, then the methods.
use Rattle.std.specs.Prelude.{ℕ, zero, suc, ◌+◌, ◌-◌, nat_le, if◌then◌else◌, List, [], ◌∷◌, ◌++◌, length, get_or, Result, Ok, codes}
use Rattle.theory.specs.Terms.{Term, Sort, Pi, Lam, App, Const, Fam, Con, Elim}
use Rattle.theory.specs.Telescopes.{Telescope, products, functions, applied}
use Rattle.theory.specs.Families.{Family}
use Rattle.theory.specs.Signatures.{Entry, Definition}
use Rattle.core_terms.specs.Answers.{and_then}
use Rattle.core_terms.specs.Levels.{variable, run, place, over}
use Rattle.core_terms.specs.declared.levels.Binder.TheVariants.{Product}
use Rattle.core_terms.specs.declared.stop.Stop.{Stop}
use Rattle.core_sig.specs.ByLevels.{family_at}
use Rattle.core_sig.specs.Drafts.{Draft, drafted, generated_name}
use Rattle.core_sig.specs.FamilyShapes.{family_shape}
use Rattle.core_sig.specs.Shapes.{ArgumentShape, ConstructorShape, Shape, types_of, by_kind, recursive_count}
use Rattle.mutual_pack.specs.declared.packed_family.PackedFamily.{PackedFamily}
use Rattle.mutual_pack.specs.MutualFamilies.{Packed}

-- ---- what is packed

abbrev pub family_number : Term → ℕ
family_number (Fam n) = n
family_number t = 0

abbrev pub sort_level : Term → ℕ
sort_level (Sort l) = l
sort_level t = 0

-- the number of T, from the type T -> Type l of the packed family
abbrev pub tag_number : Term → ℕ
tag_number (Pi a b) = family_number a
tag_number t = 0

-- the level l
abbrev pub level_in : Term → ℕ
level_in (Pi a b) = sort_level b
level_in t = 0

-- with a shape, which it has in the signature
abbrev pub packed_numbers : Packed → Shape → PackedFamily
packed_numbers packed f = record {
  tag = tag_number packed.family.type;
  params = length f.parameters;
  members = length packed.members;
  constructors = length f.constructors;
  level = level_in packed.family.type;
}

-- the number of S
abbrev pub packed_number : Packed → ℕ
packed_number packed = tag_number packed.family.type + 1

abbrev pub number_of : PackedFamily → ℕ
number_of q = q.tag + 1

abbrev pub name_of : Entry → List ℕ
name_of (Definition name type body) = name
name_of e = []

-- ---- types

-- Mk p, for a member k that is counted from 0
abbrev pub member_type : PackedFamily → (k depth : ℕ) → Term
member_type q k depth = applied (Const (q.tag + 2 + k)) (run depth 0 q.params)

-- S p t, for a tag t with a level
abbrev pub packed_at : PackedFamily → (t depth : ℕ) → Term
packed_at q t depth = family_at (number_of q) q.params depth t 1

-- Pk
abbrev pub motive : PackedFamily → (k depth : ℕ) → Term
motive q k depth = variable depth (q.params + k)

-- Mk p -> Type l
abbrev pub motive_type : PackedFamily → (k depth : ℕ) → Term
motive_type q k depth = Pi (member_type q k depth) (Sort q.level)

-- those of `count` members from k on
abbrev pub motive_types : PackedFamily → (k depth count : ℕ) → Telescope
motive_types q k depth zero = []
motive_types q k depth (suc count) = motive_type q k depth ∷ motive_types q (k + 1) (depth + 1) count

abbrev pub constructor_in : Term → ℕ
constructor_in (Con n i) = i
constructor_in t = 0

-- the member i of a type S p ti
abbrev pub member_in : Term → ℕ
member_in (App f a) = constructor_in a
member_in t = 0

-- r inner, for the argument with the level r, where the levels of `inner` begin with `start` and end before `depth`
abbrev pub at_inner : (r start depth : ℕ) → Term
at_inner r start depth = applied (variable depth r) (run depth start (depth - start))

-- (inner) -> Pi (r inner), from the type (inner) -> S p ti of the argument with the level r, which has `count` inner arguments, whose
-- levels begin with `start`
abbrev pub hypothesis_from : PackedFamily → (runs : List (ℕ × ℕ)) (size depth r start count : ℕ) → Term → Term
hypothesis_from q runs size depth r start (suc count) (Pi a b) =
    Pi (place runs size depth a) (hypothesis_from q runs (size + 1) (depth + 1) r start count b)
hypothesis_from q runs size depth r start _ t = App (motive q (member_in t) depth) (at_inner r start depth)

-- the hypothesis for argument `at` of a constructor whose arguments' levels begin with `first`; a type with more than 2,000 inner
-- arguments stays as it is, since no answer has it
abbrev pub hypothesis_type : PackedFamily → (first at depth count : ℕ) → Term → Term
hypothesis_type q first at depth count t =
    if nat_le count 2000
    then hypothesis_from q ((0, q.params) ∷ (first, at) ∷ (depth, count) ∷ []) (q.params + at) depth (first + at) depth count t
    else t

-- hypotheses -> end, for arguments after `at` others of a constructor, whose arguments' levels begin with `first`
abbrev pub hypotheses_over : PackedFamily → (first at depth : ℕ) → List ArgumentShape → Term → Term
hypotheses_over q first at depth [] end = end
hypotheses_over q first at depth (a ∷ arguments) end =
    by_kind a.kind (hypotheses_over q first (at + 1) depth arguments end)
    (λ count. Pi (hypothesis_type q first at depth count a.type) (hypotheses_over q first (at + 1) (depth + 1) arguments end))

-- c p Ac, for the constructor with a number and `count` arguments whose levels begin with `first`
abbrev pub constructor_at : PackedFamily → (number first count depth : ℕ) → Term
constructor_at q number first count depth = applied (applied (Con (number_of q) number) (run depth 0 q.params)) (run depth first count)

-- (Ac) -> hypotheses -> Pj (c p Ac), for a constructor of member j
abbrev pub method_type : PackedFamily → (j number depth : ℕ) → ConstructorShape → Term
method_type q j number depth c =
    let count = length c.arguments in
    let inside = depth + count in
    let behind = inside + recursive_count c.arguments in
    over Product ((0, q.params) ∷ (depth, count) ∷ []) q.params depth (types_of c.arguments)
    (hypotheses_over q depth 0 inside c.arguments (App (motive q j behind) (constructor_at q number depth count behind)))

-- the methods for the constructors from `number` on, whose members are among the owners
abbrev pub method_types : PackedFamily → (owners : List ℕ) (number depth : ℕ) → List ConstructorShape → Telescope
method_types q owners number depth [] = []
method_types q owners number depth (c ∷ constructors) =
    method_type q (get_or owners number 0) number depth c ∷ method_types q owners (number + 1) (depth + 1) constructors

-- (p) (P1 : M1 p -> Type l) .. (Pn : Mn p -> Type l) methods
abbrev pub induction_telescope : PackedFamily → (owners : List ℕ) → Shape → Telescope
induction_telescope q owners f =
    f.parameters ++ (motive_types q 0 q.params q.members ++ method_types q owners 0 (q.params + q.members) f.constructors)

-- how many variables these are
abbrev pub induction_size : PackedFamily → ℕ
induction_size q = q.params + q.members + q.constructors

-- (p) -> (P1 : M1 p -> Type l) -> .. -> (Pn : Mn p -> Type l) -> methods -> (x : Mk p) -> Pk x
abbrev pub induction_type : PackedFamily → (owners : List ℕ) → Shape → (k : ℕ) → Term
induction_type q owners f k =
    let x = induction_size q in
    products (induction_telescope q owners f) (Pi (member_type q k x) (App (motive q k (x + 1)) (variable (x + 1) x)))

-- ---- terms

-- \t. S p t -> Type l
abbrev pub selection_motive : PackedFamily → (depth : ℕ) → Term
selection_motive q depth = Lam (Fam q.tag) (Pi (packed_at q depth (depth + 1)) (Sort q.level))

-- \t s. T!case.(l+1) (\t. S p t -> Type l) P1 .. Pn t s, where T!case.(l+1) is the constant `analysis`
abbrev pub selected_motive : PackedFamily → (analysis depth : ℕ) → Term
selected_motive q analysis depth =
    let inside = depth + 2 in
    Lam (Fam q.tag) (Lam (packed_at q depth (depth + 1))
    (App (App (applied (App (Const analysis) (selection_motive q inside)) (run inside q.params q.members))
    (variable inside depth)) (variable inside (depth + 1))))

-- S!elim.l p (\t s. T!case.(l+1) (\t. S p t -> Type l) P1 .. Pn t s) methods
abbrev pub eliminated : PackedFamily → (analysis depth : ℕ) → Term
eliminated q analysis depth =
    applied (App (applied (Elim (number_of q) q.level) (run depth 0 q.params)) (selected_motive q analysis depth))
    (run depth (q.params + q.members) q.constructors)

-- \p P1 .. Pn methods x. S!elim.l p (..) methods tk x
abbrev pub induction_term : PackedFamily → (owners : List ℕ) → Shape → (analysis k : ℕ) → Term
induction_term q owners f analysis k =
    let x = induction_size q in
    functions (induction_telescope q owners f)
    (Lam (member_type q k x) (App (App (eliminated q analysis (x + 1)) (Con q.tag k)) (variable (x + 1) x)))

-- ---- the entries

-- Mk!ind
abbrev pub induction_name : (member : List ℕ) → List ℕ
induction_name member = member ++ codes "!ind"

-- T!case.(l+1)
abbrev pub analysis_name : Packed → List ℕ
analysis_name packed = generated_name packed.tag.name (codes "!case.") (level_in packed.family.type + 1)

-- the entry for member k, which has a name, over `base` entries; it mentions T!case.(l+1)
abbrev pub induction_entry : (base : ℕ) → Packed → Shape → (k : ℕ) → (name : List ℕ) → Result Draft Stop
induction_entry base packed f k name =
    let q = packed_numbers packed f in
    drafted (induction_name name) base (analysis_name packed ∷ [])
    (induction_type q packed.owners f k) (induction_term q packed.owners f base k)

-- drafts before others
abbrev pub after : (made : List Draft) → Result (List Draft) Stop → Result (List Draft) Stop
after made others = and_then others (λ entries. Ok (made ++ entries))

-- those for the members from k on
abbrev pub induction_entries_from : (base : ℕ) → Packed → Shape → (k : ℕ) → (members : List Entry) → Result (List Draft) Stop
induction_entries_from base packed f k [] = Ok []
induction_entries_from base packed f k (m ∷ members) =
    and_then (induction_entry base packed f k (name_of m)) (λ entry.
    after (entry ∷ []) (induction_entries_from base packed f (k + 1) members))

abbrev pub induction_entries_of_shape : (base : ℕ) → Packed → Shape → Result (List Draft) Stop
induction_entries_of_shape base packed f = induction_entries_from base packed f 0 packed.members

-- the entries Mk!ind, where the packed family is in the signature, over `base` entries
abbrev pub induction_entries : (base : ℕ) → Packed → Family → Result (List Draft) Stop
induction_entries base packed f = induction_entries_of_shape base packed (family_shape (packed_number packed) f)
