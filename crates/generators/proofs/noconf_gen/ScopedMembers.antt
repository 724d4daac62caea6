-- The telescopes that no confusion compares, their equations and congruences are scoped, for a family of a scoped signature.
use Rattle.std.proofs.Common.{◌≡◌, ℕ, zero, suc, ◌+◌, ◌<◌, ◌≤◌, List, [], ◌∷◌, ◌++◌, length, map, take, All, refl, ap, subst as transport, arith}
use Rattle.std.proofs.lemmas.List.{length-append}
use Rattle.std.proofs.lemmas.List.Elements.{All-head, All-tail, All-nil, All-cons, All-append}
use Rattle.theory.specs.Terms.{Term, top}
use Rattle.theory.specs.Terms.Term.{Sort, Con}
use Rattle.theory.specs.Telescopes.{Telescope, applied}
use Rattle.theory.specs.Prelude.{prelude}
use Rattle.theory.specs.Signatures.{Signature, IsPrefix}
use Rattle.theory.specs.SignatureScopes.{IsConstructorNumber}
use Rattle.core_terms.specs.Levels.{variable, run, place}
use Rattle.core_terms.specs.declared.levels.Binder.{Binder}
use Rattle.core_terms.specs.declared.levels.Binder.TheVariants.{Product, Function}
use Rattle.core_sig.specs.ByLevels.{family_at}
use Rattle.core_sig.specs.DraftScopes.{IsDraftTerm}
use Rattle.core_sig.specs.EntryTerms.{EachInTelescope}
use Rattle.core_sig.specs.Shapes.{ArgumentShape, ConstructorShape, Shape, types_of}
use Rattle.core_sig.proofs.PlacedDrafts.{AreBelow, below-next, below-here, one-list, both-lists, sort-draft, draft-more, applied-draft, products-draft, functions-draft, place-draft, places-draft, variable-draft, run-draft}
use Rattle.core_sig.proofs.ShapeScopes.{IsDraftConstructor, IsDraftShape, family_at-draft, constructor-at-draft}
use Rattle.case_below_gen.specs.CaseEntries.{closed_over}
use Rattle.case_below_gen.proofs.ShapeLevels.{AreLowArguments, HasLowLevels}
use Rattle.tele_eq.specs.Items.{Item}
use Rattle.tele_eq.specs.TelescopicEquality.{equations}
use Rattle.tele_eq.proofs.DraftScopes.{AreDraftItems, draft-equations, draft-congruences}
use Rattle.tele_eq.proofs.Positions.{length-each_position}
use Rattle.generators.specs.noconf_gen.Compared.{placed_items, argument_items, member_items, constructed}
use Rattle.generators.specs.noconf_gen.NoConfusionTypes.{Member, equations_over, motive_type, congruences_at, injective_type, concluded}

-- a term of a draft over the entries of S and so many names
abbrev pub Drafted : Signature → (count n : ℕ) → Term → Type 0
Drafted S count n t = IsDraftTerm S (length S.entries) count n t

-- the scope of no confusion: a signature with the prelude, and a family with its levels
pub record IsCompared (S : Signature) (count n : ℕ) (f : Shape) : Type 0 where
  pub first : IsPrefix (prelude S.has_k) S
  pub shape : IsDraftShape S (length S.entries) count n f
  pub levels : HasLowLevels f

-- a constructor of it
pub record IsSubject (S : Signature) (count n : ℕ) (f : Shape) (number : ℕ) (c : ConstructorShape) : Type 0 where
  pub known : IsConstructorNumber S n number
  pub terms : IsDraftConstructor S (length S.entries) count (length f.parameters) c
  pub levels : AreLowArguments c.arguments

-- ---- telescopes

length-placed : (runs : List (ℕ × ℕ)) (size depth : ℕ) (arguments : List ArgumentShape) → length (placed_items runs size depth arguments) ≡ length arguments
length-placed runs size depth [] = refl
length-placed runs size depth (a ∷ arguments) = ap suc (length-placed runs (size + 1) (depth + 1) arguments)

placed-types : (S : Signature) (count : ℕ) (runs : List (ℕ × ℕ)) (size depth : ℕ) (arguments : List ArgumentShape) → AreBelow runs size depth (length arguments) → EachInTelescope (Drafted S count) size (types_of arguments)
    → EachInTelescope (Drafted S count) depth (map (λ (item : Item). item.type) (placed_items runs size depth arguments))
placed-types S count runs size depth [] below all = tt
placed-types S count runs size depth (a ∷ arguments) below all = (
  place-draft runs size depth a.type (below-here below) all.0,
  placed-types S count runs (size + 1) (depth + 1) arguments (below-next (transport (AreBelow runs size depth) (omega arith) below)) all.1,
)

placed-levels : (runs : List (ℕ × ℕ)) (size depth : ℕ) (arguments : List ArgumentShape) → AreLowArguments arguments → All (λ (item : Item). item.level < top) (placed_items runs size depth arguments)
placed-levels runs size depth [] low = All-nil (λ (item : Item). item.level < top)
placed-levels runs size depth (a ∷ arguments) low =
    All-cons (λ (item : Item). item.level < top) (record { type = place runs size depth a.type; level = a.level }) (placed_items runs (size + 1) (depth + 1) arguments)
    (All-head (λ (a : ArgumentShape). a.level < top) a arguments low)
    (placed-levels runs (size + 1) (depth + 1) arguments (All-tail (λ (a : ArgumentShape). a.level < top) a arguments low))

pub placed_items-draft : {S : Signature} {count : ℕ} (runs : List (ℕ × ℕ)) (size depth : ℕ) (arguments : List ArgumentShape) → AreBelow runs size depth (length arguments) → EachInTelescope (Drafted S count) size (types_of arguments) → AreLowArguments arguments
    → AreDraftItems S count depth (placed_items runs size depth arguments)
placed_items-draft {S} {count} runs size depth arguments below all low =
    record { types = placed-types S count runs size depth arguments below all; levels = placed-levels runs size depth arguments low }

pub argument_items-draft : {S : Signature} {count : ℕ} (p depth : ℕ) (c : ConstructorShape) → IsDraftConstructor S (length S.entries) count p c → AreLowArguments c.arguments → p ≤ depth → AreDraftItems S count depth (argument_items p depth c)
argument_items-draft p depth c is low le =
    placed_items-draft ((0, p) ∷ (depth, length c.arguments) ∷ []) p depth c.arguments (one-list p depth (length c.arguments) le) is.arguments low

pub length-argument_items : (p depth : ℕ) (c : ConstructorShape) → length (argument_items p depth c) ≡ length c.arguments
length-argument_items p depth c = length-placed ((0, p) ∷ (depth, length c.arguments) ∷ []) p depth c.arguments

-- a telescope with one type more
types-more : {S : Signature} {count : ℕ} (depth : ℕ) (X : List Item) (item : Item) → EachInTelescope (Drafted S count) depth (map (λ (item : Item). item.type) X) → Drafted S count (depth + length X) item.type → EachInTelescope (Drafted S count) depth (map (λ (item : Item). item.type) (X ++ item ∷ []))
types-more depth [] item all h = (draft-more (omega arith) h, tt)
types-more depth (x ∷ X) item all h = (all.0, types-more (depth + 1) X item all.1 (draft-more (omega arith) h))

pub member_items-draft : {S : Signature} {count n : ℕ} {f : Shape} (depth : ℕ) → IsCompared S count n f → length f.parameters ≤ depth → AreDraftItems S count depth (member_items n f depth)
member_items-draft {S} {count} {n} {f} depth is le =
    let p = length f.parameters in
    let k = length f.indices in
    let runs : List (ℕ × ℕ) = (0, p) ∷ (depth, k) ∷ [] in
    let items = placed_items runs p depth f.indices in
    let before = placed_items-draft runs p depth f.indices (one-list p depth k le) is.shape.indices is.levels.indices in
    let whole : Item = record { type = family_at n p (depth + k) depth k; level = f.level } in record {
      types =
          types-more depth items whole before.types
          (draft-more (omega (arith, length-placed runs p depth f.indices)) (family_at-draft n p (depth + k) depth k is.shape.family (omega arith) (omega arith)));
      levels =
          All-append (λ (item : Item). item.level < top) items (whole ∷ []) before.levels
          (All-cons (λ (item : Item). item.level < top) whole [] is.levels.level (All-nil (λ (item : Item). item.level < top)));
    }

pub length-member_items : (n : ℕ) (f : Shape) (depth : ℕ) → length (member_items n f depth) ≡ length f.indices + 1
length-member_items n f depth =
    let p = length f.parameters in
    let k = length f.indices in
    let runs : List (ℕ × ℕ) = (0, p) ∷ (depth, k) ∷ [] in
    let whole : Item = record { type = family_at n p (depth + k) depth k; level = f.level } in
    omega (arith, length-append (placed_items runs p depth f.indices) (whole ∷ []), length-placed runs p depth f.indices)

-- ---- members

all-take : {X : Type 0} (P : X → Type 0) (k : ℕ) (xs : List X) → All P xs → All P (take k xs)
all-take P zero xs h = All-nil P
all-take P (suc k) [] h = All-nil P
all-take P (suc k) (x ∷ xs) h = All-cons P x (take k xs) (All-head P x xs h) (all-take P k xs (All-tail P x xs h))

pub constructed-draft : {S : Signature} {count n : ℕ} {f : Shape} (number first : ℕ) (c : ConstructorShape) (depth : ℕ) → IsSubject S count n f number c → length f.parameters ≤ first → first + length c.arguments ≤ depth
    → All (Drafted S count depth) (constructed n (length f.parameters) (length f.indices) number first c depth)
constructed-draft {S} {count} {n} {f} number first c depth is low below =
    let p = length f.parameters in
    let k = length f.indices in
    let j = length c.arguments in
    let runs : List (ℕ × ℕ) = (0, p) ∷ (first, j) ∷ [] in
    let scrutinee = applied (applied (Con n number) (run depth 0 p)) (run depth first j) in
    All-append (Drafted S count depth) (map (place runs (p + j) depth) (take k c.targets)) (scrutinee ∷ [])
    (places-draft runs (p + j) depth (take k c.targets) (both-lists p first j depth low below) (all-take (Drafted S count (p + j)) k c.targets is.terms.targets))
    (All-cons (Drafted S count depth) scrutinee [] (constructor-at-draft n p number first j depth is.known (omega arith) below) (All-nil (Drafted S count depth)))

-- ---- equations

pub closed-draft : {S : Signature} {count : ℕ} (binder : Binder) (n : ℕ) (tele : Telescope) (end : Term) → EachInTelescope (Drafted S count) n tele → Drafted S count (n + length tele) end → Drafted S count n (closed_over binder tele end)
closed-draft Product n tele end all h = products-draft n tele end all h
closed-draft Function n tele end all h = functions-draft n tele end all h

length-equations : (X : List Item) (left right : List Term) → length (equations X left right) ≡ length X
length-equations X left right = length-each_position _ 0 (length X)

pub equations_over-draft : {S : Signature} {count n : ℕ} {f : Shape} (binder : Binder) (left right : Member) (depth : ℕ) (end : Term) → IsCompared S count n f → length f.parameters ≤ depth → All (Drafted S count depth) (left depth) → All (Drafted S count depth) (right depth)
    → Drafted S count (depth + (length f.indices + 1)) end → Drafted S count depth (equations_over binder n f left right depth end)
equations_over-draft {S} {count} {n} {f} binder left right depth end is low l r h =
    let X = member_items n f depth in
    closed-draft binder depth (equations X (left depth) (right depth)) end
    (draft-equations S count depth X (left depth) (right depth) is.first (member_items-draft depth is low) l r)
    (draft-more (omega (arith, length-equations X (left depth) (right depth), length-member_items n f depth)) h)

pub motive_type-draft : {S : Signature} {count n : ℕ} {f : Shape} (left right : Member) (m depth : ℕ) → IsCompared S count n f → length f.parameters ≤ depth → All (Drafted S count depth) (left depth) → All (Drafted S count depth) (right depth) → Drafted S count depth (motive_type n f left right m depth)
motive_type-draft left right m depth is low l r = equations_over-draft Product left right depth (Sort m) is low l r (sort-draft m)

pub congruences_at-draft : {S : Signature} {count n : ℕ} {f : Shape} (number : ℕ) (c : ConstructorShape) (first second start depth : ℕ) → IsCompared S count n f → IsSubject S count n f number c → length f.parameters ≤ depth → first + length c.arguments ≤ depth → second + length c.arguments ≤ depth → start + length c.arguments ≤ depth
    → All (Drafted S count depth) (congruences_at n f number c first second start depth)
congruences_at-draft {S} {count} {n} {f} number c first second start depth is subject low one two three =
    let p = length f.parameters in
    let j = length c.arguments in
    let X = argument_items p depth c in
    let e : depth + j ≡ depth + length X = omega (arith, length-argument_items p depth c) in
    draft-congruences S count depth X (member_items n f depth) (constructed n p (length f.indices) number depth c (depth + j)) (run depth first j) (run depth second j) (run depth start j)
    is.first (argument_items-draft p depth c subject.terms subject.levels low) (member_items-draft depth is low)
    (transport (λ m. All (Drafted S count m) (constructed n p (length f.indices) number depth c (depth + j))) e (constructed-draft number depth c (depth + j) subject low (omega arith)))
    (run-draft depth first j one) (run-draft depth second j two) (run-draft depth start j three)

pub injective_type-draft : {S : Signature} {count n : ℕ} {f : Shape} (number : ℕ) (c : ConstructorShape) (first second motive depth : ℕ) → IsCompared S count n f → IsSubject S count n f number c → length f.parameters ≤ depth → first + length c.arguments ≤ depth → second + length c.arguments ≤ depth → motive < depth
    → Drafted S count depth (injective_type n f number c first second motive depth)
injective_type-draft {S} {count} {n} {f} number c first second motive depth is subject low one two hm =
    let p = length f.parameters in
    let j = length c.arguments in
    let inside = depth + j in
    let X = argument_items p depth c in
    let tele = equations X (run depth first j) (run depth second j) in
    products-draft depth tele (applied (variable inside motive) (congruences_at n f number c first second depth inside))
    (draft-equations S count depth X (run depth first j) (run depth second j) is.first (argument_items-draft p depth c subject.terms subject.levels low) (run-draft depth first j one) (run-draft depth second j two))
    (draft-more (omega (arith, length-equations X (run depth first j) (run depth second j), length-argument_items p depth c))
    (applied-draft (variable inside motive) (congruences_at n f number c first second depth inside) (variable-draft motive (omega arith))
    (congruences_at-draft number c first second depth inside is subject (omega arith) (omega arith) (omega arith) (omega arith))))

pub concluded-draft : {S : Signature} {count : ℕ} (k motive start depth : ℕ) → motive < depth → start + (k + 1) ≤ depth → Drafted S count depth (concluded k motive start depth)
concluded-draft k motive start depth hm below =
    applied-draft (variable depth motive) (run depth start (k + 1)) (variable-draft motive hm) (run-draft depth start (k + 1) below)
