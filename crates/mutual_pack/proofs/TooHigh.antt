-- Induction over too many parameters, members, constructors or arguments is too high, and so is an equation.
use Rattle.std.proofs.Common.{◌≡◌, ℕ, zero, suc, ◌+◌, ◌≤◌, List, [], ◌∷◌, ◌++◌, length, get_or, Err, refl, ap, ◌∙◌, subst, arith}
use Rattle.std.proofs.lemmas.List.{length-map}
use Rattle.theory.specs.Terms.{Term, height}
use Rattle.theory.specs.Terms.Term.{Lam, App, Con}
use Rattle.theory.specs.Telescopes.{Telescope, functions}
use Rattle.core_terms.specs.Levels.{variable}
use Rattle.core_terms.specs.declared.levels.Binder.TheVariants.{Product}
use Rattle.core_terms.specs.declared.stop.Stop.TheVariants.{Deep}
use Rattle.core_terms.proofs.Placing.{height-over, height-functions}
use Rattle.core_sig.specs.Shapes.{ConstructorShape, Shape, types_of, recursive_count, HaveFewArguments}
use Rattle.case_below_gen.proofs.FewMethods.{drafted-deep}
use Rattle.mutual_pack.specs.declared.packed_family.PackedFamily.{PackedFamily}
use Rattle.mutual_pack.specs.MutualFamilies.{Packed}
use Rattle.mutual_pack.specs.Fitting.{FitsInduction}
use Rattle.mutual_pack.specs.Inductions.{packed_numbers, motive, member_type, motive_types, hypotheses_over, constructor_at, method_type, method_types, induction_size, eliminated, induction_type, induction_term, induction_name, analysis_name, induction_entry}

-- ---- telescopes

functions-append : (xs ys : Telescope) (b : Term) → functions (xs ++ ys) b ≡ functions xs (functions ys b)
functions-append [] ys b = refl
functions-append (a ∷ xs) ys b = ap (Lam a) (functions-append xs ys b)

pub length-motives : (q : PackedFamily) (k depth count : ℕ) → length (motive_types q k depth count) ≡ count
length-motives q k depth zero = refl
length-motives q k depth (suc count) = ap suc (length-motives q (k + 1) (depth + 1) count)

-- ---- methods

pub method-least : (q : PackedFamily) (j number depth : ℕ) (c : ConstructorShape) → length c.arguments ≤ height (method_type q j number depth c)
method-least q j number depth c =
    let count = length c.arguments in
    let inside = depth + count in
    let behind = inside + recursive_count c.arguments in
    let end = hypotheses_over q depth 0 inside c.arguments (App (motive q j behind) (constructor_at q number depth count behind)) in
    let outer = height-over Product ((0, q.params) ∷ (depth, count) ∷ []) q.params depth (types_of c.arguments) end in
    let types = length-map c.arguments (λ a. a.type) in
    omega arith

few-methods : (q : PackedFamily) (owners : List ℕ) (number depth : ℕ) (cs : List ConstructorShape) (b : Term) → height (functions (method_types q owners number depth cs) b) ≤ 2000
    → HaveFewArguments cs × (height b + length cs ≤ height (functions (method_types q owners number depth cs) b))
few-methods q owners number depth [] b low = (tt, omega arith)
few-methods q owners number depth (c ∷ cs) b low =
    let rest = few-methods q owners (number + 1) (depth + 1) cs b (omega arith) in
    let here = method-least q (get_or owners number 0) number depth c in
    let tail = rest.1 in
    ((omega arith, rest.0), omega arith)

-- ---- the term

few-induction : (packed : Packed) (f : Shape) (analysis k : ℕ) → height (induction_term (packed_numbers packed f) packed.owners f analysis k) ≤ 2000 → FitsInduction packed f
few-induction packed f analysis k low =
    let q = packed_numbers packed f in
    let x = induction_size q in
    let end = Lam (member_type q k x) (App (App (eliminated q analysis (x + 1)) (Con q.tag k)) (variable (x + 1) x)) in
    let motives = motive_types q 0 q.params q.members in
    let methods = method_types q packed.owners 0 (q.params + q.members) f.constructors in
    let parts : induction_term q packed.owners f analysis k ≡ functions f.parameters (functions motives (functions methods end)) =
    functions-append f.parameters (motives ++ methods) end ∙ ap (functions f.parameters) (functions-append motives methods end) in
    let whole = subst (λ t. height t ≤ 2000) parts low in
    let outer = height-functions f.parameters (functions motives (functions methods end)) in
    let middle = height-functions motives (functions methods end) in
    let count = length-motives q 0 q.params q.members in
    let inner = few-methods q packed.owners 0 (q.params + q.members) f.constructors end (omega arith) in
    let tail = inner.1 in
    record {
      family = record { parameters = omega arith; constructors = omega arith; arguments = inner.0 };
      members = omega arith;
    }

-- an entry over what does not fit is Deep
pub induction-deep : (base : ℕ) (packed : Packed) (f : Shape) (k : ℕ) (name : List ℕ) → ¬ FitsInduction packed f → Err Deep ≡ induction_entry base packed f k name
induction-deep base packed f k name many =
    let q = packed_numbers packed f in
    drafted-deep (induction_name name) base (analysis_name packed ∷ []) (induction_type q packed.owners f k) (induction_term q packed.owners f base k)
    (λ low. many (few-induction packed f base k low))
