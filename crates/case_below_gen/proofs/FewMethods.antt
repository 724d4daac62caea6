-- A recursion over more than 2,000 parameters, indices, constructors or arguments is too high.
use Rattle.std.proofs.Common.{◌≡◌, ℕ, ◌+◌, ◌≤◌, Bool, true, false, cond, List, [], ◌∷◌, length, Result, Ok, Err, codes, refl, ap, ◌∙◌, sym, arith}
use Rattle.std.proofs.lemmas.List.{length-map}
use Rattle.theory.specs.Terms.{Term, height}
use Rattle.theory.specs.Terms.Term.{Sort, Lam, App}
use Rattle.theory.specs.Telescopes.{functions}
use Rattle.theory.specs.Signatures.{Definition}
use Rattle.core_terms.specs.Answers.{and_then, is_low, bounded}
use Rattle.core_terms.specs.Levels.{run}
use Rattle.core_terms.specs.declared.levels.Binder.TheVariants.{Function}
use Rattle.core_terms.specs.declared.stop.Stop.{Stop}
use Rattle.core_terms.specs.declared.stop.Stop.TheVariants.{Deep}
use Rattle.core_terms.proofs.Builders.{height-applied}
use Rattle.core_terms.proofs.Placing.{height-over, height-functions, deep-unless}
use Rattle.core_sig.specs.ByLevels.{family_at, motive_type}
use Rattle.core_sig.specs.Shapes.{ConstructorShape, Shape, types_of, recursive_count, HaveFewArguments, IsFew}
use Rattle.case_below_gen.specs.declared.components.Course.{Course}
use Rattle.case_below_gen.specs.declared.components.Ending.TheVariants.{Level, Beside, Folded}
use Rattle.case_below_gen.specs.CaseEntries.{scrutinee_over, at_scrutinee}
use Rattle.case_below_gen.specs.Components.{components_over, tuple_type}
use Rattle.case_below_gen.specs.CourseEntries.{course_of, applied_to_methods, eliminator_at, below_method, below_type, below_term, below_of_shape, aux_pair, aux_method, aux_goal, step_type, aux_type, aux_term, aux_of_shape}
use Rattle.case_below_gen.specs.Projections.{HasFewBinders, projection, side_mark, side_entry_type, side_entry_term, side_of_shape}
use Rattle.case_below_gen.specs.declared.sides.Side.{Side}
use Rattle.core_sig.specs.Drafts.{Draft, drafted, generated_name}

pub few-methods : (method : ℕ → ConstructorShape → Term) (number : ℕ) (head : Term) (cs : List ConstructorShape) → ((i : ℕ) (c : ConstructorShape) → length c.arguments ≤ height (method i c))
    → height (applied_to_methods method number head cs) ≤ 2000 → HaveFewArguments cs × (height head + length cs ≤ height (applied_to_methods method number head cs))
few-methods method number head [] least low = (tt, omega arith)
few-methods method number head (c ∷ cs) least low =
    let rest = few-methods method (number + 1) (App head (method number c)) cs least low in
    let tail = rest.1 in
    let here = least number c in
    ((omega arith, rest.0), omega arith)

-- the family's parts are few if a function of the scrutinee is low enough
few-inside : (n depth inside start k : ℕ) (f : Shape) (method : ℕ → ConstructorShape → Term) (head : Term) → ((i : ℕ) (c : ConstructorShape) → length c.arguments ≤ height (method i c)) → length f.parameters ≤ 2000
    → height (scrutinee_over Function n f depth (at_scrutinee inside start k (applied_to_methods method 0 head f.constructors))) ≤ 2000 → IsFew f
few-inside n depth inside start k f method head least params low =
    let p = length f.parameters in
    let i = length f.indices in
    let whole = applied_to_methods method 0 head f.constructors in
    let outer = height-over Function ((0, p) ∷ (depth, i) ∷ []) p depth (types_of f.indices) (Lam (family_at n p (depth + i) depth i) (at_scrutinee inside start k whole)) in
    let types = length-map f.indices (λ a. a.type) in
    let spine = height-applied whole (run inside start k) in
    let methods = few-methods method 0 head f.constructors least (omega arith) in
    let count = methods.1 in
    record { parameters = params; indices = omega arith; constructors = omega arith; arguments = methods.0 }

abbrev too_high : Term → Result Draft Stop
too_high t = Err Deep

deep-behind : (t : Term) → and_then (bounded t) too_high ≡ Err Deep
deep-behind t = go (is_low t)
  where
    go : (b : Bool) → and_then (cond b (Ok t) (Err Deep)) too_high ≡ Err Deep
    go true = refl
    go false = refl

-- a definition whose term is too high
abbrev with_term : (name : List ℕ) (base : ℕ) (names : List (List ℕ)) (type : Term) → Result Term Stop → Result Draft Stop
with_term name base names type term =
    and_then (bounded type) (λ t. and_then term (λ u. Ok (record { entry = Definition name t u; base = base; names = names })))

pub drafted-deep : (name : List ℕ) (base : ℕ) (names : List (List ℕ)) (type term : Term) → ¬ (height term ≤ 2000) → Err Deep ≡ drafted name base names type term
drafted-deep name base names type term high =
    sym (ap (with_term name base names type) (deep-unless term high) ∙ deep-behind type)

-- ---- below

below-least : (q : Course) (depth : ℕ) (c : ConstructorShape) → length c.arguments ≤ height (below_method q depth c)
below-least q depth c =
    let count = length c.arguments in
    let inside = depth + count in
    let least = height-over Function ((0, q.params) ∷ (depth, count) ∷ []) q.params depth (types_of c.arguments) (components_over Level q depth 0 inside c.arguments (tuple_type Beside q depth 0 (inside + recursive_count c.arguments) inside c.arguments)) in
    let types = length-map c.arguments (λ a. a.type) in
    omega arith

few-below : (n : ℕ) (f : Shape) (m : ℕ) → height (below_term n f m) ≤ 2000 → IsFew f
few-below n f m low =
    let p = length f.parameters in
    let k = length f.indices in
    let inside = p + 1 + k + 1 in
    let q = course_of f m 0 in
    let head = App (eliminator_at n (m + 1) p inside) (scrutinee_over Function n f inside (Sort m)) in
    let end = scrutinee_over Function n f (p + 1) (at_scrutinee inside (p + 1) k (applied_to_methods (λ number c. below_method q inside c) 0 head f.constructors)) in
    let outer = height-functions f.parameters (Lam (motive_type n f m p) end) in
    few-inside n (p + 1) inside (p + 1) k f (λ number c. below_method q inside c) head (λ i c. below-least q inside c) (omega arith) (omega arith)

pub below-deep : (base : ℕ) (name : List ℕ) (n : ℕ) (f : Shape) (m : ℕ) → ¬ IsFew f → Err Deep ≡ below_of_shape base name n f m
below-deep base name n f m many =
    drafted-deep (generated_name name (codes "!below.") m) base [] (below_type n f m) (below_term n f m) (λ low. many (few-below n f m low))

-- ---- aux

aux-least : (n : ℕ) (q : Course) (depth i : ℕ) (c : ConstructorShape) → length c.arguments ≤ height (aux_method n q depth i c)
aux-least n q depth i c =
    let count = length c.arguments in
    let inside = depth + count in
    let least = height-over Function ((0, q.params) ∷ (depth, count) ∷ []) q.params depth (types_of c.arguments) (components_over Folded q depth 0 inside c.arguments (aux_pair n q i depth (inside + recursive_count c.arguments) inside c)) in
    let types = length-map c.arguments (λ a. a.type) in
    omega arith

few-aux : (n : ℕ) (f : Shape) (m below : ℕ) → height (aux_term n f (course_of f m below)) ≤ 2000 → IsFew f
few-aux n f m below low =
    let p = length f.parameters in
    let k = length f.indices in
    let inside = p + 2 + k + 1 in
    let q = course_of f m below in
    let head = App (eliminator_at n m p inside) (scrutinee_over Function n f inside (aux_goal q (inside + k + 1) inside)) in
    let end = scrutinee_over Function n f (p + 2) (at_scrutinee inside (p + 2) k (applied_to_methods (aux_method n q inside) 0 head f.constructors)) in
    let outer = height-functions f.parameters (Lam (motive_type n f m p) (Lam (step_type n f q (p + 1)) end)) in
    few-inside n (p + 2) inside (p + 2) k f (aux_method n q inside) head (aux-least n q inside) (omega arith) (omega arith)

pub aux-deep : (base : ℕ) (name : List ℕ) (n : ℕ) (f : Shape) (m : ℕ) → ¬ IsFew f → Err Deep ≡ aux_of_shape base name n f m
aux-deep base name n f m many =
    drafted-deep (generated_name name (codes "!aux.") m) base (generated_name name (codes "!below.") m ∷ [])
    (aux_type n f (course_of f m base)) (aux_term n f (course_of f m base)) (λ low. many (few-aux n f m base low))

-- ---- rec and all

few-steps : (n : ℕ) (f : Shape) (depth : ℕ) (motive step kept : Term) → height (functions f.parameters (Lam motive (Lam step (scrutinee_over Function n f depth kept)))) ≤ 2000 → HasFewBinders f
few-steps n f depth motive step kept low =
    let p = length f.parameters in
    let k = length f.indices in
    let end = scrutinee_over Function n f depth kept in
    let outer = height-functions f.parameters (Lam motive (Lam step end)) in
    let inner = height-over Function ((0, p) ∷ (depth, k) ∷ []) p depth (types_of f.indices) (Lam (family_at n p (depth + k) depth k) kept) in
    let types = length-map f.indices (λ a. a.type) in
    record { parameters = omega arith; indices = omega arith }

few-sides : (side : Side) (n : ℕ) (f : Shape) (m below aux : ℕ) → height (side_entry_term side n f (course_of f m below) aux) ≤ 2000 → HasFewBinders f
few-sides side n f m below aux low =
    let p = length f.parameters in
    let q = course_of f m below in
    few-steps n f (p + 2) (motive_type n f m p) (step_type n f q (p + 1)) (projection side q aux (p + 2 + length f.indices + 1) (p + 2)) low

pub side-deep : (side : Side) (base : ℕ) (name : List ℕ) (n : ℕ) (f : Shape) (m : ℕ) → ¬ HasFewBinders f → Err Deep ≡ side_of_shape side base name n f m
side-deep side base name n f m many =
    drafted-deep (generated_name name (side_mark side) m) base (generated_name name (codes "!below.") m ∷ generated_name name (codes "!aux.") m ∷ [])
    (side_entry_type side n f (course_of f m base)) (side_entry_term side n f (course_of f m base) (base + 1)) (λ low. many (few-sides side n f m base (base + 1) low))
