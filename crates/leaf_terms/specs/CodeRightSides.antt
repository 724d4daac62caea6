-- Right sides at leaves as the code makes them. A term that is too high is not made: a tower takes its place, which is higher than a term
-- may be, and a right side that still has a tower is Deep. So nothing is refused for an argument that a call drops.
use Rattle.std.specs.Prelude.{ℕ, zero, suc, ◌+◌, ◌-◌, ◌==◌, nat_lt, cond, Option, Some, None, List, [], ◌∷◌, map, get_or, Result, Ok, Err}
use Rattle.theory.specs.Terms.{Term, Sort, Pi, Lam, App, Let, Const}
use Rattle.theory.specs.Substitutions.{inst, fill}
use Rattle.theory.specs.Telescopes.{applied}
use Rattle.theory.specs.Eliminators.{no_variable}
use Rattle.core_terms.specs.Answers.{and_then, bounded, is_low}
use Rattle.core_terms.specs.declared.stop.Stop.{Stop}
use Rattle.core_terms.specs.declared.stop.Stop.TheVariants.{Deep}
use Rattle.case_below_gen.specs.Paths.{Descent, path_to}
use Rattle.tele_eq.specs.Items.{term_at}
use Rattle.unification.specs.Injecting.{lifted}
use Rattle.tree_translation.specs.Naming.{Naming}
use Rattle.tree_translation.specs.Standings.{all_placed}
use Rattle.tree_translation.specs.Hidden.{visible}
use Rattle.tree_translation.specs.RunTerms.{no_term}
use Rattle.tree_translation.specs.Plans.{Plan, Part}
use Rattle.tree_translation.specs.Recursion.{NamedRecursion, Recursion}
use Rattle.tree_translation.specs.RightSides.{BelowValue, Place, applied_path, belows_under, descent_at, helper_call, place_with, values_at}

-- ---- terms that are too high

-- a term with so many binders one inside the other
unfoldable pub tower : (count : ℕ) → Term
tower zero = Sort 0
tower (suc count) = Pi (tower count) (Sort 0)

-- the tower in the place of a term that is not made since it is too high
unfoldable pub too_high : Term
too_high = tower 2001

abbrev pub or_tower : Option Term → Term
or_tower None = too_high
or_tower (Some t) = t

abbrev pub or_towers : List (Option Term) → List Term
or_towers arguments = map or_tower arguments

-- ---- calls

-- Where the argument of a call is looked for in a below value: the argument is itself too high, it is no strict part of the leaf's term,
-- the path to it is too high, or there is a path.
pub data Found : Type 0 where
  Missing : Found
  Elsewhere : Found
  TooHigh : Found
  At : (path : Term) → Found

abbrev pub found_by : Result (Option Term) Stop → Found
found_by (Ok None) = Elsewhere
found_by (Ok (Some path)) = At path
found_by (Err e) = TooHigh

-- Deep where the leaf's term is too high
abbrev pub found_for : Descent → (whole below : Term) → Result Found Stop
found_for d whole below = cond (is_low whole) (Ok (found_by (path_to d whole below))) (Err Deep)

abbrev pub found_part : Naming → Plan → (terms : List Term) → BelowValue → (part : Option Term) → Result Found Stop
found_part number plan terms b None = Ok Missing
found_part number plan terms b (Some part) =
    found_for (descent_at number plan b part) (term_at terms b.recursion.position) b.value

abbrev pub found_at : Naming → Plan → (terms : List Term) → BelowValue → (arguments : List (Option Term)) → Result Found Stop
found_at number plan terms b arguments = found_part number plan terms b (get_or arguments b.recursion.position (Some (Sort 0)))

-- a call that is too high, or Deep where it is not
abbrev pub only_high : Option Term → Result (Option Term) Stop
only_high None = Ok None
only_high (Some t) = cond (is_low t) (Err Deep) (Ok None)

-- The call by what is found, or the other one. Where the argument is too high, so is a call by the path to it; it is not known then whether
-- there is one, so the answer is Deep unless the other call is too high as well.
abbrev pub call_found : Plan → Recursion → (arguments : List (Option Term)) → (other : Result (Option Term) Stop) → Found
    → Result (Option Term) Stop
call_found plan r arguments other Missing = and_then other only_high
call_found plan r arguments other Elsewhere = other
call_found plan r arguments other TooHigh = Ok None
call_found plan r arguments other (At path) = Ok (Some (applied_path plan r (or_towers arguments) path))

-- the call by the first of the below values in which there is a path, or else by the first of all
abbrev pub call_by_path : Naming → Plan → (terms : List Term) → (first : BelowValue) → (arguments : List (Option Term)) → List BelowValue
    → Result (Option Term) Stop
call_by_path number plan terms first arguments [] = Ok (Some (applied_path plan first.recursion (or_towers arguments) first.value))
call_by_path number plan terms first arguments (b ∷ belows) =
    and_then (found_at number plan terms b arguments)
    (call_found plan b.recursion arguments (call_by_path number plan terms first arguments belows))

abbrev pub call_made : Naming → Plan → (terms : List Term) → (arguments : List (Option Term)) → List BelowValue → Result (Option Term) Stop
call_made number plan terms arguments [] = Ok (Some no_term)
call_made number plan terms arguments (b ∷ belows) = call_by_path number plan terms b arguments (b ∷ belows)

abbrev pub constant_made : Naming → Plan → Place → (under c : ℕ) → (arguments : List (Option Term)) → Result (Option Term) Stop
constant_made number plan l under c arguments =
    cond (nat_lt c plan.base) (Ok (Some (applied (Const c) (or_towers arguments))))
    (cond (c == plan.base) (call_made number plan (lifted under l.terms) arguments (belows_under under l.belows))
    (Ok (Some (helper_call number plan l under (c - plan.base) (or_towers arguments)))))

-- ---- terms with calls

-- a part of a term
abbrev pub part_made : Result (Option Term) Stop → Result Term Stop
part_made r = and_then r (λ t. Ok (or_tower t))

-- a term of two parts, once both are made
abbrev pub both_made : (form : Term → Term → Term) → (first second : Result Term Stop) → Result Term Stop
both_made form first second = and_then first (λ a. and_then second (λ b. Ok (form a b)))

abbrev pub let_made : (type value rest : Result Term Stop) → Result Term Stop
let_made type value rest = and_then type (λ a. both_made (Let a) value rest)

-- a head that is made, applied to arguments
abbrev pub applied_made : (arguments : List (Option Term)) → (head : Result Term Stop) → Result (Option Term) Stop
applied_made arguments head = and_then head (λ h. Ok (Some (applied h (or_towers arguments))))

-- a term that is no application and no constant, once the calls in its parts are made
abbrev pub head_made : (parts : (under : ℕ) → Term → Result Term Stop) → (under : ℕ) → Term → Result Term Stop
head_made parts under (Pi a b) = both_made Pi (parts under a) (parts (under + 1) b)
head_made parts under (Lam a b) = both_made Lam (parts under a) (parts (under + 1) b)
head_made parts under (Let a t b) = let_made (parts under a) (parts under t) (parts (under + 1) b)
head_made parts under t = Ok t

-- A term under so many binders, applied to arguments, with all calls in it. None where it is the call of a path that is too high.
abbrev pub calls_made : Naming → Plan → Place → (under : ℕ) → (arguments : List (Option Term)) → Term → Result (Option Term) Stop
calls_made number plan l under arguments (App f a) =
    and_then (calls_made number plan l under [] a) (λ u. calls_made number plan l under (u ∷ arguments) f)
calls_made number plan l under arguments (Const c) = constant_made number plan l under c arguments
calls_made number plan l under arguments (Pi a b) =
    applied_made arguments (both_made Pi (part_made (calls_made number plan l under [] a)) (part_made (calls_made number plan l (under + 1) [] b)))
calls_made number plan l under arguments (Lam a b) =
    applied_made arguments (both_made Lam (part_made (calls_made number plan l under [] a)) (part_made (calls_made number plan l (under + 1) [] b)))
calls_made number plan l under arguments (Let a t b) =
    applied_made arguments
    (let_made (part_made (calls_made number plan l under [] a)) (part_made (calls_made number plan l under [] t))
    (part_made (calls_made number plan l (under + 1) [] b)))
calls_made number plan l under arguments t = Ok (Some (applied t (or_towers arguments)))

-- ---- leaves

-- the right side of a clause at a leaf, before its calls are made, where the variables that are not hidden have such levels
abbrev pub side_with : Plan → Part → (order levels : List ℕ) → (n clause : ℕ) → (substitution terms binds : List Term) → Term
side_with plan part order levels n clause substitution terms binds =
    let side = get_or part.sides clause (Sort 0) in
    inst (fill no_variable (all_placed levels n (values_at plan part order clause side substitution terms binds))) side

-- a term that is made, or Deep where it is too high
abbrev pub low_or_deep : Option Term → Result Term Stop
low_or_deep None = Err Deep
low_or_deep (Some t) = bounded t

abbrev pub leaf_with : Naming → Plan → List NamedRecursion → Part → (order levels : List ℕ) → (n : ℕ) (hidden : List ℕ)
    → (clause : ℕ) → (substitution terms binds : List Term) → Result Term Stop
leaf_with number plan recursions part order levels n hidden clause substitution terms binds =
    and_then
    (calls_made number plan (place_with number n hidden recursions (all_placed levels n terms)) 0 []
    (side_with plan part order levels n clause substitution terms binds))
    low_or_deep

-- the term of a leaf over its whole context of n variables
abbrev pub leaf_made : Naming → Plan → List NamedRecursion → Part → (order : List ℕ) → (n : ℕ) (hidden : List ℕ)
    → (clause : ℕ) → (substitution terms binds : List Term) → Result Term Stop
leaf_made number plan recursions part order n hidden clause substitution terms binds =
    leaf_with number plan recursions part order (visible n hidden) n hidden clause substitution terms binds
