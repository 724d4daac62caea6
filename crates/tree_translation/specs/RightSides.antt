-- The right side at a leaf: the clause's term with the leaf's bindings, in which each call of the function is a path in a below value,
-- and each call of a helper is one of its entry, with the below values.
use Rattle.std.specs.Prelude.{ℕ, ◌+◌, ◌-◌, ◌==◌, nat_lt, Bool, false, cond, List, [], ◌∷◌, ◌++◌, map, drop, get_or}
use Rattle.theory.specs.Terms.{Term, Var, Sort, Pi, Lam, App, Let, Const, lift}
use Rattle.theory.specs.Substitutions.{inst, fill}
use Rattle.theory.specs.Telescopes.{applied}
use Rattle.theory.specs.Eliminators.{no_variable}
use Rattle.theory.specs.Spines.{head_of}
use Rattle.core_terms.specs.CaseTrees.{Walk}
use Rattle.core_sig.specs.FamilyShapes.{family_shape}
use Rattle.case_below_gen.specs.Paths.{Descent, path_of}
use Rattle.case_below_gen.specs.PartTests.{has_part}
use Rattle.tele_eq.specs.Items.{term_at}
use Rattle.unification.specs.Injecting.{lifted}
use Rattle.tree_translation.specs.Naming.{Naming, below_name, helper_name}
use Rattle.tree_translation.specs.Standings.{all_placed}
use Rattle.tree_translation.specs.Hidden.{visible}
use Rattle.tree_translation.specs.RunTerms.{no_term}
use Rattle.tree_translation.specs.Mappings.{mapping, in_old_order}
use Rattle.tree_translation.specs.Plans.{Plan, Part}
use Rattle.tree_translation.specs.Recursion.{NamedRecursion, Recursion, motive_with, remaining_positions, terms_at}

-- A below value at a leaf: its recursion, the motive there, and the value.
pub record BelowValue : Type 0 where
  pub recursion : Recursion
  pub motive : Term
  pub value : Term

-- under more binders
abbrev pub below_under : (under : ℕ) → BelowValue → BelowValue
below_under under b = record { recursion = b.recursion; motive = lift b.motive under 0; value = lift b.value under 0 }

-- A leaf in its whole context: the terms of its columns there, and the below values, one for each recursion.
pub record Place : Type 0 where
  pub terms : List Term
  pub belows : List BelowValue

-- the descent to a part
abbrev pub descent_at : Naming → Plan → BelowValue → (part : Term) → Descent
descent_at number plan b part = record {
  family = b.recursion.admission.number;
  shape = family_shape b.recursion.admission.number b.recursion.family;
  m = plan.level;
  below = number (below_name b.recursion.family plan.level);
  motive = b.motive;
  part = part;
}

-- a path in a below value, or the value itself, applied to the arguments of a call at R and any further ones
abbrev pub applied_path : Plan → Recursion → (arguments : List Term) → (path : Term) → Term
applied_path plan r arguments path =
    applied path (terms_at (remaining_positions plan.arity r) arguments ++ drop plan.arity arguments)

-- The call of the function with these arguments: the path in the first of the below values at whose position the argument is a strict
-- part of the leaf's term, or else the first below value itself.
abbrev pub call_by_path : Naming → Plan → (terms : List Term) → (first : BelowValue) → (arguments : List Term) → List BelowValue → Term
call_by_path number plan terms first arguments [] = applied_path plan first.recursion arguments first.value
call_by_path number plan terms first arguments (b ∷ belows) =
    let d = descent_at number plan b (term_at arguments b.recursion.position) in
    let whole = term_at terms b.recursion.position in
    cond (has_part d.family d.shape d.part whole) (applied_path plan b.recursion arguments (path_of d whole b.value))
    (call_by_path number plan terms first arguments belows)

-- without recursion there is no call, and no term is read here
abbrev pub call_in : Naming → Plan → (terms : List Term) → (arguments : List Term) → List BelowValue → Term
call_in number plan terms arguments [] = no_term
call_in number plan terms arguments (b ∷ belows) = call_by_path number plan terms b arguments (b ∷ belows)

-- the below values under more binders
abbrev pub belows_under : (under : ℕ) → List BelowValue → List BelowValue
belows_under under belows = map (below_under under) belows

-- the below values, after the arguments of a helper
abbrev pub belows_behind : (under : ℕ) → List BelowValue → List Term
belows_behind under belows = map (λ b. lift b.value under 0) belows

abbrev pub helper_call : Naming → Plan → Place → (under k : ℕ) → (arguments : List Term) → Term
helper_call number plan l under k arguments =
    applied (Const (number (helper_name plan.name k))) (arguments ++ belows_behind under l.belows)

-- a constant with its arguments: an entry before the function stays
abbrev pub constant_at : Naming → Plan → Place → (under c : ℕ) → (arguments : List Term) → Term
constant_at number plan l under c arguments =
    cond (nat_lt c plan.base) (applied (Const c) arguments)
    (cond (c == plan.base) (call_in number plan (lifted under l.terms) arguments (belows_under under l.belows))
    (helper_call number plan l under (c - plan.base) arguments))

-- a term under so many binders, applied to arguments, with all calls in it
abbrev pub with_calls : Naming → Plan → Place → (under : ℕ) → (arguments : List Term) → Term → Term
with_calls number plan l under arguments (App f a) =
    with_calls number plan l under (with_calls number plan l under [] a ∷ arguments) f
with_calls number plan l under arguments (Const c) = constant_at number plan l under c arguments
with_calls number plan l under arguments (Pi a b) =
    applied (Pi (with_calls number plan l under [] a) (with_calls number plan l (under + 1) [] b)) arguments
with_calls number plan l under arguments (Lam a b) =
    applied (Lam (with_calls number plan l under [] a) (with_calls number plan l (under + 1) [] b)) arguments
with_calls number plan l under arguments (Let a t b) =
    applied
    (Let (with_calls number plan l under [] a) (with_calls number plan l under [] t) (with_calls number plan l (under + 1) [] b))
    arguments
with_calls number plan l under arguments t = applied t arguments

-- ---- leaves

-- a right side that is a helper's call: that of a clause with a scrutinee
abbrev pub is_helper : (base : ℕ) → Term → Bool
is_helper base (Const c) = nat_lt base c
is_helper base _ = false

abbrev pub no_walk : Walk
no_walk = record { ctx = []; goal = Sort 0; subst = []; terms = []; binds = []; dots = [] }

-- the terms for the variables of a clause's right side: the leaf's bindings, or, for a helper's call over the context of the clause's own
-- walk, what the comparison with the leaf gives
abbrev pub values_at : Plan → Part → (order : List ℕ) → (clause : ℕ) → (side : Term) → (substitution terms binds : List Term) → List Term
values_at plan part order clause side substitution terms binds =
    cond (is_helper plan.base (head_of side))
    (mapping (get_or part.walks clause no_walk) (in_old_order order substitution) terms)
    binds

-- the below value at a level, among n variables
abbrev pub value_with : Naming → (n p : ℕ) → (terms values : List Term) → NamedRecursion → BelowValue
value_with number n p terms values c =
    record { recursion = c.recursion; motive = motive_with number c terms values; value = Var (n - (p + 1)) }

-- The below values of a leaf, whose whole context has n variables: the hidden variables, one for each recursion, each with the motive at
-- the leaf's terms and the values before it.
abbrev pub belows_in : Naming → (n : ℕ) (hidden : List ℕ) (terms values : List Term) → List NamedRecursion → List BelowValue
belows_in number n (p ∷ hidden) terms values (c ∷ recursions) =
    value_with number n p terms values c ∷ belows_in number n hidden terms (values ++ Var (n - (p + 1)) ∷ []) recursions
belows_in number n _ terms values _ = []

abbrev pub place_with : Naming → (n : ℕ) (hidden : List ℕ) → List NamedRecursion → List Term → Place
place_with number n hidden recursions terms = record { terms = terms; belows = belows_in number n hidden terms [] recursions }

-- the term of a leaf over its whole context of n variables
abbrev pub leaf_term : Naming → Plan → List NamedRecursion → Part → (order : List ℕ) → (n : ℕ) (hidden : List ℕ)
    → (clause : ℕ) → (substitution terms binds : List Term) → Term
leaf_term number plan recursions part order n hidden clause substitution terms binds =
    let levels = visible n hidden in
    let side = get_or part.sides clause (Sort 0) in
    let values = all_placed levels n (values_at plan part order clause side substitution terms binds) in
    with_calls number plan (place_with number n hidden recursions (all_placed levels n terms)) 0 [] (inst (fill no_variable values) side)
