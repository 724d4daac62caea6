-- The parts of the term of a cycle that the code makes apart.
use Rattle.std.specs.Prelude.{ℕ, ◌+◌, ◌-◌, Bool, cond, Option, Some, None, List, [], ◌∷◌, ◌++◌, length, drop}
use Rattle.theory.specs.Terms.{Term, Var, Lam, App, Fam, Const, Elim}
use Rattle.theory.specs.Substitutions.{inst, fill}
use Rattle.theory.specs.Telescopes.{applied}
use Rattle.theory.specs.Eliminators.{no_variable}
use Rattle.theory.specs.Families.{Family}
use Rattle.theory.specs.Prelude.{empty_type}
use Rattle.theory.specs.Signatures.{equality, reflexivity}
use Rattle.theory.specs.Spines.{spine_of}
use Rattle.core_terms.specs.Levels.{variable}
use Rattle.core_sig.specs.Shapes.{ArgumentShape, Shape}
use Rattle.case_below_gen.specs.declared.sides.Side.{Side}
use Rattle.case_below_gen.specs.declared.sides.Side.TheVariants.{First, Second}
use Rattle.case_below_gen.specs.PartTests.{constructor_of, in_constructor}
use Rattle.case_below_gen.specs.Paths.{with_arguments}
use Rattle.generators.specs.acyclic_gen.AcyclicEntries.{acyclic_name}
use Rattle.generators.specs.acyclic_gen.DirectEntries.{carrier_of, direct_name}
use Rattle.generators.specs.acyclic_gen.Pairings.{Within, component, projection}
use Rattle.generators.specs.acyclic_gen.Statements.{at_level, carrier_at, directs, equal, no_part}
use Rattle.generators.specs.declared.acyclic_gen.carrier.Carrier.{Carrier}
use Rattle.unification.specs.Built.{Built}
use Rattle.tree_translation.specs.CycleTerms.{Search, is_below_along, is_sought, said_of, component_along, component_for, cycle_motive, carrier_type, number_here}
use Rattle.tree_translation.specs.Naming.{Naming, left_name}
use Rattle.tree_translation.specs.Standings.{Standing, all_here, here, inside, placed}

-- ---- tests

-- the variable is below a direct argument of a constructor, which the term is
abbrev pub is_below : Search → Term → Bool
is_below c t = in_constructor (constructor_of c.family c.shape t) (λ inner. is_below_along c inner (length inner) t)

-- ---- the part of a tuple about an argument

-- the part about the argument with the level `wanted`, in the tuple with the level `last`
abbrev pub said_at : Side → Carrier → List ArgumentShape → (wanted last : ℕ) → Term
said_at side q arguments wanted last =
    projection side q (last + 1) (Within (at_level q.params) (at_level wanted))
    (component q (last + 1) (at_level q.params) wanted (directs (q.params + 1) 0 arguments) (variable (last + 1) last))

abbrev pub said_by_levels : Side → Carrier → List ArgumentShape → (at : ℕ) → Term
said_by_levels side q arguments at = said_at side q arguments (q.params + 1 + at) (q.params + 1 + length arguments)

-- the terms for its variables
abbrev pub said_values : Search → (whole tuple : Term) → List Term
said_values c whole tuple = c.parameters ++ Var c.x ∷ (drop c.carrier.params (spine_of whole) ++ tuple ∷ [])

-- ---- the component for the variable

-- through argument `at` of `whole`, which is r
abbrev pub component_at : Search → (whole : Term) → List ArgumentShape → (at : ℕ) → (r tuple : Term) → Term
component_at c whole arguments at r tuple =
    cond (is_sought c r) (said_of c First whole arguments at tuple)
    (with_arguments (constructor_of c.family c.shape r) tuple (λ inner.
    component_along c r inner (length inner) r (said_of c Second whole arguments at tuple)))

-- ---- the transport of acyclicity

-- the equation in the motive, with x and z at a depth
abbrev pub motive_equation : Carrier → (from_left : Bool) → (depth : ℕ) → Term
motive_equation q from_left depth =
    cond from_left (equal q (depth + 1) (at_level q.params) (variable (depth + 1) depth))
    (equal q (depth + 1) (at_level depth) (variable (depth + 1) q.params))

abbrev pub motive_at : Carrier → (from_left : Bool) → (depth : ℕ) → Term
motive_at q from_left depth =
    Lam (carrier_at q depth) (Lam (motive_equation q from_left depth) (no_part q (depth + 2) (at_level q.params) (at_level depth)))

abbrev pub motive_of : Search → (from_left : Bool) → Term
motive_of c from_left = inst (fill no_variable (c.parameters ++ Var c.x ∷ [])) (cycle_motive c.carrier from_left)

abbrev pub transport_head : Naming → (from_left : Bool) → (l : ℕ) → Term
transport_head number from_left l = cond from_left (Elim (equality l) l) (Const (number (left_name l l)))

-- D!acyclic ps x
abbrev pub acyclic_of : Naming → (name : List ℕ) → Search → Term
acyclic_of number name c = App (applied (Const (number (acyclic_name name))) c.parameters) (Var c.x)

abbrev pub transported : Naming → (from_left : Bool) → Family → Search → (side e : Term) → Term
transported number from_left f c side e =
    applied (transport_head number from_left f.level)
    (carrier_type c ∷ Var c.x ∷ motive_of c from_left ∷ acyclic_of number f.name c ∷ side ∷ e ∷ [])

-- ---- the whole

-- the first equation
abbrev pub first_equation : Standing → Term
first_equation s = Var (inside s - (s.depth + 1))

-- the component for x, applied to refl.l (D ps) x
abbrev pub refuted : Naming → Standing → (from_left : Bool) → Family → (side : Term) → Search → Term
refuted number s from_left f side c =
    App (component_for c side (transported number from_left f c side (first_equation s))) (reflexivity f.level (carrier_type c) (Var c.x))

-- \_. G
abbrev pub goal_motive : Standing → Term
goal_motive s = Lam (Fam empty_type) (placed s.variables (inside s + 1) s.goal)

abbrev pub by_refutation : Naming → (L : ℕ) → Standing → (from_left : Bool) → Family → (side : Term) → Search → Term
by_refutation number L s from_left f side c =
    App (App (Elim empty_type L) (goal_motive s)) (refuted number s from_left f side c)

-- the search in family number n with a name and a shape, at parameters after the equations
abbrev pub search_in : Naming → Standing → (x n : ℕ) → (name : List ℕ) → Shape → (ps : List Term) → Search
search_in number s x n name shape ps = record {
  family = n;
  shape = shape;
  carrier = carrier_of n shape (number (direct_name name));
  parameters = ps;
  x = number_here s x;
}

abbrev pub cycle_in : Naming → (L : ℕ) → Standing → (x : ℕ) → (from_left : Bool) → (n : ℕ) → Family → Shape → (ps : List Term) → (side : Term) → Term
cycle_in number L s x from_left n f shape ps side =
    by_refutation number L s from_left f side (search_in number s x n f.name shape ps)

-- the term of a cycle at parameters of the context
abbrev pub cycle_with : Naming → (L : ℕ) → Standing → (x : ℕ) → (from_left : Bool) → (n : ℕ) → Family → Shape → (ps : List Term) → (side : Term) → Term
cycle_with number L s x from_left n f shape ps side =
    cycle_in number L s x from_left n f shape (all_here s ps) (here s side)

-- ---- sides

-- a term for a side that is a constructor, and else another one
abbrev pub on_constructor : {A : Type 0} → Option Built → (Built → A) → A → A
on_constructor None term other = other
on_constructor (Some b) term other = term b

-- the names where the variable is on the left, and where it is on the right
abbrev pub names_from_left : Family → List (List ℕ)
names_from_left f = direct_name f.name ∷ acyclic_name f.name ∷ []

abbrev pub names_from_right : Family → List (List ℕ)
names_from_right f = direct_name f.name ∷ left_name f.level f.level ∷ acyclic_name f.name ∷ []
