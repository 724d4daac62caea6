-- The term of a cycle, by acyclicity: the variable x is a part of itself, along direct arguments of constructors.
use Rattle.std.specs.Prelude.{ℕ, suc, ◌+◌, ◌-◌, ◌==◌, ◌&&◌, ◌||◌, Bool, false, cond, Option, List, [], ◌∷◌, ◌++◌, length, drop, get_or, slice_get}
use Rattle.theory.specs.Terms.{Term, Var, Lam, App, Fam, Const, Elim}
use Rattle.theory.specs.Substitutions.{inst, fill}
use Rattle.theory.specs.Telescopes.{applied}
use Rattle.theory.specs.Eliminators.{no_variable}
use Rattle.theory.specs.Prelude.{empty_type}
use Rattle.theory.specs.Signatures.{equality, reflexivity}
use Rattle.theory.specs.Spines.{spine_of}
use Rattle.core_terms.specs.Levels.{variable}
use Rattle.core_sig.specs.FamilyShapes.{family_shape}
use Rattle.core_sig.specs.Shapes.{ArgumentShape, Shape}
use Rattle.case_below_gen.specs.declared.sides.Side.{Side}
use Rattle.case_below_gen.specs.declared.sides.Side.TheVariants.{First, Second}
use Rattle.case_below_gen.specs.PartTests.{constructor_of, in_constructor, if_recursive}
use Rattle.case_below_gen.specs.Paths.{with_arguments}
use Rattle.generators.specs.acyclic_gen.Statements.{carrier_at, at_level, equal, no_part, directs}
use Rattle.generators.specs.acyclic_gen.Pairings.{Within, projection, component}
use Rattle.generators.specs.acyclic_gen.DirectEntries.{carrier_of, direct_name}
use Rattle.generators.specs.acyclic_gen.AcyclicEntries.{acyclic_name}
use Rattle.generators.specs.declared.acyclic_gen.carrier.Carrier.{Carrier}
use Rattle.unification.specs.Rules.{level_of}
use Rattle.unification.specs.Built.{Built}
use Rattle.unification.specs.Solutions.{variable_in}
use Rattle.unification.specs.Cycles.{is_variable}
use Rattle.tree_translation.specs.Naming.{Naming, left_name}
use Rattle.tree_translation.specs.Standings.{Standing, inside, all_here, here, placed}

-- A search below constructors of family n at the parameters ps, for variable x. All are at one depth.
pub record Search : Type 0 where
  pub family : ℕ
  pub shape : Shape
  pub carrier : Carrier
  pub parameters : List Term
  pub x : ℕ

-- variable x itself
abbrev pub is_sought : Search → Term → Bool
is_sought c t = is_variable c.x (variable_in t)

-- a direct argument, and x is there
abbrev pub if_direct : Option ArgumentShape → Bool → Bool
if_direct argument there = if_recursive argument false (λ count type. (count == 0) && there)

-- x is at or below a direct argument among the first `at` arguments of a constructor, of which those that are in t are the
-- last
abbrev pub is_below_along : Search → List ArgumentShape → (at : ℕ) → Term → Bool
is_below_along c arguments (suc at) (App g r) =
    is_below_along c arguments at g
    || if_direct (slice_get arguments at)
    (is_sought c r || in_constructor (constructor_of c.family c.shape r) (λ inner. is_below_along c inner (length inner) r))
is_below_along c arguments _ _ = false

-- From a tuple of D!direct ps (ne x) at the constructor `whole`, what it says of argument `at`: that x is not the argument, or that x
-- is no part of it. The parameters have the first levels, x the next one, and then come the arguments and the tuple.
abbrev pub said_of : Search → Side → (whole : Term) → List ArgumentShape → (at : ℕ) → (tuple : Term) → Term
said_of c side whole arguments at tuple =
    let q = c.carrier in
    let first = q.params + 1 in
    let last = first + length arguments in
    inst (fill no_variable (c.parameters ++ Var c.x ∷ (drop q.params (spine_of whole) ++ tuple ∷ [])))
    (projection side q (last + 1) (Within (at_level q.params) (at_level (first + at)))
    (component q (last + 1) (at_level q.params) (first + at) (directs first 0 arguments) (variable (last + 1) last)))

-- the component for x: through the first direct argument from the left that is x or has x below it
abbrev pub component_along : Search → (whole : Term) → List ArgumentShape → (at : ℕ) → Term → (tuple : Term) → Term
component_along c whole arguments (suc at) (App g r) tuple =
    cond (is_below_along c arguments at g) (component_along c whole arguments at g tuple)
    (cond (is_sought c r) (said_of c First whole arguments at tuple)
    (with_arguments (constructor_of c.family c.shape r) tuple (λ inner.
    component_along c r inner (length inner) r (said_of c Second whole arguments at tuple))))
component_along c whole arguments _ _ tuple = tuple

abbrev pub component_for : Search → (whole : Term) → (tuple : Term) → Term
component_for c whole tuple =
    with_arguments (constructor_of c.family c.shape whole) tuple (λ arguments.
    component_along c whole arguments (length arguments) whole tuple)

-- \z e. D!direct ps (ne x) z, with e : Eq.l (D ps) x z where x is on the left, and e : Eq.l (D ps) z x where it is on the right; the
-- parameters have the first levels, and x the next one
abbrev pub cycle_motive : Carrier → (from_left : Bool) → Term
cycle_motive q from_left =
    let depth = q.params + 1 in
    let x = at_level q.params in
    let z = at_level depth in
    Lam (carrier_at q depth)
    (Lam (cond from_left (equal q (depth + 1) x (variable (depth + 1) depth)) (equal q (depth + 1) z (variable (depth + 1) q.params)))
    (no_part q (depth + 2) x z))

-- the number of a variable of the context, after the equations
abbrev pub number_here : Standing → (x : ℕ) → ℕ
number_here s x = inside s - (get_or s.variables (level_of (length s.state.context) x) 0 + 1)

abbrev pub search_at : Naming → Standing → (x : ℕ) → Built → Search
search_at number s x b =
    let shape = family_shape b.n b.family in
    record {
      family = b.n;
      shape = shape;
      carrier = carrier_of b.n shape (number (direct_name b.family.name));
      parameters = all_here s b.parameters;
      x = x;
    }

-- D ps
abbrev pub carrier_type : Search → Term
carrier_type c = applied (Fam c.family) c.parameters

-- The transport of D!acyclic ps x along e1 to the other side: Eq.l!elim.l (D ps) x motive (D!acyclic ps x) side e1, or the same by
-- Eq.l!left.l where x is on the right.
abbrev pub transported_acyclic : Naming → (from_left : Bool) → Built → Search → (side e : Term) → Term
transported_acyclic number from_left b c side e =
    let l = b.family.level in
    let head = cond from_left (Elim (equality l) l) (Const (number (left_name l l))) in
    let motive = inst (fill no_variable (c.parameters ++ Var c.x ∷ [])) (cycle_motive c.carrier from_left) in
    let acyclic = App (applied (Const (number (acyclic_name b.family.name))) c.parameters) (Var c.x) in
    applied head (carrier_type c ∷ Var c.x ∷ motive ∷ acyclic ∷ side ∷ e ∷ [])

-- Empty!elim.L (\_. G) of the component for x in that transport, applied to refl.l (D ps) x
abbrev pub by_acyclicity : Naming → (L : ℕ) → Standing → (from_left : Bool) → Built → (side : Term) → Search → Term
by_acyclicity number L s from_left b side c =
    let refuted = component_for c side (transported_acyclic number from_left b c side (Var (inside s - (s.depth + 1)))) in
    App (App (Elim empty_type L) (Lam (Fam empty_type) (placed s.variables (inside s + 1) s.goal)))
    (App refuted (reflexivity b.family.level (carrier_type c) (Var c.x)))

-- Cycle, where `b` is `side`, the side that is no variable
abbrev pub cycle_term : Naming → (L : ℕ) → Standing → (x : ℕ) → (from_left : Bool) → Built → (side : Term) → Term
cycle_term number L s x from_left b side =
    by_acyclicity number L s from_left b (here s side) (search_at number s (number_here s x) b)
