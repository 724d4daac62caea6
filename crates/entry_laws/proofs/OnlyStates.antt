-- States of unification and where they are in a term: they keep to constants of one kind, however far a run is replayed.
use Rattle.std.proofs.Common.{◌≡◌, ℕ, zero, suc, ◌+◌, ◌-◌, ◌==◌, nat_lt, Option, Some, None, List, [], ◌∷◌, ◌++◌, length, take, drop, refl}
use Rattle.theory.specs.Terms.{Term, Var}
use Rattle.theory.specs.Substitutions.{fill}
use Rattle.theory.specs.Telescopes.{Telescope, variables}
use Rattle.theory.specs.Spines.{spine_of}
use Rattle.theory.specs.Eliminators.{no_variable}
use Rattle.theory.specs.Families.{Constructor, Family}
use Rattle.theory.specs.Signatures.{Signature, reflexivity}
use Rattle.core_terms.specs.CaseTrees.{Step}
use Rattle.core_terms.specs.Levels.{variable}
use Rattle.core_terms.specs.declared.case_tree.Rule.{Rule}
use Rattle.core_terms.specs.declared.case_tree.Rule.TheVariants.{SolveRight, SolveLeft, Inject, Conflict, Cycle, Delete}
use Rattle.tele_eq.specs.Items.{Item, term_at}
use Rattle.tele_eq.specs.Environments.{Environment, put}
use Rattle.tele_eq.specs.TelescopicEquality.{equations}
use Rattle.unification.specs.States.{Equation, State, equations_at, right_sides, types_as_they_stand}
use Rattle.unification.specs.Moving.{over_first, behind, moved}
use Rattle.unification.specs.Occurrences.{order_without}
use Rattle.unification.specs.Rules.{level_of}
use Rattle.unification.specs.Solving.{reordered, solved, new_context, solved_state, deleted_state}
use Rattle.unification.specs.Groups.{lowered}
use Rattle.unification.specs.Injecting.{lifted, group_proofs, injected_state}
use Rattle.unification.specs.Records.{argument_items, family_items, constructor_terms}
use Rattle.unification.specs.Built.{Built, built_of}
use Rattle.case_trees.specs.Problems.{Member}
use Rattle.tree_translation.specs.Standings.{Standing, placed, all_placed, placed_telescope, at_levels}
use Rattle.tree_translation.specs.Comparisons.{Comparison, targets, compared_by, compared_in, compared}
use Rattle.tree_translation.specs.Replays.{level_of_first, solved_standing, unless_compared, behind_rule, step_in, behind_step, behind_run}
use Rattle.tree_translation.specs.Splits.{Node, branch_standing}
use Rattle.entry_laws.proofs.OnlyConstants.{Each, each-append, each-map, each-take, each-drop, HasOnly, only-chosen, only-lift, only-ren, only-filled, only-fill, only-spine}
use Rattle.entry_laws.proofs.OnlyEquations.{SuppliesOnly, only-term_at, only-variable, only-put, ItemsOnly, only-reflexivity, only-equations}
use Rattle.entry_laws.proofs.OnlyFamilies.{FamilyOnly, ConstructorOnly, FamiliesOnly, MemberOnly, BuiltOnly, only-built, only-instances, only-lifted, only-argument_items, only-family_items, only-constructor_terms, only-group_proofs}

-- ---- placed terms

pub only-placed : {Q : ℕ → Type 0} (levels : List ℕ) (depth : ℕ) (t : Term) → HasOnly Q t → HasOnly Q (placed levels depth t)
only-placed levels depth t h = only-put (at_levels levels) (length levels) depth t (λ d j. HasOnly.of_var) h

pub only-all_placed : {Q : ℕ → Type 0} (levels : List ℕ) (depth : ℕ) (ts : List Term) → Each (HasOnly Q) ts → Each (HasOnly Q) (all_placed levels depth ts)
only-all_placed levels depth ts all = each-map (placed levels depth) ts (λ t h. only-placed levels depth t h) all

pub only-placed_telescope : {Q : ℕ → Type 0} (levels : List ℕ) (depth : ℕ) (tele : Telescope) → Each (HasOnly Q) tele → Each (HasOnly Q) (placed_telescope levels depth tele)
only-placed_telescope levels depth [] Each.none = Each.none
only-placed_telescope levels depth (a ∷ tele) (Each.more h all) =
    Each.more (only-placed levels depth a h) (only-placed_telescope (levels ++ depth ∷ []) (depth + 1) tele all)

-- ---- equations

pub record EquationOnly (Q : ℕ → Type 0) (e : Equation) : Type 0 where
  pub place : HasOnly Q e.place.type
  pub type : HasOnly Q e.type
  pub left : HasOnly Q e.left
  pub right : HasOnly Q e.right

pub record StateOnly (Q : ℕ → Type 0) (s : State) : Type 0 where
  pub context : Each (HasOnly Q) s.context
  pub equations : Each (EquationOnly Q) s.equations

pub only-equations_at : {Q : ℕ → Type 0} (X : List Item) (types : Telescope) (left right : List Term) → ItemsOnly Q X → Each (HasOnly Q) types → Each (HasOnly Q) left
    → Each (HasOnly Q) right → Each (EquationOnly Q) (equations_at X types left right)
only-equations_at (x ∷ X) (a ∷ types) (u ∷ left) (v ∷ right) (Each.more hx hX) (Each.more ha ht) (Each.more hu hl) (Each.more hv hr) =
    Each.more (record { place = hx; type = ha; left = hu; right = hv }) (only-equations_at X types left right hX ht hl hr)
only-equations_at (x ∷ X) (a ∷ types) (u ∷ left) [] hX ht hl hr = Each.none
only-equations_at (x ∷ X) (a ∷ types) [] right hX ht hl hr = Each.none
only-equations_at (x ∷ X) [] left right hX ht hl hr = Each.none
only-equations_at [] types left right hX ht hl hr = Each.none

pub only-types : {Q : ℕ → Type 0} (es : List Equation) → Each (EquationOnly Q) es → Each (HasOnly Q) (types_as_they_stand es)
only-types [] Each.none = Each.none
only-types (e ∷ es) (Each.more h all) = Each.more h.type (only-types es all)

pub only-right_sides : {Q : ℕ → Type 0} (es : List Equation) → Each (EquationOnly Q) es → Each (HasOnly Q) (right_sides es)
only-right_sides [] Each.none = Each.none
only-right_sides (e ∷ es) (Each.more h all) = Each.more h.right (only-right_sides es all)

-- ---- moved equations

pub only-over_first : {Q : ℕ → Type 0} (n : ℕ) (terms : List Term) → Each (HasOnly Q) terms → SuppliesOnly Q (over_first n terms)
only-over_first n terms all depth position = only-lift (term_at terms position) (depth - n) 0 (only-term_at terms position all)

pub only-behind : {Q : ℕ → Type 0} (n count new : ℕ) (variables places : Environment) → SuppliesOnly Q variables → SuppliesOnly Q places
    → SuppliesOnly Q (behind n count new variables places)
only-behind n count new variables places hv hp depth j =
    only-chosen (nat_lt j n) (variables depth j) _ (hv depth j)
    (only-chosen (nat_lt j (n + count)) (places depth (j - n)) (variable depth (new + (j - (n + count)))) (hp depth (j - n)) HasOnly.of_var)

pub only-moved : {Q : ℕ → Type 0} (items types : Environment) (side : Term → Term) (size depth : ℕ) (es : List Equation) → SuppliesOnly Q items → SuppliesOnly Q types
    → ((t : Term) → HasOnly Q t → HasOnly Q (side t)) → Each (EquationOnly Q) es → Each (EquationOnly Q) (moved items types side size depth es)
only-moved items types side size depth [] hi ht hs Each.none = Each.none
only-moved items types side size depth (e ∷ es) hi ht hs (Each.more h all) =
    Each.more
    (record {
      place = only-put items size depth e.place.type hi h.place;
      type = only-put types size depth e.type ht h.type;
      left = hs e.left h.left;
      right = hs e.right h.right;
    })
    (only-moved items types side (size + 1) (depth + 1) es hi ht hs all)

-- ---- solutions and deletions

pub only-solved : {Q : ℕ → Type 0} (n : ℕ) (order : List ℕ) (p : ℕ) (u : Term) → HasOnly Q u → SuppliesOnly Q (solved n order p u)
only-solved n order p u h depth j =
    only-chosen (j == p) (put (reordered order) n depth u) (reordered order depth j) (only-put (reordered order) n depth u (λ d i. HasOnly.of_var) h) HasOnly.of_var

pub only-new_context : {Q : ℕ → Type 0} (context : Telescope) (s : Environment) (depth : ℕ) (order : List ℕ) → Each (HasOnly Q) context → SuppliesOnly Q s
    → Each (HasOnly Q) (new_context context s depth order)
only-new_context context s depth [] all hs = Each.none
only-new_context context s depth (j ∷ order) all hs =
    Each.more (only-put s j depth (term_at context j) hs (only-term_at context j all)) (only-new_context context s (depth + 1) order all hs)

pub only-solved_state : {Q : ℕ → Type 0} (s : State) (i p : ℕ) (A u : Term) → StateOnly Q s → HasOnly Q A → HasOnly Q u → StateOnly Q (solved_state s i p A u)
only-solved_state s i p A u h hA hu =
    let n = length s.context in
    let order = order_without s.context p in
    let m = length order in
    let hs' = only-solved n order p u hu in
    let hA' = only-put (reordered order) n m A (λ d j. HasOnly.of_var) hA in
    let hu' = only-put (reordered order) n m u (λ d j. HasOnly.of_var) hu in
    record {
      context = only-new_context s.context (solved n order p u) 0 order h.context hs';
      equations =
          only-moved _ _ (put (solved n order p u) n m) (n + 1) m (drop 1 s.equations)
          (only-behind n 1 m (solved n order p u) (over_first m (put (reordered order) n m u ∷ [])) hs' (only-over_first m (put (reordered order) n m u ∷ []) (Each.more hu' Each.none)))
          (only-behind n 1 m (solved n order p u) (over_first m (reflexivity i (put (reordered order) n m A) (put (reordered order) n m u) ∷ [])) hs'
          (only-over_first m (reflexivity i (put (reordered order) n m A) (put (reordered order) n m u) ∷ []) (Each.more (only-reflexivity i (put (reordered order) n m A) (put (reordered order) n m u) hA' hu') Each.none)))
          (λ t k. only-put (solved n order p u) n m t hs' k)
          (each-drop 1 s.equations h.equations);
    }

pub only-deleted_state : {Q : ℕ → Type 0} (s : State) (i : ℕ) (A u : Term) → StateOnly Q s → HasOnly Q A → HasOnly Q u → StateOnly Q (deleted_state s i A u)
only-deleted_state s i A u h hA hu =
    let n = length s.context in
    record {
      context = h.context;
      equations =
          only-moved _ _ (λ t. t) (n + 1) n (drop 1 s.equations)
          (only-behind n 1 n variable (over_first n (u ∷ [])) only-variable (only-over_first n (u ∷ []) (Each.more hu Each.none)))
          (only-behind n 1 n variable (over_first n (reflexivity i A u ∷ [])) only-variable
          (only-over_first n (reflexivity i A u ∷ []) (Each.more (only-reflexivity i A u hA hu) Each.none)))
          (λ t k. k)
          (each-drop 1 s.equations h.equations);
    }

-- ---- injectivity

pub only-injected_state : {Q : ℕ → Type 0} (s : State) (g n number : ℕ) (f : Family) (c : Constructor) (ps us vs : List Term) → StateOnly Q s → FamilyOnly Q f → ConstructorOnly Q c
    → Each (HasOnly Q) ps → Each (HasOnly Q) us → Each (HasOnly Q) vs → StateOnly Q (injected_state s g n number f c ps us vs)
only-injected_state s g n number f c ps us vs h hf hc hps hu hv =
    let m = length s.context in
    let new = m + length c.arguments in
    let X = argument_items n ps c in
    let hX = only-argument_items n ps c hps hc in
    record {
      context = h.context;
      equations =
          each-append (equations_at (argument_items n ps c) (equations (argument_items n ps c) us vs) us vs) _
          (only-equations_at (argument_items n ps c) (equations (argument_items n ps c) us vs) us vs hX (only-equations (argument_items n ps c) us vs hX hu hv) hu hv)
          (only-moved _ _ (λ t. t) (m + g) new (drop g s.equations)
          (only-behind m g new variable (over_first new (constructor_terms n number ps c)) only-variable
          (only-over_first new (constructor_terms n number ps c) (only-constructor_terms n number ps c hps hc)))
          (only-behind m g new variable (over_first new (group_proofs n number f c ps us vs)) only-variable
          (only-over_first new (group_proofs n number f c ps us vs) (only-group_proofs n number f c ps us vs hf hc hps hu hv)))
          (λ t k. k)
          (each-drop g s.equations h.equations));
    }

-- ---- comparisons

pub record StepOnly (Q : ℕ → Type 0) (step : Step) : Type 0 where
  pub ty : HasOnly Q step.ty
  pub left : HasOnly Q step.left
  pub right : HasOnly Q step.right

pub record ComparisonOnly (Q : ℕ → Type 0) (c : Comparison) : Type 0 where
  pub family : FamilyOnly Q c.family
  pub parameters : Each (HasOnly Q) c.parameters
  pub left : BuiltOnly Q c.left
  pub right : BuiltOnly Q c.right
  pub indices : Each (HasOnly Q) c.indices

pub only-targets : {Q : ℕ → Type 0} (ps : List Term) (b : Built) → Each (HasOnly Q) ps → BuiltOnly Q b → Each (HasOnly Q) (targets ps b)
only-targets ps b hps h =
    only-instances (fill (fill no_variable ps) b.arguments) b.constructor.targets (only-fill (fill no_variable ps) b.arguments (only-filled ps hps) h.arguments) h.constructor.targets

only-compared_by : {Q : ℕ → Type 0} (s : State) (k : ℕ) (type : Term) (left right : Built) → StateOnly Q s → HasOnly Q type → BuiltOnly Q left → BuiltOnly Q right
    → ComparisonOnly Q (compared_by s k type left right)
only-compared_by s zero type left right h ht hl hr = record {
  family = hl.family;
  parameters = hl.parameters;
  left = hl;
  right = hr;
  indices = only-targets left.parameters right hl.parameters hr;
}
only-compared_by s (suc k) type left right h ht hl hr =
    let spine = spine_of type in
    record {
      family = hl.family;
      parameters =
          each-map (lowered (suc k)) (take (length spine - suc k) (spine_of type)) (λ t p. only-ren (λ n. n - suc k) t p)
          (each-take (length spine - suc k) (spine_of type) (only-spine type ht));
      left = hl;
      right = hr;
      indices = each-take (suc k) (right_sides s.equations) (only-right_sides s.equations h.equations);
    }

-- a property of an optional value, where it is there
abbrev pub OptionOnly : {X : Type 0} → (X → Type 0) → Option X → Type 0
OptionOnly P None = Unit {0}
OptionOnly P (Some x) = P x

only-compared_in : {Q : ℕ → Type 0} (s : State) (step : Step) (left right : Option Built) → StateOnly Q s → StepOnly Q step → OptionOnly (BuiltOnly Q) left
    → OptionOnly (BuiltOnly Q) right → OptionOnly (ComparisonOnly Q) (compared_in s step left right)
only-compared_in s step (Some left) (Some right) h hs hl hr = only-compared_by s (step.group - 1) step.ty left right h hs.ty hl hr
only-compared_in s step (Some left) None h hs hl hr = tt
only-compared_in s step None right h hs hl hr = tt

pub only-built_of : {Q : ℕ → Type 0} (S : Signature) (t : Term) → FamiliesOnly Q S → HasOnly Q t → OptionOnly (BuiltOnly Q) (built_of S t)
only-built_of {Q} S t families h = by (built_of S t) refl
  where
    by : (o : Option Built) → built_of S t ≡ o → OptionOnly (BuiltOnly Q) o
    by None e = tt
    by (Some b) e = only-built S t b families e h

pub only-compared : {Q : ℕ → Type 0} (S : Signature) (s : State) (step : Step) → FamiliesOnly Q S → StateOnly Q s → StepOnly Q step
    → OptionOnly (ComparisonOnly Q) (compared S s step)
only-compared S s step families h hs =
    only-compared_in s step (built_of S step.left) (built_of S step.right) h hs (only-built_of S step.left families hs.left) (only-built_of S step.right families hs.right)

-- ---- standings

pub record StandingOnly (Q : ℕ → Type 0) (s : Standing) : Type 0 where
  pub state : StateOnly Q s.state
  pub goal : HasOnly Q s.goal

pub only-solved_standing : {Q : ℕ → Type 0} (s : Standing) (x : ℕ) (A u : Term) → StandingOnly Q s → HasOnly Q A → HasOnly Q u → StandingOnly Q (solved_standing s x A u)
only-solved_standing s x A u h hA hu =
    let n = length s.state.context in
    let p = level_of n x in
    let order = order_without s.state.context p in
    record {
      state = only-solved_state s.state (level_of_first s.state.equations) p A u h.state hA hu;
      goal = only-put (solved n order p u) n (length order) s.goal (only-solved n order p u hu) h.goal;
    }

pub only-unless_compared : {Q : ℕ → Type 0} (s : Standing) (g : ℕ) (o : Option Comparison) → StandingOnly Q s → OptionOnly (ComparisonOnly Q) o
    → StandingOnly Q (unless_compared s g o)
only-unless_compared s g None h hc = h
only-unless_compared s g (Some c) h hc = record {
  state =
      only-injected_state s.state g c.n c.left.number c.family c.left.constructor c.parameters c.left.arguments c.right.arguments h.state hc.family hc.left.constructor
      hc.parameters hc.left.arguments hc.right.arguments;
  goal = h.goal;
}

pub only-behind_rule : {Q : ℕ → Type 0} (S : Signature) (s : Standing) (step : Step) (rule : Rule) → FamiliesOnly Q S → StandingOnly Q s → StepOnly Q step
    → StandingOnly Q (behind_rule S s step rule)
only-behind_rule S s step (SolveRight x) families h hs = only-solved_standing s x step.ty step.left h hs.ty hs.left
only-behind_rule S s step (SolveLeft x) families h hs = only-solved_standing s x step.ty step.right h hs.ty hs.right
only-behind_rule S s step (Inject n number) families h hs =
    only-unless_compared s step.group (compared S s.state step) h (only-compared S s.state step families h.state hs)
only-behind_rule S s step Delete families h hs = record {
  state = only-deleted_state s.state (level_of_first s.state.equations) step.ty step.left h.state hs.ty hs.left;
  goal = h.goal;
}
only-behind_rule S s step (Conflict n c d) families h hs = h
only-behind_rule S s step (Cycle x) families h hs = h

pub only-step_in : {Q : ℕ → Type 0} (s : Standing) (step : Step) → StepOnly Q step → StepOnly Q (step_in s step)
only-step_in s step h = record { ty = only-placed _ _ step.ty h.ty; left = only-placed _ _ step.left h.left; right = only-placed _ _ step.right h.right }

pub only-behind_step : {Q : ℕ → Type 0} (S : Signature) (s : Standing) (step : Step) → FamiliesOnly Q S → StandingOnly Q s → StepOnly Q step → StandingOnly Q (behind_step S s step)
only-behind_step S s step families h hs = only-behind_rule S s (step_in s step) (step_in s step).rule families h (only-step_in s step hs)

pub only-behind_run : {Q : ℕ → Type 0} (S : Signature) (steps : List Step) (s : Standing) → FamiliesOnly Q S → StandingOnly Q s → Each (StepOnly Q) steps → StandingOnly Q (behind_run S steps s)
only-behind_run S [] s families h Each.none = h
only-behind_run S (step ∷ steps) s families h (Each.more hs all) =
    only-behind_run S steps (behind_step S s step) families (only-behind_step S s step families h hs) all

-- ---- nodes

pub record NodeOnly (Q : ℕ → Type 0) (node : Node) : Type 0 where
  pub context : Each (HasOnly Q) node.context
  pub goal : HasOnly Q node.goal

pub only-branch_standing : {Q : ℕ → Type 0} (node : Node) (m : Member) (x number : ℕ) (c : Constructor) → NodeOnly Q node → MemberOnly Q m → ConstructorOnly Q c
    → StandingOnly Q (branch_standing node m x number c)
only-branch_standing node m x number c hn hm hc =
    let count = length c.arguments in
    let X = family_items m.n m.family (lifted count m.parameters) in
    let left = constructor_terms m.n number m.parameters c in
    let right = lifted count m.indices ++ Var (x + count) ∷ [] in
    let hX = only-family_items m.n m.family (lifted count m.parameters) hm.family (only-lifted count m.parameters hm.parameters) in
    let hl = only-constructor_terms m.n number m.parameters c hm.parameters hc in
    let hr = each-append (lifted count m.indices) (Var (x + count) ∷ []) (only-lifted count m.indices hm.indices) (Each.more HasOnly.of_var Each.none) in
    record {
      state = record {
        context = each-append node.context _ hn.context (only-argument_items m.n m.parameters c hm.parameters hc);
        equations =
            only-equations_at (family_items m.n m.family (lifted count m.parameters))
            (equations (family_items m.n m.family (lifted count m.parameters)) (constructor_terms m.n number m.parameters c) (lifted count m.indices ++ Var (x + count) ∷ []))
            (constructor_terms m.n number m.parameters c) (lifted count m.indices ++ Var (x + count) ∷ []) hX
            (only-equations (family_items m.n m.family (lifted count m.parameters)) (constructor_terms m.n number m.parameters c) (lifted count m.indices ++ Var (x + count) ∷ []) hX hl hr)
            hl hr;
      };
      goal = only-lift node.goal count 0 hn.goal;
    }
