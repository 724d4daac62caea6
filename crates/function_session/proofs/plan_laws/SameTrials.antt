-- Signatures of which the same is read have the same trials of the rules of unification, and the same runs.
use mathlib.Core.Path.{fun_ext}
use Rattle.std.proofs.Common.{◌≡◌, ℕ, zero, suc, ◌+◌, ◌==◌, Bool, true, false, cond, Option, Some, None, option_map, option_and_then, List, [], ◌∷◌, length, slice_get, take, Ok, refl, ap, ap₂, ◌∙◌}
use Rattle.theory.specs.Terms.{Term, Var, Con, Fam, height}
use Rattle.theory.specs.Families.{Argument, Family}
use Rattle.theory.specs.Signatures.{Signature}
use Rattle.theory.specs.Spines.{head_of, spine_of}
use Rattle.core_terms.specs.Answers.{Spent, and_next}
use Rattle.core_terms.specs.CaseTrees.{Step}
use Rattle.kernel_reduce.specs.Comparison.{both}
use Rattle.kernel_reduce.specs.Reduction.{answered, nesting, whnf_of}
use Rattle.kernel_reduce.specs.Tidying.{tidy_of}
use Rattle.unification.specs.Built.{Built, built_of, is_direct, is_fitting, with_all, with_spine}
use Rattle.unification.specs.Constructors.{both_heads, conflict_step, injection_step, constructor_trial, constructor_turn, heads, on_constructors, right_head, same_constructor, where_fits, with_built, with_heads}
use Rattle.unification.specs.Cycles as cycle
use Rattle.unification.specs.Cycles.{Below, Search, among_arguments, below_constructor, bounded_found, by_less, by_room, cycle_at, cycle_search, cycle_step, cycle_trial, found_as, here_or, in_form, is_acyclic, is_variable, left_constructor, left_form, left_variable, no_argument, not_found, reduced_side, right_variable, search_in, with_arguments}
use Rattle.unification.specs.Deletions.{delete, deletion_step, deletion_trial, if_convertible}
use Rattle.unification.specs.Groups.{Membership, all_convertible, are_equations_of, group_trials, group_turn, if_holds, last_trial, membership_of, membership_with, on_membership, with_places}
use Rattle.unification.specs.Heights.{bounded_state, equations_made, injection_made}
use Rattle.unification.specs.Records.{family_items}
use Rattle.unification.specs.Solutions.{if_free, is_free_of, left_step, right_step, side_solved, solution_from, solution_trial, solve_side, solve_sides, state_solved, turn_by, variable_in, with_variable}
use Rattle.unification.specs.Solving.{deleted_state}
use Rattle.unification.specs.States.{Equation, State, left_sides, right_sides, types_as_they_stand}
use Rattle.unification.specs.Sticking.{are_indexed, stuck_trial, why_sides, why_stuck}
use Rattle.unification.specs.Strategy.{first_trials, trials, turn_of}
use Rattle.unification.specs.Turns.{Fails, Sticks, Trial, applies, does_not_apply, fails_at, goes_to, on_tidied, or_else, sticks_at, tidied, type_in}
use Rattle.unification.specs.declared.why.Why.{Why}
use Rattle.unification.specs.declared.why.Why.TheVariants.{NeedsK, NotRigid, NeedsIndexEquations}
use Rattle.function_session.specs.plan_laws.Reading.{AreReadAlike}
use Rattle.function_session.proofs.plan_laws.SameReduction.{convertible-is, normal-is, tidy-is, whnf-is}

-- how a term is reduced
abbrev Heads : Type 0
Heads = Bool → ℕ → Term → Spent Term

abbrev Tidies : Type 0
Tidies = ℕ → Term → Spent Term

abbrev Sides : Type 0
Sides = ℕ → Spent (Option (Term × Term))

abbrev Finds : Type 0
Finds = Term → Option Built

module _ (S T : Signature) (alike : AreReadAlike S T) where
  -- ---- constructors

  spine-same : (h : Term) (us : List Term) → with_spine S h us ≡ with_spine T h us
  spine-same (Con n number) us =
      ap (option_and_then (λ (f : Family). option_and_then (with_all n number f us) (slice_get f.constructors number))) (alike.families n)
  spine-same _ us = refl

  pub built-is : built_of S ≡ built_of T
  built-is = fun_ext (λ t. spine-same (head_of t) (spine_of t))

  right-head-same : (l v : Term) (o : Option Built) (left : ℕ) → right_head S l v o left ≡ right_head T l v o left
  right-head-same l v None left = refl
  right-head-same l v (Some b) left =
      ap₂
      (λ (w : Heads) (find : Finds).
      and_next (w true left v) (λ r rest. answered (Ok (both_heads l r (where_fits (λ d. d.n == b.n) (find r)))) rest))
      (whnf-is S T alike) built-is

  right-head-is : right_head S ≡ right_head T
  right-head-is = fun_ext (λ l. fun_ext (λ v. fun_ext (λ o. fun_ext (λ left. right-head-same l v o left))))

  heads-is : (fits : Built → Bool) (u v : Term) → heads S fits u v ≡ heads T fits u v
  heads-is fits u v =
      ap₂ {C = Sides}
      (λ (w : Heads) (go : (l v : Term) → Option Built → ℕ → Spent (Option (Term × Term))) (left : ℕ).
      and_next (w true left u) (λ l rest. go l v (where_fits fits (built_of S l)) rest))
      (whnf-is S T alike) right-head-is
      ∙ ap {B = Sides}
      (λ (find : Finds) (left : ℕ). and_next (whnf_of T true left u) (λ l rest. right_head T l v (where_fits fits (find l)) rest))
      built-is

  with-heads-same : (go : (l : Term) (b : Built) (r : Term) (d : Built) → Trial) (found : Option (Term × Term)) → with_heads S go found ≡ with_heads T go found
  with-heads-same go None = refl
  with-heads-same go (Some sides) = ap (λ (find : Finds). with_built go sides.0 sides.1 (find sides.0) (find sides.1)) built-is

  pub on-constructors-is : (fits : Built → Bool) (u v : Term) (go : (l : Term) (b : Built) (r : Term) (d : Built) → Trial)
      → on_constructors S fits u v go ≡ on_constructors T fits u v go
  on-constructors-is fits u v go =
      ap₂ {C = Trial}
      (λ (h : ℕ → Spent (Option (Term × Term))) (next : Option (Term × Term) → Trial) (left : ℕ). and_next (h left) (λ found rest. next found rest))
      (heads-is fits u v) (fun_ext (λ found. with-heads-same go found))

  tidied-is : (u v : Term) → tidied S u v ≡ tidied T u v
  tidied-is u v =
      ap {B = ℕ → Spent (Term × Term)}
      (λ (w : Tidies) (left : ℕ). and_next (w left u) (λ u' rest. and_next (w rest v) (λ v' end. answered (Ok (u', v')) end)))
      (tidy-is S T alike)

  on-tidied-is : (u v : Term) (go : Term → Term → Trial) → on_tidied S u v go ≡ on_tidied T u v go
  on-tidied-is u v go =
      ap {B = Trial} (λ (h : ℕ → Spent (Term × Term)) (left : ℕ). and_next (h left) (λ sides rest. go sides.0 sides.1 rest)) (tidied-is u v)

  fails-is : (step : Step) (u v : Term) → fails_at S step u v ≡ fails_at T step u v
  fails-is step u v = on-tidied-is u v (λ u' v'. applies (Fails step u' v'))

  sticks-is : (why : Why) (u v : Term) → sticks_at S why u v ≡ sticks_at T why u v
  sticks-is why u v = on-tidied-is u v (λ u' v'. applies (Sticks why u' v'))

  turn-is : (s : State) (e : Equation) (l : Term) (b : Built) (r : Term) (d : Built) → constructor_turn S s e l b r d ≡ constructor_turn T s e l b r d
  turn-is s e l b r d =
      ap (λ (fails : Trial). cond (b.number == d.number) (same_constructor s e l r b d) fails)
      (fails-is (conflict_step 1 (type_in e.type) l r b d) e.left e.right)

  constructor-is : (s : State) (e : Equation) → constructor_trial S s e ≡ constructor_trial T s e
  constructor-is s e =
      ap (on_constructors S (λ b. is_fitting b.family) e.left e.right)
      (fun_ext (λ l. fun_ext (λ b. fun_ext (λ r. fun_ext (λ d. turn-is s e l b r d)))))
      ∙ on-constructors-is (λ b. is_fitting b.family) e.left e.right (constructor_turn T s e)

  -- ---- cycles

  among-same : (below : Below) (arguments : List Argument) (us : List Term) (left : ℕ)
      → among_arguments S below arguments us left ≡ among_arguments T below arguments us left
  among-same below (a ∷ arguments) (u ∷ us) left =
      ap₂
      (λ (w : Heads) (more : Search (List Term)).
      cond (is_direct a)
      (and_next (w true left u) (λ v rest.
      and_next (below left v rest) (λ found end.
      here_or (option_map (λ w. w ∷ us) found) (found_as (λ ws. u ∷ ws) more) end)))
      (found_as (λ ws. u ∷ ws) more left))
      (whnf-is S T alike) (fun_ext (λ n. among-same below arguments us n))
  among-same below (a ∷ arguments) [] left = refl
  among-same below [] us left = refl

  below-is : (n : ℕ) (below : Below) (o : Option Built) → below_constructor S n below o ≡ below_constructor T n below o
  below-is n below None = refl
  below-is n below (Some b) =
      ap (λ (search : Search (List Term)). cond (b.n == n) (found_as (with_arguments b) search) not_found)
      (fun_ext (λ left. among-same below b.constructor.arguments b.arguments left))

  form-is : (n x : ℕ) (below : Below) (t : Term) → in_form S n x below t ≡ in_form T n x below t
  form-is n x below t =
      ap₂ {C = Search Term}
      (λ (go : Option Built → Search Term) (find : Finds) (left : ℕ).
      cond (is_variable x (variable_in t)) (answered (Ok (Some t)) left) (go (find t) left))
      (fun_ext (λ o. below-is n below o)) built-is

  room-same : (n x : ℕ) (units : Term → Search Term) (room : ℕ) (t : Term) → by_room S n x units room t ≡ by_room T n x units room t
  room-same n x units zero t = refl
  room-same n x units (suc room) t =
      ap (λ (go : Term → Search Term). in_form S n x (by_less units go) t) (fun_ext (λ u. room-same n x units room u))
      ∙ form-is n x (by_less units (by_room T n x units room)) t

  units-same : (n x units : ℕ) (t : Term) → cycle.by_units S n x units t ≡ cycle.by_units T n x units t
  units-same n x zero t = room-same n x no_argument (height t) t
  units-same n x (suc units) t =
      ap (λ (go : Term → Search Term). by_room S n x go (height t) t) (fun_ext (λ u. units-same n x units u))
      ∙ room-same n x (cycle.by_units T n x units) (height t) t

  search-is : (n x : ℕ) (t : Term) → search_in S n x t ≡ search_in T n x t
  search-is n x t = fun_ext (λ left. ap (λ (go : Search Term). go left) (units-same n x left t))

  reduced-is : (x : ℕ) (t : Term) (o : Option Built) → reduced_side S x t o ≡ reduced_side T x t o
  reduced-is x t None = refl
  reduced-is x t (Some b) =
      ap {B = Search Term}
      (λ (search : Search Term) (left : ℕ).
      cond (is_acyclic b) (and_next (search left) (λ found rest. answered (bounded_found found) rest)) (not_found left))
      (search-is b.n x t)

  cycle-at-is : (e : Equation) (step : Term → Step) (o : Option Term) → cycle_at S e step o ≡ cycle_at T e step o
  cycle-at-is e step None = refl
  cycle-at-is e step (Some t) = fails-is (step t) e.left e.right

  cycle-search-is : (e : Equation) (x : ℕ) (step : Term → Step) (t : Term) → cycle_search S e x step t ≡ cycle_search T e x step t
  cycle-search-is e x step t =
      ap₂ {C = Trial}
      (λ (find : Finds) (side : Option Built → Search Term) (left : ℕ). and_next (side (find t) left) (λ found rest. cycle_at S e step found rest))
      built-is (fun_ext (λ o. reduced-is x t o))
      ∙ ap {B = Trial}
      (λ (at : Option Term → Trial) (left : ℕ). and_next (reduced_side T x t (built_of T t) left) (λ found rest. at found rest))
      (fun_ext (λ o. cycle-at-is e step o))

  left-variable-is : (e : Equation) (x : ℕ) → left_variable S e x ≡ left_variable T e x
  left-variable-is e x =
      ap₂ {C = Trial}
      (λ (w : Heads) (go : (Term → Step) → Term → Trial) (left : ℕ).
      and_next (w true left e.right) (λ r rest. go (λ v. cycle_step e x (Var x) v) r rest))
      (whnf-is S T alike) (fun_ext (λ step. fun_ext (λ t. cycle-search-is e x step t)))

  right-variable-is : (e : Equation) (l : Term) (o : Option ℕ) → right_variable S e l o ≡ right_variable T e l o
  right-variable-is e l None = refl
  right-variable-is e l (Some x) = cycle-search-is e x (λ u. cycle_step e x u (Var x)) l

  left-constructor-is : (e : Equation) (l : Term) (o : Option Built) → left_constructor S e l o ≡ left_constructor T e l o
  left-constructor-is e l None = refl
  left-constructor-is e l (Some b) =
      ap₂ {C = Trial}
      (λ (w : Heads) (go : Option ℕ → Trial) (left : ℕ).
      cond (is_acyclic b) (and_next (w true left e.right) (λ r rest. go (variable_in r) rest)) (does_not_apply left))
      (whnf-is S T alike) (fun_ext (λ o. right-variable-is e l o))

  left-form-is : (e : Equation) (l : Term) (o : Option ℕ) → left_form S e l o ≡ left_form T e l o
  left-form-is e l (Some x) = left-variable-is e x
  left-form-is e l None =
      ap (λ (find : Finds). left_constructor S e l (find l)) built-is ∙ left-constructor-is e l (built_of T l)

  cycle-is : (e : Equation) → cycle_trial S e ≡ cycle_trial T e
  cycle-is e =
      ap₂ {C = Trial}
      (λ (w : Heads) (go : Term → Option ℕ → Trial) (left : ℕ). and_next (w true left e.left) (λ l rest. go l (variable_in l) rest))
      (whnf-is S T alike) (fun_ext (λ l. fun_ext (λ o. left-form-is e l o)))

  -- ---- deletion

  delete-is : (s : State) (e : Equation) → delete S s e ≡ delete T s e
  delete-is s e =
      ap₂ {C = Trial}
      (λ (w : Tidies) (go : (u v : Term) → (Term → Term → Trial) → Trial) (left : ℕ).
      and_next (w left (type_in e.type)) (λ A rest.
      go e.left e.right (λ u v. goes_to (deletion_step A u v) (bounded_state (deleted_state s e.place.level A u))) rest))
      (tidy-is S T alike) (fun_ext (λ u. fun_ext (λ v. fun_ext (λ go. on-tidied-is u v go))))

  if-convertible-is : (s : State) (e : Equation) (b : Bool) → if_convertible S s e b ≡ if_convertible T s e b
  if-convertible-is s e true =
      ap (λ (k : Bool). cond k (delete S s e) (sticks_at S NeedsK e.left e.right)) alike.has_k
      ∙ ap₂ (λ (d sticks : Trial). cond T.has_k d sticks) (delete-is s e) (sticks-is NeedsK e.left e.right)
  if-convertible-is s e false = refl

  deletion-is : (s : State) (e : Equation) → deletion_trial S s e ≡ deletion_trial T s e
  deletion-is s e =
      ap₂ {C = Trial}
      (λ (compare : ℕ → Term → Term → ℕ → Spent Bool) (go : Bool → Trial) (left : ℕ).
      and_next (compare nesting e.left e.right left) (λ holds rest. go holds rest))
      (convertible-is S T alike) (fun_ext (λ b. if-convertible-is s e b))

  -- ---- groups

  membership-with-same : (k : ℕ) (h : Term) (spine : List Term) → membership_with S k h spine ≡ membership_with T k h spine
  membership-with-same k (Fam n) spine = ap (option_and_then (with_places k n spine)) (alike.families n)
  membership-with-same k _ spine = refl

  membership-is : (k : ℕ) (t : Term) → membership_of S k t ≡ membership_of T k t
  membership-is k t = membership-with-same k (head_of t) (spine_of t)

  all-convertible-same : (types others : List Term) (left : ℕ) → all_convertible S types others left ≡ all_convertible T types others left
  all-convertible-same (a ∷ types) (b ∷ others) left =
      ap₂
      (λ (compare : ℕ → Term → Term → ℕ → Spent Bool) (more : ℕ → Spent Bool). both (compare nesting a b) more left)
      (convertible-is S T alike) (fun_ext (λ n. all-convertible-same types others n))
  all-convertible-same (a ∷ types) [] left = refl
  all-convertible-same [] others left = refl

  are-equations-is : (m : Membership) (group : List Equation) → are_equations_of S m group ≡ are_equations_of T m group
  are-equations-is m group =
      ap {B = ℕ → Spent Bool}
      (λ (all : (types others : List Term) → ℕ → Spent Bool) (left : ℕ).
      and_next (answered (equations_made (family_items m.n m.family m.parameters) (left_sides group) (right_sides group)) left)
      (λ types rest. all (types_as_they_stand group) types rest))
      (fun_ext (λ types. fun_ext (λ others. fun_ext (λ left. all-convertible-same types others left))))

  group-turn-is : (s : State) (k : ℕ) (e : Equation) (m : Membership) (type l : Term) (b : Built) (r : Term) (d : Built)
      → group_turn S s k e m type l b r d ≡ group_turn T s k e m type l b r d
  group-turn-is s k e m type l b r d =
      ap
      (λ (fails : Trial).
      cond (b.number == d.number)
      (goes_to (injection_step (k + 1) type l r b)
      (injection_made s (k + 1) b.n b.number m.family b.constructor m.parameters b.arguments d.arguments))
      fails)
      (fails-is (conflict_step (k + 1) type l r b d) e.left e.right)

  on-membership-is : (s : State) (k : ℕ) (e : Equation) (type : Term) (o : Option Membership)
      → on_membership S s k e type o ≡ on_membership T s k e type o
  on-membership-is s k e type None = refl
  on-membership-is s k e type (Some m) =
      ap₂
      (λ (are : List Equation → ℕ → Spent Bool) (turn : (l : Term) (b : Built) (r : Term) (d : Built) → Trial).
      on_constructors S (λ b. b.n == m.n) e.left e.right (λ l b r d left.
      and_next (are (take (k + 1) s.equations) left) (λ holds rest. if_holds holds (turn l b r d) rest)))
      (fun_ext (λ group. are-equations-is m group))
      (fun_ext (λ l. fun_ext (λ b. fun_ext (λ r. fun_ext (λ d. group-turn-is s k e m type l b r d)))))
      ∙ on-constructors-is (λ b. b.n == m.n) e.left e.right (λ l b r d left.
      and_next (are_equations_of T m (take (k + 1) s.equations) left) (λ holds rest. if_holds holds (group_turn T s k e m type l b r d) rest))

  last-is : (s : State) (k : ℕ) (o : Option Equation) → last_trial S s k o ≡ last_trial T s k o
  last-is s k None = refl
  last-is s k (Some e) =
      ap₂ {C = Trial}
      (λ (w : Tidies) (of : Term → Option Membership) (left : ℕ).
      and_next (w left e.place.type) (λ type rest. on_membership S s k e type (of type) rest))
      (tidy-is S T alike) (fun_ext (λ t. membership-is k t))
      ∙ ap {B = Trial}
      (λ (on : Term → Option Membership → Trial) (left : ℕ).
      and_next (tidy_of T left e.place.type) (λ type rest. on type (membership_of T k type) rest))
      (fun_ext (λ type. fun_ext (λ o. on-membership-is s k e type o)))

  groups-is : (s : State) (k : ℕ) → group_trials S s k ≡ group_trials T s k
  groups-is s zero = refl
  groups-is s (suc k) = ap₂ or_else (last-is s (suc k) (slice_get s.equations (suc k))) (groups-is s k)

  -- ---- solutions

  solution-from-is : (s : State) (x : ℕ) (u : Term) → solution_from S s x u ≡ solution_from T s x u
  solution-from-is s x u =
      ap {B = ℕ → Spent (Option Term)}
      (λ (normal : Bool → ℕ → Term → ℕ → Spent Term) (left : ℕ).
      cond (is_free_of s x u) (answered (Ok (Some u)) left)
      (and_next (normal true nesting u left) (λ v rest. answered (Ok (if_free s x v)) rest)))
      (normal-is S T alike)

  side-is : (s : State) (e : Equation) (x : ℕ) (A other : Term) → side_solved S s e x A other ≡ side_solved T s e x A other
  side-is s e x A other =
      ap {B = ℕ → Spent (Option (Term × State))}
      (λ (from : ℕ → Spent (Option Term)) (left : ℕ).
      and_next (cond (is_free_of s x A) (from left) (answered (Ok None) left)) (λ found rest. answered (state_solved s e x A found) rest))
      (solution-from-is s x other)

  solve-side-is : (s : State) (e : Equation) (A other : Term) (step : ℕ → Term → Step) (o : Option ℕ)
      → solve_side S s e A other step o ≡ solve_side T s e A other step o
  solve-side-is s e A other step None = refl
  solve-side-is s e A other step (Some x) =
      ap {B = Trial}
      (λ (side : ℕ → Spent (Option (Term × State))) (left : ℕ). and_next (side left) (λ found rest. answered (Ok (turn_by (step x) found)) rest))
      (side-is s e x A other)

  solve-sides-is : (s : State) (e : Equation) (A u v : Term) → solve_sides S s e A u v ≡ solve_sides T s e A u v
  solve-sides-is s e A u v =
      ap₂ or_else (solve-side-is s e A u (right_step A v) (variable_in v)) (solve-side-is s e A v (left_step A u) (variable_in u))

  sides-from : (s : State) (e : Equation) (u v : Term)
      → ◌≡◌ {A = Trial} (λ left. and_next (tidy_of S left (type_in e.type)) (λ A rest. solve_sides S s e A u v rest))
      (λ left. and_next (tidy_of T left (type_in e.type)) (λ A rest. solve_sides T s e A u v rest))
  sides-from s e u v =
      ap₂ {C = Trial}
      (λ (w : Tidies) (go : Term → Trial) (left : ℕ). and_next (w left (type_in e.type)) (λ A rest. go A rest))
      (tidy-is S T alike) (fun_ext (λ A. solve-sides-is s e A u v))

  with-variable-is : (s : State) (e : Equation) (u v : Term) (a b : Option ℕ) → with_variable S s e u v a b ≡ with_variable T s e u v a b
  with-variable-is s e u v None None = refl
  with-variable-is s e u v None (Some y) = sides-from s e u v
  with-variable-is s e u v (Some x) b = sides-from s e u v

  solution-is : (s : State) (e : Equation) → solution_trial S s e ≡ solution_trial T s e
  solution-is s e =
      ap (on_tidied S e.left e.right) (fun_ext (λ u. fun_ext (λ v. with-variable-is s e u v (variable_in u) (variable_in v))))
      ∙ on-tidied-is e.left e.right (λ u v. with_variable T s e u v (variable_in u) (variable_in v))

  -- ---- turns

  why-sides-same : (u v : Term) (a b : Option ℕ) → why_sides S u v a b ≡ why_sides T u v a b
  why-sides-same u v a (Some y) = refl
  why-sides-same u v (Some x) None = refl
  why-sides-same u v None None = ap (λ (find : Finds). cond (are_indexed (find u) (find v)) NeedsIndexEquations NotRigid) built-is

  stuck-is : (e : Equation) → stuck_trial S e ≡ stuck_trial T e
  stuck-is e =
      ap
      (λ (why : Term → Term → Why). on_tidied S e.left e.right (λ u v. applies (Sticks (why u v) u v)))
      (fun_ext (λ u. fun_ext (λ v. why-sides-same u v (variable_in u) (variable_in v))))
      ∙ on-tidied-is e.left e.right (λ u v. applies (Sticks (why_stuck T u v) u v))

  first-is : (s : State) (e : Equation) → first_trials S s e ≡ first_trials T s e
  first-is s e =
      ap₂ or_else (solution-is s e)
      (ap₂ or_else (constructor-is s e) (ap₂ or_else (cycle-is e) (ap₂ or_else (deletion-is s e) (stuck-is e))))

  trials-same : (s : State) (equations : List Equation) → trials S s equations ≡ trials T s equations
  trials-same s [] = refl
  trials-same s (e ∷ rest) = ap₂ or_else (groups-is s (length rest)) (first-is s e)

  pub turn-of-is : turn_of S ≡ turn_of T
  turn-of-is = fun_ext (λ s. trials-same s s.equations)
