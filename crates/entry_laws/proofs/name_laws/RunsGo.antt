-- The runs of a split node go as its term asks: what is compared is found, last rules come last, and a cycle has its variable in its side.
use Rattle.std.proofs.Common.{◌≡◌, ◌⊎◌, inl, inr, ℕ, zero, suc, ◌+◌, ◌-◌, ◌<◌, ◌==◌, ◌&&◌, ◌||◌, Bool, true, false, Option, Some, None, IfSome, option_map, Result, Ok, Err, IfOk, List, [], ◌∷◌, ◌++◌, length, map, get_or, slice_get, refl, sym, ap, ap₂, ◌∙◌, subst as transport, arith}
use Rattle.std.proofs.lemmas.Bool.{true≢false, eq-eqb}
use Rattle.std.proofs.lemmas.List.{length-append, length-map, map-append}
use Rattle.std.proofs.lemmas.Option.{slice_get-map}
use Rattle.std.proofs.lemmas.Result.{IfOk-at_ok}
use Rattle.theory.specs.Terms.{Term, Var, App, Con}
use Rattle.theory.specs.Spines.{head_of, spine_of}
use Rattle.theory.specs.Telescopes.{applied}
use Rattle.theory.specs.Families.{Constructor, Family}
use Rattle.theory.specs.Signatures.{Signature}
use Rattle.theory.specs.SignatureScopes.{IsScoped}
use Rattle.core_terms.specs.CaseTrees.{Step}
use Rattle.core_terms.specs.declared.case_tree.Rule.TheVariants.{Inject}
use Rattle.core_terms.specs.declared.stop.Stop.{Stop}
use Rattle.core_sig.specs.FamilyShapes.{family_shape}
use Rattle.core_sig.specs.Shapes.{ArgumentShape, ConstructorShape, by_kind}
use Rattle.core_sig.specs.declared.family.ArgKind.{ArgKind}
use Rattle.core_sig.specs.declared.family.ArgKind.TheVariants.{Plain, Recursive}
use Rattle.case_below_gen.specs.PartTests.{constructor_of, has_part, has_part_along, in_constructor, is_applied, is_at}
use Rattle.case_below_gen.specs.StrictParts.{IsRecursiveArgument, IsStrictPart}
use Rattle.case_below_gen.proofs.PartTests.{applied-tells, and-tells, or-tells, part-found}
use Rattle.tele_eq.specs.Items.{Item}
use Rattle.unification.specs.Built.{Built, built_of}
use Rattle.unification.specs.Outcomes.{Absurd, Outcome, Solved, Stuck, steps_in}
use Rattle.unification.specs.Records.{argument_items}
use Rattle.unification.specs.Rules.{IsAbsurd, Steps, conflict, conflict_group, cycle_left, cycle_right, delete, inject, inject_group, level_of, more, none, solve_left, solve_right}
use Rattle.unification.specs.Runs as unification
use Rattle.unification.specs.Runs.{Run, end_of, run_of}
use Rattle.unification.specs.Runs.Run.{ends, goes, refused}
use Rattle.unification.specs.ScopedStates.{IsReady, IsScopedProblem, IsScopedState, IsScopedStep}
use Rattle.unification.specs.States.{Problem, State}
use Rattle.unification.specs.Turns.{Done, Fails, Goes, Sticks, Turn}
use Rattle.unification.proofs.Constructors.{built-is, found, one-family}
use Rattle.unification.proofs.Cases.{second-of_three}
use Rattle.unification.proofs.RunLaws.{runs-end}
use Rattle.unification.proofs.RunProperties.{unify-has}
use Rattle.unification.proofs.ScopedEquations.{start-is, start-scoped}
use Rattle.unification.proofs.ScopedRecords.{length-argument_items}
use Rattle.unification.proofs.TurnLaws.{turn-at}
use Rattle.unification.proofs.TurnProperties.{IsRight}
use Rattle.case_trees.specs.Problems.{Member}
use Rattle.case_trees.specs.Standing.{Runs}
use Rattle.tree_translation.specs.CycleTerms.{Search, if_direct, is_below_along, is_sought, number_here, search_at}
use Rattle.tree_translation.specs.Hidden.{visible, widened, widened_number}
use Rattle.tree_translation.specs.Laws.{StandsApart, Widens}
use Rattle.tree_translation.specs.Naming.{Naming}
use Rattle.tree_translation.specs.Replays.{behind_step, step_in}
use Rattle.tree_translation.specs.Splits.{Node, branch_standing}
use Rattle.tree_translation.specs.Standings.{Standing, here, inside, levels_from, problem_state}
use Rattle.tree_translation.proofs.LevelLists.{from-apart, from-each, length-levels, levels-at, there-get}
use Rattle.tree_translation.proofs.ReplayedBinders.{replay_stands_apart}
use Rattle.tree_translation.proofs.SeenSteps.{step-seen, variable-seen}
use Rattle.tree_translation.proofs.SeenOrders.{whole-below}
use Rattle.tree_translation.proofs.SeenTerms.{widened-is, widened-variable}
use Rattle.entry_laws.proofs.replay_laws.SeenComparisons.{alone-seen, group-seen}
use Rattle.entry_laws.proofs.name_laws.CycleSides.{IsPartOf, SideIs, turn-side}
use Rattle.entry_laws.proofs.name_laws.LastSides.{CycleSide, LastSide}
use Rattle.entry_laws.proofs.name_laws.ToldRuns.{GoesBy, RunGoes, StandsBelow}

-- ---- terms that are moved

-- applications and constructors stay
pub record Moves (F : Term → Term) : Type 0 where
  pub apps : (g r : Term) → F (App g r) ≡ App (F g) (F r)
  pub cons : (n c : ℕ) → F (Con n c) ≡ Con n c

moved-spine : (F : Term → Term) → Moves F → (t : Term) (n number : ℕ) → head_of t ≡ Con n number → (head_of (F t) ≡ Con n number) × (spine_of (F t) ≡ map F (spine_of t))
moved-spine F m (App g r) n number e =
    let (head, spine) = moved-spine F m g n number e in (
      ap head_of (m.apps g r) ∙ head,
      ap spine_of (m.apps g r) ∙ (ap (λ us. us ++ F r ∷ []) spine ∙ sym (map-append F (spine_of g) (r ∷ []))),
    )
moved-spine F m (Con f c) n number e = (ap head_of (m.cons f c) ∙ e, ap spine_of (m.cons f c))
moved-spine F m _ n number e = absurd (grind arith)

moved-applied : (F : Term → Term) → Moves F → (h : Term) (us : List Term) → F (applied h us) ≡ applied (F h) (map F us)
moved-applied F m h [] = refl
moved-applied F m h (u ∷ us) = moved-applied F m (App h u) us ∙ ap (λ h. applied h (map F us)) (m.apps h u)

argument-moved : (F : Term → Term) → Moves F → (n : ℕ) (f : Family) (t r : Term) (count : ℕ) → IsRecursiveArgument n f t r count → IsRecursiveArgument n f (F t) (F r) count
argument-moved F m n f t r count is =
    let moved = moved-spine F m t n is.number is.head in
    record {
      number = is.number;
      constructor = is.constructor;
      at = is.at;
      head = moved.0;
      known = is.known;
      whole = ap length moved.1 ∙ (length-map (spine_of t) F ∙ is.whole);
      kind = is.kind;
      argument =
          ap (λ us. slice_get us (length f.parameters + is.at)) moved.1
          ∙ (slice_get-map F (spine_of t) (length f.parameters + is.at) ∙ ap (option_map F) is.argument);
    }

pub part-moved : (F : Term → Term) → Moves F → (n : ℕ) (f : Family) (part : Term) {t : Term} → IsStrictPart n f part t → IsStrictPart n f (F part) (F t)
part-moved F m n f part {t} (IsStrictPart.itself {r = r} inner is e) =
    IsStrictPart.itself (map F inner)
    (transport (IsRecursiveArgument n f (F t) (F r)) (sym (length-map inner F)) (argument-moved F m n f t r (length inner) is))
    (ap F e ∙ moved-applied F m r inner)
part-moved F m n f part {t} (IsStrictPart.inside {r = r} is rest) = IsStrictPart.inside (argument-moved F m n f t r 0 is) (part-moved F m n f part rest)

part-head : (n : ℕ) (f : Family) (part : Term) {t : Term} → IsStrictPart n f part t → (number : ℕ) × (head_of t ≡ Con n number)
part-head n f part (IsStrictPart.itself inner is e) = (is.number, is.head)
part-head n f part (IsStrictPart.inside is rest) = (is.number, is.head)

-- ---- a variable that is a strict part

-- a variable at arguments is a variable, where it has none
bare : (x : ℕ) (r : Term) (inner : List Term) → Var x ≡ applied r inner → (inner ≡ []) × (r ≡ Var x)
bare x r [] e = (refl, sym e)
bare x r (u ∷ inner) e = absurd (apart (App r u) inner e r u refl)
  where
    apart : (h : Term) (us : List Term) → Var x ≡ applied h us → (g v : Term) → h ≡ App g v → ⊥
    apart h [] e g v is = grind (arith, e ∙ is)
    apart h (w ∷ us) e g v is = apart (App h w) us e h w refl

kind-below : (x : ℕ) (r : Term) (sought inside inside' : Bool) → (r ≡ Var x → sought ≡ true) → (inside ≡ true → inside' ≡ true) → (o : Option ArgumentShape)
    → is_at (Var x) r o inside ≡ true → if_direct o (sought || inside') ≡ true
kind-below x r sought inside inside' is deeper None h = absurd (true≢false (sym h))
kind-below x r sought inside inside' is deeper (Some a) h = kinds a.kind h
  where
    later : (a b : Bool) → b ≡ true → (a || b) ≡ true
    later true b k = refl
    later false b k = k

    first : (a b : Bool) → a ≡ true → (a || b) ≡ true
    first true b k = refl
    first false b k = absurd (true≢false (sym k))

    both : (a b : Bool) → a ≡ true → b ≡ true → (a && b) ≡ true
    both true true k l = refl
    both true false k l = l
    both false b k l = k

    kinds : (k : ArgKind) → by_kind k false (λ count. is_applied r count (Var x) || ((count == 0) && inside)) ≡ true
        → by_kind k false (λ count. (count == 0) && (sought || inside')) ≡ true
    kinds Plain h = h
    kinds (Recursive count) h = elim (or-tells (is_applied r count (Var x)) ((count == 0) && inside) h) [
      | inl here ↦
          let at = applied-tells r count (Var x) here in
          let one = bare x r at.inner at.form in
          let none : count ≡ 0 = sym at.counted ∙ ap length one.0 in
          both (count == 0) (sought || inside') (ap (λ k. k == 0) none) (first sought inside' (is one.1))
      | inr within ↦ let parts = and-tells (count == 0) inside within in both (count == 0) (sought || inside') parts.0 (later sought inside' (deeper parts.1))
    ]

sought-there : (c : Search) (r : Term) → r ≡ Var c.x → is_sought c r ≡ true
sought-there c r e = ap (is_sought c) e ∙ eq-eqb c.x c.x refl

below-along : (c : Search) (arguments : List ArgumentShape) (at : ℕ) (t : Term) → has_part_along c.family c.shape (Var c.x) arguments at t ≡ true
    → is_below_along c arguments at t ≡ true
below-along c arguments (suc at) (App g r) h = elim (or-tells (has_part_along c.family c.shape (Var c.x) arguments at g) _ h) [
  | inl front ↦ ap (λ b. b || if_direct (slice_get arguments at) (is_sought c r || in_constructor (constructor_of c.family c.shape r) (λ inner. is_below_along c inner (length inner) r))) (below-along c arguments at g front)
  | inr last ↦
      or-last (is_below_along c arguments at g) _
      (kind-below c.x r (is_sought c r) (has_part c.family c.shape (Var c.x) r) (in_constructor (constructor_of c.family c.shape r) (λ inner. is_below_along c inner (length inner) r))
      (sought-there c r) (deeper (constructor_of c.family c.shape r) (λ inner. below-along c inner (length inner) r)) (slice_get arguments at) last)
]
  where
    or-last : (a b : Bool) → b ≡ true → (a || b) ≡ true
    or-last true b k = refl
    or-last false b k = k

    deeper : (o : Option ConstructorShape)
        → ((inner : List ArgumentShape) → has_part_along c.family c.shape (Var c.x) inner (length inner) r ≡ true → is_below_along c inner (length inner) r ≡ true)
        → in_constructor o (λ inner. has_part_along c.family c.shape (Var c.x) inner (length inner) r) ≡ true
        → in_constructor o (λ inner. is_below_along c inner (length inner) r) ≡ true
    deeper None go k = k
    deeper (Some con) go k = go con.arguments k
below-along c arguments zero t h = absurd (true≢false (sym h))
below-along c arguments (suc at) t h = absurd (true≢false (sym h))

pub part-below : (c : Search) (t : Term) → has_part c.family c.shape (Var c.x) t ≡ true
    → in_constructor (constructor_of c.family c.shape t) (λ inner. is_below_along c inner (length inner) t) ≡ true
part-below c t h = by (constructor_of c.family c.shape t) h
  where
    by : (o : Option ConstructorShape) → in_constructor o (λ inner. has_part_along c.family c.shape (Var c.x) inner (length inner) t) ≡ true
        → in_constructor o (λ inner. is_below_along c inner (length inner) t) ≡ true
    by None k = k
    by (Some con) k = below-along c con.arguments (length con.arguments) t k

-- ---- over the whole context, in a standing

-- a variable in a standing has its number there
variable-here : (w : Standing) (x : ℕ) → length w.variables ≡ length w.state.context → x < length w.state.context → here w (Var x) ≡ Var (number_here w x)
variable-here w x whole lt =
    let depth : inside w + 0 ≡ inside w = omega arith in
    let place : length w.variables + 0 - (x + 1) ≡ length w.state.context - (x + 1) = omega arith in
    second-of_three x 0 (length w.variables + 0) _ _ _ (omega arith) (omega arith) ∙ ap₂ (λ d k. Var (d - (get_or w.variables k 0 + 1))) depth place

read-moves : (w : Standing) → Moves (λ t. here w (widened (length w.state.context) w.hidden t))
read-moves w = record { apps = λ g r. refl; cons = λ n c. refl }

no-side : (S : Signature) (w : Standing) (s : State) (x : ℕ) → Widens w s → x < length s.context → built_of S (widened (length w.state.context) w.hidden (Var x)) ≡ None
no-side S w s x h lt =
    let count : length s.context ≡ length (visible (length w.state.context) w.hidden) = h.context.count in
    ap (built_of S) (widened-is (length w.state.context) w.hidden (Var x) ∙ widened-variable (length w.state.context) w.hidden x (omega arith))

number-low : (w : Standing) (s : State) (x : ℕ) → Widens w s → x < length s.context
    → widened_number (length w.state.context) w.hidden x < length w.state.context
number-low w s x h lt =
    let v = variable-seen w s x h lt in
    let low = whole-below w.state.context w.hidden s.context (level_of (length w.state.context) (widened_number (length w.state.context) w.hidden x)) (level_of (length s.context) x) v in
    omega arith

read-variable : (w : Standing) (s : State) (x : ℕ) → Widens w s → StandsApart w → x < length s.context
    → here w (widened (length w.state.context) w.hidden (Var x)) ≡ Var (number_here w (widened_number (length w.state.context) w.hidden x))
read-variable w s x h apart lt =
    let count : length s.context ≡ length (visible (length w.state.context) w.hidden) = h.context.count in
    ap (here w) (widened-is (length w.state.context) w.hidden (Var x) ∙ widened-variable (length w.state.context) w.hidden x (omega arith))
    ∙ variable-here w (widened_number (length w.state.context) w.hidden x) apart.whole (number-low w s x h lt)

-- a search in another family
abbrev in_family : Search → (n : ℕ) → Family → Search
in_family c n f = record c { family = n; shape = family_shape n f }

abbrev IsBelow : Search → (side : Term) → (n : ℕ) → Family → Type 0
IsBelow c side n f =
    in_constructor (constructor_of n (family_shape n f) side) (λ inner. is_below_along (in_family c n f) inner (length inner) side) ≡ true

-- the family of a constructor
abbrev con_family : Term → ℕ
con_family (Con n c) = n
con_family t = 0

stands-found : (S : Signature) (w : Standing) (s : State) (x : ℕ) (left : Term) → Widens w s → StandsApart w → x < length s.context → IsPartOf S x left → (b : Built)
    → built_of S (widened (length w.state.context) w.hidden left) ≡ Some b → (number : Naming)
    → IsBelow (search_at number w (number_here w (widened_number (length w.state.context) w.hidden x)) b) (here w (widened (length w.state.context) w.hidden left)) b.n b.family
stands-found S w s x left h apart lt is b e number =
    transport (λ n. IsBelow c side n b.family) same_number
    (transport (λ f. IsBelow c side is.n f) same_family (part-below (in_family c is.n is.family) side (part-found is.n is.family (Var c.x) moved)))
  where
    c : Search
    c = search_at number w (number_here w (widened_number (length w.state.context) w.hidden x)) b

    side : Term
    side = here w (widened (length w.state.context) w.hidden left)

    moved : IsStrictPart is.n is.family (Var (number_here w (widened_number (length w.state.context) w.hidden x))) (here w (widened (length w.state.context) w.hidden left))
    moved =
        transport (λ part. IsStrictPart is.n is.family part (here w (widened (length w.state.context) w.hidden left))) (read-variable w s x h apart lt)
        (part-moved (λ t. here w (widened (length w.state.context) w.hidden t)) (read-moves w) is.n is.family (Var x) is.part)

    same_number : is.n ≡ b.n
    same_number =
        let head =
        part-head is.n is.family _
        (part-moved (λ t. widened (length w.state.context) w.hidden t) (record { apps = λ g r. refl; cons = λ n c. refl }) is.n is.family (Var x) is.part) in
        ap con_family (sym head.1 ∙ (found S (widened (length w.state.context) w.hidden left) b e).head)

    same_family : is.family ≡ b.family
    same_family =
        one-family S is.n b.n is.family b.family is.known (built-is S (widened (length w.state.context) w.hidden left) b e).built.family same_number

stands-below : (S : Signature) (w : Standing) (s : State) (x : ℕ) (left : Term) → Widens w s → StandsApart w → x < length s.context → IsPartOf S x left → (o : Option Built)
    → built_of S (widened (length w.state.context) w.hidden left) ≡ o
    → StandsBelow w (widened_number (length w.state.context) w.hidden x) (widened (length w.state.context) w.hidden left) o None
stands-below S w s x left h apart lt is None e = tt
stands-below S w s x left h apart lt is (Some b) e = stands-found S w s x left h apart lt is b e

-- ---- steps

var-low : (S : Signature) (n v : ℕ) → IsScoped S n (Var v) → v < n
var-low S n v h = omega (arith, h.variables)

step-goes : (S : Signature) (s t : State) (step : Step) (w : Standing) (steps : List Step) → Steps S s step t → Widens w s
    → GoesBy S w (step_in w step) (step_in w step).rule steps
step-goes S s t _ w steps (solve_right _ e x A u first solvable) h = tt
step-goes S s t _ w steps (solve_left _ e x A u first solvable) h = tt
step-goes S s t _ w steps (inject_group _ k f ps type b d left right same number group) h = (_, group-seen S s w (Inject b.n b.number) k f ps type b d left right group)
step-goes S s t _ w steps (inject _ e A b d left right same number level indices first) h = (_, alone-seen S w (Inject b.n b.number) A b d left right)
step-goes S s t _ w steps (delete _ e A u v k first converts) h = tt

last-goes : (S : Signature) (s : State) (step : Step) (w : Standing) → IsAbsurd S s step → IsScopedStep S (length s.context) step → CycleSide (SideIs S) step step.rule → Widens w s
    → StandsApart w → GoesBy S w (step_in w step) (step_in w step).rule []
last-goes S s _ w (conflict_group _ k f ps type b d left right family number group) scoped side h apart = refl
last-goes S s _ w (conflict _ e A b d left right family number level first) scoped side h apart = refl
last-goes S s _ w (cycle_left _ e n x A v first below) scoped side h apart =
    let lt = var-low S (length s.context) x scoped.left in (
      refl,
      transport (λ o. StandsBelow w (widened_number (length w.state.context) w.hidden x) (widened (length w.state.context) w.hidden (Var x)) o (built_of S (widened (length w.state.context) w.hidden v)))
          (sym (no-side S w s x h lt)) tt,
    )
last-goes S s _ w (cycle_right _ e n x A u first below) scoped side h apart =
    let lt = var-low S (length s.context) x scoped.right in (
      refl,
      transport (StandsBelow w (widened_number (length w.state.context) w.hidden x) (widened (length w.state.context) w.hidden u) (built_of S (widened (length w.state.context) w.hidden u)))
          (sym (no-side S w s x h lt)) (by lt side),
    )
  where
    by : x < length s.context → (u ≡ Var x) ⊎ IsPartOf S x u
        → StandsBelow w (widened_number (length w.state.context) w.hidden x) (widened (length w.state.context) w.hidden u) (built_of S (widened (length w.state.context) w.hidden u)) None
    by lt (inl is) =
        transport (λ o. StandsBelow w (widened_number (length w.state.context) w.hidden x) (widened (length w.state.context) w.hidden u) o None)
        (sym (ap (λ t. built_of S (widened (length w.state.context) w.hidden t)) is ∙ no-side S w s x h lt)) tt
    by lt (inr part) = stands-below S w s x u h apart lt part (built_of S (widened (length w.state.context) w.hidden u)) refl

-- ---- runs

abbrev Holds : Signature → Standing → Outcome → Type 0
Holds S w outcome = RunGoes S (steps_in outcome) w

end-goes : (S : Signature) (s : State) (turn : Turn) (w : Standing) → IsRight S s turn → LastSide (SideIs S) turn → Widens w s → StandsApart w → IfSome (end_of s turn) (Holds S w)
end-goes S s Done w right side h apart = tt
end-goes S s (Goes step t) w right side h apart = tt
end-goes S s (Fails step u v) w right side h apart = (last-goes S s step w right.follows.0 right.good.0.0 side h apart, tt)
end-goes S s (Sticks why u v) w right side h apart = tt

one-more : (S : Signature) (w : Standing) (step : Step) (result : Result Outcome Stop) → ((steps : List Step) → GoesBy S w (step_in w step) (step_in w step).rule steps)
    → IfOk result (Holds S (behind_step S w step)) → IfOk (unification.behind_step step result) (Holds S w)
one-more S w step (Ok (Solved steps context solution)) h k = (h steps, k)
one-more S w step (Ok (Absurd steps context u v)) h k = (h steps, k)
one-more S w step (Ok (Stuck steps context u v why)) h k = (h steps, k)
one-more S w step (Err e) h k = tt

run-goes : (S : Signature) (s : State) (left end : ℕ) (result : Result Outcome Stop) (w : Standing) → IsReady S → IsScopedState S s → Widens w s → StandsApart w
    → Run S s left result end → IfOk result (Holds S w)
run-goes S s left end result w ready scoped h apart (ends _ _ rest turn outcome is e) =
    transport (λ o. IfSome o (Holds S w)) e (end-goes S s turn w ((turn-at S s left rest turn is).right ready scoped) (turn-side S s left rest turn is) h apart)
run-goes S s left end result w ready scoped h apart (refused _ _ rest x is) = tt
run-goes S s left end result w ready scoped h apart (goes _ t _ rest _ step result' is run) =
    one-more S w step result' (λ steps. step-goes S s t step w steps right.follows h)
    (run-goes S t rest end result' (behind_step S w step) ready right.good.0.1 (step-seen S s t step w right.follows h)
    (replay_stands_apart S s t (step ∷ []) w (more s t t step [] (scoped, right.good.0.0) right.follows (none t)) h apart) run)
  where
    right : IsRight S s (Goes step t)
    right = (turn-at S s left rest (Goes step t) is).right ready scoped

-- the run of a problem, from a standing over a whole context
pub problem-goes : (S : Signature) (p : Problem) (outcome : Outcome) (w : Standing) → IsReady S → IsScopedProblem S p → Runs S p outcome → Widens w (problem_state p)
    → StandsApart w → RunGoes S (steps_in outcome) w
problem-goes S p outcome w ready scoped runs widens apart =
    IfOk-at_ok (Holds S w) runs.run
    (unify-has S p runs.units (Holds S w) (λ s start.
    run-goes S s runs.units (run_of S s runs.units).1 (run_of S s runs.units).0 w ready (IfOk-at_ok (IsScopedState S) start (start-scoped S p ready scoped))
    (transport (Widens w) (sym (start-is p s start)) widens) apart (runs-end S s runs.units)))

-- the standing of a branch has binders of its own for all variables
pub branch-apart : (node : Node) (m : Member) (x number : ℕ) (c : Constructor) → StandsApart (branch_standing node m x number c)
branch-apart node m x number c = record {
  whole =
      length-levels 0 depth
      ∙ sym (length-append node.context (map (λ (item : Item). item.type) (argument_items m.n m.parameters c))
      ∙ ap (λ k. length node.context + k) (length-map (argument_items m.n m.parameters c) (λ item. item.type) ∙ length-argument_items m.n m.parameters c));
  bound = λ k d within.
      let long = length-levels 0 depth in
      let at = levels-at 0 depth k (get_or (levels_from 0 depth) k d) (there-get (levels_from 0 depth) k d within) in
      let e : get_or (levels_from 0 depth) k d ≡ 0 + k = at.0 in
      let low : k < depth = at.1 in
      omega arith;
  apart = λ i j level e f. from-apart 0 (levels_from 0 depth) i j level (from-each 0 depth) e f;
}
  where
    depth : ℕ
    depth = length node.context + length c.arguments
