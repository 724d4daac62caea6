-- The turns of the trial of a solution. It makes the context shorter or, if there is no variable, the equations smaller.
use Rattle.std.proofs.Common.{◌≡◌, ℕ, ◌+◌, ◌-◌, ◌<◌, ◌≤◌, ◌⊎◌, inl, inr, Bool, true, false, cond, Option, Some, None, IfSome, Ok, IfOk, List, [], ◌∷◌, length, drop, slice_get, refl, ap₂, sym, subst as transport, ◌∙◌, arith}
use Rattle.std.proofs.lemmas.List.{length-map}
use Rattle.theory.specs.Terms.{Term}
use Rattle.theory.specs.Terms.Term.{Var}
use Rattle.theory.specs.Signatures.{Signature, reflexivity}
use Rattle.theory.specs.SignatureScopes.{IsScoped}
use Rattle.theory.specs.Conversion.{Converts}
use Rattle.theory.specs.Conversion.Converts.{same as itself}
use Rattle.theory.proofs.Congruence.{converts-trans}
use Rattle.core_terms.specs.Answers.{and_next}
use Rattle.core_terms.specs.CaseTrees.{Step}
use Rattle.core_terms.specs.declared.case_tree.Rule.TheVariants.{SolveRight, SolveLeft}
use Rattle.core_terms.proofs.Answers.{and_then-has}
use Rattle.kernel_reduce.specs.Reduction.{nesting, normal_of}
use Rattle.kernel_reduce.specs.Tidying.{tidy_of}
use Rattle.tele_eq.specs.Environments.{Environment, put}
use Rattle.unification.specs.Heights.{bounded_state}
use Rattle.unification.specs.Laws.{Falls}
use Rattle.unification.specs.Laws.Falls.{units, variables, size}
use Rattle.unification.specs.Moving.{over_first, behind}
use Rattle.unification.specs.Occurrences.{order_without}
use Rattle.unification.specs.Rules.{Steps, level_of}
use Rattle.unification.specs.Rules.Steps.{solve_right, solve_left}
use Rattle.unification.specs.Runs.{size_of, size_of_sides}
use Rattle.unification.specs.ScopedStates.{IsReady, IsScopedState, IsScopedStep, variables_behind}
use Rattle.unification.specs.Solutions.{variable_in, is_free_of, if_free, solution_from, solves, state_solved, side_solved, turn_by, solve_side, right_step, left_step, solve_sides, with_variable, solution_trial}
use Rattle.unification.specs.Solving.{reordered, solved, solved_state}
use Rattle.unification.specs.States.{Equation, State}
use Rattle.unification.specs.Turns.{Goes, type_in}
use Rattle.unification.proofs.Cases.{less-or_same}
use Rattle.unification.proofs.MovedStates.{solved_state-scoped, solved_state-context}
use Rattle.unification.proofs.Reducts.{IsReduct, reduced-within, normal-within}
use Rattle.unification.proofs.ScopedEquations.{bounded_state-has}
use Rattle.unification.proofs.Sizes.{size-positive, size-put, sides-moved, sides-behind}
use Rattle.unification.proofs.SolvedContexts.{length-order, length-order_of_none, length-new_context}
use Rattle.unification.proofs.SpentUnits.{Within, answered-within, and_next-within, cond-within}
use Rattle.unification.proofs.Trials.{Found, Comes, none-comes, or_else-comes, on_tidied-comes}
use Rattle.unification.proofs.TurnProperties.{DeletesWithK, IsTurn, IsTried, tried, first-at, type-scoped, first-as, single-scoped}
use Rattle.unification.proofs.Variables.{variable-is, variable-low}

-- ---- the state after a solution

put-of_none : (s : Environment) (n m : ℕ) → n ≡ 0 → m ≡ 0 → (t : Term) → size_of (put s n m t) ≡ size_of t
put-of_none s n m e f t = ap₂ (λ i j. size_of (put s i j t)) e f ∙ size-put s t

solved-smaller : (s : State) (e : Equation) (i p : ℕ) (A u : Term) → slice_get s.equations 0 ≡ Some e → length s.context ≡ 0
    → size_of_sides (solved_state s i p A u).equations < size_of_sides s.equations
solved-smaller s e i p A u at none =
    let n = length s.context in
    let order = order_without s.context p in
    let m = length order in
    let s' = solved n order p u in
    let A' = put (reordered order) n m A in
    let u' = put (reordered order) n m u in
    let items = behind n 1 m s' (over_first m (u' ∷ [])) in
    let types = behind n 1 m s' (over_first m (reflexivity i A' u' ∷ [])) in
    let same : size_of_sides (solved_state s i p A u).equations ≡ size_of_sides (drop 1 s.equations) =
    sides-moved items types (put s' n m) (n + 1) m (drop 1 s.equations) (put-of_none s' n m none (length-order_of_none s.context p none)) in
    let after = sides-behind s.equations 0 e at in
    let positive = size-positive e.left in
    omega arith

solved-falls : (s : State) (e : Equation) (i x : ℕ) (A u : Term) (left rest : ℕ) → slice_get s.equations 0 ≡ Some e → rest ≤ left
    → Falls s left (solved_state s i (length s.context - (x + 1)) A u) rest
solved-falls s e i x A u left rest at le = by_units (less-or_same rest left le)
  where
    p : ℕ
    p = length s.context - (x + 1)

    context-length : length (solved_state s i p A u).context ≡ length (order_without s.context p)
    context-length = length-new_context s.context (solved (length s.context) (order_without s.context p) p u) 0 (order_without s.context p)

    by_context : rest ≡ left → (0 < length s.context) ⊎ (0 ≡ length s.context) → Falls s left (solved_state s i p A u) rest
    by_context same (inl some) =
        let shorter : length (order_without s.context p) + 1 ≡ length s.context = length-order s.context p (omega arith) in
        let h = context-length in
        variables same (omega arith)
    by_context same (inr none) =
        let empty = length-order_of_none s.context p (sym none) in
        let h = context-length in
        size same (omega arith) (solved-smaller s e i p A u at (sym none))

    by_units : (rest < left) ⊎ (rest ≡ left) → Falls s left (solved_state s i p A u) rest
    by_units (inl less) = units less
    by_units (inr same) = by_context same (less-or_same 0 (length s.context) (omega arith))

-- ---- the solving term

-- other converts to u, and variable x is solvable by u in an equation in A
record IsSolution (S : Signature) (s : State) (x : ℕ) (A other u : Term) : Type 0 where
  pub reduct : IsReduct S other u
  pub type : is_free_of s x A ≡ true
  pub term : is_free_of s x u ≡ true

-- a term that solves, from the side itself or from its normal form
solution_from-within : (S : Signature) (s : State) (x : ℕ) (A other : Term) (left : ℕ) → is_free_of s x A ≡ true
    → Within left (Found (λ u rest. IsSolution S s x A other u)) (solution_from S s x other left)
solution_from-within S s x A other left type =
    cond-within (Found (λ u rest. IsSolution S s x A other u)) (is_free_of s x other) _ _ left
    (λ free. answered-within (Found (λ u rest. IsSolution S s x A other u)) (Ok (Some other)) left
    (record { reduct = record { converts = itself; scoped = λ n closed h. h }; type = type; term = free }))
    (λ taken. and_next-within (λ v rest. IsReduct S other v) (Found (λ u rest. IsSolution S s x A other u)) (normal_of S true nesting other left) _ left
    (normal-within S true nesting other left) (λ v rest le h.
    answered-within (Found (λ u rest. IsSolution S s x A other u)) (Ok (if_free s x v)) rest (normal v h (is_free_of s x v) refl)))
  where
    normal : (v : Term) → IsReduct S other v → (b : Bool) → is_free_of s x v ≡ b → IfSome (cond b (Some v) None) (IsSolution S s x A other)
    normal v h true e = record { reduct = h; type = type; term = e }
    normal v h false e = tt

solves-within : (S : Signature) (s : State) (x : ℕ) (A other : Term) (left : ℕ)
    → Within left (Found (λ u rest. IsSolution S s x A other u)) (solves S s x A other left)
solves-within S s x A other left =
    cond-within (Found (λ u rest. IsSolution S s x A other u)) (is_free_of s x A) _ _ left
    (λ free. solution_from-within S s x A other left free)
    (λ taken. answered-within (Found (λ u rest. IsSolution S s x A other u)) (Ok None) left tt)

-- ---- the step

-- a step that solves variable x of a scoped state by u
record IsSolving (S : Signature) (s : State) (e : Equation) (x : ℕ) (A u : Term) (step : Step) : Type 0 where
  pub tried : IsTried S s e
  pub variable : x < length s.context
  pub type_scoped : IsScoped S (length s.context) A
  pub term_scoped : IsScoped S (length s.context) u
  pub step_scoped : IsScopedStep S (length s.context) step
  pub count : variables_behind step.rule (length s.context) ≡ length s.context - 1
  pub follows : Steps S s step (solved_state s e.place.level (level_of (length s.context) x) A u)

-- each solving term makes such a step
abbrev Solving : Signature → State → Equation → (A other : Term) → (x : ℕ) → (Term → Step) → Type 0
Solving S s e A other x step =
    (u : Term) → IsSolution S s x A other u
    → DeletesWithK S (step u) × (IsReady S → IsScopedState S s → IsSolving S s e x A u (step u))

-- the step by a solving term
state_solved-is : (S : Signature) (s : State) (left : ℕ) (e : Equation) (x : ℕ) (A other : Term) (step : Term → Step) (found : Option Term) (rest : ℕ)
    → slice_get s.equations 0 ≡ Some e → rest ≤ left → Solving S s e A other x step → IfSome found (IsSolution S s x A other)
    → IfOk (state_solved s e x A found) (λ pair. IfSome (turn_by step pair) (λ turn. IsTurn S s left turn rest))
state_solved-is S s left e x A other step None rest at le solving h = tt
state_solved-is S s left e x A other step (Some u) rest at le solving h =
    and_then-has (λ t. IsTurn S s left (Goes (step u) t) rest) (λ pair. IfSome (turn_by step pair) (λ turn. IsTurn S s left turn rest))
    (bounded_state (solved_state s e.place.level p A u)) _
    (bounded_state-has (λ t. IsTurn S s left (Goes (step u) t) rest) (solved_state s e.place.level p A u)
    (record {
      allowed = record {
        falls = solved-falls s e e.place.level x A u left rest at le;
        whole = length-map s.solution _;
        deletes = (solving u h).0;
      };
      right = λ ready scoped.
          (let is = (solving u h).1 ready scoped in
          let low : x < length s.context = is.variable in
          record {
            good = (
              (
                is.step_scoped,
                solved_state-scoped S s e.place.level p A u ready scoped (omega arith) is.tried.equation.level is.type_scoped is.term_scoped h.type h.term,
              ),
              solved_state-context s e.place.level p A u (omega arith) ∙ sym is.count,
            );
            follows = is.follows;
          });
    }))
    (λ t k. k)
  where
    p : ℕ
    p = length s.context - (x + 1)

solve_side-is : (S : Signature) (s : State) (left : ℕ) (e : Equation) (A other : Term) (step : ℕ → Term → Step) (found : Option ℕ) (rest : ℕ)
    → slice_get s.equations 0 ≡ Some e → rest ≤ left → ((x : ℕ) → found ≡ Some x → Solving S s e A other x (step x))
    → Comes (IsTurn S s left) (solve_side S s e A other step found) rest
solve_side-is S s left e A other step None rest at le solving = none-comes (IsTurn S s left) rest
solve_side-is S s left e A other step (Some x) rest at le solving =
    and_next-within (λ pair end. IfSome (turn_by (step x) pair) (λ turn. IsTurn S s left turn end)) (Found (IsTurn S s left))
    (side_solved S s e x A other rest) _ rest
    (and_next-within (Found (λ u end. IsSolution S s x A other u)) (λ pair end. IfSome (turn_by (step x) pair) (λ turn. IsTurn S s left turn end))
    (solves S s x A other rest) _ rest (solves-within S s x A other rest) (λ found end l h.
    answered-within (λ pair end. IfSome (turn_by (step x) pair) (λ turn. IsTurn S s left turn end)) (state_solved s e x A found) end
    (state_solved-is S s left e x A other (step x) found end at (omega arith) (solving x refl) h)))
    (λ pair end l h. answered-within (Found (IsTurn S s left)) (Ok (turn_by (step x) pair)) end h)

-- ---- the rule

solve_sides-is : (S : Signature) (s : State) (left : ℕ) (e : Equation) (others : List Equation) → s.equations ≡ e ∷ others → (A u v : Term)
    → IsReduct S (type_in e.type) A → IsReduct S e.left u → IsReduct S e.right v → (rest : ℕ) → rest ≤ left
    → Comes (IsTurn S s left) (solve_sides S s e A u v) rest
solve_sides-is S s left e others first A u v hA hu hv rest le =
    or_else-comes (IsTurn S s left) (solve_side S s e A u (right_step A v) (variable_in v)) (solve_side S s e A v (left_step A u) (variable_in u)) rest
    (solve_side-is S s left e A u (right_step A v) (variable_in v) rest (first-at s e others first) le solves_right)
    (λ end l. solve_side-is S s left e A v (left_step A u) (variable_in u) end (first-at s e others first) (omega arith) solves_left)
  where
    solves_right : (x : ℕ) → variable_in v ≡ Some x → Solving S s e A u x (right_step A v x)
    solves_right x is w h = (
      λ k e. cc,
      λ ready scoped.
          (let is_tried = tried S s e others first scoped in
          let n = length s.context in
          let type = hA.scoped n ready.scoped (type-scoped S s e is_tried) in
          let right = hv.scoped n ready.scoped is_tried.equation.right in
          let term = h.reduct.scoped n ready.scoped (hu.scoped n ready.scoped is_tried.equation.left) in
          let low = variable-low S n v x is right in
          record {
            tried = is_tried;
            variable = low;
            type_scoped = type;
            term_scoped = term;
            step_scoped = single-scoped S n (SolveRight x) A w v type term right;
            count = refl;
            follows =
                transport (λ t. Steps S s (right_step A t x w) (solved_state s e.place.level (level_of (length s.context) x) A w)) (sym (variable-is v x is))
                (solve_right s e x A w
                (first-as S s e A w (Var x) is_tried hA.converts (converts-trans hu.converts h.reduct.converts)
                (transport (Converts S e.right) (variable-is v x is) hv.converts))
                (record { variable = low; type = h.type; term = h.term }));
          }),
    )

    solves_left : (x : ℕ) → variable_in u ≡ Some x → Solving S s e A v x (left_step A u x)
    solves_left x is w h = (
      λ k e. cc,
      λ ready scoped.
          (let is_tried = tried S s e others first scoped in
          let n = length s.context in
          let type = hA.scoped n ready.scoped (type-scoped S s e is_tried) in
          let left = hu.scoped n ready.scoped is_tried.equation.left in
          let term = h.reduct.scoped n ready.scoped (hv.scoped n ready.scoped is_tried.equation.right) in
          let low = variable-low S n u x is left in
          record {
            tried = is_tried;
            variable = low;
            type_scoped = type;
            term_scoped = term;
            step_scoped = single-scoped S n (SolveLeft x) A u w type left term;
            count = refl;
            follows =
                transport (λ t. Steps S s (left_step A t x w) (solved_state s e.place.level (level_of (length s.context) x) A w)) (sym (variable-is u x is))
                (solve_left s e x A w
                (first-as S s e A (Var x) w is_tried hA.converts (transport (Converts S e.left) (variable-is u x is) hu.converts)
                (converts-trans hv.converts h.reduct.converts))
                (record { variable = low; type = h.type; term = h.term }));
          }),
    )

with_variable-is : (S : Signature) (s : State) (left : ℕ) (e : Equation) (others : List Equation) → s.equations ≡ e ∷ others → (u v : Term)
    → IsReduct S e.left u → IsReduct S e.right v → (from_left from_right : Option ℕ) (rest : ℕ) → rest ≤ left
    → Comes (IsTurn S s left) (with_variable S s e u v from_left from_right) rest
with_variable-is S s left e others first u v hu hv from_left from_right rest le = by from_left from_right
  where
    goes : Within rest (Found (IsTurn S s left)) (and_next (tidy_of S rest (type_in e.type)) (λ A end. solve_sides S s e A u v end))
    goes =
        reduced-within (Found (IsTurn S s left)) S false (type_in e.type) rest _ (λ A end l h.
        solve_sides-is S s left e others first A u v h.reduct hu hv end (omega arith))

    by : (o o' : Option ℕ) → Comes (IsTurn S s left) (with_variable S s e u v o o') rest
    by None None = none-comes (IsTurn S s left) rest
    by None (Some y) = goes
    by (Some x) None = goes
    by (Some x) (Some y) = goes

pub solution_trial-is : (S : Signature) (s : State) (left : ℕ) (e : Equation) (others : List Equation) → s.equations ≡ e ∷ others → (rest : ℕ) → rest ≤ left
    → Comes (IsTurn S s left) (solution_trial S s e) rest
solution_trial-is S s left e others first rest le =
    on_tidied-comes (IsTurn S s left) S e.left e.right _ rest (λ u v end l hu hv.
    with_variable-is S s left e others first u v hu hv (variable_in u) (variable_in v) end (omega arith))
