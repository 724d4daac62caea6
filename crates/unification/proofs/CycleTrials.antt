-- The turns of the trial of a cycle.
use Rattle.std.proofs.Common.{◌≡◌, ℕ, inl, inr, true, Option, Some, None, IfSome, Ok, IfOk, List, ◌∷◌, length, refl, ap, sym, subst as transport, ◌∙◌, arith}
use Rattle.theory.specs.Terms.{Term}
use Rattle.theory.specs.Terms.Term.{Var}
use Rattle.theory.specs.Signatures.{Signature}
use Rattle.theory.specs.Conversion.{Converts}
use Rattle.theory.specs.Conversion.Converts.{same}
use Rattle.theory.proofs.Congruence.{converts-trans}
use Rattle.theory.proofs.ScopedTerms.{var-scoped}
use Rattle.core_terms.specs.CaseTrees.{Step}
use Rattle.core_terms.specs.declared.case_tree.Rule.TheVariants.{Cycle}
use Rattle.kernel_reduce.proofs.LookUps.{both-true}
use Rattle.kernel_reduce.proofs.ReductionLaws.{some_bounded-has}
use Rattle.unification.specs.Built.{Built, built_of, is_fitting, has_no_indices}
use Rattle.unification.specs.Cycles.{search_in, is_acyclic, bounded_found, reduced_side, cycle_at, cycle_search, cycle_step, left_variable, right_variable, left_constructor, left_form, cycle_trial}
use Rattle.unification.specs.Paths.{HasBelow}
use Rattle.unification.specs.Rules.IsAbsurd.{cycle_left, cycle_right}
use Rattle.unification.specs.ScopedStates.{IsReady, IsScopedState}
use Rattle.unification.specs.Solutions.{variable_in}
use Rattle.unification.specs.States.{Equation, State}
use Rattle.unification.specs.Turns.{type_in}
use Rattle.unification.proofs.Constructors.{built-is, fitting-level, no-indices}
use Rattle.unification.proofs.Reducts.{IsReduct, reduced-within}
use Rattle.unification.proofs.SearchedVariables.{IsAcyclicFamily, IsFoundTerm, search-finds}
use Rattle.unification.proofs.SpentUnits.{Within, answered-within, and_next-within, cond-within}
use Rattle.unification.proofs.Trials.{Found, Comes, none-comes}
use Rattle.unification.proofs.TurnProperties.{DeletesWithK, IsTurn, IsEnd, tried, type-scoped, first-as, single-scoped, fails_at-is}
use Rattle.unification.proofs.Variables.{variable-is, variable-low}

-- t converts to w, in which the variable occurs below constructors
record IsOnWay (S : Signature) (x : ℕ) (t w : Term) : Type 0 where
  pub reduct : IsReduct S t w
  pub n : ℕ
  pub below : HasBelow S n x w

not-built : (S : Signature) (x : ℕ) (t : Term) (b : Built) → built_of S t ≡ Some b → t ≡ Var x → ⊥
not-built S x t b e is = grind (arith, sym e ∙ ap (built_of S) is)

-- a side that is reduced on the way to the variable
reduced_side-within : (S : Signature) (x : ℕ) (t : Term) (o : Option Built) → built_of S t ≡ o → (left : ℕ)
    → Within left (Found (λ w rest. IsOnWay S x t w)) (reduced_side S x t o left)
reduced_side-within S x t None e left = answered-within (Found (λ w rest. IsOnWay S x t w)) (Ok None) left tt
reduced_side-within S x t (Some b) e left =
    cond-within (Found (λ w rest. IsOnWay S x t w)) (is_acyclic b) _ _ left
    (λ acyclic.
    let parts = both-true (has_no_indices b.family) (is_fitting b.family) acyclic in
    and_next-within (λ found rest. IfSome found (IsFoundTerm S b.n x t)) (Found (λ w rest. IsOnWay S x t w)) (search_in S b.n x t left) _ left
    (search-finds S b.n x t left)
    (λ found rest le h. answered-within (Found (λ w rest. IsOnWay S x t w)) (bounded_found found) rest
    (bounded (record { family = (built-is S t b e).built.family; indices = no-indices b.family parts.0; level = fitting-level b.family parts.1 }) found h)))
    (λ other. answered-within (Found (λ w rest. IsOnWay S x t w)) (Ok None) left tt)
  where
    bounded : IsAcyclicFamily S b.n b.family → (found : Option Term) → IfSome found (IsFoundTerm S b.n x t) → IfOk (bounded_found found) (λ next. IfSome next (IsOnWay S x t))
    bounded family None h = tt
    bounded family (Some w) h = some_bounded-has (IsOnWay S x t) w (elim (h.place b.family family) [
      | inl is ↦ absurd (not-built S x t b e is.0)
      | inr below ↦ record { reduct = h.reduct; n = b.n; below = below }
    ])

-- each term that is found on the way makes a last step
abbrev Ending : Signature → State → Equation → (x : ℕ) → (Term → Step) → Term → Type 0
Ending S s e x step t =
    (w : Term) → IsOnWay S x t w → DeletesWithK S (step w) × (IsReady S → IsScopedState S s → IsEnd S s (step w) e.left e.right)

cycle_search-is : (S : Signature) (s : State) (left : ℕ) (e : Equation) (x : ℕ) (step : Term → Step) (t : Term) (rest : ℕ) → Ending S s e x step t
    → Comes (IsTurn S s left) (cycle_search S e x step t) rest
cycle_search-is S s left e x step t rest ending =
    and_next-within (Found (λ w end. IsOnWay S x t w)) (Found (IsTurn S s left)) (reduced_side S x t (built_of S t) rest) _ rest
    (reduced_side-within S x t (built_of S t) refl rest) (λ found end le h. by found end h)
  where
    by : (found : Option Term) (end : ℕ) → IfSome found (IsOnWay S x t) → Comes (IsTurn S s left) (cycle_at S e step found) end
    by None end h = none-comes (IsTurn S s left) end
    by (Some w) end h = let made = ending w h in fails_at-is S s left (step w) e.left e.right end made.0 made.1

left_variable-is : (S : Signature) (s : State) (left : ℕ) (e : Equation) (others : List Equation) → s.equations ≡ e ∷ others → (l : Term) (x : ℕ)
    → IsReduct S e.left l → variable_in l ≡ Some x → (rest : ℕ) → Comes (IsTurn S s left) (left_variable S e x) rest
left_variable-is S s left e others first l x hl is rest =
    reduced-within (Found (IsTurn S s left)) S true e.right rest _ (λ r end le hr.
    cycle_search-is S s left e x (λ v. cycle_step e x (Var x) v) r end (λ w h. (
      λ k same_rule. cc,
      λ ready scoped.
          let is_tried = tried S s e others first scoped in
          let n = length s.context in
          let right = converts-trans hr.reduct.converts h.reduct.converts in
          let low = variable-low S n l x is (hl.scoped n ready.scoped is_tried.equation.left) in
          record {
            step_scoped =
                single-scoped S n (Cycle x) (type_in e.type) (Var x) w (type-scoped S s e is_tried) (var-scoped low)
                (h.reduct.scoped n ready.scoped (hr.reduct.scoped n ready.scoped is_tried.equation.right));
            evidence = cycle_left s e h.n x (type_in e.type) w (first-as S s e (type_in e.type) (Var x) w is_tried same variable right) h.below;
            left_scoped = is_tried.equation.left;
            right_scoped = is_tried.equation.right;
            left = variable;
            right = right;
          },
    )))
  where
    variable : Converts S e.left (Var x)
    variable = transport (Converts S e.left) (variable-is l x is) hl.converts

right_variable-is : (S : Signature) (s : State) (left : ℕ) (e : Equation) (others : List Equation) → s.equations ≡ e ∷ others → (l r : Term)
    → IsReduct S e.left l → IsReduct S e.right r → (found : Option ℕ) → variable_in r ≡ found → (rest : ℕ)
    → Comes (IsTurn S s left) (right_variable S e l found) rest
right_variable-is S s left e others first l r hl hr None is rest = none-comes (IsTurn S s left) rest
right_variable-is S s left e others first l r hl hr (Some x) is rest =
    cycle_search-is S s left e x (λ u. cycle_step e x u (Var x)) l rest (λ w h. (
      λ k same_rule. cc,
      λ ready scoped.
          let is_tried = tried S s e others first scoped in
          let n = length s.context in
          let side = converts-trans hl.converts h.reduct.converts in
          let low = variable-low S n r x is (hr.scoped n ready.scoped is_tried.equation.right) in
          record {
            step_scoped =
                single-scoped S n (Cycle x) (type_in e.type) w (Var x) (type-scoped S s e is_tried)
                (h.reduct.scoped n ready.scoped (hl.scoped n ready.scoped is_tried.equation.left)) (var-scoped low);
            evidence = cycle_right s e h.n x (type_in e.type) w (first-as S s e (type_in e.type) w (Var x) is_tried same side variable) h.below;
            left_scoped = is_tried.equation.left;
            right_scoped = is_tried.equation.right;
            left = side;
            right = variable;
          },
    ))
  where
    variable : Converts S e.right (Var x)
    variable = transport (Converts S e.right) (variable-is r x is) hr.converts

left_constructor-is : (S : Signature) (s : State) (left : ℕ) (e : Equation) (others : List Equation) → s.equations ≡ e ∷ others → (l : Term)
    → IsReduct S e.left l → (o : Option Built) (rest : ℕ) → Comes (IsTurn S s left) (left_constructor S e l o) rest
left_constructor-is S s left e others first l hl None rest = none-comes (IsTurn S s left) rest
left_constructor-is S s left e others first l hl (Some b) rest =
    cond-within (Found (IsTurn S s left)) (is_acyclic b) _ _ rest
    (λ acyclic. reduced-within (Found (IsTurn S s left)) S true e.right rest _ (λ r end le hr.
    right_variable-is S s left e others first l r hl hr.reduct (variable_in r) refl end))
    (λ other. none-comes (IsTurn S s left) rest)

left_form-is : (S : Signature) (s : State) (left : ℕ) (e : Equation) (others : List Equation) → s.equations ≡ e ∷ others → (l : Term)
    → IsReduct S e.left l → (found : Option ℕ) → variable_in l ≡ found → (rest : ℕ) → Comes (IsTurn S s left) (left_form S e l found) rest
left_form-is S s left e others first l hl None is rest = left_constructor-is S s left e others first l hl (built_of S l) rest
left_form-is S s left e others first l hl (Some x) is rest = left_variable-is S s left e others first l x hl is rest

pub cycle_trial-is : (S : Signature) (s : State) (left : ℕ) (e : Equation) (others : List Equation) → s.equations ≡ e ∷ others → (rest : ℕ)
    → Comes (IsTurn S s left) (cycle_trial S e) rest
cycle_trial-is S s left e others first rest =
    reduced-within (Found (IsTurn S s left)) S true e.left rest _ (λ l end le hl.
    left_form-is S s left e others first l hl.reduct (variable_in l) refl end)
