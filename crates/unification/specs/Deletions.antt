-- Deletion: the sides of the first equation are convertible. It needs K.
use Rattle.std.specs.Prelude.{Bool, true, false, cond}
use Rattle.theory.specs.Terms.{Term}
use Rattle.theory.specs.Signatures.{Signature}
use Rattle.core_terms.specs.Answers.{and_next}
use Rattle.core_terms.specs.CaseTrees.{Step}
use Rattle.core_terms.specs.declared.case_tree.Rule.TheVariants.{Delete}
use Rattle.kernel_reduce.specs.Comparison.{convertible_of}
use Rattle.kernel_reduce.specs.Reduction.{nesting}
use Rattle.kernel_reduce.specs.Tidying.{tidy_of}
use Rattle.unification.specs.States.{Equation, State}
use Rattle.unification.specs.Solving.{deleted_state}
use Rattle.unification.specs.Heights.{bounded_state}
use Rattle.unification.specs.Turns.{Trial, does_not_apply, goes_to, on_tidied, single, sticks_at, type_in}
use Rattle.unification.specs.declared.why.Why.TheVariants.{NeedsK}

abbrev pub deletion_step : (A u v : Term) → Step
deletion_step A u v = single Delete A u v

-- the type and the sides are tidied
abbrev pub delete : Signature → State → Equation → Trial
delete S s e left =
    and_next (tidy_of S left (type_in e.type)) (λ A rest.
    on_tidied S e.left e.right (λ u v. goes_to (deletion_step A u v) (bounded_state (deleted_state s e.place.level A u))) rest)

abbrev pub if_convertible : Signature → State → Equation → Bool → Trial
if_convertible S s e true = cond S.has_k (delete S s e) (sticks_at S NeedsK e.left e.right)
if_convertible S s e false = does_not_apply

-- The rule.
abbrev pub deletion_trial : Signature → State → Equation → Trial
deletion_trial S s e left =
    and_next (convertible_of S nesting e.left e.right left) (λ holds rest. if_convertible S s e holds rest)
