-- A term of two parts is made where its parts are.
use Rattle.std.proofs.Common.{◌≡◌, Result, Ok, Err, ap, subst, ◌∙◌}
use Rattle.theory.specs.Terms.{Term}
use Rattle.core_terms.specs.Answers.{Gives, and_then}
use Rattle.core_terms.specs.Answered.{of_two, shown}
use Rattle.core_terms.specs.Meanings.{tree_of}
use Rattle.core_terms.specs.declared.term.Term as code
use Rattle.core_terms.specs.declared.stop.Stop.{Stop}
use Rattle.core_terms.specs.declared.stop.Stop.TheVariants.{Memory}
use Rattle.leaf_terms.specs.CodeRightSides.{both_made}

abbrev IsTerm : Result Term Stop → Type 0
IsTerm (Ok t) = Unit {0}
IsTerm (Err e) = ⊥

abbrev stop_in : Result Term Stop → Stop
stop_in (Ok t) = Memory
stop_in (Err e) = e

-- the second part, where the first one is made
second-given : (make : Term → Term) (r b : Result code.Term Stop) (y : Result Term Stop) → Gives tree_of r (and_then (shown b) (λ u. Ok (make u)))
    → Gives tree_of b y → Gives tree_of r (and_then y (λ u. Ok (make u)))
second-given make r (Ok u) y d h = subst (λ y. Gives tree_of r (and_then y (λ u. Ok (make u)))) h d
second-given make (Ok v) (Err e) y d h = absurd (subst IsTerm d tt)
second-given make (Err g) (Err e) y d h =
    λ free. d free ∙ ap (λ y. and_then y (λ u. Ok (make u))) (h (λ m. free (ap stop_in (d free) ∙ m)))

pub both-given : (form : Term → Term → Term) (r a b : Result code.Term Stop) (x y : Result Term Stop) → Gives tree_of r (of_two form (shown a) (shown b))
    → Gives tree_of a x → Gives tree_of b y → Gives tree_of r (both_made form x y)
both-given form r (Ok t) b x y d first second =
    subst (λ x. Gives tree_of r (both_made form x y)) first (second-given (form (tree_of t)) r b y d second)
both-given form (Ok v) (Err e) b x y d first second = absurd (subst IsTerm d tt)
both-given form (Err g) (Err e) b x y d first second =
    λ free. d free ∙ ap (λ x. both_made form x y) (first (λ m. free (ap stop_in (d free) ∙ m)))
