-- A helper is opened by its calls one after the other.
use Rattle.std.proofs.Common.{◌≡◌, ℕ, reverse, refl}
use Rattle.theory.specs.Terms.{Term}
use Rattle.core_terms.specs.Answers.{and_next}
use Rattle.core_terms.specs.CaseTrees.{Walk}
use Rattle.clause_reports.specs.elaboration.Refusals.{Owner, OfWith, granted}
use Rattle.clause_reports.specs.elaboration.Walking.{Session, open_over}
use Rattle.function_checks.specs.walk_checks.CodeOpening.{type_asked}
use Rattle.kernel_check.specs.Checking.{infer_of}
use Rattle.kernel_reduce.specs.Reduction.{nesting}

pub open-is : (s : Session) (owner : Owner) (w : Walk) (t : Term) (left : ℕ)
    → and_next (granted s.signature (OfWith owner) (infer_of s.signature nesting (reverse w.ctx) t left)) (λ type rest. type_asked s owner w t type rest)
    ≡ open_over s owner w t left
open-is s owner w t left = refl
