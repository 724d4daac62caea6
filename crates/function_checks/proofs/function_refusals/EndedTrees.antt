-- A refusal where a tree ends.
use Rattle.std.proofs.Common.{◌≡◌, ℕ, List, Err, ap, ◌∙◌}
use Rattle.theory.specs.Signatures.{Signature}
use Rattle.core_terms.specs.Answers.{Unless}
use Rattle.case_trees.specs.Stops as tree
use Rattle.case_trees.specs.Stops.{Stopping}
use Rattle.clause_walks.specs.Stops as trees
use Rattle.clause_walks.specs.declared.stops.TreeStop.{TreeStop}
use Rattle.clause_reports.specs.elaboration.Refusals as pure
use Rattle.clause_reports.specs.elaboration.Refusals.{Elaborating, of_tree, walking}
use Rattle.function_checks.specs.function_refusals.RefusalMeanings.{IsUnforeseen, refusal_of}
use Rattle.function_checks.specs.declared.function_refusals.refusal.FunctionRefusal.{FunctionRefusal}

abbrev pub stopped : {A : Type 0} → tree.TreeStop → ℕ → Stopping A
stopped e n = (Err e, n)

abbrev pub refused : {A : Type 0} → pure.Refusal → ℕ → Elaborating A
refused e n = (Err e, n)

pub ended-elaborates : {A : Type 0} (S : Signature) (f : List ℕ) (stop : TreeStop) (e : FunctionRefusal) (left : ℕ) (meant : Stopping A)
    → Unless (IsUnforeseen e) (refusal_of e ≡ of_tree S f (trees.stop_of stop)) → (trees.IsUnforeseen stop → IsUnforeseen e)
    → Unless (trees.IsUnforeseen stop) (stopped (trees.stop_of stop) left ≡ meant)
    → Unless (IsUnforeseen e) (refused (refusal_of e) left ≡ walking S f meant)
ended-elaborates S f stop e left meant answer memory yields not =
    ap (λ r. refused r left) (answer not) ∙ ap (walking S f) (yields (λ m. not (memory m)))
