use Rattle.std.proofs.Common.{◌≡◌, ℕ, List, subst as transport}
use Rattle.core_terms.specs.Answers.{Unless}
use Rattle.core_terms.specs.Meanings.{tree_of, tele_of}
use Rattle.core_terms.specs.PatternMeanings.{clause_of}
use Rattle.core_terms.specs.TreeMeanings.{walk_of}
use Rattle.case_trees.specs.OwnWalks.{own_walk_of}
use Rattle.clause_walks.specs.Stops.{stop_of}
use Rattle.clause_reports.specs.elaboration.Refusals.{of_tree}
use Rattle.function_checks.specs.function_refusals.RefusalMeanings.{IsUnforeseen, refusal_of}
use Rattle.function_checks.proofs.function_refusals.EndedTrees.{ended-elaborates}
use Rattle.function_checks.proofs.function_clauses.Fitting.{clause-for}
use Rattle.function_checks.proofs.function_clauses.WalkColumns.{walk-columns}
use Rattle.function_checks.proofs.function_clauses.single.walked.Goals as goal

pub own_walk_with-requires-clause-clause : goal.own_walk_with-requires-clause-clause
own_walk_with-requires-clause-clause c = clause-for c.args.sig.now (tele_of c.args.part.now.terms) (clause_of c.args.c.now) c.requires.clause

pub returns-in-Ok-clause-columns : goal.returns-in-Ok-clause-columns
returns-in-Ok-clause-columns c =
    let S = c.args.sig.now in
    let part = c.args.part.now in
    walk-columns S (tele_of part.tele) (tree_of part.goal) (tele_of part.terms) (clause_of c.args.c.now) c.args.site.number c.args.kernel.now.left
    c.own_walk_with.new.kernel.left (walk_of c.in-Ok.w) c.requires.part.given
    (clause-for S (tele_of part.terms) (clause_of c.args.c.now) c.requires.clause) c.in-Ok.ensures.answer

pub returns-in-Err-clause-answer : goal.returns-in-Err-clause-answer
returns-in-Err-clause-answer c =
    let part = c.args.part.now in
    let P : List ℕ → Type 0 = λ f.
    Unless (IsUnforeseen c.ended.result) (refusal_of c.ended.result ≡ of_tree c.args.sig.now f (stop_of c.in-Err.stop)) in
    ended-elaborates c.args.sig.now c.args.site.function.now c.in-Err.stop c.ended.result c.own_walk_with.new.kernel.left
    (own_walk_of c.args.sig.now (tele_of part.tele) (tree_of part.goal) (tele_of part.terms) (clause_of c.args.c.now) c.args.site.number
    c.args.kernel.now.left)
    (transport P c.as_slice.ensures c.ended.ensures.answer) c.ended.ensures.memory c.in-Err.ensures.answer
