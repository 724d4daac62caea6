-- A branch goes on from the node after a solution, without the terms of wildcards.
use Rattle.std.proofs.Common.{◌≡◌, ℕ, Result, Ok, Err, List, length, refl, sym, ap, ◌∙◌}
use Rattle.theory.specs.Telescopes.{Telescope}
use Rattle.theory.specs.Terms.{Term}
use Rattle.core_terms.specs.Answers.{and_next, and_then}
use Rattle.core_terms.specs.CaseTrees as tree
use Rattle.core_terms.specs.CaseTrees.{Branch, Step}
use Rattle.core_terms.specs.declared.stop.Stop.{Stop}
use Rattle.unification.specs.Outcomes.{Solved}
use Rattle.case_trees.specs.Origins.{first_origins, origins_behind}
use Rattle.case_trees.specs.Points.{Point, bounded_point, moved_point, solution_for}
use Rattle.case_trees.specs.Stops.{Stopping, or_halts, answers}
use Rattle.case_trees.specs.Trees.{Live, Node, moved_live, solved_node, Growing}
use Rattle.clause_walks.specs.Forgetting.{forget_live, forgetting_live}
use Rattle.clause_walks.specs.Reaching.{RunEnd}
use Rattle.clause_walks.proofs.Forgotten.{live-forgotten}
use Rattle.clause_splitting.specs.Growing.{branch_from}

-- the branch of a run, with what is made of the next node
abbrev pub over_solved : Growing → Point → RunEnd → List Step → Node → ℕ → Stopping Branch
over_solved go p r steps node rest =
    and_next (go node.point node.live rest) (λ subtree end.
    answers (Ok (tree.Solved steps (origins_behind steps r.context (first_origins (length p.context) r.arguments)) subtree)) end)

pub solved-branch : (go : Growing) (p : Point) (live : List Live) (r : RunEnd) (steps : List Step) (context : Telescope) (solution : List Term) (left : ℕ)
    → branch_from (forgetting_live go) p live r (Solved steps context solution) left
    ≡ and_next (answers (or_halts (solved_node p (forget_live live) context (solution_for p solution))) left) (over_solved go p r steps)
solved-branch go p live r steps context solution left =
    by (bounded_point (moved_point p context (solution_for p solution))) (moved_live (solution_for p solution) live)
    ∙ ap (λ moved. forgotten (bounded_point (moved_point p context (solution_for p solution))) moved) (sym (live-forgotten (solution_for p solution) live))
  where
    forgotten : Result Point Stop → Result (List Live) Stop → Stopping Branch
    forgotten next moved =
        and_next (answers (or_halts (and_then next (λ q. and_then moved (λ ls. Ok (record { point = q; live = ls }))))) left) (over_solved go p r steps)

    by : (next : Result Point Stop) (moved : Result (List Live) Stop)
        → and_next (answers (or_halts (and_then next (λ q. and_then moved (λ ls. Ok (record { point = q; live = ls }))))) left)
        (over_solved (forgetting_live go) p r steps)
        ≡ forgotten next (and_then moved (λ ls. Ok (forget_live ls)))
    by (Ok q) (Ok ls) = refl
    by (Ok q) (Err e) = refl
    by (Err e) moved = refl
