-- A walk goes on from the result of a turn of the code.
use Rattle.std.proofs.Common.{◌≡◌, ℕ, true, Option, Some, None, Result, Ok, Err, List, [], ◌∷◌, refl, sym, ◌∙◌}
use Rattle.theory.specs.Terms.{Term}
use Rattle.theory.specs.Signatures.{Signature}
use Rattle.core_terms.specs.Answers.{on_answer, and_next, and_then}
use Rattle.core_terms.specs.CaseTrees.{Walk}
use Rattle.core_terms.specs.Patterns.{Pat}
use Rattle.case_trees.specs.Pairs.{Pairs, first_clash, all_open}
use Rattle.case_trees.specs.Points.{Point, point_keeping}
use Rattle.case_trees.specs.Stops.{TreeStop, Stopping, or_halts, halting, answers}
use Rattle.case_trees.specs.Looking.{first_found}
use Rattle.case_trees.specs.Working.{of_columns, work_pairs}
use Rattle.case_trees.specs.OwnWalks.{Turn, Goes, Ends, Walking, walk_at, bounded_walk, behind_turn, at_pairs, unless_dropped, one_turn}
use Rattle.clause_walks.specs.CodeWalks.{turn_at, next_of, next_reached, next_at, next_unless_dropped, turn_of, onward, Ended}
use Rattle.clause_walks.specs.Forgetting.{forgetting}
use Rattle.clause_walks.specs.Reaching.{reach}
use Rattle.clause_walks.proofs.Reaches.{walk-reaches}

-- ---- calls after calls

next-behind : {A B C : Type 0} (r : Result A TreeStop) (left : ℕ) (go : A → ℕ → Stopping B) (more : B → ℕ → Stopping C)
    → and_next (on_answer r left go) more ≡ on_answer r left (λ a rest. and_next (go a rest) more)
next-behind (Ok a) left go more = refl
next-behind (Err e) left go more = refl

pub calls-behind : {A B C : Type 0} (first : Stopping A) (go : A → ℕ → Stopping B) (more : B → ℕ → Stopping C)
    → and_next (and_next first go) more ≡ and_next first (λ a rest. and_next (go a rest) more)
calls-behind first go more = next-behind first.0 first.1 go more

pub alike : {A B : Type 0} (first : Stopping A) (go other : A → ℕ → Stopping B) → ((a : A) (rest : ℕ) → go a rest ≡ other a rest)
    → and_next first go ≡ and_next first other
alike {A} {B} first go other same = by first.0
  where
    by : (r : Result A TreeStop) → on_answer r first.1 go ≡ on_answer r first.1 other
    by (Ok a) = same a first.1
    by (Err e) = refl

-- ---- a turn

module _ (S : Signature) (clause : ℕ) (go : Walking) where
  ended-on : (r : Result Walk TreeStop) (left : ℕ) → answers r left ≡ and_next (answers (and_then r (λ w. Ok (Ended w))) left) (onward go)
  ended-on (Ok w) left = refl
  ended-on (Err e) left = refl

  reached-on : (p : Point) (pairs : Pairs) (r : Result Turn TreeStop) (left : ℕ)
      → and_next (answers r left) (behind_turn (forgetting go) p pairs) ≡ and_next (answers (and_then r (next_of p pairs)) left) (onward go)
  reached-on p pairs (Ok (Goes next moved)) left = refl
  reached-on p pairs (Ok Ends) left = ended-on (bounded_walk (walk_at p pairs)) left
  reached-on p pairs (Err e) left = refl

  pairs-on : (p : Point) (pairs : Pairs) (waiting : List (Pat × Term)) (left : ℕ)
      → at_pairs S clause (forgetting go) p pairs waiting left ≡ and_next (next_at S clause p pairs waiting left) (onward go)
  pairs-on p pairs [] left = ended-on (bounded_walk (walk_at p pairs)) left
  pairs-on p pairs (pair ∷ others) left =
      walk-reaches S clause p pairs (behind_turn (forgetting go) p pairs) (pair ∷ others) None None left
      ∙ (alike (first_found S clause p.context (reach S true clause p.context) (pair ∷ others) None None left)
      (λ r rest. and_next (answers (turn_at clause p pairs r) rest) (behind_turn (forgetting go) p pairs))
      (λ r rest. and_next (answers (next_reached clause p pairs r) rest) (onward go))
      (λ r rest. reached-on p pairs (turn_at clause p pairs r) rest)
      ∙ sym (calls-behind (first_found S clause p.context (reach S true clause p.context) (pair ∷ others) None None left)
      (λ r rest. answers (next_reached clause p pairs r) rest) (onward go)))

  dropped-on : (p : Point) (pairs : Pairs) (clash : Option (Pat × Term)) (left : ℕ)
      → unless_dropped S clause (forgetting go) p pairs clash left ≡ and_next (next_unless_dropped S clause p pairs clash left) (onward go)
  dropped-on p pairs (Some clash) left = refl
  dropped-on p pairs None left =
      alike (answers (or_halts (point_keeping S p pairs)) left)
      (λ next rest. at_pairs S clause (forgetting go) next pairs (all_open pairs) rest)
      (λ next rest. and_next (next_at S clause next pairs (all_open pairs) rest) (onward go))
      (λ next rest. pairs-on next pairs (all_open pairs) rest)
      ∙ sym (calls-behind (answers (or_halts (point_keeping S p pairs)) left)
      (λ next rest. next_at S clause next pairs (all_open pairs) rest) (onward go))

  -- a turn of a walk, and how it goes on
  pub turn-on : (p : Point) (pairs : Pairs) (left : ℕ)
      → one_turn S clause (forgetting go) p pairs left ≡ and_next (turn_of S clause p pairs left) (onward go)
  turn-on p pairs left =
      alike (halting (work_pairs S of_columns pairs left))
      (λ worked rest. unless_dropped S clause (forgetting go) p worked (first_clash worked) rest)
      (λ worked rest. and_next (next_unless_dropped S clause p worked (first_clash worked) rest) (onward go))
      (λ worked rest. dropped-on p worked (first_clash worked) rest)
      ∙ sym (calls-behind (halting (work_pairs S of_columns pairs left))
      (λ worked rest. next_unless_dropped S clause p worked (first_clash worked) rest) (onward go))
