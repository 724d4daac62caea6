-- Signatures of which the same is read have the same walks.
use mathlib.Core.Path.{fun_ext}
use Rattle.std.proofs.Common.{◌≡◌, ℕ, zero, suc, Option, Some, None, List, [], ◌∷◌, Result, Err, slice_get, refl, ap, ap₂, ◌∙◌}
use Rattle.theory.specs.Terms.{Term}
use Rattle.theory.specs.Telescopes.{Telescope}
use Rattle.theory.specs.Families.{Constructor}
use Rattle.theory.specs.Signatures.{Signature}
use Rattle.core_terms.specs.Answers.{Spent, and_next}
use Rattle.core_terms.specs.Clauses.{Clause, Is}
use Rattle.core_terms.specs.CaseTrees.{Walk}
use Rattle.core_terms.specs.Patterns as pattern
use Rattle.core_terms.specs.Patterns.{Pat}
use Rattle.core_terms.specs.declared.stop.Stop.{Stop}
use Rattle.unification.specs.Built.{Built, built_of}
use Rattle.unification.specs.Outcomes.{Outcome}
use Rattle.unification.specs.States.{Problem}
use Rattle.case_trees.specs.Looking.{Look, Looked, Ran, first_found, run_all}
use Rattle.case_trees.specs.OwnWalks.{Turn, Walking, absurd_outcome, at_pairs, behind_turn, by_patterns, clashing, look, nowhere, one_turn, own_outcome, own_walk_of, run_own, run_pattern, unless_dropped, walk_from}
use Rattle.case_trees.specs.Pairs.{Pairs, all_left, all_open, first_clash, waiting}
use Rattle.case_trees.specs.Points.{Point, bounded_point, start_at}
use Rattle.case_trees.specs.Problems.{problem_of}
use Rattle.case_trees.specs.Stops.{Stopping, TreeStop, answers, halting, or_halts}
use Rattle.case_trees.specs.Working.{Rooms, of_columns}
use Rattle.function_session.specs.plan_laws.Reading.{AreReadAlike}
use Rattle.function_session.proofs.plan_laws.SameRuns.{unify-is}
use Rattle.function_session.proofs.plan_laws.SameTrials.{built-is}
use Rattle.function_session.proofs.plan_laws.SameWorking.{found-same, keeping-is, runs-same, type-is, work-is}

abbrev Works : Type 0
Works = Rooms → Pairs → ℕ → Spent Pairs

abbrev KeepsIn : Type 0
KeepsIn = Point → Pairs → Result Point Stop

module _ (S T : Signature) (alike : AreReadAlike S T) where
  own-same : (clause : ℕ) (p : Point) (pairs : Pairs) (x : ℕ) (found : Looked) (number : ℕ) (o : Option Constructor) (left : ℕ)
      → run_own S clause p pairs x found number o left ≡ run_own T clause p pairs x found number o left
  own-same clause p pairs x found number None left = refl
  own-same clause p pairs x found number (Some c) left =
      ap
      (λ (unify : Problem → ℕ → Spent Outcome).
      and_next (halting (unify (problem_of p.context x found.member number c) left)) (λ outcome rest.
      answers (own_outcome clause p pairs outcome) rest))
      (unify-is S T alike)

  absurd-same : (clause : ℕ) (p : Point) (x : ℕ) (found : Looked) (left : ℕ)
      → ◌≡◌ {A = Stopping (Look Turn)}
      (and_next (run_all S p.context x found.member 0 found.member.family.constructors left) (λ runs rest.
      answers (absurd_outcome clause found.member.n runs) rest))
      (and_next (run_all T p.context x found.member 0 found.member.family.constructors left) (λ runs rest.
      answers (absurd_outcome clause found.member.n runs) rest))
  absurd-same clause p x found left =
      ap
      (λ (runs : Stopping (Look (List Ran))). and_next runs (λ runs rest. answers (absurd_outcome clause found.member.n runs) rest))
      (runs-same S T alike p.context x found.member 0 found.member.family.constructors left)

  pattern-same : (clause : ℕ) (p : Point) (pairs : Pairs) (x : ℕ) (found : Looked) (pat : Pat) (left : ℕ)
      → run_pattern S clause p pairs x found pat left ≡ run_pattern T clause p pairs x found pat left
  pattern-same clause p pairs x found (pattern.Con n number pats) left =
      own-same clause p pairs x found number (slice_get found.member.family.constructors number) left
  pattern-same clause p pairs x found pattern.Bind left = absurd-same clause p x found left
  pattern-same clause p pairs x found pattern.Wild left = absurd-same clause p x found left
  pattern-same clause p pairs x found (pattern.Dot t) left = absurd-same clause p x found left
  pattern-same clause p pairs x found pattern.Absurd left = absurd-same clause p x found left

  look-is : (clause : ℕ) (p : Point) (pairs : Pairs) → look S clause p pairs ≡ look T clause p pairs
  look-is clause p pairs =
      ap₂ {C = Pat → (x : ℕ) → ℕ → Stopping (Look Turn)}
      (λ (type : (clause : ℕ) → Telescope → Pat → (x : ℕ) → ℕ → Stopping Looked) (go : (x : ℕ) → Looked → Pat → ℕ → Stopping (Look Turn))
      (pat : Pat) (x left : ℕ). and_next (type clause p.context pat x left) (λ found rest. go x found pat rest))
      (type-is S T alike) (fun_ext (λ x. fun_ext (λ found. fun_ext (λ pat. fun_ext (λ left. pattern-same clause p pairs x found pat left)))))

  pairs-same : (clause : ℕ) (go : Walking) (p : Point) (pairs : Pairs) (asked : List (Pat × Term)) (left : ℕ)
      → at_pairs S clause go p pairs asked left ≡ at_pairs T clause go p pairs asked left
  pairs-same clause go p pairs [] left = refl
  pairs-same clause go p pairs (pair ∷ others) left =
      ap
      (λ (look : Pat → ℕ → ℕ → Stopping (Look Turn)).
      and_next (first_found S clause p.context look (pair ∷ others) None None left) (behind_turn go p pairs))
      (look-is clause p pairs)
      ∙ ap
      (λ (turn : Stopping Turn). and_next turn (behind_turn go p pairs))
      (found-same S T alike clause p.context (look T clause p pairs) (pair ∷ others) None None left)

  clashing-same : (clause : ℕ) (context : Telescope) (pat : Pat) (o : Option Built) → clashing S clause context pat o ≡ clashing T clause context pat o
  clashing-same clause context (pattern.Con n number pats) (Some b) = refl
  clashing-same clause context (pattern.Con n number pats) None = refl
  clashing-same clause context _ (Some b) = refl
  clashing-same clause context _ None = refl

  dropped-same : (clause : ℕ) (go : Walking) (p : Point) (pairs : Pairs) (o : Option (Pat × Term)) (left : ℕ)
      → unless_dropped S clause go p pairs o left ≡ unless_dropped T clause go p pairs o left
  dropped-same clause go p pairs (Some clash) left =
      ap
      (λ (find : Term → Option Built). answers {A = Walk} (Err (clashing S clause p.context clash.0 (find clash.1))) left)
      (built-is S T alike)
      ∙ ap (λ (e : TreeStop). answers {A = Walk} (Err e) left) (clashing-same clause p.context clash.0 (built_of T clash.1))
  dropped-same clause go p pairs None left =
      ap₂
      (λ (keeping : KeepsIn) (at : Point → ℕ → Stopping Walk). and_next (answers (or_halts (keeping p pairs)) left) (λ next rest. at next rest))
      (keeping-is S T alike) (fun_ext (λ next. fun_ext (λ rest. pairs-same clause go next pairs (all_open pairs) rest)))

  turn-same : (clause : ℕ) (go : Walking) (p : Point) (pairs : Pairs) (left : ℕ) → one_turn S clause go p pairs left ≡ one_turn T clause go p pairs left
  turn-same clause go p pairs left =
      ap₂
      (λ (work : Works) (next : Pairs → ℕ → Stopping Walk). and_next (halting (work of_columns pairs left)) (λ worked rest. next worked rest))
      (work-is S T alike) (fun_ext (λ worked. fun_ext (λ rest. dropped-same clause go p worked (first_clash worked) rest)))

  by-same : (clause patterns : ℕ) (p : Point) (pairs : Pairs) (left : ℕ) → by_patterns S clause patterns p pairs left ≡ by_patterns T clause patterns p pairs left
  by-same clause zero p pairs left = turn-same clause nowhere p pairs left
  by-same clause (suc patterns) p pairs left =
      ap (λ (go : Walking). one_turn S clause go p pairs left)
      (fun_ext (λ p. fun_ext (λ pairs. fun_ext (λ left. by-same clause patterns p pairs left))))
      ∙ turn-same clause (by_patterns T clause patterns) p pairs left

  from-same : (clause : ℕ) (p : Point) (pairs : Pairs) (left : ℕ) → walk_from S clause p pairs left ≡ walk_from T clause p pairs left
  from-same clause p pairs left = by-same clause (all_left pairs) p pairs left

  walk-is : (context : Telescope) (goal : Term) (terms : List Term) (c : Clause) (number left : ℕ)
      → own_walk_of S context goal terms c number left ≡ own_walk_of T context goal terms c number left
  walk-is context goal terms (Is pats binds right) number left =
      ap
      (λ (go : Point → ℕ → Stopping Walk). and_next (answers (or_halts (bounded_point (start_at context goal terms))) left) (λ p rest. go p rest))
      (fun_ext (λ p. fun_ext (λ rest. from-same number p (waiting pats terms) rest)))

pub same-walks : (S T : Signature) (context : Telescope) (goal : Term) (terms : List Term) (c : Clause) (number left : ℕ) → AreReadAlike S T
    → own_walk_of S context goal terms c number left ≡ own_walk_of T context goal terms c number left
same-walks S T context goal terms c number left alike = walk-is S T alike context goal terms c number left
