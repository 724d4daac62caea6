-- Signatures of which the same is read have the same trees.
use mathlib.Core.Path.{fun_ext}
use Rattle.std.proofs.Common.{◌≡◌, ℕ, zero, suc, None, List, [], ◌∷◌, Result, Ok, refl, ap, ap₂, ◌∙◌}
use Rattle.theory.specs.Terms.{Term}
use Rattle.theory.specs.Telescopes.{Telescope}
use Rattle.theory.specs.Families.{Constructor}
use Rattle.theory.specs.Signatures.{Signature}
use Rattle.core_terms.specs.Answers.{Spent, and_next}
use Rattle.core_terms.specs.Clauses.{Clauses}
use Rattle.core_terms.specs.CaseTrees.{Tree}
use Rattle.core_terms.specs.Patterns.{Pat}
use Rattle.core_terms.specs.declared.stop.Stop.{Stop}
use Rattle.case_trees.specs.Looking.{Look, Looked, Ran, first_found}
use Rattle.case_trees.specs.Pairs.{Pairs, all_open}
use Rattle.case_trees.specs.Points.{Point, bounded_point, point_keeping, start_at}
use Rattle.case_trees.specs.Problems.{Member}
use Rattle.case_trees.specs.Stops.{Stopping, answers, halting, or_halts}
use Rattle.case_trees.specs.Trees.{Growing, Live, Node, SplitAt, all_live, as_split, by_first, by_live, by_patterns, look, nowhere, one_node, patterns_left, split_at, split_of, tree_from, unless_dropped, worked}
use Rattle.case_trees.specs.Working.{Rooms, of_columns, work_pairs}
use Rattle.function_session.specs.plan_laws.Reading.{AreReadAlike}
use Rattle.function_session.proofs.plan_laws.SameWorking.{found-same, keeping-is, runs-same, type-is, work-is}

abbrev Works : Type 0
Works = Rooms → Pairs → ℕ → Spent Pairs

abbrev KeepsIn : Type 0
KeepsIn = Point → Pairs → Result Point Stop

module _ (S T : Signature) (alike : AreReadAlike S T) where
  worked-same : (p : Point) (live : List Live) (left : ℕ) → worked S p live left ≡ worked T p live left
  worked-same p [] left = refl
  worked-same p (c ∷ live) left =
      ap₂
      (λ (work : Works) (keeping : KeepsIn).
      and_next (halting (work of_columns c.pairs left)) (λ pairs rest.
      and_next (answers (or_halts (keeping p pairs)) rest) (λ next rest.
      and_next (worked S next live rest) (λ node end.
      answers (Ok (unless_dropped (record { number = c.number; pairs = pairs }) node)) end))))
      (work-is S T alike) (keeping-is S T alike)
      ∙ ap
      (λ (go : Point → ℕ → Stopping Node).
      and_next (halting (work_pairs T of_columns c.pairs left)) (λ pairs rest.
      and_next (answers (or_halts (point_keeping T p pairs)) rest) (λ next rest.
      and_next (go next rest) (λ node end.
      answers (Ok (unless_dropped (record { number = c.number; pairs = pairs }) node)) end))))
      (fun_ext (λ next. fun_ext (λ rest. worked-same next live rest)))

  look-is : (clause : ℕ) (context : Telescope) → look S clause context ≡ look T clause context
  look-is clause context =
      ap₂ {C = Pat → (x : ℕ) → ℕ → Stopping (Look SplitAt)}
      (λ (type : (clause : ℕ) → Telescope → Pat → (x : ℕ) → ℕ → Stopping Looked)
      (all : (x : ℕ) → Member → (number : ℕ) → List Constructor → ℕ → Stopping (Look (List Ran))) (pat : Pat) (x left : ℕ).
      and_next (type clause context pat x left) (λ found rest.
      and_next (all x found.member 0 found.member.family.constructors rest) (λ runs end.
      answers (Ok (as_split x found runs)) end)))
      (type-is S T alike)
      (fun_ext (λ x. fun_ext (λ m. fun_ext (λ number. fun_ext (λ constructors. fun_ext (λ left.
      runs-same S T alike context x m number constructors left))))))

  first-same : (go : Growing) (p : Point) (c : Live) (live : List Live) (asked : List (Pat × Term)) (left : ℕ)
      → by_first S go p c live asked left ≡ by_first T go p c live asked left
  first-same go p c live [] left = refl
  first-same go p c live (pair ∷ others) left =
      ap
      (λ (look : Pat → ℕ → ℕ → Stopping (Look SplitAt)).
      and_next (first_found S c.number p.context look (pair ∷ others) None None left) (split_at go p (c ∷ live)))
      (look-is c.number p.context)
      ∙ ap
      (λ (found : Stopping SplitAt). and_next found (split_at go p (c ∷ live)))
      (found-same S T alike c.number p.context (look T c.number p.context) (pair ∷ others) None None left)

  live-same : (go : Growing) (p : Point) (live : List Live) (left : ℕ) → by_live S go p live left ≡ by_live T go p live left
  live-same go p [] left = refl
  live-same go p (c ∷ live) left = first-same go p c live (all_open c.pairs) left

  node-same : (go : Growing) (p : Point) (live : List Live) (left : ℕ) → one_node S go p live left ≡ one_node T go p live left
  node-same go p live left =
      ap₂
      (λ (work : Stopping Node) (next : Point → List Live → ℕ → Stopping Tree). and_next work (λ node rest. next node.point node.live rest))
      (worked-same p live left) (fun_ext (λ p. fun_ext (λ live. fun_ext (λ left. live-same go p live left))))

  by-same : (patterns : ℕ) (p : Point) (live : List Live) (left : ℕ) → by_patterns S patterns p live left ≡ by_patterns T patterns p live left
  by-same zero p live left = node-same nowhere p live left
  by-same (suc patterns) p live left =
      ap (λ (go : Growing). one_node S go p live left)
      (fun_ext (λ p. fun_ext (λ live. fun_ext (λ left. by-same patterns p live left))))
      ∙ node-same (by_patterns T patterns) p live left

  from-same : (p : Point) (live : List Live) (left : ℕ) → tree_from S p live left ≡ tree_from T p live left
  from-same p live left = by-same (patterns_left live) p live left

  tree-is : (context : Telescope) (goal : Term) (terms : List Term) (clauses : Clauses) (left : ℕ)
      → split_of S context goal terms clauses left ≡ split_of T context goal terms clauses left
  tree-is context goal terms clauses left =
      ap
      (λ (go : Point → ℕ → Stopping Tree). and_next (answers (or_halts (bounded_point (start_at context goal terms))) left) (λ p rest. go p rest))
      (fun_ext (λ p. fun_ext (λ rest. from-same p (all_live 0 terms clauses) rest)))

pub same-trees : (S T : Signature) (context : Telescope) (goal : Term) (terms : List Term) (clauses : Clauses) (left : ℕ) → AreReadAlike S T
    → split_of S context goal terms clauses left ≡ split_of T context goal terms clauses left
same-trees S T context goal terms clauses left alike = tree-is S T alike context goal terms clauses left
