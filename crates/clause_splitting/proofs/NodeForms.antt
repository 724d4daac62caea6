-- The clauses of a node are worked one after the other.
use Rattle.std.proofs.Common.{◌≡◌, ℕ, Bool, true, false, cond, Ok, List, [], ◌∷◌, ◌++◌, refl, sym, ap, ◌∙◌}
use Rattle.tele_eq.proofs.Growing.{snoc-append}
use Rattle.theory.specs.Signatures.{Signature}
use Rattle.core_terms.specs.Answers.{and_next}
use Rattle.case_trees.specs.Pairs.{Pairs, some_clashes}
use Rattle.case_trees.specs.Points.{Point, point_keeping}
use Rattle.case_trees.specs.Stops.{Stopping, or_halts, halting, answers}
use Rattle.case_trees.specs.Trees.{Live, Node, unless_dropped, worked}
use Rattle.case_trees.specs.Working.{of_columns, work_pairs}
use Rattle.clause_walks.proofs.TurnCodes.{alike, calls-behind}
use Rattle.clause_splitting.specs.Growing.{with_live, kept_live, worked_to, worked_behind}
use Rattle.clause_splitting.proofs.GrowingForms.{next-made}

made-dropped : (c : Live) (made : List Live) (node : Node) → with_live made (unless_dropped c node) ≡ with_live (kept_live c made) node
made-dropped c made node = by (some_clashes c.pairs)
  where
    by : (test : Bool) → with_live made (cond test node (record node { live = c ∷ node.live })) ≡ with_live (cond test made (made ++ c ∷ [])) node
    by true = refl
    by false = ap (λ live. record node { live = live }) (sym (snoc-append made c node.live))

abbrev pub after_keeping : Signature → (made : List Live) → (c : Live) → List Live → Pairs → Point → ℕ → Stopping Node
after_keeping S made c live pairs next rest = worked_behind S (kept_live (worked_to c pairs) made) next live rest

abbrev pub after_work : Signature → (made : List Live) → Point → (c : Live) → List Live → Pairs → ℕ → Stopping Node
after_work S made p c live pairs rest = and_next (answers (or_halts (point_keeping S p pairs)) rest) (after_keeping S made c live pairs)

pub worked-step : (S : Signature) (made : List Live) (p : Point) (c : Live) (live : List Live) (left : ℕ)
    → worked_behind S made p (c ∷ live) left ≡ and_next (halting (work_pairs S of_columns c.pairs left)) (after_work S made p c live)
worked-step S made p c live left =
    calls-behind (halting (work_pairs S of_columns c.pairs left)) (λ pairs rest.
    and_next (answers (or_halts (point_keeping S p pairs)) rest) (λ next onwards.
    and_next (worked S next live onwards) (λ node end. answers (Ok (unless_dropped (worked_to c pairs) node)) end))) finish
    ∙ alike (halting (work_pairs S of_columns c.pairs left)) _ (after_work S made p c live) (λ pairs rest.
    calls-behind (answers (or_halts (point_keeping S p pairs)) rest) (λ next onwards.
    and_next (worked S next live onwards) (λ node end. answers (Ok (unless_dropped (worked_to c pairs) node)) end)) finish
    ∙ alike (answers (or_halts (point_keeping S p pairs)) rest) _ (after_keeping S made c live pairs) (λ next onwards.
    next-made (worked S next live onwards) (unless_dropped (worked_to c pairs)) finish
    ∙ alike (worked S next live onwards) _ (λ node end. answers (Ok (with_live (kept_live (worked_to c pairs) made) node)) end) (λ node end.
    ap (λ n. answers (Ok n) end) (made-dropped (worked_to c pairs) made node))))
  where
    finish : Node → ℕ → Stopping Node
    finish node rest = answers (Ok (with_live made node)) rest
