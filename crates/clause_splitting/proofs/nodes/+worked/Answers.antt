use Rattle.std.proofs.Common.{◌-◌, length, drop, sym, ap, ◌∙◌, subst, arith}
use Rattle.std.proofs.lemmas.List.{length-take, length-drop}
use Rattle.case_trees.proofs.pattern_vectors.CommonColumns.{rest-of}
use Rattle.clause_walks.specs.PointMeanings.{point_of}
use Rattle.clause_walks.specs.Stops.{Yields}
use Rattle.clause_splitting.specs.Growing.{node_at, worked_behind}
use Rattle.clause_splitting.specs.NodeConditions.{IsNodeAt}
use Rattle.clause_splitting.specs.NodeMeanings.{all_live_of, node_of}
use Rattle.clause_splitting.proofs.NodeCodes.{worked-kept, worked-on}
use Rattle.clause_splitting.proofs.nodes.+worked.Goals as goal

pub worked-requires : goal.worked-requires
worked-requires t c =
    let S = c.args.sig.now in
    let live = c.args.live.now in
    let kept = worked-kept S c.args.p c.in_ok-p-in-len1-up.p c.args.made live c.in_ok-made-in-len1-up.made c.c-item.result c.as_slice.result.now
    c.in_ok-pairs-in-len1-up.pairs c.as_slice-in-len1-up.result.now c.args.kernel.now.left c.work_pairs.new.kernel.left c.in-len1-up.len_at_least c.c-item.is
    c.as_slice.ensures c.as_slice-in-len1-up.ensures c.in_ok-pairs-in-len1-up.ensures.answer c.in_ok-p-in-len1-up.ensures.answer
    c.in_ok-made-in-len1-up.ensures c.requires.live c.requires.made c.in_ok-pairs-in-len1-up.ensures.kept c.in_ok-p-in-len1-up.ensures.few in (
      omega (arith, length-take (length live - 1) (drop 1 live), length-drop 1 live, c.in-len1-up.len_at_least),
      (
        c.in_ok-pairs-in-len1-up.ensures.kernel,
        (c.requires.ready, (subst (λ ls. IsNodeAt S (node_at (point_of c.in_ok-p-in-len1-up.p) (all_live_of ls))) (sym (rest-of live)) kept.0, kept.1)),
      ),
    )

pub returns-in_ok-made-in-len1-up-clause-answer : goal.returns-in_ok-made-in-len1-up-clause-answer
returns-in_ok-made-in-len1-up-clause-answer t c =
    let S = c.args.sig.now in
    let live = c.args.live.now in
    subst (Yields node_of c.worked.result c.worked.new.kernel.left)
    (ap (λ ls. worked_behind S (all_live_of c.in_ok-made-in-len1-up.made) (point_of c.in_ok-p-in-len1-up.p) (all_live_of ls) c.work_pairs.new.kernel.left) (rest-of live)
    ∙ worked-on S c.args.p c.in_ok-p-in-len1-up.p c.args.made live c.in_ok-made-in-len1-up.made c.c-item.result c.as_slice.result.now
    c.in_ok-pairs-in-len1-up.pairs c.as_slice-in-len1-up.result.now c.args.kernel.now.left c.work_pairs.new.kernel.left c.in-len1-up.len_at_least c.c-item.is
    c.as_slice.ensures c.as_slice-in-len1-up.ensures c.in_ok-pairs-in-len1-up.ensures.answer c.in_ok-p-in-len1-up.ensures.answer
    c.in_ok-made-in-len1-up.ensures)
    c.worked.ensures.answer
