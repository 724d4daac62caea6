use Rattle.surface_syntax.proofs.Splits.{within_at, goes-gap_at, goes-token_at, total_at, splits_at, stops_at}
use Rattle.surface_syntax.proofs.spans.split.Goals as goal

pub pieces-preserved-in-Gap : goal.pieces-preserved-in-Gap
pieces-preserved-in-Gap c =
    let i = c.pieces.invariant in
    let e = c.behind-rest.ensures in
    record {
      goes = goes-gap_at _ _ _ _ _ e i.goes _ _ c.byte_len.ensures c.in-Gap.ensures.value;
      total = total_at _ _ _ _ _ e i.goes _ _ c.byte_len.ensures i.total;
      within = within_at _ _ _ _ _ e i.goes _ i.within c.in-Gap.ensures.within.1;
    }

pub pieces-preserved : goal.pieces-preserved
pieces-preserved c =
    let i = c.pieces.invariant in
    let e = c.behind-rest.ensures in
    let b = c.byte_len-in-Found.ensures in
    record {
      goes = rw c.in_ok-push-in-Found.ensures.items (goes-token_at _ _ _ _ _ e i.goes c.in-Found.kind _ _ b c.in-Found.ensures.value);
      total = total_at _ _ _ _ _ e i.goes _ _ b i.total;
      within = within_at _ _ _ _ _ e i.goes _ i.within c.in-Found.ensures.within.1;
    }

pub returns-in-Bad : goal.returns-in-Bad
returns-in-Bad c = stops_at _ _ _ _ _ c.behind-rest.ensures c.pieces.invariant.goes c.pieces-test.true c.in-Bad.ensures.value

pub returns : goal.returns
returns c = rw c.from_vec.ensures (splits_at _ _ _ _ c.pieces.invariant.goes c.pieces.invariant.total c.pieces-test.false)
