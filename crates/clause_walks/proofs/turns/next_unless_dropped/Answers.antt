use Rattle.std.proofs.Common.{length, sym, arith, subst as transport}
use Rattle.std.proofs.lemmas.List.{length-map}
use Rattle.core_terms.specs.Meanings.{tree_of}
use Rattle.clause_walks.specs.Meanings.{pairs_of}
use Rattle.clause_walks.specs.OpenPairs.{open_of}
use Rattle.clause_walks.specs.PairConditions.{AreKeptPairs}
use Rattle.clause_walks.specs.PointMeanings.{point_of}
use Rattle.clause_walks.proofs.LedStates.{keeping-state}
use Rattle.clause_walks.proofs.TurnStates.{clash-low}
use Rattle.clause_walks.proofs.turns.next_unless_dropped.Goals as goal

pub clashing-requires : goal.clashing-requires
clashing-requires c = record {
  low = clash-low c.args.sig.now (length c.args.p.context) (pairs_of c.args.pairs.now) (open_of c.in-Some.clash) c.requires.pairs c.in-Some.ensures;
}

pub next_at-requires-clause-state : goal.next_at-requires-clause-state
next_at-requires-clause-state c =
    let S = c.args.sig.now in
    let pairs = pairs_of c.args.pairs.now in
    keeping-state S (point_of c.args.p) (point_of c.in_ok-next.next) pairs c.requires.point
    (transport (λ n. AreKeptPairs S n pairs) (sym (length-map c.args.p.context tree_of)) c.requires.pairs) c.requires.covers c.in_ok-next.ensures.answer
    (omega (arith, c.in_ok-next.ensures.few, length-map c.in_ok-next.next.context tree_of))
