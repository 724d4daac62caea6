use Rattle.std.proofs.Common.{length, sym, subst as transport}
use Rattle.std.proofs.lemmas.List.{length-map}
use Rattle.core_terms.specs.Meanings.{tree_of, tele_of}
use Rattle.case_trees.specs.Keeping.{keep_all}
use Rattle.clause_walks.specs.Forgetting.{CoverAll}
use Rattle.clause_walks.specs.Meanings.{pairs_of}
use Rattle.clause_walks.specs.PairConditions.{AreKeptPairs}
use Rattle.clause_walks.proofs.NextCodes.{worked-covers}
use Rattle.clause_walks.proofs.turns.turn.Goals as goal

pub next_unless_dropped-requires-clause-pairs : goal.next_unless_dropped-requires-clause-pairs
next_unless_dropped-requires-clause-pairs c =
    let S = c.args.sig.now in
    let n = length (tele_of c.args.p.context) in
    transport (λ n. AreKeptPairs S n (pairs_of c.as_slice.result.now)) (length-map c.args.p.context tree_of)
    (transport (λ worked. AreKeptPairs S n (pairs_of worked)) (sym c.as_slice.ensures) (c.in_ok-worked.ensures.kept n c.requires.state.pairs))

pub next_unless_dropped-requires-clause-covers : goal.next_unless_dropped-requires-clause-covers
next_unless_dropped-requires-clause-covers c =
    let S = c.args.sig.now in
    let us = tele_of c.args.p.terms in
    transport (λ worked. CoverAll S (pairs_of worked) (keep_all S (pairs_of worked) us)) (sym c.as_slice.ensures)
    (worked-covers S (pairs_of c.args.pairs.now) (pairs_of c.in_ok-worked.worked) us c.args.kernel.now.left c.work_pairs.new.kernel.left c.requires.state.covers c.in_ok-worked.ensures.answer)
