use Rattle.std.proofs.Common.{Ok, sym, ap, ◌∙◌, arith}
use Rattle.core_terms.proofs.Builders.{ok_is}
use Rattle.drafts.proofs.draft_entering.FoundAmong.{entry-found, entry-missed, entries-end}
use Rattle.drafts.proofs.draft_entering.finding.generated_by.Goals as goal

pub returns-in-Some : goal.returns-in-Some
returns-in-Some c =
    ap Ok (sym (entry-found c.args.name.now c.loop-at.at c.args.sig.now.entries c.in-Some.found (omega (arith, c.loop-at-test.true, c.len.ensures))
    (sym (ok_is c.in_ok-found.ensures) ∙ c.in-Some.is)) ∙ c.loop-at.invariant)

pub loop-at-preserved : goal.loop-at-preserved
loop-at-preserved c =
    sym (entry-missed c.args.name.now c.loop-at.at c.args.sig.now.entries (omega (arith, c.loop-at-test.true, c.len.ensures))
    (sym (ok_is c.in_ok-found.ensures) ∙ c.in_default.is)) ∙ c.loop-at.invariant

pub returns : goal.returns
returns c =
    ap Ok (c.found_left.ensures ∙ sym (entries-end c.args.name.now c.loop-at.at c.args.sig.now.entries
    (omega (arith, c.loop-at-test.false, c.len.ensures))) ∙ c.loop-at.invariant)
