use Rattle.std.proofs.Common.{sym, ◌∙◌, arith}
use Rattle.drafts.proofs.draft_checks.UnmarkedEntries.{last-entry, marked-entry, next-entry, unmarked-tells}
use Rattle.drafts.proofs.draft_checks.marks.is_unmarked.Goals as goal

pub returns-then-not-is_unmarked_at-clause-answer : goal.returns-then-not-is_unmarked_at-clause-answer
returns-then-not-is_unmarked_at-clause-answer c =
    sym (marked-entry c.loop-at.at c.args.sig.now.entries (omega (arith, c.loop-at-test.true, c.len.ensures))
    (sym c.is_unmarked_at.ensures ∙ c.if-not-is_unmarked_at.true)) ∙ c.loop-at.invariant

pub loop-at-preserved : goal.loop-at-preserved
loop-at-preserved c =
    sym (next-entry c.loop-at.at c.args.sig.now.entries (omega (arith, c.loop-at-test.true, c.len.ensures))
    (sym c.is_unmarked_at.ensures ∙ c.if-not-is_unmarked_at.false)) ∙ c.loop-at.invariant

pub returns-clause-tells : goal.returns-clause-tells
returns-clause-tells c holds =
    unmarked-tells c.args.sig.now
    (sym c.loop-at.invariant ∙ last-entry c.loop-at.at c.args.sig.now.entries (omega (arith, c.loop-at-test.false, c.len.ensures)))
