use Rattle.std.proofs.Common.{◌≡◌, ◌-◌, drop, length}
use Rattle.drafts.specs.draft_checks.Checks.{all_unmarked, unmarked}
use Rattle.drafts.proofs.draft_checks.marks.is_unmarked.Given as goal

abbrev pub invariant-loop-at : goal.invariant-loop-at
invariant-loop-at l = all_unmarked (drop l.at l.sig.entries) ≡ unmarked l.sig

abbrev pub decreases-loop-at : goal.decreases-loop-at
decreases-loop-at l = length l.sig.entries - l.at
