use Rattle.std.proofs.Common.{◌≡◌, ◌-◌, length, option_map}
use Rattle.clause_reports.specs.Generated.{generated_by}
use Rattle.drafts.specs.draft_entering.FoundNames.{numbers_of}
use Rattle.drafts.proofs.draft_entering.FoundAmong.{found_after}
use Rattle.drafts.proofs.draft_entering.finding.generated_by.Given as goal

abbrev pub invariant-loop-at : goal.invariant-loop-at
invariant-loop-at l = found_after l.name l.at l.sig.entries ≡ option_map numbers_of (generated_by l.sig l.name)

abbrev pub decreases-loop-at : goal.decreases-loop-at
decreases-loop-at l = length l.sig.entries - l.at
