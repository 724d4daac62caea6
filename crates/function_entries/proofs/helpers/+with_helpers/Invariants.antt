use Rattle.std.proofs.Common.{length}
use Rattle.function_entries.proofs.helpers.+with_helpers.Given as goal

abbrev pub decreases-with_helpers : goal.decreases-with_helpers
decreases-with_helpers l = length l.parts.now
