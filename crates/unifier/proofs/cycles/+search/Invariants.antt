use Rattle.std.proofs.Common.{◌+◌, ◌-◌, ◌*◌, length}
use Rattle.unifier.proofs.cycles.+search.Given as goal

abbrev pub decreases-search : goal.decreases-search
decreases-search l = 8000 * l.room + 2

abbrev pub decreases-below : goal.decreases-below
decreases-below l = 8000 * l.room + 1

abbrev pub decreases-among : goal.decreases-among
decreases-among l = 8000 * l.room + 4 + (length l.us.now.items - l.at)

abbrev pub decreases-at_argument : goal.decreases-at_argument
decreases-at_argument l = 8000 * l.room + 3
