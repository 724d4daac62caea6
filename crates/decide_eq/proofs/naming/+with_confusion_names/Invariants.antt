use Rattle.std.proofs.Common.{length}
use Rattle.decide_eq.proofs.naming.+with_confusion_names.Given as goal

abbrev pub decreases-with_confusion_names : goal.decreases-with_confusion_names
decreases-with_confusion_names l = length l.cons.now
