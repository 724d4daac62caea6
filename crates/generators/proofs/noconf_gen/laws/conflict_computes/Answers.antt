use Rattle.generators.proofs.noconf_gen.ConfusionComputing.{conflict-computes}
use Rattle.generators.proofs.noconf_gen.laws.conflict_computes.Goals as goal

pub returns : goal.returns
returns c = conflict-computes
