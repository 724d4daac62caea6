use Rattle.generators.proofs.noconf_gen.ConfusionComputing.{injection-computes}
use Rattle.generators.proofs.noconf_gen.laws.injection_computes.Goals as goal

pub returns : goal.returns
returns c = injection-computes
