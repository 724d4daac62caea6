use Rattle.std.proofs.Common.{sym, subst as transport}
use Rattle.split_terms.specs.NodeMeanings.{AllFitIn}
use Rattle.split_terms.proofs.MethodSteps.{all-fit}
use Rattle.split_terms.proofs.splitting.split_member.Goals as goal

pub with_methods-requires-clause-kinds : goal.with_methods-requires-clause-kinds
with_methods-requires-clause-kinds c =
    transport (AllFitIn c.args.m.now) (sym c.as_slice-cons.ensures) (all-fit c.args.m.now c.requires)
