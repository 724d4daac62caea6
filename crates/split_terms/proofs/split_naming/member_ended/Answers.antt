use Rattle.std.proofs.Common.{sym, subst as transport}
use Rattle.split_terms.specs.NodeMeanings.{AllFitIn}
use Rattle.split_terms.proofs.MethodSteps.{all-fit}
use Rattle.split_terms.proofs.split_naming.member_ended.Goals as goal

pub methods_ended-requires-clause-kinds : goal.methods_ended-requires-clause-kinds
methods_ended-requires-clause-kinds c =
    transport (AllFitIn c.args.m.now) (sym c.as_slice-cons.ensures) (all-fit c.args.m.now c.requires)
