use Rattle.std.proofs.Common.{ap, sym, ◌∙◌, subst, length}
use Rattle.core_terms.specs.Meanings.{tree_of}
use Rattle.core_sig.specs.Kinds.{HasKind}
use Rattle.core_sig.specs.Meanings.{argument_with}
use Rattle.core_sig.specs.Offenders.{offends}
use Rattle.core_sig.proofs.PositiveFamilies.{recursive-fits}
use Rattle.core_sig.proofs.positivity.offends.Goals as goal

pub returns-in-Recursive : goal.returns-in-Recursive
returns-in-Recursive c = λ f at kind.
    let arg = c.args.arg.now in
    sym (ap (λ k. offends c.args.fam (argument_with (length f.parameters) (tree_of arg.ty) arg.level k)) c.in-Recursive.is
    ∙ recursive-fits c.args.fam f at _ (tree_of arg.ty) arg.level (subst (λ k. HasKind c.args.fam f at k (tree_of arg.ty)) c.in-Recursive.is kind))
