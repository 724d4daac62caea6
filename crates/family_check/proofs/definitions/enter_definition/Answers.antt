use Rattle.theory.specs.Signatures.{Definition}
use Rattle.core_terms.specs.Meanings.{tree_of}
use Rattle.family_check.specs.Entering.{entered}
use Rattle.family_check.proofs.LowEntries.{checked-low}
use Rattle.family_check.proofs.definitions.enter_definition.Goals as goal

pub push-requires-clause-can : goal.push-requires-clause-can
push-requires-clause-can c =
    let S = c.args.sig.now in
    checked-low S c.args.name (tree_of c.args.ty) (tree_of c.args.body) (entered S (Definition c.args.name (tree_of c.args.ty) (tree_of c.args.body))) _ _
    (c.in_ok-check_definition.ensures.answer c.args.name)
