use Rattle.std.proofs.Common.{rules, length}
use Rattle.std.proofs.lemmas.List.{length-map}
use Rattle.core_terms.specs.Meanings.{tele_of, tree_of}
use Rattle.tree_cases.proofs.Starts.{given}
use Rattle.tree_cases.proofs.conditions.are_given.Goals as goal

pub returns : goal.returns
returns c =
    let counted = length-map c.args.ctx.now tree_of in
    let step = given c.args.sig.now (tele_of c.args.ctx.now) (tree_of c.args.goal.now) (tele_of c.args.terms.now) (length c.args.ctx.now) in
    search (rules, counted, step)
