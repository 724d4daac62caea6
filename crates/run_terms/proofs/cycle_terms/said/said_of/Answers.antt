use Rattle.std.proofs.Common.{map, ap, ◌∙◌}
use Rattle.core_terms.specs.Meanings.{tree_of, tele_of}
use Rattle.core_terms.proofs.Builders.{ok_is}
use Rattle.core_sig.specs.Shapes.{argument_shape}
use Rattle.run_terms.specs.cycle_terms.SearchMeanings.{search_of}
use Rattle.run_terms.proofs.cycle_terms.SaidTerms.{said-is}
use Rattle.run_terms.proofs.cycle_terms.said.said_of.Goals as goal

pub returns : goal.returns
returns c =
    said-is c.instance_taking.result (search_of c.args.c.now) c.args.side (tree_of c.args.whole.now) (map argument_shape c.args.args.now) c.args.at
    (tree_of c.args.tuple) (tele_of c.into_vec.result.items) (tree_of c.in_ok-said.said) c.instance_taking.ensures
    (ap tele_of c.into_vec.ensures ∙ ok_is c.in_ok-values.ensures) (ok_is c.in_ok-said.ensures)
