use Rattle.std.proofs.Common.{subst}
use Rattle.core_terms.specs.Answers.{Gives}
use Rattle.core_terms.specs.Meanings.{tree_of}
use Rattle.tree_translation.proofs.structural_rec.Parts.{lifted-low}
use Rattle.tree_translation.proofs.structural_rec.terms.lifted.Goals as goal

pub returns : goal.returns
returns c = subst (Gives tree_of c.lift.result) (lifted-low (tree_of c.args.t.now) c.args.under c.requires.small.0) c.lift.ensures
