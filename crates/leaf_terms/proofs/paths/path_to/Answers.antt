use Rattle.core_sig.specs.Meanings.{family_of}
use Rattle.leaf_terms.proofs.paths.path_to.Goals as goal

pub returns : goal.returns
returns c = c.below_path.ensures.path (family_of c.args.d.now.family.now) c.requires
