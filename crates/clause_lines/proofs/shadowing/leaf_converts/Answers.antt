use Rattle.proof_walks.specs.proof_terms.ProofMeanings.{place_of}
use Rattle.clause_lines.proofs.ReducedPlaces.{sides-reduce}
use Rattle.clause_lines.proofs.shadowing.leaf_converts.Goals as goal

pub convertible-requires : goal.convertible-requires
convertible-requires c = sides-reduce c.args.kernel.now.signature (place_of c.args.p.now) c.requires.ready c.requires.kept
