use Rattle.std.proofs.Common.{length}
use Rattle.run_terms.proofs.injections.terms_at.Goals as goal

pub returns : goal.returns
returns c = c.constructor_terms.ensures (length c.args.c.now.left.built.record.now.params)
