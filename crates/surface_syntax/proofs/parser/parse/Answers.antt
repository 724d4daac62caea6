use Rattle.std.proofs.Common.{Ok}
use Rattle.surface_syntax.proofs.Answered.{says, gives}
use Rattle.surface_syntax.proofs.Unique.{tokens_in_order}
use Rattle.surface_syntax.proofs.parser.parse.Goals as goal

pub read-requires-clause-ordered : goal.read-requires-clause-ordered
read-requires-clause-ordered c = rw c.as_slice-tokens.ensures (tokens_in_order c.args.bytes.now (Ok c.args.tokens.now) c.requires)

pub returns-clause-says : goal.returns-clause-says
returns-clause-says c = says _ _ c.read.result (rw c.as_slice-tokens.ensures at c.read.ensures)

pub returns-clause-only : goal.returns-clause-only
returns-clause-only c = gives _ _ c.read.result (rw c.as_slice-tokens.ensures at c.read.ensures)
