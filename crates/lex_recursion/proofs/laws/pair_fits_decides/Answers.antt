use Rattle.lex_recursion.proofs.FirstFailing.{pair-fits}
use Rattle.lex_recursion.proofs.laws.pair_fits_decides.Goals as goal

pub returns : goal.returns
returns c = pair-fits
