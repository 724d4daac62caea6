use Rattle.shared_text.proofs.PrintedParts.{printed_terms_are_below}
use Rattle.shared_text.proofs.laws.printed_terms_are_below.Goals as goal

pub returns : goal.returns
returns c = printed_terms_are_below
