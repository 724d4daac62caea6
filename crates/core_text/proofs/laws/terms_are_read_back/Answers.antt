use Rattle.core_text.proofs.TermsBack.{terms-are-read-back}
use Rattle.core_text.proofs.laws.terms_are_read_back.Goals as goal

pub returns : goal.returns
returns c = terms-are-read-back
