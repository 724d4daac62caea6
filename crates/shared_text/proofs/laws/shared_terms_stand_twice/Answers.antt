use Rattle.shared_text.proofs.PrintedParts.{shared_terms_stand_twice}
use Rattle.shared_text.proofs.laws.shared_terms_stand_twice.Goals as goal

pub returns : goal.returns
returns c = shared_terms_stand_twice
