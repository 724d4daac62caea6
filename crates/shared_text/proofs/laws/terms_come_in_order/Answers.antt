use Rattle.shared_text.proofs.TermOrder.{terms_come_in_order}
use Rattle.shared_text.proofs.laws.terms_come_in_order.Goals as goal

pub returns : goal.returns
returns c = terms_come_in_order
