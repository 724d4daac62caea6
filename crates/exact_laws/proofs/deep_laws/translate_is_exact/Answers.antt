use Rattle.exact_laws.proofs.deep_laws.ExactEntries.{translate-exact}
use Rattle.exact_laws.proofs.deep_laws.translate_is_exact.Goals as goal

pub returns : goal.returns
returns c = translate-exact c.part_is_exact.ensures
