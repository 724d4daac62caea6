use Rattle.surface_syntax.proofs.Found.{nested_first}
use Rattle.surface_syntax.proofs.laws.nested_comes_first.Goals as goal

pub returns : goal.returns
returns c = λ ts n k v w. nested_first ts n k v w
