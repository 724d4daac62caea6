use Rattle.surface_syntax.proofs.Found.{text_nested, nested_text}
use Rattle.surface_syntax.proofs.laws.nested_in_a_text.Goals as goal

pub returns : goal.returns
returns c = λ ts ds n file. (λ w. text_nested ts ds n file w, λ at. nested_text ts ds n file at)
