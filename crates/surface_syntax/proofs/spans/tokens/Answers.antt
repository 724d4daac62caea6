use Rattle.std.proofs.Common.{◌≡◌, ap, ◌∙◌, arith}
use Rattle.std.specs.Str.{chars}
use Rattle.surface_syntax.proofs.Unique.{tokens_only, tokens_from_split, tokens_in_order, chars_len}
use Rattle.surface_syntax.proofs.spans.tokens.Goals as goal
use Rattle.surface_syntax.proofs.spans.tokens.Goals.{After-as_slice}

are_chars : (c : After-as_slice) → c.as_slice.result.now ≡ chars c.args.bytes.now
are_chars c = c.as_slice.ensures.value ∙ c.in_ok-characters.ensures.ok ∙ ap chars c.in-Ok.ensures.cases.0

pub split-requires : goal.split-requires
split-requires c = omega (arith, chars_len _ _ c.in-Ok.ensures.cases.1 (are_chars c))

pub returns-clause-says : goal.returns-clause-says
returns-clause-says c = tokens_from_split _ _ _ c.in-Ok.ensures.cases.1 (are_chars (goal.at.returns-clause-says c).After-as_slice) c.split.ensures

pub returns-clause-only : goal.returns-clause-only
returns-clause-only c = λ expected are. tokens_only _ _ _ (returns-clause-says c) are

pub returns-clause-ordered : goal.returns-clause-ordered
returns-clause-ordered c = tokens_in_order _ _ (returns-clause-says c)
