use Rattle.std.proofs.Common.{rules}
use Rattle.std.proofs.lemmas.Iterator.{YieldsList-from_chars}
use Rattle.std.proofs.lemmas.Iterator.Search.{all_from_yields_List}
use Rattle.core_text.specs.NameRuns.{is_name_char}
use Rattle.core_text.proofs.runs.all_name_chars.Goals as goal

pub returns : goal.returns
returns c = all_from_yields_List is_name_char _ _ c.all.result c.all.ensures.ran (YieldsList-from_chars c.args.text.now c.utf8.text cc) (λ x b q k. search rules)
