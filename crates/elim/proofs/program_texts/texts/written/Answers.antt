use Rattle.elim.proofs.program_texts.Asking.{no_tokens, not_parsed, is_parsed}
use Rattle.elim.proofs.program_texts.texts.written.Goals as goal

pub returns-in-Err : goal.returns-in-Err
returns-in-Err c = no_tokens _ _ _ c.requires c.in-Err.ensures.says c.stop_of.ensures

pub returns-in-Ok-parse : goal.returns-in-Ok-parse
returns-in-Ok-parse c = is_parsed _ _ _ _ c.requires c.in-Ok.ensures.says c.in-Ok-parse.is c.parse.ensures.runs

pub returns : goal.returns
returns c = not_parsed _ _ _ _ _ c.requires c.in-Ok.ensures.says c.in-Err-parse.is c.parse.ensures.runs c.stop_of-in-Err-parse.ensures
