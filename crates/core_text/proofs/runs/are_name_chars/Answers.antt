use Rattle.std.proofs.Common.{refl, ap}
use Rattle.std.specs.List.{list_all}
use Rattle.std.specs.Str.{chars}
use Rattle.std.proofs.lemmas.Str.{is_utf8-from_IsUtf8}
use Rattle.core_text.specs.NameRuns.{is_name_char}
use Rattle.core_text.proofs.RunSteps.{no_utf8}
use Rattle.core_text.proofs.runs.are_name_chars.Goals as goal

pub returns-in-Ok : goal.returns-in-Ok
returns-in-Ok c =
    rw (is_utf8-from_IsUtf8 _ c.in-Ok.ensures.cases.1, c.all_name_chars.ensures) (ap (λ t. list_all is_name_char (chars t)) c.in-Ok.ensures.cases.0)

pub returns-in-Err : goal.returns-in-Err
returns-in-Err c = rw (no_utf8 c.args.bytes.now c.in-Err.ensures.cases.0) refl
