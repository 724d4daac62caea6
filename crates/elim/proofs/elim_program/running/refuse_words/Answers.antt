use Rattle.std.proofs.Common.{refl}
use Rattle.elim.specs.elim_program.Outputs.{usage}
use Rattle.elim.proofs.elim_program.Following.{usage_whole}
use Rattle.elim.proofs.elim_program.running.refuse_words.Goals as goal

pub returns-in-Ok-clause-follows : goal.returns-in-Ok-clause-follows
returns-in-Ok-clause-follows g c = usage_whole usage _ _ _ refl c.in-Ok.ensures.sent refl
