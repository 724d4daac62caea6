use Rattle.function_session.proofs.Answering.{enters, refuses}
use Rattle.function_session.proofs.functions.enter_function.Goals as goal

pub returns-in-Ok-clause-answer : goal.returns-in-Ok-clause-answer
returns-in-Ok-clause-answer c =
    enters c.function.new.sig c.args.x.now c.args.fuel _ c.in-Ok.lines _ c.in_ok-name.name _ c.in-Ok.ensures.answer c.new.ensures c.in_ok-name.ensures

pub returns-in-Err-clause-answer : goal.returns-in-Err-clause-answer
returns-in-Err-clause-answer c =
    refuses c.args.x.now c.args.fuel _ c.in-Err.refusal c.refused_function.result _ c.in-Err.ensures.answer c.refused_function.ensures
