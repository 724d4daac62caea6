use Rattle.std.proofs.Common.{inl, inr, refl}
use Rattle.elim.proofs.elim_program.Following.{sent_part}
use Rattle.elim.proofs.elim_program.running.send.Goals as goal

pub returns-in-Err-Fault-clause-sent : goal.returns-in-Err-Fault-clause-sent
returns-in-Err-Fault-clause-sent g c =
    sent_part _ _ _ _ _ _ _ c.write_all.ensures.bytes c.write_all.ensures.ok c.write_all.ensures.count c.in-Err-Fault.is (inl refl)

pub returns-in-Err-Memory-clause-sent : goal.returns-in-Err-Memory-clause-sent
returns-in-Err-Memory-clause-sent g c =
    sent_part _ _ _ _ _ _ _ c.write_all.ensures.bytes c.write_all.ensures.ok c.write_all.ensures.count c.in-Err-Memory.is (inr refl)
