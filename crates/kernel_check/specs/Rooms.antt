-- Answers over a store without room, as answers on terms that are written out.
use Rattle.std.specs.Prelude.{Result, Ok, Err}
use Rattle.core_terms.specs.declared.stop.Stop.{Stop}
use Rattle.core_sig.specs.Refusals.{memory_for}

-- want of room is answered as want of memory
abbrev pub without_room : {A : Type 0} → Result A Stop → Result A Stop
without_room (Ok a) = Ok a
without_room (Err e) = Err (memory_for e)
