use Rattle.std.proofs.Common.{◌≡◌, drop}
use Rattle.core_sig.specs.Raw.{raw_names, raw_of}
use Rattle.family_check.specs.Entering.{are_new}
use Rattle.family_check.proofs.NameTests.{are_new_behind, con_names}
use Rattle.family_check.proofs.names.are_new.Given as goal

abbrev pub invariant-loop-con : goal.invariant-loop-con
invariant-loop-con l = are_new l.sig (raw_names (raw_of l.raw)) ≡ are_new_behind l.sig l.before (con_names (drop l.con-index l.raw.cons))
