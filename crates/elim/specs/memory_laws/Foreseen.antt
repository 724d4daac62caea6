-- Refusals that definitions come to.
use Rattle.core_terms.specs.declared.stop.Stop.{Stop}
use Rattle.core_terms.specs.declared.stop.Stop.TheVariants.{Memory, PoolFull, Fuel, Deep}
use Rattle.resolve.specs.declared.stop.ResolveStop.{ResolveStop}
use Rattle.resolve.specs.declared.stop.ResolveStop.TheVariants as resolving
use Rattle.family_check.specs.Outcomes.{FamilyStop, Stopped, Duplicate}
use Rattle.case_trees.specs.Stops as tree
use Rattle.case_trees.specs.Stops.{TreeStop}
use Rattle.clause_reports.specs.Stops as report
use Rattle.clause_reports.specs.Stops.{ReportStop}
use Rattle.clause_reports.specs.elaboration.Refusals as refusal
use Rattle.clause_reports.specs.elaboration.Refusals.{Refusal}

-- out of units or too high: neither out of memory, nor a pool of terms that is full, which a session shows as out of memory
abbrev pub IsForeseen : Stop → Type 0
IsForeseen Memory = ⊥
IsForeseen PoolFull = ⊥
IsForeseen Fuel = Unit {0}
IsForeseen Deep = Unit {0}

-- ---- refusals that hold such a one

abbrev pub IsForeseenName : ResolveStop → Type 0
IsForeseenName resolving.Memory = ⊥
IsForeseenName _ = Unit {0}

abbrev pub IsForeseenEntry : FamilyStop → Type 0
IsForeseenEntry (Stopped e) = IsForeseen e
IsForeseenEntry _ = Unit {0}

-- of an instance, which declares no name
abbrev pub IsForeseenInstance : FamilyStop → Type 0
IsForeseenInstance (Stopped e) = IsForeseen e
IsForeseenInstance Duplicate = ⊥
IsForeseenInstance _ = Unit {0}

abbrev pub IsForeseenTree : TreeStop → Type 0
IsForeseenTree (tree.Halts e) = IsForeseen e
IsForeseenTree _ = Unit {0}

abbrev pub IsForeseenReport : ReportStop → Type 0
IsForeseenReport (report.Halts e) = IsForeseen e
IsForeseenReport _ = Unit {0}

abbrev pub IsForeseenFunction : Refusal → Type 0
IsForeseenFunction (refusal.Halts e) = IsForeseen e
IsForeseenFunction _ = Unit {0}
