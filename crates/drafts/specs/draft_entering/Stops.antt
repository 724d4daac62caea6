-- The refusals of entering in the code, and how the answers of calls are tied to the answers that are meant.
use Rattle.std.specs.Prelude.{◌≡◌, ℕ, Result}
use Rattle.core_terms.specs.Answers.{SpendsFor, SpentOr}
use Rattle.core_terms.specs.Meanings.{tree_of, tele_of}
use Rattle.core_terms.specs.declared.stop.Stop.TheVariants.{Memory}
use Rattle.clause_reports.specs.Stops as pure
use Rattle.drafts.specs.declared.draft_entering.stop.ReportStop.{ReportStop}
use Rattle.drafts.specs.declared.draft_entering.stop.ReportStop.TheVariants.{Stop, Stuck, Rejected}

abbrev pub stop_of : ReportStop → pure.ReportStop
stop_of (Stop e) = pure.Halts e
stop_of (Stuck ctx left right why) = pure.Stuck (tele_of ctx) (tree_of left) (tree_of right) why
stop_of (Rejected entry line place ctx reason) =
    pure.Rejected (record { entry = entry; line = line; place = place; context = ctx; reason = reason })

-- the refusals that nothing rules out: only out of memory
abbrev pub IsUnforeseen : ReportStop → Type 0
IsUnforeseen e = e ≡ Stop Memory

-- the answer with the units that are `left` stands for `meant` by way of `f`, unless memory ran out
abbrev pub Reports : {A B : Type 0} → (A → B) → Result A ReportStop → ℕ → SpentOr pure.ReportStop B → Type 0
Reports f result left meant = SpendsFor IsUnforeseen stop_of f result left meant
