-- The meanings of the code's refusals, and how the answers of calls are tied to those that are meant.
use Rattle.std.specs.Prelude.{◌≡◌, ℕ, Result}
use Rattle.core_terms.specs.Answers.{StandsFor, SpendsFor}
use Rattle.core_terms.specs.Meanings.{tree_of, tele_of}
use Rattle.core_terms.specs.PatternMeanings.{pat_of}
use Rattle.core_terms.specs.declared.stop.Stop.TheVariants.{Memory}
use Rattle.case_trees.specs.Stops as pure
use Rattle.case_trees.specs.Stops.{Stopping}
use Rattle.clause_walks.specs.declared.stops.TreeStop.{TreeStop}
use Rattle.clause_walks.specs.declared.stops.TreeStop.TheVariants.{Stop, Stuck, Uncovered, NotAbsurd, Impossible, WrongConstructor, Forced}

abbrev pub stop_of : TreeStop → pure.TreeStop
stop_of (Stop e) = pure.Halts e
stop_of (Stuck clause ctx left right why) = pure.Stuck clause (tele_of ctx) (tree_of left) (tree_of right) why
stop_of (Uncovered ctx terms) = pure.Uncovered (tele_of ctx) (tele_of terms)
stop_of (NotAbsurd clause family con) = pure.NotAbsurd clause family con
stop_of (Impossible clause ctx left right) = pure.Impossible clause (tele_of ctx) (tree_of left) (tree_of right)
stop_of (WrongConstructor clause ctx ty) = pure.WrongConstructor clause (tele_of ctx) (tree_of ty)
stop_of (Forced clause ctx pat term) = pure.Forced clause (tele_of ctx) (pat_of pat) (tree_of term)

-- the refusals that nothing rules out: only out of memory
abbrev pub IsUnforeseen : TreeStop → Type 0
IsUnforeseen e = e ≡ Stop Memory

-- the answer with the units that are `left` stands for `meant` by way of `f`, unless memory ran out
abbrev pub Yields : {A B : Type 0} → (A → B) → Result A TreeStop → ℕ → Stopping B → Type 0
Yields f result left meant = SpendsFor IsUnforeseen stop_of f result left meant

-- the answer stands for `meant` where no units are spent
abbrev pub Tells : {A B : Type 0} → (A → B) → Result A TreeStop → Result B pure.TreeStop → Type 0
Tells f result meant = StandsFor IsUnforeseen stop_of f result meant
