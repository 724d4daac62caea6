-- An answer with the units that are left.
use Rattle.std.proofs.Common.{ℕ, Result}
use Rattle.core_terms.specs.Answers.{SpentOr}

abbrev pub spent : {A E : Type 0} → Result A E → ℕ → SpentOr E A
spent r n = (r, n)
