-- How the answer of a call is tied to the answer that is meant.
use Rattle.std.specs.Prelude.{◌≡◌, Result}
use Rattle.core_terms.specs.Answers.{GivesUnless}
use Rattle.core_terms.specs.declared.stop.Stop.{Stop}
use Rattle.core_terms.specs.declared.stop.Stop.TheVariants as stop
use Rattle.resolve.specs.declared.stop.ResolveStop.{ResolveStop}
use Rattle.resolve.specs.declared.stop.ResolveStop.TheVariants.{Memory, Deep}

-- the refusals that nothing rules out: only out of memory
abbrev pub IsUnforeseen : ResolveStop → Type 0
IsUnforeseen e = e ≡ Memory

-- the answer stands for `meant` by way of `f`, unless memory ran out
abbrev pub Gives : {A B : Type 0} → (A → B) → Result A ResolveStop → Result B ResolveStop → Type 0
Gives f result meant = GivesUnless IsUnforeseen f result meant

-- an error of a call on terms, which never asks for units or for room in a pool here
abbrev pub IsStop : Stop → ResolveStop → Type 0
IsStop stop.Deep e = e ≡ Deep
IsStop _ e = e ≡ Memory
