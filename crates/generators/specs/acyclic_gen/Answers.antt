-- The answers of the calls.
use Rattle.std.specs.Prelude.{◌≡◌, List, [], ◌∷◌, Result, Ok, Err}
use Rattle.core_terms.specs.Answers.{GivesUnless}
use Rattle.core_terms.specs.declared.stop.Stop.{Stop as TermStop}
use Rattle.core_terms.specs.declared.stop.Stop.TheVariants.{Memory}
use Rattle.generators.specs.declared.acyclic_gen.stop.AcyclicStop.{AcyclicStop}
use Rattle.generators.specs.declared.acyclic_gen.stop.AcyclicStop.TheVariants.{Stop, Indexed}

-- the refusals that nothing rules out: only out of memory
abbrev pub IsUnforeseen : AcyclicStop → Type 0
IsUnforeseen e = e ≡ Stop Memory

-- the answer stands for `meant` by way of `f`, unless memory ran out
abbrev pub Yields : {A B : Type 0} → (A → B) → Result A AcyclicStop → Result B AcyclicStop → Type 0
Yields f result meant = GivesUnless IsUnforeseen f result meant

-- a refusal of a call on terms among those of a generator
abbrev pub among_stops : {A : Type 0} → Result A TermStop → Result A AcyclicStop
among_stops (Ok a) = Ok a
among_stops (Err e) = Err (Stop e)

-- the answer if there are no indices, and else Indexed
abbrev pub unless_indexed : {A I : Type 0} → List I → Result A TermStop → Result A AcyclicStop
unless_indexed [] result = among_stops result
unless_indexed (index ∷ indices) result = Err Indexed
