-- The mode `work` counts the clauses of the lines that `compile` writes for the same source file.
use Rattle.std.specs.Prelude.{◌≡◌, ℕ, true, false, List, [], ◌∷◌, ◌++◌, Result, Ok, Err}
use Rattle.theory.specs.Signatures.{Signature}
use Rattle.surface_syntax.specs.Trees as surf
use Rattle.elab_session.specs.declared.refusal.Refusal.{Refusal}
use Rattle.function_session.specs.Declaring.{declared_in, with_declared}
use Rattle.function_session.specs.Elaborating.{Elaborated}
use Rattle.function_session.specs.Sessions.{Session}
use Rattle.elim.specs.declared.elim_program.counts.Counts.{Counts}
use Rattle.elim.specs.elim_program.Outputs.{Block, accepted_lines, block, declarations}
use Rattle.elim.specs.elim_program.Works.{with_accepted, worked}

-- a declaration that is accepted, with the signature before it
abbrev pub Accepting : Type 0
Accepting = Signature × Elaborated

abbrev pub on_accepting : Signature → Result Elaborated Refusal → (Signature → List Accepting) → List Accepting
on_accepting S (Ok a) go = (S, a) ∷ go a.signature
on_accepting S (Err e) go = []

-- the declarations that are accepted, one by one up to the first that is refused
abbrev pub acceptings : Session → List surf.Decl → List Accepting
acceptings s [] = []
acceptings s (d ∷ ds) = on_accepting s.signature (declared_in s d) (λ T. acceptings (with_declared s d T) ds)

-- the lines of what is accepted
abbrev pub acceptings_lines : List Accepting → List (List ℕ)
acceptings_lines [] = []
acceptings_lines (one ∷ more) = accepted_lines one.0 one.1 ++ acceptings_lines more

-- each one is a declaration more, and its lines of clauses are counted
abbrev pub acceptings_counted : Counts → List Accepting → Counts
acceptings_counted c [] = c
acceptings_counted c (one ∷ more) = acceptings_counted (with_accepted c one.1) more

-- the counts are those of these lines, or the last lines are those of the refusal
abbrev pub IsCountOf : Counts → List Accepting → Block → Result Counts (List (List ℕ)) → Type 0
IsCountOf c all written (Ok n) = (written ≡ block (acceptings_lines all) false) × (n ≡ acceptings_counted c all)
IsCountOf c all written (Err lines) = written ≡ block (acceptings_lines all ++ lines) true

-- `work` counts the clauses of the lines that `compile` writes, or ends in the lines of the same refusal
abbrev pub WorkCountsOutput : Type 0
WorkCountsOutput = (s : Session) (ds : List surf.Decl) (c : Counts) → IsCountOf c (acceptings s ds) (declarations s ds) (worked s ds c)
