-- The mode `work`: how many clauses of its source file have each line.
use Rattle.std.specs.Prelude.{ℕ, ◌+◌, true, false, List, [], ◌∷◌, Result, Ok, Err}
use Rattle.surface_syntax.specs.Trees as surf
use Rattle.clause_reports.specs.Reports.{Line, Definitional, Proved, Shadowed, Absurd}
use Rattle.clause_reports.specs.elaboration.Functions.{ClauseLine}
use Rattle.elab_session.specs.declared.refusal.Refusal.{Refusal}
use Rattle.function_session.specs.Declaring.{declared_in, new_session, with_declared}
use Rattle.function_session.specs.Elaborating.{Elaborated}
use Rattle.function_session.specs.Sessions.{Session}
use Rattle.elim.specs.declared.elim_program.counts.Counts.{Counts}
use Rattle.elim.specs.declared.program_texts.words.Work.{Work}
use Rattle.elim.specs.elim_program.Outputs.{Block, block, declared_name, Output, compiled}
use Rattle.elim.specs.program_texts.Refusals.{refused_lines, stop_line}
use Rattle.elim.specs.program_texts.Texts.{Answer}
use Rattle.elim.specs.elim_program.WorkTexts.{summary_line}

-- ---- counting

abbrev pub none_counted : Counts
none_counted = record { accepted = 0; definitional = 0; proved = 0; shadowed = 0; absurd = 0 }

-- one clause more
abbrev pub counted : Counts → Line → Counts
counted c Definitional = record c { definitional = c.definitional + 1 }
counted c (Proved n) = record c { proved = c.proved + 1 }
counted c (Shadowed earlier context vector leaves) = record c { shadowed = c.shadowed + 1 }
counted c Absurd = record c { absurd = c.absurd + 1 }

abbrev pub all_counted : Counts → List ClauseLine → Counts
all_counted c [] = c
all_counted c (l ∷ lines) = all_counted (counted c l.line) lines

-- one declaration more
abbrev pub one_accepted : Counts → Counts
one_accepted c = record c { accepted = c.accepted + 1 }

abbrev pub with_accepted : Counts → Elaborated → Counts
with_accepted c a = all_counted (one_accepted c) a.lines

-- the counts after a declaration, or the lines of its refusal
abbrev pub on_worked : surf.Decl → Result Elaborated Refusal → (Elaborated → Result Counts (List (List ℕ))) → Result Counts (List (List ℕ))
on_worked d (Ok a) go = go a
on_worked d (Err e) go = Err (refused_lines (declared_name d) e)

-- declarations one by one in a session, up to the first that is refused
abbrev pub worked : Session → List surf.Decl → Counts → Result Counts (List (List ℕ))
worked s [] c = Ok c
worked s (d ∷ ds) c = on_worked d (declared_in s d) (λ a. worked (with_declared s d a.signature) ds (with_accepted c a))

-- ---- the output

abbrev pub worked_block : ℕ → Result Counts (List (List ℕ)) → Block
worked_block n (Ok c) = block (summary_line n c ∷ []) false
worked_block n (Err lines) = block lines true

abbrev pub work_block : Work → Answer → Block
work_block w (Ok ds) = worked_block w.count (worked (new_session false w.fuel) ds none_counted)
work_block w (Err e) = block (stop_line e ∷ []) true

abbrev pub work_output : Work → Answer → Output
work_output w answer = compiled false (work_block w answer)
