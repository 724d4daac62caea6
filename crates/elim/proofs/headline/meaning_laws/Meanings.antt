-- The lines that the program writes for a source file are those that are meant.
use Rattle.std.proofs.Common.{◌≡◌, inl, inr, ℕ, Bool, false, List, [], ◌∷◌, Result, Ok, Err, IfOk, refl, ap, ◌∙◌, subst as transport}
use Rattle.surface_syntax.specs.Grammar.{limit}
use Rattle.surface_syntax.specs.Trees.{Decl}
use Rattle.elab_session.specs.declared.refusal.Refusal.{Refusal}
use Rattle.function_session.specs.Declaring.{declared_in, new_session, session_after, with_declared}
use Rattle.function_session.specs.Elaborating.{Elaborated}
use Rattle.function_session.specs.Sessions.{Session}
use Rattle.function_session.specs.function_laws.declaration_laws.Laws.{AreMeant, TextIsMeant}
use Rattle.elim.specs.elim_program.DefinedOutputs.{compiles, works}
use Rattle.elim.specs.elim_program.Outputs.{Output, compiled, declarations, declared_block, followed, text_block}
use Rattle.elim.specs.elim_program.Runs.{Follows, nothing, output}
use Rattle.elim.specs.program_texts.Texts.{Answer, Gives}
use Rattle.elim.specs.elim_program.WorkTexts.{work_text}
use Rattle.elim.specs.elim_program.Works.{none_counted, on_worked, with_accepted, work_output, worked, worked_block}
use Rattle.elim.proofs.elim_program.OneOutput.{one_output}
use Rattle.elim.proofs.elim_program.Reading.{is-read}
use Rattle.elim.specs.headline.meaning_laws.Laws.{CompiledIsMeant, LinesAreMeant, RunIsMeant, WorkIsMeant}
use Rattle.elim.specs.headline.meaning_laws.Meant.{Counted, Flags, Workload, declarations_meant, text_meant, work_meant, worked_meant}

-- ---- one declaration after the other

lines-meant-from : (s : Session) (ds : List Decl) → AreMeant s ds → declarations s ds ≡ declarations_meant s ds
lines-meant-from s [] are = refl
lines-meant-from s (d ∷ ds) are =
    by (declared_in s d) are.1 (λ t is. lines-meant-from t ds is)
    ∙ ap (λ r. followed (declared_block s.signature d r) (declarations_meant (session_after s d r) ds)) are.0
  where
    by : (r : Result Elaborated Refusal) → IfOk r (λ a. AreMeant (with_declared s d a.signature) ds)
        → ((t : Session) → AreMeant t ds → declarations t ds ≡ declarations_meant t ds)
        → followed (declared_block s.signature d r) (declarations (session_after s d r) ds)
        ≡ followed (declared_block s.signature d r) (declarations_meant (session_after s d r) ds)
    by (Ok a) is rest = ap (λ b. followed (declared_block s.signature d (Ok a)) b) (rest (with_declared s d a.signature) is)
    by (Err e) is rest = refl

counts-meant-from : (s : Session) (ds : List Decl) (c : Counted) → AreMeant s ds → worked s ds c ≡ worked_meant s ds c
counts-meant-from s [] c are = refl
counts-meant-from s (d ∷ ds) c are =
    by (declared_in s d) are.1 (λ t more is. counts-meant-from t ds more is)
    ∙ ap (λ r. on_worked d r (λ a. worked_meant (with_declared s d a.signature) ds (with_accepted c a))) are.0
  where
    by : (r : Result Elaborated Refusal) → IfOk r (λ a. AreMeant (with_declared s d a.signature) ds)
        → ((t : Session) (more : Counted) → AreMeant t ds → worked t ds more ≡ worked_meant t ds more)
        → on_worked d r (λ a. worked (with_declared s d a.signature) ds (with_accepted c a))
        ≡ on_worked d r (λ a. worked_meant (with_declared s d a.signature) ds (with_accepted c a))
    by (Ok a) is rest = rest (with_declared s d a.signature) (with_accepted c a) is
    by (Err e) is rest = refl

-- ---- source files

text-are : TextIsMeant → (bytes : List ℕ) (ds : List Decl) (k : Bool) (fuel : ℕ) → Gives bytes (Ok ds)
    → AreMeant (new_session k fuel) ds
text-are meant bytes ds k fuel gives =
    let read = is-read bytes ds gives in meant limit bytes read.tokens ds k fuel read.split read.file

pub lines-meant : TextIsMeant → LinesAreMeant
lines-meant meant bytes ds k fuel gives = lines-meant-from (new_session k fuel) ds (text-are meant bytes ds k fuel gives)

-- ---- outputs

block-meant : LinesAreMeant → (bytes : List ℕ) (command : Flags) (answer : Answer) → Gives bytes answer
    → text_block command answer ≡ text_meant command answer
block-meant meant bytes command (Ok ds) gives = meant bytes ds command.k command.fuel gives
block-meant meant bytes command (Err e) gives = refl

pub compiled-meant : LinesAreMeant → CompiledIsMeant
compiled-meant meant words bytes command answer out asks gives is =
    one_output words bytes out (compiled command.k (text_block command answer)) is (compiles command answer asks gives)
    ∙ ap (λ b. compiled command.k b) (block-meant meant bytes command answer gives)

work-output-meant : TextIsMeant → (work : Workload) (answer : Answer) → Gives (work_text work.count) answer
    → work_output work answer ≡ work_meant work answer
work-output-meant meant work (Ok ds) gives =
    ap (λ r. compiled false (worked_block work.count r))
    (counts-meant-from (new_session false work.fuel) ds none_counted (text-are meant (work_text work.count) ds false work.fuel gives))
work-output-meant meant work (Err e) gives = refl

pub work-meant : TextIsMeant → WorkIsMeant
work-meant meant words bytes work answer out asks gives is =
    one_output words bytes out (work_output work answer) is (works work answer asks gives) ∙ work-output-meant meant work answer gives

-- ---- runs

pub run-meant : CompiledIsMeant → RunIsMeant
run-meant meant words bytes command answer before after status asks gives (nothing appended ended) = inr (appended, ended)
run-meant meant words bytes command answer before after status asks gives (output out is follows headline verified) =
    inl (transport (λ (o : Output). Follows o before after status) (meant words bytes command answer out asks gives is) follows)
