-- No line of an output holds a line feed.
use Rattle.std.proofs.Common.{◌≡◌, ℕ, zero, suc, ◌+◌, ◌-◌, Bool, true, false, List, [], ◌∷◌, ◌++◌, length, map, codes, Result, Ok, Err, IfOk, refl, sym, ap, ◌∙◌, append_assoc, append-nil}
use Rattle.std.specs.Prelude.{decimal, slice_get}
use Rattle.theory.specs.Prelude.{prelude}
use Rattle.theory.specs.Signatures.{Entry, Signature, names_of}
use Rattle.core_text.specs.Lines.{is_in_line, AreInLine}
use Rattle.core_text.proofs.Feeds.{both, decimal-in, text-in}
use Rattle.surface_syntax.specs.Trees as surf
use Rattle.surface_syntax.specs.Grammar.{limit}
use Rattle.surface_syntax.specs.Machine.{Start}
use Rattle.surface_syntax.specs.Parsing.{Answer, Read, Wrong, Deep, run}
use Rattle.surface_syntax.proofs.Runs.{run_file}
use Rattle.elab_session.specs.Sessions.{IsReady}
use Rattle.elab_session.proofs.PreludeReady.{prelude-ready}
use Rattle.elab_session.specs.declared.refusal.Refusal.{Refusal}
use Rattle.function_session.specs.Declaring.{declared_in, new_session, session_after, with_declared}
use Rattle.function_session.specs.Elaborating.{Elaborated}
use Rattle.function_session.specs.Laws.{KeepsReady}
use Rattle.function_session.specs.Sessions.{Session}
use Rattle.function_session.specs.mutual_families.EquationLines.{MutualLine}
use Rattle.function_session.proofs.HeldDecisions.{declare-ready}
use Rattle.surface_syntax.specs.Lexemes.{lexemes_of}
use Rattle.surface_syntax.specs.Parses.{by_offset, offset_of}
use Rattle.elim.specs.declared.elim_program.counts.Counts.{Counts}
use Rattle.elim.specs.declared.program_texts.words.Command.{Command}
use Rattle.elim.specs.declared.program_texts.words.Work.{Work}
use Rattle.elim.specs.program_texts.ClauseTexts.{clause_lines}
use Rattle.elim.specs.elim_program.Acceptance.{Acceptance, SaysAccepted}
use Rattle.elim.specs.elim_program.Headline.{IsHeadline, Headline}
use Rattle.elim.specs.program_texts.Lines.{lines_of, text_of}
use Rattle.elim.specs.elim_program.DefinedOutputs.{IsOutput, refused_words, compiles, verifies, works}
use Rattle.elim.specs.elim_program.Outputs.{Output, line_of, entry_lines, accepted_line, accepted_lines, lines_after, mutual_line, note_lines, declared_name, declared_block, followed, declarations, text_block, head_lines}
use Rattle.elim.specs.elim_program.Runs.{IsFront}
use Rattle.elim.specs.program_texts.Texts as texts
use Rattle.elim.specs.program_texts.Texts.{Gives, too_long, not_utf8, bad_token, tokens, limited, read}
use Rattle.elim.specs.elim_program.Verifies.{file_block, verified_line}
use Rattle.elim.specs.elim_program.VerifyHeadline.{IsVerifyHeadline, SaysVerified, VerifiedIsReady, VerifyHeadline}
use Rattle.elim.specs.elim_program.WorkTexts.{summary_line, work_text}
use Rattle.elim.specs.elim_program.Works.{none_counted, on_worked, with_accepted, work_block, worked, worked_block}
use Rattle.elim.proofs.elim_program.Accepted.{accepted}
use Rattle.elim.proofs.elim_program.Shown.{shown}
use Rattle.elim.proofs.elim_program.ElaboratedInLine.{ElaboratedIn, WrittenIn, elaborated-in}
use Rattle.elim.proofs.elim_program.FunctionTexts.{clauses-in}
use Rattle.elim.proofs.elim_program.MutualInLine.{EquationIn}
use Rattle.elim.proofs.program_texts.GrammarInLine.{DeclInLine, file-in, lexemes-good}
use Rattle.elim.proofs.program_texts.RefusalsInLine.{join, refused-lines-in, stop-in}
use Rattle.elim.proofs.program_texts.SessionInLine.{NamesIn, has-names, prelude-in}
use Rattle.elim.proofs.elim_program.TextLines.{lines-text, lines-front}
use Rattle.surface_syntax.specs.word_laws.Words.{Each}
use Rattle.elim.proofs.program_texts.TokensInLine.{tokens-in}
use Rattle.elim.proofs.elim_program.FileLines.{file-lines-in}
use Rattle.elim.proofs.elim_program.Verified.{verified}

line-in : (S : Signature) → NamesIn S → (n at : ℕ) (es : List Entry) → Each (λ e. AreInLine (names_of e)) es → is_in_line (line_of S n (slice_get es at)) ≡ true
line-in S names n at [] h = refl
line-in S names n zero (e ∷ es) h = text-in S (has-names S names) n e h.0
line-in S names n (suc at) (e ∷ es) h = line-in S names n at es h.1

entries-in : (S : Signature) → NamesIn S → (n count : ℕ) → AreInLine (entry_lines S n count)
entries-in S names n zero = tt
entries-in S names n (suc count) = (line-in S names n n S.entries names, entries-in S names (n + 1) count)

name-in : (d : surf.Decl) → DeclInLine d → is_in_line (declared_name d) ≡ true
name-in (surf.Def x ty body) h = h.0
name-in (surf.Decide x f e) h = h.0
name-in (surf.Data x params ty cons) h = h.0
name-in (surf.Mutual params [] f tag tags) h = h.2
name-in (surf.Mutual params (m ∷ members) f tag tags) h = h.1.0.0
name-in (surf.Fun x ty clauses) h = h.0

equation-in : (e : MutualLine) → EquationIn e → is_in_line (mutual_line e) ≡ true
equation-in e h =
    let first = both (codes "# mutual " ++ e.0) (codes " ") (both (codes "# mutual ") e.0 refl h.0) refl in
    both (codes "# mutual " ++ e.0 ++ codes " " ++ e.1) (codes " definitional") (both (codes "# mutual " ++ e.0 ++ codes " ") e.1 first h.1) refl

equations-in : (equations : List MutualLine) → Each EquationIn equations → AreInLine (map mutual_line equations)
equations-in [] h = tt
equations-in (e ∷ equations) h = (equation-in e h.0, equations-in equations h.1)

accepted-lines-in : (S : Signature) (a : Elaborated) → ElaboratedIn a → AreInLine (accepted_lines S a)
accepted-lines-in S a h =
    join (lines_after S a.signature) (note_lines a.signature a.lines a.equations ++ accepted_line a.name ∷ [])
    (entries-in a.signature h.names (length S.entries) (length a.signature.entries - length S.entries))
    (join (note_lines a.signature a.lines a.equations) (accepted_line a.name ∷ [])
    (join (clause_lines a.signature a.lines) (map mutual_line a.equations) (clauses-in a.signature h.names a.lines h.clauses) (equations-in a.equations h.equations))
    (both (codes "# accepted ") a.name refl h.name, tt))

declarations-in : (s : Session) (ds : List surf.Decl) → IsReady s.signature → NamesIn s.signature → Each DeclInLine ds → AreInLine (declarations s ds).lines
declarations-in s [] ready names h = tt
declarations-in s (d ∷ ds) ready names h =
    go (declared_in s d) (declare-ready s d ready) (elaborated-in s d ready names h.0) (λ t r n. declarations-in t ds r n h.1)
  where
    go : (r : Result Elaborated Refusal) → IfOk r (KeepsReady s.signature) → WrittenIn r
        → ((t : Session) → IsReady t.signature → NamesIn t.signature → AreInLine (declarations t ds).lines)
        → AreInLine (followed (declared_block s.signature d r) (declarations (session_after s d r) ds)).lines
    go (Err e) on k rec = refused-lines-in (declared_name d) e (name-in d h.0) k
    go (Ok a) on k rec =
        let t = with_declared s d a.signature in
        join (accepted_lines s.signature a) (declarations t ds).lines (accepted-lines-in s.signature a k) (rec t on.ready k.names)

-- the declarations of a source file are in line
abbrev AnswerIn : texts.Answer → Type 0
AnswerIn (Ok ds) = Each DeclInLine ds
AnswerIn (Err e) = Unit {0}

given-in : (bytes : List ℕ) (answer : texts.Answer) → Gives bytes answer → AnswerIn answer
given-in bytes answer (too_long h) = tt
given-in bytes answer (not_utf8 offset h k) = tt
given-in bytes answer (bad_token offset h k) = tt
given-in bytes answer (tokens found within are) = go (run limit Start (lexemes_of bytes found)) refl
  where
    go : (r : Answer) → run limit Start (lexemes_of bytes found) ≡ r → AnswerIn (read (by_offset (offset_of bytes found) r))
    go (Read ds) q = file-in limit (run_file limit (lexemes_of bytes found) ds q) (lexemes-good bytes found (tokens-in bytes found are))
    go (Wrong n) q = tt
    go (Deep n) q = tt

-- the lines of a source file that is read
pub written-in : (bytes : List ℕ) (fuel : ℕ) (k : Bool) (ds : List surf.Decl) → Gives bytes (Ok ds) → AreInLine (declarations (new_session k fuel) ds).lines
written-in bytes fuel k ds gives = declarations-in (new_session k fuel) ds (prelude-ready (prelude k) k refl) (prelude-in k) (given-in bytes (Ok ds) gives)

block-in : (command : Command) (answer : texts.Answer) → AnswerIn answer → AreInLine (text_block command answer).lines
block-in command (Ok ds) h = declarations-in (new_session command.k command.fuel) ds (prelude-ready (prelude command.k) command.k refl) (prelude-in command.k) h
block-in command (Err e) h = (stop-in e, tt)

kind-in : (before kind : List ℕ) (n : ℕ) → is_in_line before ≡ true → is_in_line kind ≡ true → is_in_line (before ++ kind ++ decimal n) ≡ true
kind-in before kind n h k = both (before ++ kind) (decimal n) (both before kind h k) (decimal-in n)

summary-in : (n : ℕ) (c : Counts) → is_in_line (summary_line n c) ≡ true
summary-in n c =
    let accepted = codes "# work " ++ decimal n ++ codes " accepted " ++ decimal c.accepted in
    let definitional = accepted ++ codes " definitional " ++ decimal c.definitional in
    let proved = definitional ++ codes " proved " ++ decimal c.proved in
    let shadowed = proved ++ codes " shadowed " ++ decimal c.shadowed in
    kind-in shadowed (codes " absurd ") c.absurd (kind-in proved (codes " shadowed ") c.shadowed (kind-in definitional (codes " proved ") c.proved
    (kind-in accepted (codes " definitional ") c.definitional
    (kind-in (codes "# work " ++ decimal n) (codes " accepted ") c.accepted (both (codes "# work ") (decimal n) refl (decimal-in n)) refl) refl) refl) refl) refl

worked-in : (n : ℕ) (s : Session) (ds : List surf.Decl) (c : Counts) → IsReady s.signature → NamesIn s.signature → Each DeclInLine ds
    → AreInLine (worked_block n (worked s ds c)).lines
worked-in n s [] c ready names h = (summary-in n c, tt)
worked-in n s (d ∷ ds) c ready names h =
    go (λ t more r k. worked-in n t ds more r k h.1) (declared_in s d) (declare-ready s d ready) (elaborated-in s d ready names h.0)
  where
    go : ((t : Session) (more : Counts) → IsReady t.signature → NamesIn t.signature → AreInLine (worked_block n (worked t ds more)).lines)
        → (r : Result Elaborated Refusal) → IfOk r (KeepsReady s.signature) → WrittenIn r
        → AreInLine (worked_block n (on_worked d r (λ a. worked (with_declared s d a.signature) ds (with_accepted c a)))).lines
    go rec (Ok a) on k = rec (with_declared s d a.signature) (with_accepted c a) on.ready k.names
    go rec (Err e) on k = refused-lines-in (declared_name d) e (name-in d h.0) k

work-in : (w : Work) (answer : texts.Answer) → AnswerIn answer → AreInLine (work_block w answer).lines
work-in w (Ok ds) h = worked-in w.count (new_session false w.fuel) ds none_counted (prelude-ready (prelude false) false refl) (prelude-in false) h
work-in w (Err e) h = (stop-in e, tt)

heads-in : (k : Bool) → AreInLine (head_lines k)
heads-in true = (refl, (refl, tt))
heads-in false = (refl, (refl, tt))

output-in : (words : List (List ℕ)) (bytes : List ℕ) (out : Output) → IsOutput words bytes out → AreInLine out.lines
output-in words bytes out (refused_words none nothing other) = (refl, tt)
output-in words bytes out (compiles command answer asks gives) =
    join (head_lines command.k) (text_block command answer).lines (heads-in command.k) (block-in command answer (given-in bytes answer gives))
output-in words bytes out (verifies command asks) =
    join (head_lines command.k) (file_block command (limited bytes)).lines (heads-in command.k) (file-lines-in command (limited bytes))
output-in words bytes out (works work answer asks gives) =
    join (head_lines false) (work_block work answer).lines (heads-in false) (work-in work answer (given-in (work_text work.count) answer gives))

-- the first lines of a front of the output are lines of the output
pub acceptance_of_front : (words : List (List ℕ)) (bytes text : List ℕ) (out : Output) → IsOutput words bytes out → IsFront text (text_of out.lines) → SaysAccepted words bytes text
acceptance_of_front words bytes text out is front above below name line =
    let more = lines-front text front.0 in
    let whole : out.lines ≡ above ++ accepted_line name ∷ (below ++ more.0) =
    sym (lines-text out.lines (output-in words bytes out is)) ∙ ap lines_of front.1 ∙ more.1 ∙ ap (λ ls. ls ++ more.0) line ∙ append_assoc above (accepted_line name ∷ below) more.0 in
    accepted words bytes out above (below ++ more.0) name is whole

pub headline_of_front : (words : List (List ℕ)) (bytes text : List ℕ) (out : Output) → IsOutput words bytes out → IsFront text (text_of out.lines) → IsHeadline words bytes text
headline_of_front words bytes text out is front above below name line = shown words bytes above name (acceptance_of_front words bytes text out is front above below name line)

verified_of_front : (words : List (List ℕ)) (bytes text : List ℕ) (out : Output) → IsOutput words bytes out → IsFront text (text_of out.lines) → SaysVerified words bytes text
verified_of_front words bytes text out is front command asks above below name line =
    let more = lines-front text front.0 in
    let whole : out.lines ≡ above ++ verified_line name ∷ (below ++ more.0) =
    sym (lines-text out.lines (output-in words bytes out is)) ∙ ap lines_of front.1 ∙ more.1 ∙ ap (λ ls. ls ++ more.0) line ∙ append_assoc above (verified_line name ∷ below) more.0 in
    verified words bytes out command above (below ++ more.0) name is asks whole

pub verify_headline_of_front : (words : List (List ℕ)) (bytes text : List ℕ) (out : Output) → IsOutput words bytes out → IsFront text (text_of out.lines) → IsVerifyHeadline words bytes text
verify_headline_of_front words bytes text out is front command asks above below name line =
    (verified_of_front words bytes text out is front command asks above below name line).verified

pub verified_is_ready : VerifiedIsReady
verified_is_ready words bytes out is text rest whole = verified_of_front words bytes text out is (rest, whole)

pub verify_headline : VerifyHeadline
verify_headline words bytes out is = verify_headline_of_front words bytes (text_of out.lines) out is ([], sym (append-nil (text_of out.lines)))

pub acceptance : Acceptance
acceptance words bytes out is text rest whole = acceptance_of_front words bytes text out is (rest, whole)

pub headline : Headline
headline words bytes out is = headline_of_front words bytes (text_of out.lines) out is ([], sym (append-nil (text_of out.lines)))
