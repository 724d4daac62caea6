-- A source file of which each declaration is accepted is written as a core file, which is verified.
use Rattle.std.proofs.Common.{◌≡◌, ℕ, ◌≤◌, Bool, true, false, List, [], ◌∷◌, ◌++◌, length, map, Some, Result, Ok, Err, IfOk, IfSome, refl, sym, ap, ◌∙◌, subst as transport, append_assoc, append-nil}
use Rattle.std.specs.Prelude.{if◌then◌else◌}
use Rattle.std.proofs.lemmas.Bool.{true≢false}
use Rattle.theory.specs.Prelude.{prelude}
use Rattle.theory.specs.Signatures.{Signature, IsPrefix}
use Rattle.theory.proofs.Pushing.{prefix_reflexive, prefix_transitive, push_is_longer}
use Rattle.surface_syntax.specs.Trees.{Decl}
use Rattle.core_text.proofs.EntriesFollow.{entries-that-follow}
use Rattle.core_text.proofs.LinesSpelled.{entries-are-read-back}
use Rattle.core_text.proofs.NamesSpelled.{names-stay-readable}
use Rattle.core_text.proofs.NotesBack.{notes-are-passed-over, ends-are-read}
use Rattle.core_text.proofs.PreludeReadable.{prelude-readable}
use Rattle.core_text.proofs.SurfaceReadable.{surface-names-are-readable}
use Rattle.elab_session.specs.Sessions.{IsReady}
use Rattle.elab_session.proofs.PreludeReady.{prelude-ready}
use Rattle.elab_session.specs.declared.refusal.Refusal.{Refusal}
use Rattle.function_session.specs.Declaring.{declared_in, new_session, session_after, with_declared}
use Rattle.function_session.specs.Elaborating.{Elaborated}
use Rattle.function_session.specs.Laws.{KeepsReady}
use Rattle.function_session.specs.Sessions.{Session}
use Rattle.function_session.proofs.HeldDecisions.{declare-ready}
use Rattle.elim.specs.refusal_laws.accepted_laws.Checked.{Checked, unchanged, one_more}
use Rattle.elim.specs.elim_program.Acceptance.{Accepts, end, next, own_lines}
use Rattle.elim.specs.elim_program.DefinedOutputs.{IsOutput, compiles, refused_words, verifies, works}
use Rattle.elim.specs.elim_program.Headline.{Shows, core_lines, more, none}
use Rattle.elim.specs.program_texts.Lines.{text_of}
use Rattle.elim.specs.elim_program.Outputs.{Output, accepted_line, accepted_lines, block, compiled, declarations, declared_block, followed, head_lines, lines_after, note_lines, text_block}
use Rattle.elim.specs.program_texts.Texts.{Answer, Gives}
use Rattle.elim.specs.elim_program.Verifies.{verified_line}
use Rattle.elim.specs.program_texts.Words.{asked}
use Rattle.elim.specs.declared.program_texts.status.Status.TheVariants as status
use Rattle.elim.proofs.elim_program.Accepted.{own-core}
use Rattle.elim.proofs.elim_program.Lines.{core-lines-append}
use Rattle.elim.proofs.elim_program.OneOutput.{not-both-asked, same-command, work-no-compile}
use Rattle.elim.proofs.elim_program.OutputInLine.{written-in}
use Rattle.elim.specs.headline.program_laws.CoreFiles.{IsCoreFile, IsWritable}
use Rattle.elim.proofs.headline.program_laws.CoreFiles.{core-file}
use Rattle.elim.proofs.headline.program_laws.Writable.{in-turn}
use Rattle.elim.proofs.headline.writing_laws.Writables.{accepted-writable}
use Rattle.elim.specs.headline.verified_laws.Laws.{CompiledIsVerified, Flags, IsFileOf, IsVerifiedWhole, after_all, signature_after}
use Rattle.elim.proofs.headline.verified_laws.CoreFiles.{each-named, output-verifies}
use Rattle.elim.proofs.headline.verified_laws.LetIn.{same-k}
use Rattle.elim.proofs.headline.verified_laws.Texts.{text-checked}

-- ---- the output shows the signature

longer : {fuel : ℕ} {S T : Signature} → Checked fuel S T → IsPrefix S T
longer {fuel} {S} unchanged = prefix_reflexive S
longer {fuel} {S} (one_more T e h lets) = prefix_transitive S T _ (longer h) (push_is_longer T e)

-- the core lines of a declaration are those of its entries
accepted-core : (S : Signature) (a : Elaborated) → core_lines (accepted_lines S a) ≡ lines_after S a.signature
accepted-core S a =
    let last = accepted_line a.name ∷ [] in
    ap core_lines (sym (append_assoc (lines_after S a.signature) (note_lines a.signature a.lines a.equations) last))
    ∙ core-lines-append (own_lines S a) last ∙ append-nil (core_lines (own_lines S a)) ∙ own-core S a

IsSeen : Signature → Signature → List (List ℕ) → Type 0
IsSeen P W lines = Shows P W (core_lines lines) × IsReady W

seen : (P : Signature) (s : Session) (ds : List Decl) (before : List (List ℕ)) → IsReady s.signature → Shows P s.signature (core_lines before)
    → (declarations s ds).refused ≡ false → IsSeen P (after_all s ds).signature (before ++ (declarations s ds).lines)
unfolding IsSeen
seen P s [] before ready shows accepted = (transport (λ ls. Shows P s.signature (core_lines ls)) (sym (append-nil before)) shows, ready)
seen P s (d ∷ ds) before ready shows accepted =
    by (declared_in s d) (declare-ready s d ready) (λ t lines is so_far. seen P t ds lines is so_far) accepted
  where
    by : (r : Result Elaborated Refusal) → IfOk r (KeepsReady s.signature)
        → ((t : Session) (lines : List (List ℕ)) → IsReady t.signature → Shows P t.signature (core_lines lines) → (declarations t ds).refused ≡ false
        → IsSeen P (after_all t ds).signature (lines ++ (declarations t ds).lines))
        → (followed (declared_block s.signature d r) (declarations (session_after s d r) ds)).refused ≡ false
        → IsSeen P (after_all (session_after s d r) ds).signature
        (before ++ (followed (declared_block s.signature d r) (declarations (session_after s d r) ds)).lines)
    by (Ok a) on rest accepted =
        let S = s.signature in
        let t = with_declared s d a.signature in
        let lines = accepted_lines S a in
        let core = core-lines-append before lines ∙ ap (λ ls. core_lines before ++ ls) (accepted-core S a) in
        transport (λ ls. IsSeen P (after_all t ds).signature ls) (append_assoc before lines (declarations t ds).lines)
        (rest t (before ++ lines) on.ready
        (transport (λ ls. Shows P a.signature ls) (sym core) (more S a.signature (core_lines before) shows on.longer)) accepted)
    by (Err e) on rest accepted = absurd (true≢false accepted)

-- ---- the signature can be written in a core file

accepts : (s : Session) (ds : List Decl) → (declarations s ds).refused ≡ false → Accepts s ds (after_all s ds)
accepts s [] accepted = end s
accepts s (d ∷ ds) accepted = by (declared_in s d) refl (λ t. accepts t ds) accepted
  where
    by : (r : Result Elaborated Refusal) → declared_in s d ≡ r → ((t : Session) → (declarations t ds).refused ≡ false → Accepts t ds (after_all t ds))
        → (followed (declared_block s.signature d r) (declarations (session_after s d r) ds)).refused ≡ false
        → Accepts s (d ∷ ds) (after_all (session_after s d r) ds)
    by (Ok a) is rest accepted =
        let t = with_declared s d a.signature in next s (after_all t ds) d ds a is (rest t accepted)
    by (Err e) is rest accepted = absurd (true≢false accepted)

text-writable : (bytes : List ℕ) (fuel : ℕ) (k : Bool) (ds : List Decl) → Gives bytes (Ok ds) → (declarations (new_session k fuel) ds).refused ≡ false
    → IsWritable (signature_after k fuel ds)
text-writable bytes fuel k ds gives accepted =
    accepted-writable names-stay-readable prelude-readable surface-names-are-readable bytes ds ds [] k fuel (after_all (new_session k fuel) ds) gives
    (sym (append-nil ds)) (accepts (new_session k fuel) ds accepted)

-- ---- outputs with status `Done`

-- the output for a source file whose declarations are accepted
record IsAcceptedWhole (bytes : List ℕ) (command : Flags) (out : Output) : Type 0 where
  decls : List Decl
  gives : Gives bytes (Ok decls)
  accepted : (declarations (new_session command.k command.fuel) decls).refused ≡ false
  lines : out.lines ≡ head_lines command.k ++ (declarations (new_session command.k command.fuel) decls).lines

done-is : (refused : Bool) → (if refused then status.Refused else status.Done) ≡ status.Done → refused ≡ false
done-is true e = absurd (cc)
done-is false e = refl

by-answer : (bytes : List ℕ) (command : Flags) (answer : Answer) → Gives bytes answer → (compiled command.k (text_block command answer)).status ≡ status.Done
    → IsAcceptedWhole bytes command (compiled command.k (text_block command answer))
by-answer bytes command (Ok ds) gives done = record {
  decls = ds;
  gives = gives;
  accepted = done-is (declarations (new_session command.k command.fuel) ds).refused done;
  lines = refl;
}
by-answer bytes command (Err e) gives done = absurd (cc)

accepted-whole : (words : List (List ℕ)) (bytes : List ℕ) (command : Flags) (out : Output) → asked words ≡ Some command → IsOutput words bytes out → out.status ≡ status.Done
    → IsAcceptedWhole bytes command out
accepted-whole words bytes command _ asks (refused_words nothing verify work) done = absurd (let e = sym nothing ∙ asks in cc)
accepted-whole words bytes command out asks (compiles other answer is gives) done =
    transport (λ c. IsAcceptedWhole bytes c out) (same-command (asked words) other command is asks) (by-answer bytes other answer gives done)
accepted-whole words bytes command _ asks (verifies other is) done = absurd (not-both-asked words command other asks is)
accepted-whole words bytes command _ asks (works work answer is gives) done = absurd (let e = sym (work-no-compile words work is) ∙ asks in cc)

-- ---- the law

of-core-file : (k : Bool) (text : List ℕ) (W : Signature) → (file : IsCoreFile k text W) → IsFileOf k text W file.names
of-core-file k text W file = record { offset = file.offset; held = file.held; ended = file.ended }

pub compiled-verified : CompiledIsVerified
unfolding IsSeen
compiled-verified words verifying bytes command out asks verify is done short =
    let w = accepted-whole words bytes command out asks is done in
    let fuel = command.fuel in
    let k = command.k in
    let ds = w.decls in
    let S = prelude k in
    let s = new_session k fuel in
    let ready = prelude-ready S k refl in
    let lines = (declarations s ds).lines in
    let W = signature_after k fuel ds in
    let text = text_of (head_lines k ++ lines) in
    let same : text_of out.lines ≡ text = ap text_of w.lines in
    let checked = text-checked s ds w.accepted in
    let shown = seen S s ds [] ready none w.accepted in
    let formed = shown.1.well_formed in
    let writable = text-writable bytes fuel k ds w.gives w.accepted in
    let file = core-file entries-are-read-back entries-that-follow notes-are-passed-over ends-are-read W formed (in-turn W formed writable) k (same-k checked) (longer checked)
    lines (written-in bytes fuel k ds w.gives) shown.0 in
    let own = of-core-file k text W file in
    let verified = transport (λ o. IfSome o (λ asked. asked.fuel ≡ fuel → IsFileOf asked.k text W file.names → IsOutput verifying text (compiled asked.k (block (map verified_line file.names) false)))) verify
    (output-verifies fuel k ds text file.names verifying w.accepted (transport (λ t. length t ≤ 1048576) same short)) in
    transport (λ t. IsVerifiedWhole verifying t command bytes) (sym same)
    (record { decls = ds; gives = w.gives; names = file.names; are = each-named k text W file.names own; output = verified refl own })
