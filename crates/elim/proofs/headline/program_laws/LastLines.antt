-- The last line of an output shows its status.
use Rattle.std.proofs.Common.{◌≡◌, ◌==◌, ℕ, zero, suc, Bool, true, false, ◌&&◌, ◌⊎◌, inl, inr, List, [], ◌∷◌, ◌++◌, length, codes, Option, Some, None, Result, Ok, Err, refl, sym, ap, subst, ◌∙◌, append_assoc, append-nil}
use Rattle.std.specs.Prelude.{if◌then◌else◌}
use Rattle.std.proofs.lemmas.Bool.{eq-eqb}
use Rattle.theory.specs.Prelude.{prelude}
use Rattle.theory.specs.Signatures.{Signature}
use Rattle.surface_syntax.specs.Trees.{Decl}
use Rattle.core_text.specs.EntryReading.{entry_from}
use Rattle.core_text.specs.Heads.{head_of}
use Rattle.core_text.specs.RawEntries.{RawEntry}
use Rattle.core_text.specs.declared.stop.CoreTextStop.{CoreTextStop}
use Rattle.family_check.specs.Entering.{Entered}
use Rattle.elab_session.specs.Entering.{enter_of}
use Rattle.elab_session.specs.declared.refusal.Refusal.{Refusal}
use Rattle.function_session.specs.Declaring.{declared_in, new_session, session_after, with_declared}
use Rattle.function_session.specs.Elaborating.{Elaborated}
use Rattle.function_session.specs.Sessions.{Session}
use Rattle.elim.specs.declared.program_texts.status.Status.TheVariants as status
use Rattle.elim.specs.elim_program.DefinedOutputs.{refused_words, compiles, verifies, works}
use Rattle.elim.specs.elim_program.Outputs.{Block, block, lines_after, note_lines, accepted_line, declared_name, declared_block, followed, declarations, text_block, head_lines, compiled}
use Rattle.elim.specs.program_texts.Refusals.{candidate_lines, candidate_of, refusal_line, refusal_text, refused_lines, stop_text}
use Rattle.elim.specs.program_texts.Texts.{limited}
use Rattle.elim.specs.elim_program.Verifies.{read_name, verified_line, entry_block, read_block, after_entry, next_block, entries, after_head, file_block}
use Rattle.elim.specs.program_texts.Texts.{unread}
use Rattle.elim.specs.elim_program.WorkTexts.{summary_line}
use Rattle.elim.specs.elim_program.Works.{none_counted, on_worked, with_accepted, work_block, worked, worked_block}
use Rattle.elim.specs.headline.program_laws.LastLines.{begins, last_line, status_by}
use Rattle.elim.specs.headline.program_laws.Laws.{StatusFollows}

same : (c : ℕ) → (c == c) ≡ true
same c = eq-eqb c c refl

begins-itself : (text rest : List ℕ) → begins text (text ++ rest) ≡ true
begins-itself [] rest = refl
begins-itself (c ∷ text) rest = ap (λ b. b && begins text (text ++ rest)) (same c) ∙ begins-itself text rest

last-of : (front : List (List ℕ)) (line : List ℕ) → last_line (front ++ line ∷ []) ≡ line
last-of [] line = refl
last-of (x ∷ []) line = refl
last-of (x ∷ y ∷ front) line = last-of (y ∷ front) line

-- whether a last line is that of a refusal
abbrev Tells : Bool → List ℕ → Type 0
Tells true line = begins (codes "# refused ") line ≡ true
Tells false line = (begins (codes "# refused ") line ≡ false) × (begins (codes "# usage ") line ≡ false)

record Ends (lines : List (List ℕ)) (refused : Bool) : Type 0 where
  front : List (List ℕ)
  line : List ℕ
  parts : lines ≡ front ++ line ∷ []
  tells : Tells refused line

-- a block that refuses nothing may have no lines
IsToldBy : Block → Type 0
IsToldBy b = ((b.lines ≡ []) × (b.refused ≡ false)) ⊎ Ends b.lines b.refused

after-others : (front lines : List (List ℕ)) (refused : Bool) → Ends lines refused → Ends (front ++ lines) refused
after-others front lines refused e = record {
  front = front ++ e.front;
  line = e.line;
  parts = ap (λ ls. front ++ ls) e.parts ∙ sym (append_assoc front e.front (e.line ∷ []));
  tells = e.tells;
}

one : (line : List ℕ) (refused : Bool) → Tells refused line → Ends (line ∷ []) refused
one line refused t = record { front = []; line = line; parts = refl; tells = t }

followed-told : (first rest : Block) → IsToldBy first → IsToldBy rest → IsToldBy (followed first rest)
unfolding IsToldBy
followed-told first rest a b = by first.refused refl
  where
    both : first.refused ≡ false → IsToldBy rest → IsToldBy first → IsToldBy (block (first.lines ++ rest.lines) rest.refused)
    both e (inr ends) h = inr (after-others first.lines rest.lines rest.refused ends)
    both e (inl none) (inl nothing) = inl ((ap (λ ls. ls ++ rest.lines) nothing.0 ∙ none.0), none.1)
    both e (inl none) (inr ends) =
        let whole : first.lines ++ rest.lines ≡ first.lines = ap (λ ls. first.lines ++ ls) none.0 ∙ append-nil first.lines in
        let told : Ends first.lines rest.refused = subst (λ r. Ends first.lines r) (e ∙ sym none.1) ends in
        inr (subst (λ ls. Ends ls rest.refused) (sym whole) told)

    by : (r : Bool) → first.refused ≡ r → IsToldBy (if r then first else block (first.lines ++ rest.lines) rest.refused)
    by true e = a
    by false e = both e b a

-- ---- lines

refusal-told : (name : List ℕ) (e : Refusal) → Tells true (refusal_line name e)
refusal-told name e = begins-itself (codes "# refused ") (name ++ codes " " ++ refusal_text e)

stop-told : (text : List ℕ) → Ends ((codes "# refused " ++ text) ∷ []) true
stop-told text = one (codes "# refused " ++ text) true (begins-itself (codes "# refused ") text)

refused-told : (name : List ℕ) (e : Refusal) → Ends (refused_lines name e) true
refused-told name e = after-others (candidate_lines (candidate_of e)) _ true (one (refusal_line name e) true (refusal-told name e))

accepted-told : (name : List ℕ) → Tells false (accepted_line name)
accepted-told name = (refl, refl)

verified-told : (name : List ℕ) → Tells false (verified_line name)
verified-told name = (refl, refl)

heads-told : (k : Bool) → Ends (head_lines k) false
heads-told true = record { front = codes "elim 1" ∷ []; line = codes "prelude k"; parts = refl; tells = (refl, refl) }
heads-told false = record { front = codes "elim 1" ∷ []; line = codes "prelude"; parts = refl; tells = (refl, refl) }

-- ---- blocks

declared-told : (S : Signature) (d : Decl) (r : Result Elaborated Refusal) → IsToldBy (declared_block S d r)
unfolding IsToldBy
declared-told S d (Ok a) =
    inr (after-others (lines_after S a.signature) (note_lines a.signature a.lines a.equations ++ accepted_line a.name ∷ []) false
    (after-others (note_lines a.signature a.lines a.equations) (accepted_line a.name ∷ []) false (one (accepted_line a.name) false (accepted-told a.name))))
declared-told S d (Err e) = inr (refused-told (declared_name d) e)

declarations-told : (s : Session) (ds : List Decl) → IsToldBy (declarations s ds)
unfolding IsToldBy
declarations-told s [] = inl (refl, refl)
declarations-told s (d ∷ ds) =
    let r = declared_in s d in
    followed-told (declared_block s.signature d r) (declarations (session_after s d r) ds) (declared-told s.signature d r)
    (declarations-told (session_after s d r) ds)

entry-told : (name : List ℕ) (r : Result Entered Refusal) → IsToldBy (entry_block name r)
unfolding IsToldBy
entry-told name (Ok x) = inr (one (verified_line name) false (verified-told name))
entry-told name (Err e) = inr (one (refusal_line name e) true (refusal-told name e))

next-told : (fuel : ℕ) (S : Signature) (others : Signature → ℕ → Block) (r : Result (Option (RawEntry × ℕ)) CoreTextStop) → ((T : Signature) (from : ℕ) → IsToldBy (others T from))
    → IsToldBy (next_block fuel S others r)
unfolding IsToldBy
next-told fuel S others (Ok None) h = inl (refl, refl)
next-told fuel S others (Ok (Some p)) h =
    followed-told (read_block S fuel p.0) (others (after_entry S (enter_of S fuel p.0)) p.1) (entry-told (read_name S p.0) (enter_of S fuel p.0)) (h (after_entry S (enter_of S fuel p.0)) p.1)
next-told fuel S others (Err e) h = inr (stop-told (stop_text (unread e)))

entries-told : (text : List ℕ) (fuel most : ℕ) (S : Signature) (from : ℕ) → IsToldBy (entries text fuel most S from)
unfolding IsToldBy
entries-told text fuel zero S from = inl (refl, refl)
entries-told text fuel (suc most) S from =
    next-told fuel S (entries text fuel most) (entry_from S text from) (λ T to. entries-told text fuel most T to)

head-told : (fuel : ℕ) (text : List ℕ) (r : Result (Bool × ℕ) CoreTextStop) → IsToldBy (after_head fuel text r)
unfolding IsToldBy
head-told fuel text (Ok p) = entries-told text fuel (suc (length text)) (prelude p.0) p.1
head-told fuel text (Err e) = inr (stop-told (stop_text (unread e)))

refused-whole : (text : List ℕ) → IsToldBy (block ((codes "# refused " ++ text) ∷ []) true)
unfolding IsToldBy
refused-whole text = inr (stop-told text)

-- the type of a value
abbrev type-of : {A : Type 0} → A → Type 0
type-of {A} a = A

-- the counts of what is accepted
abbrev Counted : Type 0
Counted = type-of none_counted

worked-told : (n : ℕ) (s : Session) (ds : List Decl) (c : Counted) → Ends (worked_block n (worked s ds c)).lines (worked_block n (worked s ds c)).refused
worked-told n s [] c = one (summary_line n c) false (refl, refl)
worked-told n s (d ∷ ds) c = by (λ t more. worked-told n t ds more) (declared_in s d)
  where
    by : ((t : Session) (more : Counted) → Ends (worked_block n (worked t ds more)).lines (worked_block n (worked t ds more)).refused) → (r : Result Elaborated Refusal)
        → Ends (worked_block n (on_worked d r (λ a. worked (with_declared s d a.signature) ds (with_accepted c a)))).lines
        (worked_block n (on_worked d r (λ a. worked (with_declared s d a.signature) ds (with_accepted c a)))).refused
    by rec (Ok a) = rec (with_declared s d a.signature) (with_accepted c a)
    by rec (Err e) = refused-told (declared_name d) e

told-by : (b : Block) → Ends b.lines b.refused → IsToldBy b
unfolding IsToldBy
told-by b ends = inr ends

-- ---- outputs

choose : {A : Type 0} (b c : Bool) (x y z : A) → b ≡ false → c ≡ false → (if b then x else (if c then y else z)) ≡ z
choose true c x y z e f = cc
choose false true x y z e f = cc
choose false false x y z e f = refl

first-of : {A : Type 0} (b : Bool) (x y : A) → b ≡ true → (if b then x else y) ≡ x
first-of true x y e = refl
first-of false x y e = cc

shown : (refused : Bool) (line : List ℕ) → Tells refused line → (if refused then status.Refused else status.Done) ≡ status_by line
shown true line t = sym (first-of (begins (codes "# refused ") line) _ _ t)
shown false line t = sym (choose (begins (codes "# refused ") line) (begins (codes "# usage ") line) _ _ _ t.0 t.1)

ends-shown : (lines : List (List ℕ)) (refused : Bool) → Ends lines refused → (if refused then status.Refused else status.Done) ≡ status_by (last_line lines)
ends-shown lines refused e = shown refused e.line e.tells ∙ ap status_by (sym (ap last_line e.parts ∙ last-of e.front e.line))

compiled-follows : (k : Bool) (told : Block) → IsToldBy told → (compiled k told).status ≡ status_by (last_line (compiled k told).lines)
unfolding IsToldBy
compiled-follows k told (inr ends) = ends-shown (head_lines k ++ told.lines) told.refused (after-others (head_lines k) told.lines told.refused ends)
compiled-follows k told (inl none) =
    let whole : head_lines k ++ told.lines ≡ head_lines k = ap (λ ls. head_lines k ++ ls) none.0 ∙ append-nil (head_lines k) in
    let ends : Ends (head_lines k) told.refused = subst (λ r. Ends (head_lines k) r) (sym none.1) (heads-told k) in
    ends-shown (head_lines k ++ told.lines) told.refused (subst (λ ls. Ends ls told.refused) (sym whole) ends)

pub status_follows : StatusFollows
status_follows words bytes out (refused_words e f g) = refl
status_follows words bytes out (compiles command (Ok ds) asks gives) =
    compiled-follows command.k (text_block command (Ok ds)) (declarations-told (new_session command.k command.fuel) ds)
status_follows words bytes out (compiles command (Err e) asks gives) = compiled-follows command.k (text_block command (Err e)) (refused-whole (stop_text e))
status_follows words bytes out (works work (Ok ds) asks gives) =
    compiled-follows false (work_block work (Ok ds)) (told-by (work_block work (Ok ds)) (worked-told work.count (new_session false work.fuel) ds none_counted))
status_follows words bytes out (works work (Err e) asks gives) = compiled-follows false (work_block work (Err e)) (refused-whole (stop_text e))
status_follows words bytes out (verifies command asks) = by (limited bytes)
  where
    by : (o : Option (List ℕ)) → (compiled command.k (file_block command o)).status ≡ status_by (last_line (compiled command.k (file_block command o)).lines)
    by (Some text) = compiled-follows command.k (file_block command (Some text)) (head-told command.fuel text (head_of command.k text))
    by None = compiled-follows command.k (file_block command None) (refused-whole _)
