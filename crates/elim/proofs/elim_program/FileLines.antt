-- The lines that are written for a core file: none holds a line feed, and none accepts a declaration.
use Rattle.std.proofs.Common.{◌≡◌, ◌≢◌, ℕ, zero, suc, Bool, true, List, [], ◌∷◌, ◌++◌, length, drop, Option, Some, None, Result, Ok, Err, codes, refl, sym, ap, subst, arith}
use Rattle.theory.specs.Prelude.{prelude}
use Rattle.theory.specs.Signatures.{Entry, FamilyOf, EliminatorAt, AxiomKAt, Definition, Signature, names_of}
use Rattle.theory.specs.Terms.{Elim, AxiomK}
use Rattle.core_text.specs.EntryReading.{entry_from}
use Rattle.core_text.specs.Heads.{head_of}
use Rattle.core_text.specs.Lines.{is_in_line, AreInLine}
use Rattle.core_text.specs.RawEntries.{RawEntry, RawFamilyOf, RawEliminator, RawAxiomK, RawDefinition}
use Rattle.core_text.specs.declared.stop.CoreTextStop.{CoreTextStop}
use Rattle.core_text.proofs.Feeds.{both}
use Rattle.family_check.specs.Entering.{Entered}
use Rattle.family_check.specs.Outcomes.{FamilyStop}
use Rattle.elab_session.specs.Adding.{Adds, family, eliminator, axiom_k, definition, IsAdded}
use Rattle.elab_session.specs.Entering.{answered, checked, enter_of, refused}
use Rattle.elab_session.specs.declared.refusal.Refusal.{Refusal}
use Rattle.elab_session.proofs.Adding.{enter-adds}
use Rattle.elim.specs.declared.program_texts.text_stop.TextStop.{TextStop}
use Rattle.elim.specs.declared.program_texts.text_stop.TextStop.TheVariants as stop
use Rattle.elim.specs.declared.program_texts.words.Command.{Command}
use Rattle.elim.specs.elim_program.Outputs.{accepted_line, compiled, followed}
use Rattle.elim.specs.program_texts.Refusals.{refusal_line, stop_line}
use Rattle.elim.specs.elim_program.Verifies.{after_entry, after_head, entries, entry_block, file_block, next_block, read_name, verified_line}
use Rattle.elim.specs.program_texts.Texts.{unread}
use Rattle.elim.proofs.elim_program.Lines.{third, first_line, not_empty, after_heads, if_ok}
use Rattle.elim.proofs.program_texts.ReadInLine.{IsRead, is-read}
use Rattle.elim.proofs.program_texts.RefusalsInLine.{refusal-in, stop-in}
use Rattle.elim.proofs.program_texts.SessionInLine.{EntryNamesIn, NamesIn, TextIn, each-last, entry-refused-in, prelude-in, term-in}
use Rattle.surface_syntax.specs.word_laws.Words.{Each}

-- Refusals of entries.

abbrev Refuses : {A : Type 0} → Result A Refusal → Type 0
Refuses (Ok a) = Unit {0}
Refuses (Err e) = TextIn e

answered-in : (refusal : FamilyStop → Refusal) (r : Result Entered FamilyStop) → ((e : FamilyStop) → TextIn (refusal e)) → Refuses (answered refusal r)
answered-in refusal (Ok x) h = tt
answered-in refusal (Err e) h = h e

names-read : (S : Signature) (raw : RawEntry) → IsRead S raw → EntryNamesIn raw
names-read S (RawFamilyOf raw) read = (read.names.0, read.names.1)
names-read S (RawEliminator n m) read = tt
names-read S (RawAxiomK i m) read = tt
names-read S (RawDefinition name type body) read = read.names.0

refuses-in : (S : Signature) (fuel : ℕ) (raw : RawEntry) → NamesIn S → IsRead S raw → Refuses (enter_of S fuel raw)
refuses-in S fuel raw names read =
    answered-in (refused S 0 fuel raw) (checked S raw fuel).0 (entry-refused-in S names 0 fuel raw (names-read S raw read))

-- Names.

name-in : (S : Signature) (raw : RawEntry) → NamesIn S → IsRead S raw → is_in_line (read_name S raw) ≡ true
name-in S (RawFamilyOf raw) names read = read.names.0
name-in S (RawEliminator n m) names read = term-in S names (Elim n m)
name-in S (RawAxiomK i m) names read = term-in S names (AxiomK i m)
name-in S (RawDefinition name type body) names read = read.names.0

pushed-in : (S : Signature) (e : Entry) → NamesIn S → AreInLine (names_of e) → NamesIn (record { entries = S.entries ++ e ∷ []; has_k = S.has_k })
pushed-in S e names h = each-last (λ x. AreInLine (names_of x)) S.entries e names h

added-in : (S T : Signature) (raw : RawEntry) → NamesIn S → IsRead S raw → Adds S raw T → NamesIn T
added-in S T raw names read (family given f is) = pushed-in S (FamilyOf f) names (subst AreInLine (sym is.names) read.names)
added-in S T raw names read (eliminator n m) = pushed-in S (EliminatorAt n m) names tt
added-in S T raw names read (axiom_k i m) = pushed-in S (AxiomKAt i m) names tt
added-in S T raw names read (definition name type body) = pushed-in S (Definition name type body) names read.names

-- The lines of entries.

-- a line without a line feed that does not accept
record IsPlain (line : List ℕ) : Type 0 where
  in_line : is_in_line line ≡ true
  other : third line ≢ 97

refusal-plain : (name : List ℕ) (e : Refusal) → is_in_line name ≡ true → TextIn e → IsPlain (refusal_line name e)
unfolding third
refusal-plain name e h k = record { in_line = refusal-in name e h k; other = λ same. omega (arith, same) }

stop-plain : (e : TextStop) → IsPlain (stop_line e)
unfolding third
stop-plain e = record { in_line = stop-in e; other = λ same. omega (arith, same) }

verified-plain : (name : List ℕ) → is_in_line name ≡ true → IsPlain (verified_line name)
unfolding third
verified-plain name h = record { in_line = both (codes "# verified ") name refl h; other = λ same. omega (arith, same) }

entries-plain : (text : List ℕ) (fuel most : ℕ) (S : Signature) (from : ℕ) → NamesIn S → Each IsPlain (entries text fuel most S from).lines
entries-plain text fuel zero S from names = tt
entries-plain text fuel (suc most) S from names = go (entry_from S text from) refl (λ T to more. entries-plain text fuel most T to more)
  where
    go : (m : Result (Option (RawEntry × ℕ)) CoreTextStop) → entry_from S text from ≡ m → ((T : Signature) (to : ℕ) → NamesIn T → Each IsPlain (entries text fuel most T to).lines)
        → Each IsPlain (next_block fuel S (entries text fuel most) m).lines
    go (Ok None) e rec = tt
    go (Err stop) e rec = (stop-plain (unread stop), tt)
    go (Ok (Some (raw, to))) e rec =
        let read = is-read S text from raw to e in
        answer (enter_of S fuel raw) refl read (refuses-in S fuel raw names read)
      where
        answer : (r : Result Entered Refusal) → enter_of S fuel raw ≡ r → IsRead S raw → Refuses r
            → Each IsPlain (followed (entry_block (read_name S raw) r) (entries text fuel most (after_entry S r) to)).lines
        answer (Err why) is read in_line = (refusal-plain (read_name S raw) why (name-in S raw names read) in_line, tt)
        answer (Ok x) is read in_line =
            let accepted = if_ok (λ y. IsAdded S raw y.signature) (enter_of S fuel raw) x is (enter-adds S fuel raw) in
            (verified-plain (read_name S raw) (name-in S raw names read), rec x.signature to (added-in S x.signature raw names read (accepted.added read.missing)))

file-plain : (command : Command) (text : Option (List ℕ)) → Each IsPlain (file_block command text).lines
file-plain command None = (stop-plain stop.TooLong, tt)
file-plain command (Some text) = go (head_of command.k text)
  where
    go : (m : Result (Bool × ℕ) CoreTextStop) → Each IsPlain (after_head command.fuel text m).lines
    go (Ok p) = entries-plain text command.fuel (suc (length text)) (prelude p.0) p.1 (prelude-in p.0)
    go (Err stop) = (stop-plain (unread stop), tt)

plain-in : (lines : List (List ℕ)) → Each IsPlain lines → AreInLine lines
plain-in [] h = tt
plain-in (line ∷ lines) h = (h.0.in_line, plain-in lines h.1)

pub file-lines-in : (command : Command) (text : Option (List ℕ)) → AreInLine (file_block command text).lines
file-lines-in command text = plain-in (file_block command text).lines (file-plain command text)

none-accepts : (lines above below : List (List ℕ)) (name : List ℕ) → Each IsPlain lines → lines ≡ above ++ accepted_line name ∷ below → ⊥
unfolding third first_line
none-accepts [] above below name h e = not_empty above below (accepted_line name) e
none-accepts (line ∷ lines) [] below name h e = h.0.other (ap (λ ls. third (first_line ls)) e)
none-accepts (line ∷ lines) (x ∷ above) below name h e = none-accepts lines above below name h.1 (ap (drop 1) e)

pub accepts-none : (command : Command) (text : Option (List ℕ)) (above below : List (List ℕ)) (name : List ℕ) → (compiled command.k (file_block command text)).lines ≡ above ++ accepted_line name ∷ below → ⊥
unfolding third
accepts-none command text above below name e =
    let b = after_heads command.k (file_block command text).lines above below (accepted_line name) (λ k. omega (arith, k)) (λ k. omega (arith, k)) e in
    none-accepts (file_block command text).lines b.0 below name (file-plain command text) b.2
