-- Where a line says that an entry of a core file is verified, the entries up to it are a signature by the rules.
use Rattle.std.proofs.Common.{◌≡◌, ℕ, zero, suc, ◌≤◌, Bool, true, false, List, [], ◌∷◌, ◌++◌, length, drop, map, Option, Some, None, Result, Ok, Err, refl, sym, ap, subst, ◌∙◌, arith, append_assoc, append-nil}
use Rattle.std.specs.Prelude.{IsTrue, nat_lt, if◌then◌else◌}
use Rattle.std.proofs.lemmas.List.{map-append}
use Rattle.theory.specs.Prelude.{prelude}
use Rattle.theory.specs.Signatures.{Signature}
use Rattle.core_text.specs.EntryReading.{entry_from}
use Rattle.core_text.specs.Heads.{head_of}
use Rattle.core_text.specs.RawEntries.{RawEntry}
use Rattle.core_text.specs.declared.stop.CoreTextStop.{CoreTextStop}
use Rattle.core_text.proofs.EntryOutcomes.{what-is-read}
use Rattle.family_check.specs.Entering.{Entered}
use Rattle.elab_session.specs.Adding.{Adds, family, eliminator, axiom_k, definition, IsAdded}
use Rattle.elab_session.specs.Entering.{enter_of}
use Rattle.elab_session.specs.Sessions.{IsReady}
use Rattle.elab_session.specs.declared.refusal.Refusal.{Refusal}
use Rattle.elab_session.proofs.Adding.{enter-adds}
use Rattle.elab_session.proofs.Entered.{enter-ready}
use Rattle.elab_session.proofs.PreludeReady.{prelude-ready}
use Rattle.elim.specs.declared.program_texts.text_stop.TextStop.TheVariants as stop
use Rattle.elim.specs.declared.program_texts.words.Command.{Command}
use Rattle.elim.specs.elim_program.DefinedOutputs.{IsOutput, refused_words, compiles, verifies, works}
use Rattle.elim.specs.elim_program.Outputs.{Output, followed, head_lines}
use Rattle.elim.specs.program_texts.Refusals.{refusal_line, stop_line}
use Rattle.elim.specs.program_texts.Texts.{limited, unread}
use Rattle.elim.specs.elim_program.Verifies.{after_entry, after_head, entries, entry_block, file_block, next_block, read_name, verified_line}
use Rattle.elim.specs.elim_program.VerifyHeadline.{Holds, head, entry, IsVerifiedReady}
use Rattle.elim.specs.program_texts.Words.{verify_asked}
use Rattle.elim.proofs.elim_program.Entries.{can-enter}
use Rattle.elim.proofs.program_texts.FileHeads.{is-head}
use Rattle.elim.proofs.elim_program.Lines.{third, first_line, not_empty, not_one, after_heads, if_ok}
use Rattle.elim.proofs.elim_program.OneOutput.{not-both-asked, same-command, work-no-verify}
use Rattle.elim.proofs.program_texts.ReadInLine.{is-read}

-- the state before the entries from an offset on, with the lines of those before them
record IsBefore (k : Bool) (text : List ℕ) (S : Signature) (from : ℕ) (earlier : List (List ℕ)) : Type 0 where
  names : List (List ℕ)
  held : Holds k text S from names
  ready : IsReady S
  lines : earlier ≡ map verified_line names
  within : from ≤ length text

-- the state after an entry
onward : (k : Bool) (text : List ℕ) (S T : Signature) (from to : ℕ) (earlier : List (List ℕ)) (raw : RawEntry) → IsBefore k text S from earlier → entry_from S text from ≡ Ok (Some (raw, to)) → Adds S raw T → IsReady T → to ≤ length text →
    IsBefore k text T to (earlier ++ verified_line (read_name S raw) ∷ [])
onward k text S T from to earlier raw b is adds ready within = record {
  names = b.names ++ read_name S raw ∷ [];
  held = entry S T from to b.names raw b.held is adds;
  ready = ready;
  lines = ap (λ ls. ls ++ verified_line (read_name S raw) ∷ []) b.lines ∙ sym (map-append verified_line b.names (read_name S raw ∷ []));
  within = within;
}

-- an entry that is verified, with the lines before its own
record IsFound (k : Bool) (text : List ℕ) (above : List (List ℕ)) (name : List ℕ) : Type 0 where
  signature : Signature
  offset : ℕ
  known : IsBefore k text signature offset (above ++ verified_line name ∷ [])

found : (k : Bool) (text : List ℕ) (fuel most : ℕ) (S : Signature) (from : ℕ) (earlier above below : List (List ℕ)) (name : List ℕ) → IsBefore k text S from earlier →
    (entries text fuel most S from).lines ≡ above ++ verified_line name ∷ below → IsFound k text (earlier ++ above) name
unfolding third first_line
found k text fuel zero S from earlier above below name b e = absurd (not_empty above below (verified_line name) e)
found k text fuel (suc most) S from earlier above below name b e =
    go (λ T to earlier later b e. found k text fuel most T to earlier later below name b e) (entry_from S text from) refl e
  where
    go : ((T : Signature) (to : ℕ) (earlier later : List (List ℕ)) → IsBefore k text T to earlier → (entries text fuel most T to).lines ≡ later ++ verified_line name ∷ below → IsFound k text (earlier ++ later) name)
        → (m : Result (Option (RawEntry × ℕ)) CoreTextStop) → entry_from S text from ≡ m → (next_block fuel S (entries text fuel most) m).lines ≡ above ++ verified_line name ∷ below
        → IsFound k text (earlier ++ above) name
    go rec (Ok None) is e = absurd (not_empty above below (verified_line name) e)
    go rec (Err stop) is e = absurd (not_one (stop_line (unread stop)) (verified_line name) above below (λ k. omega (arith, k)) e)
    go rec (Ok (Some (raw, to))) is e = answer (enter_of S fuel raw) refl e
      where
        answer : (r : Result Entered Refusal) → enter_of S fuel raw ≡ r
            → (followed (entry_block (read_name S raw) r) (entries text fuel most (after_entry S r) to)).lines ≡ above ++ verified_line name ∷ below → IsFound k text (earlier ++ above) name
        answer (Err why) same e = absurd (not_one (refusal_line (read_name S raw) why) (verified_line name) above below (λ k. omega (arith, k)) e)
        answer (Ok x) same e =
            let what = what-is-read S text from raw to b.within is in
            let accepted = if_ok (λ y. IsAdded S raw y.signature) (enter_of S fuel raw) x same (enter-adds S fuel raw) in
            let ready = if_ok (λ y. IsReady y.signature) (enter_of S fuel raw) x same (enter-ready S fuel raw b.ready (can-enter S raw what.0)) in
            place above e (onward k text S x.signature from to earlier raw b is (accepted.added (is-read S text from raw to is).missing) ready what.2)
          where
            place : (above : List (List ℕ)) → verified_line (read_name S raw) ∷ (entries text fuel most x.signature to).lines ≡ above ++ verified_line name ∷ below
                → IsBefore k text x.signature to (earlier ++ verified_line (read_name S raw) ∷ []) → IsFound k text (earlier ++ above) name
            place [] e known =
                let line : verified_line (read_name S raw) ≡ verified_line name = ap first_line e in
                let P : List (List ℕ) → Type 0 = λ ls. IsBefore k text x.signature to ls in
                record {
                  signature = x.signature;
                  offset = to;
                  known = subst P (ap (λ l. earlier ++ l ∷ []) line ∙ ap (λ ls. ls ++ verified_line name ∷ []) (sym (append-nil earlier))) known;
                }
            place (y ∷ later) e known =
                let line : verified_line (read_name S raw) ≡ y = ap first_line e in
                let P : List (List ℕ) → Type 0 = λ ls. IsFound k text ls name in
                subst P (append_assoc earlier (verified_line (read_name S raw) ∷ []) later ∙ ap (λ l. earlier ++ l ∷ later) line)
                (rec x.signature to (earlier ++ verified_line (read_name S raw) ∷ []) later known (ap (drop 1) e))

-- a file has axiom K only where it is allowed
has-k : (k : Bool) (text : List ℕ) (S : Signature) (from : ℕ) (names : List (List ℕ)) → Holds k text S from names → IsTrue S.has_k → IsTrue k
has-k k text S from names (head has_k at read) is = (is-head k has_k at text read).allowed is
has-k k text U at names (entry S T from to before raw held read adds) is = has-k k text S from before held (same adds is)
  where
    same : {r : RawEntry} {V : Signature} → Adds S r V → IsTrue V.has_k → IsTrue S.has_k
    same (family given f declared) h = h
    same (eliminator n m) h = h
    same (axiom_k i m) h = h
    same (definition name type body) h = h

as_verified : (k : Bool) (text : List ℕ) (above : List (List ℕ)) (name : List ℕ) → IsFound k text above name → IsVerifiedReady k text (head_lines k ++ above) name
as_verified k text above name f = record {
  verified = record {
    signature = f.signature;
    offset = f.offset;
    names = f.known.names;
    held = f.known.held;
    formed = f.known.ready.well_formed;
    has_k = has-k k text f.signature f.offset f.known.names f.known.held;
    lines = append_assoc (head_lines k) above (verified_line name ∷ []) ∙ ap (λ ls. head_lines k ++ ls) f.known.lines;
  };
  ready = f.known.ready;
}

file-found : (k : Bool) (fuel : ℕ) (text : List ℕ) (above below : List (List ℕ)) (name : List ℕ) → (after_head fuel text (head_of k text)).lines ≡ above ++ verified_line name ∷ below → IsFound k text above name
unfolding third
file-found k fuel text above below name e = go (head_of k text) refl e
  where
    go : (m : Result (Bool × ℕ) CoreTextStop) → head_of k text ≡ m → (after_head fuel text m).lines ≡ above ++ verified_line name ∷ below → IsFound k text above name
    go (Err stop) is e = absurd (not_one (stop_line (unread stop)) (verified_line name) above below (λ k. omega (arith, k)) e)
    go (Ok (has_k, from)) is e =
        found k text fuel (suc (length text)) (prelude has_k) from [] above below name (record {
          names = [];
          held = head has_k from is;
          ready = prelude-ready (prelude has_k) has_k refl;
          lines = refl;
          within = (is-head k has_k from text is).within;
        }) e

-- a file that is not too long is read whole
text-found : (command : Command) (bytes : List ℕ) (above below : List (List ℕ)) (name : List ℕ) → (file_block command (limited bytes)).lines ≡ above ++ verified_line name ∷ below → IsFound command.k bytes above name
unfolding third
text-found command bytes above below name e = go (nat_lt 1048576 (length bytes)) e
  where
    go : (b : Bool) → (file_block command (if b then None else Some bytes)).lines ≡ above ++ verified_line name ∷ below → IsFound command.k bytes above name
    go true e = absurd (not_one (stop_line stop.TooLong) (verified_line name) above below (λ k. omega (arith, k)) e)
    go false e = file-found command.k command.fuel bytes above below name e

pub verified : (words : List (List ℕ)) (bytes : List ℕ) (out : Output) (command : Command) (above below : List (List ℕ)) (name : List ℕ) → IsOutput words bytes out → verify_asked words ≡ Some command →
    out.lines ≡ above ++ verified_line name ∷ below → IsVerifiedReady command.k bytes above name
unfolding third
verified words bytes out command above below name (refused_words none nothing other) asks e = absurd (let k = sym nothing ∙ asks in cc)
verified words bytes out command above below name (compiles other answer first gives) asks e = absurd (not-both-asked words other command first asks)
verified words bytes out command above below name (works work answer first gives) asks e = absurd (let k = sym (work-no-verify words work first) ∙ asks in cc)
verified words bytes out command above below name (verifies other is) asks e =
    let b = after_heads other.k (file_block other (limited bytes)).lines above below (verified_line name) (λ k. omega (arith, k)) (λ k. omega (arith, k)) e in
    subst (λ c. IsVerifiedReady c.k bytes above name) (same-command (verify_asked words) other command is asks)
    (subst (λ ls. IsVerifiedReady other.k bytes ls name) (sym b.1) (as_verified other.k bytes b.0 name (text-found other bytes b.0 below name b.2)))
