-- Entries of a core file one by one.
use Rattle.std.proofs.Common.{◌≡◌, ◌≢◌, ℕ, zero, suc, ◌-◌, ◌<◌, ◌≤◌, Bool, true, false, List, [], ◌∷◌, length, Option, Some, None, Result, Ok, Err, refl, sym, ap, subst, ◌∙◌, arith}
use Rattle.theory.specs.Signatures.{Signature}
use Rattle.theory.specs.Prelude.{prelude}
use Rattle.core_sig.specs.Raw.{RawFamily}
use Rattle.core_sig.specs.Meanings.{entry_of}
use Rattle.core_sig.specs.declared.entry.Entry as code
use Rattle.core_text.specs.EntryReading.{ReadsEntry, entry_from}
use Rattle.core_text.specs.RawEntries.{RawEntry, RawFamilyOf, RawEliminator, RawAxiomK, RawDefinition, entry_shown}
use Rattle.core_text.specs.ReadLaws.{IsReadEntry}
use Rattle.core_text.specs.Spellings.{IsEntryOver}
use Rattle.core_text.specs.declared.stop.CoreTextStop.{CoreTextStop}
use Rattle.core_text.specs.declared.stop.CoreTextStop.TheVariants as core
use Rattle.core_text.proofs.EntryOutcomes.{what-is-read}
use Rattle.core_text.proofs.NewNames.{new-unknown}
use Rattle.core_text.proofs.ScopedOver.{scoped-term, scoped-types, scoped-constructors}
use Rattle.family_check.specs.Families.{family_without}
use Rattle.family_check.specs.Scopes.{IsScopedRaw}
use Rattle.elab_session.specs.Entering.{CanEnter, enter_of}
use Rattle.elim.specs.declared.program_texts.status.Status.{Status}
use Rattle.elim.specs.declared.program_texts.text_stop.TextStop.{TextStop}
use Rattle.elim.specs.elim_program.Outputs.{Block, block, followed}
use Rattle.elim.specs.program_texts.Refusals.{stop_line}
use Rattle.elim.specs.program_texts.Texts.{is_memory, unread}
use Rattle.elim.specs.elim_program.Verifies.{BoundIsEnough, after_entry, after_head, entries, next_block, read_block, unread_block}
use Rattle.elim.proofs.elim_program.Following.{IsWriting, Writes, writing, written_all, written_last, written_one, written_part, written_rest}

-- An entry that is read may be added to the signature.

pub scoped-raw : (S : Signature) (raw : RawFamily) → IsEntryOver S (RawFamilyOf raw) → IsScopedRaw S raw
scoped-raw S raw is = record {
  parameters = scoped-types S 0 raw.parameters is.parameters;
  type = scoped-term S (length raw.parameters) raw.type is.type;
  constructors = scoped-constructors S (family_without raw [] 0) raw.name (length raw.parameters) raw.constructors [] is.constructors;
}

pub can-enter : (S : Signature) (raw : RawEntry) → IsReadEntry S raw → CanEnter S raw
can-enter S (RawFamilyOf raw) is = (scoped-raw S raw is.0, new-unknown S [] [] raw.name is.0.name)
can-enter S (RawEliminator n m) is = is.0.0
can-enter S (RawAxiomK i m) is = is.0.0
can-enter S (RawDefinition name type body) is = (scoped-term S 0 type is.0.1, scoped-term S 0 body is.0.2)

-- Core text that is not read.

pub not-memory : (e : CoreTextStop) → is_memory (unread e) ≡ false → e ≢ core.Memory
not-memory core.Memory h k = cc
not-memory (core.Nested offset) h k = cc
not-memory (core.NotCoreText offset) h k = cc

pub written-unread : (before after : Option (List ℕ)) (e : CoreTextStop) (s : TextStop) (r : Result Bool Status) → s ≡ unread e → is_memory s ≡ false → Writes before after r (block (stop_line s ∷ []) true) →
    (meant : Block) → (e ≢ core.Memory → unread_block e ≡ meant) → Writes before after r meant
written-unread before after e s r is h written meant same =
    let other : is_memory (unread e) ≡ false = sym (ap is_memory is) ∙ h in
    subst (Writes before after r) (ap (λ x. block (stop_line x ∷ []) true) is ∙ same (not-memory e other)) written

-- The entries from an offset on are still to be written.
pub record IsGoing (before now : Option (List ℕ)) (whole : Block) (text : List ℕ) (fuel : ℕ) (S : Signature) (from : ℕ) : Type 0 where
  pub most : ℕ
  pub enough : length text - from < most
  pub writing : IsWriting before now whole (entries text fuel most S from)

pub going : (before : Option (List ℕ)) (text : List ℕ) (fuel : ℕ) (S : Signature) (from : ℕ) → IsGoing before before (entries text fuel (suc (length text)) S from) text fuel S from
going before text fuel S from = record {
  most = suc (length text);
  enough = omega arith;
  writing = writing before (entries text fuel (suc (length text)) S from);
}

-- one entry more is to be written
record IsNext (before now : Option (List ℕ)) (whole : Block) (text : List ℕ) (fuel : ℕ) (S : Signature) (from : ℕ) : Type 0 where
  others : ℕ
  enough : length text - from ≤ others
  writing : IsWriting before now whole (next_block fuel S (entries text fuel others) (entry_from S text from))

next : (before now : Option (List ℕ)) (whole : Block) (text : List ℕ) (fuel : ℕ) (S : Signature) (from : ℕ) → IsGoing before now whole text fuel S from → IsNext before now whole text fuel S from
next before now whole text fuel S from g = go g.most g.enough g.writing
  where
    go : (most : ℕ) → length text - from < most → IsWriting before now whole (entries text fuel most S from) → IsNext before now whole text fuel S from
    go zero lt t = absurd (omega (arith, lt))
    go (suc most) lt t = record { others = most; enough = omega (arith, lt); writing = t }

-- the code's answer is the entry that is read next
abbrev IsRead : Signature → List ℕ → ℕ → Result (Option (code.Entry × ℕ)) CoreTextStop → Type 0
IsRead S text from r = ReadsEntry (length S.entries) r (entry_from S text from)

module _ (before now : Option (List ℕ)) (whole : Block) (text : List ℕ) (fuel : ℕ) (S : Signature) (from : ℕ) (g : IsGoing before now whole text fuel S from) (r : Result (Option (code.Entry × ℕ)) CoreTextStop) (h : ReadsEntry (length S.entries) r (entry_from S text from)) where
  pub at_end : r ≡ Ok None → Writes before now (Ok false) whole
  at_end is =
      let n = next before now whole text fuel S from g in
      let k : IsRead S text from (Ok None) = subst (IsRead S text from) is h in
      written_all before now whole (subst (λ m. IsWriting before now whole (next_block fuel S (entries text fuel n.others) m)) (sym k) n.writing)

  pub at_stop : (end : Option (List ℕ)) (e : CoreTextStop) (answer : Result Bool Status) → r ≡ Err e → ((meant : Block) → (e ≢ core.Memory → unread_block e ≡ meant) → Writes now end answer meant) → Writes before end answer whole
  at_stop end e answer is written =
      let n = next before now whole text fuel S from g in
      let k : IsRead S text from (Err e) = subst (IsRead S text from) is h in
      let rest = next_block fuel S (entries text fuel n.others) (entry_from S text from) in
      written_rest before now end whole rest answer n.writing (written rest (λ known. ap (next_block fuel S (entries text fuel n.others)) (k known)))

  split : (e : code.Entry) (to : ℕ) → r ≡ Ok (Some (e, to)) → (n : IsNext before now whole text fuel S from) →
      IsWriting before now whole (followed (read_block S fuel (entry_shown (length S.entries) (entry_of e))) (entries text fuel n.others (after_entry S (enter_of S fuel (entry_shown (length S.entries) (entry_of e)))) to))
  split e to is n =
      let k : IsRead S text from (Ok (Some (e, to))) = subst (IsRead S text from) is h in
      subst (λ m. IsWriting before now whole (next_block fuel S (entries text fuel n.others) m)) (sym k) n.writing

  pub at_failed : (e : code.Entry) (to : ℕ) → r ≡ Ok (Some (e, to)) → (end : Option (List ℕ)) (status : Status) → Writes now end (Err status) (read_block S fuel (entry_shown (length S.entries) (entry_of e))) →
      Writes before end (Err status) whole
  at_failed e to is end status written =
      let n = next before now whole text fuel S from g in
      let raw = entry_shown (length S.entries) (entry_of e) in
      written_part before now end whole (read_block S fuel raw) (entries text fuel n.others (after_entry S (enter_of S fuel raw)) to) status (split e to is n) written

  pub at_refused : (e : code.Entry) (to : ℕ) → r ≡ Ok (Some (e, to)) → (end : Option (List ℕ)) (b : Bool) → b ≡ true → Writes now end (Ok b) (read_block S fuel (entry_shown (length S.entries) (entry_of e))) →
      Writes before end (Ok true) whole
  at_refused e to is end b eb written =
      let n = next before now whole text fuel S from g in
      let raw = entry_shown (length S.entries) (entry_of e) in
      written_last before now end whole (read_block S fuel raw) (entries text fuel n.others (after_entry S (enter_of S fuel raw)) to) (split e to is n) (subst (λ x. Writes now end (Ok x) (read_block S fuel raw)) eb written)

  pub at_verified : (e : code.Entry) (to : ℕ) → r ≡ Ok (Some (e, to)) → (end : Option (List ℕ)) (b : Bool) → b ≡ false → Writes now end (Ok b) (read_block S fuel (entry_shown (length S.entries) (entry_of e))) → from < to → to ≤ length text
      → (T : Signature) → T ≡ after_entry S (enter_of S fuel (entry_shown (length S.entries) (entry_of e))) → (left : ℕ) → left ≡ fuel → IsGoing before end whole text left T to
  at_verified e to is end b eb written forward within T et left el =
      let n = next before now whole text fuel S from g in
      let raw = entry_shown (length S.entries) (entry_of e) in
      let le = n.enough in
      let less : length text - to < n.others = omega (arith, le, forward, within) in
      let P : Signature → Type 0 = λ X. IsGoing before end whole text left X to in
      let Q : ℕ → Type 0 = λ m. IsGoing before end whole text m (after_entry S (enter_of S fuel raw)) to in
      subst P (sym et) (subst Q (sym el) (record {
        most = n.others;
        enough = less;
        writing = written_one before now end whole (read_block S fuel raw) (entries text fuel n.others (after_entry S (enter_of S fuel raw)) to) (split e to is n) (subst (λ x. Writes now end (Ok x) (read_block S fuel raw)) eb written);
      }))

-- the lines after a head that is read
pub written-file : (before after : Option (List ℕ)) (r : Result Bool Status) (fuel : ℕ) (text : List ℕ) (m : Result (Bool × ℕ) CoreTextStop) (k : Bool) (start : ℕ) → m ≡ Ok (k, start) → (S : Signature) → S ≡ prelude k
    → (left : ℕ) → left ≡ fuel → Writes before after r (entries text left (suc (length text)) S start) → Writes before after r (after_head fuel text m)
written-file before after r fuel text m k start em S es left el written =
    subst (λ x. Writes before after r (after_head fuel text x)) (sym em)
    (subst (λ T. Writes before after r (entries text fuel (suc (length text)) T start)) es (subst (λ n. Writes before after r (entries text n (suc (length text)) S start)) el written))

-- A bound above the number of the bytes that are left cuts nothing off.
pub bound_is_enough : BoundIsEnough
bound_is_enough text fuel S from zero more within lt le = absurd (omega (arith, lt))
bound_is_enough text fuel S from (suc most) zero within lt le = absurd (omega (arith, le))
bound_is_enough text fuel S from (suc most) (suc more) within lt le =
    go (entry_from S text from) refl (λ T to inside less. bound_is_enough text fuel T to most more inside less (omega (arith, le)))
  where
    go : (m : Result (Option (RawEntry × ℕ)) CoreTextStop) → entry_from S text from ≡ m
        → ((T : Signature) (to : ℕ) → to ≤ length text → length text - to < most → entries text fuel most T to ≡ entries text fuel more T to)
        → next_block fuel S (entries text fuel most) m ≡ next_block fuel S (entries text fuel more) m
    go (Ok None) is rec = refl
    go (Err e) is rec = refl
    go (Ok (Some (raw, to))) is rec =
        let what = what-is-read S text from raw to within is in
        let forward = what.1 in
        let inside = what.2 in
        ap (followed (read_block S fuel raw)) (rec (after_entry S (enter_of S fuel raw)) to inside (omega (arith, lt, forward, inside)))
