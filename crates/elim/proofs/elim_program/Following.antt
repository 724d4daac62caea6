-- Parts that are written one after the other are a front of the whole output.
use Rattle.std.proofs.Common.{◌≡◌, ◌≢◌, ℕ, ◌+◌, ◌<◌, ◌≤◌, ◌↔◌, ◌⊎◌, inl, inr, Bool, true, false, nat_lt, List, [], ◌∷◌, ◌++◌, length, take, drop, Option, Some, None, Result, Ok, Err, IfSome, IsOk, refl, sym, ap, subst, ◌∙◌, arith, append_assoc, append-nil}
use Rattle.std.specs.Prelude.{if◌then◌else◌}
use Rattle.std.specs.Io.KnownBytes.{Appends}
use Rattle.std.proofs.lemmas.Bool.Decides.{nat_tests}
use Rattle.std.proofs.lemmas.List.{take-append-drop, length-append, length-take, append_cancel_left}
use Rattle.elim_ports.specs.declared.port_error.PortError.{PortError}
use Rattle.elim_ports.specs.declared.reading.ReadError.{ReadError}
use Rattle.elim_ports.specs.declared.reading.ReadError.TheVariants.{TooLong}
use Rattle.elim_ports.specs.Reading.{ReadsAll}
use Rattle.elim.specs.declared.program_texts.status.Status.{Status}
use Rattle.elim.specs.declared.program_texts.status.Status.TheVariants.{Done, Refused, Usage, ReadFault, WriteFault, NoMemory}
use Rattle.elim.specs.program_texts.Lines.{text_of}
use Rattle.elim.specs.elim_program.Outputs.{Block, Output, compiled, head_lines, followed}
use Rattle.elim.proofs.elim_program.TextLines.{text_both}
use Rattle.elim.specs.elim_program.Runs.{IsFront, Follows, Says, Sent, Written, Failed}
use Rattle.elim.specs.program_texts.Texts.{limited}

-- The bytes of a source.

pub limited-long : (bytes : List ℕ) → 1048576 < length bytes → None ≡ limited bytes
limited-long bytes long =
    let e : nat_lt 1048576 (length bytes) ≡ true = grind (arith, nat_tests) in
    sym (ap (λ b. if b then None else Some bytes) e)

pub long_bytes : (known after : Option (List ℕ)) (r : Result (List ℕ) ReadError) → r ≡ Err TooLong → ReadsAll known after r 1048576
    → IfSome known (λ left. r ≡ Err TooLong → 1048576 < length left)
    → (bytes : List ℕ) × IfSome known (λ k. bytes ≡ k) × (None ≡ limited bytes)
long_bytes None after r e reads h = (reads.came, tt, limited-long reads.came (reads.too_long.0 e))
long_bytes (Some k) after r e reads h = (k, refl, limited-long k (h e))

pub no_bytes : (known : Option (List ℕ)) → (bytes : List ℕ) × IfSome known (λ k. bytes ≡ k) × Unit {0}
no_bytes None = ([], tt, tt)
no_bytes (Some k) = (k, refl, tt)

-- An output of which not all was written.

abbrev pub IsLost : Status → Type 0
IsLost status = (status ≡ WriteFault) ⊎ (status ≡ NoMemory)

failed : (status : Status) (text whole : List ℕ) → IsLost status → text ≢ whole → Failed status text whole
failed status text whole (inl e) h = subst (λ s. Failed s text whole) (sym e) h
failed status text whole (inr e) h = subst (λ s. Failed s text whole) (sym e) tt

pub sent_part : (before after : Option (List ℕ)) (n : ℕ) (r : Result (Unit {0}) PortError) (e : PortError) (bytes : List ℕ) (status : Status) →
    Appends before after (take n bytes) → (IsOk r ↔ (n ≡ length bytes)) → n ≤ length bytes → r ≡ Err e → IsLost status →
    (text : List ℕ) × Appends before after text × Sent (Err status) text bytes
sent_part before after n r e bytes status appended ok within lost s =
    (take n bytes, appended, ((drop n bytes, sym (take-append-drop n bytes)), failed status (take n bytes) bytes s not_whole))
  where
    no_ok : IsOk r → ⊥
    no_ok h = let R : Result (Unit {0}) PortError → Type 0 = λ x. IsOk x in let k : R (Err e) = subst R lost h in cc

    not_whole : take n bytes ≡ bytes → ⊥
    not_whole whole =
        let lengths : length (take n bytes) ≡ length bytes = ap length whole in
        let t = length-take n bytes in
        let all : n ≡ length bytes = omega (arith, lengths, t, within) in
        no_ok (ok.1 all)

pub appends-both : (before middle after : Option (List ℕ)) (x y : List ℕ) → Appends before middle x → Appends middle after y → Appends before after (x ++ y)
appends-both None middle after x y h k = tt
appends-both (Some a) None after x y h k = absurd h
appends-both (Some a) (Some b) None x y h k = absurd k
appends-both (Some a) (Some b) (Some c) x y h k = k ∙ ap (λ l. l ++ y) h ∙ append_assoc a x y

pub appends-nothing : (known : Option (List ℕ)) → Appends known known []
appends-nothing None = tt
appends-nothing (Some text) = sym (append-nil text)

-- Blocks.

-- a block went out, or a front of it
abbrev pub Writes : Option (List ℕ) → Option (List ℕ) → Result Bool Status → Block → Type 0
Writes before after r b = (text : List ℕ) × Appends before after text × Written r b text

pub no_block : (before : Option (List ℕ)) (status : Status) (b : Block) → status ≡ NoMemory → Writes before before (Err status) b
no_block before status b e = ([], appends-nothing before, ((text_of b.lines, refl), subst (λ s. Failed s [] (text_of b.lines)) (sym e) tt))

-- Blocks one by one: what went out so far, where the lines of `rest` are still to come for those of `whole`.
pub record IsWriting (before now : Option (List ℕ)) (whole rest : Block) : Type 0 where
  pub text : List ℕ
  pub appended : Appends before now text
  pub parts : text_of whole.lines ≡ text ++ text_of rest.lines
  pub refused : whole.refused ≡ rest.refused

pub writing : (before : Option (List ℕ)) (whole : Block) → IsWriting before before whole whole
writing before whole = record { text = []; appended = appends-nothing before; parts = refl; refused = refl }

-- a block that does not refuse went out
pub written_one : (before middle after : Option (List ℕ)) (whole b rest : Block) → IsWriting before middle whole (followed b rest) → Writes middle after (Ok false) b →
    IsWriting before after whole rest
written_one before middle after whole b rest t one =
    let refuses : b.refused ≡ false = sym one.2.1 in
    let next : followed b rest ≡ record { lines = b.lines ++ rest.lines; refused = rest.refused } =
    ap (λ x. if x then b else record { lines = b.lines ++ rest.lines; refused = rest.refused }) refuses in
    record {
      text = t.text ++ one.0;
      appended = appends-both before middle after t.text one.0 t.appended one.1;
      parts = t.parts ∙ ap (λ x. t.text ++ text_of x.lines) next ∙ ap (λ l. t.text ++ l) (text_both b.lines rest.lines ∙ ap (λ l. l ++ text_of rest.lines) (sym one.2.0)) ∙ sym (append_assoc t.text one.0 (text_of rest.lines));
      refused = t.refused ∙ ap (λ x. x.refused) next;
    }

-- the last block refuses
pub written_last : (before middle after : Option (List ℕ)) (whole b rest : Block) → IsWriting before middle whole (followed b rest) → Writes middle after (Ok true) b →
    Writes before after (Ok true) whole
written_last before middle after whole b rest t one =
    let refuses : b.refused ≡ true = sym one.2.1 in
    let next : followed b rest ≡ b = ap (λ x. if x then b else record { lines = b.lines ++ rest.lines; refused = rest.refused }) refuses in (
      t.text ++ one.0,
      appends-both before middle after t.text one.0 t.appended one.1,
      (
        ap (λ l. t.text ++ l) one.2.0 ∙ sym (t.parts ∙ ap (λ x. t.text ++ text_of x.lines) next),
        sym (t.refused ∙ ap (λ x. x.refused) next ∙ refuses),
      ),
    )

no_items : (l : List ℕ) → length l ≡ 0 → l ≡ []
no_items [] e = refl
no_items (x ∷ xs) e = absurd (omega (arith, e))

-- a front that is not the whole is not the whole of more
not_more : (x y z : List ℕ) → IsFront x y → x ≢ y → x ≢ y ++ z
not_more x y z f h e =
    let l1 : length x ≡ length y + length z = ap length e ∙ length-append y z in
    let l2 : length y ≡ length x + length f.0 = ap length f.1 ∙ length-append x f.0 in
    let none : f.0 ≡ [] = no_items f.0 (omega (arith, l1, l2)) in
    h (sym (f.1 ∙ ap (λ l. x ++ l) none ∙ append-nil x))

-- a failure of a part is one of the whole
failed_part : (status : Status) (front x y z whole : List ℕ) → IsFront x y → Failed status x y → whole ≡ front ++ (y ++ z) → Failed status (front ++ x) whole
failed_part WriteFault front x y z whole f h e = λ k. not_more x y z f h (append_cancel_left front x (y ++ z) (k ∙ e))
failed_part NoMemory front x y z whole f h e = tt
failed_part Done front x y z whole f h e = absurd h
failed_part Refused front x y z whole f h e = absurd h
failed_part Usage front x y z whole f h e = absurd h
failed_part ReadFault front x y z whole f h e = absurd h

-- the text of a block and of what follows it
after_block : (b rest : Block) → (more : List ℕ) × (text_of (followed b rest).lines ≡ text_of b.lines ++ more)
after_block b rest = go b.refused
  where
    go : (r : Bool) → (more : List ℕ) × (text_of (if r then b else record { lines = b.lines ++ rest.lines; refused = rest.refused }).lines ≡ text_of b.lines ++ more)
    go true = ([], sym (append-nil (text_of b.lines)))
    go false = (text_of rest.lines, text_both b.lines rest.lines)

pub written_part : (before middle after : Option (List ℕ)) (whole b rest : Block) (status : Status) → IsWriting before middle whole (followed b rest) → Writes middle after (Err status) b →
    Writes before after (Err status) whole
written_part before middle after whole b rest status t one =
    let more = after_block b rest in
    let all : text_of whole.lines ≡ t.text ++ (text_of b.lines ++ more.0) = t.parts ∙ ap (λ l. t.text ++ l) more.1 in
    let front = one.2.0 in (
      t.text ++ one.0,
      appends-both before middle after t.text one.0 t.appended one.1,
      (
        (front.0 ++ more.0, all ∙ ap (λ l. t.text ++ l) (ap (λ l. l ++ more.0) front.1 ∙ append_assoc one.0 front.0 more.0) ∙ sym (append_assoc t.text one.0 (front.0 ++ more.0))),
        failed_part status t.text one.0 (text_of b.lines) more.0 (text_of whole.lines) front one.2.1 all,
      ),
    )

-- the rest of the output was written, or a front of it
pub written_rest : (before middle after : Option (List ℕ)) (whole rest : Block) (r : Result Bool Status) → IsWriting before middle whole rest → Writes middle after r rest → Writes before after r whole
written_rest before middle after whole rest (Ok b) t one = (
  t.text ++ one.0,
  appends-both before middle after t.text one.0 t.appended one.1,
  (ap (λ l. t.text ++ l) one.2.0 ∙ sym t.parts, one.2.1 ∙ sym t.refused),
)
written_rest before middle after whole rest (Err status) t one =
    let front = one.2.0 in
    let all : text_of whole.lines ≡ t.text ++ (text_of rest.lines ++ []) = t.parts ∙ ap (λ l. t.text ++ l) (sym (append-nil (text_of rest.lines))) in (
      t.text ++ one.0,
      appends-both before middle after t.text one.0 t.appended one.1,
      (
        (front.0, t.parts ∙ ap (λ l. t.text ++ l) front.1 ∙ sym (append_assoc t.text one.0 front.0)),
        failed_part status t.text one.0 (text_of rest.lines) [] (text_of whole.lines) front one.2.1 all,
      ),
    )

pub written_all : (before after : Option (List ℕ)) (whole : Block) → IsWriting before after whole (record { lines = []; refused = false }) → Writes before after (Ok false) whole
written_all before after whole t = (t.text, t.appended, (sym (t.parts ∙ append-nil t.text), sym t.refused))

-- The head lines and what follows them.

says_lost : (status : Status) (out : Output) (text : List ℕ) → Failed status text (text_of out.lines) → Says status out text
says_lost WriteFault out text h = h
says_lost NoMemory out text h = tt
says_lost Done out text h = absurd h
says_lost Refused out text h = absurd h
says_lost Usage out text h = absurd h
says_lost ReadFault out text h = absurd h

pub head_part : (k : Bool) (b : Block) (before after : Option (List ℕ)) (status : Status) (bytes : List ℕ) → bytes ≡ text_of (head_lines k) →
    ((text : List ℕ) × Appends before after text × Sent (Err status) text bytes) → Follows (compiled k b) before after status
head_part k b before after status bytes eb sent0 =
    let P : List ℕ → Type 0 = λ whole. (text : List ℕ) × Appends before after text × Sent (Err status) text whole in
    let sent : P (text_of (head_lines k)) = subst P eb sent0 in
    let all : text_of (head_lines k ++ b.lines) ≡ text_of (head_lines k) ++ text_of b.lines = text_both (head_lines k) b.lines in
    record {
      text = sent.0;
      appended = sent.1;
      front = (sent.2.0.0 ++ text_of b.lines, all ∙ ap (λ l. l ++ text_of b.lines) sent.2.0.1 ∙ append_assoc sent.0 sent.2.0.0 (text_of b.lines));
      says = says_lost status (compiled k b) sent.0 (failed_part status [] sent.0 (text_of (head_lines k)) (text_of b.lines) (text_of (compiled k b).lines) sent.2.0 sent.2.1 all);
    }

pub body_part : (k : Bool) (b : Block) (before middle after : Option (List ℕ)) (status : Status) (bytes : List ℕ) → bytes ≡ text_of (head_lines k) →
    ((text : List ℕ) × Appends before middle text × (text ≡ bytes)) → Writes middle after (Err status) b → Follows (compiled k b) before after status
body_part k b before middle after status bytes eb head body =
    let all : text_of (head_lines k ++ b.lines) ≡ head.0 ++ text_of b.lines = text_both (head_lines k) b.lines ∙ ap (λ l. l ++ text_of b.lines) (sym (head.2 ∙ eb)) in
    let same : text_of (head_lines k ++ b.lines) ≡ head.0 ++ (text_of b.lines ++ []) = all ∙ ap (λ l. head.0 ++ l) (sym (append-nil (text_of b.lines))) in
    record {
      text = head.0 ++ body.0;
      appended = appends-both before middle after head.0 body.0 head.1 body.1;
      front = (body.2.0.0, all ∙ ap (λ l. head.0 ++ l) body.2.0.1 ∙ sym (append_assoc head.0 body.0 body.2.0.0));
      says = says_lost status (compiled k b) (head.0 ++ body.0) (failed_part status head.0 body.0 (text_of b.lines) [] (text_of (compiled k b).lines) body.2.0 body.2.1 same);
    }

abbrev pub ending : Bool → Status
ending refused = if refused then Refused else Done

pub body_whole : (k : Bool) (b : Block) (before middle after : Option (List ℕ)) (refused : Bool) (bytes : List ℕ) → bytes ≡ text_of (head_lines k) →
    ((text : List ℕ) × Appends before middle text × (text ≡ bytes)) → Writes middle after (Ok refused) b → Follows (compiled k b) before after (ending refused)
body_whole k b before middle after refused bytes eb head body =
    let all : text_of (head_lines k ++ b.lines) ≡ head.0 ++ body.0 =
    text_both (head_lines k) b.lines ∙ ap (λ l. l ++ text_of b.lines) (sym (head.2 ∙ eb)) ∙ ap (λ l. head.0 ++ l) (sym body.2.0) in
    record {
      text = head.0 ++ body.0;
      appended = appends-both before middle after head.0 body.0 head.1 body.1;
      front = ([], all ∙ sym (append-nil (head.0 ++ body.0)));
      says = says_whole refused body.2.1 (sym all);
    }
  where
    says_whole : (r : Bool) → r ≡ b.refused → head.0 ++ body.0 ≡ text_of (compiled k b).lines → Says (ending r) (compiled k b) (head.0 ++ body.0)
    says_whole true e all = (all, ap (λ x. if x then Refused else Done) (sym e))
    says_whole false e all = (all, ap (λ x. if x then Refused else Done) (sym e))

pub usage_whole : (out : Output) (before after : Option (List ℕ)) (status : Status) → (status ≡ out.status) → ((text : List ℕ) × Appends before after text × (text ≡ text_of out.lines)) →
    (out.status ≡ Usage) → Follows out before after status
usage_whole out before after status e sent is = record {
  text = sent.0;
  appended = sent.1;
  front = ([], sym (append-nil sent.0 ∙ sent.2));
  says = subst (λ s. Says s out sent.0) (sym (e ∙ is)) (sent.2, is);
}
