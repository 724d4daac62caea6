-- A core file is verified entry by entry.
use Rattle.std.proofs.Common.{◌≡◌, ◌==◌, ℕ, suc, ◌+◌, ◌≤◌, Bool, true, false, cond, List, [], ◌∷◌, ◌++◌, map, length, Option, Some, None, Ok, Err, IfOk, IfSome, nat_lt, refl, sym, ap, ◌∙◌, subst as transport, arith, append_assoc, append-nil, length-append}
use Rattle.std.specs.Prelude.{get_or, if◌then◌else◌}
use Rattle.std.proofs.lemmas.Bool.{eqb-true}
use Rattle.std.proofs.lemmas.Bool.Decides.{nat_tests}
use Rattle.std.proofs.lemmas.List.{map-append}
use Rattle.theory.specs.Prelude.{prelude}
use Rattle.theory.specs.Signatures.{Signature, Entry, FamilyOf, EliminatorAt, AxiomKAt, Definition, IsPrefix}
use Rattle.theory.specs.WellFormed.{pushed}
use Rattle.theory.proofs.Lists.{slice_get-last}
use Rattle.theory.proofs.Pushing.{cut_to_prefix, prefix_reflexive, prefix_transitive, push_is_longer}
use Rattle.theory.proofs.Widening.{prefix_keeps}
use Rattle.core_sig.specs.Raw.{RawFamily}
use Rattle.core_text.specs.Heads.{head as head_text, head_of, head_stop, has_head, shared}
use Rattle.core_text.specs.RawEntries.{RawEntry, RawFamilyOf, RawEliminator, RawAxiomK, RawDefinition}
use Rattle.core_text.specs.declared.stop.CoreTextStop.TheVariants.{NotCoreText}
use Rattle.family_check.specs.Entering.{declare_of, entered, entered_at}
use Rattle.elab_session.specs.Adding.{Adds, family, eliminator, axiom_k, definition}
use Rattle.elab_session.specs.Entering.{answered, enter_of, refused}
use Rattle.elim.specs.refusal_laws.accepted_laws.Checked.{LetsIn, Checked}
use Rattle.elim.proofs.refusal_laws.accepted_laws.Families.{family-is}
use Rattle.elim.specs.elim_program.DefinedOutputs.{IsOutput, verifies}
use Rattle.elim.specs.elim_program.Outputs.{Block, block, compiled, followed}
use Rattle.elim.specs.elim_program.Verifies.{after_entry, after_head, file_block, entries, entry_block, next_block, read_name, verified_line}
use Rattle.elim.specs.elim_program.VerifyHeadline.{Holds, head, entry}
use Rattle.elim.specs.program_texts.Texts.{limited}
use Rattle.elim.specs.program_texts.Words.{verify_asked}
use Rattle.elim.proofs.elim_program.Entries.{bound_is_enough}
use Rattle.function_session.specs.Declaring.{new_session}
use Rattle.elim.specs.headline.verified_laws.Laws.{AcceptedIsVerified, AreNames, CoreFileIsVerified, EachIsNamed, entry_name, entry_names, IsFileOf, OutputVerifies, signature_after}
use Rattle.elim.proofs.headline.verified_laws.LetIn.{each-in, same-k}
use Rattle.elim.proofs.headline.verified_laws.Texts.{text-checked}

-- ---- a head that is read is the front of the text

shared-within : (xs ys : List ℕ) → shared xs ys ≤ length xs
shared-within [] ys = omega arith
shared-within (x ∷ xs) [] = omega arith
shared-within (x ∷ xs) (y ∷ ys) = go (x == y) (shared-within xs ys)
  where
    go : (b : Bool) → shared xs ys ≤ length xs → (if b then 1 + shared xs ys else 0) ≤ length (x ∷ xs)
    go true le = omega (arith, le)
    go false le = omega arith

abbrev IsWithin : List ℕ → Bool × ℕ → Type 0
IsWithin text p = p.1 ≤ length text

head-within : (k : Bool) (text : List ℕ) → IfOk (head_of k text) (IsWithin text)
head-within k text = go (has_head false text) refl (has_head true text) refl
  where
    long : (b : Bool) → has_head b text ≡ true → length (head_text b) ≤ length text
    long b h =
        let whole : shared text (head_text b) ≡ length (head_text b) = eqb-true (shared text (head_text b)) (length (head_text b)) h in
        transport (λ n. n ≤ length text) whole (shared-within text (head_text b))

    either : (b c : Bool) → has_head true text ≡ c
        → IfOk (if cond b c false then Ok (true, length (head_text true)) else Err (NotCoreText (head_stop k text))) (IsWithin text)
    either true true g = long true g
    either true false g = tt
    either false c g = tt

    go : (a : Bool) → has_head false text ≡ a → (c : Bool) → has_head true text ≡ c
        → IfOk (if a then Ok (false, length (head_text false)) else (if cond k c false then Ok (true, length (head_text true)) else Err (NotCoreText (head_stop k text)))) (IsWithin text)
    go true h c g = long false h
    go false h c g = either k c g

-- ---- one entry

module _ (fuel : ℕ) (W : Signature) (checked : Checked fuel (prelude W.has_k) W) where
  -- an entry that is added is accepted
  let-in : (S : Signature) (e : Entry) → IsPrefix (pushed S e) W → length (prelude W.has_k).entries ≤ length S.entries → LetsIn S fuel e
  let-in S e longer le =
      transport (λ T. LetsIn T fuel e) (cut_to_prefix S W (prefix_transitive S (pushed S e) W (push_is_longer S e) longer))
      (each-in checked (length S.entries) e le ((prefix_keeps longer).entry (length S.entries) e (slice_get-last S.entries e)))

  -- and so is what is read of it
  read-in : (S T : Signature) (raw : RawEntry) → Adds S raw T → IsPrefix T W → length (prelude W.has_k).entries ≤ length S.entries
      → enter_of S fuel raw ≡ Ok (entered_at T (length S.entries))
  read-in S _ _ (family raw f given) longer le =
      ap (answered (refused S 0 fuel (RawFamilyOf raw)))
      (transport (λ (r : RawFamily). (declare_of S r fuel).0 ≡ Ok (entered S (FamilyOf f))) (sym (family-is (length S.entries) f raw given)) (let-in S (FamilyOf f) longer le))
  read-in S _ _ (eliminator n m) longer le = ap (answered (refused S 0 fuel (RawEliminator n m))) (let-in S (EliminatorAt n m) longer le)
  read-in S _ _ (axiom_k i m) longer le = ap (answered (refused S 0 fuel (RawAxiomK i m))) (let-in S (AxiomKAt i m) longer le)
  read-in S _ _ (definition name type body) longer le =
      ap (answered (refused S 0 fuel (RawDefinition name type body))) (let-in S (Definition name type body) longer le)

  -- ---- all entries

  added-longer : (S T : Signature) (raw : RawEntry) → Adds S raw T → IsPrefix S T
  added-longer S _ _ (family raw f given) = push_is_longer S (FamilyOf f)
  added-longer S _ _ (eliminator n m) = push_is_longer S (EliminatorAt n m)
  added-longer S _ _ (axiom_k i m) = push_is_longer S (AxiomKAt i m)
  added-longer S _ _ (definition name type body) = push_is_longer S (Definition name type body)

  -- The entries from the head on are verified up to an offset, and then those that follow are written.
  record IsTold (k : Bool) (text : List ℕ) (T : Signature) (to : ℕ) (names : List (List ℕ)) : Type 0 where
    has_k : Bool
    start : ℕ
    at_head : head_of k text ≡ Ok (has_k, start)
    counted : length (prelude W.has_k).entries ≤ length T.entries
    told : (most : ℕ) → entries text fuel (length names + most) (prelude has_k) start
        ≡ followed (block (map verified_line names) false) (entries text fuel most T to)

  nothing-first : (b : Block) → b ≡ followed (block [] false) b
  nothing-first b = refl

  one-name : (names : List (List ℕ)) (name : List ℕ) (b : Block)
      → followed (block (map verified_line names) false) (followed (block (verified_line name ∷ []) false) b)
      ≡ followed (block (map verified_line (names ++ name ∷ [])) false) b
  one-name names name b =
      ap (λ ls. block ls b.refused)
      (sym (append_assoc (map verified_line names) (verified_line name ∷ []) b.lines) ∙ ap (λ ls. ls ++ b.lines) (sym (map-append verified_line names (name ∷ []))))

  no-more : (most : ℕ) → most ≡ 0 + most
  no-more most = omega arith

  more-names : (names : List (List ℕ)) (name : List ℕ) (most : ℕ) → length (names ++ name ∷ []) + most ≡ length names + suc most
  more-names names name most = let e = length-append names (name ∷ []) in omega (arith, e)

  longer-size : (S T : Signature) → IsPrefix S T → length S.entries ≤ length T.entries
  longer-size S T p = omega (arith, ap length p.entries, length-append S.entries p.more)

  all-told : (k : Bool) (text : List ℕ) (T : Signature) (to : ℕ) (names : List (List ℕ)) → Holds k text T to names → IsPrefix T W → IsTold k text T to names
  all-told k text _ _ _ (head has_k from is) longer = record {
    has_k = has_k;
    start = from;
    at_head = is;
    counted = let same : W.has_k ≡ has_k = longer.has_k in let e = ap (λ b. length (prelude b).entries) same in omega (arith, e);
    told = λ most. ap (λ n. entries text fuel n (prelude has_k) from) (sym (no-more most));
  }
  all-told k text _ _ _ (entry S T from to names raw h reads adds) longer =
      let before = all-told k text S from names h (prefix_transitive S T W (added-longer S T raw adds) longer) in
      let is = read-in S T raw adds longer before.counted in
      record {
        has_k = before.has_k;
        start = before.start;
        at_head = before.at_head;
        counted = let le = before.counted in let more = longer-size S T (added-longer S T raw adds) in omega (arith, le, more);
        told = λ most.
            ap (λ n. entries text fuel n (prelude before.has_k) before.start) (more-names names (read_name S raw) most)
            ∙ before.told (suc most)
            ∙ ap (λ r. followed (block (map verified_line names) false) (next_block fuel S (entries text fuel most) r)) reads
            ∙ ap (λ r. followed (block (map verified_line names) false) (followed (entry_block (read_name S raw) r) (entries text fuel most (after_entry S r) to))) is
            ∙ one-name names (read_name S raw) (entries text fuel most T to);
      }

  pub file-verified : (k : Bool) (text : List ℕ) (names : List (List ℕ)) → IsFileOf k text W names
      → after_head fuel text (head_of k text) ≡ block (map verified_line names) false
  file-verified k text names file =
      let all = all-told k text W file.offset names file.held (prefix_reflexive W) in
      let most = suc (length text) in
      let within : all.start ≤ length text = transport (λ r. IfOk r (IsWithin text)) all.at_head (head-within k text) in
      ap (after_head fuel text) all.at_head
      ∙ bound_is_enough text fuel (prelude all.has_k) all.start most (length names + most) within (omega arith) (omega arith)
      ∙ all.told most
      ∙ ap (λ r. followed (block (map verified_line names) false) (next_block fuel W (entries text fuel (length text)) r)) file.ended
      ∙ ap (λ ls. block ls false) (append-nil (map verified_line names))

-- ---- names

-- an entry that is added has the name that is read
record IsAdded (S T : Signature) (raw : RawEntry) : Type 0 where
  e : Entry
  is : T ≡ pushed S e
  name : read_name S raw ≡ entry_name S e

first-of : List (List ℕ) → List ℕ
first-of names = get_or names 0 []

added-one : (S T : Signature) (raw : RawEntry) → Adds S raw T → IsAdded S T raw
unfolding first-of
added-one S _ _ (family raw f given) = record { e = FamilyOf f; is = refl; name = sym (ap first-of given.names) }
added-one S _ _ (eliminator n m) = record { e = EliminatorAt n m; is = refl; name = refl }
added-one S _ _ (axiom_k i m) = record { e = AxiomKAt i m; is = refl; name = refl }
added-one S _ _ (definition name type body) = record { e = Definition name type body; is = refl; name = refl }

-- the entries of S and others after them
abbrev with_more : Signature → List Entry → Signature
with_more S more = record { entries = S.entries ++ more; has_k = S.has_k }

last-name : (S : Signature) (more : List Entry) (e : Entry) → entry_names S (more ++ e ∷ []) ≡ entry_names S more ++ entry_name (with_more S more) e ∷ []
last-name S [] e = ap (λ es. entry_name (record { entries = es; has_k = S.has_k }) e ∷ []) (sym (append-nil S.entries))
last-name S (x ∷ more) e =
    ap (λ ns. entry_name S x ∷ ns)
    (last-name (pushed S x) more e
    ∙ ap (λ es. entry_names (pushed S x) more ++ entry_name (record { entries = es; has_k = S.has_k }) e ∷ []) (append_assoc S.entries (x ∷ []) more))

name-after : (S : Signature) (names : List (List ℕ)) (e : Entry) → AreNames S names → AreNames (pushed S e) (names ++ entry_name S e ∷ [])
name-after S names e before =
    let P = prelude S.has_k in
    let whole : S ≡ with_more P before.more = ap (λ es. record { entries = es; has_k = S.has_k }) before.entries in
    record {
      more = before.more ++ e ∷ [];
      entries = ap (λ es. es ++ e ∷ []) before.entries ∙ append_assoc P.entries before.more (e ∷ []);
      are =
          ap (λ ns. ns ++ entry_name S e ∷ []) before.are ∙ ap (λ U. entry_names P before.more ++ entry_name U e ∷ []) whole
          ∙ sym (last-name P before.more e);
    }

named : (k : Bool) (text : List ℕ) (T : Signature) (to : ℕ) (names : List (List ℕ)) → Holds k text T to names → AreNames T names
named k text _ _ _ (head has_k from is) = record { more = []; entries = sym (append-nil (prelude has_k).entries); are = refl }
named k text _ _ _ (entry S T from to names raw h reads adds) =
    let one = added-one S T raw adds in
    transport (λ U. AreNames U (names ++ read_name S raw ∷ [])) (sym one.is)
    (transport (λ n. AreNames (pushed S one.e) (names ++ n ∷ [])) (sym one.name) (name-after S names one.e (named k text S from names h)))

pub each-named : EachIsNamed
each-named k text W names file = named k text W file.offset names file.held

pub core_file-verified : CoreFileIsVerified
core_file-verified fuel k text W names file checked = file-verified fuel W checked k text names file

pub accepted-verified : AcceptedIsVerified
accepted-verified fuel k verify_k ds text names accepted file =
    let checked = text-checked (new_session k fuel) ds accepted in
    let W = signature_after k fuel ds in
    core_file-verified fuel verify_k text W names file (transport (λ b. Checked fuel (prelude b) W) (sym (same-k checked)) checked)

-- ---- outputs

if-some : {A : Type 0} (o : Option A) (P : A → Type 0) → ((a : A) → o ≡ Some a → P a) → IfSome o P
if-some (Some a) P h = h a refl
if-some None P h = tt

whole-text : (text : List ℕ) → length text ≤ 1048576 → limited text ≡ Some text
whole-text text short =
    let e : nat_lt 1048576 (length text) ≡ false = grind (arith, nat_tests) in
    ap (λ b. if b then None else Some text) e

pub output-verifies : OutputVerifies
output-verifies fuel k ds text names words accepted short =
    if-some (verify_asked words) _ (λ asked is same file.
    transport (λ b. IsOutput words text (compiled asked.k b))
    (ap (file_block asked) (whole-text text short) ∙ ap (λ n. after_head n text (head_of asked.k text)) same ∙ accepted-verified fuel k asked.k ds text names accepted file)
    (verifies asked is))
