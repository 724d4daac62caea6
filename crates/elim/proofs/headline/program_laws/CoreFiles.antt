-- The lines above one that accepts a declaration are a core file.
use Rattle.std.proofs.Common.{◌≡◌, ◌==◌, ℕ, zero, suc, ◌+◌, ◌-◌, ◌≤◌, ◌<◌, Bool, true, false, not, List, [], ◌∷◌, ◌++◌, length, map, take, drop, All, codes, Option, Some, None, Ok, refl, sym, ap, subst, ◌∙◌, arith, append_assoc, append-nil, length-append, flat_map}
use Rattle.std.specs.Prelude.{slice_get, if◌then◌else◌}
use Rattle.std.proofs.lemmas.Bool.{eqb-true, eq-eqb, true≢false, and_parts}
use Rattle.std.proofs.lemmas.Grind.{flat_map-append}
use Rattle.std.proofs.lemmas.List.{length-take-le, drop_all, take-append-drop}
use Rattle.std.proofs.lemmas.Option.{slice_get_within, slice_get-get_or, none-some}
use Rattle.theory.specs.Families.{Constructor, constructor_type}
use Rattle.theory.specs.Terms.{Term}
use Rattle.theory.specs.Prelude.{prelude}
use Rattle.theory.specs.Signatures.{Entry, FamilyOf, EliminatorAt, AxiomKAt, Definition, Signature, IsEntryAt, IsPrefix, names, names_of}
use Rattle.theory.specs.Telescopes.{products}
use Rattle.theory.specs.WellFormed.{IsWellFormed, first_entries, pushed}
use Rattle.theory.proofs.AllOf.{all_left}
use Rattle.theory.proofs.Lists.{slice_get-append}
use Rattle.theory.proofs.Pushing.{cut_to_prefix, first_entries_well_formed, prefix_reflexive, prefix_transitive}
use Rattle.theory.proofs.Widening.{prefix_keeps}
use Rattle.core_sig.specs.Raw.{RawConstructor}
use Rattle.core_sig.proofs.NewNames.{new-entry}
use Rattle.core_sig.proofs.PreludeEntries.{first_entries-push}
use Rattle.core_text.specs.EntryReading.{entry_from}
use Rattle.core_text.specs.EntryText.{entry_text, entry_line}
use Rattle.core_text.specs.Heads.{head_of, has_head, shared}
use Rattle.core_text.specs.Heads as heads
use Rattle.core_text.specs.LineLaws.{AreNotes, no_note, note, NotesArePassedOver, EndsAreRead}
use Rattle.core_text.specs.Lines.{is_in_line, AreInLine}
use Rattle.core_text.specs.ReadableNames.{HasReadableNames, IsReadableName, HasReadableFamily}
use Rattle.core_text.specs.RawEntries.{entry_shown, family_shown, constructor_line}
use Rattle.core_text.specs.ReadBack.{EntryReadsBack, EntriesAreReadBack}
use Rattle.core_text.specs.WrittenEntries.{MayFollow, EntriesThatFollow}
use Rattle.elab_session.specs.Adding.{Adds, family, eliminator, axiom_k, definition}
use Rattle.elim.specs.elim_program.Headline.{is_core, core_lines, Shows, none, more}
use Rattle.elim.specs.program_texts.Lines.{text_of}
use Rattle.elim.specs.elim_program.Outputs.{line_of, entry_lines, head_lines}
use Rattle.elim.specs.elim_program.Verifies.{read_name}
use Rattle.elim.specs.elim_program.VerifyHeadline.{Holds, head, entry}
use Rattle.elim.specs.headline.program_laws.CoreFiles.{IsCoreFile}

first-of : {A : Type 0} (b : Bool) (x y : A) → b ≡ true → (if b then x else y) ≡ x
first-of true x y e = refl
first-of false x y e = cc

-- ---- heads

same : (c : ℕ) → (c == c) ≡ true
same c = eq-eqb c c refl

shared-whole : (word rest : List ℕ) → shared (word ++ rest) word ≡ length word
shared-whole [] [] = refl
shared-whole [] (c ∷ rest) = refl
shared-whole (c ∷ word) rest = first-of (c == c) _ _ (same c) ∙ (let e = shared-whole word rest in omega arith)

has-its-head : (k : Bool) (rest : List ℕ) → has_head k (heads.head k ++ rest) ≡ true
has-its-head k rest = ap (λ n. n == length (heads.head k)) (shared-whole (heads.head k) rest) ∙ same (length (heads.head k))

-- ---- what is read of an entry

shown-as : (n : ℕ) (e : Entry) (S : Signature) → n ≡ length S.entries → Adds S (entry_shown n e) (pushed S e)
shown-as n (FamilyOf f) S at =
    subst (λ (m : ℕ). Adds S (entry_shown m (FamilyOf f)) (pushed S (FamilyOf f))) (sym at)
    (family (family_shown (length S.entries) f) f (record {
      names = ap (λ (ns : List (List ℕ)). f.name ∷ ns) (same-names f.constructors);
      parameters = refl;
      type = refl;
      constructor_types = same-types f.constructors;
    }))
  where
    same-names : (cs : List Constructor) → map (λ (c : Constructor). c.name) cs ≡ map (λ (c : RawConstructor). c.name) (map (constructor_line (length S.entries) f) cs)
    same-names [] = refl
    same-names (c ∷ cs) = ap (λ (ns : List (List ℕ)). c.name ∷ ns) (same-names cs)

    same-types : (cs : List Constructor) → map (constructor_type (length S.entries) f) cs
        ≡ map (λ (c : RawConstructor). products f.parameters c.type) (map (constructor_line (length S.entries) f) cs)
    same-types [] = refl
    same-types (c ∷ cs) = ap (λ (ts : List Term). constructor_type (length S.entries) f c ∷ ts) (same-types cs)
shown-as n (EliminatorAt g m) S at = eliminator g m
shown-as n (AxiomKAt i m) S at = axiom_k i m
shown-as n (Definition name type body) S at = definition name type body

-- names are plain, and each entry after the prelude may follow those before it
pub record MayFollowInTurn (S : Signature) : Type 0 where
  pub readable : HasReadableNames S
  pub follows : (n : ℕ) (e : Entry) → length (prelude S.has_k).entries ≤ n → IsEntryAt S n e → MayFollow (first_entries S n) e

-- ---- lines that show entries

-- The lines show the entries of W from number n up to number m. Each is written over a signature that has it, where it is
-- read back over those before it; the others begin with `#`.
data Prints (W : Signature) : ℕ → List (List ℕ) → ℕ → Type 0 where
  end : (n : ℕ) → Prints W n [] n
  other : (n m : ℕ) (line : List ℕ) (lines : List (List ℕ)) → is_core line ≡ false → is_in_line line ≡ true → Prints W n lines m → Prints W n (line ∷ lines) m
  shown : (n m : ℕ) (U : Signature) (e : Entry) (line : List ℕ) (lines : List (List ℕ)) → line ≡ entry_text U (length (first_entries W n).entries) e
      → IsEntryAt W n e → EntryReadsBack (first_entries W n) U e → Prints W (n + 1) lines m → Prints W n (line ∷ lines) m

join : {W : Signature} {n m k : ℕ} {xs ys : List (List ℕ)} → Prints W n xs m → Prints W m ys k → Prints W n (xs ++ ys) k
join (end n) q = q
join (other n m line lines begins in_line p) q = other n _ line _ begins in_line (join p q)
join (shown n m U e line lines is at back p) q = shown n _ U e line _ is at back (join p q)

module _ (back : EntriesAreReadBack) (follow : EntriesThatFollow) (passed : NotesArePassedOver) (ends : EndsAreRead) where
  module _ (W : Signature) (formed : IsWellFormed W) (writable : MayFollowInTurn W) where
    start : ℕ
    start = length (prelude W.has_k).entries

    within : (n : ℕ) (e : Entry) → IsEntryAt W n e → n < length W.entries
    within n e at = slice_get_within W.entries n e at

    size : (n : ℕ) (e : Entry) → IsEntryAt W n e → length (first_entries W n).entries ≡ n
    size n e at = let lt = within n e at in length-take-le n W.entries (omega arith)

    parts : (n : ℕ) → take n W.entries ++ drop n W.entries ≡ W.entries
    parts n = take-append-drop n W.entries

    plain-before : (n : ℕ) → HasReadableNames (first_entries W n)
    plain-before n = record {
      readable = all_left IsReadableName (flat_map names_of (take n W.entries)) (flat_map names_of (drop n W.entries))
          (subst (λ ns. All IsReadableName ns) (ap (λ es. flat_map names_of es) (sym (parts n)) ∙ flat_map-append names_of (take n W.entries) (drop n W.entries)) writable.readable.readable);
      families = all_left HasReadableFamily (take n W.entries) (drop n W.entries) (subst (λ es. All HasReadableFamily es) (sym (parts n)) writable.readable.families);
    }

    kept : (n k : ℕ) (x e : Entry) (U : Signature) → IsPrefix U W → IsEntryAt U n e → IsEntryAt (first_entries W n) k x → IsEntryAt U k x
    kept n k x e U longer at has =
        let inside = slice_get_within (take n W.entries) k x has in
        let short = length-take-le n W.entries (let lt = within n e ((prefix_keeps longer).entry n e at) in omega arith) in
        let far = slice_get_within U.entries n e at in
        let near : k < n = omega arith in
        let whole : slice_get W.entries k ≡ Some x = ap (λ es. slice_get es k) (sym (parts n)) ∙ slice_get-append (take n W.entries) (drop n W.entries) k inside ∙ has in
        sym (slice_get-append U.entries longer.more k (omega arith)) ∙ ap (λ es. slice_get es k) (sym longer.entries) ∙ whole

    reads-back : (n : ℕ) (e : Entry) (U : Signature) → start ≤ n → IsPrefix U W → IsEntryAt U n e → EntryReadsBack (first_entries W n) U e
    unfolding start
    reads-back n e U after longer at =
        let there = (prefix_keeps longer).entry n e at in
        let fresh = new-entry W n e formed.distinct there in
        follow (first_entries W n) U e (first_entries_well_formed W n formed).distinct (plain-before n) (λ k x has. kept n k x e U longer at has)
        (subst (λ k. IsEntryAt U k e) (sym (size n e there)) at) (record { unknown = fresh.unknown; distinct = fresh.distinct }) (writable.follows n e after there)

    -- the lines of the entries of U from number n on
    chunk : (U : Signature) → IsPrefix U W → (count n : ℕ) → start ≤ n → n + count ≡ length U.entries → Prints W n (entry_lines U n count) (length U.entries)
    chunk U longer zero n after whole = subst (λ k. Prints W n [] k) (let e : n ≡ length U.entries = omega arith in e) (end n)
    chunk U longer (suc count) n after whole = by (slice_get U.entries n) refl (chunk U longer count (n + 1) (omega arith) (omega arith))
      where
        by : (o : Option Entry) → slice_get U.entries n ≡ o → Prints W (n + 1) (entry_lines U (n + 1) count) (length U.entries)
            → Prints W n (line_of U n o ∷ entry_lines U (n + 1) count) (length U.entries)
        by (Some e) at rest =
            let there = (prefix_keeps longer).entry n e at in
            shown n (length U.entries) U e (entry_text U n e) (entry_lines U (n + 1) count) (ap (λ k. entry_text U k e) (sym (size n e there))) there (reads-back n e U after longer at) rest
        by None at rest = absurd (none-some _ (sym at ∙ slice_get-get_or U.entries n (EliminatorAt 0 0) (omega arith)))

    longer-size : (S T : Signature) → IsPrefix S T → length S.entries ≤ length T.entries
    longer-size S T p = omega (arith, ap length p.entries, length-append S.entries p.more)

    -- lines that show a signature before W print its entries
    from-shows : (P S : Signature) (lines : List (List ℕ)) → length P.entries ≡ start → Shows P S lines → IsPrefix S W
        → Prints W start lines (length S.entries) × (start ≤ length S.entries)
    unfolding start
    from-shows P _ _ at none longer = (subst (λ k. Prints W start [] k) (sym at) (end start), (let e = at in omega arith))
    from-shows P _ _ at (more R S shown-lines before grown) longer =
        let earlier = from-shows P R shown-lines at before (prefix_transitive R S W grown longer) in
        let far = longer-size R S grown in
        (join earlier.0 (chunk S longer (length S.entries - length R.entries) (length R.entries) earlier.1 (omega arith)), omega (arith, earlier.1, far))

    -- a core line may be put before lines that have those with `#` too
    peel : (n m : ℕ) (line : List ℕ) (ls lines : List (List ℕ)) → Prints W n (line ∷ ls) m → is_core line ≡ true → ((k : ℕ) → Prints W k ls m → Prints W k lines m)
        → Prints W n (line ∷ lines) m
    peel _ _ _ _ lines (other n m line ls begins in_line p) core rest = absurd (true≢false (sym core ∙ begins))
    peel _ _ _ _ lines (shown n m U e line ls is at back p) core rest = shown n m U e line lines is at back (rest (n + 1) p)

    weave : (lines : List (List ℕ)) (n m : ℕ) → AreInLine lines → Prints W n (core_lines lines) m → Prints W n lines m
    weave [] n m in_line p = p
    weave (line ∷ lines) n m in_line p = by (is_core line) refl p (λ k. weave lines k m in_line.1)
      where
        by : (b : Bool) → is_core line ≡ b → Prints W n (if b then line ∷ core_lines lines else core_lines lines) m → ((k : ℕ) → Prints W k (core_lines lines) m → Prints W k lines m)
            → Prints W n (line ∷ lines) m
        by true core p rest = peel n m line (core_lines lines) lines p core rest
        by false begin p rest = other n m line lines begin in_line.0 (rest n p)

    -- ---- the entries are read one by one

    -- the signature up to entry m is read, and nothing after it
    record IsReadTo (k : Bool) (text : List ℕ) (m : ℕ) : Type 0 where
      offset : ℕ
      names : List (List ℕ)
      held : Holds k text (first_entries W m) offset names
      ended : entry_from (first_entries W m) text offset ≡ Ok None

    -- a line that begins with `#` is passed over
    note-line : (line : List ℕ) → is_core line ≡ false → is_in_line line ≡ true → (cs : List ℕ) × (line ≡ 35 ∷ cs) × (is_in_line cs ≡ true)
    note-line [] begins in_line = absurd (true≢false begins)
    note-line (c ∷ cs) begins in_line = by (c == 35) refl begins
      where
        by : (b : Bool) → (c == 35) ≡ b → not b ≡ false → (ds : List ℕ) × (c ∷ cs ≡ 35 ∷ ds) × (is_in_line ds ≡ true)
        by true e f = (cs, ap (λ d. d ∷ cs) (eqb-true c 35 e), (and_parts (not (c == 10)) (is_in_line cs) in_line).1)
        by false e f = absurd (true≢false f)

    over-note : (S : Signature) (text before line rest : List ℕ) → is_core line ≡ false → is_in_line line ≡ true → text ≡ before ++ (line ++ 10 ∷ rest)
        → (text ≡ (before ++ (line ++ codes "\n")) ++ rest) × (entry_from S text (length before) ≡ entry_from S text (length (before ++ (line ++ codes "\n"))))
    over-note S text before line rest begins in_line is =
        let w = note-line line begins in_line in
        let feed : (line ++ codes "\n") ++ rest ≡ line ++ 10 ∷ rest = append_assoc line (codes "\n") rest in
        let first : text ≡ before ++ ((line ++ codes "\n") ++ rest) = is ∙ ap (λ l. before ++ l) (sym feed) in
        let whole : text ≡ (before ++ (line ++ codes "\n")) ++ rest = first ∙ sym (append_assoc before (line ++ codes "\n") rest) in
        let notes : AreNotes (line ++ codes "\n") = subst (λ l. AreNotes (l ++ codes "\n")) (sym w.1) (note w.0 [] w.2 no_note) in
        (whole, ap (λ t. entry_from S t (length before)) first ∙ passed S before (line ++ codes "\n") rest notes ∙ ap (λ t. entry_from S t (length (before ++ (line ++ codes "\n")))) (sym whole))

    -- the line of an entry is read
    over-entry : (n : ℕ) (U : Signature) (e : Entry) (text before line rest : List ℕ) → line ≡ entry_text U (length (first_entries W n).entries) e
        → EntryReadsBack (first_entries W n) U e → text ≡ before ++ (line ++ 10 ∷ rest)
        → (text ≡ (before ++ (line ++ codes "\n")) ++ rest)
        × (entry_from (first_entries W n) text (length before) ≡ Ok (Some (entry_shown (length (first_entries W n).entries) e, length (before ++ (line ++ codes "\n")))))
    over-entry n U e text before line rest written reads is =
        let T = first_entries W n in
        let feed : (line ++ codes "\n") ++ rest ≡ line ++ 10 ∷ rest = append_assoc line (codes "\n") rest in
        let first : text ≡ before ++ ((line ++ codes "\n") ++ rest) = is ∙ ap (λ l. before ++ l) (sym feed) in
        let same : line ++ codes "\n" ≡ entry_line U (length T.entries) e = ap (λ l. l ++ codes "\n") written in
        let written-out : text ≡ before ++ (entry_line U (length T.entries) e ++ rest) = first ∙ ap (λ l. before ++ (l ++ rest)) same in
        let to : length before + length (entry_line U (length T.entries) e) ≡ length (before ++ (line ++ codes "\n")) = ap (λ l. length before + length l) (sym same) ∙ sym (length-append before (line ++ codes "\n")) in (
          first ∙ sym (append_assoc before (line ++ codes "\n") rest),
          ap (λ t. entry_from T t (length before)) written-out ∙ back T U e before rest reads ∙ ap (λ o. Ok (Some (entry_shown (length T.entries) e, o))) to,
        )

    read-all : (k : Bool) (text : List ℕ) (n m : ℕ) (lines : List (List ℕ)) → Prints W n lines m → (before : List ℕ) → text ≡ before ++ text_of lines → (from : ℕ) (names : List (List ℕ))
        → Holds k text (first_entries W n) from names → entry_from (first_entries W n) text from ≡ entry_from (first_entries W n) text (length before) → IsReadTo k text m
    read-all k text _ _ _ (end n) before is from names held there = record {
      offset = from;
      names = names;
      held = held;
      ended = there ∙ (ends (first_entries W n) text (length before)).1 (subst AreNotes (sym (ap (λ t. drop (length before) t) (is ∙ append-nil before) ∙ drop_all (length before) before (omega arith))) no_note);
    }
    read-all k text _ _ _ (other n m line rest begins in_line p) before is from names held there =
        let over = over-note (first_entries W n) text before line (text_of rest) begins in_line is in
        read-all k text n m rest p (before ++ (line ++ codes "\n")) over.0 from names held (there ∙ over.1)
    read-all k text _ _ _ (shown n m U e line rest written at reads p) before is from names held there =
        let T = first_entries W n in
        let over = over-entry n U e text before line (text_of rest) written reads is in
        let to = length (before ++ (line ++ codes "\n")) in
        let raw = entry_shown (length T.entries) e in
        let next : pushed T e ≡ first_entries W (n + 1) = first_entries-push W n e at in
        let more-names = names ++ read_name T raw ∷ [] in
        let held-next : Holds k text (pushed T e) to more-names = entry T (pushed T e) from to names raw held (there ∙ over.1) (shown-as (length T.entries) e T refl) in
        read-all k text (n + 1) m rest p (before ++ (line ++ codes "\n")) over.0 to more-names (subst (λ S. Holds k text S to more-names) next held-next) refl

    -- the head is read
    head-read : (k : Bool) (lines : List (List ℕ)) → head_of k (text_of (head_lines k ++ lines)) ≡ Ok (k, length (text_of (head_lines k)))
    head-read true lines = first-of (has_head true (text_of (head_lines true ++ lines))) _ _ (has-its-head true (text_of lines))
    head-read false lines = first-of (has_head false (text_of (head_lines false ++ lines))) _ _ (has-its-head false (text_of lines))

    text-both : (k : Bool) (lines : List (List ℕ)) → text_of (head_lines k ++ lines) ≡ text_of (head_lines k) ++ text_of lines
    text-both true lines = refl
    text-both false lines = refl

    pub core-file : (k : Bool) → W.has_k ≡ k → IsPrefix (prelude k) W → (lines : List (List ℕ)) → AreInLine lines → Shows (prelude k) W (core_lines lines) → IsCoreFile k (text_of (head_lines k ++ lines)) W
    unfolding start
    core-file k flag begun lines in_line shows =
        let size-is : length (prelude k).entries ≡ start = ap (λ b. length (prelude b).entries) (sym flag) in
        let itself : IsPrefix W W = prefix_reflexive W in
        let printed = weave lines start (length W.entries) in_line (from-shows (prelude k) W (core_lines lines) size-is shows itself).0 in
        let cut : first_entries W start ≡ prelude k = ap (λ n. first_entries W n) (sym size-is) ∙ cut_to_prefix (prelude k) W begun in
        let whole : first_entries W (length W.entries) ≡ W = cut_to_prefix W W itself in
        let text = text_of (head_lines k ++ lines) in
        let from = length (text_of (head_lines k)) in
        let at-start : Holds k text (first_entries W start) from [] = subst (λ S. Holds k text S from []) (sym cut) (head k from (head-read k lines)) in
        let all = read-all k text start (length W.entries) lines printed (text_of (head_lines k)) (text-both k lines) from [] at-start refl in
        record {
          offset = all.offset;
          names = all.names;
          held = subst (λ S. Holds k text S all.offset all.names) whole all.held;
          ended = subst (λ S. entry_from S text all.offset ≡ Ok None) whole all.ended;
        }
