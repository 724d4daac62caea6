-- The names of an entry that is read from a core file hold no line feed, and an instance that is read is not in the signature yet.
use Rattle.std.proofs.Common.{◌≡◌, ℕ, zero, suc, ◌+◌, ◌-◌, Bool, true, false, not, List, [], ◌∷◌, ◌++◌, map, length, drop, take, Option, Some, None, Result, Ok, Err, codes, refl, sym, ap, subst, ◌∙◌, arith}
use Rattle.std.specs.Prelude.{◌==◌, ◌&&◌, ◌||◌, if◌then◌else◌, nat_le}
use Rattle.std.specs.List.{list_all, list_any}
use Rattle.std.specs.Str.{chars, is_utf8}
use Rattle.std.proofs.Math.Seq.{take-add}
use Rattle.std.proofs.lemmas.Bool.{and_parts, false≢true}
use Rattle.std.proofs.lemmas.Bool.Decides.{nat_tests}
use Rattle.std.proofs.lemmas.List.{map-append}
use Rattle.std.proofs.lemmas.Str.{encodes-chars, IsUtf8-from_is_utf8}
use Rattle.theory.specs.Terms.{top}
use Rattle.theory.specs.Signatures.{Signature}
use Rattle.core_sig.specs.Raw.{RawConstructor, raw_names}
use Rattle.core_text.specs.DeclaredNames.{may_declare, by_shape, is_generated, new_name, shape_by, shape_of}
use Rattle.surface_syntax.specs.Spelling.{piece}
use Rattle.surface_syntax.specs.declared.token.Piece.{Piece}
use Rattle.surface_syntax.specs.declared.token.Piece.TheVariants.{Gap, Found, Bad}
use Rattle.surface_syntax.specs.declared.token.TokenKind.TheVariants.{Plain, Dotted, Number, Keyword, Mark}
use Rattle.core_text.specs.EntryReading.{after_notes, shows_entry, shown_by, entry_at, next_entry, with_offset, entry_from}
use Rattle.core_sig.specs.Instances.{is_eliminator, is_axiom_k}
use Rattle.core_text.specs.LineReading.{whole_term, ended, definition_at, family_name, level_list, levels_left, identities_left, eliminator_at, axiom_k_line, after_item, collected, parameters_at, constructor_at, separated, next_constructor, constructors_at, family_after, family_at, line_at}
use Rattle.core_text.specs.Lines.{is_in_line, AreInLine}
use Rattle.core_text.specs.NameRuns.{are_name_chars, is_name_char, name_char_len, run_after, run_len, width}
use Rattle.core_text.specs.RawEntries.{RawEntry, RawFamilyOf, RawEliminator, RawAxiomK, RawDefinition}
use Rattle.core_text.specs.Reading.{Reading, wrong, first, and_then, after, past, begins, read_level, is_left}
use Rattle.core_text.specs.TermReading.{term_after}
use Rattle.core_text.specs.declared.stop.CoreTextStop.{CoreTextStop}
use Rattle.core_text.proofs.Feeds.{both}
use Rattle.core_text.proofs.Outcomes.{Ensures, ensures-then, ensures-if, ensures-past}
use Rattle.core_text.proofs.TermOutcomes.{IsLevel, read_level-within}
use Rattle.elab_session.specs.Adding.{has_instance}
use Rattle.elim.proofs.program_texts.RefusalsInLine.{join}
use Rattle.elim.proofs.program_texts.TokensInLine.{all-in, encodes-in, feed-continues}

-- Runs of characters of names.

feed-no-name : is_name_char 10 ≡ false
feed-no-name = ap (λ b. b || ((10 == 46) || (10 == 33))) feed-continues

chars-in : (bytes : List ℕ) → are_name_chars bytes ≡ true → is_in_line bytes ≡ true
chars-in bytes h =
    let parts = and_parts (is_utf8 bytes) (list_all is_name_char (chars bytes)) h in
    subst (λ b. is_in_line b ≡ true) (encodes-chars bytes (IsUtf8-from_is_utf8 bytes parts.0)) (encodes-in (chars bytes) (all-in is_name_char feed-no-name (chars bytes) parts.1))

first-in : (b : ℕ) (bytes : List ℕ) → is_in_line (take (name_char_len (b ∷ bytes)) (b ∷ bytes)) ≡ true
first-in b bytes = go (nat_le (width b) (length (b ∷ bytes)) && are_name_chars (take (width b) (b ∷ bytes))) refl
  where
    go : (c : Bool) → (nat_le (width b) (length (b ∷ bytes)) && are_name_chars (take (width b) (b ∷ bytes))) ≡ c → is_in_line (take (if c then width b else 0) (b ∷ bytes)) ≡ true
    go true e = chars-in (take (width b) (b ∷ bytes)) (and_parts (nat_le (width b) (length (b ∷ bytes))) (are_name_chars (take (width b) (b ∷ bytes))) e).1
    go false e = refl

run-in : (k : ℕ) (bytes : List ℕ) → is_in_line (take (run_after k bytes) (drop k bytes)) ≡ true
run-in k [] = refl
run-in (suc k) (b ∷ bytes) = run-in k bytes
run-in zero (b ∷ bytes) = go (name_char_len (b ∷ bytes)) (first-in b bytes) (λ n. run-in n bytes)
  where
    go : (n : ℕ) → is_in_line (take n (b ∷ bytes)) ≡ true → ((m : ℕ) → is_in_line (take (run_after m bytes) (drop m bytes)) ≡ true)
        → is_in_line (take (if n == 0 then 0 else n + run_after (n - 1) bytes) (b ∷ bytes)) ≡ true
    go zero h rec = refl
    go (suc n) h rec =
        let some : (suc n == 0) ≡ false = grind (arith, nat_tests) in
        let less : suc n - 1 ≡ n = omega arith in
        let parts : take (if suc n == 0 then 0 else suc n + run_after (suc n - 1) bytes) (b ∷ bytes) ≡ take (suc n) (b ∷ bytes) ++ take (run_after n bytes) (drop n bytes) =
        ap (λ c. take (if c then 0 else suc n + run_after (suc n - 1) bytes) (b ∷ bytes)) some ∙ ap (λ m. take (suc n + run_after m bytes) (b ∷ bytes)) less ∙ take-add (suc n) (run_after n bytes) (b ∷ bytes) in
        subst (λ x. is_in_line x ≡ true) (sym parts) (both (take (suc n) (b ∷ bytes)) (take (run_after n bytes) (drop n bytes)) h (rec n))

abbrev NameIn : List ℕ → List ℕ → Type 0
NameIn name r = is_in_line name ≡ true

either-has : {A : Type 0} (P : A → Type 0) (b : Bool) (x y : A) → P x → P y → P (if b then x else y)
either-has P true x y h k = h
either-has P false x y h k = k

-- of whatever shape a name is, it holds no line feed
shape-in : (allowed : Bool) (name rest : List ℕ) → is_in_line name ≡ true → Ensures NameIn (by_shape (shape_of name) allowed name rest)
shape-in allowed name rest h =
    either-has (λ s. Ensures NameIn (by_shape s allowed name rest)) (is_utf8 name) _ _ (by-piece (piece (chars name)) (chars name)) tt
  where
    declared : Ensures NameIn (if allowed then Ok (name, drop (length name) rest) else wrong rest)
    declared = ensures-if NameIn allowed (Ok (name, drop (length name) rest)) (wrong rest) (λ may. h) (λ e. tt)

    by-piece : (p : Piece) (cs : List ℕ) → Ensures NameIn (by_shape (shape_by p cs) allowed name rest)
    by-piece (Gap n) cs = tt
    by-piece Bad cs = tt
    by-piece (Found Number n) cs = tt
    by-piece (Found Keyword n) cs = tt
    by-piece (Found Plain n) cs = either-has (λ s. Ensures NameIn (by_shape s allowed name rest)) ((n == length cs) || is_generated (drop n cs)) _ _ declared tt
    by-piece (Found Dotted n) cs = either-has (λ s. Ensures NameIn (by_shape s allowed name rest)) (is_generated (drop n cs)) _ _ declared tt
    by-piece (Found Mark n) cs = either-has (λ s. Ensures NameIn (by_shape s allowed name rest)) (first cs == 95) _ _ tt tt

name-in : (S : Signature) (own : List ℕ) (found : List RawConstructor) (rest : List ℕ) → Ensures NameIn (new_name S own found rest)
name-in S own found rest = shape-in (may_declare S own found (take (run_len rest) rest)) (take (run_len rest) rest) rest (run-in 0 rest)

-- Lines.

-- the names that an entry brings
abbrev pub names_read : RawEntry → List (List ℕ)
names_read (RawFamilyOf raw) = raw_names raw
names_read (RawDefinition name type body) = name ∷ []
names_read _ = []

pub record IsRead (S : Signature) (raw : RawEntry) : Type 0 where
  pub missing : has_instance S raw ≡ false
  pub names : AreInLine (names_read raw)

abbrev Read : Signature → RawEntry → List ℕ → Type 0
Read S raw r = IsRead S raw

any-then : {A B : Type 0} (Q : B → List ℕ → Type 0) (m : Reading A) (next : A → List ℕ → Reading B) → ((a : A) (r : List ℕ) → Ensures Q (next a r)) → Ensures Q (and_then m next)
any-then Q (Ok p) next k = k p.0 p.1
any-then Q (Err e) next k = tt

any-past : {B : Type 0} (Q : B → List ℕ → Type 0) (word rest : List ℕ) (next : List ℕ → Reading B) → ((r : List ℕ) → Ensures Q (next r)) → Ensures Q (after (past word rest) next)
any-past Q word rest next k = ensures-past Q word rest next (λ r is. k r)

ended-read : (S : Signature) (raw : RawEntry) (rest : List ℕ) → IsRead S raw → Ensures (Read S) (ended raw rest)
ended-read S raw rest is = any-past (Read S) (codes "\n") rest (λ end. Ok (raw, end)) (λ r. is)

definition-read : (S : Signature) (rest : List ℕ) → Ensures (Read S) (definition_at S [] rest)
definition-read S rest =
    ensures-then NameIn (Read S) (new_name S [] [] rest) _ (name-in S [] [] rest)
    (λ name r1 named. any-then (Read S) (term_after (whole_term S []) (codes " : ") 0 r1) _
    (λ type r2. any-then (Read S) (term_after (whole_term S []) (codes " = ") 0 r2) _
    (λ body r3. ended-read S (RawDefinition name type body) r3 (record { missing = refl; names = (named, tt) }))))

-- a level that is left is one of those that were asked for
left-at : (left : ℕ → Bool) (n k v : ℕ) → is_left (level_list left n k) v ≡ true → left (n + v) ≡ true
left-at left n zero v e = absurd (false≢true e)
left-at left n (suc k) zero e = let same : n ≡ n + 0 = omega arith in ap left (sym same) ∙ e
left-at left n (suc k) (suc v) e = let same : n + 1 + v ≡ n + suc v = omega arith in ap left (sym same) ∙ left-at left (n + 1) k v e

left-first : (left : ℕ → Bool) (k v : ℕ) → is_left (level_list left 0 k) v ≡ true → left v ≡ true
left-first left k v e = let same : 0 + v ≡ v = omega arith in ap left (sym same) ∙ left-at left 0 k v e

denied : (b : Bool) → not b ≡ true → b ≡ false
denied true e = absurd (false≢true e)
denied false e = refl

level-then : {B : Type 0} (Q : B → List ℕ → Type 0) (levels : List Bool) (rest : List ℕ) (next : ℕ → List ℕ → Reading B) → ((m : ℕ) (r : List ℕ) → is_left levels m ≡ true → Ensures Q (next m r)) →
    Ensures Q (and_then (read_level levels rest) next)
level-then Q levels rest next k = ensures-then (IsLevel levels (length rest)) Q (read_level levels rest) next (read_level-within levels (length rest) rest (omega arith)) (λ m r level. k m r level.0)

eliminator-read : (S : Signature) (rest : List ℕ) → Ensures (Read S) (eliminator_at S rest)
unfolding levels_left
eliminator-read S rest =
    any-then (Read S) (family_name S rest) _
    (λ n r1. any-past (Read S) (codes " ") r1 _
    (λ r2. level-then (Read S) (level_list (λ k. not (list_any (is_eliminator n k) S.entries)) 0 top) r2 _
    (λ m r3 left. ended-read S (RawEliminator n m) r3 (record {
      missing = denied (list_any (is_eliminator n m) S.entries) (left-first (λ k. not (list_any (is_eliminator n k) S.entries)) top m left);
      names = tt;
    }))))

axiom_k-read : (S : Signature) (rest : List ℕ) → Ensures (Read S) (axiom_k_line S rest)
unfolding levels_left
axiom_k-read S rest =
    any-then (Read S) (read_level (identities_left S) rest) _
    (λ i r1. any-past (Read S) (codes " ") r1 _
    (λ r2. level-then (Read S) (level_list (λ k. not (list_any (is_axiom_k i k) S.entries)) 0 top) r2 _
    (λ m r3 left. ended-read S (RawAxiomK i m) r3 (record {
      missing = denied (list_any (is_axiom_k i m) S.entries) (left-first (λ k. not (list_any (is_axiom_k i k) S.entries)) top m left);
      names = tt;
    }))))

-- Constructors.

abbrev named : List RawConstructor → List (List ℕ)
named found = map (λ c. c.name) found

abbrev AreNamed : List RawConstructor → List ℕ → Type 0
AreNamed found r = AreInLine (named found)

abbrev Next : Option RawConstructor → List ℕ → Type 0
Next None r = Unit {0}
Next (Some c) r = is_in_line c.name ≡ true

named-more : (found : List RawConstructor) (c : RawConstructor) → AreInLine (named found) → is_in_line c.name ≡ true → AreInLine (named (found ++ c ∷ []))
named-more found c h k = subst AreInLine (sym (map-append (λ (x : RawConstructor). x.name) found (c ∷ []))) (join (named found) (c.name ∷ []) h (k, tt))

collected-in : (next : List RawConstructor → List ℕ → Reading (Option RawConstructor)) → ((found : List RawConstructor) (rest : List ℕ) → Ensures Next (next found rest)) →
    (k : ℕ) (found : List RawConstructor) (rest : List ℕ) → AreInLine (named found) → Ensures AreNamed (collected next k found rest)
collected-in next step zero found rest h = tt
collected-in next step (suc k) found rest h =
    ensures-then Next AreNamed (next found rest) (after_item (collected next k) found) (step found rest) (λ o r is. item (λ xs r g. collected-in next step k xs r g) o r is)
  where
    item : ((xs : List RawConstructor) (r : List ℕ) → AreInLine (named xs) → Ensures AreNamed (collected next k xs r)) → (o : Option RawConstructor) (r : List ℕ) → Next o r
        → Ensures AreNamed (after_item (collected next k) found o r)
    item others None r new = h
    item others (Some c) r new = others (found ++ c ∷ []) r (named-more found c h new)

constructor-in : (S : Signature) (own : List ℕ) (p : ℕ) (found : List RawConstructor) (rest : List ℕ) → Ensures Next (constructor_at S own p found rest)
constructor-in S own p found rest =
    ensures-then NameIn Next (new_name S own found rest) _ (name-in S own found rest)
    (λ name r named. any-then Next (term_after (whole_term S own) (codes " : ") p r) _ (λ type end. named))

next-in : (S : Signature) (own : List ℕ) (p : ℕ) (found : List RawConstructor) (rest : List ℕ) → Ensures Next (next_constructor S own p found rest)
next-in S own p found rest =
    any-past Next (codes " ") rest _
    (λ r. ensures-if Next (first r == 125) (Ok (None, drop 1 r)) (after (separated found r) (constructor_at S own p found)) (λ e. tt) (λ e. apart found r))
  where
    apart : (before : List RawConstructor) (r : List ℕ) → Ensures Next (after (separated before r) (constructor_at S own p found))
    apart [] r = constructor-in S own p found r
    apart (c ∷ before) r = any-past Next (codes "; ") r (constructor_at S own p found) (λ r2. constructor-in S own p found r2)

family-read : (S : Signature) (rest : List ℕ) → Ensures (Read S) (family_at S [] rest)
family-read S rest =
    ensures-then NameIn (Read S) (new_name S [] [] rest) _ (name-in S [] [] rest)
    (λ name r1 own. any-then (Read S) (parameters_at S [] r1) _
    (λ parameters r2. any-then (Read S) (whole_term S [] (length parameters) r2) _
    (λ type r3. any-past (Read S) (codes " {") r3 (family_after S name parameters type)
    (λ r4. ensures-then AreNamed (Read S) (constructors_at S name (length parameters) r4) _
    (collected-in (next_constructor S name (length parameters)) (next-in S name (length parameters)) (length r4) [] r4 tt)
    (λ constructors end list. ended-read S (RawFamilyOf (record { name = name; parameters = parameters; type = type; constructors = constructors })) end
    (record { missing = refl; names = (own, list) }))))))

line-read : (S : Signature) (rest : List ℕ) → Ensures (Read S) (line_at S [] rest)
line-read S rest =
    ensures-if (Read S) (begins (codes "de") rest) (after (past (codes "def ") rest) (definition_at S [])) _
    (λ e. any-past (Read S) (codes "def ") rest (definition_at S []) (definition-read S))
    (λ e. ensures-if (Read S) (first rest == 101) (after (past (codes "elim ") rest) (eliminator_at S)) _
    (λ e. any-past (Read S) (codes "elim ") rest (eliminator_at S) (eliminator-read S))
    (λ e. ensures-if (Read S) (S.has_k && (first rest == 97)) (after (past (codes "axiomk ") rest) (axiom_k_line S)) _
    (λ e. any-past (Read S) (codes "axiomk ") rest (axiom_k_line S) (axiom_k-read S))
    (λ e. any-past (Read S) (codes "data ") rest (family_at S []) (family-read S))))

-- The next entry.

abbrev NextEntry : Signature → Option RawEntry → List ℕ → Type 0
NextEntry S None r = Unit {0}
NextEntry S (Some raw) r = IsRead S raw

shown-read : (S : Signature) (n : ℕ) (line : List ℕ) (m : Reading RawEntry) → Ensures (Read S) m → Ensures (NextEntry S) (shown_by n line m)
shown-read S n line (Ok p) read = ensures-if (NextEntry S) (shows_entry n p.0) (Ok (Some p.0, p.1)) (wrong line) (λ e. read) (λ e. tt)
shown-read S n line (Err e) read = tt

entry-read : (S : Signature) (rest : List ℕ) → Ensures (NextEntry S) (entry_at S rest)
entry-read S [] = tt
entry-read S (b ∷ rest) = shown-read S (length S.entries) (b ∷ rest) (line_at S [] (b ∷ rest)) (line-read S (b ∷ rest))

next-read : (S : Signature) (rest : List ℕ) → Ensures (NextEntry S) (next_entry S rest)
next-read S rest =
    elim (after_notes false rest) as (λ m. Ensures (NextEntry S) (after m (entry_at S))) [
      | Ok r ↦ entry-read S r
      | Err h ↦ tt
    ]

pub is-read : (S : Signature) (text : List ℕ) (from : ℕ) (raw : RawEntry) (to : ℕ) → entry_from S text from ≡ Ok (Some (raw, to)) → IsRead S raw
is-read S text from raw to is = go (next_entry S (drop from text)) (next-read S (drop from text)) is
  where
    go : (m : Reading (Option RawEntry)) → Ensures (NextEntry S) m → with_offset (length text) m ≡ Ok (Some (raw, to)) → IsRead S raw
    go (Ok (None, r)) read same = absurd (cc)
    go (Ok (Some other, r)) read same =
        let pair : (other, length text - length r) ≡ (raw, to) = pair-is same in subst (IsRead S) (ap (λ p. p.0) pair) read
      where
        pair-is : {a b : RawEntry × ℕ} → ◌≡◌ {A = Result (Option (RawEntry × ℕ)) CoreTextStop} (Ok (Some a)) (Ok (Some b)) → a ≡ b
        pair-is eq = cc
    go (Err h) read same = absurd (cc)
