-- Texts that agree are read alike: lines.
use Rattle.std.proofs.Common.{◌≡◌, inr, ℕ, zero, suc, ◌+◌, ◌-◌, ◌<◌, ◌≤◌, Bool, true, false, List, [], ◌∷◌, ◌++◌, length, drop, refl, sym, ap, ap₂, ◌∙◌, subst, arith}
use Rattle.std.specs.Prelude.{◌==◌, ◌&&◌, if◌then◌else◌, Ok, Err, Option, Some, None, codes}
use Rattle.std.proofs.lemmas.Bool.Decides.{nat_tests}
use Rattle.theory.specs.Terms.{Term}
use Rattle.theory.specs.Signatures.{Signature}
use Rattle.core_sig.specs.Raw.{RawConstructor}
use Rattle.core_text.specs.DeclaredNames.{new_name}
use Rattle.core_text.specs.Heads.{shared}
use Rattle.core_text.specs.LineReading.{nested, whole_term, ended, definition_at, family_name, levels_left, identities_left, eliminator_at, axiom_k_line, after_item, collected, parameter_at, no_parameter, next_parameter, parameters_at, constructor_at, separated, next_constructor, constructors_at, family_after, family_at, line_at}
use Rattle.core_text.specs.RawEntries.{RawEntry, RawFamilyOf, RawEliminator, RawAxiomK, RawDefinition}
use Rattle.core_text.specs.Reading.{Reading, wrong, first, and_then, after, past, begins, read_level}
use Rattle.core_text.specs.SymbolLookup.{symbol}
use Rattle.core_text.specs.TermReading.{term_after}
use Rattle.core_text.specs.declared.halt.Halt.TheVariants.{Memory, Nested, Wrong}
use Rattle.core_text.specs.declared.instances.Series.TheVariants.{Elim, AxiomK}
use Rattle.core_text.proofs.Agreement.{Reread, Alike, StartsAt, MovesAt, refused-map, reread-same, reread-then, reread-next, alike-then}
use Rattle.core_text.proofs.Characters.{Same, first-same}
use Rattle.core_text.proofs.NewNamesAgree.{alike-new, alike-family}
use Rattle.core_text.proofs.NumbersAgree.{alike-level}
use Rattle.core_text.proofs.NumbersBack.{begins-word}
use Rattle.core_text.proofs.TermsAgree.{alike-read, begins-front}
use Rattle.core_text.proofs.WordsAgree.{reread-shift, reread-first, reread-byte, alike-word, part-starts, word-starts, word-moves, alike-here}
use Rattle.core_text.proofs.WordsRead.{word-is}

-- ---- items that are read one after the other

module _ {A : Type 0} (next : List A → List ℕ → Reading (Option A)) (none : (found : List A) → next found [] ≡ wrong []) (moves : (found : List A) (rest : List ℕ) → MovesAt rest (next found rest)) where
  -- each number of bytes that is not less than there are leaves room for all
  collected-room : (k m : ℕ) (found : List A) (rest : List ℕ) → length rest ≤ k → length rest ≤ m → collected next k found rest ≡ collected next m found rest
  collected-room zero zero found rest le more = refl
  collected-room zero (suc m) found [] le more = sym (ap (λ r. and_then r (after_item (collected next m) found)) (none found))
  collected-room zero (suc m) found (b ∷ rest) le more = absurd (omega arith)
  collected-room (suc k) zero found [] le more = ap (λ r. and_then r (after_item (collected next k) found)) (none found)
  collected-room (suc k) zero found (b ∷ rest) le more = absurd (omega arith)
  collected-room (suc k) (suc m) found [] le more =
      ap (λ r. and_then r (after_item (collected next k) found)) (none found) ∙ sym (ap (λ r. and_then r (after_item (collected next m) found)) (none found))
  collected-room (suc k) (suc m) found (b ∷ rest) le more =
      by (λ others r one two. collected-room k m others r one two) (next found (b ∷ rest)) (moves found (b ∷ rest))
    where
      by : ((others : List A) (r : List ℕ) → length r ≤ k → length r ≤ m → collected next k others r ≡ collected next m others r) → (item : Reading (Option A)) → MovesAt (b ∷ rest) item → and_then item (after_item (collected next k) found) ≡ and_then item (after_item (collected next m) found)
      by same (Ok (Some a, r)) moved = same (found ++ a ∷ []) r (omega arith) (omega arith)
      by same (Ok (None, r)) moved = refl
      by same (Err e) moved = refl

  -- all items of the bytes
  abbrev all_of : List A → List ℕ → Reading (List A)
  all_of found rest = collected next (length rest) found rest

  all-step : (found : List A) (rest : List ℕ) → and_then (next found rest) (after_item all_of found) ≡ all_of found rest
  all-step found [] = ap (λ r. and_then r (after_item all_of found)) (none found)
  all-step found (b ∷ rest) = by (next found (b ∷ rest)) (moves found (b ∷ rest))
    where
      by : (item : Reading (Option A)) → MovesAt (b ∷ rest) item → and_then item (after_item all_of found) ≡ and_then item (after_item (collected next (length rest)) found)
      by (Ok (Some a, r)) moved = collected-room (length r) (length rest) (found ++ a ∷ []) r (omega arith) (omega arith)
      by (Ok (None, r)) moved = refl
      by (Err e) moved = refl

  moved-from : (found : List A) (rest : List ℕ) (o : Option A) (r : List ℕ) → next found rest ≡ Ok (o, r) → length r < length rest
  moved-from found rest o r e = subst (MovesAt rest) e (moves found rest)

  -- where it holds of shorter texts
  whole-step : ((found : List A) → Alike false (next found)) → (found : List A) (rest : List ℕ) → ((others : List A) (r : List ℕ) → length r < length rest → Reread false (all_of others) r (all_of others r)) → Reread false (all_of found) rest (all_of found rest)
  whole-step alike found rest shorter =
      subst (Reread false (all_of found) rest) (all-step found rest)
      (reread-same false (λ x. and_then (next found x) (after_item all_of found)) (all_of found) rest (and_then (next found rest) (after_item all_of found)) (all-step found)
      (reread-next false (next found) (after_item all_of found) rest ((alike found).reread rest) (λ o r e. by o r (moved-from found rest o r e))))
    where
      by : (o : Option A) (r : List ℕ) → length r < length rest → Reread false (after_item all_of found o) r (after_item all_of found o r)
      by None r less = (alike-here false found).reread r
      by (Some a) r less = shorter (found ++ a ∷ []) r less

  -- fuel bounds the number of bytes
  whole-reread : ((found : List A) → Alike false (next found)) → (fuel : ℕ) (found : List A) (rest : List ℕ) → length rest ≤ fuel → Reread false (all_of found) rest (all_of found rest)
  whole-reread alike zero found rest le = whole-step alike found rest (λ others r less. absurd (omega arith))
  whole-reread alike (suc fuel) found rest le = whole-step alike found rest (λ others r less. whole-reread alike fuel others r (omega arith))

  all-starts : ((found : List A) (h : Option A → List ℕ → Reading (List A)) (r : List ℕ) → StartsAt r (and_then (next found r) h)) → (found : List A) (r : List ℕ) → StartsAt r (all_of found r)
  all-starts starts found r = subst (StartsAt r) (all-step found r) (starts found (after_item all_of found) r)

  reread-step : ((found : List A) → Alike true (next found)) → ((found : List A) (h : Option A → List ℕ → Reading (List A)) (r : List ℕ) → StartsAt r (and_then (next found r) h)) → (found : List A) (rest : List ℕ) → ((others : List A) (r : List ℕ) → length r < length rest → Reread true (all_of others) r (all_of others r)) → Reread true (all_of found) rest (all_of found rest)
  reread-step alike starts found rest shorter =
      subst (Reread true (all_of found) rest) (all-step found rest)
      (reread-same true (λ x. and_then (next found x) (after_item all_of found)) (all_of found) rest (and_then (next found rest) (after_item all_of found)) (all-step found)
      (reread-then true (next found) (after_item all_of found) rest ((alike found).reread rest) (λ o r e. (by o r (moved-from found rest o r e), begin o r, λ no. absurd (cc)))))
    where
      begin : (o : Option A) (r : List ℕ) → StartsAt r (after_item all_of found o r)
      begin None r = inr refl
      begin (Some a) r = all-starts starts (found ++ a ∷ []) r

      by : (o : Option A) (r : List ℕ) → length r < length rest → Reread true (after_item all_of found o) r (after_item all_of found o r)
      by None r less = (alike-here true found).reread r
      by (Some a) r less = shorter (found ++ a ∷ []) r less

  all-reread : ((found : List A) → Alike true (next found)) → ((found : List A) (h : Option A → List ℕ → Reading (List A)) (r : List ℕ) → StartsAt r (and_then (next found r) h)) → (fuel : ℕ) (found : List A) (rest : List ℕ) → length rest ≤ fuel → Reread true (all_of found) rest (all_of found rest)
  all-reread alike starts zero found rest le = reread-step alike starts found rest (λ others r less. absurd (omega arith))
  all-reread alike starts (suc fuel) found rest le = reread-step alike starts found rest (λ others r less. all-reread alike starts fuel others r (omega arith))

-- ---- the parts of lines

alike-ended : (e : RawEntry) → Alike true (ended e)
alike-ended e = alike-word true (codes "\n") (λ end. Ok (e, end)) (alike-here true e)

ended-starts : (e : RawEntry) (r : List ℕ) → StartsAt r (ended e r)
ended-starts e r = word-starts 10 [] (λ end. Ok (e, end)) r (omega arith)

module _ (S : Signature) (own : List ℕ) where
  alike-whole : (n : ℕ) → Alike true (whole_term S own n)
  alike-whole n = alike-read (symbol S own) nested n

  -- a whole term after a word, and what comes after it
  alike-part : {B : Type 0} (word : List ℕ) (n : ℕ) (h : Term → List ℕ → Reading B) → ((t : Term) → Alike true (h t)) → ((t : Term) (r : List ℕ) → StartsAt r (h t r)) → Alike true (λ r. and_then (term_after (whole_term S own) word n r) h)
  alike-part word n h next starts =
      alike-then true (term_after (whole_term S own) word n) h (alike-word true word (whole_term S own n) (alike-whole n)) next starts (λ t r no. absurd (cc))

  after-starts : {B : Type 0} (b : ℕ) (word : List ℕ) (n : ℕ) (h : Term → List ℕ → Reading B) (r : List ℕ) → b < 128 → StartsAt r (and_then (term_after (whole_term S own) (b ∷ word) n r) h)
  after-starts b word n h r low = part-starts b word (λ m. and_then (after m (whole_term S own n)) h) r low (λ e. refl)

  alike-definition : Alike true (definition_at S own)
  alike-definition =
      alike-then true (new_name S own [])
      (λ name r1. and_then (term_after (whole_term S own) (codes " : ") 0 r1) (λ type r2. and_then (term_after (whole_term S own) (codes " = ") 0 r2) (λ body r3. ended (RawDefinition name type body) r3)))
      (alike-new S own [])
      (λ name. alike-part (codes " : ") 0 (λ type r2. and_then (term_after (whole_term S own) (codes " = ") 0 r2) (λ body r3. ended (RawDefinition name type body) r3))
      (λ type. alike-part (codes " = ") 0 (λ body r3. ended (RawDefinition name type body) r3) (λ body. alike-ended (RawDefinition name type body)) (λ body r. ended-starts (RawDefinition name type body) r))
      (λ type r. after-starts 32 (61 ∷ 32 ∷ []) 0 (λ body r3. ended (RawDefinition name type body) r3) r (omega arith)))
      (λ name r. after-starts 32 (58 ∷ 32 ∷ []) 0 (λ type r2. and_then (term_after (whole_term S own) (codes " = ") 0 r2) (λ body r3. ended (RawDefinition name type body) r3)) r (omega arith))
      (λ name r no. absurd (cc))

  -- ---- parameters

  abbrev closing : Term → List ℕ → Reading (Option Term)
  closing a r = after (past (codes ")") r) (λ end. Ok (Some a, end))

  alike-parameter : (n : ℕ) → Alike false (parameter_at S own n)
  alike-parameter n =
      alike-then false (whole_term S own n) closing (alike-whole n)
      (λ a. alike-word false (codes ")") (λ end. Ok (Some a, end)) (alike-here false (Some a)))
      (λ a r. word-starts 41 [] (λ end. Ok (Some a, end)) r (omega arith))
      (λ a r so. word-moves false 41 [] (λ end. Ok (Some a, end)) r (λ end. (alike-here false (Some a)).reread end))

  alike-no-parameter : Alike false no_parameter
  alike-no-parameter = alike-word false (codes ": ") (λ end. Ok (None, end)) (alike-here false None)

  no-parameter-moves : (r : List ℕ) → MovesAt r (no_parameter r)
  no-parameter-moves r = word-moves false 58 (32 ∷ []) (λ end. Ok (None, end)) r (λ end. (alike-here {A = Option Term} false None).reread end)

  -- after the space
  abbrev parameter_or_end : ℕ → List ℕ → Reading (Option Term)
  parameter_or_end n r = if first r == 40 then parameter_at S own n (drop 1 r) else no_parameter r

  parameter-reread : (n : ℕ) (rest : List ℕ) → Reread false (parameter_or_end n) rest (parameter_or_end n rest)
  parameter-reread n rest =
      reread-byte false 40 (parameter_at S own n) no_parameter rest (omega arith) (λ r is. (alike-parameter n).reread r) (λ e. alike-no-parameter.reread rest) (λ so. no-parameter-moves rest)

  alike-next-parameter : (n : ℕ) → Alike false (next_parameter S own n)
  alike-next-parameter n = alike-word false (codes " ") (parameter_or_end n) (record { reread = parameter-reread n })

  abbrev next_of : List Term → List ℕ → Reading (Option Term)
  next_of found r = next_parameter S own (length found) r

  next_of-moves : (found : List Term) (r : List ℕ) → MovesAt r (next_of found r)
  next_of-moves found r = word-moves false 32 [] (parameter_or_end (length found)) r (λ x. parameter-reread (length found) x)

  alike-parameters : Alike false (parameters_at S own)
  alike-parameters = record {
    reread = λ rest. whole-reread next_of (λ found. refl) next_of-moves (λ found. alike-next-parameter (length found)) (length rest) [] rest (omega arith);
  }

  -- a reading that begins with the parameters begins with a space
  parameters-start : {B : Type 0} (h : List Term → List ℕ → Reading B) (r : List ℕ) → StartsAt r (and_then (parameters_at S own r) h)
  parameters-start h r =
      subst (λ m. StartsAt r (and_then m h)) (all-step next_of (λ found. refl) next_of-moves [] r)
      (part-starts 32 [] (λ m. and_then (and_then (after m (parameter_or_end 0)) (after_item (λ found x. collected next_of (length x) found x) [])) h) r (omega arith) (λ e. refl))

  -- ---- constructors

  module _ (p : ℕ) where
    abbrev shown_as : List ℕ → Term → List ℕ → Reading (Option RawConstructor)
    shown_as name type end = Ok (Some (record { name = name; type = type }), end)

    alike-constructor : (found : List RawConstructor) → Alike true (constructor_at S own p found)
    alike-constructor found =
        alike-then true (new_name S own found) (λ name r. and_then (term_after (whole_term S own) (codes " : ") p r) (shown_as name)) (alike-new S own found)
        (λ name. alike-part (codes " : ") p (shown_as name) (λ type. alike-here true (Some (record { name = name; type = type }))) (λ type r. inr refl))
        (λ name r. after-starts 32 (58 ∷ 32 ∷ []) p (shown_as name) r (omega arith)) (λ name r no. absurd (cc))

    -- after those found
    alike-separated : (before found : List RawConstructor) → Alike true (λ r. after (separated before r) (constructor_at S own p found))
    alike-separated [] found = alike-constructor found
    alike-separated (c ∷ before) found = alike-word true (codes "; ") (constructor_at S own p found) (alike-constructor found)

    -- after the space
    abbrev constructor_or_end : List RawConstructor → List ℕ → Reading (Option RawConstructor)
    constructor_or_end found r = if first r == 125 then Ok (None, drop 1 r) else after (separated found r) (constructor_at S own p found)

    constructor-reread : (found : List RawConstructor) (rest : List ℕ) → Reread true (constructor_or_end found) rest (constructor_or_end found rest)
    constructor-reread found rest =
        reread-byte true 125 (λ x. Ok (None, x)) (λ x. after (separated found x) (constructor_at S own p found)) rest (omega arith)
        (λ r is. (alike-here true None).reread r) (λ e. (alike-separated found found).reread rest) (λ no. absurd (cc))

    alike-next-constructor : (found : List RawConstructor) → Alike true (next_constructor S own p found)
    alike-next-constructor found = alike-word true (codes " ") (constructor_or_end found) (record { reread = constructor-reread found })

    next-starts : {B : Type 0} (found : List RawConstructor) (h : Option RawConstructor → List ℕ → Reading B) (r : List ℕ) → StartsAt r (and_then (next_constructor S own p found r) h)
    next-starts found h r = part-starts 32 [] (λ m. and_then (after m (constructor_or_end found)) h) r (omega arith) (λ e. refl)

    next-moves : (found : List RawConstructor) (r : List ℕ) → MovesAt r (next_constructor S own p found r)
    next-moves found r = word-moves true 32 [] (constructor_or_end found) r (λ x. constructor-reread found x)

    alike-constructors : Alike true (constructors_at S own p)
    alike-constructors = record {
      reread = λ rest. all-reread (next_constructor S own p) (λ found. refl) next-moves alike-next-constructor (λ found h r. next-starts found h r) (length rest) [] rest (omega arith);
    }

-- ---- families

alike-family-past : (S : Signature) (name : List ℕ) (parameters : List Term) (type : Term) → Alike true (family_after S name parameters type)
alike-family-past S name parameters type =
    alike-then true (constructors_at S name (length parameters)) (λ constructors end. ended (entry constructors) end) (alike-constructors S name (length parameters))
    (λ constructors. alike-ended (entry constructors)) (λ constructors r. ended-starts (entry constructors) r) (λ constructors r no. absurd (cc))
  where
    entry : List RawConstructor → RawEntry
    entry constructors = RawFamilyOf (record { name = name; parameters = parameters; type = type; constructors = constructors })

module _ (S : Signature) (own : List ℕ) where
  -- after the name and the parameters
  abbrev type_and_more : List ℕ → List Term → List ℕ → Reading RawEntry
  type_and_more name parameters r2 =
      and_then (whole_term S own (length parameters) r2) (λ type r3. after (past (codes " {") r3) (family_after S name parameters type))

  alike-type : (name : List ℕ) (parameters : List Term) → Alike true (type_and_more name parameters)
  alike-type name parameters =
      alike-then true (whole_term S own (length parameters)) (λ type r3. after (past (codes " {") r3) (family_after S name parameters type)) (alike-whole S own (length parameters))
      (λ type. alike-word true (codes " {") (family_after S name parameters type) (alike-family-past S name parameters type))
      (λ type r. word-starts 32 (123 ∷ []) (family_after S name parameters type) r (omega arith)) (λ type r no. absurd (cc))

  alike-family-at : Alike true (family_at S own)
  alike-family-at =
      alike-then true (new_name S own []) (λ name r1. and_then (parameters_at S own r1) (type_and_more name)) (alike-new S own [])
      (λ name. record { reread = λ r. reread-next true (parameters_at S own) (type_and_more name) r ((alike-parameters S own).reread r) (λ parameters r2 e. (alike-type name parameters).reread r2) })
      (λ name r. parameters-start S own (type_and_more name) r) (λ name r no. absurd (cc))

-- ---- instances

alike-eliminator : (S : Signature) → Alike true (eliminator_at S)
alike-eliminator S =
    alike-then true (family_name S) (λ n r1. after (past (codes " ") r1) (λ r2. and_then (read_level (levels_left S (Elim n)) r2) (λ m r3. ended (RawEliminator n m) r3))) (alike-family S)
    (λ n. alike-word true (codes " ") (λ r2. and_then (read_level (levels_left S (Elim n)) r2) (λ m r3. ended (RawEliminator n m) r3))
    (alike-then true (read_level (levels_left S (Elim n))) (λ m r3. ended (RawEliminator n m) r3) (alike-level (levels_left S (Elim n)))
    (λ m. alike-ended (RawEliminator n m)) (λ m r. ended-starts (RawEliminator n m) r) (λ m r no. absurd (cc))))
    (λ n r. word-starts 32 [] (λ r2. and_then (read_level (levels_left S (Elim n)) r2) (λ m r3. ended (RawEliminator n m) r3)) r (omega arith)) (λ n r no. absurd (cc))

alike-axiom-k : (S : Signature) → Alike true (axiom_k_line S)
alike-axiom-k S =
    alike-then true (read_level (identities_left S)) (λ i r1. after (past (codes " ") r1) (λ r2. and_then (read_level (levels_left S (AxiomK i)) r2) (λ m r3. ended (RawAxiomK i m) r3))) (alike-level (identities_left S))
    (λ i. alike-word true (codes " ") (λ r2. and_then (read_level (levels_left S (AxiomK i)) r2) (λ m r3. ended (RawAxiomK i m) r3))
    (alike-then true (read_level (levels_left S (AxiomK i))) (λ m r3. ended (RawAxiomK i m) r3) (alike-level (levels_left S (AxiomK i)))
    (λ m. alike-ended (RawAxiomK i m)) (λ m r. ended-starts (RawAxiomK i m) r) (λ m r no. absurd (cc))))
    (λ i r. word-starts 32 [] (λ r2. and_then (read_level (levels_left S (AxiomK i)) r2) (λ m r3. ended (RawAxiomK i m) r3)) r (omega arith)) (λ i r no. absurd (cc))

-- ---- lines, by their first bytes

two : (s : ℕ) → (1 + (1 + s) == 4) ≡ (s == 2)
two s = by (s == 2) refl
  where
    by : (b : Bool) → (s == 2) ≡ b → (1 + (1 + s) == 4) ≡ b
    by true e = grind (arith, nat_tests)
    by false e = grind (arith, nat_tests)

-- after the letters that begin a definition
definition-word : (y : List ℕ) → past (codes "def ") (100 ∷ 101 ∷ y) ≡ past (codes "f ") y
definition-word y =
    let s = shared y (codes "f ") in
    let left : length (100 ∷ 101 ∷ y) - (1 + (1 + s)) ≡ length y - s = omega arith in
    ap₂ (λ b n. if b then Ok (drop 2 y) else Err (Wrong n)) (two s) left

shared-nothing : (y : List ℕ) → shared y [] ≡ 0
shared-nothing [] = refl
shared-nothing (b ∷ y) = refl

shared-one : (c : ℕ) (y : List ℕ) → 0 < c → shared y (c ∷ []) ≡ (if first y == c then 1 else 0)
shared-one c [] some = let other : (0 == c) ≡ false = grind (arith, nat_tests) in sym (ap (λ b. if b then 1 else 0) other)
shared-one c (b ∷ y) some = ap (λ k. if b == c then 1 + k else 0) (shared-nothing y)

-- a word of two letters begins there by the first and the next byte
begins-two : (b : ℕ) (y r : List ℕ) → first y ≡ first r → begins (codes "de") (b ∷ y) ≡ begins (codes "de") (b ∷ r)
begins-two b y r same =
    ap (λ k. (if b == 100 then 1 + k else 0) == 2) (shared-one 101 y (omega arith) ∙ (ap (λ x. if x == 101 then 1 else 0) same ∙ sym (shared-one 101 r (omega arith))))

module _ (S : Signature) (own : List ℕ) where
  abbrev data_line : List ℕ → Reading RawEntry
  data_line x = after (past (codes "data ") x) (family_at S own)

  abbrev k_line : List ℕ → Reading RawEntry
  k_line x = after (past (codes "axiomk ") x) (axiom_k_line S)

  abbrev k_or_data : Bool → List ℕ → Reading RawEntry
  k_or_data k x = if k && (first x == 97) then k_line x else data_line x

  -- a line that is no definition
  abbrev other_line : Bool → List ℕ → Reading RawEntry
  other_line k x = if first x == 101 then after (past (codes "elim ") x) (eliminator_at S) else k_or_data k x

  alike-data : Alike true data_line
  alike-data = alike-word true (codes "data ") (family_at S own) (alike-family-at S own)

  k-reread : (k : Bool) (rest : List ℕ) → Reread true (k_or_data k) rest (k_or_data k rest)
  k-reread true rest =
      reread-first true 97 k_line data_line rest (λ e. (alike-word true (codes "axiomk ") (axiom_k_line S) (alike-axiom-k S)).reread rest) (λ e. alike-data.reread rest) (λ no. absurd (cc)) (λ no. absurd (cc))
  k-reread false rest = alike-data.reread rest

  other-reread : (k : Bool) (rest : List ℕ) → Reread true (other_line k) rest (other_line k rest)
  other-reread k rest =
      reread-first true 101 (λ x. after (past (codes "elim ") x) (eliminator_at S)) (k_or_data k) rest
      (λ e. (alike-word true (codes "elim ") (eliminator_at S) (alike-eliminator S)).reread rest) (λ e. k-reread k rest) (λ no. absurd (cc)) (λ no. absurd (cc))

  -- of the letters that begin a definition it takes one
  other-at : (k : Bool) (x : List ℕ) → other_line k (100 ∷ 101 ∷ x) ≡ Err (Wrong (1 + length x))
  other-at true x = let left : length (100 ∷ 101 ∷ x) - 1 ≡ 1 + length x = omega arith in ap (λ n. Err (Wrong n)) left
  other-at false x = let left : length (100 ∷ 101 ∷ x) - 1 ≡ 1 + length x = omega arith in ap (λ n. Err (Wrong n)) left

  abbrev line_by : Bool → List ℕ → Reading RawEntry
  line_by k x = if begins (codes "de") x then after (past (codes "def ") x) (definition_at S own) else other_line k x

  line-other : (k : Bool) (x : List ℕ) → begins (codes "de") x ≡ false → line_by k x ≡ other_line k x
  line-other k x e = ap (λ b. if b then after (past (codes "def ") x) (definition_at S own) else other_line k x) e

  -- no text that agrees begins with the letters where this one does not
  no-letters : (k : Bool) (rest v r y : List ℕ) → begins (codes "de") rest ≡ false → rest ≡ v ++ r → Same r y → ((x : List ℕ) → v ≡ [] → y ≡ 100 ∷ 101 ∷ x → ⊥) → begins (codes "de") (v ++ y) ≡ false
  no-letters k rest [] r y none is same not_there = by (begins (codes "de") y) refl
    where
      by : (b : Bool) → begins (codes "de") y ≡ b → begins (codes "de") y ≡ false
      by true e = absurd (not_there (drop 2 y) refl (word-is (codes "de") y e))
      by false e = e
  no-letters k rest (b ∷ []) r y none is same not_there = begins-two b y r (sym (first-same r y same)) ∙ (ap (begins (codes "de")) (sym is) ∙ none)
  no-letters k rest (b ∷ c ∷ v) r y none is same not_there = begins-front (codes "de") (b ∷ c ∷ v) y r (omega arith) ∙ (ap (begins (codes "de")) (sym is) ∙ none)

  size-of : (y : List ℕ) (n : ℕ) (m : Reading RawEntry) → m ≡ Err (Wrong n) → m ≡ wrong y → n ≡ length y
  size-of y n m is stops = cc

  not-wrong : (k : Bool) (v y : List ℕ) → other_line k (v ++ y) ≡ wrong y → (x : List ℕ) → v ≡ [] → y ≡ 100 ∷ 101 ∷ x → ⊥
  not-wrong k v y e x none letters =
      let size = size-of y (1 + length x) (other_line k (v ++ y)) (ap (other_line k) (ap (λ u. u ++ y) none ∙ letters) ∙ other-at k x) e in
      omega (arith, ap length letters, size)

  not-read : (k : Bool) (v y : List ℕ) (a : RawEntry) → other_line k (v ++ y) ≡ Ok (a, y) → (x : List ℕ) → v ≡ [] → y ≡ 100 ∷ 101 ∷ x → ⊥
  not-read k v y a e x none letters = apart (other_line k (v ++ y)) (ap (other_line k) (ap (λ u. u ++ y) none ∙ letters) ∙ other-at k x) e
    where
      apart : (m : Reading RawEntry) → m ≡ Err (Wrong (1 + length x)) → m ≡ Ok (a, y) → ⊥
      apart m is stops = absurd (cc)

  line-reread : (k : Bool) (rest : List ℕ) → Reread true (line_by k) rest (line_by k rest)
  line-reread k rest = by (begins (codes "de") rest) refl
    where
      on : begins (codes "de") rest ≡ false → (m : Reading RawEntry) → Reread true (other_line k) rest m → Reread true (line_by k) rest m
      on none (Ok p) t = record {
        front = t.front;
        is = t.is;
        again = λ y same. let e = t.again y same in line-other k (t.front ++ y) (no-letters k rest t.front p.1 y none t.is (same refl) (not-read k t.front y p.0 e)) ∙ e;
      }
      on none (Err (Wrong left)) t = record {
        front = t.front;
        back = t.back;
        is = t.is;
        size = t.size;
        refused = refused-map (λ y. other_line k (t.front ++ y)) (λ y. line_by k (t.front ++ y)) t.back
            (λ y same e. line-other k (t.front ++ y) (no-letters k rest t.front t.back y none t.is same (not-wrong k t.front y e)) ∙ e) t.refused;
      }
      on none (Err (Nested left)) t = tt
      on none (Err Memory) t = tt

      by : (b : Bool) → begins (codes "de") rest ≡ b → Reread true (line_by k) rest (if b then after (past (codes "def ") rest) (definition_at S own) else other_line k rest)
      by true e =
          let x = drop 2 rest in
          let text : rest ≡ 100 ∷ 101 ∷ x = word-is (codes "de") rest e in
          subst (λ r. Reread true (line_by k) r (after (past (codes "def ") r) (definition_at S own))) (sym text)
          (subst (λ m. Reread true (line_by k) (codes "de" ++ x) (after m (definition_at S own))) (sym (definition-word x))
          (reread-shift true (λ y. after (past (codes "f ") y) (definition_at S own)) (line_by k) (codes "de") x (after (past (codes "f ") x) (definition_at S own))
          (λ y. ap (λ b. if b then after (past (codes "def ") (100 ∷ 101 ∷ y)) (definition_at S own) else other_line k (100 ∷ 101 ∷ y)) (begins-word (codes "de") y) ∙ ap (λ m. after m (definition_at S own)) (definition-word y))
          ((alike-word true (codes "f ") (definition_at S own) (alike-definition S own)).reread x)))
      by false e = on e (other_line k rest) (other-reread k rest)

  pub alike-line : Alike true (line_at S own)
  alike-line = record { reread = λ rest. line-reread S.has_k rest }
