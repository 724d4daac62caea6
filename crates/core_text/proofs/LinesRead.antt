-- The bytes that are read as an entry are the line of the entry.
use Rattle.std.proofs.Common.{◌≡◌, ℕ, zero, suc, ◌+◌, ◌-◌, ◌<◌, ◌≤◌, ◌^◌, Bool, true, false, List, [], ◌∷◌, ◌++◌, length, drop, take, refl, sym, ap, ap₂, ◌∙◌, subst, append_assoc, append-nil, arith}
use Rattle.std.specs.Prelude.{◌==◌, ◌&&◌, not, nat_lt, if◌then◌else◌, Result, Ok, Err, Option, Some, None, codes, decimal}
use Rattle.std.proofs.lemmas.Bool.{false≢true, and_from}
use Rattle.std.proofs.lemmas.Bool.Decides.{nat_tests}
use Rattle.std.proofs.lemmas.List.{length-append, length-drop, take-append-drop}
use Rattle.theory.specs.Terms.{Term, Fam}
use Rattle.theory.specs.Signatures.{Signature, Entry, FamilyOf, EliminatorAt, AxiomKAt, Definition}
use Rattle.theory.specs.WellFormed.{pushed}
use Rattle.theory.proofs.Lists.{slice_get-last, slice_get-longer}
use Rattle.core_sig.specs.Names.{find}
use Rattle.core_sig.specs.Raw.{RawConstructor, RawFamily}
use Rattle.core_text.specs.DeclaredNames.{may_declare, by_shape, new_name, shape_of}
use Rattle.core_text.specs.EntryReading.{after_notes, shows_entry, shown_by, entry_at, with_offset}
use Rattle.core_text.specs.EntryText.{parameters_text, constructors_text, line_text, entry_line}
use Rattle.core_text.specs.LineLaws.{AreNotes, no_note, note, HasLine, LinesAreRead}
use Rattle.core_text.specs.LineReading.{nested, whole_term, ended, definition_at, family_found, family_name, levels_left, identities_left, eliminator_at, axiom_k_line, after_item, collected, parameter_at, no_parameter, next_parameter, parameters_at, constructor_at, separated, next_constructor, constructors_at, family_after, family_at, line_at}
use Rattle.core_text.specs.Lines.{is_in_line}
use Rattle.core_text.specs.NameRuns.{run_len}
use Rattle.core_text.specs.RawEntries.{RawEntry, RawFamilyOf, RawEliminator, RawAxiomK, RawDefinition, entry_shown}
use Rattle.core_text.specs.Reading.{Reading, wrong, first, and_then, after, past, begins, read_level}
use Rattle.core_text.specs.SymbolLookup.{symbol, found_symbol}
use Rattle.core_text.specs.SymbolNames.{own_name, name_at}
use Rattle.core_text.specs.TermReading.{term_after}
use Rattle.core_text.specs.TermText.{term_text}
use Rattle.core_text.specs.declared.declared_names.Shape.{Shape}
use Rattle.core_text.specs.declared.declared_names.Shape.TheVariants.{Declarable, Underscore, Malformed}
use Rattle.core_text.specs.declared.halt.Halt.{Halt}
use Rattle.core_text.specs.declared.instances.Series.TheVariants.{Elim, AxiomK}
use Rattle.core_text.specs.declared.stop.CoreTextStop.{CoreTextStop}
use Rattle.core_text.proofs.LineForms.{line-shown}
use Rattle.core_text.proofs.LinesBack.{nested-is, separator, separator-more}
use Rattle.core_text.proofs.Outcomes.{Ensures, ensures-then, ensures-if}
use Rattle.core_text.proofs.RunSteps.{taken-front}
use Rattle.core_text.proofs.SymbolOutcomes.{Has}
use Rattle.core_text.proofs.SymbolsRead.{found_symbol-written, symbol-written}
use Rattle.core_text.proofs.TermsRead.{Writes, term-writes}
use Rattle.core_text.proofs.WordsRead.{ensures-word, first-is, level-read}

-- ---- properties under a condition on T

-- the condition is used where it is needed
ensures-later : {A : Type 0} (H : Type 0) (P : A → List ℕ → Type 0) (m : Reading A) → (H → Ensures P m) → Ensures (λ a r. H → P a r) m
ensures-later H P (Ok p) k = k
ensures-later H P (Err e) k = tt

ensures-weaker : {A : Type 0} (P Q : A → List ℕ → Type 0) (m : Reading A) → ((a : A) (r : List ℕ) → P a r → Q a r) → Ensures P m → Ensures Q m
ensures-weaker P Q (Ok p) k h = k p.0 p.1 h
ensures-weaker P Q (Err e) k h = tt

-- ---- names that are declared

shape-reads : (may : Bool) (shape : Shape) (k : ℕ) (rest : List ℕ) → Ensures (λ name r. rest ≡ name ++ r) (by_shape shape may (take k rest) rest)
shape-reads may Declarable k rest = ensures-if (λ name r. rest ≡ name ++ r) may (Ok (take k rest, drop (length (take k rest)) rest)) (wrong rest) (λ e. taken-front k rest) (λ e. tt)
shape-reads may Underscore k rest = tt
shape-reads may Malformed k rest = tt

name-reads : (S : Signature) (own : List ℕ) (found : List RawConstructor) (rest : List ℕ) → Ensures (λ name r. rest ≡ name ++ r) (new_name S own found rest)
name-reads S own found rest =
    let name = take (run_len rest) rest in shape-reads (may_declare S own found name) (shape_of name) (run_len rest) rest

-- ---- whole terms, over a signature T that has the entries of S

module _ (T S : Signature) (has : Has T S) where
  whole-writes : (own : List ℕ) (n : ℕ) (rest : List ℕ) → (nat_lt 0 (length own) ≡ true → name_at T (length S.entries) ≡ own) → n < 2 ^ 33 → Ensures (Writes T rest) (whole_term S own n rest)
  whole-writes own n rest is few = term-writes T (symbol S own) (symbol-written T S own has is) nested n rest (omega (arith, nested-is))

  no-own : nat_lt 0 (length {A = ℕ} []) ≡ true → name_at T (length S.entries) ≡ []
  no-own e = absurd (false≢true e)

  -- a term after a word
  after-writes : {B : Type 0} (Q : B → List ℕ → Type 0) (own word : List ℕ) (n : ℕ) (rest : List ℕ) (next : Term → List ℕ → Reading B) → (nat_lt 0 (length own) ≡ true → name_at T (length S.entries) ≡ own) → n < 2 ^ 33 → ((t : Term) (r : List ℕ) → rest ≡ word ++ (term_text T t ++ r) → Ensures Q (next t r)) → Ensures Q (and_then (term_after (whole_term S own) word n rest) next)
  after-writes Q own word n rest next is few k =
      ensures-then (λ t r. rest ≡ word ++ (term_text T t ++ r)) Q (term_after (whole_term S own) word n rest) next
      (ensures-word (λ t r. rest ≡ word ++ (term_text T t ++ r)) word rest (whole_term S own n)
      (λ r so. ensures-weaker (Writes T r) (λ t s. rest ≡ word ++ (term_text T t ++ s)) (whole_term S own n r) (λ t s w. so ∙ ap (λ x. word ++ x) w) (whole-writes own n r is few))) k

  -- ---- lines, by what comes before their end

  ended-writes : (whole front : List ℕ) (e : RawEntry) (rest : List ℕ) → whole ≡ front ++ rest → front ++ codes "\n" ≡ line_text T e → Ensures (λ x r. whole ≡ line_text T x ++ r) (ended e rest)
  ended-writes whole front e rest is text =
      ensures-word (λ x r. whole ≡ line_text T x ++ r) (codes "\n") rest (λ end. Ok (e, end))
      (λ r so. is ∙ (ap (λ s. front ++ s) so ∙ (sym (append_assoc front (codes "\n") r) ∙ ap (λ s. s ++ r) text)))

  definition-writes : (rest : List ℕ) → Ensures (λ x r. codes "def " ++ rest ≡ line_text T x ++ r) (definition_at S [] rest)
  definition-writes rest =
      ensures-then (λ name r. rest ≡ name ++ r) (λ x r. codes "def " ++ rest ≡ line_text T x ++ r) (new_name S [] [] rest) _ (name-reads S [] [] rest)
      (λ name r1 fn. after-writes (λ x r. codes "def " ++ rest ≡ line_text T x ++ r) [] (codes " : ") 0 r1 _ no-own (omega arith)
      (λ type r2 ft. after-writes (λ x r. codes "def " ++ rest ≡ line_text T x ++ r) [] (codes " = ") 0 r2 _ no-own (omega arith)
      (λ body r3 fb. ended-writes (codes "def " ++ rest) (codes "def " ++ (name ++ (codes " : " ++ (term_text T type ++ (codes " = " ++ term_text T body))))) (RawDefinition name type body) r3
      (ap (λ s. codes "def " ++ s) (fn ∙ ap (λ s. name ++ s) (ft ∙ ap (λ s. codes " : " ++ (term_text T type ++ s)) fb)) ∙ simp append_assoc) (simp append_assoc))))

  -- ---- instances

  family-found-writes : (o : Option Term) (name start rest : List ℕ) → ((t : Term) → o ≡ Some t → term_text T t ≡ name) → Ensures (λ n r. (name_at T n ≡ name) × (r ≡ rest)) (family_found o start rest)
  family-found-writes (Some (Fam n)) name start rest is = (is (Fam n) refl, refl)
  family-found-writes _ name start rest is = tt

  family-name-writes : (rest : List ℕ) → Ensures (λ n r. rest ≡ name_at T n ++ r) (family_name S rest)
  family-name-writes rest =
      let k = run_len rest in
      let name = take k rest in
      ensures-weaker (λ n r. (name_at T n ≡ name) × (r ≡ drop k rest)) (λ n r. rest ≡ name_at T n ++ r) (family_found (found_symbol S (find S name)) rest (drop k rest))
      (λ n r is. sym (take-append-drop k rest) ∙ ap₂ (λ a b. a ++ b) (sym is.0) (sym is.1))
      (family-found-writes (found_symbol S (find S name)) name rest (drop k rest) (λ t e. found_symbol-written T S has name t e false))

  eliminator-writes : (rest : List ℕ) → Ensures (λ x r. codes "elim " ++ rest ≡ line_text T x ++ r) (eliminator_at S rest)
  eliminator-writes rest =
      ensures-then (λ n r. rest ≡ name_at T n ++ r) (λ x r. codes "elim " ++ rest ≡ line_text T x ++ r) (family_name S rest) _ (family-name-writes rest)
      (λ n r1 fn. ensures-word (λ x r. codes "elim " ++ rest ≡ line_text T x ++ r) (codes " ") r1 _
      (λ r2 fs. ensures-then (λ v r. r2 ≡ decimal v ++ r) (λ x r. codes "elim " ++ rest ≡ line_text T x ++ r) (read_level (levels_left S (Elim n)) r2) _ (level-read (levels_left S (Elim n)) r2)
      (λ m r3 fm. ended-writes (codes "elim " ++ rest) (codes "elim " ++ (name_at T n ++ (codes " " ++ decimal m))) (RawEliminator n m) r3
      (ap (λ s. codes "elim " ++ s) (fn ∙ ap (λ s. name_at T n ++ s) (fs ∙ ap (λ s. codes " " ++ s) fm)) ∙ simp append_assoc) (simp append_assoc))))

  axiom_k-writes : (rest : List ℕ) → Ensures (λ x r. codes "axiomk " ++ rest ≡ line_text T x ++ r) (axiom_k_line S rest)
  axiom_k-writes rest =
      ensures-then (λ v r. rest ≡ decimal v ++ r) (λ x r. codes "axiomk " ++ rest ≡ line_text T x ++ r) (read_level (identities_left S) rest) _ (level-read (identities_left S) rest)
      (λ i r1 fi. ensures-word (λ x r. codes "axiomk " ++ rest ≡ line_text T x ++ r) (codes " ") r1 _
      (λ r2 fs. ensures-then (λ v r. r2 ≡ decimal v ++ r) (λ x r. codes "axiomk " ++ rest ≡ line_text T x ++ r) (read_level (levels_left S (AxiomK i)) r2) _ (level-read (levels_left S (AxiomK i)) r2)
      (λ m r3 fm. ended-writes (codes "axiomk " ++ rest) (codes "axiomk " ++ (decimal i ++ (codes " " ++ decimal m))) (RawAxiomK i m) r3
      (ap (λ s. codes "axiomk " ++ s) (fi ∙ ap (λ s. decimal i ++ s) (fs ∙ ap (λ s. codes " " ++ s) fm)) ∙ simp append_assoc) (simp append_assoc))))

-- ---- items that are read one after the other

-- the bytes of one item more, or of the end
abbrev Item : {A : Type 0} → (List A → A → List ℕ) → List ℕ → List A → List ℕ → Option A → List ℕ → Type 0
Item text end found rest None r = rest ≡ end ++ r
Item text end found rest (Some a) r = rest ≡ text found a ++ r

abbrev listed : {A : Type 0} → (List A → A → List ℕ) → List A → List A → List ℕ
listed text found [] = []
listed text found (a ∷ new) = text found a ++ listed text (found ++ a ∷ []) new

-- the items after those found
abbrev Listed : {A : Type 0} → (List A → A → List ℕ) → List ℕ → ℕ → List A → List ℕ → List A → List ℕ → Type 0
Listed {A} text end most found rest xs r = (new : List A) × (xs ≡ found ++ new) × (rest ≡ listed text found new ++ (end ++ r)) × (length xs ≤ most)

collected-writes : {A : Type 0} (text : List A → A → List ℕ) (end : List ℕ) (most : ℕ) (next : List A → List ℕ → Reading (Option A)) → ((found : List A) (rest : List ℕ) → length found ≤ most → Ensures (Item text end found rest) (next found rest)) → (k : ℕ) (found : List A) (rest : List ℕ) → length found + k ≤ most → Ensures (Listed text end most found rest) (collected next k found rest)
collected-writes text end most next each zero found rest few = tt
collected-writes {A} text end most next each (suc k) found rest few =
    ensures-then (Item text end found rest) (Listed text end most found rest) (next found rest) (after_item (collected next k) found) (each found rest (omega arith))
    (λ o r is. by (λ a r. collected-writes text end most next each k (found ++ a ∷ []) r (omega (arith, length-append found (a ∷ [])))) o r is)
  where
    by : ((a : A) (r : List ℕ) → Ensures (Listed text end most (found ++ a ∷ []) r) (collected next k (found ++ a ∷ []) r)) → (o : Option A) (r : List ℕ) → Item text end found rest o r → Ensures (Listed text end most found rest) (after_item (collected next k) found o r)
    by others None r is = ([], sym (append-nil found), is, omega arith)
    by others (Some a) r is =
        ensures-weaker (Listed text end most (found ++ a ∷ []) r) (Listed text end most found rest) (collected next k (found ++ a ∷ []) r)
        (λ xs s all. (a ∷ all.0, all.1 ∙ append_assoc found (a ∷ []) all.0, is ∙ (ap (λ z. text found a ++ z) all.2 ∙ sym (append_assoc (text found a) (listed text (found ++ a ∷ []) all.0) (end ++ s))), all.3)) (others a r)

module _ (T S : Signature) (has : Has T S) where
  -- ---- parameters

  abbrev parameter : List Term → Term → List ℕ
  parameter found a = codes " (" ++ (term_text T a ++ codes ")")

  parameters-listed : (found new : List Term) → listed parameter found new ≡ parameters_text T new
  parameters-listed found [] = refl
  parameters-listed found (a ∷ new) = ap (λ r. (codes " (" ++ (term_text T a ++ codes ")")) ++ r) (parameters-listed (found ++ a ∷ []) new) ∙ simp append_assoc

  parameter-writes : (found : List Term) (rest : List ℕ) → length found < 2 ^ 33 → Ensures (Item parameter (codes " : ") found rest) (next_parameter S [] (length found) rest)
  parameter-writes found rest few =
      ensures-word (Item parameter (codes " : ") found rest) (codes " ") rest (λ r. if first r == 40 then parameter_at S [] (length found) (drop 1 r) else no_parameter r)
      (λ r is. ensures-if (Item parameter (codes " : ") found rest) (first r == 40) (parameter_at S [] (length found) (drop 1 r)) (no_parameter r)
      (λ e. ensures-then (Writes T (drop 1 r)) (Item parameter (codes " : ") found rest) (whole_term S [] (length found) (drop 1 r)) _ (whole-writes T S has [] (length found) (drop 1 r) (no-own T S has) few)
      (λ a r2 fa. ensures-word (Item parameter (codes " : ") found rest) (codes ")") r2 (λ end. Ok (Some a, end))
      (λ r3 so. is ∙ (ap (λ s. codes " " ++ s) (first-is 40 r (omega arith) e ∙ ap (λ s. 40 ∷ s) (fa ∙ ap (λ s. term_text T a ++ s) so)) ∙ simp append_assoc))))
      (λ e. ensures-word (Item parameter (codes " : ") found rest) (codes ": ") r (λ end. Ok (None, end)) (λ r2 so. is ∙ ap (λ s. codes " " ++ s) so)))

  parameters-write : (rest : List ℕ) → length rest < 2 ^ 33 → Ensures (λ ts r. (rest ≡ parameters_text T ts ++ (codes " : " ++ r)) × (length ts < 2 ^ 33)) (parameters_at S [] rest)
  parameters-write rest short =
      ensures-weaker (Listed parameter (codes " : ") (length rest) [] rest) (λ ts r. (rest ≡ parameters_text T ts ++ (codes " : " ++ r)) × (length ts < 2 ^ 33)) (parameters_at S [] rest)
      (λ ts r all. (all.2 ∙ ap (λ s. s ++ (codes " : " ++ r)) (parameters-listed [] all.0 ∙ ap (parameters_text T) (sym all.1)), omega (arith, all.3)))
      (collected-writes parameter (codes " : ") (length rest) (λ found r. next_parameter S [] (length found) r)
      (λ found r few. parameter-writes found r (omega arith)) (length rest) [] rest (omega arith))

  -- ---- constructors of the family `own`

  abbrev constructor_text : List RawConstructor → RawConstructor → List ℕ
  constructor_text found c = separator found ++ (c.name ++ (codes " : " ++ term_text T c.type))

  constructors-listed : (found new : List RawConstructor) → listed constructor_text found new ≡ constructors_text T (separator found) new
  constructors-listed found [] = refl
  constructors-listed found (c ∷ new) =
      ap (λ r. (separator found ++ (c.name ++ (codes " : " ++ term_text T c.type))) ++ r) (constructors-listed (found ++ c ∷ []) new ∙ ap (λ b. constructors_text T b new) (sym (separator-more found c)))
      ∙ simp append_assoc

  module _ (own : List ℕ) (p : ℕ) (is_own : nat_lt 0 (length own) ≡ true → name_at T (length S.entries) ≡ own) (few : p < 2 ^ 33) where
    -- a constructor after what separates it from the others
    constructor-writes : (found : List RawConstructor) (rest front r : List ℕ) → front ≡ separator found → rest ≡ front ++ r → Ensures (Item constructor_text (codes " }") found rest) (constructor_at S own p found r)
    constructor-writes found rest front r here is =
        ensures-then (λ name s. r ≡ name ++ s) (Item constructor_text (codes " }") found rest) (new_name S own found r) _ (name-reads S own found r)
        (λ name r1 fn. after-writes T S has (Item constructor_text (codes " }") found rest) own (codes " : ") p r1 _ is_own few
        (λ type end ft. is ∙ (ap₂ (λ a b. a ++ b) here (fn ∙ ap (λ s. name ++ s) ft) ∙ simp append_assoc)))

    next-writes : (found : List RawConstructor) (rest : List ℕ) → Ensures (Item constructor_text (codes " }") found rest) (next_constructor S own p found rest)
    next-writes found rest =
        ensures-word (Item constructor_text (codes " }") found rest) (codes " ") rest (λ r. if first r == 125 then Ok (None, drop 1 r) else after (separated found r) (constructor_at S own p found))
        (λ r is. ensures-if (Item constructor_text (codes " }") found rest) (first r == 125) (Ok (None, drop 1 r)) (after (separated found r) (constructor_at S own p found))
        (λ e. is ∙ ap (λ s. codes " " ++ s) (first-is 125 r (omega arith) e)) (λ e. apart found r is))
      where
        apart : (found : List RawConstructor) (r : List ℕ) → rest ≡ codes " " ++ r → Ensures (Item constructor_text (codes " }") found rest) (after (separated found r) (constructor_at S own p found))
        apart [] r is = constructor-writes [] rest (codes " ") r refl is
        apart (c ∷ found) r is =
            ensures-word (Item constructor_text (codes " }") (c ∷ found) rest) (codes "; ") r (constructor_at S own p (c ∷ found))
            (λ r2 so. constructor-writes (c ∷ found) rest (codes " ; ") r2 refl (is ∙ ap (λ s. codes " " ++ s) so))

    constructors-write : (rest : List ℕ) → Ensures (λ cs r. rest ≡ constructors_text T (codes " ") cs ++ (codes " }" ++ r)) (constructors_at S own p rest)
    constructors-write rest =
        ensures-weaker (Listed constructor_text (codes " }") (length rest) [] rest) (λ cs r. rest ≡ constructors_text T (codes " ") cs ++ (codes " }" ++ r)) (constructors_at S own p rest)
        (λ cs r all. all.2 ∙ ap (λ s. s ++ (codes " }" ++ r)) (constructors-listed [] all.0 ∙ ap (constructors_text T (codes " ")) (sym all.1)))
        (collected-writes constructor_text (codes " }") (length rest) (next_constructor S own p) (λ found r less. next-writes found r) (length rest) [] rest (omega arith))

  -- ---- families, and a whole line

  -- the family that is declared has its name in T
  abbrev HasOwn : RawEntry → Type 0
  HasOwn (RawFamilyOf raw) = name_at T (length S.entries) ≡ raw.name
  HasOwn _ = Unit {0}

  abbrev Line : List ℕ → RawEntry → List ℕ → Type 0
  Line whole x r = HasOwn x → whole ≡ line_text T x ++ r

  family-ended : (whole front : List ℕ) (raw : RawFamily) (rest : List ℕ) → (name_at T (length S.entries) ≡ raw.name → whole ≡ front ++ rest) → front ++ codes "\n" ≡ line_text T (RawFamilyOf raw) → Ensures (Line whole) (ended (RawFamilyOf raw) rest)
  family-ended whole front raw rest is text =
      ensures-word (Line whole) (codes "\n") rest (λ end. Ok (RawFamilyOf raw, end))
      (λ r so own. is own ∙ (ap (λ s. front ++ s) so ∙ (sym (append_assoc front (codes "\n") r) ∙ ap (λ s. s ++ r) text)))

  past-writes : (whole name : List ℕ) (parameters : List Term) (type : Term) (rest : List ℕ) → length parameters < 2 ^ 33 → whole ≡ codes "data " ++ (name ++ (parameters_text T parameters ++ (codes " : " ++ (term_text T type ++ (codes " {" ++ rest))))) → Ensures (Line whole) (family_after S name parameters type rest)
  past-writes whole name parameters type rest few is =
      ensures-then (λ cs r. name_at T (length S.entries) ≡ name → rest ≡ constructors_text T (codes " ") cs ++ (codes " }" ++ r)) (Line whole) (constructors_at S name (length parameters) rest) _
      (ensures-later (name_at T (length S.entries) ≡ name) (λ cs r. rest ≡ constructors_text T (codes " ") cs ++ (codes " }" ++ r)) (constructors_at S name (length parameters) rest)
      (λ own. constructors-write name (length parameters) (λ some. own) few rest))
      (λ cs end fc. family-ended whole (codes "data " ++ (name ++ (parameters_text T parameters ++ (codes " : " ++ (term_text T type ++ (codes " {" ++ (constructors_text T (codes " ") cs ++ codes " }")))))))
      (record { name = name; parameters = parameters; type = type; constructors = cs }) end
      (λ own. is ∙ (ap (λ s. codes "data " ++ (name ++ (parameters_text T parameters ++ (codes " : " ++ (term_text T type ++ (codes " {" ++ s)))))) (fc own) ∙ simp append_assoc)) (simp append_assoc))

  family-writes : (rest : List ℕ) → length rest < 2 ^ 33 → Ensures (Line (codes "data " ++ rest)) (family_at S [] rest)
  family-writes rest short =
      ensures-then (λ name r. rest ≡ name ++ r) (Line (codes "data " ++ rest)) (new_name S [] [] rest) _ (name-reads S [] [] rest)
      (λ name r1 fn. ensures-then (λ ts r. (r1 ≡ parameters_text T ts ++ (codes " : " ++ r)) × (length ts < 2 ^ 33)) (Line (codes "data " ++ rest)) (parameters_at S [] r1) _ (parameters-write r1 (shorter name r1 fn))
      (λ parameters r2 fp. ensures-then (Writes T r2) (Line (codes "data " ++ rest)) (whole_term S [] (length parameters) r2) _ (whole-writes T S has [] (length parameters) r2 (no-own T S has) fp.1)
      (λ type r3 ft. ensures-word (Line (codes "data " ++ rest)) (codes " {") r3 (family_after S name parameters type)
      (λ r4 so. past-writes (codes "data " ++ rest) name parameters type r4 fp.1
      (ap (λ s. codes "data " ++ s) (fn ∙ ap (λ s. name ++ s) (fp.0 ∙ ap (λ s. parameters_text T parameters ++ (codes " : " ++ s)) (ft ∙ ap (λ s. term_text T type ++ s) so))))))))
    where
      shorter : (name r : List ℕ) → rest ≡ name ++ r → length r < 2 ^ 33
      shorter name r is = omega (arith, short, ap length is, length-append name r)

  line-writes : (rest : List ℕ) → length rest < 2 ^ 33 → Ensures (Line rest) (line_at S [] rest)
  line-writes rest short =
      ensures-if (Line rest) (begins (codes "de") rest) (after (past (codes "def ") rest) (definition_at S [])) _
      (λ e. ensures-word (Line rest) (codes "def ") rest (definition_at S []) (λ r is. moved (codes "def ") r is (definition_at S [] r) (definition-writes T S has r)))
      (λ e. ensures-if (Line rest) (first rest == 101) (after (past (codes "elim ") rest) (eliminator_at S)) _
      (λ e. ensures-word (Line rest) (codes "elim ") rest (eliminator_at S) (λ r is. moved (codes "elim ") r is (eliminator_at S r) (eliminator-writes T S has r)))
      (λ e. ensures-if (Line rest) (S.has_k && (first rest == 97)) (after (past (codes "axiomk ") rest) (axiom_k_line S)) _
      (λ e. ensures-word (Line rest) (codes "axiomk ") rest (axiom_k_line S) (λ r is. moved (codes "axiomk ") r is (axiom_k_line S r) (axiom_k-writes T S has r)))
      (λ e. ensures-word (Line rest) (codes "data ") rest (family_at S []) (λ r is. families r is))))
    where
      moved : (word r : List ℕ) → rest ≡ word ++ r → (m : Reading RawEntry) → Ensures (λ x s. word ++ r ≡ line_text T x ++ s) m → Ensures (Line rest) m
      moved word r is (Ok p) so = λ own. is ∙ so
      moved word r is (Err e) so = tt

      families : (r : List ℕ) → rest ≡ codes "data " ++ r → Ensures (Line rest) (family_at S [] r)
      families r is =
          ensures-weaker (Line (codes "data " ++ r)) (Line rest) (family_at S [] r) (λ x s so own. is ∙ so own)
          (family-writes r (omega (arith, short, ap length is, length-append (codes "data ") r)))

-- ---- notes

-- after the first byte of a note
pub record Inside (rest r : List ℕ) : Type 0 where
  pub text : List ℕ
  pub others : List ℕ
  pub in_line : is_in_line text ≡ true
  pub are : AreNotes others
  pub is : rest ≡ text ++ (10 ∷ (others ++ r))

pub record Before (rest r : List ℕ) : Type 0 where
  pub notes : List ℕ
  pub are : AreNotes notes
  pub is : rest ≡ notes ++ r

abbrev pub NotesRead : Bool → List ℕ → List ℕ → Type 0
NotesRead false rest r = Before rest r
NotesRead true rest r = Inside rest r

rest-is : {a b : List ℕ} → ◌≡◌ {A = Result (List ℕ) Halt} (Ok a) (Ok b) → a ≡ b
rest-is e = cc

pub notes-read : (inside : Bool) (rest r : List ℕ) → after_notes inside rest ≡ Ok r → NotesRead inside rest r
notes-read false [] r e = record { notes = []; are = no_note; is = rest-is e }
notes-read true [] r e = absurd (cc)
notes-read false (b ∷ rest) r e = by (notes-read true rest r) (b == 35) refl e
  where
    by : (after_notes true rest ≡ Ok r → Inside rest r) → (c : Bool) → (b == 35) ≡ c → (if c then after_notes true rest else Ok (b ∷ rest)) ≡ Ok r → Before (b ∷ rest) r
    by others true same is =
        let more = others is in
        let here : b ≡ 35 = grind (arith, nat_tests) in
        record {
          notes = codes "#" ++ (more.text ++ (codes "\n" ++ more.others));
          are = note more.text more.others more.in_line more.are;
          is = ap₂ ◌∷◌ here more.is ∙ simp append_assoc;
        }
    by others false same is = record { notes = []; are = no_note; is = rest-is is }
notes-read true (b ∷ rest) r e = by (λ f. notes-read false rest r f) (λ f. notes-read true rest r f) (b == 10) refl e
  where
    by : (after_notes false rest ≡ Ok r → Before rest r) → (after_notes true rest ≡ Ok r → Inside rest r) → (c : Bool) → (b == 10) ≡ c → after_notes (not c) rest ≡ Ok r → Inside (b ∷ rest) r
    by ends goes true same is =
        let more = ends is in
        let here : b ≡ 10 = grind (arith, nat_tests) in
        record { text = []; others = more.notes; in_line = refl; are = more.are; is = ap₂ ◌∷◌ here more.is }
    by ends goes false same is =
        let more = goes is in
        record {
          text = b ∷ more.text;
          others = more.others;
          in_line = and_from (not (b == 10)) (is_in_line more.text) (ap not same) more.in_line;
          are = more.are;
          is = ap (λ s. b ∷ s) more.is;
        }

-- ---- a whole entry

own-is : (S : Signature) (e : Entry) → HasOwn (pushed S e) S (λ k x is. slice_get-longer S.entries (e ∷ []) k x is) (entry_shown (length S.entries) e)
own-is S (FamilyOf f) = ap own_name (slice_get-last S.entries (FamilyOf f))
own-is S (EliminatorAt g m) = tt
own-is S (AxiomKAt i m) = tt
own-is S (Definition name type body) = tt

-- the bytes of the line and those after it
abbrev IsLine : Signature → Entry → List ℕ → Option RawEntry → List ℕ → Type 0
IsLine S e rest o r = o ≡ Some (entry_shown (length S.entries) e) → rest ≡ entry_line (pushed S e) (length S.entries) e ++ r

line-read : (S : Signature) (e : Entry) (rest : List ℕ) → length rest < 2 ^ 33 → Ensures (λ x r. x ≡ entry_shown (length S.entries) e → rest ≡ entry_line (pushed S e) (length S.entries) e ++ r) (line_at S [] rest)
line-read S e rest short =
    let T = pushed S e in
    let n = length S.entries in
    ensures-weaker (Line T S (longer) rest) (λ x r. x ≡ entry_shown n e → rest ≡ entry_line T n e ++ r) (line_at S [] rest)
    (λ x r so is. so (subst (HasOwn T S longer) (sym is) (own-is S e)) ∙ ap (λ s. s ++ r) (ap (line_text T) is ∙ line-shown T n e))
    (line-writes T S longer rest short)
  where
    longer : Has (pushed S e) S
    longer k x is = slice_get-longer S.entries (e ∷ []) k x is

shown-read : (S : Signature) (e : Entry) (n : ℕ) (rest : List ℕ) (m : Reading RawEntry) → Ensures (λ x r. x ≡ entry_shown (length S.entries) e → rest ≡ entry_line (pushed S e) (length S.entries) e ++ r) m → Ensures (IsLine S e rest) (shown_by n rest m)
shown-read S e n rest (Ok p) so =
    ensures-if (IsLine S e rest) (shows_entry n p.0) (Ok (Some p.0, p.1)) (wrong rest) (λ shows is. so (raw-is is)) (λ shows. tt)
  where
    raw-is : {a b : RawEntry} → ◌≡◌ {A = Option RawEntry} (Some a) (Some b) → a ≡ b
    raw-is e = cc
shown-read S e n rest (Err h) so = tt

entry-read : (S : Signature) (e : Entry) (rest : List ℕ) → length rest < 2 ^ 33 → Ensures (IsLine S e rest) (entry_at S rest)
entry-read S e [] short = λ is. absurd (cc)
entry-read S e (b ∷ rest) short = shown-read S e (length S.entries) (b ∷ rest) (line_at S [] (b ∷ rest)) (line-read S e (b ∷ rest) short)

-- the bytes of a text after all those before its end are that end
drop-end : (text front r : List ℕ) → text ≡ front ++ r → drop (length text - length r) text ≡ r
drop-end text front r is =
    let place : length text - length r ≡ length front = omega (arith, ap length is, length-append front r) in
    ap (λ k. drop k text) place ∙ (ap (drop (length front)) is ∙ drop-front front r)
  where
    drop-front : (xs ys : List ℕ) → drop (length xs) (xs ++ ys) ≡ ys
    drop-front [] ys = refl
    drop-front (x ∷ xs) ys = drop-front xs ys

abbrev offset-of : RawEntry × ℕ → ℕ
offset-of p = p.1

pub lines-are-read : LinesAreRead
lines-are-read S text from e to small within is = by (after_notes false (drop from text)) refl is
  where
    n : ℕ
    n = length S.entries

    pair-is : {a b : RawEntry × ℕ} → ◌≡◌ {A = Result (Option (RawEntry × ℕ)) CoreTextStop} (Ok (Some a)) (Ok (Some b)) → a ≡ b
    pair-is eq = cc

    at-line : (rest r : List ℕ) → Before (drop from text) rest → rest ≡ entry_line (pushed S e) n e ++ r → length text - length r ≡ to → HasLine S text from e to
    at-line rest r before line last =
        let whole : text ≡ (take from text ++ (before.notes ++ entry_line (pushed S e) n e)) ++ r =
        sym (take-append-drop from text) ∙ (ap (λ s. take from text ++ s) (before.is ∙ ap (λ s. before.notes ++ s) line) ∙ joined) in
        record {
          notes = before.notes;
          others = r;
          are_notes = before.are;
          line = before.is ∙ ap (λ s. before.notes ++ s) line;
          past = ap (λ k. drop k text) (sym last) ∙ drop-end text (take from text ++ (before.notes ++ entry_line (pushed S e) n e)) r whole;
        }
      where
        joined : take from text ++ (before.notes ++ (entry_line (pushed S e) n e ++ r)) ≡ (take from text ++ (before.notes ++ entry_line (pushed S e) n e)) ++ r
        joined = four (take from text) before.notes (entry_line (pushed S e) n e) r
          where
            four : (a b c d : List ℕ) → a ++ (b ++ (c ++ d)) ≡ (a ++ (b ++ c)) ++ d
            four a b c d = simp append_assoc

    entry : (rest : List ℕ) → Before (drop from text) rest → (m : Reading (Option RawEntry)) → Ensures (IsLine S e rest) m → with_offset (length text) m ≡ Ok (Some (entry_shown n e, to)) → HasLine S text from e to
    entry rest before (Ok (None, r)) so same = absurd (cc)
    entry rest before (Ok (Some x, r)) so same =
        let pair : (x, length text - length r) ≡ (entry_shown n e, to) = pair-is same in
        at-line rest r before (so (ap (λ p. Some p.0) pair)) (ap offset-of pair)
    entry rest before (Err h) so same = absurd (cc)

    by : (m : Result (List ℕ) Halt) → after_notes false (drop from text) ≡ m → with_offset (length text) (after m (entry_at S)) ≡ Ok (Some (entry_shown n e, to)) → HasLine S text from e to
    by (Ok rest) notes same =
        let before = notes-read false (drop from text) rest notes in
        let short : length rest < 2 ^ 33 = omega (arith, small, length-drop from text, ap length before.is, length-append before.notes rest) in
        entry rest before (entry_at S rest) (entry-read S e rest short) same
    by (Err h) notes same = absurd (cc)
