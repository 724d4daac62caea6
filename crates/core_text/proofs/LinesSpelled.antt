-- A line whose names and terms are spelled right is read so, unless a term in it is too deep or too high.
use Rattle.std.proofs.Common.{◌≡◌, ℕ, zero, suc, ◌+◌, ◌<◌, ◌≤◌, Bool, true, false, List, [], ◌∷◌, ◌++◌, map, length, drop, refl, sym, ap, ◌∙◌, subst, append_assoc, append-nil, arith}
use Rattle.std.specs.Prelude.{◌==◌, cond, if◌then◌else◌, nat_le, Ok, Err, Some, None, All, codes, decimal}
use Rattle.std.proofs.lemmas.Bool.{false≢true}
use Rattle.std.proofs.lemmas.Bool.Decides.{nat_tests}
use Rattle.std.proofs.lemmas.List.{length-append}
use Rattle.std.proofs.lemmas.List.Elements.{All-head, All-tail}
use Rattle.theory.specs.Terms.{Term, height}
use Rattle.theory.specs.Telescopes.{Telescope}
use Rattle.theory.specs.Signatures.{Signature}
use Rattle.core_sig.specs.Raw.{RawConstructor, RawFamily}
use Rattle.core_text.specs.EntryParts.{AreTypesWith, AreConstructorsWith, IsFamilyWith, IsLow, HasLowTerms}
use Rattle.core_text.specs.EntryReading.{after_notes, shown_by, entry_at, next_entry, with_offset}
use Rattle.core_text.specs.EntryText.{parameters_text, constructors_text, line_text, entry_line}
use Rattle.core_text.specs.LineReading.{nested, whole_term, ended, definition_at, after_item, collected, parameter_at, parameters_at, constructor_at, next_parameter, next_constructor, family_after, family_at, line_at}
use Rattle.core_text.specs.RawEntries.{RawEntry, RawFamilyOf, RawEliminator, RawAxiomK, RawDefinition, entry_shown}
use Rattle.core_text.specs.ReadBack.{Stops, AreSpelled, MayDeclare, IsSpelledEntry, EntriesAreReadBack}
use Rattle.core_text.specs.Reading.{Reading, first, and_then, after, past}
use Rattle.core_text.specs.SymbolLookup.{symbol}
use Rattle.core_text.specs.SymbolNames.{name_at}
use Rattle.core_text.specs.TermReading.{term_after}
use Rattle.core_text.specs.TermText.{term_text}
use Rattle.core_text.specs.declared.halt.Halt.TheVariants.{Wrong}
use Rattle.core_text.proofs.Depths.{OrNested, is_read, is_nested, or-weaker, or-same, or-then, or-other}
use Rattle.core_text.proofs.LineForms.{constructor-text, constructors-long, family-text, eliminator-text, axiom_k-text, definition-text, line-shown}
use Rattle.core_text.proofs.LinesBack.{nested-is, raw_of_parts, raw_family_of_parts, ended-back, eliminator-back, axiom_k-back, Parameters, parameter-text, next-space, next-none, parameters-long, separator, no-more, separator-more, stops-next, stops-name, Starts, def-line, elim-line, axiom_k-line, data-line, offset-is}
use Rattle.core_text.proofs.NumbersBack.{drop-word, past-word}
use Rattle.core_text.proofs.TermsBack.{stops-space, stops-close, stops-line, terms-are-read-back}
use Rattle.core_text.proofs.TermsSpelled.{IsSpelledTerm, terms-spelled}

-- H follows where one of the terms is higher than 2,000.
abbrev pub HighIn : Type 0 → List Term → Type 0
HighIn H [] = Unit {0}
HighIn H (t ∷ terms) = ((IsLow t → ⊥) → H) × HighIn H terms

high-in : (H : Type 0) (terms : List Term) → ((All IsLow terms → ⊥) → H) → HighIn H terms
high-in H [] k = tt
high-in H (t ∷ terms) k =
    (λ high. k (λ low. high (All-head IsLow t terms low)), high-in H terms (λ high. k (λ low. high (All-tail IsLow t terms low))))

-- ---- whole terms

-- a term is read over S as it is written over W
whole-spelled : (S W : Signature) (own : List ℕ) (n : ℕ) (t : Term) (rest : List ℕ) → IsSpelledTerm W (symbol S own) n t → Stops rest → OrNested (IsLow t → ⊥) (whole_term S own n (term_text W t ++ rest)) t rest
whole-spelled S W own n t rest is stops = by (nat_le (height t) 2000) refl
  where
    by : (b : Bool) → nat_le (height t) 2000 ≡ b → OrNested (IsLow t → ⊥) (whole_term S own n (term_text W t ++ rest)) t rest
    by true low =
        let le : height t ≤ 2000 = grind (arith, nat_tests) in
        is_read (terms-are-read-back W (symbol S own) t nested n rest is.symbols is.free (omega (arith, nested-is, le)) le stops)
    by false high =
        or-weaker (λ one low. let no : nat_le (height t) 2000 ≡ true = grind (arith, nat_tests) in false≢true (sym high ∙ no)) (terms-spelled W (symbol S own) nested t n rest is stops)

module _ (S W : Signature) (H : Type 0) where
  -- a term after a word
  past-spelled : (own word : List ℕ) (n : ℕ) (t : Term) (rest : List ℕ) → ((IsLow t → ⊥) → H) → IsSpelledTerm W (symbol S own) n t → Stops rest → OrNested H (term_after (whole_term S own) word n (word ++ (term_text W t ++ rest))) t rest
  past-spelled own word n t rest high is stops =
      or-same (term_after (whole_term S own) word n (word ++ (term_text W t ++ rest))) (whole_term S own n (term_text W t ++ rest)) (ap (λ m. after m (whole_term S own n)) (past-word word (term_text W t ++ rest)))
      (or-weaker high (whole-spelled S W own n t rest is stops))

  -- ---- definitions and parameters

  definition-spelled : (name : List ℕ) (type body : Term) (rest : List ℕ) → ((IsLow type → ⊥) → H) → ((IsLow body → ⊥) → H) → MayDeclare S [] [] name → IsSpelledTerm W (symbol S []) 0 type → IsSpelledTerm W (symbol S []) 0 body → OrNested H (definition_at S [] (name ++ (codes " : " ++ (term_text W type ++ (codes " = " ++ (term_text W body ++ 10 ∷ rest)))))) (RawDefinition name type body) rest
  definition-spelled name type body rest high above may ft fb =
      or-then (λ name r1. and_then (term_after (whole_term S []) (codes " : ") 0 r1) (λ type r2. and_then (term_after (whole_term S []) (codes " = ") 0 r2) (λ body r3. ended (RawDefinition name type body) r3)))
      (is_read (may.reads (codes " : " ++ (term_text W type ++ (codes " = " ++ (term_text W body ++ 10 ∷ rest)))) (stops-space _)))
      (or-then (λ type r2. and_then (term_after (whole_term S []) (codes " = ") 0 r2) (λ body r3. ended (RawDefinition name type body) r3))
      (past-spelled [] (codes " : ") 0 type (codes " = " ++ (term_text W body ++ 10 ∷ rest)) high ft (stops-space _))
      (or-then (λ body r3. ended (RawDefinition name type body) r3) (past-spelled [] (codes " = ") 0 body (10 ∷ rest) above fb (stops-line rest))
      (is_read (ended-back (RawDefinition name type body) rest))))

  next-spelled : (n : ℕ) (a : Term) (rest : List ℕ) → ((IsLow a → ⊥) → H) → IsSpelledTerm W (symbol S []) n a → OrNested H (next_parameter S [] n (32 ∷ 40 ∷ (term_text W a ++ 41 ∷ rest))) (Some a) rest
  next-spelled n a rest high is =
      or-same (next_parameter S [] n (32 ∷ 40 ∷ (term_text W a ++ 41 ∷ rest))) (parameter_at S [] n (term_text W a ++ 41 ∷ rest)) (next-space S n (40 ∷ (term_text W a ++ 41 ∷ rest)))
      (or-then (λ a r. after (past (codes ")") r) (λ end. Ok (Some a, end))) (or-weaker high (whole-spelled S W [] n a (41 ∷ rest) is (stops-close rest)))
      (is_read (ap (λ m. after m (λ end. Ok (Some a, end))) (past-word (codes ")") rest))))

  parameters-spelled : (tele found : Telescope) (k : ℕ) (rest : List ℕ) → HighIn H tele → AreTypesWith (AreSpelled W (symbol S [])) (length found) tele → length tele < k → OrNested H (collected (Parameters S) k found (parameters_text W tele ++ (codes " : " ++ rest))) (found ++ tele) rest
  parameters-spelled tele found zero rest high are few = absurd (omega arith)
  parameters-spelled [] found (suc k) rest high are few =
      or-other (collected (Parameters S) (suc k) found (codes " : " ++ rest)) (sym (append-nil found))
      (or-then (after_item (collected (Parameters S) k) found) (is_read (next-none S (length found) rest)) (is_read refl))
  parameters-spelled (a ∷ tele) found (suc k) rest high are few =
      let longer = length-append found (a ∷ []) in
      let one : length found + 1 ≡ length (found ++ a ∷ []) = omega (arith, longer) in
      or-same (collected (Parameters S) (suc k) found (parameters_text W (a ∷ tele) ++ (codes " : " ++ rest))) (collected (Parameters S) (suc k) found (32 ∷ 40 ∷ (term_text W a ++ 41 ∷ (parameters_text W tele ++ (codes " : " ++ rest)))))
      (ap (collected (Parameters S) (suc k) found) (parameter-text W a tele (codes " : " ++ rest)))
      (or-then (after_item (collected (Parameters S) k) found)
      (next-spelled (length found) a (parameters_text W tele ++ (codes " : " ++ rest)) high.0 are.0)
      (or-other (collected (Parameters S) k (found ++ a ∷ []) (parameters_text W tele ++ (codes " : " ++ rest))) (append_assoc found (a ∷ []) tele)
      (parameters-spelled tele (found ++ a ∷ []) k rest high.1 (subst (λ j. AreTypesWith (AreSpelled W (symbol S [])) j tele) one are.1) (omega (arith, few)))))

  -- ---- constructors of the family `own` with p parameters

  module _ (own : List ℕ) (p : ℕ) where
    constructor-spelled : (found : List RawConstructor) (name : List ℕ) (type : Term) (rest : List ℕ) → ((IsLow type → ⊥) → H) → MayDeclare S own found name → IsSpelledTerm W (symbol S own) p type → Stops rest → OrNested H (constructor_at S own p found (name ++ (codes " : " ++ (term_text W type ++ rest)))) (Some (raw_of_parts name type)) rest
    constructor-spelled found name type rest high may is stops =
        or-then (λ name r. and_then (term_after (whole_term S own) (codes " : ") p r) (λ type end. Ok (Some (raw_of_parts name type), end)))
        (is_read (may.reads (codes " : " ++ (term_text W type ++ rest)) (stops-space _)))
        (or-then (λ type end. Ok (Some (raw_of_parts name type), end)) (past-spelled own (codes " : ") p type rest high is stops) (is_read refl))

    -- the next constructor after what separates it
    next-constructor-spelled : (found : List RawConstructor) (name : List ℕ) (type : Term) (rest : List ℕ) → ((IsLow type → ⊥) → H) → MayDeclare S own found name → IsSpelledTerm W (symbol S own) p type → Stops rest → OrNested H (next_constructor S own p found (separator found ++ (name ++ (codes " : " ++ (term_text W type ++ rest))))) (Some (raw_of_parts name type)) rest
    next-constructor-spelled [] name type rest high may is stops =
        let text = name ++ (codes " : " ++ (term_text W type ++ rest)) in
        or-same (next_constructor S own p [] (separator [] ++ text)) (constructor_at S own p [] text)
        (ap (λ m. after m (λ r. if first r == 125 then Ok (None, drop 1 r) else constructor_at S own p [] r)) (past-word (codes " ") text)
        ∙ ap (λ b. if b then Ok (None, drop 1 text) else constructor_at S own p [] text) (may.no_brace (codes " : " ++ (term_text W type ++ rest))))
        (constructor-spelled [] name type rest high may is stops)
    next-constructor-spelled (c ∷ found) name type rest high may is stops =
        let text = name ++ (codes " : " ++ (term_text W type ++ rest)) in
        or-same (next_constructor S own p (c ∷ found) (separator (c ∷ found) ++ text)) (constructor_at S own p (c ∷ found) text)
        (ap (λ m. after m (λ r. if first r == 125 then Ok (None, drop 1 r) else after (past (codes "; ") r) (constructor_at S own p (c ∷ found)))) (past-word (codes " ") (codes "; " ++ text))
        ∙ ap (λ m. after m (constructor_at S own p (c ∷ found))) (past-word (codes "; ") text))
        (constructor-spelled (c ∷ found) name type rest high may is stops)

    constructors-spelled : (cs found : List RawConstructor) (before : List ℕ) (k : ℕ) (rest : List ℕ) → HighIn H (map (λ c. c.type) cs) → before ≡ separator found → AreConstructorsWith (AreSpelled W (symbol S own)) (MayDeclare S own) p found cs → length cs < k → OrNested H (collected (next_constructor S own p) k found (constructors_text W before cs ++ (codes " }" ++ rest))) (found ++ cs) rest
    constructors-spelled cs found before zero rest high is are less = absurd (omega arith)
    constructors-spelled [] found before (suc k) rest high is are less =
        or-other (collected (next_constructor S own p) (suc k) found (codes " }" ++ rest)) (sym (append-nil found))
        (or-then (after_item (collected (next_constructor S own p) k) found) (is_read (no-more S own p found rest)) (is_read refl))
    constructors-spelled (c ∷ cs) found before (suc k) rest high is are less =
        let more = constructors_text W (codes " ; ") cs ++ (codes " }" ++ rest) in
        let text = c.name ++ (codes " : " ++ (term_text W c.type ++ more)) in
        or-same (collected (next_constructor S own p) (suc k) found (constructors_text W before (c ∷ cs) ++ (codes " }" ++ rest))) (collected (next_constructor S own p) (suc k) found (separator found ++ text))
        (ap (collected (next_constructor S own p) (suc k) found) (constructor-text W before c cs (codes " }" ++ rest) ∙ ap (λ b. b ++ text) is))
        (or-then (after_item (collected (next_constructor S own p) k) found)
        (next-constructor-spelled found c.name c.type more high.0 are.0 are.1 (stops-next W cs rest))
        (or-other (collected (next_constructor S own p) k (found ++ c ∷ []) more) (append_assoc found (c ∷ []) cs)
        (constructors-spelled cs (found ++ c ∷ []) (codes " ; ") k rest high.1 (separator-more found c) are.2 (omega (arith, less)))))

  -- ---- families

  family-spelled : (raw : RawFamily) (rest : List ℕ) → HighIn H raw.parameters → ((IsLow raw.type → ⊥) → H) → HighIn H (map (λ c. c.type) raw.constructors) → IsFamilyWith (λ own. AreSpelled W (symbol S (cond own raw.name []))) (MayDeclare S) raw → OrNested H (family_at S [] (raw.name ++ (parameters_text W raw.parameters ++ (codes " : " ++ (term_text W raw.type ++ (codes " {" ++ (constructors_text W (codes " ") raw.constructors ++ (codes " }" ++ 10 ∷ rest)))))))) (RawFamilyOf raw) rest
  family-spelled raw rest first high last is =
      let tele = parameters_text W raw.parameters in
      let cs = constructors_text W (codes " ") raw.constructors in
      let ending = codes " }" ++ 10 ∷ rest in
      let braces = cs ++ ending in
      let typed = term_text W raw.type ++ (codes " {" ++ braces) in
      let whole = tele ++ (codes " : " ++ typed) in
      let few = parameters-long W raw.parameters in
      let less = constructors-long W (codes " ") raw.constructors in
      let long = length-append tele (codes " : " ++ typed) in
      let wide = length-append cs ending in
      or-then (λ name r1. and_then (parameters_at S [] r1) (λ parameters r2. and_then (whole_term S [] (length parameters) r2) (λ type r3. after (past (codes " {") r3) (family_after S name parameters type))))
      (is_read (is.name.reads whole (stops-name W raw.parameters typed)))
      (or-then (λ parameters r2. and_then (whole_term S [] (length parameters) r2) (λ type r3. after (past (codes " {") r3) (family_after S raw.name parameters type)))
      (parameters-spelled raw.parameters [] (length whole) typed first is.parameters (omega (arith, few, long)))
      (or-then (λ type r3. after (past (codes " {") r3) (family_after S raw.name raw.parameters type))
      (or-weaker high (whole-spelled S W [] (length raw.parameters) raw.type (codes " {" ++ braces) is.type (stops-space _)))
      (or-same (after (past (codes " {") (codes " {" ++ braces)) (family_after S raw.name raw.parameters raw.type)) (family_after S raw.name raw.parameters raw.type braces)
      (ap (λ m. after m (family_after S raw.name raw.parameters raw.type)) (past-word (codes " {") braces))
      (or-then (λ constructors end. ended (RawFamilyOf (raw_family_of_parts raw.name raw.parameters raw.type constructors)) end)
      (constructors-spelled raw.name (length raw.parameters) raw.constructors [] (codes " ") (length braces) (10 ∷ rest) last refl is.constructors (omega (arith, less, wide)))
      (is_read (ended-back (RawFamilyOf raw) rest))))))

-- ---- lines

-- a line that says `raw`, and the reading of it
pub record Line (S : Signature) (line : List ℕ) (raw : RawEntry) (rest : List ℕ) : Type 0 where
  pub starts : Starts (line ++ rest)
  pub reads : OrNested (HasLowTerms raw → ⊥) (line_at S [] (line ++ rest)) raw rest

pub line-spelled : (S W : Signature) (raw : RawEntry) (rest : List ℕ) → IsSpelledEntry S W raw → Line S (line_text W raw) raw rest
line-spelled S W (RawFamilyOf raw) rest is = record {
  starts = record { one = 100; others = _; is = family-text W raw rest; no_note = refl };
  reads =
      or-same (line_at S [] (line_text W (RawFamilyOf raw) ++ rest)) _ (ap (line_at S []) (family-text W raw rest) ∙ data-line S _)
      (family-spelled S W (HasLowTerms (RawFamilyOf raw) → ⊥) raw rest
      (high-in (HasLowTerms (RawFamilyOf raw) → ⊥) raw.parameters (λ high low. high low.0)) (λ high low. high low.1)
      (high-in (HasLowTerms (RawFamilyOf raw) → ⊥) (map (λ c. c.type) raw.constructors) (λ high low. high low.2)) is);
}
line-spelled S W (RawEliminator g m) rest is = record {
  starts = record { one = 101; others = _; is = eliminator-text W g m rest; no_note = refl };
  reads = is_read (ap (line_at S []) (eliminator-text W g m rest) ∙ (elim-line S _ ∙ eliminator-back S (name_at W g) g m rest is.0 is.1));
}
line-spelled S W (RawAxiomK i m) rest is = record {
  starts = record { one = 97; others = _; is = axiom_k-text W i m rest; no_note = refl };
  reads = is_read (ap (line_at S []) (axiom_k-text W i m rest) ∙ (axiom_k-line S (decimal i ++ (codes " " ++ (decimal m ++ 10 ∷ rest))) is.0 ∙ axiom_k-back S i m rest is.1 is.2));
}
line-spelled S W (RawDefinition name type body) rest is = record {
  starts = record { one = 100; others = _; is = definition-text W name type body rest; no_note = refl };
  reads =
      or-same (line_at S [] (line_text W (RawDefinition name type body) ++ rest)) _ (ap (line_at S []) (definition-text W name type body rest) ∙ def-line S _)
      (definition-spelled S W (HasLowTerms (RawDefinition name type body) → ⊥) name type body rest (λ high low. high low.0) (λ high low. high low.1) is.0 is.1 is.2);
}

-- where a line begins there is no note
pub next-is : (S : Signature) (text : List ℕ) → Starts text → next_entry S text ≡ shown_by (length S.entries) text (line_at S [] text)
next-is S text starts =
    ap (next_entry S) starts.is
    ∙ (ap (λ b. after (if b then after_notes true starts.others else Ok (starts.one ∷ starts.others)) (entry_at S)) starts.no_note
    ∙ ap (λ x. shown_by (length S.entries) x (line_at S [] x)) (sym starts.is))

-- ---- an entry whose terms are low is read back

low-read : (H : Type 0) (m : Reading RawEntry) (raw : RawEntry) (rest : List ℕ) → (H → ⊥) → OrNested H m raw rest → m ≡ Ok (raw, rest)
low-read H m raw rest none (is_read e) = e
low-read H m raw rest none (is_nested left high e) = absurd (none high)

pub entries-are-read-back : EntriesAreReadBack
entries-are-read-back T S e before rest is =
    let raw = entry_shown (length T.entries) e in
    let line = entry_line S (length T.entries) e in
    let at = ap (λ x. x ++ rest) (line-shown S (length T.entries) e) in
    let one = line-spelled T S raw rest is.spelled in
    let read = low-read (HasLowTerms raw → ⊥) (line_at T [] (line_text S raw ++ rest)) raw rest (λ high. high is.low) one.reads in
    ap (λ text. with_offset (length (before ++ (line ++ rest))) (next_entry T text)) (drop-word before (line ++ rest) ∙ sym at)
    ∙ (ap (with_offset (length (before ++ (line ++ rest)))) (next-is T (line_text S raw ++ rest) one.starts
    ∙ (ap (shown_by (length T.entries) (line_text S raw ++ rest)) read
    ∙ ap (λ b. if b then Ok (Some raw, rest) else Err (Wrong (length (line_text S raw ++ rest)))) is.shown))
    ∙ ap (λ k. Ok (Some (raw, k))) (offset-is before line rest))
