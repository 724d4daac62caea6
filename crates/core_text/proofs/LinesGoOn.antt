-- Lines that are read as those of definitions or of instances, and the bytes before the place where such a line is wrong.
use Rattle.std.proofs.Common.{◌≡◌, ℕ, ◌<◌, ◌^◌, true, false, List, [], ◌++◌, drop, take, refl, sym, ap, ap₂, ◌∙◌, subst, append_assoc, append-nil, arith, inl, inr}
use Rattle.std.specs.Prelude.{◌⊎◌, Ok, Option, Some, codes, decimal}
use Rattle.std.proofs.lemmas.Bool.{false≢true}
use Rattle.std.proofs.lemmas.List.{take-append-drop}
use Rattle.theory.specs.Terms.{Term, Sort, Fam}
use Rattle.theory.specs.Signatures.{Signature}
use Rattle.theory.specs.SignatureScopes.{IsFamilyNumber}
use Rattle.core_sig.specs.Names.{find}
use Rattle.core_text.specs.DeclaredNames.{new_name}
use Rattle.core_text.specs.LineReading.{nested, whole_term, ended, definition_at, family_found, family_name, levels_left, identities_left, eliminator_at, axiom_k_line}
use Rattle.core_text.specs.NameRuns.{run_len}
use Rattle.core_text.specs.RawEntries.{RawEntry, RawEliminator, RawAxiomK, RawDefinition}
use Rattle.core_text.specs.Reading.{and_then, past, is_left, read_level}
use Rattle.core_text.specs.Spellings.{raw_line, IsNewName, IsEntryOver}
use Rattle.core_text.specs.SymbolLookup.{symbol, found_symbol}
use Rattle.core_text.specs.SymbolNames.{name_at}
use Rattle.core_text.specs.TermReading.{term_after}
use Rattle.core_text.specs.TermText.{term_text}
use Rattle.core_text.specs.declared.instances.Series.TheVariants.{Elim, AxiomK}
use Rattle.core_text.proofs.Completions.{Meets, IsFront, front-of, front-less, meets-wrong, meets-then, meets-on, meets-word, meets-after}
use Rattle.core_text.proofs.LevelsGoOn.{SomeLeft, NoneLeft, some-or-none, level-of-axiom, SomeEliminator, NoEliminator, eliminator-or-none, Levelled, level-meets}
use Rattle.core_text.proofs.LineForms.{grouped_line, grouped_line-is}
use Rattle.core_text.proofs.LinesBack.{nested-is}
use Rattle.core_text.proofs.NamesGoOn.{Named, name-meets}
use Rattle.core_text.proofs.Over.{IsTermOver, over-sort}
use Rattle.core_text.proofs.SymbolOutcomes.{Has}
use Rattle.core_text.proofs.SymbolsOver.{family-number, symbol-over}
use Rattle.core_text.proofs.SymbolsRead.{found_symbol-written, symbol-written}
use Rattle.core_text.proofs.TermFronts.{IsText}
use Rattle.core_text.proofs.TermsGoOn.{term-meets}

-- ---- whole texts

-- the line of an entry over S
abbrev pub IsLine : Signature → List ℕ → Type 0
IsLine S text = (raw : RawEntry) × (text ≡ raw_line S raw) × IsEntryOver S raw

-- the words and the name before an instance, where none is left
pub data IsSpent (S : Signature) (text : List ℕ) : Type 0 where
  of_family : (g : ℕ) → IsFamilyNumber S g → NoneLeft (levels_left S (Elim g)) → text ≡ codes "elim " ++ (name_at S g ++ codes " ") → IsSpent S text
  of_eliminators : NoEliminator S → text ≡ codes "elim " → IsSpent S text
  of_axiom_k : S.has_k ≡ true → NoneLeft (identities_left S) → text ≡ codes "axiomk " → IsSpent S text

abbrev pub Goes : Signature → List ℕ → Type 0
Goes S text = IsLine S text ⊎ IsSpent S text

-- the bytes that were read are a line over S
abbrev pub Read : Signature → List ℕ → RawEntry → List ℕ → Type 0
Read S whole raw r = (whole ≡ raw_line S raw ++ r) × IsEntryOver S raw

-- a front of a line
pub line-front : (S : Signature) (front more : List ℕ) (raw : RawEntry) → front ++ more ≡ grouped_line S raw → IsEntryOver S raw → IsFront (Goes S) front
line-front S front more raw is over = front-of (Goes S) front more (raw_line S raw) (is ∙ grouped_line-is S raw) (inl (raw, refl, over))

pub ended-meets : (S : Signature) (whole front : List ℕ) (raw : RawEntry) (rest : List ℕ) → whole ≡ front ++ rest → front ++ codes "\n" ≡ grouped_line S raw → IsEntryOver S raw → Meets (Read S whole) (Goes S) whole (ended raw rest)
ended-meets S whole front raw rest at text over =
    meets-word (Read S whole) (Goes S) front (codes "\n") rest whole (λ end. Ok (raw, end)) at
    (line-front S (front ++ codes "\n") [] raw (append-nil (front ++ codes "\n") ∙ text) over)
    (λ r so. (at ∙ (ap (λ s. front ++ s) so ∙ (sym (append_assoc front (codes "\n") r) ∙ ap (λ s. s ++ r) (text ∙ grouped_line-is S raw))), over))

-- ---- whole terms

pub whole-meets : (T S : Signature) → Has T S → (n : ℕ) (rest : List ℕ) → n < 2 ^ 33 → Meets (λ t r. (rest ≡ term_text T t ++ r) × IsTermOver S false n t) (IsText T S false n) rest (whole_term S [] n rest)
whole-meets T S has n rest few =
    term-meets T S false (symbol S []) (symbol-written T S [] has (λ e. absurd (false≢true e))) (λ name t e. (symbol-over S name t e).over) nested n rest (omega (arith, nested-is))

-- ---- definitions

seven : (a b c d e f g : List ℕ) → ((a ++ b) ++ c) ++ (d ++ (e ++ (f ++ g))) ≡ a ++ (b ++ (c ++ (d ++ (e ++ (f ++ g)))))
seven a b c d e f g = simp append_assoc

six : (a b c d e f : List ℕ) → ((a ++ b) ++ (c ++ d)) ++ (e ++ f) ≡ a ++ (b ++ (c ++ (d ++ (e ++ f))))
six a b c d e f = simp append_assoc

module _ (S : Signature) where
  abbrev Itself : Has S S
  Itself n e is = is

  body-meets : (whole front name : List ℕ) (type : Term) (rest : List ℕ) → front ≡ codes "def " ++ (name ++ (codes " : " ++ term_text S type)) → whole ≡ front ++ rest → IsNewName S [] [] name → IsTermOver S false 0 type → Meets (Read S whole) (Goes S) whole (and_then (term_after (whole_term S []) (codes " = ") 0 rest) (λ body r. ended (RawDefinition name type body) r))
  body-meets whole front name type rest is at new over =
      meets-after (λ r t s. (r ≡ term_text S t ++ s) × IsTermOver S false 0 t) (Read S whole) (IsText S S false 0) (Goes S) front (codes " = ") rest whole (whole_term S [] 0) _ at
      (line-front S (front ++ codes " = ") (term_text S (Sort 0) ++ codes "\n") (RawDefinition name type (Sort 0)) (ap (λ f. (f ++ codes " = ") ++ (term_text S (Sort 0) ++ codes "\n")) is ∙ simp append_assoc) (new, over, over-sort S false 0))
      (λ x u. line-front S (front ++ (codes " = " ++ x)) (codes "\n") (RawDefinition name type u.0) (ap₂ (λ f y. (f ++ (codes " = " ++ y)) ++ codes "\n") is u.1 ∙ simp append_assoc) (new, over, u.2))
      (λ r. whole-meets S S Itself 0 r (omega arith))
      (λ body r s so fb. ended-meets S whole (front ++ (codes " = " ++ term_text S body)) (RawDefinition name type body) s
      (at ∙ (ap (λ y. front ++ y) (so ∙ ap (λ y. codes " = " ++ y) fb.0) ∙ simp append_assoc))
      (ap (λ f. (f ++ (codes " = " ++ term_text S body)) ++ codes "\n") is ∙ simp append_assoc) (new, over, fb.1))

  type-meets : (whole name rest : List ℕ) → IsNewName S [] [] name → whole ≡ (codes "def " ++ name) ++ rest → Meets (Read S whole) (Goes S) whole (and_then (term_after (whole_term S []) (codes " : ") 0 rest) (λ type r2. and_then (term_after (whole_term S []) (codes " = ") 0 r2) (λ body r3. ended (RawDefinition name type body) r3)))
  type-meets whole name rest new at =
      let front = codes "def " ++ name in
      let zero-text = term_text S (Sort 0) in
      meets-after (λ r t s. (r ≡ term_text S t ++ s) × IsTermOver S false 0 t) (Read S whole) (IsText S S false 0) (Goes S) front (codes " : ") rest whole (whole_term S [] 0) _ at
      (line-front S (front ++ codes " : ") (zero-text ++ (codes " = " ++ (zero-text ++ codes "\n"))) (RawDefinition name (Sort 0) (Sort 0)) (seven (codes "def ") name (codes " : ") zero-text (codes " = ") zero-text (codes "\n")) (new, over-sort S false 0, over-sort S false 0))
      (λ x u. line-front S (front ++ (codes " : " ++ x)) (codes " = " ++ (zero-text ++ codes "\n")) (RawDefinition name u.0 (Sort 0)) (ap (λ y. (front ++ (codes " : " ++ y)) ++ (codes " = " ++ (zero-text ++ codes "\n"))) u.1 ∙ six (codes "def ") name (codes " : ") (term_text S u.0) (codes " = ") (zero-text ++ codes "\n")) (new, u.2, over-sort S false 0))
      (λ r. whole-meets S S Itself 0 r (omega arith))
      (λ type r s so ft. body-meets whole (front ++ (codes " : " ++ term_text S type)) name type s (append_assoc (codes "def ") name (codes " : " ++ term_text S type))
      (at ∙ (ap (λ y. front ++ y) (so ∙ ap (λ y. codes " : " ++ y) ft.0) ∙ simp append_assoc)) new ft.1)

  pub definition-meets : (rest : List ℕ) → Meets (Read S (codes "def " ++ rest)) (Goes S) (codes "def " ++ rest) (definition_at S [] rest)
  definition-meets rest =
      let whole = codes "def " ++ rest in
      meets-then (Named S [] [] rest) (Read S whole) (IsNewName S [] []) (Goes S) (codes "def ") rest whole (new_name S [] [] rest) _ refl
      (λ name new. line-front S (codes "def " ++ name) _ (RawDefinition name (Sort 0) (Sort 0)) (append_assoc (codes "def ") name _) (new, over-sort S false 0, over-sort S false 0))
      (name-meets S [] [] rest)
      (λ name r1 fn. type-meets whole name r1 fn.1 (ap (λ s. codes "def " ++ s) fn.0 ∙ sym (append_assoc (codes "def ") name r1)))

  -- ---- instances

  -- an eliminator of the family, where one is left
  family-front : (g : ℕ) → IsFamilyNumber S g → IsFront (Goes S) (codes "elim " ++ (name_at S g ++ codes " "))
  family-front g family = by (some-or-none (levels_left S (Elim g)))
    where
      by : SomeLeft (levels_left S (Elim g)) ⊎ NoneLeft (levels_left S (Elim g)) → IsFront (Goes S) (codes "elim " ++ (name_at S g ++ codes " "))
      by (inl some) = line-front S (codes "elim " ++ (name_at S g ++ codes " ")) (decimal some.0 ++ codes "\n") (RawEliminator g some.0) (simp append_assoc) (family, some.1)
      by (inr none) = front-of (Goes S) (codes "elim " ++ (name_at S g ++ codes " ")) [] (codes "elim " ++ (name_at S g ++ codes " ")) (append-nil (codes "elim " ++ (name_at S g ++ codes " "))) (inr (of_family g family none refl))

  pub eliminator-front : IsFront (Goes S) (codes "elim ")
  eliminator-front = by (eliminator-or-none S)
    where
      by : SomeEliminator S ⊎ NoEliminator S → IsFront (Goes S) (codes "elim ")
      by (inl some) = line-front S (codes "elim ") _ (RawEliminator some.0 some.2.0) refl (some.1, some.2.1)
      by (inr none) = front-of (Goes S) (codes "elim ") [] (codes "elim ") refl (inr (of_eliminators none refl))

  -- the name of a family, and what comes after it
  abbrev FamilyNamed : List ℕ → ℕ → List ℕ → Type 0
  FamilyNamed rest g r = (rest ≡ name_at S g ++ r) × IsFamilyNumber S g

  found-meets : (rest name past : List ℕ) (o : Option Term) → rest ≡ name ++ past → ((t : Term) → o ≡ Some t → term_text S t ≡ name) → ((g : ℕ) → o ≡ Some (Fam g) → IsFamilyNumber S g) → Meets (FamilyNamed rest) (Goes S) (codes "elim " ++ rest) (family_found o rest past)
  found-meets rest name past (Some (Fam g)) at is family = (at ∙ ap (λ s. s ++ past) (sym (is (Fam g) refl)), family g refl)
  found-meets rest name past _ at is family = meets-wrong (FamilyNamed rest) (Goes S) (codes "elim ") rest (codes "elim " ++ rest) refl eliminator-front

  family-meets : (rest : List ℕ) → Meets (FamilyNamed rest) (Goes S) (codes "elim " ++ rest) (family_name S rest)
  family-meets rest =
      let k = run_len rest in
      let name = take k rest in
      found-meets rest name (drop k rest) (found_symbol S (find S name)) (sym (take-append-drop k rest))
      (λ t e. found_symbol-written S S Itself name t e false) (λ g e. family-number S name g e)

  pub eliminator-meets : (rest : List ℕ) → Meets (Read S (codes "elim " ++ rest)) (Goes S) (codes "elim " ++ rest) (eliminator_at S rest)
  eliminator-meets rest =
      let whole = codes "elim " ++ rest in
      meets-on (FamilyNamed rest) (Read S whole) (Goes S) whole (family_name S rest) _ (family-meets rest)
      (λ g r1 fg. let at = ap (λ s. codes "elim " ++ s) fg.0 ∙ sym (append_assoc (codes "elim ") (name_at S g) r1) in
      let front = codes "elim " ++ name_at S g in
      let place = subst (IsFront (Goes S)) (sym (append_assoc (codes "elim ") (name_at S g) (codes " "))) (family-front g fg.1) in
      meets-word (Read S whole) (Goes S) front (codes " ") r1 whole _ at place
      (λ r2 fs. let past = at ∙ (ap (λ s. front ++ s) fs ∙ sym (append_assoc front (codes " ") r2)) in
      meets-on (Levelled (levels_left S (Elim g)) (Goes S) (front ++ codes " ") whole (fronts g fg.1) r2) (Read S whole) (Goes S) whole (read_level (levels_left S (Elim g)) r2) _
      (level-meets (levels_left S (Elim g)) (Goes S) (front ++ codes " ") whole (fronts g fg.1) r2 past place)
      (λ m r3 fm. ended-meets S whole ((front ++ codes " ") ++ decimal m) (RawEliminator g m) r3
      (past ∙ (ap (λ s. (front ++ codes " ") ++ s) fm.0 ∙ sym (append_assoc (front ++ codes " ") (decimal m) r3))) (five (codes "elim ") (name_at S g) (codes " ") (decimal m) (codes "\n")) (fg.1, fm.1))))
    where
      five : (a b c d e : List ℕ) → (((a ++ b) ++ c) ++ d) ++ e ≡ a ++ (b ++ (c ++ (d ++ e)))
      five a b c d e = simp append_assoc

      fronts : (g : ℕ) → IsFamilyNumber S g → (v : ℕ) → is_left (levels_left S (Elim g)) v ≡ true → IsFront (Goes S) (((codes "elim " ++ name_at S g) ++ codes " ") ++ decimal v)
      fronts g family v left = line-front S (((codes "elim " ++ name_at S g) ++ codes " ") ++ decimal v) (codes "\n") (RawEliminator g v) (five (codes "elim ") (name_at S g) (codes " ") (decimal v) (codes "\n")) (family, left)

  -- ---- axiom K

  module _ (has_k : S.has_k ≡ true) where
    pub axiom-front : IsFront (Goes S) (codes "axiomk ")
    axiom-front = by (some-or-none (identities_left S))
      where
        by : SomeLeft (identities_left S) ⊎ NoneLeft (identities_left S) → IsFront (Goes S) (codes "axiomk ")
        by (inl some) =
            let level = level-of-axiom S some.0 some.1 in
            line-front S (codes "axiomk ") (decimal some.0 ++ (codes " " ++ (decimal level.0 ++ codes "\n"))) (RawAxiomK some.0 level.0) refl (has_k, some.1, level.1)
        by (inr none) = front-of (Goes S) (codes "axiomk ") [] (codes "axiomk ") refl (inr (of_axiom_k has_k none refl))

    four : (a b c d : List ℕ) → ((a ++ b) ++ c) ++ d ≡ a ++ (b ++ (c ++ d))
    four a b c d = simp append_assoc

    five : (a b c d e : List ℕ) → (((a ++ b) ++ c) ++ d) ++ e ≡ a ++ (b ++ (c ++ (d ++ e)))
    five a b c d e = simp append_assoc

    number-front : (i : ℕ) → is_left (identities_left S) i ≡ true → IsFront (Goes S) ((codes "axiomk " ++ decimal i) ++ codes " ")
    number-front i left =
        let level = level-of-axiom S i left in
        line-front S ((codes "axiomk " ++ decimal i) ++ codes " ") (decimal level.0 ++ codes "\n") (RawAxiomK i level.0) (four (codes "axiomk ") (decimal i) (codes " ") (decimal level.0 ++ codes "\n")) (has_k, left, level.1)

    level-front : (i : ℕ) → is_left (identities_left S) i ≡ true → (m : ℕ) → is_left (levels_left S (AxiomK i)) m ≡ true → IsFront (Goes S) (((codes "axiomk " ++ decimal i) ++ codes " ") ++ decimal m)
    level-front i left m more = line-front S (((codes "axiomk " ++ decimal i) ++ codes " ") ++ decimal m) (codes "\n") (RawAxiomK i m) (five (codes "axiomk ") (decimal i) (codes " ") (decimal m) (codes "\n")) (has_k, left, more)

    identity-front : (i : ℕ) → is_left (identities_left S) i ≡ true → IsFront (Goes S) (codes "axiomk " ++ decimal i)
    identity-front i left = front-less (Goes S) (codes "axiomk " ++ decimal i) (codes " ") (number-front i left)

    pub axiom-meets : (rest : List ℕ) → Meets (Read S (codes "axiomk " ++ rest)) (Goes S) (codes "axiomk " ++ rest) (axiom_k_line S rest)
    axiom-meets rest =
        let whole = codes "axiomk " ++ rest in
        meets-on (Levelled (identities_left S) (Goes S) (codes "axiomk ") whole identity-front rest) (Read S whole) (Goes S) whole (read_level (identities_left S) rest) _
        (level-meets (identities_left S) (Goes S) (codes "axiomk ") whole identity-front rest refl axiom-front)
        (λ i r1 fi. let front = codes "axiomk " ++ decimal i in
        let at = ap (λ s. codes "axiomk " ++ s) fi.0 ∙ sym (append_assoc (codes "axiomk ") (decimal i) r1) in
        meets-word (Read S whole) (Goes S) front (codes " ") r1 whole _ at (number-front i fi.1)
        (λ r2 fs. let past = at ∙ (ap (λ s. front ++ s) fs ∙ sym (append_assoc front (codes " ") r2)) in
        meets-on (Levelled (levels_left S (AxiomK i)) (Goes S) (front ++ codes " ") whole (level-front i fi.1) r2) (Read S whole) (Goes S) whole (read_level (levels_left S (AxiomK i)) r2) _
        (level-meets (levels_left S (AxiomK i)) (Goes S) (front ++ codes " ") whole (level-front i fi.1) r2 past (number-front i fi.1))
        (λ m r3 fm. ended-meets S whole ((front ++ codes " ") ++ decimal m) (RawAxiomK i m) r3
        (past ∙ (ap (λ s. (front ++ codes " ") ++ s) fm.0 ∙ sym (append_assoc (front ++ codes " ") (decimal m) r3))) (five (codes "axiomk ") (decimal i) (codes " ") (decimal m) (codes "\n")) (has_k, fi.1, fm.1))))
