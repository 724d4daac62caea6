-- A block says the line of version 1 of its entry.
use Rattle.std.proofs.Common.{◌≡◌, ℕ, true, false, List, [], ◌∷◌, ◌++◌, map, append_assoc, append-nil, refl, sym, ap, subst, subst₂, ◌∙◌}
use Rattle.std.specs.Prelude.{codes, decimal}
use Rattle.std.proofs.lemmas.List.{map-append}
use Rattle.std.proofs.lemmas.Bool.{and_parts}
use Rattle.theory.specs.Terms.{Term}
use Rattle.theory.specs.Families.{Constructor, Family}
use Rattle.theory.specs.Telescopes.{Telescope}
use Rattle.theory.specs.Signatures.{Signature, Entry, names_of, FamilyOf, EliminatorAt, AxiomKAt, Definition}
use Rattle.core_text.specs.EntryText.{parameters_text, constructors_text, entry_text, entry_line}
use Rattle.core_text.specs.RawEntries.{RawEntry, constructor_line, constructor_type_shown, entry_shown, type_shown}
use Rattle.core_text.specs.SymbolNames.{name_at}
use Rattle.core_text.specs.TermText.{term_text}
use Rattle.shared_text.specs.BlockText.{constructors_by, in_full, parameters_by, share_lines, shared_text, text_by}
use Rattle.shared_text.specs.Expansions.{AreWithoutDollar, BlocksSayTheLine, Expands, HasNamesWithoutDollar, Line, Nothing, Says, Share, begins_with_digit, is_without_dollar}
use Rattle.shared_text.specs.PrintedTerms.{is_among, is_shared, number_in, printed_terms, shared_terms, written_terms}
use Rattle.shared_text.proofs.EarlierTerms.{AreReady, number-text, numbered-there, shared-ready}
use Rattle.shared_text.proofs.Expanding.{Becomes, BecomesAtEnd, HasText, at-end, both, decimal-without, full, shared-part, stays, then-bytes, then-end, then-piece}
use Rattle.shared_text.proofs.Joined.{IsIn, in-left, in-right, in-last}
use Rattle.shared_text.proofs.PrintedEnds.{inner}
use Rattle.shared_text.proofs.PrintedParts.{filter-members}

-- ---- lines

module _ (S : Signature) (names : HasNamesWithoutDollar S) (texts : List (List ℕ)) (text : Term → List ℕ) where
  abbrev IsPart : Term → Type 0
  IsPart t = BecomesAtEnd texts (text t) (term_text S t)

  abbrev AreParts : List Term → Type 0
  AreParts ts = (t : Term) → IsIn t ts → IsPart t

  head-part : (t : Term) (ts : List Term) → AreParts (t ∷ ts) → IsPart t
  head-part t ts parts = parts t (in-left (t ∷ []) ts t (in-last [] t))

  rest-parts : (t : Term) (ts : List Term) → AreParts (t ∷ ts) → AreParts ts
  rest-parts t ts parts u h = parts u (in-right (t ∷ []) ts u h)

  parameters : (tele : Telescope) → AreParts tele → Becomes texts (parameters_by text tele) (parameters_text S tele)
  parameters [] parts = stays texts [] refl
  parameters (a ∷ tele) parts =
      let first = then-end texts (codes " (") (codes " (") (text a) (term_text S a) (stays texts (codes " (") refl) (head-part a tele parts) in
      let second = then-bytes texts (codes " (" ++ text a) (codes " (" ++ term_text S a) (codes ")") (λ rest. refl) refl first in
      then-piece texts (codes " (" ++ text a ++ codes ")") (codes " (" ++ term_text S a ++ codes ")") (parameters_by text tele) (parameters_text S tele)
      second (parameters tele (rest-parts a tele parts))

  -- after the type of a constructor come other constructors or the end
  end-stops : (n : ℕ) (f : Family) (cons : List Constructor) (rest : List ℕ) → begins_with_digit rest ≡ false
      → begins_with_digit (constructors_by text (codes " ; ") (map (constructor_line n f) cons) ++ rest) ≡ false
  end-stops n f [] rest stops = stops
  end-stops n f (c ∷ cons) rest stops = refl

  constructors : (n : ℕ) (f : Family) (before : List ℕ) (cons : List Constructor) → is_without_dollar before ≡ true → AreWithoutDollar (map (λ c. c.name) cons)
      → AreParts (map (λ c. c.type) (map (constructor_line n f) cons))
      → BecomesAtEnd texts (constructors_by text before (map (constructor_line n f) cons)) (constructors_text S before (map (constructor_line n f) cons))
  constructors n f before [] plain own parts rest out stops more = more
  constructors n f before (c ∷ cons) plain own parts rest out stops more =
      let t = constructor_type_shown n f c in
      let ts = map (λ k. k.type) (map (constructor_line n f) cons) in
      let start = before ++ c.name ++ codes " : " in
      let us = constructors_by text (codes " ; ") (map (constructor_line n f) cons) in
      let vs = constructors_text S (codes " ; ") (map (constructor_line n f) cons) in
      let plain_start : is_without_dollar start ≡ true = both (before ++ c.name) (codes " : ") (both before c.name plain own.0) refl in
      let first = then-end texts start start (text t) (term_text S t) (stays texts start plain_start) (head-part t ts parts) in
      subst₂ (Expands texts) (sym (append_assoc (start ++ text t) us rest)) (sym (append_assoc (start ++ term_text S t) vs out))
      (first (us ++ rest) (vs ++ out) (end-stops n f cons rest stops)
      (constructors n f (codes " ; ") cons refl own.1 (rest-parts t ts parts) rest out stops more))

  whole : (us vs : List ℕ) → BecomesAtEnd texts us vs → Expands texts (us ++ codes "\n") (vs ++ codes "\n")
  whole us vs one = one (codes "\n") (codes "\n") refl (stays texts (codes "\n") refl [] [] Nothing)

  family : (n : ℕ) (f : Family) → AreWithoutDollar (names_of (FamilyOf f)) → AreParts (written_terms (entry_shown n (FamilyOf f)))
      → BecomesAtEnd texts (text_by text S (entry_shown n (FamilyOf f))) (entry_text S n (FamilyOf f))
  family n f own parts =
      let types = map (λ c. c.type) (map (constructor_line n f) f.constructors) in
      let t = type_shown f in
      let cs = map (constructor_line n f) f.constructors in
      let start = codes "data " ++ f.name in
      let ps = parameters_by text f.parameters in
      let qs = parameters_text S f.parameters in
      let zero = stays texts start own.0 in
      let one = then-piece texts start start ps qs zero (parameters f.parameters (λ u h. parts u (in-left f.parameters (t ∷ types) u h))) in
      let two = then-piece texts (start ++ ps) (start ++ qs) (codes " : ") (codes " : ") one (stays texts (codes " : ") refl) in
      let three = then-end texts (start ++ ps ++ codes " : ") (start ++ qs ++ codes " : ") (text t) (term_text S t) two
      (parts t (in-right f.parameters (t ∷ types) t (in-left (t ∷ []) types t (in-last [] t)))) in
      let four = then-bytes texts (start ++ ps ++ codes " : " ++ text t) (start ++ qs ++ codes " : " ++ term_text S t) (codes " {") (λ rest. refl) refl three in
      let us = start ++ ps ++ codes " : " ++ text t ++ codes " {" in
      let vs = start ++ qs ++ codes " : " ++ term_text S t ++ codes " {" in
      let five = then-end texts us vs (constructors_by text (codes " ") cs) (constructors_text S (codes " ") cs) four
      (constructors n f (codes " ") f.constructors refl own.1 (λ u h. parts u (in-right f.parameters (t ∷ types) u (in-right (t ∷ []) types u h)))) in
      at-end texts (us ++ constructors_by text (codes " ") cs ++ codes " }") (vs ++ constructors_text S (codes " ") cs ++ codes " }")
      (then-bytes texts (us ++ constructors_by text (codes " ") cs) (vs ++ constructors_text S (codes " ") cs) (codes " }") (λ rest. refl) refl five)

  definition : (name : List ℕ) (type body : Term) → is_without_dollar name ≡ true → AreParts (type ∷ body ∷ [])
      → BecomesAtEnd texts (codes "def " ++ name ++ codes " : " ++ text type ++ codes " = " ++ text body)
      (codes "def " ++ name ++ codes " : " ++ term_text S type ++ codes " = " ++ term_text S body)
  definition name type body own parts =
      let start = codes "def " ++ name ++ codes " : " in
      let plain : is_without_dollar start ≡ true = both (codes "def " ++ name) (codes " : ") (both (codes "def ") name refl own) refl in
      let one = then-end texts start start (text type) (term_text S type) (stays texts start plain) (head-part type (body ∷ []) parts) in
      let two = then-bytes texts (start ++ text type) (start ++ term_text S type) (codes " = ") (λ rest. refl) refl one in
      then-end texts (start ++ text type ++ codes " = ") (start ++ term_text S type ++ codes " = ") (text body) (term_text S body) two
      (head-part body [] (rest-parts type (body ∷ []) parts))

  line : (n : ℕ) (e : Entry) → AreWithoutDollar (names_of e) → AreParts (written_terms (entry_shown n e))
      → BecomesAtEnd texts (text_by text S (entry_shown n e)) (entry_text S n e)
  line n (FamilyOf f) own parts = family n f own parts
  line n (EliminatorAt g m) own parts =
      let t = codes "elim " ++ name_at S g ++ codes " " ++ decimal m in
      at-end texts t t (stays texts t (both (codes "elim " ++ name_at S g ++ codes " ") (decimal m) (both (codes "elim " ++ name_at S g) (codes " ") (names.entries g) refl) (decimal-without m)))
  line n (AxiomKAt i m) own parts =
      let t = codes "axiomk " ++ decimal i ++ codes " " ++ decimal m in
      at-end texts t t (stays texts t (both (codes "axiomk " ++ decimal i ++ codes " ") (decimal m) (both (codes "axiomk " ++ decimal i) (codes " ") (decimal-without i) refl) (decimal-without m)))
  line n (Definition name type body) own parts = definition name type body own.0 parts

-- ---- blocks

module _ (S : Signature) (names : HasNamesWithoutDollar S) (raw : RawEntry) where
  abbrev written : List Term
  written = written_terms raw

  abbrev shared : List Term
  shared = shared_terms written

  abbrev texts_of : List Term → List (List ℕ)
  texts_of ts = map (term_text S) ts

  shared-passes : (u : Term) → IsIn u shared → is_shared written u ≡ true
  shared-passes u h =
      (and_parts (is_among (printed_terms written) u) (is_shared written u) (sym (filter-members (is_shared written) (printed_terms written) u) ∙ h)).1

  -- the line of a shared term that comes after others
  share-line : (done : List Term) (t : Term) (ts : List Term) → shared ≡ done ++ t ∷ ts
      → ((u : Term) → IsIn u (inner t) → is_shared written u ≡ true → IsIn u done) → Expands (texts_of done) (in_full S shared false t) (term_text S t)
  share-line done t ts is before =
      subst₂ (Expands (texts_of done)) (append-nil (in_full S shared false t)) (append-nil (term_text S t))
      (full S names shared (texts_of done) false t has [] [] refl Nothing)
    where
      has : (u : Term) → IsIn u (inner t) → HasText S names shared (texts_of done) u
      has u below n at =
          number-text (term_text S) done (t ∷ ts) u n (before u below (shared-passes u (numbered-there shared u n at))) (sym (ap (λ xs. number_in xs u) is) ∙ at)

  shares : (done ts : List Term) (rest whole : List ℕ) → shared ≡ done ++ ts → AreReady (is_shared written) done ts → Says (texts_of shared) rest whole
      → Says (texts_of done) (share_lines S shared ts ++ rest) whole
  shares done [] rest whole is ready more = subst (λ xs. Says (texts_of xs) rest whole) (is ∙ append-nil done) more
  shares done (t ∷ ts) rest whole is ready more =
      let next = shares (done ++ t ∷ []) ts rest whole (is ∙ sym (append_assoc done (t ∷ []) ts)) ready.1 more in
      let texts : texts_of (done ++ t ∷ []) ≡ texts_of done ++ term_text S t ∷ [] = map-append (term_text S) done (t ∷ []) in
      subst (λ block. Says (texts_of done) block whole) (sym (append_assoc (codes "share " ++ in_full S shared false t ++ codes "\n") (share_lines S shared ts) rest))
      (Share (texts_of done) (in_full S shared false t) (term_text S t) (share_lines S shared ts ++ rest) whole (share-line done t ts is ready.0)
      (subst (λ xs. Says xs (share_lines S shared ts ++ rest) whole) texts next))

  -- a shared term has its text
  pub has-text : (u : Term) → HasText S names shared (texts_of shared) u
  has-text u n at =
      number-text (term_text S) shared [] u n (numbered-there shared u n at) (ap (λ xs. number_in xs u) (append-nil shared) ∙ at)

pub blocks_say_the_line : BlocksSayTheLine
blocks_say_the_line S n e names own =
    let raw = entry_shown n e in
    let shared = shared_terms (written_terms raw) in
    let texts = map (term_text S) shared in
    let text = shared_text S shared in
    let last : Says texts (text_by text S raw ++ codes "\n") (entry_line S n e) =
    Line texts (text_by text S raw ++ codes "\n") (entry_line S n e)
    (whole S names texts text (text_by text S raw) (entry_text S n e)
    (line S names texts text n e own (λ t h. shared-part S names shared texts t (λ u k. has-text S names raw u)))) in
    shares S names raw [] shared (text_by text S raw ++ codes "\n") (entry_line S n e) refl (shared-ready (written_terms raw)) last
