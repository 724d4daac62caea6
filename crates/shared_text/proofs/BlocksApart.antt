-- No block begins another: the line feeds that end its lines separate it from what follows.
use Rattle.std.proofs.Common.{◌≡◌, ℕ, Bool, true, false, not, cond, List, [], ◌∷◌, ◌++◌, map, Option, Some, None, append_assoc, refl, sym, ap, ap₂, subst, ◌∙◌}
use Rattle.std.specs.Prelude.{codes, decimal, ◌==◌}
use Rattle.std.proofs.lemmas.Bool.{and_parts, false≢true}
use Rattle.theory.specs.Terms.{Term}
use Rattle.theory.specs.Terms.Term.{Var, Sort, Pi, Lam, App, Let, Const, Fam, Con, Elim, AxiomK}
use Rattle.theory.specs.Families.{Constructor, Family}
use Rattle.theory.specs.Telescopes.{Telescope}
use Rattle.theory.specs.Signatures.{Signature, Entry, names_of, FamilyOf, EliminatorAt, AxiomKAt, Definition}
use Rattle.core_text.specs.Lines.{is_in_line, AreInLine, HasNamesInLine}
use Rattle.core_text.specs.RawEntries.{constructor_line, constructor_type_shown, entry_shown, type_shown}
use Rattle.core_text.specs.SymbolNames.{name_at}
use Rattle.core_text.proofs.Feeds.{both, decimal-in, spelled-in}
use Rattle.shared_text.specs.BlockLaws.{BlocksAreApart}
use Rattle.shared_text.specs.BlockText.{constructors_by, entry_block, head_number, in_full, numbered, parameters_by, share_lines, shared_text, text_by}
use Rattle.shared_text.specs.PrintedTerms.{number_in, shared_terms, written_terms}

-- ---- no line feed but the one that ends a line

module _ (S : Signature) (names : HasNamesInLine S) (shared : List Term) where
  numbered-in : (o : Option ℕ) (text : List ℕ) → is_in_line text ≡ true → is_in_line (numbered o text) ≡ true
  numbered-in (Some n) text p = decimal-in n
  numbered-in None text p = p

  enclosed-in : (b : Bool) (text : List ℕ) → is_in_line text ≡ true → is_in_line (cond b text (codes "(" ++ text ++ codes ")")) ≡ true
  enclosed-in true text p = p
  enclosed-in false text p = both text (codes ")") p refl

  full-in : (is_function : Bool) (t : Term) → is_in_line (in_full S shared is_function t) ≡ true
  full-in b (Pi u v) =
      let us = shared_text S shared u in
      let vs = shared_text S shared v in
      both (us ++ codes " -> " ++ vs) (codes ")")
      (both (us ++ codes " -> ") vs (both us (codes " -> ") (numbered-in (number_in shared u) (in_full S shared false u) (full-in false u)) refl)
      (numbered-in (number_in shared v) (in_full S shared false v) (full-in false v))) refl
  full-in b (Lam u v) =
      let us = shared_text S shared u in
      let vs = shared_text S shared v in
      both (us ++ codes " . " ++ vs) (codes ")")
      (both (us ++ codes " . ") vs (both us (codes " . ") (numbered-in (number_in shared u) (in_full S shared false u) (full-in false u)) refl)
      (numbered-in (number_in shared v) (in_full S shared false v) (full-in false v))) refl
  full-in b (App f a) =
      let us = numbered (head_number shared f) (in_full S shared true f) in
      let vs = shared_text S shared a in
      enclosed-in b (us ++ codes " " ++ vs)
      (both (us ++ codes " ") vs (both us (codes " ") (numbered-in (head_number shared f) (in_full S shared true f) (full-in true f)) refl)
      (numbered-in (number_in shared a) (in_full S shared false a) (full-in false a)))
  full-in b (Let u t v) =
      let us = shared_text S shared u in
      let ts = shared_text S shared t in
      let vs = shared_text S shared v in
      both (us ++ codes " = " ++ ts ++ codes " . " ++ vs) (codes ")")
      (both (us ++ codes " = " ++ ts ++ codes " . ") vs
      (both (us ++ codes " = " ++ ts) (codes " . ")
      (both (us ++ codes " = ") ts (both us (codes " = ") (numbered-in (number_in shared u) (in_full S shared false u) (full-in false u)) refl)
      (numbered-in (number_in shared t) (in_full S shared false t) (full-in false t))) refl)
      (numbered-in (number_in shared v) (in_full S shared false v) (full-in false v))) refl
  full-in b (Var n) = spelled-in S names b (Var n)
  full-in b (Sort i) = spelled-in S names b (Sort i)
  full-in b (Const n) = spelled-in S names b (Const n)
  full-in b (Fam n) = spelled-in S names b (Fam n)
  full-in b (Con n c) = spelled-in S names b (Con n c)
  full-in b (Elim n m) = spelled-in S names b (Elim n m)
  full-in b (AxiomK i m) = spelled-in S names b (AxiomK i m)

  part-in : (t : Term) → is_in_line (shared_text S shared t) ≡ true
  part-in t = numbered-in (number_in shared t) (in_full S shared false t) (full-in false t)

  parameters-in : (tele : Telescope) → is_in_line (parameters_by (shared_text S shared) tele) ≡ true
  parameters-in [] = refl
  parameters-in (a ∷ tele) =
      both (shared_text S shared a ++ codes ")") (parameters_by (shared_text S shared) tele) (both (shared_text S shared a) (codes ")") (part-in a) refl) (parameters-in tele)

  constructors-in : (n : ℕ) (f : Family) (before : List ℕ) (cons : List Constructor) → is_in_line before ≡ true → AreInLine (map (λ c. c.name) cons)
      → is_in_line (constructors_by (shared_text S shared) before (map (constructor_line n f) cons)) ≡ true
  constructors-in n f before [] p own = refl
  constructors-in n f before (c ∷ cons) p own =
      let ty = shared_text S shared (constructor_type_shown n f c) in
      both (before ++ c.name ++ codes " : " ++ ty) (constructors_by (shared_text S shared) (codes " ; ") (map (constructor_line n f) cons))
      (both (before ++ c.name ++ codes " : ") ty (both (before ++ c.name) (codes " : ") (both before c.name p own.0) refl) (part-in (constructor_type_shown n f c)))
      (constructors-in n f (codes " ; ") cons refl own.1)

  line-in : (n : ℕ) (e : Entry) → AreInLine (names_of e) → is_in_line (text_by (shared_text S shared) S (entry_shown n e)) ≡ true
  line-in n (FamilyOf f) own =
      let ps = parameters_by (shared_text S shared) f.parameters in
      let ty = shared_text S shared (type_shown f) in
      let cs = constructors_by (shared_text S shared) (codes " ") (map (constructor_line n f) f.constructors) in
      both (f.name ++ ps ++ codes " : " ++ ty ++ codes " {" ++ cs) (codes " }")
      (both (f.name ++ ps ++ codes " : " ++ ty ++ codes " {") cs
      (both (f.name ++ ps ++ codes " : " ++ ty) (codes " {")
      (both (f.name ++ ps ++ codes " : ") ty (both (f.name ++ ps) (codes " : ") (both f.name ps own.0 (parameters-in f.parameters)) refl) (part-in (type_shown f))) refl)
      (constructors-in n f (codes " ") f.constructors refl own.1)) refl
  line-in n (EliminatorAt g m) own = both (name_at S g ++ codes " ") (decimal m) (both (name_at S g) (codes " ") (names.entries g) refl) (decimal-in m)
  line-in n (AxiomKAt i m) own = both (decimal i ++ codes " ") (decimal m) (both (decimal i) (codes " ") (decimal-in i) refl) (decimal-in m)
  line-in n (Definition name type body) own =
      both (name ++ codes " : " ++ shared_text S shared type ++ codes " = ") (shared_text S shared body)
      (both (name ++ codes " : " ++ shared_text S shared type) (codes " = ")
      (both (name ++ codes " : ") (shared_text S shared type) (both name (codes " : ") own.0 refl) (part-in type)) refl)
      (part-in body)

-- ---- lines one after the other

-- whether the text begins with the first letter of a line that shares a term
abbrev begins_share : List ℕ → Bool
begins_share [] = false
begins_share (b ∷ rest) = b == 115

-- lines that share terms, each of them in a line, and after them a last line
data IsBlock : List ℕ → Type 0 where
  Share : (line rest : List ℕ) → is_in_line line ≡ true → begins_share line ≡ true → IsBlock rest → IsBlock (line ++ 10 ∷ rest)
  Last : (line : List ℕ) → is_in_line line ≡ true → begins_share line ≡ false → IsBlock (line ++ 10 ∷ [])

no-feed : (y : ℕ) → not (y == 10) ≡ true → 10 ≡ y → ⊥
no-feed y other is = false≢true (subst (λ k. not (k == 10) ≡ true) (sym is) other)

-- texts that are equal begin with the same line, and the rests are equal
ends : (a b r s : List ℕ) → is_in_line a ≡ true → is_in_line b ≡ true → a ++ 10 ∷ r ≡ b ++ 10 ∷ s → (a ≡ b) × (r ≡ s)
ends [] [] r s p q is = (refl, cc)
ends [] (y ∷ b) r s p q is = absurd (no-feed y (and_parts (not (y == 10)) (is_in_line b) q).0 (cc))
ends (x ∷ a) [] r s p q is = absurd (no-feed x (and_parts (not (x == 10)) (is_in_line a) p).0 (cc))
ends (x ∷ a) (y ∷ b) r s p q is =
    let head : x ≡ y = cc in
    let tail : a ++ 10 ∷ r ≡ b ++ 10 ∷ s = cc in
    let rest = ends a b r s (and_parts (not (x == 10)) (is_in_line a) p).1 (and_parts (not (y == 10)) (is_in_line b) q).1 tail in
    (ap₂ ◌∷◌ head rest.0, rest.1)

module _ (r s : List ℕ) where
  -- texts that are equal and begin with blocks begin with the same
  same-block : (x : List ℕ) → IsBlock x → (y : List ℕ) → IsBlock y → x ++ r ≡ y ++ s → x ≡ y
  same-block _ (Share a x in_a is_a xs) _ (Share b y in_b is_b ys) is =
      let parts = ends a b (x ++ r) (y ++ s) in_a in_b (sym (append_assoc a (10 ∷ x) r) ∙ (is ∙ append_assoc b (10 ∷ y) s)) in
      ap₂ (λ line rest. line ++ 10 ∷ rest) parts.0 (same-block x xs y ys parts.1)
  same-block _ (Share a x in_a is_a xs) _ (Last b in_b is_b) is =
      let parts = ends a b (x ++ r) s in_a in_b (sym (append_assoc a (10 ∷ x) r) ∙ (is ∙ append_assoc b (10 ∷ []) s)) in
      absurd (false≢true (sym is_b ∙ (sym (ap begins_share parts.0) ∙ is_a)))
  same-block _ (Last a in_a is_a) _ (Share b y in_b is_b ys) is =
      let parts = ends a b r (y ++ s) in_a in_b (sym (append_assoc a (10 ∷ []) r) ∙ (is ∙ append_assoc b (10 ∷ y) s)) in
      absurd (false≢true (sym is_a ∙ (ap begins_share parts.0 ∙ is_b)))
  same-block _ (Last a in_a is_a) _ (Last b in_b is_b) is =
      let parts = ends a b r s in_a in_b (sym (append_assoc a (10 ∷ []) r) ∙ (is ∙ append_assoc b (10 ∷ []) s)) in
      ap (λ line. line ++ codes "\n") parts.0

module _ (S : Signature) (names : HasNamesInLine S) (shared : List Term) where
  last-begins : (n : ℕ) (e : Entry) → begins_share (text_by (shared_text S shared) S (entry_shown n e)) ≡ false
  last-begins n (FamilyOf f) = refl
  last-begins n (EliminatorAt g m) = refl
  last-begins n (AxiomKAt i m) = refl
  last-begins n (Definition name type body) = refl

  shares-then : (ts : List Term) (rest : List ℕ) → IsBlock rest → IsBlock (share_lines S shared ts ++ rest)
  shares-then [] rest last = last
  shares-then (t ∷ ts) rest last =
      let line = codes "share " ++ in_full S shared false t in
      let text : line ++ 10 ∷ (share_lines S shared ts ++ rest) ≡ line ++ codes "\n" ++ share_lines S shared ts ++ rest =
      sym (append_assoc (line ++ codes "\n") (share_lines S shared ts) rest ∙ append_assoc line (codes "\n") (share_lines S shared ts ++ rest)) in
      subst IsBlock text (Share line (share_lines S shared ts ++ rest) (full-in S names shared false t) refl (shares-then ts rest last))

is-block : (S : Signature) (n : ℕ) (e : Entry) → HasNamesInLine S → AreInLine (names_of e) → IsBlock (entry_block S n e)
is-block S n e names own =
    let shared = shared_terms (written_terms (entry_shown n e)) in
    shares-then S names shared shared (text_by (shared_text S shared) S (entry_shown n e) ++ codes "\n")
    (Last (text_by (shared_text S shared) S (entry_shown n e)) (line-in S names shared n e own) (last-begins S names shared n e))

pub blocks_are_apart : BlocksAreApart
blocks_are_apart S T n m e f r s names others own theirs is =
    same-block r s (entry_block S n e) (is-block S n e names own) (entry_block T m f) (is-block T m f others theirs) is
