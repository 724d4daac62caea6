-- Core text of terms and entries holds no line feed but the one that ends a line.
use Rattle.std.proofs.Common.{◌≡◌, ℕ, zero, suc, ◌+◌, ◌<◌, ◌/◌, ◌%◌, Bool, true, false, not, cond, List, [], ◌∷◌, ◌++◌, map, append_assoc, refl, sym, ap, ap₂, subst, ◌∙◌, arith}
use Rattle.std.specs.Prelude.{codes, decimal, nat_lt, ◌==◌, if◌then◌else◌}
use Rattle.std.specs.Fmt.{digits, digits_onto, digit_glyph}
use Rattle.std.proofs.lemmas.Bool.{and_from, and_parts, false≢true}
use Rattle.std.proofs.lemmas.Bool.Decides.{nat_tests}
use Rattle.theory.specs.Terms.{Term, Var, Sort, Pi, Lam, App, Let, Const, Fam, Con, Elim, AxiomK}
use Rattle.theory.specs.Families.{Constructor, Family}
use Rattle.theory.specs.Telescopes.{Telescope}
use Rattle.theory.specs.Signatures.{Entry, FamilyOf, EliminatorAt, AxiomKAt, Definition, Signature, names_of}
use Rattle.core_text.specs.EntryText.{entry_text, parameters_text, constructors_text}
use Rattle.core_text.specs.Lines.{is_in_line, AreInLine, HasNamesInLine, LinesAreApart}
use Rattle.core_text.specs.RawEntries.{constructor_line, constructor_type_shown, type_shown}
use Rattle.core_text.specs.SymbolNames.{name_at}
use Rattle.core_text.specs.TermText.{spelled, term_text}

-- texts without line feeds, one after the other
pub both : (xs ys : List ℕ) → is_in_line xs ≡ true → is_in_line ys ≡ true → is_in_line (xs ++ ys) ≡ true
both [] ys p q = q
both (x ∷ xs) ys p q =
    let parts = and_parts (not (x == 10)) (is_in_line xs) p in and_from (not (x == 10)) (is_in_line (xs ++ ys)) parts.0 (both xs ys parts.1 q)

apart : (k d : ℕ) → 10 < k → not (k + d == 10) ≡ true
apart k d high = grind (arith, nat_tests)

glyph-in : (d : ℕ) → not (digit_glyph false d == 10) ≡ true
glyph-in d =
    elim (nat_lt d 10) as (λ small. not ((if small then 48 + d else (if false then 55 + d else 87 + d)) == 10) ≡ true) [
      | true ↦ apart 48 d (omega arith)
      | false ↦ apart 87 d (omega arith)
    ]

either : (b : Bool) (xs ys : List ℕ) → is_in_line xs ≡ true → is_in_line ys ≡ true → is_in_line (if b then xs else ys) ≡ true
either true xs ys p q = p
either false xs ys p q = q

digits-in : (k n : ℕ) (acc : List ℕ) → is_in_line acc ≡ true → is_in_line (digits_onto k 10 false n acc) ≡ true
digits-in zero n acc p = p
digits-in (suc k) n acc p =
    let more = and_from (not (digit_glyph false (n % 10) == 10)) (is_in_line acc) (glyph-in (n % 10)) p in
    either (n / 10 == 0) (digit_glyph false (n % 10) ∷ acc) (digits_onto k 10 false (n / 10) (digit_glyph false (n % 10) ∷ acc)) more (digits-in k (n / 10) (digit_glyph false (n % 10) ∷ acc) more)

pub decimal-in : (n : ℕ) → is_in_line (decimal n) ≡ true
unfolding digits
decimal-in n = digits-in 64 n [] refl

enclosed-in : (b : Bool) (text : List ℕ) → is_in_line text ≡ true → is_in_line (cond b text (codes "(" ++ text ++ codes ")")) ≡ true
enclosed-in true text p = p
enclosed-in false text p = both text (codes ")") p refl

-- a text in an opening and after it a closing one
pub spelled-in : (S : Signature) → HasNamesInLine S → (b : Bool) (t : Term) → is_in_line (spelled S b t) ≡ true
spelled-in S names b (Var n) = decimal-in n
spelled-in S names b (Sort i) = decimal-in i
spelled-in S names b (Pi u v) =
    both (spelled S false u ++ codes " -> " ++ spelled S false v) (codes ")")
    (both (spelled S false u ++ codes " -> ") (spelled S false v) (both (spelled S false u) (codes " -> ") (spelled-in S names false u) refl) (spelled-in S names false v)) refl
spelled-in S names b (Lam u v) =
    both (spelled S false u ++ codes " . " ++ spelled S false v) (codes ")")
    (both (spelled S false u ++ codes " . ") (spelled S false v) (both (spelled S false u) (codes " . ") (spelled-in S names false u) refl) (spelled-in S names false v)) refl
spelled-in S names b (App f a) =
    enclosed-in b (spelled S true f ++ codes " " ++ spelled S false a)
    (both (spelled S true f ++ codes " ") (spelled S false a) (both (spelled S true f) (codes " ") (spelled-in S names true f) refl) (spelled-in S names false a))
spelled-in S names b (Let u t v) =
    both (spelled S false u ++ codes " = " ++ spelled S false t ++ codes " . " ++ spelled S false v) (codes ")")
    (both (spelled S false u ++ codes " = " ++ spelled S false t ++ codes " . ") (spelled S false v)
    (both (spelled S false u ++ codes " = " ++ spelled S false t) (codes " . ")
    (both (spelled S false u ++ codes " = ") (spelled S false t) (both (spelled S false u) (codes " = ") (spelled-in S names false u) refl) (spelled-in S names false t)) refl)
    (spelled-in S names false v)) refl
spelled-in S names b (Const n) = names.entries n
spelled-in S names b (Fam n) = names.entries n
spelled-in S names b (Con n c) = names.constructors n c
spelled-in S names b (Elim n m) = both (name_at S n ++ codes "!elim.") (decimal m) (both (name_at S n) (codes "!elim.") (names.entries n) refl) (decimal-in m)
spelled-in S names b (AxiomK i m) = both (decimal i ++ codes "!k.") (decimal m) (both (decimal i) (codes "!k.") (decimal-in i) refl) (decimal-in m)

parameters-in : (S : Signature) → HasNamesInLine S → (tele : Telescope) → is_in_line (parameters_text S tele) ≡ true
parameters-in S names [] = refl
parameters-in S names (a ∷ tele) =
    both (term_text S a ++ codes ")") (parameters_text S tele) (both (term_text S a) (codes ")") (spelled-in S names false a) refl) (parameters-in S names tele)

constructors-in : (S : Signature) → HasNamesInLine S → (n : ℕ) (f : Family) (before : List ℕ) (cons : List Constructor) → is_in_line before ≡ true → AreInLine (map (λ c. c.name) cons) → is_in_line (constructors_text S before (map (constructor_line n f) cons)) ≡ true
constructors-in S names n f before [] p own = refl
constructors-in S names n f before (c ∷ cons) p own =
    let ty = term_text S (constructor_type_shown n f c) in
    both (before ++ c.name ++ codes " : " ++ ty) (constructors_text S (codes " ; ") (map (constructor_line n f) cons))
    (both (before ++ c.name ++ codes " : ") ty (both (before ++ c.name) (codes " : ") (both before c.name p own.0) refl) (spelled-in S names false (constructor_type_shown n f c)))
    (constructors-in S names n f (codes " ; ") cons refl own.1)

pub text-in : (S : Signature) → HasNamesInLine S → (n : ℕ) (e : Entry) → AreInLine (names_of e) → is_in_line (entry_text S n e) ≡ true
text-in S names n (FamilyOf f) own =
    let ps = parameters_text S f.parameters in
    let ty = term_text S (type_shown f) in
    let cs = constructors_text S (codes " ") (map (constructor_line n f) f.constructors) in
    both (f.name ++ ps ++ codes " : " ++ ty ++ codes " {" ++ cs) (codes " }")
    (both (f.name ++ ps ++ codes " : " ++ ty ++ codes " {") cs
    (both (f.name ++ ps ++ codes " : " ++ ty) (codes " {")
    (both (f.name ++ ps ++ codes " : ") ty (both (f.name ++ ps) (codes " : ") (both f.name ps own.0 (parameters-in S names f.parameters)) refl) (spelled-in S names false (type_shown f))) refl)
    (constructors-in S names n f (codes " ") f.constructors refl own.1)) refl
text-in S names n (EliminatorAt family m) own = both (name_at S family ++ codes " ") (decimal m) (both (name_at S family) (codes " ") (names.entries family) refl) (decimal-in m)
text-in S names n (AxiomKAt i m) own = both (decimal i ++ codes " ") (decimal m) (both (decimal i) (codes " ") (decimal-in i) refl) (decimal-in m)
text-in S names n (Definition name type body) own =
    both (name ++ codes " : " ++ term_text S type ++ codes " = ") (term_text S body)
    (both (name ++ codes " : " ++ term_text S type) (codes " = ")
    (both (name ++ codes " : ") (term_text S type) (both name (codes " : ") own.0 refl) (spelled-in S names false type)) refl)
    (spelled-in S names false body)

no-feed : (y : ℕ) → not (y == 10) ≡ true → 10 ≡ y → ⊥
no-feed y other is = false≢true (subst (λ k. not (k == 10) ≡ true) (sym is) other)

-- a text ends at its first line feed
ends : (a b r s : List ℕ) → is_in_line a ≡ true → is_in_line b ≡ true → a ++ 10 ∷ r ≡ b ++ 10 ∷ s → a ≡ b
ends [] [] r s p q is = refl
ends [] (y ∷ b) r s p q is = absurd (no-feed y (and_parts (not (y == 10)) (is_in_line b) q).0 (cc))
ends (x ∷ a) [] r s p q is = absurd (no-feed x (and_parts (not (x == 10)) (is_in_line a) p).0 (cc))
ends (x ∷ a) (y ∷ b) r s p q is =
    let head : x ≡ y = cc in
    let tail : a ++ 10 ∷ r ≡ b ++ 10 ∷ s = cc in
    ap₂ ◌∷◌ head (ends a b r s (and_parts (not (x == 10)) (is_in_line a) p).1 (and_parts (not (y == 10)) (is_in_line b) q).1 tail)

pub lines_are_apart : LinesAreApart
lines_are_apart S T n m e f r s names others own theirs is =
    ap (λ t. t ++ codes "\n")
    (ends (entry_text S n e) (entry_text T m f) r s (text-in S names n e own) (text-in T others m f theirs)
    (sym (append_assoc (entry_text S n e) (codes "\n") r) ∙ (is ∙ append_assoc (entry_text T m f) (codes "\n") s)))
