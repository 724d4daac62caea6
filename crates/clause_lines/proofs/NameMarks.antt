-- How the names of proofs of clauses end: otherwise than those of generated entries and of instances.
use Rattle.std.proofs.Common.{◌≡◌, ℕ, zero, suc, ◌+◌, ◌≤◌, ◌/◌, ◌%◌, ◌==◌, Bool, true, false, cond, nat_lt, List, [], ◌∷◌, ◌++◌, codes, refl, sym, ap, ◌∙◌, arith}
use Rattle.std.specs.Fmt.{decimal, digits, digits_onto, digit_glyph}
use Rattle.std.proofs.lemmas.Bool.{ne_eqb}
use Rattle.theory.specs.PreludeFamilies.{level_text}
use Rattle.core_text.specs.SymbolNames.{axiom_k_name, eliminator_name}
use Rattle.clause_reports.specs.Generated.{Generated, name_of}
use Rattle.clause_reports.specs.Generated.Generated.{Case, Below, Aux, Rec, All, ConfusionType, NoConfusion, Direct, Acyclic, Left}
use Rattle.generators.specs.noconf_gen.NoConfusionTypes.{constructor_name}
use Rattle.proof_walks.specs.proof_terms.CodeProofs.{name_made}

-- ---- marks

-- 46 after a `.`, 33 after a `!`, and the byte that follows a `!`
abbrev marked_by : (mark b : ℕ) → ℕ
marked_by mark b = cond (b == 46) 46 (cond (b == 33) 33 (cond (mark == 33) b mark))

abbrev pub mark_after : (mark : ℕ) → List ℕ → ℕ
mark_after mark [] = mark
mark_after mark (b ∷ bytes) = mark_after (marked_by mark b) bytes

mark-append : (mark : ℕ) (xs ys : List ℕ) → mark_after mark (xs ++ ys) ≡ mark_after (mark_after mark xs) ys
mark-append mark [] ys = refl
mark-append mark (b ∷ xs) ys = mark-append (marked_by mark b) xs ys

-- ---- digits

abbrev AreDigits : List ℕ → Type 0
AreDigits [] = Unit {0}
AreDigits (b ∷ bytes) = (48 ≤ b) × AreDigits bytes

digit-keeps : (mark b : ℕ) → ¬ (mark ≡ 33) → 48 ≤ b → marked_by mark b ≡ mark
digit-keeps mark b other large =
    ap (λ x. cond x 46 (cond (b == 33) 33 (cond (mark == 33) b mark))) (ne_eqb b 46 (λ e. omega arith))
    ∙ ap (λ x. cond x 33 (cond (mark == 33) b mark)) (ne_eqb b 33 (λ e. omega arith))
    ∙ ap (λ x. cond x b mark) (ne_eqb mark 33 other)

digits-keep : (mark : ℕ) → ¬ (mark ≡ 33) → (bytes : List ℕ) → AreDigits bytes → mark_after mark bytes ≡ mark
digits-keep mark other [] h = refl
digits-keep mark other (b ∷ bytes) h =
    ap (λ m. mark_after m bytes) (digit-keeps mark b other h.0) ∙ digits-keep mark other bytes h.1

glyph-large : (d : ℕ) → 48 ≤ digit_glyph false d
glyph-large d = by (nat_lt d 10)
  where
    by : (b : Bool) → 48 ≤ cond b (48 + d) (87 + d)
    by true = omega arith
    by false = omega arith

onto-digits : (k n : ℕ) (acc : List ℕ) → AreDigits acc → AreDigits (digits_onto k 10 false n acc)
onto-digits zero n acc h = h
onto-digits (suc k) n acc h = by (n / 10 == 0) (onto-digits k (n / 10) (digit_glyph false (n % 10) ∷ acc) (glyph-large (n % 10), h))
  where
    by : (b : Bool) → AreDigits (digits_onto k 10 false (n / 10) (digit_glyph false (n % 10) ∷ acc))
        → AreDigits (cond b (digit_glyph false (n % 10) ∷ acc) (digits_onto k 10 false (n / 10) (digit_glyph false (n % 10) ∷ acc)))
    by true rest = (glyph-large (n % 10), h)
    by false rest = rest

decimal-digits : (n : ℕ) → AreDigits (decimal n)
unfolding digits
decimal-digits n = onto-digits 64 n [] tt

level-digits : (i : ℕ) → AreDigits (level_text i)
level-digits i = by (nat_lt i 10)
  where
    by : (b : Bool) → AreDigits (cond b ((48 + i) ∷ []) ((48 + i / 10) ∷ (48 + i % 10) ∷ []))
    by true = (omega arith, tt)
    by false = (omega arith, (omega arith, tt))

-- ---- names

-- no proof of a clause has this name
abbrev pub IsOther : List ℕ → Type 0
IsOther name = ¬ (mark_after 0 name ≡ 99)

dot-other : (name : List ℕ) → mark_after 0 name ≡ 46 → IsOther name
dot-other name e h = absurd (omega (arith, e, h))

-- bytes that end in a dot, and digits after them
dotted : (text bytes : List ℕ) → AreDigits bytes → mark_after 0 text ≡ 46 → IsOther (text ++ bytes)
dotted text bytes h e = dot-other (text ++ bytes)
    (mark-append 0 text bytes ∙ ap (λ m. mark_after m bytes) e ∙ digits-keep 46 (λ k. omega arith) bytes h)

-- a family's name, a mark and a level
leveled : (family mark : List ℕ) (bytes : List ℕ) → AreDigits bytes → ((m : ℕ) → mark_after m mark ≡ 46) → IsOther ((family ++ mark) ++ bytes)
leveled family mark bytes h ends = dotted (family ++ mark) bytes h (mark-append 0 family mark ∙ ends (mark_after 0 family))

dot-ends : (mark constructor : List ℕ) (m : ℕ) → mark_after m ((mark ++ constructor) ++ codes ".") ≡ 46
dot-ends mark constructor m = mark-append m (mark ++ constructor) (codes ".")

-- a name with a mark at its end
marked-other : (family mark : List ℕ) (k : ℕ) → ¬ (k ≡ 99) → ((m : ℕ) → mark_after m mark ≡ k) → IsOther (family ++ mark)
marked-other family mark k other ends h = absurd (other (sym (mark-append 0 family mark ∙ ends (mark_after 0 family)) ∙ h))

pub generated-other : (g : Generated) → IsOther (name_of g)
generated-other (Case n f m) = leveled f.name (codes "!case.") (level_text m) (level-digits m) (λ k. refl)
generated-other (Below n f m) = leveled f.name (codes "!below.") (level_text m) (level-digits m) (λ k. refl)
generated-other (Aux n f m) = leveled f.name (codes "!aux.") (level_text m) (level-digits m) (λ k. refl)
generated-other (Rec n f m) = leveled f.name (codes "!rec.") (level_text m) (level-digits m) (λ k. refl)
generated-other (All n f m) = leveled f.name (codes "!all.") (level_text m) (level-digits m) (λ k. refl)
generated-other (ConfusionType n f number m) =
    leveled f.name ((codes "!nct." ++ constructor_name f number) ++ codes ".") (level_text m) (level-digits m) (dot-ends (codes "!nct.") (constructor_name f number))
generated-other (NoConfusion n f number m) =
    leveled f.name ((codes "!noconf." ++ constructor_name f number) ++ codes ".") (level_text m) (level-digits m)
    (dot-ends (codes "!noconf.") (constructor_name f number))
generated-other (Direct n f) = marked-other f.name (codes "!direct") 100 (λ k. omega arith) (λ k. refl)
generated-other (Acyclic n f) = marked-other f.name (codes "!acyclic") 97 (λ k. omega arith) (λ k. refl)
generated-other (Left i m) = leveled (codes "Eq." ++ level_text i) (codes "!left.") (level_text m) (level-digits m) (λ k. refl)

pub eliminator-other : (family : List ℕ) (m : ℕ) → IsOther (eliminator_name family m)
eliminator-other family m = leveled family (codes "!elim.") (decimal m) (decimal-digits m) (λ k. refl)

pub axiom_k-other : (i m : ℕ) → IsOther (axiom_k_name i m)
axiom_k-other i m = leveled (codes "Eq." ++ decimal i) (codes "!k.") (decimal m) (decimal-digits m) (λ k. refl)

-- the name of the proof of a clause
pub clause-marked : (part : List ℕ) (clause : ℕ) → mark_after 0 (name_made part clause) ≡ 99
clause-marked part clause =
    mark-append 0 (part ++ codes "!c") (decimal (clause + 1)) ∙ ap (λ m. mark_after m (decimal (clause + 1))) (mark-append 0 part (codes "!c"))
    ∙ digits-keep 99 (λ k. omega arith) (decimal (clause + 1)) (decimal-digits (clause + 1))
