-- Which lines are core lines.
use Rattle.std.proofs.Common.{◌≡◌, ◌≢◌, ℕ, zero, suc, ◌+◌, Bool, true, false, List, [], ◌∷◌, ◌++◌, drop, codes, Option, Some, None, Result, Ok, refl, sym, ap, subst, ◌∙◌}
use Rattle.std.specs.Prelude.{slice_get, if◌then◌else◌, IfOk}
use Rattle.theory.specs.Signatures.{Entry, FamilyOf, EliminatorAt, AxiomKAt, Definition, Signature}
use Rattle.core_text.specs.EntryText.{entry_text}
use Rattle.elim.specs.elim_program.Headline.{is_core, core_lines}
use Rattle.elim.specs.elim_program.Outputs.{line_of, entry_lines, accepted_line, head_lines}

pub if_ok : {A : Type 0} {E : Type 0} (P : A → Type 0) (r : Result A E) (a : A) → r ≡ Ok a → IfOk r P → P a
if_ok {A} {E} P r a e h = let R : Result A E → Type 0 = λ x. IfOk x P in subst R e h

-- all lines are core lines
unfoldable pub AreCore : List (List ℕ) → Type 0
AreCore [] = Unit {0}
AreCore (line ∷ lines) = (is_core line ≡ true) × AreCore lines

entry-core : (S : Signature) (n : ℕ) (e : Entry) → is_core (entry_text S n e) ≡ true
entry-core S n (FamilyOf f) = refl
entry-core S n (EliminatorAt family m) = refl
entry-core S n (AxiomKAt i m) = refl
entry-core S n (Definition name type body) = refl

line-core : (S : Signature) (n : ℕ) (o : Option Entry) → is_core (line_of S n o) ≡ true
line-core S n (Some e) = entry-core S n e
line-core S n None = refl

pub entries-core : (S : Signature) (n count : ℕ) → AreCore (entry_lines S n count)
unfolding AreCore
entries-core S n zero = tt
entries-core S n (suc count) = (line-core S n (slice_get S.entries n), entries-core S (n + 1) count)

-- core lines stay, and what begins with `#` goes
pub core-lines-core : (xs ys : List (List ℕ)) → AreCore xs → core_lines (xs ++ ys) ≡ xs ++ core_lines ys
unfolding AreCore
core-lines-core [] ys h = refl
core-lines-core (x ∷ xs) ys h = keep (is_core x) h.0 ∙ ap (λ ls. x ∷ ls) (core-lines-core xs ys h.1)
  where
    keep : (b : Bool) → b ≡ true → (if b then x ∷ core_lines (xs ++ ys) else core_lines (xs ++ ys)) ≡ x ∷ core_lines (xs ++ ys)
    keep true e = refl
    keep false e = cc

pub core-lines-append : (xs ys : List (List ℕ)) → core_lines (xs ++ ys) ≡ core_lines xs ++ core_lines ys
core-lines-append [] ys = refl
core-lines-append (x ∷ xs) ys = go (is_core x) (core-lines-append xs ys)
  where
    go : (b : Bool) → core_lines (xs ++ ys) ≡ core_lines xs ++ core_lines ys
        → (if b then x ∷ core_lines (xs ++ ys) else core_lines (xs ++ ys)) ≡ (if b then x ∷ core_lines xs else core_lines xs) ++ core_lines ys
    go true h = ap (λ ls. x ∷ ls) h
    go false h = h

-- The third character sets lines of acceptance apart from those of refusal.
unfoldable pub third : List ℕ → ℕ
third (a ∷ b ∷ c ∷ cs) = c
third _ = 0

unfoldable pub first_line : List (List ℕ) → List ℕ
first_line [] = []
first_line (line ∷ lines) = line

pub not_empty : (front back : List (List ℕ)) (line : List ℕ) → [] ≡ front ++ line ∷ back → ⊥
not_empty [] back line e = cc
not_empty (x ∷ front) back line e = cc

-- one line is no other, by the third character
pub not_one : (other line : List ℕ) (front back : List (List ℕ)) → third other ≢ third line → other ∷ [] ≡ front ++ line ∷ back → ⊥
unfolding first_line
not_one other line [] back h e = h (ap (λ ls. third (first_line ls)) e)
not_one other line (x ∷ front) back h e = not_empty front back line (ap (drop 1) e)

-- the head lines are none that has another third character
pub after_heads : (k : Bool) (rest above below : List (List ℕ)) (line : List ℕ) → third line ≢ 105 → third line ≢ 101 → head_lines k ++ rest ≡ above ++ line ∷ below →
    (later : List (List ℕ)) × (above ≡ head_lines k ++ later) × (rest ≡ later ++ line ∷ below)
unfolding third first_line
after_heads k rest [] below line h g e = absurd (h (sym (ap (λ ls. third (first_line ls)) e)))
after_heads true rest (x ∷ []) below line h g e = absurd (g (sym (ap (λ ls. third (first_line (drop 1 ls))) e)))
after_heads false rest (x ∷ []) below line h g e = absurd (g (sym (ap (λ ls. third (first_line (drop 1 ls))) e)))
after_heads k rest (x ∷ y ∷ above) below line h g e =
    (above, ap (λ l. l ∷ y ∷ above) (sym (ap first_line e)) ∙ ap (λ l. codes "elim 1" ∷ l ∷ above) (sym (ap (λ ls. first_line (drop 1 ls)) e)), ap (drop 2) e)

-- lines that say of nothing that it is accepted
abbrev pub IsOther : List ℕ → Type 0
IsOther line = (name : List ℕ) → line ≡ accepted_line name → ⊥

unfoldable pub AreOther : List (List ℕ) → Type 0
AreOther [] = Unit {0}
AreOther (line ∷ lines) = IsOther line × AreOther lines

core-not : (line name : List ℕ) → is_core line ≡ true → line ≡ accepted_line name → ⊥
core-not line name h e = let k : is_core (accepted_line name) ≡ true = sym (ap is_core e) ∙ h in cc

pub core-other : (lines : List (List ℕ)) → AreCore lines → AreOther lines
unfolding AreCore AreOther
core-other [] h = tt
core-other (line ∷ lines) h = (λ name e. core-not line name h.0 e, core-other lines h.1)

pub both-other : (xs ys : List (List ℕ)) → AreOther xs → AreOther ys → AreOther (xs ++ ys)
unfolding AreOther
both-other [] ys h k = k
both-other (x ∷ xs) ys h k = (h.0, both-other xs ys h.1 k)

-- none of them is accepted
pub none_accepted : (lines above below : List (List ℕ)) (name : List ℕ) → AreOther lines → lines ≡ above ++ accepted_line name ∷ below → ⊥
unfolding AreOther first_line
none_accepted [] above below name h e = not_empty above below (accepted_line name) e
none_accepted (x ∷ xs) [] below name h e = h.0 name (ap first_line e)
none_accepted (x ∷ xs) (y ∷ above) below name h e = none_accepted xs above below name h.1 (ap (drop 1) e)

-- lines that begin with `#`
unfoldable pub AreNotes : List (List ℕ) → Type 0
AreNotes [] = Unit {0}
AreNotes (line ∷ lines) = (is_core line ≡ false) × AreNotes lines

pub both-notes : (xs ys : List (List ℕ)) → AreNotes xs → AreNotes ys → AreNotes (xs ++ ys)
unfolding AreNotes
both-notes [] ys h k = k
both-notes (x ∷ xs) ys h k = (h.0, both-notes xs ys h.1 k)

pub core-lines-notes : (lines : List (List ℕ)) → AreNotes lines → core_lines lines ≡ []
unfolding AreNotes
core-lines-notes [] h = refl
core-lines-notes (x ∷ xs) h = drop_it (is_core x) h.0 ∙ core-lines-notes xs h.1
  where
    drop_it : (b : Bool) → b ≡ false → (if b then x ∷ core_lines xs else core_lines xs) ≡ core_lines xs
    drop_it true e = cc
    drop_it false e = refl

-- A line of acceptance after other lines and one of acceptance: it is that one, or it comes after it.
pub data Found (xs rest front back : List (List ℕ)) (n name : List ℕ) : Type 0 where
  here : front ≡ xs → n ≡ name → rest ≡ back → Found xs rest front back n name
  later_on : (later : List (List ℕ)) → front ≡ xs ++ accepted_line n ∷ later → rest ≡ later ++ accepted_line name ∷ back → Found xs rest front back n name

pub find : (xs rest front back : List (List ℕ)) (n name : List ℕ) → AreOther xs → xs ++ accepted_line n ∷ rest ≡ front ++ accepted_line name ∷ back
    → Found xs rest front back n name
unfolding AreOther first_line
find [] rest [] back n name h e = here refl (ap (λ ls. drop 11 (first_line ls)) e) (ap (drop 1) e)
find [] rest (x ∷ front) back n name h e = later_on front (ap (λ l. l ∷ front) (sym (ap first_line e))) (ap (drop 1) e)
find (x ∷ xs) rest [] back n name h e = absurd (h.0 name (ap first_line e))
find (x ∷ xs) rest (y ∷ front) back n name h e =
    let same : x ≡ y = ap first_line e in go (find xs rest front back n name h.1 (ap (drop 1) e)) same
  where
    go : Found xs rest front back n name → x ≡ y → Found (x ∷ xs) rest (y ∷ front) back n name
    go (here f m r) same = here (ap (λ ls. y ∷ ls) f ∙ ap (λ l. l ∷ xs) (sym same)) m r
    go (later_on later f r) same = later_on later (ap (λ ls. y ∷ ls) f ∙ ap (λ l. l ∷ (xs ++ accepted_line n ∷ later)) (sym same)) r
