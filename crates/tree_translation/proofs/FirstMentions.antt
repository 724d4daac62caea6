-- Places that are numbered by their first mention: read again, they are mentioned in order.
use Rattle.std.proofs.Common.{◌≡◌, inl, inr, ℕ, suc, ◌+◌, ◌-◌, ◌<◌, ◌==◌, ◌||◌, nat_lt, Bool, true, false, cond, List, [], ◌∷◌, ◌++◌, map, length, refl, sym, ap, ap₂, ◌∙◌, arith, append_assoc}
use Rattle.std.proofs.lemmas.Bool.{true≢false}
use Rattle.std.proofs.lemmas.Bool.Decides.{nat_tests}
use Rattle.std.proofs.lemmas.List.{map-append, length-append}
use Rattle.theory.specs.Terms.{Term, Var, Sort, Pi, Lam, App, Let, Const, Fam, Con, Elim, AxiomK}
use Rattle.core_sig.specs.Settling.{renumbered}
use Rattle.tele_eq.specs.Levels.{is_among, place_in}
use Rattle.unification.proofs.Cases.{first-of_two, second-of_two, below-or_from}
use Rattle.unification.proofs.Levels.{place-before}
use Rattle.tree_translation.specs.Naming.{mentions, once, number_among}
use Rattle.tree_translation.specs.Standings.{levels_from}

-- ---- terms that are numbered anew

-- the mention of a constant that is numbered anew
pub mention-number : (base : ℕ) (places : List ℕ) (c : ℕ) → mentions base (Const (number_among base places c)) ≡ map (place_in places) (mentions base (Const c))
mention-number base places c = elim (below-or_from c base) [
  | inl lt ↦
      ap (λ n. mentions base (Const n)) (first-of_two c base c (base + place_in places (c - base)) lt)
      ∙ (first-of_two c base [] ((c - base) ∷ []) lt ∙ ap (map (place_in places)) (sym (first-of_two c base [] ((c - base) ∷ []) lt)))
  | inr le ↦
      let n = base + place_in places (c - base) in
      ap (λ n. mentions base (Const n)) (second-of_two c base c n le)
      ∙ (second-of_two n base [] ((n - base) ∷ []) (omega arith)
      ∙ (ap (λ place. place ∷ []) (omega arith)
      ∙ ap (map (place_in places)) (sym (second-of_two c base [] ((c - base) ∷ []) le))))
]

-- a term that is numbered by places mentions the places of the variables that it mentioned
pub mentions-numbered : (base : ℕ) (places : List ℕ) (t : Term) → mentions base (renumbered (number_among base places) t) ≡ map (place_in places) (mentions base t)
mentions-numbered base places (Pi a b) =
    ap₂ ◌++◌ (mentions-numbered base places a) (mentions-numbered base places b) ∙ sym (map-append (place_in places) (mentions base a) (mentions base b))
mentions-numbered base places (Lam a b) =
    ap₂ ◌++◌ (mentions-numbered base places a) (mentions-numbered base places b) ∙ sym (map-append (place_in places) (mentions base a) (mentions base b))
mentions-numbered base places (App f a) =
    ap₂ ◌++◌ (mentions-numbered base places f) (mentions-numbered base places a) ∙ sym (map-append (place_in places) (mentions base f) (mentions base a))
mentions-numbered base places (Let a t b) =
    ap₂ ◌++◌ (mentions-numbered base places a)
    (ap₂ ◌++◌ (mentions-numbered base places t) (mentions-numbered base places b) ∙ sym (map-append (place_in places) (mentions base t) (mentions base b)))
    ∙ sym (map-append (place_in places) (mentions base a) (mentions base t ++ mentions base b))
mentions-numbered base places (Const c) = mention-number base places c
mentions-numbered base places (Var n) = refl
mentions-numbered base places (Sort i) = refl
mentions-numbered base places (Fam n) = refl
mentions-numbered base places (Con n c) = refl
mentions-numbered base places (Elim n m) = refl
mentions-numbered base places (AxiomK i m) = refl

-- ---- each place once

pub among-append : (j : ℕ) (xs ys : List ℕ) → is_among j (xs ++ ys) ≡ (is_among j xs || is_among j ys)
among-append j [] ys = refl
among-append j (x ∷ xs) ys = by (x == j) (among-append j xs ys)
  where
    by : (b : Bool) → is_among j (xs ++ ys) ≡ (is_among j xs || is_among j ys)
        → (b || is_among j (xs ++ ys)) ≡ ((b || is_among j xs) || is_among j ys)
    by true e = refl
    by false e = e

-- after places that are not i, the place of i is their number
pub place-behind : (done rest : List ℕ) (i : ℕ) → is_among i done ≡ false → place_in (done ++ i ∷ rest) i ≡ length done
place-behind [] rest i h = by (i == i) (grind (arith, nat_tests))
  where
    by : (b : Bool) → b ≡ true → cond b 0 (place_in rest i + 1) ≡ 0
    by true e = refl
    by false e = absurd (true≢false (sym e))
place-behind (x ∷ done) rest i h = by (x == i) h (λ k. place-behind done rest i k)
  where
    by : (b : Bool) → (b || is_among i done) ≡ false → (is_among i done ≡ false → place_in (done ++ i ∷ rest) i ≡ length done)
        → cond b 0 (place_in (done ++ i ∷ rest) i + 1) ≡ suc (length done)
    by true k go = absurd (true≢false k)
    by false k go = let e = go k in omega arith

-- the places that were found, and the numbers that they have
pub record AreSeen (done seen numbers : List ℕ) : Type 0 where
  pub found : (j : ℕ) → is_among j seen ≡ is_among j done
  pub numbered : (j : ℕ) → is_among j numbers ≡ nat_lt j (length done)

pub seen-more : (done seen numbers : List ℕ) (i : ℕ) → AreSeen done seen numbers → AreSeen (done ++ i ∷ []) (i ∷ seen) (length done ∷ numbers)
seen-more done seen numbers i s = record {
  found = λ j. swap (i == j) (is_among j seen) (is_among j done) (s.found j) ∙ sym (among-append j done (i ∷ []));
  numbered = λ j. ap (λ b. (length done == j) || b) (s.numbered j) ∙ last (length done) j (length (done ++ i ∷ [])) (length-append done (i ∷ []));
}
  where
    swap : (a b c : Bool) → b ≡ c → (a || b) ≡ (c || (a || false))
    swap true b true e = refl
    swap true b false e = refl
    swap false b true e = e
    swap false b false e = e

    last : (n j m : ℕ) → m ≡ n + 1 → ((n == j) || nat_lt j n) ≡ nat_lt j m
    last n j m e = grind (arith, nat_tests)

-- Read by their places among those found, the places are found again, in order.
pub once-places : (done seen numbers places : List ℕ) → AreSeen done seen numbers
    → once numbers (map (place_in (done ++ once seen places)) places) ≡ levels_from (length done) (length (once seen places))
once-places done seen numbers [] s = refl
once-places done seen numbers (i ∷ places) s =
    by (is_among i seen) refl (once-places done seen numbers places s)
    (once-places (done ++ i ∷ []) (i ∷ seen) (length done ∷ numbers) places (seen-more done seen numbers i s))
  where
    by : (b : Bool) → is_among i seen ≡ b
        → once numbers (map (place_in (done ++ once seen places)) places) ≡ levels_from (length done) (length (once seen places))
        → once (length done ∷ numbers) (map (place_in ((done ++ i ∷ []) ++ once (i ∷ seen) places)) places)
        ≡ levels_from (length (done ++ i ∷ [])) (length (once (i ∷ seen) places))
        → once numbers (map (place_in (done ++ cond b (once seen places) (i ∷ once (i ∷ seen) places))) (i ∷ places))
        ≡ levels_from (length done) (length (cond b (once seen places) (i ∷ once (i ∷ seen) places)))
    by true e old new =
        let low : place_in (done ++ once seen places) i < length done = place-before done (once seen places) i (sym (s.found i) ∙ e) in
        let place = place_in (done ++ once seen places) i in
        let there : is_among place numbers ≡ true = s.numbered place ∙ grind (arith, nat_tests) in
        let others = map (place_in (done ++ once seen places)) places in
        ap (λ b. cond b (once numbers others) (place ∷ once (place ∷ numbers) others)) there ∙ old
    by false e old new =
        let rest = once (i ∷ seen) places in
        let here : place_in (done ++ i ∷ rest) i ≡ length done = place-behind done rest i (sym (s.found i) ∙ e) in
        let apart : is_among (length done) numbers ≡ false = s.numbered (length done) ∙ grind (arith, nat_tests) in
        rw here
        (ap (λ b. cond b (once numbers (map (place_in (done ++ i ∷ rest)) places))
        (length done ∷ once (length done ∷ numbers) (map (place_in (done ++ i ∷ rest)) places))) apart
        ∙ ap (λ others. length done ∷ others)
        (ap (λ xs. once (length done ∷ numbers) (map (place_in xs) places)) (sym (append_assoc done (i ∷ []) rest))
        ∙ (new ∙ ap (λ n. levels_from n (length rest)) (length-append done (i ∷ [])))))

-- the first mentions in a list, from its beginning, are numbered in order
pub once-in_order : (places : List ℕ) → once [] (map (place_in (once [] places)) places) ≡ levels_from 0 (length (once [] places))
once-in_order places = once-places [] [] [] places (record { found = λ j. refl; numbered = λ j. grind (arith, nat_tests) })
