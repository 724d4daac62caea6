-- The dependants of a variable that is seen are those of the whole context that are seen.
use Rattle.std.proofs.Common.{◌≡◌, ℕ, zero, suc, ◌+◌, ◌-◌, ◌<◌, ◌||◌, inl, inr, Bool, true, false, cond, List, [], ◌∷◌, length, map, take, drop, get_or, refl, sym, ap, ap₂, ◌∙◌, subst, arith}
use Rattle.std.proofs.lemmas.Bool.{true≢false}
use Rattle.std.proofs.lemmas.List.{length-take-le}
use Rattle.theory.specs.Terms.{Term}
use Rattle.theory.specs.Telescopes.{Telescope}
use Rattle.tele_eq.specs.Dependences.{has_variable}
use Rattle.tele_eq.specs.Levels.{is_among, has_level}
use Rattle.tele_eq.proofs.Carrying.{IsFrom}
use Rattle.unification.specs.Occurrences.{without, dependants_from, dependants}
use Rattle.unification.proofs.Cases.{here-or_below}
use Rattle.unification.proofs.Levels.{among-cases, among-own}
use Rattle.case_trees.proofs.SolvedOrders.{not-equal}
use Rattle.tree_translation.specs.Standings.{placed, levels_from}
use Rattle.tree_translation.specs.Hidden.{visible}
use Rattle.tree_translation.specs.Conditions.{IsSeen}
use Rattle.tree_translation.proofs.LevelLists.{from-each, from-without, climbs, rises}
use Rattle.tree_translation.proofs.SeenTerms.{AreBelow}
use Rattle.tree_translation.proofs.SeenOccurrences.{position-of, position-there, level-in, in-level}
use Rattle.tree_translation.proofs.SeenContexts.{SeenFrom, seen-all, seen-behind}

-- a search in the whole context finds the same visible variables as one in the visible part
record Finds (V : List ℕ) (at' at : ℕ) (found' found : List ℕ) : Type 0 where
  levels : (j : ℕ) → j < at → get_or V j 0 < at'
  low' : (q : ℕ) → is_among q found' ≡ true → q < at'
  low : (j : ℕ) → is_among j found ≡ true → j < at
  same : (j : ℕ) → j < at → is_among (get_or V j 0) found' ≡ is_among j found

among-other : (j i : ℕ) (levels : List ℕ) → (i ≡ j → ⊥) → is_among j (i ∷ levels) ≡ is_among j levels
among-other j i levels other = ap (λ b. b || is_among j levels) (not-equal i j other)

-- a variable that is not seen is found or not
finds-hidden : (V : List ℕ) (at' at : ℕ) (found' found : List ℕ) → Finds V at' at found' found → Finds V (at' + 1) at (at' ∷ found') found
finds-hidden V at' at found' found f = record {
  levels = λ j lt. let low : get_or V j 0 < at' = f.levels j lt in omega arith;
  low' = λ q h. elim (among-cases q at' found' h) [
    | inl e ↦ omega arith
    | inr k ↦ let low : q < at' = f.low' q k in omega arith
  ];
  low = f.low;
  same = λ j lt. let low : get_or V j 0 < at' = f.levels j lt in among-other (get_or V j 0) at' found' (λ e. omega arith) ∙ f.same j lt;
}

finds-later : (V : List ℕ) (at' at : ℕ) (found' found : List ℕ) → Finds V at' at found' found → Finds V (at' + 1) at found' found
finds-later V at' at found' found f = record {
  levels = λ j lt. let low : get_or V j 0 < at' = f.levels j lt in omega arith;
  low' = λ q h. let low : q < at' = f.low' q h in omega arith;
  low = f.low;
  same = f.same;
}

-- a variable that is seen is found in both
finds-both : (V : List ℕ) (at' at : ℕ) (found' found : List ℕ) → get_or V at 0 ≡ at' → Finds V at' at found' found → Finds V (at' + 1) (at + 1) (at' ∷ found') (at ∷ found)
finds-both V at' at found' found own f = record {
  levels = λ j lt. elim (here-or_below j at lt) [
    | inl e ↦ let v : get_or V j 0 ≡ at' = ap (λ i. get_or V i 0) e ∙ own in omega arith
    | inr less ↦ let low : get_or V j 0 < at' = f.levels j less in omega arith
  ];
  low' = λ q h. elim (among-cases q at' found' h) [
    | inl e ↦ omega arith
    | inr k ↦ let low : q < at' = f.low' q k in omega arith
  ];
  low = λ j h. elim (among-cases j at found h) [
    | inl e ↦ omega arith
    | inr k ↦ let low : j < at = f.low j k in omega arith
  ];
  same = λ j lt. elim (here-or_below j at lt) [
    | inl e ↦
        subst (λ i. is_among i (at' ∷ found') ≡ true) (sym (ap (λ i. get_or V i 0) e ∙ own)) (among-own at' found')
        ∙ sym (subst (λ i. is_among j (i ∷ found) ≡ true) e (among-own j found))
    | inr less ↦
        let low : get_or V j 0 < at' = f.levels j less in
        among-other (get_or V j 0) at' found' (λ e. omega arith) ∙ (f.same j less ∙ sym (among-other j at found (λ e. omega arith)))
  ];
}

-- or in neither
finds-neither : (V : List ℕ) (at' at : ℕ) (found' found : List ℕ) → get_or V at 0 ≡ at' → Finds V at' at found' found → Finds V (at' + 1) (at + 1) found' found
finds-neither V at' at found' found own f = record {
  levels = λ j lt. elim (here-or_below j at lt) [
    | inl e ↦ let v : get_or V j 0 ≡ at' = ap (λ i. get_or V i 0) e ∙ own in omega arith
    | inr less ↦ let low : get_or V j 0 < at' = f.levels j less in omega arith
  ];
  low' = λ q h. let low : q < at' = f.low' q h in omega arith;
  low = λ j h. let low : j < at = f.low j h in omega arith;
  same = λ j lt. elim (here-or_below j at lt) [
    | inl e ↦ not-there (get_or V j 0) found' (λ h. let low : get_or V j 0 < at' = f.low' (get_or V j 0) h in let v : get_or V j 0 ≡ at' = ap (λ i. get_or V i 0) e ∙ own in omega arith)
        ∙ sym (not-there j found (λ h. let low : j < at = f.low j h in omega arith))
    | inr less ↦ f.same j less
  ];
}
  where
    not-there : (j : ℕ) (levels : List ℕ) → (is_among j levels ≡ true → ⊥) → is_among j levels ≡ false
    not-there j levels not = by (is_among j levels) refl
      where
        by : (b : Bool) → is_among j levels ≡ b → b ≡ false
        by true h = absurd (not h)
        by false h = refl

same-test : (a b : Bool) → (a ≡ true → b ≡ true) → (b ≡ true → a ≡ true) → a ≡ b
same-test true true f g = refl
same-test true false f g = sym (f refl)
same-test false true f g = g refl
same-test false false f g = refl

-- a type of the visible part mentions a found variable exactly if it does so in the whole context
same-mentions : (V : List ℕ) (at' at : ℕ) (found' found : List ℕ) (a : Term) → at < length V → Finds V at' at found' found
    → has_level at' found' (placed (take at V) at' a) ≡ has_level at found a
same-mentions V at' at found' found a within f =
    same-test _ _
    (λ h.
    let l = level-in at' found' (placed (take at V) at' a) h in
    let low : l.q < at' = f.low' l.q l.among in
    let p = position-of (take at V) at' l.q a below low l.occurs in
    let total : length (take at V) ≡ at = long in
    let j : p.j < at = omega (arith, p.within) in
    let level : get_or V p.j 0 ≡ l.q = sym (get-take V at p.j j) ∙ p.level in
    in-level at found a p.j (sym (f.same p.j j) ∙ (ap (λ q. is_among q found') level ∙ l.among))
    (ap (λ n. has_variable (n - (p.j + 1)) a) (sym long) ∙ p.occurs))
    (λ h.
    let l = level-in at found a h in
    let low : l.q < at = f.low l.q l.among in
    let total : length (take at V) ≡ at = long in
    let there = position-there (take at V) at' l.q a below (omega arith) (ap (λ n. has_variable (n - (l.q + 1)) a) long ∙ l.occurs) in
    in-level at' found' (placed (take at V) at' a) (get_or V l.q 0) (f.same l.q low ∙ l.among)
    (ap (λ q. has_variable (at' - (q + 1)) (placed (take at V) at' a)) (sym (get-take V at l.q low)) ∙ there))
  where
    long : length (take at V) ≡ at
    long = length-take-le at V (omega arith)

    get-take : (xs : List ℕ) (n j : ℕ) → j < n → get_or (take n xs) j 0 ≡ get_or xs j 0
    get-take xs zero j lt = absurd (omega arith)
    get-take [] (suc n) j lt = refl
    get-take (x ∷ xs) (suc n) zero lt = refl
    get-take (x ∷ xs) (suc n) (suc j) lt = get-take xs n j (omega arith)

    below : AreBelow (take at V) at'
    below j lt =
        let total : length (take at V) ≡ at = long in
        let low : get_or V j 0 < at' = f.levels j (omega arith) in
        subst (λ q. q < at') (sym (get-take V at j (omega arith))) low

-- the dependants that are seen
seen-dependants : (V hid : List ℕ) (at' at : ℕ) (whole others : Telescope) (found' found : List ℕ) → SeenFrom V hid at' at whole others → Finds V at' at found' found
    → without hid (dependants_from at' found' whole) ≡ map (λ j. get_or V j 0) (dependants_from at found others)
seen-dependants V hid at' at [] [] found' found SeenFrom.none f = refl
seen-dependants V hid at' at [] (a ∷ others) found' found h f = elim h [ ]
seen-dependants V hid at' at (a' ∷ whole) others found' found (SeenFrom.unseen b rest) f =
    by (has_level at' found' a')
    (seen-dependants V hid (at' + 1) at whole others (at' ∷ found') found rest (finds-hidden V at' at found' found f))
    (seen-dependants V hid (at' + 1) at whole others found' found rest (finds-later V at' at found' found f))
  where
    by : (t : Bool) → without hid (dependants_from (at' + 1) (at' ∷ found') whole) ≡ map (λ j. get_or V j 0) (dependants_from at found others)
        → without hid (dependants_from (at' + 1) found' whole) ≡ map (λ j. get_or V j 0) (dependants_from at found others)
        → without hid (cond t (at' ∷ dependants_from (at' + 1) (at' ∷ found') whole) (dependants_from (at' + 1) found' whole))
        ≡ map (λ j. get_or V j 0) (dependants_from at found others)
    by true one other =
        ap (λ t. cond t (without hid (dependants_from (at' + 1) (at' ∷ found') whole)) (at' ∷ without hid (dependants_from (at' + 1) (at' ∷ found') whole))) b ∙ one
    by false one other = other
seen-dependants V hid at' at (a' ∷ whole) (a ∷ others) found' found (SeenFrom.beside b own within type rest) f =
    ap (λ t. without hid (cond t (at' ∷ dependants_from (at' + 1) (at' ∷ found') whole) (dependants_from (at' + 1) found' whole)))
    (ap (has_level at' found') type ∙ same-mentions V at' at found' found a within f)
    ∙ by (has_level at found a)
    (seen-dependants V hid (at' + 1) (at + 1) whole others (at' ∷ found') (at ∷ found) rest (finds-both V at' at found' found own f))
    (seen-dependants V hid (at' + 1) (at + 1) whole others found' found rest (finds-neither V at' at found' found own f))
  where
    by : (t : Bool)
        → without hid (dependants_from (at' + 1) (at' ∷ found') whole) ≡ map (λ j. get_or V j 0) (dependants_from (at + 1) (at ∷ found) others)
        → without hid (dependants_from (at' + 1) found' whole) ≡ map (λ j. get_or V j 0) (dependants_from (at + 1) found others)
        → without hid (cond t (at' ∷ dependants_from (at' + 1) (at' ∷ found') whole) (dependants_from (at' + 1) found' whole))
        ≡ map (λ j. get_or V j 0) (cond t (at ∷ dependants_from (at + 1) (at ∷ found) others) (dependants_from (at + 1) found others))
    by true one other =
        ap (λ t. cond t (without hid (dependants_from (at' + 1) (at' ∷ found') whole)) (at' ∷ without hid (dependants_from (at' + 1) (at' ∷ found') whole))) b
        ∙ ap₂ ◌∷◌ (sym own) one
    by false one other = other

-- the dependants of a variable that is seen
pub dependants-seen : (context : Telescope) (hid : List ℕ) (others : Telescope) (p' p : ℕ) → IsSeen context hid others → p < length others
    → get_or (visible (length context) hid) p 0 ≡ p' → is_among p' hid ≡ false → p' < length context
    → without hid (dependants context p') ≡ map (λ j. get_or (visible (length context) hid) j 0) (dependants others p)
dependants-seen context hid others p' p is lt own not low =
    let a : p' + 1 - 0 ≡ p' + 1 = omega arith in
    let b : p + 1 - 0 ≡ p + 1 = omega arith in
    seen-dependants V hid (p' + 1) (p + 1) (drop (p' + 1) context) (drop (p + 1) others) (p' ∷ []) (p ∷ [])
    (subst (λ k. SeenFrom V hid (p' + 1) (p + 1) (drop k context) (drop (p + 1) others)) a
    (subst (λ k. SeenFrom V hid (p' + 1) (p + 1) (drop (p' + 1 - 0) context) (drop k others)) b
    (seen-behind V hid 0 0 context others p' p (seen-all context hid others is) rising (omega (arith, is.count)) own not (omega arith) (omega arith) (omega arith) (omega arith))))
    (record { levels = levels; low' = only p'; low = only p; same = same })
  where
    V : List ℕ
    V = visible (length context) hid

    rising : IsFrom 0 (visible (length context) hid)
    rising = from-without 0 hid (levels_from 0 (length context)) (from-each 0 (length context))

    only : (q j : ℕ) → is_among j (q ∷ []) ≡ true → j < q + 1
    only q j h = elim (among-cases j q [] h) [
      | inl e ↦ omega arith
      | inr k ↦ absurd (true≢false (sym k))
    ]

    inside : p < length (visible (length context) hid)
    inside = omega (arith, is.count)

    levels : (j : ℕ) → j < p + 1 → get_or V j 0 < p' + 1
    levels j less = let le = rises 0 V j p rising (omega arith) inside in omega (arith, le, own)

    same : (j : ℕ) → j < p + 1 → is_among (get_or V j 0) (p' ∷ []) ≡ is_among j (p ∷ [])
    same j less = elim (here-or_below j p less) [
      | inl e ↦
          subst (λ q. is_among q (p' ∷ []) ≡ true) (sym (ap (λ i. get_or V i 0) e ∙ own)) (among-own p' [])
          ∙ sym (subst (λ q. is_among j (q ∷ []) ≡ true) e (among-own j []))
      | inr low ↦
          let apart : get_or V j 0 < get_or V p 0 = climbs 0 V j p rising low inside in
          among-other (get_or V j 0) p' [] (λ e. omega (arith, own)) ∙ sym (among-other j p [] (λ e. omega arith))
    ]
