-- A whole context beside its visible part, from a variable on.
use Rattle.std.proofs.Common.{◌≡◌, ℕ, suc, ◌+◌, ◌-◌, ◌<◌, ◌≤◌, inl, inr, Bool, true, false, cond, Some, List, [], ◌∷◌, ◌++◌, length, take, drop, get_or, slice_get, refl, sym, ap, ap₂, ◌∙◌, subst, append_assoc, arith}
use Rattle.std.proofs.lemmas.Bool.{true≢false}
use Rattle.std.proofs.lemmas.List.{length-append}
use Rattle.theory.specs.Terms.{Term}
use Rattle.theory.specs.Telescopes.{Telescope}
use Rattle.tele_eq.specs.Items.{term_at}
use Rattle.tele_eq.specs.Levels.{is_among}
use Rattle.tele_eq.proofs.Carrying.{IsFrom}
use Rattle.unification.specs.Occurrences.{without}
use Rattle.unification.proofs.Cases.{here-or_below}
use Rattle.unification.proofs.Levels.{among-from}
use Rattle.tree_translation.specs.Standings.{placed, levels_from}
use Rattle.tree_translation.specs.Hidden.{visible}
use Rattle.tree_translation.specs.Conditions.{IsSeen}
use Rattle.tree_translation.proofs.LevelLists.{at-among, there-get, from-each, from-without, from-apart}

-- The types from level `at'` on of a whole context, beside those from level `at` on of its visible part. V has the levels that are visible.
pub data SeenFrom (V hid : List ℕ) : (at' at : ℕ) → (whole seen : Telescope) → Type 0 where
  none : {at' at : ℕ} → SeenFrom V hid at' at [] []
  unseen : {at' at : ℕ} {a' : Term} {whole seen : Telescope} → is_among at' hid ≡ true → SeenFrom V hid (at' + 1) at whole seen
      → SeenFrom V hid at' at (a' ∷ whole) seen
  beside : {at' at : ℕ} {a' a : Term} {whole seen : Telescope} → is_among at' hid ≡ false → get_or V at 0 ≡ at' → at < length V
      → a' ≡ placed (take at V) at' a → SeenFrom V hid (at' + 1) (at + 1) whole seen → SeenFrom V hid at' at (a' ∷ whole) (a ∷ seen)

get-middle : (xs ys : List ℕ) (y : ℕ) → get_or (xs ++ y ∷ ys) (length xs) 0 ≡ y
get-middle [] ys y = refl
get-middle (x ∷ xs) ys y = get-middle xs ys y

seen-from : (V hid : List ℕ) (at' at : ℕ) (whole seen : Telescope) (done : List ℕ) → V ≡ done ++ without hid (levels_from at' (length whole))
    → length done ≡ at → length seen ≡ length (without hid (levels_from at' (length whole)))
    → ((j p : ℕ) → slice_get (without hid (levels_from at' (length whole))) j ≡ Some p
    → term_at whole (p - at') ≡ placed (take (at + j) V) p (term_at seen j))
    → SeenFrom V hid at' at whole seen
seen-from V hid at' at [] [] done e d count each = SeenFrom.none
seen-from V hid at' at [] (a ∷ seen) done e d count each = absurd (omega arith)
seen-from V hid at' at (a' ∷ whole) seen done e d count each =
    by (is_among at' hid) refl seen e count each
    (λ others done' e' d' count' each'. seen-from V hid (at' + 1) at whole others done' e' d' count' each')
    (λ others done' e' d' count' each'. seen-from V hid (at' + 1) (at + 1) whole others done' e' d' count' each')
  where
    rest : List ℕ
    rest = without hid (levels_from (at' + 1) (length whole))

    further : (j p : ℕ) → slice_get (without hid (levels_from (at' + 1) (length whole))) j ≡ Some p → at' + 1 ≤ p
    further j p h =
        among-from (at' + 1) (without hid (levels_from (at' + 1) (length whole)))
        (from-without (at' + 1) hid (levels_from (at' + 1) (length whole)) (from-each (at' + 1) (length whole))) p
        (at-among (without hid (levels_from (at' + 1) (length whole))) j p h)

    shift : (p : ℕ) → at' + 1 ≤ p → term_at whole (p - (at' + 1)) ≡ term_at (a' ∷ whole) (p - at')
    shift p le = let f : suc (p - (at' + 1)) ≡ p - at' = omega arith in ap (term_at (a' ∷ whole)) f

    by : (b : Bool) → is_among at' hid ≡ b → (seen : Telescope) → V ≡ done ++ cond b rest (at' ∷ rest) → length seen ≡ length (cond b rest (at' ∷ rest))
        → ((j p : ℕ) → slice_get (cond b rest (at' ∷ rest)) j ≡ Some p → term_at (a' ∷ whole) (p - at') ≡ placed (take (at + j) V) p (term_at seen j))
        → ((others : Telescope) (done' : List ℕ) → V ≡ done' ++ rest → length done' ≡ at → length others ≡ length rest
        → ((j p : ℕ) → slice_get rest j ≡ Some p → term_at whole (p - (at' + 1)) ≡ placed (take (at + j) V) p (term_at others j))
        → SeenFrom V hid (at' + 1) at whole others)
        → ((others : Telescope) (done' : List ℕ) → V ≡ done' ++ rest → length done' ≡ at + 1 → length others ≡ length rest
        → ((j p : ℕ) → slice_get rest j ≡ Some p → term_at whole (p - (at' + 1)) ≡ placed (take (at + 1 + j) V) p (term_at others j))
        → SeenFrom V hid (at' + 1) (at + 1) whole others)
        → SeenFrom V hid at' at (a' ∷ whole) seen
    by true b others e' count' each' skip go =
        SeenFrom.unseen b (skip others done e' d count' (λ j p h. shift p (further j p h) ∙ each' j p h))
    by false b [] e' count' each' skip go = absurd (omega arith)
    by false b (a ∷ others) e' count' each' skip go =
        let own : get_or V at 0 ≡ at' = ap₂ (λ levels k. get_or levels k 0) e' (sym d) ∙ get-middle done rest at' in
        let long : length V ≡ length done + suc (length rest) = ap length e' ∙ length-append done (at' ∷ rest) in
        let here : at' - at' ≡ 0 = omega arith in
        let none : at + 0 ≡ at = omega arith in
        SeenFrom.beside b own (omega arith)
        (ap (term_at (a' ∷ whole)) (sym here) ∙ (each' 0 at' refl ∙ ap (λ k. placed (take k V) at' a) none))
        (go others (done ++ at' ∷ []) (e' ∙ sym (append_assoc done (at' ∷ []) rest)) (length-append done (at' ∷ []) ∙ omega arith) (omega arith)
        (λ j p h. let k : at + suc j ≡ at + 1 + j = omega arith in
        shift p (further j p h) ∙ (each' (suc j) p h ∙ ap (λ i. placed (take i V) p (term_at others j)) k)))

-- the visible part of a context, from its beginning on
pub seen-all : (context : Telescope) (hid : List ℕ) (seen : Telescope) → IsSeen context hid seen → SeenFrom (visible (length context) hid) hid 0 0 context seen
seen-all context hid seen is =
    seen-from (visible (length context) hid) hid 0 0 context seen [] refl refl is.count
    (λ j p h. let e : p - 0 ≡ p = omega arith in let f : j ≡ 0 + j = omega arith in
    ap (term_at context) e ∙ (is.each j p h ∙ ap (λ k. placed (take k (visible (length context) hid)) p (term_at seen j)) f))

-- and from after a variable that is seen
pub seen-behind : (V hid : List ℕ) (at' at : ℕ) (whole seen : Telescope) (p' p : ℕ) → SeenFrom V hid at' at whole seen → IsFrom 0 V → p < length V → get_or V p 0 ≡ p' → is_among p' hid ≡ false
    → at' ≤ p' → at ≤ p → p' < at' + length whole → p < at + length seen
    → SeenFrom V hid (p' + 1) (p + 1) (drop (p' + 1 - at') whole) (drop (p + 1 - at) seen)
seen-behind V hid at' at [] seen p' p h rising inside own not le le' lt lt' = absurd (omega arith)
seen-behind V hid at' at (a' ∷ whole) seen p' p (SeenFrom.unseen b rest) rising inside own not le le' lt lt' =
    elim (here-or_below at' p' (omega arith)) [
      | inl same ↦ absurd (true≢false (sym b ∙ (ap (λ i. is_among i hid) same ∙ not)))
      | inr less ↦
          let k : suc (p' + 1 - (at' + 1)) ≡ p' + 1 - at' = omega arith in
          subst (λ i. SeenFrom V hid (p' + 1) (p + 1) (drop i (a' ∷ whole)) (drop (p + 1 - at) seen)) k
          (seen-behind V hid (at' + 1) at whole seen p' p rest rising inside own not (omega arith) le' (omega arith) lt')
    ]
seen-behind V hid at' at (a' ∷ whole) (a ∷ seen) p' p (SeenFrom.beside b here within type rest) rising inside own not le le' lt lt' =
    elim (here-or_below at p (omega arith)) [
      | inl same ↦
          let level : at' ≡ p' = sym here ∙ (ap (λ i. get_or V i 0) same ∙ own) in
          let k : 1 ≡ p' + 1 - at' = omega arith in
          let l : 1 ≡ p + 1 - at = omega arith in
          subst (λ i. SeenFrom V hid (p' + 1) (p + 1) (drop i (a' ∷ whole)) (drop (p + 1 - at) (a ∷ seen))) k
          (subst (λ i. SeenFrom V hid (p' + 1) (p + 1) whole (drop i (a ∷ seen))) l
          (subst (λ i. SeenFrom V hid (i + 1) (p + 1) whole seen) level (subst (λ i. SeenFrom V hid (at' + 1) (i + 1) whole seen) same rest)))
      | inr less ↦
          elim (here-or_below at' p' (omega arith)) [
            | inl level ↦
                let one : slice_get V at ≡ Some at' = there-get V at 0 within ∙ ap Some here in
                let other : slice_get V p ≡ Some at' = there-get V p 0 inside ∙ ap Some (own ∙ sym level) in
                let same : at ≡ p = from-apart 0 V at p at' rising one other in
                absurd (omega arith)
            | inr low ↦
                let k : suc (p' + 1 - (at' + 1)) ≡ p' + 1 - at' = omega arith in
                let l : suc (p + 1 - (at + 1)) ≡ p + 1 - at = omega arith in
                subst (λ i. SeenFrom V hid (p' + 1) (p + 1) (drop i (a' ∷ whole)) (drop (p + 1 - at) (a ∷ seen))) k
                (subst (λ i. SeenFrom V hid (p' + 1) (p + 1) (drop (p' + 1 - (at' + 1)) whole) (drop i (a ∷ seen))) l
                (seen-behind V hid (at' + 1) (at + 1) whole seen p' p rest rising inside own not (omega arith) (omega arith) (omega arith) (omega arith)))
          ]
    ]
