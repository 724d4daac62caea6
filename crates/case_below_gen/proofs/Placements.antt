-- Terms of a record among levels, where terms are put for all of these.
use Rattle.std.proofs.Common.{◌≡◌, ℕ, zero, suc, ◌+◌, ◌-◌, ◌<◌, ◌≤◌, Bool, true, false, nat_lt, nat_le, cond, if◌then◌else◌, List, [], ◌∷◌, ◌++◌, map, length, All, refl, ap, ap₂, sym, ◌∙◌, arith}
use Rattle.std.proofs.lemmas.Bool.Decides.{nat_tests}
use Rattle.std.proofs.lemmas.List.{length-append}
use Rattle.std.proofs.lemmas.List.Elements.{All-head, All-tail}
use Rattle.theory.specs.Terms.{Term, height}
use Rattle.theory.specs.Substitutions.{inst, extend, fill}
use Rattle.theory.specs.Eliminators.{no_variable}
use Rattle.theory.proofs.Instances.{inst-inst, inst-same}
use Rattle.theory.proofs.Instantiation.{inst-fill}
use Rattle.core_terms.specs.Levels.{variable, level_at, place_under, place, run}
use Rattle.core_terms.proofs.Placing.{IsPlaced, place-inst}
use Rattle.case_below_gen.specs.CourseLaws.{IsRegularTarget}
use Rattle.case_below_gen.proofs.Filling.{fill-append, fill-past}

length-run : (depth start count : ℕ) → length (run depth start count) ≡ count
length-run depth start zero = refl
length-run depth start (suc count) = ap suc (length-run depth (start + 1) count)

fill-run : (s : ℕ → Term) (depth start count v : ℕ) → v < count → fill s (run depth start count) v ≡ variable depth (start + (count - (v + 1)))
fill-run s depth start zero v lt = absurd (omega arith)
fill-run s depth start (suc count) v lt = go (nat_lt v count) refl (fill-run (extend s (variable depth start)) depth (start + 1) count v)
  where
    go : (b : Bool) → nat_lt v count ≡ b → (v < count → fill (extend s (variable depth start)) (run depth (start + 1) count) v ≡ variable depth (start + 1 + (count - (v + 1)))) → fill (extend s (variable depth start)) (run depth (start + 1) count) v ≡ variable depth (start + (suc count - (v + 1)))
    go true t near =
        let low : v < count = grind (arith, nat_tests) in
        let same : start + 1 + (count - (v + 1)) ≡ start + (suc count - (v + 1)) = omega arith in
        near low ∙ ap (variable depth) same
    go false t near =
        let n = length-run depth (start + 1) count in
        let last : v ≡ 0 + length (run depth (start + 1) count) = grind (arith, nat_tests) in
        let end : start ≡ start + (suc count - (v + 1)) = grind (arith, nat_tests) in
        ap (fill (extend s (variable depth start)) (run depth (start + 1) count)) last ∙ (fill-past (extend s (variable depth start)) (run depth (start + 1) count) 0 ∙ ap (variable depth) end)

-- the variables of runs of levels, and how many they are
abbrev pub run_variables : (depth : ℕ) → List (ℕ × ℕ) → List Term
run_variables depth [] = []
run_variables depth (r ∷ runs) = run depth r.0 r.1 ++ run_variables depth runs

abbrev pub run_count : List (ℕ × ℕ) → ℕ
run_count [] = 0
run_count (r ∷ runs) = r.1 + run_count runs

abbrev pub AreBelow : (depth : ℕ) → List (ℕ × ℕ) → Type 0
AreBelow depth [] = Unit {0}
AreBelow depth (r ∷ runs) = (r.0 + r.1 ≤ depth) × AreBelow depth runs

length-variables : (depth : ℕ) (runs : List (ℕ × ℕ)) → length (run_variables depth runs) ≡ run_count runs
length-variables depth [] = refl
length-variables depth (r ∷ runs) = omega (arith, length-append (run depth r.0 r.1) (run_variables depth runs), length-run depth r.0 r.1, length-variables depth runs)

-- each variable of the record is the one with its level
placed-runs : (s : ℕ → Term) (depth : ℕ) (runs : List (ℕ × ℕ)) → AreBelow depth runs → IsPlaced runs (run_count runs) depth (fill s (run_variables depth runs))
placed-runs s depth [] below v lt = absurd (omega arith)
placed-runs s depth (r ∷ runs) below v lt = go (nat_lt v (run_count runs)) refl (placed-runs (fill s (run depth r.0 r.1)) depth runs below.1 v)
  where
    go : (b : Bool) → nat_lt v (run_count runs) ≡ b
        → (v < run_count runs → (level_at runs (run_count runs - (v + 1)) < depth) × (fill (fill s (run depth r.0 r.1)) (run_variables depth runs) v ≡ variable depth (level_at runs (run_count runs - (v + 1)))))
        → (level_at (r ∷ runs) (r.1 + run_count runs - (v + 1)) < depth) × (fill s (run depth r.0 r.1 ++ run_variables depth runs) v ≡ variable depth (level_at (r ∷ runs) (r.1 + run_count runs - (v + 1))))
    go true t near =
        let low : v < run_count runs = grind (arith, nat_tests) in
        let before = near low in
        let place : r.1 + run_count runs - (v + 1) - r.1 ≡ run_count runs - (v + 1) = omega arith in
        let level : level_at runs (run_count runs - (v + 1)) ≡ level_at (r ∷ runs) (r.1 + run_count runs - (v + 1)) =
        ap (level_at runs) (sym place) ∙ ap (λ b. cond b (r.0 + (r.1 + run_count runs - (v + 1))) (level_at runs (r.1 + run_count runs - (v + 1) - r.1))) (let test : false ≡ nat_lt (r.1 + run_count runs - (v + 1)) r.1 = grind (arith, nat_tests) in test) in
        let bound = before.0 in
        (omega arith, fill-append s (run depth r.0 r.1) (run_variables depth runs) v ∙ (before.1 ∙ ap (variable depth) level))
    go false t near =
        let count = length-variables depth runs in
        let far : v ≡ v - run_count runs + length (run_variables depth runs) = grind (arith, nat_tests) in
        let here : v - run_count runs < r.1 = grind (arith, nat_tests) in
        let level : r.0 + (r.1 - (v - run_count runs + 1)) ≡ level_at (r ∷ runs) (r.1 + run_count runs - (v + 1)) = grind (arith, nat_tests) in
        let bound = below.0 in (
          omega arith,
          fill-append s (run depth r.0 r.1) (run_variables depth runs) v
              ∙ (ap (fill (fill s (run depth r.0 r.1)) (run_variables depth runs)) far
              ∙ (fill-past (fill s (run depth r.0 r.1)) (run_variables depth runs) (v - run_count runs)
              ∙ (fill-run s depth r.0 r.1 (v - run_count runs) here ∙ ap (variable depth) level))),
        )

-- a term of the record, with terms put for all levels
pub place-filled : (args : List Term) (depth : ℕ) (runs : List (ℕ × ℕ)) (t : Term) → AreBelow depth runs → IsRegularTarget (run_count runs) t
    → inst (fill no_variable args) (place runs (run_count runs) depth t) ≡ inst (fill no_variable (map (inst (fill no_variable args)) (run_variables depth runs))) t
place-filled args depth runs t below fit =
    ap (inst (fill no_variable args)) (ap (λ b. if b then place_under runs (run_count runs) depth 0 t else t) test ∙ place-inst runs (run_count runs) depth (fill no_variable vars) t (placed-runs no_variable depth runs below) fit.0)
    ∙ (inst-inst (fill no_variable args) (fill no_variable vars) t ∙ inst-same t (inst-fill (fill no_variable args) no_variable vars))
  where
    vars : List Term
    vars = run_variables depth runs

    test : nat_le (height t) 2000 ≡ true
    test = let h = fit.1 in grind (arith, nat_tests)

pub places-filled : (args : List Term) (depth : ℕ) (runs : List (ℕ × ℕ)) (ts : List Term) → AreBelow depth runs → All (IsRegularTarget (run_count runs)) ts
    → map (inst (fill no_variable args)) (map (place runs (run_count runs) depth) ts) ≡ map (inst (fill no_variable (map (inst (fill no_variable args)) (run_variables depth runs)))) ts
places-filled args depth runs [] below fit = refl
places-filled args depth runs (t ∷ ts) below fit =
    ap₂ ◌∷◌ (place-filled args depth runs t below (All-head (IsRegularTarget (run_count runs)) t ts fit))
    (places-filled args depth runs ts below (All-tail (IsRegularTarget (run_count runs)) t ts fit))
