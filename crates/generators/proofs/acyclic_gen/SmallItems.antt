-- The arguments of a constructor as a telescope have small types, and variables are small terms.
use Rattle.std.proofs.Common.{◌≡◌, ℕ, suc, ◌+◌, ◌≤◌, ◌<◌, true, nat_le, cond, List, [], ◌∷◌, length, Result, Ok, Err, IfOk, refl, ap, sym, subst, arith}
use Rattle.std.proofs.lemmas.Bool.Decides.{nat_tests}
use Rattle.std.proofs.lemmas.List.{length-map}
use Rattle.theory.specs.Terms.{Term, height, free_of}
use Rattle.theory.specs.Terms.Term.{Var, Pi, Lam, App, Let}
use Rattle.core_terms.specs.Levels.{place_var, place_under, place}
use Rattle.core_sig.specs.Shapes.{ArgumentShape}
use Rattle.core_terms.specs.declared.stop.Stop.{Stop}
use Rattle.tele_eq.specs.Items.{AreSmall, item_of, items_of}
use Rattle.tele_eq.specs.declared.item.Item.{Item}
use Rattle.generators.specs.acyclic_gen.Pushing.{placed_items}
use Rattle.generators.specs.acyclic_gen.Bounds.{AreLow}

-- a placed term has no variables beyond the depth
free-var : (runs : List (ℕ × ℕ)) (size depth under n : ℕ) → place_var runs size depth under n < depth + under + 1
free-var runs size depth under n = grind (arith, nat_tests)

free-under : (runs : List (ℕ × ℕ)) (size depth under : ℕ) (t : Term) → free_of (place_under runs size depth under t) ≤ depth + under + 1
free-under runs size depth under (Var n) = let e = free-var runs size depth under n in omega arith
free-under runs size depth under (Pi a b) = omega (arith, free-under runs size depth under a, free-under runs size depth (under + 1) b)
free-under runs size depth under (Lam a b) = omega (arith, free-under runs size depth under a, free-under runs size depth (under + 1) b)
free-under runs size depth under (App f a) = omega (arith, free-under runs size depth under f, free-under runs size depth under a)
free-under runs size depth under (Let a t b) =
    omega (arith, free-under runs size depth under a, free-under runs size depth under t, free-under runs size depth (under + 1) b)
free-under runs size depth under _ = omega arith

-- and is as high as the term
height-under : (runs : List (ℕ × ℕ)) (size depth under : ℕ) (t : Term) → height (place_under runs size depth under t) ≤ height t
height-under runs size depth under (Pi a b) = omega (arith, height-under runs size depth under a, height-under runs size depth (under + 1) b)
height-under runs size depth under (Lam a b) = omega (arith, height-under runs size depth under a, height-under runs size depth (under + 1) b)
height-under runs size depth under (App f a) = omega (arith, height-under runs size depth under f, height-under runs size depth under a)
height-under runs size depth under (Let a t b) =
    omega (arith, height-under runs size depth under a, height-under runs size depth under t, height-under runs size depth (under + 1) b)
height-under runs size depth under _ = omega arith

small-place : (runs : List (ℕ × ℕ)) (size depth : ℕ) (t : Term) → height t ≤ 2000 → depth ≤ 1000000 → (height (place runs size depth t) ≤ 2000) × (free_of (place runs size depth t) ≤ 2147483648)
small-place runs size depth t low le =
    let e : nat_le (height t) 2000 ≡ true = grind (arith, nat_tests) in
    let same = height-under runs size depth 0 t in
    let free = free-under runs size depth 0 t in
    subst (λ b. (height (cond b (place_under runs size depth 0 t) t) ≤ 2000) × (free_of (cond b (place_under runs size depth 0 t) t) ≤ 2147483648)) (sym e)
    (omega arith, omega arith)

pub small-items : (runs : List (ℕ × ℕ)) (size depth : ℕ) (arguments : List ArgumentShape) → AreLow arguments → depth + length arguments ≤ 1000000 → AreSmall (placed_items runs size depth arguments)
small-items runs size depth [] low le = tt
small-items runs size depth (a ∷ arguments) low le =
    (small-place runs size depth a.type low.0 (omega arith), small-items runs (size + 1) (depth + 1) arguments low.1 (omega arith))

pub length-items : (runs : List (ℕ × ℕ)) (size depth : ℕ) (arguments : List ArgumentShape) → length (placed_items runs size depth arguments) ≡ length arguments
length-items runs size depth [] = refl
length-items runs size depth (a ∷ arguments) = ap suc (length-items runs (size + 1) (depth + 1) arguments)

pub few-answer : (result : Result (List Item) Stop) → IfOk result (λ items. length (items_of items) ≤ 1000) → IfOk result (λ items. length items ≤ 1000)
few-answer (Ok items) few = subst (λ k. k ≤ 1000) (length-map items item_of) few
few-answer (Err e) few = tt
