-- Terms that are placed at a depth are small.
use Rattle.std.proofs.Common.{◌≡◌, ℕ, zero, suc, ◌+◌, ◌-◌, ◌<◌, ◌≤◌, Bool, true, false, nat_le, cond, max, List, [], ◌∷◌, ◌++◌, map, length, take, Result, Ok, Err, IfOk, refl, ap₂, sym, subst, arith}
use Rattle.std.proofs.lemmas.Bool.Decides.{nat_tests}
use Rattle.std.proofs.lemmas.List.{length-map, length-append}
use Rattle.theory.specs.Terms.{Term, height, free_of}
use Rattle.theory.specs.Terms.Term.{Var, Pi, Lam, App, Let, Const, Fam, Con}
use Rattle.theory.specs.Telescopes.{applied}
use Rattle.core_terms.specs.Answers.{Gives}
use Rattle.core_terms.specs.Levels.{place_under, place, run}
use Rattle.core_terms.specs.declared.stop.Stop.{Stop}
use Rattle.core_sig.specs.Shapes.{ArgumentShape, ConstructorShape, Shape}
use Rattle.tele_eq.specs.Items.{Item, IsSmall, AreSmallTerms, AreSmall, items_of}
use Rattle.tele_eq.specs.declared.item.Item as code_item
use Rattle.generators.specs.noconf_gen.Compared.{placed_items, argument_items, member_items, constructed}
use Rattle.generators.specs.noconf_gen.Fitting.{AreLow, HaveLowTypes, FitsIndices, FitsMember}

-- ---- terms

free-under : (runs : List (ℕ × ℕ)) (size depth under : ℕ) (t : Term) → free_of (place_under runs size depth under t) ≤ depth + under + 1
free-under runs size depth under (Var n) = grind (arith, nat_tests)
free-under runs size depth under (Pi a b) = omega (arith, free-under runs size depth under a, free-under runs size depth (under + 1) b)
free-under runs size depth under (Lam a b) = omega (arith, free-under runs size depth under a, free-under runs size depth (under + 1) b)
free-under runs size depth under (App f a) = omega (arith, free-under runs size depth under f, free-under runs size depth under a)
free-under runs size depth under (Let a t b) =
    omega (arith, free-under runs size depth under a, free-under runs size depth under t, free-under runs size depth (under + 1) b)
free-under runs size depth under _ = omega arith

height-under : (runs : List (ℕ × ℕ)) (size depth under : ℕ) (t : Term) → height (place_under runs size depth under t) ≡ height t
height-under runs size depth under (Pi a b) =
    ap₂ (λ x y. 1 + max x y) (height-under runs size depth under a) (height-under runs size depth (under + 1) b)
height-under runs size depth under (Lam a b) =
    ap₂ (λ x y. 1 + max x y) (height-under runs size depth under a) (height-under runs size depth (under + 1) b)
height-under runs size depth under (App f a) =
    ap₂ (λ x y. 1 + max x y) (height-under runs size depth under f) (height-under runs size depth under a)
height-under runs size depth under (Let a t b) =
    ap₂ (λ x y. 1 + max x y) (height-under runs size depth under a)
    (ap₂ max (height-under runs size depth under t) (height-under runs size depth (under + 1) b))
height-under runs size depth under _ = refl

-- a term has the same height where it is placed
pub height-place : (runs : List (ℕ × ℕ)) (size depth : ℕ) (t : Term) → height (place runs size depth t) ≡ height t
height-place runs size depth t = go (nat_le (height t) 2000)
  where
    go : (low : Bool) → height (cond low (place_under runs size depth 0 t) t) ≡ height t
    go true = height-under runs size depth 0 t
    go false = refl

pub free-place : (runs : List (ℕ × ℕ)) (size depth : ℕ) (t : Term) → height t ≤ 2000 → free_of (place runs size depth t) ≤ depth + 1
free-place runs size depth t low = go (nat_le (height t) 2000) refl
  where
    go : (b : Bool) → nat_le (height t) 2000 ≡ b → free_of (cond b (place_under runs size depth 0 t) t) ≤ depth + 1
    go true e = omega (arith, free-under runs size depth 0 t)
    go false e = absurd (grind (arith, nat_tests))

small-place : (runs : List (ℕ × ℕ)) (size depth : ℕ) (t : Term) → depth ≤ 1100000 → height t ≤ 2000 → IsSmall (place runs size depth t)
small-place runs size depth t le low = (omega (arith, height-place runs size depth t), omega (arith, free-place runs size depth t low))

-- `head` applied to variables
height-run : (depth start count : ℕ) (head : Term) → 1 ≤ height head → height (applied head (run depth start count)) ≤ height head + count
height-run depth start zero head h = omega arith
height-run depth start (suc count) head h = omega (arith, height-run depth (start + 1) count (App head (Var (depth - (start + 1)))) (omega arith))

pub free-run : (depth start count : ℕ) (head : Term) → free_of head ≤ depth + 1 → free_of (applied head (run depth start count)) ≤ depth + 1
free-run depth start zero head h = h
free-run depth start (suc count) head h = free-run depth (start + 1) count (App head (Var (depth - (start + 1)))) (omega arith)

-- a symbol applied to the parameters and to variables
small-symbol : (symbol : Term) (depth p start count : ℕ) → height symbol ≡ 1 → free_of symbol ≡ 0 → depth ≤ 1100000 → p + count < 2000 → IsSmall (applied (applied symbol (run depth 0 p)) (run depth start count))
small-symbol symbol depth p start count h free le few =
    let inner = height-run depth 0 p symbol (omega arith) in
    let positive = height-from (run depth 0 p) symbol in
    (omega (arith, height-run depth start count (applied symbol (run depth 0 p)) (omega arith)), omega (arith, free-run depth start count (applied symbol (run depth 0 p)) (free-run depth 0 p symbol (omega arith))))
  where
    height-from : (spine : List Term) (head : Term) → height head ≤ height (applied head spine)
    height-from [] head = omega arith
    height-from (a ∷ spine) head = omega (arith, height-from spine (App head a))

-- a constant applied to the first variables
pub small-constant : (c depth count : ℕ) → depth ≤ 1100000 → count < 2000 → IsSmall (applied (Const c) (run depth 0 count))
small-constant c depth count le few = (omega (arith, height-run depth 0 count (Const c) (omega arith)), omega (arith, free-run depth 0 count (Const c) (omega arith)))

-- ---- lists

small-append : (ts us : List Term) → AreSmallTerms ts → AreSmallTerms us → AreSmallTerms (ts ++ us)
small-append [] us h k = k
small-append (t ∷ ts) us h k = (h.0, small-append ts us h.1 k)

small-places : (runs : List (ℕ × ℕ)) (size depth : ℕ) (ts : List Term) → depth ≤ 1100000 → AreLow ts → AreSmallTerms (map (place runs size depth) ts)
small-places runs size depth [] le low = tt
small-places runs size depth (t ∷ ts) le low = (small-place runs size depth t le low.0, small-places runs size depth ts le low.1)

pub small-constructed : (n p k number first : ℕ) (c : ConstructorShape) (depth : ℕ) → FitsMember p k c → depth ≤ 1100000 → AreSmallTerms (constructed n p k number first c depth)
small-constructed n p k number first c depth fits le =
    let count = length c.arguments in
    small-append (map (place ((0, p) ∷ (first, count) ∷ []) (p + count) depth) (take k c.targets)) _
    (small-places ((0, p) ∷ (first, count) ∷ []) (p + count) depth (take k c.targets) le fits.targets)
    (small-symbol (Con n number) depth p first count refl refl le fits.arguments, tt)

-- ---- telescopes

pub types-append : (xs ys : List Item) → map (λ (item : Item). item.type) (xs ++ ys) ≡ map (λ (item : Item). item.type) xs ++ map (λ (item : Item). item.type) ys
types-append [] ys = refl
types-append (x ∷ xs) ys = ap₂ ◌∷◌ refl (types-append xs ys)

small-items : (runs : List (ℕ × ℕ)) (size depth : ℕ) (arguments : List ArgumentShape) → depth + length arguments ≤ 1100000 → HaveLowTypes arguments → AreSmall (placed_items runs size depth arguments)
small-items runs size depth [] le low = tt
small-items runs size depth (a ∷ arguments) le low =
    (small-place runs size depth a.type (omega arith) low.0, small-items runs (size + 1) (depth + 1) arguments (omega arith) low.1)

pub length-items : (runs : List (ℕ × ℕ)) (size depth : ℕ) (arguments : List ArgumentShape) → length (placed_items runs size depth arguments) ≡ length arguments
length-items runs size depth [] = refl
length-items runs size depth (a ∷ arguments) = omega (arith, length-items runs (size + 1) (depth + 1) arguments)

pub small-arguments : (p depth : ℕ) (c : ConstructorShape) → p + length c.arguments ≤ 1000 → HaveLowTypes c.arguments → depth ≤ 100000 → AreSmall (argument_items p depth c)
small-arguments p depth c few low le = small-items ((0, p) ∷ (depth, length c.arguments) ∷ []) p depth c.arguments (omega arith) low

pub small-members : (n : ℕ) (f : Shape) (depth : ℕ) → FitsIndices f → depth ≤ 100000 → AreSmall (member_items n f depth)
small-members n f depth fits le =
    let p = length f.parameters in
    let k = length f.indices in
    let items = placed_items ((0, p) ∷ (depth, k) ∷ []) p depth f.indices in
    subst AreSmallTerms (sym (types-append items _))
    (small-append (map (λ (item : Item). item.type) items) _
    (small-items ((0, p) ∷ (depth, k) ∷ []) p depth f.indices (omega (arith, fits.indices)) fits.types)
    (small-symbol (Fam n) (depth + k) p depth k refl refl (omega (arith, fits.indices)) (omega (arith, fits.parameters, fits.indices)), tt))

pub length-members : (n : ℕ) (f : Shape) (depth : ℕ) → length (member_items n f depth) ≡ length f.indices + 1
length-members n f depth =
    let p = length f.parameters in
    let k = length f.indices in
    let items = placed_items ((0, p) ∷ (depth, k) ∷ []) p depth f.indices in
    omega (arith, length-append {A = Item}, length-items ((0, p) ∷ (depth, k) ∷ []) p depth f.indices)

-- ---- answers

pub few-answer : (result : Result (List code_item.Item) Stop) (X : List Item) → Gives items_of result (Ok X) → length X ≤ 1000 → IfOk result (λ v. length v ≤ 1000)
few-answer (Ok v) X is few =
    let same : items_of v ≡ X = cc in
    subst (λ k. k ≤ 1000) (length-map v _) (subst (λ xs. length xs ≤ 1000) (sym same) few)
few-answer (Err e) X is few = tt
