-- The parts of a term that is low are low.
use Rattle.std.proofs.Common.{◌≡◌, ℕ, zero, suc, ◌+◌, ◌≤◌, ◌<◌, ◌&&◌, true, List, [], ◌∷◌, ◌++◌, length, refl, ap₂, arith}
use Rattle.theory.specs.Terms.{Term, height}
use Rattle.theory.specs.Terms.Term.{Var, Pi, Lam, App, Let}
use Rattle.theory.specs.Telescopes.{applied, functions, products}
use Rattle.theory.proofs.Heights.{height-lift, height-positive}
use Rattle.tele_eq.specs.Environments.{Environment, outside, put_under, put_variable}
use Rattle.tele_eq.specs.Items.{Item, each_position, term_at, type_at}
use Rattle.tele_eq.specs.TelescopicEquality.{equation_behind, equations, reflexive, reflexivities}
use Rattle.unification.specs.Heights.{are_low_items}
use Rattle.problems.specs.Conditions.{AreLow}
use Rattle.problems.proofs.LowTerms.{low-sides as low-both}
use Rattle.tree_translation.specs.Standings.{all_placed, at_levels, placed_telescope}
use Rattle.entry_laws.proofs.replay_laws.LowInstances.{height-low}

pub low-appended : (us vs : List Term) → AreLow (us ++ vs) → AreLow us × AreLow vs
low-appended [] vs low = (tt, low)
low-appended (u ∷ us) vs low = let rest = low-appended us vs low.1 in ((low.0, rest.0), rest.1)

pub low-applied : (h : Term) (us : List Term) → height (applied h us) ≤ 2000 → (height h + length us ≤ 2000) × AreLow us
low-applied h [] low = (omega arith, tt)
low-applied h (u ∷ us) low =
    let rest = low-applied (App h u) us low in let first : height (App h u) + length us ≤ 2000 = rest.0 in (omega arith, (omega arith, rest.1))

pub low-application : (f a : Term) → height (App f a) ≤ 2000 → (height f ≤ 2000) × (height a ≤ 2000)
low-application f a low = (omega arith, omega arith)

pub low-functions : (tele : List Term) (body : Term) → height (functions tele body) ≤ 2000 → AreLow tele × (height body ≤ 2000)
low-functions [] body low = (tt, low)
low-functions (a ∷ tele) body low = let rest = low-functions tele body (omega arith) in ((omega arith, rest.0), rest.1)

pub low-products : (tele : List Term) (body : Term) → height (products tele body) ≤ 2000 → AreLow tele × (height body ≤ 2000)
low-products [] body low = (tt, low)
low-products (a ∷ tele) body low = let rest = low-products tele body (omega arith) in ((omega arith, rest.0), rest.1)

-- ---- terms over other variables

pub put-least : (s : Environment) (size depth under : ℕ) (t : Term) → height t ≤ height (put_under s size depth under t)
put-least s size depth under (Var n) = height-positive (put_variable s size depth under n)
put-least s size depth under (Pi a b) =
    let h = put-least s size depth under a in let k = put-least s size depth (under + 1) b in omega arith
put-least s size depth under (Lam a b) =
    let h = put-least s size depth under a in let k = put-least s size depth (under + 1) b in omega arith
put-least s size depth under (App f a) =
    let h = put-least s size depth under f in let k = put-least s size depth under a in omega arith
put-least s size depth under (Let a t b) =
    let h = put-least s size depth under a in
    let k = put-least s size depth under t in
    let l = put-least s size depth (under + 1) b in
    omega arith
put-least s size depth under _ = omega arith

pub low-placed : (levels : List ℕ) (depth : ℕ) (ts : List Term) → AreLow (all_placed levels depth ts) → AreLow ts
low-placed levels depth [] low = tt
low-placed levels depth (t ∷ ts) low =
    let le = put-least (at_levels levels) (length levels) depth 0 t in
    let l : height (put_under (at_levels levels) (length levels) depth 0 t) ≤ 2000 = low.0 in
    (omega arith, low-placed levels depth ts low.1)

pub low-placed_telescope : (levels : List ℕ) (depth : ℕ) (tele : List Term) → AreLow (placed_telescope levels depth tele) → AreLow tele
low-placed_telescope levels depth [] low = tt
low-placed_telescope levels depth (a ∷ tele) low =
    let le = put-least (at_levels levels) (length levels) depth 0 a in
    let l : height (put_under (at_levels levels) (length levels) depth 0 a) ≤ 2000 = low.0 in
    (omega arith, low-placed_telescope (levels ++ depth ∷ []) (depth + 1) tele low.1)

-- ---- equations and reflexivities

each-low : (f : ℕ → Term) (at count : ℕ) → AreLow (each_position f at count) → (k : ℕ) → k < count → height (f (at + k)) ≤ 2000
each-low f at zero h k lt = absurd (omega arith)
each-low f at (suc count) h zero lt = let e : at + 0 ≡ at = omega arith in rw e h.0
each-low f at (suc count) h (suc k) lt =
    let e : at + suc k ≡ at + 1 + k = omega arith in rw e (each-low f (at + 1) count h.1 k (omega arith))

low-from_each : (terms : List Term) → ((k : ℕ) → k < length terms → height (term_at terms k) ≤ 2000) → AreLow terms
low-from_each [] h = tt
low-from_each (t ∷ terms) h = (h 0 (omega arith), low-from_each terms (λ k lt. h (suc k) (omega arith)))

items-below : (X : List Item) → ((k : ℕ) → k < length X → height (type_at X k) ≤ 2000) → are_low_items X ≡ true
items-below [] h = refl
items-below (x ∷ X) h = ap₂ ◌&&◌ (height-low x.type (h 0 (omega arith))) (items-below X (λ k lt. h (suc k) (omega arith)))

type-below : (n : ℕ) (X : List Item) (us vs : List Term) (j : ℕ) → height (type_at X j) ≤ height (equation_behind n X us vs j)
type-below n X us vs j = let le = put-least (outside vs) j j 0 (type_at X j) in omega arith

-- the types and the sides in low equations of a telescope are low
pub low-equations : (X : List Item) (us vs : List Term) → length us ≡ length X → length vs ≡ length X → AreLow (equations X us vs)
    → (are_low_items X ≡ true) × (AreLow us × AreLow vs)
low-equations X us vs eu ev low = (items-below X each, low-both X us vs eu ev low)
  where
    each : (k : ℕ) → k < length X → height (type_at X k) ≤ 2000
    each k lt =
        let l : height (equation_behind (length X) X us vs (0 + k)) ≤ 2000 = each-low (equation_behind (length X) X us vs) 0 (length X) low k lt in
        let le = type-below (length X) X us vs (0 + k) in
        let e : 0 + k ≡ k = omega arith in
        rw (← e) (omega (arith, le, l))

reflexive-below : (X : List Item) (us : List Term) (k : ℕ)
    → (height (type_at X k) ≤ height (reflexive X (outside us) 0 k)) × (height (term_at us k) ≤ height (reflexive X (outside us) 0 k))
reflexive-below X us k =
    let le = put-least (outside us) k 0 0 (type_at X k) in let e = height-lift (term_at us k) 0 0 in (omega arith, omega arith)

-- the types and the terms in low reflexivities are low
pub low-reflexivities : (X : List Item) (us : List Term) → length us ≡ length X → AreLow (reflexivities X us) → (are_low_items X ≡ true) × AreLow us
low-reflexivities X us eu low = (items-below X (λ k lt. (both k lt).0), low-from_each us (λ k lt. (both k (omega arith)).1))
  where
    both : (k : ℕ) → k < length X → (height (type_at X k) ≤ 2000) × (height (term_at us k) ≤ 2000)
    both k lt =
        let l : height (reflexive X (outside us) 0 (0 + k)) ≤ 2000 = each-low (reflexive X (outside us) 0) 0 (length X) low k lt in
        let le = reflexive-below X us (0 + k) in
        let one = le.0 in
        let other = le.1 in
        let e : 0 + k ≡ k = omega arith in
        rw (← e) (omega (arith, one, l), omega (arith, other, l))
