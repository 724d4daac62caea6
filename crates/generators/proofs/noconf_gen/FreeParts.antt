-- Free variables of the part for reflexivities.
use Rattle.std.proofs.Common.{◌≡◌, ℕ, zero, suc, ◌+◌, ◌≤◌, List, [], ◌∷◌, ◌++◌, map, length, take, sym, subst, arith}
use Rattle.std.proofs.lemmas.List.{length-map}
use Rattle.theory.specs.Terms.{Term, free_of}
use Rattle.theory.specs.Terms.Term.{Sort, Fam, Con}
use Rattle.theory.specs.Telescopes.{applied}
use Rattle.core_terms.specs.Levels.{variable, place, run}
use Rattle.core_terms.specs.declared.levels.Binder.TheVariants.{Product}
use Rattle.core_sig.specs.ByLevels.{family_at}
use Rattle.core_sig.specs.Shapes.{ArgumentShape, ConstructorShape, Shape}
use Rattle.tele_eq.specs.Items.{Item, term_at}
use Rattle.generators.specs.noconf_gen.Compared.{placed_items, argument_items, member_items, constructed}
use Rattle.generators.specs.noconf_gen.Fitting.{AreLow, HaveLowTypes, FitsSubject}
use Rattle.generators.specs.noconf_gen.NoConfusionTypes.{Member, motive_type, congruences_at, injective_type}
use Rattle.generators.specs.noconf_gen.NoConfusion.{reflexive_base}
use Rattle.generators.proofs.noconf_gen.FreeTerms.{HasOpenTypes, AreOver, free-equations, free-congruences, free-reflexivities}
use Rattle.generators.proofs.noconf_gen.SmallTerms.{free-place, free-run, types-append, length-items}

over-none : (n j : ℕ) → free_of (term_at [] j) ≤ n
over-none n zero = omega arith
over-none n (suc j) = omega arith

over-append : (n : ℕ) (ts us : List Term) → AreOver n ts → AreOver n us → AreOver n (ts ++ us)
over-append n [] us h k j = k j
over-append n (t ∷ ts) us h k zero = h zero
over-append n (t ∷ ts) us h k (suc j) = over-append n ts us (λ i. h (suc i)) k j

over-one : (n : ℕ) (t : Term) → free_of t ≤ n → AreOver n (t ∷ [])
over-one n t h zero = h
over-one n t h (suc j) = over-none n j

over-places : (runs : List (ℕ × ℕ)) (size depth : ℕ) (ts : List Term) → AreLow ts → AreOver (depth + 1) (map (place runs size depth) ts)
over-places runs size depth [] low j = over-none (depth + 1) j
over-places runs size depth (t ∷ ts) low zero = free-place runs size depth t low.0
over-places runs size depth (t ∷ ts) low (suc j) = over-places runs size depth ts low.1 j

over-run : (depth start count : ℕ) → AreOver (depth + 1) (run depth start count)
over-run depth start zero j = over-none (depth + 1) j
over-run depth start (suc count) zero = omega arith
over-run depth start (suc count) (suc j) = over-run depth (start + 1) count j

over-constructed : (n p k number first : ℕ) (c : ConstructorShape) (depth : ℕ) → AreLow (take k c.targets) → AreOver (depth + 1) (constructed n p k number first c depth)
over-constructed n p k number first c depth low =
    let count = length c.arguments in
    let whole = applied (applied (Con n number) (run depth 0 p)) (run depth first count) in
    over-append (depth + 1) (map (place ((0, p) ∷ (first, count) ∷ []) (p + count) depth) (take k c.targets)) (whole ∷ [])
    (over-places ((0, p) ∷ (first, count) ∷ []) (p + count) depth (take k c.targets) low)
    (over-one (depth + 1) whole (free-run depth first count (applied (Con n number) (run depth 0 p)) (free-run depth 0 p (Con n number) (omega arith))))

-- ---- telescopes

open-items : (runs : List (ℕ × ℕ)) (size depth : ℕ) (arguments : List ArgumentShape) → HaveLowTypes arguments → HasOpenTypes (depth + 1) (placed_items runs size depth arguments)
open-items runs size depth [] low j = over-none (depth + 1 + j) j
open-items runs size depth (a ∷ arguments) low zero = omega (arith, free-place runs size depth a.type low.0)
open-items runs size depth (a ∷ arguments) low (suc j) =
    let rest = open-items runs (size + 1) (depth + 1) arguments low.1 j in omega arith

open-push : (base : ℕ) (ts : List Term) (t : Term) → ((j : ℕ) → free_of (term_at ts j) ≤ base + j) → free_of t ≤ base + length ts → (j : ℕ) → free_of (term_at (ts ++ t ∷ []) j) ≤ base + j
open-push base [] t h le zero = omega arith
open-push base [] t h le (suc j) = over-none (base + suc j) j
open-push base (u ∷ ts) t h le zero = h zero
open-push base (u ∷ ts) t h le (suc j) =
    let rest = open-push (base + 1) ts t (λ i. let at : free_of (term_at ts i) ≤ base + suc i = h (suc i) in omega arith) (omega arith) j in omega arith

open-members : (n : ℕ) (f : Shape) (depth : ℕ) → HaveLowTypes f.indices → HasOpenTypes (depth + 1) (member_items n f depth)
open-members n f depth low j =
    let p = length f.parameters in
    let k = length f.indices in
    let items = placed_items ((0, p) ∷ (depth, k) ∷ []) p depth f.indices in
    let family = family_at n p (depth + k) depth k in
    let count : length (map (λ (item : Item). item.type) items) ≡ k = length-types items (length-items ((0, p) ∷ (depth, k) ∷ []) p depth f.indices) in
    let free = free-run (depth + k) depth k (applied (Fam n) (run (depth + k) 0 p)) (free-run (depth + k) 0 p (Fam n) (omega arith)) in
    subst (λ ts. free_of (term_at ts j) ≤ depth + 1 + j) (sym (types-append items (record { type = family; level = f.level } ∷ [])))
    (open-push (depth + 1) (map (λ (item : Item). item.type) items) family (open-items ((0, p) ∷ (depth, k) ∷ []) p depth f.indices low) (omega arith) j)
  where
    length-types : {k : ℕ} (items : List Item) → length items ≡ k → length (map (λ (item : Item). item.type) items) ≡ k
    length-types items e = omega (arith, length-map items (λ (item : Item). item.type))

-- ---- types

free-motive : (n : ℕ) (f : Shape) (left right : Member) (m depth : ℕ) → HaveLowTypes f.indices → AreOver (depth + 1) (left depth) → AreOver (depth + 1) (right depth) → free_of (motive_type n f left right m depth) ≤ depth + 1
free-motive n f left right m depth low l r =
    free-equations Product (depth + 1) (member_items n f depth) (left depth) (right depth) (Sort m) (omega arith) (open-members n f depth low) l r (omega arith)

free-injective : (n : ℕ) (f : Shape) (number : ℕ) (c : ConstructorShape) (first second motive depth : ℕ) → FitsSubject f c → free_of (injective_type n f number c first second motive depth) ≤ depth + 1
free-injective n f number c first second motive depth fits =
    let p = length f.parameters in
    let count = length c.arguments in
    let inside = depth + count in
    let counted = length-items ((0, p) ∷ (depth, count) ∷ []) p depth c.arguments in
    let counted_inside = length-items ((0, p) ∷ (inside, count) ∷ []) p inside c.arguments in
    let terms : AreOver (inside + 1 + length (argument_items p inside c)) (constructed n p (length f.indices) number inside c (inside + count)) =
    λ j. let at = over-constructed n p (length f.indices) number inside c (inside + count) fits.arguments.member.targets j in omega arith in
    let end =
    free-congruences (inside + 1) (argument_items p inside c) (member_items n f inside) (constructed n p (length f.indices) number inside c (inside + count))
    (run inside first count) (run inside second count) (run inside depth count) (variable inside motive) (omega arith)
    (open-items ((0, p) ∷ (inside, count) ∷ []) p inside c.arguments fits.arguments.types) (open-members n f inside fits.indices.types) terms
    (over-run inside first count) (over-run inside second count) (over-run inside depth count) (omega arith) in
    free-equations Product (depth + 1) (argument_items p depth c) (run depth first count) (run depth second count)
    (applied (variable inside motive) (congruences_at n f number c first second depth inside)) (omega arith)
    (open-items ((0, p) ∷ (depth, count) ∷ []) p depth c.arguments fits.arguments.types) (over-run depth first count) (over-run depth second count) (omega arith)

pub free-base : (n : ℕ) (f : Shape) (number : ℕ) (c : ConstructorShape) (m depth : ℕ) → FitsSubject f c → free_of (reflexive_base n f number c m depth) ≤ depth + 3
free-base n f number c m depth fits =
    let p = length f.parameters in
    let k = length f.indices in
    let left = over-constructed n p k number p c depth fits.arguments.member.targets in
    let motive = free-motive n f (constructed n p k number p c) (constructed n p k number p c) m depth fits.indices.types left left in
    let premise = free-injective n f number c p p depth (depth + 1) fits in
    let end =
    free-reflexivities (depth + 2 + 1) (argument_items p (depth + 2) c) (run (depth + 2) p (length c.arguments)) (variable (depth + 2) (depth + 1))
    (open-items ((0, p) ∷ (depth + 2, length c.arguments) ∷ []) p (depth + 2) c.arguments fits.arguments.types) (over-run (depth + 2) p (length c.arguments)) (omega arith) in
    omega arith
