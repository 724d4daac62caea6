-- Terms that are low stay so where variables are put for variables.
use Rattle.std.proofs.Common.{◌≡◌, ℕ, zero, suc, ◌+◌, ◌-◌, ◌≤◌, ◌&&◌, nat_lt, Bool, true, false, cond, List, [], ◌∷◌, ◌++◌, length, map, get_or, refl, ap₂, subst as transport, arith}
use Rattle.std.proofs.lemmas.Bool.Decides.{nat_tests}
use Rattle.theory.specs.Terms.{Term, Var, height}
use Rattle.theory.specs.Terms.Term.{App}
use Rattle.theory.specs.Spines.{spine_of}
use Rattle.theory.specs.Substitutions.{inst}
use Rattle.theory.specs.Telescopes.{variables, weaken_by}
use Rattle.theory.proofs.HeightInstances.{height-inst, height-ren}
use Rattle.theory.proofs.Heights.{height-lift}
use Rattle.core_terms.specs.Answers.{is_low}
use Rattle.tele_eq.specs.Items.{Item, type_at}
use Rattle.tele_eq.proofs.Carrying.{ups_by}
use Rattle.unification.specs.Heights.{are_low_items}
use Rattle.unification.specs.Injecting.{lifted}
use Rattle.problems.specs.Conditions.{AreLow}
use Rattle.problems.proofs.LowTerms.{and-parts, low-height}
use Rattle.tree_translation.specs.Hidden.{visible}
use Rattle.tree_translation.proofs.SeenTerms.{widening}
use Rattle.tree_translation.proofs.TelescopeInstances.{IsInstance}

-- nothing but variables is put, or what is no higher
abbrev pub IsFlat : (ℕ → Term) → Type 0
IsFlat q = (i : ℕ) → height (q i) ≤ 1

pub flat-height : (q : ℕ → Term) (t : Term) → IsFlat q → height (inst q t) ≤ height t
flat-height q t flat = let h = (height-inst q t 1 flat).1 in omega arith

under-case : (q : ℕ → Term) (k i : ℕ) → IsFlat q → (b : Bool) → height (cond b (Var i) (weaken_by k (q (i - k)))) ≤ 1
under-case q k i flat true = omega arith
under-case q k i flat false = let e = height-ren (λ n. n + k) (q (i - k)) in let l = flat (i - k) in omega arith

-- a flat substitution is flat under binders
pub flat-under : (k : ℕ) (q : ℕ → Term) → IsFlat q → IsFlat (ups_by k q)
flat-under k q flat i = under-case q k i flat (nat_lt i k)

variable-case : (b : Bool) (x y : ℕ) → height (cond b (Var x) (Var y)) ≤ 1
variable-case true x y = omega arith
variable-case false x y = omega arith

-- the variables of a context for those that are seen
pub widening-flat : (n : ℕ) (hidden : List ℕ) → IsFlat (widening n hidden)
widening-flat n hidden i =
    variable-case (nat_lt i (length (visible n hidden))) (n - (get_or (visible n hidden) (length (visible n hidden) - (i + 1)) 0 + 1))
    (i - length (visible n hidden) + n)

-- ---- lists

pub low-instances : (q : ℕ → Term) (ts : List Term) → IsFlat q → AreLow ts → AreLow (map (inst q) ts)
low-instances q [] flat low = tt
low-instances q (t ∷ ts) flat low =
    let le = flat-height q t flat in let l = low.0 in (omega arith, low-instances q ts flat low.1)

pub low-lifted : (k : ℕ) (ts : List Term) → AreLow ts → AreLow (lifted k ts)
low-lifted k [] low = tt
low-lifted k (t ∷ ts) low = let e = height-lift t k 0 in let l = low.0 in (omega arith, low-lifted k ts low.1)

pub low-variables : (k : ℕ) → AreLow (variables k)
low-variables zero = tt
low-variables (suc k) = (omega arith, low-variables k)

low-last : (ts : List Term) (t : Term) → AreLow ts → height t ≤ 2000 → AreLow (ts ++ t ∷ [])
low-last [] t low le = (le, tt)
low-last (u ∷ ts) t low le = (low.0, low-last ts t low.1 le)

-- the arguments of a low term
pub low-spine : (t : Term) → height t ≤ 2000 → AreLow (spine_of t)
low-spine (App f a) le = low-last (spine_of f) a (low-spine f (omega arith)) (omega arith)
low-spine _ le = tt

-- ---- telescopes

item-low : (X : List Item) (j : ℕ) → are_low_items X ≡ true → height (type_at X j) ≤ 2000
item-low [] j e = omega arith
item-low (x ∷ X) zero e = low-height x.type (and-parts (is_low x.type) (are_low_items X) e).0
item-low (x ∷ X) (suc j) e = item-low X j (and-parts (is_low x.type) (are_low_items X) e).1

pub height-low : (t : Term) → height t ≤ 2000 → is_low t ≡ true
height-low t le = grind (arith, nat_tests)

items-low : (X : List Item) → ((j : ℕ) → height (type_at X j) ≤ 2000) → are_low_items X ≡ true
items-low [] h = refl
items-low (x ∷ X) h = ap₂ ◌&&◌ (height-low x.type (h 0)) (items-low X (λ j. h (suc j)))

pub low-instance : (q : ℕ → Term) (X Y : List Item) → IsFlat q → IsInstance q X Y → are_low_items X ≡ true → are_low_items Y ≡ true
low-instance q X Y flat is low = items-low Y each
  where
    each : (j : ℕ) → height (type_at Y j) ≤ 2000
    each j =
        let le : height (inst (ups_by j q) (type_at X j)) ≤ height (type_at X j) = flat-height (ups_by j q) (type_at X j) (flat-under j q flat) in
        let l : height (type_at X j) ≤ 2000 = item-low X j low in
        transport (λ t. height t ≤ 2000) (is.types j) (omega arith)
