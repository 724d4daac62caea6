-- Placed terms beside instantiated ones: variables by level are a renaming.
use Rattle.std.proofs.Common.{◌≡◌, ◌⊎◌, ℕ, zero, suc, ◌+◌, ◌-◌, ◌<◌, ◌≤◌, Bool, true, false, nat_le, if◌then◌else◌, max, List, [], ◌∷◌, ◌++◌, map, length, Ok, Err, inl, inr, refl, ap, ap₂, sym, ◌∙◌, subst, arith, All}
use Rattle.std.proofs.lemmas.Bool.Decides.{nat_tests}
use Rattle.std.proofs.lemmas.List.Elements.{All-head, All-tail}
use Rattle.theory.specs.Terms.{Term, height, free_of}
use Rattle.theory.specs.Terms.Term.{Var, Pi, Lam, App, Let}
use Rattle.theory.specs.Substitutions.{inst, ups, weaken, extend}
use Rattle.theory.specs.Scopes.{IsTelescopeOver}
use Rattle.theory.specs.Telescopes.{Telescope, products, functions, applied, variables, weaken_by, inst_telescope}
use Rattle.theory.proofs.Instances.{ap₃}
use Rattle.core_terms.specs.Answers.{bounded}
use Rattle.core_terms.specs.Levels.{variable, level_at, place_var, place_under, place, bind, over, run}
use Rattle.core_terms.specs.declared.levels.Binder.{Binder}
use Rattle.core_terms.specs.declared.levels.Binder.TheVariants.{Product, Function}
use Rattle.core_terms.specs.declared.stop.Stop.TheVariants.{Deep}

-- ---- a term that is placed is an instance

-- `s` puts for each of the `size` variables of a record the variable at the depth with the level where it lies
abbrev pub IsPlaced : (runs : List (ℕ × ℕ)) (size depth : ℕ) (s : ℕ → Term) → Type 0
IsPlaced runs size depth s =
    (v : ℕ) → v < size → (level_at runs (size - (v + 1)) < depth) × (s v ≡ variable depth (level_at runs (size - (v + 1))))

-- under so many binders of a term's own
abbrev IsPlacedUnder : (runs : List (ℕ × ℕ)) (size depth under : ℕ) (s : ℕ → Term) → Type 0
IsPlacedUnder runs size depth under s = (v : ℕ) → v < size + under → s v ≡ Var (place_var runs size depth under v)

record_level : (runs : List (ℕ × ℕ)) (size v under : ℕ) → level_at runs (size - (suc v - (under + 1) + 1)) ≡ level_at runs (size - (v - under + 1))
record_level runs size v under = let e : size - (suc v - (under + 1) + 1) ≡ size - (v - under + 1) = omega arith in ap (level_at runs) e

var_under : (runs : List (ℕ × ℕ)) (size depth under v : ℕ) → (under ≤ v → level_at runs (size - (v - under + 1)) < depth) → suc (place_var runs size depth under v) ≡ place_var runs size depth (under + 1) (suc v)
var_under runs size depth under v low = grind (arith, nat_tests, low, record_level runs size v under)

binder : (runs : List (ℕ × ℕ)) (size depth under : ℕ) (s : ℕ → Term) → ((l : ℕ) → l < size → level_at runs l < depth) → IsPlacedUnder runs size depth under s → IsPlacedUnder runs size depth (under + 1) (ups s)
binder runs size depth under s low at zero lt = ap Var (grind (arith, nat_tests))
binder runs size depth under s low at (suc v) lt =
    ap weaken (at v (omega arith)) ∙ ap Var (var_under runs size depth under v (λ le. low (size - (v - under + 1)) (omega arith)))

under-inst : (runs : List (ℕ × ℕ)) (size depth under : ℕ) (s : ℕ → Term) (t : Term) → ((l : ℕ) → l < size → level_at runs l < depth) → IsPlacedUnder runs size depth under s → free_of t ≤ size + under → place_under runs size depth under t ≡ inst s t
under-inst runs size depth under s (Var n) low at h = sym (at n (omega arith))
under-inst runs size depth under s (Pi a b) low at h =
    ap₂ Pi (under-inst runs size depth under s a low at (omega arith))
    (under-inst runs size depth (under + 1) (ups s) b low (binder runs size depth under s low at) (omega arith))
under-inst runs size depth under s (Lam a b) low at h =
    ap₂ Lam (under-inst runs size depth under s a low at (omega arith))
    (under-inst runs size depth (under + 1) (ups s) b low (binder runs size depth under s low at) (omega arith))
under-inst runs size depth under s (App f a) low at h =
    ap₂ App (under-inst runs size depth under s f low at (omega arith)) (under-inst runs size depth under s a low at (omega arith))
under-inst runs size depth under s (Let a t b) low at h =
    ap₃ Let (under-inst runs size depth under s a low at (omega arith)) (under-inst runs size depth under s t low at (omega arith))
    (under-inst runs size depth (under + 1) (ups s) b low (binder runs size depth under s low at) (omega arith))
under-inst runs size depth under s _ low at h = refl

height-under : (runs : List (ℕ × ℕ)) (size depth under : ℕ) (t : Term) → height (place_under runs size depth under t) ≡ height t
height-under runs size depth under (Pi a b) =
    ap₂ (λ x y. 1 + max x y) (height-under runs size depth under a) (height-under runs size depth (under + 1) b)
height-under runs size depth under (Lam a b) =
    ap₂ (λ x y. 1 + max x y) (height-under runs size depth under a) (height-under runs size depth (under + 1) b)
height-under runs size depth under (App f a) =
    ap₂ (λ x y. 1 + max x y) (height-under runs size depth under f) (height-under runs size depth under a)
height-under runs size depth under (Let a t b) =
    ap₂ (λ x y. 1 + max x y) (height-under runs size depth under a)
    (ap₂ max (height-under runs size depth under t) (height-under runs size depth (under + 1) b))
height-under runs size depth under _ = refl

-- every level below the size lies below the depth
levels-low : (runs : List (ℕ × ℕ)) (size depth : ℕ) (s : ℕ → Term) → IsPlaced runs size depth s → (l : ℕ) → l < size → level_at runs l < depth
levels-low runs size depth s at l lt = let e : size - (size - (l + 1) + 1) ≡ l = omega arith in rw e at (at (size - (l + 1)) (omega arith)).0

placed-under : (runs : List (ℕ × ℕ)) (size depth : ℕ) (s : ℕ → Term) → IsPlaced runs size depth s → IsPlacedUnder runs size depth 0 s
placed-under runs size depth s at v lt = (at v (omega arith)).1 ∙ ap Var (sym here)
  where
    same : level_at runs (size - (v - 0 + 1)) ≡ level_at runs (size - (v + 1))
    same = let e : size - (v - 0 + 1) ≡ size - (v + 1) = omega arith in ap (level_at runs) e

    here : place_var runs size depth 0 v ≡ depth - (level_at runs (size - (v + 1)) + 1)
    here = grind (arith, nat_tests, same)

pub place-inst : (runs : List (ℕ × ℕ)) (size depth : ℕ) (s : ℕ → Term) (t : Term) → IsPlaced runs size depth s → free_of t ≤ size → place_under runs size depth 0 t ≡ inst s t
place-inst runs size depth s t at h =
    under-inst runs size depth 0 s t (levels-low runs size depth s at) (placed-under runs size depth s at) (omega arith)

-- ---- terms that are equal, or both too high for an answer

abbrev pub Alike : Term → Term → Type 0
Alike t u = (t ≡ u) ⊎ ((2000 < height t) × (2000 < height u))

pub bounded-high : (t : Term) → 2000 < height t → bounded t ≡ Err Deep
bounded-high t high = by (nat_le (height t) 2000) refl
  where
    by : (b : Bool) → nat_le (height t) 2000 ≡ b → bounded t ≡ Err Deep
    by true e = absurd (grind (arith, nat_tests))
    by false e = ap (λ b. if b then Ok t else Err Deep) e

-- so the answer of a call is the same
pub alike-bounded : (t u : Term) → Alike t u → bounded t ≡ bounded u
alike-bounded t u (inl same) = ap bounded same
alike-bounded t u (inr (high, high')) = bounded-high t high ∙ sym (bounded-high u high')

pub alike-pi : (a a' b b' : Term) → Alike a a' → Alike b b' → Alike (Pi a b) (Pi a' b')
alike-pi a a' b b' (inl p) (inl q) = inl (ap₂ Pi p q)
alike-pi a a' b b' (inr (h, h')) q = inr (omega arith, omega arith)
alike-pi a a' b b' (inl p) (inr (h, h')) = inr (omega arith, omega arith)

pub alike-lam : (a a' b b' : Term) → Alike a a' → Alike b b' → Alike (Lam a b) (Lam a' b')
alike-lam a a' b b' (inl p) (inl q) = inl (ap₂ Lam p q)
alike-lam a a' b b' (inr (h, h')) q = inr (omega arith, omega arith)
alike-lam a a' b b' (inl p) (inr (h, h')) = inr (omega arith, omega arith)

pub alike-app : (f f' a a' : Term) → Alike f f' → Alike a a' → Alike (App f a) (App f' a')
alike-app f f' a a' (inl p) (inl q) = inl (ap₂ App p q)
alike-app f f' a a' (inr (h, h')) q = inr (omega arith, omega arith)
alike-app f f' a a' (inl p) (inr (h, h')) = inr (omega arith, omega arith)

pub alike-products : (tele : Telescope) (b b' : Term) → Alike b b' → Alike (products tele b) (products tele b')
alike-products [] b b' q = q
alike-products (a ∷ tele) b b' q =
    alike-pi a a (products tele b) (products tele b') (inl refl) (alike-products tele b b' q)

-- a record's term where it is placed
pub alike-place : (runs : List (ℕ × ℕ)) (size depth : ℕ) (s : ℕ → Term) (t : Term) → IsPlaced runs size depth s → free_of t ≤ size → Alike (place runs size depth t) (inst s t)
alike-place runs size depth s t at h = by (nat_le (height t) 2000) refl
  where
    by : (b : Bool) → nat_le (height t) 2000 ≡ b → Alike (place runs size depth t) (inst s t)
    by true e = inl (ap (λ b. if b then place_under runs size depth 0 t else t) e ∙ place-inst runs size depth s t at h)
    by false e =
        let stays : place runs size depth t ≡ t = ap (λ b. if b then place_under runs size depth 0 t else t) e in
        let high : 2000 < height t = grind (arith, nat_tests) in
        let same = ap height stays in
        let far = height-under runs size depth 0 t in
        let put = ap height (place-inst runs size depth s t at h) in
        inr (omega arith, omega arith)

-- a spine of them
pub alike-spine : (runs : List (ℕ × ℕ)) (size depth : ℕ) (s : ℕ → Term) (f f' : Term) (ts : List Term) → IsPlaced runs size depth s → Alike f f' → All (λ t. free_of t ≤ size) ts → Alike (applied f (map (place runs size depth) ts)) (applied f' (map (inst s) ts))
alike-spine runs size depth s f f' [] at same free = same
alike-spine runs size depth s f f' (t ∷ ts) at same free =
    alike-spine runs size depth s (App f (place runs size depth t)) (App f' (inst s t)) ts at
    (alike-app f f' (place runs size depth t) (inst s t) same
    (alike-place runs size depth s t at (All-head (λ t. free_of t ≤ size) t ts free)))
    (All-tail (λ t. free_of t ≤ size) t ts free)

-- ---- more variables, more binders

pub variable-weaken : (depth level : ℕ) → level < depth → weaken (variable depth level) ≡ variable (depth + 1) level
variable-weaken depth level lt = ap Var (omega arith)

-- the next variable of the record is that of a binder
pub placed-up : (runs : List (ℕ × ℕ)) (size depth : ℕ) (s : ℕ → Term) → level_at runs size ≡ depth → IsPlaced runs size depth s → IsPlaced runs (size + 1) (depth + 1) (ups s)
placed-up runs size depth s next at zero lt =
    let e : level_at runs (size + 1 - (0 + 1)) ≡ depth = (let f : size + 1 - (0 + 1) ≡ size = omega arith in ap (level_at runs) f) ∙ next in
    (omega arith, ap Var (omega arith))
placed-up runs size depth s next at (suc v) lt =
    let e : level_at runs (size + 1 - (suc v + 1)) ≡ level_at runs (size - (v + 1)) = (let f : size + 1 - (suc v + 1) ≡ size - (v + 1) = omega arith in ap (level_at runs) f) in
    let before = at v (omega arith) in
    let low = before.0 in
    (omega arith, ap weaken before.1 ∙ (variable-weaken depth (level_at runs (size - (v + 1))) low ∙ ap (variable (depth + 1)) (sym e)))

-- the next variable of the record is one that is there, and the runs may change after those that were placed
pub placed-extend : (runs more : List (ℕ × ℕ)) (size depth level : ℕ) (s : ℕ → Term) → ((l : ℕ) → l < size → level_at more l ≡ level_at runs l) → level_at more size ≡ level → level < depth → IsPlaced runs size depth s → IsPlaced more (size + 1) depth (extend s (variable depth level))
placed-extend runs more size depth level s kept next low at zero lt =
    let e : level_at more (size + 1 - (0 + 1)) ≡ level = (let f : size + 1 - (0 + 1) ≡ size = omega arith in ap (level_at more) f) ∙ next in
    (omega arith, ap (variable depth) (sym e))
placed-extend runs more size depth level s kept next low at (suc v) lt =
    let e : level_at more (size + 1 - (suc v + 1)) ≡ level_at runs (size - (v + 1)) = (let f : size + 1 - (suc v + 1) ≡ size - (v + 1) = omega arith in ap (level_at more) f) ∙ kept (size - (v + 1)) (omega arith) in
    let before = at v (omega arith) in
    let below = before.0 in
    (omega arith, before.1 ∙ ap (variable depth) (sym e))

-- the runs may change after the variables that are placed
pub placed-kept : (runs more : List (ℕ × ℕ)) (size depth : ℕ) (s : ℕ → Term) → ((l : ℕ) → l < size → level_at more l ≡ level_at runs l) → IsPlaced runs size depth s → IsPlaced more size depth s
placed-kept runs more size depth s kept at v lt =
    let e = kept (size - (v + 1)) (omega arith) in
    let before = at v lt in
    let below = before.0 in
    (omega arith, before.1 ∙ ap (variable depth) (sym e))

-- binders more
pub placed-further : (runs : List (ℕ × ℕ)) (size depth more : ℕ) (s : ℕ → Term) → IsPlaced runs size depth s → IsPlaced runs size (depth + more) (λ v. weaken_by more (s v))
placed-further runs size depth more s at v lt =
    let before = at v lt in
    let below = before.0 in
    (omega arith, ap (weaken_by more) before.1 ∙ ap Var (omega arith))

alike-bind : (binder : Binder) (a a' b b' : Term) → Alike a a' → Alike b b' → Alike (bind binder a b) (bind binder a' b')
alike-bind Product a a' b b' p q = alike-pi a a' b b' p q
alike-bind Function a a' b b' p q = alike-lam a a' b b' p q

-- products or functions over a telescope
abbrev pub binding : Binder → Telescope → Term → Term
binding Product tele b = products tele b
binding Function tele b = functions tele b

binding-cons : (binder : Binder) (a : Term) (tele : Telescope) (b : Term) → bind binder a (binding binder tele b) ≡ binding binder (a ∷ tele) b
binding-cons Product a tele b = refl
binding-cons Function a tele b = refl

binding-none : (binder : Binder) (b : Term) → b ≡ binding binder [] b
binding-none Product b = refl
binding-none Function b = refl

-- a telescope of the record
pub alike-over : (binder : Binder) (runs : List (ℕ × ℕ)) (size depth : ℕ) (s : ℕ → Term) (tele : Telescope) (b b' : Term) → ((l : ℕ) → l < length tele → level_at runs (size + l) ≡ depth + l) → IsPlaced runs size depth s → IsTelescopeOver size tele → Alike b b' → Alike (over binder runs size depth tele b) (binding binder (inst_telescope s tele) b')
alike-over binder runs size depth s [] b b' next at scoped same = subst (Alike b) (binding-none binder b') same
alike-over binder runs size depth s (a ∷ tele) b b' next at scoped same =
    subst (Alike (over binder runs size depth (a ∷ tele) b)) (binding-cons binder (inst s a) (inst_telescope (ups s) tele) b')
    (alike-bind binder (place runs size depth a) (inst s a) (over binder runs (size + 1) (depth + 1) tele b) (binding binder (inst_telescope (ups s) tele) b')
    (alike-place runs size depth s a at scoped.0)
    (alike-over binder runs (size + 1) (depth + 1) (ups s) tele b b' further
    (placed-up runs size depth s here at) scoped.1 same))
  where
    here : level_at runs size ≡ depth
    here = (let e : size ≡ size + 0 = omega arith in ap (level_at runs) e) ∙ (next 0 (omega arith) ∙ omega arith)

    further : (l : ℕ) → l < length tele → level_at runs (size + 1 + l) ≡ depth + 1 + l
    further l lt = (let e : size + 1 + l ≡ size + suc l = omega arith in ap (level_at runs) e) ∙ (next (suc l) (omega arith) ∙ omega arith)

-- ---- runs of variables

-- the nearest variables
pub run-variables : (depth start count : ℕ) → depth ≡ start + count → run depth start count ≡ variables count
run-variables depth start zero is = refl
run-variables depth start (suc count) is =
    ap₂ ◌∷◌ (ap Var (omega arith)) (run-variables depth (start + 1) count (omega arith))

-- after more binders
pub run-further : (depth start count more : ℕ) → start + count ≤ depth → map (weaken_by more) (run depth start count) ≡ run (depth + more) start count
run-further depth start zero more le = refl
run-further depth start (suc count) more le =
    ap₂ ◌∷◌ (ap Var (omega arith)) (run-further depth (start + 1) count more (omega arith))

-- after one more
pub run-weaken : (depth start count : ℕ) → start + count ≤ depth → map weaken (run depth start count) ≡ run (depth + 1) start count
run-weaken depth start zero le = refl
run-weaken depth start (suc count) le =
    ap₂ ◌∷◌ (variable-weaken depth start (omega arith)) (run-weaken depth (start + 1) count (omega arith))

-- one level more
pub run-push : (depth start count : ℕ) → run depth start (suc count) ≡ run depth start count ++ variable depth (start + count) ∷ []
run-push depth start zero = ap (λ l. variable depth l ∷ []) (omega arith)
run-push depth start (suc count) =
    ap (λ vs. variable depth start ∷ vs)
    (run-push depth (start + 1) count ∙ ap (λ l. run depth (start + 1) count ++ variable depth l ∷ []) (omega arith))

pub height-bind : (binder : Binder) (a b : Term) → height (bind binder a b) ≡ 1 + max (height a) (height b)
height-bind Product a b = refl
height-bind Function a b = refl

-- a term over a telescope is as high as its end and the telescope's length at least
pub height-over : (binder : Binder) (runs : List (ℕ × ℕ)) (size depth : ℕ) (tele : Telescope) (b : Term) → height b + length tele ≤ height (over binder runs size depth tele b)
height-over binder runs size depth [] b = omega arith
height-over binder runs size depth (a ∷ tele) b =
    omega (
      arith,
      height-over binder runs (size + 1) (depth + 1) tele b,
      height-bind binder (place runs size depth a) (over binder runs (size + 1) (depth + 1) tele b),
    )

pub height-functions : (tele : Telescope) (b : Term) → height b + length tele ≤ height (functions tele b)
height-functions [] b = omega arith
height-functions (a ∷ tele) b = omega (arith, height-functions tele b)

-- a term that is not low enough is Deep
pub deep-unless : (t : Term) → ¬ (height t ≤ 2000) → bounded t ≡ Err Deep
deep-unless t high = by (nat_le (height t) 2000) refl
  where
    by : (b : Bool) → nat_le (height t) 2000 ≡ b → bounded t ≡ Err Deep
    by true e = absurd (high (grind (arith, nat_tests)))
    by false e = ap (λ b. if b then Ok t else Err Deep) e
