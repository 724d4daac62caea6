-- Terms made by levels, where more binders come after the first d: a lift by e under the i binders that come after them.
use Rattle.std.proofs.Common.{◌≡◌, ◌⊎◌, ℕ, zero, suc, ◌+◌, ◌-◌, ◌<◌, ◌≤◌, Bool, true, false, nat_lt, nat_le, cond, if◌then◌else◌, List, [], ◌∷◌, map, refl, ap, ap₂, sym, ◌∙◌, inl, inr, arith}
use Rattle.std.proofs.lemmas.Bool.Decides.{nat_tests}
use Rattle.theory.specs.Terms.{Term, height, free_of, lift, lift_var}
use Rattle.theory.specs.Terms.Term.{Var, Sort, Pi, Lam, App, Let, Fam, Con, Const, Elim, AxiomK}
use Rattle.theory.specs.Telescopes.{applied}
use Rattle.theory.proofs.Instances.{ap₃}
use Rattle.core_terms.specs.Levels.{variable, level_at, place_var, place_under, place, run}
use Rattle.core_sig.specs.ByLevels.{applied_to_targets}
use Rattle.case_below_gen.specs.declared.components.Course.{Course}
use Rattle.case_below_gen.specs.declared.components.Ending.TheVariants.{Folded}
use Rattle.case_below_gen.specs.Components.{pair_of, below_at, at_inner, at_argument, behind_inner}

pub lift-applied : (h : Term) (us : List Term) (by from : ℕ) → lift (applied h us) by from ≡ applied (lift h by from) (map (λ u. lift u by from) us)
lift-applied h [] by from = refl
lift-applied h (u ∷ us) by from = lift-applied (App h u) us by from

module _ (d e : ℕ) where
  -- ---- variables

  pub low-variable : (i depth deep l : ℕ) → depth ≡ d + i → deep ≡ depth + e → l < d → variable deep l ≡ lift (variable depth l) e i
  low-variable i depth deep l is more lt = ap Var (grind (arith, nat_tests))

  pub high-variable : (i depth deep l : ℕ) → depth ≡ d + i → deep ≡ depth + e → d ≤ l → l < depth → variable deep (l + e) ≡ lift (variable depth l) e i
  high-variable i depth deep l is more le lt = ap Var (grind (arith, nat_tests))

  pub low-run : (i depth deep start count : ℕ) → depth ≡ d + i → deep ≡ depth + e → start + count ≤ d → run deep start count ≡ map (λ u. lift u e i) (run depth start count)
  low-run i depth deep start zero is more le = refl
  low-run i depth deep start (suc count) is more le =
      ap₂ ◌∷◌ (low-variable i depth deep start is more (omega arith)) (low-run i depth deep (start + 1) count is more (omega arith))

  pub high-run : (i depth deep start count : ℕ) → depth ≡ d + i → deep ≡ depth + e → d ≤ start → start + count ≤ depth → run deep (start + e) count ≡ map (λ u. lift u e i) (run depth start count)
  high-run i depth deep start zero is more le lt = refl
  high-run i depth deep start (suc count) is more le lt =
      ap₂ ◌∷◌ (high-variable i depth deep start is more le (omega arith))
      (ap (λ s. run deep s count) (omega arith) ∙ high-run i depth deep (start + 1) count is more (omega arith) (omega arith))

  -- ---- terms of a record

  -- a level below d stays, and one after it moves by e
  abbrev pub IsMovedTo : (i from to : ℕ) → Type 0
  IsMovedTo i from to = ((from < d) × (to ≡ from)) ⊎ ((d ≤ from) × (from < d + i) × (to ≡ from + e))

  abbrev pub Moved : (i size : ℕ) (runs moved : List (ℕ × ℕ)) → Type 0
  Moved i size runs moved = (l : ℕ) → l < size → IsMovedTo i (level_at runs l) (level_at moved l)

  var-moved : (i depth deep under n from to : ℕ) → depth ≡ d + i → deep ≡ depth + e → under ≤ n → IsMovedTo i from to → deep + under - (to + 1) ≡ lift_var (depth + under - (from + 1)) e (i + under)
  var-moved i depth deep under n from to is more le (inl (low, same)) = grind (arith, nat_tests)
  var-moved i depth deep under n from to is more le (inr (high, low, same)) = grind (arith, nat_tests)

  under-moved : (i size depth deep under : ℕ) (runs moved : List (ℕ × ℕ)) (t : Term) → depth ≡ d + i → deep ≡ depth + e → Moved i size runs moved → free_of t ≤ size + under → place_under moved size deep under t ≡ lift (place_under runs size depth under t) e (i + under)
  under-moved i size depth deep under runs moved (Var n) is more move free = ap Var (go (nat_lt n under) refl)
    where
      go : (b : Bool) → nat_lt n under ≡ b → place_var moved size deep under n ≡ lift_var (place_var runs size depth under n) e (i + under)
      go true t = grind (arith, nat_tests)
      go false t =
          let place = var-moved i depth deep under n (level_at runs (size - (n - under + 1))) (level_at moved (size - (n - under + 1))) is more (grind (arith, nat_tests)) (move (size - (n - under + 1)) (grind (arith, nat_tests))) in
          ap (λ b. cond b n (deep + under - (level_at moved (size - (n - under + 1)) + 1))) t
          ∙ (place ∙ ap (λ b. lift_var (cond b n (depth + under - (level_at runs (size - (n - under + 1)) + 1))) e (i + under)) (sym t))
  under-moved i size depth deep under runs moved (Pi a b) is more move free =
      ap₂ Pi (under-moved i size depth deep under runs moved a is more move (omega arith))
      (under-moved i size depth deep (under + 1) runs moved b is more move (omega arith) ∙ ap (lift (place_under runs size depth (under + 1) b) e) (omega arith))
  under-moved i size depth deep under runs moved (Lam a b) is more move free =
      ap₂ Lam (under-moved i size depth deep under runs moved a is more move (omega arith))
      (under-moved i size depth deep (under + 1) runs moved b is more move (omega arith) ∙ ap (lift (place_under runs size depth (under + 1) b) e) (omega arith))
  under-moved i size depth deep under runs moved (App f a) is more move free =
      ap₂ App (under-moved i size depth deep under runs moved f is more move (omega arith)) (under-moved i size depth deep under runs moved a is more move (omega arith))
  under-moved i size depth deep under runs moved (Let a t b) is more move free =
      ap₃ Let (under-moved i size depth deep under runs moved a is more move (omega arith)) (under-moved i size depth deep under runs moved t is more move (omega arith))
      (under-moved i size depth deep (under + 1) runs moved b is more move (omega arith) ∙ ap (lift (place_under runs size depth (under + 1) b) e) (omega arith))
  under-moved i size depth deep under runs moved _ is more move free = refl

  pub place-moved : (i size depth deep : ℕ) (runs moved : List (ℕ × ℕ)) (t : Term) → depth ≡ d + i → deep ≡ depth + e → Moved i size runs moved → free_of t ≤ size → height t ≤ 2000 → place moved size deep t ≡ lift (place runs size depth t) e i
  place-moved i size depth deep runs moved t is more move free low =
      let test : nat_le (height t) 2000 ≡ true = grind (arith, nat_tests) in
      ap (λ b. if b then place_under moved size deep 0 t else t) test
      ∙ (under-moved i size depth deep 0 runs moved t is more move (omega arith)
      ∙ (ap (lift (place_under runs size depth 0 t) e) (omega arith)
      ∙ ap (λ u. lift u e i) (ap (λ b. if b then place_under runs size depth 0 t else t) (sym test))))

  -- ---- runs

  pub moved-two : (i p first count size : ℕ) → p ≤ d → d ≤ first → size ≤ p + count → first + (size - p) ≤ d + i → Moved i size ((0, p) ∷ (first, count) ∷ []) ((0, p) ∷ (first + e, count) ∷ [])
  moved-two i p first count size low high le lt l less = go (nat_le p l) refl
    where
      go : (b : Bool) → nat_le p l ≡ b → IsMovedTo i (level_at ((0, p) ∷ (first, count) ∷ []) l) (level_at ((0, p) ∷ (first + e, count) ∷ []) l)
      go true t = inr (grind (arith, nat_tests), grind (arith, nat_tests), grind (arith, nat_tests))
      go false t = inl (grind (arith, nat_tests), grind (arith, nat_tests))

  pub moved-three : (i p first at start count size : ℕ) → p ≤ d → d ≤ first → first + at ≤ d + i → d ≤ start → size ≤ p + at + count → start + (size - (p + at)) ≤ d + i
      → Moved i size ((0, p) ∷ (first, at) ∷ (start, count) ∷ []) ((0, p) ∷ (first + e, at) ∷ (start + e, count) ∷ [])
  moved-three i p first at start count size low high inside behind le lt l less = go (nat_le p l) (nat_le (p + at) l) refl refl
    where
      go : (b c : Bool) → nat_le p l ≡ b → nat_le (p + at) l ≡ c → IsMovedTo i (level_at ((0, p) ∷ (first, at) ∷ (start, count) ∷ []) l) (level_at ((0, p) ∷ (first + e, at) ∷ (start + e, count) ∷ []) l)
      go true true x y = inr (grind (arith, nat_tests), grind (arith, nat_tests), grind (arith, nat_tests))
      go true false x y = inr (grind (arith, nat_tests), grind (arith, nat_tests), grind (arith, nat_tests))
      go false c x y = inl (grind (arith, nat_tests), grind (arith, nat_tests))

  -- ---- components

  pub targets-moved : (i size depth deep : ℕ) (runs moved : List (ℕ × ℕ)) (h h' : Term) (k : ℕ) (t : Term) → depth ≡ d + i → deep ≡ depth + e → Moved i size runs moved → free_of t ≤ size → height t ≤ 2000 → h' ≡ lift h e i
      → applied_to_targets moved size deep h' k t ≡ lift (applied_to_targets runs size depth h k t) e i
  targets-moved i size depth deep runs moved h h' (suc k) (App f a) is more move free low head =
      ap₂ App (targets-moved i size depth deep runs moved h h' k f is more move (omega arith) (omega arith) head)
      (place-moved i size depth deep runs moved a is more move (omega arith) (omega arith))
  targets-moved i size depth deep runs moved h h' zero t is more move free low head = head
  targets-moved i size depth deep runs moved h h' (suc k) (Var n) is more move free low head = head
  targets-moved i size depth deep runs moved h h' (suc k) (Sort n) is more move free low head = head
  targets-moved i size depth deep runs moved h h' (suc k) (Pi a b) is more move free low head = head
  targets-moved i size depth deep runs moved h h' (suc k) (Lam a b) is more move free low head = head
  targets-moved i size depth deep runs moved h h' (suc k) (Let a t b) is more move free low head = head
  targets-moved i size depth deep runs moved h h' (suc k) (Const c) is more move free low head = head
  targets-moved i size depth deep runs moved h h' (suc k) (Fam f) is more move free low head = head
  targets-moved i size depth deep runs moved h h' (suc k) (Con f c) is more move free low head = head
  targets-moved i size depth deep runs moved h h' (suc k) (Elim f m) is more move free low head = head
  targets-moved i size depth deep runs moved h h' (suc k) (AxiomK j m) is more move free low head = head

  pub below-moved : (i depth deep : ℕ) (q : Course) → q.params + 1 ≤ d → depth ≡ d + i → deep ≡ depth + e → below_at q deep ≡ lift (below_at q depth) e i
  below-moved i depth deep q le is more =
      ap₂ App (ap (applied (Const q.below)) (low-run i depth deep 0 q.params is more (omega arith)) ∙ sym (lift-applied (Const q.below) (run depth 0 q.params) e i))
      (low-variable i depth deep q.params is more (omega arith))

  inner-moved : (i depth deep r start : ℕ) → depth ≡ d + i → deep ≡ depth + e → d ≤ r → r < depth → d ≤ start → start ≤ depth → at_inner deep (r + e) (start + e) ≡ lift (at_inner depth r start) e i
  inner-moved i depth deep r start is more low high behind le =
      let inner : deep - (start + e) ≡ depth - start = omega arith in
      ap₂ applied (high-variable i depth deep r is more low high)
      (ap (run deep (start + e)) inner ∙ high-run i depth deep start (depth - start) is more behind (omega arith))
      ∙ sym (lift-applied (variable depth r) (run depth start (depth - start)) e i)

  argument-moved : (i size depth deep : ℕ) (runs moved : List (ℕ × ℕ)) (h h' : Term) (r start k : ℕ) (t : Term) → depth ≡ d + i → deep ≡ depth + e → Moved i size runs moved → free_of t ≤ size → height t ≤ 2000 → h' ≡ lift h e i
      → d ≤ r → r < depth → d ≤ start → start ≤ depth → at_argument moved size deep h' (r + e) (start + e) k t ≡ lift (at_argument runs size depth h r start k t) e i
  argument-moved i size depth deep runs moved h h' r start k t is more move free low head r_low r_high behind le =
      ap₂ App (targets-moved i size depth deep runs moved h h' k t is more move free low head) (inner-moved i depth deep r start is more r_low r_high behind le)

  pub behind-moved : (i size depth deep : ℕ) (runs moved : List (ℕ × ℕ)) (q : Course) (r start h h' : ℕ) (t : Term) → q.params + 1 ≤ d → depth ≡ d + i → deep ≡ depth + e → Moved i size runs moved → free_of t ≤ size → height t ≤ 2000
      → d ≤ r → r < depth → d ≤ start → start ≤ depth → behind_inner Folded q moved size deep (r + e) (start + e) h' t ≡ lift (behind_inner Folded q runs size depth r start h t) e i
  behind-moved i size depth deep runs moved q r start h h' t le is more move free low r_low r_high behind inside =
      ap₂ (pair_of q.m)
      (argument-moved i size depth deep runs moved (variable depth q.params) (variable deep q.params) r start q.indices t is more move free low (low-variable i depth deep q.params is more (omega arith)) r_low r_high behind inside)
      (argument-moved i size depth deep runs moved (below_at q depth) (below_at q deep) r start q.indices t is more move free low (below-moved i depth deep q le is more) r_low r_high behind inside)
