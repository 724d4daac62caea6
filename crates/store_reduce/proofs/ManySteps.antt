-- Several head steps at once: where arguments fill binders of the function at the head, they are put for its variables in one pass.
use Rattle.std.proofs.Common.{◌≡◌, ℕ, zero, suc, ◌+◌, ◌≤◌, Bool, Some, List, [], ◌∷◌, ◌++◌, length, take, drop, get_or, unwrap_or, refl, sym, ap, ◌∙◌, inl, inr, subst as transport, arith}
use Rattle.std.specs.List.{All}
use Rattle.std.proofs.lemmas.List.Elements.{All-append, All-drop, All-head, All-tail, All-take}
use Rattle.std.proofs.lemmas.List.{length-append, length-drop, length-take-le, take-append-drop}
use Rattle.theory.specs.Terms.{Term, height, subst}
use Rattle.theory.specs.Terms.Term.{Var, Lam, App}
use Rattle.theory.specs.Signatures.{Signature}
use Rattle.theory.specs.Substitutions.{extend, fill, inst, ups}
use Rattle.theory.specs.Telescopes.{applied}
use Rattle.theory.proofs.HeightInstances.{height-inst}
use Rattle.theory.proofs.Heights.{height-positive}
use Rattle.theory.proofs.Instances.{inst-var}
use Rattle.theory.proofs.Instantiation.{put-ups}
use Rattle.theory.proofs.Shifts.{subst-is_extend}
use Rattle.theory.proofs.Spines.{applied-spine}
use Rattle.theory.specs.Spines.{head_of, spine_of}
use Rattle.kernel_reduce.specs.Steps.{step_of}
use Rattle.store_reduce.specs.Formed.{Reaches}
use Rattle.store_reduce.specs.Formed.Reaches.{none}
use Rattle.store_reduce.specs.Places.{whnf_at}
use Rattle.store_reduce.specs.Several.{Leads, IsFilling, AreTaken, below, filled_with}
use Rattle.store_reduce.specs.declared.several.Filling.{Filling}
use Rattle.term_pool.specs.Held.{Held, AddsParts, Lacks}
use Rattle.term_pool.specs.Parts.{IsPart}
use Rattle.store_reduce.specs.Additions.{AddsOnly, LacksOne}
use Rattle.store_reduce.specs.Formed.{IsPartOnTheWay}
use Rattle.store_reduce.proofs.Ways.{here-adds, here-lacks, reached-adds, reached-lacks}
use Rattle.store_reduce.specs.Several.Leads.{here, on}
use Rattle.store_reduce.proofs.PlaceLaws.{at-step, before}
use Rattle.store_reduce.proofs.Turning.{beta-step, function-steps}

module _ (S : Signature) (delta : Bool) (depth : ℕ) where
  -- what is left to do after the steps, for the units that they leave
  leads-on : (n left : ℕ) (t u : Term) → Leads S delta depth n t u → whnf_at S delta depth (n + left) t ≡ whnf_at S delta depth left u
  leads-on zero left t u here = ap (λ n. whnf_at S delta depth n t) (let e : 0 + left ≡ left = omega arith in e)
  leads-on (suc n) left t u (on {u = v} low step rest) =
      sym (at-step S delta depth (suc n + left) (n + left) t v (omega arith) low step) ∙ leads-on n left v u rest

  leads-reach : (n : ℕ) (t u : Term) → Leads S delta depth n t u → Reaches S delta t u
  leads-reach zero t u here = none
  leads-reach (suc n) t u (on {u = v} low step rest) = before S delta t v u step (leads-reach n v u rest)

-- a step of the head is one of the application
spine-steps : (S : Signature) (delta : Bool) (us : List Term) (h g : Term) → step_of S delta h ≡ Some g → step_of S delta (applied h us) ≡ Some (applied g us)
spine-steps S delta [] h g e = e
spine-steps S delta (u ∷ us) h g e = spine-steps S delta us (App h u) (App g u) (function-steps S delta u h g e)

pub higher : (k n : ℕ) (us : List Term) → k ≤ n → All (λ a. height a ≤ k) us → All (λ a. height a ≤ n) us
higher k n us le all = λ i d less. omega (arith, le, all i d less)

height-spine : (h : Term) (us : List Term) (n : ℕ) → height h ≤ n → All (λ a. height a ≤ n) us → height (applied h us) ≤ n + length us
height-spine h [] n low all = omega (arith, low)
height-spine h (a ∷ us) n low all =
    let first = All-head (λ a. height a ≤ n) a us all in
    let rest = height-spine (App h a) us (n + 1) (omega (arith, low, first)) (higher n (n + 1) us (omega arith) (All-tail (λ a. height a ≤ n) a us all)) in
    omega (arith, rest)

-- one binder filled
pub filled-one : (s : ℕ → Term) (b u : Term) → subst (inst (ups s) b) 0 u ≡ inst (extend s u) b
filled-one s b u = subst-is_extend (inst (ups s) b) u ∙ put-ups s b u

extend-low : (s : ℕ → Term) (u : Term) (k : ℕ) → ((i : ℕ) → height (s i) ≤ k) → height u ≤ k → (i : ℕ) → height (extend s u i) ≤ k
extend-low s u k all low zero = low
extend-low s u k all low (suc i) = all i

some-is : {A : Type 0} (a b : A) → Some a ≡ Some b → a ≡ b
some-is a b e = ap (λ o. unwrap_or o a) e

module _ (S : Signature) (delta : Bool) (depth k : ℕ) where
  -- The first arguments fill the binders of the function; no term on the way is higher than the function, an argument and the number of
  -- arguments together.
  fills : (m : ℕ) (f b : Term) (s : ℕ → Term) (us vs : List Term) → length us ≡ m → below m f ≡ Some b
      → ((i : ℕ) → height (s i) ≤ k) → All (λ a. height a ≤ k) us → All (λ a. height a ≤ k) vs → depth + (height f + k + (m + length vs)) ≤ 2000
      → Leads S delta depth m (applied (inst s f) (us ++ vs)) (applied (inst (fill s us) b) vs)
  fills zero f b s [] vs count is low all others fits =
      transport (λ g. Leads S delta depth zero (applied (inst s f) vs) (applied (inst s g) vs)) (some-is f b is) here
  fills zero f b s (u ∷ us) vs count is low all others fits = absurd (omega (arith, count))
  fills (suc m) f b s [] vs count is low all others fits = absurd (omega (arith, count))
  fills (suc m) (Lam a c) b s (u ∷ us) vs count is low all others fits =
      let first = All-head (λ a. height a ≤ k) u us all in
      let more = All-tail (λ a. height a ≤ k) u us all in
      let whole = height-inst s (Lam a c) k low in
      let step = spine-steps S delta (us ++ vs) (App (Lam (inst s a) (inst (ups s) c)) u) (subst (inst (ups s) c) 0 u)
      (beta-step S delta (Lam (inst s a) (inst (ups s) c)) u (inst (ups s) c) refl) in
      let spine = height-spine (App (inst s (Lam a c)) u) (us ++ vs) (height (Lam a c) + k) (omega (arith, whole.1, first))
      (higher k (height (Lam a c) + k) (us ++ vs) (omega arith) (All-append (λ a. height a ≤ k) us vs more others)) in
      on (omega (arith, spine, fits, count, length-append us vs)) step
      (transport (λ g. Leads S delta depth m (applied g (us ++ vs)) (applied (inst (fill (extend s u) us) b) vs)) (sym (filled-one s c u))
      (fills m c b (extend s u) us vs (omega (arith, count)) is (extend-low s u k low first) more others (omega (arith, fits))))
  fills (suc m) f b s (u ∷ us) vs count is low all others fits = absurd (grind (arith, is))

-- what stands for the variables stays as low
pub fill-low : (s : ℕ → Term) (us : List Term) (k : ℕ) → ((i : ℕ) → height (s i) ≤ k) → All (λ a. height a ≤ k) us → (i : ℕ) → height (fill s us i) ≤ k
fill-low s [] k low all i = low i
fill-low s (u ∷ us) k low all i =
    fill-low (extend s u) us k (extend-low s u k low (All-head (λ a. height a ≤ k) u us all)) (All-tail (λ a. height a ≤ k) u us all) i

-- a body is no higher than its function
below-low : (m : ℕ) (f b : Term) → below m f ≡ Some b → height b ≤ height f
below-low zero f b is = omega (arith, ap height (some-is f b is))
below-low (suc m) (Lam a c) b is = omega (arith, below-low m c b is)
below-low (suc m) f b is = absurd (grind (arith, is))

module _ (S : Signature) (delta : Bool) (depth k : ℕ) (t f b : Term) (m : ℕ) (is : below m f ≡ Some b) (few : m ≤ length (spine_of t))
    (all : All (λ a. height a ≤ k) (spine_of t)) (fits : depth + (height f + k + length (spine_of t)) ≤ 2000) (some : 1 ≤ length (spine_of t)) where
  var-low : (i : ℕ) → height (Var i) ≤ k
  var-low i = omega (arith, all 0 (Var 0) (omega (arith, some)), height-positive (get_or (spine_of t) 0 (Var 0)))

  filled-leads : Leads S delta depth m (applied f (spine_of t)) (filled_with m b (spine_of t))
  filled-leads =
      transport (λ us. Leads S delta depth m (applied f us) (filled_with m b (spine_of t))) (take-append-drop m (spine_of t))
      (transport (λ g. Leads S delta depth m (applied g (take m (spine_of t) ++ drop m (spine_of t))) (filled_with m b (spine_of t))) (inst-var f)
      (fills S delta depth k m f b Var (take m (spine_of t)) (drop m (spine_of t)) (length-take-le m (spine_of t) few) is var-low
      (All-take (λ a. height a ≤ k) m (spine_of t) all) (All-drop (λ a. height a ≤ k) m (spine_of t) all)
      (omega (arith, fits, few, length-drop m (spine_of t)))))

  filled-low : height (filled_with m b (spine_of t)) ≤ 2000
  filled-low =
      let body = height-inst (fill Var (take m (spine_of t))) b k (fill-low Var (take m (spine_of t)) k var-low (All-take (λ a. height a ≤ k) m (spine_of t) all)) in
      let spine = height-spine (inst (fill Var (take m (spine_of t))) b) (drop m (spine_of t)) (height f + k) (omega (arith, body.1, below-low m f b is))
      (higher k (height f + k) (drop m (spine_of t)) (omega arith) (All-drop (λ a. height a ≤ k) m (spine_of t) all)) in
      omega (arith, spine, fits, few, length-drop m (spine_of t))

  -- the function is the head
  head-leads : head_of t ≡ f → Leads S delta depth m t (filled_with m b (spine_of t))
  head-leads e =
      transport (λ x. Leads S delta depth m x (filled_with m b (spine_of t))) (applied-spine t)
      (transport (λ g. Leads S delta depth m (applied g (spine_of t)) (filled_with m b (spine_of t))) (sym e) filled-leads)

  -- the head steps to the function
  delta-leads : step_of S delta (head_of t) ≡ Some f → depth + height t ≤ 2000 → Leads S delta depth (suc m) t (filled_with m b (spine_of t))
  delta-leads e low =
      on low
      (transport (λ x. step_of S delta x ≡ Some (applied f (spine_of t))) (applied-spine t) (spine-steps S delta (spine_of t) (head_of t) f e))
      filled-leads

module _ {I : Type 0} (S : Signature) (delta : Bool) (depth k : ℕ) (held : Held I) (t head : Term) (count : ℕ) (f : Filling I) (filling : IsFilling S delta held head count f)
    (is : head ≡ head_of t) (counted : count ≡ length (spine_of t)) (two : 2 ≤ f.steps) (all : All (λ a. height a ≤ k) (spine_of t))
    (fits : depth + count + height (held.tree f.function) + k ≤ 2000) (low : depth + height t ≤ 2000) where
  few-filled : f.filled ≤ length (spine_of t)
  few-filled = omega (arith, filling.few, counted)

  some-filled : 1 ≤ length (spine_of t)
  some-filled = elim filling.from [ inl h ↦ omega (arith, h.1, two, filling.few, counted) | inr h ↦ omega (arith, h.1, two, filling.few, counted) ]

  fits-filled : depth + (height (held.tree f.function) + k + length (spine_of t)) ≤ 2000
  fits-filled = omega (arith, fits, counted)

  filling-leads : Leads S delta depth f.steps t (filled_with f.filled (held.tree f.body) (spine_of t))
  filling-leads = elim filling.from [
    | inl h ↦
        transport (λ n. Leads S delta depth n t (filled_with f.filled (held.tree f.body) (spine_of t))) (sym h.1)
        (head-leads S delta depth k t (held.tree f.function) (held.tree f.body) f.filled filling.body few-filled all fits-filled some-filled (sym is ∙ h.0))
    | inr h ↦
        transport (λ n. Leads S delta depth n t (filled_with f.filled (held.tree f.body) (spine_of t))) (let e : suc f.filled ≡ f.steps = omega (arith, h.1) in e)
        (delta-leads S delta depth k t (held.tree f.function) (held.tree f.body) f.filled filling.body few-filled all fits-filled some-filled
        (ap (step_of S delta) (sym is) ∙ h.0) low)
  ]

  filling-low : height (filled_with f.filled (held.tree f.body) (spine_of t)) ≤ 2000
  filling-low = filled-low S delta depth k t (held.tree f.function) (held.tree f.body) f.filled filling.body few-filled all fits-filled some-filled

  pub filling-taken : (left : ℕ) → f.steps ≤ left → AreTaken S delta depth held t left f
  filling-taken left units =
      record { body_live = filling.body_live; few = few-filled; two = two; units = units; leads = filling-leads; low = filling-low }

module _ {I : Type 0} (S : Signature) (delta : Bool) (depth left : ℕ) (held : Held I) (t : Term) (f : Filling I) (taken : AreTaken S delta depth held t left f) where
  abbrev outcome : Term
  outcome = filled_with f.filled (held.tree f.body) (spine_of t)

  -- what is left to do for the units that are left
  pub taken-on : (rest : ℕ) → rest + f.steps ≡ left → whnf_at S delta depth rest (filled_with f.filled (held.tree f.body) (spine_of t)) ≡ whnf_at S delta depth left t
  taken-on rest is =
      sym (leads-on S delta depth f.steps rest t outcome taken.leads) ∙ ap (λ n. whnf_at S delta depth n t) (let e : f.steps + rest ≡ left = omega (arith, is) in e)

  pub taken-reach : Reaches S delta t (filled_with f.filled (held.tree f.body) (spine_of t))
  taken-reach = leads-reach S delta depth f.steps t outcome taken.leads

  -- what is formed of its parts is on the way
  pub taken-adds : (old new : Held I) → AddsParts old new (filled_with f.filled (held.tree f.body) (spine_of t)) → AddsOnly (IsPartOnTheWay S delta t) old new
  taken-adds old new a = reached-adds S delta t old new outcome taken-reach (here-adds S delta outcome old new a)

  pub taken-lacks : (new : Held I) → Lacks new (filled_with f.filled (held.tree f.body) (spine_of t)) → LacksOne (IsPartOnTheWay S delta t) new
  taken-lacks new l = reached-lacks S delta t new outcome taken-reach (here-lacks S delta outcome new l)

-- what is formed of parts of the first term is formed of parts of the second one
pub parts-more : {I : Type 0} (old new : Held I) (first second : Term) → ((x : Term) → IsPart x first → IsPart x second) → AddsParts old new first → AddsParts old new second
parts-more old new first second inside a =
    record { each = λ id live. elim (a.each id live) [ inl there ↦ inl there | inr part ↦ inr (inside (new.tree id) part) ] }

pub ruleset taken_laws = (taken-on, taken-reach, taken-adds, taken-lacks)
