-- With t for the new variable, a term without t is the term that it was, in any order of the variables.
use Rattle.std.proofs.Common.{◌≡◌, ℕ, zero, suc, ◌+◌, ◌-◌, ◌≤◌, ◌<◌, ◌==◌, ◌⊎◌, inl, inr, nat_lt, Bool, true, false, ◌||◌, cond, List, [], ◌∷◌, length, get_or, refl, sym, ap, ap₂, ◌∙◌, subst as transport, eq-eqb, arith}
use native.Mathlib.Decide.{ℕ_discrete}
use Rattle.std.proofs.lemmas.Bool.Decides.{nat_tests, Decides-eqb}
use Rattle.std.proofs.lemmas.Bool.{or_left, or_right}
use Rattle.theory.specs.Terms.{Term, Term-discrete, Var, Sort, Pi, Lam, App, Let, Const, Fam, Con, Elim, AxiomK, lift, lift_var, subst_var, free_of}
use Rattle.theory.specs.Substitutions.{extend, fill}
use Rattle.theory.specs.Eliminators.{no_variable}
use Rattle.theory.proofs.Instances.{ap₃}
use Rattle.core_terms.specs.Instances.{under_binders, instance_of}
use Rattle.core_terms.specs.Substitution.{subst_under}
use Rattle.kernel_reduce.specs.Comparison.{same}
use Rattle.tele_eq.specs.Dependences.{has_variable}
use Rattle.tele_eq.specs.Environments.{put_variable, put_under}
use Rattle.tele_eq.specs.Levels.{place_in}
use Rattle.unification.specs.Solving.{reordered}
use Rattle.unification.proofs.Cases.{below-or_from, first-of_two, second-of_two}
use Rattle.with_abstraction.specs.Occurrences.{is_occurrence, without_under}

-- ---- t for the new variable

pub same-is : (a b : Term) → same a b ≡ true → a ≡ b
same-is a b h = go (Term-discrete ℕ_discrete a b) h
  where
    go : (d : Dec (a ≡ b)) → elim d [ yes e ↦ true | no e ↦ false ] ≡ true → a ≡ b
    go (yes e) k = e
    go (no e) k = absurd (cc)

pub test-same : (x y : ℕ) (a b : Term) → x ≡ y → cond (x == y) a b ≡ a
test-same x y a b e = ap (λ c. cond c a b) (eq-eqb x y e)

pub test-other : (x y : ℕ) (a b : Term) → (x ≡ y → ⊥) → cond (x == y) a b ≡ b
test-other x y a b ne = go (x == y) refl
  where
    go : (c : Bool) → (x == y) ≡ c → cond c a b ≡ b
    go true e = absurd (ne ((Decides-eqb x y).0 e))
    go false e = refl

-- the new variable becomes t
new-is : (t : Term) (under : ℕ) → subst_under (Var under) under t under ≡ lift t under 0
new-is t under =
    second-of_two under under (Var under) (cond (under == under) (lift t under 0) (Var (under - 1))) (omega arith)
    ∙ test-same under under (lift t under 0) (Var (under - 1)) refl

-- a variable that made room comes back
other-is : (t : Term) (under w : ℕ) → subst_under (Var (lift_var w 1 under)) under t under ≡ Var w
other-is t under w = by (below-or_from w under)
  where
    made : (b : Bool) (e : nat_lt w under ≡ b) → ℕ
    made b e = cond b w (w + 1)

    by : (w < under) ⊎ (under ≤ w) → subst_var (lift_var w 1 under) under (lift t under 0) ≡ Var w
    by (inl lt) =
        let e : lift_var w 1 under ≡ w = grind (arith, nat_tests) in
        ap (λ x. subst_var x under (lift t under 0)) e
        ∙ first-of_two w under (Var w) (cond (w == under) (lift t under 0) (Var (w - 1))) lt
    by (inr le) =
        let e : lift_var w 1 under ≡ w + 1 = grind (arith, nat_tests) in
        ap (λ x. subst_var x under (lift t under 0)) e
        ∙ second-of_two (w + 1) under (Var (w + 1)) (cond ((w + 1) == under) (lift t under 0) (Var (w + 1 - 1))) (omega arith)
        ∙ test-other (w + 1) under (lift t under 0) (Var (w + 1 - 1)) (λ (s : w + 1 ≡ under). omega arith)
        ∙ ap Var (let f : w + 1 - 1 ≡ w = omega arith in f)

-- an occurrence comes back, and what is none where its parts do
node-back : (t u v : Term) (under : ℕ) → subst_under v under t under ≡ u → subst_under (cond (is_occurrence t under u) (Var under) v) under t under ≡ u
node-back t u v under h = go (is_occurrence t under u) refl
  where
    go : (b : Bool) → is_occurrence t under u ≡ b → subst_under (cond b (Var under) v) under t under ≡ u
    go true e = new-is t under ∙ sym (same-is u (lift t under 0) e)
    go false e = h

pub without-back : (t u : Term) (under : ℕ) → subst_under (without_under t under u) under t under ≡ u
without-back t (Var w) under = node-back t (Var w) (Var (lift_var w 1 under)) under (other-is t under w)
without-back t (Pi a b) under =
    node-back t (Pi a b) (Pi (without_under t under a) (without_under t (under + 1) b)) under (ap₂ Pi (without-back t a under) (without-back t b (under + 1)))
without-back t (Lam a b) under =
    node-back t (Lam a b) (Lam (without_under t under a) (without_under t (under + 1) b)) under (ap₂ Lam (without-back t a under) (without-back t b (under + 1)))
without-back t (App f a) under =
    node-back t (App f a) (App (without_under t under f) (without_under t under a)) under (ap₂ App (without-back t f under) (without-back t a under))
without-back t (Let a u b) under =
    node-back t (Let a u b) (Let (without_under t under a) (without_under t under u) (without_under t (under + 1) b)) under
    (ap₃ Let (without-back t a under) (without-back t u under) (without-back t b (under + 1)))
without-back t (Sort i) under = node-back t (Sort i) (Sort i) under refl
without-back t (Const i) under = node-back t (Const i) (Const i) under refl
without-back t (Fam i) under = node-back t (Fam i) (Fam i) under refl
without-back t (Con i c) under = node-back t (Con i c) (Con i c) under refl
without-back t (Elim i m) under = node-back t (Elim i m) (Elim i m) under refl
without-back t (AxiomK i m) under = node-back t (AxiomK i m) (AxiomK i m) under refl

-- ---- the variables in their new order

-- the term for the variable with a level, where the new one has level n
abbrev pub value_of : (n : ℕ) (t : Term) (level : ℕ) → Term
value_of n t level = cond (level == n) t (Var (n - (level + 1)))

-- the level has its place among the values, and there its own
pub record Stands (values : List Term) (order : List ℕ) (n : ℕ) (t : Term) (level : ℕ) : Type 0 where
  pub place : place_in order level < length values
  pub value : get_or values (place_in order level) (Sort 0) ≡ value_of n t level

-- each level whose variable occurs in a term over n + 1 variables, under so many binders, is there
abbrev pub EachStands : (values : List Term) (order : List ℕ) (n : ℕ) (t : Term) (under : ℕ) (x : Term) → Type 0
EachStands values order n t under x = (l : ℕ) → l < n + 1 → has_variable (n + 1 - (l + 1) + under) x ≡ true → Stands values order n t l

fill-last : (s : ℕ → Term) (us : List Term) (v : ℕ) → length us ≤ v → fill s us v ≡ s (v - length us)
fill-last s [] v h = ap s (omega arith)
fill-last s (u ∷ us) v h =
    fill-last (extend s u) us v (omega arith)
    ∙ ap (extend s u) (let e : v - length us ≡ suc (v - length (u ∷ us)) = omega arith in e)

-- the value at a place, counted from the outermost on
pub fill-place : (s : ℕ → Term) (us : List Term) (q : ℕ) → q < length us → fill s us (length us - (q + 1)) ≡ get_or us q (Sort 0)
fill-place s [] q lt = absurd (omega arith)
fill-place s (u ∷ us) zero lt =
    fill-last (extend s u) us (length (u ∷ us) - (0 + 1)) (omega arith)
    ∙ ap (extend s u) (let e : length (u ∷ us) - (0 + 1) - length us ≡ 0 = omega arith in e)
fill-place s (u ∷ us) (suc q) lt =
    ap (fill (extend s u) us) (let e : length (u ∷ us) - (suc q + 1) ≡ length us - (q + 1) = omega arith in e)
    ∙ fill-place (extend s u) us q (omega arith)

pub under-lower : (s : ℕ → Term) (under v : ℕ) → v < under → under_binders under s v ≡ Var v
unfolding under_binders
under-lower s under v lt = first-of_two v under (Var v) (lift (s (v - under)) under 0) lt

pub under-higher : (s : ℕ → Term) (under v : ℕ) → under ≤ v → under_binders under s v ≡ lift (s (v - under)) under 0
unfolding under_binders
under-higher s under v le = second-of_two v under (Var v) (lift (s (v - under)) under 0) le

lifted-variable : (m under : ℕ) → lift (Var m) under 0 ≡ Var (m + under)
lifted-variable m under = ap Var (let e : lift_var m under 0 ≡ m + under = grind (arith, nat_tests) in e)

-- the variable with a level becomes the term for it
level-back : (values : List Term) (order : List ℕ) (n : ℕ) (t : Term) (under l : ℕ) → l < n + 1 → Stands values order n t l
    → instance_of values under (reordered order (length values + under) l) ≡ subst_under (Var (n + 1 + under - (l + 1))) under t under
level-back values order n t under l lt h =
    let q = place_in order l in
    let low : q < length values = h.place in
    under-higher (fill no_variable values) under (length values + under - (q + 1)) (omega arith)
    ∙ ap (λ m. lift (fill no_variable values m) under 0) (let e : length values + under - (q + 1) - under ≡ length values - (q + 1) = omega arith in e)
    ∙ ap (λ u. lift u under 0) (fill-place no_variable values q low ∙ h.value)
    ∙ by (either-level (l == n) refl)
  where
    either-level : (b : Bool) → (l == n) ≡ b → (l ≡ n) ⊎ (l < n)
    either-level true e = inl ((Decides-eqb l n).0 e)
    either-level false e = let ne : l ≡ n → ⊥ = (λ (s : l ≡ n). let k : (l == n) ≡ true = eq-eqb l n s in cc) in inr (omega arith)

    by : (l ≡ n) ⊎ (l < n) → lift (value_of n t l) under 0 ≡ subst_under (Var (n + 1 + under - (l + 1))) under t under
    by (inl e) =
        ap (λ u. lift u under 0) (test-same l n t (Var (n - (l + 1))) e)
        ∙ sym (ap (λ v. subst_under (Var v) under t under) (let f : n + 1 + under - (l + 1) ≡ under = omega arith in f) ∙ new-is t under)
    by (inr lower) =
        let v = n + 1 + under - (l + 1) in
        ap (λ u. lift u under 0) (test-other l n t (Var (n - (l + 1))) (λ (s : l ≡ n). omega arith))
        ∙ lifted-variable (n - (l + 1)) under
        ∙ sym
        (second-of_two v under (Var v) (cond (v == under) (lift t under 0) (Var (v - 1))) (omega arith)
        ∙ test-other v under (lift t under 0) (Var (v - 1)) (λ (s : v ≡ under). omega arith)
        ∙ ap Var (let f : v - 1 ≡ n - (l + 1) + under = omega arith in f))

variable-back : (values : List Term) (order : List ℕ) (n : ℕ) (t : Term) (under v : ℕ) → v < n + 1 + under → EachStands values order n t under (Var v)
    → instance_of values under (put_variable (reordered order) (n + 1) (length values) under v) ≡ subst_under (Var v) under t under
variable-back values order n t under v lt h = by (below-or_from v under)
  where
    by : (v < under) ⊎ (under ≤ v)
        → instance_of values under (put_variable (reordered order) (n + 1) (length values) under v) ≡ subst_under (Var v) under t under
    by (inl lower) =
        ap (instance_of values under) (first-of_two v under (Var v) _ lower)
        ∙ under-lower (fill no_variable values) under v lower
        ∙ sym (first-of_two v under (Var v) (cond (v == under) (lift t under 0) (Var (v - 1))) lower)
    by (inr le) =
        let l = n + 1 + under - (v + 1) in
        let low : l < n + 1 = omega arith in
        let here : v ≡ n + 1 - (l + 1) + under = omega arith in
        ap (instance_of values under)
        (second-of_two v under (Var v) _ le ∙ first-of_two v (n + 1 + under) (reordered order (length values + under) l) (Var (v - (n + 1) + length values)) lt)
        ∙ level-back values order n t under l low (h l low (eq-eqb v (n + 1 - (l + 1) + under) here))
        ∙ ap (λ w. subst_under (Var w) under t under) (let e : n + 1 + under - (l + 1) ≡ v = omega arith in e)

pub first : (values : List Term) (order : List ℕ) (n : ℕ) (t : Term) (under : ℕ) (a : Term) (other : ℕ → Bool)
    → ((l : ℕ) → l < n + 1 → (has_variable (n + 1 - (l + 1) + under) a || other l) ≡ true → Stands values order n t l) → EachStands values order n t under a
first values order n t under a other h l lt k = h l lt (or_left (has_variable (n + 1 - (l + 1) + under) a) (other l) k)

pub second : (values : List Term) (order : List ℕ) (n : ℕ) (t : Term) (under : ℕ) (a : Term) (other : ℕ → Bool)
    → ((l : ℕ) → l < n + 1 → (other l || has_variable (n + 1 - (l + 1) + under) a) ≡ true → Stands values order n t l) → EachStands values order n t under a
second values order n t under a other h l lt k = h l lt (or_right (other l) (has_variable (n + 1 - (l + 1) + under) a) k)

pub body : (values : List Term) (order : List ℕ) (n : ℕ) (t : Term) (under : ℕ) (b : Term) (other : ℕ → Bool)
    → ((l : ℕ) → l < n + 1 → (other l || has_variable (n + 1 - (l + 1) + under + 1) b) ≡ true → Stands values order n t l) → EachStands values order n t (under + 1) b
body values order n t under b other h l lt k =
    h l lt (or_right (other l) (has_variable (n + 1 - (l + 1) + under + 1) b)
    (transport (λ m. has_variable m b ≡ true) (let e : n + 1 - (l + 1) + (under + 1) ≡ n + 1 - (l + 1) + under + 1 = omega arith in e) k))

-- a term over n + 1 variables, where each of them that occurs stands for its own
pub put-back : (values : List Term) (order : List ℕ) (n : ℕ) (t : Term) (x : Term) (under : ℕ) → free_of x ≤ n + 1 + under → EachStands values order n t under x
    → instance_of values under (put_under (reordered order) (n + 1) (length values) under x) ≡ subst_under x under t under
put-back values order n t (Var v) under f h = variable-back values order n t under v (omega arith) h
put-back values order n t (Pi a b) under f h =
    let here : ℕ → Bool = λ l. has_variable (n + 1 - (l + 1) + under) a in
    let inner : ℕ → Bool = λ l. has_variable (n + 1 - (l + 1) + under + 1) b in
    ap₂ Pi (put-back values order n t a under (omega arith) (first values order n t under a inner h))
    (put-back values order n t b (under + 1) (omega arith) (body values order n t under b here h))
put-back values order n t (Lam a b) under f h =
    let here : ℕ → Bool = λ l. has_variable (n + 1 - (l + 1) + under) a in
    let inner : ℕ → Bool = λ l. has_variable (n + 1 - (l + 1) + under + 1) b in
    ap₂ Lam (put-back values order n t a under (omega arith) (first values order n t under a inner h))
    (put-back values order n t b (under + 1) (omega arith) (body values order n t under b here h))
put-back values order n t (App g a) under f h =
    ap₂ App (put-back values order n t g under (omega arith) (first values order n t under g (λ l. has_variable (n + 1 - (l + 1) + under) a) h))
    (put-back values order n t a under (omega arith) (second values order n t under a (λ l. has_variable (n + 1 - (l + 1) + under) g) h))
put-back values order n t (Let a u b) under f h =
    let inner : ℕ → Bool = λ l. has_variable (n + 1 - (l + 1) + under + 1) b in
    let both : ℕ → Bool = λ l. has_variable (n + 1 - (l + 1) + under) a || has_variable (n + 1 - (l + 1) + under) u in
    let outer : (l : ℕ) → l < n + 1 → both l ≡ true → Stands values order n t l = λ l lt k. h l lt (or_left (both l) (inner l) k) in
    ap₃ Let (put-back values order n t a under (omega arith) (first values order n t under a (λ l. has_variable (n + 1 - (l + 1) + under) u) outer))
    (put-back values order n t u under (omega arith) (second values order n t under u (λ l. has_variable (n + 1 - (l + 1) + under) a) outer))
    (put-back values order n t b (under + 1) (omega arith) (body values order n t under b both h))
put-back values order n t (Sort i) under f h = refl
put-back values order n t (Const i) under f h = refl
put-back values order n t (Fam i) under f h = refl
put-back values order n t (Con i c) under f h = refl
put-back values order n t (Elim i m) under f h = refl
put-back values order n t (AxiomK i m) under f h = refl
