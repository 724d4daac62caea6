-- Which variables terms have that are lifted, or without a term.
use Rattle.std.proofs.Common.{◌≡◌, ℕ, suc, ◌+◌, ◌≤◌, ◌==◌, nat_lt, Bool, true, false, ◌||◌, cond, refl, subst as transport, eq-eqb, arith}
use Rattle.std.proofs.lemmas.Bool.{or_left, or_right}
use Rattle.std.proofs.lemmas.Bool.Decides.{nat_tests, Decides-eqb}
use Rattle.theory.specs.Terms.{Term, Var, Sort, Pi, Lam, App, Let, Const, Fam, Con, Elim, AxiomK, lift, lift_var}
use Rattle.tele_eq.specs.Dependences.{has_variable}
use Rattle.with_abstraction.specs.Occurrences.{is_occurrence, without_under}

pub or-cases : (P : Type 0) (b c : Bool) → (b || c) ≡ true → (b ≡ true → P) → (c ≡ true → P) → P
or-cases P true c e h k = h refl
or-cases P false c e h k = k e

pub or-map : (b c d e : Bool) → (b ≡ true → d ≡ true) → (c ≡ true → e ≡ true) → (b || c) ≡ true → (d || e) ≡ true
or-map b c d e h k both = or-cases ((d || e) ≡ true) b c both (λ x. or_left d e (h x)) (λ x. or_right d e (k x))

lifted-variable : (v by from w : ℕ) → (lift_var w by from == (v + from)) ≡ true → by ≤ v
lifted-variable v by from w h = by_test (nat_lt w from) refl h
  where
    by_test : (b : Bool) → nat_lt w from ≡ b → (cond b w (w + by) == (v + from)) ≡ true → by ≤ v
    by_test true e k = let s : w ≡ v + from = (Decides-eqb w (v + from)).0 k in absurd (grind (arith, nat_tests))
    by_test false e k = let s : w + by ≡ v + from = (Decides-eqb (w + by) (v + from)).0 k in grind (arith, nat_tests)

-- a lifted term has none of the variables that make room
pub lifted-has : (a : Term) (v by from : ℕ) → has_variable (v + from) (lift a by from) ≡ true → by ≤ v
lifted-has (Var w) v by from h = lifted-variable v by from w h
lifted-has (Pi a b) v by from h =
    or-cases (by ≤ v) (has_variable (v + from) (lift a by from)) (has_variable (v + from + 1) (lift b by (from + 1))) h (lifted-has a v by from)
    (λ k. lifted-has b v by (from + 1) (transport (λ n. has_variable n (lift b by (from + 1)) ≡ true) (let e : v + from + 1 ≡ v + (from + 1) = omega arith in e) k))
lifted-has (Lam a b) v by from h =
    or-cases (by ≤ v) (has_variable (v + from) (lift a by from)) (has_variable (v + from + 1) (lift b by (from + 1))) h (lifted-has a v by from)
    (λ k. lifted-has b v by (from + 1) (transport (λ n. has_variable n (lift b by (from + 1)) ≡ true) (let e : v + from + 1 ≡ v + (from + 1) = omega arith in e) k))
lifted-has (App f a) v by from h =
    or-cases (by ≤ v) (has_variable (v + from) (lift f by from)) (has_variable (v + from) (lift a by from)) h (lifted-has f v by from) (lifted-has a v by from)
lifted-has (Let a t b) v by from h =
    or-cases (by ≤ v) (has_variable (v + from) (lift a by from) || has_variable (v + from) (lift t by from)) (has_variable (v + from + 1) (lift b by (from + 1))) h
    (λ k. or-cases (by ≤ v) (has_variable (v + from) (lift a by from)) (has_variable (v + from) (lift t by from)) k (lifted-has a v by from) (lifted-has t v by from))
    (λ k. lifted-has b v by (from + 1) (transport (λ n. has_variable n (lift b by (from + 1)) ≡ true) (let e : v + from + 1 ≡ v + (from + 1) = omega arith in e) k))
lifted-has (Sort i) v by from h = absurd (cc)
lifted-has (Const i) v by from h = absurd (cc)
lifted-has (Fam i) v by from h = absurd (cc)
lifted-has (Con i c) v by from h = absurd (cc)
lifted-has (Elim i m) v by from h = absurd (cc)
lifted-has (AxiomK i m) v by from h = absurd (cc)

pub lifted-has_none : (a : Term) (v by : ℕ) → has_variable v (lift a by 0) ≡ true → by ≤ v
lifted-has_none a v by h =
    lifted-has a v by 0 (transport (λ n. has_variable n (lift a by 0) ≡ true) (let e : v ≡ v + 0 = omega arith in e) h)

raised-variable : (v from w : ℕ) → (lift_var w 1 from == (suc v + from)) ≡ true → (w == (v + from)) ≡ true
raised-variable v from w h = by_test (nat_lt w from) refl h
  where
    by_test : (b : Bool) → nat_lt w from ≡ b → (cond b w (w + 1) == (suc v + from)) ≡ true → (w == (v + from)) ≡ true
    by_test true e k = let s : w ≡ suc v + from = (Decides-eqb w (suc v + from)).0 k in absurd (grind (arith, nat_tests))
    by_test false e k = let s : w + 1 ≡ suc v + from = (Decides-eqb (w + 1) (suc v + from)).0 k in eq-eqb w (v + from) (omega arith)

next : (v from : ℕ) (t : Term) → has_variable (suc v + from + 1) t ≡ true → has_variable (suc v + (from + 1)) t ≡ true
next v from t h = transport (λ n. has_variable n t ≡ true) (let e : suc v + from + 1 ≡ suc v + (from + 1) = omega arith in e) h

back : (v from : ℕ) (t : Term) → has_variable (v + (from + 1)) t ≡ true → has_variable (v + from + 1) t ≡ true
back v from t h = transport (λ n. has_variable n t ≡ true) (let e : v + (from + 1) ≡ v + from + 1 = omega arith in e) h

-- a term one variable further in has the others that it had before
pub raised-has : (a : Term) (v from : ℕ) → has_variable (suc v + from) (lift a 1 from) ≡ true → has_variable (v + from) a ≡ true
raised-has (Var w) v from h = raised-variable v from w h
raised-has (Pi a b) v from h =
    or-map (has_variable (suc v + from) (lift a 1 from)) (has_variable (suc v + from + 1) (lift b 1 (from + 1))) (has_variable (v + from) a) (has_variable (v + from + 1) b)
    (raised-has a v from) (λ k. back v from b (raised-has b v (from + 1) (next v from (lift b 1 (from + 1)) k))) h
raised-has (Lam a b) v from h =
    or-map (has_variable (suc v + from) (lift a 1 from)) (has_variable (suc v + from + 1) (lift b 1 (from + 1))) (has_variable (v + from) a) (has_variable (v + from + 1) b)
    (raised-has a v from) (λ k. back v from b (raised-has b v (from + 1) (next v from (lift b 1 (from + 1)) k))) h
raised-has (App f a) v from h =
    or-map (has_variable (suc v + from) (lift f 1 from)) (has_variable (suc v + from) (lift a 1 from)) (has_variable (v + from) f) (has_variable (v + from) a)
    (raised-has f v from) (raised-has a v from) h
raised-has (Let a t b) v from h =
    or-map (has_variable (suc v + from) (lift a 1 from) || has_variable (suc v + from) (lift t 1 from)) (has_variable (suc v + from + 1) (lift b 1 (from + 1)))
    (has_variable (v + from) a || has_variable (v + from) t) (has_variable (v + from + 1) b)
    (or-map (has_variable (suc v + from) (lift a 1 from)) (has_variable (suc v + from) (lift t 1 from)) (has_variable (v + from) a) (has_variable (v + from) t)
    (raised-has a v from) (raised-has t v from))
    (λ k. back v from b (raised-has b v (from + 1) (next v from (lift b 1 (from + 1)) k))) h
raised-has (Sort i) v from h = absurd (cc)
raised-has (Const i) v from h = absurd (cc)
raised-has (Fam i) v from h = absurd (cc)
raised-has (Con i c) v from h = absurd (cc)
raised-has (Elim i m) v from h = absurd (cc)
raised-has (AxiomK i m) v from h = absurd (cc)

-- the variable that stands for an occurrence is none of the others
new-variable : (P : Type 0) (b : Bool) (v under : ℕ) (u : Term) → has_variable (suc v + under) (cond b (Var under) u) ≡ true → (has_variable (suc v + under) u ≡ true → P) → P
new-variable P true v under u h k = let e : under ≡ suc v + under = (Decides-eqb under (suc v + under)).0 h in absurd (omega arith)
new-variable P false v under u h k = k h

-- a term without t has no variables but those that it had before, and the new one
pub without-has : (t u : Term) (v under : ℕ) → has_variable (suc v + under) (without_under t under u) ≡ true → has_variable (v + under) u ≡ true
without-has t (Var w) v under h =
    new-variable ((w == (v + under)) ≡ true) (is_occurrence t under (Var w)) v under (Var (lift_var w 1 under)) h (raised-variable v under w)
without-has t (Pi a b) v under h =
    new-variable (has_variable (v + under) (Pi a b) ≡ true) (is_occurrence t under (Pi a b)) v under (Pi (without_under t under a) (without_under t (under + 1) b)) h
    (or-map (has_variable (suc v + under) (without_under t under a)) (has_variable (suc v + under + 1) (without_under t (under + 1) b)) (has_variable (v + under) a) (has_variable (v + under + 1) b)
    (without-has t a v under) (λ k. back v under b (without-has t b v (under + 1) (next v under (without_under t (under + 1) b) k))))
without-has t (Lam a b) v under h =
    new-variable (has_variable (v + under) (Lam a b) ≡ true) (is_occurrence t under (Lam a b)) v under (Lam (without_under t under a) (without_under t (under + 1) b)) h
    (or-map (has_variable (suc v + under) (without_under t under a)) (has_variable (suc v + under + 1) (without_under t (under + 1) b)) (has_variable (v + under) a) (has_variable (v + under + 1) b)
    (without-has t a v under) (λ k. back v under b (without-has t b v (under + 1) (next v under (without_under t (under + 1) b) k))))
without-has t (App f a) v under h =
    new-variable (has_variable (v + under) (App f a) ≡ true) (is_occurrence t under (App f a)) v under (App (without_under t under f) (without_under t under a)) h
    (or-map (has_variable (suc v + under) (without_under t under f)) (has_variable (suc v + under) (without_under t under a)) (has_variable (v + under) f) (has_variable (v + under) a)
    (without-has t f v under) (without-has t a v under))
without-has t (Let a u b) v under h =
    new-variable (has_variable (v + under) (Let a u b) ≡ true) (is_occurrence t under (Let a u b)) v under
    (Let (without_under t under a) (without_under t under u) (without_under t (under + 1) b)) h
    (or-map (has_variable (suc v + under) (without_under t under a) || has_variable (suc v + under) (without_under t under u)) (has_variable (suc v + under + 1) (without_under t (under + 1) b))
    (has_variable (v + under) a || has_variable (v + under) u) (has_variable (v + under + 1) b)
    (or-map (has_variable (suc v + under) (without_under t under a)) (has_variable (suc v + under) (without_under t under u)) (has_variable (v + under) a) (has_variable (v + under) u)
    (without-has t a v under) (without-has t u v under))
    (λ k. back v under b (without-has t b v (under + 1) (next v under (without_under t (under + 1) b) k))))
without-has t (Sort i) v under h = new-variable (false ≡ true) (is_occurrence t under (Sort i)) v under (Sort i) h (λ k. k)
without-has t (Const i) v under h = new-variable (false ≡ true) (is_occurrence t under (Const i)) v under (Const i) h (λ k. k)
without-has t (Fam i) v under h = new-variable (false ≡ true) (is_occurrence t under (Fam i)) v under (Fam i) h (λ k. k)
without-has t (Con i c) v under h = new-variable (false ≡ true) (is_occurrence t under (Con i c)) v under (Con i c) h (λ k. k)
without-has t (Elim i m) v under h = new-variable (false ≡ true) (is_occurrence t under (Elim i m)) v under (Elim i m) h (λ k. k)
without-has t (AxiomK i m) v under h = new-variable (false ≡ true) (is_occurrence t under (AxiomK i m)) v under (AxiomK i m) h (λ k. k)
