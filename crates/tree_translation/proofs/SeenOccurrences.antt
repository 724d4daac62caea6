-- Which variables occur in a term that is renamed, and in one that is read over a whole context.
use Rattle.std.proofs.Common.{◌≡◌, ℕ, zero, suc, ◌+◌, ◌-◌, ◌<◌, ◌||◌, ◌⊎◌, inl, inr, nat_lt, Bool, true, false, cond, List, [], ◌∷◌, length, get_or, refl, sym, ap, ◌∙◌, subst, arith, eq-eqb}
use Rattle.std.proofs.lemmas.Bool.{true≢false, eqb-true, or_left, or_right}
use Rattle.theory.specs.Terms.{Term, Var, Sort, Pi, Lam, App, Let, Const, Fam, Con, Elim, AxiomK}
use Rattle.theory.specs.Substitutions.{ren, up}
use Rattle.theory.proofs.Instances.{inst-same, ren-is_inst}
use Rattle.tele_eq.specs.Dependences.{has_variable}
use Rattle.tele_eq.specs.Levels.{has_level, is_among}
use Rattle.unification.proofs.Cases.{below-or_from, either, first-of_two, second-of_two}
use Rattle.unification.proofs.Dependants.{none-occurs}
use Rattle.unification.proofs.Levels.{among-own, among-later}
use Rattle.unification.proofs.Puts.{stands, put-is_inst}
use Rattle.tree_translation.specs.Standings.{at_levels, placed}
use Rattle.tree_translation.proofs.SeenTerms.{AreBelow, levels-lift}

or-cases : (a b : Bool) → (a || b) ≡ true → (a ≡ true) ⊎ (b ≡ true)
or-cases true b h = inl refl
or-cases false b h = inr h

-- ---- renamed terms

-- a variable that becomes variable w
pub record IsSource (r : ℕ → ℕ) (w : ℕ) (t : Term) : Type 0 where
  pub v : ℕ
  pub becomes : r v ≡ w
  pub occurs : has_variable v t ≡ true

source-in : (r : ℕ → ℕ) (w : ℕ) (t t' : Term) → ((v : ℕ) → has_variable v t ≡ true → has_variable v t' ≡ true) → IsSource r w t → IsSource r w t'
source-in r w t t' more h = record { v = h.v; becomes = h.becomes; occurs = more h.v h.occurs }

-- below a binder
source-below : (r : ℕ → ℕ) (w : ℕ) (b t : Term) → ((v : ℕ) → has_variable (v + 1) b ≡ true → has_variable v t ≡ true) → IsSource (up r) (w + 1) b → IsSource r w t
source-below r w b t more h = by h.v refl
  where
    by : (v : ℕ) → h.v ≡ v → IsSource r w t
    by zero e = let f : up r zero ≡ w + 1 = subst (λ v. up r v ≡ w + 1) e h.becomes in absurd (omega arith)
    by (suc v) e =
        let f : suc (r v) ≡ w + 1 = subst (λ v. up r v ≡ w + 1) e h.becomes in
        let g : suc v ≡ v + 1 = omega arith in
        record {
          v = v;
          becomes = omega arith;
          occurs = more v (subst (λ i. has_variable i b ≡ true) (e ∙ g) h.occurs);
        }

pub source : (r : ℕ → ℕ) (w : ℕ) (t : Term) → has_variable w (ren r t) ≡ true → IsSource r w t
source r w (Var n) h = record { v = n; becomes = eqb-true (r n) w h; occurs = eq-eqb n n refl }
source r w (Pi a b) h = elim (or-cases (has_variable w (ren r a)) _ h) [
  | inl k ↦ source-in r w a (Pi a b) (λ v. or_left (has_variable v a) _) (source r w a k)
  | inr k ↦ source-below r w b (Pi a b) (λ v. or_right (has_variable v a) _) (source (up r) (w + 1) b k)
]
source r w (Lam a b) h = elim (or-cases (has_variable w (ren r a)) _ h) [
  | inl k ↦ source-in r w a (Lam a b) (λ v. or_left (has_variable v a) _) (source r w a k)
  | inr k ↦ source-below r w b (Lam a b) (λ v. or_right (has_variable v a) _) (source (up r) (w + 1) b k)
]
source r w (App f a) h = elim (or-cases (has_variable w (ren r f)) _ h) [
  | inl k ↦ source-in r w f (App f a) (λ v. or_left (has_variable v f) _) (source r w f k)
  | inr k ↦ source-in r w a (App f a) (λ v. or_right (has_variable v f) _) (source r w a k)
]
source r w (Let a t b) h = elim (or-cases (has_variable w (ren r a) || has_variable w (ren r t)) _ h) [
  | inl l ↦ elim (or-cases (has_variable w (ren r a)) _ l) [
    | inl k ↦ source-in r w a (Let a t b) (λ v e. or_left (has_variable v a || has_variable v t) _ (or_left (has_variable v a) _ e)) (source r w a k)
    | inr k ↦ source-in r w t (Let a t b) (λ v e. or_left (has_variable v a || has_variable v t) _ (or_right (has_variable v a) _ e)) (source r w t k)
  ]
  | inr k ↦ source-below r w b (Let a t b) (λ v. or_right (has_variable v a || has_variable v t) _) (source (up r) (w + 1) b k)
]
source r w (Sort i) h = absurd (true≢false (sym h))
source r w (Const c) h = absurd (true≢false (sym h))
source r w (Fam n) h = absurd (true≢false (sym h))
source r w (Con n c) h = absurd (true≢false (sym h))
source r w (Elim n m) h = absurd (true≢false (sym h))
source r w (AxiomK i m) h = absurd (true≢false (sym h))

next : (v : ℕ) (b : Term) → has_variable (v + 1) b ≡ true → has_variable (suc v) b ≡ true
next v b h = let e : v + 1 ≡ suc v = omega arith in subst (λ i. has_variable i b ≡ true) e h

below-binder : (r : ℕ → ℕ) (v : ℕ) (b : Term) → has_variable (up r (suc v)) (ren (up r) b) ≡ true → has_variable (r v + 1) (ren (up r) b) ≡ true
below-binder r v b h = let e : suc (r v) ≡ r v + 1 = omega arith in subst (λ i. has_variable i (ren (up r) b) ≡ true) e h

pub becomes-there : (r : ℕ → ℕ) (v : ℕ) (t : Term) → has_variable v t ≡ true → has_variable (r v) (ren r t) ≡ true
becomes-there r v (Var n) h = eq-eqb (r n) (r v) (ap r (eqb-true n v h))
becomes-there r v (Pi a b) h = elim (or-cases (has_variable v a) _ h) [
  | inl k ↦ or_left (has_variable (r v) (ren r a)) _ (becomes-there r v a k)
  | inr k ↦ or_right (has_variable (r v) (ren r a)) _ (below-binder r v b (becomes-there (up r) (suc v) b (next v b k)))
]
becomes-there r v (Lam a b) h = elim (or-cases (has_variable v a) _ h) [
  | inl k ↦ or_left (has_variable (r v) (ren r a)) _ (becomes-there r v a k)
  | inr k ↦ or_right (has_variable (r v) (ren r a)) _ (below-binder r v b (becomes-there (up r) (suc v) b (next v b k)))
]
becomes-there r v (App f a) h = elim (or-cases (has_variable v f) _ h) [
  | inl k ↦ or_left (has_variable (r v) (ren r f)) _ (becomes-there r v f k)
  | inr k ↦ or_right (has_variable (r v) (ren r f)) _ (becomes-there r v a k)
]
becomes-there r v (Let a t b) h = elim (or-cases (has_variable v a || has_variable v t) _ h) [
  | inl l ↦ or_left (has_variable (r v) (ren r a) || has_variable (r v) (ren r t)) _ (elim (or-cases (has_variable v a) _ l) [
    | inl k ↦ or_left (has_variable (r v) (ren r a)) _ (becomes-there r v a k)
    | inr k ↦ or_right (has_variable (r v) (ren r a)) _ (becomes-there r v t k)
  ])
  | inr k ↦
      or_right (has_variable (r v) (ren r a) || has_variable (r v) (ren r t)) _ (below-binder r v b (becomes-there (up r) (suc v) b (next v b k)))
]
becomes-there r v (Sort i) h = absurd (true≢false (sym h))
becomes-there r v (Const c) h = absurd (true≢false (sym h))
becomes-there r v (Fam n) h = absurd (true≢false (sym h))
becomes-there r v (Con n c) h = absurd (true≢false (sym h))
becomes-there r v (Elim n m) h = absurd (true≢false (sym h))
becomes-there r v (AxiomK i m) h = absurd (true≢false (sym h))

-- ---- terms at levels

-- the number that a variable has where those of the term have these levels
abbrev pub number_at : (levels : List ℕ) (depth v : ℕ) → ℕ
number_at levels depth v =
    cond (nat_lt v (length levels)) (depth - (get_or levels (length levels - (v + 1)) 0 + 1)) (v - length levels + depth)

pub placed-is : (levels : List ℕ) (depth : ℕ) (t : Term) → AreBelow levels depth → placed levels depth t ≡ ren (number_at levels depth) t
placed-is levels depth t below =
    put-is_inst (at_levels levels) (length levels) depth (levels-lift levels depth below) t
    ∙ (inst-same t each ∙ sym (ren-is_inst (number_at levels depth) t))
  where
    each : (v : ℕ) → stands (at_levels levels) (length levels) depth v ≡ Var (number_at levels depth v)
    each v = elim (below-or_from v (length levels)) [
      | inl lt ↦ first-of_two v (length levels) _ _ lt ∙ ap Var (sym (first-of_two v (length levels) _ _ lt))
      | inr le ↦ second-of_two v (length levels) _ _ le ∙ ap Var (sym (second-of_two v (length levels) _ _ le))
    ]

-- a variable that occurs there, below the depth, is that of a position
pub record IsPosition (levels : List ℕ) (q : ℕ) (t : Term) : Type 0 where
  pub j : ℕ
  pub within : j < length levels
  pub level : get_or levels j 0 ≡ q
  pub occurs : has_variable (length levels - (j + 1)) t ≡ true

pub position-of : (levels : List ℕ) (depth q : ℕ) (t : Term) → AreBelow levels depth → q < depth
    → has_variable (depth - (q + 1)) (placed levels depth t) ≡ true → IsPosition levels q t
position-of levels depth q t below lt h =
    let s = source (number_at levels depth) (depth - (q + 1)) t (subst (λ x. has_variable (depth - (q + 1)) x ≡ true) (placed-is levels depth t below) h) in
    elim (below-or_from s.v (length levels)) [
      | inl less ↦
          let j = length levels - (s.v + 1) in
          let low : get_or levels j 0 < depth = below j (omega arith) in
          let e : depth - (get_or levels j 0 + 1) ≡ depth - (q + 1) = sym (first-of_two s.v (length levels) _ _ less) ∙ s.becomes in
          let back : s.v ≡ length levels - (j + 1) = omega arith in
          record { j = j; within = omega arith; level = omega arith; occurs = subst (λ v. has_variable v t ≡ true) back s.occurs }
      | inr le ↦
          let e : s.v - length levels + depth ≡ depth - (q + 1) = sym (second-of_two s.v (length levels) _ _ le) ∙ s.becomes in
          absurd (omega arith)
    ]

pub position-there : (levels : List ℕ) (depth j : ℕ) (t : Term) → AreBelow levels depth → j < length levels
    → has_variable (length levels - (j + 1)) t ≡ true → has_variable (depth - (get_or levels j 0 + 1)) (placed levels depth t) ≡ true
position-there levels depth j t below lt h =
    let v = length levels - (j + 1) in
    let back : length levels - (v + 1) ≡ j = omega arith in
    let e : number_at levels depth v ≡ depth - (get_or levels j 0 + 1) =
    first-of_two v (length levels) _ _ (omega arith) ∙ ap (λ i. depth - (get_or levels i 0 + 1)) back in
    subst (λ x. has_variable (depth - (get_or levels j 0 + 1)) x ≡ true) (sym (placed-is levels depth t below))
    (subst (λ w. has_variable w (ren (number_at levels depth) t) ≡ true) e (becomes-there (number_at levels depth) v t h))

-- ---- levels in terms

-- one of the levels, whose variable occurs
pub record IsLevelIn (n : ℕ) (levels : List ℕ) (t : Term) : Type 0 where
  pub q : ℕ
  pub among : is_among q levels ≡ true
  pub occurs : has_variable (n - (q + 1)) t ≡ true

pub level-in : (n : ℕ) (levels : List ℕ) (t : Term) → has_level n levels t ≡ true → IsLevelIn n levels t
level-in n [] t h = absurd (true≢false (sym h))
level-in n (p ∷ levels) t h = elim (or-cases (has_variable (n - (p + 1)) t) _ h) [
  | inl k ↦ record { q = p; among = among-own p levels; occurs = k }
  | inr k ↦ let r = level-in n levels t k in record { q = r.q; among = among-later r.q p levels r.among; occurs = r.occurs }
]

pub in-level : (n : ℕ) (levels : List ℕ) (t : Term) (q : ℕ) → is_among q levels ≡ true → has_variable (n - (q + 1)) t ≡ true → has_level n levels t ≡ true
in-level n levels t q among occurs = elim (either (has_level n levels t)) [
  | inl yes' ↦ yes'
  | inr none ↦ absurd (true≢false (sym occurs ∙ none-occurs n levels t none q among))
]
