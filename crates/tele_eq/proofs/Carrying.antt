-- Terms that are at a depth, carried to another depth: an instantiation that passes the variables of the context puts what
-- stands for the variables of a telescope at the one depth for what stands for them at the other.
use Rattle.std.proofs.Common.{◌≡◌, ℕ, zero, suc, ◌+◌, ◌-◌, ◌*◌, ◌<◌, ◌≤◌, ◌==◌, ◌⊎◌, inl, inr, nat_lt, cond, List, [], ◌∷◌, length, refl, ap, ap₂, sym, ◌∙◌, arith}
use Rattle.std.proofs.lemmas.Bool.Decides.{nat_tests}
use mathlib.Core.Path.{fun_ext}
use Rattle.theory.specs.Terms.{Term, lift}
use Rattle.theory.specs.Terms.Term.{Var, Pi, Lam, App, Let, Con}
use Rattle.theory.specs.Signatures.{equality}
use Rattle.theory.specs.Substitutions.{ren, inst, ups, weaken}
use Rattle.theory.specs.Telescopes.{weaken_by}
use Rattle.theory.proofs.Instances.{ap₃, inst-same, inst-ren, inst-var, ren-ren, ren-same, ren-is_inst}
use Rattle.theory.proofs.Shifts.{weaken_by-is_lift}
use Rattle.core_terms.specs.Levels.{variable}
use Rattle.tele_eq.specs.Items.{Item, type_at, level_at}
use Rattle.tele_eq.specs.Environments.{Environment, outside, inside, put, put_under, put_variable}
use Rattle.tele_eq.specs.TelescopicEquality.{type_with, reflexive}

-- ---- an instantiation k binders further in

abbrev pub ups_by : ℕ → (ℕ → Term) → ℕ → Term
ups_by k s n = cond (nat_lt n k) (Var n) (weaken_by k (s (n - k)))

ups_by-below : (k : ℕ) (s : ℕ → Term) (n : ℕ) → n < k → ups_by k s n ≡ Var n
ups_by-below k s n lt = grind (arith, nat_tests)

ups_by-above : (k : ℕ) (s : ℕ → Term) (n : ℕ) → k ≤ n → ups_by k s n ≡ weaken_by k (s (n - k))
ups_by-above k s n le = grind (arith, nat_tests)

weaken_by-more : (k : ℕ) (t : Term) → weaken (weaken_by k t) ≡ weaken_by (k + 1) t
weaken_by-more k t = ren-ren suc (λ n. n + k) t ∙ ren-same t (λ n. omega arith)

ups_by-at : (k : ℕ) (s : ℕ → Term) (n : ℕ) → (n < k) ⊎ (k ≤ n) → ups (ups_by k s) (suc n) ≡ ups_by (k + 1) s (suc n)
ups_by-at k s n (inl lt) = ap weaken (ups_by-below k s n lt) ∙ sym (ups_by-below (k + 1) s (suc n) (omega arith))
ups_by-at k s n (inr le) =
    let e : n - k ≡ suc n - (k + 1) = omega arith in
    ap weaken (ups_by-above k s n le) ∙ (weaken_by-more k (s (n - k)) ∙ (ap (λ i. weaken_by (k + 1) (s i)) e ∙ sym (ups_by-above (k + 1) s (suc n) (omega arith))))

sides : (n k : ℕ) → (n < k) ⊎ (k ≤ n)
sides n k = grind arith

ups_by-each : (k : ℕ) (s : ℕ → Term) (n : ℕ) → ups (ups_by k s) n ≡ ups_by (k + 1) s n
ups_by-each k s zero = sym (ups_by-below (k + 1) s 0 (omega arith))
ups_by-each k s (suc n) = ups_by-at k s n (sides n k)

pub ups_by-more : (k : ℕ) (s : ℕ → Term) → ups (ups_by k s) ≡ ups_by (k + 1) s
ups_by-more k s = fun_ext (ups_by-each k s)

ren-none : (t : Term) → ren (λ i. i) t ≡ t
ren-none t = ren-is_inst (λ i. i) t ∙ inst-var t

ups_by-none : (s : ℕ → Term) (n : ℕ) → ups_by 0 s n ≡ s n
ups_by-none s n =
    let e : n - 0 ≡ n = omega arith in
    ups_by-above 0 s n (omega arith) ∙ (ren-same (s (n - 0)) (λ i. omega arith) ∙ (ren-none (s (n - 0)) ∙ ap s e))

pub inst-none : (s : ℕ → Term) (t : Term) → inst (ups_by 0 s) t ≡ inst s t
inst-none s t = inst-same t (ups_by-none s)

-- under a binder more
pub inst-under : (k k' : ℕ) (s : ℕ → Term) (t : Term) → k' ≡ k + 1 → inst (ups (ups_by k s)) t ≡ inst (ups_by k' s) t
inst-under k k' s t e = ap (λ r. inst r t) (ups_by-more k s ∙ ap (λ i. ups_by i s) (sym e))

-- ---- depths

-- an instantiation that takes the variables of the context from after `old` binders to after `new` ones
pub record Carries : Type 0 where
  pub old : ℕ
  pub new : ℕ
  pub terms : ℕ → Term
  pub each : (n : ℕ) → terms (n + old) ≡ Var (n + new)

-- d and d' are k binders after the old and the new ones
pub record AreDepths (c : Carries) (k d d' : ℕ) : Type 0 where
  pub old : d ≡ c.old + k
  pub new : d' ≡ c.new + k

pub deeper : (c : Carries) (k d d' : ℕ) (by : ℕ) → AreDepths c k d d' → AreDepths c (k + by) (d + by) (d' + by)
deeper c k d d' by at = record { old = omega arith; new = omega arith }

-- z at position p, k binders further in
abbrev pub Agrees : Carries → (z z' : Environment) (k p : ℕ) → Type 0
Agrees c z z' k p = (d d' : ℕ) → AreDepths c k d d' → inst (ups_by k c.terms) (z d p) ≡ z' d' p

-- and further in than k binders
abbrev pub AgreesFrom : Carries → (z z' : Environment) (k p : ℕ) → Type 0
AgreesFrom c z z' k p = (k' : ℕ) → k ≤ k' → Agrees c z z' k' p

-- at each position below j
abbrev pub AgreesBelow : Carries → (z z' : Environment) (k j : ℕ) → Type 0
AgreesBelow c z z' k j = (p : ℕ) → p < j → AgreesFrom c z z' k p

-- wherever
abbrev pub IsCarried : Carries → Environment → Type 0
IsCarried c u = (k p : ℕ) → Agrees c u u k p

-- ---- variables and terms of the context

carried-above : (c : Carries) (k n i : ℕ) → i ≡ n + c.old + k → inst (ups_by k c.terms) (Var i) ≡ Var (n + c.new + k)
carried-above c k n i e =
    let back : i - k ≡ n + c.old = omega arith in
    ups_by-above k c.terms i (omega arith) ∙ ap (weaken_by k) (ap c.terms back ∙ c.each n)

pub carried-lift : (c : Carries) (t : Term) (k d d' : ℕ) → AreDepths c k d d' → inst (ups_by k c.terms) (lift t d 0) ≡ lift t d' 0
carried-lift c t k d d' at =
    ap (inst (ups_by k c.terms)) (sym (weaken_by-is_lift d t))
    ∙ (inst-ren (ups_by k c.terms) (λ n. n + d) t
    ∙ (inst-same t (λ n. carried-above c k n (n + d) (moved n) ∙ ap Var (moved' n))
    ∙ (sym (ren-is_inst (λ n. n + d') t) ∙ weaken_by-is_lift d' t)))
  where
    moved : (n : ℕ) → n + d ≡ n + c.old + k
    moved n = let e : d ≡ c.old + k = at.old in omega arith

    moved' : (n : ℕ) → n + c.new + k ≡ n + d'
    moved' n = let e : d' ≡ c.new + k = at.new in omega arith

pub carried-variable : (c : Carries) (k l : ℕ) (d d' lv lv' : ℕ) → AreDepths c k d d' → AreDepths c l lv lv' → l + 1 ≤ k
    → inst (ups_by k c.terms) (variable d lv) ≡ variable d' lv'
carried-variable c k l d d' lv lv' at lat le =
    let e : d - (lv + 1) ≡ k - (l + 1) = omega arith in
    let e' : k - (l + 1) ≡ d' - (lv' + 1) = omega arith in
    ups_by-below k c.terms (d - (lv + 1)) (omega arith) ∙ ap Var (e ∙ e')

pub carried-outside : (c : Carries) (terms : List Term) → IsCarried c (outside terms)
carried-outside c terms k p d d' at = carried-lift c _ k d d' at

-- ---- terms over a telescope

put-variable_carried : (c : Carries) (z z' : Environment) (size k d d' : ℕ) → AreDepths c k d d' → AgreesBelow c z z' k size
    → (under n : ℕ) → inst (ups_by (k + under) c.terms) (put_variable z size d under n) ≡ put_variable z' size d' under n
put-variable_carried c z z' size k d d' at agrees under n = by (sides n under) (sides n (size + under))
  where
    own : {A : Type 0} (x y w : A) → n < under → cond (nat_lt n under) x (cond (nat_lt n (size + under)) y w) ≡ x
    own x y w lt = grind (arith, nat_tests)

    placed : {A : Type 0} (x y w : A) → under ≤ n → n < size + under → cond (nat_lt n under) x (cond (nat_lt n (size + under)) y w) ≡ y
    placed x y w le lt = grind (arith, nat_tests)

    outer : {A : Type 0} (x y w : A) → under ≤ n → size + under ≤ n → cond (nat_lt n under) x (cond (nat_lt n (size + under)) y w) ≡ w
    outer x y w le le' = grind (arith, nat_tests)

    by : (n < under) ⊎ (under ≤ n) → (n < size + under) ⊎ (size + under ≤ n)
        → inst (ups_by (k + under) c.terms) (put_variable z size d under n) ≡ put_variable z' size d' under n
    by (inl lt) _ =
        ap (inst (ups_by (k + under) c.terms)) (own _ _ _ lt)
        ∙ (ups_by-below (k + under) c.terms n (omega arith) ∙ sym (own _ _ _ lt))
    by (inr le) (inl lt) =
        ap (inst (ups_by (k + under) c.terms)) (placed _ _ _ le lt)
        ∙ (agrees (size + under - (n + 1)) (omega arith) (k + under) (omega arith) (d + under) (d' + under) (deeper c k d d' under at)
        ∙ sym (placed _ _ _ le lt))
    by (inr le) (inr le') =
        let dd : d ≡ c.old + k = at.old in
        let dd' : d' ≡ c.new + k = at.new in
        let e : n - size + d ≡ n - size - under + c.old + (k + under) = omega arith in
        let e' : n - size - under + c.new + (k + under) ≡ n - size + d' = omega arith in
        ap (inst (ups_by (k + under) c.terms)) (outer _ _ _ le le')
        ∙ (carried-above c (k + under) (n - size - under) (n - size + d) e ∙ (ap Var e' ∙ sym (outer _ _ _ le le')))

put-under_carried : (c : Carries) (z z' : Environment) (size k d d' : ℕ) → AreDepths c k d d' → AgreesBelow c z z' k size
    → (t : Term) (under : ℕ) → inst (ups_by (k + under) c.terms) (put_under z size d under t) ≡ put_under z' size d' under t
put-under_carried c z z' size k d d' at agrees t under = each t under
  where
    next : (under : ℕ) → k + (under + 1) ≡ k + under + 1
    next under = omega arith

    each : (t : Term) (under : ℕ) → inst (ups_by (k + under) c.terms) (put_under z size d under t) ≡ put_under z' size d' under t
    each (Var n) under = put-variable_carried c z z' size k d d' at agrees under n
    each (Pi a b) under =
        ap₂ Pi (each a under) (inst-under (k + under) (k + (under + 1)) c.terms _ (next under) ∙ each b (under + 1))
    each (Lam a b) under =
        ap₂ Lam (each a under) (inst-under (k + under) (k + (under + 1)) c.terms _ (next under) ∙ each b (under + 1))
    each (App f a) under = ap₂ App (each f under) (each a under)
    each (Let a t b) under =
        ap₃ Let (each a under) (each t under)
        (inst-under (k + under) (k + (under + 1)) c.terms _ (next under) ∙ each b (under + 1))
    each _ under = refl

pub carried-put : (c : Carries) (z z' : Environment) (size k d d' : ℕ) → AreDepths c k d d' → AgreesBelow c z z' k size
    → (t : Term) → inst (ups_by k c.terms) (put z size d t) ≡ put z' size d' t
carried-put c z z' size k d d' at agrees t =
    let e : k ≡ k + 0 = omega arith in
    ap (λ i. inst (ups_by i c.terms) (put z size d t)) e ∙ put-under_carried c z z' size k d d' at agrees t 0

pub carried-type : (c : Carries) (X : List Item) (z z' : Environment) (j k d d' : ℕ) → AreDepths c k d d'
    → AgreesBelow c z z' k j → inst (ups_by k c.terms) (type_with X z d j) ≡ type_with X z' d' j
carried-type c X z z' j k d d' at agrees = carried-put c z z' j k d d' at agrees (type_at X j)

pub below-all : (c : Carries) (u : Environment) → IsCarried c u → (k j : ℕ) → AgreesBelow c u u k j
below-all c u carried k j p lt k' le = carried k' p

pub carried-reflexive : (c : Carries) (X : List Item) (u : Environment) → IsCarried c u → IsCarried c (reflexive X u)
carried-reflexive c X u carried k j d d' at =
    ap₂ App (ap (App (Con (equality (level_at X j)) 0)) (carried-type c X u u j k d d' at (below-all c u carried k j)))
    (carried k j d d' at)

-- ---- variables at positions

-- how many binders in a position has its variable, or 0 where it has none
abbrev pub bound : (positions : List ℕ) (level p : ℕ) → ℕ
bound [] level p = 0
bound (t ∷ positions) level p = cond (p == t) (level + 1) (bound positions (level + 2) p)

pub bound-head : (t : ℕ) (positions : List ℕ) (level p k : ℕ) → bound (t ∷ positions) level p ≤ k
    → ((p ≡ t) × (level + 1 ≤ k)) ⊎ ((p ≡ t → ⊥) × (bound positions (level + 2) p ≤ k))
bound-head t positions level p k le = grind (arith, nat_tests)

pub bound-own : (t : ℕ) (positions : List ℕ) (level : ℕ) → bound (t ∷ positions) level t ≤ level + 1
bound-own t positions level = grind (arith, nat_tests)

pub bound-rest : (t : ℕ) (positions : List ℕ) (level p k : ℕ) → level + 2 ≤ k → bound positions (level + 2) p ≤ k
    → bound (t ∷ positions) level p ≤ k
bound-rest t positions level p k le b = grind (arith, nat_tests)

pub bound-most : (positions : List ℕ) (level p : ℕ) → bound positions level p ≤ level + 2 * length positions - 1
bound-most [] level p = omega arith
bound-most (t ∷ positions) level p = grind (arith, nat_tests, bound-most positions (level + 2) p)

-- positions in order, from n on
abbrev pub IsFrom : (n : ℕ) → List ℕ → Type 0
IsFrom n [] = Unit {0}
IsFrom n (t ∷ positions) = (n ≤ t) × IsFrom (t + 1) positions

pub bound-before : (n : ℕ) (positions : List ℕ) → IsFrom n positions → (level p : ℕ) → p < n → bound positions level p ≡ 0
bound-before n [] from level p lt = refl
bound-before n (t ∷ positions) from level p lt =
    let le : n ≤ t = from.0 in
    let rest : bound positions (level + 2) p ≡ 0 = bound-before (t + 1) positions from.1 (level + 2) p (omega arith) in
    grind (arith, nat_tests)

-- the first of two terms where two positions are one, and else the second
pub where-same : (p t : ℕ) (x y : Term) → p ≡ t → cond (p == t) x y ≡ x
where-same p t x y e = grind (arith, nat_tests)

pub where-other : (p t : ℕ) (x y : Term) → (p ≡ t → ⊥) → cond (p == t) x y ≡ y
where-other p t x y e = grind (arith, nat_tests)

pub carried-inside : (c : Carries) (u u' : Environment) (positions : List ℕ) (l lv lv' : ℕ) → AreDepths c l lv lv'
    → (k p : ℕ) → Agrees c u u' k p → bound positions l p ≤ k
    → Agrees c (inside positions lv u) (inside positions lv' u') k p
carried-inside c u u' [] l lv lv' lat k p agrees le d d' at = agrees d d' at
carried-inside c u u' (t ∷ positions) l lv lv' lat k p agrees le d d' at =
    elim (bound-head t positions l p k le) [
      | inl h ↦
          ap (inst (ups_by k c.terms)) (where-same p t (variable d lv) (inside positions (lv + 2) u d p) h.0)
          ∙ (carried-variable c k l d d' lv lv' at lat h.1
          ∙ sym (where-same p t (variable d' lv') (inside positions (lv' + 2) u' d' p) h.0))
      | inr h ↦
          ap (inst (ups_by k c.terms)) (where-other p t (variable d lv) (inside positions (lv + 2) u d p) h.0)
          ∙ (carried-inside c u u' positions (l + 2) (lv + 2) (lv' + 2) (deeper c l lv lv' 2 lat) k p agrees h.1 d d' at
          ∙ sym (where-other p t (variable d' lv') (inside positions (lv' + 2) u' d' p) h.0))
    ]
