-- Terms of a telescope over a context, with terms put for the variables of the context: the terms for the telescope's variables are
-- instantiated, and so is the telescope.
use Rattle.std.proofs.Common.{◌≡◌, ℕ, zero, suc, ◌+◌, ◌-◌, ◌<◌, ◌≤◌, ◌⊎◌, inl, inr, List, [], ◌∷◌, map, refl, sym, ap, ap₂, ◌∙◌, arith}
use Rattle.theory.specs.Terms.{Term, Var, Sort, Pi, Lam, App, Let, Const, Fam, Con, Elim, AxiomK, lift}
use Rattle.theory.specs.Substitutions.{ren, inst, up}
use Rattle.theory.specs.Telescopes.{weaken_by}
use Rattle.theory.proofs.Instances.{ap₃, inst-same, inst-ren, ren-inst}
use Rattle.theory.proofs.Shifts.{weaken_by-is_lift}
use Rattle.core_terms.specs.Levels.{variable}
use Rattle.tele_eq.specs.Items.{term_at}
use Rattle.tele_eq.specs.Environments.{Environment, outside, put, put_under, put_variable}
use Rattle.tele_eq.proofs.Carrying.{ups_by, inst-under}
use Rattle.unification.proofs.Cases.{below-or_from, first-of_two, second-of_two, first-of_three, second-of_three, third-of_three}

-- ---- agreement

-- z at position p, instantiated k binders further in, is z'
abbrev pub Agrees : (s : ℕ → Term) (z z' : Environment) (k p : ℕ) → Type 0
Agrees s z z' k p = inst (ups_by k s) (z k p) ≡ z' k p

-- and further in than k binders
abbrev pub AgreesFrom : (s : ℕ → Term) (z z' : Environment) (k p : ℕ) → Type 0
AgreesFrom s z z' k p = (k' : ℕ) → k ≤ k' → Agrees s z z' k' p

-- at each position below j
abbrev pub AgreesBelow : (s : ℕ → Term) (z z' : Environment) (k j : ℕ) → Type 0
AgreesBelow s z z' k j = (p : ℕ) → p < j → AgreesFrom s z z' k p

-- wherever
abbrev pub AreMoved : (s : ℕ → Term) (u u' : Environment) → Type 0
AreMoved s u u' = (k p : ℕ) → Agrees s u u' k p

pub moved-below : (s : ℕ → Term) (u u' : Environment) → AreMoved s u u' → (k j : ℕ) → AgreesBelow s u u' k j
moved-below s u u' moved k j p lt k' le = moved k' p

-- ---- variables and terms of the context

pub moved-variable : (s : ℕ → Term) (k l : ℕ) → l + 1 ≤ k → inst (ups_by k s) (variable k l) ≡ variable k l
moved-variable s k l le = first-of_two (k - (l + 1)) k (Var (k - (l + 1))) (weaken_by k (s (k - (l + 1) - k))) (omega arith)

ups_by-added : (k : ℕ) (s : ℕ → Term) (n : ℕ) → ups_by k s (n + k) ≡ weaken_by k (s n)
ups_by-added k s n =
    let e : n + k - k ≡ n = omega arith in
    second-of_two (n + k) k (Var (n + k)) (weaken_by k (s (n + k - k))) (omega arith) ∙ ap (λ i. weaken_by k (s i)) e

pub moved-weakened : (s : ℕ → Term) (k : ℕ) (t : Term) → inst (ups_by k s) (weaken_by k t) ≡ weaken_by k (inst s t)
moved-weakened s k t =
    inst-ren (ups_by k s) (λ n. n + k) t
    ∙ (inst-same t (ups_by-added k s) ∙ sym (ren-inst (λ n. n + k) s t))

pub moved-lift : (s : ℕ → Term) (k : ℕ) (t : Term) → inst (ups_by k s) (lift t k 0) ≡ lift (inst s t) k 0
moved-lift s k t =
    ap (inst (ups_by k s)) (sym (weaken_by-is_lift k t)) ∙ (moved-weakened s k t ∙ weaken_by-is_lift k (inst s t))

pub term-instance : (s : ℕ → Term) (ts : List Term) (p : ℕ) → inst s (term_at ts p) ≡ term_at (map (inst s) ts) p
term-instance s [] p = refl
term-instance s (t ∷ ts) zero = refl
term-instance s (t ∷ ts) (suc p) = term-instance s ts p

pub moved-outside : (s : ℕ → Term) (ts : List Term) → AreMoved s (outside ts) (outside (map (inst s) ts))
moved-outside s ts k p = moved-lift s k (term_at ts p) ∙ ap (λ t. lift t k 0) (term-instance s ts p)

-- ---- terms over a telescope

-- variables under the binders are the same, and those beyond a telescope are moved
record IsFar (size depth under : ℕ) (r r' : ℕ → ℕ) : Type 0 where
  each : (v : ℕ) → ((r v < under) × (r' v ≡ r v)) ⊎ ((size + under ≤ r v) × (r' v ≡ r v - size + depth))

far-up : (size depth under : ℕ) (r r' : ℕ → ℕ) → IsFar size depth under r r' → IsFar size depth (under + 1) (up r) (up r')
far-up size depth under r r' far = record { each = each }
  where
    next : (v : ℕ) → ((r v < under) × (r' v ≡ r v)) ⊎ ((size + under ≤ r v) × (r' v ≡ r v - size + depth))
        → ((suc (r v) < under + 1) × (suc (r' v) ≡ suc (r v))) ⊎ ((size + (under + 1) ≤ suc (r v)) × (suc (r' v) ≡ suc (r v) - size + depth))
    next v (inl h) = let a : r v < under = h.0 in let b : r' v ≡ r v = h.1 in inl (omega arith, omega arith)
    next v (inr h) = let a : size + under ≤ r v = h.0 in let b : r' v ≡ r v - size + depth = h.1 in inr (omega arith, omega arith)

    each : (v : ℕ) → ((up r v < under + 1) × (up r' v ≡ up r v)) ⊎ ((size + (under + 1) ≤ up r v) × (up r' v ≡ up r v - size + depth))
    each zero = inl (omega arith, refl)
    each (suc v) = next v (far.each v)

put-far : (z : Environment) (size depth under : ℕ) (r r' : ℕ → ℕ) → IsFar size depth under r r' → (t : Term)
    → put_under z size depth under (ren r t) ≡ ren r' t
put-far z size depth under r r' far (Var v) = by (far.each v)
  where
    by : ((r v < under) × (r' v ≡ r v)) ⊎ ((size + under ≤ r v) × (r' v ≡ r v - size + depth)) → put_variable z size depth under (r v) ≡ Var (r' v)
    by (inl h) = first-of_three (r v) under (size + under) _ _ _ h.0 ∙ ap Var (sym h.1)
    by (inr h) =
        let a : size + under ≤ r v = h.0 in
        third-of_three (r v) under (size + under) _ _ _ (omega arith) h.0 ∙ ap Var (sym h.1)
put-far z size depth under r r' far (Sort i) = refl
put-far z size depth under r r' far (Pi a b) =
    ap₂ Pi (put-far z size depth under r r' far a) (put-far z size depth (under + 1) (up r) (up r') (far-up size depth under r r' far) b)
put-far z size depth under r r' far (Lam a b) =
    ap₂ Lam (put-far z size depth under r r' far a) (put-far z size depth (under + 1) (up r) (up r') (far-up size depth under r r' far) b)
put-far z size depth under r r' far (App f a) = ap₂ App (put-far z size depth under r r' far f) (put-far z size depth under r r' far a)
put-far z size depth under r r' far (Let a t b) =
    ap₃ Let (put-far z size depth under r r' far a) (put-far z size depth under r r' far t)
    (put-far z size depth (under + 1) (up r) (up r') (far-up size depth under r r' far) b)
put-far z size depth under r r' far (Const c) = refl
put-far z size depth under r r' far (Fam n) = refl
put-far z size depth under r r' far (Con n c) = refl
put-far z size depth under r r' far (Elim n m) = refl
put-far z size depth under r r' far (AxiomK i m) = refl

moved-put_variable : (s : ℕ → Term) (z z' : Environment) (size k : ℕ) → AgreesBelow s z z' k size → (under v : ℕ)
    → inst (ups_by (k + under) s) (put_variable z size k under v) ≡ put_under z' size k under (ups_by (size + under) s v)
moved-put_variable s z z' size k agrees under v = by (below-or_from v under) (below-or_from v (size + under))
  where
    position : ℕ
    position = size + under - (v + 1)

    by : (v < under) ⊎ (under ≤ v) → (v < size + under) ⊎ (size + under ≤ v)
        → inst (ups_by (k + under) s) (put_variable z size k under v) ≡ put_under z' size k under (ups_by (size + under) s v)
    by (inl lt) _ =
        ap (inst (ups_by (k + under) s)) (first-of_three v under (size + under) _ _ _ lt)
        ∙ (first-of_two v (k + under) _ _ (omega arith)
        ∙ (sym (first-of_three v under (size + under) _ _ _ lt)
        ∙ ap (put_under z' size k under) (sym (first-of_two v (size + under) (Var v) _ (omega arith)))))
    by (inr le) (inl lt) =
        ap (inst (ups_by (k + under) s)) (second-of_three v under (size + under) _ _ _ le lt)
        ∙ (agrees position (omega arith) (k + under) (omega arith)
        ∙ (sym (second-of_three v under (size + under) _ _ _ le lt)
        ∙ ap (put_under z' size k under) (sym (first-of_two v (size + under) (Var v) _ lt))))
    by (inr le) (inr le') =
        let e : v - size + k - (k + under) ≡ v - (size + under) = omega arith in
        let far : IsFar size k under (λ n. n + (size + under)) (λ n. n + (k + under)) =
        record { each = λ n. inr (omega arith, omega arith) } in
        ap (inst (ups_by (k + under) s)) (third-of_three v under (size + under) _ _ _ le le')
        ∙ (second-of_two (v - size + k) (k + under) _ _ (omega arith)
        ∙ (ap (λ i. weaken_by (k + under) (s i)) e
        ∙ (sym (put-far z' size k under (λ n. n + (size + under)) (λ n. n + (k + under)) far (s (v - (size + under))))
        ∙ ap (put_under z' size k under) (sym (second-of_two v (size + under) _ _ le')))))

moved-put_under : (s : ℕ → Term) (z z' : Environment) (size k : ℕ) → AgreesBelow s z z' k size → (t : Term) (under : ℕ)
    → inst (ups_by (k + under) s) (put_under z size k under t) ≡ put_under z' size k under (inst (ups_by (size + under) s) t)
moved-put_under s z z' size k agrees t under = each t under
  where
    next : (n under : ℕ) → n + (under + 1) ≡ n + under + 1
    next n under = omega arith

    each : (t : Term) (under : ℕ) → inst (ups_by (k + under) s) (put_under z size k under t) ≡ put_under z' size k under (inst (ups_by (size + under) s) t)
    each (Var v) under = moved-put_variable s z z' size k agrees under v
    each (Sort i) under = refl
    each (Pi a b) under =
        ap₂ Pi (each a under)
        (inst-under (k + under) (k + (under + 1)) s _ (next k under)
        ∙ (each b (under + 1) ∙ ap (put_under z' size k (under + 1)) (sym (inst-under (size + under) (size + (under + 1)) s b (next size under)))))
    each (Lam a b) under =
        ap₂ Lam (each a under)
        (inst-under (k + under) (k + (under + 1)) s _ (next k under)
        ∙ (each b (under + 1) ∙ ap (put_under z' size k (under + 1)) (sym (inst-under (size + under) (size + (under + 1)) s b (next size under)))))
    each (App f a) under = ap₂ App (each f under) (each a under)
    each (Let a t b) under =
        ap₃ Let (each a under) (each t under)
        (inst-under (k + under) (k + (under + 1)) s _ (next k under)
        ∙ (each b (under + 1) ∙ ap (put_under z' size k (under + 1)) (sym (inst-under (size + under) (size + (under + 1)) s b (next size under)))))
    each (Const c) under = refl
    each (Fam n) under = refl
    each (Con n c) under = refl
    each (Elim n m) under = refl
    each (AxiomK i m) under = refl

pub moved-put : (s : ℕ → Term) (z z' : Environment) (size k : ℕ) → AgreesBelow s z z' k size → (t : Term)
    → inst (ups_by k s) (put z size k t) ≡ put z' size k (inst (ups_by size s) t)
moved-put s z z' size k agrees t =
    let e : k ≡ k + 0 = omega arith in
    let f : size + 0 ≡ size = omega arith in
    ap (λ i. inst (ups_by i s) (put z size k t)) e
    ∙ (moved-put_under s z z' size k agrees t 0 ∙ ap (λ i. put z' size k (inst (ups_by i s) t)) f)
