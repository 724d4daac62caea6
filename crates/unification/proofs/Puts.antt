-- `put` of a telescope's terms is an instantiation, where the environment only lifts its terms with the depth. A variable that is not in
-- a term counts for nothing.
use Rattle.std.proofs.Common.{◌≡◌, ℕ, ◌+◌, ◌-◌, ◌<◌, ◌≤◌, ◌⊎◌, inl, inr, nat_lt, ◌||◌, false, cond, refl, ap, ap₂, sym, ◌∙◌, arith}
use Rattle.std.proofs.lemmas.Bool.{eqb-false, or_parts}
use Rattle.theory.specs.Terms.{Term}
use Rattle.theory.specs.Terms.Term.{Var, Pi, Lam, App, Let}
use Rattle.theory.specs.Substitutions.{inst}
use Rattle.theory.specs.Telescopes.{weaken_by}
use Rattle.theory.proofs.Instances.{ap₃}
use Rattle.tele_eq.specs.Dependences.{has_variable}
use Rattle.tele_eq.specs.Environments.{Environment, put, put_under, put_variable}
use Rattle.tele_eq.proofs.Carrying.{ups_by, inst-under, inst-none}
use Rattle.unification.proofs.Cases.{below-or_from, first-of_two, second-of_two, first-of_three, second-of_three, third-of_three}

-- after the depth d the environment lifts its terms at the positions below `size`
abbrev pub Lifts : Environment → (size d : ℕ) → Type 0
Lifts s size d = (by j : ℕ) → j < size → s (d + by) j ≡ weaken_by by (s d j)

-- the term for variable n of a term over `size` variables, at a depth
abbrev pub stands : Environment → (size d n : ℕ) → Term
stands s size d n = cond (nat_lt n size) (s d (size - (n + 1))) (Var (n - size + d))

-- ---- an environment that lifts is an instantiation

put-variable_stands : (s : Environment) (size d : ℕ) → Lifts s size d → (under n : ℕ)
    → put_variable s size d under n ≡ ups_by under (stands s size d) n
put-variable_stands s size d lifts under n = by (below-or_from n under) (below-or_from n (size + under))
  where
    by : (n < under) ⊎ (under ≤ n) → (n < size + under) ⊎ (size + under ≤ n)
        → put_variable s size d under n ≡ ups_by under (stands s size d) n
    by (inl lt) _ = first-of_three n under (size + under) _ _ _ lt ∙ sym (first-of_two n under _ _ lt)
    by (inr le) (inl lt) =
        let position : size + under - (n + 1) ≡ size - (n - under + 1) = omega arith in
        second-of_three n under (size + under) _ _ _ le lt
        ∙ (ap (s (d + under)) position
        ∙ (lifts under (size - (n - under + 1)) (omega arith)
        ∙ (ap (weaken_by under) (sym (first-of_two (n - under) size _ _ (omega arith))) ∙ sym (second-of_two n under _ _ le))))
    by (inr le) (inr le') =
        let e : n - size + d ≡ n - under - size + d + under = omega arith in
        third-of_three n under (size + under) _ _ _ le le'
        ∙ (ap Var e
        ∙ (ap (weaken_by under) (sym (second-of_two (n - under) size _ _ (omega arith))) ∙ sym (second-of_two n under _ _ le)))

put-under_stands : (s : Environment) (size d : ℕ) → Lifts s size d → (t : Term) (under : ℕ)
    → put_under s size d under t ≡ inst (ups_by under (stands s size d)) t
put-under_stands s size d lifts (Var n) under = put-variable_stands s size d lifts under n
put-under_stands s size d lifts (Pi a b) under =
    ap₂ Pi (put-under_stands s size d lifts a under)
    (put-under_stands s size d lifts b (under + 1) ∙ sym (inst-under under (under + 1) (stands s size d) b refl))
put-under_stands s size d lifts (Lam a b) under =
    ap₂ Lam (put-under_stands s size d lifts a under)
    (put-under_stands s size d lifts b (under + 1) ∙ sym (inst-under under (under + 1) (stands s size d) b refl))
put-under_stands s size d lifts (App f a) under =
    ap₂ App (put-under_stands s size d lifts f under) (put-under_stands s size d lifts a under)
put-under_stands s size d lifts (Let a t b) under =
    ap₃ Let (put-under_stands s size d lifts a under) (put-under_stands s size d lifts t under)
    (put-under_stands s size d lifts b (under + 1) ∙ sym (inst-under under (under + 1) (stands s size d) b refl))
put-under_stands s size d lifts _ under = refl

-- a term with terms put for its variables is an instance of it
pub put-is_inst : (s : Environment) (size d : ℕ) → Lifts s size d → (t : Term) → put s size d t ≡ inst (stands s size d) t
put-is_inst s size d lifts t = put-under_stands s size d lifts t 0 ∙ inst-none (stands s size d) t

-- ---- a variable that is not in a term

-- two environments that agree at all positions but p put the same for a term without the variable at p
put-variable_without : (s s' : Environment) (size d p : ℕ) → p < size
    → ((depth j : ℕ) → (j ≡ p → ⊥) → s depth j ≡ s' depth j) → (under n : ℕ) → (n ≡ size - (p + 1) + under → ⊥)
    → put_variable s size d under n ≡ put_variable s' size d under n
put-variable_without s s' size d p lt agree under n other = by (below-or_from n under) (below-or_from n (size + under))
  where
    by : (n < under) ⊎ (under ≤ n) → (n < size + under) ⊎ (size + under ≤ n)
        → put_variable s size d under n ≡ put_variable s' size d under n
    by (inl less) _ = first-of_three n under (size + under) _ _ _ less ∙ sym (first-of_three n under (size + under) _ _ _ less)
    by (inr le) (inl less) =
        second-of_three n under (size + under) _ _ _ le less
        ∙ (agree (d + under) (size + under - (n + 1)) (λ e. other (omega arith)) ∙ sym (second-of_three n under (size + under) _ _ _ le less))
    by (inr le) (inr le') = third-of_three n under (size + under) _ _ _ le le' ∙ sym (third-of_three n under (size + under) _ _ _ le le')

put-under_without : (s s' : Environment) (size d p : ℕ) → p < size
    → ((depth j : ℕ) → (j ≡ p → ⊥) → s depth j ≡ s' depth j) → (t : Term) (under v : ℕ) → v ≡ size - (p + 1) + under
    → has_variable v t ≡ false → put_under s size d under t ≡ put_under s' size d under t
put-under_without s s' size d p lt agree (Var n) under v at h =
    put-variable_without s s' size d p lt agree under n (λ e. eqb-false n v h (e ∙ sym at))
put-under_without s s' size d p lt agree (Pi a b) under v at h =
    ap₂ Pi (put-under_without s s' size d p lt agree a under v at (or_parts (has_variable v a) _ h).0)
    (put-under_without s s' size d p lt agree b (under + 1) (v + 1) (omega arith) (or_parts (has_variable v a) _ h).1)
put-under_without s s' size d p lt agree (Lam a b) under v at h =
    ap₂ Lam (put-under_without s s' size d p lt agree a under v at (or_parts (has_variable v a) _ h).0)
    (put-under_without s s' size d p lt agree b (under + 1) (v + 1) (omega arith) (or_parts (has_variable v a) _ h).1)
put-under_without s s' size d p lt agree (App f a) under v at h =
    ap₂ App (put-under_without s s' size d p lt agree f under v at (or_parts (has_variable v f) _ h).0)
    (put-under_without s s' size d p lt agree a under v at (or_parts (has_variable v f) _ h).1)
put-under_without s s' size d p lt agree (Let a t b) under v at h =
    ap₃ Let (put-under_without s s' size d p lt agree a under v at (or_parts (has_variable v a) _ first).0)
    (put-under_without s s' size d p lt agree t under v at (or_parts (has_variable v a) _ first).1)
    (put-under_without s s' size d p lt agree b (under + 1) (v + 1) (omega arith) (or_parts (has_variable v a || has_variable v t) _ h).1)
  where
    first : (has_variable v a || has_variable v t) ≡ false
    first = (or_parts (has_variable v a || has_variable v t) (has_variable (v + 1) b) h).0
put-under_without s s' size d p lt agree _ under v at h = refl

pub put-without : (s s' : Environment) (size d p : ℕ) → p < size
    → ((depth j : ℕ) → (j ≡ p → ⊥) → s depth j ≡ s' depth j) → (t : Term) → has_variable (size - (p + 1)) t ≡ false
    → put s size d t ≡ put s' size d t
put-without s s' size d p lt agree t h = put-under_without s s' size d p lt agree t 0 (size - (p + 1)) (omega arith) h
