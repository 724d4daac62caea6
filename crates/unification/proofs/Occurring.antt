-- Only the terms for the variables that occur in a term decide where it is scoped: renamed, and with terms put for variables.
use Rattle.std.proofs.Common.{◌≡◌, ℕ, zero, suc, ◌+◌, ◌-◌, ◌<◌, ◌≤◌, ◌⊎◌, inl, inr, ◌||◌, Bool, true, refl, sym, subst, arith, eq-eqb}
use Rattle.std.proofs.lemmas.Bool.{or_left, or_right}
use Rattle.theory.specs.Terms.{Term, free_of}
use Rattle.theory.specs.Terms.Term.{Var, Sort, Pi, Lam, App, Let, Const, Fam, Con, Elim, AxiomK}
use Rattle.theory.specs.Substitutions.{up, ren}
use Rattle.theory.specs.Signatures.{Signature}
use Rattle.theory.specs.SignatureScopes.{HasEntries, IsScoped}
use Rattle.theory.proofs.ScopedTerms.{scoped-pi, scoped-lam, scoped-app, scoped-let, pi-scoped, lam-scoped, app-scoped, let-scoped, var-scoped, scoped_over_more}
use Rattle.tele_eq.specs.Dependences.{has_variable}
use Rattle.tele_eq.specs.Environments.{Environment, put, put_under, put_variable}
use Rattle.unification.proofs.Cases.{below-or_from, first-of_three, second-of_three}
use Rattle.unification.proofs.Variables.{variable-below}

leaf : (S : Signature) (t : Term) (m : ℕ) → HasEntries S t → free_of t ≡ 0 → IsScoped S m t
leaf S t m e f = record { variables = omega arith; entries = e }

-- ---- renaming

-- the renaming has a variable below m for each one that occurs
abbrev pub RenamesBelow : (r : ℕ → ℕ) (n m : ℕ) → Term → Type 0
RenamesBelow r n m t = (v : ℕ) → v < n → has_variable v t ≡ true → r v < m

renames-under : (r : ℕ → ℕ) (n m : ℕ) (b : Term) → ((v : ℕ) → v < n → has_variable (v + 1) b ≡ true → r v < m) → RenamesBelow (up r) (n + 1) (m + 1) b
renames-under r n m b h zero lt o = omega arith
renames-under r n m b h (suc v) lt o =
    let k : r v < m = h v (omega arith) (subst (λ x. has_variable x b ≡ true) (let e : suc v ≡ v + 1 = omega arith in e) o) in
    omega arith

pub ren-where : (S : Signature) (r : ℕ → ℕ) (n m : ℕ) (t : Term) → RenamesBelow r n m t → IsScoped S n t → IsScoped S m (ren r t)
ren-where S r n m (Var v) h k =
    let lt : v < n = variable-below k in var-scoped (h v lt (eq-eqb v v refl))
ren-where S r n m (Pi a b) h k =
    pi-scoped (ren-where S r n m a (λ v lt o. h v lt (or_left (has_variable v a) (has_variable (v + 1) b) o)) (scoped-pi k).0)
    (ren-where S (up r) (n + 1) (m + 1) b (renames-under r n m b (λ v lt o. h v lt (or_right (has_variable v a) (has_variable (v + 1) b) o))) (scoped-pi k).1)
ren-where S r n m (Lam a b) h k =
    lam-scoped (ren-where S r n m a (λ v lt o. h v lt (or_left (has_variable v a) (has_variable (v + 1) b) o)) (scoped-lam k).0)
    (ren-where S (up r) (n + 1) (m + 1) b (renames-under r n m b (λ v lt o. h v lt (or_right (has_variable v a) (has_variable (v + 1) b) o))) (scoped-lam k).1)
ren-where S r n m (App f a) h k =
    app-scoped (ren-where S r n m f (λ v lt o. h v lt (or_left (has_variable v f) (has_variable v a) o)) (scoped-app k).0)
    (ren-where S r n m a (λ v lt o. h v lt (or_right (has_variable v f) (has_variable v a) o)) (scoped-app k).1)
ren-where S r n m (Let a t b) h k =
    let-scoped
    (ren-where S r n m a (λ v lt o. h v lt (or_left (has_variable v a || has_variable v t) (has_variable (v + 1) b) (or_left (has_variable v a) (has_variable v t) o))) (scoped-let k).0)
    (ren-where S r n m t (λ v lt o. h v lt (or_left (has_variable v a || has_variable v t) (has_variable (v + 1) b) (or_right (has_variable v a) (has_variable v t) o))) (scoped-let k).1)
    (ren-where S (up r) (n + 1) (m + 1) b
    (renames-under r n m b (λ v lt o. h v lt (or_right (has_variable v a || has_variable v t) (has_variable (v + 1) b) o))) (scoped-let k).2)
ren-where S r n m (Sort i) h k = leaf S (Sort i) m k.entries refl
ren-where S r n m (Const i) h k = leaf S (Const i) m k.entries refl
ren-where S r n m (Fam i) h k = leaf S (Fam i) m k.entries refl
ren-where S r n m (Con i c) h k = leaf S (Con i c) m k.entries refl
ren-where S r n m (Elim i l) h k = leaf S (Elim i l) m k.entries refl
ren-where S r n m (AxiomK i l) h k = leaf S (AxiomK i l) m k.entries refl

-- ---- terms put for the variables of a telescope

-- at depth d and deeper there is a scoped term for each level whose variable occurs under so many binders
abbrev IsPutUnder : Signature → (z : Environment) (size d under : ℕ) → Term → Type 0
IsPutUnder S z size d under t =
    (p : ℕ) → p < size → has_variable (size - (p + 1) + under) t ≡ true → (d' : ℕ) → d ≤ d' → IsScoped S d' (z d' p)

put-variable_where : (S : Signature) (z : Environment) (size d under v : ℕ) → IsPutUnder S z size d under (Var v) → v < size + under
    → IsScoped S (d + under) (put_variable z size d under v)
put-variable_where S z size d under v low lt = by (below-or_from v under)
  where
    by : (v < under) ⊎ (under ≤ v) → IsScoped S (d + under) (put_variable z size d under v)
    by (inl h) =
        subst (IsScoped S (d + under)) (sym (first-of_three v under (size + under) _ _ _ h)) (var-scoped (omega arith))
    by (inr le) =
        let p = size + under - (v + 1) in
        let same : v ≡ size - (p + 1) + under = omega arith in
        subst (IsScoped S (d + under)) (sym (second-of_three v under (size + under) _ _ _ le lt))
        (low p (omega arith) (eq-eqb v (size - (p + 1) + under) same) (d + under) (omega arith))

put-under_where : (S : Signature) (z : Environment) (size d : ℕ) (t : Term) (under : ℕ) → IsPutUnder S z size d under t → IsScoped S (size + under) t
    → IsScoped S (d + under) (put_under z size d under t)
put-under_where S z size d t under h k = each t under h k
  where
    next : (under : ℕ) (t : Term) → IsScoped S (size + under + 1) t → IsScoped S (size + (under + 1)) t
    next under t k = scoped_over_more S (size + under + 1) (size + (under + 1)) t (omega arith) k

    back : (under : ℕ) (t : Term) → IsScoped S (d + (under + 1)) t → IsScoped S (d + under + 1) t
    back under t k = scoped_over_more S (d + (under + 1)) (d + under + 1) t (omega arith) k

    first : (under : ℕ) (a : Term) (other : ℕ → Bool)
        → ((p : ℕ) → p < size → (has_variable (size - (p + 1) + under) a || other p) ≡ true → (d' : ℕ) → d ≤ d' → IsScoped S d' (z d' p))
        → IsPutUnder S z size d under a
    first under a other h p lt o = h p lt (or_left (has_variable (size - (p + 1) + under) a) (other p) o)

    second : (under : ℕ) (a : Term) (other : ℕ → Bool)
        → ((p : ℕ) → p < size → (other p || has_variable (size - (p + 1) + under) a) ≡ true → (d' : ℕ) → d ≤ d' → IsScoped S d' (z d' p))
        → IsPutUnder S z size d under a
    second under a other h p lt o = h p lt (or_right (other p) (has_variable (size - (p + 1) + under) a) o)

    body : (under : ℕ) (b : Term) (other : ℕ → Bool)
        → ((p : ℕ) → p < size → (other p || has_variable (size - (p + 1) + under + 1) b) ≡ true → (d' : ℕ) → d ≤ d' → IsScoped S d' (z d' p))
        → IsPutUnder S z size d (under + 1) b
    body under b other h p lt o =
        h p lt
        (or_right (other p) (has_variable (size - (p + 1) + under + 1) b)
        (subst (λ x. has_variable x b ≡ true) (let e : size - (p + 1) + (under + 1) ≡ size - (p + 1) + under + 1 = omega arith in e) o))

    each : (t : Term) (under : ℕ) → IsPutUnder S z size d under t → IsScoped S (size + under) t → IsScoped S (d + under) (put_under z size d under t)
    each (Var v) under h k = put-variable_where S z size d under v h (variable-below k)
    each (Pi a b) under h k =
        let others : ℕ → Bool = λ p. has_variable (size - (p + 1) + under + 1) b in
        let own : ℕ → Bool = λ p. has_variable (size - (p + 1) + under) a in
        pi-scoped (each a under (first under a others h) (scoped-pi k).0)
        (back under (put_under z size d (under + 1) b) (each b (under + 1) (body under b own h) (next under b (scoped-pi k).1)))
    each (Lam a b) under h k =
        let others : ℕ → Bool = λ p. has_variable (size - (p + 1) + under + 1) b in
        let own : ℕ → Bool = λ p. has_variable (size - (p + 1) + under) a in
        lam-scoped (each a under (first under a others h) (scoped-lam k).0)
        (back under (put_under z size d (under + 1) b) (each b (under + 1) (body under b own h) (next under b (scoped-lam k).1)))
    each (App f a) under h k =
        app-scoped (each f under (first under f (λ p. has_variable (size - (p + 1) + under) a) h) (scoped-app k).0)
        (each a under (second under a (λ p. has_variable (size - (p + 1) + under) f) h) (scoped-app k).1)
    each (Let a t b) under h k =
        let others : ℕ → Bool = λ p. has_variable (size - (p + 1) + under + 1) b in
        let both : ℕ → Bool = λ p. has_variable (size - (p + 1) + under) a || has_variable (size - (p + 1) + under) t in
        let outer : (p : ℕ) → p < size → both p ≡ true → (d' : ℕ) → d ≤ d' → IsScoped S d' (z d' p) = λ p lt o. h p lt (or_left (both p) (others p) o) in
        let-scoped (each a under (first under a (λ p. has_variable (size - (p + 1) + under) t) outer) (scoped-let k).0)
        (each t under (second under t (λ p. has_variable (size - (p + 1) + under) a) outer) (scoped-let k).1)
        (back under (put_under z size d (under + 1) b) (each b (under + 1) (body under b both h) (next under b (scoped-let k).2)))
    each (Sort i) under h k = leaf S (Sort i) (d + under) k.entries refl
    each (Const i) under h k = leaf S (Const i) (d + under) k.entries refl
    each (Fam i) under h k = leaf S (Fam i) (d + under) k.entries refl
    each (Con i c) under h k = leaf S (Con i c) (d + under) k.entries refl
    each (Elim i m) under h k = leaf S (Elim i m) (d + under) k.entries refl
    each (AxiomK i m) under h k = leaf S (AxiomK i m) (d + under) k.entries refl

-- a term over `size` variables, where there is a scoped term at depth d and deeper for each level whose variable occurs
pub put-where : (S : Signature) (z : Environment) (size d : ℕ) (t : Term)
    → ((p : ℕ) → p < size → has_variable (size - (p + 1)) t ≡ true → (d' : ℕ) → d ≤ d' → IsScoped S d' (z d' p))
    → IsScoped S size t → IsScoped S d (put z size d t)
put-where S z size d t h k =
    scoped_over_more S (d + 0) d (put z size d t) (omega arith)
    (put-under_where S z size d t 0
    (λ p lt o. h p lt (subst (λ x. has_variable x t ≡ true) (let e : size - (p + 1) + 0 ≡ size - (p + 1) = omega arith in e) o))
    (scoped_over_more S size (size + 0) t (omega arith) k))

-- a term over `size` variables, where there is such a scoped term for each level
pub put-all : (S : Signature) (z : Environment) (size d : ℕ) (t : Term) → ((p : ℕ) → p < size → (d' : ℕ) → d ≤ d' → IsScoped S d' (z d' p))
    → IsScoped S size t → IsScoped S d (put z size d t)
put-all S z size d t h k = put-where S z size d t (λ p lt o. h p lt) k
