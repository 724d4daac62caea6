-- Terms that are read over a whole context and then moved after a solution there, against terms that are moved after the solution first.
use Rattle.std.proofs.Common.{◌≡◌, ℕ, ◌+◌, ◌-◌, ◌<◌, ◌≤◌, ◌||◌, ◌⊎◌, inl, inr, true, List, ◌++◌, length, get_or, refl, sym, ap, ap₂, ◌∙◌, subst, arith, eq-eqb}
use Rattle.std.proofs.lemmas.Bool.{or_left, or_right}
use Rattle.std.proofs.lemmas.List.{length-append}
use Rattle.theory.specs.Terms.{Term, Var, Sort, Pi, Lam, App, Let, Const, Fam, Con, Elim, AxiomK}
use Rattle.theory.proofs.Instances.{ap₃}
use Rattle.tele_eq.specs.Dependences.{has_variable}
use Rattle.tele_eq.specs.Environments.{Environment, put, put_under, put_variable}
use Rattle.unification.proofs.Cases.{below-or_from, first-of_three, second-of_three, third-of_three}
use Rattle.tree_translation.specs.Standings.{at_levels, placed, levels_from}
use Rattle.tree_translation.proofs.LevelLists.{length-levels, get-levels}
use Rattle.tree_translation.proofs.SeenTerms.{AreBelow, get-first, get-later}

-- The levels W of j variables at a depth l, and those W' of k variables at a depth q; what is put for the l variables at q, and for the j
-- variables at k. Where a variable occurs, both ways are one.
pub record IsSquare (W W' : List ℕ) (l q : ℕ) (e e' : Environment) (t : Term) : Type 0 where
  pub below : AreBelow W l
  pub each : (i : ℕ) → i < length W → has_variable (length W - (i + 1)) t ≡ true → (under : ℕ)
      → e (q + under) (get_or W i 0) ≡ put_under (at_levels W') (length W') q under (e' (length W' + under) i)

square-variable : (W W' : List ℕ) (l q : ℕ) (e e' : Environment) (under v : ℕ) → AreBelow W l
    → ((i : ℕ) → i < length W → v ≡ length W - (i + 1) + under
    → e (q + under) (get_or W i 0) ≡ put_under (at_levels W') (length W') q under (e' (length W' + under) i))
    → put_under e l q under (put_variable (at_levels W) (length W) l under v)
    ≡ put_under (at_levels W') (length W') q under (put_variable e' (length W) (length W') under v)
square-variable W W' l q e e' under v below each = by (below-or_from v under) (below-or_from v (length W + under))
  where
    i : ℕ
    i = length W + under - (v + 1)

    by : (v < under) ⊎ (under ≤ v) → (v < length W + under) ⊎ (length W + under ≤ v)
        → put_under e l q under (put_variable (at_levels W) (length W) l under v)
        ≡ put_under (at_levels W') (length W') q under (put_variable e' (length W) (length W') under v)
    by (inl lt) _ =
        ap (put_under e l q under) (first-of_three v under (length W + under) _ _ _ lt)
        ∙ (first-of_three v under (l + under) _ _ _ lt
        ∙ (sym (first-of_three v under (length W' + under) _ _ _ lt)
        ∙ ap (put_under (at_levels W') (length W') q under) (sym (first-of_three v under (length W + under) (Var v) (e' (length W' + under) i) _ lt))))
    by (inr le) (inl lt) =
        let low : get_or W i 0 < l = below i (omega arith) in
        let w = l + under - (get_or W i 0 + 1) in
        let back : l + under - (w + 1) ≡ get_or W i 0 = omega arith in
        ap (put_under e l q under) (second-of_three v under (length W + under) _ _ _ le lt)
        ∙ (second-of_three w under (l + under) _ _ _ (omega arith) (omega arith)
        ∙ (ap (e (q + under)) back
        ∙ (each i (omega arith) (omega arith)
        ∙ ap (put_under (at_levels W') (length W') q under) (sym (second-of_three v under (length W + under) _ _ _ le lt)))))
    by (inr le) (inr le') =
        let w = v - length W + l in
        let w' = v - length W + length W' in
        let same : w - l + q ≡ w' - length W' + q = omega arith in
        ap (put_under e l q under) (third-of_three v under (length W + under) _ _ _ le le')
        ∙ (third-of_three w under (l + under) _ _ _ (omega arith) (omega arith)
        ∙ (ap Var same
        ∙ (sym (third-of_three w' under (length W' + under) _ _ _ (omega arith) (omega arith))
        ∙ ap (put_under (at_levels W') (length W') q under) (sym (third-of_three v under (length W + under) _ _ _ le le')))))

deeper : (b : Term) (under n : ℕ) → has_variable (n + (under + 1)) b ≡ true → has_variable (n + under + 1) b ≡ true
deeper b under n h = let e : n + (under + 1) ≡ n + under + 1 = omega arith in subst (λ v. has_variable v b ≡ true) e h

square-under : (W W' : List ℕ) (l q : ℕ) (e e' : Environment) → AreBelow W l → (t : Term) (under : ℕ)
    → ((i : ℕ) → i < length W → has_variable (length W - (i + 1) + under) t ≡ true → (deep : ℕ)
    → e (q + deep) (get_or W i 0) ≡ put_under (at_levels W') (length W') q deep (e' (length W' + deep) i))
    → put_under e l q under (put_under (at_levels W) (length W) l under t) ≡ put_under (at_levels W') (length W') q under (put_under e' (length W) (length W') under t)
square-under W W' l q e e' below (Var v) under each =
    square-variable W W' l q e e' under v below (λ i lt is. each i lt (eq-eqb v (length W - (i + 1) + under) is) under)
square-under W W' l q e e' below (Pi a b) under each =
    ap₂ Pi (square-under W W' l q e e' below a under (λ i lt h. each i lt (or_left (has_variable (length W - (i + 1) + under) a) _ h)))
    (square-under W W' l q e e' below b (under + 1)
    (λ i lt h. each i lt (or_right (has_variable (length W - (i + 1) + under) a) _ (deeper b under (length W - (i + 1)) h))))
square-under W W' l q e e' below (Lam a b) under each =
    ap₂ Lam (square-under W W' l q e e' below a under (λ i lt h. each i lt (or_left (has_variable (length W - (i + 1) + under) a) _ h)))
    (square-under W W' l q e e' below b (under + 1)
    (λ i lt h. each i lt (or_right (has_variable (length W - (i + 1) + under) a) _ (deeper b under (length W - (i + 1)) h))))
square-under W W' l q e e' below (App f a) under each =
    ap₂ App (square-under W W' l q e e' below f under (λ i lt h. each i lt (or_left (has_variable (length W - (i + 1) + under) f) _ h)))
    (square-under W W' l q e e' below a under (λ i lt h. each i lt (or_right (has_variable (length W - (i + 1) + under) f) _ h)))
square-under W W' l q e e' below (Let a t b) under each =
    ap₃ Let
    (square-under W W' l q e e' below a under (λ i lt h.
    each i lt (or_left (has_variable (length W - (i + 1) + under) a || has_variable (length W - (i + 1) + under) t) _ (or_left (has_variable (length W - (i + 1) + under) a) _ h))))
    (square-under W W' l q e e' below t under (λ i lt h.
    each i lt (or_left (has_variable (length W - (i + 1) + under) a || has_variable (length W - (i + 1) + under) t) _ (or_right (has_variable (length W - (i + 1) + under) a) _ h))))
    (square-under W W' l q e e' below b (under + 1) (λ i lt h.
    each i lt (or_right (has_variable (length W - (i + 1) + under) a || has_variable (length W - (i + 1) + under) t) _ (deeper b under (length W - (i + 1)) h))))
square-under W W' l q e e' below (Sort i) under each = refl
square-under W W' l q e e' below (Const c) under each = refl
square-under W W' l q e e' below (Fam n) under each = refl
square-under W W' l q e e' below (Con n c) under each = refl
square-under W W' l q e e' below (Elim n m) under each = refl
square-under W W' l q e e' below (AxiomK i m) under each = refl

pub square : (W W' : List ℕ) (l q : ℕ) (e e' : Environment) (t : Term) → IsSquare W W' l q e e' t
    → put e l q (placed W l t) ≡ placed W' q (put e' (length W) (length W') t)
square W W' l q e e' t is =
    square-under W W' l q e e' is.below t 0
    (λ i lt h. let z : length W - (i + 1) + 0 ≡ length W - (i + 1) = omega arith in is.each i lt (subst (λ v. has_variable v t ≡ true) z h))

-- ---- under binders

-- variables under binders, as further levels
binders-variable : (W : List ℕ) (q under b v : ℕ) → AreBelow W q
    → put_variable (at_levels W) (length W) q (under + b) v ≡ put_variable (at_levels (W ++ levels_from q under)) (length (W ++ levels_from q under)) (q + under) b v
binders-variable W q under b v below = by (below-or_from v b) (below-or_from v (under + b)) (below-or_from v (length W + (under + b)))
  where
    by : (v < b) ⊎ (b ≤ v) → (v < under + b) ⊎ (under + b ≤ v) → (v < length W + (under + b)) ⊎ (length W + (under + b) ≤ v)
        → put_variable (at_levels W) (length W) q (under + b) v ≡ put_variable (at_levels (W ++ levels_from q under)) (length (W ++ levels_from q under)) (q + under) b v
    by (inl lt) x y =
        first-of_three v (under + b) (length W + (under + b)) _ _ _ (omega arith)
        ∙ sym (first-of_three v b (length (W ++ levels_from q under) + b) _ _ _ lt)
    by (inr le) (inl lt) y =
        let long : length (W ++ levels_from q under) ≡ length W + under = length-append W (levels_from q under) ∙ ap (λ k. length W + k) (length-levels q under) in
        let j = length (W ++ levels_from q under) + b - (v + 1) in
        let at : get_or (W ++ levels_from q under) j 0 ≡ q + (j - length W) = get-later W (levels_from q under) j (omega arith) ∙ get-levels q under (j - length W) (omega arith) in
        first-of_three v (under + b) (length W + (under + b)) _ _ _ lt
        ∙ (ap Var (omega arith) ∙ sym (second-of_three v b (length (W ++ levels_from q under) + b) _ _ _ le (omega arith)))
    by (inr le) (inr le') (inl lt) =
        let long : length (W ++ levels_from q under) ≡ length W + under = length-append W (levels_from q under) ∙ ap (λ k. length W + k) (length-levels q under) in
        let j = length (W ++ levels_from q under) + b - (v + 1) in
        let i = length W + (under + b) - (v + 1) in
        let ij : j ≡ i = omega arith in
        let at : get_or (W ++ levels_from q under) j 0 ≡ get_or W i 0 = ap (λ k. get_or (W ++ levels_from q under) k 0) ij ∙ get-first W (levels_from q under) i (omega arith) in
        second-of_three v (under + b) (length W + (under + b)) _ _ _ le' lt
        ∙ (ap Var (omega arith) ∙ sym (second-of_three v b (length (W ++ levels_from q under) + b) _ _ _ le (omega arith)))
    by (inr le) (inr le') (inr beyond) =
        let long : length (W ++ levels_from q under) ≡ length W + under = length-append W (levels_from q under) ∙ ap (λ k. length W + k) (length-levels q under) in
        third-of_three v (under + b) (length W + (under + b)) _ _ _ le' beyond
        ∙ (ap Var (omega arith) ∙ sym (third-of_three v b (length (W ++ levels_from q under) + b) _ _ _ le (omega arith)))

binders-under : (W : List ℕ) (q under : ℕ) → AreBelow W q → (t : Term) (b : ℕ)
    → put_under (at_levels W) (length W) q (under + b) t ≡ put_under (at_levels (W ++ levels_from q under)) (length (W ++ levels_from q under)) (q + under) b t
binders-under W q under below t b = each t b
  where
    next : (b : ℕ) → under + b + 1 ≡ under + (b + 1)
    next b = omega arith

    each : (t : Term) (b : ℕ) → put_under (at_levels W) (length W) q (under + b) t ≡ put_under (at_levels (W ++ levels_from q under)) (length (W ++ levels_from q under)) (q + under) b t
    each (Var v) b = binders-variable W q under b v below
    each (Pi x y) b = ap₂ Pi (each x b) (ap (λ k. put_under (at_levels W) (length W) q k y) (next b) ∙ each y (b + 1))
    each (Lam x y) b = ap₂ Lam (each x b) (ap (λ k. put_under (at_levels W) (length W) q k y) (next b) ∙ each y (b + 1))
    each (App f x) b = ap₂ App (each f b) (each x b)
    each (Let x z y) b = ap₃ Let (each x b) (each z b) (ap (λ k. put_under (at_levels W) (length W) q k y) (next b) ∙ each y (b + 1))
    each (Sort i) b = refl
    each (Const c) b = refl
    each (Fam n) b = refl
    each (Con n c) b = refl
    each (Elim n m) b = refl
    each (AxiomK i m) b = refl

pub binders : (W : List ℕ) (q under : ℕ) (t : Term) → AreBelow W q
    → put_under (at_levels W) (length W) q under t ≡ placed (W ++ levels_from q under) (q + under) t
binders W q under t below =
    let e : under ≡ under + 0 = omega arith in
    ap (λ k. put_under (at_levels W) (length W) q k t) e ∙ binders-under W q under below t 0
