-- Terms put for variables by level: the terms for a variable, for a run of them, and for those around others.
use Rattle.std.proofs.Common.{◌≡◌, ℕ, suc, ◌+◌, ◌-◌, ◌<◌, Bool, true, false, nat_lt, cond, List, [], ◌∷◌, ◌++◌, map, length, refl, ap, ap₂, sym, ◌∙◌, append_assoc, arith}
use Rattle.std.proofs.lemmas.Bool.Decides.{nat_tests}
use Rattle.std.proofs.lemmas.List.{length-append}
use Rattle.theory.specs.Terms.{Term, lift, lift_var}
use Rattle.theory.specs.Substitutions.{inst, extend, fill}
use Rattle.theory.proofs.Instances.{inst-same, inst-ren}
use Rattle.theory.proofs.Shifts.{lift-is_ren}
use Rattle.core_terms.specs.Levels.{variable, run}

pub fill-append : (s : ℕ → Term) (xs ys : List Term) (v : ℕ) → fill s (xs ++ ys) v ≡ fill (fill s xs) ys v
fill-append s [] ys v = refl
fill-append s (x ∷ xs) ys v = fill-append (extend s x) xs ys v

-- after the terms of a list
pub fill-past : (s : ℕ → Term) (us : List Term) (v : ℕ) → fill s us (v + length us) ≡ s v
fill-past s [] v = ap s (omega arith)
fill-past s (u ∷ us) v = ap (fill (extend s u) us) (omega arith) ∙ fill-past (extend s u) us (suc v)

-- among them
pub fill-near : (s q : ℕ → Term) (us : List Term) (v : ℕ) → v < length us → fill s us v ≡ fill q us v
fill-near s q [] v lt = absurd (omega arith)
fill-near s q (u ∷ us) v lt = go (nat_lt v (length us)) refl (fill-near (extend s u) (extend q u) us v)
  where
    go : (b : Bool) → nat_lt v (length us) ≡ b → (v < length us → fill (extend s u) us v ≡ fill (extend q u) us v) → fill (extend s u) us v ≡ fill (extend q u) us v
    go true e near = near (grind (arith, nat_tests))
    go false e near =
        let last : v ≡ 0 + length us = grind (arith, nat_tests) in
        ap (fill (extend s u) us) last ∙ (fill-past (extend s u) us 0 ∙ (sym (fill-past (extend q u) us 0) ∙ ap (fill (extend q u) us) (sym last)))

-- the variable with a level
pub variable-filled : (s : ℕ → Term) (args xs : List Term) (u : Term) (ys : List Term) (depth level : ℕ) → args ≡ xs ++ u ∷ ys → depth ≡ length args → level ≡ length xs
    → inst (fill s args) (variable depth level) ≡ u
variable-filled s args xs u ys depth level is deep at =
    ap (fill s args) place ∙ (ap (λ us. fill s us (0 + length ys)) is ∙ (fill-append s xs (u ∷ ys) (0 + length ys) ∙ fill-past (extend (fill s xs) u) ys 0))
  where
    place : depth - (level + 1) ≡ 0 + length ys
    place = let count = length-append xs (u ∷ ys) in let same = ap length is in omega arith

-- the variables of a run of levels
pub run-filled : (s : ℕ → Term) (args xs us ys : List Term) (depth start count : ℕ) → args ≡ xs ++ (us ++ ys) → depth ≡ length args → start ≡ length xs → count ≡ length us
    → map (inst (fill s args)) (run depth start count) ≡ us
run-filled s args xs [] ys depth start count is deep at counted = ap (λ k. map (inst (fill s args)) (run depth start k)) counted
run-filled s args xs (u ∷ us) ys depth start count is deep at counted =
    ap (λ k. map (inst (fill s args)) (run depth start k)) counted
    ∙ ap₂ ◌∷◌ (variable-filled s args xs u (us ++ ys) depth start is deep at)
    (run-filled s args (xs ++ u ∷ []) us ys depth (start + 1) (length us) (is ∙ sym (append_assoc xs (u ∷ []) (us ++ ys))) deep more refl)
  where
    more : start + 1 ≡ length (xs ++ u ∷ [])
    more = let count = length-append xs (u ∷ []) in omega arith

-- a term that comes after more binders, which are put in after the nearest ones
pub fill-between : (s : ℕ → Term) (xs ys zs : List Term) (e i v : ℕ) → e ≡ length ys → i ≡ length zs → fill s (xs ++ (ys ++ zs)) (lift_var v e i) ≡ fill s (xs ++ zs) v
fill-between s xs ys zs e i v more near = go (nat_lt v i) refl
  where
    go : (b : Bool) → nat_lt v i ≡ b → fill s (xs ++ (ys ++ zs)) (cond b v (v + e)) ≡ fill s (xs ++ zs) v
    go true t =
        fill-append s xs (ys ++ zs) v
        ∙ (fill-append (fill s xs) ys zs v
        ∙ (fill-near (fill (fill s xs) ys) (fill s xs) zs v (grind (arith, nat_tests)) ∙ sym (fill-append s xs zs v)))
    go false t =
        let behind : v ≡ v - i + length zs = grind (arith, nat_tests) in
        let far : v + e ≡ v - i + e + length zs = grind (arith, nat_tests) in
        fill-append s xs (ys ++ zs) (v + e)
        ∙ (fill-append (fill s xs) ys zs (v + e)
        ∙ (ap (fill (fill (fill s xs) ys) zs) far
        ∙ (fill-past (fill (fill s xs) ys) zs (v - i + e)
        ∙ (ap (fill (fill s xs) ys) (ap (λ k. v - i + k) more)
        ∙ (fill-past (fill s xs) ys (v - i)
        ∙ (sym (fill-past (fill s xs) zs (v - i)) ∙ (ap (fill (fill s xs) zs) (sym behind) ∙ sym (fill-append s xs zs v))))))))

pub inst-between : (s : ℕ → Term) (xs ys zs : List Term) (e i : ℕ) (t : Term) → e ≡ length ys → i ≡ length zs → inst (fill s (xs ++ (ys ++ zs))) (lift t e i) ≡ inst (fill s (xs ++ zs)) t
inst-between s xs ys zs e i t more near =
    ap (inst (fill s (xs ++ (ys ++ zs)))) (lift-is_ren t e i)
    ∙ (inst-ren (fill s (xs ++ (ys ++ zs))) (λ v. lift_var v e i) t
    ∙ inst-same t (λ v. fill-between s xs ys zs e i v more near))
