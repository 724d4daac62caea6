-- Instantiation under binders.
use Rattle.std.proofs.Common.{◌≡◌, ℕ, zero, suc, ◌+◌, ◌-◌, ◌<◌, ◌≤◌, Bool, true, false, cond, nat_lt, nat_le, Result, Ok, Err, List, [], ◌∷◌, length, map, get_or, refl, sym, ap, ap₂, ◌∙◌, subst as transport, arith}
use mathlib.Core.Path.{fun_ext}
use Rattle.std.proofs.lemmas.Bool.Decides.{nat_tests}
use Rattle.std.proofs.lemmas.List.{length-map}
use Rattle.theory.specs.Terms.{Term, lift, height}
use Rattle.theory.specs.Terms.Term.{Var, Sort, Pi, Lam, App, Let}
use Rattle.theory.specs.Substitutions.{weaken, ups, inst, extend, fill}
use Rattle.theory.specs.Telescopes.{Telescope, inst_telescope}
use Rattle.theory.specs.Eliminators.{no_variable}
use Rattle.theory.proofs.Commuting.{lift_by_none, lift_merge}
use Rattle.theory.proofs.Heights.{height-positive}
use Rattle.theory.proofs.Instances.{ap₃, inst-same}
use Rattle.theory.proofs.Shifts.{lift-one}
use Rattle.core_terms.specs.Answers.{Gives, Makes, bounded}
use Rattle.core_terms.specs.Meanings.{tree_of, tele_of}
use Rattle.core_terms.specs.declared.stop.Stop.{Stop}
use Rattle.core_terms.specs.declared.stop.Stop.TheVariants.{Deep}
use Rattle.core_terms.specs.declared.term.Term as code
use Rattle.core_terms.proofs.Lists.{value-at}
use Rattle.core_terms.specs.Instances.{under_binders, instance_of, instance_with, instances_of, telescope_instance_of}

pub weaken-lifted : (t : Term) (k : ℕ) → weaken (lift t k 0) ≡ lift t (k + 1) 0
weaken-lifted t k = sym (lift-one (lift t k 0)) ∙ lift_merge t k 0 1 0 (omega arith) (omega arith)

-- under one binder more
pub ups-under : (k : ℕ) (s : ℕ → Term) (n : ℕ) → ups (under_binders k s) n ≡ under_binders (k + 1) s n
unfolding under_binders
ups-under k s zero = go (nat_lt 0 (k + 1)) refl
  where
    go : (b : Bool) → nat_lt 0 (k + 1) ≡ b → Var 0 ≡ cond b (Var 0) (lift (s (0 - (k + 1))) (k + 1) 0)
    go true e = refl
    go false e = absurd (grind (arith, nat_tests))
ups-under k s (suc m) = go (nat_lt m k) (nat_lt (suc m) (k + 1)) (grind (arith, nat_tests))
  where
    go : (b c : Bool) → b ≡ c → weaken (cond b (Var m) (lift (s (m - k)) k 0)) ≡ cond c (Var (suc m)) (lift (s (suc m - (k + 1))) (k + 1) 0)
    go true true e = refl
    go true false e = absurd (grind arith)
    go false true e = absurd (grind arith)
    go false false e = weaken-lifted (s (m - k)) k ∙ ap (λ n. lift (s n) (k + 1) 0) (omega arith)

pub inst_under : (k : ℕ) (s : ℕ → Term) (t : Term) → inst (ups (under_binders k s)) t ≡ inst (under_binders (k + 1) s) t
inst_under k s t = inst-same t (ups-under k s)

pub with-is_inst : (s : ℕ → Term) (values : List Term) (under : ℕ) (t : Term) → instance_with s values under t ≡ inst (under_binders under (fill s values)) t
with-is_inst s values under (Pi a b) =
    ap₂ Pi (with-is_inst s values under a) (with-is_inst s values (under + 1) b ∙ sym (inst_under under (fill s values) b))
with-is_inst s values under (Lam a b) =
    ap₂ Lam (with-is_inst s values under a) (with-is_inst s values (under + 1) b ∙ sym (inst_under under (fill s values) b))
with-is_inst s values under (App f a) = ap₂ App (with-is_inst s values under f) (with-is_inst s values under a)
with-is_inst s values under (Let a t b) =
    ap₃ Let (with-is_inst s values under a) (with-is_inst s values under t) (with-is_inst s values (under + 1) b ∙ sym (inst_under under (fill s values) b))
with-is_inst s values under (Var n) = refl
with-is_inst s values under _ = refl

pub instance-is_inst : (values : List Term) (under : ℕ) (t : Term) → instance_of values under t ≡ inst (under_binders under (fill no_variable values)) t
instance-is_inst = with-is_inst no_variable

fill-past : (s : ℕ → Term) (us : List Term) (v : ℕ) → length us ≤ v → fill s us v ≡ s (v - length us)
fill-past s [] v h = ap s (omega arith)
fill-past s (u ∷ us) v h =
    fill-past (extend s u) us v (omega arith)
    ∙ ap (extend s u) (let e : v - length us ≡ suc (v - length (u ∷ us)) = omega arith in e)

fill-within : (s : ℕ → Term) (us : List Term) (v : ℕ) (d : Term) → v < length us → fill s us v ≡ get_or us (length us - 1 - v) d
fill-within s [] v d h = absurd (omega arith)
fill-within s (u ∷ us) v d h = go (nat_lt v (length us)) refl (fill-within (extend s u) us v d)
  where
    go : (b : Bool) → nat_lt v (length us) ≡ b → (v < length us → fill (extend s u) us v ≡ get_or us (length us - 1 - v) d)
        → fill (extend s u) us v ≡ get_or (u ∷ us) (length (u ∷ us) - 1 - v) d
    go true e inner =
        let low : v < length us = grind (arith, nat_tests) in
        let place : suc (length us - 1 - v) ≡ length (u ∷ us) - 1 - v = omega arith in
        inner low ∙ ap (λ n. get_or (u ∷ us) n d) place
    go false e inner =
        let high : length us ≤ v = grind (arith, nat_tests) in
        let last : v - length us ≡ 0 = omega arith in
        let place : 0 ≡ length (u ∷ us) - 1 - v = omega arith in
        fill-past (extend s u) us v high ∙ (ap (extend s u) last ∙ ap (λ n. get_or (u ∷ us) n d) place)

pub under-value : (under n : ℕ) (values : List code.Term) (r : code.Term) → under ≤ n → n - under < length values → r ≡ get_or values (length values - 1 - (n - under)) r
    → lift (tree_of r) under 0 ≡ under_binders under (fill no_variable (tele_of values)) n
unfolding under_binders
under-value under n values r high low e =
    go (nat_lt n under) refl
  where
    go : (b : Bool) → nat_lt n under ≡ b → lift (tree_of r) under 0 ≡ cond b (Var n) (lift (fill no_variable (tele_of values) (n - under)) under 0)
    go true h = absurd (grind (arith, nat_tests))
    go false h =
        let count = length-map values tree_of in
        ap (λ t. lift t under 0)
        (sym (fill-within no_variable (tele_of values) (n - under) (tree_of r) (omega arith)
        ∙ (ap (λ k. get_or (tele_of values) (k - 1 - (n - under)) (tree_of r)) count
        ∙ value-at values (length values - 1 - (n - under)) r (omega arith) e)))

pub under-none : (under n : ℕ) (values : List code.Term) → under ≤ n → length values ≤ n - under → Sort 0 ≡ under_binders under (fill no_variable (tele_of values)) n
unfolding under_binders
under-none under n values high past = go (nat_lt n under) refl
  where
    go : (b : Bool) → nat_lt n under ≡ b → Sort 0 ≡ cond b (Var n) (lift (fill no_variable (tele_of values) (n - under)) under 0)
    go true h = absurd (grind (arith, nat_tests))
    go false h =
        let count = length-map values tree_of in
        ap (λ t. lift t under 0) (sym (fill-past no_variable (tele_of values) (n - under) (omega arith)))

-- a bounded answer is Deep only where the term is too high
pub makes-bounded : (r : Result code.Term Stop) (t meant : Term) → Gives tree_of r (bounded t) → t ≡ meant → Makes r meant
makes-bounded r t meant h e = transport (Makes r) e (by (nat_le (height t) 2000) refl r h)
  where
    by : (low : Bool) → nat_le (height t) 2000 ≡ low → (a : Result code.Term Stop) → Gives tree_of a (cond low (Ok t) (Err Deep)) → Makes a t
    by true tested (Ok a) g = grind arith
    by true tested (Err x) g = λ other. absurd (grind (arith, g other))
    by false tested (Ok a) g = absurd (grind arith)
    by false tested (Err x) g = λ other. (grind (arith, g other), grind (arith, nat_tests))

pub under-low : (under n : ℕ) (s : ℕ → Term) → n < under → Var n ≡ under_binders under s n
unfolding under_binders
under-low under n s low = go (nat_lt n under) refl
  where
    go : (b : Bool) → nat_lt n under ≡ b → Var n ≡ cond b (Var n) (lift (s (n - under)) under 0)
    go true h = refl
    go false h = absurd (grind (arith, nat_tests))

under-no_binder : (s : ℕ → Term) (n : ℕ) → under_binders 0 s n ≡ s n
unfolding under_binders
under-no_binder s n = go (nat_lt n 0) refl
  where
    go : (b : Bool) → nat_lt n 0 ≡ b → cond b (Var n) (lift (s (n - 0)) 0 0) ≡ s n
    go true e = absurd (grind (arith, nat_tests))
    go false e = lift_by_none (s (n - 0)) 0 ∙ ap s (omega arith)

pub under-none-path : (s : ℕ → Term) → under_binders 0 s ≡ s
under-none-path s = fun_ext (under-no_binder s)

pub ups-path : (k : ℕ) (s : ℕ → Term) → ups (under_binders k s) ≡ under_binders (k + 1) s
ups-path k s = fun_ext (ups-under k s)

-- with no binder around it, an instance is the instance of the theory
pub with-none : (s : ℕ → Term) (values : List Term) (t : Term) → instance_with s values 0 t ≡ inst (fill s values) t
with-none s values t = with-is_inst s values 0 t ∙ ap (λ f. inst f t) (under-none-path (fill s values))

pub instance-none : (values : List Term) (t : Term) → instance_of values 0 t ≡ inst (fill no_variable values) t
instance-none = with-none no_variable

telescope-is_inst : (values : List Term) (under : ℕ) (tele : Telescope)
    → telescope_instance_of values under tele ≡ inst_telescope (under_binders under (fill no_variable values)) tele
telescope-is_inst values under [] = refl
telescope-is_inst values under (a ∷ tele) =
    ap₂ ◌∷◌ (instance-is_inst values under a)
    (telescope-is_inst values (under + 1) tele ∙ ap (λ s. inst_telescope s tele) (sym (ups-path under (fill no_variable values))))

pub telescope-none : (values : List Term) (tele : Telescope) → telescope_instance_of values 0 tele ≡ inst_telescope (fill no_variable values) tele
telescope-none values tele = telescope-is_inst values 0 tele ∙ ap (λ s. inst_telescope s tele) (under-none-path (fill no_variable values))

pub instances-are : (values terms : List Term) → instances_of values terms ≡ map (inst (fill no_variable values)) terms
instances-are values [] = refl
instances-are values (t ∷ terms) = ap₂ ◌∷◌ (instance-none values t) (instances-are values terms)

pub ruleset instance_laws = (instance-none, instances-are, telescope-none)

-- an instance loses no height
pub height-with : (s : ℕ → Term) (values : List Term) (under : ℕ) (t : Term) → height t ≤ height (instance_with s values under t)
height-with s values under (Var n) = height-positive (under_binders under (fill s values) n)
height-with s values under (Pi a b) = omega (arith, height-with s values under a, height-with s values (under + 1) b)
height-with s values under (Lam a b) = omega (arith, height-with s values under a, height-with s values (under + 1) b)
height-with s values under (App f a) = omega (arith, height-with s values under f, height-with s values under a)
height-with s values under (Let a t b) =
    omega (arith, height-with s values under a, height-with s values under t, height-with s values (under + 1) b)
height-with s values under _ = omega arith

pub ruleset instance_heights = (height-with)
