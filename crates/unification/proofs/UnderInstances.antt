-- Lists of terms that convert one by one, under instantiations and in spines.
use mathlib.Core.Path.{fun_ext}
use Rattle.std.proofs.Common.{◌≡◌, ℕ, zero, suc, ◌+◌, ◌<◌, ◌≤◌, ◌⊎◌, inl, inr, List, [], ◌∷◌, ◌++◌, length, map, refl, ap, ap₂, ◌∙◌, arith}
use Rattle.theory.specs.Terms.{Term, free_of}
use Rattle.theory.specs.Terms.Term.{Var, Pi, Lam, App, Let}
use Rattle.theory.specs.Substitutions.{inst, ups, weaken, extend, fill}
use Rattle.theory.specs.Telescopes.{applied, variables}
use Rattle.theory.specs.Eliminators.{no_variable}
use Rattle.theory.specs.Signatures.{Signature, HasClosedBodies}
use Rattle.theory.specs.SignatureScopes.{IsScoped, IsScopedSignature}
use Rattle.theory.specs.Conversion.{Converts}
use Rattle.theory.specs.Conversion.Converts.{same}
use Rattle.theory.proofs.Congruence.{converts-app, converts-inst-each}
use Rattle.theory.proofs.Stability.{converts-inst}
use Rattle.theory.proofs.Instances.{ap₃, inst-same, inst-inst}
use Rattle.theory.proofs.Instantiation.{inst-fill}
use Rattle.theory.proofs.ScopedEntries.{bodies-scoped}
use Rattle.tele_eq.specs.ReflexivityLaws.{EachConverts}

-- the bodies of a scoped signature are closed
pub closed-bodies : (S : Signature) → IsScopedSignature S → HasClosedBodies S
closed-bodies S scoped n name type body at =
    let h : IsScoped S 0 body = bodies-scoped S n name type body scoped at in
    let le : free_of body ≤ 0 = h.variables in
    omega arith

-- ---- terms that convert one by one

pub each-same : (S : Signature) (ts : List Term) → EachConverts S ts ts
each-same S [] = tt
each-same S (t ∷ ts) = (same, each-same S ts)

-- there are as many of them
pub each-length : (S : Signature) (ts us : List Term) → EachConverts S ts us → length ts ≡ length us
each-length S [] [] h = refl
each-length S [] (u ∷ us) h = absurd h
each-length S (t ∷ ts) [] h = absurd h
each-length S (t ∷ ts) (u ∷ us) h = ap suc (each-length S ts us h.1)

pub each-append : (S : Signature) (ts us ts' us' : List Term) → EachConverts S ts us → EachConverts S ts' us'
    → EachConverts S (ts ++ ts') (us ++ us')
each-append S [] [] ts' us' h k = k
each-append S [] (u ∷ us) ts' us' h k = absurd h
each-append S (t ∷ ts) [] ts' us' h k = absurd h
each-append S (t ∷ ts) (u ∷ us) ts' us' h k = (h.0, each-append S ts us ts' us' h.1 k)

pub each-inst : (S : Signature) → HasClosedBodies S → (r : ℕ → Term) (ts us : List Term) → EachConverts S ts us
    → EachConverts S (map (inst r) ts) (map (inst r) us)
each-inst S closed r [] [] h = tt
each-inst S closed r [] (u ∷ us) h = absurd h
each-inst S closed r (t ∷ ts) [] h = absurd h
each-inst S closed r (t ∷ ts) (u ∷ us) h = (converts-inst S closed r h.0, each-inst S closed r ts us h.1)

-- a head at arguments that convert
pub each-applied : (S : Signature) (f g : Term) (ts us : List Term) → Converts S f g → EachConverts S ts us
    → Converts S (applied f ts) (applied g us)
each-applied S f g [] [] e h = e
each-applied S f g [] (u ∷ us) e h = absurd h
each-applied S f g (t ∷ ts) [] e h = absurd h
each-applied S f g (t ∷ ts) (u ∷ us) e h = each-applied S (App f t) (App g u) ts us (converts-app e h.0) h.1

extend-each : (S : Signature) (s q : ℕ → Term) (t u : Term) → ((n : ℕ) → Converts S (s n) (q n)) → Converts S t u → (n : ℕ)
    → Converts S (extend s t n) (extend q u n)
extend-each S s q t u each h zero = h
extend-each S s q t u each h (suc n) = each n

fill-each : (S : Signature) (s q : ℕ → Term) (ts us : List Term) → ((n : ℕ) → Converts S (s n) (q n)) → EachConverts S ts us
    → (n : ℕ) → Converts S (fill s ts n) (fill q us n)
fill-each S s q [] [] each all n = each n
fill-each S s q [] (u ∷ us) each all n = absurd all
fill-each S s q (t ∷ ts) [] each all n = absurd all
fill-each S s q (t ∷ ts) (u ∷ us) each all n = fill-each S (extend s t) (extend q u) ts us (extend-each S s q t u each all.0) all.1 n

-- terms under two instantiations that convert
each-under : (S : Signature) → HasClosedBodies S → (s q : ℕ → Term) → ((n : ℕ) → Converts S (s n) (q n)) → (ts : List Term)
    → EachConverts S (map (inst s) ts) (map (inst q) ts)
each-under S closed s q each [] = tt
each-under S closed s q each (t ∷ ts) = (converts-inst-each S closed s q each t, each-under S closed s q each ts)

-- ---- instantiations of terms of a record

-- the terms of a record at parameters ps and arguments us
abbrev pub at_values : (ps us ts : List Term) → List Term
at_values ps us ts = map (inst (fill (fill no_variable ps) us)) ts

values-inst : (r : ℕ → Term) (ps us : List Term) (n : ℕ)
    → inst r (fill (fill no_variable ps) us n) ≡ fill (fill no_variable (map (inst r) ps)) (map (inst r) us) n
values-inst r ps us n =
    inst-fill r (fill no_variable ps) us n ∙ ap (λ q. fill q (map (inst r) us) n) (fun_ext (inst-fill r no_variable ps))

pub inst-values : (r : ℕ → Term) (ps us ts : List Term)
    → map (inst r) (at_values ps us ts) ≡ at_values (map (inst r) ps) (map (inst r) us) ts
inst-values r ps us [] = refl
inst-values r ps us (t ∷ ts) =
    ap₂ ◌∷◌ (inst-inst r (fill (fill no_variable ps) us) t ∙ inst-same t (values-inst r ps us)) (inst-values r ps us ts)

-- at parameters and arguments that convert
pub values-each : (S : Signature) → HasClosedBodies S → (ps qs us vs ts : List Term) → EachConverts S ps qs
    → EachConverts S us vs → EachConverts S (at_values ps us ts) (at_values qs vs ts)
values-each S closed ps qs us vs ts h k =
    each-under S closed (fill (fill no_variable ps) us) (fill (fill no_variable qs) vs)
    (fill-each S (fill no_variable ps) (fill no_variable qs) us vs (fill-each S no_variable no_variable ps qs (λ n. same) h) k) ts

-- ---- a solution as an instantiation

ups-agree : (s p : ℕ → Term) (n : ℕ) → ((i : ℕ) → i < n → s i ≡ p i) → (i : ℕ) → i < n + 1 → ups s i ≡ ups p i
ups-agree s p n agree zero lt = refl
ups-agree s p n agree (suc i) lt = ap weaken (agree i (omega arith))

-- instantiations that agree at the variables of a term
pub inst-agree : (s p : ℕ → Term) (t : Term) (n : ℕ) → ((i : ℕ) → i < n → s i ≡ p i) → free_of t ≤ n → inst s t ≡ inst p t
inst-agree s p (Var i) n agree h = agree i (omega arith)
inst-agree s p (Pi a b) n agree h =
    ap₂ Pi (inst-agree s p a n agree (omega arith)) (inst-agree (ups s) (ups p) b (n + 1) (ups-agree s p n agree) (omega arith))
inst-agree s p (Lam a b) n agree h =
    ap₂ Lam (inst-agree s p a n agree (omega arith)) (inst-agree (ups s) (ups p) b (n + 1) (ups-agree s p n agree) (omega arith))
inst-agree s p (App f a) n agree h = ap₂ App (inst-agree s p f n agree (omega arith)) (inst-agree s p a n agree (omega arith))
inst-agree s p (Let a t b) n agree h =
    ap₃ Let (inst-agree s p a n agree (omega arith)) (inst-agree s p t n agree (omega arith))
    (inst-agree (ups s) (ups p) b (n + 1) (ups-agree s p n agree) (omega arith))
inst-agree s p _ n agree h = refl

-- after the values of k variables come the values that were there before
fill-behind : (s r : ℕ → Term) (k i : ℕ) → fill s (map (inst r) (variables k)) (k + i) ≡ s i
fill-behind s r zero i = ap s (omega arith)
fill-behind s r (suc k) i =
    let e : suc k + i ≡ k + suc i = omega arith in
    ap (fill (extend s (r k)) (map (inst r) (variables k))) e ∙ fill-behind (extend s (r k)) r k (suc i)

-- the values of the nearest k variables under an instantiation are what it has for them
pub fill-variables : (s r : ℕ → Term) (k i : ℕ) → i < k → fill s (map (inst r) (variables k)) i ≡ r i
fill-variables s r zero i lt = absurd (omega arith)
fill-variables s r (suc k) i lt = by (λ less. fill-variables (extend s (r k)) r k i less) (sides i k lt)
  where
    sides : (i k : ℕ) → i < suc k → (i < k) ⊎ (i ≡ k + 0)
    sides i k lt = grind arith

    by : (i < k → fill (extend s (r k)) (map (inst r) (variables k)) i ≡ r i) → (i < k) ⊎ (i ≡ k + 0)
        → fill s (map (inst r) (variables (suc k))) i ≡ r i
    by nearer (inl less) = nearer less
    by nearer (inr e) =
        let back : k ≡ i = omega arith in
        ap (fill (extend s (r k)) (map (inst r) (variables k))) e ∙ (fill-behind (extend s (r k)) r k 0 ∙ ap r back)
