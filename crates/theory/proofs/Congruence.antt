-- Conversion is an equivalence that every former of terms keeps, and so does putting terms for variables.
use Rattle.std.proofs.Common.{ℕ, zero, suc, inl, inr, sym, subst₂}
use Rattle.theory.specs.Terms.{Term, subst_var}
use Rattle.theory.specs.Terms.Term.{Var, Pi, Lam, App, Let}
use Rattle.theory.specs.Substitutions.{inst, ups}
use Rattle.theory.specs.Signatures.{Signature, HasClosedBodies}
use Rattle.theory.specs.Conversion.{Step, Converts, Below}
use Rattle.theory.specs.Conversion.Step.{domain, codomain, annotation, body, function, argument, let_type, let_value, let_body}
use Rattle.theory.specs.Conversion.Converts.{same, forwards, backwards}
use Rattle.theory.specs.ConversionLaws.{ConvertsSymmetric, ConvertsTransitive, ConvertsProducts, ConvertsFunctions, ConvertsApplications, ConvertsLets, StepOfLift, StepOfSubst, ConvertsOfLift, ConvertsOfSubst, BelowOfLift, BelowOfSubst}
use Rattle.theory.proofs.Shifts.{compare, subst_var-at, subst_var-below, subst_var-above, lift-is_ren, subst-is_inst}
use Rattle.theory.proofs.Stability.{step-inst, step-ren, converts-inst, converts-ren, below-inst, below-ren}

-- two chains in turn
pub converts-trans : {S : Signature} {t u v : Term} → Converts S t u → Converts S u v → Converts S t v
converts-trans same k = k
converts-trans (forwards h rest) k = forwards h (converts-trans rest k)
converts-trans (backwards h rest) k = backwards h (converts-trans rest k)

-- a chain from its end
pub converts-sym : {S : Signature} {t u : Term} → Converts S t u → Converts S u t
converts-sym same = same
converts-sym (forwards h rest) = converts-trans (converts-sym rest) (backwards h same)
converts-sym (backwards h rest) = converts-trans (converts-sym rest) (forwards h same)

-- a place that keeps steps keeps conversion
pub converts-at : {S : Signature} (place : Term → Term) → ((t u : Term) → Step S t u → Step S (place t) (place u))
    → {t u : Term} → Converts S t u → Converts S (place t) (place u)
converts-at place steps same = same
converts-at place steps (forwards {t} {u} h rest) = forwards (steps t u h) (converts-at place steps rest)
converts-at place steps (backwards {t} {u} h rest) = backwards (steps u t h) (converts-at place steps rest)

-- products
pub converts-pi : {S : Signature} {a a' b b' : Term} → Converts S a a' → Converts S b b' → Converts S (Pi a b) (Pi a' b')
converts-pi {a' = a'} {b = b} h k =
    converts-trans (converts-at (λ x. Pi x b) (λ t u. domain) h) (converts-at (Pi a') (λ t u. codomain) k)

-- functions
pub converts-lam : {S : Signature} {a a' b b' : Term} → Converts S a a' → Converts S b b' → Converts S (Lam a b) (Lam a' b')
converts-lam {a' = a'} {b = b} h k =
    converts-trans (converts-at (λ x. Lam x b) (λ t u. annotation) h) (converts-at (Lam a') (λ t u. body) k)

-- applications
pub converts-app : {S : Signature} {f f' a a' : Term} → Converts S f f' → Converts S a a' → Converts S (App f a) (App f' a')
converts-app {f' = f'} {a = a} h k =
    converts-trans (converts-at (λ x. App x a) (λ t u. function) h) (converts-at (App f') (λ t u. argument) k)

-- lets
pub converts-let : {S : Signature} {a a' t t' b b' : Term} → Converts S a a' → Converts S t t' → Converts S b b'
    → Converts S (Let a t b) (Let a' t' b')
converts-let {a' = a'} {t = t} {t' = t'} {b = b} h k l =
    converts-trans (converts-at (λ x. Let x t b) (λ x y. let_type) h)
    (converts-trans (converts-at (λ x. Let a' x b) (λ x y. let_value) k) (converts-at (Let a' t') (λ x y. let_body) l))

converts-ups : (S : Signature) → HasClosedBodies S → (s p : ℕ → Term) → ((n : ℕ) → Converts S (s n) (p n)) → (n : ℕ)
    → Converts S (ups s n) (ups p n)
converts-ups S closed s p each zero = same
converts-ups S closed s p each (suc n) = converts-ren S closed suc (each n)

-- instantiations whose terms convert
pub converts-inst-each : (S : Signature) → HasClosedBodies S → (s p : ℕ → Term) → ((n : ℕ) → Converts S (s n) (p n))
    → (t : Term) → Converts S (inst s t) (inst p t)
converts-inst-each S closed s p each (Var n) = each n
converts-inst-each S closed s p each (Pi a b) =
    converts-pi (converts-inst-each S closed s p each a)
    (converts-inst-each S closed (ups s) (ups p) (converts-ups S closed s p each) b)
converts-inst-each S closed s p each (Lam a b) =
    converts-lam (converts-inst-each S closed s p each a)
    (converts-inst-each S closed (ups s) (ups p) (converts-ups S closed s p each) b)
converts-inst-each S closed s p each (App f a) =
    converts-app (converts-inst-each S closed s p each f) (converts-inst-each S closed s p each a)
converts-inst-each S closed s p each (Let a t b) =
    converts-let (converts-inst-each S closed s p each a) (converts-inst-each S closed s p each t)
    (converts-inst-each S closed (ups s) (ups p) (converts-ups S closed s p each) b)
converts-inst-each S closed s p each _ = same

converts-subst_var : {S : Signature} (n at : ℕ) {u u' : Term} → Converts S u u'
    → Converts S (subst_var n at u) (subst_var n at u')
converts-subst_var {S} n at {u} {u'} h = elim (compare n at) [
  | inl lt ↦ subst₂ (Converts S) (sym (subst_var-below n at u lt)) (sym (subst_var-below n at u' lt)) same
  | inr (inl eq) ↦ subst₂ (Converts S) (sym (subst_var-at n at u eq)) (sym (subst_var-at n at u' eq)) h
  | inr (inr gt) ↦ subst₂ (Converts S) (sym (subst_var-above n at u gt)) (sym (subst_var-above n at u' gt)) same
]

-- conversion is symmetric
pub converts_symmetric : ConvertsSymmetric
converts_symmetric S t u h = converts-sym h

-- conversion is transitive
pub converts_transitive : ConvertsTransitive
converts_transitive S t u v h k = converts-trans h k

-- products of convertible parts
pub converts_products : ConvertsProducts
converts_products S a a' b b' h k = converts-pi h k

-- functions of convertible parts
pub converts_functions : ConvertsFunctions
converts_functions S a a' b b' h k = converts-lam h k

-- applications of convertible parts
pub converts_applications : ConvertsApplications
converts_applications S f f' a a' h k = converts-app h k

-- lets of convertible parts
pub converts_lets : ConvertsLets
converts_lets S a a' t t' b b' h k l = converts-let h k l

-- a lift keeps a step
pub step_of_lift : StepOfLift
step_of_lift S closed by from t u h =
    subst₂ (Step S) (sym (lift-is_ren t by from)) (sym (lift-is_ren u by from)) (step-ren S closed _ h)

-- a substitution keeps a step
pub step_of_subst : StepOfSubst
step_of_subst S closed at v t u h =
    subst₂ (Step S) (sym (subst-is_inst t at v)) (sym (subst-is_inst u at v)) (step-inst S closed _ h)

-- a lift keeps conversion
pub converts_of_lift : ConvertsOfLift
converts_of_lift S closed by from t u h =
    subst₂ (Converts S) (sym (lift-is_ren t by from)) (sym (lift-is_ren u by from)) (converts-ren S closed _ h)

-- a substitution keeps conversion, in the term and in the one that is put
pub converts_of_subst : ConvertsOfSubst
converts_of_subst S closed at t t' u u' h k =
    subst₂ (Converts S) (sym (subst-is_inst t at u)) (sym (subst-is_inst t' at u'))
    (converts-trans (converts-inst S closed _ h)
    (converts-inst-each S closed _ _ (λ n. converts-subst_var n at k) t'))

-- a lift keeps below
pub below_of_lift : BelowOfLift
below_of_lift S closed by from a b h =
    subst₂ (Below S) (sym (lift-is_ren a by from)) (sym (lift-is_ren b by from)) (below-ren S closed _ h)

-- a substitution keeps below
pub below_of_subst : BelowOfSubst
below_of_subst S closed at u a b h =
    subst₂ (Below S) (sym (subst-is_inst a at u)) (sym (subst-is_inst b at u)) (below-inst S closed _ h)
