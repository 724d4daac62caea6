-- Head steps without delta are head steps: where the head form of a term is no constructor, the tidied term is none either.
use Rattle.std.proofs.Common.{◌≡◌, ℕ, zero, suc, Bool, true, false, cond, Option, Some, None, IfSome, Result, Ok, Err, IfOk, List, length, map, refl, sym, ap, ◌∙◌, subst as transport, arith}
use Rattle.theory.specs.Terms.{Term, Var, Sort, Pi, Lam, App, Let, Const, Fam, Con, Elim, AxiomK}
use Rattle.theory.specs.Substitutions.{inst}
use Rattle.theory.specs.Spines.{head_of, spine_of}
use Rattle.theory.specs.Signatures.{Signature}
use Rattle.theory.proofs.Instances.{inst-var}
use Rattle.core_terms.specs.Answers.{Spent, is_low}
use Rattle.core_terms.specs.declared.stop.Stop.{Stop}
use Rattle.kernel_reduce.specs.Reduction.{without_units, with_unit, whnf_of}
use Rattle.kernel_reduce.specs.Steps.{awaits_scrutinee, contraction, scrutinee_step, elimination_step, first_of, application_step, step_of}
use Rattle.unification.specs.Built.{Built, built_of}
use Rattle.case_trees.proofs.HeadForms.{if_low-ok, built-rests}
use Rattle.case_trees.specs.HeadSteps.{Reaches, here, more, HeadForm}
use Rattle.case_trees.proofs.HeadChains.{head-form, one-form}
use Rattle.case_trees.proofs.StableSteps.{awaits-takes, takes-no_beta, takes-rests, contracted}
use Rattle.case_trees.proofs.Looks.{TidiesTo}
use Rattle.case_trees.proofs.OwnPlaces.{HasNone}

-- a scrutinee that is contracted takes no step
contraction-rests : (S : Signature) (h : Term) (args : List Term) (a u : Term) → contraction S h args (head_of a) (spine_of a) ≡ Some u
    → step_of S true a ≡ None
contraction-rests S h args a u e =
    by (contraction S h args (head_of a) (spine_of a)) e (contracted S Var h args a)
  where
    by : (o : Option Term) → o ≡ Some u
        → IfSome o (λ v. (contraction S h (map (inst Var) args) (head_of (inst Var a)) (spine_of (inst Var a)) ≡ Some (inst Var v))
        × ((delta : Bool) → step_of S delta (inst Var a) ≡ None))
        → step_of S true a ≡ None
    by (Some v) e (there, rests) = sym (ap (step_of S true) (inst-var a)) ∙ rests true
    by None e h = absurd (grind arith)

scrutinee-with_delta : (S : Signature) (f a : Term) (o : Option Term) → IfSome o (λ b. step_of S true a ≡ Some b)
    → IfSome (scrutinee_step f o (contraction S (head_of f) (spine_of f) (head_of a) (spine_of a)))
    (λ u. scrutinee_step f (step_of S true a) (contraction S (head_of f) (spine_of f) (head_of a) (spine_of a)) ≡ Some u)
scrutinee-with_delta S f a (Some b) h = ap (λ o. scrutinee_step f o (contraction S (head_of f) (spine_of f) (head_of a) (spine_of a))) h
scrutinee-with_delta S f a None h = by (contraction S (head_of f) (spine_of f) (head_of a) (spine_of a)) refl
  where
    by : (c : Option Term) → contraction S (head_of f) (spine_of f) (head_of a) (spine_of a) ≡ c
        → IfSome c (λ u. scrutinee_step f (step_of S true a) c ≡ Some u)
    by (Some u) e = ap (λ o. scrutinee_step f o (Some u)) (contraction-rests S (head_of f) (spine_of f) a u e)
    by None e = tt

elimination-with_delta : (S : Signature) (f a : Term) → IfSome (step_of S false a) (λ b. step_of S true a ≡ Some b)
    → IfSome (elimination_step S f a (step_of S false a)) (λ u. step_of S true (App f a) ≡ Some u)
elimination-with_delta S f a h = by (awaits_scrutinee S (head_of f) (spine_of f)) refl
  where
    by : (test : Bool) → awaits_scrutinee S (head_of f) (spine_of f) ≡ test
        → IfSome (cond test (scrutinee_step f (step_of S false a) (contraction S (head_of f) (spine_of f) (head_of a) (spine_of a))) None)
        (λ u. step_of S true (App f a) ≡ Some u)
    by false e = tt
    by true e =
        let takes = awaits-takes S (head_of f) (spine_of f) e in
        let contracts = contraction S (head_of f) (spine_of f) (head_of a) (spine_of a) in
        let whole : step_of S true (App f a) ≡ scrutinee_step f (step_of S true a) contracts =
        ap (λ outer. application_step S f a outer (step_of S true a)) (takes-rests S true f takes)
        ∙ (ap (λ one. first_of one (elimination_step S f a (step_of S true a))) (takes-no_beta S f a (length (spine_of f)) takes)
        ∙ ap (λ test. cond test (scrutinee_step f (step_of S true a) contracts) None) e) in
        transport (λ o. IfSome (scrutinee_step f (step_of S false a) contracts) (λ u. o ≡ Some u)) (sym whole)
        (scrutinee-with_delta S f a (step_of S false a) h)

application-with_delta : (S : Signature) (f a : Term) (outer : Option Term) → IfSome outer (λ g. step_of S true f ≡ Some g)
    → IfSome (step_of S false a) (λ b. step_of S true a ≡ Some b)
    → IfSome (application_step S f a outer (step_of S false a)) (λ u. step_of S true (App f a) ≡ Some u)
application-with_delta S f a (Some g) h k = ap (λ o. application_step S f a o (step_of S true a)) h
application-with_delta S (Lam b c) a None h k = refl
application-with_delta S (App g c) a None h k = elimination-with_delta S (App g c) a k
application-with_delta S (Elim n m) a None h k = elimination-with_delta S (Elim n m) a k
application-with_delta S (AxiomK i m) a None h k = elimination-with_delta S (AxiomK i m) a k
application-with_delta S (Var x) a None h k = tt
application-with_delta S (Sort i) a None h k = tt
application-with_delta S (Pi b c) a None h k = tt
application-with_delta S (Let b t c) a None h k = tt
application-with_delta S (Const n) a None h k = tt
application-with_delta S (Fam n) a None h k = tt
application-with_delta S (Con n number) a None h k = tt

with-delta : (S : Signature) (t : Term) → IfSome (step_of S false t) (λ u. step_of S true t ≡ Some u)
with-delta S (App f a) = application-with_delta S f a (step_of S false f) (with-delta S f) (with-delta S a)
with-delta S (Let a t b) = refl
with-delta S (Const n) = tt
with-delta S (Var x) = tt
with-delta S (Sort i) = tt
with-delta S (Pi a b) = tt
with-delta S (Lam a b) = tt
with-delta S (Fam n) = tt
with-delta S (Con n number) = tt
with-delta S (Elim n m) = tt
with-delta S (AxiomK i m) = tt

-- ---- tidied terms

without-reaches : (S : Signature) (t : Term) (o : Option Term) → IfOk (without_units t o).0 (Reaches S t)
without-reaches S t None = here t
without-reaches S t (Some u) = tt

with-reaches : (S : Signature) (t : Term) (left : ℕ) (next : Term → Spent Term) (o : Option Term) → IfSome o (λ u. step_of S true t ≡ Some u)
    → ((u : Term) → IfOk (next u).0 (Reaches S u)) → IfOk (with_unit t left next o).0 (Reaches S t)
with-reaches S t left next None e h = here t
with-reaches S t left next (Some u) e h = by (next u).0 (h u)
  where
    by : (r : Result Term Stop) → IfOk r (Reaches S u) → IfOk r (Reaches S t)
    by (Ok w) k = more t u w e k
    by (Err d) k = tt

pub tidy-reaches : (S : Signature) (left : ℕ) (t : Term) → IfOk (whnf_of S false left t).0 (Reaches S t)
tidy-reaches S zero t = if_low-ok (Reaches S t) (is_low t) _ zero (without-reaches S t (step_of S false t))
tidy-reaches S (suc left) t =
    if_low-ok (Reaches S t) (is_low t) _ (suc left) (with-reaches S t left (whnf_of S false left) (step_of S false t) (with-delta S t) (tidy-reaches S left))

-- where the head form is no constructor the tidied term is none
pub tidied-none : (S : Signature) (t u : Term) → HasNone S t → TidiesTo S t u → built_of S u ≡ None
tidied-none S t u h to = by (built_of S u) refl
  where
    reaches : Reaches S t u
    reaches = transport (λ r. IfOk r (Reaches S t)) to.run (tidy-reaches S to.units t)

    by : (o : Option Built) → built_of S u ≡ o → o ≡ None
    by None e = refl
    by (Some b) e =
        let form : HeadForm S t u = record { reaches = reaches; rests = built-rests S true u b e } in
        let same : h.form ≡ u = one-form S t h.form u (head-form S t h.form h.reduces) form in
        absurd (grind (arith, sym (ap (built_of S) same) ∙ h.none, e))
