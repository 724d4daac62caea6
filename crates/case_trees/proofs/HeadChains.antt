-- Head forms by their steps: there is one, and where it is a constructor it stays in instances.
use Rattle.std.proofs.Common.{◌≡◌, ℕ, zero, suc, true, Option, Some, None, Result, Ok, Err, IfOk, IfSome, refl, sym, ap, ◌∙◌, subst as transport, arith}
use Rattle.theory.specs.Terms.{Term}
use Rattle.theory.specs.Substitutions.{inst}
use Rattle.theory.specs.Signatures.{Signature, HasClosedBodies}
use Rattle.theory.proofs.Lists.{some_is}
use Rattle.core_terms.specs.Answers.{Spent, is_low}
use Rattle.core_terms.specs.declared.stop.Stop.{Stop}
use Rattle.kernel_reduce.specs.Steps.{step_of}
use Rattle.kernel_reduce.specs.Reduction.{without_units, with_unit, whnf_of}
use Rattle.unification.specs.Built.{Built, built_of}
use Rattle.unification.proofs.Constructors.{instance_of, built-instance}
use Rattle.case_trees.proofs.HeadForms.{if_low-ok, built-rests}
use Rattle.case_trees.proofs.StableSteps.{step-stays}
use Rattle.case_trees.proofs.Workings.{ReducesTo}
use Rattle.case_trees.specs.HeadSteps.{Reaches, here, more, HeadForm}

without-form : (S : Signature) (t : Term) (o : Option Term) → step_of S true t ≡ o → IfOk (without_units t o).0 (HeadForm S t)
without-form S t None e = record { reaches = here t; rests = e }
without-form S t (Some u) e = tt

with-form : (S : Signature) (t : Term) (left : ℕ) (next : Term → Spent Term) (o : Option Term) → step_of S true t ≡ o
    → ((u : Term) → IfOk (next u).0 (HeadForm S u)) → IfOk (with_unit t left next o).0 (HeadForm S t)
with-form S t left next None e h = record { reaches = here t; rests = e }
with-form S t left next (Some u) e h = by (next u).0 (h u)
  where
    by : (r : Result Term Stop) → IfOk r (HeadForm S u) → IfOk r (HeadForm S t)
    by (Ok w) k = record { reaches = more t u w e k.reaches; rests = k.rests }
    by (Err d) k = tt

pub whnf-form : (S : Signature) (left : ℕ) (t : Term) → IfOk (whnf_of S true left t).0 (HeadForm S t)
whnf-form S zero t = if_low-ok (HeadForm S t) (is_low t) _ zero (without-form S t (step_of S true t) refl)
whnf-form S (suc left) t = if_low-ok (HeadForm S t) (is_low t) _ (suc left) (with-form S t left (whnf_of S true left) (step_of S true t) refl (whnf-form S left))

pub head-form : (S : Signature) (t w : Term) → ReducesTo S t w → HeadForm S t w
head-form S t w to = transport (λ r. IfOk r (HeadForm S t)) to.run (whnf-form S to.units t)

chain-one : (S : Signature) (t w v : Term) → Reaches S t w → Reaches S t v → step_of S true w ≡ None → step_of S true v ≡ None → w ≡ v
chain-one S _ _ _ (here t) (here _) p q = refl
chain-one S _ _ _ (here t) (more _ u v e more_steps) p q = absurd (grind (arith, p, e))
chain-one S _ _ _ (more t u w e rest) (here _) p q = absurd (grind (arith, q, e))
chain-one S _ _ _ (more t u w e rest) (more _ u' v e' rest') p q =
    let same : u' ≡ u = some_is (sym e' ∙ e) in
    chain-one S u w v rest (transport (λ x. Reaches S x v) same rest') p q

-- there is one head form
pub one-form : (S : Signature) (t w v : Term) → HeadForm S t w → HeadForm S t v → w ≡ v
one-form S t w v h k = chain-one S t w v h.reaches k.reaches h.rests k.rests

-- a constructor with all its arguments is its own
pub built-form : (S : Signature) (t : Term) (b : Built) → built_of S t ≡ Some b → HeadForm S t t
built-form S t b e = record { reaches = here t; rests = built-rests S true t b e }

pub chain-stays : (S : Signature) (s : ℕ → Term) → HasClosedBodies S → (t w : Term) → Reaches S t w → Reaches S (inst s t) (inst s w)
chain-stays S s closed _ _ (here t) = here (inst s t)
chain-stays S s closed _ _ (more t u w e rest) =
    more (inst s t) (inst s u) (inst s w) (by (step_of S true t) e (step-stays S true s closed t)) (chain-stays S s closed u w rest)
  where
    by : (o : Option Term) → o ≡ Some u → IfSome o (λ v. step_of S true (inst s t) ≡ Some (inst s v)) → step_of S true (inst s t) ≡ Some (inst s u)
    by (Some v) same h = h ∙ ap (λ x. Some (inst s x)) (some_is same)
    by None same h = absurd (grind arith)

-- a head form that is a constructor stays one
pub form-stays : (S : Signature) (s : ℕ → Term) → HasClosedBodies S → (t w : Term) (b : Built) → HeadForm S t w → built_of S w ≡ Some b
    → HeadForm S (inst s t) (inst s w)
form-stays S s closed t w b h e =
    record {
      reaches = chain-stays S s closed t w h.reaches;
      rests = built-rests S true (inst s w) (instance_of s b) (built-instance S s w b e);
    }
