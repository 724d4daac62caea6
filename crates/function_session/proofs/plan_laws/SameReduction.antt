-- Signatures of which the same is read have the same head forms, normal forms and comparisons.
use mathlib.Core.Path.{fun_ext}
use Rattle.std.proofs.Common.{◌≡◌, ℕ, zero, suc, ◌==◌, Bool, true, false, ◌&&◌, nat_lt, cond, Option, Some, None, option_and_then, List, [], ◌∷◌, ◌++◌, length, slice_get, refl, sym, ap, ap₂, ◌∙◌, arith}
use Rattle.std.proofs.lemmas.Bool.Decides.{nat_tests}
use Rattle.theory.specs.Terms.{Term, App, Const, Elim, AxiomK, top}
use Rattle.theory.specs.Signatures.{Signature, Entry, Definition, equality}
use Rattle.theory.specs.Spines.{head_of, spine_of}
use Rattle.theory.specs.WellFormed.{provisional}
use Rattle.core_terms.specs.Answers.{Spent, and_next, is_low}
use Rattle.kernel_reduce.specs.Entries.{body_in}
use Rattle.kernel_reduce.specs.Identities.{has_k_at, is_identity_there}
use Rattle.kernel_reduce.specs.Steps.{application_step, awaits_scrutinee, beta_step, contraction, elimination_step, fills, first_of, iota_step, scrutinee_step, step_of}
use Rattle.kernel_reduce.specs.Reduction.{charge, if_low, normal_children, normal_of, whnf_of, with_unit, without_units}
use Rattle.kernel_reduce.specs.Comparison.{convertible_of, heads_convertible, on_heads, same, unless_same}
use Rattle.kernel_reduce.specs.Tidying.{tidy_of}
use Rattle.function_plans.proofs.SameChoices.{same-more}
use Rattle.function_session.specs.plan_laws.Reading.{AreReadAlike}

module _ (S T : Signature) (alike : AreReadAlike S T) where
  k-same : (i : ℕ) → has_k_at S i ≡ has_k_at T i
  k-same i = ap₂ (λ k o. k && (nat_lt i top && is_identity_there i o)) alike.has_k (alike.families (equality i))

  awaits-same : (h : Term) (args : List Term) → awaits_scrutinee S h args ≡ awaits_scrutinee T h args
  awaits-same (Elim n m) args = ap (fills args) (alike.families n)
  awaits-same (AxiomK i m) args = ap (λ b. b && (length args == 4)) (k-same i)
  awaits-same _ args = refl

  contraction-same : (h : Term) (args : List Term) (c : Term) (us : List Term) → contraction S h args c us ≡ contraction T h args c us
  contraction-same (Elim n m) args c us = ap (option_and_then (iota_step n m args c us)) (alike.families n)
  contraction-same _ args c us = refl

  elimination-same : (f u : Term) (inner : Option Term) → elimination_step S f u inner ≡ elimination_step T f u inner
  elimination-same f u inner =
      ap₂ (λ b o. cond b (scrutinee_step f inner o) None) (awaits-same (head_of f) (spine_of f))
      (contraction-same (head_of f) (spine_of f) (head_of u) (spine_of u))

  application-same : (f u : Term) (outer inner : Option Term) → application_step S f u outer inner ≡ application_step T f u outer inner
  application-same f u (Some g) inner = refl
  application-same f u None inner = ap (first_of (beta_step f u)) (elimination-same f u inner)

  step-same : (delta : Bool) (t : Term) → step_of S delta t ≡ step_of T delta t
  step-same delta (App f u) =
      ap₂ (application_step S f u) (step-same delta f) (step-same delta u)
      ∙ application-same f u (step_of T delta f) (step_of T delta u)
  step-same delta (Const n) = ap (λ o. cond delta o None) (alike.bodies n)
  step-same delta _ = refl

  whnf-same : (delta : Bool) (left : ℕ) (t : Term) → whnf_of S delta left t ≡ whnf_of T delta left t
  whnf-same delta zero t = ap (λ o. if_low (is_low t) (λ none. without_units t o) zero) (step-same delta t)
  whnf-same delta (suc left) t =
      ap₂ (λ (go : Term → Spent Term) o. if_low (is_low t) (λ all. with_unit t left go o) (suc left))
      (fun_ext (λ u. whnf-same delta left u)) (step-same delta t)

  pub whnf-is : whnf_of S ≡ whnf_of T
  whnf-is = fun_ext (λ delta. fun_ext (λ left. fun_ext (λ t. whnf-same delta left t)))

  pub tidy-is : tidy_of S ≡ tidy_of T
  tidy-is = fun_ext (λ left. fun_ext (λ t. whnf-same false left t))

  normal-same : (delta : Bool) (room : ℕ) (t : Term) (left : ℕ) → normal_of S delta room t left ≡ normal_of T delta room t left
  normal-same delta zero t left = refl
  normal-same delta (suc room) t left =
      ap₂ (λ (w : Spent Term) (go : Term → ℕ → Spent Term). and_next w (normal_children go)) (whnf-same delta left t)
      (fun_ext (λ u. fun_ext (λ n. normal-same delta room u n)))

  pub normal-is : normal_of S ≡ normal_of T
  normal-is = fun_ext (λ delta. fun_ext (λ room. fun_ext (λ t. fun_ext (λ left. normal-same delta room t left))))

  heads-is : (a b : Term) → on_heads S a b ≡ on_heads T a b
  heads-is a b =
      ap {B = (Term → Term → ℕ → Spent Bool) → ℕ → Spent Bool}
      (λ (w : Bool → ℕ → Term → Spent Term) (compare : Term → Term → ℕ → Spent Bool) (left : ℕ).
      and_next (w true left a) (λ c rest. and_next (w true rest b) (λ d end. compare c d end)))
      whnf-is

  convertible-same : (room : ℕ) (a b : Term) (left : ℕ) → convertible_of S room a b left ≡ convertible_of T room a b left
  convertible-same zero a b left = refl
  convertible-same (suc room) a b left =
      ap₂
      (λ (heads : (Term → Term → ℕ → Spent Bool) → ℕ → Spent Bool) (go : Term → Term → ℕ → Spent Bool).
      if_low (is_low a && is_low b) (charge (unless_same (same a b) (heads (heads_convertible go)))) left)
      (heads-is a b) (fun_ext (λ c. fun_ext (λ d. fun_ext (λ n. convertible-same room c d n))))

  pub convertible-is : convertible_of S ≡ convertible_of T
  convertible-is = fun_ext (λ room. fun_ext (λ a. fun_ext (λ b. fun_ext (λ left. convertible-same room a b left))))

-- ---- a provisional constant at the end

body-more : (es : List Entry) (name : List ℕ) (type : Term) (c m n : ℕ) → (n ≡ length es → c ≡ m)
    → option_and_then (body_in m) (slice_get es n) ≡ option_and_then (body_in m) (slice_get (es ++ Definition name type (Const c) ∷ []) n)
body-more [] name type c m zero h =
    let holds : (c == m) ≡ true = grind (arith, nat_tests, h refl) in
    sym (ap (λ b. cond b None (Some (Const c))) holds)
body-more [] name type c m (suc n) h = refl
body-more (x ∷ es) name type c m zero h = refl
body-more (x ∷ es) name type c m (suc n) h = body-more es name type c m n (λ e. h (ap suc e))

pub not-read : (S : Signature) (name : List ℕ) (type : Term) → AreReadAlike S (provisional S name type)
not-read S name type = record {
  families = λ n. same-more S.entries (Definition name type (Const (length S.entries))) n refl;
  bodies = λ n. body-more S.entries name type (length S.entries) n n sym;
  has_k = refl;
}
