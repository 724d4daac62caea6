-- Reduction keeps terms scoped.
use Rattle.std.proofs.Common.{◌≡◌, ℕ, ◌+◌, zero, suc, Bool, true, false, cond, ◌==◌, ◌&&◌, Option, Some, None, IfSome, List, [], ◌∷◌, length, take, drop, slice_get, refl, arith}
use Rattle.std.proofs.lemmas.List.Elements.{All-head, All-tail, All-take, All-drop}
use Rattle.std.specs.List.{All}
use Rattle.theory.specs.Terms.{Term}
use Rattle.theory.specs.Terms.Term.{Var, Pi, Lam, App, Let, Const, Con, Elim, AxiomK}
use Rattle.theory.specs.Spines.{head_of, spine_of}
use Rattle.theory.specs.Families.{Family, Constructor}
use Rattle.theory.specs.Signatures.{Signature, FamilyOf, IsEntryAt, equality}
use Rattle.theory.specs.SignatureScopes.{IsScoped, IsScopedSignature}
use Rattle.theory.proofs.ScopedTerms.{scoped-pi, scoped-lam, scoped-app, scoped-let, pi-scoped, lam-scoped, app-scoped, scoped_over_more, subst-scoped, spine-scoped}
use Rattle.theory.proofs.ScopedEntries.{All-at, bodies-scoped, iota-scoped}
use Rattle.core_terms.specs.Answers.{Spent, is_low}
use Rattle.kernel_reduce.specs.Entries.{body_at, family_at}
use Rattle.kernel_reduce.specs.Steps.{beta_step, awaits_scrutinee, method_applied, iota_step, k_step, contraction, scrutinee_step, elimination_step, application_step, step_of}
use Rattle.kernel_reduce.specs.Reduction.{step_taken, with_unit, without_units, whnf_of, with_children, normal_children, normal_of}
use Rattle.kernel_reduce.specs.Laws.{StepScoped, HeadStepScoped, WhnfScoped, NormalScoped}
use Rattle.core_terms.proofs.Answers.{Answers, and_next-has, bounded-has}
use Rattle.kernel_reduce.proofs.Answers.{charge-has, if_low-has}
use Rattle.kernel_reduce.proofs.ReductionLaws.{some_bounded-has}
use Rattle.kernel_reduce.proofs.StepLaws.{some-next, some-map, some-cond, first-has, body-in, family-found}

method-scoped : (S : Signature) (k n m number : ℕ) (f : Family) (c : Constructor) (us ps rest : List Term) → IsScopedSignature S → IsEntryAt S n (FamilyOf f)
    → slice_get f.constructors number ≡ Some c → All (IsScoped S k) us → All (IsScoped S k) ps → All (IsScoped S k) rest
    → IfSome (method_applied n m f number c us ps rest) (IsScoped S k)
method-scoped S k n m number f c us ps [] scoped at con hu hp hr = tt
method-scoped S k n m number f c us ps (P ∷ rest) scoped at con hu hp hr =
    let ms = take (length f.constructors) rest in
    let methods = All-take (IsScoped S k) (length f.constructors) rest (All-tail (IsScoped S k) P rest hr) in
    some-map (IsScoped S k) _ (slice_get ms number) (λ method e.
    iota-scoped S k n m number f c ps P ms method us scoped at con hp (All-head (IsScoped S k) P rest hr) methods (All-at (IsScoped S k) ms number method e methods) hu)

iota-step-scoped : (S : Signature) (k n m : ℕ) (f : Family) (args : List Term) (h : Term) (us : List Term) → IsScopedSignature S → IsEntryAt S n (FamilyOf f)
    → All (IsScoped S k) args → All (IsScoped S k) us → IfSome (iota_step n m args h us f) (IsScoped S k)
iota-step-scoped S k n m f args (Con g number) us scoped at ha hu =
    some-cond (IsScoped S k) (g == n) _ (λ same.
    some-next (IsScoped S k) _ (slice_get f.constructors number) (λ c con.
    some-cond (IsScoped S k) (length us == length f.parameters + length c.arguments) _ (λ full.
    method-scoped S k n m number f c (drop (length f.parameters) us) (take (length f.parameters) args) (drop (length f.parameters) args) scoped at con
    (All-drop (IsScoped S k) (length f.parameters) us hu) (All-take (IsScoped S k) (length f.parameters) args ha) (All-drop (IsScoped S k) (length f.parameters) args ha))))
iota-step-scoped S k n m f args (Var x) us scoped at ha hu = tt
iota-step-scoped S k n m f args _ us scoped at ha hu = tt

found-scoped : (S : Signature) (k : ℕ) (us : List Term) (n : ℕ) → All (IsScoped S k) us → IfSome (slice_get us n) (IsScoped S k)
found-scoped S k us n h = by_case (slice_get us n) refl
  where
    by_case : (o : Option Term) → slice_get us n ≡ o → IfSome o (IsScoped S k)
    by_case None e = tt
    by_case (Some u) e = All-at (IsScoped S k) us n u e h

k_step-scoped : (S : Signature) (k i : ℕ) (args : List Term) (h : Term) (us : List Term) → All (IsScoped S k) args → IfSome (k_step i args h us) (IsScoped S k)
k_step-scoped S k i args (Con g number) us ha =
    some-cond (IsScoped S k) ((g == equality i) && ((number == 0) && (length us == 2))) _ (λ test. found-scoped S k args 3 ha)
k_step-scoped S k i args (Var x) us ha = tt
k_step-scoped S k i args _ us ha = tt

contraction-scoped : (S : Signature) (k : ℕ) (f : Term) (args : List Term) (h : Term) (us : List Term) → IsScopedSignature S
    → All (IsScoped S k) args → All (IsScoped S k) us → IfSome (contraction S f args h us) (IsScoped S k)
contraction-scoped S k (Elim n m) args h us scoped ha hu =
    some-next (IsScoped S k) _ (family_at S n) (λ f found.
    iota-step-scoped S k n m f args h us scoped (family-found S n f found) ha hu)
contraction-scoped S k (AxiomK i m) args h us scoped ha hu = k_step-scoped S k i args h us ha
contraction-scoped S k (Var x) args h us scoped ha hu = tt
contraction-scoped S k _ args h us scoped ha hu = tt

scrutinee-scoped : (S : Signature) (k : ℕ) (f : Term) (inner contracted : Option Term) → IsScoped S k f → IfSome inner (IsScoped S k) → IfSome contracted (IsScoped S k)
    → IfSome (scrutinee_step f inner contracted) (IsScoped S k)
scrutinee-scoped S k f (Some u) contracted h hi hc = app-scoped h hi
scrutinee-scoped S k f None contracted h hi hc = hc

elimination-scoped : (S : Signature) (k : ℕ) (f u : Term) (inner : Option Term) → IsScopedSignature S → IsScoped S k f → IsScoped S k u
    → IfSome inner (IsScoped S k) → IfSome (elimination_step S f u inner) (IsScoped S k)
elimination-scoped S k f u inner scoped hf hu hi =
    some-cond (IsScoped S k) (awaits_scrutinee S (head_of f) (spine_of f)) _ (λ full.
    scrutinee-scoped S k f inner _ hf hi
    (contraction-scoped S k (head_of f) (spine_of f) (head_of u) (spine_of u) scoped (spine-scoped S k f hf) (spine-scoped S k u hu)))

beta-scoped : (S : Signature) (k : ℕ) (f u : Term) → IsScoped S k f → IsScoped S k u → IfSome (beta_step f u) (IsScoped S k)
beta-scoped S k (Lam a b) u hf hu = subst-scoped S k 0 b u (omega arith) (scoped-lam hf).1 hu
beta-scoped S k (Var x) u hf hu = tt
beta-scoped S k _ u hf hu = tt

application-scoped : (S : Signature) (k : ℕ) (f u : Term) (outer inner : Option Term) → IsScopedSignature S → IsScoped S k f → IsScoped S k u
    → IfSome outer (IsScoped S k) → IfSome inner (IsScoped S k) → IfSome (application_step S f u outer inner) (IsScoped S k)
application-scoped S k f u (Some g) inner scoped hf hu ho hi = app-scoped ho hu
application-scoped S k f u None inner scoped hf hu ho hi =
    first-has (IsScoped S k) (beta_step f u) (elimination_step S f u inner) (beta-scoped S k f u hf hu) (elimination-scoped S k f u inner scoped hf hu hi)

body-scoped : (S : Signature) (k n : ℕ) (allowed : Bool) → IsScopedSignature S → IfSome (cond allowed (body_at S n) None) (IsScoped S k)
body-scoped S k n false scoped = tt
body-scoped S k n true scoped = by_case (body_at S n) refl
  where
    by_case : (o : Option Term) → body_at S n ≡ o → IfSome o (IsScoped S k)
    by_case None e = tt
    by_case (Some body) e =
        let found = body-in n (slice_get S.entries n) body e in
        scoped_over_more S 0 k body (omega arith) (bodies-scoped S n found.0 found.1 body scoped found.2)

pub step-scoped : StepScoped
step-scoped S delta k (App f u) scoped h =
    let parts = scoped-app h in
    application-scoped S k f u (step_of S delta f) (step_of S delta u) scoped parts.0 parts.1
    (step-scoped S delta k f scoped parts.0) (step-scoped S delta k u scoped parts.1)
step-scoped S delta k (Let a t b) scoped h =
    let parts = scoped-let h in subst-scoped S k 0 b t (omega arith) parts.2 parts.1
step-scoped S delta k (Const n) scoped h = body-scoped S k n delta scoped
step-scoped S delta k _ scoped h = tt

without_units-scoped : (S : Signature) (k : ℕ) (t : Term) (step : Option Term) → IsScoped S k t → Answers (IsScoped S k) (without_units t step)
without_units-scoped S k t None h = h
without_units-scoped S k t (Some u) h = tt

with_unit-scoped : (S : Signature) (k : ℕ) (t : Term) (left : ℕ) (next : Term → Spent Term) (step : Option Term) → IsScoped S k t → IfSome step (IsScoped S k)
    → ((u : Term) → IsScoped S k u → Answers (IsScoped S k) (next u)) → Answers (IsScoped S k) (with_unit t left next step)
with_unit-scoped S k t left next None h hs answers = h
with_unit-scoped S k t left next (Some u) h hs answers = answers u hs

pub whnf-scoped : WhnfScoped
whnf-scoped S delta zero k t scoped h =
    if_low-has (IsScoped S k) (is_low t) _ zero (λ low. without_units-scoped S k t (step_of S delta t) h)
whnf-scoped S delta (suc left) k t scoped h =
    if_low-has (IsScoped S k) (is_low t) _ (suc left) (λ low.
    with_unit-scoped S k t left (whnf_of S delta left) (step_of S delta t) h (step-scoped S delta k t scoped h)
    (λ u hu. whnf-scoped S delta left k u scoped hu))

with_children-scoped : (S : Signature) (k i j : ℕ) (form : Term → Term → Term) (first second : ℕ → Spent Term) (left : ℕ)
    → ((a b : Term) → IsScoped S i a → IsScoped S j b → IsScoped S k (form a b))
    → ((rest : ℕ) → Answers (IsScoped S i) (first rest)) → ((rest : ℕ) → Answers (IsScoped S j) (second rest))
    → Answers (IsScoped S k) (with_children form first second left)
with_children-scoped S k i j form first second left makes h l =
    and_next-has (IsScoped S i) _ (first left) _ (h left) (λ a rest ha.
    and_next-has (IsScoped S j) _ (second rest) _ (l rest) (λ b end hb.
    bounded-has (IsScoped S k) (form a b) (λ low. makes a b ha hb)))

children-scoped : (S : Signature) (normal : Term → ℕ → Spent Term) (k : ℕ) (u : Term) (left : ℕ) → IsScoped S k u
    → ((i : ℕ) (t : Term) (rest : ℕ) → IsScoped S i t → Answers (IsScoped S i) (normal t rest)) → Answers (IsScoped S k) (normal_children normal u left)
children-scoped S normal k (Pi a b) left h next =
    let parts = scoped-pi h in
    with_children-scoped S k k (k + 1) Pi (normal a) (normal b) left (λ c d. pi-scoped) (λ rest. next k a rest parts.0) (λ rest. next (k + 1) b rest parts.1)
children-scoped S normal k (Lam a b) left h next =
    let parts = scoped-lam h in
    with_children-scoped S k k (k + 1) Lam (normal a) (normal b) left (λ c d. lam-scoped) (λ rest. next k a rest parts.0) (λ rest. next (k + 1) b rest parts.1)
children-scoped S normal k (App a b) left h next =
    let parts = scoped-app h in
    with_children-scoped S k k k App (normal a) (normal b) left (λ c d. app-scoped) (λ rest. next k a rest parts.0) (λ rest. next k b rest parts.1)
children-scoped S normal k (Var x) left h next = h
children-scoped S normal k _ left h next = h

pub normal-scoped : NormalScoped
normal-scoped S delta zero k t left scoped h = tt
normal-scoped S delta (suc room) k t left scoped h =
    and_next-has (IsScoped S k) _ (whnf_of S delta left t) _ (whnf-scoped S delta left k t scoped h) (λ u rest hu.
    children-scoped S (normal_of S delta room) k u rest hu (λ i v end hv. normal-scoped S delta room i v end scoped hv))

step_taken-scoped : (S : Signature) (k : ℕ) (step : Option Term) (left : ℕ) → IfSome step (IsScoped S k) → Answers (λ next. IfSome next (IsScoped S k)) (step_taken step left)
step_taken-scoped S k None left h = tt
step_taken-scoped S k (Some u) left h = charge-has _ _ left (λ rest. some_bounded-has (IsScoped S k) u h)

pub head_step-scoped : HeadStepScoped
head_step-scoped S delta k t left scoped h =
    if_low-has _ (is_low t) _ left (λ low. step_taken-scoped S k (step_of S delta t) left (step-scoped S delta k t scoped h))
