-- Reduction keeps terms without K.
use Rattle.std.proofs.Common.{◌≡◌, ℕ, zero, suc, ◌+◌, Bool, false, ◌==◌, ◌&&◌, Option, Some, None, option_map, option_and_then, IfSome, List, [], ◌∷◌, length, take, drop, slice_get, refl}
use Rattle.theory.specs.Terms.{Term}
use Rattle.theory.specs.Terms.Term.{Var, Pi, Lam, App, Let, Const, Con, Elim, AxiomK}
use Rattle.theory.specs.Spines.{head_of, spine_of}
use Rattle.theory.specs.Families.{Family, Constructor}
use Rattle.theory.specs.Eliminators.{iota_right}
use Rattle.theory.specs.Signatures.{Signature, FamilyOf, Definition, equality}
use Rattle.theory.specs.AxiomKLaws.{LacksAxiomK}
use Rattle.core_terms.specs.Answers.{Spent}
use Rattle.kernel_reduce.specs.Entries.{body_at, family_at}
use Rattle.kernel_reduce.specs.Steps.{beta_step, method_applied, iota_at, iota_step, k_step, contraction, scrutinee_step, elimination_step, application_step, first_of, step_of}
use Rattle.kernel_reduce.specs.Reduction.{without_units, with_unit, whnf_of, with_children, normal_children, normal_of}
use Rattle.kernel_reduce.specs.Tidying.{tidy_of}
use Rattle.kernel_reduce.proofs.LookUps.{family-found}
use Rattle.kernel_reduce.proofs.StepLaws.{body-in}
use Rattle.elim.specs.k_laws.Lacking.{Lack, ConstructorLacks, ConstructorsLack, SignatureLacks}
use Rattle.elim.proofs.k_laws.Runs.{Found, Ends, some, none, now, done, refused, next, either-found, low, if-low}
use Rattle.elim.proofs.k_laws.Terms.{substituted, first, rest, at, spine}
use Rattle.elim.proofs.k_laws.Records.{constructor, iota}

-- ---- what an option leads to

pub and-found : {A B : Type 0} {P : A → Type 0} {Q : B → Type 0} {go : A → Option B} {o : Option A} → Found P o → ((a : A) → P a → Found Q (go a))
    → Found Q (option_and_then go o)
and-found {A} {B} {P} {Q} {go} {o} h k = by o h.is
  where
    by : (x : Option A) → IfSome x P → Found Q (option_and_then go x)
    by (Some a) p = k a p
    by None p = none

pub found-as : {A B : Type 0} {P : A → Type 0} {Q : B → Type 0} (f : A → B) {o : Option A} → Found P o → ((a : A) → P a → Q (f a))
    → Found Q (option_map f o)
found-as {A} {B} {P} {Q} f {o} h k = by o h.is
  where
    by : (x : Option A) → IfSome x P → Found Q (option_map f x)
    by (Some a) p = some (k a p)
    by None p = none

-- the family at a number
pub family : (S : Signature) (n : ℕ) → SignatureLacks S → Found (λ (f : Family). ConstructorsLack f.constructors) (family_at S n)
family S n h = by (family_at S n) refl
  where
    by : (o : Option Family) → family_at S n ≡ o → Found (λ (f : Family). ConstructorsLack f.constructors) o
    by (Some f) e = some (h.entries n (FamilyOf f) (family-found S n f e))
    by None e = none

body : (S : Signature) (n : ℕ) → SignatureLacks S → Found LacksAxiomK (body_at S n)
body S n h = by (body_at S n) refl
  where
    by : (o : Option Term) → body_at S n ≡ o → Found LacksAxiomK o
    by (Some t) e = let is = body-in n (slice_get S.entries n) t e in some (h.entries n (Definition is.0 is.1 t) is.2)
    by None e = none

-- ---- head steps

method : (n m : ℕ) (f : Family) (number : ℕ) (c : Constructor) (us ps ts : List Term) → ConstructorLacks c → Lack us → Lack ps → Lack ts
    → Found LacksAxiomK (method_applied n m f number c us ps ts)
method n m f number c us ps [] hc hu hp ht = none
method n m f number c us ps (P ∷ ts) hc hu hp ht =
    let ms = take (length f.constructors) ts in
    let hm = first (length f.constructors) ts ht.1 in
    found-as (λ t. iota_right n m ps P ms c.arguments t us) (at ms number hm) (λ t h. iota n m ps P ms c.arguments t us hp ht.0 hm hc.arguments h hu)

at-constructor : (n m : ℕ) (f : Family) (args : List Term) (number : ℕ) (us : List Term) (c : Constructor) → ConstructorLacks c → Lack args → Lack us
    → Found LacksAxiomK (iota_at n m f args number us c)
at-constructor n m f args number us c hc ha hu =
    let k = length f.parameters in
    either-found (length us == k + length c.arguments)
    (method n m f number c (drop k us) (take k args) (drop k args) hc (rest k us hu) (first k args ha) (rest k args ha)) none

steps-iota : (n m : ℕ) (args : List Term) (h : Term) (us : List Term) (f : Family) → ConstructorsLack f.constructors → Lack args → Lack us
    → Found LacksAxiomK (iota_step n m args h us f)
steps-iota n m args (Con g number) us f hf ha hu =
    either-found (g == n) (and-found (constructor f.constructors number hf) (λ c hc. at-constructor n m f args number us c hc ha hu)) none
steps-iota n m args (Var x) us f hf ha hu = none
steps-iota n m args _ us f hf ha hu = none

steps-k : (i : ℕ) (args : List Term) (h : Term) (us : List Term) → Lack args → Found LacksAxiomK (k_step i args h us)
steps-k i args (Con g number) us ha = either-found ((g == equality i) && ((number == 0) && (length us == 2))) (at args 3 ha) none
steps-k i args (Var x) us ha = none
steps-k i args _ us ha = none

contracted : (S : Signature) (f : Term) (args : List Term) (h : Term) (us : List Term) → SignatureLacks S → Lack args → Lack us
    → Found LacksAxiomK (contraction S f args h us)
contracted S (Elim n m) args h us all ha hu = and-found (family S n all) (λ f hf. steps-iota n m args h us f hf ha hu)
contracted S (AxiomK i m) args h us all ha hu = steps-k i args h us ha
contracted S (Var x) args h us all ha hu = none
contracted S _ args h us all ha hu = none

of-scrutinee : (f : Term) (inner : Option Term) {o : Option Term} → LacksAxiomK f → IfSome inner LacksAxiomK → Found LacksAxiomK o
    → Found LacksAxiomK (scrutinee_step f inner o)
of-scrutinee f (Some u) h hi ho = some (h, hi)
of-scrutinee f None h hi ho = ho

eliminated : (S : Signature) (f u : Term) (inner : Option Term) → SignatureLacks S → LacksAxiomK f → LacksAxiomK u → Found LacksAxiomK inner
    → Found LacksAxiomK (elimination_step S f u inner)
eliminated S f u inner all hf hu hi =
    either-found _ (of-scrutinee f inner hf hi.is (contracted S (head_of f) (spine_of f) (head_of u) (spine_of u) all (spine f hf) (spine u hu))) none

steps-beta : (f u : Term) → LacksAxiomK f → LacksAxiomK u → Found LacksAxiomK (beta_step f u)
steps-beta (Lam a b) u hf hu = some (substituted b 0 u hf.1 hu)
steps-beta (Var x) u hf hu = none
steps-beta _ u hf hu = none

first-there : {a b : Option Term} → Found LacksAxiomK a → Found LacksAxiomK b → Found LacksAxiomK (first_of a b)
first-there {a} {b} h k = by a h.is
  where
    by : (x : Option Term) → IfSome x LacksAxiomK → Found LacksAxiomK (first_of x b)
    by (Some t) p = some p
    by None p = k

application : (S : Signature) (f u : Term) (outer inner : Option Term) → SignatureLacks S → LacksAxiomK f → LacksAxiomK u → IfSome outer LacksAxiomK
    → Found LacksAxiomK inner → Found LacksAxiomK (application_step S f u outer inner)
application S f u (Some g) inner all hf hu ho hi = some (ho, hu)
application S f u None inner all hf hu ho hi = first-there (steps-beta f u hf hu) (eliminated S f u inner all hf hu hi)

pub step : (S : Signature) (delta : Bool) (t : Term) → SignatureLacks S → LacksAxiomK t → Found LacksAxiomK (step_of S delta t)
step S delta (App f u) all h = application S f u (step_of S delta f) (step_of S delta u) all h.0 h.1 (step S delta f all h.0).is (step S delta u all h.1)
step S delta (Let a t b) all h = some (substituted b 0 t h.2 h.1)
step S delta (Const n) all h = either-found delta (body S n all) none
step S delta _ all h = none

-- ---- head forms and normal forms

without : (t : Term) (o : Option Term) → LacksAxiomK t → Ends LacksAxiomK (without_units t o)
without t None h = done h
without t (Some u) h = refused

with-one : (t : Term) (left : ℕ) (go : Term → Spent Term) (o : Option Term) → LacksAxiomK t → IfSome o LacksAxiomK
    → ((u : Term) → LacksAxiomK u → Ends LacksAxiomK (go u)) → Ends LacksAxiomK (with_unit t left go o)
with-one t left go None h hs k = done h
with-one t left go (Some u) h hs k = k u hs

pub whnf : (S : Signature) (delta : Bool) (left : ℕ) (t : Term) → SignatureLacks S → LacksAxiomK t → Ends LacksAxiomK (whnf_of S delta left t)
whnf S delta zero t all h = if-low _ (λ none. without t (step_of S delta t) h) zero
whnf S delta (suc left) t all h =
    if-low _ (λ units. with-one t left (whnf_of S delta left) (step_of S delta t) h (step S delta t all h).is (λ u k. whnf S delta left u all k)) (suc left)

pub tidy : (S : Signature) (left : ℕ) (t : Term) → SignatureLacks S → LacksAxiomK t → Ends LacksAxiomK (tidy_of S left t)
tidy S left t all h = whnf S false left t all h

children : (form : Term → Term → Term) → ((a b : Term) → LacksAxiomK a → LacksAxiomK b → LacksAxiomK (form a b)) → {one two : ℕ → Spent Term}
    → ((left : ℕ) → Ends LacksAxiomK (one left)) → ((left : ℕ) → Ends LacksAxiomK (two left)) → (left : ℕ)
    → Ends LacksAxiomK (with_children form one two left)
children form makes h k left = next (h left) (λ a more p. next (k more) (λ b end q. now (low (form a b) (makes a b p q))))

of-children : {normal : Term → ℕ → Spent Term} → ((t : Term) (left : ℕ) → LacksAxiomK t → Ends LacksAxiomK (normal t left)) → (t : Term) (left : ℕ)
    → LacksAxiomK t → Ends LacksAxiomK (normal_children normal t left)
of-children k (Pi a b) left h = children Pi (λ a b p q. (p, q)) (λ more. k a more h.0) (λ more. k b more h.1) left
of-children k (Lam a b) left h = children Lam (λ a b p q. (p, q)) (λ more. k a more h.0) (λ more. k b more h.1) left
of-children k (App f a) left h = children App (λ a b p q. (p, q)) (λ more. k f more h.0) (λ more. k a more h.1) left
of-children k (Var n) left h = done h
of-children k t left h = done h

pub normal : (S : Signature) (delta : Bool) (room : ℕ) (t : Term) (left : ℕ) → SignatureLacks S → LacksAxiomK t → Ends LacksAxiomK (normal_of S delta room t left)
normal S delta zero t left all h = refused
normal S delta (suc room) t left all h =
    next (whnf S delta left t all h) (λ u more k. of-children (λ v end p. normal S delta room v end all p) u more k)
