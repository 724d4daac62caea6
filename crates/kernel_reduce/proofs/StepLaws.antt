-- The step of a term at its head is a step of the theory.
use Rattle.std.proofs.Common.{◌≡◌, ℕ, ◌+◌, Bool, true, false, cond, ◌&&◌, ◌==◌, Option, Some, None, IfSome, option_map, option_and_then, sym, List, [], ◌∷◌, ◌++◌, length, take, drop, slice_get, refl, ap, ◌∙◌, subst as transport, subst₂, arith}
use Rattle.std.proofs.lemmas.Bool.Decides.{Decides-eqb}
use Rattle.std.proofs.lemmas.List.{take-append-drop, length-take, length-drop}
use Rattle.theory.specs.Terms.{Term}
use Rattle.theory.specs.Terms.Term.{Var, Lam, App, Let, Const, Con, Elim, AxiomK}
use Rattle.theory.specs.Telescopes.{applied}
use Rattle.theory.specs.Spines.{head_of, spine_of}
use Rattle.theory.specs.Families.{Family, Constructor}
use Rattle.theory.specs.Eliminators.{iota_right}
use Rattle.theory.specs.Signatures.{Entry, FamilyOf, EliminatorAt, AxiomKAt, Definition, Signature, IsEntryAt, equality}
use Rattle.theory.specs.Conversion.{IsIotaRedex, Step}
use Rattle.theory.specs.Conversion.Contracts.{delta as delta_step, iota, axiom_k}
use Rattle.theory.specs.Conversion.Step.{here, function, argument}
use Rattle.theory.proofs.Rules.{beta-subst, zeta-subst}
use Rattle.theory.proofs.Spines.{applied-spine}
use Rattle.kernel_reduce.specs.Entries.{is_constant, body_in, body_at, family_at}
use Rattle.kernel_reduce.specs.Identities.{has_k_at}
use Rattle.kernel_reduce.specs.Steps.{beta_step, fills, awaits_scrutinee, method_applied, iota_at, iota_step, k_step, contraction, scrutinee_step, elimination_step, first_of, application_step, step_of}
pub use Rattle.kernel_reduce.proofs.LookUps.{both-true, family-found}
use Rattle.kernel_reduce.proofs.Identities.{k-there}

-- a property of the next value of an option, from each value in the option
pub some-next : {A B : Type 0} (P : B → Type 0) (next : A → Option B) (o : Option A) → ((x : A) → o ≡ Some x → IfSome (next x) P) → IfSome (option_and_then next o) P
some-next P next (Some x) h = h x refl
some-next P next None h = tt

pub some-map : {A B : Type 0} (P : B → Type 0) (f : A → B) (o : Option A) → ((x : A) → o ≡ Some x → P (f x)) → IfSome (option_map f o) P
some-map P f (Some x) h = h x refl
some-map P f None h = tt

pub some-cond : {A : Type 0} (P : A → Type 0) (test : Bool) (o : Option A) → (test ≡ true → IfSome o P) → IfSome (cond test o None) P
some-cond P true o h = h refl
some-cond P false o h = tt

pub body-in : (n : ℕ) (o : Option Entry) (body : Term) → option_and_then (body_in n) o ≡ Some body → (name : List ℕ) × (type : Term) × (o ≡ Some (Definition name type body)) × (is_constant n body ≡ false)
body-in n (Some (FamilyOf f)) body e = absurd (grind arith)
body-in n (Some (EliminatorAt m k)) body e = absurd (grind arith)
body-in n (Some (AxiomKAt i m)) body e = absurd (grind arith)
body-in n None body e = absurd (grind arith)
body-in n (Some (Definition name type t)) body e = by_case (is_constant n t) refl e
  where
    by_case : (b : Bool) → is_constant n t ≡ b → cond b None (Some t) ≡ Some body → (name' : List ℕ) × (type' : Term) × (Some (Definition name type t) ≡ Some (Definition name' type' body)) × (is_constant n body ≡ false)
    by_case true test e = absurd (grind arith)
    by_case false test e =
        let same : t ≡ body = grind arith in
        (name, type, ap (λ x. Some (Definition name type x)) same, transport (λ x. is_constant n x ≡ false) same test)

constant-itself : (n : ℕ) (t : Term) → is_constant n t ≡ false → t ≡ Const n → ⊥
constant-itself n t test e =
    let h : (n == n) ≡ false = transport (λ x. is_constant n x ≡ false) e test in
    let k : (n == n) ≡ true = (Decides-eqb n n).1 refl in
    grind arith

delta-steps : (S : Signature) (n : ℕ) (allowed : Bool) → IfSome (cond allowed (body_at S n) None) (Step S (Const n))
delta-steps S n false = tt
delta-steps S n true = by_case (body_at S n) refl
  where
    by_case : (o : Option Term) → body_at S n ≡ o → IfSome o (Step S (Const n))
    by_case None e = tt
    by_case (Some body) e =
        let found = body-in n (slice_get S.entries n) body e in
        here (delta_step n found.2 (constant-itself n body found.3))

-- iota at a constructor with all its arguments, in the words of the eliminator's and the constructor's spine
iota-here : (S : Signature) (n m number : ℕ) (f : Family) (c : Constructor) (args us ps : List Term) (P : Term) (ms is qs vs : List Term) (method : Term)
    → IsEntryAt S n (FamilyOf f) → slice_get f.constructors number ≡ Some c → IsIotaRedex f c ps ms is qs vs → slice_get ms number ≡ Some method
    → ps ++ P ∷ (ms ++ is) ≡ args → qs ++ vs ≡ us
    → Step S (App (applied (Elim n m) args) (applied (Con n number) us)) (iota_right n m ps P ms c.arguments method vs)
iota-here S n m number f c args us ps P ms is qs vs method entry con redex at ea eu =
    transport (λ x. Step S (App (applied (Elim n m) x) (applied (Con n number) us)) (iota_right n m ps P ms c.arguments method vs)) ea
    (transport (λ x. Step S (App (applied (Elim n m) (ps ++ P ∷ (ms ++ is))) (applied (Con n number) x)) (iota_right n m ps P ms c.arguments method vs)) eu
    (here (iota n m number f c ps P ms is qs vs entry con redex at)))

-- the eliminator's arguments are exactly all
IsFull : Family → List Term → Type 0
IsFull f args = length args ≡ length f.parameters + (1 + (length f.constructors + length f.indices))

redex-parts : (f : Family) (c : Constructor) (args us : List Term) (P : Term) (rest : List Term)
    → IsFull f args → length us ≡ length f.parameters + length c.arguments → drop (length f.parameters) args ≡ P ∷ rest
    → IsIotaRedex f c (take (length f.parameters) args) (take (length f.constructors) rest) (drop (length f.constructors) rest) (take (length f.parameters) us) (drop (length f.parameters) us)
unfolding IsFull
redex-parts f c args us P rest full len e =
    let k = length f.parameters in
    let nc = length f.constructors in
    let behind = length-drop k args in
    let all = ap length e in
    record {
      parameters = omega (arith, length-take k args);
      methods = omega (arith, length-take nc rest);
      indices = omega (arith, length-drop nc rest);
      constructor_parameters = omega (arith, length-take k us);
      arguments = omega (arith, length-drop k us);
    }

method-steps : (S : Signature) (n m number : ℕ) (f : Family) (c : Constructor) (args us rest : List Term)
    → IsEntryAt S n (FamilyOf f) → slice_get f.constructors number ≡ Some c → IsFull f args
    → length us ≡ length f.parameters + length c.arguments → drop (length f.parameters) args ≡ rest
    → IfSome (method_applied n m f number c (drop (length f.parameters) us) (take (length f.parameters) args) rest) (Step S (App (applied (Elim n m) args) (applied (Con n number) us)))
unfolding IsFull
method-steps S n m number f c args us [] entry con full len e = tt
method-steps S n m number f c args us (P ∷ rest) entry con full len e =
    let k = length f.parameters in
    let nc = length f.constructors in
    some-map _ _ (slice_get (take nc rest) number) (λ method at.
    iota-here S n m number f c args us (take k args) P (take nc rest) (drop nc rest) (take k us) (drop k us) method entry con (redex-parts f c args us P rest full len e) at
    (ap (λ x. take k args ++ P ∷ x) (take-append-drop nc rest) ∙ ap (λ x. take k args ++ x) (sym e) ∙ take-append-drop k args)
    (take-append-drop k us))

constructor-steps : (S : Signature) (n m number : ℕ) (f : Family) (args us : List Term)
    → IsEntryAt S n (FamilyOf f) → IsFull f args
    → IfSome (option_and_then (iota_at n m f args number us) (slice_get f.constructors number)) (Step S (App (applied (Elim n m) args) (applied (Con n number) us)))
constructor-steps S n m number f args us entry full =
    some-next _ _ (slice_get f.constructors number) (λ c con.
    some-cond _ (length us == length f.parameters + length c.arguments) _ (λ len.
    method-steps S n m number f c args us (drop (length f.parameters) args) entry con full ((Decides-eqb _ _).0 len) refl))

iota-steps : (S : Signature) (n m : ℕ) (f : Family) (args : List Term) (h : Term) (us : List Term)
    → IsEntryAt S n (FamilyOf f) → IsFull f args
    → IfSome (iota_step n m args h us f) (Step S (App (applied (Elim n m) args) (applied h us)))
iota-steps S n m f args (Con g number) us entry full =
    some-cond _ (g == n) _ (λ test.
    transport (λ x. IfSome (option_and_then (iota_at n m f args number us) (slice_get f.constructors number)) (Step S (App (applied (Elim n m) args) (applied (Con x number) us))))
    (sym ((Decides-eqb g n).0 test))
    (constructor-steps S n m number f args us entry full))
iota-steps S n m f args (Var x) us entry full = tt
iota-steps S n m f args _ us entry full = tt

-- a list of a known length is its elements
two-of : {A : Type 0} (P : List A → Type 0) (us : List A) → length us ≡ 2 → ((x y : A) → P (x ∷ y ∷ [])) → P us
two-of P [] e h = absurd (grind arith)
two-of P (x ∷ []) e h = absurd (grind arith)
two-of P (x ∷ y ∷ []) e h = h x y
two-of P (x ∷ y ∷ z ∷ us) e h = absurd (omega arith)

four-of : {A : Type 0} (P : List A → Type 0) (us : List A) → length us ≡ 4 → ((w x y z : A) → P (w ∷ x ∷ y ∷ z ∷ [])) → P us
four-of P [] e h = absurd (grind arith)
four-of P (w ∷ []) e h = absurd (grind arith)
four-of P (w ∷ x ∷ []) e h = absurd (grind arith)
four-of P (w ∷ x ∷ y ∷ []) e h = absurd (grind arith)
four-of P (w ∷ x ∷ y ∷ z ∷ []) e h = h w x y z
four-of P (w ∷ x ∷ y ∷ z ∷ v ∷ us) e h = absurd (omega arith)

k-here : (S : Signature) (i m g number : ℕ) (args us : List Term) → has_k_at S i ≡ true → length args ≡ 4 → length us ≡ 2 → g ≡ equality i → number ≡ 0
    → IfSome (slice_get args 3) (Step S (App (applied (AxiomK i m) args) (applied (Con g number) us)))
k-here S i m g number args us on four two eg en =
    four-of (λ x. IfSome (slice_get x 3) (Step S (App (applied (AxiomK i m) x) (applied (Con g number) us)))) args four (λ A a P d.
    two-of (λ x. Step S (App (applied (AxiomK i m) (A ∷ a ∷ P ∷ d ∷ [])) (applied (Con g number) x)) d) us two (λ B b.
    transport (λ x. Step S (App (applied (AxiomK i m) (A ∷ a ∷ P ∷ d ∷ [])) (App (App (Con x number) B) b)) d) (sym eg)
    (transport (λ x. Step S (App (applied (AxiomK i m) (A ∷ a ∷ P ∷ d ∷ [])) (App (App (Con (equality i) x) B) b)) d) (sym en)
    (here (axiom_k i m (k-there S i on).0 (k-there S i on).1)))))

k-steps : (S : Signature) (i m : ℕ) (args : List Term) (h : Term) (us : List Term) → has_k_at S i ≡ true → length args ≡ 4
    → IfSome (k_step i args h us) (Step S (App (applied (AxiomK i m) args) (applied h us)))
k-steps S i m args (Con g number) us on four =
    some-cond _ ((g == equality i) && ((number == 0) && (length us == 2))) _ (λ test.
    let parts = both-true (g == equality i) ((number == 0) && (length us == 2)) test in
    let rest = both-true (number == 0) (length us == 2) parts.1 in
    k-here S i m g number args us on four ((Decides-eqb (length us) 2).0 rest.1) ((Decides-eqb g (equality i)).0 parts.0) ((Decides-eqb number 0).0 rest.0))
k-steps S i m args (Var x) us on four = tt
k-steps S i m args _ us on four = tt

fills-full : (args : List Term) (f : Family) → fills args (Some f) ≡ true → IsFull f args
unfolding IsFull
fills-full args f e = (Decides-eqb _ _).0 e

-- iota and K, by heads and arguments
contraction-steps : (S : Signature) (h : Term) (args : List Term) (k : Term) (us : List Term) → awaits_scrutinee S h args ≡ true
    → IfSome (contraction S h args k us) (Step S (App (applied h args) (applied k us)))
contraction-steps S (Elim n m) args k us full =
    some-next _ _ (family_at S n) (λ f found.
    iota-steps S n m f args k us (family-found S n f found)
    (fills-full args f (transport (λ o. fills args o ≡ true) found full)))
contraction-steps S (AxiomK i m) args k us full =
    let parts = both-true (has_k_at S i) (length args == 4) full in
    k-steps S i m args k us parts.0 ((Decides-eqb (length args) 4).0 parts.1)
contraction-steps S (Var x) args k us full = tt
contraction-steps S _ args k us full = tt

scrutinee-steps : (S : Signature) (f u : Term) (inner contracted : Option Term) → IfSome inner (Step S u) → IfSome contracted (Step S (App f u))
    → IfSome (scrutinee_step f inner contracted) (Step S (App f u))
scrutinee-steps S f u (Some v) contracted h k = argument h
scrutinee-steps S f u None contracted h k = k

elimination-steps : (S : Signature) (f u : Term) (inner : Option Term) → IfSome inner (Step S u) → IfSome (elimination_step S f u inner) (Step S (App f u))
elimination-steps S f u inner h =
    some-cond _ (awaits_scrutinee S (head_of f) (spine_of f)) _ (λ full.
    scrutinee-steps S f u inner _ h
    (subst₂ (λ x y. IfSome (contraction S (head_of f) (spine_of f) (head_of u) (spine_of u)) (Step S (App x y))) (applied-spine f) (applied-spine u)
    (contraction-steps S (head_of f) (spine_of f) (head_of u) (spine_of u) full)))

beta-steps : (S : Signature) (f u : Term) → IfSome (beta_step f u) (Step S (App f u))
beta-steps S (Lam a b) u = here beta-subst
beta-steps S (Var x) u = tt
beta-steps S _ u = tt

pub first-has : (P : Term → Type 0) (one other : Option Term) → IfSome one P → IfSome other P → IfSome (first_of one other) P
first-has P (Some t) other h k = h
first-has P None other h k = k

application-steps : (S : Signature) (f u : Term) (outer inner : Option Term) → IfSome outer (Step S f) → IfSome inner (Step S u)
    → IfSome (application_step S f u outer inner) (Step S (App f u))
application-steps S f u (Some g) inner h k = function h
application-steps S f u None inner h k =
    first-has (Step S (App f u)) (beta_step f u) (elimination_step S f u inner) (beta-steps S f u) (elimination-steps S f u inner k)

-- the term that `step_of` gives is one step further
pub step-steps : (S : Signature) (delta : Bool) (t : Term) → IfSome (step_of S delta t) (Step S t)
step-steps S delta (App f u) =
    application-steps S f u (step_of S delta f) (step_of S delta u) (step-steps S delta f) (step-steps S delta u)
step-steps S delta (Let a t b) = here zeta-subst
step-steps S delta (Const n) = delta-steps S n delta
step-steps S delta _ = tt
