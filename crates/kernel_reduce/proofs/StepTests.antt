-- Whether there is a step, decided by tests on heads and on numbers of arguments.
use Rattle.std.proofs.Common.{◌≡◌, ℕ, ◌+◌, ◌<◌, ◌≤◌, min, Bool, true, false, cond, ◌&&◌, ◌||◌, ◌==◌, nat_eq, Option, Some, None, is_some, option_and_then, List, [], ◌∷◌, length, take, drop, slice_get, refl, sym, ap, ap₂, ◌∙◌, arith}
use Rattle.std.proofs.lemmas.Bool.Decides.{Decides-eqb}
use Rattle.std.proofs.lemmas.List.{length-take, length-drop}
use Rattle.std.proofs.lemmas.Option.{slice_get_within, slice_get-get_or}
use Rattle.theory.specs.Terms.{Term, height}
use Rattle.theory.specs.Terms.Term.{Var, Sort, Lam, App, Con, Elim, AxiomK}
use Rattle.theory.specs.Spines.{head_of, spine_of}
use Rattle.theory.specs.Families.{Family, Constructor}
use Rattle.theory.specs.Signatures.{Signature, equality}
use Rattle.kernel_reduce.specs.Entries.{family_at}
use Rattle.kernel_reduce.specs.Identities.{has_k_at}
use Rattle.kernel_reduce.specs.Steps.{beta_step, fills, awaits_scrutinee, method_applied, iota_at, iota_step, k_step, contraction, scrutinee_step, elimination_step, first_of, application_step, step_of}
use Rattle.kernel_reduce.specs.Tests.{is_function, constructor_takes, family_takes, meets}
use Rattle.kernel_reduce.proofs.SpineLengths.{spine_fits}
use Rattle.kernel_reduce.proofs.StepLaws.{both-true}

-- a low term's arguments are counted exactly
pub count-exact : (t : Term) (count : ℕ) → count ≡ min (length (spine_of t)) 2001 → height t ≤ 2000 → count ≡ length (spine_of t)
count-exact t count e low = let h = spine_fits t in omega arith

pub awaits-eliminator : (S : Signature) (t : Term) (n m : ℕ) (f : Family) (count arity : ℕ) → head_of t ≡ Elim n m → Some f ≡ family_at S n
    → count ≡ min (length (spine_of t)) 2001 → height t ≤ 2000 → arity ≡ length f.parameters + (1 + (length f.constructors + length f.indices))
    → nat_eq count arity ≡ awaits_scrutinee S (head_of t) (spine_of t)
awaits-eliminator S t n m f count arity eh ef ec low ea =
    ap₂ nat_eq (count-exact t count ec low) ea
    ∙ ap (fills (spine_of t)) ef
    ∙ ap (λ h. awaits_scrutinee S h (spine_of t)) (sym eh)

pub meets-constructor : (S : Signature) (t u : Term) (n m g number : ℕ) (f : Family) (count : ℕ) (answer : Bool) → head_of t ≡ Elim n m → head_of u ≡ Con g number → g ≡ n
    → Some f ≡ family_at S n → count ≡ min (length (spine_of u)) 2001 → height u ≤ 2000 → answer ≡ family_takes number count (Some f)
    → answer ≡ meets S (head_of t) (head_of u) (length (spine_of u))
meets-constructor S t u n m g number f count answer et eu eg ef ec low ea =
    ea ∙ ap₂ (family_takes number) (count-exact u count ec low) ef
    ∙ sym (ap (λ b. b && family_takes number (length (spine_of u)) (family_at S n)) ((Decides-eqb g n).1 eg))
    ∙ ap₂ (λ h k. meets S h k (length (spine_of u))) (sym et) (sym eu)

-- iota takes its step where the constructor has all its arguments
some-cond-test : {A : Type 0} (test : Bool) (o : Option A) → (test ≡ true → is_some o ≡ true) → is_some (cond test o None) ≡ test
some-cond-test true o h = h refl
some-cond-test false o h = refl

method-some : (n m number : ℕ) (f : Family) (c : Constructor) (us ps rest : List Term) → number < length f.constructors → 1 + (length f.constructors + length f.indices) ≤ length rest
    → is_some (method_applied n m f number c us ps rest) ≡ true
method-some n m number f c us ps [] h k = absurd (omega arith)
method-some n m number f c us ps (P ∷ rest) h k =
    let found = slice_get-get_or (take (length f.constructors) rest) number P (omega (arith, length-take (length f.constructors) rest)) in
    rw found refl

iota-some : (S : Signature) (n m number : ℕ) (f : Family) (args us : List Term) → fills args (Some f) ≡ true
    → is_some (option_and_then (iota_at n m f args number us) (slice_get f.constructors number)) ≡ family_takes number (length us) (Some f)
iota-some S n m number f args us full = by_case (slice_get f.constructors number) refl
  where
    by_case : (o : Option Constructor) → slice_get f.constructors number ≡ o → is_some (option_and_then (iota_at n m f args number us) o) ≡ constructor_takes (length f.parameters) (length us) o
    by_case None e = refl
    by_case (Some c) e =
        let within = slice_get_within f.constructors number c e in
        let all = (Decides-eqb (length args) (length f.parameters + (1 + (length f.constructors + length f.indices)))).0 full in
        some-cond-test (length us == length f.parameters + length c.arguments) _ (λ test.
        method-some n m number f c (drop (length f.parameters) us) (take (length f.parameters) args) (drop (length f.parameters) args) within
        (omega (arith, length-drop (length f.parameters) args)))

none-test : {A : Type 0} (test : Bool) (o : Option A) (answer : Bool) → is_some o ≡ answer → is_some (cond test o None) ≡ (test && answer)
none-test true o answer h = h
none-test false o answer h = refl

third-there : (args : List Term) → length args ≡ 4 → is_some (slice_get args 3) ≡ true
third-there args e = by_case (slice_get args 3) refl
  where
    by_case : (o : Option Term) → slice_get args 3 ≡ o → is_some o ≡ true
    by_case (Some x) k = refl
    by_case None k = absurd (grind (arith, slice_get-get_or args 3 (Sort 0) (omega arith)))

eliminator-contracts : (S : Signature) (n m : ℕ) (args : List Term) (k : Term) (us : List Term) (o : Option Family) → fills args o ≡ true → family_at S n ≡ o
    → is_some (option_and_then (iota_step n m args k us) o) ≡ meets S (Elim n m) k (length us)
eliminator-contracts S n m args k us None full e = absurd (grind arith)
eliminator-contracts S n m args (Con g number) us (Some f) full e =
    none-test (g == n) _ _ (iota-some S n m number f args us full) ∙ ap (λ o. (g == n) && family_takes number (length us) o) (sym e)
eliminator-contracts S n m args (Var x) us (Some f) full e = refl
eliminator-contracts S n m args _ us (Some f) full e = refl

k-contracts : (S : Signature) (i m : ℕ) (args : List Term) (k : Term) (us : List Term) → length args ≡ 4 → is_some (k_step i args k us) ≡ meets S (AxiomK i m) k (length us)
k-contracts S i m args (Con g number) us four =
    some-cond-test ((g == equality i) && ((number == 0) && (length us == 2))) (slice_get args 3) (λ test. third-there args four)
k-contracts S i m args (Var x) us four = refl
k-contracts S i m args _ us four = refl

contracts-where : (S : Signature) (h : Term) (args : List Term) (k : Term) (us : List Term) → awaits_scrutinee S h args ≡ true
    → is_some (contraction S h args k us) ≡ meets S h k (length us)
contracts-where S (Elim n m) args k us full = eliminator-contracts S n m args k us (family_at S n) full refl
contracts-where S (AxiomK i m) args k us full =
    k-contracts S i m args k us ((Decides-eqb (length args) 4).0 (both-true (has_k_at S i) (length args == 4) full).1)
contracts-where S (Var x) args k us full = absurd (grind arith)
contracts-where S _ args k us full = absurd (grind arith)

first-some : (one other : Option Term) → is_some (first_of one other) ≡ (is_some one || is_some other)
first-some (Some t) other = refl
first-some None other = refl

beta-some : (f u : Term) → is_some (beta_step f u) ≡ is_function f
beta-some (Lam a b) u = refl
beta-some (Var x) u = refl
beta-some _ u = refl

scrutinee-some : (f : Term) (inner contracted : Option Term) → is_some (scrutinee_step f inner contracted) ≡ (is_some inner || is_some contracted)
scrutinee-some f (Some u) contracted = refl
scrutinee-some f None contracted = refl

cond-and : {A : Type 0} (test : Bool) (o : Option A) (answer : Bool) → (test ≡ true → is_some o ≡ answer) → is_some (cond test o None) ≡ (test && answer)
cond-and true o answer h = h refl
cond-and false o answer h = refl

application-some : (S : Signature) (f u : Term) (outer inner : Option Term) → is_some (application_step S f u outer inner)
    ≡ (is_some outer || (is_function f || (awaits_scrutinee S (head_of f) (spine_of f) && (is_some inner || meets S (head_of f) (head_of u) (length (spine_of u))))))
application-some S f u (Some g) inner = refl
application-some S f u None inner =
    first-some (beta_step f u) (elimination_step S f u inner)
    ∙ ap₂ ◌||◌ (beta-some f u)
    (cond-and (awaits_scrutinee S (head_of f) (spine_of f)) _ _ (λ full.
    scrutinee-some f inner (contraction S (head_of f) (spine_of f) (head_of u) (spine_of u))
    ∙ ap (λ b. is_some inner || b) (contracts-where S (head_of f) (spine_of f) (head_of u) (spine_of u) full)))

-- whether an application takes a step
pub application_tested : (S : Signature) (delta : Bool) (f u : Term) → is_some (step_of S delta (App f u))
    ≡ (is_some (step_of S delta f) || (is_function f || (awaits_scrutinee S (head_of f) (spine_of f) && (is_some (step_of S delta u) || meets S (head_of f) (head_of u) (length (spine_of u))))))
application_tested S delta f u = application-some S f u (step_of S delta f) (step_of S delta u)
