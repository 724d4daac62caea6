-- An eliminator that meets its scrutinee: what is there then, and the contraction in the form in which the code makes it.
use Rattle.std.proofs.Common.{◌≡◌, ℕ, ◌+◌, ◌-◌, ◌≤◌, true, false, ◌==◌, cond, Option, Some, None, option_and_then, option_map, unwrap_or, List, [], ◌∷◌, ◌++◌, length, map, take, drop, get_or, slice_get, refl, sym, ap, ap₂, ◌∙◌, subst as transport, arith}
use Rattle.std.proofs.lemmas.Bool.Decides.{Decides-eqb}
use Rattle.std.proofs.lemmas.List.{length-append, length-map}
use Rattle.std.proofs.lemmas.Option.{same_Some}
use Rattle.theory.specs.Terms.{Term, height}
use Rattle.theory.specs.Terms.Term.{Var, Sort, App, Con, Elim, AxiomK}
use Rattle.theory.specs.Spines.{head_of, spine_of}
use Rattle.theory.specs.Signatures.{Signature}
use Rattle.theory.specs.Telescopes.{applied}
use Rattle.theory.proofs.Lists.{slice_get-last}
use Rattle.core_terms.specs.Meanings.{tree_of}
use Rattle.core_sig.specs.Meanings.{argument_of, constructor_of, family_of}
use Rattle.core_sig.specs.declared.family.Arg.{Arg}
use Rattle.core_sig.specs.declared.family.Constructor.{Constructor}
use Rattle.core_sig.specs.declared.family.Family.{Family}
use Rattle.kernel_reduce.specs.Calls.{hypotheses_of, iota_made, HasAllArguments}
use Rattle.kernel_reduce.specs.Entries.{family_at}
use Rattle.kernel_reduce.specs.Identities.{has_k_at}
use Rattle.kernel_reduce.specs.Steps.{awaits_scrutinee, fills, iota_at, iota_step, k_step, contraction}
use Rattle.kernel_reduce.specs.Tests.{constructor_takes, family_takes, meets, eliminator_numbers, constructor_number}
use Rattle.kernel_reduce.proofs.Contractions.{has-all}
use Rattle.kernel_reduce.proofs.IotaForms.{iota-made}
use Rattle.kernel_reduce.proofs.StepLaws.{both-true}
use Rattle.store_reduce.specs.Forms.{contracted}
use Rattle.store_reduce.proofs.Standing.{constructors-at}

pub absent : {A : Type 0} (o : Option A) → ((x : A) → o ≡ Some x → ⊥) → None ≡ o
absent None other = refl
absent (Some x) other = absurd (other x refl)

meets-number : (S : Signature) (n m : ℕ) (k : Term) (count : ℕ) → meets S (Elim n m) k count ≡ true → None ≡ constructor_number k → ⊥
meets-number S n m (Con g number) count met e = absurd (grind arith)
meets-number S n m (Var x) count met e = absurd (grind arith)
meets-number S n m _ count met e = absurd (grind arith)

met-constructor : (S : Signature) (n m : ℕ) (k : Term) (count number : ℕ) → meets S (Elim n m) k count ≡ true → Some number ≡ constructor_number k
    → (k ≡ Con n number) × (family_takes number count (family_at S n) ≡ true)
met-constructor S n m (Con g c) count number met e =
    let parts = both-true (g == n) (family_takes c count (family_at S n)) met in
    let number-is : c ≡ number = sym (same_Some number c e) in
    (ap₂ Con ((Decides-eqb g n).0 parts.0) number-is, transport (λ x. family_takes x count (family_at S n) ≡ true) number-is parts.1)
met-constructor S n m (Var x) count number met e = absurd (grind arith)
met-constructor S n m _ count number met e = absurd (grind arith)

module _ (S : Signature) (t u : Term) (n m : ℕ) (awaits : awaits_scrutinee S (head_of t) (spine_of t) ≡ true)
    (met : meets S (head_of t) (head_of u) (length (spine_of u)) ≡ true) (eh : head_of t ≡ Elim n m) where
  pair : meets S (Elim n m) (head_of u) (length (spine_of u)) ≡ true
  pair = transport (λ h. meets S h (head_of u) (length (spine_of u)) ≡ true) eh met

  full : fills (spine_of t) (family_at S n) ≡ true
  full = transport (λ h. awaits_scrutinee S h (spine_of t) ≡ true) eh awaits

  -- the scrutinee has a constructor at its head
  pub has-number : None ≡ constructor_number (head_of u) → ⊥
  has-number e = meets-number S n m (head_of u) (length (spine_of u)) pair e

  -- the family is there
  pub has-family : None ≡ family_at S n → ⊥
  has-family e = let h = transport (λ o. fills (spine_of t) o ≡ true) (sym e) full in grind (arith, h)

  module _ (number : ℕ) (f : Family) (ek : Some number ≡ constructor_number (head_of u)) (ef : Some (family_of f) ≡ family_at S n) where
    takes-number : (head_of u ≡ Con n number) × (family_takes number (length (spine_of u)) (Some (family_of f)) ≡ true)
    takes-number =
        let parts = met-constructor S n m (head_of u) (length (spine_of u)) number pair ek in
        (parts.0, transport (λ o. family_takes number (length (spine_of u)) o ≡ true) (sym ef) parts.1)

    -- and so is the constructor
    pub has-constructor : None ≡ slice_get f.cons number → ⊥
    has-constructor e =
        let there : slice_get (family_of f).constructors number ≡ None = constructors-at f number ∙ ap (option_map (constructor_of (length f.params))) (sym e) in
        let h = transport (λ o. constructor_takes (length (family_of f).parameters) (length (spine_of u)) o ≡ true) there takes-number.1 in
        grind (arith, h)

    -- there are as many arguments as the eliminator takes
    pub arguments-exact : length (spine_of t) ≡ length f.params + (1 + (length f.cons + length f.indices))
    arguments-exact =
        let h = transport (λ o. fills (spine_of t) o ≡ true) (sym ef) full in
        let whole = (Decides-eqb (length (spine_of t)) (length (family_of f).parameters + (1 + (length (family_of f).constructors + length (family_of f).indices)))).0 h in
        let shape : Arg → Term × ℕ = λ i. (tree_of i.ty, i.level) in
        let indices : length (family_of f).indices ≡ length f.indices = length-map f.indices shape in
        omega (arith, whole, length-map f.params tree_of, length-map f.cons (constructor_of (length f.params)), indices)

    module _ (c : Constructor) (at : slice_get f.cons number ≡ Some c) where
      constructor-found : slice_get (family_of f).constructors number ≡ Some (constructor_of (length f.params) c)
      constructor-found = constructors-at f number ∙ ap (option_map (constructor_of (length f.params))) at

      -- the eliminator and the constructor have all their arguments
      pub arguments-all : height t ≤ 2000 → HasAllArguments f c number (spine_of t) (spine_of u)
      arguments-all low = has-all S t u n m number f c (spine_of t) (spine_of u) (ap eliminator_numbers (sym eh)) ek ef at awaits met low refl refl

      params : length (family_of f).parameters ≡ length f.params
      params = length-map f.params tree_of

      cons : length (family_of f).constructors ≡ length f.cons
      cons = length-map f.cons (constructor_of (length f.params))

      -- and the contraction is the right side of iota
      pub contracted-is : height t ≤ 2000 → iota_made n m (length f.params) (length f.cons) number (spine_of t) (spine_of u) c.args ≡ contracted S t u
      unfolding contracted
      contracted-is low =
          let all = arguments-all low in
          let made = iota-made n m number (family_of f) (constructor_of (length f.params) c) (spine_of t) (spine_of u) c.args
          (omega (arith, all.number_low, cons)) (omega (arith, all.args_long, params, cons))
          (omega (arith, all.us_all, params, length-map c.args (argument_of (length f.params)))) (ap (λ p. map (argument_of p) c.args) (sym params))
          (omega (arith, all.args_few, all.args_long, params)) in
          sym (
          ap (λ o. unwrap_or o (Sort 0))
          (ap₂ (λ h k. contraction S h (spine_of t) k (spine_of u)) eh takes-number.0
          ∙ (ap (option_and_then (iota_step n m (spine_of t) (Con n number) (spine_of u))) (sym ef)
          ∙ (ap (λ b. cond b (option_and_then (iota_at n m (family_of f) (spine_of t) number (spine_of u)) (slice_get (family_of f).constructors number)) None) ((Decides-eqb n n).1 refl)
          ∙ (ap (option_and_then (iota_at n m (family_of f) (spine_of t) number (spine_of u))) constructor-found ∙ made))))
          ∙ ap₂ (λ p q. iota_made n m p q number (spine_of t) (spine_of u) c.args) params cons
          )

-- the right side of iota by the lists of arguments
pub iota-is : (n m p k constructors indices count number at : ℕ) (t u recursor : Term) (args us : List Term) (codes codes' : List Arg) → k ≡ p → count ≡ indices → at ≡ p + (1 + number)
    → head_of t ≡ Elim n m → length (spine_of t) ≡ p + (1 + (constructors + indices))
    → recursor ≡ applied (head_of t) (take (length (spine_of t) - count) (spine_of t)) → args ≡ spine_of t → us ≡ spine_of u → codes ≡ codes'
    → applied (applied (get_or args at (Sort 0)) (drop k us)) (hypotheses_of (take k args ++ drop k us) k recursor k codes)
    ≡ iota_made n m p constructors number (spine_of t) (spine_of u) codes'
iota-is n m p k constructors indices count number at t u recursor args us codes codes' ek ec en eh whole is ea eu ed =
    let left : length (spine_of t) - count ≡ p + (1 + constructors) = omega arith in
    let r : recursor ≡ applied (Elim n m) (take (p + (1 + constructors)) (spine_of t)) = is ∙ ap₂ (λ h c. applied h (take c (spine_of t))) eh left in
    (λ i. applied (applied (get_or (ea i) (en i) (Sort 0)) (drop (ek i) (eu i))) (hypotheses_of (take (ek i) (ea i) ++ drop (ek i) (eu i)) (ek i) (r i) (ek i) (ed i)))

-- a term that awaits a scrutinee, is no eliminator and meets it: K gives its last argument
module _ (S : Signature) (u : Term) where
  at-reflexivity : (i m : ℕ) (args : List Term) (a k : Term) → slice_get args 3 ≡ Some a → meets S (AxiomK i m) k (length (spine_of u)) ≡ true → k_step i args k (spine_of u) ≡ Some a
  at-reflexivity i m args a (Con g number) there met = ap (λ b. cond b (slice_get args 3) None) met ∙ there
  at-reflexivity i m args a (Var x) there met = absurd (grind arith)
  at-reflexivity i m args a _ there met = absurd (grind arith)

  at-application : (h : Term) (us : List Term) (a : Term) → None ≡ eliminator_numbers h → awaits_scrutinee S h (us ++ a ∷ []) ≡ true → meets S h (head_of u) (length (spine_of u)) ≡ true
      → contraction S h (us ++ a ∷ []) (head_of u) (spine_of u) ≡ Some a
  at-application (AxiomK i m) us a none awaits met =
      let count = (Decides-eqb (length (us ++ a ∷ [])) 4).0 (both-true (has_k_at S i) (length (us ++ a ∷ []) == 4) awaits).1 in
      let three : length us ≡ 3 = omega (arith, count, length-append us (a ∷ [])) in
      at-reflexivity i m (us ++ a ∷ []) a (head_of u) (ap (slice_get (us ++ a ∷ [])) (sym three) ∙ slice_get-last us a) met
  at-application (Elim n m) us a none awaits met = absurd (grind arith)
  at-application (Var x) us a none awaits met = absurd (grind arith)
  at-application _ us a none awaits met = absurd (grind arith)

  pub contracted-last : (t r : Term) → None ≡ eliminator_numbers (head_of t) → awaits_scrutinee S (head_of t) (spine_of t) ≡ true → meets S (head_of t) (head_of u) (length (spine_of u)) ≡ true
      → ((g a : Term) → t ≡ App g a → r ≡ a) → r ≡ contracted S t u
  unfolding contracted
  contracted-last (App f a) r none awaits met last =
      last f a refl ∙ sym (ap (λ o. unwrap_or o (Sort 0)) (at-application (head_of f) (spine_of f) a none awaits met))
  contracted-last (AxiomK i m) r none awaits met last = let h = (both-true (has_k_at S i) false awaits).1 in absurd (grind (arith, h))
  contracted-last (Elim n m) r none awaits met last = absurd (grind arith)
  contracted-last (Var x) r none awaits met last = absurd (grind arith)
  contracted-last _ r none awaits met last = absurd (grind arith)
