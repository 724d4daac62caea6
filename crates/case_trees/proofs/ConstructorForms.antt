-- Terms whose head form is a constructor with all its arguments: instances of them, terms that reach them, normal forms, and terms
-- that are found convertible to a constructor.
use Rattle.std.proofs.Common.{◌≡◌, ℕ, zero, suc, ◌+◌, ◌==◌, ◌&&◌, Bool, true, false, cond, Option, Some, None, option_and_then, Result, Ok, Err, IfOk, [], ◌∷◌, length, take, drop, slice_get, refl, sym, ap, ap₂, ◌∙◌, subst as transport, arith}
use Rattle.std.proofs.lemmas.Bool.{false≢true}
use Rattle.std.proofs.lemmas.Bool.Decides.{nat_tests}
use Rattle.std.proofs.lemmas.List.{length-append}
use Rattle.theory.specs.Terms.{Term, Var, Sort, Pi, Lam, App, Let, Const, Fam, Con, Elim, AxiomK}
use Rattle.theory.specs.Substitutions.{inst}
use Rattle.theory.specs.Spines.{head_of, spine_of}
use Rattle.theory.specs.Families.{Family, Constructor}
use Rattle.theory.specs.Signatures.{Signature, HasClosedBodies}
use Rattle.core_terms.specs.Answers.{Spent, is_low}
use Rattle.core_terms.specs.declared.stop.Stop.{Stop}
use Rattle.core_terms.proofs.Answers.{bounded-has}
use Rattle.kernel_reduce.specs.Comparison.{same, second_if, heads_convertible, unless_same, on_heads, convertible_of}
use Rattle.kernel_reduce.specs.Entries.{family_at}
use Rattle.kernel_reduce.specs.Reduction.{charge, whnf_of, normal_children, normal_of}
use Rattle.kernel_reduce.specs.Steps.{application_step, step_of}
use Rattle.kernel_reduce.proofs.ComparisonLaws.{same-tells}
use Rattle.unification.specs.Built.{Built, with_all, with_spine, built_of}
use Rattle.unification.proofs.Constructors.{found, instance_of, built-instance}
use Rattle.unification.proofs.SpentUnits.{any-answer}
use Rattle.case_trees.specs.HeadSteps.{Reaches, here, more, HeadForm, HasConstructor}
use Rattle.case_trees.proofs.Answered.{and_next-ok}
use Rattle.case_trees.proofs.HeadForms.{no-step, if_low-ok, rests-itself, built-rests}
use Rattle.case_trees.proofs.HeadChains.{whnf-form, one-form, built-form, form-stays}

-- a constructor with all its arguments is its own head form
pub built-has : (S : Signature) (t : Term) (b : Built) → built_of S t ≡ Some b → HasConstructor S b.n b.number t
built-has S t b e = record { form = t; head = built-form S t b e; built = b; found = e; family = refl; constructor = refl }

-- whatever is put for the variables of a term, its constructor stays
pub constructor-stays : (S : Signature) (s : ℕ → Term) → HasClosedBodies S → (n number : ℕ) (t : Term) → HasConstructor S n number t
    → HasConstructor S n number (inst s t)
constructor-stays S s closed n number t h =
    record {
      form = inst s h.form;
      head = form-stays S s closed t h.form h.built h.head h.found;
      built = instance_of s h.built;
      found = built-instance S s h.form h.built h.found;
      family = h.family;
      constructor = h.constructor;
    }

chain-then : (S : Signature) (t u w : Term) → Reaches S t u → Reaches S u w → Reaches S t w
chain-then S _ _ w (here t) rest = rest
chain-then S _ _ w (more t u v e first) rest = more t u w e (chain-then S u v w first rest)

-- a term that reaches one with the constructor
pub constructor-reached : (S : Signature) (n number : ℕ) (t u : Term) → Reaches S t u → HasConstructor S n number u → HasConstructor S n number t
constructor-reached S n number t u reaches h =
    record {
      form = h.form;
      head = record { reaches = chain-then S t u h.form reaches h.head.reaches; rests = h.head.rests };
      built = h.built;
      found = h.found;
      family = h.family;
      constructor = h.constructor;
    }

-- it takes no head step, so it reaches nothing else
pub built-reached : (S : Signature) (t u : Term) (b : Built) → built_of S t ≡ Some b → Reaches S t u → built_of S u ≡ Some b
built-reached S _ _ b e (here t) = e
built-reached S _ _ b e (more t u w step rest) = absurd (grind (arith, sym step ∙ built-rests S true t b e))

-- a head form is the constructor
pub constructor-form : (S : Signature) (n number : ℕ) (t w : Term) → HasConstructor S n number t → HeadForm S t w
    → (b : Built) × ((built_of S w ≡ Some b) × ((b.n ≡ n) × (b.number ≡ number)))
constructor-form S n number t w h form =
    (h.built, (ap (built_of S) (one-form S t w h.form form h.head) ∙ h.found, (h.family, h.constructor)))

-- ---- the head and the number of the arguments

-- a term with the head of another one, at as many arguments
pub record IsAlike (t u : Term) : Type 0 where
  pub head : head_of u ≡ head_of t
  pub count : length (spine_of u) ≡ length (spine_of t)

-- a constructor of the signature with all its arguments
pub built-at : (S : Signature) (t : Term) (n number : ℕ) (f : Family) (c : Constructor) → head_of t ≡ Con n number → family_at S n ≡ Some f
    → slice_get f.constructors number ≡ Some c → length (spine_of t) ≡ length f.parameters + length c.arguments
    → (b : Built) × ((built_of S t ≡ Some b) × ((b.n ≡ n) × (b.number ≡ number)))
built-at S t n number f c head family constructor count =
    let us = spine_of t in
    let k = length f.parameters in
    let b : Built = record { n = n; number = number; family = f; constructor = c; parameters = take k us; arguments = drop k us } in
    let counted : (length us == k + length c.arguments) ≡ true = grind (arith, nat_tests, count) in (
      b,
      (
        ap (λ h. with_spine S h us) head
            ∙ (ap (option_and_then (λ f. option_and_then (with_all n number f us) (slice_get f.constructors number))) family
            ∙ (ap (option_and_then (with_all n number f us)) constructor ∙ ap (λ test. cond test (Some b) None) counted)),
        (refl, refl),
      ),
    )

-- where the other one is a constructor with all its arguments, it is that constructor too
pub alike-built : (S : Signature) (t u : Term) (b : Built) → built_of S t ≡ Some b → IsAlike t u
    → (d : Built) × ((built_of S u ≡ Some d) × ((d.n ≡ b.n) × (d.number ≡ b.number)))
alike-built S t u b e same =
    let is = found S t b e in
    built-at S u b.n b.number b.family b.constructor (same.head ∙ is.head) is.family is.constructor (same.count ∙ is.whole)

-- where the head of a is a constructor, the head form of b is alike
pub record HasAlike (S : Signature) (a b : Term) : Type 0 where
  pub form : Term
  pub head : HeadForm S b form
  pub alike : IsAlike a form

alike-constructor : (S : Signature) (a b : Term) (c : Built) → built_of S a ≡ Some c → HasAlike S a b → HasConstructor S c.n c.number b
alike-constructor S a b c e h =
    let (d, (is, (family, number))) = alike-built S a h.form c e h.alike in
    record { form = h.form; head = h.head; built = d; found = is; family = family; constructor = number }

alike-application : (f g a c : Term) → IsAlike f g → IsAlike (App f a) (App g c)
alike-application f g a c same =
    record {
      head = same.head;
      count = length-append (spine_of g) (c ∷ []) ∙ (ap (λ k. k + 1) same.count ∙ sym (length-append (spine_of f) (a ∷ [])));
    }

-- ---- normal forms

Normal : (S : Signature) → (room : ℕ) → Type 0
Normal S room =
    (t : Term) (n number left : ℕ) → head_of t ≡ Con n number → IfOk (normal_of S true room t left).0 (IsAlike t)

normal-application : (S : Signature) (room : ℕ) → Normal S room → (f a : Term) (n number left : ℕ) → head_of f ≡ Con n number
    → IfOk (normal_children (normal_of S true room) (App f a) left).0 (IsAlike (App f a))
unfolding Normal
normal-application S room go f a n number left e =
    and_next-ok (IsAlike f) (IsAlike (App f a)) (normal_of S true room f left) _ (go f n number left e) (λ g rest same.
    and_next-ok (λ c. Unit {0}) (IsAlike (App f a)) (normal_of S true room a rest) _ (any-answer (normal_of S true room a rest).0) (λ c end any.
    bounded-has (IsAlike (App f a)) (App g c) (λ low. alike-application f g a c same)))

normal-children : (S : Signature) (room : ℕ) → Normal S room → (t : Term) (n number left : ℕ) → head_of t ≡ Con n number
    → IfOk (normal_children (normal_of S true room) t left).0 (IsAlike t)
normal-children S room go (App f a) n number left e = normal-application S room go f a n number left e
normal-children S room go (Con m k) n number left e = record { head = refl; count = refl }
normal-children S room go (Var x) n number left e = absurd (grind arith)
normal-children S room go (Sort i) n number left e = absurd (grind arith)
normal-children S room go (Pi a b) n number left e = absurd (grind arith)
normal-children S room go (Lam a b) n number left e = absurd (grind arith)
normal-children S room go (Let a t b) n number left e = absurd (grind arith)
normal-children S room go (Const m) n number left e = absurd (grind arith)
normal-children S room go (Fam m) n number left e = absurd (grind arith)
normal-children S room go (Elim m k) n number left e = absurd (grind arith)
normal-children S room go (AxiomK i m) n number left e = absurd (grind arith)

normal-alike : (S : Signature) (room : ℕ) → Normal S room
unfolding Normal
normal-alike S zero = λ t n number left e. tt
normal-alike S (suc room) = λ t n number left e.
    and_next-ok (λ w. w ≡ t) (IsAlike t) (whnf_of S true left t) _ (rests-itself S true left t (no-step S true t n number e)) (λ w rest same.
    transport (λ u. IfOk (normal_children (normal_of S true room) u rest).0 (IsAlike t)) (sym same)
    (normal-children S room (normal-alike S room) t n number rest e))

-- the normal form of a constructor with all its arguments
pub normal-built : (S : Signature) (room : ℕ) (t : Term) (b : Built) (left : ℕ) → built_of S t ≡ Some b
    → IfOk (normal_of S true room t left).0 (HasConstructor S b.n b.number)
unfolding Normal
normal-built S room t b left e =
    by (normal_of S true room t left).0 (normal-alike S room t b.n b.number left (found S t b e).head)
  where
    by : (r : Result Term Stop) → IfOk r (IsAlike t) → IfOk r (HasConstructor S b.n b.number)
    by (Ok u) same =
        let (d, (is, (family, number))) = alike-built S t u b e same in
        record { form = u; head = built-form S u d is; built = d; found = is; family = family; constructor = number }
    by (Err e) h = tt

-- ---- comparison

-- a head of an application that rests takes no step
head-rests : (S : Signature) (g c : Term) → step_of S true (App g c) ≡ None → step_of S true g ≡ None
head-rests S g c rests = by (step_of S true g) refl
  where
    by : (o : Option Term) → step_of S true g ≡ o → o ≡ None
    by None e = refl
    by (Some h) e =
        let taken : step_of S true (App g c) ≡ Some (App h c) = ap (λ outer. application_step S g c outer (step_of S true c)) e in
        absurd (grind (arith, sym taken ∙ rests))

-- a term that takes no step is its own head form
rests-alike : (S : Signature) (f g : Term) → step_of S true g ≡ None → HasAlike S f g → IsAlike f g
rests-alike S f g rests h =
    transport (IsAlike f) (one-form S g h.form g h.head (record { reaches = here g; rests = rests })) h.alike

Compared : (S : Signature) → (room : ℕ) → Type 0
Compared S room =
    (a b : Term) (n number left : ℕ) → head_of a ≡ Con n number → IfOk (convertible_of S room a b left).0 (λ holds. holds ≡ true → HasAlike S a b)

applications-compared : (S : Signature) (room : ℕ) → Compared S room → (f a g c : Term) (n number left : ℕ) → head_of f ≡ Con n number
    → step_of S true (App g c) ≡ None
    → IfOk (heads_convertible (convertible_of S room) (App f a) (App g c) left).0 (λ holds. holds ≡ true → IsAlike (App f a) (App g c))
unfolding Compared
applications-compared S room go f a g c n number left e rests =
    and_next-ok (λ holds. holds ≡ true → HasAlike S f g) (λ holds. holds ≡ true → IsAlike (App f a) (App g c)) (convertible_of S room f g left) _
    (go f g n number left e) (λ holds rest same. by holds rest same)
  where
    second : (rest : ℕ) → HasAlike S f g → (r : Result Bool Stop) → IfOk r (λ holds. holds ≡ true → IsAlike (App f a) (App g c))
    second rest same (Ok holds) = λ yes. alike-application f g a c (rests-alike S f g (head-rests S g c rests) same)
    second rest same (Err e) = tt

    by : (holds : Bool) (rest : ℕ) → (holds ≡ true → HasAlike S f g)
        → IfOk (second_if holds (convertible_of S room a c) rest).0 (λ holds. holds ≡ true → IsAlike (App f a) (App g c))
    by true rest same = second rest (same refl) (convertible_of S room a c rest).0
    by false rest same = λ no. absurd (false≢true no)

heads-compared : (S : Signature) (room : ℕ) → Compared S room → (a d : Term) (n number left : ℕ) → head_of a ≡ Con n number → step_of S true d ≡ None
    → IfOk (heads_convertible (convertible_of S room) a d left).0 (λ holds. holds ≡ true → IsAlike a d)
heads-compared S room go (App f a) (App g c) n number left e rests = applications-compared S room go f a g c n number left e rests
heads-compared S room go (App f a) (Var x) n number left e rests = λ no. absurd (false≢true no)
heads-compared S room go (App f a) (Sort i) n number left e rests = λ no. absurd (false≢true no)
heads-compared S room go (App f a) (Pi c d) n number left e rests = λ no. absurd (false≢true no)
heads-compared S room go (App f a) (Lam c d) n number left e rests = λ no. absurd (false≢true no)
heads-compared S room go (App f a) (Let c t d) n number left e rests = λ no. absurd (false≢true no)
heads-compared S room go (App f a) (Const m) n number left e rests = λ no. absurd (false≢true no)
heads-compared S room go (App f a) (Fam m) n number left e rests = λ no. absurd (false≢true no)
heads-compared S room go (App f a) (Con m k) n number left e rests = λ no. absurd (false≢true no)
heads-compared S room go (App f a) (Elim m k) n number left e rests = λ no. absurd (false≢true no)
heads-compared S room go (App f a) (AxiomK i m) n number left e rests = λ no. absurd (false≢true no)
heads-compared S room go (Con m k) (Con g l) n number left e rests = λ yes.
    let family : m ≡ g = grind (arith, nat_tests, yes) in
    let constructor : k ≡ l = grind (arith, nat_tests, yes) in
    record { head = sym (ap₂ Con family constructor); count = refl }
heads-compared S room go (Con m k) (App g c) n number left e rests = λ no. absurd (false≢true no)
heads-compared S room go (Con m k) (Var x) n number left e rests = λ no. absurd (false≢true no)
heads-compared S room go (Con m k) (Sort i) n number left e rests = λ no. absurd (false≢true no)
heads-compared S room go (Con m k) (Pi c d) n number left e rests = λ no. absurd (false≢true no)
heads-compared S room go (Con m k) (Lam c d) n number left e rests = λ no. absurd (false≢true no)
heads-compared S room go (Con m k) (Let c t d) n number left e rests = λ no. absurd (false≢true no)
heads-compared S room go (Con m k) (Const g) n number left e rests = λ no. absurd (false≢true no)
heads-compared S room go (Con m k) (Fam g) n number left e rests = λ no. absurd (false≢true no)
heads-compared S room go (Con m k) (Elim g l) n number left e rests = λ no. absurd (false≢true no)
heads-compared S room go (Con m k) (AxiomK i g) n number left e rests = λ no. absurd (false≢true no)
heads-compared S room go (Var x) d n number left e rests = absurd (grind arith)
heads-compared S room go (Sort i) d n number left e rests = absurd (grind arith)
heads-compared S room go (Pi a b) d n number left e rests = absurd (grind arith)
heads-compared S room go (Lam a b) d n number left e rests = absurd (grind arith)
heads-compared S room go (Let a t b) d n number left e rests = absurd (grind arith)
heads-compared S room go (Const m) d n number left e rests = absurd (grind arith)
heads-compared S room go (Fam m) d n number left e rests = absurd (grind arith)
heads-compared S room go (Elim m k) d n number left e rests = absurd (grind arith)
heads-compared S room go (AxiomK i m) d n number left e rests = absurd (grind arith)

charge-ok : {A : Type 0} (P : A → Type 0) (next : ℕ → Spent A) (left : ℕ) → ((rest : ℕ) → IfOk (next rest).0 P) → IfOk (charge next left).0 P
charge-ok P next zero h = tt
charge-ok P next (suc left) h = h left

compared-alike : (S : Signature) (room : ℕ) → Compared S room
unfolding Compared
compared-alike S zero = λ a b n number left e. tt
compared-alike S (suc room) = λ a b n number left e.
    if_low-ok (λ holds. holds ≡ true → HasAlike S a b) (is_low a && is_low b) _ left
    (charge-ok (λ holds. holds ≡ true → HasAlike S a b) _ left (λ rest. by (compared-alike S room) a b n number rest e (same a b) refl))
  where
    reduced : Compared S room → (a b : Term) (n number left : ℕ) → head_of a ≡ Con n number
        → IfOk (on_heads S a b (heads_convertible (convertible_of S room)) left).0 (λ holds. holds ≡ true → HasAlike S a b)
    reduced go a b n number left e =
        and_next-ok (λ w. w ≡ a) (λ holds. holds ≡ true → HasAlike S a b) (whnf_of S true left a) _
        (rests-itself S true left a (no-step S true a n number e)) (λ w rest is.
        and_next-ok (HeadForm S b) (λ holds. holds ≡ true → HasAlike S a b) (whnf_of S true rest b) _ (whnf-form S rest b) (λ d end form.
        transport (λ u. IfOk (heads_convertible (convertible_of S room) u d end).0 (λ holds. holds ≡ true → HasAlike S a b)) (sym is)
        (there d form (heads_convertible (convertible_of S room) a d end).0
        (heads-compared S room go a d n number end e form.rests))))
      where
        there : (d : Term) → HeadForm S b d → (r : Result Bool Stop) → IfOk r (λ holds. holds ≡ true → IsAlike a d)
            → IfOk r (λ holds. holds ≡ true → HasAlike S a b)
        there d form (Ok holds) h = λ yes. record { form = d; head = form; alike = h yes }
        there d form (Err e) h = tt

    by : Compared S room → (a b : Term) (n number left : ℕ) → head_of a ≡ Con n number → (test : Bool) → same a b ≡ test
        → IfOk (unless_same test (on_heads S a b (heads_convertible (convertible_of S room))) left).0 (λ holds. holds ≡ true → HasAlike S a b)
    by go a b n number left e true equal = λ yes.
        transport (HasAlike S a) (same-tells a b equal)
        (record { form = a; head = record { reaches = here a; rests = no-step S true a n number e }; alike = record { head = refl; count = refl } })
    by go a b n number left e false other = reduced go a b n number left e

-- a term that is found convertible to a constructor with all its arguments has that constructor
pub convertible-has : (S : Signature) (room : ℕ) (a b : Term) (c : Built) (left : ℕ) → built_of S a ≡ Some c
    → IfOk (convertible_of S room a b left).0 (λ holds. holds ≡ true → HasConstructor S c.n c.number b)
unfolding Compared
convertible-has S room a b c left e =
    by (convertible_of S room a b left).0 (compared-alike S room a b c.n c.number left (found S a c e).head)
  where
    by : (r : Result Bool Stop) → IfOk r (λ holds. holds ≡ true → HasAlike S a b) → IfOk r (λ holds. holds ≡ true → HasConstructor S c.n c.number b)
    by (Ok holds) h = λ yes. alike-constructor S a b c e (h yes)
    by (Err d) h = tt
