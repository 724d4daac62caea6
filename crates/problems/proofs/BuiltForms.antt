-- A constructor with all its arguments: how one is found in a term, and the consequences for the term.
use Rattle.std.proofs.Common.{◌≡◌, ◌≢◌, ℕ, ◌+◌, Bool, true, false, cond, ◌==◌, Option, Some, None, option_and_then, List, length, take, drop, slice_get, refl, ap, ◌∙◌, subst, arith}
use Rattle.std.proofs.lemmas.Bool.Decides.{nat_tests}
use Rattle.theory.specs.Terms.{Term, Var, Con}
use Rattle.theory.specs.Terms.Term.{Sort, Pi, Lam, App, Let, Const, Fam, Elim, AxiomK}
use Rattle.theory.specs.Spines.{head_of, spine_of}
use Rattle.theory.specs.Families.{Family, Constructor}
use Rattle.theory.specs.Signatures.{Signature}
use Rattle.kernel_reduce.specs.Entries.{family_at}
use Rattle.unification.specs.Built.{Built, built_of, with_all, with_spine}
use Rattle.unification.specs.Solutions.{variable_in}

-- ---- constructors that are found

module _ (S : Signature) (t : Term) (n number : ℕ) (head : head_of t ≡ Con n number) where
  at-head : built_of S t ≡ option_and_then (λ f. option_and_then (with_all n number f (spine_of t)) (slice_get f.constructors number)) (family_at S n)
  at-head = ap (λ h. with_spine S h (spine_of t)) head

  at-family : (f : Family) → family_at S n ≡ Some f → built_of S t ≡ option_and_then (with_all n number f (spine_of t)) (slice_get f.constructors number)
  at-family f e = at-head ∙ ap (option_and_then (λ f. option_and_then (with_all n number f (spine_of t)) (slice_get f.constructors number))) e

  at-constructor : (f : Family) (c : Constructor) → family_at S n ≡ Some f → slice_get f.constructors number ≡ Some c → built_of S t ≡ with_all n number f (spine_of t) c
  at-constructor f c e there = at-family f e ∙ ap (option_and_then (with_all n number f (spine_of t))) there

  if-all : (f : Family) (c : Constructor) (b : Bool) → (length (spine_of t) == length f.parameters + length c.arguments) ≡ b
      → with_all n number f (spine_of t) c ≡ cond b (Some (record { n = n; number = number; family = f; constructor = c; parameters = take (length f.parameters) (spine_of t); arguments = drop (length f.parameters) (spine_of t) })) None
  if-all f c b e = ap (λ b. cond b (Some (record { n = n; number = number; family = f; constructor = c; parameters = take (length f.parameters) (spine_of t); arguments = drop (length f.parameters) (spine_of t) })) None) e

  pub some_arguments : (f : Family) (c : Constructor) → family_at S n ≡ Some f → slice_get f.constructors number ≡ Some c
      → length (spine_of t) ≢ length f.parameters + length c.arguments → built_of S t ≡ None
  some_arguments f c e there few = at-constructor f c e there ∙ if-all f c false (grind (arith, nat_tests))

  pub all_arguments : (f : Family) (c : Constructor) → family_at S n ≡ Some f → slice_get f.constructors number ≡ Some c
      → length (spine_of t) ≡ length f.parameters + length c.arguments
      → built_of S t ≡ Some (record { n = n; number = number; family = f; constructor = c; parameters = take (length f.parameters) (spine_of t); arguments = drop (length f.parameters) (spine_of t) })
  all_arguments f c e there all = at-constructor f c e there ∙ if-all f c true (grind (arith, nat_tests))

-- ---- consequences

-- the constructor that a term is
pub record IsIn (S : Signature) (t : Term) (b : Built) : Type 0 where
  pub head : head_of t ≡ Con b.n b.number
  pub family : family_at S b.n ≡ Some b.family
  pub constructor : slice_get b.family.constructors b.number ≡ Some b.constructor
  pub all : length (spine_of t) ≡ length b.family.parameters + length b.constructor.arguments
  pub parameters : b.parameters ≡ take (length b.family.parameters) (spine_of t)
  pub arguments : b.arguments ≡ drop (length b.family.parameters) (spine_of t)

record HasAll (n number : ℕ) (f : Family) (c : Constructor) (us : List Term) (b : Built) : Type 0 where
  count : length us ≡ length f.parameters + length c.arguments
  is : record { n = n; number = number; family = f; constructor = c; parameters = take (length f.parameters) us; arguments = drop (length f.parameters) us } ≡ b

has-all : (n number : ℕ) (f : Family) (c : Constructor) (us : List Term) (b : Built) → with_all n number f us c ≡ Some b → HasAll n number f c us b
has-all n number f c us b e = go (length us == length f.parameters + length c.arguments) refl e
  where
    go : (test : Bool) → (length us == length f.parameters + length c.arguments) ≡ test
        → cond test (Some (record { n = n; number = number; family = f; constructor = c; parameters = take (length f.parameters) us; arguments = drop (length f.parameters) us })) None ≡ Some b
        → HasAll n number f c us b
    go true h k = record { count = grind (arith, nat_tests); is = cc }
    go false h k = absurd (cc)

from-all : (S : Signature) (t : Term) (n number : ℕ) (f : Family) (c : Constructor) (b : Built) → head_of t ≡ Con n number → family_at S n ≡ Some f → slice_get f.constructors number ≡ Some c
    → HasAll n number f c (spine_of t) b → IsIn S t b
from-all S t n number f c b head family there h =
    subst (IsIn S t) h.is
    (record { head = head; family = family; constructor = there; all = h.count; parameters = refl; arguments = refl })

from-constructor : (S : Signature) (t : Term) (n number : ℕ) (f : Family) (b : Built) (o : Option Constructor) → head_of t ≡ Con n number → family_at S n ≡ Some f → slice_get f.constructors number ≡ o
    → option_and_then (with_all n number f (spine_of t)) o ≡ Some b → IsIn S t b
from-constructor S t n number f b None head family there e = absurd (cc)
from-constructor S t n number f b (Some c) head family there e =
    from-all S t n number f c b head family there (has-all n number f c (spine_of t) b e)

from-family : (S : Signature) (t : Term) (n number : ℕ) (b : Built) (o : Option Family) → head_of t ≡ Con n number → family_at S n ≡ o
    → option_and_then (λ f. option_and_then (with_all n number f (spine_of t)) (slice_get f.constructors number)) o ≡ Some b → IsIn S t b
from-family S t n number b None head family e = absurd (cc)
from-family S t n number b (Some f) head family e =
    from-constructor S t n number f b (slice_get f.constructors number) head family refl e

from-head : (S : Signature) (t : Term) (b : Built) (h : Term) → head_of t ≡ h → with_spine S h (spine_of t) ≡ Some b → IsIn S t b
from-head S t b (Con n number) head e = from-family S t n number b (family_at S n) head refl e
from-head S t b (Var x) head e = absurd (cc)
from-head S t b (Sort i) head e = absurd (cc)
from-head S t b (Pi a c) head e = absurd (cc)
from-head S t b (Lam a c) head e = absurd (cc)
from-head S t b (App f a) head e = absurd (cc)
from-head S t b (Let a u c) head e = absurd (cc)
from-head S t b (Const c) head e = absurd (cc)
from-head S t b (Fam f) head e = absurd (cc)
from-head S t b (Elim f m) head e = absurd (cc)
from-head S t b (AxiomK i m) head e = absurd (cc)

pub built-is : (S : Signature) (t : Term) (b : Built) → built_of S t ≡ Some b → IsIn S t b
built-is S t b e = from-head S t b (head_of t) refl e

-- a constructor is no variable
pub built-no_variable : (S : Signature) (t : Term) (b : Built) → built_of S t ≡ Some b → variable_in t ≡ None
built-no_variable S (Var x) b e = absurd (cc)
built-no_variable S (Sort i) b e = refl
built-no_variable S (Pi a c) b e = refl
built-no_variable S (Lam a c) b e = refl
built-no_variable S (App f a) b e = refl
built-no_variable S (Let a u c) b e = refl
built-no_variable S (Const c) b e = refl
built-no_variable S (Fam f) b e = refl
built-no_variable S (Con f c) b e = refl
built-no_variable S (Elim f m) b e = refl
built-no_variable S (AxiomK i m) b e = refl
