-- Constructors take no head step.
use Rattle.std.proofs.Common.{◌≡◌, ℕ, zero, suc, Bool, true, false, Option, Some, None, IfOk, refl, arith}
use Rattle.theory.specs.Terms.{Term, Var, Sort, Pi, Lam, App, Let, Const, Fam, Con, Elim, AxiomK}
use Rattle.theory.specs.Spines.{head_of}
use Rattle.theory.specs.Signatures.{Signature}
use Rattle.core_terms.specs.Answers.{Spent, is_low}
use Rattle.kernel_reduce.specs.Steps.{beta_step, elimination_step, step_of}
use Rattle.kernel_reduce.specs.Reduction.{if_low, whnf_of}
use Rattle.unification.specs.Built.{Built, built_of}
use Rattle.unification.proofs.Constructors.{found}

-- an application of a constructor is no redex
no-beta : (f u : Term) (n number : ℕ) → head_of f ≡ Con n number → beta_step f u ≡ None
no-beta (Lam a b) u n number e = absurd (grind arith)
no-beta (App f a) u n number e = refl
no-beta (Con m k) u n number e = refl
no-beta (Var x) u n number e = refl
no-beta (Sort i) u n number e = refl
no-beta (Pi a b) u n number e = refl
no-beta (Let a t b) u n number e = refl
no-beta (Const m) u n number e = refl
no-beta (Fam m) u n number e = refl
no-beta (Elim m k) u n number e = refl
no-beta (AxiomK i m) u n number e = refl

no-elimination : (S : Signature) (f u : Term) (inner : Option Term) (n number : ℕ) → head_of f ≡ Con n number → elimination_step S f u inner ≡ None
no-elimination S f u inner n number e = rw e refl

pub no-step : (S : Signature) (delta : Bool) (t : Term) (n number : ℕ) → head_of t ≡ Con n number → step_of S delta t ≡ None
no-step S delta (App f a) n number e =
    rw (no-step S delta f n number e) (rw (no-beta f a n number e) (no-elimination S f a (step_of S delta a) n number e))
no-step S delta (Con m k) n number e = refl
no-step S delta (Var x) n number e = absurd (grind arith)
no-step S delta (Sort i) n number e = absurd (grind arith)
no-step S delta (Pi a b) n number e = absurd (grind arith)
no-step S delta (Lam a b) n number e = absurd (grind arith)
no-step S delta (Let a t b) n number e = absurd (grind arith)
no-step S delta (Const m) n number e = absurd (grind arith)
no-step S delta (Fam m) n number e = absurd (grind arith)
no-step S delta (Elim m k) n number e = absurd (grind arith)
no-step S delta (AxiomK i m) n number e = absurd (grind arith)

pub if_low-ok : {A : Type 0} (P : A → Type 0) (test : Bool) (next : ℕ → Spent A) (left : ℕ) → IfOk (next left).0 P → IfOk (if_low test next left).0 P
if_low-ok P true next left h = h
if_low-ok P false next left h = tt

-- a term that takes no step is its own head form
pub rests-itself : (S : Signature) (delta : Bool) (left : ℕ) (t : Term) → step_of S delta t ≡ None → IfOk (whnf_of S delta left t).0 (λ w. w ≡ t)
rests-itself S delta zero t e =
    if_low-ok (λ w. w ≡ t) (is_low t) _ zero (rw e refl)
rests-itself S delta (suc left) t e =
    if_low-ok (λ w. w ≡ t) (is_low t) _ (suc left) (rw e refl)

-- a constructor with all its arguments is its own head form
pub built-rests : (S : Signature) (delta : Bool) (t : Term) (b : Built) → built_of S t ≡ Some b → step_of S delta t ≡ None
built-rests S delta t b e = no-step S delta t b.n b.number (found S t b e).head
