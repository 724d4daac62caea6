-- A property of each state that a trial of unification leads to, from those of its parts. Nothing is said of ends and refusals.
use Rattle.std.proofs.Common.{◌≡◌, ℕ, ◌==◌, Bool, true, false, cond, Option, Some, None, IfSome, Result, Ok, Err, IfOk, refl, sym, subst as transport, arith}
use Rattle.std.proofs.lemmas.Bool.{eqb-true}
use Rattle.theory.specs.Terms.{Term}
use Rattle.theory.specs.Signatures.{Signature}
use Rattle.core_terms.specs.Answers.{and_next}
use Rattle.core_terms.specs.CaseTrees.{Step}
use Rattle.core_terms.specs.declared.stop.Stop.{Stop}
use Rattle.kernel_reduce.specs.Reduction.{whnf_of}
use Rattle.kernel_reduce.specs.Tidying.{tidy_of}
use Rattle.unification.specs.Built.{Built, built_of}
use Rattle.unification.specs.Constructors.{where_fits, both_heads, right_head, heads, with_built, with_heads, on_constructors}
use Rattle.unification.specs.Cycles.{is_acyclic, reduced_side, cycle_at, cycle_search, cycle_step, right_variable, left_constructor, left_form, cycle_trial}
use Rattle.unification.specs.Solutions.{variable_in}
use Rattle.unification.specs.States.{Equation, State}
use Rattle.unification.specs.Sticking.{stuck_trial}
use Rattle.unification.specs.Turns.{Trial, Turn, Done, Goes, Fails, Sticks, does_not_apply, goes_to, tidied, on_tidied, fails_at, sticks_at, unless_found, or_else}
use Rattle.unification.specs.declared.why.Why.{Why}
use Rattle.unification.proofs.SpentUnits.{any-answer}
use Rattle.case_trees.specs.HeadSteps.{Reaches, HeadForm}
use Rattle.case_trees.proofs.Answered.{and_next-ok}
use Rattle.case_trees.proofs.HeadChains.{whnf-form}
use Rattle.case_trees.proofs.TidiedSteps.{tidy-reaches}

-- where the turn goes on, its state has P
abbrev pub OnGoing : (State → Type 0) → Turn → Type 0
OnGoing P (Goes step t) = P t
OnGoing P Done = Unit {0}
OnGoing P (Fails step u v) = Unit {0}
OnGoing P (Sticks why u v) = Unit {0}

abbrev pub MayGo : (State → Type 0) → Option Turn → Type 0
MayGo P found = IfSome found (OnGoing P)

-- each state to which the trial leads has P
abbrev pub GoesWith : (State → Type 0) → Trial → (left : ℕ) → Type 0
GoesWith P trial left = IfOk (trial left).0 (MayGo P)

pub or_else-goes : (P : State → Type 0) (first second : Trial) (left : ℕ) → GoesWith P first left → ((rest : ℕ) → GoesWith P second rest)
    → GoesWith P (or_else first second) left
or_else-goes P first second left h k =
    and_next-ok (MayGo P) (MayGo P) (first left) (λ turn rest. unless_found turn second rest) h (λ found rest is. by found rest is)
  where
    by : (found : Option Turn) (rest : ℕ) → MayGo P found → GoesWith P (unless_found found second) rest
    by (Some turn) rest is = is
    by None rest is = k rest

-- one of two trials, each of which may know the test
pub cond-goes : (P : State → Type 0) (test : Bool) (one other : Trial) (left : ℕ) → (test ≡ true → GoesWith P one left)
    → (test ≡ false → GoesWith P other left) → GoesWith P (cond test one other) left
cond-goes P true one other left h k = h refl
cond-goes P false one other left h k = k refl

pub goes_to-goes : (P : State → Type 0) (step : Step) (made : Result State Stop) (left : ℕ) → IfOk made P → GoesWith P (goes_to step made) left
goes_to-goes P step (Ok t) left h = h
goes_to-goes P step (Err e) left h = tt

-- trials of a tidied term
pub tidy-goes : (P : State → Type 0) (S : Signature) (t : Term) (left : ℕ) (go : Term → Trial)
    → ((u : Term) (rest : ℕ) → Reaches S t u → GoesWith P (go u) rest)
    → GoesWith P (λ left. and_next (tidy_of S left t) (λ u rest. go u rest)) left
tidy-goes P S t left go h =
    and_next-ok (Reaches S t) (MayGo P) (tidy_of S left t) (λ u rest. go u rest) (tidy-reaches S left t) (λ u rest to. h u rest to)

-- and of two
pub on_tidied-goes : (P : State → Type 0) (S : Signature) (u v : Term) (go : Term → Term → Trial) (left : ℕ)
    → ((u' v' : Term) (rest : ℕ) → Reaches S u u' → Reaches S v v' → GoesWith P (go u' v') rest) → GoesWith P (on_tidied S u v go) left
on_tidied-goes P S u v go left h =
    and_next-ok (λ (sides : Term × Term). Reaches S u sides.0 × Reaches S v sides.1) (MayGo P) (tidied S u v left) (λ sides rest. go sides.0 sides.1 rest)
    (and_next-ok (Reaches S u) (λ (sides : Term × Term). Reaches S u sides.0 × Reaches S v sides.1) (tidy_of S left u) _ (tidy-reaches S left u)
    (λ u' rest to. and_next-ok (Reaches S v) (λ (sides : Term × Term). Reaches S u sides.0 × Reaches S v sides.1) (tidy_of S rest v) _ (tidy-reaches S rest v)
    (λ v' end also. (to, also))))
    (λ sides rest both. h sides.0 sides.1 rest both.0 both.1)

-- an end leads to no state
pub fails_at-goes : (P : State → Type 0) (S : Signature) (step : Step) (u v : Term) (left : ℕ) → GoesWith P (fails_at S step u v) left
fails_at-goes P S step u v left = on_tidied-goes P S u v _ left (λ u' v' rest to also. tt)

pub sticks_at-goes : (P : State → Type 0) (S : Signature) (why : Why) (u v : Term) (left : ℕ) → GoesWith P (sticks_at S why u v) left
sticks_at-goes P S why u v left = on_tidied-goes P S u v _ left (λ u' v' rest to also. tt)

pub stuck_trial-goes : (P : State → Type 0) (S : Signature) (e : Equation) (left : ℕ) → GoesWith P (stuck_trial S e) left
stuck_trial-goes P S e left = on_tidied-goes P S e.left e.right _ left (λ u v rest to also. tt)

-- ---- constructors on both sides

-- l and r are the head forms of u and v, and constructors b and d of one family
pub record AreHeads (S : Signature) (u v l : Term) (b : Built) (r : Term) (d : Built) : Type 0 where
  pub left : HeadForm S u l
  pub left_built : built_of S l ≡ Some b
  pub right : HeadForm S v r
  pub right_built : built_of S r ≡ Some d
  pub family : b.n ≡ d.n

abbrev HaveHeads : Signature → (u v : Term) → Option (Term × Term) → Type 0
HaveHeads S u v found = IfSome found (λ sides. (b : Built) × (d : Built) × AreHeads S u v sides.0 b sides.1 d)

fitting-is : (fits : Built → Bool) (o : Option Built) (b : Built) → where_fits fits o ≡ Some b → (o ≡ Some b) × (fits b ≡ true)
fitting-is fits None b e = absurd (grind arith)
fitting-is fits (Some c) b e = by (fits c) refl e
  where
    by : (test : Bool) → fits c ≡ test → cond test (Some c) None ≡ Some b → (Some c ≡ Some b) × (fits b ≡ true)
    by true fit is = (is, transport (λ o. IfSome o (λ x. fits x ≡ true)) is fit)
    by false fit is = absurd (grind arith)

right_head-goes : (S : Signature) (u v l : Term) (o : Option Built) (left : ℕ) → HeadForm S u l → ((b : Built) → o ≡ Some b → built_of S l ≡ Some b)
    → IfOk (right_head S l v o left).0 (HaveHeads S u v)
right_head-goes S u v l None left form h = tt
right_head-goes S u v l (Some b) left form h =
    and_next-ok (HeadForm S v) (HaveHeads S u v) (whnf_of S true left v) _ (whnf-form S left v) (λ r rest other.
    by r other (where_fits (λ d. d.n == b.n) (built_of S r)) refl)
  where
    by : (r : Term) → HeadForm S v r → (found : Option Built) → where_fits (λ d. d.n == b.n) (built_of S r) ≡ found
        → HaveHeads S u v (both_heads l r found)
    by r other None e = tt
    by r other (Some d) e =
        let (is, fit) = fitting-is (λ d. d.n == b.n) (built_of S r) d e in (
          b,
          d,
          record { left = form; left_built = h b refl; right = other; right_built = is; family = sym (eqb-true d.n b.n fit) },
        )

-- trials of the constructors on both sides
pub on_constructors-goes : (P : State → Type 0) (S : Signature) (fits : Built → Bool) (u v : Term)
    (go : (l : Term) (b : Built) (r : Term) (d : Built) → Trial) (left : ℕ)
    → ((l : Term) (b : Built) (r : Term) (d : Built) (rest : ℕ) → AreHeads S u v l b r d → GoesWith P (go l b r d) rest)
    → GoesWith P (on_constructors S fits u v go) left
on_constructors-goes P S fits u v go left h =
    and_next-ok (HaveHeads S u v) (MayGo P) (heads S fits u v left) (λ found rest. with_heads S go found rest)
    (and_next-ok (HeadForm S u) (HaveHeads S u v) (whnf_of S true left u) _ (whnf-form S left u) (λ l rest form.
    right_head-goes S u v l (where_fits fits (built_of S l)) rest form (λ b e. (fitting-is fits (built_of S l) b e).0)))
    (λ found rest is. by found rest is)
  where
    by : (found : Option (Term × Term)) (rest : ℕ) → HaveHeads S u v found → GoesWith P (with_heads S go found) rest
    by None rest is = tt
    by (Some sides) rest (b, d, is) =
        transport (λ o. GoesWith P (with_built go sides.0 sides.1 o (built_of S sides.1)) rest) (sym is.left_built)
        (transport (λ o. GoesWith P (with_built go sides.0 sides.1 (Some b) o) rest) (sym is.right_built)
        (h sides.0 b sides.1 d rest is))

-- ---- cycles are ends

cycle_at-goes : (P : State → Type 0) (S : Signature) (e : Equation) (step : Term → Step) (o : Option Term) (left : ℕ) → GoesWith P (cycle_at S e step o) left
cycle_at-goes P S e step None left = tt
cycle_at-goes P S e step (Some t) left = fails_at-goes P S (step t) e.left e.right left

cycle_search-goes : (P : State → Type 0) (S : Signature) (e : Equation) (x : ℕ) (step : Term → Step) (t : Term) (left : ℕ)
    → GoesWith P (cycle_search S e x step t) left
cycle_search-goes P S e x step t left =
    and_next-ok (λ found. Unit {0}) (MayGo P) (reduced_side S x t (built_of S t) left) _ (any-answer (reduced_side S x t (built_of S t) left).0)
    (λ found rest any. cycle_at-goes P S e step found rest)

right_variable-goes : (P : State → Type 0) (S : Signature) (e : Equation) (l : Term) (o : Option ℕ) (left : ℕ) → GoesWith P (right_variable S e l o) left
right_variable-goes P S e l None left = tt
right_variable-goes P S e l (Some x) left = cycle_search-goes P S e x (λ u. cycle_step e x u (Term.Var x)) l left

left_constructor-goes : (P : State → Type 0) (S : Signature) (e : Equation) (l : Term) (o : Option Built) (left : ℕ) → GoesWith P (left_constructor S e l o) left
left_constructor-goes P S e l None left = tt
left_constructor-goes P S e l (Some b) left = by (is_acyclic b)
  where
    by : (test : Bool) → IfOk (cond test (and_next (whnf_of S true left e.right) (λ r rest. right_variable S e l (variable_in r) rest)) (does_not_apply left)).0 (MayGo P)
    by true =
        and_next-ok (λ r. Unit {0}) (MayGo P) (whnf_of S true left e.right) _ (any-answer (whnf_of S true left e.right).0)
        (λ r rest any. right_variable-goes P S e l (variable_in r) rest)
    by false = tt

left_form-goes : (P : State → Type 0) (S : Signature) (e : Equation) (l : Term) (o : Option ℕ) (left : ℕ) → GoesWith P (left_form S e l o) left
left_form-goes P S e l None left = left_constructor-goes P S e l (built_of S l) left
left_form-goes P S e l (Some x) left =
    and_next-ok (λ r. Unit {0}) (MayGo P) (whnf_of S true left e.right) _ (any-answer (whnf_of S true left e.right).0)
    (λ r rest any. cycle_search-goes P S e x (λ v. cycle_step e x (Term.Var x) v) r rest)

pub cycle_trial-goes : (P : State → Type 0) (S : Signature) (e : Equation) (left : ℕ) → GoesWith P (cycle_trial S e) left
cycle_trial-goes P S e left =
    and_next-ok (λ l. Unit {0}) (MayGo P) (whnf_of S true left e.left) _ (any-answer (whnf_of S true left e.left).0)
    (λ l rest any. left_form-goes P S e l (variable_in l) rest)
