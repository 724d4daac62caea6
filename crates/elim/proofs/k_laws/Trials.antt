-- A turn of unification that goes on leads to a state without K.
use Rattle.std.proofs.Common.{ℕ, zero, suc, ◌+◌, ◌-◌, ◌==◌, Bool, true, false, cond, Option, Some, None, IfSome, Result, List, [], ◌∷◌, length, slice_get}
use Rattle.theory.specs.Terms.{Term}
use Rattle.theory.specs.Terms.Term.{Var, Con}
use Rattle.theory.specs.Spines.{head_of, spine_of}
use Rattle.theory.specs.Signatures.{Signature}
use Rattle.theory.specs.AxiomKLaws.{LacksAxiomK}
use Rattle.core_terms.specs.CaseTrees.{Step}
use Rattle.core_terms.specs.declared.stop.Stop.{Stop}
use Rattle.kernel_reduce.specs.Entries.{family_at}
use Rattle.kernel_reduce.specs.Reduction.{nesting, whnf_of}
use Rattle.kernel_reduce.specs.Tidying.{tidy_of}
use Rattle.unification.specs.Built.{Built, with_spine, built_of, is_fitting, has_no_indices}
use Rattle.unification.specs.Constructors.{where_fits, both_heads, right_head, with_built, with_heads, on_constructors, conflict_step, injection_step, same_constructor, constructor_turn, constructor_trial}
use Rattle.unification.specs.Cycles.{is_acyclic, cycle_at, cycle_search, cycle_step, right_variable, left_constructor, left_form, cycle_trial}
use Rattle.unification.specs.Deletions.{delete, deletion_step, if_convertible, deletion_trial}
use Rattle.unification.specs.Groups.{Membership, membership_of, group_turn, if_holds, on_membership, last_trial, group_trials}
use Rattle.unification.specs.Heights.{injection_made}
use Rattle.unification.specs.Solutions.{variable_in, if_free, solves, state_solved, turn_by, solve_side, right_step, left_step, solve_sides, with_variable, solution_trial}
use Rattle.unification.specs.Solving.{solved_state, deleted_state}
use Rattle.unification.specs.States.{Equation, State}
use Rattle.unification.specs.Sticking.{stuck_trial}
use Rattle.unification.specs.Strategy.{first_trials, trials, turn_of}
use Rattle.unification.specs.Turns as show
use Rattle.unification.specs.Turns.{Turn, Done, Goes, Fails, Sticks, Trial, does_not_apply, goes_to, on_tidied, fails_at, sticks_at, or_else, unless_found, type_in}
use Rattle.unification.specs.declared.why.Why.{Why}
use Rattle.unification.proofs.MovedStates.{injection_made-has}
use Rattle.unification.proofs.ScopedEquations.{bounded_state-has}
use Rattle.elim.specs.k_laws.Lacking.{Lack, SignatureLacks}
use Rattle.elim.proofs.k_laws.Runs.{Gives, Ends, Found, Any, anyhow, ok, some, none, now, done, next, and-then, either-ends, either-found}
use Rattle.elim.proofs.k_laws.Terms.{first, rest, spine}
use Rattle.elim.proofs.k_laws.Kernel.{and-found, whnf, tidy, normal}
use Rattle.elim.proofs.k_laws.States as state
use Rattle.elim.proofs.k_laws.States.{SidesLack, StateLacks}

-- ---- constructors

pub record BuiltLacks (b : Built) : Type 0 where
  pub parameters : Lack b.parameters
  pub arguments : Lack b.arguments

any-found : {A : Type 0} (o : Option A) → Found Any o
any-found (Some a) = some tt
any-found None = none

at-head : (S : Signature) (h : Term) (us : List Term) → Lack us → Found BuiltLacks (with_spine S h us)
at-head S (Con n number) us k =
    and-found (any-found (family_at S n)) (λ f is.
    and-found (any-found (slice_get f.constructors number)) (λ c there.
    either-found _ (some (record { parameters = first (length f.parameters) us k; arguments = rest (length f.parameters) us k })) none))
at-head S (Var x) us k = none
at-head S _ us k = none

pub built : (S : Signature) (t : Term) → LacksAxiomK t → Found BuiltLacks (built_of S t)
built S t h = at-head S (head_of t) (spine_of t) (spine t h)

-- ---- trials

-- where the turn goes on, the state holds no K
abbrev pub TurnLacks : Turn → Type 0
TurnLacks Done = Unit {0}
TurnLacks (Goes step s) = StateLacks s
TurnLacks (Fails step u v) = Unit {0}
TurnLacks (Sticks why u v) = Unit {0}

abbrev pub MayGo : Option Turn → Type 0
MayGo found = IfSome found TurnLacks

abbrev pub Tried : Trial → Type 0
Tried trial = (left : ℕ) → Ends MayGo (trial left)

does-not : Tried does_not_apply
does-not left = done tt

goes : (step : Step) {made : Result State Stop} → Gives StateLacks made → Tried (goes_to step made)
goes step h left = next (now {left = left} h) (λ s rest k. done k)

either-tried : (test : Bool) {x y : Trial} → Tried x → Tried y → Tried (cond test x y)
either-tried true h k = h
either-tried false h k = k

or-else : {one other : Trial} → Tried one → Tried other → Tried (or_else one other)
or-else {one} {other} h k left = next (h left) (λ found rest p. by found rest p)
  where
    by : (found : Option Turn) (rest : ℕ) → MayGo found → Ends MayGo (unless_found found other rest)
    by (Some turn) rest p = done p
    by None rest p = k rest

on-any : (S : Signature) (u v : Term) {go : Term → Term → Trial} → ((u v : Term) → Tried (go u v)) → Tried (on_tidied S u v go)
on-any S u v h left = next {P = Any} (anyhow (show.tidied S u v left)) (λ (sides : Term × Term) rest p. h sides.0 sides.1 rest)

fails : (S : Signature) (step : Step) (u v : Term) → Tried (fails_at S step u v)
fails S step u v = on-any S u v (λ u' v' left. done tt)

sticks : (S : Signature) (why : Why) (u v : Term) → Tried (sticks_at S why u v)
sticks S why u v = on-any S u v (λ u' v' left. done tt)

stuck : (S : Signature) (e : Equation) → Tried (stuck_trial S e)
stuck S e = on-any S e.left e.right (λ u v left. done tt)

-- ---- cycles are ends

at-cycle : (S : Signature) (e : Equation) (step : Term → Step) (found : Option Term) → Tried (cycle_at S e step found)
at-cycle S e step None left = done tt
at-cycle S e step (Some t) left = fails S (step t) e.left e.right left

searched : (S : Signature) (e : Equation) (x : ℕ) (step : Term → Step) (t : Term) → Tried (cycle_search S e x step t)
searched S e x step t left = next (anyhow _) (λ found rest p. at-cycle S e step found rest)

from-right : (S : Signature) (e : Equation) (l : Term) (x : Option ℕ) → Tried (right_variable S e l x)
from-right S e l None left = done tt
from-right S e l (Some x) left = searched S e x (λ u. cycle_step e x u (Var x)) l left

from-built : (S : Signature) (e : Equation) (l : Term) (b : Option Built) → Tried (left_constructor S e l b)
from-built S e l None left = done tt
from-built S e l (Some b) left =
    either-ends (is_acyclic b) (next (anyhow (whnf_of S true left e.right)) (λ r rest p. from-right S e l (variable_in r) rest)) (does-not left)

from-left : (S : Signature) (e : Equation) (l : Term) (x : Option ℕ) → Tried (left_form S e l x)
from-left S e l (Some x) left = next (anyhow (whnf_of S true left e.right)) (λ r rest p. searched S e x (λ v. cycle_step e x (Var x) v) r rest)
from-left S e l None left = from-built S e l (built_of S l) left

cycle : (S : Signature) (e : Equation) → Tried (cycle_trial S e)
cycle S e left = next (anyhow (whnf_of S true left e.left)) (λ l rest p. from-left S e l (variable_in l) rest)

-- ---- the rules that go on

-- both sides of an equation
pub record EquationLacks (e : Equation) : Type 0 where
  pub left : LacksAxiomK e.left
  pub right : LacksAxiomK e.right

abbrev PairLacks : Option (Term × Term) → Type 0
PairLacks found = IfSome found (λ sides. LacksAxiomK sides.0 × LacksAxiomK sides.1)

module _ (S : Signature) (all : SignatureLacks S) where
  tidied : (u v : Term) {go : Term → Term → Trial} → LacksAxiomK u → LacksAxiomK v
      → ((u v : Term) → LacksAxiomK u → LacksAxiomK v → Tried (go u v)) → Tried (on_tidied S u v go)
  tidied u v hu hv k left =
      next {P = λ (sides : Term × Term). LacksAxiomK sides.0 × LacksAxiomK sides.1}
      (next (tidy S left u all hu) (λ a rest p. next (tidy S rest v all hv) (λ b end q. done (p, q))))
      (λ sides rest p. k sides.0 sides.1 p.0 p.1 rest)

  -- solution

  free : (s : State) (x : ℕ) (t : Term) → LacksAxiomK t → Found LacksAxiomK (if_free s x t)
  free s x t h = either-found _ (some h) none

  solving : (s : State) (x : ℕ) (A u : Term) (left : ℕ) → LacksAxiomK u → Ends (λ found. IfSome found LacksAxiomK) (solves S s x A u left)
  solving s x A u left h =
      either-ends _ (either-ends _ (done h) (next (normal S true nesting u left all h) (λ v rest p. done (free s x v p).is))) (done tt)

  abbrev MadeLacks : Option (Term × State) → Type 0
  MadeLacks made = IfSome made (λ pair. StateLacks pair.1)

  made : (s : State) (e : Equation) (x : ℕ) (A : Term) (found : Option Term) → StateLacks s → IfSome found LacksAxiomK
      → Gives MadeLacks (state_solved s e x A found)
  made s e x A None h k = ok tt
  made s e x A (Some u) h k =
      let t = solved_state s e.place.level (length s.context - (x + 1)) A u in
      and-then {P = StateLacks} (record { is = bounded_state-has StateLacks t (state.solves s e.place.level (length s.context - (x + 1)) A u h k) }) (λ t p. ok p)

  turned : (step : Term → Step) (o : Option (Term × State)) → MadeLacks o → MayGo (turn_by step o)
  turned step None p = tt
  turned step (Some pair) p = p

  one-side : (s : State) (e : Equation) (A other : Term) (step : ℕ → Term → Step) (x : Option ℕ) → StateLacks s → LacksAxiomK other
      → Tried (solve_side S s e A other step x)
  one-side s e A other step None h k left = done tt
  one-side s e A other step (Some x) h k left =
      next {P = MadeLacks} (next (solving s x A other left k) (λ found rest p. now (made s e x A found h p))) (λ o rest p. done (turned (step x) o p))

  with-type : (s : State) (e : Equation) (u v : Term) → StateLacks s → LacksAxiomK u → LacksAxiomK v → (A : Term) → Tried (solve_sides S s e A u v)
  with-type s e u v h hu hv A =
      or-else (one-side s e A u (right_step A v) (variable_in v) h hu) (one-side s e A v (left_step A u) (variable_in u) h hv)

  variables : (s : State) (e : Equation) (u v : Term) (x y : Option ℕ) → StateLacks s → LacksAxiomK u → LacksAxiomK v → Tried (with_variable S s e u v x y)
  variables s e u v None None h hu hv left = done tt
  variables s e u v None (Some y) h hu hv left = next (anyhow _) (λ A rest p. with-type s e u v h hu hv A rest)
  variables s e u v (Some x) None h hu hv left = next (anyhow _) (λ A rest p. with-type s e u v h hu hv A rest)
  variables s e u v (Some x) (Some y) h hu hv left = next (anyhow _) (λ A rest p. with-type s e u v h hu hv A rest)

  solution : (s : State) (e : Equation) → StateLacks s → EquationLacks e → Tried (solution_trial S s e)
  solution s e h k = tidied e.left e.right k.left k.right (λ u v hu hv. variables s e u v (variable_in u) (variable_in v) h hu hv)

  -- constructors on both sides

  right-side : (l v : Term) (b : Option Built) (left : ℕ) → LacksAxiomK l → LacksAxiomK v → Ends PairLacks (right_head S l v b left)
  right-side l v None left hl hv = done tt
  right-side l v (Some b) left hl hv = next (whnf S true left v all hv) (λ r rest hr. done (by r hr (where_fits (λ d. d.n == b.n) (built_of S r))))
    where
      by : (r : Term) → LacksAxiomK r → (d : Option Built) → PairLacks (both_heads l r d)
      by r hr None = tt
      by r hr (Some d) = (hl, hr)

  abbrev Continues : ((l : Term) (b : Built) (r : Term) (d : Built) → Trial) → Type 0
  Continues go = (l : Term) (b : Built) (r : Term) (d : Built) → BuiltLacks b → BuiltLacks d → Tried (go l b r d)

  both-built : {go : (l : Term) (b : Built) (r : Term) (d : Built) → Trial} → Continues go → (l r : Term) (b d : Option Built) → IfSome b BuiltLacks
      → IfSome d BuiltLacks → Tried (with_built go l r b d)
  both-built k l r (Some b) (Some d) hb hd left = k l b r d hb hd left
  both-built k l r (Some b) None hb hd left = done tt
  both-built k l r None d hb hd left = done tt

  both-found : {go : (l : Term) (b : Built) (r : Term) (d : Built) → Trial} → Continues go → (found : Option (Term × Term)) → PairLacks found
      → Tried (with_heads S go found)
  both-found k None p left = done tt
  both-found k (Some sides) p left =
      both-built k sides.0 sides.1 (built_of S sides.0) (built_of S sides.1) (built S sides.0 p.0).is (built S sides.1 p.1).is left

  constructors : (fits : Built → Bool) (u v : Term) {go : (l : Term) (b : Built) (r : Term) (d : Built) → Trial} → LacksAxiomK u → LacksAxiomK v → Continues go
      → Tried (on_constructors S fits u v go)
  constructors fits u v hu hv k left =
      next {P = PairLacks} (next (whnf S true left u all hu) (λ l rest hl. right-side l v (where_fits fits (built_of S l)) rest hl hv))
      (λ found rest p. both-found k found p rest)

  -- injectivity

  injected : (s : State) (g : ℕ) (b d : Built) (m : Membership) → StateLacks s → BuiltLacks b → BuiltLacks d
      → Gives StateLacks (injection_made s g b.n b.number m.family b.constructor m.parameters b.arguments d.arguments)
  injected s g b d m h hb hd = record {
    is = injection_made-has StateLacks s g b.n b.number m.family b.constructor m.parameters b.arguments d.arguments
        (state.injects s g b.n b.number m.family b.constructor m.parameters b.arguments d.arguments h hb.arguments hd.arguments);
  }

  same : (s : State) (e : Equation) (l r : Term) (b d : Built) → StateLacks s → BuiltLacks b → BuiltLacks d → Tried (same_constructor s e l r b d)
  same s e l r b d h hb hd =
      either-tried (has_no_indices b.family)
      (goes (injection_step 1 (type_in e.type) l r b)
      (injected s 1 b d (record { n = b.n; family = b.family; parameters = b.parameters }) h hb hd))
      does-not

  constructor-turns : (s : State) (e : Equation) → StateLacks s → Continues (constructor_turn S s e)
  constructor-turns s e h l b r d hb hd =
      either-tried (b.number == d.number) (same s e l r b d h hb hd) (fails S (conflict_step 1 (type_in e.type) l r b d) e.left e.right)

  constructor : (s : State) (e : Equation) → StateLacks s → EquationLacks e → Tried (constructor_trial S s e)
  constructor s e h k = constructors (λ b. is_fitting b.family) e.left e.right k.left k.right (constructor-turns s e h)

  -- groups

  turn : (s : State) (k : ℕ) (e : Equation) (m : Membership) (type : Term) → StateLacks s → Continues (group_turn S s k e m type)
  turn s k e m type h l b r d hb hd =
      either-tried (b.number == d.number)
      (goes (injection_step (k + 1) type l r b) (injected s (k + 1) b d m h hb hd))
      (fails S (conflict_step (k + 1) type l r b d) e.left e.right)

  if-all : (test : Bool) {go : Trial} → Tried go → Tried (if_holds test go)
  if-all true h = h
  if-all false h = does-not

  membership : (s : State) (k : ℕ) (e : Equation) (type : Term) (m : Option Membership) → StateLacks s → EquationLacks e → Tried (on_membership S s k e type m)
  membership s k e type None h l left = done tt
  membership s k e type (Some m) h l left =
      constructors (λ b. b.n == m.n) e.left e.right l.left l.right
      (λ t b r d hb hd rest. next (anyhow _) (λ holds end p. if-all holds (turn s k e m type h t b r d hb hd) end)) left

  last : (s : State) (k : ℕ) (e : Option Equation) → StateLacks s → IfSome e EquationLacks → Tried (last_trial S s k e)
  last s k None h l left = done tt
  last s k (Some e) h l left = next (anyhow (tidy_of S left e.place.type)) (λ type rest p. membership s k e type (membership_of S k type) h l rest)

  equation-at : (es : List Equation) (k : ℕ) → SidesLack es → IfSome (slice_get es k) EquationLacks
  equation-at [] k h = tt
  equation-at (e ∷ es) zero h = record { left = h.0.0; right = h.0.1 }
  equation-at (e ∷ es) (suc k) h = equation-at es k h.1

  groups : (s : State) (k : ℕ) → StateLacks s → Tried (group_trials S s k)
  groups s zero h = does-not
  groups s (suc k) h = or-else (last s (suc k) (slice_get s.equations (suc k)) h (equation-at s.equations (suc k) h.sides)) (groups s k h)

  -- deletion

  deleted : (s : State) (e : Equation) → StateLacks s → Tried (delete S s e)
  deleted s e h left =
      next (anyhow _) (λ A rest p.
      on-any S e.left e.right (λ u v.
      goes (deletion_step A u v)
      (record { is = bounded_state-has StateLacks (deleted_state s e.place.level A u) (state.deletes s e.place.level A u h) })) rest)

  if-converts : (s : State) (e : Equation) (holds : Bool) → StateLacks s → Tried (if_convertible S s e holds)
  if-converts s e true h = either-tried S.has_k (deleted s e h) (sticks S _ e.left e.right)
  if-converts s e false h = does-not

  deletion : (s : State) (e : Equation) → StateLacks s → Tried (deletion_trial S s e)
  deletion s e h left = next (anyhow _) (λ holds rest p. if-converts s e holds h rest)

  -- all of them

  for-first : (s : State) (e : Equation) → StateLacks s → EquationLacks e → Tried (first_trials S s e)
  for-first s e h k = or-else (solution s e h k) (or-else (constructor s e h k) (or-else (cycle S e) (or-else (deletion s e h) (stuck S e))))

  all-trials : (s : State) (es : List Equation) → StateLacks s → SidesLack es → Tried (trials S s es)
  all-trials s [] h k left = done tt
  all-trials s (e ∷ es) h k left = or-else (groups s (length es) h) (for-first s e h (record { left = k.0.0; right = k.0.1 })) left

pub turns : (S : Signature) → SignatureLacks S → (s : State) → StateLacks s → Tried (turn_of S s)
turns S all s h = all-trials S all s s.equations h h.sides
