-- The family of a variable in an open pair, and the runs of its constructors, with solutions without K.
use Rattle.std.proofs.Common.{ℕ, ◌+◌, ◌==◌, true, Option, Some, None, Result, Ok, Err, List, [], ◌∷◌}
use Rattle.theory.specs.Terms.{Term}
use Rattle.theory.specs.Telescopes.{Telescope}
use Rattle.theory.specs.Families.{Constructor}
use Rattle.theory.specs.Signatures.{Signature}
use Rattle.core_terms.specs.Answers.{Spent}
use Rattle.core_terms.specs.Patterns as pattern
use Rattle.core_terms.specs.Patterns.{Pat}
use Rattle.core_terms.specs.declared.stop.Stop.{Stop}
use Rattle.unification.specs.Outcomes.{Outcome, Solved, Absurd, Stuck}
use Rattle.unification.specs.Solutions.{variable_in}
use Rattle.unification.specs.States.{Problem}
use Rattle.case_trees.specs.Looking.{Further, Look, Found as There, Passed, Looked, Ran, at_open, behind_look, first_found, if_expected, look_at_type, looked_at, run_all, unless_stuck, with_run}
use Rattle.case_trees.specs.Problems.{Member, type_of_variable, problem_of}
use Rattle.case_trees.specs.Stops.{TreeStop, Stopping, halting, or_halts}
use Rattle.elim.specs.k_laws.Lacking.{Lack, ConstructorsLack, SignatureLacks}
use Rattle.elim.specs.k_laws.Walking.{OutcomeLacks}
use Rattle.elim.proofs.k_laws.Runs.{Gives, Ends, Found, anyhow, ok, no, some, none, now, done, refused, next, either-found}
use Rattle.elim.proofs.k_laws.Kernel.{and-found, whnf}
use Rattle.elim.proofs.k_laws.Solving.{MemberLacks, member, problem, unify, variable-type}

pub halted : {A : Type 0} {P : A → Type 0} {r : Result A Stop} → Gives P r → Gives P (or_halts r)
halted {A} {P} {r} h = by r h
  where
    by : (x : Result A Stop) → Gives P x → Gives P (or_halts x)
    by (Ok a) k = ok k.is
    by (Err e) k = no

pub halts : {A : Type 0} {P : A → Type 0} {spent : Spent A} → Ends P spent → Ends P (halting spent)
halts h = now (halted h.only)

-- ---- the first that is found

-- a value that is found has P
abbrev pub LookHas : {A : Type 0} → (A → Type 0) → Look A → Type 0
LookHas P (There a) = P a
LookHas P (Passed r) = Unit {0}

abbrev Furthers : {A : Type 0} → (A → Type 0) → Further A → Type 0
Furthers P further = (stuck forced : Option TreeStop) (left : ℕ) → Ends P (further stuck forced left)

behind : {A : Type 0} {P : A → Type 0} (clause : ℕ) {further : Further A} → Furthers P further → (stuck forced : Option TreeStop) (found : Look A) (left : ℕ)
    → LookHas P found → Ends P (behind_look clause further stuck forced found left)
behind clause h stuck forced (There a) left k = done k
behind clause h stuck forced (Passed r) left k = h _ forced left

opens : {A : Type 0} {P : A → Type 0} (clause : ℕ) (context : Telescope) {look : Pat → ℕ → ℕ → Stopping (Look A)}
    → ((pat : Pat) (x left : ℕ) → Ends (LookHas P) (look pat x left)) → {further : Further A} → Furthers P further → (pat : Pat) (u : Term) (x : Option ℕ)
    → (stuck forced : Option TreeStop) (left : ℕ) → Ends P (at_open clause context look further pat u x stuck forced left)
opens clause context k h pat u None stuck forced left = h stuck _ left
opens clause context k h pat u (Some x) stuck forced left = next (k pat x left) (λ found rest p. behind clause h stuck forced found rest p)

pub found-first : {A : Type 0} {P : A → Type 0} (S : Signature) (clause : ℕ) (context : Telescope) {look : Pat → ℕ → ℕ → Stopping (Look A)}
    → ((pat : Pat) (x left : ℕ) → Ends (LookHas P) (look pat x left)) → (pairs : List (Pat × Term)) (stuck forced : Option TreeStop) (left : ℕ)
    → Ends P (first_found S clause context look pairs stuck forced left)
found-first S clause context k [] stuck forced left = refused
found-first S clause context k (pair ∷ pairs) stuck forced left =
    next (anyhow _) (λ u rest p. opens clause context k (found-first S clause context k pairs) pair.0 u (variable_in u) stuck forced rest)

-- ---- the type of a variable

abbrev pub LookedLacks : Looked → Type 0
LookedLacks found = MemberLacks found.member

expected : (pat : Pat) (m : Member) → MemberLacks m → Found MemberLacks (if_expected pat m)
expected (pattern.Con n number pats) m h = either-found (m.n == n) (some h) none
expected pattern.Bind m h = some h
expected pattern.Wild m h = some h
expected (pattern.Dot written) m h = some h
expected pattern.Absurd m h = some h

looked : (clause : ℕ) (context : Telescope) (type : Term) {m : Option Member} → Found MemberLacks m → Gives LookedLacks (looked_at clause context type m)
looked clause context type {m} h = by m h
  where
    by : (o : Option Member) → Found MemberLacks o → Gives LookedLacks (looked_at clause context type o)
    by (Some n) k = ok k.is
    by None k = no

pub type-looked : (S : Signature) → SignatureLacks S → (clause : ℕ) (context : Telescope) (pat : Pat) (x left : ℕ) → Lack context
    → Ends LookedLacks (look_at_type S clause context pat x left)
type-looked S all clause context pat x left h =
    next (halts (whnf S true left (type_of_variable context x) all (variable-type context x h))) (λ type rest k.
    now (looked clause context type (and-found (member S all type k) (λ m l. expected pat m l))))

-- ---- the problems of all constructors

abbrev pub RunsLack : List Ran → Type 0
RunsLack [] = Unit {0}
RunsLack (run ∷ runs) = OutcomeLacks run.outcome × RunsLack runs

with-run : (run : Ran) (others : Look (List Ran)) → OutcomeLacks run.outcome → LookHas RunsLack others → LookHas RunsLack (with_run run others)
with-run run (There runs) h k = (h, k)
with-run run (Passed r) h k = tt

unless : (c : Constructor) (p : Problem) {others : ℕ → Stopping (Look (List Ran))} → ((left : ℕ) → Ends (LookHas RunsLack) (others left)) → (o : Outcome) (left : ℕ)
    → OutcomeLacks o → Ends (LookHas RunsLack) (unless_stuck c p others o left)
unless c p h (Stuck steps context u v why) left k = done tt
unless c p h (Solved steps context solution) left k = next (h left) (λ runs rest l. done (with-run _ runs k l))
unless c p h (Absurd steps context u v) left k = next (h left) (λ runs rest l. done (with-run _ runs k l))

pub all-run : (S : Signature) → SignatureLacks S → (context : Telescope) (x : ℕ) (m : Member) (number : ℕ) (cs : List Constructor) (left : ℕ) → Lack context
    → MemberLacks m → ConstructorsLack cs → Ends (LookHas RunsLack) (run_all S context x m number cs left)
all-run S all context x m number [] left h k l = done tt
all-run S all context x m number (c ∷ cs) left h k l =
    next (halts (unify S all (problem_of context x m number c) left (problem context x m number c h k l.0))) (λ o rest p.
    unless c (problem_of context x m number c) (λ end. all-run S all context x m (number + 1) cs end h k l.1) o rest p)
