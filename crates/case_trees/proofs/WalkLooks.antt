-- A property of each look of a walk, from one of each problem's outcome.
use Rattle.std.proofs.Common.{◌≡◌, ℕ, Bool, true, false, ◌&&◌, ◌==◌, ◌+◌, cond, Option, Some, None, option_and_then, Result, Ok, Err, List, slice_get, refl, sym, ap, ◌∙◌, subst, arith}
use Rattle.theory.specs.Terms.{Term, Var}
use Rattle.theory.specs.Telescopes.{Telescope}
use Rattle.theory.specs.Families.{Constructor}
use Rattle.theory.specs.Signatures.{Signature}
use Rattle.theory.proofs.Lists.{some_is}
use Rattle.core_terms.specs.Answers.{and_next, and_then, is_low, are_low}
use Rattle.core_terms.specs.Patterns as pattern
use Rattle.core_terms.specs.Patterns.{Pat, Pats}
use Rattle.core_terms.specs.CaseTrees.{Step}
use Rattle.core_terms.specs.declared.stop.Stop.{Stop}
use Rattle.core_terms.specs.declared.stop.Stop.TheVariants.{Deep}
use Rattle.kernel_reduce.specs.Reduction.{whnf_of}
use Rattle.unification.specs.Outcomes as outcome
use Rattle.unification.specs.Outcomes.{Outcome}
use Rattle.unification.specs.Runs.{unify_of}
use Rattle.unification.specs.declared.why.Why.{Why}
use Rattle.case_trees.specs.Pairs.{Pairs, are_low_pairs}
use Rattle.case_trees.specs.Points.{Point, moved_point, moved_pairs, bounded_pairs, solution_for}
use Rattle.case_trees.specs.Problems.{Member, member_of, type_of_variable, problem_of}
use Rattle.case_trees.specs.Stops as stop
use Rattle.case_trees.specs.Stops.{TreeStop, Halts, Stopping, or_halts, halting, answers}
use Rattle.case_trees.specs.Looking.{Look, Found, Passed, Looked, Ran, if_expected, looked_at, look_at_type, run_all}
use Rattle.case_trees.specs.OwnWalks.{Turn, Goes, walk_at, solved_pairs, own_outcome, run_own, first_solved, no_constructor, absurd_outcome, run_pattern, look}
use Rattle.case_trees.specs.Standing.{Runs}
use Rattle.case_trees.specs.Causes.{IsOwnNumber}
use Rattle.case_trees.proofs.Answered.{Holds, and_next-holds}
use Rattle.case_trees.proofs.Workings.{ReducesTo}
use Rattle.case_trees.proofs.Looks.{TidiesTo, LookHas, LookHolds}
use Rattle.case_trees.proofs.Running.{runs-out, RunHas, all-run, AllAbsurd, FirstHas, first-has}
use Rattle.case_trees.proofs.WalkTurns.{Claims, TurnHas}

-- An open pair of worked pairs at a point, with variable x, is looked at: its type is reduced to a family that the pattern expects.
pub record LookedAt (S : Signature) (O : (Pat × Term) → Type 0) (context : Telescope) (pair : Pat × Term) (x : ℕ) (found : Looked) : Type 0 where
  pub is_open : O pair
  pub tidies : TidiesTo S pair.1 (Var x)
  pub reduces : ReducesTo S (type_of_variable context x) found.type
  pub member : member_of S found.type ≡ Some found.member
  pub expected : if_expected pair.0 found.member ≡ Some found.member

-- no constructor pattern
abbrev pub IsOther : Pat → Type 0
IsOther (pattern.Con n number pats) = ⊥
IsOther pat = Unit {0}

other-tried : (pat : Pat) (number : ℕ) → IsOther pat → IsOwnNumber pat number
other-tried (pattern.Con n own pats) number other = absurd other
other-tried pattern.Bind number other = tt
other-tried pattern.Wild number other = tt
other-tried (pattern.Dot written) number other = tt
other-tried pattern.Absurd number other = tt

-- properties of the type of a variable, and of each outcome
pub record Outcomes (S : Signature) (clause : ℕ) (C : Claims) : Type 0 where
  pub halts : (e : Stop) → C.Cause (Halts e)
  pub wrong : (p : Point) (pairs : Pairs) (pair : Pat × Term) (x : ℕ) (type : Term) → C.Then p pairs → C.Open p pair → TidiesTo S pair.1 (Var x)
      → ReducesTo S (type_of_variable p.context x) type → option_and_then (if_expected pair.0) (member_of S type) ≡ None
      → C.Cause (stop.WrongConstructor clause p.context type)
  pub no_number : (p : Point) (pairs : Pairs) (pair : Pat × Term) (x : ℕ) (found : Looked) (n number : ℕ) (pats : Pats) → C.Then p pairs
      → LookedAt S (C.Open p) p.context pair x found → pair.0 ≡ pattern.Con n number pats → slice_get found.member.family.constructors number ≡ None
      → C.Cause (stop.WrongConstructor clause p.context found.type)
  pub solved : (p : Point) (pairs : Pairs) (pair : Pat × Term) (x : ℕ) (found : Looked) (n number : ℕ) (pats : Pats) (c : Constructor) (steps : List Step)
      (context : Telescope) (solution : List Term) → C.Then p pairs → LookedAt S (C.Open p) p.context pair x found → pair.0 ≡ pattern.Con n number pats
      → slice_get found.member.family.constructors number ≡ Some c
      → Runs S (problem_of p.context x found.member number c) (outcome.Solved steps context solution)
      → C.Before (moved_point p context (solution_for p solution)) (moved_pairs (solution_for p solution) pairs)
  pub impossible : (p : Point) (pairs : Pairs) (pair : Pat × Term) (x : ℕ) (found : Looked) (n number : ℕ) (pats : Pats) (c : Constructor)
      (steps : List Step) (context : Telescope) (u v : Term) → C.Then p pairs → LookedAt S (C.Open p) p.context pair x found
      → pair.0 ≡ pattern.Con n number pats
      → slice_get found.member.family.constructors number ≡ Some c
      → Runs S (problem_of p.context x found.member number c) (outcome.Absurd steps context u v)
      → C.Cause (stop.Impossible clause context u v)
  pub stuck : (p : Point) (pairs : Pairs) (pair : Pat × Term) (x : ℕ) (found : Looked) (number : ℕ) (c : Constructor) (steps : List Step)
      (context : Telescope) (u v : Term) (why : Why) → C.Then p pairs → LookedAt S (C.Open p) p.context pair x found
      → IsOwnNumber pair.0 number
      → slice_get found.member.family.constructors number ≡ Some c
      → Runs S (problem_of p.context x found.member number c) (outcome.Stuck steps context u v why)
      → C.Cause (stop.Stuck clause context u v why)
  pub not_absurd : (p : Point) (pairs : Pairs) (pair : Pat × Term) (x : ℕ) (found : Looked) (number : ℕ) (c : Constructor) (steps : List Step)
      (context : Telescope) (solution : List Term) → C.Then p pairs → LookedAt S (C.Open p) p.context pair x found
      → IsOther pair.0
      → slice_get found.member.family.constructors number ≡ Some c
      → Runs S (problem_of p.context x found.member number c) (outcome.Solved steps context solution)
      → C.Cause (stop.NotAbsurd clause found.member.n number)
  pub ends : (p : Point) (pairs : Pairs) (pair : Pat × Term) (x : ℕ) (found : Looked) → C.Then p pairs → LookedAt S (C.Open p) p.context pair x found
      → IsOther pair.0
      → AllAbsurd S p.context x found.member 0 found.member.family.constructors → C.Good (walk_at p pairs)

-- ---- the type

pub reduces-out : (S : Signature) (t : Term) (left : ℕ) (Q : TreeStop → Type 0) → ((e : Stop) → Q (Halts e)) → Holds (ReducesTo S t) Q (halting (whnf_of S true left t)).0
reduces-out S t left Q halts = by (whnf_of S true left t).0 refl
  where
    by : (r : Result Term Stop) → (whnf_of S true left t).0 ≡ r → Holds (ReducesTo S t) Q (or_halts r)
    by (Ok u) e = record { units = left; run = e }
    by (Err e) h = halts e

-- a family that is expected
pub expected-member : (S : Signature) (pat : Pat) (o : Option Member) (m : Member) → option_and_then (if_expected pat) o ≡ Some m
    → (o ≡ Some m) × (if_expected pat m ≡ Some m)
expected-member S pat None m e = absurd (grind arith)
expected-member S pat (Some d) m e =
    let same : d ≡ m = same-member pat d m e in
    (ap Some same, ap (if_expected pat) (sym same) ∙ e)
  where
    tested : (test : Bool) (d m : Member) → cond test (Some d) None ≡ Some m → d ≡ m
    tested true d m e = some_is e
    tested false d m e = absurd (grind arith)

    same-member : (pat : Pat) (d m : Member) → if_expected pat d ≡ Some m → d ≡ m
    same-member pattern.Bind d m e = some_is e
    same-member pattern.Wild d m e = some_is e
    same-member (pattern.Dot written) d m e = some_is e
    same-member (pattern.Con n number pats) d m e = tested (d.n == n) d m e
    same-member pattern.Absurd d m e = some_is e

-- the type of an open pair's variable: the found family, or WrongConstructor
pub type-holds : (S : Signature) (clause : ℕ) (O : (Pat × Term) → Type 0) (Q : TreeStop → Type 0) (context : Telescope) (pair : Pat × Term) (x left : ℕ)
    → ((e : Stop) → Q (Halts e)) → O pair → TidiesTo S pair.1 (Var x)
    → ((type : Term) → ReducesTo S (type_of_variable context x) type → option_and_then (if_expected pair.0) (member_of S type) ≡ None
    → Q (stop.WrongConstructor clause context type))
    → Holds (LookedAt S O context pair x) Q (look_at_type S clause context pair.0 x left).0
type-holds S clause O Q context pair x left halts o tidy wrong =
    and_next-holds (ReducesTo S (type_of_variable context x)) (LookedAt S O context pair x) Q (halting (whnf_of S true left (type_of_variable context x))) _
    (reduces-out S (type_of_variable context x) left Q halts) (λ type rest to.
    by type to (option_and_then (if_expected pair.0) (member_of S type)) refl)
  where
    by : (type : Term) → ReducesTo S (type_of_variable context x) type → (found : Option Member)
        → option_and_then (if_expected pair.0) (member_of S type) ≡ found → Holds (LookedAt S O context pair x) Q (looked_at clause context type found)
    by type to None e = wrong type to e
    by type to (Some m) e =
        let (there, fits) = expected-member S pair.0 (member_of S type) m e in
        record { is_open = o; tidies = tidy; reduces = to; member = there; expected = fits }

-- ---- the outcomes

solved-holds : (S : Signature) (clause : ℕ) (C : Claims) (p : Point) (pairs : Pairs) (context : Telescope) (solution : List Term) → ((e : Stop) → C.Cause (Halts e))
    → C.Before (moved_point p context solution) (moved_pairs solution pairs)
    → Holds (TurnHas C p pairs) C.Cause (or_halts (solved_pairs p pairs context solution))
solved-holds S clause C p pairs context solution halts h =
    first (are_low next.context && (is_low next.goal && (are_low next.substitution && are_low next.terms)))
  where
    next : Point
    next = moved_point p context solution

    second : (low : Bool) → Holds (TurnHas C p pairs) C.Cause
        (or_halts (and_then (cond low (Ok (moved_pairs solution pairs)) (Err Deep)) (λ moved. Ok (Goes (moved_point p context solution) moved))))
    second true = h
    second false = halts Deep

    first : (low : Bool) → Holds (TurnHas C p pairs) C.Cause
        (or_halts (and_then (cond low (Ok (moved_point p context solution)) (Err Deep)) (λ next.
        and_then (bounded_pairs (moved_pairs solution pairs)) (λ moved. Ok (Goes next moved)))))
    first true = second (are_low_pairs (moved_pairs solution pairs))
    first false = halts Deep

found-holds : (C : Claims) (clause : ℕ) (p : Point) (pairs : Pairs) (r : Result Turn TreeStop) → Holds (TurnHas C p pairs) C.Cause r
    → Holds (LookHas (TurnHas C p pairs) C.Cause clause) C.Cause (and_then r (λ turn. Ok (Found turn)))
found-holds C clause p pairs (Ok turn) h = h
found-holds C clause p pairs (Err e) h = h

own-holds : (S : Signature) (clause : ℕ) (C : Claims) (p : Point) (pairs : Pairs) (pair : Pat × Term) (x : ℕ) (found : Looked) (n number : ℕ) (pats : Pats)
    (c : Constructor) (o : Outcome) → Outcomes S clause C → C.Then p pairs → LookedAt S (C.Open p) p.context pair x found → pair.0 ≡ pattern.Con n number pats
    → slice_get found.member.family.constructors number ≡ Some c → Runs S (problem_of p.context x found.member number c) o
    → Holds (LookHas (TurnHas C p pairs) C.Cause clause) C.Cause (own_outcome clause p pairs o)
own-holds S clause C p pairs pair x found n number pats c (outcome.Solved steps context solution) K h at is there runs =
    found-holds C clause p pairs (or_halts (solved_pairs p pairs context (solution_for p solution)))
    (solved-holds S clause C p pairs context (solution_for p solution) K.halts
    (K.solved p pairs pair x found n number pats c steps context solution h at is there runs))
own-holds S clause C p pairs pair x found n number pats c (outcome.Absurd steps context u v) K h at is there runs =
    K.impossible p pairs pair x found n number pats c steps context u v h at is there runs
own-holds S clause C p pairs pair x found n number pats c (outcome.Stuck steps context u v why) K h at is there runs =
    K.stuck p pairs pair x found number c steps context u v why h at (subst (λ pat. IsOwnNumber pat number) (sym is) refl) there runs

run_own-holds : (S : Signature) (clause : ℕ) (C : Claims) (p : Point) (pairs : Pairs) (pair : Pat × Term) (x : ℕ) (found : Looked) (n number : ℕ) (pats : Pats)
    (c : Option Constructor) (left : ℕ) → Outcomes S clause C → C.Then p pairs → LookedAt S (C.Open p) p.context pair x found → pair.0 ≡ pattern.Con n number pats
    → slice_get found.member.family.constructors number ≡ c
    → Holds (LookHas (TurnHas C p pairs) C.Cause clause) C.Cause (run_own S clause p pairs x found number c left).0
run_own-holds S clause C p pairs pair x found n number pats None left K h at is there = K.no_number p pairs pair x found n number pats h at is there
run_own-holds S clause C p pairs pair x found n number pats (Some c) left K h at is there =
    and_next-holds (Runs S (problem_of p.context x found.member number c)) (LookHas (TurnHas C p pairs) C.Cause clause) C.Cause
    (halting (unify_of S (problem_of p.context x found.member number c) left)) _
    (runs-out S (problem_of p.context x found.member number c) left C.Cause K.halts)
    (λ o rest runs. own-holds S clause C p pairs pair x found n number pats c o K h at is there runs)

absurd-holds : (S : Signature) (clause : ℕ) (C : Claims) (p : Point) (pairs : Pairs) (pair : Pat × Term) (x : ℕ) (found : Looked) (runs : Look (List Ran))
    → Outcomes S clause C → C.Then p pairs → LookedAt S (C.Open p) p.context pair x found → IsOther pair.0
    → RunHas S p.context x found.member 0 found.member.family.constructors runs
    → Holds (LookHas (TurnHas C p pairs) C.Cause clause) C.Cause (absurd_outcome clause found.member.n runs)
absurd-holds S clause C p pairs pair x found (Passed r) K h at other has =
    let from_zero : 0 + has.place ≡ has.place = omega arith in
    K.stuck p pairs pair x found has.place has.c has.steps r.context r.left r.right r.why h at (other-tried pair.0 has.place other) has.there
    (subst (λ j. Runs S (problem_of p.context x found.member j has.c) (outcome.Stuck has.steps r.context r.left r.right r.why)) from_zero has.runs)
absurd-holds S clause C p pairs pair x found (Found runs) K h at other has =
    by (first_solved 0 runs) (first-has S p.context x found.member 0 found.member.family.constructors runs has)
  where
    by : (k : Option ℕ) → FirstHas S p.context x found.member 0 found.member.family.constructors k
        → Holds (LookHas (TurnHas C p pairs) C.Cause clause) C.Cause (no_constructor clause found.member.n k)
    by None all = K.ends p pairs pair x found h at other all
    by (Some k) first =
        let from_zero : 0 + first.place ≡ first.place = omega arith in
        subst (λ j. C.Cause (stop.NotAbsurd clause found.member.n j)) (sym (first.at ∙ from_zero))
        (K.not_absurd p pairs pair x found first.place first.c first.steps first.new first.solution h at other first.there
        (subst (λ j. Runs S (problem_of p.context x found.member j first.c) (outcome.Solved first.steps first.new first.solution)) from_zero first.runs))

all-hold : (S : Signature) (clause : ℕ) (C : Claims) (p : Point) (pairs : Pairs) (pair : Pat × Term) (x : ℕ) (found : Looked) (left : ℕ)
    → Outcomes S clause C → C.Then p pairs → LookedAt S (C.Open p) p.context pair x found → IsOther pair.0
    → Holds (LookHas (TurnHas C p pairs) C.Cause clause) C.Cause
    (and_next (run_all S p.context x found.member 0 found.member.family.constructors left) (λ runs rest. answers (absurd_outcome clause found.member.n runs) rest)).0
all-hold S clause C p pairs pair x found left K h at other =
    and_next-holds (RunHas S p.context x found.member 0 found.member.family.constructors) (LookHas (TurnHas C p pairs) C.Cause clause) C.Cause
    (run_all S p.context x found.member 0 found.member.family.constructors left) _
    (all-run S p.context x found.member 0 found.member.family.constructors left C.Cause K.halts)
    (λ runs rest has. absurd-holds S clause C p pairs pair x found runs K h at other has)

pattern-holds : (S : Signature) (clause : ℕ) (C : Claims) (p : Point) (pairs : Pairs) (pair : Pat × Term) (x : ℕ) (found : Looked) (pat : Pat) (left : ℕ)
    → Outcomes S clause C → C.Then p pairs → LookedAt S (C.Open p) p.context pair x found → pair.0 ≡ pat
    → Holds (LookHas (TurnHas C p pairs) C.Cause clause) C.Cause (run_pattern S clause p pairs x found pat left).0
pattern-holds S clause C p pairs pair x found (pattern.Con n number pats) left K h at is =
    run_own-holds S clause C p pairs pair x found n number pats (slice_get found.member.family.constructors number) left K h at is refl
pattern-holds S clause C p pairs pair x found pattern.Absurd left K h at is = all-hold S clause C p pairs pair x found left K h at (subst IsOther (sym is) tt)
pattern-holds S clause C p pairs pair x found pattern.Bind left K h at is = all-hold S clause C p pairs pair x found left K h at (subst IsOther (sym is) tt)
pattern-holds S clause C p pairs pair x found pattern.Wild left K h at is = all-hold S clause C p pairs pair x found left K h at (subst IsOther (sym is) tt)
pattern-holds S clause C p pairs pair x found (pattern.Dot written) left K h at is = all-hold S clause C p pairs pair x found left K h at (subst IsOther (sym is) tt)

pub look-holds : (S : Signature) (clause : ℕ) (C : Claims) → Outcomes S clause C → (p : Point) (pairs : Pairs) → C.Then p pairs
    → LookHolds (TurnHas C p pairs) C.Cause (C.Open p) S clause (look S clause p pairs)
look-holds S clause C K p pairs h = λ pair x left o tidy.
    and_next-holds (LookedAt S (C.Open p) p.context pair x) (LookHas (TurnHas C p pairs) C.Cause clause) C.Cause
    (look_at_type S clause p.context pair.0 x left) _
    (type-holds S clause (C.Open p) C.Cause p.context pair x left K.halts o tidy (λ type to none. K.wrong p pairs pair x type h o tidy to none))
    (λ found rest at. pattern-holds S clause C p pairs pair x found pair.0 rest K h at refl)
