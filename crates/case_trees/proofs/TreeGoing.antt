-- A tree goes on as it began in each of its branches: the measure is never used up.
use Rattle.std.proofs.Common.{◌≡◌, ℕ, zero, suc, ◌+◌, ◌≤◌, Some, None, Result, Ok, Err, IfOk, List, [], ◌∷◌, length, take, slice_get, refl, sym, subst as transport, arith}
use Rattle.std.proofs.lemmas.List.Elements.{All-head, All-tail}
use Rattle.std.specs.List.{All}
use Rattle.theory.specs.Terms.{Term}
use Rattle.theory.specs.Telescopes.{Telescope}
use Rattle.theory.specs.Families.{Constructor}
use Rattle.theory.specs.Signatures.{Signature}
use Rattle.theory.specs.SignatureScopes.{IsScopedTelescope}
use Rattle.core_terms.specs.Answers.{and_then}
use Rattle.core_terms.specs.Patterns.{Pat}
use Rattle.core_terms.specs.declared.stop.Stop.{Stop}
use Rattle.unification.specs.Outcomes as outcome
use Rattle.unification.specs.Outcomes.{Outcome}
use Rattle.unification.specs.ScopedStates.{IsReady}
use Rattle.case_trees.specs.Laws.{TreeGoesOn}
use Rattle.case_trees.specs.Looking.{Look, Found, Passed, Looked, Ran, first_found, look_at_type, run_all}
use Rattle.case_trees.specs.Pairs.{Pairs, all_open}
use Rattle.case_trees.specs.Points.{Point, bounded_point, moved_point, under_solution, solution_for}
use Rattle.case_trees.specs.Problems.{problem_of}
use Rattle.case_trees.specs.Scoped.{AreScopedPairs}
use Rattle.case_trees.specs.Standing.{Runs}
use Rattle.case_trees.specs.Stops.{TreeStop, or_halts, answers}
use Rattle.case_trees.specs.Trees.{Live, Node, SplitAt, as_split, look, patterns_left, worked, moved_live, solved_node, Growing, branch_by, grow_branches, split_at, by_first, by_live, one_node, nowhere, by_patterns, tree_from}
use Rattle.case_trees.proofs.Answered.{Holds, and_next-holds}
use Rattle.case_trees.proofs.LeftPatterns.{some-left}
use Rattle.case_trees.proofs.LiveClauses.{AreLiveScoped}
use Rattle.case_trees.proofs.LiveGoing.{LiveBecome, drops, keeps, IsWorkedTo, worked-becomes, live-fewer, live-become-scoped, live_with_terms, moved-is, live-falls}
use Rattle.case_trees.proofs.Looks.{AllPairs, LookHas, LookHolds, first-holds}
use Rattle.case_trees.proofs.Running.{AllRun, RunHas, all-run}
use Rattle.case_trees.proofs.SplitConstructors.{IsPut, solution-puts, put-scoped, pairs-scoped}
use Rattle.case_trees.proofs.WalkGoing.{and_next-same, AsksIn, all-ask}
use Rattle.case_trees.proofs.WalkLooks.{LookedAt, type-holds}
use Rattle.case_trees.proofs.WalkTurns.{keeping-holds}

-- ---- where a node is split

-- an open pair of the clause asks there, and all constructors are run
record IsSplitFor (S : Signature) (p : Point) (pairs : Pairs) (s : SplitAt) : Type 0 where
  pair : Pat × Term
  at : LookedAt S (AsksIn S (length p.context) pairs) p.context pair s.variable s.looked
  runs : AllRun S p.context s.variable s.looked.member 0 s.looked.member.family.constructors s.runs

looks-for : (S : Signature) (clause : ℕ) (p : Point) (pairs : Pairs)
    → LookHolds (IsSplitFor S p pairs) (λ e. Unit {0}) (AsksIn S (length p.context) pairs) S clause (look S clause p.context)
looks-for S clause p pairs = λ pair x left o tidy.
    and_next-holds (LookedAt S (AsksIn S (length p.context) pairs) p.context pair x) (LookHas (IsSplitFor S p pairs) (λ e. Unit {0}) clause) (λ e. Unit {0})
    (look_at_type S clause p.context pair.0 x left) _
    (type-holds S clause (AsksIn S (length p.context) pairs) (λ e. Unit {0}) p.context pair x left (λ e. tt) o tidy (λ type to none. tt)) (λ found rest at.
    and_next-holds (RunHas S p.context x found.member 0 found.member.family.constructors) (LookHas (IsSplitFor S p pairs) (λ e. Unit {0}) clause) (λ e. Unit {0})
    (run_all S p.context x found.member 0 found.member.family.constructors rest) _
    (all-run S p.context x found.member 0 found.member.family.constructors rest (λ e. Unit {0}) (λ e. tt))
    (λ runs end has. by pair x found at runs has))
  where
    by : (pair : Pat × Term) (x : ℕ) (found : Looked) → LookedAt S (AsksIn S (length p.context) pairs) p.context pair x found → (runs : Look (List Ran))
        → RunHas S p.context x found.member 0 found.member.family.constructors runs → LookHas (IsSplitFor S p pairs) (λ e. Unit {0}) clause (as_split x found runs)
    by pair x found at (Found runs) has = record { pair = pair; at = at; runs = has }
    by pair x found at (Passed r) has = tt

-- ---- patterns that are left in a branch

-- however the clauses are worked, at most so many patterns are left
abbrev LeaveAtMost : Signature → List Live → ℕ → Type 0
LeaveAtMost S live k = (new : List Live) → LiveBecome S live new → patterns_left new ≤ k

-- clauses with scoped terms that leave fewer patterns than so many
record LeaveFewer (S : Signature) (n : ℕ) (live : List Live) (k : ℕ) : Type 0 where
  scoped : AreLiveScoped S n live
  some : 1 ≤ k
  falls : (new : List Live) → LiveBecome S live new → suc (patterns_left new) ≤ k

-- where worked clauses lead to, both go on alike
abbrev GrowAlike : Signature → (go other : Growing) → List Live → Type 0
GrowAlike S go other live =
    (next : Point) (moved : List Live) (rest : ℕ) → IsScopedTelescope S 0 next.context → LeaveFewer S (length next.context) moved (patterns_left live)
    → go next moved rest ≡ other next moved rest

-- a node after a solution
abbrev IsFewer : Signature → (k : ℕ) → Node → Type 0
IsFewer S k node = IsScopedTelescope S 0 node.point.context × LeaveFewer S (length node.point.context) node.live k

live-put-scoped : (S : Signature) (context : Telescope) (t : Term) (n number : ℕ) (new : Telescope) (solution : List Term) (live : List Live)
    → IsPut S context t n number new solution → AreLiveScoped S (length context) live
    → AreLiveScoped S (length new) (live_with_terms (under_solution (take (length context) solution)) live)
live-put-scoped S context t n number new solution [] put h = tt
live-put-scoped S context t n number new solution (c ∷ live) put h =
    (put-scoped S context t n number new solution c.pairs put h.0, live-put-scoped S context t n number new solution live put h.1)

solved-fewer : (S : Signature) (p : Point) (c : Live) (live : List Live) (pair : Pat × Term) (n number : ℕ) (context : Telescope) (solution : List Term)
    → AsksIn S (length p.context) c.pairs pair → IsPut S p.context pair.1 n number context solution → AreLiveScoped S (length p.context) (c ∷ live)
    → Holds (IsFewer S (patterns_left (c ∷ live))) (λ e. Unit {0}) (or_halts (solved_node p (c ∷ live) context (solution_for p solution)))
solved-fewer S p c live pair n number context solution asks put scoped =
    by (bounded_point next) (moved_live (solution_for p solution) (c ∷ live)) (bounded-context next) (moved-is (solution_for p solution) (c ∷ live))
  where
    next : Point
    next = moved_point p context (solution_for p solution)

    bounded-context : (q : Point) → Holds (λ (r : Point). r.context ≡ q.context) (λ e. Unit {0}) (or_halts (bounded_point q))
    bounded-context q = keeping-holds S (λ (r : Point). r.context ≡ q.context) (λ e. Unit {0}) q (λ e. tt) refl

    fewer : (moved : List Live) → moved ≡ live_with_terms (under_solution (solution_for p solution)) (c ∷ live)
        → LeaveFewer S (length context) moved (patterns_left (c ∷ live))
    fewer moved same =
        transport (λ ls. LeaveFewer S (length context) ls (patterns_left (c ∷ live))) (sym same)
        (record {
          scoped = live-put-scoped S p.context pair.1 n number context solution (c ∷ live) put scoped;
          some = omega (arith, some-left c.pairs pair.0 pair.1 asks.there asks.asks);
          falls = λ new become.
              live-falls S n number (length p.context) (under_solution (solution_for p solution)) c live new pair asks put.has become;
        })

    by : (first : Result Point Stop) (moved : Result (List Live) Stop) → Holds (λ (r : Point). r.context ≡ context) (λ e. Unit {0}) (or_halts first)
        → IfOk moved (λ ls. ls ≡ live_with_terms (under_solution (solution_for p solution)) (c ∷ live))
        → Holds (IsFewer S (patterns_left (c ∷ live))) (λ e. Unit {0})
        (or_halts (and_then first (λ q. and_then moved (λ ls. Ok (record { point = q; live = ls })))))
    by (Ok q) (Ok ls) same is =
        transport (λ (G : Telescope). IsScopedTelescope S 0 G × LeaveFewer S (length G) ls (patterns_left (c ∷ live))) (sym same)
        (put.context_scoped, fewer ls is)
    by (Ok q) (Err e) same is = tt
    by (Err e) moved same is = tt

-- ---- branches

branch-same : (S : Signature) (go other : Growing) (p : Point) (c : Live) (live : List Live) (s : SplitAt) (number : ℕ) (d : Constructor) (run : Ran) (o : Outcome)
    (left : ℕ) → IsReady S → IsScopedTelescope S 0 p.context → AreLiveScoped S (length p.context) (c ∷ live) → IsSplitFor S p c.pairs s
    → slice_get s.looked.member.family.constructors number ≡ Some d → Runs S (problem_of p.context s.variable s.looked.member number d) o
    → GrowAlike S go other (c ∷ live) → branch_by go p (c ∷ live) run o left ≡ branch_by other p (c ∷ live) run o left
branch-same S go other p c live s number d run (outcome.Absurd steps context u v) left ready context_scoped scoped split there runs alike = refl
branch-same S go other p c live s number d run (outcome.Stuck steps context u v why) left ready context_scoped scoped split there runs alike = refl
branch-same S go other p c live s number d run (outcome.Solved steps context solution) left ready context_scoped scoped split there runs alike =
    let put = solution-puts S (AsksIn S (length p.context) c.pairs) p.context split.pair s.variable s.looked number d steps context solution ready context_scoped
    split.at.is_open.scoped split.at there runs in
    and_next-same (IsFewer S (patterns_left (c ∷ live))) (answers (or_halts (solved_node p (c ∷ live) context (solution_for p solution))) left) _ _
    (solved-fewer S p c live split.pair s.looked.member.n number context solution split.at.is_open put scoped) (λ node rest fewer.
    rw (alike node.point node.live rest fewer.0 fewer.1) refl)

branches-same : (S : Signature) (go other : Growing) (p : Point) (c : Live) (live : List Live) (s : SplitAt) (number : ℕ) (cs : List Constructor) (runs : List Ran)
    (left : ℕ) → IsReady S → IsScopedTelescope S 0 p.context → AreLiveScoped S (length p.context) (c ∷ live) → IsSplitFor S p c.pairs s
    → ((j : ℕ) (d : Constructor) → slice_get cs j ≡ Some d → slice_get s.looked.member.family.constructors (number + j) ≡ Some d)
    → AllRun S p.context s.variable s.looked.member number cs runs → GrowAlike S go other (c ∷ live)
    → grow_branches go p (c ∷ live) runs left ≡ grow_branches other p (c ∷ live) runs left
branches-same S go other p c live s number [] [] left ready context scoped split at all alike = refl
branches-same S go other p c live s number [] (run ∷ runs) left ready context scoped split at all alike = absurd all
branches-same S go other p c live s number (d ∷ cs) [] left ready context scoped split at all alike = absurd all
branches-same S go other p c live s number (d ∷ cs) (run ∷ runs) left ready context scoped split at all alike =
    let here : number + 0 ≡ number = omega arith in
    let there : slice_get s.looked.member.family.constructors number ≡ Some d =
    transport (λ k. slice_get s.looked.member.family.constructors k ≡ Some d) here (at 0 d refl) in
    rw (branch-same S go other p c live s number d run run.outcome left ready context scoped split there all.0.runs alike)
    (and_next-same (λ branch. Unit {0}) (branch_by other p (c ∷ live) run run.outcome left) _ _ (any-holds (branch_by other p (c ∷ live) run run.outcome left).0)
    (λ branch rest any.
    rw (branches-same S go other p c live s (number + 1) cs runs rest ready context scoped split
    (λ j d e. let next : number + suc j ≡ number + 1 + j = omega arith in
    transport (λ k. slice_get s.looked.member.family.constructors k ≡ Some d) next (at (suc j) d e)) all.1 alike) refl))
  where
    any-holds : {A : Type 0} (r : Result A TreeStop) → Holds (λ a. Unit {0}) (λ e. Unit {0}) r
    any-holds (Ok a) = tt
    any-holds (Err e) = tt

-- ---- nodes

first-same : (S : Signature) (go other : Growing) (p : Point) (c : Live) (live : List Live) (pairs : List (Pat × Term)) (left : ℕ) → IsReady S
    → IsScopedTelescope S 0 p.context → AreLiveScoped S (length p.context) (c ∷ live) → AllPairs (AsksIn S (length p.context) c.pairs) pairs
    → GrowAlike S go other (c ∷ live) → by_first S go p c live pairs left ≡ by_first S other p c live pairs left
first-same S go other p c live [] left ready context scoped ask alike = refl
first-same S go other p c live (pair ∷ others) left ready context scoped ask alike =
    and_next-same (IsSplitFor S p c.pairs) (first_found S c.number p.context (look S c.number p.context) (pair ∷ others) None None left)
    (split_at go p (c ∷ live)) (split_at other p (c ∷ live))
    (first-holds (IsSplitFor S p c.pairs) (λ e. Unit {0}) (AsksIn S (length p.context) c.pairs) S c.number p.context (look S c.number p.context) (pair ∷ others)
    (λ e. tt) ask (looks-for S c.number p c.pairs) (λ pair u o to e. tt) None None left tt tt)
    (λ s rest split.
    rw (branches-same S go other p c live s 0 s.looked.member.family.constructors s.runs rest ready context scoped split
    (λ j d e. let place : j ≡ 0 + j = omega arith in
    transport (λ k. slice_get s.looked.member.family.constructors k ≡ Some d) place e) split.runs alike) refl)

live-same : (S : Signature) (go other : Growing) (p : Point) (live new : List Live) (left : ℕ) → IsReady S → IsScopedTelescope S 0 p.context
    → AreLiveScoped S (length p.context) new → LiveBecome S live new → GrowAlike S go other new → by_live S go p new left ≡ by_live S other p new left
live-same S go other p live [] left ready context scoped become alike = refl
live-same S go other p live (c ∷ new) left ready context scoped become alike =
    first-same S go other p c new (all_open c.pairs) left ready context scoped (asked live become) alike
  where
    asked : (live : List Live) → LiveBecome S live (c ∷ new) → AllPairs (AsksIn S (length p.context) c.pairs) (all_open c.pairs)
    asked _ (drops d live _ pairs all clash rest) = asked live rest
    asked _ (keeps d live _ pairs all clean rest) = all-ask S (length p.context) d.pairs pairs all clean scoped.0

one-same : (S : Signature) (go other : Growing) (p : Point) (live : List Live) (left : ℕ) → IsReady S → IsScopedTelescope S 0 p.context
    → AreLiveScoped S (length p.context) live → ((new : List Live) → LiveBecome S live new → GrowAlike S go other new)
    → one_node S go p live left ≡ one_node S other p live left
one-same S go other p live left ready context scoped alike =
    and_next-same (IsWorkedTo S p live) (worked S p live left) _ _ (worked-becomes S p live left) (λ node rest h.
    live-same S go other node.point live node.live rest ready (transport (IsScopedTelescope S 0) (sym h.context) context)
    (transport (λ (G : Telescope). AreLiveScoped S (length G) node.live) (sym h.context) (live-become-scoped S (length p.context) ready live node.live h.becomes scoped))
    h.becomes (alike node.live h.becomes))

-- ---- the measure

-- two measures that are great enough
by_patterns-same : (S : Signature) → IsReady S → (k j : ℕ) (p : Point) (live : List Live) (left : ℕ) → IsScopedTelescope S 0 p.context
    → AreLiveScoped S (length p.context) live → LeaveAtMost S live k → LeaveAtMost S live j
    → by_patterns S k p live left ≡ by_patterns S j p live left
by_patterns-same S ready zero zero p live left context scoped few few' = refl
by_patterns-same S ready zero (suc j) p live left context scoped few few' =
    one-same S nowhere (by_patterns S j) p live left ready context scoped (λ new become next moved rest there fewer.
    let some : 1 ≤ patterns_left new = fewer.some in
    let none : patterns_left new ≤ 0 = few new become in
    absurd (omega arith))
by_patterns-same S ready (suc k) zero p live left context scoped few few' =
    one-same S (by_patterns S k) nowhere p live left ready context scoped (λ new become next moved rest there fewer.
    let some : 1 ≤ patterns_left new = fewer.some in
    let none : patterns_left new ≤ 0 = few' new become in
    absurd (omega arith))
by_patterns-same S ready (suc k) (suc j) p live left context scoped few few' =
    one-same S (by_patterns S k) (by_patterns S j) p live left ready context scoped (λ new become next moved rest there fewer.
    by_patterns-same S ready k j next moved rest there fewer.scoped
    (λ last also. let less : suc (patterns_left last) ≤ patterns_left new = fewer.falls last also in
    let most : patterns_left new ≤ suc k = few new become in omega arith)
    (λ last also. let less : suc (patterns_left last) ≤ patterns_left new = fewer.falls last also in
    let most : patterns_left new ≤ suc j = few' new become in omega arith))

all-live-scoped : (S : Signature) (n : ℕ) (live : List Live) → All (λ (c : Live). (binds : ℕ) × AreScopedPairs S n binds c.pairs) live → AreLiveScoped S n live
all-live-scoped S n [] all = tt
all-live-scoped S n (c ∷ live) all =
    let one = All-head (λ (c : Live). (binds : ℕ) × AreScopedPairs S n binds c.pairs) c live all in (
      pairs-scoped S n one.0 c.pairs one.1,
      all-live-scoped S n live (All-tail (λ (c : Live). (binds : ℕ) × AreScopedPairs S n binds c.pairs) c live all),
    )

pub tree_goes_on : TreeGoesOn
tree_goes_on = λ S p live left ready point scoped.
    by S p live left ready point.context (all-live-scoped S (length p.context) live scoped) (patterns_left live) refl
  where
    by : (S : Signature) (p : Point) (live : List Live) (left : ℕ) → IsReady S → IsScopedTelescope S 0 p.context → AreLiveScoped S (length p.context) live
        → (k : ℕ) → patterns_left live ≡ k → by_patterns S k p live left ≡ one_node S (tree_from S) p live left
    by S p live left ready context scoped zero e =
        one-same S nowhere (tree_from S) p live left ready context scoped (λ new become next moved rest there fewer.
        let some : 1 ≤ patterns_left new = fewer.some in
        absurd (omega (arith, live-fewer S live new become)))
    by S p live left ready context scoped (suc k) e =
        one-same S (by_patterns S k) (tree_from S) p live left ready context scoped (λ new become next moved rest there fewer.
        by_patterns-same S ready k (patterns_left moved) next moved rest there fewer.scoped
        (λ last also. let less : suc (patterns_left last) ≤ patterns_left new = fewer.falls last also in
        omega (arith, live-fewer S live new become))
        (λ last also. live-fewer S moved last also))
