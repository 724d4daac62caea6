-- A walk goes on as it began: the constructor and absurd patterns that are left become fewer at each turn, so that the measure is never
-- used up.
use Rattle.std.proofs.Common.{◌≡◌, ℕ, zero, suc, ◌≤◌, false, Option, Some, None, Result, Ok, Err, List, [], ◌∷◌, length, refl, sym, subst as transport, arith}
use Rattle.std.specs.List.{All}
use Rattle.theory.specs.Terms.{Term}
use Rattle.theory.specs.Signatures.{Signature}
use Rattle.theory.specs.SignatureScopes.{IsScoped, IsScopedTelescope}
use Rattle.core_terms.specs.Answers.{and_next, on_answer}
use Rattle.core_terms.specs.Patterns.{Pat}
use Rattle.unification.specs.ScopedStates.{IsReady}
use Rattle.case_trees.specs.Keeping.{keep_all}
use Rattle.case_trees.specs.Laws.{WalkGoesOn}
use Rattle.case_trees.specs.Looking.{first_found}
use Rattle.case_trees.specs.OwnWalks.{Turn, Goes, Ends, look, Walking, behind_turn, at_pairs, unless_dropped, one_turn, nowhere, by_patterns, walk_from}
use Rattle.case_trees.specs.HeadSteps.{HasConstructor}
use Rattle.case_trees.specs.Pairs.{Pairs, terms_in, some_clashes, first_clash, all_open, all_with_terms, all_left}
use Rattle.case_trees.specs.Points.{Point, point_keeping, under_solution, moved_pairs, solution_for}
use Rattle.case_trees.specs.Stops.{TreeStop, Stopping, or_halts, halting, answers}
use Rattle.case_trees.specs.Working.{of_columns, work_pairs}
use Rattle.case_trees.proofs.Answered.{Holds}
use Rattle.case_trees.proofs.LeftPatterns.{SomeOpenIn, all-fewer, all-there, some-left, all-falls}
use Rattle.case_trees.proofs.Looks.{AllPairs, first-holds}
use Rattle.case_trees.proofs.OwnPlaces.{IsAsking, HasNone, all-worked}
use Rattle.case_trees.proofs.ScopedWorking.{all-become-scoped}
use Rattle.case_trees.proofs.SplitConstructors.{solution-puts, put-scoped, pairs-scoped}
use Rattle.case_trees.proofs.WalkLooks.{Outcomes, look-holds}
use Rattle.case_trees.proofs.WalkStanding.{pairs-weaker, pairs-both, all-open-scoped, open-asks}
use Rattle.case_trees.proofs.WalkTurns.{no-clashes, Claims, TurnHas, keeping-holds, become-holds}
use Rattle.case_trees.proofs.Workings.{AllBecome}

-- ---- calls that go on alike

on_answer-same : {A B : Type 0} (P : A → Type 0) (r : Result A TreeStop) (rest : ℕ) (go other : A → ℕ → Stopping B) → Holds P (λ e. Unit {0}) r
    → ((a : A) (rest : ℕ) → P a → go a rest ≡ other a rest) → on_answer r rest go ≡ on_answer r rest other
on_answer-same P (Ok a) rest go other h k = k a rest h
on_answer-same P (Err e) rest go other h k = refl

pub and_next-same : {A B : Type 0} (P : A → Type 0) (first : Stopping A) (go other : A → ℕ → Stopping B) → Holds P (λ e. Unit {0}) first.0
    → ((a : A) (rest : ℕ) → P a → go a rest ≡ other a rest) → and_next first go ≡ and_next first other
and_next-same P first go other h k = on_answer-same P first.0 first.1 go other h k

-- ---- an open pair

-- a scoped open pair that asks for a constructor
pub record AsksIn (S : Signature) (n : ℕ) (pairs : Pairs) (pair : Pat × Term) : Type 0 where
  pub scoped : IsScoped S n pair.1
  pub there : SomeOpenIn pairs pair.0 pair.1
  pub asks : IsAsking pair.0

-- all open pairs of worked ones
pub all-ask : (S : Signature) (n : ℕ) (pairs new : Pairs) → AllBecome S pairs new → some_clashes new ≡ false → All (IsScoped S n) (terms_in new)
    → AllPairs (AsksIn S n new) (all_open new)
all-ask S n pairs new all clean scoped =
    pairs-weaker (λ o. IsScoped S n o.1 × (SomeOpenIn new o.0 o.1 × (IsAsking o.0 × HasNone S o.1))) (AsksIn S n new) (all_open new)
    (λ o is. record { scoped = is.0; there = is.1.0; asks = is.1.1.0 })
    (pairs-both (λ o. IsScoped S n o.1) (λ o. SomeOpenIn new o.0 o.1 × (IsAsking o.0 × HasNone S o.1)) (all_open new)
    (all-open-scoped S n new scoped)
    (pairs-both (λ o. SomeOpenIn new o.0 o.1) (λ o. IsAsking o.0 × HasNone S o.1) (all_open new) (all-there new)
    (open-asks S new (all-worked S pairs new all clean))))

-- ---- the patterns that are left

-- however the pairs are worked, at most so many patterns are left
abbrev LeavesAtMost : Signature → Pairs → ℕ → Type 0
LeavesAtMost S pairs k = (new : Pairs) → AllBecome S pairs new → some_clashes new ≡ false → all_left new ≤ k

-- scoped pairs that leave fewer patterns than so many
record LeavesFewer (S : Signature) (n : ℕ) (pairs : Pairs) (k : ℕ) : Type 0 where
  scoped : All (IsScoped S n) (terms_in pairs)
  some : 1 ≤ k
  falls : (new : Pairs) → AllBecome S pairs new → some_clashes new ≡ false → suc (all_left new) ≤ k

-- A walk goes on from worked pairs to fewer patterns; nothing is said of its end.
abbrev leading : Signature → Pairs → Claims
leading S pairs = record {
  Before = λ next moved. IsScopedTelescope S 0 next.context × LeavesFewer S (length next.context) moved (all_left pairs);
  Then = λ p now. IsScopedTelescope S 0 p.context × (All (IsScoped S (length p.context)) (terms_in pairs) × (now ≡ pairs));
  Good = λ w. Unit {0};
  Cause = λ e. Unit {0};
  Open = λ p pair. AsksIn S (length p.context) pairs pair;
}

-- after the solution of a pair that asks, fewer patterns are left
pub fewer-left : (S : Signature) (n number : ℕ) (f : Term → Term) (pairs : Pairs) (pair : Pat × Term) (m : ℕ) → AsksIn S m pairs pair → HasConstructor S n number (f pair.1)
    → (new : Pairs) → AllBecome S (all_with_terms f pairs) new → some_clashes new ≡ false → suc (all_left new) ≤ all_left pairs
fewer-left S n number f pairs pair m asks has new all clean = all-falls S n number f pairs new pair.0 pair.1 asks.there asks.asks has all clean

leads : (S : Signature) (clause : ℕ) (pairs : Pairs) → IsReady S → Outcomes S clause (leading S pairs)
leads S clause pairs ready = record {
  halts = λ e. tt;
  wrong = λ p now pair x type h o tidy to none. tt;
  no_number = λ p now pair x found n number pats h at is none. tt;
  solved = λ p now pair x found n number pats c steps context solution h at is there runs.
      (let put = solution-puts S (AsksIn S (length p.context) pairs) p.context pair x found number c steps context solution ready h.0 at.is_open.scoped at there runs in
      let moved = transport
      (λ (qs : Pairs). LeavesFewer S (length context) (moved_pairs (solution_for p solution) qs) (all_left pairs)) (sym h.1.1)
      (record {
        scoped = put-scoped S p.context pair.1 found.member.n number context solution pairs put h.1.0;
        some = some-left pairs pair.0 pair.1 at.is_open.there at.is_open.asks;
        falls = fewer-left S found.member.n number (under_solution (solution_for p solution)) pairs pair (length p.context) at.is_open put.has;
      }) in
      (put.context_scoped, moved));
  impossible = λ p now pair x found n number pats c steps context u v h at is there runs. tt;
  stuck = λ p now pair x found number c steps context u v why h at tried there runs. tt;
  not_absurd = λ p now pair x found number c steps context solution h at other there runs. tt;
  ends = λ p now pair x found h at other all. tt;
}

-- ---- walks that go on alike

-- where worked pairs lead to, both go on alike
abbrev GoAlike : Signature → (go other : Walking) → Pairs → Type 0
GoAlike S go other pairs =
    (next : Point) (moved : Pairs) (rest : ℕ) → IsScopedTelescope S 0 next.context → LeavesFewer S (length next.context) moved (all_left pairs)
    → go next moved rest ≡ other next moved rest

turn-same : (S : Signature) (go other : Walking) (p : Point) (pairs : Pairs) (turn : Turn) (left : ℕ) → GoAlike S go other pairs
    → TurnHas (leading S pairs) p pairs turn → behind_turn go p pairs turn left ≡ behind_turn other p pairs turn left
turn-same S go other p pairs (Goes next moved) left alike has = alike next moved left has.0 has.1
turn-same S go other p pairs Ends left alike has = refl

pairs-same : (S : Signature) (clause : ℕ) (go other : Walking) (p : Point) (pairs : Pairs) (open_pairs : List (Pat × Term)) (left : ℕ) → IsReady S
    → IsScopedTelescope S 0 p.context → All (IsScoped S (length p.context)) (terms_in pairs) → AllPairs (AsksIn S (length p.context) pairs) open_pairs
    → GoAlike S go other pairs → at_pairs S clause go p pairs open_pairs left ≡ at_pairs S clause other p pairs open_pairs left
pairs-same S clause go other p pairs [] left ready context scoped ask alike = refl
pairs-same S clause go other p pairs (pair ∷ others) left ready context scoped ask alike =
    let C = leading S pairs in
    and_next-same (TurnHas C p pairs) (first_found S clause p.context (look S clause p pairs) (pair ∷ others) None None left)
    (behind_turn go p pairs) (behind_turn other p pairs)
    (first-holds (TurnHas C p pairs) (λ e. Unit {0}) (AsksIn S (length p.context) pairs) S clause p.context (look S clause p pairs) (pair ∷ others) (λ e. tt)
    ask (look-holds S clause C (leads S clause pairs ready) p pairs (context, (scoped, refl))) (λ pair u o to e. tt) None None left tt tt)
    (λ turn rest has. turn-same S go other p pairs turn rest alike has)

dropped-same : (S : Signature) (clause : ℕ) (go other : Walking) (p : Point) (pairs new : Pairs) (clash : Option (Pat × Term)) (left : ℕ) → IsReady S
    → IsScopedTelescope S 0 p.context → All (IsScoped S (length p.context)) (terms_in new) → AllBecome S pairs new → first_clash new ≡ clash
    → (some_clashes new ≡ false → GoAlike S go other new)
    → unless_dropped S clause go p new clash left ≡ unless_dropped S clause other p new clash left
dropped-same S clause go other p pairs new (Some clash) left ready context scoped all e alike = refl
dropped-same S clause go other p pairs new None left ready context scoped all e alike =
    let clean = no-clashes new e in
    and_next-same (λ (next : Point). next.context ≡ p.context) (answers (or_halts (point_keeping S p new)) left) _ _
    (keeping-holds S (λ (next : Point). next.context ≡ p.context) (λ e. Unit {0}) (record p { terms = keep_all S new p.terms }) (λ e. tt) refl)
    (λ next rest same.
    pairs-same S clause go other next new (all_open new) rest ready (transport (IsScopedTelescope S 0) (sym same) context)
    (transport (λ (c : List Term). All (IsScoped S (length c)) (terms_in new)) (sym same) scoped)
    (transport (λ (c : List Term). AllPairs (AsksIn S (length c) new) (all_open new)) (sym same) (all-ask S (length p.context) pairs new all clean scoped))
    (alike clean))

one-same : (S : Signature) (clause : ℕ) (go other : Walking) (p : Point) (pairs : Pairs) (left : ℕ) → IsReady S → IsScopedTelescope S 0 p.context
    → All (IsScoped S (length p.context)) (terms_in pairs)
    → ((new : Pairs) → AllBecome S pairs new → some_clashes new ≡ false → GoAlike S go other new)
    → one_turn S clause go p pairs left ≡ one_turn S clause other p pairs left
one-same S clause go other p pairs left ready context scoped alike =
    and_next-same (AllBecome S pairs) (halting (work_pairs S of_columns pairs left)) _ _ (become-holds S pairs left (λ e. Unit {0}) (λ e. tt)) (λ new rest all.
    dropped-same S clause go other p pairs new (first_clash new) rest ready context
    (all-become-scoped S (length p.context) ready.scoped pairs new all scoped) all refl (alike new all))

-- ---- the measure

-- two measures that are great enough
by_patterns-same : (S : Signature) (clause : ℕ) → IsReady S → (k j : ℕ) (p : Point) (pairs : Pairs) (left : ℕ) → IsScopedTelescope S 0 p.context
    → All (IsScoped S (length p.context)) (terms_in pairs) → LeavesAtMost S pairs k → LeavesAtMost S pairs j
    → by_patterns S clause k p pairs left ≡ by_patterns S clause j p pairs left
by_patterns-same S clause ready zero zero p pairs left context scoped few few' = refl
by_patterns-same S clause ready zero (suc j) p pairs left context scoped few few' =
    one-same S clause nowhere (by_patterns S clause j) p pairs left ready context scoped (λ new all clean next moved rest there fewer.
    let some : 1 ≤ all_left new = fewer.some in
    let none : all_left new ≤ 0 = few new all clean in
    absurd (omega arith))
by_patterns-same S clause ready (suc k) zero p pairs left context scoped few few' =
    one-same S clause (by_patterns S clause k) nowhere p pairs left ready context scoped (λ new all clean next moved rest there fewer.
    let some : 1 ≤ all_left new = fewer.some in
    let none : all_left new ≤ 0 = few' new all clean in
    absurd (omega arith))
by_patterns-same S clause ready (suc k) (suc j) p pairs left context scoped few few' =
    one-same S clause (by_patterns S clause k) (by_patterns S clause j) p pairs left ready context scoped (λ new all clean next moved rest there fewer.
    by_patterns-same S clause ready k j next moved rest there fewer.scoped
    (λ last become clear. let less : suc (all_left last) ≤ all_left new = fewer.falls last become clear in
    let most : all_left new ≤ suc k = few new all clean in omega arith)
    (λ last become clear. let less : suc (all_left last) ≤ all_left new = fewer.falls last become clear in
    let most : all_left new ≤ suc j = few' new all clean in omega arith))

pub walk_goes_on : WalkGoesOn
walk_goes_on = λ S number p binds pairs left ready point scoped.
    by S number p pairs left ready point.context (pairs-scoped S (length p.context) binds pairs scoped) (all_left pairs) refl
  where
    by : (S : Signature) (number : ℕ) (p : Point) (pairs : Pairs) (left : ℕ) → IsReady S → IsScopedTelescope S 0 p.context
        → All (IsScoped S (length p.context)) (terms_in pairs) → (k : ℕ) → all_left pairs ≡ k
        → by_patterns S number k p pairs left ≡ one_turn S number (walk_from S number) p pairs left
    by S number p pairs left ready context scoped zero e =
        one-same S number nowhere (walk_from S number) p pairs left ready context scoped (λ new all clean next moved rest there fewer.
        let some : 1 ≤ all_left new = fewer.some in
        absurd (omega (arith, all-fewer S pairs new all)))
    by S number p pairs left ready context scoped (suc k) e =
        one-same S number (by_patterns S number k) (walk_from S number) p pairs left ready context scoped (λ new all clean next moved rest there fewer.
        by_patterns-same S number ready k (all_left moved) next moved rest there fewer.scoped
        (λ last become clear. let less : suc (all_left last) ≤ all_left new = fewer.falls last become clear in
        omega (arith, all-fewer S pairs new all))
        (λ last become clear. all-fewer S moved last become))
