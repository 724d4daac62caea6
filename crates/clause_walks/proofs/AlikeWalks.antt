-- A walk sees no difference where the terms of wildcards are forgotten.
use Rattle.std.proofs.Common.{◌≡◌, ℕ, zero, suc, Bool, ◌&&◌, Option, Some, None, List, [], ◌∷◌, map, slice_get, refl, sym, ap, ap₂, subst as transport}
use Rattle.theory.specs.Terms.{Term}
use Rattle.theory.specs.Substitutions.{fill}
use Rattle.theory.specs.Eliminators.{no_variable}
use Rattle.theory.specs.Telescopes.{Telescope}
use Rattle.theory.specs.Families.{Constructor}
use Rattle.theory.specs.Signatures.{Signature}
use Rattle.core_terms.specs.Answers.{and_next, is_low, are_low}
use Rattle.core_terms.specs.Patterns as pattern
use Rattle.core_terms.specs.Patterns.{Pat}
use Rattle.core_terms.specs.CaseTrees.{Walk}
use Rattle.core_terms.specs.declared.stop.Stop.TheVariants.{Deep}
use Rattle.kernel_reduce.specs.Tidying.{tidy_of}
use Rattle.unification.specs.Outcomes as outcome
use Rattle.unification.specs.Outcomes.{Outcome}
use Rattle.unification.specs.Runs.{unify_of}
use Rattle.unification.specs.Solutions.{variable_in}
use Rattle.case_trees.specs.Keeping.{keep_all}
use Rattle.case_trees.specs.Looking.{Look, Found, Passed, StuckRun, Further, Looked, Ran, look_at_type, behind_look, at_open, first_found, run_all}
use Rattle.case_trees.specs.OwnWalks.{Turn, Goes, Ends, solved_pairs, own_outcome, run_own, first_solved, no_constructor, absurd_outcome, run_pattern, look, walked_dots, walk_at, bounded_walk, Walking, behind_turn, at_pairs, unless_dropped, one_turn, nowhere, by_patterns, or_none}
use Rattle.case_trees.specs.Pairs.{Pairs, clash_in, first_clash, open_in, all_open, bound_in, all_bound, dots_in, all_dots, is_low_pair, are_low_pairs}
use Rattle.case_trees.specs.Points.{Point, bounded_point, moved_point, moved_pairs, bounded_pairs, solution_for}
use Rattle.case_trees.specs.Problems.{problem_of}
use Rattle.case_trees.specs.Stops.{TreeStop, Stopping, or_halts, halting, answers}
use Rattle.case_trees.specs.Working.{of_columns, work_pairs}
use Rattle.clause_walks.specs.Forgetting.{forget_all, CoverAll, forgetting, walks_on}
use Rattle.clause_walks.proofs.AlikeAnswers.{Alike, RunAlike, run-equal, equal-run, and_then-alike, and_next-alike, and_next-goes, cond-alike, or_halts-alike, halting-alike, with-fact}
use Rattle.clause_walks.proofs.AlikePairs.{AreAlike, all-same, all-asked-alike, first_clash-blind, open-blind, bound-blind, dots-blind, low-blind, all-work-alike, all-keep-alike, all-on-alike, all-moved-alike, all-forget-on}
use Rattle.clause_walks.proofs.Covering.{worked-covered, all-moved-covered}

-- both pairs over the terms of the point, which cover the first
pub record Agree (S : Signature) (p : Point) (pairs others : Pairs) : Type 0 where
  pub alike : AreAlike S pairs others p.terms
  pub covered : CoverAll S pairs p.terms

-- both go on alike where pairs agree
abbrev pub GoAlike : Signature → (go other : Walking) → Type 0
GoAlike S go other = (p : Point) (pairs others : Pairs) (left : ℕ) → Agree S p pairs others → go p pairs left ≡ other p others left

-- ---- points

pub bounded-is : (next : Point) → Alike (λ a b. (a ≡ next) × (a ≡ b)) (bounded_point next) (bounded_point next)
bounded-is next =
    let low = are_low next.context && (is_low next.goal && (are_low next.substitution && are_low next.terms)) in
    cond-alike (λ (a : Point) (b : Point). (a ≡ next) × (a ≡ b)) low low next next Deep refl (refl, refl)

-- ---- looking

abbrev pub LookAlike : {A B : Type 0} → (A → B → Type 0) → Look A → Look B → Type 0
LookAlike R (Found a) (Found b) = R a b
LookAlike R (Found a) (Passed r) = ⊥
LookAlike R (Passed r) (Found b) = ⊥
LookAlike R (Passed r) (Passed s) = r ≡ s

abbrev pub TurnAlike : Signature → Turn → Turn → Type 0
TurnAlike S (Goes p pairs) (Goes q others) = Agree S p pairs others × (p ≡ q)
TurnAlike S (Goes p pairs) Ends = ⊥
TurnAlike S Ends (Goes q others) = ⊥
TurnAlike S Ends Ends = Unit {0}

open-alike : {A B : Type 0} (R : A → B → Type 0) (clause : ℕ) (context : Telescope) (see : Pat → ℕ → ℕ → Stopping (Look A)) (other : Pat → ℕ → ℕ → Stopping (Look B))
    (further : Further A) (beyond : Further B) (pat : Pat) (u : Term) (found : Option ℕ) (stuck forced : Option TreeStop) (left : ℕ)
    → ((x rest : ℕ) → RunAlike (LookAlike R) (see pat x rest) (other pat x rest))
    → ((stuck forced : Option TreeStop) (rest : ℕ) → RunAlike R (further stuck forced rest) (beyond stuck forced rest))
    → RunAlike R (at_open clause context see further pat u found stuck forced left) (at_open clause context other beyond pat u found stuck forced left)
open-alike R clause context see other further beyond pat u None stuck forced left h k = k stuck _ left
open-alike {A = A} {B = B} R clause context see other further beyond pat u (Some x) stuck forced left h k =
    and_next-alike (LookAlike R) R (see pat x left) (other pat x left) (behind_look clause further stuck forced) (behind_look clause beyond stuck forced) (h x left)
    (λ a b rest is. by a b rest is)
  where
    by : (a : Look A) (b : Look B) (rest : ℕ) → LookAlike R a b
        → RunAlike R (behind_look clause further stuck forced a rest) (behind_look clause beyond stuck forced b rest)
    by (Found a) (Found b) rest is = (is, refl)
    by (Passed r) (Passed q) rest is =
        transport (λ (run : StuckRun). RunAlike R (behind_look clause further stuck forced (Passed r) rest) (behind_look clause beyond stuck forced (Passed run) rest)) is
        (k _ forced rest)
    by (Found a) (Passed r) rest is = absurd is
    by (Passed r) (Found b) rest is = absurd is

-- open pairs are found alike where they are looked at alike
pub first-alike : {A B : Type 0} (R : A → B → Type 0) (S : Signature) (clause : ℕ) (context : Telescope) (see : Pat → ℕ → ℕ → Stopping (Look A))
    (other : Pat → ℕ → ℕ → Stopping (Look B)) (open_pairs : List (Pat × Term))
    → ((pat : Pat) (x rest : ℕ) → RunAlike (LookAlike R) (see pat x rest) (other pat x rest)) → (stuck forced : Option TreeStop) (left : ℕ)
    → RunAlike R (first_found S clause context see open_pairs stuck forced left) (first_found S clause context other open_pairs stuck forced left)
first-alike R S clause context see other [] h stuck forced left = (refl, refl)
first-alike R S clause context see other (pair ∷ pairs) h stuck forced left =
    and_next-goes R (halting (tidy_of S left pair.1)) _ _ (λ u rest.
    open-alike R clause context see other (first_found S clause context see pairs) (first_found S clause context other pairs) pair.0 u (variable_in u) stuck forced rest
    (h pair.0) (first-alike R S clause context see other pairs h))

-- ---- the pattern and variable of an open pair

solved-alike : (S : Signature) (p : Point) (pairs others : Pairs) (context : Telescope) (solution : List Term) → Agree S p pairs others
    → Alike (TurnAlike S) (solved_pairs p pairs context solution) (solved_pairs p others context solution)
solved-alike S p pairs others context solution h =
    let next = moved_point p context solution in
    let moved = moved_pairs solution pairs in
    let moved_others = moved_pairs solution others in
    let alike : AreAlike S moved moved_others next.terms = all-moved-alike S (fill no_variable solution) pairs others p.terms h.alike in
    let agree : Agree S next moved moved_others =
    record { alike = alike; covered = all-moved-covered S (fill no_variable solution) pairs p.terms h.covered } in
    and_then-alike (λ (a : Point) (b : Point). (a ≡ next) × (a ≡ b)) (TurnAlike S) (bounded_point next) (bounded_point next) _ _ (bounded-is next) (λ a b is.
    and_then-alike (λ xs ys. Agree S next xs ys) (TurnAlike S) (bounded_pairs moved) (bounded_pairs moved_others) _ _
    (cond-alike (λ xs ys. Agree S next xs ys) (are_low_pairs moved) (are_low_pairs moved_others) moved moved_others Deep
    (all-asked-alike Bool is_low_pair are_low_pairs low-blind S moved moved_others next.terms alike) agree)
    (λ xs ys both. (transport (λ q. Agree S q xs ys) (sym is.0) both, is.1)))

own-alike : (S : Signature) (clause : ℕ) (p : Point) (pairs others : Pairs) (o : Outcome) → Agree S p pairs others
    → Alike (LookAlike (TurnAlike S)) (own_outcome clause p pairs o) (own_outcome clause p others o)
own-alike S clause p pairs others (outcome.Solved steps context solution) h =
    and_then-alike (TurnAlike S) (LookAlike (TurnAlike S)) (or_halts (solved_pairs p pairs context (solution_for p solution)))
    (or_halts (solved_pairs p others context (solution_for p solution))) _ _
    (or_halts-alike (TurnAlike S) (solved_pairs p pairs context (solution_for p solution)) (solved_pairs p others context (solution_for p solution))
    (solved-alike S p pairs others context (solution_for p solution) h)) (λ a b is. is)
own-alike S clause p pairs others (outcome.Absurd steps context u v) h = refl
own-alike S clause p pairs others (outcome.Stuck steps context u v why) h = refl

run_own-alike : (S : Signature) (clause : ℕ) (p : Point) (pairs others : Pairs) (x : ℕ) (found : Looked) (number : ℕ) (o : Option Constructor) (left : ℕ)
    → Agree S p pairs others
    → RunAlike (LookAlike (TurnAlike S)) (run_own S clause p pairs x found number o left) (run_own S clause p others x found number o left)
run_own-alike S clause p pairs others x found number None left h = (refl, refl)
run_own-alike S clause p pairs others x found number (Some c) left h =
    and_next-goes (LookAlike (TurnAlike S)) (halting (unify_of S (problem_of p.context x found.member number c) left)) _ _ (λ o rest.
    (own-alike S clause p pairs others o h, refl))

-- under ( ) the walk ends, is passed on or is refused
absurd-alike : (S : Signature) (clause n : ℕ) (runs : Look (List Ran)) → Alike (LookAlike (TurnAlike S)) (absurd_outcome clause n runs) (absurd_outcome clause n runs)
absurd-alike S clause n (Found runs) = by (first_solved 0 runs)
  where
    by : (o : Option ℕ) → Alike (LookAlike (TurnAlike S)) (no_constructor clause n o) (no_constructor clause n o)
    by None = tt
    by (Some number) = refl
absurd-alike S clause n (Passed r) = refl

each-alike : (S : Signature) (clause : ℕ) (p : Point) (x : ℕ) (found : Looked) (left : ℕ)
    → RunAlike (LookAlike (TurnAlike S))
    (and_next (run_all S p.context x found.member 0 found.member.family.constructors left) (λ runs rest. answers (absurd_outcome clause found.member.n runs) rest))
    (and_next (run_all S p.context x found.member 0 found.member.family.constructors left) (λ runs rest. answers (absurd_outcome clause found.member.n runs) rest))
each-alike S clause p x found left =
    and_next-goes (LookAlike (TurnAlike S)) (run_all S p.context x found.member 0 found.member.family.constructors left) _ _ (λ runs rest.
    (absurd-alike S clause found.member.n runs, refl))

run_pattern-alike : (S : Signature) (clause : ℕ) (p : Point) (pairs others : Pairs) (x : ℕ) (found : Looked) (pat : Pat) (left : ℕ) → Agree S p pairs others
    → RunAlike (LookAlike (TurnAlike S)) (run_pattern S clause p pairs x found pat left) (run_pattern S clause p others x found pat left)
run_pattern-alike S clause p pairs others x found (pattern.Con n number pats) left h =
    run_own-alike S clause p pairs others x found number (slice_get found.member.family.constructors number) left h
run_pattern-alike S clause p pairs others x found pattern.Bind left h = each-alike S clause p x found left
run_pattern-alike S clause p pairs others x found pattern.Wild left h = each-alike S clause p x found left
run_pattern-alike S clause p pairs others x found (pattern.Dot written) left h = each-alike S clause p x found left
run_pattern-alike S clause p pairs others x found pattern.Absurd left h = each-alike S clause p x found left

look-alike : (S : Signature) (clause : ℕ) (p : Point) (pairs others : Pairs) → Agree S p pairs others → (pat : Pat) (x left : ℕ)
    → RunAlike (LookAlike (TurnAlike S)) (look S clause p pairs pat x left) (look S clause p others pat x left)
look-alike S clause p pairs others h pat x left =
    and_next-goes (LookAlike (TurnAlike S)) (look_at_type S clause p.context pat x left) _ _ (λ found rest.
    run_pattern-alike S clause p pairs others x found pat rest h)

-- ---- turns

walk_with : Point → List (Option Term) → List (Term × Term) → Walk
walk_with p bound written = record {
  ctx = p.context;
  goal = p.goal;
  subst = p.substitution;
  terms = p.terms;
  binds = map or_none bound;
  dots = walked_dots bound written;
}

-- the end of a walk
ends-alike : (S : Signature) (p : Point) (pairs others : Pairs) → AreAlike S pairs others p.terms → walk_at p pairs ≡ walk_at p others
unfolding walk_with
ends-alike S p pairs others h =
    ap₂ (λ bound written. walk_with p bound written)
    (all-asked-alike (List (Option Term)) bound_in all_bound bound-blind S pairs others p.terms h)
    (all-asked-alike (List (Term × Term)) dots_in all_dots dots-blind S pairs others p.terms h)

ended-alike : (S : Signature) (p : Point) (pairs others : Pairs) (left : ℕ) → AreAlike S pairs others p.terms
    → answers (bounded_walk (walk_at p pairs)) left ≡ answers (bounded_walk (walk_at p others)) left
ended-alike S p pairs others left h = ap (λ w. answers (bounded_walk w) left) (ends-alike S p pairs others h)

turn-alike : (S : Signature) (go other : Walking) → GoAlike S go other → (p : Point) (pairs others : Pairs) → Agree S p pairs others → (turn other_turn : Turn) (left : ℕ)
    → TurnAlike S turn other_turn → RunAlike (λ w v. w ≡ v) (behind_turn go p pairs turn left) (behind_turn other p others other_turn left)
turn-alike S go other alike p pairs others h (Goes next moved) (Goes again moved_others) left is =
    transport (λ q. RunAlike (λ w v. w ≡ v) (go next moved left) (other q moved_others left)) is.1
    (equal-run (go next moved left) (other next moved_others left) (alike next moved moved_others left is.0))
turn-alike S go other alike p pairs others h Ends Ends left is =
    equal-run (behind_turn go p pairs Ends left) (behind_turn other p others Ends left) (ended-alike S p pairs others left h.alike)
turn-alike S go other alike p pairs others h (Goes next moved) Ends left is = absurd is
turn-alike S go other alike p pairs others h Ends (Goes next moved) left is = absurd is

pairs-alike : (S : Signature) (clause : ℕ) (go other : Walking) → GoAlike S go other → (p : Point) (pairs others : Pairs) (open_pairs : List (Pat × Term)) (left : ℕ)
    → Agree S p pairs others → RunAlike (λ w v. w ≡ v) (at_pairs S clause go p pairs open_pairs left) (at_pairs S clause other p others open_pairs left)
pairs-alike S clause go other alike p pairs others [] left h =
    equal-run (at_pairs S clause go p pairs [] left) (at_pairs S clause other p others [] left) (ended-alike S p pairs others left h.alike)
pairs-alike S clause go other alike p pairs others (pair ∷ further) left h =
    and_next-alike (TurnAlike S) (λ w v. w ≡ v) (first_found S clause p.context (look S clause p pairs) (pair ∷ further) None None left)
    (first_found S clause p.context (look S clause p others) (pair ∷ further) None None left) (behind_turn go p pairs) (behind_turn other p others)
    (first-alike (TurnAlike S) S clause p.context (look S clause p pairs) (look S clause p others) (pair ∷ further) (look-alike S clause p pairs others h) None None left)
    (λ turn other_turn rest is. turn-alike S go other alike p pairs others h turn other_turn rest is)

-- pairs that are worked, over the terms before they are kept
record AgreeThen (S : Signature) (us : List Term) (pairs others : Pairs) : Type 0 where
  alike : AreAlike S pairs others us
  covered : CoverAll S pairs (keep_all S pairs us)

dropped-alike : (S : Signature) (clause : ℕ) (go other : Walking) → GoAlike S go other → (p : Point) (new others : Pairs) (clash : Option (Pat × Term)) (left : ℕ)
    → AgreeThen S p.terms new others
    → RunAlike (λ w v. w ≡ v) (unless_dropped S clause go p new clash left) (unless_dropped S clause other p others clash left)
dropped-alike S clause go other alike p new others (Some clash) left h = (refl, refl)
dropped-alike S clause go other alike p new others None left h =
    transport
    (λ us. RunAlike (λ w v. w ≡ v) (unless_dropped S clause go p new None left)
    (and_next (answers (or_halts (bounded_point (record p { terms = us }))) left) (λ next rest. at_pairs S clause other next others (all_open others) rest)))
    (all-keep-alike S new others p.terms h.alike)
    (and_next-alike (λ (a : Point) (b : Point). (a ≡ kept) × (a ≡ b)) (λ w v. w ≡ v) (answers (or_halts (bounded_point kept)) left)
    (answers (or_halts (bounded_point kept)) left) _ _
    (or_halts-alike (λ (a : Point) (b : Point). (a ≡ kept) × (a ≡ b)) (bounded_point kept) (bounded_point kept) (bounded-is kept), refl)
    (λ a b rest is. further a b rest is.0 is.1))
  where
    kept : Point
    kept = record p { terms = keep_all S new p.terms }

    agree : Agree S kept new others
    agree = record { alike = all-on-alike S new others p.terms new h.alike; covered = h.covered }

    further : (a b : Point) (rest : ℕ) → a ≡ kept → a ≡ b
        → RunAlike (λ w v. w ≡ v) (at_pairs S clause go a new (all_open new) rest) (at_pairs S clause other b others (all_open others) rest)
    further a b rest is same =
        transport (λ q. RunAlike (λ w v. w ≡ v) (at_pairs S clause go a new (all_open new) rest) (at_pairs S clause other q others (all_open others) rest)) same
        (transport (λ os. RunAlike (λ w v. w ≡ v) (at_pairs S clause go a new (all_open new) rest) (at_pairs S clause other a others os rest))
        (all-asked-alike (List (Pat × Term)) open_in all_open open-blind S new others p.terms h.alike)
        (pairs-alike S clause go other alike a new others (all_open new) rest (transport (λ q. Agree S q new others) (sym is) agree)))

-- both turns go on alike
one-alike : (S : Signature) (clause : ℕ) (go other : Walking) → GoAlike S go other → GoAlike S (one_turn S clause go) (one_turn S clause other)
one-alike S clause go other alike = λ p pairs others left h.
    run-equal (one_turn S clause go p pairs left) (one_turn S clause other p others left)
    (and_next-alike (AgreeThen S p.terms) (λ w v. w ≡ v) (halting (work_pairs S of_columns pairs left)) (halting (work_pairs S of_columns others left)) _ _
    (halting-alike (AgreeThen S p.terms) (work_pairs S of_columns pairs left) (work_pairs S of_columns others left)
    (with-fact (λ xs ys. AreAlike S xs ys p.terms) (λ xs. CoverAll S xs (keep_all S xs p.terms)) (AgreeThen S p.terms) (work_pairs S of_columns pairs left)
    (work_pairs S of_columns others left) (all-work-alike S of_columns pairs others p.terms left h.alike) (worked-covered S of_columns pairs left p.terms h.covered)
    (λ xs ys a c. record { alike = a; covered = c })))
    (λ new new_others rest is.
    transport (λ clash. RunAlike (λ w v. w ≡ v) (unless_dropped S clause go p new (first_clash new) rest) (unless_dropped S clause other p new_others clash rest))
    (all-asked-alike (Option (Pat × Term)) clash_in first_clash first_clash-blind S new new_others p.terms is.alike)
    (dropped-alike S clause go other alike p new new_others (first_clash new) rest is)))

nowhere-alike : (S : Signature) → GoAlike S nowhere nowhere
nowhere-alike S = λ p pairs others left h. refl

by_patterns-alike : (S : Signature) (clause patterns : ℕ) → GoAlike S (by_patterns S clause patterns) (by_patterns S clause patterns)
by_patterns-alike S clause zero = one-alike S clause nowhere nowhere (nowhere-alike S)
by_patterns-alike S clause (suc patterns) =
    one-alike S clause (by_patterns S clause patterns) (by_patterns S clause patterns) (by_patterns-alike S clause patterns)

-- ---- forgetting

-- pairs agree with themselves
agree-itself : (S : Signature) (p : Point) (pairs : Pairs) → CoverAll S pairs p.terms → Agree S p pairs pairs
agree-itself S p pairs h = record { alike = all-same S pairs p.terms; covered = h }

forgetting-alike : (S : Signature) (go other : Walking) → GoAlike S go other → GoAlike S go (forgetting other)
forgetting-alike S go other alike = λ p pairs others left h.
    alike p pairs (forget_all others) left (record { alike = all-forget-on S pairs others p.terms h.alike h.covered; covered = h.covered })

-- The turns of a walk go on without the terms of wildcards.
pub by_patterns-goes : (S : Signature) (clause patterns : ℕ) (p : Point) (pairs : Pairs) (left : ℕ) → CoverAll S pairs p.terms
    → by_patterns S clause patterns p pairs left ≡ one_turn S clause (forgetting (walks_on S clause patterns)) p pairs left
by_patterns-goes S clause zero p pairs left h =
    one-alike S clause nowhere (forgetting nowhere) (forgetting-alike S nowhere nowhere (nowhere-alike S)) p pairs pairs left (agree-itself S p pairs h)
by_patterns-goes S clause (suc patterns) p pairs left h =
    one-alike S clause (by_patterns S clause patterns) (forgetting (by_patterns S clause patterns))
    (forgetting-alike S (by_patterns S clause patterns) (by_patterns S clause patterns) (by_patterns-alike S clause patterns)) p pairs pairs left (agree-itself S p pairs h)
