-- The patterns that are left in the clauses of a node: working leaves no more of them, and fewer after a solved problem of the first
-- clause's open pair.
use Rattle.std.proofs.Common.{◌≡◌, ℕ, suc, ◌+◌, ◌≤◌, Bool, true, false, cond, Result, Ok, Err, IfOk, List, [], ◌∷◌, refl, ap, ap₂, ◌∙◌, arith}
use Rattle.theory.specs.Terms.{Term}
use Rattle.theory.specs.Signatures.{Signature}
use Rattle.core_terms.specs.Answers.{and_then}
use Rattle.core_terms.specs.Patterns.{Pat}
use Rattle.core_terms.specs.declared.stop.Stop.{Stop}
use Rattle.core_terms.specs.declared.stop.Stop.TheVariants.{Deep}
use Rattle.unification.specs.ScopedStates.{IsReady}
use Rattle.case_trees.specs.HeadSteps.{HasConstructor}
use Rattle.case_trees.specs.Keeping.{keep_all}
use Rattle.case_trees.specs.Pairs.{Pairs, some_clashes, all_with_terms, are_low_pairs}
use Rattle.case_trees.specs.Points.{Point, point_keeping, under_solution, moved_pairs}
use Rattle.case_trees.specs.Stops.{or_halts, halting, answers}
use Rattle.case_trees.specs.Trees.{Live, Node, patterns_left, unless_dropped, worked, moved_live}
use Rattle.case_trees.specs.Working.{of_columns, work_pairs}
use Rattle.case_trees.proofs.Answered.{Holds, and_next-holds}
use Rattle.case_trees.proofs.LeftPatterns.{all-fewer, all-same, some-left}
use Rattle.case_trees.proofs.LiveClauses.{AreLiveScoped}
use Rattle.case_trees.proofs.ScopedWorking.{all-become-scoped}
use Rattle.case_trees.proofs.WalkGoing.{AsksIn, fewer-left}
use Rattle.case_trees.proofs.WalkTurns.{keeping-holds, become-holds}
use Rattle.case_trees.proofs.Workings.{AllBecome}

-- ---- working

-- clauses after working: those that clash go out
pub data LiveBecome (S : Signature) : List Live → List Live → Type 0 where
  none : LiveBecome S [] []
  drops : (c : Live) (live others : List Live) (new : Pairs) → AllBecome S c.pairs new → some_clashes new ≡ true → LiveBecome S live others
      → LiveBecome S (c ∷ live) others
  keeps : (c : Live) (live others : List Live) (new : Pairs) → AllBecome S c.pairs new → some_clashes new ≡ false → LiveBecome S live others
      → LiveBecome S (c ∷ live) (record { number = c.number; pairs = new } ∷ others)

-- the node after working: in the same context, with the clauses after it
pub record IsWorkedTo (S : Signature) (p : Point) (live : List Live) (node : Node) : Type 0 where
  pub context : node.point.context ≡ p.context
  pub becomes : LiveBecome S live node.live

unless_dropped-becomes : (S : Signature) (p : Point) (c : Live) (live : List Live) (new : Pairs) (node : Node) → AllBecome S c.pairs new
    → IsWorkedTo S p live node → IsWorkedTo S p (c ∷ live) (unless_dropped (record { number = c.number; pairs = new }) node)
unless_dropped-becomes S p c live new node all h = by (some_clashes new) refl
  where
    by : (test : Bool) → some_clashes new ≡ test
        → IsWorkedTo S p (c ∷ live) (cond test node (record node { live = record { number = c.number; pairs = new } ∷ node.live }))
    by true e = record { context = h.context; becomes = drops c live node.live new all e h.becomes }
    by false e = record { context = h.context; becomes = keeps c live node.live new all e h.becomes }

pub worked-becomes : (S : Signature) (p : Point) (live : List Live) (left : ℕ) → Holds (IsWorkedTo S p live) (λ e. Unit {0}) (worked S p live left).0
worked-becomes S p [] left = record { context = refl; becomes = none }
worked-becomes S p (c ∷ live) left =
    and_next-holds (AllBecome S c.pairs) (IsWorkedTo S p (c ∷ live)) (λ e. Unit {0}) (halting (work_pairs S of_columns c.pairs left)) _
    (become-holds S c.pairs left (λ e. Unit {0}) (λ e. tt)) (λ new rest all.
    and_next-holds (λ (next : Point). next.context ≡ p.context) (IsWorkedTo S p (c ∷ live)) (λ e. Unit {0}) (answers (or_halts (point_keeping S p new)) rest) _
    (keeping-holds S (λ (next : Point). next.context ≡ p.context) (λ e. Unit {0}) (record p { terms = keep_all S new p.terms }) (λ e. tt) refl) (λ next middle same.
    and_next-holds (IsWorkedTo S next live) (IsWorkedTo S p (c ∷ live)) (λ e. Unit {0}) (worked S next live middle) _ (worked-becomes S next live middle)
    (λ node end h. unless_dropped-becomes S p c live new node all (record { context = h.context ∙ same; becomes = h.becomes }))))

pub live-fewer : (S : Signature) (live new : List Live) → LiveBecome S live new → patterns_left new ≤ patterns_left live
live-fewer S _ _ none = omega arith
live-fewer S _ _ (drops c live others new all clash rest) = omega (arith, live-fewer S live others rest)
live-fewer S _ _ (keeps c live others new all clean rest) = omega (arith, all-fewer S c.pairs new all, live-fewer S live others rest)

-- ---- scopes

-- working keeps the terms of the clauses scoped
pub live-become-scoped : (S : Signature) (n : ℕ) → IsReady S → (live new : List Live) → LiveBecome S live new → AreLiveScoped S n live → AreLiveScoped S n new
live-become-scoped S n ready _ _ none h = tt
live-become-scoped S n ready _ _ (drops c live others new all clash rest) h = live-become-scoped S n ready live others rest h.1
live-become-scoped S n ready _ _ (keeps c live others new all clean rest) h =
    (all-become-scoped S n ready.scoped c.pairs new all h.0, live-become-scoped S n ready live others rest h.1)

-- ---- after a solution

-- the clauses with `f` of each term
abbrev pub live_with_terms : (f : Term → Term) → List Live → List Live
live_with_terms f [] = []
live_with_terms f (c ∷ live) = record { number = c.number; pairs = all_with_terms f c.pairs } ∷ live_with_terms f live

pub moved-is : (solution : List Term) (live : List Live) → IfOk (moved_live solution live) (λ moved. moved ≡ live_with_terms (under_solution solution) live)
moved-is solution [] = refl
moved-is solution (c ∷ live) = by (are_low_pairs (moved_pairs solution c.pairs)) (moved_live solution live) (moved-is solution live)
  where
    by : (low : Bool) (others : Result (List Live) Stop) → IfOk others (λ moved. moved ≡ live_with_terms (under_solution solution) live)
        → IfOk (and_then (cond low (Ok (moved_pairs solution c.pairs)) (Err Deep)) (λ pairs.
        and_then others (λ more_live. Ok (record { number = c.number; pairs = pairs } ∷ more_live))))
        (λ moved. moved ≡ live_with_terms (under_solution solution) (c ∷ live))
    by true (Ok moved) k = ap (λ ls. record { number = c.number; pairs = moved_pairs solution c.pairs } ∷ ls) k
    by true (Err e) k = tt
    by false others k = tt

live-same : (f : Term → Term) (live : List Live) → patterns_left (live_with_terms f live) ≡ patterns_left live
live-same f [] = refl
live-same f (c ∷ live) = ap₂ (λ a b. a + b) (all-same f c.pairs) (live-same f live)

-- the first clause has a pair whose term gets a constructor
pub live-falls : (S : Signature) (n number m : ℕ) (f : Term → Term) (c : Live) (live new : List Live) (pair : Pat × Term) → AsksIn S m c.pairs pair
    → HasConstructor S n number (f pair.1) → LiveBecome S (live_with_terms f (c ∷ live)) new → suc (patterns_left new) ≤ patterns_left (c ∷ live)
live-falls S n number m f c live _ pair asks has (drops _ _ others new all clash rest) =
    omega (arith, live-fewer S (live_with_terms f live) others rest, live-same f live, some-left c.pairs pair.0 pair.1 asks.there asks.asks)
live-falls S n number m f c live _ pair asks has (keeps _ _ others new all clean rest) =
    omega (arith, live-fewer S (live_with_terms f live) others rest, live-same f live, fewer-left S n number f c.pairs pair m asks has new all clean)
