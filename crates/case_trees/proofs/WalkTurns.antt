-- A property of a walk, from one of each of its turns.
use Rattle.std.proofs.Common.{◌≡◌, ℕ, zero, suc, Bool, true, false, ◌&&◌, cond, Option, Some, None, Result, Ok, Err, IfOk, List, [], ◌∷◌, map, refl, subst, arith}
use Rattle.theory.specs.Terms.{Term}
use Rattle.theory.specs.Signatures.{Signature}
use Rattle.core_terms.specs.Answers.{is_low, are_low}
use Rattle.core_terms.specs.Patterns.{Pat}
use Rattle.core_terms.specs.CaseTrees.{Walk}
use Rattle.core_terms.specs.declared.stop.Stop.{Stop}
use Rattle.core_terms.specs.declared.stop.Stop.TheVariants.{Deep}
use Rattle.unification.specs.Built.{built_of}
use Rattle.case_trees.specs.Pairs.{Pair, Pairs, Waits, Binds, Passes, Keeps, Builds, Clashes, nil, cons, or_later, clashes, some_clashes, clash_in, first_clash, all_open}
use Rattle.case_trees.specs.Working.{of_columns, work_pairs}
use Rattle.case_trees.specs.Keeping.{keep_all}
use Rattle.case_trees.specs.Points.{Point, bounded_point, point_keeping}
use Rattle.case_trees.specs.Stops.{TreeStop, Halts, or_halts, halting, answers}
use Rattle.case_trees.specs.Looking.{first_found}
use Rattle.case_trees.specs.OwnWalks.{Turn, Goes, Ends, look, walk_at, bounded_walk, Walking, behind_turn, at_pairs, clashing, unless_dropped, one_turn, nowhere, by_patterns}
use Rattle.case_trees.proofs.Answered.{Holds, and_next-holds}
use Rattle.case_trees.proofs.Workings.{AllBecome, all-become}
use Rattle.case_trees.proofs.Looks.{AllPairs, LookHolds, ForcedHolds, first-holds}

mutual
  no-clash : (pair : Pair) → clash_in pair ≡ None → clashes pair ≡ false
  no-clash (Waits pat t) e = refl
  no-clash (Binds t) e = refl
  no-clash (Passes t) e = refl
  no-clash (Keeps written t) e = refl
  no-clash (Builds n number ps pairs) e = no-clashes pairs e
  no-clash (Clashes pat t) e = absurd (grind arith)

  -- where no clash is found there is none
  pub no-clashes : (pairs : Pairs) → first_clash pairs ≡ None → some_clashes pairs ≡ false
  no-clashes nil e = refl
  no-clashes (cons pair pairs) e =
      let (first, rest) = neither (clash_in pair) (first_clash pairs) e in
      rw (no-clash pair first) (no-clashes pairs rest)
    where
      neither : {A : Type 0} (one other : Option A) → or_later one other ≡ None → (one ≡ None) × (other ≡ None)
      neither None other e = (refl, e)
      neither (Some a) other e = absurd (grind arith)

-- Properties: before the pairs are worked, when they are worked, of the walk, of its end, and of each open pair.
pub record Claims : Type 1 where
  pub Before : Point → Pairs → Type 0
  pub Then : Point → Pairs → Type 0
  pub Good : Walk → Type 0
  pub Cause : TreeStop → Type 0
  pub Open : Point → (Pat × Term) → Type 0

-- a property of each turn
abbrev pub TurnHas : Claims → Point → Pairs → Turn → Type 0
TurnHas C p pairs (Goes next moved) = C.Before next moved
TurnHas C p pairs Ends = C.Good (walk_at p pairs)

pub record Turns (S : Signature) (clause : ℕ) (C : Claims) : Type 0 where
  pub halts : (e : Stop) → C.Cause (Halts e)
  pub works : (p : Point) (pairs new : Pairs) → C.Before p pairs → AllBecome S pairs new → some_clashes new ≡ false
      → C.Then (record p { terms = keep_all S new p.terms }) new
  pub drops : (p : Point) (pairs new : Pairs) (clash : Pat × Term) → C.Before p pairs → AllBecome S pairs new → first_clash new ≡ Some clash
      → C.Cause (clashing S clause p.context clash.0 (built_of S clash.1))
  pub opens : (p : Point) (pairs : Pairs) → C.Then p pairs → AllPairs (C.Open p) (all_open pairs)
  pub ends : (p : Point) (pairs : Pairs) → C.Then p pairs → all_open pairs ≡ [] → C.Good (walk_at p pairs)
  pub looks : (p : Point) (pairs : Pairs) → C.Then p pairs → LookHolds (TurnHas C p pairs) C.Cause (C.Open p) S clause (look S clause p pairs)
  pub forced : (p : Point) (pairs : Pairs) → C.Then p pairs → ForcedHolds C.Cause (C.Open p) S clause p.context

abbrev Going : (S : Signature) (clause : ℕ) → Claims → Walking → Type 0
Going S clause C go = (p : Point) (pairs : Pairs) (left : ℕ) → C.Before p pairs → Holds C.Good C.Cause (go p pairs left).0

bounded-holds : (C : Claims) (w : Walk) → ((e : Stop) → C.Cause (Halts e)) → C.Good w → Holds C.Good C.Cause (bounded_walk w)
bounded-holds C w halts h = by (are_low (map (λ d. d.0) w.dots))
  where
    by : (low : Bool) → Holds C.Good C.Cause (cond low (Ok w) (Err (Halts Deep)))
    by true = h
    by false = halts Deep

turn-holds : (S : Signature) (clause : ℕ) (C : Claims) (go : Walking) (p : Point) (pairs : Pairs) (turn : Turn) (left : ℕ) → Turns S clause C
    → Going S clause C go → TurnHas C p pairs turn → Holds C.Good C.Cause (behind_turn go p pairs turn left).0
turn-holds S clause C go p pairs (Goes next moved) left T more h = more next moved left h
turn-holds S clause C go p pairs Ends left T more h = bounded-holds C (walk_at p pairs) T.halts h

pairs-hold : (S : Signature) (clause : ℕ) (C : Claims) (go : Walking) (p : Point) (pairs : Pairs) (open_pairs : List (Pat × Term)) (left : ℕ) → Turns S clause C
    → Going S clause C go → C.Then p pairs → all_open pairs ≡ open_pairs → Holds C.Good C.Cause (at_pairs S clause go p pairs open_pairs left).0
pairs-hold S clause C go p pairs [] left T more h e = bounded-holds C (walk_at p pairs) T.halts (T.ends p pairs h e)
pairs-hold S clause C go p pairs (pair ∷ others) left T more h e =
    and_next-holds (TurnHas C p pairs) C.Good C.Cause (first_found S clause p.context (look S clause p pairs) (pair ∷ others) None None left) _
    (first-holds (TurnHas C p pairs) C.Cause (C.Open p) S clause p.context (look S clause p pairs) (pair ∷ others) T.halts
    (subst (AllPairs (C.Open p)) e (T.opens p pairs h)) (T.looks p pairs h) (T.forced p pairs h) None None left tt tt)
    (λ turn rest has. turn-holds S clause C go p pairs turn rest T more has)

pub keeping-holds : (S : Signature) (P : Point → Type 0) (Q : TreeStop → Type 0) (p : Point) → ((e : Stop) → Q (Halts e)) → P p → Holds P Q (or_halts (bounded_point p))
keeping-holds S P Q p halts h = by (are_low p.context && (is_low p.goal && (are_low p.substitution && are_low p.terms)))
  where
    by : (low : Bool) → Holds P Q (or_halts (cond low (Ok p) (Err Deep)))
    by true = h
    by false = halts Deep

dropped-holds : (S : Signature) (clause : ℕ) (C : Claims) (go : Walking) (p : Point) (pairs new : Pairs) (clash : Option (Pat × Term)) (left : ℕ) → Turns S clause C
    → Going S clause C go → C.Before p pairs → AllBecome S pairs new → first_clash new ≡ clash
    → Holds C.Good C.Cause (unless_dropped S clause go p new clash left).0
dropped-holds S clause C go p pairs new (Some clash) left T more h all e = T.drops p pairs new clash h all e
dropped-holds S clause C go p pairs new None left T more h all e =
    and_next-holds (λ next. C.Then next new) C.Good C.Cause (answers (or_halts (point_keeping S p new)) left) _
    (keeping-holds S (λ next. C.Then next new) C.Cause (record p { terms = keep_all S new p.terms }) T.halts (T.works p pairs new h all (no-clashes new e)))
    (λ next rest now. pairs-hold S clause C go next new (all_open new) rest T more now refl)

pub become-holds : (S : Signature) (pairs : Pairs) (left : ℕ) (Q : TreeStop → Type 0) → ((e : Stop) → Q (Halts e))
    → Holds (AllBecome S pairs) Q (halting (work_pairs S of_columns pairs left)).0
become-holds S pairs left Q halts = by (work_pairs S of_columns pairs left).0 (all-become S of_columns pairs left)
  where
    by : (r : Result Pairs Stop) → IfOk r (AllBecome S pairs) → Holds (AllBecome S pairs) Q (or_halts r)
    by (Ok new) h = h
    by (Err e) h = halts e

one-holds : (S : Signature) (clause : ℕ) (C : Claims) (go : Walking) → Turns S clause C → Going S clause C go → Going S clause C (one_turn S clause go)
one-holds S clause C go T more = λ p pairs left h.
    and_next-holds (AllBecome S pairs) C.Good C.Cause (halting (work_pairs S of_columns pairs left)) _ (become-holds S pairs left C.Cause T.halts) (λ new rest all.
    dropped-holds S clause C go p pairs new (first_clash new) rest T more h all refl)

pub walk-holds : (S : Signature) (clause : ℕ) (C : Claims) → Turns S clause C → (patterns : ℕ) → Going S clause C (by_patterns S clause patterns)
walk-holds S clause C T zero = one-holds S clause C nowhere T (λ p pairs left h. T.halts Deep)
walk-holds S clause C T (suc patterns) = one-holds S clause C (by_patterns S clause patterns) T (walk-holds S clause C T patterns)
