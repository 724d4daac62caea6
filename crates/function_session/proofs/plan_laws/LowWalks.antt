-- The uses of the function in walks of clauses are not too high: walks keep their terms low, and right sides are tested.
use Rattle.std.proofs.Common.{◌≡◌, ℕ, zero, suc, ◌+◌, Bool, true, false, ◌&&◌, cond, Option, Some, None, List, [], ◌∷◌, ◌++◌, length, map, reverse, Result, Ok, Err, IfOk, refl, ap₂, subst as transport}
use Rattle.std.proofs.lemmas.Bool.{and_parts}
use Rattle.theory.specs.Terms.{Term}
use Rattle.theory.specs.Telescopes.{Telescope}
use Rattle.theory.specs.Signatures.{Signature}
use Rattle.core_terms.specs.Answers.{are_low, bounded, is_low}
use Rattle.core_terms.specs.CaseTrees.{Walk}
use Rattle.core_terms.specs.Clauses as clause
use Rattle.core_terms.specs.Clauses.{Clause, Clauses, Right, Is}
use Rattle.core_terms.specs.Patterns.{Pat}
use Rattle.core_terms.specs.declared.stop.Stop.{Stop}
use Rattle.core_terms.specs.declared.stop.Stop.TheVariants.{Deep}
use Rattle.case_trees.specs.Keeping.{keep_all}
use Rattle.case_trees.specs.Looking.{first_found}
use Rattle.case_trees.specs.OwnWalks.{Ends, Goes, Turn, Walking, at_pairs, behind_turn, bounded_walk, by_patterns, look, nowhere, one_turn, own_walk_of, unless_dropped, walk_at}
use Rattle.case_trees.specs.Pairs.{Pairs, all_left, all_open, first_clash, waiting}
use Rattle.case_trees.specs.Points.{Point, bounded_point, point_keeping, start_at, under_solution}
use Rattle.case_trees.specs.Stops as stop
use Rattle.case_trees.specs.Stops.{TreeStop}
use Rattle.case_trees.specs.Working.{of_columns, work_pairs}
use Rattle.tree_translation.specs.Naming.{part_named}
use Rattle.clause_reports.specs.elaboration.Refusals.{OfSide, Owner, answers, granted, or_halts, owner_of, walking}
use Rattle.clause_reports.specs.elaboration.Walking.{Given, Opened, Session, open_over, opened, walk_clause, walk_clauses, walk_right}
use Rattle.function_plans.specs.CodePlans.{are_low_uses}
use Rattle.kernel_check.specs.Checking.{check_of}
use Rattle.kernel_reduce.specs.Reduction.{nesting}
use Rattle.tree_translation.specs.structural_rec.Uses.{Use}
use Rattle.function_session.proofs.plan_laws.Answering.{dots-have, ends-ok, halts-ok, if-ok, next-has}

-- ---- walks

tree-halts-ok : {A : Type 0} (r : Result A Stop) (a : A) → stop.or_halts r ≡ Ok a → r ≡ Ok a
tree-halts-ok (Ok b) a e = cc
tree-halts-ok (Err s) a e = absurd (cc)

bounded-low : (p next : Point) → bounded_point p ≡ Ok next → are_low next.terms ≡ true
bounded-low p next e = by (are_low p.context && (is_low p.goal && (are_low p.substitution && are_low p.terms))) refl e
  where
    by : (b : Bool) → (are_low p.context && (is_low p.goal && (are_low p.substitution && are_low p.terms))) ≡ b
        → ◌≡◌ {A = Result Point Stop} (cond b (Ok p) (Err Deep)) (Ok next) → are_low next.terms ≡ true
    by true is k =
        let same : p ≡ next = cc in
        let first = and_parts (are_low p.context) _ is in
        let second = and_parts (is_low p.goal) _ first.1 in
        let third = and_parts (are_low p.substitution) (are_low p.terms) second.1 in
        transport (λ (q : Point). are_low q.terms ≡ true) same third.1
    by false is k = absurd (cc)

-- a walk with low terms
abbrev pub IsLowWalk : Walk → Type 0
IsLowWalk w = are_low w.terms ≡ true

bounded-walk : (w : Walk) → IsLowWalk w → IfOk (bounded_walk w) IsLowWalk
bounded-walk w h = by (are_low (map (λ d. d.0) w.dots))
  where
    by : (b : Bool) → (let answer : Result Walk TreeStop = cond b (Ok w) (Err (stop.Halts Deep)) in IfOk answer IsLowWalk)
    by true = h
    by false = tt

abbrev GoesLow : Walking → Type 0
GoesLow go = (p : Point) (pairs : Pairs) (left : ℕ) → IfOk (go p pairs left).0 IsLowWalk

turn-low : (go : Walking) → GoesLow go → (p : Point) (pairs : Pairs) (turn : Turn) (left : ℕ) → are_low p.terms ≡ true
    → IfOk (behind_turn go p pairs turn left).0 IsLowWalk
turn-low go more p pairs (Goes next moved) left h = more next moved left
turn-low go more p pairs Ends left h = bounded-walk (walk_at p pairs) h

pairs-low : (S : Signature) (number : ℕ) (go : Walking) → GoesLow go → (p : Point) (pairs : Pairs) (asked : List (Pat × Term)) (left : ℕ)
    → are_low p.terms ≡ true → IfOk (at_pairs S number go p pairs asked left).0 IsLowWalk
pairs-low S number go more p pairs [] left h = bounded-walk (walk_at p pairs) h
pairs-low S number go more p pairs (pair ∷ others) left h =
    next-has IsLowWalk (first_found S number p.context (look S number p pairs) (pair ∷ others) None None left) (behind_turn go p pairs)
    (λ turn rest e. turn-low go more p pairs turn rest h)

dropped-low : (S : Signature) (number : ℕ) (go : Walking) → GoesLow go → (p : Point) (pairs : Pairs) (clash : Option (Pat × Term)) (left : ℕ)
    → IfOk (unless_dropped S number go p pairs clash left).0 IsLowWalk
dropped-low S number go more p pairs (Some clash) left = tt
dropped-low S number go more p pairs None left =
    next-has IsLowWalk (stop.answers (stop.or_halts (point_keeping S p pairs)) left) (λ next rest. at_pairs S number go next pairs (all_open pairs) rest)
    (λ next rest e. pairs-low S number go more next pairs (all_open pairs) rest (bounded-low (record p { terms = keep_all S pairs p.terms }) next (tree-halts-ok (point_keeping S p pairs) next e)))

one-low : (S : Signature) (number : ℕ) (go : Walking) → GoesLow go → GoesLow (one_turn S number go)
one-low S number go more = λ p pairs left.
    next-has IsLowWalk (stop.halting (work_pairs S of_columns pairs left)) (λ worked rest. unless_dropped S number go p worked (first_clash worked) rest)
    (λ worked rest e. dropped-low S number go more p worked (first_clash worked) rest)

goes-low : (S : Signature) (number patterns : ℕ) → GoesLow (by_patterns S number patterns)
goes-low S number zero = one-low S number nowhere (λ p pairs left. tt)
goes-low S number (suc patterns) = one-low S number (by_patterns S number patterns) (goes-low S number patterns)

walk-low : (S : Signature) (context : Telescope) (goal : Term) (terms : List Term) (c : Clause) (number left : ℕ)
    → IfOk (own_walk_of S context goal terms c number left).0 IsLowWalk
walk-low S context goal terms (Is pats binds right) number left =
    next-has IsLowWalk (stop.answers (stop.or_halts (bounded_point (start_at context goal terms))) left) _
    (λ p rest e. goes-low S number (all_left (waiting pats terms)) p (waiting pats terms) rest)

-- ---- what clauses say

abbrev pub IsLowGiven : Given → Type 0
IsLowGiven given = are_low_uses given.uses ≡ true

bounded-is_low : (t u : Term) → bounded t ≡ Ok u → is_low u ≡ true
bounded-is_low t u e = by (is_low t) refl e
  where
    by : (b : Bool) → is_low t ≡ b → ◌≡◌ {A = Result Term Stop} (cond b (Ok t) (Err Deep)) (Ok u) → is_low u ≡ true
    by true is k = let same : t ≡ u = cc in transport (λ v. is_low v ≡ true) same is
    by false is k = absurd (cc)

one-use : (terms : List Term) (body : Term) (uses : List Use) → are_low terms ≡ true → is_low body ≡ true → are_low_uses uses ≡ true
    → ((are_low terms && is_low body) && are_low_uses uses) ≡ true
one-use terms body uses h k l = ap₂ (λ (a b : Bool). a && b) (ap₂ (λ (a b : Bool). a && b) h k) l

uses-both : (first rest : List Use) → are_low_uses first ≡ true → are_low_uses rest ≡ true → are_low_uses (first ++ rest) ≡ true
uses-both [] rest h k = k
uses-both (u ∷ first) rest h k =
    let parts = and_parts (are_low u.terms && is_low u.body) (are_low_uses first) h in
    ap₂ (λ (a b : Bool). a && b) parts.0 (uses-both first rest parts.1 k)

mutual
  clause-low : (s : Session) (k : ℕ) (part : Opened) (number next : ℕ) (c : Clause) (left : ℕ)
      → IfOk (walk_clause s k part number next c left).0 IsLowGiven
  clause-low s k part number next (Is pats binds right) left =
      let S = s.signature in
      let owner = owner_of (part_named s.name k) number in
      next-has IsLowGiven (walking S (part_named s.name k) (own_walk_of S part.tele part.goal part.terms (Is pats binds right) number left)) _ (λ w rest e.
      let low : are_low w.terms ≡ true =
      if-ok IsLowWalk (own_walk_of S part.tele part.goal part.terms (Is pats binds right) number left).0 w (ends-ok S (part_named s.name k) _ w e)
      (walk-low S part.tele part.goal part.terms (Is pats binds right) number left) in
      dots-have IsLowGiven S owner w.ctx w.dots (walk_right s k number next owner w right) rest (λ rest.
      right-low s k number next owner w right rest low))

  right-low : (s : Session) (k number next : ℕ) (owner : Owner) (w : Walk) (right : Right) (left : ℕ) → are_low w.terms ≡ true
      → IfOk (walk_right s k number next owner w right left).0 IsLowGiven
  right-low s k number next owner w (clause.Side side) left h =
      next-has IsLowGiven (answers (or_halts (bounded (under_solution w.binds side))) left) _ (λ body rest e1.
      next-has IsLowGiven (granted s.signature (OfSide owner) (check_of s.signature nesting (reverse w.ctx) body w.goal rest)) _ (λ found end e2.
      one-use w.terms body [] h (bounded-is_low (under_solution w.binds side) body (halts-ok _ body e1)) refl))
  right-low s k number next owner w (clause.With written inner) left h =
      next-has IsLowGiven (answers (or_halts (bounded (under_solution w.binds written))) left) _ (λ t rest e1.
      next-has IsLowGiven (open_over s owner w t rest) _ (λ o further e2.
      next-has IsLowGiven (walk_clauses s next (opened o w) 0 (next + 1) inner further) _ (λ given end e3.
      one-use w.terms t given.uses h (bounded-is_low (under_solution w.binds written) t (halts-ok _ t e1))
      (if-ok IsLowGiven (walk_clauses s next (opened o w) 0 (next + 1) inner further).0 given e3
      (clauses-low s next (opened o w) 0 (next + 1) inner further)))))
  right-low s k number next owner w clause.Absurd left h = refl

  pub clauses-low : (s : Session) (k : ℕ) (part : Opened) (number next : ℕ) (clauses : Clauses) (left : ℕ)
      → IfOk (walk_clauses s k part number next clauses left).0 IsLowGiven
  clauses-low s k part number next clause.nil left = refl
  clauses-low s k part number next (clause.cons c clauses) left =
      next-has IsLowGiven (walk_clause s k part number next c left) _ (λ given rest e1.
      next-has IsLowGiven (walk_clauses s k part (number + 1) (next + length given.helpers) clauses rest) _ (λ others end e2.
      uses-both given.uses others.uses
      (if-ok IsLowGiven (walk_clause s k part number next c left).0 given e1 (clause-low s k part number next c left))
      (if-ok IsLowGiven (walk_clauses s k part (number + 1) (next + length given.helpers) clauses rest).0 others e2
      (clauses-low s k part (number + 1) (next + length given.helpers) clauses rest))))
