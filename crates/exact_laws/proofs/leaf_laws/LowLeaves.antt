-- The terms of the leaves of a tree that splitting gives are low.
use Rattle.std.proofs.Common.{◌≡◌, ℕ, zero, suc, ◌&&◌, Bool, true, false, cond, None, Result, Ok, Err, IfOk, List, [], ◌∷◌, refl}
use Rattle.theory.specs.Telescopes.{Telescope}
use Rattle.theory.specs.Terms.{Term}
use Rattle.theory.specs.Signatures.{Signature}
use Rattle.core_terms.specs.Answers.{and_then, are_low, is_low}
use Rattle.core_terms.specs.Clauses.{Clauses}
use Rattle.core_terms.specs.Patterns.{Pat}
use Rattle.core_terms.specs.declared.stop.Stop.{Stop}
use Rattle.core_terms.specs.declared.stop.Stop.TheVariants.{Deep}
use Rattle.core_terms.proofs.Answers.{Answers, and_next-has}
use Rattle.unification.specs.Outcomes.{Absurd, Outcome, Solved, Stuck}
use Rattle.case_trees.specs.Keeping.{keep_all}
use Rattle.case_trees.specs.Looking.{Ran, first_found}
use Rattle.case_trees.specs.Pairs.{all_open, some_clashes}
use Rattle.case_trees.specs.Points.{Point, bounded_point, moved_point, point_keeping, solution_for, start_at}
use Rattle.case_trees.specs.Standing.{EachLeaf, EachLeafIn, EachLeafOf}
use Rattle.case_trees.specs.Stops.{answers, halting, or_halts}
use Rattle.case_trees.specs.Trees.{Growing, Live, Node, SplitAt, all_live, branch_by, by_first, by_live, by_patterns, grow_branches, look, moved_live, nowhere, one_node, patterns_left, solved_node, split_at, split_of, unless_dropped, worked}
use Rattle.case_trees.specs.Working.{of_columns, work_pairs}
use Rattle.exact_laws.specs.leaf_laws.Laws.{IsLowLeaf}

any : {A E : Type 0} (r : Result A E) → IfOk r (λ a. Unit {0})
any (Ok a) = tt
any (Err e) = tt

halts-has : {A : Type 0} (P : A → Type 0) (r : Result A Stop) (left : ℕ) → IfOk r P → Answers P (answers (or_halts r) left)
halts-has P (Ok a) left h = h
halts-has P (Err e) left h = tt

abbrev IsLow : Point → Type 0
IsLow p = are_low p.terms ≡ true

point-low : (p : Point) → IfOk (bounded_point p) IsLow
point-low p = by (are_low p.context) (is_low p.goal) (are_low p.substitution) (are_low p.terms) refl
  where
    by : (a b c d : Bool) → are_low p.terms ≡ d → IfOk {E = Stop} (cond (a && (b && (c && d))) (Ok p) (Err Deep)) IsLow
    by true true true true e = e
    by true true true false e = tt
    by true true false d e = tt
    by true false c d e = tt
    by false b c d e = tt

-- ---- a node

dropped-low : (c : Live) (node : Node) → IsLow node.point → IsLow (unless_dropped c node).point
dropped-low c node h = by (some_clashes c.pairs)
  where
    by : (b : Bool) → IsLow (cond b node (record node { live = c ∷ node.live })).point
    by true = h
    by false = h

worked-low : (S : Signature) (p : Point) (live : List Live) (left : ℕ) → IsLow p → Answers (λ (node : Node). IsLow node.point) (worked S p live left)
worked-low S p [] left h = h
worked-low S p (c ∷ live) left h =
    and_next-has (λ pairs. Unit {0}) (λ (node : Node). IsLow node.point) (halting (work_pairs S of_columns c.pairs left)) _ (any (halting (work_pairs S of_columns c.pairs left)).0) (λ pairs rest done.
    and_next-has IsLow (λ (node : Node). IsLow node.point) (answers (or_halts (point_keeping S p pairs)) rest) _ (halts-has IsLow (point_keeping S p pairs) rest (point-low (record p { terms = keep_all S pairs p.terms }))) (λ next rest low.
    and_next-has (λ (node : Node). IsLow node.point) (λ (node : Node). IsLow node.point) (worked S next live rest) _ (worked-low S next live rest low) (λ node end is.
    dropped-low (record { number = c.number; pairs = pairs }) node is)))

solved-low : (p : Point) (live : List Live) (context : Telescope) (solution : List Term) → IfOk (solved_node p live context solution) (λ (node : Node). IsLow node.point)
solved-low p live context solution = by (bounded_point (moved_point p context solution)) (point-low (moved_point p context solution)) (moved_live solution live)
  where
    by : (r : Result Point Stop) → IfOk r IsLow → (moved : Result (List Live) Stop)
        → IfOk {E = Stop} (and_then r (λ next. and_then moved (λ live. Ok (record { point = next; live = live })))) (λ (node : Node). IsLow node.point)
    by (Ok next) h (Ok moved) = h
    by (Ok next) h (Err e) = tt
    by (Err e) h moved = tt

-- ---- trees

abbrev GrowsLow : Growing → Type 0
GrowsLow go = (p : Point) (live : List Live) (left : ℕ) → IsLow p → Answers (EachLeaf IsLowLeaf) (go p live left)

branch-low : (go : Growing) → GrowsLow go → (p : Point) (live : List Live) (run : Ran) (outcome : Outcome) (left : ℕ) → Answers (EachLeafIn IsLowLeaf) (branch_by go p live run outcome left)
branch-low go grows p live run (Absurd steps context u v) left = tt
branch-low go grows p live run (Solved steps context solution) left =
    and_next-has (λ (node : Node). IsLow node.point) (EachLeafIn IsLowLeaf) (answers (or_halts (solved_node p live context (solution_for p solution))) left) _
    (halts-has (λ (node : Node). IsLow node.point) (solved_node p live context (solution_for p solution)) left (solved-low p live context (solution_for p solution))) (λ node rest low.
    and_next-has (EachLeaf IsLowLeaf) (EachLeafIn IsLowLeaf) (go node.point node.live rest) _ (grows node.point node.live rest low) (λ subtree end is. is))
branch-low go grows p live run (Stuck steps context u v why) left = tt

branches-low : (go : Growing) → GrowsLow go → (p : Point) (live : List Live) (runs : List Ran) (left : ℕ) → Answers (EachLeafOf IsLowLeaf) (grow_branches go p live runs left)
branches-low go grows p live [] left = tt
branches-low go grows p live (run ∷ runs) left =
    and_next-has (EachLeafIn IsLowLeaf) (EachLeafOf IsLowLeaf) (branch_by go p live run run.outcome left) _ (branch-low go grows p live run run.outcome left) (λ branch rest is.
    and_next-has (EachLeafOf IsLowLeaf) (EachLeafOf IsLowLeaf) (grow_branches go p live runs rest) _ (branches-low go grows p live runs rest) (λ branches end are. (is, are)))

first-low : (S : Signature) (go : Growing) → GrowsLow go → (p : Point) (c : Live) (live : List Live) (open_pairs : List (Pat × Term)) (left : ℕ) → IsLow p
    → Answers (EachLeaf IsLowLeaf) (by_first S go p c live open_pairs left)
first-low S go grows p c live [] left h = h
first-low S go grows p c live (pair ∷ others) left h =
    and_next-has (λ (s : SplitAt). Unit {0}) (EachLeaf IsLowLeaf) (first_found S c.number p.context (look S c.number p.context) (pair ∷ others) None None left) (split_at go p (c ∷ live))
    (any (first_found S c.number p.context (look S c.number p.context) (pair ∷ others) None None left).0) (λ s rest found.
    and_next-has (EachLeafOf IsLowLeaf) (EachLeaf IsLowLeaf) (grow_branches go p (c ∷ live) s.runs rest) _ (branches-low go grows p (c ∷ live) s.runs rest) (λ branches end are. are))

node-low : (S : Signature) (go : Growing) → GrowsLow go → GrowsLow (one_node S go)
node-low S go grows p live left h =
    and_next-has (λ (node : Node). IsLow node.point) (EachLeaf IsLowLeaf) (worked S p live left) _ (worked-low S p live left h) (λ node rest low. by node.live node.point rest low)
  where
    by : (live : List Live) (p : Point) (rest : ℕ) → IsLow p → Answers (EachLeaf IsLowLeaf) (by_live S go p live rest)
    by [] p rest low = tt
    by (c ∷ live) p rest low = first-low S go grows p c live (all_open c.pairs) rest low

none-low : GrowsLow nowhere
none-low p live left h = tt

patterns-low : (S : Signature) (patterns : ℕ) → GrowsLow (by_patterns S patterns)
patterns-low S zero = node-low S nowhere none-low
patterns-low S (suc patterns) = node-low S (by_patterns S patterns) (patterns-low S patterns)

-- the leaves of the tree of a list of clauses
pub split-low : (S : Signature) (context : Telescope) (goal : Term) (terms : List Term) (clauses : Clauses) (units : ℕ)
    → Answers (EachLeaf IsLowLeaf) (split_of S context goal terms clauses units)
split-low S context goal terms clauses units =
    and_next-has IsLow (EachLeaf IsLowLeaf) (answers (or_halts (bounded_point (start_at context goal terms))) units) _
    (halts-has IsLow (bounded_point (start_at context goal terms)) units (point-low (start_at context goal terms))) (λ p rest low.
    patterns-low S (patterns_left (all_live 0 terms clauses)) p (all_live 0 terms clauses) rest low)
