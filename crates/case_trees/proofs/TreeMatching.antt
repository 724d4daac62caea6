-- Leaves are matched by their clauses and apart from earlier ones; terms that are uncovered are apart from every clause.
use Rattle.std.proofs.Common.{◌≡◌, ℕ, zero, suc, ◌+◌, ◌<◌, Bool, true, false, ◌&&◌, cond, Some, None, Result, Ok, Err, IfOk, List, [], ◌∷◌, map, refl, sym, ap, ◌∙◌, subst as transport, arith}
use Rattle.theory.specs.Terms.{Term}
use Rattle.theory.specs.Substitutions.{inst}
use Rattle.theory.specs.Telescopes.{Telescope}
use Rattle.theory.specs.Signatures.{Signature, HasClosedBodies}
use Rattle.theory.proofs.Lists.{some_is}
use Rattle.core_terms.specs.Answers.{and_next, and_then, is_low, are_low}
use Rattle.core_terms.specs.Patterns.{Pat, Pats}
use Rattle.core_terms.specs.Clauses as clause
use Rattle.core_terms.specs.Clauses.{Clauses, Right, Is}
use Rattle.core_terms.specs.CaseTrees as tree
use Rattle.core_terms.specs.CaseTrees.{Tree, Branch, Branches}
use Rattle.core_terms.specs.declared.stop.Stop.{Stop}
use Rattle.core_terms.specs.declared.stop.Stop.TheVariants.{Deep}
use Rattle.case_trees.specs.pattern_vectors.Columns.{AreWhole}
use Rattle.case_trees.specs.pattern_vectors.Matching.{matches_all, has_apart, are_apart}
use Rattle.case_trees.proofs.pattern_vectors.Staying.{all-stay, apart_stays}
use Rattle.case_trees.proofs.pattern_vectors.Separate.{matched_is_not_apart}
use Rattle.unification.specs.Outcomes as outcome
use Rattle.unification.specs.Outcomes.{Outcome}
use Rattle.unification.proofs.UnderInstances.{closed-bodies}
use Rattle.case_trees.specs.Pairs.{Pairs, some_clashes, all_open, all_bound}
use Rattle.case_trees.specs.Working.{of_columns, work_pairs}
use Rattle.case_trees.specs.Keeping.{keep_all}
use Rattle.case_trees.specs.Points.{Point, bounded_point, start_at, under_solution, moved_point, solution_for, point_keeping}
use Rattle.case_trees.specs.Stops as stop
use Rattle.case_trees.specs.Stops.{TreeStop, Halts, or_halts, halting, answers}
use Rattle.case_trees.specs.Looking.{Look, Found, Passed, Looked, Ran, look_at_type, first_found, run_all}
use Rattle.case_trees.specs.OwnWalks.{or_none}
use Rattle.case_trees.specs.Trees.{Live, Node, Growing, all_live, patterns_left, unless_dropped, worked, as_split, look, moved_live, solved_node, branch_by, grow_branches, by_first, by_live, one_node, nowhere, by_patterns, split_of}
use Rattle.case_trees.specs.Places.{clause_at}
use Rattle.case_trees.specs.Standing.{LeafProperty, EachLeaf, EachLeafOf, EachLeafIn}
use Rattle.case_trees.specs.Scoped.{AreClausesFor}
use Rattle.case_trees.specs.Causes.{AllApart}
use Rattle.case_trees.specs.Laws.{IsGiven, IsLeafOf, LeadsTo, LeavesMatch, FirstMatch, LeavesLead}
use Rattle.case_trees.proofs.Leading.{Leads, leads-start, leads-kept, leads-moved}
use Rattle.case_trees.proofs.Answered.{Holds, and_next-holds, answer-of}
use Rattle.case_trees.proofs.Workings.{AllBecome}
use Rattle.case_trees.proofs.Looks.{any-pairs, LookHas, LookHolds, first-holds}
use Rattle.case_trees.proofs.Running.{RunHas, all-run}
use Rattle.case_trees.proofs.WalkTurns.{keeping-holds, become-holds}
use Rattle.case_trees.proofs.WalkLooks.{LookedAt, type-holds}
use Rattle.case_trees.specs.Kept.{KeptAll}
use Rattle.case_trees.proofs.KeptTerms.{all-trans, all-same}
use Rattle.case_trees.proofs.SharedTerms.{HaveKept, all-kept-on, all-long, some-clash-apart}
use Rattle.case_trees.proofs.Comparing.{all-compare}
use Rattle.case_trees.proofs.LeftClauses as clauses_left
use Rattle.case_trees.proofs.LeftClauses.{AreLeft, all-left, left-on, left-moved, none-left, first-left, same-patterns}

-- terms that are uncovered are apart from every clause
abbrev pub UncoveredApart : Signature → Clauses → TreeStop → Type 0
UncoveredApart S clauses (stop.Uncovered context terms) = AllApart S clauses terms
UncoveredApart S clauses _ = Unit {0}

-- a leaf is one of its clause, and its substitution leads there from the start
abbrev LeafMatches : Signature → Point → Clauses → LeafProperty
LeafMatches S start clauses number context goal substitution terms binds =
    IsLeafOf S clauses number terms binds × LeadsTo S start goal substitution terms

-- ---- the clauses of a node are worked

-- the clauses from a number on, once they are worked, with the terms that they were compared with
abbrev pub NodeHas : Signature → Point → ℕ → Clauses → List Term → Node → Type 0
NodeHas S start number clauses us node =
    AreLeft S number clauses node.live node.point.terms × KeptAll S us node.point.terms × Leads S start node.point

-- a clause that is worked is left, or it clashes and is apart
one-worked : (S : Signature) (number : ℕ) (pats : Pats) (binds : ℕ) (right : Right) (clauses : Clauses) (pairs : Pairs) (node : Node) → AreWhole S pats
    → HaveKept S pats pairs node.point.terms → AreLeft S (number + 1) clauses node.live node.point.terms
    → AreLeft S number (clause.cons (Is pats binds right) clauses) (unless_dropped (record { number = number; pairs = pairs }) node).live node.point.terms
one-worked S number pats binds right clauses pairs node whole has rest = by (some_clashes pairs) refl
  where
    by : (test : Bool) → some_clashes pairs ≡ test
        → AreLeft S number (clause.cons (Is pats binds right) clauses) (cond test node (record node { live = record { number = number; pairs = pairs } ∷ node.live })).live node.point.terms
    by true clash =
        clauses_left.gone number pats binds right clauses node.live node.point.terms
        (ap (λ long. long && has_apart S pats node.point.terms) (all-long S pats pairs node.point.terms has) ∙ some-clash-apart S pats pairs node.point.terms has clash) rest
    by false clean = clauses_left.left number pats binds right clauses pairs node.live node.point.terms whole has clean rest

terms-same : (c : Live) (node : Node) → (unless_dropped c node).point ≡ node.point
terms-same c node = by (some_clashes c.pairs)
  where
    by : (test : Bool) → (cond test node (record node { live = c ∷ node.live })).point ≡ node.point
    by true = refl
    by false = refl

pub worked-holds : (S : Signature) (start : Point) (Q : TreeStop → Type 0) (number : ℕ) (clauses : Clauses) (p : Point) (live : List Live) (left : ℕ) → ((e : Stop) → Q (Halts e))
    → AreLeft S number clauses live p.terms → Leads S start p → Holds (NodeHas S start number clauses p.terms) Q (worked S p live left).0
worked-holds S start Q number clause.nil p _ left halts (clauses_left.none _ _) leads = (clauses_left.none number p.terms, all-same S p.terms, leads)
worked-holds S start Q number (clause.cons (Is pats binds right) clauses) p live left halts (clauses_left.gone _ _ _ _ _ _ _ far rest) leads =
    weaker (worked S p live left).0 (worked-holds S start Q (number + 1) clauses p live left halts rest leads)
  where
    weaker : (r : Result Node TreeStop) → Holds (NodeHas S start (number + 1) clauses p.terms) Q r
        → Holds (NodeHas S start number (clause.cons (Is pats binds right) clauses) p.terms) Q r
    weaker (Ok node) (has, all, on) =
        (clauses_left.gone number pats binds right clauses node.live node.point.terms (clauses_left.apart-on S pats p.terms node.point.terms all far) has, all, on)
    weaker (Err e) h = h
worked-holds S start Q number (clause.cons (Is pats binds right) clauses) p _ left halts (clauses_left.left _ _ _ _ _ pairs live _ whole has clean rest) leads =
    and_next-holds (AllBecome S pairs) (NodeHas S start number (clause.cons (Is pats binds right) clauses) p.terms) Q (halting (work_pairs S of_columns pairs left)) _
    (become-holds S pairs left Q halts) (λ new rest_left become.
    after new rest_left (all-compare S pats pairs new p.terms become has whole) (λ next. worked-holds S start Q (number + 1) clauses next live))
  where
    after : (new : Pairs) (rest_left : ℕ) → HaveKept S pats new (keep_all S new p.terms) × KeptAll S p.terms (keep_all S new p.terms)
        → ((next : Point) (end : ℕ) → ((e : Stop) → Q (Halts e)) → AreLeft S (number + 1) clauses live next.terms → Leads S start next
        → Holds (NodeHas S start (number + 1) clauses next.terms) Q (worked S next live end).0)
        → Holds (NodeHas S start number (clause.cons (Is pats binds right) clauses) p.terms) Q
        (and_next (answers (or_halts (point_keeping S p new)) rest_left) (λ next end.
        and_next (worked S next live end) (λ node last. answers (Ok (unless_dropped (record { number = number; pairs = new }) node)) last))).0
    after new rest_left (kept, all) more =
        and_next-holds (λ (next : Point). (next.terms ≡ keep_all S new p.terms) × Leads S start next) (NodeHas S start number (clause.cons (Is pats binds right) clauses) p.terms) Q
        (answers (or_halts (point_keeping S p new)) rest_left) _
        (keeping-holds S (λ (next : Point). (next.terms ≡ keep_all S new p.terms) × Leads S start next) Q (record p { terms = keep_all S new p.terms }) halts
        (refl, leads-kept S start p (keep_all S new p.terms) leads all)) (λ next end next_has.
        let same = next_has.0 in
        and_next-holds (NodeHas S start (number + 1) clauses next.terms) (NodeHas S start number (clause.cons (Is pats binds right) clauses) p.terms) Q
        (worked S next live end) _
        (more next end halts (transport (AreLeft S (number + 1) clauses live) (sym same) (left-on S (number + 1) clauses live p.terms (keep_all S new p.terms) rest all)) next_has.1)
        (λ node last node_has.
        let onwards : KeptAll S (keep_all S new p.terms) node.point.terms = transport (λ us. KeptAll S us node.point.terms) same node_has.1 in
        let c : Live = record { number = number; pairs = new } in (
          transport (λ q. AreLeft S number (clause.cons (Is pats binds right) clauses) (unless_dropped c node).live q.terms) (sym (terms-same c node))
              (one-worked S number pats binds right clauses new node whole
              (all-kept-on S pats new (keep_all S new p.terms) node.point.terms kept onwards) node_has.0),
          transport (λ q. KeptAll S p.terms q.terms) (sym (terms-same c node)) (all-trans S p.terms (keep_all S new p.terms) node.point.terms all onwards),
          transport (λ q. Leads S start q) (sym (terms-same c node)) node_has.2,
        )))

-- ---- where a node is split

split-look : (S : Signature) (clauses : Clauses) (number : ℕ) (x : ℕ) (context : Telescope) (found : Looked) (runs : Look (List Ran))
    → LookHas (λ s. Unit {0}) (UncoveredApart S clauses) number (as_split x found runs)
split-look S clauses number x context found (Found runs) = tt
split-look S clauses number x context found (Passed r) = tt

looks-hold : (S : Signature) (clauses : Clauses) (number : ℕ) (context : Telescope)
    → LookHolds (λ s. Unit {0}) (UncoveredApart S clauses) (λ pair. Unit {0}) S number (look S number context)
looks-hold S clauses number context = λ pair x left o tidy.
    and_next-holds (LookedAt S (λ pair. Unit {0}) context pair x) (LookHas (λ s. Unit {0}) (UncoveredApart S clauses) number) (UncoveredApart S clauses)
    (look_at_type S number context pair.0 x left) _
    (type-holds S number (λ pair. Unit {0}) (UncoveredApart S clauses) context pair x left (λ e. tt) tt tidy (λ type to none. tt))
    (λ found rest at.
    and_next-holds (RunHas S context x found.member 0 found.member.family.constructors) (LookHas (λ s. Unit {0}) (UncoveredApart S clauses) number)
    (UncoveredApart S clauses) (run_all S context x found.member 0 found.member.family.constructors rest) _
    (all-run S context x found.member 0 found.member.family.constructors rest (UncoveredApart S clauses) (λ e. tt))
    (λ runs end has. split-look S clauses number x context found runs))

-- ---- the tree

abbrev GrowingHolds : Signature → Point → Clauses → Growing → Type 0
GrowingHolds S start clauses go =
    (p : Point) (live : List Live) (left : ℕ) → AreLeft S 0 clauses live p.terms → Leads S start p → Holds (EachLeaf (LeafMatches S start clauses)) (UncoveredApart S clauses) (go p live left).0

solved-holds : (S : Signature) (start : Point) (clauses : Clauses) (p : Point) (live : List Live) (context : Telescope) (solution : List Term) → HasClosedBodies S
    → AreLeft S 0 clauses live p.terms → Leads S start p
    → Holds (λ (node : Node). AreLeft S 0 clauses node.live node.point.terms × Leads S start node.point) (UncoveredApart S clauses) (or_halts (solved_node p live context solution))
solved-holds S start clauses p live context solution closed h leads =
    by (are_low next.context && (is_low next.goal && (are_low next.substitution && are_low next.terms))) (moved_live solution live)
    (left-moved S closed solution 0 clauses live p.terms h)
  where
    next : Point
    next = moved_point p context solution

    by : (low : Bool) (moved : Result (List Live) Stop) → IfOk moved (λ m. AreLeft S 0 clauses m (map (under_solution solution) p.terms))
        → Holds (λ (node : Node). AreLeft S 0 clauses node.live node.point.terms × Leads S start node.point) (UncoveredApart S clauses)
        (or_halts (and_then (cond low (Ok (moved_point p context solution)) (Err Deep)) (λ q. and_then moved (λ m. Ok (record { point = q; live = m })))))
    by true (Ok m) k = (k, leads-moved S start p context solution closed leads)
    by true (Err e) k = tt
    by false moved k = tt

branch-holds : (S : Signature) (start : Point) (clauses : Clauses) (go : Growing) (p : Point) (live : List Live) (run : Ran) (o : Outcome) (left : ℕ) → HasClosedBodies S
    → GrowingHolds S start clauses go → AreLeft S 0 clauses live p.terms → Leads S start p
    → Holds (EachLeafIn (LeafMatches S start clauses)) (UncoveredApart S clauses) (branch_by go p live run o left).0
branch-holds S start clauses go p live run (outcome.Absurd steps context u v) left closed more h leads = tt
branch-holds S start clauses go p live run (outcome.Solved steps context solution) left closed more h leads =
    and_next-holds (λ (node : Node). AreLeft S 0 clauses node.live node.point.terms × Leads S start node.point) (EachLeafIn (LeafMatches S start clauses)) (UncoveredApart S clauses)
    (answers (or_halts (solved_node p live context (solution_for p solution))) left) _
    (solved-holds S start clauses p live context (solution_for p solution) closed h leads) (λ node rest has.
    and_next-holds (EachLeaf (LeafMatches S start clauses)) (EachLeafIn (LeafMatches S start clauses)) (UncoveredApart S clauses) (go node.point node.live rest) _
    (more node.point node.live rest has.0 has.1) (λ subtree end each. each))
branch-holds S start clauses go p live run (outcome.Stuck steps context u v why) left closed more h leads = tt

branches-hold : (S : Signature) (start : Point) (clauses : Clauses) (go : Growing) (p : Point) (live : List Live) (runs : List Ran) (left : ℕ) → HasClosedBodies S
    → GrowingHolds S start clauses go → AreLeft S 0 clauses live p.terms → Leads S start p
    → Holds (EachLeafOf (LeafMatches S start clauses)) (UncoveredApart S clauses) (grow_branches go p live runs left).0
branches-hold S start clauses go p live [] left closed more h leads = tt
branches-hold S start clauses go p live (run ∷ runs) left closed more h leads =
    and_next-holds (EachLeafIn (LeafMatches S start clauses)) (EachLeafOf (LeafMatches S start clauses)) (UncoveredApart S clauses) (branch_by go p live run run.outcome left) _
    (branch-holds S start clauses go p live run run.outcome left closed more h leads) (λ branch rest one.
    and_next-holds (EachLeafOf (LeafMatches S start clauses)) (EachLeafOf (LeafMatches S start clauses)) (UncoveredApart S clauses) (grow_branches go p live runs rest) _
    (branches-hold S start clauses go p live runs rest closed more h leads) (λ branches end others. (one, others)))

-- the leaf of the first clause that is left
leaf-matches : (S : Signature) (start : Point) (clauses : Clauses) (p : Point) (c : Live) (live : List Live) → AreLeft S 0 clauses (c ∷ live) p.terms → all_open c.pairs ≡ []
    → IsLeafOf S clauses c.number p.terms (map or_none (all_bound c.pairs))
leaf-matches S start clauses p c live h done =
    let first = first-left S 0 clauses c live p.terms h done in
    let place : c.number ≡ first.place = (let e : c.number ≡ 0 + first.place = first.at in omega arith) in
    record {
      pats = first.pats;
      binds = first.binds;
      right = first.right;
      clause = ap (clause_at clauses) place ∙ first.there;
      matched = first.matched;
      apart = λ j n earlier other less e. first.apart j n earlier other (omega arith) e;
      bound = first.bound;
    }

first-holds-at : (S : Signature) (start : Point) (clauses : Clauses) (go : Growing) (p : Point) (c : Live) (live : List Live) (pairs : List (Pat × Term)) (left : ℕ)
    → HasClosedBodies S → GrowingHolds S start clauses go → AreLeft S 0 clauses (c ∷ live) p.terms → Leads S start p → all_open c.pairs ≡ pairs
    → Holds (EachLeaf (LeafMatches S start clauses)) (UncoveredApart S clauses) (by_first S go p c live pairs left).0
first-holds-at S start clauses go p c live [] left closed more h leads e = (leaf-matches S start clauses p c live h e, leads)
first-holds-at S start clauses go p c live (pair ∷ others) left closed more h leads e =
    and_next-holds (λ s. Unit {0}) (EachLeaf (LeafMatches S start clauses)) (UncoveredApart S clauses)
    (first_found S c.number p.context (look S c.number p.context) (pair ∷ others) None None left) _
    (first-holds (λ s. Unit {0}) (UncoveredApart S clauses) (λ pair. Unit {0}) S c.number p.context (look S c.number p.context) (pair ∷ others) (λ e. tt)
    (any-pairs (pair ∷ others)) (looks-hold S clauses c.number p.context) (λ pair u o to none. tt) None None left tt tt)
    (λ s rest found.
    and_next-holds (EachLeafOf (LeafMatches S start clauses)) (EachLeaf (LeafMatches S start clauses)) (UncoveredApart S clauses) (grow_branches go p (c ∷ live) s.runs rest) _
    (branches-hold S start clauses go p (c ∷ live) s.runs rest closed more h leads) (λ branches end each. each))

live-holds : (S : Signature) (start : Point) (clauses : Clauses) (go : Growing) (p : Point) (live : List Live) (left : ℕ) → HasClosedBodies S → GrowingHolds S start clauses go
    → AreLeft S 0 clauses live p.terms → Leads S start p → Holds (EachLeaf (LeafMatches S start clauses)) (UncoveredApart S clauses) (by_live S go p live left).0
live-holds S start clauses go p [] left closed more h leads = none-left S 0 clauses p.terms h
live-holds S start clauses go p (c ∷ live) left closed more h leads = first-holds-at S start clauses go p c live (all_open c.pairs) left closed more h leads refl

node-holds : (S : Signature) (start : Point) (clauses : Clauses) (go : Growing) → HasClosedBodies S → GrowingHolds S start clauses go → GrowingHolds S start clauses (one_node S go)
node-holds S start clauses go closed more = λ p live left h leads.
    and_next-holds (NodeHas S start 0 clauses p.terms) (EachLeaf (LeafMatches S start clauses)) (UncoveredApart S clauses) (worked S p live left) _
    (worked-holds S start (UncoveredApart S clauses) 0 clauses p live left (λ e. tt) h leads)
    (λ node rest has. live-holds S start clauses go node.point node.live rest closed more has.0 has.2)

tree-holds : (S : Signature) (start : Point) (clauses : Clauses) → HasClosedBodies S → (patterns : ℕ) → GrowingHolds S start clauses (by_patterns S patterns)
tree-holds S start clauses closed zero = node-holds S start clauses nowhere closed (λ p live left h leads. tt)
tree-holds S start clauses closed (suc patterns) = node-holds S start clauses (by_patterns S patterns) closed (tree-holds S start clauses closed patterns)

pub tree-matches : (S : Signature) (context : Telescope) (goal : Term) (terms : List Term) (clauses : Clauses) (left : ℕ) → IsGiven S context goal terms
    → AreClausesFor S terms clauses
    → Holds (EachLeaf (LeafMatches S (start_at context goal terms) clauses)) (UncoveredApart S clauses) (split_of S context goal terms clauses left).0
tree-matches S context goal terms clauses left given for =
    let start = start_at context goal terms in
    and_next-holds (λ (p : Point). (p.terms ≡ terms) × Leads S start p) (EachLeaf (LeafMatches S start clauses)) (UncoveredApart S clauses)
    (answers (or_halts (bounded_point start)) left) _
    (keeping-holds S (λ (p : Point). (p.terms ≡ terms) × Leads S start p) (UncoveredApart S clauses) start (λ e. tt)
    (refl, leads-start S context goal terms given.scoped)) (λ p rest has.
    tree-holds S start clauses (closed-bodies S given.ready.scoped) (patterns_left (all_live 0 terms clauses)) p (all_live 0 terms clauses) rest
    (transport (AreLeft S 0 clauses (all_live 0 terms clauses)) (sym has.0) (all-left S 0 terms clauses for)) has.1)

-- ---- the laws

mutual
  each-leaf : (P R : LeafProperty) → ((number : ℕ) (context : Telescope) (goal : Term) (substitution terms binds : List Term)
      → P number context goal substitution terms binds → R number context goal substitution terms binds) → (t : Tree) → EachLeaf P t → EachLeaf R t
  each-leaf P R h (tree.Leaf number context goal substitution terms binds) p = h number context goal substitution terms binds p
  each-leaf P R h (tree.Split context x n type branches) p = each-leaf-of P R h branches p

  each-leaf-of : (P R : LeafProperty) → ((number : ℕ) (context : Telescope) (goal : Term) (substitution terms binds : List Term)
      → P number context goal substitution terms binds → R number context goal substitution terms binds) → (branches : Branches) → EachLeafOf P branches
      → EachLeafOf R branches
  each-leaf-of P R h tree.nil p = tt
  each-leaf-of P R h (tree.cons branch branches) p = (each-leaf-in P R h branch p.0, each-leaf-of P R h branches p.1)

  each-leaf-in : (P R : LeafProperty) → ((number : ℕ) (context : Telescope) (goal : Term) (substitution terms binds : List Term)
      → P number context goal substitution terms binds → R number context goal substitution terms binds) → (branch : Branch) → EachLeafIn P branch
      → EachLeafIn R branch
  each-leaf-in P R h (tree.Absurd steps context u v) p = tt
  each-leaf-in P R h (tree.Solved steps origins subtree) p = each-leaf P R h subtree p

pub leaves_match : LeavesMatch
leaves_match = λ S context goal terms clauses left given for.
    answer-of (EachLeaf (LeafMatches S (start_at context goal terms) clauses))
    (EachLeaf (λ number ctx goal' substitution us binds. IsLeafOf S clauses number us binds)) (UncoveredApart S clauses)
    (split_of S context goal terms clauses left).0
    (λ t each. each-leaf (LeafMatches S (start_at context goal terms) clauses) (λ number ctx goal' substitution us binds. IsLeafOf S clauses number us binds)
    (λ number ctx goal' substitution us binds h. h.0) t each) (tree-matches S context goal terms clauses left given for)

unmatched : (S : Signature) (pats : Pats) (us : List Term) → are_apart S pats us ≡ true → matches_all S pats us ≡ false
unmatched S pats us far = by (matches_all S pats us) refl
  where
    by : (m : Bool) → matches_all S pats us ≡ m → m ≡ false
    by true e = absurd (grind (arith, matched_is_not_apart S pats us e, far))
    by false e = refl

pub first_match : FirstMatch
first_match = λ S context goal terms clauses left given for.
    answer-of (EachLeaf (LeafMatches S (start_at context goal terms) clauses))
    (EachLeaf (λ number ctx goal' substitution us binds.
    (s : ℕ → Term) (j count : ℕ) (pats : Pats) (right : Right) → clause_at clauses j ≡ Some (Is pats count right) →
    (j ≡ number → matches_all S pats (map (inst s) us) ≡ true) × (j < number → matches_all S pats (map (inst s) us) ≡ false)))
    (UncoveredApart S clauses) (split_of S context goal terms clauses left).0
    (λ t each. each-leaf (LeafMatches S (start_at context goal terms) clauses) (λ number ctx goal' substitution us binds.
    (s : ℕ → Term) (j count : ℕ) (pats : Pats) (right : Right) → clause_at clauses j ≡ Some (Is pats count right) →
    (j ≡ number → matches_all S pats (map (inst s) us) ≡ true) × (j < number → matches_all S pats (map (inst s) us) ≡ false))
    (λ number ctx goal' substitution us binds both s j count pats right there. let leaf = both.0 in (
      (λ e. all-stay S s pats us
          (transport (λ ps. matches_all S ps us ≡ true)
          (same-patterns leaf.pats pats leaf.binds count leaf.right right (some_is (sym leaf.clause ∙ (ap (clause_at clauses) (sym e) ∙ there)))) leaf.matched)),
      (λ less. unmatched S pats (map (inst s) us) (apart_stays S s pats us (leaf.apart j count pats right less there))),
    )) t each)
    (tree-matches S context goal terms clauses left given for)

pub leaves_lead : LeavesLead
leaves_lead = λ S context goal terms clauses left given for.
    answer-of (EachLeaf (LeafMatches S (start_at context goal terms) clauses))
    (EachLeaf (λ number ctx goal' substitution us binds. LeadsTo S (start_at context goal terms) goal' substitution us)) (UncoveredApart S clauses)
    (split_of S context goal terms clauses left).0
    (λ t each. each-leaf (LeafMatches S (start_at context goal terms) clauses)
    (λ number ctx goal' substitution us binds. LeadsTo S (start_at context goal terms) goal' substitution us)
    (λ number ctx goal' substitution us binds h. h.1) t each) (tree-matches S context goal terms clauses left given for)
