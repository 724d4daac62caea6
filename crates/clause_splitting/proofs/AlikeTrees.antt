-- A tree sees no difference where the terms of wildcards are forgotten.
use Rattle.std.proofs.Common.{◌≡◌, ℕ, zero, suc, Bool, true, false, cond, Option, None, Ok, List, [], ◌∷◌, length, map, refl, sym, ap, ap₂, subst as transport, arith}
use Rattle.theory.specs.Terms.{Term}
use Rattle.theory.specs.Substitutions.{fill}
use Rattle.theory.specs.Eliminators.{no_variable}
use Rattle.theory.specs.Telescopes.{Telescope}
use Rattle.theory.specs.Signatures.{Signature}
use Rattle.core_terms.specs.Answers.{and_next}
use Rattle.core_terms.specs.Patterns.{Pat}
use Rattle.core_terms.specs.CaseTrees as tree
use Rattle.core_terms.specs.CaseTrees.{Tree, Branch, Branches}
use Rattle.core_terms.specs.declared.stop.Stop.TheVariants.{Deep}
use Rattle.unification.specs.Outcomes as outcome
use Rattle.unification.specs.Outcomes.{Outcome}
use Rattle.case_trees.specs.Keeping.{keep_all}
use Rattle.case_trees.specs.Looking.{Ran, first_found}
use Rattle.case_trees.specs.Origins.{first_origins, origins_behind}
use Rattle.case_trees.specs.OwnWalks.{or_none}
use Rattle.case_trees.specs.Pairs.{Pairs, clashes, some_clashes, open_in, all_open, bound_in, all_bound, is_low_pair, are_low_pairs}
use Rattle.case_trees.specs.Points.{Point, bounded_point, under_solution, moved_point, moved_pairs, bounded_pairs, solution_for, point_keeping}
use Rattle.case_trees.specs.Stops.{or_halts, halting, answers}
use Rattle.case_trees.specs.Trees.{Live, Node, unless_dropped, worked, SplitAt, look, moved_live, solved_node, Growing, branch_by, grow_branches, split_at, leaf_at, by_first, by_live, one_node, nowhere, by_patterns}
use Rattle.case_trees.specs.Working.{of_columns, work_pairs}
use Rattle.clause_walks.specs.Forgetting.{forget_live, CoverAll, CoverLive, forgetting_live, grows_on}
use Rattle.clause_walks.proofs.AlikeAnswers.{Alike, RunAlike, run-equal, equal-run, and_then-alike, and_next-alike, and_next-goes, cond-alike, or_halts-alike, halting-alike, with-fact}
use Rattle.clause_walks.proofs.AlikePairs.{AreAlike, all-same, all-asked-alike, clash-blind, open-blind, bound-blind, low-blind, all-work-alike, all-keep-alike, all-on-alike, all-moved-alike, all-forget-on}
use Rattle.clause_walks.proofs.AlikeWalks.{bounded-is}
use Rattle.clause_walks.proofs.Covering.{worked-covered, all-covered-on, all-moved-covered}

-- clauses over shared terms that cover the first of the two lists
abbrev pub LiveAgree : Signature → (live others : List Live) → (us : List Term) → Type 0
LiveAgree S [] [] us = Unit {0}
LiveAgree S [] (d ∷ others) us = ⊥
LiveAgree S (c ∷ live) [] us = ⊥
LiveAgree S (c ∷ live) (d ∷ others) us =
    (c.number ≡ d.number) × AreAlike S c.pairs d.pairs us × CoverAll S c.pairs us × LiveAgree S live others us

-- both go on alike where the clauses agree
abbrev pub GrowAlike : Signature → (go other : Growing) → Type 0
GrowAlike S go other =
    (p : Point) (live others : List Live) (left : ℕ) → LiveAgree S live others p.terms → go p live left ≡ other p others left

agree-on : (S : Signature) (live others : List Live) (us : List Term) (overs : Pairs) → LiveAgree S live others us → LiveAgree S live others (keep_all S overs us)
agree-on S [] [] us overs h = tt
agree-on S (c ∷ live) (d ∷ others) us overs h = (
  h.0,
  all-on-alike S c.pairs d.pairs us overs h.1,
  all-covered-on S c.pairs us overs h.2,
  agree-on S live others us overs h.3,
)
agree-on S [] (d ∷ others) us overs h = absurd h
agree-on S (c ∷ live) [] us overs h = absurd h

-- ---- working

-- whatever agrees over some terms agrees over others
abbrev Onward : Signature → (us vs : List Term) → Type 0
Onward S us vs = (live others : List Live) → LiveAgree S live others us → LiveAgree S live others vs

record NodeAgree (S : Signature) (p : Point) (node other : Node) : Type 0 where
  point : node.point ≡ other.point
  onward : Onward S p.terms node.point.terms
  agree : LiveAgree S node.live other.live node.point.terms

record PairsAgree (S : Signature) (us : List Term) (pairs others : Pairs) : Type 0 where
  alike : AreAlike S pairs others us
  covered : CoverAll S pairs (keep_all S pairs us)

dropped-agree : (S : Signature) (p kept : Point) (number other_number : ℕ) (pairs others : Pairs) (node other : Node) → number ≡ other_number
    → AreAlike S pairs others kept.terms → CoverAll S pairs kept.terms → Onward S p.terms kept.terms → NodeAgree S kept node other
    → NodeAgree S p (unless_dropped (record { number = number; pairs = pairs }) node) (unless_dropped (record { number = other_number; pairs = others }) other)
dropped-agree S p kept number other_number pairs others node other same alike covered onward h =
    by (some_clashes pairs) (some_clashes others) (all-asked-alike Bool clashes some_clashes clash-blind S pairs others kept.terms alike)
  where
    first : LiveAgree S (record { number = number; pairs = pairs } ∷ node.live) (record { number = other_number; pairs = others } ∷ other.live) node.point.terms
    first =
        let one = h.onward (record { number = number; pairs = pairs } ∷ []) (record { number = other_number; pairs = others } ∷ []) (same, alike, covered, tt) in
        (one.0, one.1, one.2, h.agree)

    by : (test other_test : Bool) → test ≡ other_test
        → NodeAgree S p (cond test node (record node { live = record { number = number; pairs = pairs } ∷ node.live }))
        (cond other_test other (record other { live = record { number = other_number; pairs = others } ∷ other.live }))
    by true true e = record { point = h.point; onward = λ live more k. h.onward live more (onward live more k); agree = h.agree }
    by false false e = record { point = h.point; onward = λ live more k. h.onward live more (onward live more k); agree = first }
    by true false e = absurd (grind arith)
    by false true e = absurd (grind arith)

-- the terms that are kept are the same, and so is the point
then-agree : (S : Signature) (p : Point) (number other_number : ℕ) (live others : List Live) (pairs further : Pairs) (left : ℕ) → number ≡ other_number
    → PairsAgree S p.terms pairs further
    → ((rest : ℕ) → RunAlike (NodeAgree S (record p { terms = keep_all S pairs p.terms })) (worked S (record p { terms = keep_all S pairs p.terms }) live rest)
    (worked S (record p { terms = keep_all S pairs p.terms }) others rest))
    → RunAlike (NodeAgree S p)
    (and_next (answers (or_halts (point_keeping S p pairs)) left) (λ next rest.
    and_next (worked S next live rest) (λ node end. answers (Ok (unless_dropped (record { number = number; pairs = pairs }) node)) end)))
    (and_next (answers (or_halts (point_keeping S p further)) left) (λ next rest.
    and_next (worked S next others rest) (λ node end. answers (Ok (unless_dropped (record { number = other_number; pairs = further }) node)) end)))
then-agree S p number other_number live others pairs further left same h work =
    transport
    (λ us. RunAlike (NodeAgree S p)
    (and_next (answers (or_halts (bounded_point kept)) left) (λ next rest.
    and_next (worked S next live rest) (λ node end. answers (Ok (unless_dropped (record { number = number; pairs = pairs }) node)) end)))
    (and_next (answers (or_halts (bounded_point (record p { terms = us }))) left) (λ next rest.
    and_next (worked S next others rest) (λ node end. answers (Ok (unless_dropped (record { number = other_number; pairs = further }) node)) end))))
    (all-keep-alike S pairs further p.terms h.alike)
    (and_next-alike (λ (a : Point) (b : Point). (a ≡ kept) × (a ≡ b)) (NodeAgree S p) (answers (or_halts (bounded_point kept)) left)
    (answers (or_halts (bounded_point kept)) left) _ _
    (or_halts-alike (λ (a : Point) (b : Point). (a ≡ kept) × (a ≡ b)) (bounded_point kept) (bounded_point kept) (bounded-is kept), refl)
    (λ a b rest is. at a b rest is.0 is.1))
  where
    kept : Point
    kept = record p { terms = keep_all S pairs p.terms }

    alike : AreAlike S pairs further kept.terms
    alike = all-on-alike S pairs further p.terms pairs h.alike

    dropped : (node other : Node) → NodeAgree S kept node other
        → NodeAgree S p (unless_dropped (record { number = number; pairs = pairs }) node) (unless_dropped (record { number = other_number; pairs = further }) other)
    dropped node other is =
        dropped-agree S p kept number other_number pairs further node other same alike h.covered
        (λ ls ms k. agree-on S ls ms p.terms pairs k) is

    at : (a b : Point) (rest : ℕ) → a ≡ kept → a ≡ b
        → RunAlike (NodeAgree S p)
        (and_next (worked S a live rest) (λ node end. answers (Ok (unless_dropped (record { number = number; pairs = pairs }) node)) end))
        (and_next (worked S b others rest) (λ node end. answers (Ok (unless_dropped (record { number = other_number; pairs = further }) node)) end))
    at a b rest is same_point =
        transport
        (λ q. RunAlike (NodeAgree S p)
        (and_next (worked S a live rest) (λ node end. answers (Ok (unless_dropped (record { number = number; pairs = pairs }) node)) end))
        (and_next (worked S q others rest) (λ node end. answers (Ok (unless_dropped (record { number = other_number; pairs = further }) node)) end))) same_point
        (transport
        (λ q. RunAlike (NodeAgree S p)
        (and_next (worked S q live rest) (λ node end. answers (Ok (unless_dropped (record { number = number; pairs = pairs }) node)) end))
        (and_next (worked S q others rest) (λ node end. answers (Ok (unless_dropped (record { number = other_number; pairs = further }) node)) end))) (sym is)
        (and_next-alike (NodeAgree S kept) (NodeAgree S p) (worked S kept live rest) (worked S kept others rest) _ _ (work rest)
        (λ node other end agree. (dropped node other agree, refl))))

worked-agree : (S : Signature) (p : Point) (live others : List Live) (left : ℕ) → LiveAgree S live others p.terms
    → RunAlike (NodeAgree S p) (worked S p live left) (worked S p others left)
worked-agree S p [] [] left h = (record { point = refl; onward = λ live others k. k; agree = tt }, refl)
worked-agree S p (c ∷ live) (d ∷ others) left h =
    and_next-alike (PairsAgree S p.terms) (NodeAgree S p) (halting (work_pairs S of_columns c.pairs left)) (halting (work_pairs S of_columns d.pairs left)) _ _
    (halting-alike (PairsAgree S p.terms) (work_pairs S of_columns c.pairs left) (work_pairs S of_columns d.pairs left)
    (with-fact (λ xs ys. AreAlike S xs ys p.terms) (λ xs. CoverAll S xs (keep_all S xs p.terms)) (PairsAgree S p.terms) (work_pairs S of_columns c.pairs left)
    (work_pairs S of_columns d.pairs left) (all-work-alike S of_columns c.pairs d.pairs p.terms left h.1) (worked-covered S of_columns c.pairs left p.terms h.2)
    (λ xs ys a k. record { alike = a; covered = k })))
    (λ pairs further rest is. then-agree S p c.number d.number live others pairs further rest h.0 is (λ end.
    worked-agree S (record p { terms = keep_all S pairs p.terms }) live others end (agree-on S live others p.terms pairs h.3)))
worked-agree S p [] (d ∷ others) left h = absurd h
worked-agree S p (c ∷ live) [] left h = absurd h

-- ---- branches

moved-agree : (S : Signature) (solution : List Term) (live others : List Live) (us : List Term) → LiveAgree S live others us
    → Alike (λ ls ms. LiveAgree S ls ms (map (under_solution solution) us)) (moved_live solution live) (moved_live solution others)
moved-agree S solution [] [] us h = tt
moved-agree S solution (c ∷ live) (d ∷ others) us h =
    let moved = moved_pairs solution c.pairs in
    let moved_others = moved_pairs solution d.pairs in
    let vs = map (under_solution solution) us in
    let alike : AreAlike S moved moved_others vs = all-moved-alike S (fill no_variable solution) c.pairs d.pairs us h.1 in
    let covered : CoverAll S moved vs = all-moved-covered S (fill no_variable solution) c.pairs us h.2 in
    and_then-alike (λ xs ys. AreAlike S xs ys vs × CoverAll S xs vs) (λ ls ms. LiveAgree S ls ms vs) (bounded_pairs moved) (bounded_pairs moved_others) _ _
    (cond-alike (λ xs ys. AreAlike S xs ys vs × CoverAll S xs vs) (are_low_pairs moved) (are_low_pairs moved_others) moved moved_others Deep
    (all-asked-alike Bool is_low_pair are_low_pairs low-blind S moved moved_others vs alike) (alike, covered)) (λ xs ys both.
    and_then-alike (λ ls ms. LiveAgree S ls ms vs) (λ ls ms. LiveAgree S ls ms vs) (moved_live solution live) (moved_live solution others) _ _
    (moved-agree S solution live others us h.3) (λ ls ms all. (h.0, both.0, both.1, all)))
moved-agree S solution [] (d ∷ others) us h = absurd h
moved-agree S solution (c ∷ live) [] us h = absurd h

-- a node before its clauses are worked
record StartAgree (S : Signature) (node other : Node) : Type 0 where
  point : node.point ≡ other.point
  agree : LiveAgree S node.live other.live node.point.terms

solved-agree : (S : Signature) (p : Point) (live others : List Live) (context : Telescope) (solution : List Term) → LiveAgree S live others p.terms
    → Alike (StartAgree S) (solved_node p live context solution) (solved_node p others context solution)
solved-agree S p live others context solution h =
    let next = moved_point p context solution in
    and_then-alike (λ (a : Point) (b : Point). (a ≡ next) × (a ≡ b)) (StartAgree S) (bounded_point next) (bounded_point next) _ _ (bounded-is next) (λ a b is.
    and_then-alike (λ ls ms. LiveAgree S ls ms next.terms) (StartAgree S) (moved_live solution live) (moved_live solution others) _ _
    (moved-agree S solution live others p.terms h)
    (λ ls ms agree. record { point = is.1; agree = transport (λ (q : Point). LiveAgree S ls ms q.terms) (sym is.0) agree }))

branch-alike : (S : Signature) (go other : Growing) → GrowAlike S go other → (p : Point) (live others : List Live) (run : Ran) (o : Outcome) (left : ℕ)
    → LiveAgree S live others p.terms → RunAlike (λ a b. a ≡ b) (branch_by go p live run o left) (branch_by other p others run o left)
branch-alike S go other alike p live others run (outcome.Absurd steps context u v) left h = (refl, refl)
branch-alike S go other alike p live others run (outcome.Stuck steps context u v why) left h = (refl, refl)
branch-alike S go other alike p live others run (outcome.Solved steps context solution) left h =
    and_next-alike (StartAgree S) (λ a b. a ≡ b) (answers (or_halts (solved_node p live context (solution_for p solution))) left)
    (answers (or_halts (solved_node p others context (solution_for p solution))) left) _ _ (
      or_halts-alike (StartAgree S) (solved_node p live context (solution_for p solution)) (solved_node p others context (solution_for p solution))
          (solved-agree S p live others context (solution_for p solution) h),
      refl,
    )
    (λ node other_node rest is.
    and_next-alike (λ (t : Tree) (u : Tree). t ≡ u) (λ a b. a ≡ b) (go node.point node.live rest) (other other_node.point other_node.live rest) _ _
    (transport (λ q. RunAlike (λ (t : Tree) (u : Tree). t ≡ u) (go node.point node.live rest) (other q other_node.live rest)) is.point
    (equal-run (go node.point node.live rest) (other node.point other_node.live rest) (alike node.point node.live other_node.live rest is.agree)))
    (λ t u end same. (ap (λ subtree. tree.Solved steps (origins_behind steps run.problem.context (first_origins (length p.context) (length run.constructor.arguments))) subtree) same, refl)))

branches-alike : (S : Signature) (go other : Growing) → GrowAlike S go other → (p : Point) (live others : List Live) (runs : List Ran) (left : ℕ)
    → LiveAgree S live others p.terms → RunAlike (λ a b. a ≡ b) (grow_branches go p live runs left) (grow_branches other p others runs left)
branches-alike S go other alike p live others [] left h = (refl, refl)
branches-alike S go other alike p live others (run ∷ runs) left h =
    and_next-alike (λ (a : Branch) (b : Branch). a ≡ b) (λ a b. a ≡ b) (branch_by go p live run run.outcome left) (branch_by other p others run run.outcome left) _ _
    (branch-alike S go other alike p live others run run.outcome left h) (λ a b rest same.
    and_next-alike (λ (xs : Branches) (ys : Branches). xs ≡ ys) (λ xs ys. xs ≡ ys) (grow_branches go p live runs rest) (grow_branches other p others runs rest) _ _
    (branches-alike S go other alike p live others runs rest h) (λ xs ys end all. (ap₂ tree.cons same all, refl)))

-- ---- nodes

split-alike : (S : Signature) (go other : Growing) → GrowAlike S go other → (p : Point) (live others : List Live) (s : SplitAt) (left : ℕ)
    → LiveAgree S live others p.terms → RunAlike (λ a b. a ≡ b) (split_at go p live s left) (split_at other p others s left)
split-alike S go other alike p live others s left h =
    and_next-alike (λ (xs : Branches) (ys : Branches). xs ≡ ys) (λ (a : Tree) (b : Tree). a ≡ b) (grow_branches go p live s.runs left) (grow_branches other p others s.runs left)
    _ _ (branches-alike S go other alike p live others s.runs left h)
    (λ xs ys rest same. (ap (tree.Split p.context s.variable s.looked.member.n s.looked.type) same, refl))

leaf-alike : (S : Signature) (p : Point) (c d : Live) → c.number ≡ d.number → AreAlike S c.pairs d.pairs p.terms → leaf_at p c ≡ leaf_at p d
leaf-alike S p c d same alike =
    ap₂ (λ number bound. tree.Leaf number p.context p.goal p.substitution p.terms (map or_none bound)) same
    (all-asked-alike (List (Option Term)) bound_in all_bound bound-blind S c.pairs d.pairs p.terms alike)

first-alike : (S : Signature) (go other : Growing) → GrowAlike S go other → (p : Point) (c d : Live) (live others : List Live) (pairs : List (Pat × Term)) (left : ℕ)
    → LiveAgree S (c ∷ live) (d ∷ others) p.terms
    → RunAlike (λ a b. a ≡ b) (by_first S go p c live pairs left) (by_first S other p d others pairs left)
first-alike S go other alike p c d live others [] left h = (leaf-alike S p c d h.0 h.1, refl)
first-alike S go other alike p c d live others (pair ∷ further) left h =
    transport
    (λ number. RunAlike (λ a b. a ≡ b) (by_first S go p c live (pair ∷ further) left)
    (and_next (first_found S number p.context (look S number p.context) (pair ∷ further) None None left) (split_at other p (d ∷ others)))) h.0
    (and_next-goes (λ a b. a ≡ b) (first_found S c.number p.context (look S c.number p.context) (pair ∷ further) None None left) (split_at go p (c ∷ live))
    (split_at other p (d ∷ others)) (λ s rest. split-alike S go other alike p (c ∷ live) (d ∷ others) s rest h))

live-alike : (S : Signature) (go other : Growing) → GrowAlike S go other → (p : Point) (live others : List Live) (left : ℕ) → LiveAgree S live others p.terms
    → RunAlike (λ a b. a ≡ b) (by_live S go p live left) (by_live S other p others left)
live-alike S go other alike p [] [] left h = (refl, refl)
live-alike S go other alike p (c ∷ live) (d ∷ others) left h =
    transport (λ open_pairs. RunAlike (λ a b. a ≡ b) (by_live S go p (c ∷ live) left) (by_first S other p d others open_pairs left))
    (all-asked-alike (List (Pat × Term)) open_in all_open open-blind S c.pairs d.pairs p.terms h.1)
    (first-alike S go other alike p c d live others (all_open c.pairs) left h)
live-alike S go other alike p [] (d ∷ others) left h = absurd h
live-alike S go other alike p (c ∷ live) [] left h = absurd h

-- both nodes go on alike
one-alike : (S : Signature) (go other : Growing) → GrowAlike S go other → GrowAlike S (one_node S go) (one_node S other)
one-alike S go other alike = λ p live others left h.
    run-equal (one_node S go p live left) (one_node S other p others left)
    (and_next-alike (NodeAgree S p) (λ (a : Tree) (b : Tree). a ≡ b) (worked S p live left) (worked S p others left) _ _ (worked-agree S p live others left h)
    (λ node other_node rest is.
    transport (λ q. RunAlike (λ (a : Tree) (b : Tree). a ≡ b) (by_live S go node.point node.live rest) (by_live S other q other_node.live rest)) is.point
    (live-alike S go other alike node.point node.live other_node.live rest is.agree)))

nowhere-alike : (S : Signature) → GrowAlike S nowhere nowhere
nowhere-alike S = λ p live others left h. refl

by_patterns-alike : (S : Signature) (patterns : ℕ) → GrowAlike S (by_patterns S patterns) (by_patterns S patterns)
by_patterns-alike S zero = one-alike S nowhere nowhere (nowhere-alike S)
by_patterns-alike S (suc patterns) = one-alike S (by_patterns S patterns) (by_patterns S patterns) (by_patterns-alike S patterns)

-- ---- forgetting

agree-itself : (S : Signature) (live : List Live) (us : List Term) → CoverLive S live us → LiveAgree S live live us
agree-itself S [] us h = tt
agree-itself S (c ∷ live) us h = (refl, all-same S c.pairs us, h.0, agree-itself S live us h.1)

agree-on-forgotten : (S : Signature) (live others : List Live) (us : List Term) → LiveAgree S live others us → LiveAgree S live (forget_live others) us
agree-on-forgotten S [] [] us h = tt
agree-on-forgotten S (c ∷ live) (d ∷ others) us h =
    (h.0, all-forget-on S c.pairs d.pairs us h.1 h.2, h.2, agree-on-forgotten S live others us h.3)
agree-on-forgotten S [] (d ∷ others) us h = absurd h
agree-on-forgotten S (c ∷ live) [] us h = absurd h

forgetting-alike : (S : Signature) (go other : Growing) → GrowAlike S go other → GrowAlike S go (forgetting_live other)
forgetting-alike S go other alike = λ p live others left h. alike p live (forget_live others) left (agree-on-forgotten S live others p.terms h)

-- The nodes of a tree go on without the terms of wildcards.
pub by_patterns-goes : (S : Signature) (patterns : ℕ) (p : Point) (live : List Live) (left : ℕ) → CoverLive S live p.terms
    → by_patterns S patterns p live left ≡ one_node S (forgetting_live (grows_on S patterns)) p live left
by_patterns-goes S zero p live left h =
    one-alike S nowhere (forgetting_live nowhere) (forgetting-alike S nowhere nowhere (nowhere-alike S)) p live live left (agree-itself S live p.terms h)
by_patterns-goes S (suc patterns) p live left h =
    one-alike S (by_patterns S patterns) (forgetting_live (by_patterns S patterns))
    (forgetting-alike S (by_patterns S patterns) (by_patterns S patterns) (by_patterns-alike S patterns)) p live live left (agree-itself S live p.terms h)
