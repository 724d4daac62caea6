-- A tree is over its start: it is made by the split rule.
use Rattle.std.proofs.Common.{◌≡◌, ℕ, zero, suc, ◌+◌, ◌==◌, Bool, true, false, ◌&&◌, cond, Some, None, Result, Ok, Err, IfOk, List, [], ◌∷◌, length, map, slice_get, refl, sym, ap, ap₂, ◌∙◌, subst as transport, arith}
use Rattle.std.proofs.lemmas.List.Elements.{All-take}
use Rattle.std.proofs.lemmas.Bool.{eqb-true}
use Rattle.std.proofs.lemmas.List.{length-append}
use Rattle.std.proofs.lemmas.Option.{cond_some}
use Rattle.tele_eq.specs.Items.{Item}
use Rattle.unification.specs.Records.{argument_items}
use Rattle.std.specs.List.{All}
use Rattle.theory.specs.Terms.{Term, Var}
use Rattle.theory.specs.Substitutions.{fill}
use Rattle.theory.specs.Eliminators.{no_variable}
use Rattle.theory.specs.Telescopes.{Telescope}
use Rattle.theory.specs.Families.{Constructor}
use Rattle.theory.specs.Signatures.{Signature}
use Rattle.theory.specs.SignatureScopes.{IsScoped}
use Rattle.core_terms.specs.Answers.{and_then, is_low, are_low}
use Rattle.core_terms.specs.Patterns as pattern
use Rattle.core_terms.specs.Patterns.{Pat}
use Rattle.core_terms.specs.Clauses as clause
use Rattle.core_terms.specs.Clauses.{Clauses, Is}
use Rattle.core_terms.specs.CaseTrees as tree
use Rattle.core_terms.specs.CaseTrees.{Step, Tree, Branch, Branches}
use Rattle.core_terms.specs.declared.stop.Stop.{Stop}
use Rattle.core_terms.specs.declared.stop.Stop.TheVariants.{Deep}
use Rattle.core_terms.specs.declared.case_tree.Origin.{Origin}
use Rattle.tele_eq.specs.ReflexivityLaws.{EachConverts}
use Rattle.unification.specs.Outcomes as outcome
use Rattle.unification.specs.Outcomes.{Outcome}
use Rattle.unification.specs.ScopedStates.{IsReady, IsScopedOutcome, AreScopedSteps}
use Rattle.unification.proofs.UnderInstances.{closed-bodies, each-same, each-inst}
use Rattle.case_trees.specs.Pairs.{terms_in, some_clashes, all_open, all_bound, are_low_pairs}
use Rattle.case_trees.specs.Working.{of_columns, work_pairs}
use Rattle.case_trees.specs.Keeping.{keep_all}
use Rattle.case_trees.specs.Points.{Point, bounded_point, start_at, under_solution, moved_point, moved_pairs, solution_for, point_keeping}
use Rattle.case_trees.specs.Problems.{Member, problem_of}
use Rattle.case_trees.specs.Origins.{first_origins, origins_behind}
use Rattle.case_trees.specs.Stops.{TreeStop, or_halts, halting, answers}
use Rattle.case_trees.specs.Looking.{Looked, Ran, if_expected, first_found}
use Rattle.case_trees.specs.OwnWalks.{or_none}
use Rattle.case_trees.specs.Trees.{Live, Node, SplitAt, Growing, all_live, patterns_left, unless_dropped, worked, look, moved_live, solved_node, branch_by, grow_branches, by_first, by_live, one_node, nowhere, by_patterns, split_of}
use Rattle.case_trees.specs.Splits.{EachSplit, EachSplitOf, EachSplitIn, IsOfFamily, IsAskedFor}
use Rattle.case_trees.specs.Standing as stand
use Rattle.case_trees.specs.Standing.{Runs, HasFamily, StandsAt, BranchesAt, behind_solution}
use Rattle.case_trees.specs.Scoped.{IsScopedPoint, AreClausesFor, HasScopedSteps, IsScopedTree, AreScopedBranches, IsScopedBranch}
use Rattle.case_trees.specs.Laws.{IsGiven, TreeStands, SplitsAsked, TreeScoped, TreeStopScoped, TreeCaused}
use Rattle.case_trees.proofs.Answered.{Holds, and_next-holds, answer-of}
use Rattle.case_trees.proofs.Workings.{AllBecome}
use Rattle.case_trees.specs.Places.{clause_at}
use Rattle.case_trees.specs.Causes as cause
use Rattle.case_trees.proofs.Looks.{AllPairs, first-holds}
use Rattle.case_trees.proofs.OwnPlaces.{IsAsking, AreWorked, all-worked}
use Rattle.case_trees.proofs.LiveClauses.{IsLiveAt, AreLiveAt, AreLiveScoped, AllWorked, all-live-at, live-works, all-live-move}
use Rattle.case_trees.proofs.TreeLooks.{IsTreeEnd, tree-halts, IsAsker, SplitHas, looks-split, forced-ends}
use Rattle.case_trees.proofs.Running.{AllRun}
use Rattle.case_trees.proofs.Shapes.{terms-moved}
use Rattle.case_trees.proofs.WalkTurns.{keeping-holds, become-holds}
use Rattle.case_trees.proofs.WalkStanding.{IsAt, tidied-form, not-apart, problem-outcome, IsSplit, IsOpenIn, all-open-in}
use Rattle.case_trees.specs.Kept.{KeptAll}
use Rattle.case_trees.proofs.KeptConversion.{all-convert}
use Rattle.case_trees.proofs.Leading.{Leads, each-trans, leads-start, leads-moved}
use Rattle.case_trees.proofs.LeftClauses.{AreLeft, all-left, left-moved, none-left, leading-left}
use Rattle.case_trees.proofs.TreeMatching.{NodeHas, worked-holds}
use Rattle.case_trees.proofs.ScopedPoints.{all-kept-scoped, moved-scoped, all-under-scoped}
use Rattle.case_trees.proofs.ScopedWalks.{all-bound-scoped}
use Rattle.case_trees.proofs.ScopedWorking.{waiting-scoped, all-become-scoped}

-- a scoped point, to which the start leads, and the clauses that are left there
record IsReadyAt (S : Signature) (start : Point) (clauses : Clauses) (p : Point) (live : List Live) : Type 0 where
  left : AreLeft S 0 clauses live p.terms
  leads : Leads S start p
  scoped : IsScopedPoint S p
  live_scoped : AreLiveScoped S (length p.context) live
  at : IsAt S start p
  live_at : AreLiveAt S clauses at.plain live

both-hold : {A : Type 0} (P R : A → Type 0) (Q : TreeStop → Type 0) (r : Result A TreeStop) → Holds P Q r → Holds R Q r → Holds (λ a. P a × R a) Q r
both-hold P R Q (Ok a) h k = (h, k)
both-hold P R Q (Err e) h k = h

-- ---- the clauses of a node are worked

-- the point but for its terms, with the clauses that are left
record IsFrame (S : Signature) (clauses : Clauses) (plain : List Term) (n : ℕ) (p : Point) (node : Node) : Type 0 where
  point : node.point ≡ record p { terms = node.point.terms }
  scoped : AreLiveScoped S n node.live
  live : AreLiveAt S clauses plain node.live
  worked : AllWorked S node.live

dropped-frame : (S : Signature) (clauses : Clauses) (plain : List Term) (n : ℕ) (p : Point) (c : Live) (node : Node) → IsFrame S clauses plain n p node
    → All (IsScoped S n) (terms_in c.pairs) → IsLiveAt S clauses plain c → (some_clashes c.pairs ≡ false → AreWorked S c.pairs)
    → IsFrame S clauses plain n p (unless_dropped c node)
dropped-frame S clauses plain n p c node h all is done = by (some_clashes c.pairs) refl
  where
    by : (test : Bool) → some_clashes c.pairs ≡ test → IsFrame S clauses plain n p (cond test node (record node { live = c ∷ node.live }))
    by true e = h
    by false e = record { point = h.point; scoped = (all, h.scoped); live = (is, h.live); worked = (done e, h.worked) }

worked-frame : (S : Signature) (start : Point) (clauses : Clauses) (plain : List Term) (n : ℕ) (p : Point) (live : List Live) (left : ℕ) → IsReady S
    → AreLiveScoped S n live → AreLiveAt S clauses plain live
    → Holds (IsFrame S clauses plain n p) (IsTreeEnd S start clauses) (worked S p live left).0
worked-frame S start clauses plain n p [] left ready h is = record { point = refl; scoped = tt; live = tt; worked = tt }
worked-frame S start clauses plain n p (c ∷ live) left ready h is =
    let Q = IsTreeEnd S start clauses in
    and_next-holds (AllBecome S c.pairs) (IsFrame S clauses plain n p) Q (halting (work_pairs S of_columns c.pairs left)) _
    (become-holds S c.pairs left Q (tree-halts S start clauses)) (λ pairs rest become.
    and_next-holds (λ (next : Point). next ≡ record p { terms = keep_all S pairs p.terms }) (IsFrame S clauses plain n p) Q
    (answers (or_halts (point_keeping S p pairs)) rest) _
    (keeping-holds S (λ (next : Point). next ≡ record p { terms = keep_all S pairs p.terms }) Q (record p { terms = keep_all S pairs p.terms }) (tree-halts S start clauses) refl)
    (λ next onwards same.
    and_next-holds (IsFrame S clauses plain n next) (IsFrame S clauses plain n p) Q (worked S next live onwards) _
    (worked-frame S start clauses plain n next live onwards ready h.1 is.1)
    (λ node end has.
    dropped-frame S clauses plain n p (record { number = c.number; pairs = pairs }) node
    (record {
      point = has.point ∙ ap (λ (q : Point). record q { terms = node.point.terms }) same;
      scoped = has.scoped;
      live = has.live;
      worked = has.worked;
    })
    (all-become-scoped S n ready.scoped c.pairs pairs become h.0) (live-works S clauses plain c pairs is.0 become) (λ clean. all-worked S c.pairs pairs become clean))))

-- ---- solutions

live-moved : (S : Signature) (n m : ℕ) (solution : List Term) (live : List Live) → All (IsScoped S m) solution → AreLiveScoped S n live
    → IfOk (moved_live solution live) (AreLiveScoped S m)
live-moved S n m solution [] all h = tt
live-moved S n m solution (c ∷ live) all h = by (are_low_pairs (moved_pairs solution c.pairs)) (moved_live solution live) (live-moved S n m solution live all h.1)
  where
    by : (low : Bool) (others : Result (List Live) Stop) → IfOk others (AreLiveScoped S m)
        → IfOk (and_then (cond low (Ok (moved_pairs solution c.pairs)) (Err Deep)) (λ pairs.
        and_then others (λ more_live. Ok (record { number = c.number; pairs = pairs } ∷ more_live)))) (AreLiveScoped S m)
    by true (Ok moved) k =
        (transport (All (IsScoped S m)) (sym (terms-moved (fill no_variable solution) c.pairs)) (all-under-scoped S n m solution (terms_in c.pairs) all h.0), k)
    by true (Err e) k = tt
    by false others k = tt

-- a node that a solution leads to
abbrev IsMoved : Signature → Point → Clauses → Point → Telescope → List Term → Node → Type 0
IsMoved S start clauses p context solution node =
    IsReadyAt S start clauses node.point node.live × (node.point ≡ moved_point p context (solution_for p solution))

solved-ready : (S : Signature) (start : Point) (clauses : Clauses) (p : Point) (live : List Live) (x : ℕ) (found : Looked) (number : ℕ) (c : Constructor)
    (steps : List Step) (context : Telescope) (solution : List Term) → IsReady S → IsReadyAt S start clauses p live → IsSplit S p x found
    → slice_get found.member.family.constructors number ≡ Some c
    → Runs S (problem_of p.context x found.member number c) (outcome.Solved steps context solution)
    → Holds (IsMoved S start clauses p context solution) (IsTreeEnd S start clauses) (or_halts (solved_node p live context (solution_for p solution)))
solved-ready S start clauses p live x found number c steps context solution ready h split there runs =
    by (are_low next.context && (is_low next.goal && (are_low next.substitution && are_low next.terms))) (moved_live (solution_for p solution) live)
    (left-moved S (closed-bodies S ready.scoped) (solution_for p solution) 0 clauses live p.terms h.left)
    (live-moved S (length p.context) (length context) (solution_for p solution) live (All-take (IsScoped S (length context)) (length p.context) solution out.2) h.live_scoped)
    (moved-scoped S p context solution h.scoped out.1 out.2)
    (leads-moved S start p context (solution_for p solution) (closed-bodies S ready.scoped) h.leads)
    (all-live-move S (closed-bodies S ready.scoped) (solution_for p solution) clauses h.at.plain live h.live_at)
  where
    moved_at : IsAt S start (moved_point p context (solution_for p solution))
    moved_at = record {
      plain = map (under_solution (solution_for p solution)) h.at.plain;
      node = stand.behind (record p { terms = h.at.plain }) x found.type found.member number c steps context solution h.at.node split.family there runs;
      converts = each-inst S (closed-bodies S ready.scoped) (fill no_variable (solution_for p solution)) h.at.plain p.terms h.at.converts;
    }

    next : Point
    next = moved_point p context (solution_for p solution)

    out : IsScopedOutcome S (length (problem_of p.context x found.member number c).context) (outcome.Solved steps context solution)
    out = problem-outcome S p x found number c (outcome.Solved steps context solution) ready h.scoped split there runs

    by : (low : Bool) (moved : Result (List Live) Stop)
        → IfOk moved (λ m. AreLeft S 0 clauses m (map (under_solution (solution_for p solution)) p.terms)) → IfOk moved (AreLiveScoped S (length context))
        → IsScopedPoint S (moved_point p context (solution_for p solution)) → Leads S start (moved_point p context (solution_for p solution))
        → IfOk moved (AreLiveAt S clauses (map (under_solution (solution_for p solution)) h.at.plain))
        → Holds (IsMoved S start clauses p context solution) (IsTreeEnd S start clauses)
        (or_halts (and_then (cond low (Ok (moved_point p context (solution_for p solution))) (Err Deep)) (λ q. and_then moved (λ m. Ok (record { point = q; live = m })))))
    by true (Ok m) k l scoped leads asks =
        (record { left = k; leads = leads; scoped = scoped; live_scoped = l; at = moved_at; live_at = asks }, refl)
    by true (Err e) k l scoped leads asks = tree-halts S start clauses e
    by false moved k l scoped leads asks = tree-halts S start clauses Deep

-- ---- branches

-- the tree is over the point, whatever its terms were before they were compared
abbrev StandsFor : Signature → (start : Point) → Clauses → Point → Tree → Type 0
StandsFor S start clauses p t =
    ((ts : List Term) → EachConverts S ts p.terms → StandsAt S (record p { terms = ts }) t)
    × (IsScopedTree S t × EachSplit (IsAskedFor S start clauses) t)

abbrev GrowingStands : Signature → Point → Clauses → Growing → Type 0
GrowingStands S start clauses go =
    (p : Point) (live : List Live) (left : ℕ) → IsReadyAt S start clauses p live → Holds (StandsFor S start clauses p) (IsTreeEnd S start clauses) (go p live left).0

abbrev BranchesFor : Signature → (start : Point) → Clauses → Point → ℕ → Member → ℕ → List Constructor → Branches → Type 0
BranchesFor S start clauses p x m number cs branches =
    ((ts : List Term) → EachConverts S ts p.terms → BranchesAt S (record p { terms = ts }) x m number cs branches)
    × (AreScopedBranches S (length p.context) branches × EachSplitOf (IsAskedFor S start clauses) branches)

-- a branch before others
abbrev BranchOver : Signature → Point → ℕ → Member → ℕ → Constructor → Branch → Type 0
BranchOver S p x m number c branch =
    (ts : List Term) → EachConverts S ts p.terms → (cs : List Constructor) (branches : Branches)
    → BranchesAt S (record p { terms = ts }) x m (number + 1) cs branches → BranchesAt S (record p { terms = ts }) x m number (c ∷ cs) (tree.cons branch branches)

abbrev BranchFor : Signature → (start : Point) → Clauses → Point → ℕ → Member → ℕ → Constructor → Branch → Type 0
BranchFor S start clauses p x m number c branch =
    BranchOver S p x m number c branch × (IsScopedBranch S (length p.context) branch × EachSplitIn (IsAskedFor S start clauses) branch)

-- the steps of a constructor's problem, from the context of the split on
problem-steps : (S : Signature) (p : Point) (x : ℕ) (m : Member) (number : ℕ) (c : Constructor) (steps : List Step)
    → AreScopedSteps S (length (problem_of p.context x m number c).context) steps → HasScopedSteps S (length p.context) steps
problem-steps S p x m number c steps h =
    let types = map (λ (item : Item). item.type) (argument_items m.n m.parameters c) in
    record { arguments = length types; scoped = transport (λ k. AreScopedSteps S k steps) (length-append p.context types) h }

solved-branch : (S : Signature) (start : Point) (clauses : Clauses) (p : Point) (x : ℕ) (m : Member) (number : ℕ) (c : Constructor) (run : Ran)
    (steps : List Step) (context : Telescope) (solution : List Term) (node : Node) (subtree : Tree) → IsReady S → run.constructor ≡ c
    → run.problem ≡ problem_of p.context x m number c → Runs S (problem_of p.context x m number c) (outcome.Solved steps context solution)
    → node.point ≡ moved_point p context (solution_for p solution) → ((ts : List Term) → EachConverts S ts node.point.terms → StandsAt S (record node.point { terms = ts }) subtree)
    → BranchOver S p x m number c
    (tree.Solved steps (origins_behind steps run.problem.context (first_origins (length p.context) (length run.constructor.arguments))) subtree)
solved-branch S start clauses p x m number c run steps context solution node subtree ready same_c same_p runs place stands = λ ts converts cs branches rest.
    let moved : List Term = map (under_solution (solution_for p solution)) ts in
    let each : EachConverts S moved node.point.terms =
    transport (λ (q : Point). EachConverts S moved q.terms) (sym place)
    (each-inst S (closed-bodies S ready.scoped) (fill no_variable (solution_for p solution)) ts p.terms converts) in
    let over : StandsAt S (behind_solution (record p { terms = ts }) context solution) subtree =
    transport (λ (q : Point). StandsAt S q subtree) (ap (λ (q : Point). record q { terms = moved }) place) (stands moved each) in
    let origins : origins_behind steps (problem_of p.context x m number c).context (first_origins (length p.context) (length c.arguments))
    ≡ origins_behind steps run.problem.context (first_origins (length p.context) (length run.constructor.arguments)) =
    ap₂ (λ q (d : Constructor). origins_behind steps q.context (first_origins (length p.context) (length d.arguments))) (sym same_p) (sym same_c) in
    transport (λ (os : List Origin). BranchesAt S (record p { terms = ts }) x m number (c ∷ cs) (tree.cons (tree.Solved steps os subtree) branches)) origins
    (stand.solved (record p { terms = ts }) x m number c cs steps context solution subtree branches runs over rest)

branch-stands : (S : Signature) (start : Point) (clauses : Clauses) (go : Growing) (p : Point) (live : List Live) (x : ℕ) (found : Looked) (number : ℕ)
    (c : Constructor) (run : Ran) (o : Outcome) (left : ℕ) → IsReady S → GrowingStands S start clauses go → IsReadyAt S start clauses p live → IsSplit S p x found
    → slice_get found.member.family.constructors number ≡ Some c → run.constructor ≡ c → run.problem ≡ problem_of p.context x found.member number c
    → Runs S (problem_of p.context x found.member number c) o
    → Holds (BranchFor S start clauses p x found.member number c) (IsTreeEnd S start clauses) (branch_by go p live run o left).0
branch-stands S start clauses go p live x found number c run (outcome.Absurd steps context u v) left ready more h split there same_c same_p runs =
    let out = problem-outcome S p x found number c (outcome.Absurd steps context u v) ready h.scoped split there runs in (
      (λ ts converts cs branches rest. stand.absurd (record p { terms = ts }) x found.member number c cs steps context u v branches runs rest),
      ((problem-steps S p x found.member number c steps out.0, out.1, out.2, out.3), tt),
    )
branch-stands S start clauses go p live x found number c run (outcome.Solved steps context solution) left ready more h split there same_c same_p runs =
    and_next-holds (IsMoved S start clauses p context solution) (BranchFor S start clauses p x found.member number c) (IsTreeEnd S start clauses)
    (answers (or_halts (solved_node p live context (solution_for p solution))) left) _
    (solved-ready S start clauses p live x found number c steps context solution ready h split there runs) (λ node rest moved.
    and_next-holds (StandsFor S start clauses node.point) (BranchFor S start clauses p x found.member number c) (IsTreeEnd S start clauses) (go node.point node.live rest) _
    (more node.point node.live rest moved.0)
    (λ subtree end stands.
    let out = problem-outcome S p x found number c (outcome.Solved steps context solution) ready h.scoped split there runs in (
      solved-branch S start clauses p x found.member number c run steps context solution node subtree ready same_c same_p runs moved.1 stands.0,
      ((problem-steps S p x found.member number c steps out.0, stands.1.0), stands.1.1),
    )))
branch-stands S start clauses go p live x found number c run (outcome.Stuck steps context u v why) left ready more h split there same_c same_p runs =
    tree-halts S start clauses Deep

branches-stand : (S : Signature) (start : Point) (clauses : Clauses) (go : Growing) (p : Point) (live : List Live) (x : ℕ) (found : Looked) (number : ℕ)
    (cs : List Constructor) (runs : List Ran) (left : ℕ) → IsReady S → GrowingStands S start clauses go → IsReadyAt S start clauses p live → IsSplit S p x found
    → ((j : ℕ) (d : Constructor) → slice_get cs j ≡ Some d → slice_get found.member.family.constructors (number + j) ≡ Some d)
    → AllRun S p.context x found.member number cs runs
    → Holds (BranchesFor S start clauses p x found.member number cs) (IsTreeEnd S start clauses) (grow_branches go p live runs left).0
branches-stand S start clauses go p live x found number [] [] left ready more h split at all =
    ((λ ts converts. stand.none (record p { terms = ts }) x found.member number), (tt, tt))
branches-stand S start clauses go p live x found number [] (run ∷ runs) left ready more h split at all = absurd all
branches-stand S start clauses go p live x found number (c ∷ cs) [] left ready more h split at all = absurd all
branches-stand S start clauses go p live x found number (c ∷ cs) (run ∷ runs) left ready more h split at all =
    let here : number + 0 ≡ number = omega arith in
    let there : slice_get found.member.family.constructors number ≡ Some c =
    transport (λ k. slice_get found.member.family.constructors k ≡ Some c) here (at 0 c refl) in
    and_next-holds (BranchFor S start clauses p x found.member number c) (BranchesFor S start clauses p x found.member number (c ∷ cs)) (IsTreeEnd S start clauses) (branch_by go p live run run.outcome left) _
    (branch-stands S start clauses go p live x found number c run run.outcome left ready more h split there all.0.constructor all.0.problem all.0.runs)
    (λ branch rest one.
    and_next-holds (BranchesFor S start clauses p x found.member (number + 1) cs) (BranchesFor S start clauses p x found.member number (c ∷ cs)) (IsTreeEnd S start clauses) (grow_branches go p live runs rest) _
    (branches-stand S start clauses go p live x found (number + 1) cs runs rest ready more h split
    (λ j d e. let next : number + suc j ≡ number + 1 + j = omega arith in
    transport (λ k. slice_get found.member.family.constructors k ≡ Some d) next (at (suc j) d e)) all.1)
    (λ branches end others. ((λ ts converts. one.0 ts converts cs branches (others.0 ts converts)), ((one.1.0, others.1.0), (one.1.1, others.1.1)))))

-- ---- splits

-- the pattern of a pair that is split asks for the family
of-family : (pat : Pat) (m : Member) → IsAsking pat → if_expected pat m ≡ Some m → IsOfFamily pat m.n
of-family (pattern.Con n number pats) m asks e = sym (eqb-true m.n n (cond_some (m.n == n) m m e).0)
of-family pattern.Absurd m asks e = tt
of-family pattern.Bind m asks e = absurd asks
of-family pattern.Wild m asks e = absurd asks
of-family (pattern.Dot written) m asks e = absurd asks

-- the first clause that is left asks for it
split-asked : (S : Signature) (start : Point) (clauses : Clauses) (p : Point) (c : Live) (live : List Live) (h : IsReadyAt S start clauses p (c ∷ live))
    → AreWorked S c.pairs → (s : SplitAt) → SplitHas S (IsOpenIn S (length p.context) h.live_at.0.pats (terms_in c.pairs)) p s
    → IsAskedFor S start clauses p.context s.variable s.looked.member.n
split-asked S start clauses p c live h done s has =
    let first = leading-left S 0 clauses c live p.terms h.left in
    let place : c.number ≡ 0 + first.place = first.at in
    record {
      p = record p { terms = h.at.plain };
      context_there = refl;
      number = c.number;
      binds = h.live_at.0.binds;
      pats = h.live_at.0.pats;
      right = h.live_at.0.right;
      clause = h.live_at.0.there;
      at = has.pair.0;
      asks = record {
        node = h.at.node;
        terms = terms_in c.pairs;
        converts = h.live_at.0.converts;
        term = has.pair.1;
        place = has.at.is_open.place;
        tidied = tidied-form S has.pair.1 (Var s.variable) has.at.tidies;
      };
      family = of-family has.pair.0 s.looked.member has.at.is_open.asks has.at.expected;
      not_apart = not-apart S h.live_at.0.pats c.pairs h.live_at.0.shapes done first.clean;
      terms = p.terms;
      converts = h.at.converts;
      earlier_apart = λ j n earlier other less e. first.apart j n earlier other (omega arith) e;
    }

first-stands : (S : Signature) (start : Point) (clauses : Clauses) (go : Growing) (p : Point) (c : Live) (live : List Live) (pairs : List (Pat × Term)) (left : ℕ)
    → IsReady S → GrowingStands S start clauses go → IsReadyAt S start clauses p (c ∷ live) → AreWorked S c.pairs → all_open c.pairs ≡ pairs
    → Holds (StandsFor S start clauses p) (IsTreeEnd S start clauses) (by_first S go p c live pairs left).0
first-stands S start clauses go p c live [] left ready more h done e = (
  (λ ts converts. stand.leaf (record p { terms = ts }) c.number p.terms (map or_none (all_bound c.pairs)) converts),
  (
    record {
      context = h.scoped.context;
      goal = h.scoped.goal;
      substitution = h.scoped.substitution;
      terms = h.scoped.terms;
      binds = all-bound-scoped S (length p.context) c.pairs h.live_scoped.0;
    },
    tt,
  ),
)
first-stands S start clauses go p c live (pair ∷ others) left ready more h done e =
    let asker : IsAsker S start clauses p c = record { at = h.at; live = h.live_at.0 } in
    let Open = IsOpenIn S (length p.context) h.live_at.0.pats (terms_in c.pairs) in
    and_next-holds (SplitHas S Open p) (StandsFor S start clauses p) (IsTreeEnd S start clauses)
    (first_found S c.number p.context (look S c.number p.context) (pair ∷ others) None None left) _
    (first-holds (SplitHas S Open p) (IsTreeEnd S start clauses) Open S c.number p.context (look S c.number p.context) (pair ∷ others) (tree-halts S start clauses)
    (transport (AllPairs Open) e (all-open-in S (length p.context) h.live_at.0.pats c.pairs h.live_at.0.shapes done h.live_scoped.0))
    (looks-split S start clauses p c asker ready h.scoped) (forced-ends S start clauses p c asker ready h.scoped) None None left tt tt)
    (λ s rest has.
    and_next-holds (BranchesFor S start clauses p s.variable s.looked.member 0 s.looked.member.family.constructors) (StandsFor S start clauses p) (IsTreeEnd S start clauses)
    (grow_branches go p (c ∷ live) s.runs rest) _
    (branches-stand S start clauses go p (c ∷ live) s.variable s.looked 0 s.looked.member.family.constructors s.runs rest ready more h has.split
    (λ j d e. let place : j ≡ 0 + j = omega arith in
    transport (λ k. slice_get s.looked.member.family.constructors k ≡ Some d) place e) has.runs)
    (λ branches end each. (
      (λ ts converts. stand.split (record p { terms = ts }) s.variable s.looked.type s.looked.member branches has.split.family (each.0 ts converts)),
      ((h.scoped.context, has.split.family.variable, has.type, each.1.0), (split-asked S start clauses p c live h done s has, each.1.1)),
    )))

live-stands : (S : Signature) (start : Point) (clauses : Clauses) (go : Growing) (p : Point) (live : List Live) (left : ℕ) → IsReady S
    → GrowingStands S start clauses go → IsReadyAt S start clauses p live → AllWorked S live
    → Holds (StandsFor S start clauses p) (IsTreeEnd S start clauses) (by_live S go p live left).0
live-stands S start clauses go p [] left ready more h done =
    record {
      scoped = (h.scoped.context, h.scoped.terms);
      caused = cause.uncovered (record p { terms = h.at.plain }) p.terms h.at.node h.at.converts (none-left S 0 clauses p.terms h.left);
    }
live-stands S start clauses go p (c ∷ live) left ready more h done = first-stands S start clauses go p c live (all_open c.pairs) left ready more h done.0 refl

-- ---- the tree

holds-map : {A : Type 0} (P R : A → Type 0) (Q : TreeStop → Type 0) (r : Result A TreeStop) → ((a : A) → P a → R a) → Holds P Q r → Holds R Q r
holds-map P R Q (Ok a) h k = h a k
holds-map P R Q (Err e) h k = k

node-stands : (S : Signature) (start : Point) (clauses : Clauses) (go : Growing) → IsReady S → GrowingStands S start clauses go
    → GrowingStands S start clauses (one_node S go)
node-stands S start clauses go ready more = λ p live left h.
    let Q = IsTreeEnd S start clauses in
    let Frame = IsFrame S clauses h.at.plain (length p.context) p in
    and_next-holds (λ (node : Node). NodeHas S start 0 clauses p.terms node × Frame node) (StandsFor S start clauses p) Q (worked S p live left) _
    (both-hold (NodeHas S start 0 clauses p.terms) Frame Q (worked S p live left).0
    (worked-holds S start Q 0 clauses p live left (tree-halts S start clauses) h.left h.leads)
    (worked-frame S start clauses h.at.plain (length p.context) p live left ready h.live_scoped h.live_at))
    (λ node rest has.
    let us : List Term = node.point.terms in
    let place : node.point ≡ record p { terms = us } = has.1.point in
    let kept : KeptAll S p.terms us = has.0.1 in
    let scoped : IsScopedPoint S (record p { terms = us }) =
    record {
      context = h.scoped.context;
      goal = h.scoped.goal;
      substitution = h.scoped.substitution;
      terms = all-kept-scoped S (length p.context) ready.scoped p.terms us kept h.scoped.terms;
    } in
    let there : IsReadyAt S start clauses (record p { terms = us }) node.live =
    record {
      left = has.0.0;
      leads = transport (Leads S start) place has.0.2;
      scoped = scoped;
      live_scoped = has.1.scoped;
      at = record {
        plain = h.at.plain;
        node = h.at.node;
        converts = each-trans S h.at.plain p.terms us h.at.converts (all-convert S p.terms us kept);
      };
      live_at = has.1.live;
    } in
    let at : IsReadyAt S start clauses node.point node.live = transport (λ (q : Point). IsReadyAt S start clauses q node.live) (sym place) there in
    holds-map (StandsFor S start clauses node.point) (StandsFor S start clauses p) Q (by_live S go node.point node.live rest).0
    (λ t stands. (
      (λ ts converts.
          transport (λ (q : Point). StandsAt S q t) (ap (λ (q : Point). record q { terms = ts }) place)
          (stands.0 ts (each-trans S ts p.terms us converts (all-convert S p.terms us kept)))),
      stands.1,
    ))
    (live-stands S start clauses go node.point node.live rest ready more at has.1.worked))

tree-stands : (S : Signature) (start : Point) (clauses : Clauses) → IsReady S → (patterns : ℕ) → GrowingStands S start clauses (by_patterns S patterns)
tree-stands S start clauses ready zero = node-stands S start clauses nowhere ready (λ p live left h. tree-halts S start clauses Deep)
tree-stands S start clauses ready (suc patterns) = node-stands S start clauses (by_patterns S patterns) ready (tree-stands S start clauses ready patterns)

all-live-scoped : (S : Signature) (n number : ℕ) (terms : List Term) (clauses : Clauses) → All (IsScoped S n) terms → AreLiveScoped S n (all_live number terms clauses)
all-live-scoped S n number terms clause.nil all = tt
all-live-scoped S n number terms (clause.cons (Is pats binds right) clauses) all =
    (waiting-scoped S n pats terms all, all-live-scoped S n (number + 1) terms clauses all)

tree-over : (S : Signature) (context : Telescope) (goal : Term) (terms : List Term) (clauses : Clauses) (left : ℕ) → IsGiven S context goal terms
    → AreClausesFor S terms clauses
    → Holds (λ t. StandsAt S (start_at context goal terms) t × (IsScopedTree S t × EachSplit (IsAskedFor S (start_at context goal terms) clauses) t)) (IsTreeEnd S (start_at context goal terms) clauses) (split_of S context goal terms clauses left).0
tree-over S context goal terms clauses left given for =
    let start = start_at context goal terms in
    and_next-holds (λ (p : Point). p ≡ start) (λ t. StandsAt S start t × (IsScopedTree S t × EachSplit (IsAskedFor S start clauses) t)) (IsTreeEnd S start clauses) (answers (or_halts (bounded_point start)) left) _
    (keeping-holds S (λ (p : Point). p ≡ start) (IsTreeEnd S start clauses) start (tree-halts S start clauses) refl) (λ p rest same.
    holds-map (StandsFor S start clauses p) (λ t. StandsAt S start t × (IsScopedTree S t × EachSplit (IsAskedFor S start clauses) t)) (IsTreeEnd S start clauses) (by_patterns S (patterns_left (all_live 0 terms clauses)) p (all_live 0 terms clauses) rest).0
    (λ t stands. (transport (λ (q : Point). StandsAt S q t) same (stands.0 p.terms (each-same S p.terms)), stands.1))
    (tree-stands S start clauses given.ready (patterns_left (all_live 0 terms clauses)) p (all_live 0 terms clauses) rest
    (transport (λ (q : Point). IsReadyAt S start clauses q (all_live 0 terms clauses)) (sym same)
    (record {
      left = all-left S 0 terms clauses for;
      leads = leads-start S context goal terms given.scoped;
      scoped = given.scoped;
      live_scoped = all-live-scoped S (length context) 0 terms clauses given.scoped.terms;
      at = record { plain = terms; node = stand.root; converts = each-same S terms };
      live_at = all-live-at S clauses 0 terms clauses for
          (λ j. let same : 0 + j ≡ j = omega arith in ap (clause_at clauses) same);
    }))))

pub tree_stands : TreeStands
tree_stands = λ S context goal terms clauses left given for.
    answer-of (λ t. StandsAt S (start_at context goal terms) t × (IsScopedTree S t × EachSplit (IsAskedFor S (start_at context goal terms) clauses) t)) (λ t. StandsAt S (start_at context goal terms) t) (IsTreeEnd S (start_at context goal terms) clauses)
    (split_of S context goal terms clauses left).0 (λ t h. h.0) (tree-over S context goal terms clauses left given for)

pub tree_scoped : TreeScoped
tree_scoped = λ S context goal terms clauses left given for.
    answer-of (λ t. StandsAt S (start_at context goal terms) t × (IsScopedTree S t × EachSplit (IsAskedFor S (start_at context goal terms) clauses) t)) (λ t. IsScopedTree S t) (IsTreeEnd S (start_at context goal terms) clauses)
    (split_of S context goal terms clauses left).0 (λ t h. h.1.0) (tree-over S context goal terms clauses left given for)

pub splits_asked : SplitsAsked
splits_asked = λ S context goal terms clauses left given for.
    answer-of (λ t. StandsAt S (start_at context goal terms) t × (IsScopedTree S t × EachSplit (IsAskedFor S (start_at context goal terms) clauses) t))
    (λ t. EachSplit (IsAskedFor S (start_at context goal terms) clauses) t) (IsTreeEnd S (start_at context goal terms) clauses)
    (split_of S context goal terms clauses left).0 (λ t h. h.1.1) (tree-over S context goal terms clauses left given for)

pub tree_stop_scoped : TreeStopScoped
tree_stop_scoped = λ S context goal terms clauses left e given for is.
    let start = start_at context goal terms in
    let h : IsTreeEnd S start clauses e =
    transport (Holds (λ t. StandsAt S start t × (IsScopedTree S t × EachSplit (IsAskedFor S start clauses) t)) (IsTreeEnd S start clauses)) is (tree-over S context goal terms clauses left given for) in
    h.scoped

pub tree_caused : TreeCaused
tree_caused = λ S context goal terms clauses left e given for is.
    let start = start_at context goal terms in
    let h : IsTreeEnd S start clauses e =
    transport (Holds (λ t. StandsAt S start t × (IsScopedTree S t × EachSplit (IsAskedFor S start clauses) t)) (IsTreeEnd S start clauses)) is (tree-over S context goal terms clauses left given for) in
    h.caused
