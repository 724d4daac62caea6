-- A tree from a scoped point is scoped, whatever is written in dots.
use Rattle.std.proofs.Common.{◌≡◌, ℕ, zero, suc, ◌+◌, Bool, true, false, ◌&&◌, cond, Some, None, List, [], ◌∷◌, length, length-append, map, slice_get, IfOk, Result, Ok, Err, refl, sym, ◌∙◌, subst as transport, arith}
use Rattle.std.proofs.lemmas.List.Elements.{All-take}
use Rattle.std.specs.List.{All}
use Rattle.theory.specs.Terms.{Term}
use Rattle.theory.specs.Families.{Constructor}
use Rattle.theory.specs.Substitutions.{fill}
use Rattle.theory.specs.Telescopes.{Telescope}
use Rattle.theory.specs.Eliminators.{no_variable}
use Rattle.theory.specs.Signatures.{Signature}
use Rattle.theory.specs.SignatureScopes.{IsScoped}
use Rattle.core_terms.specs.Answers.{and_then, are_low, is_low}
use Rattle.core_terms.specs.CaseTrees.{Step}
use Rattle.core_terms.specs.Clauses as clause
use Rattle.core_terms.specs.Clauses.{Clauses, Is}
use Rattle.core_terms.specs.Patterns.{Pat}
use Rattle.core_terms.specs.declared.stop.Stop.{Stop}
use Rattle.core_terms.specs.declared.stop.Stop.TheVariants.{Deep}
use Rattle.tele_eq.specs.Items.{Item}
use Rattle.unification.specs.Outcomes as outcome
use Rattle.unification.specs.Outcomes.{Outcome}
use Rattle.unification.specs.Records.{argument_items}
use Rattle.unification.specs.ScopedStates.{AreScopedSteps, IsReady}
use Rattle.case_trees.specs.Looking.{Found, Look, Looked, Passed, Ran, first_found, look_at_type, run_all}
use Rattle.case_trees.specs.Pairs.{all_open, are_low_pairs, some_clashes, terms_in}
use Rattle.case_trees.specs.Points.{Point, bounded_point, moved_pairs, moved_point, point_keeping, solution_for, start_at}
use Rattle.case_trees.specs.Problems.{Member, problem_of}
use Rattle.case_trees.specs.Scoped.{AreScopedBranches, HasScopedSteps, IsScopedBranch, IsScopedPoint, IsScopedTree}
use Rattle.case_trees.specs.Standing.{Runs}
use Rattle.case_trees.specs.Stops.{TreeStop, answers, halting, or_halts}
use Rattle.case_trees.specs.Trees.{Growing, Live, Node, SplitAt, all_live, as_split, branch_by, by_first, by_live, by_patterns, grow_branches, look, moved_live, nowhere, one_node, patterns_left, solved_node, split_of, unless_dropped, worked}
use Rattle.case_trees.specs.Working.{of_columns, work_pairs}
use Rattle.case_trees.proofs.Answered.{Holds, and_next-holds, answer-of}
use Rattle.case_trees.proofs.LiveClauses.{AreLiveScoped}
use Rattle.case_trees.proofs.Looks.{AllPairs, LookHas, LookHolds, first-holds}
use Rattle.case_trees.proofs.Running.{AllRun, RunHas, all-run}
use Rattle.case_trees.proofs.ScopedPoints.{all-under-scoped, moved-scoped}
use Rattle.case_trees.proofs.ScopedWalks.{all-bound-scoped}
use Rattle.case_trees.proofs.ScopedWorking.{all-become-scoped, waiting-scoped}
use Rattle.case_trees.proofs.Shapes.{terms-moved}
use Rattle.case_trees.proofs.WalkLooks.{LookedAt, type-holds}
use Rattle.case_trees.proofs.WalkStanding.{IsSplit, all-open-scoped, looked-split, problem-outcome, type-there}
use Rattle.case_trees.proofs.WalkTurns.{become-holds, keeping-holds}
use Rattle.case_trees.proofs.Workings.{AllBecome}
use Rattle.function_session.proofs.plan_laws.KeptScopes.{kept-point}

abbrev Any : TreeStop → Type 0
Any e = Unit {0}

-- ---- nodes

-- a node over the context of a point
record IsNodeOver (S : Signature) (p : Point) (node : Node) : Type 0 where
  context : node.point.context ≡ p.context
  scoped : IsScopedPoint S node.point
  live : AreLiveScoped S (length p.context) node.live

unless-over : (S : Signature) (p : Point) (c : Live) (node : Node) → All (IsScoped S (length p.context)) (terms_in c.pairs) → IsNodeOver S p node
    → IsNodeOver S p (unless_dropped c node)
unless-over S p c node terms h = by (some_clashes c.pairs)
  where
    by : (test : Bool) → IsNodeOver S p (cond test node (record node { live = c ∷ node.live }))
    by true = h
    by false = record { context = h.context; scoped = h.scoped; live = (terms, h.live) }

worked-over : (S : Signature) → IsReady S → (p : Point) (live : List Live) (left : ℕ) → IsScopedPoint S p → AreLiveScoped S (length p.context) live
    → Holds (IsNodeOver S p) Any (worked S p live left).0
worked-over S ready p [] left h terms = record { context = refl; scoped = h; live = tt }
worked-over S ready p (c ∷ live) left h terms =
    and_next-holds (AllBecome S c.pairs) (IsNodeOver S p) Any (halting (work_pairs S of_columns c.pairs left)) _
    (become-holds S c.pairs left Any (λ e. tt)) (λ pairs rest become.
    let new = all-become-scoped S (length p.context) ready.scoped c.pairs pairs become terms.0 in
    and_next-holds (λ (next : Point). (next.context ≡ p.context) × IsScopedPoint S next) (IsNodeOver S p) Any (answers (or_halts (point_keeping S p pairs)) rest) _
    (keeping-holds S (λ (next : Point). (next.context ≡ p.context) × IsScopedPoint S next) Any _ (λ e. tt) (refl, kept-point S p pairs h new))
    (λ next onwards has.
    and_next-holds (IsNodeOver S next) (IsNodeOver S p) Any (worked S next live onwards) _
    (worked-over S ready next live onwards has.1 (transport (λ (G : Telescope). AreLiveScoped S (length G) live) (sym has.0) terms.1))
    (λ node end over.
    unless-over S p (record { number = c.number; pairs = pairs }) node new
    (record {
      context = over.context ∙ has.0;
      scoped = over.scoped;
      live = transport (λ (G : Telescope). AreLiveScoped S (length G) node.live) has.0 over.live;
    }))))

-- ---- solutions

live-moved : (S : Signature) (n m : ℕ) (solution : List Term) (live : List Live) → All (IsScoped S m) solution → AreLiveScoped S n live
    → IfOk (moved_live solution live) (AreLiveScoped S m)
live-moved S n m solution [] all h = tt
live-moved S n m solution (c ∷ live) all h = by (are_low_pairs (moved_pairs solution c.pairs)) (moved_live solution live) (live-moved S n m solution live all h.1)
  where
    by : (low : Bool) (others : Result (List Live) Stop) → IfOk others (AreLiveScoped S m)
        → IfOk (and_then (cond low (Ok (moved_pairs solution c.pairs)) (Err Deep)) (λ pairs.
        and_then others (λ more_live. Ok (record { number = c.number; pairs = pairs } ∷ more_live)))) (AreLiveScoped S m)
    by true (Ok moved) k =
        (transport (All (IsScoped S m)) (sym (terms-moved (fill no_variable solution) c.pairs)) (all-under-scoped S n m solution (terms_in c.pairs) all h.0), k)
    by true (Err e) k = tt
    by false others k = tt

-- a point with the clauses that are left there
record IsGrowing (S : Signature) (node : Node) : Type 0 where
  scoped : IsScopedPoint S node.point
  live : AreLiveScoped S (length node.point.context) node.live

solved-over : (S : Signature) (p : Point) (live : List Live) (context : Telescope) (solution : List Term) → AreLiveScoped S (length p.context) live
    → IsScopedPoint S (moved_point p context (solution_for p solution)) → All (IsScoped S (length context)) solution
    → Holds (IsGrowing S) Any (or_halts (solved_node p live context (solution_for p solution)))
solved-over S p live context solution terms scoped all =
    by (are_low next.context && (is_low next.goal && (are_low next.substitution && are_low next.terms))) (moved_live (solution_for p solution) live)
    (live-moved S (length p.context) (length context) (solution_for p solution) live (All-take (IsScoped S (length context)) (length p.context) solution all) terms)
  where
    next : Point
    next = moved_point p context (solution_for p solution)

    by : (low : Bool) (moved : Result (List Live) Stop) → IfOk moved (AreLiveScoped S (length context))
        → Holds (IsGrowing S) Any
        (or_halts (and_then (cond low (Ok (moved_point p context (solution_for p solution))) (Err Deep)) (λ q. and_then moved (λ m. Ok (record { point = q; live = m })))))
    by true (Ok m) k = record { scoped = scoped; live = k }
    by true (Err e) k = tt
    by false moved k = tt

-- ---- branches

abbrev GrowingOver : Signature → Growing → Type 0
GrowingOver S go = (p : Point) (live : List Live) (left : ℕ) → IsScopedPoint S p → AreLiveScoped S (length p.context) live → Holds (IsScopedTree S) Any (go p live left).0

-- the steps of a constructor's problem, from the context of the split on
problem-steps : (S : Signature) (p : Point) (x : ℕ) (m : Member) (number : ℕ) (c : Constructor) (steps : List Step)
    → AreScopedSteps S (length (problem_of p.context x m number c).context) steps → HasScopedSteps S (length p.context) steps
problem-steps S p x m number c steps h =
    let types = map (λ (item : Item). item.type) (argument_items m.n m.parameters c) in
    record { arguments = length types; scoped = transport (λ k. AreScopedSteps S k steps) (length-append p.context types) h }

branch-over : (S : Signature) → IsReady S → (go : Growing) → GrowingOver S go → (p : Point) (live : List Live) (x : ℕ) (found : Looked) (number : ℕ)
    (c : Constructor) (run : Ran) (o : Outcome) (left : ℕ) → IsScopedPoint S p → AreLiveScoped S (length p.context) live → IsSplit S p x found
    → slice_get found.member.family.constructors number ≡ Some c → Runs S (problem_of p.context x found.member number c) o
    → Holds (IsScopedBranch S (length p.context)) Any (branch_by go p live run o left).0
branch-over S ready go more p live x found number c run (outcome.Absurd steps context u v) left h terms split there runs =
    let out = problem-outcome S p x found number c (outcome.Absurd steps context u v) ready h split there runs in
    (problem-steps S p x found.member number c steps out.0, out.1, out.2, out.3)
branch-over S ready go more p live x found number c run (outcome.Solved steps context solution) left h terms split there runs =
    let out = problem-outcome S p x found number c (outcome.Solved steps context solution) ready h split there runs in
    and_next-holds (IsGrowing S) (IsScopedBranch S (length p.context)) Any (answers (or_halts (solved_node p live context (solution_for p solution))) left) _
    (solved-over S p live context solution terms (moved-scoped S p context solution h out.1 out.2) out.2) (λ node rest over.
    and_next-holds (IsScopedTree S) (IsScopedBranch S (length p.context)) Any (go node.point node.live rest) _ (more node.point node.live rest over.scoped over.live)
    (λ subtree end scoped. (problem-steps S p x found.member number c steps out.0, scoped)))
branch-over S ready go more p live x found number c run (outcome.Stuck steps context u v why) left h terms split there runs = tt

branches-over : (S : Signature) → IsReady S → (go : Growing) → GrowingOver S go → (p : Point) (live : List Live) (x : ℕ) (found : Looked) (number : ℕ)
    (cs : List Constructor) (runs : List Ran) (left : ℕ) → IsScopedPoint S p → AreLiveScoped S (length p.context) live → IsSplit S p x found
    → ((j : ℕ) (d : Constructor) → slice_get cs j ≡ Some d → slice_get found.member.family.constructors (number + j) ≡ Some d)
    → AllRun S p.context x found.member number cs runs
    → Holds (AreScopedBranches S (length p.context)) Any (grow_branches go p live runs left).0
branches-over S ready go more p live x found number [] [] left h terms split at all = tt
branches-over S ready go more p live x found number [] (run ∷ runs) left h terms split at all = absurd all
branches-over S ready go more p live x found number (c ∷ cs) [] left h terms split at all = absurd all
branches-over S ready go more p live x found number (c ∷ cs) (run ∷ runs) left h terms split at all =
    let here : number + 0 ≡ number = omega arith in
    let there : slice_get found.member.family.constructors number ≡ Some c =
    transport (λ k. slice_get found.member.family.constructors k ≡ Some c) here (at 0 c refl) in
    and_next-holds (IsScopedBranch S (length p.context)) (AreScopedBranches S (length p.context)) Any (branch_by go p live run run.outcome left) _
    (branch-over S ready go more p live x found number c run run.outcome left h terms split there all.0.runs)
    (λ branch rest one.
    and_next-holds (AreScopedBranches S (length p.context)) (AreScopedBranches S (length p.context)) Any (grow_branches go p live runs rest) _
    (branches-over S ready go more p live x found (number + 1) cs runs rest h terms split
    (λ j d e.
    let next : number + suc j ≡ number + 1 + j = omega arith in
    transport (λ k. slice_get found.member.family.constructors k ≡ Some d) next (at (suc j) d e)) all.1)
    (λ branches end others. (one, others)))

-- ---- splits

-- where a node is split
record IsSplitOver (S : Signature) (p : Point) (s : SplitAt) : Type 0 where
  split : IsSplit S p s.variable s.looked
  type : IsScoped S (length p.context) s.looked.type
  runs : AllRun S p.context s.variable s.looked.member 0 s.looked.member.family.constructors s.runs

looks-over : (S : Signature) → IsReady S → (number : ℕ) (p : Point) → IsScopedPoint S p
    → LookHolds (IsSplitOver S p) Any (λ o. IsScoped S (length p.context) o.1) S number (look S number p.context)
looks-over S ready number p h = λ pair x left o tidy.
    and_next-holds (LookedAt S Open p.context pair x) (LookHas (IsSplitOver S p) Any number) Any (look_at_type S number p.context pair.0 x left) _
    (type-holds S number Open Any p.context pair x left (λ e. tt) o tidy (λ type to none. tt))
    (λ found rest at.
    and_next-holds (RunHas S p.context x found.member 0 found.member.family.constructors) (LookHas (IsSplitOver S p) Any number) Any
    (run_all S p.context x found.member 0 found.member.family.constructors rest) _
    (all-run S p.context x found.member 0 found.member.family.constructors rest Any (λ e. tt))
    (λ runs end has.
    by x found (looked-split S p pair x found ready h at.is_open at.tidies at.reduces at.member)
    (type-there S p pair.1 x found.type ready h at.is_open at.tidies at.reduces) runs has))
  where
    Open : (Pat × Term) → Type 0
    Open o = IsScoped S (length p.context) o.1

    by : (x : ℕ) (found : Looked) → IsSplit S p x found → IsScoped S (length p.context) found.type → (runs : Look (List Ran))
        → RunHas S p.context x found.member 0 found.member.family.constructors runs → LookHas (IsSplitOver S p) Any number (as_split x found runs)
    by x found split type (Found runs) has = record { split = split; type = type; runs = has }
    by x found split type (Passed r) has = tt

first-over : (S : Signature) → IsReady S → (go : Growing) → GrowingOver S go → (p : Point) (c : Live) (live : List Live) (asked : List (Pat × Term)) (left : ℕ)
    → IsScopedPoint S p → AreLiveScoped S (length p.context) (c ∷ live) → all_open c.pairs ≡ asked
    → Holds (IsScopedTree S) Any (by_first S go p c live asked left).0
first-over S ready go more p c live [] left h terms e = record {
  context = h.context;
  goal = h.goal;
  substitution = h.substitution;
  terms = h.terms;
  binds = all-bound-scoped S (length p.context) c.pairs terms.0;
}
first-over S ready go more p c live (pair ∷ others) left h terms e =
    and_next-holds (IsSplitOver S p) (IsScopedTree S) Any (first_found S c.number p.context (look S c.number p.context) (pair ∷ others) None None left) _
    (first-holds (IsSplitOver S p) Any (λ o. IsScoped S (length p.context) o.1) S c.number p.context (look S c.number p.context) (pair ∷ others) (λ e. tt)
    (transport (AllPairs (λ o. IsScoped S (length p.context) o.1)) e (all-open-scoped S (length p.context) c.pairs terms.0))
    (looks-over S ready c.number p h) (λ pair u o to e. tt) None None left tt tt)
    (λ s rest has.
    and_next-holds (AreScopedBranches S (length p.context)) (IsScopedTree S) Any (grow_branches go p (c ∷ live) s.runs rest) _
    (branches-over S ready go more p (c ∷ live) s.variable s.looked 0 s.looked.member.family.constructors s.runs rest h terms has.split
    (λ j d e.
    let place : j ≡ 0 + j = omega arith in
    transport (λ k. slice_get s.looked.member.family.constructors k ≡ Some d) place e) has.runs)
    (λ branches end each. (h.context, has.split.family.variable, has.type, each)))

live-over : (S : Signature) → IsReady S → (go : Growing) → GrowingOver S go → (p : Point) (live : List Live) (left : ℕ) → IsScopedPoint S p
    → AreLiveScoped S (length p.context) live → Holds (IsScopedTree S) Any (by_live S go p live left).0
live-over S ready go more p [] left h terms = tt
live-over S ready go more p (c ∷ live) left h terms = first-over S ready go more p c live (all_open c.pairs) left h terms refl

-- ---- the tree

node-over : (S : Signature) → IsReady S → (go : Growing) → GrowingOver S go → GrowingOver S (one_node S go)
node-over S ready go more = λ p live left h terms.
    and_next-holds (IsNodeOver S p) (IsScopedTree S) Any (worked S p live left) _ (worked-over S ready p live left h terms) (λ node rest over.
    live-over S ready go more node.point node.live rest over.scoped
    (transport (λ (G : Telescope). AreLiveScoped S (length G) node.live) (sym over.context) over.live))

grows-over : (S : Signature) → IsReady S → (patterns : ℕ) → GrowingOver S (by_patterns S patterns)
grows-over S ready zero = node-over S ready nowhere (λ p live left h terms. tt)
grows-over S ready (suc patterns) = node-over S ready (by_patterns S patterns) (grows-over S ready patterns)

all-live-over : (S : Signature) (n number : ℕ) (terms : List Term) (clauses : Clauses) → All (IsScoped S n) terms → AreLiveScoped S n (all_live number terms clauses)
all-live-over S n number terms clause.nil all = tt
all-live-over S n number terms (clause.cons (Is pats binds right) clauses) all =
    (waiting-scoped S n pats terms all, all-live-over S n (number + 1) terms clauses all)

-- a point with these terms
record IsStart (S : Signature) (terms : List Term) (p : Point) : Type 0 where
  scoped : IsScopedPoint S p
  columns : All (IsScoped S (length p.context)) terms

pub tree-over : (S : Signature) (context : Telescope) (goal : Term) (terms : List Term) (clauses : Clauses) (left : ℕ) → IsReady S
    → IsScopedPoint S (start_at context goal terms) → IfOk (split_of S context goal terms clauses left).0 (IsScopedTree S)
tree-over S context goal terms clauses left ready h =
    let start = start_at context goal terms in
    let live = all_live 0 terms clauses in
    answer-of (IsScopedTree S) (IsScopedTree S) Any (split_of S context goal terms clauses left).0 (λ t h. h)
    (and_next-holds (IsStart S terms) (IsScopedTree S) Any (answers (or_halts (bounded_point start)) left) _
    (keeping-holds S (IsStart S terms) Any start (λ e. tt) (record { scoped = h; columns = h.terms }))
    (λ p rest is.
    grows-over S ready (patterns_left live) p live rest is.scoped (all-live-over S (length p.context) 0 terms clauses is.columns)))
