-- Where a tree is split, and the end of it there, which is scoped and has its cause at the clause that asks.
use Rattle.std.proofs.Common.{◌≡◌, ℕ, ◌+◌, option_and_then, List, length, sym, ap, ◌∙◌, subst as transport, arith}
use Rattle.theory.specs.Terms.{Term, Var}
use Rattle.theory.specs.Signatures.{Signature}
use Rattle.theory.specs.SignatureScopes.{IsScoped}
use Rattle.core_terms.specs.Patterns.{Pat}
use Rattle.core_terms.specs.Clauses.{Clauses}
use Rattle.core_terms.specs.declared.stop.Stop.{Stop}
use Rattle.unification.specs.Outcomes as outcome
use Rattle.unification.specs.ScopedStates.{IsReady}
use Rattle.case_trees.specs.Pairs.{terms_in}
use Rattle.case_trees.specs.Points.{Point}
use Rattle.case_trees.specs.Problems.{type_of_variable, problem_of}
use Rattle.case_trees.specs.Stops as stop
use Rattle.case_trees.specs.Stops.{TreeStop}
use Rattle.case_trees.specs.Looking.{Look, Found, Passed, Looked, Ran, if_expected, look_at_type, run_all}
use Rattle.case_trees.specs.Trees.{Live, SplitAt, as_split, look}
use Rattle.case_trees.specs.Standing.{Runs}
use Rattle.case_trees.specs.Scoped.{IsScopedPoint, IsScopedStop}
use Rattle.case_trees.specs.Asking.{Asks}
use Rattle.case_trees.specs.Causes as cause
use Rattle.case_trees.specs.Causes.{IsAnyNumber, CommonCause, TreeCause}
use Rattle.case_trees.proofs.Answered.{and_next-holds}
use Rattle.case_trees.proofs.Looks.{TidiesTo, LookHas, LookHolds, ForcedHolds}
use Rattle.case_trees.proofs.Running.{AllRun, RunHas, all-run}
use Rattle.case_trees.proofs.LiveClauses.{IsLiveAt}
use Rattle.case_trees.proofs.TidiedSteps.{tidied-none}
use Rattle.case_trees.proofs.WalkLooks.{LookedAt, type-holds}
use Rattle.case_trees.proofs.WalkStanding.{IsAt, IsSplit, looked-split, problem-outcome, type-there, head-form-of, tidied-form, tidied-scoped, no-variable, IsOpenIn}

-- the end of the tree is scoped and has its cause
pub record IsTreeEnd (S : Signature) (start : Point) (clauses : Clauses) (e : TreeStop) : Type 0 where
  pub scoped : IsScopedStop S e
  pub caused : TreeCause S start clauses e

pub tree-halts : (S : Signature) (start : Point) (clauses : Clauses) (e : Stop) → IsTreeEnd S start clauses (stop.Halts e)
tree-halts S start clauses e = record { scoped = tt; caused = cause.halted e }

-- the clause that asks at a point
pub record IsAsker (S : Signature) (start : Point) (clauses : Clauses) (p : Point) (c : Live) : Type 0 where
  pub at : IsAt S start p
  pub live : IsLiveAt S clauses at.plain c

asked : (S : Signature) (start : Point) (clauses : Clauses) (p : Point) (c : Live) (pair : Pat × Term) (u : Term) (h : IsAsker S start clauses p c)
    → IsOpenIn S (length p.context) h.live.pats (terms_in c.pairs) pair → TidiesTo S pair.1 u
    → Asks S start (record p { terms = h.at.plain }) h.live.pats pair.0 u
asked S start clauses p c pair u h o tidy =
    record {
      node = h.at.node;
      terms = terms_in c.pairs;
      converts = h.live.converts;
      term = pair.1;
      place = o.place;
      tidied = tidied-form S pair.1 u tidy;
    }

ended-commonly : (S : Signature) (start : Point) (clauses : Clauses) (p : Point) (c : Live) (h : IsAsker S start clauses p c) (e : TreeStop) → IsScopedStop S e
    → CommonCause S IsAnyNumber start c.number h.live.pats e → IsTreeEnd S start clauses e
ended-commonly S start clauses p c h e scoped k =
    record { scoped = scoped; caused = cause.common c.number h.live.binds h.live.pats h.live.right e h.live.there k }

-- one of the pairs with O is split
pub record SplitHas (S : Signature) (O : (Pat × Term) → Type 0) (p : Point) (s : SplitAt) : Type 0 where
  pub pair : Pat × Term
  pub at : LookedAt S O p.context pair s.variable s.looked
  pub split : IsSplit S p s.variable s.looked
  pub type : IsScoped S (length p.context) s.looked.type
  pub runs : AllRun S p.context s.variable s.looked.member 0 s.looked.member.family.constructors s.runs

pub looks-split : (S : Signature) (start : Point) (clauses : Clauses) (p : Point) (c : Live) (h : IsAsker S start clauses p c) → IsReady S → IsScopedPoint S p
    → LookHolds (SplitHas S (IsOpenIn S (length p.context) h.live.pats (terms_in c.pairs)) p) (IsTreeEnd S start clauses)
    (IsOpenIn S (length p.context) h.live.pats (terms_in c.pairs)) S c.number (look S c.number p.context)
looks-split S start clauses p c h ready scoped = λ pair x left o tidy.
    and_next-holds (LookedAt S Open p.context pair x) (LookHas (SplitHas S Open p) Q c.number) Q (look_at_type S c.number p.context pair.0 x left) _
    (type-holds S c.number Open Q p.context pair x left (tree-halts S start clauses) o tidy (λ type to none.
    ended-commonly S start clauses p c h (stop.WrongConstructor c.number p.context type)
    (scoped.context, type-there S p pair.1 x type ready scoped o.scoped tidy to)
    (cause.wrong_constructor (record p { terms = h.at.plain }) pair.0 x type (asked S start clauses p c pair (Var x) h o tidy)
    (head-form-of S (type_of_variable p.context x) type to) (λ m e. sym (ap (option_and_then (if_expected pair.0)) e) ∙ none))))
    (λ found rest at.
    and_next-holds (RunHas S p.context x found.member 0 found.member.family.constructors) (LookHas (SplitHas S Open p) Q c.number) Q
    (run_all S p.context x found.member 0 found.member.family.constructors rest) _
    (all-run S p.context x found.member 0 found.member.family.constructors rest Q (tree-halts S start clauses))
    (λ runs end has.
    by pair x found at (looked-split S p pair x found ready scoped at.is_open.scoped at.tidies at.reduces at.member)
    (type-there S p pair.1 x found.type ready scoped at.is_open.scoped at.tidies at.reduces) runs has))
  where
    Q : TreeStop → Type 0
    Q = IsTreeEnd S start clauses

    Open : (Pat × Term) → Type 0
    Open = IsOpenIn S (length p.context) h.live.pats (terms_in c.pairs)

    by : (pair : Pat × Term) (x : ℕ) (found : Looked) → LookedAt S Open p.context pair x found → IsSplit S p x found → IsScoped S (length p.context) found.type → (runs : Look (List Ran))
        → RunHas S p.context x found.member 0 found.member.family.constructors runs → LookHas (SplitHas S Open p) Q c.number (as_split x found runs)
    by pair x found at split type (Found runs) has = record { pair = pair; at = at; split = split; type = type; runs = has }
    by pair x found at split type (Passed r) has =
        let from_zero : 0 + has.place ≡ has.place = omega arith in
        let runs : Runs S (problem_of p.context x found.member has.place has.c) (outcome.Stuck has.steps r.context r.left r.right r.why) =
        transport (λ j. Runs S (problem_of p.context x found.member j has.c) (outcome.Stuck has.steps r.context r.left r.right r.why)) from_zero has.runs in
        let out = problem-outcome S p x found has.place has.c (outcome.Stuck has.steps r.context r.left r.right r.why) ready scoped split has.there runs in
        ended-commonly S start clauses p c h (stop.Stuck c.number r.context r.left r.right r.why) (out.1, out.2, out.3)
        (cause.stuck (record p { terms = h.at.plain }) pair.0 x found.member has.place has.c has.steps r.context r.left r.right r.why
        (asked S start clauses p c pair (Var x) h at.is_open at.tidies) at.expected tt
        (record { type = found.type; node = h.at.node; family = split.family; constructor = has.there }) runs)

-- a pair without a variable
pub forced-ends : (S : Signature) (start : Point) (clauses : Clauses) (p : Point) (c : Live) (h : IsAsker S start clauses p c) → IsReady S → IsScopedPoint S p
    → ForcedHolds (IsTreeEnd S start clauses) (IsOpenIn S (length p.context) h.live.pats (terms_in c.pairs)) S c.number p.context
forced-ends S start clauses p c h ready scoped = λ pair u o to e.
    ended-commonly S start clauses p c h (stop.Forced c.number p.context pair.0 u)
    (scoped.context, tidied-scoped S (length p.context) pair.1 u ready o.scoped to)
    (cause.forced (record p { terms = h.at.plain }) pair.0 u (asked S start clauses p c pair u h o to) (tidied-none S pair.1 u o.none to) (no-variable u e))
