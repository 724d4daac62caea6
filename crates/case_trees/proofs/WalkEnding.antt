-- A walk ends at a point that solved problems lead to; there it is matched by its clause, or a variable has no constructor.
use Rattle.std.proofs.Common.{◌≡◌, ℕ, ◌+◌, ◌<◌, ◌==◌, Bool, true, false, cond, Some, None, option_and_then, List, [], ◌∷◌, zero, suc, length, slice_get, refl, sym, ap, ◌∙◌, subst as transport, arith}
use Rattle.std.proofs.lemmas.Bool.Decides.{Decides-eqb}
use Rattle.std.proofs.lemmas.Option.{slice_get_within}
use Rattle.std.specs.List.{All}
use Rattle.theory.specs.Terms.{Term, Var}
use Rattle.theory.specs.Telescopes.{Telescope}
use Rattle.theory.specs.Families.{Family, Constructor}
use Rattle.theory.specs.Signatures.{Signature, FamilyOf, IsEntryAt}
use Rattle.theory.specs.SignatureScopes.{IsScoped, IsConstructorNumber}
use Rattle.theory.proofs.WellFormedness.{same_family}
use Rattle.tele_eq.specs.ReflexivityLaws.{EachConverts}
use Rattle.unification.specs.Outcomes as outcome
use Rattle.core_terms.specs.Patterns as pattern
use Rattle.core_terms.specs.Patterns.{Pat, Pats}
use Rattle.core_terms.specs.Clauses.{Right, Is}
use Rattle.core_terms.specs.CaseTrees.{Walk}
use Rattle.case_trees.specs.pattern_vectors.Columns.{AreWhole}
use Rattle.case_trees.specs.pattern_vectors.Matching.{matches_all}
use Rattle.unification.specs.ScopedStates.{IsReady}
use Rattle.case_trees.specs.Pairs.{Pairs, waiting, terms_in, all_open, all_left, all_bound, all_dots}
use Rattle.case_trees.specs.Keeping.{keep_all}
use Rattle.case_trees.specs.Points.{Point, bounded_point, start_at, solution_for}
use Rattle.case_trees.specs.Problems.{Member, type_of_variable, problem_of}
use Rattle.case_trees.specs.Stops as stop
use Rattle.case_trees.specs.Stops.{TreeStop, or_halts, answers}
use Rattle.case_trees.specs.Looking.{Looked, if_expected}
use Rattle.case_trees.specs.OwnWalks.{walk_at, own_walk_of}
use Rattle.case_trees.specs.Standing.{IsAbsurdProblem}
use Rattle.case_trees.specs.Scoped.{IsScopedPattern, AreScopedPatterns, IsClauseFor, IsScopedWalk, IsScopedStop}
use Rattle.case_trees.specs.Asking.{SomeOpenAt, Asks}
use Rattle.case_trees.specs.Causes as cause
use Rattle.case_trees.specs.Causes.{IsProblemAt, IsOwnNumber, CommonCause, WalkCause}
use Rattle.case_trees.specs.Laws as law
use Rattle.case_trees.specs.Laws.{IsGiven, IsWalkAt, IsWalkEnd, WalkStands, WalkEnds, WalkScoped, WalkStopScoped, WalkCaused}
use Rattle.case_trees.proofs.Answered.{Holds, and_next-holds, answer-of}
use Rattle.case_trees.proofs.Looks.{TidiesTo, AllPairs}
use Rattle.case_trees.proofs.ScopedWalks.{all-bound-scoped, all-dots-scoped, walked-scoped}
use Rattle.case_trees.proofs.Shapes.{all-shapes, all-done-match}
use Rattle.case_trees.proofs.OwnWalkLaws.{IsOwn, IsOwnWorked, own-starts, own-works, own-moves}
use Rattle.case_trees.proofs.WalkLeading.{own-kept_on}
use Rattle.case_trees.proofs.OwnTerms.{all-kept}
use Rattle.case_trees.proofs.OwnPlaces.{IsAsking}
use Rattle.case_trees.proofs.TidiedSteps.{tidied-none}
use Rattle.case_trees.proofs.Clashing.{all-clash, all-clash-scoped, some-pattern}
use Rattle.case_trees.proofs.WalkTurns.{Claims, Turns, keeping-holds, walk-holds}
use Rattle.case_trees.proofs.WalkLooks.{LookedAt, IsOther, Outcomes, look-holds}
use Rattle.case_trees.proofs.WalkStanding.{IsStanding, IsSplit, standing-start, standing-kept, standing-moved, looked-split, tidied-form, tidied-scoped, no-variable, head-form-of, type-there, problem-outcome, IsOpenIn, all-open-in}

-- the walk is at a point, and is matched there or absurd
pub record IsEnd (S : Signature) (start : Point) (pats : Pats) (w : Walk) : Type 0 where
  pub stands : IsWalkAt S start w
  pub ends : IsWalkEnd S pats w
  pub scoped : IsScopedWalk S w

-- an open pair at a point
abbrev IsOpenAt : Signature → Pats → Point → (Pat × Term) → Type 0
IsOpenAt S pats p pair = IsOpenIn S (length p.context) pats p.terms pair

walk-stands : (S : Signature) (start p : Point) (pairs : Pairs) → IsStanding S start p → IsWalkAt S start (walk_at p pairs)
walk-stands S start p pairs h =
    record {
      p = record p { terms = h.at.plain };
      node = h.at.node;
      context = refl;
      goal = refl;
      substitution = refl;
      terms = h.at.converts;
    }

walk-scoped-at : (S : Signature) (start p : Point) (pats : Pats) (binds : ℕ) (pairs : Pairs) → AreScopedPatterns S binds pats → IsOwn S pats p pairs
    → IsStanding S start p → IsScopedWalk S (walk_at p pairs)
walk-scoped-at S start p pats binds pairs patterns own h =
    let terms : All (IsScoped S (length p.context)) (terms_in pairs) = transport (All (IsScoped S (length p.context))) own.terms h.scoped.terms in
    let bound = all-bound-scoped S (length p.context) pairs terms in
    record {
      context = h.scoped.context;
      goal = h.scoped.goal;
      substitution = h.scoped.substitution;
      terms = h.scoped.terms;
      binds = bound;
      dots = walked-scoped S (length p.context) binds (all_bound pairs) (all_dots pairs) bound
          (all-dots-scoped S (length p.context) binds pats pairs own.shapes patterns terms);
    }

-- an open pair that is not for a constructor is for ( )
is-absurd : (pat : Pat) → IsAsking pat → IsOther pat → pat ≡ pattern.Absurd
is-absurd (pattern.Con n number pats) asks other = absurd other
is-absurd pattern.Absurd asks other = refl
is-absurd pattern.Bind asks other = absurd asks
is-absurd pattern.Wild asks other = absurd asks
is-absurd (pattern.Dot written) asks other = absurd asks

-- the end of the walk is scoped and has its cause
pub record IsEndedBy (S : Signature) (start : Point) (clause : ℕ) (pats : Pats) (e : TreeStop) : Type 0 where
  pub scoped : IsScopedStop S e
  pub caused : WalkCause S start clause pats e

ended-commonly : (S : Signature) (start : Point) (clause : ℕ) (pats : Pats) (e : TreeStop) → IsScopedStop S e
    → CommonCause S IsOwnNumber start clause pats e → IsEndedBy S start clause pats e
ended-commonly S start clause pats e h k = record { scoped = h; caused = cause.common e k }

-- the point without what its terms were compared with
abbrev plain-point : (S : Signature) (start p : Point) → IsStanding S start p → Point
plain-point S start p h = record p { terms = h.at.plain }

asked : (S : Signature) (start : Point) (pats : Pats) (p : Point) (pair : Pat × Term) (u : Term) (h : IsStanding S start p) → IsOpenAt S pats p pair
    → TidiesTo S pair.1 u → Asks S start (plain-point S start p h) pats pair.0 u
asked S start pats p pair u h o tidy =
    record {
      node = h.at.node;
      terms = p.terms;
      converts = h.at.converts;
      term = pair.1;
      place = o.place;
      tidied = tidied-form S pair.1 u tidy;
    }

ending-claims : Signature → Point → (clause : ℕ) → Pats → Claims
ending-claims S start clause pats = record {
  Before = λ p pairs. IsOwn S pats p pairs × IsStanding S start p;
  Then = λ p pairs. IsOwnWorked S pats p pairs × IsStanding S start p;
  Good = IsEnd S start pats;
  Cause = IsEndedBy S start clause pats;
  Open = IsOpenAt S pats;
}

split-of : (S : Signature) (start : Point) (pats : Pats) (p : Point) (pair : Pat × Term) (x : ℕ) (found : Looked) → IsReady S → IsStanding S start p
    → LookedAt S (IsOpenAt S pats p) p.context pair x found → IsSplit S p x found
split-of S start pats p pair x found ready h at = looked-split S p pair x found ready h.scoped at.is_open.scoped at.tidies at.reduces at.member

problem-at : (S : Signature) (start p : Point) (x : ℕ) (found : Looked) (number : ℕ) (c : Constructor) (h : IsStanding S start p) → IsSplit S p x found
    → slice_get found.member.family.constructors number ≡ Some c → IsProblemAt S start (plain-point S start p h) x found.member number c
problem-at S start p x found number c h split there =
    record { type = found.type; node = h.at.node; family = split.family; constructor = there }

-- the family that a constructor pattern expects is its own
expected-number : (n number : ℕ) (qs : Pats) (m : Member) → if_expected (pattern.Con n number qs) m ≡ Some m → m.n ≡ n
expected-number n number qs m e = by (m.n == n) refl e
  where
    by : (test : Bool) → (m.n == n) ≡ test → cond test (Some m) None ≡ Some m → m.n ≡ n
    by true is e = (Decides-eqb m.n n).0 is
    by false is e = absurd (grind arith)

-- a scoped pattern has a constructor of its family
nothing-there : {A : Type 0} (xs : List A) (k : ℕ) → k < length xs → slice_get xs k ≡ None → ⊥
nothing-there [] k less e = omega arith
nothing-there (x ∷ xs) zero less e = absurd (grind arith)
nothing-there (x ∷ xs) (suc k) less e = nothing-there xs k (omega arith) e

number-there : (S : Signature) (n number : ℕ) (qs : Pats) (m : Member) → IsConstructorNumber S n number → if_expected (pattern.Con n number qs) m ≡ Some m
    → IsEntryAt S m.n (FamilyOf m.family) → slice_get m.family.constructors number ≡ None → ⊥
number-there S n number qs m (f, at, less) expected entry none =
    let here : IsEntryAt S n (FamilyOf m.family) = transport (λ k. IsEntryAt S k (FamilyOf m.family)) (expected-number n number qs m expected) entry in
    let same : f ≡ m.family = same_family S n f m.family at here in
    nothing-there m.family.constructors number (transport (λ (g : Family). number < length g.constructors) same less) none

ending-outcomes : (S : Signature) (start : Point) (clause : ℕ) (pats : Pats) (binds : ℕ) → IsReady S → AreScopedPatterns S binds pats → Outcomes S clause (ending-claims S start clause pats)
unfolding ending-claims
ending-outcomes S start clause pats binds ready patterns = record {
  halts = λ e. ended-commonly S start clause pats (stop.Halts e) tt (cause.halts e);
  wrong = λ p pairs pair x type h o tidy to none.
      ended-commonly S start clause pats (stop.WrongConstructor clause p.context type)
      (h.1.scoped.context, type-there S p pair.1 x type ready h.1.scoped o.scoped tidy to)
      (cause.wrong_constructor (plain-point S start p h.1) pair.0 x type (asked S start pats p pair (Var x) h.1 o tidy)
      (head-form-of S (type_of_variable p.context x) type to) (λ m e. sym (ap (option_and_then (if_expected pair.0)) e) ∙ none));
  no_number = λ p pairs pair x found n number qs h at is none.
      let split = split-of S start pats p pair x found ready h.1 at in
      let scoped : IsScopedPattern S binds (pattern.Con n number qs) =
      transport (IsScopedPattern S binds) is (some-pattern S binds pats p.terms pair.0 pair.1 at.is_open.place patterns) in
      absurd (number-there S n number qs found.member scoped.0 (transport (λ pat. if_expected pat found.member ≡ Some found.member) is at.expected)
      split.member.entry none);
  solved = λ p pairs pair x found n number qs c steps context solution h at is there runs. (
    own-moves S pats p pairs context (solution_for p solution) h.0.own,
    standing-moved S start p x found number c steps context solution ready h.1 (split-of S start pats p pair x found ready h.1 at) there runs,
  );
  impossible = λ p pairs pair x found n number qs c steps context u v h at is there runs.
      let split = split-of S start pats p pair x found ready h.1 at in
      let out = problem-outcome S p x found number c (outcome.Absurd steps context u v) ready h.1.scoped split there runs in
      let same : n ≡ found.member.n = sym (expected-number n number qs found.member (transport (λ pat. if_expected pat found.member ≡ Some found.member) is at.expected)) in
      record {
        scoped = (out.1, out.2, out.3);
        caused = cause.absurd (plain-point S start p h.1) qs x found.member number c steps context u v
            (transport (λ pat. Asks S start (plain-point S start p h.1) pats pat (Var x)) (is ∙ ap (λ k. pattern.Con k number qs) same)
            (asked S start pats p pair (Var x) h.1 at.is_open at.tidies))
            (problem-at S start p x found number c h.1 split there) runs;
      };
  stuck = λ p pairs pair x found number c steps context u v why h at tried there runs.
      let split = split-of S start pats p pair x found ready h.1 at in
      let out = problem-outcome S p x found number c (outcome.Stuck steps context u v why) ready h.1.scoped split there runs in
      ended-commonly S start clause pats (stop.Stuck clause context u v why) (out.1, out.2, out.3)
      (cause.stuck (plain-point S start p h.1) pair.0 x found.member number c steps context u v why
      (asked S start pats p pair (Var x) h.1 at.is_open at.tidies) at.expected tried (problem-at S start p x found number c h.1 split there) runs);
  not_absurd = λ p pairs pair x found number c steps context solution h at other there runs.
      let split = split-of S start pats p pair x found ready h.1 at in
      record {
        scoped = (found.member.family, split.member.entry, slice_get_within found.member.family.constructors number c there);
        caused = cause.not_absurd (plain-point S start p h.1) x found.member number c steps context solution
            (transport (λ pat. Asks S start (plain-point S start p h.1) pats pat (Var x)) (is-absurd pair.0 at.is_open.asks other)
            (asked S start pats p pair (Var x) h.1 at.is_open at.tidies))
            (problem-at S start p x found number c h.1 split there) runs;
      };
  ends = λ p pairs pair x found h at other all. record {
    stands = walk-stands S start p pairs h.1;
    ends = law.absurd pair.1 x found.type found.member
        (transport (λ pat. SomeOpenAt S pats p.terms pat pair.1) (is-absurd pair.0 at.is_open.asks other) at.is_open.place)
        (tidied-form S pair.1 (Var x) at.tidies) (split-of S start pats p pair x found ready h.1 at).family
        (λ number c there. from-zero S p x found number c (all number c there));
    scoped = walk-scoped-at S start p pats binds pairs patterns h.0.own h.1;
  };
}
  where
    from-zero : (S : Signature) (p : Point) (x : ℕ) (found : Looked) (number : ℕ) (c : Constructor)
        → IsAbsurdProblem S (problem_of p.context x found.member (0 + number) c) → IsAbsurdProblem S (problem_of p.context x found.member number c)
    from-zero S p x found number c h =
        let same : 0 + number ≡ number = omega arith in
        transport (λ k. IsAbsurdProblem S (problem_of p.context x found.member k c)) same h

pairs-open : (S : Signature) (start : Point) (pats : Pats) (p : Point) (pairs : Pairs) → IsOwnWorked S pats p pairs → IsStanding S start p
    → AllPairs (IsOpenAt S pats p) (all_open pairs)
pairs-open S start pats p pairs own h =
    transport (λ us. AllPairs (IsOpenIn S (length p.context) pats us) (all_open pairs)) (sym own.own.terms)
    (all-open-in S (length p.context) pats pairs own.own.shapes own.worked (transport (All (IsScoped S (length p.context))) own.own.terms h.scoped.terms))

ending-turns : (S : Signature) (start : Point) (clause : ℕ) (pats : Pats) (binds : ℕ) → IsReady S → AreScopedPatterns S binds pats → AreWhole S pats → Turns S clause (ending-claims S start clause pats)
unfolding ending-claims
ending-turns S start clause pats binds ready patterns whole = record {
  halts = λ e. ended-commonly S start clause pats (stop.Halts e) tt (cause.halts e);
  works = λ p pairs new h all clean. (
    own-works S pats p pairs new whole h.0 all clean,
    standing-kept S start p (keep_all S new p.terms) ready h.1 (own-kept_on S pats p pairs new whole h.0 all),
  );
  drops = λ p pairs new clash h all e.
      let shapes = (all-shapes S pats pairs new all h.0.shapes whole).0 in
      let apart = all-clash S pats new clash shapes e in
      let kept = standing-kept S start p (keep_all S new p.terms) ready h.1 (own-kept_on S pats p pairs new whole h.0 all) in
      let same : keep_all S new p.terms ≡ terms_in new = ap (keep_all S new) h.0.terms ∙ all-kept S pats pairs new all h.0.shapes whole in
      let both = all-clash-scoped S (length p.context) binds pats (terms_in new) apart.u apart.v apart.place patterns
      (transport (All (IsScoped S (length p.context))) same kept.scoped.terms) in
      transport (IsEndedBy S start clause pats) (sym (apart.told.told clause p.context))
      (record {
        scoped = (h.1.scoped.context, both.0, both.1);
        caused = cause.clash (record p { terms = kept.at.plain }) (terms_in new) apart.u apart.v kept.at.node
            (transport (EachConverts S kept.at.plain) same kept.at.converts) apart.place;
      });
  opens = λ p pairs h. pairs-open S start pats p pairs h.0 h.1;
  ends = λ p pairs h e. record {
    stands = walk-stands S start p pairs h.1;
    ends = law.matched (ap (matches_all S pats) h.0.own.terms ∙ all-done-match S pats pairs h.0.own.shapes (e, h.0.clean));
    scoped = walk-scoped-at S start p pats binds pairs patterns h.0.own h.1;
  };
  looks = look-holds S clause (ending-claims S start clause pats) (ending-outcomes S start clause pats binds ready patterns);
  forced = λ p pairs h pair u o to e.
      ended-commonly S start clause pats (stop.Forced clause p.context pair.0 u)
      (h.1.scoped.context, tidied-scoped S (length p.context) pair.1 u ready o.scoped to)
      (cause.forced (plain-point S start p h.1) pair.0 u (asked S start pats p pair u h.1 o to) (tidied-none S pair.1 u o.none to) (no-variable u e));
}

walk-ends : (S : Signature) (context : Telescope) (goal : Term) (terms : List Term) (pats : Pats) (binds : ℕ) (right : Right) (number left : ℕ)
    → IsGiven S context goal terms → IsClauseFor S terms pats binds
    → Holds (IsEnd S (start_at context goal terms) pats) (IsEndedBy S (start_at context goal terms) number pats) (own_walk_of S context goal terms (Is pats binds right) number left).0
unfolding ending-claims
walk-ends S context goal terms pats binds right number left given for =
    let start = start_at context goal terms in
    and_next-holds (λ (p : Point). IsOwn S pats p (waiting pats terms) × IsStanding S start p) (IsEnd S start pats) (IsEndedBy S start number pats)
    (answers (or_halts (bounded_point start)) left) _
    (keeping-holds S (λ (p : Point). IsOwn S pats p (waiting pats terms) × IsStanding S start p) (IsEndedBy S start number pats) start (λ e. ended-commonly S start number pats (stop.Halts e) tt (cause.halts e))
    (own-starts S context goal terms pats binds for, standing-start S start given.scoped))
    (λ p rest h.
    walk-holds S number (ending-claims S start number pats) (ending-turns S start number pats binds given.ready for.scoped for.whole)
    (all_left (waiting pats terms)) p (waiting pats terms) rest h)

pub walk_stands : WalkStands
walk_stands = λ S context goal terms pats binds right number left given for.
    answer-of (IsEnd S (start_at context goal terms) pats) (λ w. IsWalkAt S (start_at context goal terms) w) (IsEndedBy S (start_at context goal terms) number pats)
    (own_walk_of S context goal terms (Is pats binds right) number left).0 (λ w h. h.stands)
    (walk-ends S context goal terms pats binds right number left given for)

pub walk_ends : WalkEnds
walk_ends = λ S context goal terms pats binds right number left given for.
    answer-of (IsEnd S (start_at context goal terms) pats) (λ w. IsWalkEnd S pats w) (IsEndedBy S (start_at context goal terms) number pats)
    (own_walk_of S context goal terms (Is pats binds right) number left).0 (λ w h. h.ends)
    (walk-ends S context goal terms pats binds right number left given for)

pub walk_scoped : WalkScoped
walk_scoped = λ S context goal terms pats binds right number left given for.
    answer-of (IsEnd S (start_at context goal terms) pats) (λ w. IsScopedWalk S w) (IsEndedBy S (start_at context goal terms) number pats)
    (own_walk_of S context goal terms (Is pats binds right) number left).0 (λ w h. h.scoped)
    (walk-ends S context goal terms pats binds right number left given for)

pub walk_stop_scoped : WalkStopScoped
walk_stop_scoped = λ S context goal terms pats binds right number left e given for is.
    let h : IsEndedBy S (start_at context goal terms) number pats e =
    transport (Holds (IsEnd S (start_at context goal terms) pats) (IsEndedBy S (start_at context goal terms) number pats)) is
    (walk-ends S context goal terms pats binds right number left given for) in
    h.scoped

pub walk_caused : WalkCaused
walk_caused = λ S context goal terms pats binds right number left e given for is.
    let h : IsEndedBy S (start_at context goal terms) number pats e =
    transport (Holds (IsEnd S (start_at context goal terms) pats) (IsEndedBy S (start_at context goal terms) number pats)) is
    (walk-ends S context goal terms pats binds right number left given for) in
    h.caused
