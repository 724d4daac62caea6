-- Where a walk ends: at a point that solved problems lead to, matched by its clause, or at a variable for which no constructor can be there.
use Rattle.std.proofs.Common.{◌≡◌, ◌≢◌, ℕ, ◌+◌, ◌<◌, ◌≤◌, ◌&&◌, ◌||◌, Bool, true, false, cond, Some, None, IfOk, List, [], ◌∷◌, ◌++◌, length, map, slice_get, refl, sym, ap, ap₂, ◌∙◌, subst as transport, arith}
use Rattle.std.proofs.lemmas.Bool.{true≢false, or_parts}
use Rattle.std.proofs.lemmas.List.Elements.{All-head, All-tail}
use Rattle.std.specs.List.{All}
use Rattle.theory.specs.Terms.{Term, Var, Con}
use Rattle.theory.specs.Telescopes.{Telescope, applied}
use Rattle.theory.specs.Families.{Constructor}
use Rattle.theory.specs.Signatures.{Signature}
use Rattle.theory.specs.SignatureScopes.{IsScoped}
use Rattle.theory.proofs.AllOf.{all_right}
use Rattle.theory.proofs.ScopedTerms.{spine-scoped}
use Rattle.core_terms.specs.Patterns as pattern
use Rattle.core_terms.specs.Patterns.{Pat, Pats}
use Rattle.core_terms.specs.CaseTrees.{Step}
use Rattle.kernel_reduce.specs.Laws.{IsHeadForm}
use Rattle.kernel_reduce.proofs.ReductionLaws.{whnf-is_head_form}
use Rattle.kernel_reduce.proofs.ScopedReduction.{whnf-scoped}
use Rattle.tele_eq.specs.ReflexivityLaws.{EachConverts}
use Rattle.case_trees.specs.pattern_vectors.Matching.{is_as_long, is_there, is_apart_from, is_apart, has_apart, are_apart}
use Rattle.unification.specs.Built.{built_of}
use Rattle.unification.specs.Solutions.{variable_in}
use Rattle.unification.specs.Outcomes as outcome
use Rattle.unification.specs.Outcomes.{Outcome}
use Rattle.unification.specs.ScopedStates.{IsReady, IsScopedOutcome}
use Rattle.unification.proofs.OutcomeScopes.{outcome-scoped}
use Rattle.unification.proofs.UnderInstances.{closed-bodies, each-same, each-inst}
use Rattle.case_trees.specs.Pairs.{Pair, Pairs, Waits, Binds, Passes, Keeps, Builds, Clashes, nil, cons, term_in, terms_in, clashes, some_clashes, open_in, all_open}
use Rattle.case_trees.specs.Points.{Point, under_solution, moved_point, solution_for}
use Rattle.case_trees.specs.Problems.{member_of, type_of_variable, problem_of}
use Rattle.case_trees.specs.Looking.{Looked}
use Rattle.case_trees.specs.Kept.{KeptAll}
use Rattle.case_trees.specs.Standing as stand
use Rattle.case_trees.specs.Standing.{Runs, IsAbsurdProblem, HasFamily, IsNode}
use Rattle.case_trees.specs.Scoped.{IsScopedPoint}
use Rattle.case_trees.proofs.Arguments.{spine-applied}
use Rattle.case_trees.proofs.Workings.{ReducesTo}
use Rattle.case_trees.proofs.Looks.{TidiesTo, AllPairs}
use Rattle.case_trees.proofs.Shapes as shape
use Rattle.case_trees.proofs.Shapes.{HasShape, HaveShapes, AreDone, all-done-match}
use Rattle.case_trees.specs.Asking as asking
use Rattle.case_trees.specs.Asking.{OpenAt, SomeOpenAt}
use Rattle.case_trees.proofs.OwnPlaces.{IsAsking, HasNone, is-none, IsWorked, AreWorked}
use Rattle.case_trees.proofs.KeptConversion.{all-convert}
use Rattle.case_trees.proofs.Leading.{each-trans}
use Rattle.case_trees.proofs.ScopedPoints.{all-kept-scoped, moved-scoped}
use Rattle.case_trees.proofs.ScopedProblems.{IsMemberIn, member-in, type_of-scoped, problem-scoped}

-- ---- open pairs

pub pairs-append : (O : (Pat × Term) → Type 0) (first rest : List (Pat × Term)) → AllPairs O first → AllPairs O rest → AllPairs O (first ++ rest)
pairs-append O [] rest h k = k
pairs-append O (pair ∷ first) rest h k = (h.0, pairs-append O first rest h.1 k)

pub pairs-weaker : (O P : (Pat × Term) → Type 0) (pairs : List (Pat × Term)) → ((pair : Pat × Term) → O pair → P pair) → AllPairs O pairs → AllPairs P pairs
pairs-weaker O P [] h all = tt
pairs-weaker O P (pair ∷ pairs) h all = (h pair all.0, pairs-weaker O P pairs h all.1)

pub pairs-both : (O P : (Pat × Term) → Type 0) (pairs : List (Pat × Term)) → AllPairs O pairs → AllPairs P pairs → AllPairs (λ pair. O pair × P pair) pairs
pairs-both O P [] h k = tt
pairs-both O P (pair ∷ pairs) h k = ((h.0, k.0), pairs-both O P pairs h.1 k.1)

mutual
  open-scoped : (S : Signature) (n : ℕ) (pair : Pair) → IsScoped S n (term_in pair) → AllPairs (λ o. IsScoped S n o.1) (open_in pair)
  open-scoped S n (Waits pat t) h = (h, tt)
  open-scoped S n (Builds m number ps pairs) h =
      all-open-scoped S n pairs
      (all_right (IsScoped S n) ps (terms_in pairs)
      (transport (All (IsScoped S n)) (spine-applied (Con m number) (ps ++ terms_in pairs)) (spine-scoped S n (applied (Con m number) (ps ++ terms_in pairs)) h)))
  open-scoped S n (Binds t) h = tt
  open-scoped S n (Passes t) h = tt
  open-scoped S n (Keeps written t) h = tt
  open-scoped S n (Clashes pat t) h = tt

  pub all-open-scoped : (S : Signature) (n : ℕ) (pairs : Pairs) → All (IsScoped S n) (terms_in pairs) → AllPairs (λ o. IsScoped S n o.1) (all_open pairs)
  all-open-scoped S n nil h = tt
  all-open-scoped S n (cons pair pairs) h =
      pairs-append (λ o. IsScoped S n o.1) (open_in pair) (all_open pairs)
      (open-scoped S n pair (All-head (IsScoped S n) (term_in pair) (terms_in pairs) h))
      (all-open-scoped S n pairs (All-tail (IsScoped S n) (term_in pair) (terms_in pairs) h))

asks-open : (S : Signature) (pat : Pat) (t : Term) → IsAsking pat → built_of S t ≡ None → OpenAt S pat t pat t
asks-open S (pattern.Con n number pats) t asks e = asking.asks n number pats t e
asks-open S pattern.Absurd t asks e = asking.asks_any t e
asks-open S pattern.Bind t asks e = absurd asks
asks-open S pattern.Wild t asks e = absurd asks
asks-open S (pattern.Dot written) t asks e = absurd asks

mutual
  pair-open : (S : Signature) (pat : Pat) (pair : Pair) → HasShape S pat pair → IsWorked S pair → AllPairs (λ o. OpenAt S pat (term_in pair) o.0 o.1) (open_in pair)
  pair-open S _ _ (shape.waits pat t) worked = (asks-open S pat t worked.0 (is-none S t worked.1), tt)
  pair-open S _ _ (shape.binds t) worked = tt
  pair-open S _ _ (shape.passes t) worked = tt
  pair-open S _ _ (shape.keeps written t) worked = tt
  pair-open S _ _ (shape.builds n number pats b pairs e same args shapes) worked =
      pairs-weaker (λ o. SomeOpenAt S pats (terms_in pairs) o.0 o.1)
      (λ o. OpenAt S (pattern.Con n number pats) (term_in (Builds b.n b.number b.parameters pairs)) o.0 o.1) (all_open pairs)
      (λ o some. asking.inside n number pats (term_in (Builds b.n b.number b.parameters pairs)) b o.0 o.1 e same
      (transport (λ us. SomeOpenAt S pats us o.0 o.1) (sym args) some))
      (some-open S pats pairs shapes worked)
  pair-open S _ _ (shape.apart pat t far) worked = tt

  -- an open pair is at its place in the terms
  some-open : (S : Signature) (pats : Pats) (pairs : Pairs) → HaveShapes S pats pairs → AreWorked S pairs
      → AllPairs (λ o. SomeOpenAt S pats (terms_in pairs) o.0 o.1) (all_open pairs)
  some-open S _ _ shape.none worked = tt
  some-open S _ _ (shape.more pat pats pair pairs one others) worked =
      pairs-append (λ o. SomeOpenAt S (pattern.cons pat pats) (term_in pair ∷ terms_in pairs) o.0 o.1) (open_in pair) (all_open pairs)
      (pairs-weaker (λ o. OpenAt S pat (term_in pair) o.0 o.1) (λ o. SomeOpenAt S (pattern.cons pat pats) (term_in pair ∷ terms_in pairs) o.0 o.1) (open_in pair)
      (λ o is. asking.here pat pats (term_in pair) (terms_in pairs) o.0 o.1 is) (pair-open S pat pair one worked.0))
      (pairs-weaker (λ o. SomeOpenAt S pats (terms_in pairs) o.0 o.1) (λ o. SomeOpenAt S (pattern.cons pat pats) (term_in pair ∷ terms_in pairs) o.0 o.1) (all_open pairs)
      (λ o some. asking.there pat pats (term_in pair) (terms_in pairs) o.0 o.1 some) (some-open S pats pairs others worked.1))

mutual
  pair-asks : (S : Signature) (pair : Pair) → IsWorked S pair → AllPairs (λ o. IsAsking o.0 × HasNone S o.1) (open_in pair)
  pair-asks S (Waits pat t) worked = (worked, tt)
  pair-asks S (Binds t) worked = tt
  pair-asks S (Passes t) worked = tt
  pair-asks S (Keeps written t) worked = tt
  pair-asks S (Builds n number ps pairs) worked = open-asks S pairs worked
  pair-asks S (Clashes pat t) worked = tt

  -- an open pair asks for a constructor, and the head form of its term is none
  pub open-asks : (S : Signature) (pairs : Pairs) → AreWorked S pairs → AllPairs (λ o. IsAsking o.0 × HasNone S o.1) (all_open pairs)
  open-asks S nil worked = tt
  open-asks S (cons pair pairs) worked =
      pairs-append (λ o. IsAsking o.0 × HasNone S o.1) (open_in pair) (all_open pairs) (pair-asks S pair worked.0) (open-asks S pairs worked.1)

-- an open pair among pairs with these patterns and terms
pub record IsOpenIn (S : Signature) (n : ℕ) (pats : Pats) (terms : List Term) (pair : Pat × Term) : Type 0 where
  pub scoped : IsScoped S n pair.1
  pub place : SomeOpenAt S pats terms pair.0 pair.1
  pub asks : IsAsking pair.0
  pub none : HasNone S pair.1

pub all-open-in : (S : Signature) (n : ℕ) (pats : Pats) (pairs : Pairs) → HaveShapes S pats pairs → AreWorked S pairs → All (IsScoped S n) (terms_in pairs)
    → AllPairs (IsOpenIn S n pats (terms_in pairs)) (all_open pairs)
all-open-in S n pats pairs shapes worked scoped =
    pairs-weaker (λ o. IsScoped S n o.1 × (SomeOpenAt S pats (terms_in pairs) o.0 o.1 × (IsAsking o.0 × HasNone S o.1))) (IsOpenIn S n pats (terms_in pairs)) (all_open pairs)
    (λ o is. record { scoped = is.0; place = is.1.0; asks = is.1.1.0; none = is.1.1.1 })
    (pairs-both (λ o. IsScoped S n o.1) (λ o. SomeOpenAt S pats (terms_in pairs) o.0 o.1 × (IsAsking o.0 × HasNone S o.1)) (all_open pairs)
    (all-open-scoped S n pairs scoped)
    (pairs-both (λ o. SomeOpenAt S pats (terms_in pairs) o.0 o.1) (λ o. IsAsking o.0 × HasNone S o.1) (all_open pairs)
    (some-open S pats pairs shapes worked) (open-asks S pairs worked)))

-- ---- pairs without a clash are not apart

asking-apart : (S : Signature) (pat : Pat) (t : Term) → IsAsking pat → built_of S t ≡ None → is_apart S pat t ≡ false
asking-apart S (pattern.Con n number pats) t asks e = ap (is_apart_from n number pats (has_apart S pats)) e
asking-apart S pattern.Absurd t asks e = ap is_there e
asking-apart S pattern.Bind t asks e = absurd asks
asking-apart S pattern.Wild t asks e = absurd asks
asking-apart S (pattern.Dot written) t asks e = absurd asks

and-false : (a b : Bool) → b ≡ false → (a && b) ≡ false
and-false true b e = e
and-false false b e = refl

mutual
  pair-apart : (S : Signature) (pat : Pat) (pair : Pair) → HasShape S pat pair → IsWorked S pair → clashes pair ≡ false → is_apart S pat (term_in pair) ≡ false
  pair-apart S _ _ (shape.waits pat t) worked clean = asking-apart S pat t worked.0 (is-none S t worked.1)
  pair-apart S _ _ (shape.binds t) worked clean = refl
  pair-apart S _ _ (shape.passes t) worked clean = refl
  pair-apart S _ _ (shape.keeps written t) worked clean = refl
  pair-apart S _ _ (shape.builds n number pats b pairs e same args shapes) worked clean =
      ap (is_apart_from n number pats (has_apart S pats)) e
      ∙ (ap (λ test. cond test (is_as_long pats b.arguments && has_apart S pats b.arguments) true) same
      ∙ and-false (is_as_long pats b.arguments) (has_apart S pats b.arguments) (ap (has_apart S pats) args ∙ some-apart S pats pairs shapes worked clean))
  pair-apart S _ _ (shape.apart pat t far) worked clean = absurd (true≢false clean)

  some-apart : (S : Signature) (pats : Pats) (pairs : Pairs) → HaveShapes S pats pairs → AreWorked S pairs → some_clashes pairs ≡ false
      → has_apart S pats (terms_in pairs) ≡ false
  some-apart S _ _ shape.none worked clean = refl
  some-apart S _ _ (shape.more pat pats pair pairs one others) worked clean =
      let (first, rest) = or_parts (clashes pair) (some_clashes pairs) clean in
      ap₂ (λ a b. a || b) (pair-apart S pat pair one worked.0 first) (some-apart S pats pairs others worked.1 rest)

-- pairs that are worked and clash nowhere
pub not-apart : (S : Signature) (pats : Pats) (pairs : Pairs) → HaveShapes S pats pairs → AreWorked S pairs → some_clashes pairs ≡ false
    → are_apart S pats (terms_in pairs) ≡ false
not-apart S pats pairs shapes worked clean =
    and-false (is_as_long pats (terms_in pairs)) (has_apart S pats (terms_in pairs)) (some-apart S pats pairs shapes worked clean)

-- ---- points

-- the point is one that solved problems lead to, but for what its terms were compared with
pub record IsAt (S : Signature) (start p : Point) : Type 0 where
  pub plain : List Term
  pub node : IsNode S start (record p { terms = plain })
  pub converts : EachConverts S plain p.terms

-- a point of a walk is scoped, and solved problems lead to it
pub record IsStanding (S : Signature) (start p : Point) : Type 0 where
  pub scoped : IsScopedPoint S p
  pub at : IsAt S start p

pub standing-start : (S : Signature) (start : Point) → IsScopedPoint S start → IsStanding S start start
standing-start S start h = record { scoped = h; at = record { plain = start.terms; node = stand.root; converts = each-same S start.terms } }

pub standing-kept : (S : Signature) (start p : Point) (us : List Term) → IsReady S → IsStanding S start p → KeptAll S p.terms us
    → IsStanding S start (record p { terms = us })
standing-kept S start p us ready h all =
    record {
      scoped = record {
        context = h.scoped.context;
        goal = h.scoped.goal;
        substitution = h.scoped.substitution;
        terms = all-kept-scoped S (length p.context) ready.scoped p.terms us all h.scoped.terms;
      };
      at = record { plain = h.at.plain; node = h.at.node; converts = each-trans S h.at.plain p.terms us h.at.converts (all-convert S p.terms us all) };
    }

pub head-form-of : (S : Signature) (t w : Term) → ReducesTo S t w → IsHeadForm S true t w
head-form-of S t w to = transport (λ r. IfOk r (IsHeadForm S true t)) to.run (whnf-is_head_form S true to.units t)

-- how it is tidied
pub tidied-form : (S : Signature) (t u : Term) → TidiesTo S t u → IsHeadForm S false t u
tidied-form S t u to = transport (λ r. IfOk r (IsHeadForm S false t)) to.run (whnf-is_head_form S false to.units t)

pub tidied-scoped : (S : Signature) (n : ℕ) (t u : Term) → IsReady S → IsScoped S n t → TidiesTo S t u → IsScoped S n u
tidied-scoped S n t u ready h to = transport (λ r. IfOk r (IsScoped S n)) to.run (whnf-scoped S false to.units n t ready.scoped h)

pub no-variable : (u : Term) → variable_in u ≡ None → (x : ℕ) → u ≢ Var x
no-variable u e x same = absurd (grind (arith, sym (ap variable_in same) ∙ e))

-- the variable of an open pair, with the family of its type
pub record IsSplit (S : Signature) (p : Point) (x : ℕ) (found : Looked) : Type 0 where
  pub family : HasFamily S p.context x found.type found.member
  pub member : IsMemberIn S (length p.context) found.member

-- the variable of an open pair is one of the context, whose type is scoped
variable-there : (S : Signature) (p : Point) (t : Term) (x : ℕ) → IsReady S → IsScoped S (length p.context) t → TidiesTo S t (Var x) → x < length p.context
variable-there S p t x ready is tidy =
    let variable : IsScoped S (length p.context) (Var x) =
    transport (λ r. IfOk r (IsScoped S (length p.context))) tidy.run (whnf-scoped S false tidy.units (length p.context) t ready.scoped is) in
    let le : x + 1 ≤ length p.context = variable.variables in
    omega arith

pub type-there : (S : Signature) (p : Point) (t : Term) (x : ℕ) (type : Term) → IsReady S → IsScopedPoint S p → IsScoped S (length p.context) t
    → TidiesTo S t (Var x) → ReducesTo S (type_of_variable p.context x) type → IsScoped S (length p.context) type
type-there S p t x type ready h is tidy to =
    transport (λ r. IfOk r (IsScoped S (length p.context))) to.run
    (whnf-scoped S true to.units (length p.context) (type_of_variable p.context x) ready.scoped
    (type_of-scoped S p.context x h.context (variable-there S p t x ready is tidy)))

pub looked-split : (S : Signature) (p : Point) (pair : Pat × Term) (x : ℕ) (found : Looked) → IsReady S → IsScopedPoint S p → IsScoped S (length p.context) pair.1
    → TidiesTo S pair.1 (Var x) → ReducesTo S (type_of_variable p.context x) found.type → member_of S found.type ≡ Some found.member → IsSplit S p x found
looked-split S p pair x found ready h is tidy to e =
    record {
      family = record {
        variable = variable-there S p pair.1 x ready is tidy;
        reduced = head-form-of S (type_of_variable p.context x) found.type to;
        member = e;
      };
      member = member-in S (length p.context) found.type found.member (type-there S p pair.1 x found.type ready h is tidy to) e;
    }

-- the outcome of a constructor's problem is scoped
pub problem-outcome : (S : Signature) (p : Point) (x : ℕ) (found : Looked) (number : ℕ) (c : Constructor) (o : Outcome) → IsReady S → IsScopedPoint S p
    → IsSplit S p x found → slice_get found.member.family.constructors number ≡ Some c → Runs S (problem_of p.context x found.member number c) o
    → IsScopedOutcome S (length (problem_of p.context x found.member number c).context) o
problem-outcome S p x found number c o ready scoped split there runs =
    transport (λ r. IfOk r (IsScopedOutcome S (length (problem_of p.context x found.member number c).context))) runs.run
    (outcome-scoped S (problem_of p.context x found.member number c) runs.units ready
    (problem-scoped S p.context x found.member number c ready scoped.context split.family.variable split.member there))

pub standing-moved : (S : Signature) (start p : Point) (x : ℕ) (found : Looked) (number : ℕ) (c : Constructor) (steps : List Step) (context : Telescope)
    (solution : List Term) → IsReady S → IsStanding S start p → IsSplit S p x found → slice_get found.member.family.constructors number ≡ Some c
    → Runs S (problem_of p.context x found.member number c) (outcome.Solved steps context solution)
    → IsStanding S start (moved_point p context (solution_for p solution))
standing-moved S start p x found number c steps context solution ready h split there runs =
    let out = problem-outcome S p x found number c (outcome.Solved steps context solution) ready h.scoped split there runs in
    record {
      scoped = moved-scoped S p context solution h.scoped out.1 out.2;
      at = record {
        plain = map (under_solution (solution_for p solution)) h.at.plain;
        node = stand.behind (record p { terms = h.at.plain }) x found.type found.member number c steps context solution h.at.node
            split.family there runs;
        converts = each-inst S (closed-bodies S ready.scoped) _ h.at.plain p.terms h.at.converts;
      };
    }
