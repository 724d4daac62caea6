-- After a solved problem an open pair with its variable has the constructor, and scoped terms are scoped again.
use Rattle.std.proofs.Common.{◌≡◌, ℕ, Some, IfOk, List, [], ◌++◌, length, take, slice_get, sym, subst as transport, arith}
use Rattle.std.proofs.lemmas.List.Elements.{All-append, All-take, All-cons, All-nil}
use Rattle.std.specs.List.{All}
use Rattle.theory.specs.Terms.{Term, Var, Sort, Con}
use Rattle.theory.specs.Substitutions.{inst, fill}
use Rattle.theory.specs.Eliminators.{no_variable}
use Rattle.theory.specs.Telescopes.{Telescope}
use Rattle.theory.specs.Families.{Constructor}
use Rattle.theory.specs.Signatures.{Signature}
use Rattle.theory.specs.SignatureScopes.{IsScoped, IsScopedTelescope}
use Rattle.theory.proofs.ScopedTerms.{sort-scoped, applied-scoped}
use Rattle.core_terms.specs.CaseTrees.{Step}
use Rattle.unification.specs.Outcomes as outcome
use Rattle.unification.specs.ScopedStates.{IsReady}
use Rattle.unification.proofs.UnderInstances.{closed-bodies}
use Rattle.core_terms.specs.Patterns.{Pat}
use Rattle.case_trees.specs.HeadSteps.{Reaches, HasConstructor}
use Rattle.case_trees.specs.Pairs.{Pair, Pairs, Waits, Binds, Passes, Keeps, Builds, Clashes, nil, cons, term_in, terms_in}
use Rattle.case_trees.specs.Points.{Point, under_solution, moved_pairs}
use Rattle.case_trees.specs.Problems.{problem_of}
use Rattle.case_trees.specs.Looking.{Looked}
use Rattle.case_trees.specs.Standing.{Runs}
use Rattle.case_trees.specs.Scoped.{IsScopedPoint, IsScopedPair, AreScopedPairs}
use Rattle.case_trees.proofs.ConstructorForms.{constructor-reached}
use Rattle.case_trees.proofs.HeadChains.{chain-stays}
use Rattle.case_trees.proofs.ScopedPoints.{all-under-scoped}
use Rattle.case_trees.proofs.ScopedProblems.{problem-scoped}
use Rattle.case_trees.proofs.Shapes.{terms-moved}
use Rattle.case_trees.proofs.SolvedConstructors.{solved_is_built}
use Rattle.case_trees.proofs.TidiedSteps.{tidy-reaches}
use Rattle.case_trees.proofs.WalkLooks.{LookedAt}
use Rattle.case_trees.proofs.WalkStanding.{IsSplit, looked-split, problem-outcome}

-- a scoped context, with a goal and terms that are of no account
bare : Telescope → Point
bare context = record { context = context; goal = Sort 0; substitution = []; terms = [] }

bare-scoped : (S : Signature) (context : Telescope) → IsScopedTelescope S 0 context → IsScopedPoint S (bare context)
unfolding bare
bare-scoped S context h =
    record { context = h; goal = sort-scoped 0; substitution = All-nil (IsScoped S (length context)); terms = All-nil (IsScoped S (length context)) }

-- the context and the solution are scoped, and the term has the constructor
pub record IsPut (S : Signature) (context : Telescope) (t : Term) (n number : ℕ) (new : Telescope) (solution : List Term) : Type 0 where
  pub context_scoped : IsScopedTelescope S 0 new
  pub solution_scoped : All (IsScoped S (length new)) (take (length context) solution)
  pub has : HasConstructor S n number (under_solution (take (length context) solution) t)

pub solution-puts : (S : Signature) (O : (Pat × Term) → Type 0) (context : Telescope) (pair : Pat × Term) (x : ℕ) (found : Looked) (number : ℕ) (c : Constructor)
    (steps : List Step) (new : Telescope) (solution : List Term) → IsReady S → IsScopedTelescope S 0 context → IsScoped S (length context) pair.1
    → LookedAt S O context pair x found → slice_get found.member.family.constructors number ≡ Some c
    → Runs S (problem_of context x found.member number c) (outcome.Solved steps new solution)
    → IsPut S context pair.1 found.member.n number new solution
unfolding bare
solution-puts S O context pair x found number c steps new solution ready scoped here at there runs =
    let p = bare context in
    let p_scoped = bare-scoped S context scoped in
    let split : IsSplit S p x found = looked-split S p pair x found ready p_scoped here at.tidies at.reduces at.member in
    let out = problem-outcome S p x found number c (outcome.Solved steps new solution) ready p_scoped split there runs in
    let q : ℕ → Term = fill no_variable (take (length context) solution) in
    let put = solved_is_built S context x found.type found.member number c steps new solution ready
    (problem-scoped S context x found.member number c ready scoped split.family.variable split.member there) split.family there runs in
    let reaches : Reaches S pair.1 (Var x) = transport (λ r. IfOk r (Reaches S pair.1)) at.tidies.run (tidy-reaches S at.tidies.units pair.1) in
    record {
      context_scoped = out.1;
      solution_scoped = All-take (IsScoped S (length new)) (length context) solution out.2;
      has = constructor-reached S found.member.n number (inst q pair.1) (inst q (Var x)) (chain-stays S q (closed-bodies S ready.scoped) pair.1 (Var x) reaches) put;
    }

-- the terms of pairs after it
pub put-scoped : (S : Signature) (context : Telescope) (t : Term) (n number : ℕ) (new : Telescope) (solution : List Term) (pairs : Pairs)
    → IsPut S context t n number new solution → All (IsScoped S (length context)) (terms_in pairs)
    → All (IsScoped S (length new)) (terms_in (moved_pairs (take (length context) solution) pairs))
put-scoped S context t n number new solution pairs put scoped =
    transport (All (IsScoped S (length new))) (sym (terms-moved (fill no_variable (take (length context) solution)) pairs))
    (all-under-scoped S (length context) (length new) (take (length context) solution) (terms_in pairs) put.solution_scoped scoped)

-- ---- scoped pairs have scoped terms

mutual
  pair-scoped : (S : Signature) (n binds : ℕ) (pair : Pair) → IsScopedPair S n binds pair → IsScoped S n (term_in pair)
  pair-scoped S n binds (Waits pat t) h = h.1
  pair-scoped S n binds (Binds t) h = h
  pair-scoped S n binds (Passes t) h = h
  pair-scoped S n binds (Keeps written t) h = h.1
  pair-scoped S n binds (Builds m number ps pairs) h =
      applied-scoped S n (Con m number) (ps ++ terms_in pairs) (record { variables = omega arith; entries = h.0 })
      (All-append (IsScoped S n) ps (terms_in pairs) h.1 (pairs-scoped S n binds pairs h.2))
  pair-scoped S n binds (Clashes pat t) h = h.1

  pub pairs-scoped : (S : Signature) (n binds : ℕ) (pairs : Pairs) → AreScopedPairs S n binds pairs → All (IsScoped S n) (terms_in pairs)
  pairs-scoped S n binds nil h = All-nil (IsScoped S n)
  pairs-scoped S n binds (cons pair pairs) h =
      All-cons (IsScoped S n) (term_in pair) (terms_in pairs) (pair-scoped S n binds pair h.0) (pairs-scoped S n binds pairs h.1)
