-- A walk from a scoped point ends in a scoped context with a scoped goal, terms and bindings, whatever is written in dots.
use Rattle.std.proofs.Common.{ℕ, List, length, IfOk, sym, subst as transport}
use Rattle.std.proofs.lemmas.List.Elements.{All-take}
use Rattle.std.specs.List.{All}
use Rattle.theory.specs.Terms.{Term}
use Rattle.theory.specs.Substitutions.{fill}
use Rattle.theory.specs.Telescopes.{Telescope}
use Rattle.theory.specs.Eliminators.{no_variable}
use Rattle.theory.specs.Signatures.{Signature}
use Rattle.theory.specs.SignatureScopes.{IsScoped, IsScopedTelescope}
use Rattle.core_terms.specs.CaseTrees.{Walk}
use Rattle.core_terms.specs.Clauses.{Right, Is}
use Rattle.core_terms.specs.Patterns.{Pats}
use Rattle.unification.specs.Outcomes as outcome
use Rattle.unification.specs.ScopedStates.{IsReady}
use Rattle.case_trees.specs.OwnWalks.{own_walk_of, walk_at}
use Rattle.case_trees.specs.Pairs.{Pairs, all_left, terms_in, waiting}
use Rattle.case_trees.specs.Points.{Point, bounded_point, solution_for, start_at}
use Rattle.case_trees.specs.Scoped.{IsScopedPoint}
use Rattle.case_trees.specs.Stops.{TreeStop, answers, or_halts}
use Rattle.case_trees.proofs.Answered.{and_next-holds, answer-of}
use Rattle.case_trees.proofs.ScopedPoints.{all-under-scoped, moved-scoped}
use Rattle.case_trees.proofs.ScopedWalks.{all-bound-scoped}
use Rattle.case_trees.proofs.ScopedWorking.{all-become-scoped, waiting-scoped}
use Rattle.case_trees.proofs.Shapes.{terms-moved}
use Rattle.case_trees.proofs.WalkLooks.{Outcomes, look-holds}
use Rattle.case_trees.proofs.WalkStanding.{all-open-scoped, looked-split, problem-outcome}
use Rattle.case_trees.proofs.WalkTurns.{Claims, Turns, keeping-holds, walk-holds}
use Rattle.function_session.proofs.plan_laws.KeptScopes.{kept-point}

-- a point with the pairs of a clause
pub record IsWalkingOver (S : Signature) (p : Point) (pairs : Pairs) : Type 0 where
  pub scoped : IsScopedPoint S p
  pub terms : All (IsScoped S (length p.context)) (terms_in pairs)

-- a walk but for its dots
pub record IsWalkOver (S : Signature) (w : Walk) : Type 0 where
  pub context : IsScopedTelescope S 0 w.ctx
  pub goal : IsScoped S (length w.ctx) w.goal
  pub substitution : All (IsScoped S (length w.ctx)) w.subst
  pub terms : All (IsScoped S (length w.ctx)) w.terms
  pub binds : All (IsScoped S (length w.ctx)) w.binds

abbrev Any : TreeStop → Type 0
Any e = Unit {0}

abbrev claims : Signature → Claims
claims S = record {
  Before = IsWalkingOver S;
  Then = IsWalkingOver S;
  Good = IsWalkOver S;
  Cause = Any;
  Open = λ p o. IsScoped S (length p.context) o.1;
}

walk-over_at : (S : Signature) (p : Point) (pairs : Pairs) → IsWalkingOver S p pairs → IsWalkOver S (walk_at p pairs)
walk-over_at S p pairs h = record {
  context = h.scoped.context;
  goal = h.scoped.goal;
  substitution = h.scoped.substitution;
  terms = h.scoped.terms;
  binds = all-bound-scoped S (length p.context) pairs h.terms;
}

outcomes : (S : Signature) (clause : ℕ) → IsReady S → Outcomes S clause (claims S)
outcomes S clause ready = record {
  halts = λ e. tt;
  wrong = λ p pairs pair x type h o tidy to none. tt;
  no_number = λ p pairs pair x found n number pats h at is none. tt;
  solved = λ p pairs pair x found n number pats c steps context solution h at is there runs.
      let split = looked-split S p pair x found ready h.scoped at.is_open at.tidies at.reduces at.member in
      let out = problem-outcome S p x found number c (outcome.Solved steps context solution) ready h.scoped split there runs in
      record {
        scoped = moved-scoped S p context solution h.scoped out.1 out.2;
        terms =
            transport (All (IsScoped S (length context))) (sym (terms-moved (fill no_variable (solution_for p solution)) pairs))
            (all-under-scoped S (length p.context) (length context) (solution_for p solution) (terms_in pairs)
            (All-take (IsScoped S (length context)) (length p.context) solution out.2) h.terms);
      };
  impossible = λ p pairs pair x found n number pats c steps context u v h at is there runs. tt;
  stuck = λ p pairs pair x found number c steps context u v why h at tried there runs. tt;
  not_absurd = λ p pairs pair x found number c steps context solution h at other there runs. tt;
  ends = λ p pairs pair x found h at other all. walk-over_at S p pairs h;
}

turns : (S : Signature) (clause : ℕ) → IsReady S → Turns S clause (claims S)
turns S clause ready = record {
  halts = λ e. tt;
  works = λ p pairs new h all clean.
      let terms = all-become-scoped S (length p.context) ready.scoped pairs new all h.terms in
      record { scoped = kept-point S p new h.scoped terms; terms = terms };
  drops = λ p pairs new clash h all e. tt;
  opens = λ p pairs h. all-open-scoped S (length p.context) pairs h.terms;
  ends = λ p pairs h e. walk-over_at S p pairs h;
  looks = look-holds S clause (claims S) (outcomes S clause ready);
  forced = λ p pairs h pair u o to e. tt;
}

pub walk-over : (S : Signature) (context : Telescope) (goal : Term) (terms : List Term) (pats : Pats) (binds : ℕ) (right : Right) (number left : ℕ)
    → IsReady S → IsScopedPoint S (start_at context goal terms)
    → IfOk (own_walk_of S context goal terms (Is pats binds right) number left).0 (IsWalkOver S)
walk-over S context goal terms pats binds right number left ready scoped =
    let start = start_at context goal terms in
    let pairs = waiting pats terms in
    answer-of (IsWalkOver S) (IsWalkOver S) Any (own_walk_of S context goal terms (Is pats binds right) number left).0 (λ w h. h)
    (and_next-holds (λ (p : Point). IsWalkingOver S p pairs) (IsWalkOver S) Any (answers (or_halts (bounded_point start)) left) _
    (keeping-holds S (λ (p : Point). IsWalkingOver S p pairs) Any start (λ e. tt)
    (record { scoped = scoped; terms = waiting-scoped S (length context) pats terms scoped.terms }))
    (λ p rest h. walk-holds S number (claims S) (turns S number ready) (all_left pairs) p pairs rest h))
