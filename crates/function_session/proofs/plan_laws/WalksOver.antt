-- Walks of clauses over the signature without the function, and the helpers that are opened over them.
use Rattle.std.proofs.Common.{◌≡◌, ℕ, ◌+◌, ◌<◌, length, Ok, IfOk, sym, ap, subst as transport, arith}
use Rattle.std.proofs.lemmas.List.Elements.{All-weaker}
use Rattle.std.specs.List.{All}
use Rattle.theory.specs.Terms.{Term, free_of, top}
use Rattle.theory.specs.Telescopes.{variables}
use Rattle.theory.specs.Signatures.{Signature}
use Rattle.theory.specs.SignatureScopes.{IsScoped}
use Rattle.theory.specs.WellFormed.{provisional}
use Rattle.theory.proofs.ScopedTerms.{scoped-wider, telescope-wider}
use Rattle.core_terms.specs.CaseTrees.{Walk}
use Rattle.core_terms.specs.Clauses.{Clause, Is}
use Rattle.case_trees.specs.Laws.{IsGiven}
use Rattle.case_trees.specs.OwnWalks.{own_walk_of}
use Rattle.case_trees.specs.Points.{start_at, under_solution}
use Rattle.case_trees.specs.Scoped.{IsScopedPoint}
use Rattle.case_trees.specs.Stops.{Stopping}
use Rattle.case_trees.proofs.ScopedPoints.{under-scoped}
use Rattle.clause_reports.specs.elaboration.Walking.{Opened, Opening, helper_terms, opened}
use Rattle.function_checks.proofs.function_clauses.Fitting.{clause-for}
use Rattle.function_checks.proofs.function_clauses.HelperParts.{helper-columns, terms-scoped}
use Rattle.function_checks.proofs.function_clauses.WalkColumns.{walk-columns}
use Rattle.resolve.specs.Functions.{Function}
use Rattle.resolve.specs.Scoping.{IsClause, IsResolved}
use Rattle.unification.specs.ScopedStates.{IsReady}
use Rattle.unification.proofs.ScopedRecords.{variables-scoped}
use Rattle.function_session.specs.plan_laws.Conditions.{IsFunctionFor}
use Rattle.function_session.proofs.plan_laws.Answering.{if-ok}
use Rattle.function_session.proofs.plan_laws.OpenedScopes.{IsOpened, IsWalkIn, numbers}
use Rattle.function_session.proofs.plan_laws.SameReduction.{not-read}
use Rattle.function_session.proofs.plan_laws.SameWalks.{same-walks}
use Rattle.function_session.proofs.plan_laws.WalkScopes.{IsWalkOver, walk-over}

-- a part that is over the signature without the function
pub record IsPartOver (S : Signature) (part : Opened) : Type 0 where
  pub scoped : IsScopedPoint S (start_at part.tele part.goal part.terms)
  pub level : part.level < top

-- ---- walks

module _ (S : Signature) (f : Function) where
  walk-in : (w : Walk) → IsWalkOver S w → IsWalkIn S (provisional S f.name f.type) w
  walk-in w h = record {
    context = h.context;
    goal = h.goal;
    terms = h.terms;
    binds = All-weaker (IsScoped S (length w.ctx)) (IsScoped (provisional S f.name f.type) (length w.ctx))
        (λ t. scoped-wider (numbers S f.name f.type)) w.binds h.binds;
  }

  -- a part over the signature with the function
  part-with : (part : Opened) → IsReady (provisional S f.name f.type) → IsPartOver S part
      → IsGiven (provisional S f.name f.type) part.tele part.goal part.terms
  part-with part ready over =
      let T = provisional S f.name f.type in
      let n = length part.tele in
      let wider : (t : Term) → IsScoped S n t → IsScoped T n t = λ t. scoped-wider (numbers S f.name f.type) in
      record {
        ready = ready;
        scoped = record {
          context = telescope-wider (numbers S f.name f.type) 0 part.tele over.scoped.context;
          goal = wider part.goal over.scoped.goal;
          substitution = All-weaker (IsScoped S n) (IsScoped T n) wider (variables n) over.scoped.substitution;
          terms = All-weaker (IsScoped S n) (IsScoped T n) wider part.terms over.scoped.terms;
        };
      }

  pub bound-over : (w : Walk) (t : Term) {binds : ℕ} → IsWalkIn S (provisional S f.name f.type) w → IsResolved (provisional S f.name f.type) binds t
      → IsScoped (provisional S f.name f.type) (length w.ctx) (under_solution w.binds t)
  bound-over w t h resolved =
      under-scoped (provisional S f.name f.type) (free_of t) (length w.ctx) w.binds t h.binds
      (record { variables = omega arith; entries = resolved.scoped.entries })

  pub clause-walk : IsFunctionFor S f → (part : Opened) (c : Clause) (number left : ℕ) (w : Walk) → IsPartOver S part
      → IsClause (provisional S f.name f.type) (length part.terms) c
      → (own_walk_of (provisional S f.name f.type) part.tele part.goal part.terms c number left).0 ≡ Ok w
      → IsWalkIn S (provisional S f.name f.type) w × (length w.terms ≡ length part.terms)
  clause-walk is part (Is pats binds right) number left w over resolved e =
      let T = provisional S f.name f.type in
      let c = Is pats binds right in
      let run : Stopping Walk = own_walk_of T part.tele part.goal part.terms c number left in
      let same : own_walk_of S part.tele part.goal part.terms c number left ≡ run =
      same-walks S T part.tele part.goal part.terms c number left (not-read S f.name f.type) in (
        walk-in w
            (if-ok (IsWalkOver S) run.0 w e
            (transport (λ (r : Stopping Walk). IfOk r.0 (IsWalkOver S)) same
            (walk-over S part.tele part.goal part.terms pats binds right number left is.ready over.scoped))),
        walk-columns T part.tele part.goal part.terms c number left run.1 w (part-with part is.with_function over) (clause-for T part.terms c resolved)
            (ap (λ r. (r, run.1)) (sym e)),
      )

-- ---- helpers

pub opened-part : (S : Signature) (f : Function) (w : Walk) (o : Opening) → IsWalkIn S (provisional S f.name f.type) w → IsOpened S (length w.ctx) o
    → IsPartOver S (opened o w) × (length (opened o w).terms ≡ length w.terms + 1)
opened-part S f w o walk h =
    let n = length w.ctx in
    let a = o.abstraction in
    let same : n + 1 ≡ length a.telescope = sym h.over.types in (
      record {
        scoped = record {
          context = h.over.telescope;
          goal = transport (λ k. IsScoped S k a.goal) same h.over.goal;
          substitution = variables-scoped S (length a.telescope) (length a.telescope) (omega arith);
          terms =
              transport (λ k. All (IsScoped S k) (helper_terms a w.terms)) same (terms-scoped S a n w.terms h.over.variables walk.terms);
        };
        level = h.level;
      },
      helper-columns w o,
    )
