-- A clause of a part of a plan has its patterns, its own walk and its side in the plan.
use Rattle.std.proofs.Common.{◌≡◌, ℕ, zero, suc, ◌+◌, ◌<◌, Some, Ok, List, [], ◌∷◌, length, slice_get, get_or, refl, sym, ap, ◌∙◌, subst as transport, arith}
use Rattle.std.proofs.lemmas.Option.{none-some, slice_get_within, slice_get-get_or}
use Rattle.theory.specs.Terms.{Term}
use Rattle.theory.specs.Telescopes.{Telescope}
use Rattle.theory.specs.Signatures.{Signature}
use Rattle.theory.proofs.Lists.{some_is}
use Rattle.theory.proofs.ScopedTypes.{length-variables}
use Rattle.core_terms.specs.CaseTrees.{Walk}
use Rattle.core_terms.specs.Clauses as clause
use Rattle.core_terms.specs.Clauses.{Clause, Right, Is}
use Rattle.core_terms.specs.Patterns.{Pats, nil}
use Rattle.tele_eq.proofs.Positions.{length-each_position}
use Rattle.tree_translation.specs.structural_rec.Uses.{Use}
use Rattle.case_trees.proofs.pattern_vectors.Opens.{as-long-counted}
use Rattle.case_trees.specs.OwnWalks.{own_walk_of}
use Rattle.case_trees.specs.Scoped as scope
use Rattle.case_trees.specs.Scoped.{IsClauseFor, AreClausesFor}
use Rattle.tree_translation.specs.Conditions.{with_function, IsSide, IsClauseOf, IsPartOf, IsPlanned}
use Rattle.tree_translation.specs.Entries.{ordered_variables}
use Rattle.tree_translation.specs.Plans.{Plan, Part, no_part, own_part}
use Rattle.tree_translation.specs.Recursion.{recursion_of, order_of}
use Rattle.clause_reports.specs.Equations.{part_at}
use Rattle.entry_laws.proofs.order_scopes.OrderLengths.{order-long}

pub record IsClauseThere (before : Signature) (plan : Plan) (at : ℕ) (part : Part) (number : ℕ) (w : Walk) : Type 0 where
  pub pats : Pats
  pub binds : ℕ
  pub right : Right
  pub units : ℕ
  pub side : Term
  pub pats_there : slice_get part.pats number ≡ Some pats
  pub side_there : slice_get part.sides number ≡ Some side
  pub fits : IsClauseFor (with_function before plan) part.terms pats binds
  pub walks : (own_walk_of (with_function before plan) part.tele part.goal part.terms (Is pats binds right) number units).0 ≡ Ok w
  pub is_side : IsSide before plan at w (Is pats binds right) side

fits-at : (W : Signature) (terms : List Term) (cs : List Clause) (n : ℕ) (c : Clause) → AreClausesFor W terms (clause.clauses cs) → slice_get cs n ≡ Some c
    → scope.IsClauseOf W terms c
fits-at W terms [] n c h at = absurd (none-some c at)
fits-at W terms (d ∷ cs) zero c h at = transport (scope.IsClauseOf W terms) (some_is at) h.0
fits-at W terms (d ∷ cs) (suc n) c h at = fits-at W terms cs n c h.1 at

-- with other terms, as many
as-many : (W : Signature) (terms others : List Term) (pats : Pats) (binds : ℕ) → length others ≡ length terms → IsClauseFor W terms pats binds
    → IsClauseFor W others pats binds
as-many W terms others pats binds same h =
    record { long = as-long-counted pats others terms same ∙ h.long; whole = h.whole; count = h.count; scoped = h.scoped }

there : (before : Signature) (plan : Plan) (uses : List Use) (at : ℕ) (part : Part) (terms : List Term) → length part.terms ≡ length terms
    → (number : ℕ) (w : Walk) → slice_get part.walks number ≡ Some w → (c : Clause) → scope.IsClauseOf (with_function before plan) terms c
    → IsClauseOf before plan uses at part number c → IsClauseThere before plan at part number w
there before plan uses at part terms same number w is (Is pats binds right) fit k =
    let here : k.walk ≡ w = some_is (sym k.walk_there ∙ is) in
    record {
      pats = pats;
      binds = binds;
      right = right;
      units = k.units;
      side = k.side;
      pats_there = k.pats_there;
      side_there = k.side_there;
      fits = as-many (with_function before plan) terms part.terms pats binds same fit;
      walks = k.walks ∙ ap Ok here;
      is_side = transport (λ v. IsSide before plan at v (Is pats binds right) k.side) here k.is_side;
    }

clause-of : (before : Signature) (plan : Plan) (uses : List Use) (at : ℕ) (part : Part) (context : Telescope) (goal : Term) (terms : List Term)
    → IsPartOf before plan uses at part context goal terms → length part.terms ≡ length terms → (number : ℕ) (w : Walk) → slice_get part.walks number ≡ Some w
    → IsClauseThere before plan at part number w
clause-of before plan uses at part context goal terms h same number w is =
    let low : number < length part.walks = slice_get_within part.walks number w is in
    let some : Clause = get_or h.clauses number (Is nil 0 clause.Absurd) in
    let found : slice_get h.clauses number ≡ Some some = slice_get-get_or h.clauses number (Is nil 0 clause.Absurd) (omega (arith, low, h.count.1)) in
    there before plan uses at part terms same number w is some (fits-at (with_function before plan) terms h.clauses number some h.fitting found)
    (h.each number some found)

own-long : (before : Signature) (plan : Plan) → IsPlanned before plan
    → length (own_part plan).terms ≡ length (ordered_variables (order_of (length (own_part plan).tele) (recursion_of before plan)) (length (own_part plan).tele))
own-long before plan h =
    ap length h.columns
    ∙ (length-variables plan.arity
    ∙ (h.arity
    ∙ (sym (order-long before plan (recursion_of before plan) refl)
    ∙ sym (length-each_position _ 0 (length (order_of (length (own_part plan).tele) (recursion_of before plan)))))))

-- a part after the first
abbrev pub IsPartThere : (before : Signature) (plan : Plan) (uses : List Use) (k : ℕ) → Part → Type 0
IsPartThere before plan uses k part = IsPartOf before plan uses k part part.tele part.goal part.terms

pub helper-there : (before : Signature) (plan : Plan) (h : IsPlanned before plan) (k : ℕ) → suc k < length plan.parts
    → IsPartThere before plan h.uses (suc k) (part_at plan (suc k))
helper-there before plan h k low =
    let more : k + 1 ≡ suc k = omega arith in
    transport (λ j. IsPartThere before plan h.uses j (part_at plan (suc k))) more
    (h.helpers k (part_at plan (suc k)) (ap (slice_get plan.parts) more ∙ slice_get-get_or plan.parts (suc k) no_part low))

-- each clause of a part
pub clause-there : (before : Signature) (plan : Plan) → IsPlanned before plan → (k : ℕ) → k < length plan.parts → (number : ℕ) (w : Walk)
    → slice_get (part_at plan k).walks number ≡ Some w → IsClauseThere before plan k (part_at plan k) number w
clause-there before plan h zero low number w is =
    clause-of before plan h.uses 0 (own_part plan) _ _ _ h.own (own-long before plan h) number w is
clause-there before plan h (suc k) low number w is =
    clause-of before plan h.uses (suc k) (part_at plan (suc k)) _ _ _ (helper-there before plan h k low) refl number w is
