-- What the walks of a function's clauses give: for each clause its own walk and its right side, and for each `with` a helper.
use Rattle.std.proofs.Common.{◌≡◌, ℕ, zero, suc, ◌+◌, ◌≤◌, ◌<◌, Some, List, [], ◌∷◌, ◌++◌, length, map, reverse, slice_get, Result, Ok, Err, IfOk, refl, sym, ap, ap₂, ◌∙◌, subst as transport, arith}
use Rattle.std.proofs.lemmas.List.{length-map, map-append}
use Rattle.theory.specs.Terms.{Term, Sort, Const}
use Rattle.theory.specs.Telescopes.{applied}
use Rattle.theory.specs.Signatures.{Signature}
use Rattle.theory.specs.WellFormed.{provisional}
use Rattle.core_terms.proofs.Answers.{Answers, and_next-has}
use Rattle.core_terms.specs.Answers.{bounded}
use Rattle.core_terms.specs.CaseTrees.{Walk}
use Rattle.core_terms.specs.Clauses as clause
use Rattle.core_terms.specs.Clauses.{Clause, Clauses, Right, Is}
use Rattle.core_terms.specs.Patterns.{Pats}
use Rattle.case_trees.specs.OwnWalks.{own_walk_of}
use Rattle.case_trees.specs.Points.{under_solution}
use Rattle.case_trees.specs.Stops.{TreeStop}
use Rattle.tree_translation.specs.Naming.{part_named}
use Rattle.clause_reports.proofs.Keeping.{any}
use Rattle.clause_reports.specs.elaboration.Refusals.{OfSide, Owner, answers, granted, or_ends, or_halts, owner_of, walking}
use Rattle.clause_reports.specs.elaboration.Walking.{Given, Opened, Opening, Walked, helper_arguments, joined, open_over, opened, walk_clause, walk_clauses, walk_right}
use Rattle.function_checks.proofs.function_clauses.HelperParts.{helper-columns}
use Rattle.function_session.specs.function_lines.Opened.{session_at}
use Rattle.function_session.specs.Laws.{inner, inner_of, inner_right}
use Rattle.function_session.proofs.OwnEntry.{halts-is}
use Rattle.function_session.proofs.Planned.{after_dots-has}
use Rattle.kernel_check.specs.Checking.{check_of}
use Rattle.kernel_reduce.specs.Reduction.{nesting}
use Rattle.resolve.specs.Functions.{Function}
use Rattle.resolve.specs.Scoping.{AreClauses, IsClause}
use Rattle.tree_translation.proofs.Drafting.{bounded-ok}
use Rattle.case_trees.specs.Laws.{IsGiven}
use Rattle.function_session.proofs.plan_laws.GivenClauses.{AreAt, at-parts}
use Rattle.elim.proofs.written_functions.PartScopes.{IsFit, IsScopedOver, IsWalkable, helper-opens, walk-fits}

-- ---- answers

pub is-ok : {A E : Type 0} (r : Result A E) → IfOk r (λ a. r ≡ Ok a)
is-ok (Ok a) = refl
is-ok (Err e) = tt

pub ends-ok : {A : Type 0} (S : Signature) (name : List ℕ) (r : Result A TreeStop) → IfOk (or_ends S name r) (λ a. r ≡ Ok a)
ends-ok S name (Ok a) = refl
ends-ok S name (Err e) = tt

-- ---- lists of parts

abbrev pub clauses_of : List Walked → List Clauses
clauses_of helpers = map (λ (w : Walked). w.clauses) helpers

-- ---- what is given

-- The right side of a clause, after which helper `next` comes: for a scrutinee the call of that helper, which is opened over the walk and has
-- the clauses inside.
pub data IsSideOf (S : Signature) (f : Function) (all : List Walked) (w : Walk) (next : ℕ) : Clause → Term → Type 0 where
  term : (pats : Pats) (binds : ℕ) (t : Term) → IsSideOf S f all w next (Is pats binds (clause.Side t)) t
  scrutinee : (pats : Pats) (binds : ℕ) (t : Term) (inside : Clauses) (o : Opening) (h : Walked) → 0 < next → slice_get all next ≡ Some h
      → h.part ≡ opened o w → h.clauses ≡ inside
      → IsScopedOver (provisional S f.name f.type) w.ctx w.goal (under_solution w.binds t) o.abstraction
      → IsSideOf S f all w next (Is pats binds (clause.With t inside))
      (applied (Const (length S.entries + next)) (helper_arguments o.abstraction (under_solution w.binds t)))
  nothing : (pats : Pats) (binds : ℕ) → IsSideOf S f all w next (Is pats binds clause.Absurd) (Sort 0)

-- a clause of a part, with its own walk
pub record IsOneGiven (S : Signature) (f : Function) (all : List Walked) (part : Opened) (number next : ℕ) (c : Clause) (w : Walk) (side : Term) : Type 0 where
  pub units : ℕ
  pub walks : (own_walk_of (provisional S f.name f.type) part.tele part.goal part.terms c number units).0 ≡ Ok w
  pub given : IsGiven (provisional S f.name f.type) part.tele part.goal part.terms
  pub fit : IsFit (provisional S f.name f.type) part w
  pub resolved : IsClause (provisional S f.name f.type) (length part.terms) c
  pub is_side : IsSideOf S f all w next c side

-- the clauses of a part from a number on, where `next` is the number of the next helper
pub data AreGiven (S : Signature) (f : Function) (all : List Walked) (part : Opened)
    : (number next : ℕ) → Clauses → List Walk → List Term → Type 0 where
  none : (number next : ℕ) → AreGiven S f all part number next clause.nil [] []
  more : (number next : ℕ) (c : Clause) (clauses : Clauses) (w : Walk) (walks : List Walk) (side : Term) (sides : List Term)
      → IsOneGiven S f all part number next c w side → AreGiven S f all part (number + 1) (next + length (inner_of c)) clauses walks sides
      → AreGiven S f all part number next (clause.cons c clauses) (w ∷ walks) (side ∷ sides)

-- part k, walked
pub record IsPartGiven (S : Signature) (f : Function) (all : List Walked) (k : ℕ) (w : Walked) : Type 0 where
  pub wide : f.arity ≤ length w.part.terms
  pub walkable : IsWalkable (provisional S f.name f.type) w.part w.clauses
  pub given : AreGiven S f all w.part 0 (k + 1) w.clauses w.walks w.sides

-- the parts from number k on
abbrev pub ArePartsGiven : (S : Signature) (f : Function) (all : List Walked) → (k : ℕ) → List Walked → Type 0
ArePartsGiven S f all k [] = Unit {0}
ArePartsGiven S f all k (w ∷ parts) = IsPartGiven S f all k w × ArePartsGiven S f all (k + 1) parts

parts-both : (S : Signature) (f : Function) (all : List Walked) (k : ℕ) (first rest : List Walked) → ArePartsGiven S f all k first
    → ArePartsGiven S f all (k + length first) rest → ArePartsGiven S f all k (first ++ rest)
parts-both S f all k [] rest h given = transport (λ n. ArePartsGiven S f all n rest) (let e : k + 0 ≡ k = omega arith in e) given
parts-both S f all k (w ∷ first) rest h given = (
  h.0,
  parts-both S f all (k + 1) first rest h.1
      (transport (λ n. ArePartsGiven S f all n rest) (let e : k + suc (length first) ≡ k + 1 + length first = omega arith in e) given),
)

pub part-given : (S : Signature) (f : Function) (all : List Walked) (k : ℕ) (parts : List Walked) (i : ℕ) (w : Walked) → ArePartsGiven S f all k parts
    → slice_get parts i ≡ Some w → IsPartGiven S f all (k + i) w
part-given S f all k [] i w h at = absurd (cc)
part-given S f all k (v ∷ parts) zero w h at =
    transport (λ n. IsPartGiven S f all n w) (let e : k ≡ k + 0 = omega arith in e)
    (transport (IsPartGiven S f all k) (let same : v ≡ w = cc in same) h.0)
part-given S f all k (v ∷ parts) (suc i) w h at =
    transport (λ n. IsPartGiven S f all n w) (let e : k + 1 + i ≡ k + suc i = omega arith in e) (part-given S f all (k + 1) parts i w h.1 at)

-- the walk and the right side of one clause
record IsSingle (S : Signature) (f : Function) (all : List Walked) (part : Opened) (number next : ℕ) (c : Clause) (given : Given) : Type 0 where
  walk : Walk
  side : Term
  walks : given.walks ≡ walk ∷ []
  sides : given.sides ≡ side ∷ []
  one : IsOneGiven S f all part number next c walk side

-- what a clause gives, wherever its helpers are among all parts
record GivesOne (S : Signature) (f : Function) (part : Opened) (number next : ℕ) (c : Clause) (given : Given) : Type 0 where
  lists : clauses_of given.helpers ≡ inner_of c
  one : (all : List Walked) → AreAt all next given.helpers → IsSingle S f all part number next c given
  helpers : (all : List Walked) → AreAt all next given.helpers → ArePartsGiven S f all next given.helpers

pub record Gives (S : Signature) (f : Function) (part : Opened) (number next : ℕ) (clauses : Clauses) (given : Given) : Type 0 where
  pub lists : clauses_of given.helpers ≡ inner clauses
  pub each : (all : List Walked) → AreAt all next given.helpers → AreGiven S f all part number next clauses given.walks given.sides
  pub helpers : (all : List Walked) → AreAt all next given.helpers → ArePartsGiven S f all next given.helpers

one-more : (S : Signature) (f : Function) (all : List Walked) (part : Opened) (number next : ℕ) (c : Clause) (clauses : Clauses) (given others : Given)
    → IsSingle S f all part number next c given
    → AreGiven S f all part (number + 1) (next + length (inner_of c)) clauses others.walks others.sides
    → AreGiven S f all part number next (clause.cons c clauses) (given.walks ++ others.walks) (given.sides ++ others.sides)
one-more S f all part number next c clauses given others h rest =
    transport (λ ws. AreGiven S f all part number next (clause.cons c clauses) (ws ++ others.walks) (given.sides ++ others.sides)) (sym h.walks)
    (transport (λ ts. AreGiven S f all part number next (clause.cons c clauses) (h.walk ∷ others.walks) (ts ++ others.sides)) (sym h.sides)
    (more number next c clauses h.walk others.walks h.side others.sides h.one rest))

-- as many helpers as there are clauses inside
helpers-long : (helpers : List Walked) (lists : List Clauses) → clauses_of helpers ≡ lists → length helpers ≡ length lists
helpers-long helpers lists e = sym (length-map helpers (λ (w : Walked). w.clauses)) ∙ ap length e

both-given : (S : Signature) (f : Function) (part : Opened) (number next : ℕ) (c : Clause) (clauses : Clauses) (given others : Given)
    → GivesOne S f part number next c given → Gives S f part (number + 1) (next + length given.helpers) clauses others
    → Gives S f part number next (clause.cons c clauses) (joined given others)
both-given S f part number next c clauses given others h rest = record {
  lists = map-append (λ (w : Walked). w.clauses) given.helpers others.helpers ∙ ap₂ (λ xs ys. xs ++ ys) h.lists rest.lists;
  each = λ all at.
      let places = at-parts all next given.helpers others.helpers at in
      one-more S f all part number next c clauses given others (h.one all places.0)
      (transport (λ n. AreGiven S f all part (number + 1) (next + n) clauses others.walks others.sides)
      (helpers-long given.helpers (inner_of c) h.lists) (rest.each all places.1));
  helpers = λ all at.
      let places = at-parts all next given.helpers others.helpers at in
      parts-both S f all next given.helpers others.helpers (h.helpers all places.0) (rest.helpers all places.1);
}

-- ---- the walks

-- a clause without helpers
alone : (S : Signature) (f : Function) (part : Opened) (number next units : ℕ) (pats : Pats) (binds : ℕ) (right : Right) (w : Walk) (side : Term) (given : Given)
    → given.walks ≡ w ∷ [] → given.sides ≡ side ∷ [] → given.helpers ≡ [] → inner_right right ≡ []
    → (own_walk_of (provisional S f.name f.type) part.tele part.goal part.terms (Is pats binds right) number units).0 ≡ Ok w
    → IsGiven (provisional S f.name f.type) part.tele part.goal part.terms
    → IsFit (provisional S f.name f.type) part w → IsClause (provisional S f.name f.type) (length part.terms) (Is pats binds right)
    → ((all : List Walked) → IsSideOf S f all w next (Is pats binds right) side) → GivesOne S f part number next (Is pats binds right) given
alone S f part number next units pats binds right w side given ws ts empty none_inside walked part_given fit resolved is = record {
  lists = ap clauses_of empty ∙ sym none_inside;
  one = λ all at. record {
    walk = w;
    side = side;
    walks = ws;
    sides = ts;
    one = record { units = units; walks = walked; given = part_given; fit = fit; resolved = resolved; is_side = is all };
  };
  helpers = λ all at. transport (ArePartsGiven S f all next) (sym empty) tt;
}

module _ (S : Signature) (f : Function) where
  mutual
    clause-gives : (k : ℕ) (part : Opened) (number next : ℕ) (c : Clause) (left : ℕ) → 0 < next → f.arity ≤ length part.terms → IsGiven (provisional S f.name f.type) part.tele part.goal part.terms
        → IsClause (provisional S f.name f.type) (length part.terms) c
        → Answers (GivesOne S f part number next c) (walk_clause (session_at S f) k part number next c left)
    clause-gives k part number next (Is pats binds right) left low wide given resolved =
        let T = provisional S f.name f.type in
        let P = GivesOne S f part number next (Is pats binds right) in
        let owner = owner_of (part_named f.name k) number in
        let own_walk = own_walk_of T part.tele part.goal part.terms (Is pats binds right) number left in
        and_next-has (λ w. own_walk.0 ≡ Ok w) P (walking T (part_named f.name k) own_walk) _ (ends-ok T (part_named f.name k) own_walk.0) (λ w rest is.
        after_dots-has P T owner w.ctx w.dots (walk_right (session_at S f) k number next owner w right) rest (λ more.
        right-gives k part number next owner w pats binds right left more low wide given is resolved
        (walk-fits T part number binds left pats right w given resolved is)))

    right-gives : (k : ℕ) (part : Opened) (number next : ℕ) (owner : Owner) (w : Walk) (pats : Pats) (binds : ℕ) (right : Right) (units left : ℕ)
        → 0 < next → f.arity ≤ length part.terms → IsGiven (provisional S f.name f.type) part.tele part.goal part.terms
        → (own_walk_of (provisional S f.name f.type) part.tele part.goal part.terms (Is pats binds right) number units).0 ≡ Ok w
        → IsClause (provisional S f.name f.type) (length part.terms) (Is pats binds right) → IsFit (provisional S f.name f.type) part w
        → Answers (GivesOne S f part number next (Is pats binds right)) (walk_right (session_at S f) k number next owner w right left)
    right-gives k part number next owner w pats binds (clause.Side side) units left low wide given walked resolved fit =
        let T = provisional S f.name f.type in
        let P = GivesOne S f part number next (Is pats binds (clause.Side side)) in
        let made = bounded (under_solution w.binds side) in
        and_next-has (λ u. Unit {0}) P (answers (or_halts made) left) _ (any (or_halts made)) (λ body rest u.
        let checked = granted T (OfSide owner) (check_of T nesting (reverse w.ctx) body w.goal rest) in
        and_next-has (λ u. Unit {0}) P checked _ (any checked.0) (λ type end v.
        alone S f part number next units pats binds (clause.Side side) w side _ refl refl refl refl walked given fit resolved (λ all. term pats binds side)))
    right-gives k part number next owner w pats binds (clause.With written inside) units left low wide given walked resolved fit =
        let T = provisional S f.name f.type in
        let s = session_at S f in
        let c = Is pats binds (clause.With written inside) in
        let P = GivesOne S f part number next c in
        let made = bounded (under_solution w.binds written) in
        and_next-has (λ t. made ≡ Ok t) P (answers (or_halts made) left) _ (halts-is made) (λ t rest t_is.
        let same : under_solution w.binds written ≡ t = sym (bounded-ok (under_solution w.binds written) t t_is) in
        let opening = open_over s owner w t rest in
        and_next-has (λ o. opening.0 ≡ Ok o) P opening _ (is-ok opening.0) (λ o more o_is.
        let opened_is = helper-opens s binds rest part inside pats written owner w o given.ready resolved fit
        (transport (λ u. (open_over s owner w u rest).0 ≡ Ok o) (sym same) o_is) in
        let wider : f.arity ≤ length (opened o w).terms = omega (arith, wide, helper-columns w o, fit.columns) in
        let inner_walks = walk_clauses s next (opened o w) 0 (next + 1) inside more in
        and_next-has (Gives S f (opened o w) 0 (next + 1) inside) P inner_walks _
        (clauses-gives next (opened o w) 0 (next + 1) inside more (omega arith) wider opened_is.walkable.given opened_is.walkable.fitting) (λ others end h.
        record {
          lists = ap (λ lists. inside ∷ lists) h.lists;
          one = λ all at. record {
            walk = w;
            side = applied (Const (length S.entries + next)) (helper_arguments o.abstraction t);
            walks = refl;
            sides = refl;
            one = record {
              units = units;
              walks = walked;
              given = given;
              fit = fit;
              resolved = resolved;
              is_side =
                  transport (λ u. IsSideOf S f all w next c (applied (Const (length S.entries + next)) (helper_arguments o.abstraction u))) same
                  (scrutinee pats binds written inside o _ low at.0 refl refl opened_is.abstraction);
            };
          };
          helpers = λ all at. (record { wide = wider; walkable = opened_is.walkable; given = h.each all at.1 }, h.helpers all at.1);
        })))
    right-gives k part number next owner w pats binds clause.Absurd units left low wide given walked resolved fit =
        alone S f part number next units pats binds clause.Absurd w (Sort 0) _ refl refl refl refl walked given fit resolved (λ all. nothing pats binds)

    pub clauses-gives : (k : ℕ) (part : Opened) (number next : ℕ) (clauses : Clauses) (left : ℕ) → 0 < next → f.arity ≤ length part.terms
        → IsGiven (provisional S f.name f.type) part.tele part.goal part.terms → AreClauses (provisional S f.name f.type) (length part.terms) clauses
        → Answers (Gives S f part number next clauses) (walk_clauses (session_at S f) k part number next clauses left)
    clauses-gives k part number next clause.nil left low wide given resolved =
        record { lists = refl; each = λ all at. none number next; helpers = λ all at. tt }
    clauses-gives k part number next (clause.cons c clauses) left low wide given resolved =
        let s = session_at S f in
        let P = Gives S f part number next (clause.cons c clauses) in
        and_next-has (GivesOne S f part number next c) P (walk_clause s k part number next c left) _
        (clause-gives k part number next c left low wide given resolved.0) (λ first rest h.
        let behind = next + length first.helpers in
        and_next-has (Gives S f part (number + 1) behind clauses) P (walk_clauses s k part (number + 1) behind clauses rest) _
        (clauses-gives k part (number + 1) behind clauses rest (omega (arith, low)) wide given resolved.1) (λ others end i.
        both-given S f part number next c clauses first others h i))
