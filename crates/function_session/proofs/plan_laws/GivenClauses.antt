-- What the walks of some clauses give: for each clause its walk, its right side and what it says of the function, and the helpers.
use Rattle.std.proofs.Common.{◌≡◌, ℕ, suc, ◌+◌, ◌<◌, Some, List, [], ◌∷◌, ◌++◌, length, reverse, slice_get, Ok, IfOk, refl, sym, ap, ◌∙◌, subst as transport, arith}
use Rattle.std.specs.List.{Any}
use Rattle.theory.specs.Terms.{Term, Sort, Const}
use Rattle.theory.specs.Telescopes.{applied}
use Rattle.theory.specs.Signatures.{Signature}
use Rattle.theory.specs.SignatureScopes.{IsScoped}
use Rattle.theory.specs.WellFormed.{provisional}
use Rattle.core_terms.specs.Answers.{bounded}
use Rattle.core_terms.specs.CaseTrees.{Walk}
use Rattle.core_terms.specs.Clauses as clause
use Rattle.core_terms.specs.Clauses.{Clause, Clauses, Right, Is}
use Rattle.core_terms.specs.Patterns as pattern
use Rattle.case_trees.specs.OwnWalks.{own_walk_of}
use Rattle.case_trees.specs.Points.{under_solution}
use Rattle.tree_translation.specs.Naming.{part_named}
use Rattle.clause_reports.specs.elaboration.Refusals.{OfSide, Owner, answers, granted, or_halts, owner_of, walking}
use Rattle.clause_reports.specs.elaboration.Walking.{Given, Opened, Opening, Walked, helper_arguments, joined, open_over, opened, use_of, walk_clause, walk_clauses, walk_right}
use Rattle.kernel_check.specs.Checking.{check_of}
use Rattle.kernel_reduce.specs.Reduction.{nesting}
use Rattle.resolve.specs.Functions.{Function}
use Rattle.resolve.specs.Scoping.{AreClauses, IsClause}
use Rattle.tree_translation.specs.structural_rec.Uses.{Use}
use Rattle.tree_translation.proofs.Drafting.{bounded-ok}
use Rattle.function_session.specs.plan_laws.Conditions.{IsFunctionFor}
use Rattle.function_session.proofs.plan_laws.Answering.{dots-have, ends-ok, halts-ok, if-ok, next-has}
use Rattle.function_session.proofs.plan_laws.OpenedScopes.{IsOpened, IsWalkIn, open-has, session}
use Rattle.function_session.proofs.plan_laws.WalksOver.{clause-walk, opened-part, IsPartOver, bound-over}

-- ---- what is there

abbrev pub IsAmong : List Use → Use → Type 0
IsAmong uses u = Any (λ v. v ≡ u) uses

abbrev pub AreUsed : (all : List Use) → List Use → Type 0
AreUsed all [] = Unit {0}
AreUsed all (u ∷ uses) = IsAmong all u × AreUsed all uses

-- the parts have these numbers among all
abbrev pub AreAt : (all : List Walked) → (n : ℕ) → List Walked → Type 0
AreAt all n [] = Unit {0}
AreAt all n (w ∷ helpers) = (slice_get all n ≡ Some w) × AreAt all (n + 1) helpers

pub used-parts : (all first rest : List Use) → AreUsed all (first ++ rest) → AreUsed all first × AreUsed all rest
used-parts all [] rest h = (tt, h)
used-parts all (u ∷ first) rest h = let parts = used-parts all first rest h.1 in ((h.0, parts.0), parts.1)

pub at-parts : (all : List Walked) (n : ℕ) (first rest : List Walked) → AreAt all n (first ++ rest) → AreAt all n first × AreAt all (n + length first) rest
at-parts all n [] rest h = (tt, transport (λ k. AreAt all k rest) (let e : n ≡ n + 0 = omega arith in e) h)
at-parts all n (w ∷ first) rest h =
    let parts = at-parts all (n + 1) first rest h.1 in
    ((h.0, parts.0), transport (λ k. AreAt all k rest) (let e : n + 1 + length first ≡ n + suc (length first) = omega arith in e) parts.1)

-- ---- what is given

module _ (S : Signature) (name : List ℕ) (type : Term) where
  -- The right side of a clause of part k, with its use of the function. A helper comes after the part.
  pub data IsRightGiven (all : List Walked) (uses : List Use) (k number : ℕ) (w : Walk) : Clause → Term → Type 0 where
    term : (pats : pattern.Pats) (binds : ℕ) (side : Term) → IsAmong uses (use_of k number w (under_solution w.binds side))
        → IsRightGiven all uses k number w (Is pats binds (clause.Side side)) side
    scrutinee : (pats : pattern.Pats) (binds : ℕ) (t : Term) (inner : Clauses) (helper : ℕ) (o : Opening) (h : Walked) → slice_get all helper ≡ Some h
        → k < helper → h.part ≡ opened o w → IsOpened S (length w.ctx) o
        → IsScoped (provisional S name type) (length w.ctx) (under_solution w.binds t)
        → IsAmong uses (use_of k number w (under_solution w.binds t))
        → IsRightGiven all uses k number w (Is pats binds (clause.With t inner))
        (applied (Const (length S.entries + helper)) (helper_arguments o.abstraction (under_solution w.binds t)))
    absurd_side : (pats : pattern.Pats) (binds : ℕ) → IsRightGiven all uses k number w (Is pats binds clause.Absurd) (Sort 0)

  -- a clause of part k with its walk
  pub record IsOneGiven (all : List Walked) (uses : List Use) (k : ℕ) (part : Opened) (number : ℕ) (c : Clause) (w : Walk) (side : Term) : Type 0 where
    pub units : ℕ
    pub walks : (own_walk_of (provisional S name type) part.tele part.goal part.terms c number units).0 ≡ Ok w
    pub right : IsRightGiven all uses k number w c side

  -- the clauses of part k from a number on
  pub data AreGiven (all : List Walked) (uses : List Use) (k : ℕ) (part : Opened) : (number : ℕ) → Clauses → List Walk → List Term → Type 0 where
    none : (number : ℕ) → AreGiven all uses k part number clause.nil [] []
    more : (number : ℕ) (c : Clause) (clauses : Clauses) (w : Walk) (walks : List Walk) (side : Term) (sides : List Term)
        → IsOneGiven all uses k part number c w side → AreGiven all uses k part (number + 1) clauses walks sides
        → AreGiven all uses k part number (clause.cons c clauses) (w ∷ walks) (side ∷ sides)

  -- helper n
  pub record IsHelperGiven (all : List Walked) (uses : List Use) (n : ℕ) (w : Walked) : Type 0 where
    pub part : IsPartOver S w.part
    pub clauses : AreClauses (provisional S name type) (length w.part.terms) w.clauses
    pub given : AreGiven all uses n w.part 0 w.clauses w.walks w.sides

  abbrev pub AreHelpersGiven : (all : List Walked) → (uses : List Use) → (n : ℕ) → List Walked → Type 0
  AreHelpersGiven all uses n [] = Unit {0}
  AreHelpersGiven all uses n (w ∷ helpers) = IsHelperGiven all uses n w × AreHelpersGiven all uses (n + 1) helpers

  helpers-both : (all : List Walked) (uses : List Use) (n : ℕ) (first rest : List Walked) → AreHelpersGiven all uses n first
      → AreHelpersGiven all uses (n + length first) rest → AreHelpersGiven all uses n (first ++ rest)
  helpers-both all uses n [] rest h k = transport (λ m. AreHelpersGiven all uses m rest) (let e : n + 0 ≡ n = omega arith in e) k
  helpers-both all uses n (w ∷ first) rest h k = (
    h.0,
    helpers-both all uses (n + 1) first rest h.1
        (transport (λ m. AreHelpersGiven all uses m rest) (let e : n + suc (length first) ≡ n + 1 + length first = omega arith in e) k),
  )

  -- the walk and the right side of one clause
  pub record IsSingle (all : List Walked) (uses : List Use) (k : ℕ) (part : Opened) (number : ℕ) (c : Clause) (given : Given) : Type 0 where
    pub walk : Walk
    pub side : Term
    pub walks : given.walks ≡ walk ∷ []
    pub sides : given.sides ≡ side ∷ []
    pub one : IsOneGiven all uses k part number c walk side

  -- what a clause gives, wherever its helpers and uses are
  abbrev pub GivesOne : (k : ℕ) → Opened → (number next : ℕ) → Clause → Given → Type 0
  GivesOne k part number next c given =
      (all : List Walked) (uses : List Use) → AreAt all next given.helpers → AreUsed uses given.uses →
      IsSingle all uses k part number c given × AreHelpersGiven all uses next given.helpers

  abbrev pub Gives : (k : ℕ) → Opened → (number next : ℕ) → Clauses → Given → Type 0
  Gives k part number next clauses given =
      (all : List Walked) (uses : List Use) → AreAt all next given.helpers → AreUsed uses given.uses →
      AreGiven all uses k part number clauses given.walks given.sides × AreHelpersGiven all uses next given.helpers

  one-more : (all : List Walked) (uses : List Use) (k : ℕ) (part : Opened) (number : ℕ) (c : Clause) (clauses : Clauses) (given others : Given)
      → IsSingle all uses k part number c given → AreGiven all uses k part (number + 1) clauses others.walks others.sides
      → AreGiven all uses k part number (clause.cons c clauses) (given.walks ++ others.walks) (given.sides ++ others.sides)
  one-more all uses k part number c clauses given others h rest =
      transport (λ ws. AreGiven all uses k part number (clause.cons c clauses) (ws ++ others.walks) (given.sides ++ others.sides)) (sym h.walks)
      (transport (λ ts. AreGiven all uses k part number (clause.cons c clauses) (h.walk ∷ others.walks) (ts ++ others.sides)) (sym h.sides)
      (more number c clauses h.walk others.walks h.side others.sides h.one rest))

  -- the clauses of both, the first of which is one
  both-given : (k : ℕ) (part : Opened) (number next : ℕ) (c : Clause) (clauses : Clauses) (given others : Given) → GivesOne k part number next c given
      → Gives k part (number + 1) (next + length given.helpers) clauses others → Gives k part number next (clause.cons c clauses) (joined given others)
  both-given k part number next c clauses given others h rest all uses at used =
      let places = at-parts all next given.helpers others.helpers at in
      let said = used-parts uses given.uses others.uses used in
      let one = h all uses places.0 said.0 in
      let further = rest all uses places.1 said.1 in (
        one-more all uses k part number c clauses given others one.0 further.0,
        helpers-both all uses next given.helpers others.helpers one.1 further.1,
      )

module _ (S : Signature) (f : Function) (is : IsFunctionFor S f) where
  mutual
    clause-has : (k : ℕ) (part : Opened) (number next : ℕ) (c : Clause) (left : ℕ) → k < next → IsPartOver S part
        → IsClause (provisional S f.name f.type) (length part.terms) c
        → IfOk (walk_clause (session S f.name f.type) k part number next c left).0 (GivesOne S f.name f.type k part number next c)
    clause-has k part number next (Is pats binds right) left low over resolved =
        let T = provisional S f.name f.type in
        let s = session S f.name f.type in
        let owner = owner_of (part_named f.name k) number in
        next-has (GivesOne S f.name f.type k part number next (Is pats binds right))
        (walking T (part_named f.name k) (own_walk_of T part.tele part.goal part.terms (Is pats binds right) number left)) _ (λ w rest e.
        dots-have (GivesOne S f.name f.type k part number next (Is pats binds right)) T owner w.ctx w.dots (walk_right s k number next owner w right) rest
        (λ rest.
        right-has k part number next owner w pats binds right left rest low over (ends-ok T (part_named f.name k) _ w e)
        resolved
        (clause-walk S f is part (Is pats binds right) number left w over resolved (ends-ok T (part_named f.name k) _ w e))))

    right-has : (k : ℕ) (part : Opened) (number next : ℕ) (owner : Owner) (w : Walk) (pats : pattern.Pats) (binds : ℕ) (right : Right) (units left : ℕ)
        → k < next → IsPartOver S part
        → (own_walk_of (provisional S f.name f.type) part.tele part.goal part.terms (Is pats binds right) number units).0 ≡ Ok w
        → IsClause (provisional S f.name f.type) (length part.terms) (Is pats binds right)
        → IsWalkIn S (provisional S f.name f.type) w × (length w.terms ≡ length part.terms)
        → IfOk (walk_right (session S f.name f.type) k number next owner w right left).0
        (GivesOne S f.name f.type k part number next (Is pats binds right))
    right-has k part number next owner w pats binds (clause.Side side) units left low over run resolved h =
        let T = provisional S f.name f.type in
        next-has (GivesOne S f.name f.type k part number next (Is pats binds (clause.Side side))) (answers (or_halts (bounded (under_solution w.binds side))) left) _
        (λ body rest e1.
        next-has (GivesOne S f.name f.type k part number next (Is pats binds (clause.Side side)))
        (granted T (OfSide owner) (check_of T nesting (reverse w.ctx) body w.goal rest)) _ (λ found end e2 all uses at used. (
          record {
            walk = w;
            side = side;
            walks = refl;
            sides = refl;
            one = record {
              units = units;
              walks = run;
              right = term pats binds side
                  (transport (λ b. IsAmong uses (use_of k number w b)) (bounded-ok (under_solution w.binds side) body (halts-ok _ body e1)) used.0);
            };
          },
          tt,
        )))
    right-has k part number next owner w pats binds (clause.With written inner) units left low over run resolved h =
        let T = provisional S f.name f.type in
        let s = session S f.name f.type in
        let c = Is pats binds (clause.With written inner) in
        let t' = bound-over S f w written h.0 resolved.3.0 in
        next-has (GivesOne S f.name f.type k part number next c) (answers (or_halts (bounded (under_solution w.binds written))) left) _ (λ t rest e1.
        let same : t ≡ under_solution w.binds written = bounded-ok (under_solution w.binds written) t (halts-ok _ t e1) in
        next-has (GivesOne S f.name f.type k part number next c) (open_over s owner w t rest) _ (λ o further e2.
        let open_is = if-ok (IsOpened S (length w.ctx)) (open_over s owner w t rest).0 o e2
        (open-has S f.name f.type is.ready.scoped is.with_function.scoped owner w t rest h.0 (transport (IsScoped T (length w.ctx)) (sym same) t')) in
        let made = opened-part S f w o h.0 open_is in
        let columns : length part.terms + 1 ≡ length (opened o w).terms = ap (λ n. n + 1) (sym h.1) ∙ sym made.1 in
        let inside = transport (λ n. AreClauses T n inner) columns resolved.3.1 in
        next-has (GivesOne S f.name f.type k part number next c) (walk_clauses s next (opened o w) 0 (next + 1) inner further) _ (λ given end e3 all uses at used.
        let low' : next < next + 1 = omega arith in
        let rec = if-ok (Gives S f.name f.type next (opened o w) 0 (next + 1) inner) (walk_clauses s next (opened o w) 0 (next + 1) inner further).0 given e3
        (clauses-has next (opened o w) 0 (next + 1) inner further low' made.0 inside) all uses at.1 used.1 in (
          record {
            walk = w;
            side = applied (Const (length S.entries + next)) (helper_arguments o.abstraction t);
            walks = refl;
            sides = refl;
            one = record {
              units = units;
              walks = run;
              right =
                  transport (λ u. IsRightGiven S f.name f.type all uses k number w c (applied (Const (length S.entries + next)) (helper_arguments o.abstraction u)))
                  (sym same)
                  (scrutinee pats binds written inner next o _ at.0 low refl open_is t'
                  (transport (λ u. IsAmong uses (use_of k number w u)) same used.0));
            };
          },
          (record { part = made.0; clauses = inside; given = rec.0 }, rec.1),
        ))))
    right-has k part number next owner w pats binds clause.Absurd units left low over run resolved h = λ all uses at used. (
      record {
        walk = w;
        side = Sort 0;
        walks = refl;
        sides = refl;
        one = record { units = units; walks = run; right = absurd_side pats binds };
      },
      tt,
    )

    pub clauses-has : (k : ℕ) (part : Opened) (number next : ℕ) (clauses : Clauses) (left : ℕ) → k < next → IsPartOver S part
        → AreClauses (provisional S f.name f.type) (length part.terms) clauses
        → IfOk (walk_clauses (session S f.name f.type) k part number next clauses left).0 (Gives S f.name f.type k part number next clauses)
    clauses-has k part number next clause.nil left low over resolved = λ all uses at used. (none number, tt)
    clauses-has k part number next (clause.cons c clauses) left low over resolved =
        let s = session S f.name f.type in
        next-has (Gives S f.name f.type k part number next (clause.cons c clauses)) (walk_clause s k part number next c left) _ (λ given rest e1.
        next-has (Gives S f.name f.type k part number next (clause.cons c clauses))
        (walk_clauses s k part (number + 1) (next + length given.helpers) clauses rest) _ (λ others end e2.
        let low' : k < next + length given.helpers = omega (arith, low) in
        both-given S f.name f.type k part number next c clauses given others
        (if-ok (GivesOne S f.name f.type k part number next c) (walk_clause s k part number next c left).0 given e1
        (clause-has k part number next c left low over resolved.0))
        (if-ok (Gives S f.name f.type k part (number + 1) (next + length given.helpers) clauses)
        (walk_clauses s k part (number + 1) (next + length given.helpers) clauses rest).0 others e2
        (clauses-has k part (number + 1) (next + length given.helpers) clauses rest low' over resolved.1))))
