-- The equation of a clause of a plan is one of the clause as it is written.
use Rattle.std.proofs.Common.{◌≡◌, ℕ, zero, suc, ◌+◌, ◌-◌, ◌≤◌, ◌<◌, Bool, true, false, cond, nat_lt, Some, List, [], ◌∷◌, ◌++◌, length, map, take, drop, slice_get, Result, Ok, refl, sym, ap, ap₂, ◌∙◌, subst as transport, arith}
use Rattle.std.proofs.lemmas.Bool.Decides.{nat_tests}
use Rattle.std.proofs.lemmas.List.{length-append, take-append-drop}
use Rattle.std.proofs.lemmas.Option.{slice_get_within}
use Rattle.theory.specs.Terms.{Term, Var, Sort, Pi, Lam, App, Let, Const, Fam, Con, Elim, AxiomK}
use Rattle.theory.specs.Substitutions.{fill}
use Rattle.theory.specs.Conversion.{Converts}
use Rattle.theory.specs.Telescopes.{Telescope, applied}
use Rattle.theory.specs.Eliminators.{no_variable}
use Rattle.theory.specs.Signatures.{Signature, IsPrefix}
use Rattle.theory.specs.Spines.{head_of}
use Rattle.theory.specs.WellFormed.{provisional}
use Rattle.theory.proofs.Instantiation.{inst-applied}
use Rattle.theory.proofs.Shifts.{weaken_by-is_lift}
use Rattle.theory.proofs.Spines.{applied-append}
use Rattle.core_sig.specs.Settling.{renumbered}
use Rattle.core_terms.specs.CaseTrees.{Walk}
use Rattle.core_terms.specs.Clauses as clause
use Rattle.core_terms.specs.Clauses.{Is, Right}
use Rattle.core_terms.specs.Patterns.{Pats}
use Rattle.tele_eq.specs.Items.{term_at}
use Rattle.tele_eq.specs.Levels.{is_among}
use Rattle.tele_eq.specs.ReflexivityLaws.{EachConverts}
use Rattle.case_trees.proofs.Answered.{Holds}
use Rattle.case_trees.proofs.Arguments.{head-applied}
use Rattle.case_trees.specs.OwnWalks.{own_walk_of}
use Rattle.case_trees.specs.Scoped.{IsScopedWalk}
use Rattle.case_trees.specs.Points.{under_solution}
use Rattle.case_trees.specs.Stops.{TreeStop}
use Rattle.tree_translation.specs.Plans.{Part, Plan}
use Rattle.tree_translation.specs.Recursion.{recursion_of}
use Rattle.tree_translation.specs.RightSides.{is_helper}
use Rattle.clause_reports.specs.Equations.{Equation, Site, all_shown, equation_of, in_signature, last_argument, left_side, number_of, own_number, part_at, pats_of, right_side, side_of, walk_site}
use Rattle.tree_translation.specs.Naming.{part_named}
use Rattle.clause_reports.specs.Reports.{some_absurd}
use Rattle.function_session.specs.equation_laws.Fitting.{AllFit}
use Rattle.clause_reports.specs.elaboration.Walking.{Opened, Opening, Walked, helper_arguments, helper_terms, opened}
use Rattle.function_session.proofs.equation_laws.LeftShowing.{IsAt, equation-is, families-stay}
use Rattle.function_session.proofs.equation_laws.OwnMatches.{IsMatched, walk-matched}
use Rattle.function_session.proofs.equation_laws.ShownTerms.{FamiliesStay, all-fit, all-written}
use Rattle.function_checks.proofs.function_clauses.Fitting.{clause-for}
use Rattle.resolve.specs.Functions.{Function}
use Rattle.resolve.specs.Scoping.{IsClause}
use Rattle.with_abstraction.specs.Laws.{IsScopedAbstraction, type_of_variable, types_at_terms}
use Rattle.elim.specs.written_functions.Clauses.{FunctionAt, HasEquation, IsHelperCall, IsOwnWalk, IsRight, Placed, Start, Values, left_of, parts_of, type_in, written_in}
use Rattle.elim.proofs.written_functions.HelperColumns.{columns-told}
use Rattle.elim.proofs.written_functions.Numbers.{AreUnder, scoped-under}
use Rattle.elim.proofs.written_functions.PlanClauses.{IsPlaced, columns-are, placed-pats, placed-side}
use Rattle.elim.proofs.written_functions.PlanGiven.{IsPlanGiven, clauses-listed, part-made}
use Rattle.elim.proofs.written_functions.PartScopes.{IsScopedOver}
use Rattle.elim.proofs.written_functions.Recursors.{map-each}
use Rattle.elim.proofs.written_functions.Walked as walked
use Rattle.elim.proofs.written_functions.Walked.{IsSideOf}

-- ---- terms that are numbered anew

pub renumbered-applied : (r : ℕ → ℕ) (h : Term) (us : List Term) → renumbered r (applied h us) ≡ applied (renumbered r h) (map (renumbered r) us)
renumbered-applied r h [] = refl
renumbered-applied r h (u ∷ us) = renumbered-applied r (App h u) us

map-both : (g h : Term → Term) (us : List Term) → map g (map h us) ≡ map (λ u. g (h u)) us
map-both g h [] = refl
map-both g h (u ∷ us) = ap (λ rest. g (h u) ∷ rest) (map-both g h us)

-- ---- heads

head-under : (n : ℕ) (t : Term) → AreUnder n t → AreUnder n (head_of t)
head-under n (App f a) h = head-under n f h.0
head-under n _ h = h

-- a term without constants from the number after the base on is no helper
no-helper : (base : ℕ) (t : Term) → AreUnder (base + 1) t → is_helper base t ≡ false
no-helper base (Const c) h = let low : c < base + 1 = h in grind (arith, nat_tests)
no-helper base (Var v) h = refl
no-helper base (Sort i) h = refl
no-helper base (Pi a b) h = refl
no-helper base (Lam a b) h = refl
no-helper base (App f a) h = refl
no-helper base (Let a t b) h = refl
no-helper base (Fam i) h = refl
no-helper base (Con i c) h = refl
no-helper base (Elim i l) h = refl
no-helper base (AxiomK i l) h = refl

-- the signature with the function's constant has one entry more
pub with-count : (S : Signature) (name : List ℕ) (type : Term) → length (provisional S name type).entries ≡ length S.entries + 1
with-count S name type = length-append S.entries _

-- ---- equations

-- the start of a part
abbrev pub start_in : Part → Start
start_in p = record { telescope = p.tele; goal = p.goal; columns = p.terms }

-- the function with the starts of its parts in a plan, and values of the recursion
abbrev pub placed_at : Signature → Function → Plan → List Values → FunctionAt
placed_at S f plan vs = record { before = S; function = f; parts = λ k. start_in (part_at plan k); values = vs }

-- at terms for the columns the values are the last argument of a helper, if there is one
abbrev pub AreLast : Function → Plan → List Values → Signature → Type 0
AreLast f plan vs U =
    1 < length (parts_of f) → (terms : List Term) → f.arity ≤ length terms → last_argument U plan (recursion_of U plan) terms ≡ map (λ (v : Values). under_solution (take f.arity terms) v.term) vs

types-in : (context : Telescope) (vs : List ℕ) → map (type_of_variable context) vs ≡ map (type_in context) vs
types-in context [] = refl
types-in context (v ∷ vs) =
    ap₂ (λ t ts. t ∷ ts) (sym (weaken_by-is_lift (v + 1) (term_at context (length context - (v + 1))))) (types-in context vs)

map-itself : (ts : List Term) → map (λ t. t) ts ≡ ts
map-itself [] = refl
map-itself (t ∷ ts) = ap (λ us. t ∷ us) (map-itself ts)

module _ (S : Signature) (f : Function) (plan : Plan) (h : IsPlanGiven S f plan) (values : List Values) where
  -- the walk of a clause, where its part is one that the plan is made of
  pub own-walk : (k number : ℕ) (w : Walk) (c : Placed) → IsPlaced S f plan h k number w c → IsOwnWalk (placed_at S f plan values) c w
  own-walk k number w c p =
      let one = Is c.pats c.binds c.right in
      let X = provisional S f.name f.type in
      let walks : (own_walk_of X (part_at plan k).tele (part_at plan k).goal (part_at plan k).terms one number p.one.units).0 ≡ Ok w =
      transport (λ (q : Part). (own_walk_of X q.tele q.goal q.terms one number p.one.units).0 ≡ Ok w)
      (sym (part-made S f plan h k p.made_of p.at).finished.is) p.one.walks in
      record {
        units = p.one.units;
        walked =
            transport (λ i. (own_walk_of X (part_at plan i).tele (part_at plan i).goal (part_at plan i).terms one c.number p.one.units).0 ≡ Ok w) (sym p.part)
            (transport (λ n. (own_walk_of X (part_at plan k).tele (part_at plan k).goal (part_at plan k).terms one n p.one.units).0 ≡ Ok w)
            (sym p.own_number) walks);
      }

module _ (S : Signature) (f : Function) (plan : Plan) (h : IsPlanGiven S f plan) (values : List Values) (U : Signature) (prefix : IsPrefix S U) where
  -- a written term in the plan is the written one
  pub written-is : (ts : List Term) (t : Term) → in_signature U plan (under_solution ts t) ≡ written_in U (placed_at S f plan values) ts t
  written-is ts t =
      ap₂ (λ base name. renumbered (λ c. cond (nat_lt c base) c (number_of U (part_named name (c - base)))) (under_solution ts t)) h.base h.name

  pub families : FamiliesStay (provisional S f.name f.type) U
  families =
      transport (λ type. FamiliesStay (provisional S f.name type) U) h.type
      (transport (λ name. FamiliesStay (provisional S name plan.type) U) h.name (families-stay S U plan prefix))

  -- ---- right sides

  -- the call of a helper
  helper-number : (j : ℕ) → own_number U plan (length S.entries + j) ≡ number_of U (part_named f.name j)
  helper-number j =
      ap₂ (λ base name. cond (nat_lt (length S.entries + j) base) (length S.entries + j) (number_of U (part_named name (length S.entries + j - base)))) h.base h.name
      ∙ by (nat_lt (length S.entries + j) (length S.entries)) refl
    where
      by : (b : Bool) → nat_lt (length S.entries + j) (length S.entries) ≡ b
          → cond b (length S.entries + j) (number_of U (part_named f.name (length S.entries + j - length S.entries))) ≡ number_of U (part_named f.name j)
      by true is = absurd (let no : length S.entries + j < length S.entries = grind (arith, nat_tests) in omega (arith, no))
      by false is = ap (λ k. number_of U (part_named f.name k)) (let e : length S.entries + j - length S.entries ≡ j = omega arith in e)

  call-is : (vs : List Term) (j : ℕ) (args : List Term)
      → in_signature U plan (under_solution vs (applied (Const (length S.entries + j)) args))
      ≡ applied (Const (number_of U (part_named f.name j))) (map (written_in U (placed_at S f plan values) vs) args)
  call-is vs j args =
      let r = own_number U plan in
      ap (renumbered r) (inst-applied (fill no_variable vs) (Const (length S.entries + j)) args)
      ∙ (renumbered-applied r (Const (length S.entries + j)) (map (under_solution vs) args)
      ∙ ap₂ (λ c us. applied (Const c) us) (helper-number j)
      (map-both (renumbered r) (under_solution vs) args ∙ map-each (λ t. renumbered r (under_solution vs t)) (written_in U (placed_at S f plan values) vs) (written-is vs) args))

  -- the columns of a helper, with a term for the new variable
  columns-at : (w : Walk) (k : ℕ) (v : Walked) (o : Opening) (s : Term) → slice_get (h.own ∷ h.helpers) k ≡ Some v → v.part ≡ opened o w
      → IsScopedWalk (provisional S f.name f.type) w → IsScopedAbstraction (provisional S f.name f.type) (length w.ctx) o.abstraction
      → map (under_solution (helper_arguments o.abstraction s)) (part_at plan k).terms ≡ w.terms ++ s ∷ []
  columns-at w k v o s at is scoped abstraction =
      ap (map (under_solution (helper_arguments o.abstraction s))) (columns-are S f plan h k v at ∙ ap (λ (p : Opened). p.terms) is)
      ∙ (ap (λ us. map (under_solution us) (helper_terms o.abstraction w.terms)) (sym (map-itself (helper_arguments o.abstraction s)))
      ∙ columns-told (provisional S f.name f.type) (length w.ctx) o.abstraction abstraction s (λ t. t) w.terms scoped.terms (λ x less. refl))

  -- there is a helper, where one has a number
  has-helper : (k : ℕ) (v : Walked) → 0 < k → slice_get (h.own ∷ h.helpers) k ≡ Some v → 1 < length (parts_of f)
  has-helper k v low at =
      let within : k < length (parts_of f) = slice_get_within (parts_of f) k v.clauses (clauses-listed S f plan h k v at) in omega (arith, low, within)

  helper-side : (w : Walk) (t : Term) (k : ℕ) (o : Opening) (v : Walked) (terms walked : List Term) (call : Term) → AreLast f plan values U
      → 0 < k → slice_get (h.own ∷ h.helpers) k ≡ Some v → v.part ≡ opened o w → IsScopedWalk (provisional S f.name f.type) w
      → IsScopedOver (provisional S f.name f.type) w.ctx w.goal t o.abstraction → f.arity ≤ length terms
      → call ≡ applied (in_signature U plan (under_solution walked (applied (Const (length S.entries + k)) (helper_arguments o.abstraction t))))
      (last_argument U plan (recursion_of U plan) terms)
      → IsHelperCall U (placed_at S f plan values) k w t terms walked call
  helper-side w t k o v terms walked call last low at is scoped over wide e =
      let X = provisional S f.name f.type in
      let a = o.abstraction in
      let made = (part-made S f plan h k v at).finished.is in
      let tele : (part_at plan k).tele ≡ a.telescope = ap (λ (p : Part). p.tele) made ∙ ap (λ (q : Opened). q.tele) is in
      let goal : (part_at plan k).goal ≡ a.goal = ap (λ (p : Part). p.goal) made ∙ ap (λ (q : Opened). q.goal) is in
      let order : take a.place a.order ++ drop a.place a.order ≡ a.order = take-append-drop a.place a.order in
      let us = map (written_in U (placed_at S f plan values) walked) (helper_arguments a t) in
      let more = last_argument U plan (recursion_of U plan) terms in
      record {
        front = take a.place a.order;
        behind = drop a.place a.order;
        each = λ x low. transport (λ xs. is_among x xs ≡ true) (sym order) (over.scoped.each x low);
        count = ap length order ∙ over.scoped.variables;
        type = over.of.type;
        types =
            transport
            (λ types.
            EachConverts X (types_at_terms [] (helper_arguments a t) types)
            (map (type_in w.ctx) (take a.place a.order) ++ over.of.type ∷ map (type_in w.ctx) (drop a.place a.order)))
            (sym tele)
            (transport (EachConverts X (types_at_terms [] (helper_arguments a t) a.telescope))
            (ap₂ (λ xs ys. xs ++ over.of.type ∷ ys) (types-in w.ctx (take a.place a.order)) (types-in w.ctx (drop a.place a.order))) over.of.types);
        long = ap length tele ∙ over.scoped.types;
        columns = λ s. columns-at w k v o s at is scoped over.scoped;
        goal = transport (λ g. Converts X (under_solution (helper_arguments a t) g) w.goal) (sym goal) over.of.goal_there;
        is =
            e
            ∙ (ap (λ c. applied c more) (call-is walked k (helper_arguments a t))
            ∙ (sym (applied-append (Const (number_of U (part_named f.name k))) us more)
            ∙ ap (λ rest. applied (Const (number_of U (part_named f.name k))) (us ++ rest)) (last (has-helper k v low at) terms wide)));
      }

  -- a written side is no helper's call
  no-call : (n binds : ℕ) (pats : Pats) (t : Term) → IsClause (provisional S f.name f.type) n (Is pats binds (clause.Side t))
      → is_helper plan.base (head_of t) ≡ false
  no-call n binds pats t resolved =
      let under : AreUnder (length S.entries + 1) t =
      transport (λ m. AreUnder m t) (with-count S f.name f.type)
      (scoped-under (provisional S f.name f.type) binds (length (provisional S f.name f.type).entries) t (omega arith) resolved.3.scoped) in
      ap (λ base. is_helper base (head_of t)) h.base ∙ no-helper (length S.entries) (head_of t) (head-under (length S.entries + 1) t under)

  -- that of a clause with a scrutinee is one
  side-calls : (k : ℕ) (args : List Term) → 0 < k → is_helper plan.base (head_of (applied (Const (length S.entries + k)) args)) ≡ true
  side-calls k args low =
      ap₂ is_helper h.base (head-applied (Const (length S.entries + k)) args)
      ∙ (let b : nat_lt (length S.entries) (length S.entries + k) ≡ true = grind (arith, nat_tests) in b)

  pub right-is : (w : Walk) (site : Site) (n next : ℕ) (pats : Pats) (binds : ℕ) (right : Right) (side v : Term) → AreLast f plan values U
      → IsSideOf S f (h.own ∷ h.helpers) w next (Is pats binds right) side → IsClause (provisional S f.name f.type) n (Is pats binds right)
      → IsScopedWalk (provisional S f.name f.type) w → f.arity ≤ length site.terms → v ≡ right_side U plan side site
      → IsRight U (placed_at S f plan values) next w site.terms site.binds site.walked right v
  right-is w site n next _ _ _ _ v last (walked.term pats binds t) resolved scoped wide e =
      e
      ∙ (ap
      (λ b. cond b (applied (in_signature U plan (under_solution site.walked t)) (last_argument U plan (recursion_of U plan) site.terms))
      (in_signature U plan (under_solution site.binds t))) (no-call n binds pats t resolved)
      ∙ written-is site.binds t)
  right-is w site n next _ _ _ _ v last (walked.scrutinee pats binds t inside o part low at is same over) resolved scoped wide e =
      let side = applied (Const (length S.entries + next)) (helper_arguments o.abstraction (under_solution w.binds t)) in
      helper-side w (under_solution w.binds t) next o part site.terms site.walked v last low at is scoped over wide
      (e
      ∙ ap
      (λ b. cond b (applied (in_signature U plan (under_solution site.walked side)) (last_argument U plan (recursion_of U plan) site.terms))
      (in_signature U plan (under_solution site.binds side)))
      (side-calls next (helper_arguments o.abstraction (under_solution w.binds t)) low))
  right-is w site n next _ _ _ _ v last (walked.nothing pats binds) resolved scoped wide e = e

  -- ---- left sides

  pub left-is : (k : ℕ) (pats : Pats) (site : Site) (v : Walked) (u : Term) → AreLast f plan values U → slice_get (h.own ∷ h.helpers) k ≡ Some v
      → f.arity ≤ length site.terms → u ≡ left_side U plan k pats site
      → u ≡ left_of U (placed_at S f plan values) k site.substitution site.terms (all_shown U (λ t. in_signature U plan (under_solution site.binds t)) pats site.terms)
  left-is zero pats site v u last at wide e =
      e ∙ ap (λ name. applied (Const (number_of U name)) (all_shown U (λ t. in_signature U plan (under_solution site.binds t)) pats site.terms)) h.name
  left-is (suc k) pats site v u last at wide e =
      e
      ∙ ap₂ (λ name rest. applied (Const (number_of U (part_named name (suc k)))) (site.substitution ++ rest)) h.name
      (last (has-helper (suc k) v (omega arith) at) site.terms wide)

  -- ---- equations

  matched : (k number : ℕ) (w : Walk) (c : Placed) → IsPlaced S f plan h k number w c → IsMatched (provisional S f.name f.type) c.pats w
  matched k number w c p =
      let part = p.made_of.part in
      transport (λ (r : Result Walk TreeStop). Holds (IsMatched (provisional S f.name f.type) c.pats) (λ e. Unit {0}) r) p.one.walks
      (walk-matched (provisional S f.name f.type) part.tele part.goal part.terms c.pats c.binds c.right number p.one.units
      (clause-for (provisional S f.name f.type) part.terms (Is c.pats c.binds c.right) p.one.resolved))

  pub has-equation : (k number : ℕ) (w : Walk) (c : Placed) → AreLast f plan values U → IsPlaced S f plan h k number w c → some_absurd c.pats ≡ false
      → (e : Equation) → equation_of U plan k number w ≡ Ok e → HasEquation U (placed_at S f plan values) c e
  has-equation k number w c last p clean e made =
      let X = provisional S f.name f.type in
      let at = placed_at S f plan values in
      let wr : Term → Term = λ t. in_signature U plan (under_solution w.binds t) in
      let is : IsAt U plan k (pats_of (part_at plan k) number) (side_of (part_at plan k) number) (walk_site w) e =
      equation-is U plan k (pats_of (part_at plan k) number) (side_of (part_at plan k) number) (walk_site w) e made in
      let m = matched k number w c p in
      let wide : f.arity ≤ length w.terms = omega (arith, p.wide, p.one.fit.columns) in
      let left = left-is k c.pats (walk_site w) p.made_of e.left last p.at wide (is.left ∙ ap (λ ps. left_side U plan k ps (walk_site w)) (placed-pats S f plan h k number w c p)) in
      let right =
      right-is w (walk_site w) (length p.made_of.part.terms) c.helper c.pats c.binds c.right p.side e.right last p.one.is_side p.one.resolved p.one.fit.scoped wide
      (is.right ∙ ap (λ side. right_side U plan side (walk_site w)) (placed-side S f plan h k number w c p)) in
      record {
        walk = w;
        own = own-walk S f plan h values k number w c p;
        context = is.context;
        type = is.type;
        is = record {
          shown = all_shown U wr c.pats w.terms;
          fit =
              all-written U wr (written_in U at w.binds) (written-is w.binds) c.pats w.terms (all_shown U wr c.pats w.terms) w.binds
              (transport (AllFit U wr c.pats w.terms (all_shown U wr c.pats w.terms)) m.binds (all-fit X U wr families c.pats w.terms (m.matches clean)));
          left = transport (λ n. e.left ≡ left_of U at n w.subst w.terms (all_shown U wr c.pats w.terms)) (sym p.part) left;
          right = right;
        };
      }
