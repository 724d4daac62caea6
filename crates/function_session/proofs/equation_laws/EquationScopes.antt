-- The equation of a clause is over the signature that has the plan's entries.
use Rattle.std.proofs.Common.{◌≡◌, ℕ, zero, suc, ◌+◌, ◌<◌, inl, inr, Bool, true, false, cond, Option, Some, None, Ok, List, [], ◌∷◌, ◌++◌, length, take, slice_get, All, refl, sym, ◌∙◌, subst as transport, subst₂, arith}
use Rattle.std.proofs.lemmas.Bool.{true≢false}
use Rattle.std.proofs.lemmas.Bool.Decides.{nat_tests}
use Rattle.std.proofs.lemmas.List.Elements.{All-nil, All-cons, All-head, All-tail, All-append, All-take, All-drop, All-weaker}
use Rattle.std.proofs.lemmas.Option.{get_or_from_slice_get, slice_get_within}
use Rattle.theory.specs.Terms.{Term, Sort, Const, Con, App, free_of}
use Rattle.theory.specs.Telescopes.{Telescope, applied, variables}
use Rattle.theory.specs.Signatures.{Signature}
use Rattle.theory.specs.SignatureScopes.{HasEntries, IsScoped, IsScopedTelescope}
use Rattle.theory.specs.Spines.{head_of, spine_of}
use Rattle.theory.proofs.ScopedTerms.{HasNumbers, keeps-numbers, scoped-wider, telescope-wider, sort-scoped, applied-scoped, head-scoped, spine-scoped}
use Rattle.theory.proofs.Widening.{prefix_keeps}
use Rattle.core_terms.specs.CaseTrees.{Walk}
use Rattle.core_terms.specs.Clauses.{Clause, Is}
use Rattle.core_terms.specs.Patterns as pattern
use Rattle.core_terms.specs.Patterns.{Pat, Pats}
use Rattle.core_sig.specs.DraftScopes.{HasDraftEntries, IsDraftTerm}
use Rattle.tele_eq.specs.Items.{term_at}
use Rattle.unification.specs.Built.{Built, built_of}
use Rattle.unification.proofs.Constructors.{found}
use Rattle.unification.proofs.ScopedRecords.{variables-scoped}
use Rattle.case_trees.specs.Points.{under_solution}
use Rattle.case_trees.specs.Scoped.{IsScopedPattern, AreScopedPatterns}
use Rattle.case_trees.proofs.ScopedPoints.{under-scoped}
use Rattle.tree_translation.specs.Conditions.{with_function, IsSide}
use Rattle.tree_translation.specs.Conditions as planned
use Rattle.tree_translation.specs.Naming.{motive_name, step_name}
use Rattle.tree_translation.specs.Plans.{Plan, own_part}
use Rattle.tree_translation.specs.Recursion.{Recursion, recursion_of, parameters_at, scrutinee_at, terms_at}
use Rattle.tree_translation.specs.RightSides.{is_helper}
use Rattle.clause_reports.specs.Conditions.{IsDefined, HasRecursion, IsEntered}
use Rattle.clause_reports.specs.Equations.{Equation, Site, number_of, part_name, in_signature, shown_built, shown, all_shown, values_of_recursion, last_argument, left_side, walk_site, equation_at, equation_of, part_at, pats_of, side_of}
use Rattle.clause_reports.specs.Generated.{all_name}
use Rattle.clause_reports.specs.Laws.{IsOver}
use Rattle.clause_reports.specs.Reports.{Reference}
use Rattle.function_session.specs.equation_laws.Laws.{EquationIsOver}
use Rattle.function_session.proofs.equation_laws.LeftShowing.{IsAt, equation-is}
use Rattle.function_session.proofs.equation_laws.PartNumbers.{with_parts, part-number, numbers-there, function-numbers, draft-scoped, defined-number, in_signature-scoped}
use Rattle.function_session.proofs.equation_laws.PlannedClauses.{IsClauseThere, clause-there}
use Rattle.function_session.proofs.equation_laws.SameRecursion.{recursion-same}

-- ---- the terms that patterns show

built-scoped : (S : Signature) (n : ℕ) (show : List Term → List Term) (u : Term) (o : Option Built) → built_of S u ≡ o → IsScoped S n u
    → ((us : List Term) → All (IsScoped S n) us → All (IsScoped S n) (show us)) → IsScoped S n (shown_built show u o)
built-scoped S n show u None at h inner = h
built-scoped S n show u (Some b) at h inner =
    let is = found S u b at in
    let spine = spine-scoped S n u h in
    let parameters : All (IsScoped S n) b.parameters =
    transport (All (IsScoped S n)) (sym is.parameters) (All-take (IsScoped S n) (length b.family.parameters) (spine_of u) spine) in
    let arguments : All (IsScoped S n) b.arguments =
    transport (All (IsScoped S n)) (sym is.arguments) (All-drop (IsScoped S n) (length b.family.parameters) (spine_of u) spine) in
    applied-scoped S n (Con b.n b.number) (b.parameters ++ show b.arguments) (transport (IsScoped S n) is.head (head-scoped S n u h))
    (All-append (IsScoped S n) b.parameters (show b.arguments) parameters (inner b.arguments arguments))

mutual
  shown-scoped : (W S : Signature) (n binds : ℕ) (written : Term → Term) → ((t : Term) → IsScoped W binds t → IsScoped S n (written t))
      → (pat : Pat) (u : Term) → IsScopedPattern W binds pat → IsScoped S n u → IsScoped S n (shown S written pat u)
  shown-scoped W S n binds written k (pattern.Dot t) u is h = k t is
  shown-scoped W S n binds written k (pattern.Con m number pats) u is h =
      built-scoped S n (all_shown S written pats) u (built_of S u) refl h (λ us all. all-shown-scoped W S n binds written k pats us is.1 all)
  shown-scoped W S n binds written k pattern.Bind u is h = h
  shown-scoped W S n binds written k pattern.Wild u is h = h
  shown-scoped W S n binds written k pattern.Absurd u is h = h

  all-shown-scoped : (W S : Signature) (n binds : ℕ) (written : Term → Term) → ((t : Term) → IsScoped W binds t → IsScoped S n (written t))
      → (pats : Pats) (us : List Term) → AreScopedPatterns W binds pats → All (IsScoped S n) us → All (IsScoped S n) (all_shown S written pats us)
  all-shown-scoped W S n binds written k pattern.nil us is h = h
  all-shown-scoped W S n binds written k (pattern.cons pat pats) [] is h = h
  all-shown-scoped W S n binds written k (pattern.cons pat pats) (u ∷ us) is h =
      All-cons (IsScoped S n) (shown S written pat u) (all_shown S written pats us)
      (shown-scoped W S n binds written k pat u is.0 (All-head (IsScoped S n) u us h))
      (all-shown-scoped W S n binds written k pats us is.1 (All-tail (IsScoped S n) u us h))

-- ---- values of the recursion

term_at-scoped : (S : Signature) (n : ℕ) (terms : List Term) (p : ℕ) → All (IsScoped S n) terms → IsScoped S n (term_at terms p)
term_at-scoped S n [] p h = sort-scoped 0
term_at-scoped S n (t ∷ terms) zero h = All-head (IsScoped S n) t terms h
term_at-scoped S n (t ∷ terms) (suc p) h = term_at-scoped S n terms p (All-tail (IsScoped S n) t terms h)

pub terms_at-scoped : (S : Signature) (n : ℕ) (terms : List Term) (positions : List ℕ) → All (IsScoped S n) terms → All (IsScoped S n) (terms_at positions terms)
terms_at-scoped S n terms [] h = All-nil (IsScoped S n)
terms_at-scoped S n terms (p ∷ positions) h =
    All-cons (IsScoped S n) (term_at terms p) (terms_at positions terms) (term_at-scoped S n terms p h) (terms_at-scoped S n terms positions h)

type_at-entries : (S : Signature) (n : ℕ) (tele : Telescope) (p : ℕ) → IsScopedTelescope S n tele → HasEntries S (term_at tele p)
type_at-entries S n [] p h = tt
type_at-entries S n (a ∷ tele) zero h = h.0.entries
type_at-entries S n (a ∷ tele) (suc p) h = type_at-entries S (n + 1) tele p h.1

-- a defined constant at scoped terms is scoped
defined-scoped : (S : Signature) (n : ℕ) (name : List ℕ) (us : List Term) → IsDefined S name → All (IsScoped S n) us
    → IsScoped S n (applied (Const (number_of S name)) us)
defined-scoped S n name us d h =
    applied-scoped S n (Const (number_of S name)) us (record { variables = omega arith; entries = defined-number S name d }) h

values-scoped : (S : Signature) (n : ℕ) (plan : Plan) (r : Recursion) (terms : List Term) → IsScopedTelescope S 0 (own_part plan).tele
    → IsDefined S (motive_name plan.name) → IsDefined S (step_name plan.name) → IsDefined S (all_name r.family plan.level) → All (IsScoped S n) terms
    → IsScoped S n (values_of_recursion S plan r terms)
values-scoped S n plan r terms tele motive step all h =
    defined-scoped S n (all_name r.family plan.level) (parameters_at (own_part plan).tele r terms ++ motive_term ∷ step_term ∷ scrutinee_at r terms) all
    (All-append P (parameters_at (own_part plan).tele r terms) (motive_term ∷ step_term ∷ scrutinee_at r terms) parameters
    (All-cons P motive_term (step_term ∷ scrutinee_at r terms)
    (defined-scoped S n (motive_name plan.name) (terms_at r.admission.fixed terms) motive (terms_at-scoped S n terms r.admission.fixed h))
    (All-cons P step_term (scrutinee_at r terms)
    (defined-scoped S n (step_name plan.name) (terms_at r.admission.fixed terms) step (terms_at-scoped S n terms r.admission.fixed h))
    (terms_at-scoped S n terms (r.admission.indices ++ r.position ∷ []) h))))
  where
    P : Term → Type 0
    P = IsScoped S n

    motive_term : Term
    motive_term = applied (Const (number_of S (motive_name plan.name))) (terms_at r.admission.fixed terms)

    step_term : Term
    step_term = applied (Const (number_of S (step_name plan.name))) (terms_at r.admission.fixed terms)

    type : Term
    type = term_at (own_part plan).tele r.position

    own : IsScoped S (free_of type) type
    own = record { variables = omega arith; entries = type_at-entries S 0 (own_part plan).tele r.position tele }

    parameters : All P (take (length r.family.parameters) (spine_of (under_solution (take r.position terms) type)))
    parameters =
        All-take P (length r.family.parameters) (spine_of (under_solution (take r.position terms) type))
        (spine-scoped S n (under_solution (take r.position terms) type)
        (under-scoped S (free_of type) n (take r.position terms) type (All-take P r.position terms h) own))

last-scoped : (S : Signature) (n : ℕ) (plan : Plan) (o : Option Recursion) (terms : List Term) → IsScopedTelescope S 0 (own_part plan).tele
    → HasRecursion S plan o → 1 < length plan.parts → All (IsScoped S n) terms → All (IsScoped S n) (last_argument S plan o terms)
last-scoped S n plan None terms tele has more h = All-nil (IsScoped S n)
last-scoped S n plan (Some r) terms tele has more h =
    All-cons (IsScoped S n) (values_of_recursion S plan r (take plan.arity terms)) []
    (values-scoped S n plan r (take plan.arity terms) tele has.0 has.1.0 (has.1.1 more) (All-take (IsScoped S n) plan.arity terms h))
    (All-nil (IsScoped S n))

-- ---- sides

head-draft : (T : Signature) (base count : ℕ) (t : Term) → HasDraftEntries T base count t → HasDraftEntries T base count (head_of t)
head-draft T base count (App f a) h = head-draft T base count f h.0
head-draft T base count _ h = h

no-helper : (T : Signature) (base : ℕ) (h : Term) → HasDraftEntries T base 1 h → is_helper base h ≡ false
no-helper T base (Const c) (inl (below, there)) = grind (arith, nat_tests)
no-helper T base (Const c) (inr (from, to)) = grind (arith, nat_tests)
no-helper T base _ h = refl

-- a side over the signature with the parts; there are helpers where it calls one
record IsScopedSide (T : Signature) (plan : Plan) (side : Term) : Type 0 where
  count : ℕ
  scoped : IsScoped T count side
  helpers : is_helper plan.base (head_of side) ≡ true → 1 < length plan.parts

side-scoped : (before : Signature) (plan : Plan) → plan.base ≡ length before.entries → 0 < length plan.parts → (at : ℕ) (w : Walk) (c : Clause) (side : Term)
    → IsSide before plan at w c side → IsScopedSide (with_parts before (length plan.parts)) plan side
side-scoped before plan base some at w _ _ (planned.term pats binds side h) = record {
  count = binds;
  scoped = draft-scoped before plan.base (length plan.parts) binds side base some h;
  helpers = λ is. absurd (true≢false (sym is ∙ no-helper before plan.base (head_of side) (head-draft before plan.base 1 side h.entries)));
}
side-scoped before plan base some at w _ _ (planned.scrutinee pats binds k t inner helper arguments there later many all) =
    let low : k < length plan.parts = slice_get_within plan.parts k helper there in
    record {
      count = length w.ctx;
      scoped =
          applied-scoped (with_parts before (length plan.parts)) (length w.ctx) (Const (plan.base + k)) arguments
          (record { variables = omega arith; entries = part-number before (length plan.parts) (plan.base + k) (omega arith) (omega arith) })
          (All-weaker (IsDraftTerm before plan.base 1 (length w.ctx)) (IsScoped (with_parts before (length plan.parts)) (length w.ctx))
          (λ u h. draft-scoped before plan.base (length plan.parts) (length w.ctx) u base some h) arguments all);
      helpers = λ is. omega arith;
    }
side-scoped before plan base some at w _ _ (planned.absurd pats binds) =
    record { count = 0; scoped = sort-scoped 0; helpers = λ is. absurd (true≢false (sym is)) }

-- ---- the law

-- the site of a clause, all of whose terms are over its context
pub record IsScopedSite (S : Signature) (site : Site) : Type 0 where
  pub context : IsScopedTelescope S 0 site.context
  pub goal : IsScoped S (length site.context) site.goal
  pub substitution : All (IsScoped S (length site.context)) site.substitution
  pub terms : All (IsScoped S (length site.context)) site.terms
  pub binds : All (IsScoped S (length site.context)) site.binds
  pub walked : All (IsScoped S (length site.context)) site.walked

-- the equation of a clause of part k, with its own walk, at such a site
pub site-over : (before S : Signature) (plan : Plan) (k clause : ℕ) (w : Walk) (site : Site) (e : Equation) → IsEntered before S plan → k < length plan.parts
    → slice_get (part_at plan k).walks clause ≡ Some w → IsScopedSite before site
    → equation_at S plan k (pats_of (part_at plan k) clause) (side_of (part_at plan k) clause) site ≡ Ok e → IsOver S e
site-over before S plan k clause w site e entered inside own scoped made = record {
  context = transport (IsScopedTelescope S 0) (sym is.context) (telescope-wider later 0 site.context scoped.context);
  type = subst₂ (λ G t. IsScoped S (length G) t) (sym is.context) (sym is.type) (scoped-wider later scoped.goal);
  left = subst₂ (λ G t. IsScoped S (length G) t) (sym is.context) (sym is.left) (left k inside pats patterns);
  right = subst₂ (λ G t. IsScoped S (length G) t) (sym is.context) (sym is.right) (right (is_helper plan.base (head_of side)) refl);
}
  where
    T : Signature
    T = with_parts before (length plan.parts)

    W : Signature
    W = with_function before plan

    n : ℕ
    n = length site.context

    pats : Pats
    pats = pats_of (part_at plan k) clause

    side : Term
    side = side_of (part_at plan k) clause

    is : IsAt S plan k pats side site e
    is = equation-is S plan k pats side site e made

    at : IsClauseThere before plan k (part_at plan k) clause w
    at = clause-there before plan entered.planned k inside clause w own

    some : 0 < length plan.parts
    some = omega (arith, inside)

    later : HasNumbers before S
    later = keeps-numbers (prefix_keeps entered.prefix)

    wider : (us : List Term) → All (IsScoped before n) us → All (IsScoped S n) us
    wider us h = All-weaker (IsScoped before n) (IsScoped S n) (λ t k. scoped-wider later k) us h

    to-parts : (us : List Term) → All (IsScoped before n) us → All (IsScoped T n) us
    to-parts us h = All-weaker (IsScoped before n) (IsScoped T n) (λ t k. scoped-wider (numbers-there before (length plan.parts)) k) us h

    tele : IsScopedTelescope before 0 (own_part plan).tele
    tele = entered.planned.own.context_scoped

    recursion : HasRecursion S plan (recursion_of S plan)
    recursion = transport (HasRecursion S plan) (recursion-same before S entered.prefix plan tele) entered.recursion

    last : 1 < length plan.parts → All (IsScoped S n) (last_argument S plan (recursion_of S plan) site.terms)
    last more = last-scoped S n plan (recursion_of S plan) site.terms (telescope-wider later 0 (own_part plan).tele tele) recursion more (wider site.terms scoped.terms)

    -- under a solution, with numbers of S
    put : (solution : List Term) (m : ℕ) (t : Term) → All (IsScoped T n) solution → IsScoped T m t → IsScoped S n (in_signature S plan (under_solution solution t))
    put solution m t all h = in_signature-scoped before S plan entered n (under_solution solution t) (under-scoped T m n solution t all h)

    same : at.pats ≡ pats
    same = sym (get_or_from_slice_get (part_at plan k).pats clause at.pats pattern.nil at.pats_there)

    patterns : AreScopedPatterns W at.binds pats
    patterns = transport (AreScopedPatterns W at.binds) same at.fits.scoped

    left : (k : ℕ) → k < length plan.parts → (ps : Pats) → AreScopedPatterns W at.binds ps → IsScoped S n (left_side S plan k ps site)
    left zero low ps h =
        defined-scoped S n plan.name (all_shown S (λ t. in_signature S plan (under_solution site.binds t)) ps site.terms) (entered.parts 0 low)
        (all-shown-scoped W S n at.binds (λ t. in_signature S plan (under_solution site.binds t))
        (λ t k. put site.binds at.binds t (to-parts site.binds scoped.binds) (scoped-wider (function-numbers before plan (length plan.parts) some) k))
        ps site.terms h (wider site.terms scoped.terms))
    left (suc k) low ps h =
        defined-scoped S n (part_name plan (suc k)) (site.substitution ++ last_argument S plan (recursion_of S plan) site.terms) (entered.parts (suc k) low)
        (All-append (IsScoped S n) site.substitution (last_argument S plan (recursion_of S plan) site.terms) (wider site.substitution scoped.substitution) (last (omega arith)))

    there : at.side ≡ side
    there = sym (get_or_from_slice_get (part_at plan k).sides clause at.side (Sort 0) at.side_there)

    over : IsScopedSide T plan side
    over = transport (IsScopedSide T plan) there (side-scoped before plan entered.planned.base some k w (Is at.pats at.binds at.right) at.side at.is_side)

    right : (b : Bool) → is_helper plan.base (head_of side) ≡ b
        → IsScoped S n (cond b (applied (in_signature S plan (under_solution site.walked side)) (last_argument S plan (recursion_of S plan) site.terms))
        (in_signature S plan (under_solution site.binds side)))
    right true calls =
        applied-scoped S n (in_signature S plan (under_solution site.walked side)) (last_argument S plan (recursion_of S plan) site.terms)
        (put site.walked over.count side (to-parts site.walked scoped.walked) over.scoped) (last (over.helpers calls))
    right false calls = put site.binds over.count side (to-parts site.binds scoped.binds) over.scoped

-- at its own walk
pub walk-over : (before S : Signature) (plan : Plan) (c : Reference) (e : Equation) → IsEntered before S plan → c.part < length plan.parts
    → slice_get (part_at plan c.part).walks c.clause ≡ Some c.walk → IsScopedSite before (walk_site c.walk)
    → equation_of S plan c.part c.clause c.walk ≡ Ok e → IsOver S e
walk-over before S plan c e entered inside own scoped made = site-over before S plan c.part c.clause c.walk (walk_site c.walk) e entered inside own scoped made

pub equation-is_over : EquationIsOver
equation-is_over before S plan c e entered ref walk made =
    walk-over before S plan c e entered ref.part ref.walk
    (record {
      context = walk.context;
      goal = walk.goal;
      substitution = walk.substitution;
      terms = walk.terms;
      binds = walk.binds;
      walked = variables-scoped before (length c.walk.ctx) (length c.walk.ctx) (omega arith);
    })
    made
