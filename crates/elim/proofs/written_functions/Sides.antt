-- The constants of a clause's equation are numbers of entries that are there.
use Rattle.std.proofs.Common.{◌≡◌, ℕ, zero, suc, ◌-◌, ◌<◌, Bool, true, false, cond, nat_lt, Option, Some, None, Ok, List, [], ◌∷◌, ◌++◌, length, take, refl, sym, subst as transport, arith}
use Rattle.std.specs.List.{All}
use Rattle.std.proofs.lemmas.Bool.Decides.{nat_tests}
use Rattle.std.proofs.lemmas.List.Elements.{All-nil, All-cons, All-head, All-tail, All-append, All-take, All-drop}
use Rattle.theory.specs.Terms.{Term, Const, Con}
use Rattle.theory.specs.Eliminators.{no_variable}
use Rattle.theory.specs.Signatures.{Signature, equation}
use Rattle.theory.specs.Spines.{head_of, spine_of}
use Rattle.theory.specs.Substitutions.{extend, fill}
use Rattle.theory.specs.Telescopes.{applied}
use Rattle.core_terms.specs.CaseTrees.{Walk}
use Rattle.core_terms.specs.Patterns as pattern
use Rattle.core_terms.specs.Patterns.{Pat, Pats}
use Rattle.tele_eq.specs.Items.{term_at}
use Rattle.unification.proofs.Constructors.{found}
use Rattle.unification.specs.Built.{Built, built_of}
use Rattle.case_trees.specs.Points.{under_solution}
use Rattle.tree_translation.specs.Naming.{motive_name, step_name}
use Rattle.tree_translation.specs.Plans.{Plan, own_part}
use Rattle.tree_translation.specs.Recursion.{Recursion, parameters_at, recursion_of, scrutinee_at, terms_at}
use Rattle.tree_translation.specs.RightSides.{is_helper}
use Rattle.clause_reports.specs.Equations.{Equation, Site, all_shown, equation_of, in_signature, last_argument, left_side, number_of, own_number, part_at, part_name, pats_of, right_side, shown, shown_built, side_of, values_of_recursion, walk_site, closed_type}
use Rattle.clause_reports.specs.Generated.{all_name}
use Rattle.clause_reports.specs.Reports.{Reference}
use Rattle.function_session.proofs.equation_laws.LeftShowing.{IsAt, equation-is}
use Rattle.elim.proofs.written_functions.Numbers.{AreUnder, applied-under, inst-under, number-under, products-under, renumbered-under, spine-under}

-- ---- the terms that patterns show

built-under : (S : Signature) (n : ℕ) (show : List Term → List Term) (u : Term) (o : Option Built) → built_of S u ≡ o → AreUnder n u
    → ((us : List Term) → All (AreUnder n) us → All (AreUnder n) (show us)) → AreUnder n (shown_built show u o)
built-under S n show u None at h inner = h
built-under S n show u (Some b) at h inner =
    let is = found S u b at in
    let spine = spine-under n u h in
    let parameters : All (AreUnder n) b.parameters =
    transport (All (AreUnder n)) (sym is.parameters) (All-take (AreUnder n) (length b.family.parameters) (spine_of u) spine) in
    let arguments : All (AreUnder n) b.arguments =
    transport (All (AreUnder n)) (sym is.arguments) (All-drop (AreUnder n) (length b.family.parameters) (spine_of u) spine) in
    applied-under n (Con b.n b.number) (b.parameters ++ show b.arguments) tt
    (All-append (AreUnder n) b.parameters (show b.arguments) parameters (inner b.arguments arguments))

mutual
  shown-under : (S : Signature) (n : ℕ) (written : Term → Term) → ((t : Term) → AreUnder n (written t)) → (pat : Pat) (u : Term) → AreUnder n u
      → AreUnder n (shown S written pat u)
  shown-under S n written k (pattern.Dot t) u h = k t
  shown-under S n written k (pattern.Con m number pats) u h =
      built-under S n (all_shown S written pats) u (built_of S u) refl h (λ us all. all-shown-under S n written k pats us all)
  shown-under S n written k pattern.Bind u h = h
  shown-under S n written k pattern.Wild u h = h
  shown-under S n written k pattern.Absurd u h = h

  all-shown-under : (S : Signature) (n : ℕ) (written : Term → Term) → ((t : Term) → AreUnder n (written t)) → (pats : Pats) (us : List Term)
      → All (AreUnder n) us → All (AreUnder n) (all_shown S written pats us)
  all-shown-under S n written k pattern.nil us h = h
  all-shown-under S n written k (pattern.cons pat pats) [] h = h
  all-shown-under S n written k (pattern.cons pat pats) (u ∷ us) h =
      All-cons (AreUnder n) (shown S written pat u) (all_shown S written pats us)
      (shown-under S n written k pat u (All-head (AreUnder n) u us h))
      (all-shown-under S n written k pats us (All-tail (AreUnder n) u us h))

-- ---- values of the recursion

pub term_at-under : (n : ℕ) (ts : List Term) (p : ℕ) → All (AreUnder n) ts → AreUnder n (term_at ts p)
term_at-under n [] p h = tt
term_at-under n (t ∷ ts) zero h = All-head (AreUnder n) t ts h
term_at-under n (t ∷ ts) (suc p) h = term_at-under n ts p (All-tail (AreUnder n) t ts h)

pub terms_at-under : (n : ℕ) (ts : List Term) (positions : List ℕ) → All (AreUnder n) ts → All (AreUnder n) (terms_at positions ts)
terms_at-under n ts [] h = All-nil (AreUnder n)
terms_at-under n ts (p ∷ positions) h =
    All-cons (AreUnder n) (term_at ts p) (terms_at positions ts) (term_at-under n ts p h) (terms_at-under n ts positions h)

filled-under : (n : ℕ) (s : ℕ → Term) (us : List Term) → ((v : ℕ) → AreUnder n (s v)) → All (AreUnder n) us → (v : ℕ) → AreUnder n (fill s us v)
filled-under n s [] each all v = each v
filled-under n s (u ∷ us) each all v = filled-under n (extend s u) us extended (All-tail (AreUnder n) u us all) v
  where
    extended : (k : ℕ) → AreUnder n (extend s u k)
    extended zero = All-head (AreUnder n) u us all
    extended (suc k) = each k

pub solved-under : (n : ℕ) (us : List Term) (t : Term) → All (AreUnder n) us → AreUnder n t → AreUnder n (under_solution us t)
solved-under n us t all h = inst-under n (fill no_variable us) t (λ v. filled-under n no_variable us (λ k. tt) all v) h

named-under : (S : Signature) (name : List ℕ) (ts : List Term) → 0 < length S.entries → All (AreUnder (length S.entries)) ts
    → AreUnder (length S.entries) (applied (Const (number_of S name)) ts)
named-under S name ts some all = applied-under (length S.entries) (Const (number_of S name)) ts (number-under S name some) all

values-under : (S : Signature) (plan : Plan) (r : Recursion) (ts : List Term) → 0 < length S.entries → All (AreUnder (length S.entries)) (own_part plan).tele
    → All (AreUnder (length S.entries)) ts → AreUnder (length S.entries) (values_of_recursion S plan r ts)
values-under S plan r ts some tele h =
    named-under S (all_name r.family plan.level) (parameters_at (own_part plan).tele r ts ++ motive ∷ step ∷ scrutinee_at r ts) some
    (All-append P (parameters_at (own_part plan).tele r ts) (motive ∷ step ∷ scrutinee_at r ts) parameters
    (All-cons P motive (step ∷ scrutinee_at r ts) (fixed (motive_name plan.name))
    (All-cons P step (scrutinee_at r ts) (fixed (step_name plan.name)) (terms_at-under n ts (r.admission.indices ++ r.position ∷ []) h))))
  where
    n : ℕ
    n = length S.entries

    P : Term → Type 0
    P = AreUnder (length S.entries)

    motive : Term
    motive = applied (Const (number_of S (motive_name plan.name))) (terms_at r.admission.fixed ts)

    step : Term
    step = applied (Const (number_of S (step_name plan.name))) (terms_at r.admission.fixed ts)

    fixed : (name : List ℕ) → AreUnder (length S.entries) (applied (Const (number_of S name)) (terms_at r.admission.fixed ts))
    fixed name = named-under S name (terms_at r.admission.fixed ts) some (terms_at-under (length S.entries) ts r.admission.fixed h)

    type : Term
    type = term_at (own_part plan).tele r.position

    parameters : All (AreUnder (length S.entries)) (parameters_at (own_part plan).tele r ts)
    parameters =
        All-take P (length r.family.parameters) (spine_of (under_solution (take r.position ts) type))
        (spine-under (length S.entries) (under_solution (take r.position ts) type)
        (solved-under (length S.entries) (take r.position ts) type (All-take P r.position ts h)
        (term_at-under (length S.entries) (own_part plan).tele r.position tele)))

last-under : (S : Signature) (plan : Plan) (o : Option Recursion) (ts : List Term) → 0 < length S.entries
    → All (AreUnder (length S.entries)) (own_part plan).tele → All (AreUnder (length S.entries)) ts
    → All (AreUnder (length S.entries)) (last_argument S plan o ts)
last-under S plan None ts some tele h = All-nil (AreUnder (length S.entries))
last-under S plan (Some r) ts some tele h =
    All-cons (AreUnder (length S.entries)) (values_of_recursion S plan r (take plan.arity ts)) []
    (values-under S plan r (take plan.arity ts) some tele (All-take (AreUnder (length S.entries)) plan.arity ts h)) (All-nil (AreUnder (length S.entries)))

-- ---- the sides

-- the context, the goal, the substitution and the terms of a walk
pub record IsWalkUnder (n : ℕ) (w : Walk) : Type 0 where
  pub context : All (AreUnder n) w.ctx
  pub goal : AreUnder n w.goal
  pub substitution : All (AreUnder n) w.subst
  pub terms : All (AreUnder n) w.terms

own-under : (S : Signature) (plan : Plan) → plan.base < length S.entries → (c : ℕ) → own_number S plan c < length S.entries
own-under S plan low c = by (nat_lt c plan.base) refl
  where
    by : (b : Bool) → nat_lt c plan.base ≡ b → cond b c (number_of S (part_name plan (c - plan.base))) < length S.entries
    by true is = let below : c < plan.base = grind (arith, nat_tests) in omega (arith, below, low)
    by false is = number-under S (part_name plan (c - plan.base)) (omega (arith, low))

here-under : (S : Signature) (plan : Plan) → plan.base < length S.entries → (t : Term) → AreUnder (length S.entries) (in_signature S plan t)
here-under S plan low t = renumbered-under (length S.entries) (own_number S plan) (own-under S plan low) t

left-under : (S : Signature) (plan : Plan) (k : ℕ) (pats : Pats) (w : Walk) → plan.base < length S.entries
    → All (AreUnder (length S.entries)) (own_part plan).tele → IsWalkUnder (length S.entries) w
    → AreUnder (length S.entries) (left_side S plan k pats (walk_site w))
left-under S plan zero pats w low tele h =
    let written : Term → Term = λ t. in_signature S plan (under_solution w.binds t) in
    named-under S plan.name (all_shown S written pats w.terms) (omega (arith, low))
    (all-shown-under S (length S.entries) written (λ t. here-under S plan low (under_solution w.binds t)) pats w.terms h.terms)
left-under S plan (suc k) pats w low tele h =
    named-under S (part_name plan (suc k)) (w.subst ++ last_argument S plan (recursion_of S plan) w.terms) (omega (arith, low))
    (All-append (AreUnder (length S.entries)) w.subst (last_argument S plan (recursion_of S plan) w.terms) h.substitution
    (last-under S plan (recursion_of S plan) w.terms (omega (arith, low)) tele h.terms))

right-under : (S : Signature) (plan : Plan) (side : Term) (w : Walk) → plan.base < length S.entries → All (AreUnder (length S.entries)) (own_part plan).tele
    → IsWalkUnder (length S.entries) w → AreUnder (length S.entries) (right_side S plan side (walk_site w))
right-under S plan side w low tele h = by (is_helper plan.base (head_of side))
  where
    site : Site
    site = walk_site w

    by : (b : Bool)
        → AreUnder (length S.entries)
        (cond b (applied (in_signature S plan (under_solution (walk_site w).walked side)) (last_argument S plan (recursion_of S plan) w.terms))
        (in_signature S plan (under_solution w.binds side)))
    by true =
        applied-under (length S.entries) (in_signature S plan (under_solution site.walked side)) (last_argument S plan (recursion_of S plan) w.terms)
        (here-under S plan low (under_solution site.walked side))
        (last-under S plan (recursion_of S plan) w.terms (omega (arith, low)) tele h.terms)
    by false = here-under S plan low (under_solution w.binds side)

-- the closed type of the equation
pub type-under : (S : Signature) (plan : Plan) (c : Reference) (e : Equation) → plan.base < length S.entries
    → All (AreUnder (length S.entries)) (own_part plan).tele → IsWalkUnder (length S.entries) c.walk
    → equation_of S plan c.part c.clause c.walk ≡ Ok e → AreUnder (length S.entries) (closed_type (part_at plan c.part).level e)
type-under S plan c e low tele h made =
    let n = length S.entries in
    let pats = pats_of (part_at plan c.part) c.clause in
    let side = side_of (part_at plan c.part) c.clause in
    let is : IsAt S plan c.part pats side (walk_site c.walk) e = equation-is S plan c.part pats side (walk_site c.walk) e made in
    products-under n e.context (equation (part_at plan c.part).level e.type e.left e.right)
    (transport (All (AreUnder n)) (sym is.context) h.context) (
      ((tt, transport (AreUnder n) (sym is.type) h.goal), transport (AreUnder n) (sym is.left) (left-under S plan c.part pats c.walk low tele h)),
      transport (AreUnder n) (sym is.right) (right-under S plan side c.walk low tele h),
    )
