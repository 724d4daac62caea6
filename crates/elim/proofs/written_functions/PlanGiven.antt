-- The plan of a function has, part by part, what the walks of its clauses give.
use Rattle.std.proofs.Common.{◌≡◌, ℕ, zero, suc, ◌+◌, ◌≤◌, Option, Some, List, [], ◌∷◌, drop, length, slice_get, get_or, Result, Ok, Err, IfOk, refl, sym, ap, ◌∙◌, subst as transport, arith}
use Rattle.theory.specs.Terms.{Term}
use Rattle.theory.specs.Telescopes.{Telescope}
use Rattle.theory.specs.Signatures.{Signature}
use Rattle.theory.specs.SignatureScopes.{IsScopedTelescope}
use Rattle.theory.specs.WellFormed.{provisional}
use Rattle.theory.proofs.ScopedTypes.{length-variables}
use Rattle.core_terms.proofs.Answers.{Answers, and_next-has}
use Rattle.core_terms.specs.CaseTrees.{Tree}
use Rattle.tree_translation.specs.structural_rec.Choices.{choose}
use Rattle.case_trees.specs.Trees.{split_of}
use Rattle.tree_translation.specs.Entries.{ordered_variables}
use Rattle.tree_translation.specs.Plans as plans
use Rattle.tree_translation.specs.Plans.{Part, Plan, no_part}
use Rattle.tree_translation.specs.Recursion.{Recursion, order_of, ordered_telescope, ordered_term}
use Rattle.clause_reports.specs.Equations.{part_at}
use Rattle.tree_translation.specs.Naming.{part_named}
use Rattle.clause_reports.specs.elaboration.Functions.{finished, first_domains, helpers_finished, own_finished, own_part, plan_of, position_chosen, recursion_in}
use Rattle.clause_reports.specs.elaboration.Refusals.{walking}
use Rattle.clause_reports.specs.elaboration.Walking.{Opened, Walked, walk_clauses}
use Rattle.function_checks.proofs.function_clauses.OwnParts.{own-columns, own-part-for, part-walked}
use Rattle.function_plans.proofs.Orders.{in-is}
use Rattle.function_plans.proofs.SameChoices.{provisional-same, recursion-same}
use Rattle.function_plans.proofs.Starts.{start-clauses, start-given, starts}
use Rattle.function_plans.specs.CodePlans.{IsOwnWalked}
use Rattle.entry_laws.proofs.order_scopes.RecursionOrders.{recursion-ordered}
use Rattle.tree_translation.specs.structural_rec.Laws.{IsTelescopeOrder}
use Rattle.case_trees.specs.Laws.{IsGiven}
use Rattle.case_trees.specs.Scoped.{AreClausesFor}
use Rattle.function_session.proofs.function_lines.SamePlans.{walked_of}
use Rattle.function_session.specs.function_lines.Conditions.{IsFunctionOver}
use Rattle.function_session.specs.function_lines.Opened.{session_at}
use Rattle.resolve.specs.Functions.{Function}
use Rattle.elim.specs.written_functions.Clauses.{parts_of}
use Rattle.function_session.proofs.plan_laws.GivenClauses.{AreAt}
use Rattle.elim.proofs.written_functions.Walked.{ArePartsGiven, Gives, clauses-gives, clauses_of, ends-ok, is-ok}

-- ---- parts that are finished

-- where the tree of a part starts
pub record TreeStart : Type 0 where
  pub context : Telescope
  pub goal : Term
  pub terms : List Term

-- the function's own part from an order of its variables, a helper from its columns
abbrev pub start_ordered : (order : List ℕ) → Opened → TreeStart
start_ordered order part = record {
  context = ordered_telescope part.tele order;
  goal = ordered_term (length part.tele) order part.goal;
  terms = ordered_variables order (length part.tele);
}

abbrev pub start_plain : Opened → TreeStart
start_plain part = record { context = part.tele; goal = part.goal; terms = part.terms }

-- a part of a plan is a walked one, with the tree of its clauses from a start on
pub record IsFinished (T : Signature) (start : Opened → TreeStart) (w : Walked) (p : Part) : Type 0 where
  pub level : ℕ
  pub tree : Tree
  pub is : p ≡ finished level w tree
  pub units : ℕ
  pub splits : (split_of T (start w.part).context (start w.part).goal (start w.part).terms w.clauses units).0 ≡ Ok tree

abbrev pub AreFinished : Signature → List Walked → List Part → Type 0
AreFinished T [] [] = Unit {0}
AreFinished T (w ∷ walked) (p ∷ parts) = IsFinished T start_plain w p × AreFinished T walked parts
AreFinished T walked parts = ⊥

own-is : (S : Signature) (f : Function) (r : Option Recursion) (w : Walked) (left : ℕ)
    → Answers (IsFinished (provisional S f.name f.type) (start_ordered (order_of (length w.part.tele) r)) w) (own_finished (session_at S f) r w left)
own-is S f r w left =
    let T = provisional S f.name f.type in
    let count = length w.part.tele in
    let order = order_of count r in
    let split = split_of T (ordered_telescope w.part.tele order) (ordered_term count order w.part.goal) (ordered_variables order count) w.clauses left in
    and_next-has (λ t. split.0 ≡ Ok t) (IsFinished T (start_ordered order) w) (walking T f.name split) _ (ends-ok T f.name split.0) (λ t rest is.
    record { level = w.part.level; tree = t; is = refl; units = left; splits = is })

helpers-are : (S : Signature) (f : Function) (r : Option Recursion) (level number : ℕ) (helpers : List Walked) (left : ℕ)
    → Answers (AreFinished (provisional S f.name f.type) helpers) (helpers_finished (session_at S f) r level number helpers left)
helpers-are S f r level number [] left = tt
helpers-are S f r level number (w ∷ helpers) left =
    let T = provisional S f.name f.type in
    let P = AreFinished T (w ∷ helpers) in
    let split = split_of T w.part.tele w.part.goal w.part.terms w.clauses left in
    let name = part_named f.name number in
    and_next-has (λ t. split.0 ≡ Ok t) P (walking T name split) _ (ends-ok T name split.0) (λ t rest is.
    and_next-has (AreFinished T helpers) P (helpers_finished (session_at S f) r level (number + 1) helpers rest) _
    (helpers-are S f r level (number + 1) helpers rest) (λ parts end all. (
      record { level = _; tree = t; is = refl; units = left; splits = is },
      all,
    )))

-- ---- the plan

-- the function before its clauses are walked
abbrev pub opened_own : Function → (level : ℕ) → Opened
opened_own f level = own_part f level

-- the parts of a plan are those that are walked
pub record IsPlanGiven (S : Signature) (f : Function) (plan : Plan) : Type 0 where
  pub base : plan.base ≡ length S.entries
  pub name : plan.name ≡ f.name
  pub type : plan.type ≡ f.type
  pub arity : plan.arity ≡ f.arity
  pub long : length (first_domains f.arity f.type) ≡ f.arity
  pub own : Walked
  pub helpers : List Walked
  pub level : ℕ
  pub own_opened : own.part ≡ opened_own f level
  pub own_part : Part
  pub helper_parts : List Part
  pub parts : plan.parts ≡ own_part ∷ helper_parts
  pub order : List ℕ
  pub own_is : IsFinished (provisional S f.name f.type) (start_ordered order) own own_part
  pub helpers_are : AreFinished (provisional S f.name f.type) helpers helper_parts
  pub lists : clauses_of (own ∷ helpers) ≡ parts_of f
  pub given : ArePartsGiven S f (own ∷ helpers) 0 (own ∷ helpers)
  pub own_start : IsGiven (provisional S f.name f.type) (start_ordered order own.part).context (start_ordered order own.part).goal (start_ordered order own.part).terms
  pub own_clauses : AreClausesFor (provisional S f.name f.type) (start_ordered order own.part).terms own.clauses
  pub own_scoped : IsScopedTelescope (provisional S f.name f.type) 0 (plans.own_part plan).tele

at-places : (all : List Walked) (n : ℕ) (helpers : List Walked) → ((i : ℕ) (w : Walked) → slice_get helpers i ≡ Some w → slice_get all (n + i) ≡ Some w)
    → AreAt all n helpers
at-places all n [] h = tt
at-places all n (w ∷ helpers) h = (
  transport (λ m. slice_get all m ≡ Some w) (let e : n + 0 ≡ n = omega arith in e) (h 0 w refl),
  at-places all (n + 1) helpers (λ i v at. transport (λ m. slice_get all m ≡ Some v) (let e : n + suc i ≡ n + 1 + i = omega arith in e) (h (suc i) v at)),
)

pub with-ok : {A E : Type 0} (P : A → Type 0) (r : Result A E) → IfOk r P → IfOk r (λ a. (r ≡ Ok a) × P a)
with-ok P (Ok a) h = (refl, h)
with-ok P (Err e) h = tt

pub plan-given : (S : Signature) (f : Function) (level left : ℕ) → IsFunctionOver (provisional S f.name f.type) f
    → Answers (IsPlanGiven S f) (plan_of S f level left)
plan-given S f level left over =
    let T = provisional S f.name f.type in
    let s = session_at S f in
    let part = own_part f level in
    let count = length part.tele in
    let P = IsPlanGiven S f in
    let fits = own-part-for over.before T f level over.prefix over.ready over.resolved in
    let wide : f.arity ≤ length part.terms = omega (arith, length-variables f.arity) in
    let walked = walk_clauses s 0 part 0 1 f.clauses left in
    let H = Gives S f part 0 1 f.clauses in
    and_next-has (λ given. (walked.0 ≡ Ok given) × H given) P walked _
    (with-ok H walked.0 (clauses-gives S f 0 part 0 1 f.clauses left (omega arith) wide fits.part.given fits.clauses)) (λ given rest gives.
    let h = gives.1 in
    let w = walked_of f level given in
    let all = w ∷ given.helpers in
    let at : AreAt all 1 given.helpers =
    at-places all 1 given.helpers (λ i v e. transport (λ m. slice_get all m ≡ Some v) (let s : suc i ≡ 1 + i = omega arith in s) e) in
    let chosen = position_chosen s (choose S part.tele s.own given.uses) in
    and_next-has (λ position. chosen ≡ Ok position) P (chosen, rest) _ (is-ok chosen) (λ position more is.
    let r = recursion_in S part.tele position in
    let order = order_of count r in
    and_next-has (IsFinished T (start_ordered order) w) P (own_finished s r w more) _ (own-is S f r w more) (λ own_there end o.
    and_next-has (AreFinished T given.helpers) P (helpers_finished s r level 1 given.helpers end) _ (helpers-are S f r level 1 given.helpers end)
    (λ helpers last all_finished.
    let own_walked : IsOwnWalked T w = record { walked = part-walked T w fits; columns = own-columns over.before T f level over.resolved } in
    let same = in-is T part.tele position ∙ sym (recursion-same S T (provisional-same S f.name f.type) part.tele position) in
    let ordered : IsTelescopeOrder part.tele order = transport (IsTelescopeOrder part.tele) (ap (order_of count) same) (recursion-ordered T part.tele position) in
    let start = starts T w (ordered_telescope part.tele order) count order own_walked refl ordered refl in
    record {
      base = refl;
      name = refl;
      type = refl;
      arity = refl;
      long = sym (own-columns over.before T f level over.resolved) ∙ length-variables f.arity;
      own = w;
      helpers = given.helpers;
      level = level;
      own_opened = refl;
      own_part = own_there;
      helper_parts = helpers;
      parts = refl;
      order = order;
      own_is = o;
      helpers_are = all_finished;
      lists = ap (λ lists. f.clauses ∷ lists) h.lists;
      given = (record { wide = wide; walkable = record { given = fits.part.given; fitting = fits.clauses }; given = h.each all at }, h.helpers all at);
      own_start =
          start-given T w (ordered_telescope part.tele order) count order start (ordered_term count order part.goal) (ordered_variables order count) refl refl;
      own_clauses = start-clauses T w (ordered_telescope part.tele order) count order start (ordered_variables order count) refl;
      own_scoped = transport (IsScopedTelescope T 0) (sym (ap (λ (p : Part). p.tele) o.is)) fits.part.given.scoped.context;
    }))))

-- ---- parts by their numbers

-- part k of a plan is made of walked part k
pub record IsPartMade (T : Signature) (w : Walked) (p : Part) : Type 0 where
  pub start : Opened → TreeStart
  pub finished : IsFinished T start w p

pub own-made : (S : Signature) (f : Function) (plan : Plan) (h : IsPlanGiven S f plan) → IsFinished (provisional S f.name f.type) (start_ordered h.order) h.own (part_at plan 0)
own-made S f plan h =
    transport (IsFinished (provisional S f.name f.type) (start_ordered h.order) h.own)
    (sym (ap (λ parts. get_or parts 0 no_part) h.parts)) h.own_is

helper-there : (T : Signature) (ws : List Walked) (ps : List Part) (k : ℕ) (w : Walked) → AreFinished T ws ps → slice_get ws k ≡ Some w
    → IsFinished T start_plain w (get_or ps k no_part)
helper-there T [] [] k w h at = absurd (cc)
helper-there T [] (p ∷ ps) k w h at = absurd h
helper-there T (v ∷ ws) [] k w h at = absurd h
helper-there T (v ∷ ws) (p ∷ ps) zero w h at = transport (λ x. IsFinished T start_plain x p) (let same : v ≡ w = cc in same) h.0
helper-there T (v ∷ ws) (p ∷ ps) (suc k) w h at = helper-there T ws ps k w h.1 at

pub helper-made : (S : Signature) (f : Function) (plan : Plan) (h : IsPlanGiven S f plan) (k : ℕ) (w : Walked) → slice_get h.helpers k ≡ Some w
    → IsFinished (provisional S f.name f.type) start_plain w (part_at plan (suc k))
helper-made S f plan h k w at =
    transport (IsFinished (provisional S f.name f.type) start_plain w) (sym (ap (λ parts. get_or parts (suc k) no_part) h.parts))
    (helper-there (provisional S f.name f.type) h.helpers h.helper_parts k w h.helpers_are at)

pub part-made : (S : Signature) (f : Function) (plan : Plan) (h : IsPlanGiven S f plan) (k : ℕ) (w : Walked) → slice_get (h.own ∷ h.helpers) k ≡ Some w
    → IsPartMade (provisional S f.name f.type) w (part_at plan k)
part-made S f plan h zero w at =
    transport (λ v. IsPartMade (provisional S f.name f.type) v (part_at plan 0)) (let same : h.own ≡ w = cc in same)
    (record { start = start_ordered h.order; finished = own-made S f plan h })
part-made S f plan h (suc k) w at = record { start = start_plain; finished = helper-made S f plan h k w at }

listed-at : (ws : List Walked) (k : ℕ) (w : Walked) → slice_get ws k ≡ Some w → slice_get (clauses_of ws) k ≡ Some w.clauses
listed-at [] k w at = absurd (cc)
listed-at (v ∷ ws) zero w at = let same : v ≡ w = cc in ap (λ (x : Walked). Some x.clauses) same
listed-at (v ∷ ws) (suc k) w at = listed-at ws k w at

-- its clauses are the k-th ones that are written
pub clauses-listed : (S : Signature) (f : Function) (plan : Plan) (h : IsPlanGiven S f plan) (k : ℕ) (w : Walked) → slice_get (h.own ∷ h.helpers) k ≡ Some w
    → slice_get (parts_of f) k ≡ Some w.clauses
clauses-listed S f plan h k w at = transport (λ ls. slice_get ls k ≡ Some w.clauses) h.lists (listed-at (h.own ∷ h.helpers) k w at)

finished-long : (T : Signature) (ws : List Walked) (ps : List Part) → AreFinished T ws ps → length ps ≡ length ws
finished-long T [] [] h = refl
finished-long T [] (p ∷ ps) h = absurd h
finished-long T (w ∷ ws) [] h = absurd h
finished-long T (w ∷ ws) (p ∷ ps) h = ap suc (finished-long T ws ps h.1)

pub lists-long : (ws : List Walked) → length (clauses_of ws) ≡ length ws
lists-long [] = refl
lists-long (w ∷ ws) = ap suc (lists-long ws)

-- a plan has as many helpers as there are clauses inside of others
pub helpers-count : (S : Signature) (f : Function) (plan : Plan) (h : IsPlanGiven S f plan) → length (parts_of f) ≡ suc (length (drop 1 plan.parts))
helpers-count S f plan h =
    sym (ap length h.lists)
    ∙ (lists-long (h.own ∷ h.helpers)
    ∙ (ap suc (sym (finished-long (provisional S f.name f.type) h.helpers h.helper_parts h.helpers_are))
    ∙ ap (λ parts. suc (length (drop 1 parts))) (sym h.parts)))
