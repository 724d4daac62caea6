-- In the plan of a function no call is the decreasing argument of another one.
use Rattle.std.proofs.Common.{◌≡◌, ℕ, zero, suc, ◌+◌, ◌==◌, ◌<◌, false, Option, Some, None, IfOk, Ok, List, [], ◌∷◌, length, map, take, drop, get_or, slice_get, sym, ap, ◌∙◌, subst as transport, arith}
use Rattle.std.specs.List.{All}
use Rattle.std.proofs.lemmas.Bool.Decides.{nat_tests}
use Rattle.std.proofs.lemmas.List.{append-nil}
use Rattle.std.proofs.lemmas.List.Elements.{All-append, All-cons, All-nil, All-weaker}
use Rattle.std.proofs.lemmas.Option.{none-some}
use Rattle.theory.specs.Terms.{Term, Var, Sort, Const, top}
use Rattle.theory.specs.Signatures.{Signature}
use Rattle.theory.specs.SignatureScopes.{IsScoped}
use Rattle.theory.specs.Spines.{spine_of}
use Rattle.theory.specs.Substitutions.{fill, inst}
use Rattle.theory.specs.Eliminators.{no_variable}
use Rattle.theory.specs.WellFormed.{provisional}
use Rattle.theory.proofs.Instances.{inst-var}
use Rattle.theory.proofs.Lists.{some_is}
use Rattle.core_terms.specs.CaseTrees.{Walk}
use Rattle.core_terms.specs.Clauses.{Clause, Clauses}
use Rattle.case_trees.specs.Points.{under_solution}
use Rattle.clause_reports.specs.elaboration.Functions.{helpers_finished, own_finished, own_part, plan_of, position_chosen, recursion_in}
use Rattle.clause_reports.specs.elaboration.Refusals.{answers}
use Rattle.clause_reports.specs.elaboration.Walking.{Given, Opened, Walked, helper_arguments, use_of, walk_clauses}
use Rattle.resolve.specs.Functions.{Function}
use Rattle.resolve.specs.Scoping.{AreClauses}
use Rattle.tree_translation.specs.structural_rec.Calls.{calls, calls_in}
use Rattle.tree_translation.specs.structural_rec.Choices.{choose}
use Rattle.tree_translation.specs.structural_rec.Fitting.{AllFit, Fits}
use Rattle.tree_translation.specs.structural_rec.Positions.{Admission}
use Rattle.tree_translation.specs.structural_rec.Uses.{Use}
use Rattle.tree_translation.proofs.structural_rec.ChosenPositions.{least-usable}
use Rattle.tree_translation.specs.Conditions.{choice_of}
use Rattle.tree_translation.specs.Plans.{Part}
use Rattle.tree_translation.specs.Recursion.{Recursion}
use Rattle.with_abstraction.specs.Abstractions.{Abstracted}
use Rattle.leaf_terms.specs.CallsApart.{CallsStandApart, PlanCallsApart}
use Rattle.function_session.specs.plan_laws.Conditions.{IsFunctionFor}
use Rattle.function_session.specs.plan_laws.Laws.{PlanStandsApart}
use Rattle.function_session.proofs.plan_laws.Answering.{if-ok, next-has}
use Rattle.function_session.proofs.plan_laws.GivenClauses as given
use Rattle.function_session.proofs.plan_laws.GivenClauses.{AreGiven, AreHelpersGiven, IsAmong, IsHelperGiven, IsRightGiven}
use Rattle.function_session.proofs.plan_laws.OpenedScopes.{session}
use Rattle.function_session.proofs.plan_laws.Planned.{chosen-is, own-given}
use Rattle.function_session.proofs.plan_laws.PlannedClauses.{plan_with}
use Rattle.function_session.proofs.plan_laws.PlannedParts as parts
use Rattle.function_session.proofs.plan_laws.PlannedParts.{AreFinished, IsOwnFinished, helpers-finished, own-finished}
use Rattle.function_session.proofs.plan_laws.StrictArguments.{HasNoCallAt, applied-apart, fits-apart, stand-apart}
use Rattle.function_session.proofs.plan_laws.WalksOver.{IsPartOver, clause-walk}

-- ---- arguments of helpers

variables-apart : (base position : ℕ) (xs : List ℕ) → All (CallsStandApart base position) (map Var xs)
variables-apart base position [] = All-nil (CallsStandApart base position)
variables-apart base position (x ∷ xs) = All-cons (CallsStandApart base position) (Var x) (map Var xs) tt (variables-apart base position xs)

arguments-apart : (base position : ℕ) (a : Abstracted) (t : Term) → CallsStandApart base position t → All (CallsStandApart base position) (helper_arguments a t)
arguments-apart base position a t h =
    All-append (CallsStandApart base position) (map Var (take a.place a.order)) (t ∷ map Var (drop a.place a.order))
    (variables-apart base position (take a.place a.order))
    (All-cons (CallsStandApart base position) t (map Var (drop a.place a.order)) h (variables-apart base position (drop a.place a.order)))

-- ---- what is given, where each call fits the position

module _ (S : Signature) (f : Function) (is : IsFunctionFor S f) (all : List Walked) (uses : List Use) (count position : ℕ) (a : Admission)
    (fit : AllFit S (length S.entries) count position a uses) where
  body-apart : (k number n : ℕ) (w : Walk) (body : Term) → All (IsScoped S n) w.terms → IsAmong uses (use_of k number w body)
      → All (HasNoCallAt (length S.entries) position) (calls (length S.entries) body)
  body-apart k number n w body scoped among =
      All-weaker (Fits S count position a w.terms) (HasNoCallAt (length S.entries) position) (λ c fits. fits-apart S S n count position a w.terms c scoped fits)
      (calls (length S.entries) body)
      (transport (λ (u : Use). All (Fits S count position a u.terms) (calls (length S.entries) u.body)) (among.3 ∙ among.4) (fit among.0 among.1 among.2))

  right-apart : (k number n : ℕ) (w : Walk) (c : Clause) (side : Term) → All (IsScoped S n) w.terms → IsRightGiven S f.name f.type all uses k number w c side
      → CallsStandApart (length S.entries) position side
  right-apart k number n w _ _ scoped (given.term pats binds side said) =
      stand-apart (length S.entries) position 0 (fill no_variable w.binds) side (under_solution w.binds side) [] (sym (append-nil (spine_of (under_solution w.binds side))))
      (body-apart k number n w (under_solution w.binds side) scoped said)
  right-apart k number n w _ _ scoped (given.scrutinee pats binds t inner helper o h at later same open_is t' said) =
      let u = under_solution w.binds t in
      applied-apart (length S.entries) position (Const (length S.entries + helper)) (helper_arguments o.abstraction u) (other (length S.entries) helper later) tt
      (arguments-apart (length S.entries) position o.abstraction u
      (stand-apart (length S.entries) position 0 Var u u [] (ap spine_of (sym (inst-var u)) ∙ sym (append-nil (spine_of (inst Var u))))
      (transport (λ v. All (HasNoCallAt (length S.entries) position) (calls_in (length S.entries) 0 u v)) (sym (inst-var u)) (body-apart k number n w u scoped said))))
    where
      other : (base helper : ℕ) → k < helper → (base + helper == base) ≡ false
      other base helper later = grind (arith, nat_tests)
  right-apart k number n w _ _ scoped (given.absurd_side pats binds) = tt

  sides-apart : (k : ℕ) (part : Opened) (number : ℕ) (clauses : Clauses) (walks : List Walk) (sides : List Term) → IsPartOver S part
      → AreClauses (provisional S f.name f.type) (length part.terms) clauses → AreGiven S f.name f.type all uses k part number clauses walks sides
      → (n : ℕ) → CallsStandApart (length S.entries) position (get_or sides n (Sort 0))
  sides-apart k part _ _ _ _ over resolved (given.none number) n = tt
  sides-apart k part _ _ _ _ over resolved (given.more number c clauses w walks side sides one rest) zero =
      right-apart k number (length w.ctx) w c side (clause-walk S f is part c number one.units w over resolved.0 one.walks).0.terms one.right
  sides-apart k part _ _ _ _ over resolved (given.more number c clauses w walks side sides one rest) (suc n) =
      sides-apart k part (number + 1) clauses walks sides over resolved.1 rest n

  helper-apart : (n : ℕ) (w : Walked) → IsHelperGiven S f.name f.type all uses n w → (clause : ℕ) → CallsStandApart (length S.entries) position (get_or w.sides clause (Sort 0))
  helper-apart n w h clause = sides-apart n w.part 0 w.clauses w.walks w.sides h.part h.clauses h.given clause

  helpers-apart : (r : Option Recursion) (level n : ℕ) (helpers : List Walked) (made : List Part) → AreFinished (provisional S f.name f.type) r level helpers made
      → AreHelpersGiven S f.name f.type all uses n helpers → (k : ℕ) (part : Part) → slice_get made k ≡ Some part → (clause : ℕ)
      → CallsStandApart (length S.entries) position (get_or part.sides clause (Sort 0))
  helpers-apart r level n _ _ parts.none given k part at clause = absurd (none-some part at)
  helpers-apart r level n _ _ (parts.more w tree helpers made units e rest) given zero part at clause =
      transport (λ (p : Part). CallsStandApart (length S.entries) position (get_or p.sides clause (Sort 0))) (some_is at) (helper-apart n w given.0 clause)
  helpers-apart r level n _ _ (parts.more w tree helpers made units e rest) given (suc k) part at clause =
      helpers-apart r level (n + 1) helpers made rest given.1 k part at clause

-- ---- plans

module _ (S : Signature) (f : Function) (is : IsFunctionFor S f) (level : ℕ) (low : level < top) where
  plan-apart : (left : ℕ) → IfOk (plan_of S f level left).0 PlanCallsApart
  plan-apart left =
      let s = session S f.name f.type in
      let part = own_part f level in
      next-has PlanCallsApart (walk_clauses s 0 part 0 1 f.clauses left) _ (λ given rest e1.
      let walked : Walked = record { part = part; clauses = f.clauses; walks = given.walks; sides = given.sides } in
      next-has PlanCallsApart (answers (position_chosen s (choose S part.tele s.own given.uses)) rest) _ (λ position further e2.
      let r = recursion_in S part.tele position in
      next-has PlanCallsApart (own_finished s r walked further) _ (λ own end e3.
      next-has PlanCallsApart (helpers_finished s r level 1 given.helpers end) _ (λ helpers last e4.
      let done : IsOwnFinished (provisional S f.name f.type) r walked own =
      if-ok (IsOwnFinished (provisional S f.name f.type) r walked) (own_finished s r walked further).0 own e3 (own-finished s r walked further) in
      let finish : AreFinished (provisional S f.name f.type) r level given.helpers helpers =
      if-ok (AreFinished (provisional S f.name f.type) r level given.helpers) (helpers_finished s r level 1 given.helpers end).0 helpers e4
      (helpers-finished s r level 1 given.helpers end) in
      at-position given position own helpers r left e1 (chosen-is s (choose S part.tele s.own given.uses) position e2) done finish))))
    where
      at-position : (given : Given) (position : Option ℕ) (own : Part) (helpers : List Part) (r : Option Recursion) (left : ℕ)
          → (walk_clauses (session S f.name f.type) 0 (own_part f level) 0 1 f.clauses left).0 ≡ Ok given
          → choose S (own_part f level).tele (length S.entries) given.uses ≡ choice_of position
          → IsOwnFinished (provisional S f.name f.type) r (record { part = own_part f level; clauses = f.clauses; walks = given.walks; sides = given.sides }) own
          → AreFinished (provisional S f.name f.type) r level given.helpers helpers → PlanCallsApart (plan_with S f level position (own ∷ helpers))
      at-position given None own helpers r left walks chosen done finish k part at clause = tt
      at-position given (Some j) own helpers r left walks chosen done finish k part at clause = by k at
        where
          by : (k : ℕ) → slice_get (own ∷ helpers) k ≡ Some part → CallsStandApart (length S.entries) j (get_or part.sides clause (Sort 0))
          by zero at =
              let usable = ((least-usable S (own_part f level).tele (length S.entries) given.uses j).0 chosen).usable in
              let all = own-given S f is level low given left walks in
              transport (λ (p : Part). CallsStandApart (length S.entries) j (get_or p.sides clause (Sort 0))) (sym done.is ∙ some_is at)
              (helper-apart S f is (record { part = own_part f level; clauses = f.clauses; walks = given.walks; sides = given.sides } ∷ given.helpers) given.uses
              (length (own_part f level).tele) j usable.admission usable.fit 0 (record { part = own_part f level; clauses = f.clauses; walks = given.walks; sides = given.sides }) all.0 clause)
          by (suc k) at =
              let usable = ((least-usable S (own_part f level).tele (length S.entries) given.uses j).0 chosen).usable in
              let all = own-given S f is level low given left walks in
              helpers-apart S f is (record { part = own_part f level; clauses = f.clauses; walks = given.walks; sides = given.sides } ∷ given.helpers) given.uses
              (length (own_part f level).tele) j usable.admission usable.fit r level 1 given.helpers helpers finish all.1 k part at clause

pub plan-stands-apart : PlanStandsApart
plan-stands-apart S f level left plan is e low = if-ok PlanCallsApart (plan_of S f level left).0 plan e (plan-apart S f is level low left)
