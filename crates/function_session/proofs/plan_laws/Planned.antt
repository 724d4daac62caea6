-- The plan of a function is one.
use Rattle.std.proofs.Common.{◌≡◌, ℕ, zero, suc, ◌+◌, ◌<◌, Option, Some, None, option_and_then, List, [], ◌∷◌, length, slice_get, Ok, IfOk, refl, sym, ap, ◌∙◌, subst as transport, arith}
use Rattle.theory.specs.Terms.{Term, Pi, Const, top}
use Rattle.theory.specs.Telescopes.{Telescope, products}
use Rattle.theory.specs.Signatures.{Signature, Definition, IsPrefix}
use Rattle.theory.specs.WellFormed.{provisional}
use Rattle.theory.proofs.Pushing.{prefix_reflexive, push_is_longer}
use Rattle.theory.proofs.ScopedTypes.{length-variables}
use Rattle.core_terms.specs.CaseTrees.{Tree}
use Rattle.core_terms.specs.Clauses as clause
use Rattle.case_trees.specs.Laws.{IsGiven}
use Rattle.case_trees.specs.Scoped.{AreClausesFor}
use Rattle.case_trees.specs.Trees.{split_of}
use Rattle.clause_reports.specs.elaboration.Functions.{after_domains, first_domains, finished, helpers_finished, own_finished, own_part, plan_of, position_chosen, recursion_in}
use Rattle.clause_reports.specs.elaboration.Refusals.{answers}
use Rattle.clause_reports.specs.elaboration.Walking.{Given, Session, Walked, walk_clauses}
use Rattle.function_checks.proofs.function_clauses.Fitting.{clauses-for}
use Rattle.function_checks.proofs.function_clauses.OwnParts.{own-columns, own-part-for}
use Rattle.function_plans.proofs.Orders.{in-is}
use Rattle.function_plans.proofs.Starts.{IsStart, start-clauses, start-given, starts}
use Rattle.function_checks.specs.function_walks.Conditions.{IsPart, IsPartFor}
use Rattle.entry_laws.proofs.order_scopes.RecursionOrders.{recursion-ordered}
use Rattle.resolve.specs.Functions.{Function}
use Rattle.tree_translation.specs.structural_rec.Choices.{At, Choice, NotRecursive, NotSmaller, choose}
use Rattle.tree_translation.specs.structural_rec.Uses.{Use}
use Rattle.tree_translation.specs.Conditions.{IsHelper, IsPlanned, choice_of}
use Rattle.tree_translation.specs.Entries.{ordered_variables}
use Rattle.tree_translation.specs.Plans.{Part, Plan}
use Rattle.tree_translation.specs.Recursion.{Recursion, order_of, ordered_telescope, ordered_term, recursion_at}
use Rattle.function_session.specs.plan_laws.Conditions.{IsFunctionFor}
use Rattle.function_session.specs.plan_laws.Laws.{IsPlanOf, PlanIsOfFunction, PlanIsPlanned}
use Rattle.function_session.proofs.plan_laws.Answering.{if-ok, next-has}
use Rattle.function_session.proofs.plan_laws.GivenClauses.{AreAt, AreHelpersGiven, AreUsed, Gives, IsAmong, IsHelperGiven, clauses-has}
use Rattle.function_session.proofs.plan_laws.OpenedScopes.{session}
use Rattle.function_session.proofs.plan_laws.PlannedClauses.{plan_with}
use Rattle.function_session.proofs.plan_laws.PlannedParts.{AreFinished, IsOwnFinished, all-paired, helpers-finished, helpers-planned, own-finished, part-planned}
use Rattle.function_plans.proofs.SameChoices.{choice-same}
use Rattle.function_session.proofs.plan_laws.SameReduction.{not-read}
use Rattle.function_session.proofs.plan_laws.WalksOver.{IsPartOver}

-- ---- all of them, and all uses

later-at : (w : Walked) (all : List Walked) (n : ℕ) (helpers : List Walked) → AreAt all n helpers → AreAt (w ∷ all) (n + 1) helpers
later-at w all n [] h = tt
later-at w all n (v ∷ helpers) h =
    let e : suc n ≡ n + 1 = omega arith in
    (transport (λ k. slice_get (w ∷ all) k ≡ Some v) e h.0, later-at w all (n + 1) helpers h.1)

at-themselves : (helpers : List Walked) → AreAt helpers 0 helpers
at-themselves [] = tt
at-themselves (w ∷ helpers) = (refl, later-at w helpers 0 helpers (at-themselves helpers))

later-among : (u v : Use) (all : List Use) → IsAmong all v → IsAmong (u ∷ all) v
later-among u v all h = let low : suc h.0 < suc (length all) = omega (arith, h.2) in (suc h.0, h.1, low, h.3, h.4)

later-used : (u : Use) (all uses : List Use) → AreUsed all uses → AreUsed (u ∷ all) uses
later-used u all [] h = tt
later-used u all (v ∷ uses) h = (later-among u v all h.0, later-used u all uses h.1)

first-among : (u : Use) (uses : List Use) → IsAmong (u ∷ uses) u
first-among u uses = let low : 0 < suc (length uses) = omega arith in (0, u, low, refl, refl)

used-themselves : (uses : List Use) → AreUsed uses uses
used-themselves [] = tt
used-themselves (u ∷ uses) = (first-among u uses, later-used u uses uses (used-themselves uses))

-- ---- the position

pub chosen-is : (s : Session) (c : Choice) (position : Option ℕ) → position_chosen s c ≡ Ok position → c ≡ choice_of position
chosen-is s NotRecursive position e = let same : None ≡ position = cc in ap choice_of same
chosen-is s (At j) position e = let same : Some j ≡ position = cc in ap choice_of same
chosen-is s (NotSmaller rows) position e = absurd (cc)

-- ---- the type

products-back : (count : ℕ) (type : Term) → type ≡ products (first_domains count type) (after_domains count type)
products-back zero type = refl
products-back (suc count) (Pi a b) = ap (Pi a) (products-back count b)
products-back (suc count) _ = refl

-- ---- the function's own part

module _ (S : Signature) (f : Function) (is : IsFunctionFor S f) (level : ℕ) (low : level < top) where
  prefix : IsPrefix S (provisional S f.name f.type)
  prefix = push_is_longer S (Definition f.name f.type (Const (length S.entries)))

  -- over the signature alone, without its clauses
  own-over : IsPart S (own_part f level)
  own-over =
      (own-part-for S S (record f { clauses = clause.nil }) level (prefix_reflexive S) is.ready
      (record { type = is.resolved.type; arity = is.resolved.arity; clauses = tt })).part

  own-with : IsPartFor (provisional S f.name f.type) (own_part f level) f.clauses
  own-with = own-part-for S (provisional S f.name f.type) f level prefix is.with_function is.resolved

  own-is_over : IsPartOver S (own_part f level)
  own-is_over = record { scoped = own-over.given.scoped; level = low }

  columns : length (own_part f level).terms ≡ length (own_part f level).tele
  columns = own-columns S (provisional S f.name f.type) f level is.resolved

  pub counted : f.arity ≡ length (own_part f level).tele
  counted = sym (length-variables f.arity) ∙ columns

  abbrev walked : Given → Walked
  walked given = record { part = own_part f level; clauses = f.clauses; walks = given.walks; sides = given.sides }

  -- the walks of its clauses give the part and the helpers
  pub own-given : (given : Given) (left : ℕ) → (walk_clauses (session S f.name f.type) 0 (own_part f level) 0 1 f.clauses left).0 ≡ Ok given
      → IsHelperGiven S f.name f.type (walked given ∷ given.helpers) given.uses 0 (walked given)
      × AreHelpersGiven S f.name f.type (walked given ∷ given.helpers) given.uses 1 given.helpers
  own-given given left e =
      let first : 0 < 1 = omega arith in
      let gives = if-ok (Gives S f.name f.type 0 (own_part f level) 0 1 f.clauses)
      (walk_clauses (session S f.name f.type) 0 (own_part f level) 0 1 f.clauses left).0 given e
      (clauses-has S f is 0 (own_part f level) 0 1 f.clauses left first own-is_over own-with.clauses)
      (walked given ∷ given.helpers) given.uses
      (later-at (walked given) given.helpers 0 given.helpers (at-themselves given.helpers)) (used-themselves given.uses) in
      (record { part = own-is_over; clauses = own-with.clauses; given = gives.0 }, gives.1)

  module _ (given : Given) (position : Option ℕ) where
    abbrev tele : Telescope
    tele = (own_part f level).tele

    abbrev order : List ℕ
    order = order_of (length tele) (option_and_then (recursion_at S tele) position)

    for-columns : AreClausesFor (provisional S f.name f.type) (own_part f level).terms f.clauses
    for-columns = clauses-for (provisional S f.name f.type) (own_part f level).terms f.clauses own-with.clauses

    -- over the signature alone, without its clauses
    abbrev bare : Walked
    bare = record { part = own_part f level; clauses = clause.nil; walks = []; sides = [] }

    start : IsStart S bare (ordered_telescope tele order) (length tele) order
    start =
        starts S bare (ordered_telescope tele order) (length tele) order
        (record { walked = record { given = own-over.given; few = own-over.few; clauses = tt }; columns = columns })
        refl (recursion-ordered S tele position) refl

    start-with : IsStart (provisional S f.name f.type) (walked given) (ordered_telescope tele order) (length tele) order
    start-with =
        starts (provisional S f.name f.type) (walked given) (ordered_telescope tele order) (length tele) order
        (record { walked = record { given = own-with.part.given; few = own-with.part.few; clauses = for-columns }; columns = columns })
        refl (recursion-ordered S tele position) refl

    start-over : IsGiven S (ordered_telescope tele order) (ordered_term (length tele) order (own_part f level).goal) (ordered_variables order (length tele))
    start-over =
        start-given S bare (ordered_telescope tele order) (length tele) order start
        (ordered_term (length tele) order (own_part f level).goal) (ordered_variables order (length tele)) refl refl

    start-for : AreClausesFor (provisional S f.name f.type) (ordered_variables order (length tele)) f.clauses
    start-for =
        start-clauses (provisional S f.name f.type) (walked given) (ordered_telescope tele order) (length tele) order start-with
        (ordered_variables order (length tele)) refl

    pub plan-made : (left units : ℕ) (tree : Tree) (helpers : List Part) (r : Option Recursion)
        → (walk_clauses (session S f.name f.type) 0 (own_part f level) 0 1 f.clauses left).0 ≡ Ok given
        → choose S tele (length S.entries) given.uses ≡ choice_of position
        → (split_of (provisional S f.name f.type) (ordered_telescope tele order) (ordered_term (length tele) order (own_part f level).goal)
        (ordered_variables order (length tele)) f.clauses units).0 ≡ Ok tree
        → AreFinished (provisional S f.name f.type) r level given.helpers helpers
        → IsPlanned S (plan_with S f level position (finished level (walked given) tree ∷ helpers))
    plan-made left units tree helpers r walks chosen splits finish =
        let T = provisional S f.name f.type in
        let parts = finished level (walked given) tree ∷ helpers in
        let all = walked given ∷ given.helpers in
        let own = own-given given left walks in
        let paired = all-paired T r level level (walked given) tree given.helpers helpers finish in
        record {
          ready = is.ready;
          base = refl;
          arity = counted;
          type = products-back f.arity f.type;
          columns = refl;
          level = refl;
          there = λ e. absurd (cc);
          uses = given.uses;
          position = sym (choice-same S T (not-read S f.name f.type).families tele (length S.entries) given.uses) ∙ chosen;
          own =
              part-planned S f level position parts all given.uses is.ready paired 0 level (walked given) tree (ordered_telescope tele order)
              (ordered_term (length tele) order (own_part f level).goal) (ordered_variables order (length tele)) units own.0 low start-for start-over.scoped
              splits;
          helpers = λ k part at.
              let e : 1 + k ≡ k + 1 = omega arith in
              let e' : k + 1 ≡ suc k = omega arith in
              transport (λ n. IsHelper S (plan_with S f level position parts) given.uses n part) e
              (helpers-planned S f level position parts all given.uses is.ready paired r 1 given.helpers helpers low finish own.1 k part
              (transport (λ n. slice_get parts n ≡ Some part) e' at));
        }

-- ---- the plan

module _ (S : Signature) (f : Function) (is : IsFunctionFor S f) (level : ℕ) (low : level < top) where
  abbrev Q : Plan → Type 0
  Q plan = IsPlanned S plan

  plan-has : (left : ℕ) → IfOk (plan_of S f level left).0 Q
  plan-has left =
      let s = session S f.name f.type in
      let part = own_part f level in
      next-has Q (walk_clauses s 0 part 0 1 f.clauses left) _ (λ given rest e1.
      let walked : Walked = record { part = part; clauses = f.clauses; walks = given.walks; sides = given.sides } in
      next-has Q (answers (position_chosen s (choose S part.tele s.own given.uses)) rest) _ (λ position further e2.
      let r = recursion_in S part.tele position in
      next-has Q (own_finished s r walked further) _ (λ own end e3.
      next-has Q (helpers_finished s r level 1 given.helpers end) _ (λ helpers last e4.
      let done : IsOwnFinished (provisional S f.name f.type) r walked own =
      if-ok (IsOwnFinished (provisional S f.name f.type) r walked) (own_finished s r walked further).0 own e3 (own-finished s r walked further) in
      let finish : AreFinished (provisional S f.name f.type) r level given.helpers helpers =
      if-ok (AreFinished (provisional S f.name f.type) r level given.helpers) (helpers_finished s r level 1 given.helpers end).0 helpers e4
      (helpers-finished s r level 1 given.helpers end) in
      transport (λ own. Q (plan_with S f level position (own ∷ helpers))) (sym done.is) (
      plan-made S f is level low given position left done.units done.tree helpers r e1
      (chosen-is s (choose S part.tele s.own given.uses) position e2)
      (transport
      (λ o. (split_of (provisional S f.name f.type) (ordered_telescope part.tele (order_of (length part.tele) o))
      (ordered_term (length part.tele) (order_of (length part.tele) o) part.goal) (ordered_variables (order_of (length part.tele) o) (length part.tele)) f.clauses done.units).0
      ≡ Ok done.tree)
      (sym (in-is S part.tele position)) done.splits)
      finish)))))

pub plan-of_function : PlanIsOfFunction
plan-of_function S f level left =
    let s = session S f.name f.type in
    let part = own_part f level in
    let Q = IsPlanOf S f level in
    next-has Q (walk_clauses s 0 part 0 1 f.clauses left) _ (λ given rest e1.
    let walked : Walked = record { part = part; clauses = f.clauses; walks = given.walks; sides = given.sides } in
    next-has Q (answers (position_chosen s (choose S part.tele s.own given.uses)) rest) _ (λ position further e2.
    let r = recursion_in S part.tele position in
    next-has Q (own_finished s r walked further) _ (λ own end e3.
    next-has Q (helpers_finished s r level 1 given.helpers end) _ (λ helpers last e4.
    record { base = refl; name = refl; type = refl; arity = refl; level_is = refl }))))

pub plan-planned : PlanIsPlanned
plan-planned S f level left plan is low e = if-ok (IsPlanned S) (plan_of S f level left).0 plan e (plan-has S f is level low left)
