-- Each entry of a function over a pair of positions is scoped.
use Rattle.std.proofs.Common.{◌≡◌, ℕ, zero, suc, ◌+◌, ◌-◌, ◌<◌, ◌≤◌, Some, option_map, List, [], ◌∷◌, ◌++◌, length, take, drop, map, All, Ok, refl, sym, ap, subst, ◌∙◌, arith}
use Rattle.std.proofs.lemmas.List.{length-append}
use Rattle.theory.specs.Prelude.{prelude}
use Rattle.theory.specs.Terms.{Term, Var, Sort, Const, lift}
use Rattle.theory.specs.Telescopes.{Telescope, applied, functions, products}
use Rattle.theory.specs.Signatures.{FamilyOf, IsEntryAt, IsPrefix, Signature}
use Rattle.theory.specs.SignatureScopes.{IsConstantNumber, IsScoped, IsScopedTelescope}
use Rattle.theory.specs.Terms.{top}
use Rattle.theory.proofs.ScopedTerms.{HasNumbers, lift-scoped, scoped_over_more, scoped-wider, sort-scoped, telescope-wider, var-scoped}
use Rattle.core_sig.specs.Drafts.{Draft}
use Rattle.core_sig.specs.ScopedDrafts.{IsScopedDraft}
use Rattle.kernel_reduce.proofs.ScopedTelescopes.{telescope-take}
use Rattle.kernel_reduce.proofs.StepLaws.{some-next, some-map}
use Rattle.kernel_reduce.specs.Entries.{family_at}
use Rattle.tele_eq.specs.Items.{each_position}
use Rattle.unification.specs.ScopedStates.{IsReady}
use Rattle.tree_translation.specs.structural_rec.Laws.{IsOrder, IsTelescopeOrder}
use Rattle.tree_translation.specs.structural_rec.Orders.{recursive_positions}
use Rattle.tree_translation.specs.structural_rec.Positions.{Admission, admission}
use Rattle.tree_translation.proofs.structural_rec.AdmittingPositions.{admission-decides}
use Rattle.tree_translation.proofs.structural_rec.RecursionOrders.{order-is-telescope}
use Rattle.tree_translation.specs.Conditions.{with_function}
use Rattle.tree_translation.specs.Entries.{goal_with_below, helper_names, ordered_variables, step_goal, step_telescope, term_with, with_below}
use Rattle.tree_translation.specs.Naming.{Naming, below_name, helper_name, motive_name, number_in, rec_name, step_name, with_names}
use Rattle.tree_translation.specs.Plans.{Plan, own_part}
use Rattle.tree_translation.specs.Recursion.{Recursion, below_type, first_positions, motive_with, order_of, ordered_telescope, ordered_term, parameters_at, recursion_with, remaining_positions, scrutinee_at, terms_at}
use Rattle.entry_laws.specs.draft_scopes.Laws.{IsOrdered}
use Rattle.entry_laws.proofs.OnlyConstants.{Each, each-all, each-append, each-map, each-weaker}
use Rattle.entry_laws.proofs.OnlyEntries.{IsBased}
use Rattle.entry_laws.proofs.OnlyFamilies.{if-there}
use Rattle.entry_laws.proofs.TableNames.{candidates-numbered}
use Rattle.entry_laws.proofs.draft_scopes.FunctionNames.{both-numbers, constant-there, named-over}
use Rattle.entry_laws.proofs.draft_scopes.FunctionSignatures.{function-prefix}
use Rattle.entry_laws.proofs.draft_scopes.RenumberedDrafts.{in_order-scoped, length-split, motive_scoped, telescope-after}
use Rattle.entry_laws.proofs.entry_scopes.DraftSignatures.{with_count}
use Rattle.entry_laws.proofs.entry_scopes.WholeCycles.{prelude-there}
use Rattle.entry_laws.proofs.entry_scopes.WholeLeaves.{NamedIn, motive-there}
use Rattle.entry_laws.proofs.entry_scopes.WholeSplits.{IsNodeIn}
use Rattle.entry_laws.proofs.entry_scopes.WholeStandings.{scoped-functions, scoped-products}
use Rattle.entry_laws.proofs.entry_scopes.WholeTerms.{applied-each, const-scoped}
use Rattle.entry_laws.proofs.node_roots.RootNodes.{first-within, length-below}
use Rattle.entry_laws.proofs.order_scopes.OrderLengths.{order-counted}
use Rattle.entry_laws.proofs.order_scopes.OrderedScopes.{length-ordered, ordered-scoped, variables-scoped, variables-there}
use Rattle.exact_laws.proofs.own_scopes.RecursiveFunctions.{parameters-there, recursive-function-by, terms-there}
use Rattle.exact_laws.proofs.step_scopes.AllDrafts.{first-some, step-there}
use Rattle.exact_laws.proofs.step_scopes.BelowTypes.{below-there, below_with-there, with_below-there}
use Rattle.exact_laws.proofs.step_scopes.PartDrafts.{IsRootWith, draft-with}
use Rattle.exact_laws.proofs.step_scopes.RecursionShapes.{shape-there}
use Rattle.theory.proofs.Lists.{slice_get-longer}
use Rattle.lex_recursion.specs.Following.{Follows, fixed_behind, following}
use Rattle.lex_recursion.specs.Pairs.{IsPair, Pair, pair_at, pair_behind, pair_with}
use Rattle.lex_recursion.specs.PairConditions.{IsPairPlanned}
use Rattle.lex_recursion.specs.PairEntries.{PairRecursion, begun_terms, begun_value, behind_first, below_names, first_count, first_step_entry, first_step_names, motive2_entry, motive2_name, order_over, pair_goal, pair_recursion, pair_recursion_at, pair_recursion_of, pair_recursions, pair_telescope, recursion_by, recursions_joined, second_below, second_call, second_count, second_named, step2_entry, step2_name, step2_names, step2_node, step_terms, step_value}
use Rattle.lex_recursion.proofs.FollowingPositions.{following-decides}
use Rattle.lex_recursion.proofs.PairOrders.{pair-order-is-telescope}
use Rattle.pair_laws.specs.Laws.{IsPairReadyFor, PairDraftsScoped}
use Rattle.pair_laws.proofs.PairDrafts.{each-five, five-of}
use Rattle.pair_laws.proofs.PairNames.{based-of}
use Rattle.pair_laws.proofs.PairNodes.{HasFamilies, pair-families, step2-like}
use Rattle.pair_laws.proofs.TwoHidden.{both-seen}

-- ---- the orders of a pair

-- both orders are telescopes, and what the first recursion goes over is fixed under the second one
pub record HasOrders (tele : Telescope) (p : PairRecursion) : Type 0 where
  pub outer : IsTelescopeOrder tele (order_of (length tele) (Some p.outer))
  pub inner : IsTelescopeOrder tele (order_of (length tele) (Some p.inner))
  pub fixed : length (first_positions p.outer) ≤ length p.inner.admission.fixed

orders-of : (S : Signature) (tele : Telescope) (q : Pair) → IsPair S tele q → (p : PairRecursion) → p.outer.position ≡ q.first → p.outer.admission ≡ q.outer → p.inner.position ≡ q.second → p.inner.admission ≡ q.inner
    → HasOrders tele p
orders-of S tele q is p a b c d = record {
  outer = subst (λ j. IsTelescopeOrder tele (order_of (length tele) (Some (record p.outer { position = j })))) (sym a)
      (subst (λ m. IsTelescopeOrder tele (order_of (length tele) (Some (record p.outer { position = q.first; admission = m })))) (sym b) (order-is-telescope S tele q.first q.outer is.admits));
  inner = subst (λ j. IsTelescopeOrder tele (order_of (length tele) (Some (record p.inner { position = j })))) (sym c)
      (subst (λ m. IsTelescopeOrder tele (order_of (length tele) (Some (record p.inner { position = q.second; admission = m })))) (sym d) (pair-order-is-telescope S tele q is));
  fixed =
      (let first = recursive_positions q.first q.outer in
      let whole : length q.inner.fixed ≡ length (first ++ fixed_behind tele first q.second is.follows.parameters) = ap length is.follows.fixed in
      let sum = length-append first (fixed_behind tele first q.second is.follows.parameters) in
      let least : length first ≤ length q.inner.fixed = omega arith in
      subst (λ m. length (first_positions p.outer) ≤ length m.fixed) (sym d)
      (subst (λ j. length (first_positions (record p.outer { position = j })) ≤ length q.inner.fixed) (sym a)
      (subst (λ m. length (first_positions (record p.outer { position = q.first; admission = m })) ≤ length q.inner.fixed) (sym b) least)));
}

pair-is : (S : Signature) (tele : Telescope) (j k : ℕ) (q : Pair) → pair_at S tele j k ≡ Some q → IsPair S tele q
pair-is S tele j k q e =
    if-there (IsPair S tele) (pair_at S tele j k) q
    (some-next (IsPair S tele) (λ a. pair_behind S tele j a k) (admission S tele j) (λ a admitted.
    some-map (IsPair S tele) (pair_with j a k) (following S tele (recursive_positions j a) k) (λ b found.
    record { admits = (admission-decides S tele j a).0 admitted; follows = (following-decides S tele (recursive_positions j a) k b).0 found })))
    e

-- what recursion by an admission is
record IsBy (j : ℕ) (a : Admission) (r : Recursion) : Type 0 where
  position : r.position ≡ j
  admission : r.admission ≡ a

is-by : (S : Signature) (j : ℕ) (a : Admission) (r : Recursion) → recursion_by S j a ≡ Some r → IsBy j a r
is-by S j a r e =
    if-there (IsBy j a) (recursion_by S j a) r (some-map (IsBy j a) (recursion_with j a) (family_at S a.number) (λ f found. record { position = refl; admission = refl })) e

pub pair-orders : (S : Signature) (plan : Plan) (second : ℕ) (p : PairRecursion) → pair_recursion S plan second ≡ Some p → HasOrders (own_part plan).tele p
pair-orders S plan second p e =
    let tele = (own_part plan).tele in
    if-there (HasOrders tele) (pair_recursion S plan second) p
    (some-next (HasOrders tele) (λ j. pair_recursion_at S tele j second) plan.position (λ j _.
    some-next (HasOrders tele) (pair_recursion_of S) (pair_at S tele j second) (λ q found.
    some-next (HasOrders tele) (λ outer. option_map (recursions_joined outer) (recursion_by S q.second q.inner)) (recursion_by S q.first q.outer) (λ outer one.
    some-map (HasOrders tele) (recursions_joined outer) (recursion_by S q.second q.inner) (λ inner other.
    let a = is-by S q.first q.outer outer one in
    let b = is-by S q.second q.inner inner other in
    orders-of S tele q (pair-is S tele j second q found) (recursions_joined outer inner) a.position a.admission b.position b.admission)))))
    e

-- ---- over a signature with the names of a draft

module _ (S : Signature) (plan : Plan) (p : PairRecursion) (based : IsBased S plan) (orders : HasOrders (own_part plan).tele p) where
  ordered-by : (r : Recursion) → IsTelescopeOrder (own_part plan).tele (order_of (length (own_part plan).tele) (Some r)) → IsOrdered S plan r
  ordered-by r is =
      let part = own_part plan in
      let both = ordered-scoped S part.tele part.goal (order_of (length part.tele) (Some r)) based.own.is.context_scoped based.own.is.goal_scoped is in
      record { telescope = both.0; goal = both.1 }

  -- how many types there are, and how many come first
  record HasCounts : Type 0 where
    tele : length (ordered_telescope (own_part plan).tele (order_over plan p)) ≡ length (own_part plan).tele
    first : first_count p ≤ length (own_part plan).tele
    second : length (first_positions p.inner) ≤ length (own_part plan).tele
    apart : first_count p < length (first_positions p.inner)

  counts : HasCounts
  counts =
      let count = length (own_part plan).tele in
      let one = order-counted count (order_of count (Some p.outer)) orders.outer.positions in
      let other = order-counted count (order_of count (Some p.inner)) orders.inner.positions in
      let a = first-within count p.outer in
      let b = first-within count p.inner in
      let x = length-append p.inner.admission.fixed (p.inner.admission.indices ++ p.inner.position ∷ []) in
      let y = length-append p.inner.admission.indices (p.inner.position ∷ []) in
      let fixed = orders.fixed in
      record {
        tele = length-ordered (own_part plan).tele (order_over plan p) orders.inner.positions;
        first = omega arith;
        second = omega arith;
        apart = omega arith;
      }

  module _ (T : Signature) (number : Naming) (more : HasNumbers S T) where
    tele-there : IsScopedTelescope T 0 (own_part plan).tele
    tele-there = telescope-wider more 0 (own_part plan).tele based.own.is.context_scoped

    pair-telescope-there : IsConstantNumber T (number (below_name p.outer.family plan.level)) → IsConstantNumber T (number (motive_name plan.name)) → IsScopedTelescope T 0 (pair_telescope plan p number)
    pair-telescope-there below motive =
        let order = order_over plan p in
        let tele = ordered_telescope (own_part plan).tele order in
        let first = first_count p in
        let terms = ordered_variables order first in
        let c = counts in
        let type : IsScoped T first (below_type number plan p.outer terms) =
        below-there T number plan p.outer first terms below motive tele-there (each-all (IsScoped T first) terms (variables-there T order first (first-some p.outer))) in
        with_below-there T first (below_type number plan p.outer terms) tele (omega (arith, c.tele, c.first)) (telescope-wider more 0 tele (ordered-by p.inner orders.inner).telescope) type

    pair-long : length (pair_telescope plan p number) ≡ length (own_part plan).tele + 1
    pair-long =
        let order = order_over plan p in
        let tele = ordered_telescope (own_part plan).tele order in
        let c = counts in
        let l = length-below (first_count p) (below_type number plan p.outer (ordered_variables order (first_count p))) tele (omega (arith, c.tele, c.first)) in
        omega (arith, l, c.tele, c.first)

    pair-goal-there : IsScoped T (length (own_part plan).tele + 1) (pair_goal plan p)
    pair-goal-there =
        let count = length (own_part plan).tele in
        let goal = ordered_term count (order_over plan p) (own_part plan).goal in
        let ordered = ordered-by p.inner orders.inner in
        let c = counts in
        scoped_over_more T (length (ordered_telescope (own_part plan).tele (order_over plan p)) + 1) (count + 1) (lift goal 1 (count - first_count p)) (omega (arith, c.tele))
        (lift-scoped T (length (ordered_telescope (own_part plan).tele (order_over plan p))) goal 1 (count - first_count p) (scoped-wider more ordered.goal))

    behind-there : (order : List ℕ) (depth : ℕ) → 0 < depth → Each (IsScoped T (depth + 1)) (behind_first p depth (ordered_variables order depth))
    behind-there order depth some =
        each-map (λ t. lift t 1 (depth - first_count p)) (ordered_variables order depth) (λ t h. lift-scoped T depth t 1 (depth - first_count p) h)
        (each-all (IsScoped T depth) (ordered_variables order depth) (variables-there T order depth some))

    second-below-there : IsConstantNumber T (number (below_name p.inner.family plan.level)) → IsConstantNumber T (number (motive2_name plan.name)) → IsScoped T (second_count p) (second_below plan p number)
    second-below-there below motive2 =
        let depth = length (first_positions p.inner) in
        let c = second_named (motive2_name plan.name) p in
        let terms = begun_terms plan p in
        let values = begun_value p ∷ [] in
        let all = behind-there (order_over plan p) depth (first-some p.inner) in
        below_with-there T number plan p.inner (depth + 1) (motive_with number c terms values) terms below
        (motive-there T number plan (depth + 1) c terms values motive2 all (Each.more (var-scoped (omega arith)) Each.none)) tele-there all

    step2-there : Each (λ name. IsConstantNumber T (number name)) (step2_names plan p) → IsNodeIn T (step2_node plan p number)
    step2-there (Each.more below (Each.more motive (Each.more below2 (Each.more motive2 none)))) =
        let c = counts in
        let long = pair-long in
        let second = second_count p in
        let whole = length-below second (second_below plan p number) (pair_telescope plan p number) (omega (arith, long, c.second)) in
        let count = length (own_part plan).tele in
        record {
          context =
              with_below-there T second (second_below plan p number) (pair_telescope plan p number) (omega (arith, long, c.second)) (pair-telescope-there below motive)
              (second-below-there below2 motive2);
          goal =
              scoped_over_more T (count + 1 + 1) (length (step2_node plan p number).context) (lift (pair_goal plan p) 1 (count + 1 - second)) (omega (arith, whole, long, c.second))
              (lift-scoped T (count + 1) (pair_goal plan p) 1 (count + 1 - second) pair-goal-there);
        }

    second-call-there : IsConstantNumber T (number (rec_name p.inner.family plan.level)) → IsConstantNumber T (number (motive2_name plan.name)) → IsConstantNumber T (number (step2_name plan.name))
        → 0 < length (own_part plan).tele → IsScoped T (length (own_part plan).tele + 1) (second_call plan p number)
    second-call-there rec motive2 step2 some =
        let tele = (own_part plan).tele in
        let count = length tele in
        let terms = step_terms plan p in
        let values = step_value plan p ∷ [] in
        let n = count + 1 in
        let all = behind-there (order_of count (Some p.outer)) count some in
        let value : Each (IsScoped T n) values = Each.more (var-scoped (omega arith)) Each.none in
        let one = second_named (motive2_name plan.name) p in
        let other = second_named (step2_name plan.name) p in
        applied-each T n (Const (number (rec_name p.inner.family plan.level))) _ (const-scoped T n (number (rec_name p.inner.family plan.level)) rec)
        (each-append (parameters_at tele p.inner terms) _ (parameters-there T n tele p.inner terms tele-there all)
        (Each.more (motive-there T number plan n one terms values motive2 all value)
        (Each.more (motive-there T number plan n other terms values step2 all value)
        (each-append (scrutinee_at p.inner terms) (terms_at (remaining_positions count p.inner) terms)
        (terms-there T n (p.inner.admission.indices ++ p.inner.position ∷ []) terms all) (terms-there T n (remaining_positions count p.inner) terms all)))))

-- ---- the drafts

no-helpers-at : (Q : List ℕ → Type 0) (plan : Plan) → plan.parts ≡ own_part plan ∷ [] → Each Q (helper_names plan 0)
no-helpers-at Q plan alone = subst (λ parts. Each Q (each_position (helper_name plan.name) (0 + 1) (length (drop 1 parts) - 0))) (sym alone) Each.none

abbrev IsOverPlan : Signature → Plan → Draft → Type 0
IsOverPlan S plan d = (d.base ≡ plan.base) × IsScopedDraft S d

module _ (S : Signature) (plan : Plan) (second : ℕ) (given : IsPairReadyFor S plan second) where
  base-is : IsBased S plan
  base-is = based-of S plan second given.planned

  orders-are : HasOrders (own_part plan).tele given.planned.pair
  orders-are = pair-orders S plan second given.planned.pair given.planned.recursion

  families-are : HasFamilies S given.planned.pair
  families-are = pair-families S plan second given.planned.pair given.planned.recursion

  motive2-scoped : (d : Draft) → motive2_entry plan given.planned.pair ≡ Ok d → IsOverPlan S plan d
  motive2-scoped d e =
      let p = given.planned.pair in
      let F = with_function S plan in
      let candidates = below_names plan p in
      let table = with_names [] candidates in
      let count = length table in
      let number : Naming = number_in plan.base table in
      let T = with_count F count in
      let more : HasNumbers S T = both-numbers S plan given.planned.base count in
      let named : Each (λ name. IsConstantNumber T (number_in plan.base table name)) candidates =
      each-weaker candidates (λ name low. constant-there S plan given.planned.base count (number_in plan.base table name) (omega arith) low) (candidates-numbered plan.base candidates) in
      let tele = pair_telescope plan p number in
      let first = second_count p in
      let whole : IsScopedTelescope T 0 tele = by T number more named in
      let total = length-split first tele in
      let long = pair-long S plan p base-is orders-are T number more in
      in_order-scoped S T (motive2_name plan.name) plan.base candidates (λ number. products (take first (pair_telescope plan p number)) (Sort plan.level))
      (λ number. functions (take first (pair_telescope plan p number)) (products (drop first (pair_telescope plan p number)) (pair_goal plan p))) d (named-over S plan given.planned.base count) e
      (scoped-products T 0 (take first tele) (Sort plan.level) (telescope-take T 0 first tele whole) (sort-scoped plan.level))
      (scoped-functions T 0 (take first tele) (products (drop first tele) (pair_goal plan p)) (telescope-take T 0 first tele whole)
      (scoped-products T (0 + length (take first tele)) (drop first tele) (pair_goal plan p) (telescope-after T 0 first tele whole)
      (scoped_over_more T (length (own_part plan).tele + 1) (0 + length (take first tele) + length (drop first tele)) (pair_goal plan p) (omega (arith, total, long))
      (pair-goal-there S plan p base-is orders-are T number more))))
    where
      by : (T : Signature) (number : Naming) → HasNumbers S T → Each (λ name. IsConstantNumber T (number name)) (below_names plan given.planned.pair)
          → IsScopedTelescope T 0 (pair_telescope plan given.planned.pair number)
      by T number more (Each.more below (Each.more motive none)) = pair-telescope-there S plan given.planned.pair base-is orders-are T number more below motive

  level-low : plan.level < top
  level-low = subst (λ L. L < top) given.planned.level given.planned.own.level

  both-in : (count : ℕ) (number : Naming) → Each (λ name. IsConstantNumber (with_count (with_function S plan) count) (number name)) (step2_names plan given.planned.pair)
      → Each (NamedIn (with_count (with_function S plan) count) number plan) (pair_recursions plan given.planned.pair)
  both-in count number (Each.more below (Each.more motive (Each.more below2 (Each.more motive2 none)))) =
      let p = given.planned.pair in
      let F = with_function S plan in
      let pairs = (prelude-there F count (function-prefix S plan given.first)).pairs plan.level level-low in
      let longer : (r : Recursion) → IsEntryAt S r.admission.number (FamilyOf r.family) → IsEntryAt F r.admission.number (FamilyOf r.family) =
      λ r there. slice_get-longer S.entries _ r.admission.number (FamilyOf r.family) there in
      Each.more
      (record { below = below; motive = motive; pairs = pairs; shape = shape-there F count p.outer.admission.number p.outer.family given.ready.scoped (longer p.outer families-are.outer) })
      (Each.more
      (record { below = below2; motive = motive2; pairs = pairs; shape = shape-there F count p.inner.admission.number p.inner.family given.ready.scoped (longer p.inner families-are.inner) })
      Each.none)

  step2-root : IsRootWith S (step2_names plan given.planned.pair) (ordered_telescope (own_part plan).tele (order_over plan given.planned.pair)) (step2_node plan given.planned.pair)
  step2-root = record {
    over = λ number.
        (let p = given.planned.pair in
        let c = counts S plan p base-is orders-are in
        let order = order_over plan p in
        let tele = ordered_telescope (own_part plan).tele order in
        let below = below_type number plan p.outer (ordered_variables order (first_count p)) in
        let one = length-below (first_count p) below tele (omega (arith, c.tele, c.first)) in
        let other = length-below (second_count p) (second_below plan p number) (pair_telescope plan p number) (omega (arith, one, c.tele, c.first, c.second)) in
        record {
          is_seen = both-seen (first_count p) (second_count p) below (second_below plan p number) tele (omega (arith, c.apart)) (omega (arith, c.tele, c.second));
          hidden = (omega (arith, one, other, c.tele, c.first, c.second, c.apart), (omega (arith, one, other, c.tele, c.first, c.second), tt));
        });
    like = λ number other. step2-like plan given.planned.pair number other;
    there = λ T number more named. step2-there S plan given.planned.pair base-is orders-are T number more named;
  }

  step2-scoped : (d : Draft) → step2_entry S plan given.planned.pair ≡ Ok d → IsOverPlan S plan d
  step2-scoped d e =
      let p = given.planned.pair in
      let part = own_part plan in
      let count = length part.tele in
      let order = order_over plan p in
      let tele = ordered_telescope part.tele order in
      let ordered = ordered-by S plan p base-is orders-are p.inner orders-are.inner in
      let long = (counts S plan p base-is orders-are).tele in
      let counted : length order ≡ count = order-counted count order orders-are.inner.positions in
      draft-with S plan given.planned.uses 0 part (pair_recursions plan p) (step2_names plan p) order tele (ordered_term count order part.goal) (ordered_variables order count) (step2_node plan p)
      (step2_name plan.name) d given.ready given.first given.planned.base given.planned.own ordered.telescope ordered.goal
      (subst (λ n. All (IsScoped S n) (ordered_variables order count)) (sym long) (variables-scoped S order count (omega (arith, counted)))) step2-root both-in
      (λ more number named. no-helpers-at (λ name. IsConstantNumber (with_count (with_function S plan) more) (number name)) plan given.planned.alone) e

  first-step-scoped : (d : Draft) → first_step_entry plan given.planned.pair ≡ Ok d → IsOverPlan S plan d
  first-step-scoped d e =
      let p = given.planned.pair in
      let F = with_function S plan in
      let candidates = first_step_names plan p in
      let table = with_names [] candidates in
      let count = length table in
      let number : Naming = number_in plan.base table in
      let T = with_count F count in
      let more : HasNumbers S T = both-numbers S plan given.planned.base count in
      let named : Each (λ name. IsConstantNumber T (number_in plan.base table name)) candidates =
      each-weaker candidates (λ name low. constant-there S plan given.planned.base count (number_in plan.base table name) (omega arith) low) (candidates-numbered plan.base candidates) in
      let both = by T number more named in
      in_order-scoped S T (step_name plan.name) plan.base candidates (λ number. products (step_telescope plan p.outer number) (step_goal plan p.outer))
      (λ number. functions (step_telescope plan p.outer number) (second_call plan p number)) d (named-over S plan given.planned.base count) e both.0 both.1
    where
      by : (T : Signature) (number : Naming) → HasNumbers S T → Each (λ name. IsConstantNumber T (number name)) (first_step_names plan given.planned.pair)
          → IsScoped T 0 (products (step_telescope plan given.planned.pair.outer number) (step_goal plan given.planned.pair.outer))
          × IsScoped T 0 (functions (step_telescope plan given.planned.pair.outer number) (second_call plan given.planned.pair number))
      by T number more (Each.more below (Each.more motive (Each.more rec (Each.more motive2 (Each.more step2 none))))) =
          let p = given.planned.pair in
          let tele = (own_part plan).tele in
          let ordered = ordered-by S plan p base-is orders-are p.outer orders-are.outer in
          let node = step-there S plan p.outer base-is orders-are.outer.positions ordered T number more
          (Each.more below (Each.more motive (no-helpers-at (λ name. IsConstantNumber T (number name)) plan given.planned.alone))) in
          let order = order_of (length tele) (Some p.outer) in
          let c = counts S plan p base-is orders-are in
          let o_tele = ordered_telescope tele order in
          let o_long : length o_tele ≡ length tele = length-ordered tele order orders-are.outer.positions in
          let long = length-below (first_count p) (below_type number plan p.outer (ordered_variables order (first_count p))) o_tele (omega (arith, o_long, c.first)) in
          let some = first-some p.outer in
          let n = length (step_telescope plan p.outer number) in (
            scoped-products T 0 (step_telescope plan p.outer number) (step_goal plan p.outer) node.context (scoped_over_more T n (0 + n) (step_goal plan p.outer) (omega arith) node.goal),
            scoped-functions T 0 (step_telescope plan p.outer number) (second_call plan p number) node.context
                (scoped_over_more T (length tele + 1) (0 + n) (second_call plan p number) (omega (arith, long, o_long, c.first))
                (second-call-there S plan p base-is orders-are T number more rec motive2 step2 (omega (arith, some, c.first)))),
          )

pub drafts-scoped : PairDraftsScoped
drafts-scoped S plan second drafts given h =
    let p = given.planned.pair in
    let five = five-of S plan second p drafts given.planned.recursion h in
    let ordered = ordered-by S plan p (base-is S plan second given) (orders-are S plan second given) p.outer (orders-are S plan second given).outer in
    each-five (IsOverPlan S plan) S plan p drafts five (motive_scoped S plan p.outer five.motive ordered five.motive_is)
    (motive2-scoped S plan second given five.motive2 five.motive2_is)
    (step2-scoped S plan second given five.step2 five.step2_is)
    (first-step-scoped S plan second given five.step five.step_is)
    (recursive-function-by S plan p.outer five.function (base-is S plan second given) five.function_is)
