-- The terms of rules are scoped, where their standing is.
use Rattle.std.proofs.Common.{◌≡◌, ℕ, zero, suc, ◌+◌, ◌-◌, ◌<◌, ◌≤◌, Bool, true, false, List, [], ◌∷◌, ◌++◌, length, map, take, drop, get_or, All, refl, sym, ap, subst, ◌∙◌, arith}
use Rattle.std.proofs.lemmas.List.{length-append, length-map, length-drop}
use Rattle.std.proofs.lemmas.List.Elements.{All-nil, All-cons, All-append, All-take}
use Rattle.std.proofs.lemmas.Option.{slice_get_within}
use Rattle.theory.specs.Terms.{Term, Var, Const, Con, Elim, AxiomK, top}
use Rattle.theory.specs.Telescopes.{Telescope, applied}
use Rattle.theory.specs.Prelude.{equality_family}
use Rattle.theory.specs.Signatures.{Signature, FamilyOf, IsEntryAt, equality, equation}
use Rattle.theory.specs.SignatureScopes.{IsConstantNumber, IsFamilyNumber, IsScoped, IsScopedTelescope}
use Rattle.theory.proofs.ScopedTerms.{scoped_over_more, var-scoped, sort-scoped, lam-scoped, app-scoped, applied-scoped}
use Rattle.core_terms.specs.Levels.{variable, run}
use Rattle.kernel_reduce.proofs.ScopedTelescopes.{telescope-take}
use Rattle.tele_eq.specs.Items.{Item, term_at}
use Rattle.tele_eq.specs.ScopeLaws.{AreScopedItems}
use Rattle.tele_eq.specs.TelescopicEquality.{equations, reflexivities}
use Rattle.tele_eq.proofs.ScopeLaws.{scoped_equations, scoped_reflexivities}
use Rattle.tele_eq.proofs.Positions.{length-each_position}
use Rattle.unification.specs.Built.{Built}
use Rattle.unification.specs.Occurrences.{dependants, order_without}
use Rattle.unification.specs.Records.{family_items}
use Rattle.unification.specs.Rules.{level_of}
use Rattle.unification.specs.ScopedStates.{IsReady, AreScopedEquations}
use Rattle.unification.specs.Solving.{solved, new_context}
use Rattle.unification.specs.States.{Equation, types_as_they_stand}
use Rattle.unification.proofs.BuiltScopes.{IsBuiltIn}
use Rattle.unification.proofs.MovedEquations.{equations-drop}
use Rattle.unification.proofs.Occurring.{put-all}
use Rattle.unification.proofs.ScopedRecords.{length-family_items, family_items-scoped}
use Rattle.unification.proofs.SolvedContexts.{length-new_context}
use Rattle.unification.proofs.Counts.{length-types}
use Rattle.tree_translation.specs.Naming.{Naming, noconf_name}
use Rattle.tree_translation.specs.Comparisons.{Comparison, member, left_member, right_member, targets, group_equations}
use Rattle.tree_translation.specs.ConfusionTerms.{confused, compared_equations, inject_term, conflict_term}
use Rattle.tree_translation.specs.Replays.{level_of_first, kept, solved_standing}
use Rattle.tree_translation.specs.SolutionTerms.{remaining_goal, motive_levels, within, equation_with, solution_motive, solution_method, solution_term, delete_term}
use Rattle.tree_translation.specs.Standings.{Standing, inside, equation_count, first_equations, further_equations, here, all_here, at_levels, placed, placed_telescope, levels_from, state_term}
use Rattle.tree_translation.proofs.LevelLists.{length-levels}
use Rattle.entry_laws.proofs.OnlyConstants.{Each, each-append, each-all}
use Rattle.entry_laws.proofs.TableNames.{all-each}
use Rattle.entry_laws.proofs.entry_scopes.DraftSignatures.{with_count, entry-there, ready-there}
use Rattle.entry_laws.proofs.entry_scopes.WholeStandings.{variable-there, placed-scoped, all-placed-scoped, telescope-same, placed_telescope-scoped, length-placed, scoped-functions, scoped-products, IsWhole, IsCompared, targets-scoped}

-- ---- variables

pub run-there : (T : Signature) (d start count : ℕ) → 0 < d → Each (IsScoped T d) (run d start count)
run-there T d start zero room = Each.none
run-there T d start (suc count) room = Each.more (variable-there T d start room) (run-there T d (start + 1) count room)

-- a head at terms
pub applied-each : (T : Signature) (d : ℕ) (head : Term) (us : List Term) → IsScoped T d head → Each (IsScoped T d) us → IsScoped T d (applied head us)
applied-each T d head us h all = applied-scoped T d head us h (all-each (IsScoped T d) us all)

pub const-scoped : (T : Signature) (n c : ℕ) → IsConstantNumber T c → IsScoped T n (Const c)
const-scoped T n c is = record { variables = omega arith; entries = is }

pub elim-scoped : (T : Signature) (n f m : ℕ) → IsFamilyNumber T f → IsScoped T n (Elim f m)
elim-scoped T n f m is = record { variables = omega arith; entries = is }

pub equality-there : (T : Signature) (i : ℕ) → IsReady T → i < top → IsFamilyNumber T (equality i)
equality-there T i ready low = (equality_family i, (ready.identities i low).entry)

pub equation-scoped : (T : Signature) (n i : ℕ) (A u v : Term) → IsReady T → i < top → IsScoped T n A → IsScoped T n u → IsScoped T n v → IsScoped T n (equation i A u v)
equation-scoped T n i A u v ready low hA hu hv =
    app-scoped (app-scoped (app-scoped (record { variables = omega arith; entries = equality-there T i ready low }) hA) hu) hv

-- ---- telescopes

pub types-scoped : (T : Signature) (n k : ℕ) (es : List Equation) → AreScopedEquations T n k es → IsScopedTelescope T (n + k) (types_as_they_stand es)
types-scoped T n k [] h = tt
types-scoped T n k (e ∷ es) h = (h.0.type, telescope-same T (n + (k + 1)) (n + k + 1) (types_as_they_stand es) (omega arith) (types-scoped T n (k + 1) es h.1))

pub drop-telescope : (T : Signature) (n k : ℕ) (tele : Telescope) → IsScopedTelescope T n tele → IsScopedTelescope T (n + k) (drop k tele)
drop-telescope T n zero tele h = telescope-same T n (n + 0) tele (omega arith) h
drop-telescope T n (suc k) [] h = tt
drop-telescope T n (suc k) (a ∷ tele) h = telescope-same T (n + 1 + k) (n + suc k) (drop k tele) (omega arith) (drop-telescope T (n + 1) k tele h.1)

-- a type of a scoped telescope
pub entry-scoped : (T : Signature) (n j : ℕ) (tele : Telescope) → IsScopedTelescope T n tele → IsScoped T (n + j) (term_at tele j)
entry-scoped T n j [] h = sort-scoped 0
entry-scoped T n zero (a ∷ tele) h = scoped_over_more T n (n + 0) a (omega arith) h.0
entry-scoped T n (suc j) (a ∷ tele) h = scoped_over_more T (n + 1 + j) (n + suc j) (term_at tele j) (omega arith) (entry-scoped T (n + 1) j tele h.1)

-- some of the types of a context, over variables that are bound
bound-types : (T : Signature) (context : Telescope) (levels : List ℕ) (d : ℕ) (order : List ℕ) → 0 < d → IsScopedTelescope T 0 context
    → IsScopedTelescope T d (new_context context (at_levels levels) d order)
bound-types T context levels d [] room h = tt
bound-types T context levels d (j ∷ order) room h = (
  put-all T (at_levels levels) j d (term_at context j) (λ p lt more le. variable-there T more (get_or levels p 0) (omega arith))
      (scoped_over_more T (0 + j) j (term_at context j) (omega arith) (entry-scoped T 0 j context h)),
  bound-types T context levels (d + 1) order (omega arith) h,
)

-- ---- standings

module _ (S : Signature) (count : ℕ) (ready : IsReady S) (w : Standing) (is : IsWhole (with_count S count) w) where
  depth-there : 0 < length w.variables → 0 < inside w
  depth-there some = let room : length w.state.context ≤ w.depth = is.room in omega (arith, is.variables)

  -- the variables of the context, further in
  pub here-scoped : (d : ℕ) (t : Term) → (0 < length w.variables → 0 < d) → IsScoped (with_count S count) (length w.state.context) t
      → IsScoped (with_count S count) d (placed w.variables d t)
  here-scoped d t room h =
      placed-scoped (with_count S count) w.variables d t room (subst (λ n. IsScoped (with_count S count) n t) (sym is.variables) h)

  pub all-here-scoped : (ts : List Term) → All (IsScoped (with_count S count) (length w.state.context)) ts → Each (IsScoped (with_count S count) (inside w)) (all_here w ts)
  all-here-scoped ts all =
      each-all (IsScoped (with_count S count) (inside w)) (all_here w ts)
      (all-placed-scoped (with_count S count) w.variables (inside w) ts depth-there
      (subst (λ n. All (IsScoped (with_count S count) n) ts) (sym is.variables) all))

  pub goal-scoped : IsScoped (with_count S count) (length w.state.context) w.goal
  goal-scoped = is.scoped.solution 0 w.goal (omega arith)

  -- the equations, and what is inside them
  pub state_term-scoped : (inner : Term) → IsScoped (with_count S count) (inside w) inner → IsScoped (with_count S count) w.depth (state_term w inner)
  state_term-scoped inner h =
      let T = with_count S count in
      let types = types_as_they_stand w.state.equations in
      let room : length w.state.context ≤ w.depth = is.room in
      let many : length (placed_telescope w.variables w.depth types) ≡ equation_count w = length-placed w.variables w.depth types ∙ length-types w.state.equations in
      scoped-functions T w.depth (placed_telescope w.variables w.depth types) inner
      (placed_telescope-scoped T w.variables w.depth types (λ some. omega (arith, is.variables))
      (telescope-same T (length w.state.context + 0) (length w.variables) types (omega (arith, is.variables)) (types-scoped T (length w.state.context) 0 w.state.equations is.scoped.equations)))
      (scoped_over_more T (inside w) (w.depth + length (placed_telescope w.variables w.depth types)) inner (omega arith) h)

  remaining-scoped : (g : ℕ) (variables levels : List ℕ) (d : ℕ) → 0 < d → length variables ≡ length w.state.context → length levels ≡ g
      → IsScoped (with_count S count) d (remaining_goal w g variables levels d)
  remaining-scoped g variables levels d room same many =
      let T = with_count S count in
      let n = length w.state.context in
      let types = types_as_they_stand (drop g w.state.equations) in
      let all = variables ++ levels in
      let long : length (variables ++ levels) ≡ n + (0 + g) = length-append variables levels ∙ omega (arith, same, many) in
      let end : length (placed_telescope (variables ++ levels) d types) ≡ length types = length-placed (variables ++ levels) d types in
      scoped-products T d (placed_telescope all d types) (placed variables (d + length types) w.goal)
      (placed_telescope-scoped T all d types (λ some. room)
      (telescope-same T (n + (0 + g)) (length all) types (sym long) (types-scoped T n (0 + g) (drop g w.state.equations) (equations-drop T n 0 g w.state.equations is.scoped.equations))))
      (subst (λ k. IsScoped T (d + k) (placed variables (d + length types) w.goal)) (sym end)
      (placed-scoped T variables (d + length types) w.goal (λ some. omega arith) (subst (λ k. IsScoped T k w.goal) (sym same) goal-scoped)))

  -- ---- solutions

  equation-with-scoped : (on_right : Bool) (d i : ℕ) (A u z : Term) → i < top → IsScoped (with_count S count) d A → IsScoped (with_count S count) d u
      → IsScoped (with_count S count) d z → IsScoped (with_count S count) d (equation_with on_right i A u z)
  equation-with-scoped true d i A u z low hA hu hz = equation-scoped (with_count S count) d i A u z (ready-there S count ready) low hA hu hz
  equation-with-scoped false d i A u z low hA hu hz = equation-scoped (with_count S count) d i A z u (ready-there S count ready) low hA hz hu

  motive-scoped : (p : ℕ) (on_right : Bool) (A u : Term) → 0 < inside w → level_of_first w.state.equations < top → IsScoped (with_count S count) (length w.state.context) A
      → IsScoped (with_count S count) (length w.state.context) u → IsScoped (with_count S count) (inside w) (solution_motive w p on_right A u)
  motive-scoped p on_right A u some low hA hu =
      let T = with_count S count in
      let d = inside w in
      let moved = dependants w.state.context p in
      let levels = motive_levels w p d in
      let types = new_context w.state.context (at_levels levels) (d + 2) moved in
      let many : length types ≡ length moved = length-new_context w.state.context (at_levels levels) (d + 2) moved in
      lam-scoped (here-scoped d A (λ v. some) hA)
      (lam-scoped
      (equation-with-scoped on_right (d + 1) (level_of_first w.state.equations) (within w A) (within w u) (Var 0) low (here-scoped (d + 1) A (λ v. omega arith) hA)
      (here-scoped (d + 1) u (λ v. omega arith) hu) (var-scoped (omega arith)))
      (scoped_over_more T (d + 2) (d + 1 + 1) _ (omega arith)
      (scoped-products T (d + 2) types (remaining_goal w 1 levels ((d + 1) ∷ []) (d + 2 + length moved)) (bound-types T w.state.context levels (d + 2) moved (omega arith) is.scoped.context)
      (subst (λ k. IsScoped T (d + 2 + k) (remaining_goal w 1 levels ((d + 1) ∷ []) (d + 2 + length moved))) (sym many)
      (remaining-scoped 1 levels ((d + 1) ∷ []) (d + 2 + length moved) (omega arith) (length-each_position _ 0 (length w.state.context)) refl)))))

  all-variables : (d : ℕ) (levels : List ℕ) → 0 < d → Each (IsScoped (with_count S count) d) (map (λ j. variable d (get_or w.variables j 0)) levels)
  all-variables d [] some = Each.none
  all-variables d (j ∷ levels) some = Each.more (variable-there (with_count S count) d (get_or w.variables j 0) some) (all-variables d levels some)

  -- a solution, from the next state's term after the dependants
  pub solution-scoped : (head : Term) (x : ℕ) (on_right : Bool) (A u N : Term) → 0 < inside w → level_of_first w.state.equations < top
      → IsScoped (with_count S count) (inside w) head → IsScoped (with_count S count) (length w.state.context) A → IsScoped (with_count S count) (length w.state.context) u
      → x < length w.state.context → IsWhole (with_count S count) (solved_standing w x A u) → IsScoped (with_count S count) (solved_standing w x A u).depth N
      → IsScoped (with_count S count) (inside w) (solution_term head w x on_right A u (solved_standing w x A u) N)
  solution-scoped head x on_right A u N some low hh hA hu variable_there next hN =
      let T = with_count S count in
      let d = inside w in
      let n = length w.state.context in
      let p = level_of n x in
      let moved = dependants w.state.context p in
      let fixed = map (λ j. get_or w.variables j 0) (kept w.state p) in
      let context = (solved_standing w x A u).state.context in
      let rest = drop (length fixed) context in
      let types = placed_telescope fixed d rest in
      let kept_count : length fixed ≡ length (kept w.state p) = length-map (kept w.state p) (λ j. get_or w.variables j 0) in
      let total : length context ≡ length (kept w.state p) + length moved =
      length-new_context w.state.context (solved n (order_without w.state.context p) p u) 0 (order_without w.state.context p) ∙ length-append (kept w.state p) moved in
      let shorter : length rest ≡ length context - length fixed = length-drop (length fixed) context in
      let long : length types ≡ length moved = length-placed fixed d rest ∙ omega arith in
      let method : IsScoped T d (solution_method w p (solved_standing w x A u) N) =
      scoped-functions T d types N
      (placed_telescope-scoped T fixed d rest (λ v. some)
      (telescope-same T (0 + length fixed) (length fixed) rest (omega arith) (drop-telescope T 0 (length fixed) context next.scoped.context)))
      (scoped_over_more T (d + length moved) (d + length types) N (omega arith) hN) in
      applied-each T d head _ hh
      (Each.more (here-scoped d A (λ v. some) hA)
      (Each.more (here-scoped d u (λ v. some) hu)
      (Each.more (motive-scoped p on_right A u some low hA hu)
      (Each.more method
      (Each.more (here-scoped d (Var x) (λ v. some) (var-scoped variable_there))
      (each-append (first_equations w 1) _ (run-there T d w.depth 1 some)
      (each-append (map (λ j. variable d (get_or w.variables j 0)) moved) (further_equations w 1) (all-variables d moved some)
      (run-there T d (w.depth + 1) (equation_count w - 1) some))))))))

  -- ---- deletions

  pub delete-scoped : (L : ℕ) (A u N : Term) → 0 < inside w → level_of_first w.state.equations < top → IsScoped (with_count S count) (length w.state.context) A
      → IsScoped (with_count S count) (length w.state.context) u → IsScoped (with_count S count) (inside w) N → IsScoped (with_count S count) (inside w) (delete_term L w A u N)
  delete-scoped L A u N some low hA hu hN =
      let T = with_count S count in
      let d = inside w in
      let i = level_of_first w.state.equations in
      let a = here-scoped d A (λ v. some) hA in
      let b = here-scoped d u (λ v. some) hu in
      applied-each T d (AxiomK i L) _ (record { variables = omega arith; entries = tt })
      (Each.more a
      (Each.more b
      (Each.more
      (lam-scoped (equation-scoped T d i (here w A) (here w u) (here w u) (ready-there S count ready) low a b b)
      (remaining-scoped 1 w.variables (d ∷ []) (d + 1) (omega arith) is.variables refl))
      (Each.more hN
      (each-append (first_equations w 1) (further_equations w 1) (run-there T d w.depth 1 some) (run-there T d (w.depth + 1) (equation_count w - 1) some))))))

  -- ---- comparisons

  member-scoped : (c : Comparison) (b : Built) → IsCompared S count ready (length w.state.context) c → IsBuiltIn (with_count S count) (length w.state.context) b → b.n ≡ c.n
      → IsScoped (with_count S count) (length w.state.context) (member c b)
  member-scoped c b h hb same =
      let T = with_count S count in
      let n = length w.state.context in
      applied-scoped T n (Con c.n b.number) (c.parameters ++ b.arguments)
      (record {
        variables = omega arith;
        entries = (b.family, subst (λ k. IsEntryAt T k (FamilyOf b.family)) same hb.entry, slice_get_within b.family.constructors b.number b.constructor hb.constructor);
      })
      (All-append (IsScoped T n) c.parameters b.arguments h.parameters hb.arguments)

  left-member-scoped : (c : Comparison) → IsCompared S count ready (length w.state.context) c → All (IsScoped (with_count S count) (length w.state.context)) (left_member c)
  left-member-scoped c h =
      All-append (IsScoped (with_count S count) (length w.state.context)) (targets c.parameters c.left) (member c c.left ∷ [])
      (targets-scoped S count ready (length w.state.context) c.parameters c.left h.parameters h.left)
      (All-cons (IsScoped (with_count S count) (length w.state.context)) (member c c.left) [] (member-scoped c c.left h h.left h.left_number)
      (All-nil (IsScoped (with_count S count) (length w.state.context))))

  right-member-scoped : (c : Comparison) → IsCompared S count ready (length w.state.context) c → All (IsScoped (with_count S count) (length w.state.context)) (right_member c)
  right-member-scoped c h =
      All-append (IsScoped (with_count S count) (length w.state.context)) c.indices (member c c.right ∷ []) h.indices
      (All-cons (IsScoped (with_count S count) (length w.state.context)) (member c c.right) [] (member-scoped c c.right h h.right h.right_number)
      (All-nil (IsScoped (with_count S count) (length w.state.context))))

  items-scoped : (c : Comparison) → IsCompared S count ready (length w.state.context) c
      → AreScopedItems (with_count S count) (length w.state.context) (family_items c.n c.family c.parameters)
  items-scoped c h =
      family_items-scoped (with_count S count) c.n (length w.state.context) c.family c.parameters (ready-there S count ready).scoped
      (entry-there S count c.n (FamilyOf c.family) h.family) h.parameters

  take-items : (T : Signature) (n k : ℕ) (X : List Item) → AreScopedItems T n X → AreScopedItems T n (take k X)
  take-items T n k X h = record {
    types = subst (IsScopedTelescope T n) (take-map k X) (telescope-take T n k (map (λ item. item.type) X) h.types);
    levels = All-take (λ item. item.level < top) k X h.levels;
  }
    where
      take-map : (k : ℕ) (X : List Item) → take k (map (λ item. item.type) X) ≡ map (λ item. item.type) (take k X)
      take-map zero X = refl
      take-map (suc k) [] = refl
      take-map (suc k) (x ∷ X) = ap (λ rest. x.type ∷ rest) (take-map k X)

  group-scoped : (c : Comparison) (k : ℕ) → 0 < inside w → IsCompared S count ready (length w.state.context) c
      → Each (IsScoped (with_count S count) (inside w)) (group_equations w c k)
  group-scoped c zero some h =
      let T = with_count S count in
      let X = take (length c.family.indices) (family_items c.n c.family c.parameters) in
      each-append (all_here w (reflexivities X c.indices)) (first_equations w 1)
      (all-here-scoped (reflexivities X c.indices)
      (scoped_reflexivities T (length w.state.context) X c.indices (ready-there S count ready).identities
      (take-items T (length w.state.context) (length c.family.indices) (family_items c.n c.family c.parameters) (items-scoped c h)) h.indices))
      (run-there T (inside w) w.depth 1 some)
  group-scoped c (suc k) some h = run-there (with_count S count) (inside w) w.depth (suc k + 1) some

  confused-scoped : (number : Naming) (L k : ℕ) (c : Comparison) → 0 < inside w → IsConstantNumber (with_count S count) (number (noconf_name c.family c.left.number L))
      → IsCompared S count ready (length w.state.context) c → IsScoped (with_count S count) (inside w) (confused number L w k c)
  confused-scoped number L k c some named h =
      let T = with_count S count in
      let d = inside w in
      applied-each T d (Const (number (noconf_name c.family c.left.number L))) _ (const-scoped T d (number (noconf_name c.family c.left.number L)) named)
      (each-append (all_here w c.parameters) _ (all-here-scoped c.parameters h.parameters)
      (each-append (all_here w c.left.arguments) _ (all-here-scoped c.left.arguments h.left.arguments)
      (each-append (all_here w (right_member c)) (group_equations w c k) (all-here-scoped (right_member c) (right-member-scoped c h)) (group-scoped c k some h))))

  compared-types : (c : Comparison) → 0 < inside w → IsCompared S count ready (length w.state.context) c → IsScopedTelescope (with_count S count) (inside w) (compared_equations w c)
  compared-types c some h =
      let T = with_count S count in
      let X = family_items c.n c.family c.parameters in
      placed_telescope-scoped T w.variables (inside w) (equations X (left_member c) (right_member c)) (λ v. some)
      (telescope-same T (length w.state.context) (length w.variables) (equations X (left_member c) (right_member c)) (sym is.variables)
      (scoped_equations T (length w.state.context) X (left_member c) (right_member c) (ready-there S count ready).identities (items-scoped c h) (left-member-scoped c h) (right-member-scoped c h)))

  length-compared : (c : Comparison) → length (compared_equations w c) ≡ length c.family.indices + 1
  length-compared c =
      let X = family_items c.n c.family c.parameters in
      length-placed w.variables (inside w) (equations X (left_member c) (right_member c)) ∙ (length-each_position _ 0 (length X) ∙ length-family_items c.n c.family c.parameters)

  pub inject-scoped : (number : Naming) (L k : ℕ) (c : Comparison) (N : Term) → 0 < inside w → IsConstantNumber (with_count S count) (number (noconf_name c.family c.left.number L))
      → IsCompared S count ready (length w.state.context) c → length c.family.indices ≡ k → IsScoped (with_count S count) (inside w) N
      → IsScoped (with_count S count) (inside w) (inject_term number L w k c N)
  inject-scoped number L k c N some named h indices hN =
      let T = with_count S count in
      let d = inside w in
      let g = k + 1 in
      let rest = remaining_goal w g w.variables (levels_from d g) (d + g) in
      applied-each T d (confused number L w k c) _ (confused-scoped number L k c some named h)
      (Each.more
      (scoped-functions T d (compared_equations w c) rest (compared-types c some h)
      (scoped_over_more T (d + g) (d + length (compared_equations w c)) rest (omega (arith, length-compared c, indices))
      (remaining-scoped g w.variables (levels_from d g) (d + g) (omega arith) is.variables (length-levels d g))))
      (Each.more hN (run-there T d (w.depth + g) (equation_count w - g) some)))

  pub conflict-scoped : (number : Naming) (L k : ℕ) (c : Comparison) → 0 < inside w → IsConstantNumber (with_count S count) (number (noconf_name c.family c.left.number L))
      → IsCompared S count ready (length w.state.context) c → IsScoped (with_count S count) (inside w) (conflict_term number L w k c)
  conflict-scoped number L k c some named h =
      let T = with_count S count in
      let types = compared_equations w c in
      app-scoped (confused-scoped number L k c some named h)
      (scoped-functions T (inside w) types (placed w.variables (inside w + length types) w.goal) (compared-types c some h)
      (here-scoped (inside w + length types) w.goal (λ v. omega arith) goal-scoped))
