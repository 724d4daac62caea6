-- Standings whose terms are scoped over a signature with the names of a draft: replaying keeps them so.
use Rattle.std.proofs.Common.{◌≡◌, ◌≢◌, inl, inr, ℕ, suc, ◌+◌, ◌-◌, ◌<◌, ◌≤◌, Bool, true, false, not, Some, List, [], ◌∷◌, ◌++◌, length, map, take, get_or, All, refl, sym, ap, ap₂, subst, ◌∙◌, arith}
use Rattle.std.proofs.lemmas.Bool.{true≢false}
use Rattle.std.proofs.lemmas.List.{length-append, length-map, map-append}
use Rattle.std.proofs.lemmas.List.Elements.{All-nil, All-cons, All-head, All-tail, All-take, All-weaker, All-map}
use Rattle.theory.specs.Terms.{Term, Var, Sort, Pi, Lam, App, Let, Const, Fam, Con, Elim, AxiomK, lift, free_of, top}
use Rattle.theory.specs.Substitutions.{inst, fill}
use Rattle.theory.specs.Telescopes.{Telescope, products, functions, applied, variables}
use Rattle.theory.specs.Spines.{spine_of}
use Rattle.theory.specs.Eliminators.{no_variable}
use Rattle.theory.specs.Families.{Family}
use Rattle.theory.specs.Signatures.{Signature, FamilyOf, IsEntryAt}
use Rattle.theory.specs.SignatureScopes.{HasEntries, IsScoped, IsScopedTelescope, IsScopedConstructor}
use Rattle.theory.specs.WellFormed.{first_entries}
use Rattle.theory.proofs.AllOf.{all_at, all_left}
use Rattle.theory.proofs.Bounds.{fill-kept}
use Rattle.theory.proofs.Instantiation.{inst-applied}
use Rattle.theory.proofs.FreeVariables.{free_of-lift}
use Rattle.theory.proofs.ScopedTerms.{scoped-wider, var-scoped, sort-scoped, scoped_over_more, scoped_over_all, inst-scoped, spine-scoped, pi-scoped, lam-scoped}
use Rattle.case_trees.proofs.Arguments.{spine-applied}
use Rattle.core_terms.specs.CaseTrees.{Step}
use Rattle.core_terms.specs.Levels.{variable}
use Rattle.core_terms.specs.declared.case_tree.Rule.TheVariants.{SolveRight, SolveLeft, Inject, Delete}
use Rattle.tele_eq.specs.Dependences.{has_variable}
use Rattle.tele_eq.specs.Levels.{is_among, has_level}
use Rattle.tele_eq.proofs.Carrying.{ups_by}
use Rattle.unification.specs.Built.{Built, term_of}
use Rattle.unification.specs.Injecting.{lifted}
use Rattle.unification.specs.Occurrences.{dependants, lacks, order_without}
use Rattle.unification.specs.Paths.{IsBuilt}
use Rattle.unification.specs.Rules.{level_of, IsSolvable, Steps, solve_right, solve_left, inject_group, inject, delete}
use Rattle.unification.specs.ScopedStates.{IsReady, IsScopedEquation, AreScopedEquations, IsScopedState, IsScopedStep, IsScopedAt}
use Rattle.unification.specs.Solving.{solved}
use Rattle.unification.specs.States.{Equation, State, right_sides}
use Rattle.unification.proofs.BuiltScopes.{IsBuiltIn, built-scoped}
use Rattle.unification.proofs.Cases.{below-or_from, first-of_two}
use Rattle.unification.proofs.Constructors.{instance_of, term-instance, same-constructor}
use Rattle.unification.proofs.Levels.{among-cases}
use Rattle.unification.proofs.MovedStates.{solved_state-scoped, deleted_state-scoped, injected_state-scoped}
use Rattle.unification.proofs.Occurring.{put-all}
use Rattle.unification.proofs.SolvedContexts.{dependants-within, length-order, length-new_context}
use Rattle.tree_translation.specs.Comparisons.{Comparison, targets, compared, compared_by, compared_alone}
use Rattle.tree_translation.specs.Hidden.{visible, widened, widened_behind, widened_number}
use Rattle.tree_translation.specs.Replays.{level_of_first, kept, solved_standing, injected_standing, deleted_standing, unless_compared, step_in, behind_step}
use Rattle.tree_translation.specs.Standings.{Standing, inside, levels_from, placed, placed_telescope, at_levels}
use Rattle.tree_translation.specs.Laws.{widened_equations, Widens}
use Rattle.tree_translation.proofs.Comparing.{built-again, compared-built, compared-group}
use Rattle.tree_translation.proofs.LevelLists.{length-levels}
use Rattle.tree_translation.proofs.RecordInstances.{lifted-instance, near-variables}
use Rattle.tree_translation.proofs.SeenOccurrences.{position-of, level-in, in-level}
use Rattle.tree_translation.proofs.SeenOrders.{IsSameVariable, left_out-same, whole-below}
use Rattle.tree_translation.proofs.SeenSteps.{level-seen, type-read, variable-seen, built-seen}
use Rattle.tree_translation.proofs.SeenTerms.{visible-below, visible-are, widening, widened-is, behind-is, widened-variable}
use Rattle.entry_laws.proofs.entry_scopes.DraftSignatures.{with_count, entry-there, numbers-there, ready-there}

-- ---- placed terms

-- a variable by its level is one of those that are bound
pub variable-there : (T : Signature) (d l : ℕ) → 0 < d → IsScoped T d (variable d l)
variable-there T d l room = var-scoped (omega arith)

pub placed-scoped : (T : Signature) (levels : List ℕ) (d : ℕ) (t : Term) → (0 < length levels → 0 < d) → IsScoped T (length levels) t → IsScoped T d (placed levels d t)
placed-scoped T levels d t room h =
    put-all T (at_levels levels) (length levels) d t (λ p lt more le. variable-there T more (get_or levels p 0) (let low = room (omega arith) in omega arith)) h

pub all-placed-scoped : (T : Signature) (levels : List ℕ) (d : ℕ) (ts : List Term) → (0 < length levels → 0 < d) → All (IsScoped T (length levels)) ts
    → All (IsScoped T d) (map (placed levels d) ts)
all-placed-scoped T levels d ts room all =
    All-map (IsScoped T d) (placed levels d) ts
    (All-weaker (IsScoped T (length levels)) (λ t. IsScoped T d (placed levels d t)) (λ t h. placed-scoped T levels d t room h) ts all)

pub telescope-same : (T : Signature) (a b : ℕ) (tele : Telescope) → a ≡ b → IsScopedTelescope T a tele → IsScopedTelescope T b tele
telescope-same T a b tele e h = subst (λ n. IsScopedTelescope T n tele) e h

pub placed_telescope-scoped : (T : Signature) (levels : List ℕ) (d : ℕ) (tele : Telescope) → (0 < length levels → 0 < d) → IsScopedTelescope T (length levels) tele
    → IsScopedTelescope T d (placed_telescope levels d tele)
placed_telescope-scoped T levels d [] room h = tt
placed_telescope-scoped T levels d (a ∷ tele) room h = (
  placed-scoped T levels d a room h.0,
  placed_telescope-scoped T (levels ++ d ∷ []) (d + 1) tele (λ some. omega arith)
      (telescope-same T (length levels + 1) (length (levels ++ d ∷ [])) tele (sym (length-append levels (d ∷ []))) h.1),
)

pub length-placed : (levels : List ℕ) (d : ℕ) (tele : Telescope) → length (placed_telescope levels d tele) ≡ length tele
length-placed levels d [] = refl
length-placed levels d (a ∷ tele) = ap suc (length-placed (levels ++ d ∷ []) (d + 1) tele)

pub scoped-functions : (T : Signature) (n : ℕ) (tele : Telescope) (end : Term) → IsScopedTelescope T n tele → IsScoped T (n + length tele) end → IsScoped T n (functions tele end)
scoped-functions T n [] end h k = scoped_over_more T (n + 0) n end (omega arith) k
scoped-functions T n (a ∷ tele) end h k =
    lam-scoped h.0 (scoped-functions T (n + 1) tele end h.1 (scoped_over_more T (n + suc (length tele)) (n + 1 + length tele) end (omega arith) k))

pub scoped-products : (T : Signature) (n : ℕ) (tele : Telescope) (end : Term) → IsScopedTelescope T n tele → IsScoped T (n + length tele) end → IsScoped T n (products tele end)
scoped-products T n [] end h k = scoped_over_more T (n + 0) n end (omega arith) k
scoped-products T n (a ∷ tele) end h k =
    pi-scoped h.0 (scoped-products T (n + 1) tele end h.1 (scoped_over_more T (n + suc (length tele)) (n + 1 + length tele) end (omega arith) k))

-- ---- instances

-- each variable that a record has
pub filled-scoped : (T : Signature) (n : ℕ) (us : List Term) → All (IsScoped T n) us → (v : ℕ) → IsScoped T n (fill no_variable us v)
filled-scoped T n us all v = fill-kept (IsScoped T n) no_variable us (λ i. sort-scoped 0) all v

pub all-instances : (T : Signature) (s : ℕ → Term) (n m : ℕ) (ts : List Term) → ((v : ℕ) → v < n → IsScoped T m (s v)) → All (IsScoped T n) ts → All (IsScoped T m) (map (inst s) ts)
all-instances T s n m ts each all =
    All-map (IsScoped T m) (inst s) ts (All-weaker (IsScoped T n) (λ t. IsScoped T m (inst s t)) (λ t h. inst-scoped T s n m t each h) ts all)

entries-unlifted : (S : Signature) (t : Term) (by from : ℕ) → HasEntries S (lift t by from) → HasEntries S t
entries-unlifted S (Pi a b) by from h = (entries-unlifted S a by from h.0, entries-unlifted S b by (from + 1) h.1)
entries-unlifted S (Lam a b) by from h = (entries-unlifted S a by from h.0, entries-unlifted S b by (from + 1) h.1)
entries-unlifted S (App f a) by from h = (entries-unlifted S f by from h.0, entries-unlifted S a by from h.1)
entries-unlifted S (Let a t b) by from h =
    (entries-unlifted S a by from h.0, entries-unlifted S t by from h.1, entries-unlifted S b by (from + 1) h.2)
entries-unlifted S (Const c) by from h = h
entries-unlifted S (Fam n) by from h = h
entries-unlifted S (Con n c) by from h = h
entries-unlifted S (Elim n m) by from h = h
entries-unlifted S (Var v) by from h = tt
entries-unlifted S (Sort i) by from h = tt
entries-unlifted S (AxiomK i m) by from h = tt

unlifted : (S : Signature) (n k : ℕ) (t : Term) → IsScoped S (n + k) (lift t k 0) → IsScoped S n t
unlifted S n k t h = record {
  variables = elim (below-or_from 0 (free_of t)) [
    | inl some ↦
        let e : free_of (lift t k 0) ≡ free_of t + k = free_of-lift t k 0 ∙ first-of_two 0 (free_of t) (free_of t + k) (free_of t) some in
        let low : free_of (lift t k 0) ≤ n + k = h.variables in
        omega arith
    | inr none ↦ omega arith
  ];
  entries = entries-unlifted S t k 0 h.entries;
}

all-unlifted : (S : Signature) (n k : ℕ) (ts : List Term) → All (IsScoped S (n + k)) (lifted k ts) → All (IsScoped S n) ts
all-unlifted S n k [] all = All-nil (IsScoped S n)
all-unlifted S n k (t ∷ ts) all =
    All-cons (IsScoped S n) t ts (unlifted S n k t (All-head (IsScoped S (n + k)) (lift t k 0) (lifted k ts) all))
    (all-unlifted S n k ts (All-tail (IsScoped S (n + k)) (lift t k 0) (lifted k ts) all))

-- ---- what is seen, over the whole

module _ (S : Signature) (count : ℕ) where
  abbrev T : Signature
  T = with_count S count

  -- a term of what is seen
  pub widened-scoped : (n m : ℕ) (hidden : List ℕ) (t : Term) → m ≡ length (visible n hidden) → IsScoped S m t → IsScoped (with_count S count) n (widened n hidden t)
  widened-scoped n m hidden t same h =
      placed-scoped (with_count S count) (visible n hidden) n t (λ some. let low = visible-below n hidden 0 some in omega arith)
      (subst (λ k. IsScoped (with_count S count) k t) same (scoped-wider (numbers-there S count) h))

  pub widening-scoped : (n m : ℕ) (hidden : List ℕ) → m ≡ length (visible n hidden) → (v : ℕ) → v < m → IsScoped (with_count S count) n (widening n hidden v)
  widening-scoped n m hidden same v lt =
      let some : 0 < n = (let low = visible-below n hidden 0 (omega arith) in omega arith) in
      subst (IsScoped (with_count S count) n) (sym (widened-variable n hidden v (omega arith))) (var-scoped (omega arith))

  pub all-widening : (n m : ℕ) (hidden : List ℕ) (ts : List Term) → m ≡ length (visible n hidden) → All (IsScoped S m) ts
      → All (IsScoped (with_count S count) n) (map (inst (widening n hidden)) ts)
  all-widening n m hidden ts same all =
      all-instances (with_count S count) (widening n hidden) m n ts (widening-scoped n m hidden same)
      (All-weaker (IsScoped S m) (IsScoped (with_count S count) m) (λ t h. scoped-wider (numbers-there S count) h) ts all)

  pub built-there : (n m : ℕ) (hidden : List ℕ) (b : Built) → m ≡ length (visible n hidden) → IsBuilt S b → IsScoped S m (term_of b)
      → IsBuiltIn (with_count S count) n (instance_of (widening n hidden) b)
  built-there n m hidden b same is h =
      let in_seen = built-scoped S m (term_of b) b (built-again S b is) h in
      record {
        entry = entry-there S count b.n (FamilyOf b.family) is.family;
        constructor = is.constructor;
        parameters = all-widening n m hidden b.parameters same in_seen.parameters;
        arguments = all-widening n m hidden b.arguments same in_seen.arguments;
        count = length-map b.arguments (inst (widening n hidden)) ∙ is.arguments;
      }

-- a solved variable is in no term that lacks it, over the whole
lacks-whole : (context : Telescope) (hidden : List ℕ) (others : Telescope) (p' p : ℕ) (u : Term) → IsSameVariable context hidden others p' p
    → lacks others p u ≡ true → lacks context p' (widened (length context) hidden u) ≡ true
lacks-whole context hidden others p' p u v free = by (has_level (length context) (p' ∷ dependants context p') (widened (length context) hidden u)) refl
  where
    contrary : (b : Bool) → not b ≡ true → b ≡ true → ⊥
    contrary true h e = true≢false (sym h)
    contrary false h e = true≢false (sym e)

    low : (q : ℕ) → is_among q (p' ∷ dependants context p') ≡ true → q < length context
    low q h = elim (among-cases q p' (dependants context p') h) [
      | inl e ↦ let less = whole-below context hidden others p' p v in omega arith
      | inr k ↦ dependants-within context p' q (whole-below context hidden others p' p v) k
    ]

    by : (b : Bool) → has_level (length context) (p' ∷ dependants context p') (widened (length context) hidden u) ≡ b → not b ≡ true
    by false e = refl
    by true e =
        let l = level-in (length context) (p' ∷ dependants context p') (widened (length context) hidden u) e in
        let r = position-of (visible (length context) hidden) (length context) l.q u (visible-are (length context) hidden) (low l.q l.among) l.occurs in
        let same : length others ≡ length (visible (length context) hidden) = v.is_seen.count in
        let inside : r.j < length others = omega (arith, r.within) in
        let there : is_among r.j (p ∷ dependants others p) ≡ true =
        sym (left_out-same context hidden others p' p v r.j inside) ∙ (ap (λ q. is_among q (p' ∷ dependants context p')) r.level ∙ l.among) in
        absurd (contrary (has_level (length others) (p ∷ dependants others p) u) free
        (in-level (length others) (p ∷ dependants others p) u r.j there (ap (λ n. has_variable (n - (r.j + 1)) u) same ∙ r.occurs)))

-- ---- standings

-- a standing's state, with its goal in the place of a solution
abbrev pub goal_state : Standing → State
goal_state w = record { context = w.state.context; equations = w.state.equations; solution = w.goal ∷ [] }

pub record IsWhole (T : Signature) (w : Standing) : Type 0 where
  pub scoped : IsScopedState T (goal_state w)
  pub variables : length w.variables ≡ length w.state.context
  pub room : length w.state.context ≤ w.depth

-- an equation is there
pub first-there : (w : Standing) (s : State) (e : Equation) (rest : List Equation) → Widens w s → s.equations ≡ e ∷ rest → 0 < length w.state.equations
first-there w s e rest h first =
    let long : length w.state.equations ≡ length (widened_equations (length w.state.context) w.hidden 0 s.equations) = ap length h.equations in
    let many : length (widened_equations (length w.state.context) w.hidden 0 s.equations) ≡ suc (length (widened_equations (length w.state.context) w.hidden (0 + 1) rest)) =
    ap (λ es. length (widened_equations (length w.state.context) w.hidden 0 es)) first in
    omega arith

length-widened : (n : ℕ) (hidden : List ℕ) (k : ℕ) (es : List Equation) → length (widened_equations n hidden k es) ≡ length es
length-widened n hidden k [] = refl
length-widened n hidden k (e ∷ es) = ap suc (length-widened n hidden (k + 1) es)

pub equations-there : (w : Standing) (s : State) → Widens w s → length w.state.equations ≡ length s.equations
equations-there w s h = ap length h.equations ∙ length-widened (length w.state.context) w.hidden 0 s.equations

-- its level is that of a type
pub level-low : (S : Signature) (w : Standing) (s : State) (e : Equation) (rest : List Equation) → IsScopedState S s → Widens w s → s.equations ≡ e ∷ rest
    → level_of_first w.state.equations < top
level-low S w s e rest scoped h first =
    let is : IsScopedEquation S (length s.context) 0 e = (subst (AreScopedEquations S (length s.context) 0) first scoped.equations).0 in
    let same : level_of_first w.state.equations ≡ e.place.level = level-seen w s h ∙ ap level_of_first first in
    let low : e.place.level < top = is.level in
    subst (λ l. l < top) (sym same) low

-- ---- solutions

solved-variables : (w : Standing) (x : ℕ) (A u : Term) → length (solved_standing w x A u).variables ≡ length (solved_standing w x A u).state.context
solved-variables w x A u =
    let p = level_of (length w.state.context) x in
    let moved = length (dependants w.state.context p) in
    length-append (map (λ j. get_or w.variables j 0) (kept w.state p)) (levels_from (inside w) moved)
    ∙ (ap₂ ◌+◌ (length-map (kept w.state p) (λ j. get_or w.variables j 0)) (length-levels (inside w) moved)
    ∙ (sym (length-append (kept w.state p) (dependants w.state.context p))
    ∙ sym (length-new_context w.state.context (solved (length w.state.context) (order_without w.state.context p) p u) 0 (order_without w.state.context p))))

module _ (S : Signature) (count : ℕ) (ready : IsReady S) where
  -- variable x of what is seen is solved by u
  pub solved-whole : (w : Standing) (s : State) (e : Equation) (rest : List Equation) (x : ℕ) (A u : Term) → IsWhole (with_count S count) w → Widens w s → IsScopedState S s
      → s.equations ≡ e ∷ rest → IsSolvable s x A u → IsScoped S (length s.context) A → IsScoped S (length s.context) u
      → IsWhole (with_count S count)
      (solved_standing w (widened_number (length w.state.context) w.hidden x) (widened_behind (length w.state.context) w.hidden 0 A) (widened (length w.state.context) w.hidden u))
  solved-whole w s e rest x A u is h scoped first solvable hA hu =
      let n = length w.state.context in
      let x' = widened_number n w.hidden x in
      let p' = level_of n x' in
      let A' = widened_behind n w.hidden 0 A in
      let u' = widened n w.hidden u in
      let v = variable-seen w s x h solvable.variable in
      let same : length s.context ≡ length (visible n w.hidden) = h.context.count in
      let low = whole-below w.state.context w.hidden s.context p' (level_of (length s.context) x) v in
      let read : A' ≡ widened n w.hidden A = type-read n w.hidden A ∙ sym (widened-is n w.hidden A) in
      let sA : IsScoped (with_count S count) n A' = subst (IsScoped (with_count S count) n) (sym read) (widened-scoped S count n (length s.context) w.hidden A same hA) in
      let su = widened-scoped S count n (length s.context) w.hidden u same hu in
      let fA : lacks w.state.context p' A' ≡ true =
      ap (lacks w.state.context p') read ∙ lacks-whole w.state.context w.hidden s.context p' (level_of (length s.context) x) A v solvable.type in
      let fu = lacks-whole w.state.context w.hidden s.context p' (level_of (length s.context) x) u v solvable.term in
      let many = length-new_context w.state.context (solved n (order_without w.state.context p') p' u') 0 (order_without w.state.context p') in
      let fewer = length-order w.state.context p' low in
      let room : n ≤ w.depth = is.room in
      record {
        scoped = solved_state-scoped (with_count S count) (goal_state w) (level_of_first w.state.equations) p' A' u' (ready-there S count ready) is.scoped low
            (level-low S w s e rest scoped h first) sA su fA fu;
        variables = solved-variables w x' A' u';
        room = omega (arith, many, fewer, room);
      }

  -- ---- deletions

  pub deleted-whole : (w : Standing) (s : State) (e : Equation) (rest : List Equation) (A u : Term) → IsWhole (with_count S count) w → Widens w s → IsScopedState S s
      → s.equations ≡ e ∷ rest → IsScoped S (length s.context) A → IsScoped S (length s.context) u
      → IsWhole (with_count S count) (deleted_standing w (widened_behind (length w.state.context) w.hidden 0 A) (widened (length w.state.context) w.hidden u))
  deleted-whole w s e rest A u is h scoped first hA hu =
      let n = length w.state.context in
      let A' = widened_behind n w.hidden 0 A in
      let u' = widened n w.hidden u in
      let same : length s.context ≡ length (visible n w.hidden) = h.context.count in
      let read : A' ≡ widened n w.hidden A = type-read n w.hidden A ∙ sym (widened-is n w.hidden A) in
      let sA : IsScoped (with_count S count) n A' = subst (IsScoped (with_count S count) n) (sym read) (widened-scoped S count n (length s.context) w.hidden A same hA) in
      let room : n ≤ w.depth = is.room in
      record {
        scoped = deleted_state-scoped (with_count S count) (goal_state w) (level_of_first w.state.equations) A' u' (ready-there S count ready) is.scoped
            (level-low S w s e rest scoped h first) sA (widened-scoped S count n (length s.context) w.hidden u same hu);
        variables = is.variables;
        room = omega arith;
      }

  -- ---- comparisons

  -- Two members of a family, which are constructors, with their parts over n variables.
  pub record IsCompared (n : ℕ) (c : Comparison) : Type 0 where
    pub family : IsEntryAt S c.n (FamilyOf c.family)
    pub parameters : All (IsScoped (with_count S count) n) c.parameters
    pub left : IsBuiltIn (with_count S count) n c.left
    pub right : IsBuiltIn (with_count S count) n c.right
    pub left_number : c.left.n ≡ c.n
    pub right_number : c.right.n ≡ c.n
    pub indices : All (IsScoped (with_count S count) n) c.indices

  pub targets-scoped : (n : ℕ) (ps : List Term) (b : Built) → All (IsScoped (with_count S count) n) ps → IsBuiltIn (with_count S count) n b
      → All (IsScoped (with_count S count) n) (targets ps b)
  targets-scoped n ps b all is =
      let T = with_count S count in
      let family = (ready-there S count ready).scoped b.n (FamilyOf b.family) is.entry in
      let con = all_at (IsScopedConstructor (first_entries T (b.n + 1)) (length b.family.parameters) (length b.family.indices)) b.family.constructors b.number b.constructor
      is.constructor family.constructors in
      let k = length b.family.parameters + length b.constructor.arguments in
      all-instances T (fill (fill no_variable ps) b.arguments) k n b.constructor.targets
      (λ v lt. fill-kept (IsScoped T n) (fill no_variable ps) b.arguments (filled-scoped T n ps all) is.arguments v)
      (All-weaker (IsScoped (first_entries T (b.n + 1)) k) (IsScoped T k) (λ t h. scoped_over_all T (b.n + 1) k t h) b.constructor.targets con.targets)

  -- by one equation
  pub alone-compared : (w : Standing) (s : State) (b d : Built) → Widens w s → IsBuilt S b → IsBuilt S d → b.n ≡ d.n → IsScoped S (length s.context) (term_of b)
      → IsScoped S (length s.context) (term_of d)
      → (let q = widening (length w.state.context) w.hidden in IsCompared (length w.state.context) (compared_alone (instance_of q b) (instance_of q d)))
  alone-compared w s b d h left right number hb hd =
      let n = length w.state.context in
      let same : length s.context ≡ length (visible n w.hidden) = h.context.count in
      let one = built-there S count n (length s.context) w.hidden b same left hb in
      let other = built-there S count n (length s.context) w.hidden d same right hd in
      record {
        family = left.family;
        parameters = one.parameters;
        left = one;
        right = other;
        left_number = refl;
        right_number = sym number;
        indices = targets-scoped n (map (inst (widening n w.hidden)) b.parameters) (instance_of (widening n w.hidden) d) one.parameters other;
      }

  all-right_sides : (n k : ℕ) (es : List Equation) → AreScopedEquations (with_count S count) n k es → All (IsScoped (with_count S count) n) (right_sides es)
  all-right_sides n k [] h = All-nil (IsScoped (with_count S count) n)
  all-right_sides n k (e ∷ es) h =
      All-cons (IsScoped (with_count S count) n) e.right (right_sides es) h.0.right (all-right_sides n (k + 1) es h.1)

  -- by a group
  abbrev pub group_comparison : (w : Standing) (k : ℕ) (f : Family) (ps : List Term) (b d : Built) → Comparison
  group_comparison w k f ps b d =
      let q = widening (length w.state.context) w.hidden in
      record { n = b.n; family = f; parameters = map (inst q) ps; left = instance_of q b; right = instance_of q d; indices = take k (right_sides w.state.equations) }

  pub group-compared : (w : Standing) (s : State) (k : ℕ) (f : Family) (ps : List Term) (type : Term) (b d : Built) → IsWhole (with_count S count) w → Widens w s → IsBuilt S b
      → IsBuilt S d → b.n ≡ d.n → IsEntryAt S b.n (FamilyOf f) → type ≡ applied (Fam b.n) (lifted k ps ++ variables k) → IsScoped S (length s.context + k) type
      → IsScoped S (length s.context) (term_of b) → IsScoped S (length s.context) (term_of d)
      → IsCompared (length w.state.context) (group_comparison w k f ps b d)
  group-compared w s k f ps type b d is h left right number family form ht hb hd =
      let n = length w.state.context in
      let same : length s.context ≡ length (visible n w.hidden) = h.context.count in
      let spine : All (IsScoped S (length s.context + k)) (lifted k ps ++ variables k) =
      subst (All (IsScoped S (length s.context + k))) (ap spine_of form ∙ spine-applied (Fam b.n) (lifted k ps ++ variables k)) (spine-scoped S (length s.context + k) type ht) in
      let parameters = all-unlifted S (length s.context) k ps (all_left (IsScoped S (length s.context + k)) (lifted k ps) (variables k) spine) in
      record {
        family = family;
        parameters = all-widening S count n (length s.context) w.hidden ps same parameters;
        left = built-there S count n (length s.context) w.hidden b same left hb;
        right = built-there S count n (length s.context) w.hidden d same right hd;
        left_number = refl;
        right_number = sym number;
        indices = All-take (IsScoped (with_count S count) n) k (right_sides w.state.equations) (all-right_sides n 0 w.state.equations is.scoped.equations);
      }

  -- the comparison of a step of a group over the whole context
  pub group-read : (w : Standing) (s : State) (k : ℕ) (f : Family) (ps : List Term) (type : Term) (b d : Built) (step : Step) → Widens w s → IsBuilt S b → IsBuilt S d
      → IsEntryAt S b.n (FamilyOf f) → k ≢ 0 → type ≡ applied (Fam b.n) (lifted k ps ++ variables k) → step.group ≡ k + 1 → step.ty ≡ type → step.left ≡ term_of b
      → step.right ≡ term_of d → compared S w.state (step_in w step) ≡ Some (group_comparison w k f ps b d)
  group-read w s k f ps type b d step h left right family members form eg et el er =
      let n = length w.state.context in
      let q = widening n w.hidden in
      let e : step.group - 1 ≡ k = omega arith in
      let form' : inst (ups_by k q) type ≡ applied (Fam b.n) (lifted k (map (inst q) ps) ++ variables k) =
      ap (inst (ups_by k q)) form
      ∙ (inst-applied (ups_by k q) (Fam b.n) (lifted k ps ++ variables k)
      ∙ ap (applied (Fam b.n))
      (map-append (inst (ups_by k q)) (lifted k ps) (variables k) ∙ ap₂ ◌++◌ (lifted-instance q k ps) (near-variables q k k (omega arith)))) in
      compared-built S w.state (step_in w step) (instance_of q b) (instance_of q d) (built-seen S q b left) (built-seen S q d right)
      (ap (widened n w.hidden) el ∙ (widened-is n w.hidden (term_of b) ∙ term-instance q b))
      (ap (widened n w.hidden) er ∙ (widened-is n w.hidden (term_of d) ∙ term-instance q d))
      ∙ (ap₂ (λ count a. Some (compared_by w.state count a (instance_of q b) (instance_of q d))) e
      (ap₂ (λ count a. widened_behind n w.hidden count a) e et ∙ behind-is n w.hidden k type)
      ∙ ap Some (compared-group S w.state k f (map (inst q) ps) (inst (ups_by k q) type) (instance_of q b) (instance_of q d) members family (built-seen S q b left) form'))

  -- and in a step of one equation
  pub alone-read : (w : Standing) (s : State) (b d : Built) (step : Step) → Widens w s → IsBuilt S b → IsBuilt S d → step.group ≡ 1 → step.left ≡ term_of b → step.right ≡ term_of d
      → (let q = widening (length w.state.context) w.hidden in compared S w.state (step_in w step) ≡ Some (compared_alone (instance_of q b) (instance_of q d)))
  alone-read w s b d step h left right eg el er =
      let n = length w.state.context in
      let q = widening n w.hidden in
      let e : step.group - 1 ≡ 0 = omega arith in
      compared-built S w.state (step_in w step) (instance_of q b) (instance_of q d) (built-seen S q b left) (built-seen S q d right)
      (ap (widened n w.hidden) el ∙ (widened-is n w.hidden (term_of b) ∙ term-instance q b))
      (ap (widened n w.hidden) er ∙ (widened-is n w.hidden (term_of d) ∙ term-instance q d))
      ∙ ap (λ count. Some (compared_by w.state count (step_in w step).ty (instance_of q b) (instance_of q d))) e

  -- ---- injectivities

  pub injected-whole : (w : Standing) (g : ℕ) (c : Comparison) → IsWhole (with_count S count) w → IsCompared (length w.state.context) c
      → length c.right.arguments ≡ length c.left.constructor.arguments → IsWhole (with_count S count) (injected_standing w g c)
  injected-whole w g c is hc long =
      let room : length w.state.context ≤ w.depth = is.room in
      record {
        scoped =
            injected_state-scoped (with_count S count) (goal_state w) g c.n c.left.number c.family c.left.constructor c.parameters c.left.arguments c.right.arguments
            (ready-there S count ready) is.scoped
            (record {
              owner = c.left.family;
              entry = subst (λ n. IsEntryAt (with_count S count) n (FamilyOf c.left.family)) hc.left_number hc.left.entry;
              constructor = hc.left.constructor;
              family = entry-there S count c.n (FamilyOf c.family) hc.family;
              parameters = hc.parameters;
              left = hc.left.arguments;
              right = hc.right.arguments;
              left_length = hc.left.count;
              right_length = long;
            });
        variables = is.variables;
        room = omega arith;
      }

  -- ---- steps

  arguments-long : (q : ℕ → Term) (b d : Built) → IsBuilt S b → IsBuilt S d → b.n ≡ d.n → b.number ≡ d.number
      → length (map (inst q) d.arguments) ≡ length b.constructor.arguments
  arguments-long q b d left right same number =
      length-map d.arguments (inst q) ∙ (right.arguments ∙ ap (λ c. length c.arguments) (sym (same-constructor S b d left right same number)))

  -- the type of a step that has one equation
  pub one-type : (n : ℕ) (step : Step) → step.group ≡ 1 → IsScopedStep S n step → IsScoped S n step.ty
  one-type n step one h = let group = h.group in scoped_over_more S (n + h.place) n step.ty (omega arith) h.type

  pub group-type : (n k : ℕ) (step : Step) → step.group ≡ k + 1 → IsScopedStep S n step → IsScoped S (n + k) step.ty
  group-type n k step many h = let group = h.group in scoped_over_more S (n + h.place) (n + k) step.ty (omega arith) h.type

  pub whole-step : (s t : State) (step : Step) (w : Standing) → Steps S s step t → IsScopedAt S s step → Widens w s → IsWhole (with_count S count) w
      → IsWhole (with_count S count) (behind_step S w step)
  whole-step s t _ w (solve_right _ e x A u first solvable) at h is =
      let step : Step = record { group = 1; rule = SolveRight x; ty = A; left = u; right = Var x } in
      solved-whole w s e first.rest x A u is h at.0 first.first solvable (one-type (length s.context) step refl at.1) at.1.left
  whole-step s t _ w (solve_left _ e x A u first solvable) at h is =
      let step : Step = record { group = 1; rule = SolveLeft x; ty = A; left = Var x; right = u } in
      solved-whole w s e first.rest x A u is h at.0 first.first solvable (one-type (length s.context) step refl at.1) at.1.right
  whole-step s t _ w (inject_group _ k f ps type b d left right same number group) at h is =
      let step : Step = record { group = k + 1; rule = Inject b.n b.number; ty = type; left = term_of b; right = term_of d } in
      let c = group_comparison w k f ps b d in
      subst (λ o. IsWhole (with_count S count) (unless_compared w (k + 1) o))
      (sym (group-read w s k f ps type b d step h left right group.family group.members group.form refl refl refl refl))
      (injected-whole w (k + 1) c is
      (group-compared w s k f ps type b d is h left right same group.family group.form (group-type (length s.context) k step refl at.1) at.1.left at.1.right)
      (arguments-long (widening (length w.state.context) w.hidden) b d left right same number))
  whole-step s t _ w (inject _ e A b d left right same number level indices first) at h is =
      let step : Step = record { group = 1; rule = Inject b.n b.number; ty = A; left = term_of b; right = term_of d } in
      let q = widening (length w.state.context) w.hidden in
      subst (λ o. IsWhole (with_count S count) (unless_compared w 1 o)) (sym (alone-read w s b d step h left right refl refl refl))
      (injected-whole w 1 (compared_alone (instance_of q b) (instance_of q d)) is (alone-compared w s b d h left right same at.1.left at.1.right)
      (arguments-long q b d left right same number))
  whole-step s t _ w (delete _ e A u v k first converts) at h is =
      let step : Step = record { group = 1; rule = Delete; ty = A; left = u; right = v } in
      deleted-whole w s e first.rest A u is h at.0 first.first (one-type (length s.context) step refl at.1) at.1.left
