-- Steps lead through a whole context as they do through its visible part.
use Rattle.std.proofs.Common.{◌≡◌, ℕ, ◌+◌, ◌-◌, ◌<◌, IsTrue, Option, Some, List, [], ◌∷◌, ◌++◌, length, map, take, get_or, refl, sym, ap, ap₂, ◌∙◌, subst, arith}
use Rattle.std.proofs.lemmas.List.{length-map, map-append}
use Rattle.theory.specs.Terms.{Term, Fam}
use Rattle.theory.specs.Substitutions.{inst}
use Rattle.theory.specs.Telescopes.{applied, variables}
use Rattle.theory.specs.Families.{Family}
use Rattle.theory.specs.Signatures.{Signature, reflexivity}
use Rattle.theory.proofs.Instances.{inst-inst, inst-same}
use Rattle.theory.proofs.Instantiation.{inst-applied}
use Rattle.core_terms.specs.CaseTrees.{Step}
use Rattle.core_terms.specs.declared.case_tree.Rule.TheVariants.{Inject}
use Rattle.tele_eq.specs.Environments.{Environment, put}
use Rattle.tele_eq.specs.Levels.{place_in}
use Rattle.tele_eq.proofs.Carrying.{ups_by, inst-none}
use Rattle.unification.specs.Built.{Built, term_of}
use Rattle.unification.specs.States.{State, Equation, right_sides}
use Rattle.unification.specs.Occurrences.{lacks, order_without}
use Rattle.unification.specs.Solving.{reordered, solved, solved_state, deleted_state}
use Rattle.unification.specs.Injecting.{lifted, injected_state}
use Rattle.unification.specs.Paths.{IsBuilt}
use Rattle.unification.specs.Rules.{Steps, solve_right, solve_left, inject_group, inject, delete, none, more, level_of}
use Rattle.unification.specs.Laws.{Chain}
use Rattle.unification.proofs.Constructors.{instance_of, term-instance, same-constructor}
use Rattle.unification.proofs.Puts.{Lifts, stands, put-is_inst}
use Rattle.unification.proofs.SolvedContexts.{length-new_context}
use Rattle.tree_translation.specs.Standings.{Standing}
use Rattle.tree_translation.specs.Comparisons.{Comparison, compared, compared_by}
use Rattle.tree_translation.specs.Conditions.{IsSeen}
use Rattle.tree_translation.specs.Hidden.{visible, widened, widened_behind, widened_number}
use Rattle.tree_translation.specs.Replays.{level_of_first, solved_standing, injected_standing, deleted_standing, unless_compared, behind_step, behind_run, step_in}
use Rattle.tree_translation.specs.Laws.{widened_equations, Widens, ReplayIsSeen}
use Rattle.tree_translation.proofs.Comparing.{compared-built, compared-group}
use Rattle.tree_translation.proofs.RecordInstances.{lifted-instance, near-variables}
use Rattle.tree_translation.proofs.MovedInstances.{equations_under, left_behind, one-out}
use Rattle.tree_translation.proofs.SeenTerms.{widening, widened-is, behind-is, widened-equations, visible-below}
use Rattle.tree_translation.proofs.SeenEquations.{deleted-instance, injected-instance}
use Rattle.tree_translation.proofs.SeenOrders.{IsSameVariable, whole-below}
use Rattle.tree_translation.proofs.SeenSolutions.{moved-all, lacks-it, lacks-there, solved-context_seen, solutions-agree}
use Rattle.unification.proofs.SolvedVariables.{solved-lifts}

-- ---- first equations

pub first-level : (n : ℕ) (hid : List ℕ) (es : List Equation) → level_of_first (widened_equations n hid 0 es) ≡ level_of_first es
first-level n hid [] = refl
first-level n hid (e ∷ es) = refl

pub level-seen : (w : Standing) (s : State) → Widens w s → level_of_first w.state.equations ≡ level_of_first s.equations
level-seen w s h = ap level_of_first h.equations ∙ first-level (length w.state.context) w.hidden s.equations

-- a type that follows no place
pub type-read : (n : ℕ) (hid : List ℕ) (A : Term) → widened_behind n hid 0 A ≡ inst (widening n hid) A
type-read n hid A = behind-is n hid 0 A ∙ inst-none (widening n hid) A

pub under-seen : (w : Standing) (s : State) → Widens w s → w.state.equations ≡ equations_under (widening (length w.state.context) w.hidden) 0 s.equations
under-seen w s h = h.equations ∙ widened-equations (length w.state.context) w.hidden 0 s.equations

-- where the context stays
pub same-context : (w t : Standing) (s r : State) → Widens w s → t.state.context ≡ w.state.context → t.hidden ≡ w.hidden → r.context ≡ s.context
    → t.state.equations ≡ equations_under (widening (length w.state.context) w.hidden) 0 r.equations → Widens t r
same-context w t s r h ec eh er ee = record {
  context = three ec eh er h.context;
  equations =
      ee
      ∙ (sym (widened-equations (length w.state.context) w.hidden 0 r.equations)
      ∙ ap₂ (λ context hid. widened_equations (length context) hid 0 r.equations) (sym ec) (sym eh));
}
  where
    three : {c c' d d' : List Term} {h h' : List ℕ} → c' ≡ c → h' ≡ h → d' ≡ d → IsSeen c h d → IsSeen c' h' d'
    three {c} {c'} {d} {d'} {h} {h'} x y z is =
        subst (λ e. IsSeen e h' d') (sym x) (subst (λ e. IsSeen c e d') (sym y) (subst (IsSeen c h) (sym z) is))

-- ---- solutions

pub variable-seen : (w : Standing) (s : State) (x : ℕ) → Widens w s → x < length s.context
    → IsSameVariable w.state.context w.hidden s.context (level_of (length w.state.context) (widened_number (length w.state.context) w.hidden x)) (level_of (length s.context) x)
variable-seen w s x h lt = record {
  is_seen = h.context;
  inside = omega arith;
  level = level;
}
  where
    n : ℕ
    n = length w.state.context

    V : List ℕ
    V = visible (length w.state.context) w.hidden

    level : get_or V (length s.context - (x + 1)) 0 ≡ n - (n - (get_or V (length V - (x + 1)) 0 + 1) + 1)
    level =
        let count : length s.context ≡ length V = h.context.count in
        let same : get_or V (length s.context - (x + 1)) 0 ≡ get_or V (length V - (x + 1)) 0 = ap (λ k. get_or V (k - (x + 1)) 0) count in
        let low : get_or V (length V - (x + 1)) 0 < n = visible-below n w.hidden (length V - (x + 1)) (omega arith) in
        omega arith

-- the equations after a solution
pub solved-equations : (w s : State) (hid : List ℕ) (p' p i : ℕ) (A u : Term) → IsSameVariable w.context hid s.context p' p
    → IsTrue (lacks s.context p A) → IsTrue (lacks s.context p u) → w.equations ≡ equations_under (widening (length w.context) hid) 0 s.equations
    → (solved_state w i p' (widened (length w.context) hid A) (widened (length w.context) hid u)).equations
    ≡ equations_under (widening (length (order_without w.context p')) (map (place_in (order_without w.context p')) hid)) 0 (solved_state s i p A u).equations
solved-equations w s hid p' p i A u v freeA freeu e =
    ap (λ es. (solved_state (record w { equations = es }) i p' A' u').equations) e
    ∙ (ap₂ (λ a b. left_behind n n' S' b (reflexivity i a b) (put S' n n') (equations_under (widening n hid) 0 s.equations))
    (moved-all w.context hid s.context p' p v A freeA) (moved-all w.context hid s.context p' p v u freeu)
    ∙ one-out (widening n hid) to m m' n n' S S' uu (reflexivity i AA uu) (put S m m') (put S' n n') lifts lifts' agree sides s.equations)
  where
    n : ℕ
    n = length w.context

    n' : ℕ
    n' = length (order_without w.context p')

    m : ℕ
    m = length s.context

    m' : ℕ
    m' = length (order_without s.context p)

    A' : Term
    A' = widened (length w.context) hid A

    u' : Term
    u' = widened (length w.context) hid u

    S : Environment
    S = solved (length s.context) (order_without s.context p) p u

    S' : Environment
    S' = solved (length w.context) (order_without w.context p') p' (widened (length w.context) hid u)

    uu : Term
    uu = put (reordered (order_without s.context p)) (length s.context) (length (order_without s.context p)) u

    AA : Term
    AA = put (reordered (order_without s.context p)) (length s.context) (length (order_without s.context p)) A

    to : ℕ → Term
    to = widening (length (order_without w.context p')) (map (place_in (order_without w.context p')) hid)

    lifts : Lifts (solved (length s.context) (order_without s.context p) p u) (length s.context) (length (order_without s.context p))
    lifts = solved-lifts s.context p u v.inside (lacks-it w.context hid s.context p' p v u freeu)

    lifts' : Lifts (solved (length w.context) (order_without w.context p') p' (widened (length w.context) hid u)) (length w.context) (length (order_without w.context p'))
    lifts' = solved-lifts w.context p' u' (whole-below w.context hid s.context p' p v) (lacks-there w.context hid s.context p' p v u freeu)

    agree : (x : ℕ) → inst (stands S' n n') (widening n hid x) ≡ inst to (stands S m m' x)
    agree = solutions-agree w.context hid s.context p' p v u freeu

    sides : (t : Term) → put S' n n' (inst (widening n hid) t) ≡ inst to (put S m m' t)
    sides t =
        put-is_inst S' n n' lifts' (inst (widening n hid) t)
        ∙ (inst-inst (stands S' n n') (widening n hid) t
        ∙ (inst-same t agree
        ∙ (sym (inst-inst to (stands S m m') t) ∙ ap (inst to) (sym (put-is_inst S m m' lifts t)))))

pub solved-seen : (w : Standing) (s : State) (i x : ℕ) (A u : Term) → Widens w s → x < length s.context → level_of_first s.equations ≡ i
    → IsTrue (lacks s.context (level_of (length s.context) x) A) → IsTrue (lacks s.context (level_of (length s.context) x) u)
    → Widens (solved_standing w (widened_number (length w.state.context) w.hidden x) (widened_behind (length w.state.context) w.hidden 0 A) (widened (length w.state.context) w.hidden u))
    (solved_state s i (level_of (length s.context) x) A u)
solved-seen w s i x A u h lt first freeA freeu = record {
  context = solved-context_seen w.state.context w.hidden s.context p' p v u freeu;
  equations =
      ap₂ (λ l a. (solved_state w.state l p' a u').equations) (level-seen w s h ∙ first)
      (type-read (length w.state.context) w.hidden A ∙ sym (widened-is (length w.state.context) w.hidden A))
      ∙ (solved-equations w.state s w.hidden p' p i A u v freeA freeu (under-seen w s h)
      ∙ (sym (widened-equations (length (order_without w.state.context p')) hid' 0 (solved_state s i p A u).equations)
      ∙ ap (λ n. widened_equations n hid' 0 (solved_state s i p A u).equations)
      (sym (length-new_context w.state.context (solved (length w.state.context) (order_without w.state.context p') p' u') 0 (order_without w.state.context p')))));
}
  where
    p : ℕ
    p = level_of (length s.context) x

    p' : ℕ
    p' = level_of (length w.state.context) (widened_number (length w.state.context) w.hidden x)

    u' : Term
    u' = widened (length w.state.context) w.hidden u

    hid' : List ℕ
    hid' = map (place_in (order_without w.state.context (level_of (length w.state.context) (widened_number (length w.state.context) w.hidden x)))) w.hidden

    v : IsSameVariable w.state.context w.hidden s.context (level_of (length w.state.context) (widened_number (length w.state.context) w.hidden x)) (level_of (length s.context) x)
    v = variable-seen w s x h lt

-- ---- injectivities

pub built-seen : (S : Signature) (q : ℕ → Term) (b : Built) → IsBuilt S b → IsBuilt S (instance_of q b)
built-seen S q b is = record {
  family = is.family;
  constructor = is.constructor;
  parameters = length-map b.parameters (inst q) ∙ is.parameters;
  arguments = length-map b.arguments (inst q) ∙ is.arguments;
}

pub injected-seen : (S : Signature) (w : Standing) (s : State) (g : ℕ) (f : Family) (ps : List Term) (b d : Built) (o : Option Comparison) (indices : List Term) → Widens w s
    → length b.arguments ≡ length b.constructor.arguments → length d.arguments ≡ length b.constructor.arguments
    → (let q = widening (length w.state.context) w.hidden in
    let c : Comparison = record { n = b.n; family = f; parameters = map (inst q) ps; left = instance_of q b; right = instance_of q d; indices = indices } in
    o ≡ Some c)
    → Widens (unless_compared w g o) (injected_state s g b.n b.number f b.constructor ps b.arguments d.arguments)
injected-seen S w s g f ps b d o indices h eb ed e =
    subst (λ x. Widens (unless_compared w g x) (injected_state s g b.n b.number f b.constructor ps b.arguments d.arguments)) (sym e)
    (same-context w (injected_standing w g c) s (injected_state s g b.n b.number f b.constructor ps b.arguments d.arguments) h refl refl refl
    (injected-instance q s w.state g b.n b.number f b.constructor ps b.arguments d.arguments (under-seen w s h) eb ed))
  where
    q : ℕ → Term
    q = widening (length w.state.context) w.hidden

    c : Comparison
    c = record {
      n = b.n;
      family = f;
      parameters = map (inst (widening (length w.state.context) w.hidden)) ps;
      left = instance_of (widening (length w.state.context) w.hidden) b;
      right = instance_of (widening (length w.state.context) w.hidden) d;
      indices = indices;
    }

-- ---- steps

pub step-seen : (S : Signature) (s t : State) (step : Step) (w : Standing) → Steps S s step t → Widens w s → Widens (behind_step S w step) t
step-seen S s t _ w (solve_right _ e x A u first solvable) h =
    solved-seen w s e.place.level x A u h solvable.variable (ap level_of_first first.first) solvable.type solvable.term
step-seen S s t _ w (solve_left _ e x A u first solvable) h =
    solved-seen w s e.place.level x A u h solvable.variable (ap level_of_first first.first) solvable.type solvable.term
step-seen S s t _ w (inject_group _ k f ps type b d left right same number group) h =
    let n = length w.state.context in
    let q = widening n w.hidden in
    let step : Step = record { group = k + 1; rule = Inject b.n b.number; ty = type; left = term_of b; right = term_of d } in
    let e : k + 1 - 1 ≡ k = omega arith in
    let form : inst (ups_by k q) type ≡ applied (Fam b.n) (lifted k (map (inst q) ps) ++ variables k) =
    ap (inst (ups_by k q)) group.form
    ∙ (inst-applied (ups_by k q) (Fam b.n) (lifted k ps ++ variables k)
    ∙ ap (applied (Fam b.n))
    (map-append (inst (ups_by k q)) (lifted k ps) (variables k) ∙ ap₂ ◌++◌ (lifted-instance q k ps) (near-variables q k k (omega arith)))) in
    injected-seen S w s (k + 1) f ps b d (compared S w.state (step_in w step)) (take k (right_sides w.state.equations)) h left.arguments
    (right.arguments ∙ ap (λ c. length c.arguments) (sym (same-constructor S b d left right same number)))
    (compared-built S w.state (step_in w step) (instance_of q b) (instance_of q d) (built-seen S q b left) (built-seen S q d right)
    (widened-is n w.hidden (term_of b) ∙ term-instance q b) (widened-is n w.hidden (term_of d) ∙ term-instance q d)
    ∙ (ap₂ (λ count a. Some (compared_by w.state count a (instance_of q b) (instance_of q d))) e
    (ap (λ count. widened_behind n w.hidden count type) e ∙ behind-is n w.hidden k type)
    ∙ ap Some (compared-group S w.state k f (map (inst q) ps) (inst (ups_by k q) type) (instance_of q b) (instance_of q d) group.members group.family (built-seen S q b left) form)))
step-seen S s t _ w (inject _ e A b d left right same number level indices first) h =
    let n = length w.state.context in
    let q = widening n w.hidden in
    let step : Step = record { group = 1; rule = Inject b.n b.number; ty = A; left = term_of b; right = term_of d } in
    injected-seen S w s 1 b.family b.parameters b d (compared S w.state (step_in w step)) _ h left.arguments
    (right.arguments ∙ ap (λ c. length c.arguments) (sym (same-constructor S b d left right same number)))
    (compared-built S w.state (step_in w step) (instance_of q b) (instance_of q d) (built-seen S q b left) (built-seen S q d right)
    (widened-is n w.hidden (term_of b) ∙ term-instance q b) (widened-is n w.hidden (term_of d) ∙ term-instance q d))
step-seen S s t _ w (delete _ e A u v k first converts) h =
    let n = length w.state.context in
    let q = widening n w.hidden in
    same-context w (deleted_standing w (widened_behind n w.hidden 0 A) (widened n w.hidden u)) s (deleted_state s e.place.level A u) h refl refl refl
    (ap₃' (λ i a b. (deleted_state w.state i a b).equations) (level-seen w s h ∙ ap level_of_first first.first) (type-read n w.hidden A) (widened-is n w.hidden u)
    ∙ deleted-instance q s w.state e.place.level A u (under-seen w s h))
  where
    ap₃' : {A : Type 0} (f : ℕ → Term → Term → A) {a a' : ℕ} {b b' c c' : Term} → a ≡ a' → b ≡ b' → c ≡ c' → f a b c ≡ f a' b' c'
    ap₃' f x y z = cc

pub run-seen : (S : Signature) (s t : State) (steps : List Step) (w : Standing) → Chain S s steps t → Widens w s → Widens (behind_run S steps w) t
run-seen S s t _ w (none _) h = h
run-seen S s t _ w (more _ r _ step steps scoped goes rest) h =
    run-seen S r t steps (behind_step S w step) rest (step-seen S s r step w goes h)

pub replay_is_seen : ReplayIsSeen
replay_is_seen S s t steps standing chain widens = run-seen S s t steps standing chain widens
