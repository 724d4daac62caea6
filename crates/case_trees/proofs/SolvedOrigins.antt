-- Each variable of the context after a run stands for itself at its origin.
use Rattle.std.proofs.Common.{◌≡◌, ◌⊎◌, inl, inr, ℕ, zero, suc, ◌+◌, ◌-◌, ◌<◌, nat_lt, true, false, cond, Option, Some, None, option_map, List, ◌∷◌, length, map, slice_get, get_or, refl, sym, ap, ap₂, ◌∙◌, subst as transport, arith}
use Rattle.std.proofs.lemmas.Bool.Decides.{nat_tests}
use Rattle.std.proofs.lemmas.List.{length-map, length-append}
use Rattle.std.proofs.lemmas.Option.{slice_get-map, slice_get-get_or}
use Rattle.theory.specs.Terms.{Term, Var}
use Rattle.theory.specs.Telescopes.{Telescope, variables}
use Rattle.theory.specs.Signatures.{Signature}
use Rattle.theory.proofs.Lists.{some_is}
use Rattle.core_terms.specs.CaseTrees.{Step}
use Rattle.core_terms.specs.declared.case_tree.Origin.{Origin}
use Rattle.core_terms.specs.declared.case_tree.Origin.TheVariants.{Old, Arg}
use Rattle.tele_eq.specs.Environments.{put}
use Rattle.tele_eq.specs.Items.{each_position}
use Rattle.tele_eq.proofs.Positions.{length-each_position}
use Rattle.unification.specs.Occurrences.{order_without}
use Rattle.unification.specs.States.{State}
use Rattle.unification.specs.Solving.{reordered, solved, solved_state}
use Rattle.unification.specs.Rules as rule
use Rattle.unification.specs.Rules.{Steps, ChainWith, level_of}
use Rattle.unification.proofs.SolvedContexts.{length-new_context}
use Rattle.case_trees.specs.Origins.{first_origins, origins_without, origins_behind}
use Rattle.case_trees.specs.Laws.{origin_level}
use Rattle.case_trees.proofs.SolvedOrders.{not-equal, order-own, split-place}

-- each variable of a context of m variables has an origin, where the solution has it
pub record AreOrigins (n m : ℕ) (solution : List Term) (origins : List Origin) : Type 0 where
  pub count : length origins ≡ m
  pub each : (k : ℕ) (o : Origin) → slice_get origins k ≡ Some o → slice_get solution (origin_level n o) ≡ Some (Var (m - (k + 1)))

-- a variable that is not solved is at its place in the new order
put-other : (context : Telescope) (p k j : ℕ) (u : Term) → p < length context → slice_get (order_without context p) k ≡ Some j
    → put (solved (length context) (order_without context p) p u) (length context) (length (order_without context p)) (Var (length context - (j + 1)))
    ≡ Var (length (order_without context p) - (k + 1))
put-other context p k j u less e =
    let (place, rest) = order-own context p k j less e in
    let low : j < length context = rest.0 in
    let n = length context in
    let m = length (order_without context p) in
    let order = order_without context p in
    let first : nat_lt (n - (j + 1)) 0 ≡ false = grind (arith, nat_tests) in
    let second : nat_lt (n - (j + 1)) (n + 0) ≡ true = grind (arith, nat_tests) in
    let level : n + 0 - (n - (j + 1) + 1) ≡ j = omega arith in
    let depth : m + 0 ≡ m = omega arith in
    ap (λ test. cond test (Var (n - (j + 1))) (cond (nat_lt (n - (j + 1)) (n + 0)) (solved n order p u (m + 0) (n + 0 - (n - (j + 1) + 1))) (Var (n - (j + 1) - n + m)))) first
    ∙ (ap (λ test. cond test (solved n order p u (m + 0) (n + 0 - (n - (j + 1) + 1))) (Var (n - (j + 1) - n + m))) second
    ∙ (ap₂ (λ d l. solved n order p u d l) depth level
    ∙ (ap (λ test. cond test (put (reordered order) n m u) (reordered order m j)) (not-equal j p rest.1)
    ∙ ap (λ i. Var (m - (i + 1))) place)))

mapped-at : {A B : Type 0} (f : A → B) (xs : List A) (k : ℕ) (b : B) → slice_get (map f xs) k ≡ Some b → (a : A) × (slice_get xs k ≡ Some a) × (f a ≡ b)
mapped-at {A = A} f xs k b e = by (slice_get xs k) refl (sym (slice_get-map f xs k) ∙ e)
  where
    by : (o : Option A) → slice_get xs k ≡ o → option_map f o ≡ Some b → (a : A) × (slice_get xs k ≡ Some a) × (f a ≡ b)
    by (Some a) is same = (a, is, some_is same)
    by None is same = absurd (grind arith)

-- the origins after a solution
solved-origins : (n : ℕ) (context : Telescope) (solution : List Term) (origins : List Origin) (x : ℕ) (u : Term) → x < length context
    → AreOrigins n (length context) solution origins
    → AreOrigins n (length (order_without context (level_of (length context) x)))
    (map (put (solved (length context) (order_without context (level_of (length context) x)) (level_of (length context) x) u) (length context)
    (length (order_without context (level_of (length context) x)))) solution)
    (origins_without context x origins)
solved-origins n context solution origins x u less h =
    record {
      count = length-map order (λ j. get_or origins j (Old 0));
      each = λ k o e. by k o (mapped-at (λ j. get_or origins j (Old 0)) order k o e);
    }
  where
    p : ℕ
    p = level_of (length context) x

    order : List ℕ
    order = order_without context (level_of (length context) x)

    f : Term → Term
    f t = put (solved (length context) (order_without context (level_of (length context) x)) (level_of (length context) x) u) (length context)
        (length (order_without context (level_of (length context) x))) t

    by : (k : ℕ) (o : Origin) → (j : ℕ) × (slice_get order k ≡ Some j) × (get_or origins j (Old 0) ≡ o)
        → slice_get (map f solution) (origin_level n o) ≡ Some (Var (length order - (k + 1)))
    by k o (j, there, same) =
        let inside : level_of (length context) x < length context = omega arith in
        let low : j < length context = (order-own context (level_of (length context) x) k j inside there).1.0 in
        let count : length origins ≡ length context = h.count in
        let old : slice_get origins j ≡ Some o = slice_get-get_or origins j (Old 0) (omega arith) ∙ ap Some same in
        slice_get-map f solution (origin_level n o)
        ∙ (ap (option_map f) (h.each j o old) ∙ ap Some (put-other context (level_of (length context) x) k j u inside there))

moved-origins : (n : ℕ) (s : State) (i x : ℕ) (A v : Term) (origins : List Origin) → x < length s.context → AreOrigins n (length s.context) s.solution origins
    → AreOrigins n (length (solved_state s i (level_of (length s.context) x) A v).context) (solved_state s i (level_of (length s.context) x) A v).solution
    (origins_without s.context x origins)
moved-origins n s i x A v origins less h =
    transport (λ m. AreOrigins n m (solved_state s i (level_of (length s.context) x) A v).solution (origins_without s.context x origins))
    (sym (length-new_context s.context (solved (length s.context) (order_without s.context (level_of (length s.context) x)) (level_of (length s.context) x) v) 0
    (order_without s.context (level_of (length s.context) x))))
    (solved-origins n s.context s.solution origins x v less h)

-- the origins after the steps of a chain
pub chain-origins : (S : Signature) (P : State → Step → Type 0) (n : ℕ) (s t : State) (steps : List Step) (origins : List Origin) → ChainWith S P s steps t
    → AreOrigins n (length s.context) s.solution origins → AreOrigins n (length t.context) t.solution (origins_behind steps s.context origins)
chain-origins S P n _ _ _ origins (rule.none s) h = h
chain-origins S P n _ _ _ origins (rule.more s t u step steps p one rest) h =
    by s t u step steps origins one h (λ os k. chain-origins S P n t u steps os rest k)
  where
    by : (s t u : State) (step : Step) (steps : List Step) (origins : List Origin) → Steps S s step t → AreOrigins n (length s.context) s.solution origins
        → ((os : List Origin) → AreOrigins n (length t.context) t.solution os → AreOrigins n (length u.context) u.solution (origins_behind steps t.context os))
        → AreOrigins n (length u.context) u.solution (origins_behind (step ∷ steps) s.context origins)
    by _ _ u _ steps origins (rule.solve_right s e x A v first can) h more =
        more (origins_without s.context x origins) (moved-origins n s e.place.level x A v origins can.variable h)
    by _ _ u _ steps origins (rule.solve_left s e x A v first can) h more =
        more (origins_without s.context x origins) (moved-origins n s e.place.level x A v origins can.variable h)
    by _ _ u _ steps origins (rule.inject_group s k f ps type b d _ _ _ _ _) h more = more origins h
    by _ _ u _ steps origins (rule.inject s e A b d _ _ _ _ _ _ _) h more = more origins h
    by _ _ u _ steps origins (rule.delete s e A v w _ _ _) h more = more origins h

-- ---- the start

each-at : {A : Type 0} (f : ℕ → A) (at count k : ℕ) (a : A) → slice_get (each_position f at count) k ≡ Some a → (k < count) × (a ≡ f (at + k))
each-at f at zero k a e = absurd (grind arith)
each-at f at (suc count) zero a e =
    let here : at ≡ at + 0 = omega arith in
    (omega arith, sym (some_is e) ∙ ap f here)
each-at f at (suc count) (suc k) a e =
    let (low, same) = each-at f (at + 1) count k a e in
    let next : at + 1 + k ≡ at + suc k = omega arith in
    (omega arith, same ∙ ap f next)

pub variable-at : (m k : ℕ) → k < m → slice_get (variables m) k ≡ Some (Var (m - (k + 1)))
variable-at zero k low = absurd (omega arith)
variable-at (suc m) zero low = let same : m ≡ suc m - (0 + 1) = omega arith in ap (λ i. Some (Var i)) same
variable-at (suc m) (suc k) low =
    let same : m - (k + 1) ≡ suc m - (suc k + 1) = omega arith in
    variable-at m k (omega arith) ∙ ap (λ i. Some (Var i)) same

pub origins-start : (n count : ℕ) → AreOrigins n (n + count) (variables (n + count)) (first_origins n count)
origins-start n count =
    record {
      count = length-append (each_position (λ j. Old (n - (j + 1))) 0 n) (each_position (λ j. Arg j) 0 count)
          ∙ ap₂ (λ a b. a + b) (length-each_position (λ j. Old (n - (j + 1))) 0 n) (length-each_position (λ j. Arg j) 0 count);
      each = λ k o e. by k o (split-place (each_position (λ j. Old (n - (j + 1))) 0 n) (each_position (λ j. Arg j) 0 count) k o e);
    }
  where
    by : (k : ℕ) (o : Origin) → (slice_get (each_position (λ j. Old (n - (j + 1))) 0 n) k ≡ Some o)
        ⊎ ((i : ℕ) × (k ≡ length (each_position (λ j. Old (n - (j + 1))) 0 n) + i) × (slice_get (each_position (λ j. Arg j) 0 count) i ≡ Some o))
        → slice_get (variables (n + count)) (origin_level n o) ≡ Some (Var (n + count - (k + 1)))
    by k o (inl there) =
        let (low, same) = each-at (λ j. Old (n - (j + 1))) 0 n k o there in
        let level : n - (n - (0 + k + 1) + 1) ≡ k = omega arith in
        ap (λ q. slice_get (variables (n + count)) (origin_level n q)) same
        ∙ (ap (slice_get (variables (n + count))) level ∙ variable-at (n + count) k (omega arith))
    by k o (inr (i, place, there)) =
        let (low, same) = each-at (λ j. Arg j) 0 count i o there in
        let first : length (each_position (λ j. Old (n - (j + 1))) 0 n) ≡ n = length-each_position (λ j. Old (n - (j + 1))) 0 n in
        let level : n + (0 + i) ≡ k = omega arith in
        ap (λ q. slice_get (variables (n + count)) (origin_level n q)) same
        ∙ (ap (slice_get (variables (n + count))) level ∙ variable-at (n + count) k (omega arith))
