-- The state of a branch over a whole context is that of the constructor's problem over the context that is seen.
use Rattle.std.proofs.Common.{◌≡◌, ℕ, zero, suc, ◌+◌, ◌-◌, ◌<◌, ◌≤◌, ◌==◌, ◌||◌, ◌⊎◌, inl, inr, false, cond, Some, List, [], ◌∷◌, ◌++◌, length, map, take, get_or, slice_get, refl, sym, ap, ap₂, ◌∙◌, subst as transport, arith}
use mathlib.Core.Path.{fun_ext}
use Rattle.std.proofs.lemmas.Bool.Decides.{nat_tests}
use Rattle.std.proofs.lemmas.List.{get_or-append_right, length-append, length-map, map-append, take-append-le}
use Rattle.theory.specs.Terms.{Term, Var, Sort}
use Rattle.theory.specs.Families.{Constructor}
use Rattle.theory.specs.Substitutions.{inst}
use Rattle.theory.specs.Telescopes.{Telescope, weaken_by}
use Rattle.theory.proofs.Lists.{some_is}
use Rattle.tele_eq.specs.Items.{Item, term_at, type_at}
use Rattle.tele_eq.specs.Levels.{is_among}
use Rattle.tele_eq.specs.TelescopicEquality.{equations}
use Rattle.tele_eq.proofs.Carrying.{ups_by}
use Rattle.unification.specs.Injecting.{lifted}
use Rattle.unification.specs.Occurrences.{without}
use Rattle.unification.specs.Records.{argument_items, constructor_terms, family_items}
use Rattle.unification.specs.States.{Equation, equations_at}
use Rattle.unification.proofs.Cases.{below-or_from, second-of_two}
use Rattle.unification.proofs.ScopedRecords.{length-argument_items}
use Rattle.problems.specs.Conditions.{AreBelow}
use Rattle.case_trees.specs.Problems.{Member, member_of, problem_of}
use Rattle.tree_translation.specs.Conditions.{IsSeen}
use Rattle.tree_translation.specs.Hidden.{visible, widened_number}
use Rattle.tree_translation.specs.Laws.{Widens, widened_equations}
use Rattle.tree_translation.specs.Splits.{Node, branch_standing}
use Rattle.tree_translation.specs.Standings.{levels_from, placed, problem_state}
use Rattle.tree_translation.proofs.LevelLists.{get-levels, get-there, length-levels, levels-more, there-below, there-get}
use Rattle.tree_translation.proofs.MovedInstances.{equations_under}
use Rattle.tree_translation.proofs.RecordInstances.{argument-instance, constructor-instance, family-instance, lifted-instance}
use Rattle.tree_translation.proofs.SeenEquations.{telescope-instance}
use Rattle.tree_translation.proofs.SeenOrders.{without-append}
use Rattle.tree_translation.proofs.SeenTerms.{behind-is, get-first, get-later, visible-below, widened-equations, widened-is, widened-variable, widening}
use Rattle.tree_translation.proofs.TelescopeInstances.{IsInstance}
use Rattle.entry_laws.specs.replay_laws.Laws.{BranchWidens}
use Rattle.entry_laws.proofs.replay_laws.SeenMembers.{member-instance, member_under}

-- ---- levels

not-among : (levels : List ℕ) (n j : ℕ) → AreBelow n levels → n ≤ j → is_among j levels ≡ false
not-among [] n j below le = refl
not-among (i ∷ levels) n j below le = ap₂ ◌||◌ other (not-among levels n j below.1 le)
  where
    other : (i == j) ≡ false
    other = let lt : i < n = below.0 in grind (arith, nat_tests)

without-none : (out : List ℕ) (n at count : ℕ) → AreBelow n out → n ≤ at → without out (levels_from at count) ≡ levels_from at count
without-none out n at zero below le = refl
without-none out n at (suc count) below le =
    ap (λ b. cond b (without out (levels_from (at + 1) count)) (at ∷ without out (levels_from (at + 1) count))) (not-among out n at below le)
    ∙ ap (λ levels. at ∷ levels) (without-none out n (at + 1) count below (omega arith))

visible-more : (n k : ℕ) (hidden : List ℕ) → AreBelow n hidden → visible (n + k) hidden ≡ visible n hidden ++ levels_from n k
visible-more n k hidden below =
    let e : 0 + n ≡ n = omega arith in
    ap (without hidden) (sym (levels-more 0 n k) ∙ ap (λ at. levels_from 0 n ++ levels_from at k) e)
    ∙ (without-append hidden (levels_from 0 n) (levels_from n k)
    ∙ ap (λ levels. visible n hidden ++ levels) (without-none hidden n n k below (omega arith)))

same-widening : (n k : ℕ) (hidden : List ℕ) → AreBelow n hidden → (v : ℕ) → widening (n + k) hidden v ≡ ups_by k (widening n hidden) v
same-widening n k hidden below v =
    sym (widened-is (n + k) hidden (Var v))
    ∙ (ap (λ levels. placed levels (n + k) (Var v)) (visible-more n k hidden below) ∙ behind-is n hidden k (Var v))

-- ---- lists

get-left : (xs ys : List Term) (j : ℕ) → j < length xs → term_at (xs ++ ys) j ≡ term_at xs j
get-left [] ys j lt = absurd (omega arith)
get-left (x ∷ xs) ys zero lt = refl
get-left (x ∷ xs) ys (suc j) lt = get-left xs ys j (omega arith)

get-right : (xs ys : List Term) (n i : ℕ) → length xs ≡ n → term_at (xs ++ ys) (n + i) ≡ term_at ys i
get-right xs ys n i e =
    let same : n + i - n ≡ i = omega arith in
    get_or-append_right xs ys n (n + i) (Sort 0) e (omega arith) ∙ ap (λ j. get_or ys j (Sort 0)) same

take-past : (xs ys : List ℕ) (j : ℕ) → length xs ≤ j → take j (xs ++ ys) ≡ xs ++ take (j - length xs) ys
take-past [] ys j le = let e : j ≡ j - 0 = omega arith in ap (λ k. take k ys) e
take-past (x ∷ xs) ys zero le = absurd (omega arith)
take-past (x ∷ xs) ys (suc j) le =
    let e : j - length xs ≡ suc j - suc (length xs) = omega arith in
    ap (λ levels. x ∷ levels) (take-past xs ys j (omega arith) ∙ ap (λ k. xs ++ take k ys) e)

take-levels : (at count i : ℕ) → i ≤ count → take i (levels_from at count) ≡ levels_from at i
take-levels at count zero le = refl
take-levels at zero (suc i) le = absurd (omega arith)
take-levels at (suc count) (suc i) le = ap (λ levels. at ∷ levels) (take-levels (at + 1) count i (omega arith))

-- ---- the context

abbrev types_of : List Item → Telescope
types_of X = map (λ (item : Item). item.type) X

-- a type of the whole context is one that is seen, after the visible variables before it
each-seen : (context seen : Telescope) (hidden : List ℕ) (X Y : List Item) → IsSeen context hidden seen
    → IsInstance (widening (length context) hidden) X Y → (j p : ℕ)
    → slice_get (visible (length context) hidden ++ levels_from (length context) (length X)) j ≡ Some p
    → term_at (context ++ types_of Y) p
    ≡ placed (take j (visible (length context) hidden ++ levels_from (length context) (length X))) p (term_at (seen ++ types_of X) j)
each-seen context seen hidden X Y is over j p e = by (below-or_from j (length (visible (length context) hidden)))
  where
    n : ℕ
    n = length context

    V : List ℕ
    V = visible (length context) hidden

    L : List ℕ
    L = levels_from (length context) (length X)

    at : get_or (visible (length context) hidden ++ levels_from (length context) (length X)) j 0 ≡ p
    at = get-there (V ++ L) j p 0 e

    inside : j < length (visible (length context) hidden) + length X
    inside =
        let lt : j < length (V ++ L) = there-below (V ++ L) j p e in
        let long = length-append V L in
        let last = length-levels n (length X) in
        omega arith

    count : length seen ≡ length (visible (length context) hidden)
    count = is.count

    by : (j < length (visible (length context) hidden)) ⊎ (length (visible (length context) hidden) ≤ j)
        → term_at (context ++ types_of Y) p
        ≡ placed (take j (visible (length context) hidden ++ levels_from (length context) (length X))) p (term_at (seen ++ types_of X) j)
    by (inl lt) =
        let own : get_or V j 0 ≡ p = sym (get-first V L j lt) ∙ at in
        let counted : length seen ≡ length (visible (length context) hidden) = count in
        let low : get_or V j 0 < n = visible-below n hidden j lt in
        get-left context (types_of Y) p (omega arith)
        ∙ (is.each j p (there-get V j 0 lt ∙ ap Some own)
        ∙ ap₂ (λ levels t. placed levels p t) (sym (take-append-le j V L (omega arith))) (sym (get-left seen (types_of X) j (omega arith))))
    by (inr le) =
        let within : j < length (visible (length context) hidden) + length X = inside in
        let i : ℕ = j - length (visible (length context) hidden) in
        let lt : j - length (visible (length context) hidden) < length X = omega arith in
        let level : p ≡ n + i = sym at ∙ (get-later V L j le ∙ get-levels n (length X) i lt) in
        let place : length V + i ≡ j = omega arith in
        ap (term_at (context ++ types_of Y)) level
        ∙ (get-right context (types_of Y) n i refl
        ∙ (sym (over.types i)
        ∙ (sym (behind-is n hidden i (type_at X i))
        ∙ (ap (λ levels. placed levels (n + i) (type_at X i))
        (ap (λ levels. V ++ levels) (sym (take-levels n (length X) i (omega arith))) ∙ sym (take-past V L j le))
        ∙ ap₂ (λ p t. placed (take j (V ++ L)) p t) (sym level)
        (sym (get-right seen (types_of X) (length V) i count) ∙ ap (term_at (seen ++ types_of X)) place)))))

context-seen : (context seen : Telescope) (hidden : List ℕ) (X Y : List Item) → IsSeen context hidden seen
    → IsInstance (widening (length context) hidden) X Y → AreBelow (length context) hidden → IsSeen (context ++ types_of Y) hidden (seen ++ types_of X)
context-seen context seen hidden X Y is over below = record {
  count =
      (let a = length-append seen (types_of X) in
      let b = length-map X (λ (item : Item). item.type) in
      let c = length-append (visible (length context) hidden) (levels_from (length context) (length X)) in
      let d = length-levels (length context) (length X) in
      let e : length seen ≡ length (visible (length context) hidden) = is.count in
      let f : length (seen ++ types_of X) ≡ length (visible (length context) hidden ++ levels_from (length context) (length X)) = omega arith in
      f ∙ ap length (sym same));
  each = λ j p e.
      transport (λ levels. term_at (context ++ types_of Y) p ≡ placed (take j levels) p (term_at (seen ++ types_of X) j)) (sym same)
      (each-seen context seen hidden X Y is over j p (ap (λ levels. slice_get levels j) (sym same) ∙ e));
}
  where
    same : visible (length (context ++ types_of Y)) hidden ≡ visible (length context) hidden ++ levels_from (length context) (length X)
    same =
        let a = length-append context (types_of Y) in
        let b = length-map Y (λ (item : Item). item.type) in
        let c : length Y ≡ length X = over.count in
        let long : length (context ++ types_of Y) ≡ length context + length X = omega arith in
        ap (λ n. visible n hidden) long ∙ visible-more (length context) (length X) hidden below

-- ---- the equations

variable-moved : (n : ℕ) (hidden : List ℕ) (k x y : ℕ) → y < length (visible n hidden) → x ≡ widened_number n hidden y
    → inst (ups_by k (widening n hidden)) (Var (y + k)) ≡ Var (x + k)
variable-moved n hidden k x y lt e =
    let same : y + k - k ≡ y = omega arith in
    second-of_two (y + k) k _ _ (omega arith)
    ∙ ap (weaken_by k) (ap (widening n hidden) same ∙ (widened-variable n hidden y lt ∙ ap Var (sym e)))

right-moved : (n : ℕ) (hidden : List ℕ) (k x y : ℕ) (terms : List Term) → y < length (visible n hidden) → x ≡ widened_number n hidden y
    → map (inst (ups_by k (widening n hidden))) (lifted k terms ++ Var (y + k) ∷ []) ≡ lifted k (map (inst (widening n hidden)) terms) ++ Var (x + k) ∷ []
right-moved n hidden k x y terms lt e =
    map-append (inst (ups_by k (widening n hidden))) (lifted k terms) (Var (y + k) ∷ [])
    ∙ ap₂ (λ us v. us ++ v ∷ []) (lifted-instance (widening n hidden) k terms) (variable-moved n hidden k x y lt e)

-- the equations of a problem, with what is put for its variables
problem-moved : (q : ℕ → Term) (X Y : List Item) (us us' vs vs' : List Term) → IsInstance q X Y → map (inst q) us ≡ us' → map (inst q) vs ≡ vs'
    → equations_under q 0 (equations_at X (equations X us vs) us vs) ≡ equations_at Y (equations Y us' vs') us' vs'
problem-moved q X Y us us' vs vs' is eu ev =
    telescope-instance q X Y us vs is ∙ ap₂ (λ us vs. equations_at Y (equations Y us vs) us vs) eu ev

-- the branch of the instance of a member
branch-seen : (node : Node) (x y : ℕ) (seen : Telescope) (m : Member) (number : ℕ) (c : Constructor) → IsSeen node.context node.hidden seen
    → AreBelow (length node.context) node.hidden → y < length seen → x ≡ widened_number (length node.context) node.hidden y
    → Widens (branch_standing node (member_under (widening (length node.context) node.hidden) m) x number c) (problem_state (problem_of seen y m number c))
branch-seen node x y seen m number c is below lt variable = record {
  context = context-seen node.context seen node.hidden X Y is over below;
  equations = sym whole;
}
  where
    n : ℕ
    n = length node.context

    k : ℕ
    k = length c.arguments

    q : ℕ → Term
    q = widening (length node.context) node.hidden

    X : List Item
    X = argument_items m.n m.parameters c

    Y : List Item
    Y = argument_items m.n (map (inst (widening (length node.context) node.hidden)) m.parameters) c

    over : IsInstance (widening (length node.context) node.hidden) (argument_items m.n m.parameters c)
        (argument_items m.n (map (inst (widening (length node.context) node.hidden)) m.parameters) c)
    over = argument-instance q m.n m.parameters c

    es : List Equation
    es = (problem_state (problem_of seen y m number c)).equations

    long : length (node.context ++ types_of (argument_items m.n (map (inst (widening (length node.context) node.hidden)) m.parameters) c))
        ≡ length node.context + length c.arguments
    long = length-append node.context (types_of Y) ∙ ap (λ i. n + i) (length-map Y (λ (item : Item). item.type) ∙ length-argument_items m.n (map (inst q) m.parameters) c)

    family : IsInstance (ups_by (length c.arguments) (widening (length node.context) node.hidden))
        (family_items m.n m.family (lifted (length c.arguments) m.parameters))
        (family_items m.n m.family (lifted (length c.arguments) (map (inst (widening (length node.context) node.hidden)) m.parameters)))
    family =
        transport (λ ps. IsInstance (ups_by k q) (family_items m.n m.family (lifted k m.parameters)) (family_items m.n m.family ps))
        (lifted-instance q k m.parameters) (family-instance (ups_by k q) m.n m.family (lifted k m.parameters))

    whole : widened_equations
        (length (node.context ++ types_of (argument_items m.n (map (inst (widening (length node.context) node.hidden)) m.parameters) c))) node.hidden 0
        (problem_state (problem_of seen y m number c)).equations
        ≡ (branch_standing node (member_under (widening (length node.context) node.hidden) m) x number c).state.equations
    whole =
        let at : length seen ≡ length (visible n node.hidden) = is.count in
        ap (λ i. widened_equations i node.hidden 0 es) long
        ∙ (widened-equations (n + k) node.hidden 0 es
        ∙ (ap (λ s. equations_under s 0 es) (fun_ext (same-widening n k node.hidden below))
        ∙ problem-moved (ups_by k q) (family_items m.n m.family (lifted k m.parameters))
        (family_items m.n m.family (lifted k (map (inst q) m.parameters))) (constructor_terms m.n number m.parameters c)
        (constructor_terms m.n number (map (inst q) m.parameters) c) (lifted k m.indices ++ Var (y + k) ∷ [])
        (lifted k (map (inst q) m.indices) ++ Var (x + k) ∷ []) family (constructor-instance q m.n number m.parameters c)
        (right-moved n node.hidden k x y m.indices (omega arith) variable)))

pub branch-widens : BranchWidens
branch-widens S node x y seen type reduced whole m number c is below lt variable read found here =
    transport (λ m'. Widens (branch_standing node m' x number c) (problem_state (problem_of seen y m number c)))
    (some_is (sym (member-instance S (widening (length node.context) node.hidden) reduced m found)
    ∙ (ap (member_of S) (sym (widened-is (length node.context) node.hidden reduced) ∙ sym read) ∙ here)))
    (branch-seen node x y seen m number c is below lt variable)
