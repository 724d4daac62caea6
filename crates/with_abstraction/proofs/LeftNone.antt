-- No occurrence of the scrutinee is left: it is the new variable in the new goal, and in each type that is not needed.
use Rattle.std.proofs.Common.{◌≡◌, ℕ, suc, ◌+◌, ◌-◌, ◌≤◌, ◌<◌, ◌==◌, nat_lt, Bool, true, false, ◌||◌, cond, List, [], ◌∷◌, ◌++◌, length, map, take, drop, refl, sym, ap, ap₂, ◌∙◌, subst as transport, eq-eqb, add-one, arith}
use native.Mathlib.Decide.{ℕ_discrete}
use Rattle.std.proofs.lemmas.Bool.Decides.{nat_tests, Decides-eqb}
use Rattle.std.proofs.lemmas.List.{length-map, length-take-le, take-append-drop, take-map}
use Rattle.std.proofs.lemmas.Bool.{or_left}
use Rattle.theory.specs.Terms.{Term, Term-discrete, Var, Sort, Pi, Lam, App, Let, Const, Fam, Con, Elim, AxiomK, lift, lift_var, free_of}
use Rattle.theory.specs.Substitutions.{ren, inst, fill}
use Rattle.theory.specs.Eliminators.{no_variable}
use Rattle.theory.specs.Signatures.{Signature}
use Rattle.theory.specs.SignatureScopes.{IsScoped}
use Rattle.theory.proofs.Instances.{inst-same, inst-ren, ren-inst}
use Rattle.theory.proofs.Shifts.{lift-is_ren}
use Rattle.core_terms.specs.Instances.{under_binders, instance_of}
use Rattle.core_terms.proofs.Instances.{instance-is_inst}
use Rattle.kernel_reduce.specs.Comparison.{same}
use Rattle.tele_eq.specs.Levels.{place_in, is_among}
use Rattle.tele_eq.specs.Dependences.{has_variable}
use Rattle.tele_eq.specs.Environments.{put_under, put}
use Rattle.tele_eq.specs.Items.{term_at}
use Rattle.tele_eq.proofs.Growing.{append-none, snoc-append}
use Rattle.unification.specs.Solving.{reordered}
use Rattle.unification.proofs.Cases.{first-of_two, second-of_two}
use Rattle.unification.proofs.Levels.{among-own, among-later, place-there}
use Rattle.with_abstraction.specs.Abstractions.{opened_types, abstracted}
use Rattle.with_abstraction.specs.Laws.{AbstractionLeavesNone, LeavesNone, arguments, at_terms}
use Rattle.with_abstraction.specs.Needed.{widened, needed}
use Rattle.with_abstraction.specs.NormalForms.{NormalForms, normal_forms_of}
use Rattle.with_abstraction.specs.Occurrences.{is_occurrence, occurs, without_under, without}
use Rattle.with_abstraction.specs.Orders.{behind, in_front, new_order, arranged}
use Rattle.with_abstraction.proofs.Following.{IsWithin, EachFollows, term-left, all-follow, all-among}
use Rattle.with_abstraction.proofs.FormScopes.{AreFormsFitting, forms-fitting, types-count, types-scoped}
use Rattle.with_abstraction.proofs.GivenBack.{AreBelow, front-below, arguments-by_level, each-stands, length-order, has-weaker}
use Rattle.with_abstraction.proofs.OpenedTypes.{opened-type, opened-count, is-opened}
use Rattle.with_abstraction.proofs.PutBack.{value_of, Stands, EachStands, first, second, body, put-back, without-back, same-is, under-higher}
use Rattle.with_abstraction.proofs.ScopedAbstractions.{all-scoped, each-scoped, without-scoped}
use Rattle.with_abstraction.proofs.Variables.{or-cases}
use Rattle.with_abstraction.proofs.Widths.{occurrence-out}

-- ---- terms under binders

is-same : (a b : Term) → a ≡ b → same a b ≡ true
is-same a b e = go (Term-discrete ℕ_discrete a b)
  where
    go : (d : Dec (a ≡ b)) → elim d [ yes e ↦ true | no e ↦ false ] ≡ true
    go (yes s) = refl
    go (no s) = absurd (s e)

-- a term at values, and so many binders further in
instance-lift : (values : List Term) (u : Term) (under : ℕ) → instance_of values under (lift u under 0) ≡ lift (at_terms values u) under 0
instance-lift values u under =
    let s = fill no_variable values in
    let r : ℕ → ℕ = λ n. lift_var n under 0 in
    instance-is_inst values under (lift u under 0)
    ∙ ap (inst (under_binders under s)) (lift-is_ren u under 0)
    ∙ inst-ren (under_binders under s) r u
    ∙ inst-same u (λ n. at n)
    ∙ sym (ren-inst r s u)
    ∙ sym (lift-is_ren (inst s u) under 0)
  where
    at : (n : ℕ) → under_binders under (fill no_variable values) (lift_var n under 0) ≡ ren (λ m. lift_var m under 0) (fill no_variable values n)
    at n =
        let e : lift_var n under 0 ≡ n + under = grind (arith, nat_tests) in
        ap (under_binders under (fill no_variable values)) e
        ∙ under-higher (fill no_variable values) under (n + under) (omega arith)
        ∙ ap (λ m. lift (fill no_variable values m) under 0) (let f : n + under - under ≡ n = omega arith in f)
        ∙ lift-is_ren (fill no_variable values n) under 0

number : Term → ℕ
number (Var v) = v
number _ = 0

-- only a variable is a variable so many binders further in
lifted-variable_is : (u : Term) (under k : ℕ) → lift u under 0 ≡ Var k → u ≡ Var (k - under)
unfolding number
lifted-variable_is (Var v) under k e =
    let s : lift_var v under 0 ≡ k = ap number e in
    let f : lift_var v under 0 ≡ v + under = grind (arith, nat_tests) in
    ap Var (omega arith)
lifted-variable_is (Sort i) under k e = absurd (cc)
lifted-variable_is (Pi a b) under k e = absurd (cc)
lifted-variable_is (Lam a b) under k e = absurd (cc)
lifted-variable_is (App f a) under k e = absurd (cc)
lifted-variable_is (Let a t b) under k e = absurd (cc)
lifted-variable_is (Const i) under k e = absurd (cc)
lifted-variable_is (Fam i) under k e = absurd (cc)
lifted-variable_is (Con i c) under k e = absurd (cc)
lifted-variable_is (Elim i m) under k e = absurd (cc)
lifted-variable_is (AxiomK i m) under k e = absurd (cc)

-- ---- a term that occurs as the scrutinee is the new variable

-- the new variable is among the values, and u is that variable
abbrev pub IsNew : (values : List Term) (order : List ℕ) (n : ℕ) (u : Term) → Type 0
IsNew values order n u = (place_in order n < length values) × (u ≡ Var (length values - (place_in order n + 1)))

-- a term with its variables in their new order
abbrev placed : (values : List Term) (order : List ℕ) (n under : ℕ) → Term → Term
placed values order n under x = put_under (reordered order) (n + 1) (length values) under x

new-placed : (values : List Term) (order : List ℕ) (n under : ℕ) → placed values order n under (Var under) ≡ Var (length values + under - (place_in order n + 1))
new-placed values order n under =
    second-of_two under under (Var under) _ (omega arith)
    ∙ first-of_two under (n + 1 + under) (reordered order (length values + under) (n + 1 + under - (under + 1))) (Var (under - (n + 1) + length values)) (omega arith)
    ∙ ap (reordered order (length values + under)) (let e : n + 1 + under - (under + 1) ≡ n = omega arith in e)

root : (values : List Term) (order : List ℕ) (n : ℕ) (t u g : Term) (under : ℕ) → free_of (without_under t under g) ≤ n + 1 + under
    → EachStands values order n t under (without_under t under g) → at_terms values u ≡ t
    → is_occurrence u under (placed values order n under (without_under t under g)) ≡ true → IsNew values order n u
root values order n t u g under free stands at occ =
    let w = without_under t under g in
    let is_u : placed values order n under w ≡ lift u under 0 = same-is (placed values order n under w) (lift u under 0) occ in
    let back : instance_of values under (placed values order n under w) ≡ g = put-back values order n t w under free stands ∙ without-back t g under in
    let is_t : g ≡ lift t under 0 =
    sym back ∙ ap (instance_of values under) is_u ∙ instance-lift values u under ∙ ap (λ x. lift x under 0) at in
    let new : w ≡ Var under = occurrence-out t under g (is-same g (lift t under 0) is_t) in
    let own : Stands values order n t n =
    stands n (omega arith)
    (transport (λ x. has_variable (n + 1 - (n + 1) + under) x ≡ true) (sym new) (eq-eqb under (n + 1 - (n + 1) + under) (omega arith))) in
    let low : place_in order n < length values = own.place in
    let shown : lift u under 0 ≡ Var (length values + under - (place_in order n + 1)) =
    sym is_u ∙ ap (placed values order n under) new ∙ new-placed values order n under in (
      low,
      lifted-variable_is u under (length values + under - (place_in order n + 1)) shown
          ∙ ap Var (let e : length values + under - (place_in order n + 1) - under ≡ length values - (place_in order n + 1) = omega arith in e),
    )

-- a term that occurs in a variable is the variable
leaf-root : (u x : Term) (under k : ℕ) → x ≡ Var k → occurs u under x ≡ true → is_occurrence u under x ≡ true
leaf-root u x under k e h =
    transport (λ y. occurs u under y ≡ true → is_occurrence u under y ≡ true) (sym e) (λ there. there) h

variable-placed : (P : Type 0) (values : List Term) (order : List ℕ) (n under v : ℕ) → ((k : ℕ) → placed values order n under (Var v) ≡ Var k → P) → P
variable-placed P values order n under v go = by (nat_lt v under) (nat_lt v (n + 1 + under)) refl refl
  where
    by : (b c : Bool) → nat_lt v under ≡ b → nat_lt v (n + 1 + under) ≡ c → P
    by true c e f = go v (ap (λ x. cond x (Var v) (cond (nat_lt v (n + 1 + under)) (reordered order (length values + under) (n + 1 + under - (v + 1))) (Var (v - (n + 1) + length values)))) e)
    by false true e f =
        go (length values + under - (place_in order (n + 1 + under - (v + 1)) + 1))
        (ap₂ (λ x y. cond x (Var v) (cond y (reordered order (length values + under) (n + 1 + under - (v + 1))) (Var (v - (n + 1) + length values)))) e f)
    by false false e f =
        go (v - (n + 1) + length values)
        (ap₂ (λ x y. cond x (Var v) (cond y (reordered order (length values + under) (n + 1 + under - (v + 1))) (Var (v - (n + 1) + length values)))) e f)

-- A term either is an occurrence of t, or keeps its former: then what occurs in it is itself or occurs in a part.
node : (values : List Term) (order : List ℕ) (n : ℕ) (t u g x : Term) (under : ℕ)
    → without_under t under g ≡ cond (is_occurrence t under g) (Var under) x → free_of (without_under t under g) ≤ n + 1 + under
    → EachStands values order n t under (without_under t under g) → at_terms values u ≡ t
    → ((is_occurrence u under (placed values order n under x) ≡ true → IsNew values order n u) → free_of x ≤ n + 1 + under
    → EachStands values order n t under x → occurs u under (placed values order n under x) ≡ true → IsNew values order n u)
    → occurs u under (placed values order n under (without_under t under g)) ≡ true → IsNew values order n u
node values order n t u g x under is free stands at inner occ = by (is_occurrence t under g) refl
  where
    by : (b : Bool) → is_occurrence t under g ≡ b → IsNew values order n u
    by true e =
        root values order n t u g under free stands at
        (leaf-root u (placed values order n under (without_under t under g)) under (length values + under - (place_in order n + 1))
        (ap (placed values order n under) (occurrence-out t under g e) ∙ new-placed values order n under) occ)
    by false e =
        let same : without_under t under g ≡ x = is ∙ ap (λ c. cond c (Var under) x) e in
        inner
        (λ top. root values order n t u g under free stands at
        (transport (λ w. is_occurrence u under (placed values order n under w) ≡ true) (sym same) top))
        (transport (λ w. free_of w ≤ n + 1 + under) same free)
        (transport (λ w. EachStands values order n t under w) same stands)
        (transport (λ w. occurs u under (placed values order n under w) ≡ true) same occ)

-- a term that occurs in a term without t, and is t at the values, is the new variable
pub none-left : (values : List Term) (order : List ℕ) (n : ℕ) (t u : Term) (g : Term) (under : ℕ) → free_of (without_under t under g) ≤ n + 1 + under
    → EachStands values order n t under (without_under t under g) → at_terms values u ≡ t
    → occurs u under (placed values order n under (without_under t under g)) ≡ true → IsNew values order n u
none-left values order n t u (Var v) under free stands at occ =
    node values order n t u (Var v) (Var (lift_var v 1 under)) under refl free stands at
    (λ top f s inside. variable-placed (IsNew values order n u) values order n under (lift_var v 1 under)
    (λ k e. top (leaf-root u (placed values order n under (Var (lift_var v 1 under))) under k e inside))) occ
none-left values order n t u (Pi a b) under free stands at occ =
    let wa = without_under t under a in
    let wb = without_under t (under + 1) b in
    node values order n t u (Pi a b) (Pi wa wb) under refl free stands at
    (λ top f s inside. or-cases (IsNew values order n u) (is_occurrence u under (placed values order n under (Pi wa wb)))
    (occurs u under (placed values order n under wa) || occurs u (under + 1) (placed values order n (under + 1) wb)) inside top
    (λ parts. or-cases (IsNew values order n u) (occurs u under (placed values order n under wa)) (occurs u (under + 1) (placed values order n (under + 1) wb)) parts
    (none-left values order n t u a under (omega arith) (first values order n t under wa (λ l. has_variable (n + 1 - (l + 1) + under + 1) wb) s) at)
    (none-left values order n t u b (under + 1) (omega arith) (body values order n t under wb (λ l. has_variable (n + 1 - (l + 1) + under) wa) s) at))) occ
none-left values order n t u (Lam a b) under free stands at occ =
    let wa = without_under t under a in
    let wb = without_under t (under + 1) b in
    node values order n t u (Lam a b) (Lam wa wb) under refl free stands at
    (λ top f s inside. or-cases (IsNew values order n u) (is_occurrence u under (placed values order n under (Lam wa wb)))
    (occurs u under (placed values order n under wa) || occurs u (under + 1) (placed values order n (under + 1) wb)) inside top
    (λ parts. or-cases (IsNew values order n u) (occurs u under (placed values order n under wa)) (occurs u (under + 1) (placed values order n (under + 1) wb)) parts
    (none-left values order n t u a under (omega arith) (first values order n t under wa (λ l. has_variable (n + 1 - (l + 1) + under + 1) wb) s) at)
    (none-left values order n t u b (under + 1) (omega arith) (body values order n t under wb (λ l. has_variable (n + 1 - (l + 1) + under) wa) s) at))) occ
none-left values order n t u (App f a) under free stands at occ =
    let wf = without_under t under f in
    let wa = without_under t under a in
    node values order n t u (App f a) (App wf wa) under refl free stands at
    (λ top low s inside. or-cases (IsNew values order n u) (is_occurrence u under (placed values order n under (App wf wa)))
    (occurs u under (placed values order n under wf) || occurs u under (placed values order n under wa)) inside top
    (λ parts. or-cases (IsNew values order n u) (occurs u under (placed values order n under wf)) (occurs u under (placed values order n under wa)) parts
    (none-left values order n t u f under (omega arith) (first values order n t under wf (λ l. has_variable (n + 1 - (l + 1) + under) wa) s) at)
    (none-left values order n t u a under (omega arith) (second values order n t under wa (λ l. has_variable (n + 1 - (l + 1) + under) wf) s) at))) occ
none-left values order n t u (Let a v b) under free stands at occ =
    let wa = without_under t under a in
    let wv = without_under t under v in
    let wb = without_under t (under + 1) b in
    let both : ℕ → Bool = λ l. has_variable (n + 1 - (l + 1) + under) wa || has_variable (n + 1 - (l + 1) + under) wv in
    let inner : ℕ → Bool = λ l. has_variable (n + 1 - (l + 1) + under + 1) wb in
    node values order n t u (Let a v b) (Let wa wv wb) under refl free stands at
    (λ top low s inside.
    let outer : (l : ℕ) → l < n + 1 → both l ≡ true → Stands values order n t l = λ l lt k. s l lt (or_left (both l) (inner l) k) in
    or-cases (IsNew values order n u) (is_occurrence u under (placed values order n under (Let wa wv wb)))
    (occurs u under (placed values order n under wa) || occurs u under (placed values order n under wv) || occurs u (under + 1) (placed values order n (under + 1) wb)) inside top
    (λ parts. or-cases (IsNew values order n u) (occurs u under (placed values order n under wa) || occurs u under (placed values order n under wv))
    (occurs u (under + 1) (placed values order n (under + 1) wb)) parts
    (λ firsts. or-cases (IsNew values order n u) (occurs u under (placed values order n under wa)) (occurs u under (placed values order n under wv)) firsts
    (none-left values order n t u a under (omega arith) (first values order n t under wa (λ l. has_variable (n + 1 - (l + 1) + under) wv) outer) at)
    (none-left values order n t u v under (omega arith) (second values order n t under wv (λ l. has_variable (n + 1 - (l + 1) + under) wa) outer) at))
    (none-left values order n t u b (under + 1) (omega arith) (body values order n t under wb both s) at))) occ
none-left values order n t u (Sort i) under free stands at occ =
    node values order n t u (Sort i) (Sort i) under refl free stands at (λ top f s inside. top inside) occ
none-left values order n t u (Const i) under free stands at occ =
    node values order n t u (Const i) (Const i) under refl free stands at (λ top f s inside. top inside) occ
none-left values order n t u (Fam i) under free stands at occ =
    node values order n t u (Fam i) (Fam i) under refl free stands at (λ top f s inside. top inside) occ
none-left values order n t u (Con i c) under free stands at occ =
    node values order n t u (Con i c) (Con i c) under refl free stands at (λ top f s inside. top inside) occ
none-left values order n t u (Elim i m) under free stands at occ =
    node values order n t u (Elim i m) (Elim i m) under refl free stands at (λ top f s inside. top inside) occ
none-left values order n t u (AxiomK i m) under free stands at occ =
    node values order n t u (AxiomK i m) (AxiomK i m) under refl free stands at (λ top f s inside. top inside) occ

-- ---- places

place-new : (n : ℕ) (xs ys : List ℕ) → AreBelow n xs → place_in (xs ++ n ∷ ys) n ≡ length xs
place-new n [] ys low = ap (λ b. cond b 0 (place_in ys n + 1)) (eq-eqb n n refl)
place-new n (x ∷ xs) ys low = by (place-new n xs ys (λ l h. low l (among-later l x xs h))) (x == n) refl
  where
    by : place_in (xs ++ n ∷ ys) n ≡ length xs → (b : Bool) → (x == n) ≡ b → cond b 0 (place_in (xs ++ n ∷ ys) n + 1) ≡ suc (length xs)
    by rest true e =
        let here : x ≡ n = (Decides-eqb x n).0 e in
        let lt : x < n = low x (among-own x xs) in
        absurd (omega arith)
    by rest false e = ap (λ k. k + 1) rest ∙ add-one (length xs)

-- the type of a variable is at its place, and has only variables before it
arranged-at : (order : List ℕ) (n : ℕ) (all : List Term) (done rest : List ℕ) (d j : ℕ) → EachFollows n all done rest → is_among j rest ≡ true
    → (term_at (arranged order n all d rest) (place_in rest j) ≡ put (reordered order) (n + 1) (d + place_in rest j) (term_at all j))
    × IsWithin n (done ++ take (place_in rest j) rest) (term_at all j)
arranged-at order n all done [] d j follows h = absurd (cc)
arranged-at order n all done (i ∷ rest) d j follows h =
    by (arranged-at order n all (done ++ i ∷ []) rest (d + 1) j follows.1) (i == j) refl h
  where
    by : (is_among j rest ≡ true → (term_at (arranged order n all (d + 1) rest) (place_in rest j) ≡ put (reordered order) (n + 1) (d + 1 + place_in rest j) (term_at all j))
        × IsWithin n ((done ++ i ∷ []) ++ take (place_in rest j) rest) (term_at all j))
        → (b : Bool) → (i == j) ≡ b → (b || is_among j rest) ≡ true
        → (term_at (arranged order n all d (i ∷ rest)) (cond b 0 (place_in rest j + 1)) ≡ put (reordered order) (n + 1) (d + cond b 0 (place_in rest j + 1)) (term_at all j))
        × IsWithin n (done ++ take (cond b 0 (place_in rest j + 1)) (i ∷ rest)) (term_at all j)
    by later true e k =
        let same : i ≡ j = (Decides-eqb i j).0 e in (
          ap₂ (λ x y. put (reordered order) (n + 1) x (term_at all y)) (let f : d ≡ d + 0 = omega arith in f) same,
          transport (λ (levels_of : List ℕ). IsWithin n levels_of (term_at all j)) (sym (append-none done))
              (transport (λ x. IsWithin n done (term_at all x)) same follows.0),
        )
    by later false e k =
        let there = later k in
        let p = place_in rest j in (
          ap (term_at (arranged order n all d (i ∷ rest))) (add-one p) ∙ there.0
              ∙ ap (λ x. put (reordered order) (n + 1) x (term_at all j)) (let f : d + 1 + p ≡ d + (p + 1) = omega arith in f),
          transport (λ x. IsWithin n (done ++ take x (i ∷ rest)) (term_at all j)) (sym (add-one p))
              (transport (λ (levels_of : List ℕ). IsWithin n levels_of (term_at all j)) (snoc-append done i (take p rest)) there.1),
        )

-- ---- the goal and the types

left-none : (S : Signature) (n : ℕ) (m : NormalForms) (type : Term) → AreFormsFitting S n m → IsScoped S n type → LeavesNone m type (abstracted m type)
left-none S n m type h k = record { goal = goal; types = of_types }
  where
    N : ℕ
    N = length m.types

    count : N ≡ n
    count = types-count S 0 n m.types h.types

    t : Term
    t = m.scrutinee

    types : List Term
    types = opened_types N m.scrutinee type (widened N 0 m.types)

    all : List Term
    all = types ++ lift type 1 0 ∷ []

    c : length types ≡ N
    c = opened-count N m.scrutinee type m.types refl

    order : List ℕ
    order = new_order N types

    values : List Term
    values = map (value_of N m.scrutinee) order

    whole : IsScoped S N type
    whole = transport (λ x. IsScoped S x type) (sym count) k

    front : place_in order N ≡ length (in_front N types)
    front = place-new N (in_front N types) (behind N types) (front-below N types)

    goal : (u : Term) → occurs u 0 (abstracted m type).goal ≡ true → at_terms (arguments m.scrutinee (abstracted m type)) u ≡ m.scrutinee
        → u ≡ Var (length m.types - (abstracted m type).place)
    goal u occ at =
        let e : length values ≡ N + 1 = length-map order (value_of N m.scrutinee) ∙ length-order N types c in
        let free = (without-scoped S m.scrutinee n 0 m.goal (omega arith) h.goal.scoped).variables in
        let new : IsNew values order N u =
        none-left values order N m.scrutinee u m.goal 0 (omega (arith, free, count))
        (each-stands N m.scrutinee order order [] (without m.scrutinee m.goal) (sym (append-none order)) (λ l lt has. all-among N types l lt))
        (ap (λ (terms : List Term). at_terms terms u) (sym (arguments-by_level N m.scrutinee type types m.goal c)) ∙ at)
        (transport (λ x. occurs u 0 (put (reordered order) (N + 1) x (without m.scrutinee m.goal)) ≡ true) (sym e) occ) in
        new.1 ∙ ap Var (let f : length values - (place_in order N + 1) ≡ N - length (in_front N types) = omega (arith, front) in f)

    of_types : (j : ℕ) (u : Term) → j < N → is_among j (needed N (widened N 0 m.types) type) ≡ false
        → occurs u 0 (term_at (abstracted m type).telescope (place_in order j)) ≡ true
        → at_terms (take (place_in order j) (arguments m.scrutinee (abstracted m type))) u ≡ m.scrutinee
        → ((abstracted m type).place < place_in order j) × (u ≡ Var (place_in order j - ((abstracted m type).place + 1)))
    of_types j u low none occ at =
        let q = place_in order j in
        let among : is_among j order ≡ true = all-among N types j (omega arith) in
        let found = arranged-at order N all [] order 0 j (all-follow N types (lift type 1 0) (is-opened N m.scrutinee type m.types refl)) among in
        let inside : q < length order = (place-there order j among).0 in
        let w = lift (term_at m.types j) (N - j) 0 in
        let is : term_at all j ≡ without m.scrutinee w =
        term-left types (lift type 1 0) j (omega (arith, c)) ∙ opened-type N m.scrutinee type m.types j refl low
        ∙ ap (λ b. cond b (lift w 1 0) (without m.scrutinee w)) none in
        let terms = map (value_of N m.scrutinee) (take q order) in
        let e : length terms ≡ q = length-map (take q order) (value_of N m.scrutinee) ∙ length-take-le q order (omega arith) in
        let free : free_of (term_at all j) ≤ N + 1 =
        (each-scoped S (N + 1) all j (all-scoped S N m.scrutinee type m.types refl (types-scoped S 0 n m.types h.types) whole)).variables in
        let own : free_of (without m.scrutinee w) ≤ N + 1 = transport (λ x. free_of x ≤ N + 1) is free in
        let new : IsNew terms order N u =
        none-left terms order N m.scrutinee u w 0 (omega arith)
        (each-stands N m.scrutinee order (take q order) (drop q order) (without m.scrutinee w) (sym (take-append-drop q order))
        (transport (λ x. IsWithin N (take q order) x) is found.1))
        (ap (λ (terms : List Term). at_terms terms u)
        (sym (ap (take q) (arguments-by_level N m.scrutinee type types m.goal c) ∙ take-map (value_of N m.scrutinee) q order)) ∙ at)
        (transport (λ x. occurs u 0 (put (reordered order) (N + 1) x (without m.scrutinee w)) ≡ true) (let f : 0 + q ≡ length terms = omega arith in f)
        (transport (λ x. occurs u 0 (put (reordered order) (N + 1) (0 + q) x) ≡ true) is
        (transport (λ x. occurs u 0 x ≡ true) found.0 occ))) in
        let before : place_in order N < length terms = new.0 in (
          omega (arith, front),
          new.1 ∙ ap Var (let f : length terms - (place_in order N + 1) ≡ q - (length (in_front N types) + 1) = omega (arith, front) in f),
        )

pub abstraction-leaves_none : AbstractionLeavesNone
abstraction-leaves_none S context goal t type left h =
    has-weaker (AreFormsFitting S (length context)) (λ m. LeavesNone m type (abstracted m type)) (normal_forms_of S context goal t left).0
    (forms-fitting S context goal t left h.signature h.context h.terms.0 h.terms.1.0)
    (λ m fits. left-none S (length context) m type fits h.terms.1.1.0)
