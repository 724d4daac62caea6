-- Heights and numbers of free variables of the terms that are made.
use Rattle.std.proofs.Common.{◌≡◌, ℕ, suc, ◌+◌, ◌-◌, ◌≤◌, nat_lt, Bool, true, false, cond, List, [], ◌∷◌, ◌++◌, length, Result, Ok, Err, IfOk, refl, ap, ap₂, sym, ◌∙◌, subst as transport, arith}
use Rattle.std.proofs.lemmas.Bool.Decides.{nat_tests}
use Rattle.std.proofs.lemmas.List.{length-map}
use Rattle.theory.specs.Terms.{Term, Var, Sort, Pi, Lam, App, Let, Const, Fam, Con, Elim, AxiomK, height, free_of, lift, lift_var}
use Rattle.theory.proofs.Heights.{height-lift}
use Rattle.core_terms.specs.Answers.{bounded, is_low}
use Rattle.core_terms.specs.Meanings.{tree_of, tele_of}
use Rattle.core_terms.specs.declared.term.Term as code
use Rattle.core_terms.specs.declared.stop.Stop.{Stop}
use Rattle.core_terms.specs.declared.stop.Stop.TheVariants.{Deep}
use Rattle.tele_eq.specs.Items.{each_position}
use Rattle.unification.specs.Occurrences as levels
use Rattle.tele_eq.specs.Levels.{is_among}
use Rattle.with_abstraction.specs.Occurrences.{is_occurrence, without_under, without}
use Rattle.with_abstraction.specs.Abstractions.{opened}
use Rattle.with_abstraction.specs.Conditions.{AreOver, AreTypesOver, AreLow}
use Rattle.with_abstraction.specs.Needed.{widened}
use Rattle.with_abstraction.specs.Orders.{behind, in_front}
use Rattle.with_abstraction.proofs.BehindLevels.{length-both}

low-test : (t : Term) → height t ≤ 2000 → is_low t ≡ true
low-test t le = grind (arith, nat_tests)

tested : Bool → Term → Result Term Stop
tested b t = cond b (Ok t) (Err Deep)

-- a lift of a low term is not tested
pub bounded-lift : (t : Term) (by : ℕ) → height t ≤ 2000 → bounded (lift t by 0) ≡ Ok (lift t by 0)
unfolding tested
bounded-lift t by le =
    ap (λ (b : Bool). tested b (lift t by 0))
    (low-test (lift t by 0) (let e : height (lift t by 0) ≡ height t = height-lift t by 0 in omega arith))

pub ruleset bounded_lift = (bounded-lift)

-- ---- terms over more variables

pub over-more : (n m : ℕ) (terms : List Term) → n ≤ m → AreOver n terms → AreOver m terms
over-more n m [] le h = tt
over-more n m (t ∷ terms) le h =
    (record { low = h.0.low; free = let f : free_of t ≤ n = h.0.free in omega arith }, over-more n m terms le h.1)

pub over-low : (n : ℕ) (terms : List Term) → AreOver n terms → AreLow terms
over-low n [] h = tt
over-low n (t ∷ terms) h = (h.0.low, over-low n terms h.1)

lift-free : (t : Term) (by from n : ℕ) → free_of t ≤ n → free_of (lift t by from) ≤ n + by
lift-free (Var v) by from n h = go (nat_lt v from)
  where
    go : (b : Bool) → cond b v (v + by) + 1 ≤ n + by
    go true = omega arith
    go false = omega arith
lift-free (Pi a b) by from n h =
    let l = lift-free a by from n (omega arith) in let r = lift-free b by (from + 1) (n + 1) (omega arith) in omega arith
lift-free (Lam a b) by from n h =
    let l = lift-free a by from n (omega arith) in let r = lift-free b by (from + 1) (n + 1) (omega arith) in omega arith
lift-free (App f a) by from n h =
    let l = lift-free f by from n (omega arith) in let r = lift-free a by from n (omega arith) in omega arith
lift-free (Let a t b) by from n h =
    let l = lift-free a by from n (omega arith) in
    let m = lift-free t by from n (omega arith) in
    let r = lift-free b by (from + 1) (n + 1) (omega arith) in
    omega arith
lift-free (Sort i) by from n h = omega arith
lift-free (Const i) by from n h = omega arith
lift-free (Fam i) by from n h = omega arith
lift-free (Con i c) by from n h = omega arith
lift-free (Elim i m) by from n h = omega arith
lift-free (AxiomK i m) by from n h = omega arith

pub widened-over : (n j : ℕ) (types : List Term) → AreTypesOver j types → j + length types ≤ n → AreOver n (widened n j types)
widened-over n j [] h le = tt
widened-over n j (a ∷ types) h le =
    let e : height (lift a (n - j) 0) ≡ height a = height-lift a (n - j) 0 in
    let low : height a ≤ 2000 = h.0.low in
    let f : free_of (lift a (n - j) 0) ≤ j + (n - j) = lift-free a (n - j) 0 j h.0.free in
    (record { low = omega arith; free = omega arith }, widened-over n (j + 1) types h.1 (omega arith))

pub length-widened : (n j : ℕ) (types : List Term) → length (widened n j types) ≡ length types
length-widened n j [] = refl
length-widened n j (a ∷ types) = ap suc (length-widened n (j + 1) types)

-- ---- an occurrence is no lower than the variable that stands for it

pub occurrence-out : (t : Term) (under : ℕ) (u : Term) → is_occurrence t under u ≡ true → without_under t under u ≡ Var under
occurrence-out t under (Var n) e = ap (λ b. cond b (Var under) (Var (lift_var n 1 under))) e
occurrence-out t under (Sort i) e = ap (λ b. cond b (Var under) (Sort i)) e
occurrence-out t under (Pi a b) e = ap (λ x. cond x (Var under) (Pi (without_under t under a) (without_under t (under + 1) b))) e
occurrence-out t under (Lam a b) e = ap (λ x. cond x (Var under) (Lam (without_under t under a) (without_under t (under + 1) b))) e
occurrence-out t under (App f a) e = ap (λ x. cond x (Var under) (App (without_under t under f) (without_under t under a))) e
occurrence-out t under (Let a u b) e =
    ap (λ x. cond x (Var under) (Let (without_under t under a) (without_under t under u) (without_under t (under + 1) b))) e
occurrence-out t under (Const i) e = ap (λ b. cond b (Var under) (Const i)) e
occurrence-out t under (Fam i) e = ap (λ b. cond b (Var under) (Fam i)) e
occurrence-out t under (Con i c) e = ap (λ b. cond b (Var under) (Con i c)) e
occurrence-out t under (Elim i m) e = ap (λ b. cond b (Var under) (Elim i m)) e
occurrence-out t under (AxiomK i m) e = ap (λ b. cond b (Var under) (AxiomK i m)) e

either-low : (b : Bool) (x y : Term) (h : ℕ) → height x ≤ h → height y ≤ h → height (cond b x y) ≤ h
either-low true x y h k l = k
either-low false x y h k l = l

pub height-without : (t : Term) (under : ℕ) (u : Term) → height (without_under t under u) ≤ height u
height-without t under (Var n) = either-low (is_occurrence t under (Var n)) (Var under) (Var (lift_var n 1 under)) 1 (omega arith) (omega arith)
height-without t under (Sort i) = either-low (is_occurrence t under (Sort i)) (Var under) (Sort i) 1 (omega arith) (omega arith)
height-without t under (Pi a b) =
    let l = height-without t under a in let r = height-without t (under + 1) b in
    either-low (is_occurrence t under (Pi a b)) (Var under) (Pi (without_under t under a) (without_under t (under + 1) b)) (height (Pi a b)) (omega arith) (omega arith)
height-without t under (Lam a b) =
    let l = height-without t under a in let r = height-without t (under + 1) b in
    either-low (is_occurrence t under (Lam a b)) (Var under) (Lam (without_under t under a) (without_under t (under + 1) b)) (height (Lam a b)) (omega arith) (omega arith)
height-without t under (App f a) =
    let l = height-without t under f in let r = height-without t under a in
    either-low (is_occurrence t under (App f a)) (Var under) (App (without_under t under f) (without_under t under a)) (height (App f a)) (omega arith) (omega arith)
height-without t under (Let a u b) =
    let l = height-without t under a in let m = height-without t under u in let r = height-without t (under + 1) b in
    either-low (is_occurrence t under (Let a u b)) (Var under) (Let (without_under t under a) (without_under t under u) (without_under t (under + 1) b))
    (height (Let a u b)) (omega arith) (omega arith)
height-without t under (Const i) = either-low (is_occurrence t under (Const i)) (Var under) (Const i) 1 (omega arith) (omega arith)
height-without t under (Fam i) = either-low (is_occurrence t under (Fam i)) (Var under) (Fam i) 1 (omega arith) (omega arith)
height-without t under (Con i c) = either-low (is_occurrence t under (Con i c)) (Var under) (Con i c) 1 (omega arith) (omega arith)
height-without t under (Elim i m) = either-low (is_occurrence t under (Elim i m)) (Var under) (Elim i m) 1 (omega arith) (omega arith)
height-without t under (AxiomK i m) = either-low (is_occurrence t under (AxiomK i m)) (Var under) (AxiomK i m) 1 (omega arith) (omega arith)

pub opened-low : (t : Term) (kept : List ℕ) (j : ℕ) (types : List Term) → AreLow types → AreLow (opened t kept j types)
opened-low t kept j [] h = tt
opened-low t kept j (a ∷ types) h =
    let e : height (lift a 1 0) ≡ height a = height-lift a 1 0 in
    let low : height a ≤ 2000 = h.0 in
    let less : height (without t a) ≤ height a = height-without t 0 a in
    (either-low (is_among j kept) (lift a 1 0) (without t a) 2000 (omega arith) (omega arith), opened-low t kept (j + 1) types h.1)

pub length-opened : (t : Term) (kept : List ℕ) (j : ℕ) (types : List Term) → length (opened t kept j types) ≡ length types
length-opened t kept j [] = refl
length-opened t kept j (a ∷ types) = ap suc (length-opened t kept (j + 1) types)

-- the types of a context, widened, are low and over few enough variables
pub record IsWide (types terms : List Term) : Type 0 where
  pub over : AreOver 2147483648 terms
  pub low : AreLow terms
  pub count : length terms ≡ length types

pub is-wide : (n : ℕ) (types : List Term) → n ≡ length types → AreTypesOver 0 types → n ≤ 2147483647 → IsWide types (widened n 0 types)
is-wide n types e h le =
    let over : AreOver n (widened n 0 types) = widened-over n 0 types h (omega arith) in
    record {
      over = over-more n 2147483648 (widened n 0 types) (omega arith) over;
      low = over-low n (widened n 0 types) over;
      count = length-widened n 0 types;
    }

pub is-wide_made : (n : ℕ) (types made : List code.Term) → n ≡ length types → AreTypesOver 0 (tele_of types) → n ≤ 2147483647 → made ≡ []
    → IsWide (tele_of types) (tele_of made ++ widened n 0 (tele_of types))
is-wide_made n types made e h le none =
    transport (λ (front : List code.Term). IsWide (tele_of types) (tele_of front ++ widened n 0 (tele_of types))) (sym none)
    (is-wide n (tele_of types) (let k : length (tele_of types) ≡ length types = length-map types tree_of in omega arith) h le)

-- the opened types are as many
pub opened-count : (t : Term) (kept : List ℕ) (made types : List code.Term) (n : ℕ) → made ≡ [] → length types ≡ n
    → length (tele_of made ++ opened t kept 0 (tele_of types)) ≡ n
opened-count t kept made types n none e =
    transport (λ (front : List code.Term). length (tele_of front ++ opened t kept 0 (tele_of types)) ≡ n) (sym none)
    (length-opened t kept 0 (tele_of types) ∙ length-map types tree_of ∙ e)

pub opened-low_made : (t : Term) (kept : List ℕ) (made : List code.Term) (types : List Term) → made ≡ [] → AreLow types
    → AreLow (tele_of made ++ opened t kept 0 types)
opened-low_made t kept made types none h =
    transport (λ (front : List code.Term). AreLow (tele_of front ++ opened t kept 0 types)) (sym none) (opened-low t kept 0 types h)

pub ok-inner : {A : Type 0} (x y : A) → ◌≡◌ {A = Result A Stop} (Ok x) (Ok y) → x ≡ y
ok-inner x y e = transport (λ r. IfOk r (λ z. x ≡ z)) e refl

-- low terms with a low one at the end are low
pub low-end : (terms : List code.Term) (t : code.Term) (u : Term) → ◌≡◌ {A = Result Term Stop} (Ok (tree_of t)) (Ok (lift u 1 0)) → height u ≤ 2000
    → AreLow (tele_of terms) → AreLow (tele_of (terms ++ t ∷ []))
low-end [] t u e le h =
    let same : height (tree_of t) ≡ height (lift u 1 0) = ap height (ok-inner (tree_of t) (lift u 1 0) e) in
    let k : height (lift u 1 0) ≡ height u = height-lift u 1 0 in
    (omega arith, tt)
low-end (a ∷ terms) t u e le h = (h.0, low-end terms t u e le h.1)

-- the levels in front of the new variable and after it are as many as the types
pub levels-fit : (n : ℕ) (types slice : List code.Term) (front last made out first second : List ℕ) → slice ≡ types → length types ≡ n
    → ◌≡◌ {A = Result (List ℕ) Stop} (Ok last) (Ok (behind n (tele_of slice))) → out ≡ last → made ≡ []
    → ◌≡◌ {A = Result (List ℕ) Stop} (Ok front) (Ok (made ++ levels.without out (each_position (λ j. j) 0 n))) → first ≡ front → second ≡ last
    → length first + length second ≤ n
levels-fit n types slice front last made out first second same count is_behind out_is none is_front one two =
    let b : last ≡ behind n (tele_of types) =
    ok-inner last (behind n (tele_of slice)) is_behind ∙ ap (λ (s : List code.Term). behind n (tele_of s)) same in
    let f : front ≡ in_front n (tele_of types) =
    ok-inner front (made ++ levels.without out (each_position (λ j. j) 0 n)) is_front
    ∙ ap₂ (λ (m : List ℕ) (o : List ℕ). m ++ levels.without o (each_position (λ j. j) 0 n)) none (out_is ∙ b) in
    let x : length first ≡ length (in_front n (tele_of types)) = ap length (one ∙ f) in
    let y : length second ≡ length (behind n (tele_of types)) = ap length (two ∙ b) in
    let all : length (in_front n (tele_of types)) + length (behind n (tele_of types)) ≡ n =
    length-both n (tele_of types) (length-map types tree_of ∙ count) in
    omega arith
