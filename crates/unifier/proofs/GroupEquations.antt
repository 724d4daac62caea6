-- The equations of a group, against those of the telescope of its family.
use Rattle.std.proofs.Common.{◌≡◌, ℕ, zero, suc, ◌+◌, ◌≤◌, ◌<◌, nat_le, Bool, true, false, cond, Result, Ok, Err, IfOk, List, [], ◌∷◌, ◌++◌, map, length, take, All, refl, sym, ap, ap₂, ◌∙◌, subst, arith}
use Rattle.std.proofs.lemmas.Bool.Decides.{nat_tests}
use Rattle.std.proofs.lemmas.List.{length-map, length-append, length-take}
use Rattle.std.proofs.lemmas.List.Elements.{All-cons, All-nil}
use Rattle.theory.specs.Terms.{Term, free_of}
use Rattle.theory.specs.Families.{index_types}
use Rattle.theory.specs.Substitutions.{fill}
use Rattle.theory.specs.Eliminators.{no_variable}
use Rattle.theory.specs.Telescopes.{Telescope, applied, variables, weaken_by, inst_telescope}
use Rattle.theory.specs.Families as theory
use Rattle.theory.specs.Terms.Term.{Fam}
use Rattle.theory.specs.Scopes.{IsTelescopeOver}
use Rattle.theory.specs.Signatures.{Signature}
use Rattle.theory.specs.SignatureScopes.{IsScoped, IsScopedTelescope}
use Rattle.theory.proofs.ScopedTerms.{scoped_over_more}
use Rattle.kernel_reduce.proofs.LookUps.{family-found}
use Rattle.core_terms.specs.Answers.{Spent, and_then, and_next, are_low, bounded_terms}
use Rattle.core_terms.specs.Meanings.{tree_of, tele_of}
use Rattle.core_terms.specs.declared.stop.Stop.{Stop}
use Rattle.core_terms.specs.declared.term.Term as term
use Rattle.core_terms.proofs.Builders.{ok_is}
use Rattle.core_terms.specs.declared.stop.Stop.TheVariants.{Deep}
use Rattle.core_sig.specs.Meanings.{family_of}
use Rattle.tele_eq.specs.Items.{Item, item_of, items_of}
use Rattle.tele_eq.specs.declared.item.Item.{Item as CodeItem}
use Rattle.tele_eq.specs.TelescopicEquality.{equations, equation_behind}
use Rattle.tele_eq.proofs.ScopeLaws.{scoped_equations}
use Rattle.tele_eq.proofs.Positions.{length-each_position}
use Rattle.unification.specs.Groups.{all_convertible, are_equations_of}
use Rattle.unification.specs.Heights.{are_low_items, bounded_items, equations_made, most_places}
use Rattle.unification.specs.Records.{items_at, family_items}
use Rattle.unification.specs.ScopedStates.{IsReady, AreScopedEquations}
use Rattle.unification.specs.States.{Equation, State, left_sides, right_sides, types_as_they_stand}
use Rattle.unification.proofs.ScopedRecords.{family_items-scoped}
use Rattle.unifier.specs.CodeGroups.{IsGroupOf, membership_from}
use Rattle.problems.specs.Conditions.{AreBehind, AreGiven, AreLow, AreOver, HasFewVariables, HaveFewVariables, IsKept, most_depth, most_levels}
use Rattle.problems.specs.CodeBuilt.{sides_of, teles_of}
use Rattle.problems.specs.Meanings.{equation_of, equations_of, state_of}
use Rattle.unifier.specs.declared.groups.Membership.{Membership}
use Rattle.problems.specs.declared.state.Equation.{Equation as CodeEquation}
use Rattle.problems.specs.declared.state.State as code
use Rattle.problems.proofs.GivenTerms.{all-over}
use Rattle.problems.proofs.LowTerms.{low-terms}
use Rattle.problems.proofs.RecordSizes.{family-few, family-scoped, scoped-over}
use Rattle.problems.proofs.Rooms.{behind-few, room-kept}

-- ---- the telescope

items-length : (tele : Telescope) (levels : List ℕ) → length levels ≡ length tele → length (items_at tele levels) ≡ length tele
items-length [] levels e = refl
items-length (a ∷ tele) [] e = absurd (omega arith)
items-length (a ∷ tele) (i ∷ levels) e = ap suc (items-length tele levels (omega arith))

length-inst : (s : ℕ → Term) (tele : Telescope) → length (inst_telescope s tele) ≡ length tele
length-inst s [] = refl
length-inst s (a ∷ tele) = ap suc (length-inst _ tele)

pub length-family_items : (n : ℕ) (f : theory.Family) (ps : List Term) → length (family_items n f ps) ≡ length f.indices + 1
length-family_items n f ps =
    let types = inst_telescope (fill no_variable ps) (index_types f) in
    let last = applied (weaken_by (length f.indices) (applied (Fam n) ps)) (variables (length f.indices)) in
    let t = length-inst (fill no_variable ps) (index_types f) in
    let i = length-map f.indices (λ (i : Term × ℕ). i.0) in
    let l = length-map f.indices (λ (i : Term × ℕ). i.1) in
    let a = length-append types (last ∷ []) in
    let b = length-append (map (λ (i : Term × ℕ). i.1) f.indices) (f.level ∷ []) in
    let e = items-length (types ++ last ∷ []) (map (λ i. i.1) f.indices ++ f.level ∷ []) (omega arith) in
    omega arith

bounded-items : (X Y : List Item) → ◌≡◌ {A = Result (List Item) Stop} (Ok Y) (bounded_items X) → Y ≡ X
bounded-items X Y e = go (are_low_items X) e
  where
    go : (b : Bool) → ◌≡◌ {A = Result (List Item) Stop} (Ok Y) (cond b (Ok X) (Err Deep)) → Y ≡ X
    go true e = cc
    go false e = absurd (cc)

-- ---- the sides and the types

sides-length : (es : List Equation) → (length (left_sides es) ≡ length es) × (length (right_sides es) ≡ length es)
sides-length [] = (refl, refl)
sides-length (e ∷ es) = let h = sides-length es in (ap suc h.0, ap suc h.1)

sides-few : (n size k : ℕ) (es : List Equation) → AreBehind n size es → HaveFewVariables (left_sides (take k es)) × HaveFewVariables (right_sides (take k es))
sides-few n size zero es h = (tt, tt)
sides-few n size (suc k) [] h = (tt, tt)
sides-few n size (suc k) (e ∷ es) h =
    let rest = sides-few n (size + 1) k es h.4 in
    let l : free_of e.left ≤ n = h.2.1 in
    let r : free_of e.right ≤ n = h.3.1 in
    let d : n ≤ most_depth = h.2.2 in
    ((omega arith, rest.0), (omega arith, rest.1))

sides-scoped : (S : Signature) (n k j : ℕ) (es : List Equation) → AreScopedEquations S n j es → All (IsScoped S n) (left_sides (take k es)) × All (IsScoped S n) (right_sides (take k es))
sides-scoped S n zero j es h = (All-nil (IsScoped S n), All-nil (IsScoped S n))
sides-scoped S n (suc k) j [] h = (All-nil (IsScoped S n), All-nil (IsScoped S n))
sides-scoped S n (suc k) j (e ∷ es) h =
    let rest = sides-scoped S n k (j + 1) es h.1 in
    (All-cons (IsScoped S n) e.left (left_sides (take k es)) h.0.left rest.0, All-cons (IsScoped S n) e.right (right_sides (take k es)) h.0.right rest.1)

types-given : (S : Signature) (n j k : ℕ) (es : List Equation) → AreScopedEquations S n j es → AreBehind n (n + j) es → AreGiven S most_levels (types_as_they_stand (take k es))
types-given S n j zero es h b = tt
types-given S n j (suc k) [] h b = tt
types-given S n j (suc k) (e ∷ es) h b =
    let few = behind-few n (n + j) (e ∷ es) b in
    let next : n + j + 1 ≡ n + (j + 1) = omega arith in (
      record { scoped = scoped_over_more S (n + j) most_levels e.type (omega arith) h.0.type; low = b.1.0; few = omega arith },
      types-given S n (j + 1) k es h.1 (subst (λ m. AreBehind n m es) next b.4),
    )

telescope-given : (S : Signature) (n : ℕ) (tele : Telescope) → IsScopedTelescope S n tele → AreLow tele → n + length tele ≤ most_levels → AreGiven S most_levels tele
telescope-given S n [] h low few = tt
telescope-given S n (a ∷ tele) h low few =
    (record { scoped = scoped_over_more S n most_levels a (omega arith) h.0; low = low.0; few = omega arith }, telescope-given S (n + 1) tele h.1 low.1 (omega arith))

-- ---- equations that were made

pub record AreMade (X : List Item) (us vs : List Term) (types : Telescope) : Type 0 where
  pub are : types ≡ equations X us vs
  pub low : AreLow types
  pub few : length X ≤ 1000

made-low : (ts types : Telescope) → ◌≡◌ {A = Result Telescope Stop} (Ok types) (bounded_terms ts) → (types ≡ ts) × AreLow types
made-low ts types e = go (are_low ts) refl e
  where
    go : (b : Bool) → are_low ts ≡ b → ◌≡◌ {A = Result Telescope Stop} (Ok types) (cond b (Ok ts) (Err Deep)) → (types ≡ ts) × AreLow types
    go true low e = let same : types ≡ ts = cc in (same, subst AreLow (sym same) (low-terms ts low))
    go false low e = absurd (cc)

pub made-is : (X : List Item) (us vs : List Term) (types : Telescope) → ◌≡◌ {A = Result Telescope Stop} (Ok types) (equations_made X us vs) → AreMade X us vs types
made-is X us vs types e = go (nat_le (length X) most_places) (are_low_items X) refl e
  where
    go : (few low : Bool) → nat_le (length X) most_places ≡ few
        → ◌≡◌ {A = Result Telescope Stop} (Ok types) (cond few (and_then (cond low (Ok X) (Err Deep)) (λ items. bounded_terms (equations items us vs))) (Err Deep)) → AreMade X us vs types
    go true true f e = let h = made-low (equations X us vs) types e in record { are = h.0; low = h.1; few = grind (arith, nat_tests) }
    go true false f e = absurd (cc)
    go false low f e = absurd (cc)

-- ---- a group

module _ (S : Signature) (s : State) (k : ℕ) (m : Membership) (ready : IsReady S) (kept : IsKept S s) (within : k < length s.equations) (is : IsGroupOf S (length s.context) k m) where
  abbrev pub group : List Equation
  group = take (k + 1) s.equations

  abbrev pub items : List Item
  items = family_items m.number (family_of m.record.now) (tele_of m.params)

  pub parameters-over : AreOver most_depth (tele_of m.params)
  parameters-over = deep (length s.context) (tele_of m.params) (omega (arith, kept.few)) (all-over S (length s.context) (tele_of m.params) is.parameters)
    where
      deep : (n : ℕ) (ts : List Term) → n ≤ most_depth → AreOver n ts → AreOver most_depth ts
      deep n [] le h = tt
      deep n (t ∷ ts) le h = let f : free_of t ≤ n = h.0.1 in ((h.0.0, omega arith, omega arith), deep n ts le h.1)

  pub items-few : HasFewVariables items
  items-few =
      let f = family_of m.record.now in
      let scoped = family-scoped S m.number f ready.scoped is.family in
      let p : length f.parameters ≡ length (tele_of m.params) = length-map m.record.now.params tree_of ∙ (sym is.count ∙ sym (length-map m.params tree_of)) in
      family-few m.number f (tele_of m.params) parameters-over (subst (λ n. IsTelescopeOver n (index_types f)) p (scoped-over _ (length f.parameters) (index_types f) scoped.indices))
      (let i = length-map {B = Term × ℕ} m.record.now.indices (λ i. (tree_of i.ty, i.level)) in omega (arith, is.indices, is.few))

  pub items-length-is : length items ≡ k + 1
  items-length-is =
      let i = length-map {B = Term × ℕ} m.record.now.indices (λ i. (tree_of i.ty, i.level)) in
      let e = length-family_items m.number (family_of m.record.now) (tele_of m.params) in
      omega (arith, is.indices)

  pub group-length : length group ≡ k + 1
  group-length = let h = length-take (k + 1) s.equations in omega arith

  pub left-length : length (left_sides group) ≡ length items
  left-length = (sides-length group).0 ∙ (group-length ∙ sym items-length-is)

  pub right-length : length (right_sides group) ≡ length items
  right-length = (sides-length group).1 ∙ (group-length ∙ sym items-length-is)

  pub left-few : HaveFewVariables (left_sides group)
  left-few = (sides-few (length s.context) (length s.context) (k + 1) s.equations (room-kept S s kept).equations).0

  pub right-few : HaveFewVariables (right_sides group)
  right-few = (sides-few (length s.context) (length s.context) (k + 1) s.equations (room-kept S s kept).equations).1

  pub group-given : AreGiven S most_levels (types_as_they_stand group)
  group-given =
      let none : length s.context ≡ length s.context + 0 = omega arith in
      types-given S (length s.context) 0 (k + 1) s.equations kept.scoped.equations
      (subst (λ n. AreBehind (length s.context) n s.equations) none (room-kept S s kept).equations)

  pub others-given : (types : Telescope) → ◌≡◌ {A = Result Telescope Stop} (Ok types) (equations_made items (left_sides group) (right_sides group)) → AreGiven S most_levels types
  others-given types e =
      let made = made-is items (left_sides group) (right_sides group) types e in
      let n = length s.context in
      let sides = sides-scoped S n (k + 1) 0 s.equations kept.scoped.equations in
      let X = family_items-scoped S m.number n (family_of m.record.now) (tele_of m.params) ready.scoped (family-found S m.number (family_of m.record.now) is.family) (parameters-scoped (tele_of m.params) is.parameters) in
      let scoped = scoped_equations S n items (left_sides group) (right_sides group) ready.identities X sides.0 sides.1 in
      let l : length types ≡ k + 1 = ap length made.are ∙ (length-each_position (equation_behind (length items) items (left_sides group) (right_sides group)) 0 (length items) ∙ items-length-is) in
      telescope-given S n types (subst (IsScopedTelescope S n) (sym made.are) scoped) made.low (omega (arith, kept.few))
    where
      parameters-scoped : (ts : List Term) → AreGiven S (length s.context) ts → All (IsScoped S (length s.context)) ts
      parameters-scoped [] h = All-nil (IsScoped S (length s.context))
      parameters-scoped (t ∷ ts) h = All-cons (IsScoped S (length s.context)) t ts h.0.scoped (parameters-scoped ts h.1)

  pub made-few : (types : Telescope) → ◌≡◌ {A = Result Telescope Stop} (Ok types) (equations_made items (left_sides group) (right_sides group)) → k < 1000
  made-few types e = let made = made-is items (left_sides group) (right_sides group) types e in omega (arith, made.few, items-length-is)

  pub group-runs : (types : Telescope) (left : ℕ) → ◌≡◌ {A = Result Telescope Stop} (Ok types) (equations_made items (left_sides group) (right_sides group))
      → all_convertible S (types_as_they_stand group) types left ≡ are_equations_of S (membership_from m) group left
  group-runs types left e = ap (λ made. and_next (made, left) (λ types rest. all_convertible S (types_as_they_stand group) types rest)) e

  pub group-stops : (x : Stop) (left : ℕ) → ◌≡◌ {A = Result Telescope Stop} (Err x) (equations_made items (left_sides group) (right_sides group))
      → ◌≡◌ {A = Spent Bool} (Err x, left) (are_equations_of S (membership_from m) group left)
  group-stops x left e = ap (λ made. and_next (made, left) (λ types rest. all_convertible S (types_as_they_stand group) types rest)) e

-- ---- groups of the code

map-take : {A B : Type 0} (f : A → B) (k : ℕ) (xs : List A) → map f (take k xs) ≡ take k (map f xs)
map-take f zero xs = refl
map-take f (suc k) [] = refl
map-take f (suc k) (x ∷ xs) = ap (λ ys. f x ∷ ys) (map-take f k xs)

module _ (S : Signature) (s : code.State) (k : ℕ) (m : Membership) (ready : IsReady S) (kept : IsKept S (state_of s)) (within : k < length s.equations) (is : IsGroupOf S (length s.ctx) k m)
    (es : List CodeEquation) (at : es ≡ s.equations) (ps : List term.Term) (at_ps : ps ≡ m.params) (tele : List CodeItem)
    (at_tele : ◌≡◌ {A = Result (List Item) Stop} (Ok (items_of tele)) (bounded_items (family_items m.number (family_of m.record.now) (tele_of ps))))
    (left right : List term.Term) (at_sides : ◌≡◌ {A = Result (List Term × List Term) Stop} (Ok (teles_of (left, right))) (Ok (sides_of (equations_of (take (k + 1) es))))) where
  same-within : k < length (state_of s).equations
  same-within = let e = length-map s.equations equation_of in omega arith

  same-group : IsGroupOf S (length (state_of s).context) k m
  same-group = subst (λ n. IsGroupOf S n k m) (sym (length-map s.ctx tree_of)) is

  abbrev first : List Equation
  first = take (k + 1) (equations_of s.equations)

  pub first-is : equations_of (take (k + 1) es) ≡ first
  first-is = map-take equation_of (k + 1) es ∙ ap (λ es. take (k + 1) (equations_of es)) at

  abbrev X : List Item
  X = family_items m.number (family_of m.record.now) (tele_of m.params)

  tele-is : items_of tele ≡ X
  tele-is = bounded-items X (items_of tele) (at_tele ∙ ap (λ ps. bounded_items (family_items m.number (family_of m.record.now) (tele_of ps))) at_ps)

  left-is : tele_of left ≡ left_sides first
  left-is = ap (λ (r : List Term × List Term). r.0) (ok_is at_sides) ∙ ap left_sides first-is

  right-is : tele_of right ≡ right_sides first
  right-is = ap (λ (r : List Term × List Term). r.1) (ok_is at_sides) ∙ ap right_sides first-is

  pub code-left_length : length left ≡ length tele
  code-left_length =
      sym (length-map left tree_of) ∙ (ap length left-is ∙ (left-length S (state_of s) k m ready kept same-within same-group ∙ (ap length (sym tele-is) ∙ length-map tele item_of)))

  pub code-right_length : length right ≡ length tele
  code-right_length =
      sym (length-map right tree_of) ∙ (ap length right-is ∙ (right-length S (state_of s) k m ready kept same-within same-group ∙ (ap length (sym tele-is) ∙ length-map tele item_of)))

  pub code-few_items : HasFewVariables (items_of tele)
  code-few_items = subst HasFewVariables (sym tele-is) (items-few S (state_of s) k m ready kept same-within same-group)

  pub code-few_left : HaveFewVariables (tele_of left)
  code-few_left = subst HaveFewVariables (sym left-is) (left-few S (state_of s) k m ready kept same-within same-group)

  pub code-few_right : HaveFewVariables (tele_of right)
  code-few_right = subst HaveFewVariables (sym right-is) (right-few S (state_of s) k m ready kept same-within same-group)

  pub code-types_given : AreGiven S most_levels (types_as_they_stand (equations_of (take (k + 1) es)))
  code-types_given = subst (λ es. AreGiven S most_levels (types_as_they_stand es)) (sym first-is) (group-given S (state_of s) k m ready kept same-within same-group)

  made-same : equations_made (items_of tele) (tele_of left) (tele_of right) ≡ equations_made X (left_sides first) (right_sides first)
  made-same = ap (λ X. equations_made X (tele_of left) (tele_of right)) tele-is ∙ ap₂ (equations_made X) left-is right-is

  pub code-stops : (x : Stop) (units : ℕ) → ◌≡◌ {A = Result Telescope Stop} (Err x) (equations_made (items_of tele) (tele_of left) (tele_of right))
      → ◌≡◌ {A = Spent Bool} (Err x, units) (are_equations_of S (membership_from m) first units)
  code-stops x units e = group-stops S (state_of s) k m ready kept same-within same-group x units (e ∙ made-same)

  module _ (types slice : List term.Term) (at_types : ◌≡◌ {A = Result Telescope Stop} (Ok (tele_of types)) (equations_made (items_of tele) (tele_of left) (tele_of right))) (at_slice : slice ≡ types) where
    slice-made : ◌≡◌ {A = Result Telescope Stop} (Ok (tele_of slice)) (equations_made X (left_sides first) (right_sides first))
    slice-made = ap (λ ts. Ok (tele_of ts)) at_slice ∙ (at_types ∙ made-same)

    pub code-others_given : AreGiven S most_levels (tele_of slice)
    code-others_given = others-given S (state_of s) k m ready kept same-within same-group (tele_of slice) slice-made

    pub code-few : k < 1000
    code-few = made-few S (state_of s) k m ready kept same-within same-group (tele_of slice) slice-made

    pub code-runs : (units : ℕ) → all_convertible S (types_as_they_stand (equations_of (take (k + 1) es))) (tele_of slice) units ≡ are_equations_of S (membership_from m) first units
    code-runs units =
        ap (λ es. all_convertible S (types_as_they_stand es) (tele_of slice) units) first-is ∙ group-runs S (state_of s) k m ready kept same-within same-group (tele_of slice) units slice-made

pub code-parameters : (S : Signature) (s : code.State) (k : ℕ) (m : Membership) → IsReady S → IsKept S (state_of s) → k < length s.equations → IsGroupOf S (length s.ctx) k m → (ps : List term.Term) → ps ≡ m.params
    → AreOver most_depth (tele_of ps)
code-parameters S s k m ready kept within is ps at =
    let w : k < length (state_of s).equations = let e = length-map s.equations equation_of in omega arith in
    subst (λ ps. AreOver most_depth (tele_of ps)) (sym at)
    (parameters-over S (state_of s) k m ready kept w (subst (λ n. IsGroupOf S n k m) (sym (length-map s.ctx tree_of)) is))

pub if-ok : {A : Type 0} {P : Type 0} (result : Result A Stop) → P → IfOk result (λ a. P)
if-ok (Ok a) p = p
if-ok (Err e) p = tt
