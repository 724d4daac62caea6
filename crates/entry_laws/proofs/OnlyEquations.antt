-- Telescopic equality: what is made of terms whose constants have Q is of that kind.
use Rattle.std.proofs.Common.{ℕ, zero, suc, ◌+◌, ◌*◌, ◌-◌, ◌==◌, nat_lt, List, [], ◌∷◌, map, length}
use Rattle.theory.specs.Terms.{Term, Var, Sort, Pi, Lam, App, Let, Const, Fam, Con, Elim, AxiomK}
use Rattle.theory.specs.Signatures.{reflexivity, equation as equation_of}
use Rattle.core_terms.specs.Levels.{variable}
use Rattle.core_terms.specs.declared.levels.Binder.{Binder}
use Rattle.core_terms.specs.declared.levels.Binder.TheVariants.{Product, Function}
use Rattle.tele_eq.specs.Items.{Item, term_at, type_at, level_at, greatest_level, each_position, positions_of}
use Rattle.tele_eq.specs.Dependences.{dependences}
use Rattle.tele_eq.specs.Environments.{Environment, outside, inside, put_variable, put_under, put}
use Rattle.tele_eq.specs.TelescopicEquality.{type_with, reflexive, Lefts, equation, equations_over, applied_to_pairs, Goal, motive, telescopic_j, transport_type, identity, transported, unless_fixed, left_below, left_sides, as_bound, equation_behind, equations, reflexivities}
use Rattle.tele_eq.specs.Congruences.{images, common_level, congruence_below, congruences}
use Rattle.entry_laws.proofs.OnlyConstants.{Each, each-get, HasOnly, only-chosen, only-lift, only-bind}

-- ---- terms for variables

-- each term that an environment has
abbrev pub SuppliesOnly : (ℕ → Type 0) → Environment → Type 0
SuppliesOnly Q s = (depth position : ℕ) → HasOnly Q (s depth position)

pub only-term_at : {Q : ℕ → Type 0} (terms : List Term) (position : ℕ) → Each (HasOnly Q) terms → HasOnly Q (term_at terms position)
only-term_at terms position all = each-get terms position (Sort 0) HasOnly.of_sort all

pub only-each_position : {Q : ℕ → Type 0} (f : ℕ → Term) (j count : ℕ) → ((i : ℕ) → HasOnly Q (f i)) → Each (HasOnly Q) (each_position f j count)
only-each_position f j zero each = Each.none
only-each_position f j (suc count) each = Each.more (each j) (only-each_position f (j + 1) count each)

pub only-outside : {Q : ℕ → Type 0} (terms : List Term) → Each (HasOnly Q) terms → SuppliesOnly Q (outside terms)
only-outside terms all depth position = only-lift (term_at terms position) depth 0 (only-term_at terms position all)

pub only-inside : {Q : ℕ → Type 0} (positions : List ℕ) (level : ℕ) (s : Environment) → SuppliesOnly Q s → SuppliesOnly Q (inside positions level s)
only-inside [] level s each depth position = each depth position
only-inside (t ∷ positions) level s each depth position =
    only-chosen (position == t) (variable depth level) (inside positions (level + 2) s depth position) HasOnly.of_var
    (only-inside positions (level + 2) s each depth position)

pub only-variable : {Q : ℕ → Type 0} → SuppliesOnly Q variable
only-variable depth level = HasOnly.of_var

pub only-put_variable : {Q : ℕ → Type 0} (s : Environment) (size depth under n : ℕ) → SuppliesOnly Q s → HasOnly Q (put_variable s size depth under n)
only-put_variable s size depth under n each =
    only-chosen (nat_lt n under) (Var n) _ HasOnly.of_var
    (only-chosen (nat_lt n (size + under)) (s (depth + under) (size + under - (n + 1))) (Var (n - size + depth))
    (each (depth + under) (size + under - (n + 1))) HasOnly.of_var)

pub only-put_under : {Q : ℕ → Type 0} (s : Environment) (size depth under : ℕ) (t : Term) → SuppliesOnly Q s → HasOnly Q t → HasOnly Q (put_under s size depth under t)
only-put_under s size depth under (Pi a b) each (HasOnly.of_pi h k) =
    HasOnly.of_pi (only-put_under s size depth under a each h) (only-put_under s size depth (under + 1) b each k)
only-put_under s size depth under (Lam a b) each (HasOnly.of_lam h k) =
    HasOnly.of_lam (only-put_under s size depth under a each h) (only-put_under s size depth (under + 1) b each k)
only-put_under s size depth under (App f a) each (HasOnly.of_app h k) =
    HasOnly.of_app (only-put_under s size depth under f each h) (only-put_under s size depth under a each k)
only-put_under s size depth under (Let a t b) each (HasOnly.of_let h k l) =
    HasOnly.of_let (only-put_under s size depth under a each h) (only-put_under s size depth under t each k)
    (only-put_under s size depth (under + 1) b each l)
only-put_under s size depth under (Const c) each (HasOnly.of_const q) = HasOnly.of_const q
only-put_under s size depth under (Var n) each h = only-put_variable s size depth under n each
only-put_under s size depth under (Sort i) each h = HasOnly.of_sort
only-put_under s size depth under (Fam n) each h = HasOnly.of_fam
only-put_under s size depth under (Con n c) each h = HasOnly.of_con
only-put_under s size depth under (Elim n m) each h = HasOnly.of_elim
only-put_under s size depth under (AxiomK i m) each h = HasOnly.of_axiom

pub only-put : {Q : ℕ → Type 0} (s : Environment) (size depth : ℕ) (t : Term) → SuppliesOnly Q s → HasOnly Q t → HasOnly Q (put s size depth t)
only-put s size depth t each h = only-put_under s size depth 0 t each h

-- ---- equations

-- the types of a telescope
abbrev pub ItemsOnly : (ℕ → Type 0) → List Item → Type 0
ItemsOnly Q X = Each (HasOnly Q) (map (λ item. item.type) X)

pub only-equation_of : {Q : ℕ → Type 0} (i : ℕ) (A a b : Term) → HasOnly Q A → HasOnly Q a → HasOnly Q b → HasOnly Q (equation_of i A a b)
only-equation_of i A a b hA ha hb = HasOnly.of_app (HasOnly.of_app (HasOnly.of_app HasOnly.of_fam hA) ha) hb

pub only-reflexivity : {Q : ℕ → Type 0} (i : ℕ) (A a : Term) → HasOnly Q A → HasOnly Q a → HasOnly Q (reflexivity i A a)
only-reflexivity i A a hA ha = HasOnly.of_app (HasOnly.of_app HasOnly.of_con hA) ha

pub only-type_with : {Q : ℕ → Type 0} (X : List Item) (z : Environment) (depth j : ℕ) → ItemsOnly Q X → SuppliesOnly Q z → HasOnly Q (type_with X z depth j)
only-type_with X z depth j items hz = only-put z j depth (type_at X j) hz (only-term_at (map (λ item. item.type) X) j items)

pub only-reflexive : {Q : ℕ → Type 0} (X : List Item) (u : Environment) → ItemsOnly Q X → SuppliesOnly Q u → SuppliesOnly Q (reflexive X u)
only-reflexive X u items hu depth j =
    only-reflexivity (level_at X j) (type_with X u depth j) (u depth j) (only-type_with X u depth j items hu) (hu depth j)

-- the left sides of equations have constants of one kind, where the terms of the two environments have
abbrev pub LeftsOnly : (ℕ → Type 0) → Lefts → Type 0
LeftsOnly Q w = (z e : Environment) → SuppliesOnly Q z → SuppliesOnly Q e → SuppliesOnly Q (w z e)

pub only-equation : {Q : ℕ → Type 0} (X : List Item) (w : Lefts) (z e : Environment) → ItemsOnly Q X → LeftsOnly Q w → SuppliesOnly Q z → SuppliesOnly Q e → SuppliesOnly Q (equation X w z e)
only-equation X w z e items hw hz he depth j =
    only-equation_of (level_at X j) (type_with X z depth j) (w z e depth j) (z depth j) (only-type_with X z depth j items hz) (hw z e hz he depth j) (hz depth j)

pub only-equations_over : {Q : ℕ → Type 0} (binder : Binder) (X : List Item) (w : Lefts) (positions : List ℕ) (z e : Environment) (depth : ℕ) (end : Term)
    → ItemsOnly Q X → LeftsOnly Q w → SuppliesOnly Q z → SuppliesOnly Q e → HasOnly Q end → HasOnly Q (equations_over binder X w positions z e depth end)
only-equations_over binder X w [] z e depth end items hw hz he h = h
only-equations_over binder X w (t ∷ positions) z e depth end items hw hz he h =
    only-bind binder _ _ (only-type_with X z depth t items hz)
    (only-bind binder _ _ (only-equation X w z e items hw hz he (depth + 1) t)
    (only-equations_over binder X w positions z e (depth + 2) end items hw hz he h))

pub only-applied_to_pairs : {Q : ℕ → Type 0} (head : Term) (positions : List ℕ) (z e : Environment) (depth : ℕ)
    → HasOnly Q head → SuppliesOnly Q z → SuppliesOnly Q e → HasOnly Q (applied_to_pairs head positions z e depth)
only-applied_to_pairs head [] z e depth h hz he = h
only-applied_to_pairs head (t ∷ positions) z e depth h hz he =
    only-applied_to_pairs (App (App head (z depth t)) (e depth t)) positions z e depth (HasOnly.of_app (HasOnly.of_app h (hz depth t)) (he depth t)) hz he

-- ---- the telescopic J

abbrev pub GoalOnly : (ℕ → Type 0) → Goal → Type 0
GoalOnly Q C = (z e : Environment) → SuppliesOnly Q z → SuppliesOnly Q e → (depth : ℕ) → HasOnly Q (C z e depth)

pub only-motive : {Q : ℕ → Type 0} (X : List Item) (u : Environment) (w : Lefts) (C : Goal) (s : ℕ) (positions : List ℕ) (depth : ℕ)
    → ItemsOnly Q X → SuppliesOnly Q u → LeftsOnly Q w → GoalOnly Q C → HasOnly Q (motive X u w C s positions depth)
only-motive {Q} X u w C s positions depth items hu hw hc =
    HasOnly.of_lam (only-type_with X u depth s items hu)
    (HasOnly.of_lam
    (only-equation_of (level_at X s) (type_with X u (depth + 1) s) (u (depth + 1) s) (variable (depth + 1) depth) (only-type_with X u (depth + 1) s items hu) (hu (depth + 1) s) HasOnly.of_var)
    (only-equations_over Product X w positions z e (depth + 2) (C z e (depth + 2 + 2 * length positions)) items hw hz he (hc z e hz he (depth + 2 + 2 * length positions))))
  where
    z : Environment
    z = inside (s ∷ positions) depth u

    e : Environment
    e = inside (s ∷ positions) (depth + 1) (reflexive X u)

    hz : SuppliesOnly Q (inside (s ∷ positions) depth u)
    hz = only-inside (s ∷ positions) depth u hu

    he : SuppliesOnly Q (inside (s ∷ positions) (depth + 1) (reflexive X u))
    he = only-inside (s ∷ positions) (depth + 1) (reflexive X u) (only-reflexive X u items hu)

pub only-telescopic_j : {Q : ℕ → Type 0} (X : List Item) (u : Environment) (w : Lefts) (m : ℕ) (C : Goal) (base : ℕ → Term) (positions : List ℕ) (z e : Environment) (depth : ℕ)
    → ItemsOnly Q X → SuppliesOnly Q u → LeftsOnly Q w → GoalOnly Q C → ((d : ℕ) → HasOnly Q (base d)) → SuppliesOnly Q z → SuppliesOnly Q e
    → HasOnly Q (telescopic_j X u w m C base positions z e depth)
only-telescopic_j X u w m C base [] z e depth items hu hw hc hb hz he = hb depth
only-telescopic_j X u w m C base (s ∷ positions) z e depth items hu hw hc hb hz he =
    let hz' = only-inside positions depth u hu in
    let he' = only-inside positions (depth + 1) (reflexive X u) (only-reflexive X u items hu) in
    only-applied_to_pairs _ (s ∷ positions) z e depth
    (HasOnly.of_app
    (HasOnly.of_app
    (HasOnly.of_app (HasOnly.of_app HasOnly.of_elim (only-type_with X u depth s items hu)) (hu depth s))
    (only-motive X u w C s positions depth items hu hw hc))
    (only-equations_over Function X w positions _ _ depth _ items hw hz' he'
    (only-telescopic_j X u w m C base positions _ _ (depth + 2 * length positions) items hu hw hc hb hz' he')))
    hz he

pub only-transport_type : {Q : ℕ → Type 0} (X : List Item) (u : Environment) (j : ℕ) → ItemsOnly Q X → SuppliesOnly Q u → GoalOnly Q (transport_type X u j)
only-transport_type X u j items hu z e hz he depth =
    HasOnly.of_pi (only-type_with X u depth j items hu) (only-type_with X z (depth + 1) j items hz)

pub only-transported : {Q : ℕ → Type 0} (X : List Item) (u : Environment) (w : Lefts) (positions : List ℕ) (j : ℕ) → ItemsOnly Q X → SuppliesOnly Q u → LeftsOnly Q w
    → (z e : Environment) → SuppliesOnly Q z → SuppliesOnly Q e → (depth : ℕ) → HasOnly Q (transported X u w positions j z e depth)
only-transported X u w positions j items hu hw z e hz he depth =
    HasOnly.of_app
    (only-telescopic_j X u w (greatest_level X (level_at X j) positions) (transport_type X u j) (identity X u j) positions z e depth items hu hw
    (only-transport_type X u j items hu) (λ d. HasOnly.of_lam (only-type_with X u d j items hu) HasOnly.of_var) hz he)
    (hu depth j)

pub only-unless_fixed : {Q : ℕ → Type 0} (X : List Item) (u : Environment) (w : Lefts) (positions : List ℕ) (j : ℕ) → ItemsOnly Q X → SuppliesOnly Q u → LeftsOnly Q w
    → (z e : Environment) → SuppliesOnly Q z → SuppliesOnly Q e → (depth : ℕ) → HasOnly Q (unless_fixed X u w positions j z e depth)
only-unless_fixed X u w [] j items hu hw z e hz he depth = hu depth j
only-unless_fixed X u w (s ∷ positions) j items hu hw z e hz he depth = only-transported X u w (s ∷ positions) j items hu hw z e hz he depth

pub only-left_below : {Q : ℕ → Type 0} (n : ℕ) (X : List Item) (u : Environment) → ItemsOnly Q X → SuppliesOnly Q u → LeftsOnly Q (left_below n X u)
only-left_below zero X u items hu z e hz he depth j = hu depth j
only-left_below (suc n) X u items hu z e hz he depth j =
    only-unless_fixed X u (left_below n X u) (dependences X j) j items hu (only-left_below n X u items hu) z e hz he depth

-- eqs(X; u; v)
pub only-equations : {Q : ℕ → Type 0} (X : List Item) (left right : List Term) → ItemsOnly Q X → Each (HasOnly Q) left → Each (HasOnly Q) right → Each (HasOnly Q) (equations X left right)
only-equations X left right items hl hr =
    only-each_position (equation_behind (length X) X left right) 0 (length X)
    (λ j. only-equation X (left_below (length X) X (outside left)) (outside right) as_bound items
    (only-left_below (length X) X (outside left) items (only-outside left hl)) (only-outside right hr) (λ depth i. HasOnly.of_var) j j)

-- refls(X; u)
pub only-reflexivities : {Q : ℕ → Type 0} (X : List Item) (terms : List Term) → ItemsOnly Q X → Each (HasOnly Q) terms → Each (HasOnly Q) (reflexivities X terms)
only-reflexivities X terms items all =
    only-each_position (reflexive X (outside terms) 0) 0 (length X) (λ j. only-reflexive X (outside terms) items (only-outside terms all) 0 j)

-- ---- congruences

pub only-images : {Q : ℕ → Type 0} (X : List Item) (f : List Term) (s : Environment) → Each (HasOnly Q) f → SuppliesOnly Q s → SuppliesOnly Q (images X f s)
only-images X f s hf hs depth j = only-put s (length X) depth (term_at f j) hs (only-term_at f j hf)

pub only-congruence_below : {Q : ℕ → Type 0} (n : ℕ) (X Y : List Item) (f : List Term) (u z e : Environment) → ItemsOnly Q X → ItemsOnly Q Y → Each (HasOnly Q) f
    → SuppliesOnly Q u → SuppliesOnly Q z → SuppliesOnly Q e → SuppliesOnly Q (congruence_below n X Y f u z e)
only-congruence_below zero X Y f u z e hX hY hf hu hz he depth j = only-reflexive Y (images X f u) hY (only-images X f u hf hu) depth j
only-congruence_below (suc n) X Y f u z e hX hY hf hu hz he depth j =
    only-telescopic_j X u (left_sides X u) (common_level X Y) _ _ (positions_of X) z e depth hX hu (only-left_below (length X) X u hX hu)
    (λ z' e' hz' he' d.
    only-equation Y (left_sides Y (images X f u)) (images X f z') (congruence_below n X Y f u z' e') hY
    (only-left_below (length Y) Y (images X f u) hY (only-images X f u hf hu)) (only-images X f z' hf hz')
    (only-congruence_below n X Y f u z' e' hX hY hf hu hz' he') d j)
    (λ d. only-reflexive Y (images X f u) hY (only-images X f u hf hu) d j)
    hz he

-- congs(X, Y; f; es)
pub only-congruences : {Q : ℕ → Type 0} (X Y : List Item) (f left right eqs : List Term) → ItemsOnly Q X → ItemsOnly Q Y → Each (HasOnly Q) f → Each (HasOnly Q) left
    → Each (HasOnly Q) right → Each (HasOnly Q) eqs → Each (HasOnly Q) (congruences X Y f left right eqs)
only-congruences X Y f left right eqs hX hY hf hl hr he =
    only-each_position (congruence_below (length Y) X Y f (outside left) (outside right) (outside eqs) 0) 0 (length Y)
    (λ j. only-congruence_below (length Y) X Y f (outside left) (outside right) (outside eqs) hX hY hf (only-outside left hl) (only-outside right hr) (only-outside eqs he) 0 j)
