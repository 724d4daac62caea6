-- The term of a leaf: what its calls become has constants of one kind, where its names have numbers of that kind.
use Rattle.std.proofs.Common.{◌≡◌, ℕ, ◌+◌, ◌-◌, ◌<◌, ◌==◌, Bool, true, false, cond, Option, Some, None, List, [], ◌∷◌, ◌++◌, length, take, drop, get_or, sym, subst, arith}
use Rattle.std.proofs.lemmas.Bool.Decides.{nat_tests}
use Rattle.std.specs.Option.{option_or}
use Rattle.theory.specs.Terms.{Term, Var, Sort, Pi, Lam, App, Let, Const, Fam, Con, Elim, AxiomK}
use Rattle.theory.specs.Substitutions.{inst, fill}
use Rattle.theory.specs.Telescopes.{Telescope, applied}
use Rattle.theory.specs.Spines.{head_of}
use Rattle.theory.specs.Eliminators.{no_variable}
use Rattle.core_terms.specs.CaseTrees.{Walk}
use Rattle.case_below_gen.specs.Paths.{path_of}
use Rattle.case_below_gen.specs.PartTests.{has_part}
use Rattle.tele_eq.specs.Items.{term_at}
use Rattle.tele_eq.specs.Levels.{place_in}
use Rattle.unification.specs.Injecting.{lifted}
use Rattle.unification.proofs.Cases.{first-of_two, second-of_two}
use Rattle.tree_translation.specs.Naming.{Naming, below_name, motive_name, helper_name}
use Rattle.tree_translation.specs.Standings.{all_placed}
use Rattle.tree_translation.specs.Hidden.{visible}
use Rattle.tree_translation.specs.Mappings.{have_one_constructor, found_in, found_along, found_among, or_sort, mapping, in_old_order}
use Rattle.tree_translation.specs.Plans.{Plan, Part, own_part}
use Rattle.tree_translation.specs.Recursion.{NamedRecursion, Recursion, terms_at, parameters_at, motive_at, motive_with, with_values, recursions_in, below_type, below_with, remaining_positions}
use Rattle.tree_translation.specs.RightSides.{BelowValue, Place, descent_at, applied_path, call_by_path, call_in, belows_under, belows_behind, helper_call, constant_at, with_calls, is_helper, no_walk, values_at, belows_in, place_with, leaf_term}
use Rattle.entry_laws.proofs.OnlyConstants.{Each, each-append, each-take, each-drop, each-weaker, HasOnly, only-weaker, only-chosen, only-lift, only-inst, only-filled, only-applied, only-spine}
use Rattle.entry_laws.proofs.OnlyEquations.{only-term_at, only-each_position}
use Rattle.entry_laws.proofs.OnlyFamilies.{FamilyOnly, only-lifted}
use Rattle.entry_laws.proofs.OnlyStates.{OptionOnly, only-all_placed}
use Rattle.entry_laws.proofs.OnlyPaths.{only-path_of, only-shape}

-- ---- what a comparison with the leaf says

only-or : (Q : ℕ → Type 0) (o p : Option Term) → OptionOnly (HasOnly Q) o → OptionOnly (HasOnly Q) p → OptionOnly (HasOnly Q) (option_or o p)
only-or Q None p h k = k
only-or Q (Some t) p h k = h

option-chosen : (Q : ℕ → Type 0) (b : Bool) (o : Option Term) → OptionOnly (HasOnly Q) o → OptionOnly (HasOnly Q) (cond b o None)
option-chosen Q true o h = h
option-chosen Q false o h = tt

mutual
  only-found_in : {Q : ℕ → Type 0} (x : ℕ) (w t : Term) → HasOnly Q t → OptionOnly (HasOnly Q) (found_in x w t)
  only-found_in {Q} x (Var v) t h = option-chosen Q (v == x) (Some t) h
  only-found_in {Q} x (App g r) (App k s) (HasOnly.of_app h l) =
      option-chosen Q (have_one_constructor (App g r) (App k s)) (option_or (found_along x g k) (found_in x r s))
      (only-or Q (found_along x g k) (found_in x r s) (only-found_along x g k h) (only-found_in x r s l))
  only-found_in x _ _ h = tt

  only-found_along : {Q : ℕ → Type 0} (x : ℕ) (w t : Term) → HasOnly Q t → OptionOnly (HasOnly Q) (found_along x w t)
  only-found_along {Q} x (App g r) (App k s) (HasOnly.of_app h l) =
      only-or Q (found_along x g k) (found_in x r s) (only-found_along x g k h) (only-found_in x r s l)
  only-found_along x _ _ h = tt

only-found_among : {Q : ℕ → Type 0} (x : ℕ) (ws ts : List Term) → Each (HasOnly Q) ts → OptionOnly (HasOnly Q) (found_among x ws ts)
only-found_among {Q} x (w ∷ ws) (t ∷ ts) (Each.more h all) = only-or Q (found_in x w t) (found_among x ws ts) (only-found_in x w t h) (only-found_among x ws ts all)
only-found_among x (w ∷ ws) [] h = tt
only-found_among x [] ts h = tt

only-or_sort : (Q : ℕ → Type 0) (o : Option Term) → OptionOnly (HasOnly Q) o → HasOnly Q (or_sort o)
only-or_sort Q (Some t) h = h
only-or_sort Q None h = HasOnly.of_sort

only-mapping : {Q : ℕ → Type 0} (w : Walk) (substitution terms : List Term) → Each (HasOnly Q) substitution → Each (HasOnly Q) terms → Each (HasOnly Q) (mapping w substitution terms)
only-mapping {Q} w substitution terms hs ht =
    let count = length w.ctx in
    only-each_position (λ j. or_sort (found_among (count - (j + 1)) (w.subst ++ w.terms) (substitution ++ terms))) 0 count
    (λ j. only-or_sort Q (found_among (count - (j + 1)) (w.subst ++ w.terms) (substitution ++ terms))
    (only-found_among (count - (j + 1)) (w.subst ++ w.terms) (substitution ++ terms) (each-append substitution terms hs ht)))

only-in_old_order : {Q : ℕ → Type 0} (order : List ℕ) (substitution : List Term) → Each (HasOnly Q) substitution → Each (HasOnly Q) (in_old_order order substitution)
only-in_old_order order substitution all =
    only-each_position (λ i. term_at substitution (place_in order i)) 0 (length order) (λ i. only-term_at substitution (place_in order i) all)

-- ---- recursion

-- The names that recursion brings have numbers, and so do the constants of its family.
pub record RecursionOnly (Q : ℕ → Type 0) (number : Naming) (plan : Plan) (r : Recursion) : Type 0 where
  pub below : Q (number (below_name r.family plan.level))
  pub motive : Q (number (motive_name plan.name))
  pub family : FamilyOnly Q r.family

pub only-terms_at : {Q : ℕ → Type 0} (positions : List ℕ) (terms : List Term) → Each (HasOnly Q) terms → Each (HasOnly Q) (terms_at positions terms)
only-terms_at [] terms all = Each.none
only-terms_at (p ∷ positions) terms all = Each.more (only-term_at terms p all) (only-terms_at positions terms all)

pub only-parameters_at : {Q : ℕ → Type 0} (tele : Telescope) (r : Recursion) (terms : List Term) → Each (HasOnly Q) tele → Each (HasOnly Q) terms
    → Each (HasOnly Q) (parameters_at tele r terms)
only-parameters_at tele r terms ht all =
    each-take (length r.family.parameters) _
    (only-spine (inst (fill no_variable (take r.position terms)) (term_at tele r.position))
    (only-inst (fill no_variable (take r.position terms)) (term_at tele r.position) (only-filled (take r.position terms) (each-take r.position terms all)) (only-term_at tele r.position ht)))

pub only-motive_at : {Q : ℕ → Type 0} (number : Naming) (plan : Plan) (r : Recursion) (terms : List Term) → Q (number (motive_name plan.name)) → Each (HasOnly Q) terms
    → HasOnly Q (motive_at number plan r terms)
only-motive_at number plan r terms named all =
    only-applied (Const (number (motive_name plan.name))) (terms_at r.admission.fixed terms) (HasOnly.of_const named) (only-terms_at r.admission.fixed terms all)

pub only-below_with : {Q : ℕ → Type 0} (number : Naming) (plan : Plan) (r : Recursion) (motive : Term) (terms : List Term) → Q (number (below_name r.family plan.level))
    → HasOnly Q motive → Each (HasOnly Q) (own_part plan).tele → Each (HasOnly Q) terms → HasOnly Q (below_with number plan r motive terms)
only-below_with number plan r motive terms named h ht all =
    only-applied (Const (number (below_name r.family plan.level))) _ (HasOnly.of_const named)
    (each-append (parameters_at (own_part plan).tele r terms) _ (only-parameters_at (own_part plan).tele r terms ht all)
    (Each.more h (only-terms_at (r.admission.indices ++ r.position ∷ []) terms all)))

pub only-below_type : {Q : ℕ → Type 0} (number : Naming) (plan : Plan) (r : Recursion) (terms : List Term) → RecursionOnly Q number plan r → Each (HasOnly Q) (own_part plan).tele
    → Each (HasOnly Q) terms → HasOnly Q (below_type number plan r terms)
only-below_type number plan r terms h ht all =
    only-below_with number plan r (motive_at number plan r terms) terms h.below (only-motive_at number plan r terms h.motive all) ht all

-- ---- recursions of a tree

-- the names that one brings have numbers, and so do the constants of its family
pub record NamedOnly (Q : ℕ → Type 0) (number : Naming) (plan : Plan) (c : NamedRecursion) : Type 0 where
  pub below : Q (number (below_name c.recursion.family plan.level))
  pub motive : Q (number c.motive)
  pub family : FamilyOnly Q c.recursion.family

pub only-named : {Q : ℕ → Type 0} (number : Naming) (plan : Plan) (o : Option Recursion) → OptionOnly (RecursionOnly Q number plan) o
    → Each (NamedOnly Q number plan) (recursions_in plan o)
only-named number plan None h = Each.none
only-named number plan (Some r) h = Each.more (record { below = h.below; motive = h.motive; family = h.family }) Each.none

only-with_values : {Q : ℕ → Type 0} (places : List ℕ) (values terms : List Term) → Each (HasOnly Q) values → Each (HasOnly Q) terms
    → Each (HasOnly Q) (with_values places values terms)
only-with_values (p ∷ places) (v ∷ values) terms (Each.more h hv) ht =
    only-with_values places values (take p terms ++ v ∷ drop p terms) hv
    (each-append (take p terms) (v ∷ drop p terms) (each-take p terms ht) (Each.more h (each-drop p terms ht)))
only-with_values (p ∷ places) [] terms hv ht = ht
only-with_values [] values terms hv ht = ht

pub only-motive_with : {Q : ℕ → Type 0} (number : Naming) (c : NamedRecursion) (terms values : List Term) → Q (number c.motive) → Each (HasOnly Q) terms
    → Each (HasOnly Q) values → HasOnly Q (motive_with number c terms values)
only-motive_with number c terms values named ht hv =
    let fixed = terms_at c.recursion.admission.fixed terms in
    only-applied (Const (number c.motive)) (with_values c.places values fixed) (HasOnly.of_const named)
    (only-with_values c.places values fixed hv (only-terms_at c.recursion.admission.fixed terms ht))

-- ---- calls

-- a below value with its motive
pub record BelowOnly (Q : ℕ → Type 0) (number : Naming) (plan : Plan) (b : BelowValue) : Type 0 where
  pub below : Q (number (below_name b.recursion.family plan.level))
  pub family : FamilyOnly Q b.recursion.family
  pub motive : HasOnly Q b.motive
  pub value : HasOnly Q b.value

-- a leaf's place: its terms, and the below values
pub record PlaceOnly (Q : ℕ → Type 0) (number : Naming) (plan : Plan) (l : Place) : Type 0 where
  pub terms : Each (HasOnly Q) l.terms
  pub belows : Each (BelowOnly Q number plan) l.belows

only-belows_under : {Q : ℕ → Type 0} (number : Naming) (plan : Plan) (under : ℕ) (belows : List BelowValue) → Each (BelowOnly Q number plan) belows
    → Each (BelowOnly Q number plan) (belows_under under belows)
only-belows_under number plan under [] Each.none = Each.none
only-belows_under number plan under (b ∷ belows) (Each.more h all) =
    Each.more (record { below = h.below; family = h.family; motive = only-lift b.motive under 0 h.motive; value = only-lift b.value under 0 h.value })
    (only-belows_under number plan under belows all)

only-applied_path : {Q : ℕ → Type 0} (plan : Plan) (r : Recursion) (arguments : List Term) (path : Term) → HasOnly Q path → Each (HasOnly Q) arguments
    → HasOnly Q (applied_path plan r arguments path)
only-applied_path plan r arguments path h ha =
    only-applied path (terms_at (remaining_positions plan.arity r) arguments ++ drop plan.arity arguments) h
    (each-append (terms_at (remaining_positions plan.arity r) arguments) (drop plan.arity arguments) (only-terms_at (remaining_positions plan.arity r) arguments ha)
    (each-drop plan.arity arguments ha))

only-path_at : {Q : ℕ → Type 0} (number : Naming) (plan : Plan) (b : BelowValue) (whole part : Term) → BelowOnly Q number plan b → HasOnly Q whole → HasOnly Q part
    → HasOnly Q (path_of (descent_at number plan b part) whole b.value)
only-path_at number plan b whole part h hw hp =
    only-path_of (descent_at number plan b part) whole b.value
    (record { below = h.below; constructors = only-shape b.recursion.admission.number b.recursion.family h.family; motive = h.motive; part = hp }) hw h.value

only-call_by_path : {Q : ℕ → Type 0} (number : Naming) (plan : Plan) (terms : List Term) (first : BelowValue) (arguments : List Term) (belows : List BelowValue)
    → Each (HasOnly Q) terms → BelowOnly Q number plan first → Each (HasOnly Q) arguments → Each (BelowOnly Q number plan) belows
    → HasOnly Q (call_by_path number plan terms first arguments belows)
only-call_by_path number plan terms first arguments [] ht hf ha Each.none = only-applied_path plan first.recursion arguments first.value hf.value ha
only-call_by_path number plan terms first arguments (b ∷ belows) ht hf ha (Each.more h all) =
    let j = b.recursion.position in
    let d = descent_at number plan b (term_at arguments j) in
    only-chosen (has_part d.family d.shape d.part (term_at terms j)) (applied_path plan b.recursion arguments (path_of d (term_at terms j) b.value))
    (call_by_path number plan terms first arguments belows)
    (only-applied_path plan b.recursion arguments (path_of d (term_at terms j) b.value)
    (only-path_at number plan b (term_at terms j) (term_at arguments j) h (only-term_at terms j ht) (only-term_at arguments j ha)) ha)
    (only-call_by_path number plan terms first arguments belows ht hf ha all)

only-call_in : {Q : ℕ → Type 0} (number : Naming) (plan : Plan) (terms arguments : List Term) (belows : List BelowValue) → Each (HasOnly Q) terms
    → Each (BelowOnly Q number plan) belows → Each (HasOnly Q) arguments → HasOnly Q (call_in number plan terms arguments belows)
only-call_in number plan terms arguments [] ht Each.none ha = HasOnly.of_sort
only-call_in number plan terms arguments (b ∷ belows) ht (Each.more h all) ha =
    only-call_by_path number plan terms b arguments (b ∷ belows) ht h ha (Each.more h all)

only-belows_behind : {Q : ℕ → Type 0} (number : Naming) (plan : Plan) (under : ℕ) (belows : List BelowValue) → Each (BelowOnly Q number plan) belows
    → Each (HasOnly Q) (belows_behind under belows)
only-belows_behind number plan under [] Each.none = Each.none
only-belows_behind number plan under (b ∷ belows) (Each.more h all) = Each.more (only-lift b.value under 0 h.value) (only-belows_behind number plan under belows all)

-- the term for a constant of a right side has Q, at any arguments that have it
abbrev pub IsCalled : (ℕ → Type 0) → Naming → Plan → Place → ℕ → Type 0
IsCalled Q number plan l c = (under : ℕ) (arguments : List Term) → Each (HasOnly Q) arguments → HasOnly Q (constant_at number plan l under c arguments)

-- an entry before the function
pub called-entry : {Q : ℕ → Type 0} (number : Naming) (plan : Plan) (l : Place) (c : ℕ) → c < plan.base → Q c → IsCalled Q number plan l c
called-entry {Q} number plan l c low q under arguments all =
    subst (HasOnly Q) (sym (first-of_two c plan.base (applied (Const c) arguments) _ low)) (only-applied (Const c) arguments (HasOnly.of_const q) all)

pub second-of-same : {A : Type 0} (n k : ℕ) (x y : A) → n ≡ k → cond (n == k) x y ≡ x
second-of-same n k x y e = grind (arith, nat_tests)

pub second-of-other : {A : Type 0} (n k : ℕ) (x y : A) → k < n → cond (n == k) x y ≡ y
second-of-other n k x y lt = grind (arith, nat_tests)

-- the function itself
pub called-function : {Q : ℕ → Type 0} (number : Naming) (plan : Plan) (l : Place) (c : ℕ) → c ≡ plan.base → PlaceOnly Q number plan l → IsCalled Q number plan l c
called-function {Q} number plan l c same h under arguments all =
    subst (HasOnly Q) (sym (second-of_two c plan.base _ _ (omega arith)))
    (subst (HasOnly Q) (sym (second-of-same c plan.base (call_in number plan (lifted under l.terms) arguments (belows_under under l.belows)) _ same))
    (only-call_in number plan (lifted under l.terms) arguments (belows_under under l.belows) (only-lifted under l.terms h.terms)
    (only-belows_under number plan under l.belows h.belows) all))

-- a helper
pub called-helper : {Q : ℕ → Type 0} (number : Naming) (plan : Plan) (l : Place) (k : ℕ) → 0 < k → Q (number (helper_name plan.name k)) → PlaceOnly Q number plan l
    → IsCalled Q number plan l (plan.base + k)
called-helper {Q} number plan l k high q h under arguments all =
    let c = plan.base + k in
    let at : plan.base + k - plan.base ≡ k = omega arith in
    subst (HasOnly Q) (sym (second-of_two (plan.base + k) plan.base _ _ (omega arith)))
    (subst (HasOnly Q) (sym (second-of-other (plan.base + k) plan.base _ (helper_call number plan l under (plan.base + k - plan.base) arguments) (omega arith)))
    (only-applied (Const (number (helper_name plan.name (plan.base + k - plan.base)))) _
    (HasOnly.of_const (subst (λ n. Q (number (helper_name plan.name n))) (sym at) q))
    (each-append arguments (belows_behind under l.belows) all (only-belows_behind number plan under l.belows h.belows))))

pub only-with_calls : {Q : ℕ → Type 0} (number : Naming) (plan : Plan) (l : Place) (under : ℕ) (arguments : List Term) (t : Term) → HasOnly (IsCalled Q number plan l) t
    → Each (HasOnly Q) arguments → HasOnly Q (with_calls number plan l under arguments t)
only-with_calls number plan l under arguments (App f a) (HasOnly.of_app h k) all =
    only-with_calls number plan l under (with_calls number plan l under [] a ∷ arguments) f h
    (Each.more (only-with_calls number plan l under [] a k Each.none) all)
only-with_calls number plan l under arguments (Const c) (HasOnly.of_const q) all = q under arguments all
only-with_calls number plan l under arguments (Pi a b) (HasOnly.of_pi h k) all =
    only-applied _ arguments
    (HasOnly.of_pi (only-with_calls number plan l under [] a h Each.none) (only-with_calls number plan l (under + 1) [] b k Each.none)) all
only-with_calls number plan l under arguments (Lam a b) (HasOnly.of_lam h k) all =
    only-applied _ arguments
    (HasOnly.of_lam (only-with_calls number plan l under [] a h Each.none) (only-with_calls number plan l (under + 1) [] b k Each.none)) all
only-with_calls number plan l under arguments (Let a t b) (HasOnly.of_let h k m) all =
    only-applied _ arguments
    (HasOnly.of_let (only-with_calls number plan l under [] a h Each.none) (only-with_calls number plan l under [] t k Each.none)
    (only-with_calls number plan l (under + 1) [] b m Each.none)) all
only-with_calls number plan l under arguments (Var n) h all = only-applied (Var n) arguments HasOnly.of_var all
only-with_calls number plan l under arguments (Sort i) h all = only-applied (Sort i) arguments HasOnly.of_sort all
only-with_calls number plan l under arguments (Fam n) h all = only-applied (Fam n) arguments HasOnly.of_fam all
only-with_calls number plan l under arguments (Con n c) h all = only-applied (Con n c) arguments HasOnly.of_con all
only-with_calls number plan l under arguments (Elim n m) h all = only-applied (Elim n m) arguments HasOnly.of_elim all
only-with_calls number plan l under arguments (AxiomK i m) h all = only-applied (AxiomK i m) arguments HasOnly.of_axiom all

-- ---- leaves

only-belows_in : {Q : ℕ → Type 0} (number : Naming) (plan : Plan) (n : ℕ) (hidden : List ℕ) (terms values : List Term) (recursions : List NamedRecursion)
    → Each (NamedOnly Q number plan) recursions → Each (HasOnly Q) terms → Each (HasOnly Q) values
    → Each (BelowOnly Q number plan) (belows_in number n hidden terms values recursions)
only-belows_in number plan n (p ∷ hidden) terms values (c ∷ recursions) (Each.more h all) ht hv =
    Each.more (record { below = h.below; family = h.family; motive = only-motive_with number c terms values h.motive ht hv; value = HasOnly.of_var })
    (only-belows_in number plan n hidden terms (values ++ Var (n - (p + 1)) ∷ []) recursions all ht
    (each-append values (Var (n - (p + 1)) ∷ []) hv (Each.more HasOnly.of_var Each.none)))
only-belows_in number plan n (p ∷ hidden) terms values [] all ht hv = Each.none
only-belows_in number plan n [] terms values recursions all ht hv = Each.none

only-place_with : {Q : ℕ → Type 0} (number : Naming) (plan : Plan) (n : ℕ) (hidden : List ℕ) (recursions : List NamedRecursion) (terms : List Term)
    → Each (NamedOnly Q number plan) recursions → Each (HasOnly Q) terms → PlaceOnly Q number plan (place_with number n hidden recursions terms)
only-place_with number plan n hidden recursions terms hr all =
    record { terms = all; belows = only-belows_in number plan n hidden terms [] recursions hr all Each.none }

-- The conditions on a leaf: each constant of a side is called, at any place.
pub record LeafOnly (Q : ℕ → Type 0) (number : Naming) (plan : Plan) (rs : List NamedRecursion) (part : Part) : Type 0 where
  pub recursions : Each (NamedOnly Q number plan) rs
  pub sides : (clause : ℕ) (l : Place) → PlaceOnly Q number plan l → HasOnly (IsCalled Q number plan l) (get_or part.sides clause (Sort 0))

pub only-leaf_term : {Q R : ℕ → Type 0} (number : Naming) (plan : Plan) (recursions : List NamedRecursion) (part : Part) (order : List ℕ) (n : ℕ) (hidden : List ℕ) (clause : ℕ)
    (substitution terms binds : List Term) → LeafOnly Q number plan recursions part
    → ((c : ℕ) → R c → (c < plan.base) × Q c)
    → Each (HasOnly R) substitution → Each (HasOnly R) terms → Each (HasOnly R) binds
    → HasOnly Q (leaf_term number plan recursions part order n hidden clause substitution terms binds)
only-leaf_term {Q} {R} number plan recursions part order n hidden clause substitution terms binds h low hs ht hb =
    let levels = visible n hidden in
    let side = get_or part.sides clause (Sort 0) in
    let values = values_at plan part order clause side substitution terms binds in
    let place = place_with number n hidden recursions (all_placed levels n terms) in
    let placed_terms = only-all_placed levels n terms ht in
    let is : PlaceOnly Q number plan place =
    only-place_with number plan n hidden recursions (all_placed levels n terms) h.recursions (each-weaker (all_placed levels n terms) (λ t k. only-weaker t (λ c r. (low c r).1) k) placed_terms) in
    only-with_calls number plan place 0 [] (inst (fill no_variable (all_placed levels n values)) side)
    (only-inst (fill no_variable (all_placed levels n values)) side
    (only-filled (all_placed levels n values)
    (each-weaker (all_placed levels n values)
    (λ t k. only-weaker t (λ c r. called-entry number plan place c (low c r).0 (low c r).1) k)
    (only-all_placed levels n values (chosen (is_helper plan.base (head_of side))))))
    (h.sides clause place is))
    Each.none
  where
    chosen : (b : Bool) → Each (HasOnly R) (cond b (mapping (get_or part.walks clause no_walk) (in_old_order order substitution) terms) binds)
    chosen true = only-mapping (get_or part.walks clause no_walk) (in_old_order order substitution) terms (only-in_old_order order substitution hs) ht
    chosen false = hb
