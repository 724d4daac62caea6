-- `D!rec.m` and `D!all.m` compute at constructors.
use Rattle.std.proofs.Common.{◌≡◌, ℕ, zero, suc, ◌+◌, List, [], ◌∷◌, ◌++◌, map, length, slice_get, Some, option_map, All, refl, ap, ap₂, sym, ◌∙◌, subst, subst₂, append_assoc, append-nil, arith}
use Rattle.std.proofs.lemmas.List.{length-append, length-map, map-append}
use Rattle.std.proofs.lemmas.List.Elements.{All-head, All-tail}
use Rattle.std.proofs.lemmas.Option.{slice_get-map, none-some}
use Rattle.theory.specs.Terms.{Term, lift}
use Rattle.theory.specs.Terms.Term.{Lam, App, Const, Con, Elim}
use Rattle.theory.specs.Substitutions.{inst, fill}
use Rattle.theory.specs.Telescopes.{applied}
use Rattle.theory.specs.Families.{Argument, Constructor, Family}
use Rattle.theory.specs.Eliminators.{hypotheses, no_variable}
use Rattle.theory.specs.Signatures.{Signature}
use Rattle.theory.specs.Conversion.{IsIotaRedex, Converts}
use Rattle.theory.specs.Conversion.Contracts.{iota}
use Rattle.theory.specs.Conversion.Step.{here}
use Rattle.theory.specs.Conversion.Converts.{same, forwards}
use Rattle.theory.proofs.Instances.{inst-same}
use Rattle.theory.proofs.Instantiation.{inst-applied}
use Rattle.theory.proofs.Congruence.{converts-trans, converts-sym, converts-app}
use Rattle.theory.proofs.Lists.{some_is}
use Rattle.theory.proofs.Spines.{applied-append}
use Rattle.core_terms.specs.Levels.{variable, place, run}
use Rattle.core_terms.specs.declared.levels.Binder.TheVariants.{Function}
use Rattle.core_sig.specs.FamilyShapes.{argument_shapes, constructor_shape, family_shape}
use Rattle.core_sig.specs.Shapes.{ArgumentShape, ConstructorShape, types_of, by_kind, recursive_count}
use Rattle.core_sig.specs.declared.family.ArgKind.{ArgKind}
use Rattle.core_sig.specs.declared.family.ArgKind.TheVariants.{Plain, Recursive}
use Rattle.case_below_gen.specs.declared.components.Course.{Course}
use Rattle.case_below_gen.specs.declared.components.Ending.TheVariants.{Folded}
use Rattle.case_below_gen.specs.declared.sides.Side.TheVariants.{First, Second}
use Rattle.case_below_gen.specs.Components.{pair_with, below_at, component, components_over, tuple}
use Rattle.case_below_gen.specs.CaseEntries.{scrutinee_over}
use Rattle.case_below_gen.specs.CourseEntries.{course_of, applied_to_methods, eliminator_at, at_constructor, aux_pair, aux_method, aux_goal}
use Rattle.case_below_gen.specs.CourseLaws.{IsRegularTarget, IsRegularConstructor, HasCourse, HasTargets, IsAtConstructor, recursive_pairs, tuple_at, targets_at, RecComputes, AllComputes}
use Rattle.case_below_gen.proofs.DeeperMethods.{pair-same, recursor_at, tuple-moved}
use Rattle.case_below_gen.proofs.Filling.{fill-append, variable-filled, run-filled, inst-between}
use Rattle.case_below_gen.proofs.Functions.{converts-from, Binds, beta-all, binds-over, pair-iota, first-beta, second-beta}
use Rattle.case_below_gen.proofs.Functions.Binds.{none, one}
use Rattle.case_below_gen.proofs.Hypotheses.{Agree, agree-constant, hypotheses-agree, inst-converts, length-hypotheses}
use Rattle.case_below_gen.proofs.Placements.{run_count, places-filled}
use Rattle.case_below_gen.proofs.StepForms.{entry-form}
use Rattle.case_below_gen.proofs.Unfolding.{recursor, aux-unfolds}

-- ---- methods

abbrev pub methods_of : (σ : ℕ → Term) (method : ℕ → ConstructorShape → Term) (number : ℕ) → List ConstructorShape → List Term
methods_of σ method number [] = []
methods_of σ method number (c ∷ cs) = inst σ (method number c) ∷ methods_of σ method (number + 1) cs

pub methods-spine : (σ : ℕ → Term) (method : ℕ → ConstructorShape → Term) (number : ℕ) (h : Term) (cs : List ConstructorShape) → inst σ (applied_to_methods method number h cs) ≡ applied (inst σ h) (methods_of σ method number cs)
methods-spine σ method number h [] = refl
methods-spine σ method number h (c ∷ cs) = methods-spine σ method (number + 1) (App h (method number c)) cs

pub length-methods : (σ : ℕ → Term) (method : ℕ → ConstructorShape → Term) (number : ℕ) (cs : List ConstructorShape) → length (methods_of σ method number cs) ≡ length cs
length-methods σ method number [] = refl
length-methods σ method number (c ∷ cs) = ap suc (length-methods σ method (number + 1) cs)

pub method-at : (σ : ℕ → Term) (method : ℕ → ConstructorShape → Term) (number i : ℕ) (cs : List ConstructorShape) (c : ConstructorShape) → slice_get cs i ≡ Some c → slice_get (methods_of σ method number cs) i ≡ Some (inst σ (method (number + i) c))
method-at σ method number i [] c at = absurd (none-some c at)
method-at σ method number zero (d ∷ cs) c at =
    let here : number ≡ number + 0 = omega arith in ap₂ (λ k x. Some (inst σ (method k x))) here (some_is at)
method-at σ method number (suc i) (d ∷ cs) c at =
    let here : number + 1 + i ≡ number + suc i = omega arith in method-at σ method (number + 1) i cs c at ∙ ap (λ k. Some (inst σ (method k c))) here

binds-components : (q : Course) (first at depth : ℕ) (arguments : List ArgumentShape) (t : Term) → Binds (recursive_count arguments) (components_over Folded q first at depth arguments t) t
binds-components q first at depth [] t = none
binds-components q first at depth (a ∷ arguments) t =
    go a.kind (binds-components q first (at + 1) depth arguments t) (binds-components q first (at + 1) (depth + 1) arguments t)
  where
    go : (kind : ArgKind) → Binds (recursive_count arguments) (components_over Folded q first (at + 1) depth arguments t) t → Binds (recursive_count arguments) (components_over Folded q first (at + 1) (depth + 1) arguments t) t
        → Binds (by_kind kind (recursive_count arguments) (λ count. recursive_count arguments + 1)) (by_kind kind (components_over Folded q first (at + 1) depth arguments t) (λ count. Lam (component Folded q first at depth 0 count a.type) (components_over Folded q first (at + 1) (depth + 1) arguments t))) t
    go Plain front back = front
    go (Recursive count) front back = subst (λ j. Binds j (Lam (component Folded q first at depth 0 count a.type) (components_over Folded q first (at + 1) (depth + 1) arguments t)) t) (omega arith) (one (component Folded q first at depth 0 count a.type) back)

-- a method at the arguments and hypotheses
method-unfolds : (S : Signature) (σ : ℕ → Term) (n : ℕ) (q : Course) (depth number : ℕ) (c : ConstructorShape) (us hs : List Term) → length us ≡ length c.arguments → length hs ≡ recursive_count c.arguments
    → Converts S (applied (inst σ (aux_method n q depth number c)) (us ++ hs)) (inst (fill σ (us ++ hs)) (aux_pair n q number depth (depth + length c.arguments + recursive_count c.arguments) (depth + length c.arguments) c))
method-unfolds S σ n q depth number c us hs arguments hypotheses_all =
    beta-all
    (binds-over ((0, q.params) ∷ (depth, length c.arguments) ∷ []) q.params depth (types_of c.arguments) (recursive_count c.arguments) (length (types_of c.arguments) + recursive_count c.arguments) _ _ refl
    (binds-components q depth 0 (depth + length c.arguments) c.arguments (aux_pair n q number depth (depth + length c.arguments + recursive_count c.arguments) (depth + length c.arguments) c))) σ (us ++ hs)
    (let all = length-append us hs in let types = length-map c.arguments (λ a. a.type) in omega arith)

-- a property of all elements is one of each
pub all-slice_get : {X : Type 0} (Q : X → Type 0) (xs : List X) (i : ℕ) (x : X) → All Q xs → slice_get xs i ≡ Some x → Q x
all-slice_get Q [] i x all at = absurd (none-some x at)
all-slice_get Q (y ∷ xs) zero x all at = subst Q (some_is at) (All-head Q y xs all)
all-slice_get Q (y ∷ xs) (suc i) x all at = all-slice_get Q xs i x (All-tail Q y xs all) at

pub length-shapes : (n : ℕ) (f : Family) (at : ℕ) (arguments : List Argument) → length (argument_shapes n f at arguments) ≡ length arguments
length-shapes n f at [] = refl
length-shapes n f at (a ∷ arguments) = ap suc (length-shapes n f (at + 1) arguments)

-- ---- D!aux.m at a constructor

module _ (S : Signature) (n : ℕ) (f : Family) (m below aux : ℕ) (has : HasCourse S n f m below aux) (number : ℕ) (c : Constructor) (ps : List Term) (P s : Term) (is qs us : List Term) (at : IsAtConstructor f number c ps is qs us) where
  abbrev q : Course
  q = course_of (family_shape n f) m below

  abbrev shape : ConstructorShape
  shape = constructor_shape n f c

  abbrev a : ℕ
  a = length shape.arguments

  abbrev r : ℕ
  r = recursive_count shape.arguments

  abbrev d : ℕ
  d = q.params + 2

  abbrev scope : List Term
  scope = ps ++ P ∷ s ∷ []

  abbrev R : Term
  R = recursor n (family_shape n f) q ps P s

  abbrev A : Term
  A = applied (Const aux) (ps ++ P ∷ s ∷ [])

  index_count : length (family_shape n f).indices ≡ length f.indices
  index_count = length-map f.indices _

  agree : Agree S (length f.indices) A R
  agree =
      agree-constant S (length f.indices) aux (length f.parameters) (recursor_at n (family_shape n f) q d)
      (λ ps P s js y params indices. aux-unfolds S n (family_shape n f) m below aux ps P s js y has.bodies has.regular has.recursion params (indices ∙ sym index_count))
      ps P s at.parameters

  -- the hypotheses of the eliminator, and those of `D!aux.m`
  abbrev hs : List Term
  hs = hypotheses (fill no_variable ps) R c.arguments us

  abbrev pairs : List Term
  pairs = recursive_pairs aux ps P s c.arguments us

  abbrev motive : Term
  motive = inst (fill no_variable scope) (scrutinee_over Function n (family_shape n f) d (aux_goal q (d + q.indices + 1) d))

  abbrev methods : List Term
  methods = methods_of (fill no_variable scope) (aux_method n q d) 0 (family_shape n f).constructors

  parameters_there : map (inst (fill no_variable scope)) (run d 0 q.params) ≡ ps
  parameters_there = run-filled no_variable scope [] ps (P ∷ s ∷ []) d 0 q.params refl deep refl (sym at.parameters)
    where
      deep : d ≡ length scope
      deep = let all = length-append ps (P ∷ s ∷ []) in let params = at.parameters in omega arith

  recursor-spine : R ≡ applied (Elim n m) (ps ++ motive ∷ methods)
  recursor-spine =
      methods-spine (fill no_variable scope) (aux_method n q d) 0 (App (eliminator_at n m q.params d) (scrutinee_over Function n (family_shape n f) d (aux_goal q (d + q.indices + 1) d))) (family_shape n f).constructors
      ∙ (ap (λ h. applied (App h motive) methods) (inst-applied (fill no_variable scope) (Elim n m) (run d 0 q.params) ∙ ap (applied (Elim n m)) parameters_there)
      ∙ sym (applied-append (Elim n m) ps (motive ∷ methods)))

  shape_there : slice_get (family_shape n f).constructors number ≡ Some shape
  shape_there = slice_get-map (constructor_shape n f) f.constructors number ∙ ap (option_map (constructor_shape n f)) at.constructor

  method_there : slice_get methods number ≡ Some (inst (fill no_variable scope) (aux_method n q d number shape))
  method_there = method-at (fill no_variable scope) (aux_method n q d) 0 number (family_shape n f).constructors shape shape_there ∙ ap (λ k. Some (inst (fill no_variable scope) (aux_method n q d k shape))) (omega arith)

  redex : IsIotaRedex f c ps methods is qs us
  redex = record {
    parameters = at.parameters;
    methods = length-methods (fill no_variable scope) (aux_method n q d) 0 (family_shape n f).constructors ∙ length-map f.constructors (constructor_shape n f);
    indices = at.indices;
    constructor_parameters = at.constructor_parameters;
    arguments = at.arguments;
  }

  recursor-computes : Converts S (App (applied R is) (applied (Con n number) (qs ++ us))) (applied (inst (fill no_variable scope) (aux_method n q d number shape)) (us ++ hs))
  recursor-computes =
      converts-trans (converts-from (ap (λ h. App h (applied (Con n number) (qs ++ us))) (ap (λ h. applied h is) recursor-spine ∙ (sym (applied-append (Elim n m) (ps ++ motive ∷ methods) is) ∙ ap (applied (Elim n m)) (append_assoc ps (motive ∷ methods) is)))))
      (forwards (here (iota n m number f c ps motive methods is qs us has.family at.constructor redex method_there))
      (converts-from (ap (λ h. applied (inst (fill no_variable scope) (aux_method n q d number shape)) (us ++ hypotheses (fill no_variable ps) h c.arguments us)) (sym recursor-spine))))

  hypotheses_counted : (T : Term) → length (hypotheses (fill no_variable ps) T c.arguments us) ≡ r
  hypotheses_counted T = length-hypotheses n f 0 (fill no_variable ps) T c.arguments us at.arguments

  shapes_counted : length us ≡ a
  shapes_counted = at.arguments ∙ sym (length-shapes n f 0 c.arguments)

  -- the pair with a list of hypotheses
  abbrev pair_with_hypotheses : List Term → Term
  pair_with_hypotheses gs = inst (fill no_variable (ps ++ P ∷ s ∷ (us ++ gs))) (aux_pair n q number d (d + a + r) (d + a) shape)

  aux-computes : Converts S (App (applied (Const aux) (ps ++ P ∷ s ∷ is)) (applied (Con n number) (qs ++ us))) (pair_with_hypotheses pairs)
  aux-computes =
      converts-trans (aux-unfolds S n (family_shape n f) m below aux ps P s is (applied (Con n number) (qs ++ us)) has.bodies has.regular has.recursion at.parameters (at.indices ∙ sym index_count))
      (converts-trans recursor-computes
      (converts-trans (method-unfolds S (fill no_variable scope) n q d number shape us hs shapes_counted (hypotheses_counted R))
      (converts-trans (converts-from (inst-same (aux_pair n q number d (d + a + r) (d + a) shape) (λ v. sym (fill-append no_variable scope (us ++ hs) v)) ∙ ap (λ args. inst (fill no_variable args) (aux_pair n q number d (d + a + r) (d + a) shape)) (append_assoc ps (P ∷ s ∷ []) (us ++ hs))))
      (converts-sym (subst₂ (λ xs ys. Converts S (inst (fill no_variable xs) (aux_pair n q number d (d + a + r) (d + a) shape)) (inst (fill no_variable ys) (aux_pair n q number d (d + a + r) (d + a) shape)))
      (append_assoc ps (P ∷ s ∷ us) pairs) (append_assoc ps (P ∷ s ∷ us) hs)
      (inst-converts S no_variable (ps ++ P ∷ s ∷ us) pairs hs (aux_pair n q number d (d + a + r) (d + a) shape) has.bodies
      (hypotheses-agree S (length f.indices) (fill no_variable ps) A R c.arguments us agree (All-at number c at.constructor))))))))
    where
      All-at : (i : ℕ) (c : Constructor) → slice_get f.constructors i ≡ Some c → All (HasTargets (length f.indices)) c.arguments
      All-at i c there = all-slice_get (λ c. All (HasTargets (length f.indices)) c.arguments) f.constructors i c has.targets there

  -- ---- its two sides

  abbrev all_terms : List Term
  all_terms = ps ++ P ∷ s ∷ (us ++ pairs)

  deep : d + a + r ≡ length all_terms
  deep =
      let all = length-append ps (P ∷ s ∷ (us ++ pairs)) in
      let inner = length-append us pairs in
      let params = at.parameters in
      let counted = hypotheses_counted A in
      let shapes = shapes_counted in
      omega arith

  regular_constructor : IsRegularConstructor q.params shape
  regular_constructor = all-slice_get (IsRegularConstructor q.params) (family_shape n f).constructors number shape has.regular.constructors shape_there

  tuple_there : inst (fill no_variable all_terms) (tuple q d 0 (d + a + r) (d + a) shape.arguments) ≡ tuple_at n f m below aux ps P s c us
  tuple_there =
      ap (inst (fill no_variable all_terms)) (ap₂ (λ j (l : ℕ × ℕ). tuple q j 0 l.0 l.1 shape.arguments) (omega arith) (ap₂ (λ (x y : ℕ). (x, y)) (omega arith) (omega arith))
      ∙ tuple-moved (q.params + 1) 1 q (q.params + 1) (omega arith) (omega arith) (a + r) 0 (q.params + 1 + a + r) (q.params + 1 + a + r + 1) (q.params + 1 + a) shape.arguments (omega arith) (omega arith) (omega arith) (omega arith) refl (regular_constructor.arguments))
      ∙ (ap (λ args. inst (fill no_variable args) (lift (tuple q (q.params + 1) 0 (q.params + 1 + a + r) (q.params + 1 + a) shape.arguments) 1 (a + r))) (sym (append_assoc ps (P ∷ []) (s ∷ (us ++ pairs))))
      ∙ (inst-between no_variable (ps ++ P ∷ []) (s ∷ []) (us ++ pairs) 1 (a + r) (tuple q (q.params + 1) 0 (q.params + 1 + a + r) (q.params + 1 + a) shape.arguments) refl
      (let inner = length-append us pairs in let counted = hypotheses_counted A in let shapes = shapes_counted in omega arith)
      ∙ ap (λ args. inst (fill no_variable args) (tuple q (q.params + 1) 0 (q.params + 1 + a + r) (q.params + 1 + a) shape.arguments)) (append_assoc ps (P ∷ []) (us ++ pairs))))

  parameters_filled : map (inst (fill no_variable all_terms)) (run (d + a + r) 0 q.params) ≡ ps
  parameters_filled = run-filled no_variable all_terms [] ps (P ∷ s ∷ (us ++ pairs)) (d + a + r) 0 q.params refl deep refl (sym at.parameters)

  arguments_filled : map (inst (fill no_variable all_terms)) (run (d + a + r) d a) ≡ us
  arguments_filled =
      run-filled no_variable all_terms (ps ++ P ∷ s ∷ []) us pairs (d + a + r) d a (sym (append_assoc ps (P ∷ s ∷ []) (us ++ pairs))) deep
      (let all = length-append ps (P ∷ s ∷ []) in let params = at.parameters in omega arith) (sym shapes_counted)

  targets_there : map (inst (fill no_variable all_terms)) (map (place ((0, q.params) ∷ (d, a) ∷ []) (q.params + a) (d + a + r)) c.targets) ≡ targets_at c ps us
  targets_there =
      ap (λ size. map (inst σ) (map (place runs size (d + a + r)) c.targets)) sizes
      ∙ (places-filled all_terms (d + a + r) runs c.targets (omega arith, (omega arith, tt)) (subst (λ size. All (IsRegularTarget size) c.targets) sizes regular_constructor.targets)
      ∙ ap (λ vs. map (inst (fill no_variable vs)) c.targets)
      (map-append (inst σ) (run (d + a + r) 0 q.params) (run (d + a + r) d a ++ [])
      ∙ ap₂ ◌++◌ parameters_filled (ap (map (inst σ)) (append-nil (run (d + a + r) d a)) ∙ arguments_filled)))
    where
      σ : ℕ → Term
      σ = fill no_variable all_terms

      runs : List (ℕ × ℕ)
      runs = (0, q.params) ∷ (d, a) ∷ []

      sizes : q.params + a ≡ run_count runs
      sizes = omega arith

  step_there : inst (fill no_variable all_terms) (at_constructor n q.params number d (d + a + r) (variable (d + a + r) (q.params + 1)) shape) ≡ App (applied s (targets_at c ps us)) (applied (Con n number) (ps ++ us))
  step_there =
      ap₂ App
      (inst-applied σ (variable (d + a + r) (q.params + 1)) (map (place ((0, q.params) ∷ (d, a) ∷ []) (q.params + a) (d + a + r)) c.targets)
      ∙ ap₂ applied
      (variable-filled no_variable all_terms (ps ++ P ∷ []) s (us ++ pairs) (d + a + r) (q.params + 1) (sym (append_assoc ps (P ∷ []) (s ∷ (us ++ pairs)))) deep
      (let all = length-append ps (P ∷ []) in let params = at.parameters in omega arith))
      targets_there)
      (inst-applied σ (applied (Con n number) (run (d + a + r) 0 q.params)) (run (d + a + r) d a)
      ∙ ap₂ applied (inst-applied σ (Con n number) (run (d + a + r) 0 q.params) ∙ ap (applied (Con n number)) parameters_filled) arguments_filled
      ∙ sym (applied-append (Con n number) ps us))
    where
      σ : ℕ → Term
      σ = fill no_variable all_terms

  abbrev A' : Term
  A' = inst (fill no_variable all_terms) (at_constructor n q.params number d (d + a + r) (variable (d + a + r) q.params) shape)

  abbrev B' : Term
  B' = inst (fill no_variable all_terms) (at_constructor n q.params number d (d + a + r) (below_at q (d + a + r)) shape)

  pair-computes : Converts S (App (applied (Const aux) (ps ++ P ∷ s ∷ is)) (applied (Con n number) (qs ++ us)))
      (pair_with m A' B' (App (App (applied s (targets_at c ps us)) (applied (Con n number) (ps ++ us))) (tuple_at n f m below aux ps P s c us)) (tuple_at n f m below aux ps P s c us))
  pair-computes =
      converts-trans aux-computes
      (converts-from (pair-same m refl refl (ap₂ App step_there tuple_there) tuple_there))

-- ---- the laws

pub rec-computes : RecComputes
rec-computes S n f m below aux rec has body number c ps P s is qs us at =
    converts-trans
    (entry-form S First n (family_shape n f) m below aux rec ps P s is (applied (Con n number) (qs ++ us)) has.bodies body at.parameters (at.indices ∙ sym (length-map f.indices _)))
    (converts-trans (converts-app same (pair-computes S n f m below aux has number c ps P s is qs us at))
    (converts-trans (pair-iota m _ _ _ _ _ _ _ _ has.pairs) (first-beta _ _ _ _)))

pub all-computes : AllComputes
all-computes S n f m below aux all has body number c ps P s is qs us at =
    converts-trans
    (entry-form S Second n (family_shape n f) m below aux all ps P s is (applied (Con n number) (qs ++ us)) has.bodies body at.parameters (at.indices ∙ sym (length-map f.indices _)))
    (converts-trans (converts-app same (pair-computes S n f m below aux has number c ps P s is qs us at))
    (converts-trans (pair-iota m _ _ _ _ _ _ _ _ has.pairs) (second-beta _ _ _ _)))
