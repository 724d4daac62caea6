-- `D!direct` computes at constructors.
use Rattle.std.proofs.Common.{◌≡◌, ℕ, suc, ◌+◌, ◌==◌, false, cond, List, [], ◌∷◌, ◌++◌, map, length, slice_get, Some, option_map, All, refl, ap, ap₂, sym, ◌∙◌, subst, append_assoc, append-nil, arith}
use Rattle.std.proofs.lemmas.Bool.Decides.{nat_tests}
use Rattle.std.proofs.lemmas.List.{length-append, length-map}
use Rattle.std.proofs.lemmas.List.Elements.{All-head, All-tail}
use Rattle.std.proofs.lemmas.Option.{slice_get-map}
use Rattle.theory.specs.Terms.{Term}
use Rattle.theory.specs.Terms.Term.{Var, Sort, Pi, Lam, App, Const, Con, Elim}
use Rattle.theory.specs.Substitutions.{inst, extend, fill}
use Rattle.theory.specs.Telescopes.{applied}
use Rattle.theory.specs.Families.{Argument, Plain, Recursive, Constructor, Family}
use Rattle.theory.specs.Eliminators.{hypotheses, no_variable}
use Rattle.theory.specs.Eliminators as pure
use Rattle.theory.specs.Signatures.{Signature}
use Rattle.theory.specs.Conversion.{IsIotaRedex, Converts}
use Rattle.theory.specs.Conversion.Contracts.{iota}
use Rattle.theory.specs.Conversion.Step.{here}
use Rattle.theory.specs.Conversion.Converts.{same, forwards}
use Rattle.theory.proofs.Instances.{inst-same}
use Rattle.theory.proofs.Instantiation.{inst-applied}
use Rattle.theory.proofs.Congruence.{converts-trans, converts-sym, converts-app}
use Rattle.theory.proofs.Spines.{applied-append}
use Rattle.core_terms.specs.Levels.{variable, run}
use Rattle.core_sig.specs.FamilyShapes.{argument_shapes, constructor_shape, family_shape}
use Rattle.core_sig.specs.Shapes.{ArgumentShape, ConstructorShape, types_of, by_kind, recursive_count}
use Rattle.core_sig.specs.declared.family.ArgKind.{ArgKind}
use Rattle.core_sig.specs.declared.family.ArgKind.TheVariants.{Plain as PlainKind, Recursive as RecursiveKind}
use Rattle.case_below_gen.specs.Components.{pair_of}
use Rattle.case_below_gen.specs.CourseLaws.{IsRegularConstructor, IsAtConstructor}
use Rattle.case_below_gen.proofs.Computing.{all-slice_get, length-methods, length-shapes, method-at, methods-spine, methods_of}
use Rattle.case_below_gen.proofs.Filling.{fill-append, variable-filled, run-filled}
use Rattle.case_below_gen.proofs.Functions.{converts-from, Binds, beta-all, binds-functions, binds-over, constant-unfolds}
use Rattle.case_below_gen.proofs.Functions.Binds.{none, one}
use Rattle.case_below_gen.proofs.Hypotheses.{length-hypotheses}
use Rattle.generators.specs.acyclic_gen.Claims.{eliminator, hypothesis, hypotheses_over, claim_at}
use Rattle.generators.specs.acyclic_gen.DirectComputing.{HasDirect, parts_of, DirectComputes}
use Rattle.generators.specs.acyclic_gen.DirectEntries.{carrier_of, parts_type, direct_method, direct_term}
use Rattle.generators.specs.acyclic_gen.DirectLaws.{HasNoTargets}
use Rattle.generators.specs.acyclic_gen.Statements.{carrier_at, at_level, directs}
use Rattle.generators.specs.declared.acyclic_gen.carrier.Carrier.{Carrier}
use Rattle.generators.specs.declared.acyclic_gen.claims.Claim.TheVariants.{Direct as Parts}
use Rattle.generators.proofs.acyclic_gen.OtherLevels.{direct_recursor, recursor-alike}

binds-hypotheses : (q : Carrier) (first at depth : ℕ) (arguments : List ArgumentShape) (t : Term) → Binds (recursive_count arguments) (hypotheses_over Parts q first at depth arguments t) t
binds-hypotheses q first at depth [] t = none
binds-hypotheses q first at depth (a ∷ arguments) t =
    go a.kind (binds-hypotheses q first (at + 1) depth arguments t) (binds-hypotheses q first (at + 1) (depth + 1) arguments t)
  where
    go : (kind : ArgKind) → Binds (recursive_count arguments) (hypotheses_over Parts q first (at + 1) depth arguments t) t → Binds (recursive_count arguments) (hypotheses_over Parts q first (at + 1) (depth + 1) arguments t) t
        → Binds (by_kind kind (recursive_count arguments) (λ count. recursive_count arguments + 1)) (by_kind kind (hypotheses_over Parts q first (at + 1) depth arguments t) (λ count. Lam (hypothesis Parts q first at depth count a.type) (hypotheses_over Parts q first (at + 1) (depth + 1) arguments t))) t
    go PlainKind front back = front
    go (RecursiveKind count) front back =
        subst (λ j. Binds j (Lam (hypothesis Parts q first at depth count a.type) (hypotheses_over Parts q first (at + 1) (depth + 1) arguments t)) t) (omega arith)
        (one (hypothesis Parts q first at depth count a.type) back)

-- ---- the type of pairs at arguments and hypotheses

-- The arguments come after `before`, and the hypotheses last of all.
parts-filled : (S : Signature) (n : ℕ) (f : Family) (q : Carrier) (args : List Term) (depth : ℕ) (P D R : Term) → depth ≡ length args → inst (fill no_variable args) (variable depth q.params) ≡ P → ((u : Term) → Converts S (App R u) (App D u))
    → (s : ℕ → Term) (at : ℕ) (arguments : List Argument) (us before behind front : List Term) (argument hyp : ℕ) → All HasNoTargets arguments → length us ≡ length arguments → args ≡ before ++ (us ++ behind) → argument ≡ length before → args ≡ front ++ hypotheses s R arguments us → hyp ≡ length front
    → Converts S (inst (fill no_variable args) (parts_type q depth (directs argument hyp (argument_shapes n f at arguments)))) (parts_of q.level P D arguments us)
parts-filled S n f q args depth P D R deep motive agree s at [] us before behind front argument hyp lacking counted is stands last there = same
parts-filled S n f q args depth P D R deep motive agree s at (a ∷ arguments) [] before behind front argument hyp lacking counted is stands last there = absurd (omega arith)
parts-filled S n f q args depth P D R deep motive agree s at (Plain type level ∷ arguments) (u ∷ us) before behind front argument hyp lacking counted is stands last there =
    parts-filled S n f q args depth P D R deep motive agree (extend s u) (at + 1) arguments us (before ++ u ∷ []) behind front (argument + 1) hyp (All-tail HasNoTargets (Plain type level) arguments lacking) (omega arith)
    (is ∙ sym (append_assoc before (u ∷ []) (us ++ behind))) (let count = length-append before (u ∷ []) in omega arith) last there
parts-filled S n f q args depth P D R deep motive agree s at (Recursive [] [] level ∷ arguments) (u ∷ us) before behind front argument hyp lacking counted is stands last there =
    converts-app (converts-app same
    (converts-app (converts-app same (converts-from (ap₂ App motive (variable-filled no_variable args before u (us ++ behind) depth argument is deep stands))))
    (converts-trans (converts-from (variable-filled no_variable args front (App R u) (hypotheses (extend s u) R arguments us) depth hyp last deep there)) (agree u))))
    (parts-filled S n f q args depth P D R deep motive agree (extend s u) (at + 1) arguments us (before ++ u ∷ []) behind (front ++ App R u ∷ []) (argument + 1) (hyp + 1) (All-tail HasNoTargets (Recursive [] [] level) arguments lacking) (omega arith)
    (is ∙ sym (append_assoc before (u ∷ []) (us ++ behind))) (let count = length-append before (u ∷ []) in omega arith)
    (last ∙ sym (append_assoc front (App R u ∷ []) (hypotheses (extend s u) R arguments us))) (let count = length-append front (App R u ∷ []) in omega arith))
parts-filled S n f q args depth P D R deep motive agree s at (Recursive [] (t ∷ targets) level ∷ arguments) (u ∷ us) before behind front argument hyp lacking counted is stands last there =
    let wrong : t ∷ targets ≡ [] = All-head HasNoTargets (Recursive [] (t ∷ targets) level) arguments lacking in absurd (cc)
parts-filled S n f q args depth P D R deep motive agree s at (Recursive (a ∷ inner) targets level ∷ arguments) (u ∷ us) before behind front argument hyp lacking counted is stands last there =
    let some_inside : (suc (length inner) == 0) ≡ false = grind (arith, nat_tests) in
    let others = directs (argument + 1) (hyp + 1) (argument_shapes n f (at + 1) arguments) in
    let more = parts_of q.level P D arguments us in
    subst (λ b. Converts S (inst (fill no_variable args) (parts_type q depth (cond b (record { argument = argument; hypothesis = hyp } ∷ others) others))) (cond b (pair_of q.level (pair_of q.level (App P u) (App D u)) more) more)) (sym some_inside)
    (parts-filled S n f q args depth P D R deep motive agree (extend s u) (at + 1) arguments us (before ++ u ∷ []) behind (front ++ own ∷ []) (argument + 1) (hyp + 1) (All-tail HasNoTargets (Recursive (a ∷ inner) targets level) arguments lacking) (omega arith)
    (is ∙ sym (append_assoc before (u ∷ []) (us ++ behind))) (let count = length-append before (u ∷ []) in omega arith)
    (last ∙ sym (append_assoc front (own ∷ []) (hypotheses (extend s u) R arguments us))) (let count = length-append front (own ∷ []) in omega arith))
  where
    own : Term
    own = pure.hypothesis s R u (a ∷ inner) targets

-- ---- D!direct at a constructor

module _ (S : Signature) (n : ℕ) (f : Family) (direct : ℕ) (has : HasDirect S n f direct) (number : ℕ) (c : Constructor) (ps : List Term) (P : Term) (qs us : List Term) (at : IsAtConstructor f number c ps [] qs us) where
  abbrev shapes : List ConstructorShape
  shapes = (family_shape n f).constructors

  abbrev q : Carrier
  q = carrier_of n (family_shape n f) direct

  abbrev shape : ConstructorShape
  shape = constructor_shape n f c

  abbrev a : ℕ
  a = length shape.arguments

  abbrev r : ℕ
  r = recursive_count shape.arguments

  abbrev d : ℕ
  d = q.params + 2

  abbrev method : ℕ → ConstructorShape → Term
  method i con = direct_method q d con

  abbrev D : Term
  D = applied (Const direct) (ps ++ P ∷ [])

  abbrev scope : Term → List Term
  scope y = ps ++ P ∷ y ∷ []

  abbrev R : Term → Term
  R y = inst (fill no_variable (scope y)) (direct_recursor q shapes)

  binds : Binds (length f.parameters + 2) (direct_term (family_shape n f) q) (App (direct_recursor q shapes) (Var 0))
  binds =
      binds-functions f.parameters 2 (length f.parameters + 2) _ _ refl
      (one (Pi (carrier_at q q.params) (Sort q.level)) (one (carrier_at q (q.params + 1)) none))

  unfolds : (y : Term) → Converts S (App D y) (App (R y) y)
  unfolds y =
      converts-trans (converts-from (sym (applied-append (Const direct) (ps ++ P ∷ []) (y ∷ [])) ∙ ap (applied (Const direct)) (append_assoc ps (P ∷ []) (y ∷ []))))
      (converts-trans (constant-unfolds has.bodies has.entry binds (omega arith) (scope y) (let all = length-append ps (P ∷ y ∷ []) in let params = at.parameters in omega arith))
      (converts-from (ap (App (R y)) (fill-append no_variable ps (P ∷ y ∷ []) 0))))

  all_regular : All (IsRegularConstructor q.params) shapes
  all_regular = has.regular.constructors

  recursors-same : (y z : Term) → R y ≡ R z
  recursors-same y z =
      ap (λ xs. inst (fill no_variable xs) (direct_recursor q shapes)) (sym (append_assoc ps (P ∷ []) (y ∷ [])))
      ∙ (recursor-alike q shapes (ps ++ P ∷ []) y z all_regular
      ∙ ap (λ xs. inst (fill no_variable xs) (direct_recursor q shapes)) (append_assoc ps (P ∷ []) (z ∷ [])))

  abbrev whole : Term
  whole = applied (Con n number) (qs ++ us)

  abbrev σ : ℕ → Term
  σ = fill no_variable (scope whole)

  abbrev motive : Term
  motive = inst σ (Lam (carrier_at q d) (claim_at Parts q (d + 1) (at_level d)))

  abbrev methods : List Term
  methods = methods_of σ method 0 shapes

  parameters_there : map (inst σ) (run d 0 q.params) ≡ ps
  parameters_there = run-filled no_variable (scope whole) [] ps (P ∷ whole ∷ []) d 0 q.params refl deep refl (sym at.parameters)
    where
      deep : d ≡ length (scope whole)
      deep = let all = length-append ps (P ∷ whole ∷ []) in let params = at.parameters in omega arith

  recursor-spine : R whole ≡ applied (Elim n (f.level + 1)) (ps ++ motive ∷ methods)
  recursor-spine =
      methods-spine σ method 0 (eliminator Parts q d) shapes
      ∙ (ap (λ h. applied (App h motive) methods) (inst-applied σ (Elim n (f.level + 1)) (run d 0 q.params) ∙ ap (applied (Elim n (f.level + 1))) parameters_there)
      ∙ sym (applied-append (Elim n (f.level + 1)) ps (motive ∷ methods)))

  shape_there : slice_get shapes number ≡ Some shape
  shape_there = slice_get-map (constructor_shape n f) f.constructors number ∙ ap (option_map (constructor_shape n f)) at.constructor

  method_there : slice_get methods number ≡ Some (inst σ (direct_method q d shape))
  method_there = method-at σ method 0 number shapes shape shape_there

  redex : IsIotaRedex f c ps methods [] qs us
  redex = record {
    parameters = at.parameters;
    methods = length-methods σ method 0 shapes ∙ length-map f.constructors (constructor_shape n f);
    indices = at.indices;
    constructor_parameters = at.constructor_parameters;
    arguments = at.arguments;
  }

  -- the hypotheses of the eliminator
  abbrev hs : List Term
  hs = hypotheses (fill no_variable ps) (R whole) c.arguments us

  recursor-computes : Converts S (App (R whole) whole) (applied (inst σ (direct_method q d shape)) (us ++ hs))
  recursor-computes =
      converts-trans (converts-from (ap (λ h. App h whole) (recursor-spine ∙ ap (λ ms. applied (Elim n (f.level + 1)) (ps ++ motive ∷ ms)) (sym (append-nil methods)))))
      (forwards (here (iota n (f.level + 1) number f c ps motive methods [] qs us has.family at.constructor redex method_there))
      (converts-from (ap (λ h. applied (inst σ (direct_method q d shape)) (us ++ hypotheses (fill no_variable ps) h c.arguments us)) (sym recursor-spine))))

  shapes_counted : length us ≡ a
  shapes_counted = at.arguments ∙ sym (length-shapes n f 0 c.arguments)

  hypotheses_counted : length hs ≡ r
  hypotheses_counted = length-hypotheses n f 0 (fill no_variable ps) (R whole) c.arguments us at.arguments

  abbrev end : Term
  end = parts_type q (d + a + r) (directs d (d + a) shape.arguments)

  method-unfolds : Converts S (applied (inst σ (direct_method q d shape)) (us ++ hs)) (inst (fill σ (us ++ hs)) end)
  method-unfolds =
      beta-all
      (binds-over ((0, q.params) ∷ (d, a) ∷ []) q.params d (types_of shape.arguments) r (length (types_of shape.arguments) + r) _ _ refl
      (binds-hypotheses q d 0 (d + a) shape.arguments end)) σ (us ++ hs)
      (let all = length-append us hs in let types = length-map shape.arguments (λ x. x.type) in let counted = hypotheses_counted in let shapes = shapes_counted in omega arith)

  abbrev args : List Term
  args = scope whole ++ (us ++ hs)

  targets_there : All HasNoTargets c.arguments
  targets_there = all-slice_get (λ (e : Constructor). All HasNoTargets e.arguments) f.constructors number c has.targets at.constructor

  direct-computes-at : Converts S (App D whole) (parts_of f.level P D c.arguments us)
  direct-computes-at =
      converts-trans (unfolds whole)
      (converts-trans recursor-computes
      (converts-trans method-unfolds
      (converts-trans (converts-from (inst-same end (λ v. sym (fill-append no_variable (scope whole) (us ++ hs) v))))
      (parts-filled S n f q args (d + a + r) P D (R whole) deep motive_there agree (fill no_variable ps) 0 c.arguments us (scope whole) hs (scope whole ++ us) d (d + a) targets_there at.arguments refl first (sym (append_assoc (scope whole) us hs)) second))))
    where
      scope_counted : length (scope whole) ≡ d
      scope_counted = let all = length-append ps (P ∷ whole ∷ []) in let params = at.parameters in omega arith

      deep : d + a + r ≡ length args
      deep =
          let all = length-append (scope whole) (us ++ hs) in
          let inner = length-append us hs in
          let outer = scope_counted in
          let counted = hypotheses_counted in
          let shapes = shapes_counted in
          omega arith

      first : d ≡ length (scope whole)
      first = sym scope_counted

      second : d + a ≡ length (scope whole ++ us)
      second = let all = length-append (scope whole) us in let outer = scope_counted in let shapes = shapes_counted in omega arith

      motive_there : inst (fill no_variable args) (variable (d + a + r) q.params) ≡ P
      motive_there = variable-filled no_variable args ps P (whole ∷ (us ++ hs)) (d + a + r) q.params (append_assoc ps (P ∷ whole ∷ []) (us ++ hs)) deep (sym at.parameters)

      agree : (u : Term) → Converts S (App (R whole) u) (App D u)
      agree u = converts-sym (converts-trans (unfolds u) (converts-from (ap (λ h. App h u) (recursors-same u whole))))

pub direct-computes : DirectComputes
direct-computes S n f direct has number c ps P qs us at = direct-computes-at S n f direct has number c ps P qs us at
