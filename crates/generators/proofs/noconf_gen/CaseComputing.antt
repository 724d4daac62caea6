-- `D!case.m` computes at constructors: it is its method at the arguments.
use Rattle.std.proofs.Common.{◌≡◌, ℕ, zero, suc, ◌+◌, List, [], ◌∷◌, ◌++◌, map, length, slice_get, Some, option_map, refl, ap, ap₂, sym, ◌∙◌, subst, append_assoc, arith}
use Rattle.std.proofs.lemmas.List.{length-append, length-map}
use Rattle.std.proofs.lemmas.Option.{slice_get-map, none-some}
use Rattle.theory.specs.Terms.{Term}
use Rattle.theory.specs.Terms.Term.{Lam, App, Const, Con, Elim}
use Rattle.theory.specs.Substitutions.{inst, fill}
use Rattle.theory.specs.Telescopes.{applied}
use Rattle.theory.specs.Families.{Argument, Constructor, Family}
use Rattle.theory.specs.Eliminators.{hypotheses, no_variable}
use Rattle.theory.specs.Signatures.{Signature, FamilyOf, IsEntryAt, HasClosedBodies}
use Rattle.theory.specs.Conversion.{IsIotaRedex, Converts}
use Rattle.theory.specs.Conversion.Contracts.{iota}
use Rattle.theory.specs.Conversion.Step.{here}
use Rattle.theory.specs.Conversion.Converts.{same, forwards}
use Rattle.theory.proofs.Instances.{inst-same}
use Rattle.theory.proofs.Instantiation.{inst-applied}
use Rattle.theory.proofs.Congruence.{converts-trans}
use Rattle.theory.proofs.Lists.{some_is}
use Rattle.theory.proofs.Spines.{applied-append}
use Rattle.core_terms.specs.Levels.{variable, run}
use Rattle.core_terms.specs.declared.levels.Binder.TheVariants.{Function}
use Rattle.core_sig.specs.ByLevels.{family_at, motive_type, hypothesis_type, hypotheses_over}
use Rattle.core_sig.specs.FamilyShapes.{argument_shapes, constructor_shape, family_shape}
use Rattle.core_sig.specs.Shapes.{ArgumentShape, ConstructorShape, Shape, types_of, by_kind, recursive_count}
use Rattle.core_sig.specs.declared.family.ArgKind.{ArgKind}
use Rattle.core_sig.specs.declared.family.ArgKind.TheVariants.{Plain, Recursive}
use Rattle.case_below_gen.specs.CaseEntries.{scrutinee_over, branch_type, branches_over, dropping, applied_to_droppings, case_over, at_scrutinee, case_term}
use Rattle.case_below_gen.specs.CourseLaws.{HasBody}
use Rattle.case_below_gen.proofs.Filling.{fill-append, variable-filled, run-filled}
use Rattle.case_below_gen.proofs.Functions.{converts-from, Binds, beta-all, binds-functions, binds-over, constant-unfolds}
use Rattle.case_below_gen.proofs.Functions.Binds.{none, one}
use Rattle.case_below_gen.proofs.Hypotheses.{length-hypotheses}

-- ---- binders of the entry

binds-branches : (n p motive number depth : ℕ) (cs : List ConstructorShape) (k : ℕ) (t b : Term) → Binds k t b → Binds (length cs + k) (branches_over Function n p motive number depth cs t) b
binds-branches n p motive number depth [] k t b rest = subst (λ j. Binds j t b) (omega arith) rest
binds-branches n p motive number depth (c ∷ cs) k t b rest =
    subst (λ j. Binds j (branches_over Function n p motive number depth (c ∷ cs) t) b) (omega arith)
    (one (branch_type n p motive number depth c) (binds-branches n p motive (number + 1) (depth + 1) cs k t b rest))

binds-case : (n : ℕ) (f : Shape) (m : ℕ) (t : Term) → Binds (length f.parameters + suc (length f.constructors + (length (types_of f.indices) + 1))) (case_over Function n f m t) t
binds-case n f m t =
    let p = length f.parameters in
    let k = length f.indices in
    let depth = p + 1 + length f.constructors in
    let inner = length (types_of f.indices) + 1 in
    let scrutinee = scrutinee_over Function n f depth t in
    let family = family_at n p (depth + k) depth k in
    let branches = branches_over Function n p p 0 (p + 1) f.constructors scrutinee in
    binds-functions f.parameters (suc (length f.constructors + inner)) (p + suc (length f.constructors + inner)) (Lam (motive_type n f m p) branches) t refl
    (one (motive_type n f m p) (binds-branches n p p 0 (p + 1) f.constructors inner scrutinee t
    (binds-over ((0, p) ∷ (depth, k) ∷ []) p depth (types_of f.indices) 1 inner (Lam family t) t refl (one family none))))

binds-hypotheses : (p k motive first at depth : ℕ) (arguments : List ArgumentShape) (t : Term) → Binds (recursive_count arguments) (hypotheses_over Function p k motive first at depth arguments t) t
binds-hypotheses p k motive first at depth [] t = none
binds-hypotheses p k motive first at depth (a ∷ arguments) t =
    go a.kind (binds-hypotheses p k motive first (at + 1) depth arguments t) (binds-hypotheses p k motive first (at + 1) (depth + 1) arguments t)
  where
    go : (kind : ArgKind) → Binds (recursive_count arguments) (hypotheses_over Function p k motive first (at + 1) depth arguments t) t
        → Binds (recursive_count arguments) (hypotheses_over Function p k motive first (at + 1) (depth + 1) arguments t) t
        → Binds (by_kind kind (recursive_count arguments) (λ count. recursive_count arguments + 1))
        (by_kind kind (hypotheses_over Function p k motive first (at + 1) depth arguments t)
        (λ count. Lam (hypothesis_type p k motive first at depth count a.type) (hypotheses_over Function p k motive first (at + 1) (depth + 1) arguments t))) t
    go Plain front back = front
    go (Recursive count) front back =
        subst (λ j. Binds j (Lam (hypothesis_type p k motive first at depth count a.type) (hypotheses_over Function p k motive first (at + 1) (depth + 1) arguments t)) t) (omega arith)
        (one (hypothesis_type p k motive first at depth count a.type) back)

-- ---- the methods of the eliminator

abbrev droppings : (s : ℕ → Term) (p k motive method depth : ℕ) → List ConstructorShape → List Term
droppings s p k motive method depth [] = []
droppings s p k motive method depth (c ∷ cs) = inst s (dropping p k motive method depth c) ∷ droppings s p k motive (method + 1) depth cs

droppings-spine : (s : ℕ → Term) (p k motive method depth : ℕ) (h : Term) (cs : List ConstructorShape) → inst s (applied_to_droppings p k motive method depth h cs) ≡ applied (inst s h) (droppings s p k motive method depth cs)
droppings-spine s p k motive method depth h [] = refl
droppings-spine s p k motive method depth h (c ∷ cs) = droppings-spine s p k motive (method + 1) depth (App h (dropping p k motive method depth c)) cs

length-droppings : (s : ℕ → Term) (p k motive method depth : ℕ) (cs : List ConstructorShape) → length (droppings s p k motive method depth cs) ≡ length cs
length-droppings s p k motive method depth [] = refl
length-droppings s p k motive method depth (c ∷ cs) = ap suc (length-droppings s p k motive (method + 1) depth cs)

dropping-at : (s : ℕ → Term) (p k motive method depth i : ℕ) (cs : List ConstructorShape) (c : ConstructorShape) → slice_get cs i ≡ Some c → slice_get (droppings s p k motive method depth cs) i ≡ Some (inst s (dropping p k motive (method + i) depth c))
dropping-at s p k motive method depth i [] c at = absurd (none-some c at)
dropping-at s p k motive method depth zero (d ∷ cs) c at =
    let here : method ≡ method + 0 = omega arith in ap₂ (λ j x. Some (inst s (dropping p k motive j depth x))) here (some_is at)
dropping-at s p k motive method depth (suc i) (d ∷ cs) c at =
    let here : method + 1 + i ≡ method + suc i = omega arith in
    dropping-at s p k motive (method + 1) depth i cs c at ∙ ap (λ j. Some (inst s (dropping p k motive j depth c))) here

-- the element at a position, with those before it and after it
pub record SplitAt {X : Type 0} (xs : List X) (i : ℕ) (x : X) : Type 0 where
  pub before : List X
  pub after : List X
  pub is : xs ≡ before ++ x ∷ after
  pub count : length before ≡ i

pub split-at : {X : Type 0} (xs : List X) (i : ℕ) (x : X) → slice_get xs i ≡ Some x → SplitAt xs i x
split-at [] i x at = absurd (none-some x at)
split-at (y ∷ xs) zero x at = record { before = []; after = xs; is = ap (λ z. z ∷ xs) (some_is at); count = refl }
split-at (y ∷ xs) (suc i) x at =
    let rest = split-at xs i x at in
    record { before = y ∷ rest.before; after = rest.after; is = ap (λ zs. y ∷ zs) rest.is; count = ap suc rest.count }

pub shapes-length : (n : ℕ) (f : Family) (at : ℕ) (arguments : List Argument) → length (argument_shapes n f at arguments) ≡ length arguments
shapes-length n f at [] = refl
shapes-length n f at (a ∷ arguments) = ap suc (shapes-length n f (at + 1) arguments)

-- ---- the law

-- an application of `D!case.m` at constructor `number`, whose parameters may be others than those of the entry
pub record IsCaseAt (f : Family) (number : ℕ) (c : Constructor) (method : Term) (ps ms is qs us : List Term) : Type 0 where
  pub constructor : slice_get f.constructors number ≡ Some c
  pub method_there : slice_get ms number ≡ Some method
  pub parameters : length ps ≡ length f.parameters
  pub methods : length ms ≡ length f.constructors
  pub indices : length is ≡ length f.indices
  pub constructor_parameters : length qs ≡ length f.parameters
  pub arguments : length us ≡ length c.arguments

module _ (S : Signature) (n : ℕ) (f : Family) (m analysis : ℕ) (bodies : HasClosedBodies S) (family : IsEntryAt S n (FamilyOf f)) (entry : HasBody S analysis (case_term n (family_shape n f) m))
    (number : ℕ) (c : Constructor) (P method : Term) (ps ms is qs us : List Term) (at : IsCaseAt f number c method ps ms is qs us) where
  abbrev shape : Shape
  shape = family_shape n f

  abbrev p : ℕ
  p = length f.parameters

  abbrev k : ℕ
  k = length shape.indices

  abbrev depth : ℕ
  depth = p + 1 + length shape.constructors

  abbrev inside : ℕ
  inside = depth + k + 1

  abbrev y : Term
  y = applied (Con n number) (qs ++ us)

  abbrev args : List Term
  args = ps ++ P ∷ (ms ++ (is ++ y ∷ []))

  abbrev s : ℕ → Term
  s = fill no_variable args

  index_count : k ≡ length f.indices
  index_count = length-map f.indices _

  case_count : length shape.constructors ≡ length f.constructors
  case_count = length-map f.constructors (constructor_shape n f)

  deep : inside ≡ length args
  deep =
      let a = length-append ps (P ∷ (ms ++ (is ++ y ∷ []))) in
      let b = length-append ms (is ++ y ∷ []) in
      let d = length-append is (y ∷ []) in
      let i = index_count in
      let l = case_count in
      let e = at.parameters in
      let g = at.methods in
      let h = at.indices in
      omega arith

  -- P and the methods come after the parameters
  motive_there : inst s (variable inside p) ≡ P
  motive_there = variable-filled no_variable args ps P (ms ++ (is ++ y ∷ [])) inside p refl deep (sym at.parameters)

  parameters_there : map (inst s) (run inside 0 p) ≡ ps
  parameters_there = run-filled no_variable args [] ps (P ∷ (ms ++ (is ++ y ∷ []))) inside 0 p refl deep refl (sym at.parameters)

  length-before : depth ≡ length (ps ++ P ∷ ms)
  length-before =
      let a = length-append ps (P ∷ ms) in let l = case_count in let e = at.parameters in let g = at.methods in omega arith

  indices_there : map (inst s) (run inside depth k) ≡ is
  indices_there =
      run-filled no_variable args (ps ++ P ∷ ms) is (y ∷ []) inside depth k (sym (append_assoc ps (P ∷ ms) (is ++ y ∷ []))) deep length-before
      (index_count ∙ sym at.indices)

  scrutinee_there : inst s (variable inside (depth + k)) ≡ y
  scrutinee_there =
      variable-filled no_variable args (ps ++ P ∷ (ms ++ is)) y [] inside (depth + k)
      (sym (append_assoc ps (P ∷ (ms ++ is)) (y ∷ []) ∙ ap (λ xs. ps ++ P ∷ xs) (append_assoc ms is (y ∷ [])))) deep last
    where
      last : depth + k ≡ length (ps ++ P ∷ (ms ++ is))
      last =
          let a = length-append ps (P ∷ (ms ++ is)) in
          let b = length-append ms is in
          let i = index_count in
          let l = case_count in
          let e = at.parameters in
          let g = at.methods in
          let h = at.indices in
          omega arith

  abbrev drops : List Term
  drops = droppings s p k p (p + 1) inside shape.constructors

  abbrev head : Term
  head = App (applied (Elim n m) (run inside 0 p)) (variable inside p)

  head_there : inst s head ≡ App (applied (Elim n m) ps) P
  head_there = ap₂ App (inst-applied s (Elim n m) (run inside 0 p) ∙ ap (applied (Elim n m)) parameters_there) motive_there

  body_there : inst s (at_scrutinee inside depth k (applied_to_droppings p k p (p + 1) inside head shape.constructors)) ≡ App (applied (Elim n m) (ps ++ P ∷ (drops ++ is))) y
  body_there =
      ap₂ App
      (inst-applied s (applied_to_droppings p k p (p + 1) inside head shape.constructors) (run inside depth k)
      ∙ (ap₂ applied (droppings-spine s p k p (p + 1) inside head shape.constructors ∙ ap (λ h. applied h drops) head_there) indices_there
      ∙ (ap (λ h. applied h is) (sym (applied-append (Elim n m) ps (P ∷ drops)))
      ∙ (sym (applied-append (Elim n m) (ps ++ P ∷ drops) is) ∙ ap (applied (Elim n m)) (append_assoc ps (P ∷ drops) is)))))
      scrutinee_there

  unfolds : Converts S (applied (Const analysis) args) (App (applied (Elim n m) (ps ++ P ∷ (drops ++ is))) y)
  unfolds =
      converts-trans
      (constant-unfolds bodies entry (binds-case n shape m (at_scrutinee inside depth k (applied_to_droppings p k p (p + 1) inside head shape.constructors))) (omega arith) args
      (let types = length-map shape.indices (λ a. a.type) in let d = deep in omega arith))
      (converts-from body_there)

  abbrev constructor_there : ConstructorShape
  constructor_there = constructor_shape n f c

  shape_there : slice_get shape.constructors number ≡ Some constructor_there
  shape_there = slice_get-map (constructor_shape n f) f.constructors number ∙ ap (option_map (constructor_shape n f)) at.constructor

  abbrev drop_there : Term
  drop_there = dropping p k p (p + 1 + number) inside constructor_there

  redex : IsIotaRedex f c ps drops is qs us
  redex = record {
    parameters = at.parameters;
    methods = length-droppings s p k p (p + 1) inside shape.constructors ∙ case_count;
    indices = at.indices;
    constructor_parameters = at.constructor_parameters;
    arguments = at.arguments;
  }

  abbrev hs : List Term
  hs = hypotheses (fill no_variable ps) (applied (Elim n m) (ps ++ P ∷ drops)) c.arguments us

  contracts : Converts S (App (applied (Elim n m) (ps ++ P ∷ (drops ++ is))) y) (applied (inst s drop_there) (us ++ hs))
  contracts =
      forwards (here (iota n m number f c ps P drops is qs us family at.constructor redex (dropping-at s p k p (p + 1) inside number shape.constructors constructor_there shape_there))) same

  abbrev a : ℕ
  a = length constructor_there.arguments

  abbrev r : ℕ
  r = recursive_count constructor_there.arguments

  abbrev whole : ℕ
  whole = inside + a + r

  abbrev end : Term
  end = applied (variable whole (p + 1 + number)) (run whole inside a)

  counted : length hs ≡ r
  counted = length-hypotheses n f 0 (fill no_variable ps) (applied (Elim n m) (ps ++ P ∷ drops)) c.arguments us at.arguments

  shapes_counted : length us ≡ a
  shapes_counted = at.arguments ∙ sym (shapes-length n f 0 c.arguments)

  drops-unfold : Converts S (applied (inst s drop_there) (us ++ hs)) (inst (fill s (us ++ hs)) end)
  drops-unfold =
      beta-all
      (binds-over ((0, p) ∷ (inside, a) ∷ []) p inside (types_of constructor_there.arguments) r (length (types_of constructor_there.arguments) + r) _ end refl
      (binds-hypotheses p k p inside 0 (inside + a) constructor_there.arguments end)) s (us ++ hs)
      (let all = length-append us hs in let types = length-map constructor_there.arguments (λ x. x.type) in let i = counted in let j = shapes_counted in omega arith)

  split : SplitAt ms number method
  split = split-at ms number method at.method_there

  end_there : inst (fill s (us ++ hs)) end ≡ applied method us
  end_there =
      inst-same end (λ v. sym (fill-append no_variable args (us ++ hs) v))
      ∙ (inst-applied (fill no_variable (args ++ (us ++ hs))) (variable whole (p + 1 + number)) (run whole inside a)
      ∙ ap₂ applied
      (variable-filled no_variable (args ++ (us ++ hs)) (ps ++ P ∷ split.before) method (split.after ++ ((is ++ y ∷ []) ++ (us ++ hs))) whole (p + 1 + number) parts all_deep first)
      (run-filled no_variable (args ++ (us ++ hs)) args us hs whole inside a refl all_deep deep (sym shapes_counted)))
    where
      all_deep : whole ≡ length (args ++ (us ++ hs))
      all_deep =
          let x = length-append args (us ++ hs) in
          let z = length-append us hs in
          let d = deep in
          let i = counted in
          let j = shapes_counted in
          omega arith

      first : p + 1 + number ≡ length (ps ++ P ∷ split.before)
      first = let x = length-append ps (P ∷ split.before) in let z = split.count in let e = at.parameters in omega arith

      parts : args ++ (us ++ hs) ≡ (ps ++ P ∷ split.before) ++ method ∷ (split.after ++ ((is ++ y ∷ []) ++ (us ++ hs)))
      parts =
          append_assoc ps (P ∷ (ms ++ (is ++ y ∷ []))) (us ++ hs)
          ∙ (ap (λ xs. ps ++ P ∷ xs)
          (append_assoc ms (is ++ y ∷ []) (us ++ hs)
          ∙ (ap (λ xs. xs ++ ((is ++ y ∷ []) ++ (us ++ hs))) split.is
          ∙ append_assoc split.before (method ∷ split.after) ((is ++ y ∷ []) ++ (us ++ hs))))
          ∙ sym (append_assoc ps (P ∷ split.before) (method ∷ (split.after ++ ((is ++ y ∷ []) ++ (us ++ hs))))))

  pub case-computes : Converts S (applied (Const analysis) (ps ++ P ∷ (ms ++ (is ++ applied (Con n number) (qs ++ us) ∷ [])))) (applied method us)
  case-computes = converts-trans unfolds (converts-trans contracts (converts-trans drops-unfold (converts-from end_there)))
