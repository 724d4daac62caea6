-- `D!nct.c.m` computes at constructors.
use Rattle.std.proofs.Common.{◌≡◌, ◌≢◌, ℕ, zero, suc, ◌+◌, ◌==◌, Bool, true, false, cond, List, [], ◌∷◌, ◌++◌, map, length, slice_get, Some, option_map, refl, ap, ap₂, sym, ◌∙◌, subst, append_assoc, arith}
use Rattle.std.proofs.lemmas.Bool.Decides.{nat_tests}
use Rattle.std.proofs.lemmas.List.{length-append, length-map}
use Rattle.std.proofs.lemmas.Option.{slice_get-map, none-some}
use Rattle.theory.specs.Terms.{Term}
use Rattle.theory.specs.Terms.Term.{Lam, App, Const, Con}
use Rattle.theory.specs.Substitutions.{inst, fill}
use Rattle.theory.specs.Telescopes.{applied}
use Rattle.theory.specs.Families.{Constructor, Family}
use Rattle.theory.specs.Eliminators.{no_variable}
use Rattle.theory.specs.Signatures.{Signature}
use Rattle.theory.specs.Conversion.{Converts}
use Rattle.theory.proofs.Instances.{inst-same}
use Rattle.theory.proofs.Instantiation.{inst-applied}
use Rattle.theory.proofs.Congruence.{converts-trans}
use Rattle.theory.proofs.Lists.{some_is}
use Rattle.theory.proofs.Spines.{applied-append}
use Rattle.core_terms.specs.Levels.{variable, run, over}
use Rattle.core_terms.specs.declared.levels.Binder.TheVariants.{Function}
use Rattle.core_sig.specs.ByLevels.{family_at}
use Rattle.core_sig.specs.FamilyShapes.{constructor_shape, family_shape}
use Rattle.core_sig.specs.Shapes.{ConstructorShape, Shape, types_of}
use Rattle.case_below_gen.specs.CaseEntries.{scrutinee_over, at_scrutinee}
use Rattle.case_below_gen.specs.CourseEntries.{applied_to_methods}
use Rattle.case_below_gen.proofs.Filling.{fill-append, variable-filled, run-filled}
use Rattle.case_below_gen.proofs.Functions.{converts-from, converts-applied, Binds, beta-all, binds-functions, binds-over, constant-unfolds}
use Rattle.case_below_gen.proofs.Functions.Binds.{none, one}
use Rattle.tele_eq.specs.TelescopicEquality.{equation_behind, equations}
use Rattle.generators.specs.noconf_gen.Compared.{member_items, constructed}
use Rattle.generators.specs.noconf_gen.NoConfusionTypes.{Member, equations_over, confusion_type, confusion_method, members_over, analysis_motive, injection_type, conflict_type, confusion_level}
use Rattle.generators.specs.noconf_gen.ConfusionLaws.{HasConfusion, AreCompared, confusion_at, put_for_all, level_of_second, InjectionComputes, ConflictComputes}
use Rattle.generators.proofs.noconf_gen.CaseComputing.{IsCaseAt, case-computes, shapes-length}
use Rattle.generators.proofs.noconf_gen.SmallTerms.{length-members}
use Rattle.generators.proofs.noconf_gen.TooHigh.{length-positions}

-- ---- binders of the entry and its methods

binds-equations : (n : ℕ) (f : Shape) (left right : Member) (depth : ℕ) (t : Term) → Binds (length f.indices + 1) (equations_over Function n f left right depth t) t
binds-equations n f left right depth t =
    binds-functions (equations (member_items n f depth) (left depth) (right depth)) 0 (length f.indices + 1) t t
    (let X = member_items n f depth in
    let members = length-members n f depth in
    let all : length (equations X (left depth) (right depth)) ≡ length X = length-positions (equation_behind (length X) X (left depth) (right depth)) 0 (length X) in
    omega arith)
    none

binds-members : (n : ℕ) (f : Shape) (c : ConstructorShape) (t : Term) → Binds (length f.parameters + (length (types_of c.arguments) + (length (types_of f.indices) + 1))) (members_over Function n f c t) t
binds-members n f c t =
    let p = length f.parameters in
    let k = length f.indices in
    let count = length c.arguments in
    let depth = p + count in
    let inner = length (types_of f.indices) + 1 in
    let family = family_at n p (depth + k) depth k in
    let scrutinee = scrutinee_over Function n f depth t in
    let arguments = over Function ((0, p) ∷ (p, count) ∷ []) p p (types_of c.arguments) scrutinee in
    binds-functions f.parameters (length (types_of c.arguments) + inner) (p + (length (types_of c.arguments) + inner)) arguments t refl
    (binds-over ((0, p) ∷ (p, count) ∷ []) p p (types_of c.arguments) inner (length (types_of c.arguments) + inner) scrutinee t refl
    (binds-over ((0, p) ∷ (depth, k) ∷ []) p depth (types_of f.indices) 1 inner (Lam family t) t refl (one family none)))

methods_of : (s : ℕ → Term) (method : ℕ → ConstructorShape → Term) (number : ℕ) → List ConstructorShape → List Term
methods_of s method number [] = []
methods_of s method number (c ∷ cs) = inst s (method number c) ∷ methods_of s method (number + 1) cs

methods-spine : (s : ℕ → Term) (method : ℕ → ConstructorShape → Term) (number : ℕ) (h : Term) (cs : List ConstructorShape) → inst s (applied_to_methods method number h cs) ≡ applied (inst s h) (methods_of s method number cs)
unfolding methods_of
methods-spine s method number h [] = refl
methods-spine s method number h (c ∷ cs) = methods-spine s method (number + 1) (App h (method number c)) cs

length-methods : (s : ℕ → Term) (method : ℕ → ConstructorShape → Term) (number : ℕ) (cs : List ConstructorShape) → length (methods_of s method number cs) ≡ length cs
unfolding methods_of
length-methods s method number [] = refl
length-methods s method number (c ∷ cs) = ap suc (length-methods s method (number + 1) cs)

method-at : (s : ℕ → Term) (method : ℕ → ConstructorShape → Term) (number i : ℕ) (cs : List ConstructorShape) (c : ConstructorShape) → slice_get cs i ≡ Some c → slice_get (methods_of s method number cs) i ≡ Some (inst s (method (number + i) c))
unfolding methods_of
method-at s method number i [] c at = absurd (none-some c at)
method-at s method number zero (d ∷ cs) c at =
    let here : number ≡ number + 0 = omega arith in ap₂ (λ k x. Some (inst s (method k x))) here (some_is at)
method-at s method number (suc i) (d ∷ cs) c at =
    let here : number + 1 + i ≡ number + suc i = omega arith in method-at s method (number + 1) i cs c at ∙ ap (λ k. Some (inst s (method k c))) here

-- ---- the law, for either constructor

module _ (S : Signature) (n : ℕ) (f : Family) (number : ℕ) (c : Constructor) (m analysis nct : ℕ) (has : HasConfusion S n f number c m analysis nct)
    (at : ℕ) (d : Constructor) (ps ss is qs us es : List Term) (compared : AreCompared f c at d ps ss is qs us es) where
  abbrev shape : Shape
  shape = family_shape n f

  abbrev first : ConstructorShape
  first = constructor_shape n f c

  abbrev second : ConstructorShape
  second = constructor_shape n f d

  abbrev p : ℕ
  p = length f.parameters

  abbrev k : ℕ
  k = length shape.indices

  abbrev start : ℕ
  start = p + length first.arguments

  abbrev depth : ℕ
  depth = start + k + 1

  abbrev j : ℕ
  j = confusion_level shape m

  abbrev y : Term
  y = applied (Con n at) (qs ++ us)

  abbrev args : List Term
  args = ps ++ (ss ++ (is ++ y ∷ []))

  abbrev s : ℕ → Term
  s = fill no_variable args

  index_count : k ≡ length f.indices
  index_count = length-map f.indices _

  first_count : length first.arguments ≡ length c.arguments
  first_count = shapes-length n f 0 c.arguments

  second_count : length second.arguments ≡ length d.arguments
  second_count = shapes-length n f 0 d.arguments

  deep : depth ≡ length args
  deep =
      let a = length-append ps (ss ++ (is ++ y ∷ [])) in
      let b = length-append ss (is ++ y ∷ []) in
      let g = length-append is (y ∷ []) in
      let i = index_count in
      let l = first_count in
      let e = compared.parameters in
      let h = compared.first in
      let o = compared.indices in
      omega arith

  parameters_there : map (inst s) (run depth 0 p) ≡ ps
  parameters_there = run-filled no_variable args [] ps (ss ++ (is ++ y ∷ [])) depth 0 p refl deep refl (sym compared.parameters)

  indices_there : map (inst s) (run depth start k) ≡ is
  indices_there =
      run-filled no_variable args (ps ++ ss) is (y ∷ []) depth start k (sym (append_assoc ps ss (is ++ y ∷ []))) deep
      (let a = length-append ps ss in let l = first_count in let e = compared.parameters in let h = compared.first in omega arith)
      (index_count ∙ sym compared.indices)

  member_there : inst s (variable depth (start + k)) ≡ y
  member_there =
      variable-filled no_variable args (ps ++ (ss ++ is)) y [] depth (start + k)
      (sym (append_assoc ps (ss ++ is) (y ∷ []) ∙ ap (λ xs. ps ++ xs) (append_assoc ss is (y ∷ [])))) deep
      (let a = length-append ps (ss ++ is) in let b = length-append ss is in let i = index_count in let l = first_count in let e = compared.parameters in let h = compared.first in let o = compared.indices in omega arith)

  abbrev method : (number : ℕ) → ConstructorShape → Term
  method = confusion_method n shape number first m depth

  abbrev methods : List Term
  methods = methods_of s method 0 shape.constructors

  abbrev motive : Term
  motive = inst s (analysis_motive n shape number first j depth)

  abbrev head : Term
  head = App (applied (Const analysis) (run depth 0 p)) (analysis_motive n shape number first j depth)

  body_there : inst s (at_scrutinee depth start k (applied_to_methods method 0 head shape.constructors)) ≡ applied (Const analysis) (ps ++ motive ∷ (methods ++ (is ++ y ∷ [])))
  body_there =
      ap₂ App
      (inst-applied s (applied_to_methods method 0 head shape.constructors) (run depth start k)
      ∙ ap₂ applied
      (methods-spine s method 0 head shape.constructors
      ∙ ap (λ h. applied (App h motive) methods) (inst-applied s (Const analysis) (run depth 0 p) ∙ ap (applied (Const analysis)) parameters_there))
      indices_there)
      member_there
      ∙ sym (applied-append (Const analysis) ps (motive ∷ (methods ++ (is ++ y ∷ [])))
      ∙ (applied-append (App (applied (Const analysis) ps) motive) methods (is ++ y ∷ [])
      ∙ applied-append (applied (App (applied (Const analysis) ps) motive) methods) is (y ∷ [])))

  second_there : slice_get shape.constructors at ≡ Some second
  second_there = slice_get-map (constructor_shape n f) f.constructors at ∙ ap (option_map (constructor_shape n f)) compared.constructor

  abbrev there : Term
  there = inst s (method at second)

  cases : IsCaseAt f at d there ps methods is qs us
  cases = record {
    constructor = compared.constructor;
    method_there = method-at s method 0 at shape.constructors second second_there ∙ ap (λ i. Some (inst s (method i second))) (omega arith);
    parameters = compared.parameters;
    methods = length-methods s method 0 shape.constructors ∙ length-map f.constructors (constructor_shape n f);
    indices = compared.indices;
    constructor_parameters = compared.constructor_parameters;
    arguments = compared.second;
  }

  unfolds : Converts S (applied (Const nct) args) (applied there us)
  unfolds =
      converts-trans
      (constant-unfolds has.bodies has.confusion (binds-members n shape first (at_scrutinee depth start k (applied_to_methods method 0 head shape.constructors))) (omega arith) args
      (let types = length-map shape.indices (λ a. a.type) in let arguments = length-map first.arguments (λ a. a.type) in let e = deep in omega arith))
      (converts-trans (converts-from body_there)
      (case-computes S n f (j + 1) analysis has.bodies has.family has.cases at d motive there ps methods is qs us cases))

  abbrev inside : ℕ
  inside = depth + length second.arguments

  abbrev known : Term
  known = confusion_type n shape number first at second depth m inside (inside + k + 1)

  method-unfolds : Converts S (applied there (us ++ es)) (inst (fill s (us ++ es)) known)
  method-unfolds =
      beta-all
      (binds-over ((0, p) ∷ (depth, length second.arguments) ∷ []) p depth (types_of second.arguments) (k + 1) (length (types_of second.arguments) + (k + 1)) _ known refl
      (binds-equations n shape (constructed n p k number p first) (constructed n p k at depth second) inside known)) s (us ++ es)
      (let all = length-append us es in
      let types = length-map second.arguments (λ a. a.type) in
      let i = index_count in
      let g = second_count in
      let h = compared.second in
      let e = compared.equations in
      omega arith)

  split-application : confusion_at n at nct ps ss is qs us es ≡ applied (applied (Const nct) args) es
  split-application =
      ap (applied (Const nct))
      (ap (λ xs. ps ++ (ss ++ xs)) (sym (append_assoc is (y ∷ []) es))
      ∙ (ap (λ xs. ps ++ xs) (sym (append_assoc ss (is ++ y ∷ []) es)) ∙ sym (append_assoc ps (ss ++ (is ++ y ∷ [])) es)))
      ∙ applied-append (Const nct) args es

  all-put : inst (fill s (us ++ es)) known ≡ put_for_all n at ps ss is qs us es known
  all-put =
      inst-same known (λ v. sym (fill-append no_variable args (us ++ es) v))
      ∙ ap (λ xs. inst (fill no_variable xs) known)
      (append_assoc ps (ss ++ (is ++ y ∷ [])) (us ++ es)
      ∙ ap (λ xs. ps ++ xs) (append_assoc ss (is ++ y ∷ []) (us ++ es) ∙ ap (λ xs. ss ++ xs) (append_assoc is (y ∷ []) (us ++ es))))

  computes : Converts S (confusion_at n at nct ps ss is qs us es) (put_for_all n at ps ss is qs us es known)
  computes =
      converts-trans (converts-from split-application)
      (converts-trans (converts-applied es unfolds)
      (converts-trans (converts-from (sym (applied-append there us es)))
      (converts-trans method-unfolds (converts-from all-put))))

-- ---- the laws

itself : (number : ℕ) → (number == number) ≡ true
itself number = grind (arith, nat_tests)

another : (at number : ℕ) → at ≢ number → (at == number) ≡ false
another at number apart = go (at == number) refl
  where
    go : (b : Bool) → (at == number) ≡ b → b ≡ false
    go true e = absurd (apart (grind (arith, nat_tests)))
    go false e = refl

pub injection-computes : InjectionComputes
injection-computes S n f number c m analysis nct has ps ss is qs us es compared =
    let shape = family_shape n f in
    let first = constructor_shape n f c in
    let p = length f.parameters in
    let k = length shape.indices in
    let second = level_of_second n f c in
    let start = second + length first.arguments in
    subst (λ b. Converts S (confusion_at n number nct ps ss is qs us es)
    (put_for_all n number ps ss is qs us es
    (cond b (injection_type n shape number first p second m start (start + k + 1))
    (conflict_type n shape (constructed n p k number p first) (constructed n p k number second first) m start (start + k + 1)))))
    (itself number) (computes S n f number c m analysis nct has number c ps ss is qs us es compared)

pub conflict-computes : ConflictComputes
conflict-computes S n f number c m analysis nct has at d ps ss is qs us es compared apart =
    let shape = family_shape n f in
    let first = constructor_shape n f c in
    let p = length f.parameters in
    let k = length shape.indices in
    let second = level_of_second n f c in
    let start = second + length (constructor_shape n f d).arguments in
    subst (λ b. Converts S (confusion_at n at nct ps ss is qs us es)
    (put_for_all n at ps ss is qs us es
    (cond b (injection_type n shape number first p second m start (start + k + 1))
    (conflict_type n shape (constructed n p k number p first) (constructed n p k at second (constructor_shape n f d)) m start (start + k + 1)))))
    (another at number apart) (computes S n f number c m analysis nct has at d ps ss is qs us es compared)
