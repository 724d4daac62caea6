-- The decision of equality computes at constructors.
use Rattle.std.proofs.Common.{◌≡◌, ℕ, zero, suc, ◌+◌, ◌==◌, false, cond, List, [], ◌∷◌, ◌++◌, map, length, slice_get, Some, option_map, refl, ap, ap₂, sym, ◌∙◌, subst, append_assoc, arith}
use Rattle.std.proofs.lemmas.List.{length-append, length-map}
use Rattle.std.proofs.lemmas.Option.{slice_get-map, none-some}
use Rattle.theory.specs.Terms.{Term}
use Rattle.theory.specs.Terms.Term.{Lam, App, Const, Fam, Con, Elim}
use Rattle.theory.specs.Substitutions.{inst, fill}
use Rattle.theory.specs.Telescopes.{applied}
use Rattle.theory.specs.Families.{Constructor, Family}
use Rattle.theory.specs.Eliminators.{hypotheses, no_variable}
use Rattle.theory.specs.Signatures.{Signature, equality}
use Rattle.theory.specs.Conversion.{IsIotaRedex, Converts}
use Rattle.theory.specs.Conversion.Contracts.{iota}
use Rattle.theory.specs.Conversion.Step.{here}
use Rattle.theory.specs.Conversion.Converts.{same, forwards}
use Rattle.theory.proofs.Instances.{inst-same}
use Rattle.theory.proofs.Instantiation.{inst-applied}
use Rattle.theory.proofs.Congruence.{converts-trans}
use Rattle.theory.proofs.Lists.{some_is}
use Rattle.theory.proofs.Spines.{applied-append}
use Rattle.core_terms.specs.Levels.{variable, run}
use Rattle.core_terms.specs.declared.levels.Binder.TheVariants.{Function}
use Rattle.core_sig.specs.FamilyShapes.{constructor_shape, family_shape}
use Rattle.core_sig.specs.Shapes.{ArgumentShape, ConstructorShape, Shape, types_of, by_kind, recursive_count}
use Rattle.core_sig.specs.declared.family.ArgKind.{ArgKind}
use Rattle.core_sig.specs.declared.family.ArgKind.TheVariants.{Plain, Recursive}
use Rattle.case_below_gen.specs.CourseEntries.{applied_to_methods}
use Rattle.case_below_gen.proofs.Filling.{fill-append, variable-filled, run-filled}
use Rattle.case_below_gen.proofs.Functions.{converts-from, converts-applied, Binds, beta-all, binds-functions, binds-over, constant-unfolds}
use Rattle.case_below_gen.proofs.Functions.Binds.{none, one}
use Rattle.case_below_gen.proofs.Hypotheses.{length-hypotheses}
use Rattle.tele_eq.proofs.Growing.{append-none}
use Rattle.generators.proofs.noconf_gen.CaseComputing.{IsCaseAt, case-computes, shapes-length}
use Rattle.generators.proofs.noconf_gen.SameParts.{test-true, test-false}
use Rattle.decide_eq.specs.Comparisons.{members_equal, confusion, different, congruence, compared}
use Rattle.decide_eq.specs.DecisionEntries.{member_of, branch, analysis_motive, hypotheses_over, method, decision_motive, eliminated, decided_family}
use Rattle.decide_eq.specs.DecisionLaws.{HasDecision, AreDecided, decision_at, claim_at, DecisionUnfolds, DifferentAreRefuted, AreProved, first_terms, unfolded, hypotheses_at, EqualAreProved}
use Rattle.decide_eq.specs.PlainFamilies.{Known}
use Rattle.decide_eq.specs.Statements.{whole_type, deciding_from, deciding_parameter, decisions_over}
use Rattle.decide_eq.specs.declared.decided_family.DecidedFamily.{DecidedFamily}
use Rattle.decide_eq.specs.declared.members.Member.{Member}
use Rattle.decide_eq.specs.declared.members.Members.{Members}
use Rattle.decide_eq.proofs.PlainShapes.{at-family, plain-shape, passed, plain-indices}
use Rattle.decide_eq.proofs.Proving.{AreThere, there-in, first-order-at, proofs-counted, proved-along}
use Rattle.decide_eq.proofs.Targets.{target-there}

-- ---- binders

binds-decisions : (d : DecidedFamily) (j depth count k : ℕ) (t b : Term) → Binds k t b → Binds (count + k) (decisions_over d Function j depth count t) b
binds-decisions d j depth zero k t b rest = subst (λ m. Binds m t b) (omega arith) rest
binds-decisions d j depth (suc count) k t b rest =
    subst (λ m. Binds m (decisions_over d Function j depth (suc count) t) b) (omega arith)
    (one (deciding_parameter d j depth) (binds-decisions d (j + 1) (depth + 1) count k t b rest))

binds-hypotheses : (d : DecidedFamily) (start depth : ℕ) (arguments : List ArgumentShape) (k : ℕ) (t b : Term) → Binds k t b → Binds (recursive_count arguments + k) (hypotheses_over d start depth arguments t) b
binds-hypotheses d start depth [] k t b rest = subst (λ m. Binds m t b) (omega arith) rest
binds-hypotheses d start depth (a ∷ arguments) k t b rest =
    go a.kind (binds-hypotheses d (start + 1) depth arguments k t b rest) (binds-hypotheses d (start + 1) (depth + 1) arguments k t b rest)
  where
    go : (kind : ArgKind) → Binds (recursive_count arguments + k) (hypotheses_over d (start + 1) depth arguments t) b
        → Binds (recursive_count arguments + k) (hypotheses_over d (start + 1) (depth + 1) arguments t) b
        → Binds (by_kind kind (recursive_count arguments) (λ inner. recursive_count arguments + 1) + k)
        (by_kind kind (hypotheses_over d (start + 1) depth arguments t)
        (λ inner. Lam (deciding_from d (variable (depth + 1) start) depth) (hypotheses_over d (start + 1) (depth + 1) arguments t))) b
    go Plain front back = front
    go (Recursive inner) front back =
        subst (λ m. Binds m (Lam (deciding_from d (variable (depth + 1) start) depth) (hypotheses_over d (start + 1) (depth + 1) arguments t)) b) (omega arith)
        (one (deciding_from d (variable (depth + 1) start) depth) back)

-- ---- spines of methods

methods_of : (s : ℕ → Term) (method : ℕ → ConstructorShape → Term) (number : ℕ) → List ConstructorShape → List Term
methods_of s method number [] = []
methods_of s method number (c ∷ cs) = inst s (method number c) ∷ methods_of s method (number + 1) cs

methods-spine : (s : ℕ → Term) (method : ℕ → ConstructorShape → Term) (number : ℕ) (h : Term) (cs : List ConstructorShape) → inst s (applied_to_methods method number h cs) ≡ applied (inst s h) (methods_of s method number cs)
unfolding methods_of
methods-spine s method number h [] = refl
methods-spine s method number h (c ∷ cs) = methods-spine s method (number + 1) (App h (method number c)) cs

length-methods : (s : ℕ → Term) (method : ℕ → ConstructorShape → Term) (number : ℕ) (cs : List ConstructorShape) → length (methods_of s method number cs) ≡ length cs
unfolding methods_of
length-methods s method number [] = refl
length-methods s method number (c ∷ cs) = ap suc (length-methods s method (number + 1) cs)

method-at : (s : ℕ → Term) (method : ℕ → ConstructorShape → Term) (number i : ℕ) (cs : List ConstructorShape) (c : ConstructorShape) → slice_get cs i ≡ Some c → slice_get (methods_of s method number cs) i ≡ Some (inst s (method (number + i) c))
unfolding methods_of
method-at s method number i [] c at = absurd (none-some c at)
method-at s method number zero (d ∷ cs) c at =
    let here : number ≡ number + 0 = omega arith in ap₂ (λ k x. Some (inst s (method k x))) here (some_is at)
method-at s method number (suc i) (d ∷ cs) c at =
    let here : number + 1 + i ≡ number + suc i = omega arith in method-at s method (number + 1) i cs c at ∙ ap (λ k. Some (inst s (method k c))) here

-- a symbol at the parameters ps and at a run of variables
symbol-in : {ps : List Term} (p : ℕ) (terms : List Term) (symbol : Term) (depth start count : ℕ) (us : List Term) → inst (fill no_variable terms) symbol ≡ symbol → map (inst (fill no_variable terms)) (run depth 0 p) ≡ ps
    → map (inst (fill no_variable terms)) (run depth start count) ≡ us → inst (fill no_variable terms) (applied (applied symbol (run depth 0 p)) (run depth start count)) ≡ applied symbol (ps ++ us)
symbol-in {ps} p terms symbol depth start count us closed parameters there =
    let q = fill no_variable terms in
    inst-applied q (applied symbol (run depth 0 p)) (run depth start count)
    ∙ (ap₂ applied (inst-applied q symbol (run depth 0 p) ∙ ap₂ applied closed parameters) there ∙ sym (applied-append symbol ps us))

-- ---- the decision at the one term

decision-depth : (ps ds : List Term) (x : Term) (p : ℕ) → length ps ≡ p → length ds ≡ p → p + p + 1 ≡ length (first_terms ps ds x)
decision-depth ps ds x p e g = let a = length-append ps (ds ++ x ∷ []) in let b = length-append ds (x ∷ []) in omega arith

pub decision-unfolds : DecisionUnfolds
decision-unfolds S n f into known analysis confusions decision has ps ds x parameters decisions =
    let shape = family_shape n f in
    let d = decided_family analysis n shape into in
    let p = length f.parameters in
    let inside = p + p + 1 in
    let terms = first_terms ps ds x in
    let body = App (eliminated d confusions known shape.constructors inside) (variable inside (p + p)) in
    let deep : inside ≡ length terms = decision-depth ps ds x p parameters decisions in
    let there : inst (fill no_variable terms) (variable inside (p + p)) ≡ x =
    variable-filled no_variable terms (ps ++ ds) x [] inside (p + p) (sym (append_assoc ps ds (x ∷ []))) deep (let a = length-append ps ds in omega arith) in
    converts-trans
    (constant-unfolds has.bodies has.entry
    (binds-functions f.parameters (p + 1) (p + (p + 1)) _ body refl (binds-decisions d 0 p p 1 (Lam (whole_type d (p + p)) body) _ (one (whole_type d (p + p)) none)))
    (omega arith) terms (omega (arith, deep)))
    (converts-from (ap (App (unfolded d confusions known shape ps ds x)) there))

-- ---- the decision at two constructors

module _ (S : Signature) (n : ℕ) (f : Family) (into : ℕ) (known : Known) (analysis : ℕ) (confusions : ℕ → ℕ) (decision : ℕ) (has : HasDecision S n f into known analysis confusions decision)
    (i : ℕ) (c : Constructor) (j : ℕ) (e : Constructor) (ps ds qs us rs vs : List Term) (at : AreDecided f i c j e ps ds qs us rs vs) where
  abbrev shape : Shape
  shape = family_shape n f

  abbrev d : DecidedFamily
  d = decided_family analysis n shape into

  abbrev p : ℕ
  p = length f.parameters

  abbrev l : ℕ
  l = f.level

  abbrev first : ConstructorShape
  first = constructor_shape n f c

  abbrev second : ConstructorShape
  second = constructor_shape n f e

  abbrev x : Term
  x = applied (Con n i) (qs ++ us)

  abbrev y : Term
  y = applied (Con n j) (rs ++ vs)

  first_count : length first.arguments ≡ length c.arguments
  first_count = shapes-length n f 0 c.arguments

  second_count : length second.arguments ≡ length e.arguments
  second_count = shapes-length n f 0 e.arguments

  constructor_count : length shape.constructors ≡ length f.constructors
  constructor_count = length-map f.constructors (constructor_shape n f)

  no_index : length f.indices ≡ 0
  no_index = plain-indices S n into known f has.family has.plain

  -- x is eliminated

  abbrev inside : ℕ
  inside = p + p + 1

  abbrev args : List Term
  args = ps ++ (ds ++ x ∷ [])

  abbrev s : ℕ → Term
  s = fill no_variable args

  deep : inside ≡ length args
  deep =
      let a = length-append ps (ds ++ x ∷ []) in
      let b = length-append ds (x ∷ []) in
      let g = at.parameters in
      let h = at.decisions in
      omega arith

  parameters_there : map (inst s) (run inside 0 p) ≡ ps
  parameters_there = run-filled no_variable args [] ps (ds ++ x ∷ []) inside 0 p refl deep refl (sym at.parameters)

  abbrev methods : List Term
  methods = methods_of s (method d confusions known shape.constructors inside) 0 shape.constructors

  abbrev motive : Term
  motive = inst s (decision_motive d inside)

  abbrev head : Term
  head = App (applied (Elim n l) (run inside 0 p)) (decision_motive d inside)

  unfolded-there : unfolded d confusions known shape ps ds x ≡ applied (Elim n l) (ps ++ motive ∷ methods)
  unfolded-there =
      methods-spine s (method d confusions known shape.constructors inside) 0 head shape.constructors
      ∙ (ap (λ z. applied (App z motive) methods) (inst-applied s (Elim n l) (run inside 0 p) ∙ ap (applied (Elim n l)) parameters_there)
      ∙ sym (applied-append (Elim n l) ps (motive ∷ methods)))

  unfolds : Converts S (applied (Const decision) args) (App (applied (Elim n l) (ps ++ motive ∷ (methods ++ []))) x)
  unfolds =
      converts-trans (decision-unfolds S n f into known analysis confusions decision has ps ds x at.parameters at.decisions)
      (converts-from (ap (λ z. App z x) (unfolded-there ∙ ap (λ ms. applied (Elim n l) (ps ++ motive ∷ ms)) (sym (append-none methods)))))

  first_there : slice_get shape.constructors i ≡ Some first
  first_there = slice_get-map (constructor_shape n f) f.constructors i ∙ ap (option_map (constructor_shape n f)) at.first

  abbrev taken : Term
  taken = inst s (method d confusions known shape.constructors inside i first)

  redex : IsIotaRedex f c ps methods [] qs us
  redex = record {
    parameters = at.parameters;
    methods = length-methods s (method d confusions known shape.constructors inside) 0 shape.constructors ∙ constructor_count;
    indices = sym no_index;
    constructor_parameters = at.first_parameters;
    arguments = at.first_arguments;
  }

  abbrev hs : List Term
  hs = hypotheses (fill no_variable ps) (applied (Elim n l) (ps ++ motive ∷ methods)) c.arguments us

  contracts : Converts S (App (applied (Elim n l) (ps ++ motive ∷ (methods ++ []))) x) (applied taken (us ++ hs))
  contracts =
      forwards (here (iota n l i f c ps motive methods [] qs us has.family at.first redex
      (method-at s (method d confusions known shape.constructors inside) 0 i shape.constructors first first_there ∙ ap (λ k. Some (inst s (method d confusions known shape.constructors inside k first))) (omega arith)))) same

  -- y is analysed

  abbrev a : ℕ
  a = length first.arguments

  abbrev r : ℕ
  r = recursive_count first.arguments

  abbrev h : ℕ
  h = inside + a

  abbrev under : ℕ
  under = h + r + 1

  abbrev further : List Term
  further = us ++ (hs ++ y ∷ [])

  abbrev all : List Term
  all = args ++ further

  abbrev t : ℕ → Term
  t = fill no_variable all

  counted : length hs ≡ r
  counted = length-hypotheses n f 0 (fill no_variable ps) (applied (Elim n l) (ps ++ motive ∷ methods)) c.arguments us at.first_arguments

  us_counted : length us ≡ a
  us_counted = at.first_arguments ∙ sym first_count

  further_counted : length further ≡ a + (r + 1)
  further_counted =
      let k = length-append us (hs ++ y ∷ []) in let m = length-append hs (y ∷ []) in let g = counted in let q = us_counted in omega arith

  all_deep : under ≡ length all
  all_deep = let k = length-append args further in let g = deep in let m = further_counted in omega arith

  abbrev left : Member
  left = member_of i inside first

  abbrev analysis_head : Term
  analysis_head = App (applied (Const analysis) (run under 0 p)) (analysis_motive d left under)

  abbrev analysis_body : Term
  analysis_body = App (applied_to_methods (branch d confusions known left h under) 0 analysis_head shape.constructors) (variable under (h + r))

  taken-unfolds : Converts S (applied taken further) (inst (fill s further) analysis_body)
  taken-unfolds =
      beta-all
      (binds-over ((0, p) ∷ (inside, a) ∷ []) p inside (types_of first.arguments) (r + 1) (length (types_of first.arguments) + (r + 1)) _ analysis_body refl
      (binds-hypotheses d inside h first.arguments 1 _ analysis_body (one (whole_type d (h + r)) none))) s further
      (let k = further_counted in let m = length-map first.arguments (λ z. z.type) in omega arith)

  abbrev branches : List Term
  branches = methods_of t (branch d confusions known left h under) 0 shape.constructors

  abbrev branch_motive : Term
  branch_motive = inst t (analysis_motive d left under)

  all_parts : all ≡ ps ++ ((ds ++ x ∷ []) ++ further)
  all_parts = append_assoc ps (ds ++ x ∷ []) further

  all_parameters : map (inst t) (run under 0 p) ≡ ps
  all_parameters = run-filled no_variable all [] ps ((ds ++ x ∷ []) ++ further) under 0 p all_parts all_deep refl (sym at.parameters)

  y_there : inst t (variable under (h + r)) ≡ y
  y_there =
      variable-filled no_variable all (args ++ (us ++ hs)) y [] under (h + r)
      (ap (λ zs. args ++ zs) (sym (append_assoc us hs (y ∷ []))) ∙ sym (append_assoc args (us ++ hs) (y ∷ []))) all_deep
      (let k = length-append args (us ++ hs) in let m = length-append us hs in let g = deep in let q = counted in let o = us_counted in omega arith)

  analysis_there : inst (fill s further) analysis_body ≡ applied (Const analysis) (ps ++ branch_motive ∷ (branches ++ ([] ++ y ∷ [])))
  analysis_there =
      inst-same analysis_body (λ v. sym (fill-append no_variable args further v))
      ∙ (ap₂ App
      (methods-spine t (branch d confusions known left h under) 0 analysis_head shape.constructors
      ∙ ap (λ z. applied (App z branch_motive) branches) (inst-applied t (Const analysis) (run under 0 p) ∙ ap (applied (Const analysis)) all_parameters))
      y_there
      ∙ sym (applied-append (Const analysis) ps (branch_motive ∷ (branches ++ y ∷ []))
      ∙ applied-append (App (applied (Const analysis) ps) branch_motive) branches (y ∷ [])))

  second_there : slice_get shape.constructors j ≡ Some second
  second_there = slice_get-map (constructor_shape n f) f.constructors j ∙ ap (option_map (constructor_shape n f)) at.second

  abbrev chosen : Term
  chosen = inst t (branch d confusions known left h under j second)

  cases : IsCaseAt f j e chosen ps branches [] rs vs
  cases = record {
    constructor = at.second;
    method_there = method-at t (branch d confusions known left h under) 0 j shape.constructors second second_there ∙ ap (λ k. Some (inst t (branch d confusions known left h under k second))) (omega arith);
    parameters = at.parameters;
    methods = length-methods t (branch d confusions known left h under) 0 shape.constructors ∙ constructor_count;
    indices = sym no_index;
    constructor_parameters = at.second_parameters;
    arguments = at.second_arguments;
  }

  -- the two are compared

  abbrev b : ℕ
  b = length second.arguments

  abbrev whole : ℕ
  whole = under + b

  abbrev m : Members
  m = record { left = left; right = member_of j under second }

  abbrev outcome : Term
  outcome = cond (j == i) (compared d confusions known m 0 h whole second second.arguments) (different d confusions m whole)

  vs_counted : length vs ≡ b
  vs_counted = at.second_arguments ∙ sym second_count

  chosen-unfolds : Converts S (applied chosen vs) (inst (fill t vs) outcome)
  chosen-unfolds =
      beta-all
      (binds-over ((0, p) ∷ (under, b) ∷ []) p under (types_of second.arguments) 0 (length (types_of second.arguments) + 0) outcome outcome refl none) t vs
      (let k = vs_counted in let o = length-map second.arguments (λ z. z.type) in omega arith)

  abbrev every : List Term
  every = all ++ vs

  abbrev w : ℕ → Term
  w = fill no_variable every

  split-decision : decision_at n decision i j ps ds qs us rs vs ≡ applied (applied (Const decision) args) (y ∷ [])
  split-decision =
      ap (applied (Const decision)) (ap (λ zs. ps ++ zs) (sym (append_assoc ds (x ∷ []) (y ∷ []))) ∙ sym (append_assoc ps (ds ++ x ∷ []) (y ∷ [])))
      ∙ applied-append (Const decision) args (y ∷ [])

  computes : Converts S (decision_at n decision i j ps ds qs us rs vs) (inst w outcome)
  computes =
      converts-trans (converts-from split-decision)
      (converts-trans (converts-applied (y ∷ []) (converts-trans unfolds contracts))
      (converts-trans (converts-from (sym (applied-append taken (us ++ hs) (y ∷ [])) ∙ ap (applied taken) (append_assoc us hs (y ∷ []))))
      (converts-trans taken-unfolds
      (converts-trans (converts-from analysis_there)
      (converts-trans (case-computes S n f l analysis has.bodies has.family has.cases j e branch_motive chosen ps branches [] rs vs cases)
      (converts-trans chosen-unfolds (converts-from (inst-same outcome (λ v. sym (fill-append no_variable all vs v))))))))))

  -- the claim

  every_deep : whole ≡ length every
  every_deep = let k = length-append all vs in let g = all_deep in let q = vs_counted in omega arith

  every_parts : every ≡ ps ++ (((ds ++ x ∷ []) ++ further) ++ vs)
  every_parts = ap (λ zs. zs ++ vs) all_parts ∙ append_assoc ps ((ds ++ x ∷ []) ++ further) vs

  further_parts : every ≡ args ++ (us ++ ((hs ++ y ∷ []) ++ vs))
  further_parts = append_assoc args further vs ∙ ap (λ zs. args ++ zs) (append_assoc us (hs ++ y ∷ []) vs)

  -- the claim, where more terms may follow
  claim-in : (terms rest : List Term) (deepest : ℕ) → terms ≡ every ++ rest → deepest ≡ length terms → inst (fill no_variable terms) (members_equal d m deepest) ≡ claim_at n l i j ps us vs
  claim-in terms rest deepest is reached =
      let q = fill no_variable terms in
      let parameters : map (inst q) (run deepest 0 p) ≡ ps =
      run-filled no_variable terms [] ps ((((ds ++ x ∷ []) ++ further) ++ vs) ++ rest) deepest 0 p
      (is ∙ (ap (λ zs. zs ++ rest) every_parts ∙ append_assoc ps (((ds ++ x ∷ []) ++ further) ++ vs) rest)) reached refl (sym at.parameters) in
      let lefts : map (inst q) (run deepest inside a) ≡ us =
      run-filled no_variable terms args us (((hs ++ y ∷ []) ++ vs) ++ rest) deepest inside a
      (is
      ∙ (ap (λ zs. zs ++ rest) further_parts
      ∙ (append_assoc args (us ++ ((hs ++ y ∷ []) ++ vs)) rest ∙ ap (λ zs. args ++ zs) (append_assoc us ((hs ++ y ∷ []) ++ vs) rest)))) reached deep (sym us_counted) in
      let rights : map (inst q) (run deepest under b) ≡ vs =
      run-filled no_variable terms all vs rest deepest under b (is ∙ append_assoc all vs rest) reached all_deep (sym vs_counted) in
      ap₂ App
      (ap₂ App (ap (App (Fam (equality l))) (symbol-in p terms (Fam n) deepest 0 0 [] refl parameters refl ∙ ap (applied (Fam n)) (append-none ps)))
      (symbol-in p terms (Con n i) deepest inside a us refl parameters lefts))
      (symbol-in p terms (Con n j) deepest under b vs refl parameters rights)

  claim_there : inst w (members_equal d m whole) ≡ claim_at n l i j ps us vs
  claim_there = claim-in every [] whole (sym (append-none every)) every_deep

  abbrev refutation : Term
  refutation = inst w (Lam (members_equal d m whole) (confusion d confusions m (whole + 1)))

  apart-refuted : (j == i) ≡ false → Converts S (decision_at n decision i j ps ds qs us rs vs) (App (App (Con into 1) (claim_at n l i j ps us vs)) refutation)
  apart-refuted test =
      converts-trans
      (subst (λ z. Converts S (decision_at n decision i j ps ds qs us rs vs) (inst w (cond z (compared d confusions known m 0 h whole second second.arguments) (different d confusions m whole)))) test computes)
      (converts-from (ap (λ z. App (App (Con into 1) z) refutation) claim_there))

  -- the terms at their levels

  lefts_in : AreThere every (inside + 0) us
  lefts_in = there-in every args us ((hs ++ y ∷ []) ++ vs) (inside + 0) further_parts (let g = deep in omega arith)

  rights_in : AreThere every (under + 0) vs
  rights_in = there-in every all vs [] (under + 0) (ap (λ zs. all ++ zs) (sym (append-none vs))) (let g = all_deep in omega arith)

  hypotheses_in : AreThere every h hs
  hypotheses_in =
      there-in every (args ++ us) hs ((y ∷ []) ++ vs) h
      (further_parts ∙ (ap (λ zs. args ++ (us ++ zs)) (append_assoc hs (y ∷ []) vs) ∙ sym (append_assoc args us (hs ++ ((y ∷ []) ++ vs)))))
      (let k = length-append args us in let g = deep in let o = us_counted in omega arith)

  decisions_in : AreThere every p ds
  decisions_in =
      there-in every ps ds ((x ∷ [] ++ further) ++ vs) p
      (every_parts ∙ ap (λ zs. ps ++ zs) (ap (λ zs. zs ++ vs) (append_assoc ds (x ∷ []) further) ∙ append_assoc ds (x ∷ [] ++ further) vs)) (sym at.parameters)

  same_hypotheses : hs ≡ hypotheses_at d confusions known shape ps ds x c.arguments us
  same_hypotheses = ap (λ R. hypotheses (fill no_variable ps) R c.arguments us) (sym unfolded-there)

-- ---- the law

pub different-are-refuted : DifferentAreRefuted
different-are-refuted S n f into known analysis confusions decision has i c j e ps ds qs us rs vs at apart = (
  refutation S n f into known analysis confusions decision has i c j e ps ds qs us rs vs at,
  apart-refuted S n f into known analysis confusions decision has i c j e ps ds qs us rs vs at (test-false j i (λ same. apart (sym same))),
)

pub equal-are-proved : EqualAreProved
equal-are-proved S n f into known analysis confusions decision has i c ps ds qs us rs vs es at shown =
    let shape = family_shape n f in
    let d = decided_family analysis n shape into in
    let first = constructor_shape n f c in
    let p = length f.parameters in
    let l = f.level in
    let a = length first.arguments in
    let x = applied (Con n i) (qs ++ us) in
    let y = applied (Con n i) (rs ++ vs) in
    let start = p + p + 1 in
    let second = start + a + recursive_count first.arguments + 1 in
    let both : Members = record { left = member_of i start first; right = member_of i second first } in
    let given = hs S n f into known analysis confusions decision has i c i c ps ds qs us rs vs at in
    let terms = every S n f into known analysis confusions decision has i c i c ps ds qs us rs vs at in
    let same_given : given ≡ hypotheses_at d confusions known shape ps ds x c.arguments us = same_hypotheses S n f into known analysis confusions decision has i c i c ps ds qs us rs vs at in
    let shown_given : AreProved S into known p ds 0 first.arguments us vs given es = subst (λ z. AreProved S into known p ds 0 first.arguments us vs z es) (sym same_given) shown in
    let reached = every_deep S n f into known analysis confusions decision has i c i c ps ds qs us rs vs at in
    let order = first-order-at S known l p 0 shape.constructors i first (passed S into known shape (plain-shape S n into known f (at-family S n f has.family) has.plain)).arguments
    (first_there S n f into known analysis confusions decision has i c i c ps ds qs us rs vs at) in
    let along = proved-along S d confusions known both first l (target-there S n into known f has.family has.plain) ds at.decisions terms 0 (start + a) (second + a) first.arguments us vs given es reached
    (lefts_in S n f into known analysis confusions decision has i c i c ps ds qs us rs vs at) (rights_in S n f into known analysis confusions decision has i c i c ps ds qs us rs vs at)
    (hypotheses_in S n f into known analysis confusions decision has i c i c ps ds qs us rs vs at) (decisions_in S n f into known analysis confusions decision has i c i c ps ds qs us rs vs at)
    (counted S n f into known analysis confusions decision has i c i c ps ds qs us rs vs at) order shown_given in
    let many : length es ≡ a = proofs-counted S into known p ds 0 first.arguments us vs given es shown_given in
    let claim = claim-in S n f into known analysis confusions decision has i c i c ps ds qs us rs vs at (terms ++ es) es (second + a + length es) refl (omega (arith, reached, length-append terms es)) in
    let same_depth : second + a + length es ≡ second + a + a = ap (λ k. second + a + k) many in
    converts-trans
    (subst (λ z. Converts S (decision_at n decision i i ps ds qs us rs vs) (inst (fill no_variable terms) (cond z (compared d confusions known both 0 (start + a) (second + a) first first.arguments) (different d confusions both (second + a))))) (test-true i i refl)
    (computes S n f into known analysis confusions decision has i c i c ps ds qs us rs vs at))
    (converts-trans along
    (converts-from
    (ap₂ (λ A B. App (App (Con into 0) A) B) claim
    (ap₂ (λ z k. inst (fill no_variable (((first_terms ps ds x ++ (us ++ (z ++ y ∷ []))) ++ vs) ++ es)) (congruence d both k first)) same_given same_depth))))
