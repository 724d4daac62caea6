-- The entry that decides the equality of a family of a scoped signature is scoped.
use Rattle.std.proofs.Common.{◌≡◌, ◌≢◌, ℕ, zero, suc, ◌+◌, ◌<◌, ◌≤◌, ◌==◌, nat_lt, Bool, true, false, cond, List, [], ◌∷◌, ◌++◌, length, map, All, IfOk, Ok, Some, slice_get, refl, sym, ap, subst as transport, inr, arith, codes}
use Rattle.std.proofs.lemmas.Bool.Decides.{nat_tests}
use Rattle.std.proofs.lemmas.List.{length-map, length-append}
use Rattle.std.proofs.lemmas.List.Elements.{All-head, All-tail}
use Rattle.theory.specs.Terms.{Term, top}
use Rattle.theory.specs.Terms.Term.{Lam, App, Const, Elim}
use Rattle.theory.specs.Telescopes.{applied}
use Rattle.theory.specs.Families.{Family, Constructor}
use Rattle.theory.specs.Prelude.{prelude, empty_type, empty_family, equality_family}
use Rattle.theory.specs.Signatures.{Signature, FamilyOf, IsEntryAt, IsPrefix, equality}
use Rattle.theory.specs.SignatureScopes.{IsConstructorNumber, IsScopedSignature}
use Rattle.theory.proofs.PreludeWellFormed.{equality_at}
use Rattle.theory.proofs.Widening.{prefix_keeps}
use Rattle.core_terms.specs.Levels.{variable, run}
use Rattle.core_terms.specs.declared.levels.Binder.{Binder}
use Rattle.core_terms.specs.declared.levels.Binder.TheVariants.{Product, Function}
use Rattle.core_sig.specs.Drafts.{drafted, generated_name}
use Rattle.core_sig.specs.FamilyShapes.{family_shape, constructor_shape}
use Rattle.core_sig.specs.ScopedDrafts.{IsScopedDraft}
use Rattle.core_sig.specs.Shapes.{ArgumentShape, ConstructorShape, Shape, by_kind, recursive_count}
use Rattle.core_sig.specs.declared.family.ArgKind.{ArgKind}
use Rattle.core_sig.specs.declared.family.ArgKind.TheVariants.{Plain as PlainKind, Recursive as RecursiveKind}
use Rattle.core_sig.proofs.PlacedDrafts.{lam-draft, app-draft, draft-more, draft-longer, name-draft, variable-draft, at-run-draft}
use Rattle.core_sig.proofs.ScopedDrafts.{drafted-scoped}
use Rattle.core_sig.proofs.ShapeScopes.{IsDraftConstructor, IsDraftShape, elim-draft, family-draft}
use Rattle.case_below_gen.specs.CourseEntries.{applied_to_methods}
use Rattle.case_below_gen.proofs.ScopedCases.{closed_over-draft, constructor-over-draft, arguments-behind}
use Rattle.case_below_gen.proofs.ShapeLevels.{AreLowArguments, shape-levels}
use Rattle.tele_eq.proofs.Growing.{snoc-append}
use Rattle.generators.proofs.noconf_gen.ScopedMembers.{Drafted}
use Rattle.decide_eq.specs.Comparisons.{confusions_of, member_at, different, compared}
use Rattle.decide_eq.specs.DecisionEntries.{member_of, branch, analysis_motive, analysed, hypotheses_over, method, decision_motive, eliminated, decision_term, has_confusions, confusion_name, names_for, decided_family, decision_entry}
use Rattle.decide_eq.specs.PlainFamilies.{Known, IsDecided, plain_family}
use Rattle.decide_eq.specs.Statements.{whole_type, equal, deciding_from, deciding, decisions_over, parameters_over, decision_type}
use Rattle.decide_eq.specs.declared.decided_family.DecidedFamily.{DecidedFamily}
use Rattle.decide_eq.specs.declared.members.Members.{Members}
use Rattle.decide_eq.proofs.PlainShapes.{at-family, plain-level, decision-there}
use Rattle.decide_eq.proofs.ScopedComparisons.{Named, IsDeciding, AreMembersIn, whole_type-draft, equal-draft, decision_of-draft, deciding_from-draft, deciding-draft, decisions_over-draft, member_at-draft, different-draft, compared-draft}

-- ---- the names

-- the constants that the term mentions are names of the draft: that of the case analysis, and where it mentions no confusions those of
-- all constructors
pub record HasNames (S : Signature) (count : ℕ) (d : DecidedFamily) (confusions : ℕ → ℕ) (constructors : List ConstructorShape) : Type 0 where
  pub analysis : d.analysis ≡ length S.entries
  pub cases : 0 < length constructors → 0 < count
  pub named : has_confusions constructors ≡ true → (i : ℕ) → i < length constructors → Named S count (confusions i)

confused-two : (cs : List ConstructorShape) (i j : ℕ) → i < length cs → j < length cs → i ≢ j → has_confusions cs ≡ true
confused-two [] i j li lj apart = absurd (omega arith)
confused-two (c ∷ []) i j li lj apart = absurd (apart (omega arith))
confused-two (c ∷ e ∷ cs) i j li lj apart = refl

confused-own : (cs : List ConstructorShape) (i : ℕ) (c : ConstructorShape) → slice_get cs i ≡ Some c → 0 < length c.arguments → has_confusions cs ≡ true
confused-own [] i c at some = absurd cc
confused-own (e ∷ []) zero c at some =
    let same : e ≡ c = cc in
    transport (λ (x : ConstructorShape). nat_lt 0 (length x.arguments) ≡ true) (sym same) (grind (arith, nat_tests))
confused-own (e ∷ []) (suc i) c at some = absurd cc
confused-own (e ∷ b ∷ cs) i c at some = refl

-- ---- one constructor

-- a constructor of the family with its number
pub record IsConstructor (S : Signature) (count : ℕ) (d : DecidedFamily) (cs : List ConstructorShape) (number : ℕ) (c : ConstructorShape) : Type 0 where
  pub there : slice_get cs number ≡ Some c
  pub below : number < length cs
  pub known : IsConstructorNumber S d.family number
  pub terms : IsDraftConstructor S (length S.entries) count d.params c
  pub levels : AreLowArguments c.arguments

-- constructors with their numbers, from one on
abbrev pub AreConstructors : (S : Signature) (count : ℕ) (d : DecidedFamily) (cs : List ConstructorShape) (number : ℕ) → List ConstructorShape → Type 0
AreConstructors S count d cs number [] = Unit {0}
AreConstructors S count d cs number (c ∷ constructors) = IsConstructor S count d cs number c × AreConstructors S count d cs (number + 1) constructors

same-constructor : (cs : List ConstructorShape) (i j : ℕ) (c e : ConstructorShape) → slice_get cs i ≡ Some c → slice_get cs j ≡ Some e → i ≡ j → c ≡ e
same-constructor cs i j c e at there same =
    let both : slice_get cs i ≡ Some e = transport (λ k. slice_get cs k ≡ Some e) (sym same) there in
    cc

-- constructor i at arguments from `start` on, and constructor j at arguments from `depth` on
abbrev two : (i start : ℕ) → ConstructorShape → (j depth : ℕ) → ConstructorShape → Members
two i start c j depth e = record { left = member_of i start c; right = member_of j depth e }

branch-draft : {S : Signature} {count : ℕ} {known : Known} (d : DecidedFamily) (confusions : ℕ → ℕ) (cs : List ConstructorShape) (i start h depth j : ℕ) (c e : ConstructorShape) → IsDeciding S count d known → HasNames S count d confusions cs → IsConstructor S count d cs i c → IsConstructor S count d cs j e
    → d.params + d.params ≤ start → start + length c.arguments ≤ depth → h + recursive_count c.arguments ≤ depth → Drafted S count depth (branch d confusions known (member_of i start c) h depth j e)
branch-draft {S} {count} {known} d confusions cs i start h depth j c e is names own other behind spine hyps =
    constructor-over-draft Function d.params depth e (cond (j == i) (compared d confusions known (two i start c j depth e) 0 h (depth + length e.arguments) e e.arguments) (different d confusions (two i start c j depth e) (depth + length e.arguments))) other.terms
    (omega arith) (by (j == i) refl)
  where
    by : (b : Bool) → (j == i) ≡ b → Drafted S count (depth + length e.arguments) (cond b (compared d confusions known (two i start c j depth e) 0 h (depth + length e.arguments) e e.arguments) (different d confusions (two i start c j depth e) (depth + length e.arguments)))
    by true t =
        let inside = depth + length e.arguments in
        let members : AreMembersIn S d inside (two i start c j depth e) = record { left = record { known = own.known; spine = omega arith }; right = record { known = other.known; spine = omega arith } } in
        let number : i ≡ j = grind (arith, nat_tests) in
        let same : c ≡ e = same-constructor cs i j c e own.there other.there number in
        let few : length c.arguments ≡ length e.arguments = ap (λ (x : ConstructorShape). length x.arguments) same in
        let many : recursive_count c.arguments ≡ recursive_count e.arguments = ap (λ (x : ConstructorShape). recursive_count x.arguments) same in
        compared-draft d confusions (two i start c j depth e) 0 h inside e e.arguments is
        (λ some. names.named (confused-own cs j e other.there some) i own.below)
        (record { terms = other.terms; levels = other.levels; left = few; right = refl; behind = behind })
        (omega arith) members (omega arith) (omega arith) (omega arith) (arguments-behind e other.terms)
    by false t =
        let inside = depth + length e.arguments in
        let members : AreMembersIn S d inside (two i start c j depth e) = record { left = record { known = own.known; spine = omega arith }; right = record { known = other.known; spine = omega arith } } in
        let apart : i ≢ j = λ eq. absurd (grind (arith, nat_tests)) in
        different-draft d confusions (two i start c j depth e) inside is (names.named (confused-two cs i j own.below other.below apart) i own.below) (omega arith) members

branches-draft : {S : Signature} {count : ℕ} {known : Known} (d : DecidedFamily) (confusions : ℕ → ℕ) (cs : List ConstructorShape) (i start h depth j : ℕ) (c : ConstructorShape) (head : Term) (constructors : List ConstructorShape) → IsDeciding S count d known → HasNames S count d confusions cs → IsConstructor S count d cs i c
    → AreConstructors S count d cs j constructors → d.params + d.params ≤ start → start + length c.arguments ≤ depth → h + recursive_count c.arguments ≤ depth → Drafted S count depth head
    → Drafted S count depth (applied_to_methods (branch d confusions known (member_of i start c) h depth) j head constructors)
branches-draft d confusions cs i start h depth j c head [] is names own all behind spine hyps drafted = drafted
branches-draft {S} {count} {known} d confusions cs i start h depth j c head (e ∷ constructors) is names own all behind spine hyps drafted =
    branches-draft d confusions cs i start h depth (j + 1) c (App head (branch d confusions known (member_of i start c) h depth j e)) constructors is names own all.1 behind spine hyps
    (app-draft drafted (branch-draft d confusions cs i start h depth j c e is names own all.0 behind spine hyps))

analysed-draft : {S : Signature} {count : ℕ} {known : Known} (d : DecidedFamily) (confusions : ℕ → ℕ) (cs : List ConstructorShape) (i start h depth : ℕ) (c : ConstructorShape) → IsDeciding S count d known → HasNames S count d confusions cs → IsConstructor S count d cs i c → AreConstructors S count d cs 0 cs
    → d.params + d.params ≤ start → start + length c.arguments ≤ depth → h + recursive_count c.arguments ≤ depth → Drafted S count depth (analysed d confusions known cs (member_of i start c) h depth)
analysed-draft {S} {count} {known} d confusions cs i start h depth c is names own all behind spine hyps =
    let inside = depth + 1 in
    let under = inside + 1 in
    let left = member_of i start c in
    let member = member_at-draft d left under (omega arith) (record { known = own.known; spine = omega arith }) in
    let motive = lam-draft (whole_type-draft d inside is (omega arith))
    (decision_of-draft d (equal d (whole_type d under) (member_at d left under) (variable under inside)) is
    (equal-draft d (whole_type d under) (member_at d left under) (variable under inside) is (whole_type-draft d under is (omega arith)) member (variable-draft inside (omega arith)))) in
    let some : 0 < length cs = omega (arith, own.below) in
    let analysis : Drafted S count inside (applied (Const d.analysis) (run inside 0 d.params)) = at-run-draft (Const d.analysis) inside 0 d.params (omega arith) (name-draft d.analysis (omega (arith, names.analysis)) (omega (arith, names.analysis, names.cases some))) in
    lam-draft (whole_type-draft d depth is (omega arith))
    (app-draft
    (branches-draft d confusions cs i start h inside 0 c (App (applied (Const d.analysis) (run inside 0 d.params)) (analysis_motive d left inside)) cs is names own all behind (omega arith) (omega arith) (app-draft analysis motive))
    (variable-draft depth (omega arith)))

hypotheses_over-draft : {S : Signature} {count : ℕ} {known : Known} (d : DecidedFamily) (start depth : ℕ) (arguments : List ArgumentShape) (end : Term) → IsDeciding S count d known → d.params ≤ depth → start + length arguments ≤ depth → Drafted S count (depth + recursive_count arguments) end
    → Drafted S count depth (hypotheses_over d start depth arguments end)
hypotheses_over-draft d start depth [] end is low below h = draft-more (omega arith) h
hypotheses_over-draft {S} {count} {known} d start depth (a ∷ arguments) end is low below h =
    by a.kind h (hypotheses_over-draft d (start + 1) depth arguments end is low (omega arith))
    (λ k. hypotheses_over-draft d (start + 1) (depth + 1) arguments end is (omega arith) (omega arith) k)
  where
    by : (kind : ArgKind) → Drafted S count (depth + by_kind kind (recursive_count arguments) (λ inner. recursive_count arguments + 1)) end
        → (Drafted S count (depth + recursive_count arguments) end → Drafted S count depth (hypotheses_over d (start + 1) depth arguments end))
        → (Drafted S count (depth + 1 + recursive_count arguments) end → Drafted S count (depth + 1) (hypotheses_over d (start + 1) (depth + 1) arguments end))
        → Drafted S count depth (by_kind kind (hypotheses_over d (start + 1) depth arguments end)
        (λ inner. Lam (deciding_from d (variable (depth + 1) start) depth) (hypotheses_over d (start + 1) (depth + 1) arguments end)))
    by PlainKind k plain recursive = plain k
    by (RecursiveKind inner) k plain recursive =
        lam-draft (deciding_from-draft d (variable (depth + 1) start) depth is low (variable-draft start (omega arith))) (recursive (draft-more (omega arith) k))

method-draft : {S : Signature} {count : ℕ} {known : Known} (d : DecidedFamily) (confusions : ℕ → ℕ) (cs : List ConstructorShape) (depth i : ℕ) (c : ConstructorShape) → IsDeciding S count d known → HasNames S count d confusions cs → IsConstructor S count d cs i c → AreConstructors S count d cs 0 cs → d.params + d.params ≤ depth
    → Drafted S count depth (method d confusions known cs depth i c)
method-draft {S} {count} {known} d confusions cs depth i c is names own all behind =
    let inside = depth + length c.arguments in
    let under = inside + recursive_count c.arguments in
    let end = analysed d confusions known cs (member_of i depth c) inside under in
    constructor-over-draft Function d.params depth c (hypotheses_over d depth inside c.arguments end) own.terms (omega arith)
    (hypotheses_over-draft d depth inside c.arguments end is (omega arith) (omega arith)
    (analysed-draft d confusions cs i depth inside under c is names own all behind (omega arith) (omega arith)))

methods-draft : {S : Signature} {count : ℕ} {known : Known} (d : DecidedFamily) (confusions : ℕ → ℕ) (cs : List ConstructorShape) (depth i : ℕ) (head : Term) (constructors : List ConstructorShape) → IsDeciding S count d known → HasNames S count d confusions cs → AreConstructors S count d cs 0 cs → AreConstructors S count d cs i constructors
    → d.params + d.params ≤ depth → Drafted S count depth head → Drafted S count depth (applied_to_methods (method d confusions known cs depth) i head constructors)
methods-draft d confusions cs depth i head [] is names all some behind drafted = drafted
methods-draft {S} {count} {known} d confusions cs depth i head (c ∷ constructors) is names all some behind drafted =
    methods-draft d confusions cs depth (i + 1) (App head (method d confusions known cs depth i c)) constructors is names all some.1 behind
    (app-draft drafted (method-draft d confusions cs depth i c is names some.0 all behind))

-- ---- the type and the term

over-draft : {S : Signature} {count : ℕ} {known : Known} {f : Shape} (d : DecidedFamily) (binder : Binder) (end : Term) → IsDeciding S count d known → IsDraftShape S (length S.entries) count d.family f → d.params ≡ length f.parameters → Drafted S count (d.params + d.params) end
    → Drafted S count 0 (parameters_over d binder f.parameters end)
over-draft {S} {count} {known} {f} d binder end is shape params h =
    closed_over-draft binder f.parameters (decisions_over d binder 0 d.params d.params end) shape.parameters
    (draft-more (omega arith) (decisions_over-draft d binder 0 d.params d.params end is (omega arith) h))

type-draft : {S : Signature} {count : ℕ} {known : Known} {f : Shape} (d : DecidedFamily) → IsDeciding S count d known → IsDraftShape S (length S.entries) count d.family f → d.params ≡ length f.parameters → Drafted S count 0 (decision_type d f.parameters)
type-draft d is shape params =
    over-draft d Product (deciding d (d.params + d.params)) is shape params (deciding-draft d (d.params + d.params) is (omega arith))

term-draft : {S : Signature} {count : ℕ} {known : Known} {f : Shape} (d : DecidedFamily) (confusions : ℕ → ℕ) → IsDeciding S count d known → IsDraftShape S (length S.entries) count d.family f → d.params ≡ length f.parameters → HasNames S count d confusions f.constructors → AreConstructors S count d f.constructors 0 f.constructors
    → Drafted S count 0 (decision_term d confusions known f)
term-draft {S} {count} {known} {f} d confusions is shape params names all =
    let x = d.params + d.params in
    let inside = x + 1 in
    let head = App (applied (Elim d.family d.level) (run inside 0 d.params)) (decision_motive d inside) in
    let motive = lam-draft (whole_type-draft d inside is (omega arith)) (deciding_from-draft d (variable (inside + 2) inside) (inside + 1) is (omega arith) (draft-more (omega arith) (variable-draft {depth = inside + 2} inside (omega arith)))) in
    let eliminator = app-draft (at-run-draft (Elim d.family d.level) inside 0 d.params (omega arith) (elim-draft d.family d.level is.family)) motive in
    over-draft d Function (Lam (whole_type d x) (App (eliminated d confusions known f.constructors inside) (variable inside x))) is shape params
    (lam-draft (whole_type-draft d x is (omega arith))
    (app-draft (methods-draft d confusions f.constructors inside 0 head f.constructors is names all all (omega arith) eliminator) (variable-draft x (omega arith))))

-- ---- the entry

-- the constructors of a family of the signature
constructors-from : {S : Signature} {count : ℕ} (d : DecidedFamily) (earlier later : List ConstructorShape) → ((i : ℕ) → i < length (earlier ++ later) → IsConstructorNumber S d.family i) → All (IsDraftConstructor S (length S.entries) count d.params) later
    → All (λ (c : ConstructorShape). AreLowArguments c.arguments) later → AreConstructors S count d (earlier ++ later) (length earlier) later
constructors-from d earlier [] numbers terms levels = tt
constructors-from {S} {count} d earlier (c ∷ later) numbers terms levels =
    let Terms : ConstructorShape → Type 0 = IsDraftConstructor S (length S.entries) count d.params in
    let Low : ConstructorShape → Type 0 = λ c. AreLowArguments c.arguments in
    let e : (earlier ++ c ∷ []) ++ later ≡ earlier ++ c ∷ later = snoc-append earlier c later in
    let low : length earlier < length (earlier ++ c ∷ later) = omega (arith, length-append earlier (c ∷ later)) in
    let rest = constructors-from d (earlier ++ c ∷ []) later (transport (λ all. (i : ℕ) → i < length all → IsConstructorNumber S d.family i) (sym e) numbers) (All-tail Terms c later terms) (All-tail Low c later levels) in (
      record { there = behind earlier c later; below = low; known = numbers (length earlier) low; terms = All-head Terms c later terms; levels = All-head Low c later levels },
      transport (λ k. AreConstructors S count d (earlier ++ c ∷ later) k later) (length_snoc earlier c) (transport (λ all. AreConstructors S count d all (length (earlier ++ c ∷ [])) later) e rest),
    )
  where
    behind : (earlier : List ConstructorShape) (c : ConstructorShape) (later : List ConstructorShape) → slice_get (earlier ++ c ∷ later) (length earlier) ≡ Some c
    behind [] c later = refl
    behind (e ∷ earlier) c later = behind earlier c later

    length_snoc : (earlier : List ConstructorShape) (c : ConstructorShape) → length (earlier ++ c ∷ []) ≡ length earlier + 1
    length_snoc earlier c = omega (arith, length-append earlier (c ∷ []))

-- how many names there are
names-cases : (family : List ℕ) (constructors : List (List ℕ)) (f : Shape) → 0 < length f.constructors → 0 < length (names_for family constructors f)
names-cases family constructors f some =
    transport (λ b. 0 < length (cond b (generated_name family (codes "!case.") f.level ∷ cond (has_confusions f.constructors) (map (confusion_name family) constructors) []) [])) (sym yes) (omega arith)
  where
    yes : nat_lt 0 (length f.constructors) ≡ true
    yes = grind (arith, nat_tests)

confused-some : (cs : List ConstructorShape) → has_confusions cs ≡ true → 0 < length cs
confused-some [] confused = absurd cc
confused-some (c ∷ cs) confused = omega arith

names-confusions : (family : List ℕ) (constructors : List (List ℕ)) (f : Shape) → length constructors ≡ length f.constructors → has_confusions f.constructors ≡ true → length f.constructors < length (names_for family constructors f)
names-confusions family constructors f few confused =
    let some = confused-some f.constructors confused in
    let yes : nat_lt 0 (length f.constructors) ≡ true = grind (arith, nat_tests) in
    transport (λ b. length f.constructors < length (cond b (generated_name family (codes "!case.") f.level ∷ cond (has_confusions f.constructors) (map (confusion_name family) constructors) []) [])) (sym yes)
    (transport (λ b. length f.constructors < length (generated_name family (codes "!case.") f.level ∷ cond b (map (confusion_name family) constructors) [])) (sym confused)
    (omega (arith, length-map constructors (confusion_name family))))

pub decision-scoped : (S T : Signature) (name : List ℕ) (n : ℕ) (f : Family) (into : ℕ) (known : Known) → IsScopedSignature S → IsPrefix (prelude S.has_k) S → IsEntryAt S n (FamilyOf f) → plain_family S n into known ≡ Ok tt → All (IsDecided S) known → IsPrefix S T
    → IfOk (decision_entry (length S.entries) name n f into known) (IsScopedDraft T)
decision-scoped S T name n f into known scoped first at plain decided longer =
    let base = length S.entries in
    let shape = family_shape n f in
    let names = names_for f.name (map (λ c. c.name) f.constructors) shape in
    let count = length names in
    let d = decided_family base n shape into in
    let few : length (map (λ (c : Constructor). c.name) f.constructors) ≡ length shape.constructors = omega (arith, length-map f.constructors (λ (c : Constructor). c.name), length-map f.constructors (constructor_shape n f)) in
    let draft = family-draft S count n f scoped at in
    let levels = shape-levels S n f scoped at in
    let decision = decision-there S n into known f at plain in
    let low : f.level + 2 ≤ top = plain-level S n into known f (at-family S n f at) plain in
    let is : IsDeciding S count d known = record {
      first = first;
      family = (f, at);
      into = (decision.family, decision.there);
      proof = (decision.family, decision.there, omega (arith, decision.constructors));
      refutation = (decision.family, decision.there, omega (arith, decision.constructors));
      equality = (equality_family f.level, (prefix_keeps first).entry (equality f.level) (FamilyOf (equality_family f.level)) (equality_at top f.level (omega arith)));
      empty = (empty_family, (prefix_keeps first).entry empty_type (FamilyOf empty_family) refl);
      level = omega arith;
      decisions = decided;
    } in
    let named : HasNames S count d (confusions_of d) shape.constructors = record {
      analysis = refl;
      cases = names-cases f.name (map (λ c. c.name) f.constructors) shape;
      named = λ confused i lt. let many = names-confusions f.name (map (λ c. c.name) f.constructors) shape few confused in inr (omega arith, omega arith);
    } in
    let all = constructors-from d [] shape.constructors (λ i lt. draft.numbers i lt) draft.constructors levels.constructors in
    drafted-scoped T name base names (decision_type d shape.parameters) (decision_term d (confusions_of d) known shape)
    (draft-longer longer (type-draft d is draft refl)) (draft-longer longer (term-draft d (confusions_of d) is draft refl named all))
