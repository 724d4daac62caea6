-- `D!nct.c.m` and `D!noconf.c.m` for a family of a scoped signature are scoped.
use Rattle.std.proofs.Common.{◌≡◌, ℕ, ◌+◌, ◌<◌, ◌≤◌, ◌==◌, Bool, true, false, cond, List, [], ◌∷◌, length, All, IfOk, Some, slice_get, sym, ap, ◌∙◌, refl, suc, subst as transport, arith, codes}
use Rattle.std.proofs.lemmas.Bool.Decides.{nat_tests}
use Rattle.std.proofs.lemmas.List.{length-map}
use Rattle.std.proofs.lemmas.List.Elements.{All-head, All-tail}
use Rattle.std.proofs.lemmas.Option.{same_Some, slice_get-get_or}
use Rattle.theory.specs.Terms.{Term}
use Rattle.theory.specs.Terms.Term.{App, Const}
use Rattle.theory.specs.Telescopes.{applied}
use Rattle.theory.specs.Families.{Family}
use Rattle.theory.specs.Prelude.{prelude}
use Rattle.theory.specs.Signatures.{Signature, FamilyOf, IsEntryAt, IsPrefix}
use Rattle.theory.specs.SignatureScopes.{IsConstructorNumber, IsScopedSignature}
use Rattle.theory.proofs.ScopedEntries.{All-at}
use Rattle.core_terms.specs.Levels.{variable, run, over}
use Rattle.core_terms.specs.declared.levels.Binder.{Binder}
use Rattle.core_terms.specs.declared.levels.Binder.TheVariants.{Product, Function}
use Rattle.core_sig.specs.Drafts.{generated_name}
use Rattle.core_sig.specs.FamilyShapes.{constructor_shape, family_shape}
use Rattle.core_sig.specs.ScopedDrafts.{IsScopedDraft}
use Rattle.core_sig.specs.Shapes.{ConstructorShape, Shape, types_of}
use Rattle.core_sig.proofs.PlacedDrafts.{pi-draft, lam-draft, app-draft, draft-more, draft-longer, name-draft, applied-draft, variable-draft, run-draft, at-run-draft}
use Rattle.core_sig.proofs.ScopedDrafts.{drafted-scoped}
use Rattle.core_sig.proofs.ShapeScopes.{IsDraftConstructor, family-draft}
use Rattle.case_below_gen.specs.CaseEntries.{scrutinee_over, at_scrutinee}
use Rattle.case_below_gen.specs.CourseEntries.{applied_to_methods}
use Rattle.case_below_gen.proofs.ScopedCases.{closed_over-draft, scrutinee_over-draft, at_scrutinee-draft, constructor-over-draft}
use Rattle.case_below_gen.proofs.ShapeLevels.{AreLowArguments, shape-levels}
use Rattle.tele_eq.specs.TelescopicEquality.{reflexivities}
use Rattle.tele_eq.proofs.DraftScopes.{draft-reflexivities, draft-elimination}
use Rattle.generators.specs.noconf_gen.Compared.{argument_items, member_items, constructed}
use Rattle.generators.specs.noconf_gen.NoConfusionTypes.{variable_member, equations_over, motive_type, conflict_type, injection_type, confusion_type, confusion_method, members_over, nct_type, analysis_motive, nct_term, constructor_at, confusion_level, constructor_mark, constructor_name, nct_entry}
use Rattle.generators.specs.noconf_gen.NoConfusion.{reflexive_base, equal_members_over, noconf_type, elimination_from, noconf_term, noconf_entry}
use Rattle.generators.proofs.noconf_gen.ScopedMembers.{Drafted, IsCompared, IsSubject, argument_items-draft, member_items-draft, constructed-draft, equations_over-draft, motive_type-draft, injective_type-draft, concluded-draft}

-- ---- D!nct.c.m

conflict_type-draft : {S : Signature} {count n : ℕ} {f : Shape} (number second : ℕ) (c : ConstructorShape) (at : ℕ) (d : ConstructorShape) (m start depth : ℕ) → IsCompared S count n f → IsSubject S count n f number c → IsSubject S count n f at d → length f.parameters + length c.arguments ≤ second → second + length d.arguments ≤ depth → start + (length f.indices + 1) ≤ depth
    → Drafted S count depth (conflict_type n f (constructed n (length f.parameters) (length f.indices) number (length f.parameters) c) (constructed n (length f.parameters) (length f.indices) at second d) m start depth)
conflict_type-draft {S} {count} {n} {f} number second c at d m start depth is subject other low below es =
    let p = length f.parameters in
    let k = length f.indices in
    pi-draft
    (motive_type-draft (constructed n p k number p c) (constructed n p k at second d) m depth is (omega arith)
    (constructed-draft number p c depth subject (omega arith) (omega arith))
    (constructed-draft at second d depth other (omega arith) below))
    (concluded-draft k depth start (depth + 1) (omega arith) (omega arith))

injection_type-draft : {S : Signature} {count n : ℕ} {f : Shape} (number : ℕ) (c : ConstructorShape) (first second m start depth : ℕ) → IsCompared S count n f → IsSubject S count n f number c → length f.parameters ≤ first → length f.parameters ≤ second → first + length c.arguments ≤ depth → second + length c.arguments ≤ depth → start + (length f.indices + 1) ≤ depth
    → Drafted S count depth (injection_type n f number c first second m start depth)
injection_type-draft {S} {count} {n} {f} number c first second m start depth is subject one two below below' es =
    let p = length f.parameters in
    let k = length f.indices in
    pi-draft
    (motive_type-draft (constructed n p k number first c) (constructed n p k number second c) m depth is (omega arith)
    (constructed-draft number first c depth subject one below) (constructed-draft number second c depth subject two below'))
    (pi-draft
    (injective_type-draft number c first second depth (depth + 1) is subject (omega arith) (omega arith) (omega arith) (omega arith))
    (draft-more (omega arith) (concluded-draft k depth start (depth + 2) (omega arith) (omega arith))))

-- where both are the same constructor, they have as many arguments
confusion_type-draft : {S : Signature} {count n : ℕ} {f : Shape} (number : ℕ) (c : ConstructorShape) (at : ℕ) (d : ConstructorShape) (second m start depth : ℕ) → IsCompared S count n f → IsSubject S count n f number c → IsSubject S count n f at d → (number ≡ at → c ≡ d) → length f.parameters + length c.arguments ≤ second → second + length d.arguments ≤ depth → start + (length f.indices + 1) ≤ depth
    → Drafted S count depth (confusion_type n f number c at d second m start depth)
confusion_type-draft {S} {count} {n} {f} number c at d second m start depth is subject other same low below es = by (at == number) refl
  where
    by : (b : Bool) → (at == number) ≡ b → Drafted S count depth (cond b (injection_type n f number c (length f.parameters) second m start depth)
        (conflict_type n f (constructed n (length f.parameters) (length f.indices) number (length f.parameters) c) (constructed n (length f.parameters) (length f.indices) at second d) m start depth))
    by true e =
        let is-same : number ≡ at = grind (arith, nat_tests) in
        let count-same : length c.arguments ≡ length d.arguments = ap (λ (x : ConstructorShape). length x.arguments) (same is-same) in
        injection_type-draft number c (length f.parameters) second m start depth is subject (omega arith) (omega arith) (omega arith) (omega arith) es
    by false e = conflict_type-draft number second c at d m start depth is subject other low below es

confusion_method-draft : {S : Signature} {count n : ℕ} {f : Shape} (number : ℕ) (c : ConstructorShape) (m depth at : ℕ) (d : ConstructorShape) → IsCompared S count n f → IsSubject S count n f number c → IsSubject S count n f at d → (number ≡ at → c ≡ d) → length f.parameters + length c.arguments ≤ depth
    → Drafted S count depth (confusion_method n f number c m depth at d)
confusion_method-draft {S} {count} {n} {f} number c m depth at d is subject other same low =
    let p = length f.parameters in
    let k = length f.indices in
    let j = length d.arguments in
    let inside = depth + j in
    let left = constructed n p k number p c in
    let right = constructed n p k at depth d in
    let end = confusion_type n f number c at d depth m inside (inside + k + 1) in
    constructor-over-draft Function p depth d (equations_over Function n f left right inside end) other.terms (omega arith)
    (equations_over-draft Function left right inside end is (omega arith)
    (constructed-draft number p c inside subject (omega arith) (omega arith)) (constructed-draft at depth d inside other (omega arith) (omega arith))
    (draft-more (omega arith) (confusion_type-draft number c at d depth m inside (inside + k + 1) is subject other same low (omega arith) (omega arith))))

members_over-draft : {S : Signature} {count n : ℕ} {f : Shape} (binder : Binder) (number : ℕ) (c : ConstructorShape) (end : Term) → IsCompared S count n f → IsSubject S count n f number c → Drafted S count (length f.parameters + length c.arguments + length f.indices + 1) end → Drafted S count 0 (members_over binder n f c end)
members_over-draft {S} {count} {n} {f} binder number c end is subject h =
    let p = length f.parameters in
    let j = length c.arguments in
    let scrutinee = scrutinee_over binder n f (p + j) end in
    closed_over-draft binder f.parameters (over binder ((0, p) ∷ (p, j) ∷ []) p p (types_of c.arguments) scrutinee) is.shape.parameters
    (constructor-over-draft binder p p c scrutinee subject.terms (omega arith)
    (scrutinee_over-draft binder n f (p + j) end is.shape (omega arith) h))

nct_type-draft : {S : Signature} {count n : ℕ} {f : Shape} (number : ℕ) (c : ConstructorShape) (j : ℕ) → IsCompared S count n f → IsSubject S count n f number c → Drafted S count 0 (nct_type n f number c j)
nct_type-draft {S} {count} {n} {f} number c j is subject =
    let p = length f.parameters in
    let k = length f.indices in
    let start = p + length c.arguments in
    let depth = start + k + 1 in
    members_over-draft Product number c (motive_type n f (constructed n p k number p c) (variable_member k start) j depth) is subject
    (motive_type-draft (constructed n p k number p c) (variable_member k start) j depth is (omega arith)
    (constructed-draft number p c depth subject (omega arith) (omega arith)) (run-draft depth start (k + 1) (omega arith)))

analysis_motive-draft : {S : Signature} {count n : ℕ} {f : Shape} (number : ℕ) (c : ConstructorShape) (j depth : ℕ) → IsCompared S count n f → IsSubject S count n f number c → length f.parameters + length c.arguments ≤ depth → Drafted S count depth (analysis_motive n f number c j depth)
analysis_motive-draft {S} {count} {n} {f} number c j depth is subject low =
    let p = length f.parameters in
    let k = length f.indices in
    let inside = depth + k + 1 in
    scrutinee_over-draft Function n f depth (motive_type n f (constructed n p k number p c) (variable_member k depth) j inside) is.shape (omega arith)
    (motive_type-draft (constructed n p k number p c) (variable_member k depth) j inside is (omega arith)
    (constructed-draft number p c inside subject (omega arith) (omega arith)) (run-draft inside depth (k + 1) (omega arith)))

-- methods for constructors that are those of the family from `at` on
methods-draft : {S : Signature} {count n : ℕ} {f : Shape} (number : ℕ) (c : ConstructorShape) (m depth at : ℕ) (head : Term) (constructors : List ConstructorShape) → IsCompared S count n f → IsSubject S count n f number c → ((i : ℕ) → i < at + length constructors → IsConstructorNumber S n i) → All (IsDraftConstructor S (length S.entries) count (length f.parameters)) constructors
    → All (λ d. AreLowArguments d.arguments) constructors → ((i : ℕ) (d : ConstructorShape) → slice_get constructors i ≡ Some d → number ≡ at + i → c ≡ d) → length f.parameters + length c.arguments ≤ depth → Drafted S count depth head
    → Drafted S count depth (applied_to_methods (confusion_method n f number c m depth) at head constructors)
methods-draft number c m depth at head [] is subject known terms levels same low h = h
methods-draft {S} {count} {n} {f} number c m depth at head (d ∷ constructors) is subject known terms levels same low h =
    let Terms : ConstructorShape → Type 0 = IsDraftConstructor S (length S.entries) count (length f.parameters) in
    let Low : ConstructorShape → Type 0 = λ d. AreLowArguments d.arguments in
    methods-draft number c m depth (at + 1) (App head (confusion_method n f number c m depth at d)) constructors is subject (λ i lt. known i (omega arith)) (All-tail Terms d constructors terms)
    (All-tail Low d constructors levels) (λ i e there eq. same (suc i) e there (omega arith)) low
    (app-draft h
    (confusion_method-draft number c m depth at d is subject
    (record { known = known at (omega arith); terms = All-head Terms d constructors terms; levels = All-head Low d constructors levels })
    (λ eq. same 0 d refl (omega arith)) low))

nct_term-draft : {S : Signature} {count n : ℕ} {f : Shape} (number : ℕ) (c : ConstructorShape) (m j : ℕ) → IsCompared S count n f → IsSubject S count n f number c → ((d : ConstructorShape) → slice_get f.constructors number ≡ Some d → c ≡ d) → 0 < count → Drafted S count 0 (nct_term n f number c m j (length S.entries))
nct_term-draft {S} {count} {n} {f} number c m j is subject there some =
    let p = length f.parameters in
    let k = length f.indices in
    let start = p + length c.arguments in
    let depth = start + k + 1 in
    let head = App (applied (Const (length S.entries)) (run depth 0 p)) (analysis_motive n f number c j depth) in
    let whole = applied_to_methods (confusion_method n f number c m depth) 0 head f.constructors in
    members_over-draft Function number c (at_scrutinee depth start k whole) is subject
    (at_scrutinee-draft depth start k whole (omega arith)
    (methods-draft number c m depth 0 head f.constructors is subject (λ i lt. is.shape.numbers i (omega arith)) is.shape.constructors is.levels.constructors
    (λ i d at eq. there d (transport (λ x. slice_get f.constructors x ≡ Some d) (omega arith) at)) (omega arith)
    (app-draft (at-run-draft (Const (length S.entries)) depth 0 p (omega arith) (name-draft (length S.entries) (omega arith) (omega arith)))
    (analysis_motive-draft number c j depth is subject (omega arith)))))

-- ---- a constructor of a family of a signature

compared : (S : Signature) (count n : ℕ) (f : Family) → IsScopedSignature S → IsPrefix (prelude S.has_k) S → IsEntryAt S n (FamilyOf f) → IsCompared S count n (family_shape n f)
compared S count n f scoped first at = record { first = first; shape = family-draft S count n f scoped at; levels = shape-levels S n f scoped at }

at-constructor : (constructors : List ConstructorShape) (number : ℕ) → number < length constructors → slice_get constructors number ≡ Some (constructor_at constructors number)
at-constructor constructors number lt = slice_get-get_or constructors number (record { arguments = []; targets = [] }) lt

subject : {S : Signature} {count n : ℕ} {f : Shape} (number : ℕ) → IsCompared S count n f → number < length f.constructors → IsSubject S count n f number (constructor_at f.constructors number)
subject {S} {count} {n} {f} number is lt =
    let there = at-constructor f.constructors number lt in record {
      known = is.shape.numbers number lt;
      terms = All-at (IsDraftConstructor S (length S.entries) count (length f.parameters)) f.constructors number (constructor_at f.constructors number) there is.shape.constructors;
      levels = All-at (λ (d : ConstructorShape). AreLowArguments d.arguments) f.constructors number (constructor_at f.constructors number) there is.levels.constructors;
    }

same-constructor : (constructors : List ConstructorShape) (number : ℕ) (d : ConstructorShape) → number < length constructors → slice_get constructors number ≡ Some d → constructor_at constructors number ≡ d
same-constructor constructors number d lt at =
    same_Some (constructor_at constructors number) d (sym (at-constructor constructors number lt) ∙ at)

count-constructors : (n : ℕ) (f : Family) (number : ℕ) → number < length f.constructors → number < length (family_shape n f).constructors
count-constructors n f number lt = omega (arith, length-map f.constructors (constructor_shape n f))

pub nct-scoped : (S T : Signature) (n : ℕ) (f : Family) (number m : ℕ) → IsScopedSignature S → IsPrefix (prelude S.has_k) S → IsEntryAt S n (FamilyOf f) → number < length f.constructors → IsPrefix S T → IfOk (nct_entry (length S.entries) n f number m) (IsScopedDraft T)
nct-scoped S T n f number m scoped first at known longer =
    let shape = family_shape n f in
    let base = length S.entries in
    let c = constructor_at shape.constructors number in
    let j = confusion_level shape m in
    let is = compared S 1 n f scoped first at in
    let low = count-constructors n f number known in
    let own = subject number is low in
    drafted-scoped T (generated_name f.name (constructor_mark (codes "!nct.") (constructor_name f number)) m) base (generated_name f.name (codes "!case.") (j + 1) ∷ [])
    (nct_type n shape number c j) (nct_term n shape number c m j base)
    (draft-longer longer (nct_type-draft number c j is own))
    (draft-longer longer (nct_term-draft number c m j is own (λ d there. same-constructor shape.constructors number d low there) (omega arith)))

-- ---- D!noconf.c.m

reflexive_base-draft : {S : Signature} {count n : ℕ} {f : Shape} (number : ℕ) (c : ConstructorShape) (m depth : ℕ) → IsCompared S count n f → IsSubject S count n f number c → length f.parameters + length c.arguments ≤ depth → Drafted S count depth (reflexive_base n f number c m depth)
reflexive_base-draft {S} {count} {n} {f} number c m depth is own low =
    let p = length f.parameters in
    let j = length c.arguments in
    let left = constructed n p (length f.indices) number p c in
    let all = constructed-draft number p c depth own (omega arith) (omega arith) in
    let refls = reflexivities (argument_items p (depth + 2) c) (run (depth + 2) p j) in
    lam-draft (motive_type-draft left left m depth is (omega arith) all all)
    (lam-draft (injective_type-draft number c p p depth (depth + 1) is own (omega arith) (omega arith) (omega arith) (omega arith))
    (draft-more (omega arith)
    (applied-draft (variable (depth + 2) (depth + 1)) refls (variable-draft (depth + 1) (omega arith))
    (draft-reflexivities S count (depth + 2) (argument_items p (depth + 2) c) (run (depth + 2) p j) is.first (argument_items-draft p (depth + 2) c own.terms own.levels (omega arith))
    (run-draft (depth + 2) p j (omega arith))))))

equal_members_over-draft : {S : Signature} {count n : ℕ} {f : Shape} (binder : Binder) (number : ℕ) (c : ConstructorShape) (end : Term) → IsCompared S count n f → IsSubject S count n f number c → Drafted S count (length f.parameters + length c.arguments + (length f.indices + 1) + (length f.indices + 1)) end → Drafted S count 0 (equal_members_over binder n f number c end)
equal_members_over-draft {S} {count} {n} {f} binder number c end is own h =
    let p = length f.parameters in
    let k = length f.indices in
    let start = p + length c.arguments in
    let depth = start + k + 1 in
    members_over-draft binder number c (equations_over binder n f (constructed n p k number p c) (variable_member k start) depth end) is own
    (equations_over-draft binder (constructed n p k number p c) (variable_member k start) depth end is (omega arith)
    (constructed-draft number p c depth own (omega arith) (omega arith)) (run-draft depth start (k + 1) (omega arith)) (draft-more (omega arith) h))

noconf_type-draft : {S : Signature} {count n : ℕ} {f : Shape} (number : ℕ) (c : ConstructorShape) → IsCompared S count n f → IsSubject S count n f number c → 0 < count → Drafted S count 0 (noconf_type n f number c (length S.entries))
noconf_type-draft {S} {count} {n} {f} number c is own some =
    let whole = length f.parameters + length c.arguments + (length f.indices + 1) + (length f.indices + 1) in
    equal_members_over-draft Product number c (applied (Const (length S.entries)) (run whole 0 whole)) is own
    (at-run-draft (Const (length S.entries)) whole 0 whole (omega arith) (name-draft (length S.entries) (omega arith) (omega arith)))

noconf_term-draft : {S : Signature} {count n : ℕ} {f : Shape} (number : ℕ) (c : ConstructorShape) (m j : ℕ) → IsCompared S count n f → IsSubject S count n f number c → 0 < count → Drafted S count 0 (noconf_term n f number c m j (length S.entries))
noconf_term-draft {S} {count} {n} {f} number c m j is own some =
    let p = length f.parameters in
    let k = length f.indices in
    let start = p + length c.arguments in
    let whole = start + (k + 1) + (k + 1) in
    let base = reflexive_base n f number c m whole in
    equal_members_over-draft Function number c (elimination_from n f number c j (length S.entries) base) is own
    (draft-elimination S count whole (member_items n f whole) j (applied (Const (length S.entries)) (run whole 0 start)) base (constructed n p k number p c whole) (run whole start (k + 1)) (run whole (start + (k + 1)) (k + 1))
    is.first (member_items-draft whole is (omega arith))
    (at-run-draft (Const (length S.entries)) whole 0 start (omega arith) (name-draft (length S.entries) (omega arith) (omega arith)))
    (reflexive_base-draft number c m whole is own (omega arith))
    (constructed-draft number p c whole own (omega arith) (omega arith)) (run-draft whole start (k + 1) (omega arith)) (run-draft whole (start + (k + 1)) (k + 1) (omega arith)))

pub noconf-scoped : (S T : Signature) (n : ℕ) (f : Family) (number m : ℕ) → IsScopedSignature S → IsPrefix (prelude S.has_k) S → IsEntryAt S n (FamilyOf f) → number < length f.constructors → IsPrefix S T → IfOk (noconf_entry (length S.entries) n f number m) (IsScopedDraft T)
noconf-scoped S T n f number m scoped first at known longer =
    let shape = family_shape n f in
    let base = length S.entries in
    let c = constructor_at shape.constructors number in
    let is = compared S 1 n f scoped first at in
    let own = subject number is (count-constructors n f number known) in
    let name = constructor_name f number in
    drafted-scoped T (generated_name f.name (constructor_mark (codes "!noconf.") name) m) base (generated_name f.name (constructor_mark (codes "!nct.") name) m ∷ [])
    (noconf_type n shape number c base) (noconf_term n shape number c m (confusion_level shape m) base)
    (draft-longer longer (noconf_type-draft number c is own (omega arith)))
    (draft-longer longer (noconf_term-draft number c m (confusion_level shape m) is own (omega arith)))
