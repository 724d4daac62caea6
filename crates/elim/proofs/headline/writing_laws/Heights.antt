-- The new entries of a signature show no term that is too high to be read.
use Rattle.std.proofs.Common.{◌≡◌, ◌⊎◌, inl, inr, ℕ, zero, suc, ◌+◌, ◌≤◌, ◌<◌, ◌^◌, Bool, true, false, List, [], ◌∷◌, length, zip, All, Option, Some, None, Result, Ok, Err, IfOk, refl, sym, ap, ap₂, ◌∙◌, subst}
use Rattle.std.specs.Prelude.{nat_lt, ◌&&◌, position}
use Rattle.std.proofs.lemmas.List.Elements.{All-nil, All-cons}
use Rattle.theory.specs.Terms.{Term, Sort, Const, height, top}
use Rattle.theory.specs.Eliminators.{eliminator_type}
use Rattle.theory.specs.Families.{Constructor, Family, family_head}
use Rattle.theory.specs.Telescopes.{Context, Telescope, context_behind, products, applied, weaken_by}
use Rattle.theory.specs.Signatures.{Entry, FamilyOf, EliminatorAt, AxiomKAt, Definition, Signature, IsEntryAt, axiom_k_type}
use Rattle.theory.specs.WellFormed.{pushed}
use Rattle.theory.proofs.Pushing.{entry_of-pushed}
use Rattle.core_terms.specs.Answers.{and_next, is_low}
use Rattle.core_terms.specs.Telescopes.{domains_of, end_of}
use Rattle.core_terms.specs.Verdicts.{Verdict, Yes, No}
use Rattle.core_terms.specs.declared.stop.Stop.{Stop}
use Rattle.core_terms.proofs.Answers.{Answers, and_next-has, low-is}
use Rattle.core_terms.proofs.LeadingProducts.{products-of_parts}
use Rattle.core_sig.specs.Instances.{is_eliminator, is_axiom_k}
use Rattle.core_sig.specs.Raw.{RawConstructor, RawFamily, raw_names}
use Rattle.core_text.specs.RawEntries.{type_shown, constructor_type_shown}
use Rattle.kernel_reduce.specs.Reduction.{charge, nesting}
use Rattle.kernel_reduce.proofs.Answers.{if_low-has}
use Rattle.kernel_check.specs.Checking.{infer_form, infer_of, infer_sort_of, check_of}
use Rattle.kernel_check.specs.Laws.{IfYes}
use Rattle.family_check.specs.Asking.{sort_in, type_in}
use Rattle.family_check.specs.Entering.{are_new, declare_of, enter_instance, unless_there, instance_of, axiom_k_of, check_definition, define_of}
use Rattle.family_check.specs.Families.{Role, level_in, levels_of, family_level, declare_type, on_targets, declare_constructor, declare_constructors, declare_family}
use Rattle.family_check.specs.Families.Role.{Parameter, Index, ArgumentOf}
use Rattle.family_check.specs.Families as families
use Rattle.family_check.specs.Outcomes.{Site, OfType, OfBody, OfConstructor, FamilyStop, ended, granted}
use Rattle.family_check.specs.Shapes.{constructor_targets}
use Rattle.family_check.proofs.AsDeclared.{levels-counted}
use Rattle.family_check.proofs.Lowness.{sort-low}
use Rattle.family_check.proofs.Outcomes.{granted-has, if_new-has}
use Rattle.family_check.proofs.Shapes.{IsShaped, targets-shaped, telescope-of, arguments-counted}
use Rattle.family_check.proofs.Zips.{zip-firsts}
use Rattle.elim.specs.headline.program_laws.CoreFiles.{IsLowEntry}
use Rattle.elim.specs.headline.writing_laws.Writing.{AreLow}
use Rattle.elim.proofs.headline.writing_laws.Carrying.{skip, After}

-- ---- terms

anyway : {A : Type 0} (P : Type 0) (r : Result A Stop) → P → IfOk r (λ a. P)
anyway P (Ok a) p = p
anyway P (Err e) p = tt

infer-low : (S : Signature) (room : ℕ) (G : Context) (t : Term) (left : ℕ) → Answers (λ v. height t ≤ 2000) (infer_of S room G t left)
infer-low S zero G t left = tt
infer-low S (suc room) G t left =
    if_low-has (λ v. height t ≤ 2000) (is_low t) _ left (λ test.
    anyway (height t ≤ 2000) (charge (infer_form S (infer_of S room) (infer_sort_of S room) (check_of S room) G t) left).0 (low-is t test))

check-low : (S : Signature) (room : ℕ) (G : Context) (t wanted : Term) (left : ℕ) → Answers (λ v. height t ≤ 2000) (check_of S room G t wanted left)
check-low S zero G t wanted left = tt
check-low S (suc room) G t wanted left =
    and_next-has (λ v. height t ≤ 2000) (λ v. height t ≤ 2000) (infer_of S room G t left) _ (infer-low S room G t left) (λ verdict rest low. anyway (height t ≤ 2000) _ low)

if_yes : (P : Type 0) (r : Result Verdict Stop) → IfOk r (λ v. P) → IfOk r (λ v. IfYes v (λ type. P))
if_yes P (Ok (Yes type)) h = h
if_yes P (Ok (No denial)) h = tt
if_yes P (Err e) h = tt

type-low : (S : Signature) (site : Site) (G : Context) (t wanted : Term) (left : ℕ) → Answers (λ found. height t ≤ 2000) (type_in S site G t wanted left)
unfolding type_in
type-low S site G t wanted left =
    granted-has (λ found. height t ≤ 2000) site (check_of S nesting G t wanted left)
    (if_yes (height t ≤ 2000) (check_of S nesting G t wanted left).0 (check-low S nesting G t wanted left))

-- ---- one entry more

pub low-pushed : (S : Signature) (e : Entry) → AreLow S → IsLowEntry (length S.entries) e → AreLow (pushed S e)
low-pushed S e low own n x after at = by (entry_of-pushed S e n x at)
  where
    by : IsEntryAt S n x ⊎ ((n ≡ length S.entries) × (e ≡ x)) → IsLowEntry n x
    by (inl earlier) = low n x after earlier
    by (inr last) = subst (λ y. IsLowEntry n y) last.1 (subst (λ k. IsLowEntry k e) (sym last.0) own)

pub define-low : (S : Signature) (name : List ℕ) (type body : Term) (left : ℕ) → AreLow S → Answers (After AreLow) (define_of S name type body left)
define-low S name type body left low =
    if_new-has (After AreLow) (are_new S (name ∷ [])) (check_definition S name type body) left (λ test.
    and_next-has (λ sort. height type ≤ 2000) (After AreLow) (sort_in S OfType [] type left) _ (sort-low S OfType [] type left) (λ sort rest t.
    and_next-has (λ found. height body ≤ 2000) (After AreLow) (type_in S OfBody [] body type rest) _ (type-low S OfBody [] body type rest) (λ found end b.
    low-pushed S (Definition name type body) low (t, b))))

instance-low : (S : Signature) (e : Entry) → IsLowEntry (length S.entries) e → AreLow S → (fits : Bool) (type : Term) (there : Option ℕ) (left : ℕ)
    → Answers (After AreLow) (unless_there S there (enter_instance S e fits type) left)
instance-low S e own low fits type (Some n) left = low
instance-low S e own low true type None left = skip (After AreLow) (sort_in S OfType [] type left) _ (λ sort end. low-pushed S e low own)
instance-low S e own low false type None left = tt

pub eliminator-low : (S : Signature) (n : ℕ) (f : Family) (m left : ℕ) → AreLow S → Answers (After AreLow) (instance_of S n f m left)
eliminator-low S n f m left low = instance-low S (EliminatorAt n m) tt low (nat_lt m top) (eliminator_type n f m) (position (is_eliminator n m) S.entries) left

pub axiom_k-low : (S : Signature) (i m left : ℕ) → AreLow S → Answers (After AreLow) (axiom_k_of S i m left)
axiom_k-low S i m left low = instance-low S (AxiomKAt i m) tt low (nat_lt i top && nat_lt m top) (axiom_k_type i m) (position (is_axiom_k i m) S.entries) left

-- ---- families

-- each type of the telescope is low
types-low : (S : Signature) (role : Role) (count : ℕ) (G : Context) (tele : Telescope) (left : ℕ) → Answers (λ levels. All (λ a. height a ≤ 2000) tele) (levels_of S role count G tele left)
types-low S role count G [] left = All-nil (λ a. height a ≤ 2000)
types-low S role count G (a ∷ tele) left =
    and_next-has (λ level. height a ≤ 2000) (λ levels. All (λ a. height a ≤ 2000) (a ∷ tele)) (level_in S role (count + 1) G a left) _
    (and_next-has (λ sort. height a ≤ 2000) (λ level. height a ≤ 2000) (sort_in S (families.site_of role (count + 1)) G a left) _
    (sort-low S (families.site_of role (count + 1)) G a left) (λ sort rest low. always (height a ≤ 2000) (families.fitting role (count + 1) (families.sort_level sort)) low))
    (λ level rest low.
    and_next-has (λ levels. All (λ a. height a ≤ 2000) tele) (λ levels. All (λ a. height a ≤ 2000) (a ∷ tele)) (levels_of S role (count + 1) (a ∷ G) tele rest) _
    (types-low S role (count + 1) (a ∷ G) tele rest) (λ levels end all. All-cons (λ x. height x ≤ 2000) a tele low all))
  where
    always : (P : Type 0) (r : Result ℕ FamilyStop) → P → IfOk r (λ level. P)
    always P (Ok level) p = p
    always P (Err e) p = tt

-- a family without constructors that shows low terms
record IsLowBare (f : Family) : Type 0 where
  few : length f.parameters < 2 ^ 32
  parameters : All (λ a. height a ≤ 2000) f.parameters
  type : height (type_shown f) ≤ 2000

ends : (t : Term) → IfOk (family_level t) (λ level. t ≡ Sort level)
ends (Sort level) = refl
ends (Const n) = tt
ends _ = tt

type-shown-low : (S : Signature) (raw : RawFamily) (left : ℕ) → length raw.parameters < 2 ^ 32 → Answers IsLowBare (declare_type S raw left)
type-shown-low S raw left few =
    let G = context_behind [] raw.parameters in
    and_next-has (λ levels. All (λ a. height a ≤ 2000) raw.parameters) IsLowBare (levels_of S Parameter 0 [] raw.parameters left) _ (types-low S Parameter 0 [] raw.parameters left) (λ ls left1 parameters.
    and_next-has (λ sort. height raw.type ≤ 2000) IsLowBare (sort_in S OfType G raw.type left1) _ (sort-low S OfType G raw.type left1) (λ sort left2 low.
    and_next-has (λ level. end_of raw.type ≡ Sort level) IsLowBare (ended (family_level (end_of raw.type)) left2) _ (ends (end_of raw.type)) (λ level left3 at.
    and_next-has (λ levels. length levels ≡ length (domains_of raw.type)) IsLowBare (levels_of S (Index level) 0 G (domains_of raw.type) left3) _
    (levels-counted S (Index level) 0 G (domains_of raw.type) left3) (λ levels end counted.
    let same : products (domains_of raw.type) (Sort level) ≡ raw.type = ap (λ e. products (domains_of raw.type) e) (sym at) ∙ products-of_parts raw.type in
    record {
      few = few;
      parameters = parameters;
      type = subst (λ t. height t ≤ 2000) (sym (ap (λ ts. products ts (Sort level)) (zip-firsts (domains_of raw.type) levels counted) ∙ same)) low;
    }))))

constructor-low : (S : Signature) (n : ℕ) (f : Family) (number : ℕ) (raw : RawConstructor) (left : ℕ)
    → Answers (λ c. height (constructor_type_shown n f c) ≤ 2000) (declare_constructor S n f number raw left)
constructor-low S n f number raw left =
    let G = context_behind [] f.parameters in
    let t = raw.type in
    let Low : Constructor → Type 0 = λ c. height (constructor_type_shown n f c) ≤ 2000 in
    and_next-has (λ sort. height t ≤ 2000) Low (sort_in S (OfConstructor number) G t left) _ (sort-low S (OfConstructor number) G t left) (λ sort left1 low.
    and_next-has (IsShaped n f t) Low (ended (on_targets number (constructor_targets n f t)) left1) _ (targets-shaped n f number t) (λ targets left2 shaped.
    and_next-has (λ levels. length levels ≡ length (domains_of t)) Low (levels_of S (ArgumentOf number f.level) 0 G (domains_of t) left2) _
    (levels-counted S (ArgumentOf number f.level) 0 G (domains_of t) left2) (λ levels end counted.
    subst (λ u. height u ≤ 2000) (sym (
    ap₂ products (telescope-of n f raw.name (domains_of t) levels targets counted)
    (ap (λ k. applied (weaken_by k (family_head n f)) targets) (arguments-counted n f 0 (domains_of t) levels counted) ∙ sym shaped.end.form)
    ∙ products-of_parts t)) low)))

constructors-low : (S : Signature) (n : ℕ) (f : Family) (number : ℕ) (raws : List RawConstructor) (left : ℕ)
    → Answers (λ cs. All (λ c. height (constructor_type_shown n f c) ≤ 2000) cs) (declare_constructors S n f number raws left)
constructors-low S n f number [] left = All-nil (λ c. height (constructor_type_shown n f c) ≤ 2000)
constructors-low S n f number (raw ∷ raws) left =
    let Low : Constructor → Type 0 = λ c. height (constructor_type_shown n f c) ≤ 2000 in
    and_next-has Low (λ cs. All Low cs) (declare_constructor S n f number raw left) _ (constructor-low S n f number raw left) (λ c rest h.
    and_next-has (λ cs. All Low cs) (λ cs. All Low cs) (declare_constructors S n f (number + 1) raws rest) _ (constructors-low S n f (number + 1) raws rest) (λ cs end k.
    All-cons Low c cs h k))

family-low : (S : Signature) (raw : RawFamily) (left : ℕ) → length raw.parameters < 2 ^ 32 → Answers (λ f. IsLowEntry (length S.entries) (FamilyOf f)) (declare_family S raw left)
family-low S raw left few =
    let n = length S.entries in
    and_next-has IsLowBare (λ f. IsLowEntry n (FamilyOf f)) (declare_type S raw left) _ (type-shown-low S raw left few) (λ f rest h.
    and_next-has (λ cs. All (λ c. height (constructor_type_shown n f c) ≤ 2000) cs) (λ g. IsLowEntry n (FamilyOf g)) (declare_constructors (pushed S (FamilyOf f)) n f 0 raw.constructors rest) _
    (constructors-low (pushed S (FamilyOf f)) n f 0 raw.constructors rest) (λ cs end k.
    (h.few, h.parameters, h.type, k)))

pub declare-low : (S : Signature) (raw : RawFamily) (left : ℕ) → AreLow S → length raw.parameters < 2 ^ 32 → Answers (After AreLow) (declare_of S raw left)
declare-low S raw left low few =
    if_new-has (After AreLow) (are_new S (raw_names raw)) _ left (λ test.
    and_next-has (λ f. IsLowEntry (length S.entries) (FamilyOf f)) (After AreLow) (declare_family S raw left) _ (family-low S raw left few) (λ f end h.
    low-pushed S (FamilyOf f) low h))
