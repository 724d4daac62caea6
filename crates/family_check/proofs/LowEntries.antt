-- Entries that are checked are low enough to be kept in a pool.
use Rattle.std.proofs.Common.{◌≡◌, ℕ, ◌+◌, ◌≤◌, Ok, IfOk, List, [], ◌∷◌, length, map, All, sym, subst as transport}
use Rattle.std.proofs.lemmas.List.Elements.{All-nil, All-cons}
use Rattle.theory.specs.Terms.{Term, height}
use Rattle.theory.specs.Telescopes.{context_behind}
use Rattle.theory.specs.Families.{Constructor, Family}
use Rattle.theory.specs.Signatures.{FamilyOf, Signature}
use Rattle.theory.specs.WellFormed.{pushed}
use Rattle.core_sig.specs.EntryIds.{AreLowBehind, type_behind}
use Rattle.core_sig.specs.Meanings.{constructor_of, family_of}
use Rattle.core_sig.specs.declared.family.Family.{Family as FamilyOfCode}
use Rattle.core_sig.specs.Raw.{RawConstructor, RawFamily}
use Rattle.core_terms.specs.Telescopes.{domains_of}
use Rattle.family_check.specs.Outcomes.{OfType, OfBody, OfConstructor, ended}
use Rattle.family_check.specs.Asking.{sort_in, type_in}
use Rattle.family_check.specs.Entering.{Entered, check_definition}
use Rattle.family_check.specs.Shapes.{constructor_targets}
use Rattle.family_check.specs.Kinds.{IsBare}
use Rattle.family_check.specs.Families.{levels_of, declare_type, on_targets, declare_constructor, declare_constructors, declare_family}
use Rattle.family_check.specs.Families.Role.{ArgumentOf}
use Rattle.core_terms.proofs.Answers.{Answers, and_next-has}
use Rattle.family_check.proofs.AsDeclared.{IsBareAsDeclared, levels-counted, type-given}
use Rattle.family_check.proofs.Lowness.{sort-low, type-low}
use Rattle.family_check.proofs.Shapes.{IsShaped, behind-typed, targets-shaped}

-- a constructor's type is low behind the parameters, since it is the one that is written
constructor-low : (S : Signature) (n : ℕ) (f : Family) (number : ℕ) (raw : RawConstructor) (left : ℕ)
    → Answers (λ c. height (type_behind n f c) ≤ 2000) (declare_constructor S n f number raw left)
constructor-low S n f number raw left =
    let G = context_behind [] f.parameters in
    and_next-has (λ sort. height raw.type ≤ 2000) IsLow (sort_in S (OfConstructor number) G raw.type left) _ (sort-low S (OfConstructor number) G raw.type left) (λ sort left1 low.
    and_next-has (IsShaped n f raw.type) IsLow (ended (on_targets number (constructor_targets n f raw.type)) left1) _ (targets-shaped n f number raw.type) (λ targets left2 shaped.
    and_next-has (λ levels. length levels ≡ length (domains_of raw.type)) IsLow (levels_of S (ArgumentOf number f.level) 0 G (domains_of raw.type) left2) _
    (levels-counted S (ArgumentOf number f.level) 0 G (domains_of raw.type) left2) (λ levels end counted.
    transport (λ t. height t ≤ 2000) (sym (behind-typed n f raw.name raw.type levels targets counted shaped.end)) low)))
  where
    IsLow : Constructor → Type 0
    IsLow c = height (type_behind n f c) ≤ 2000

constructors-low : (S : Signature) (n : ℕ) (f : Family) (number : ℕ) (raws : List RawConstructor) (left : ℕ)
    → Answers (All (λ c. height (type_behind n f c) ≤ 2000)) (declare_constructors S n f number raws left)
constructors-low S n f number [] left = All-nil (λ c. height (type_behind n f c) ≤ 2000)
constructors-low S n f number (raw ∷ raws) left =
    and_next-has (λ c. height (type_behind n f c) ≤ 2000) (All (λ c. height (type_behind n f c) ≤ 2000)) (declare_constructor S n f number raw left) _
    (constructor-low S n f number raw left) (λ c rest low.
    and_next-has (All (λ k. height (type_behind n f k) ≤ 2000)) (All (λ k. height (type_behind n f k) ≤ 2000)) (declare_constructors S n f (number + 1) raws rest) _
    (constructors-low S n f (number + 1) raws rest) (λ cs end rest_low.
    All-cons (λ k. height (type_behind n f k) ≤ 2000) c cs low rest_low))

family-low : (S : Signature) (raw : RawFamily) (left : ℕ) → Answers (AreLowBehind (length S.entries)) (declare_family S raw left)
family-low S raw left =
    let n = length S.entries in
    and_next-has (IsBareAsDeclared raw) (AreLowBehind n) (declare_type S raw left) _ (type-given S raw left) (λ f rest bare.
    let T = pushed S (FamilyOf f) in
    and_next-has (All (λ c. height (type_behind n f c) ≤ 2000)) (AreLowBehind n) (declare_constructors T n f 0 raw.constructors rest) _
    (constructors-low T n f 0 raw.constructors rest) (λ cs end low. low))

pub declared-low : (S : Signature) (raw : RawFamily) (f : Family) (left l : ℕ) → ended (Ok f) l ≡ declare_family S raw left → AreLowBehind (length S.entries) f
declared-low S raw f left l is = transport (λ x. IfOk x.0 (AreLowBehind (length S.entries))) (sym is) (family-low S raw left)

-- and the body of a definition
definition-low : (S : Signature) (name : List ℕ) (type body : Term) (left : ℕ) → Answers (λ e. height body ≤ 2000) (check_definition S name type body left)
definition-low S name type body left =
    and_next-has (λ sort. height type ≤ 2000) (λ e. height body ≤ 2000) (sort_in S OfType [] type left) _ (sort-low S OfType [] type left) (λ sort rest low.
    and_next-has (λ found. height body ≤ 2000) (λ e. height body ≤ 2000) (type_in S OfBody [] body type rest) _ (type-low S OfBody [] body type rest) (λ found end body_low.
    body_low))

pub checked-low : (S : Signature) (name : List ℕ) (type body : Term) (e : Entered) (left l : ℕ) → ended (Ok e) l ≡ check_definition S name type body left → height body ≤ 2000
checked-low S name type body e left l is = transport (λ x. IfOk x.0 (λ made. height body ≤ 2000)) (sym is) (definition-low S name type body left)

-- a family without constructors has none that is too high
pub bare-low : (n : ℕ) (f g : FamilyOfCode) → family_of g ≡ family_of f → IsBare f → AreLowBehind n (family_of g)
bare-low n f g same b =
    transport (AreLowBehind n) (sym same)
    (transport (λ cs. All (λ c. height (type_behind n (family_of f) c) ≤ 2000) (map (constructor_of (length f.params)) cs)) (sym b.constructors) (All-nil (λ c. height (type_behind n (family_of f) c) ≤ 2000)))
