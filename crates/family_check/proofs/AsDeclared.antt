-- A family enters as it is declared.
use Rattle.std.proofs.Common.{◌≡◌, ℕ, suc, ◌+◌, Result, Ok, Err, IfOk, List, [], ◌∷◌, length, map, refl, sym, ap, ap₂, ◌∙◌}
use Rattle.theory.specs.Terms.{Term}
use Rattle.theory.specs.Terms.Term.{Sort, Const}
use Rattle.theory.specs.Telescopes.{Context, Telescope, context_behind, products}
use Rattle.theory.specs.Families.{Constructor, Family, family_type, constructor_type}
use Rattle.theory.specs.Signatures.{FamilyOf, Signature}
use Rattle.theory.specs.WellFormed.{pushed}
use Rattle.core_sig.specs.Raw.{RawConstructor, RawFamily, raw_names}
use Rattle.kernel_reduce.specs.Reduction.{nesting}
use Rattle.kernel_check.specs.Checking.{infer_sort_of}
use Rattle.family_check.specs.Outcomes.{OfType, OfConstructor, FamilyStop, ended, granted}
use Rattle.family_check.specs.Asking.{sort_in}
use Rattle.core_terms.specs.Telescopes.{domains_of, end_of}
use Rattle.family_check.specs.Shapes.{constructor_targets}
use Rattle.family_check.specs.Families.{Role, level_in, levels_of, family_level, declare_type, on_targets, declare_constructor, declare_constructors, declare_family}
use Rattle.family_check.specs.Families.Role.{Parameter, Index, ArgumentOf}
use Rattle.family_check.specs.Entering.{Entered, entered, are_new}
use Rattle.family_check.specs.Laws.{IsAsDeclared, DeclareEntersGiven}
use Rattle.core_terms.proofs.Answers.{Answers, and_next-has}
use Rattle.family_check.proofs.Outcomes.{if_new-has}
use Rattle.core_terms.proofs.LeadingProducts.{products-of_parts}
use Rattle.family_check.proofs.Shapes.{IsShaped, targets-shaped, constructor-typed}
use Rattle.family_check.proofs.Zips.{zip-firsts}

abbrev Any : {A : Type 0} → A → Type 0
Any a = Unit {0}

any-answer : {A : Type 0} (r : Result A FamilyStop) → IfOk r Any
any-answer (Ok a) = tt
any-answer (Err e) = tt

pub levels-counted : (S : Signature) (role : Role) (count : ℕ) (G : Context) (tele : Telescope) (left : ℕ)
    → Answers (λ levels. length levels ≡ length tele) (levels_of S role count G tele left)
levels-counted S role count G [] left = refl
levels-counted S role count G (a ∷ tele) left =
    and_next-has Any (λ levels. length levels ≡ length (a ∷ tele)) (level_in S role (count + 1) G a left) _ (any-answer (level_in S role (count + 1) G a left).0) (λ level rest any.
    and_next-has (λ levels. length levels ≡ length tele) (λ levels. length levels ≡ length (a ∷ tele)) (levels_of S role (count + 1) (a ∷ G) tele rest) _
    (levels-counted S role (count + 1) (a ∷ G) tele rest) (λ levels end counted. ap suc counted))

-- the parts of a family without constructors that are given
pub record IsBareAsDeclared (raw : RawFamily) (f : Family) : Type 0 where
  pub bare : f.constructors ≡ []
  pub name : f.name ≡ raw.name
  pub parameters : f.parameters ≡ raw.parameters
  pub type : family_type f ≡ products raw.parameters raw.type

ends : (t : Term) → IfOk (family_level t) (λ level. t ≡ Sort level)
ends (Sort level) = refl
ends (Const n) = tt
ends _ = tt

pub type-given : (S : Signature) (raw : RawFamily) (left : ℕ) → Answers (IsBareAsDeclared raw) (declare_type S raw left)
unfolding sort_in
type-given S raw left =
    let G = context_behind [] raw.parameters in
    and_next-has Any (IsBareAsDeclared raw) (levels_of S Parameter 0 [] raw.parameters left) _ (any-answer (levels_of S Parameter 0 [] raw.parameters left).0) (λ ls left1 any1.
    and_next-has Any (IsBareAsDeclared raw) (granted OfType (infer_sort_of S nesting G raw.type left1)) _ (any-answer (granted OfType (infer_sort_of S nesting G raw.type left1)).0) (λ sort left2 any2.
    and_next-has (λ level. end_of raw.type ≡ Sort level) (IsBareAsDeclared raw) (ended (family_level (end_of raw.type)) left2) _ (ends (end_of raw.type)) (λ level left3 at.
    and_next-has (λ levels. length levels ≡ length (domains_of raw.type)) (IsBareAsDeclared raw) (levels_of S (Index level) 0 G (domains_of raw.type) left3) _
    (levels-counted S (Index level) 0 G (domains_of raw.type) left3) (λ levels end counted.
    record {
      bare = refl;
      name = refl;
      parameters = refl;
      type = ap (products raw.parameters)
          (ap₂ products (zip-firsts (domains_of raw.type) levels counted) (sym at) ∙ products-of_parts raw.type);
    }))))

-- those of a constructor
record IsConstructorAsDeclared (n : ℕ) (f : Family) (raw : RawConstructor) (c : Constructor) : Type 0 where
  pub name : c.name ≡ raw.name
  pub type : constructor_type n f c ≡ products f.parameters raw.type

constructor-given : (S : Signature) (n : ℕ) (f : Family) (number : ℕ) (raw : RawConstructor) (left : ℕ)
    → Answers (IsConstructorAsDeclared n f raw) (declare_constructor S n f number raw left)
unfolding sort_in
constructor-given S n f number raw left =
    let G = context_behind [] f.parameters in
    and_next-has Any (IsConstructorAsDeclared n f raw) (granted (OfConstructor number) (infer_sort_of S nesting G raw.type left)) _
    (any-answer (granted (OfConstructor number) (infer_sort_of S nesting G raw.type left)).0) (λ sort left1 any.
    and_next-has (IsShaped n f raw.type) (IsConstructorAsDeclared n f raw) (ended (on_targets number (constructor_targets n f raw.type)) left1) _
    (targets-shaped n f number raw.type) (λ targets left2 shaped.
    and_next-has (λ levels. length levels ≡ length (domains_of raw.type)) (IsConstructorAsDeclared n f raw)
    (levels_of S (ArgumentOf number f.level) 0 G (domains_of raw.type) left2) _
    (levels-counted S (ArgumentOf number f.level) 0 G (domains_of raw.type) left2) (λ levels end counted.
    record { name = refl; type = constructor-typed n f raw.name raw.type levels targets counted shaped.end })))

-- and of all constructors
record AreAsDeclared (n : ℕ) (f : Family) (raws : List RawConstructor) (cs : List Constructor) : Type 0 where
  pub names : map (λ c. c.name) cs ≡ map (λ r. r.name) raws
  pub types : map (constructor_type n f) cs ≡ map (λ r. products f.parameters r.type) raws

constructors-given : (S : Signature) (n : ℕ) (f : Family) (number : ℕ) (raws : List RawConstructor) (left : ℕ)
    → Answers (AreAsDeclared n f raws) (declare_constructors S n f number raws left)
constructors-given S n f number [] left = record { names = refl; types = refl }
constructors-given S n f number (raw ∷ raws) left =
    and_next-has (IsConstructorAsDeclared n f raw) (AreAsDeclared n f (raw ∷ raws)) (declare_constructor S n f number raw left) _
    (constructor-given S n f number raw left) (λ c rest h.
    and_next-has (AreAsDeclared n f raws) (AreAsDeclared n f (raw ∷ raws)) (declare_constructors S n f (number + 1) raws rest) _
    (constructors-given S n f (number + 1) raws rest) (λ cs end k.
    record { names = ap₂ ◌∷◌ h.name k.names; types = ap₂ ◌∷◌ h.type k.types }))

pub family-given : (S : Signature) (raw : RawFamily) (left : ℕ) → Answers (IsAsDeclared (length S.entries) raw) (declare_family S raw left)
family-given S raw left =
    let n = length S.entries in
    and_next-has (IsBareAsDeclared raw) (IsAsDeclared n raw) (declare_type S raw left) _ (type-given S raw left) (λ f rest h.
    let T = pushed S (FamilyOf f) in
    and_next-has (AreAsDeclared n f raw.constructors) (IsAsDeclared n raw) (declare_constructors T n f 0 raw.constructors rest) _
    (constructors-given T n f 0 raw.constructors rest) (λ cs end k.
    record {
      names = ap₂ ◌∷◌ h.name k.names;
      parameters = h.parameters;
      type = h.type;
      constructor_types = k.types ∙ ap (λ ps. map (λ (r : RawConstructor). products ps r.type) raw.constructors) h.parameters;
    }))

pub declare-gives : DeclareEntersGiven
declare-gives S raw left =
    if_new-has Enters (are_new S (raw_names raw)) _ left (λ test.
    and_next-has (IsAsDeclared (length S.entries) raw) Enters (declare_family S raw left) _ (family-given S raw left) (λ f end h.
    (f, refl, h)))
  where
    Enters : Entered → Type 0
    Enters e = (f : Family) × (e ≡ entered S (FamilyOf f)) × IsAsDeclared (length S.entries) raw f
