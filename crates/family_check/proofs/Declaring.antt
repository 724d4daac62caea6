-- The conditions of declaring a family on its parts.
use Rattle.std.proofs.Common.{◌≡◌, ◌≢◌, ℕ, ◌<◌, true, false, Option, Some, None, Result, Ok, Err, IfOk, List, [], ◌∷◌, length, map, All, AllPairs, sym, ap, ◌∙◌, subst as transport, arith}
use Rattle.std.specs.Option.{is_some}
use Rattle.std.proofs.lemmas.List.Elements.{All-nil, All-head, All-tail, All-weaker}
use Rattle.theory.specs.Families as pure
use Rattle.theory.specs.Signatures.{FamilyOf, Signature, names_of}
use Rattle.theory.proofs.Lists.{only}
use Rattle.core_sig.specs.Kinds.{HasKinds, HaveKinds}
use Rattle.core_sig.specs.Meanings.{constructor_of, family_of}
use Rattle.core_sig.specs.Names.{find}
use Rattle.core_sig.specs.Raw.{RawConstructor, RawFamily, raw_constructor_of, raw_names}
use Rattle.core_sig.specs.declared.raw.RawCon.{RawCon}
use Rattle.core_terms.specs.Meanings.{tree_of}
use Rattle.theory.specs.SignatureScopes.{IsScoped}
use Rattle.theory.specs.WellFormed.{pushed}
use Rattle.core_terms.specs.Bounds.{context_limit}
use Rattle.kernel_reduce.specs.WellScoped.{AreScoped, AreWellScoped}
use Rattle.core_terms.specs.declared.stop.Stop as stop
use Rattle.core_sig.specs.declared.family.Constructor.{Constructor}
use Rattle.core_sig.specs.declared.family.Family.{Family}
use Rattle.family_check.specs.Entering.{are_new}
use Rattle.family_check.specs.Families.{declare_type, declare_family}
use Rattle.family_check.specs.Kinds.{IsBare}
use Rattle.family_check.specs.Laws.{IsAsDeclared}
use Rattle.family_check.specs.Outcomes.{ended}
use Rattle.family_check.specs.Scopes.{IsSettled, IsScopedRaw, site_signature, IsScopedStop}
use Rattle.family_check.proofs.AsDeclared.{IsBareAsDeclared, type-given, family-given}
use Rattle.family_check.proofs.NewNames.{none-passes, both-false, not-true, new-differ}
use Rattle.core_terms.proofs.Answers.{Splits}
use Rattle.family_check.proofs.Scoped.{IsBareScoped, type-scoped}
use Rattle.family_check.proofs.ScopedEntering.{OverBare, over-bare}
use Rattle.family_check.proofs.ShapeLoops.{kinds-whole}

-- the family without constructors, once its type is checked
pub bare-stands : (S : Signature) → IsSettled S → (raw : RawFamily) (f : pure.Family) (left l : ℕ) → IsScopedRaw S raw → ended (Ok f) l ≡ declare_type S raw left → OverBare S raw f
bare-stands S settled raw f left l h is =
    over-bare S settled raw f h (transport (λ x. Splits (IsBareScoped S raw) (IsScopedStop (site_signature S raw)) x.0) (sym is) (type-scoped S settled raw left h))

pub bare-given : (S : Signature) (raw : RawFamily) (f : pure.Family) (left l : ℕ) → ended (Ok f) l ≡ declare_type S raw left → IsBareAsDeclared raw f
bare-given S raw f left l is = transport (λ x. IfOk x.0 (IsBareAsDeclared raw)) (sym is) (type-given S raw left)

-- and the types of its constructors
pub constructors-asked : (S : Signature) → IsSettled S → (cons : List RawCon) (raw : RawFamily) (f : pure.Family) (left l : ℕ) → IsScopedRaw S raw
    → map raw_constructor_of cons ≡ raw.constructors → ended (Ok f) l ≡ declare_type S raw left → length f.parameters < context_limit
    → AreWellScoped (pushed S (FamilyOf f)) f.parameters (map (λ c. tree_of c.ty) cons)
constructors-asked S settled cons raw f left l h given is few =
    let over = bare-stands S settled raw f left l h is in
    record {
      signature = over.settled.scoped;
      context = over.parameters;
      few = few;
      terms = types cons (transport (All (λ r. IsScoped T (length f.parameters) r.type)) (sym given) over.types);
    }
  where
    T : Signature
    T = pushed S (FamilyOf f)

    types : (cs : List RawCon) → All (λ (r : RawConstructor). IsScoped T (length f.parameters) r.type) (map raw_constructor_of cs)
        → AreScoped T (length f.parameters) (map (λ c. tree_of c.ty) cs)
    types [] k = tt
    types (c ∷ cs) k = (
      All-head (λ (r : RawConstructor). IsScoped T (length f.parameters) r.type) (raw_constructor_of c) (map raw_constructor_of cs) k,
      types cs (All-tail (λ (r : RawConstructor). IsScoped T (length f.parameters) r.type) (raw_constructor_of c) (map raw_constructor_of cs) k),
    )

none-of : {A : Type 0} (o : Option A) → is_some o ≡ false → o ≡ None
none-of None h = cc
none-of (Some a) h = absurd (grind arith)

-- names that are new are unknown, and all different
pub unknown-names : (S : Signature) (names : List (List ℕ)) → are_new S names ≡ true → All (λ name. find S name ≡ None) names
unknown-names S names h =
    All-weaker (λ name. is_some (find S name) ≡ false) (λ name. find S name ≡ None) (λ name. none-of (find S name)) names
    (none-passes (λ name. is_some (find S name)) names (both-false _ _ (not-true _ h)).0)

pub distinct-names : (S : Signature) (names : List (List ℕ)) → are_new S names ≡ true → AllPairs (λ x y. x ≢ y) names
distinct-names S names h = (new-differ S names h).distinct

-- a family without constructors brings its own name
bare-names : (f : Family) → IsBare f → names_of (FamilyOf (family_of f)) ≡ f.name ∷ []
bare-names f b = ap (λ cs. f.name ∷ map (λ c. c.name) (map (constructor_of (length f.params)) cs)) b.constructors

copied-names : (f g : Family) → family_of g ≡ family_of f → IsBare f → names_of (FamilyOf (family_of g)) ≡ f.name ∷ []
copied-names f g same b = ap (λ h. names_of (FamilyOf h)) same ∙ bare-names f b

pub bare-unknown : (S : Signature) (f g : Family) → family_of g ≡ family_of f → IsBare f → find S f.name ≡ None → All (λ name. find S name ≡ None) (names_of (FamilyOf (family_of g)))
bare-unknown S f g same b none =
    transport (All (λ name. find S name ≡ None)) (sym (copied-names f g same b)) (only (λ name. find S name ≡ None) f.name none)

pub bare-distinct : (f g : Family) → family_of g ≡ family_of f → IsBare f → AllPairs (λ x y. x ≢ y) (names_of (FamilyOf (family_of g)))
bare-distinct f g same b =
    transport (AllPairs (λ x y. x ≢ y)) (sym (copied-names f g same b)) (λ i j d lt within. absurd (omega arith))

pub bare-kinds : (n : ℕ) (f : Family) → IsBare f → HasKinds n f
bare-kinds n f b =
    record { indices = b.indices; constructors = transport (All Kept) (sym b.constructors) (All-nil Kept) }
  where
    Kept : Constructor → Type 0
    Kept c = HaveKinds n (family_of f) 0 c.args

-- with its constructors, each with the kinds of its arguments
abbrev pub whole : Family → List Constructor → Family
whole f cs = record { name = f.name; params = f.params; indices = f.indices; level = f.level; cons = cs }

pub whole-kinds : (n : ℕ) (f : Family) (cs : List Constructor) → IsBare f → All (λ c. HaveKinds n (family_of f) 0 c.args) cs → HasKinds n (whole f cs)
whole-kinds n f cs b h = record {
  indices = b.indices;
  constructors = All-weaker (λ c. HaveKinds n (family_of f) 0 c.args) (λ c. HaveKinds n (family_of (whole f cs)) 0 c.args)
      (λ c. kinds-whole n (family_of f) (map (constructor_of (length f.params)) cs) 0 c.args) cs h;
}

abbrev same_families : Result pure.Family stop.Stop → Result pure.Family stop.Stop → Type 0
same_families r s = r ≡ s

-- the copy stands for the same family
pub given_family : (f g : pure.Family) → same_families (Ok f) (Ok g) → f ≡ g
given_family f g e = ap (λ r. value r) e
  where
    value : Result pure.Family stop.Stop → pure.Family
    value (Ok h) = h
    value (Err s) = f

-- the whole family brings the names that are declared
pub family-names : (S : Signature) (raw : RawFamily) (f : pure.Family) (left l : ℕ) → ended (Ok f) l ≡ declare_family S raw left → names_of (FamilyOf f) ≡ raw_names raw
family-names S raw f left l is = (transport (λ x. IfOk x.0 (IsAsDeclared (length S.entries) raw)) (sym is) (family-given S raw left)).names
