-- A family whose parts are those of another with constants numbered anew.
use Rattle.std.proofs.Common.{◌≡◌, ℕ, ◌+◌, List, [], ◌∷◌, map, length, All, refl, ap, ap₂, sym, ◌∙◌, subst}
use Rattle.std.proofs.lemmas.List.{length-map}
use Rattle.std.proofs.lemmas.List.Elements.{All-head, All-tail, All-nil, All-cons}
use Rattle.std.proofs.lemmas.Simd.{map-map}
use Rattle.theory.specs.Terms as tree
use Rattle.theory.specs.Families as pure
use Rattle.core_terms.specs.Meanings.{tree_of, tele_of}
use Rattle.core_terms.specs.declared.term.Term.{Term}
use Rattle.core_sig.specs.Kinds.{HasKind, HaveKinds, HasKinds}
use Rattle.core_sig.specs.Meanings.{argument_with, argument_of, constructor_of, family_of}
use Rattle.core_sig.specs.Settling.{renumbered, renumbered_argument, renumbered_constructor, renumbered_family}
use Rattle.core_sig.specs.SettledParts.{ArgumentParts, ConstructorParts, FamilyParts, argument_parts, constructor_parts, family_parts, settled_argument, settled_terms, settled_constructor, settled_family}
use Rattle.core_sig.specs.declared.family.ArgKind.TheVariants.{Plain}
use Rattle.core_sig.specs.declared.family.Arg.{Arg}
use Rattle.core_sig.specs.declared.family.Constructor.{Constructor}
use Rattle.core_sig.specs.declared.family.Family.{Family}
use Rattle.core_sig.proofs.Renumbering.{kind-renumbered, argument-renumbered}

-- ---- meanings of parts

abbrev argument_from : ℕ → ArgumentParts → pure.Argument
argument_from p a = argument_with p a.0 a.1.0 a.1.1

abbrev constructor_from : ℕ → ConstructorParts → pure.Constructor
constructor_from p c = record { name = c.0; arguments = map (argument_from p) c.1.0; targets = c.1.1 }

abbrev family_from : FamilyParts → pure.Family
family_from f = record {
  name = f.0;
  parameters = f.1.0;
  indices = map (λ a. (a.0, a.1.0)) f.1.1.0;
  level = f.1.1.1.0;
  constructors = map (constructor_from (length f.1.0)) f.1.1.1.1;
}

map-same : {X Y : Type 0} (f g : X → Y) (xs : List X) → ((x : X) → f x ≡ g x) → map f xs ≡ map g xs
map-same f g [] each = refl
map-same f g (x ∷ xs) each = ap₂ ◌∷◌ (each x) (map-same f g xs each)

abbrev built : List ℕ → List tree.Term → List (tree.Term × ℕ) → ℕ → List pure.Constructor → pure.Family
built name parameters indices level constructors =
    record { name = name; parameters = parameters; indices = indices; level = level; constructors = constructors }

constructor-from_parts : (p : ℕ) (c : Constructor) → constructor_from p (constructor_parts c) ≡ constructor_of p c
constructor-from_parts p c =
    ap (λ arguments. record { name = c.name; arguments = arguments; targets = tele_of c.targets })
    (map-map (argument_from p) argument_parts c.args)

-- a family's meaning is given by its parts
family-from_parts : (f : Family) → family_from (family_parts f) ≡ family_of f
family-from_parts f =
    ap₂ (λ indices constructors. built f.name (tele_of f.params) indices f.level constructors)
    (map-map (λ (a : ArgumentParts). (a.0, a.1.0)) argument_parts f.indices)
    (map-map (constructor_from (length (tele_of f.params))) constructor_parts f.cons
    ∙ map-same (λ c. constructor_from (length (tele_of f.params)) (constructor_parts c)) (constructor_of (length f.params)) f.cons
    (λ c. constructor-from_parts (length (tele_of f.params)) c ∙ ap (λ p. constructor_of p c) (length-map f.params tree_of)))

-- ---- the parts with constants numbered anew

terms-settled : (r : ℕ → ℕ) (ts : List Term) → settled_terms r ts ≡ map (renumbered r) (tele_of ts)
terms-settled r ts = sym (map-map (renumbered r) tree_of ts)

arguments-settled : (r : ℕ → ℕ) (p : ℕ) (args : List Arg) → map (argument_from p) (map (settled_argument r) args) ≡ map (renumbered_argument r) (map (argument_of p) args)
arguments-settled r p args =
    map-map (argument_from p) (settled_argument r) args
    ∙ (map-same (λ a. argument_from p (settled_argument r a)) (λ a. renumbered_argument r (argument_of p a)) args (λ a. argument-renumbered r p (tree_of a.ty) a.level a.kind)
    ∙ sym (map-map (renumbered_argument r) (argument_of p) args))

constructor-settled : (r : ℕ → ℕ) (p : ℕ) (c : Constructor) → constructor_from p (settled_constructor r c) ≡ renumbered_constructor r (constructor_of p c)
constructor-settled r p c =
    ap₂ (λ arguments targets. record { name = c.name; arguments = arguments; targets = targets }) (arguments-settled r p c.args)
    (terms-settled r c.targets)

family-settled : (r : ℕ → ℕ) (f : Family) → family_from (settled_family r f) ≡ renumbered_family r (family_of f)
family-settled r f =
    ap₂ (λ parameters (rest : List (tree.Term × ℕ) × List pure.Constructor). built f.name parameters rest.0 f.level rest.1) (terms-settled r f.params)
    (ap₂ (λ indices constructors. (indices, constructors))
    (map-map (λ (a : ArgumentParts). (a.0, a.1.0)) (settled_argument r) f.indices
    ∙ sym (map-map (λ (i : tree.Term × ℕ). (renumbered r i.0, i.1)) (λ (a : Arg). (tree_of a.ty, a.level)) f.indices))
    (map-map (constructor_from (length (settled_terms r f.params))) (settled_constructor r) f.cons
    ∙ (map-same (λ c. constructor_from (length (settled_terms r f.params)) (settled_constructor r c)) (λ c. renumbered_constructor r (constructor_of (length f.params) c)) f.cons
    (λ c. ap (λ p. constructor_from p (settled_constructor r c)) (length-map f.params (λ t. renumbered r (tree_of t))) ∙ constructor-settled r (length f.params) c)
    ∙ sym (map-map (renumbered_constructor r) (constructor_of (length f.params)) f.cons))))

-- the family that has them
pub family-renumbered : (r : ℕ → ℕ) (f g : Family) → family_parts g ≡ settled_family r f → family_of g ≡ renumbered_family r (family_of f)
family-renumbered r f g is = sym (family-from_parts g) ∙ (ap family_from is ∙ family-settled r f)

-- ---- kinds

abbrev PartKinds : ℕ → pure.Family → ℕ → List ArgumentParts → Type 0
PartKinds n f at [] = Unit {0}
PartKinds n f at (a ∷ args) = HasKind n f at a.1.1 a.0 × PartKinds n f (at + 1) args

kinds-from_parts : (n : ℕ) (f : pure.Family) (at : ℕ) (args : List Arg) → PartKinds n f at (map argument_parts args) → HaveKinds n f at args
kinds-from_parts n f at [] kinds = tt
kinds-from_parts n f at (a ∷ args) kinds = (kinds.0, kinds-from_parts n f (at + 1) args kinds.1)

kinds-settled : (r : ℕ → ℕ) (n : ℕ) (f g : pure.Family) (at : ℕ) (args : List Arg) → length g.parameters ≡ length f.parameters → length g.indices ≡ length f.indices → HaveKinds n f at args → PartKinds n g at (map (settled_argument r) args)
kinds-settled r n f g at [] parameters indices kinds = tt
kinds-settled r n f g at (a ∷ args) parameters indices kinds =
    (kind-renumbered r n f g at a.kind (tree_of a.ty) parameters indices kinds.0, kinds-settled r n f g (at + 1) args parameters indices kinds.1)

constructors-kept : (r : ℕ → ℕ) (n : ℕ) (f g : pure.Family) (cs ds : List Constructor) → length g.parameters ≡ length f.parameters → length g.indices ≡ length f.indices → map constructor_parts ds ≡ map (settled_constructor r) cs → All (λ c. HaveKinds n f 0 c.args) cs → All (λ c. HaveKinds n g 0 c.args) ds
constructors-kept r n f g cs [] parameters indices is all = All-nil (λ c. HaveKinds n g 0 c.args)
constructors-kept r n f g [] (d ∷ ds) parameters indices is all = absurd (cc)
constructors-kept r n f g (c ∷ cs) (d ∷ ds) parameters indices is all =
    let first : constructor_parts d ≡ settled_constructor r c = cc in
    let rest : map constructor_parts ds ≡ map (settled_constructor r) cs = cc in
    All-cons (λ c. HaveKinds n g 0 c.args) d ds
    (kinds-from_parts n g 0 d.args
    (subst (PartKinds n g 0) (sym (ap (λ k. k.1.0) first))
    (kinds-settled r n f g 0 c.args parameters indices (All-head (λ c. HaveKinds n f 0 c.args) c cs all))))
    (constructors-kept r n f g cs ds parameters indices rest (All-tail (λ c. HaveKinds n f 0 c.args) c cs all))

plain-kept : (r : ℕ → ℕ) (is js : List Arg) → map argument_parts js ≡ map (settled_argument r) is → All (λ i. i.kind ≡ Plain) is → All (λ i. i.kind ≡ Plain) js
plain-kept r is [] same all = All-nil (λ i. i.kind ≡ Plain)
plain-kept r [] (j ∷ js) same all = absurd (cc)
plain-kept r (i ∷ is) (j ∷ js) same all =
    let first : argument_parts j ≡ settled_argument r i = cc in
    let rest : map argument_parts js ≡ map (settled_argument r) is = cc in
    All-cons (λ i. i.kind ≡ Plain) j js (ap (λ a. a.1.1) first ∙ All-head (λ i. i.kind ≡ Plain) i is all)
    (plain-kept r is js rest (All-tail (λ i. i.kind ≡ Plain) i is all))

-- kinds stay right
pub kinds-renumbered : (r : ℕ → ℕ) (n : ℕ) (f g : Family) → family_parts g ≡ settled_family r f → HasKinds n f → HasKinds n g
kinds-renumbered r n f g is kinds = record {
  indices = plain-kept r f.indices g.indices (ap (λ k. k.1.1.0) is) kinds.indices;
  constructors = constructors-kept r n (family_of f) (family_of g) f.cons g.cons
      (ap length (ap (λ k. k.1.0) is) ∙ (length-map f.params (λ t. renumbered r (tree_of t)) ∙ sym (length-map f.params tree_of)))
      (length-map g.indices (λ a. (tree_of a.ty, a.level)) ∙ (sym (length-map g.indices argument_parts) ∙ (ap length (ap (λ k. k.1.1.0) is) ∙ (length-map f.indices (settled_argument r) ∙ sym (length-map f.indices (λ a. (tree_of a.ty, a.level)))))))
      (ap (λ k. k.1.1.1.1) is) kinds.constructors;
}
