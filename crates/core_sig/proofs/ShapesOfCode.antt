-- The shape of a family as the code holds it is that of the family it stands for.
use Rattle.std.proofs.Common.{subst, ◌≡◌, ℕ, ◌+◌, List, [], ◌∷◌, map, length, Result, Some, All, refl, ap, ap₂, sym, ◌∙◌}
use Rattle.std.proofs.lemmas.List.{length-map}
use Rattle.std.proofs.lemmas.List.Elements.{All-head, All-tail}
use Rattle.theory.specs.Terms.{Term}
use Rattle.theory.specs.Families as pure
use Rattle.theory.specs.Signatures.{FamilyOf}
use Rattle.core_terms.specs.Answers.{Gives}
use Rattle.core_terms.specs.Meanings.{tree_of}
use Rattle.core_terms.specs.declared.stop.Stop.{Stop}
use Rattle.core_sig.specs.Kinds.{HasKind, HaveKinds, HasKinds}
use Rattle.core_sig.specs.Meanings.{argument_with, argument_of, constructor_of, family_of}
use Rattle.core_sig.specs.Shapes as shape
use Rattle.core_sig.specs.Shapes.{ArgumentShape, Shape, argument_shape, shape_of}
use Rattle.core_sig.specs.declared.family.ArgKind.{ArgKind}
use Rattle.core_sig.specs.declared.family.ArgKind.TheVariants.{Plain, Recursive}
use Rattle.core_sig.specs.declared.family.Arg.{Arg}
use Rattle.core_sig.specs.declared.family.Constructor.{Constructor}
use Rattle.core_sig.specs.declared.family.Family.{Family}
use Rattle.core_sig.proofs.Arguments.{argument_with-recursive, argument_type-of}
use Rattle.core_sig.specs.declared.entry.Draft.{Draft as DraftOfCode}
use Rattle.core_sig.specs.Drafts.{Draft, draft_of}
use Rattle.core_sig.specs.FamilyShapes.{kind_of, argument_shapes, constructor_shape, family_shape}

abbrev argument : Term → ℕ → ArgKind → ArgumentShape
argument t level kind = record { type = t; level = level; kind = kind }

same-argument : {t u : Term} {i j : ℕ} {k l : ArgKind} → t ≡ u → i ≡ j → k ≡ l → argument t i k ≡ argument u j l
same-argument p q r = cc

kind-is : (n : ℕ) (f : pure.Family) (at : ℕ) (kind : ArgKind) (t : Term) (level : ℕ) → HasKind n f at kind t → kind_of (argument_with (length f.parameters) t level kind) ≡ kind
kind-is n f at Plain t level is = refl
kind-is n f at (Recursive count) t level is = ap kind_of (argument_with-recursive n f at count is.0 is.1 t level is.2 is.3) ∙ ap Recursive is.2

level-is : (p : ℕ) (t : Term) (level : ℕ) (kind : ArgKind) → pure.level_of (argument_with p t level kind) ≡ level
level-is p t level Plain = refl
level-is p t level (Recursive count) = refl

arguments-are : (n : ℕ) (f : pure.Family) (at : ℕ) (args : List Arg) → HaveKinds n f at args → argument_shapes n f at (map (argument_of (length f.parameters)) args) ≡ map argument_shape args
arguments-are n f at [] kinds = refl
arguments-are n f at (a ∷ args) kinds =
    ap₂ ◌∷◌
    (same-argument (argument_type-of n f at a.kind (tree_of a.ty) a.level kinds.0)
    (level-is (length f.parameters) (tree_of a.ty) a.level a.kind)
    (kind-is n f at a.kind (tree_of a.ty) a.level kinds.0))
    (arguments-are n f (at + 1) args kinds.1)

constructors-are : (n : ℕ) (f : pure.Family) (cons : List Constructor) → All (λ c. HaveKinds n f 0 c.args) cons → map (constructor_shape n f) (map (constructor_of (length f.parameters)) cons) ≡ map shape.constructor_shape cons
constructors-are n f [] kinds = refl
constructors-are n f (c ∷ cons) kinds =
    ap₂ ◌∷◌
    (ap (λ arguments. record { arguments = arguments; targets = map tree_of c.targets }) (arguments-are n f 0 c.args (All-head (λ c. HaveKinds n f 0 c.args) c cons kinds)))
    (constructors-are n f cons (All-tail (λ c. HaveKinds n f 0 c.args) c cons kinds))

indices-are : (args : List Arg) → All (λ i. i.kind ≡ Plain) args → map (λ (i : Term × ℕ). argument i.0 i.1 Plain) (map (λ a. (tree_of a.ty, a.level)) args) ≡ map argument_shape args
indices-are [] plain = refl
indices-are (a ∷ args) plain =
    ap₂ ◌∷◌ (ap (argument (tree_of a.ty) a.level) (sym (All-head (λ i. i.kind ≡ Plain) a args plain)))
    (indices-are args (All-tail (λ i. i.kind ≡ Plain) a args plain))

pub shape-is : (n : ℕ) (f : Family) → HasKinds n f → family_shape n (family_of f) ≡ shape_of f
shape-is n f kinds =
    ap₂ (λ indices constructors. record { parameters = map tree_of f.params; indices = indices; level = f.level; constructors = constructors })
    (indices-are f.indices kinds.indices)
    (ap (λ p. map (constructor_shape n (family_of f)) (map (constructor_of p) f.cons)) (sym (length-map f.params tree_of))
    ∙ constructors-are n (family_of f) f.cons kinds.constructors)

-- the entry that is answered for the code's family is that of the signature's family
pub entry-is : (D : List ℕ → Shape → Result Draft Stop) (result : Result DraftOfCode Stop) (n : ℕ) (f : pure.Family) (code : Family) → HasKinds n code
    → Some (FamilyOf (family_of code)) ≡ Some (FamilyOf f) → Gives draft_of result (D code.name (shape_of code)) → Gives draft_of result (D f.name (family_shape n f))
entry-is D result n f code kinds same given =
    let is : family_of code ≡ f = cc in
    subst (λ g. Gives draft_of result (D g.name (family_shape n g))) is
    (subst (λ s. Gives draft_of result (D code.name s)) (sym (shape-is n code kinds)) given)
