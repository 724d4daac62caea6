-- The levels in the shape of a family of a scoped signature are below the greatest one.
use Rattle.std.proofs.Common.{ℕ, ◌+◌, ◌<◌, List, [], ◌∷◌, map, All}
use Rattle.std.proofs.lemmas.List.Elements.{All-head, All-tail, All-nil, All-cons}
use Rattle.theory.specs.Terms.{Term, top}
use Rattle.theory.specs.Families.{Argument, Constructor, Family}
use Rattle.theory.specs.Families.Argument.{Plain, Recursive}
use Rattle.theory.specs.Signatures.{Signature, FamilyOf, IsEntryAt}
use Rattle.theory.specs.SignatureScopes.{IsScopedArguments, IsScopedConstructor, IsScopedFamily, IsScopedSignature}
use Rattle.theory.specs.WellFormed.{first_entries}
use Rattle.core_sig.specs.FamilyShapes.{argument_shapes, constructor_shape, family_shape}
use Rattle.core_sig.specs.Shapes.{ArgumentShape, ConstructorShape, Shape}
use Rattle.core_sig.specs.declared.family.ArgKind.TheVariants.{Plain as PlainKind}

abbrev pub AreLowArguments : List ArgumentShape → Type 0
AreLowArguments arguments = All (λ a. a.level < top) arguments

pub record HasLowLevels (f : Shape) : Type 0 where
  pub level : f.level < top
  pub indices : AreLowArguments f.indices
  pub constructors : All (λ c. AreLowArguments c.arguments) f.constructors

arguments-low : (S : Signature) (n : ℕ) (f : Family) (at m : ℕ) (arguments : List Argument) → IsScopedArguments S m arguments → AreLowArguments (argument_shapes n f at arguments)
arguments-low S n f at m [] h = All-nil (λ (a : ArgumentShape). a.level < top)
arguments-low S n f at m (Plain type level ∷ arguments) h =
    All-cons (λ (a : ArgumentShape). a.level < top) _ (argument_shapes n f (at + 1) arguments) h.0.1 (arguments-low S n f (at + 1) (m + 1) arguments h.1)
arguments-low S n f at m (Recursive inner targets level ∷ arguments) h =
    All-cons (λ (a : ArgumentShape). a.level < top) _ (argument_shapes n f (at + 1) arguments) h.0.2 (arguments-low S n f (at + 1) (m + 1) arguments h.1)

indices-low : (is : List (Term × ℕ)) → All (λ (i : Term × ℕ). i.1 < top) is → AreLowArguments (map (λ (i : Term × ℕ). record { type = i.0; level = i.1; kind = PlainKind }) is)
indices-low [] h = All-nil (λ (a : ArgumentShape). a.level < top)
indices-low (i ∷ is) h =
    All-cons (λ (a : ArgumentShape). a.level < top) (record { type = i.0; level = i.1; kind = PlainKind }) _ (All-head (λ (i : Term × ℕ). i.1 < top) i is h)
    (indices-low is (All-tail (λ (i : Term × ℕ). i.1 < top) i is h))

constructors-low : (S : Signature) (n : ℕ) (f : Family) (p k : ℕ) (cs : List Constructor) → All (IsScopedConstructor S p k) cs → All (λ c. AreLowArguments c.arguments) (map (constructor_shape n f) cs)
constructors-low S n f p k [] h = All-nil (λ (c : ConstructorShape). AreLowArguments c.arguments)
constructors-low S n f p k (c ∷ cs) h =
    All-cons (λ (c : ConstructorShape). AreLowArguments c.arguments) (constructor_shape n f c) (map (constructor_shape n f) cs)
    (arguments-low S n f 0 p c.arguments (All-head (IsScopedConstructor S p k) c cs h).arguments)
    (constructors-low S n f p k cs (All-tail (IsScopedConstructor S p k) c cs h))

pub shape-levels : (S : Signature) (n : ℕ) (f : Family) → IsScopedSignature S → IsEntryAt S n (FamilyOf f) → HasLowLevels (family_shape n f)
shape-levels S n f scoped at =
    let is : IsScopedFamily S n f = scoped n (FamilyOf f) at in record {
      level = is.level;
      indices = indices-low f.indices is.index_levels;
      constructors = constructors-low (first_entries S (n + 1)) n f _ _ f.constructors is.constructors;
    }
