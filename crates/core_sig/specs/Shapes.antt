-- The shape of a family: its record as the code holds it, over plain terms. An argument is its whole type with a kind.
use Rattle.std.specs.Prelude.{ℕ, ◌+◌, ◌≤◌, List, [], ◌∷◌, map, length}
use Rattle.theory.specs.Terms.{Term}
use Rattle.theory.specs.Telescopes.{Telescope}
use Rattle.core_terms.specs.Meanings.{tree_of, tele_of}
use Rattle.core_sig.specs.declared.family.ArgKind.{ArgKind}
use Rattle.core_sig.specs.declared.family.ArgKind.TheVariants.{Plain, Recursive}
use Rattle.core_sig.specs.declared.family.Arg.{Arg}
use Rattle.core_sig.specs.declared.family.Constructor.{Constructor}
use Rattle.core_sig.specs.declared.family.Family.{Family}

-- a constructor argument or an index: its type, the level of that type, and its kind
pub record ArgumentShape : Type 0 where
  pub type : Term
  pub level : ℕ
  pub kind : ArgKind

pub record ConstructorShape : Type 0 where
  pub arguments : List ArgumentShape
  pub targets : List Term

pub record Shape : Type 0 where
  pub parameters : Telescope
  pub indices : List ArgumentShape
  pub level : ℕ
  pub constructors : List ConstructorShape

-- the types of arguments or indices
abbrev pub types_of : List ArgumentShape → Telescope
types_of arguments = map (λ a. a.type) arguments

-- one value for a plain argument, and another for a recursive one, by its number of inner arguments
abbrev pub by_kind : {B : Type 0} → ArgKind → B → (ℕ → B) → B
by_kind Plain plain recursive = plain
by_kind (Recursive count) plain recursive = recursive count

-- how many of the arguments are recursive
abbrev pub recursive_count : List ArgumentShape → ℕ
recursive_count [] = 0
recursive_count (a ∷ arguments) = by_kind a.kind (recursive_count arguments) (λ count. recursive_count arguments + 1)

-- at most 2,000 arguments in each constructor
abbrev pub HaveFewArguments : List ConstructorShape → Type 0
HaveFewArguments [] = Unit {0}
HaveFewArguments (c ∷ constructors) = (length c.arguments ≤ 2000) × HaveFewArguments constructors

-- at most 2,000 of each: a term with more binders or arguments is too high
pub record IsFew (f : Shape) : Type 0 where
  pub parameters : length f.parameters ≤ 2000
  pub indices : length f.indices ≤ 2000
  pub constructors : length f.constructors ≤ 2000
  pub arguments : HaveFewArguments f.constructors

abbrev pub argument_shape : Arg → ArgumentShape
argument_shape a = record { type = tree_of a.ty; level = a.level; kind = a.kind }

abbrev pub constructor_shape : Constructor → ConstructorShape
constructor_shape c = record { arguments = map argument_shape c.args; targets = tele_of c.targets }

abbrev pub shape_of : Family → Shape
shape_of f = record {
  parameters = tele_of f.params;
  indices = map argument_shape f.indices;
  level = f.level;
  constructors = map constructor_shape f.cons;
}
