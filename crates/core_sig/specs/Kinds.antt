-- The kinds of arguments: an argument of a constructor is recursive exactly where its type ends in the family itself.
use Rattle.std.specs.Prelude.{◌≡◌, ℕ, ◌+◌, List, [], ◌∷◌, length, All}
use Rattle.theory.specs.Terms as tree
use Rattle.theory.specs.Terms.Term.{Var}
use Rattle.theory.specs.Telescopes.{Telescope, weaken_by}
use Rattle.theory.specs.Families as pure
use Rattle.theory.specs.Families.{Lacks, family_head, recursive_type}
use Rattle.core_terms.specs.Meanings.{tree_of}
use Rattle.core_sig.specs.Meanings.{family_of}
use Rattle.core_sig.specs.declared.family.ArgKind.{ArgKind}
use Rattle.core_sig.specs.declared.family.ArgKind.TheVariants.{Plain, Recursive}
use Rattle.core_sig.specs.declared.family.Arg.{Arg}
use Rattle.core_sig.specs.declared.family.Family.{Family}
use Rattle.core_sig.specs.declared.entry.Entry.{Entry}
use Rattle.core_sig.specs.declared.entry.Entry.TheVariants.{Family as FamilyEntry}

-- After `at` arguments, the type t is (inner) -> D p targets, where D is family number n with the declared parameters
-- p and one target for each index, and D is absent from `inner` and the targets.
pub record IsRecursiveType (n : ℕ) (f : pure.Family) (at : ℕ) (inner : Telescope) (targets : List tree.Term) (t : tree.Term) : Type 0 where
  pub form : t ≡ recursive_type Var (weaken_by at (family_head n f)) inner targets
  pub inner_lacks : All (Lacks n) inner
  pub targets_lack : All (Lacks n) targets
  pub target_count : length targets ≡ length f.indices

-- `Recursive count` is exactly where the type t is recursive with `count` inner arguments, else `Plain`
abbrev pub HasKind : ℕ → pure.Family → ℕ → ArgKind → tree.Term → Type 0
HasKind n f at Plain t = (inner : Telescope) (targets : List tree.Term) → ¬ IsRecursiveType n f at inner targets t
HasKind n f at (Recursive count) t =
    (inner : Telescope) × (targets : List tree.Term) × (length inner ≡ count) × IsRecursiveType n f at inner targets t

-- the arguments after `at` others have the kinds of their types
abbrev pub HaveKinds : ℕ → pure.Family → ℕ → List Arg → Type 0
HaveKinds n f at [] = Unit {0}
HaveKinds n f at (a ∷ args) = HasKind n f at a.kind (tree_of a.ty) × HaveKinds n f (at + 1) args

-- every argument of a constructor of family number n has the kind of its type, and indices are plain
pub record HasKinds (n : ℕ) (f : Family) : Type 0 where
  pub indices : All (λ i. i.kind ≡ Plain) f.indices
  pub constructors : All (λ c. HaveKinds n (family_of f) 0 c.args) f.cons

-- an entry that is a family has its kinds
abbrev pub HasEntryKinds : ℕ → Entry → Type 0
HasEntryKinds n (FamilyEntry f) = HasKinds n f
HasEntryKinds n _ = Unit {0}
