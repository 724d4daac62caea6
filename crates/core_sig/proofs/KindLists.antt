-- Lists of arguments that have the kinds of their types.
use Rattle.std.proofs.Common.{◌≡◌, ℕ, suc, ◌+◌, List, [], ◌∷◌, ◌++◌, length, ap, ap₂, sym, ◌∙◌, subst, arith}
use Rattle.theory.specs.Families as pure
use Rattle.core_terms.specs.Meanings.{tree_of}
use Rattle.core_sig.specs.Kinds.{HasKind, HaveKinds}
use Rattle.core_sig.specs.KindTests.{inner_count, kind_by}
use Rattle.core_sig.specs.declared.family.Arg.{Arg}
use Rattle.core_sig.proofs.RecursiveForms.{kind-is, kind-same}

-- arguments with one more, whose kind is right after them
pub kinds-push : (n : ℕ) (f : pure.Family) (at : ℕ) (args : List Arg) (a : Arg) → HaveKinds n f at args → HasKind n f (at + length args) a.kind (tree_of a.ty) → HaveKinds n f at (args ++ a ∷ [])
kinds-push n f at [] a kinds kind = (subst (λ k. HasKind n f k a.kind (tree_of a.ty)) (nothing at) kind, tt)
  where
    nothing : (k : ℕ) → k + length {A = Arg} [] ≡ k
    nothing k = omega arith
kinds-push n f at (b ∷ args) a kinds kind = (
  kinds.0,
  kinds-push n f (at + 1) args a kinds.1 (subst (λ k. HasKind n f k a.kind (tree_of a.ty)) (more at (length args)) kind),
)
  where
    more : (j k : ℕ) → j + suc k ≡ (j + 1) + k
    more j k = omega arith

-- only the numbers of parameters and indices of the family matter
pub kinds-moved : (n : ℕ) (f g : pure.Family) (at : ℕ) (args : List Arg) → length g.parameters ≡ length f.parameters → length g.indices ≡ length f.indices → HaveKinds n f at args → HaveKinds n g at args
kinds-moved n f g at [] parameters indices kinds = tt
kinds-moved n f g at (a ∷ args) parameters indices kinds = (
  subst (λ k. HasKind n g at k (tree_of a.ty))
      (sym (kind-same n f at a.kind (tree_of a.ty) kinds.0 ∙ ap kind_by (sym (ap₂ (λ p i. inner_count n p i at (tree_of a.ty)) parameters indices))))
      (kind-is n g at (tree_of a.ty)),
  kinds-moved n f g (at + 1) args parameters indices kinds.1,
)
