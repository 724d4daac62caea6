-- The sizes of written terms, which fall from a term to its parts.
use Rattle.std.proofs.Common.{◌≡◌, ℕ, ◌+◌, ◌<◌, ◌≤◌, List, [], ◌∷◌, map, length, get_or, suc, zero, ap, arith}
use Rattle.surface_syntax.specs.Trees as surf
use Rattle.surface_syntax.specs.TreeMeanings.{surf_of, binder_of}
use Rattle.surface_syntax.specs.declared.tree.Binder.{Binder}
use Rattle.surface_syntax.specs.declared.tree.Surf.{Surf}

abbrev mutual
  pub size : surf.Surf → ℕ
  size (surf.Lam bs b) = 1 + size_binders bs + size b
  size (surf.Pi bs b) = 1 + size_binders bs + size b
  size (surf.Arrow a b) = 1 + size a + size b
  size (surf.App f args) = 1 + size f + size_args args
  size (surf.Let x a t b) = 1 + size a + size t + size b
  size (surf.Sort i) = 1
  size (surf.Named x) = 1

  pub size_args : surf.Surfs → ℕ
  size_args surf.nil = 0
  size_args (surf.cons t ts) = size t + size_args ts

  pub size_binders : surf.Binders → ℕ
  size_binders surf.no_binder = 0
  size_binders (surf.bind b bs) = size_binder b + size_binders bs

  pub size_binder : surf.Binder → ℕ
  size_binder (surf.Group names a) = 1 + length names + size a

-- an argument is no larger than all of them
pub size_at : (args : List Surf) (k : ℕ) (d : Surf) → k < length args → size (surf_of (get_or args k d)) ≤ size_args (surf.surfs (map surf_of args))
size_at [] k d lt = absurd (omega arith)
size_at (a ∷ args) zero d lt = omega arith
size_at (a ∷ args) (suc k) d lt = omega (arith, size_at args k d (omega arith))

-- an item of a list of arguments is no larger than all of them
pub size_item : (args : List Surf) (k : ℕ) (a : Surf) → k < length args → a ≡ get_or args k a → size (surf_of a) ≤ size_args (surf.surfs (map surf_of args))
size_item args k a lt is = let at = size_at args k a lt in let e : size (surf_of a) ≡ size (surf_of (get_or args k a)) = ap (λ t. size (surf_of t)) is in omega arith

-- a binder is no larger than all of them
pub size_binder_at : (bs : List Binder) (k : ℕ) (b : Binder) → k < length bs → b ≡ get_or bs k b → size_binder (binder_of b) ≤ size_binders (surf.binders (map binder_of bs))
size_binder_at [] k b lt is = absurd (omega arith)
size_binder_at (c ∷ bs) zero b lt is = let e : size_binder (binder_of b) ≡ size_binder (binder_of c) = ap (λ b. size_binder (binder_of b)) is in omega arith
size_binder_at (c ∷ bs) (suc k) b lt is = omega (arith, size_binder_at bs k b (omega arith) is)
