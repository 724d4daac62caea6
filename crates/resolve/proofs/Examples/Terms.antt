-- Terms as they resolve, by computation.
use native.Mathlib.Decide.{ℕ_discrete}
use Rattle.std.proofs.Common.{◌≡◌, ℕ, List, [], ◌∷◌, Option, Some, Ok, Err, refl}
use Rattle.std.specs.Prelude.{codes}
use Rattle.theory.specs.Terms as tree
use Rattle.surface_syntax.specs.Trees.{Surf, Binders, Lam, Pi, Arrow, App, Let, Sort, Named, nil, cons, Group, bind, no_binder}
use Rattle.surface_syntax.specs.declared.tree.Word.{Word}
use Rattle.resolve.specs.declared.stop.ResolveStop.TheVariants.{UnknownName}
use Rattle.resolve.specs.Resolving.{resolve_term}
use Rattle.resolve.proofs.Examples.Sample.{sample, numbers, word}

named : List ℕ → ℕ → Surf
named text start = Named (word text start)

-- one binder for the names
binder : List (Option Word) → Surf → Binders
binder names ty = bind (Group names ty) no_binder

-- (x : Type 0) -> (x : x) -> x: the nearest binder has the name
shadowing : resolve_term sample [] (Pi (binder (Some (word (codes "x") 0) ∷ []) (Sort 0)) (Pi (binder (Some (word (codes "x") 9) ∷ []) (named (codes "x") 13)) (named (codes "x") 20)))
    ≡ Ok (tree.Pi (tree.Sort 0) (tree.Pi (tree.Var 0) (tree.Var 0)))
unfolding named binder word native.Mathlib.Decide.ℕ_discrete
shadowing = refl

-- (x y : x) -> y under x and z: the second x is the one that is bound first
anew : resolve_term sample (codes "x" ∷ codes "z" ∷ []) (Pi (binder (Some (word (codes "x") 1) ∷ Some (word (codes "y") 3) ∷ []) (named (codes "x") 7)) (named (codes "y") 13))
    ≡ Ok (tree.Pi (tree.Var 1) (tree.Pi (tree.Var 0) (tree.Var 0)))
unfolding named binder word native.Mathlib.Decide.ℕ_discrete
anew = refl

-- \(x y : x) -> y: nothing has the name at first
unknown : resolve_term sample [] (Lam (binder (Some (word (codes "x") 2) ∷ Some (word (codes "y") 4) ∷ []) (named (codes "x") 8)) (named (codes "y") 14))
    ≡ Err (UnknownName 8 (codes "x"))
unfolding named binder word sample numbers native.Mathlib.Decide.ℕ_discrete
unknown = refl

-- let x : Type 1 = x in x
let_in_value : resolve_term sample [] (Let (word (codes "x") 4) (Sort 1) (named (codes "x") 17) (named (codes "x") 22)) ≡ Err (UnknownName 17 (codes "x"))
unfolding named word sample numbers native.Mathlib.Decide.ℕ_discrete
let_in_value = refl

-- a `let` under another x, which the value names
let_under : resolve_term sample (codes "x" ∷ []) (Let (word (codes "x") 4) (Sort 1) (named (codes "x") 17) (named (codes "x") 22))
    ≡ Ok (tree.Let (tree.Sort 1) (tree.Var 0) (tree.Var 0))
unfolding named word native.Mathlib.Decide.ℕ_discrete
let_under = refl

-- N -> c N d: a family, its constructor and a definition; an arrow binds no name
symbols : resolve_term sample (codes "d" ∷ []) (Arrow (named (codes "N") 0) (App (named (codes "s") 5) (cons (named (codes "two") 7) (cons (named (codes "d") 11) nil))))
    ≡ Ok (tree.Pi (tree.Fam 0) (tree.App (tree.App (tree.Con 0 1) (tree.Const 1)) (tree.Var 1)))
unfolding named word sample numbers native.Mathlib.Decide.ℕ_discrete
symbols = refl

-- a binder hides a constructor
hidden : resolve_term sample (codes "s" ∷ []) (named (codes "s") 0) ≡ Ok (tree.Var 0)
unfolding named word native.Mathlib.Decide.ℕ_discrete
hidden = refl
