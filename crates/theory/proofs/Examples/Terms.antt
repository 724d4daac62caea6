-- Lifting, substitution, heights, free variables, telescopes.
use Rattle.std.proofs.Common.{◌≡◌, [], ◌∷◌, refl, lit<}
use Rattle.theory.specs.Terms.{Term, Var, Sort, Pi, Lam, App, Let, Const, lift, subst, height, free_of, IsClosed, SortsBelow}
use Rattle.theory.specs.Substitutions.{weaken, inst, extend, fill}
use Rattle.theory.specs.Telescopes.{products, functions, applied, arrows, variables, weaken_by, context_behind, inst_telescope, lift_context}

-- \x. x y0 y1 with y0 the nearest free variable: y0 and the bound variable stay, y1 goes up
lifted : lift (Lam (Sort 0) (App (App (Var 0) (Var 1)) (Var 2))) 3 1 ≡ Lam (Sort 0) (App (App (Var 0) (Var 1)) (Var 5))
lifted = refl

-- y1 := y0 in \x. x y0 y1 y2, where y2 becomes y1
substituted : subst (Lam (Sort 0) (App (App (App (Var 0) (Var 1)) (Var 2)) (Var 3))) 1 (Var 0)
    ≡ Lam (Sort 0) (App (App (App (Var 0) (Var 1)) (Var 1)) (Var 2))
substituted = refl

-- both under the binders of a product and of a `let`
let_lifted : lift (Let (Var 0) (Var 0) (Pi (Var 0) (Var 2))) 1 0 ≡ Let (Var 1) (Var 1) (Pi (Var 0) (Var 3))
let_lifted = refl

let_substituted : (u : Term) → subst (Let (Sort 0) (Var 0) (App (Var 1) (Var 0))) 0 (Const 7) ≡ Let (Sort 0) (Const 7) (App (Const 7) (Var 0))
let_substituted u = refl

heights : height (Pi (Sort 0) (Let (Var 0) (Lam (Var 0) (Var 0)) (Var 1))) ≡ 4
heights = refl

-- \x. x y0 y1 has two free variables, and the identity function has none
free : free_of (Lam (Sort 0) (App (App (Var 0) (Var 1)) (Var 2))) ≡ 2
free = refl

closed : IsClosed (Lam (Sort 0) (Lam (Var 0) (Var 0)))
closed = refl

-- Type 0 -> Type 1 holds no sort above Type 1
sorts : SortsBelow 2 (Pi (Sort 0) (Sort 1))
sorts = (lit< tt, lit< tt)

weakened : weaken (Lam (Var 0) (App (Var 0) (Var 1))) ≡ Lam (Var 1) (App (Var 0) (Var 2))
weakened = refl

weakened_by_two : weaken_by 2 (Pi (Var 0) (Var 1)) ≡ Pi (Var 2) (Var 3)
weakened_by_two = refl

-- terms for all variables at once, the last of the list for the nearest
filled : (a b : Term) → inst (fill Var (a ∷ b ∷ [])) (App (App (Var 0) (Var 1)) (Var 2)) ≡ App (App b a) (Var 0)
filled a b = refl

-- (A : Type 0) (x : A) as a telescope
telescope_of_products : (b : Term) → products (Sort 0 ∷ Var 0 ∷ []) b ≡ Pi (Sort 0) (Pi (Var 0) b)
telescope_of_products b = refl

telescope_of_functions : (b : Term) → functions (Sort 0 ∷ Var 0 ∷ []) b ≡ Lam (Sort 0) (Lam (Var 0) b)
telescope_of_functions b = refl

telescope_context : context_behind [] (Sort 0 ∷ Var 0 ∷ []) ≡ Var 0 ∷ Sort 0 ∷ []
telescope_context = refl

telescope_variables : (f : Term) → applied f (variables 2) ≡ App (App f (Var 1)) (Var 0)
telescope_variables f = refl

-- A -> B -> C over three variables
three_arrows : arrows (Var 2 ∷ Var 1 ∷ []) (Var 0) ≡ Pi (Var 2) (Pi (Var 2) (Var 2))
three_arrows = refl

-- x : A and F : A -> Type 0 after a variable A, where two types are put in between
context_lifted : lift_context (Pi (Var 1) (Sort 0) ∷ Var 0 ∷ []) 2 ≡ Pi (Var 3) (Sort 0) ∷ Var 2 ∷ []
context_lifted = refl

-- A for the variable of (x : A) (y : F x)
instantiated : (u : Term) → inst_telescope (extend Var (Const 7)) (Var 0 ∷ App (Var 1) (Var 0) ∷ []) ≡ Const 7 ∷ App (Const 7) (Var 0) ∷ []
instantiated u = refl
