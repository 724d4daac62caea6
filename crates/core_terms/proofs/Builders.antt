-- Products, functions and spines that are built one by one, and the heights of their parts.
use Rattle.std.proofs.Common.{◌≡◌, ℕ, zero, suc, ◌+◌, ◌≤◌, List, [], ◌∷◌, ◌++◌, length, map, Result, Ok, refl, ap, ap₂, arith}
use Rattle.std.proofs.lemmas.List.{length-append}
use Rattle.theory.specs.Terms.{Term, height}
use Rattle.theory.specs.Terms.Term.{Var, Pi, Lam, App}
use Rattle.theory.specs.Telescopes.{Telescope, products, functions, applied, variables, weaken_by}
use Rattle.core_terms.specs.declared.stop.Stop.{Stop}

-- a product over one type more
pub products-push : (tele : Telescope) (a b : Term) → products (tele ++ a ∷ []) b ≡ products tele (Pi a b)
products-push [] a b = refl
products-push (c ∷ tele) a b = ap (Pi c) (products-push tele a b)

-- a function over one type more
pub functions-push : (tele : Telescope) (a b : Term) → functions (tele ++ a ∷ []) b ≡ functions tele (Lam a b)
functions-push [] a b = refl
functions-push (c ∷ tele) a b = ap (Lam c) (functions-push tele a b)

-- one argument more
pub applied-push : (head : Term) (spine : List Term) (a : Term) → applied head (spine ++ a ∷ []) ≡ App (applied head spine) a
applied-push head [] a = refl
applied-push head (b ∷ spine) a = applied-push (App head b) spine a

pub length_snoc : (us : List Term) (a : Term) → length (us ++ a ∷ []) ≡ length us + 1
length_snoc us a = length-append us (a ∷ [])

-- with none before them the nearest variables are themselves
pub variables-nearest : (k : ℕ) → map (weaken_by 0) (variables k) ≡ variables k
variables-nearest zero = refl
variables-nearest (suc k) = ap₂ ◌∷◌ (ap Var (omega arith)) (variables-nearest k)

pub ruleset variable_laws = (variables-nearest)

-- a product is as high as its telescope is long, above its body
pub height-products : (tele : Telescope) (b : Term) → height b + length tele ≤ height (products tele b)
height-products [] b = omega arith
height-products (a ∷ tele) b = omega (arith, height-products tele b)

-- and a spine as it is long, above its head
pub height-applied : (head : Term) (spine : List Term) → height head + length spine ≤ height (applied head spine)
height-applied head [] = omega arith
height-applied head (a ∷ spine) = omega (arith, height-applied (App head a) spine)

-- answers that are the same hold the same
pub ok_is : {A : Type 0} {a b : A} → ◌≡◌ {A = Result A Stop} (Ok a) (Ok b) → a ≡ b
ok_is e = cc
