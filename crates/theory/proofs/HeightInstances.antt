-- How renaming and instantiation change the height of a term.
use Rattle.std.proofs.Common.{ℕ, zero, suc, ◌+◌, ◌≤◌, max, refl, ap₂, arith}
use Rattle.theory.specs.Terms.{Term, height}
use Rattle.theory.specs.Terms.Term.{Var, Pi, Lam, App, Let}
use Rattle.theory.specs.Substitutions.{up, inst, ups}
use Rattle.theory.specs.InstanceLaws.{HeightOfRen, HeightOfInst}
use Rattle.theory.proofs.Heights.{height-positive}

-- a renaming keeps the height
pub height-ren : HeightOfRen
height-ren r (Pi a b) = ap₂ (λ x y. 1 + max x y) (height-ren r a) (height-ren (up r) b)
height-ren r (Lam a b) = ap₂ (λ x y. 1 + max x y) (height-ren r a) (height-ren (up r) b)
height-ren r (App f a) = ap₂ (λ x y. 1 + max x y) (height-ren r f) (height-ren r a)
height-ren r (Let a t b) =
    ap₂ (λ x y. 1 + max x y) (height-ren r a) (ap₂ max (height-ren r t) (height-ren (up r) b))
height-ren r _ = refl

height-ups : (s : ℕ → Term) (n : ℕ) → ((i : ℕ) → height (s i) ≤ n) → (i : ℕ) → height (ups s i) ≤ n
height-ups s n each zero = omega (arith, each 0, height-positive (s 0))
height-ups s n each (suc i) = omega (arith, each i, height-ren suc (s i))

height-inst-least : (s : ℕ → Term) (t : Term) → height t ≤ height (inst s t)
height-inst-least s (Var i) = height-positive (s i)
height-inst-least s (Pi a b) = omega (arith, height-inst-least s a, height-inst-least (ups s) b)
height-inst-least s (Lam a b) = omega (arith, height-inst-least s a, height-inst-least (ups s) b)
height-inst-least s (App f a) = omega (arith, height-inst-least s f, height-inst-least s a)
height-inst-least s (Let a t b) =
    omega (arith, height-inst-least s a, height-inst-least s t, height-inst-least (ups s) b)
height-inst-least s _ = omega arith

height-inst-most : (s : ℕ → Term) (t : Term) (n : ℕ) → ((i : ℕ) → height (s i) ≤ n) → height (inst s t) + 1 ≤ height t + n
height-inst-most s (Var i) n each = omega (arith, each i)
height-inst-most s (Pi a b) n each =
    omega (arith, height-inst-most s a n each, height-inst-most (ups s) b n (height-ups s n each))
height-inst-most s (Lam a b) n each =
    omega (arith, height-inst-most s a n each, height-inst-most (ups s) b n (height-ups s n each))
height-inst-most s (App f a) n each = omega (arith, height-inst-most s f n each, height-inst-most s a n each)
height-inst-most s (Let a t b) n each =
    omega (
      arith,
      height-inst-most s a n each,
      height-inst-most s t n each,
      height-inst-most (ups s) b n (height-ups s n each),
    )
height-inst-most s _ n each = omega (arith, each 0, height-positive (s 0))

-- both bounds
pub height-inst : HeightOfInst
height-inst s t n each = (height-inst-least s t, height-inst-most s t n each)
