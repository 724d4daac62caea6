-- Which variables of a context the type of a scrutinee needs. A variable is named by its level: the outermost one has level 0.
use Rattle.std.specs.Prelude.{ℕ, zero, suc, ◌+◌, ◌-◌, Bool, false, ◌||◌, cond, List, [], ◌∷◌}
use Rattle.theory.specs.Terms.{Term, lift}
use Rattle.theory.specs.Telescopes.{Telescope}
use Rattle.tele_eq.specs.Dependences.{has_variable}
use Rattle.tele_eq.specs.Items.{term_at}

-- the types of a context of n variables, the first of which is that of the variable with level j, each as a term over all n variables
abbrev pub widened : (n j : ℕ) → Telescope → List Term
widened n j [] = []
widened n j (a ∷ types) = lift a (n - j) 0 ∷ widened n (j + 1) types

-- whether the type of a variable with one of the levels has the variable with level p
abbrev pub is_mentioned : (n : ℕ) (types : List Term) (p : ℕ) (levels : List ℕ) → Bool
is_mentioned n types p [] = false
is_mentioned n types p (j ∷ levels) = has_variable (n - (p + 1)) (term_at types j) || is_mentioned n types p levels

-- those of the first `below` levels that S has, or the type of a variable which is found already; nearer ones are found first
abbrev pub needed_below : (n : ℕ) (types : List Term) (S : Term) (below : ℕ) (found : List ℕ) → List ℕ
needed_below n types S zero found = found
needed_below n types S (suc p) found =
    needed_below n types S p (cond (has_variable (n - (p + 1)) S || is_mentioned n types p found) (p ∷ found) found)

-- the variables that S has, closed under those that their types have; S and the types are terms over n variables
abbrev pub needed : (n : ℕ) (types : List Term) (S : Term) → List ℕ
needed n types S = needed_below n types S n []
