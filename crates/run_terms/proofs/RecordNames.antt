-- The names of constructors in a record of the code.
use Rattle.std.proofs.Common.{◌≡◌, ℕ, List, [], ◌∷◌, map, refl, ap}
use Rattle.core_sig.specs.Meanings.{constructor_of}
use Rattle.core_sig.specs.declared.family.Constructor.{Constructor}

pub constructor-names : (p : ℕ) (cons : List Constructor) → map (λ c. c.name) (map (constructor_of p) cons) ≡ map (λ c. c.name) cons
constructor-names p [] = refl
constructor-names p (c ∷ cons) = ap (λ names. c.name ∷ names) (constructor-names p cons)

pub ruleset constructor_names = (constructor-names)
