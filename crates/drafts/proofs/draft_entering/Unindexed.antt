-- A family without indices, as its shape.
use Rattle.std.proofs.Common.{◌≡◌, ℕ, ◌==◌, true, List, [], ◌∷◌, map, length, Result, refl, arith}
use Rattle.theory.specs.Families.{Family}
use Rattle.core_terms.specs.declared.stop.Stop.{Stop}
use Rattle.core_sig.specs.FamilyShapes.{family_shape}
use Rattle.generators.specs.acyclic_gen.Answers.{among_stops, unless_indexed}
use Rattle.unification.specs.Built.{has_no_indices}

none-there : {A I J : Type 0} (g : I → J) (indices : List I) (result : Result A Stop) → (length indices == 0) ≡ true
    → unless_indexed (map g indices) result ≡ among_stops result
none-there g [] result e = refl
none-there g (i ∷ indices) result e = absurd (grind arith)

pub not-indexed : {A : Type 0} (n : ℕ) (f : Family) → has_no_indices f ≡ true → (result : Result A Stop)
    → unless_indexed (family_shape n f).indices result ≡ among_stops result
not-indexed n f h result = none-there _ f.indices result h
