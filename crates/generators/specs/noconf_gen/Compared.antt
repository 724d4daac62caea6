-- The telescopes that no confusion compares, and their terms, at a depth. The parameters have the levels from 0 on.
use Rattle.std.specs.Prelude.{ℕ, ◌+◌, List, [], ◌∷◌, ◌++◌, map, length, take}
use Rattle.theory.specs.Terms.{Term, Con}
use Rattle.theory.specs.Telescopes.{applied}
use Rattle.core_terms.specs.Levels.{run, place}
use Rattle.core_sig.specs.ByLevels.{family_at}
use Rattle.core_sig.specs.Shapes.{ArgumentShape, ConstructorShape, Shape}
use Rattle.tele_eq.specs.Items.{Item}

-- arguments or indices, the first of which is over `size` variables of the family's record
abbrev pub placed_items : (runs : List (ℕ × ℕ)) (size depth : ℕ) → List ArgumentShape → List Item
placed_items runs size depth [] = []
placed_items runs size depth (a ∷ arguments) =
    record { type = place runs size depth a.type; level = a.level } ∷ placed_items runs (size + 1) (depth + 1) arguments

-- the arguments of a constructor
abbrev pub argument_items : (p depth : ℕ) → ConstructorShape → List Item
argument_items p depth c = placed_items ((0, p) ∷ (depth, length c.arguments) ∷ []) p depth c.arguments

-- the indices and a member of family number n: (I) (y : D p I)
abbrev pub member_items : (n : ℕ) (f : Shape) (depth : ℕ) → List Item
member_items n f depth =
    let p = length f.parameters in
    let k = length f.indices in
    placed_items ((0, p) ∷ (depth, k) ∷ []) p depth f.indices
    ++ record { type = family_at n p (depth + k) depth k; level = f.level } ∷ []

-- a constructor as such a member: its targets at the k indices, and c p s, where the levels of s begin with `first`
abbrev pub constructed : (n p k number first : ℕ) → ConstructorShape → (depth : ℕ) → List Term
constructed n p k number first c depth =
    let count = length c.arguments in
    map (place ((0, p) ∷ (first, count) ∷ []) (p + count) depth) (take k c.targets)
    ++ applied (applied (Con n number) (run depth 0 p)) (run depth first count) ∷ []
