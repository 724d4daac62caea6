-- Lists of the meanings of elements.
use Rattle.std.proofs.Common.{suc, zero, List, [], ◌∷◌, map, All, arith}
use Rattle.std.proofs.lemmas.List.Elements.{All-tail}

-- a property of the meanings of elements
pub all-unmapped : {X Y : Type 0} (P : Y → Type 0) (f : X → Y) (xs : List X) → All P (map f xs) → All (λ x. P (f x)) xs
all-unmapped P f [] all k d lt = absurd (omega arith)
all-unmapped P f (x ∷ xs) all zero d lt = all 0 (f d) (omega arith)
all-unmapped P f (x ∷ xs) all (suc k) d lt = all-unmapped P f xs (All-tail P (f x) (map f xs) all) k d (omega arith)
