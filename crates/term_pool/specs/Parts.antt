-- The parts of a tree.
use Rattle.std.specs.Prelude.{◌≡◌, ◌⊎◌}
use Rattle.theory.specs.Terms.{Term, Pi, Lam, App, Let}

-- `s` is the tree itself, or a part of one of its parts
abbrev pub IsPart : Term → Term → Type 0
IsPart s (Pi a b) = (s ≡ Pi a b) ⊎ (IsPart s a ⊎ IsPart s b)
IsPart s (Lam a b) = (s ≡ Lam a b) ⊎ (IsPart s a ⊎ IsPart s b)
IsPart s (App f a) = (s ≡ App f a) ⊎ (IsPart s f ⊎ IsPart s a)
IsPart s (Let a t b) = (s ≡ Let a t b) ⊎ (IsPart s a ⊎ (IsPart s t ⊎ IsPart s b))
IsPart s t = s ≡ t
