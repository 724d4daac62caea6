-- Whether an entry is an instance: the eliminator of a family, or K of an identity family, at a level.
use Rattle.std.specs.Prelude.{ℕ, Bool, false, ◌&&◌, ◌==◌}
use Rattle.theory.specs.Signatures.{Entry, EliminatorAt, AxiomKAt}
use Rattle.core_sig.specs.declared.instance_place.Instance.{Instance}
use Rattle.core_sig.specs.declared.instance_place.Instance.TheVariants.{Eliminator, AxiomK}

-- the entry is the eliminator of family n into Type m
abbrev pub is_eliminator : ℕ → ℕ → Entry → Bool
is_eliminator n m (EliminatorAt f l) = (f == n) && (l == m)
is_eliminator n m _ = false

-- the entry is the axiom K of Eq.i into Type m
abbrev pub is_axiom_k : ℕ → ℕ → Entry → Bool
is_axiom_k i m (AxiomKAt j l) = (j == i) && (l == m)
is_axiom_k i m _ = false

-- the entry is the instance
abbrev pub is_instance : Instance → Entry → Bool
is_instance (Eliminator n m) e = is_eliminator n m e
is_instance (AxiomK i m) e = is_axiom_k i m e
