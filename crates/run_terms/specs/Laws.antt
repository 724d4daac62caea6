-- The term that is answered for an injectivity or a conflict is that of the definition.
use Rattle.std.specs.Prelude.{◌≡◌, ℕ, Ok}
use Rattle.theory.specs.Terms.{Term}
use Rattle.tree_translation.specs.Comparisons.{Comparison}
use Rattle.tree_translation.specs.ConfusionTerms.{inject_term, conflict_term}
use Rattle.tree_translation.specs.Naming.{Naming}
use Rattle.tree_translation.specs.Standings.{Standing}
use Rattle.run_terms.specs.CodeConfusions.{inject_made, conflict_made}

abbrev pub InjectIsTerm : Type 0
InjectIsTerm =
    (number : Naming) (L : ℕ) (s : Standing) (k : ℕ) (c : Comparison) (N t : Term) → inject_made number L s k c N ≡ Ok t →
    t ≡ inject_term number L s k c N

abbrev pub ConflictIsTerm : Type 0
ConflictIsTerm =
    (number : Naming) (L : ℕ) (s : Standing) (k : ℕ) (c : Comparison) (t : Term) → conflict_made number L s k c ≡ Ok t →
    t ≡ conflict_term number L s k c
