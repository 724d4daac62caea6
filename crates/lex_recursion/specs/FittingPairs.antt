-- Which calls fit a pair of positions, and which pairs are usable.
use Rattle.std.specs.Prelude.{◌⊎◌, ℕ, Bool, ◌||◌, List, All}
use Rattle.theory.specs.Terms.{Term}
use Rattle.theory.specs.Signatures.{Signature}
use Rattle.tree_translation.specs.structural_rec.Calls.{Call, calls}
use Rattle.tree_translation.specs.structural_rec.Uses.{Use}
use Rattle.tree_translation.specs.structural_rec.Fitting.{Fits, fits}
use Rattle.lex_recursion.specs.Pairs.{Pair}

-- A call fits a pair of `count` positions: it fits the first one, or else the second one, under which all that the first recursion goes
-- over is fixed.
abbrev pub FitsPair : (S : Signature) (count : ℕ) (p : Pair) (terms : List Term) → Call → Type 0
FitsPair S count p terms c = Fits S count p.first p.outer terms c ⊎ Fits S count p.second p.inner terms c

-- each call of the function fits the pair, which then is usable
abbrev pub IsUsablePair : (S : Signature) (own count : ℕ) (p : Pair) → List Use → Type 0
IsUsablePair S own count p uses = All (λ u. All (FitsPair S count p u.terms) (calls own u.body)) uses

-- ---- how it is tested

abbrev pub fits_pair : (S : Signature) (count : ℕ) (p : Pair) (terms : List Term) → Call → Bool
fits_pair S count p terms c = fits S count p.first p.outer terms c || fits S count p.second p.inner terms c
