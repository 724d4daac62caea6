-- The meanings of the code's open pairs.
use Rattle.std.specs.Prelude.{ℕ, List, [], ◌∷◌, map}
use Rattle.theory.specs.Terms.{Term}
use Rattle.theory.specs.Signatures.{Signature}
use Rattle.theory.specs.SignatureScopes.{IsScoped}
use Rattle.core_terms.specs.Meanings.{tree_of}
use Rattle.core_terms.specs.PatternMeanings.{pat_of}
use Rattle.core_terms.specs.Patterns.{Pat}
use Rattle.clause_walks.specs.declared.open_pair.OpenPair.{OpenPair}

abbrev pub open_of : OpenPair → Pat × Term
open_of pair = (pat_of pair.pat.now, tree_of pair.term.now)

abbrev pub all_open_of : List OpenPair → List (Pat × Term)
all_open_of pairs = map open_of pairs

-- the terms are over n variables
abbrev pub AreScopedOpen : Signature → (n : ℕ) → List (Pat × Term) → Type 0
AreScopedOpen S n [] = Unit {0}
AreScopedOpen S n (pair ∷ pairs) = IsScoped S n pair.1 × AreScopedOpen S n pairs
