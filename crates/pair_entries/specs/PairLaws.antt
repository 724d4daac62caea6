-- The entries that the code makes of a function over a pair of positions are those of the definitions, where each next standing of a run
-- is the one that is meant.
use Rattle.std.specs.Prelude.{◌≡◌, ℕ, List, Ok}
use Rattle.theory.specs.Signatures.{Signature}
use Rattle.core_sig.specs.Drafts.{Draft}
use Rattle.tree_translation.specs.Plans.{Plan}
use Rattle.split_terms.specs.Laws.{StepsAreThese}
use Rattle.lex_recursion.specs.PairEntries.{pair_entries}
use Rattle.pair_entries.specs.CodePairEntries.{pair_entries_made}

abbrev pub PairEntriesAreThese : Type 0
PairEntriesAreThese =
    (S : Signature) → StepsAreThese S → (plan : Plan) (second : ℕ) (drafts : List Draft) → pair_entries_made S plan second ≡ Ok drafts →
    pair_entries S plan second ≡ Ok drafts
