-- The meanings of the dots of pairs.
use Rattle.std.specs.Prelude.{List, map}
use Rattle.theory.specs.Terms as tree
use Rattle.core_terms.specs.Meanings.{tree_of}
use Rattle.clause_walks.specs.declared.parts.Forced.{Forced}

abbrev pub forced_of : Forced → tree.Term × tree.Term
forced_of d = (tree_of d.written.now, tree_of d.term.now)

abbrev pub all_forced : List Forced → List (tree.Term × tree.Term)
all_forced list = map forced_of list
