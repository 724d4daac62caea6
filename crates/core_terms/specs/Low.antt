-- The meaning of a term with its height.
use Rattle.theory.specs.Terms as tree
use Rattle.core_terms.specs.Meanings.{tree_of}
use Rattle.core_terms.specs.declared.low.Low.{Low}

abbrev pub low_of : Low → tree.Term
low_of l = tree_of l.term
