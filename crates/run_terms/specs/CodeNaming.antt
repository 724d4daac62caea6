-- The numbers that a list of names gives.
use Rattle.tree_translation.specs.Naming.{Naming, number_in}
use Rattle.run_terms.specs.declared.naming.Naming as code

abbrev pub naming_of : code.Naming → Naming
naming_of n = number_in n.base n.names.now
