-- The meaning of recursion at a position.
use Rattle.core_sig.specs.Meanings.{family_of}
use Rattle.tree_translation.specs.structural_rec.Meanings.{admission_of}
use Rattle.tree_translation.specs.Recursion as pure
use Rattle.leaf_terms.specs.declared.recursion.NamedRecursion.{NamedRecursion}
use Rattle.leaf_terms.specs.declared.recursion.Recursion.{Recursion}

abbrev pub recursion_of : Recursion → pure.Recursion
recursion_of r = record { position = r.position; admission = admission_of r.admission; family = family_of r.family.now }

abbrev pub named_of : NamedRecursion → pure.NamedRecursion
named_of c = record { recursion = recursion_of c.recursion.now; motive = c.motive.now; places = c.places.now }
