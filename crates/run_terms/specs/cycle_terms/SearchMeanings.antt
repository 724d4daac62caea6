-- The meaning of the code's search.
use Rattle.core_terms.specs.Meanings.{tele_of}
use Rattle.core_sig.specs.Shapes.{shape_of}
use Rattle.tree_translation.specs.CycleTerms as pure
use Rattle.run_terms.specs.declared.cycle_terms.searching.Search.{Search}

abbrev pub search_of : Search → pure.Search
search_of c = record {
  family = c.number;
  shape = shape_of c.family.now;
  carrier = c.carrier;
  parameters = tele_of c.parameters.now;
  x = c.x;
}
