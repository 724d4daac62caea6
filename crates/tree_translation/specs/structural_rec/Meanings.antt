-- The meanings of the code's values.
use Rattle.std.specs.Prelude.{List, map}
use Rattle.core_terms.specs.Meanings.{tree_of, tele_of}
use Rattle.tree_translation.specs.structural_rec.Uses as pure
use Rattle.tree_translation.specs.structural_rec.Choices as choices
use Rattle.tree_translation.specs.structural_rec.Positions as positions
use Rattle.tree_translation.specs.declared.structural_rec.choice.Use.{Use}
use Rattle.tree_translation.specs.declared.structural_rec.choice.Failing.{Failing}
use Rattle.tree_translation.specs.declared.structural_rec.choice.Choice.{Choice}
use Rattle.tree_translation.specs.declared.structural_rec.choice.Choice.TheVariants.{NotRecursive, At, NotSmaller}
use Rattle.tree_translation.specs.declared.structural_rec.admission.Admission.{Admission}

abbrev pub use_of : Use → pure.Use
use_of u = record { function = u.function; clause = u.clause; terms = tele_of u.terms; body = tree_of u.body }

abbrev pub uses_of : List Use → List pure.Use
uses_of uses = map use_of uses

abbrev pub failing_of : Failing → choices.Failing
failing_of f = record { position = f.position; function = f.function; clause = f.clause; call = tree_of f.call }

abbrev pub choice_of : Choice → choices.Choice
choice_of NotRecursive = choices.NotRecursive
choice_of (At j) = choices.At j
choice_of (NotSmaller rows) = choices.NotSmaller (map failing_of rows)

abbrev pub admission_of : Admission → positions.Admission
admission_of a = record { number = a.number; fixed = a.fixed.items; indices = a.indices.items }
