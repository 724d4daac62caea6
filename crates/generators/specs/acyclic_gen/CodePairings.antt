-- The meanings of the code's pairings.
use Rattle.generators.specs.acyclic_gen.Pairings as pure
use Rattle.generators.specs.declared.acyclic_gen.pairings.Pairing as code
use Rattle.generators.specs.declared.acyclic_gen.pairings.Pairing.TheVariants.{Within, Several}

abbrev pub pairing_of : code.Pairing → pure.Pairing
pairing_of (Within x y) = pure.Within x y
pairing_of (Several x d directs) = pure.Several x d directs.now
