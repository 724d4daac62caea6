-- When all binders have names.
use Rattle.std.specs.Prelude.{◌≡◌}
use Rattle.resolve.specs.Names.{scope_of}
use Rattle.resolve.specs.Nearest.{names_in}
use Rattle.resolve.specs.declared.variables.Variables.TheInside.{Inside}

abbrev pub AllNamed : Inside → Type 0
AllNamed v = v.binders ≡ scope_of (names_in v.binders)
