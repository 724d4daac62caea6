-- Which constructors the code looks for.
use Rattle.std.specs.Prelude.{◌==◌, Bool}
use Rattle.unification.specs.Built as pure
use Rattle.unifier.specs.declared.constructors.Fits.{Fits}
use Rattle.unifier.specs.declared.constructors.Fits.TheVariants.{Level, Family}

-- whether a constructor is such
abbrev pub fits_of : Fits → pure.Built → Bool
fits_of Level b = pure.is_fitting b.family
fits_of (Family n) b = b.n == n
