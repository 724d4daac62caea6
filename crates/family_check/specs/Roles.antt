-- The meanings of the code's roles.
use Rattle.family_check.specs.Families as families
use Rattle.family_check.specs.declared.levels.Role.{Role}
use Rattle.family_check.specs.declared.levels.Role.TheVariants.{Parameter, Index, Argument}

abbrev pub role_of : Role → families.Role
role_of Parameter = families.Parameter
role_of (Index limit) = families.Index limit
role_of (Argument con limit) = families.ArgumentOf con limit
