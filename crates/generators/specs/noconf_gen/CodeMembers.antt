-- The meanings of the code's members.
use Rattle.std.specs.Prelude.{ℕ, ◌≤◌, length}
use Rattle.core_sig.specs.Shapes.{Shape, constructor_shape, shape_of}
use Rattle.generators.specs.noconf_gen.Compared.{constructed}
use Rattle.generators.specs.noconf_gen.Fitting.{FitsMember, FitsSubject}
use Rattle.generators.specs.noconf_gen.NoConfusionTypes as pure
use Rattle.generators.specs.noconf_gen.NoConfusionTypes.{variable_member}
use Rattle.generators.specs.declared.noconf_gen.confusion.Subject.{Subject}
use Rattle.generators.specs.declared.noconf_gen.members.Member.{Member}
use Rattle.generators.specs.declared.noconf_gen.members.Member.TheVariants.{Constructed, Variables}

-- a member of family number n
abbrev pub member_of : (n : ℕ) (f : Shape) → Member → pure.Member
member_of n f (Constructed con number first) =
    constructed n (length f.parameters) (length f.indices) number first (constructor_shape con.now)
member_of n f (Variables start) = variable_member (length f.indices) start

abbrev pub IsFitMember : Shape → Member → Type 0
IsFitMember f (Constructed con number first) =
    FitsMember (length f.parameters) (length f.indices) (constructor_shape con.now) × (first ≤ 100000)
IsFitMember f (Variables start) = start ≤ 100000

abbrev pub IsFitSubject : Subject → Type 0
IsFitSubject subject = FitsSubject (shape_of subject.family.now) (constructor_shape subject.con.now)
