-- Kinds of arguments, and families that are not whole yet.
use Rattle.std.specs.Prelude.{◌≡◌, Bool, true, false, [], All}
use Rattle.core_sig.specs.declared.family.ArgKind.{ArgKind}
use Rattle.core_sig.specs.declared.family.ArgKind.TheVariants.{Plain, Recursive}
use Rattle.core_sig.specs.declared.family.Family.{Family}

abbrev pub is_recursive : ArgKind → Bool
is_recursive Plain = false
is_recursive (Recursive count) = true

-- a family without constructors, whose indices are plain
pub record IsBare (f : Family) : Type 0 where
  pub indices : All (λ i. i.kind ≡ Plain) f.indices
  pub constructors : f.cons ≡ []
