-- The meanings of the code's scopes and known names.
use Rattle.std.specs.Prelude.{ℕ, ◌∷◌, ◌++◌, length}
use Rattle.std.specs.Option.{option_copied}
use Rattle.theory.specs.Terms as tree
use Rattle.resolve.specs.declared.scope.Scope as code
use Rattle.resolve.specs.declared.symbols.Own.{Own}
use Rattle.resolve.specs.declared.symbols.Own.TheVariants.{Unnamed, Family, Function, Members}
use Rattle.resolve.specs.declared.symbols.Symbols.{Symbols}
use Rattle.resolve.specs.Names.{Known, Scope, scope_of, known_in, with_name, with_constants}

abbrev pub names_of : code.Scope → Scope
names_of (code.Given names) = scope_of names.now
names_of (code.Under' x p outer) = option_copied x ∷ names_of outer
names_of (code.Behind' binders p outer) = binders.now ++ names_of outer

-- the name of the declaration that is resolved stands for entry n; members have numbers of their own
abbrev pub known_with : Own → ℕ → Known → Known
known_with Unnamed n known = known
known_with (Family name) n known = with_name name.now (tree.Fam n) known
known_with (Function name) n known = with_name name.now (tree.Const n) known
known_with (Members members) n known = with_constants members.now.first members.now.names known

abbrev pub known_of : Symbols → Known
known_of s = known_with s.own (length s.sig.now.entries) (known_in s.sig.now)
