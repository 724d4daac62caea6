-- How a map finds the nearest binder of each name.
use Rattle.std.specs.Prelude.{◌≡◌, ℕ, ◌+◌, ◌-◌, List, [], map, Option, option_map, unwrap_or, length, reverse, bytes_eq}
use Rattle.std.specs.Prelude.{Vec}
use Rattle.std.specs.Map.{lookup}
use Rattle.std.specs.declared.alloc.Global.{Global}
use Rattle.resolve.specs.declared.binders.Binders.TheInside.{Inside}
use Rattle.resolve.specs.Names.{Scope, variable_of}

-- the names of binders, from the outermost on, where each has one
abbrev pub names_in : Scope → List (List ℕ)
names_in scope = reverse (map (λ x. unwrap_or x []) scope)

-- the place that the name has
abbrev pub last_of : List ℕ → List (Vec ℕ Global × ℕ) → Option ℕ
last_of name places = lookup (λ key. bytes_eq name key.items) places

-- the place of the last binder with a name, counted from the outermost one, is that of the nearest
abbrev pub IsNearest : Inside → Type 0
IsNearest b = (name : List ℕ) → last_of name b.last.entries ≡ option_map (λ n. length b.names.items - (n + 1)) (variable_of name (reverse b.names.items))
