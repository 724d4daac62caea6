-- Applications and names of binders, as the code makes them.
use Rattle.std.proofs.Common.{◌≡◌, ◌==◌, false, List, [], ◌∷◌, ◌++◌, length, map, refl, ap}
use Rattle.std.specs.Prelude.{Some}
use Rattle.surface_syntax.specs.Trees as tree
use Rattle.surface_syntax.specs.Grammar.{applied}
use Rattle.surface_syntax.specs.Machine as machine
use Rattle.surface_syntax.specs.TreeMeanings.{surf_of}
use Rattle.surface_syntax.specs.declared.tree.Surf.{Surf}
use Rattle.surface_syntax.specs.declared.tree.Word.{Word}

pub applied_some : (h : tree.Surf) (args : List Surf) → false ≡ (length args == 0) → tree.App h (tree.surfs (map surf_of args)) ≡ applied h (map surf_of args)
applied_some h [] q = cc
applied_some h (a ∷ args) q = refl

pub some_names_push : (ws : List Word) (w : Word) → machine.some_names (ws ++ w ∷ []) ≡ machine.some_names ws ++ Some w ∷ []
some_names_push [] w = refl
some_names_push (v ∷ ws) w = ap (λ ns. Some v ∷ ns) (some_names_push ws w)
