-- The parts of a family's record at parameters ps: the telescopes of the indices and of a constructor's arguments.
use Rattle.std.specs.Prelude.{ℕ, List, [], ◌∷◌, ◌++◌, length, map}
use Rattle.theory.specs.Terms.{Term, Fam, Con}
use Rattle.theory.specs.Substitutions.{inst, fill}
use Rattle.theory.specs.Telescopes.{Telescope, applied, variables, weaken_by, inst_telescope}
use Rattle.theory.specs.Families.{Family, Constructor, level_of, index_types, argument_types}
use Rattle.theory.specs.Eliminators.{no_variable}
use Rattle.tele_eq.specs.Items.{Item}

-- a telescope with the levels of its types
abbrev pub items_at : Telescope → List ℕ → List Item
items_at (a ∷ tele) (i ∷ levels) = record { type = a; level = i } ∷ items_at tele levels
items_at _ _ = []

-- Ac: the arguments of a constructor of family n
abbrev pub argument_items : (n : ℕ) (ps : List Term) → Constructor → List Item
argument_items n ps c =
    items_at (argument_types (fill no_variable ps) (applied (Fam n) ps) c.arguments) (map level_of c.arguments)

-- I, D ps I: the indices, and the family at them
abbrev pub family_items : (n : ℕ) → Family → (ps : List Term) → List Item
family_items n f ps =
    let count = length f.indices in
    items_at
    (inst_telescope (fill no_variable ps) (index_types f) ++ applied (weaken_by count (applied (Fam n) ps)) (variables count) ∷ [])
    (map (λ i. i.1) f.indices ++ f.level ∷ [])

-- us_c, c ps Ac: the targets of a constructor and the constructor itself, over its arguments
abbrev pub constructor_terms : (n number : ℕ) (ps : List Term) → Constructor → List Term
constructor_terms n number ps c =
    let count = length c.arguments in
    let parameters : ℕ → Term = λ v. weaken_by count (fill no_variable ps v) in
    map (inst (fill parameters (variables count))) c.targets
    ++ applied (weaken_by count (applied (Con n number) ps)) (variables count)
    ∷ []
