-- Values for the variables of a term, and tables of instances.
use Rattle.std.specs.Prelude.{◌≡◌, ◌≤◌, ℕ, List, map, IsTrue}
use Rattle.std.specs.List.{All}
use Rattle.core_terms.specs.Bounds.{most_inner_variables}
use Rattle.core_terms.specs.Instances.{instance_with}
use Rattle.theory.specs.Eliminators.{no_variable}
use Rattle.theory.specs.Terms.{Term, Var, free_of}
use Rattle.term_pool.specs.Held.{Held}
use Rattle.term_pool.specs.Shifts.{Serves}
use Rattle.term_pool.specs.declared.instantiation.Beyond.{Beyond}
use Rattle.term_pool.specs.declared.instantiation.Beyond.TheVariants.{Nothing, Itself}
use Rattle.term_pool.specs.declared.shifts.Shift.{Shift}

-- what stands for a variable beyond those that have values
abbrev pub beyond_of : Beyond → ℕ → Term
beyond_of Nothing = no_variable
beyond_of Itself = Var

module _ {I : Type 0} where
  -- the trees of the ids
  unfoldable pub trees_of : Held I → List I → List Term
  trees_of held ids = map held.tree ids

  -- the ids are live, and few variables are free in their trees
  pub record AreValues (held : Held I) (ids : List I) : Type 0 where
    pub live : All (λ v. IsTrue (held.live v)) ids
    pub free : All (λ v. free_of (held.tree v) ≤ most_inner_variables) ids

  -- the ids are values still, and of the same trees
  pub record KeepsValues (old new : Held I) (ids : List I) : Type 0 where
    pub values : AreValues new ids
    pub trees : trees_of new ids ≡ trees_of old ids

  -- each row of the table answers the instance of its tree with the values, under as many binders as its depth says
  pub record Instances (rest : ℕ → Term) (values : List Term) (held : Held I) (rows : List (Shift I)) : Type 0 where
    pub serves : Serves (λ t under. instance_with rest values under t) held rows
