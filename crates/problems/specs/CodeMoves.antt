-- The meanings of the code's places.
use Rattle.std.specs.Prelude.{ℕ, ◌+◌, List, [], ◌∷◌, length, map, drop, Option, Some, None}
use Rattle.theory.specs.Terms.{Term}
use Rattle.theory.specs.Signatures.{reflexivity}
use Rattle.core_terms.specs.Levels.{variable}
use Rattle.core_terms.specs.Meanings.{tree_of, tele_of}
use Rattle.tele_eq.specs.Items.{Item}
use Rattle.tele_eq.specs.Environments.{Environment, put}
use Rattle.unification.specs.States as pure
use Rattle.unification.specs.Moving.{over_first, behind, moved, moved_item}
use Rattle.unification.specs.Solving.{reordered, solved, new_context}
use Rattle.problems.specs.declared.moving.Solution.{Solution}
use Rattle.problems.specs.declared.moving.Behind.{Behind}
use Rattle.problems.specs.declared.moving.Places.{Places}
use Rattle.problems.specs.declared.moving.Places.TheVariants as place
use Rattle.problems.specs.declared.moving.Sides.{Sides}
use Rattle.problems.specs.declared.moving.Sides.TheVariants as side

abbrev pub solved_environment : Solution → Environment
solved_environment s = solved s.size s.order.now s.level (tree_of s.by.now)

-- the variables of the context: they stay, or one is solved
abbrev pub variables_of : Option Solution → Environment
variables_of None = variable
variables_of (Some s) = solved_environment s

abbrev pub behind_environment : Behind → Environment
behind_environment b = behind b.size b.count b.new (variables_of b.solution) (over_first b.over (tele_of b.terms.now))

abbrev pub environment_of : Places → Environment
environment_of (place.Reordered order) = reordered order.now
environment_of (place.Solved s) = solved_environment s
environment_of (place.Behind b) = behind_environment b

abbrev pub side_of : Sides → Term → Term
side_of side.Same t = t
side_of (side.Solved s depth) t = put (solved_environment s) s.size depth t

-- the equation of two terms at a place
abbrev pub equation_with : Item → (type left right : Term) → pure.Equation
equation_with place type left right = record { place = place; type = type; left = left; right = right }

-- one of the equations that move
abbrev pub equation_moved : (items types : Environment) (side : Term → Term) (size depth : ℕ) → pure.Equation → pure.Equation
equation_moved items types side size depth e = record {
  place = moved_item items size depth e.place;
  type = put types size depth e.type;
  left = side e.left;
  right = side e.right;
}

-- the equations after the first one, once it is solved: `depth` variables are left
abbrev pub solved_equations : pure.State → (i : ℕ) → Solution → (depth : ℕ) → Term → List pure.Equation
solved_equations s i solution depth A =
    let n = solution.size in
    let A' = put (reordered solution.order.now) n depth A in
    let u' = put (reordered solution.order.now) n depth (tree_of solution.by.now) in
    moved (behind n 1 depth (solved_environment solution) (over_first depth (u' ∷ [])))
    (behind n 1 depth (solved_environment solution) (over_first depth (reflexivity i A' u' ∷ [])))
    (put (solved_environment solution) n depth) (n + 1) depth (drop 1 s.equations)

-- the state in which a variable is solved, where the others are in the given order
abbrev pub state_with : pure.State → (i : ℕ) → Solution → Term → pure.State
state_with s i solution A =
    let m = length solution.order.now in
    record {
      context = new_context s.context (solved_environment solution) 0 solution.order.now;
      equations = solved_equations s i solution m A;
      solution = map (put (solved_environment solution) solution.size m) s.solution;
    }
