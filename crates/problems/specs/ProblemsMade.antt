-- The problem of a constructor, as the code makes it.
use Rattle.std.specs.Prelude.{ℕ, ◌+◌, List, [], ◌∷◌, ◌++◌, length, map, Result, Ok}
use Rattle.theory.specs.Terms.{Term, Var}
use Rattle.theory.specs.Telescopes.{Telescope}
use Rattle.theory.specs.Families.{Constructor}
use Rattle.core_terms.specs.Answers.{and_then, bounded_terms}
use Rattle.core_terms.specs.declared.stop.Stop.{Stop}
use Rattle.tele_eq.specs.Items.{Item}
use Rattle.unification.specs.Heights.{bounded_items}
use Rattle.unification.specs.Injecting.{lifted}
use Rattle.unification.specs.Records.{argument_items, family_items, constructor_terms}
use Rattle.unification.specs.States.{Problem}
use Rattle.case_trees.specs.Problems.{Member, problem_of}

-- the problem itself, or Deep where a part of the family's record in it is too high
abbrev pub problem_made : Telescope → (x : ℕ) → Member → (number : ℕ) → Constructor → Result Problem Stop
problem_made context x m number c =
    and_then (bounded_items (argument_items m.n m.parameters c)) (λ arguments.
    and_then (bounded_items (family_items m.n m.family (lifted (length c.arguments) m.parameters))) (λ telescope.
    and_then (bounded_terms (constructor_terms m.n number m.parameters c)) (λ left. Ok (problem_of context x m number c))))

-- the problem of its parts
abbrev pub problem_of_parts : Telescope → (x count : ℕ) → (indices : List Term) → (arguments telescope : List Item) → (left : List Term) → Problem
problem_of_parts context x count indices arguments telescope left = record {
  context = context ++ map (λ item. item.type) arguments;
  telescope = telescope;
  left = left;
  right = lifted count indices ++ Var (x + count) ∷ [];
}
