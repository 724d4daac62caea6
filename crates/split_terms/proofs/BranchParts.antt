-- The problem of a constructor from its parts, and the standing from which its run starts.
use Rattle.std.proofs.Common.{◌≡◌, ℕ, List, length}
use Rattle.theory.specs.Terms.{Term}
use Rattle.theory.specs.Telescopes.{Telescope}
use Rattle.theory.specs.Families.{Constructor}
use Rattle.tele_eq.specs.Items.{Item}
use Rattle.unification.specs.Injecting.{lifted}
use Rattle.unification.specs.Records.{argument_items, family_items, constructor_terms}
use Rattle.case_trees.specs.Problems.{Member, problem_of}
use Rattle.problems.specs.ProblemsMade.{problem_of_parts}

pub parts-are : (context : Telescope) (x : ℕ) (m : Member) (number : ℕ) (c : Constructor) (count : ℕ) (arguments telescope : List Item) (left : List Term)
    → count ≡ length c.arguments → arguments ≡ argument_items m.n m.parameters c
    → telescope ≡ family_items m.n m.family (lifted count m.parameters) → left ≡ constructor_terms m.n number m.parameters c
    → problem_of_parts context x count m.indices arguments telescope left ≡ problem_of context x m number c
parts-are context x m number c count arguments telescope left ec ea et el = rw (el, et, ea, ec)
