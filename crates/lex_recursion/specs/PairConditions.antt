-- Plans of functions over a pair of positions, as walks, trees and the choice of a pair give them.
use Rattle.std.specs.Prelude.{◌≡◌, ℕ, Some, List, [], ◌∷◌, length}
use Rattle.theory.specs.Telescopes.{products, variables}
use Rattle.theory.specs.Signatures.{Signature}
use Rattle.unification.specs.ScopedStates.{IsReady}
use Rattle.tree_translation.specs.structural_rec.Uses.{Use}
use Rattle.tree_translation.specs.Conditions.{IsPartOf, with_function}
use Rattle.tree_translation.specs.Entries.{ordered_variables}
use Rattle.tree_translation.specs.Plans.{Plan, own_part}
use Rattle.tree_translation.specs.Recursion.{ordered_telescope, ordered_term}
use Rattle.lex_recursion.specs.PairChoices.{At, choose_pair}
use Rattle.lex_recursion.specs.PairEntries.{PairRecursion, order_over, pair_recursion}

-- the function's own tree starts from the pair order
abbrev pub IsOwnPairPart : Signature → Plan → PairRecursion → (uses : List Use) → Type 0
IsOwnPairPart S plan p uses =
    let part = own_part plan in
    let count = length part.tele in
    let order = order_over plan p in
    IsPartOf S plan uses 0 part (ordered_telescope part.tele order) (ordered_term count order part.goal) (ordered_variables order count)

-- A plan of one part over a signature, whose position and second position are the pair that is chosen.
pub record IsPairPlanned (S : Signature) (plan : Plan) (second : ℕ) : Type 0 where
  pub ready : IsReady S
  pub base : plan.base ≡ length S.entries
  pub arity : plan.arity ≡ length (own_part plan).tele
  pub type : plan.type ≡ products (own_part plan).tele (own_part plan).goal
  pub columns : (own_part plan).terms ≡ variables plan.arity
  pub level : (own_part plan).level ≡ plan.level
  pub alone : plan.parts ≡ own_part plan ∷ []
  pub uses : List Use
  pub first : ℕ
  pub position : plan.position ≡ Some first
  pub chosen : choose_pair (with_function S plan) (own_part plan).tele plan.base uses ≡ At first second
  pub pair : PairRecursion
  pub recursion : pair_recursion S plan second ≡ Some pair
  pub own : IsOwnPairPart S plan pair uses
