-- States after a solution and a deletion, as the code makes them.
use Rattle.std.proofs.Common.{◌≡◌, ℕ, ◌+◌, List, [], ◌∷◌, length, drop, ap, ◌++◌, ◌∙◌}
use Rattle.theory.specs.Terms.{Term}
use Rattle.theory.specs.Signatures.{reflexivity}
use Rattle.core_terms.specs.Levels.{variable}
use Rattle.core_terms.specs.Meanings.{tree_of}
use Rattle.core_terms.specs.declared.term.Term as code
use Rattle.tele_eq.specs.Environments.{Environment}
use Rattle.unification.specs.Heights.{bounded_state}
use Rattle.unification.specs.Moving.{over_first, behind, moved}
use Rattle.unification.specs.Occurrences.{order_without}
use Rattle.unification.specs.Solving.{solved_state, deleted_state}
use Rattle.unification.specs.States.{Equation, State}
use Rattle.problems.specs.CodeMoves.{state_with}
use Rattle.problems.specs.Meanings.{equations_of}
use Rattle.problems.specs.declared.state.Equation as equation
use Rattle.problems.specs.declared.moving.Solution.{Solution}

-- the state after a deletion, from equations that are moved
pub deleted-is : (s : State) (i : ℕ) (A u : Term) (n : ℕ) (items types : Environment) (here proof : List Term) (rest equations : List Equation)
    → equations ≡ moved items types (λ t. t) (n + 1) n rest
    → items ≡ behind n 1 n variable (over_first n here) → types ≡ behind n 1 n variable (over_first n proof)
    → here ≡ u ∷ [] → proof ≡ reflexivity i A u ∷ [] → rest ≡ drop 1 s.equations → n ≡ length s.context
    → bounded_state (record s { equations = equations }) ≡ bounded_state (deleted_state s i A u)
deleted-is s i A u n items types here proof rest equations e ei et eh ep er en = rw (e, ei, et, eh, ep, er, en)

-- the state after a solution, where the order is that of its variables
pub solved-is : (s : State) (i p : ℕ) (A : Term) (solution : Solution) → solution.size ≡ length s.context → solution.level ≡ p
    → solution.order.now ≡ order_without s.context p → state_with s i solution A ≡ solved_state s i p A (tree_of solution.by.now)
solved-is s i p A solution es el eo = rw (es, el, eo)

-- equations that are made after none
pub none-before : (made : List equation.Equation) (more equations : List Equation) → made ≡ [] → equations ≡ equations_of made ++ more
    → equations ≡ more
none-before made more equations em e = e ∙ ap (λ xs. equations_of xs ++ more) em
