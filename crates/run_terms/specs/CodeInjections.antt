-- The parts of the equations after an injectivity that the code makes apart. Deep comes where something in the equations of the
-- arguments, or in what proves those of the group, is too high.
use Rattle.std.specs.Prelude.{ℕ, ◌+◌, List, length, drop, Result, Ok}
use Rattle.theory.specs.Terms.{Term}
use Rattle.theory.specs.Telescopes.{variables}
use Rattle.core_terms.specs.Answers.{and_then}
use Rattle.core_terms.specs.Levels.{variable}
use Rattle.core_terms.specs.declared.stop.Stop.{Stop}
use Rattle.tele_eq.specs.Items.{Item}
use Rattle.unification.specs.Injecting.{lifted}
use Rattle.unification.specs.Moving.{over_first, behind, moved}
use Rattle.unification.specs.Records.{argument_items, family_items, constructor_terms}
use Rattle.unification.specs.States.{Equation, State}
use Rattle.problems.specs.CodeInjections.{equations_joined}
use Rattle.tree_translation.specs.Comparisons.{Comparison}
use Rattle.tree_translation.specs.Replays.{with_state}
use Rattle.tree_translation.specs.Standings.{Standing}
use Rattle.run_terms.specs.CodePlaces.{side_of}
use Rattle.run_terms.specs.Made.{congruences_made, equations_made}
use Rattle.run_terms.specs.declared.moving.Sides.TheVariants.{Same}

-- the equations after the first g ones, where terms and proofs over `depth` variables stand for the g places and equations
abbrev pub moved_after_group : State → (g size depth : ℕ) (terms proofs : List Term) → List Equation
moved_after_group s g size depth terms proofs =
    moved (behind size g depth variable (over_first depth terms)) (behind size g depth variable (over_first depth proofs)) (side_of Same)
    (size + g) depth (drop g s.equations)

abbrev pub arguments_of : Comparison → List Item
arguments_of c = argument_items c.n c.parameters c.left.constructor

abbrev pub terms_at : Comparison → (ps : List Term) → List Term
terms_at c ps = constructor_terms c.n c.left.number ps c.left.constructor

-- the proofs of the equations of the group, at parameters after `count` equations
abbrev pub proofs_after : Comparison → (count : ℕ) (ps : List Term) → Result (List Term) Stop
proofs_after c count ps =
    congruences_made (argument_items c.n ps c.left.constructor) (family_items c.n c.family ps)
    (terms_at c ps) (lifted count c.left.arguments) (lifted count c.right.arguments)
    (variables count)

abbrev pub group_made : Comparison → Result (List Term) Stop
group_made c =
    proofs_after c (length c.left.constructor.arguments) (lifted (length c.left.constructor.arguments) c.parameters)

-- the equations after an injectivity
abbrev pub injected_made : State → (g : ℕ) → Comparison → Result (List Equation) Stop
injected_made s g c =
    and_then (equations_made (arguments_of c) c.left.arguments c.right.arguments) (λ types. and_then (group_made c) (λ proofs.
    Ok (equations_joined s g (arguments_of c) types c.left.arguments c.right.arguments (terms_at c c.parameters) proofs)))

abbrev pub standing_made : Standing → (g : ℕ) → Comparison → Result Standing Stop
standing_made s g c =
    and_then (injected_made s.state g c) (λ equations. Ok (with_state s (record s.state { equations = equations })))
