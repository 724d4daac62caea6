-- The parts of which the code makes the equations after an injectivity.
use Rattle.std.specs.Prelude.{ℕ, ◌+◌, List, ◌++◌, length, drop, Result, Ok}
use Rattle.theory.specs.Families.{Family, Constructor}
use Rattle.theory.specs.Telescopes.{Telescope, variables}
use Rattle.theory.specs.Terms.{Term}
use Rattle.core_terms.specs.Answers.{and_then, bounded_terms}
use Rattle.core_terms.specs.Levels.{variable}
use Rattle.core_terms.specs.declared.stop.Stop.{Stop}
use Rattle.tele_eq.specs.Congruences.{congruences}
use Rattle.tele_eq.specs.Items.{Item}
use Rattle.unification.specs.Heights.{bounded_items, group_made}
use Rattle.unification.specs.Injecting.{lifted, injected_equations}
use Rattle.unification.specs.Moving.{over_first, behind, moved}
use Rattle.unification.specs.Records.{argument_items, family_items, constructor_terms}
use Rattle.unification.specs.States.{Equation, State, equations_at}

-- the terms for the places and the equations of a group, at parameters after the equations of the arguments
abbrev pub group_made_behind : (n number : ℕ) → Family → Constructor → (ps us vs : List Term) → Result (List Term) Stop
group_made_behind n number f c ps us vs =
    and_then (bounded_items (argument_items n ps c)) (λ arguments.
    and_then (bounded_items (family_items n f ps)) (λ family.
    and_then (bounded_terms (constructor_terms n number ps c)) (λ terms.
    bounded_terms
    (congruences (argument_items n ps c) (family_items n f ps) (constructor_terms n number ps c) (lifted (length c.arguments) us)
    (lifted (length c.arguments) vs) (variables (length c.arguments))))))

-- equations between the terms of a telescope, and after them those of a state from the g-th one on: the terms stand for the g
-- places before these, and the proofs for the equations
abbrev pub equations_joined : State → (g : ℕ) → List Item → Telescope → (us vs terms proofs : List Term) → List Equation
equations_joined s g X types us vs terms proofs =
    let m = length s.context in
    let new = m + length types in
    equations_at X types us vs
    ++ moved (behind m g new variable (over_first new terms)) (behind m g new variable (over_first new proofs)) (λ t. t) (m + g) new (drop g s.equations)

-- the equations after an injectivity, once those of the arguments are made
abbrev pub injected_rest : State → (g n number : ℕ) → Family → Constructor → (ps us vs : List Term) → Result (List Equation) Stop
injected_rest s g n number f c ps us vs =
    and_then (group_made n number f c ps us vs) (λ proofs.
    and_then (bounded_terms (constructor_terms n number ps c)) (λ terms.
    Ok (injected_equations s g n number f c ps us vs)))
