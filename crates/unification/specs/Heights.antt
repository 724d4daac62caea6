-- Deep: a term that is higher than 2,000 is given or made.
use Rattle.std.specs.Prelude.{ℕ, nat_le, Bool, true, ◌&&◌, cond, List, [], ◌∷◌, length, Result, Ok, Err}
use Rattle.theory.specs.Terms.{Term}
use Rattle.theory.specs.Telescopes.{Telescope}
use Rattle.theory.specs.Families.{Family, Constructor}
use Rattle.core_terms.specs.Answers.{and_then, is_low, are_low, bounded_terms}
use Rattle.core_terms.specs.declared.stop.Stop.{Stop}
use Rattle.core_terms.specs.declared.stop.Stop.TheVariants.{Deep}
use Rattle.tele_eq.specs.Items.{Item}
use Rattle.tele_eq.specs.TelescopicEquality.{equations}
use Rattle.unification.specs.States.{Equation, State, Problem, starting}
use Rattle.unification.specs.Records.{argument_items, family_items, constructor_terms}
use Rattle.unification.specs.Injecting.{lifted, group_proofs, injected_equations}

-- The equations of a longer telescope are not made: a term that binds its variables and its equations is higher than 2,000.
abbrev pub most_places : ℕ
most_places = 1000

abbrev pub are_low_items : List Item → Bool
are_low_items [] = true
are_low_items (x ∷ X) = is_low x.type && are_low_items X

abbrev pub are_low_equations : List Equation → Bool
are_low_equations [] = true
are_low_equations (e ∷ equations) =
    is_low e.place.type && (is_low e.type && (is_low e.left && (is_low e.right && are_low_equations equations)))

-- the state itself, or Deep where a term in it is too high
abbrev pub bounded_state : State → Result State Stop
bounded_state s =
    cond (are_low s.context && (are_low_equations s.equations && are_low s.solution)) (Ok s) (Err Deep)

-- the items themselves, or Deep
abbrev pub bounded_items : List Item → Result (List Item) Stop
bounded_items X = cond (are_low_items X) (Ok X) (Err Deep)

-- eqs(X; us; vs), or Deep
abbrev pub equations_made : List Item → (us vs : List Term) → Result Telescope Stop
equations_made X us vs =
    cond (nat_le (length X) most_places)
    (and_then (bounded_items X) (λ items. bounded_terms (equations items us vs)))
    (Err Deep)

-- The terms for the places and the equations of a group are made even if no equation is left in which they occur.
abbrev pub group_made : (n number : ℕ) → Family → Constructor → (ps us vs : List Term) → Result (List Term) Stop
group_made n number f c ps us vs =
    let ps' = lifted (length c.arguments) ps in
    and_then (bounded_items (argument_items n ps' c)) (λ arguments.
    and_then (bounded_items (family_items n f ps')) (λ family.
    and_then (bounded_terms (constructor_terms n number ps' c)) (λ terms.
    bounded_terms (group_proofs n number f c ps us vs))))

-- the equations after an injectivity, or Deep
abbrev pub injected_made : State → (g n number : ℕ) → Family → Constructor → (ps us vs : List Term) → Result (List Equation) Stop
injected_made s g n number f c ps us vs =
    and_then (equations_made (argument_items n ps c) us vs) (λ types.
    and_then (group_made n number f c ps us vs) (λ proofs.
    and_then (bounded_terms (constructor_terms n number ps c)) (λ terms.
    Ok (injected_equations s g n number f c ps us vs))))

-- the state after it, or Deep
abbrev pub injection_made : State → (g n number : ℕ) → Family → Constructor → (ps us vs : List Term) → Result State Stop
injection_made s g n number f c ps us vs =
    and_then (injected_made s g n number f c ps us vs) (λ equations. bounded_state (record s { equations = equations }))

-- the state from which a problem is solved, or Deep
abbrev pub start_made : Problem → Result State Stop
start_made p =
    and_then (equations_made p.telescope p.left p.right) (λ types. bounded_state (starting p types))
