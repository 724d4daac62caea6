-- The state after an injectivity: the first equations, between `us_c, c ps us` and `us_c, c ps vs`, become those between the
-- arguments us and vs.
use Rattle.std.specs.Prelude.{ℕ, ◌+◌, List, ◌++◌, length, map, drop}
use Rattle.theory.specs.Terms.{Term, lift}
use Rattle.theory.specs.Telescopes.{variables}
use Rattle.theory.specs.Families.{Family, Constructor}
use Rattle.core_terms.specs.Levels.{variable}
use Rattle.tele_eq.specs.TelescopicEquality.{equations}
use Rattle.tele_eq.specs.Congruences.{congruences}
use Rattle.unification.specs.States.{Equation, State, equations_at}
use Rattle.unification.specs.Moving.{over_first, behind, moved}
use Rattle.unification.specs.Records.{argument_items, family_items, constructor_terms}

-- terms after so many equations more
abbrev pub lifted : (by : ℕ) → List Term → List Term
lifted by terms = map (λ t. lift t by 0) terms

-- After the equations of the arguments, the proof of each equation of the group: congs(I, D ps I; us_c, c ps Ac; es).
abbrev pub group_proofs : (n number : ℕ) → Family → Constructor → (ps us vs : List Term) → List Term
group_proofs n number f c ps us vs =
    let count = length c.arguments in
    let ps' = lifted count ps in
    congruences (argument_items n ps' c) (family_items n f ps') (constructor_terms n number ps' c)
    (lifted count us) (lifted count vs) (variables count)

-- The first g equations become those of the arguments of constructor `number` of family n. In the others the targets and the
-- constructor at the new places stand for the g places, and the congruences for the g equations.
abbrev pub injected_equations : State → (g n number : ℕ) → Family → Constructor → (ps us vs : List Term) → List Equation
injected_equations s g n number f c ps us vs =
    let m = length s.context in
    let new = m + length c.arguments in
    let X = argument_items n ps c in
    let items = behind m g new variable (over_first new (constructor_terms n number ps c)) in
    let types = behind m g new variable (over_first new (group_proofs n number f c ps us vs)) in
    equations_at X (equations X us vs) us vs ++ moved items types (λ t. t) (m + g) new (drop g s.equations)

abbrev pub injected_state : State → (g n number : ℕ) → Family → Constructor → (ps us vs : List Term) → State
injected_state s g n number f c ps us vs = record s { equations = injected_equations s g n number f c ps us vs }
