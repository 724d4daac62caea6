-- The proofs and equations that the code makes after an injectivity.
use Rattle.std.proofs.Common.{◌≡◌, ℕ, List, Result, Ok, ap, ap₂, ◌∙◌}
use Rattle.theory.specs.Terms.{Term}
use Rattle.theory.specs.Telescopes.{variables}
use Rattle.core_terms.specs.Answers.{and_then}
use Rattle.core_terms.specs.declared.stop.Stop.{Stop}
use Rattle.tele_eq.specs.Items.{Item}
use Rattle.unification.specs.Injecting.{lifted}
use Rattle.unification.specs.Records.{argument_items, family_items, constructor_terms}
use Rattle.unification.specs.States.{Equation, State}
use Rattle.problems.specs.CodeInjections.{equations_joined}
use Rattle.tree_translation.specs.Comparisons.{Comparison}
use Rattle.run_terms.specs.CodeInjections.{arguments_of, group_made, injected_made, proofs_after, terms_at}
use Rattle.run_terms.specs.Made.{congruences_made, equations_made}

-- the congruences of terms over two telescopes, after the equations of the arguments
abbrev pub congruences_between : (c : Comparison) (count : ℕ) (X Y : List Item) (Z : List Term) → Result (List Term) Stop
congruences_between c count X Y Z =
    congruences_made X Y Z (lifted count c.left.arguments) (lifted count c.right.arguments) (variables count)

pub sides-are : (c : Comparison) (count : ℕ) (X Y : List Item) (Z us vs es : List Term) → us ≡ lifted count c.left.arguments
    → vs ≡ lifted count c.right.arguments → es ≡ variables count → congruences_made X Y Z us vs es ≡ congruences_between c count X Y Z
sides-are c count X Y Z us vs es eu ev ee = rw (eu, ev, ee)

pub proofs-are : (c : Comparison) (count : ℕ) (ps : List Term) (X Y : List Item) (Z : List Term) → X ≡ argument_items c.n ps c.left.constructor
    → Y ≡ family_items c.n c.family ps → Z ≡ constructor_terms c.n c.left.number ps c.left.constructor
    → congruences_between c count X Y Z ≡ proofs_after c count ps
proofs-are c count ps X Y Z ex ey ez = rw (ex, ey, ez)

pub injected-are : (s : State) (g : ℕ) (c : Comparison) (X : List Item) (types proofs terms : List Term) → X ≡ arguments_of c
    → ◌≡◌ {A = Result (List Term) Stop} (Ok types) (equations_made X c.left.arguments c.right.arguments)
    → ◌≡◌ {A = Result (List Term) Stop} (Ok proofs) (group_made c) → terms ≡ terms_at c c.parameters
    → ◌≡◌ {A = Result (List Equation) Stop} (Ok (equations_joined s g X types c.left.arguments c.right.arguments terms proofs)) (injected_made s g c)
injected-are s g c X types proofs terms ex et ep em =
    let us = c.left.arguments in
    let vs = c.right.arguments in
    let made : ◌≡◌ {A = Result (List Term) Stop} (Ok types) (equations_made (arguments_of c) us vs) = et ∙ ap (λ Y. equations_made Y us vs) ex in
    let joined : List Term → List Term → Result (List Equation) Stop = λ types proofs.
    Ok (equations_joined s g (arguments_of c) types us vs (terms_at c c.parameters) proofs) in
    ap₂ (λ Y ts. Ok (equations_joined s g Y types us vs ts proofs)) ex em
    ∙ (ap (λ (r : Result (List Term) Stop). and_then r (joined types)) ep
    ∙ ap (λ (r : Result (List Term) Stop). and_then r (λ types. and_then (group_made c) (joined types))) made)
