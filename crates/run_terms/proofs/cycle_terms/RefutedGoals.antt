-- The component for the variable at its reflexivity, and the search that it is for, from their parts.
use Rattle.std.proofs.Common.{◌≡◌, ℕ, Bool, List, Result, Ok, ap, ap₂, ◌∙◌, subst as transport}
use Rattle.theory.specs.Terms.{Term}
use Rattle.theory.specs.Terms.Term.{Var, App}
use Rattle.theory.specs.Families.{Family}
use Rattle.theory.specs.Signatures.{reflexivity}
use Rattle.core_terms.specs.Answers.{Gives}
use Rattle.core_terms.specs.Meanings.{tree_of}
use Rattle.core_terms.specs.declared.stop.Stop.{Stop}
use Rattle.core_terms.specs.declared.term.Term as code
use Rattle.core_sig.specs.Shapes.{Shape}
use Rattle.generators.specs.acyclic_gen.DirectEntries.{carrier_of, direct_name}
use Rattle.generators.specs.declared.acyclic_gen.carrier.Carrier.{Carrier}
use Rattle.tree_translation.specs.CycleTerms.{Search, component_for, carrier_type, number_here}
use Rattle.tree_translation.specs.Naming.{Naming}
use Rattle.tree_translation.specs.Standings.{Standing}
use Rattle.run_terms.specs.cycle_terms.CodeCycles.{by_refutation, cycle_in, first_equation, refuted, transported}

pub refuted-is : (r : Result code.Term Stop) (number : Naming) (s : Standing) (from_left : Bool) (f : Family) (side : Term) (c : Search) (e tuple component proof : Term)
    → Gives tree_of r (Ok (App component proof)) → e ≡ first_equation s → tuple ≡ transported number from_left f c side e → component ≡ component_for c side tuple
    → proof ≡ reflexivity f.level (carrier_type c) (Var c.x) → Gives tree_of r (Ok (refuted number s from_left f side c))
refuted-is r number s from_left f side c e tuple component proof given first made found proved =
    let P : Term → Type 0 = λ u. Gives tree_of r (Ok u) in
    transport P
    (ap₂ App (found ∙ ap (component_for c side) (made ∙ ap (transported number from_left f c side) first)) proved)
    given

pub searched-is : (r : Result code.Term Stop) (number : Naming) (L : ℕ) (s : Standing) (x : ℕ) (from_left : Bool) (n : ℕ) (f : Family) (shape : Shape) (ps : List Term) (side : Term) (q : Carrier) (y : ℕ)
    → Gives tree_of r (Ok (by_refutation number L s from_left f side (record { family = n; shape = shape; carrier = q; parameters = ps; x = y })))
    → q ≡ carrier_of n shape (number (direct_name f.name)) → y ≡ number_here s x → Gives tree_of r (Ok (cycle_in number L s x from_left n f shape ps side))
searched-is r number L s x from_left n f shape ps side q y given carrier place =
    let P : Term → Type 0 = λ u. Gives tree_of r (Ok u) in
    let at : Carrier → ℕ → Search = λ q y. record { family = n; shape = shape; carrier = q; parameters = ps; x = y } in
    transport P (ap₂ (λ q y. by_refutation number L s from_left f side (at q y)) carrier place) given
