use Rattle.std.proofs.Common.{rules, ◌≡◌, ℕ, ◌-◌, List, [], ◌∷◌, ◌++◌, length, sym, ap, subst, ◌∙◌, arith}
use Rattle.std.specs.Prelude.{Ok, Option, Some, None, option_map}
use Rattle.std.proofs.lemmas.List.{length-map, map-append}
use Rattle.theory.specs.Terms.{Term}
use Rattle.core_terms.specs.Meanings.{tree_of, tele_of}
use Rattle.core_text.specs.LineReading.{after_item, collected, next_parameter}
use Rattle.core_text.specs.Reading.{Reading, Reads, and_then}
use Rattle.core_text.proofs.Collecting.{collected_step, collected_more, collected_end}
use Rattle.core_text.proofs.data_reader.read_parameters.Goals as goal

pub returns-in_err-next : goal.returns-in_err-next
returns-in_err-next c =
    let S = c.args.scope.now.sig.now in
    let own = c.args.scope.now.own.now in
    let next = λ (found : List Term) (r : List ℕ). next_parameter S own (length found) r in
    let found = tele_of c.parameters.found in
    let count : length c.as_slice.result.now ≡ length found = ap length c.as_slice.ensures ∙ sym (length-map c.parameters.found tree_of) in
    let step = ap (λ j. and_then (next_parameter S own j c.parameters.rest.now) (after_item (collected next (c.parameters.turns - 1)) found)) count ∙ collected_step next c.parameters.turns found c.parameters.rest.now (omega arith) in
    subst (λ m. Reads tele_of c.from_residual.result m) (step ∙ c.parameters.invariant) (search rules)

pub returns-in_default : goal.returns-in_default
returns-in_default c =
    let S = c.args.scope.now.sig.now in
    let own = c.args.scope.now.own.now in
    let next = λ (found : List Term) (r : List ℕ). next_parameter S own (length found) r in
    let found = tele_of c.parameters.found in
    let count : length c.as_slice.result.now ≡ length found = ap length c.as_slice.ensures ∙ sym (length-map c.parameters.found tree_of) in
    let is : ◌≡◌ {A = Reading (Option Term)} (Ok (None, c.in_ok-next.end.now)) (next found c.parameters.rest.now) =
    ap (λ o. Ok (option_map tree_of o, c.in_ok-next.end.now)) (sym c.in_default.is) ∙ (c.in_ok-next.ensures ∙ ap (λ j. next_parameter S own j c.parameters.rest.now) count) in
    collected_end next c.parameters.turns found c.parameters.rest.now c.in_ok-next.end.now (omega arith) is ∙ c.parameters.invariant

pub parameters-preserved : goal.parameters-preserved
parameters-preserved c =
    let S = c.args.scope.now.sig.now in
    let own = c.args.scope.now.own.now in
    let next = λ (found : List Term) (r : List ℕ). next_parameter S own (length found) r in
    let found = tele_of c.parameters.found in
    let ty = tree_of c.in-Some.ty in
    let count : length c.as_slice.result.now ≡ length found = ap length c.as_slice.ensures ∙ sym (length-map c.parameters.found tree_of) in
    let is : ◌≡◌ {A = Reading (Option Term)} (Ok (Some ty, c.in_ok-next.end.now)) (next found c.parameters.rest.now) =
    ap (λ o. Ok (option_map tree_of o, c.in_ok-next.end.now)) (sym c.in-Some.is) ∙ (c.in_ok-next.ensures ∙ ap (λ j. next_parameter S own j c.parameters.rest.now) count) in
    let longer : tele_of c.push.new.self ≡ found ++ ty ∷ [] = ap tele_of c.in_ok-push.ensures.ok ∙ map-append tree_of c.parameters.found (c.in-Some.ty ∷ []) in
    ap (λ ts. collected next (c.parameters.turns - 1) ts c.in_ok-next.end.now) longer
    ∙ (collected_more next c.parameters.turns found c.parameters.rest.now ty c.in_ok-next.end.now (omega arith) is ∙ c.parameters.invariant)
