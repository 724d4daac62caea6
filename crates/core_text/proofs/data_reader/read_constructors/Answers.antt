use Rattle.std.proofs.Common.{rules, ◌≡◌, ◌-◌, [], ◌∷◌, ◌++◌, map, sym, ap, subst, ◌∙◌, arith}
use Rattle.std.specs.Prelude.{Ok, Option, Some, None, option_map}
use Rattle.std.proofs.lemmas.List.{map-append}
use Rattle.core_sig.specs.Raw.{RawConstructor, raw_constructor_of}
use Rattle.core_text.specs.LineReading.{after_item, collected, next_constructor}
use Rattle.core_text.specs.Reading.{Reading, Reads, and_then}
use Rattle.core_text.proofs.Collecting.{collected_step, collected_more, collected_end}
use Rattle.core_text.proofs.data_reader.read_constructors.Goals as goal

pub returns-in_err-next : goal.returns-in_err-next
returns-in_err-next c =
    let next = next_constructor c.args.scope.now.sig.now c.args.scope.now.own.now c.args.count in
    let found = map raw_constructor_of c.constructors.found in
    let step = ap (λ cs. and_then (next (map raw_constructor_of cs) c.constructors.rest.now) (after_item (collected next (c.constructors.turns - 1)) found)) c.as_slice.ensures ∙ collected_step next c.constructors.turns found c.constructors.rest.now (omega arith) in
    subst (λ m. Reads (map raw_constructor_of) c.from_residual.result m) (step ∙ c.constructors.invariant) (search rules)

pub returns-in_default : goal.returns-in_default
returns-in_default c =
    let next = next_constructor c.args.scope.now.sig.now c.args.scope.now.own.now c.args.count in
    let found = map raw_constructor_of c.constructors.found in
    let is : ◌≡◌ {A = Reading (Option RawConstructor)} (Ok (None, c.in_ok-next.end.now)) (next found c.constructors.rest.now) =
    ap (λ o. Ok (option_map raw_constructor_of o, c.in_ok-next.end.now)) (sym c.in_default.is) ∙ (c.in_ok-next.ensures ∙ ap (λ cs. next (map raw_constructor_of cs) c.constructors.rest.now) c.as_slice.ensures) in
    collected_end next c.constructors.turns found c.constructors.rest.now c.in_ok-next.end.now (omega arith) is ∙ c.constructors.invariant

pub constructors-preserved : goal.constructors-preserved
constructors-preserved c =
    let next = next_constructor c.args.scope.now.sig.now c.args.scope.now.own.now c.args.count in
    let found = map raw_constructor_of c.constructors.found in
    let con = raw_constructor_of c.in-Some.con in
    let is : ◌≡◌ {A = Reading (Option RawConstructor)} (Ok (Some con, c.in_ok-next.end.now)) (next found c.constructors.rest.now) =
    ap (λ o. Ok (option_map raw_constructor_of o, c.in_ok-next.end.now)) (sym c.in-Some.is) ∙ (c.in_ok-next.ensures ∙ ap (λ cs. next (map raw_constructor_of cs) c.constructors.rest.now) c.as_slice.ensures) in
    let longer : map raw_constructor_of c.push.new.self ≡ found ++ con ∷ [] = ap (map raw_constructor_of) c.in_ok-push.ensures.ok ∙ map-append raw_constructor_of c.constructors.found (c.in-Some.con ∷ []) in
    ap (λ cs. collected next (c.constructors.turns - 1) cs c.in_ok-next.end.now) longer
    ∙ (collected_more next c.constructors.turns found c.constructors.rest.now con c.in_ok-next.end.now (omega arith) is ∙ c.constructors.invariant)
