use Rattle.std.proofs.Common.{List, Result, length, ap, sym, ◌∙◌, subst as transport, arith}
use Rattle.std.proofs.lemmas.List.{length-map}
use Rattle.std.proofs.lemmas.Result.{err_from_is_err_and}
use Rattle.core_terms.specs.Answers.{Gives, and_then}
use Rattle.core_terms.specs.Meanings.{tree_of, tele_of}
use Rattle.core_terms.specs.declared.stop.Stop.{Stop}
use Rattle.core_sig.specs.Meanings.{constructor_of, family_of}
use Rattle.tele_eq.specs.Items.{item_of, items_of}
use Rattle.unification.specs.Heights.{equations_made}
use Rattle.unification.specs.Records.{argument_items}
use Rattle.unification.specs.States.{Equation}
use Rattle.problems.specs.CodeInjections.{injected_rest}
use Rattle.problems.specs.Conditions.{HasFewVariables, most_depth}
use Rattle.problems.specs.Meanings.{equations_of, state_of}
use Rattle.problems.proofs.InjectionRooms.{code-items, equations-are, equations-refused, left-over, over-few-variables, parameters-over, right-over, state-few}
use Rattle.problems.proofs.KnownRecords.{arguments-few-known, items-made, kinds-known}
use Rattle.unifier.proofs.injecting.injected.Goals as goal

pub argument_items-requires-clause-ps : goal.argument_items-requires-clause-ps
argument_items-requires-clause-ps c =
    let few = state-few c.args.s.now c.requires.state in
    parameters-over c.args.built (length c.args.s.now.ctx) most_depth (tele_of c.args.ps.now) (tele_of c.args.left.now) (tele_of c.args.right.now) c.requires.known (omega arith) (omega arith)

pub returns-in_err-tele : goal.returns-in_err-tele
returns-in_err-tele c =
    let b = c.args.built in
    let p = length c.args.ps.now in
    let ps = tele_of c.args.ps.now in
    let f = family_of b.record.now in
    let k = kinds-known b c.requires.known.known in
    let e = length-map b.record.now.params tree_of ∙ sym c.requires.parameters in
    let q = err_from_is_err_and c.from_residual.result c.from_residual.ensures.1 in
    let rest = injected_rest (state_of c.args.s.now) c.args.group b.family b.number f (constructor_of p b.con.now) (tele_of c.args.ps.now) (tele_of c.args.left.now) (tele_of c.args.right.now) in
    rw (q.1, q.2)
    (λ other. ap (λ r. and_then r (λ types. rest))
    (equations-refused (argument_items b.family ps (constructor_of p b.con.now)) (tele_of c.args.left.now) (tele_of c.args.right.now) _
    (c.in_err-tele.ensures b.family f k e other)))

pub equations_made-requires-clause-left : goal.equations_made-requires-clause-left
equations_made-requires-clause-left c =
    let b = c.args.built in
    let p = length c.args.ps.now in
    let ps = tele_of c.args.ps.now in
    let f = family_of b.record.now in
    let k = kinds-known b c.requires.known.known in
    let e = length-map b.record.now.params tree_of ∙ sym c.requires.parameters in
    let X = argument_items b.family ps (constructor_of p b.con.now) in
    let made = (items-made X (items_of c.in_ok-tele.tele) (c.in_ok-tele.ensures b.family f k e)).0 in
    c.requires.arguments ∙ sym (code-items b p ps c.in_ok-tele.tele made)

pub equations_made-requires-clause-right : goal.equations_made-requires-clause-right
equations_made-requires-clause-right c =
    let b = c.args.built in
    let p = length c.args.ps.now in
    let ps = tele_of c.args.ps.now in
    let f = family_of b.record.now in
    let k = kinds-known b c.requires.known.known in
    let e = length-map b.record.now.params tree_of ∙ sym c.requires.parameters in
    let X = argument_items b.family ps (constructor_of p b.con.now) in
    let made = (items-made X (items_of c.in_ok-tele.tele) (c.in_ok-tele.ensures b.family f k e)).0 in
    c.requires.all ∙ (c.requires.arguments ∙ sym (code-items b p ps c.in_ok-tele.tele made))

pub equations_made-requires-clause-few_items : goal.equations_made-requires-clause-few_items
equations_made-requires-clause-few_items c =
    let few = state-few c.args.s.now c.requires.state in
    let b = c.args.built in
    let p = length c.args.ps.now in
    let ps = tele_of c.args.ps.now in
    let f = family_of b.record.now in
    let k = kinds-known b c.requires.known.known in
    let e = length-map b.record.now.params tree_of ∙ sym c.requires.parameters in
    let X = argument_items b.family ps (constructor_of p b.con.now) in
    let made = (items-made X (items_of c.in_ok-tele.tele) (c.in_ok-tele.ensures b.family f k e)).0 in
    transport HasFewVariables (sym made)
    (arguments-few-known b ps p c.requires.known.known (length-map c.args.ps.now tree_of) c.requires.parameters
    (parameters-over c.args.built (length c.args.s.now.ctx) most_depth (tele_of c.args.ps.now) (tele_of c.args.left.now) (tele_of c.args.right.now) c.requires.known (omega arith) (omega arith)) c.requires.few_args)

pub equations_made-requires-clause-few_left : goal.equations_made-requires-clause-few_left
equations_made-requires-clause-few_left c =
    let few = state-few c.args.s.now c.requires.state in
    over-few-variables most_depth (tele_of c.args.left.now) (left-over c.args.built (length c.args.s.now.ctx) most_depth (tele_of c.args.ps.now) (tele_of c.args.left.now) (tele_of c.args.right.now) c.requires.known (omega arith) (omega arith))

pub equations_made-requires-clause-few_right : goal.equations_made-requires-clause-few_right
equations_made-requires-clause-few_right c =
    let few = state-few c.args.s.now c.requires.state in
    over-few-variables most_depth (tele_of c.args.right.now) (right-over c.args.built (length c.args.s.now.ctx) most_depth (tele_of c.args.ps.now) (tele_of c.args.left.now) (tele_of c.args.right.now) c.requires.known (omega arith) (omega arith))

pub returns-in_err-types : goal.returns-in_err-types
returns-in_err-types c =
    let b = c.args.built in
    let p = length c.args.ps.now in
    let ps = tele_of c.args.ps.now in
    let f = family_of b.record.now in
    let k = kinds-known b c.requires.known.known in
    let e = length-map b.record.now.params tree_of ∙ sym c.requires.parameters in
    let X = argument_items b.family ps (constructor_of p b.con.now) in
    let made = (items-made X (items_of c.in_ok-tele.tele) (c.in_ok-tele.ensures b.family f k e)).0 in
    let q = err_from_is_err_and c.from_residual-in_err-types.result c.from_residual-in_err-types.ensures.1 in
    let rest = injected_rest (state_of c.args.s.now) c.args.group b.family b.number f (constructor_of p b.con.now) (tele_of c.args.ps.now) (tele_of c.args.left.now) (tele_of c.args.right.now) in
    rw (q.1, q.2)
    (λ other. ap (λ r. and_then r (λ types. rest))
    (c.in_err-types.ensures other ∙ ap (λ X. equations_made X (tele_of c.args.left.now) (tele_of c.args.right.now)) made))

pub with_proofs-requires-clause-few_args : goal.with_proofs-requires-clause-few_args
with_proofs-requires-clause-few_args c =
    let b = c.args.built in
    let p = length c.args.ps.now in
    let ps = tele_of c.args.ps.now in
    let f = family_of b.record.now in
    let k = kinds-known b c.requires.known.known in
    let e = length-map b.record.now.params tree_of ∙ sym c.requires.parameters in
    let X = argument_items b.family ps (constructor_of p b.con.now) in
    let made = (items-made X (items_of c.in_ok-tele.tele) (c.in_ok-tele.ensures b.family f k e)).0 in
    let few = (equations-are (items_of c.in_ok-tele.tele) (tele_of c.args.left.now) (tele_of c.args.right.now) (tele_of c.in_ok-types.types) c.in_ok-types.ensures).1 in
    let many = code-items b p ps c.in_ok-tele.tele made in
    omega (arith, length-map c.in_ok-tele.tele item_of)

pub with_proofs-requires-clause-tele : goal.with_proofs-requires-clause-tele
with_proofs-requires-clause-tele c =
    let b = c.args.built in
    let p = length c.args.ps.now in
    let ps = tele_of c.args.ps.now in
    let f = family_of b.record.now in
    let k = kinds-known b c.requires.known.known in
    let e = length-map b.record.now.params tree_of ∙ sym c.requires.parameters in
    let X = argument_items b.family ps (constructor_of p b.con.now) in
    let made = (items-made X (items_of c.in_ok-tele.tele) (c.in_ok-tele.ensures b.family f k e)).0 in
    made

pub with_proofs-requires-clause-types : goal.with_proofs-requires-clause-types
with_proofs-requires-clause-types c =
    (equations-are (items_of c.in_ok-tele.tele) (tele_of c.args.left.now) (tele_of c.args.right.now) (tele_of c.in_ok-types.types) c.in_ok-types.ensures).0

pub returns : goal.returns
returns c =
    let b = c.args.built in
    let p = length c.args.ps.now in
    let ps = tele_of c.args.ps.now in
    let f = family_of b.record.now in
    let k = kinds-known b c.requires.known.known in
    let e = length-map b.record.now.params tree_of ∙ sym c.requires.parameters in
    let X = argument_items b.family ps (constructor_of p b.con.now) in
    let made = (items-made X (items_of c.in_ok-tele.tele) (c.in_ok-tele.ensures b.family f k e)).0 in
    let P : Result (List Equation) Stop → Type 0 = λ r. Gives equations_of c.with_proofs.result r in
    let rest = injected_rest (state_of c.args.s.now) c.args.group b.family b.number f (constructor_of p b.con.now) (tele_of c.args.ps.now) (tele_of c.args.left.now) (tele_of c.args.right.now) in
    transport P
    (ap (λ r. and_then r (λ types. rest))
    (c.in_ok-types.ensures ∙ ap (λ X. equations_made X (tele_of c.args.left.now) (tele_of c.args.right.now)) made))
    c.with_proofs.ensures
