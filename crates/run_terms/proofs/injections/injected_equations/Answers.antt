use Rattle.std.proofs.Common.{Ok, List, Result, ap, ◌∙◌, subst as transport}
use Rattle.core_terms.specs.Answers.{Gives}
use Rattle.core_terms.specs.Meanings.{tele_of}
use Rattle.core_terms.specs.declared.stop.Stop.{Stop}
use Rattle.core_terms.specs.declared.term.Term as code
use Rattle.core_terms.proofs.Builders.{ok_is}
use Rattle.tele_eq.specs.Items.{items_of}
use Rattle.tele_eq.specs.declared.item.Item as item
use Rattle.unification.specs.States.{Equation}
use Rattle.problems.specs.CodeInjections.{equations_joined}
use Rattle.run_terms.specs.CodeInjections.{terms_at}
use Rattle.run_terms.specs.ComparisonMeanings.{comparison_of}
use Rattle.run_terms.specs.StandingMeanings.{equations_of, state_of}
use Rattle.run_terms.proofs.InjectedProofs.{injected-are}
use Rattle.run_terms.proofs.injections.injected_equations.Goals as goal

pub returns : goal.returns
returns c =
    let m = c.args.c.now in
    let s = state_of c.args.s.now in
    let us = tele_of m.left.arguments in
    let vs = tele_of m.right.arguments in
    let P : Result (List Equation) Stop → Type 0 = λ r. Gives equations_of c.joined_equations.result r in
    let Q : List item.Item → List code.Term → List code.Term → List code.Term → List code.Term → List code.Term → Type 0 =
    λ X types left right terms proofs.
    P (Ok (equations_joined s c.args.group (items_of X) (tele_of types) (tele_of left) (tele_of right) (tele_of terms) (tele_of proofs))) in
    let tele = c.as_slice-tele.result.now in
    let types = c.as_slice-types.result.now in
    let left = c.as_slice-left.result.now in
    let right = c.as_slice-right.result.now in
    let terms = c.as_slice-terms.result.now in
    let proofs = c.as_slice-proofs.result.now in
    let first = transport (λ X. Q X types left right terms proofs) c.as_slice-tele.ensures c.joined_equations.ensures in
    let second = transport (λ ts. Q c.in_ok-tele.tele ts left right terms proofs) c.as_slice-types.ensures first in
    let third = transport (λ ts. Q c.in_ok-tele.tele c.in_ok-types.types ts right terms proofs) c.as_slice-left.ensures second in
    let fourth = transport (λ ts. Q c.in_ok-tele.tele c.in_ok-types.types m.left.arguments ts terms proofs) c.as_slice-right.ensures third in
    let fifth = transport (λ ts. Q c.in_ok-tele.tele c.in_ok-types.types m.left.arguments m.right.arguments ts proofs) c.as_slice-terms.ensures fourth in
    let sixth = transport (λ ts. Q c.in_ok-tele.tele c.in_ok-types.types m.left.arguments m.right.arguments c.in_ok-terms.terms ts)
    c.as_slice-proofs.ensures fifth in
    transport P
    (injected-are s c.args.group (comparison_of m) (items_of c.in_ok-tele.tele) (tele_of c.in_ok-types.types) (tele_of c.in_ok-proofs.proofs)
    (tele_of c.in_ok-terms.terms) (ok_is c.in_ok-tele.ensures) c.in_ok-types.ensures c.in_ok-proofs.ensures
    (ok_is c.in_ok-terms.ensures ∙ ap (λ ts. terms_at (comparison_of m) (tele_of ts)) c.as_slice.ensures))
    sixth
