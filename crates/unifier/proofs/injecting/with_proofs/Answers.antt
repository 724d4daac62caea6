use Rattle.std.proofs.Common.{◌+◌, List, Result, Ok, length, ap, ap₂, sym, ◌∙◌, subst as transport, arith}
use Rattle.core_terms.specs.Answers.{Gives}
use Rattle.core_terms.specs.Meanings.{tree_of, tele_of}
use Rattle.core_terms.specs.declared.stop.Stop.{Stop}
use Rattle.core_sig.specs.Meanings.{argument_of, constructor_of, family_of}
use Rattle.std.proofs.lemmas.List.{length-map}
use Rattle.tele_eq.specs.Items.{items_of}
use Rattle.unification.specs.Heights.{group_made}
use Rattle.unification.specs.States.{Equation}
use Rattle.problems.specs.Conditions.{AreOver, ArePut, most_depth, most_levels}
use Rattle.problems.specs.Meanings.{equations_of, state_of}
use Rattle.problems.proofs.InjectionRooms.{code-types, joined-is, left-over, parameters-over, proofs-put, right-over, state-few, terms-put}
use Rattle.unifier.proofs.injecting.with_proofs.Goals as goal

pub group_proofs-requires-clause-ps : goal.group_proofs-requires-clause-ps
group_proofs-requires-clause-ps c =
    let few = state-few c.args.s.now c.requires.state in
    parameters-over c.args.built (length c.args.s.now.ctx) most_levels (tele_of c.args.ps.now) (tele_of c.args.left.now) (tele_of c.args.right.now) c.requires.known (omega arith) (omega arith)

pub group_proofs-requires-clause-left : goal.group_proofs-requires-clause-left
group_proofs-requires-clause-left c =
    let few = state-few c.args.s.now c.requires.state in
    transport (λ us. AreOver most_levels (tele_of us)) (sym c.as_slice.ensures)
    (left-over c.args.built (length c.args.s.now.ctx) most_levels (tele_of c.args.ps.now) (tele_of c.args.left.now) (tele_of c.args.right.now) c.requires.known (omega arith) (omega arith))

pub group_proofs-requires-clause-right : goal.group_proofs-requires-clause-right
group_proofs-requires-clause-right c =
    let few = state-few c.args.s.now c.requires.state in
    transport (λ us. AreOver most_levels (tele_of us)) (sym c.as_slice-2.ensures)
    (right-over c.args.built (length c.args.s.now.ctx) most_levels (tele_of c.args.ps.now) (tele_of c.args.left.now) (tele_of c.args.right.now) c.requires.known (omega arith) (omega arith))

pub constructor_terms-requires-clause-ps : goal.constructor_terms-requires-clause-ps
constructor_terms-requires-clause-ps c =
    let few = state-few c.args.s.now c.requires.state in
    parameters-over c.args.built (length c.args.s.now.ctx) most_depth (tele_of c.args.ps.now) (tele_of c.args.left.now) (tele_of c.args.right.now) c.requires.known (omega arith) (omega arith)

pub joined-requires-clause-count : goal.joined-requires-clause-count
joined-requires-clause-count c =
    let count = code-types c.args.built (length c.args.ps.now) (tele_of c.args.ps.now) (tele_of c.args.left.now) (tele_of c.args.right.now) c.args.types.now (items_of c.args.tele.now) c.requires.tele c.requires.types in
    let few = c.requires.few_args in
    omega arith

pub joined-requires-clause-terms : goal.joined-requires-clause-terms
joined-requires-clause-terms c =
    let few = state-few c.args.s.now c.requires.state in
    let n = length c.args.s.now.ctx in
    let count = code-types c.args.built (length c.args.ps.now) (tele_of c.args.ps.now) (tele_of c.args.left.now) (tele_of c.args.right.now) c.args.types.now (items_of c.args.tele.now) c.requires.tele c.requires.types in
    let most = c.requires.few_args in
    transport (λ k. ArePut (n + k) (tele_of c.as_slice-terms.result.now)) (sym count)
    (transport (λ ts. ArePut (n + length c.args.built.con.now.args) (tele_of ts)) (sym c.as_slice-terms.ensures)
    (terms-put c.args.built n (length c.args.ps.now) (tele_of c.args.ps.now) (tele_of c.args.left.now) (tele_of c.args.right.now) (tele_of c.in_ok-terms.terms) c.requires.known c.requires.parameters
    c.in_ok-terms.ensures (omega arith)))

pub joined-requires-clause-proofs : goal.joined-requires-clause-proofs
joined-requires-clause-proofs c =
    let few = state-few c.args.s.now c.requires.state in
    let n = length c.args.s.now.ctx in
    let b = c.args.built in
    let ps = tele_of c.args.ps.now in
    let count = code-types b (length c.args.ps.now) (tele_of c.args.ps.now) (tele_of c.args.left.now) (tele_of c.args.right.now) c.args.types.now (items_of c.args.tele.now) c.requires.tele c.requires.types in
    let most = c.requires.few_args in
    transport (λ k. ArePut (n + k) (tele_of c.as_slice-proofs.result.now)) (sym count)
    (transport (λ ts. ArePut (n + length b.con.now.args) (tele_of ts)) (sym c.as_slice-proofs.ensures)
    (proofs-put b n (length c.args.ps.now) (tele_of c.args.ps.now) (tele_of c.args.left.now) (tele_of c.args.right.now) (tele_of c.in_ok-proofs.proofs) c.requires.known c.requires.parameters
    (c.in_ok-proofs.ensures ∙ ap₂ (λ us vs. group_made b.family b.number (family_of b.record.now) (constructor_of (length c.args.ps.now) b.con.now) ps (tele_of us) (tele_of vs)) c.as_slice.ensures c.as_slice-2.ensures)
    (omega arith)))

pub returns : goal.returns
returns c =
    let b = c.args.built in
    let ps = tele_of c.args.ps.now in
    let P : Result (List Equation) Stop → Type 0 = λ r. Gives equations_of c.joined.result r in
    let types = code-types b (length c.args.ps.now) (tele_of c.args.ps.now) (tele_of c.args.left.now) (tele_of c.args.right.now) c.args.types.now (items_of c.args.tele.now) c.requires.tele c.requires.types in
    transport P
    (joined-is (state_of c.args.s.now) c.args.group b.family b.number (family_of b.record.now) (constructor_of (length c.args.ps.now) b.con.now)
    (tele_of c.args.ps.now) (tele_of c.args.left.now) (tele_of c.args.right.now) (items_of c.args.tele.now) (tele_of c.args.types.now) (tele_of c.as_slice-terms.result.now) (tele_of c.as_slice-proofs.result.now)
    c.requires.tele c.requires.types
    (length-map c.args.types.now tree_of ∙ (types ∙ sym (length-map b.con.now.args (argument_of (length c.args.ps.now)))))
    (ap (λ ts. Ok (tele_of ts)) c.as_slice-terms.ensures ∙ c.in_ok-terms.ensures)
    (ap (λ ts. Ok (tele_of ts)) c.as_slice-proofs.ensures
    ∙ (c.in_ok-proofs.ensures ∙ ap₂ (λ us vs. group_made b.family b.number (family_of b.record.now) (constructor_of (length c.args.ps.now) b.con.now) ps (tele_of us) (tele_of vs)) c.as_slice.ensures c.as_slice-2.ensures)))
    c.joined.ensures
