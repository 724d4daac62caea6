use Rattle.std.proofs.Common.{length, sym, ap, ◌∙◌, subst, arith}
use Rattle.std.proofs.lemmas.List.{length-map}
use Rattle.std.proofs.lemmas.Option.{slice_get_within}
use Rattle.std.proofs.lemmas.Result.{err_from_is_err_and}
use Rattle.core_terms.specs.Meanings.{tree_of, tele_of}
use Rattle.problems.specs.Conditions.{AreGiven}
use Rattle.problems.specs.Meanings.{equation_of, state_of}
use Rattle.problems.proofs.GivenTerms.{given-more, code-equation}
use Rattle.unifier.proofs.InjectedTerms.{sides-known}
use Rattle.problems.proofs.Rooms.{room-kept}
use Rattle.problems.proofs.BuiltCodes.{code-of, other-of}
use Rattle.unifier.proofs.ConstructorTurns.{group-goes, group-refused, group-indices, group-parameters, turn-is}
use Rattle.unifier.proofs.groups.group_turn.Goals as goal

pub fails-requires-clause-left : goal.fails-requires-clause-left
fails-requires-clause-left c =
    rw c.requires.kernel
    (given-more c.args.sig.now (length c.args.s.now.ctx) (tree_of c.args.e.now.left) (code-equation c.args.sig.now c.args.s.now c.args.k c.args.e.now c.requires.state c.requires.last).left)

pub fails-requires-clause-right : goal.fails-requires-clause-right
fails-requires-clause-right c =
    rw c.requires.kernel
    (given-more c.args.sig.now (length c.args.s.now.ctx) (tree_of c.args.e.now.right) (code-equation c.args.sig.now c.args.s.now c.args.k c.args.e.now c.requires.state c.requires.last).right)

pub inject_sides-requires-clause-state : goal.inject_sides-requires-clause-state
inject_sides-requires-clause-state c = room-kept c.args.sig.now (state_of c.args.s.now) c.requires.state

pub inject_sides-requires-clause-group : goal.inject_sides-requires-clause-group
inject_sides-requires-clause-group c =
    let within = slice_get_within (state_of c.args.s.now).equations c.args.k (equation_of c.args.e.now) c.requires.last in
    omega (arith, within, length-map c.args.s.now.equations equation_of)

pub inject_sides-requires-clause-indices : goal.inject_sides-requires-clause-indices
inject_sides-requires-clause-indices c =
    let l = tree_of c.args.members.left in
    let b = c.in-Some-Some.b in
    omega (arith, c.requires.few, group-indices c.args.sig.now l b c.args.k (code-of c.args.sig.now l b c.in-Some-Some.ensures) c.requires.indices)

pub inject_sides-requires-clause-parameters : goal.inject_sides-requires-clause-parameters
inject_sides-requires-clause-parameters c =
    let l = tree_of c.args.members.left in
    let b = c.in-Some-Some.b in
    ap length c.as_slice.ensures ∙ group-parameters c.args.sig.now l b (length c.args.members.ps) (code-of c.args.sig.now l b c.in-Some-Some.ensures) c.requires.parameters

pub inject_sides-requires-clause-left_all : goal.inject_sides-requires-clause-left_all
inject_sides-requires-clause-left_all c = (code-of c.args.sig.now (tree_of c.args.members.left) c.in-Some-Some.b c.in-Some-Some.ensures).all

pub inject_sides-requires-clause-right_all : goal.inject_sides-requires-clause-right_all
inject_sides-requires-clause-right_all c =
    (other-of c.args.sig.now (tree_of c.args.members.left) (tree_of c.args.members.right) c.in-Some-Some.b c.in-Some-Some.d c.in-Some-Some.ensures c.in-Some-Some.ensures' c.requires.family c.if-b-d.false).all

pub inject_sides-requires-clause-known : goal.inject_sides-requires-clause-known
inject_sides-requires-clause-known c =
    let n = length c.args.s.now.ctx in
    let S = c.args.sig.now in
    sides-known S n (tree_of c.args.members.left) (tree_of c.args.members.right) c.in-Some-Some.b (tele_of c.as_slice.result.now) c.requires.ready
    c.in-Some-Some.ensures (subst (AreGiven S n) (sym (ap tele_of c.as_slice.ensures)) c.requires.ps) c.requires.left c.requires.right

pub returns-in_err-next-clause-answer : goal.returns-in_err-next-clause-answer
returns-in_err-next-clause-answer c =
    let S = c.args.sig.now in
    let l = tree_of c.args.members.left in
    let r = tree_of c.args.members.right in
    let b = c.in-Some-Some.b in
    let hl = code-of S l b c.in-Some-Some.ensures in
    let hr = other-of S l r b c.in-Some-Some.d c.in-Some-Some.ensures c.in-Some-Some.ensures' c.requires.family c.if-b-d.false in
    let count = ap length c.as_slice.ensures ∙ group-parameters S l b (length c.args.members.ps) hl c.requires.parameters in
    let q = err_from_is_err_and c.from_residual.result c.from_residual.ensures.1 in
    rw (q.1, q.2)
    (λ m parameters family other.
    group-refused S (state_of c.args.s.now) c.args.k (equation_of c.args.e.now) m (tree_of c.args.members.ty) l r b (tele_of c.as_slice.result.now) (length c.as_slice.result.now) c.args.kernel.now.left _
    (turn-is S l r b m (length c.as_slice.result.now) (tele_of c.as_slice.result.now) hl hr family (parameters ∙ sym (ap tele_of c.as_slice.ensures)) count) (c.in_err-next.ensures.answer other))

pub returns-clause-answer : goal.returns-clause-answer
returns-clause-answer c =
    let S = c.args.sig.now in
    let l = tree_of c.args.members.left in
    let r = tree_of c.args.members.right in
    let b = c.in-Some-Some.b in
    let hl = code-of S l b c.in-Some-Some.ensures in
    let hr = other-of S l r b c.in-Some-Some.d c.in-Some-Some.ensures c.in-Some-Some.ensures' c.requires.family c.if-b-d.false in
    let count = ap length c.as_slice.ensures ∙ group-parameters S l b (length c.args.members.ps) hl c.requires.parameters in
    λ m parameters family.
    group-goes S (state_of c.args.s.now) c.args.k (equation_of c.args.e.now) m (tree_of c.args.members.ty) l r b (tele_of c.as_slice.result.now) (length c.as_slice.result.now) c.args.kernel.now.left (state_of c.in_ok-next.next.value)
    (turn-is S l r b m (length c.as_slice.result.now) (tele_of c.as_slice.result.now) hl hr family (parameters ∙ sym (ap tele_of c.as_slice.ensures)) count) c.in_ok-next.ensures.answer
