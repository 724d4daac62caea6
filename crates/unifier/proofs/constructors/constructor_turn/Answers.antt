use Rattle.std.proofs.Common.{length, sym, ap, ◌∙◌, subst}
use Rattle.std.proofs.lemmas.Result.{err_from_is_err_and}
use Rattle.core_terms.specs.Meanings.{tree_of, tele_of}
use Rattle.core_terms.proofs.Builders.{ok_is}
use Rattle.core_terms.specs.declared.case_tree.Rule.TheVariants.{Inject}
use Rattle.theory.specs.Spines.{spine_of}
use Rattle.theory.specs.Terms.{Term}
use Rattle.unification.specs.Turns.{single}
use Rattle.problems.specs.Conditions.{AreGiven}
use Rattle.problems.specs.Meanings.{equation_of, state_of}
use Rattle.problems.proofs.GivenTerms.{given-more, code-equation, take-given, spine-given}
use Rattle.unifier.proofs.InjectedTerms.{sides-known}
use Rattle.problems.proofs.Rooms.{room-kept}
use Rattle.problems.proofs.BuiltCodes.{code-of, other-of}
use Rattle.unifier.proofs.ConstructorTurns.{count-parameters, code-goes, code-refused}
use Rattle.unifier.proofs.constructors.constructor_turn.Goals as goal

pub fails-requires-clause-left : goal.fails-requires-clause-left
fails-requires-clause-left c =
    rw c.requires.kernel
    (given-more c.args.sig.now (length c.args.s.now.ctx) (tree_of c.args.e.now.left) (code-equation c.args.sig.now c.args.s.now 0 c.args.e.now c.requires.state c.requires.first).left)

pub fails-requires-clause-right : goal.fails-requires-clause-right
fails-requires-clause-right c =
    rw c.requires.kernel
    (given-more c.args.sig.now (length c.args.s.now.ctx) (tree_of c.args.e.now.right) (code-equation c.args.sig.now c.args.s.now 0 c.args.e.now c.requires.state c.requires.first).right)

pub inject_sides-requires-clause-state : goal.inject_sides-requires-clause-state
inject_sides-requires-clause-state c = room-kept c.args.sig.now (state_of c.args.s.now) c.requires.state

pub inject_sides-requires-clause-parameters : goal.inject_sides-requires-clause-parameters
inject_sides-requires-clause-parameters c =
    ap length c.as_slice.ensures
    ∙ count-parameters c.args.sig.now (tree_of c.args.left) c.in-Some-Some.b c.in_ok-ps.ps (code-of c.args.sig.now (tree_of c.args.left) c.in-Some-Some.b c.in-Some-Some.ensures) (ok_is c.in_ok-ps.ensures)

pub inject_sides-requires-clause-left_all : goal.inject_sides-requires-clause-left_all
inject_sides-requires-clause-left_all c = (code-of c.args.sig.now (tree_of c.args.left) c.in-Some-Some.b c.in-Some-Some.ensures).all

pub inject_sides-requires-clause-right_all : goal.inject_sides-requires-clause-right_all
inject_sides-requires-clause-right_all c =
    (other-of c.args.sig.now (tree_of c.args.left) (tree_of c.args.right) c.in-Some-Some.b c.in-Some-Some.d c.in-Some-Some.ensures c.in-Some-Some.ensures' c.requires.family c.if-b-d.false).all

pub inject_sides-requires-clause-known : goal.inject_sides-requires-clause-known
inject_sides-requires-clause-known c =
    let n = length c.args.s.now.ctx in
    let S = c.args.sig.now in
    let l = tree_of c.args.left in
    sides-known S n l (tree_of c.args.right) c.in-Some-Some.b (tele_of c.as_slice.result.now) c.requires.ready c.in-Some-Some.ensures
    (subst (AreGiven S n) (sym (ap tele_of c.as_slice.ensures ∙ ok_is c.in_ok-ps.ensures))
    (take-given S n (length c.in-Some-Some.b.record.now.params) (spine_of l) (spine-given S n l c.requires.left)))
    c.requires.left c.requires.right

pub returns-in_err-next-clause-answer : goal.returns-in_err-next-clause-answer
returns-in_err-next-clause-answer c =
    let S = c.args.sig.now in
    let l = tree_of c.args.left in
    let r = tree_of c.args.right in
    let b = c.in-Some-Some.b in
    let hl = code-of S l b c.in-Some-Some.ensures in
    let hr = other-of S l r b c.in-Some-Some.d c.in-Some-Some.ensures c.in-Some-Some.ensures' c.requires.family c.if-b-d.false in
    let count = ap length c.as_slice.ensures ∙ count-parameters S l b c.in_ok-ps.ps hl (ok_is c.in_ok-ps.ensures) in
    let q = err_from_is_err_and c.from_residual-in_err-next.result c.from_residual-in_err-next.ensures.1 in
    rw (q.1, q.2)
    (λ other.
    code-refused S (state_of c.args.s.now) (equation_of c.args.e.now) l r b (tele_of c.as_slice.result.now) (length c.as_slice.result.now) c.args.kernel.now.left _ hl hr (sym c.if-not-has_no_indices.false ∙ c.has_no_indices.ensures) count
    (ap tele_of c.as_slice.ensures ∙ ok_is c.in_ok-ps.ensures) (c.in_err-next.ensures.answer other))

pub returns-clause-answer : goal.returns-clause-answer
returns-clause-answer c =
    let S = c.args.sig.now in
    let l = tree_of c.args.left in
    let r = tree_of c.args.right in
    let b = c.in-Some-Some.b in
    let hl = code-of S l b c.in-Some-Some.ensures in
    let hr = other-of S l r b c.in-Some-Some.d c.in-Some-Some.ensures c.in-Some-Some.ensures' c.requires.family c.if-b-d.false in
    let count = ap length c.as_slice.ensures ∙ count-parameters S l b c.in_ok-ps.ps hl (ok_is c.in_ok-ps.ensures) in
    code-goes S (state_of c.args.s.now) (equation_of c.args.e.now) l r b (tele_of c.as_slice.result.now) (length c.as_slice.result.now) c.args.kernel.now.left _ _ hl hr (sym c.if-not-has_no_indices.false ∙ c.has_no_indices.ensures) count
    (ap tele_of c.as_slice.ensures ∙ ok_is c.in_ok-ps.ensures)
    (c.single-step-2.ensures ∙ ap (λ (ty : Term). single (Inject b.family b.number) ty l r) (ok_is c.in_ok-ty.ensures)) c.in_ok-next.ensures.answer
