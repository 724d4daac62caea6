use Rattle.std.proofs.Common.{length, option_map, Ok, Some, sym, ap, ◌∙◌, subst, arith}
use Rattle.std.proofs.lemmas.Result.{err_from_is_err_and}
use Rattle.core_terms.specs.Answers.{Runs}
use Rattle.core_terms.specs.Meanings.{tree_of}
use Rattle.core_terms.proofs.Builders.{ok_is}
use Rattle.kernel_reduce.specs.Reduction.{answered}
use Rattle.unification.specs.Solving.{deleted_state}
use Rattle.unification.specs.Turns.{Goes}
use Rattle.problems.specs.Meanings.{equation_of, state_of, turn_of}
use Rattle.unifier.proofs.DeletionTurns.{deletion-refused, deletion-none, deletion-sticks, deletion-deletes, type-refused, sides-refuse, sides-tidied, goes-refused, goes-on}
use Rattle.problems.proofs.GivenTerms.{code-equation, given-more, given-reduces}
use Rattle.problems.proofs.Rooms.{room-kept}
use Rattle.unifier.proofs.SolutionTrials.{bounded-again}
use Rattle.unifier.proofs.TidiedTerms.{both-reduce, code-type, tidied-scoped}
use Rattle.unifier.proofs.deletions.deletion_trial.Goals as goal

pub convertible-requires : goal.convertible-requires
convertible-requires c =
    let equation = code-equation c.args.sig.now c.args.s.now 0 c.args.e.now c.requires.state c.requires.first in
    rw c.requires.kernel
    (both-reduce c.args.sig.now (length c.args.s.now.ctx) (tree_of c.args.e.now.left) (tree_of c.args.e.now.right) c.requires.ready equation.left equation.right)

pub returns-in_err-convertible-clause-answer : goal.returns-in_err-convertible-clause-answer
returns-in_err-convertible-clause-answer c =
    let q = err_from_is_err_and c.from_residual.result c.from_residual.ensures.1 in
    rw (q.1, q.2)
    (deletion-refused c.args.sig.now (state_of c.args.s.now) (equation_of c.args.e.now) c.args.kernel.now.left c.convertible.new.self.left _
    (rw c.requires.kernel at c.in_err-convertible.ensures.answer))

pub returns-then-not-branch-clause-answer : goal.returns-then-not-branch-clause-answer
returns-then-not-branch-clause-answer c =
    deletion-none c.args.sig.now (state_of c.args.s.now) (equation_of c.args.e.now) c.args.kernel.now.left c.convertible.new.self.left
    (rw (c.if-not-branch.true, c.requires.kernel) at c.in_ok-convertible.ensures.answer)

pub sticks-requires-clause-left : goal.sticks-requires-clause-left
sticks-requires-clause-left c =
    rw (c.in_ok-convertible.ensures.same, c.requires.kernel)
    (given-more c.args.sig.now (length c.args.s.now.ctx) (tree_of c.args.e.now.left)
    (code-equation c.args.sig.now c.args.s.now 0 c.args.e.now c.requires.state c.requires.first).left)

pub sticks-requires-clause-right : goal.sticks-requires-clause-right
sticks-requires-clause-right c =
    rw (c.in_ok-convertible.ensures.same, c.requires.kernel)
    (given-more c.args.sig.now (length c.args.s.now.ctx) (tree_of c.args.e.now.right)
    (code-equation c.args.sig.now c.args.s.now 0 c.args.e.now c.requires.state c.requires.first).right)

pub returns-then-not-k-clause-answer : goal.returns-then-not-k-clause-answer
returns-then-not-k-clause-answer c =
    let S = c.args.sig.now in
    let s = state_of c.args.s.now in
    let e = equation_of c.args.e.now in
    let holds = rw (c.if-not-branch.false, c.requires.kernel) at c.in_ok-convertible.ensures.answer in
    subst (Runs (option_map turn_of) c.sticks.result c.sticks.new.kernel.left)
    (deletion-sticks S s e c.args.kernel.now.left c.convertible.new.self.left (sym c.k.ensures ∙ c.if-not-k.true) holds)
    (rw (c.in_ok-convertible.ensures.same, c.requires.kernel) at c.sticks.ensures.answer)

pub tidied-requires-clause-left : goal.tidied-requires-clause-left
tidied-requires-clause-left c =
    rw (c.in_ok-ty-2.ensures.same, c.in_ok-convertible.ensures.same, c.requires.kernel)
    (given-more c.args.sig.now (length c.args.s.now.ctx) (tree_of c.args.e.now.left)
    (code-equation c.args.sig.now c.args.s.now 0 c.args.e.now c.requires.state c.requires.first).left)

pub tidied-requires-clause-right : goal.tidied-requires-clause-right
tidied-requires-clause-right c =
    rw (c.in_ok-ty-2.ensures.same, c.in_ok-convertible.ensures.same, c.requires.kernel)
    (given-more c.args.sig.now (length c.args.s.now.ctx) (tree_of c.args.e.now.right)
    (code-equation c.args.sig.now c.args.s.now 0 c.args.e.now c.requires.state c.requires.first).right)

pub tidy-requires : goal.tidy-requires
tidy-requires c =
    rw (c.in_ok-convertible.ensures.same, c.requires.kernel)
    (given-reduces c.args.sig.now (length c.args.s.now.ctx) (tree_of c.in_ok-ty.ty) c.requires.ready
    (code-type c.args.sig.now c.args.s.now c.args.e.now (tree_of c.in_ok-ty.ty) c.requires.state c.requires.first (ok_is c.in_ok-ty.ensures)))

pub delete-requires-clause-state : goal.delete-requires-clause-state
delete-requires-clause-state c = room-kept c.args.sig.now (state_of c.args.s.now) c.requires.state

pub delete-requires-clause-ty : goal.delete-requires-clause-ty
delete-requires-clause-ty c =
    let given = code-type c.args.sig.now c.args.s.now c.args.e.now (tree_of c.in_ok-ty.ty) c.requires.state c.requires.first (ok_is c.in_ok-ty.ensures) in
    let scoped = rw (c.in_ok-convertible.ensures.same, c.requires.kernel) at c.in_ok-ty-2.ensures.scoped in
    (c.in_ok-ty-2.ensures.form.low, (scoped (length c.args.s.now.ctx) given.scoped).variables, omega (arith, given.few))

pub delete-requires-clause-left : goal.delete-requires-clause-left
delete-requires-clause-left c =
    let equation = code-equation c.args.sig.now c.args.s.now 0 c.args.e.now c.requires.state c.requires.first in
    let answer = rw (c.in_ok-ty-2.ensures.same, c.in_ok-convertible.ensures.same, c.requires.kernel) at c.in_ok-left.ensures.answer in
    let scoped = tidied-scoped c.args.sig.now (length c.args.s.now.ctx) (tree_of c.args.e.now.left) (tree_of c.args.e.now.right)
    (tree_of c.in_ok-left.left) (tree_of c.in_ok-left.right) c.tidy.new.self.left c.tidied.new.kernel.left c.requires.ready.scoped
    equation.left.scoped equation.right.scoped answer in
    (c.in_ok-left.ensures.low.0, scoped.0.variables, omega (arith, equation.left.few))

pub returns-in_err-ty-2-clause-answer : goal.returns-in_err-ty-2-clause-answer
returns-in_err-ty-2-clause-answer c =
    let S = c.args.sig.now in
    let s = state_of c.args.s.now in
    let e = equation_of c.args.e.now in
    let holds = rw (c.if-not-branch.false, c.requires.kernel) at c.in_ok-convertible.ensures.answer in
    let q = err_from_is_err_and c.from_residual-in_err-ty-2.result c.from_residual-in_err-ty-2.ensures.1 in
    rw (q.1, q.2)
    (λ other.
    type-refused S s e c.convertible.new.self.left c.tidy.new.self.left _ (tree_of c.in_ok-ty.ty) (ok_is c.in_ok-ty.ensures)
    (rw (c.in_ok-convertible.ensures.same, c.requires.kernel) at c.in_err-ty-2.ensures.answer) other
    ∙ deletion-deletes S s e c.args.kernel.now.left c.convertible.new.self.left (sym c.k.ensures ∙ c.if-not-k.false) holds)

pub returns-in_err-left-clause-answer : goal.returns-in_err-left-clause-answer
returns-in_err-left-clause-answer c =
    let S = c.args.sig.now in
    let s = state_of c.args.s.now in
    let e = equation_of c.args.e.now in
    let holds = rw (c.if-not-branch.false, c.requires.kernel) at c.in_ok-convertible.ensures.answer in
    let tidy = rw (c.in_ok-convertible.ensures.same, c.requires.kernel) at c.in_ok-ty-2.ensures.answer in
    let q = err_from_is_err_and c.from_residual-in_err-left.result c.from_residual-in_err-left.ensures.1 in
    rw (q.1, q.2)
    (λ other.
    sides-refuse S s e c.convertible.new.self.left c.tidy.new.self.left c.tidied.new.kernel.left _ (tree_of c.in_ok-ty.ty) (tree_of c.in_ok-ty-2.ty)
    (ok_is c.in_ok-ty.ensures) tidy
    (rw (c.in_ok-ty-2.ensures.same, c.in_ok-convertible.ensures.same, c.requires.kernel) at c.in_err-left.ensures.answer) other
    ∙ deletion-deletes S s e c.args.kernel.now.left c.convertible.new.self.left (sym c.k.ensures ∙ c.if-not-k.false) holds)

pub returns-in_err-next-clause-answer : goal.returns-in_err-next-clause-answer
returns-in_err-next-clause-answer c =
    let S = c.args.sig.now in
    let s = state_of c.args.s.now in
    let e = equation_of c.args.e.now in
    let holds = rw (c.if-not-branch.false, c.requires.kernel) at c.in_ok-convertible.ensures.answer in
    let tidy = rw (c.in_ok-convertible.ensures.same, c.requires.kernel) at c.in_ok-ty-2.ensures.answer in
    let sides = rw (c.in_ok-ty-2.ensures.same, c.in_ok-convertible.ensures.same, c.requires.kernel) at c.in_ok-left.ensures.answer in
    let q = err_from_is_err_and c.from_residual-in_err-next.result c.from_residual-in_err-next.ensures.1 in
    rw (q.1, q.2)
    (λ other.
    goes-refused s e c.tidied.new.kernel.left _ (tree_of c.in_ok-ty-2.ty) (tree_of c.in_ok-left.left) (tree_of c.in_ok-left.right) c.in_err-next.ensures.answer other
    ∙ sides-tidied S s e c.convertible.new.self.left c.tidy.new.self.left c.tidied.new.kernel.left (tree_of c.in_ok-ty.ty) (tree_of c.in_ok-ty-2.ty)
    (tree_of c.in_ok-left.left) (tree_of c.in_ok-left.right) (ok_is c.in_ok-ty.ensures) tidy sides
    ∙ deletion-deletes S s e c.args.kernel.now.left c.convertible.new.self.left (sym c.k.ensures ∙ c.if-not-k.false) holds)

pub returns-clause-answer : goal.returns-clause-answer
returns-clause-answer c =
    let S = c.args.sig.now in
    let s = state_of c.args.s.now in
    let e = equation_of c.args.e.now in
    let holds = rw (c.if-not-branch.false, c.requires.kernel) at c.in_ok-convertible.ensures.answer in
    let tidy = rw (c.in_ok-convertible.ensures.same, c.requires.kernel) at c.in_ok-ty-2.ensures.answer in
    let sides = rw (c.in_ok-ty-2.ensures.same, c.in_ok-convertible.ensures.same, c.requires.kernel) at c.in_ok-left.ensures.answer in
    ap (λ step. answered (Ok (Some (Goes step (state_of c.in_ok-next.next.value)))) c.tidied.new.kernel.left) c.single-step.ensures
    ∙ goes-on s (state_of c.in_ok-next.next.value) e c.tidied.new.kernel.left (tree_of c.in_ok-ty-2.ty) (tree_of c.in_ok-left.left) (tree_of c.in_ok-left.right) c.in_ok-next.ensures.answer
    ∙ sides-tidied S s e c.convertible.new.self.left c.tidy.new.self.left c.tidied.new.kernel.left (tree_of c.in_ok-ty.ty) (tree_of c.in_ok-ty-2.ty)
    (tree_of c.in_ok-left.left) (tree_of c.in_ok-left.right) (ok_is c.in_ok-ty.ensures) tidy sides
    ∙ deletion-deletes S s e c.args.kernel.now.left c.convertible.new.self.left (sym c.k.ensures ∙ c.if-not-k.false) holds

pub returns-clause-room : goal.returns-clause-room
returns-clause-room c =
    record {
      low = bounded-again
          (deleted_state (state_of c.args.s.now) c.args.e.now.place.level (tree_of c.in_ok-ty-2.ty) (tree_of c.in_ok-left.left))
          (state_of c.in_ok-next.next.value) c.in_ok-next.ensures.answer;
      few = c.in_ok-next.ensures.few;
    }
