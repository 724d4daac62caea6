use Rattle.std.proofs.Common.{length}
use Rattle.core_terms.specs.Meanings.{tree_of}
use Rattle.core_terms.proofs.Builders.{ok_is}
use Rattle.problems.proofs.GivenTerms.{code-equation, given-more, given-reduces}
use Rattle.unifier.proofs.TidiedTerms.{code-type, tidied-scoped}
use Rattle.unifier.proofs.solutions.solution_trial.Goals as goal

pub tidied-requires-clause-left : goal.tidied-requires-clause-left
tidied-requires-clause-left c =
    given-more c.args.kernel.now.signature (length c.args.s.now.ctx) (tree_of c.args.e.now.left)
    (code-equation c.args.kernel.now.signature c.args.s.now 0 c.args.e.now c.requires.state c.requires.first).left

pub tidied-requires-clause-right : goal.tidied-requires-clause-right
tidied-requires-clause-right c =
    given-more c.args.kernel.now.signature (length c.args.s.now.ctx) (tree_of c.args.e.now.right)
    (code-equation c.args.kernel.now.signature c.args.s.now 0 c.args.e.now c.requires.state c.requires.first).right

pub tidy-requires : goal.tidy-requires
tidy-requires c =
    rw c.in_ok-left.ensures.kernel
    (given-reduces c.args.kernel.now.signature (length c.args.s.now.ctx) (tree_of c.in_ok-ty.ty) c.requires.ready
    (code-type c.args.kernel.now.signature c.args.s.now c.args.e.now (tree_of c.in_ok-ty.ty) c.requires.state c.requires.first (ok_is c.in_ok-ty.ensures)))

pub solve_sides-requires-clause-ty : goal.solve_sides-requires-clause-ty
solve_sides-requires-clause-ty c =
    let given = code-type c.args.kernel.now.signature c.args.s.now c.args.e.now (tree_of c.in_ok-ty.ty) c.requires.state c.requires.first (ok_is c.in_ok-ty.ensures) in
    let scoped = rw c.in_ok-left.ensures.kernel at c.in_ok-ty-2.ensures.scoped in
    rw (c.in_ok-ty-2.ensures.same, c.in_ok-left.ensures.kernel)
    (record {
      scoped = scoped (length c.args.s.now.ctx) given.scoped;
      low = c.in_ok-ty-2.ensures.form.low;
      few = given.few;
    })

pub solve_sides-requires-clause-left : goal.solve_sides-requires-clause-left
solve_sides-requires-clause-left c =
    let equation = code-equation c.args.kernel.now.signature c.args.s.now 0 c.args.e.now c.requires.state c.requires.first in
    rw (c.in_ok-ty-2.ensures.same, c.in_ok-left.ensures.kernel)
    (record {
      scoped = (tidied-scoped c.args.kernel.now.signature (length c.args.s.now.ctx) (tree_of c.args.e.now.left) (tree_of c.args.e.now.right)
          (tree_of c.in_ok-left.left) (tree_of c.in_ok-left.right) c.args.kernel.now.left c.tidied.new.kernel.left c.requires.ready.scoped
          equation.left.scoped equation.right.scoped c.in_ok-left.ensures.answer).0;
      low = c.in_ok-left.ensures.low.0;
      few = equation.left.few;
    })

pub solve_sides-requires-clause-right : goal.solve_sides-requires-clause-right
solve_sides-requires-clause-right c =
    let equation = code-equation c.args.kernel.now.signature c.args.s.now 0 c.args.e.now c.requires.state c.requires.first in
    rw (c.in_ok-ty-2.ensures.same, c.in_ok-left.ensures.kernel)
    (record {
      scoped = (tidied-scoped c.args.kernel.now.signature (length c.args.s.now.ctx) (tree_of c.args.e.now.left) (tree_of c.args.e.now.right)
          (tree_of c.in_ok-left.left) (tree_of c.in_ok-left.right) c.args.kernel.now.left c.tidied.new.kernel.left c.requires.ready.scoped
          equation.left.scoped equation.right.scoped c.in_ok-left.ensures.answer).1;
      low = c.in_ok-left.ensures.low.1;
      few = equation.left.few;
    })
