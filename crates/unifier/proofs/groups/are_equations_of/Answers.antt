use Rattle.std.proofs.Common.{subst}
use Rattle.std.proofs.lemmas.Result.{err_from_is_err_and}
use Rattle.core_terms.specs.Answers.{Runs}
use Rattle.unifier.proofs.GroupEquations.{code-parameters, code-left_length, code-right_length, code-few_items, code-few_left, code-few_right, code-types_given, code-others_given, code-stops, code-runs, code-few, if-ok}
use Rattle.unifier.proofs.groups.are_equations_of.Goals as goal

pub family_items-requires-clause-ps : goal.family_items-requires-clause-ps
family_items-requires-clause-ps c =
    code-parameters c.args.kernel.now.signature c.args.s.now c.args.k c.args.m.now c.requires.ready c.requires.state c.requires.k c.requires.group c.as_slice.result.now c.as_slice.ensures

pub equations_made-requires-clause-left : goal.equations_made-requires-clause-left
equations_made-requires-clause-left c =
    code-left_length c.args.kernel.now.signature c.args.s.now c.args.k c.args.m.now c.requires.ready c.requires.state c.requires.k c.requires.group c.as_slice-equations.result.now c.as_slice-equations.ensures c.as_slice.result.now c.as_slice.ensures c.in_ok-tele.tele c.in_ok-tele.ensures c.in_ok-left.left c.in_ok-left.right c.in_ok-left.ensures

pub equations_made-requires-clause-right : goal.equations_made-requires-clause-right
equations_made-requires-clause-right c =
    code-right_length c.args.kernel.now.signature c.args.s.now c.args.k c.args.m.now c.requires.ready c.requires.state c.requires.k c.requires.group c.as_slice-equations.result.now c.as_slice-equations.ensures c.as_slice.result.now c.as_slice.ensures c.in_ok-tele.tele c.in_ok-tele.ensures c.in_ok-left.left c.in_ok-left.right c.in_ok-left.ensures

pub equations_made-requires-clause-few_items : goal.equations_made-requires-clause-few_items
equations_made-requires-clause-few_items c =
    code-few_items c.args.kernel.now.signature c.args.s.now c.args.k c.args.m.now c.requires.ready c.requires.state c.requires.k c.requires.group c.as_slice-equations.result.now c.as_slice-equations.ensures c.as_slice.result.now c.as_slice.ensures c.in_ok-tele.tele c.in_ok-tele.ensures c.in_ok-left.left c.in_ok-left.right c.in_ok-left.ensures

pub equations_made-requires-clause-few_left : goal.equations_made-requires-clause-few_left
equations_made-requires-clause-few_left c =
    code-few_left c.args.kernel.now.signature c.args.s.now c.args.k c.args.m.now c.requires.ready c.requires.state c.requires.k c.requires.group c.as_slice-equations.result.now c.as_slice-equations.ensures c.as_slice.result.now c.as_slice.ensures c.in_ok-tele.tele c.in_ok-tele.ensures c.in_ok-left.left c.in_ok-left.right c.in_ok-left.ensures

pub equations_made-requires-clause-few_right : goal.equations_made-requires-clause-few_right
equations_made-requires-clause-few_right c =
    code-few_right c.args.kernel.now.signature c.args.s.now c.args.k c.args.m.now c.requires.ready c.requires.state c.requires.k c.requires.group c.as_slice-equations.result.now c.as_slice-equations.ensures c.as_slice.result.now c.as_slice.ensures c.in_ok-tele.tele c.in_ok-tele.ensures c.in_ok-left.left c.in_ok-left.right c.in_ok-left.ensures

pub returns-in_err-types-clause-answer : goal.returns-in_err-types-clause-answer
returns-in_err-types-clause-answer c =
    let q = err_from_is_err_and c.from_residual-in_err-types.result c.from_residual-in_err-types.ensures.1 in
    rw (q.1, q.2)
    (λ other. code-stops c.args.kernel.now.signature c.args.s.now c.args.k c.args.m.now c.requires.ready c.requires.state c.requires.k c.requires.group c.as_slice-equations.result.now c.as_slice-equations.ensures c.as_slice.result.now c.as_slice.ensures c.in_ok-tele.tele c.in_ok-tele.ensures c.in_ok-left.left c.in_ok-left.right c.in_ok-left.ensures _ c.args.kernel.now.left (c.in_err-types.ensures other))

pub all_convertible-requires-clause-types : goal.all_convertible-requires-clause-types
all_convertible-requires-clause-types c =
    code-types_given c.args.kernel.now.signature c.args.s.now c.args.k c.args.m.now c.requires.ready c.requires.state c.requires.k c.requires.group c.as_slice-equations.result.now c.as_slice-equations.ensures c.as_slice.result.now c.as_slice.ensures c.in_ok-tele.tele c.in_ok-tele.ensures c.in_ok-left.left c.in_ok-left.right c.in_ok-left.ensures

pub all_convertible-requires-clause-others : goal.all_convertible-requires-clause-others
all_convertible-requires-clause-others c =
    code-others_given c.args.kernel.now.signature c.args.s.now c.args.k c.args.m.now c.requires.ready c.requires.state c.requires.k c.requires.group c.as_slice-equations.result.now c.as_slice-equations.ensures c.as_slice.result.now c.as_slice.ensures c.in_ok-tele.tele c.in_ok-tele.ensures c.in_ok-left.left c.in_ok-left.right c.in_ok-left.ensures c.in_ok-types.types c.as_slice-2.result.now c.in_ok-types.ensures c.as_slice-2.ensures

pub returns-clause-answer : goal.returns-clause-answer
returns-clause-answer c =
    subst (Runs (λ holds. holds) c.all_convertible.result c.all_convertible.new.kernel.left)
    (code-runs c.args.kernel.now.signature c.args.s.now c.args.k c.args.m.now c.requires.ready c.requires.state c.requires.k c.requires.group c.as_slice-equations.result.now c.as_slice-equations.ensures c.as_slice.result.now c.as_slice.ensures c.in_ok-tele.tele c.in_ok-tele.ensures c.in_ok-left.left c.in_ok-left.right c.in_ok-left.ensures c.in_ok-types.types c.as_slice-2.result.now c.in_ok-types.ensures c.as_slice-2.ensures c.args.kernel.now.left) c.all_convertible.ensures.answer

pub returns-clause-few : goal.returns-clause-few
returns-clause-few c =
    if-ok c.all_convertible.result
    (code-few c.args.kernel.now.signature c.args.s.now c.args.k c.args.m.now c.requires.ready c.requires.state c.requires.k c.requires.group c.as_slice-equations.result.now c.as_slice-equations.ensures c.as_slice.result.now c.as_slice.ensures c.in_ok-tele.tele c.in_ok-tele.ensures c.in_ok-left.left c.in_ok-left.right c.in_ok-left.ensures c.in_ok-types.types c.as_slice-2.result.now c.in_ok-types.ensures c.as_slice-2.ensures)
