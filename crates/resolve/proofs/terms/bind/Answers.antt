use Rattle.std.proofs.Common.{sym, ◌∙◌}
use Rattle.std.proofs.lemmas.Result.{err_from_is_err_and}
use Rattle.resolve.specs.Forms.{former}
use Rattle.resolve.proofs.Bound.{bind_step, bind_stop}
use Rattle.resolve.proofs.terms.bind.Goals as goal

pub returns-in_err-made : goal.returns-in_err-made
returns-in_err-made c =
    let q = err_from_is_err_and c.from_residual.result c.from_residual.ensures.1 in
    rw (q.1, q.2)
    (λ other. sym (c.loop-ty.invariant
    ∙ bind_stop (former c.args.form) c.loop-ty.types.items c.pop.new.self.items c.in-Some.ty c.loop-ty.made _ c.in-Some.ensures.items (c.in_err-made.ensures other)))

pub loop-ty-preserved : goal.loop-ty-preserved
loop-ty-preserved c =
    c.loop-ty.invariant
    ∙ bind_step (former c.args.form) c.loop-ty.types.items c.pop.new.self.items c.in-Some.ty c.loop-ty.made c.in_ok-made.made c.in-Some.ensures.items c.in_ok-made.ensures
