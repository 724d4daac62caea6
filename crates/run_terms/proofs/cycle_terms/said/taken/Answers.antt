use Rattle.std.proofs.Common.{◌≡◌, ◌-◌, length, get_or, subst, sym, ◌∙◌, arith}
use Rattle.theory.proofs.Commuting.{lift_by_none}
use Rattle.core_terms.specs.Meanings.{tree_of}
use Rattle.core_terms.proofs.Instances.{under-value, under-none}
use Rattle.run_terms.proofs.cycle_terms.said.taken.Goals as goal

pub returns-then-place-len : goal.returns-then-place-len
returns-then-place-len c =
    let values = c.args.values.items in
    let value = c.swap_remove.result in
    let place : c.len-then-place-len.result - 1 - c.args.n ≡ length values - 1 - (c.args.n - 0) = omega arith in
    sym (lift_by_none (tree_of value) 0)
    ∙ under-value 0 c.args.n values value (omega arith) (omega arith) (subst (λ k. value ≡ get_or values k value) place c.swap_remove.ensures.value)

pub returns : goal.returns
returns c = under-none 0 c.args.n c.args.values.items (omega arith) (omega arith)
