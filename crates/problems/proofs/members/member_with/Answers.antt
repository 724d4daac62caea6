use Rattle.std.proofs.Common.{Ok, length, refl, sym, ap, arith}
use Rattle.core_terms.specs.Meanings.{tree_of}
use Rattle.core_terms.proofs.Builders.{ok_is}
use Rattle.kernel_reduce.proofs.StepTests.{count-exact}
use Rattle.problems.proofs.FamilyMembers.{code-none, code-some, parts-split}
use Rattle.problems.proofs.members.member_with.Goals as goal

pub returns-then-spine_len-count-clause-answer : goal.returns-then-spine_len-count-clause-answer
returns-then-spine_len-count-clause-answer c =
    let count = count-exact (tree_of c.args.t.now) c.spine_len.result c.spine_len.ensures c.requires.low in
    ap Ok
    (sym (code-none c.args.number (tree_of c.args.t.now) c.args.f.now
    (λ e. c.if-spine_len-count.true (omega (arith, e, count, ap length c.as_slice-count.ensures, ap length c.as_slice-indices.ensures)))))

pub returns-clause-answer : goal.returns-clause-answer
returns-clause-answer c =
    let count = count-exact (tree_of c.args.t.now) c.spine_len.result c.spine_len.ensures c.requires.low in
    ap Ok
    (code-some c.args.number (tree_of c.args.t.now) c.args.f.now
    (record { number = c.args.number; family = c.args.f; params = c.in_ok-params.params; indices = c.in_ok-params.indices })
    (parts-split c.args.number c.args.f.now (tree_of c.args.t.now) _ (length c.as_slice-count.result.now) refl refl (ap length c.as_slice-count.ensures)
    (omega (arith, count, c.if-spine_len-count.false, ap length c.as_slice-count.ensures, ap length c.as_slice-indices.ensures))
    (ok_is c.in_ok-params.ensures)))

pub returns-clause-parts : goal.returns-clause-parts
returns-clause-parts c =
    let count = count-exact (tree_of c.args.t.now) c.spine_len.result c.spine_len.ensures c.requires.low in
    parts-split c.args.number c.args.f.now (tree_of c.args.t.now) _ (length c.as_slice-count.result.now) refl refl (ap length c.as_slice-count.ensures)
    (omega (arith, count, c.if-spine_len-count.false, ap length c.as_slice-count.ensures, ap length c.as_slice-indices.ensures))
    (ok_is c.in_ok-params.ensures)
