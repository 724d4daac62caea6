use Rattle.std.proofs.Common.{length, ap, ◌∙◌, arith}
use Rattle.theory.specs.Spines.{spine_of}
use Rattle.core_terms.specs.Meanings.{tree_of}
use Rattle.kernel_reduce.proofs.StepTests.{count-exact}
use Rattle.unifier.proofs.GroupCodes.{places-spine, places-level}
use Rattle.unifier.proofs.groups.has_places.Goals as goal

pub returns-then-spine_len-all : goal.returns-then-spine_len-all
returns-then-spine_len-all c =
    let count = count-exact (tree_of c.args.ty.now) c.spine_len.result c.spine_len.ensures c.requires in
    places-spine c.args.f.now c.args.k (spine_of (tree_of c.args.ty.now)) (omega (arith, c.if-as_slice-k.false, ap length c.as_slice.ensures))
    (λ e. c.if-spine_len-all.true (omega (arith, e, count, ap length c.as_slice-2.ensures)))

pub returns : goal.returns
returns c =
    let count = count-exact (tree_of c.args.ty.now) c.spine_len.result c.spine_len.ensures c.requires in
    c.is_fitting.ensures
    ∙ places-level c.args.f.now c.args.k (spine_of (tree_of c.args.ty.now)) (omega (arith, c.if-as_slice-k.false, ap length c.as_slice.ensures))
    (omega (arith, count, c.if-spine_len-all.false, ap length c.as_slice-2.ensures))
