use Rattle.std.proofs.Common.{◌≡◌, Some, length, slice_get, refl, sym, ap, ◌∙◌, subst, arith}
use Rattle.std.proofs.lemmas.Option.{slice_get_read}
use Rattle.core_terms.specs.Meanings.{tree_of}
use Rattle.kernel_reduce.proofs.StepTests.{count-exact}
use Rattle.problems.proofs.BuiltCodes.{code-some, code-all}
use Rattle.problems.proofs.built.built_of.Goals as goal

pub returns-then-spine_len-count : goal.returns-then-spine_len-count
returns-then-spine_len-count c =
    let there = subst (λ cons. slice_get cons c.in-Con.number ≡ Some c.in_ok-con.con.now) c.as_slice.ensures (slice_get_read c.as_slice.result.now _ c.in-Con.number c.in_ok-con.con.now refl c.in_ok-con.ensures.lookup.3.0 c.in_ok-con.ensures.lookup.1) in
    let count = count-exact (tree_of c.args.t.now) c.spine_len.result c.spine_len.ensures c.requires.low in
    code-some c.args.sig.now (tree_of c.args.t.now) c.in-Con.n c.in-Con.number c.in_ok-record.record.now c.in_ok-con.con.now (sym c.head.ensures ∙ ap tree_of c.in-Con.is) (sym c.in_ok-record.ensures.family) there
    (λ e. c.if-spine_len-count.true (omega (arith, e, count, ap length c.as_slice-2.ensures, ap length c.as_slice-3.ensures)))

pub returns : goal.returns
returns c =
    let there = subst (λ cons. slice_get cons c.in-Con.number ≡ Some c.in_ok-con.con.now) c.as_slice.ensures (slice_get_read c.as_slice.result.now _ c.in-Con.number c.in_ok-con.con.now refl c.in_ok-con.ensures.lookup.3.0 c.in_ok-con.ensures.lookup.1) in
    let count = count-exact (tree_of c.args.t.now) c.spine_len.result c.spine_len.ensures c.requires.low in
    code-all c.args.sig.now (tree_of c.args.t.now) (record { family = c.in-Con.n; number = c.in-Con.number; «record» = c.in_ok-record.record; con = c.in_ok-con.con })
    (sym c.head.ensures ∙ ap tree_of c.in-Con.is) (sym c.in_ok-record.ensures.family) there
    (omega (arith, count, c.if-spine_len-count.false, ap length c.as_slice-2.ensures, ap length c.as_slice-3.ensures)) c.in_ok-record.ensures.kinds
