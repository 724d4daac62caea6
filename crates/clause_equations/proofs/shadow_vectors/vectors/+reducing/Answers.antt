use Rattle.std.proofs.Common.{length, sym, ap, subst, arith}
use Rattle.std.proofs.lemmas.Result.{err_from_is_err_and}
use Rattle.core_terms.specs.Answers.{bounded}
use Rattle.core_terms.specs.Meanings.{tree_of, tele_of}
use Rattle.core_terms.specs.PatternMeanings.{pats_of}
use Rattle.theory.specs.Telescopes.{applied}
use Rattle.theory.specs.Terms.{Con}
use Rattle.kernel_reduce.specs.WellScoped.{CanReduce}
use Rattle.problems.proofs.BuiltCodes.{from_code}
use Rattle.problems.proofs.BuiltArguments.{is-as}
use Rattle.clause_equations.proofs.shadow_vectors.ReducedTerms.{arguments-go, arguments-reducible, arguments-refused, gives-spends}
use Rattle.clause_equations.proofs.shadow_vectors.vectors.+reducing.Goals as goal

pub with_arguments-with_reduced-requires : goal.with_arguments-with_reduced-requires
with_arguments-with_reduced-requires t c =
    let may = arguments-reducible c.args.sig.now _ (tree_of c.args.w.now) (c.in_ok-ps.ps, c.in_ok-ps.us) c.in_ok-ps.ensures c.requires.reducible in (
      omega (arith, c.decreases),
      (c.requires.kernel, subst (λ us. CanReduce c.args.sig.now (tele_of us)) (sym c.as_slice-2.ensures) may),
    )

pub with_arguments-returns-in_err-all-clause-answer : goal.with_arguments-returns-in_err-all-clause-answer
with_arguments-returns-in_err-all-clause-answer t c =
    let S = c.args.sig.now in
    let w = tree_of c.args.w.now in
    let b = c.args.b in
    let q = err_from_is_err_and c.from_residual-in_err-all.result c.from_residual-in_err-all.ensures.1 in
    rw (q.1, q.2)
    (λ other.
    arguments-refused S w b c.requires.there c.args.n c.args.number _ (pats_of c.args.pats.now) (c.in_ok-ps.ps, c.in_ok-ps.us) c.as_slice-2.result.now c.in_ok-ps.ensures c.as_slice-2.ensures (ap length c.as_slice.ensures)
    (c.requires.own (from_code b w) (is-as S w b c.requires.there)) c.args.kernel.now.left c.with_reduced.new.kernel.left _ (c.in_err-all.ensures.answer other))

pub with_arguments-returns-clause-answer : goal.with_arguments-returns-clause-answer
with_arguments-returns-clause-answer t c =
    let S = c.args.sig.now in
    let w = tree_of c.args.w.now in
    let b = c.args.b in
    gives-spends tree_of c.constructor_at.result (bounded (applied (Con b.family b.number) (tele_of c.in_ok-all.all))) c.with_reduced.new.kernel.left _ c.constructor_at.ensures
    (arguments-go S w b c.requires.there c.args.n c.args.number _ (pats_of c.args.pats.now) (c.in_ok-ps.ps, c.in_ok-ps.us) c.as_slice-2.result.now c.in_ok-ps.ensures c.as_slice-2.ensures (ap length c.as_slice.ensures)
    (c.requires.own (from_code b w) (is-as S w b c.requires.there)) c.args.kernel.now.left c.with_reduced.new.kernel.left (tele_of c.in_ok-all.all) c.in_ok-all.ensures.answer)
