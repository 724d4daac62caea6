use Rattle.std.proofs.Common.{reverse, ◌∙◌, arith}
use Rattle.std.proofs.lemmas.Result.{err_from_is_err_and}
use Rattle.core_terms.specs.Meanings.{tele_of}
use Rattle.problems.specs.Conditions.{most_levels}
use Rattle.problems.proofs.GivenTerms.{last-given}
use Rattle.unifier.proofs.CycleCodes.{waiting-refused, waiting-on, waiting-fewer}
use Rattle.unifier.proofs.cycles.search_too_deep.Goals as goal

pub go_below-requires-clause-u : goal.go_below-requires-clause-u
go_below-requires-clause-u c = (last-given c.args.sig.now most_levels c.terms.waiting.items c.pop.new.self.items c.in-Some.u c.in-Some.ensures.items c.terms.invariant.given).1

pub go_below-requires-clause-waiting : goal.go_below-requires-clause-waiting
go_below-requires-clause-waiting c = (last-given c.args.sig.now most_levels c.terms.waiting.items c.pop.new.self.items c.in-Some.u c.in-Some.ensures.items c.terms.invariant.given).0

pub returns-in_err-waiting-clause-answer : goal.returns-in_err-waiting-clause-answer
returns-in_err-waiting-clause-answer c =
    let q = err_from_is_err_and c.from_residual.result c.from_residual.ensures.1 in
    rw (q.1, q.2)
    (λ other.
    waiting-refused c.args.sig.now c.args.n c.args.x c.terms.waiting.items c.pop.new.self.items c.in-Some.u c.terms.kernel.left c.in-Some.ensures.items _ _ (c.in_err-waiting.ensures.answer other)
    ∙ c.terms.invariant.meant)

pub terms-smaller : goal.terms-smaller
terms-smaller c =
    waiting-fewer c.args.sig.now c.args.n c.args.x c.terms.waiting.items c.pop.new.self.items c.in-Some.u c.terms.kernel.left c.in-Some.ensures.items (reverse (tele_of c.in_ok-waiting.waiting.items)) _ c.in_ok-waiting.ensures.answer

pub terms-preserved : goal.terms-preserved
terms-preserved c = record {
  meant = waiting-on c.args.sig.now c.args.n c.args.x c.terms.waiting.items c.pop.new.self.items c.in-Some.u c.terms.kernel.left c.in-Some.ensures.items (reverse (tele_of c.in_ok-waiting.waiting.items)) _ c.in_ok-waiting.ensures.answer
      ∙ c.terms.invariant.meant;
  given = c.in_ok-waiting.ensures.given;
  kernel = c.in_ok-waiting.ensures.kernel;
  sum = omega (arith, c.in_ok-waiting.ensures.sum, c.terms.invariant.sum);
  spends = omega (arith, c.in_ok-waiting.ensures.spends, c.terms.invariant.spends);
}
