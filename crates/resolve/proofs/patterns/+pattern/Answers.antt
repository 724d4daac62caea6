use Rattle.std.proofs.Common.{◌∙◌, sym}
use Rattle.resolve.specs.Scopes.{names_of, known_of}
use Rattle.resolve.proofs.Walking.{patterns_next, patterns_done, bound_next}
use Rattle.resolve.proofs.patterns.+pattern.Goals as goal

pub patterns-loop-pat-preserved : goal.patterns-loop-pat-preserved
patterns-loop-pat-preserved t c = (
  c.loop-pat.invariant.0
      ∙ patterns_next c.args.known.now.sig.now (known_of c.args.known.now) (names_of c.args.scope.now) c.loop-pat.before c.pattern.new.before c.args.pats.now c.loop-pat.pat-index c.pat-item.result c.loop-pat.resolved c.push.new.self c.in_ok-pattern.field-0 c.loop-pat-test.true c.pat-item.is c.in_ok-pattern.ensures.pattern c.in_ok-pattern.ensures.before c.in_ok-push.ensures.ok,
  c.loop-pat.invariant.1
      ∙ bound_next c.args.known.now.sig.now c.loop-pat.before c.pattern.new.before c.args.pats.now c.loop-pat.pat-index c.pat-item.result c.loop-pat-test.true c.pat-item.is c.in_ok-pattern.ensures.before,
)

pub patterns-returns-clause-patterns : goal.patterns-returns-clause-patterns
patterns-returns-clause-patterns t c =
    let done = patterns_done c.args.known.now.sig.now (known_of c.args.known.now) (names_of c.args.scope.now) c.loop-pat.before c.args.pats.now c.loop-pat.pat-index c.loop-pat.resolved c.loop-pat-test.false in
    sym (c.loop-pat.invariant.0 ∙ done)
