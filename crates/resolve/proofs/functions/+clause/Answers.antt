use Rattle.std.proofs.Common.{◌++◌, ◌∙◌, map, ap, sym, arith}
use Rattle.surface_syntax.specs.Trees as surf
use Rattle.surface_syntax.specs.TreeMeanings as written
use Rattle.resolve.specs.Patterns.{bound_all}
use Rattle.resolve.specs.Scopes.{known_of}
use Rattle.resolve.proofs.ClauseSizes.{size_clause_item}
use Rattle.resolve.proofs.Walking.{clause_gives, clauses_next, clauses_done}
use Rattle.resolve.proofs.functions.+clause.Goals as goal

pub clauses-loop-given-preserved : goal.clauses-loop-given-preserved
clauses-loop-given-preserved t c =
    c.loop-given.invariant
    ∙ clauses_next c.args.known.now.sig.now (known_of c.args.known.now) c.args.own.now c.args.allowed c.args.list.now c.loop-given.given-index c.given-item.result c.loop-given.resolved c.push.new.self c.in_ok-clause.field-0 c.loop-given-test.true c.given-item.is c.in_ok-clause.ensures c.in_ok-push.ensures.ok

pub clauses-returns : goal.clauses-returns
clauses-returns t c =
    sym (c.loop-given.invariant ∙ clauses_done c.args.known.now.sig.now (known_of c.args.known.now) c.args.own.now c.args.allowed c.args.list.now c.loop-given.given-index c.loop-given.resolved c.loop-given-test.false)

pub clauses-clause-requires : goal.clauses-clause-requires
clauses-clause-requires t c =
    let h = size_clause_item c.args.list.now c.loop-given.given-index c.given-item.result c.loop-given-test.true c.given-item.is in (omega arith, tt)

pub clause-returns : goal.clause-returns
clause-returns t c =
    clause_gives c.args.known.now.sig.now (known_of c.args.known.now) c.args.own.now c.args.allowed c.args.given.now c.in_ok-count.count c.as_slice-pats.result.now _ c.clause_over.result
    c.as_slice-pats.ensures c.in_ok-count.ensures.head
    (c.in_ok-add_variables.ensures.names ∙ ap (λ ns. ns ++ bound_all c.args.known.now.sig.now (surf.pats (map written.pat_of c.as_slice-pats.result.now))) c.new-names.ensures) c.clause_over.ensures
