use Rattle.std.proofs.Common.{rules, length, All, sym, ap, ◌∙◌, subst, arith}
use Rattle.std.proofs.lemmas.Result.{err_from_is_err_and}
use Rattle.theory.specs.SignatureScopes.{IsScoped}
use Rattle.core_terms.specs.Answers.{Runs}
use Rattle.core_terms.specs.Meanings.{tree_of, tele_of}
use Rattle.core_terms.specs.PatternMeanings.{pats_of}
use Rattle.case_trees.specs.Pairs.{waiting}
use Rattle.case_trees.specs.Working.{of_arguments, work_patterns}
use Rattle.problems.specs.Conditions.{most_levels}
use Rattle.problems.proofs.BuiltCodes.{from_code}
use Rattle.clause_walks.specs.CodeWorking.{rooms_of}
use Rattle.clause_walks.specs.Meanings.{pairs_of, behind}
use Rattle.clause_walks.specs.declared.pairs.Pair.TheFolds.{the_lemmas}
use Rattle.clause_walks.proofs.BuiltPairs.{built-refused, built-go}
use Rattle.problems.proofs.BuiltArguments.{is-as, arguments-scoped}
use Rattle.clause_walks.proofs.WorkingCodes.{gives-runs, clash-behind, clean-behind, patterns-none, patterns-no_terms, rest-patterns-smaller, rest-scoped, made-refused, made-answered}
use Rattle.clause_walks.proofs.working.+working.Goals as goal

pub after_pattern-returns-then-clash-clause-answer : goal.after_pattern-returns-then-clash-clause-answer
after_pattern-returns-then-clash-clause-answer t c =
    let waits = waiting (pats_of c.args.pats.now) (tele_of c.args.terms.now) in
    gives-runs pairs_of c.waiting_after.result (behind c.push.new.self waits) c.args.kernel.now.left _ c.waiting_after.ensures
    (clash-behind c.args.made c.push.new.self c.args.pair waits (work_patterns c.args.sig.now (rooms_of c.args.rooms) (pats_of c.args.pats.now) (tele_of c.args.terms.now)) c.args.kernel.now.left
    c.in_ok-push.ensures.ok (sym c.clashes-clash.ensures ∙ c.if-clash.true))

pub after_pattern-returns-else-clash-clause-answer : goal.after_pattern-returns-else-clash-clause-answer
after_pattern-returns-else-clash-clause-answer t c =
    let waits = waiting (pats_of c.args.pats.now) (tele_of c.args.terms.now) in
    subst (λ meant. Runs pairs_of c.work_patterns.result c.work_patterns.new.kernel.left meant)
    (clean-behind c.args.made c.push.new.self c.args.pair waits (work_patterns c.args.sig.now (rooms_of c.args.rooms) (pats_of c.args.pats.now) (tele_of c.args.terms.now)) c.args.kernel.now.left
    c.in_ok-push.ensures.ok (sym c.clashes-clash.ensures ∙ c.if-clash.false))
    c.work_patterns.ensures.answer

pub built_pair-work_patterns-requires : goal.built_pair-work_patterns-requires
built_pair-work_patterns-requires t c =
    let all = arguments-scoped c.args.sig.now most_levels _ (tree_of c.args.w.now) (c.in_ok-ps.ps, c.in_ok-ps.us) c.in_ok-ps.ensures c.requires.scoped in (
      omega (arith, c.decreases),
      (c.requires.kernel, (c.requires.ready, subst (λ us. All (IsScoped c.args.sig.now most_levels) (tele_of us)) (sym c.as_slice-2.ensures) all)),
    )

pub built_pair-returns-in_err-pairs-clause-answer : goal.built_pair-returns-in_err-pairs-clause-answer
built_pair-returns-in_err-pairs-clause-answer t c =
    let S = c.args.sig.now in
    let w = tree_of c.args.w.now in
    let b = c.args.b in
    let q = err_from_is_err_and c.from_residual-in_err-pairs.result c.from_residual-in_err-pairs.ensures.1 in
    rw (q.1, q.2)
    (λ other.
    built-refused S w b c.requires.there c.args.n c.args.number (pats_of c.args.pats.now) (tree_of c.args.t.now) c.args.room _ (c.in_ok-ps.ps, c.in_ok-ps.us) c.in_ok-ps.ensures (ap length c.as_slice.ensures)
    (c.requires.own (from_code b w) (is-as S w b c.requires.there)) c.args.kernel.now.left c.work_patterns.new.kernel.left _
    (made-refused S (of_arguments c.args.room) c.new-made.result (pats_of c.args.pats.now) c.as_slice-2.result.now c.in_ok-ps.us c.args.kernel.now.left c.work_patterns.new.kernel.left _ c.new-made.ensures c.as_slice-2.ensures
    (c.in_err-pairs.ensures.answer other)))

pub built_pair-returns-clause-answer : goal.built_pair-returns-clause-answer
built_pair-returns-clause-answer t c =
    let S = c.args.sig.now in
    let w = tree_of c.args.w.now in
    let b = c.args.b in
    let step = built-go S w b c.requires.there c.args.n c.args.number (pats_of c.args.pats.now) (tree_of c.args.t.now) c.args.room _ (c.in_ok-ps.ps, c.in_ok-ps.us) c.in_ok-ps.ensures (ap length c.as_slice.ensures)
    (c.requires.own (from_code b w) (is-as S w b c.requires.there)) c.args.kernel.now.left c.work_patterns.new.kernel.left (pairs_of c.in_ok-pairs.pairs)
    (made-answered S (of_arguments c.args.room) c.new-made.result (pats_of c.args.pats.now) c.as_slice-2.result.now c.in_ok-ps.us c.args.kernel.now.left c.work_patterns.new.kernel.left (pairs_of c.in_ok-pairs.pairs) c.new-made.ensures c.as_slice-2.ensures
    c.in_ok-pairs.ensures.answer) in
    search (rules, the_lemmas, step)

pub work_patterns-after_pattern-requires : goal.work_patterns-after_pattern-requires
work_patterns-after_pattern-requires t c =
    let smaller = rest-patterns-smaller c.args.pats.now c.pat-item.result c.in-len1-up.len_at_least c.pat-item.is in (
      omega (arith, smaller, c.decreases),
      (c.in_ok-pair-in-len1-up-terms.ensures.kernel, (c.requires.ready, rest-scoped c.args.sig.now most_levels c.args.terms.now c.in-len1-up-terms.len_at_least c.requires.terms)),
    )

pub work_patterns-returns-in-empty-clause-answer : goal.work_patterns-returns-in-empty-clause-answer
work_patterns-returns-in-empty-clause-answer t c =
    patterns-none c.args.sig.now (rooms_of c.args.rooms) c.args.made c.args.pats.now (tele_of c.args.terms.now) c.args.kernel.now.left c.in-empty.len_below

pub work_patterns-returns-in-empty-terms-clause-answer : goal.work_patterns-returns-in-empty-terms-clause-answer
work_patterns-returns-in-empty-terms-clause-answer t c =
    patterns-no_terms c.args.sig.now (rooms_of c.args.rooms) c.args.made c.args.pats.now c.args.terms.now c.args.kernel.now.left c.in-len1-up.len_at_least c.in-empty-terms.len_below
