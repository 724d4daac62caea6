use Rattle.std.proofs.Common.{◌++◌, reverse, sym, ap, ◌∙◌, subst}
use Rattle.std.proofs.lemmas.Result.{err_from_is_err_and}
use Rattle.core_terms.specs.Meanings.{tree_of, tele_of}
use Rattle.core_terms.proofs.Builders.{ok_is}
use Rattle.problems.specs.CodeCycles.{direct_in}
use Rattle.problems.specs.Conditions.{AreGiven, most_levels}
use Rattle.unifier.proofs.CycleCodes.{direct_in-given, nothing-deep, reverse-given}
use Rattle.unifier.proofs.cycles.below_too_deep.Goals as goal

pub search_too_deep-requires-clause-terms : goal.search_too_deep-requires-clause-terms
search_too_deep-requires-clause-terms c =
    subst (AreGiven c.args.sig.now most_levels) (sym (ok_is c.in_ok-terms.ensures ∙ ap (λ xs. tele_of xs ++ reverse (direct_in c.args.b (tree_of c.args.t.now))) c.new.ensures.items))
    (reverse-given c.args.sig.now most_levels (direct_in c.args.b (tree_of c.args.t.now)) (direct_in-given c.args.sig.now most_levels c.args.b (tree_of c.args.t.now) c.requires.t))

pub returns-in_err-search_too_deep-clause-answer : goal.returns-in_err-search_too_deep-clause-answer
returns-in_err-search_too_deep-clause-answer c =
    let q = err_from_is_err_and c.from_residual-in_err-search_too_deep.result c.from_residual-in_err-search_too_deep.ensures.1 in
    rw (q.1, q.2)
    (λ p e is other.
    let h = nothing-deep c.args.sig.now c.args.x (tree_of c.args.t.now) c.args.kernel.now.left c.args.b p (tele_of c.in_ok-terms.terms.items) e is
    (ok_is c.in_ok-terms.ensures ∙ ap (λ xs. tele_of xs ++ reverse (direct_in c.args.b (tree_of c.args.t.now))) c.new.ensures.items) in
    c.in_err-search_too_deep.ensures.answer other ∙ h)

pub returns-clause-answer : goal.returns-clause-answer
returns-clause-answer c =
    λ p e is.
    let h = nothing-deep c.args.sig.now c.args.x (tree_of c.args.t.now) c.args.kernel.now.left c.args.b p (tele_of c.in_ok-terms.terms.items) e is
    (ok_is c.in_ok-terms.ensures ∙ ap (λ xs. tele_of xs ++ reverse (direct_in c.args.b (tree_of c.args.t.now))) c.new.ensures.items) in
    c.in_ok-search_too_deep.ensures.answer ∙ h
