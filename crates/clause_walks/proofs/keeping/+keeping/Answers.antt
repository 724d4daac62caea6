use Rattle.std.proofs.Common.{rules, Ok, length, ap, subst}
use Rattle.core_terms.specs.Answers.{Gives}
use Rattle.core_terms.specs.Meanings.{tree_of}
use Rattle.case_trees.specs.Pairs.{term_in}
use Rattle.clause_walks.specs.Meanings.{pair_of, pairs_of}
use Rattle.clause_walks.specs.declared.pairs.Pair.TheFolds.{the_lemmas}
use Rattle.clause_walks.proofs.KeepingCodes.{arguments-low, kept-made}
use Rattle.clause_walks.proofs.keeping.+keeping.Goals as goal

pub keep-returns-in-Some : goal.keep-returns-in-Some
keep-returns-in-Some t c =
    let given = c.keep_arguments.ensures (term_in (pair_of c.args.pair.now)) in
    search (rules, the_lemmas, given)

pub keep_arguments-keep_onto-requires : goal.keep_arguments-keep_onto-requires
keep_arguments-keep_onto-requires t c =
    let low = arguments-low (c.in_ok-ps.ps, c.in_ok-ps.arguments) c.as_slice.result.now (length c.as_slice-count.result.now) (tree_of c.args.t.now) c.requires.low c.in_ok-ps.ensures c.as_slice.ensures in
    search (rules, low)

pub keep_arguments-returns : goal.keep_arguments-returns
keep_arguments-returns t c = λ new.
    subst (λ t. Gives tree_of c.applied.result (Ok t))
    (kept-made c.args.sig.now (tree_of c.args.t.now) c.args.b (pairs_of c.args.pairs.now) new (c.in_ok-ps.ps, c.in_ok-ps.arguments) c.as_slice.result.now c.in_ok-kept.kept c.into_vec.result.items
    (length c.as_slice-count.result.now) c.requires.there c.in_ok-ps.ensures (ap length c.as_slice-count.ensures) c.as_slice.ensures c.in_ok-kept.ensures c.into_vec.ensures)
    c.applied.ensures
