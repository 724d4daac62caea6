use Rattle.std.proofs.Common.{rules, map}
use Rattle.core_terms.specs.Meanings.{tele_of}
use Rattle.core_terms.specs.PatternMeanings.{pat_of}
use Rattle.std.proofs.lemmas.List.{length-map}
use Rattle.case_trees.proofs.pattern_vectors.Columns.{as-long-counted}
use Rattle.core_terms.specs.Meanings.{tree_of}
use Rattle.case_trees.proofs.pattern_vectors.separation.apart.Goals as goal

pub returns-then-pats-terms : goal.returns-then-pats-terms
returns-then-pats-terms c =
    let long = as-long-counted (map pat_of c.args.pats.now) (tele_of c.args.terms.now) in
    search (rules, long, length-map c.args.pats.now pat_of, length-map c.args.terms.now tree_of)

pub returns-else-pats-terms : goal.returns-else-pats-terms
returns-else-pats-terms c =
    let long = as-long-counted (map pat_of c.args.pats.now) (tele_of c.args.terms.now) in
    search (rules, long, length-map c.args.pats.now pat_of, length-map c.args.terms.now tree_of)
