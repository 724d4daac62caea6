use Rattle.std.proofs.Common.{sym, ap, ◌∙◌, subst as transport}
use Rattle.theory.specs.Terms.{Term}
use Rattle.theory.specs.Telescopes.{applied, variables}
use Rattle.core_terms.specs.Answers.{Gives, bounded}
use Rattle.core_terms.specs.Meanings.{tree_of, tele_of}
use Rattle.core_terms.proofs.Builders.{ok_is}
use Rattle.problems.proofs.RecordItems.{nearest-is}
use Rattle.problems.proofs.records.at_nearest.Goals as goal

pub returns : goal.returns
returns c =
    let P : Term → Type 0 = λ t. Gives tree_of c.checked.result (bounded t) in
    transport P
    (ok_is c.in_ok-whole.ensures
    ∙ (ap (λ t. applied t (variables c.args.count)) (ok_is c.in_ok-applied.ensures
    ∙ ap (applied (tree_of c.args.head)) (ap tele_of c.into_vec-ps.ensures ∙ ok_is c.in_ok-lifted.ensures))
    ∙ sym (nearest-is (tree_of c.args.head) (tele_of c.args.ps.now) c.args.count c.requires.head)))
    c.checked.ensures
