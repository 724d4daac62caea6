use Rattle.std.proofs.Common.{Ok, sym, ap, ◌∙◌, subst as transport}
use Rattle.theory.specs.Terms.{Term}
use Rattle.theory.specs.Telescopes.{applied, variables}
use Rattle.core_terms.specs.Answers.{Gives}
use Rattle.core_terms.specs.Meanings.{tree_of, tele_of}
use Rattle.core_terms.proofs.Builders.{ok_is}
use Rattle.problems.proofs.RecordItems.{nearest-is}
use Rattle.run_terms.proofs.instances.at_nearest.Goals as goal

pub returns : goal.returns
returns c =
    let P : Term → Type 0 = λ t. Gives tree_of c.applied_to_nearest.result (Ok t) in
    transport P
    (ap (λ t. applied t (variables c.args.count)) (ok_is c.in_ok-applied.ensures
    ∙ ap (applied (tree_of c.args.head)) (ap tele_of c.into_vec.ensures ∙ ok_is c.in_ok-ps.ensures))
    ∙ sym (nearest-is (tree_of c.args.head) (tele_of c.args.ps.now) c.args.count c.requires))
    c.applied_to_nearest.ensures
