use Rattle.std.proofs.Common.{Ok, List, ap, ap₂, ◌∙◌}
use Rattle.theory.specs.Terms.{Term}
use Rattle.core_terms.specs.Meanings.{tele_of}
use Rattle.core_terms.proofs.Builders.{ok_is}
use Rattle.core_sig.specs.Meanings.{family_of}
use Rattle.tree_translation.specs.Comparisons.{Comparison, targets}
use Rattle.run_terms.specs.ComparisonMeanings.{member_of}
use Rattle.run_terms.proofs.comparisons.compared_alone.Goals as goal

pub returns-clause-answer : goal.returns-clause-answer
returns-clause-answer c =
    let at : List Term → List Term → Comparison = λ ps us.
    record {
      n = c.args.left.built.family;
      family = family_of c.args.left.built.record.now;
      parameters = ps;
      left = member_of c.args.left;
      right = member_of c.args.right;
      indices = us;
    } in
    ap₂ (λ ps us. Ok (at ps us)) (ok_is c.in_ok-parameters.ensures ∙ ap tele_of c.as_slice.ensures)
    (ok_is c.in_ok-indices.ensures ∙ ap (λ ps. targets (tele_of ps) (member_of c.args.right)) c.as_slice-2.ensures)
