use Rattle.std.proofs.Common.{Ok, ap, ◌∙◌, arith}
use Rattle.theory.specs.Eliminators.{no_variable}
use Rattle.theory.specs.Substitutions.{fill}
use Rattle.core_terms.specs.Meanings.{tele_of}
use Rattle.core_terms.proofs.Builders.{ok_is}
use Rattle.problems.specs.Conditions.{most_depth}
use Rattle.problems.proofs.RecordItems.{typed-length}
use Rattle.problems.proofs.RecordSizes.{over-all}
use Rattle.problems.proofs.records.items_at.Goals as goal

pub inst_tele-requires-clause-values : goal.inst_tele-requires-clause-values
inst_tele-requires-clause-values c = over-all most_depth 3221225472 (tele_of c.args.ps.now) (omega arith) c.requires.ps

pub with_levels-requires : goal.with_levels-requires
with_levels-requires c =
    typed-length (fill no_variable (tele_of c.args.ps.now)) (tele_of c.as_slice.result.now) c.into_vec.result.items c.args.args.now
    (ap tele_of c.as_slice.ensures.value ∙ ok_is c.in_ok-types.ensures) (ap (λ types. Ok (tele_of types)) c.into_vec.ensures ∙ c.in_ok-types-2.ensures)
