use Rattle.std.proofs.Common.{◌-◌, Ok, ap, subst as transport}
use Rattle.theory.specs.Terms.{Term}
use Rattle.core_terms.specs.Answers.{Gives}
use Rattle.core_terms.specs.Meanings.{tree_of}
use Rattle.core_terms.proofs.Builders.{ok_is}
use Rattle.core_terms.proofs.Instances.{under-low}
use Rattle.clause_reports.specs.elaboration.Walking.{variable_in}
use Rattle.function_checks.proofs.function_clauses.Renaming.{under-high}
use Rattle.with_abstraction.specs.Meanings.{abstracted_of}
use Rattle.function_checks.proofs.function_clauses.helpers.renamed_variable.Goals as goal

pub returns-then-n-under : goal.returns-then-n-under
returns-then-n-under c = ap Ok (under-low c.args.under c.args.n (variable_in (abstracted_of c.args.a.now)) c.if-n-under.true)

pub returns : goal.returns
returns c =
    let P : Term → Type 0 = λ t. Gives tree_of c.raised.result (Ok t) in
    transport P
    (under-high c.args.under c.args.n (variable_in (abstracted_of c.args.a.now)) (tree_of c.in_ok-x.x) c.if-n-under.false (ok_is c.in_ok-x.ensures))
    c.raised.ensures
