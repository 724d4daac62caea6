use Rattle.std.proofs.lemmas.List.{length-map}
use Rattle.core_terms.specs.Meanings.{tree_of}
use Rattle.core_terms.specs.TreeMeanings.{walk_of}
use Rattle.core_terms.proofs.Builders.{ok_is}
use Rattle.function_checks.proofs.function_clauses.HelperParts.{scrutinee-part}
use Rattle.function_checks.specs.function_clauses.ScrutineeMeanings.{scrutinee_of}
use Rattle.function_checks.specs.function_walks.WalkingMeanings.{session_of}
use Rattle.function_checks.specs.walk_checks.CheckMeanings.{opening_of}
use Rattle.function_checks.proofs.function_clauses.scrutinees.helper_opened.Goals as goal

pub returns-clause-part : goal.returns-clause-part
returns-clause-part c =
    scrutinee-part (session_of c.args.s) c.args.helper (walk_of c.args.w.now) (tree_of c.args.t) (opening_of c.in_ok-o.o)
    (scrutinee_of c.in_ok-scrutinee_over.field-0) _ (length-map c.args.w.now.ctx tree_of) c.requires.walk c.in_ok-o.ensures.scoped
    (ok_is c.in_ok-scrutinee_over.ensures)
