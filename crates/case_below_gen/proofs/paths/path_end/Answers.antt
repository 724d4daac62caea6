use Rattle.std.proofs.Common.{sym, subst, All}
use Rattle.theory.proofs.Scopes.{Scoped}
use Rattle.core_terms.specs.Meanings.{tree_of}
use Rattle.core_terms.proofs.Builders.{ok_is}
use Rattle.case_below_gen.proofs.PathBounds.{free-last}
use Rattle.case_below_gen.proofs.paths.path_end.Goals as goal

pub step_to-requires-clause-inner : goal.step_to-requires-clause-inner
step_to-requires-clause-inner c =
    subst (All (Scoped 3221225472)) (sym (ok_is c.in_ok-inner.ensures))
    (free-last 3221225472 c.args.count (tree_of c.args.d.now.part.now) c.requires.part)
