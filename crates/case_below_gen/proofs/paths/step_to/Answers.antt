use Rattle.std.proofs.Common.{sym, subst, All}
use Rattle.theory.proofs.Scopes.{Scoped}
use Rattle.core_terms.specs.Meanings.{tree_of, tele_of}
use Rattle.core_terms.proofs.Builders.{ok_is}
use Rattle.case_below_gen.specs.PathMeanings.{descent_of}
use Rattle.case_below_gen.proofs.PathBounds.{free-values}
use Rattle.case_below_gen.proofs.paths.step_to.Goals as goal

pub inst_moving-requires : goal.inst_moving-requires
inst_moving-requires c =
    subst (All (Scoped 3221225472)) (sym (ok_is c.in_ok-values.ensures))
    (free-values 3221225472 (descent_of c.args.d.now) (tree_of c.args.whole.now) (tree_of c.args.below) (tele_of c.args.inner.items) c.requires.motive c.requires.whole c.requires.inner c.requires.below)
