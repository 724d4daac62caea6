use Rattle.std.proofs.Common.{map}
use Rattle.core_terms.specs.Meanings.{tele_of}
use Rattle.kernel_check.proofs.LiveScopes.{exported}
use Rattle.kernel_check.proofs.Contexts.{reverse_context}
use Rattle.kernel_check.proofs.scope.+export_scope.Goals as goal

pub returns-in-Given : goal.returns-in-Given
returns-in-Given g t c =
    let held = g.S.TermStore.held c.args.store.now in
    exported held.tree c.export_types.result c.args.scope.now _ (map held.tree c.in-Given.types.now) c.in-Given.is
    (reverse_context (map held.tree c.in-Given.types.now)) c.export_types.ensures

pub returns-in-Written : goal.returns-in-Written
returns-in-Written g t c =
    let held = g.S.TermStore.held c.args.store.now in
    exported held.tree c.copy_tele.result c.args.scope.now _ (tele_of c.in-Written.types.now) c.in-Written.is
    (reverse_context (tele_of c.in-Written.types.now)) c.copy_tele.ensures
