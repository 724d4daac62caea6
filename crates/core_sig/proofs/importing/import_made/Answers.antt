use Rattle.std.proofs.Common.{IfOk, subst}
use Rattle.core_terms.specs.Answers.{Gives, bounded}
use Rattle.core_terms.specs.Meanings.{tree_of}
use Rattle.core_sig.specs.EntryIds.{IsIdWhereLow}
use Rattle.core_sig.proofs.Imports.{bounded-is, none-made}
use Rattle.core_sig.proofs.importing.import_made.Goals as goal

pub returns-in-Ok-clause-id : goal.returns-in-Ok-clause-id
returns-in-Ok-clause-id g c = λ u gives.
    subst (λ v. IfOk c.import_where_low.result (λ id. IsIdWhereLow (g.S.TermStore.held c.import_where_low.new.store) id v))
    (bounded-is u (tree_of c.in-Ok.t) (subst (λ r. Gives tree_of r (bounded u)) c.in-Ok.is gives))
    c.import_where_low.ensures.id

pub returns-in-Err-clause-id : goal.returns-in-Err-clause-id
returns-in-Err-clause-id g c = λ u gives.
    none-made (g.S.TermStore.held c.args.store.now) c.no_id.result c.in-Err.e u c.no_id.ensures.none (subst (λ r. Gives tree_of r (bounded u)) c.in-Err.is gives)
