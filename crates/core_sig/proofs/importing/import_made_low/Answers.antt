use Rattle.std.proofs.Common.{Err, IfOk, ap, subst}
use Rattle.core_terms.specs.Answers.{Gives, bounded}
use Rattle.core_terms.specs.Meanings.{tree_of}
use Rattle.core_sig.specs.EntryIds.{IsIdOf}
use Rattle.core_sig.proofs.Imports.{bounded-is, low-made, refused-made}
use Rattle.core_sig.proofs.importing.import_made_low.Goals as goal

pub import_low-requires : goal.import_low-requires
import_low-requires g c =
    let t = c.requires.0 in
    low-made t (tree_of c.in-Ok.t) c.requires.2 (subst (λ r. Gives tree_of r (bounded t)) c.in-Ok.is c.requires.1)

pub returns-in-Ok-clause-id : goal.returns-in-Ok-clause-id
returns-in-Ok-clause-id g c = λ u gives.
    subst (λ v. IfOk c.import_low.result (λ id. IsIdOf (g.S.TermStore.held c.import_low.new.store) id v))
    (bounded-is u (tree_of c.in-Ok.t) (subst (λ r. Gives tree_of r (bounded u)) c.in-Ok.is gives))
    c.import_low.ensures.id

pub returns-in-Err-clause-memory : goal.returns-in-Err-clause-memory
returns-in-Err-clause-memory g c =
    let t = c.requires.0 in
    ap Err (refused-made c.in-Err.e t c.requires.2 (subst (λ r. Gives tree_of r (bounded t)) c.in-Err.is c.requires.1))
