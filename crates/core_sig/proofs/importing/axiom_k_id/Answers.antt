use Rattle.theory.specs.Signatures.{axiom_k_type}
use Rattle.core_sig.proofs.StandingEntries.{axiom_k-stands}
use Rattle.core_sig.proofs.Imports.{axiom_k-gives}
use Rattle.core_sig.proofs.importing.axiom_k_id.Goals as goal

pub returns-clause-id : goal.returns-clause-id
returns-clause-id g c = λ entries.
    axiom_k-stands (g.S.TermStore.held c.import_made.new.store) entries c.args.n c.args.i c.args.m c.in_ok-ty.ty c.with_type.result
    (c.in_ok-ty.ensures.id (axiom_k_type c.args.i c.args.m) (axiom_k-gives c.axiom_k_type.result c.args.i c.args.m c.axiom_k_type.ensures))
    c.with_type.ensures.ty c.with_type.ensures.body c.with_type.ensures.cons
