use Rattle.theory.proofs.WithoutAxiomK.{no_axiom_k_entry}
use Rattle.theory.proofs.axiom_k_laws.no_axiom_k_entry.Goals as goal

pub returns : goal.returns
returns c = no_axiom_k_entry
