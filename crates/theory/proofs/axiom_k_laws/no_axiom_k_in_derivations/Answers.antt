use Rattle.theory.proofs.WithoutAxiomK.{no_axiom_k_in_derivations}
use Rattle.theory.proofs.axiom_k_laws.no_axiom_k_in_derivations.Goals as goal

pub returns : goal.returns
returns c = no_axiom_k_in_derivations
