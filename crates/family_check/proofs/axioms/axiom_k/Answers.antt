use Rattle.theory.specs.Signatures.{IsPrefix}
use Rattle.theory.specs.WellFormed.{IsWellFormed}
use Rattle.family_check.specs.Scopes.{IsSettled}
use Rattle.family_check.proofs.CallOutcomes.{signature_left-has, refusal-scoped}
use Rattle.theory.proofs.Pushing.{prefix_reflexive}
use Rattle.family_check.proofs.Extending.{axiom_k-extends}
use Rattle.family_check.proofs.PreludeEntries.{equality-there}
use Rattle.family_check.proofs.ScopedEntering.{axiom_k-settles}
use Rattle.family_check.proofs.Soundness.{axiom_k-keeps}
use Rattle.family_check.proofs.axioms.axiom_k.Goals as goal

pub returns-clause-longer : goal.returns-clause-longer
returns-clause-longer c =
    signature_left-has (IsPrefix c.args.sig.now) _ _ _ _ _ c.find_or_enter_axiom_k.ensures.answer c.find_or_enter_axiom_k.ensures.err
    (axiom_k-extends c.args.sig.now c.args.i c.args.m c.args.units.now.left) (prefix_reflexive c.args.sig.now)

pub returns-clause-well_formed : goal.returns-clause-well_formed
returns-clause-well_formed c = λ h.
    signature_left-has IsWellFormed _ _ _ _ _ c.find_or_enter_axiom_k.ensures.answer c.find_or_enter_axiom_k.ensures.err
    (axiom_k-keeps c.args.sig.now c.args.i c.args.m c.args.units.now.left h c.requires.on c.requires.prelude) h

pub returns-clause-settled : goal.returns-clause-settled
returns-clause-settled c =
    signature_left-has IsSettled _ _ _ _ _ c.find_or_enter_axiom_k.ensures.answer c.find_or_enter_axiom_k.ensures.err
    (axiom_k-settles c.args.sig.now c.args.i c.args.m c.args.units.now.left c.requires.signature (equality-there c.args.sig.now c.args.i c.requires.prelude)).0 c.requires.signature

pub returns-clause-denied : goal.returns-clause-denied
returns-clause-denied c =
    refusal-scoped _ _ _ _ _ c.find_or_enter_axiom_k.ensures.answer
    (axiom_k-settles c.args.sig.now c.args.i c.args.m c.args.units.now.left c.requires.signature (equality-there c.args.sig.now c.args.i c.requires.prelude)).1
