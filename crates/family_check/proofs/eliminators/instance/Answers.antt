use Rattle.theory.specs.Signatures.{IsPrefix}
use Rattle.theory.specs.WellFormed.{IsWellFormed}
use Rattle.family_check.specs.Scopes.{IsSettled}
use Rattle.family_check.proofs.CallOutcomes.{signature_left-has, refusal-scoped}
use Rattle.theory.proofs.Pushing.{prefix_reflexive}
use Rattle.family_check.proofs.Extending.{instance-extends}
use Rattle.family_check.proofs.ScopedEntering.{instance-settles}
use Rattle.family_check.proofs.Soundness.{instance-keeps}
use Rattle.family_check.proofs.eliminators.instance.Goals as goal

pub returns-clause-longer : goal.returns-clause-longer
returns-clause-longer c =
    let f = c.requires.family.0 in
    let at = c.requires.family.1 in
    signature_left-has (IsPrefix c.args.sig.now) _ _ _ _ _ (c.find_or_enter_eliminator.ensures.answer f at) c.find_or_enter_eliminator.ensures.err
    (instance-extends c.args.sig.now c.args.fam f c.args.m c.args.units.now.left) (prefix_reflexive c.args.sig.now)

pub returns-clause-well_formed : goal.returns-clause-well_formed
returns-clause-well_formed c = λ h.
    let f = c.requires.family.0 in
    let at = c.requires.family.1 in
    signature_left-has IsWellFormed _ _ _ _ _ (c.find_or_enter_eliminator.ensures.answer f at) c.find_or_enter_eliminator.ensures.err
    (instance-keeps c.args.sig.now c.args.fam f c.args.m c.args.units.now.left h at) h

pub returns-clause-settled : goal.returns-clause-settled
returns-clause-settled c =
    let f = c.requires.family.0 in
    let at = c.requires.family.1 in
    signature_left-has IsSettled _ _ _ _ _ (c.find_or_enter_eliminator.ensures.answer f at) c.find_or_enter_eliminator.ensures.err
    (instance-settles c.args.sig.now c.args.fam f c.args.m c.args.units.now.left c.requires.signature at).0 c.requires.signature

pub returns-clause-denied : goal.returns-clause-denied
returns-clause-denied c =
    let f = c.requires.family.0 in
    let at = c.requires.family.1 in
    refusal-scoped _ _ _ _ _ (c.find_or_enter_eliminator.ensures.answer f at)
    (instance-settles c.args.sig.now c.args.fam f c.args.m c.args.units.now.left c.requires.signature at).1
