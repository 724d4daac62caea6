use Rattle.theory.specs.Signatures.{IsPrefix}
use Rattle.theory.specs.WellFormed.{IsWellFormed}
use Rattle.core_terms.proofs.Answers.{spends-has}
use Rattle.core_sig.specs.Raw.{raw_of}
use Rattle.family_check.specs.Entering.{entered_at}
use Rattle.family_check.specs.Laws.{EntersAsDeclared}
use Rattle.family_check.specs.Meanings.{IsUnforeseen, stop_of}
use Rattle.family_check.specs.Scopes.{IsSettled}
use Rattle.family_check.proofs.CallOutcomes.{signature_left-has, refusal-scoped}
use Rattle.theory.proofs.Pushing.{prefix_reflexive}
use Rattle.family_check.proofs.Extending.{declare-extends}
use Rattle.family_check.proofs.AsDeclared.{declare-gives}
use Rattle.family_check.proofs.ScopedEntering.{declare-settles}
use Rattle.family_check.proofs.Soundness.{declare-keeps}
use Rattle.family_check.proofs.families.declare.Goals as goal

pub returns-clause-given : goal.returns-clause-given
returns-clause-given c =
    spends-has IsUnforeseen stop_of (entered_at _) (EntersAsDeclared c.args.sig.now (raw_of c.args.raw)) _ _ _ c.enter_family.ensures.answer
    (declare-gives c.args.sig.now (raw_of c.args.raw) c.args.units.now.left)

pub returns-clause-longer : goal.returns-clause-longer
returns-clause-longer c =
    signature_left-has (IsPrefix c.args.sig.now) _ _ _ _ _ c.enter_family.ensures.answer c.enter_family.ensures.err
    (declare-extends c.args.sig.now (raw_of c.args.raw) c.args.units.now.left) (prefix_reflexive c.args.sig.now)

pub returns-clause-well_formed : goal.returns-clause-well_formed
returns-clause-well_formed c = λ h.
    signature_left-has IsWellFormed _ _ _ _ _ c.enter_family.ensures.answer c.enter_family.ensures.err
    (declare-keeps c.args.sig.now (raw_of c.args.raw) c.args.units.now.left h) h

pub returns-clause-settled : goal.returns-clause-settled
returns-clause-settled c =
    signature_left-has IsSettled _ _ _ _ _ c.enter_family.ensures.answer c.enter_family.ensures.err
    (declare-settles c.args.sig.now (raw_of c.args.raw) c.args.units.now.left c.requires.signature c.requires.raw).0
    c.requires.signature

pub returns-clause-denied : goal.returns-clause-denied
returns-clause-denied c =
    refusal-scoped _ _ _ _ _ c.enter_family.ensures.answer
    (declare-settles c.args.sig.now (raw_of c.args.raw) c.args.units.now.left c.requires.signature c.requires.raw).1
