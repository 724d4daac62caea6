use Rattle.theory.specs.Signatures.{IsPrefix}
use Rattle.theory.specs.WellFormed.{IsWellFormed}
use Rattle.core_terms.specs.Meanings.{tree_of}
use Rattle.family_check.specs.Scopes.{IsSettled}
use Rattle.family_check.proofs.CallOutcomes.{signature_left-has, refusal-scoped}
use Rattle.theory.proofs.Pushing.{prefix_reflexive}
use Rattle.family_check.proofs.Extending.{define-extends}
use Rattle.family_check.proofs.ScopedEntering.{define-settles}
use Rattle.family_check.proofs.Soundness.{define-keeps}
use Rattle.family_check.proofs.definitions.define.Goals as goal

pub returns-clause-longer : goal.returns-clause-longer
returns-clause-longer c =
    signature_left-has (IsPrefix c.args.sig.now) _ _ _ _ _ c.enter_definition.ensures.answer c.enter_definition.ensures.err
    (define-extends c.args.sig.now c.args.name (tree_of c.args.ty) (tree_of c.args.body) c.args.units.now.left) (prefix_reflexive c.args.sig.now)

pub returns-clause-well_formed : goal.returns-clause-well_formed
returns-clause-well_formed c = λ h.
    signature_left-has IsWellFormed _ _ _ _ _ c.enter_definition.ensures.answer c.enter_definition.ensures.err
    (define-keeps c.args.sig.now c.args.name (tree_of c.args.ty) (tree_of c.args.body) c.args.units.now.left h) h

pub returns-clause-settled : goal.returns-clause-settled
returns-clause-settled c =
    signature_left-has IsSettled _ _ _ _ _ c.enter_definition.ensures.answer c.enter_definition.ensures.err
    (define-settles c.args.sig.now c.args.name (tree_of c.args.ty) (tree_of c.args.body) c.args.units.now.left c.requires.signature c.requires.ty c.requires.body).0
    c.requires.signature

pub returns-clause-denied : goal.returns-clause-denied
returns-clause-denied c =
    refusal-scoped _ _ _ _ _ c.enter_definition.ensures.answer
    (define-settles c.args.sig.now c.args.name (tree_of c.args.ty) (tree_of c.args.body) c.args.units.now.left c.requires.signature c.requires.ty c.requires.body).1
