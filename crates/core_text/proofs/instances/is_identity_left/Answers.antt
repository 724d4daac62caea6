use Rattle.core_text.proofs.LevelLists.{identity-below, identity-above}
use Rattle.core_text.proofs.instances.is_identity_left.Goals as goal

pub returns-then-number-lt-TOP : goal.returns-then-number-lt-TOP
returns-then-number-lt-TOP c =
    identity-below c.args.sig.now c.args.number c.some_level_left.result c.if-number-lt-TOP.true c.some_level_left.ensures

pub returns-else-number-lt-TOP : goal.returns-else-number-lt-TOP
returns-else-number-lt-TOP c = identity-above c.args.sig.now c.args.number c.if-number-lt-TOP.false
