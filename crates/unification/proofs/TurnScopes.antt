-- Each turn of a scoped state is scoped.
use Rattle.unification.specs.Laws.{TurnScoped}
use Rattle.unification.specs.ScopedStates.{IsScopedTurn}
use Rattle.unification.proofs.TurnLaws.{turn-has}

pub turn-scoped : TurnScoped
turn-scoped S s left ready scoped = turn-has S s left (IsScopedTurn S s) (λ turn rest is. (is.right ready scoped).good.0)
