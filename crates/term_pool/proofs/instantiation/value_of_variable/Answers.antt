use Rattle.std.proofs.Common.{◌-◌, subst}
use Rattle.term_pool.specs.Held.{AddsParts, IsFullFor, MakesUnder}
use Rattle.term_pool.specs.Instantiation.{beyond_of}
use Rattle.term_pool.proofs.Instancing.{makes-under, value-is, value-beyond}
use Rattle.term_pool.proofs.instantiation.value_of_variable.Goals as goal

pub returns-then-place-values-clause-makes : goal.returns-then-place-values-clause-makes
returns-then-place-values-clause-makes g c = subst (MakesUnder c.args.under (g.S.TermStore.held c.lift_low.new.store) c.lift_low.result) (value-is (beyond_of c.args.beyond) (g.S.TermStore.held c.args.store.now) c.args.values.now c.args.under c.args.n _ c.if-n-under.false c.if-place-values.true c.index-values-values.is) c.lift_low.ensures.makes

pub returns-then-place-values-clause-full : goal.returns-then-place-values-clause-full
returns-then-place-values-clause-full g c = subst (IsFullFor (g.S.TermStore.held c.lift_low.new.store) c.lift_low.result) (value-is (beyond_of c.args.beyond) (g.S.TermStore.held c.args.store.now) c.args.values.now c.args.under c.args.n _ c.if-n-under.false c.if-place-values.true c.index-values-values.is) c.lift_low.ensures.full

pub returns-then-place-values-clause-adds : goal.returns-then-place-values-clause-adds
returns-then-place-values-clause-adds g c = subst (AddsParts (g.S.TermStore.held c.args.store.now) (g.S.TermStore.held c.lift_low.new.store)) (value-is (beyond_of c.args.beyond) (g.S.TermStore.held c.args.store.now) c.args.values.now c.args.under c.args.n _ c.if-n-under.false c.if-place-values.true c.index-values-values.is) c.lift_low.ensures.adds

pub returns-else-place-values-clause-makes : goal.returns-else-place-values-clause-makes
returns-else-place-values-clause-makes g c = subst (MakesUnder c.args.under (g.S.TermStore.held c.variable_beyond.new.store) c.variable_beyond.result) (value-beyond (beyond_of c.args.beyond) (g.S.TermStore.held c.args.store.now) c.args.values.now c.args.under c.args.n c.if-n-under.false c.if-place-values.false) (makes-under c.args.under (g.S.TermStore.held c.variable_beyond.new.store) c.variable_beyond.result _ c.variable_beyond.ensures.makes)

pub returns-else-place-values-clause-full : goal.returns-else-place-values-clause-full
returns-else-place-values-clause-full g c = subst (IsFullFor (g.S.TermStore.held c.variable_beyond.new.store) c.variable_beyond.result) (value-beyond (beyond_of c.args.beyond) (g.S.TermStore.held c.args.store.now) c.args.values.now c.args.under c.args.n c.if-n-under.false c.if-place-values.false) c.variable_beyond.ensures.full

pub returns-else-place-values-clause-adds : goal.returns-else-place-values-clause-adds
returns-else-place-values-clause-adds g c = subst (AddsParts (g.S.TermStore.held c.args.store.now) (g.S.TermStore.held c.variable_beyond.new.store)) (value-beyond (beyond_of c.args.beyond) (g.S.TermStore.held c.args.store.now) c.args.values.now c.args.under c.args.n c.if-n-under.false c.if-place-values.false) c.variable_beyond.ensures.adds
