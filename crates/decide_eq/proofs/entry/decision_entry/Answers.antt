use Rattle.std.proofs.Common.{sym, ◌∙◌, arith}
use Rattle.core_sig.specs.Meanings.{family_of}
use Rattle.core_sig.proofs.ScopedDrafts.{answer-scoped}
use Rattle.decide_eq.proofs.Entries.{entry-is, same-family}
use Rattle.kernel_reduce.proofs.LookUps.{family-found}
use Rattle.decide_eq.proofs.PlainShapes.{at-family, plain-level}
use Rattle.decide_eq.proofs.ScopedDecisions.{decision-scoped}
use Rattle.decide_eq.proofs.entry.decision_entry.Goals as goal

pub decision_of_family-requires : goal.decision_of_family-requires
decision_of_family-requires c =
    let low = plain-level c.args.sig.now c.args.fam c.args.dec c.args.known.now (family_of c.in-Some.f.now) (sym c.in-Some.ensures.family) c.requires in
    omega arith

pub returns-clause-answer : goal.returns-clause-answer
returns-clause-answer c = λ f at.
    let found = c.in-Some.ensures.family ∙ at-family c.args.sig.now c.args.fam f at in
    entry-is c.decision_of_family.result c.len.result _ c.args.name.now c.args.fam c.args.dec c.as_slice.result.now c.args.known.now f c.in-Some.f.now c.in-Some.ensures.kinds c.len.ensures c.as_slice.ensures
    (same-family f c.in-Some.f.now found) c.decision_of_family.ensures

pub returns-clause-scoped : goal.returns-clause-scoped
returns-clause-scoped c = λ T scoped first decided longer.
    let S = c.args.sig.now in
    let f = family_of c.in-Some.f.now in
    let at = family-found S c.args.fam f (sym c.in-Some.ensures.family) in
    answer-scoped T c.decision_of_family.result _ (returns-clause-answer c f at)
    (decision-scoped S T c.args.name.now c.args.fam f c.args.dec c.args.known.now scoped first at c.requires decided longer)
