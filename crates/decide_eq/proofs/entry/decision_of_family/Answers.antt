use Rattle.std.proofs.Common.{◌≡◌, map, ap, ◌∙◌, subst, rules}
use Rattle.std.proofs.lemmas.Bool.{false≢true}
use Rattle.std.specs.Bool.{IsTrue}
use Rattle.core_terms.specs.Meanings.{tele_of, tree_of}
use Rattle.core_terms.proofs.Builders.{ok_is}
use Rattle.core_sig.specs.Shapes.{shape_of}
use Rattle.generators.proofs.noconf_gen.Entries.{draft-same}
use Rattle.decide_eq.specs.Comparisons.{confusions_of}
use Rattle.decide_eq.specs.DecisionEntries.{decided_family, decision_term, names_for}
use Rattle.decide_eq.specs.Statements.{decision_type}
use Rattle.decide_eq.proofs.TooHigh.{decision-deep}
use Rattle.decide_eq.proofs.entry.decision_of_family.Goals as goal

pub returns-then-not-fits_decision : goal.returns-then-not-fits_decision
returns-then-not-fits_decision c foreseen =
    decision-deep c.args.base c.args.name.now c.args.f.now.name (map (λ c. c.name) c.args.f.now.cons) c.args.fam (shape_of c.args.f.now) c.args.dec c.args.known.now
    (λ fits. let yes = subst IsTrue c.if-not-fits_decision.true (c.fits_decision.ensures.1 fits) in absurd (false≢true yes))

pub returns : goal.returns
returns c =
    let f = c.args.f.now in
    let shape = shape_of f in
    let known = c.args.known.now in
    let d = decided_family c.args.base c.args.fam shape c.args.dec in
    let same = c.decided_family-d.ensures.is in
    let type : tree_of c.in_ok-ty.ty ≡ decision_type d shape.parameters =
    ok_is c.in_ok-ty.ensures ∙ (ap (λ x. decision_type x (tele_of c.as_slice.result.now)) same ∙ ap (λ x. decision_type d (tele_of x)) c.as_slice.ensures) in
    let term : tree_of c.in_ok-body.body ≡ decision_term d (confusions_of d) known shape =
    ok_is c.in_ok-body.ensures ∙ ap (λ x. decision_term x (confusions_of x) known shape) same in
    draft-same c.drafted.result _ c.args.name.now c.args.base _ (names_for f.name (map (λ c. c.name) f.cons) shape) _ (decision_type d shape.parameters) _ (decision_term d (confusions_of d) known shape)
    (search rules) (search rules) type term c.drafted.ensures
