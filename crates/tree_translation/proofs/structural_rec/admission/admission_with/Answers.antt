use Rattle.std.proofs.lemmas.List.{take-map}
use Rattle.std.proofs.Common.{Ok, option_map, length, sym, ap, ◌∙◌, ◌+◌, subst}
use Rattle.core_terms.specs.Answers.{Gives}
use Rattle.core_terms.specs.Meanings.{tree_of, tele_of}
use Rattle.tele_eq.specs.Items.{AreSmallTerms}
use Rattle.tree_translation.specs.structural_rec.Meanings.{admission_of}
use Rattle.tree_translation.proofs.structural_rec.Admissions.{admission-split}
use Rattle.tree_translation.proofs.structural_rec.SmallTerms.{small-take}
use Rattle.tree_translation.proofs.structural_rec.admission.admission_with.Goals as goal

pub admission_at-requires-clause-params : goal.admission_at-requires-clause-params
admission_at-requires-clause-params c =
    subst AreSmallTerms (take-map tree_of (length c.as_slice-count.result.now) c.args.spine.now)
    (small-take (length c.as_slice-count.result.now) (tele_of c.args.spine.now) c.requires.spine)

pub returns : goal.returns
returns c =
    let counted = c.if-spine-count.false ∙ ap (λ x. length c.as_slice-count.result.now + length x) c.as_slice-indices.ensures in
    let split = admission-split (tele_of c.args.tele.now) c.args.j c.args.n (length c.as_slice-count.result.now) c.args.spine.now c.args.f.now (ap length c.as_slice-count.ensures) counted in
    subst (λ m. Gives (option_map admission_of) c.admission_at.result (Ok m)) (sym split) c.admission_at.ensures
