use Rattle.std.proofs.Common.{◌≡◌, List, length, ap, sym, ◌∙◌, subst as transport}
use Rattle.std.proofs.lemmas.List.{length-map}
use Rattle.std.proofs.lemmas.Result.{IfOk-weaker}
use Rattle.theory.specs.Terms.{Term}
use Rattle.core_terms.specs.Answers.{IsUnforeseen}
use Rattle.core_terms.specs.Meanings.{tree_of, tele_of}
use Rattle.core_terms.proofs.Answers.{stands-has}
use Rattle.with_abstraction.specs.Conditions.{AreLow}
use Rattle.with_abstraction.proofs.Widths.{opened-count, opened-low_made}
use Rattle.with_abstraction.proofs.opening.opened_types.Goals as goal

pub returns-clause-low : goal.returns-clause-low
returns-clause-low c =
    let P : List _ → Type 0 = λ terms. AreLow (tele_of terms) in
    stands-has IsUnforeseen (λ e. e) tele_of AreLow c.opened.result _ c.opened.ensures
    (opened-low_made (tree_of c.args.t.now) c.as_slice-2.result.now c.new.result (tele_of c.as_slice-3.result.now) c.new.ensures
    (transport P (sym c.as_slice-3.ensures) c.in_ok-all.ensures.low))

pub returns-clause-count : goal.returns-clause-count
returns-clause-count c =
    let P : List Term → Type 0 = λ terms. length terms ≡ length c.args.types.now in
    let Q : List _ → Type 0 = λ terms. length (tele_of terms) ≡ length c.args.types.now in
    IfOk-weaker c.opened.result Q (λ v. length v ≡ length c.args.types.now) (λ v h. sym (length-map v tree_of) ∙ h)
    (stands-has IsUnforeseen (λ e. e) tele_of P c.opened.result _ c.opened.ensures
    (opened-count (tree_of c.args.t.now) c.as_slice-2.result.now c.new.result c.as_slice-3.result.now (length c.args.types.now) c.new.ensures
    (ap length c.as_slice-3.ensures ∙ c.in_ok-all.ensures.count)))
