use Rattle.std.proofs.Common.{◌≡◌, List, length, sym, ◌∙◌, refl}
use Rattle.std.proofs.lemmas.List.{length-map}
use Rattle.std.proofs.lemmas.Result.{IfOk-weaker}
use Rattle.theory.specs.Terms.{Term}
use Rattle.core_terms.specs.Answers.{IsUnforeseen}
use Rattle.core_terms.specs.Meanings.{tree_of, tele_of}
use Rattle.core_terms.proofs.Answers.{stands-has}
use Rattle.with_abstraction.specs.Conditions.{AreOver, AreLow}
use Rattle.with_abstraction.proofs.Widths.{is-wide_made}
use Rattle.with_abstraction.proofs.opening.all_widened.Goals as goal

pub returns-clause-over : goal.returns-clause-over
returns-clause-over c =
    stands-has IsUnforeseen (λ e. e) tele_of (AreOver 2147483648) c.widened.result _ c.widened.ensures
    (is-wide_made _ c.args.types.now c.new.result refl c.requires.types c.requires.few c.new.ensures).over

pub returns-clause-low : goal.returns-clause-low
returns-clause-low c =
    stands-has IsUnforeseen (λ e. e) tele_of AreLow c.widened.result _ c.widened.ensures
    (is-wide_made _ c.args.types.now c.new.result refl c.requires.types c.requires.few c.new.ensures).low

pub returns-clause-count : goal.returns-clause-count
returns-clause-count c =
    let P : List Term → Type 0 = λ terms. length terms ≡ length c.args.types.now in
    let Q : List _ → Type 0 = λ terms. length (tele_of terms) ≡ length c.args.types.now in
    IfOk-weaker c.widened.result Q (λ v. length v ≡ length c.args.types.now) (λ v h. sym (length-map v tree_of) ∙ h)
    (stands-has IsUnforeseen (λ e. e) tele_of P c.widened.result _ c.widened.ensures
    ((is-wide_made _ c.args.types.now c.new.result refl c.requires.types c.requires.few c.new.ensures).count ∙ length-map c.args.types.now tree_of))
