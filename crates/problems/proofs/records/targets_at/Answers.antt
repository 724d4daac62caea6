use Rattle.std.proofs.Common.{◌≡◌, ◌≤◌, ◌++◌, List, All, length, map, ap, ap₂, sym, ◌∙◌, subst as transport}
use Rattle.theory.specs.Eliminators.{no_variable}
use Rattle.theory.specs.Substitutions.{fill, inst}
use Rattle.theory.specs.Telescopes.{variables}
use Rattle.theory.specs.Terms.{Term, free_of}
use Rattle.core_terms.specs.Answers.{Gives, bounded_terms}
use Rattle.core_terms.specs.Meanings.{tele_of}
use Rattle.core_terms.proofs.Builders.{ok_is}
use Rattle.unification.specs.Injecting.{lifted}
use Rattle.problems.proofs.RecordSizes.{values-few}
use Rattle.problems.proofs.records.targets_at.Goals as goal

pub inst_terms-requires : goal.inst_terms-requires
inst_terms-requires c =
    let values : tele_of c.as_slice-2.result.now ≡ lifted (length c.as_slice.result.now) (tele_of c.args.ps.now) ++ variables (length c.as_slice.result.now) =
    ap tele_of c.as_slice-2.ensures
    ∙ (ok_is c.in_ok-values.ensures ∙ ap (λ ts. ts ++ variables (length c.as_slice.result.now)) (ok_is c.in_ok-lifted.ensures)) in
    transport (All (λ t. free_of t ≤ 3221225472))
    (sym (values ∙ ap (λ args. lifted (length args) (tele_of c.args.ps.now) ++ variables (length args)) c.as_slice.ensures))
    (values-few (length c.args.con.now.args) (tele_of c.args.ps.now) c.requires.ps c.requires.few)

pub returns : goal.returns
returns c =
    let values : tele_of c.as_slice-2.result.now ≡ lifted (length c.as_slice.result.now) (tele_of c.args.ps.now) ++ variables (length c.as_slice.result.now) =
    ap tele_of c.as_slice-2.ensures
    ∙ (ok_is c.in_ok-values.ensures ∙ ap (λ ts. ts ++ variables (length c.as_slice.result.now)) (ok_is c.in_ok-lifted.ensures)) in
    let P : List Term → Type 0 = λ ts. Gives tele_of c.inst_terms.result (bounded_terms ts) in
    transport P
    (ap₂ (λ values targets. map (inst (fill no_variable values)) (tele_of targets))
    (values ∙ ap (λ args. lifted (length args) (tele_of c.args.ps.now) ++ variables (length args)) c.as_slice.ensures) c.as_slice-3.ensures)
    c.inst_terms.ensures
