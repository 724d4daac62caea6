use Rattle.std.proofs.Common.{ℕ, List, length, ap, sym, ◌∙◌, subst as transport}
use Rattle.std.proofs.lemmas.List.{length-map}
use Rattle.theory.specs.Terms.{Term}
use Rattle.core_terms.specs.Answers.{Gives}
use Rattle.core_terms.specs.Meanings.{tele_of}
use Rattle.core_terms.proofs.Builders.{ok_is}
use Rattle.core_sig.specs.Meanings.{argument_of}
use Rattle.unification.specs.Injecting.{lifted}
use Rattle.problems.proofs.KnownRecords.{count-lifted}
use Rattle.run_terms.specs.CodeInjections.{proofs_after}
use Rattle.run_terms.specs.ComparisonMeanings.{comparison_of}
use Rattle.run_terms.proofs.injections.group_proofs.Goals as goal

pub proofs_after-requires-clause-parameters : goal.proofs_after-requires-clause-parameters
proofs_after-requires-clause-parameters c =
    ap length c.as_slice-3.ensures
    ∙ (count-lifted c.in_ok-count.count c.args.c.now.parameters c.in_ok-ps.ps
    (ok_is c.in_ok-ps.ensures ∙ ap (λ ts. lifted c.in_ok-count.count (tele_of ts)) c.as_slice-2.ensures)
    ∙ c.requires.parameters)

pub returns : goal.returns
returns c =
    let m = c.args.c.now in
    let b = m.left.built in
    let P : ℕ → List Term → Type 0 = λ count ps. Gives tele_of c.proofs_after.result (proofs_after (comparison_of m) count ps) in
    let ps = ap tele_of c.as_slice-3.ensures
    ∙ (ok_is c.in_ok-ps.ensures ∙ ap (λ ts. lifted c.in_ok-count.count (tele_of ts)) c.as_slice-2.ensures) in
    let count = c.in_ok-count.ensures.ok
    ∙ (ap length c.as_slice.ensures ∙ sym (length-map b.con.now.args (argument_of (length b.record.now.params)))) in
    transport (λ k. P k (lifted k (tele_of m.parameters))) count
    (transport (λ ts. P c.in_ok-count.count ts) ps c.proofs_after.ensures)
