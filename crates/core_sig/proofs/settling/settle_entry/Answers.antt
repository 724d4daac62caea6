use Rattle.std.proofs.Common.{Ok, ap, sym, ◌∙◌, subst}
use Rattle.theory.specs.Signatures.{FamilyOf}
use Rattle.core_sig.specs.Kinds.{HasEntryKinds}
use Rattle.core_sig.specs.Meanings.{entry_of}
use Rattle.core_sig.specs.Settling.{settled_number, renumbered_entry}
use Rattle.core_sig.proofs.SettledFamilies.{family-renumbered, kinds-renumbered}
use Rattle.core_terms.proofs.Builders.{ok_is}
use Rattle.core_sig.proofs.settling.settle_entry.Goals as goal

pub returns-in_ok-settle_family-in-Family-clause-answer : goal.returns-in_ok-settle_family-in-Family-clause-answer
returns-in_ok-settle_family-in-Family-clause-answer c =
    let r = settled_number c.args.sig.now c.args.draft.now.base c.args.draft.now.names in
    ap (λ f. Ok (FamilyOf f)) (family-renumbered r c.in-Family.family c.in_ok-settle_family-in-Family.field-0 (ok_is c.in_ok-settle_family-in-Family.ensures))
    ∙ ap (λ e. Ok (renumbered_entry r (entry_of e))) (sym c.in-Family.is)

pub returns-in_ok-settle_family-in-Family-clause-kinds : goal.returns-in_ok-settle_family-in-Family-clause-kinds
returns-in_ok-settle_family-in-Family-clause-kinds c = λ n kinds.
    let r = settled_number c.args.sig.now c.args.draft.now.base c.args.draft.now.names in
    kinds-renumbered r n c.in-Family.family c.in_ok-settle_family-in-Family.field-0 (ok_is c.in_ok-settle_family-in-Family.ensures)
    (subst (HasEntryKinds n) c.in-Family.is kinds)
