use Rattle.std.proofs.Common.{◌≤◌, ℕ, Result, Ok, Err, length, sym, subst}
use Rattle.std.specs.Prelude.{IfOk}
use Rattle.theory.specs.Terms.{Term, height}
use Rattle.theory.specs.Signatures.{Entry}
use Rattle.theory.specs.SignatureScopes.{IsScoped}
use Rattle.core_terms.specs.Answers.{Gives}
use Rattle.core_terms.specs.declared.stop.Stop.{Stop}
use Rattle.core_sig.specs.DraftScopes.{IsDraftTerm}
use Rattle.core_sig.specs.EntryTerms.{EachTerm}
use Rattle.core_sig.specs.Meanings.{entry_of}
use Rattle.core_sig.specs.Settling.{settled_number}
use Rattle.core_sig.specs.declared.entry.Entry.{Entry as CodeEntry}
use Rattle.core_sig.proofs.DraftTerms.{each-renumbered, height-renumbered, settled-scoped}
use Rattle.core_terms.proofs.Builders.{ok_is}
use Rattle.core_sig.proofs.settling.settle.Goals as goal

-- a property of the meant entry is one of the answer
answered : (P : Entry → Type 0) (r : Result CodeEntry Stop) (meant : Entry) → Gives entry_of r (Ok meant) → P meant → IfOk r (λ e. P (entry_of e))
answered P (Ok e) meant is holds = subst P (sym (ok_is is)) holds
answered P (Err s) meant is holds = tt

pub returns-clause-scoped : goal.returns-clause-scoped
returns-clause-scoped c = λ T named each.
    let r = settled_number c.args.sig.now c.args.draft.now.base c.args.draft.now.names in
    let count = length c.args.draft.now.names in
    answered (EachTerm (IsScoped T)) c.settle_entry.result _ c.settle_entry.ensures.answer
    (each-renumbered r (IsDraftTerm T c.args.draft.now.base count) (IsScoped T)
    (λ n t is. settled-scoped c.args.sig.now T c.args.draft.now.base c.args.draft.now.names n t named is) _ each)

pub returns-clause-height : goal.returns-clause-height
returns-clause-height c = λ h each.
    let r = settled_number c.args.sig.now c.args.draft.now.base c.args.draft.now.names in
    let low : ℕ → Term → Type 0 = λ n t. height t ≤ h in
    answered (EachTerm low) c.settle_entry.result _ c.settle_entry.ensures.answer
    (each-renumbered r low low (λ n t is. subst (λ k. k ≤ h) (sym (height-renumbered r t)) is) _ each)
