use Rattle.std.proofs.Common.{ap, ◌∙◌, length, get_or, subst as transport}
use Rattle.theory.specs.Signatures.{FamilyOf, names_of, IsEntryAt}
use Rattle.theory.specs.Prelude.{prelude}
use Rattle.theory.specs.WellFormed.{pushed}
use Rattle.theory.proofs.PreludeWellFormed.{prelude_is_well_formed}
use Rattle.core_sig.specs.Meanings.{family_of}
use Rattle.core_sig.specs.Names.{find}
use Rattle.core_sig.proofs.NewNames.{new-entry}
use Rattle.core_sig.proofs.PreludeEntries.{first_entries-push, prelude-low}
use Rattle.core_sig.proofs.prelude.push_next.Goals as goal

pub push-requires-clause-unknown : goal.push-requires-clause-unknown
push-requires-clause-unknown c = λ k d lt.
    let S = c.args.sig.now in
    let next = transport (λ n. IsEntryAt (prelude S.has_k) n (FamilyOf (family_of c.in_ok-family.family))) c.len.ensures (c.in_ok-family.ensures.ok S.has_k) in
    let new = new-entry (prelude S.has_k) (length S.entries) (FamilyOf (family_of c.in_ok-family.family)) (prelude_is_well_formed S.has_k).distinct next in
    ap (λ old. find old (get_or (names_of (FamilyOf (family_of c.in_ok-family.family))) k d)) c.requires.so_far ∙ new.unknown k d lt

pub push-requires-clause-distinct : goal.push-requires-clause-distinct
push-requires-clause-distinct c =
    let S = c.args.sig.now in
    let next = transport (λ n. IsEntryAt (prelude S.has_k) n (FamilyOf (family_of c.in_ok-family.family))) c.len.ensures (c.in_ok-family.ensures.ok S.has_k) in
    (new-entry (prelude S.has_k) (length S.entries) (FamilyOf (family_of c.in_ok-family.family)) (prelude_is_well_formed S.has_k).distinct next).distinct

pub returns-clause-ok : goal.returns-clause-ok
returns-clause-ok c =
    let S = c.args.sig.now in
    let next = transport (λ n. IsEntryAt (prelude S.has_k) n (FamilyOf (family_of c.in_ok-family.family))) c.len.ensures (c.in_ok-family.ensures.ok S.has_k) in
    c.in_ok-push.ensures.ok
    ∙ (ap (λ old. pushed old (FamilyOf (family_of c.in_ok-family.family))) c.requires.so_far
    ∙ first_entries-push (prelude S.has_k) (length S.entries) (FamilyOf (family_of c.in_ok-family.family)) next)

pub push-requires-clause-kinds : goal.push-requires-clause-kinds
push-requires-clause-kinds c = c.in_ok-family.ensures.kinds (length c.args.sig.now.entries)

pub push-requires-clause-can : goal.push-requires-clause-can
push-requires-clause-can c =
    let S = c.args.sig.now in
    let next = transport (λ n. IsEntryAt (prelude S.has_k) n (FamilyOf (family_of c.in_ok-family.family))) c.len.ensures (c.in_ok-family.ensures.ok S.has_k) in
    prelude-low S.has_k (length S.entries) (length S.entries) (family_of c.in_ok-family.family) next
