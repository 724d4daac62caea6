use Rattle.std.proofs.Common.{◌≡◌, ◌≢◌, None, length, All, AllPairs, true, sym, subst as transport}
use Rattle.theory.specs.Signatures.{FamilyOf, names_of}
use Rattle.core_sig.specs.EntryIds.{AreLowBehind}
use Rattle.core_sig.specs.Kinds.{HasKinds}
use Rattle.core_sig.specs.Meanings.{family_of}
use Rattle.core_sig.specs.Names.{find}
use Rattle.core_sig.specs.Raw.{raw_names, raw_of}
use Rattle.family_check.specs.Entering.{are_new}
use Rattle.family_check.proofs.Declaring.{distinct-names, family-names, unknown-names}
use Rattle.family_check.proofs.LowEntries.{declared-low}
use Rattle.family_check.proofs.families.enter_family.Goals as goal

pub push-requires-clause-unknown : goal.push-requires-clause-unknown
push-requires-clause-unknown c =
    let raw = raw_of c.args.raw in
    let new : are_new c.args.sig.now (raw_names raw) ≡ true = cc (c.in_ok-are_new.ensures, c.if-not-branch.false) in
    let names = family-names c.args.sig.now raw (family_of c.in_ok-family.family) _ _ c.in_ok-family.ensures.answer in
    transport (λ T. All (λ n. find T n ≡ None) (names_of (FamilyOf (family_of c.in_ok-family.family)))) (sym c.in_ok-family.ensures.kept)
    (transport (All (λ n. find c.args.sig.now n ≡ None)) (sym names) (unknown-names c.args.sig.now (raw_names raw) new))

pub push-requires-clause-distinct : goal.push-requires-clause-distinct
push-requires-clause-distinct c =
    let raw = raw_of c.args.raw in
    let new : are_new c.args.sig.now (raw_names raw) ≡ true = cc (c.in_ok-are_new.ensures, c.if-not-branch.false) in
    let names = family-names c.args.sig.now raw (family_of c.in_ok-family.family) _ _ c.in_ok-family.ensures.answer in
    transport (AllPairs (λ x y. x ≢ y)) (sym names) (distinct-names c.args.sig.now (raw_names raw) new)

pub push-requires-clause-kinds : goal.push-requires-clause-kinds
push-requires-clause-kinds c =
    transport (λ T. HasKinds (length T.entries) c.in_ok-family.family) (sym c.in_ok-family.ensures.kept) c.in_ok-family.ensures.kinds

pub push-requires-clause-can : goal.push-requires-clause-can
push-requires-clause-can c =
    let raw = raw_of c.args.raw in
    transport (λ T. AreLowBehind (length T.entries) (family_of c.in_ok-family.family)) (sym c.in_ok-family.ensures.kept)
    (declared-low c.args.sig.now raw (family_of c.in_ok-family.family) _ _ c.in_ok-family.ensures.answer)
