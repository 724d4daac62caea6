use Rattle.std.proofs.Common.{◌≡◌, length, map, sym, ap, ap₂, ◌∙◌, subst as transport}
use Rattle.theory.specs.Signatures.{FamilyOf}
use Rattle.theory.specs.WellFormed.{pushed, first_entries}
use Rattle.core_terms.specs.Meanings.{tree_of, tele_of}
use Rattle.core_sig.specs.Meanings.{constructor_of, family_of}
use Rattle.core_sig.specs.Raw.{raw_constructor_of}
use Rattle.kernel_reduce.specs.WellScoped.{AreWellScoped}
use Rattle.family_check.specs.Families.{declare_constructors}
use Rattle.family_check.specs.Meanings.{Yields}
use Rattle.family_check.proofs.Declaring.{given_family, bare-unknown, bare-distinct, bare-kinds}
use Rattle.family_check.proofs.LowEntries.{bare-low}
use Rattle.family_check.proofs.Settling.{first-all}
use Rattle.family_check.proofs.families.over_bare.Goals as goal

pub push-requires-clause-unknown : goal.push-requires-clause-unknown
push-requires-clause-unknown c =
    bare-unknown c.args.sig.now c.args.bare.now c.in_ok-copy_bare.field-0 (given_family _ _ c.in_ok-copy_bare.ensures.meant) c.requires.bare c.requires.unknown

pub push-requires-clause-distinct : goal.push-requires-clause-distinct
push-requires-clause-distinct c =
    bare-distinct c.args.bare.now c.in_ok-copy_bare.field-0 (given_family _ _ c.in_ok-copy_bare.ensures.meant) c.requires.bare

pub push-requires-clause-kinds : goal.push-requires-clause-kinds
push-requires-clause-kinds c = bare-kinds (length c.args.sig.now.entries) c.in_ok-copy_bare.field-0 c.in_ok-copy_bare.ensures.bare

pub push-requires-clause-can : goal.push-requires-clause-can
push-requires-clause-can c =
    bare-low (length c.args.sig.now.entries) c.args.bare.now c.in_ok-copy_bare.field-0 (given_family _ _ c.in_ok-copy_bare.ensures.meant) c.requires.bare

pub declare_constructors-made-requires-clause-asked : goal.declare_constructors-made-requires-clause-asked
declare_constructors-made-requires-clause-asked c =
    let S = c.args.sig.now in
    let f = family_of c.args.bare.now in
    let same : pushed S (FamilyOf f) ≡ c.push.new.self =
    sym (c.in_ok-number.ensures.ok ∙ ap (λ g. pushed S (FamilyOf g)) (given_family _ _ c.in_ok-copy_bare.ensures.meant)) in
    transport (λ T. AreWellScoped T (tele_of c.args.bare.now.params) (map (λ k. tree_of k.ty) c.args.raws.items)) same c.requires.asked

pub returns-clause-answer : goal.returns-clause-answer
returns-clause-answer c =
    let S = c.args.sig.now in
    let f = family_of c.args.bare.now in
    let same : c.push.new.self ≡ pushed S (FamilyOf f) =
    c.in_ok-number.ensures.ok ∙ ap (λ g. pushed S (FamilyOf g)) (given_family _ _ c.in_ok-copy_bare.ensures.meant) in
    transport (λ n. Yields (map (constructor_of (length c.args.bare.now.params))) c.declare_constructors-made.result c.declare_constructors-made.new.units.left (declare_constructors (pushed S (FamilyOf f)) n f 0 (map raw_constructor_of c.args.raws.items) c.args.units.now.left)) c.in_ok-number.ensures.number
    (transport (λ T. Yields (map (constructor_of (length c.args.bare.now.params))) c.declare_constructors-made.result c.declare_constructors-made.new.units.left (declare_constructors T c.in_ok-number.number f 0 (map raw_constructor_of c.args.raws.items) c.args.units.now.left)) same c.declare_constructors-made.ensures.answer)

pub returns-clause-kept : goal.returns-clause-kept
returns-clause-kept c =
    let S = c.args.sig.now in
    let f = family_of c.args.bare.now in
    let same : c.push.new.self ≡ pushed S (FamilyOf f) =
    c.in_ok-number.ensures.ok ∙ ap (λ g. pushed S (FamilyOf g)) (given_family _ _ c.in_ok-copy_bare.ensures.meant) in
    c.truncate.ensures ∙ (ap₂ first_entries same c.in_ok-number.ensures.number ∙ sym (first-all S (FamilyOf f)))
