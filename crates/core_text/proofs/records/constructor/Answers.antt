use Rattle.std.proofs.Common.{◌≡◌, map, length, refl, ap, ap₂, ◌++◌, ◌∙◌}
use Rattle.theory.specs.Telescopes.{applied}
use Rattle.core_terms.specs.Meanings.{tree_of, tele_of}
use Rattle.core_sig.specs.declared.family.Constructor.{Constructor}
use Rattle.core_terms.specs.Telescopes.{domains_of, end_of}
use Rattle.core_text.specs.RawEntries.{is_at_targets}
use Rattle.core_text.specs.Records.{typed, with_level_zero}
use Rattle.core_text.proofs.RecordTexts.{constructor-is, levels-read}
use Rattle.core_text.proofs.records.constructor.Goals as goal

pub returns-clause-shown : goal.returns-clause-shown
returns-clause-shown c =
    let type = tree_of c.args.raw.ty in
    let head = tree_of c.in_ok-_head._head in
    let con : Constructor = record { name = c.args.raw.name; args = c.arguments.new.args; targets = c.from_vec-targets.result } in
    let args : map typed c.arguments.new.args ≡ map with_level_zero (domains_of type) = c.in_ok-end.ensures.types ∙ ap (λ xs. map typed xs ++ map with_level_zero (domains_of type)) c.new-args.ensures in
    let whole : applied head (tele_of c.from_vec-targets.result) ≡ end_of type = ap (λ ts. applied head (tele_of ts)) c.from_vec-targets.ensures ∙ (c.in_ok-_head.ensures.whole ∙ c.in_ok-end.ensures.end) in
    constructor-is c.args.family (length c.args.f.now.indices) (length c.args.f.now.params) con c.args.raw head refl args whole
    (λ m k at h. c.in_ok-_head.ensures.head m k at (ap₂ (λ j e. is_at_targets m k j at e) (ap length c.as_slice.ensures) c.in_ok-end.ensures.end ∙ h))

pub returns-clause-levels : goal.returns-clause-levels
returns-clause-levels c =
    let type = tree_of c.args.raw.ty in
    let args : map typed c.arguments.new.args ≡ map with_level_zero (domains_of type) = c.in_ok-end.ensures.types ∙ ap (λ xs. map typed xs ++ map with_level_zero (domains_of type)) c.new-args.ensures in
    levels-read c.arguments.new.args (domains_of type) args
