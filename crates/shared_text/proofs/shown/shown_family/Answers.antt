use Rattle.std.proofs.Common.{Ok, map, length, ap, ◌∙◌, subst}
use Rattle.core_terms.specs.Answers.{Gives}
use Rattle.core_terms.specs.Meanings.{tree_of}
use Rattle.core_sig.specs.Meanings.{family_of}
use Rattle.core_sig.specs.Raw.{raw_constructor_of, raw_of}
use Rattle.core_text.specs.RawEntries.{type_shown}
use Rattle.core_text.specs.Records.{constructor_shown}
use Rattle.shared_text.proofs.ShownFamilies.{family-is, ok-is}
use Rattle.shared_text.proofs.shown.shown_family.Goals as goal

pub returns : goal.returns
returns c =
    let n = c.args.number in
    let f = c.args.family.now in
    subst (λ raw. Gives raw_of c.named_family.result (Ok raw))
    (family-is n c.in_ok-params.params f (tree_of c.in_ok-ty.ty) (map raw_constructor_of c.in_ok-cons.cons) c.requires (c.in_ok-params.ensures.ok ∙ ap length c.as_slice.ensures)
    (ok-is (tree_of c.in_ok-ty.ty) (type_shown (family_of f)) c.in_ok-ty.ensures)
    (ok-is (map raw_constructor_of c.in_ok-cons.cons) (map (constructor_shown n c.in_ok-params.params) c.as_slice-2.result.now) c.in_ok-cons.ensures ∙ ap (map (constructor_shown n c.in_ok-params.params)) c.as_slice-2.ensures))
    c.named_family.ensures
