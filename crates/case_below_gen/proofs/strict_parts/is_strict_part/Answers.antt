use Rattle.std.proofs.Common.{Some, sym, ap, ◌∙◌, subst}
use Rattle.core_sig.specs.Kinds.{HasEntryKinds}
use Rattle.core_sig.specs.Meanings.{entry_of}
use Rattle.core_terms.specs.Meanings.{tree_of}
use Rattle.case_below_gen.proofs.PartTests.{decides-code}
use Rattle.case_below_gen.proofs.strict_parts.is_strict_part.Goals as goal

pub returns : goal.returns
returns c = λ f at.
    let found = sym c.in-Some-Family.ensures.entry ∙ ap (λ e. Some (entry_of e)) c.in-Some-Family.field-0-is in
    decides-code c.args.fam f c.in-Some-Family.f c.has_part.result (tree_of c.args.part.now) (tree_of c.args.term.now)
    (subst (HasEntryKinds c.args.fam) c.in-Some-Family.field-0-is c.in-Some-Family.ensures.kinds) (sym found ∙ at) c.has_part.ensures
