use Rattle.std.proofs.Common.{sym, ap, ◌∙◌, subst}
use Rattle.theory.specs.Spines.{spine_of}
use Rattle.core_terms.specs.Meanings.{tree_of, tele_of}
use Rattle.core_terms.proofs.Builders.{ok_is}
use Rattle.tele_eq.specs.Items.{AreSmallTerms}
use Rattle.tree_translation.proofs.structural_rec.SmallTerms.{small-spine}
use Rattle.tree_translation.proofs.structural_rec.admission.admission_at_type.Goals as goal

pub admission_with-requires-clause-spine : goal.admission_with-requires-clause-spine
admission_with-requires-clause-spine c =
    subst AreSmallTerms
    (sym (ap tele_of c.as_slice.ensures.value ∙ (ok_is c.in_ok-spine-in-Some.ensures ∙ ap spine_of (ok_is c.in_ok-copy_whole-in-Some.ensures))))
    (small-spine (tree_of c.args.ty.now) c.requires.ty)
