use Rattle.std.proofs.Common.{Some, None, length, ◌∙◌, ap, sym}
use Rattle.core_terms.specs.Meanings.{tree_of}
use Rattle.core_sig.proofs.RecursiveForms.{kind-found}
use Rattle.core_sig.proofs.kinds.kind_of.Goals as goal

pub returns-in-Some : goal.returns-in-Some
returns-in-Some c = λ g parameters indices.
    kind-found c.args.fam g c.args.at _ _ (Some c.in-Some.count) (tree_of c.args.ty.now) c.in-Some.ensures.count
    (parameters ∙ sym (ap length c.as_slice.ensures)) (indices ∙ sym (ap length c.as_slice-2.ensures))

pub returns-in-None : goal.returns-in-None
returns-in-None c = λ g parameters indices.
    kind-found c.args.fam g c.args.at _ _ None (tree_of c.args.ty.now) c.in-None.ensures.count
    (parameters ∙ sym (ap length c.as_slice.ensures)) (indices ∙ sym (ap length c.as_slice-2.ensures))
