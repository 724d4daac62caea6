use Rattle.std.proofs.Common.{Some, sym, ap, ◌∙◌, subst as transport}
use Rattle.theory.specs.Eliminators.{eliminator_type}
use Rattle.theory.proofs.WellFormedness.{same_family}
use Rattle.core_terms.specs.Answers.{Gives, bounded}
use Rattle.core_terms.specs.Meanings.{tree_of}
use Rattle.core_sig.specs.Meanings.{entry_of, family_of}
use Rattle.kernel_check.proofs.FamilyScopes.{family-over}
use Rattle.family_check.proofs.eliminators.type_of_eliminator.Goals as goal

pub elim_type-requires-clause-scoped : goal.elim_type-requires-clause-scoped
elim_type-requires-clause-scoped c =
    family-over c.args.sig.now c.args.fam (family_of c.in-Some-Family.family) c.requires.signature
    (sym c.in-Some-Family.ensures.entry ∙ ap (λ e. Some (entry_of e)) c.in-Some-Family.field-0-is)

pub returns : goal.returns
returns c = λ f at.
    let found = sym c.in-Some-Family.ensures.entry ∙ ap (λ e. Some (entry_of e)) c.in-Some-Family.field-0-is in
    transport (λ g. Gives tree_of c.elim_type.result (bounded (eliminator_type c.args.fam g c.args.m)))
    (same_family c.args.sig.now c.args.fam (family_of c.in-Some-Family.family) f found at) c.elim_type.ensures
