use Rattle.std.proofs.Common.{Some, refl, sym, ap, ◌∙◌, subst}
use Rattle.core_sig.specs.Kinds.{HasEntryKinds}
use Rattle.core_sig.specs.Meanings.{entry_of, family_of}
use Rattle.core_terms.specs.Meanings.{tree_of}
use Rattle.case_below_gen.proofs.PathBounds.{path-is, none-is}
use Rattle.case_below_gen.proofs.ScopedPaths.{path-scoped}
use Rattle.case_below_gen.proofs.paths.below_path.Goals as goal

pub returns-clause-path : goal.returns-clause-path
returns-clause-path c = λ f at.
    let found = sym c.in-Some-Family.ensures.entry ∙ ap (λ e. Some (entry_of e)) c.in-Some-Family.field-0-is in
    path-is c.args.fam f c.in-Some-Family.family c.path_to.result c.args.m c.args.number (tree_of c.args.motive.now) (tree_of c.args.part.now) (tree_of c.args.term.now) (tree_of c.args.below.now)
    (subst (HasEntryKinds c.args.fam) c.in-Some-Family.field-0-is c.in-Some-Family.ensures.kinds) (sym found ∙ at) c.path_to.ensures

pub returns-clause-none : goal.returns-clause-none
returns-clause-none c = λ f at.
    let found = sym c.in-Some-Family.ensures.entry ∙ ap (λ e. Some (entry_of e)) c.in-Some-Family.field-0-is in
    none-is c.args.fam f c.path_to.result c.args.m c.args.number (tree_of c.args.motive.now) (tree_of c.args.part.now) (tree_of c.args.term.now) (tree_of c.args.below.now)
    (path-is c.args.fam f c.in-Some-Family.family c.path_to.result c.args.m c.args.number (tree_of c.args.motive.now) (tree_of c.args.part.now) (tree_of c.args.term.now) (tree_of c.args.below.now)
    (subst (HasEntryKinds c.args.fam) c.in-Some-Family.field-0-is c.in-Some-Family.ensures.kinds) (sym found ∙ at) c.path_to.ensures)

pub returns-clause-scoped : goal.returns-clause-scoped
returns-clause-scoped c = λ T base count n scoped first longer le low named all.
    let found = sym c.in-Some-Family.ensures.entry ∙ ap (λ e. Some (entry_of e)) c.in-Some-Family.field-0-is in
    path-scoped c.args.sig.now T c.args.fam (family_of c.in-Some-Family.family) c.path_to.result c.args.m c.args.number (tree_of c.args.motive.now) (tree_of c.args.term.now) (tree_of c.args.part.now) (tree_of c.args.below.now) scoped first longer low found
    (path-is c.args.fam (family_of c.in-Some-Family.family) c.in-Some-Family.family c.path_to.result c.args.m c.args.number (tree_of c.args.motive.now) (tree_of c.args.part.now) (tree_of c.args.term.now) (tree_of c.args.below.now)
    (subst (HasEntryKinds c.args.fam) c.in-Some-Family.field-0-is c.in-Some-Family.ensures.kinds) refl c.path_to.ensures)
    base count n le named all
