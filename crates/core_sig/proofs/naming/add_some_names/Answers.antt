use Rattle.std.proofs.Common.{◌≡◌, ◌++◌, ◌∷◌, [], map, refl, ap₂, ◌∙◌, subst, append_assoc}
use Rattle.std.proofs.lemmas.Result.{on_ok_weaker}
use Rattle.theory.specs.Signatures.{names_of}
use Rattle.core_sig.specs.Meanings.{entry_of}
use Rattle.core_sig.specs.Names.{AreNew, named_constructors}
use Rattle.core_sig.specs.declared.entry.Found.TheVariants.{Entry}
use Rattle.core_sig.proofs.NameLists.{new-tail, new-family, named_by-family, take-kept}
use Rattle.core_sig.proofs.naming.add_some_names.Goals as goal

pub add_constructors-requires : goal.add_constructors-requires
add_constructors-requires c =
    rw (c.in_ok-insert-in-Family.ensures.ok, c.as_slice.ensures, c.as_slice-in-Family.ensures)
    (new-tail _ _ _ _ (new-family _ c.in-Family.family (subst (λ e. AreNew c.args.names.now (names_of (entry_of e))) c.in-Family.is c.requires)))

pub returns-in_ok-insert-in-Family-clause-ok : goal.returns-in_ok-insert-in-Family-clause-ok
returns-in_ok-insert-in-Family-clause-ok c =
    let first : c.insert.new.self ≡ c.args.names.now ++ (c.in-Family.family.name, Entry c.args.number) ∷ [] =
    rw (c.in_ok-insert-in-Family.ensures.ok, c.as_slice.ensures) refl in
    rw (c.in-Family.is, named_by-family c.args.number c.in-Family.family)
    (on_ok_weaker c.add_constructors.result
    (λ done. done ∙ (ap₂ (λ names cons. names ++ named_constructors c.args.number 0 (map (λ k. k.name) cons)) first c.as_slice-in-Family.ensures ∙ append_assoc c.args.names.now _ _))
    c.add_constructors.ensures.ok)

pub returns-in_ok-insert-in-Family-clause-kept : goal.returns-in_ok-insert-in-Family-clause-kept
returns-in_ok-insert-in-Family-clause-kept c =
    take-kept c.args.names.now _ c.insert.new.self c.add_constructors.new.names c.in_ok-insert-in-Family.ensures.ok c.add_constructors.ensures.kept
