use Rattle.std.proofs.Common.{Some, true, map, ap, sym, ◌∙◌, subst}
use Rattle.theory.specs.Eliminators.{eliminator_type}
use Rattle.theory.specs.Scopes.{IsClosedFamily}
use Rattle.theory.specs.Signatures.{Signature}
use Rattle.theory.proofs.WellFormedness.{same_family}
use Rattle.core_sig.specs.Meanings.{entry_of, family_of}
use Rattle.core_sig.proofs.StandingEntries.{eliminator-stands}
use Rattle.core_sig.proofs.importing.eliminator_id.Goals as goal

pub elim_type-requires-clause-scoped : goal.elim_type-requires-clause-scoped
elim_type-requires-clause-scoped g c =
    let found = sym c.in-Some-Family.ensures.entry ∙ ap (λ e. Some (entry_of e)) c.in-Some-Family.field-0-is in
    let S : Signature = record { entries = map entry_of c.args.entries.now; has_k = true } in
    subst IsClosedFamily (same_family S c.args.g c.requires.family.0 (family_of c.in-Some-Family.f) c.requires.family.1 found) c.requires.family.2

pub returns-clause-id : goal.returns-clause-id
returns-clause-id g c =
    let f = family_of c.in-Some-Family.f in
    let found = sym c.in-Some-Family.ensures.entry ∙ ap (λ e. Some (entry_of e)) c.in-Some-Family.field-0-is in
    eliminator-stands (g.S.TermStore.held c.import_made.new.store) _ c.args.n c.args.g c.args.m f c.in_ok-ty-in-Some-Family.ty c.with_type.result
    found (c.in_ok-ty-in-Some-Family.ensures.id (eliminator_type c.args.g f c.args.m) c.elim_type.ensures)
    c.with_type.ensures.ty c.with_type.ensures.body c.with_type.ensures.cons
