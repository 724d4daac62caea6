use Rattle.std.proofs.Common.{map, sym, ◌∙◌, subst}
use Rattle.std.proofs.lemmas.List.{length-map}
use Rattle.core_sig.specs.EntryIds.{AreLowBehind, CanStand}
use Rattle.core_sig.specs.Kinds.{HasEntryKinds}
use Rattle.core_sig.specs.Meanings.{entry_of, family_of}
use Rattle.core_sig.proofs.importing.entry_id.Goals as goal

pub family_id-requires-clause-kinds : goal.family_id-requires-clause-kinds
family_id-requires-clause-kinds g c = subst (HasEntryKinds c.args.n) c.in-Family.is c.requires.own

pub family_id-requires-clause-low : goal.family_id-requires-clause-low
family_id-requires-clause-low g c =
    let entries = map entry_of c.args.entries.now in
    subst (λ n. AreLowBehind n (family_of c.in-Family.f)) (length-map c.args.entries.now entry_of ∙ sym c.requires.number)
    (subst (λ e. CanStand entries (entry_of e)) c.in-Family.is c.requires.can)

pub returns-in-Family-clause-id : goal.returns-in-Family-clause-id
returns-in-Family-clause-id g c = rw c.in-Family.is (c.family_id.ensures.id (map entry_of c.args.entries.now))

pub eliminator_id-requires-clause-family : goal.eliminator_id-requires-clause-family
eliminator_id-requires-clause-family g c = subst (λ e. CanStand (map entry_of c.args.entries.now) (entry_of e)) c.in-Elim.is c.requires.can

pub returns-in-Elim-clause-id : goal.returns-in-Elim-clause-id
returns-in-Elim-clause-id g c = rw c.in-Elim.is c.eliminator_id.ensures.id

pub returns-in-AxiomK-clause-id : goal.returns-in-AxiomK-clause-id
returns-in-AxiomK-clause-id g c = rw c.in-AxiomK.is (c.axiom_k_id.ensures.id (map entry_of c.args.entries.now))

pub definition_id-requires : goal.definition_id-requires
definition_id-requires g c = subst (λ e. CanStand (map entry_of c.args.entries.now) (entry_of e)) c.in-Def.is c.requires.can

pub returns-in-Def-clause-id : goal.returns-in-Def-clause-id
returns-in-Def-clause-id g c = rw c.in-Def.is (c.definition_id.ensures.id (map entry_of c.args.entries.now) c.in-Def.name)
