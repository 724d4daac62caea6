use Rattle.std.proofs.Common.{◌≡◌, ◌++◌, ◌∷◌, [], length, ap, ap₂, sym, ◌∙◌, subst, arith}
use Rattle.std.proofs.lemmas.Grind.{common_steps}
use Rattle.std.proofs.lemmas.List.{length-append, length-map, map-append}
use Rattle.theory.specs.Signatures.{Signature}
use Rattle.core_sig.specs.EntryIds.{CanStand}
use Rattle.core_sig.specs.Kinds.{HasEntryKinds}
use Rattle.core_sig.specs.Meanings.{entry_of}
use Rattle.core_sig.specs.Names.{named_by}
use Rattle.core_sig.proofs.Keeping.{each-push}
use Rattle.core_sig.proofs.NameLists.{named-push}
use Rattle.core_sig.proofs.signature.Signature.push.Goals as goal

pub store_entry-requires-clause-own : goal.store_entry-requires-clause-own
store_entry-requires-clause-own c =
    subst (λ n. HasEntryKinds n c.args.entry)
    (ap (λ S. length S.entries) (sym c.self.view_is) ∙ (length-map c.self.inside.entries.items entry_of ∙ omega (arith, c.in_ok-number.ensures.ok)))
    c.requires.kinds

pub store_entry-requires-clause-can : goal.store_entry-requires-clause-can
store_entry-requires-clause-can c =
    rw (c.as_slice.ensures.value, c.in_ok-reserve.ensures.items) (subst (λ (S : Signature). CanStand S.entries (entry_of c.args.entry)) (sym c.self.view_is) c.requires.can)

pub store_entry-requires-clause-stored : goal.store_entry-requires-clause-stored
store_entry-requires-clause-stored c = rw (c.as_slice.ensures.value, c.in_ok-reserve.ensures.items) c.self.invariant.stored

pub invariant_of-self-2 : goal.invariant_of-self-2
invariant_of-self-2 c =
    let es = c.self.inside.entries.items in
    let pushed : c.push.new.self.items ≡ c.reserve.new.self.items ++ c.args.entry ∷ [] = grind (arith, common_steps) in
    let items : c.push.new.self.items ≡ es ++ c.args.entry ∷ [] = rw c.in_ok-reserve.ensures.items at pushed in
    record {
      names =
          rw (items, named-push es c.args.entry)
          (c.in_ok-store_entry.ensures.names ∙ ap₂ (λ names n. names ++ named_by n (entry_of c.args.entry)) c.self.invariant.names (omega (arith, c.in_ok-number.ensures.ok)));
      kinds = rw items (each-push HasEntryKinds es c.args.entry c.self.invariant.kinds
          (subst (λ n. HasEntryKinds n c.args.entry) (ap (λ S. length S.entries) (sym c.self.view_is) ∙ length-map es entry_of) c.requires.kinds));
      stored = rw (items, map-append entry_of es (c.args.entry ∷ [])) (rw (c.as_slice.ensures.value, c.in_ok-reserve.ensures.items) at c.in_ok-store_entry.ensures.terms);
      count = omega (arith, ap length items, length-append es (c.args.entry ∷ []), c.in_ok-number.ensures.ok);
    }
