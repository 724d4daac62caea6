use Rattle.std.proofs.Common.{map, arith, ap, sym}
use Rattle.std.proofs.lemmas.List.{length-map, take-map}
use Rattle.core_sig.specs.Meanings.{entry_of}
use Rattle.theory.proofs.Lists.{slice_get-take}
use Rattle.core_sig.proofs.NameLists.{take-named}
use Rattle.core_sig.proofs.signature.Signature.truncate.Goals as goal

pub keep_first-requires : goal.keep_first-requires
keep_first-requires c = omega (arith, c.self.invariant.stored.count, length-map c.self.inside.entries.items entry_of)

pub invariant_of-self : goal.invariant_of-self
invariant_of-self c =
    let es = c.self.inside.entries.items in
    record {
      names = rw (c.truncate.ensures, c.names_before-names.ensures, c.as_slice.ensures.value, c.self.invariant.names, c.truncate-then-len.ensures.items) (take-named es c.args.len);
      kinds = rw c.truncate-then-len.ensures.items (λ n e at. c.self.invariant.kinds n e (slice_get-take c.args.len es n e at));
      stored = rw (c.truncate-then-len.ensures.items, ← take-map entry_of c.args.len es) (c.keep_first.ensures (map entry_of es) c.self.invariant.stored);
      count = omega (arith, c.truncate-then-len.ensures.len);
    }

pub returns-then-len : goal.returns-then-len
returns-then-len c = rw (← c.self.view_is, c.truncate-then-len.ensures.items) (ap (λ es. record { entries = es; has_k = c.self.inside.k }) (sym (take-map entry_of c.args.len c.self.inside.entries.items)))
