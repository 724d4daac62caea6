use Rattle.std.proofs.Common.{◌++◌, ◌∷◌, [], map, take, ap, sym, ◌∙◌, append_assoc, arith}
use Rattle.core_sig.specs.Names.{named_constructors}
use Rattle.core_sig.specs.declared.entry.Found.TheVariants.{Con}
use Rattle.core_sig.proofs.NameLists.{new-at, new-tail, named_constructors-more}
use Rattle.core_sig.proofs.naming.add_constructors.Goals as goal

pub insert-requires : goal.insert-requires
insert-requires c =
    let new = new-at c.loop-number.names c.args.cons.now c.loop-number.number c.index-cons-number.result c.loop-number-test.true c.index-cons-number.is c.loop-number.invariant.1 in
    rw c.as_slice.ensures (new.unknown 0 [] (omega arith))

pub loop-number-preserved : goal.loop-number-preserved
loop-number-preserved c =
    let at = c.loop-number.number in
    let con = c.index-cons-number.result in
    let new = new-at c.loop-number.names c.args.cons.now at con c.loop-number-test.true c.index-cons-number.is c.loop-number.invariant.1 in
    let more = named_constructors-more c.args.family at c.args.cons.now con c.loop-number-test.true c.index-cons-number.is in
    rw (c.in_ok-insert.ensures.ok, c.as_slice.ensures, c.in_ok-number_of.ensures.ok) (
      ap (λ names. names ++ (con.name, Con c.args.family at) ∷ []) c.loop-number.invariant.0
          ∙ (append_assoc c.args.names.now (named_constructors c.args.family 0 (map (λ k. k.name) (take at c.args.cons.now))) ((con.name, Con c.args.family at) ∷ [])
          ∙ ap (λ names. c.args.names.now ++ names) (sym more)),
      new-tail _ con.name _ _ new,
    )
