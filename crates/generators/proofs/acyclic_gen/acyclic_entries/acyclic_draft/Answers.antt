use Rattle.std.proofs.Common.{map, subst}
use Rattle.std.proofs.lemmas.Bool.{false≢true}
use Rattle.std.specs.Bool.{IsTrue}
use Rattle.core_sig.specs.Shapes.{shape_of}
use Rattle.generators.proofs.acyclic_gen.TooHigh.{acyclic-deep}
use Rattle.generators.proofs.acyclic_gen.Entries.{few-indices}
use Rattle.generators.proofs.acyclic_gen.acyclic_entries.acyclic_draft.Goals as goal

pub returns-then-not-is_small : goal.returns-then-not-is_small
returns-then-not-is_small c foreseen =
    acyclic-deep c.args.base c.args.f.now.name (map (λ c. c.name) c.args.f.now.cons) c.args.fam (shape_of c.args.f.now) (few-indices c.args.f.now c.requires.indices)
    (λ small. let yes = subst IsTrue c.if-not-is_small.true (c.is_small.ensures.1 small) in absurd (false≢true yes))
