use Rattle.std.proofs.Common.{subst}
use Rattle.std.proofs.lemmas.Bool.{false≢true}
use Rattle.std.specs.Bool.{IsTrue}
use Rattle.core_sig.specs.Shapes.{shape_of}
use Rattle.generators.proofs.acyclic_gen.TooHigh.{direct-deep}
use Rattle.generators.proofs.acyclic_gen.Entries.{few-indices}
use Rattle.generators.proofs.acyclic_gen.direct_entries.direct_draft.Goals as goal

pub returns-then-not-is_few : goal.returns-then-not-is_few
returns-then-not-is_few c foreseen =
    direct-deep c.args.base c.args.f.now.name c.args.fam (shape_of c.args.f.now) (few-indices c.args.f.now c.requires.indices)
    (λ few. let yes = subst IsTrue c.if-not-is_few.true (c.is_few.ensures.1 few) in absurd (false≢true yes))
