use Rattle.std.proofs.Common.{ap, ◌∙◌, subst}
use Rattle.std.proofs.lemmas.Bool.{false≢true}
use Rattle.std.specs.Bool.{IsTrue}
use Rattle.core_terms.specs.Answers.{Gives, bounded}
use Rattle.core_terms.specs.Meanings.{tree_of}
use Rattle.core_terms.proofs.Builders.{ok_is}
use Rattle.core_sig.proofs.EliminatorsByLevels.{eliminator-bounded, eliminator-deep}
use Rattle.core_sig.proofs.eliminator.elim_type.Goals as goal

pub returns-then-not-is_few : goal.returns-then-not-is_few
returns-then-not-is_few c other =
    eliminator-deep c.args.fam c.args.f.now c.args.m c.requires.kinds c.requires.scoped
    (λ few. let yes = subst IsTrue c.if-not-is_few.true (c.is_few.ensures.1 few) in absurd (false≢true yes))

pub returns : goal.returns
returns c =
    subst (Gives tree_of c.checked.result)
    (ap bounded (ok_is c.in_ok-whole.ensures)
    ∙ eliminator-bounded c.args.fam c.args.f.now c.args.m c.requires.kinds c.requires.scoped)
    c.checked.ensures
