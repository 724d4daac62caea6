use Rattle.std.proofs.Common.{ap, sym, ◌∙◌, subst}
use Rattle.std.proofs.lemmas.Bool.{false≢true}
use Rattle.std.specs.Bool.{IsTrue}
use Rattle.core_terms.specs.Answers.{Gives, bounded}
use Rattle.core_terms.specs.Meanings.{tree_of}
use Rattle.core_terms.proofs.Builders.{ok_is}
use Rattle.core_sig.proofs.ConstructorTypes.{type_behind-of, behind-deep}
use Rattle.core_sig.proofs.types.type_behind.Goals as goal

pub returns-then-not-are_few : goal.returns-then-not-are_few
returns-then-not-are_few c other =
    behind-deep c.args.fam c.args.f.now c.args.con.now c.requires
    (λ few. let yes = subst IsTrue c.if-not-are_few.true (c.are_few.ensures.1 few) in absurd (false≢true yes))

pub returns : goal.returns
returns c =
    subst (Gives tree_of c.checked.result)
    (ap bounded (ok_is c.in_ok-whole.ensures ∙ sym (type_behind-of c.args.fam c.args.f.now c.args.con.now c.requires)))
    c.checked.ensures
