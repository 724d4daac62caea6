use Rattle.std.proofs.Common.{option_map, sym, ◌∙◌}
use Rattle.core_terms.specs.Meanings.{tree_of}
use Rattle.resolve.specs.Names.{known_in}
use Rattle.resolve.proofs.MemberNumbers.{member-found, other-found}
use Rattle.resolve.proofs.symbols.find_with.Goals as goal

pub returns-in-Some-clause-term : goal.returns-in-Some-clause-term
returns-in-Some-clause-term c =
    member-found c.args.members.now (known_in c.args.sig.now) c.args.name.now c.in-Some.n (sym c.in-Some.is ∙ c.number.ensures)

pub returns-in-None-clause-term : goal.returns-in-None-clause-term
returns-in-None-clause-term c =
    other-found c.args.members.now (known_in c.args.sig.now) c.args.name.now (option_map tree_of c.find_in.result) (sym c.in-None.is ∙ c.number.ensures) c.find_in.ensures.term
