use Rattle.core_terms.specs.Meanings.{tree_of}
use Rattle.lex_recursion.proofs.SmallMembers.{small-found}
use Rattle.lex_recursion.proofs.following.small_member.Goals as goal

pub returns-clause-small : goal.returns-clause-small
returns-clause-small c = small-found c.args.sig.now (tree_of c.args.ty.now) c.member_of.result c.member_of.ensures.answer c.requires
