use Rattle.std.proofs.Common.{refl}
use Rattle.core_terms.specs.Meanings.{tree_of}
use Rattle.core_sig.proofs.StandingEntries.{definition-stands}
use Rattle.core_sig.proofs.importing.definition_id.Goals as goal

pub returns-clause-id : goal.returns-clause-id
returns-clause-id g c = λ entries name.
    definition-stands (g.S.TermStore.held c.import_where_low.new.store) (g.S.TermStore.held c.import_low.new.store) entries c.args.n name (tree_of c.args.ty.now) (tree_of c.args.body.now)
    c.in_ok-ty.ty c.in_ok-body.body _ c.in_ok-body.ensures.extends c.in_ok-ty.ensures.id c.in_ok-body.ensures.id refl refl c.new.ensures.items
