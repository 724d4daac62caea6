use Rattle.std.proofs.Common.{length}
use Rattle.theory.specs.Families.{constructor_type}
use Rattle.core_sig.specs.EntryIds.{type_behind}
use Rattle.core_sig.specs.Meanings.{constructor_of, family_of}
use Rattle.core_sig.proofs.StandingEntries.{id-stays}
use Rattle.core_sig.proofs.importing.constructor_id.Goals as goal

pub import_made_low-requires : goal.import_made_low-requires
import_made_low-requires g c =
    (type_behind c.args.n (family_of c.args.f.now) (constructor_of (length c.args.f.now.params) c.args.con.now), c.type_behind.ensures, c.requires.low)

pub returns-clause-id : goal.returns-clause-id
returns-clause-id g c =
    let f = family_of c.args.f.now in
    let con = constructor_of (length c.args.f.now.params) c.args.con.now in
    record {
      behind = id-stays (g.S.TermStore.held c.import_made_low.new.store) (g.S.TermStore.held c.import_made.new.store) c.in_ok-ty.ensures.extends
          c.in_ok-behind.behind (type_behind c.args.n f con)
          (c.in_ok-behind.ensures.id (type_behind c.args.n f con) c.type_behind.ensures);
      type = c.in_ok-ty.ensures.id (constructor_type c.args.n f con) c.type_of.ensures;
    }
