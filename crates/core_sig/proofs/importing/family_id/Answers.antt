use Rattle.std.proofs.Common.{refl}
use Rattle.theory.specs.Families.{family_type}
use Rattle.core_sig.specs.Meanings.{family_of}
use Rattle.core_sig.proofs.StandingEntries.{family-stands}
use Rattle.core_sig.proofs.importing.family_id.Goals as goal

pub returns-clause-id : goal.returns-clause-id
returns-clause-id g c = λ entries.
    family-stands (g.S.TermStore.held c.import_made.new.store) (g.S.TermStore.held c.constructor_ids.new.store) entries c.args.n (family_of c.args.f.now) c.in_ok-ty.ty _
    c.in_ok-cons.ensures.extends (c.in_ok-ty.ensures.id (family_type (family_of c.args.f.now)) c.family_type.ensures) c.in_ok-cons.ensures.ids refl refl
