use Rattle.std.proofs.Common.{subst}
use Rattle.theory.specs.Families as pure
use Rattle.core_terms.specs.Answers.{Gives, bounded}
use Rattle.core_terms.specs.Meanings.{tree_of}
use Rattle.core_sig.specs.Meanings.{family_of}
use Rattle.core_sig.proofs.ConstructorTypes.{constructor_at, kinds_at}
use Rattle.core_sig.proofs.types.con_type.Goals as goal

pub type_of-requires : goal.type_of-requires
type_of-requires c = kinds_at c.args.fam c.args.f.now c.args.con c.index-as_slice-con.result c.requires.kinds c.requires.con
    (rw c.as_slice.ensures at c.index-as_slice-con.is)

pub returns : goal.returns
returns c = λ con at.
    subst (λ k. Gives tree_of c.type_of.result (bounded (pure.constructor_type c.args.fam (family_of c.args.f.now) k)))
    (constructor_at _ c.args.f.now.cons c.args.con c.index-as_slice-con.result con c.requires.con (rw c.as_slice.ensures at c.index-as_slice-con.is) at)
    c.type_of.ensures
