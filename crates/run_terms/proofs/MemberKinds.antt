-- The kinds of the arguments of a constructor that is found in a term.
use Rattle.std.proofs.Common.{Option, Some, None}
use Rattle.core_sig.specs.Kinds.{HaveKinds}
use Rattle.core_sig.specs.Meanings.{family_of}
use Rattle.unification.specs.Built as pure
use Rattle.problems.specs.CodeBuilt.{IfThere, IsBuiltAs}
use Rattle.problems.specs.declared.built.Built.{Built}
use Rattle.theory.proofs.ScopedEntries.{All-at}

pub kinds-there : (b : Built) (o : Option pure.Built) → IfThere (IsBuiltAs b) o → HaveKinds b.family (family_of b.record.now) 0 b.con.now.args
kinds-there b None h = absurd h
kinds-there b (Some p) h =
    All-at (λ c. HaveKinds b.family (family_of b.record.now) 0 c.args) b.record.now.cons b.number b.con.now h.there h.kinds.constructors
