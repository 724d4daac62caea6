use Rattle.std.proofs.Common.{refl, ap}
use Rattle.core_terms.specs.declared.term.Term as Code
use Rattle.core_sig.specs.declared.family.ArgKind.TheVariants.{Plain}
use Rattle.core_sig.specs.declared.family.Arg.{Arg}
use Rattle.core_sig.specs.declared.family.Constructor.{Constructor}
use Rattle.core_sig.proofs.PreludeEntries.{pair_kinds}
use Rattle.core_sig.proofs.prelude.pair_family.Goals as goal

pub returns-clause-kinds : goal.returns-clause-kinds
returns-clause-kinds c = λ n.
    let component : Arg = record { ty = Code.Var 1; level = c.args.level; kind = Plain } in
    pair_kinds n _ c.in_ok-pair_constructor.field-0 component component 1 1 c.args.level c.args.level c.new.ensures c.in_ok-cons.ensures.ok
    (ap (λ (con : Constructor). con.args) c.in_ok-pair_constructor.ensures.ok) refl refl
