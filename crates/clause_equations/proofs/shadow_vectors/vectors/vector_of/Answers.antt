use Rattle.std.proofs.Common.{sym, subst}
use Rattle.core_terms.specs.Meanings.{tele_of}
use Rattle.kernel_reduce.specs.Reduction.{most_variables}
use Rattle.kernel_reduce.specs.WellScoped.{AreScoped, CanReduce}
use Rattle.clause_equations.proofs.shadow_vectors.vectors.vector_of.Goals as goal

pub all_reduced-requires-2-clause-given : goal.all_reduced-requires-2-clause-given
all_reduced-requires-2-clause-given c =
    let scoped = c.in_ok-first.ensures.scoped most_variables c.requires.given.terms in
    subst (λ us. CanReduce c.args.sig.now (tele_of us)) (sym c.as_slice.ensures) (record { signature = c.requires.given.signature; terms = scoped })

pub returns-clause-scoped : goal.returns-clause-scoped
returns-clause-scoped c = λ n scoped.
    c.all_reduced-2.ensures.scoped n (subst (λ us. AreScoped c.args.sig.now n (tele_of us)) (sym c.as_slice.ensures) (c.in_ok-first.ensures.scoped n scoped))
