use Rattle.std.proofs.Common.{subst}
use Rattle.core_terms.specs.Answers.{IsUnforeseen, Runs}
use Rattle.core_terms.specs.Meanings.{tele_of}
use Rattle.core_terms.specs.PatternMeanings.{pats_of}
use Rattle.core_terms.proofs.Answers.{spends-has}
use Rattle.kernel_reduce.specs.WellScoped.{AreScoped}
use Rattle.clause_reports.specs.Shadows.{all_reduced}
use Rattle.clause_equations.proofs.shadow_vectors.ReducedTerms.{first-made}
use Rattle.clause_equations.proofs.shadow_vectors.ScopedVectors.{all-reduced-scoped}
use Rattle.clause_equations.proofs.shadow_vectors.vectors.all_reduced.Goals as goal

pub returns-clause-scoped : goal.returns-clause-scoped
returns-clause-scoped c = λ n scoped.
    spends-has IsUnforeseen (λ e. e) tele_of (AreScoped c.args.sig.now n) c.with_reduced.result c.with_reduced.new.kernel.left
    (all_reduced c.args.sig.now (pats_of c.args.pats.now) (tele_of c.args.terms.now) c.args.kernel.now.left)
    (subst (λ meant. Runs tele_of c.with_reduced.result c.with_reduced.new.kernel.left meant) (first-made c.new.result _ c.new.ensures) c.with_reduced.ensures.answer)
    (all-reduced-scoped c.args.sig.now n c.requires.given.signature (pats_of c.args.pats.now) (tele_of c.args.terms.now) c.args.kernel.now.left scoped)
