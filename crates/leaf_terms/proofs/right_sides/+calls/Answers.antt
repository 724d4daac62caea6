use Rattle.std.proofs.Common.{◌≡◌, ℕ, ◌+◌, [], Result, sym, subst}
use Rattle.theory.specs.Terms.{Term, Pi, Lam}
use Rattle.core_terms.specs.Answers.{Gives}
use Rattle.core_terms.specs.Meanings.{tree_of}
use Rattle.core_terms.specs.declared.stop.Stop.{Stop}
use Rattle.run_terms.specs.CodeNaming.{naming_of}
use Rattle.leaf_terms.specs.CodeRightSides.{calls_made, head_made, part_made}
use Rattle.leaf_terms.specs.PlaceMeanings.{leaf_of}
use Rattle.leaf_terms.specs.PlanMeanings.{plan_of}
use Rattle.leaf_terms.proofs.MadeParts.{both-given}
use Rattle.leaf_terms.proofs.right_sides.+calls.Goals as goal

pub head_with_calls-returns-in_ok-inner-in-Pi : goal.head_with_calls-returns-in_ok-inner-in-Pi
head_with_calls-returns-in_ok-inner-in-Pi t c =
    let made : ℕ → Term → Result Term Stop = λ under u. part_made (calls_made (naming_of c.args.w.now.naming) (plan_of c.args.w.now.plan.now) (leaf_of c.args.l.now) under [] u) in
    subst (λ t. Gives tree_of c.product_of.result (head_made made c.args.under (tree_of t))) (sym c.in-Pi.is)
    (both-given Pi c.product_of.result c.part_with_calls.result c.part_with_calls-in-Pi.result (made c.args.under (tree_of c.in-Pi.domain.value))
    (made (c.args.under + 1) (tree_of c.in-Pi.codomain.value)) c.product_of.ensures
    (subst (λ u. Gives tree_of c.part_with_calls.result (made c.args.under (tree_of u))) c.deref.ensures c.part_with_calls.ensures)
    (subst (λ u. Gives tree_of c.part_with_calls-in-Pi.result (made (c.args.under + 1) (tree_of u))) c.deref-in-Pi.ensures
    (subst (λ n. Gives tree_of c.part_with_calls-in-Pi.result (made n (tree_of c.deref-in-Pi.result.now))) c.in_ok-inner-in-Pi.ensures.ok
    c.part_with_calls-in-Pi.ensures)))

pub head_with_calls-returns-in_ok-inner-in-Lam : goal.head_with_calls-returns-in_ok-inner-in-Lam
head_with_calls-returns-in_ok-inner-in-Lam t c =
    let made : ℕ → Term → Result Term Stop = λ under u. part_made (calls_made (naming_of c.args.w.now.naming) (plan_of c.args.w.now.plan.now) (leaf_of c.args.l.now) under [] u) in
    subst (λ t. Gives tree_of c.function_of.result (head_made made c.args.under (tree_of t))) (sym c.in-Lam.is)
    (both-given Lam c.function_of.result c.part_with_calls-in-Lam.result c.part_with_calls-in-Lam-2.result (made c.args.under (tree_of c.in-Lam.domain.value))
    (made (c.args.under + 1) (tree_of c.in-Lam.body.value)) c.function_of.ensures
    (subst (λ u. Gives tree_of c.part_with_calls-in-Lam.result (made c.args.under (tree_of u))) c.deref-in-Lam.ensures c.part_with_calls-in-Lam.ensures)
    (subst (λ u. Gives tree_of c.part_with_calls-in-Lam-2.result (made (c.args.under + 1) (tree_of u))) c.deref-in-Lam-2.ensures
    (subst (λ n. Gives tree_of c.part_with_calls-in-Lam-2.result (made n (tree_of c.deref-in-Lam-2.result.now))) c.in_ok-inner-in-Lam.ensures.ok
    c.part_with_calls-in-Lam-2.ensures)))
