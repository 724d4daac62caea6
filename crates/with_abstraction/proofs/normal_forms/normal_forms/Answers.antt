use Rattle.std.proofs.Common.{◌≡◌, ◌<◌, List, length, ap, sym, ◌∙◌, Ok, subst as transport, arith}
use Rattle.std.proofs.lemmas.Result.{err_from_is_err_and}
use Rattle.core_terms.specs.Meanings.{tree_of, tele_of}
use Rattle.kernel_reduce.specs.Reduction.{answered, most_variables}
use Rattle.kernel_reduce.proofs.Runs.{meant-has}
use Rattle.with_abstraction.specs.Conditions.{AreFormsOver}
use Rattle.with_abstraction.specs.Meanings.{forms_of}
use Rattle.with_abstraction.specs.NormalForms.{plain_normal_of, normal_forms_of}
use Rattle.kernel_reduce.specs.WellScoped.{AreScoped}
use Rattle.with_abstraction.proofs.FormScopes.{types-reducible, forms-over_context}
use Rattle.with_abstraction.proofs.NormalRuns.{goal-refused, types-refused, scrutinee-refused, forms-normal}
use Rattle.with_abstraction.proofs.normal_forms.normal_forms.Goals as goal

pub plain_normals-requires-clause-types : goal.plain_normals-requires-clause-types
plain_normals-requires-clause-types c =
    let few : length (tele_of c.args.ctx.now) < 2147483648 = c.requires.given.few in
    let P : List _ → Type 0 = λ types. AreScoped c.args.kernel.now.signature most_variables (tele_of types) in
    rw c.in_ok-goal.ensures.same
    (transport P (sym c.as_slice.ensures)
    (types-reducible c.args.kernel.now.signature 0 most_variables (tele_of c.args.ctx.now) (omega arith) c.requires.given.context))

pub returns-in_err-goal-clause-answer : goal.returns-in_err-goal-clause-answer
returns-in_err-goal-clause-answer c =
    let q = err_from_is_err_and c.from_residual.result c.from_residual.ensures.1 in
    rw (q.1, q.2)
    (λ other. goal-refused c.args.kernel.now.signature (tele_of c.args.ctx.now) (tree_of c.args.goal.now) (tree_of c.args.scrutinee.now) c.args.kernel.now.left _ _
    (c.in_err-goal.ensures.answer other))

pub returns-in_err-types-clause-answer : goal.returns-in_err-types-clause-answer
returns-in_err-types-clause-answer c =
    let q = err_from_is_err_and c.from_residual-in_err-types.result c.from_residual-in_err-types.ensures.1 in
    rw (q.1, q.2)
    (λ other. types-refused c.args.kernel.now.signature c.args.ctx.now c.as_slice.result.now (tree_of c.args.goal.now) (tree_of c.args.scrutinee.now)
    (tree_of c.in_ok-goal.goal) c.args.kernel.now.left c.normal.new.self.left _ _ c.as_slice.ensures
    c.in_ok-goal.ensures.answer (rw c.in_ok-goal.ensures.same at (c.in_err-types.ensures.answer other)))

pub returns-in_err-scrutinee-clause-answer : goal.returns-in_err-scrutinee-clause-answer
returns-in_err-scrutinee-clause-answer c =
    let q = err_from_is_err_and c.from_residual-in_err-scrutinee.result c.from_residual-in_err-scrutinee.ensures.1 in
    rw (q.1, q.2)
    (λ other. scrutinee-refused c.args.kernel.now.signature c.args.ctx.now c.as_slice.result.now (tree_of c.args.goal.now) (tree_of c.args.scrutinee.now)
    (tree_of c.in_ok-goal.goal) (tele_of c.in_ok-types.types.items) c.args.kernel.now.left c.normal.new.self.left c.plain_normals.new.kernel.left _ _
    c.as_slice.ensures c.in_ok-goal.ensures.answer (rw c.in_ok-goal.ensures.same at c.in_ok-types.ensures.answer)
    (c.in_err-scrutinee.ensures.answer other
    ∙ ap (λ S. plain_normal_of S (tree_of c.args.scrutinee.now) c.plain_normals.new.kernel.left) (c.in_ok-types.ensures.kernel ∙ c.in_ok-goal.ensures.same)))

normal : (c : goal.After-from_vec) → answered (Ok (forms_of (record { goal = c.in_ok-goal.goal; types = c.from_vec.result; scrutinee = c.in_ok-scrutinee.scrutinee }))) c.normal-2.new.self.left
    ≡ normal_forms_of c.args.kernel.now.signature (tele_of c.args.ctx.now) (tree_of c.args.goal.now) (tree_of c.args.scrutinee.now) c.args.kernel.now.left
normal c =
    rw c.from_vec.ensures
    (forms-normal c.args.kernel.now.signature c.args.ctx.now c.as_slice.result.now (tree_of c.args.goal.now) (tree_of c.args.scrutinee.now)
    (tree_of c.in_ok-goal.goal) (tree_of c.in_ok-scrutinee.scrutinee) (tele_of c.in_ok-types.types.items) c.args.kernel.now.left
    c.normal.new.self.left c.plain_normals.new.kernel.left c.normal-2.new.self.left
    c.as_slice.ensures c.in_ok-goal.ensures.answer (rw c.in_ok-goal.ensures.same at c.in_ok-types.ensures.answer)
    (c.in_ok-scrutinee.ensures.answer
    ∙ ap (λ S. plain_normal_of S (tree_of c.args.scrutinee.now) c.plain_normals.new.kernel.left) (c.in_ok-types.ensures.kernel ∙ c.in_ok-goal.ensures.same)))

pub returns-clause-answer : goal.returns-clause-answer
returns-clause-answer c = normal c

pub returns-clause-over : goal.returns-clause-over
returns-clause-over c =
    meant-has (AreFormsOver (length c.args.ctx.now)) _ _ _ (normal c)
    (forms-over_context c.args.kernel.now.signature c.args.ctx.now (tree_of c.args.goal.now) (tree_of c.args.scrutinee.now) c.args.kernel.now.left
    c.requires.given.signature c.requires.given.context c.requires.given.terms.0 c.requires.given.terms.1.0)
