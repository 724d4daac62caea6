use Rattle.std.proofs.Common.{◌≤◌, ◌+◌, ◌-◌, true, [], ◌∷◌, ◌∙◌, inl, inr, refl, ap, sym, Ok, Err, subst as transport, arith}
use Rattle.std.proofs.lemmas.Result.{err_from_is_err_and}
use Rattle.theory.specs.Terms.{Var, Pi, Lam, App, height, subst as put}
use Rattle.theory.specs.Substitutions.{fill, inst, ups}
use Rattle.core_terms.specs.Verdicts.{Yes}
use Rattle.core_terms.specs.declared.stop.Stop.TheVariants.{Deep}
use Rattle.kernel_reduce.specs.Reduction.{answered}
use Rattle.term_pool.specs.Instantiation.{trees_of}
use Rattle.term_pool.specs.Nodes.{says, AllPass}
use Rattle.term_pool.specs.Parts.{IsPart}
use Rattle.core_sig.proofs.StandingEntries.{stands-stay}
use Rattle.store_reduce.proofs.Adding.{adds-parts, lacks-parts}
use Rattle.store_reduce.specs.Formed.{IsFormedPart}
use Rattle.store_reduce.proofs.FormedParts.{first-formed}
use Rattle.kernel_check.specs.Checking.{infer_of, infer_sort_of, check_of, infer_form, apply_product, reduced_product}
use Rattle.kernel_check.specs.Decided as decided
use Rattle.kernel_check.specs.Decided.{Decides}
use Rattle.kernel_check.specs.Applications.{IsAppliedPart}
use Rattle.kernel_check.specs.Opened.{Opens, filled_tree}
use Rattle.kernel_check.specs.Asked.{IsArgumentPart, IsCheckedPart}
use Rattle.kernel_check.specs.Scopes.{CanCheckIn, scope_in}
use Rattle.kernel_check.specs.declared.verdict.VerdictIn.TheVariants.{No}
use Rattle.kernel_check.proofs.CheckedAdding.{against-before, checked-before, argument-before, applied-before}
use Rattle.kernel_check.proofs.CheckedAnswers.{application-is, argument-same, typed-same, product-then, function-then, body-then, application-then, applied-then, local-then, value-then, sort-then, check-then, at-then, codomain-then, apply-other, infer-none, sort-none, check-none, sort-is, check-is, infer-is, infer-fuel, form-leaf, product_of-product, product_of-then, product_of-refused, reduced-product, reduced-other, reduced-yes, rest-then, rest-refused}
use Rattle.kernel_check.proofs.CheckedParts.{type-part, domain-part, codomain-part, argument_type-part, body-part, function-part, value_type-part, value-part, rest-part, applied-part, function_type-part, itself-part, leaf-part, way-part, against-part, finds-by, head-formed, way-formed, product-formed}
use Rattle.kernel_check.proofs.Conditions.{behind-yes, can-kept_of, can-kept_id, can-kept_as, can-fewer, can-domain, can-codomain, can-argument_type, can-body, can-head, can-function, can-argument, can-value_type, can-value, can-rest, can-indices, can-inner, can-reduce, can-compare, can-inferred, can-product, pair-kept, let-kept}
use Rattle.kernel_check.proofs.Deciding.{decided as decided-by, decided-denied, decided-deep, decided-free, decided-fuel, decided-made, decides-behind, denied-by, found, goes-after, goes-on, meant-as, more-of, refused, spent-before, stopped, yes-given, yes-now}
use Rattle.kernel_check.proofs.Filling.{codomain-kept, found-low, will_fill, will_fill-kept}
use Rattle.kernel_check.proofs.Opening.{denied-open, found-open, opens-after, opens-as, opens-behind, opens-denial, opens-filled, opens-more, opens-plain, opens-refusal, opens-spent, refused-open}
use Rattle.kernel_check.proofs.TypedAnswers.{typed-low}
use Rattle.kernel_check.proofs.LiveScopes.{live-kept, scope-kept, can-kept}
use Rattle.kernel_check.proofs.checking.+check.Goals as goal

pub infer_product-infer_sort_at-requires : goal.infer_product-infer_sort_at-requires
infer_product-infer_sort_at-requires g t c =
    λ κs h. (omega (arith, c.decreases), (h.0, (h.1, (c.requires.ids, (c.requires.a_live, can-domain c.requires.can)))))

pub infer_product-infer_codomain-requires : goal.infer_product-infer_codomain-requires
infer_product-infer_codomain-requires g t c =
    let d = decides-behind 0 c.behind_in.result c.infer_sort_at.ensures c.behind_in.ensures.answer c.behind_in.ensures.live c.behind_in.ensures.refused in
    let y = found d c.in_ok-i.was c.in-Yes.is in
    let e = y.extends in
    λ κs h. (
      omega (arith, c.decreases),
      (
        h.0,
        (
          h.1,
          (
            stands-stay _ _ e _ _ c.requires.ids,
            (
              y.live,
              (
                e.lives _ c.requires.a_live,
                (
                  e.lives _ c.requires.b_live,
                  can-kept_of e (pair-kept e Pi c.requires.a_live c.requires.b_live) c.requires.can,
                ),
              ),
            ),
          ),
        ),
      ),
    )

pub infer_product-returns-in_err-i : goal.infer_product-returns-in_err-i
infer_product-returns-in_err-i g t c =
    let old = g.S.TermStore.held c.args.store.now in
    let G = scope_in old.tree c.args.scope.now in
    let q = err_from_is_err_and c.from_residual.result c.from_residual.ensures.1 in
    let d = decides-behind 0 c.behind_in.result c.infer_sort_at.ensures c.behind_in.ensures.answer c.behind_in.ensures.live c.behind_in.ensures.refused in
    refused (decided.infer_codomain (infer_sort_of c.args.sig.now c.args.room) G (old.tree c.args.a) (old.tree c.args.b)) d c.in_err-i.was (q.1 ∙ ap Err q.2)
    domain-part

pub infer_product-returns-in-No : goal.infer_product-returns-in-No
infer_product-returns-in-No g t c =
    let old = g.S.TermStore.held c.args.store.now in
    let G = scope_in old.tree c.args.scope.now in
    let d = decides-behind 0 c.behind_in.result c.infer_sort_at.ensures c.behind_in.ensures.answer c.behind_in.ensures.live c.behind_in.ensures.refused in
    denied-by (decided.infer_codomain (infer_sort_of c.args.sig.now c.args.room) G (old.tree c.args.a) (old.tree c.args.b)) d c.in_ok-i.was c.in-No.is
    domain-part

pub infer_product-returns-in-Yes : goal.infer_product-returns-in-Yes
infer_product-returns-in-Yes g t c =
    let old = g.S.TermStore.held c.args.store.now in
    let mid = g.S.TermStore.held c.infer_sort_at.new.store in
    let G = scope_in old.tree c.args.scope.now in
    let K = scope_in mid.tree c.args.scope.now in
    let d = decides-behind 0 c.behind_in.result c.infer_sort_at.ensures c.behind_in.ensures.answer c.behind_in.ensures.live c.behind_in.ensures.refused in
    let y = found d c.in_ok-i.was c.in-Yes.is in
    let e = y.extends in
    let scopes = scope-kept old mid c.args.scope.now e c.requires.can.context_live in
    goes-on y (c.infer_codomain.ensures)
    (product-then G K scopes (infer_sort_of c.args.sig.now c.args.room) (old.tree c.args.a) (old.tree c.args.b) (mid.tree c.args.a) (mid.tree c.args.b)
    (mid.tree c.in-Yes.i) c.args.units.now.left _ (e.trees _ c.requires.a_live) (e.trees _ c.requires.b_live) y.answer) domain-part
    (checked-before e c.args.scope.now c.requires.can.context_live (pair-kept e Pi c.requires.a_live c.requires.b_live))

pub infer_codomain-infer_sort_at-requires : goal.infer_codomain-infer_sort_at-requires
infer_codomain-infer_sort_at-requires g t c =
    let old = g.S.TermStore.held c.args.store.now in
    λ κs h. (
      omega (arith, c.decreases),
      (
        h.0,
        (
          h.1,
          (
            c.requires.ids,
            (
              c.requires.b_live,
              can-codomain c.args.scope c.args.a (old.tree c.args.b) c.requires.a_live
                  c.requires.can,
            ),
          ),
        ),
      ),
    )

pub infer_codomain-returns-in_err-j : goal.infer_codomain-returns-in_err-j
infer_codomain-returns-in_err-j g t c =
    let old = g.S.TermStore.held c.args.store.now in
    let q = err_from_is_err_and c.from_residual.result c.from_residual.ensures.1 in
    let d = decides-behind 1 c.behind_in.result c.infer_sort_at.ensures c.behind_in.ensures.answer c.behind_in.ensures.live c.behind_in.ensures.refused in
    refused (decided.codomain_sort (old.tree c.args.i)) d c.in_err-j.was (q.1 ∙ ap Err q.2) codomain-part

pub infer_codomain-returns-in-No : goal.infer_codomain-returns-in-No
infer_codomain-returns-in-No g t c =
    let old = g.S.TermStore.held c.args.store.now in
    let d = decides-behind 1 c.behind_in.result c.infer_sort_at.ensures c.behind_in.ensures.answer c.behind_in.ensures.live c.behind_in.ensures.refused in
    denied-by (decided.codomain_sort (old.tree c.args.i)) d c.in_ok-j.was c.in-No.is codomain-part

pub infer_codomain-greater_sort-requires-clause-a_live : goal.infer_codomain-greater_sort-requires-clause-a_live
infer_codomain-greater_sort-requires-clause-a_live g t c =
    let d = decides-behind 1 c.behind_in.result c.infer_sort_at.ensures c.behind_in.ensures.answer c.behind_in.ensures.live c.behind_in.ensures.refused in
    let y = found d c.in_ok-j.was c.in-Yes.is in
    let e = y.extends in
    e.lives _ c.requires.i_live

pub infer_codomain-greater_sort-requires-clause-b_live : goal.infer_codomain-greater_sort-requires-clause-b_live
infer_codomain-greater_sort-requires-clause-b_live g t c =
    let d = decides-behind 1 c.behind_in.result c.infer_sort_at.ensures c.behind_in.ensures.answer c.behind_in.ensures.live c.behind_in.ensures.refused in
    let y = found d c.in_ok-j.was c.in-Yes.is in
    y.live

pub infer_codomain-returns-in-Yes : goal.infer_codomain-returns-in-Yes
infer_codomain-returns-in-Yes g t c =
    let old = g.S.TermStore.held c.args.store.now in
    let mid = g.S.TermStore.held c.infer_sort_at.new.store in
    let d = decides-behind 1 c.behind_in.result c.infer_sort_at.ensures c.behind_in.ensures.answer c.behind_in.ensures.live c.behind_in.ensures.refused in
    let y = found d c.in_ok-j.was c.in-Yes.is in
    let e = y.extends in
    yes-now c.greater_sort.result y c.greater_sort.ensures.live
    (codomain-then _ (old.tree c.args.i) (mid.tree c.in-Yes.j) (mid.tree c.args.i) (mid.tree c.greater_sort.result) _ y.answer c.greater_sort.ensures.answer
    (e.trees _ c.requires.i_live) c.greater_sort.ensures.low) codomain-part

pub infer_function-infer_sort_at-requires : goal.infer_function-infer_sort_at-requires
infer_function-infer_sort_at-requires g t c =
    λ κs h. (omega (arith, c.decreases), (h.0, (h.1, (c.requires.ids, (c.requires.a_live, can-argument_type c.requires.can)))))

pub infer_function-infer_body-requires : goal.infer_function-infer_body-requires
infer_function-infer_body-requires g t c =
    let d = decides-behind 0 c.behind_in.result c.infer_sort_at.ensures c.behind_in.ensures.answer c.behind_in.ensures.live c.behind_in.ensures.refused in
    let y = found d c.in_ok-behind_in.was c.in-Yes.is in
    let e = y.extends in
    λ κs h. (
      omega (arith, c.decreases),
      (
        h.0,
        (
          h.1,
          (
            stands-stay _ _ e _ _ c.requires.ids,
            (
              e.lives _ c.requires.a_live,
              (
                e.lives _ c.requires.b_live,
                can-kept_of e
                    (pair-kept e Lam c.requires.a_live c.requires.b_live) c.requires.can,
              ),
            ),
          ),
        ),
      ),
    )

pub infer_function-returns-in_err-behind_in : goal.infer_function-returns-in_err-behind_in
infer_function-returns-in_err-behind_in g t c =
    let old = g.S.TermStore.held c.args.store.now in
    let G = scope_in old.tree c.args.scope.now in
    let q = err_from_is_err_and c.from_residual.result c.from_residual.ensures.1 in
    let d = decides-behind 0 c.behind_in.result c.infer_sort_at.ensures c.behind_in.ensures.answer c.behind_in.ensures.live c.behind_in.ensures.refused in
    refused (decided.infer_function_body (infer_of c.args.sig.now c.args.room) G (old.tree c.args.a) (old.tree c.args.b)) d c.in_err-behind_in.was
    (q.1 ∙ ap Err q.2) argument_type-part

pub infer_function-returns-in-No : goal.infer_function-returns-in-No
infer_function-returns-in-No g t c =
    let old = g.S.TermStore.held c.args.store.now in
    let G = scope_in old.tree c.args.scope.now in
    let d = decides-behind 0 c.behind_in.result c.infer_sort_at.ensures c.behind_in.ensures.answer c.behind_in.ensures.live c.behind_in.ensures.refused in
    denied-by (decided.infer_function_body (infer_of c.args.sig.now c.args.room) G (old.tree c.args.a) (old.tree c.args.b)) d c.in_ok-behind_in.was c.in-No.is
    argument_type-part

pub infer_function-returns-in-Yes : goal.infer_function-returns-in-Yes
infer_function-returns-in-Yes g t c =
    let old = g.S.TermStore.held c.args.store.now in
    let mid = g.S.TermStore.held c.infer_sort_at.new.store in
    let G = scope_in old.tree c.args.scope.now in
    let K = scope_in mid.tree c.args.scope.now in
    let d = decides-behind 0 c.behind_in.result c.infer_sort_at.ensures c.behind_in.ensures.answer c.behind_in.ensures.live c.behind_in.ensures.refused in
    let y = found d c.in_ok-behind_in.was c.in-Yes.is in
    let e = y.extends in
    let scopes = scope-kept old mid c.args.scope.now e c.requires.can.context_live in
    goes-on y (c.infer_body.ensures)
    (function-then G K scopes (infer_of c.args.sig.now c.args.room) (infer_sort_of c.args.sig.now c.args.room) (old.tree c.args.a) (old.tree c.args.b) (mid.tree
    c.args.a) (mid.tree c.args.b) _ c.args.units.now.left _ (e.trees _ c.requires.a_live) (e.trees _ c.requires.b_live) y.answer) argument_type-part
    (checked-before e c.args.scope.now c.requires.can.context_live (pair-kept e Lam c.requires.a_live c.requires.b_live))

pub infer_body-infer_at-requires : goal.infer_body-infer_at-requires
infer_body-infer_at-requires g t c =
    let old = g.S.TermStore.held c.args.store.now in
    λ κs h. (
      omega (arith, c.decreases),
      (
        h.0,
        (
          h.1,
          (
            c.requires.ids,
            (
              c.requires.b_live,
              can-body c.args.scope c.args.a (old.tree c.args.b) c.requires.a_live
                  c.requires.can,
            ),
          ),
        ),
      ),
    )

pub infer_body-function_type-requires-clause-context : goal.infer_body-function_type-requires-clause-context
infer_body-function_type-requires-clause-context g t c =
    let d = decides-behind 1 c.behind_in.result c.infer_at.ensures c.behind_in.ensures.answer c.behind_in.ensures.live c.behind_in.ensures.refused in
    let y = found d c.in_ok-ty.was c.in-Yes.is in
    let e = y.extends in
    live-kept _ _ c.args.scope.now e c.requires.can.context_live

pub infer_body-function_type-requires-clause-a_live : goal.infer_body-function_type-requires-clause-a_live
infer_body-function_type-requires-clause-a_live g t c =
    let d = decides-behind 1 c.behind_in.result c.infer_at.ensures c.behind_in.ensures.answer c.behind_in.ensures.live c.behind_in.ensures.refused in
    let y = found d c.in_ok-ty.was c.in-Yes.is in
    let e = y.extends in
    e.lives _ c.requires.a_live

pub infer_body-function_type-requires-clause-ty_live : goal.infer_body-function_type-requires-clause-ty_live
infer_body-function_type-requires-clause-ty_live g t c =
    let d = decides-behind 1 c.behind_in.result c.infer_at.ensures c.behind_in.ensures.answer c.behind_in.ensures.live c.behind_in.ensures.refused in
    let y = found d c.in_ok-ty.was c.in-Yes.is in
    y.live

pub infer_body-returns-in_err-ty : goal.infer_body-returns-in_err-ty
infer_body-returns-in_err-ty g t c =
    let old = g.S.TermStore.held c.args.store.now in
    let G = scope_in old.tree c.args.scope.now in
    let q = err_from_is_err_and c.from_residual.result c.from_residual.ensures.1 in
    let d = decides-behind 1 c.behind_in.result c.infer_at.ensures c.behind_in.ensures.answer c.behind_in.ensures.live c.behind_in.ensures.refused in
    refused (decided.product_type G (old.tree c.args.a)) d c.in_err-ty.was (q.1 ∙ ap Err q.2) body-part

pub infer_body-returns-in-No : goal.infer_body-returns-in-No
infer_body-returns-in-No g t c =
    let old = g.S.TermStore.held c.args.store.now in
    let G = scope_in old.tree c.args.scope.now in
    let d = decides-behind 1 c.behind_in.result c.infer_at.ensures c.behind_in.ensures.answer c.behind_in.ensures.live c.behind_in.ensures.refused in
    denied-by (decided.product_type G (old.tree c.args.a)) d c.in_ok-ty.was c.in-No.is body-part

pub infer_body-returns-in-Yes : goal.infer_body-returns-in-Yes
infer_body-returns-in-Yes g t c =
    let old = g.S.TermStore.held c.args.store.now in
    let mid = g.S.TermStore.held c.infer_at.new.store in
    let G = scope_in old.tree c.args.scope.now in
    let K = scope_in mid.tree c.args.scope.now in
    let d = decides-behind 1 c.behind_in.result c.infer_at.ensures c.behind_in.ensures.answer c.behind_in.ensures.live c.behind_in.ensures.refused in
    let y = found d c.in_ok-ty.was c.in-Yes.is in
    let e = y.extends in
    let scopes = scope-kept old mid c.args.scope.now e c.requires.can.context_live in
    goes-on y
    (decided-made c.function_type.result (Pi (mid.tree c.args.a) (mid.tree c.in-Yes.ty)) c.function_type.ensures.answer c.function_type.ensures.live
    c.function_type.ensures.extends c.function_type.ensures.adds c.function_type.ensures.full)
    (body-then G K scopes (infer_of c.args.sig.now c.args.room) (old.tree c.args.a) (old.tree c.args.b) (mid.tree c.args.a) (mid.tree c.in-Yes.ty)
    c.args.units.now.left _ (e.trees _ c.requires.a_live) y.answer) body-part
    (function_type-part (finds-by c.args.sig.now c.args.room ((old.tree c.args.a) ∷ G) (old.tree c.args.b) (mid.tree c.in-Yes.ty) c.args.units.now.left _
    (behind-yes 1 (infer_of c.args.sig.now c.args.room ((old.tree c.args.a) ∷ G) (old.tree c.args.b) c.args.units.now.left) (mid.tree c.in-Yes.ty) _ y.answer))
    (e.trees _ c.requires.a_live))

pub applications::infer_application-open_application-requires : goal.applications::infer_application-open_application-requires
applications::infer_application-open_application-requires g t c =
    λ κs h. (omega (arith, c.decreases), (h.0, (h.1, (c.requires.ids, (c.requires.f_live, (c.requires.u_live, (c.requires.can, c.new-filled.ensures)))))))

pub applications::infer_application-returns-in_err-ty : goal.applications::infer_application-returns-in_err-ty
applications::infer_application-returns-in_err-ty g t c =
    let q = err_from_is_err_and c.from_residual.result c.from_residual.ensures.1 in
    refused-open c.open_application.ensures c.in_err-ty.was (q.1 ∙ ap Err q.2)

pub applications::infer_application-close-requires-clause-live : goal.applications::infer_application-close-requires-clause-live
applications::infer_application-close-requires-clause-live g t c =
    let y = found-open c.open_application.ensures c.in_ok-ty.was c.in-Yes.is in
    y.live

pub applications::infer_application-close-requires-clause-values : goal.applications::infer_application-close-requires-clause-values
applications::infer_application-close-requires-clause-values g t c =
    let y = found-open c.open_application.ensures c.in_ok-ty.was c.in-Yes.is in
    y.filled_with.values

pub applications::infer_application-returns-in-Yes : goal.applications::infer_application-returns-in-Yes
applications::infer_application-returns-in-Yes g t c =
    let old = g.S.TermStore.held c.args.store.now in
    let mid = g.S.TermStore.held c.open_application.new.store in
    let G = scope_in old.tree c.args.scope.now in
    let y = found-open c.open_application.ensures c.in_ok-ty.was c.in-Yes.is in
    let C = filled_tree mid c.open_application.new.filled.args.items (mid.tree c.in-Yes.ty) in
    let e = application-is c.args.sig.now c.args.room c.args.units.now.left _ G (old.tree c.args.f) (old.tree c.args.u) C c.requires.low y.answer in
    let found = finds-by c.args.sig.now (c.args.room + 1) G (App (old.tree c.args.f) (old.tree c.args.u)) C (c.args.units.now.left + 1) _ e in
    let low = found-low c.args.sig.now (c.args.room + 1) (c.args.units.now.left + 1) _ G (App (old.tree c.args.f) (old.tree c.args.u)) C e in
    goes-after y.extends y.adds y.sum y.spends (decided-made c.close.result C c.close.ensures.answer c.close.ensures.live c.close.ensures.extends c.close.ensures.adds c.close.ensures.full)
    (ap (λ r. answered r c.open_application.new.units.left) (typed-low C low) ∙ y.answer) (λ x p. p) (type-part found)

pub applications::open_application-open_at-requires : goal.applications::open_application-open_at-requires
applications::open_application-open_at-requires g t c =
    λ κs h. (omega (arith, c.decreases), (h.0, (h.1, (c.requires.ids, (c.requires.f_live, (can-function c.requires.can, c.requires.none))))))

pub applications::open_application-fill_next-requires : goal.applications::open_application-fill_next-requires
applications::open_application-fill_next-requires g t c =
    let old = g.S.TermStore.held c.args.store.now in
    let mid = g.S.TermStore.held c.open_at.new.store in
    let G = scope_in old.tree c.args.scope.now in
    let d = opens-behind 0 c.behind_in.result c.open_at.ensures c.behind_in.ensures.answer c.behind_in.ensures.live c.behind_in.ensures.refused in
    let y = found-open d c.in_ok-ty.was c.in-Yes.is in
    let C = filled_tree mid c.open_at.new.filled.args.items (mid.tree c.in-Yes.ty) in
    let e = behind-yes 0 (infer_of c.args.sig.now c.args.room G (old.tree c.args.f) c.args.units.now.left) C _ y.answer in
    λ κs h. (omega (arith, c.decreases), (h.0, (h.1, (stands-stay _ _ y.extends _ _ c.requires.ids, (y.extends.lives _ c.requires.u_live, (y.live, (can-kept_id y.extends c.requires.u_live (can-argument c.requires.can), (can-kept old mid c.args.sig.now _ c.args.scope.now C y.extends (can-inferred (can-head c.requires.can) c.args.room c.args.units.now.left _ C e), (y.filled_with, found-low c.args.sig.now c.args.room c.args.units.now.left _ G (old.tree c.args.f) C e)))))))))

pub applications::open_application-returns-in_err-ty : goal.applications::open_application-returns-in_err-ty
applications::open_application-returns-in_err-ty g t c =
    let old = g.S.TermStore.held c.args.store.now in
    let G = scope_in old.tree c.args.scope.now in
    let q = err_from_is_err_and c.from_residual.result c.from_residual.ensures.1 in
    let d = opens-behind 0 c.behind_in.result c.open_at.ensures c.behind_in.ensures.answer c.behind_in.ensures.live c.behind_in.ensures.refused in
    opens-refusal c.open_at.new.filled (q.1 ∙ ap Err q.2) (refused (decided.apply_typed c.args.sig.now (infer_sort_of c.args.sig.now c.args.room) (check_of c.args.sig.now c.args.room) G (old.tree c.args.u)) (refused-open d c.in_err-ty.was refl) refl (q.1 ∙ ap Err q.2) function-part)

pub applications::open_application-returns-in-No : goal.applications::open_application-returns-in-No
applications::open_application-returns-in-No g t c =
    let old = g.S.TermStore.held c.args.store.now in
    let G = scope_in old.tree c.args.scope.now in
    let d = opens-behind 0 c.behind_in.result c.open_at.ensures c.behind_in.ensures.answer c.behind_in.ensures.live c.behind_in.ensures.refused in
    opens-denial c.open_at.new.filled (denied-by (decided.apply_typed c.args.sig.now (infer_sort_of c.args.sig.now c.args.room) (check_of c.args.sig.now c.args.room) G (old.tree c.args.u)) (denied-open d c.in_ok-ty.was c.in-No.is) refl refl function-part)

pub applications::open_application-returns-in-Yes : goal.applications::open_application-returns-in-Yes
applications::open_application-returns-in-Yes g t c =
    let old = g.S.TermStore.held c.args.store.now in
    let mid = g.S.TermStore.held c.open_at.new.store in
    let G = scope_in old.tree c.args.scope.now in
    let K = scope_in mid.tree c.args.scope.now in
    let d = opens-behind 0 c.behind_in.result c.open_at.ensures c.behind_in.ensures.answer c.behind_in.ensures.live c.behind_in.ensures.refused in
    let y = found-open d c.in_ok-ty.was c.in-Yes.is in
    let C = filled_tree mid c.open_at.new.filled.args.items (mid.tree c.in-Yes.ty) in
    let e = behind-yes 0 (infer_of c.args.sig.now c.args.room G (old.tree c.args.f) c.args.units.now.left) C _ y.answer in
    let scopes = scope-kept old mid c.args.scope.now y.extends c.requires.can.context_live in
    opens-after y.extends y.adds y.sum y.spends c.fill_next.ensures
    (application-then G K scopes c.args.sig.now (infer_of c.args.sig.now c.args.room) (infer_sort_of c.args.sig.now c.args.room) (check_of c.args.sig.now c.args.room) (old.tree c.args.f) (old.tree c.args.u) (mid.tree c.args.u) C c.args.units.now.left _ (y.extends.trees _ c.requires.u_live) y.answer)
    function-part
    (λ x p. applied-part (finds-by c.args.sig.now c.args.room G (old.tree c.args.f) C c.args.units.now.left _ e) x (applied-before y.extends c.args.scope.now c.requires.can.context_live {S = c.args.sig.now} {c = C} (y.extends.trees _ c.requires.u_live) x p))

pub applications::open_at-returns-then-room-eq0 : goal.applications::open_at-returns-then-room-eq0
applications::open_at-returns-then-room-eq0 g t c =
    let old = g.S.TermStore.held c.args.store.now in
    let G = scope_in old.tree c.args.scope.now in
    opens-plain c.args.filled.now (Err Deep) c.requires.none (decided-deep _ old c.args.units.now _ (infer-none c.args.sig.now c.args.room c.args.units.now.left G (old.tree c.args.t) (omega (arith, c.if-room-eq0.true))))

pub applications::open_at-open_application-requires : goal.applications::open_at-open_application-requires
applications::open_at-open_application-requires g t c =
    let old = g.S.TermStore.held c.args.store.now in
    let is = c.look.ensures.says ∙ ap (says old.tree) c.in-App.is in
    let parts = transport (AllPass old.live) c.in-App.is c.look.ensures.live in
    λ κs h. (omega (arith, c.decreases), (h.0, (h.1, (c.requires.ids, (parts.0, (parts.1, (can-fewer ((c.args.room - 1) + 1) (transport (CanCheckIn old c.args.sig.now c.args.room c.args.scope.now) is c.requires.can) (omega arith), c.requires.none)))))))

pub applications::open_at-returns-in_ok-spend-in-App : goal.applications::open_at-returns-in_ok-spend-in-App
applications::open_at-returns-in_ok-spend-in-App g t c =
    let old = g.S.TermStore.held c.args.store.now in
    let G = scope_in old.tree c.args.scope.now in
    let is = c.look.ensures.says ∙ ap (says old.tree) c.in-App.is in
    transport
    (λ x. Opens (IsCheckedPart c.args.sig.now G x) old (g.S.TermStore.held c.open_application.new.store) c.args.units.now c.open_application.new.units c.open_application.new.filled
    c.open_application.result (infer_of c.args.sig.now c.args.room G x c.args.units.now.left)) (sym is)
    (opens-spent (omega (arith, c.in_ok-spend-in-App.ensures.total)) (omega (arith, c.in_ok-spend-in-App.ensures.spends))
    (opens-as (infer-is c.args.sig.now c.args.room (c.args.room - 1) c.args.units.now.left c.spend.new.self.left G (App (old.tree c.in-App.f) (old.tree c.in-App.u)) (omega (arith, c.if-room-eq0.false))
    (omega (arith, c.in_ok-spend-in-App.ensures.ok)) (transport (λ x. height x ≤ 2000) is c.look.ensures.low)) c.open_application.ensures))

pub applications::open_at-infer_at-requires : goal.applications::open_at-infer_at-requires
applications::open_at-infer_at-requires g t c =
    λ κs h. (omega (arith, c.decreases), (h.0, (h.1, (c.requires.ids, (c.requires.t_live, c.requires.can)))))

pub applications::open_at-returns-in_default : goal.applications::open_at-returns-in_default
applications::open_at-returns-in_default g t c =
    opens-plain c.args.filled.now c.infer_at.result c.requires.none c.infer_at.ensures

pub applications::fill_next-fill_closed-requires : goal.applications::fill_next-fill_closed-requires
applications::fill_next-fill_closed-requires g t c =
    λ κs h. (omega (arith, c.decreases), (h.0, (h.1, (c.requires.ids, (c.requires.u_live, (c.requires.ty_live, (c.requires.argument, (c.requires.function, (c.requires.filled, c.requires.low)))))))))

pub applications::fill_next-returns-then-not-stays_low : goal.applications::fill_next-returns-then-not-stays_low
applications::fill_next-returns-then-not-stays_low g t c =
    c.fill_closed.ensures

pub applications::fill_next-fill_product-requires : goal.applications::fill_next-fill_product-requires
applications::fill_next-fill_product-requires g t c =
    let old = g.S.TermStore.held c.args.store.now in
    let is = c.look.ensures.says ∙ ap (says old.tree) c.in-Pi.is in
    let parts = transport (AllPass old.live) c.in-Pi.is c.look.ensures.live in
    λ κs h. (
      omega (arith, c.decreases),
      (
        h.0,
        (
          h.1,
          (
            c.requires.ids,
            (
              c.requires.u_live,
              (
                parts.0,
                (
                  parts.1,
                  (
                    c.requires.argument,
                    (
                      transport (λ x. CanCheckIn old c.args.sig.now (c.args.room + 1) c.args.scope.now (filled_tree old c.args.filled.now.args.items x)) is c.requires.function,
                      (
                        will_fill c.args.filled.now c.args.u c.in-Pi.b (old.tree c.in-Pi.a) c.highest_with-highest.result c.requires.filled (can-inner c.requires.argument) c.highest_with-highest.ensures.filled
                            (omega (arith, c.height.ensures.height, c.highest_with-highest.ensures.more)) (transport (λ x. height x + c.highest_with-highest.result ≤ 2000) is (c.stays_low.ensures c.if-not-stays_low.false)),
                        transport (λ x. height (filled_tree old c.args.filled.now.args.items x) ≤ 2000) is c.requires.low,
                      ),
                    ),
                  ),
                ),
              ),
            ),
          ),
        ),
      ),
    )

pub applications::fill_next-returns-in-Pi : goal.applications::fill_next-returns-in-Pi
applications::fill_next-returns-in-Pi g t c =
    let old = g.S.TermStore.held c.args.store.now in
    let G = scope_in old.tree c.args.scope.now in
    let is = c.look.ensures.says ∙ ap (says old.tree) c.in-Pi.is in
    let C = filled_tree old c.args.filled.now.args.items (Pi (old.tree c.in-Pi.a) (old.tree c.in-Pi.b)) in
    transport
    (λ x. Opens (IsAppliedPart c.args.sig.now G (old.tree c.args.u) (filled_tree old c.args.filled.now.args.items x)) old (g.S.TermStore.held c.fill_product.new.store) c.args.units.now c.fill_product.new.units
    c.fill_product.new.filled c.fill_product.result (decided.apply_typed c.args.sig.now (infer_sort_of c.args.sig.now c.args.room) (check_of c.args.sig.now c.args.room) G (old.tree c.args.u) (filled_tree old c.args.filled.now.args.items x) c.args.units.now.left)) (sym is)
    (opens-more c.fill_product.result (λ x p. inr (C, (first-formed c.args.sig.now true C [], p))) c.fill_product.ensures)

pub applications::fill_next-returns-in_default : goal.applications::fill_next-returns-in_default
applications::fill_next-returns-in_default g t c =
    c.fill_closed-in_default.ensures

pub applications::fill_closed-closed_type-requires-clause-values : goal.applications::fill_closed-closed_type-requires-clause-values
applications::fill_closed-closed_type-requires-clause-values g t c =
    c.requires.filled.values

pub applications::fill_closed-returns-in_err-made : goal.applications::fill_closed-returns-in_err-made
applications::fill_closed-returns-in_err-made g t c =
    let old = g.S.TermStore.held c.args.store.now in
    let new = g.S.TermStore.held c.closed_type.new.store in
    let q = err_from_is_err_and c.from_residual.result c.from_residual.ensures.1 in
    let C = filled_tree old c.args.filled.now.args.items (old.tree c.args.ty) in
    opens-refusal c.args.filled.now (q.1 ∙ ap Err q.2)
    (stopped (q.1 ∙ ap Err q.2) (λ memory full. absurd (omega (arith, (c.in_err-made.ensures.makes memory full).1, c.requires.low))) c.in_err-made.ensures.extends
    (adds-parts (λ x. IsPart x C) C old new (λ x p. p) c.in_err-made.ensures.adds) (λ full. lacks-parts (λ x. IsPart x C) C new (λ x p. p) (c.in_err-made.ensures.full full)) refl (omega arith)
    (λ x p. inl (inl (record { whole = C; formed = first-formed c.args.sig.now true C []; part = p }))))

pub applications::fill_closed-apply_typed-requires : goal.applications::fill_closed-apply_typed-requires
applications::fill_closed-apply_typed-requires g t c =
    let e = c.in_ok-made.ensures.extends in
    λ κs h. (omega (arith, c.decreases), (h.0, (h.1, (stands-stay _ _ e _ _ c.requires.ids, (e.lives _ c.requires.u_live, (c.in_ok-made.ensures.makes.0, (can-kept_id e c.requires.u_live c.requires.argument, can-kept_of e c.in_ok-made.ensures.makes.1 c.requires.function)))))))

pub applications::fill_closed-returns : goal.applications::fill_closed-returns
applications::fill_closed-returns g t c =
    let old = g.S.TermStore.held c.args.store.now in
    let mid = g.S.TermStore.held c.closed_type.new.store in
    let G = scope_in old.tree c.args.scope.now in
    let K = scope_in mid.tree c.args.scope.now in
    let C = filled_tree old c.args.filled.now.args.items (old.tree c.args.ty) in
    let e = c.in_ok-made.ensures.extends in
    let scopes = scope-kept old mid c.args.scope.now e c.requires.function.context_live in
    opens-plain c.clear.new.self c.apply_typed.result c.clear.ensures
    (goes-after e (adds-parts (λ x. IsPart x C) C old mid (λ x p. p) c.in_ok-made.ensures.adds) refl (omega arith) c.apply_typed.ensures
    (typed-same c.args.sig.now (infer_sort_of c.args.sig.now c.args.room) (check_of c.args.sig.now c.args.room) G K scopes (old.tree c.args.u) (mid.tree c.args.u) C (mid.tree c.in_ok-made.made) c.args.units.now.left (e.trees _ c.requires.u_live) c.in_ok-made.ensures.makes.1)
    (λ x p. inl (inl (record { whole = C; formed = first-formed c.args.sig.now true C []; part = p })))
    (λ x p. transport (λ w. IsAppliedPart c.args.sig.now G (old.tree c.args.u) w x) c.in_ok-made.ensures.makes.1
    (applied-before e c.args.scope.now c.requires.function.context_live {S = c.args.sig.now} {c = mid.tree c.in_ok-made.made} (e.trees _ c.requires.u_live) x p)))

pub applications::fill_product-closed_type-requires-clause-values : goal.applications::fill_product-closed_type-requires-clause-values
applications::fill_product-closed_type-requires-clause-values g t c =
    c.requires.more.values

pub applications::fill_product-returns-in_err-domain : goal.applications::fill_product-returns-in_err-domain
applications::fill_product-returns-in_err-domain g t c =
    let old = g.S.TermStore.held c.args.store.now in
    let new = g.S.TermStore.held c.closed_type.new.store in
    let q = err_from_is_err_and c.from_residual.result c.from_residual.ensures.1 in
    let A = filled_tree old c.args.filled.now.args.items (old.tree c.args.a) in
    opens-refusal c.args.filled.now (q.1 ∙ ap Err q.2)
    (stopped (q.1 ∙ ap Err q.2) (λ memory full. absurd (omega (arith, (c.in_err-domain.ensures.makes memory full).1, c.requires.low))) c.in_err-domain.ensures.extends
    (adds-parts (λ x. IsPart x A) A old new (λ x p. p) c.in_err-domain.ensures.adds) (λ full. lacks-parts (λ x. IsPart x A) A new (λ x p. p) (c.in_err-domain.ensures.full full)) refl (omega arith)
    (λ x p. inl (inr (record { whole = A; formed = first-formed c.args.sig.now true A []; part = p }))))

pub applications::fill_product-fill_checked-requires : goal.applications::fill_product-fill_checked-requires
applications::fill_product-fill_checked-requires g t c =
    let e = c.in_ok-domain.ensures.extends in
    λ κs h. (omega (arith, c.decreases), (h.0, (h.1, (stands-stay _ _ e _ _ c.requires.ids, (e.lives _ c.requires.u_live, (c.in_ok-domain.ensures.makes.0, (e.lives _ c.requires.b_live, (can-fewer c.args.room (can-kept_id e c.requires.u_live c.requires.argument) (omega arith), (can-kept_of e c.in_ok-domain.ensures.makes.1 (can-domain c.requires.function), will_fill-kept c.args.filled.now.args.items c.args.u c.args.b c.args.highest e c.requires.u_live c.requires.b_live c.requires.more)))))))))

pub applications::fill_product-returns : goal.applications::fill_product-returns
applications::fill_product-returns g t c =
    let old = g.S.TermStore.held c.args.store.now in
    let mid = g.S.TermStore.held c.closed_type.new.store in
    let G = scope_in old.tree c.args.scope.now in
    let K = scope_in mid.tree c.args.scope.now in
    let A = filled_tree old c.args.filled.now.args.items (old.tree c.args.a) in
    let B = inst (ups (fill Var (trees_of old c.args.filled.now.args.items))) (old.tree c.args.b) in
    let e = c.in_ok-domain.ensures.extends in
    let scopes = scope-kept old mid c.args.scope.now e c.requires.function.context_live in
    opens-after e (adds-parts (λ x. IsPart x A) A old mid (λ x p. p) c.in_ok-domain.ensures.adds) refl (omega arith) c.fill_checked.ensures
    (argument-same (check_of c.args.sig.now c.args.room) G K scopes (old.tree c.args.u) (mid.tree c.args.u) A (mid.tree c.in_ok-domain.domain) B (inst (ups (fill Var (trees_of mid c.args.filled.now.args.items))) (mid.tree c.args.b)) c.args.units.now.left
    (e.trees _ c.requires.u_live) c.in_ok-domain.ensures.makes.1 (codomain-kept c.args.filled.now.args.items e c.requires.more.values c.requires.b_live))
    (λ x p. inl (inr (record { whole = A; formed = first-formed c.args.sig.now true A []; part = p })))
    (λ x p. inl (against-before e c.args.scope.now c.requires.function.context_live {S = c.args.sig.now} (e.trees _ c.requires.u_live) c.in_ok-domain.ensures.makes.1 x p))

pub applications::fill_checked-check_at-requires : goal.applications::fill_checked-check_at-requires
applications::fill_checked-check_at-requires g t c =
    λ κs h. (omega (arith, c.decreases), (h.0, (h.1, (c.requires.ids, (c.requires.u_live, (c.requires.domain_live, (c.requires.argument, c.requires.wanted)))))))

pub applications::fill_checked-returns-in_err-behind_in : goal.applications::fill_checked-returns-in_err-behind_in
applications::fill_checked-returns-in_err-behind_in g t c =
    let old = g.S.TermStore.held c.args.store.now in
    let q = err_from_is_err_and c.from_residual.result c.from_residual.ensures.1 in
    let d = decides-behind 1 c.behind_in.result c.check_at.ensures c.behind_in.ensures.answer c.behind_in.ensures.live c.behind_in.ensures.refused in
    let B = inst (ups (fill Var (trees_of old c.args.filled.now.args.items))) (old.tree c.args.b) in
    opens-refusal c.args.filled.now (q.1 ∙ ap Err q.2) (refused (decided.instance_type B (old.tree c.args.u)) d c.in_err-behind_in.was (q.1 ∙ ap Err q.2) (λ x p. p))

pub applications::fill_checked-returns-in-No : goal.applications::fill_checked-returns-in-No
applications::fill_checked-returns-in-No g t c =
    let old = g.S.TermStore.held c.args.store.now in
    let d = decides-behind 1 c.behind_in.result c.check_at.ensures c.behind_in.ensures.answer c.behind_in.ensures.live c.behind_in.ensures.refused in
    let B = inst (ups (fill Var (trees_of old c.args.filled.now.args.items))) (old.tree c.args.b) in
    opens-denial c.args.filled.now (denied-by (decided.instance_type B (old.tree c.args.u)) d c.in_ok-behind_in.was c.in-No.is (λ x p. p))

pub applications::fill_checked-returns-in_ok-push-in-Yes : goal.applications::fill_checked-returns-in_ok-push-in-Yes
applications::fill_checked-returns-in_ok-push-in-Yes g t c =
    let old = g.S.TermStore.held c.args.store.now in
    let mid = g.S.TermStore.held c.check_at.new.store in
    let d = decides-behind 1 c.behind_in.result c.check_at.ensures c.behind_in.ensures.answer c.behind_in.ensures.live c.behind_in.ensures.refused in
    let y = found d c.in_ok-behind_in.was c.in-Yes.is in
    let B = inst (ups (fill Var (trees_of old c.args.filled.now.args.items))) (old.tree c.args.b) in
    let e = y.extends in
    opens-filled c.args.filled.now.args.items c.args.u c.args.b c.args.highest c.push.new.self B (old.tree c.args.u) y c.in_ok-push-in-Yes.ensures.args c.in_ok-push-in-Yes.ensures.highest
    (will_fill-kept c.args.filled.now.args.items c.args.u c.args.b c.args.highest e c.requires.u_live c.requires.b_live c.requires.more) (e.lives _ c.requires.u_live) (e.lives _ c.requires.b_live)
    (codomain-kept c.args.filled.now.args.items e c.requires.more.values c.requires.b_live) (e.trees _ c.requires.u_live)

pub applications::apply_typed-product_of-requires : goal.applications::apply_typed-product_of-requires
applications::apply_typed-product_of-requires g t c = λ κs h. (omega (arith, c.decreases), (h.0, (h.1, (c.requires.ids, (c.requires.ty_live, c.requires.function)))))

pub applications::apply_typed-apply_product-requires : goal.applications::apply_typed-apply_product-requires
applications::apply_typed-apply_product-requires g t c =
    let old = g.S.TermStore.held c.args.store.now in
    let mid = g.S.TermStore.held c.product_of.new.store in
    let d = c.product_of.ensures in
    let y = found d c.in_ok-product.was c.in-Yes.is in
    let e = y.extends in
    λ κs h. (
      omega (arith, c.decreases),
      (
        h.0,
        (
          h.1,
          (
            stands-stay _ _ e _ _ c.requires.ids,
            (
              e.lives _ c.requires.u_live,
              (
                y.live,
                (
                  can-kept_id e c.requires.u_live
                      c.requires.argument,
                  can-kept old mid c.args.sig.now _ c.args.scope.now (mid.tree c.in-Yes.product) e (can-product c.requires.function c.args.room
                      c.args.units.now.left _ (mid.tree c.in-Yes.product) y.answer),
                ),
              ),
            ),
          ),
        ),
      ),
    )

pub applications::apply_typed-returns-in_err-product : goal.applications::apply_typed-returns-in_err-product
applications::apply_typed-returns-in_err-product g t c =
    let old = g.S.TermStore.held c.args.store.now in
    let G = scope_in old.tree c.args.scope.now in
    let q = err_from_is_err_and c.from_residual.result c.from_residual.ensures.1 in
    let d = c.product_of.ensures in
    refused (apply_product (check_of c.args.sig.now c.args.room) G (old.tree c.args.u)) d c.in_err-product.was (q.1 ∙ ap Err q.2) (λ x p. inl p)

pub applications::apply_typed-returns-in-No : goal.applications::apply_typed-returns-in-No
applications::apply_typed-returns-in-No g t c =
    let old = g.S.TermStore.held c.args.store.now in
    let G = scope_in old.tree c.args.scope.now in
    let d = c.product_of.ensures in
    denied-by (apply_product (check_of c.args.sig.now c.args.room) G (old.tree c.args.u)) d c.in_ok-product.was c.in-No.is (λ x p. inl p)

pub applications::apply_typed-returns-in-Yes : goal.applications::apply_typed-returns-in-Yes
applications::apply_typed-returns-in-Yes g t c =
    let old = g.S.TermStore.held c.args.store.now in
    let mid = g.S.TermStore.held c.product_of.new.store in
    let G = scope_in old.tree c.args.scope.now in
    let K = scope_in mid.tree c.args.scope.now in
    let d = c.product_of.ensures in
    let y = found d c.in_ok-product.was c.in-Yes.is in
    let e = y.extends in
    let scopes = scope-kept old mid c.args.scope.now e c.requires.function.context_live in
    goes-on y (c.apply_product.ensures)
    (applied-then G K scopes c.args.sig.now (infer_sort_of c.args.sig.now c.args.room) (check_of c.args.sig.now c.args.room) (old.tree c.args.u) (mid.tree
    c.args.u) (old.tree c.args.ty) (mid.tree c.in-Yes.product) c.args.units.now.left _ (e.trees _ c.requires.u_live) y.answer) (λ x p. inl p)
    (λ x p. inr (
      (mid.tree c.in-Yes.product),
      (
        product-formed c.args.sig.now (infer_sort_of c.args.sig.now c.args.room) G (old.tree c.args.ty) (mid.tree
            c.in-Yes.product) c.args.units.now.left _ y.answer,
        argument-before e c.args.scope.now c.requires.function.context_live c.args.sig.now (mid.tree
            c.in-Yes.product) (e.trees _ c.requires.u_live) x p,
      ),
    ))

pub applications::product_of-whnf_in-requires-clause-asked : goal.applications::product_of-whnf_in-requires-clause-asked
applications::product_of-whnf_in-requires-clause-asked g t c = can-reduce c.requires.can

pub applications::product_of-reduced_product-requires : goal.applications::product_of-reduced_product-requires
applications::product_of-reduced_product-requires g t c =
    let mid = g.S.TermStore.held c.whnf_in.new.store in
    let e = c.in_ok-reduced.ensures.extends in
    λ κs h. (
      omega (arith, c.decreases),
      (
        h.0,
        (
          h.1,
          (
            stands-stay _ _ e _ _ c.requires.ids,
            (
              c.in_ok-reduced.ensures.live,
              can-kept_as e (mid.tree
                  c.in_ok-reduced.reduced) (can-fewer c.args.room c.requires.can (omega arith)) (c.in_ok-reduced.ensures.scoped _ c.requires.can.term),
            ),
          ),
        ),
      ),
    )

pub applications::product_of-returns-then-is_product : goal.applications::product_of-returns-then-is_product
applications::product_of-returns-then-is_product g t c =
    let old = g.S.TermStore.held c.args.store.now in
    let G = scope_in old.tree c.args.scope.now in
    yes-given _ old c.args.units.now c.args.ty _ c.requires.ty_live
    (product_of-product c.args.sig.now (infer_sort_of c.args.sig.now c.args.room) G (old.tree c.args.ty) c.args.units.now.left (sym c.is_product.ensures ∙
    c.if-is_product.true))

pub applications::product_of-returns-in_err-reduced : goal.applications::product_of-returns-in_err-reduced
applications::product_of-returns-in_err-reduced g t c =
    let old = g.S.TermStore.held c.args.store.now in
    let G = scope_in old.tree c.args.scope.now in
    let q = err_from_is_err_and c.from_residual.result c.from_residual.ensures.1 in
    stopped (q.1 ∙ ap Err q.2)
    (λ memory full. product_of-refused c.args.sig.now (infer_sort_of c.args.sig.now c.args.room) G (old.tree c.args.ty) c.args.units.now.left _ _ (sym
    c.is_product.ensures ∙ c.if-is_product.false) (c.in_err-reduced.ensures.answer memory full)) c.in_err-reduced.ensures.extends c.in_err-reduced.ensures.adds
    c.in_err-reduced.ensures.full c.in_err-reduced.ensures.sum c.in_err-reduced.ensures.spends (λ x w. inl (way-formed c.args.sig.now (old.tree c.args.ty) x w))

pub applications::product_of-returns : goal.applications::product_of-returns
applications::product_of-returns g t c =
    let old = g.S.TermStore.held c.args.store.now in
    let mid = g.S.TermStore.held c.whnf_in.new.store in
    let G = scope_in old.tree c.args.scope.now in
    let K = scope_in mid.tree c.args.scope.now in
    let e = c.in_ok-reduced.ensures.extends in
    let scopes = scope-kept old mid c.args.scope.now e c.requires.can.context_live in
    goes-after e c.in_ok-reduced.ensures.adds c.in_ok-reduced.ensures.sum c.in_ok-reduced.ensures.spends c.reduced_product.ensures
    (ap (λ K. reduced_product (infer_sort_of c.args.sig.now c.args.room) K (mid.tree c.in_ok-reduced.reduced) c.whnf_in.new.units.left) scopes ∙ product_of-then
    c.args.sig.now (infer_sort_of c.args.sig.now c.args.room) G (old.tree c.args.ty) (mid.tree c.in_ok-reduced.reduced) c.args.units.now.left _ (sym
    c.is_product.ensures ∙ c.if-is_product.false) c.in_ok-reduced.ensures.answer) (λ x w. inl (way-formed c.args.sig.now (old.tree c.args.ty) x w))
    (λ x p. inr (
      (mid.tree c.in_ok-reduced.reduced),
      (
        head-formed c.args.sig.now (old.tree c.args.ty) (mid.tree c.in_ok-reduced.reduced) c.args.units.now.left _
            c.in_ok-reduced.ensures.answer,
        checked-before e c.args.scope.now c.requires.can.context_live refl x p,
      ),
    ))

pub applications::reduced_product-infer_sort_at-requires : goal.applications::reduced_product-infer_sort_at-requires
applications::reduced_product-infer_sort_at-requires g t c = λ κs h. (omega (arith, c.decreases), (h.0, (h.1, (c.requires.ids, (c.requires.reduced_live, c.requires.can)))))

pub applications::reduced_product-returns-in_err-behind_in : goal.applications::reduced_product-returns-in_err-behind_in
applications::reduced_product-returns-in_err-behind_in g t c =
    let old = g.S.TermStore.held c.args.store.now in
    let G = scope_in old.tree c.args.scope.now in
    let q = err_from_is_err_and c.from_residual.result c.from_residual.ensures.1 in
    let d = decides-behind 0 c.behind_in.result c.infer_sort_at.ensures c.behind_in.ensures.answer c.behind_in.ensures.live c.behind_in.ensures.refused in
    meant-as
    (reduced-product (infer_sort_of c.args.sig.now c.args.room) G (old.tree c.args.reduced) c.args.units.now.left (sym c.is_product.ensures ∙
    c.if-not-is_product.false)) (refused (λ i end. answered (Ok (Yes (old.tree c.args.reduced))) end) d c.in_err-behind_in.was (q.1 ∙ ap Err q.2) (λ x p. p))

pub applications::reduced_product-returns-in-No : goal.applications::reduced_product-returns-in-No
applications::reduced_product-returns-in-No g t c =
    let old = g.S.TermStore.held c.args.store.now in
    let G = scope_in old.tree c.args.scope.now in
    let d = decides-behind 0 c.behind_in.result c.infer_sort_at.ensures c.behind_in.ensures.answer c.behind_in.ensures.live c.behind_in.ensures.refused in
    meant-as
    (reduced-product (infer_sort_of c.args.sig.now c.args.room) G (old.tree c.args.reduced) c.args.units.now.left (sym c.is_product.ensures ∙
    c.if-not-is_product.false)) (denied-by (λ i end. answered (Ok (Yes (old.tree c.args.reduced))) end) d c.in_ok-behind_in.was c.in-No.is (λ x p. p))

pub applications::reduced_product-returns-in-Yes : goal.applications::reduced_product-returns-in-Yes
applications::reduced_product-returns-in-Yes g t c =
    let old = g.S.TermStore.held c.args.store.now in
    let mid = g.S.TermStore.held c.infer_sort_at.new.store in
    let G = scope_in old.tree c.args.scope.now in
    let d = decides-behind 0 c.behind_in.result c.infer_sort_at.ensures c.behind_in.ensures.answer c.behind_in.ensures.live c.behind_in.ensures.refused in
    let y = found d c.in_ok-behind_in.was c.in-Yes.is in
    let e = y.extends in
    yes-now c.args.reduced y (e.lives _ c.requires.reduced_live)
    (reduced-yes (infer_sort_of c.args.sig.now c.args.room) G (old.tree c.args.reduced) (mid.tree c.args.reduced) _ c.args.units.now.left _ (sym
    c.is_product.ensures ∙ c.if-not-is_product.false) (e.trees _ c.requires.reduced_live) y.answer) (λ x p. p)

pub applications::reduced_product-returns-then-not-is_product : goal.applications::reduced_product-returns-then-not-is_product
applications::reduced_product-returns-then-not-is_product g t c =
    let old = g.S.TermStore.held c.args.store.now in
    let G = scope_in old.tree c.args.scope.now in
    meant-as
    (reduced-other (infer_sort_of c.args.sig.now c.args.room) G (old.tree c.args.reduced) c.args.units.now.left (sym c.is_product.ensures ∙
    c.if-not-is_product.true)) (decided-denied _ old c.args.units.now c.deny.result _ c.deny.ensures.answer c.deny.ensures.live)

pub applications::apply_product-check_at-requires : goal.applications::apply_product-check_at-requires
applications::apply_product-check_at-requires g t c =
    let old = g.S.TermStore.held c.args.store.now in
    let is = c.look.ensures.says ∙ ap (says old.tree) c.in-Pi.is in
    let parts = transport (AllPass old.live) c.in-Pi.is c.look.ensures.live in
    λ κs h. (
      omega (arith, c.decreases),
      (
        h.0,
        (
          h.1,
          (
            c.requires.ids,
            (
              c.requires.u_live,
              (
                parts.0,
                (
                  can-fewer c.args.room c.requires.argument (omega arith),
                  can-domain
                      (transport (CanCheckIn old c.args.sig.now (c.args.room + 1) c.args.scope.now) is c.requires.function),
                ),
              ),
            ),
          ),
        ),
      ),
    )

pub applications::apply_product-instance_type-requires-clause-b_live : goal.applications::apply_product-instance_type-requires-clause-b_live
applications::apply_product-instance_type-requires-clause-b_live g t c =
    let old = g.S.TermStore.held c.args.store.now in
    let d = decides-behind 1 c.behind_in.result c.check_at.ensures c.behind_in.ensures.answer c.behind_in.ensures.live c.behind_in.ensures.refused in
    let y = found d c.in_ok-behind_in-in-Pi.was c.in-Yes.is in
    let e = y.extends in
    let parts = transport (AllPass old.live) c.in-Pi.is c.look.ensures.live in
    e.lives _ parts.1

pub applications::apply_product-instance_type-requires-clause-u_live : goal.applications::apply_product-instance_type-requires-clause-u_live
applications::apply_product-instance_type-requires-clause-u_live g t c =
    let d = decides-behind 1 c.behind_in.result c.check_at.ensures c.behind_in.ensures.answer c.behind_in.ensures.live c.behind_in.ensures.refused in
    let y = found d c.in_ok-behind_in-in-Pi.was c.in-Yes.is in
    let e = y.extends in
    e.lives _ c.requires.u_live

pub applications::apply_product-instance_type-requires-clause-indices : goal.applications::apply_product-instance_type-requires-clause-indices
applications::apply_product-instance_type-requires-clause-indices g t c =
    let d = decides-behind 1 c.behind_in.result c.check_at.ensures c.behind_in.ensures.answer c.behind_in.ensures.live c.behind_in.ensures.refused in
    let y = found d c.in_ok-behind_in-in-Pi.was c.in-Yes.is in
    let e = y.extends in
    can-indices (can-kept_id e c.requires.u_live c.requires.argument)

pub applications::apply_product-returns-in_err-behind_in-in-Pi : goal.applications::apply_product-returns-in_err-behind_in-in-Pi
applications::apply_product-returns-in_err-behind_in-in-Pi g t c =
    let old = g.S.TermStore.held c.args.store.now in
    let mid = g.S.TermStore.held c.check_at.new.store in
    let G = scope_in old.tree c.args.scope.now in
    let q = err_from_is_err_and c.from_residual.result c.from_residual.ensures.1 in
    let d = decides-behind 1 c.behind_in.result c.check_at.ensures c.behind_in.ensures.answer c.behind_in.ensures.live c.behind_in.ensures.refused in
    let is = c.look.ensures.says ∙ ap (says old.tree) c.in-Pi.is in
    let B = old.tree c.in-Pi.b in
    transport
    (λ p. Decides (IsArgumentPart c.args.sig.now G (old.tree c.args.u) p) old mid c.args.units.now c.check_at.new.units c.from_residual.result (apply_product
    (check_of c.args.sig.now c.args.room) G (old.tree c.args.u) p c.args.units.now.left)) (sym is)
    (refused (decided.instance_type B (old.tree c.args.u)) d c.in_err-behind_in-in-Pi.was (q.1 ∙ ap Err q.2) (λ x p. inl p))

pub applications::apply_product-returns-in-No : goal.applications::apply_product-returns-in-No
applications::apply_product-returns-in-No g t c =
    let old = g.S.TermStore.held c.args.store.now in
    let mid = g.S.TermStore.held c.check_at.new.store in
    let G = scope_in old.tree c.args.scope.now in
    let d = decides-behind 1 c.behind_in.result c.check_at.ensures c.behind_in.ensures.answer c.behind_in.ensures.live c.behind_in.ensures.refused in
    let is = c.look.ensures.says ∙ ap (says old.tree) c.in-Pi.is in
    let B = old.tree c.in-Pi.b in
    transport
    (λ p. Decides (IsArgumentPart c.args.sig.now G (old.tree c.args.u) p) old mid c.args.units.now c.check_at.new.units (Ok (No c.in-No.denial)) (apply_product
    (check_of c.args.sig.now c.args.room) G (old.tree c.args.u) p c.args.units.now.left)) (sym is)
    (denied-by (decided.instance_type B (old.tree c.args.u)) d c.in_ok-behind_in-in-Pi.was c.in-No.is (λ x p. inl p))

pub applications::apply_product-returns-in-Yes : goal.applications::apply_product-returns-in-Yes
applications::apply_product-returns-in-Yes g t c =
    let old = g.S.TermStore.held c.args.store.now in
    let mid = g.S.TermStore.held c.check_at.new.store in
    let G = scope_in old.tree c.args.scope.now in
    let d = decides-behind 1 c.behind_in.result c.check_at.ensures c.behind_in.ensures.answer c.behind_in.ensures.live c.behind_in.ensures.refused in
    let y = found d c.in_ok-behind_in-in-Pi.was c.in-Yes.is in
    let e = y.extends in
    let is = c.look.ensures.says ∙ ap (says old.tree) c.in-Pi.is in
    let parts = transport (AllPass old.live) c.in-Pi.is c.look.ensures.live in
    let A = old.tree c.in-Pi.a in
    let B = old.tree c.in-Pi.b in
    let PU = put (mid.tree c.in-Pi.b) 0 (mid.tree c.args.u) in
    let puts = pair-kept e (λ b u. put b 0 u) parts.1 c.requires.u_live in
    transport
    (λ p. Decides (IsArgumentPart c.args.sig.now G (old.tree c.args.u) p) old (g.S.TermStore.held c.instance_type.new.store) c.args.units.now
    c.check_at.new.units c.instance_type.result (apply_product (check_of c.args.sig.now c.args.room) G (old.tree c.args.u) p c.args.units.now.left)) (sym is)
    (goes-on y (decided-made c.instance_type.result PU c.instance_type.ensures.answer c.instance_type.ensures.live c.instance_type.ensures.extends
    c.instance_type.ensures.adds c.instance_type.ensures.full) (at-then (check_of c.args.sig.now c.args.room) G (old.tree c.args.u) A B _ PU
    c.args.units.now.left _ puts y.answer) (λ x p. inl p) (λ x p. inr (transport (IsPart x) puts p)))

pub applications::apply_product-returns-in_default : goal.applications::apply_product-returns-in_default
applications::apply_product-returns-in_default g t c =
    let old = g.S.TermStore.held c.args.store.now in
    let G = scope_in old.tree c.args.scope.now in
    meant-as
    (apply-other old.tree (check_of c.args.sig.now c.args.room) G (old.tree c.args.u) (old.tree c.args.product) _ c.args.units.now.left c.look.ensures.says
    c.in_default.not-Pi) (decided-denied _ old c.args.units.now c.deny.result _ c.deny.ensures.answer c.deny.ensures.live)

pub infer_local-infer_sort_at-requires : goal.infer_local-infer_sort_at-requires
infer_local-infer_sort_at-requires g t c =
    λ κs h. (omega (arith, c.decreases), (h.0, (h.1, (c.requires.ids, (c.requires.a_live, can-value_type c.requires.can)))))

pub infer_local-infer_value-requires : goal.infer_local-infer_value-requires
infer_local-infer_value-requires g t c =
    let d = decides-behind 0 c.behind_in.result c.infer_sort_at.ensures c.behind_in.ensures.answer c.behind_in.ensures.live c.behind_in.ensures.refused in
    let y = found d c.in_ok-behind_in.was c.in-Yes.is in
    let e = y.extends in
    λ κs h. (
      omega (arith, c.decreases),
      (
        h.0,
        (
          h.1,
          (
            stands-stay _ _ e _ _ c.requires.ids,
            (
              e.lives _ c.requires.a_live,
              (
                e.lives _ c.requires.v_live,
                (
                  e.lives _
                      c.requires.b_live,
                  can-kept_of e (let-kept e c.requires.a_live c.requires.v_live c.requires.b_live) c.requires.can,
                ),
              ),
            ),
          ),
        ),
      ),
    )

pub infer_local-returns-in_err-behind_in : goal.infer_local-returns-in_err-behind_in
infer_local-returns-in_err-behind_in g t c =
    let old = g.S.TermStore.held c.args.store.now in
    let G = scope_in old.tree c.args.scope.now in
    let q = err_from_is_err_and c.from_residual.result c.from_residual.ensures.1 in
    let d = decides-behind 0 c.behind_in.result c.infer_sort_at.ensures c.behind_in.ensures.answer c.behind_in.ensures.live c.behind_in.ensures.refused in
    refused
    (decided.infer_value (infer_of c.args.sig.now c.args.room) (check_of c.args.sig.now c.args.room) G (old.tree c.args.a) (old.tree c.args.v) (old.tree
    c.args.b)) d c.in_err-behind_in.was (q.1 ∙ ap Err q.2) value_type-part

pub infer_local-returns-in-No : goal.infer_local-returns-in-No
infer_local-returns-in-No g t c =
    let old = g.S.TermStore.held c.args.store.now in
    let G = scope_in old.tree c.args.scope.now in
    let d = decides-behind 0 c.behind_in.result c.infer_sort_at.ensures c.behind_in.ensures.answer c.behind_in.ensures.live c.behind_in.ensures.refused in
    denied-by
    (decided.infer_value (infer_of c.args.sig.now c.args.room) (check_of c.args.sig.now c.args.room) G (old.tree c.args.a) (old.tree c.args.v) (old.tree
    c.args.b)) d c.in_ok-behind_in.was c.in-No.is value_type-part

pub infer_local-returns-in-Yes : goal.infer_local-returns-in-Yes
infer_local-returns-in-Yes g t c =
    let old = g.S.TermStore.held c.args.store.now in
    let mid = g.S.TermStore.held c.infer_sort_at.new.store in
    let G = scope_in old.tree c.args.scope.now in
    let K = scope_in mid.tree c.args.scope.now in
    let d = decides-behind 0 c.behind_in.result c.infer_sort_at.ensures c.behind_in.ensures.answer c.behind_in.ensures.live c.behind_in.ensures.refused in
    let y = found d c.in_ok-behind_in.was c.in-Yes.is in
    let e = y.extends in
    let scopes = scope-kept old mid c.args.scope.now e c.requires.can.context_live in
    goes-on y (c.infer_value.ensures)
    (local-then G K scopes (infer_of c.args.sig.now c.args.room) (infer_sort_of c.args.sig.now c.args.room) (check_of c.args.sig.now c.args.room) (old.tree
    c.args.a) (old.tree c.args.v) (old.tree c.args.b) (mid.tree c.args.a) (mid.tree c.args.v) (mid.tree c.args.b) _ c.args.units.now.left _ (e.trees _
    c.requires.a_live) (e.trees _ c.requires.v_live) (e.trees _ c.requires.b_live) y.answer) value_type-part
    (checked-before e c.args.scope.now c.requires.can.context_live (let-kept e c.requires.a_live c.requires.v_live c.requires.b_live))

pub infer_value-check_at-requires : goal.infer_value-check_at-requires
infer_value-check_at-requires g t c =
    λ κs h. (
      omega (arith, c.decreases),
      (
        h.0,
        (
          h.1,
          (
            c.requires.ids,
            (
              c.requires.v_live,
              (
                c.requires.a_live,
                (
                  can-value c.requires.can,
                  can-value_type
                      c.requires.can,
                ),
              ),
            ),
          ),
        ),
      ),
    )

pub infer_value-infer_rest-requires : goal.infer_value-infer_rest-requires
infer_value-infer_rest-requires g t c =
    let d = decides-behind 1 c.behind_in.result c.check_at.ensures c.behind_in.ensures.answer c.behind_in.ensures.live c.behind_in.ensures.refused in
    let y = found d c.in_ok-behind_in.was c.in-Yes.is in
    let e = y.extends in
    λ κs h. (
      omega (arith, c.decreases),
      (
        h.0,
        (
          h.1,
          (
            stands-stay _ _ e _ _ c.requires.ids,
            (
              e.lives _ c.requires.v_live,
              (
                e.lives _ c.requires.b_live,
                (
                  can-kept_id e
                      c.requires.v_live (can-value c.requires.can),
                  can-kept_of e (pair-kept e (λ v b. put b 0 v) c.requires.v_live c.requires.b_live) (can-rest
                      c.requires.can),
                ),
              ),
            ),
          ),
        ),
      ),
    )

pub infer_value-returns-in_err-behind_in : goal.infer_value-returns-in_err-behind_in
infer_value-returns-in_err-behind_in g t c =
    let old = g.S.TermStore.held c.args.store.now in
    let G = scope_in old.tree c.args.scope.now in
    let q = err_from_is_err_and c.from_residual.result c.from_residual.ensures.1 in
    let d = decides-behind 1 c.behind_in.result c.check_at.ensures c.behind_in.ensures.answer c.behind_in.ensures.live c.behind_in.ensures.refused in
    refused (decided.infer_rest (infer_of c.args.sig.now c.args.room) G (put (old.tree c.args.b) 0 (old.tree c.args.v))) d c.in_err-behind_in.was
    (q.1 ∙ ap Err q.2) value-part

pub infer_value-returns-in-No : goal.infer_value-returns-in-No
infer_value-returns-in-No g t c =
    let old = g.S.TermStore.held c.args.store.now in
    let G = scope_in old.tree c.args.scope.now in
    let d = decides-behind 1 c.behind_in.result c.check_at.ensures c.behind_in.ensures.answer c.behind_in.ensures.live c.behind_in.ensures.refused in
    denied-by (decided.infer_rest (infer_of c.args.sig.now c.args.room) G (put (old.tree c.args.b) 0 (old.tree c.args.v))) d c.in_ok-behind_in.was c.in-No.is
    value-part

pub infer_value-returns-in-Yes : goal.infer_value-returns-in-Yes
infer_value-returns-in-Yes g t c =
    let old = g.S.TermStore.held c.args.store.now in
    let mid = g.S.TermStore.held c.check_at.new.store in
    let G = scope_in old.tree c.args.scope.now in
    let K = scope_in mid.tree c.args.scope.now in
    let d = decides-behind 1 c.behind_in.result c.check_at.ensures c.behind_in.ensures.answer c.behind_in.ensures.live c.behind_in.ensures.refused in
    let y = found d c.in_ok-behind_in.was c.in-Yes.is in
    let e = y.extends in
    let scopes = scope-kept old mid c.args.scope.now e c.requires.can.context_live in
    goes-on y (c.infer_rest.ensures)
    (value-then G K scopes (infer_of c.args.sig.now c.args.room) (check_of c.args.sig.now c.args.room) (old.tree c.args.a) (old.tree c.args.v) (put (old.tree
    c.args.b) 0 (old.tree c.args.v)) (put (mid.tree c.args.b) 0 (mid.tree c.args.v)) _ c.args.units.now.left _ (pair-kept e (λ v b. put b 0 v) c.requires.v_live
    c.requires.b_live) y.answer) value-part
    (λ x p. rest-part x (checked-before e c.args.scope.now c.requires.can.context_live (pair-kept e (λ v b. put b 0 v) c.requires.v_live c.requires.b_live) x
    p))

pub infer_rest-subst_in-requires-clause-indices : goal.infer_rest-subst_in-requires-clause-indices
infer_rest-subst_in-requires-clause-indices g t c = can-indices c.requires.value

pub infer_rest-infer_at-requires : goal.infer_rest-infer_at-requires
infer_rest-infer_at-requires g t c =
    let e = c.in_ok-rest.ensures.extends in
    λ κs h. (
      omega (arith, c.decreases),
      (
        h.0,
        (
          h.1,
          (
            stands-stay _ _ e _ _ c.requires.ids,
            (
              c.in_ok-rest.ensures.makes.0,
              can-kept_of e c.in_ok-rest.ensures.makes.1
                  c.requires.can,
            ),
          ),
        ),
      ),
    )

pub infer_rest-returns-in_err-rest : goal.infer_rest-returns-in_err-rest
infer_rest-returns-in_err-rest g t c =
    let old = g.S.TermStore.held c.args.store.now in
    let mid = g.S.TermStore.held c.subst_in.new.store in
    let G = scope_in old.tree c.args.scope.now in
    let q = err_from_is_err_and c.from_residual.result c.from_residual.ensures.1 in
    stopped (q.1 ∙ ap Err q.2)
    (λ memory full. rest-refused (infer_of c.args.sig.now c.args.room) G _ (put (old.tree c.args.b) 0 (old.tree c.args.v)) c.args.units.now.left (let h =
    c.in_err-rest.ensures.makes memory full in (h.0, omega (arith, h.1)))) c.in_err-rest.ensures.extends
    (adds-parts (λ x. IsPart x (put (old.tree c.args.b) 0 (old.tree c.args.v))) (put (old.tree c.args.b) 0 (old.tree c.args.v)) old (mid) (λ x p. p)
    c.in_err-rest.ensures.adds)
    (λ is. lacks-parts (λ x. IsPart x (put (old.tree c.args.b) 0 (old.tree c.args.v))) (put (old.tree c.args.b) 0 (old.tree c.args.v)) mid (λ x p. p)
    (c.in_err-rest.ensures.full is)) refl (omega arith) itself-part

pub infer_rest-returns : goal.infer_rest-returns
infer_rest-returns g t c =
    let old = g.S.TermStore.held c.args.store.now in
    let mid = g.S.TermStore.held c.subst_in.new.store in
    let G = scope_in old.tree c.args.scope.now in
    let K = scope_in mid.tree c.args.scope.now in
    let e = c.in_ok-rest.ensures.extends in
    let scopes = scope-kept old mid c.args.scope.now e c.requires.can.context_live in
    let d = decides-behind 2 c.behind_in.result c.infer_at.ensures c.behind_in.ensures.answer c.behind_in.ensures.live c.behind_in.ensures.refused in
    goes-after e
    (adds-parts (λ x. IsPart x (put (old.tree c.args.b) 0 (old.tree c.args.v))) (put (old.tree c.args.b) 0 (old.tree c.args.v)) old (mid) (λ x p. p)
    c.in_ok-rest.ensures.adds) refl (omega arith) d
    (rest-then (infer_of c.args.sig.now c.args.room) G K scopes (put (old.tree c.args.b) 0 (old.tree c.args.v)) (mid.tree c.in_ok-rest.rest)
    c.args.units.now.left c.in_ok-rest.ensures.makes.1 c.in_ok-rest.ensures.makes.2) itself-part
    (checked-before e c.args.scope.now c.requires.can.context_live c.in_ok-rest.ensures.makes.1)

pub infer_sort_at-infer_at-requires : goal.infer_sort_at-infer_at-requires
infer_sort_at-infer_at-requires g t c =
    λ κs h. (omega (arith, c.decreases), (h.0, (h.1, (c.requires.ids, (c.requires.t_live, can-fewer (c.args.room - 1) c.requires.can (omega arith))))))

pub infer_sort_at-returns-then-room-eq0 : goal.infer_sort_at-returns-then-room-eq0
infer_sort_at-returns-then-room-eq0 g t c =
    let old = g.S.TermStore.held c.args.store.now in
    let G = scope_in old.tree c.args.scope.now in
    decided-deep _ old c.args.units.now _ (sort-none c.args.sig.now c.args.room c.args.units.now.left G (old.tree c.args.t) (omega (arith, c.if-room-eq0.true)))

pub infer_sort_at-returns-in_err-ty : goal.infer_sort_at-returns-in_err-ty
infer_sort_at-returns-in_err-ty g t c =
    let old = g.S.TermStore.held c.args.store.now in
    let G = scope_in old.tree c.args.scope.now in
    let q = err_from_is_err_and c.from_residual.result c.from_residual.ensures.1 in
    let d = c.infer_at.ensures in
    meant-as (sort-is c.args.sig.now c.args.room (c.args.room - 1) c.args.units.now.left G (old.tree c.args.t) (omega (arith, c.if-room-eq0.false)))
    (refused (decided.reduced_sort c.args.sig.now G) d c.in_err-ty.was (q.1 ∙ ap Err q.2) (λ x p. p))

pub infer_sort_at-returns-in-No : goal.infer_sort_at-returns-in-No
infer_sort_at-returns-in-No g t c =
    let old = g.S.TermStore.held c.args.store.now in
    let G = scope_in old.tree c.args.scope.now in
    let d = c.infer_at.ensures in
    meant-as (sort-is c.args.sig.now c.args.room (c.args.room - 1) c.args.units.now.left G (old.tree c.args.t) (omega (arith, c.if-room-eq0.false)))
    (denied-by (decided.reduced_sort c.args.sig.now G) d c.in_ok-ty.was c.in-No.is (λ x p. p))

pub infer_sort_at-sort_of-requires-clause-ids : goal.infer_sort_at-sort_of-requires-clause-ids
infer_sort_at-sort_of-requires-clause-ids g t c =
    let d = c.infer_at.ensures in
    let y = found d c.in_ok-ty.was c.in-Yes.is in
    let e = y.extends in
    stands-stay _ _ e _ _ c.requires.ids

pub infer_sort_at-sort_of-requires-clause-context : goal.infer_sort_at-sort_of-requires-clause-context
infer_sort_at-sort_of-requires-clause-context g t c =
    let d = c.infer_at.ensures in
    let y = found d c.in_ok-ty.was c.in-Yes.is in
    let e = y.extends in
    live-kept _ _ c.args.scope.now e c.requires.can.context_live

pub infer_sort_at-sort_of-requires-clause-ty_live : goal.infer_sort_at-sort_of-requires-clause-ty_live
infer_sort_at-sort_of-requires-clause-ty_live g t c =
    let d = c.infer_at.ensures in
    let y = found d c.in_ok-ty.was c.in-Yes.is in
    y.live

pub infer_sort_at-sort_of-requires-clause-asked : goal.infer_sort_at-sort_of-requires-clause-asked
infer_sort_at-sort_of-requires-clause-asked g t c =
    let old = g.S.TermStore.held c.args.store.now in
    let mid = g.S.TermStore.held c.infer_at.new.store in
    let d = c.infer_at.ensures in
    let y = found d c.in_ok-ty.was c.in-Yes.is in
    let e = y.extends in
    can-reduce
    (can-kept old mid c.args.sig.now _ c.args.scope.now (mid.tree c.in-Yes.ty) e (can-inferred c.requires.can (c.args.room - 1) c.args.units.now.left _
    (mid.tree c.in-Yes.ty) y.answer))

pub infer_sort_at-returns-in-Yes : goal.infer_sort_at-returns-in-Yes
infer_sort_at-returns-in-Yes g t c =
    let old = g.S.TermStore.held c.args.store.now in
    let mid = g.S.TermStore.held c.infer_at.new.store in
    let G = scope_in old.tree c.args.scope.now in
    let K = scope_in mid.tree c.args.scope.now in
    let d = c.infer_at.ensures in
    let y = found d c.in_ok-ty.was c.in-Yes.is in
    let e = y.extends in
    let scopes = scope-kept old mid c.args.scope.now e c.requires.can.context_live in
    goes-on y
    (decided-by c.sort_of.result c.sort_of.ensures.answer c.sort_of.ensures.live c.sort_of.ensures.extends c.sort_of.ensures.adds c.sort_of.ensures.full
    c.sort_of.ensures.sum c.sort_of.ensures.spends)
    (sort-then G K scopes c.args.sig.now (c.args.room - 1) (old.tree c.args.t) (mid.tree c.in-Yes.ty) c.args.units.now.left _ y.answer ∙ sort-is c.args.sig.now
    c.args.room (c.args.room - 1) c.args.units.now.left G (old.tree c.args.t) (omega (arith, c.if-room-eq0.false))) (λ x p. p)
    (way-part (finds-by c.args.sig.now (c.args.room - 1) G (old.tree c.args.t) (mid.tree c.in-Yes.ty) c.args.units.now.left _ y.answer))

pub check_at-infer_at-requires : goal.check_at-infer_at-requires
check_at-infer_at-requires g t c =
    λ κs h. (omega (arith, c.decreases), (h.0, (h.1, (c.requires.ids, (c.requires.t_live, can-fewer (c.args.room - 1) c.requires.term (omega arith))))))

pub check_at-returns-then-room-eq0 : goal.check_at-returns-then-room-eq0
check_at-returns-then-room-eq0 g t c =
    let old = g.S.TermStore.held c.args.store.now in
    let G = scope_in old.tree c.args.scope.now in
    decided-deep _ old c.args.units.now _
    (check-none c.args.sig.now c.args.room c.args.units.now.left G (old.tree c.args.t) (old.tree c.args.wanted) (omega (arith, c.if-room-eq0.true)))

pub check_at-returns-in_err-found : goal.check_at-returns-in_err-found
check_at-returns-in_err-found g t c =
    let old = g.S.TermStore.held c.args.store.now in
    let G = scope_in old.tree c.args.scope.now in
    let q = err_from_is_err_and c.from_residual.result c.from_residual.ensures.1 in
    let d = c.infer_at.ensures in
    meant-as
    (check-is c.args.sig.now c.args.room (c.args.room - 1) c.args.units.now.left G (old.tree c.args.t) (old.tree c.args.wanted) (omega (
      arith,
      c.if-room-eq0.false,
    )))
    (refused (decided.compare c.args.sig.now (c.args.room - 1) G (old.tree c.args.wanted)) d c.in_err-found.was (q.1 ∙ ap Err q.2) (λ x p. inl p))

pub check_at-returns-in-No : goal.check_at-returns-in-No
check_at-returns-in-No g t c =
    let old = g.S.TermStore.held c.args.store.now in
    let G = scope_in old.tree c.args.scope.now in
    let d = c.infer_at.ensures in
    meant-as
    (check-is c.args.sig.now c.args.room (c.args.room - 1) c.args.units.now.left G (old.tree c.args.t) (old.tree c.args.wanted) (omega (
      arith,
      c.if-room-eq0.false,
    )))
    (denied-by (decided.compare c.args.sig.now (c.args.room - 1) G (old.tree c.args.wanted)) d c.in_ok-found.was c.in-No.is (λ x p. inl p))

pub check_at-compare-requires-clause-room : goal.check_at-compare-requires-clause-room
check_at-compare-requires-clause-room g t c = omega (arith, c.requires.term.nested)

pub check_at-compare-requires-clause-ids : goal.check_at-compare-requires-clause-ids
check_at-compare-requires-clause-ids g t c =
    let d = c.infer_at.ensures in
    let y = found d c.in_ok-found.was c.in-Yes.is in
    let e = y.extends in
    stands-stay _ _ e _ _ c.requires.ids

pub check_at-compare-requires-clause-context : goal.check_at-compare-requires-clause-context
check_at-compare-requires-clause-context g t c =
    let d = c.infer_at.ensures in
    let y = found d c.in_ok-found.was c.in-Yes.is in
    let e = y.extends in
    live-kept _ _ c.args.scope.now e c.requires.term.context_live

pub check_at-compare-requires-clause-found_live : goal.check_at-compare-requires-clause-found_live
check_at-compare-requires-clause-found_live g t c =
    let d = c.infer_at.ensures in
    let y = found d c.in_ok-found.was c.in-Yes.is in
    y.live

pub check_at-compare-requires-clause-wanted_live : goal.check_at-compare-requires-clause-wanted_live
check_at-compare-requires-clause-wanted_live g t c =
    let d = c.infer_at.ensures in
    let y = found d c.in_ok-found.was c.in-Yes.is in
    let e = y.extends in
    e.lives _ c.requires.wanted_live

pub check_at-compare-requires-clause-asked : goal.check_at-compare-requires-clause-asked
check_at-compare-requires-clause-asked g t c =
    let old = g.S.TermStore.held c.args.store.now in
    let mid = g.S.TermStore.held c.infer_at.new.store in
    let d = c.infer_at.ensures in
    let y = found d c.in_ok-found.was c.in-Yes.is in
    let e = y.extends in
    can-compare
    (can-kept old mid c.args.sig.now _ c.args.scope.now (mid.tree c.in-Yes.found) e (can-inferred c.requires.term (c.args.room - 1) c.args.units.now.left _
    (mid.tree c.in-Yes.found) y.answer)) (can-kept_id e c.requires.wanted_live c.requires.wanted)

pub check_at-returns-in-Yes : goal.check_at-returns-in-Yes
check_at-returns-in-Yes g t c =
    let old = g.S.TermStore.held c.args.store.now in
    let mid = g.S.TermStore.held c.infer_at.new.store in
    let G = scope_in old.tree c.args.scope.now in
    let K = scope_in mid.tree c.args.scope.now in
    let d = c.infer_at.ensures in
    let y = found d c.in_ok-found.was c.in-Yes.is in
    let e = y.extends in
    let scopes = scope-kept old mid c.args.scope.now e c.requires.term.context_live in
    goes-on y
    (decided-by c.compare.result c.compare.ensures.answer c.compare.ensures.live c.compare.ensures.extends c.compare.ensures.adds c.compare.ensures.full
    c.compare.ensures.sum c.compare.ensures.spends)
    (check-then G K scopes c.args.sig.now (c.args.room - 1) (old.tree c.args.t) (mid.tree c.in-Yes.found) (old.tree c.args.wanted) (mid.tree c.args.wanted)
    c.args.units.now.left _ (e.trees _ c.requires.wanted_live) y.answer ∙ check-is c.args.sig.now c.args.room (c.args.room - 1) c.args.units.now.left G
    (old.tree c.args.t) (old.tree c.args.wanted) (omega (arith, c.if-room-eq0.false))) (λ x p. inl p)
    (λ x p. against-part (finds-by c.args.sig.now (c.args.room - 1) G (old.tree c.args.t) (mid.tree c.in-Yes.found) c.args.units.now.left _ y.answer) x
    (transport (λ w. IsFormedPart c.args.sig.now true ((mid.tree c.in-Yes.found) ∷ w ∷ []) x) (e.trees _ c.requires.wanted_live) p))

pub infer_at-returns-then-room-eq0 : goal.infer_at-returns-then-room-eq0
infer_at-returns-then-room-eq0 g t c =
    let old = g.S.TermStore.held c.args.store.now in
    let G = scope_in old.tree c.args.scope.now in
    decided-deep _ old c.args.units.now _
    (infer-none c.args.sig.now c.args.room c.args.units.now.left G (old.tree c.args.t) (omega (arith, c.if-room-eq0.true)))

pub infer_at-returns-in_err-spend : goal.infer_at-returns-in_err-spend
infer_at-returns-in_err-spend g t c =
    let old = g.S.TermStore.held c.args.store.now in
    let G = scope_in old.tree c.args.scope.now in
    let q = err_from_is_err_and c.from_residual.result c.from_residual.ensures.1 in
    meant-as
    (infer-fuel c.args.sig.now c.args.room (c.args.room - 1) c.args.units.now.left G (old.tree c.args.t) (omega (arith, c.if-room-eq0.false)) (omega (
      arith,
      c.in_err-spend.ensures.none_left,
    )) (omega (arith, c.height-low.ensures.height, c.height-low.ensures.low)))
    (decided-fuel _ old c.args.units.now c.spend.new.self c.from_residual.result _ (q.1 ∙ ap Err q.2) c.in_err-spend.ensures.fuel c.in_err-spend.ensures.err)

pub infer_at-infer_form-requires : goal.infer_at-infer_form-requires
infer_at-infer_form-requires g t c =
    λ κs h. (omega (arith, c.decreases), (h.0, (h.1, (c.requires.ids, (c.requires.t_live, can-fewer ((c.args.room - 1) + 1) c.requires.can (omega arith))))))

pub infer_at-returns : goal.infer_at-returns
infer_at-returns g t c =
    let old = g.S.TermStore.held c.args.store.now in
    let G = scope_in old.tree c.args.scope.now in
    spent-before (omega (arith, c.in_ok-spend.ensures.total)) (omega (arith, c.in_ok-spend.ensures.spends))
    (meant-as (infer-is c.args.sig.now c.args.room (c.args.room - 1) c.args.units.now.left c.spend.new.self.left G (old.tree c.args.t) (omega (
      arith,
      c.if-room-eq0.false,
    )) (omega (arith, c.in_ok-spend.ensures.ok)) (omega (arith, c.height-low.ensures.height, c.height-low.ensures.low)))
    c.infer_form.ensures)

pub infer_form-infer_product-requires : goal.infer_form-infer_product-requires
infer_form-infer_product-requires g t c =
    let old = g.S.TermStore.held c.args.store.now in
    let is = c.look.ensures.says ∙ ap (says old.tree) c.in-Pi.is in
    let parts = transport (AllPass old.live) c.in-Pi.is c.look.ensures.live in
    λ κs h. (
      omega (arith, c.decreases),
      (
        h.0,
        (
          h.1,
          (
            c.requires.ids,
            (
              parts.0,
              (
                parts.1,
                transport (CanCheckIn old c.args.sig.now (c.args.room + 1) c.args.scope.now)
                    is c.requires.can,
              ),
            ),
          ),
        ),
      ),
    )

pub infer_form-returns-in-Pi : goal.infer_form-returns-in-Pi
infer_form-returns-in-Pi g t c =
    let old = g.S.TermStore.held c.args.store.now in
    let G = scope_in old.tree c.args.scope.now in
    let is = c.look.ensures.says ∙ ap (says old.tree) c.in-Pi.is in
    transport
    (λ x. Decides (IsCheckedPart c.args.sig.now G x) old (g.S.TermStore.held c.infer_product.new.store) c.args.units.now c.infer_product.new.units
    c.infer_product.result (infer_form c.args.sig.now (infer_of c.args.sig.now c.args.room) (infer_sort_of c.args.sig.now c.args.room) (check_of c.args.sig.now
    c.args.room) G x c.args.units.now.left)) (sym is) c.infer_product.ensures

pub infer_form-infer_function-requires : goal.infer_form-infer_function-requires
infer_form-infer_function-requires g t c =
    let old = g.S.TermStore.held c.args.store.now in
    let is = c.look.ensures.says ∙ ap (says old.tree) c.in-Lam.is in
    let parts = transport (AllPass old.live) c.in-Lam.is c.look.ensures.live in
    λ κs h. (
      omega (arith, c.decreases),
      (
        h.0,
        (
          h.1,
          (
            c.requires.ids,
            (
              parts.0,
              (
                parts.1,
                transport (CanCheckIn old c.args.sig.now (c.args.room + 1) c.args.scope.now)
                    is c.requires.can,
              ),
            ),
          ),
        ),
      ),
    )

pub infer_form-returns-in-Lam : goal.infer_form-returns-in-Lam
infer_form-returns-in-Lam g t c =
    let old = g.S.TermStore.held c.args.store.now in
    let G = scope_in old.tree c.args.scope.now in
    let is = c.look.ensures.says ∙ ap (says old.tree) c.in-Lam.is in
    transport
    (λ x. Decides (IsCheckedPart c.args.sig.now G x) old (g.S.TermStore.held c.infer_function.new.store) c.args.units.now c.infer_function.new.units
    c.infer_function.result (infer_form c.args.sig.now (infer_of c.args.sig.now c.args.room) (infer_sort_of c.args.sig.now c.args.room) (check_of c.args.sig.now
    c.args.room) G x c.args.units.now.left)) (sym is) c.infer_function.ensures

pub infer_form-infer_application-requires : goal.infer_form-infer_application-requires
infer_form-infer_application-requires g t c =
    let old = g.S.TermStore.held c.args.store.now in
    let is = c.look.ensures.says ∙ ap (says old.tree) c.in-App.is in
    let parts = transport (AllPass old.live) c.in-App.is c.look.ensures.live in
    λ κs h. (omega (arith, c.decreases), (h.0, (h.1, (c.requires.ids, (parts.0, (parts.1, (transport (CanCheckIn old c.args.sig.now (c.args.room + 1) c.args.scope.now) is c.requires.can, transport (λ x. height x ≤ 2000) is c.look.ensures.low)))))))

pub infer_form-returns-in-App : goal.infer_form-returns-in-App
infer_form-returns-in-App g t c =
    let old = g.S.TermStore.held c.args.store.now in
    let G = scope_in old.tree c.args.scope.now in
    let is = c.look.ensures.says ∙ ap (says old.tree) c.in-App.is in
    transport
    (λ x. Decides (IsCheckedPart c.args.sig.now G x) old (g.S.TermStore.held c.infer_application.new.store) c.args.units.now c.infer_application.new.units
    c.infer_application.result (infer_form c.args.sig.now (infer_of c.args.sig.now c.args.room) (infer_sort_of c.args.sig.now c.args.room) (check_of
    c.args.sig.now c.args.room) G x c.args.units.now.left)) (sym is) c.infer_application.ensures

pub infer_form-infer_local-requires : goal.infer_form-infer_local-requires
infer_form-infer_local-requires g t c =
    let old = g.S.TermStore.held c.args.store.now in
    let is = c.look.ensures.says ∙ ap (says old.tree) c.in-Let.is in
    let parts = transport (AllPass old.live) c.in-Let.is c.look.ensures.live in
    λ κs h. (
      omega (arith, c.decreases),
      (
        h.0,
        (
          h.1,
          (
            c.requires.ids,
            (
              parts.0,
              (
                parts.1,
                (
                  parts.2,
                  transport (CanCheckIn old c.args.sig.now (c.args.room + 1)
                      c.args.scope.now) is c.requires.can,
                ),
              ),
            ),
          ),
        ),
      ),
    )

pub infer_form-returns-in-Let : goal.infer_form-returns-in-Let
infer_form-returns-in-Let g t c =
    let old = g.S.TermStore.held c.args.store.now in
    let G = scope_in old.tree c.args.scope.now in
    let is = c.look.ensures.says ∙ ap (says old.tree) c.in-Let.is in
    transport
    (λ x. Decides (IsCheckedPart c.args.sig.now G x) old (g.S.TermStore.held c.infer_local.new.store) c.args.units.now c.infer_local.new.units
    c.infer_local.result (infer_form c.args.sig.now (infer_of c.args.sig.now c.args.room) (infer_sort_of c.args.sig.now c.args.room) (check_of c.args.sig.now
    c.args.room) G x c.args.units.now.left)) (sym is) c.infer_local.ensures

pub infer_form-leaf_type-requires-clause-can : goal.infer_form-leaf_type-requires-clause-can
infer_form-leaf_type-requires-clause-can g t c =
    let old = g.S.TermStore.held c.args.store.now in
    let is = c.look.ensures.says in
    transport (CanCheckIn old c.args.sig.now 0 c.args.scope.now) is (can-fewer 0 c.requires.can (omega arith))

pub infer_form-returns-in_default : goal.infer_form-returns-in_default
infer_form-returns-in_default g t c =
    let old = g.S.TermStore.held c.args.store.now in
    let G = scope_in old.tree c.args.scope.now in
    let is = c.look.ensures.says in
    transport
    (λ x. Decides (IsCheckedPart c.args.sig.now G x) old (g.S.TermStore.held c.leaf_type.new.store) c.args.units.now c.args.units.now c.leaf_type.result
    (infer_form c.args.sig.now (infer_of c.args.sig.now c.args.room) (infer_sort_of c.args.sig.now c.args.room) (check_of c.args.sig.now c.args.room) G x
    c.args.units.now.left)) (sym is)
    (meant-as (form-leaf old.tree c.args.sig.now (infer_of c.args.sig.now c.args.room) (infer_sort_of c.args.sig.now c.args.room) (check_of c.args.sig.now
    c.args.room) G c.look.result c.args.units.now.left c.in_default.not-Pi c.in_default.not-Lam c.in_default.not-App c.in_default.not-Let) (more-of (leaf-part
    (says old.tree c.look.result)) (decided-free c.leaf_type.result c.leaf_type.ensures.answer c.leaf_type.ensures.live c.leaf_type.ensures.extends
    c.leaf_type.ensures.adds c.leaf_type.ensures.full)))
