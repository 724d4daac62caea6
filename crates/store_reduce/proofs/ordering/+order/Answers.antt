use Rattle.std.proofs.Common.{◌≡◌, ◌+◌, ◌-◌, true, None, [], ◌∷◌, sym, subst as transport, arith}
use Rattle.core_terms.specs.Bounds.{most_inner_variables}
use Rattle.theory.specs.SignatureScopes.{IsScoped}
use Rattle.kernel_reduce.specs.Comparison.{convertible_of, subtype_of}
use Rattle.kernel_reduce.specs.Steps.{step_of}
use Rattle.store_reduce.specs.Additions.{AddsOnly, IsFullOf}
use Rattle.store_reduce.specs.Formed.{IsFormedPart, Reaches}
use Rattle.store_reduce.specs.Formed.Reaches.{none}
use Rattle.store_reduce.specs.Runs.{RunsIn}
use Rattle.store_reduce.specs.declared.form.Former.TheVariants.{Pi}
use Rattle.store_reduce.proofs.Adding.{adds-then}
use Rattle.store_reduce.proofs.ComparedParts.{children-formed, first-adds, second-adds, heads-add, heads-full, first_pair-adds, second_pair-adds, second_pair-full}
use Rattle.store_reduce.proofs.FormedParts.{within-adds, within-full}
use Rattle.store_reduce.proofs.HeadPairs.{others-order, products-order, sorts-order}
use Rattle.core_sig.proofs.StandingEntries.{stands-stay}
use Rattle.store_reduce.proofs.Ways.{reached-scoped}
use Rattle.store_reduce.proofs.ordering.+order.Goals as goal

pub order_forms_in-order_head_in-requires : goal.order_forms_in-order_head_in-requires
order_forms_in-order_head_in-requires g t c =
    let old = g.S.TermStore.held c.args.store.now in
    let mid = g.S.TermStore.held c.head_form_in.new.store in
    let ext = c.in_ok-a.ensures.extends in
    let same : mid.tree c.args.b ≡ old.tree c.args.b = ext.trees c.args.b c.requires.b_live in
    λ κs h. (
      omega arith,
      (
        h.0,
        (
          h.1,
          (
            c.requires.room,
            (
              c.requires.signature,
              (
                stands-stay old mid ext c.args.sig.now.entries c.args.ids.now c.requires.ids,
                (
                  c.in_ok-a.ensures.live,
                  (
                    ext.lives c.args.b c.requires.b_live,
                    (
                      reached-scoped c.args.sig.now true (most_inner_variables - (c.args.room + 1)) (old.tree c.args.a) (mid.tree c.in_ok-a.a) c.requires.signature c.requires.a c.in_ok-a.ensures.reaches,
                      (transport (IsScoped c.args.sig.now (most_inner_variables - (c.args.room + 1))) (sym same) c.requires.b, c.in_ok-a.ensures.rests),
                    ),
                  ),
                ),
              ),
            ),
          ),
        ),
      ),
    )

pub order_forms_in-returns-clause-adds : goal.order_forms_in-returns-clause-adds
order_forms_in-returns-clause-adds g t c =
    let old = g.S.TermStore.held c.args.store.now in
    let mid = g.S.TermStore.held c.head_form_in.new.store in
    let new = g.S.TermStore.held c.order_head_in.new.store in
    let same : old.tree c.args.b ≡ mid.tree c.args.b = sym (c.in_ok-a.ensures.extends.trees c.args.b c.requires.b_live) in
    adds-then (IsFormedPart c.args.sig.now true (old.tree c.args.a ∷ old.tree c.args.b ∷ [])) old mid new
    (first-adds c.args.sig.now true old mid (old.tree c.args.a) (old.tree c.args.b ∷ []) c.in_ok-a.ensures.adds) c.order_head_in.ensures.extends
    (heads-add c.args.sig.now true mid new (old.tree c.args.a) (old.tree c.args.b) (mid.tree c.in_ok-a.a) (mid.tree c.args.b) c.in_ok-a.ensures.reaches
    (transport (Reaches c.args.sig.now true (old.tree c.args.b)) same none) c.order_head_in.ensures.adds)

pub order_forms_in-returns-clause-full : goal.order_forms_in-returns-clause-full
order_forms_in-returns-clause-full g t c =
    let old = g.S.TermStore.held c.args.store.now in
    let mid = g.S.TermStore.held c.head_form_in.new.store in
    let new = g.S.TermStore.held c.order_head_in.new.store in
    let same : old.tree c.args.b ≡ mid.tree c.args.b = sym (c.in_ok-a.ensures.extends.trees c.args.b c.requires.b_live) in
    heads-full c.args.sig.now true new c.order_head_in.result (old.tree c.args.a) (old.tree c.args.b) (mid.tree c.in_ok-a.a) (mid.tree c.args.b) c.in_ok-a.ensures.reaches
    (transport (Reaches c.args.sig.now true (old.tree c.args.b)) same none) c.order_head_in.ensures.full

pub order_head_in-order_heads_in-requires : goal.order_head_in-order_heads_in-requires
order_head_in-order_heads_in-requires g t c =
    let old = g.S.TermStore.held c.args.store.now in
    let mid = g.S.TermStore.held c.head_form_in.new.store in
    let ext = c.in_ok-b.ensures.extends in
    let same : mid.tree c.args.a ≡ old.tree c.args.a = ext.trees c.args.a c.requires.a_live in
    λ κs h. (
      omega arith,
      (
        h.0,
        (
          h.1,
          (
            c.requires.room,
            (
              c.requires.signature,
              (
                stands-stay old mid ext c.args.sig.now.entries c.args.ids.now c.requires.ids,
                (
                  ext.lives c.args.a c.requires.a_live,
                  (
                    c.in_ok-b.ensures.live,
                    (
                      transport (IsScoped c.args.sig.now (most_inner_variables - (c.args.room + 1))) (sym same) c.requires.a,
                      (
                        reached-scoped c.args.sig.now true (most_inner_variables - (c.args.room + 1)) (old.tree c.args.b) (mid.tree c.in_ok-b.b) c.requires.signature c.requires.b c.in_ok-b.ensures.reaches,
                        (transport (λ x. step_of c.args.sig.now true x ≡ None) (sym same) c.requires.a_rests, c.in_ok-b.ensures.rests),
                      ),
                    ),
                  ),
                ),
              ),
            ),
          ),
        ),
      ),
    )

pub order_head_in-returns-clause-adds : goal.order_head_in-returns-clause-adds
order_head_in-returns-clause-adds g t c =
    let old = g.S.TermStore.held c.args.store.now in
    let mid = g.S.TermStore.held c.head_form_in.new.store in
    let new = g.S.TermStore.held c.order_heads_in.new.store in
    let same : old.tree c.args.a ≡ mid.tree c.args.a = sym (c.in_ok-b.ensures.extends.trees c.args.a c.requires.a_live) in
    adds-then (IsFormedPart c.args.sig.now true (old.tree c.args.a ∷ old.tree c.args.b ∷ [])) old mid new
    (second-adds c.args.sig.now true old mid (old.tree c.args.a) (old.tree c.args.b) [] c.in_ok-b.ensures.adds) c.order_heads_in.ensures.extends
    (heads-add c.args.sig.now true mid new (old.tree c.args.a) (old.tree c.args.b) (mid.tree c.args.a) (mid.tree c.in_ok-b.b)
    (transport (Reaches c.args.sig.now true (old.tree c.args.a)) same none) c.in_ok-b.ensures.reaches c.order_heads_in.ensures.adds)

pub order_head_in-returns-clause-full : goal.order_head_in-returns-clause-full
order_head_in-returns-clause-full g t c =
    let old = g.S.TermStore.held c.args.store.now in
    let mid = g.S.TermStore.held c.head_form_in.new.store in
    let new = g.S.TermStore.held c.order_heads_in.new.store in
    let same : old.tree c.args.a ≡ mid.tree c.args.a = sym (c.in_ok-b.ensures.extends.trees c.args.a c.requires.a_live) in
    heads-full c.args.sig.now true new c.order_heads_in.result (old.tree c.args.a) (old.tree c.args.b) (mid.tree c.args.a) (mid.tree c.in_ok-b.b)
    (transport (Reaches c.args.sig.now true (old.tree c.args.a)) same none) c.in_ok-b.ensures.reaches c.order_heads_in.ensures.full

pub order_heads_in-returns-in-Some-clause-answer : goal.order_heads_in-returns-in-Some-clause-answer
order_heads_in-returns-in-Some-clause-answer g t c =
    let old = g.S.TermStore.held c.args.store.now in
    sorts-order (convertible_of c.args.sig.now c.args.room) (subtype_of c.args.sig.now c.args.room) c.args.units.now.left (old.tree c.args.a) (old.tree c.args.b) c.in-Some.holds c.in-Some.ensures

pub order_others_in-returns-in-Some-clause-answer : goal.order_others_in-returns-in-Some-clause-answer
order_others_in-returns-in-Some-clause-answer g t c =
    let old = g.S.TermStore.held c.args.store.now in
    transport (RunsIn (λ holds. holds) c.order_products_in.result c.order_products_in.new.units.left)
    (products-order (convertible_of c.args.sig.now c.args.room) (subtype_of c.args.sig.now c.args.room) c.args.units.now.left (old.tree c.args.a) (old.tree c.args.b)
    (old.tree c.in-Some.p.a) (old.tree c.in-Some.p.b) (old.tree c.in-Some.p.c) (old.tree c.in-Some.p.d) c.in-Some.ensures.first c.in-Some.ensures.second)
    c.order_products_in.ensures.answer

pub order_others_in-returns-in-None-clause-answer : goal.order_others_in-returns-in-None-clause-answer
order_others_in-returns-in-None-clause-answer g t c =
    let old = g.S.TermStore.held c.args.store.now in
    transport (RunsIn (λ holds. holds) c.compare_in.result c.compare_in.new.units.left)
    (others-order (convertible_of c.args.sig.now c.args.room) (subtype_of c.args.sig.now c.args.room) c.args.units.now.left (old.tree c.args.a) (old.tree c.args.b) c.requires.others (sym c.in-None.ensures.are))
    c.compare_in.ensures.answer

pub order_others_in-returns-in-Some-clause-adds : goal.order_others_in-returns-in-Some-clause-adds
order_others_in-returns-in-Some-clause-adds g t c =
    let old = g.S.TermStore.held c.args.store.now in
    within-adds c.args.sig.now true (old.tree c.args.a ∷ old.tree c.args.b ∷ []) old (g.S.TermStore.held c.order_products_in.new.store)
    (old.tree c.in-Some.p.a ∷ old.tree c.in-Some.p.b ∷ old.tree c.in-Some.p.c ∷ old.tree c.in-Some.p.d ∷ [])
    (children-formed c.args.sig.now true Pi (old.tree c.args.a) (old.tree c.args.b) (old.tree c.in-Some.p.a) (old.tree c.in-Some.p.b) (old.tree c.in-Some.p.c) (old.tree c.in-Some.p.d) c.in-Some.ensures.first c.in-Some.ensures.second c.requires.a_rests c.requires.b_rests)
    c.order_products_in.ensures.adds

pub order_others_in-returns-in-Some-clause-full : goal.order_others_in-returns-in-Some-clause-full
order_others_in-returns-in-Some-clause-full g t c =
    let old = g.S.TermStore.held c.args.store.now in
    within-full c.args.sig.now true (old.tree c.args.a ∷ old.tree c.args.b ∷ []) (g.S.TermStore.held c.order_products_in.new.store) c.order_products_in.result
    (old.tree c.in-Some.p.a ∷ old.tree c.in-Some.p.b ∷ old.tree c.in-Some.p.c ∷ old.tree c.in-Some.p.d ∷ [])
    (children-formed c.args.sig.now true Pi (old.tree c.args.a) (old.tree c.args.b) (old.tree c.in-Some.p.a) (old.tree c.in-Some.p.b) (old.tree c.in-Some.p.c) (old.tree c.in-Some.p.d) c.in-Some.ensures.first c.in-Some.ensures.second c.requires.a_rests c.requires.b_rests)
    c.order_products_in.ensures.full

pub order_products_in-order_in-requires : goal.order_products_in-order_in-requires
order_products_in-order_in-requires g t c =
    let old = g.S.TermStore.held c.args.store.now in
    let mid = g.S.TermStore.held c.compare_in.new.store in
    let ext = c.in_ok-compare_in.ensures.extends in
    let n = most_inner_variables - c.args.room in
    λ κs h. (
      omega arith,
      (
        h.0,
        (
          h.1,
          (
            omega arith,
            (
              c.requires.signature,
              (
                stands-stay old mid ext c.args.sig.now.entries c.args.ids.now c.requires.ids,
                (
                  ext.lives c.args.b c.requires.b_live,
                  (
                    ext.lives c.args.d c.requires.d_live,
                    (
                      transport (IsScoped c.args.sig.now n) (sym (ext.trees c.args.b c.requires.b_live)) c.requires.b,
                      transport (IsScoped c.args.sig.now n) (sym (ext.trees c.args.d c.requires.d_live)) c.requires.d,
                    ),
                  ),
                ),
              ),
            ),
          ),
        ),
      ),
    )

pub order_products_in-returns-clause-adds : goal.order_products_in-returns-clause-adds
order_products_in-returns-clause-adds g t c =
    let old = g.S.TermStore.held c.args.store.now in
    let mid = g.S.TermStore.held c.compare_in.new.store in
    let new = g.S.TermStore.held c.order_in.new.store in
    let ext = c.in_ok-compare_in.ensures.extends in
    let four = old.tree c.args.a ∷ old.tree c.args.b ∷ old.tree c.args.c ∷ old.tree c.args.d ∷ [] in
    adds-then (IsFormedPart c.args.sig.now true four) old mid new
    (first_pair-adds c.args.sig.now true old mid (old.tree c.args.a) (old.tree c.args.b) (old.tree c.args.c) (old.tree c.args.d) c.in_ok-compare_in.ensures.adds) c.order_in.ensures.extends
    (second_pair-adds c.args.sig.now true mid new (old.tree c.args.a) (old.tree c.args.b) (old.tree c.args.c) (old.tree c.args.d)
    (transport (λ x. AddsOnly (IsFormedPart c.args.sig.now true (x ∷ old.tree c.args.d ∷ [])) mid new) (ext.trees c.args.b c.requires.b_live)
    (transport (λ x. AddsOnly (IsFormedPart c.args.sig.now true (mid.tree c.args.b ∷ x ∷ [])) mid new) (ext.trees c.args.d c.requires.d_live) c.order_in.ensures.adds)))

pub order_products_in-returns-clause-full : goal.order_products_in-returns-clause-full
order_products_in-returns-clause-full g t c =
    let old = g.S.TermStore.held c.args.store.now in
    let mid = g.S.TermStore.held c.compare_in.new.store in
    let new = g.S.TermStore.held c.order_in.new.store in
    let ext = c.in_ok-compare_in.ensures.extends in
    second_pair-full c.args.sig.now true new c.order_in.result (old.tree c.args.a) (old.tree c.args.b) (old.tree c.args.c) (old.tree c.args.d)
    (transport (λ x. IsFullOf (IsFormedPart c.args.sig.now true (x ∷ old.tree c.args.d ∷ [])) new c.order_in.result) (ext.trees c.args.b c.requires.b_live)
    (transport (λ x. IsFullOf (IsFormedPart c.args.sig.now true (mid.tree c.args.b ∷ x ∷ [])) new c.order_in.result) (ext.trees c.args.d c.requires.d_live) c.order_in.ensures.full))
