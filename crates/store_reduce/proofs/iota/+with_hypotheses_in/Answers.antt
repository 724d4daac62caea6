use Rattle.std.proofs.Common.{[], ◌+◌, length, take, drop, ◌-◌, ◌≤◌, sym, ap, ◌∙◌, subst, arith}
use Rattle.std.proofs.lemmas.List.{length-take, length-drop}
use Rattle.theory.specs.Terms.{height, free_of}
use Rattle.theory.specs.Telescopes.{applied}
use Rattle.kernel_reduce.specs.Calls.{hypothesis_before, hypotheses_of}
use Rattle.term_pool.specs.Held.{AddsParts, IsFullFor, Makes}
use Rattle.term_pool.specs.Instantiation.{trees_of}
use Rattle.term_pool.specs.Nodes.{says, AllPass}
use Rattle.term_pool.specs.Parts.{IsPart}
use Rattle.store_reduce.specs.Arguments.{IsOver}
use Rattle.store_reduce.proofs.CallLaws.{over-other, over-rest, with-first}
use Rattle.store_reduce.proofs.SpineLaws.{part-applied, parts-then}
use Rattle.store_reduce.proofs.ValueLaws.{with-kept}
use Rattle.store_reduce.proofs.iota.+with_hypotheses_in.Goals as goal

pub with_hypotheses_in-requires : goal.with_hypotheses_in-requires
with_hypotheses_in-requires g t c =
    let args = c.args.args.now in
    let old = g.S.TermStore.held c.args.store.now in
    let e = c.with_hypothesis_in.ensures.extends in
    let live = (subst (AllPass old.live) c.in-Pi.is c.look.ensures.live).1 in
    let product = c.look.ensures.says ∙ ap (says old.tree) c.in-Pi.is in
    let rest = length-take (length args - 1) (drop 1 args) in
    let less = length-drop 1 args in
    λ κs h. (
      omega arith,
      (
        h.0,
        (
          h.1,
          (
            e.lives c.args.recursor c.requires.recursor,
            (
              subst (λ t. free_of t ≤ 3221225472) (sym (e.trees c.args.recursor c.requires.recursor)) c.requires.recursor_free,
              (
                c.with_hypothesis_in.ensures.keeps.values,
                (
                  e.lives c.in-Pi.b live,
                  (
                    subst (IsOver (take (length args - 1) (drop 1 args))) (sym (e.trees c.in-Pi.b live)) (over-rest args (old.tree c.in-Pi.a) (old.tree c.in-Pi.b) c.in-len1-up.len_at_least (subst (IsOver args) product c.requires.types)),
                    (
                      omega arith,
                      (
                        c.in_ok-whole-in-Pi.ensures.makes.0,
                        subst (λ t. height t ≤ 2000) (sym c.in_ok-whole-in-Pi.ensures.makes.1) c.in_ok-whole-in-Pi.ensures.makes.2,
                      ),
                    ),
                  ),
                ),
              ),
            ),
          ),
        ),
      ),
    )

pub returns-in_ok-whole-in-Pi-clause-makes : goal.returns-in_ok-whole-in-Pi-clause-makes
returns-in_ok-whole-in-Pi-clause-makes g t c =
    let old = g.S.TermStore.held c.args.store.now in
    let product = c.look.ensures.says ∙ ap (says old.tree) c.in-Pi.is in
    subst (Makes (g.S.TermStore.held c.with_hypotheses_in.new.store) c.with_hypotheses_in.result)
    (with-kept old (g.S.TermStore.held c.with_hypothesis_in.new.store) c.args.values.now c.args.params c.args.recursor _ c.args.known c.args.args.now c.arg-item.result
    (old.tree c.args.ty) (old.tree c.in-Pi.a) (old.tree c.in-Pi.b) (old.tree c.args.whole) c.with_hypothesis_in.ensures.extends c.requires.values c.requires.recursor c.in-len1-up.len_at_least c.arg-item.is c.requires.types product
    c.in_ok-whole-in-Pi.ensures.makes.1)
    c.with_hypotheses_in.ensures.makes

pub returns-in_ok-whole-in-Pi-clause-full : goal.returns-in_ok-whole-in-Pi-clause-full
returns-in_ok-whole-in-Pi-clause-full g t c =
    let old = g.S.TermStore.held c.args.store.now in
    let product = c.look.ensures.says ∙ ap (says old.tree) c.in-Pi.is in
    subst (IsFullFor (g.S.TermStore.held c.with_hypotheses_in.new.store) c.with_hypotheses_in.result)
    (with-kept old (g.S.TermStore.held c.with_hypothesis_in.new.store) c.args.values.now c.args.params c.args.recursor _ c.args.known c.args.args.now c.arg-item.result
    (old.tree c.args.ty) (old.tree c.in-Pi.a) (old.tree c.in-Pi.b) (old.tree c.args.whole) c.with_hypothesis_in.ensures.extends c.requires.values c.requires.recursor c.in-len1-up.len_at_least c.arg-item.is c.requires.types product
    c.in_ok-whole-in-Pi.ensures.makes.1)
    c.with_hypotheses_in.ensures.full

pub returns-in_ok-whole-in-Pi-clause-adds : goal.returns-in_ok-whole-in-Pi-clause-adds
returns-in_ok-whole-in-Pi-clause-adds g t c =
    let old = g.S.TermStore.held c.args.store.now in
    let mid = g.S.TermStore.held c.with_hypothesis_in.new.store in
    let product = c.look.ensures.says ∙ ap (says old.tree) c.in-Pi.is in
    let first = with-first (trees_of old c.args.values.now) c.args.params (old.tree c.args.recursor) c.args.known c.args.args.now c.arg-item.result (old.tree c.in-Pi.a) (old.tree c.in-Pi.b) (old.tree c.args.whole)
    c.in-len1-up.len_at_least c.arg-item.is (subst (IsOver c.args.args.now) product c.requires.types) in
    let values = trees_of old c.args.values.now in
    let args = c.args.args.now in
    let whole = applied (old.tree c.args.whole) (hypothesis_before values c.args.params (old.tree c.args.recursor) c.args.known (old.tree c.in-Pi.a) c.arg-item.result.kind []) in
    let rest = hypotheses_of values c.args.params (old.tree c.args.recursor) (c.args.known + 1) (take (length args - 1) (drop 1 args)) in
    parts-then old mid (g.S.TermStore.held c.with_hypotheses_in.new.store) whole
    (applied (old.tree c.args.whole) (hypotheses_of values c.args.params (old.tree c.args.recursor) c.args.known args))
    (λ x part. subst (IsPart x) first (part-applied whole rest x part)) c.with_hypothesis_in.ensures.adds c.with_hypotheses_in.ensures.extends
    (subst (AddsParts mid (g.S.TermStore.held c.with_hypotheses_in.new.store))
    (with-kept old mid c.args.values.now c.args.params c.args.recursor _ c.args.known c.args.args.now c.arg-item.result
    (old.tree c.args.ty) (old.tree c.in-Pi.a) (old.tree c.in-Pi.b) (old.tree c.args.whole) c.with_hypothesis_in.ensures.extends c.requires.values c.requires.recursor c.in-len1-up.len_at_least c.arg-item.is c.requires.types product
    c.in_ok-whole-in-Pi.ensures.makes.1)
    c.with_hypotheses_in.ensures.adds)

pub returns-in_default-clause-makes : goal.returns-in_default-clause-makes
returns-in_default-clause-makes g t c =
    let old = g.S.TermStore.held c.args.store.now in
    absurd (over-other old.tree _ c.args.args.now (old.tree c.args.ty) c.in-len1-up.len_at_least c.requires.types c.look.ensures.says c.in_default.not-Pi)
