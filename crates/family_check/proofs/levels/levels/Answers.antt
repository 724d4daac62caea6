use Rattle.std.proofs.Common.{◌≡◌, ◌+◌, ◌<◌, ◌++◌, [], ◌∷◌, length, sym, ap, ◌∙◌, subst as transport, arith}
use Rattle.std.proofs.lemmas.List.{length-map, map-append}
use Rattle.core_terms.specs.Meanings.{tree_of, tele_of}
use Rattle.theory.specs.Telescopes.{context_behind}
use Rattle.core_terms.proofs.Lists.{map-item}
use Rattle.core_terms.proofs.Loops.{each-stops}
use Rattle.kernel_reduce.specs.WellScoped.{AreWellScoped}
use Rattle.kernel_reduce.proofs.WellScoped.{type_before}
use Rattle.family_check.specs.Families.{level_in}
use Rattle.family_check.specs.Meanings.{stop_of}
use Rattle.family_check.specs.Roles.{role_of}
use Rattle.family_check.proofs.CallOutcomes.{passes_on}
use Rattle.family_check.proofs.Instances.{given-is}
use Rattle.family_check.proofs.LevelLoops.{context-more, levels-on}
use Rattle.family_check.proofs.levels.levels.Goals as goal

pub level_in-requires : goal.level_in-requires
level_in-requires c =
    let ps = tele_of c.args.params.now in
    let ts = tele_of c.args.types.now in
    let lt : c.loop-at.at < length ts = omega (arith, length-map c.args.types.now tree_of) in
    let item = map-item tree_of c.args.types.now c.loop-at.at c.index-types-at.result c.index-types-at.is in
    transport (λ G. AreWellScoped c.args.sig.now G (tree_of c.index-types-at.result ∷ [])) (sym c.loop-at.invariant.context)
    (type_before ps ts c.loop-at.at (tree_of c.index-types-at.result) lt item c.requires)

pub returns-in_err-level-clause-answer : goal.returns-in_err-level-clause-answer
returns-in_err-level-clause-answer c =
    let ts = tele_of c.args.types.now in
    let lt : c.loop-at.at < length ts = omega (arith, length-map c.args.types.now tree_of) in
    let item = map-item tree_of c.args.types.now c.loop-at.at c.index-types-at.result c.index-types-at.is in
    passes_on _ c.from_residual-in_err-level.result c.in_err-level.field-0.0 _ _ c.from_residual-in_err-level.ensures.1 (λ q.
    each-stops (λ G k a. level_in c.args.sig.now (role_of c.args.role) (k + 1) G a) (λ G a. a ∷ G) (context_behind [] (tele_of c.loop-at.ctx)) ts c.loop-at.at (tree_of c.index-types-at.result)
    c.loop-at.units.left c.loop-at.levels.items _ (stop_of c.in_err-level.field-0.0) _ c.loop-at.invariant.answer lt item (c.in_err-level.ensures.answer q))

pub loop-at-preserved : goal.loop-at-preserved
loop-at-preserved c =
    let ps = tele_of c.args.params.now in
    let ts = tele_of c.args.types.now in
    let lt : c.loop-at.at < length ts = omega (arith, length-map c.args.types.now tree_of) in
    let item = map-item tree_of c.args.types.now c.loop-at.at c.index-types-at.result c.index-types-at.is in
    let pushed : tele_of c.push.new.self ≡ tele_of c.loop-at.ctx ++ tree_of c.index-types-at.result ∷ [] =
    ap tele_of c.in_ok-push.ensures.ok ∙ (map-append tree_of c.loop-at.ctx (_ ∷ [])
    ∙ ap (λ t. tele_of c.loop-at.ctx ++ t ∷ []) (given-is _ _ c.in_ok-copy_whole.ensures)) in
    record {
      context = context-more (tele_of c.loop-at.ctx) (tele_of c.push.new.self) ps ts c.loop-at.at (tree_of c.index-types-at.result) c.loop-at.invariant.context pushed lt item;
      answer = levels-on c.args.sig.now (role_of c.args.role) ts c.loop-at.at (tree_of c.index-types-at.result) c.loop-at.levels.items _ (tele_of c.loop-at.ctx) (tele_of c.push.new.self) _
          c.loop-at.units.left c.in_ok-level.level _ c.loop-at.invariant.answer pushed c.in_ok-push-2.ensures.items lt item c.in_ok-level.ensures.answer;
      sum = omega arith;
      spends = omega arith;
    }
