use Rattle.std.proofs.Common.{◌≡◌, ◌+◌, ◌<◌, [], ◌∷◌, length, get_or, sym, ap, ◌∙◌, arith}
use Rattle.std.proofs.lemmas.Iterator.Adapters.{YieldsList-from_vec}
use Rattle.std.proofs.lemmas.Iterator.Consumers.{YieldsList-turn}
use Rattle.std.proofs.lemmas.List.{length-map, length-append}
use Rattle.core_terms.specs.Meanings.{tree_of, tele_of}
use Rattle.core_sig.specs.declared.family.Arg.{Arg}
use Rattle.core_sig.specs.declared.family.ArgKind.TheVariants.{Plain}
use Rattle.core_terms.proofs.Lists.{map-item, all-more, count-more}
use Rattle.family_check.proofs.ShapeLoops.{zip-on}
use Rattle.family_check.proofs.families.with_levels.Goals as goal

pub loop-ty-preserved : goal.loop-ty-preserved
loop-ty-preserved c =
    let ts = tele_of c.args.types.items in
    let turn = YieldsList-turn (YieldsList-from_vec {s = c.into_iter-ty-iterator.result} c.args.types.items (cc) (cc)) c.loop-ty.yielded c.loop-ty.ty-iterator c.loop-ty.yielded_by c.next.result c.next.new.self c.in-Some.ty c.in-Some.is c.next.ensures.steps in
    let within : length c.loop-ty.yielded < length c.args.types.items = turn.0 in
    let grown : length c.loop-ty.indices + 1 ≡ length c.push.new.self = count-more c.loop-ty.indices c.push.new.self _ c.in_ok-push.ensures.ok in
    let count : length c.loop-ty.yielded ≡ length c.loop-ty.indices = sym c.loop-ty.invariant.count in
    let lt : length c.loop-ty.indices < length ts = omega (arith, length-map c.args.types.items tree_of) in
    let item : tree_of c.in-Some.ty ≡ get_or ts (length c.loop-ty.indices) (tree_of c.in-Some.ty) =
    map-item tree_of c.args.types.items (length c.loop-ty.indices) c.in-Some.ty (turn.1 ∙ ap (λ k. get_or c.args.types.items k c.in-Some.ty) count) in
    record {
      count = omega (arith, length-append c.loop-ty.yielded (c.in-Some.ty ∷ []));
      meant = zip-on ts c.args.levels.now _ c.loop-ty.indices c.as_slice.result.now c.push.new.self c.index_of.result c.in-Some.ty
          c.loop-ty.invariant.meant c.as_slice.ensures c.in_ok-push.ensures.ok c.index_of.ensures.ty c.index_of.ensures.level lt item
          (c.requires ∙ sym (length-map c.args.types.items tree_of));
      plain = all-more (λ (i : Arg). i.kind ≡ Plain) c.loop-ty.indices c.push.new.self c.index_of.result c.in_ok-push.ensures.ok c.loop-ty.invariant.plain c.index_of.ensures.kind;
    }
