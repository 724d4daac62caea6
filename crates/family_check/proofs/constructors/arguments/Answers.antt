use Rattle.std.proofs.Common.{◌≡◌, ◌+◌, ◌<◌, [], ◌∷◌, length, get_or, sym, ap, ◌∙◌, arith}
use Rattle.std.proofs.lemmas.Iterator.Adapters.{YieldsList-from_vec}
use Rattle.std.proofs.lemmas.Iterator.Consumers.{YieldsList-turn}
use Rattle.std.proofs.lemmas.List.{length-map, length-append}
use Rattle.core_terms.specs.Meanings.{tree_of, tele_of}
use Rattle.core_sig.specs.Meanings.{family_of}
use Rattle.core_terms.proofs.Lists.{map-item, count-more}
use Rattle.family_check.proofs.ShapeLoops.{arguments-on, kinds-on}
use Rattle.family_check.proofs.constructors.arguments.Goals as goal

pub loop-ty-preserved : goal.loop-ty-preserved
loop-ty-preserved c =
    let f = family_of c.args.f.now in
    let ts = tele_of c.args.types.items in
    let turn = YieldsList-turn (YieldsList-from_vec {s = c.into_iter-ty-iterator.result} c.args.types.items (cc) (cc)) c.loop-ty.yielded c.loop-ty.ty-iterator c.loop-ty.yielded_by c.next.result c.next.new.self c.in-Some.ty c.in-Some.is c.next.ensures.steps in
    let within : length c.loop-ty.yielded < length c.args.types.items = turn.0 in
    let grown : length c.loop-ty.args + 1 ≡ length c.push.new.self = count-more c.loop-ty.args c.push.new.self _ c.in_ok-push.ensures.ok in
    let count : length c.loop-ty.yielded ≡ length c.loop-ty.args = sym c.loop-ty.invariant.count in
    let lt : length c.loop-ty.args < length ts = omega (arith, length-map c.args.types.items tree_of) in
    let item : tree_of c.in-Some.ty ≡ get_or ts (length c.loop-ty.args) (tree_of c.in-Some.ty) =
    map-item tree_of c.args.types.items (length c.loop-ty.args) c.in-Some.ty (turn.1 ∙ ap (λ k. get_or c.args.types.items k c.in-Some.ty) count) in
    let h = c.kind_of-kind.ensures f (length-map c.args.f.now.params tree_of) (length-map c.args.f.now.indices (λ i. (tree_of i.ty, i.level))) in
    record {
      count = omega (arith, length-append c.loop-ty.yielded (c.in-Some.ty ∷ []));
      meant = arguments-on c.args.n f ts c.args.levels.now _ c.loop-ty.args c.as_slice-at.result.now c.push.new.self c.in-Some.ty c.kind_of-kind.result (length c.args.f.now.params)
          (sym (length-map c.args.f.now.params tree_of)) c.loop-ty.invariant.meant c.as_slice-at.ensures c.in_ok-push.ensures.ok lt item
          (c.requires.levels ∙ sym (length-map c.args.types.items tree_of)) h;
      kinds = kinds-on c.args.n f c.loop-ty.args c.as_slice-at.result.now c.push.new.self _ c.as_slice-at.ensures c.in_ok-push.ensures.ok c.loop-ty.invariant.kinds h;
    }
