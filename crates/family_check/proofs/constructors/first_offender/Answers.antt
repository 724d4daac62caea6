use Rattle.std.proofs.Common.{◌≡◌, ◌<◌, true, false, length, sym, ◌∙◌, rules, arith}
use Rattle.std.proofs.lemmas.List.{length-map}
use Rattle.core_terms.specs.Meanings.{tree_of, tele_of}
use Rattle.core_sig.specs.Meanings.{family_of}
use Rattle.core_terms.proofs.Lists.{map-item}
use Rattle.family_check.proofs.ShapeLoops.{offender-on, offender-here}
use Rattle.family_check.proofs.constructors.first_offender.Goals as goal

pub returns-then-not-is_positive : goal.returns-then-not-is_positive
returns-then-not-is_positive c =
    let ts = tele_of c.args.types.now in
    let lt : c.loop-at.at < length ts = omega (arith, length-map c.args.types.now tree_of) in
    let item = map-item tree_of c.args.types.now c.loop-at.at c.index-types-at.result c.index-types-at.is in
    let test : c.is_positive.result ≡ false = search rules in
    offender-here c.args.n (family_of c.args.f.now) ts c.loop-at.at (tree_of c.index-types-at.result) _ c.loop-at.invariant lt item (sym c.is_positive.ensures ∙ test)

pub loop-at-preserved : goal.loop-at-preserved
loop-at-preserved c =
    let ts = tele_of c.args.types.now in
    let lt : c.loop-at.at < length ts = omega (arith, length-map c.args.types.now tree_of) in
    let item = map-item tree_of c.args.types.now c.loop-at.at c.index-types-at.result c.index-types-at.is in
    let test : c.is_positive.result ≡ true = search rules in
    offender-on c.args.n (family_of c.args.f.now) ts c.loop-at.at (tree_of c.index-types-at.result) _ c.loop-at.invariant lt item (sym c.is_positive.ensures ∙ test)
