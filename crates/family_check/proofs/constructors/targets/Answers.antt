use Rattle.std.proofs.Common.{◌≡◌, None, true, false, Ok, drop, length, sym, ap, ◌∙◌, rules, arith}
use Rattle.std.proofs.lemmas.List.{length-map}
use Rattle.theory.specs.Spines.{spine_of}
use Rattle.core_terms.specs.Meanings.{tree_of, tele_of}
use Rattle.core_sig.specs.Meanings.{family_of}
use Rattle.family_check.specs.Shapes.{first_offender}
use Rattle.family_check.proofs.CallOutcomes.{given_list}
use Rattle.family_check.proofs.ShapeLoops.{no-targets, all-targets, long-end}
use Rattle.family_check.proofs.constructors.targets.Goals as goal

pub returns-then-not-is_recursive : goal.returns-then-not-is_recursive
returns-then-not-is_recursive c = λ t domains ends q.
    let f = family_of c.args.f.now in
    let ts = tele_of c.args.types.now in
    let none : first_offender c.args.n f 0 ts ≡ None = sym c.first_offender.ensures ∙ (search rules) in
    let plain : c.is_recursive.result ≡ false = search rules in
    no-targets c.args.n f c.args.number t ts (tree_of c.args.end) (length c.args.types.now) c.kind_of.result (record { domains = domains; ends = ends; none_offends = none })
    (length-map c.args.types.now tree_of) c.requires.ended
    (c.kind_of.ensures f (length-map c.args.f.now.params tree_of) (length-map c.args.f.now.indices (λ i. (tree_of i.ty, i.level)))) (sym c.is_recursive.ensures ∙ plain)

pub into_targets-requires : goal.into_targets-requires
into_targets-requires c =
    let f = family_of c.args.f.now in
    let recursive : c.is_recursive.result ≡ true = search rules in
    let long = long-end c.args.n f (length c.args.types.now) c.kind_of.result (tree_of c.args.end) c.requires.ended
    (c.kind_of.ensures f (length-map c.args.f.now.params tree_of) (length-map c.args.f.now.indices (λ i. (tree_of i.ty, i.level)))) (sym c.is_recursive.ensures ∙ recursive) in
    omega (arith, ap length c.as_slice.ensures, length-map c.args.f.now.params tree_of)

pub returns : goal.returns
returns c = λ t domains ends.
    let f = family_of c.args.f.now in
    let ts = tele_of c.args.types.now in
    let none : first_offender c.args.n f 0 ts ≡ None = sym c.first_offender.ensures ∙ (search rules) in
    let recursive : c.is_recursive.result ≡ true = search rules in
    ap (λ us. Ok us)
    (given_list _ _ c.in_ok-into_targets.ensures ∙ ap (λ k. drop k (spine_of (tree_of c.args.end))) (ap length c.as_slice.ensures ∙ sym (length-map c.args.f.now.params tree_of)))
    ∙ all-targets c.args.n f c.args.number t ts (tree_of c.args.end) (length c.args.types.now) c.kind_of.result (record { domains = domains; ends = ends; none_offends = none })
    (length-map c.args.types.now tree_of) c.requires.ended
    (c.kind_of.ensures f (length-map c.args.f.now.params tree_of) (length-map c.args.f.now.indices (λ i. (tree_of i.ty, i.level)))) (sym c.is_recursive.ensures ∙ recursive)
