use Rattle.std.proofs.Common.{◌≡◌, length, slice_get, Option, Some, option_map, refl, sym, ap, ◌∙◌, subst}
use Rattle.std.proofs.lemmas.Option.{slice_get-map, slice_get_read}
use Rattle.theory.specs.Families.{Constructor}
use Rattle.core_terms.specs.Answers.{Gives}
use Rattle.core_terms.specs.TreeMeanings.{steps_of}
use Rattle.core_sig.specs.Meanings.{constructor_of}
use Rattle.problems.specs.MemberMeanings.{member_meant}
use Rattle.split_terms.specs.NodeMeanings.{node_of}
use Rattle.function_entries.specs.CodeTrees.{node_after}
use Rattle.function_entries.proofs.nodes.node_after.Goals as goal

pub returns-in-Some : goal.returns-in-Some
returns-in-Some c =
    let meant = constructor_of (length c.args.m.now.family.now.params) in
    let read = slice_get_read c.as_slice.result.now _ c.args.number c.in-Some.con.now refl c.in-Some.ensures.lookup.3.0 c.in-Some.ensures.lookup.1 in
    let there = subst (λ cons. slice_get cons c.args.number ≡ Some c.in-Some.con.now) c.as_slice.ensures read in
    let P : Option Constructor → Type 0 = λ found.
    Gives node_of c.node_with.result
    (node_after c.args.sig.now (node_of c.args.node.now) (member_meant c.args.m.now) c.args.x c.args.number (steps_of c.args.steps.now) found) in
    subst P (sym (slice_get-map meant c.args.m.now.family.now.cons c.args.number ∙ ap (option_map meant) there)) c.node_with.ensures
