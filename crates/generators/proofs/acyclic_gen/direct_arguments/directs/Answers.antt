use Rattle.std.proofs.Common.{◌≡◌, ◌+◌, ◌≤◌, ◌<◌, ◌++◌, true, Ok, length, map, sym, subst}
use Rattle.std.proofs.lemmas.List.{length-map}
use Rattle.core_terms.specs.Answers.{IsUnforeseen, Gives}
use Rattle.core_terms.proofs.Answers.{stands-has}
use Rattle.core_sig.specs.Shapes.{argument_shape}
use Rattle.generators.specs.acyclic_gen.Bounds.{AreNear}
use Rattle.generators.specs.acyclic_gen.Statements as spec
use Rattle.generators.proofs.acyclic_gen.DirectLevels.{near-directs, has-directs}
use Rattle.generators.proofs.acyclic_gen.direct_arguments.directs.Goals as goal

pub returns-clause-near : goal.returns-clause-near
returns-clause-near c =
    let meant = spec.directs c.args.argument c.args.hypothesis (map argument_shape c.args.args.now) in
    stands-has IsUnforeseen (λ e. e) (λ ds. ds) AreNear c.directs_from.result (Ok meant)
    (subst (λ found. Gives (λ ds. ds) c.directs_from.result (Ok (found ++ meant))) c.new.ensures c.directs_from.ensures)
    (near-directs c.args.argument c.args.hypothesis (map argument_shape c.args.args.now)
    (subst (λ k. c.args.argument + k ≤ 100000) (sym (length-map c.args.args.now argument_shape)) c.requires.arguments))

pub returns-clause-some : goal.returns-clause-some
returns-clause-some c =
    let args = map argument_shape c.args.args.now in
    let meant = spec.directs c.args.argument c.args.hypothesis args in
    stands-has IsUnforeseen (λ e. e) (λ ds. ds) (λ ds. 0 < length ds → spec.has_direct args ≡ true) c.directs_from.result (Ok meant)
    (subst (λ found. Gives (λ ds. ds) c.directs_from.result (Ok (found ++ meant))) c.new.ensures c.directs_from.ensures)
    (has-directs c.args.argument c.args.hypothesis args)
