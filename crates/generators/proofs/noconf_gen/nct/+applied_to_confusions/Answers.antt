use Rattle.std.proofs.Common.{◌≡◌, ◌∷◌, ◌-◌, length, take, drop, arith}
use Rattle.std.proofs.lemmas.Grind.{common_steps}
use Rattle.core_terms.specs.Meanings.{tree_of}
use Rattle.core_terms.proofs.Builders.{ok_is}
use Rattle.core_sig.specs.Shapes.{constructor_shape, shape_of}
use Rattle.generators.specs.noconf_gen.NoConfusionTypes.{confusion_method}
use Rattle.generators.proofs.noconf_gen.Entries.{next-method}
use Rattle.generators.proofs.noconf_gen.nct.+applied_to_confusions.Goals as goal

pub returns-in_ok-head-in-len1-up : goal.returns-in_ok-head-in-len1-up
returns-in_ok-head-in-len1-up t c =
    let subject = c.args.subject in
    let split : c.args.cons.now ≡ c.con-item.result ∷ take (length c.args.cons.now - 1) (drop 1 c.args.cons.now) = grind (arith, common_steps) in
    next-method (confusion_method subject.fam (shape_of subject.family.now) subject.number (constructor_shape subject.con.now) c.args.m c.args.depth) c.applied_to_confusions.result
    c.args.at (tree_of c.args.head) (tree_of c.in_ok-head-in-len1-up.head) (tree_of c.in_ok-method-in-len1-up.method) c.con-item.result (take (length c.args.cons.now - 1) (drop 1 c.args.cons.now)) c.args.cons.now
    (ok_is c.in_ok-head-in-len1-up.ensures) (ok_is c.in_ok-method-in-len1-up.ensures) c.applied_to_confusions.ensures split
