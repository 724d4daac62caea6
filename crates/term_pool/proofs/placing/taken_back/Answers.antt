use Rattle.std.proofs.Common.{◌∷◌, [], ◌++◌, ap, take, ◌∙◌}
use Rattle.term_pool.proofs.Places.{take-before}
use Rattle.term_pool.proofs.placing.taken_back.Goals as goal

pub returns : goal.returns
returns c before is at =
    c.truncate.ensures.keys ∙ (ap (take c.args.at) is ∙ (ap (λ n. take n (before ++ c.args.node ∷ [])) at ∙ take-before before c.args.node))
