use Rattle.std.proofs.Common.{ℕ, ◌+◌, ◌∷◌, List, [], ◌++◌, Ok, ap, ◌∙◌, subst as transport}
use Rattle.core_terms.specs.Answers.{Gives}
use Rattle.problems.proofs.LowTerms.{low-slice}
use Rattle.unifier.proofs.Orders.{dependants-sliced}
use Rattle.unifier.proofs.occurrences.dependants.Goals as goal

pub dependants_from-requires-clause-low : goal.dependants_from-requires-clause-low
dependants_from-requires-clause-low c = low-slice (c.args.p + 1) c.args.ctx.now c.requires.low

pub returns : goal.returns
returns c =
    let P : List ℕ → Type 0 = λ levels. Gives (λ v. v.items) c.dependants_from.result (Ok levels) in
    transport P
    (dependants-sliced c.new.result.items c.push.new.self.items c.args.p c.args.ctx.now c.new.ensures.items
    (c.in_ok-push.ensures.items ∙ ap (λ (levels : List ℕ). levels ++ c.args.p ∷ []) c.new-found.ensures.items)) c.dependants_from.ensures
