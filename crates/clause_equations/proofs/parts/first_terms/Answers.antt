use Rattle.std.proofs.Common.{sym}
use Rattle.std.proofs.lemmas.List.{take-map}
use Rattle.core_terms.specs.Meanings.{tree_of}
use Rattle.clause_equations.proofs.parts.first_terms.Goals as goal

pub returns-then-count-terms : goal.returns-then-count-terms
returns-then-count-terms c = sym (take-map tree_of c.args.count c.args.terms.now)
