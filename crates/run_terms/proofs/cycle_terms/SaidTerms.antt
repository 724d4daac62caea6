-- The part of a tuple about an argument, from the terms for the variables and the term by levels.
use Rattle.std.proofs.Common.{◌≡◌, ℕ, List, Result, Ok, ap₂, ◌∙◌, subst as transport}
use Rattle.theory.specs.Terms.{Term}
use Rattle.theory.specs.Substitutions.{inst, fill}
use Rattle.theory.specs.Eliminators.{no_variable}
use Rattle.core_terms.specs.Answers.{Gives}
use Rattle.core_terms.specs.Instances.{instance_of}
use Rattle.core_terms.specs.Meanings.{tree_of}
use Rattle.core_terms.specs.declared.stop.Stop.{Stop}
use Rattle.core_terms.specs.declared.term.Term as code
use Rattle.core_terms.proofs.Instances.{instance-none}
use Rattle.core_sig.specs.Shapes.{ArgumentShape}
use Rattle.case_below_gen.specs.declared.sides.Side.{Side}
use Rattle.tree_translation.specs.CycleTerms.{Search, said_of}
use Rattle.run_terms.specs.cycle_terms.CodeCycles.{said_by_levels, said_values}

pub said-is : (r : Result code.Term Stop) (c : Search) (side : Side) (whole : Term) (arguments : List ArgumentShape) (at : ℕ) (tuple : Term) (values : List Term) (said : Term)
    → Gives tree_of r (Ok (instance_of values 0 said)) → values ≡ said_values c whole tuple → said ≡ said_by_levels side c.carrier arguments at
    → Gives tree_of r (Ok (said_of c side whole arguments at tuple))
said-is r c side whole arguments at tuple values said given vs t =
    let P : Term → Type 0 = λ u. Gives tree_of r (Ok u) in
    transport P (instance-none values said ∙ ap₂ (λ us u. inst (fill no_variable us) u) vs t) given
