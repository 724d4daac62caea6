-- The point at which a walk or a tree is.
use Rattle.std.specs.Prelude.{◌&&◌, cond, List, map, length, take, Result, Ok, Err}
use Rattle.theory.specs.Terms.{Term}
use Rattle.theory.specs.Substitutions.{inst, fill}
use Rattle.theory.specs.Telescopes.{Telescope, variables}
use Rattle.theory.specs.Eliminators.{no_variable}
use Rattle.theory.specs.Signatures.{Signature}
use Rattle.core_terms.specs.Answers.{is_low, are_low}
use Rattle.core_terms.specs.declared.stop.Stop.{Stop}
use Rattle.core_terms.specs.declared.stop.Stop.TheVariants.{Deep}
use Rattle.case_trees.specs.Pairs.{Pairs, all_with_terms, are_low_pairs}
use Rattle.case_trees.specs.Keeping.{keep_all}

-- The context and the goal there; a term of the context for each variable of the context that was given; and the terms of the
-- columns, with what clauses were compared with.
pub record Point : Type 0 where
  pub context : Telescope
  pub goal : Term
  pub substitution : List Term
  pub terms : List Term

abbrev pub bounded_point : Point → Result Point Stop
bounded_point p =
    cond (are_low p.context && (is_low p.goal && (are_low p.substitution && are_low p.terms))) (Ok p) (Err Deep)

-- the point at which all begins: each variable stands for itself
abbrev pub start_at : Telescope → (goal : Term) → (terms : List Term) → Point
start_at context goal terms = record {
  context = context;
  goal = goal;
  substitution = variables (length context);
  terms = terms;
}

-- a term of a context whose variables have these terms
abbrev pub under_solution : List Term → Term → Term
under_solution solution t = inst (fill no_variable solution) t

-- the point in a new context, where the variables of the old one have the terms of a solution
abbrev pub moved_point : Point → Telescope → (solution : List Term) → Point
moved_point p context solution = record {
  context = context;
  goal = under_solution solution p.goal;
  substitution = map (under_solution solution) p.substitution;
  terms = map (under_solution solution) p.terms;
}

abbrev pub moved_pairs : (solution : List Term) → Pairs → Pairs
moved_pairs solution pairs = all_with_terms (under_solution solution) pairs

abbrev pub bounded_pairs : Pairs → Result Pairs Stop
bounded_pairs pairs = cond (are_low_pairs pairs) (Ok pairs) (Err Deep)

-- An outcome's solution for the variables of the point; the terms for the arguments of a constructor come after it.
abbrev pub solution_for : Point → List Term → List Term
solution_for p solution = take (length p.context) solution

-- The point with what the pairs of a clause were compared with. Where it is too high, a comparison was Deep before.
abbrev pub point_keeping : Signature → Point → Pairs → Result Point Stop
point_keeping S p pairs = bounded_point (record p { terms = keep_all S pairs p.terms })
