-- The end of a walk, as the code makes it.
use Rattle.std.specs.Prelude.{cond, Option, option_map, List, [], map, ◌++◌, Result, Ok, Err}
use Rattle.std.specs.Borrow.{Bor}
use Rattle.theory.specs.Terms.{Term}
use Rattle.core_terms.specs.Answers.{and_then, bounded, are_low}
use Rattle.core_terms.specs.CaseTrees.{Walk}
use Rattle.core_terms.specs.Meanings.{tree_of, tele_of}
use Rattle.core_terms.specs.declared.term.Term as code
use Rattle.core_terms.specs.declared.stop.Stop.{Stop}
use Rattle.core_terms.specs.declared.stop.Stop.TheVariants.{Deep}
use Rattle.case_trees.specs.OwnWalks.{or_none, walked_dots}
use Rattle.case_trees.specs.Pairs.{Pairs, all_bound, all_dots}
use Rattle.case_trees.specs.Points.{under_solution}

-- the term of a variable, where it has one
abbrev pub term_bound : Option (Bor code.Term) → Option Term
term_bound bound = option_map (λ t. tree_of t.now) bound

-- the terms of the clause's variables
abbrev pub bound_of : List (Option (Bor code.Term)) → List (Option Term)
bound_of bound = map term_bound bound

-- a dot of the code: the bindings that are put in, and the term that is forced
abbrev pub dot_of : code.Term × code.Term → Term × Term
dot_of d = (tree_of d.0, tree_of d.1)

abbrev pub dots_of : List (code.Term × code.Term) → List (Term × Term)
dots_of dots = map dot_of dots

-- a dot with the bindings in the written term, or Deep
abbrev pub dot_made : (binds : List Term) → (Term × Term) → Result (Term × Term) Stop
dot_made binds d = and_then (bounded (under_solution binds d.0)) (λ put. Ok (put, d.1))

-- dots after those that are made, or Deep where a term with bindings in one of them is too high
abbrev pub dots_behind : List (Term × Term) → List (Term × Term) → Result (List (Term × Term)) Stop
dots_behind made dots = cond (are_low (map (λ d. d.0) dots)) (Ok (made ++ dots)) (Err Deep)

-- bindings, and dots
abbrev pub ends_of : List code.Term × List (code.Term × code.Term) → List Term × List (Term × Term)
ends_of ends = (tele_of ends.0, dots_of ends.1)

-- those of pairs, or Deep
abbrev pub ends_made : Pairs → Result (List Term × List (Term × Term)) Stop
ends_made pairs =
    and_then (dots_behind [] (walked_dots (all_bound pairs) (all_dots pairs))) (λ dots. Ok (map or_none (all_bound pairs), dots))

-- the walk itself, or Deep
abbrev pub walk_made : Walk → Result Walk Stop
walk_made w = cond (are_low (map (λ d. d.0) w.dots)) (Ok w) (Err Deep)
