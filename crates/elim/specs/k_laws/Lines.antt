-- Lines of clauses that show no symbol of axiom K.
use Rattle.std.specs.Prelude.{List, [], ◌∷◌}
use Rattle.theory.specs.Terms.{Term}
use Rattle.theory.specs.Telescopes.{Telescope}
use Rattle.clause_reports.specs.Reports.{Line, Definitional, Proved, Shadowed, Absurd}
use Rattle.clause_reports.specs.elaboration.Functions.{ClauseLine}
use Rattle.elim.specs.k_laws.Lacking.{Lack}

-- a leaf is shown by its context and its terms
abbrev pub LeavesLack : List (Telescope × List Term) → Type 0
LeavesLack [] = Unit {0}
LeavesLack (leaf ∷ leaves) = (Lack leaf.0 × Lack leaf.1) × LeavesLack leaves

-- The line of a shadowed clause shows a context, arguments and leaves. No other line shows a term.
abbrev pub LineLacks : Line → Type 0
LineLacks (Shadowed earlier context vector leaves) = Lack context × Lack vector × LeavesLack leaves
LineLacks Definitional = Unit {0}
LineLacks (Proved n) = Unit {0}
LineLacks Absurd = Unit {0}

abbrev pub LinesLack : List ClauseLine → Type 0
LinesLack [] = Unit {0}
LinesLack (line ∷ lines) = LineLacks line.line × LinesLack lines
