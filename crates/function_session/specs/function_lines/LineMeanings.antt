-- The meanings of lines of clauses in the code.
use Rattle.std.specs.Prelude.{List, map}
use Rattle.theory.specs.Signatures.{Signature}
use Rattle.clause_lines.specs.LineMeanings.{line_of}
use Rattle.clause_reports.specs.elaboration.Functions as pure
use Rattle.function_session.specs.function_lines.Phases.{lines_with}
use Rattle.function_session.specs.declared.function_lines.lines.ClauseLine.{ClauseLine}

abbrev pub clause_line_of : ClauseLine → pure.ClauseLine
clause_line_of l = record { function = l.function; clause = l.clause; line = line_of l.line }

-- lines with the signature after their entries
abbrev pub lines_of : Signature → List ClauseLine → pure.Lines
lines_of S lines = lines_with S (map clause_line_of lines)
