-- The meanings of results of the code.
use Rattle.std.specs.Prelude.{map, Result}
use Rattle.theory.specs.Signatures.{Signature}
use Rattle.core_terms.specs.Answers.{GivesUnless}
use Rattle.elab_session.specs.Refusals.{IsUnforeseen}
use Rattle.elab_session.specs.declared.refusal.Refusal.{Refusal}
use Rattle.function_session.specs.function_lines.LineMeanings.{clause_line_of}
use Rattle.function_session.specs.Elaborating.{Elaborated}
use Rattle.function_session.specs.declared.accepted.Accepted.{Accepted}

-- the meaning of an accepted declaration, where the call leaves the signature T
abbrev pub elaborated_in : Signature → Accepted → Elaborated
elaborated_in T a = record { name = a.name; lines = map clause_line_of a.lines; equations = a.mutual; signature = T }

-- the answer of a call that leaves the signature T stands for `meant`, unless memory ran out
abbrev pub Answers : Signature → Result Accepted Refusal → Result Elaborated Refusal → Type 0
Answers T result meant = GivesUnless IsUnforeseen (elaborated_in T) result meant
