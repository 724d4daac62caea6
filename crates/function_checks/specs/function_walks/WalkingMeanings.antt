-- The meanings of the parts of a function that are walked.
use Rattle.std.specs.Prelude.{List, map}
use Rattle.core_terms.specs.Meanings.{tree_of, tele_of}
use Rattle.core_terms.specs.PatternMeanings.{clauses_of}
use Rattle.core_terms.specs.TreeMeanings.{walk_of}
use Rattle.tree_translation.specs.structural_rec.Meanings.{uses_of}
use Rattle.clause_reports.specs.elaboration.Walking as pure
use Rattle.function_checks.specs.declared.function_walks.parts.Given.{Given}
use Rattle.function_checks.specs.declared.function_walks.parts.Opened.{Opened}
use Rattle.function_checks.specs.declared.function_walks.parts.Session.{Session}
use Rattle.function_checks.specs.declared.function_walks.parts.Walked.{Walked}

abbrev pub session_of : Session → pure.Session
session_of s = record { signature = s.sig.now; name = s.name.now; own = s.own }

abbrev pub opened_of : Opened → pure.Opened
opened_of p = record { level = p.level; tele = tele_of p.tele; terms = tele_of p.terms; goal = tree_of p.goal }

abbrev pub walked_of : Walked → pure.Walked
walked_of w = record {
  part = opened_of w.part;
  clauses = clauses_of w.clauses.now;
  walks = map walk_of w.walks;
  sides = tele_of w.sides;
}

abbrev pub given_of : Given → pure.Given
given_of g = record {
  walks = map walk_of g.walks;
  sides = tele_of g.sides;
  helpers = map walked_of g.helpers;
  uses = uses_of g.uses;
}
