-- Each declaration of a session is the one that is meant, where no name of a family or of a constructor holds a `!`.
use Rattle.std.proofs.Common.{◌≡◌, ℕ, Bool, true, cond, List, Result, Ok, Err, refl, ap}
use Rattle.theory.specs.Signatures.{Signature}
use Rattle.core_sig.specs.Drafts.{Draft}
use Rattle.surface_syntax.specs.Trees as surf
use Rattle.surface_syntax.specs.declared.tree.Word.{Word}
use Rattle.resolve.specs.Functions.{Function, function}
use Rattle.resolve.specs.declared.stop.ResolveStop.{ResolveStop}
use Rattle.drafts.specs.draft_checks.Checks.{unmarked}
use Rattle.clause_reports.specs.elaboration.Functions.{function_of}
use Rattle.function_session.specs.Elaborating.{enter_function, on_function, on_lines}
use Rattle.function_session.specs.decisions.Entering.{draft_entered, draft_meant, or_refused}
use Rattle.function_session.specs.function_lines.Opened.{checked_entered, deep, lines_closed}
use Rattle.function_session.proofs.DeclaredDecisions.{decision-same}
use Rattle.function_session.proofs.function_laws.declaration_laws.UnmarkedMutual.{mutual-meant}
use Rattle.function_session.specs.function_laws.declaration_laws.Laws.{DeclarationIsMeant, DeclaredIsMeant}
use Rattle.function_session.specs.Meant.{enter_meant}

-- ---- the declaration

resolved-meant : (S : Signature) (fuel : ℕ) (x : Word) (r : Result Function ResolveStop) → unmarked S ≡ true
    → on_function r (enter_function S fuel x) ≡ on_function r (enter_meant S fuel x)
resolved-meant S fuel x (Ok f) marks = ap (λ (b : Bool). on_lines x fuel (cond b (function_of S f fuel) (lines_closed S f fuel)).0) marks
resolved-meant S fuel x (Err e) marks = refl

pub declaration-meant : DeclarationIsMeant
declaration-meant S fuel (surf.Def x ty body) marks = refl
declaration-meant S fuel (surf.Data x params ty cons) marks = refl
declaration-meant S fuel (surf.Decide x family decision) marks = refl
declaration-meant S fuel (surf.Mutual params members family tag tags) marks = refl
declaration-meant S fuel (surf.Fun x ty clauses) marks = resolved-meant S fuel x (function S x ty clauses) marks

-- ---- in a session

draft-meant : (S : Signature) (fuel : ℕ) (name : List ℕ) (d : Draft) → unmarked S ≡ true → draft_entered S fuel name d ≡ draft_meant S fuel name d
draft-meant S fuel name d marks = ap (λ (b : Bool). or_refused fuel (cond b (checked_entered S name d fuel) (deep fuel)).0) marks

pub declared-meant : DeclaredIsMeant
declared-meant s (surf.Def x ty body) names marks = refl
declared-meant s (surf.Data x params ty cons) names marks = refl
declared-meant s (surf.Decide x family into) names marks =
    decision-same draft_entered draft_meant s.signature s.decisions s.fuel x family into (λ given f draft at plain is.
    draft-meant s.signature s.fuel given.name draft marks)
declared-meant s (surf.Mutual params members family tag tags) names marks = mutual-meant s.signature s.fuel params members family tag tags names marks
declared-meant s (surf.Fun x ty clauses) names marks = resolved-meant s.signature s.fuel x (function s.signature x ty clauses) marks
