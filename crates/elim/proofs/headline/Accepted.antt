-- A declaration that the elaborator accepts is shown as the headline says.
use Rattle.std.proofs.Common.{◌≡◌, ℕ, Bool, true, false, List, ◌∷◌, ◌++◌, codes, Ok, refl, sym, ap, subst, ◌∙◌}
use Rattle.std.specs.Prelude.{Contains, IsTrue, is_some, slice_get}
use Rattle.theory.specs.Signatures.{Definition, FamilyOf}
use Rattle.theory.specs.WellFormed.{pushed}
use Rattle.surface_syntax.specs.Trees as surf
use Rattle.resolve.specs.DeclaredNames.{first_name}
use Rattle.elab_session.specs.Sessions.{IsReady}
use Rattle.function_session.specs.Declaring.{declared_in}
use Rattle.function_session.specs.Elaborating.{Elaborated}
use Rattle.function_session.specs.Laws.{IsAsDeclared}
use Rattle.function_session.specs.Sessions.{Session}
use Rattle.function_session.specs.decisions.Laws.{type_of_decision}
use Rattle.clause_reports.specs.elaboration.Functions.{planned_of}
use Rattle.resolve.specs.Functions.{Function}
use Rattle.elim.specs.written_functions.Laws.{FunctionsAreByClauses}
use Rattle.elim.specs.written_functions.PlannedFunctions.{IsByPlannedClauses, IsOfPlan}
use Rattle.function_session.proofs.equation_laws.LeftShowing.{ok-is}
use Rattle.elim.specs.elim_program.Acceptance.{AcceptedIsShown, IsAccepted}
use Rattle.elim.specs.elim_program.Headline.{IsShown}
use Rattle.elim.specs.elim_program.Outputs.{head_lines}
use Rattle.elim.specs.elim_program.Written.{IsWritten}
use Rattle.elim.proofs.elim_program.FirstNames.{first-of_name, plain-name, plain-signature}
use Rattle.elim.proofs.elim_program.Lines.{if_ok}
use Rattle.elim.proofs.elim_program.NoEquations.{no-equations}
use Rattle.elim.proofs.elim_program.Shown.{decision-written, mutual-written}
use Rattle.elim.specs.headline.program_laws.Laws.{GivesByTheGrammar}
use Rattle.elim.specs.headline.FullHeadline.{AcceptedIsTheShown, IsOfTheSame}
use Rattle.elim.specs.headline.SamePlans.{HasSamePlan}

-- ---- the head lines say whether axiom K is on

-- whether the second line has an eighth byte
says-k : List (List ℕ) → Bool
says-k (line ∷ next ∷ lines) = is_some (slice_get next 7)
says-k lines = false

says-its-k : (k : Bool) (lines : List (List ℕ)) → says-k (head_lines k ++ lines) ≡ k
unfolding says-k
says-its-k true lines = refl
says-its-k false lines = refl

same-k : (j k : Bool) (above xs ys : List (List ℕ)) → above ≡ head_lines j ++ xs → above ≡ head_lines k ++ ys → j ≡ k
same-k j k above xs ys e f = sym (says-its-k j xs) ∙ ap says-k (sym e ∙ f) ∙ says-its-k k ys

-- ---- the declaration

written : FunctionsAreByClauses → (s : Session) (d : surf.Decl) (a : Elaborated) (name : List ℕ) → IsReady s.signature → declared_in s d ≡ Ok a
    → IsAsDeclared s d a → a.name ≡ name → IsWritten s.signature d name a.signature a.lines a.equations
written by_clauses s (surf.Def x ty body) a name ready is own named =
    let w = own.written in
    let T = pushed s.signature (Definition x.text w.type w.term) in (
      plain-name x.text T a name w.accepted named,
      own.lines,
      no-equations s (surf.Def x ty body) a tt is,
      record {
        type = w.type;
        term = w.term;
        type_resolved = w.type_resolved;
        body_resolved = w.body_resolved;
        typed = w.typed;
        added = plain-signature x.text T a w.accepted;
      },
    )
written by_clauses s (surf.Data x params ty cons) a name ready is own named =
    let w = own.written in
    let T = pushed s.signature (FamilyOf w.entry) in (
      plain-name x.text T a name w.accepted named,
      own.lines,
      no-equations s (surf.Data x params ty cons) a tt is,
      record {
        raw = w.raw;
        entry = w.entry;
        resolved = w.resolved;
        given = w.given;
        formed = w.formed;
        added = plain-signature x.text T a w.accepted;
      },
    )
written by_clauses s (surf.Fun x ty clauses) a name ready is own named = (
  plain-name x.text a.signature a name own.accepted named,
  no-equations s (surf.Fun x ty clauses) a tt is,
  (if_ok (IsByPlannedClauses s.signature s.fuel x ty clauses) (declared_in s (surf.Fun x ty clauses)) a is
      (by_clauses s.signature s.fuel x ty clauses ready)).by_clauses,
)
written by_clauses s (surf.Decide x family into) a name ready is own named =
    let type = type_of_decision own.given.family own.decided own.given.into in (
      plain-name x.text (pushed own.before (Definition x.text type own.body)) a name own.accepted named,
      own.lines,
      no-equations s (surf.Decide x family into) a tt is,
      decision-written s x family into a own,
    )
written by_clauses s (surf.Mutual params members family tag tags) a name ready is own named = (
  plain-name (first_name members family).text a.signature a name own.accepted named,
  own.lines,
  mutual-written s params members family tag tags a own,
)

-- the function has the plan with which it is accepted
same-plan : (by_clauses : FunctionsAreByClauses) (s : Session) (d : surf.Decl) (a : Elaborated) (name : List ℕ) (ready : IsReady s.signature)
    (is : declared_in s d ≡ Ok a) (own : IsAsDeclared s d a) (named : a.name ≡ name)
    → HasSamePlan s.signature name a.signature a.lines a.equations d (written by_clauses s d a name ready is own named) s a d own
unfolding written
same-plan by_clauses s (surf.Def x ty body) a name ready is own named = tt
same-plan by_clauses s (surf.Data x params ty cons) a name ready is own named = tt
same-plan by_clauses s (surf.Fun x ty clauses) a name ready is own named =
    let S = s.signature in
    let b =
    if_ok (IsByPlannedClauses S s.fuel x ty clauses) (declared_in s (surf.Fun x ty clauses)) a is (by_clauses S s.fuel x ty clauses ready) in
    let given : b.by_clauses.given ≡ own.given = ok-is (sym b.by_clauses.resolved ∙ own.resolved) in
    let plan : b.plan ≡ own.plan = ok-is (sym b.planned ∙ ap (λ (f : Function). (planned_of S f s.fuel).0) given ∙ own.planned) in
    subst (λ p. IsOfPlan a.signature p b.by_clauses.at) plan b.of_plan
same-plan by_clauses s (surf.Decide x family into) a name ready is own named = tt
same-plan by_clauses s (surf.Mutual params members family tag tags) a name ready is own named = tt

-- ---- the headline

module _ (is_shown : AcceptedIsShown) (grammar : GivesByTheGrammar) (by_clauses : FunctionsAreByClauses) (words : List (List ℕ)) (bytes : List ℕ)
    (above : List (List ℕ)) (name : List ℕ) (a : IsAccepted words bytes above name) where
  asks-k : IsTrue a.command.k → Contains words (codes "--k")
  asks-k on =
      let one = is_shown words bytes above name a in
      one.asked_for (subst IsTrue (sym (same-k one.k a.command.k above _ a.lines one.lines a.heads)) on)

  shown : IsShown words bytes above name
  shown = record {
    k = a.command.k;
    asked_for = asks-k;
    decls = a.decls;
    text = grammar bytes a.decls a.text;
    front = a.front;
    declaration = a.declaration;
    back = a.back;
    in_text = a.in_text;
    first = first-of_name words bytes above name a;
    before = a.session.signature;
    after = a.accepted.signature;
    clauses = a.accepted.lines;
    equations = a.accepted.equations;
    written = written by_clauses a.session a.declaration a.accepted name a.ready a.elaborated a.written a.named;
    longer = a.longer;
    formed = a.whole.well_formed;
    earlier = a.earlier;
    shown = a.so_far;
    lines = a.heads ∙ ap (λ ls. head_lines a.command.k ++ ls) a.ends;
  }

  same : IsOfTheSame words bytes above name shown a
  unfolding shown
  same = record {
    k = refl;
    decls = refl;
    front = refl;
    declaration = refl;
    before = refl;
    after = refl;
    clauses = refl;
    equations = refl;
    plan = same-plan by_clauses a.session a.declaration a.accepted name a.ready a.elaborated a.written a.named;
  }

pub the-shown : AcceptedIsShown → GivesByTheGrammar → FunctionsAreByClauses → AcceptedIsTheShown
the-shown is_shown grammar by_clauses words bytes above name a =
    (shown is_shown grammar by_clauses words bytes above name a, same is_shown grammar by_clauses words bytes above name a)
