-- Why a function by clauses is refused, with the evidence.
use Rattle.std.specs.Prelude.{ℕ, ◌+◌, List, [], Result, Ok, Err, codes}
use Rattle.theory.specs.Terms.{Term, Sort}
use Rattle.theory.specs.Signatures.{Signature}
use Rattle.core_terms.specs.Answers.{Spent, SpentOr}
use Rattle.core_terms.specs.Patterns as pattern
use Rattle.core_terms.specs.Patterns.{Pat}
use Rattle.core_terms.specs.Verdicts.{Denial, Verdict, Yes, No, Mismatch}
use Rattle.core_terms.specs.declared.stop.Stop.{Stop}
use Rattle.core_text.specs.SymbolNames.{constructor_name_at}
use Rattle.core_text.specs.TermText.{term_text, spaced}
use Rattle.unification.specs.declared.why.Why.{Why}
use Rattle.case_trees.specs.Stops as tree
use Rattle.case_trees.specs.Stops.{TreeStop}
use Rattle.clause_reports.specs.Stops as report
use Rattle.clause_reports.specs.Stops.{Rejection, ReportStop}
use Rattle.core_text.specs.ContextText.{context_text, reason_text}

-- A clause: the function or helper that it belongs to, by name, and its number, counted from 1.
pub record Owner : Type 0 where
  pub function : List ℕ
  pub clause : ℕ

-- the written part that the checker rejects
pub data Part : Type 0 where
  OfType : Part
  OfDot : Owner → Part
  OfSide : Owner → Part
  OfWith : Owner → Part
  OfGoal : Owner → Part

-- a call that does not fit a position, counted from 1
pub record FailingCall : Type 0 where
  pub position : ℕ
  pub owner : Owner
  pub call : List ℕ

-- Contexts, terms and lines are shown in core text over the signature in which the refusal arose.
pub data Refusal : Type 0 where
  Halts : Stop → Refusal
  IllTyped : Part → (place context reason : List ℕ) → Refusal
  WrongConstructor : Owner → (context type : List ℕ) → Refusal
  Stuck : Owner → (context left right : List ℕ) → Why → Refusal
  Uncovered : (function context vector : List ℕ) → Refusal
  NotAbsurd : Owner → (constructor : List ℕ) → Refusal
  Impossible : Owner → (context left right : List ℕ) → Refusal
  DotMismatch : Owner → (context written forced : List ℕ) → Refusal
  SelfInType : Owner → Refusal
  NotSmaller : List FailingCall → Refusal
  Rejected : Rejection → Refusal

abbrev pub Elaborating : Type 0 → Type 0
Elaborating A = SpentOr Refusal A

abbrev pub answers : {A : Type 0} → Result A Refusal → ℕ → Elaborating A
answers answer left = (answer, left)

abbrev pub or_halts : {A : Type 0} → Result A Stop → Result A Refusal
or_halts (Ok a) = Ok a
or_halts (Err e) = Err (Halts e)

-- the answer of a call that knows no other refusals
abbrev pub halting : {A : Type 0} → Spent A → Elaborating A
halting spent = (or_halts spent.0, spent.1)

-- ---- rejections by the checker

abbrev pub ill_typed : Signature → Part → Denial → Refusal
ill_typed S part d = IllTyped part d.place (context_text S d.ctx) (reason_text S d.reason)

abbrev pub or_ill_typed : Signature → Part → Result Verdict Stop → Result Term Refusal
or_ill_typed S part (Ok (Yes type)) = Ok type
or_ill_typed S part (Ok (No d)) = Err (ill_typed S part d)
or_ill_typed S part (Err e) = Err (Halts e)

-- the checker's answer for a part: its type, or the refusal where it rejects the part
abbrev pub granted : Signature → Part → Spent Verdict → Elaborating Term
granted S part asked = answers (or_ill_typed S part asked.0) asked.1

-- a part whose level is too high, in the empty context
abbrev pub level_too_high : Signature → Part → (level greatest : ℕ) → Refusal
level_too_high S part level greatest =
    IllTyped part [] (context_text S []) (reason_text S (Mismatch (Sort level) (Sort greatest)))

-- ---- walks and trees

-- a pattern where the term that it meets is neither a variable nor a constructor
abbrev pub pattern_text : Signature → Pat → List ℕ
pattern_text S (pattern.Con n number pats) = constructor_name_at S n number
pattern_text S pat = codes "()"

-- Why a walk or a tree ends, where clause `number` belongs to the function or helper.
abbrev pub owner_of : (function : List ℕ) → (clause : ℕ) → Owner
owner_of function clause = record { function = function; clause = clause + 1 }

abbrev pub of_tree : Signature → (function : List ℕ) → TreeStop → Refusal
of_tree S f (tree.Halts e) = Halts e
of_tree S f (tree.Stuck clause context u v why) =
    Stuck (owner_of f clause) (context_text S context) (term_text S u) (term_text S v) why
of_tree S f (tree.Uncovered context terms) = Uncovered f (context_text S context) (spaced S terms)
of_tree S f (tree.NotAbsurd clause n number) = NotAbsurd (owner_of f clause) (constructor_name_at S n number)
of_tree S f (tree.Impossible clause context u v) =
    Impossible (owner_of f clause) (context_text S context) (term_text S u) (term_text S v)
of_tree S f (tree.WrongConstructor clause context type) =
    WrongConstructor (owner_of f clause) (context_text S context) (term_text S type)
of_tree S f (tree.Forced clause context pat t) =
    DotMismatch (owner_of f clause) (context_text S context) (pattern_text S pat) (term_text S t)

abbrev pub or_ends : {A : Type 0} → Signature → (function : List ℕ) → Result A TreeStop → Result A Refusal
or_ends S f (Ok a) = Ok a
or_ends S f (Err e) = Err (of_tree S f e)

-- the answer of a walk or of a tree
abbrev pub walking : {A : Type 0} → Signature → (function : List ℕ) → tree.Stopping A → Elaborating A
walking S f outcome = answers (or_ends S f outcome.0) outcome.1

-- ---- reports

abbrev pub of_report : Signature → Owner → ReportStop → Refusal
of_report S owner (report.Halts e) = Halts e
of_report S owner (report.Stuck context u v why) =
    Stuck owner (context_text S context) (term_text S u) (term_text S v) why
of_report S owner (report.Rejected r) = Rejected r

abbrev pub or_no_report : {A : Type 0} → Signature → Owner → Result A ReportStop → Result A Refusal
or_no_report S owner (Ok a) = Ok a
or_no_report S owner (Err e) = Err (of_report S owner e)

abbrev pub reporting : {A : Type 0} → Signature → Owner → report.Reporting A → Elaborating A
reporting S owner outcome = answers (or_no_report S owner outcome.0) outcome.1
