-- After a declaration the signature is again that of a session, and the earlier entries stay.
use Rattle.std.proofs.Common.{◌≡◌, ℕ, Bool, true, false, cond, [], Result, Ok, Err, IfOk, refl}
use Rattle.theory.specs.Signatures.{Signature, IsPrefix}
use Rattle.theory.specs.WellFormed.{IsWellFormed}
use Rattle.surface_syntax.specs.Trees as surf
use Rattle.surface_syntax.specs.declared.tree.Word.{Word}
use Rattle.resolve.specs.Functions.{Function, function}
use Rattle.resolve.specs.declared.stop.ResolveStop.{ResolveStop}
use Rattle.clause_reports.proofs.Keeping.{Any, any, weaker}
use Rattle.clause_reports.specs.elaboration.Functions.{Lines, function_of, planned_of}
use Rattle.clause_reports.specs.elaboration.Refusals as refusal
use Rattle.core_terms.proofs.Answers.{and_next-has}
use Rattle.clause_reports.proofs.elaboration.Keeping.{function-keeps}
use Rattle.drafts.specs.draft_checks.Checks.{unmarked}
use Rattle.function_session.specs.function_lines.Opened.{deep, function_in, lines_closed}
use Rattle.function_session.proofs.function_lines.Results.{longer-ready}
use Rattle.elab_session.specs.Declaring.{Declared, accepted_as, declare_of}
use Rattle.elab_session.specs.Sessions.{IsReady}
use Rattle.elab_session.specs.declared.refusal.Refusal.{Refusal}
use Rattle.elab_session.proofs.Resolved.{together}
use Rattle.elab_session.proofs.Written.{declare-extends, declare-ready}
use Rattle.function_session.specs.Elaborating.{Elaborated, elaborate_function, enter_function, on_function, on_lines, with_lines, without_lines}
use Rattle.function_session.specs.Laws.{ElaborateKeepsReady, KeepsReady}

pub without_lines-has : (P : Elaborated → Type 0) (r : Result Declared Refusal) → IfOk r (λ d. P (with_lines d [])) → IfOk (without_lines r) P
without_lines-has P (Ok d) h = h
without_lines-has P (Err e) h = tt

pub on_function-has : (P : Elaborated → Type 0) (r : Result Function ResolveStop) (go : Function → Result Elaborated Refusal)
    → ((f : Function) → r ≡ Ok f → IfOk (go f) P) → IfOk (on_function r go) P
on_function-has P (Ok f) go h = h f refl
on_function-has P (Err e) go h = tt

pub on_lines-has : (P : Elaborated → Type 0) (x : Word) (fuel : ℕ) (r : Result Lines refusal.Refusal)
    → IfOk r (λ l. P (with_lines (accepted_as x.text l.signature) l.lines)) → IfOk (on_lines x fuel r) P
on_lines-has P x fuel (Ok l) h = h
on_lines-has P x fuel (Err e) h = tt

-- a property of the lines that are meant is one of those of the session
pub opened-has : (P : Lines → Type 0) (S : Signature) (f : Function) (fuel : ℕ) → (unmarked S ≡ true → IfOk (function_of S f fuel).0 P)
    → IfOk (function_in S f fuel).0 P
opened-has P S f fuel h = by (unmarked S) refl
  where
    by : (b : Bool) → unmarked S ≡ b → IfOk (cond b (function_of S f fuel) (lines_closed S f fuel)).0 P
    by true marks = h marks
    by false marks = and_next-has Any P (planned_of S f fuel) (λ plan left. deep left) (any (planned_of S f fuel).0) (λ plan left u. tt)

-- a property of a function that is added, by that of its lines
pub function-has : (P : Elaborated → Type 0) (S : Signature) (fuel : ℕ) (x : Word) (ty : surf.Surf) (clauses : surf.Clauses)
    → ((f : Function) → function S x ty clauses ≡ Ok f
    → IfOk (function_of S f fuel).0 (λ l. P (with_lines (accepted_as x.text l.signature) l.lines)))
    → IfOk (elaborate_function S fuel x ty clauses) P
function-has P S fuel x ty clauses h =
    on_function-has P (function S x ty clauses) (enter_function S fuel x) (λ f is.
    on_lines-has P x fuel (function_in S f fuel).0
    (opened-has (λ l. P (with_lines (accepted_as x.text l.signature) l.lines)) S f fuel (λ marks. h f is)))

-- ---- the signature

function-ready : (S : Signature) (fuel : ℕ) (x : Word) (ty : surf.Surf) (clauses : surf.Clauses) → IsReady S
    → IfOk (elaborate_function S fuel x ty clauses) (KeepsReady S)
function-ready S fuel x ty clauses ready =
    function-has (KeepsReady S) S fuel x ty clauses (λ f is.
    weaker (λ (l : Lines). IsPrefix S l.signature × IsWellFormed l.signature)
    (λ (l : Lines). KeepsReady S (with_lines (accepted_as x.text l.signature) l.lines)) (function_of S f fuel).0
    (λ l h. record { longer = h.0; ready = longer-ready S l.signature ready h.0 h.1 })
    (function-keeps S f fuel ready.well_formed ready.prelude))

plain-ready : (S : Signature) (fuel : ℕ) (d : surf.Decl) → IsReady S → IfOk (without_lines (declare_of S fuel d)) (KeepsReady S)
plain-ready S fuel d ready =
    without_lines-has (KeepsReady S) (declare_of S fuel d)
    (together (λ (a : Declared). IsPrefix S a.signature) (λ (a : Declared). IsReady a.signature) Any (λ (a : Declared). KeepsReady S (with_lines a []))
    (declare_of S fuel d) (declare-extends S fuel d) (declare-ready S fuel d ready) (any (declare_of S fuel d))
    (λ a longer is u. record { longer = longer; ready = is }))

pub elaborate-ready : ElaborateKeepsReady
elaborate-ready S fuel (surf.Def x ty body) ready = plain-ready S fuel (surf.Def x ty body) ready
elaborate-ready S fuel (surf.Data x params ty cons) ready = plain-ready S fuel (surf.Data x params ty cons) ready
elaborate-ready S fuel (surf.Decide x family decision) ready = plain-ready S fuel (surf.Decide x family decision) ready
elaborate-ready S fuel (surf.Mutual params members family tag tags) ready = plain-ready S fuel (surf.Mutual params members family tag tags) ready
elaborate-ready S fuel (surf.Fun x ty clauses) ready = function-ready S fuel x ty clauses ready
