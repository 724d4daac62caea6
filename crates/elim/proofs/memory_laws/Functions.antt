-- Functions by clauses in a session, and declarations.
use Rattle.std.proofs.Common.{◌≢◌, ℕ, Result, Ok, Err, List}
use Rattle.theory.specs.Signatures.{Signature}
use Rattle.core_sig.specs.Drafts.{Draft}
use Rattle.resolve.specs.Functions.{Function, function}
use Rattle.resolve.specs.declared.stop.ResolveStop.{ResolveStop}
use Rattle.surface_syntax.specs.Trees as surf
use Rattle.surface_syntax.specs.declared.tree.Word.{Word}
use Rattle.clause_reports.specs.elaboration.Functions.{Lines}
use Rattle.clause_reports.specs.elaboration.Refusals as refusal
use Rattle.clause_reports.specs.elaboration.Refusals.{Refusal, owner_of}
use Rattle.elab_session.specs.Declaring.{Declared}
use Rattle.elab_session.specs.declared.refusal.Refusal as session
use Rattle.elab_session.specs.declared.refusal.Refusal.TheVariants.{Memory}
use Rattle.function_session.specs.function_lines.Opened.{checked_entered, draft_in, function_in}
use Rattle.function_session.specs.Elaborating.{IsElaborated, elaborate_of, enter_function, on_function, on_lines, without_lines}
use Rattle.function_session.specs.Refusals.{refused_function}
use Rattle.elim.specs.memory_laws.Foreseen.{IsForeseenFunction, IsForeseenName}
use Rattle.elim.proofs.memory_laws.Runs.{Only, Ends, ok, no, now, done, next, either-ends}
use Rattle.elim.proofs.memory_laws.Names.{a-function}
use Rattle.elim.proofs.memory_laws.Declared.{IsForeseenRefusal, declares, never-memory, of-name, of-stop}
use Rattle.elim.proofs.memory_laws.Drafts.{draft-enters}
use Rattle.elim.proofs.memory_laws.Clauses.{reports}
use Rattle.elim.proofs.memory_laws.Meant.{makes, plans}

-- ---- over the signature of a session

pub one-draft : (S : Signature) (name : List ℕ) (d : Draft) (left : ℕ) → Ends IsForeseenFunction (checked_entered S name d left)
one-draft S name d left = next (reports S (owner_of name 0) (draft-enters S d left)) (λ e rest. done)

pub draft-opened : (S : Signature) (name : List ℕ) (d : Draft) (left : ℕ) → Ends IsForeseenFunction (draft_in S name d left)
draft-opened S name d left = either-ends _ (one-draft S name d left) (now (no tt))

pub opened : (S : Signature) (f : Function) (fuel : ℕ) → Ends IsForeseenFunction (function_in S f fuel)
opened S f fuel = either-ends _ (makes S f fuel) (next (plans S f fuel) (λ plan left. now (no tt)))

-- ---- declarations

pub refused : (fuel : ℕ) (e : Refusal) → IsForeseenFunction e → IsForeseenRefusal (refused_function fuel e)
refused fuel (refusal.Halts e) h = of-stop fuel e h
refused fuel (refusal.IllTyped part place context reason) h = tt
refused fuel (refusal.WrongConstructor owner context type) h = tt
refused fuel (refusal.Stuck owner context left right why) h = tt
refused fuel (refusal.Uncovered function context vector) h = tt
refused fuel (refusal.NotAbsurd owner constructor) h = tt
refused fuel (refusal.Impossible owner context left right) h = tt
refused fuel (refusal.DotMismatch owner context written forced) h = tt
refused fuel (refusal.SelfInType owner) h = tt
refused fuel (refusal.NotSmaller calls) h = tt
refused fuel (refusal.Rejected r) h = tt

with-lines : (x : Word) (fuel : ℕ) (r : Result Lines Refusal) → Only IsForeseenFunction r → Only IsForeseenRefusal (on_lines x fuel r)
with-lines x fuel (Ok l) h = ok
with-lines x fuel (Err e) h = no (refused fuel e h.is)

with-function : (S : Signature) (fuel : ℕ) (x : Word) (r : Result Function ResolveStop) → Only IsForeseenName r
    → Only IsForeseenRefusal (on_function r (enter_function S fuel x))
with-function S fuel x (Ok f) h = with-lines x fuel _ (opened S f fuel).only
with-function S fuel x (Err e) h = no (of-name e h.is)

declared : (r : Result Declared session.Refusal) → Only IsForeseenRefusal r → Only IsForeseenRefusal (without_lines r)
declared (Ok d) h = ok
declared (Err e) h = no h.is

pub elaborates : (S : Signature) (fuel : ℕ) (d : surf.Decl) → IsElaborated d → Only IsForeseenRefusal (elaborate_of S fuel d)
elaborates S fuel (surf.Def x ty body) is = declared _ (declares S fuel (surf.Def x ty body) tt fuel).only
elaborates S fuel (surf.Data x params ty cons) is = declared _ (declares S fuel (surf.Data x params ty cons) tt fuel).only
elaborates S fuel (surf.Decide x family decision) is = absurd is
elaborates S fuel (surf.Mutual params members family tag tags) is = absurd is
elaborates S fuel (surf.Fun x ty clauses) is = with-function S fuel x _ (a-function S x ty clauses)

pub elaborate-needs-no-memory : (S : Signature) (fuel : ℕ) (d : surf.Decl) → IsElaborated d → elaborate_of S fuel d ≢ Err Memory
elaborate-needs-no-memory S fuel d is = never-memory _ (elaborates S fuel d is).is
