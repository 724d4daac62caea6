-- Only families that refer to each other have equations of inductions.
use Rattle.std.proofs.Common.{◌≡◌, ℕ, [], Result, Ok, Err, IfOk, refl}
use Rattle.theory.specs.Signatures.{Signature}
use Rattle.surface_syntax.specs.Trees as surf
use Rattle.surface_syntax.specs.declared.tree.Word.{Word}
use Rattle.resolve.specs.Functions.{Function, function}
use Rattle.resolve.specs.declared.stop.ResolveStop.{ResolveStop}
use Rattle.clause_reports.specs.elaboration.Functions.{Lines}
use Rattle.clause_reports.specs.elaboration.Refusals as refusal
use Rattle.elab_session.specs.Declaring.{Declared, declare_of}
use Rattle.elab_session.specs.declared.refusal.Refusal.{Refusal}
use Rattle.function_session.specs.Declaring.{declared_in}
use Rattle.function_session.specs.Elaborating.{Elaborated, enter_function, on_function, on_lines, without_lines}
use Rattle.function_session.specs.Sessions.{Session}
use Rattle.function_session.specs.function_lines.Opened.{function_in}
use Rattle.function_session.proofs.DeclaredDecisions.{decision-has}
use Rattle.elim.proofs.elim_program.Lines.{if_ok}

abbrev HasNone : Elaborated → Type 0
HasNone a = a.equations ≡ []

plain : (r : Result Declared Refusal) → IfOk (without_lines r) HasNone
plain (Ok d) = refl
plain (Err e) = tt

with-lines : (x : Word) (fuel : ℕ) (r : Result Lines refusal.Refusal) → IfOk (on_lines x fuel r) HasNone
with-lines x fuel (Ok l) = refl
with-lines x fuel (Err e) = tt

of-function : (S : Signature) (fuel : ℕ) (x : Word) (r : Result Function ResolveStop) → IfOk (on_function r (enter_function S fuel x)) HasNone
of-function S fuel x (Ok f) = with-lines x fuel (function_in S f fuel).0
of-function S fuel x (Err e) = tt

-- a declaration of another form
abbrev pub IsOther : surf.Decl → Type 0
IsOther (surf.Mutual params members family tag tags) = ⊥
IsOther d = Unit {0}

declared-none : (s : Session) (d : surf.Decl) → IsOther d → IfOk (declared_in s d) HasNone
declared-none s (surf.Def x ty body) h = plain (declare_of s.signature s.fuel (surf.Def x ty body))
declared-none s (surf.Data x params ty cons) h = plain (declare_of s.signature s.fuel (surf.Data x params ty cons))
declared-none s (surf.Decide x family into) h = decision-has HasNone s.signature s.decisions s.fuel x family into (λ given T d. refl)
declared-none s (surf.Mutual params members family tag tags) h = absurd h
declared-none s (surf.Fun x ty clauses) h = of-function s.signature s.fuel x (function s.signature x ty clauses)

pub no-equations : (s : Session) (d : surf.Decl) (a : Elaborated) → IsOther d → declared_in s d ≡ Ok a → a.equations ≡ []
no-equations s d a h is = if_ok HasNone (declared_in s d) a is (declared-none s d h)
