-- The properties of a call's answer, by the answers of the calls inside it.
use Rattle.std.proofs.Common.{◌≡◌, ◌≢◌, ℕ, List, [], map, Result, Ok, Err, IfOk, OnErr, sym, ap, ap₂, ◌∙◌, subst as transport}
use Rattle.theory.specs.Signatures.{Signature}
use Rattle.core_terms.specs.declared.stop.Stop.TheVariants as stop
use Rattle.surface_syntax.specs.declared.tree.Word.{Word}
use Rattle.clause_reports.specs.elaboration.Functions.{Lines}
use Rattle.clause_reports.specs.elaboration.Refusals.{Elaborating}
use Rattle.elab_session.specs.declared.refusal.Refusal.{Refusal}
use Rattle.elab_session.specs.declared.refusal.Refusal.TheVariants.{Memory}
use Rattle.function_checks.specs.function_refusals.RefusalMeanings.{refusal_of}
use Rattle.function_checks.specs.declared.function_refusals.refusal.FunctionRefusal.{FunctionRefusal}
use Rattle.function_checks.specs.declared.function_refusals.refusal.FunctionRefusal.TheVariants.{Stop}
use Rattle.function_session.specs.function_lines.LineMeanings.{clause_line_of, lines_of}
use Rattle.function_session.specs.declared.function_lines.lines.ClauseLine.{ClauseLine}
use Rattle.function_session.specs.Elaborating.{Elaborated, on_lines}
use Rattle.function_session.specs.Meanings.{Answers, elaborated_in}
use Rattle.function_session.specs.Refusals.{refused_function}
use Rattle.function_session.specs.declared.accepted.Accepted.{Accepted}

-- a property of the answer that is meant is one of the answer
pub says : (P : Elaborated → Type 0) (T : Signature) (r : Result Accepted Refusal) (meant : Result Elaborated Refusal)
    → Answers T r meant → IfOk meant P → IfOk r (λ a. P (elaborated_in T a))
says P T (Ok a) meant is h = transport (λ m. IfOk m P) (sym is) h
says P T (Err e) meant is h = tt

-- the signature that a call leaves
pub stays : (P : Signature → Type 0) (S T : Signature) (r : Result Accepted Refusal) (meant : Result Elaborated Refusal)
    → Answers T r meant → OnErr r (T ≡ S) → IfOk meant (λ a. P a.signature) → P S → P T
stays P S T (Ok a) meant is same h p = transport (λ m. IfOk m (λ a. P a.signature)) (sym is) h
stays P S T (Err e) meant is same h p = transport P (sym same) p

abbrev accepts : Signature → List ClauseLine → List (List ℕ × List ℕ) → (name : List ℕ) → Result Elaborated Refusal
accepts T lines equations name = Ok (record { name = name; lines = map clause_line_of lines; equations = equations; signature = T })

-- a function is accepted, with its lines
pub enters : (T : Signature) (x : Word) (fuel left : ℕ) (lines : List ClauseLine) (equations : List (List ℕ × List ℕ)) (name : List ℕ) (meant : Elaborating Lines)
    → (Ok (lines_of T lines), left) ≡ meant → equations ≡ [] → name ≡ x.text → accepts T lines equations name ≡ on_lines x fuel meant.0
enters T x fuel left lines equations name meant is none named =
    transport (λ (m : Elaborating Lines). accepts T lines equations name ≡ on_lines x fuel m.0) is (ap₂ (accepts T lines) none named)

-- or a function is refused
pub refuses : (x : Word) (fuel left : ℕ) (e : FunctionRefusal) (r : Refusal) (meant : Elaborating Lines)
    → (e ≢ Stop stop.Memory → (Err (refusal_of e), left) ≡ meant) → (r ≢ Memory → r ≡ refused_function fuel (refusal_of e))
    → r ≢ Memory → Err r ≡ on_lines x fuel meant.0
refuses x fuel left e r meant is told other =
    transport (λ (m : Elaborating Lines). Err r ≡ on_lines x fuel m.0)
    (is (λ q. other (told other ∙ ap (λ e. refused_function fuel (refusal_of e)) q)))
    (ap Err (told other))
