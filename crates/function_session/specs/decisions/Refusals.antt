-- Why the equality of a family is not decided, by the written names.
use Rattle.std.specs.Prelude.{ℕ, Result, Ok, Err}
use Rattle.theory.specs.Signatures.{Signature}
use Rattle.core_text.specs.SymbolNames.{constructor_name_at}
use Rattle.decide_eq.specs.PlainFamilies.{Known, plain_family}
use Rattle.decide_eq.specs.declared.stop.DecideStop.{DecideStop}
use Rattle.decide_eq.specs.declared.stop.DecideStop.TheVariants as stop
use Rattle.elab_session.specs.declared.refusal.Refusal.{Refusal}
use Rattle.elab_session.specs.declared.refusal.Refusal.TheVariants.{Memory, Deep, NotPlainFamily, NotDecision, NotFirstOrder}
use Rattle.surface_syntax.specs.declared.tree.Word.{Word}

-- why the equality of family number n is not decided
abbrev pub undecided : Signature → (n : ℕ) → (family into : Word) → DecideStop → Refusal
undecided S n family into stop.Memory = Memory
undecided S n family into stop.Deep = Deep
undecided S n family into stop.NotPlainFamily = NotPlainFamily family.text
undecided S n family into stop.NotDecision = NotDecision into.text
undecided S n family into (stop.NotFirstOrder c k) = NotFirstOrder (constructor_name_at S n c) k

abbrev pub or_undecided : Signature → (n : ℕ) → (family into : Word) → Result (Unit {0}) DecideStop → Result (Unit {0}) Refusal
or_undecided S n family into (Ok u) = Ok u
or_undecided S n family into (Err e) = Err (undecided S n family into e)

-- whether the equality of family number n can be decided into family number m, where these decisions into it are known
abbrev pub decidable : Signature → (n m : ℕ) → (family into : Word) → Known → Result (Unit {0}) Refusal
decidable S n m family into known = or_undecided S n family into (plain_family S n m known)
