-- The refusals of a report, with their evidence.
use Rattle.std.specs.Prelude.{ℕ, List, Result, Ok, Err, length}
use Rattle.theory.specs.Terms.{Term}
use Rattle.theory.specs.Telescopes.{Telescope}
use Rattle.theory.specs.Signatures.{Signature, Entry, EliminatorAt, AxiomKAt, Definition, FamilyOf}
use Rattle.core_terms.specs.Answers.{SpentOr, Spent}
use Rattle.core_terms.specs.Verdicts.{Denial}
use Rattle.core_terms.specs.declared.stop.Stop.{Stop}
use Rattle.core_terms.specs.declared.stop.Stop.TheVariants.{Deep}
use Rattle.core_text.specs.EntryText.{entry_text}
use Rattle.core_text.specs.SymbolNames.{name_at, eliminator_name, axiom_k_name}
use Rattle.family_check.specs.Outcomes as family
use Rattle.unification.specs.declared.why.Why.{Why}
use Rattle.core_text.specs.ContextText.{context_text, reason_text}

-- the name by which an entry is shown: instances have the names by which core text writes them
abbrev pub entry_name : Signature → Entry → List ℕ
entry_name S (FamilyOf f) = f.name
entry_name S (EliminatorAt n m) = eliminator_name (name_at S n) m
entry_name S (AxiomKAt i m) = axiom_k_name i m
entry_name S (Definition name type body) = name

-- An entry that the checker rejects, as it is shown over the signature in which that arose: its name and its line, and the place, the
-- context and the reason of the rejection.
pub record Rejection : Type 0 where
  pub entry : List ℕ
  pub line : List ℕ
  pub place : List ℕ
  pub context : List ℕ
  pub reason : List ℕ

-- `Halts e`: units or heights ran out.
-- `Stuck context left right why`: the walk through the tree does not go on.
-- `Rejected r`: the checker rejects an entry.
pub data ReportStop : Type 0 where
  Halts : Stop → ReportStop
  Stuck : Telescope → (left right : Term) → Why → ReportStop
  Rejected : Rejection → ReportStop

abbrev pub Reporting : Type 0 → Type 0
Reporting A = SpentOr ReportStop A

abbrev pub answers : {A : Type 0} → Result A ReportStop → ℕ → Reporting A
answers answer left = (answer, left)

abbrev pub or_halts : {A : Type 0} → Result A Stop → Result A ReportStop
or_halts (Ok a) = Ok a
or_halts (Err e) = Err (Halts e)

-- the answer of a call that knows no other refusals
abbrev pub halting : {A : Type 0} → Spent A → Reporting A
halting spent = (or_halts spent.0, spent.1)

-- the entry that would come next in the signature, and why it is rejected
abbrev pub rejection : Signature → Entry → Denial → Rejection
rejection S e d = record {
  entry = entry_name S e;
  line = entry_text S (length S.entries) e;
  place = d.place;
  context = context_text S d.ctx;
  reason = reason_text S d.reason;
}

-- Why an entry does not enter. Its names are new and its levels fit, so only a rejection by the checker is left as the cause.
abbrev pub not_entered : Signature → Entry → family.FamilyStop → ReportStop
not_entered S e (family.Stopped stop) = Halts stop
not_entered S e (family.Denied site d) = Rejected (rejection S e d)
not_entered S e cause = Halts Deep

abbrev pub or_rejected : {A : Type 0} → Signature → Entry → Result A family.FamilyStop → Result A ReportStop
or_rejected S e (Ok a) = Ok a
or_rejected S e (Err cause) = Err (not_entered S e cause)

-- the answer of a call that enters this entry
abbrev pub entering : {A : Type 0} → Signature → Entry → family.Outcome A → Reporting A
entering S e outcome = (or_rejected S e outcome.0, outcome.1)
