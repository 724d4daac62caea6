-- A property of the refusal, where calls are one after the other.
use Rattle.std.proofs.Common.{◌≡◌, ℕ, List, Result, Ok, Err, IfErr, refl, subst as transport}
use Rattle.core_terms.specs.Answers.{SpentOr, and_next, on_answer}
use Rattle.core_terms.proofs.Answers.{Splits}
use Rattle.theory.specs.Signatures.{Signature}
use Rattle.core_terms.specs.Verdicts.{Denial, Verdict, Yes, No}
use Rattle.core_terms.specs.declared.stop.Stop.{Stop}
use Rattle.case_trees.specs.Stops.{TreeStop}
use Rattle.clause_reports.specs.Stops as report
use Rattle.clause_reports.specs.Stops.{ReportStop}
use Rattle.clause_reports.specs.elaboration.Refusals.{Owner, Part, Refusal, ill_typed, of_tree, or_ends, or_halts, or_ill_typed, or_no_report}
use Rattle.resolve.specs.Functions.{Function}
use Rattle.elim.specs.refusal_laws.Causes.{Caused, IsDenied, IsIllTyped}

-- the refusal, where there is one, has N
abbrev pub Refuses : {A E : Type 0} → (E → Type 0) → SpentOr E A → Type 0
Refuses N r = IfErr r.0 N

on_answer-refuses : {A B E : Type 0} (P : A → Type 0) (N : E → Type 0) (r : Result A E) (left : ℕ) (go : A → ℕ → SpentOr E B)
    → Splits P N r → ((a : A) (rest : ℕ) → P a → Refuses N (go a rest)) → Refuses N (on_answer r left go)
on_answer-refuses P N (Ok a) left go h k = k a left h
on_answer-refuses P N (Err e) left go h k = h

-- the first answers with P, or refuses with N, as the second does
pub next-refuses : {A B E : Type 0} (P : A → Type 0) (N : E → Type 0) (first : SpentOr E A) (go : A → ℕ → SpentOr E B)
    → Splits P N first.0 → ((a : A) (rest : ℕ) → P a → Refuses N (go a rest)) → Refuses N (and_next first go)
next-refuses P N first go h k = on_answer-refuses P N first.0 first.1 go h k

-- a result is its own answer, or a refusal that has N
pub splits-is : {A E : Type 0} (N : E → Type 0) (r : Result A E) → IfErr r N → Splits (λ a. r ≡ Ok a) N r
splits-is N (Ok a) h = refl
splits-is N (Err e) h = h

pub refused : {A E : Type 0} (P : A → Type 0) (N : E → Type 0) (r : Result A E) → Splits P N r → IfErr r N
refused P N (Ok a) h = tt
refused P N (Err e) h = h

pub refused-err : {A E : Type 0} (N : E → Type 0) (r : Result A E) (e : E) → r ≡ Err e → IfErr r N → N e
refused-err N r e is h = transport (λ x. IfErr x N) is h

-- ---- refusals without a condition on their cause

-- rejections of the checker
pub granted-caused : (S : Signature) (f : Function) (T : Signature) (part : Part) (asked : Result Verdict Stop)
    → ((d : Denial) → asked ≡ Ok (No d) → IsIllTyped (ill_typed T part d)) → IfErr (or_ill_typed T part asked) (Caused S f)
granted-caused S f T part (Ok (Yes type)) h = tt
granted-caused S f T part (Ok (No d)) h = h d refl
granted-caused S f T part (Err e) h = tt

pub halts-caused : {A : Type 0} (S : Signature) (f : Function) (r : Result A Stop) → IfErr (or_halts r) (Caused S f)
halts-caused S f (Ok a) = tt
halts-caused S f (Err e) = tt

-- the end of a report is a rejection of the checker, or has no condition
abbrev pub IfRejected : ReportStop → Type 0
IfRejected (report.Rejected r) = IsDenied r
IfRejected (report.Halts e) = Unit {0}
IfRejected (report.Stuck context left right why) = Unit {0}

pub report-caused : {A : Type 0} (S : Signature) (f : Function) (T : Signature) (owner : Owner) (r : Result A ReportStop) → IfErr r IfRejected
    → IfErr (or_no_report T owner r) (Caused S f)
report-caused S f T owner (Ok a) h = tt
report-caused S f T owner (Err (report.Halts e)) h = tt
report-caused S f T owner (Err (report.Stuck context u v why)) h = tt
report-caused S f T owner (Err (report.Rejected r)) h = h

-- ---- ends

pub walking-caused : {A : Type 0} (N : Refusal → Type 0) (T : Signature) (name : List ℕ) (r : Result A TreeStop)
    → ((e : TreeStop) → r ≡ Err e → N (of_tree T name e)) → Splits (λ a. r ≡ Ok a) N (or_ends T name r)
walking-caused N T name (Ok a) h = refl
walking-caused N T name (Err e) h = h e refl
