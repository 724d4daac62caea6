-- Calls that spend units, one after the other.
use Rattle.std.proofs.Common.{◌≡◌, ℕ, Result, Ok, Err, ap, sym, ◌∙◌, subst as transport}
use Rattle.theory.specs.Signatures.{Signature}
use Rattle.theory.specs.Telescopes.{Context}
use Rattle.theory.specs.Terms as tree
use Rattle.core_terms.specs.Answers.{Spent, and_next}
use Rattle.core_terms.specs.Verdicts as pure_verdict
use Rattle.core_terms.specs.Meanings.{tree_of, denial_of, verdict_of}
use Rattle.core_terms.specs.declared.stop.Stop.{Stop}
use Rattle.core_terms.specs.declared.term.Term.{Term}
use Rattle.core_terms.specs.declared.verdict.Denial.{Denial}
use Rattle.core_terms.specs.declared.verdict.Verdict.{Verdict}
use Rattle.core_terms.specs.declared.verdict.Verdict.TheVariants.{Yes, No}
use Rattle.kernel_reduce.specs.Reduction.{answered}
use Rattle.clause_reports.specs.elaboration.Refusals as pure
use Rattle.function_checks.specs.function_refusals.RefusalMeanings.{Elaborates, Tells}
use Rattle.function_checks.specs.declared.function_refusals.refusal.FunctionRefusal.{FunctionRefusal}

-- a call answers, and the call after it stands for the one that is meant then
pub goes-on : {A B C : Type 0} (g : B → C) (first : pure.Elaborating A) (a : A) (go : A → ℕ → pure.Elaborating C) (left end : ℕ) (result : Result B FunctionRefusal)
    → ◌≡◌ {A = pure.Elaborating A} (Ok a, left) first → Elaborates g result end (go a left) → Elaborates g result end (and_next first go)
goes-on g first a go left end result h k = transport (Elaborates g result end) (ap (λ r. and_next r go) h) k

-- a call refuses
pub ends-there : {A C : Type 0} (first : pure.Elaborating A) (e : pure.Refusal) (go : A → ℕ → pure.Elaborating C) (left : ℕ)
    → ◌≡◌ {A = pure.Elaborating A} (Err e, left) first → ◌≡◌ {A = pure.Elaborating C} (Err e, left) (and_next first go)
ends-there first e go left h = ap (λ r. and_next r go) h

-- a call that knows no other refusals
pub halting-ok : {A : Type 0} (a : A) (left : ℕ) (spent : Spent A) → ◌≡◌ {A = Spent A} (Ok a, left) spent
    → ◌≡◌ {A = pure.Elaborating A} (Ok a, left) (pure.halting spent)
halting-ok a left spent h = ap (λ r. pure.halting r) h

pub halting-err : {A : Type 0} (e : Stop) (left : ℕ) (spent : Spent A) → ◌≡◌ {A = Spent A} (Err e, left) spent
    → ◌≡◌ {A = pure.Elaborating A} (Err (pure.Halts e), left) (pure.halting spent)
halting-err e left spent h = ap (λ r. pure.halting r) h

-- a call that spends nothing
pub tells-answers : {A B : Type 0} (g : A → B) (r : Result A FunctionRefusal) (meant : Result B pure.Refusal) (left : ℕ) → Tells g r meant
    → Elaborates g r left (pure.answers meant left)
tells-answers g (Ok a) meant left h = ap (λ m. pure.answers m left) h
tells-answers g (Err e) meant left h = λ other. ap (λ m. pure.answers m left) (h other)

-- an answer of the kernel, over a signature and a context that are the caller's
abbrev pub Asks : Type 0
Asks = Signature → Context → Spent pure_verdict.Verdict

asked-same : {S K : Signature} {G H : Context} (ask : Asks) → K ≡ S → G ≡ H → ask K G ≡ ask S H
asked-same {S} {K} {G} ask e f = ap (λ K. ask K G) e ∙ ap (ask S) f

pub says-yes : {S K : Signature} {G H : Context} (part : pure.Part) (ask : Asks) (v : Verdict) (ty : Term) (left : ℕ) → K ≡ S → G ≡ H → v ≡ Yes ty
    → answered (Ok (verdict_of v)) left ≡ ask K G → ◌≡◌ {A = pure.Elaborating tree.Term} (Ok (tree_of ty), left) (pure.granted S part (ask S H))
says-yes {S} part ask v ty left e f is h =
    ap (pure.granted S part) (ap (λ v. answered (Ok (verdict_of v)) left) (sym is) ∙ (h ∙ asked-same ask e f))

pub says-no : {S K : Signature} {G H : Context} (part : pure.Part) (ask : Asks) (v : Verdict) (d : Denial) (r : pure.Refusal) (left : ℕ) → K ≡ S
    → G ≡ H → v ≡ No d → answered (Ok (verdict_of v)) left ≡ ask K G → r ≡ pure.ill_typed S part (denial_of d)
    → ◌≡◌ {A = pure.Elaborating tree.Term} (Err r, left) (pure.granted S part (ask S H))
says-no {S} part ask v d r left e f is h to =
    ap (λ r. pure.answers (Err r) left) to
    ∙ ap (pure.granted S part) (ap (λ v. answered (Ok (verdict_of v)) left) (sym is) ∙ (h ∙ asked-same ask e f))

pub says-nothing : {S K : Signature} {G H : Context} (part : pure.Part) (ask : Asks) (stop : Stop) (left : ℕ) → K ≡ S → G ≡ H
    → answered (Err stop) left ≡ ask K G → ◌≡◌ {A = pure.Elaborating tree.Term} (Err (pure.Halts stop), left) (pure.granted S part (ask S H))
says-nothing {S} part ask stop left e f h = ap (pure.granted S part) (h ∙ asked-same ask e f)
