-- The answer of a call, from its outcome.
use Rattle.std.proofs.Common.{◌≡◌, ◌≢◌, ℕ, List, Result, Ok, Err, IfOk, IfErr, IsErrAnd, OnErr, sym, ap, ◌∙◌, subst as transport, arith}
use Rattle.core_terms.specs.declared.stop.Stop as stop
use Rattle.core_terms.specs.declared.stop.Stop.TheVariants.{Memory}
use Rattle.theory.specs.Terms.{Term}
use Rattle.theory.specs.Signatures.{Signature}
use Rattle.family_check.specs.Entering.{Entered, entered_at}
use Rattle.family_check.specs.Meanings.{Yields, stop_of}
use Rattle.family_check.specs.Outcomes.{Outcome, ended}
use Rattle.family_check.specs.Outcomes as pure
use Rattle.family_check.specs.Scopes.{IsScopedStop}
use Rattle.family_check.specs.declared.stop.FamilyStop.{FamilyStop}
use Rattle.family_check.specs.declared.stop.FamilyStop.TheVariants.{Stop, Denied, NotPositive, TooLarge, BadFamily, Duplicate}

-- the signature that a call leaves
pub signature_left-has : (P : Signature → Type 0) (r : Result ℕ FamilyStop) (before after : Signature) (left : ℕ) (meant : Outcome Entered)
    → Yields (entered_at after) r left meant → OnErr r (after ≡ before) → IfOk meant.0 (λ e. P e.signature) → P before → P after
signature_left-has P (Ok n) before after left meant e same h p = transport (λ x. IfOk x.0 (λ y. P y.signature)) (sym e) h
signature_left-has P (Err s) before after left meant e same h p = transport P (sym same) p

-- its refusals are scoped if those of the outcome are
pub refusal-scoped : {A B : Type 0} (f : A → B) (over : pure.Site → Signature) (r : Result A FamilyStop) (left : ℕ) (meant : Outcome B)
    → Yields f r left meant → IfErr meant.0 (IsScopedStop over) → IfErr r (λ e. IsScopedStop over (stop_of e))
refusal-scoped f over (Ok a) left meant e h = tt
refusal-scoped f over (Err (Denied part denial)) left meant e h = transport (λ x. IfErr x.0 (IsScopedStop over)) (sym (e (λ q. absurd (grind arith)))) h
refusal-scoped f over (Err (Stop s)) left meant e h = tt
refusal-scoped f over (Err (NotPositive number k)) left meant e h = tt
refusal-scoped f over (Err (TooLarge number k)) left meant e h = tt
refusal-scoped f over (Err BadFamily) left meant e h = tt
refusal-scoped f over (Err Duplicate) left meant e h = tt

-- a refusal that is passed on
pub passes_on : {A B : Type 0} (f : A → B) (r : Result A FamilyStop) (e : FamilyStop) (l : ℕ) (whole : Outcome B) → IsErrAnd r (λ s. s ≡ e)
    → (e ≢ Stop Memory → ended (Err (stop_of e)) l ≡ whole) → Yields f r l whole
passes_on f (Ok a) e l whole is h = absurd is
passes_on f (Err s) e l whole is h = λ q. ap (λ x. ended (Err (stop_of x)) l) is ∙ h (λ m. q (is ∙ m))

abbrev same_lists : Result (List Term) stop.Stop → Result (List Term) stop.Stop → Type 0
same_lists r s = r ≡ s

-- the list that was made is the one that is meant
pub given_list : (xs ys : List Term) → same_lists (Ok xs) (Ok ys) → xs ≡ ys
given_list xs ys e = cc
