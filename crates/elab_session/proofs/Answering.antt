-- The answer of a call, from the answers of the calls inside it.
use Rattle.std.proofs.Common.{◌≡◌, ◌≢◌, ℕ, List, Option, Some, Result, Ok, Err, IfOk, OnErr, sym, ap, ap₂, ◌∙◌, subst as transport}
use Rattle.theory.specs.Signatures.{Signature}
use Rattle.core_terms.specs.Answers.{GivesUnless, and_next}
use Rattle.core_terms.specs.declared.stop.Stop.TheVariants as memory
use Rattle.core_sig.specs.Raw.{RawFamily}
use Rattle.surface_syntax.specs.declared.tree.Word.{Word}
use Rattle.family_check.specs.Entering.{Entered}
use Rattle.family_check.specs.Meanings.{stop_of}
use Rattle.family_check.specs.Outcomes.{Site, Outcome, ended}
use Rattle.family_check.specs.Scopes.{site_signature}
use Rattle.family_check.specs.declared.stop.FamilyStop.{FamilyStop}
use Rattle.family_check.specs.declared.stop.FamilyStop.TheVariants.{Stop}
use Rattle.elab_session.specs.Declaring.{Answers, Declared, accepted_as}
use Rattle.elab_session.specs.Entering.{Declares, Declaring, answers, or_refused}
use Rattle.elab_session.specs.Refusals.{IsUnforeseen, unentered}
use Rattle.elab_session.specs.declared.refusal.Refusal.{Refusal}
use Rattle.elab_session.specs.declared.refusal.Refusal.TheVariants.{Memory}

abbrev refused : ℕ → Refusal → Declaring Entered
refused left r = answers (Err r) left

-- an entry is refused
pub refuses : (over : Site → Signature) (names : List (List ℕ)) (x : Option Word) (fuel left : ℕ) (s : FamilyStop) (r : Refusal) (meant : Outcome Entered)
    → (s ≢ Stop memory.Memory → ended (Err (stop_of s)) left ≡ meant) → (r ≢ Memory → r ≡ unentered over names x fuel (stop_of s))
    → r ≢ Memory → refused left r ≡ or_refused (unentered over names x fuel) meant
refuses over names x fuel left s r meant is says other =
    ap (refused left) (says other)
    ∙ ap (or_refused (unentered over names x fuel)) (is (λ q. other (says other ∙ ap (λ s. unentered over names x fuel (stop_of s)) q)))

abbrev pub word : List ℕ → ℕ → Word
word text start = record { text = text; start = start }

-- the refusal of a family, whose names were copied
pub family-refuses : (S U : Signature) (raw : RawFamily) (names given : List (List ℕ)) (x w : Word) (fuel left : ℕ) (s : FamilyStop) (r : Refusal) (meant : Outcome Entered)
    → U ≡ S → given ≡ names → x ≡ w → (s ≢ Stop memory.Memory → ended (Err (stop_of s)) left ≡ meant)
    → (r ≢ Memory → r ≡ unentered (site_signature U raw) given (Some x) fuel (stop_of s))
    → r ≢ Memory → refused left r ≡ or_refused (unentered (site_signature S raw) names (Some w) fuel) meant
family-refuses S U raw names given x w fuel left s r meant same is named stops says =
    refuses (site_signature S raw) names (Some w) fuel left s r meant stops
    (λ other. says other
    ∙ ap₂ (λ V ns. unentered (site_signature V raw) ns (Some x) fuel (stop_of s)) same is
    ∙ ap (λ (y : Word). unentered (site_signature S raw) names (Some y) fuel (stop_of s)) named)

-- a phase goes on with the answer of another
pub goes-on : {A B C : Type 0} (f : C → B) (result : Result C Refusal) (end left : ℕ) (a : A) (first : Result A Refusal) (go : A → ℕ → Declaring B)
    → Ok a ≡ first → Declares f result end (go a left) → Declares f result end (and_next (answers first left) go)
goes-on f result end left a first go is h = transport (λ r. Declares f result end (and_next (answers r left) go)) is h

-- the answer without the units that are left
pub answer-of : {A B : Type 0} (f : A → B) (result : Result A Refusal) (left : ℕ) (meant : Declaring B)
    → Declares f result left meant → GivesUnless IsUnforeseen f result meant.0
answer-of f (Ok a) left meant is = ap (λ m. m.0) is
answer-of f (Err e) left meant is = λ other. ap (λ m. m.0) (is other)

-- a property of the meant answer is one of the answer
pub says : (P : Declared → Type 0) (T : Signature) (r : Result (List ℕ) Refusal) (meant : Result Declared Refusal) → Answers T r meant → IfOk meant P → IfOk r (λ name. P (accepted_as name T))
says P T (Ok name) meant is h = transport (λ m. IfOk m P) (sym is) h
says P T (Err e) meant is h = tt

-- the signature that a call leaves
pub stays : (P : Signature → Type 0) (S T : Signature) (r : Result (List ℕ) Refusal) (meant : Result Declared Refusal)
    → Answers T r meant → OnErr r (T ≡ S) → IfOk meant (λ a. P a.signature) → P S → P T
stays P S T (Ok name) meant is same h p = transport (λ m. IfOk m (λ a. P a.signature)) (sym is) h
stays P S T (Err e) meant is same h p = transport P (sym same) p
