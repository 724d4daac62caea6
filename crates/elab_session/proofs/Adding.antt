-- An entry that enters is added.
use Rattle.std.proofs.Common.{◌≡◌, ℕ, Bool, true, false, List, [], ◌∷◌, Option, Some, None, Result, Ok, Err, IfOk, refl, sym, ◌∙◌, subst as transport}
use Rattle.std.specs.Prelude.{slice_get, position, nat_lt}
use Rattle.std.specs.Option.{is_some}
use Rattle.std.proofs.lemmas.Bool.{true≢false}
use Rattle.theory.specs.Terms.{Term, top}
use Rattle.theory.specs.Eliminators.{eliminator_type}
use Rattle.theory.specs.Signatures.{Entry, FamilyOf, EliminatorAt, AxiomKAt, Definition, Signature, axiom_k_type}
use Rattle.theory.specs.WellFormed.{pushed}
use Rattle.core_terms.proofs.Answers.{Answers, and_next-has}
use Rattle.core_sig.specs.Instances.{is_eliminator, is_axiom_k}
use Rattle.core_sig.proofs.Instances.{some-position}
use Rattle.core_text.specs.RawEntries.{RawEntry, RawFamilyOf, RawEliminator, RawAxiomK, RawDefinition}
use Rattle.family_check.specs.Asking.{sort_in, type_in}
use Rattle.family_check.specs.Entering.{Entered, are_new, check_definition, declare_of, define_of, enter_instance, entered, unless_there}
use Rattle.family_check.specs.Laws.{EntersAsDeclared}
use Rattle.family_check.specs.Outcomes.{OfType, OfBody, FamilyStop, Outcome}
use Rattle.family_check.proofs.AsDeclared.{declare-gives}
use Rattle.family_check.proofs.Outcomes.{if_new-has}
use Rattle.elab_session.specs.Adding.{Adds, family, eliminator, axiom_k, definition, has_instance, IsAdded}
use Rattle.elab_session.specs.Entering.{checked}
use Rattle.elab_session.specs.Laws.{EnterAdds}
use Rattle.elab_session.proofs.Entered.{answered-has, eliminator-has}

abbrev pub Any : {A : Type 0} → A → Type 0
Any a = Unit {0}

pub any : {A : Type 0} (r : Outcome A) → Answers Any r
any {A} r = by_case r.0
  where
    by_case : (x : Result A FamilyStop) → IfOk x Any
    by_case (Ok a) = tt
    by_case (Err e) = tt

weaker : (P Q : Entered → Type 0) (r : Outcome Entered) → ((x : Entered) → P x → Q x) → Answers P r → Answers Q r
weaker P Q r f h = by_case r.0 h
  where
    by_case : (o : Result Entered FamilyStop) → IfOk o P → IfOk o Q
    by_case (Ok x) h = f x h
    by_case (Err e) h = tt

pub define-enters : (S : Signature) (name : List ℕ) (type body : Term) (left : ℕ) → Answers (λ e. e ≡ entered S (Definition name type body)) (define_of S name type body left)
define-enters S name type body left =
    if_new-has (λ e. e ≡ entered S (Definition name type body)) (are_new S (name ∷ [])) (check_definition S name type body) left (λ test.
    and_next-has Any (λ e. e ≡ entered S (Definition name type body)) (sort_in S OfType [] type left) _ (any (sort_in S OfType [] type left)) (λ sort rest u.
    and_next-has Any (λ e. e ≡ entered S (Definition name type body)) (type_in S OfBody [] body type rest) _ (any (type_in S OfBody [] body type rest)) (λ found end v.
    refl)))

pub instance-enters : (S : Signature) (e : Entry) (fits : Bool) (type : Term) (left : ℕ) → Answers (λ x. x ≡ entered S e) (enter_instance S e fits type left)
instance-enters S e true type left = and_next-has Any (λ x. x ≡ entered S e) (sort_in S OfType [] type left) _ (any (sort_in S OfType [] type left)) (λ sort end u. refl)
instance-enters S e false type left = tt

abbrev AddsTo : Signature → RawEntry → Entered → Type 0
AddsTo S raw x = IsAdded S raw x.signature

new : (S : Signature) (raw : RawEntry) (e : Entry) → has_instance S raw ≡ false → Adds S raw (pushed S e) → (x : Entered) → x ≡ entered S e → AddsTo S raw x
new S raw e lacks adds x is = transport (AddsTo S raw) (sym is) (record { added = λ same. adds; there = λ has. absurd (true≢false (sym has ∙ lacks)) })

-- an instance that is there adds nothing
instance-adds : (S : Signature) (raw : RawEntry) (e : Entry) (fits : Bool) (type : Term) (left : ℕ) (o : Option ℕ) → is_some o ≡ has_instance S raw → Adds S raw (pushed S e)
    → Answers (AddsTo S raw) (unless_there S o (enter_instance S e fits type) left)
instance-adds S raw e fits type left (Some n) has adds = record { added = λ lacks. absurd (true≢false (has ∙ lacks)); there = λ same. refl }
instance-adds S raw e fits type left None lacks adds =
    weaker (λ x. x ≡ entered S e) (AddsTo S raw) (enter_instance S e fits type left) (new S raw e (sym lacks) adds) (instance-enters S e fits type left)

entry-adds : (S : Signature) (raw : RawEntry) (left : ℕ) → Answers (AddsTo S raw) (checked S raw left)
entry-adds S (RawFamilyOf raw) left =
    weaker (EntersAsDeclared S raw) (AddsTo S (RawFamilyOf raw)) (declare_of S raw left)
    (λ x is. new S (RawFamilyOf raw) (FamilyOf is.0) refl (family raw is.0 is.2) x is.1) (declare-gives S raw left)
entry-adds S (RawEliminator n m) left =
    eliminator-has (AddsTo S (RawEliminator n m)) S n m (slice_get S.entries n) left (λ f is.
    instance-adds S (RawEliminator n m) (EliminatorAt n m) (nat_lt m top) (eliminator_type n f m) left (position (is_eliminator n m) S.entries)
    (some-position (is_eliminator n m) S.entries) (eliminator n m))
entry-adds S (RawAxiomK i m) left =
    instance-adds S (RawAxiomK i m) (AxiomKAt i m) _ (axiom_k_type i m) left (position (is_axiom_k i m) S.entries)
    (some-position (is_axiom_k i m) S.entries) (axiom_k i m)
entry-adds S (RawDefinition name type body) left =
    weaker (λ x. x ≡ entered S (Definition name type body)) (AddsTo S (RawDefinition name type body)) (define_of S name type body left)
    (new S (RawDefinition name type body) (Definition name type body) refl (definition name type body)) (define-enters S name type body left)

pub enter-adds : EnterAdds
enter-adds S fuel raw = answered-has (AddsTo S raw) _ (checked S raw fuel).0 (entry-adds S raw fuel)
