-- The answer where an entry enters or does not, and how answers are put one after the other.
use Rattle.std.proofs.Common.{◌≡◌, ℕ, Bool, true, false, ◌&&◌, ◌||◌, not, nat_lt, Option, Some, None, position, List, [], ◌∷◌, ◌++◌, Result, Ok, Err, IfOk, refl, sym, ap, ◌∙◌, subst as transport}
use Rattle.std.specs.Option.{is_some}
use Rattle.theory.specs.Terms.{Term, top}
use Rattle.theory.specs.Eliminators.{eliminator_type}
use Rattle.theory.specs.Families.{Family}
use Rattle.theory.specs.Signatures.{Signature, Entry, FamilyOf, EliminatorAt, AxiomKAt, Definition, axiom_k_type}
use Rattle.core_terms.specs.Answers.{SpentOr, on_answer, and_next}
use Rattle.core_terms.proofs.Answers.{Answers, and_next-has}
use Rattle.theory.specs.WellFormed.{pushed}
use Rattle.core_sig.specs.Instances.{is_eliminator, is_axiom_k}
use Rattle.core_sig.specs.Names.{find}
use Rattle.core_sig.specs.declared.entry.Found.{Found}
use Rattle.family_check.specs.Asking.{sort_in, type_in}
use Rattle.family_check.specs.Entering.{Entered, are_new, entered_at, if_new, enter_instance, unless_there, check_definition, instance_of, axiom_k_of, define_of}
use Rattle.family_check.specs.Outcomes.{OfType, OfBody, FamilyStop, Outcome}
use Rattle.clause_reports.specs.DraftEntering.{Entering, Mention, with_entry, enter_mention, enter_all}
use Rattle.clause_reports.specs.Stops.{ReportStop, Reporting, not_entered, entering}
use Rattle.clause_reports.proofs.Keeping.{any}
use Rattle.drafts.specs.draft_entering.Conditions.{IsNoFamily, Extends}
use Rattle.drafts.proofs.draft_entering.Longer.{extends-same, extends-push}

-- ---- no family enters

abbrev pub ExtendsTo : Signature → Entered → Type 0
ExtendsTo S e = Extends S e.signature

abbrev Any : {A : Type 0} → A → Type 0
Any a = Unit {0}

abbrev IsPlain : Entry → Type 0
IsPlain (FamilyOf f) = ⊥
IsPlain e = Unit {0}

no-family : (e : Entry) → IsPlain e → IsNoFamily e
no-family e h f is = transport IsPlain is h

there-plain : (S : Signature) (place : Option ℕ) (enter : ℕ → Outcome Entered) (left : ℕ) → Answers (ExtendsTo S) (enter left)
    → Answers (ExtendsTo S) (unless_there S place enter left)
there-plain S (Some n) enter left h = extends-same S
there-plain S None enter left h = h

entry-plain : (S : Signature) (e : Entry) → IsPlain e → (fits : Bool) (type : Term) (left : ℕ) → Answers (ExtendsTo S) (enter_instance S e fits type left)
entry-plain S e h false type left = tt
entry-plain S e h true type left =
    and_next-has Any (ExtendsTo S) (sort_in S OfType [] type left) _ (any (sort_in S OfType [] type left).0) (λ sort end u.
    extends-push S e (no-family e h))

pub instance-extends : (S : Signature) (n : ℕ) (f : Family) (m left : ℕ) → Answers (ExtendsTo S) (instance_of S n f m left)
instance-extends S n f m left =
    there-plain S (position (is_eliminator n m) S.entries) (enter_instance S (EliminatorAt n m) (nat_lt m top) (eliminator_type n f m)) left
    (entry-plain S (EliminatorAt n m) tt (nat_lt m top) (eliminator_type n f m) left)

pub axiom_k-extends : (S : Signature) (i m left : ℕ) → Answers (ExtendsTo S) (axiom_k_of S i m left)
axiom_k-extends S i m left =
    there-plain S (position (is_axiom_k i m) S.entries) (enter_instance S (AxiomKAt i m) (nat_lt i top && nat_lt m top) (axiom_k_type i m)) left
    (entry-plain S (AxiomKAt i m) tt (nat_lt i top && nat_lt m top) (axiom_k_type i m) left)

name-new : (S : Signature) (name : List ℕ) → find S name ≡ None → are_new S (name ∷ []) ≡ true
name-new S name is = ap (λ o. not ((is_some o || false) || (false || false))) is

name-old : (S : Signature) (name : List ℕ) (f : Found) → find S name ≡ Some f → are_new S (name ∷ []) ≡ false
name-old S name f is = ap (λ o. not ((is_some o || false) || (false || false))) is

-- a definition that enters has a new name, and is the last entry
pub record IsDefinedBy (S : Signature) (name : List ℕ) (type body : Term) (e : Entered) : Type 0 where
  pub pushed_on : e.signature ≡ pushed S (Definition name type body)
  pub new : find S name ≡ None

define-has : (S : Signature) (name : List ℕ) (type body : Term) (left : ℕ) → Answers (IsDefinedBy S name type body) (define_of S name type body left)
define-has S name type body left = by (find S name) refl
  where
    own : find S name ≡ None → Answers (IsDefinedBy S name type body) (check_definition S name type body left)
    own none =
        and_next-has Any (IsDefinedBy S name type body) (sort_in S OfType [] type left) _ (any (sort_in S OfType [] type left).0) (λ sort rest u.
        and_next-has Any (IsDefinedBy S name type body) (type_in S OfBody [] body type rest) _ (any (type_in S OfBody [] body type rest).0) (λ found end v.
        record { pushed_on = refl; new = none }))

    by : (o : Option Found) → find S name ≡ o → Answers (IsDefinedBy S name type body) (define_of S name type body left)
    by None is = transport (λ b. Answers (IsDefinedBy S name type body) (if_new b (check_definition S name type body) left)) (sym (name-new S name is)) (own is)
    by (Some f) is = transport (λ b. Answers (IsDefinedBy S name type body) (if_new b (check_definition S name type body) left)) (sym (name-old S name f is)) tt

-- an answer of a call has each property that its outcome has
answered : (P : Entered → Type 0) (T : Signature) (k rest : ℕ) (outcome : Outcome Entered) → Answers P outcome → (Ok (entered_at T k), rest) ≡ outcome → P (entered_at T k)
answered P T k rest outcome h is = transport (λ (o : Outcome Entered). IfOk o.0 P) (sym is) h

pub instance-longer : (S T : Signature) (n : ℕ) (f : Family) (m left k rest : ℕ) → (Ok (entered_at T k), rest) ≡ instance_of S n f m left → Extends S T
instance-longer S T n f m left k rest is = answered (ExtendsTo S) T k rest (instance_of S n f m left) (instance-extends S n f m left) is

pub axiom_k-longer : (S T : Signature) (i m left k rest : ℕ) → (Ok (entered_at T k), rest) ≡ axiom_k_of S i m left → Extends S T
axiom_k-longer S T i m left k rest is = answered (ExtendsTo S) T k rest (axiom_k_of S i m left) (axiom_k-extends S i m left) is

pub define-pushed : (S T : Signature) (name : List ℕ) (type body : Term) (left k rest : ℕ) → (Ok (entered_at T k), rest) ≡ define_of S name type body left
    → IsDefinedBy S name type body (entered_at T k)
define-pushed S T name type body left k rest is =
    answered (IsDefinedBy S name type body) T k rest (define_of S name type body left) (define-has S name type body left) is

pub pushed-longer : (S T : Signature) (name : List ℕ) (type body : Term) → T ≡ pushed S (Definition name type body) → Extends S T
pushed-longer S T name type body is =
    transport (Extends S) (sym is) (extends-push S (Definition name type body) (no-family (Definition name type body) tt))

pub same-longer : (S T : Signature) → T ≡ S → Extends S T
same-longer S T is = transport (Extends S) (sym is) (extends-same S)

-- ---- how an outcome is described

pub told-signature : (S T : Signature) (e : Entry) (k rest : ℕ) (outcome : Outcome Entered) → (Ok (entered_at T k), rest) ≡ outcome
    → (Ok T, rest) ≡ with_entry (entering S e outcome)
told-signature S T e k rest outcome is = transport (λ o. (Ok T, rest) ≡ with_entry (entering S e o)) is refl

pub refused : (S : Signature) (e : Entry) (stop : FamilyStop) (r : ReportStop) (rest : ℕ) (outcome : Outcome Entered) → r ≡ not_entered S e stop
    → (Err stop, rest) ≡ outcome → (Err r, rest) ≡ entering S e outcome
refused S e stop r rest outcome same is = transport (λ o. (Err r, rest) ≡ entering S e o) is (ap (λ x. (Err x, rest)) same)

pub refused-signature : (S : Signature) (e : Entry) (stop : FamilyStop) (r : ReportStop) (rest : ℕ) (outcome : Outcome Entered) → r ≡ not_entered S e stop
    → (Err stop, rest) ≡ outcome → (Err r, rest) ≡ with_entry (entering S e outcome)
refused-signature S e stop r rest outcome same is =
    transport (λ o. (Err r, rest) ≡ with_entry (entering S e o)) is (ap (λ x. (Err x, rest)) same)

-- ---- one after the other

pub next-assoc : {A B C E : Type 0} (first : SpentOr E A) (go : A → ℕ → SpentOr E B) (on : B → ℕ → SpentOr E C)
    → and_next (and_next first go) on ≡ and_next first (λ a rest. and_next (go a rest) on)
next-assoc {A} {B} {C} {E} first go on = by first.0
  where
    by : (r : Result A E) → and_next (on_answer r first.1 go) on ≡ on_answer r first.1 (λ a rest. and_next (go a rest) on)
    by (Ok a) = refl
    by (Err e) = refl

next-same : {A B E : Type 0} (first : SpentOr E A) (go go' : A → ℕ → SpentOr E B) → ((a : A) (rest : ℕ) → go a rest ≡ go' a rest)
    → and_next first go ≡ and_next first go'
next-same {A} {B} {E} first go go' same = by first.0
  where
    by : (r : Result A E) → on_answer r first.1 go ≡ on_answer r first.1 go'
    by (Ok a) = same a first.1
    by (Err e) = refl

next-end : {A E : Type 0} (first : SpentOr E A) → and_next first (λ a rest. (Ok a, rest)) ≡ first
next-end {A} {E} first = by first.0 first.1
  where
    by : (r : Result A E) (left : ℕ) → on_answer r left (λ a rest. (Ok a, rest)) ≡ (r, left)
    by (Ok a) left = refl
    by (Err e) left = refl

pub all-append : (enter : Entering) (S : Signature) (xs ys : List Mention) (left : ℕ)
    → enter_all enter S (xs ++ ys) left ≡ and_next (enter_all enter S xs left) (λ T rest. enter_all enter T ys rest)
all-append enter S [] ys left = refl
all-append enter S (x ∷ xs) ys left =
    next-same (enter_mention enter S x left) (λ T rest. enter_all enter T (xs ++ ys) rest)
    (λ T rest. and_next (enter_all enter T xs rest) (λ U more. enter_all enter U ys more)) (λ T rest. all-append enter T xs ys rest)
    ∙ sym (next-assoc (enter_mention enter S x left) (λ T rest. enter_all enter T xs rest) (λ U more. enter_all enter U ys more))

pub all-one : (enter : Entering) (S : Signature) (m : Mention) (left : ℕ) → enter_all enter S (m ∷ []) left ≡ enter_mention enter S m left
all-one enter S m left = next-end (enter_mention enter S m left)

pub both-met : (enter : Entering) (S T : Signature) (xs ys : List Mention) (left mid : ℕ) → (Ok T, mid) ≡ enter_all enter S xs left
    → enter_all enter T ys mid ≡ enter_all enter S (xs ++ ys) left
both-met enter S T xs ys left mid is =
    transport (λ (o : Reporting Signature). enter_all enter T ys mid ≡ and_next o (λ U rest. enter_all enter U ys rest)) is refl ∙ sym (all-append enter S xs ys left)

pub both-refused : (enter : Entering) (S : Signature) (xs ys : List Mention) (left mid : ℕ) (e : ReportStop) → (Err e, mid) ≡ enter_all enter S xs left
    → (Err e, mid) ≡ enter_all enter S (xs ++ ys) left
both-refused enter S xs ys left mid e is =
    transport (λ (o : Reporting Signature). (Err e, mid) ≡ and_next o (λ U rest. enter_all enter U ys rest)) is refl ∙ sym (all-append enter S xs ys left)
