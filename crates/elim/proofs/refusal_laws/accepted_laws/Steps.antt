-- One entry that is accepted, and entries that are accepted one after the other.
use Rattle.std.proofs.Common.{◌≡◌, ◌⊎◌, inl, inr, ℕ, ◌+◌, ◌-◌, ◌≤◌, Bool, true, false, ◌&&◌, nat_lt, position, Option, Some, None, List, [], ◌∷◌, Result, Ok, Err, IfOk, refl, sym, ap, ◌∙◌, subst as transport, arith}
use Rattle.theory.specs.Terms.{Term, top}
use Rattle.theory.specs.Eliminators.{eliminator_type}
use Rattle.theory.specs.Families.{Family}
use Rattle.theory.specs.Signatures.{Signature, Entry, FamilyOf, EliminatorAt, AxiomKAt, Definition, IsEntryAt, axiom_k_type}
use Rattle.core_terms.specs.Answers.{SpentOr, on_answer, and_next}
use Rattle.core_terms.proofs.Answers.{Answers, and_next-has}
use Rattle.core_sig.specs.Instances.{is_eliminator, is_axiom_k}
use Rattle.family_check.specs.Asking.{sort_in, type_in}
use Rattle.family_check.specs.Entering.{Entered, entered, are_new, enter_instance, unless_there, check_definition, instance_of, axiom_k_of, define_of}
use Rattle.family_check.specs.Outcomes.{OfType, OfBody, FamilyStop, Outcome}
use Rattle.family_check.proofs.Outcomes.{if_new-has}
use Rattle.family_check.proofs.Spending.{instance-spends, axiom_k-spends, define-spends}
use Rattle.clause_reports.proofs.Keeping.{Any, any}
use Rattle.elab_session.specs.Entering.{eliminator_in}
use Rattle.elim.specs.refusal_laws.unit_laws.Steady.{IsFamilyFuel, IsPaid, IsSteady}
use Rattle.elim.proofs.refusal_laws.unit_laws.Entering.{instance-steady, axiom_k-steady, define-steady}
use Rattle.elim.specs.refusal_laws.accepted_laws.Checked.{LetsIn, Checked, unchanged, one_more}

-- ---- the relation

pub checked-on : {fuel : ℕ} {S T U : Signature} → Checked fuel S T → Checked fuel T U → Checked fuel S U
checked-on h unchanged = h
checked-on h (one_more T e k lets) = one_more T e (checked-on h k) lets

-- the answer has P, and no more than `fuel` units are left after it
abbrev pub Within : {A E : Type 0} → ℕ → (A → Type 0) → SpentOr E A → Type 0
Within fuel P r = IfOk r.0 P × (r.1 ≤ fuel)

pub within-next : {A B E : Type 0} (fuel : ℕ) (P : A → Type 0) (Q : B → Type 0) (first : SpentOr E A) (go : A → ℕ → SpentOr E B)
    → Within fuel P first → ((a : A) (rest : ℕ) → rest ≤ fuel → P a → Within fuel Q (go a rest)) → Within fuel Q (and_next first go)
within-next {A} {B} {E} fuel P Q first go h k = on first.0 h.0
  where
    on : (r : Result A E) → IfOk r P → Within fuel Q (on_answer r first.1 go)
    on (Ok a) p = k a first.1 h.1 p
    on (Err e) p = (tt, h.1)

-- one call after another, without a bound on the units in the end
pub answers-next : {A B E : Type 0} (fuel : ℕ) (P : A → Type 0) (Q : B → Type 0) (first : SpentOr E A) (go : A → ℕ → SpentOr E B)
    → Within fuel P first → ((a : A) (rest : ℕ) → rest ≤ fuel → P a → Answers Q (go a rest)) → Answers Q (and_next first go)
answers-next {A} {B} {E} fuel P Q first go h k = on first.0 h.0
  where
    on : (r : Result A E) → IfOk r P → Answers Q (on_answer r first.1 go)
    on (Ok a) p = k a first.1 h.1 p
    on (Err e) p = tt

pub weaker-within : {A E : Type 0} (fuel : ℕ) (P Q : A → Type 0) (r : SpentOr E A) → ((a : A) → P a → Q a) → Within fuel P r → Within fuel Q r
weaker-within {A} {E} fuel P Q r k h = (on r.0 h.0, h.1)
  where
    on : (x : Result A E) → IfOk x P → IfOk x Q
    on (Ok a) p = k a p
    on (Err e) p = tt

pub below : (rest left fuel : ℕ) → rest ≤ left → left ≤ fuel → rest ≤ fuel
below rest left fuel h k = omega arith

-- ---- more units

enough : (left fuel : ℕ) → left ≤ fuel → left + (fuel - left) ≡ fuel
enough left fuel le = omega arith

-- an answer with some units is the answer with as many or more
pub with-fuel : {A E : Type 0} (wants : E → Type 0) (run : ℕ → SpentOr E A) (a : A) (left fuel : ℕ) → IsSteady wants run → left ≤ fuel
    → (run left).0 ≡ Ok a → (run fuel).0 ≡ Ok a
with-fuel {A} {E} wants run a left fuel steady le is =
    transport (λ n. (run n).0 ≡ Ok a) (enough left fuel le)
    (ap (λ (r : SpentOr E A). r.0) (steady left (fuel - left) (transport (IsPaid wants) (sym is) tt)) ∙ is)

-- nothing was added, or this entry
abbrev IsAdded : Signature → Entry → Entered → Type 0
IsAdded S e x = (x.signature ≡ S) ⊎ (x ≡ entered S e)

-- the signature of what entered
abbrev pub CheckedTo : ℕ → Signature → Entered → Type 0
CheckedTo fuel S x = Checked fuel S x.signature

taken : (S : Signature) (e : Entry) (run : ℕ → Outcome Entered) (left fuel : ℕ) → IsSteady IsFamilyFuel run → left ≤ fuel
    → ((run fuel).0 ≡ Ok (entered S e) → LetsIn S fuel e) → IfOk (run left).0 (IsAdded S e) → IfOk (run left).0 (CheckedTo fuel S)
taken S e run left fuel steady le lets h = by (run left).0 refl h
  where
    by : (r : Result Entered FamilyStop) → (run left).0 ≡ r → IfOk r (IsAdded S e) → IfOk r (CheckedTo fuel S)
    by (Ok x) is (inl same) = transport (Checked fuel S) (sym same) unchanged
    by (Ok x) is (inr new) =
        transport (CheckedTo fuel S) (sym new)
        (one_more S e unchanged (lets (with-fuel IsFamilyFuel run (entered S e) left fuel steady le (is ∙ ap Ok new))))
    by (Err stop) is added = tt

-- ---- definitions

define-added : (S : Signature) (name : List ℕ) (type body : Term) (left : ℕ) → IfOk (define_of S name type body left).0 (IsAdded S (Definition name type body))
define-added S name type body left =
    let Added = IsAdded S (Definition name type body) in
    if_new-has Added (are_new S (name ∷ [])) (check_definition S name type body) left (λ test.
    and_next-has Any Added (sort_in S OfType [] type left) _ (any (sort_in S OfType [] type left).0) (λ sort rest u.
    and_next-has Any Added (type_in S OfBody [] body type rest) _ (any (type_in S OfBody [] body type rest).0) (λ found end v.
    inr refl)))

pub define-checked : (S : Signature) (name : List ℕ) (type body : Term) (left fuel : ℕ) → left ≤ fuel
    → Within fuel (CheckedTo fuel S) (define_of S name type body left)
define-checked S name type body left fuel le = (
  taken S (Definition name type body) (define_of S name type body) left fuel (define-steady S name type body) le (λ is. is) (define-added S name type body left),
  below _ left fuel (define-spends S name type body left) le,
)

-- ---- instances

there-added : (S : Signature) (e : Entry) (place : Option ℕ) (enter : ℕ → Outcome Entered) (left : ℕ) → Answers (IsAdded S e) (enter left)
    → Answers (IsAdded S e) (unless_there S place enter left)
there-added S e (Some n) enter left h = inl refl
there-added S e None enter left h = h

entry-added : (S : Signature) (e : Entry) (fits : Bool) (type : Term) (left : ℕ) → Answers (IsAdded S e) (enter_instance S e fits type left)
entry-added S e true type left =
    and_next-has Any (IsAdded S e) (sort_in S OfType [] type left) _ (any (sort_in S OfType [] type left).0) (λ sort rest u. inr refl)
entry-added S e false type left = tt

pub instance-checked : (S : Signature) (n : ℕ) (f : Family) (m left fuel : ℕ) → IsEntryAt S n (FamilyOf f) → left ≤ fuel
    → Within fuel (CheckedTo fuel S) (instance_of S n f m left)
instance-checked S n f m left fuel at le = (
  taken S (EliminatorAt n m) (instance_of S n f m) left fuel (instance-steady S n f m) le
      (λ is. transport (λ (o : Option Entry). (eliminator_in S n m o fuel).0 ≡ Ok (entered S (EliminatorAt n m))) (sym at) is)
      (there-added S (EliminatorAt n m) (position (is_eliminator n m) S.entries) (enter_instance S (EliminatorAt n m) (nat_lt m top) (eliminator_type n f m)) left
      (entry-added S (EliminatorAt n m) (nat_lt m top) (eliminator_type n f m) left)),
  below _ left fuel (instance-spends S n f m left) le,
)

pub axiom_k-checked : (S : Signature) (i m left fuel : ℕ) → left ≤ fuel → Within fuel (CheckedTo fuel S) (axiom_k_of S i m left)
axiom_k-checked S i m left fuel le = (
  taken S (AxiomKAt i m) (axiom_k_of S i m) left fuel (axiom_k-steady S i m) le (λ is. is)
      (there-added S (AxiomKAt i m) (position (is_axiom_k i m) S.entries) (enter_instance S (AxiomKAt i m) (nat_lt i top && nat_lt m top) (axiom_k_type i m)) left
      (entry-added S (AxiomKAt i m) (nat_lt i top && nat_lt m top) (axiom_k_type i m) left)),
  below _ left fuel (axiom_k-spends S i m left) le,
)
