-- Whatever enters comes after the entries that are there.
use Rattle.std.proofs.Common.{ℕ, Bool, true, false, ◌&&◌, nat_lt, position, Option, Some, None, Result, Ok, Err, IfOk, List, [], ◌∷◌}
use Rattle.theory.specs.Terms.{Term, top}
use Rattle.theory.specs.Eliminators.{eliminator_type}
use Rattle.theory.specs.Families.{Family}
use Rattle.theory.specs.Signatures.{Entry, FamilyOf, EliminatorAt, AxiomKAt, Definition, Signature, IsPrefix, axiom_k_type}
use Rattle.theory.proofs.Pushing.{prefix_reflexive, push_is_longer}
use Rattle.core_sig.specs.Raw.{RawFamily, raw_names}
use Rattle.core_sig.specs.Instances.{is_eliminator, is_axiom_k}
use Rattle.family_check.specs.Asking.{sort_in, type_in}
use Rattle.family_check.specs.Entering.{Entered, are_new, enter_instance, unless_there, check_definition, declare_of, instance_of, axiom_k_of, define_of}
use Rattle.family_check.specs.Families.{declare_family}
use Rattle.family_check.specs.Outcomes.{OfType, OfBody, FamilyStop, Outcome}
use Rattle.core_terms.proofs.Answers.{Answers, and_next-has}
use Rattle.family_check.proofs.Outcomes.{if_new-has}

abbrev Extends : Signature → Entered → Type 0
Extends S e = IsPrefix S e.signature

abbrev Any : {A : Type 0} → A → Type 0
Any a = Unit {0}

any : {A : Type 0} (r : Outcome A) → Answers Any r
any {A} r = by_case r.0
  where
    by_case : (x : Result A FamilyStop) → IfOk x Any
    by_case (Ok a) = tt
    by_case (Err e) = tt

pub define-extends : (S : Signature) (name : List ℕ) (type body : Term) (left : ℕ) → Answers (Extends S) (define_of S name type body left)
define-extends S name type body left =
    if_new-has (Extends S) (are_new S (name ∷ [])) (check_definition S name type body) left (λ test.
    and_next-has Any (Extends S) (sort_in S OfType [] type left) _ (any (sort_in S OfType [] type left)) (λ sort rest u.
    and_next-has Any (Extends S) (type_in S OfBody [] body type rest) _ (any (type_in S OfBody [] body type rest)) (λ found end v.
    push_is_longer S (Definition name type body))))

pub declare-extends : (S : Signature) (raw : RawFamily) (left : ℕ) → Answers (Extends S) (declare_of S raw left)
declare-extends S raw left =
    if_new-has (Extends S) (are_new S (raw_names raw)) _ left (λ test.
    and_next-has Any (Extends S) (declare_family S raw left) _ (any (declare_family S raw left)) (λ f end u. push_is_longer S (FamilyOf f)))

there-extends : (S : Signature) (place : Option ℕ) (enter : ℕ → Outcome Entered) (left : ℕ) → Answers (Extends S) (enter left) → Answers (Extends S) (unless_there S place enter left)
there-extends S (Some n) enter left h = prefix_reflexive S
there-extends S None enter left h = h

entry-extends : (S : Signature) (e : Entry) (fits : Bool) (type : Term) (left : ℕ) → Answers (Extends S) (enter_instance S e fits type left)
entry-extends S e false type left = tt
entry-extends S e true type left =
    and_next-has Any (Extends S) (sort_in S OfType [] type left) _ (any (sort_in S OfType [] type left)) (λ sort end u. push_is_longer S e)

pub instance-extends : (S : Signature) (n : ℕ) (f : Family) (m left : ℕ) → Answers (Extends S) (instance_of S n f m left)
instance-extends S n f m left =
    there-extends S (position (is_eliminator n m) S.entries) (enter_instance S (EliminatorAt n m) (nat_lt m top) (eliminator_type n f m)) left
    (entry-extends S (EliminatorAt n m) (nat_lt m top) (eliminator_type n f m) left)

pub axiom_k-extends : (S : Signature) (i m left : ℕ) → Answers (Extends S) (axiom_k_of S i m left)
axiom_k-extends S i m left =
    there-extends S (position (is_axiom_k i m) S.entries) (enter_instance S (AxiomKAt i m) (nat_lt i top && nat_lt m top) (axiom_k_type i m)) left
    (entry-extends S (AxiomKAt i m) (nat_lt i top && nat_lt m top) (axiom_k_type i m) left)
