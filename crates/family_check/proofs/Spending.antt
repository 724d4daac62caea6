-- No call that enters an entry gives units back.
use Rattle.std.proofs.Common.{ℕ, ◌+◌, ◌≤◌, Bool, true, false, ◌&&◌, nat_lt, position, Option, Some, None, Ok, List, [], ◌∷◌, length, arith}
use Rattle.theory.specs.Terms.{Term, top}
use Rattle.theory.specs.Eliminators.{eliminator_type}
use Rattle.theory.specs.Telescopes.{Context, Telescope, context_behind}
use Rattle.theory.specs.Families.{Family}
use Rattle.theory.specs.Signatures.{Entry, FamilyOf, EliminatorAt, AxiomKAt, Signature, axiom_k_type}
use Rattle.theory.specs.WellFormed.{pushed}
use Rattle.core_sig.specs.Raw.{RawConstructor, RawFamily, raw_names}
use Rattle.kernel_reduce.specs.Reduction.{nesting}
use Rattle.core_sig.specs.Instances.{is_eliminator, is_axiom_k}
use Rattle.kernel_check.specs.Checking.{infer_sort_of, check_of}
use Rattle.kernel_check.proofs.Spending.{infer_sort-spends, check-spends}
use Rattle.core_terms.specs.Answers.{and_next}
use Rattle.family_check.specs.Outcomes.{OfType, OfBody, OfConstructor, Outcome, ended, granted}
use Rattle.family_check.specs.Asking.{sort_in, type_in}
use Rattle.core_terms.specs.Telescopes.{domains_of, end_of}
use Rattle.family_check.specs.Shapes.{constructor_targets}
use Rattle.family_check.specs.Families.{Role, Parameter, Index, ArgumentOf, site_of, level_in, levels_of, family_level, declare_type, on_targets, declare_constructor, declare_constructors, declare_family}
use Rattle.family_check.specs.Entering.{Entered, entered, are_new, enter_instance, unless_there, check_definition}
use Rattle.family_check.specs.Laws.{DeclareSpends, InstanceSpends, AxiomKSpends, DefineSpends}
use Rattle.core_terms.proofs.Answers.{and_next-spends}
use Rattle.core_terms.proofs.Loops.{each-spends}
use Rattle.family_check.proofs.Outcomes.{if_new-spends}

level-spends : (S : Signature) (role : Role) (k : ℕ) (G : Context) (a : Term) (left : ℕ) → (level_in S role k G a left).1 ≤ left
unfolding sort_in
level-spends S role k G a left =
    and_next-spends (granted (site_of role k) (infer_sort_of S nesting G a left)) _ left (infer_sort-spends S nesting G a left) (λ sort rest. omega arith)

levels-spends : (S : Signature) (role : Role) (count : ℕ) (G : Context) (tele : Telescope) (left : ℕ) → (levels_of S role count G tele left).1 ≤ left
levels-spends S role count G tele left =
    each-spends (λ G k a. level_in S role (k + 1) G a) (λ G a. a ∷ G) (λ G k a left. level-spends S role (k + 1) G a left) G count tele left

type-spends : (S : Signature) (raw : RawFamily) (left : ℕ) → (declare_type S raw left).1 ≤ left
unfolding sort_in
type-spends S raw left =
    let G = context_behind [] raw.parameters in
    and_next-spends (levels_of S Parameter 0 [] raw.parameters left) _ left (levels-spends S Parameter 0 [] raw.parameters left) (λ ls left1.
    and_next-spends (granted OfType (infer_sort_of S nesting G raw.type left1)) _ left1 (infer_sort-spends S nesting G raw.type left1) (λ sort left2.
    and_next-spends (ended (family_level (end_of raw.type)) left2) _ left2 (omega arith) (λ level left3.
    and_next-spends (levels_of S (Index level) 0 G (domains_of raw.type) left3) _ left3 (levels-spends S (Index level) 0 G (domains_of raw.type) left3) (λ levels end.
    omega arith))))

constructor-spends : (S : Signature) (n : ℕ) (f : Family) (number : ℕ) (raw : RawConstructor) (left : ℕ) → (declare_constructor S n f number raw left).1 ≤ left
unfolding sort_in
constructor-spends S n f number raw left =
    let G = context_behind [] f.parameters in
    and_next-spends (granted (OfConstructor number) (infer_sort_of S nesting G raw.type left)) _ left (infer_sort-spends S nesting G raw.type left) (λ sort left1.
    and_next-spends (ended (on_targets number (constructor_targets n f raw.type)) left1) _ left1 (omega arith) (λ targets left2.
    and_next-spends (levels_of S (ArgumentOf number f.level) 0 G (domains_of raw.type) left2) _ left2 (levels-spends S (ArgumentOf number f.level) 0 G (domains_of raw.type) left2) (λ levels end.
    omega arith)))

constructors-spends : (S : Signature) (n : ℕ) (f : Family) (number : ℕ) (raws : List RawConstructor) (left : ℕ) → (declare_constructors S n f number raws left).1 ≤ left
constructors-spends S n f number raws left =
    each-spends {S = Unit {0}} (λ s k raw. declare_constructor S n f k raw) (λ s raw. s) (λ s k raw left. constructor-spends S n f k raw left) tt number raws left

family-spends : (S : Signature) (raw : RawFamily) (left : ℕ) → (declare_family S raw left).1 ≤ left
family-spends S raw left =
    and_next-spends (declare_type S raw left) _ left (type-spends S raw left) (λ f rest.
    let T = pushed S (FamilyOf f) in
    and_next-spends (declare_constructors T (length S.entries) f 0 raw.constructors rest) _ rest (constructors-spends T (length S.entries) f 0 raw.constructors rest) (λ cs end.
    omega arith))

pub declare-spends : DeclareSpends
declare-spends S raw left =
    if_new-spends (are_new S (raw_names raw)) (λ all. and_next (declare_family S raw all) (λ f end. ended (Ok (entered S (FamilyOf f))) end)) left
    (and_next-spends (declare_family S raw left) _ left (family-spends S raw left) (λ f end. omega arith))

enter-spends : (S : Signature) (e : Entry) (fits : Bool) (type : Term) (left : ℕ) → (enter_instance S e fits type left).1 ≤ left
unfolding sort_in
enter-spends S e true type left =
    and_next-spends (granted OfType (infer_sort_of S nesting [] type left)) _ left (infer_sort-spends S nesting [] type left) (λ sort end. omega arith)
enter-spends S e false type left = omega arith

there-spends : (S : Signature) (place : Option ℕ) (enter : ℕ → Outcome Entered) (left : ℕ) → (enter left).1 ≤ left → (unless_there S place enter left).1 ≤ left
there-spends S (Some n) enter left h = omega arith
there-spends S None enter left h = h

pub instance-spends : InstanceSpends
instance-spends S n f m left =
    there-spends S (position (is_eliminator n m) S.entries) (enter_instance S (EliminatorAt n m) (nat_lt m top) (eliminator_type n f m)) left
    (enter-spends S (EliminatorAt n m) (nat_lt m top) (eliminator_type n f m) left)

pub axiom_k-spends : AxiomKSpends
axiom_k-spends S i m left =
    there-spends S (position (is_axiom_k i m) S.entries) (enter_instance S (AxiomKAt i m) (nat_lt i top && nat_lt m top) (axiom_k_type i m)) left
    (enter-spends S (AxiomKAt i m) (nat_lt i top && nat_lt m top) (axiom_k_type i m) left)

definition-spends : (S : Signature) (name : List ℕ) (type body : Term) (left : ℕ) → (check_definition S name type body left).1 ≤ left
unfolding sort_in type_in
definition-spends S name type body left =
    and_next-spends (granted OfType (infer_sort_of S nesting [] type left)) _ left (infer_sort-spends S nesting [] type left) (λ sort rest.
    and_next-spends (granted OfBody (check_of S nesting [] body type rest)) _ rest (check-spends S nesting [] body type rest) (λ found end. omega arith))

pub define-spends : DefineSpends
define-spends S name type body left =
    if_new-spends (are_new S (name ∷ [])) (check_definition S name type body) left (definition-spends S name type body left)
