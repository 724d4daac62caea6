-- How runs of normal forms go on, or end with a refusal.
use Rattle.std.proofs.Common.{◌≡◌, ℕ, ◌-◌, ◌≤◌, ◌<◌, true, false, List, [], ◌∷◌, length, take, drop, get_or, Result, Ok, Err, refl, ap, sym, ◌∙◌, arith}
use Rattle.std.proofs.lemmas.Bool.Decides.{nat_tests}
use Rattle.std.proofs.lemmas.List.{take_all}
use Rattle.theory.specs.Signatures.{Signature}
use Rattle.theory.specs.Terms.{Term, height}
use Rattle.core_terms.specs.Answers.{Spent, Gives, Runs, and_next, is_low}
use Rattle.core_terms.specs.Meanings.{tree_of, tele_of}
use Rattle.core_terms.specs.declared.stop.Stop.{Stop}
use Rattle.core_terms.specs.declared.stop.Stop.TheVariants.{Deep}
use Rattle.core_terms.specs.declared.term.Term as code
use Rattle.kernel_reduce.specs.Reduction.{answered, if_low}
use Rattle.with_abstraction.specs.declared.abstracted.Abstracted as code_abstracted
use Rattle.with_abstraction.specs.Abstractions.{Abstracted, abstracted, abstract_over_of}
use Rattle.with_abstraction.specs.Meanings.{abstracted_of}
use Rattle.with_abstraction.specs.NormalForms.{NormalForms, plain_normal_of, plain_normals_of, normal_forms_of}

-- a refusal of the first part is that of the whole
pub refused : {A B : Type 0} (first : Spent A) (go : A → ℕ → Spent B) (e : Stop) (left : ℕ)
    → answered (Err e) left ≡ first → answered (Err e) left ≡ and_next first go
refused first go e left h = ap (λ r. and_next r go) h

-- an answer of the first part goes on
pub continued : {A B : Type 0} (first : Spent A) (go : A → ℕ → Spent B) (a : A) (left : ℕ) (r : Spent B)
    → answered (Ok a) left ≡ first → r ≡ go a left → r ≡ and_next first go
continued first go a left r h k = k ∙ ap (λ (s : Spent _). and_next s go) h

-- the types of a list that is not empty
types-first : (S : Signature) (types : List code.Term) (ty : code.Term) (left : ℕ) (r : Spent (List Term)) → 1 ≤ length types → ty ≡ get_or types 0 ty
    → r ≡ and_next (plain_normal_of S (tree_of ty) left) (λ b rest.
    and_next (plain_normals_of S (tele_of (take (length types - 1) (drop 1 types))) rest) (λ others end. answered (Ok (b ∷ others)) end))
    → r ≡ plain_normals_of S (tele_of types) left
types-first S [] ty left r le is h = absurd (omega arith)
types-first S (a ∷ types) ty left r le is h =
    h ∙ ap (λ t. and_next (plain_normal_of S (tree_of t) left) (λ b rest.
    and_next (plain_normals_of S (tele_of (take (length (a ∷ types) - 1) (drop 1 (a ∷ types)))) rest) (λ others end. answered (Ok (b ∷ others)) end))) is
    ∙ ap (λ (rest : List code.Term). and_next (plain_normal_of S (tree_of a) left) (λ b more.
    and_next (plain_normals_of S (tele_of rest) more) (λ others end. answered (Ok (b ∷ others)) end))) (take_all (length (a ∷ types) - 1) types (omega arith))

pub first-refused : (S : Signature) (types : List code.Term) (ty : code.Term) (left rest : ℕ) (e : Stop) → 1 ≤ length types → ty ≡ get_or types 0 ty
    → answered (Err e) rest ≡ plain_normal_of S (tree_of ty) left → answered (Err e) rest ≡ plain_normals_of S (tele_of types) left
first-refused S types ty left rest e le is h =
    types-first S types ty left (answered (Err e) rest) le is (refused (plain_normal_of S (tree_of ty) left) _ e rest h)

pub others-refused : (S : Signature) (types : List code.Term) (ty : code.Term) (a : Term) (left more rest : ℕ) (e : Stop) → 1 ≤ length types
    → ty ≡ get_or types 0 ty → answered (Ok a) more ≡ plain_normal_of S (tree_of ty) left
    → answered (Err e) rest ≡ plain_normals_of S (tele_of (take (length types - 1) (drop 1 types))) more
    → answered (Err e) rest ≡ plain_normals_of S (tele_of types) left
others-refused S types ty a left more rest e le is h k =
    types-first S types ty left (answered (Err e) rest) le is
    (continued (plain_normal_of S (tree_of ty) left) _ a more (answered (Err e) rest) h
    (refused (plain_normals_of S (tele_of (take (length types - 1) (drop 1 types))) more) _ e rest k))

pub all-normal : (S : Signature) (types : List code.Term) (ty : code.Term) (a : Term) (others : List Term) (left more rest : ℕ) → 1 ≤ length types
    → ty ≡ get_or types 0 ty → answered (Ok a) more ≡ plain_normal_of S (tree_of ty) left
    → answered (Ok others) rest ≡ plain_normals_of S (tele_of (take (length types - 1) (drop 1 types))) more
    → answered (Ok (a ∷ others)) rest ≡ plain_normals_of S (tele_of types) left
all-normal S types ty a others left more rest le is h k =
    types-first S types ty left (answered (Ok (a ∷ others)) rest) le is
    (continued (plain_normal_of S (tree_of ty) left) _ a more (answered (Ok (a ∷ others)) rest) h
    (continued (plain_normals_of S (tele_of (take (length types - 1) (drop 1 types))) more) _ others rest (answered (Ok (a ∷ others)) rest) k refl))

-- ---- goal, types and scrutinee

-- the normal forms that are made after the types, and those after the goal
abbrev behind_types : Signature → (G t : Term) → List Term → ℕ → Spent NormalForms
behind_types S G t types more =
    and_next (plain_normal_of S t more) (λ u end. answered (Ok (record { goal = G; types = types; scrutinee = u })) end)

abbrev behind_goal : Signature → (context : List Term) (t : Term) → Term → ℕ → Spent NormalForms
behind_goal S context t G rest = and_next (plain_normals_of S context rest) (behind_types S G t)

pub goal-refused : (S : Signature) (context : List Term) (goal t : Term) (left rest : ℕ) (e : Stop)
    → answered (Err e) rest ≡ plain_normal_of S goal left → answered (Err e) rest ≡ normal_forms_of S context goal t left
goal-refused S context goal t left rest e h = refused (plain_normal_of S goal left) (behind_goal S context t) e rest h

pub types-refused : (S : Signature) (context slice : List code.Term) (goal t G : Term) (left more rest : ℕ) (e : Stop) → slice ≡ context
    → answered (Ok G) more ≡ plain_normal_of S goal left → answered (Err e) rest ≡ plain_normals_of S (tele_of slice) more
    → answered (Err e) rest ≡ normal_forms_of S (tele_of context) goal t left
types-refused S context slice goal t G left more rest e same h k =
    continued (plain_normal_of S goal left) (behind_goal S (tele_of context) t) G more (answered (Err e) rest) h
    (refused (plain_normals_of S (tele_of context) more) (behind_types S G t) e rest
    (k ∙ ap (λ (types : List code.Term). plain_normals_of S (tele_of types) more) same))

pub scrutinee-refused : (S : Signature) (context slice : List code.Term) (goal t G : Term) (types : List Term) (left more last rest : ℕ) (e : Stop)
    → slice ≡ context → answered (Ok G) more ≡ plain_normal_of S goal left → answered (Ok types) last ≡ plain_normals_of S (tele_of slice) more
    → answered (Err e) rest ≡ plain_normal_of S t last → answered (Err e) rest ≡ normal_forms_of S (tele_of context) goal t left
scrutinee-refused S context slice goal t G types left more last rest e same h k l =
    continued (plain_normal_of S goal left) (behind_goal S (tele_of context) t) G more (answered (Err e) rest) h
    (continued (plain_normals_of S (tele_of context) more) (behind_types S G t) types last (answered (Err e) rest)
    (k ∙ ap (λ (types : List code.Term). plain_normals_of S (tele_of types) more) same)
    (refused (plain_normal_of S t last) (λ u end. answered (Ok (record { goal = G; types = types; scrutinee = u })) end) e rest l))

abbrev forms : (G u : Term) (types : List Term) → NormalForms
forms G u types = record { goal = G; types = types; scrutinee = u }

pub forms-normal : (S : Signature) (context slice : List code.Term) (goal t G u : Term) (types : List Term) (left more last rest : ℕ)
    → slice ≡ context → answered (Ok G) more ≡ plain_normal_of S goal left → answered (Ok types) last ≡ plain_normals_of S (tele_of slice) more
    → answered (Ok u) rest ≡ plain_normal_of S t last → answered (Ok (forms G u types)) rest ≡ normal_forms_of S (tele_of context) goal t left
forms-normal S context slice goal t G u types left more last rest same h k l =
    continued (plain_normal_of S goal left) (behind_goal S (tele_of context) t) G more (answered (Ok (forms G u types)) rest) h
    (continued (plain_normals_of S (tele_of context) more) (behind_types S G t) types last (answered (Ok (forms G u types)) rest)
    (k ∙ ap (λ (types : List code.Term). plain_normals_of S (tele_of types) more) same)
    (continued (plain_normal_of S t last) (λ u end. answered (Ok (record { goal = G; types = types; scrutinee = u })) end) u rest
    (answered (Ok (forms G u types)) rest) l refl))

-- ---- the abstraction of normal forms

abbrev from_forms : Term → NormalForms → ℕ → Spent Abstracted
from_forms type m rest = if_low (is_low type) (answered (Ok (abstracted m type))) rest

pub abstraction-refused : (S : Signature) (context : List Term) (goal t type : Term) (left rest : ℕ) (e : Stop)
    → answered (Err e) rest ≡ normal_forms_of S context goal t left → answered (Err e) rest ≡ abstract_over_of S context goal t type left
abstraction-refused S context goal t type left rest e h = refused (normal_forms_of S context goal t left) (from_forms type) e rest h

low-no : (t : Term) → 2000 < height t → is_low t ≡ false
low-no t lt = grind (arith, nat_tests)

low-yes : (t : Term) → height t ≤ 2000 → is_low t ≡ true
low-yes t le = grind (arith, nat_tests)

pub abstraction-deep : (S : Signature) (context : List Term) (goal t type : Term) (m : NormalForms) (left rest : ℕ) → 2000 < height type
    → answered (Ok m) rest ≡ normal_forms_of S context goal t left → answered (Err Deep) rest ≡ abstract_over_of S context goal t type left
abstraction-deep S context goal t type m left rest lt h =
    continued (normal_forms_of S context goal t left) (from_forms type) m rest (answered (Err Deep) rest) h
    (ap (λ b. if_low b (answered (Ok (abstracted m type))) rest) (sym (low-no type lt)))

pub abstraction-is : (S : Signature) (context : List Term) (goal t type : Term) (m : NormalForms) (left rest : ℕ) → height type ≤ 2000
    → answered (Ok m) rest ≡ normal_forms_of S context goal t left
    → answered (Ok (abstracted m type)) rest ≡ abstract_over_of S context goal t type left
abstraction-is S context goal t type m left rest le h =
    continued (normal_forms_of S context goal t left) (from_forms type) m rest (answered (Ok (abstracted m type)) rest) h
    (ap (λ b. if_low b (answered (Ok (abstracted m type))) rest) (sym (low-yes type le)))

-- the abstraction of the normal forms is the answer of the call
pub abstraction-runs : (result : Result code_abstracted.Abstracted Stop) (S : Signature) (context : List Term) (goal t type : Term) (m : NormalForms) (left rest : ℕ)
    → height type ≤ 2000 → Gives abstracted_of result (Ok (abstracted m type)) → answered (Ok m) rest ≡ normal_forms_of S context goal t left
    → Runs abstracted_of result rest (abstract_over_of S context goal t type left)
abstraction-runs (Ok a) S context goal t type m left rest le is h =
    ap (λ (r : Result Abstracted Stop). answered r rest) is ∙ abstraction-is S context goal t type m left rest le h
abstraction-runs (Err e) S context goal t type m left rest le is h =
    λ other. ap (λ (r : Result Abstracted Stop). answered r rest) (is other) ∙ abstraction-is S context goal t type m left rest le h
