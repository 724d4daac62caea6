-- A cycle that a run ends with has the variable on one side, and on the other a constructor that acyclicity is made for.
use Rattle.std.proofs.Common.{◌≡◌, ◌⊎◌, inl, inr, ℕ, zero, suc, ◌==◌, Bool, true, false, cond, Option, Some, None, IfSome, option_map, Ok, IfOk, List, ◌++◌, refl, ap, ◌∙◌}
use Rattle.std.proofs.lemmas.Bool.{eqb-true, and_parts}
use Rattle.theory.specs.Terms.{Term, Var, Con, height}
use Rattle.theory.specs.Spines.{head_of}
use Rattle.theory.specs.Families.{Family}
use Rattle.theory.specs.Signatures.{Signature, FamilyOf, IsEntryAt}
use Rattle.core_terms.specs.Answers.{and_next}
use Rattle.core_terms.proofs.Answers.{Answers, and_next-has}
use Rattle.kernel_reduce.specs.Reduction.{answered}
use Rattle.kernel_reduce.proofs.ReductionLaws.{some_bounded-has}
use Rattle.unification.specs.Built.{Built, built_of, has_no_indices, is_fitting}
use Rattle.unification.specs.Cycles.{Search, Below, among_arguments, below_constructor, bounded_found, by_room, by_units, found_as, in_form, is_acyclic, is_variable, no_argument, not_found, reduced_side, search_in, with_arguments}
use Rattle.unification.specs.Solutions.{variable_in}
use Rattle.unification.specs.States.{State}
use Rattle.unification.specs.Strategy.{turn_of}
use Rattle.unification.specs.Turns.{Turn}
use Rattle.unification.proofs.Constructors.{built-is}
use Rattle.unification.proofs.SpentUnits.{any-answer}
use Rattle.unification.proofs.Variables.{variable-is}
use Rattle.case_trees.proofs.Arguments.{head-applied}
use Rattle.entry_laws.proofs.name_laws.LastSides as sides
use Rattle.entry_laws.proofs.name_laws.LastSides.{LastSide}
use Rattle.entry_laws.proofs.name_laws.CycleSides.{variable-found}

-- ---- searches

-- what is found in a head form: the variable, or a constructor of family n
abbrev IsForm : (n x : ℕ) → Term → Type 0
IsForm n x w = (w ≡ Var x) ⊎ ((number : ℕ) × (head_of w ≡ Con n number))

abbrev Finds : (n x : ℕ) → Search Term → Type 0
Finds n x search = (left : ℕ) → Answers (λ found. IfSome found (IsForm n x)) (search left)

arguments-found : (n x : ℕ) (b : Built) → b.n ≡ n → (search : Search (List Term)) → Finds n x (found_as (with_arguments b) search)
arguments-found n x b e search left =
    and_next-has (λ found. Unit {0}) (λ found. IfSome found (IsForm n x)) (search left) (λ found rest. answered (Ok (option_map (with_arguments b) found)) rest)
    (any-answer (search left).0) (λ found rest any. by found)
  where
    by : (found : Option (List Term)) → IfSome (option_map (with_arguments b) found) (IsForm n x)
    by None = tt
    by (Some us) = inr (b.number, head-applied (Con b.n b.number) (b.parameters ++ us) ∙ ap (λ k. Con k b.number) e)

in_form-finds : (S : Signature) (n x : ℕ) (below : Below) (t : Term) → Finds n x (in_form S n x below t)
in_form-finds S n x below t left = by (is_variable x (variable_in t)) refl
  where
    same : (b : Built) (c : Bool) → (b.n == n) ≡ c
        → Answers (λ found. IfSome found (IsForm n x)) (cond c (found_as (with_arguments b) (among_arguments S below b.constructor.arguments b.arguments)) not_found left)
    same b true e = arguments-found n x b (eqb-true b.n n e) (among_arguments S below b.constructor.arguments b.arguments) left
    same b false e = tt

    built : (o : Option Built) → Answers (λ found. IfSome found (IsForm n x)) (below_constructor S n below o left)
    built None = tt
    built (Some b) = same b (b.n == n) refl

    by : (c : Bool) → is_variable x (variable_in t) ≡ c
        → Answers (λ found. IfSome found (IsForm n x)) (cond c (answered (Ok (Some t)) left) (below_constructor S n below (built_of S t) left))
    by true e = inl (variable-is t x (variable-found x (variable_in t) e))
    by false e = built (built_of S t)

by_room-finds : (S : Signature) (n x : ℕ) (units : Term → Search Term) (room : ℕ) (t : Term) → Finds n x (by_room S n x units room t)
by_room-finds S n x units zero t left = tt
by_room-finds S n x units (suc room) t left = in_form-finds S n x _ t left

by_units-finds : (S : Signature) (n x units : ℕ) (t : Term) → Finds n x (by_units S n x units t)
by_units-finds S n x zero t left = by_room-finds S n x no_argument (height t) t left
by_units-finds S n x (suc units) t left = by_room-finds S n x (by_units S n x units) (height t) t left

-- ---- sides

-- the term begins with a constructor of a family that acyclicity is made for
pub record IsAcyclicSide (S : Signature) (t : Term) : Type 0 where
  pub n : ℕ
  pub number : ℕ
  pub head : head_of t ≡ Con n number
  pub family : Family
  pub known : IsEntryAt S n (FamilyOf family)
  pub plain : has_no_indices family ≡ true
  pub fits : is_fitting family ≡ true

abbrev pub SideIs : Signature → (x : ℕ) → Term → Type 0
SideIs S x t = (t ≡ Var x) ⊎ IsAcyclicSide S t

side-found : (S : Signature) (x : ℕ) (t : Term) (o : Option Built) (left : ℕ) → built_of S t ≡ o
    → Answers (λ found. IfSome found (SideIs S x)) (reduced_side S x t o left)
side-found S x t None left e = tt
side-found S x t (Some b) left e = by (is_acyclic b) refl
  where
    form : is_acyclic b ≡ true → (w : Term) → IsForm b.n x w → SideIs S x w
    form is w (inl v) = inl v
    form is w (inr (number, head)) =
        let p = and_parts (has_no_indices b.family) (is_fitting b.family) is in
        inr (record {
          n = b.n;
          number = number;
          head = head;
          family = b.family;
          known = (built-is S t b e).built.family;
          plain = p.0;
          fits = p.1;
        })

    bounded : is_acyclic b ≡ true → (found : Option Term) → IfSome found (IsForm b.n x) → IfOk (bounded_found found) (λ found. IfSome found (SideIs S x))
    bounded is None h = tt
    bounded is (Some w) h = some_bounded-has (SideIs S x) w (form is w h)

    by : (c : Bool) → is_acyclic b ≡ c → Answers (λ found. IfSome found (SideIs S x))
        (cond c (and_next (search_in S b.n x t left) (λ found rest. answered (bounded_found found) rest)) (not_found left))
    by true is =
        and_next-has (λ found. IfSome found (IsForm b.n x)) (λ found. IfSome found (SideIs S x)) (search_in S b.n x t left)
        (λ found rest. answered (bounded_found found) rest) (by_units-finds S b.n x left t left) (λ found rest h. bounded is found h)
    by false is = tt

-- ---- turns

-- a cycle has such sides
abbrev pub SidesAre : Signature → (x : ℕ) → (left right : Term) → Type 0
SidesAre S x left right = SideIs S x left × SideIs S x right

-- the last step of a turn that is an end
pub turn-side : (S : Signature) (s : State) (left rest : ℕ) (turn : Turn) → turn_of S s left ≡ answered (Ok (Some turn)) rest → LastSide (SidesAre S) turn
turn-side S = sides.turn-side S (SideIs S) (SidesAre S) (side-found S) (λ x w is. (inl refl, is)) (λ x w is. (is, inl refl))
