-- A cycle that a run ends with has its variable in its side: it is a strict part there, syntactically equal.
use Rattle.std.proofs.Common.{◌≡◌, ◌⊎◌, inl, inr, ℕ, zero, suc, ◌+◌, ◌==◌, nat_lt, Bool, true, false, cond, Option, Some, None, IfSome, option_map, Ok, IfOk, List, [], ◌∷◌, ◌++◌, length, slice_get, refl, sym, ap, ap₂, ◌∙◌, subst as transport, arith}
use Rattle.std.proofs.lemmas.Bool.{eqb-true}
use Rattle.std.proofs.lemmas.List.{length-append}
use Rattle.theory.specs.Terms.{Term, Var, Con, height}
use Rattle.theory.specs.Spines.{spine_of}
use Rattle.theory.specs.Telescopes.{applied}
use Rattle.theory.specs.Families.{Argument, Recursive, Family}
use Rattle.theory.specs.Signatures.{Signature, FamilyOf, IsEntryAt}
use Rattle.theory.proofs.Lists.{slice_get-append_right}
use Rattle.core_terms.specs.Answers.{and_next}
use Rattle.core_terms.proofs.Answers.{Answers, and_next-has}
use Rattle.core_sig.specs.FamilyShapes.{kind_of}
use Rattle.core_sig.specs.declared.family.ArgKind.TheVariants.{Recursive as RecursiveKind}
use Rattle.case_below_gen.specs.StrictParts.{IsRecursiveArgument, IsStrictPart}
use Rattle.kernel_reduce.specs.Reduction.{answered, whnf_of}
use Rattle.kernel_reduce.proofs.ReductionLaws.{some_bounded-has}
use Rattle.unification.specs.Built.{Built, built_of, is_direct}
use Rattle.unification.specs.Cycles.{Search, Below, among_arguments, below_constructor, bounded_found, by_less, by_room, by_units, found_as, here_or, in_form, is_acyclic, is_variable, no_argument, not_found, reduced_side, search_in, with_arguments}
use Rattle.unification.specs.Paths.{IsBuilt}
use Rattle.unification.specs.Solutions.{variable_in}
use Rattle.unification.specs.States.{State}
use Rattle.unification.specs.Strategy.{turn_of}
use Rattle.unification.specs.Turns.{Turn}
use Rattle.unification.proofs.Constructors.{built-is, one-family}
use Rattle.unification.proofs.SpentUnits.{any-answer}
use Rattle.unification.proofs.Variables.{variable-is}
use Rattle.case_trees.proofs.Arguments.{spine-applied, head-applied}
use Rattle.entry_laws.proofs.name_laws.LastSides as sides
use Rattle.entry_laws.proofs.name_laws.LastSides.{LastSide}

-- ---- searches

-- the term that is found in t: t itself where it is the variable, or a term in which the variable is a strict part
abbrev IsFoundIn : Signature → (n x : ℕ) → (t w : Term) → Type 0
IsFoundIn S n x t w = ((t ≡ Var x) × (w ≡ Var x)) ⊎ ((f : Family) → IsEntryAt S n (FamilyOf f) → IsStrictPart n f (Var x) w)

abbrev Finds : Signature → (n x : ℕ) → (Term → Search Term) → Type 0
Finds S n x search = (t : Term) (left : ℕ) → Answers (λ found. IfSome found (IsFoundIn S n x t)) (search t left)

-- one of the arguments, a direct one, is the variable or has it as a strict part
record IsAmong (S : Signature) (n x : ℕ) (arguments : List Argument) (us ws : List Term) : Type 0 where
  at : ℕ
  argument : Argument
  argument_there : slice_get arguments at ≡ Some argument
  direct : is_direct argument ≡ true
  term : Term
  term_there : slice_get ws at ≡ Some term
  place : (term ≡ Var x) ⊎ ((f : Family) → IsEntryAt S n (FamilyOf f) → IsStrictPart n f (Var x) term)
  long : length ws ≡ length us

found_as-has : {A B : Type 0} (P : A → Type 0) (Q : B → Type 0) (f : A → B) (search : Search A) (left : ℕ) → Answers (λ found. IfSome found P) (search left)
    → ((a : A) → P a → Q (f a)) → Answers (λ found. IfSome found Q) (found_as f search left)
found_as-has {A} {B} P Q f search left h k =
    and_next-has (λ found. IfSome found P) (λ found. IfSome found Q) (search left) (λ found rest. answered (Ok (option_map f found)) rest) h (λ found rest is. by found is)
  where
    by : (found : Option A) → IfSome found P → IfSome (option_map f found) Q
    by None is = tt
    by (Some a) is = k a is

among-later : (S : Signature) (n x : ℕ) (a : Argument) (arguments : List Argument) (u : Term) (us ws : List Term) → IsAmong S n x arguments us ws
    → IsAmong S n x (a ∷ arguments) (u ∷ us) (u ∷ ws)
among-later S n x a arguments u us ws h = record {
  at = suc h.at;
  argument = h.argument;
  argument_there = h.argument_there;
  direct = h.direct;
  term = h.term;
  term_there = h.term_there;
  place = h.place;
  long = ap suc h.long;
}

among-here : (S : Signature) (n x : ℕ) (a : Argument) (arguments : List Argument) (u v w : Term) (us : List Term) → is_direct a ≡ true → IsFoundIn S n x v w
    → IsAmong S n x (a ∷ arguments) (u ∷ us) (w ∷ us)
among-here S n x a arguments u v w us direct h = record {
  at = zero;
  argument = a;
  argument_there = refl;
  direct = direct;
  term = w;
  term_there = refl;
  place = elim h [
    | inl is ↦ inl is.1
    | inr part ↦ inr part
  ];
  long = refl;
}

among-finds : (S : Signature) (n x : ℕ) (below : Below) → ((before : ℕ) → Finds S n x (below before)) → (arguments : List Argument) (us : List Term) (left : ℕ)
    → Answers (λ found. IfSome found (IsAmong S n x arguments us)) (among_arguments S below arguments us left)
among-finds S n x below finds [] us left = tt
among-finds S n x below finds (a ∷ arguments) [] left = tt
among-finds S n x below finds (a ∷ arguments) (u ∷ us) left =
    by (is_direct a) refl (λ rest. later rest (among-finds S n x below finds arguments us rest))
  where
    Q : Option (List Term) → Type 0
    Q found = IfSome found (IsAmong S n x (a ∷ arguments) (u ∷ us))

    later : (left : ℕ) → Answers (λ found. IfSome found (IsAmong S n x arguments us)) (among_arguments S below arguments us left)
        → Answers (λ found. IfSome found (IsAmong S n x (a ∷ arguments) (u ∷ us))) (found_as (λ ws. u ∷ ws) (among_arguments S below arguments us) left)
    later left h =
        found_as-has (IsAmong S n x arguments us) (IsAmong S n x (a ∷ arguments) (u ∷ us)) (λ ws. u ∷ ws) (among_arguments S below arguments us) left h
        (λ ws is. among-later S n x a arguments u us ws is)

    here : is_direct a ≡ true → (v : Term) (found : Option Term) (end : ℕ) → IfSome found (IsFoundIn S n x v)
        → Answers (λ found. IfSome found (IsAmong S n x (a ∷ arguments) (u ∷ us))) (found_as (λ ws. u ∷ ws) (among_arguments S below arguments us) end)
        → Answers (λ found. IfSome found (IsAmong S n x (a ∷ arguments) (u ∷ us)))
        (here_or (option_map (λ w. w ∷ us) found) (found_as (λ ws. u ∷ ws) (among_arguments S below arguments us)) end)
    here direct v (Some w) end h others = among-here S n x a arguments u v w us direct h
    here direct v None end h others = others

    by : (b : Bool) → is_direct a ≡ b
        → ((rest : ℕ) → Answers (λ found. IfSome found (IsAmong S n x (a ∷ arguments) (u ∷ us))) (found_as (λ ws. u ∷ ws) (among_arguments S below arguments us) rest))
        → Answers (λ found. IfSome found (IsAmong S n x (a ∷ arguments) (u ∷ us)))
        (cond b
        (and_next (whnf_of S true left u) (λ v rest.
        and_next (below left v rest) (λ found end.
        here_or (option_map (λ w. w ∷ us) found) (found_as (λ ws. u ∷ ws) (among_arguments S below arguments us)) end)))
        (found_as (λ ws. u ∷ ws) (among_arguments S below arguments us) left))
    by true direct others =
        and_next-has (λ v. Unit {0}) Q (whnf_of S true left u) _ (any-answer (whnf_of S true left u).0) (λ v rest any.
        and_next-has (λ found. IfSome found (IsFoundIn S n x v)) Q (below left v rest) _ (finds left v rest) (λ found end h. here direct v found end h (others end)))
    by false direct others = others left

-- a direct argument is recursive, without inner arguments
direct-kind : (a : Argument) → is_direct a ≡ true → kind_of a ≡ RecursiveKind 0
direct-kind (Recursive [] targets level) e = refl
direct-kind _ e = absurd (grind arith)

-- a constructor with an argument in which the variable was found
part-with_arguments : (S : Signature) (n x : ℕ) (t : Term) (b : Built) → built_of S t ≡ Some b → b.n ≡ n → (ws : List Term)
    → IsAmong S n x b.constructor.arguments b.arguments ws → (f : Family) → IsEntryAt S n (FamilyOf f) → IsStrictPart n f (Var x) (with_arguments b ws)
part-with_arguments S n x t b e number ws h f there =
    elim h.place [
      | inl is ↦ IsStrictPart.itself [] argument (sym is)
      | inr part ↦ IsStrictPart.inside argument (part f there)
    ]
  where
    built : IsBuilt S b
    built = (built-is S t b e).built

    same : b.family ≡ f
    same = one-family S b.n n b.family f built.family there number

    counted : length b.parameters ≡ length f.parameters
    counted = built.parameters ∙ ap (λ (g : Family). length g.parameters) same

    spine : spine_of (with_arguments b ws) ≡ b.parameters ++ ws
    spine = spine-applied (Con b.n b.number) (b.parameters ++ ws)

    argument : IsRecursiveArgument n f (with_arguments b ws) h.term 0
    argument = record {
      number = b.number;
      constructor = b.constructor;
      at = h.at;
      head = head-applied (Con b.n b.number) (b.parameters ++ ws) ∙ ap (λ k. Con k b.number) number;
      known = transport (λ (g : Family). slice_get g.constructors b.number ≡ Some b.constructor) same built.constructor;
      whole = ap length spine ∙ (length-append b.parameters ws ∙ ap₂ ◌+◌ counted (h.long ∙ built.arguments));
      kind = ap (option_map kind_of) h.argument_there ∙ ap Some (direct-kind h.argument h.direct);
      argument =
          ap₂ slice_get spine (ap (λ k. k + h.at) (sym counted)) ∙ (slice_get-append_right b.parameters ws h.at ∙ h.term_there);
    }

pub variable-found : (x : ℕ) (o : Option ℕ) → is_variable x o ≡ true → o ≡ Some x
variable-found x (Some y) e = ap Some (eqb-true y x e)
variable-found x None e = absurd (grind arith)

in_form-finds : (S : Signature) (n x : ℕ) (below : Below) → ((before : ℕ) → Finds S n x (below before)) → Finds S n x (in_form S n x below)
in_form-finds S n x below finds t left = by (is_variable x (variable_in t)) refl
  where
    built : (o : Option Built) → built_of S t ≡ o → Answers (λ found. IfSome found (IsFoundIn S n x t)) (below_constructor S n below o left)
    built None e = tt
    built (Some b) e = at (b.n == n) refl
      where
        at : (c : Bool) → (b.n == n) ≡ c
            → Answers (λ found. IfSome found (IsFoundIn S n x t))
            (cond c (found_as (with_arguments b) (among_arguments S below b.constructor.arguments b.arguments)) not_found left)
        at true same =
            found_as-has (IsAmong S n x b.constructor.arguments b.arguments) (IsFoundIn S n x t) (with_arguments b) (among_arguments S below b.constructor.arguments b.arguments) left
            (among-finds S n x below finds b.constructor.arguments b.arguments left)
            (λ ws h. inr (part-with_arguments S n x t b e (eqb-true b.n n same) ws h))
        at false other = tt

    by : (c : Bool) → is_variable x (variable_in t) ≡ c
        → Answers (λ found. IfSome found (IsFoundIn S n x t)) (cond c (answered (Ok (Some t)) left) (below_constructor S n below (built_of S t) left))
    by true e = let is = variable-is t x (variable-found x (variable_in t) e) in inl (is, is)
    by false e = built (built_of S t) refl

by_less-finds : (S : Signature) (n x : ℕ) (units room : Term → Search Term) → Finds S n x units → Finds S n x room → (before : ℕ) → Finds S n x (by_less units room before)
by_less-finds S n x units room hu hr before t left = by (nat_lt left before) (hu t left) (hr t left)
  where
    by : (c : Bool) → Answers (λ found. IfSome found (IsFoundIn S n x t)) (units t left) → Answers (λ found. IfSome found (IsFoundIn S n x t)) (room t left)
        → Answers (λ found. IfSome found (IsFoundIn S n x t)) (cond c (units t left) (room t left))
    by true h k = h
    by false h k = k

none-finds : (S : Signature) (n x : ℕ) → Finds S n x no_argument
none-finds S n x t left = tt

by_room-finds : (S : Signature) (n x : ℕ) (units : Term → Search Term) → Finds S n x units → (room : ℕ) → Finds S n x (by_room S n x units room)
by_room-finds S n x units h zero = none-finds S n x
by_room-finds S n x units h (suc room) =
    in_form-finds S n x (by_less units (by_room S n x units room)) (by_less-finds S n x units (by_room S n x units room) h (by_room-finds S n x units h room))

by_units-finds : (S : Signature) (n x units : ℕ) → Finds S n x (by_units S n x units)
by_units-finds S n x zero t left = by_room-finds S n x no_argument (none-finds S n x) (height t) t left
by_units-finds S n x (suc units) t left = by_room-finds S n x (by_units S n x units) (by_units-finds S n x units) (height t) t left

-- ---- sides

-- the variable is a strict part of a term, in some family
pub record IsPartOf (S : Signature) (x : ℕ) (t : Term) : Type 0 where
  pub n : ℕ
  pub family : Family
  pub known : IsEntryAt S n (FamilyOf family)
  pub part : IsStrictPart n family (Var x) t

not-built : (S : Signature) (x : ℕ) (t : Term) (b : Built) → built_of S t ≡ Some b → t ≡ Var x → ⊥
not-built S x t b e is = grind (arith, sym e ∙ ap (built_of S) is)

side-found : (S : Signature) (x : ℕ) (t : Term) (o : Option Built) (left : ℕ) → built_of S t ≡ o
    → Answers (λ found. IfSome found (IsPartOf S x)) (reduced_side S x t o left)
side-found S x t None left e = tt
side-found S x t (Some b) left e = by (is_acyclic b)
  where
    bounded : (found : Option Term) → IfSome found (IsFoundIn S b.n x t) → IfOk (bounded_found found) (λ found. IfSome found (IsPartOf S x))
    bounded None h = tt
    bounded (Some w) h =
        some_bounded-has (IsPartOf S x) w (elim h [
          | inl is ↦ absurd (not-built S x t b e is.0)
          | inr part ↦ (let known = (built-is S t b e).built.family in record { n = b.n; family = b.family; known = known; part = part b.family known })
        ])

    by : (c : Bool) → Answers (λ found. IfSome found (IsPartOf S x))
        (cond c (and_next (search_in S b.n x t left) (λ found rest. answered (bounded_found found) rest)) (not_found left))
    by true =
        and_next-has (λ found. IfSome found (IsFoundIn S b.n x t)) (λ found. IfSome found (IsPartOf S x)) (search_in S b.n x t left)
        (λ found rest. answered (bounded_found found) rest) (by_units-finds S b.n x left t left) (λ found rest h. bounded found h)
    by false = tt

-- ---- turns

-- a cycle has the variable on the left, or in the left side
abbrev pub SideIs : Signature → (x : ℕ) → (left right : Term) → Type 0
SideIs S x left right = (left ≡ Var x) ⊎ IsPartOf S x left

-- the last step of a turn that is an end
pub turn-side : (S : Signature) (s : State) (left rest : ℕ) (turn : Turn) → turn_of S s left ≡ answered (Ok (Some turn)) rest → LastSide (SideIs S) turn
turn-side S = sides.turn-side S (IsPartOf S) (SideIs S) (side-found S) (λ x w is. inl refl) (λ x w is. inr is)
