-- The checker with units: each call of `infer` costs one, beside what reduction and comparison cost. Fuel comes where a
-- unit is needed and none is left. Deep comes where a term higher than 2,000 is given or made, and where a call would be
-- the 2,001st of those that are open at once.
use Rattle.std.specs.Prelude.{ℕ, zero, suc, ◌+◌, Bool, true, false, cond, ◌==◌, nat_lt, Option, Some, None, Result, Ok, Err, [], ◌∷◌, reverse, max, slice_get}
use Rattle.theory.specs.Terms.{Term, Var, Sort, Pi, Lam, App, Let, lift, subst, top}
use Rattle.theory.specs.Telescopes.{Context}
use Rattle.theory.specs.Signatures.{Signature}
use Rattle.core_terms.specs.Answers.{Spent, bounded, and_next, is_low}
use Rattle.core_terms.specs.Verdicts.{Denial, Reason, Mismatch, NotAProduct, NotASort, NoSuchInstance, LevelTooHigh, Verdict, Yes, No}
use Rattle.core_terms.specs.declared.stop.Stop.{Stop}
use Rattle.core_terms.specs.declared.stop.Stop.TheVariants.{Deep}
use Rattle.kernel_reduce.specs.Reduction.{answered, charge, if_low, whnf_of}
use Rattle.kernel_reduce.specs.Comparison.{subtype_of}
use Rattle.kernel_check.specs.Symbols.{symbol_type}

-- a call that asks for a type of a term in a context, with the units that are left
abbrev pub Asks : Type 0
Asks = Context → Term → ℕ → Spent Verdict

-- a call that checks a term against a type in a context
abbrev pub Checks : Type 0
Checks = Context → Term → Term → ℕ → Spent Verdict

-- a term that was made is the type, unless it is too high
abbrev pub yes_of : Result Term Stop → Result Verdict Stop
yes_of (Ok type) = Ok (Yes type)
yes_of (Err e) = Err e

abbrev pub typed : Term → Result Verdict Stop
typed made = yes_of (bounded made)

-- the term itself is rejected
abbrev pub denied : Context → Reason → Result Verdict Stop
denied G reason = Ok (No (record { place = []; ctx = reverse G; reason = reason }))

-- `next` goes on with the type, unless there is a denial
abbrev pub on_verdict : Verdict → ℕ → (Term → ℕ → Spent Verdict) → Spent Verdict
on_verdict (Yes type) left next = next type left
on_verdict (No denial) left next = answered (Ok (No denial)) left

abbrev pub if_typed : Spent Verdict → (Term → ℕ → Spent Verdict) → Spent Verdict
if_typed first next = and_next first (λ verdict left. on_verdict verdict left next)

-- a denial in a child has its place after the number of the child
abbrev pub denial_behind : ℕ → Denial → Denial
denial_behind child denial = record denial { place = child ∷ denial.place }

abbrev pub verdict_behind : ℕ → Verdict → Verdict
verdict_behind child (Yes type) = Yes type
verdict_behind child (No denial) = No (denial_behind child denial)

abbrev pub behind : ℕ → Spent Verdict → Spent Verdict
behind child asked = and_next asked (λ verdict left. answered (Ok (verdict_behind child verdict)) left)

-- a variable has the type that the context gives it, lifted to the whole context
abbrev pub variable_type : Context → ℕ → Option Term → Result Verdict Stop
variable_type G n (Some a) = typed (lift a (n + 1) 0)
variable_type G n None = denied G NoSuchInstance

-- a sort below Type top has the next one
abbrev pub universe_type : Context → ℕ → Result Verdict Stop
universe_type G i = cond (nat_lt i top) (typed (Sort (i + 1))) (denied G LevelTooHigh)

-- the greater one of two sorts
abbrev pub greater_sort : Term → Term → Term
greater_sort (Sort i) (Sort j) = Sort (max i j)
greater_sort a b = a

abbrev pub infer_product : Asks → Context → Term → Term → ℕ → Spent Verdict
infer_product infer_sort G a b left =
    if_typed (behind 0 (infer_sort G a left)) (λ i rest.
    if_typed (behind 1 (infer_sort (a ∷ G) b rest)) (λ j end. answered (typed (greater_sort i j)) end))

-- syntactically the sort that has no type
abbrev pub is_top : Term → Bool
is_top (Sort i) = i == top
is_top _ = false

-- a function whose body has the type b
abbrev pub function_type : Context → Term → Term → Result Verdict Stop
function_type G a b = cond (is_top b) (denied G LevelTooHigh) (typed (Pi a b))

abbrev pub infer_function : Asks → Asks → Context → Term → Term → ℕ → Spent Verdict
infer_function infer infer_sort G a b left =
    if_typed (behind 0 (infer_sort G a left)) (λ i rest.
    if_typed (behind 1 (infer (a ∷ G) b rest)) (λ c end. answered (function_type G a c) end))

-- the reduced type of a function: it must be a product, and must have a sort
abbrev pub reduced_product : Asks → Context → Term → ℕ → Spent Verdict
reduced_product infer_sort G (Pi a b) left =
    if_typed (behind 0 (infer_sort G (Pi a b) left)) (λ i end. answered (Ok (Yes (Pi a b))) end)
reduced_product infer_sort G c left = answered (denied G (NotAProduct c)) left

-- the product that is a function's type, syntactically or reduced at its head
abbrev pub product_of : Signature → Asks → Context → Term → ℕ → Spent Verdict
product_of S infer_sort G (Pi a b) left = answered (Ok (Yes (Pi a b))) left
product_of S infer_sort G c left = and_next (whnf_of S true left c) (reduced_product infer_sort G)

-- the argument u of a function whose type is a product
abbrev pub apply_product : Checks → Context → Term → Term → ℕ → Spent Verdict
apply_product check G u (Pi a b) left = if_typed (behind 1 (check G u a left)) (λ found end. answered (typed (subst b 0 u)) end)
apply_product check G u c left = answered (denied G (NotAProduct c)) left

abbrev pub infer_application : Signature → Asks → Asks → Checks → Context → Term → Term → ℕ → Spent Verdict
infer_application S infer infer_sort check G f u left =
    if_typed (behind 0 (infer G f left)) (λ c rest.
    if_typed (product_of S infer_sort G c rest) (apply_product check G u))

-- the body of a `let`, with the value in the variable's place
abbrev pub infer_body : Asks → Context → Term → ℕ → Spent Verdict
infer_body infer G made left = and_next (answered (bounded made) left) (λ body end. behind 2 (infer G body end))

abbrev pub infer_local : Asks → Asks → Checks → Context → Term → Term → Term → ℕ → Spent Verdict
infer_local infer infer_sort check G a t b left =
    if_typed (behind 0 (infer_sort G a left)) (λ i rest.
    if_typed (behind 1 (check G t a rest)) (λ found end. infer_body infer G (subst b 0 t) end))

-- a symbol has the type that the signature gives it
abbrev pub given_type : Context → Option Term → Result Verdict Stop
given_type G (Some type) = typed type
given_type G None = denied G NoSuchInstance

-- the type of a variable, a sort or a symbol
abbrev pub leaf_type : Signature → Context → Term → Result Verdict Stop
leaf_type S G (Var n) = variable_type G n (slice_get G n)
leaf_type S G (Sort i) = universe_type G i
leaf_type S G symbol = given_type G (symbol_type S symbol)

-- the type of a term by its form, once a unit is spent
abbrev pub infer_form : Signature → Asks → Asks → Checks → Context → Term → ℕ → Spent Verdict
infer_form S infer infer_sort check G (Pi a b) left = infer_product infer_sort G a b left
infer_form S infer infer_sort check G (Lam a b) left = infer_function infer infer_sort G a b left
infer_form S infer infer_sort check G (App f u) left = infer_application S infer infer_sort check G f u left
infer_form S infer infer_sort check G (Let a t b) left = infer_local infer infer_sort check G a t b left
infer_form S infer infer_sort check G leaf left = answered (leaf_type S G leaf) left

-- the reduced type of a term that is to have a sort
abbrev pub sort_of : Context → Term → Result Verdict Stop
sort_of G (Sort i) = Ok (Yes (Sort i))
sort_of G c = denied G (NotASort c)

-- the type that was found, where it is below the wanted one
abbrev pub compared : Context → Term → Term → Bool → Result Verdict Stop
compared G found wanted true = Ok (Yes found)
compared G found wanted false = denied G (Mismatch found wanted)

abbrev mutual
  -- a type of a term, where `room` calls may be open
  pub infer_of : Signature → ℕ → Asks
  infer_of S zero G t left = answered (Err Deep) left
  infer_of S (suc room) G t left =
      if_low (is_low t) (charge (infer_form S (infer_of S room) (infer_sort_of S room) (check_of S room) G t)) left

  -- the sort of a term that is a type
  pub infer_sort_of : Signature → ℕ → Asks
  infer_sort_of S zero G t left = answered (Err Deep) left
  infer_sort_of S (suc room) G t left =
      if_typed (infer_of S room G t left) (λ c rest. and_next (whnf_of S true rest c) (λ u end. answered (sort_of G u) end))

  -- the type of a term that is to have the type `wanted`: the one that is inferred, which must be below
  pub check_of : Signature → ℕ → Checks
  check_of S zero G t wanted left = answered (Err Deep) left
  check_of S (suc room) G t wanted left =
      if_typed (infer_of S room G t left) (λ found rest.
      and_next (subtype_of S room found wanted rest) (λ holds end. answered (compared G found wanted holds) end))
