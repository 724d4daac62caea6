-- The checker answers types that are no higher than terms may be, only for such terms, and sorts for types.
use Rattle.std.proofs.Common.{ℕ, ◌+◌, ◌≤◌, zero, suc, Bool, true, false, cond, nat_lt, Option, Some, None, Ok, Err, Result, IfOk, ◌∷◌, slice_get, refl, arith}
use Rattle.theory.specs.Terms.{Term, lift, subst, height, top}
use Rattle.theory.specs.Terms.Term.{Var, Sort, Pi, Lam, App, Let, Const}
use Rattle.theory.specs.Telescopes.{Context}
use Rattle.theory.specs.Signatures.{Signature}
use Rattle.core_terms.specs.Answers.{Spent, bounded, is_low}
use Rattle.core_terms.specs.Verdicts.{Denial, Verdict}
use Rattle.core_terms.specs.Verdicts.Verdict.{Yes, No}
use Rattle.core_terms.specs.Verdicts.Reason.{LevelTooHigh}
use Rattle.core_terms.specs.declared.stop.Stop.{Stop}
use Rattle.kernel_reduce.specs.Reduction.{answered, whnf_of}
use Rattle.kernel_reduce.specs.Comparison.{subtype_of}
use Rattle.core_terms.proofs.Answers.{Answers, low-is, and_next-has, bounded-has}
use Rattle.kernel_reduce.proofs.Answers.{charge-has, if_low-has}
use Rattle.kernel_check.specs.Symbols.{symbol_type}
use Rattle.kernel_check.specs.Checking.{Asks, Checks, yes_of, typed as of_type, denied, if_typed, behind, variable_type, universe_type, greater_sort, infer_product, is_top, function_type, infer_function, product_of, apply_product, infer_application, infer_local, given_type, leaf_type, infer_form, sort_of, compared, infer_of, infer_sort_of, check_of}
use Rattle.kernel_check.specs.Laws.{IfYes, AreBothLow, IsSort, InferIsLow, InferSortIsLow, CheckIsLow, InferSortIsSort}
use Rattle.kernel_check.proofs.Parts.{Splits, if_typed-splits, behind-splits, child-splits}

abbrev IsLow : Term → Type 0
IsLow t = height t ≤ 2000

abbrev AnyType : Term → Type 0
AnyType t = Unit {0}

abbrev AnyDenial : Denial → Type 0
AnyDenial denial = Unit {0}

any-verdict : (r : Result Verdict Stop) → IfOk r (Splits AnyType AnyDenial)
any-verdict (Ok (Yes type)) = tt
any-verdict (Ok (No denial)) = tt
any-verdict (Err e) = tt

any-answer : {A : Type 0} (r : Result A Stop) → IfOk r (λ a. Unit {0})
any-answer (Ok a) = tt
any-answer (Err e) = tt

abbrev LowOk : Result Verdict Stop → Type 0
LowOk r = IfOk r (Splits IsLow AnyDenial)

abbrev Lows : Spent Verdict → Type 0
Lows r = Answers (Splits IsLow AnyDenial) r

of_type-low : (made : Term) → LowOk (of_type made)
of_type-low made = by_case (bounded made) (bounded-has IsLow made (λ low. low))
  where
    by_case : (r : Result Term Stop) → IfOk r IsLow → LowOk (yes_of r)
    by_case (Ok type) k = k
    by_case (Err e) k = tt

-- whatever a child's verdict is
child-low : (child : ℕ) (asked : Spent Verdict) (next : Term → ℕ → Spent Verdict) → ((type : Term) (rest : ℕ) → Lows (next type rest))
    → Lows (if_typed (behind child asked) next)
child-low child asked next k =
    child-splits AnyType IsLow AnyDenial AnyDenial child asked next (λ denial d. tt) (any-verdict asked.0) (λ type rest any. k type rest)

variable-low : (G : Context) (n : ℕ) (o : Option Term) → LowOk (variable_type G n o)
variable-low G n (Some a) = of_type-low (lift a (n + 1) 0)
variable-low G n None = tt

universe-low : (G : Context) (i : ℕ) → LowOk (universe_type G i)
universe-low G i = by_case (nat_lt i top)
  where
    by_case : (b : Bool) → LowOk (cond b (of_type (Sort (i + 1))) (denied G LevelTooHigh))
    by_case true = of_type-low (Sort (i + 1))
    by_case false = tt

given-low : (G : Context) (o : Option Term) → LowOk (given_type G o)
given-low G (Some a) = of_type-low a
given-low G None = tt

leaf-low : (S : Signature) (G : Context) (t : Term) → LowOk (leaf_type S G t)
leaf-low S G (Var n) = variable-low G n (slice_get G n)
leaf-low S G (Sort i) = universe-low G i
leaf-low S G (Const n) = given-low G (symbol_type S (Const n))
leaf-low S G s = given-low G (symbol_type S s)

product-low : (infer_sort : Asks) (G : Context) (a b : Term) (left : ℕ) → Lows (infer_product infer_sort G a b left)
product-low infer_sort G a b left =
    child-low 0 (infer_sort G a left) _ (λ i rest.
    child-low 1 (infer_sort (a ∷ G) b rest) _ (λ j end. of_type-low (greater_sort i j)))

function_type-low : (G : Context) (a c : Term) → LowOk (function_type G a c)
function_type-low G a c = by_case (is_top c)
  where
    by_case : (b : Bool) → LowOk (cond b (denied G LevelTooHigh) (of_type (Pi a c)))
    by_case true = tt
    by_case false = of_type-low (Pi a c)

function-low : (infer infer_sort : Asks) (G : Context) (a b : Term) (left : ℕ) → Lows (infer_function infer infer_sort G a b left)
function-low infer infer_sort G a b left =
    child-low 0 (infer_sort G a left) _ (λ i rest.
    child-low 1 (infer (a ∷ G) b rest) _ (λ c end. function_type-low G a c))

apply-low : (check : Checks) (G : Context) (u c : Term) (left : ℕ) → Lows (apply_product check G u c left)
apply-low check G u (Pi a b) left = child-low 1 (check G u a left) _ (λ found end. of_type-low (subst b 0 u))
apply-low check G u (Var n) left = tt
apply-low check G u c left = tt

application-low : (S : Signature) (infer infer_sort : Asks) (check : Checks) (G : Context) (f u : Term) (left : ℕ)
    → Lows (infer_application S infer infer_sort check G f u left)
application-low S infer infer_sort check G f u left =
    child-low 0 (infer G f left) _ (λ c rest.
    if_typed-splits AnyType IsLow AnyDenial (product_of S infer_sort G c rest) (apply_product check G u)
    (any-verdict (product_of S infer_sort G c rest).0) (λ d end any. apply-low check G u d end))

AskIsLow : Asks → Type 0
AskIsLow ask = (G : Context) (t : Term) (left : ℕ) → Lows (ask G t left)

local-low : (infer infer_sort : Asks) (check : Checks) → AskIsLow infer → (G : Context) (a t b : Term) (left : ℕ)
    → Lows (infer_local infer infer_sort check G a t b left)
unfolding AskIsLow
local-low infer infer_sort check h G a t b left =
    child-low 0 (infer_sort G a left) _ (λ i rest.
    child-low 1 (check G t a rest) _ (λ found end.
    and_next-has AnyType (Splits IsLow AnyDenial) (answered (bounded (subst b 0 t)) end) _ (any-answer (bounded (subst b 0 t))) (λ body last any.
    behind-splits IsLow AnyDenial AnyDenial 2 (infer G body last) (λ denial d. tt) (h G body last))))

form-low : (S : Signature) (infer infer_sort : Asks) (check : Checks) → AskIsLow infer → AskIsLow (infer_form S infer infer_sort check)
unfolding AskIsLow
form-low S infer infer_sort check h G (Pi a b) left = product-low infer_sort G a b left
form-low S infer infer_sort check h G (Lam a b) left = function-low infer infer_sort G a b left
form-low S infer infer_sort check h G (App f u) left = application-low S infer infer_sort check G f u left
form-low S infer infer_sort check h G (Let a t b) left = local-low infer infer_sort check h G a t b left
form-low S infer infer_sort check h G (Var n) left = leaf-low S G (Var n)
form-low S infer infer_sort check h G t left = leaf-low S G t

infer-low : (S : Signature) (room : ℕ) → AskIsLow (infer_of S room)
unfolding AskIsLow
infer-low S zero G t left = tt
infer-low S (suc room) G t left =
    if_low-has (Splits IsLow AnyDenial) (is_low t) _ left (λ low.
    charge-has (Splits IsLow AnyDenial) _ left (λ rest.
    form-low S (infer_of S room) (infer_sort_of S room) (check_of S room) (infer-low S room) G t rest))

-- only a low term has a type
both-low : (t : Term) (r : Result Verdict Stop) → height t ≤ 2000 → LowOk r → IfOk r (Splits (AreBothLow t) AnyDenial)
both-low t (Ok (Yes type)) low h = record { term = low; type = h }
both-low t (Ok (No denial)) low h = tt
both-low t (Err e) low h = tt

infer-both_low : (S : Signature) (room : ℕ) (G : Context) (t : Term) (left : ℕ) → Answers (Splits (AreBothLow t) AnyDenial) (infer_of S room G t left)
unfolding AskIsLow
infer-both_low S zero G t left = tt
infer-both_low S (suc room) G t left =
    if_low-has (Splits (AreBothLow t) AnyDenial) (is_low t) _ left (λ low.
    charge-has (Splits (AreBothLow t) AnyDenial) _ left (λ rest.
    both-low t (infer_form S (infer_of S room) (infer_sort_of S room) (check_of S room) G t rest).0 (low-is t low)
    (form-low S (infer_of S room) (infer_sort_of S room) (check_of S room) (infer-low S room) G t rest)))

-- a sort that is low and stands for a low term
LowSort : Term → Term → Type 0
LowSort t type = AreBothLow t type × IsSort type

sort_of-low : (G : Context) (t c : Term) → height t ≤ 2000 → IfOk (sort_of G c) (Splits (LowSort t) AnyDenial)
unfolding LowSort
sort_of-low G t (Sort i) low = (record { term = low; type = omega arith }, (i, refl))
sort_of-low G t (Var n) low = tt
sort_of-low G t c low = tt

infer_sort-low : (S : Signature) (room : ℕ) (G : Context) (t : Term) (left : ℕ) → Answers (Splits (LowSort t) AnyDenial) (infer_sort_of S room G t left)
infer_sort-low S zero G t left = tt
infer_sort-low S (suc room) G t left =
    if_typed-splits (AreBothLow t) (LowSort t) AnyDenial (infer_of S room G t left) _ (infer-both_low S room G t left) (λ c rest hc.
    and_next-has AnyType (Splits (LowSort t) AnyDenial) (whnf_of S true rest c) _ (any-answer (whnf_of S true rest c).0) (λ d end any.
    sort_of-low G t d hc.term))

compared-low : (G : Context) (t found wanted : Term) (holds : Bool) → AreBothLow t found → IfOk (compared G found wanted holds) (Splits (AreBothLow t) AnyDenial)
compared-low G t found wanted true h = h
compared-low G t found wanted false h = tt

-- ---- the words of the laws

yes-has : (P Q : Term → Type 0) (r : Result Verdict Stop) → ((type : Term) → P type → Q type) → IfOk r (Splits P AnyDenial) → IfOk r (λ verdict. IfYes verdict Q)
yes-has P Q (Ok (Yes type)) f h = f type h
yes-has P Q (Ok (No denial)) f h = tt
yes-has P Q (Err e) f h = tt

pub infer-is_low : InferIsLow
infer-is_low S room G t left = yes-has (AreBothLow t) (AreBothLow t) (infer_of S room G t left).0 (λ type h. h) (infer-both_low S room G t left)

pub infer_sort-is_low : InferSortIsLow
unfolding LowSort
infer_sort-is_low S room G t left = yes-has (LowSort t) (AreBothLow t) (infer_sort_of S room G t left).0 (λ type h. h.0) (infer_sort-low S room G t left)

pub infer_sort-is_sort : InferSortIsSort
unfolding LowSort
infer_sort-is_sort S room G t left = yes-has (LowSort t) IsSort (infer_sort_of S room G t left).0 (λ type h. h.1) (infer_sort-low S room G t left)

pub check-is_low : CheckIsLow
check-is_low S zero G t wanted left = tt
check-is_low S (suc room) G t wanted left =
    yes-has (AreBothLow t) (AreBothLow t) (check_of S (suc room) G t wanted left).0 (λ type h. h)
    (if_typed-splits (AreBothLow t) (AreBothLow t) AnyDenial (infer_of S room G t left) _ (infer-both_low S room G t left) (λ found rest hf.
    and_next-has (λ holds. Unit {0}) (Splits (AreBothLow t) AnyDenial) (subtype_of S room found wanted rest) _ (any-answer (subtype_of S room found wanted rest).0)
    (λ holds end any. compared-low G t found wanted holds hf)))
