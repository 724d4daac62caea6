-- The answer of the checker is the same with more units.
use Rattle.std.proofs.Common.{ℕ, zero, suc, true, Result, Ok, Err, ◌∷◌}
use Rattle.theory.specs.Terms.{Term, subst}
use Rattle.theory.specs.Terms.Term.{Var, Sort, Pi, Lam, App, Let, Const}
use Rattle.theory.specs.Telescopes.{Context}
use Rattle.theory.specs.Signatures.{Signature}
use Rattle.core_terms.specs.Answers.{Spent, bounded, is_low}
use Rattle.core_terms.specs.Verdicts.{Verdict}
use Rattle.core_terms.specs.Verdicts.Reason.{NotAProduct}
use Rattle.core_terms.specs.Verdicts.Verdict.{Yes, No}
use Rattle.core_terms.specs.declared.stop.Stop.{Stop}
use Rattle.core_terms.specs.declared.stop.Stop.TheVariants.{Deep}
use Rattle.kernel_reduce.specs.Reduction.{whnf_of}
use Rattle.kernel_reduce.specs.Comparison.{subtype_of}
use Rattle.kernel_check.specs.Checking.{Asks, Checks, typed, denied, on_verdict, if_typed, verdict_behind, behind, greater_sort, infer_product, function_type, infer_function, reduced_product, product_of, apply_product, infer_application, infer_body, infer_local, leaf_type, infer_form, sort_of, compared, infer_of, infer_sort_of, check_of}
use Rattle.elim.specs.refusal_laws.unit_laws.Laws.{InferSteady, InferSortSteady, CheckSteady}
use Rattle.elim.specs.refusal_laws.unit_laws.Steady.{IsFuel, IsSteady}
use Rattle.elim.proofs.refusal_laws.unit_laws.Runs.{steady-now, steady-next, steady-charge, steady-low}
use Rattle.elim.proofs.refusal_laws.unit_laws.Reducing.{whnf-steady, subtype-steady}

now : {A : Type 0} (r : Result A Stop) → IsSteady IsFuel (λ left. (r, left))
now r = steady-now IsFuel r

-- a computation that goes on with a type is steady
abbrev GoesOn : (Term → ℕ → Spent Verdict) → Type 0
GoesOn next = (type : Term) → IsSteady IsFuel (next type)

on-verdict : (verdict : Verdict) (next : Term → ℕ → Spent Verdict) → GoesOn next → IsSteady IsFuel (λ left. on_verdict verdict left next)
on-verdict (Yes type) next h = h type
on-verdict (No denial) next h = now (Ok (No denial))

typed-steady : (first : ℕ → Spent Verdict) (next : Term → ℕ → Spent Verdict) → IsSteady IsFuel first → GoesOn next
    → IsSteady IsFuel (λ left. if_typed (first left) next)
typed-steady first next h k = steady-next IsFuel first _ h (λ verdict. on-verdict verdict next k)

behind-steady : (child : ℕ) (asked : ℕ → Spent Verdict) → IsSteady IsFuel asked → IsSteady IsFuel (λ left. behind child (asked left))
behind-steady child asked h = steady-next IsFuel asked _ h (λ verdict. now (Ok (verdict_behind child verdict)))

-- a child, and what goes on with its type
child-steady : (child : ℕ) (asked : ℕ → Spent Verdict) (next : Term → ℕ → Spent Verdict) → IsSteady IsFuel asked → GoesOn next
    → IsSteady IsFuel (λ left. if_typed (behind child (asked left)) next)
child-steady child asked next h k = typed-steady (λ left. behind child (asked left)) next (behind-steady child asked h) k

abbrev AskSteady : Asks → Type 0
AskSteady ask = (G : Context) (t : Term) → IsSteady IsFuel (ask G t)

abbrev CheckingSteady : Checks → Type 0
CheckingSteady check = (G : Context) (t wanted : Term) → IsSteady IsFuel (check G t wanted)

product-steady : (infer_sort : Asks) → AskSteady infer_sort → (G : Context) (a b : Term) → IsSteady IsFuel (infer_product infer_sort G a b)
product-steady infer_sort h G a b =
    child-steady 0 (infer_sort G a) _ (h G a) (λ i.
    child-steady 1 (infer_sort (a ∷ G) b) _ (h (a ∷ G) b) (λ j. now (typed (greater_sort i j))))

function-steady : (infer infer_sort : Asks) → AskSteady infer → AskSteady infer_sort → (G : Context) (a b : Term)
    → IsSteady IsFuel (infer_function infer infer_sort G a b)
function-steady infer infer_sort h k G a b =
    child-steady 0 (infer_sort G a) _ (k G a) (λ i.
    child-steady 1 (infer (a ∷ G) b) _ (h (a ∷ G) b) (λ c. now (function_type G a c)))

reduced-steady : (infer_sort : Asks) → AskSteady infer_sort → (G : Context) (c : Term) → IsSteady IsFuel (reduced_product infer_sort G c)
reduced-steady infer_sort h G (Pi a b) = child-steady 0 (infer_sort G (Pi a b)) _ (h G (Pi a b)) (λ i. now (Ok (Yes (Pi a b))))
reduced-steady infer_sort h G (Var n) = now (denied G (NotAProduct (Var n)))
reduced-steady infer_sort h G c = now (denied G (NotAProduct c))

product_of-steady : (S : Signature) (infer_sort : Asks) → AskSteady infer_sort → (G : Context) (c : Term) → IsSteady IsFuel (product_of S infer_sort G c)
product_of-steady S infer_sort h G (Pi a b) = now (Ok (Yes (Pi a b)))
product_of-steady S infer_sort h G (Var n) =
    steady-next IsFuel (λ left. whnf_of S true left (Var n)) _ (whnf-steady S true (Var n)) (reduced-steady infer_sort h G)
product_of-steady S infer_sort h G c =
    steady-next IsFuel (λ left. whnf_of S true left c) _ (whnf-steady S true c) (reduced-steady infer_sort h G)

apply-steady : (check : Checks) → CheckingSteady check → (G : Context) (u c : Term) → IsSteady IsFuel (apply_product check G u c)
apply-steady check h G u (Pi a b) = child-steady 1 (check G u a) _ (h G u a) (λ found. now (typed (subst b 0 u)))
apply-steady check h G u (Var n) = now (denied G (NotAProduct (Var n)))
apply-steady check h G u c = now (denied G (NotAProduct c))

application-steady : (S : Signature) (infer infer_sort : Asks) (check : Checks) → AskSteady infer → AskSteady infer_sort → CheckingSteady check
    → (G : Context) (f u : Term) → IsSteady IsFuel (infer_application S infer infer_sort check G f u)
application-steady S infer infer_sort check h k l G f u =
    child-steady 0 (infer G f) _ (h G f) (λ c.
    typed-steady (product_of S infer_sort G c) (apply_product check G u) (product_of-steady S infer_sort k G c) (apply-steady check l G u))

body-steady : (infer : Asks) → AskSteady infer → (G : Context) (made : Term) → IsSteady IsFuel (infer_body infer G made)
body-steady infer h G made =
    steady-next IsFuel (λ left. (bounded made, left)) _ (now (bounded made)) (λ body. behind-steady 2 (infer G body) (h G body))

local-steady : (infer infer_sort : Asks) (check : Checks) → AskSteady infer → AskSteady infer_sort → CheckingSteady check
    → (G : Context) (a t b : Term) → IsSteady IsFuel (infer_local infer infer_sort check G a t b)
local-steady infer infer_sort check h k l G a t b =
    child-steady 0 (infer_sort G a) _ (k G a) (λ i.
    child-steady 1 (check G t a) _ (l G t a) (λ found. body-steady infer h G (subst b 0 t)))

form-steady : (S : Signature) (infer infer_sort : Asks) (check : Checks) → AskSteady infer → AskSteady infer_sort → CheckingSteady check
    → AskSteady (infer_form S infer infer_sort check)
form-steady S infer infer_sort check h k l G (Var n) = now (leaf_type S G (Var n))
form-steady S infer infer_sort check h k l G (Sort i) = now (leaf_type S G (Sort i))
form-steady S infer infer_sort check h k l G (Pi a b) = product-steady infer_sort k G a b
form-steady S infer infer_sort check h k l G (Lam a b) = function-steady infer infer_sort h k G a b
form-steady S infer infer_sort check h k l G (App f u) = application-steady S infer infer_sort check h k l G f u
form-steady S infer infer_sort check h k l G (Let a t b) = local-steady infer infer_sort check h k l G a t b
form-steady S infer infer_sort check h k l G (Const n) = now (leaf_type S G (Const n))
form-steady S infer infer_sort check h k l G s = now (leaf_type S G s)

mutual
  pub infer-steady : InferSteady
  infer-steady S zero G t = now (Err Deep)
  infer-steady S (suc room) G t =
      steady-low (is_low t) _
      (steady-charge _ (form-steady S (infer_of S room) (infer_sort_of S room) (check_of S room)
      (infer-steady S room) (infer_sort-steady S room) (check-steady S room) G t))

  pub infer_sort-steady : InferSortSteady
  infer_sort-steady S zero G t = now (Err Deep)
  infer_sort-steady S (suc room) G t =
      typed-steady (infer_of S room G t) _ (infer-steady S room G t) (λ c.
      steady-next IsFuel (λ left. whnf_of S true left c) _ (whnf-steady S true c) (λ u. now (sort_of G u)))

  pub check-steady : CheckSteady
  check-steady S zero G t wanted = now (Err Deep)
  check-steady S (suc room) G t wanted =
      typed-steady (infer_of S room G t) _ (infer-steady S room G t) (λ found.
      steady-next IsFuel (subtype_of S room found wanted) _ (subtype-steady S room found wanted) (λ holds. now (compared G found wanted holds)))
