-- No call of the checker gives units back.
use Rattle.std.proofs.Common.{ℕ, ◌≤◌, zero, suc, true, Ok, ◌∷◌, arith}
use Rattle.theory.specs.Terms.{Term, subst}
use Rattle.theory.specs.Terms.Term.{Var, Sort, Pi, Lam, App, Let, Const}
use Rattle.theory.specs.Telescopes.{Context}
use Rattle.theory.specs.Signatures.{Signature}
use Rattle.core_terms.specs.Answers.{bounded, is_low}
use Rattle.core_terms.specs.Verdicts.Verdict.{Yes}
use Rattle.kernel_reduce.specs.Reduction.{answered, whnf_of}
use Rattle.kernel_reduce.specs.Comparison.{subtype_of}
use Rattle.core_terms.proofs.Answers.{and_next-spends}
use Rattle.kernel_reduce.proofs.Answers.{charge-spends, if_low-spends}
use Rattle.kernel_reduce.proofs.ReductionLaws.{whnf-spends}
use Rattle.kernel_reduce.proofs.ComparisonLaws.{subtype-spends}
use Rattle.kernel_check.specs.Checking.{Asks, Checks, infer_product, infer_function, reduced_product, product_of, apply_product, infer_application, infer_body, infer_local, infer_form, infer_of, infer_sort_of, check_of}
use Rattle.kernel_check.specs.Laws.{InferSpends, InferSortSpends, CheckSpends}
use Rattle.kernel_check.proofs.Parts.{if_typed-spends, behind-spends, child-spends}

abbrev AskSpends : Asks → Type 0
AskSpends ask = (G : Context) (t : Term) (left : ℕ) → (ask G t left).1 ≤ left

abbrev CheckingSpends : Checks → Type 0
CheckingSpends check = (G : Context) (t wanted : Term) (left : ℕ) → (check G t wanted left).1 ≤ left

product-spends : (infer_sort : Asks) → AskSpends infer_sort → (G : Context) (a b : Term) (left : ℕ) → (infer_product infer_sort G a b left).1 ≤ left
product-spends infer_sort h G a b left =
    child-spends 0 (infer_sort G a left) _ left (h G a left) (λ i rest.
    child-spends 1 (infer_sort (a ∷ G) b rest) _ rest (h (a ∷ G) b rest) (λ j end. omega arith))

function-spends : (infer infer_sort : Asks) → AskSpends infer → AskSpends infer_sort → (G : Context) (a b : Term) (left : ℕ)
    → (infer_function infer infer_sort G a b left).1 ≤ left
function-spends infer infer_sort h k G a b left =
    child-spends 0 (infer_sort G a left) _ left (k G a left) (λ i rest.
    child-spends 1 (infer (a ∷ G) b rest) _ rest (h (a ∷ G) b rest) (λ c end. omega arith))

reduced-spends : (infer_sort : Asks) → AskSpends infer_sort → (G : Context) (c : Term) (left : ℕ) → (reduced_product infer_sort G c left).1 ≤ left
reduced-spends infer_sort h G (Pi a b) left =
    child-spends 0 (infer_sort G (Pi a b) left) (λ i end. answered (Ok (Yes (Pi a b))) end) left (h G (Pi a b) left) (λ i end. omega arith)
reduced-spends infer_sort h G (Var n) left = omega arith
reduced-spends infer_sort h G _ left = omega arith

product_of-spends : (S : Signature) (infer_sort : Asks) → AskSpends infer_sort → (G : Context) (c : Term) (left : ℕ)
    → (product_of S infer_sort G c left).1 ≤ left
product_of-spends S infer_sort h G (Pi a b) left = omega arith
product_of-spends S infer_sort h G (Var n) left =
    and_next-spends (whnf_of S true left (Var n)) _ left (whnf-spends S true left (Var n)) (reduced-spends infer_sort h G)
product_of-spends S infer_sort h G c left =
    and_next-spends (whnf_of S true left c) _ left (whnf-spends S true left c) (reduced-spends infer_sort h G)

apply-spends : (check : Checks) → CheckingSpends check → (G : Context) (u c : Term) (left : ℕ) → (apply_product check G u c left).1 ≤ left
apply-spends check h G u (Pi a b) left =
    child-spends 1 (check G u a left) _ left (h G u a left) (λ found end. omega arith)
apply-spends check h G u (Var n) left = omega arith
apply-spends check h G u _ left = omega arith

application-spends : (S : Signature) (infer infer_sort : Asks) (check : Checks) → AskSpends infer → AskSpends infer_sort → CheckingSpends check
    → (G : Context) (f u : Term) (left : ℕ) → (infer_application S infer infer_sort check G f u left).1 ≤ left
application-spends S infer infer_sort check h k l G f u left =
    child-spends 0 (infer G f left) _ left (h G f left) (λ c rest.
    if_typed-spends (product_of S infer_sort G c rest) (apply_product check G u) rest (product_of-spends S infer_sort k G c rest) (apply-spends check l G u))

body-spends : (infer : Asks) → AskSpends infer → (G : Context) (made : Term) (left : ℕ) → (infer_body infer G made left).1 ≤ left
body-spends infer h G made left =
    and_next-spends (answered (bounded made) left) _ left (omega arith) (λ body end. behind-spends 2 (infer G body end) end (h G body end))

local-spends : (infer infer_sort : Asks) (check : Checks) → AskSpends infer → AskSpends infer_sort → CheckingSpends check
    → (G : Context) (a t b : Term) (left : ℕ) → (infer_local infer infer_sort check G a t b left).1 ≤ left
local-spends infer infer_sort check h k l G a t b left =
    child-spends 0 (infer_sort G a left) _ left (k G a left) (λ i rest.
    child-spends 1 (check G t a rest) _ rest (l G t a rest) (λ found end. body-spends infer h G (subst b 0 t) end))

form-spends : (S : Signature) (infer infer_sort : Asks) (check : Checks) → AskSpends infer → AskSpends infer_sort → CheckingSpends check
    → AskSpends (infer_form S infer infer_sort check)
form-spends S infer infer_sort check h k l G (Var n) left = omega arith
form-spends S infer infer_sort check h k l G (Sort i) left = omega arith
form-spends S infer infer_sort check h k l G (Pi a b) left = product-spends infer_sort k G a b left
form-spends S infer infer_sort check h k l G (Lam a b) left = function-spends infer infer_sort h k G a b left
form-spends S infer infer_sort check h k l G (App f u) left = application-spends S infer infer_sort check h k l G f u left
form-spends S infer infer_sort check h k l G (Let a t b) left = local-spends infer infer_sort check h k l G a t b left
form-spends S infer infer_sort check h k l G (Const n) left = omega arith
form-spends S infer infer_sort check h k l G s left = omega arith

mutual
  pub infer-spends : InferSpends
  infer-spends S zero G t left = omega arith
  infer-spends S (suc room) G t left =
      if_low-spends (is_low t) _ left
      (charge-spends _ left (form-spends S (infer_of S room) (infer_sort_of S room) (check_of S room)
      (infer-spends S room) (infer_sort-spends S room) (check-spends S room) G t))

  pub infer_sort-spends : InferSortSpends
  infer_sort-spends S zero G t left = omega arith
  infer_sort-spends S (suc room) G t left =
      if_typed-spends (infer_of S room G t left) _ left (infer-spends S room G t left) (λ c rest.
      and_next-spends (whnf_of S true rest c) _ rest (whnf-spends S true rest c) (λ u end. omega arith))

  pub check-spends : CheckSpends
  check-spends S zero G t wanted left = omega arith
  check-spends S (suc room) G t wanted left =
      if_typed-spends (infer_of S room G t left) _ left (infer-spends S room G t left) (λ found rest.
      and_next-spends (subtype_of S room found wanted rest) _ rest (subtype-spends S room found wanted rest) (λ holds end. omega arith))
