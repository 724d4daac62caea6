-- A type that is products ending in a sort has a sort only where that sort is below top.
use Rattle.std.proofs.Common.{◌≡◌, ℕ, ◌+◌, ◌<◌, zero, suc, Bool, true, false, cond, nat_lt, Result, Ok, Err, IfOk, ◌∷◌, refl, ap, arith}
use Rattle.std.proofs.lemmas.Bool.Decides.{nat_tests}
use Rattle.theory.specs.Terms.{Term, top}
use Rattle.theory.specs.Terms.Term.{Var, Sort, Pi}
use Rattle.theory.specs.Telescopes.{Context}
use Rattle.theory.specs.Signatures.{Signature}
use Rattle.core_terms.specs.Answers.{Spent, is_low}
use Rattle.core_terms.specs.Verdicts.{Denial, Verdict}
use Rattle.core_terms.specs.Verdicts.Verdict.{Yes, No}
use Rattle.core_terms.specs.Verdicts.Reason.{LevelTooHigh}
use Rattle.core_terms.specs.declared.stop.Stop.{Stop}
use Rattle.kernel_reduce.specs.Reduction.{whnf_of}
use Rattle.core_terms.proofs.Answers.{Answers, and_next-has}
use Rattle.kernel_reduce.proofs.Answers.{charge-has, if_low-has}
use Rattle.kernel_check.specs.Checking.{typed, denied, universe_type, greater_sort, sort_of, infer_form, infer_of, infer_sort_of, check_of}
use Rattle.kernel_check.specs.Laws.{IfYes}
use Rattle.kernel_check.proofs.Parts.{Splits, if_typed-splits, child-splits}
use Rattle.core_terms.specs.Telescopes.{end_of}
use Rattle.family_check.specs.Families.{sort_level}

-- the sort at the end is below top
abbrev pub EndsBelow : Term → Term → Type 0
EndsBelow t type = (level : ℕ) → end_of t ≡ Sort level → level < top

NoClaim : Denial → Type 0
NoClaim denial = Unit {0}

abbrev Says : Term → Spent Verdict → Type 0
Says t r = Answers (Splits (EndsBelow t) NoClaim) r

-- a property of every type
every : (P : Term → Type 0) → ((type : Term) → P type) → (r : Result Verdict Stop) → IfOk r (Splits P NoClaim)
unfolding NoClaim
every P h (Ok (Yes type)) = h type
every P h (Ok (No denial)) = tt
every P h (Err e) = tt

abbrev AnyType : Term → Type 0
AnyType type = Unit {0}

any : (r : Result Term Stop) → IfOk r AnyType
any (Ok type) = tt
any (Err e) = tt

universe-ends : (G : Context) (i : ℕ) → IfOk (universe_type G i) (Splits (EndsBelow (Sort i)) NoClaim)
unfolding NoClaim
universe-ends G i = by_case (nat_lt i top) refl
  where
    by_case : (b : Bool) → nat_lt i top ≡ b → IfOk (cond b (typed (Sort (i + 1))) (denied G LevelTooHigh)) (Splits (EndsBelow (Sort i)) NoClaim)
    by_case true e = every (EndsBelow (Sort i)) (λ type level same. let k : i ≡ level = ap sort_level same in let lt : i < top = grind (arith, nat_tests) in omega arith) (typed (Sort (i + 1)))
    by_case false e = tt

-- the type of a term by its form, where the sorts of its children are such
form-ends : (S : Signature) (room : ℕ) → ((G : Context) (t : Term) (left : ℕ) → Says t (infer_sort_of S room G t left))
    → (G : Context) (t : Term) (left : ℕ) → Says t (infer_form S (infer_of S room) (infer_sort_of S room) (check_of S room) G t left)
unfolding NoClaim
form-ends S room ask G (Sort i) left = universe-ends G i
form-ends S room ask G (Pi a b) left =
    child-splits AnyType (EndsBelow (Pi a b)) NoClaim NoClaim 0 (infer_sort_of S room G a left) _ (λ denial n. tt)
    (every AnyType (λ type. tt) (infer_sort_of S room G a left).0) (λ i rest any.
    child-splits (EndsBelow b) (EndsBelow (Pi a b)) NoClaim NoClaim 1 (infer_sort_of S room (a ∷ G) b rest) _ (λ denial n. tt)
    (ask (a ∷ G) b rest) (λ j end h. every (EndsBelow (Pi a b)) (λ type. h) (typed (greater_sort i j))))
form-ends S room ask G (Var n) left =
    every (EndsBelow (Var n)) (λ type level same. absurd (grind arith)) (infer_form S (infer_of S room) (infer_sort_of S room) (check_of S room) G (Var n) left).0
form-ends S room ask G t left =
    every (EndsBelow t) (λ type level same. absurd (grind arith)) (infer_form S (infer_of S room) (infer_sort_of S room) (check_of S room) G t left).0

mutual
  unfolding NoClaim

  infer-ends : (S : Signature) (room : ℕ) (G : Context) (t : Term) (left : ℕ) → Says t (infer_of S room G t left)
  infer-ends S zero G t left = tt
  infer-ends S (suc room) G t left =
      if_low-has (Splits (EndsBelow t) NoClaim) (is_low t) _ left (λ low.
      charge-has (Splits (EndsBelow t) NoClaim) _ left (λ rest. form-ends S room (infer_sort-ends S room) G t rest))

  infer_sort-ends : (S : Signature) (room : ℕ) (G : Context) (t : Term) (left : ℕ) → Says t (infer_sort_of S room G t left)
  infer_sort-ends S zero G t left = tt
  infer_sort-ends S (suc room) G t left =
      if_typed-splits (EndsBelow t) (EndsBelow t) NoClaim (infer_of S room G t left) _ (infer-ends S room G t left) (λ c rest h.
      and_next-has AnyType (Splits (EndsBelow t) NoClaim) (whnf_of S true rest c) _ (any (whnf_of S true rest c).0) (λ u end k.
      every (EndsBelow t) (λ type. h) (sort_of G u)))

pub sort-ends : (S : Signature) (room : ℕ) (G : Context) (t : Term) (left : ℕ)
    → IfOk (infer_sort_of S room G t left).0 (λ verdict. IfYes verdict (EndsBelow t))
sort-ends S room G t left = by_case (infer_sort_of S room G t left).0 (infer_sort-ends S room G t left)
  where
    by_case : (r : Result Verdict Stop) → IfOk r (Splits (EndsBelow t) NoClaim) → IfOk r (λ verdict. IfYes verdict (EndsBelow t))
    by_case (Ok (Yes type)) h = h
    by_case (Ok (No denial)) h = tt
    by_case (Err e) h = tt
