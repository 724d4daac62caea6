-- Heights and sorts: a term that is granted a type, or a type a sort, is no higher than 2,000, and a higher type is Deep before a unit
-- is needed.
use Rattle.std.proofs.Common.{◌≡◌, ℕ, ◌<◌, ◌≤◌, zero, suc, true, false, Result, Ok, Err, IfOk, refl, ap, ◌∙◌, arith}
use Rattle.std.proofs.lemmas.Bool.Decides.{nat_tests}
use Rattle.theory.specs.Terms.{Term, height}
use Rattle.theory.specs.Telescopes.{Context}
use Rattle.theory.specs.Signatures.{Signature}
use Rattle.core_terms.specs.Verdicts.{Verdict}
use Rattle.core_terms.specs.Verdicts.Verdict.{Yes, No}
use Rattle.core_terms.specs.declared.stop.Stop.{Stop}
use Rattle.core_terms.specs.declared.stop.Stop.TheVariants.{Deep}
use Rattle.core_terms.specs.Answers.{and_next, is_low}
use Rattle.kernel_reduce.specs.Reduction.{answered, charge, if_low, nesting, whnf_of}
use Rattle.core_terms.proofs.Answers.{Answers, and_next-has, low-is}
use Rattle.kernel_reduce.proofs.Answers.{if_low-has}
use Rattle.kernel_check.specs.Checking.{infer_form, infer_of, infer_sort_of, check_of, if_typed, sort_of}
use Rattle.kernel_check.specs.Laws.{IfYes}
use Rattle.family_check.specs.Asking.{sort_in, type_in}
use Rattle.family_check.specs.Outcomes.{Site, Stopped, ended, granted}
use Rattle.family_check.proofs.Outcomes.{granted-has}

-- a property that holds in any case
anyway : {A : Type 0} (P : Type 0) (r : Result A Stop) → P → IfOk r (λ a. P)
anyway P (Ok a) p = p
anyway P (Err e) p = tt

infer-low : (S : Signature) (room : ℕ) (G : Context) (t : Term) (left : ℕ) → Answers (λ v. height t ≤ 2000) (infer_of S room G t left)
infer-low S zero G t left = tt
infer-low S (suc room) G t left =
    if_low-has (λ v. height t ≤ 2000) (is_low t) _ left (λ test.
    anyway (height t ≤ 2000) (charge (infer_form S (infer_of S room) (infer_sort_of S room) (check_of S room) G t) left).0 (low-is t test))

infer_sort-low : (S : Signature) (room : ℕ) (G : Context) (t : Term) (left : ℕ) → Answers (λ v. height t ≤ 2000) (infer_sort_of S room G t left)
infer_sort-low S zero G t left = tt
infer_sort-low S (suc room) G t left =
    and_next-has (λ v. height t ≤ 2000) (λ v. height t ≤ 2000) (infer_of S room G t left) _ (infer-low S room G t left) (λ verdict rest low.
    anyway (height t ≤ 2000) _ low)

if_yes : (P : Type 0) (r : Result Verdict Stop) → IfOk r (λ v. P) → IfOk r (λ v. IfYes v (λ type. P))
if_yes P (Ok (Yes type)) h = h
if_yes P (Ok (No denial)) h = tt
if_yes P (Err e) h = tt

pub sort-low : (S : Signature) (site : Site) (G : Context) (t : Term) (left : ℕ) → Answers (λ sort. height t ≤ 2000) (sort_in S site G t left)
unfolding sort_in
sort-low S site G t left =
    granted-has (λ sort. height t ≤ 2000) site (infer_sort_of S nesting G t left)
    (if_yes (height t ≤ 2000) (infer_sort_of S nesting G t left).0 (infer_sort-low S nesting G t left))

check-low : (S : Signature) (room : ℕ) (G : Context) (t wanted : Term) (left : ℕ) → Answers (λ v. height t ≤ 2000) (check_of S room G t wanted left)
check-low S zero G t wanted left = tt
check-low S (suc room) G t wanted left =
    and_next-has (λ v. height t ≤ 2000) (λ v. height t ≤ 2000) (infer_of S room G t left) _ (infer-low S room G t left) (λ verdict rest low.
    anyway (height t ≤ 2000) _ low)

pub type-low : (S : Signature) (site : Site) (G : Context) (t wanted : Term) (left : ℕ) → Answers (λ type. height t ≤ 2000) (type_in S site G t wanted left)
unfolding type_in
type-low S site G t wanted left =
    granted-has (λ type. height t ≤ 2000) site (check_of S nesting G t wanted left)
    (if_yes (height t ≤ 2000) (check_of S nesting G t wanted left).0 (check-low S nesting G t wanted left))

infer-deep : (S : Signature) (room under : ℕ) (G : Context) (t : Term) (left : ℕ) → room ≡ suc under → 2000 < height t → infer_of S room G t left ≡ answered (Err Deep) left
infer-deep S room under G t left is high =
    let test : is_low t ≡ false = grind (arith, nat_tests) in
    ap (λ r. infer_of S r G t left) is
    ∙ ap (λ b. if_low b (charge (infer_form S (infer_of S under) (infer_sort_of S under) (check_of S under) G t)) left) test

infer_sort-deep : (S : Signature) (room under : ℕ) (G : Context) (t : Term) (left : ℕ) → room ≡ suc (suc under) → 2000 < height t → infer_sort_of S room G t left ≡ answered (Err Deep) left
infer_sort-deep S room under G t left is high =
    ap (λ r. infer_sort_of S r G t left) is
    ∙ ap (λ r. if_typed r (λ c rest. and_next (whnf_of S true rest c) (λ u end. answered (sort_of G u) end))) (infer-deep S (suc under) under G t left refl high)

pub sort-deep : (S : Signature) (site : Site) (G : Context) (t : Term) (left : ℕ) → 2000 < height t → sort_in S site G t left ≡ ended (Err (Stopped Deep)) left
unfolding sort_in
sort-deep S site G t left high = ap (granted site) (infer_sort-deep S nesting 1998 G t left (omega arith) high)
