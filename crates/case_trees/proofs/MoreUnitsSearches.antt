-- With more units a search below constructors finds the same, unless there were too few.
use Rattle.std.proofs.Common.{◌≡◌, ◌⊎◌, inl, inr, ℕ, zero, suc, ◌+◌, ◌<◌, ◌≤◌, ◌==◌, Bool, true, false, cond, Option, Some, None, option_map, Result, Ok, Err, List, [], ◌∷◌, refl, sym, ap, ◌∙◌, subst as transport, arith}
use Rattle.std.proofs.lemmas.List.Elements.{All-weaker, All-head, All-tail}
use Rattle.std.specs.List.{All}
use Rattle.theory.specs.Terms.{Term, height}
use Rattle.theory.specs.Families.{Argument}
use Rattle.theory.specs.Signatures.{Signature}
use Rattle.core_terms.specs.Answers.{Spent, and_then, and_next, on_answer}
use Rattle.core_terms.specs.declared.stop.Stop.{Stop}
use Rattle.core_terms.specs.declared.stop.Stop.TheVariants.{Fuel}
use Rattle.kernel_reduce.specs.Reduction.{whnf_of}
use Rattle.unification.specs.Built.{Built, built_of, is_direct}
use Rattle.unification.specs.Cycles.{Search, found_as, here_or, among_arguments, with_arguments, is_variable, below_constructor, in_form, search_in}
use Rattle.unification.specs.Solutions.{variable_in}
use Rattle.unification.proofs.Cases.{here-or_below}
use Rattle.unification.proofs.Constructors.{found}
use Rattle.unification.proofs.Reducts.{IsHead, whnf-within}
use Rattle.unification.proofs.SearchLaws.{AreLower, built-lower, search-goes_on}
use Rattle.unification.proofs.SearchedVariables.{search-finds}
use Rattle.unification.proofs.SpentUnits.{Leaves, Within, Any, any-within}
use Rattle.case_trees.proofs.MoreUnits.{Lasts, answers-last, and_next-lasts, cond-lasts, AlwaysLasts, whnf-lasts}

-- ---- one call after another one, of which something is known

next-lasts : {A B : Type 0} (P : A → ℕ → Type 0) (more : ℕ) (first second : Spent A) (go other : A → ℕ → Spent B) (left : ℕ) → Within left P first
    → Lasts Fuel more first second → ((a : A) (rest : ℕ) → rest ≤ left → P a rest → Lasts Fuel more (go a rest) (other a (rest + more)))
    → Lasts Fuel more (and_next first go) (and_next second other)
next-lasts {A = A} P more first second go other left within h k = by first.0 first.1 within.spends within.leaves h
  where
    by : (r : Result A Stop) (n : ℕ) → n ≤ left → Leaves P r n → Lasts Fuel more (r, n) second → Lasts Fuel more (on_answer r n go) (and_next second other)
    by (Ok a) n le p h = λ fine. ap (λ call. and_next call other) (h (λ none. absurd (grind arith))) ∙ k a n le p fine
    by (Err e) n le p h = λ fine. ap (λ call. and_next call other) (h (λ none. fine (ap (λ r. and_then r (λ a. Err Fuel)) none)))

-- ---- searches

-- it holds of the searches with at most so many units, of those with as many in terms below a height
abbrev SearchesLast : Signature → (n x most high : ℕ) → Type 0
SearchesLast S n x most high =
    (v : Term) (rest more : ℕ) → rest ≤ most → (rest ≡ most → height v < high) → Lasts Fuel more (search_in S n x v rest) (search_in S n x v (rest + more))

found_as-lasts : {A B : Type 0} (f : A → B) (more : ℕ) (search : Search A) (left : ℕ) → Lasts Fuel more (search left) (search (left + more))
    → Lasts Fuel more (found_as f search left) (found_as f search (left + more))
found_as-lasts f more search left h = and_next-lasts Fuel more (search left) (search (left + more)) _ _ h (λ found rest fine. refl)

here_or-lasts : {A : Type 0} (more : ℕ) (found : Option A) (search : Search A) (left : ℕ) → Lasts Fuel more (search left) (search (left + more))
    → Lasts Fuel more (here_or found search left) (here_or found search (left + more))
here_or-lasts more (Some a) search left h = λ fine. refl
here_or-lasts more None search left h = h

arguments-last : (S : Signature) (n x most high : ℕ) → SearchesLast S n x most high → (arguments : List Argument) (us : List Term) (left more : ℕ) → left ≤ most
    → AreLower high us
    → Lasts Fuel more (among_arguments S (λ before. search_in S n x) arguments us left) (among_arguments S (λ before. search_in S n x) arguments us (left + more))
arguments-last S n x most high h (a ∷ arguments) (u ∷ us) left more le low =
    let below = λ (before : ℕ). search_in S n x in
    let others : (end : ℕ) → end ≤ most
    → Lasts Fuel more (found_as (λ ws. u ∷ ws) (among_arguments S below arguments us) end) (found_as (λ ws. u ∷ ws) (among_arguments S below arguments us) (end + more)) =
    λ end l.
    found_as-lasts (λ ws. u ∷ ws) more (among_arguments S below arguments us) end
    (arguments-last S n x most high h arguments us end more l (All-tail (λ u. height u < high) u us low)) in
    cond-lasts Fuel more (is_direct a) _ _ _ _
    (next-lasts (IsHead S left u) more (whnf_of S true left u) (whnf_of S true (left + more) u) _ _ left (whnf-within S true left u) (whnf-lasts S true left more u)
    (λ v rest l reached.
    next-lasts Any more (search_in S n x v rest) (search_in S n x v (rest + more)) _ _ rest (any-within rest (search_in S n x v rest) (search-finds S n x v rest).spends)
    (h v rest more (omega arith)
    (λ same. transport (λ w. height w < high) (sym (reached.stays (omega arith))) (All-head (λ u. height u < high) u us low)))
    (λ found end l' any.
    here_or-lasts more (option_map (λ w. w ∷ us) found) (found_as (λ ws. u ∷ ws) (among_arguments S below arguments us)) end (others end (omega arith)))))
    (others left le)
arguments-last S n x most high h [] us left more le low = λ fine. refl
arguments-last S n x most high h (a ∷ arguments) [] left more le low = λ fine. refl

form-lasts : (S : Signature) (n x most high : ℕ) → SearchesLast S n x most high → (t : Term) (more : ℕ) → height t ≤ high
    → Lasts Fuel more (in_form S n x (λ before. search_in S n x) t most) (in_form S n x (λ before. search_in S n x) t (most + more))
form-lasts S n x most high h t more le =
    cond-lasts Fuel more (is_variable x (variable_in t)) _ _ _ _ (answers-last Fuel more _ most) (by (built_of S t) refl)
  where
    by : (o : Option Built) → built_of S t ≡ o
        → Lasts Fuel more (below_constructor S n (λ before. search_in S n x) o most) (below_constructor S n (λ before. search_in S n x) o (most + more))
    by None e = λ fine. refl
    by (Some b) e = named (b.n == n)
      where
        lower : AreLower high b.arguments
        lower = All-weaker (λ u. height u < height t) (λ u. height u < high) (λ u lt. omega arith) b.arguments (built-lower S t b e)

        named : (test : Bool)
            → Lasts Fuel more
            (cond test (found_as (with_arguments b) (among_arguments S (λ before. search_in S n x) b.constructor.arguments b.arguments)) (λ left. (Ok None, left)) most)
            (cond test (found_as (with_arguments b) (among_arguments S (λ before. search_in S n x) b.constructor.arguments b.arguments)) (λ left. (Ok None, left)) (most + more))
        named true =
            found_as-lasts (with_arguments b) more (among_arguments S (λ before. search_in S n x) b.constructor.arguments b.arguments) most
            (arguments-last S n x most high h b.constructor.arguments b.arguments most more (omega arith) lower)
        named false = λ fine. refl

search-by : (S : Signature) (n x most high : ℕ) → SearchesLast S n x most high → (t : Term) (more : ℕ) → height t ≤ high
    → Lasts Fuel more (search_in S n x t most) (search_in S n x t (most + more))
search-by S n x most high h t more le =
    transport (λ call. Lasts Fuel more call (search_in S n x t (most + more))) (sym (search-goes_on S n x t most))
    (transport (λ call. Lasts Fuel more (in_form S n x (λ before. search_in S n x) t most) call) (sym (search-goes_on S n x t (most + more)))
    (form-lasts S n x most high h t more le))

-- by the units, and then by the height
abbrev FewerLast : Signature → (n x most : ℕ) → Type 0
FewerLast S n x most =
    (v : Term) (rest more : ℕ) → rest < most → Lasts Fuel more (search_in S n x v rest) (search_in S n x v (rest + more))

heights-last : (S : Signature) (n x most : ℕ) → FewerLast S n x most → (high : ℕ) → SearchesLast S n x most high
heights-last S n x most fewer zero v rest more le low = by (here-or_below rest most (omega arith))
  where
    by : (rest ≡ most) ⊎ (rest < most) → Lasts Fuel more (search_in S n x v rest) (search_in S n x v (rest + more))
    by (inl same) = let none : height v < 0 = low same in absurd (omega arith)
    by (inr less) = fewer v rest more less
heights-last S n x most fewer (suc high) v rest more le low = by (heights-last S n x most fewer high) (here-or_below rest most (omega arith))
  where
    by : SearchesLast S n x most high → (rest ≡ most) ⊎ (rest < most) → Lasts Fuel more (search_in S n x v rest) (search_in S n x v (rest + more))
    by lower_last (inl same) =
        let lower : height v < suc high = low same in
        transport (λ k. Lasts Fuel more (search_in S n x v k) (search_in S n x v (k + more))) (sym same)
        (search-by S n x most high lower_last v more (omega arith))
    by lower_last (inr less) = fewer v rest more less

fewer-last : (S : Signature) (n x most : ℕ) → FewerLast S n x most
fewer-last S n x zero v rest more less = absurd (omega arith)
fewer-last S n x (suc most) v rest more less = by (fewer-last S n x most) (here-or_below rest most (omega arith))
  where
    by : FewerLast S n x most → (rest ≡ most) ⊎ (rest < most) → Lasts Fuel more (search_in S n x v rest) (search_in S n x v (rest + more))
    by fewer (inl same) =
        transport (λ k. Lasts Fuel more (search_in S n x v k) (search_in S n x v (k + more))) (sym same)
        (search-by S n x most (height v) (heights-last S n x most fewer (height v)) v more (omega arith))
    by fewer (inr low) = fewer v rest more low

pub search-lasts : (S : Signature) (n x : ℕ) (t : Term) → AlwaysLasts Fuel (search_in S n x t)
search-lasts S n x t = λ left more. fewer-last S n x (left + 1) t left more (omega arith)
