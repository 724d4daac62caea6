-- A function's level is no less than that of the family of its position: the sort of a product is no less than that of its domain.
use Rattle.std.proofs.Common.{◌≡◌, ℕ, zero, suc, ◌+◌, ◌≤◌, max, nat_lt, Bool, true, false, cond, Option, Some, None, option_and_then, List, [], ◌∷◌, ◌++◌, length, map, slice_get, Result, Ok, Err, IfOk, refl, sym, ap, ap₂, ◌∙◌, subst as transport, arith}
use Rattle.std.proofs.lemmas.Bool.Decides.{nat_tests}
use Rattle.std.proofs.lemmas.List.{length-append, length-map}
use Rattle.std.proofs.lemmas.Option.{none-some}
use Rattle.theory.specs.Terms.{Term, Sort, Pi, App, Fam, lift, subst}
use Rattle.theory.specs.Telescopes.{Context, Telescope, applied, products}
use Rattle.theory.specs.Families.{Family, family_type, index_types}
use Rattle.theory.specs.Signatures.{FamilyOf, IsEntryAt, Signature}
use Rattle.theory.proofs.Lists.{some_is}
use Rattle.core_terms.specs.Answers.{Spent, and_next, is_low}
use Rattle.core_terms.specs.Verdicts.{Denial, Verdict, Yes, No}
use Rattle.core_terms.specs.declared.stop.Stop.{Stop}
use Rattle.core_terms.proofs.Answers.{Answers, and_next-has}
use Rattle.kernel_check.specs.Checking.{apply_product, check_of, given_type, greater_sort, if_typed, infer_form, infer_of, infer_sort_of, product_of, sort_of}
use Rattle.kernel_check.proofs.Parts.{Splits, child-splits, if_typed-splits, typed-splits}
use Rattle.core_terms.specs.Levels.{variable}
use Rattle.clause_reports.specs.elaboration.Functions.{function_level}
use Rattle.clause_reports.specs.elaboration.Refusals.{OfType, level_too_high, or_ill_typed}
use Rattle.clause_reports.specs.elaboration.Walking.{greatest_level}
use Rattle.kernel_reduce.specs.Entries.{family_at, family_in}
use Rattle.kernel_reduce.specs.Reduction.{answered, charge, nesting, whnf_of, with_unit, without_units}
use Rattle.kernel_reduce.proofs.Answers.{charge-has, if_low-has}
use Rattle.resolve.specs.Functions.{Function}
use Rattle.tree_translation.specs.structural_rec.Positions.{Admission, Admits}
use Rattle.unification.proofs.Constructors.{one-family}
use Rattle.function_session.specs.plan_laws.Conditions.{HasLevel}

-- so many products, and then a sort
abbrev EndsIn : (l k : ℕ) → Term → Type 0
EndsIn l zero t = t ≡ Sort l
EndsIn l (suc k) t = (a : Term) × (b : Term) × (t ≡ Pi a b) × EndsIn l k b

subst-ends : (l k : ℕ) (t : Term) (at : ℕ) (u : Term) → EndsIn l k t → EndsIn l k (subst t at u)
subst-ends l zero t at u e = ap (λ t. subst t at u) e
subst-ends l (suc k) t at u (a, b, e, h) =
    (subst a at u, subst b (at + 1) (lift u 1 0), ap (λ t. subst t at u) e, subst-ends l k b (at + 1) (lift u 1 0) h)

-- as many more
abbrev and_more : {A : Type 0} → List A → ℕ → ℕ
and_more [] k = k
and_more (x ∷ xs) k = suc (and_more xs k)

more-is : {A : Type 0} (xs : List A) (k : ℕ) → and_more xs k ≡ length xs + k
more-is [] k = omega arith
more-is (x ∷ xs) k = let e = more-is xs k in omega (arith, e)

products-end : (l k : ℕ) (tele : Telescope) (t : Term) → EndsIn l k t → EndsIn l (and_more tele k) (products tele t)
products-end l k [] t h = h
products-end l k (a ∷ tele) t h = (a, products tele t, refl, products-end l k tele t h)

family-ends : (f : Family) → EndsIn f.level (and_more f.parameters (and_more (index_types f) 0)) (family_type f)
family-ends f = products-end f.level (and_more (index_types f) 0) f.parameters _ (products-end f.level 0 (index_types f) (Sort f.level) refl)

-- ---- inferred types

abbrev Any : Denial → Type 0
Any denial = Unit {0}

abbrev AnyType : Term → Type 0
AnyType t = Unit {0}

any-verdict : (v : Verdict) → Splits AnyType Any v
any-verdict (Yes type) = tt
any-verdict (No denial) = tt

any : (asked : Spent Verdict) → Answers (Splits AnyType Any) asked
any asked = by asked.0
  where
    by : (r : Result Verdict Stop) → IfOk r (Splits AnyType Any)
    by (Ok v) = any-verdict v
    by (Err e) = tt

-- each type that is inferred of it ends so
abbrev Infers : Signature → (l k : ℕ) → Term → Type 0
Infers S l k t = (room : ℕ) (G : Context) (left : ℕ) → Answers (Splits (EndsIn l k) Any) (infer_of S room G t left)

family-infers : (S : Signature) (n : ℕ) (f : Family) → family_at S n ≡ Some f → Infers S f.level (and_more f.parameters (and_more (index_types f) 0)) (Fam n)
family-infers S n f known zero G left = tt
family-infers S n f known (suc room) G left =
    if_low-has (Splits E Any) (is_low (Fam n)) (charge (infer_form S (infer_of S room) (infer_sort_of S room) (check_of S room) G (Fam n))) left (λ low.
    charge-has (Splits E Any) (infer_form S (infer_of S room) (infer_sort_of S room) (check_of S room) G (Fam n)) left (λ rest.
    transport (λ (o : Option Family). IfOk (given_type G (given o)) (Splits E Any)) (sym known) (typed-splits E Any (family_type f) (family-ends f))))
  where
    E : Term → Type 0
    E = EndsIn f.level (and_more f.parameters (and_more (index_types f) 0))

    given : Option Family → Option Term
    given None = None
    given (Some f) = Some (family_type f)

application-infers : (S : Signature) (l k : ℕ) (h u : Term) → Infers S l (suc k) h → Infers S l k (App h u)
application-infers S l k h u is zero G left = tt
application-infers S l k h u is (suc room) G left =
    if_low-has (Splits (EndsIn l k) Any) (is_low (App h u)) (charge (infer_form S (infer_of S room) (infer_sort_of S room) (check_of S room) G (App h u))) left (λ low.
    charge-has (Splits (EndsIn l k) Any) (infer_form S (infer_of S room) (infer_sort_of S room) (check_of S room) G (App h u)) left (λ rest.
    child-splits (EndsIn l (suc k)) (EndsIn l k) Any Any 0 (infer_of S room G h rest) _ (λ denial n. tt) (is room G rest) (λ c end e. by c end e)))
  where
    by : (c : Term) (end : ℕ) → EndsIn l (suc k) c
        → Answers (Splits (EndsIn l k) Any) (if_typed (product_of S (infer_sort_of S room) G c end) (apply_product (check_of S room) G u))
    by c end (a, b, e, h) =
        transport
        (λ c. Answers (Splits (EndsIn l k) Any) (if_typed (product_of S (infer_sort_of S room) G c end) (apply_product (check_of S room) G u))) (sym e)
        (child-splits AnyType (EndsIn l k) Any Any 1 (check_of S room G u a end) _ (λ denial n. tt) (any (check_of S room G u a end)) (λ found last v.
        typed-splits (EndsIn l k) Any (subst b 0 u) (subst-ends l k b 0 u h)))

all-infer : (S : Signature) (l : ℕ) (us : List Term) (k : ℕ) (h : Term) → Infers S l (and_more us k) h → Infers S l k (applied h us)
all-infer S l [] k h is = is
all-infer S l (u ∷ us) k h is = all-infer S l us k (App h u) (application-infers S l (and_more us k) h u is)

-- ---- sorts

-- a sort of at least this level
abbrev pub IsAbove : ℕ → Term → Type 0
IsAbove l s = (j : ℕ) × (s ≡ Sort j) × (l ≤ j)

abbrev pub SortsAbove : Signature → (l : ℕ) → Term → Type 0
SortsAbove S l t = (room : ℕ) (G : Context) (left : ℕ) → Answers (Splits (IsAbove l) Any) (infer_sort_of S room G t left)

sort-itself : (S : Signature) (l left : ℕ) → Answers (λ u. u ≡ Sort l) (whnf_of S true left (Sort l))
sort-itself S l zero = if_low-has (λ u. u ≡ Sort l) (is_low (Sort l)) (λ none. without_units (Sort l) None) zero (λ low. refl {a = Sort l})
sort-itself S l (suc left) = if_low-has (λ u. u ≡ Sort l) (is_low (Sort l)) (λ all. with_unit (Sort l) left (whnf_of S true left) None) (suc left) (λ low. refl {a = Sort l})

-- the sort of what has exactly a sort as its type
inferred-above : (S : Signature) (l : ℕ) (t : Term) → ((room : ℕ) (G : Context) (left : ℕ) → Answers (Splits (IsAbove l) Any) (infer_of S room G t left)) → SortsAbove S l t
inferred-above S l t is zero G left = tt
inferred-above S l t is (suc room) G left =
    if_typed-splits (IsAbove l) (IsAbove l) Any (infer_of S room G t left) _ (is room G left) (λ c rest h. by c rest h.0 h.1 h.2)
  where
    by : (c : Term) (rest j : ℕ) → c ≡ Sort j → l ≤ j
        → Answers (Splits (IsAbove l) Any) (and_next (whnf_of S true rest c) (λ u end. answered (sort_of G u) end))
    by c rest j e le =
        transport (λ c. Answers (Splits (IsAbove l) Any) (and_next (whnf_of S true rest c) (λ u end. answered (sort_of G u) end))) (sym e)
        (and_next-has (λ u. u ≡ Sort j) (Splits (IsAbove l) Any) (whnf_of S true rest (Sort j)) (λ u end. answered (sort_of G u) end) (sort-itself S j rest)
        (λ u end same. transport (λ u. IfOk (sort_of G u) (Splits (IsAbove l) Any)) (sym same) (j, refl, le)))

member-above : (S : Signature) (l : ℕ) (t : Term) → Infers S l zero t → SortsAbove S l t
member-above S l t is =
    inferred-above S l t (λ room G left. weaker (infer_of S room G t left).0 (is room G left))
  where
    ends : (c : Term) → EndsIn l zero c → IsAbove l c
    ends c e = (l, e, (let le : l ≤ l = omega arith in le))

    verdict : (v : Verdict) → Splits (EndsIn l zero) Any v → Splits (IsAbove l) Any v
    verdict (Yes c) e = ends c e
    verdict (No denial) e = tt

    weaker : (r : Result Verdict Stop) → IfOk r (Splits (EndsIn l zero) Any) → IfOk r (Splits (IsAbove l) Any)
    weaker (Ok v) h = verdict v h
    weaker (Err e) h = tt

abbrev IsSort : Term → Type 0
IsSort s = (j : ℕ) × (s ≡ Sort j)

sort-splits : (G : Context) (u : Term) → IfOk (sort_of G u) (Splits IsSort Any)
sort-splits G (Sort i) = (i, refl)
sort-splits G _ = tt

-- the answer for a type is a sort
some-sort : (S : Signature) (room : ℕ) (G : Context) (t : Term) (left : ℕ) → Answers (Splits IsSort Any) (infer_sort_of S room G t left)
some-sort S zero G t left = tt
some-sort S (suc room) G t left =
    if_typed-splits AnyType IsSort Any (infer_of S room G t left) _ (any (infer_of S room G t left)) (λ c rest h.
    and_next-has (λ u. Unit {0}) (Splits IsSort Any) (whnf_of S true rest c) (λ u end. answered (sort_of G u) end) (anything (whnf_of S true rest c).0)
    (λ u end v. sort-splits G u))
  where
    anything : (r : Result Term Stop) → IfOk r (λ u. Unit {0})
    anything (Ok u) = tt
    anything (Err e) = tt

-- the greater one of two sorts
greater-first : (l : ℕ) (s s' : Term) → IsAbove l s → IsSort s' → IsAbove l (greater_sort s s')
greater-first l s s' (i, e, le) (j, e') =
    (max i j, ap₂ greater_sort e e', (let above : l ≤ max i j = grind (arith, le) in above))

greater-second : (l : ℕ) (s s' : Term) → IsSort s → IsAbove l s' → IsAbove l (greater_sort s s')
greater-second l s s' (i, e) (j, e', le) =
    (max i j, ap₂ greater_sort e e', (let above : l ≤ max i j = grind (arith, le) in above))

product-above : (S : Signature) (l : ℕ) (a b : Term) (P Q : Term → Type 0)
    → ((room : ℕ) (G : Context) (left : ℕ) → Answers (Splits P Any) (infer_sort_of S room G a left))
    → ((room : ℕ) (G : Context) (left : ℕ) → Answers (Splits Q Any) (infer_sort_of S room G b left))
    → ((s s' : Term) → P s → Q s' → IsAbove l (greater_sort s s')) → SortsAbove S l (Pi a b)
product-above S l a b P Q first second both = inferred-above S l (Pi a b) infers
  where
    infers : (room : ℕ) (G : Context) (left : ℕ) → Answers (Splits (IsAbove l) Any) (infer_of S room G (Pi a b) left)
    infers zero G left = tt
    infers (suc room) G left =
        if_low-has (Splits (IsAbove l) Any) (is_low (Pi a b)) (charge (infer_form S (infer_of S room) (infer_sort_of S room) (check_of S room) G (Pi a b))) left (λ low.
        charge-has (Splits (IsAbove l) Any) (infer_form S (infer_of S room) (infer_sort_of S room) (check_of S room) G (Pi a b)) left (λ rest.
        child-splits P (IsAbove l) Any Any 0 (infer_sort_of S room G a rest) _ (λ denial n. tt) (first room G rest) (λ s end h.
        child-splits Q (IsAbove l) Any Any 1 (infer_sort_of S room (a ∷ G) b end) _ (λ denial n. tt) (second room (a ∷ G) end) (λ s' last k.
        typed-splits (IsAbove l) Any (greater_sort s s') (both s s' h k)))))

domain-above : (S : Signature) (l : ℕ) (a b : Term) → SortsAbove S l a → SortsAbove S l (Pi a b)
domain-above S l a b h = product-above S l a b (IsAbove l) IsSort h (λ room G left. some-sort S room G b left) (λ s s' p q. greater-first l s s' p q)

codomain-above : (S : Signature) (l : ℕ) (a b : Term) → SortsAbove S l b → SortsAbove S l (Pi a b)
codomain-above S l a b h = product-above S l a b IsSort (IsAbove l) (λ room G left. some-sort S room G a left) h (λ s s' p q. greater-second l s s' p q)

-- the sort of products over a telescope that has a type is no less than that type's
position-above : (S : Signature) (l : ℕ) (tele : Telescope) (goal : Term) (j : ℕ) (t : Term) → slice_get tele j ≡ Some t → SortsAbove S l t
    → SortsAbove S l (products tele goal)
position-above S l [] goal j t e h = absurd (none-some t e)
position-above S l (a ∷ tele) goal zero t e h =
    domain-above S l a (products tele goal) (transport (SortsAbove S l) (sym (some_is e)) h)
position-above S l (a ∷ tele) goal (suc j) t e h = codomain-above S l a (products tele goal) (position-above S l tele goal j t e h)

-- a family at all of its parameters and indices
whole-above : (S : Signature) (n : ℕ) (f : Family) (us : List Term) → family_at S n ≡ Some f → length us ≡ length f.parameters + length f.indices
    → SortsAbove S f.level (applied (Fam n) us)
whole-above S n f us known count =
    let mapped = length-map f.indices (λ i. i.0) in
    let a = more-is f.parameters (and_more (index_types f) 0) in
    let b = more-is (index_types f) 0 in
    let c = more-is us 0 in
    let same : and_more f.parameters (and_more (index_types f) 0) ≡ and_more us 0 = omega (arith, count, mapped, a, b, c) in
    member-above S f.level (applied (Fam n) us)
    (all-infer S f.level us 0 (Fam n) (transport (λ k. Infers S f.level k (Fam n)) same (family-infers S n f known)))

-- ---- the level of a function

sort-above : (S : Signature) (l : ℕ) (r : Result Verdict Stop) (sort : Term) → IfOk r (Splits (IsAbove l) Any) → or_ill_typed S OfType r ≡ Ok sort → IsAbove l sort
sort-above S l (Ok (Yes s)) sort h e = (let same : s ≡ sort = cc in transport (IsAbove l) same h)
sort-above S l (Ok (No d)) sort h e = absurd (cc)
sort-above S l (Err x) sort h e = absurd (cc)

level-of_sort : (S : Signature) (l j level : ℕ) → l ≤ j → function_level S (Sort j) ≡ Ok level → l ≤ level
level-of_sort S l j level le = by (nat_lt greatest_level j)
  where
    by : (b : Bool) → cond b (Err (level_too_high S OfType j greatest_level)) (Ok j) ≡ Ok level → l ≤ level
    by true e = absurd (cc)
    by false e = (let same : j ≡ level = cc in omega (arith, same, le))

pub level-low : (S : Signature) (f : Function) (level : ℕ) → HasLevel S f level → level ≤ greatest_level
level-low S f level h = by h.sort h.is_level
  where
    by : (sort : Term) → function_level S sort ≡ Ok level → level ≤ greatest_level
    by (Sort j) e = test (nat_lt greatest_level j) refl e
      where
        test : (b : Bool) → nat_lt greatest_level j ≡ b → cond b (Err (level_too_high S OfType j greatest_level)) (Ok j) ≡ Ok level → level ≤ greatest_level
        test true is e = absurd (cc)
        test false is e = (let same : j ≡ level = cc in (let low : level ≤ greatest_level = grind (arith, nat_tests, is, same) in low))
    by _ e = (let same : 0 ≡ level = cc in omega (arith, same))

pub type-above : (S : Signature) (f : Function) (level l : ℕ) → HasLevel S f level → SortsAbove S l f.type → l ≤ level
type-above S f level l h above =
    let s = sort-above S l (infer_sort_of S nesting [] f.type h.fuel).0 h.sort (above nesting [] h.fuel) h.granted_sort in
    level-of_sort S l s.0 level s.2 (ap (function_level S) (sym s.1) ∙ h.is_level)

-- the family of the position
pub family-level : (S : Signature) (f : Function) (level j : ℕ) (tele : Telescope) (goal : Term) (a : Admission) (family : Family) → HasLevel S f level
    → f.type ≡ products tele goal → Admits S tele j a → IsEntryAt S a.number (FamilyOf family) → family.level ≤ level
family-level S f level j tele goal a family h type admits known =
    let us = admits.parameters ++ map (variable j) a.indices in
    let same : admits.family ≡ family = one-family S a.number a.number admits.family family admits.known known refl in
    let long = length-append admits.parameters (map (variable j) a.indices) in
    let mapped = length-map a.indices (variable j) in
    let parameters = admits.parameter_count in
    let indices = admits.index_count in
    let count : length us ≡ length admits.family.parameters + length admits.family.indices = omega (arith, long, mapped, parameters, indices) in
    let found : family_at S a.number ≡ Some admits.family = ap (option_and_then family_in) admits.known in
    let le : admits.family.level ≤ level =
    type-above S f level admits.family.level h
    (transport (SortsAbove S admits.family.level) (sym type)
    (position-above S admits.family.level tele goal j (applied (Fam a.number) us) admits.type (whole-above S a.number admits.family us found count))) in
    transport (λ (g : Family). g.level ≤ level) same le
