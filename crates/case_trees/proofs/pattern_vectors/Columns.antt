-- How the code's answers on lists of patterns join to the definitions.
use Rattle.std.proofs.Common.{◌≡◌, ◌⊎◌, inl, inr, ℕ, ◌-◌, ◌≤◌, ◌<◌, Bool, true, false, ◌&&◌, ◌||◌, ◌==◌, cond, Option, Some, None, option_map, List, [], ◌∷◌, ◌++◌, length, map, take, drop, get_or, refl, ap, ap₂, sym, ◌∙◌, arith}
use Rattle.std.proofs.lemmas.Bool.{false≢true, true≢false, and_right, and_from}
use Rattle.std.proofs.lemmas.Bool.Decides.{nat_tests}
use Rattle.std.proofs.lemmas.List.{length-map, length-append, length-take, length-drop, map-append, drop_all}
use Rattle.theory.specs.Terms.{Term, App}
use Rattle.theory.specs.Signatures.{Signature}
use Rattle.theory.specs.Spines.{spine_of}
use Rattle.core_terms.specs.PatternMeanings.{pat_of, pats_of}
use Rattle.core_terms.specs.Patterns.{Pat, Con, nil, vector}
use Rattle.core_terms.specs.declared.pattern.Pat as code
use Rattle.unification.specs.Built.{Built, built_of}
use Rattle.case_trees.specs.pattern_vectors.Matching.{is_as_long, is_constructor, matches, matches_built, matches_all, is_apart, is_apart_from, has_apart}
use Rattle.case_trees.specs.pattern_vectors.Whole.{last, is_whole_of, numbers_in}
use Rattle.unification.proofs.Constructors.{found}
use Rattle.case_trees.proofs.pattern_vectors.Separate.{and-both}
use Rattle.case_trees.proofs.pattern_vectors.LastArguments.{last-item, last-none, matches-last, apart-last}

pub and_comm : (a b : Bool) → (a && b) ≡ (b && a)
and_comm true true = refl
and_comm true false = refl
and_comm false true = refl
and_comm false false = refl

pub or_comm : (a b : Bool) → (a || b) ≡ (b || a)
or_comm true true = refl
or_comm true false = refl
or_comm false true = refl
or_comm false false = refl

pub as-long-counted : {A : Type 0} (ps : List Pat) (us : List A) → is_as_long (vector ps) us ≡ (length ps == length us)
as-long-counted [] [] = refl
as-long-counted [] (u ∷ us) = let apart : (0 == length (u ∷ us)) ≡ false = grind (arith, nat_tests) in sym apart
as-long-counted (p ∷ ps) [] = let apart : (length (p ∷ ps) == 0) ≡ false = grind (arith, nat_tests) in sym apart
as-long-counted (p ∷ ps) (u ∷ us) = as-long-counted ps us ∙ grind (arith, nat_tests)

-- the last pattern and the others, against the last argument and the others
pub last-matches : (S : Signature) (pats : List code.Pat) (pat : code.Pat) (f a : Term) → 1 ≤ length pats
    → pat ≡ get_or pats (length pats - 1) pat
    → matches_all S (pats_of pats) (last (length pats) (spine_of (App f a)))
    ≡ (matches_all S (pats_of (take (length pats - 1) pats)) (last (length (take (length pats - 1) pats)) (spine_of f)) && matches S (pat_of pat) a)
last-matches S pats pat f a some is =
    let front = take (length pats - 1) pats in
    ap (λ ps. matches_all S (pats_of ps) (last (length ps) (spine_of f ++ a ∷ []))) (last-item pats pat some is)
    ∙ (ap₂ (λ ps k. matches_all S (vector ps) (last k (spine_of f ++ a ∷ []))) (map-append pat_of front (pat ∷ [])) (counted front)
    ∙ (matches-last S (map pat_of front) (pat_of pat) (spine_of f) a
    ∙ ap (λ k. matches_all S (pats_of front) (last k (spine_of f)) && matches S (pat_of pat) a) (length-map front pat_of)))
  where
    counted : (front : List code.Pat) → length (front ++ pat ∷ []) ≡ length (map pat_of front ++ pat_of pat ∷ [])
    counted front = sym (length-map (front ++ pat ∷ []) pat_of) ∙ ap length (map-append pat_of front (pat ∷ []))

pub last-apart : (S : Signature) (pats : List code.Pat) (pat : code.Pat) (f a : Term) → 1 ≤ length pats
    → pat ≡ get_or pats (length pats - 1) pat → length pats ≤ length (spine_of (App f a))
    → has_apart S (pats_of pats) (last (length pats) (spine_of (App f a)))
    ≡ (has_apart S (pats_of (take (length pats - 1) pats)) (last (length (take (length pats - 1) pats)) (spine_of f)) || is_apart S (pat_of pat) a)
last-apart S pats pat f a some is few =
    let front = take (length pats - 1) pats in
    ap (λ ps. has_apart S (pats_of ps) (last (length ps) (spine_of f ++ a ∷ []))) (last-item pats pat some is)
    ∙ (ap₂ (λ ps k. has_apart S (vector ps) (last k (spine_of f ++ a ∷ []))) (map-append pat_of front (pat ∷ [])) (counted front)
    ∙ (apart-last S (map pat_of front) (pat_of pat) (spine_of f) a (omega (arith, length-map front pat_of, length-append (spine_of f) (a ∷ []), length-take (length pats - 1) pats, few, some))
    ∙ ap (λ k. has_apart S (pats_of front) (last k (spine_of f)) || is_apart S (pat_of pat) a) (length-map front pat_of)))
  where
    counted : (front : List code.Pat) → length (front ++ pat ∷ []) ≡ length (map pat_of front ++ pat_of pat ∷ [])
    counted front = sym (length-map (front ++ pat ∷ []) pat_of) ∙ ap length (map-append pat_of front (pat ∷ []))

-- ---- where the arguments or the patterns come to their end

pub matches-none : (S : Signature) (pats : List code.Pat) → matches_all S (pats_of pats) [] ≡ (length pats == 0)
matches-none S [] = refl
matches-none S (pat ∷ pats) = let apart : (length (pat ∷ pats) == 0) ≡ false = grind (arith, nat_tests) in sym apart

pub matches-at-end : (S : Signature) (pats : List code.Pat) (us : List Term) → (length pats < 1) ⊎ (us ≡ [])
    → (length pats == 0) ≡ matches_all S (pats_of pats) (last (length pats) us)
matches-at-end S [] us e = sym (ap (matches_all S nil) (last-none us))
matches-at-end S (pat ∷ pats) us (inl e) = absurd (grind arith)
matches-at-end S (pat ∷ pats) us (inr e) =
    sym (ap (λ us. matches_all S (pats_of (pat ∷ pats)) (last (length (pat ∷ pats)) us)) e
    ∙ (ap (matches_all S (pats_of (pat ∷ pats))) (drop_all (length {A = Term} [] - length (pat ∷ pats)) [] (omega arith)) ∙ matches-none S (pat ∷ pats)))

pub matches-unequal : (S : Signature) (pats : List code.Pat) (us : List Term) → (length us == length pats) ≡ false → matches_all S (pats_of pats) us ≡ false
matches-unequal S [] [] e = absurd (grind (arith, nat_tests))
matches-unequal S [] (u ∷ us) e = refl
matches-unequal S (pat ∷ pats) [] e = refl
matches-unequal S (pat ∷ pats) (u ∷ us) e = and_right (matches S (pat_of pat) u) (matches_all S (pats_of pats) us) (matches-unequal S pats us (grind (arith, nat_tests)))

-- ---- a constructor with as many arguments as there are patterns

last-arguments : (S : Signature) (t : Term) (b : Built) (k : ℕ) → built_of S t ≡ Some b → length b.arguments ≡ k → b.arguments ≡ last k (spine_of t)
last-arguments S t b k e counted =
    let is = found S t b e in
    let shorter = length-drop (length b.family.parameters) (spine_of t) in
    let same : length b.family.parameters ≡ length (spine_of t) - k = omega (arith, is.whole, shorter, counted, ap length is.arguments) in
    is.arguments ∙ ap (λ j. drop j (spine_of t)) same

pub whole-matches : (S : Signature) (n number : ℕ) (pats : List code.Pat) (t : Term) → is_whole_of n number (length pats) (built_of S t) ≡ true
    → matches S (Con n number (pats_of pats)) t ≡ matches_all S (pats_of pats) (last (length pats) (spine_of t))
whole-matches S n number pats t is = go (built_of S t) refl is
  where
    go : (o : Option Built) → built_of S t ≡ o → is_whole_of n number (length pats) o ≡ true
        → matches S (Con n number (pats_of pats)) t ≡ matches_all S (pats_of pats) (last (length pats) (spine_of t))
    go None e is = absurd (false≢true is)
    go (Some b) e is =
        let (family, rest) = and-both (b.n == n) ((b.number == number) && (length b.arguments == length pats)) is in
        let (same, count) = and-both (b.number == number) (length b.arguments == length pats) rest in
        let counted : length b.arguments ≡ length pats = grind (arith, nat_tests) in
        ap (matches_built n number (matches_all S (pats_of pats))) e
        ∙ (ap (λ c. c && matches_all S (pats_of pats) b.arguments) (and_from (b.n == n) (b.number == number) family same)
        ∙ ap (matches_all S (pats_of pats)) (last-arguments S t b (length pats) e counted))

pub not-whole-matches : (S : Signature) (n number : ℕ) (pats : List code.Pat) (found : Option Built) → is_whole_of n number (length pats) found ≡ false
    → matches_built n number (matches_all S (pats_of pats)) found ≡ false
not-whole-matches S n number pats None is = refl
not-whole-matches S n number pats (Some b) is = go (b.n == n) (b.number == number) (length b.arguments == length pats) refl is
  where
    go : (family same count : Bool) → (length b.arguments == length pats) ≡ count → (family && (same && count)) ≡ false
        → ((family && same) && matches_all S (pats_of pats) b.arguments) ≡ false
    go false same count e is = refl
    go true false count e is = refl
    go true true true e is = absurd (true≢false is)
    go true true false e is = matches-unequal S pats b.arguments e

-- a constructor's pattern is apart from the numbers that are found exactly where it is apart from the term
pub apart-found : (S : Signature) (n number : ℕ) (pats : List code.Pat) (t : Term) (m k count : ℕ)
    → Some (record { family = m; number = k; arguments = count }) ≡ option_map numbers_in (built_of S t) → m ≡ n → k ≡ number
    → is_apart S (Con n number (pats_of pats)) t
    ≡ ((count == length pats) && has_apart S (pats_of pats) (last (length pats) (spine_of t)))
apart-found S n number pats t m k count is family same = go (built_of S t) refl is
  where
    go : (o : Option Built) → built_of S t ≡ o → Some (record { family = m; number = k; arguments = count }) ≡ option_map numbers_in o
        → is_apart S (Con n number (pats_of pats)) t ≡ ((count == length pats) && has_apart S (pats_of pats) (last (length pats) (spine_of t)))
    go None e is = absurd (grind arith)
    go (Some b) e is =
        let (ns, ks, counts) = numbers-apart m k count b is in
        let one : is_constructor n number b ≡ true = and_from (b.n == n) (b.number == number) (grind (arith, nat_tests)) (grind (arith, nat_tests)) in
        ap (is_apart_from n number (pats_of pats) (has_apart S (pats_of pats))) e
        ∙ (ap (λ c. cond c (is_as_long (pats_of pats) b.arguments && has_apart S (pats_of pats) b.arguments) true) one
        ∙ (ap (λ c. c && has_apart S (pats_of pats) b.arguments) (long b counts)
        ∙ counted b e counts (count == length pats) refl))
      where
        numbers-apart : (m k count : ℕ) (b : Built) → Some (record { family = m; number = k; arguments = count }) ≡ Some (numbers_in b)
            → (m ≡ b.n) × (k ≡ b.number) × (count ≡ length b.arguments)
        numbers-apart m k count b is = (grind arith, grind arith, grind arith)

        long : (b : Built) → count ≡ length b.arguments → is_as_long (pats_of pats) b.arguments ≡ (count == length pats)
        long b counts = as-long-counted (map pat_of pats) b.arguments ∙ grind (arith, nat_tests, length-map pats pat_of)

        counted : (b : Built) → built_of S t ≡ Some b → count ≡ length b.arguments → (c : Bool) → (count == length pats) ≡ c
            → (c && has_apart S (pats_of pats) b.arguments) ≡ (c && has_apart S (pats_of pats) (last (length pats) (spine_of t)))
        counted b e counts false is = refl
        counted b e counts true is =
            ap (has_apart S (pats_of pats)) (last-arguments S t b (length pats) e (grind (arith, nat_tests)))
