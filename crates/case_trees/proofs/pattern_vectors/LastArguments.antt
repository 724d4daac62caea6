-- Patterns against the last arguments of a head, from the last one on.
use Rattle.std.proofs.Common.{◌≡◌, ℕ, ◌+◌, ◌-◌, ◌≤◌, Bool, true, false, ◌&&◌, ◌||◌, List, [], ◌∷◌, ◌++◌, length, take, drop, get_or, refl, ap, sym, ◌∙◌, arith}
use Rattle.std.proofs.lemmas.Bool.{and_right}
use Rattle.std.proofs.lemmas.List.{length-append, length-drop, take_more, take_all, drop_all, drop-append-le}
use Rattle.theory.specs.Terms.{Term}
use Rattle.theory.specs.Signatures.{Signature}
use Rattle.core_terms.specs.Patterns.{Pat, vector}
use Rattle.case_trees.specs.pattern_vectors.Matching.{matches, matches_all, is_apart, has_apart}
use Rattle.case_trees.specs.pattern_vectors.Whole.{last}

-- a list that is not empty is what is before its last item, and that
pub last-item : {A : Type 0} (xs : List A) (x : A) → 1 ≤ length xs → x ≡ get_or xs (length xs - 1) x → xs ≡ take (length xs - 1) xs ++ x ∷ []
last-item xs x some is =
    let on : length xs - 1 + 1 ≡ length xs = omega arith in
    sym (take_all (length xs) xs (omega arith)) ∙ (ap (λ k. take k xs) (sym on) ∙ (take_more xs (length xs - 1) x (omega arith) ∙ ap (λ y. take (length xs - 1) xs ++ y ∷ []) (sym is)))

pub last-snoc : {A : Type 0} (k : ℕ) (us : List A) (u : A) → last (k + 1) (us ++ u ∷ []) ≡ last k us ++ u ∷ []
last-snoc k us u =
    let counted = length-append us (u ∷ []) in
    let first : length (us ++ u ∷ []) - (k + 1) ≡ length us - k = omega (arith, counted) in
    ap (λ j. drop j (us ++ u ∷ [])) first ∙ drop-append-le (length us - k) us (u ∷ []) (omega arith)

pub last-none : {A : Type 0} (us : List A) → last 0 us ≡ []
last-none us = drop_all (length us - 0) us (omega arith)

pub matches-snoc : (S : Signature) (ps : List Pat) (p : Pat) (us : List Term) (u : Term)
    → matches_all S (vector (ps ++ p ∷ [])) (us ++ u ∷ []) ≡ (matches_all S (vector ps) us && matches S p u)
matches-snoc S [] p [] u = and-true (matches S p u)
  where
    and-true : (a : Bool) → (a && true) ≡ a
    and-true true = refl
    and-true false = refl
matches-snoc S [] p (v ∷ []) u = and_right (matches S p v) false refl
matches-snoc S [] p (v ∷ (w ∷ us)) u = and_right (matches S p v) false refl
matches-snoc S (q ∷ []) p [] u = and_right (matches S q u) false refl
matches-snoc S (q ∷ (r ∷ ps)) p [] u = and_right (matches S q u) false refl
matches-snoc S (q ∷ ps) p (v ∷ us) u = ap (λ b. matches S q v && b) (matches-snoc S ps p us u) ∙ associate (matches S q v) (matches_all S (vector ps) us) (matches S p u)
  where
    associate : (a b c : Bool) → (a && (b && c)) ≡ ((a && b) && c)
    associate true b c = refl
    associate false b c = refl

pub apart-snoc : (S : Signature) (ps : List Pat) (p : Pat) (us : List Term) (u : Term) → length ps ≡ length us
    → has_apart S (vector (ps ++ p ∷ [])) (us ++ u ∷ []) ≡ (has_apart S (vector ps) us || is_apart S p u)
apart-snoc S [] p [] u e = or-false (is_apart S p u)
  where
    or-false : (a : Bool) → (a || false) ≡ a
    or-false true = refl
    or-false false = refl
apart-snoc S [] p (v ∷ us) u e = absurd (grind arith)
apart-snoc S (q ∷ ps) p [] u e = absurd (grind arith)
apart-snoc S (q ∷ ps) p (v ∷ us) u e = ap (λ b. is_apart S q v || b) (apart-snoc S ps p us u (grind arith)) ∙ associate (is_apart S q v) (has_apart S (vector ps) us) (is_apart S p u)
  where
    associate : (a b c : Bool) → (a || (b || c)) ≡ ((a || b) || c)
    associate true b c = refl
    associate false b c = refl

length-last : {A : Type 0} (k : ℕ) (us : List A) → k ≤ length us → length (last k us) ≡ k
length-last k us le = length-drop (length us - k) us ∙ omega arith

-- one step from the last argument on
pub matches-last : (S : Signature) (ps : List Pat) (p : Pat) (us : List Term) (u : Term)
    → matches_all S (vector (ps ++ p ∷ [])) (last (length (ps ++ p ∷ [])) (us ++ u ∷ [])) ≡ (matches_all S (vector ps) (last (length ps) us) && matches S p u)
matches-last S ps p us u =
    ap (λ k. matches_all S (vector (ps ++ p ∷ [])) (last k (us ++ u ∷ []))) (length-append ps (p ∷ []))
    ∙ (ap (matches_all S (vector (ps ++ p ∷ []))) (last-snoc (length ps) us u) ∙ matches-snoc S ps p (last (length ps) us) u)

pub apart-last : (S : Signature) (ps : List Pat) (p : Pat) (us : List Term) (u : Term) → length ps ≤ length us
    → has_apart S (vector (ps ++ p ∷ [])) (last (length (ps ++ p ∷ [])) (us ++ u ∷ [])) ≡ (has_apart S (vector ps) (last (length ps) us) || is_apart S p u)
apart-last S ps p us u le =
    ap (λ k. has_apart S (vector (ps ++ p ∷ [])) (last k (us ++ u ∷ []))) (length-append ps (p ∷ []))
    ∙ (ap (has_apart S (vector (ps ++ p ∷ []))) (last-snoc (length ps) us u) ∙ apart-snoc S ps p (last (length ps) us) u (sym (length-last (length ps) us le)))
