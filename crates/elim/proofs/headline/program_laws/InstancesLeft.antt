-- An instance that a signature lacks may follow its entries in a core file.
use Rattle.std.proofs.Common.{◌≡◌, ◌==◌, ℕ, zero, suc, ◌+◌, ◌<◌, ◌≤◌, ◌⊎◌, inl, inr, Bool, true, false, not, ◌&&◌, ◌||◌, List, [], ◌∷◌, refl, sym, ap, subst, ◌∙◌, arith}
use Rattle.std.specs.Prelude.{Contains}
use Rattle.std.specs.List.{list_any}
use Rattle.std.proofs.lemmas.Bool.{and_parts, eqb-true, true≢false, cases_lt}
use Rattle.theory.specs.Terms.{top}
use Rattle.theory.specs.Signatures.{Entry, FamilyOf, EliminatorAt, AxiomKAt, Definition, Signature}
use Rattle.core_sig.specs.Instances.{is_eliminator, is_axiom_k}
use Rattle.core_text.specs.LineReading.{level_list}
use Rattle.core_text.specs.Reading.{is_left, some_left}

-- ---- what a signature lacks

module _ (p : Entry → Bool) (t : Entry) (one : (x : Entry) → p x ≡ true → x ≡ t) where
  there : (xs : List Entry) → list_any p xs ≡ true → Contains xs t
  there [] e = cc
  there (x ∷ xs) e = by (p x) refl e (there xs)
    where
      by : (b : Bool) → p x ≡ b → (b || list_any p xs) ≡ true → (list_any p xs ≡ true → Contains xs t) → Contains (x ∷ xs) t
      by true h e rest = (0, omega arith, one x h)
      by false h e rest = let w = rest e in (suc w.0, (let lt = w.1 in omega arith), w.2)

  pub lacks : (xs : List Entry) → ¬ (Contains xs t) → list_any p xs ≡ false
  lacks xs absent = by (list_any p xs) refl
    where
      by : (b : Bool) → list_any p xs ≡ b → list_any p xs ≡ false
      by true e = absurd (absent (there xs e))
      by false e = e

one-eliminator : (n m : ℕ) (x : Entry) → is_eliminator n m x ≡ true → x ≡ EliminatorAt n m
one-eliminator n m (EliminatorAt f l) e =
    let h = and_parts (f == n) (l == m) e in ap (λ k. EliminatorAt k l) (eqb-true f n h.0) ∙ ap (λ k. EliminatorAt n k) (eqb-true l m h.1)
one-eliminator n m (FamilyOf f) e = cc
one-eliminator n m (AxiomKAt i l) e = cc
one-eliminator n m (Definition name type body) e = cc

one-axiom_k : (i m : ℕ) (x : Entry) → is_axiom_k i m x ≡ true → x ≡ AxiomKAt i m
one-axiom_k i m (AxiomKAt j l) e =
    let h = and_parts (j == i) (l == m) e in ap (λ k. AxiomKAt k l) (eqb-true j i h.0) ∙ ap (λ k. AxiomKAt i k) (eqb-true l m h.1)
one-axiom_k i m (FamilyOf f) e = cc
one-axiom_k i m (EliminatorAt n l) e = cc
one-axiom_k i m (Definition name type body) e = cc

-- ---- levels

level-at : (left : ℕ → Bool) (n k v : ℕ) → v < k → is_left (level_list left n k) v ≡ left (n + v)
level-at left n zero v lt = absurd (omega arith)
level-at left n (suc k) zero lt = ap left (let e : n ≡ n + 0 = omega arith in e)
level-at left n (suc k) (suc v) lt = level-at left (n + 1) k v (omega arith) ∙ ap left (let e : n + 1 + v ≡ n + suc v = omega arith in e)

some-at : (levels : List Bool) (n k v : ℕ) → n ≤ v → v < n + k → is_left levels v ≡ true → some_left levels n k ≡ true
some-at levels n zero v le lt e = absurd (omega arith)
some-at levels n (suc k) v le lt e = by (is_left levels n) refl (cases_lt n v) (λ far. some-at levels (n + 1) k v (omega arith) (omega arith) e)
  where
    by : (b : Bool) → is_left levels n ≡ b → (n < v) ⊎ (v ≤ n) → (n < v → some_left levels (n + 1) k ≡ true) → (b || some_left levels (n + 1) k) ≡ true
    by true h far rest = refl
    by false h (inl far) rest = rest far
    by false h (inr near) rest = let same : v ≡ n = omega arith in absurd (true≢false (sym (subst (λ w. is_left levels w ≡ true) same e) ∙ h))

-- the levels at which the entries have no instance of a series
abbrev pub left-of : (ℕ → Entry → Bool) → List Entry → List Bool
left-of is es = level_list (λ m. not (list_any (is m) es)) 0 top

level-left : (is : ℕ → Entry → Bool) (es : List Entry) (m : ℕ) → m < top → list_any (is m) es ≡ false → is_left (left-of is es) m ≡ true
level-left is es m lt none =
    level-at (λ k. not (list_any (is k) es)) 0 top m lt ∙ ap (λ k. not (list_any (is k) es)) (let e : 0 + m ≡ m = omega arith in e) ∙ ap not none

pub eliminator-left : (es : List Entry) (n m : ℕ) → m < top → ¬ (Contains es (EliminatorAt n m)) → is_left (left-of (is_eliminator n) es) m ≡ true
eliminator-left es n m lt absent = level-left (is_eliminator n) es m lt (lacks (is_eliminator n m) (EliminatorAt n m) (one-eliminator n m) es absent)

pub axiom_k-left : (es : List Entry) (i m : ℕ) → m < top → ¬ (Contains es (AxiomKAt i m)) → is_left (left-of (is_axiom_k i) es) m ≡ true
axiom_k-left es i m lt absent = level-left (is_axiom_k i) es m lt (lacks (is_axiom_k i m) (AxiomKAt i m) (one-axiom_k i m) es absent)

-- the identities of which some instance is left
pub identity-left : (es : List Entry) (i m : ℕ) → i < top → m < top → is_left (left-of (is_axiom_k i) es) m ≡ true
    → is_left (level_list (λ j. some_left (left-of (is_axiom_k j) es) 0 top) 0 top) i ≡ true
identity-left es i m small lt left =
    level-at (λ j. some_left (left-of (is_axiom_k j) es) 0 top) 0 top i small
    ∙ ap (λ j. some_left (left-of (is_axiom_k j) es) 0 top) (let e : 0 + i ≡ i = omega arith in e)
    ∙ some-at (left-of (is_axiom_k i) es) 0 top m (omega arith) (omega arith) left
