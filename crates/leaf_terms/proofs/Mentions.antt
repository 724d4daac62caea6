-- Places that are mentioned, each once.
use Rattle.std.proofs.Common.{◌≡◌, ℕ, ◌==◌, Bool, true, false, ◌||◌, cond, List, [], ◌∷◌, ◌++◌, refl, sym, ap, ap₂, ◌∙◌}
use Rattle.tele_eq.specs.Levels.{is_among}
use Rattle.tele_eq.proofs.Growing.{append-none, snoc-append}
use Rattle.tree_translation.specs.Naming.{once}
use Rattle.leaf_terms.specs.CodeNumbering.{all_new, with_new}

pub append-append : {A : Type 0} (xs ys zs : List A) → (xs ++ ys) ++ zs ≡ xs ++ (ys ++ zs)
append-append [] ys zs = refl
append-append (x ∷ xs) ys zs = ap (λ l. x ∷ l) (append-append xs ys zs)

pub ruleset joining = (append-append, append-none)

-- the last place is as good as the first one
or-swap : (a b c : Bool) → (a || (b || c)) ≡ (b || (a || c))
or-swap true true c = refl
or-swap true false c = refl
or-swap false true c = refl
or-swap false false c = refl

among-snoc : (j : ℕ) (seen : List ℕ) (i : ℕ) → is_among j (seen ++ i ∷ []) ≡ is_among j (i ∷ seen)
among-snoc j [] i = refl
among-snoc j (k ∷ seen) i =
    ap (λ b. (k == j) || b) (among-snoc j seen i) ∙ or-swap (k == j) (i == j) (is_among j seen)

-- lists with the same elements leave out the same places
once-same : (seen other places : List ℕ) → ((j : ℕ) → is_among j seen ≡ is_among j other) → once seen places ≡ once other places
once-same seen other [] same = refl
once-same seen other (i ∷ places) same =
    ap (λ b. cond b (once seen places) (i ∷ once (i ∷ seen) places)) (same i)
    ∙ ap₂ (λ xs ys. cond (is_among i other) xs (i ∷ ys)) (once-same seen other places same)
    (once-same (i ∷ seen) (i ∷ other) places (λ j. ap (λ b. (i == j) || b) (same j)))

pub once-snoc : (seen : List ℕ) (i : ℕ) (places : List ℕ) → once (seen ++ i ∷ []) places ≡ once (i ∷ seen) places
once-snoc seen i places = once-same (seen ++ i ∷ []) (i ∷ seen) places (λ j. among-snoc j seen i)

next-once : (made : List ℕ) (i : ℕ) (places : List ℕ) (b : Bool)
    → cond b made (made ++ i ∷ []) ++ once (cond b made (made ++ i ∷ [])) places
    ≡ made ++ cond b (once made places) (i ∷ once (i ∷ made) places)
next-once made i places true = refl
next-once made i places false =
    snoc-append made i (once (made ++ i ∷ []) places) ∙ ap (λ l. made ++ i ∷ l) (once-snoc made i places)

new-once : (made places : List ℕ) → all_new made places ≡ made ++ once made places
new-once made [] = sym (append-none made)
new-once made (i ∷ places) = new-once (with_new made i) places ∙ next-once made i places (is_among i made)

-- each place once, where none is there yet
pub first-once : (places : List ℕ) → all_new [] places ≡ once [] places
first-once places = new-once [] places

pub ruleset once_laws = (first-once)
