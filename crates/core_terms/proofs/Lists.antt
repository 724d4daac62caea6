-- A list as far as a loop along it has come.
use Rattle.std.proofs.Common.{◌≡◌, ℕ, zero, suc, ◌+◌, ◌-◌, ◌<◌, List, [], ◌∷◌, ◌++◌, map, length, take, drop, get_or, All, refl, ap, ap₂, sym, ◌∙◌, add-one, drop-cons, subst as transport, arith}
use Rattle.std.proofs.lemmas.List.{length-append, length-map, take_all}
use Rattle.std.proofs.lemmas.List.Elements.{All-append, All-cons, All-nil, All-tail}
use Rattle.std.proofs.Math.Seq.{take-suc}
use Rattle.theory.specs.Terms as tree
use Rattle.core_terms.specs.Meanings.{tree_of, tele_of}
use Rattle.core_terms.specs.declared.term.Term.{Term}

-- the list from number k on begins with that element
pub drop-at : {A : Type 0} (xs : List A) (k : ℕ) (a : A) → k < length xs → a ≡ get_or xs k a → drop k xs ≡ a ∷ drop (k + 1) xs
drop-at xs k a lt is = drop-cons xs k a lt ∙ ap₂ (λ b n. b ∷ drop n xs) (sym is) (sym (add-one k))

-- the first k + 1 elements are the first k and the element at k
pub take-more : {A : Type 0} (xs : List A) (k : ℕ) (a : A) → k < length xs → a ≡ get_or xs k a → take (k + 1) xs ≡ take k xs ++ a ∷ []
take-more xs k a lt is =
    ap (λ n. take n xs) (add-one k) ∙ (take-suc xs k a lt ∙ ap (λ b. take k xs ++ b ∷ []) (sym is))

map-at : {A B : Type 0} (f : A → B) (xs : List A) (k : ℕ) (d : A) → get_or (map f xs) k (f d) ≡ f (get_or xs k d)
map-at f [] k d = refl
map-at f (x ∷ xs) zero d = refl
map-at f (x ∷ xs) (suc k) d = map-at f xs k d

-- the meaning of an element of the code
pub map-item : {A B : Type 0} (f : A → B) (xs : List A) (k : ℕ) (x : A) → x ≡ get_or xs k x → f x ≡ get_or (map f xs) k (f x)
map-item f xs k x is = ap f is ∙ sym (map-at f xs k x)

-- within the list the default does not matter
pub get-any : {A : Type 0} (xs : List A) (k : ℕ) (d e : A) → k < length xs → get_or xs k d ≡ get_or xs k e
get-any [] k d e lt = absurd (omega arith)
get-any (x ∷ xs) zero d e lt = refl
get-any (x ∷ xs) (suc k) d e lt = get-any xs k d e (omega arith)

pub count-more : {A : Type 0} (xs ys : List A) (x : A) → ys ≡ xs ++ x ∷ [] → length xs + 1 ≡ length ys
count-more xs ys x is = let count = ap length is in omega (arith, length-append xs (x ∷ []))

pub all-more : {A : Type 0} (P : A → Type 0) (xs ys : List A) (x : A) → ys ≡ xs ++ x ∷ [] → All P xs → P x → All P ys
all-more P xs ys x is h k = transport (All P) (sym is) (All-append P xs (x ∷ []) h (All-cons P x [] k (All-nil P)))

-- a term of the code among its trees
pub value-at : (values : List Term) (k : ℕ) (r : Term) → k < length values → r ≡ get_or values k r → get_or (tele_of values) k (tree_of r) ≡ tree_of r
value-at [] k r low e = absurd (omega arith)
value-at (v ∷ values) zero r low e = ap tree_of (sym e)
value-at (v ∷ values) (suc k) r low e = value-at values k r (omega arith) e

pub value-has : (P : tree.Term → Type 0) (values : List Term) (k : ℕ) (r : Term) → k < length values → r ≡ get_or values k r → All P (tele_of values) → P (tree_of r)
value-has P values k r low e h =
    transport P (value-at values k r low e) (h k (tree_of r) (transport (λ n. k < n) (sym (length-map values tree_of)) low))

-- a property of all terms is one of those after the first
pub rest-have : (P : tree.Term → Type 0) (terms : List Term) → All P (tele_of terms) → All P (tele_of (take (length terms - 1) (drop 1 terms)))
rest-have P [] h = h
rest-have P (t ∷ terms) h =
    transport (λ ts. All P (tele_of ts)) (sym (take_all (length (t ∷ terms) - 1) terms (omega arith)))
    (All-tail P (tree_of t) (tele_of terms) h)
