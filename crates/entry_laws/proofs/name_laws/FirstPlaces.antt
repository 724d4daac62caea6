-- Places in the order of their first mention: lists that read the same, whatever was seen before them.
use Rattle.std.proofs.Common.{◌≡◌, ℕ, ◌==◌, ◌||◌, Bool, true, false, cond, List, [], ◌∷◌, ◌++◌, refl, sym, ap, subst, ◌∙◌, append_assoc}
use Rattle.std.proofs.lemmas.Bool.{true≢false, eqb-true, eq-eqb}
use Rattle.std.proofs.lemmas.List.{append-nil}
use Rattle.tele_eq.specs.Levels.{is_among}
use Rattle.tree_translation.proofs.structural_rec.Members.{among-later}
use Rattle.tree_translation.specs.Naming.{once}
use Rattle.entry_laws.proofs.OnlyConstants.{Each}

-- the places that are seen once these are found
abbrev pub seen_with : (seen found : List ℕ) → List ℕ
seen_with seen [] = seen
seen_with seen (i ∷ found) = seen_with (i ∷ seen) found

pub once-append : (seen xs ys : List ℕ) → once seen (xs ++ ys) ≡ once seen xs ++ once (seen_with seen (once seen xs)) ys
once-append seen [] ys = refl
once-append seen (i ∷ xs) ys = by (is_among i seen) (once-append seen xs ys) (once-append (i ∷ seen) xs ys)
  where
    by : (b : Bool) → once seen (xs ++ ys) ≡ once seen xs ++ once (seen_with seen (once seen xs)) ys
        → once (i ∷ seen) (xs ++ ys) ≡ once (i ∷ seen) xs ++ once (seen_with (i ∷ seen) (once (i ∷ seen) xs)) ys
        → cond b (once seen (xs ++ ys)) (i ∷ once (i ∷ seen) (xs ++ ys))
        ≡ cond b (once seen xs) (i ∷ once (i ∷ seen) xs) ++ once (seen_with seen (cond b (once seen xs) (i ∷ once (i ∷ seen) xs))) ys
    by true old new = old
    by false old new = ap (λ places. i ∷ places) new

-- ---- lists with the same first mentions

abbrev pub Same : (xs ys : List ℕ) → Type 0
Same xs ys = (seen : List ℕ) → once seen xs ≡ once seen ys

pub same-refl : (xs : List ℕ) → Same xs xs
same-refl xs seen = refl

pub same-is : (xs ys : List ℕ) → xs ≡ ys → Same xs ys
same-is xs ys e seen = ap (once seen) e

pub same-trans : (xs ys zs : List ℕ) → Same xs ys → Same ys zs → Same xs zs
same-trans xs ys zs h k seen = h seen ∙ k seen

pub same-append : (xs ys zs ws : List ℕ) → Same xs ys → Same zs ws → Same (xs ++ zs) (ys ++ ws)
same-append xs ys zs ws h k seen =
    once-append seen xs zs
    ∙ (ap (λ found. found ++ once (seen_with seen found) zs) (h seen)
    ∙ (ap (λ rest. once seen ys ++ rest) (k (seen_with seen (once seen ys))) ∙ sym (once-append seen ys ws)))

-- ---- places that are mentioned again

seen-stays : (seen found : List ℕ) (j : ℕ) → is_among j seen ≡ true → is_among j (seen_with seen found) ≡ true
seen-stays seen [] j h = h
seen-stays seen (i ∷ found) j h = seen-stays (i ∷ seen) found j (among-later j i seen h)

-- each place of a list is seen after it
seen-all : (seen xs : List ℕ) (j : ℕ) → is_among j xs ≡ true → is_among j (seen_with seen (once seen xs)) ≡ true
seen-all seen [] j h = absurd (true≢false (sym h))
seen-all seen (i ∷ xs) j h = by (is_among i seen) refl (i == j) refl h (seen-all seen xs j) (seen-all (i ∷ seen) xs j)
  where
    first : (b : Bool) → is_among i seen ≡ b → (i == j) ≡ true
        → is_among j (seen_with seen (cond b (once seen xs) (i ∷ once (i ∷ seen) xs))) ≡ true
    first true e same = seen-stays seen (once seen xs) j (sym (ap (λ k. is_among k seen) (eqb-true i j same)) ∙ e)
    first false e same = seen-stays (i ∷ seen) (once (i ∷ seen) xs) j (ap (λ b. b || is_among j seen) same)

    by : (b : Bool) → is_among i seen ≡ b → (c : Bool) → (i == j) ≡ c → (c || is_among j xs) ≡ true
        → (is_among j xs ≡ true → is_among j (seen_with seen (once seen xs)) ≡ true)
        → (is_among j xs ≡ true → is_among j (seen_with (i ∷ seen) (once (i ∷ seen) xs)) ≡ true)
        → is_among j (seen_with seen (cond b (once seen xs) (i ∷ once (i ∷ seen) xs))) ≡ true
    by b e true same k old new = first b e same
    by true e false other k old new = old k
    by false e false other k old new = new k

once-none : (seen ys : List ℕ) → Each (λ j. is_among j seen ≡ true) ys → once seen ys ≡ []
once-none seen [] Each.none = refl
once-none seen (j ∷ ys) (Each.more h all) = ap (λ b. cond b (once seen ys) (j ∷ once (j ∷ seen) ys)) h ∙ once-none seen ys all

-- nothing is new in what holds of those before it alone
abbrev pub Repeats : (places again : List ℕ) → Type 0
Repeats places again = Same (places ++ again) places

pub repeats-none : (places : List ℕ) → Repeats places []
repeats-none places = same-is (places ++ []) places (append-nil places)

each-seen : (seen places : List ℕ) (ys : List ℕ) → Each (λ j. is_among j places ≡ true) ys
    → Each (λ j. is_among j (seen_with seen (once seen places)) ≡ true) ys
each-seen seen places [] Each.none = Each.none
each-seen seen places (j ∷ ys) (Each.more h all) = Each.more (seen-all seen places j h) (each-seen seen places ys all)

repeats-each : (places ys : List ℕ) → Each (λ j. is_among j places ≡ true) ys → Repeats places ys
repeats-each places ys all seen =
    once-append seen places ys
    ∙ (ap (λ rest. once seen places ++ rest) (once-none (seen_with seen (once seen places)) ys (each-seen seen places ys all))
    ∙ append-nil (once seen places))

-- the places of a list are among those of a longer one
among-middle : (before rest : List ℕ) (j : ℕ) → is_among j (before ++ j ∷ rest) ≡ true
among-middle [] rest j = ap (λ b. b || is_among j rest) (eq-eqb j j refl)
among-middle (i ∷ before) rest j = among-later j i (before ++ j ∷ rest) (among-middle before rest j)

each-among : (before places rest : List ℕ) → Each (λ j. is_among j (before ++ (places ++ rest)) ≡ true) places
each-among before [] rest = Each.none
each-among before (j ∷ places) rest =
    Each.more (among-middle before (places ++ rest) j)
    (subst (λ all. Each (λ j. is_among j all ≡ true) places) (append_assoc before (j ∷ []) (places ++ rest)) (each-among (before ++ j ∷ []) places rest))

-- the first places are mentioned again
pub repeats-first : (places more : List ℕ) → Repeats (places ++ more) places
repeats-first places more = repeats-each (places ++ more) places (each-among [] places more)

pub repeats-own : (places : List ℕ) → Repeats places places
repeats-own places = subst (λ all. Repeats all places) (append-nil places) (repeats-first places [])

pub repeats-append : (places xs ys : List ℕ) → Repeats places xs → Repeats places ys → Repeats places (xs ++ ys)
repeats-append places xs ys h k =
    same-trans (places ++ (xs ++ ys)) ((places ++ xs) ++ ys) places
    (same-is (places ++ (xs ++ ys)) ((places ++ xs) ++ ys) (sym (append_assoc places xs ys)))
    (same-trans ((places ++ xs) ++ ys) (places ++ ys) places (same-append (places ++ xs) places ys ys h (same-refl ys)) k)

-- what is mentioned again before other places
pub repeats-before : (places again rest : List ℕ) → Repeats places again → Same (places ++ (again ++ rest)) (places ++ rest)
repeats-before places again rest h =
    same-trans (places ++ (again ++ rest)) ((places ++ again) ++ rest) (places ++ rest)
    (same-is (places ++ (again ++ rest)) ((places ++ again) ++ rest) (sym (append_assoc places again rest)))
    (same-append (places ++ again) places rest rest h (same-refl rest))
