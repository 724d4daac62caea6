-- The choice: the first usable pair, or the rows of all pairs.
use Rattle.std.proofs.Common.{◌≡◌, inl, inr, ℕ, suc, Option, Some, None, List, [], ◌∷◌, ◌++◌, length, refl, sym, ap, ap₂, ◌∙◌, subst, arith}
use Rattle.std.specs.Prelude.{◌↔◌, All, AllPairs}
use Rattle.std.proofs.lemmas.List.Elements.{All-nil, All-cons, All-head, All-tail}
use Rattle.std.proofs.lemmas.Option.{none-some}
use Rattle.theory.specs.Terms.{Term}
use Rattle.theory.specs.Signatures.{Signature}
use Rattle.theory.proofs.Lists.{some_is}
use Rattle.tree_translation.specs.structural_rec.Uses.{Use}
use Rattle.lex_recursion.specs.FittingPairs.{IsUsablePair}
use Rattle.lex_recursion.specs.PairChoices.{At, Failing, FailingPair, PairChoice, choose_among, choose_pair, first_failing, or_later, with_rows}
use Rattle.lex_recursion.specs.PairLaws.{AreRows, IsFirstFailing, IsFirstUsable}
use Rattle.lex_recursion.specs.PairLaws.AreRows.{none, failed}
use Rattle.lex_recursion.specs.Pairs.{IsPair, Pair, Precedes, pairs}
use Rattle.lex_recursion.proofs.FirstFailing.{first-none, first-some, none-first, some-first}
use Rattle.lex_recursion.proofs.ListedPairs.{Has, has-cases, has-left, has-right, pairs-ascend, pairs-found, pairs-tells}

-- ---- the answers are different

abbrev at_of : PairChoice → Option (ℕ × ℕ)
at_of (At j k) = Some (j, k)
at_of (Failing rows) = None

abbrev rows_of : PairChoice → Option (List FailingPair)
rows_of (Failing rows) = Some rows
rows_of (At j k) = None

-- ---- elements of lists in order

-- the elements before and after one of a list
record IsSplit {A : Type 0} (x : A) (xs : List A) : Type 0 where
  before : List A
  behind : List A
  form : xs ≡ before ++ x ∷ behind

has-split : {A : Type 0} (x : A) (xs : List A) → Has x xs → IsSplit x xs
has-split x [] h = absurd h
has-split x (y ∷ xs) (inl e) = record { before = []; behind = xs; form = ap (λ z. z ∷ xs) e }
has-split x (y ∷ xs) (inr h) =
    let rest = has-split x xs h in
    record { before = y ∷ rest.before; behind = rest.behind; form = ap (λ zs. y ∷ zs) rest.form }

has-at : {A : Type 0} (P : A → Type 0) (x : A) (xs : List A) → All P xs → Has x xs → P x
has-at P x [] all h = absurd h
has-at P x (y ∷ xs) all (inl e) = subst P e (All-head P y xs all)
has-at P x (y ∷ xs) all (inr h) = has-at P x xs (All-tail P y xs all) h

all-has : {A : Type 0} (P : A → Type 0) (xs : List A) → ((x : A) → Has x xs → P x) → All P xs
all-has P [] h = All-nil P
all-has P (x ∷ xs) h = All-cons P x xs (h x (inl refl)) (all-has P xs (λ y has. h y (inr has)))

pairs-first : {A : Type 0} (R : A → A → Type 0) (x : A) (xs : List A) → AllPairs R (x ∷ xs) → All (R x) xs
pairs-first R x xs h = λ k d lt. h 0 (suc k) d (omega arith) (omega arith)

pairs-others : {A : Type 0} (R : A → A → Type 0) (x : A) (xs : List A) → AllPairs R (x ∷ xs) → AllPairs R xs
pairs-others R x xs h = λ i k d lt within. h (suc i) (suc k) d (omega arith) (omega arith)

-- an element before one of the list, and one after it
earlier-related : {A : Type 0} (R : A → A → Type 0) (before : List A) (x : A) (behind : List A) → AllPairs R (before ++ x ∷ behind) → (y : A) → Has y before → R y x
earlier-related R [] x behind h y has = absurd has
earlier-related R (z ∷ before) x behind h y (inl e) =
    subst (λ v. R v x) e (has-at (R z) x (before ++ x ∷ behind) (pairs-first R z (before ++ x ∷ behind) h) (has-right x before (x ∷ behind) (inl refl)))
earlier-related R (z ∷ before) x behind h y (inr has) = earlier-related R before x behind (pairs-others R z (before ++ x ∷ behind) h) y has

later-related : {A : Type 0} (R : A → A → Type 0) (before : List A) (x : A) (behind : List A) → AllPairs R (before ++ x ∷ behind) → (y : A) → Has y behind → R x y
later-related R [] x behind h y has = has-at (R x) y behind (pairs-first R x behind h) has
later-related R (z ∷ before) x behind h y has = later-related R before x behind (pairs-others R z (before ++ x ∷ behind) h) y has

-- no pair precedes itself, or one that precedes it
precedes-once : (p q : Pair) → Precedes p q → Precedes q p → ⊥
precedes-once p q (inl one) (inl other) = omega arith
precedes-once p q (inl one) (inr other) = let same = other.0 in omega arith
precedes-once p q (inr one) (inl other) = let same = one.0 in omega arith
precedes-once p q (inr one) (inr other) = let lt = one.1 in let gt = other.1 in omega arith

-- ---- a pair that is chosen

-- a pair has a call that does not fit it
abbrev HasFailing : (S : Signature) (own count : ℕ) (uses : List Use) → Pair → Type 0
HasFailing S own count uses p = (row : FailingPair) × IsFirstFailing S own count p uses row

record IsTaken (S : Signature) (own count : ℕ) (uses : List Use) (ps : List Pair) (j k : ℕ) : Type 0 where
  before : List Pair
  pair : Pair
  behind : List Pair
  split : ps ≡ before ++ pair ∷ behind
  failing : All (HasFailing S own count uses) before
  usable : IsUsablePair S own count pair uses
  first : pair.first ≡ j
  second : pair.second ≡ k

with-rows-at : (rows : List FailingPair) (c : PairChoice) (j k : ℕ) → with_rows rows c ≡ At j k → c ≡ At j k
with-rows-at rows (At i n) j k h = h
with-rows-at rows (Failing more) j k h = absurd (none-some (j, k) (ap at_of h))

at-tells : (S : Signature) (own count : ℕ) (uses : List Use) (ps : List Pair) (j k : ℕ) → choose_among S own count uses ps ≡ At j k
    → IsTaken S own count uses ps j k
at-tells S own count uses [] j k h = absurd (none-some (j, k) (ap at_of h))
at-tells S own count uses (p ∷ ps) j k h = by (first_failing S own count p uses) refl (at-tells S own count uses ps j k) h
  where
    by : (o : Option FailingPair) → first_failing S own count p uses ≡ o
        → (choose_among S own count uses ps ≡ At j k → IsTaken S own count uses ps j k) → or_later p o (choose_among S own count uses ps) ≡ At j k
        → IsTaken S own count uses (p ∷ ps) j k
    by None e more h =
        let same = some_is (ap at_of h) in
        record { before = []; pair = p; behind = ps; split = refl; failing = All-nil (HasFailing S own count uses); usable = first-none S own count p uses e; first = ap (λ x. x.0) same; second = ap (λ x. x.1) same }
    by (Some row) e more h =
        let rest = more (with-rows-at (row ∷ []) (choose_among S own count uses ps) j k h) in
        record {
          before = p ∷ rest.before;
          pair = rest.pair;
          behind = rest.behind;
          split = ap (λ qs. p ∷ qs) rest.split;
          failing = All-cons (HasFailing S own count uses) p rest.before (row, first-some S own count p uses row e) rest.failing;
          usable = rest.usable;
          first = rest.first;
          second = rest.second;
        }

at-found : (S : Signature) (own count : ℕ) (uses : List Use) (before : List Pair) (p : Pair) (behind : List Pair) → All (HasFailing S own count uses) before
    → IsUsablePair S own count p uses → choose_among S own count uses (before ++ p ∷ behind) ≡ At p.first p.second
at-found S own count uses [] p behind failing usable =
    ap (λ o. or_later p o (choose_among S own count uses behind)) (none-first S own count p uses usable)
at-found S own count uses (q ∷ before) p behind failing usable =
    let row = All-head (HasFailing S own count uses) q before failing in
    ap (λ o. or_later q o (choose_among S own count uses (before ++ p ∷ behind))) (some-first S own count q uses row.0 row.1)
    ∙ ap (with_rows (row.0 ∷ [])) (at-found S own count uses before p behind (All-tail (HasFailing S own count uses) q before failing) usable)

pub first-usable : (S : Signature) (tele : List Term) (own : ℕ) (uses : List Use) (j k : ℕ)
    → (choose_pair S tele own uses ≡ At j k) ↔ IsFirstUsable S tele own uses j k
first-usable S tele own uses j k = (tells, found)
  where
    count : ℕ
    count = length tele

    tells : choose_pair S tele own uses ≡ At j k → IsFirstUsable S tele own uses j k
    tells h = record {
      pair = is.pair;
      is_pair = pairs-tells S tele is.pair (subst (Has is.pair) (sym is.split) (has-right is.pair is.before (is.pair ∷ is.behind) (inl refl)));
      first = is.first;
      second = is.second;
      usable = is.usable;
      earlier = earlier;
    }
      where
        is : IsTaken S own count uses (pairs S tele) j k
        is = at-tells S own count uses (pairs S tele) j k h

        ascend : AllPairs Precedes (is.before ++ is.pair ∷ is.behind)
        ascend = subst (AllPairs Precedes) is.split (pairs-ascend S tele)

        among-others : (q : Pair) → Precedes q is.pair → Has q (is.pair ∷ is.behind) → HasFailing S own count uses q
        among-others q before (inl same) =
            let itself : Precedes q q = subst (λ p. Precedes q p) same before in
            absurd (precedes-once q q itself itself)
        among-others q before (inr has) = absurd (precedes-once q is.pair before (later-related Precedes is.before is.pair is.behind ascend q has))

        earlier : (q : Pair) → IsPair S tele q → Precedes q is.pair → HasFailing S own count uses q
        earlier q pair before = elim (has-cases q is.before (is.pair ∷ is.behind) (subst (Has q) is.split (pairs-found S tele q pair))) [
          | inl front ↦ has-at (HasFailing S own count uses) q is.before is.failing front
          | inr back ↦ among-others q before back
        ]

    found : IsFirstUsable S tele own uses j k → choose_pair S tele own uses ≡ At j k
    found is =
        ap (choose_among S own count uses) split.form
        ∙ (at-found S own count uses split.before is.pair split.behind (all-has (HasFailing S own count uses) split.before failing) is.usable
        ∙ ap₂ At is.first is.second)
      where
        split : IsSplit is.pair (pairs S tele)
        split = has-split is.pair (pairs S tele) (pairs-found S tele is.pair is.is_pair)

        ascend : AllPairs Precedes (split.before ++ is.pair ∷ split.behind)
        ascend = subst (AllPairs Precedes) split.form (pairs-ascend S tele)

        failing : (q : Pair) → Has q split.before → HasFailing S own count uses q
        failing q has =
            is.earlier q
            (pairs-tells S tele q (subst (Has q) (sym split.form) (has-left q split.before (is.pair ∷ split.behind) has)))
            (earlier-related Precedes split.before is.pair split.behind ascend q has)

-- ---- rows

record AreAfter (row : FailingPair) (c : PairChoice) (rows : List FailingPair) : Type 0 where
  others : List FailingPair
  rest : c ≡ Failing others
  form : row ∷ others ≡ rows

with-rows-failing : (row : FailingPair) (c : PairChoice) (rows : List FailingPair) → with_rows (row ∷ []) c ≡ Failing rows → AreAfter row c rows
with-rows-failing row (Failing others) rows h = record { others = others; rest = refl; form = some_is (ap rows_of h) }
with-rows-failing row (At j k) rows h = absurd (none-some rows (ap rows_of h))

rows-tells : (S : Signature) (own count : ℕ) (uses : List Use) (ps : List Pair) (rows : List FailingPair) → choose_among S own count uses ps ≡ Failing rows
    → AreRows S own count uses ps rows
rows-tells S own count uses [] rows h = subst (AreRows S own count uses []) (some_is (ap rows_of h)) none
rows-tells S own count uses (p ∷ ps) rows h = by (first_failing S own count p uses) refl (rows-tells S own count uses ps) h
  where
    by : (o : Option FailingPair) → first_failing S own count p uses ≡ o
        → ((others : List FailingPair) → choose_among S own count uses ps ≡ Failing others → AreRows S own count uses ps others)
        → or_later p o (choose_among S own count uses ps) ≡ Failing rows → AreRows S own count uses (p ∷ ps) rows
    by None e more h = absurd (none-some rows (ap rows_of h))
    by (Some row) e more h =
        let w = with-rows-failing row (choose_among S own count uses ps) rows h in
        subst (AreRows S own count uses (p ∷ ps)) w.form (failed (first-some S own count p uses row e) (more w.others w.rest))

rows-found : (S : Signature) (own count : ℕ) (uses : List Use) {ps : List Pair} {rows : List FailingPair} → AreRows S own count uses ps rows
    → choose_among S own count uses ps ≡ Failing rows
rows-found S own count uses none = refl
rows-found S own count uses (failed {p} {others} {row} {rows} f more) =
    ap (λ o. or_later p o (choose_among S own count uses others)) (some-first S own count p uses row f)
    ∙ ap (with_rows (row ∷ [])) (rows-found S own count uses more)

pub failing-exact : (S : Signature) (tele : List Term) (own : ℕ) (uses : List Use) (rows : List FailingPair)
    → (choose_pair S tele own uses ≡ Failing rows) ↔ AreRows S own (length tele) uses (pairs S tele) rows
failing-exact S tele own uses rows =
    (rows-tells S own (length tele) uses (pairs S tele) rows, λ are. rows-found S own (length tele) uses are)
