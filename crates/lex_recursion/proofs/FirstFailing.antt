-- The first call that does not fit a pair: it is found exactly where there is one.
use Rattle.std.proofs.Common.{◌≡◌, inl, inr, ℕ, Bool, true, false, ◌||◌, not, cond, Option, Some, None, option_map, List, [], ◌∷◌, ◌++◌, refl, sym, ap, ◌∙◌, subst}
use Rattle.std.specs.Prelude.{◌↔◌, All, find}
use Rattle.std.specs.Option.{option_or}
use Rattle.std.proofs.lemmas.Bool.{false≢true, or_left, or_right}
use Rattle.std.proofs.lemmas.List.Elements.{All-nil, All-cons, All-head, All-tail}
use Rattle.std.proofs.lemmas.Option.{none-some}
use Rattle.theory.specs.Terms.{Term}
use Rattle.theory.specs.Signatures.{Signature}
use Rattle.theory.proofs.Lists.{some_is}
use Rattle.case_below_gen.proofs.PartTests.{or-tells}
use Rattle.tree_translation.specs.structural_rec.Calls.{Call, calls}
use Rattle.tree_translation.specs.structural_rec.Fitting.{fits}
use Rattle.tree_translation.specs.structural_rec.Uses.{Use}
use Rattle.tree_translation.proofs.structural_rec.FittingCalls.{fit-decides}
use Rattle.lex_recursion.specs.FittingPairs.{FitsPair, IsUsablePair, fits_pair}
use Rattle.lex_recursion.specs.PairChoices.{FailingPair, failing_in, failing_row, first_failing}
use Rattle.lex_recursion.specs.PairLaws.{IsFirstFailing}
use Rattle.lex_recursion.specs.Pairs.{Pair}

pub pair-fits : (S : Signature) (count : ℕ) (p : Pair) (terms : List Term) (c : Call) → (fits_pair S count p terms c ≡ true) ↔ FitsPair S count p terms c
pair-fits S count p terms c = (tells, found)
  where
    first : Bool
    first = fits S count p.first p.outer terms c

    second : Bool
    second = fits S count p.second p.inner terms c

    tells : (first || second) ≡ true → FitsPair S count p terms c
    tells h = elim (or-tells first second h) [
      | inl one ↦ inl ((fit-decides S count p.first p.outer terms c).0 one)
      | inr other ↦ inr ((fit-decides S count p.second p.inner terms c).0 other)
    ]

    found : FitsPair S count p terms c → (first || second) ≡ true
    found (inl one) = or_left first second ((fit-decides S count p.first p.outer terms c).1 one)
    found (inr other) = or_right first second ((fit-decides S count p.second p.inner terms c).1 other)

-- ---- among calls

-- the first of the calls that does not fit
pub record FailsFirst (S : Signature) (count : ℕ) (p : Pair) (terms : List Term) (cs : List Call) (c : Call) : Type 0 where
  pub first : List Call
  pub others : List Call
  pub parted : cs ≡ first ++ c ∷ others
  pub fitting : All (FitsPair S count p terms) first
  pub fails : ¬ FitsPair S count p terms c

abbrev first_call : (S : Signature) (count : ℕ) (p : Pair) (terms : List Term) → List Call → Option Call
first_call S count p terms cs = find (λ c. not (fits_pair S count p terms c)) cs

call-none : (S : Signature) (count : ℕ) (p : Pair) (terms : List Term) (cs : List Call) → first_call S count p terms cs ≡ None → All (FitsPair S count p terms) cs
call-none S count p terms [] h = All-nil (FitsPair S count p terms)
call-none S count p terms (c ∷ cs) h = by (fits_pair S count p terms c) refl (call-none S count p terms cs) h
  where
    by : (b : Bool) → fits_pair S count p terms c ≡ b → (first_call S count p terms cs ≡ None → All (FitsPair S count p terms) cs)
        → cond (not b) (Some c) (first_call S count p terms cs) ≡ None → All (FitsPair S count p terms) (c ∷ cs)
    by true e rest h = All-cons (FitsPair S count p terms) c cs ((pair-fits S count p terms c).0 e) (rest h)
    by false e rest h = absurd (none-some c (sym h))

none-call : (S : Signature) (count : ℕ) (p : Pair) (terms : List Term) (cs : List Call) → All (FitsPair S count p terms) cs → first_call S count p terms cs ≡ None
none-call S count p terms [] h = refl
none-call S count p terms (c ∷ cs) h =
    ap (λ b. cond (not b) (Some c) (first_call S count p terms cs)) ((pair-fits S count p terms c).1 (All-head (FitsPair S count p terms) c cs h))
    ∙ none-call S count p terms cs (All-tail (FitsPair S count p terms) c cs h)

call-some : (S : Signature) (count : ℕ) (p : Pair) (terms : List Term) (cs : List Call) (one : Call) → first_call S count p terms cs ≡ Some one
    → FailsFirst S count p terms cs one
call-some S count p terms [] one h = absurd (none-some one h)
call-some S count p terms (c ∷ cs) one h = by (fits_pair S count p terms c) refl (call-some S count p terms cs one) h
  where
    by : (b : Bool) → fits_pair S count p terms c ≡ b → (first_call S count p terms cs ≡ Some one → FailsFirst S count p terms cs one)
        → cond (not b) (Some c) (first_call S count p terms cs) ≡ Some one → FailsFirst S count p terms (c ∷ cs) one
    by true e rest h =
        let found = rest h in
        record {
          first = c ∷ found.first;
          others = found.others;
          parted = ap (λ xs. c ∷ xs) found.parted;
          fitting = All-cons (FitsPair S count p terms) c found.first ((pair-fits S count p terms c).0 e) found.fitting;
          fails = found.fails;
        }
    by false e rest h =
        subst (FailsFirst S count p terms (c ∷ cs)) (some_is h)
        (record { first = []; others = cs; parted = refl; fitting = All-nil (FitsPair S count p terms); fails = λ f. false≢true (sym e ∙ (pair-fits S count p terms c).1 f) })

some-call : (S : Signature) (count : ℕ) (p : Pair) (terms : List Term) (first : List Call) (one : Call) (others : List Call)
    → All (FitsPair S count p terms) first → ¬ FitsPair S count p terms one → first_call S count p terms (first ++ one ∷ others) ≡ Some one
some-call S count p terms [] one others fitting fails = by (fits_pair S count p terms one) refl
  where
    by : (b : Bool) → fits_pair S count p terms one ≡ b → cond (not b) (Some one) (first_call S count p terms others) ≡ Some one
    by true e = absurd (fails ((pair-fits S count p terms one).0 e))
    by false e = refl
some-call S count p terms (c ∷ first) one others fitting fails =
    ap (λ b. cond (not b) (Some c) (first_call S count p terms (first ++ one ∷ others))) ((pair-fits S count p terms c).1 (All-head (FitsPair S count p terms) c first fitting))
    ∙ some-call S count p terms first one others (All-tail (FitsPair S count p terms) c first fitting) fails

-- ---- in one right side

-- the row is that of the first call that does not fit
pub record FailsIn (S : Signature) (own count : ℕ) (p : Pair) (u : Use) (row : FailingPair) : Type 0 where
  pub call : Call
  pub is_first : FailsFirst S count p u.terms (calls own u.body) call
  pub form : row ≡ failing_row p u call.term

-- the row of a call that is found
abbrev row_of : Pair → Use → Option Call → Option FailingPair
row_of p u o = option_map (failing_row p u) (option_map (λ c. c.term) o)

in-none : (S : Signature) (own count : ℕ) (p : Pair) (u : Use) → failing_in S own count p u ≡ None → All (FitsPair S count p u.terms) (calls own u.body)
in-none S own count p u h = by (first_call S count p u.terms (calls own u.body)) refl h
  where
    by : (o : Option Call) → first_call S count p u.terms (calls own u.body) ≡ o → row_of p u o ≡ None → All (FitsPair S count p u.terms) (calls own u.body)
    by None e h = call-none S count p u.terms (calls own u.body) e
    by (Some c) e h = absurd (none-some (failing_row p u c.term) (sym h))

none-in : (S : Signature) (own count : ℕ) (p : Pair) (u : Use) → All (FitsPair S count p u.terms) (calls own u.body) → failing_in S own count p u ≡ None
none-in S own count p u h = ap (row_of p u) (none-call S count p u.terms (calls own u.body) h)

in-some : (S : Signature) (own count : ℕ) (p : Pair) (u : Use) (row : FailingPair) → failing_in S own count p u ≡ Some row → FailsIn S own count p u row
in-some S own count p u row h = by (first_call S count p u.terms (calls own u.body)) refl h
  where
    by : (o : Option Call) → first_call S count p u.terms (calls own u.body) ≡ o → row_of p u o ≡ Some row → FailsIn S own count p u row
    by None e h = absurd (none-some row h)
    by (Some c) e h = record { call = c; is_first = call-some S count p u.terms (calls own u.body) c e; form = sym (some_is h) }

some-in : (S : Signature) (own count : ℕ) (p : Pair) (u : Use) (row : FailingPair) → FailsIn S own count p u row → failing_in S own count p u ≡ Some row
some-in S own count p u row f =
    let one = f.is_first in
    ap (λ cs. row_of p u (first_call S count p u.terms cs)) one.parted
    ∙ (ap (row_of p u) (some-call S count p u.terms one.first f.call one.others one.fitting one.fails) ∙ ap (λ r. Some r) (sym f.form))

-- ---- in all of them

abbrev Fit : (S : Signature) (own count : ℕ) (p : Pair) → Use → Type 0
Fit S own count p u = All (FitsPair S count p u.terms) (calls own u.body)

pub first-none : (S : Signature) (own count : ℕ) (p : Pair) (uses : List Use) → first_failing S own count p uses ≡ None → IsUsablePair S own count p uses
first-none S own count p [] h = All-nil (Fit S own count p)
first-none S own count p (u ∷ uses) h = by (failing_in S own count p u) refl (first-none S own count p uses) h
  where
    by : (o : Option FailingPair) → failing_in S own count p u ≡ o → (first_failing S own count p uses ≡ None → IsUsablePair S own count p uses)
        → option_or o (first_failing S own count p uses) ≡ None → IsUsablePair S own count p (u ∷ uses)
    by None e rest h = All-cons (Fit S own count p) u uses (in-none S own count p u e) (rest h)
    by (Some row) e rest h = absurd (none-some row (sym h))

pub none-first : (S : Signature) (own count : ℕ) (p : Pair) (uses : List Use) → IsUsablePair S own count p uses → first_failing S own count p uses ≡ None
none-first S own count p [] h = refl
none-first S own count p (u ∷ uses) h =
    ap (λ o. option_or o (first_failing S own count p uses)) (none-in S own count p u (All-head (Fit S own count p) u uses h))
    ∙ none-first S own count p uses (All-tail (Fit S own count p) u uses h)

-- the row of the first right side
row-here : (S : Signature) (own count : ℕ) (p : Pair) (u : Use) (uses : List Use) (row : FailingPair) → FailsIn S own count p u row
    → IsFirstFailing S own count p (u ∷ uses) row
row-here S own count p u uses row f = record {
  before = [];
  one = u;
  behind = uses;
  split = refl;
  earlier = All-nil (Fit S own count p);
  first = f.is_first.first;
  call = f.call;
  others = f.is_first.others;
  parted = f.is_first.parted;
  fitting = f.is_first.fitting;
  fails = f.is_first.fails;
  form = f.form;
}

-- and of a later one
row-later : (S : Signature) (own count : ℕ) (p : Pair) (u : Use) (uses : List Use) (row : FailingPair) → Fit S own count p u
    → IsFirstFailing S own count p uses row → IsFirstFailing S own count p (u ∷ uses) row
row-later S own count p u uses row fit f = record {
  before = u ∷ f.before;
  one = f.one;
  behind = f.behind;
  split = ap (λ xs. u ∷ xs) f.split;
  earlier = All-cons (Fit S own count p) u f.before fit f.earlier;
  first = f.first;
  call = f.call;
  others = f.others;
  parted = f.parted;
  fitting = f.fitting;
  fails = f.fails;
  form = f.form;
}

pub first-some : (S : Signature) (own count : ℕ) (p : Pair) (uses : List Use) (row : FailingPair) → first_failing S own count p uses ≡ Some row
    → IsFirstFailing S own count p uses row
first-some S own count p [] row h = absurd (none-some row h)
first-some S own count p (u ∷ uses) row h = by (failing_in S own count p u) refl (first-some S own count p uses row) h
  where
    by : (o : Option FailingPair) → failing_in S own count p u ≡ o → (first_failing S own count p uses ≡ Some row → IsFirstFailing S own count p uses row)
        → option_or o (first_failing S own count p uses) ≡ Some row → IsFirstFailing S own count p (u ∷ uses) row
    by None e rest h = row-later S own count p u uses row (in-none S own count p u e) (rest h)
    by (Some r) e rest h = row-here S own count p u uses row (in-some S own count p u row (e ∙ h))

some-behind : (S : Signature) (own count : ℕ) (p : Pair) (before : List Use) (u : Use) (behind : List Use) (row : FailingPair) → IsUsablePair S own count p before
    → FailsIn S own count p u row → first_failing S own count p (before ++ u ∷ behind) ≡ Some row
some-behind S own count p [] u behind row earlier f = ap (λ o. option_or o (first_failing S own count p behind)) (some-in S own count p u row f)
some-behind S own count p (v ∷ before) u behind row earlier f =
    ap (λ o. option_or o (first_failing S own count p (before ++ u ∷ behind))) (none-in S own count p v (All-head (Fit S own count p) v before earlier))
    ∙ some-behind S own count p before u behind row (All-tail (Fit S own count p) v before earlier) f

pub some-first : (S : Signature) (own count : ℕ) (p : Pair) (uses : List Use) (row : FailingPair) → IsFirstFailing S own count p uses row
    → first_failing S own count p uses ≡ Some row
some-first S own count p uses row f =
    ap (first_failing S own count p) f.split
    ∙ some-behind S own count p f.before f.one f.behind row f.earlier
    (record { call = f.call; is_first = record { first = f.first; others = f.others; parted = f.parted; fitting = f.fitting; fails = f.fails }; form = f.form })
