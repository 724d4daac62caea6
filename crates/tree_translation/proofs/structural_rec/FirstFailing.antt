-- The first call that does not fit: it is found exactly where there is one.
use Rattle.std.proofs.Common.{◌≡◌, ℕ, Bool, true, false, not, cond, Option, Some, None, option_map, List, [], ◌∷◌, ◌++◌, refl, sym, ap, ◌∙◌, subst}
use Rattle.std.specs.Prelude.{All, find}
use Rattle.std.specs.Option.{option_or}
use Rattle.std.proofs.lemmas.Bool.{false≢true}
use Rattle.std.proofs.lemmas.List.Elements.{All-nil, All-cons, All-head, All-tail}
use Rattle.std.proofs.lemmas.Option.{none-some}
use Rattle.theory.specs.Terms.{Term}
use Rattle.theory.specs.Signatures.{Signature}
use Rattle.theory.proofs.Lists.{some_is}
use Rattle.tree_translation.specs.structural_rec.Calls.{Call, calls}
use Rattle.tree_translation.specs.structural_rec.Positions.{Admission}
use Rattle.tree_translation.specs.structural_rec.Uses.{Use}
use Rattle.tree_translation.specs.structural_rec.Fitting.{Fits, AllFit, fits}
use Rattle.tree_translation.specs.structural_rec.Choices.{Failing, failing_row, failing_in, first_failing}
use Rattle.tree_translation.specs.structural_rec.Laws.{IsFirstFailing}
use Rattle.tree_translation.proofs.structural_rec.FittingCalls.{fit-decides}

-- ---- among calls

-- the first of the calls that does not fit
pub record FailsFirst (S : Signature) (count j : ℕ) (a : Admission) (terms : List Term) (cs : List Call) (c : Call) : Type 0 where
  pub first : List Call
  pub others : List Call
  pub parted : cs ≡ first ++ c ∷ others
  pub fitting : All (Fits S count j a terms) first
  pub fails : ¬ Fits S count j a terms c

abbrev first_call : (S : Signature) (count j : ℕ) (a : Admission) (terms : List Term) → List Call → Option Call
first_call S count j a terms cs = find (λ c. not (fits S count j a terms c)) cs

call-none : (S : Signature) (count j : ℕ) (a : Admission) (terms : List Term) (cs : List Call) → first_call S count j a terms cs ≡ None → All (Fits S count j a terms) cs
call-none S count j a terms [] h = All-nil (Fits S count j a terms)
call-none S count j a terms (c ∷ cs) h = by (fits S count j a terms c) refl (call-none S count j a terms cs) h
  where
    by : (b : Bool) → fits S count j a terms c ≡ b → (first_call S count j a terms cs ≡ None → All (Fits S count j a terms) cs)
        → cond (not b) (Some c) (first_call S count j a terms cs) ≡ None → All (Fits S count j a terms) (c ∷ cs)
    by true e rest h = All-cons (Fits S count j a terms) c cs ((fit-decides S count j a terms c).0 e) (rest h)
    by false e rest h = absurd (none-some c (sym h))

none-call : (S : Signature) (count j : ℕ) (a : Admission) (terms : List Term) (cs : List Call) → All (Fits S count j a terms) cs → first_call S count j a terms cs ≡ None
none-call S count j a terms [] h = refl
none-call S count j a terms (c ∷ cs) h =
    ap (λ b. cond (not b) (Some c) (first_call S count j a terms cs)) ((fit-decides S count j a terms c).1 (All-head (Fits S count j a terms) c cs h))
    ∙ none-call S count j a terms cs (All-tail (Fits S count j a terms) c cs h)

call-some : (S : Signature) (count j : ℕ) (a : Admission) (terms : List Term) (cs : List Call) (one : Call) → first_call S count j a terms cs ≡ Some one
    → FailsFirst S count j a terms cs one
call-some S count j a terms [] one h = absurd (none-some one h)
call-some S count j a terms (c ∷ cs) one h = by (fits S count j a terms c) refl (call-some S count j a terms cs one) h
  where
    by : (b : Bool) → fits S count j a terms c ≡ b → (first_call S count j a terms cs ≡ Some one → FailsFirst S count j a terms cs one)
        → cond (not b) (Some c) (first_call S count j a terms cs) ≡ Some one → FailsFirst S count j a terms (c ∷ cs) one
    by true e rest h =
        let found = rest h in
        record {
          first = c ∷ found.first;
          others = found.others;
          parted = ap (λ xs. c ∷ xs) found.parted;
          fitting = All-cons (Fits S count j a terms) c found.first ((fit-decides S count j a terms c).0 e) found.fitting;
          fails = found.fails;
        }
    by false e rest h =
        subst (FailsFirst S count j a terms (c ∷ cs)) (some_is h)
        (record { first = []; others = cs; parted = refl; fitting = All-nil (Fits S count j a terms); fails = λ f. false≢true (sym e ∙ (fit-decides S count j a terms c).1 f) })

some-call : (S : Signature) (count j : ℕ) (a : Admission) (terms : List Term) (first : List Call) (one : Call) (others : List Call)
    → All (Fits S count j a terms) first → ¬ Fits S count j a terms one → first_call S count j a terms (first ++ one ∷ others) ≡ Some one
some-call S count j a terms [] one others fitting fails = by (fits S count j a terms one) refl
  where
    by : (b : Bool) → fits S count j a terms one ≡ b → cond (not b) (Some one) (first_call S count j a terms others) ≡ Some one
    by true e = absurd (fails ((fit-decides S count j a terms one).0 e))
    by false e = refl
some-call S count j a terms (c ∷ first) one others fitting fails =
    ap (λ b. cond (not b) (Some c) (first_call S count j a terms (first ++ one ∷ others))) ((fit-decides S count j a terms c).1 (All-head (Fits S count j a terms) c first fitting))
    ∙ some-call S count j a terms first one others (All-tail (Fits S count j a terms) c first fitting) fails

-- ---- in one right side or scrutinee

-- the row is that of the first call that does not fit
pub record FailsIn (S : Signature) (own count j : ℕ) (a : Admission) (u : Use) (row : Failing) : Type 0 where
  pub call : Call
  pub is_first : FailsFirst S count j a u.terms (calls own u.body) call
  pub form : row ≡ failing_row j u call.term

in-none : (S : Signature) (own count j : ℕ) (a : Admission) (u : Use) → failing_in S own count j a u ≡ None → All (Fits S count j a u.terms) (calls own u.body)
in-none S own count j a u h = by (first_call S count j a u.terms (calls own u.body)) refl h
  where
    by : (o : Option Call) → first_call S count j a u.terms (calls own u.body) ≡ o → option_map (failing_row j u) (option_map (λ c. c.term) o) ≡ None
        → All (Fits S count j a u.terms) (calls own u.body)
    by None e h = call-none S count j a u.terms (calls own u.body) e
    by (Some c) e h = absurd (none-some (failing_row j u c.term) (sym h))

none-in : (S : Signature) (own count j : ℕ) (a : Admission) (u : Use) → All (Fits S count j a u.terms) (calls own u.body) → failing_in S own count j a u ≡ None
none-in S own count j a u h = ap (λ o. option_map (failing_row j u) (option_map (λ c. c.term) o)) (none-call S count j a u.terms (calls own u.body) h)

in-some : (S : Signature) (own count j : ℕ) (a : Admission) (u : Use) (row : Failing) → failing_in S own count j a u ≡ Some row → FailsIn S own count j a u row
in-some S own count j a u row h = by (first_call S count j a u.terms (calls own u.body)) refl h
  where
    by : (o : Option Call) → first_call S count j a u.terms (calls own u.body) ≡ o → option_map (failing_row j u) (option_map (λ c. c.term) o) ≡ Some row
        → FailsIn S own count j a u row
    by None e h = absurd (none-some row h)
    by (Some c) e h = record { call = c; is_first = call-some S count j a u.terms (calls own u.body) c e; form = sym (some_is h) }

some-in : (S : Signature) (own count j : ℕ) (a : Admission) (u : Use) (row : Failing) → FailsIn S own count j a u row → failing_in S own count j a u ≡ Some row
some-in S own count j a u row f =
    let one = f.is_first in
    ap (λ cs. option_map (failing_row j u) (option_map (λ c. c.term) (first_call S count j a u.terms cs))) one.parted
    ∙ (ap (λ o. option_map (failing_row j u) (option_map (λ c. c.term) o)) (some-call S count j a u.terms one.first f.call one.others one.fitting one.fails)
    ∙ ap (λ r. Some r) (sym f.form))

-- ---- in all of them

abbrev Fit : (S : Signature) (own count j : ℕ) (a : Admission) → Use → Type 0
Fit S own count j a u = All (Fits S count j a u.terms) (calls own u.body)

pub first-none : (S : Signature) (own count j : ℕ) (a : Admission) (uses : List Use) → first_failing S own count j a uses ≡ None → AllFit S own count j a uses
first-none S own count j a [] h = All-nil (Fit S own count j a)
first-none S own count j a (u ∷ uses) h = by (failing_in S own count j a u) refl (first-none S own count j a uses) h
  where
    by : (o : Option Failing) → failing_in S own count j a u ≡ o → (first_failing S own count j a uses ≡ None → AllFit S own count j a uses)
        → option_or o (first_failing S own count j a uses) ≡ None → AllFit S own count j a (u ∷ uses)
    by None e rest h = All-cons (Fit S own count j a) u uses (in-none S own count j a u e) (rest h)
    by (Some row) e rest h = absurd (none-some row (sym h))

pub none-first : (S : Signature) (own count j : ℕ) (a : Admission) (uses : List Use) → AllFit S own count j a uses → first_failing S own count j a uses ≡ None
none-first S own count j a [] h = refl
none-first S own count j a (u ∷ uses) h =
    ap (λ o. option_or o (first_failing S own count j a uses)) (none-in S own count j a u (All-head (Fit S own count j a) u uses h))
    ∙ none-first S own count j a uses (All-tail (Fit S own count j a) u uses h)

-- the row of one right side or scrutinee, after others that fit
row-of : (S : Signature) (own count j : ℕ) (a : Admission) (before : List Use) (u : Use) (behind : List Use) (row : Failing) → AllFit S own count j a before
    → FailsIn S own count j a u row → IsFirstFailing S own count j a (before ++ u ∷ behind) row
row-of S own count j a before u behind row earlier f = record {
  before = before;
  one = u;
  behind = behind;
  split = refl;
  earlier = earlier;
  first = f.is_first.first;
  call = f.call;
  others = f.is_first.others;
  parted = f.is_first.parted;
  fitting = f.is_first.fitting;
  fails = f.is_first.fails;
  form = f.form;
}

-- and after one more
row-later : (S : Signature) (own count j : ℕ) (a : Admission) (u : Use) (uses : List Use) (row : Failing) → Fit S own count j a u
    → IsFirstFailing S own count j a uses row → IsFirstFailing S own count j a (u ∷ uses) row
row-later S own count j a u uses row fit f = record {
  before = u ∷ f.before;
  one = f.one;
  behind = f.behind;
  split = ap (λ xs. u ∷ xs) f.split;
  earlier = All-cons (Fit S own count j a) u f.before fit f.earlier;
  first = f.first;
  call = f.call;
  others = f.others;
  parted = f.parted;
  fitting = f.fitting;
  fails = f.fails;
  form = f.form;
}

pub first-some : (S : Signature) (own count j : ℕ) (a : Admission) (uses : List Use) (row : Failing) → first_failing S own count j a uses ≡ Some row
    → IsFirstFailing S own count j a uses row
first-some S own count j a [] row h = absurd (none-some row h)
first-some S own count j a (u ∷ uses) row h = by (failing_in S own count j a u) refl (first-some S own count j a uses row) h
  where
    by : (o : Option Failing) → failing_in S own count j a u ≡ o → (first_failing S own count j a uses ≡ Some row → IsFirstFailing S own count j a uses row)
        → option_or o (first_failing S own count j a uses) ≡ Some row → IsFirstFailing S own count j a (u ∷ uses) row
    by None e rest h = row-later S own count j a u uses row (in-none S own count j a u e) (rest h)
    by (Some r) e rest h = row-of S own count j a [] u uses row (All-nil (Fit S own count j a)) (in-some S own count j a u row (e ∙ h))

some-behind : (S : Signature) (own count j : ℕ) (a : Admission) (before : List Use) (u : Use) (behind : List Use) (row : Failing) → AllFit S own count j a before
    → FailsIn S own count j a u row → first_failing S own count j a (before ++ u ∷ behind) ≡ Some row
some-behind S own count j a [] u behind row earlier f = ap (λ o. option_or o (first_failing S own count j a behind)) (some-in S own count j a u row f)
some-behind S own count j a (v ∷ before) u behind row earlier f =
    ap (λ o. option_or o (first_failing S own count j a (before ++ u ∷ behind))) (none-in S own count j a v (All-head (Fit S own count j a) v before earlier))
    ∙ some-behind S own count j a before u behind row (All-tail (Fit S own count j a) v before earlier) f

pub some-first : (S : Signature) (own count j : ℕ) (a : Admission) (uses : List Use) (row : Failing) → IsFirstFailing S own count j a uses row
    → first_failing S own count j a uses ≡ Some row
some-first S own count j a uses row f =
    ap (first_failing S own count j a) f.split
    ∙ some-behind S own count j a f.before f.one f.behind row f.earlier
    (record { call = f.call; is_first = record { first = f.first; others = f.others; parted = f.parted; fitting = f.fitting; fails = f.fails }; form = f.form })
