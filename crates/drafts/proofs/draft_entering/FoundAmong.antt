-- The generated entry with a name, looked for in a list part by part.
use Rattle.std.proofs.Common.{◌≡◌, ◌≢◌, ℕ, zero, suc, ◌+◌, ◌<◌, ◌≤◌, nat_lt, le_refl, Bool, true, false, cond, ◌&&◌, Option, Some, None, option_map, List, [], ◌∷◌, ◌++◌, bytes_eq, length, drop, slice_get, flat_map, refl, sym, ap, ◌∙◌, arith, append_assoc}
use Rattle.theory.specs.Signatures.{Entry}
use Rattle.std.proofs.lemmas.Bool.Decides.{nat_tests}
use Rattle.std.proofs.lemmas.List.{drop_all}
use Rattle.std.specs.Option.{option_or}
use Rattle.std.specs.List.{filter, range_with_len, find as first_in}
use Rattle.clause_reports.specs.Generated.{Generated, is_generated, name_of, of_entries, of_identities}
use Rattle.drafts.specs.draft_entering.FoundNames.{numbers_of, first_of, found_in, of_number}
use Rattle.drafts.specs.declared.draft_entering.generated.Generated as code

pub found_cons : (name : List ℕ) (g : Generated) (all : List Generated)
    → found_in name (g ∷ all) ≡ cond (is_generated g && bytes_eq (name_of g) name) (Some (numbers_of g)) (found_in name all)
found_cons name g all = by (is_generated g) (bytes_eq (name_of g) name)
  where
    named : (c : Bool) → option_map numbers_of (cond c (Some g) (first_of name all)) ≡ cond c (Some (numbers_of g)) (found_in name all)
    named true = refl
    named false = refl

    by : (b c : Bool) → option_map numbers_of (first_in (λ g. bytes_eq (name_of g) name) (cond b (g ∷ filter is_generated all) (filter is_generated all)))
        ≡ cond (b && bytes_eq (name_of g) name) (Some (numbers_of g)) (found_in name all)
    by true c = named (bytes_eq (name_of g) name)
    by false c = refl

pub found_append : (name : List ℕ) (xs ys : List Generated) → found_in name (xs ++ ys) ≡ option_or (found_in name xs) (found_in name ys)
found_append name [] ys = refl
found_append name (g ∷ xs) ys = found_cons name g (xs ++ ys) ∙ by (is_generated g && bytes_eq (name_of g) name) (found_append name xs ys) ∙ ap (λ o. option_or o (found_in name ys)) (sym (found_cons name g xs))
  where
    by : (b : Bool) → found_in name (xs ++ ys) ≡ option_or (found_in name xs) (found_in name ys)
        → cond b (Some (numbers_of g)) (found_in name (xs ++ ys)) ≡ option_or (cond b (Some (numbers_of g)) (found_in name xs)) (found_in name ys)
    by true e = refl
    by false e = e

-- ---- numbers

-- none of the lists has the name
pub none-among : (name : List ℕ) (f : ℕ → List Generated) (from k : ℕ) → ((j : ℕ) → from ≤ j → j < from + k → found_in name (f j) ≡ None)
    → found_in name (flat_map f (range_with_len from k)) ≡ None
none-among name f from zero none = refl
none-among name f from (suc k) none =
    found_append name (f from) (flat_map f (range_with_len (from + 1) k))
    ∙ (ap (λ o. option_or o (found_in name (flat_map f (range_with_len (from + 1) k)))) (none from (le_refl from) (omega arith))
    ∙ none-among name f (from + 1) k (λ j le lt. none j (omega arith) (omega arith)))

or-none : (o : Option code.Generated) → option_or o None ≡ o
or-none None = refl
or-none (Some g) = refl

-- none but the list of number m has it
pub one-among : (name : List ℕ) (f : ℕ → List Generated) (m from k : ℕ) → ((j : ℕ) → from ≤ j → j < from + k → j ≢ m → found_in name (f j) ≡ None)
    → from ≤ m → m < from + k → found_in name (flat_map f (range_with_len from k)) ≡ found_in name (f m)
one-among name f m from zero others le lt = absurd (omega arith)
one-among name f m from (suc k) others le lt =
    found_append name (f from) (flat_map f (range_with_len (from + 1) k))
    ∙ by (nat_lt from m) refl
    (λ next. one-among name f m (from + 1) k (λ j le lt ne. others j (omega arith) (omega arith) ne) next (omega arith))
  where
    rest : Option code.Generated
    rest = found_in name (flat_map f (range_with_len (from + 1) k))

    by : (c : Bool) → nat_lt from m ≡ c → (from + 1 ≤ m → rest ≡ found_in name (f m)) → option_or (found_in name (f from)) rest ≡ found_in name (f m)
    by true is later =
        let less : from < m = grind (arith, nat_tests) in
        ap (λ o. option_or o rest) (others from (le_refl from) (omega arith) (λ e. omega arith)) ∙ later (omega arith)
    by false is later =
        let same : from ≡ m = grind (arith, nat_tests) in
        let nothing : rest ≡ None = none-among name f (from + 1) k (λ j le lt. others j (omega arith) (omega arith) (λ e. omega arith)) in
        ap (option_or (found_in name (f from))) nothing ∙ (or-none (found_in name (f from)) ∙ ap (λ j. found_in name (f j)) same)

-- ---- entries

of-drop : (m n : ℕ) (entries : List Entry) → n < length entries
    → of_entries m (drop n entries) ≡ of_number m (slice_get entries n) ++ of_entries (m + 1) (drop (n + 1) entries)
of-drop m n [] lt = absurd (omega arith)
of-drop m zero (e ∷ entries) lt = refl
of-drop m (suc n) (e ∷ entries) lt =
    let s : suc n + 1 ≡ suc (n + 1) = omega arith in
    of-drop m n entries (omega arith) ∙ ap (λ k. of_number m (slice_get entries n) ++ of_entries (m + 1) (drop k (e ∷ entries))) (sym s)

-- the generated entry with the name, looked for from entry n on and then among those of equations
abbrev pub found_after : (name : List ℕ) (n : ℕ) → List Entry → Option code.Generated
found_after name n entries = found_in name (of_entries n (drop n entries) ++ of_identities)

after-entry : (name : List ℕ) (n : ℕ) (entries : List Entry) → n < length entries
    → found_after name n entries ≡ option_or (found_in name (of_number n (slice_get entries n))) (found_after name (n + 1) entries)
after-entry name n entries lt =
    let first = of_number n (slice_get entries n) in
    let rest = of_entries (n + 1) (drop (n + 1) entries) in
    ap (λ l. found_in name (l ++ of_identities)) (of-drop n n entries lt)
    ∙ ap (found_in name) (append_assoc first rest of_identities) ∙ found_append name first (rest ++ of_identities)

pub entry-found : (name : List ℕ) (n : ℕ) (entries : List Entry) (g : code.Generated) → n < length entries
    → found_in name (of_number n (slice_get entries n)) ≡ Some g → found_after name n entries ≡ Some g
entry-found name n entries g lt e = after-entry name n entries lt ∙ ap (λ o. option_or o (found_after name (n + 1) entries)) e

pub entry-missed : (name : List ℕ) (n : ℕ) (entries : List Entry) → n < length entries
    → found_in name (of_number n (slice_get entries n)) ≡ None → found_after name n entries ≡ found_after name (n + 1) entries
entry-missed name n entries lt e = after-entry name n entries lt ∙ ap (λ o. option_or o (found_after name (n + 1) entries)) e

pub entries-end : (name : List ℕ) (n : ℕ) (entries : List Entry) → length entries ≤ n → found_after name n entries ≡ found_in name of_identities
entries-end name n entries le = ap (λ l. found_in name (of_entries n l ++ of_identities)) (drop_all n entries le)
