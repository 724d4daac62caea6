-- The choice: the least usable position, or the rows of all positions that admit recursion.
use Rattle.std.proofs.Common.{◌≡◌, ◌≢◌, ℕ, ◌+◌, ◌<◌, ◌≤◌, Bool, true, false, ◌==◌, cond, Option, Some, None, option_map, List, [], ◌∷◌, length, refl, sym, ap, ◌∙◌, subst, arith}
use Rattle.std.specs.Prelude.{◌↔◌, All}
use Rattle.std.proofs.lemmas.Bool.{false≢true, or_parts, or_from}
use Rattle.std.proofs.lemmas.Bool.Decides.{Decides-eqb}
use Rattle.std.proofs.lemmas.List.Elements.{All-nil, All-cons, All-head, All-tail}
use Rattle.std.proofs.lemmas.Option.{none-some, slice_get_within}
use Rattle.theory.specs.Terms.{Term}
use Rattle.theory.specs.Signatures.{Signature}
use Rattle.theory.proofs.Lists.{some_is}
use Rattle.tree_translation.specs.structural_rec.Calls.{has_constant}
use Rattle.tree_translation.specs.structural_rec.Positions.{Admission, Admits, admission}
use Rattle.tree_translation.specs.structural_rec.Uses.{Use, is_recursive}
use Rattle.tree_translation.specs.structural_rec.Fitting.{IsUsable}
use Rattle.tree_translation.specs.structural_rec.Choices.{Choice, NotRecursive, At, NotSmaller, Failing, first_failing, failing_at, with_row, or_later, first_usable, choose}
use Rattle.tree_translation.specs.structural_rec.Laws.{IsLeastUsable, AreRows}
use Rattle.tree_translation.specs.structural_rec.Laws.AreRows.{none, passed, failed}
use Rattle.tree_translation.proofs.structural_rec.AdmittingPositions.{admission-decides}
use Rattle.tree_translation.proofs.structural_rec.FirstFailing.{first-none, none-first, first-some, some-first}

-- ---- the answers are different

abbrev at_of : Choice → Option ℕ
at_of (At j) = Some j
at_of NotRecursive = None
at_of (NotSmaller rows) = None

abbrev rows_of : Choice → Option (List Failing)
rows_of (NotSmaller rows) = Some rows
rows_of NotRecursive = None
rows_of (At j) = None

abbrev is_answer : Choice → Bool
is_answer NotRecursive = false
is_answer (At j) = true
is_answer (NotSmaller rows) = true

-- ---- one position

-- the first call that does not fit at a position, from its admission
abbrev said : (S : Signature) (tele : List Term) (own : ℕ) (uses : List Use) (j : ℕ) → Option Admission → Option (Option Failing)
said S tele own uses j o = option_map (λ a. first_failing S own (length tele) j a uses) o

-- a position without admission is not usable,
not-admitted : (S : Signature) (tele : List Term) (j : ℕ) → admission S tele j ≡ None → (a : Admission) → ¬ Admits S tele j a
not-admitted S tele j e a m = none-some a (sym e ∙ (admission-decides S tele j a).1 m)

none-usable : (S : Signature) (tele : List Term) (own : ℕ) (uses : List Use) (j : ℕ) → admission S tele j ≡ None → ¬ IsUsable S tele own uses j
none-usable S tele own uses j e u = not-admitted S tele j e u.admission u.admits

-- nor is one with a failing call
failing-unusable : (S : Signature) (tele : List Term) (own : ℕ) (uses : List Use) (j : ℕ) (a : Admission) (row : Failing) → admission S tele j ≡ Some a
    → first_failing S own (length tele) j a uses ≡ Some row → ¬ IsUsable S tele own uses j
failing-unusable S tele own uses j a row e f u =
    let same : u.admission ≡ a = some_is (sym ((admission-decides S tele j u.admission).1 u.admits) ∙ e) in
    none-some row (sym (none-first S own (length tele) j u.admission uses u.fit) ∙ (ap (λ b. first_failing S own (length tele) j b uses) same ∙ f))

fitting-usable : (S : Signature) (tele : List Term) (own : ℕ) (uses : List Use) (j : ℕ) (a : Admission) → admission S tele j ≡ Some a
    → first_failing S own (length tele) j a uses ≡ None → IsUsable S tele own uses j
fitting-usable S tele own uses j a e f =
    record { admission = a; admits = (admission-decides S tele j a).0 e; fit = first-none S own (length tele) j a uses f }

usable-said : (S : Signature) (tele : List Term) (own : ℕ) (uses : List Use) (j : ℕ) → IsUsable S tele own uses j → failing_at S tele own uses j ≡ Some None
usable-said S tele own uses j u =
    ap (said S tele own uses j) ((admission-decides S tele j u.admission).1 u.admits)
    ∙ ap (λ o. Some o) (none-first S own (length tele) j u.admission uses u.fit)

-- ---- a position that is chosen

with-at : (row : Failing) (c : Choice) (i : ℕ) → with_row row c ≡ At i → c ≡ At i
with-at row (At j) i h = h
with-at row NotRecursive i h = absurd (none-some i (ap at_of h))
with-at row (NotSmaller rows) i h = absurd (none-some i (ap at_of h))

-- the least usable position from j on
pub record IsLeastFrom (S : Signature) (tele : List Term) (own : ℕ) (uses : List Use) (j i : ℕ) : Type 0 where
  pub from : j ≤ i
  pub usable : IsUsable S tele own uses i
  pub least : (k : ℕ) → j ≤ k → k < i → ¬ IsUsable S tele own uses k

-- the least usable position, from one position earlier that is not usable
earlier : (S : Signature) (tele : List Term) (own : ℕ) (uses : List Use) (j i : ℕ) → ¬ IsUsable S tele own uses j → IsLeastFrom S tele own uses (j + 1) i
    → IsLeastFrom S tele own uses j i
earlier S tele own uses j i unusable later = record { from = (let le = later.from in omega arith); usable = later.usable; least = least }
  where
    least : (k : ℕ) → j ≤ k → k < i → ¬ IsUsable S tele own uses k
    least k le lt u = by (j == k) refl
      where
        by : (b : Bool) → (j == k) ≡ b → ⊥
        by true e = unusable (subst (IsUsable S tele own uses) (sym ((Decides-eqb j k).0 e)) u)
        by false e =
            let other : j ≢ k = (λ same. false≢true (sym e ∙ (Decides-eqb j k).1 same)) in
            later.least k (grind arith) lt u

at-tells : (S : Signature) (tele : List Term) (own : ℕ) (uses : List Use) (j : ℕ) (rest : List Term) (i : ℕ) → first_usable S tele own uses j rest ≡ At i
    → IsLeastFrom S tele own uses j i
at-tells S tele own uses j [] i h = absurd (none-some i (ap at_of h))
at-tells S tele own uses j (type ∷ rest) i h = by (admission S tele j) refl (at-tells S tele own uses (j + 1) rest i) h
  where
    later : Choice
    later = first_usable S tele own uses (j + 1) rest

    one : (a : Admission) → admission S tele j ≡ Some a → (o : Option Failing) → first_failing S own (length tele) j a uses ≡ o
        → (later ≡ At i → IsLeastFrom S tele own uses (j + 1) i) → or_later j (Some o) later ≡ At i → IsLeastFrom S tele own uses j i
    one a e None f more h =
        subst (IsLeastFrom S tele own uses j) (some_is (ap at_of h))
        (record { from = omega arith; usable = fitting-usable S tele own uses j a e f; least = λ k le lt. absurd (omega arith) })
    one a e (Some row) f more h = earlier S tele own uses j i (failing-unusable S tele own uses j a row e f) (more (with-at row later i h))

    by : (o : Option Admission) → admission S tele j ≡ o → (later ≡ At i → IsLeastFrom S tele own uses (j + 1) i)
        → or_later j (said S tele own uses j o) later ≡ At i → IsLeastFrom S tele own uses j i
    by None e more h = earlier S tele own uses j i (none-usable S tele own uses j e) (more h)
    by (Some a) e more h = one a e (first_failing S own (length tele) j a uses) refl more h

at-found : (S : Signature) (tele : List Term) (own : ℕ) (uses : List Use) (j : ℕ) (rest : List Term) (i : ℕ) → i < j + length rest → IsLeastFrom S tele own uses j i
    → first_usable S tele own uses j rest ≡ At i
at-found S tele own uses j [] i lt is = let le = is.from in absurd (omega arith)
at-found S tele own uses j (type ∷ rest) i lt is =
    by (j == i) refl (λ le. at-found S tele own uses (j + 1) rest i (omega arith) (record { from = le; usable = is.usable; least = λ k near. is.least k (omega arith) }))
  where
    later : Choice
    later = first_usable S tele own uses (j + 1) rest

    one : (a : Admission) → admission S tele j ≡ Some a → (o : Option Failing) → first_failing S own (length tele) j a uses ≡ o → j < i → later ≡ At i
        → or_later j (Some o) later ≡ At i
    one a e None f near more = absurd (is.least j (omega arith) near (fitting-usable S tele own uses j a e f))
    one a e (Some row) f near more = ap (with_row row) more

    past : (o : Option Admission) → admission S tele j ≡ o → j < i → later ≡ At i → or_later j (said S tele own uses j o) later ≡ At i
    past None e near more = more
    past (Some a) e near more = one a e (first_failing S own (length tele) j a uses) refl near more

    by : (b : Bool) → (j == i) ≡ b → (j + 1 ≤ i → later ≡ At i) → or_later j (failing_at S tele own uses j) later ≡ At i
    by true e more =
        let same : j ≡ i = (Decides-eqb j i).0 e in
        ap (λ o. or_later j o later) (usable-said S tele own uses j (subst (IsUsable S tele own uses) (sym same) is.usable)) ∙ ap At same
    by false e more =
        let other : j ≢ i = (λ same. false≢true (sym e ∙ (Decides-eqb j i).1 same)) in
        let le = is.from in
        let near : j < i = grind arith in
        past (admission S tele j) refl near (more (omega arith))

-- a usable position is one of the telescope
usable-within : (S : Signature) (tele : List Term) (own : ℕ) (uses : List Use) (j : ℕ) → IsUsable S tele own uses j → j < length tele
usable-within S tele own uses j u = slice_get_within tele j _ u.admits.type

pub least-usable : (S : Signature) (tele : List Term) (own : ℕ) (uses : List Use) (j : ℕ) → (choose S tele own uses ≡ At j) ↔ IsLeastUsable S tele own uses j
least-usable S tele own uses j = (tells, found)
  where
    tells : choose S tele own uses ≡ At j → IsLeastUsable S tele own uses j
    tells h = by (is_recursive own uses) refl h
      where
        by : (b : Bool) → is_recursive own uses ≡ b → cond b (first_usable S tele own uses 0 tele) NotRecursive ≡ At j → IsLeastUsable S tele own uses j
        by true e h =
            let is = at-tells S tele own uses 0 tele j h in
            record { recursive = e; usable = is.usable; least = λ i lt. is.least i (omega arith) lt }
        by false e h = absurd (none-some j (ap at_of h))

    found : IsLeastUsable S tele own uses j → choose S tele own uses ≡ At j
    found is =
        ap (λ b. cond b (first_usable S tele own uses 0 tele) NotRecursive) is.recursive
        ∙ at-found S tele own uses 0 tele j (let lt = usable-within S tele own uses j is.usable in omega arith)
        (record { from = omega arith; usable = is.usable; least = λ k le lt. is.least k lt })

-- ---- rows

pub record AreWithRow (row : Failing) (c : Choice) (rows : List Failing) : Type 0 where
  pub others : List Failing
  pub later : c ≡ NotSmaller others
  pub form : row ∷ others ≡ rows

with-rows : (row : Failing) (c : Choice) (rows : List Failing) → with_row row c ≡ NotSmaller rows → AreWithRow row c rows
with-rows row (NotSmaller others) rows h = record { others = others; later = refl; form = some_is (ap rows_of h) }
with-rows row NotRecursive rows h = absurd (none-some rows (ap rows_of h))
with-rows row (At j) rows h = absurd (none-some rows (ap rows_of h))

rows-tells : (S : Signature) (tele : List Term) (own : ℕ) (uses : List Use) (j : ℕ) (rest : List Term) (rows : List Failing) → j + length rest ≡ length tele
    → first_usable S tele own uses j rest ≡ NotSmaller rows → AreRows S tele own uses j rows
rows-tells S tele own uses j [] rows counted h = subst (AreRows S tele own uses j) (some_is (ap rows_of h)) (none (omega arith))
rows-tells S tele own uses j (type ∷ rest) rows counted h =
    by (admission S tele j) refl (λ others. rows-tells S tele own uses (j + 1) rest others (omega arith)) h
  where
    later : Choice
    later = first_usable S tele own uses (j + 1) rest

    one : (a : Admission) → admission S tele j ≡ Some a → (o : Option Failing) → first_failing S own (length tele) j a uses ≡ o
        → ((others : List Failing) → later ≡ NotSmaller others → AreRows S tele own uses (j + 1) others) → or_later j (Some o) later ≡ NotSmaller rows
        → AreRows S tele own uses j rows
    one a e None f more h = absurd (none-some rows (ap rows_of h))
    one a e (Some row) f more h =
        let w = with-rows row later rows h in
        subst (AreRows S tele own uses j) w.form
        (failed ((admission-decides S tele j a).0 e) (first-some S own (length tele) j a uses row f) (more w.others w.later))

    by : (o : Option Admission) → admission S tele j ≡ o → ((others : List Failing) → later ≡ NotSmaller others → AreRows S tele own uses (j + 1) others)
        → or_later j (said S tele own uses j o) later ≡ NotSmaller rows → AreRows S tele own uses j rows
    by None e more h = passed (omega arith) (not-admitted S tele j e) (more rows h)
    by (Some a) e more h = one a e (first_failing S own (length tele) j a uses) refl more h

none-said : (S : Signature) (tele : List Term) (own : ℕ) (uses : List Use) (j : ℕ) → ((a : Admission) → ¬ Admits S tele j a) → failing_at S tele own uses j ≡ None
none-said S tele own uses j never = by (admission S tele j) refl
  where
    by : (o : Option Admission) → admission S tele j ≡ o → said S tele own uses j o ≡ None
    by None e = refl
    by (Some a) e = absurd (never a ((admission-decides S tele j a).0 e))

rows-found : (S : Signature) (tele : List Term) (own : ℕ) (uses : List Use) (rest : List Term) {j : ℕ} {rows : List Failing} → j + length rest ≡ length tele
    → AreRows S tele own uses j rows → first_usable S tele own uses j rest ≡ NotSmaller rows
rows-found S tele own uses [] counted (none le) = refl
rows-found S tele own uses [] counted (passed lt never more) = absurd (omega arith)
rows-found S tele own uses [] counted (failed {j} m f more) = let lt = slice_get_within tele j _ m.type in absurd (omega arith)
rows-found S tele own uses (type ∷ rest) counted (none le) = absurd (omega arith)
rows-found S tele own uses (type ∷ rest) counted (passed {j} lt never more) =
    ap (λ o. or_later j o (first_usable S tele own uses (j + 1) rest)) (none-said S tele own uses j never)
    ∙ rows-found S tele own uses rest (omega arith) more
rows-found S tele own uses (type ∷ rest) counted (failed {j} {a} {row} m f more) =
    ap (λ o. or_later j o (first_usable S tele own uses (j + 1) rest))
    (ap (said S tele own uses j) ((admission-decides S tele j a).1 m) ∙ ap (λ o. Some o) (some-first S own (length tele) j a uses row f))
    ∙ ap (with_row row) (rows-found S tele own uses rest (omega arith) more)

pub not-smaller : (S : Signature) (tele : List Term) (own : ℕ) (uses : List Use) (rows : List Failing)
    → (choose S tele own uses ≡ NotSmaller rows) ↔ ((is_recursive own uses ≡ true) × AreRows S tele own uses 0 rows)
not-smaller S tele own uses rows = (tells, found)
  where
    tells : choose S tele own uses ≡ NotSmaller rows → (is_recursive own uses ≡ true) × AreRows S tele own uses 0 rows
    tells h = by (is_recursive own uses) refl h
      where
        by : (b : Bool) → is_recursive own uses ≡ b → cond b (first_usable S tele own uses 0 tele) NotRecursive ≡ NotSmaller rows
            → (is_recursive own uses ≡ true) × AreRows S tele own uses 0 rows
        by true e h = (e, rows-tells S tele own uses 0 tele rows (omega arith) h)
        by false e h = absurd (none-some rows (ap rows_of h))

    found : (is_recursive own uses ≡ true) × AreRows S tele own uses 0 rows → choose S tele own uses ≡ NotSmaller rows
    found h =
        ap (λ b. cond b (first_usable S tele own uses 0 tele) NotRecursive) h.0
        ∙ rows-found S tele own uses tele (omega arith) h.1

-- ---- no recursion

any-none : (own : ℕ) (uses : List Use) → is_recursive own uses ≡ false → All (λ u. has_constant own u.body ≡ false) uses
any-none own [] h = All-nil (λ u. has_constant own u.body ≡ false)
any-none own (u ∷ uses) h =
    let parts = or_parts (has_constant own u.body) (is_recursive own uses) h in
    All-cons (λ v. has_constant own v.body ≡ false) u uses parts.0 (any-none own uses parts.1)

none-any : (own : ℕ) (uses : List Use) → All (λ u. has_constant own u.body ≡ false) uses → is_recursive own uses ≡ false
none-any own [] h = refl
none-any own (u ∷ uses) h =
    or_from (has_constant own u.body) (is_recursive own uses) (All-head (λ v. has_constant own v.body ≡ false) u uses h)
    (none-any own uses (All-tail (λ v. has_constant own v.body ≡ false) u uses h))

with-answers : (row : Failing) (c : Choice) → is_answer (with_row row c) ≡ is_answer c
with-answers row NotRecursive = refl
with-answers row (At j) = refl
with-answers row (NotSmaller rows) = refl

usable-answers : (S : Signature) (tele : List Term) (own : ℕ) (uses : List Use) (j : ℕ) (rest : List Term) → is_answer (first_usable S tele own uses j rest) ≡ true
usable-answers S tele own uses j [] = refl
usable-answers S tele own uses j (type ∷ rest) = by (failing_at S tele own uses j) (usable-answers S tele own uses (j + 1) rest)
  where
    later : Choice
    later = first_usable S tele own uses (j + 1) rest

    by : (o : Option (Option Failing)) → is_answer later ≡ true → is_answer (or_later j o later) ≡ true
    by None more = more
    by (Some None) more = refl
    by (Some (Some row)) more = with-answers row later ∙ more

pub not-recursive : (S : Signature) (tele : List Term) (own : ℕ) (uses : List Use)
    → (choose S tele own uses ≡ NotRecursive) ↔ All (λ u. has_constant own u.body ≡ false) uses
not-recursive S tele own uses = (tells, found)
  where
    tells : choose S tele own uses ≡ NotRecursive → All (λ u. has_constant own u.body ≡ false) uses
    tells h = by (is_recursive own uses) refl h
      where
        by : (b : Bool) → is_recursive own uses ≡ b → cond b (first_usable S tele own uses 0 tele) NotRecursive ≡ NotRecursive
            → All (λ u. has_constant own u.body ≡ false) uses
        by true e h = absurd (false≢true (sym (ap is_answer h) ∙ usable-answers S tele own uses 0 tele))
        by false e h = any-none own uses e

    found : All (λ u. has_constant own u.body ≡ false) uses → choose S tele own uses ≡ NotRecursive
    found h = ap (λ b. cond b (first_usable S tele own uses 0 tele) NotRecursive) (none-any own uses h)
