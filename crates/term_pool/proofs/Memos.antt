-- Rows by their keys.
use Rattle.std.proofs.Common.{◌≡◌, ℕ, List, [], ◌∷◌, Bool, true, false, cond, not, nat_le, if◌then◌else◌, ◌==◌, ◌&&◌, filter, Option, None, Result, Ok, Err, OnOk, OnErr, Some, refl, ap, sym, subst, ◌∙◌, true≢false, arith}
use Rattle.std.proofs.lemmas.Bool.Decides.{nat_tests}
use Rattle.term_pool.specs.declared.ids.Id.{Id}
use Rattle.term_pool.specs.declared.row.Key.{Key}
use Rattle.term_pool.specs.declared.row.Key.TheVariants.{Whnf, Convertible, Subtype}
use Rattle.indexmap.specs.IndexMap.{IndexMap, Updates}
use Rattle.std.specs.Map.{lookup, keys_of}
use Rattle.std.specs.List.{AllByRecursion, IsDistinct}
use Rattle.term_pool.specs.declared.row.Row.{Row}
use Rattle.term_pool.specs.Memo.{Rows, is_key, row_at, is_row_below, if_below}

pub either : {A E : Type 0} (r : Result A E) (P Q R : Type 0) → OnOk r P → OnErr r Q → (P → R) → (Q → R) → R
either (Ok a) P Q R p q f g = f p
either (Err e) P Q R p q f g = g q

same_flag : (b d : Bool) → cond b d (not d) ≡ true → b ≡ d
same_flag true d h = sym h
same_flag false true h = h
same_flag false false h = refl

both : (a b : Bool) → (a && b) ≡ true → (a ≡ true) × (b ≡ true)
both true b h = (refl, h)
both false b h = absurd cc

pub same_number : (m n : ℕ) → (m == n) ≡ true → m ≡ n
same_number m n h = grind (arith, nat_tests)

pub is_same_number : (m n : ℕ) → m ≡ n → (m == n) ≡ true
is_same_number m n h = grind (arith, nat_tests)

same_id : (a b : Id) → (a.at == b.at) ≡ true → a ≡ b
same_id a b h = let e = same_number a.at b.at h in (λ i. record { at = e i })

pub same-key : (key k : Key Id) → is_key key k ≡ true → key ≡ k
same-key (Whnf a b) (Whnf c d) h =
    let t = both (a.at == c.at) (cond b d (not d)) h in
    (λ i. Whnf (same_id a c t.0 i) (same_flag b d t.1 i))
same-key (Whnf a b) _ h = absurd cc
same-key (Convertible a b) (Convertible c d) h =
    let t = both (a.at == c.at) (b.at == d.at) h in
    (λ i. Convertible (same_id a c t.0 i) (same_id b d t.1 i))
same-key (Convertible a b) _ h = absurd cc
same-key (Subtype a b) (Subtype c d) h =
    let t = both (a.at == c.at) (b.at == d.at) h in
    (λ i. Subtype (same_id a c t.0 i) (same_id b d t.1 i))
same-key (Subtype a b) _ h = absurd cc

-- the keys of two rows that differ are told apart
pub apart : (len n : ℕ) (key k : Key Id) → ((n ≡ len) × (k ≡ key) → ⊥) → ((len == n) && is_key key k) ≡ false
apart len n key k other = go ((len == n) && is_key key k) refl
  where
    go : (b : Bool) → ((len == n) && is_key key k) ≡ b → b ≡ false
    go false h = refl
    go true h =
        let t = both (len == n) (is_key key k) h in
        absurd (other (sym (same_number len n t.0), sym (same-key key k t.1)))

-- a look-up goes by the test alone
lookup-ext : {K X : Type 0} (f g : K → Bool) (es : List (K × X)) → ((k : K) → f k ≡ g k) → lookup f es ≡ lookup g es
lookup-ext f g es h = (λ i. lookup (λ k. h k i) es)

-- where equality of keys is what it says, an insertion changes no row but its own
pub others-stay : {S : Type 0} (eq : ℕ × Key Id → ℕ × Key Id → Bool) (m new : IndexMap (ℕ × Key Id) (Row Id) S) (len : ℕ) (key : Key Id) (row : Row Id)
    → ((x y : ℕ × Key Id) → eq x y ≡ ((x.0 == y.0) && is_key x.1 y.1)) → Updates eq m new (len, key) (Some row)
    → (n : ℕ) (k : Key Id) → ((n ≡ len) × (k ≡ key) → ⊥) → row_at new.entries n k ≡ row_at m.entries n k
others-stay eq m new len key row same u n k other =
    sym (lookup-ext (eq (n, k)) (λ q. (n == q.0) && is_key k q.1) new.entries (same (n, k)))
    ∙ (u.2 (n, k) (same (len, key) (n, k) ∙ apart len n key k other)
    ∙ lookup-ext (eq (n, k)) (λ q. (n == q.0) && is_key k q.1) m.entries (same (n, k)))

-- a look-up among the rows of lengths up to `len`
cut_kept : (b c : Bool) (x y z : Option (Row Id)) → (b ≡ true → c ≡ true) → y ≡ (if c then z else None)
    → cond b x y ≡ (if c then cond b x z else None)
cut_kept true true x y z h e = refl
cut_kept true false x y z h e = absurd (true≢false (sym (h refl)))
cut_kept false c x y z h e = e

cut_dropped : (b c : Bool) (x y z : Option (Row Id)) → (b ≡ true → c ≡ false) → y ≡ (if c then z else None)
    → y ≡ (if c then cond b x z else None)
cut_dropped true true x y z h e = absurd (true≢false (h refl))
cut_dropped true false x y z h e = e
cut_dropped false c x y z h e = e

abbrev no_row : Option (Row Id)
no_row = None

nothing : (b : Bool) → no_row ≡ (if b then no_row else no_row)
nothing true = refl
nothing false = refl

pub rows-cut : (len : ℕ) (rows : Rows) (n : ℕ) (k : Key Id) → row_at (filter (λ e. nat_le e.0.0 len) rows) n k ≡ (if nat_le n len then row_at rows n k else None)
rows-cut len [] n k = nothing (nat_le n len)
rows-cut len (e ∷ rows) n k = go (nat_le e.0.0 len) refl (rows-cut len rows n k)
  where
    length_is : (a : Bool) → nat_le e.0.0 len ≡ a → ((n == e.0.0) && is_key k e.0.1) ≡ true → nat_le n len ≡ a
    length_is a h t = subst (λ m. nat_le m len ≡ a) (sym (same_number n e.0.0 (both (n == e.0.0) (is_key k e.0.1) t).0)) h

    go : (a : Bool) → nat_le e.0.0 len ≡ a
        → row_at (filter (λ f. nat_le f.0.0 len) rows) n k ≡ (if nat_le n len then row_at rows n k else None)
        → row_at (if a then e ∷ filter (λ f. nat_le f.0.0 len) rows else filter (λ f. nat_le f.0.0 len) rows) n k
        ≡ (if nat_le n len then row_at (e ∷ rows) n k else None)
    go true h rest =
        cut_kept ((n == e.0.0) && is_key k e.0.1) (nat_le n len) (Some e.1) (row_at (filter (λ f. nat_le f.0.0 len) rows) n k) (row_at rows n k)
        (length_is true h) rest
    go false h rest =
        cut_dropped ((n == e.0.0) && is_key k e.0.1) (nat_le n len) (Some e.1) (row_at (filter (λ f. nat_le f.0.0 len) rows) n k) (row_at rows n k)
        (length_is false h) rest

-- no row is found where no key passes, whatever rows are left out
absent : {K X : Type 0} (test : K → Bool) (keep : K × X → Bool) (es : List (K × X)) → AllByRecursion (λ q. test q ≡ false) (keys_of es)
    → lookup test (filter keep es) ≡ None
absent test keep [] h = refl
absent {K} {X} test keep (e ∷ es) h = go (keep e) (absent test keep es h.1)
  where
    go : (a : Bool) → lookup test (filter keep es) ≡ None → lookup test (if a then e ∷ filter keep es else filter keep es) ≡ None
    go true rest = ap (λ b. cond b (Some e.1) (lookup test (filter keep es))) h.0 ∙ rest
    go false rest = rest

apart_from : (eq : ℕ × Key Id → ℕ × Key Id → Bool) → ((x y : ℕ × Key Id) → eq x y ≡ ((x.0 == y.0) && is_key x.1 y.1))
    → (x : ℕ × Key Id) (ys : List (ℕ × Key Id)) → AllByRecursion (λ y. eq x y ≡ false) ys
    → AllByRecursion (λ y. ((x.0 == y.0) && is_key x.1 y.1) ≡ false) ys
apart_from eq same x [] h = tt
apart_from eq same x (y ∷ ys) h = (sym (same x y) ∙ h.0, apart_from eq same x ys h.1)

-- where no two keys are equal, the rows that are left are found as before
pub rows-below : (eq : ℕ × Key Id → ℕ × Key Id → Bool) (count : ℕ) (rows : Rows) → ((x y : ℕ × Key Id) → eq x y ≡ ((x.0 == y.0) && is_key x.1 y.1))
    → IsDistinct eq (keys_of rows) → (n : ℕ) (k : Key Id)
    → row_at (filter (is_row_below count) rows) n k ≡ if_below count n k (row_at rows n k)
unfolding IsDistinct
rows-below eq count [] same d n k = refl
rows-below eq count (e ∷ rows) same d n k =
    go ((n == e.0.0) && is_key k e.0.1) refl (is_row_below count e) refl (rows-below eq count rows same d.1 n k)
  where
    key_is : ((n == e.0.0) && is_key k e.0.1) ≡ true → e.0 ≡ (n, k)
    key_is t =
        let parts = both (n == e.0.0) (is_key k e.0.1) t in
        (λ i. (sym (same_number n e.0.0 parts.0) i, sym (same-key k e.0.1 parts.1) i))

    none_left : e.0 ≡ (n, k) → row_at (filter (is_row_below count) rows) n k ≡ None
    none_left is =
        absent (λ q. (n == q.0) && is_key k q.1) (is_row_below count) rows
        (subst (λ x. AllByRecursion (λ q. ((x.0 == q.0) && is_key x.1 q.1) ≡ false) (keys_of rows)) is (apart_from eq same e.0 (keys_of rows) d.0))

    here : (a : Bool) → is_row_below count e ≡ a → e.0 ≡ (n, k) → (if a then Some e.1 else None) ≡ if_below count n k (Some e.1)
    here a h is = ap (λ b. if b then Some e.1 else None) (sym h ∙ ap (λ x. is_row_below count (x, e.1)) is)

    go : (b : Bool) → ((n == e.0.0) && is_key k e.0.1) ≡ b → (a : Bool) → is_row_below count e ≡ a
        → row_at (filter (is_row_below count) rows) n k ≡ if_below count n k (row_at rows n k)
        → row_at (if a then e ∷ filter (is_row_below count) rows else filter (is_row_below count) rows) n k
        ≡ if_below count n k (cond b (Some e.1) (row_at rows n k))
    go true t true h rest = ap (λ b. cond b (Some e.1) (row_at (filter (is_row_below count) rows) n k)) t ∙ here true h (key_is t)
    go true t false h rest = none_left (key_is t) ∙ here false h (key_is t)
    go false t true h rest = ap (λ b. cond b (Some e.1) (row_at (filter (is_row_below count) rows) n k)) t ∙ rest
    go false t false h rest = rest
