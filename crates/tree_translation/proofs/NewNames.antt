-- Names that are added to others, each once.
use Rattle.std.proofs.Common.{◌≡◌, ◌≢◌, ◌↔◌, ℕ, zero, suc, ◌<◌, ◌||◌, Bool, true, false, cond, List, [], ◌∷◌, ◌++◌, length, get_or, All, AllPairs, bytes_eq, refl, sym, ap, ◌∙◌, subst, arith, append_assoc}
use Rattle.std.proofs.lemmas.Bool.{true≢false}
use Rattle.std.proofs.lemmas.List.{append-nil, get_or_append_left, length-append}
use Rattle.std.proofs.lemmas.List.Elements.{All-cons, All-nil}
use Rattle.std.proofs.lemmas.List.Kept.{AllPairs-cons}
use Rattle.std.proofs.lemmas.Slice.Eq.{bytes_eq-Decides}
use Rattle.theory.proofs.Lists.{All-tail}
use Rattle.tree_translation.specs.Naming.{is_named, with_names}
use Rattle.tree_translation.specs.Laws.{IsAmong}

pub or-true : (a b : Bool) → b ≡ true → (a || b) ≡ true
or-true true b h = refl
or-true false b h = h

-- ---- named entries

pub named-own : (name : List ℕ) (names : List (List ℕ)) → is_named (name ∷ names) name ≡ true
named-own name names = ap (λ b. b || is_named names name) ((bytes_eq-Decides name name).1 refl)

pub named-append : (xs ys : List (List ℕ)) (name : List ℕ) → is_named (xs ++ ys) name ≡ (is_named xs name || is_named ys name)
named-append [] ys name = refl
named-append (x ∷ xs) ys name = by (bytes_eq name x) (named-append xs ys name)
  where
    by : (b : Bool) → is_named (xs ++ ys) name ≡ (is_named xs name || is_named ys name)
        → (b || is_named (xs ++ ys) name) ≡ ((b || is_named xs name) || is_named ys name)
    by true e = refl
    by false e = e

pub named-left : (xs ys : List (List ℕ)) (name : List ℕ) → is_named xs name ≡ true → is_named (xs ++ ys) name ≡ true
named-left xs ys name h = named-append xs ys name ∙ ap (λ b. b || is_named ys name) h

pub named-last : (xs : List (List ℕ)) (name : List ℕ) → is_named (xs ++ name ∷ []) name ≡ true
named-last xs name = named-append xs (name ∷ []) name ∙ or-true (is_named xs name) _ (named-own name [])

-- the test finds only names of the list
pub named-among : (names : List (List ℕ)) (name : List ℕ) → is_named names name ≡ true → IsAmong name names
named-among [] name h = absurd (true≢false (sym h))
named-among (x ∷ names) name h = by (bytes_eq name x) refl (λ k. named-among names name k) h
  where
    by : (b : Bool) → bytes_eq name x ≡ b → (is_named names name ≡ true → IsAmong name names) → (b || is_named names name) ≡ true → IsAmong name (x ∷ names)
    by true e rest k = (zero, x, omega arith, refl, sym ((bytes_eq-Decides name x).0 e))
    by false e rest k = let r = rest k in (suc r.0, r.1, omega (arith, r.2), r.3, r.4)

pub among-named : (names : List (List ℕ)) (name : List ℕ) → IsAmong name names → is_named names name ≡ true
among-named [] name (k, x, within, at, e) = absurd (omega arith)
among-named (y ∷ names) name (zero, x, within, at, e) = subst (λ n. is_named (y ∷ names) n ≡ true) (at ∙ e) (named-own y names)
among-named (y ∷ names) name (suc k, x, within, at, e) =
    or-true (bytes_eq name y) (is_named names name) (among-named names name (k, x, omega arith, at, e))

-- ---- names that are added

-- none of `new` is among the names, and each differs from those before it
pub data IsNew : (names new : List (List ℕ)) → Type 0 where
  none : {names : List (List ℕ)} → IsNew names []
  more : {names new : List (List ℕ)} {name : List ℕ} → is_named names name ≡ false → IsNew (names ++ name ∷ []) new
      → IsNew names (name ∷ new)

-- a list that goes on with names of which P holds
pub record IsLonger (P : List ℕ → Type 0) (names all : List (List ℕ)) : Type 0 where
  pub new : List (List ℕ)
  pub added : all ≡ names ++ new
  pub is_new : IsNew names new
  pub each : All P new

pub longer : (P : List ℕ → Type 0) (names others : List (List ℕ)) → All P others → IsLonger P names (with_names names others)
longer P names [] h = record { new = []; added = sym (append-nil names); is_new = IsNew.none; each = All-nil P }
longer P names (name ∷ others) h = by (is_named names name) refl (λ some. longer P some others (All-tail P name others h))
  where
    by : (b : Bool) → is_named names name ≡ b → ((some : List (List ℕ)) → IsLonger P some (with_names some others))
        → IsLonger P names (with_names (cond b names (names ++ name ∷ [])) others)
    by true e rest = rest names
    by false e rest =
        let r = rest (names ++ name ∷ []) in
        record {
          new = name ∷ r.new;
          added = r.added ∙ append_assoc names (name ∷ []) r.new;
          is_new = IsNew.more e r.is_new;
          each = All-cons P name r.new (h 0 name (omega arith)) r.each;
        }

-- a name of the list is none of the new ones
pub new-others : (names new : List (List ℕ)) (name : List ℕ) → IsNew names new → is_named names name ≡ true → All (λ other. name ≢ other) new
new-others names [] name IsNew.none h = All-nil (λ other. name ≢ other)
new-others names (first ∷ new) name (IsNew.more e rest) h =
    All-cons (λ other. name ≢ other) first new
    (λ same. true≢false (sym h ∙ (ap (is_named names) same ∙ e)))
    (new-others (names ++ first ∷ []) new name rest (named-left names (first ∷ []) name h))

pub new-differ : (names new : List (List ℕ)) → IsNew names new → AllPairs (λ one other. one ≢ other) new
new-differ names [] IsNew.none = λ i j d below within. absurd (omega arith)
new-differ names (name ∷ new) (IsNew.more e rest) =
    AllPairs-cons (λ one other. one ≢ other) name new (new-others (names ++ name ∷ []) new name rest (named-last names name))
    (new-differ (names ++ name ∷ []) new rest)

pub at-same : (xs : List (List ℕ)) (k : ℕ) (d e : List ℕ) → k < length xs → get_or xs k d ≡ get_or xs k e
at-same [] k d e lt = absurd (omega arith)
at-same (x ∷ xs) zero d e lt = refl
at-same (x ∷ xs) (suc k) d e lt = at-same xs k d e (omega arith)

-- none of the new ones is among the names
pub new-fresh : (names new : List (List ℕ)) → IsNew names new → All (λ one. All (λ other. one ≢ other) names) new
new-fresh names [] IsNew.none = All-nil (λ one. All (λ other. one ≢ other) names)
new-fresh names (name ∷ new) (IsNew.more e rest) =
    All-cons (λ one. All (λ other. one ≢ other) names) name new
    (λ k d within same.
    true≢false (sym (among-named names name (k, get_or names k d, within, at-same names k (get_or names k d) d within, sym same)) ∙ e))
    (λ k d within i d' inside.
    subst (λ other. get_or new k d ≢ other) (get_or_append_left names (name ∷ []) d' i inside)
    (new-fresh (names ++ name ∷ []) new rest k d within i d' (omega (arith, length-append names (name ∷ [])))))

-- ---- names with new ones

pub with-named : (names others : List (List ℕ)) (name : List ℕ) → is_named (with_names names others) name ≡ (is_named names name || is_named others name)
with-named names [] name = by (is_named names name)
  where
    by : (b : Bool) → b ≡ (b || false)
    by true = refl
    by false = refl
with-named names (other ∷ others) name = by (is_named names other) refl (λ some. with-named some others name)
  where
    same : (b : Bool) → bytes_eq name other ≡ b → is_named names other ≡ true
        → (is_named names name || is_named others name) ≡ (is_named names name || (b || is_named others name))
    same true e h = ap (λ b. b || is_named others name) there ∙ sym (ap (λ b. b || true) there)
      where
        there : is_named names name ≡ true
        there = ap (is_named names) ((bytes_eq-Decides name other).0 e) ∙ h
    same false e h = refl

    last : (a b c : Bool) → ((a || (b || false)) || c) ≡ (a || (b || c))
    last true b c = refl
    last false true c = refl
    last false false c = refl

    by : (b : Bool) → is_named names other ≡ b
        → ((some : List (List ℕ)) → is_named (with_names some others) name ≡ (is_named some name || is_named others name))
        → is_named (with_names (cond b names (names ++ other ∷ [])) others) name ≡ (is_named names name || is_named (other ∷ others) name)
    by true h rest = rest names ∙ same (bytes_eq name other) refl h
    by false h rest =
        rest (names ++ other ∷ [])
        ∙ (ap (λ b. b || is_named others name) (named-append names (other ∷ []) name)
        ∙ last (is_named names name) (bytes_eq name other) (is_named others name))

pub with-among : (others : List (List ℕ)) (name : List ℕ) → IsAmong name (with_names [] others) ↔ IsAmong name others
with-among others name = (
  λ h. named-among others name (sym (with-named [] others name) ∙ among-named (with_names [] others) name h),
  λ h. named-among (with_names [] others) name (with-named [] others name ∙ among-named others name h),
)
