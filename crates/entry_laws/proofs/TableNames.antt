-- A draft that is numbered by first mention, and whose terms have numbers of its table alone: its names are different candidates.
use Rattle.std.proofs.Common.{◌≡◌, ◌≢◌, inl, inr, ℕ, zero, suc, ◌+◌, ◌-◌, ◌<◌, ◌==◌, ◌||◌, Bool, true, false, cond, List, [], ◌∷◌, ◌++◌, map, length, get_or, All, AllPairs, bytes_eq, Ok, refl, sym, subst, ◌∙◌, arith, append_assoc}
use Rattle.std.proofs.lemmas.Bool.{true≢false}
use Rattle.std.proofs.lemmas.Bool.Decides.{nat_tests}
use Rattle.std.proofs.lemmas.List.Elements.{All-nil, All-cons}
use Rattle.std.proofs.lemmas.List.Kept.{AllPairs-cons}
use Rattle.std.proofs.lemmas.Slice.Eq.{bytes_eq-Decides}
use Rattle.theory.specs.Terms.{Term, Var, Sort, Pi, Lam, App, Let, Const, Fam, Con, Elim, AxiomK}
use Rattle.core_sig.specs.Drafts.{Draft}
use Rattle.tele_eq.specs.Levels.{is_among}
use Rattle.unification.proofs.Cases.{below-or_from, first-of_two, second-of_two}
use Rattle.tree_translation.specs.Naming.{Naming, place_of, number_in, mentions, once, is_named, with_names, drafted_in_order}
use Rattle.tree_translation.proofs.Drafting.{in_order-is}
use Rattle.tree_translation.proofs.NewNames.{or-true, named-own, named-append, longer, new-differ, with-named}
use Rattle.entry_laws.proofs.OnlyConstants.{Each, each-append, each-map, each-weaker, HasOnly}
use Rattle.entry_laws.proofs.OnlyRuns.{NumbersHave}

-- ---- numbers of candidates

pub place-low : (table : List (List ℕ)) (name : List ℕ) → is_named table name ≡ true → place_of table name < length table
place-low [] name h = absurd (true≢false (sym h))
place-low (other ∷ table) name h = by (bytes_eq other name) refl (place-low table name)
  where
    rest : (b : Bool) → bytes_eq name other ≡ b → bytes_eq other name ≡ false → (b || is_named table name) ≡ true → is_named table name ≡ true
    rest true is other_is k = absurd (true≢false (sym ((bytes_eq-Decides other name).1 (sym ((bytes_eq-Decides name other).0 is))) ∙ other_is))
    rest false is other_is k = k

    by : (b : Bool) → bytes_eq other name ≡ b → (is_named table name ≡ true → place_of table name < length table)
        → cond b 0 (place_of table name + 1) < suc (length table)
    by true e go = omega arith
    by false e go = let low = go (rest (bytes_eq name other) refl e h) in omega arith

-- a constant below the entries and the names of a table
abbrev pub IsInTable : (base : ℕ) → List (List ℕ) → ℕ → Type 0
IsInTable base table c = c < base + length table

pub named-later : (xs ys : List (List ℕ)) → Each (λ name. is_named (xs ++ ys) name ≡ true) ys
named-later xs [] = Each.none
named-later xs (y ∷ ys) =
    Each.more (named-append xs (y ∷ ys) y ∙ or-true (is_named xs y) _ (named-own y ys))
    (subst (λ zs. Each (λ name. is_named zs name ≡ true) ys) (append_assoc xs (y ∷ []) ys) (named-later (xs ++ y ∷ []) ys))

-- each candidate has a number of the table
pub candidates-numbered : (base : ℕ) (candidates : List (List ℕ))
    → NumbersHave (IsInTable base (with_names [] candidates)) (number_in base (with_names [] candidates)) candidates
candidates-numbered base candidates =
    each-weaker candidates
    (λ name is. let low = place-low (with_names [] candidates) name (with-named [] candidates name ∙ is) in omega arith)
    (named-later [] candidates)

-- ---- places

mentions-low : (base k : ℕ) (t : Term) → HasOnly (λ c. c < base + k) t → Each (λ i. i < k) (mentions base t)
mentions-low base k (Pi a b) (HasOnly.of_pi h l) = each-append (mentions base a) (mentions base b) (mentions-low base k a h) (mentions-low base k b l)
mentions-low base k (Lam a b) (HasOnly.of_lam h l) = each-append (mentions base a) (mentions base b) (mentions-low base k a h) (mentions-low base k b l)
mentions-low base k (App f a) (HasOnly.of_app h l) = each-append (mentions base f) (mentions base a) (mentions-low base k f h) (mentions-low base k a l)
mentions-low base k (Let a t b) (HasOnly.of_let h l m) =
    each-append (mentions base a) (mentions base t ++ mentions base b) (mentions-low base k a h)
    (each-append (mentions base t) (mentions base b) (mentions-low base k t l) (mentions-low base k b m))
mentions-low base k (Const c) (HasOnly.of_const low) = elim (below-or_from c base) [
  | inl lt ↦ subst (Each (λ i. i < k)) (sym (first-of_two c base [] ((c - base) ∷ []) lt)) Each.none
  | inr le ↦
      let place : c - base < k = omega arith in
      subst (Each (λ i. i < k)) (sym (second-of_two c base [] ((c - base) ∷ []) le)) (Each.more place Each.none)
]
mentions-low base k (Var n) h = Each.none
mentions-low base k (Sort i) h = Each.none
mentions-low base k (Fam n) h = Each.none
mentions-low base k (Con n c) h = Each.none
mentions-low base k (Elim n m) h = Each.none
mentions-low base k (AxiomK i m) h = Each.none

pub once-each : {P : ℕ → Type 0} (seen places : List ℕ) → Each P places → Each P (once seen places)
once-each seen [] Each.none = Each.none
once-each {P} seen (i ∷ places) (Each.more h all) = by (is_among i seen) (once-each seen places all) (once-each (i ∷ seen) places all)
  where
    by : (b : Bool) → Each P (once seen places) → Each P (once (i ∷ seen) places) → Each P (cond b (once seen places) (i ∷ once (i ∷ seen) places))
    by true old new = old
    by false old new = Each.more h new

-- each place differs from those after it
pub data AreApart : List ℕ → Type 0 where
  none : AreApart []
  more : {i : ℕ} {places : List ℕ} → Each (λ j. i ≢ j) places → AreApart places → AreApart (i ∷ places)

unseen-first : (i j : ℕ) (seen : List ℕ) → is_among j (i ∷ seen) ≡ false → (i ≢ j) × (is_among j seen ≡ false)
unseen-first i j seen h = by (i == j) refl h
  where
    by : (b : Bool) → (i == j) ≡ b → (b || is_among j seen) ≡ false → (i ≢ j) × (is_among j seen ≡ false)
    by true e k = absurd (true≢false k)
    by false e k = (λ same. grind (arith, nat_tests), k)

once-unseen : (seen places : List ℕ) → Each (λ j. is_among j seen ≡ false) (once seen places)
once-unseen seen [] = Each.none
once-unseen seen (i ∷ places) = by (is_among i seen) refl (once-unseen seen places) (once-unseen (i ∷ seen) places)
  where
    by : (b : Bool) → is_among i seen ≡ b → Each (λ j. is_among j seen ≡ false) (once seen places) → Each (λ j. is_among j (i ∷ seen) ≡ false) (once (i ∷ seen) places)
        → Each (λ j. is_among j seen ≡ false) (cond b (once seen places) (i ∷ once (i ∷ seen) places))
    by true e old new = old
    by false e old new = Each.more e (each-weaker (once (i ∷ seen) places) (λ j h. (unseen-first i j seen h).1) new)

pub once-apart : (seen places : List ℕ) → AreApart (once seen places)
once-apart seen [] = AreApart.none
once-apart seen (i ∷ places) = by (is_among i seen) (once-apart seen places) (once-apart (i ∷ seen) places)
  where
    by : (b : Bool) → AreApart (once seen places) → AreApart (once (i ∷ seen) places) → AreApart (cond b (once seen places) (i ∷ once (i ∷ seen) places))
    by true old new = old
    by false old new = AreApart.more (each-weaker (once (i ∷ seen) places) (λ j h. (unseen-first i j seen h).0) (once-unseen (i ∷ seen) places)) new

-- ---- names at places

pub all-each : {X : Type 0} (P : X → Type 0) (xs : List X) → Each P xs → All P xs
all-each P [] Each.none = All-nil P
all-each P (x ∷ xs) (Each.more h all) = All-cons P x xs h (all-each P xs all)

table-differs : (candidates : List (List ℕ)) → AllPairs (λ one other. one ≢ other) (with_names [] candidates)
table-differs candidates =
    let r = longer (λ name. Unit {0}) [] candidates (λ i d within. tt) in
    subst (AllPairs (λ one other. one ≢ other)) (sym r.added) (new-differ [] r.new r.is_new)

differ-at : (table : List (List ℕ)) (i j : ℕ) → AllPairs (λ one other. one ≢ other) table → i ≢ j → i < length table → j < length table
    → get_or table i [] ≢ get_or table j []
differ-at table i j differ apart low high same = elim (below-or_from i j) [
  | inl lt ↦ differ i j [] lt high same
  | inr le ↦ let lt : j < i = grind arith in differ j i [] lt low (sym same)
]

names-apart : (table : List (List ℕ)) (places : List ℕ) → AllPairs (λ one other. one ≢ other) table → Each (λ i. i < length table) places → AreApart places
    → AllPairs (λ one other. one ≢ other) (map (λ i. get_or table i []) places)
names-apart table [] differ low apart = λ i j d below within. absurd (omega arith)
names-apart table (i ∷ places) differ (Each.more l low) (AreApart.more first apart) =
    AllPairs-cons (λ one other. one ≢ other) (get_or table i []) (map (λ i. get_or table i []) places)
    (all-each (λ other. get_or table i [] ≢ other) (map (λ i. get_or table i []) places) (others places low first))
    (names-apart table places differ low apart)
  where
    others : (js : List ℕ) → Each (λ j. j < length table) js → Each (λ j. i ≢ j) js → Each (λ other. get_or table i [] ≢ other) (map (λ i. get_or table i []) js)
    others [] Each.none Each.none = Each.none
    others (j ∷ js) (Each.more h hs) (Each.more k ks) = Each.more (differ-at table i j differ k l h) (others js hs ks)

named-at : (table : List (List ℕ)) (i : ℕ) → i < length table → is_named table (get_or table i []) ≡ true
named-at [] i low = absurd (omega arith)
named-at (name ∷ table) zero low = named-own name table
named-at (name ∷ table) (suc i) low = or-true (bytes_eq (get_or table i []) name) (is_named table (get_or table i [])) (named-at table i (omega arith))

-- the names of a draft are candidates, and differ
pub record HasNames (candidates : List (List ℕ)) (d : Draft) : Type 0 where
  pub among : Each (λ name. is_named candidates name ≡ true) d.names
  pub differ : AllPairs (λ one other. one ≢ other) d.names

pub draft-names : (name : List ℕ) (base : ℕ) (candidates : List (List ℕ)) (type term : Naming → Term) (d : Draft) → drafted_in_order name base candidates type term ≡ Ok d
    → HasOnly (IsInTable base (with_names [] candidates)) (type (number_in base (with_names [] candidates)))
    → HasOnly (IsInTable base (with_names [] candidates)) (term (number_in base (with_names [] candidates)))
    → HasNames candidates d
draft-names name base candidates type term d e h k =
    let table = with_names [] candidates in
    let t = type (number_in base table) in
    let u = term (number_in base table) in
    let places = mentions base t ++ mentions base u in
    let low = once-each [] places (each-append (mentions base t) (mentions base u) (mentions-low base (length table) t h) (mentions-low base (length table) u k)) in
    let names = (in_order-is name base candidates type term d e).same_names in
    record {
      among =
          subst (Each (λ name. is_named candidates name ≡ true)) (sym names)
          (each-map (λ i. get_or table i []) (once [] places) (λ i l. sym (with-named [] candidates (get_or table i [])) ∙ named-at table i l) low);
      differ = subst (AllPairs (λ one other. one ≢ other)) (sym names) (names-apart table (once [] places) (table-differs candidates) low (once-apart [] places));
    }
