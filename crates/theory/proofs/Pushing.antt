-- One entry more: what a signature keeps, and that it stays well formed.
use Rattle.std.proofs.Common.{◌≡◌, ◌≢◌, ◌⊎◌, ℕ, ◌≤◌, List, [], ◌∷◌, ◌++◌, length, take, drop, AllPairs, flat_map, subst as transport, sym, refl, ap, ◌∙◌, inl, inr, arith}
use Rattle.std.proofs.lemmas.Option.{none-some, slice_get_within}
use Rattle.std.proofs.lemmas.List.{take-append-le, take_at, take-append-drop, length-take, take-take, length-append, append_assoc, append-nil, get_or_append_left}
use Rattle.std.proofs.lemmas.Grind.{flat_map-append}
use Rattle.theory.specs.Terms.{Term}
use Rattle.theory.specs.Terms.Term.{Const}
use Rattle.theory.specs.Signatures.{Signature, Entry, Definition, IsEntryAt, IsPrefix, TypeOf, names, names_of}
use Rattle.theory.specs.Signatures.TypeOf.{constant, family, constructor, eliminator, axiom_k}
use Rattle.theory.specs.Typing.{Has, HasSort}
use Rattle.theory.specs.WellFormed.{pushed, first_entries, provisional, IsEntry, IsWellFormed}
use Rattle.theory.specs.WellFormed.IsWellFormedSoFar.{whole, with_provisional}
use Rattle.theory.specs.SignatureLaws.{PushIsLonger, PrefixReflexive, PrefixTransitive, CutToPrefix, PushIsWellFormed, EmptyIsWellFormed, NamesOfPush, FirstEntriesAreWellFormed, SoFarIsTyped}
use Rattle.theory.proofs.Lists.{slice_get-pushed, slice_get-take}
use Rattle.theory.proofs.Widening.{prefix_carries}
use Rattle.theory.proofs.Carrying.{has-carried, sort-carried}
use Rattle.theory.proofs.WellFormedness.{well_formed_typed}

-- a signature is a prefix of what is pushed on it
pub push_is_longer : PushIsLonger
push_is_longer S e = record { more = e ∷ []; entries = refl; has_k = refl }

-- an entry of the longer signature is an earlier one or the last
pub entry_of-pushed : (S : Signature) (e : Entry) (n : ℕ) (x : Entry) → IsEntryAt (pushed S e) n x → IsEntryAt S n x ⊎ ((n ≡ length S.entries) × (e ≡ x))
entry_of-pushed S e n x at = slice_get-pushed S.entries e n x at

with_entries : Signature → List Entry → Signature
with_entries S es = record { entries = es; has_k = S.has_k }

first_of-pushed : (S : Signature) (e : Entry) (n : ℕ) → n ≤ length S.entries → first_entries S n ≡ first_entries (pushed S e) n
unfolding with_entries
first_of-pushed S e n le = ap (with_entries S) (sym (take-append-le n S.entries (e ∷ []) le))

all_of-pushed : (S : Signature) (e : Entry) (n : ℕ) → n ≡ length S.entries → S ≡ first_entries (pushed S e) n
unfolding with_entries
all_of-pushed S e n place = ap (with_entries S) (sym (take_at S.entries (e ∷ []) n (sym place)))

-- a well-formed entry over a well-formed signature, with new names
pub push_well_formed : PushIsWellFormed
push_well_formed S e h entry distinct = record { distinct = distinct; each = each }
  where
    each : (n : ℕ) (x : Entry) → IsEntryAt (pushed S e) n x → IsEntry (first_entries (pushed S e) n) x
    each n x at = elim (entry_of-pushed S e n x at) [
      | inl before ↦
          let lt = slice_get_within S.entries n x before in
          transport (λ T. IsEntry T x) (first_of-pushed S e n (omega arith)) (h.each n x before)
      | inr (place, same) ↦
          transport (λ y. IsEntry (first_entries (pushed S e) n) y) same
          (transport (λ T. IsEntry T e) (all_of-pushed S e n place) entry)
    ]

-- the signature without entries
pub empty_well_formed : EmptyIsWellFormed
empty_well_formed k = record { distinct = λ i j d lt within. absurd (omega arith); each = λ n e at. absurd (none-some e at) }

is_definition : Entry → Type 0
is_definition (Definition name type body) = Unit {0}
is_definition _ = ⊥

-- an entry other than a definition comes before one that is pushed
earlier : (S : Signature) (name : List ℕ) (type body : Term) (n : ℕ) (x : Entry) → ¬ (is_definition x) → IsEntryAt (pushed S (Definition name type body)) n x → IsEntryAt S n x
unfolding is_definition
earlier S name type body n x other at = elim (entry_of-pushed S (Definition name type body) n x at) [
  | inl before ↦ before
  | inr (place, same) ↦ absurd (other (transport is_definition same tt))
]

type_in : Term → Entry → Term
type_in t (Definition name type body) = type
type_in t _ = t

body_in : Term → Entry → Term
body_in t (Definition name type body) = body
body_in t _ = t

provisional-types : (S : Signature) (name : List ℕ) (type : Term) → IsWellFormed S → HasSort S [] type → {t a : Term} → TypeOf (provisional S name type) t a → HasSort (provisional S name type) [] a
unfolding is_definition type_in
provisional-types S name type h sorted of = elim (split of) [
  | inl old ↦ sort-carried (prefix_carries into) ((well_formed_typed S h).types old)
  | inr same ↦ transport (HasSort (provisional S name type) []) same (sort-carried (prefix_carries into) sorted)
]
  where
    own : Term
    own = Const (length S.entries)

    into : IsPrefix S (provisional S name type)
    into = push_is_longer S (Definition name type own)

    split : {t a : Term} → TypeOf (provisional S name type) t a → TypeOf S t a ⊎ (type ≡ a)
    split (constant n at) = elim (entry_of-pushed S (Definition name type own) n _ at) [
      | inl before ↦ inl (constant n before)
      | inr (place, same) ↦ inr (ap (type_in type) same)
    ]
    split (family n at) = inl (family n (earlier S name type own n _ (λ x. x) at))
    split (constructor n number at chosen) = inl (constructor n number (earlier S name type own n _ (λ x. x) at) chosen)
    split (eliminator n m place at made) =
        inl (eliminator n m place (earlier S name type own n _ (λ x. x) at) (earlier S name type own place _ (λ x. x) made))
    split (axiom_k i m place made) = inl (axiom_k i m place (earlier S name type own place _ (λ x. x) made))

provisional-bodies : (S : Signature) (name : List ℕ) (type : Term) → IsWellFormed S → (n : ℕ) (name' : List ℕ) (type' body : Term) → IsEntryAt (provisional S name type) n (Definition name' type' body) → (body ≡ Const n) ⊎ Has (provisional S name type) [] body type'
unfolding body_in
provisional-bodies S name type h n name' type' body at =
    elim (entry_of-pushed S (Definition name type own) n (Definition name' type' body) at) [
      | inl before ↦ elim ((well_formed_typed S h).bodies before) [
        | inl same ↦ inl same
        | inr d ↦ inr (has-carried (prefix_carries (push_is_longer S (Definition name type own))) d)
      ]
      | inr (place, same) ↦ inl (sym (ap (body_in body) same) ∙ ap Const (sym place))
    ]
  where
    own : Term
    own = Const (length S.entries)

-- so is one that is well formed up to a provisional end
pub so_far_typed : SoFarIsTyped
so_far_typed S (whole h) = well_formed_typed S h
so_far_typed _ (with_provisional S name type h distinct sorted) =
    record { types = provisional-types S name type h sorted; bodies = λ at. provisional-bodies S name type h _ _ _ _ at }

pub prefix_reflexive : PrefixReflexive
prefix_reflexive S = record { more = []; entries = sym (append-nil S.entries); has_k = refl }

-- a longer signature that is cut to the length of the shorter one
pub cut_to_prefix : CutToPrefix
cut_to_prefix S T h =
    λ i. record {
      entries = (ap (take (length S.entries)) h.entries ∙ take_at S.entries h.more (length S.entries) refl) i;
      has_k = h.has_k i;
    }

-- a prefix of a prefix
pub prefix_transitive : PrefixTransitive
prefix_transitive S T U h k = record {
  more = h.more ++ k.more;
  entries = k.entries ∙ (ap (λ es. es ++ k.more) h.entries ∙ append_assoc S.entries h.more k.more);
  has_k = k.has_k ∙ h.has_k;
}

-- the names after a push
pub names_of_push : NamesOfPush
names_of_push S e = flat_map-append names_of S.entries (e ∷ []) ∙ ap (λ ns. names S ++ ns) (append-nil (names_of e))

first_twice : (S : Signature) (n m : ℕ) → m ≤ n → first_entries S m ≡ first_entries (first_entries S n) m
unfolding with_entries
first_twice S n m le = ap (with_entries S) (sym (take-take m n S.entries le))

distinct-left : {X : Type 0} (xs ys : List X) → AllPairs (λ x y. x ≢ y) (xs ++ ys) → AllPairs (λ x y. x ≢ y) xs
distinct-left xs ys h i j d lt within same =
    h i j d lt (omega (arith, length-append xs ys))
    (get_or_append_left xs ys d i (omega arith) ∙ (same ∙ sym (get_or_append_left xs ys d j within)))

names_of-first : (S : Signature) (n : ℕ) → names S ≡ names (first_entries S n) ++ flat_map names_of (drop n S.entries)
names_of-first S n = ap (flat_map names_of) (sym (take-append-drop n S.entries)) ∙ flat_map-append names_of (take n S.entries) (drop n S.entries)

-- the first entries
pub first_entries_well_formed : FirstEntriesAreWellFormed
first_entries_well_formed S n h = record { distinct = distinct; each = each }
  where
    distinct : AllPairs (λ x y. x ≢ y) (names (first_entries S n))
    distinct =
        distinct-left (names (first_entries S n)) (flat_map names_of (drop n S.entries))
        (transport (AllPairs (λ x y. x ≢ y)) (names_of-first S n) h.distinct)

    each : (m : ℕ) (e : Entry) → IsEntryAt (first_entries S n) m e → IsEntry (first_entries (first_entries S n) m) e
    each m e at =
        let lt = slice_get_within (take n S.entries) m e at in
        transport (λ T. IsEntry T e) (first_twice S n m (omega (arith, length-take n S.entries)))
        (h.each m e (slice_get-take n S.entries m e at))
