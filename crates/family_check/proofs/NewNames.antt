-- New names: the names of a signature stay all different where new ones are added.
use Rattle.std.proofs.Common.{◌≡◌, ◌≢◌, ℕ, suc, ◌+◌, Bool, true, false, not, ◌||◌, List, [], ◌∷◌, ◌++◌, map, get_or, flat_map, All, AllPairs, bytes_eq, refl, ap, ap₂, sym, ◌∙◌, arith}
use Rattle.std.specs.List.{list_any}
use Rattle.std.specs.Option.{is_some}
use Rattle.std.specs.Map.{keys_of}
use Rattle.std.proofs.lemmas.Map.Made.{is_some-lookup}
use Rattle.std.proofs.lemmas.Slice.Eq.{bytes_eq-Decides}
use Rattle.std.proofs.lemmas.List.Elements.{All-cons, All-nil, All-append}
use Rattle.std.proofs.lemmas.List.Kept.{AllPairs-cons}
use Rattle.theory.specs.Signatures.{Entry, FamilyOf, EliminatorAt, AxiomKAt, Definition, Signature, names, names_of}
use Rattle.theory.proofs.Lists.{All-tail}
use Rattle.core_sig.specs.Names.{find, named, named_by, named_constructors}
use Rattle.family_check.specs.Entering.{has_repeat, are_new}

pub both-false : (a b : Bool) → (a || b) ≡ false → (a ≡ false) × (b ≡ false)
both-false true b h = absurd (grind arith)
both-false false b h = (refl, h)

pub not-true : (b : Bool) → not b ≡ true → b ≡ false
not-true true h = sym h
not-true false h = refl

pub none-passes : {X : Type 0} (p : X → Bool) (xs : List X) → list_any p xs ≡ false → All (λ x. p x ≡ false) xs
none-passes p [] h = All-nil (λ x. p x ≡ false)
none-passes p (x ∷ xs) h =
    let parts = both-false (p x) (list_any p xs) h in
    All-cons (λ y. p y ≡ false) x xs parts.0 (none-passes p xs parts.1)

differs : (x y : List ℕ) → bytes_eq x y ≡ false → x ≢ y
differs x y h e = absurd (let t = (bytes_eq-Decides x y).1 e in grind arith)

-- a list after another one, where each of its elements is related to all of the other
pairs-append : {X : Type 0} (R : X → X → Type 0) (xs ys : List X) → AllPairs R xs → AllPairs R ys → All (λ y. All (λ x. R x y) xs) ys
    → AllPairs R (xs ++ ys)
pairs-append R [] ys r s h = s
pairs-append R (x ∷ xs) ys r s h =
    AllPairs-cons R x (xs ++ ys)
    (All-append (R x) xs ys (λ k d w. r 0 (suc k) d (omega arith) (omega arith)) (λ k d w. h k d w 0 x (omega arith)))
    (pairs-append R xs ys (λ i j d l w. r (suc i) (suc j) d (omega arith) (omega arith)) s (λ k d w. All-tail (λ z. R z (get_or ys k d)) x xs (h k d w)))

keys-append : {X : Type 0} (xs ys : List (List ℕ × X)) → keys_of (xs ++ ys) ≡ keys_of xs ++ keys_of ys
keys-append [] ys = refl
keys-append (x ∷ xs) ys = ap (λ ks. x.0 ∷ ks) (keys-append xs ys)

constructor-keys : (n number : ℕ) (ns : List (List ℕ)) → keys_of (named_constructors n number ns) ≡ ns
constructor-keys n number [] = refl
constructor-keys n number (name ∷ ns) = ap (λ ks. name ∷ ks) (constructor-keys n (number + 1) ns)

entry-keys : (n : ℕ) (e : Entry) → keys_of (named_by n e) ≡ names_of e
entry-keys n (FamilyOf f) = ap (λ ks. f.name ∷ ks) (constructor-keys n 0 (map (λ c. c.name) f.constructors))
entry-keys n (EliminatorAt f m) = refl
entry-keys n (AxiomKAt i m) = refl
entry-keys n (Definition name type body) = refl

-- the names that are looked up are those of the entries
named-keys : (n : ℕ) (es : List Entry) → keys_of (named n es) ≡ flat_map names_of es
named-keys n [] = refl
named-keys n (e ∷ es) = keys-append (named_by n e) (named (n + 1) es) ∙ ap₂ ◌++◌ (entry-keys n e) (named-keys (n + 1) es)

-- a name that is not found differs from each of them
unknown-differs : (S : Signature) (name : List ℕ) → is_some (find S name) ≡ false → All (λ x. x ≢ name) (names S)
unknown-differs S name h =
    let none : list_any (bytes_eq name) (names S) ≡ false =
    ap (list_any (bytes_eq name)) (sym (named-keys 0 S.entries)) ∙ (sym (is_some-lookup (bytes_eq name) (named 0 S.entries)) ∙ h) in
    λ k d w e. differs name _ (none-passes (bytes_eq name) (names S) none k d w) (sym e)

repeats-none : (ns : List (List ℕ)) → has_repeat ns ≡ false → AllPairs (λ x y. x ≢ y) ns
repeats-none [] h = λ i j d l w. absurd (omega arith)
repeats-none (name ∷ ns) h =
    let parts = both-false (list_any (bytes_eq name) ns) (has_repeat ns) h in
    AllPairs-cons (λ x y. x ≢ y) name ns
    (λ k d w. differs name _ (none-passes (bytes_eq name) ns parts.0 k d w))
    (repeats-none ns parts.1)

-- none of the names is one of the signature's, and they are all different
pub record DifferFrom (S : Signature) (ns : List (List ℕ)) : Type 0 where
  pub unknown : All (λ name. All (λ x. x ≢ name) (names S)) ns
  pub distinct : AllPairs (λ x y. x ≢ y) ns

pub new-differ : (S : Signature) (ns : List (List ℕ)) → are_new S ns ≡ true → DifferFrom S ns
new-differ S ns h =
    let parts = both-false (list_any (λ name. is_some (find S name)) ns) (has_repeat ns) (not-true _ h) in
    record {
      unknown = λ k d w. unknown-differs S _ (none-passes (λ name. is_some (find S name)) ns parts.0 k d w);
      distinct = repeats-none ns parts.1;
    }

-- the first of them alone
pub first-differs : (S : Signature) (name : List ℕ) (ns : List (List ℕ)) → DifferFrom S (name ∷ ns) → DifferFrom S (name ∷ [])
first-differs S name ns h =
    record {
      unknown = All-cons Differs name [] (h.unknown 0 name (omega arith)) (All-nil Differs);
      distinct = λ i j d l w. absurd (omega arith);
    }
  where
    Differs : List ℕ → Type 0
    Differs y = All (λ x. x ≢ y) (names S)

pub all-distinct : (S : Signature) (ns : List (List ℕ)) → AllPairs (λ x y. x ≢ y) (names S) → DifferFrom S ns → AllPairs (λ x y. x ≢ y) (names S ++ ns)
all-distinct S ns before h = pairs-append (λ x y. x ≢ y) (names S) ns before h.distinct h.unknown
