-- Where the names of a signature are all different, each is found as the entry or constructor that it names.
use Rattle.std.proofs.Common.{◌≡◌, ◌≢◌, ℕ, zero, suc, ◌+◌, ◌<◌, false, List, [], ◌∷◌, ◌++◌, map, length, get_or, refl, sym, ap, ◌∙◌, subst, arith}
use Rattle.std.specs.Prelude.{cond, Option, Some, slice_get, AllPairs, bytes_eq}
use Rattle.std.specs.Map.{lookup, keys_of}
use Rattle.std.proofs.lemmas.Slice.Eq.{bytes_eq-Decides}
use Rattle.theory.specs.Families.{Constructor, Family}
use Rattle.theory.specs.Signatures.{Entry, FamilyOf, Signature, IsEntryAt, names}
use Rattle.theory.proofs.Lists.{slice_get-longer}
use Rattle.core_sig.specs.Names.{find, named, named_by, named_constructors}
use Rattle.core_sig.specs.declared.entry.Found.{Found}
use Rattle.core_sig.specs.declared.entry.Found.TheVariants.{Entry as FoundEntry, Con as FoundCon}
use Rattle.core_sig.proofs.NameLists.{differs}
use Rattle.core_sig.proofs.NewNames.{keys-named}

-- ---- a list in which each name occurs once

-- the pair is one of the list
record In (p : List ℕ × Found) (known : List (List ℕ × Found)) : Type 0 where
  place : ℕ
  is : slice_get known place ≡ Some p

pair-is : {p q : List ℕ × Found} → ◌≡◌ {A = Option (List ℕ × Found)} (Some p) (Some q) → p ≡ q
pair-is e = cc

key-at : (known : List (List ℕ × Found)) (k : ℕ) (p : List ℕ × Found) (d : List ℕ) → slice_get known k ≡ Some p → (k < length (keys_of known)) × (get_or (keys_of known) k d ≡ p.0)
key-at [] k p d e = absurd (cc)
key-at (q ∷ known) zero p d e = (omega arith, ap (λ r. r.0) (pair-is e))
key-at (q ∷ known) (suc k) p d e = let more = key-at known k p d e in (omega (arith, more.0), more.1)

lookup-in : (known : List (List ℕ × Found)) (k : ℕ) (p : List ℕ × Found) → slice_get known k ≡ Some p → AllPairs (λ x y. x ≢ y) (keys_of known) → lookup (bytes_eq p.0) known ≡ Some p.1
lookup-in [] k p e distinct = absurd (cc)
lookup-in (q ∷ known) zero p e distinct =
    let same = pair-is e in
    ap (λ b. cond b (Some q.1) (lookup (bytes_eq p.0) known)) ((bytes_eq-Decides p.0 q.0).1 (ap (λ r. r.0) (sym same))) ∙ ap (λ r. Some r.1) same
lookup-in (q ∷ known) (suc k) p e distinct =
    let at = key-at known k p p.0 e in
    let other : bytes_eq p.0 q.0 ≡ false = differs p.0 q.0 (λ same. distinct 0 (suc k) p.0 (omega arith) (omega (arith, at.0)) (sym same ∙ sym at.1)) in
    ap (λ b. cond b (Some q.1) (lookup (bytes_eq p.0) known)) other
    ∙ lookup-in known k p e (λ i j d lt within. distinct (suc i) (suc j) d (omega arith) (omega arith))

-- ---- the place of a name

in-front : (p : List ℕ × Found) (xs ys : List (List ℕ × Found)) → In p xs → In p (xs ++ ys)
in-front p xs ys is = record { place = is.place; is = slice_get-longer xs ys is.place p is.is }

past-at : (xs ys : List (List ℕ × Found)) (k : ℕ) (p : List ℕ × Found) → slice_get ys k ≡ Some p → slice_get (xs ++ ys) (length xs + k) ≡ Some p
past-at [] ys k p e = subst (λ j. slice_get ys j ≡ Some p) (from k) e
  where
    from : (k : ℕ) → k ≡ 0 + k
    from k = omega arith
past-at (x ∷ xs) ys k p e = subst (λ j. slice_get (x ∷ (xs ++ ys)) j ≡ Some p) (more (length xs) k) (past-at xs ys k p e)
  where
    more : (n k : ℕ) → suc (n + k) ≡ suc n + k
    more n k = omega arith

in-past : (p : List ℕ × Found) (xs ys : List (List ℕ × Found)) → In p ys → In p (xs ++ ys)
in-past p xs ys is = record { place = length xs + is.place; is = past-at xs ys is.place p is.is }

in-named : (es : List Entry) (m n : ℕ) (e : Entry) (p : List ℕ × Found) → slice_get es n ≡ Some e → In p (named_by (m + n) e) → In p (named m es)
in-named [] m n e p at is = absurd (cc)
in-named (x ∷ es) m zero e p at is =
    in-front p (named_by m x) (named (m + 1) es) (subst (In p) (ap (λ k. named_by k e) (still m) ∙ ap (named_by m) (sym (entry-is at))) is)
  where
    still : (m : ℕ) → m + 0 ≡ m
    still m = omega arith

    entry-is : {a b : Entry} → ◌≡◌ {A = Option Entry} (Some a) (Some b) → a ≡ b
    entry-is same = cc
in-named (x ∷ es) m (suc n) e p at is =
    in-past p (named_by m x) (named (m + 1) es) (in-named es (m + 1) n e p at (subst (λ k. In p (named_by k e)) (shifted m n) is))
  where
    shifted : (m n : ℕ) → m + suc n ≡ (m + 1) + n
    shifted m n = omega arith

found-at : (S : Signature) → AllPairs (λ x y. x ≢ y) (names S) → (n : ℕ) (e : Entry) (p : List ℕ × Found) → IsEntryAt S n e → In p (named_by n e) → find S p.0 ≡ Some p.1
found-at S distinct n e p at is =
    let place = in-named S.entries 0 n e p at (subst (λ k. In p (named_by k e)) (from n) is) in
    lookup-in (named 0 S.entries) place.place p place.is (subst (AllPairs (λ x y. x ≢ y)) (sym (keys-named 0 S.entries)) distinct)
  where
    from : (k : ℕ) → k ≡ 0 + k
    from k = omega arith

-- ---- the names of entries

pub family-found : (S : Signature) → AllPairs (λ x y. x ≢ y) (names S) → (n : ℕ) (f : Family) → IsEntryAt S n (FamilyOf f) → find S f.name ≡ Some (FoundEntry n)
family-found S distinct n f at = found-at S distinct n (FamilyOf f) (f.name, FoundEntry n) at (record { place = 0; is = refl })

pub definition-found : (S : Signature) → AllPairs (λ x y. x ≢ y) (names S) → (n : ℕ) (e : Entry) (name : List ℕ) → IsEntryAt S n e → named_by n e ≡ (name, FoundEntry n) ∷ [] → find S name ≡ Some (FoundEntry n)
definition-found S distinct n e name at is = found-at S distinct n e (name, FoundEntry n) at (record { place = 0; is = ap (λ known. slice_get known 0) is })

constructor-in : (cs : List Constructor) (n number k : ℕ) (c : Constructor) → slice_get cs k ≡ Some c → slice_get (named_constructors n number (map (λ c. c.name) cs)) k ≡ Some (c.name, FoundCon n (number + k))
constructor-in [] n number k c e = absurd (cc)
constructor-in (x ∷ cs) n number zero c e =
    ap (λ j. Some (x.name, FoundCon n j)) (from number) ∙ ap (λ d. Some (d.name, FoundCon n (number + 0))) (con-is e)
  where
    from : (k : ℕ) → k ≡ k + 0
    from k = omega arith

    con-is : {a b : Constructor} → ◌≡◌ {A = Option Constructor} (Some a) (Some b) → a ≡ b
    con-is same = cc
constructor-in (x ∷ cs) n number (suc k) c e =
    constructor-in cs n (number + 1) k c e ∙ ap (λ j. Some (c.name, FoundCon n j)) (shifted number k)
  where
    shifted : (m n : ℕ) → (m + 1) + n ≡ m + suc n
    shifted m n = omega arith

pub constructor-found : (S : Signature) → AllPairs (λ x y. x ≢ y) (names S) → (n number : ℕ) (f : Family) (c : Constructor) → IsEntryAt S n (FamilyOf f) → slice_get f.constructors number ≡ Some c → find S c.name ≡ Some (FoundCon n number)
constructor-found S distinct n number f c at is =
    found-at S distinct n (FamilyOf f) (c.name, FoundCon n number) at
    (record { place = suc number; is = constructor-in f.constructors n 0 number c is ∙ ap (λ j. Some (c.name, FoundCon n j)) (from number) })
  where
    from : (k : ℕ) → 0 + k ≡ k
    from k = omega arith
