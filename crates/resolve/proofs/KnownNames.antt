-- The term of a name in a signature has its entry.
use Rattle.std.proofs.Common.{◌≡◌, ℕ, ◌+◌, ◌<◌, ◌≤◌, Bool, true, false, cond, List, [], ◌∷◌, ◌++◌, map, length, Option, Some, None, option_map, IfSome, bytes_eq, slice_get, ap, sym, ◌∙◌, subst, subst₂, arith, append_assoc}
use Rattle.std.proofs.lemmas.List.{length-append, length-map}
use Rattle.std.specs.Map.{lookup}
use Rattle.theory.specs.Families.{Family}
use Rattle.theory.specs.Terms.{Term}
use Rattle.theory.specs.Signatures.{Entry, FamilyOf, EliminatorAt, AxiomKAt, Definition, Signature, IsPrefix}
use Rattle.theory.proofs.Lists.{slice_get-last, slice_get-longer}
use Rattle.core_sig.specs.Names.{named, named_by, named_constructors, find}
use Rattle.core_sig.specs.declared.entry.Found.{Found}
use Rattle.core_sig.specs.declared.entry.Found.TheVariants.{Entry as FoundEntry, Con}
use Rattle.resolve.specs.Names.{Known, symbol, entry_symbol, known_in, with_name}
use Rattle.resolve.specs.Scoping.{IsResolved}

abbrev HasName : Entry → Type 0
HasName (FamilyOf f) = Unit {0}
HasName (EliminatorAt n m) = ⊥
HasName (AxiomKAt i m) = ⊥
HasName (Definition name type body) = Unit {0}

-- the entries have the entry or constructor that is found
abbrev pub IsFound : List Entry → Found → Type 0
IsFound es (FoundEntry n) = (e : Entry) × (slice_get es n ≡ Some e) × HasName e
IsFound es (Con n c) = (f : Family) × (slice_get es n ≡ Some (FamilyOf f)) × (c < length f.constructors)

either : {A : Type 0} (P : A → Type 0) (b : Bool) (x : A) (rest : Option A) → P x → IfSome rest P → IfSome (cond b (Some x) rest) P
either P true x rest p q = p
either P false x rest p q = q

in_both : (P : Found → Type 0) (test : List ℕ → Bool) (xs ys : List (List ℕ × Found)) → IfSome (lookup test xs) P → IfSome (lookup test ys) P → IfSome (lookup test (xs ++ ys)) P
in_both P test [] ys p q = q
in_both P test (x ∷ xs) ys p q = go (test x.0) p (λ p. in_both P test xs ys p q)
  where
    go : (b : Bool) → IfSome (cond b (Some x.1) (lookup test xs)) P → (IfSome (lookup test xs) P → IfSome (lookup test (xs ++ ys)) P)
        → IfSome (cond b (Some x.1) (lookup test (xs ++ ys))) P
    go true p rest = p
    go false p rest = rest p

in_constructors : (es : List Entry) (test : List ℕ → Bool) (n : ℕ) (f : Family) (number : ℕ) (names : List (List ℕ)) → slice_get es n ≡ Some (FamilyOf f) → number + length names ≤ length f.constructors
    → IfSome (lookup test (named_constructors n number names)) (IsFound es)
in_constructors es test n f number [] at few = tt
in_constructors es test n f number (name ∷ names) at few =
    either (IsFound es) (test name) (Con n number) (lookup test (named_constructors n (number + 1) names)) (f, at, omega arith) (in_constructors es test n f (number + 1) names at (omega arith))

in_entry : (es : List Entry) (test : List ℕ → Bool) (n : ℕ) (e : Entry) → slice_get es n ≡ Some e → IfSome (lookup test (named_by n e)) (IsFound es)
in_entry es test n (FamilyOf f) at =
    either (IsFound es) (test f.name) (FoundEntry n) (lookup test (named_constructors n 0 (map (λ c. c.name) f.constructors))) (FamilyOf f, at, tt)
    (in_constructors es test n f 0 (map (λ c. c.name) f.constructors) at (omega (arith, length-map f.constructors (λ c. c.name))))
in_entry es test n (EliminatorAt f m) at = tt
in_entry es test n (AxiomKAt i m) at = tt
in_entry es test n (Definition name type body) at = either (IsFound es) (test name) (FoundEntry n) None (Definition name type body, at, tt) tt

in_entries : (test : List ℕ → Bool) (xs ys : List Entry) → IfSome (lookup test (named (length xs) ys)) (IsFound (xs ++ ys))
in_entries test xs [] = tt
in_entries test xs (e ∷ ys) =
    in_both (IsFound (xs ++ e ∷ ys)) test (named_by (length xs) e) (named (length xs + 1) ys)
    (in_entry (xs ++ e ∷ ys) test (length xs) e (ap (λ es. slice_get es (length xs)) (sym joined) ∙ slice_get-longer (xs ++ e ∷ []) ys (length xs) e (slice_get-last xs e)))
    (subst₂ (λ n es. IfSome (lookup test (named n ys)) (IsFound es)) (length-append xs (e ∷ [])) joined (in_entries test (xs ++ e ∷ []) ys))
  where
    joined : (xs ++ e ∷ []) ++ ys ≡ xs ++ e ∷ ys
    joined = append_assoc xs (e ∷ []) ys

pub is_found : (S : Signature) (name : List ℕ) → IfSome (find S name) (IsFound S.entries)
is_found S name = in_entries (bytes_eq name) [] S.entries

-- a name that is found in the first entries of a signature is resolved over the signature
pub found_resolved : (S T : Signature) → IsPrefix S T → (found : Found) → IsFound S.entries found → IsResolved T 0 (symbol S found)
found_resolved S T p (Con n c) (f, at, few) = record {
  scoped = record { variables = omega arith; entries = (f, longer, few) };
  low = omega arith;
}
  where
    longer : slice_get T.entries n ≡ Some (FamilyOf f)
    longer = ap (λ es. slice_get es n) p.entries ∙ slice_get-longer S.entries p.more n (FamilyOf f) at
found_resolved S T p (FoundEntry n) (e, at, has) = subst (λ o. IsResolved T 0 (entry_symbol n o)) (sym at) (by_entry e longer has)
  where
    longer : slice_get T.entries n ≡ Some e
    longer = ap (λ es. slice_get es n) p.entries ∙ slice_get-longer S.entries p.more n e at

    by_entry : (e : Entry) → slice_get T.entries n ≡ Some e → HasName e → IsResolved T 0 (entry_symbol n (Some e))
    by_entry (FamilyOf f) at has = record { scoped = record { variables = omega arith; entries = (f, at) }; low = omega arith }
    by_entry (EliminatorAt f m) at has = absurd has
    by_entry (AxiomKAt i m) at has = absurd has
    by_entry (Definition name type body) at has = record { scoped = record { variables = omega arith; entries = (name, type, body, at) }; low = omega arith }

-- terms of names are scoped and low
abbrev pub IsKnown : Signature → Known → Type 0
IsKnown T known = (name : List ℕ) → IfSome (known name) (IsResolved T 0)

pub known_resolved : (S T : Signature) → IsPrefix S T → IsKnown T (known_in S)
known_resolved S T p name = go (find S name) (is_found S name)
  where
    go : (o : Option Found) → IfSome o (IsFound S.entries) → IfSome (option_map (symbol S) o) (IsResolved T 0)
    go (Some found) is = found_resolved S T p found is
    go None is = tt

pub with_resolved : (T : Signature) (own : List ℕ) (t : Term) (known : Known) → IsResolved T 0 t → IsKnown T known → IsKnown T (with_name own t known)
with_resolved T own t known is rest name = either (IsResolved T 0) (bytes_eq own name) t (known name) is (rest name)
