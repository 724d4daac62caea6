-- Well-formed signatures are typed, and stay well formed where a well-formed entry is pushed.
use Rattle.std.proofs.Common.{◌≡◌, ℕ, suc, ◌<◌, Some, List, [], length, take, drop, slice_get, subst as transport, sym, refl, ap, ◌∙◌, inr, arith}
use Rattle.std.proofs.lemmas.Option.{slice_get_within}
use Rattle.std.proofs.lemmas.List.{take-append-drop, length-take, length-take-le}
use Rattle.theory.specs.Terms.{Term}
use Rattle.theory.specs.Families.{Family, Constructor, constructor_type, without_constructors}
use Rattle.theory.specs.Eliminators.{eliminator_type}
use Rattle.theory.specs.Signatures.{Signature, Entry, FamilyOf, EliminatorAt, AxiomKAt, Definition, IsEntryAt, IsPrefix, TypeOf}
use Rattle.theory.specs.Signatures.TypeOf.{constant, family, constructor, eliminator, axiom_k}
use Rattle.theory.specs.Typing.{HasSort}
use Rattle.theory.specs.WellFormed.{pushed, first_entries, IsConstructor, IsFamily, IsEliminator, IsAxiomK, IsDefinition, IsEntry, IsWellFormed}
use Rattle.theory.specs.WellFormed.IsEntry.{family as family_entry, eliminator as eliminator_entry, axiom_k as axiom_k_entry, definition as definition_entry}
use Rattle.theory.specs.SignatureLaws.{FirstEntriesArePrefix, WellFormedIsTyped}
use Rattle.theory.proofs.AllOf.{all_at}
use Rattle.theory.proofs.Lists.{some_is, split_at, slice_get-take}
use Rattle.theory.proofs.Completing.{completed}
use Rattle.theory.proofs.Widening.{prefix_keeps, prefix_carries}
use Rattle.theory.proofs.Carrying.{constructor-carried, has-carried, sort-carried}

-- the entries before a place
pub first_is_prefix : FirstEntriesArePrefix
first_is_prefix S n =
    record { more = drop n S.entries; entries = sym (take-append-drop n S.entries); has_k = refl }

-- and those through it
pub through_is_prefix : (S : Signature) (n : ℕ) (e : Entry) → IsEntryAt S n e → IsPrefix (pushed (first_entries S n) e) S
through_is_prefix S n e at =
    record { more = drop (suc n) S.entries; entries = split_at S.entries n e at; has_k = refl }

definition_of : {S : Signature} {name : List ℕ} {type body : Term} → IsEntry S (Definition name type body) → IsDefinition S type body
definition_of (definition_entry h) = h

family_of : {S : Signature} {f : Family} → IsEntry S (FamilyOf f) → IsFamily S f
family_of (family_entry h) = h

eliminator_of : {S : Signature} {n m : ℕ} → IsEntry S (EliminatorAt n m) → (f : Family) × IsEliminator S n m f
eliminator_of (eliminator_entry f h) = (f, h)

pub axiom_k_of : {S : Signature} {i m : ℕ} → IsEntry S (AxiomKAt i m) → IsAxiomK S i m
axiom_k_of (axiom_k_entry h) = h

record_in : Family → Entry → Family
record_in f (FamilyOf g) = g
record_in f _ = f

-- a number has one family
pub same_family : (S : Signature) (n : ℕ) (f g : Family) → IsEntryAt S n (FamilyOf f) → IsEntryAt S n (FamilyOf g) → f ≡ g
unfolding record_in
same_family S n f g at at' = ap (record_in f) (some_is (sym at ∙ at'))

-- each eliminator among the first entries is that of one of them
eliminated : (S : Signature) → IsWellFormed S → (count place n m : ℕ) → IsEntryAt (first_entries S count) place (EliminatorAt n m)
    → n < length (first_entries S count).entries
eliminated S h count place n m made =
    let within = slice_get_within (take count S.entries) place _ made in
    let (g, e) = eliminator_of (h.each place (EliminatorAt n m) (slice_get-take count S.entries place _ made)) in
    let lt = slice_get_within (take place S.entries) n _ e.family in
    omega (arith, length-take place S.entries)

-- a constructor, over the signature that has its family with it
pub constructor-whole : (S : Signature) → IsWellFormed S → (n : ℕ) (f : Family) (c : Constructor)
    → let T = first_entries S n in
    IsConstructor (pushed T (FamilyOf (without_constructors f))) (length T.entries) f c
    → IsConstructor (pushed T (FamilyOf f)) (length T.entries) f c
constructor-whole S h n f c made = constructor-carried (completed (first_entries S n) (eliminated S h n) f) made

constructor_sort : (S : Signature) → IsWellFormed S → (n number : ℕ) (f : Family) (c : Constructor) → IsEntryAt S n (FamilyOf f) → slice_get f.constructors number ≡ Some c → HasSort S [] (constructor_type n f c)
constructor_sort S h n number f c at chosen =
    let all = (family_of (h.each n (FamilyOf f) at)).constructors in
    let place = length (take n S.entries) in
    let bare = pushed (first_entries S n) (FamilyOf (without_constructors f)) in
    let made = constructor-whole S h n f c (all_at (IsConstructor bare place f) f.constructors number c chosen all) in
    transport (λ k. HasSort S [] (constructor_type k f c)) (length-take-le n S.entries (omega (arith, slice_get_within S.entries n (FamilyOf f) at)))
    (sort-carried (prefix_carries (through_is_prefix S n (FamilyOf f) at)) made.type)

eliminator_sort : (S : Signature) → IsWellFormed S → (n m place : ℕ) (f : Family) → IsEntryAt S n (FamilyOf f) → IsEntryAt S place (EliminatorAt n m) → HasSort S [] (eliminator_type n f m)
eliminator_sort S h n m place f at made =
    let (g, e) = eliminator_of (h.each place (EliminatorAt n m) made) in
    let into = first_is_prefix S place in
    transport (λ r. HasSort S [] (eliminator_type n r m)) (same_family S n g f ((prefix_keeps into).entry n (FamilyOf g) e.family) at)
    (sort-carried (prefix_carries into) e.type)

well_formed-types : {S : Signature} → IsWellFormed S → {t a : Term} → TypeOf S t a → HasSort S [] a
well_formed-types {S} h (constant n at) = sort-carried (prefix_carries (first_is_prefix S n)) (definition_of (h.each n _ at)).type_sort
well_formed-types {S} h (family n at) = sort-carried (prefix_carries (first_is_prefix S n)) (family_of (h.each n _ at)).type
well_formed-types {S} h (constructor n number at chosen) = constructor_sort S h n number _ _ at chosen
well_formed-types {S} h (eliminator n m place at made) = eliminator_sort S h n m place _ at made
well_formed-types {S} h (axiom_k i m place made) =
    sort-carried (prefix_carries (first_is_prefix S place)) (axiom_k_of (h.each place _ made)).type

-- a well-formed signature is typed
pub well_formed_typed : WellFormedIsTyped
well_formed_typed S h = record {
  types = well_formed-types h;
  bodies = λ at. inr (has-carried (prefix_carries (first_is_prefix S _)) (definition_of (h.each _ _ at)).body_type);
}
