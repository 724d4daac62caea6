-- A family that gets its constructors: the signature that has it with them carries what holds over the one that has it
-- without them. A family without constructors takes part in no iota step, and no instance of its eliminator is there.
use Rattle.std.proofs.Common.{◌≡◌, ℕ, ◌<◌, [], ◌∷◌, length, Some, slice_get, refl, sym, ap, ◌∙◌, subst as transport, inl, inr, arith}
use Rattle.std.proofs.lemmas.Option.{none-some}
use Rattle.theory.specs.Terms.{Term}
use Rattle.theory.specs.Terms.Term.{Fam}
use Rattle.theory.specs.Families.{Constructor, Family, family_type, without_constructors}
use Rattle.theory.specs.Prelude.{equality_family}
use Rattle.theory.specs.Signatures.{Signature, Entry, FamilyOf, EliminatorAt, IsEntryAt, TypeOf, equality}
use Rattle.theory.specs.Signatures.TypeOf.{constant, family, constructor, eliminator, axiom_k}
use Rattle.theory.specs.Conversion.{Contracts}
use Rattle.theory.specs.Conversion.Contracts.{beta, zeta, delta, iota}
use Rattle.theory.specs.Conversion.Contracts.{axiom_k as step_k}
use Rattle.theory.specs.WellFormed.{pushed}
use Rattle.theory.proofs.Lists.{slice_get-last, slice_get-longer, slice_get-pushed}
use Rattle.theory.proofs.Carrying.{Carries}

is_family : Entry → Type 0
is_family (FamilyOf f) = Unit {0}
is_family _ = ⊥

record_of : Family → Entry → Family
record_of f (FamilyOf g) = g
record_of f _ = f

-- an entry that is no family comes before the last one, which is a family
before : (S : Signature) (f : Family) (n : ℕ) (e : Entry) → ¬ (is_family e) → IsEntryAt (pushed S (FamilyOf f)) n e → IsEntryAt S n e
unfolding is_family
before S f n e other at = elim (slice_get-pushed S.entries (FamilyOf f) n e at) [
  | inl earlier ↦ earlier
  | inr (place, same_entry) ↦ absurd (other (transport is_family same_entry tt))
]

-- where each eliminator of S is that of an entry of S
pub completed : (S : Signature) → ((place n m : ℕ) → IsEntryAt S place (EliminatorAt n m) → n < length S.entries) → (f : Family)
    → Carries (pushed S (FamilyOf (without_constructors f))) (pushed S (FamilyOf f))
unfolding is_family record_of
completed S eliminated f = record { types = types; contracts = contracts }
  where
    bare : Family
    bare = without_constructors f

    T : Signature
    T = pushed S (FamilyOf bare)

    U : Signature
    U = pushed S (FamilyOf f)

    kept : (n : ℕ) (e : Entry) → IsEntryAt S n e → IsEntryAt U n e
    kept n e at = slice_get-longer S.entries (FamilyOf f ∷ []) n e at

    none_of : (g : Family) (number : ℕ) (c : Constructor) → FamilyOf bare ≡ FamilyOf g → slice_get g.constructors number ≡ Some c → ⊥
    none_of g number c e chosen =
        none-some c (ap (λ x. slice_get x number) (ap (λ x. (record_of bare x).constructors) e) ∙ chosen)

    family_typed : (n : ℕ) (g : Family) → IsEntryAt T n (FamilyOf g) → TypeOf U (Fam n) (family_type g)
    family_typed n g at = elim (slice_get-pushed S.entries (FamilyOf bare) n (FamilyOf g) at) [
      | inl earlier ↦ family n (kept n (FamilyOf g) earlier)
      | inr (place, e) ↦
          transport (λ x. TypeOf U (Fam n) (family_type (record_of bare x))) e
          (transport (λ k. TypeOf U (Fam k) (family_type f)) (sym place) (family (length S.entries) (slice_get-last S.entries (FamilyOf f))))
    ]

    types : (t a : Term) → TypeOf T t a → TypeOf U t a
    types t a (constant n at) = constant n (kept n _ (before S bare n _ (λ no. no) at))
    types t a (family n at) = family_typed n _ at
    types t a (constructor n number at chosen) = elim (slice_get-pushed S.entries (FamilyOf bare) n _ at) [
      | inl earlier ↦ constructor n number (kept n _ earlier) chosen
      | inr (place, e) ↦ absurd (none_of _ number _ e chosen)
    ]
    types t a (eliminator n m place at made) =
        let made_before = before S bare place _ (λ no. no) made in
        let lt = eliminated place n m made_before in
        elim (slice_get-pushed S.entries (FamilyOf bare) n _ at) [
          | inl earlier ↦ eliminator n m place (kept n _ earlier) (kept place _ made_before)
          | inr (last, e) ↦ absurd (omega arith)
        ]
    types t a (axiom_k i m place made) = axiom_k i m place (kept place _ (before S bare place _ (λ no. no) made))

    contracts : (t u : Term) → Contracts T t u → Contracts U t u
    contracts t u beta = beta
    contracts t u zeta = zeta
    contracts t u (delta n at new) = delta n (kept n _ (before S bare n _ (λ no. no) at)) new
    contracts t u (iota n m number g c ps P ms is qs us at chosen redex method) = elim (slice_get-pushed S.entries (FamilyOf bare) n (FamilyOf g) at) [
      | inl earlier ↦ iota n m number g c ps P ms is qs us (kept n _ earlier) chosen redex method
      | inr (place, e) ↦ absurd (none_of g number c e chosen)
    ]
    contracts t u (step_k i m on identity) = elim (slice_get-pushed S.entries (FamilyOf bare) (equality i) _ identity.entry) [
      | inl earlier ↦ step_k i m on (record { level = identity.level; entry = kept (equality i) _ earlier })
      | inr (place, e) ↦ absurd (none_of (equality_family i) 0 _ e refl)
    ]
