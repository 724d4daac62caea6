-- Lines by conditions on their parts. `Known own` is a condition on terms: on their symbols, to which the family that the line declares
-- belongs where `own` says so. `May own found` is one on declared names, where `own` is the name of the family that the line declares, or
-- nothing, and `found` has its constructors so far. `Named` is one on the number of a family that the line names.
use Rattle.std.specs.Prelude.{◌≡◌, ℕ, ◌+◌, ◌≤◌, Bool, true, false, List, [], ◌∷◌, ◌++◌, map, length, All}
use Rattle.theory.specs.Terms.{Term, free_of, height}
use Rattle.theory.specs.Telescopes.{Telescope}
use Rattle.theory.specs.Signatures.{Signature}
use Rattle.core_terms.specs.Bounds.{most_height}
use Rattle.core_sig.specs.Raw.{RawConstructor, RawFamily}
use Rattle.core_text.specs.LineReading.{levels_left, identities_left}
use Rattle.core_text.specs.RawEntries.{RawEntry, RawFamilyOf, RawEliminator, RawAxiomK, RawDefinition}
use Rattle.core_text.specs.Reading.{is_left}
use Rattle.core_text.specs.declared.instances.Series.TheVariants.{Elim, AxiomK}

-- a whole term over n variables
pub record IsTermWith (Known : Term → Type 0) (n : ℕ) (t : Term) : Type 0 where
  pub symbols : Known t
  pub free : free_of t ≤ n

-- types after n variables, each over these and those before it
abbrev pub AreTypesWith : (Term → Type 0) → ℕ → Telescope → Type 0
AreTypesWith Known n [] = Unit {0}
AreTypesWith Known n (a ∷ tele) = IsTermWith Known n a × AreTypesWith Known (n + 1) tele

-- constructors of a family with p parameters, after those found
abbrev pub AreConstructorsWith : (Term → Type 0) → (List RawConstructor → List ℕ → Type 0) → ℕ → List RawConstructor → List RawConstructor → Type 0
AreConstructorsWith Known May p found [] = Unit {0}
AreConstructorsWith Known May p found (c ∷ cs) =
    May found c.name × IsTermWith Known p c.type × AreConstructorsWith Known May p (found ++ c ∷ []) cs

pub record IsFamilyWith (Known : Bool → Term → Type 0) (May : List ℕ → List RawConstructor → List ℕ → Type 0) (raw : RawFamily) : Type 0 where
  pub name : May [] [] raw.name
  pub parameters : AreTypesWith (Known false) 0 raw.parameters
  pub type : IsTermWith (Known false) (length raw.parameters) raw.type
  pub constructors : AreConstructorsWith (Known true) (May raw.name) (length raw.parameters) [] raw.constructors

-- the condition on a line after the entries S, which has no instance that is there
abbrev pub IsEntryWith : (Bool → Term → Type 0) → (List ℕ → List RawConstructor → List ℕ → Type 0) → (ℕ → Type 0) → Signature → RawEntry → Type 0
IsEntryWith Known May Named S (RawFamilyOf raw) = IsFamilyWith Known May raw
IsEntryWith Known May Named S (RawEliminator g m) = Named g × (is_left (levels_left S (Elim g)) m ≡ true)
IsEntryWith Known May Named S (RawAxiomK i m) =
    (S.has_k ≡ true) × (is_left (identities_left S) i ≡ true) × (is_left (levels_left S (AxiomK i)) m ≡ true)
IsEntryWith Known May Named S (RawDefinition name type body) =
    May [] [] name × IsTermWith (Known false) 0 type × IsTermWith (Known false) 0 body

-- a property of each whole term of a line
abbrev pub EachTerm : (Term → Type 0) → RawEntry → Type 0
EachTerm P (RawFamilyOf raw) = All P raw.parameters × P raw.type × All P (map (λ c. c.type) raw.constructors)
EachTerm P (RawEliminator g m) = Unit {0}
EachTerm P (RawAxiomK i m) = Unit {0}
EachTerm P (RawDefinition name type body) = P type × P body

abbrev pub IsLow : Term → Type 0
IsLow t = height t ≤ most_height

-- no term of a line is higher than 2,000
abbrev pub HasLowTerms : RawEntry → Type 0
HasLowTerms raw = EachTerm IsLow raw
