-- The generated entries over a signature: those of its families and constructors, at levels.
use Rattle.std.specs.Prelude.{◌≡◌, ◌<◌, ◌≤◌, ◌+◌, ℕ, List, [], ◌∷◌, length, map, max}
use Rattle.theory.specs.Terms.{top, height}
use Rattle.theory.specs.Signatures.{Signature, FamilyOf, IsEntryAt}
use Rattle.core_terms.specs.Bounds.{most_height}
use Rattle.core_sig.specs.Drafts.{Draft}
use Rattle.core_sig.specs.EntryTerms.{EachTerm}
use Rattle.core_sig.specs.FamilyShapes.{family_shape}
use Rattle.generators.specs.acyclic_gen.AcyclicEntries.{names_for}
use Rattle.clause_reports.specs.Generated.{Generated, Case, Below, Aux, Rec, All, ConfusionType, NoConfusion, Direct, Acyclic, Left, name_of}
use Rattle.drafts.specs.draft_entering.Conditions.{IsDefinition}
use Rattle.drafts.specs.draft_entering.Depths.{own_name}

-- it is of a family of the signature, of a constructor of one, or of an identity family, at a level below the greatest
abbrev pub IsListed : Signature → Generated → Type 0
IsListed S (Case n f m) = IsEntryAt S n (FamilyOf f) × (m < top)
IsListed S (Below n f m) = IsEntryAt S n (FamilyOf f) × (m < top)
IsListed S (Aux n f m) = IsEntryAt S n (FamilyOf f) × (m < top)
IsListed S (Rec n f m) = IsEntryAt S n (FamilyOf f) × (m < top)
IsListed S (All n f m) = IsEntryAt S n (FamilyOf f) × (m < top)
IsListed S (ConfusionType n f number m) = IsEntryAt S n (FamilyOf f) × ((m < top) × (number < length f.constructors))
IsListed S (NoConfusion n f number m) = IsEntryAt S n (FamilyOf f) × ((m < top) × (number < length f.constructors))
IsListed S (Direct n f) = IsEntryAt S n (FamilyOf f)
IsListed S (Acyclic n f) = IsEntryAt S n (FamilyOf f)
IsListed S (Left i m) = (i < top) × (m < top)

-- the names that its draft has
abbrev pub names_by : Generated → List (List ℕ)
names_by (Case n f m) = []
names_by (Below n f m) = []
names_by (Aux n f m) = name_of (Below n f m) ∷ []
names_by (Rec n f m) = name_of (Below n f m) ∷ name_of (Aux n f m) ∷ []
names_by (All n f m) = name_of (Below n f m) ∷ name_of (Aux n f m) ∷ []
names_by (ConfusionType n f number m) = name_of (Case n f (max f.level (m + 1) + 1)) ∷ []
names_by (NoConfusion n f number m) = name_of (ConfusionType n f number m) ∷ []
names_by (Direct n f) = []
names_by (Acyclic n f) = names_for f.name (map (λ c. c.name) f.constructors) (family_shape n f).constructors
names_by (Left i m) = []

-- a definition with a name and names, and with terms that are not too high
pub record IsMadeOf (name : List ℕ) (names : List (List ℕ)) (d : Draft) : Type 0 where
  pub own : own_name d ≡ name
  pub definition : IsDefinition d.entry
  pub listed : d.names ≡ names
  pub low : EachTerm (λ n t. height t ≤ most_height) d.entry
