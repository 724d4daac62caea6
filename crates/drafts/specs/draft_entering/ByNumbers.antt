-- Generated entries over a signature, by numbers.
use Rattle.std.specs.Prelude.{◌≡◌, ℕ, ◌+◌, ◌<◌, true, map, Result}
use Rattle.theory.specs.Families.{Family}
use Rattle.theory.specs.PreludeFamilies.{empty_family}
use Rattle.theory.specs.Signatures.{Signature, FamilyOf, IsEntryAt}
use Rattle.theory.specs.SignatureScopes.{IsConstructorNumber, IsFamilyNumber}
use Rattle.theory.specs.Terms.{top}
use Rattle.core_terms.specs.declared.stop.Stop.{Stop}
use Rattle.core_sig.specs.Drafts.{Draft}
use Rattle.core_sig.specs.FamilyShapes.{family_shape}
use Rattle.case_below_gen.specs.CaseEntries.{case_entry}
use Rattle.case_below_gen.specs.CourseEntries.{below_entry, aux_entry}
use Rattle.case_below_gen.specs.Projections.{rec_entry, all_entry}
use Rattle.case_below_gen.specs.LeftEntries.{left_entry}
use Rattle.generators.specs.noconf_gen.Fitting.{HasConfusionLevel}
use Rattle.generators.specs.noconf_gen.NoConfusionTypes.{nct_entry}
use Rattle.generators.specs.noconf_gen.NoConfusion.{noconf_entry}
use Rattle.generators.specs.acyclic_gen.DirectEntries.{direct_draft}
use Rattle.generators.specs.acyclic_gen.AcyclicEntries.{acyclic_draft}
use Rattle.unification.specs.Built.{has_no_indices}
use Rattle.clause_reports.specs.Generated as pure
use Rattle.drafts.specs.declared.draft_entering.generated.Generated.{Generated}
use Rattle.drafts.specs.declared.draft_entering.generated.Generated.TheVariants.{Case, Below, Aux, Rec, All, ConfusionType, NoConfusion, Direct, Acyclic, Left}

-- a family below the greatest level
abbrev pub HasPartLevel : Signature → (n : ℕ) → Type 0
HasPartLevel S n = (f : Family) → IsEntryAt S n (FamilyOf f) → f.level + 1 < top

abbrev pub HasNoIndices : Signature → (n : ℕ) → Type 0
HasNoIndices S n = (f : Family) → IsEntryAt S n (FamilyOf f) → has_no_indices f ≡ true

-- the numbers are those of a family, or of a constructor, at levels at which this entry is generated for it
abbrev pub IsThere : Signature → Generated → Type 0
IsThere S (Case n m) = IsFamilyNumber S n × (m < top)
IsThere S (Below n m) = IsFamilyNumber S n × (m + 1 < top)
IsThere S (Aux n m) = IsFamilyNumber S n × (m + 1 < top)
IsThere S (Rec n m) = IsFamilyNumber S n × (m + 1 < top)
IsThere S (All n m) = IsFamilyNumber S n × (m + 1 < top)
IsThere S (ConfusionType n number m) = IsConstructorNumber S n number × HasConfusionLevel S n m
IsThere S (NoConfusion n number m) = IsConstructorNumber S n number × HasConfusionLevel S n m
IsThere S (Direct n) = IsFamilyNumber S n × (HasNoIndices S n × HasPartLevel S n)
IsThere S (Acyclic n) = IsFamilyNumber S n × (HasNoIndices S n × HasPartLevel S n)
IsThere S (Left i m) = (i < top) × (m + 1 < top)

-- f is the record of the family, where there is one
abbrev pub HasRecord : Signature → Generated → Family → Type 0
HasRecord S (Case n m) f = IsEntryAt S n (FamilyOf f)
HasRecord S (Below n m) f = IsEntryAt S n (FamilyOf f)
HasRecord S (Aux n m) f = IsEntryAt S n (FamilyOf f)
HasRecord S (Rec n m) f = IsEntryAt S n (FamilyOf f)
HasRecord S (All n m) f = IsEntryAt S n (FamilyOf f)
HasRecord S (ConfusionType n number m) f = IsEntryAt S n (FamilyOf f)
HasRecord S (NoConfusion n number m) f = IsEntryAt S n (FamilyOf f)
HasRecord S (Direct n) f = IsEntryAt S n (FamilyOf f)
HasRecord S (Acyclic n) f = IsEntryAt S n (FamilyOf f)
HasRecord S (Left i m) f = Unit {0}

-- the draft, by the record and by numbers
abbrev pub draft_meant : (base : ℕ) → Family → Generated → Result Draft Stop
draft_meant base f (Case n m) = case_entry base n f m
draft_meant base f (Below n m) = below_entry base n f m
draft_meant base f (Aux n m) = aux_entry base n f m
draft_meant base f (Rec n m) = rec_entry base n f m
draft_meant base f (All n m) = all_entry base n f m
draft_meant base f (ConfusionType n number m) = nct_entry base n f number m
draft_meant base f (NoConfusion n number m) = noconf_entry base n f number m
draft_meant base f (Direct n) = direct_draft base f.name n (family_shape n f)
draft_meant base f (Acyclic n) = acyclic_draft base f.name (map (λ c. c.name) f.constructors) n (family_shape n f)
draft_meant base f (Left i m) = left_entry base i m

-- the record of a generated entry, or any where there is none
abbrev pub record_of : pure.Generated → Family
record_of (pure.Case n f m) = f
record_of (pure.Below n f m) = f
record_of (pure.Aux n f m) = f
record_of (pure.Rec n f m) = f
record_of (pure.All n f m) = f
record_of (pure.ConfusionType n f number m) = f
record_of (pure.NoConfusion n f number m) = f
record_of (pure.Direct n f) = f
record_of (pure.Acyclic n f) = f
record_of (pure.Left i m) = empty_family
