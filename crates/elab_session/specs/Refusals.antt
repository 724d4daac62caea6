-- Refusals of a declaration, by resolution and by entering, with the names and the texts that they show.
use Rattle.std.specs.Prelude.{◌≡◌, ℕ, List, [], Option, Some, None, slice_get, unwrap_or}
use Rattle.theory.specs.Signatures.{Signature}
use Rattle.core_terms.specs.Verdicts.{Denial}
use Rattle.core_terms.specs.declared.stop.Stop.{Stop}
use Rattle.core_terms.specs.declared.stop.Stop.TheVariants as stop
use Rattle.surface_syntax.specs.declared.tree.Word.{Word}
use Rattle.resolve.specs.declared.stop.ResolveStop.{ResolveStop}
use Rattle.resolve.specs.declared.stop.ResolveStop.TheVariants as resolving
use Rattle.family_check.specs.Outcomes.{Site, OfType, OfBody, OfParameter, OfConstructor, FamilyStop, Stopped, Denied}
use Rattle.family_check.specs.Outcomes as family
use Rattle.core_text.specs.ContextText.{context_text, reason_text}
use Rattle.elab_session.specs.declared.refusal.PartName.{PartName}
use Rattle.elab_session.specs.declared.refusal.PartName.TheVariants.{Ty, Body, Param, Con}
use Rattle.elab_session.specs.declared.refusal.Refusal.{Refusal}
use Rattle.elab_session.specs.declared.refusal.Refusal.TheVariants.{Memory, Fuel, Deep, UnknownName, Duplicate, WrongArity, NotLinear, BadFamily, NotPositive, IndexTooLarge, IllTyped}

-- the refusals that nothing rules out: only out of memory
abbrev pub IsUnforeseen : Refusal → Type 0
IsUnforeseen e = e ≡ Memory

-- a refusal of resolution
abbrev pub unresolved : ResolveStop → Refusal
unresolved resolving.Memory = Memory
unresolved resolving.Deep = Deep
unresolved (resolving.UnknownName offset word) = UnknownName offset word
unresolved (resolving.Duplicate offset word) = Duplicate offset word
unresolved (resolving.WrongArity offset word) = WrongArity offset word
unresolved (resolving.NotLinear offset word) = NotLinear offset word

-- the refusal of a declaration that may spend `fuel` units; no pool takes part in it
abbrev pub stopped : ℕ → Stop → Refusal
stopped fuel stop.Memory = Memory
stopped fuel stop.Fuel = Fuel fuel
stopped fuel stop.Deep = Deep
stopped fuel stop.PoolFull = Memory

-- constructor number n among those that are declared
abbrev pub name_in : List (List ℕ) → ℕ → List ℕ
name_in names n = unwrap_or (slice_get names n) []

-- the written part, where the declared constructors have the names
abbrev pub part_of : List (List ℕ) → Site → PartName
part_of names OfType = Ty
part_of names OfBody = Body
part_of names (OfParameter k) = Param k
part_of names (OfConstructor n) = Con (name_in names n)

-- the name of the family that is being declared, where the texts of a part name it: constructors alone do
abbrev pub own_at : List ℕ → Site → Option (List ℕ)
own_at name (OfConstructor n) = Some name
own_at name _ = None

-- the checker rejects a part, over the signature S
abbrev pub ill_typed : Signature → PartName → Denial → Refusal
ill_typed S part d = IllTyped part d.place (context_text S d.ctx) (reason_text S d.reason)

-- the declared name is not new; an entry that declares none is never refused so
abbrev pub not_new : Option Word → Refusal
not_new (Some x) = Duplicate x.start x.text
not_new None = Memory

-- A refusal of entering. `over` is the signature that a part is checked over, `names` are those of the constructors, `x` is
-- the declared name, where there is one.
abbrev pub unentered : (Site → Signature) → List (List ℕ) → Option Word → ℕ → FamilyStop → Refusal
unentered over names x fuel (Stopped e) = stopped fuel e
unentered over names x fuel (Denied site d) = ill_typed (over site) (part_of names site) d
unentered over names x fuel (family.NotPositive n k) = NotPositive (name_in names n) k
unentered over names x fuel (family.TooLarge None k) = IndexTooLarge None k
unentered over names x fuel (family.TooLarge (Some n) k) = IndexTooLarge (Some (name_in names n)) k
unentered over names x fuel family.BadFamily = BadFamily
unentered over names x fuel family.Duplicate = not_new x
