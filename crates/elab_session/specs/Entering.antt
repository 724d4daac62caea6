-- One entry over a signature, as a declaration gives it or a core file shows it: what the checker says of it, and how it enters
-- with the units that are left.
use Rattle.std.specs.Prelude.{◌≡◌, ℕ, IsTrue, List, [], map, length, Option, Some, None, Result, Ok, Err, slice_get}
use Rattle.theory.specs.Signatures.{Entry, FamilyOf, Signature}
use Rattle.theory.specs.SignatureScopes.{IsFamilyNumber, IsScoped}
use Rattle.core_terms.specs.Answers.{GivesUnless, SpendsFor, SpentOr}
use Rattle.core_terms.specs.declared.stop.Stop.TheVariants as stop
use Rattle.core_sig.specs.Names.{find}
use Rattle.core_text.specs.RawEntries.{RawEntry, RawFamilyOf, RawEliminator, RawAxiomK, RawDefinition, entry_shown}
use Rattle.surface_syntax.specs.declared.tree.Word.{Word}
use Rattle.family_check.specs.Entering.{Entered, axiom_k_of, declare_of, define_of, entered_at, instance_of}
use Rattle.family_check.specs.Outcomes.{FamilyStop, Outcome, Site, Stopped, ended}
use Rattle.family_check.specs.Scopes.{IsScopedRaw, site_signature}
use Rattle.elab_session.specs.Refusals.{IsUnforeseen, unentered}
use Rattle.elab_session.specs.declared.refusal.Refusal.{Refusal}

-- an answer with the units that are left after it
abbrev pub Declaring : Type 0 → Type 0
Declaring A = SpentOr Refusal A

abbrev pub answers : {A : Type 0} → Result A Refusal → ℕ → Declaring A
answers answer left = (answer, left)

-- ---- answers of the checker

-- the eliminator into Type m of the entry with number n, which is a family
abbrev pub eliminator_in : Signature → ℕ → ℕ → Option Entry → ℕ → Outcome Entered
eliminator_in S n m (Some (FamilyOf f)) left = instance_of S n f m left
eliminator_in S n m _ left = ended (Err (Stopped stop.Memory)) left

abbrev pub checked : Signature → RawEntry → ℕ → Outcome Entered
checked S (RawFamilyOf raw) left = declare_of S raw left
checked S (RawEliminator n m) left = eliminator_in S n m (slice_get S.entries n) left
checked S (RawAxiomK i m) left = axiom_k_of S i m left
checked S (RawDefinition name type body) left = define_of S name type body left

-- an entry that would come next, a family as its line shows it, is checked
abbrev pub checked_entry : Signature → Entry → ℕ → Outcome Entered
checked_entry S e left = checked S (entry_shown (length S.entries) e) left

-- ---- why an entry is refused

-- the name that is declared, with its offset; an instance declares none
abbrev pub word_of : (start : ℕ) → RawEntry → Option Word
word_of start (RawFamilyOf raw) = Some (record { text = raw.name; start = start })
word_of start (RawDefinition name type body) = Some (record { text = name; start = start })
word_of start _ = None

abbrev pub constructor_names : RawEntry → List (List ℕ)
constructor_names (RawFamilyOf raw) = map (λ c. c.name) raw.constructors
constructor_names _ = []

-- the signature that a part of the entry is checked over
abbrev pub part_signature : Signature → RawEntry → Site → Signature
part_signature S (RawFamilyOf raw) site = site_signature S raw site
part_signature S _ site = S

-- why the entry is refused; its name is at the offset, and it may spend `fuel` units in all
abbrev pub refused : Signature → (start fuel : ℕ) → RawEntry → FamilyStop → Refusal
refused S start fuel raw = unentered (part_signature S raw) (constructor_names raw) (word_of start raw) fuel

-- ---- how it enters

abbrev pub answered : (FamilyStop → Refusal) → Result Entered FamilyStop → Result Entered Refusal
answered refusal (Ok e) = Ok e
answered refusal (Err e) = Err (refusal e)

abbrev pub or_refused : (FamilyStop → Refusal) → Outcome Entered → Declaring Entered
or_refused refusal outcome = answers (answered refusal outcome.0) outcome.1

-- the number of the entry, and the signature that has it, or the first refusal
abbrev pub enter_with : Signature → (start fuel : ℕ) → RawEntry → ℕ → Declaring Entered
enter_with S start fuel raw left = or_refused (refused S start fuel raw) (checked S raw left)

-- an entry of a core file, with one count of units that starts at the fuel
abbrev pub enter_of : Signature → ℕ → RawEntry → Result Entered Refusal
enter_of S fuel raw = (enter_with S 0 fuel raw fuel).0

-- The conditions of entering on an entry: its numbers stand for something, the name of a family is new, and K is on where it enters.
abbrev pub CanEnter : Signature → RawEntry → Type 0
CanEnter S (RawFamilyOf raw) = IsScopedRaw S raw × (find S raw.name ≡ None)
CanEnter S (RawEliminator n m) = IsFamilyNumber S n
CanEnter S (RawAxiomK i m) = IsTrue S.has_k
CanEnter S (RawDefinition name type body) = IsScoped S 0 type × IsScoped S 0 body

-- ---- answers of calls

-- the answer of a call that leaves the signature T stands for `meant`, unless memory ran out
abbrev pub Enters : Signature → Result ℕ Refusal → Result Entered Refusal → Type 0
Enters T result meant = GivesUnless IsUnforeseen (entered_at T) result meant

-- the answer with the units that are `left` stands for `meant` by way of `f`, unless memory ran out
abbrev pub Declares : {A B : Type 0} → (A → B) → Result A Refusal → ℕ → Declaring B → Type 0
Declares f result left meant = SpendsFor IsUnforeseen (λ e. e) f result left meant
