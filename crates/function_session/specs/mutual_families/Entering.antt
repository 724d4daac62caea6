-- The entries of families that refer to each other, one after the other, with one count of units: the tag family, the packed family, the
-- definitions of the members, and then their inductions with what these need.
use Rattle.std.specs.Prelude.{ℕ, ◌+◌, Option, Some, None, List, [], ◌∷◌, ◌++◌, map, length, Result, Ok, Err}
use Rattle.theory.specs.Families.{Family}
use Rattle.theory.specs.Telescopes.{Telescope, context_behind}
use Rattle.theory.specs.Terms.{Term}
use Rattle.theory.specs.Signatures.{Signature}
use Rattle.core_terms.specs.Answers.{and_next}
use Rattle.core_terms.specs.declared.stop.Stop.{Stop}
use Rattle.core_terms.specs.declared.stop.Stop.TheVariants.{Deep}
use Rattle.core_sig.specs.Drafts.{Draft}
use Rattle.core_text.specs.RawEntries.{RawEntry, RawFamilyOf, entry_shown}
use Rattle.kernel_reduce.specs.Entries.{family_at}
use Rattle.surface_syntax.specs.declared.tree.Word.{Word}
use Rattle.family_check.specs.Asking.{sort_in}
use Rattle.family_check.specs.Outcomes.{OfParameter}
use Rattle.clause_reports.specs.elaboration.Refusals as function
use Rattle.elab_session.specs.Entering.{Declaring, answers, enter_with}
use Rattle.elab_session.specs.Refusals.{stopped, unentered}
use Rattle.function_session.specs.Refusals.{refused_function}
use Rattle.function_session.specs.mutual_families.Refusals.{or_refused, refused_with}
use Rattle.mutual_pack.specs.Inductions.{packed_number, induction_entries}
use Rattle.mutual_pack.specs.MutualFamilies.{Packed}

-- how a draft of the declaration with a name enters, with the units that are left
abbrev pub EntersDraft : Type 0
EntersDraft = Signature → (name : List ℕ) → Draft → ℕ → function.Elaborating Signature

-- a parameter has a sort, over those before it
abbrev pub parameter_checked : Signature → (fuel : ℕ) → Word → (before : Telescope) → Term → ℕ → Declaring Term
parameter_checked S fuel x before a left =
    refused_with (unentered (λ site. S) [] (Some x) fuel) (sort_in S (OfParameter (length before + 1)) (context_behind [] before) a left)

-- so has each of these parameters, where others come before them
abbrev pub parameters_checked : Signature → (fuel : ℕ) → Word → (before : Telescope) → Telescope → ℕ → Declaring (Unit {0})
parameters_checked S fuel x before [] left = answers (Ok tt) left
parameters_checked S fuel x before (a ∷ parameters) left =
    and_next (parameter_checked S fuel x before a left) (λ sort rest. parameters_checked S fuel x (before ++ a ∷ []) parameters rest)

-- the entries of what is packed
abbrev pub packed_entries : Packed → List RawEntry
packed_entries packed = RawFamilyOf packed.tag ∷ RawFamilyOf packed.family ∷ map (entry_shown 0) packed.members

abbrev pub entries_entered : Signature → (start fuel : ℕ) → List RawEntry → ℕ → Declaring Signature
entries_entered S start fuel [] left = answers (Ok S) left
entries_entered S start fuel (raw ∷ raws) left = and_next (enter_with S start fuel raw left) (λ e rest. entries_entered e.signature start fuel raws rest)

abbrev pub drafts_entered : EntersDraft → Signature → (fuel : ℕ) → (name : List ℕ) → List Draft → ℕ → Declaring Signature
drafts_entered enter S fuel name [] left = answers (Ok S) left
drafts_entered enter S fuel name (d ∷ drafts) left =
    and_next (refused_with (refused_function fuel) (enter S name d left)) (λ T rest. drafts_entered enter T fuel name drafts rest)

-- the inductions over the packed family, where the signature has it
abbrev pub inductions_over : Signature → Packed → Option Family → Result (List Draft) Stop
inductions_over S packed (Some f) = induction_entries (length S.entries) packed f
inductions_over S packed None = Err Deep

abbrev pub inductions_of : Signature → Packed → Result (List Draft) Stop
inductions_of S packed = inductions_over S packed (family_at S (packed_number packed))

abbrev pub inductions_entered : EntersDraft → Signature → (fuel : ℕ) → (name : List ℕ) → Packed → ℕ → Declaring Signature
inductions_entered enter S fuel name packed left =
    and_next (answers (or_refused (stopped fuel) (inductions_of S packed)) left) (λ drafts rest. drafts_entered enter S fuel name drafts rest)
