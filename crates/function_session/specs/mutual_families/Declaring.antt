-- The declaration of families that refer to each other, phase by phase: its names; the parameters; then the declaration as one family over
-- tags; then the entries and the equations of the inductions, with one count of units that starts at the fuel. The first refusal in this
-- order is the answer.
use Rattle.std.specs.Prelude.{ℕ, [], length, Result, Ok, Err}
use Rattle.theory.specs.Signatures.{Signature}
use Rattle.core_terms.specs.Answers.{and_next, and_then}
use Rattle.core_sig.specs.Raw.{MutualRaw}
use Rattle.surface_syntax.specs.Trees as surf
use Rattle.surface_syntax.specs.declared.tree.Word.{Word}
use Rattle.resolve.specs.DeclaredNames.{declared_word}
use Rattle.resolve.specs.Mutual.{resolve_mutual}
use Rattle.elab_session.specs.Declaring.{accepted_as, or_unresolved}
use Rattle.elab_session.specs.Entering.{Declaring, answers}
use Rattle.elab_session.specs.declared.refusal.Refusal.{Refusal}
use Rattle.function_session.specs.Elaborating.{Elaborated, with_lines}
use Rattle.function_session.specs.mutual_families.Entering.{EntersDraft, parameters_checked, packed_entries, entries_entered, inductions_entered}
use Rattle.function_session.specs.mutual_families.EquationLines.{equations_checked, mutual_lines}
use Rattle.function_session.specs.mutual_families.Refusals.{or_refused, unpacked}
use Rattle.mutual_pack.specs.MutualFamilies.{Packed}
use Rattle.mutual_pack.specs.Packing.{pack}

-- what is packed enters, with the inductions of the members, and the equations of these are compared; x is the first member's name
abbrev pub enter_packed : EntersDraft → Signature → (fuel : ℕ) → Word → MutualRaw → Packed → ℕ → Declaring Signature
enter_packed enter S fuel x d packed left =
    and_next (entries_entered S x.start fuel (packed_entries packed) left) (λ U rest.
    and_next (inductions_entered enter U fuel x.text packed rest) (λ T others.
    and_next (equations_checked T fuel packed 0 d.members others) (λ equal end. answers (Ok T) end)))

-- the signature with all entries of a resolved declaration
abbrev pub enter_mutual : EntersDraft → Signature → (fuel : ℕ) → Word → MutualRaw → ℕ → Declaring Signature
enter_mutual enter S fuel x d left =
    and_next (parameters_checked S fuel x [] d.parameters left) (λ all rest.
    and_next (answers (or_refused (unpacked d) (pack (length S.entries) d)) rest) (λ packed others. enter_packed enter S fuel x d packed others))

-- accepted under the first member's name, with a line for each constructor
abbrev pub accepted_mutual : Word → MutualRaw → Result Signature Refusal → Result Elaborated Refusal
accepted_mutual x d (Ok T) = Ok (record (with_lines (accepted_as x.text T) []) { equations = mutual_lines d.members })
accepted_mutual x d (Err e) = Err e

abbrev pub declare_mutual : EntersDraft → Signature → (fuel : ℕ) → surf.Decl → Result Elaborated Refusal
declare_mutual enter S fuel d =
    let x = declared_word d in
    and_then (or_unresolved (resolve_mutual S d)) (λ raw. accepted_mutual x raw (enter_mutual enter S fuel x raw fuel).0)
