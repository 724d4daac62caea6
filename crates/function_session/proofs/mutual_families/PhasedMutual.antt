-- Conditions that hold between the phases of a declaration of families that refer to each other.
use Rattle.std.proofs.Common.{◌≡◌, ℕ, List, length, Ok, Err, ap, subst as transport}
use Rattle.theory.specs.Signatures.{FamilyOf, IsPrefix, Signature}
use Rattle.theory.specs.SignatureScopes.{IsFamilyNumber}
use Rattle.theory.proofs.Widening.{prefix_keeps}
use Rattle.core_terms.specs.Answers.{and_next}
use Rattle.core_sig.specs.Raw.{MutualRaw, RawMember}
use Rattle.surface_syntax.specs.declared.tree.Word.{Word}
use Rattle.elab_session.specs.Entering.{Declaring, answers}
use Rattle.elab_session.specs.Sessions.{IsReady}
use Rattle.elab_session.specs.declared.refusal.Refusal.{Refusal}
use Rattle.function_session.specs.function_lines.Opened.{draft_in}
use Rattle.function_session.specs.mutual_families.Conditions.{AreAllComparable, HasPackedFor, IsDeclared}
use Rattle.function_session.specs.mutual_families.Declaring.{enter_packed}
use Rattle.function_session.specs.mutual_families.EquationLines.{equations_checked}
use Rattle.function_session.specs.mutual_families.Entering.{entries_entered, inductions_entered, packed_entries}
use Rattle.function_session.specs.mutual_families.Laws.{HasPackedEntries}
use Rattle.function_session.proofs.function_lines.Agreeing.{spent}
use Rattle.function_session.proofs.mutual_families.CallAnswers.{told}
use Rattle.function_session.proofs.mutual_families.ComparableEquations.{equations-comparable}
use Rattle.function_session.proofs.mutual_families.EnteredInductions.{inductions-there, session-brings}
use Rattle.function_session.proofs.mutual_families.PackedEntries.{entries-enter, inductions-made, packed-defined, packed-has}
use Rattle.function_session.proofs.mutual_families.WrittenMutual.{HasInductions, inductions-enter}
use Rattle.mutual_pack.specs.Inductions.{analysis_name, packed_number}
use Rattle.mutual_pack.specs.MutualFamilies.{Packed}
use Rattle.mutual_pack.specs.Packing.{pack}

-- the entries have entered
pub entries-there : (S U : Signature) (start fuel left rest : ℕ) (d : MutualRaw) (packed : Packed) → pack (length S.entries) d ≡ Ok packed
    → spent (Ok U) rest ≡ entries_entered S start fuel (packed_entries packed) left → HasPackedEntries S packed U
entries-there S U start fuel left rest d packed is entered =
    told (HasPackedEntries S packed) U rest (entries_entered S start fuel (packed_entries packed) left) entered
    (entries-enter S start fuel packed left (packed-defined (length S.entries) d packed is))

-- the inductions may enter
pub inductions-ready : (S U : Signature) (start fuel left rest : ℕ) (d : MutualRaw) (packed : Packed) → pack (length S.entries) d ≡ Ok packed
    → spent (Ok U) rest ≡ entries_entered S start fuel (packed_entries packed) left → IsReady U → HasPackedFor U packed
inductions-ready S U start fuel left rest d packed is entered ready =
    packed-has S U d packed is (entries-there S U start fuel left rest d packed is entered) ready.settled.scoped

-- and once they have, the equations can be compared
pub equations-ready : (S U T : Signature) (start fuel left rest others : ℕ) (name : List ℕ) (d : MutualRaw) (packed : Packed) → IsDeclared S d → pack (length S.entries) d ≡ Ok packed
    → spent (Ok U) rest ≡ entries_entered S start fuel (packed_entries packed) left → spent (Ok T) others ≡ inductions_entered draft_in U fuel name packed rest → IsPrefix U T → IsReady T
    → AreAllComparable T packed 0 d.members
equations-ready S U T start fuel left rest others name d packed declared is entered induced longer ready =
    let has = entries-there S U start fuel left rest d packed is entered in
    let i = told (HasInductions U packed) T others (inductions_entered draft_in U fuel name packed rest) induced (inductions-enter draft_in session-brings U fuel name packed rest) in
    equations-comparable S U T d packed declared is has longer ready.settled.scoped
    (inductions-there T (analysis_name packed) packed.members i.drafts (inductions-made S U d packed is has i.drafts i.drafted) i.brought.entered ready.well_formed)

-- the packed family stays
pub family-stays : (S T : Signature) (packed : Packed) → IsPrefix S T → IsFamilyNumber S (packed_number packed) → IsFamilyNumber T (packed_number packed)
family-stays S T packed longer (f, at) = (f, (prefix_keeps longer).entry (packed_number packed) (FamilyOf f) at)

-- where an equation is refused, so is what is packed
pub equations-stop : (S U T : Signature) (fuel left rest others end : ℕ) (name : List ℕ) (members : List RawMember) (x : Word) (d : MutualRaw) (packed : Packed) (e : Refusal) → name ≡ x.text → members ≡ d.members
    → spent (Ok U) rest ≡ entries_entered S x.start fuel (packed_entries packed) left → spent (Ok T) others ≡ inductions_entered draft_in U fuel name packed rest
    → spent (Err e) end ≡ equations_checked T fuel packed 0 members others → spent (Err e) end ≡ enter_packed draft_in S fuel x d packed left
equations-stop S U T fuel left rest others end name members x d packed e called counted entered induced stops =
    let last : List RawMember → Signature → ℕ → Declaring Signature = λ ms V units. and_next (equations_checked V fuel packed 0 ms units) (λ equal more. answers (Ok V) more) in
    transport (λ (n : List ℕ). spent (Err e) end ≡ and_next (entries_entered S x.start fuel (packed_entries packed) left) (λ V units. and_next (inductions_entered draft_in V fuel n packed units) (last d.members))) called
    (transport (λ (ms : List RawMember). spent (Err e) end ≡ and_next (entries_entered S x.start fuel (packed_entries packed) left) (λ V units. and_next (inductions_entered draft_in V fuel name packed units) (last ms))) counted
    (transport (λ (o : Declaring Signature). spent (Err e) end ≡ and_next o (λ V units. and_next (inductions_entered draft_in V fuel name packed units) (last members))) entered
    (transport (λ (o : Declaring Signature). spent (Err e) end ≡ and_next o (last members)) induced
    (ap (λ (o : Declaring (Unit {0})). and_next o (λ equal more. answers (Ok T) more)) stops))))
