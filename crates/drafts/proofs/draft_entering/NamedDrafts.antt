-- The draft of the generated entry with a name.
use Rattle.std.proofs.Common.{◌≡◌, ℕ, Some, option_map, List, length, Result, Ok, Err, IfOk, sym, ap, ◌∙◌, subst as transport, arith}
use Rattle.std.specs.List.{All}
use Rattle.theory.proofs.Lists.{some_is}
use Rattle.theory.specs.Families.{Family}
use Rattle.theory.specs.Signatures.{Signature}
use Rattle.core_terms.specs.Answers.{Gives}
use Rattle.core_terms.specs.declared.stop.Stop.{Stop}
use Rattle.core_sig.specs.Drafts.{Draft, draft_of}
use Rattle.core_sig.specs.ScopedDrafts.{IsScopedDraft}
use Rattle.core_sig.specs.declared.entry.Draft.{Draft as DraftOfCode}
use Rattle.clause_reports.specs.Generated.{Generated, name_of, generated_by, generated_draft}
use Rattle.drafts.specs.draft_entering.ByNumbers.{IsThere, HasRecord, draft_meant, record_of}
use Rattle.drafts.specs.draft_entering.Conditions.{IsEnterable, IsEnterableDraft, IsGeneratedName}
use Rattle.drafts.specs.draft_entering.Depths.{own_name}
use Rattle.drafts.specs.draft_entering.FoundNames.{numbers_of}
use Rattle.drafts.specs.draft_entering.Tables.{IsMadeOf, names_by}
use Rattle.drafts.specs.declared.draft_entering.generated.Generated as code
use Rattle.drafts.proofs.draft_entering.TableLookups.{found-listed, listed-there, listed-record, meant-is, generated-made, names-enterable}

pub err-ok : {A E : Type 0} {e : E} {a : A} → Err e ≡ Ok a → ⊥
err-ok h = grind arith

-- the answer of a call on numbers
abbrev Answers : Signature → code.Generated → Result DraftOfCode Stop → Type 0
Answers S g result = (f : Family) → HasRecord S g f → Gives draft_of result (draft_meant (length S.entries) f g)

-- the entry that the code finds is the one that is meant
numbers-are : (S : Signature) (name : List ℕ) (made : IsGeneratedName S name) (g : code.Generated) → option_map numbers_of (generated_by S name) ≡ Some g
    → numbers_of made.0 ≡ g
numbers-are S name made g is = some_is (ap (option_map numbers_of) (sym made.1) ∙ is)

pub meant-there : (S : Signature) (name : List ℕ) → IsGeneratedName S name → (g : code.Generated) → option_map numbers_of (generated_by S name) ≡ Some g → IsThere S g
meant-there S name made g is =
    let found = found-listed S name made.0 made.1 in
    transport (IsThere S) (numbers-are S name made g is) (listed-there S made.0 found.listed found.made)

given : (S : Signature) (name : List ℕ) (made : IsGeneratedName S name) (g : code.Generated) → option_map numbers_of (generated_by S name) ≡ Some g
    → (result : Result DraftOfCode Stop) → Answers S g result → Gives draft_of result (generated_draft (length S.entries) made.0)
given S name made g is result answers =
    let found = found-listed S name made.0 made.1 in
    let same = numbers-are S name made g is in
    let record_there = transport (λ k. HasRecord S k (record_of made.0)) same (listed-record S made.0 found.listed) in
    transport (Gives draft_of result)
    (ap (draft_meant (length S.entries) (record_of made.0)) (sym same) ∙ meant-is (length S.entries) made.0)
    (answers (record_of made.0) record_there)

pub meant-given : (S : Signature) (name : List ℕ) → IsGeneratedName S name → (g : code.Generated) → option_map numbers_of (generated_by S name) ≡ Some g
    → (result : Result DraftOfCode Stop) → Answers S g result → (h : Generated) → generated_by S name ≡ Some h
    → Gives draft_of result (generated_draft (length S.entries) h)
meant-given S name made g is result answers h there = given S name (h, there) g is result answers

has-made : (result : Result DraftOfCode Stop) (meant : Result Draft Stop) (P : Draft → Type 0) → Gives draft_of result meant → IfOk meant P → IfOk result (λ d. P (draft_of d))
has-made (Ok d) meant P is h = transport (λ r. IfOk r P) (sym is) h
has-made (Err e) meant P is h = tt

put-together : (S : Signature) (name : List ℕ) (names : List (List ℕ)) → All (IsEnterable S) names → (result : Result DraftOfCode Stop)
    → IfOk result (λ d. IsMadeOf name names (draft_of d)) → IfOk result (λ d. IsScopedDraft S (draft_of d)) → IfOk result (λ d. IsEnterableDraft S (draft_of d))
put-together S name names all (Ok d) made scoped = record { definition = made.definition; scoped = scoped; low = made.low; names = transport (All (IsEnterable S)) (sym made.listed) all }
put-together S name names all (Err e) made scoped = tt

pub meant-made : (S : Signature) (name : List ℕ) → IsGeneratedName S name → (g : code.Generated) → option_map numbers_of (generated_by S name) ≡ Some g
    → (result : Result DraftOfCode Stop) → Answers S g result → IfOk result (λ d. IsScopedDraft S (draft_of d)) → IfOk result (λ d. IsEnterableDraft S (draft_of d))
meant-made S name made g is result answers scoped =
    let found = found-listed S name made.0 made.1 in
    put-together S (name_of made.0) (names_by made.0) (names-enterable S made.0 found.listed found.made) result
    (has-made result (generated_draft (length S.entries) made.0) (IsMadeOf (name_of made.0) (names_by made.0)) (given S name made g is result answers)
    (generated-made (length S.entries) made.0))
    scoped

own-of : (name : List ℕ) (own : List ℕ) (names : List (List ℕ)) → own ≡ name → (result : Result DraftOfCode Stop)
    → IfOk result (λ d. IsMadeOf own names (draft_of d)) → IfOk result (λ d. own_name (draft_of d) ≡ name)
own-of name own names same (Ok d) made = made.own ∙ same
own-of name own names same (Err e) made = tt

pub meant-own : (S : Signature) (name : List ℕ) → IsGeneratedName S name → (g : code.Generated) → option_map numbers_of (generated_by S name) ≡ Some g
    → (result : Result DraftOfCode Stop) → Answers S g result → IfOk result (λ d. own_name (draft_of d) ≡ name)
meant-own S name made g is result answers =
    let found = found-listed S name made.0 made.1 in
    own-of name (name_of made.0) (names_by made.0) found.named result
    (has-made result (generated_draft (length S.entries) made.0) (IsMadeOf (name_of made.0) (names_by made.0)) (given S name made g is result answers)
    (generated-made (length S.entries) made.0))
