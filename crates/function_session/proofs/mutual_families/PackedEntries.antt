-- A packed declaration is there once its entries have entered, and the inductions of the members may enter.
use Rattle.std.proofs.Common.{◌≡◌, inr, ℕ, zero, suc, ◌+◌, ◌<◌, ◌≤◌, nat_lt, true, Some, List, [], ◌∷◌, ◌++◌, length, map, slice_get, Result, Ok, Err, IfOk, refl, sym, ap, ◌∙◌, append-nil, append_assoc, codes, subst as transport, length-append, arith}
use Rattle.std.specs.List.{All}
use Rattle.std.proofs.lemmas.Bool.Decides.{nat_tests}
use Rattle.std.proofs.lemmas.List.Elements.{All-cons, All-head, All-nil, All-tail}
use Rattle.theory.specs.Families.{Family}
use Rattle.theory.specs.Signatures.{AxiomKAt, Definition, EliminatorAt, Entry, FamilyOf, IsEntryAt, IsPrefix, Signature, names_of}
use Rattle.theory.specs.SignatureScopes.{IsConstantNumber, IsScopedSignature}
use Rattle.theory.specs.Terms.{Term, height, top}
use Rattle.theory.specs.WellFormed.{pushed}
use Rattle.theory.proofs.Lists.{slice_get-append_right, slice_get-longer}
use Rattle.theory.proofs.Pushing.{prefix_reflexive}
use Rattle.core_terms.specs.Answers.{and_then, bounded}
use Rattle.core_terms.specs.declared.stop.Stop.{Stop}
use Rattle.core_terms.specs.declared.stop.Stop.TheVariants.{Deep}
use Rattle.core_terms.proofs.Answers.{Answers, and_next-has, and_then-has, bounded-has}
use Rattle.core_sig.specs.Drafts.{Draft, drafted, generated_name}
use Rattle.core_sig.specs.EntryTerms.{EachTerm}
use Rattle.core_sig.specs.FamilyShapes.{family_shape}
use Rattle.core_sig.specs.Raw.{MutualRaw, RawFamily, RawMember, raw_names}
use Rattle.core_sig.specs.ScopedDrafts.{IsScopedDraft}
use Rattle.core_text.specs.RawEntries.{RawFamilyOf, entry_shown}
use Rattle.clause_reports.specs.Generated.{Case}
use Rattle.clause_reports.proofs.Keeping.{weaker}
use Rattle.decide_eq.proofs.PlainShapes.{at-family}
use Rattle.drafts.specs.draft_entering.Conditions.{IsDefinition, IsEnterable, IsEnterableDraft}
use Rattle.drafts.proofs.draft_entering.TableLookups.{listed-named}
use Rattle.elab_session.specs.Entering.{checked, enter_with, refused}
use Rattle.elab_session.specs.Sessions.{IsReady}
use Rattle.elab_session.proofs.Adding.{define-enters}
use Rattle.elab_session.proofs.Entered.{answered-has}
use Rattle.family_check.specs.Entering.{Entered, entered}
use Rattle.family_check.specs.Laws.{EntersAsDeclared, IsAsDeclared}
use Rattle.family_check.proofs.AsDeclared.{declare-gives}
use Rattle.function_session.specs.mutual_families.Conditions.{AreEnterableLater, HasPackedFor}
use Rattle.function_session.specs.mutual_families.Entering.{entries_entered, inductions_of, inductions_over, packed_entries}
use Rattle.function_session.specs.mutual_families.Laws.{HasPackedEntries}
use Rattle.function_session.proofs.mutual_families.EnterablePacked.{tag-constructors, tags-counted}
use Rattle.mutual_pack.specs.Inductions.{after, analysis_name, induction_entries, induction_entries_from, induction_entry, induction_name, induction_term, induction_type, name_of, packed_numbers}
use Rattle.mutual_pack.specs.MutualFamilies.{Packed}
use Rattle.mutual_pack.specs.PackedEntries.{HasPacked}
use Rattle.mutual_pack.specs.Packing.{member_entries, member_entry, members_of, pack, packed_with}
use Rattle.mutual_pack.specs.declared.members.Members.{Members}
use Rattle.mutual_pack.proofs.PackedTypes.{packed-as}
use Rattle.mutual_pack.proofs.ScopedInductions.{inductions-scoped}

-- ---- entries that enter

abbrev AreDefinitions : List Entry → Type 0
AreDefinitions entries = All IsDefinition entries

-- V has these entries behind those of U
pub record HasBehind (U : Signature) (entries : List Entry) (V : Signature) : Type 0 where
  pub is : V.entries ≡ U.entries ++ entries
  pub same_k : V.has_k ≡ U.has_k

definition-enters : (S : Signature) (start fuel : ℕ) (e : Entry) (left : ℕ) → IsDefinition e
    → Answers (λ x. x.signature ≡ pushed S e) (enter_with S start fuel (entry_shown 0 e) left)
definition-enters S start fuel (Definition name type body) left h =
    answered-has (λ x. x.signature ≡ pushed S (Definition name type body)) (refused S start fuel (entry_shown 0 (Definition name type body))) (checked S (entry_shown 0 (Definition name type body)) left).0
    (weaker (λ (x : Entered). x ≡ entered S (Definition name type body)) (λ (x : Entered). x.signature ≡ pushed S (Definition name type body)) (checked S (entry_shown 0 (Definition name type body)) left).0
    (λ x is. ap (λ (y : Entered). y.signature) is) (define-enters S name type body left))
definition-enters S start fuel (FamilyOf f) left h = absurd h
definition-enters S start fuel (EliminatorAt n m) left h = absurd h
definition-enters S start fuel (AxiomKAt i m) left h = absurd h

definitions-enter : (S : Signature) (start fuel : ℕ) (entries : List Entry) (left : ℕ) → AreDefinitions entries
    → Answers (HasBehind S entries) (entries_entered S start fuel (map (entry_shown 0) entries) left)
definitions-enter S start fuel [] left all = record { is = sym (append-nil S.entries); same_k = refl }
definitions-enter S start fuel (e ∷ entries) left all =
    and_next-has (λ x. x.signature ≡ pushed S e) (HasBehind S (e ∷ entries)) (enter_with S start fuel (entry_shown 0 e) left) _
    (definition-enters S start fuel e left (All-head IsDefinition e entries all)) (λ x rest is.
    weaker (HasBehind x.signature entries) (HasBehind S (e ∷ entries)) (entries_entered x.signature start fuel (map (entry_shown 0) entries) rest).0
    (λ V h. record {
      is = h.is ∙ (ap (λ (U : Signature). U.entries ++ entries) is ∙ append_assoc S.entries (e ∷ []) entries);
      same_k = h.same_k ∙ ap (λ (U : Signature). U.has_k) is;
    })
    (definitions-enter x.signature start fuel entries rest (All-tail IsDefinition e entries all)))

-- the family that entered
pub record HasFamily (S : Signature) (of : Family → Type 0) (T : Signature) : Type 0 where
  pub family : Family
  pub is : T ≡ pushed S (FamilyOf family)
  pub given : of family

pub family-enters : (S : Signature) (start fuel : ℕ) (raw : RawFamily) (left : ℕ)
    → Answers (λ x. HasFamily S (IsAsDeclared (length S.entries) raw) x.signature) (enter_with S start fuel (RawFamilyOf raw) left)
family-enters S start fuel raw left =
    let P : Entered → Type 0 = λ x. HasFamily S (IsAsDeclared (length S.entries) raw) x.signature in
    answered-has P (refused S start fuel (RawFamilyOf raw)) (checked S (RawFamilyOf raw) left).0
    (weaker (EntersAsDeclared S raw) P (checked S (RawFamilyOf raw) left).0
    (λ x is. record { family = is.0; is = ap (λ (y : Entered). y.signature) is.1; given = is.2 }) (declare-gives S raw left))

pub entries-enter : (S : Signature) (start fuel : ℕ) (packed : Packed) (left : ℕ) → AreDefinitions packed.members
    → Answers (HasPackedEntries S packed) (entries_entered S start fuel (packed_entries packed) left)
entries-enter S start fuel packed left all =
    let members = map (entry_shown 0) packed.members in
    and_next-has (λ x. HasFamily S (IsAsDeclared (length S.entries) packed.tag) x.signature) (HasPackedEntries S packed) (enter_with S start fuel (RawFamilyOf packed.tag) left) _
    (family-enters S start fuel packed.tag left) (λ x rest t.
    and_next-has (λ y. HasFamily x.signature (IsAsDeclared (length x.signature.entries) packed.family) y.signature) (HasPackedEntries S packed)
    (enter_with x.signature start fuel (RawFamilyOf packed.family) rest) _
    (family-enters x.signature start fuel packed.family rest) (λ y end f.
    weaker (HasBehind y.signature packed.members) (HasPackedEntries S packed) (entries_entered y.signature start fuel members end).0 (λ V h. record {
      tag = t.family;
      family = f.family;
      tag_given = t.given;
      family_given =
          transport (λ n. IsAsDeclared n packed.family f.family)
          (ap (λ (U : Signature). length U.entries) t.is ∙ length-append S.entries (FamilyOf t.family ∷ [])) f.given;
      entries =
          h.is
          ∙ (ap (λ (U : Signature). U.entries ++ packed.members) (f.is ∙ ap (λ U. pushed U (FamilyOf f.family)) t.is)
          ∙ (append_assoc (S.entries ++ FamilyOf t.family ∷ []) (FamilyOf f.family ∷ []) packed.members
          ∙ append_assoc S.entries (FamilyOf t.family ∷ []) (FamilyOf f.family ∷ packed.members)));
      same_k = h.same_k ∙ (ap (λ (U : Signature). U.has_k) f.is ∙ ap (λ (U : Signature). U.has_k) t.is);
    })
    (definitions-enter y.signature start fuel packed.members end all)))

-- ---- the entries by their numbers

members-defined : (g : Members) (l : ℕ) (d : MutualRaw) (k : ℕ) (members : List RawMember) → AreDefinitions (member_entries g l d.parameters k members)
members-defined g l d k [] = All-nil IsDefinition
members-defined g l d k (m ∷ members) =
    All-cons IsDefinition (member_entry g l d.parameters k m) (member_entries g l d.parameters (k + 1) members) tt (members-defined g l d (k + 1) members)

pub packed-defined : (base : ℕ) (d : MutualRaw) (packed : Packed) → pack base d ≡ Ok packed → AreDefinitions packed.members
packed-defined base d packed e =
    let is = packed-as base d packed e in
    transport (λ (p : Packed). AreDefinitions p.members) is.same (members-defined (members_of base d) is.level d 0 d.members)

length-entries : (g : Members) (l : ℕ) (d : MutualRaw) (k : ℕ) (members : List RawMember) → length (member_entries g l d.parameters k members) ≡ length members
length-entries g l d k [] = refl
length-entries g l d k (m ∷ members) = ap suc (length-entries g l d (k + 1) members)

pub members-counted : (base : ℕ) (d : MutualRaw) (packed : Packed) → pack base d ≡ Ok packed → length packed.members ≡ length d.members
members-counted base d packed e =
    let is = packed-as base d packed e in
    transport (λ (p : Packed). length p.members ≡ length d.members) is.same (length-entries (members_of base d) is.level d 0 d.members)

definition-number : (V : Signature) (n : ℕ) (e : Entry) → IsDefinition e → IsEntryAt V n e → IsConstantNumber V n
definition-number V n (Definition name type body) h at = (name, type, body, at)
definition-number V n (FamilyOf f) h at = absurd h
definition-number V n (EliminatorAt f m) h at = absurd h
definition-number V n (AxiomKAt i m) h at = absurd h

definition-at : (entries : List Entry) (k : ℕ) → AreDefinitions entries → k < length entries → (e : Entry) × (slice_get entries k ≡ Some e) × IsDefinition e
definition-at [] k all lt = absurd (omega arith)
definition-at (e ∷ entries) zero all lt = (e, refl, All-head IsDefinition e entries all)
definition-at (e ∷ entries) (suc k) all lt = definition-at entries k (All-tail IsDefinition e entries all) (omega arith)

-- ---- drafts

-- a definition with this name that is not too high, and mentions one name
pub record IsMade (own name : List ℕ) (d : Draft) : Type 0 where
  pub type : Term
  pub term : Term
  pub entry : d.entry ≡ Definition own type term
  pub low : EachTerm (λ n t. height t ≤ 2000) d.entry
  pub names : d.names ≡ name ∷ []

drafted-made : (own : List ℕ) (base : ℕ) (name : List ℕ) (type term : Term) → IfOk (drafted own base (name ∷ []) type term) (IsMade own name)
drafted-made own base name type term =
    let Low : Term → Type 0 = λ t. height t ≤ 2000 in
    and_then-has Low (IsMade own name) (bounded type) _ (bounded-has Low type (λ h. h)) (λ t h.
    and_then-has Low (IsMade own name) (bounded term) _ (bounded-has Low term (λ k. k)) (λ u k.
    record { type = t; term = u; entry = refl; low = (h, k); names = refl }))

-- one for each member, in their order
pub data AreMade (name : List ℕ) : List Entry → List Draft → Type 0 where
  none : AreMade name [] []
  one : (m : Entry) (members : List Entry) (d : Draft) (drafts : List Draft) → IsMade (induction_name (name_of m)) name d → AreMade name members drafts
      → AreMade name (m ∷ members) (d ∷ drafts)

-- a fact of each longer signature, for each draft
all-later : (U : Signature) (name : List ℕ) (members : List Entry) (drafts : List Draft) → AreMade name members drafts
    → ((V : Signature) → IsPrefix U V → All (IsScopedDraft V) drafts) → ((V : Signature) → IsPrefix U V → IsEnterable V name) → AreEnterableLater U drafts
all-later U name members drafts none scoped enters = All-nil (λ d. (V : Signature) → IsPrefix U V → IsEnterableDraft V d)
all-later U name members drafts (one m others d rest made more) scoped enters =
    All-cons (λ d. (V : Signature) → IsPrefix U V → IsEnterableDraft V d) d rest
    (λ V longer. record {
      definition = transport IsDefinition (sym made.entry) tt;
      scoped = All-head (IsScopedDraft V) d rest (scoped V longer);
      low = made.low;
      names = transport (All (IsEnterable V)) (sym made.names) (All-cons (IsEnterable V) name [] (enters V longer) (All-nil (IsEnterable V)));
    })
    (all-later U name others rest more (λ V longer. All-tail (IsScopedDraft V) d rest (scoped V longer)) enters)

-- ---- over a signature in which what is packed has entered

module _ (S U : Signature) (d : MutualRaw) (l : ℕ) (h : HasPackedEntries S (packed_with (members_of (length S.entries) d) l d) U) where
  abbrev g : Members
  g = members_of (length S.entries) d

  abbrev packed : Packed
  packed = packed_with g l d

  abbrev base : ℕ
  base = length S.entries

  abbrev behind : List Entry
  behind = FamilyOf h.tag ∷ FamilyOf h.family ∷ packed.members

  entry-behind : (V : Signature) → IsPrefix U V → (k : ℕ) (e : Entry) → slice_get behind k ≡ Some e → IsEntryAt V (base + k) e
  entry-behind V longer k e at =
      ap (λ entries. slice_get entries (base + k)) longer.entries
      ∙ slice_get-longer U.entries longer.more (base + k) e
      (ap (λ entries. slice_get entries (base + k)) h.entries ∙ (slice_get-append_right S.entries behind k ∙ at))

  tag-at : (V : Signature) → IsPrefix U V → IsEntryAt V base (FamilyOf h.tag)
  tag-at V longer = transport (λ n. IsEntryAt V n (FamilyOf h.tag)) (omega arith) (entry-behind V longer 0 (FamilyOf h.tag) refl)

  family-at : (V : Signature) → IsPrefix U V → IsEntryAt V (base + 1) (FamilyOf h.family)
  family-at V longer = entry-behind V longer 1 (FamilyOf h.family) refl

module _ (S U : Signature) (d : MutualRaw) (l : ℕ) (counted : length d.tags ≡ length d.members) (h : HasPackedEntries S (packed_with (members_of (length S.entries) d) l d) U) where
  abbrev whole : Packed
  whole = packed_with (members_of (length S.entries) d) l d

  abbrev start : ℕ
  start = length S.entries

  has-packed : (V : Signature) → IsPrefix U V → HasPacked V whole
  has-packed V longer = record {
    family = (h.family, family-at S U d l h V longer);
    tags = λ k lt. let all = tag-constructors (members_of start d) start d h.tag h.tag_given in let count = length-entries (members_of start d) l d 0 d.members in (h.tag, tag-at S U d l h V longer, omega (arith, all, counted, count, lt));
    members =
        λ k lt.
        let there = definition-at whole.members k (members-defined (members_of start d) l d 0 d.members) lt in
        transport (IsConstantNumber V) (omega arith)
        (definition-number V (start + suc (suc k)) there.0 there.2 (entry-behind S U d l h V longer (suc (suc k)) there.0 there.1));
  }

  -- ---- the inductions

  tag-named : h.tag.name ≡ d.tag
  tag-named = let names : names_of (FamilyOf h.tag) ≡ raw_names whole.tag = h.tag_given.names in cc

  case-enters : (V : Signature) → IsPrefix U V → l + 2 ≤ top → IsEnterable V (analysis_name whole)
  case-enters V longer low =
      transport (λ name. IsEnterable V (generated_name name (codes "!case.") (l + 1))) tag-named
      (inr (listed-named V (Case start h.tag (l + 1)) (tag-at S U d l h V longer, omega (arith, low)) made))
    where
      made : nat_lt (l + 1) top ≡ true
      made = grind (arith, nat_tests, low)

  draft-made : (k : ℕ) (name : List ℕ) → IfOk (induction_entry (length U.entries) whole (family_shape (start + 1) h.family) k name) (IsMade (induction_name name) (analysis_name whole))
  draft-made k name =
      let q = packed_numbers whole (family_shape (start + 1) h.family) in
      drafted-made (induction_name name) (length U.entries) (analysis_name whole) (induction_type q whole.owners (family_shape (start + 1) h.family) k)
      (induction_term q whole.owners (family_shape (start + 1) h.family) (length U.entries) k)

  drafts-made : (k : ℕ) (members : List Entry) → IfOk (induction_entries_from (length U.entries) whole (family_shape (start + 1) h.family) k members) (AreMade (analysis_name whole) members)
  drafts-made k [] = none
  drafts-made k (m ∷ members) =
      by (induction_entry (length U.entries) whole (family_shape (start + 1) h.family) k (name_of m))
      (induction_entries_from (length U.entries) whole (family_shape (start + 1) h.family) (k + 1) members) (draft-made k (name_of m)) (drafts-made (k + 1) members)
    where
      by : (first : Result Draft Stop) (rest : Result (List Draft) Stop) → IfOk first (IsMade (induction_name (name_of m)) (analysis_name whole)) → IfOk rest (AreMade (analysis_name whole) members)
          → IfOk (and_then first (λ entry. after (entry ∷ []) rest)) (AreMade (analysis_name whole) (m ∷ members))
      by (Ok e) (Ok es) is all = one m members e es is all
      by (Ok e) (Err stop) is all = tt
      by (Err stop) rest is all = tt

  drafts-are : (drafts : List Draft) → inductions_of U whole ≡ Ok drafts → induction_entries (length U.entries) whole h.family ≡ Ok drafts
  drafts-are drafts is = ap (inductions_over U whole) (sym (at-family U (start + 1) h.family (family-at S U d l h U (prefix_reflexive U)))) ∙ is

  made-of : (drafts : List Draft) → inductions_of U whole ≡ Ok drafts → AreMade (analysis_name whole) whole.members drafts
  made-of drafts is = transport (λ r. IfOk r (AreMade (analysis_name whole) whole.members)) (drafts-are drafts is) (drafts-made 0 whole.members)

  enterable : (drafts : List Draft) → inductions_of U whole ≡ Ok drafts → IsScopedSignature U → l + 2 ≤ top → AreEnterableLater U drafts
  enterable drafts is scoped low =
      all-later U (analysis_name whole) whole.members drafts (made-of drafts is)
      (λ V longer.
      transport (λ r. IfOk r (All (IsScopedDraft V))) (drafts-are drafts is)
      (inductions-scoped U V whole h.family scoped (has-packed U (prefix_reflexive U)) (family-at S U d l h U (prefix_reflexive U)) longer))
      (λ V longer. case-enters V longer low)

  packed-there : IsScopedSignature U → l + 2 ≤ top → HasPackedFor U whole
  packed-there scoped low = record {
    family = (h.family, family-at S U d l h U (prefix_reflexive U));
    level = low;
    drafts = λ drafts is. enterable drafts is scoped low;
  }

-- what is packed has entered
pub packed-has : (S U : Signature) (d : MutualRaw) (packed : Packed) → pack (length S.entries) d ≡ Ok packed → HasPackedEntries S packed U → IsScopedSignature U → HasPackedFor U packed
packed-has S U d packed e has scoped =
    let is = packed-as (length S.entries) d packed e in
    transport (HasPackedFor U) is.same
    (packed-there S U d is.level (tags-counted (length S.entries) d packed e) (transport (λ p. HasPackedEntries S p U) (sym is.same) has) scoped is.low)

-- the drafts of the inductions are those of the members
pub inductions-made : (S U : Signature) (d : MutualRaw) (packed : Packed) → pack (length S.entries) d ≡ Ok packed → HasPackedEntries S packed U → (drafts : List Draft)
    → inductions_of U packed ≡ Ok drafts → AreMade (analysis_name packed) packed.members drafts
inductions-made S U d packed e has =
    let is = packed-as (length S.entries) d packed e in
    transport (λ p. (drafts : List Draft) → inductions_of U p ≡ Ok drafts → AreMade (analysis_name p) p.members drafts) is.same
    (made-of S U d is.level (tags-counted (length S.entries) d packed e) (transport (λ p. HasPackedEntries S p U) (sym is.same) has))

pub family-there : (S U : Signature) (d : MutualRaw) (l : ℕ) (h : HasPackedEntries S (packed_with (members_of (length S.entries) d) l d) U) (V : Signature) → IsPrefix U V
    → IsEntryAt V (length S.entries + 1) (FamilyOf h.family)
family-there S U d l h V longer = family-at S U d l h V longer
