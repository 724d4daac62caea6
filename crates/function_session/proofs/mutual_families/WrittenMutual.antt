-- Accepted families that refer to each other are as they are written, and leave a signature of a session.
use Rattle.std.proofs.Common.{◌≡◌, ℕ, zero, suc, ◌+◌, ◌<◌, Bool, true, false, cond, IsTrue, Option, Some, None, List, [], ◌∷◌, length, map, slice_get, Result, Ok, Err, IfOk, refl, sym, ap, ◌∙◌, subst as transport, arith}
use Rattle.std.specs.List.{All}
use Rattle.std.proofs.lemmas.List.Elements.{All-cons, All-head, All-nil, All-tail}
use Rattle.theory.specs.Conversion.{Converts}
use Rattle.theory.specs.Families.{Family}
use Rattle.theory.specs.Signatures.{AxiomKAt, Definition, EliminatorAt, Entry, FamilyOf, IsPrefix, Signature}
use Rattle.theory.specs.Telescopes.{Telescope}
use Rattle.theory.specs.Terms.{Term}
use Rattle.theory.specs.WellFormed.{IsWellFormed}
use Rattle.theory.proofs.Pushing.{prefix_reflexive, prefix_transitive}
use Rattle.core_terms.specs.Answers.{SpentOr, and_next, and_then}
use Rattle.core_terms.specs.declared.stop.Stop.{Stop}
use Rattle.core_terms.proofs.Answers.{Answers, and_next-has}
use Rattle.core_sig.specs.Drafts.{Draft}
use Rattle.core_sig.specs.Raw.{MutualRaw, RawConstructor, RawMember}
use Rattle.core_text.specs.RawEntries.{RawAxiomK, RawDefinition, RawEliminator, RawEntry, RawFamilyOf, entry_shown}
use Rattle.clause_reports.proofs.Keeping.{Any, any, weaker, weaker-of-two}
use Rattle.drafts.specs.draft_entering.Conditions.{IsDefinition}
use Rattle.elab_session.specs.Declaring.{accepted_as, or_unresolved}
use Rattle.elab_session.specs.Entering.{answers, checked, enter_with, refused}
use Rattle.elab_session.specs.Refusals.{stopped}
use Rattle.elab_session.specs.Sessions.{IsReady}
use Rattle.elab_session.specs.declared.refusal.Refusal.{Refusal}
use Rattle.elab_session.proofs.Entered.{answered-has, entry-extends}
use Rattle.elab_session.proofs.Resolved.{prelude-stays}
use Rattle.family_check.specs.Entering.{Entered}
use Rattle.family_check.proofs.Soundness.{declare-keeps, define-keeps}
use Rattle.function_session.specs.Elaborating.{Elaborated, with_lines}
use Rattle.function_session.specs.Laws.{KeepsReady}
use Rattle.function_session.specs.mutual_families.Conditions.{IsDeclared}
use Rattle.function_session.specs.mutual_families.Declaring.{accepted_mutual, declare_mutual, enter_mutual, enter_packed}
use Rattle.function_session.specs.mutual_families.Entering.{EntersDraft, drafts_entered, entries_entered, inductions_entered, inductions_of, packed_entries, parameters_checked}
use Rattle.function_session.specs.mutual_families.EquationLines.{constructors_checked, equation_checked, equation_of, equations_checked, mutual_lines, sides_compared, unless_unequal}
use Rattle.function_session.specs.mutual_families.Laws.{DeclaresMutualAsWritten, HasEqualSides, HasPackedEntries, IsWrittenMutual}
use Rattle.function_session.specs.mutual_families.Refusals.{or_refused, refused_with, unequal, unpacked}
use Rattle.function_session.proofs.function_lines.Results.{longer-ready}
use Rattle.function_session.proofs.mutual_families.EnteredInductions.{AreBrought, Brings, drafts-brought}
use Rattle.function_session.proofs.mutual_families.PackedEntries.{entries-enter, packed-defined}
use Rattle.kernel_reduce.specs.Comparison.{convertible_of}
use Rattle.kernel_reduce.specs.Reduction.{nesting}
use Rattle.kernel_reduce.proofs.ComparisonLaws.{convertible-converts}
use Rattle.mutual_pack.specs.MutualFamilies.{Packed}
use Rattle.mutual_pack.specs.Packing.{pack}
use Rattle.resolve.specs.DeclaredNames.{AreNewNames, declared_word}
use Rattle.resolve.specs.Mutual.{IsMutual, resolve_mutual}
use Rattle.resolve.specs.Scoping.{HasMemberConstants, IsResolvedMutual}
use Rattle.resolve.specs.declared.stop.ResolveStop.{ResolveStop}
use Rattle.resolve.proofs.NewMembers.{mutual-new}
use Rattle.resolve.proofs.ScopedMembers.{mutual-families-resolve}
use Rattle.surface_syntax.specs.Trees as surf
use Rattle.surface_syntax.specs.declared.tree.Word.{Word}

-- ---- names

names-new : (S : Signature) (d : surf.Decl) → IfOk (resolve_mutual S d) (AreNewNames S d)
names-new S (surf.Mutual params members family tag tags) = mutual-new S params members family tag tags
names-new S (surf.Def x ty body) = tt
names-new S (surf.Data x params ty cons) = tt
names-new S (surf.Decide x family decision) = tt
names-new S (surf.Fun x ty clauses) = tt

pub resolved-declared : (S : Signature) (d : surf.Decl) (raw : MutualRaw) → resolve_mutual S d ≡ Ok raw → IsDeclared S raw
resolved-declared S d raw is =
    let named = transport (λ r. IfOk r (AreNewNames S d)) is (names-new S d) in
    record {
      family = named.family;
      tag = named.tag;
      apart = named.apart;
      scoped = λ T longer. transport (λ r. IfOk r (λ raw. HasMemberConstants S T raw → IsResolvedMutual S T raw)) is (mutual-families-resolve S T d longer);
    }

-- ---- entries

-- a family or a definition
abbrev IsGiven : RawEntry → Type 0
IsGiven (RawFamilyOf raw) = Unit {0}
IsGiven (RawDefinition name type body) = Unit {0}
IsGiven raw = ⊥

abbrev IsKept : Signature → Signature → Type 0
IsKept S T = IsPrefix S T × IsWellFormed T

given-kept : (S : Signature) (raw : RawEntry) (left : ℕ) → IsGiven raw → IsWellFormed S → Answers (λ x. IsWellFormed x.signature) (checked S raw left)
given-kept S (RawFamilyOf raw) left h well = declare-keeps S raw left well
given-kept S (RawDefinition name type body) left h well = define-keeps S name type body left well
given-kept S (RawEliminator n m) left h well = absurd h
given-kept S (RawAxiomK i m) left h well = absurd h

entry-kept : (S : Signature) (start fuel : ℕ) (raw : RawEntry) (left : ℕ) → IsGiven raw → IsWellFormed S → Answers (λ x. IsKept S x.signature) (enter_with S start fuel raw left)
entry-kept S start fuel raw left h well =
    answered-has (λ x. IsKept S x.signature) (refused S start fuel raw) (checked S raw left).0
    (weaker-of-two (λ (x : Entered). IsPrefix S x.signature) (λ (x : Entered). IsWellFormed x.signature) (λ (x : Entered). IsKept S x.signature) (checked S raw left).0
    (entry-extends S raw left) (given-kept S raw left h well) (λ x longer formed. (longer, formed)))

entries-kept : (S : Signature) (start fuel : ℕ) (raws : List RawEntry) (left : ℕ) → All IsGiven raws → IsWellFormed S → Answers (IsKept S) (entries_entered S start fuel raws left)
entries-kept S start fuel [] left all well = (prefix_reflexive S, well)
entries-kept S start fuel (raw ∷ raws) left all well =
    and_next-has (λ x. IsKept S x.signature) (IsKept S) (enter_with S start fuel raw left) _
    (entry-kept S start fuel raw left (All-head IsGiven raw raws all) well) (λ x rest h.
    weaker (IsKept x.signature) (IsKept S) (entries_entered x.signature start fuel raws rest).0
    (λ U k. (prefix_transitive S x.signature U h.0 k.0, k.1))
    (entries-kept x.signature start fuel raws rest (All-tail IsGiven raw raws all) h.1))

definitions-given : (entries : List Entry) → All IsDefinition entries → All IsGiven (map (entry_shown 0) entries)
definitions-given [] all = All-nil IsGiven
definitions-given (e ∷ entries) all =
    All-cons IsGiven (entry_shown 0 e) (map (entry_shown 0) entries) (by e (All-head IsDefinition e entries all)) (definitions-given entries (All-tail IsDefinition e entries all))
  where
    by : (e : Entry) → IsDefinition e → IsGiven (entry_shown 0 e)
    by (Definition name type body) h = tt
    by (FamilyOf f) h = absurd h
    by (EliminatorAt n m) h = absurd h
    by (AxiomKAt i m) h = absurd h

packed-given : (packed : Packed) → All IsDefinition packed.members → All IsGiven (packed_entries packed)
packed-given packed all =
    let members = map (entry_shown 0) packed.members in
    All-cons IsGiven (RawFamilyOf packed.tag) (RawFamilyOf packed.family ∷ members) tt (All-cons IsGiven (RawFamilyOf packed.family) members tt (definitions-given packed.members all))

-- what is packed has entered, and the signature is well formed
pub record ArePacked (S : Signature) (packed : Packed) (U : Signature) : Type 0 where
  pub has : HasPackedEntries S packed U
  pub longer : IsPrefix S U
  pub formed : IsWellFormed U

pub packed-entered : (S : Signature) (start fuel : ℕ) (packed : Packed) (left : ℕ) → All IsDefinition packed.members → IsWellFormed S
    → Answers (ArePacked S packed) (entries_entered S start fuel (packed_entries packed) left)
packed-entered S start fuel packed left all well =
    weaker-of-two (HasPackedEntries S packed) (IsKept S) (ArePacked S packed) (entries_entered S start fuel (packed_entries packed) left).0
    (entries-enter S start fuel packed left all) (entries-kept S start fuel (packed_entries packed) left (packed-given packed all) well)
    (λ U has kept. record { has = has; longer = kept.0; formed = kept.1 })

-- ---- equations

-- those of the constructors of member k from number `con` on have equal sides
abbrev AreEqual : Signature → Packed → (k con : ℕ) → List RawConstructor → Type 0
AreEqual T packed k con [] = Unit {0}
AreEqual T packed k con (c ∷ constructors) = HasEqualSides T packed k con × AreEqual T packed k (con + 1) constructors

-- so have those of the members from k on
abbrev AreAllEqual : Signature → Packed → (k : ℕ) → List RawMember → Type 0
AreAllEqual T packed k [] = Unit {0}
AreAllEqual T packed k (m ∷ members) = AreEqual T packed k 0 m.constructors × AreAllEqual T packed (k + 1) members

same-answer : {A E : Type 0} (refusal : E → Refusal) (r : Result A E) → IfOk (or_refused refusal r) (λ a. r ≡ Ok a)
same-answer refusal (Ok a) = refl
same-answer refusal (Err e) = tt

converting : (T : Signature) (fuel : ℕ) (a b : Term) (left : ℕ) → Answers (λ equal. IsTrue equal → Converts T a b) (refused_with (stopped fuel) (convertible_of T nesting a b left))
converting T fuel a b left = by (convertible_of T nesting a b left).0 (convertible-converts T nesting a b left)
  where
    by : (r : Result Bool Stop) → IfOk r (λ equal. IsTrue equal → Converts T a b) → IfOk (or_refused (stopped fuel) r) (λ equal. IsTrue equal → Converts T a b)
    by (Ok equal) h = h
    by (Err e) h = tt

sides-equal : (T : Signature) (fuel : ℕ) (member name : List ℕ) (sides : Telescope × Term × Term) (left : ℕ) → Answers (λ u. Converts T sides.1 sides.2) (sides_compared T fuel member name sides left)
sides-equal T fuel member name sides left =
    and_next-has (λ equal. IsTrue equal → Converts T sides.1 sides.2) (λ u. Converts T sides.1 sides.2) (refused_with (stopped fuel) (convertible_of T nesting sides.1 sides.2 left)) _
    (converting T fuel sides.1 sides.2 left) (λ equal rest h. by equal h)
  where
    by : (equal : Bool) → (IsTrue equal → Converts T sides.1 sides.2) → IfOk (unless_unequal T member name sides equal) (λ u. Converts T sides.1 sides.2)
    by true h = h refl
    by false h = tt

equation-equal : (T : Signature) (fuel : ℕ) (packed : Packed) (k con : ℕ) (member name : List ℕ) (left : ℕ) → Answers (λ u. HasEqualSides T packed k con) (equation_checked T fuel packed k con member name left)
equation-equal T fuel packed k con member name left =
    and_next-has (λ sides. equation_of T packed k con ≡ Ok sides) (λ u. HasEqualSides T packed k con) (answers (or_refused (stopped fuel) (equation_of T packed k con)) left) _
    (same-answer (stopped fuel) (equation_of T packed k con)) (λ sides rest is.
    weaker (λ (u : Unit {0}). Converts T sides.1 sides.2) (λ (u : Unit {0}). HasEqualSides T packed k con) (sides_compared T fuel member name sides rest).0
    (λ u converts. record { sides = sides; is = is; converts = converts }) (sides-equal T fuel member name sides rest))

constructors-equal : (T : Signature) (fuel : ℕ) (packed : Packed) (k con : ℕ) (member : List ℕ) (constructors : List RawConstructor) (left : ℕ)
    → Answers (λ u. AreEqual T packed k con constructors) (constructors_checked T fuel packed k con member constructors left)
constructors-equal T fuel packed k con member [] left = tt
constructors-equal T fuel packed k con member (c ∷ constructors) left =
    and_next-has (λ u. HasEqualSides T packed k con) (λ u. AreEqual T packed k con (c ∷ constructors)) (equation_checked T fuel packed k con member c.name left) _
    (equation-equal T fuel packed k con member c.name left) (λ u rest one.
    weaker (λ (u : Unit {0}). AreEqual T packed k (con + 1) constructors) (λ (u : Unit {0}). AreEqual T packed k con (c ∷ constructors))
    (constructors_checked T fuel packed k (con + 1) member constructors rest).0 (λ v more. (one, more)) (constructors-equal T fuel packed k (con + 1) member constructors rest))

members-equal : (T : Signature) (fuel : ℕ) (packed : Packed) (k : ℕ) (members : List RawMember) (left : ℕ)
    → Answers (λ u. AreAllEqual T packed k members) (equations_checked T fuel packed k members left)
members-equal T fuel packed k [] left = tt
members-equal T fuel packed k (m ∷ members) left =
    and_next-has (λ u. AreEqual T packed k 0 m.constructors) (λ u. AreAllEqual T packed k (m ∷ members)) (constructors_checked T fuel packed k 0 m.name m.constructors left) _
    (constructors-equal T fuel packed k 0 m.name m.constructors left) (λ u rest one.
    weaker (λ (u : Unit {0}). AreAllEqual T packed (k + 1) members) (λ (u : Unit {0}). AreAllEqual T packed k (m ∷ members))
    (equations_checked T fuel packed (k + 1) members rest).0 (λ v more. (one, more)) (members-equal T fuel packed (k + 1) members rest))

equal-at : (T : Signature) (packed : Packed) (k con i : ℕ) (constructors : List RawConstructor) → AreEqual T packed k con constructors → i < length constructors → HasEqualSides T packed k (con + i)
equal-at T packed k con i [] all lt = absurd (omega arith)
equal-at T packed k con zero (c ∷ constructors) all lt = transport (HasEqualSides T packed k) (omega arith) all.0
equal-at T packed k con (suc i) (c ∷ constructors) all lt = transport (HasEqualSides T packed k) (omega arith) (equal-at T packed k (con + 1) i constructors all.1 (omega arith))

all-equal-at : (T : Signature) (packed : Packed) (k i con : ℕ) (members : List RawMember) (m : RawMember) → AreAllEqual T packed k members → slice_get members i ≡ Some m → con < length m.constructors
    → HasEqualSides T packed (k + i) con
all-equal-at T packed k i con [] m all at lt = absurd cc
all-equal-at T packed k zero con (own ∷ members) m all at lt =
    let same : own ≡ m = cc in
    let few = ap (λ (x : RawMember). length x.constructors) same in
    let first : 0 + con ≡ con = omega arith in
    transport (λ n. HasEqualSides T packed n con) (omega arith)
    (transport (HasEqualSides T packed k) first (equal-at T packed k 0 con own.constructors all.0 (omega (arith, few, lt))))
all-equal-at T packed k (suc i) con (own ∷ members) m all at lt =
    transport (λ n. HasEqualSides T packed n con) (omega arith) (all-equal-at T packed (k + 1) i con members m all.1 at lt)

-- ---- all of it

-- the facts about an accepted declaration
pub record IsEntered (S : Signature) (d : MutualRaw) (T : Signature) : Type 0 where
  pub packed : Packed
  pub is : pack (length S.entries) d ≡ Ok packed
  pub before : Signature
  pub entered : ArePacked S packed before
  pub drafts : List Draft
  pub drafted : inductions_of before packed ≡ Ok drafts
  pub brought : AreBrought before drafts T
  pub equal : AreAllEqual T packed 0 d.members

-- the entries of the inductions
pub record HasInductions (U : Signature) (packed : Packed) (T : Signature) : Type 0 where
  pub drafts : List Draft
  pub drafted : inductions_of U packed ≡ Ok drafts
  pub brought : AreBrought U drafts T

pub inductions-enter : (enter : EntersDraft) → Brings enter → (U : Signature) (fuel : ℕ) (name : List ℕ) (packed : Packed) (left : ℕ) → Answers (HasInductions U packed) (inductions_entered enter U fuel name packed left)
inductions-enter enter brings U fuel name packed left =
    and_next-has (λ drafts. inductions_of U packed ≡ Ok drafts) (HasInductions U packed) (answers (or_refused (stopped fuel) (inductions_of U packed)) left) _
    (same-answer (stopped fuel) (inductions_of U packed)) (λ drafts rest is.
    weaker (AreBrought U drafts) (HasInductions U packed) (drafts_entered enter U fuel name drafts rest).0
    (λ T h. record { drafts = drafts; drafted = is; brought = h }) (drafts-brought enter brings U fuel name drafts rest))

packed-enters : (enter : EntersDraft) → Brings enter → (S : Signature) (fuel : ℕ) (x : Word) (d : MutualRaw) (packed : Packed) (left : ℕ) → IsWellFormed S
    → pack (length S.entries) d ≡ Ok packed → Answers (IsEntered S d) (enter_packed enter S fuel x d packed left)
packed-enters enter brings S fuel x d packed left well is =
    and_next-has (ArePacked S packed) (IsEntered S d) (entries_entered S x.start fuel (packed_entries packed) left) _
    (packed-entered S x.start fuel packed left (packed-defined (length S.entries) d packed is) well) (λ U rest h.
    and_next-has (HasInductions U packed) (IsEntered S d) (inductions_entered enter U fuel x.text packed rest) _ (inductions-enter enter brings U fuel x.text packed rest) (λ T others i.
    and_next-has (λ u. AreAllEqual T packed 0 d.members) (IsEntered S d) (equations_checked T fuel packed 0 d.members others) _
    (members-equal T fuel packed 0 d.members others) (λ u end equal. record {
      packed = packed;
      is = is;
      before = U;
      entered = h;
      drafts = i.drafts;
      drafted = i.drafted;
      brought = i.brought;
      equal = equal;
    })))

pub mutual-enters : (enter : EntersDraft) → Brings enter → (S : Signature) (fuel : ℕ) (x : Word) (d : MutualRaw) (left : ℕ) → IsWellFormed S
    → Answers (IsEntered S d) (enter_mutual enter S fuel x d left)
mutual-enters enter brings S fuel x d left well =
    and_next-has Any (IsEntered S d) (parameters_checked S fuel x [] d.parameters left) _ (any (parameters_checked S fuel x [] d.parameters left).0) (λ u rest v.
    and_next-has (λ packed. pack (length S.entries) d ≡ Ok packed) (IsEntered S d) (answers (or_refused (unpacked d) (pack (length S.entries) d)) rest) _
    (same-answer (unpacked d) (pack (length S.entries) d)) (λ packed others is. packed-enters enter brings S fuel x d packed others well is))

-- it is well formed, and goes on with the entries of S
pub entered-kept : (S T : Signature) (d : MutualRaw) → IsReady S → IsEntered S d T → IsKept S T
entered-kept S T d ready h = (
  prefix_transitive S h.before T h.entered.longer h.brought.grows.prefix,
  h.brought.grows.keeps h.entered.formed (prelude-stays S h.before ready.prelude h.entered.longer),
)

resolved-has : (P : Elaborated → Type 0) (r : Result MutualRaw ResolveStop) (go : MutualRaw → Result Elaborated Refusal)
    → ((d : MutualRaw) → r ≡ Ok d → IfOk (go d) P) → IfOk (and_then (or_unresolved r) go) P
resolved-has P (Ok d) go h = h d refl
resolved-has P (Err e) go h = tt

abbrev pub accepted_with : Word → MutualRaw → Signature → Elaborated
accepted_with x d T = record (with_lines (accepted_as x.text T) []) { equations = mutual_lines d.members }

accepted-has : (P : Elaborated → Type 0) (x : Word) (d : MutualRaw) (r : Result Signature Refusal) → IfOk r (λ T. P (accepted_with x d T)) → IfOk (accepted_mutual x d r) P
accepted-has P x d (Ok T) h = h
accepted-has P x d (Err e) h = tt

-- a property of an accepted declaration
pub mutual-has : (P : Elaborated → Type 0) (enter : EntersDraft) → Brings enter → (S : Signature) (fuel : ℕ) (d : surf.Decl) → IsReady S
    → ((raw : MutualRaw) (T : Signature) → resolve_mutual S d ≡ Ok raw → IsEntered S raw T → P (accepted_with (declared_word d) raw T))
    → IfOk (declare_mutual enter S fuel d) P
mutual-has P enter brings S fuel d ready h =
    let x = declared_word d in
    resolved-has P (resolve_mutual S d) _ (λ raw is.
    accepted-has P x raw (enter_mutual enter S fuel x raw fuel).0
    (weaker (IsEntered S raw) (λ T. P (accepted_with x raw T)) (enter_mutual enter S fuel x raw fuel).0 (λ T k. h raw T is k)
    (mutual-enters enter brings S fuel x raw fuel ready.well_formed)))

pub mutual-ready : (enter : EntersDraft) → Brings enter → (S : Signature) (fuel : ℕ) (d : surf.Decl) → IsReady S → IfOk (declare_mutual enter S fuel d) (KeepsReady S)
mutual-ready enter brings S fuel d ready =
    mutual-has (KeepsReady S) enter brings S fuel d ready (λ raw T is h.
    let kept = entered-kept S T raw ready h in
    record { longer = kept.0; ready = longer-ready S T ready kept.0 kept.1 })

pub mutual-written : (enter : EntersDraft) → Brings enter → DeclaresMutualAsWritten enter
mutual-written enter brings S fuel d asked ready =
    mutual-has (IsWrittenMutual S d) enter brings S fuel d ready (λ raw T resolved h. record {
      given = raw;
      resolved = resolved;
      packed = h.packed;
      is = h.is;
      before = h.before;
      entered = h.entered.has;
      drafts = h.drafts;
      drafted = h.drafted;
      inductions = h.brought.entered;
      longer = h.brought.grows.prefix;
      formed = (entered-kept S T raw ready h).1;
      accepted = refl;
      lines = refl;
      shown = refl;
      equations = λ k con m at lt.
          let first : 0 + k ≡ k = omega arith in
          transport (λ n. HasEqualSides T h.packed n con) first (all-equal-at T h.packed 0 k con raw.members m h.equal at lt);
    })
