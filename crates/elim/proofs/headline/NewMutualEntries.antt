-- Each entry that families that refer to each other add behind what they are packed into is an induction, a generated entry, or an instance.
use Rattle.std.proofs.Common.{◌≡◌, ◌≤◌, ℕ, ◌+◌, Bool, true, false, cond, List, [], ◌∷◌, ◌++◌, length, length-append, map, Result, Ok, Err, IfOk, refl, sym, ap, ap₂, ◌∙◌, subst as transport, arith}
use Rattle.std.proofs.lemmas.List.{length-map}
use Rattle.theory.specs.Signatures.{Definition, Entry, FamilyOf, IsEntryAt, IsPrefix, Signature}
use Rattle.theory.specs.WellFormed.{first_entries}
use Rattle.theory.proofs.Pushing.{prefix_reflexive, prefix_transitive, push_is_longer}
use Rattle.core_terms.proofs.Answers.{Answers, and_next-has, and_then-is, split-parts}
use Rattle.core_sig.specs.Drafts.{Draft}
use Rattle.core_sig.specs.Raw.{MutualRaw}
use Rattle.core_text.specs.RawEntries.{RawEntry, RawFamilyOf, RawEliminator, RawAxiomK, RawDefinition, entry_shown}
use Rattle.clause_reports.proofs.Keeping.{Any, any, weaker}
use Rattle.drafts.specs.draft_checks.Checks.{unmarked}
use Rattle.family_check.specs.Entering as entering
use Rattle.family_check.specs.Entering.{Entered, define_of}
use Rattle.family_check.specs.Laws.{EntersAsDeclared}
use Rattle.family_check.specs.Outcomes.{FamilyStop}
use Rattle.family_check.proofs.AsDeclared.{declare-gives}
use Rattle.surface_syntax.specs.Trees as surf
use Rattle.surface_syntax.specs.declared.tree.Word.{Word}
use Rattle.surface_syntax.specs.word_laws.Words.{Each}
use Rattle.resolve.specs.DeclaredNames.{declared_word}
use Rattle.resolve.specs.Mutual.{resolve_mutual}
use Rattle.resolve.specs.declared.stop.ResolveStop.{ResolveStop}
use Rattle.elab_session.specs.Declaring.{accepted_as, or_unresolved}
use Rattle.elab_session.specs.Entering.{answered, answers, checked, enter_with, refused}
use Rattle.elab_session.specs.Refusals.{stopped}
use Rattle.elab_session.specs.declared.refusal.Refusal.{Refusal}
use Rattle.function_session.specs.Declaring.{declared_in}
use Rattle.function_session.specs.Elaborating.{Elaborated, with_lines}
use Rattle.function_session.specs.Refusals.{refused_function}
use Rattle.function_session.specs.Sessions.{Session}
use Rattle.function_session.specs.function_lines.Opened.{checked_entered, deep, draft_in}
use Rattle.function_session.specs.mutual_families.Declaring.{accepted_mutual, enter_mutual}
use Rattle.function_session.specs.mutual_families.Entering.{drafts_entered, entries_entered, inductions_entered, inductions_of, packed_entries, parameters_checked}
use Rattle.function_session.specs.mutual_families.EquationLines.{equations_checked, mutual_lines}
use Rattle.function_session.specs.mutual_families.Laws.{IsWrittenMutual}
use Rattle.function_session.specs.mutual_families.Refusals.{or_refused, refused_with, unpacked}
use Rattle.function_session.proofs.equation_laws.LeftShowing.{ok-is}
use Rattle.mutual_pack.specs.MutualFamilies.{Packed}
use Rattle.mutual_pack.specs.Packing.{pack}
use Rattle.elim.specs.headline.NewEntries.{IsNewEntry, axiom_k, drafted, drafted_entry, eliminator, generated}
use Rattle.elim.proofs.elim_program.PackedOutcomes.{EntryIs, IsForeseenPacking, IsPackedAt, any-names, entries-are, packs}
use Rattle.elim.proofs.headline.Adding.{Adds, Allows, AreOfKind, added-kind, adds-on, at-first, behind, checked-adds, define-is, nothing, one_more}

-- the entries of the declaration behind what is packed are new ones, by the drafts of the inductions
abbrev pub HasNewMutual : Session → surf.Decl → Elaborated → Type 0
HasNewMutual s d a =
    (w : IsWrittenMutual s.signature d a) (n : ℕ) (e : Entry) → length s.signature.entries + 2 + length w.packed.members ≤ n → IsEntryAt a.signature n e
    → IsNewEntry (first_entries a.signature n) w.drafts a.lines e

same-answer : {A E : Type 0} (r : Result A E) → IfOk r (λ a. r ≡ Ok a)
same-answer (Ok a) = refl
same-answer (Err e) = tt

as-refused : {A E : Type 0} (P : A → Type 0) (refusal : E → Refusal) (r : Result A E) → IfOk r P → IfOk (or_refused refusal r) P
as-refused P refusal (Ok a) h = h
as-refused P refusal (Err e) h = tt

-- ---- how many entries enter

IsLonger : ℕ → Signature → Type 0
IsLonger n U = length U.entries ≡ n

one-longer : (U : Signature) (e : Entry) (x : Entered) → x ≡ entering.entered U e → length x.signature.entries ≡ length U.entries + 1
one-longer U e x is = ap (λ (y : Entered). length y.signature.entries) is ∙ length-append U.entries (e ∷ [])

checked-longer : (U : Signature) (raw : RawEntry) (left : ℕ) → EntryIs Any Any raw
    → Answers (λ (e : Entered). length e.signature.entries ≡ length U.entries + 1) (checked U raw left)
checked-longer U (RawFamilyOf raw) left h =
    weaker (EntersAsDeclared U raw) (λ (e : Entered). length e.signature.entries ≡ length U.entries + 1) (entering.declare_of U raw left).0
    (λ e is. one-longer U (FamilyOf is.0) e is.1) (declare-gives U raw left)
checked-longer U (RawEliminator n m) left h = absurd h
checked-longer U (RawAxiomK i m) left h = absurd h
checked-longer U (RawDefinition name type body) left h =
    weaker (λ (e : Entered). e ≡ entering.entered U (Definition name type body)) (λ (e : Entered). length e.signature.entries ≡ length U.entries + 1)
    (define_of U name type body left).0 (λ e is. one-longer U (Definition name type body) e is) (define-is U name type body left)

answered-longer : (told : FamilyStop → Refusal) (r : Result Entered FamilyStop) (P : Entered → Type 0) → IfOk r P → IfOk (answered told r) P
answered-longer told (Ok e) P h = h
answered-longer told (Err e) P h = tt

entries-longer : (U : Signature) (start fuel : ℕ) (raws : List RawEntry) (left : ℕ) → Each (EntryIs Any Any) raws
    → Answers (IsLonger (length U.entries + length raws)) (entries_entered U start fuel raws left)
unfolding IsLonger
entries-longer U start fuel [] left h = omega arith
entries-longer U start fuel (raw ∷ raws) left h =
    let P : Entered → Type 0 = λ e. length e.signature.entries ≡ length U.entries + 1 in
    and_next-has P (IsLonger (length U.entries + length (raw ∷ raws))) (enter_with U start fuel raw left) _
    (answered-longer (refused U start fuel raw) (checked U raw left).0 P (checked-longer U raw left h.0)) (λ e rest one.
    weaker (IsLonger (length e.signature.entries + length raws)) (IsLonger (length U.entries + length (raw ∷ raws)))
    (entries_entered e.signature start fuel raws rest).0 (λ V all. omega (arith, one, all)) (entries-longer e.signature start fuel raws rest h.1))

-- ---- inductions

-- an entry is a new one by these drafts, without clauses
abbrev IsNewBy : List Draft → Signature → Entry → Type 0
IsNewBy drafts B e = IsNewEntry B drafts [] e

all-allowed : (drafts : List Draft) → Allows (IsNewBy drafts)
all-allowed drafts = record {
  eliminator = λ V n m. eliminator n m;
  axiom_k = λ V i m. axiom_k i m;
  generated = λ V name g base d is made. generated name g base d is made;
}

-- the inductions over U, and that the entries of T behind those of U are new ones by them
record AddsInductions (U : Signature) (packed : Packed) (T : Signature) : Type 0 where
  drafts : List Draft
  made : inductions_of U packed ≡ Ok drafts
  adds : Adds (IsNewBy drafts) U T

module _ (K : Signature → Entry → Type 0) (allows : Allows K) where
  draft-in-adds : (U : Signature) (name : List ℕ) (d : Draft) (left : ℕ) → ((V : Signature) → K V (drafted_entry V d)) → Answers (Adds K U) (draft_in U name d left)
  draft-in-adds U name d left kind = by (unmarked U)
    where
      by : (free : Bool) → Answers (Adds K U) (cond free (checked_entered U name d left) (deep left))
      by true = checked-adds K allows U name d left kind
      by false = tt

  drafts-add : (U : Signature) (fuel : ℕ) (name : List ℕ) (drafts : List Draft) (left : ℕ) → AreOfKind K drafts
      → Answers (Adds K U) (drafts_entered draft_in U fuel name drafts left)
  drafts-add U fuel name [] left kinds = nothing
  drafts-add U fuel name (d ∷ drafts) left kinds =
      let entered = draft_in U name d left in
      and_next-has (Adds K U) (Adds K U) (refused_with (refused_function fuel) entered) _
      (as-refused (Adds K U) (refused_function fuel) entered.0 (draft-in-adds U name d left (λ V. kinds d (at-first drafts d d refl) V))) (λ T rest g.
      weaker (Adds K T) (Adds K U) (drafts_entered draft_in T fuel name drafts rest).0 (λ V k. adds-on g k)
      (drafts-add T fuel name drafts rest (λ x has V. kinds x (behind drafts x d has) V)))

inductions-add : (U : Signature) (fuel : ℕ) (name : List ℕ) (packed : Packed) (left : ℕ)
    → Answers (AddsInductions U packed) (inductions_entered draft_in U fuel name packed left)
inductions-add U fuel name packed left =
    let r = inductions_of U packed in
    and_next-has (λ drafts. r ≡ Ok drafts) (AddsInductions U packed) (answers (or_refused (stopped fuel) r) left) _
    (as-refused (λ drafts. r ≡ Ok drafts) (stopped fuel) r (same-answer r)) (λ drafts rest is.
    weaker (Adds (IsNewBy drafts) U) (AddsInductions U packed) (drafts_entered draft_in U fuel name drafts rest).0 (λ T g. record { drafts = drafts; made = is; adds = g })
    (drafts-add (IsNewBy drafts) (all-allowed drafts) U fuel name drafts rest (λ d has V. drafted d has)))

-- ---- two fronts of one signature

same-front : {A : Type 0} (xs ys zs ws : List A) → length xs ≡ length zs → xs ++ ys ≡ zs ++ ws → xs ≡ zs
same-front [] ys [] ws long e = refl
same-front [] ys (z ∷ zs) ws long e = absurd (omega (arith, long))
same-front (x ∷ xs) ys [] ws long e = absurd (omega (arith, long))
same-front (x ∷ xs) ys (z ∷ zs) ws long e =
    let one : x ≡ z = cc in
    let rest : xs ++ ys ≡ zs ++ ws = cc in
    ap₂ (λ a others. a ∷ others) one (same-front xs ys zs ws (omega (arith, long)) rest)

adds-prefix : {K : Signature → Entry → Type 0} (S T : Signature) → Adds K S T → IsPrefix S T
adds-prefix S _ nothing = prefix_reflexive S
adds-prefix S _ (one_more T e h plain kind) = prefix_transitive S T _ (adds-prefix S T h) (push_is_longer T e)

same-signature : (B U T : Signature) → IsPrefix B T → IsPrefix U T → length B.entries ≡ length U.entries → U ≡ B
same-signature B U T b u long =
    ap₂ (λ es k. record { entries = es; has_k = k })
    (same-front U.entries u.more B.entries b.more (sym long) (sym u.entries ∙ b.entries)) (sym u.has_k ∙ b.has_k)

-- ---- the declaration

of-names : (r : Result MutualRaw ResolveStop) (raw : MutualRaw) → or_unresolved r ≡ Ok raw → r ≡ Ok raw
of-names (Ok other) raw e = cc
of-names (Err stop) raw e = absurd cc

module _ (s : Session) (params : List surf.Typed) (members : List surf.Member) (family tag : Word) (tags : List Word) where
  d : surf.Decl
  d = surf.Mutual params members family tag tags

  accepted : MutualRaw → Signature → Elaborated
  accepted raw T = record (with_lines (accepted_as (declared_word d).text T) []) { equations = mutual_lines raw.members }

  new-behind : (raw : MutualRaw) → resolve_mutual s.signature d ≡ Ok raw → (packed : Packed) → pack (length s.signature.entries) raw ≡ Ok packed → (U T : Signature)
      → length U.entries ≡ length s.signature.entries + length (packed_entries packed) → AddsInductions U packed T → HasNewMutual s d (accepted raw T)
  unfolding d accepted
  new-behind raw resolved packed is U T long add w n e low at =
      let S = s.signature in
      let raws : w.given ≡ raw = ok-is (sym w.resolved ∙ resolved) in
      let all : w.packed ≡ packed = ok-is (sym w.is ∙ ap (pack (length S.entries)) raws ∙ is) in
      let count : length packed.members ≡ length w.packed.members = ap (λ (p : Packed). length p.members) (sym all) in
      let shown : length (map (entry_shown 0) packed.members) ≡ length packed.members = length-map packed.members (entry_shown 0) in
      let whole : length w.before.entries ≡ length S.entries + 2 + length w.packed.members =
      ap length w.entered.entries ∙ length-append S.entries (FamilyOf w.entered.tag ∷ FamilyOf w.entered.family ∷ w.packed.members) ∙ omega arith in
      let same : U ≡ w.before = same-signature w.before U T w.longer (adds-prefix U T add.adds) (omega (arith, whole, long, count, shown)) in
      let drafts : add.drafts ≡ w.drafts = ok-is (sym add.made ∙ ap₂ inductions_of same (sym all) ∙ w.drafted) in
      added-kind U T (transport (λ ds. Adds (IsNewBy ds) U T) drafts add.adds) n e (omega (arith, low, long, count, shown)) at

  entered-new : (raw : MutualRaw) → resolve_mutual s.signature d ≡ Ok raw
      → Answers (λ T. HasNewMutual s d (accepted raw T)) (enter_mutual draft_in s.signature s.fuel (declared_word d) raw s.fuel)
  unfolding IsLonger
  entered-new raw resolved =
      let S = s.signature in
      let x = declared_word d in
      let P : Signature → Type 0 = λ T. HasNewMutual s d (accepted raw T) in
      let checked = parameters_checked S s.fuel x [] raw.parameters s.fuel in
      let made = pack (length S.entries) raw in
      and_next-has Any P checked _ (any checked.0) (λ all rest u.
      and_next-has (λ packed. made ≡ Ok packed) P (answers (or_refused (unpacked raw) made) rest) _
      (as-refused (λ packed. made ≡ Ok packed) (unpacked raw) made (same-answer made)) (λ packed others is.
      let at : IsPackedAt S raw packed = transport (λ r. IfOk r (IsPackedAt S raw)) is (split-parts (IsPackedAt S raw) IsForeseenPacking made (packs S raw)).0 in
      let each = transport (λ (p : Packed). Each (EntryIs Any Any) (packed_entries p)) (sym at.1) (entries-are Any Any tt S raw (any-names raw) tt at.0) in
      let entries = entries_entered S x.start s.fuel (packed_entries packed) others in
      and_next-has (IsLonger (length S.entries + length (packed_entries packed))) P entries _ (entries-longer S x.start s.fuel (packed_entries packed) others each) (λ U more long.
      let inductions = inductions_entered draft_in U s.fuel x.text packed more in
      and_next-has (AddsInductions U packed) P inductions _ (inductions-add U s.fuel x.text packed more) (λ T few add.
      let equal = equations_checked T s.fuel packed 0 raw.members few in
      and_next-has Any P equal _ (any equal.0) (λ one end v. new-behind raw resolved packed is U T (is-long U long) add)))))
    where
      is-long : {n : ℕ} (U : Signature) → IsLonger n U → length U.entries ≡ n
      is-long U h = h

  pub mutual-entries : IfOk (declared_in s (surf.Mutual params members family tag tags)) (HasNewMutual s (surf.Mutual params members family tag tags))
  unfolding d accepted
  mutual-entries =
      let S = s.signature in
      and_then-is (HasNewMutual s d) (or_unresolved (resolve_mutual S d)) _ (λ raw is.
      by raw (enter_mutual draft_in S s.fuel (declared_word d) raw s.fuel).0 (entered-new raw (of-names (resolve_mutual S d) raw is)))
    where
      by : (raw : MutualRaw) (r : Result Signature Refusal) → IfOk r (λ T. HasNewMutual s d (accepted raw T)) → IfOk (accepted_mutual (declared_word d) raw r) (HasNewMutual s d)
      by raw (Ok T) h = h
      by raw (Err e) h = tt
