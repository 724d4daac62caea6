-- Facts about accepted families that refer to each other, and about their refusals, from facts about each phase.
use Rattle.std.proofs.Common.{◌≡◌, ℕ, ◌+◌, Bool, true, false, List, [], ◌∷◌, ◌++◌, length, Result, Ok, Err, IfErr, refl, sym, subst}
use Rattle.theory.specs.Terms.{Term}
use Rattle.theory.specs.Telescopes.{Telescope}
use Rattle.theory.specs.Signatures.{Signature}
use Rattle.core_terms.specs.Answers.{SpentOr, and_next, and_then, on_answer}
use Rattle.core_terms.specs.declared.stop.Stop.{Stop}
use Rattle.core_terms.proofs.Answers.{Splits}
use Rattle.core_sig.specs.Drafts.{Draft}
use Rattle.core_sig.specs.Raw.{MutualRaw, RawConstructor, RawMember}
use Rattle.core_text.specs.RawEntries.{RawEntry}
use Rattle.kernel_reduce.specs.Comparison.{convertible_of}
use Rattle.kernel_reduce.specs.Reduction.{nesting}
use Rattle.surface_syntax.specs.Trees as surf
use Rattle.resolve.specs.DeclaredNames.{declared_word}
use Rattle.resolve.specs.Mutual.{resolve_mutual}
use Rattle.resolve.specs.declared.stop.ResolveStop.{ResolveStop}
use Rattle.elab_session.specs.Declaring.{accepted_as, or_unresolved}
use Rattle.elab_session.specs.Entering.{enter_with}
use Rattle.elab_session.specs.Refusals.{stopped, unresolved}
use Rattle.elab_session.specs.declared.refusal.Refusal.{Refusal}
use Rattle.function_session.specs.Elaborating.{Elaborated, with_lines}
use Rattle.function_session.specs.Refusals.{refused_function}
use Rattle.function_session.specs.mutual_families.Declaring.{accepted_mutual, declare_mutual, enter_mutual, enter_packed}
use Rattle.function_session.specs.mutual_families.Entering.{EntersDraft, drafts_entered, entries_entered, inductions_entered, inductions_of, packed_entries, parameter_checked, parameters_checked}
use Rattle.function_session.specs.mutual_families.EquationLines.{constructors_checked, equation_checked, equation_of, equations_checked, mutual_lines, unless_unequal}
use Rattle.function_session.specs.mutual_families.Refusals.{or_refused, refused_with, unequal, unpacked}
use Rattle.mutual_pack.specs.MutualFamilies.{Packed}
use Rattle.mutual_pack.specs.Packing.{pack}
use Rattle.mutual_pack.specs.declared.stop.MutualStop.{MutualStop}
use Rattle.elim.proofs.elim_program.PackedOutcomes.{IsForeseenPacking, IsPackedAt, packed_at, packs}
use Rattle.surface_syntax.specs.word_laws.Words.{Each}

-- ---- answers with the units that are left

-- the answer has P with these units, and the refusal has N
abbrev pub Comes : {A E : Type 0} → (A → ℕ → Type 0) → (E → Type 0) → Result A E → ℕ → Type 0
Comes P N (Ok a) left = P a left
Comes P N (Err e) left = N e

abbrev pub Runs : {A E : Type 0} → (A → ℕ → Type 0) → (E → Type 0) → SpentOr E A → Type 0
Runs P N r = Comes P N r.0 r.1

goes-on : {A B E : Type 0} (P : A → ℕ → Type 0) (Q : B → ℕ → Type 0) (N : E → Type 0) (first : SpentOr E A) (go : A → ℕ → SpentOr E B)
    → Runs P N first → ((a : A) (rest : ℕ) → P a rest → Runs Q N (go a rest)) → Runs Q N (and_next first go)
goes-on {A} {B} {E} P Q N first go h k = on first.0 first.1 h
  where
    on : (r : Result A E) (left : ℕ) → Comes P N r left → Runs Q N (on_answer r left go)
    on (Ok a) left p = k a left p
    on (Err e) left n = n

-- a refusal of another call, as a refusal of the declaration
as-refused : {A E : Type 0} (P : A → ℕ → Type 0) (N : Refusal → Type 0) (refusal : E → Refusal) (r : Result A E) (left : ℕ)
    → Comes P (λ e. N (refusal e)) r left → Comes P N (or_refused refusal r) left
as-refused P N refusal (Ok a) left h = h
as-refused P N refusal (Err e) left h = h

-- an answer, with all units that were left before it
given-on : {A B E : Type 0} (Q : A → Type 0) (P : B → ℕ → Type 0) (N : E → Type 0) (r : Result A E) (left : ℕ) (go : A → ℕ → SpentOr E B)
    → Splits Q N r → ((a : A) → Q a → Runs P N (go a left)) → Runs P N (on_answer r left go)
given-on Q P N (Ok a) left go h k = k a h
given-on Q P N (Err e) left go h k = h

split-refused : {A E : Type 0} (Q : A → Type 0) (N : Refusal → Type 0) (refusal : E → Refusal) (r : Result A E) → Splits Q (λ e. N (refusal e)) r
    → Splits Q N (or_refused refusal r)
split-refused Q N refusal (Ok a) h = h
split-refused Q N refusal (Err e) h = h

-- the answer is the one that there is
split-same : {A E : Type 0} (N : E → Type 0) (r : Result A E) → IfErr r N → Splits (λ a. r ≡ Ok a) N r
split-same N (Ok a) h = refl
split-same N (Err e) h = h

come-same : {A E : Type 0} (N : E → Type 0) (r : Result A E) (left : ℕ) → IfErr r N → Comes (λ a rest. r ≡ Ok a) N r left
come-same N (Ok a) left h = refl
come-same N (Err e) left h = h

-- each refusal that there is has N
with-stop : {A E : Type 0} (Q : A → Type 0) (M N : E → Type 0) (r : Result A E) → ((e : E) → r ≡ Err e → N e) → Splits Q M r → Splits Q N r
with-stop Q M N (Ok a) k h = h
with-stop Q M N (Err e) k h = k e refl

-- ---- phases

-- The phases of a declaration keep I, a property of the signature and of the units that are left, and their refusals have N. What is
-- resolved is `Given`, the packed entries are `Entered`, the inductions `Drafted`, and the names in equations `Named`.
pub record Phases (enter : EntersDraft) (S : Signature) (fuel : ℕ) (d : surf.Decl) (I : Signature → ℕ → Type 0) (N : Refusal → Type 0)
    (Given : MutualRaw → Type 0) (Entered : RawEntry → Type 0) (Drafted : Draft → Type 0) (Named : List ℕ → Type 0) : Type 0 where
  pub start : I S fuel
  pub names : Splits Given (λ e. N (unresolved e)) (resolve_mutual S d)
  pub named : (raw : MutualRaw) → Given raw → Each (λ m. Named m.name × Each (λ c. Named c.name) m.constructors) raw.members
  pub parameter : (before : Telescope) (a : Term) (left : ℕ) → I S left → Runs (λ sort rest. I S rest) N (parameter_checked S fuel (declared_word d) before a left)
  pub unpacks : (raw : MutualRaw) → Given raw → (e : MutualStop) → pack (length S.entries) raw ≡ Err e → N (unpacked raw e)
  pub entered : (raw : MutualRaw) → Given raw → (l : ℕ) → Each Entered (packed_entries (packed_at S raw l))
  pub entry : (U : Signature) (raw : RawEntry) (left : ℕ) → I U left → Entered raw
      → Runs (λ e rest. I e.signature rest) N (enter_with U (declared_word d).start fuel raw left)
  pub inductions : (raw : MutualRaw) → Given raw → (l : ℕ) (U : Signature) → Splits (Each Drafted) (λ e. N (stopped fuel e)) (inductions_of U (packed_at S raw l))
  pub draft : (U : Signature) (one : Draft) (left : ℕ) → I U left → Drafted one → Runs I (λ e. N (refused_function fuel e)) (enter U (declared_word d).text one left)
  pub equation : (T : Signature) (packed : Packed) (k con : ℕ) → IfErr (equation_of T packed k con) (λ e. N (stopped fuel e))
  pub converts : (T : Signature) (left right : Term) (units : ℕ) → IfErr (convertible_of T nesting left right units).0 (λ e. N (stopped fuel e))
  pub unequal : (T : Signature) (left : ℕ) → I T left → (member con : List ℕ) → Named member → Named con → (packed : Packed) (k number units : ℕ)
      (sides : Telescope × Term × Term) → equation_of T packed k number ≡ Ok sides → (convertible_of T nesting sides.1 sides.2 units).0 ≡ Ok false
      → N (unequal T member con sides)

abbrev Always : {A : Type 0} → A → ℕ → Type 0
Always a left = Unit {0}

always : {A E : Type 0} (N : E → Type 0) (r : Result A E) (left : ℕ) → IfErr r N → Comes Always N r left
always N (Ok a) left h = tt
always N (Err e) left h = h

module _ (enter : EntersDraft) (S : Signature) (fuel : ℕ) (d : surf.Decl) (I : Signature → ℕ → Type 0) (N : Refusal → Type 0) (Given : MutualRaw → Type 0)
    (Entered : RawEntry → Type 0) (Drafted : Draft → Type 0) (Named : List ℕ → Type 0) (p : Phases enter S fuel d I N Given Entered Drafted Named) where
  parameters-come : (before parameters : Telescope) (left : ℕ) → I S left
      → Runs (λ all rest. I S rest) N (parameters_checked S fuel (declared_word d) before parameters left)
  parameters-come before [] left i = i
  parameters-come before (a ∷ parameters) left i =
      goes-on (λ sort rest. I S rest) (λ all rest. I S rest) N (parameter_checked S fuel (declared_word d) before a left) _ (p.parameter before a left i) (λ sort rest j.
      parameters-come (before ++ a ∷ []) parameters rest j)

  entries-come : (U : Signature) (raws : List RawEntry) (left : ℕ) → I U left → Each Entered raws → Runs I N (entries_entered U (declared_word d).start fuel raws left)
  entries-come U [] left i all = i
  entries-come U (raw ∷ raws) left i all =
      goes-on (λ e rest. I e.signature rest) I N (enter_with U (declared_word d).start fuel raw left) _ (p.entry U raw left i all.0) (λ e rest j.
      entries-come e.signature raws rest j all.1)

  drafts-come : (U : Signature) (drafts : List Draft) (left : ℕ) → I U left → Each Drafted drafts → Runs I N (drafts_entered enter U fuel (declared_word d).text drafts left)
  drafts-come U [] left i all = i
  drafts-come U (one ∷ drafts) left i all =
      let entered = enter U (declared_word d).text one left in
      goes-on I I N (refused_with (refused_function fuel) entered) _ (as-refused I N (refused_function fuel) entered.0 entered.1 (p.draft U one left i all.0)) (λ T rest j.
      drafts-come T drafts rest j all.1)

  inductions-come : (raw : MutualRaw) → Given raw → (l : ℕ) (U : Signature) (left : ℕ) → I U left
      → Runs I N (inductions_entered enter U fuel (declared_word d).text (packed_at S raw l) left)
  inductions-come raw given l U left i =
      let drafts = inductions_of U (packed_at S raw l) in
      given-on (Each Drafted) I N (or_refused (stopped fuel) drafts) left _ (split-refused (Each Drafted) N (stopped fuel) drafts (p.inductions raw given l U)) (λ drafts h.
      drafts-come U drafts left i h)

  unless-unequal : (T : Signature) (units : ℕ) → I T units → (member con : List ℕ) → Named member → Named con → (packed : Packed) (k number left : ℕ)
      (sides : Telescope × Term × Term) → equation_of T packed k number ≡ Ok sides → (equal : Bool)
      → (convertible_of T nesting sides.1 sides.2 left).0 ≡ Ok equal → IfErr (unless_unequal T member con sides equal) N
  unless-unequal T units i member con hm hc packed k number left sides is true same = tt
  unless-unequal T units i member con hm hc packed k number left sides is false same = p.unequal T units i member con hm hc packed k number left sides is same

  equation-comes : (T : Signature) (units : ℕ) → I T units → (packed : Packed) (k con : ℕ) (member name : List ℕ) → Named member → Named name → (left : ℕ)
      → Runs Always N (equation_checked T fuel packed k con member name left)
  equation-comes T units i packed k con member name hm hc left =
      let Is : Result (Telescope × Term × Term) Stop → Telescope × Term × Term → Type 0 = λ r sides. r ≡ Ok sides in
      let made = equation_of T packed k con in
      given-on (Is made) Always N (or_refused (stopped fuel) made) left _ (split-refused (Is made) N (stopped fuel) made (split-same (λ e. N (stopped fuel e)) made (p.equation T packed k con))) (λ sides is.
      let compared = convertible_of T nesting sides.1 sides.2 left in
      goes-on (λ equal rest. compared.0 ≡ Ok equal) Always N (refused_with (stopped fuel) compared) _
      (as-refused (λ equal rest. compared.0 ≡ Ok equal) N (stopped fuel) compared.0 compared.1
      (come-same (λ e. N (stopped fuel e)) compared.0 compared.1 (p.converts T sides.1 sides.2 left))) (λ equal end same.
      always N (unless_unequal T member name sides equal) end (unless-unequal T units i member name hm hc packed k con left sides is equal same)))

  constructors-come : (T : Signature) (units : ℕ) → I T units → (packed : Packed) (k con : ℕ) (member : List ℕ) (constructors : List RawConstructor) → Named member
      → Each (λ c. Named c.name) constructors → (left : ℕ) → Runs Always N (constructors_checked T fuel packed k con member constructors left)
  constructors-come T units i packed k con member [] hm all left = tt
  constructors-come T units i packed k con member (c ∷ constructors) hm all left =
      goes-on Always Always N (equation_checked T fuel packed k con member c.name left) _ (equation-comes T units i packed k con member c.name hm all.0 left) (λ one rest u.
      constructors-come T units i packed k (con + 1) member constructors hm all.1 rest)

  equations-come : (T : Signature) (units : ℕ) → I T units → (packed : Packed) (k : ℕ) (members : List RawMember)
      → Each (λ m. Named m.name × Each (λ c. Named c.name) m.constructors) members → (left : ℕ) → Runs Always N (equations_checked T fuel packed k members left)
  equations-come T units i packed k [] all left = tt
  equations-come T units i packed k (m ∷ members) all left =
      goes-on Always Always N (constructors_checked T fuel packed k 0 m.name m.constructors left) _
      (constructors-come T units i packed k 0 m.name m.constructors all.0.0 all.0.1 left) (λ one rest u.
      equations-come T units i packed (k + 1) members all.1 rest)

  packed-come : (raw : MutualRaw) → Given raw → (l : ℕ) (left : ℕ) → I S left
      → Runs (λ T rest. (units : ℕ) × I T units) N (enter_packed enter S fuel (declared_word d) raw (packed_at S raw l) left)
  packed-come raw given l left i =
      let packed = packed_at S raw l in
      let P : Signature → ℕ → Type 0 = λ T rest. (units : ℕ) × I T units in
      goes-on I P N (entries_entered S (declared_word d).start fuel (packed_entries packed) left) _ (entries-come S (packed_entries packed) left i (p.entered raw given l)) (λ U rest j.
      goes-on I P N (inductions_entered enter U fuel (declared_word d).text packed rest) _ (inductions-come raw given l U rest j) (λ T others k.
      goes-on Always P N (equations_checked T fuel packed 0 raw.members others) _ (equations-come T others k packed 0 raw.members (p.named raw given) others)
      (λ equal end u. (others, k))))

  given-comes : (raw : MutualRaw) → Given raw → Runs (λ T rest. (units : ℕ) × I T units) N (enter_mutual enter S fuel (declared_word d) raw fuel)
  given-comes raw given =
      goes-on (λ all rest. I S rest) (λ T rest. (units : ℕ) × I T units) N (parameters_checked S fuel (declared_word d) [] raw.parameters fuel) _
      (parameters-come [] raw.parameters fuel p.start) (λ all rest i.
      let packed = pack (length S.entries) raw in
      given-on (IsPackedAt S raw) (λ T rest. (units : ℕ) × I T units) N (or_refused (unpacked raw) packed) rest _
      (split-refused (IsPackedAt S raw) N (unpacked raw) packed (with-stop (IsPackedAt S raw) IsForeseenPacking (λ e. N (unpacked raw e)) packed (p.unpacks raw given) (packs S raw))) (λ q is.
      subst (λ q. Runs (λ T rest. (units : ℕ) × I T units) N (enter_packed enter S fuel (declared_word d) raw q rest)) (sym is.1) (packed-come raw given is.0 rest i)))

  -- an accepted declaration has P, where each that is accepted with such a signature has
  pub mutual-comes : (P : Elaborated → Type 0)
      → ((raw : MutualRaw) (T : Signature) (left : ℕ) → Given raw → I T left → P (record (with_lines (accepted_as (declared_word d).text T) []) { equations = mutual_lines raw.members }))
      → Splits P N (declare_mutual enter S fuel d)
  mutual-comes P h = by (resolve_mutual S d) p.names
    where
      accepted : (raw : MutualRaw) → Given raw → (r : Result Signature Refusal) (left : ℕ) → Comes (λ T rest. (units : ℕ) × I T units) N r left
          → Splits P N (accepted_mutual (declared_word d) raw r)
      accepted raw given (Ok T) left i = h raw T i.0 given i.1
      accepted raw given (Err e) left n = n

      by : (r : Result MutualRaw ResolveStop) → Splits Given (λ e. N (unresolved e)) r
          → Splits P N (and_then (or_unresolved r) (λ raw. accepted_mutual (declared_word d) raw (enter_mutual enter S fuel (declared_word d) raw fuel).0))
      by (Ok raw) given =
          let entered = enter_mutual enter S fuel (declared_word d) raw fuel in accepted raw given entered.0 entered.1 (given-comes raw given)
      by (Err e) n = n
