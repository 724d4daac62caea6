-- The entries of families that refer to each other are accepted one by one.
use Rattle.std.proofs.Common.{ℕ, ◌+◌, ◌≤◌, Bool, true, false, cond, List, [], length, Some, Result, Ok, Err, IfOk, IfErr, arith}
use Rattle.theory.specs.Telescopes.{Telescope, context_behind}
use Rattle.theory.specs.Terms.{Term}
use Rattle.theory.specs.Signatures.{Signature}
use Rattle.core_terms.specs.declared.stop.Stop.{Stop}
use Rattle.core_terms.proofs.Answers.{Splits, split-parts}
use Rattle.core_sig.specs.Drafts.{Draft, drafted}
use Rattle.core_sig.specs.Raw.{MutualRaw}
use Rattle.core_text.specs.RawEntries.{RawEntry, RawFamilyOf, RawEliminator, RawAxiomK, RawDefinition}
use Rattle.clause_reports.proofs.Keeping.{Any}
use Rattle.clause_reports.specs.DraftEntering.{enter_draft_of}
use Rattle.clause_reports.specs.elaboration.Refusals as function
use Rattle.clause_reports.specs.elaboration.Refusals.{owner_of, reporting}
use Rattle.drafts.specs.draft_checks.Checks.{unmarked}
use Rattle.family_check.specs.Asking.{sort_in}
use Rattle.family_check.specs.Entering.{Entered}
use Rattle.family_check.specs.Outcomes.{FamilyStop, OfParameter, Site}
use Rattle.family_check.proofs.Spending.{declare-spends}
use Rattle.kernel_check.proofs.Spending.{infer_sort-spends}
use Rattle.kernel_reduce.specs.Comparison.{convertible_of}
use Rattle.kernel_reduce.specs.Reduction.{nesting}
use Rattle.surface_syntax.specs.Trees as surf
use Rattle.surface_syntax.specs.declared.tree.Word.{Word}
use Rattle.resolve.specs.DeclaredNames.{first_name}
use Rattle.resolve.specs.Mutual.{mutual_family}
use Rattle.resolve.specs.declared.stop.ResolveStop.{ResolveStop}
use Rattle.elab_session.specs.Entering.{answered, checked, refused}
use Rattle.elab_session.specs.Refusals.{unentered}
use Rattle.elab_session.specs.declared.refusal.Refusal.{Refusal}
use Rattle.function_session.specs.Elaborating.{Elaborated}
use Rattle.function_session.specs.function_lines.Opened.{checked_entered, deep, draft_in}
use Rattle.function_session.specs.mutual_families.Declaring.{declare_mutual}
use Rattle.function_session.specs.mutual_families.EquationLines.{equation_of}
use Rattle.function_session.specs.mutual_families.Refusals.{or_refused}
use Rattle.mutual_pack.specs.Inductions.{induction_name}
use Rattle.elim.specs.refusal_laws.accepted_laws.Checked.{Checked, unchanged}
use Rattle.elim.proofs.elim_program.MutualPhases.{Comes, Phases, mutual-comes}
use Rattle.elim.proofs.elim_program.PackedOutcomes.{EntryIs, NamesAre, any-names, drafts-are, entries-are}
use Rattle.elim.proofs.refusal_laws.accepted_laws.Drafts.{draft-within}
use Rattle.elim.proofs.refusal_laws.accepted_laws.Families.{family-checked}
use Rattle.elim.proofs.refusal_laws.accepted_laws.Functions.{reporting-within}
use Rattle.elim.proofs.refusal_laws.accepted_laws.Steps.{CheckedTo, Within, below, checked-on, define-checked, within-next}

-- ---- phases that add nothing

names-any : (r : Result MutualRaw ResolveStop) → Splits (NamesAre Any) Any r
names-any (Ok raw) = any-names raw
names-any (Err e) = tt

induction-any : (member : List ℕ) → Any member → (base : ℕ) (names : List (List ℕ)) (type term : Term)
    → Splits Any Any (drafted (induction_name member) base names type term)
induction-any member h base names type term = by (drafted (induction_name member) base names type term)
  where
    by : (r : Result Draft Stop) → Splits Any Any r
    by (Ok d) = tt
    by (Err e) = tt

err-any : {A : Type 0} (r : Result A Stop) → IfErr r Any
err-any (Ok a) = tt
err-any (Err e) = tt

sort-spends : (S : Signature) (site : Site) (G : Telescope) (a : Term) (left : ℕ) → (sort_in S site G a left).1 ≤ left
unfolding sort_in
sort-spends S site G a left = infer_sort-spends S nesting G a left

-- ---- phases

module _ (fuel : ℕ) (S : Signature) where
  -- entries that are accepted one by one have come after those of S, and no more units are left than there were
  abbrev IsAt : Signature → ℕ → Type 0
  IsAt U left = Checked fuel S U × (left ≤ fuel)

  parameter-at : (refusal : FamilyStop → Refusal) (r : Result Term FamilyStop) (rest : ℕ) → Checked fuel S S → rest ≤ fuel
      → Comes (λ (sort : Term) rest. IsAt S rest) Any (or_refused refusal r) rest
  parameter-at refusal (Ok sort) rest h le = (h, le)
  parameter-at refusal (Err e) rest h le = tt

  checked-within : (U : Signature) (raw : RawEntry) (left : ℕ) → left ≤ fuel → EntryIs Any Any raw → Within fuel (CheckedTo fuel U) (checked U raw left)
  checked-within U (RawFamilyOf raw) left le h = (family-checked U raw left fuel le, below _ left fuel (declare-spends U raw left) le)
  checked-within U (RawEliminator n m) left le h = absurd h
  checked-within U (RawAxiomK i m) left le h = absurd h
  checked-within U (RawDefinition name type body) left le h = define-checked U name type body left fuel le

  entry-at : (U : Signature) → Checked fuel S U → (refusal : FamilyStop → Refusal) (r : Result Entered FamilyStop) (rest : ℕ) → Within fuel (CheckedTo fuel U) (r, rest)
      → Comes (λ (e : Entered) rest. IsAt e.signature rest) Any (answered refusal r) rest
  entry-at U h refusal (Ok e) rest k = (checked-on h k.0, k.1)
  entry-at U h refusal (Err e) rest k = tt

  checked-draft-within : (U : Signature) (name : List ℕ) (d : Draft) (left : ℕ) → left ≤ fuel → Within fuel (Checked fuel U) (checked_entered U name d left)
  checked-draft-within U name d left le =
      let outcome = enter_draft_of U d left in
      within-next fuel (CheckedTo fuel U) (Checked fuel U) (reporting U (owner_of name 0) outcome) _
      (reporting-within fuel (CheckedTo fuel U) U (owner_of name 0) outcome (draft-within fuel U d left le)) (λ e rest less g. (g, less))

  draft-in-within : (U : Signature) (name : List ℕ) (d : Draft) (left : ℕ) → left ≤ fuel → Within fuel (Checked fuel U) (draft_in U name d left)
  draft-in-within U name d left le = by (unmarked U)
    where
      by : (free : Bool) → Within fuel (Checked fuel U) (cond free (checked_entered U name d left) (deep left))
      by true = checked-draft-within U name d left le
      by false = (tt, le)

  draft-at : (U : Signature) → Checked fuel S U → (r : Result Signature function.Refusal) (rest : ℕ) → Within fuel (Checked fuel U) (r, rest)
      → Comes IsAt Any r rest
  draft-at U h (Ok T) rest k = (checked-on h k.0, k.1)
  draft-at U h (Err e) rest k = tt

  module _ (params : List surf.Typed) (members : List surf.Member) (f tag : Word) (tags : List Word) where
    phases : Phases draft_in S fuel (surf.Mutual params members f tag tags) IsAt Any (NamesAre Any) (EntryIs Any Any) Any Any
    phases =
        let x = first_name members f in
        record {
          start = (unchanged, omega arith);
          names = names-any (mutual_family S params members f tag tags);
          named = λ raw given. given.members;
          parameter = λ before a left i.
              (let site = OfParameter (length before + 1) in
              let G = context_behind [] before in
              let sort = sort_in S site G a left in
              parameter-at (unentered (λ other. S) [] (Some x) fuel) sort.0 sort.1 i.0 (below sort.1 left fuel (sort-spends S site G a left) i.1));
          unpacks = λ raw given e is. tt;
          entered = λ raw given l. entries-are Any Any tt S raw given tt l;
          entry = λ U raw left i h.
              (let outcome = checked U raw left in
              entry-at U i.0 (refused U x.start fuel raw) outcome.0 outcome.1 (checked-within U raw left i.1 h));
          inductions = λ raw given l U. drafts-are Any Any Any tt induction-any S raw given l U;
          draft = λ U one left i k.
              (let outcome = draft_in U x.text one left in draft-at U i.0 outcome.0 outcome.1 (draft-in-within U x.text one left i.1));
          equation = λ T packed k con. err-any (equation_of T packed k con);
          converts = λ T left right units. err-any (convertible_of T nesting left right units).0;
          unequal = λ T left i member con hm hc packed k number units sides is same. tt;
        }

    pub mutual-checked : IfOk (declare_mutual draft_in S fuel (surf.Mutual params members f tag tags)) (λ (a : Elaborated). Checked fuel S a.signature)
    mutual-checked =
        let d = surf.Mutual params members f tag tags in
        let P : Elaborated → Type 0 = λ a. Checked fuel S a.signature in
        (split-parts P Any (declare_mutual draft_in S fuel d)
        (mutual-comes draft_in S fuel d IsAt Any (NamesAre Any) (EntryIs Any Any) Any Any phases P (λ raw T left given i. i.0))).0
