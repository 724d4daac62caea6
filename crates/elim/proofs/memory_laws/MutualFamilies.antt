-- Families that refer to each other.
use Rattle.std.proofs.Common.{ℕ, ◌+◌, Option, Some, None, List, [], length, Result, Ok, Err, IfErr}
use Rattle.theory.specs.Families.{Family}
use Rattle.theory.specs.Telescopes.{Telescope, context_behind}
use Rattle.theory.specs.Terms.{Term}
use Rattle.theory.specs.Signatures.{Signature}
use Rattle.core_terms.specs.declared.stop.Stop.{Stop}
use Rattle.core_terms.proofs.Answers.{Splits, split-parts}
use Rattle.core_sig.specs.Drafts.{Draft, drafted}
use Rattle.core_sig.specs.Raw.{MutualRaw}
use Rattle.core_text.specs.RawEntries.{RawEntry, RawFamilyOf, RawEliminator, RawAxiomK, RawDefinition}
use Rattle.clause_reports.proofs.Keeping.{Any}
use Rattle.clause_reports.specs.elaboration.Refusals as function
use Rattle.family_check.specs.Asking.{sort_in}
use Rattle.family_check.specs.Entering.{Entered}
use Rattle.family_check.specs.Outcomes.{FamilyStop, OfParameter}
use Rattle.kernel_reduce.specs.Comparison.{convertible_of}
use Rattle.kernel_reduce.specs.Entries.{family_at}
use Rattle.kernel_reduce.specs.Reduction.{nesting}
use Rattle.surface_syntax.specs.Trees as surf
use Rattle.surface_syntax.specs.declared.tree.Word.{Word}
use Rattle.surface_syntax.specs.word_laws.Words.{Each}
use Rattle.resolve.specs.DeclaredNames.{first_name}
use Rattle.resolve.specs.Mutual.{mutual_family}
use Rattle.resolve.specs.declared.stop.ResolveStop.{ResolveStop}
use Rattle.elab_session.specs.Entering.{enter_with}
use Rattle.elab_session.specs.Refusals.{stopped, unentered, unresolved}
use Rattle.elab_session.specs.declared.refusal.Refusal.{Refusal}
use Rattle.function_session.specs.Refusals.{refused_function}
use Rattle.function_session.specs.function_lines.Opened.{draft_in}
use Rattle.function_session.specs.mutual_families.Declaring.{declare_mutual}
use Rattle.function_session.specs.mutual_families.Entering.{inductions_of}
use Rattle.function_session.specs.mutual_families.EquationLines.{equation_of, equation_over}
use Rattle.function_session.specs.mutual_families.Refusals.{or_refused, unpacked}
use Rattle.mutual_pack.specs.Equations.{bounded_sides}
use Rattle.mutual_pack.specs.Inductions.{induction_name, packed_number}
use Rattle.mutual_pack.specs.MutualFamilies.{Packed}
use Rattle.mutual_pack.specs.declared.stop.MutualStop.{MutualStop}
use Rattle.mutual_pack.specs.declared.stop.MutualStop.TheVariants as stop
use Rattle.elim.specs.memory_laws.Foreseen.{IsForeseen, IsForeseenEntry, IsForeseenFunction, IsForeseenName}
use Rattle.elim.proofs.elim_program.MutualPhases.{Comes, Phases, mutual-comes}
use Rattle.elim.proofs.elim_program.PackedOutcomes.{EntryIs, IsForeseenPacking, NamesAre, any-names, drafts-are, entries-are, packed_at, packing-foreseen}
use Rattle.elim.proofs.memory_laws.Declared.{IsForeseenRefusal, IsNamed, named-enters, of-entry, of-name, of-stop}
use Rattle.elim.proofs.memory_laws.Drafts.{drafted-low}
use Rattle.elim.proofs.memory_laws.Families.{is-sort}
use Rattle.elim.proofs.memory_laws.Functions.{draft-opened, refused}
use Rattle.elim.proofs.memory_laws.Kernel.{convertible}
use Rattle.elim.proofs.memory_laws.Names.{mutual-families}
use Rattle.elim.proofs.memory_laws.Runs.{Only, deep, either, ok}

-- ---- refusals

of-packing : (raw : MutualRaw) (e : MutualStop) → IsForeseenPacking e → IsForeseenRefusal (unpacked raw e)
of-packing raw stop.Memory h = h
of-packing raw stop.Deep h = tt
of-packing raw stop.TagCount h = tt
of-packing raw (stop.MemberLevel k) h = tt
of-packing raw (stop.NotPositive n k) h = tt

as-stop : {A : Type 0} (fuel : ℕ) (r : Result A Stop) → Only IsForeseen r → IfErr r (λ e. IsForeseenRefusal (stopped fuel e))
as-stop fuel (Ok a) h = tt
as-stop fuel (Err e) h = of-stop fuel e h.is

as-names : (r : Result MutualRaw ResolveStop) → Only IsForeseenName r → Splits (NamesAre Any) (λ e. IsForeseenRefusal (unresolved e)) r
as-names (Ok raw) h = any-names raw
as-names (Err e) h = of-name e h.is

as-parameter : (S : Signature) (fuel : ℕ) (x : Word) (r : Result Term FamilyStop) (left : ℕ) → Only IsForeseenEntry r
    → Comes (λ (sort : Term) rest. Unit {0}) IsForeseenRefusal (or_refused (unentered (λ site. S) [] (Some x) fuel) r) left
as-parameter S fuel x (Ok sort) left h = tt
as-parameter S fuel x (Err e) left h = of-entry (λ site. S) [] x fuel e h.is

as-entry : (r : Result Entered Refusal) (left : ℕ) → Only IsForeseenRefusal r → Comes (λ (e : Entered) rest. Unit {0}) IsForeseenRefusal r left
as-entry (Ok e) left h = tt
as-entry (Err e) left h = h.is

as-draft : (fuel : ℕ) (r : Result Signature function.Refusal) (left : ℕ) → Only IsForeseenFunction r
    → Comes (λ (T : Signature) rest. Unit {0}) (λ e. IsForeseenRefusal (refused_function fuel e)) r left
as-draft fuel (Ok T) left h = tt
as-draft fuel (Err e) left h = refused fuel e h.is

-- ---- phases

named-of : (raw : RawEntry) → EntryIs Any Any raw → IsNamed raw
named-of (RawFamilyOf raw) h = tt
named-of (RawDefinition name type body) h = tt
named-of (RawEliminator n m) h = absurd h
named-of (RawAxiomK i m) h = absurd h

an-induction : (member : List ℕ) → Any member → (base : ℕ) (names : List (List ℕ)) (type term : Term)
    → Splits Any IsForeseen (drafted (induction_name member) base names type term)
an-induction member h base names type term = by (drafted (induction_name member) base names type term) (drafted-low (induction_name member) base names type term)
  where
    by : (r : Result Draft Stop) → Only IsForeseen r → Splits Any IsForeseen r
    by (Ok d) k = tt
    by (Err e) k = k.is

inductions : (fuel : ℕ) (r : Result (List Draft) Stop) → Splits (Each Any) IsForeseen r → Splits (Each Any) (λ e. IsForeseenRefusal (stopped fuel e)) r
inductions fuel (Ok drafts) h = h
inductions fuel (Err e) h = of-stop fuel e h

an-equation : (T : Signature) (packed : Packed) (k con : ℕ) → Only IsForeseen (equation_of T packed k con)
an-equation T packed k con = by (family_at T (packed_number packed))
  where
    sides : (tele : Telescope) (left right : Term) → Only IsForeseen (bounded_sides tele left right)
    sides tele left right = either _ ok deep

    by : (o : Option Family) → Only IsForeseen (equation_over T packed o k con)
    by (Some f) = search sides
    by None = deep

module _ (S : Signature) (fuel : ℕ) (params : List surf.Typed) (members : List surf.Member) (f tag : Word) (tags : List Word) where
  phases : Phases draft_in S fuel (surf.Mutual params members f tag tags) (λ U left. Unit {0}) IsForeseenRefusal (NamesAre Any) (EntryIs Any Any) Any Any
  phases =
      let x = first_name members f in
      record {
        start = tt;
        names = as-names (mutual_family S params members f tag tags) (mutual-families S params members f tag tags);
        named = λ raw given. given.members;
        parameter = λ before a left i.
            (let sort = sort_in S (OfParameter (length before + 1)) (context_behind [] before) a left in
            as-parameter S fuel x sort.0 sort.1 (is-sort S (OfParameter (length before + 1)) (context_behind [] before) a left).only);
        unpacks = λ raw given e is. of-packing raw e (packing-foreseen S raw e is);
        entered = λ raw given l. entries-are Any Any tt S raw given tt l;
        entry = λ U raw left i h.
            (let entered = enter_with U x.start fuel raw left in as-entry entered.0 entered.1 (named-enters U x.start fuel raw left (named-of raw h)).only);
        inductions = λ raw given l U. inductions fuel (inductions_of U (packed_at S raw l)) (drafts-are Any Any IsForeseen tt an-induction S raw given l U);
        draft = λ U one left i k.
            (let entered = draft_in U x.text one left in as-draft fuel entered.0 entered.1 (draft-opened U x.text one left).only);
        equation = λ T packed k con. as-stop fuel (equation_of T packed k con) (an-equation T packed k con);
        converts = λ T left right units. as-stop fuel (convertible_of T nesting left right units).0 (convertible T nesting left right units).only;
        unequal = λ T left i member con hm hc packed k number units sides is same. tt;
      }

  pub mutual-foreseen : Only IsForeseenRefusal (declare_mutual draft_in S fuel (surf.Mutual params members f tag tags))
  mutual-foreseen = record {
    is = (split-parts Any IsForeseenRefusal (declare_mutual draft_in S fuel (surf.Mutual params members f tag tags))
        (mutual-comes draft_in S fuel (surf.Mutual params members f tag tags) (λ U left. Unit {0}) IsForeseenRefusal (NamesAre Any) (EntryIs Any Any) Any Any phases Any
        (λ raw T left given i. tt))).1;
  }
