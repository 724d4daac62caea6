-- Laws of the entries of a function, however they are made.
use Rattle.std.specs.Prelude.{◌≡◌, ◌≢◌, ◌↔◌, ◌⊎◌, ◌<◌, ℕ, zero, suc, ◌+◌, Option, Some, None, Ok, IfOk, List, [], ◌∷◌, ◌++◌, length, map, slice_get, flat_map, All, AllPairs, Contains, Err}
use Rattle.std.specs.List.{Any}
use Rattle.theory.specs.Terms.{Term, Pi, Lam, App, Let, Const, Elim, AxiomK}
use Rattle.theory.specs.Telescopes.{Telescope}
use Rattle.theory.specs.Families.{Family}
use Rattle.theory.specs.Signatures.{Signature, Entry, FamilyOf, EliminatorAt, AxiomKAt, Definition, IsEntryAt}
use Rattle.theory.specs.SignatureScopes.{IsScoped}
use Rattle.core_terms.specs.CaseTrees.{Step}
use Rattle.core_terms.specs.declared.stop.Stop.{Stop}
use Rattle.core_terms.specs.declared.stop.Stop.TheVariants.{Deep}
use Rattle.core_sig.specs.Drafts.{Draft}
use Rattle.core_sig.specs.DraftScopes.{IsDraftTerm}
use Rattle.core_sig.specs.ScopedDrafts.{IsScopedDraft}
use Rattle.generators.specs.acyclic_gen.AcyclicEntries.{acyclic_name}
use Rattle.generators.specs.acyclic_gen.DirectEntries.{direct_name}
use Rattle.core_sig.specs.Names.{find}
use Rattle.unification.specs.States.{State, Equation, Problem}
use Rattle.unification.specs.Outcomes.{Solved}
use Rattle.unification.specs.ScopedStates.{IsReady, IsScopedProblem}
use Rattle.case_trees.specs.Points.{under_solution}
use Rattle.case_trees.specs.Standing.{Runs}
use Rattle.unification.specs.Laws.{Chain}
use Rattle.tree_translation.specs.Naming.{mentions, once, case_name, below_name, rec_name, noconf_name, left_name, motive_name, step_name, helper_name}
use Rattle.tree_translation.specs.Standings.{Standing, levels_from, problem_state}
use Rattle.tree_translation.specs.Hidden.{widened, widened_behind}
use Rattle.tree_translation.specs.Replays.{behind_run}
use Rattle.tree_translation.specs.Splits.{Node, split_term}
use Rattle.tree_translation.specs.Plans.{Plan}
use Rattle.tree_translation.specs.Recursion.{Recursion, recursion_of}
use Rattle.tree_translation.specs.Entries.{translate, helper_count}
use Rattle.tree_translation.specs.Needed.{needed, entry_terms, eliminator_name, axiom_k_name}
use Rattle.tree_translation.specs.Conditions.{IsPlanned, IsSeen, IsSplitGiven}

-- ---- the entries

abbrev pub name_in : Entry → List ℕ
name_in (Definition name type body) = name
name_in _ = []

abbrev pub name_of : Draft → List ℕ
name_of d = name_in d.entry

abbrev pub OfDrafts : (Signature → Plan → List Draft → Type 0) → Type 0
OfDrafts Holds = (S : Signature) (plan : Plan) (drafts : List Draft) → IsPlanned S plan → translate S plan ≡ Ok drafts → Holds S plan drafts

-- the names of the helpers, from the highest number down to 1
abbrev pub helpers_down : (function : List ℕ) (count : ℕ) → List (List ℕ)
helpers_down function zero = []
helpers_down function (suc count) = helper_name function (suc count) ∷ helpers_down function count

abbrev pub names_in_order : Plan → Option Recursion → List (List ℕ)
names_in_order plan None = helpers_down plan.name (helper_count plan) ++ plan.name ∷ []
names_in_order plan (Some r) =
    motive_name plan.name ∷ (helpers_down plan.name (helper_count plan) ++ step_name plan.name ∷ plan.name ∷ [])

-- The entries are the function and its helpers, and with recursion its motive and its step, in this order.
abbrev pub EntriesAreThese : Type 0
EntriesAreThese = OfDrafts (λ S plan drafts. map name_of drafts ≡ names_in_order plan (recursion_of S plan))

-- The last entry is the function, and its type is syntactically equal to the written one.
abbrev pub TypeIsWritten : Type 0
TypeIsWritten =
    OfDrafts (λ S plan drafts.
    (before : List Draft) × (last : Draft) × (body : Term) × (drafts ≡ before ++ last ∷ []) × (last.entry ≡ Definition plan.name plan.type body))

-- a name that is generated for a family of the signature, or for an identity family
pub data IsGenerated (S : Signature) (name : List ℕ) : Type 0 where
  case : (n m : ℕ) (f : Family) → IsEntryAt S n (FamilyOf f) → name ≡ case_name f m → IsGenerated S name
  below : (n m : ℕ) (f : Family) → IsEntryAt S n (FamilyOf f) → name ≡ below_name f m → IsGenerated S name
  rec : (n m : ℕ) (f : Family) → IsEntryAt S n (FamilyOf f) → name ≡ rec_name f m → IsGenerated S name
  noconf : (n number m : ℕ) (f : Family) → IsEntryAt S n (FamilyOf f) → name ≡ noconf_name f number m → IsGenerated S name
  left : (i m : ℕ) → name ≡ left_name i m → IsGenerated S name
  direct : (n : ℕ) (f : Family) → IsEntryAt S n (FamilyOf f) → name ≡ direct_name f.name → IsGenerated S name
  acyclic : (n : ℕ) (f : Family) → IsEntryAt S n (FamilyOf f) → name ≡ acyclic_name f.name → IsGenerated S name

-- No other refusal than Deep is meant.
abbrev pub OnlyDeep : Type 0
OnlyDeep = (S : Signature) (plan : Plan) (e : Stop) → translate S plan ≡ Err e → e ≡ Deep

-- Each draft mentions generated entries and the drafts before it, and nothing else beyond the signature: neither itself nor the
-- function, before the function is there. So no entry is recursive.
abbrev pub EarlierAlone : Type 0
EarlierAlone =
    OfDrafts (λ S plan drafts.
    (before behind : List Draft) (d : Draft) → drafts ≡ before ++ d ∷ behind →
    All (λ name. IsGenerated S name ⊎ Any (λ e. name_of e ≡ name) before) d.names)

-- the constants of a draft beyond the signature, from the left in its type and then in its term
abbrev pub mentioned_by : Draft → List ℕ
mentioned_by d = flat_map (mentions d.base) (entry_terms d.entry)

-- The names of a draft are all mentioned, and are in the order of first mention,
abbrev pub NamesInOrder : Type 0
NamesInOrder = OfDrafts (λ S plan drafts. All (λ d. once [] (mentioned_by d) ≡ levels_from 0 (length d.names)) drafts)

-- each of them once.
abbrev pub NamesDiffer : Type 0
NamesDiffer = OfDrafts (λ S plan drafts. All (λ d. AllPairs (λ one other. one ≢ other) d.names) drafts)

-- ---- replaying

-- Replaying the steps of a run from its first state gives its states, without units: a tree needs no reduction to be translated.
abbrev pub ReplayIsRun : Type 0
ReplayIsRun =
    (S : Signature) (s t : State) (steps : List Step) (standing : Standing) → Chain S s steps t → standing.state ≡ s →
    standing.hidden ≡ [] → (behind_run S steps standing).state ≡ t

-- A problem that a run solves, and a standing in the problem's state, without hidden variables.
pub record IsSolved (S : Signature) (p : Problem) (standing : Standing) (steps : List Step) (context : Telescope) (solution : List Term) : Type 0 where
  pub ready : IsReady S
  pub scoped : IsScopedProblem S p
  pub runs : Runs S p (Solved steps context solution)
  pub state : standing.state ≡ problem_state p
  pub seen : standing.hidden ≡ []

-- Replaying the run ends where the run ends: in its context, with its solution, and with no equation left.
abbrev pub ReplayEnds : Type 0
ReplayEnds =
    (S : Signature) (p : Problem) (standing : Standing) (steps : List Step) (context : Telescope) (solution : List Term) →
    IsSolved S p standing steps context solution →
    (behind_run S steps standing).state ≡ record { context = context; equations = []; solution = solution }

-- The goal there is the goal under the solution.
abbrev pub ReplayGoal : Type 0
ReplayGoal =
    (S : Signature) (p : Problem) (standing : Standing) (steps : List Step) (context : Telescope) (solution : List Term) →
    IsSolved S p standing steps context solution → IsScoped S (length p.context) standing.goal →
    (behind_run S steps standing).goal ≡ under_solution solution standing.goal

-- an equation after k others, over a whole context of n variables
abbrev pub widened_equation : (n : ℕ) (hidden : List ℕ) (k : ℕ) → Equation → Equation
widened_equation n hidden k e = record {
  place = record { type = widened_behind n hidden k e.place.type; level = e.place.level };
  type = widened_behind n hidden k e.type;
  left = widened n hidden e.left;
  right = widened n hidden e.right;
}

abbrev pub widened_equations : (n : ℕ) (hidden : List ℕ) (k : ℕ) → List Equation → List Equation
widened_equations n hidden k [] = []
widened_equations n hidden k (e ∷ equations) = widened_equation n hidden k e ∷ widened_equations n hidden (k + 1) equations

-- a state over the whole context is the given one where the hidden variables are not seen
pub record Widens (s : Standing) (seen : State) : Type 0 where
  pub context : IsSeen s.state.context s.hidden seen.context
  pub equations : s.state.equations ≡ widened_equations (length s.state.context) s.hidden 0 seen.equations

-- Steps lead through the whole context, with its hidden variables, as they do through its visible part.
abbrev pub ReplayIsSeen : Type 0
ReplayIsSeen =
    (S : Signature) (s t : State) (steps : List Step) (standing : Standing) → Chain S s steps t → Widens standing s →
    Widens (behind_run S steps standing) t

-- each variable of the context has its own binder, before the equations
pub record StandsApart (s : Standing) : Type 0 where
  pub whole : length s.variables ≡ length s.state.context
  pub bound : All (λ level. level < s.depth) s.variables
  pub apart : (i j level : ℕ) → slice_get s.variables i ≡ Some level → slice_get s.variables j ≡ Some level → i ≡ j

abbrev pub ReplayStandsApart : Type 0
ReplayStandsApart =
    (S : Signature) (s t : State) (steps : List Step) (standing : Standing) → Chain S s steps t → Widens standing s →
    StandsApart standing → StandsApart (behind_run S steps standing)

-- ---- split nodes

-- The names that were there stay. Each new one is generated, and was not there.
pub record AddsNames (S : Signature) (names all : List (List ℕ)) : Type 0 where
  pub new : List (List ℕ)
  pub added : all ≡ names ++ new
  pub fresh : All (λ one. All (λ other. one ≢ other) names) new
  pub generated : All (IsGenerated S) new
  pub different : AllPairs (λ one other. one ≢ other) new

abbrev pub SplitNames : Type 0
SplitNames =
    (S : Signature) (L : ℕ) (node : Node) (x : ℕ) (type : Term) (runs : List (List Step)) (ends : List Term) (names : List (List ℕ)) →
    IsSplitGiven S node x type runs ends (length names) →
    AddsNames S names (split_term S (length S.entries) L node x type runs ends names).names

-- the term of a split node is over the node's context, the entries of the signature, and the names after its own were added
abbrev pub SplitScoped : Type 0
SplitScoped =
    (S : Signature) (L : ℕ) (node : Node) (x : ℕ) (type : Term) (runs : List (List Step)) (ends : List Term) (names : List (List ℕ)) →
    IsSplitGiven S node x type runs ends (length names) →
    IfOk (split_term S (length S.entries) L node x type runs ends names).term
    (IsDraftTerm S (length S.entries) (length (split_term S (length S.entries) L node x type runs ends names).names) (length node.context))

-- ---- needed names

abbrev pub IsAmong : List ℕ → List (List ℕ) → Type 0
IsAmong name names = Any (λ other. other ≡ name) names

-- a symbol occurs in a term
pub data StandsIn (u : Term) : Term → Type 0 where
  itself : StandsIn u u
  domain : (a b : Term) → StandsIn u a → StandsIn u (Pi a b)
  codomain : (a b : Term) → StandsIn u b → StandsIn u (Pi a b)
  annotation : (a b : Term) → StandsIn u a → StandsIn u (Lam a b)
  body : (a b : Term) → StandsIn u b → StandsIn u (Lam a b)
  function : (f a : Term) → StandsIn u f → StandsIn u (App f a)
  argument : (f a : Term) → StandsIn u a → StandsIn u (App f a)
  type : (a t b : Term) → StandsIn u a → StandsIn u (Let a t b)
  value : (a t b : Term) → StandsIn u t → StandsIn u (Let a t b)
  scope : (a t b : Term) → StandsIn u b → StandsIn u (Let a t b)

-- it occurs in a term of an entry
abbrev pub StandsInEntry : Term → Entry → Type 0
StandsInEntry u entry = Any (StandsIn u) (entry_terms entry)

-- The name is that of a generated entry, or of an instance, which the draft mentions and the signature lacks.
pub data IsNeeded (S : Signature) (d : Draft) (name : List ℕ) : Type 0 where
  definition : (i : ℕ) → slice_get d.names i ≡ Some name → StandsInEntry (Const (d.base + i)) d.entry → find S name ≡ None → IsNeeded S d name
  eliminator : (n m : ℕ) → name ≡ eliminator_name S n m → StandsInEntry (Elim n m) d.entry → ¬ Contains S.entries (EliminatorAt n m)
      → IsNeeded S d name
  axiom_k : (i m : ℕ) → name ≡ axiom_k_name i m → StandsInEntry (AxiomK i m) d.entry → ¬ Contains S.entries (AxiomKAt i m)
      → IsNeeded S d name

-- a draft needs exactly the names that it mentions and the signature lacks,
abbrev pub NeededIsExact : Type 0
NeededIsExact = (S : Signature) (d : Draft) (name : List ℕ) → IsScopedDraft S d → IsAmong name (needed S d) ↔ IsNeeded S d name

-- each name once
abbrev pub NeededOnce : Type 0
NeededOnce = (S : Signature) (d : Draft) → AllPairs (λ one other. one ≢ other) (needed S d)
