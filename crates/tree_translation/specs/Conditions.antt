-- Plans and split nodes as walks, trees and runs give them: relations that the answers of case trees and unification meet, so that a
-- caller hands on what it was given.
use Rattle.std.specs.Prelude.{Option, ◌≡◌, ◌≢◌, ◌<◌, ℕ, ◌+◌, Some, None, Ok, List, [], ◌∷◌, length, take, slice_get, All, true, false}
use Rattle.std.specs.List.{Any}
use Rattle.theory.specs.Terms.{Term, Sort, Const, top}
use Rattle.theory.specs.Telescopes.{Telescope, applied, variables, products}
use Rattle.theory.specs.Families.{Constructor}
use Rattle.theory.specs.Signatures.{Signature}
use Rattle.theory.specs.WellFormed.{provisional}
use Rattle.theory.specs.SignatureScopes.{IsScoped, IsScopedTelescope}
use Rattle.core_sig.specs.DraftScopes.{IsDraftTerm}
use Rattle.core_sig.specs.EntryTerms.{EachInTelescope}
use Rattle.core_terms.specs.CaseTrees.{Step, Walk}
use Rattle.core_terms.specs.Clauses as clause
use Rattle.core_terms.specs.Clauses.{Clause, Is}
use Rattle.core_terms.specs.Patterns.{Pats}
use Rattle.tele_eq.specs.Items.{term_at}
use Rattle.unification.specs.ScopedStates.{IsReady}
use Rattle.unification.specs.Outcomes.{Outcome, Solved, Absurd}
use Rattle.tree_translation.specs.structural_rec.Uses.{Use}
use Rattle.tree_translation.specs.structural_rec.Choices.{Choice, NotRecursive, At, choose}
use Rattle.case_trees.specs.Points.{under_solution}
use Rattle.case_trees.specs.OwnWalks.{own_walk_of}
use Rattle.case_trees.specs.Trees.{split_of}
use Rattle.case_trees.specs.Problems.{Member, member_of, problem_of}
use Rattle.case_trees.specs.Standing.{Runs}
use Rattle.case_trees.specs.Scoped.{AreClausesFor, IsScopedTree}
use Rattle.tree_translation.specs.Standings.{placed}
use Rattle.tree_translation.specs.Hidden.{visible, widened, widened_number}
use Rattle.tree_translation.specs.Replays.{behind_run}
use Rattle.tree_translation.specs.Splits.{Node, branch_standing, is_absurd}
use Rattle.tree_translation.specs.Plans.{Plan, Part, own_part}
use Rattle.tree_translation.specs.Recursion.{recursion_of, order_of, ordered_telescope, ordered_term}
use Rattle.tree_translation.specs.Entries.{ordered_variables}

-- the signature, followed by the function as a provisional constant
abbrev pub with_function : Signature → Plan → Signature
with_function S plan = provisional S plan.name plan.type

-- ---- parts

-- The side of a clause of part `at`: a term is over the clause's variables. The call of a helper, which comes after the part, is over
-- the context of the clause's own walk. A clause without a right side has Type 0.
pub data IsSide (S : Signature) (plan : Plan) (at : ℕ) (w : Walk) : Clause → (side : Term) → Type 0 where
  term : (pats : Pats) (binds : ℕ) (side : Term) → IsDraftTerm S plan.base 1 binds side
      → IsSide S plan at w (Is pats binds (clause.Side side)) side
  scrutinee : (pats : Pats) (binds k : ℕ) (t : Term) (inner : clause.Clauses) (helper : Part) (arguments : List Term)
      → slice_get plan.parts k ≡ Some helper → at < k → length arguments ≡ length helper.tele
      → All (IsDraftTerm S plan.base 1 (length w.ctx)) arguments
      → IsSide S plan at w (Is pats binds (clause.With t inner)) (applied (Const (plan.base + k)) arguments)
  absurd : (pats : Pats) (binds : ℕ) → IsSide S plan at w (Is pats binds clause.Absurd) (Sort 0)

abbrev pub use_of : (at number : ℕ) → Walk → Term → Use
use_of at number w t = record { function = at; clause = number; terms = w.terms; body = under_solution w.binds t }

abbrev pub patterns_of : Clause → Pats
patterns_of (Is pats binds right) = pats

-- The right side or scrutinee of a clause, with the terms and bindings of the clause's own walk, is among the uses from which the
-- position is chosen.
abbrev pub IsUsed : (uses : List Use) → (at number : ℕ) → Walk → Clause → Type 0
IsUsed uses at number w (Is pats binds (clause.Side t)) = Any (λ u. u ≡ use_of at number w t) uses
IsUsed uses at number w (Is pats binds (clause.With t inner)) = Any (λ u. u ≡ use_of at number w t) uses
IsUsed uses at number w (Is pats binds clause.Absurd) = Unit {0}

-- Clause `number` of part `at`: its own walk is that of the clause at some units.
pub record IsClauseOf (S : Signature) (plan : Plan) (uses : List Use) (at : ℕ) (part : Part) (number : ℕ) (c : Clause) : Type 0 where
  pub walk : Walk
  pub side : Term
  pub walk_there : slice_get part.walks number ≡ Some walk
  pub side_there : slice_get part.sides number ≡ Some side
  pub pats_there : slice_get part.pats number ≡ Some (patterns_of c)
  pub units : ℕ
  pub walks : (own_walk_of (with_function S plan) part.tele part.goal part.terms c number units).0 ≡ Ok walk
  pub is_side : IsSide S plan at walk c side
  pub used : IsUsed uses at number walk c

-- A part with its clauses. Its tree is the one that splitting gives for them at some units, from a context, a goal and the terms of the
-- columns. It names no entry but those of the signature: nothing that is split mentions the function.
pub record IsPartOf (S : Signature) (plan : Plan) (uses : List Use) (at : ℕ) (part : Part) (context : Telescope) (goal : Term) (terms : List Term) : Type 0 where
  pub clauses : List Clause
  pub units : ℕ
  pub fitting : AreClausesFor (with_function S plan) terms (clause.clauses clauses)
  pub splits : (split_of (with_function S plan) context goal terms (clause.clauses clauses) units).0 ≡ Ok part.tree
  pub tree_scoped : IsScopedTree S part.tree
  pub count : (length part.sides ≡ length clauses) × (length part.walks ≡ length clauses) × (length part.pats ≡ length clauses)
  pub each : (number : ℕ) (c : Clause) → slice_get clauses number ≡ Some c → IsClauseOf S plan uses at part number c
  pub context_scoped : IsScopedTelescope S 0 part.tele
  pub goal_scoped : IsScoped S (length part.tele) part.goal
  pub terms_scoped : All (IsScoped S (length part.tele)) part.terms
  pub level : part.level < top

-- the function's own tree starts from the order of recursion
abbrev pub IsOwnPart : Signature → Plan → (uses : List Use) → Type 0
IsOwnPart S plan uses =
    let part = own_part plan in
    let count = length part.tele in
    let order = order_of count (recursion_of S plan) in
    IsPartOf S plan uses 0 part (ordered_telescope part.tele order) (ordered_term count order part.goal) (ordered_variables order count)

-- that of a helper starts from its telescope
abbrev pub IsHelper : Signature → Plan → (uses : List Use) → (k : ℕ) → Part → Type 0
IsHelper S plan uses k part = IsPartOf S plan uses k part part.tele part.goal part.terms

-- the choice of a position, or that the function does not call itself
abbrev pub choice_of : Option ℕ → Choice
choice_of None = NotRecursive
choice_of (Some j) = At j

-- A plan over a signature, of what walks, trees and the choice of a position give.
pub record IsPlanned (S : Signature) (plan : Plan) : Type 0 where
  pub ready : IsReady S
  pub base : plan.base ≡ length S.entries
  pub arity : plan.arity ≡ length (own_part plan).tele
  pub type : plan.type ≡ products (own_part plan).tele (own_part plan).goal
  pub columns : (own_part plan).terms ≡ variables plan.arity
  pub level : (own_part plan).level ≡ plan.level
  pub there : plan.parts ≢ []
  pub uses : List Use
  pub position : choose (with_function S plan) (own_part plan).tele plan.base uses ≡ choice_of plan.position
  pub own : IsOwnPart S plan uses
  pub helpers : (k : ℕ) (part : Part) → slice_get plan.parts (k + 1) ≡ Some part → IsHelper S plan uses (k + 1) part

-- ---- split nodes

-- `seen` is the context without its hidden variables, of which no other type knows.
pub record IsSeen (context : Telescope) (hidden : List ℕ) (seen : Telescope) : Type 0 where
  pub count : length seen ≡ length (visible (length context) hidden)
  pub each : (j p : ℕ) → slice_get (visible (length context) hidden) j ≡ Some p →
      term_at context p ≡ placed (take j (visible (length context) hidden)) p (term_at seen j)

-- a run that is not stuck
pub data IsEnd (steps : List Step) : Outcome → Type 0 where
  solved : (context : Telescope) (solution : List Term) → IsEnd steps (Solved steps context solution)
  absurd : (context : Telescope) (u v : Term) → IsEnd steps (Absurd steps context u v)

-- one run for each constructor from `number` on, of its problem for variable x of the visible part
pub data AreRuns (S : Signature) (seen : Telescope) (x : ℕ) (m : Member) : (number : ℕ) → List Constructor → List (List Step) → Type 0 where
  none : {number : ℕ} → AreRuns S seen x m number [] []
  more : {number : ℕ} {c : Constructor} {constructors : List Constructor} {steps : List Step} {runs : List (List Step)} (outcome : Outcome)
      → Runs S (problem_of seen x m number c) outcome → IsEnd steps outcome → AreRuns S seen x m (number + 1) constructors runs
      → AreRuns S seen x m number (c ∷ constructors) (steps ∷ runs)

-- The runs of a split node: variable x of the whole context, with its reduced type, is variable y of the visible part.
pub record IsSplit (S : Signature) (node : Node) (x : ℕ) (type : Term) (runs : List (List Step)) : Type 0 where
  pub seen : Telescope
  pub y : ℕ
  pub reduced : Term
  pub member : Member
  pub is_seen : IsSeen node.context node.hidden seen
  pub inside : y < length seen
  pub variable : x ≡ widened_number (length node.context) node.hidden y
  pub type_seen : type ≡ widened (length node.context) node.hidden reduced
  pub is_member : member_of S reduced ≡ Some member
  pub are_runs : AreRuns S seen y member 0 member.family.constructors runs
  pub context_scoped : IsScopedTelescope S 0 seen
  pub reduced_scoped : IsScoped S (length seen) reduced

-- One end for each solved run, over the last context of the whole run: it names entries of the signature and `names` of a draft.
pub data AreEnds (S : Signature) (base names : ℕ) (node : Node) (m : Member) (x : ℕ) : (number : ℕ) → List Constructor → List (List Step) → (ends : List Term) → Type 0 where
  none : {number : ℕ} → AreEnds S base names node m x number [] [] []
  absurd : {number : ℕ} {c : Constructor} {constructors : List Constructor} {steps : List Step} {runs : List (List Step)} {ends : List Term}
      → is_absurd steps ≡ true → AreEnds S base names node m x (number + 1) constructors runs ends
      → AreEnds S base names node m x number (c ∷ constructors) (steps ∷ runs) ends
  solved : {number : ℕ} {c : Constructor} {constructors : List Constructor} {steps : List Step} {runs : List (List Step)} {end : Term}
      {ends : List Term} → is_absurd steps ≡ false
      → IsDraftTerm S base names (length (behind_run S steps (branch_standing node m x number c)).state.context) end
      → AreEnds S base names node m x (number + 1) constructors runs ends
      → AreEnds S base names node m x number (c ∷ constructors) (steps ∷ runs) (end ∷ ends)

-- the conditions of the term of a split node
pub record IsSplitGiven (S : Signature) (node : Node) (x : ℕ) (type : Term) (runs : List (List Step)) (ends : List Term) (names : ℕ) : Type 0 where
  pub ready : IsReady S
  pub split : IsSplit S node x type runs
  pub member : Member
  pub is_member : member_of S type ≡ Some member
  pub ends_there : AreEnds S (length S.entries) names node member x 0 member.family.constructors runs ends
  pub context_scoped : EachInTelescope (IsDraftTerm S (length S.entries) names) 0 node.context
  pub goal_scoped : IsDraftTerm S (length S.entries) names (length node.context) node.goal
