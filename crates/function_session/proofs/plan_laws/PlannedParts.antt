-- The parts of a function, as a plan has them.
use Rattle.std.proofs.Common.{◌≡◌, ℕ, zero, suc, ◌+◌, ◌<◌, Option, Some, None, List, [], ◌∷◌, length, slice_get, Ok, IfOk, refl, sym, ap, subst as transport, arith}
use Rattle.std.proofs.lemmas.Option.{none-some}
use Rattle.theory.specs.Terms.{Term, top}
use Rattle.theory.specs.Telescopes.{Telescope}
use Rattle.theory.specs.Signatures.{Signature}
use Rattle.theory.specs.WellFormed.{provisional}
use Rattle.theory.proofs.Lists.{some_is}
use Rattle.core_terms.specs.CaseTrees.{Tree}
use Rattle.core_terms.specs.Clauses.{Clauses}
use Rattle.case_trees.specs.Points.{start_at}
use Rattle.case_trees.specs.Scoped.{AreClausesFor, IsScopedPoint, IsScopedTree}
use Rattle.case_trees.specs.Stops.{Stopping}
use Rattle.case_trees.specs.Trees.{split_of}
use Rattle.tree_translation.specs.Naming.{part_named}
use Rattle.clause_reports.specs.elaboration.Functions.{finished, helper_level, helpers_finished, own_finished}
use Rattle.clause_reports.specs.elaboration.Refusals.{walking}
use Rattle.clause_reports.specs.elaboration.Walking.{Session, Walked}
use Rattle.function_checks.proofs.function_clauses.Fitting.{clauses-for}
use Rattle.resolve.specs.Functions.{Function}
use Rattle.tree_translation.specs.structural_rec.Uses.{Use}
use Rattle.tree_translation.specs.Conditions.{IsHelper, IsPartOf}
use Rattle.tree_translation.specs.Entries.{ordered_variables}
use Rattle.tree_translation.specs.Plans.{Part}
use Rattle.tree_translation.specs.Recursion.{Recursion, order_of, ordered_telescope, ordered_term}
use Rattle.unification.specs.ScopedStates.{IsReady}
use Rattle.function_session.proofs.plan_laws.Answering.{ends-ok, if-ok, next-has}
use Rattle.function_session.proofs.plan_laws.GivenClauses.{AreHelpersGiven, IsHelperGiven}
use Rattle.function_session.proofs.plan_laws.PlannedClauses.{HasPart, clause-planned, clauses-listed, each-there, listed, patterns-count, plan_with, walks-count}
use Rattle.function_session.proofs.plan_laws.SameReduction.{not-read}
use Rattle.function_session.proofs.plan_laws.SameTrees.{same-trees}
use Rattle.function_session.proofs.plan_laws.TreeScopes.{tree-over}

-- ---- trees

-- a tree over the signature with the function does not name it
tree-without : (S : Signature) (f : Function) (context : Telescope) (goal : Term) (terms : List Term) (clauses : Clauses) (units : ℕ) (tree : Tree)
    → IsReady S → IsScopedPoint S (start_at context goal terms) → (split_of (provisional S f.name f.type) context goal terms clauses units).0 ≡ Ok tree
    → IsScopedTree S tree
tree-without S f context goal terms clauses units tree ready scoped e =
    if-ok (IsScopedTree S) (split_of (provisional S f.name f.type) context goal terms clauses units).0 tree e
    (transport (λ (r : Stopping Tree). IfOk r.0 (IsScopedTree S))
    (same-trees S (provisional S f.name f.type) context goal terms clauses units (not-read S f.name f.type))
    (tree-over S context goal terms clauses units ready scoped))

-- ---- helpers with their trees

-- the parts that helpers come to
pub data AreFinished (T : Signature) (r : Option Recursion) (level : ℕ) : List Walked → List Part → Type 0 where
  none : AreFinished T r level [] []
  more : (w : Walked) (tree : Tree) (helpers : List Walked) (parts : List Part) (units : ℕ)
      → (split_of T w.part.tele w.part.goal w.part.terms w.clauses units).0 ≡ Ok tree → AreFinished T r level helpers parts
      → AreFinished T r level (w ∷ helpers) (finished (helper_level r level w.part.level) w tree ∷ parts)

pub helpers-finished : (s : Session) (r : Option Recursion) (level number : ℕ) (helpers : List Walked) (left : ℕ)
    → IfOk (helpers_finished s r level number helpers left).0 (AreFinished s.signature r level helpers)
helpers-finished s r level number [] left = none
helpers-finished s r level number (w ∷ helpers) left =
    next-has (AreFinished s.signature r level (w ∷ helpers))
    (walking s.signature (part_named s.name number) (split_of s.signature w.part.tele w.part.goal w.part.terms w.clauses left)) _ (λ tree rest e1.
    next-has (AreFinished s.signature r level (w ∷ helpers)) (helpers_finished s r level (number + 1) helpers rest) _ (λ parts end e2.
    more w tree helpers parts left (ends-ok s.signature (part_named s.name number) _ tree e1)
    (if-ok (AreFinished s.signature r level helpers) (helpers_finished s r level (number + 1) helpers rest).0 parts e2
    (helpers-finished s r level (number + 1) helpers rest))))

-- the function's own part with its tree
pub record IsOwnFinished (T : Signature) (r : Option Recursion) (w : Walked) (part : Part) : Type 0 where
  pub tree : Tree
  pub units : ℕ
  pub is : part ≡ finished w.part.level w tree
  pub splits :
      (split_of T (ordered_telescope w.part.tele (order_of (length w.part.tele) r))
      (ordered_term (length w.part.tele) (order_of (length w.part.tele) r) w.part.goal)
      (ordered_variables (order_of (length w.part.tele) r) (length w.part.tele)) w.clauses units).0
      ≡ Ok tree

pub own-finished : (s : Session) (r : Option Recursion) (w : Walked) (left : ℕ)
    → IfOk (own_finished s r w left).0 (IsOwnFinished s.signature r w)
own-finished s r w left =
    let count = length w.part.tele in
    let order = order_of count r in
    next-has (IsOwnFinished s.signature r w)
    (walking s.signature s.name
    (split_of s.signature (ordered_telescope w.part.tele order) (ordered_term count order w.part.goal) (ordered_variables order count) w.clauses left))
    _ (λ tree rest e. record { tree = tree; units = left; is = refl; splits = ends-ok s.signature s.name _ tree e })

-- ---- parts of a plan

later-part : (p : Part) (parts : List Part) (n : ℕ) (w : Walked) → HasPart parts n w → HasPart (p ∷ parts) (suc n) w
later-part p parts n w h = record { part = h.part; there = h.there; tele = h.tele }

helpers-paired : (T : Signature) (r : Option Recursion) (level : ℕ) (helpers : List Walked) (parts : List Part) → AreFinished T r level helpers parts
    → (n : ℕ) (w : Walked) → slice_get helpers n ≡ Some w → HasPart parts n w
helpers-paired T r level _ _ none n w at = absurd (none-some w at)
helpers-paired T r level _ _ (more v tree helpers parts units e rest) zero w at =
    record { part = finished (helper_level r level v.part.level) v tree; there = refl; tele = ap (λ (w : Walked). w.part.tele) (some_is at) }
helpers-paired T r level _ _ (more v tree helpers parts units e rest) (suc n) w at =
    later-part (finished (helper_level r level v.part.level) v tree) parts n w (helpers-paired T r level helpers parts rest n w at)

pub all-paired : (T : Signature) (r : Option Recursion) (level own : ℕ) (v : Walked) (tree : Tree) (helpers : List Walked) (parts : List Part)
    → AreFinished T r level helpers parts → (n : ℕ) (w : Walked) → slice_get (v ∷ helpers) n ≡ Some w → HasPart (finished own v tree ∷ parts) n w
all-paired T r level own v tree helpers parts h zero w at =
    record { part = finished own v tree; there = refl; tele = ap (λ (w : Walked). w.part.tele) (some_is at) }
all-paired T r level own v tree helpers parts h (suc n) w at =
    later-part (finished own v tree) parts n w (helpers-paired T r level helpers parts h n w at)

level-low : (r : Option Recursion) (own level : ℕ) → own < top → level < top → helper_level r own level < top
level-low None own level h k = k
level-low (Some r) own level h k = omega (arith, h, k)

module _ (S : Signature) (f : Function) (level : ℕ) (position : Option ℕ) (parts : List Part) (all : List Walked) (uses : List Use) (ready : IsReady S)
    (paired : (n : ℕ) (w : Walked) → slice_get all n ≡ Some w → HasPart parts n w) where
  -- a part with its tree, wherever this starts from
  pub part-planned : (k own : ℕ) (w : Walked) (tree : Tree) (context : Telescope) (goal : Term) (terms : List Term) (units : ℕ)
      → IsHelperGiven S f.name f.type all uses k w → own < top → AreClausesFor (provisional S f.name f.type) terms w.clauses
      → IsScopedPoint S (start_at context goal terms)
      → (split_of (provisional S f.name f.type) context goal terms w.clauses units).0 ≡ Ok tree
      → IsPartOf S (plan_with S f level position parts) uses k (finished own w tree) context goal terms
  part-planned k own w tree context goal terms units h low for scoped e =
      let T = provisional S f.name f.type in
      let counts = walks-count S f all uses k w.part (length w.part.terms) 0 w.clauses w.walks w.sides h.given in
      record {
        clauses = listed w.clauses;
        units = units;
        fitting = transport (AreClausesFor T terms) (sym (clauses-listed w.clauses)) for;
        splits = transport (λ cs. (split_of T context goal terms cs units).0 ≡ Ok tree) (sym (clauses-listed w.clauses)) e;
        tree_scoped = tree-without S f context goal terms w.clauses units tree ready scoped e;
        count = (counts.0, counts.1, patterns-count w.clauses);
        each = λ number c at.
            clause-planned S f level position parts all uses paired k (length w.part.terms) own w tree number c
            (each-there S f all uses k w.part (length w.part.terms) 0 w.clauses w.walks w.sides h.given h.clauses number c at);
        context_scoped = h.part.scoped.context;
        goal_scoped = h.part.scoped.goal;
        terms_scoped = h.part.scoped.terms;
        level = low;
      }

  pub helpers-planned : (r : Option Recursion) (n : ℕ) (helpers : List Walked) (made : List Part) → level < top
      → AreFinished (provisional S f.name f.type) r level helpers made → AreHelpersGiven S f.name f.type all uses n helpers → (k : ℕ) (part : Part)
      → slice_get made k ≡ Some part → IsHelper S (plan_with S f level position parts) uses (n + k) part
  helpers-planned r n _ _ low none given k part at = absurd (none-some part at)
  helpers-planned r n _ _ low (more w tree helpers made units e rest) given zero part at =
      let T = provisional S f.name f.type in
      let same : n ≡ n + 0 = omega arith in
      transport (λ p. IsHelper S (plan_with S f level position parts) uses (n + 0) p) (some_is at)
      (transport (λ m. IsHelper S (plan_with S f level position parts) uses m (finished (helper_level r level w.part.level) w tree)) same
      (part-planned n (helper_level r level w.part.level) w tree w.part.tele w.part.goal w.part.terms units given.0
      (level-low r level w.part.level low given.0.part.level) (clauses-for T w.part.terms w.clauses given.0.clauses) given.0.part.scoped e))
  helpers-planned r n _ _ low (more w tree helpers made units e rest) given (suc k) part at =
      let same : n + 1 + k ≡ n + suc k = omega arith in
      transport (λ m. IsHelper S (plan_with S f level position parts) uses m part) same
      (helpers-planned r (n + 1) helpers made low rest given.1 k part at)
