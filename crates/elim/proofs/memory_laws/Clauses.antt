-- The walks of the clauses of a function, with what follows each, and the plan.
use Rattle.std.proofs.Common.{ℕ, ◌+◌, Bool, true, false, Option, Result, Ok, Err, List, [], ◌∷◌, length, reverse}
use Rattle.theory.specs.Terms.{Term}
use Rattle.theory.specs.Terms.Term.{Var, Sort}
use Rattle.theory.specs.Telescopes.{Telescope, products}
use Rattle.theory.specs.Signatures.{Signature}
use Rattle.core_terms.specs.Answers.{Spent}
use Rattle.core_terms.specs.CaseTrees.{Walk}
use Rattle.core_terms.specs.Clauses as clause
use Rattle.core_terms.specs.Clauses.{Clause, Clauses, Right, Is}
use Rattle.core_terms.specs.Verdicts.{Verdict}
use Rattle.core_terms.specs.Verdicts.Verdict.{Yes, No}
use Rattle.core_terms.specs.declared.stop.Stop.{Stop}
use Rattle.kernel_reduce.specs.Reduction.{nesting}
use Rattle.tree_translation.specs.structural_rec.Choices.{At, Choice, NotRecursive, NotSmaller}
use Rattle.case_trees.specs.Points.{under_solution}
use Rattle.case_trees.specs.Stops as tree
use Rattle.case_trees.specs.Stops.{Stopping, TreeStop}
use Rattle.with_abstraction.specs.Abstractions.{Abstracted, abstract_over_of}
use Rattle.with_abstraction.specs.NormalForms.{normal_forms_of, plain_normals_of}
use Rattle.tree_translation.specs.Recursion.{Recursion}
use Rattle.tree_translation.specs.Naming.{part_named}
use Rattle.clause_reports.specs.Stops as report
use Rattle.clause_reports.specs.Stops.{ReportStop, Reporting}
use Rattle.clause_reports.specs.elaboration.Functions.{helpers_finished, position_chosen}
use Rattle.clause_reports.specs.elaboration.Refusals as refusal
use Rattle.clause_reports.specs.elaboration.Refusals.{Elaborating, OfDot, OfGoal, OfSide, OfWith, Owner, Refusal, granted, halting, of_report, of_tree, or_ends, or_halts, or_ill_typed, or_no_report, owner_of, reporting, walking}
use Rattle.clause_reports.specs.elaboration.Walking.{Opened, Session, Walked, after_dots, and_level, check_dot, if_forced, if_low_level, open_over, opened, walk_clause, walk_clauses, walk_right, without_self}
use Rattle.elim.specs.memory_laws.Foreseen.{IsForeseen, IsForeseenFunction, IsForeseenReport, IsForeseenTree}
use Rattle.elim.proofs.memory_laws.Runs.{Only, Ends, ok, no, now, done, next, either, low, if-low}
use Rattle.elim.proofs.memory_laws.Kernel.{check, convertible, infer, infer-sort, normal}
use Rattle.elim.proofs.memory_laws.Walks.{own-walk, split}

-- ---- refusals of functions

pub halted : {A : Type 0} {r : Result A Stop} → Only IsForeseen r → Only IsForeseenFunction (or_halts r)
halted {A} {r} h = by r h
  where
    by : (x : Result A Stop) → Only IsForeseen x → Only IsForeseenFunction (or_halts x)
    by (Ok a) k = ok
    by (Err e) k = no k.is

halts : {A : Type 0} {spent : Spent A} → Ends IsForeseen spent → Ends IsForeseenFunction (halting spent)
halts h = now (halted h.only)

typed : (S : Signature) (part : refusal.Part) (r : Result Verdict Stop) → Only IsForeseen r → Only IsForeseenFunction (or_ill_typed S part r)
typed S part (Ok (Yes type)) h = ok
typed S part (Ok (No d)) h = no tt
typed S part (Err e) h = no h.is

pub grants : (S : Signature) (part : refusal.Part) {asked : Spent Verdict} → Ends IsForeseen asked → Ends IsForeseenFunction (granted S part asked)
grants S part h = now (typed S part _ h.only)

ends-tree : (S : Signature) (name : List ℕ) (e : TreeStop) → IsForeseenTree e → IsForeseenFunction (of_tree S name e)
ends-tree S name (tree.Halts e) h = h
ends-tree S name (tree.Stuck number context u v why) h = tt
ends-tree S name (tree.Uncovered context terms) h = tt
ends-tree S name (tree.NotAbsurd number n c) h = tt
ends-tree S name (tree.Impossible number context u v) h = tt
ends-tree S name (tree.WrongConstructor number context type) h = tt
ends-tree S name (tree.Forced number context pat t) h = tt

ended-tree : {A : Type 0} (S : Signature) (name : List ℕ) (r : Result A TreeStop) → Only IsForeseenTree r → Only IsForeseenFunction (or_ends S name r)
ended-tree S name (Ok a) h = ok
ended-tree S name (Err e) h = no (ends-tree S name e h.is)

pub walked : {A : Type 0} (S : Signature) (name : List ℕ) {outcome : Stopping A} → Ends IsForeseenTree outcome → Ends IsForeseenFunction (walking S name outcome)
walked S name h = now (ended-tree S name _ h.only)

ends-report : (S : Signature) (owner : Owner) (e : ReportStop) → IsForeseenReport e → IsForeseenFunction (of_report S owner e)
ends-report S owner (report.Halts e) h = h
ends-report S owner (report.Stuck context u v why) h = tt
ends-report S owner (report.Rejected r) h = tt

ended-report : {A : Type 0} (S : Signature) (owner : Owner) (r : Result A ReportStop) → Only IsForeseenReport r
    → Only IsForeseenFunction (or_no_report S owner r)
ended-report S owner (Ok a) h = ok
ended-report S owner (Err e) h = no (ends-report S owner e h.is)

pub reports : {A : Type 0} (S : Signature) (owner : Owner) {outcome : Reporting A} → Ends IsForeseenReport outcome
    → Ends IsForeseenFunction (reporting S owner outcome)
reports S owner h = now (ended-report S owner _ h.only)

-- ---- dots

forced : (S : Signature) (owner : Owner) (context : Telescope) (u v : Term) (holds : Bool) → Only IsForeseenFunction (if_forced S owner context u v holds)
forced S owner context u v true = ok
forced S owner context u v false = no tt

dot : (S : Signature) (owner : Owner) (context : Telescope) (d : Term × Term) (left : ℕ) → Ends IsForeseenFunction (check_dot S owner context d left)
dot S owner context d left =
    next (grants S (OfDot owner) (infer S nesting (reverse context) d.1 left)) (λ type rest.
    next (grants S (OfDot owner) (check S nesting (reverse context) d.0 type rest)) (λ same more.
    next (halts (convertible S nesting d.0 d.1 more)) (λ holds end. now (forced S owner context d.0 d.1 holds))))

dots : {A : Type 0} (S : Signature) (owner : Owner) (context : Telescope) (ds : List (Term × Term)) {go : ℕ → Elaborating A}
    → ((left : ℕ) → Ends IsForeseenFunction (go left)) → (left : ℕ) → Ends IsForeseenFunction (after_dots S owner context ds go left)
dots S owner context [] h left = h left
dots S owner context (d ∷ ds) h left = next (dot S owner context d left) (λ written rest. dots S owner context ds h rest)

-- ---- scrutinees

normals : (S : Signature) (types : Telescope) (left : ℕ) → Ends IsForeseen (plain_normals_of S types left)
normals S [] left = done
normals S (a ∷ types) left = next (normal S false nesting a left) (λ b rest. next (normals S types rest) (λ others end. done))

forms : (S : Signature) (context : Telescope) (goal t : Term) (left : ℕ) → Ends IsForeseen (normal_forms_of S context goal t left)
forms S context goal t left =
    next (normal S false nesting goal left) (λ G rest.
    next (normals S context rest) (λ types more. next (normal S false nesting t more) (λ u end. done)))

abstracts : (S : Signature) (context : Telescope) (goal t type : Term) (left : ℕ) → Ends IsForeseen (abstract_over_of S context goal t type left)
abstracts S context goal t type left = next (forms S context goal t left) (λ m rest. if-low _ (λ end. done) rest)

selfless : (own : ℕ) (owner : Owner) (t : Term) → Only IsForeseenFunction (without_self own owner t)
selfless own owner t = either _ (no tt) ok

level : (S : Signature) (owner : Owner) (sort : Term) → Only IsForeseenFunction (if_low_level S owner sort)
level S owner (Sort J) = search either
level S owner (Var n) = ok
level S owner sort = ok

with-level : (a : Abstracted) (r : Result ℕ Refusal) → Only IsForeseenFunction r → Only IsForeseenFunction (and_level a r)
with-level a (Ok J) h = ok
with-level a (Err e) h = no h.is

opens : (s : Session) (owner : Owner) (w : Walk) (t : Term) (left : ℕ) → Ends IsForeseenFunction (open_over s owner w t left)
opens s owner w t left =
    next (grants s.signature (OfWith owner) (infer s.signature nesting (reverse w.ctx) t left)) (λ found rest.
    next (now {left = rest} (selfless s.own owner found)) (λ type rest.
    next (halts (abstracts s.signature w.ctx w.goal t type rest)) (λ a more.
    next (now {left = more} (selfless s.own owner a.goal)) (λ goal more.
    next (grants s.signature (OfGoal owner) (infer-sort s.signature nesting [] (products a.telescope goal) more)) (λ sort end.
    now (with-level a _ (level s.signature owner sort)))))))

-- ---- clauses

mutual
  one-clause : (s : Session) (k : ℕ) (part : Opened) (number further : ℕ) (c : Clause) (left : ℕ)
      → Ends IsForeseenFunction (walk_clause s k part number further c left)
  one-clause s k part number further (Is pats binds right) left =
      next
      (walked s.signature (part_named s.name k) (own-walk s.signature part.tele part.goal part.terms (Is pats binds right) number left)) (λ w rest.
      dots s.signature (owner_of (part_named s.name k) number) w.ctx w.dots
      (after-walk s k number further (owner_of (part_named s.name k) number) w right) rest)

  after-walk : (s : Session) (k number further : ℕ) (owner : Owner) (w : Walk) (right : Right) (left : ℕ)
      → Ends IsForeseenFunction (walk_right s k number further owner w right left)
  after-walk s k number further owner w (clause.Side side) left =
      next (now {left = left} (halted (low (under_solution w.binds side)))) (λ body rest.
      next (grants s.signature (OfSide owner) (check s.signature nesting (reverse w.ctx) body w.goal rest)) (λ type end. done))
  after-walk s k number further owner w (clause.With scrutinee inner) left =
      next (now {left = left} (halted (low (under_solution w.binds scrutinee)))) (λ t rest.
      next (opens s owner w t rest) (λ o more. next (all-clauses s further (opened o w) 0 (further + 1) inner more) (λ given end. done)))
  after-walk s k number further owner w clause.Absurd left = done

  pub all-clauses : (s : Session) (k : ℕ) (part : Opened) (number further : ℕ) (cs : Clauses) (left : ℕ)
      → Ends IsForeseenFunction (walk_clauses s k part number further cs left)
  all-clauses s k part number further clause.nil left = done
  all-clauses s k part number further (clause.cons c cs) left =
      next (one-clause s k part number further c left) (λ given rest.
      next (all-clauses s k part (number + 1) (further + length given.helpers) cs rest) (λ others end. done))

-- ---- the plan

pub position : (s : Session) (choice : Choice) → Only IsForeseenFunction (position_chosen s choice)
position s NotRecursive = ok
position s (At j) = ok
position s (NotSmaller rows) = no tt

pub helpers : (s : Session) (r : Option Recursion) (level number : ℕ) (ws : List Walked) (left : ℕ)
    → Ends IsForeseenFunction (helpers_finished s r level number ws left)
helpers s r level number [] left = done
helpers s r level number (w ∷ ws) left =
    next (walked s.signature (part_named s.name number) (split s.signature w.part.tele w.part.goal w.part.terms w.clauses left)) (λ t rest.
    next (helpers s r level (number + 1) ws rest) (λ parts end. done))
