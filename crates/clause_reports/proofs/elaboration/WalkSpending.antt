-- The own walks of a function's clauses, with all that follows each, give no units back.
use Rattle.std.proofs.Common.{ℕ, ◌+◌, ◌≤◌, List, [], ◌∷◌, length, reverse, arith}
use Rattle.theory.specs.Terms.{Term}
use Rattle.theory.specs.Telescopes.{Telescope, products}
use Rattle.theory.specs.Signatures.{Signature}
use Rattle.core_terms.specs.Answers.{bounded}
use Rattle.core_terms.specs.CaseTrees.{Walk}
use Rattle.core_terms.specs.Clauses as clause
use Rattle.core_terms.specs.Clauses.{Clause, Clauses, Right, Is}
use Rattle.core_terms.proofs.Answers.{and_next-spends}
use Rattle.kernel_check.specs.Checking.{infer_of, infer_sort_of, check_of}
use Rattle.kernel_check.proofs.Spending.{infer-spends, infer_sort-spends, check-spends}
use Rattle.kernel_reduce.specs.Comparison.{convertible_of}
use Rattle.kernel_reduce.specs.Reduction.{nesting}
use Rattle.kernel_reduce.proofs.ComparisonLaws.{convertible-spends}
use Rattle.case_trees.specs.Points.{under_solution}
use Rattle.case_trees.specs.OwnWalks.{own_walk_of}
use Rattle.case_trees.proofs.SpentUnits.{walk_spends}
use Rattle.with_abstraction.specs.Abstractions.{abstract_over_of}
use Rattle.with_abstraction.proofs.ScopedAbstractions.{abstraction-spends}
use Rattle.clause_reports.specs.elaboration.Refusals.{Owner, owner_of, OfDot, OfSide, OfWith, OfGoal, Elaborating, or_halts, halting, granted, walking}
use Rattle.tree_translation.specs.Naming.{part_named}
use Rattle.clause_reports.specs.elaboration.Walking.{Session, Opened, check_dot, after_dots, without_self, open_over, opened, walk_clause, walk_right, walk_clauses}

check_dot-spends : (S : Signature) (owner : Owner) (context : Telescope) (d : Term × Term) (left : ℕ) → (check_dot S owner context d left).1 ≤ left
check_dot-spends S owner context d left =
    and_next-spends (granted S (OfDot owner) (infer_of S nesting (reverse context) d.1 left)) _ left (infer-spends S nesting (reverse context) d.1 left)
    (λ type rest. and_next-spends (granted S (OfDot owner) (check_of S nesting (reverse context) d.0 type rest)) _ rest
    (check-spends S nesting (reverse context) d.0 type rest)
    (λ same more. and_next-spends (halting (convertible_of S nesting d.0 d.1 more)) _ more (convertible-spends S nesting d.0 d.1 more) (λ holds end. omega arith)))

after_dots-spends : {A : Type 0} (S : Signature) (owner : Owner) (context : Telescope) (dots : List (Term × Term)) (next : ℕ → Elaborating A) (left : ℕ)
    → ((rest : ℕ) → (next rest).1 ≤ rest) → (after_dots S owner context dots next left).1 ≤ left
after_dots-spends S owner context [] next left h = h left
after_dots-spends S owner context (d ∷ dots) next left h =
    and_next-spends (check_dot S owner context d left) _ left (check_dot-spends S owner context d left) (λ written rest.
    after_dots-spends S owner context dots next rest h)

open_over-spends : (s : Session) (owner : Owner) (w : Walk) (t : Term) (left : ℕ) → (open_over s owner w t left).1 ≤ left
open_over-spends s owner w t left =
    let S = s.signature in
    and_next-spends (granted S (OfWith owner) (infer_of S nesting (reverse w.ctx) t left)) _ left (infer-spends S nesting (reverse w.ctx) t left) (λ found rest.
    and_next-spends (without_self s.own owner found, rest) _ rest (omega arith) (λ type more.
    and_next-spends (halting (abstract_over_of S w.ctx w.goal t type more)) _ more (abstraction-spends S w.ctx w.goal t type more) (λ a more.
    and_next-spends (without_self s.own owner a.goal, more) _ more (omega arith) (λ goal more.
    and_next-spends (granted S (OfGoal owner) (infer_sort_of S nesting [] (products a.telescope goal) more)) _ more
    (infer_sort-spends S nesting [] (products a.telescope goal) more) (λ sort end. omega arith)))))

mutual
  walk_clause-spends : (s : Session) (k : ℕ) (part : Opened) (number next : ℕ) (c : Clause) (left : ℕ) → (walk_clause s k part number next c left).1 ≤ left
  walk_clause-spends s k part number next (Is pats binds right) left =
      let S = s.signature in
      let name = part_named s.name k in
      let owner = owner_of name number in
      and_next-spends (walking S name (own_walk_of S part.tele part.goal part.terms (Is pats binds right) number left)) _ left
      (walk_spends S part.tele part.goal part.terms (Is pats binds right) number left) (λ w rest.
      after_dots-spends S owner w.ctx w.dots (walk_right s k number next owner w right) rest (walk_right-spends s k number next owner w right))

  walk_right-spends : (s : Session) (k number next : ℕ) (owner : Owner) (w : Walk) (right : Right) (left : ℕ)
      → (walk_right s k number next owner w right left).1 ≤ left
  walk_right-spends s k number next owner w (clause.Side side) left =
      let S = s.signature in
      and_next-spends (or_halts (bounded (under_solution w.binds side)), left) _ left (omega arith) (λ body rest.
      and_next-spends (granted S (OfSide owner) (check_of S nesting (reverse w.ctx) body w.goal rest)) _ rest
      (check-spends S nesting (reverse w.ctx) body w.goal rest) (λ type end. omega arith))
  walk_right-spends s k number next owner w (clause.With scrutinee inner) left =
      and_next-spends (or_halts (bounded (under_solution w.binds scrutinee)), left) _ left (omega arith) (λ t rest.
      and_next-spends (open_over s owner w t rest) _ rest (open_over-spends s owner w t rest) (λ o more.
      and_next-spends (walk_clauses s next (opened o w) 0 (next + 1) inner more) _ more (walk_clauses-spends s next (opened o w) 0 (next + 1) inner more) (λ given end.
      omega arith)))
  walk_right-spends s k number next owner w clause.Absurd left = omega arith

  pub walk_clauses-spends : (s : Session) (k : ℕ) (part : Opened) (number next : ℕ) (clauses : Clauses) (left : ℕ)
      → (walk_clauses s k part number next clauses left).1 ≤ left
  walk_clauses-spends s k part number next clause.nil left = omega arith
  walk_clauses-spends s k part number next (clause.cons c clauses) left =
      and_next-spends (walk_clause s k part number next c left) _ left (walk_clause-spends s k part number next c left) (λ given rest.
      and_next-spends (walk_clauses s k part (number + 1) (next + length given.helpers) clauses rest) _ rest
      (walk_clauses-spends s k part (number + 1) (next + length given.helpers) clauses rest) (λ others end. omega arith))
