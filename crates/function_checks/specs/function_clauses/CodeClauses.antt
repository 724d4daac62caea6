-- The walks of clauses, one call after the other, as the code makes them.
use Rattle.std.specs.Prelude.{ℕ, ◌+◌, List, [], ◌∷◌, length, reverse, Ok}
use Rattle.theory.specs.Terms.{Term, Const}
use Rattle.theory.specs.Telescopes.{applied}
use Rattle.theory.specs.Signatures.{Signature}
use Rattle.core_terms.specs.Answers.{and_next, bounded}
use Rattle.core_terms.specs.CaseTrees.{Walk}
use Rattle.core_terms.specs.Clauses.{Clause, Clauses}
use Rattle.case_trees.specs.OwnWalks.{own_walk_of}
use Rattle.case_trees.specs.Points.{under_solution}
use Rattle.clause_reports.specs.elaboration.Refusals.{Owner, OfSide, Elaborating, answers, granted, or_halts, owner_of, walking}
use Rattle.clause_reports.specs.elaboration.Walking.{Session, Opened, Opening, Given, helper_arguments, joined, open_over, opened, side_given, use_of, walk_clauses}
use Rattle.kernel_check.specs.Checking.{check_of}
use Rattle.kernel_reduce.specs.Reduction.{nesting}
use Rattle.function_checks.specs.walk_checks.CodeDots.{dots_checked}

-- the walk itself, once all of its dots are forced
abbrev pub with_dots : Signature → Owner → Walk → ℕ → Elaborating Walk
with_dots S owner w left = and_next (dots_checked S owner w.ctx w.dots left) (λ u more. answers (Ok w) more)

-- a clause's own walk with its dots
abbrev pub clause_walked : Signature → (function : List ℕ) → Opened → (number : ℕ) → Clause → ℕ → Elaborating Walk
clause_walked S function part number c left =
    and_next (walking S function (own_walk_of S part.tele part.goal part.terms c number left)) (λ w rest.
    with_dots S (owner_of function number) w rest)

-- the results of a clause whose right side, over the context of its walk, has the type of the goal
abbrev pub side_checked : Signature → (k number : ℕ) → Owner → Walk → (side body : Term) → ℕ → Elaborating Given
side_checked S k number owner w side body left =
    and_next (granted S (OfSide owner) (check_of S nesting (reverse w.ctx) body w.goal left)) (λ type end.
    answers (Ok (side_given k number w side body)) end)

-- the scrutinee of a clause over the context of its walk, the call of the helper over it, and that helper
pub record Scrutinee : Type 0 where
  pub term : Term
  pub side : Term
  pub part : Opened

abbrev pub scrutinee_over : Session → (helper : ℕ) → Walk → (t : Term) → Opening → Scrutinee
scrutinee_over s helper w t o = record {
  term = t;
  side = applied (Const (s.own + helper)) (helper_arguments o.abstraction t);
  part = opened o w;
}

-- a scrutinee over the context of a walk, once it is there
abbrev pub helper_opened : Session → (helper : ℕ) → Owner → Walk → (t : Term) → ℕ → Elaborating Scrutinee
helper_opened s helper owner w t left =
    and_next (open_over s owner w t left) (λ o more. answers (Ok (scrutinee_over s helper w t o)) more)

abbrev pub scrutinised : Session → (helper : ℕ) → Owner → Walk → (written : Term) → ℕ → Elaborating Scrutinee
scrutinised s helper owner w written left =
    and_next (answers (or_halts (bounded (under_solution w.binds written))) left) (λ t rest. helper_opened s helper owner w t rest)

-- the results of a clause that has a scrutinee, with those of the clauses inside
abbrev pub with_scrutinee : (k number : ℕ) → Walk → Scrutinee → Clauses → Given → Given
with_scrutinee k number w x inner given = record {
  walks = w ∷ [];
  sides = x.side ∷ [];
  helpers = record { part = x.part; clauses = inner; walks = given.walks; sides = given.sides } ∷ given.helpers;
  uses = use_of k number w x.term ∷ given.uses;
}

-- the clauses of a helper
abbrev pub inside_walked : Session → (k number helper : ℕ) → Walk → Scrutinee → Clauses → ℕ → Elaborating Given
inside_walked s k number helper w x inner left =
    and_next (walk_clauses s helper x.part 0 (helper + 1) inner left) (λ given end.
    answers (Ok (with_scrutinee k number w x inner given)) end)

-- the results of a clause that are given, and those of the clauses after it
abbrev pub others_walked : Session → (k : ℕ) → Opened → (number next : ℕ) → Given → Clauses → ℕ → Elaborating Given
others_walked s k part number next given clauses left =
    and_next (walk_clauses s k part (number + 1) (next + length given.helpers) clauses left) (λ others end.
    answers (Ok (joined given others)) end)
