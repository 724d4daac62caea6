-- The own walks of the clauses of a function, one after the other: each is followed by its dots and by its right side, or by its scrutinee,
-- the helper that the abstraction over it opens, and the clauses inside.
use Rattle.std.specs.Prelude.{ℕ, ◌+◌, ◌-◌, Bool, true, false, nat_lt, cond, List, [], ◌∷◌, ◌++◌, length, map, take, drop, reverse, Result, Ok, Err}
use Rattle.theory.specs.Terms.{Term, Var, Sort, Const, top}
use Rattle.theory.specs.Substitutions.{inst}
use Rattle.theory.specs.Telescopes.{Telescope, products, applied}
use Rattle.theory.specs.Signatures.{Signature}
use Rattle.core_terms.specs.Answers.{and_next, bounded}
use Rattle.core_terms.specs.CaseTrees.{Walk}
use Rattle.core_terms.specs.Clauses as clause
use Rattle.core_terms.specs.Clauses.{Clause, Clauses, Right, Is}
use Rattle.kernel_check.specs.Checking.{infer_of, infer_sort_of, check_of}
use Rattle.kernel_reduce.specs.Comparison.{convertible_of}
use Rattle.kernel_reduce.specs.Reduction.{nesting}
use Rattle.tree_translation.specs.structural_rec.Calls.{has_constant}
use Rattle.tree_translation.specs.structural_rec.Uses.{Use}
use Rattle.case_trees.specs.Points.{under_solution}
use Rattle.case_trees.specs.OwnWalks.{own_walk_of}
use Rattle.tele_eq.specs.Levels.{place_in}
use Rattle.with_abstraction.specs.Abstractions.{Abstracted, abstract_over_of}
use Rattle.tree_translation.specs.Naming.{part_named}
use Rattle.core_text.specs.ContextText.{context_text}
use Rattle.core_text.specs.TermText.{term_text}
use Rattle.clause_reports.specs.elaboration.Refusals.{Owner, owner_of, OfDot, OfSide, OfWith, OfGoal, Refusal, DotMismatch, SelfInType, Elaborating, answers, or_halts, halting, granted, level_too_high, walking}

-- the greatest level of a function or helper: up to it, the entries that are generated for one have a type
abbrev pub greatest_level : ℕ
greatest_level = top - 3

-- ---- the data of a walk

-- The signature with the function as a provisional constant at its end, the function's name, and the constant's number.
pub record Session : Type 0 where
  pub signature : Signature
  pub name : List ℕ
  pub own : ℕ

-- The function or a helper before its clauses are walked: its level, its telescope, the terms of its columns and its goal.
pub record Opened : Type 0 where
  pub level : ℕ
  pub tele : Telescope
  pub terms : List Term
  pub goal : Term

-- The function or a helper with its clauses, and for each of them its own walk and its right side.
pub record Walked : Type 0 where
  pub part : Opened
  pub clauses : Clauses
  pub walks : List Walk
  pub sides : List Term

-- The results of the walks of some clauses: for each clause its walk and its right side; the helpers of all `with` among them, those inside
-- after the one around them; and their uses of the function, in the order in which they are written.
pub record Given : Type 0 where
  pub walks : List Walk
  pub sides : List Term
  pub helpers : List Walked
  pub uses : List Use

abbrev pub nothing : Given
nothing = record { walks = []; sides = []; helpers = []; uses = [] }

abbrev pub joined : Given → Given → Given
joined first rest = record {
  walks = first.walks ++ rest.walks;
  sides = first.sides ++ rest.sides;
  helpers = first.helpers ++ rest.helpers;
  uses = first.uses ++ rest.uses;
}

-- ---- dots

-- the written term, where it converts with the forced one
abbrev pub if_forced : Signature → Owner → Telescope → (written forced : Term) → Bool → Result Term Refusal
if_forced S owner context written forced true = Ok written
if_forced S owner context written forced false =
    Err (DotMismatch owner (context_text S context) (term_text S written) (term_text S forced))

-- The forced term has a type, which the written one has too, and the two convert.
abbrev pub check_dot : Signature → Owner → Telescope → Term × Term → ℕ → Elaborating Term
check_dot S owner context d left =
    and_next (granted S (OfDot owner) (infer_of S nesting (reverse context) d.1 left)) (λ type rest.
    and_next (granted S (OfDot owner) (check_of S nesting (reverse context) d.0 type rest)) (λ same more.
    and_next (halting (convertible_of S nesting d.0 d.1 more)) (λ holds end.
    answers (if_forced S owner context d.0 d.1 holds) end)))

-- goes on after all dots
abbrev pub after_dots : {A : Type 0} → Signature → Owner → Telescope → List (Term × Term) → (next : ℕ → Elaborating A) → ℕ → Elaborating A
after_dots S owner context [] next left = next left
after_dots S owner context (d ∷ dots) next left =
    and_next (check_dot S owner context d left) (λ written rest. after_dots S owner context dots next rest)

-- ---- scrutinees

-- a term that does not mention the function, or SelfInType
abbrev pub without_self : (own : ℕ) → Owner → Term → Result Term Refusal
without_self own owner t = cond (has_constant own t) (Err (SelfInType owner)) (Ok t)

-- the level of a part, where it is not too high
abbrev pub if_low_level : Signature → Owner → (sort : Term) → Result ℕ Refusal
if_low_level S owner (Sort J) = cond (nat_lt greatest_level J) (Err (level_too_high S (OfGoal owner) J greatest_level)) (Ok J)
if_low_level S owner sort = Ok 0

-- The abstraction that opens a helper: that of the goal and of the types of the context over the scrutinee t, whose product has a level.
-- The columns of the helper are those of the clause and then the new variable.
pub record Opening : Type 0 where
  pub abstraction : Abstracted
  pub level : ℕ

abbrev pub and_level : Abstracted → Result ℕ Refusal → Result Opening Refusal
and_level a (Ok J) = Ok (record { abstraction = a; level = J })
and_level a (Err e) = Err e

abbrev pub open_over : Session → Owner → Walk → (t : Term) → ℕ → Elaborating Opening
open_over s owner w t left =
    let S = s.signature in
    and_next (granted S (OfWith owner) (infer_of S nesting (reverse w.ctx) t left)) (λ found rest.
    and_next (answers (without_self s.own owner found) rest) (λ type rest.
    and_next (halting (abstract_over_of S w.ctx w.goal t type rest)) (λ a more.
    and_next (answers (without_self s.own owner a.goal) more) (λ goal more.
    and_next (granted S (OfGoal owner) (infer_sort_of S nesting [] (products a.telescope goal) more)) (λ sort end.
    answers (and_level a (if_low_level S owner sort)) end)))))

-- the variables of a walk's context in the helper's order, with the scrutinee in the place of the new variable
abbrev pub helper_arguments : Abstracted → (t : Term) → List Term
helper_arguments a t = map Var (take a.place a.order) ++ t ∷ map Var (drop a.place a.order)

-- variable x of the walk's context over the helper's telescope, which has one variable more
abbrev pub variable_in : Abstracted → (x : ℕ) → Term
variable_in a x =
    let place = place_in a.order x in
    let count = length a.order in
    Var (count - cond (nat_lt place a.place) place (place + 1))

abbrev pub helper_terms : Abstracted → List Term → List Term
helper_terms a terms = map (inst (variable_in a)) terms ++ Var (length a.order - a.place) ∷ []

abbrev pub opened : Opening → Walk → Opened
opened o w = record {
  level = o.level;
  tele = o.abstraction.telescope;
  terms = helper_terms o.abstraction w.terms;
  goal = o.abstraction.goal;
}

-- ---- clauses

abbrev pub use_of : (k number : ℕ) → Walk → (body : Term) → Use
use_of k number w body = record { function = k; clause = number; terms = w.terms; body = body }

-- the results of a clause that has a right side
abbrev pub side_given : (k number : ℕ) → Walk → (side body : Term) → Given
side_given k number w side body = record {
  walks = w ∷ [];
  sides = side ∷ [];
  helpers = [];
  uses = use_of k number w body ∷ [];
}

-- the results of a clause that has a scrutinee: its right side is the call of its helper, which comes before the helpers inside
abbrev pub with_given : Session → (k number helper : ℕ) → Walk → (t : Term) → Opening → Clauses → Given → Given
with_given s k number helper w t o inner given = record {
  walks = w ∷ [];
  sides = applied (Const (s.own + helper)) (helper_arguments o.abstraction t) ∷ [];
  helpers = record { part = opened o w; clauses = inner; walks = given.walks; sides = given.sides } ∷ given.helpers;
  uses = use_of k number w t ∷ given.uses;
}

-- the results of a clause that has neither
abbrev pub absurd_given : Walk → Given
absurd_given w = record { walks = w ∷ []; sides = Sort 0 ∷ []; helpers = []; uses = [] }

abbrev mutual
  -- Clause `number` of part k, where `next` is the number of the next helper.
  pub walk_clause : Session → (k : ℕ) → Opened → (number next : ℕ) → Clause → ℕ → Elaborating Given
  walk_clause s k part number next (Is pats binds right) left =
      let S = s.signature in
      let name = part_named s.name k in
      let owner = owner_of name number in
      and_next (walking S name (own_walk_of S part.tele part.goal part.terms (Is pats binds right) number left)) (λ w rest.
      after_dots S owner w.ctx w.dots (walk_right s k number next owner w right) rest)

  -- the clause after its walk and its dots: its right side is checked, or the clauses inside are walked
  pub walk_right : Session → (k number next : ℕ) → Owner → Walk → Right → ℕ → Elaborating Given
  walk_right s k number next owner w (clause.Side side) left =
      let S = s.signature in
      and_next (answers (or_halts (bounded (under_solution w.binds side))) left) (λ body rest.
      and_next (granted S (OfSide owner) (check_of S nesting (reverse w.ctx) body w.goal rest)) (λ type end.
      answers (Ok (side_given k number w side body)) end))
  walk_right s k number next owner w (clause.With scrutinee inner) left =
      and_next (answers (or_halts (bounded (under_solution w.binds scrutinee))) left) (λ t rest.
      and_next (open_over s owner w t rest) (λ o more.
      and_next (walk_clauses s next (opened o w) 0 (next + 1) inner more) (λ given end.
      answers (Ok (with_given s k number next w t o inner given)) end)))
  walk_right s k number next owner w clause.Absurd left = answers (Ok (absurd_given w)) left

  pub walk_clauses : Session → (k : ℕ) → Opened → (number next : ℕ) → Clauses → ℕ → Elaborating Given
  walk_clauses s k part number next clause.nil left = answers (Ok nothing) left
  walk_clauses s k part number next (clause.cons c clauses) left =
      and_next (walk_clause s k part number next c left) (λ given rest.
      and_next (walk_clauses s k part (number + 1) (next + length given.helpers) clauses rest) (λ others end.
      answers (Ok (joined given others)) end))
