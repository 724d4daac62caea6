-- The abstraction of a scrutinee: a new variable stands for it in the goal and in the types of the context.
use Rattle.std.specs.Prelude.{ℕ, ◌+◌, ◌-◌, cond, List, [], ◌∷◌, ◌++◌, length, map, Ok}
use Rattle.theory.specs.Terms.{Term, lift}
use Rattle.theory.specs.Telescopes.{Telescope}
use Rattle.theory.specs.Signatures.{Signature}
use Rattle.core_terms.specs.Answers.{Spent, and_next, is_low}
use Rattle.kernel_reduce.specs.Reduction.{answered, if_low}
use Rattle.tele_eq.specs.Environments.{put}
use Rattle.tele_eq.specs.Levels.{is_among}
use Rattle.unification.specs.Solving.{reordered}
use Rattle.with_abstraction.specs.NormalForms.{NormalForms, normal_forms_of}
use Rattle.with_abstraction.specs.Needed.{widened, needed}
use Rattle.with_abstraction.specs.Occurrences.{without}
use Rattle.with_abstraction.specs.Orders.{behind, in_front, arranged}

-- The telescope with the new variable, the goal over it, the place of the new variable, and for each other place the number of the
-- variable of the context that is there.
pub record Abstracted : Type 0 where
  pub telescope : Telescope
  pub goal : Term
  pub place : ℕ
  pub order : List ℕ

-- The types of a context, the first of which is that of the variable with level j, one variable further in: the new variable is
-- for t in each of them, but not in those that the scrutinee's type needs.
abbrev pub opened : (t : Term) (kept : List ℕ) (j : ℕ) (types : List Term) → List Term
opened t kept j [] = []
opened t kept j (a ∷ types) = cond (is_among j kept) (lift a 1 0) (without t a) ∷ opened t kept (j + 1) types

-- the types of a context without t, where S is the scrutinee's type; all are terms over n variables
abbrev pub opened_types : (n : ℕ) (t S : Term) (types : List Term) → List Term
opened_types n t S types = opened t (needed n types S) 0 types

-- a goal over n variables without t, after these variables and the new one in an order
abbrev pub arranged_goal : (order : List ℕ) (n : ℕ) (t : Term) (goal : Term) → Term
arranged_goal order n t goal = put (reordered order) (n + 1) (n + 1) (without t goal)

-- the types of the context and of the new variable, in the order of the levels in front of it, itself, and those after it
abbrev pub placed_with : (n : ℕ) (t : Term) (types : List Term) (goal : Term) (front behind : List ℕ) → Abstracted
placed_with n t types goal front behind = record {
  telescope = arranged (front ++ n ∷ behind) n types 0 (front ++ n ∷ behind);
  goal = arranged_goal (front ++ n ∷ behind) n t goal;
  place = length front;
  order = map (λ j. n - (j + 1)) (front ++ behind);
}

-- the new variable of type S after the context whose types are opened, and all of these in their new order
abbrev pub arranged_with : (n : ℕ) (t S : Term) (types : List Term) (goal : Term) → Abstracted
arranged_with n t S types goal = placed_with n t (types ++ lift S 1 0 ∷ []) goal (in_front n types) (behind n types)

-- the scrutinee has the type S
abbrev pub abstracted : NormalForms → (S : Term) → Abstracted
abstracted m S =
    let n = length m.types in
    arranged_with n m.scrutinee S (opened_types n m.scrutinee S (widened n 0 m.types)) m.goal

-- Units are spent on normal forms alone. The type is taken as it is, and is Deep after them where it is too high.
abbrev pub abstract_over_of : Signature → (context : Telescope) (goal t type : Term) → ℕ → Spent Abstracted
abstract_over_of S context goal t type left =
    and_next (normal_forms_of S context goal t left) (λ m rest. if_low (is_low type) (answered (Ok (abstracted m type))) rest)
