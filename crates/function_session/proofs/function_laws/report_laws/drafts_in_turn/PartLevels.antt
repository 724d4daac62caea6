-- No part of a plan has a level above the greatest one.
use Rattle.std.proofs.Common.{◌≡◌, ℕ, zero, suc, ◌+◌, ◌≤◌, nat_lt, Bool, true, false, cond, Option, Some, None, List, [], ◌∷◌, ◌++◌, length, reverse, slice_get, Ok, Err, IfOk, refl, subst as transport, arith}
use Rattle.std.proofs.lemmas.Bool.Decides.{nat_tests}
use Rattle.std.proofs.lemmas.Option.{none-some}
use Rattle.theory.specs.Terms.{Sort, Term}
use Rattle.theory.specs.Telescopes.{products}
use Rattle.theory.specs.Signatures.{Signature}
use Rattle.theory.specs.WellFormed.{provisional}
use Rattle.core_terms.specs.Answers.{bounded}
use Rattle.core_terms.specs.CaseTrees.{Walk}
use Rattle.core_terms.specs.Clauses as clause
use Rattle.core_terms.specs.Clauses.{Clause, Clauses, Is, Right}
use Rattle.case_trees.specs.OwnWalks.{own_walk_of}
use Rattle.case_trees.specs.Points.{under_solution}
use Rattle.case_trees.specs.Trees.{split_of}
use Rattle.tree_translation.specs.Naming.{part_named}
use Rattle.clause_reports.specs.elaboration.Functions.{helper_level, helpers_finished, own_finished, own_part, plan_of, position_chosen, recursion_in}
use Rattle.clause_reports.specs.elaboration.Refusals.{OfGoal, OfSide, OfWith, Owner, answers, granted, halting, level_too_high, or_halts, owner_of, walking}
use Rattle.clause_reports.specs.elaboration.Walking.{Given, Opened, Opening, Session, Walked, and_level, greatest_level, if_low_level, open_over, opened, walk_clause, walk_clauses, walk_right, without_self}
use Rattle.kernel_check.specs.Checking.{check_of, infer_of, infer_sort_of}
use Rattle.kernel_reduce.specs.Reduction.{nesting}
use Rattle.resolve.specs.Functions.{Function}
use Rattle.tree_translation.specs.structural_rec.Choices.{choose}
use Rattle.tree_translation.specs.Plans.{Part, Plan}
use Rattle.tree_translation.specs.Entries.{ordered_variables}
use Rattle.tree_translation.specs.Recursion.{Recursion, order_of, ordered_telescope, ordered_term}
use Rattle.with_abstraction.specs.Abstractions.{Abstracted, abstract_over_of}
use Rattle.function_session.proofs.plan_laws.Answering.{dots-have, if-ok, next-has}
use Rattle.function_session.specs.function_lines.Conditions.{ArePartsLow}

-- the helpers that are walked
abbrev AreLow : List Walked → Type 0
AreLow [] = Unit {0}
AreLow (w ∷ helpers) = (w.part.level ≤ greatest_level) × AreLow helpers

low-append : (first rest : List Walked) → AreLow first → AreLow rest → AreLow (first ++ rest)
low-append [] rest h k = k
low-append (w ∷ first) rest h k = (h.0, low-append first rest h.1 k)

abbrev HasLow : Given → Type 0
HasLow given = AreLow given.helpers

-- ---- openings

abbrev IsLowOpening : Opening → Type 0
IsLowOpening o = o.level ≤ greatest_level

level-low : (S : Signature) (owner : Owner) (a : Abstracted) (sort : Term) → IfOk (and_level a (if_low_level S owner sort)) IsLowOpening
level-low S owner a (Sort J) = by (nat_lt greatest_level J) refl
  where
    by : (b : Bool) → nat_lt greatest_level J ≡ b → IfOk (and_level a (cond b (Err (level_too_high S (OfGoal owner) J greatest_level)) (Ok J))) IsLowOpening
    by true is = tt
    by false is = (let low : J ≤ greatest_level = grind (arith, nat_tests, is) in low)
level-low S owner a _ = (let low : 0 ≤ greatest_level = omega arith in low)

open-low : (s : Session) (owner : Owner) (w : Walk) (t : Term) (left : ℕ) → IfOk (open_over s owner w t left).0 IsLowOpening
open-low s owner w t left =
    let S = s.signature in
    next-has IsLowOpening (granted S (OfWith owner) (infer_of S nesting (reverse w.ctx) t left)) _ (λ found rest e1.
    next-has IsLowOpening (answers (without_self s.own owner found) rest) _ (λ type rest e2.
    next-has IsLowOpening (halting (abstract_over_of S w.ctx w.goal t type rest)) _ (λ a more e3.
    next-has IsLowOpening (answers (without_self s.own owner a.goal) more) _ (λ goal more e4.
    next-has IsLowOpening (granted S (OfGoal owner) (infer_sort_of S nesting [] (products a.telescope goal) more)) _ (λ sort end e5.
    level-low S owner a sort)))))

-- ---- clauses

mutual
  clause-low : (s : Session) (k : ℕ) (part : Opened) (number next : ℕ) (c : Clause) (left : ℕ) → IfOk (walk_clause s k part number next c left).0 HasLow
  clause-low s k part number next (Is pats binds right) left =
      let owner = owner_of (part_named s.name k) number in
      next-has HasLow
      (walking s.signature (part_named s.name k) (own_walk_of s.signature part.tele part.goal part.terms (Is pats binds right) number left)) _ (λ w rest e.
      dots-have HasLow s.signature owner w.ctx w.dots (walk_right s k number next owner w right) rest (λ rest. right-low s k number next owner w right rest))

  right-low : (s : Session) (k number next : ℕ) (owner : Owner) (w : Walk) (right : Right) (left : ℕ) → IfOk (walk_right s k number next owner w right left).0 HasLow
  right-low s k number next owner w (clause.Side side) left =
      next-has HasLow (answers (or_halts (bounded (under_solution w.binds side))) left) _ (λ body rest e1.
      next-has HasLow (granted s.signature (OfSide owner) (check_of s.signature nesting (reverse w.ctx) body w.goal rest)) _ (λ found end e2. tt))
  right-low s k number next owner w (clause.With written inner) left =
      next-has HasLow (answers (or_halts (bounded (under_solution w.binds written))) left) _ (λ t rest e1.
      next-has HasLow (open_over s owner w t rest) _ (λ o further e2.
      next-has HasLow (walk_clauses s next (opened o w) 0 (next + 1) inner further) _ (λ given end e3. (
        if-ok IsLowOpening (open_over s owner w t rest).0 o e2 (open-low s owner w t rest),
        if-ok HasLow (walk_clauses s next (opened o w) 0 (next + 1) inner further).0 given e3 (clauses-low s next (opened o w) 0 (next + 1) inner further),
      ))))
  right-low s k number next owner w clause.Absurd left = tt

  clauses-low : (s : Session) (k : ℕ) (part : Opened) (number next : ℕ) (clauses : Clauses) (left : ℕ)
      → IfOk (walk_clauses s k part number next clauses left).0 HasLow
  clauses-low s k part number next clause.nil left = tt
  clauses-low s k part number next (clause.cons c clauses) left =
      next-has HasLow (walk_clause s k part number next c left) _ (λ given rest e1.
      next-has HasLow (walk_clauses s k part (number + 1) (next + length given.helpers) clauses rest) _ (λ others end e2.
      low-append given.helpers others.helpers
      (if-ok HasLow (walk_clause s k part number next c left).0 given e1 (clause-low s k part number next c left))
      (if-ok HasLow (walk_clauses s k part (number + 1) (next + length given.helpers) clauses rest).0 others e2
      (clauses-low s k part (number + 1) (next + length given.helpers) clauses rest))))

-- ---- parts

greater-low : (r : Option Recursion) (own level : ℕ) → own ≤ greatest_level → level ≤ greatest_level → helper_level r own level ≤ greatest_level
greater-low None own level h k = k
greater-low (Some r) own level h k = grind (arith, h, k)

finished-low : (s : Session) (r : Option Recursion) (level number : ℕ) (helpers : List Walked) (left : ℕ) → level ≤ greatest_level → AreLow helpers
    → IfOk (helpers_finished s r level number helpers left).0 ArePartsLow
finished-low s r level number [] left low h = tt
finished-low s r level number (w ∷ helpers) left low h =
    next-has ArePartsLow
    (walking s.signature (part_named s.name number) (split_of s.signature w.part.tele w.part.goal w.part.terms w.clauses left)) _ (λ t rest e1.
    next-has ArePartsLow (helpers_finished s r level (number + 1) helpers rest) _ (λ parts end e2. (
      greater-low r level w.part.level low h.0,
      if-ok ArePartsLow (helpers_finished s r level (number + 1) helpers rest).0 parts e2 (finished-low s r level (number + 1) helpers rest low h.1),
    )))

abbrev IsLowPart : Part → Type 0
IsLowPart part = part.level ≤ greatest_level

own-low : (s : Session) (r : Option Recursion) (w : Walked) (left : ℕ) → w.part.level ≤ greatest_level → IfOk (own_finished s r w left).0 IsLowPart
own-low s r w left low =
    let count = length w.part.tele in
    let order = order_of count r in
    next-has IsLowPart
    (walking s.signature s.name
    (split_of s.signature (ordered_telescope w.part.tele order) (ordered_term count order w.part.goal) (ordered_variables order count) w.clauses left))
    _ (λ t rest e. low)

-- each part of the plan
pub plan-low : (S : Signature) (f : Function) (level left : ℕ) → level ≤ greatest_level → IfOk (plan_of S f level left).0 (λ plan. ArePartsLow plan.parts)
plan-low S f level left low =
    let s : Session = record { signature = provisional S f.name f.type; name = f.name; own = length S.entries } in
    let part = own_part f level in
    let Q : Plan → Type 0 = λ plan. ArePartsLow plan.parts in
    next-has Q (walk_clauses s 0 part 0 1 f.clauses left) _ (λ given rest e1.
    let walked : Walked = record { part = part; clauses = f.clauses; walks = given.walks; sides = given.sides } in
    next-has Q (answers (position_chosen s (choose S part.tele s.own given.uses)) rest) _ (λ position more e2.
    let r = recursion_in S part.tele position in
    next-has Q (own_finished s r walked more) _ (λ own end e3.
    next-has Q (helpers_finished s r level 1 given.helpers end) _ (λ helpers last e4. (
      if-ok IsLowPart (own_finished s r walked more).0 own e3 (own-low s r walked more low),
      if-ok ArePartsLow (helpers_finished s r level 1 given.helpers end).0 helpers e4
          (finished-low s r level 1 given.helpers end low
          (if-ok HasLow (walk_clauses s 0 part 0 1 f.clauses left).0 given e1 (clauses-low s 0 part 0 1 f.clauses left))),
    )))))

pub part-low : (parts : List Part) (k : ℕ) (part : Part) → ArePartsLow parts → slice_get parts k ≡ Some part → part.level ≤ greatest_level
part-low [] k part low e = absurd (none-some part e)
part-low (first ∷ parts) zero part low e = transport (λ (o : Option Part). LowIn o) e low.0
  where
    LowIn : Option Part → Type 0
    LowIn None = Unit {0}
    LowIn (Some part) = part.level ≤ greatest_level
part-low (first ∷ parts) (suc k) part low e = part-low parts k part low.1 e
