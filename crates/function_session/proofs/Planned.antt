-- The plan of a function has its name, its type, and a walk for each clause. The lines of the function come after its plan.
use mathlib.Core.Path.{fun_ext}
use Rattle.std.proofs.Common.{◌≡◌, ℕ, suc, ◌+◌, Option, List, [], ◌∷◌, ◌++◌, map, length, reverse, refl, sym, ap, ap₂, ◌∙◌, length-append, arith}
use Rattle.std.proofs.lemmas.List.{map-append}
use Rattle.theory.specs.Terms.{Term}
use Rattle.theory.specs.Telescopes.{Telescope}
use Rattle.theory.specs.Signatures.{Signature}
use Rattle.theory.specs.WellFormed.{provisional}
use Rattle.core_terms.proofs.Answers.{Answers, and_next-has}
use Rattle.core_terms.specs.Clauses as clause
use Rattle.core_terms.specs.Clauses.{Clause, Clauses, Right, Is}
use Rattle.core_terms.specs.CaseTrees.{Walk}
use Rattle.case_trees.specs.OwnWalks.{own_walk_of}
use Rattle.case_trees.specs.Points.{under_solution}
use Rattle.case_trees.specs.Trees.{split_of}
use Rattle.core_terms.specs.Answers.{and_next, bounded}
use Rattle.tree_translation.specs.structural_rec.Choices.{choose}
use Rattle.tree_translation.specs.Entries.{ordered_variables}
use Rattle.tree_translation.specs.Plans.{Plan, Part}
use Rattle.tree_translation.specs.Recursion.{Recursion, order_of, ordered_telescope, ordered_term}
use Rattle.tree_translation.specs.Naming.{part_named}
use Rattle.clause_reports.proofs.Keeping.{Any, any}
use Rattle.resolve.specs.Functions.{Function}
use Rattle.kernel_check.specs.Checking.{check_of, infer_sort_of}
use Rattle.kernel_reduce.specs.Reduction.{nesting}
use Rattle.clause_reports.specs.elaboration.Refusals.{Elaborating, Owner, OfSide, OfType, answers, granted, or_halts, owner_of, walking}
use Rattle.clause_reports.specs.elaboration.Functions.{enter_plan, function_level, function_of, helpers_finished, own_finished, own_part, plan_of, planned_of, position_chosen, recursion_in, report_parts}
use Rattle.clause_reports.specs.elaboration.Walking.{Given, Opened, Session, Walked, after_dots, check_dot, open_over, opened, walk_clause, walk_clauses, walk_right}
use Rattle.drafts.proofs.draft_entering.Entered.{next-assoc}
use Rattle.function_session.specs.Laws.{inner, inner_of, inner_right}
use Rattle.function_session.proofs.Counting.{count_of}

-- ---- walks

abbrev pub walk_counts : List Walked → List ℕ
walk_counts helpers = map (λ w. length w.walks) helpers

-- so many walks, and helpers with the clauses of these lists
pub record HasWalks (count : ℕ) (parts : List Clauses) (given : Given) : Type 0 where
  pub walks : length given.walks ≡ count
  pub helpers : walk_counts given.helpers ≡ map count_of parts

pub after_dots-has : {A : Type 0} (P : A → Type 0) (S : Signature) (owner : Owner) (context : Telescope) (dots : List (Term × Term)) (next : ℕ → Elaborating A) (left : ℕ)
    → ((rest : ℕ) → Answers P (next rest)) → Answers P (after_dots S owner context dots next left)
after_dots-has P S owner context [] next left h = h left
after_dots-has P S owner context (d ∷ dots) next left h =
    and_next-has Any P (check_dot S owner context d left) _ (any (check_dot S owner context d left).0) (λ written rest u.
    after_dots-has P S owner context dots next rest h)

added : {A : Type 0} (xs ys : List A) (n : ℕ) → length xs ≡ 1 → length ys ≡ n → length (xs ++ ys) ≡ suc n
added xs ys n p q = omega (arith, length-append xs ys, p, q)

mutual
  walk_clause-has : (s : Session) (k : ℕ) (part : Opened) (number next : ℕ) (c : Clause) (left : ℕ)
      → Answers (HasWalks 1 (inner_of c)) (walk_clause s k part number next c left)
  walk_clause-has s k part number next (Is pats binds right) left =
      let S = s.signature in
      let name = part_named s.name k in
      let owner = owner_of name number in
      let P = HasWalks 1 (inner_right right) in
      let walked = walking S name (own_walk_of S part.tele part.goal part.terms (Is pats binds right) number left) in
      and_next-has Any P walked _ (any walked.0) (λ w rest u.
      after_dots-has P S owner w.ctx w.dots (walk_right s k number next owner w right) rest (λ more.
      walk_right-has s k number next owner w right more))

  walk_right-has : (s : Session) (k number next : ℕ) (owner : Owner) (w : Walk) (right : Right) (left : ℕ)
      → Answers (HasWalks 1 (inner_right right)) (walk_right s k number next owner w right left)
  walk_right-has s k number next owner w (clause.Side side) left =
      let P = HasWalks 1 [] in
      and_next-has Any P (or_halts (bounded (under_solution w.binds side)), left) _ (any (or_halts (bounded (under_solution w.binds side)))) (λ body rest u.
      and_next-has Any P (granted s.signature (OfSide owner) (check_of s.signature nesting (reverse w.ctx) body w.goal rest)) _
      (any (granted s.signature (OfSide owner) (check_of s.signature nesting (reverse w.ctx) body w.goal rest)).0) (λ type end v.
      record { walks = refl; helpers = refl }))
  walk_right-has s k number next owner w (clause.With scrutinee clauses) left =
      let P = HasWalks 1 (clauses ∷ inner clauses) in
      and_next-has Any P (or_halts (bounded (under_solution w.binds scrutinee)), left) _ (any (or_halts (bounded (under_solution w.binds scrutinee)))) (λ t rest u.
      and_next-has Any P (open_over s owner w t rest) _ (any (open_over s owner w t rest).0) (λ o more v.
      and_next-has (HasWalks (count_of clauses) (inner clauses)) P (walk_clauses s next (opened o w) 0 (next + 1) clauses more) _
      (walk_clauses-has s next (opened o w) 0 (next + 1) clauses more) (λ given end h.
      record { walks = refl; helpers = ap₂ (λ first rest. first ∷ rest) h.walks h.helpers })))
  walk_right-has s k number next owner w clause.Absurd left = record { walks = refl; helpers = refl }

  walk_clauses-has : (s : Session) (k : ℕ) (part : Opened) (number next : ℕ) (clauses : Clauses) (left : ℕ)
      → Answers (HasWalks (count_of clauses) (inner clauses)) (walk_clauses s k part number next clauses left)
  walk_clauses-has s k part number next clause.nil left = record { walks = refl; helpers = refl }
  walk_clauses-has s k part number next (clause.cons c clauses) left =
      let P = HasWalks (count_of (clause.cons c clauses)) (inner (clause.cons c clauses)) in
      and_next-has (HasWalks 1 (inner_of c)) P (walk_clause s k part number next c left) _ (walk_clause-has s k part number next c left) (λ given rest h.
      and_next-has (HasWalks (count_of clauses) (inner clauses)) P (walk_clauses s k part (number + 1) (next + length given.helpers) clauses rest) _
      (walk_clauses-has s k part (number + 1) (next + length given.helpers) clauses rest) (λ others end i.
      record {
        walks = added given.walks others.walks (count_of clauses) h.walks i.walks;
        helpers =
            map-append (λ (w : Walked). length w.walks) given.helpers others.helpers
            ∙ (ap₂ (λ first rest. first ++ rest) h.helpers i.helpers
            ∙ sym (map-append count_of (inner_of c) (inner clauses)));
      }))

-- ---- parts

abbrev pub part_counts : List Part → List ℕ
part_counts parts = map (λ p. length p.walks) parts

own-has : (s : Session) (r : Option Recursion) (w : Walked) (left : ℕ) → Answers (λ (p : Part). length p.walks ≡ length w.walks) (own_finished s r w left)
own-has s r w left =
    let count = length w.part.tele in
    let order = order_of count r in
    let split =
    walking s.signature s.name
    (split_of s.signature (ordered_telescope w.part.tele order) (ordered_term count order w.part.goal) (ordered_variables order count) w.clauses left) in
    and_next-has Any (λ (p : Part). length p.walks ≡ length w.walks) split _ (any split.0) (λ t rest u. refl)

helpers-have : (s : Session) (r : Option Recursion) (level number : ℕ) (helpers : List Walked) (left : ℕ)
    → Answers (λ parts. part_counts parts ≡ walk_counts helpers) (helpers_finished s r level number helpers left)
helpers-have s r level number [] left = refl
helpers-have s r level number (w ∷ helpers) left =
    let P : List Part → Type 0 = λ parts. part_counts parts ≡ walk_counts (w ∷ helpers) in
    let split = walking s.signature (part_named s.name number) (split_of s.signature w.part.tele w.part.goal w.part.terms w.clauses left) in
    and_next-has Any P split _ (any split.0) (λ t rest u.
    and_next-has (λ parts. part_counts parts ≡ walk_counts helpers) P (helpers_finished s r level (number + 1) helpers rest) _
    (helpers-have s r level (number + 1) helpers rest) (λ parts end h.
    ap (λ counts. length w.walks ∷ counts) h))

-- ---- the plan

pub record IsPlanOf (S : Signature) (f : Function) (plan : Plan) : Type 0 where
  pub base : plan.base ≡ length S.entries
  pub name : plan.name ≡ f.name
  pub type : plan.type ≡ f.type
  pub parts : part_counts plan.parts ≡ map count_of (f.clauses ∷ inner f.clauses)

pub plan-is : (S : Signature) (f : Function) (level left : ℕ) → Answers (IsPlanOf S f) (plan_of S f level left)
plan-is S f level left =
    let s : Session = record { signature = provisional S f.name f.type; name = f.name; own = length S.entries } in
    let part = own_part f level in
    let P = IsPlanOf S f in
    and_next-has (HasWalks (count_of f.clauses) (inner f.clauses)) P (walk_clauses s 0 part 0 1 f.clauses left) _ (walk_clauses-has s 0 part 0 1 f.clauses left) (λ given rest h.
    let walked : Walked = record { part = part; clauses = f.clauses; walks = given.walks; sides = given.sides } in
    let chosen = position_chosen s (choose S part.tele s.own given.uses) in
    and_next-has Any P (chosen, rest) _ (any chosen) (λ position more u.
    let r = recursion_in S part.tele position in
    and_next-has (λ (p : Part). length p.walks ≡ length given.walks) P (own_finished s r walked more) _ (own-has s r walked more) (λ own end o.
    and_next-has (λ parts. part_counts parts ≡ walk_counts given.helpers) P (helpers_finished s r level 1 given.helpers end) _ (helpers-have s r level 1 given.helpers end) (λ helpers last hs.
    record {
      base = refl;
      name = refl;
      type = refl;
      parts = ap₂ (λ first rest. first ∷ rest) (o ∙ h.walks) (hs ∙ h.helpers);
    }))))

pub function-planned : (S : Signature) (f : Function) (fuel : ℕ)
    → function_of S f fuel
    ≡ and_next (planned_of S f fuel) (λ plan end. and_next (enter_plan S plan end) (λ T last. report_parts plan 0 plan.parts T last))
function-planned S f fuel =
    let asked = granted S OfType (infer_sort_of S nesting [] f.type fuel) in
    sym
    (next-assoc asked (λ sort rest. and_next (answers (function_level S sort) rest) (λ level more. plan_of S f level more)) _
    ∙ ap (λ go. and_next asked go)
    (fun_ext (λ sort. fun_ext (λ rest. next-assoc (answers (function_level S sort) rest) (λ level more. plan_of S f level more) _))))
