-- A plan has a part for the function itself and one for each `with` among its clauses.
use Rattle.std.proofs.Common.{◌≡◌, ℕ, suc, ◌+◌, ◌<◌, ◌≤◌, List, [], ◌∷◌, length, reverse, Option, Some, IfOk, refl, ap, ap₂, ◌∙◌, length-append, arith}
use Rattle.theory.specs.Terms.{Term, Const}
use Rattle.theory.specs.Telescopes.{Telescope}
use Rattle.theory.specs.Signatures.{Signature}
use Rattle.theory.specs.WellFormed.{provisional}
use Rattle.core_terms.specs.Answers.{bounded}
use Rattle.core_terms.specs.CaseTrees.{Walk}
use Rattle.core_terms.specs.Clauses as core
use Rattle.core_terms.proofs.Answers.{Answers, and_next-has, and_then-has}
use Rattle.surface_syntax.specs.Trees as surf
use Rattle.surface_syntax.specs.declared.tree.Word.{Word}
use Rattle.kernel_check.specs.Checking.{check_of}
use Rattle.kernel_reduce.specs.Reduction.{nesting}
use Rattle.resolve.specs.Families.{declared}
use Rattle.resolve.specs.Functions.{Function, function, clause, clauses, clause_head, right_side, arity_of, allowed_by}
use Rattle.resolve.specs.Names.{Known, Scope, known_in, scope_of, with_name}
use Rattle.resolve.specs.Patterns.{bound_all, patterns}
use Rattle.resolve.specs.Resolving.{resolve}
use Rattle.case_trees.specs.OwnWalks.{own_walk_of}
use Rattle.case_trees.specs.Points.{under_solution}
use Rattle.case_trees.specs.Trees.{split_of}
use Rattle.tree_translation.specs.Naming.{part_named}
use Rattle.tree_translation.specs.structural_rec.Choices.{choose}
use Rattle.tree_translation.specs.Plans.{Part, Plan}
use Rattle.tree_translation.specs.Recursion.{Recursion}
use Rattle.clause_reports.specs.elaboration.Functions.{helpers_finished, own_finished, own_part, plan_of, position_chosen, recursion_in}
use Rattle.clause_reports.specs.elaboration.Refusals.{Elaborating, OfSide, Owner, answers, granted, or_halts, owner_of, walking}
use Rattle.clause_reports.specs.elaboration.Walking.{Given, Opened, Session, Walked, after_dots, check_dot, open_over, opened, walk_clause, walk_clauses, walk_right}
use Rattle.surface_syntax.specs.word_laws.Numbers.{withs_right as written_right, withs_clause as written_clause, withs as written}
use Rattle.elim.specs.headline.writing_laws.Writing.{HasFewParts}
use Rattle.elim.proofs.headline.writing_laws.Carrying.{any, Any, if-ok, skip}

-- ---- how many `with` there are in clauses

abbrev mutual
  withs_right : core.Right → ℕ
  withs_right (core.Side t) = 0
  withs_right (core.With t cs) = 1 + withs cs
  withs_right core.Absurd = 0

  withs_clause : core.Clause → ℕ
  withs_clause (core.Is pats binds right) = withs_right right

  withs : core.Clauses → ℕ
  withs core.nil = 0
  withs (core.cons c cs) = withs_clause c + withs cs

-- as many as are written
module _ (S : Signature) (known : Known) (own : List ℕ) where
  mutual
    clause-withs : (allowed : Option ℕ) (c : surf.Clause) → IfOk (clause S known own allowed c) (λ d. withs_clause d ≡ written_clause c)
    clause-withs allowed (surf.Is x pats right) =
        let variables = bound_all S (surf.pats pats) in
        let Q : core.Clause → Type 0 = λ d. withs_clause d ≡ written_right right in
        and_then-has Any Q (clause_head own allowed (length pats) x) _ (any (clause_head own allowed (length pats) x)) (λ n u.
        and_then-has Any Q (patterns S known (scope_of variables) [] (surf.pats pats)) _ (any (patterns S known (scope_of variables) [] (surf.pats pats))) (λ qs v.
        and_then-has (λ r. withs_right r ≡ written_right right) Q (right_side S known own (scope_of variables) n right) _ (right-withs (scope_of variables) n right) (λ r e. e)))

    right-withs : (scope : Scope) (n : ℕ) (right : surf.Right) → IfOk (right_side S known own scope n right) (λ r. withs_right r ≡ written_right right)
    right-withs scope n (surf.Side t) =
        and_then-has Any (λ r. withs_right r ≡ 0) (resolve known t scope) _ (any (resolve known t scope)) (λ u v. refl)
    right-withs scope n (surf.With t cs) =
        let Q : core.Right → Type 0 = λ r. withs_right r ≡ 1 + written cs in
        and_then-has Any Q (resolve known t scope) _ (any (resolve known t scope)) (λ u v.
        and_then-has (λ ds. withs ds ≡ written cs) Q (clauses S known own (Some (n + 1)) cs) _ (clauses-withs (Some (n + 1)) cs) (λ ds e. ap (λ k. 1 + k) e))
    right-withs scope n surf.Absurd = refl

    clauses-withs : (allowed : Option ℕ) (cs : surf.Clauses) → IfOk (clauses S known own allowed cs) (λ ds. withs ds ≡ written cs)
    clauses-withs allowed surf.no_clause = refl
    clauses-withs allowed (surf.also c cs) =
        let Q : core.Clauses → Type 0 = λ ds. withs ds ≡ written_clause c + written cs in
        and_then-has (λ d. withs_clause d ≡ written_clause c) Q (clause S known own allowed c) _ (clause-withs allowed c) (λ d e.
        and_then-has (λ ds. withs ds ≡ written cs) Q (clauses S known own allowed cs) _ (clauses-withs allowed cs) (λ ds f. ap₂ (λ j k. j + k) e f))

function-withs : (S : Signature) (x : Word) (ty : surf.Surf) (cs : surf.Clauses) → IfOk (function S x ty cs) (λ f. withs f.clauses ≡ written cs)
function-withs S x ty cs =
    let Q : Function → Type 0 = λ f. withs f.clauses ≡ written cs in
    and_then-has Any Q (declared S [] x) _ (any (declared S [] x)) (λ own u.
    and_then-has Any Q (resolve (known_in S) ty []) _ (any (resolve (known_in S) ty [])) (λ type v.
    let known = with_name own (Const (length S.entries)) (known_in S) in
    let allowed = allowed_by type (arity_of type cs) in
    and_then-has (λ ds. withs ds ≡ written cs) Q (clauses S known own allowed cs) _ (clauses-withs S known own allowed cs) (λ ds e. e)))

-- ---- each of them gives a helper

abbrev Helps : ℕ → Given → Type 0
Helps n given = length given.helpers ≡ n

dots-passed : {A : Type 0} (Q : A → Type 0) (S : Signature) (owner : Owner) (context : Telescope) (dots : List (Term × Term)) (next : ℕ → Elaborating A)
    → ((left : ℕ) → Answers Q (next left)) → (left : ℕ) → Answers Q (after_dots S owner context dots next left)
dots-passed Q S owner context [] next h left = h left
dots-passed Q S owner context (d ∷ dots) next h left =
    skip Q (check_dot S owner context d left) _ (λ written rest. dots-passed Q S owner context dots next h rest)

mutual
  clause-helps : (s : Session) (k : ℕ) (part : Opened) (number next : ℕ) (c : core.Clause) (left : ℕ)
      → Answers (Helps (withs_clause c)) (walk_clause s k part number next c left)
  clause-helps s k part number next (core.Is pats binds right) left =
      let S = s.signature in
      let name = part_named s.name k in
      let owner = owner_of name number in
      skip (Helps (withs_right right)) (walking S name (own_walk_of S part.tele part.goal part.terms (core.Is pats binds right) number left)) _ (λ w rest.
      dots-passed (Helps (withs_right right)) S owner w.ctx w.dots (walk_right s k number next owner w right)
      (right-helps s k number next owner w right) rest)

  right-helps : (s : Session) (k number next : ℕ) (owner : Owner) (w : Walk) (right : core.Right) (left : ℕ)
      → Answers (Helps (withs_right right)) (walk_right s k number next owner w right left)
  right-helps s k number next owner w (core.Side side) left =
      skip (Helps 0) (answers (or_halts (bounded (under_solution w.binds side))) left) _ (λ body rest.
      skip (Helps 0) (granted s.signature (OfSide owner) (check_of s.signature nesting (reverse w.ctx) body w.goal rest)) _ (λ type end. refl))
  right-helps s k number next owner w (core.With scrutinee inner) left =
      let Q : Given → Type 0 = Helps (1 + withs inner) in
      skip Q (answers (or_halts (bounded (under_solution w.binds scrutinee))) left) _ (λ t rest.
      skip Q (open_over s owner w t rest) _ (λ o more.
      and_next-has (Helps (withs inner)) Q (walk_clauses s next (opened o w) 0 (next + 1) inner more) _
      (clauses-help s next (opened o w) 0 (next + 1) inner more) (λ given end e. (let f : length given.helpers ≡ withs inner = e in omega (arith, f)))))
  right-helps s k number next owner w core.Absurd left = refl

  clauses-help : (s : Session) (k : ℕ) (part : Opened) (number next : ℕ) (cs : core.Clauses) (left : ℕ)
      → Answers (Helps (withs cs)) (walk_clauses s k part number next cs left)
  clauses-help s k part number next core.nil left = refl
  clauses-help s k part number next (core.cons c cs) left =
      let Q : Given → Type 0 = Helps (withs_clause c + withs cs) in
      and_next-has (Helps (withs_clause c)) Q (walk_clause s k part number next c left) _ (clause-helps s k part number next c left) (λ given rest e.
      and_next-has (Helps (withs cs)) Q (walk_clauses s k part (number + 1) (next + length given.helpers) cs rest) _
      (clauses-help s k part (number + 1) (next + length given.helpers) cs rest) (λ others end f.
      length-append given.helpers others.helpers ∙ ap₂ (λ i j. i + j) e f))

-- ---- and each helper a part

abbrev Many : ℕ → List Part → Type 0
Many n parts = length parts ≡ n

helpers-many : (s : Session) (r : Option Recursion) (level number : ℕ) (helpers : List Walked) (left : ℕ)
    → Answers (Many (length helpers)) (helpers_finished s r level number helpers left)
helpers-many s r level number [] left = refl
helpers-many s r level number (w ∷ helpers) left =
    let Q : List Part → Type 0 = Many (suc (length helpers)) in
    skip Q (walking s.signature (part_named s.name number) (split_of s.signature w.part.tele w.part.goal w.part.terms w.clauses left)) _ (λ t rest.
    and_next-has (Many (length helpers)) Q (helpers_finished s r level (number + 1) helpers rest) _ (helpers-many s r level (number + 1) helpers rest) (λ parts end e. ap (λ n. suc n) e))

plan-many : (S : Signature) (f : Function) (level left : ℕ) → Answers (λ plan. length plan.parts ≡ 1 + withs f.clauses) (plan_of S f level left)
plan-many S f level left =
    let s : Session = record { signature = provisional S f.name f.type; name = f.name; own = length S.entries } in
    let part = own_part f level in
    let Q : Plan → Type 0 = λ plan. length plan.parts ≡ 1 + withs f.clauses in
    and_next-has (Helps (withs f.clauses)) Q (walk_clauses s 0 part 0 1 f.clauses left) _ (clauses-help s 0 part 0 1 f.clauses left) (λ given rest e.
    let w : Walked = record { part = part; clauses = f.clauses; walks = given.walks; sides = given.sides } in
    skip Q (answers (position_chosen s (choose S part.tele s.own given.uses)) rest) _ (λ position more.
    let r = recursion_in S part.tele position in
    skip Q (own_finished s r w more) _ (λ own end.
    and_next-has (Many (length given.helpers)) Q (helpers_finished s r level 1 given.helpers end) _ (helpers-many s r level 1 given.helpers end) (λ helpers last g.
    (let step : suc (withs f.clauses) ≡ 1 + withs f.clauses = omega arith in ap (λ n. suc n) (g ∙ e) ∙ step)))))

pub few-parts : (S : Signature) (x : Word) (ty : surf.Surf) (cs : surf.Clauses) → written cs ≤ 1048576 → IfOk (function S x ty cs) (HasFewParts S)
few-parts S x ty cs few =
    if-ok (λ f. withs f.clauses ≡ written cs) (HasFewParts S) (function S x ty cs) (λ f e level left.
    if-ok (λ plan. length plan.parts ≡ 1 + withs f.clauses) (λ plan. (k : ℕ) → k < length plan.parts → k < 10000000000) (plan_of S f level left).0
    (λ plan g k lt. omega (arith, few, e, g, lt)) (plan-many S f level left)) (function-withs S x ty cs)
