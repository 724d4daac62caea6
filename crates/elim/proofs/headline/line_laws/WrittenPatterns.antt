-- The patterns of a plan are those of the clauses that are written.
use Rattle.std.proofs.Common.{◌≡◌, ℕ, zero, suc, ◌+◌, Option, Some, List, [], ◌∷◌, length, map, slice_get, get_or, refl, sym, ap, ap₂, ◌∙◌, subst as transport, arith}
use Rattle.theory.specs.Signatures.{Signature}
use Rattle.theory.proofs.Lists.{some_is}
use Rattle.core_terms.proofs.Answers.{Answers, and_next-has, split-parts}
use Rattle.core_terms.specs.Clauses.{Clauses}
use Rattle.core_terms.specs.Patterns as pattern
use Rattle.tree_translation.specs.structural_rec.Choices.{choose}
use Rattle.case_trees.specs.Trees.{split_of}
use Rattle.tree_translation.specs.Entries.{ordered_variables}
use Rattle.tree_translation.specs.Plans.{Part, Plan, no_part}
use Rattle.tree_translation.specs.Recursion.{Recursion, order_of, ordered_telescope, ordered_term}
use Rattle.clause_reports.proofs.Keeping.{Any, any, weaker}
use Rattle.tree_translation.specs.Naming.{part_named}
use Rattle.clause_reports.specs.elaboration.Functions.{helpers_finished, own_finished, own_part, patterns_in, plan_of, position_chosen, recursion_in}
use Rattle.clause_reports.specs.elaboration.Refusals.{walking}
use Rattle.clause_reports.specs.elaboration.Walking.{Session, Walked, walk_clauses}
use Rattle.function_session.proofs.function_lines.SamePlans.{walked_of}
use Rattle.function_session.specs.function_lines.Conditions.{IsFunctionOver}
use Rattle.function_session.specs.function_lines.Opened.{session_at}
use Rattle.function_session.specs.Laws.{inner}
use Rattle.resolve.specs.Functions.{Function}
use Rattle.elim.specs.refusal_laws.Causes.{Caused}
use Rattle.elim.specs.refusal_laws.Parts.{own}
use Rattle.elim.proofs.refusal_laws.WalkCauses.{AreHelpers, GivesHelpers, all-from, all-listed, clauses-caused}
use Rattle.elim.specs.headline.line_laws.Laws.{HasWrittenPatterns, PatternsAreWritten}
use Rattle.elim.specs.written_functions.Clauses.{with_own, parts_of}
use Rattle.elim.proofs.written_functions.PlanClauses.{clause-pats}

-- ---- helpers

-- each helper has the clauses of its number
same-lists : (S : Signature) (f : Function) (k : ℕ) (helpers : List Walked) (lists : List Clauses) → AreHelpers S f k helpers
    → length helpers ≡ length lists → ((i : ℕ) (cs : Clauses) → slice_get lists i ≡ Some cs → slice_get (parts_of f) (k + i) ≡ Some cs)
    → map (λ (w : Walked). w.clauses) helpers ≡ lists
same-lists S f k [] [] h n at = refl
same-lists S f k [] (cs ∷ lists) h n at = absurd (omega (arith, n))
same-lists S f k (w ∷ helpers) [] h n at = absurd (omega (arith, n))
same-lists S f k (w ∷ helpers) (cs ∷ lists) h n at =
    let here : slice_get (parts_of f) k ≡ Some cs =
    transport (λ m. slice_get (parts_of f) m ≡ Some cs) (let same : k + 0 ≡ k = omega arith in same) (at 0 cs refl) in
    ap₂ (λ c others. c ∷ others) (some_is (sym h.0.1.listed ∙ here))
    (same-lists S f (k + 1) helpers lists h.1 (omega (arith, n)) (λ i c e.
    transport (λ m. slice_get (parts_of f) m ≡ Some c) (let same : k + suc i ≡ k + 1 + i = omega arith in same) (at (suc i) c e)))

-- ---- parts

-- parts with the patterns of these lists of clauses
abbrev AreWritten : List Clauses → List Part → Type 0
AreWritten [] [] = Unit {0}
AreWritten (cs ∷ lists) (p ∷ parts) = (p.pats ≡ patterns_in cs) × AreWritten lists parts
AreWritten lists parts = ⊥

own-written : (s : Session) (r : Option Recursion) (w : Walked) (left : ℕ) → Answers (λ (p : Part). p.pats ≡ patterns_in w.clauses) (own_finished s r w left)
own-written s r w left =
    let count = length w.part.tele in
    let order = order_of count r in
    let split =
    walking s.signature s.name
    (split_of s.signature (ordered_telescope w.part.tele order) (ordered_term count order w.part.goal) (ordered_variables order count) w.clauses left) in
    and_next-has Any (λ (p : Part). p.pats ≡ patterns_in w.clauses) split _ (any split.0) (λ t rest u. refl)

helpers-written : (s : Session) (r : Option Recursion) (level number : ℕ) (helpers : List Walked) (left : ℕ)
    → Answers (AreWritten (map (λ (w : Walked). w.clauses) helpers)) (helpers_finished s r level number helpers left)
helpers-written s r level number [] left = tt
helpers-written s r level number (w ∷ helpers) left =
    let lists = map (λ (w : Walked). w.clauses) helpers in
    let P = AreWritten (w.clauses ∷ lists) in
    let split = walking s.signature (part_named s.name number) (split_of s.signature w.part.tele w.part.goal w.part.terms w.clauses left) in
    and_next-has Any P split _ (any split.0) (λ t rest u.
    and_next-has (AreWritten lists) P (helpers_finished s r level (number + 1) helpers rest) _ (helpers-written s r level (number + 1) helpers rest)
    (λ parts end h. (refl, h)))

-- ---- patterns by their numbers

part-pats : (lists : List Clauses) (parts : List Part) (k : ℕ) (cs : Clauses) → AreWritten lists parts → slice_get lists k ≡ Some cs
    → (get_or parts k no_part).pats ≡ patterns_in cs
part-pats [] [] zero cs h e = absurd (cc)
part-pats [] [] (suc k) cs h e = absurd (cc)
part-pats (c ∷ lists) (p ∷ parts) zero cs h e = h.0 ∙ ap patterns_in (some_is e)
part-pats (c ∷ lists) (p ∷ parts) (suc k) cs h e = part-pats lists parts k cs h.1 e
part-pats [] (p ∷ parts) k cs h e = absurd h
part-pats (c ∷ lists) [] k cs h e = absurd h

-- ---- the plan

plan-written : (S : Signature) (f : Function) (level left : ℕ) → IsFunctionOver (with_own S f) f
    → Answers (λ (plan : Plan). AreWritten (parts_of f) plan.parts) (plan_of S f level left)
plan-written S f level left over =
    let s = session_at S f in
    let part = own_part f level in
    let P : Plan → Type 0 = λ plan. AreWritten (parts_of f) plan.parts in
    let H = GivesHelpers S f 1 (length (inner f.clauses)) in
    let walked = walk_clauses s 0 part 0 1 f.clauses left in
    and_next-has H P walked _
    (split-parts H (Caused S f) walked.0
    (clauses-caused S f over 0 part f.clauses (record { is = own level; listed = refl }) 0 1 f.clauses (all-from f.clauses) (omega arith) (all-listed f) left)).0
    (λ given rest h.
    let w = walked_of f level given in
    let chosen = position_chosen s (choose S part.tele s.own given.uses) in
    let lists = map (λ (w : Walked). w.clauses) given.helpers in
    and_next-has Any P (chosen, rest) _ (any chosen) (λ position more u.
    let r = recursion_in S part.tele position in
    and_next-has (λ (p : Part). p.pats ≡ patterns_in f.clauses) P (own_finished s r w more) _ (own-written s r w more) (λ own_there end o.
    and_next-has (AreWritten lists) P (helpers_finished s r level 1 given.helpers end) _ (helpers-written s r level 1 given.helpers end) (λ helpers last all.
    (o, transport (λ ls. AreWritten ls helpers) (same-lists S f 1 given.helpers (inner f.clauses) h.helpers h.count (all-listed f)) all)))))

pub patterns-are_written : PatternsAreWritten
patterns-are_written S f level left over =
    weaker (λ (plan : Plan). AreWritten (parts_of f) plan.parts) (HasWrittenPatterns f) (plan_of S f level left).0
    (λ plan h k number clauses pats binds right there at.
    ap (λ all. get_or all number pattern.nil) (part-pats (parts_of f) plan.parts k clauses h there) ∙ clause-pats clauses number binds pats right at)
    (plan-written S f level left over)
