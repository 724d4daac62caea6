-- The walks of a plan are scoped over the signature that has the function's constant, as the function's telescope is.
use Rattle.std.proofs.Common.{◌≡◌, ℕ, ◌+◌, Option, List, [], ◌∷◌, length, refl, sym, subst as transport, arith}
use Rattle.std.specs.List.{All}
use Rattle.std.proofs.lemmas.List.Elements.{All-cons, All-nil}
use Rattle.theory.specs.Signatures.{Signature}
use Rattle.theory.specs.SignatureScopes.{IsScopedTelescope}
use Rattle.theory.specs.Telescopes.{Telescope}
use Rattle.core_terms.proofs.Answers.{Answers, and_next-has, split-parts}
use Rattle.core_terms.specs.CaseTrees.{Walk}
use Rattle.tree_translation.specs.structural_rec.Choices.{choose}
use Rattle.case_trees.specs.Scoped.{IsScopedWalk}
use Rattle.case_trees.specs.Trees.{split_of}
use Rattle.tree_translation.specs.Entries.{ordered_variables}
use Rattle.tree_translation.specs.Plans as plans
use Rattle.tree_translation.specs.Plans.{Part, Plan}
use Rattle.tree_translation.specs.Recursion.{Recursion, order_of, ordered_telescope, ordered_term}
use Rattle.clause_reports.proofs.Keeping.{Any, any}
use Rattle.tree_translation.specs.Naming.{part_named}
use Rattle.clause_reports.specs.elaboration.Functions.{helpers_finished, own_finished, own_part, plan_of, position_chosen, recursion_in}
use Rattle.clause_reports.specs.elaboration.Refusals.{walking}
use Rattle.clause_reports.specs.elaboration.Walking.{Session, Walked, walk_clauses}
use Rattle.function_session.proofs.function_lines.SamePlans.{walked_of}
use Rattle.function_session.specs.function_lines.Conditions.{IsFunctionOver}
use Rattle.function_session.specs.function_lines.Opened.{session_at}
use Rattle.function_session.specs.Laws.{inner}
use Rattle.resolve.specs.Functions.{Function}
use Rattle.elim.specs.refusal_laws.Causes.{Caused}
use Rattle.elim.specs.refusal_laws.Parts.{own}
use Rattle.elim.proofs.refusal_laws.PartScopes.{part-walkable}
use Rattle.elim.proofs.refusal_laws.WalkCauses.{AreHelpers, GivesHelpers, all-from, all-listed, clauses-caused}
use Rattle.elim.specs.written_functions.Clauses.{with_own}

-- all walks of a part
abbrev pub AreScopedWalks : Signature → Part → Type 0
AreScopedWalks S p = All (IsScopedWalk S) p.walks

pub record IsPlanScoped (S : Signature) (f : Function) (plan : Plan) : Type 0 where
  pub base : plan.base ≡ length S.entries
  pub name : plan.name ≡ f.name
  pub type : plan.type ≡ f.type
  pub tele : IsScopedTelescope (with_own S f) 0 (plans.own_part plan).tele
  pub walks : All (AreScopedWalks (with_own S f)) plan.parts

-- the function's own part has the telescope and the walks
record IsOwn (tele : Telescope) (walks : List Walk) (p : Part) : Type 0 where
  tele_is : p.tele ≡ tele
  walks_are : p.walks ≡ walks

own-is : (s : Session) (r : Option Recursion) (w : Walked) (left : ℕ) → Answers (IsOwn w.part.tele w.walks) (own_finished s r w left)
own-is s r w left =
    let count = length w.part.tele in
    let order = order_of count r in
    let split =
    walking s.signature s.name
    (split_of s.signature (ordered_telescope w.part.tele order) (ordered_term count order w.part.goal) (ordered_variables order count) w.clauses left) in
    and_next-has Any (IsOwn w.part.tele w.walks) split _ (any split.0) (λ t rest u. record { tele_is = refl; walks_are = refl })

helpers-scoped : (S : Signature) (f : Function) (s : Session) (r : Option Recursion) (level number k : ℕ) (helpers : List Walked) (left : ℕ)
    → AreHelpers S f k helpers → Answers (All (AreScopedWalks (with_own S f))) (helpers_finished s r level number helpers left)
helpers-scoped S f s r level number k [] left h = All-nil (AreScopedWalks (with_own S f))
helpers-scoped S f s r level number k (w ∷ helpers) left h =
    let P : Part → Type 0 = AreScopedWalks (with_own S f) in
    let split = walking s.signature (part_named s.name number) (split_of s.signature w.part.tele w.part.goal w.part.terms w.clauses left) in
    and_next-has Any (All P) split _ (any split.0) (λ t rest u.
    and_next-has (All P) (All P) (helpers_finished s r level (number + 1) helpers rest) _
    (helpers-scoped S f s r level (number + 1) (k + 1) helpers rest h.1) (λ parts end all. All-cons P _ parts h.0.2 all))

pub plan-scoped : (S : Signature) (f : Function) (level left : ℕ) → IsFunctionOver (with_own S f) f → Answers (IsPlanScoped S f) (plan_of S f level left)
plan-scoped S f level left over =
    let s = session_at S f in
    let part = own_part f level in
    let P = IsPlanScoped S f in
    let H = GivesHelpers S f 1 (length (inner f.clauses)) in
    let walked = walk_clauses s 0 part 0 1 f.clauses left in
    and_next-has H P walked _
    (split-parts H (Caused S f) walked.0
    (clauses-caused S f over 0 part f.clauses (record { is = own level; listed = refl }) 0 1 f.clauses (all-from f.clauses) (omega arith) (all-listed f) left)).0
    (λ given rest h.
    let w = walked_of f level given in
    let chosen = position_chosen s (choose S part.tele s.own given.uses) in
    and_next-has Any P (chosen, rest) _ (any chosen) (λ position more u.
    let r = recursion_in S part.tele position in
    and_next-has (IsOwn part.tele given.walks) P (own_finished s r w more) _ (own-is s r w more) (λ own_there end o.
    and_next-has (All (AreScopedWalks (with_own S f))) P (helpers_finished s r level 1 given.helpers end) _
    (helpers-scoped S f s r level 1 1 given.helpers end h.helpers) (λ helpers last all.
    record {
      base = refl;
      name = refl;
      type = refl;
      tele =
          transport (IsScopedTelescope (with_own S f) 0) (sym o.tele_is)
          (part-walkable S f 0 part f.clauses over (own level)).given.scoped.context;
      walks =
          All-cons (AreScopedWalks (with_own S f)) own_there helpers
          (transport (All (IsScopedWalk (with_own S f))) (sym o.walks_are) h.walks) all;
    }))))
