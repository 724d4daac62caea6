-- Each variable of the context after a constructor's solved problem stands for itself at its origin.
use Rattle.std.proofs.Common.{◌≡◌, ℕ, ◌+◌, Result, Ok, Err, IfOk, List, length, map, sym, ap, ◌∙◌, refl, subst as transport, arith}
use Rattle.std.proofs.lemmas.List.{length-append, length-map}
use Rattle.theory.specs.Terms.{Term}
use Rattle.theory.specs.Telescopes.{Telescope, variables}
use Rattle.theory.specs.Signatures.{Signature}
use Rattle.core_terms.specs.Answers.{and_next}
use Rattle.core_terms.specs.CaseTrees.{Step}
use Rattle.core_terms.specs.declared.stop.Stop.{Stop}
use Rattle.tele_eq.specs.Items.{Item}
use Rattle.unification.specs.States.{State, Problem, starting}
use Rattle.unification.specs.Heights.{start_made}
use Rattle.unification.specs.Outcomes.{Solved}
use Rattle.unification.specs.Runs.{run_of, unify_of}
use Rattle.unification.specs.Laws as unification_law
use Rattle.unification.specs.Laws.{IsReached}
use Rattle.unification.specs.Records.{argument_items}
use Rattle.unification.specs.ScopedStates.{IsScopedAt}
use Rattle.unification.proofs.FollowingRuns.{run-follows}
use Rattle.unification.proofs.ScopedEquations.{start-is}
use Rattle.unification.proofs.ScopedRecords.{length-argument_items}
use Rattle.case_trees.specs.Problems.{problem_of}
use Rattle.case_trees.specs.Origins.{first_origins, origins_behind}
use Rattle.case_trees.specs.Standing.{Runs}
use Rattle.case_trees.specs.Laws.{OriginsTell}
use Rattle.case_trees.proofs.SolvedOrigins.{AreOrigins, chain-origins, origins-start}

reached-origins : (S : Signature) (p : Problem) (types : Telescope) (n count : ℕ) (s : State) (steps : List Step) (new : Telescope) (solution : List Term)
    → s ≡ starting p types → length p.context ≡ n + count → IsReached S s (Solved steps new solution)
    → AreOrigins n (length new) solution (origins_behind steps p.context (first_origins n count))
reached-origins S p types n count s _ _ _ start long (unification_law.solved t steps chain end) =
    let first = first_origins n count in
    let begin : AreOrigins n (length p.context) (variables (length p.context)) first =
    transport (λ k. AreOrigins n k (variables k) first) (sym long) (origins-start n count) in
    transport (λ (q : State). AreOrigins n (length t.context) t.solution (origins_behind steps q.context first)) start
    (chain-origins S (IsScopedAt S) n s t steps first chain
    (transport (λ (q : State). AreOrigins n (length q.context) q.solution first) (sym start) begin))

pub origins_tell : OriginsTell
origins_tell = λ S context x m number c steps new solution origins ready scoped runs is.
    let p = problem_of context x m number c in
    let n = length context in
    let count = length c.arguments in
    let long : length p.context ≡ n + count =
    length-append context (map (λ (item : Item). item.type) (argument_items m.n m.parameters c))
    ∙ ap (λ k. n + k) (length-map (argument_items m.n m.parameters c) (λ (item : Item). item.type) ∙ length-argument_items m.n m.parameters c) in
    let h : AreOrigins n (length new) solution (origins_behind steps p.context (first_origins n count)) =
    started S p n count steps new solution long (start_made p) refl runs
    (λ s e. run-follows S p s runs.units ready scoped e) in
    let k : AreOrigins n (length new) solution origins = transport (AreOrigins n (length new) solution) (sym is) h in
    (k.count, k.each)
  where
    started : (S : Signature) (p : Problem) (n count : ℕ) (steps : List Step) (new : Telescope) (solution : List Term) → length p.context ≡ n + count
        → (r : Result State Stop) → start_made p ≡ r → (runs : Runs S p (Solved steps new solution))
        → ((s : State) → start_made p ≡ Ok s → IfOk (unify_of S p runs.units).0 (IsReached S s))
        → AreOrigins n (length new) solution (origins_behind steps p.context (first_origins n count))
    started S p n count steps new solution long (Ok s) e runs follows =
        reached-origins S p _ n count s steps new solution (start-is p s e) long (transport (λ r. IfOk r (IsReached S s)) runs.run (follows s e))
    started S p n count steps new solution long (Err d) e runs follows =
        let wrong = sym (ap (λ (r : Result State Stop). (and_next (r, runs.units) (λ s rest. run_of S s rest)).0) e) ∙ runs.run in
        absurd (grind (arith, wrong))
