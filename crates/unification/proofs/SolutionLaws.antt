-- The laws of solutions: a solved problem is unified, where its steps are coherent, and so is a problem that a run answers as solved.
use Rattle.std.proofs.Common.{◌≡◌, ℕ, Ok, IfOk, List, [], ◌∷◌, ◌++◌, length, map, All, refl, ap₂, sym, subst as transport, ◌∙◌}
use Rattle.std.proofs.lemmas.List.Elements.{All-head, All-tail}
use Rattle.theory.specs.Eliminators.{no_variable}
use Rattle.theory.specs.SignatureScopes.{IsScoped}
use Rattle.theory.specs.Signatures.{Signature}
use Rattle.theory.specs.Substitutions.{inst, fill}
use Rattle.theory.specs.Telescopes.{Telescope, variables}
use Rattle.theory.specs.Terms.{Term}
use Rattle.core_terms.specs.CaseTrees.{Step}
use Rattle.tele_eq.specs.ReflexivityLaws.{EachConverts}
use Rattle.tele_eq.specs.TelescopicEquality.{equations}
use Rattle.tele_eq.proofs.Growing.{snoc-append}
use Rattle.unification.specs.Coherence.{IsCoherent}
use Rattle.unification.specs.Heights.{start_made}
use Rattle.unification.specs.Laws.{under, SolvedIsUnified, Chain, IsReached, RunUnifies}
use Rattle.unification.specs.Laws.IsReached.{solved}
use Rattle.unification.specs.Outcomes.{Solved}
use Rattle.unification.specs.Rules.{ChainWith, Steps}
use Rattle.unification.specs.Rules.ChainWith.{none, more}
use Rattle.unification.specs.ScopedStates.{IsScopedProblem, IsReady, IsScopedState, IsScopedAt}
use Rattle.unification.specs.States.{State, Problem, starting}
use Rattle.unification.proofs.FollowingRuns.{run-follows}
use Rattle.unification.proofs.ScopedEquations.{start-is}
use Rattle.unification.proofs.SolvedProblems.{IsUnifiedIn, sides-at, chain-unifies}
use Rattle.unification.proofs.UnderInstances.{closed-bodies, inst-agree, fill-variables}
use Rattle.unification.proofs.Counts.{length-equations}

-- ---- solved problems

-- scoped terms under a solution that an instantiation gives
under-is : (S : Signature) (q : ℕ → Term) (n : ℕ) (ts : List Term) → All (IsScoped S n) ts
    → under (map (inst q) (variables n)) ts ≡ map (inst q) ts
under-is S q n [] all = refl
under-is S q n (t ∷ ts) all =
    let h : IsScoped S n t = All-head (IsScoped S n) t ts all in
    ap₂ ◌∷◌ (inst-agree (fill no_variable (map (inst q) (variables n))) q t n (fill-variables no_variable q n) h.variables)
    (under-is S q n ts (All-tail (IsScoped S n) t ts all))

problem-unified : (S : Signature) (p : Problem) (t : State) → IsScopedProblem S p
    → IsUnifiedIn S (starting p (equations p.telescope p.left p.right)) t
    → EachConverts S (under t.solution p.left) (under t.solution p.right)
problem-unified S p t scoped h =
    transport (λ solution. EachConverts S (under solution p.left) (under solution p.right)) (sym h.solution)
    (transport (EachConverts S (under values p.left)) (sym (under-is S h.terms (length p.context) p.right scoped.right))
    (transport (λ ts. EachConverts S ts (map (inst h.terms) p.right)) (sym (under-is S h.terms (length p.context) p.left scoped.left))
    (sides-at S h.terms p.telescope (equations p.telescope p.left p.right) p.left p.right
    (length-equations p.telescope p.left p.right) scoped.left_length scoped.right_length h.sides)))
  where
    values : List Term
    values = map (inst h.terms) (variables (length p.context))

-- where each injectivity is coherent, a solved problem is unified
pub solved-is_unified : SolvedIsUnified
solved-is_unified S p s t steps ready scoped start chain end =
    problem-unified S p t scoped
    (transport (λ x. IsUnifiedIn S x t) (start-is p s start)
    (chain-unifies S _ (closed-bodies S ready.scoped) (λ s step h. h.1) s t steps chain end))

-- ---- runs

-- a step more after a chain
chain-then : (S : Signature) (s t u : State) (steps : List Step) (step : Step) → Chain S s steps t → IsScopedAt S t step
    → Steps S t step u → Chain S s (steps ++ step ∷ []) u
chain-then S s t u steps step (none s') scoped follows = more s u u step [] scoped follows (none u)
chain-then S s t u steps step (more s' m t' first rest h k chain) scoped follows =
    more s m u first (rest ++ step ∷ []) h k (chain-then S m t u rest step chain scoped follows)

-- each step is coherent in the state that the steps before it lead to, in a chain of all steps from s on
abbrev CoherentFrom : Signature → State → List Step → Type 0
CoherentFrom S s all =
    (t : State) (done rest : List Step) (step : Step) → all ≡ done ++ step ∷ rest → Chain S s done t → IsCoherent S t step

coherent-chain : (S : Signature) (s : State) (all : List Step) → CoherentFrom S s all → (t u : State) (done rest : List Step)
    → all ≡ done ++ rest → Chain S s done t → Chain S t rest u
    → ChainWith S (λ s step. IsScopedState S s × IsCoherent S s step) t rest u
coherent-chain S s all coherent t u done rest is before (none t') = none t
coherent-chain S s all coherent t u done rest is before (more t' m u' step others h k chain) =
    more t m u step others (h.0, coherent t done others step is before) k
    (coherent-chain S s all coherent m u (done ++ step ∷ []) others (is ∙ sym (snoc-append done step others))
    (chain-then S s t m done step before h k) chain)

reached-unifies : (S : Signature) (p : Problem) (s : State) (steps : List Step) (context : Telescope) (solution : List Term)
    → IsReady S → IsScopedProblem S p → start_made p ≡ Ok s → CoherentFrom S s steps → IsReached S s (Solved steps context solution)
    → EachConverts S (under solution p.left) (under solution p.right)
reached-unifies S p s steps context solution ready scoped start coherent (solved t steps' chain end) =
    solved-is_unified S p s t steps ready scoped start (coherent-chain S s steps coherent s t [] steps refl (none s) chain) end

-- if the run of a problem answers that it is solved, it is unified
pub run-unifies : RunUnifies
run-unifies S p s left steps context solution ready scoped start is coherent =
    reached-unifies S p s steps context solution ready scoped start coherent
    (transport (λ r. IfOk r (IsReached S s)) is (run-follows S p s left ready scoped start))
