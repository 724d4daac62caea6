-- A solved problem of a constructor puts that constructor for the variable.
use Rattle.std.proofs.Common.{◌≡◌, ◌⊎◌, inl, inr, ℕ, suc, ◌+◌, ◌-◌, ◌<◌, ◌≤◌, ◌==◌, Option, Some, IfSome, Result, Ok, Err, IfOk, List, [], ◌∷◌, ◌++◌, length, map, take, drop, slice_get, refl, sym, ap, ap₂, ◌∙◌, subst as transport, arith}
use Rattle.std.proofs.lemmas.Bool.{eqb-true}
use Rattle.std.proofs.lemmas.List.{length-append, length-map, length-take, take-append-drop}
use Rattle.std.proofs.lemmas.Option.{option_and_then_some, cond_some}
use Rattle.std.proofs.lemmas.Result.{IfOk-at_ok}
use Rattle.theory.specs.Terms.{Term, Var, App, Fam, Con}
use Rattle.theory.specs.Substitutions.{ren, inst, fill, extend}
use Rattle.theory.specs.Eliminators.{no_variable}
use Rattle.theory.specs.Spines.{head_of, spine_of}
use Rattle.theory.specs.Telescopes.{Telescope, applied, variables, weaken_by}
use Rattle.theory.specs.Families.{Constructor}
use Rattle.theory.specs.Signatures.{Signature}
use Rattle.theory.proofs.Lists.{some_is, slice_get-append}
use Rattle.theory.proofs.ScopedTypes.{length-variables}
use Rattle.core_terms.specs.CaseTrees.{Step}
use Rattle.core_terms.specs.declared.stop.Stop.{Stop}
use Rattle.kernel_reduce.specs.Entries.{family_at}
use Rattle.tele_eq.specs.Items.{Item}
use Rattle.tele_eq.specs.TelescopicEquality.{equations}
use Rattle.unification.specs.Built.{built_of}
use Rattle.unification.specs.Injecting.{lifted}
use Rattle.unification.specs.Outcomes as outcome
use Rattle.unification.specs.Outcomes.{Outcome, before}
use Rattle.unification.specs.Records.{argument_items}
use Rattle.unification.specs.Runs as run
use Rattle.unification.specs.Runs.{Run, behind_step, end_of, run_of, unify_of}
use Rattle.unification.specs.ScopedStates.{IsReady, IsScopedState, IsScopedProblem}
use Rattle.unification.specs.States.{Equation, State, Problem, starting, equations_at}
use Rattle.unification.specs.Strategy.{turn_of}
use Rattle.unification.specs.Turns.{Turn, Done, Goes, Fails, Sticks}
use Rattle.unification.proofs.Cases.{below-or_from}
use Rattle.unification.proofs.Counts.{length-equations}
use Rattle.unification.proofs.RunLaws.{runs-end}
use Rattle.unification.proofs.RunProperties.{unify-has, solution-is_whole}
use Rattle.unification.proofs.ScopedEquations.{start-is, start-scoped}
use Rattle.unification.proofs.ScopedRecords.{length-argument_items}
use Rattle.unification.proofs.TurnLaws.{turn-at}
use Rattle.case_trees.specs.HeadSteps.{HasConstructor}
use Rattle.case_trees.specs.Laws.{SolvedIsBuilt}
use Rattle.case_trees.specs.Problems.{Member, member_with, member_at, member_of, problem_of}
use Rattle.case_trees.proofs.Arguments.{head-applied, spine-applied}
use Rattle.case_trees.proofs.ConstructorForms.{built-at}
use Rattle.case_trees.proofs.ConstructorStates.{HasConstructorAt, AwaitsConstructor, HasOrAwaits}
use Rattle.case_trees.proofs.ConstructorTurns.{turn-tracks}
use Rattle.case_trees.proofs.GoingTurns.{MayGo}
use Rattle.case_trees.proofs.SolvedOrigins.{variable-at}

-- ---- runs

-- where the outcome is a solution, it has the constructor at the level
abbrev SolvedHas : Signature → (n number level : ℕ) → Outcome → Type 0
SolvedHas S n number level (outcome.Solved steps context solution) = HasConstructorAt S n number level solution
SolvedHas S n number level (outcome.Absurd steps context u v) = Unit {0}
SolvedHas S n number level (outcome.Stuck steps context u v why) = Unit {0}

abbrev EndHas : Signature → (n number level : ℕ) → Option Outcome → Type 0
EndHas S n number level o = IfSome o (SolvedHas S n number level)

before-has : (S : Signature) (n number level : ℕ) (step : Step) (o : Outcome) → SolvedHas S n number level o → SolvedHas S n number level (before step o)
before-has S n number level step (outcome.Solved steps context solution) h = h
before-has S n number level step (outcome.Absurd steps context u v) h = tt
before-has S n number level step (outcome.Stuck steps context u v why) h = tt

-- with no equation left the constructor is there
none-awaited : (S : Signature) (n number level : ℕ) (s : State) → s.equations ≡ [] → HasOrAwaits S n number level s → HasConstructorAt S n number level s.solution
none-awaited S n number level s none (inl has) = has
none-awaited S n number level s none (inr waits) =
    let count : length (waits.before ++ waits.last ∷ []) ≡ 0 = ap length (sym waits.whole ∙ none) in
    absurd (omega (arith, length-append waits.before (waits.last ∷ [])))

run-has : (S : Signature) (n number level : ℕ) → IsReady S → (s : State) (left end : ℕ) (result : Result Outcome Stop) → IsScopedState S s
    → HasOrAwaits S n number level s → Run S s left result end → IfOk result (SolvedHas S n number level)
run-has S n number level ready s left end result scoped tracks (run.ends _ _ rest turn o is e) = transport (EndHas S n number level) e (by turn is)
  where
    by : (turn : Turn) → turn_of S s left ≡ (Ok (Some turn), rest) → EndHas S n number level (end_of s turn)
    by Done is = none-awaited S n number level s ((turn-at S s left rest Done is).right ready scoped).follows tracks
    by (Goes step t) is = tt
    by (Fails step u v) is = tt
    by (Sticks why u v) is = tt
run-has S n number level ready s left end result scoped tracks (run.refused _ _ rest x is) = tt
run-has S n number level ready s left end result scoped tracks (run.goes _ t _ rest _ step result' is further) =
    behind result'
    (run-has S n number level ready t rest end result' ((turn-at S s left rest (Goes step t) is).right ready scoped).good.0.1
    (transport (λ r. IfOk r (MayGo (HasOrAwaits S n number level))) (ap (λ (r : Result (Option Turn) Stop × ℕ). r.0) is) (turn-tracks S n number level s ready scoped tracks left)) further)
  where
    behind : (r : Result Outcome Stop) → IfOk r (SolvedHas S n number level) → IfOk (behind_step step r) (SolvedHas S n number level)
    behind (Ok o) h = before-has S n number level step o h
    behind (Err d) h = tt

-- ---- the start

-- equations with a last one between u and v
record HasLast (es : List Equation) (u v : Term) : Type 0 where
  before : List Equation
  last : Equation
  whole : es ≡ before ++ last ∷ []
  left : last.left ≡ u
  right : last.right ≡ v

last-at : (X : List Item) (types us vs : List Term) (u v : Term) → length types ≡ length X → length (us ++ u ∷ []) ≡ length X → length (vs ++ v ∷ []) ≡ length X
    → HasLast (equations_at X types (us ++ u ∷ []) (vs ++ v ∷ [])) u v
last-at [] types us vs u v ht hu hv = absurd (omega (arith, length-append us (u ∷ [])))
last-at (x ∷ X) [] us vs u v ht hu hv = absurd (omega arith)
last-at (x ∷ []) (a ∷ types) [] [] u v ht hu hv =
    record { before = []; last = record { place = x; type = a; left = u; right = v }; whole = refl; left = refl; right = refl }
last-at (x ∷ (y ∷ X)) (a ∷ types) [] [] u v ht hu hv = absurd (omega arith)
last-at (x ∷ X) (a ∷ types) [] (w ∷ vs) u v ht hu hv = absurd (omega (arith, length-append vs (v ∷ [])))
last-at (x ∷ X) (a ∷ types) (w ∷ us) [] u v ht hu hv = absurd (omega (arith, length-append us (u ∷ [])))
last-at (x ∷ X) (a ∷ types) (w ∷ us) (z ∷ vs) u v ht hu hv =
    let h = last-at X types us vs u v (omega arith) (omega arith) (omega arith) in
    let first : Equation = record { place = x; type = a; left = w; right = z } in
    record { before = first ∷ h.before; last = h.last; whole = ap (λ es. first ∷ es) {y = h.before ++ h.last ∷ []} h.whole; left = h.left; right = h.right }

ren-applied : (r : ℕ → ℕ) (h : Term) (us : List Term) → ren r (applied h us) ≡ applied (ren r h) (map (ren r) us)
ren-applied r h [] = refl
ren-applied r h (u ∷ us) = ren-applied r (App h u) us

-- constructor c with its arguments as variables
made-term : (n number : ℕ) (ps : List Term) (count : ℕ)
    → (head_of (applied (weaken_by count (applied (Con n number) ps)) (variables count)) ≡ Con n number)
    × (length (spine_of (applied (weaken_by count (applied (Con n number) ps)) (variables count))) ≡ length ps + count)
made-term n number ps count =
    let inner = weaken_by count (applied (Con n number) ps) in
    let moved : inner ≡ applied (Con n number) (map (ren (λ v. v + count)) ps) = ren-applied (λ v. v + count) (Con n number) ps in
    let spine : spine_of inner ≡ map (ren (λ v. v + count)) ps = ap spine_of moved ∙ spine-applied (Con n number) (map (ren (λ v. v + count)) ps) in (
      head-applied inner (variables count) ∙ (ap head_of moved ∙ head-applied (Con n number) (map (ren (λ v. v + count)) ps)),
      ap length (spine-applied inner (variables count))
          ∙ (length-append (spine_of inner) (variables count)
          ∙ ap₂ (λ i j. i + j) (ap length spine ∙ length-map ps (ren (λ v. v + count))) (length-variables count)),
    )

-- the family of a member, and its parameters
member-family : (S : Signature) (h : Term) (spine : List Term) (m : Member) → member_at S h spine ≡ Some m
    → (family_at S m.n ≡ Some m.family) × (length m.parameters ≡ length m.family.parameters)
member-family S (Fam n) spine m e =
    option_and_then_some (member_with n spine) (family_at S n) m e (λ f at found.
    let count = length f.parameters in
    let tested = cond_some (length spine == count + length f.indices)
    (record { n = n; family = f; parameters = take count spine; indices = drop count spine }) m found in
    let whole : length spine ≡ count + length f.indices = eqb-true _ _ tested.0 in
    transport (λ (m : Member). (family_at S m.n ≡ Some m.family) × (length m.parameters ≡ length m.family.parameters)) tested.1
    (at, omega (arith, length-take count spine, whole)))
member-family S _ spine m e = absurd (grind arith)

-- the state from which the problem is solved
starts : (S : Signature) (context : Telescope) (x : ℕ) (type : Term) (m : Member) (number : ℕ) (c : Constructor) → IsScopedProblem S (problem_of context x m number c)
    → x < length context → member_of S type ≡ Some m → slice_get m.family.constructors number ≡ Some c
    → (types : Telescope) → length types ≡ length (problem_of context x m number c).telescope
    → AwaitsConstructor S m.n number (length context - (x + 1)) (starting (problem_of context x m number c) types)
starts S context x type m number c scoped less member there types counted =
    let p = problem_of context x m number c in
    let count = length c.arguments in
    let n = length context in
    let level = n - (x + 1) in
    let s : ℕ → Term = fill (λ v. weaken_by count (fill no_variable m.parameters v)) (variables count) in
    let made = applied (weaken_by count (applied (Con m.n number) m.parameters)) (variables count) in
    let h = last-at p.telescope types (map (inst s) c.targets) (lifted count m.indices) made (Var (x + count)) counted scoped.left_length scoped.right_length in
    let of = member-family S (head_of type) (spine_of type) m member in
    let (head, spine) = made-term m.n number m.parameters count in
    let (b, (found, (family, constructor))) =
    built-at S made m.n number m.family c head of.0 there (spine ∙ ap (λ k. k + count) of.1) in
    let long : length p.context ≡ n + count =
    length-append context (map (λ (item : Item). item.type) (argument_items m.n m.parameters c))
    ∙ ap (λ k. n + k) (length-map (argument_items m.n m.parameters c) (λ (item : Item). item.type) ∙ length-argument_items m.n m.parameters c) in
    let place : length p.context - (level + 1) ≡ x + count = omega arith in
    record {
      before = h.before;
      last = h.last;
      whole = h.whole;
      built = b;
      left = ap (built_of S) h.left ∙ found;
      family = family;
      constructor = constructor;
      right = variable-at (length p.context) level (omega arith) ∙ (ap (λ k. Some (Var k)) place ∙ ap Some (sym h.right));
    }

-- ---- the solution

fill-behind : (s : ℕ → Term) (us : List Term) (i : ℕ) → fill s us (length us + i) ≡ s i
fill-behind s [] i = let same : 0 + i ≡ i = omega arith in ap s same
fill-behind s (u ∷ us) i =
    let next : suc (length us) + i ≡ length us + suc i = omega arith in
    ap (fill (extend s u) us) next ∙ fill-behind (extend s u) us (suc i)

fill-at : (s : ℕ → Term) (us : List Term) (x : ℕ) (t : Term) → x < length us → slice_get us (length us - (x + 1)) ≡ Some t → fill s us x ≡ t
fill-at s [] x t less e = absurd (omega arith)
fill-at s (u ∷ us) x t less e = by (below-or_from x (length us)) (λ low there. fill-at (extend s u) us x t low there)
  where
    by : (x < length us) ⊎ (length us ≤ x) → (x < length us → slice_get us (length us - (x + 1)) ≡ Some t → fill (extend s u) us x ≡ t)
        → fill (extend s u) us x ≡ t
    by (inl low) rest =
        let place : suc (length us) - (x + 1) ≡ suc (length us - (x + 1)) = omega arith in
        rest low (sym (ap (slice_get (u ∷ us)) place) ∙ e)
    by (inr high) rest =
        let place : suc (length us) - (x + 1) ≡ 0 = omega arith in
        let last : x ≡ length us + 0 = omega arith in
        let same : Some u ≡ Some t = sym (ap (slice_get (u ∷ us)) place) ∙ e in
        ap (fill (extend s u) us) last ∙ (fill-behind (extend s u) us 0 ∙ some_is same)

taken-at : (n : ℕ) (us : List Term) (k : ℕ) (t : Term) → n ≤ length us → k < n → slice_get us k ≡ Some t → slice_get (take n us) k ≡ Some t
taken-at n us k t le less e =
    let count = length-take n us in
    let low : k < length (take n us) = omega arith in
    sym (slice_get-append (take n us) (drop n us) k low) ∙ (ap (λ ts. slice_get ts k) (take-append-drop n us) ∙ e)

solved-has : (S : Signature) (p : Problem) (n number level units : ℕ) (steps : List Step) (new : Telescope) (solution : List Term) → IsReady S → IsScopedProblem S p
    → ((types : Telescope) → length types ≡ length p.telescope → AwaitsConstructor S n number level (starting p types))
    → (unify_of S p units).0 ≡ Ok (outcome.Solved steps new solution) → HasConstructorAt S n number level solution
solved-has S p n number level units steps new solution ready scoped waits e =
    IfOk-at_ok (SolvedHas S n number level) e
    (unify-has S p units (SolvedHas S n number level) (λ s start.
    run-has S n number level ready s units (run_of S s units).1 (run_of S s units).0 (IfOk-at_ok (IsScopedState S) start (start-scoped S p ready scoped))
    (transport (λ (q : State). HasOrAwaits S n number level q) (sym (start-is p s start))
    (inr (waits (equations p.telescope p.left p.right) (length-equations p.telescope p.left p.right))))
    (runs-end S s units)))

pub solved_is_built : SolvedIsBuilt
solved_is_built = λ S context x type m number c steps new solution ready scoped family there runs.
    let p = problem_of context x m number c in
    let n = length context in
    let level = n - (x + 1) in
    let less : x < n = family.variable in
    let h = solved-has S p m.n number level runs.units steps new solution ready scoped
    (λ types counted. starts S context x type m number c scoped less family.member there types counted) runs.run in
    let whole : length solution ≡ length p.context = solution-is_whole S p runs.units steps new solution runs.run in
    let longer = length-append context (map (λ (item : Item). item.type) (argument_items m.n m.parameters c)) in
    let counted = length-take n solution in
    let taken : slice_get (take n solution) level ≡ Some h.term = taken-at n solution level h.term (omega arith) (omega arith) h.there in
    let place : length (take n solution) - (x + 1) ≡ level = omega arith in
    transport (HasConstructor S m.n number)
    (sym (fill-at no_variable (take n solution) x h.term (omega arith) (ap (slice_get (take n solution)) place ∙ taken))) h.has
