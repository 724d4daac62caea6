-- A solved problem is unified: from the end of a chain of steps backwards, the sides of each equation convert under an
-- instantiation, which makes the solution of a state that of the end.
use Rattle.std.proofs.Common.{◌≡◌, ℕ, zero, suc, ◌+◌, ◌-◌, ◌<◌, Some, List, [], ◌∷◌, ◌++◌, length, map, take, drop, slice_get, refl, ap, ap₂, sym, subst as transport, ◌∙◌, arith}
use Rattle.theory.specs.Terms.{Term}
use Rattle.theory.specs.Terms.Term.{Var, Con}
use Rattle.theory.specs.Substitutions.{inst}
use Rattle.theory.specs.Telescopes.{applied}
use Rattle.theory.specs.Families.{Family}
use Rattle.theory.specs.Signatures.{Signature, HasClosedBodies, reflexivity}
use Rattle.theory.specs.Conversion.{Converts}
use Rattle.theory.specs.Conversion.Converts.{same}
use Rattle.theory.proofs.Lists.{some_is}
use Rattle.theory.proofs.Congruence.{converts-trans, converts-sym}
use Rattle.theory.proofs.Stability.{converts-inst}
use Rattle.theory.proofs.Instances.{inst-inst, inst-var}
use Rattle.core_terms.specs.CaseTrees.{Step}
use Rattle.core_terms.specs.Levels.{variable}
use Rattle.tele_eq.specs.Items.{Item}
use Rattle.tele_eq.specs.Environments.{Environment, put}
use Rattle.tele_eq.specs.TelescopicEquality.{equations}
use Rattle.tele_eq.specs.ReflexivityLaws.{EachConverts}
use Rattle.unification.specs.States.{Equation, State, equations_at, left_sides, right_sides}
use Rattle.unification.specs.Moving.{over_first, behind, moved}
use Rattle.unification.specs.Occurrences.{order_without}
use Rattle.unification.specs.Solving.{reordered, solved, solved_state, deleted_state}
use Rattle.unification.specs.Injecting.{group_proofs, injected_state}
use Rattle.unification.specs.Records.{argument_items, constructor_terms}
use Rattle.unification.specs.Built.{Built, term_of}
use Rattle.unification.specs.Paths.{IsBuilt}
use Rattle.unification.specs.Coherence.{IsCoherent, AreMembers, targets_of}
use Rattle.unification.specs.Rules.{level_of, IsFirst, IsSolvable, IsGroup, Steps, ChainWith}
use Rattle.unification.specs.Rules.Steps.{solve_right, solve_left, inject_group, inject, delete}
use Rattle.unification.specs.Rules.ChainWith.{none, more}
use Rattle.unification.proofs.SolvedVariables.{solution_at, solved-is_inst, solved-agrees}
use Rattle.unification.proofs.UnderInstances.{each-append, each-inst, each-applied, at_values, inst-values, values-each}
use Rattle.unification.proofs.Counts.{length-equations}
use Rattle.unification.proofs.ScopedRecords.{length-argument_items}
use Rattle.unification.proofs.Constructors.{same-constructor, term-instance}

-- the sides of each equation convert under an instantiation
abbrev pub SidesConvert : Signature → (ℕ → Term) → List Equation → Type 0
SidesConvert S q [] = Unit {0}
SidesConvert S q (e ∷ equations) = Converts S (inst q e.left) (inst q e.right) × SidesConvert S q equations

-- the equations of s hold under an instantiation that makes its solution that of t
pub record IsUnifiedIn (S : Signature) (s t : State) : Type 0 where
  pub terms : ℕ → Term
  pub solution : t.solution ≡ map (inst terms) s.solution
  pub sides : SidesConvert S terms s.equations

-- ---- sides of lists of equations

sides-append : (S : Signature) (q : ℕ → Term) (front back : List Equation) → SidesConvert S q (front ++ back)
    → SidesConvert S q front × SidesConvert S q back
sides-append S q [] back h = (tt, h)
sides-append S q (e ∷ front) back h = let rest = sides-append S q front back h.1 in ((h.0, rest.0), rest.1)

sides-moved : (S : Signature) (r q : ℕ → Term) (items types : Environment) (side : Term → Term) (size depth : ℕ)
    (equations : List Equation) → ((t : Term) → inst r (side t) ≡ inst q t)
    → SidesConvert S r (moved items types side size depth equations) → SidesConvert S q equations
sides-moved S r q items types side size depth [] passes h = tt
sides-moved S r q items types side size depth (e ∷ equations) passes h = (
  transport (Converts S (inst q e.left)) (passes e.right)
      (transport (λ t. Converts S t (inst r (side e.right))) (passes e.left) h.0),
  sides-moved S r q items types side (size + 1) (depth + 1) equations passes h.1,
)

-- the equations after a solution
sides-solved : (S : Signature) (r q : ℕ → Term) (s : State) (i p : ℕ) (A u : Term)
    → ((t : Term) → inst r (put (solved (length s.context) (order_without s.context p) p u) (length s.context) (length (order_without s.context p)) t) ≡ inst q t)
    → SidesConvert S r (solved_state s i p A u).equations → SidesConvert S q (drop 1 s.equations)
sides-solved S r q s i p A u passes h =
    let n = length s.context in
    let order = order_without s.context p in
    let m = length order in
    let A' = put (reordered order) n m A in
    let u' = put (reordered order) n m u in
    sides-moved S r q (behind n 1 m (solved n order p u) (over_first m (u' ∷ [])))
    (behind n 1 m (solved n order p u) (over_first m (reflexivity i A' u' ∷ []))) (put (solved n order p u) n m) (n + 1) m
    (drop 1 s.equations) passes h

-- after a deletion
sides-deleted : (S : Signature) (q : ℕ → Term) (s : State) (i : ℕ) (A u : Term)
    → SidesConvert S q (deleted_state s i A u).equations → SidesConvert S q (drop 1 s.equations)
sides-deleted S q s i A u h =
    let n = length s.context in
    sides-moved S q q (behind n 1 n variable (over_first n (u ∷ [])))
    (behind n 1 n variable (over_first n (reflexivity i A u ∷ []))) (λ t. t) (n + 1) n (drop 1 s.equations) (λ t. refl) h

pub sides-at : (S : Signature) (q : ℕ → Term) (X : List Item) (types us vs : List Term) → length types ≡ length X
    → length us ≡ length X → length vs ≡ length X → SidesConvert S q (equations_at X types us vs)
    → EachConverts S (map (inst q) us) (map (inst q) vs)
sides-at S q [] types [] [] ht hu hv h = tt
sides-at S q [] types [] (v ∷ vs) ht hu hv h = absurd (omega arith)
sides-at S q [] types (u ∷ us) vs ht hu hv h = absurd (omega arith)
sides-at S q (x ∷ X) [] us vs ht hu hv h = absurd (omega arith)
sides-at S q (x ∷ X) (a ∷ types) [] vs ht hu hv h = absurd (omega arith)
sides-at S q (x ∷ X) (a ∷ types) (u ∷ us) [] ht hu hv h = absurd (omega arith)
sides-at S q (x ∷ X) (a ∷ types) (u ∷ us) (v ∷ vs) ht hu hv h =
    (h.0, sides-at S q X types us vs (omega arith) (omega arith) (omega arith) h.1)

-- the first k equations, whose sides convert to terms that convert under the instantiation
sides-taken : (S : Signature) → HasClosedBodies S → (q : ℕ → Term) (k : ℕ) (equations : List Equation) (ts us : List Term)
    → EachConverts S (take k (left_sides equations)) ts → EachConverts S (take k (right_sides equations)) us
    → EachConverts S (map (inst q) ts) (map (inst q) us) → SidesConvert S q (take k equations)
sides-taken S closed q zero equations ts us hl hr h = tt
sides-taken S closed q (suc k) [] ts us hl hr h = tt
sides-taken S closed q (suc k) (e ∷ equations) [] us hl hr h = absurd hl
sides-taken S closed q (suc k) (e ∷ equations) (t ∷ ts) [] hl hr h = absurd hr
sides-taken S closed q (suc k) (e ∷ equations) (t ∷ ts) (u ∷ us) hl hr h = (
  converts-trans (converts-inst S closed q hl.0) (converts-trans h.0 (converts-sym (converts-inst S closed q hr.0))),
  sides-taken S closed q k equations ts us hl.1 hr.1 h.1,
)

-- the equations of a group, and those after it
sides-group : (S : Signature) (q : ℕ → Term) (k g : ℕ) (equations : List Equation) (last : Equation) → g ≡ k + 1
    → slice_get equations k ≡ Some last → SidesConvert S q (take k equations)
    → Converts S (inst q last.left) (inst q last.right) → SidesConvert S q (drop g equations) → SidesConvert S q equations
sides-group S q k g [] last e at before h rest = tt
sides-group S q zero g (d ∷ equations) last e at before h rest =
    let one : g ≡ 1 = omega arith in (
      transport (λ x. Converts S (inst q x.left) (inst q x.right)) (sym (some_is at)) h,
      transport (λ i. SidesConvert S q (drop i (d ∷ equations))) one rest,
    )
sides-group S q (suc k) g (d ∷ equations) last e at before h rest =
    let next : g ≡ suc (k + 1) = omega arith in (
      before.0,
      sides-group S q k (k + 1) equations last refl at before.1 h
          (transport (λ i. SidesConvert S q (drop i (d ∷ equations))) next rest),
    )

-- ---- constructors

-- one constructor at parameters and arguments that convert under an instantiation
built-converts : (S : Signature) (q : ℕ → Term) (b d : Built) → b.n ≡ d.n → b.number ≡ d.number
    → EachConverts S (map (inst q) b.parameters) (map (inst q) d.parameters)
    → EachConverts S (map (inst q) b.arguments) (map (inst q) d.arguments)
    → Converts S (inst q (term_of b)) (inst q (term_of d))
built-converts S q b d e number hp ha =
    transport (λ t. Converts S t (inst q (term_of d))) (sym (term-instance q b))
    (transport (Converts S (applied (Con b.n b.number) (map (inst q) b.parameters ++ map (inst q) b.arguments))) (sym (term-instance q d))
    (each-applied S (Con b.n b.number) (Con d.n d.number) _ _
    (transport (Converts S (Con b.n b.number)) (ap₂ Con e number) same)
    (each-append S (map (inst q) b.parameters) (map (inst q) d.parameters) (map (inst q) b.arguments) (map (inst q) d.arguments) hp ha)))

-- if the equations after an injectivity hold, the arguments convert, and the equations after the group hold
injected-sides : (S : Signature) (s : State) (q : ℕ → Term) (g : ℕ) (f : Family) (ps : List Term) (b d : Built) → IsBuilt S b → IsBuilt S d
    → b.n ≡ d.n → b.number ≡ d.number
    → SidesConvert S q (injected_state s g b.n b.number f b.constructor ps b.arguments d.arguments).equations
    → EachConverts S (map (inst q) b.arguments) (map (inst q) d.arguments) × SidesConvert S q (drop g s.equations)
injected-sides S s q g f ps b d hb hd e number h =
    let parts = sides-append S q (equations_at X (equations X b.arguments d.arguments) b.arguments d.arguments) _ h in (
      sides-at S q X (equations X b.arguments d.arguments) b.arguments d.arguments (length-equations X b.arguments d.arguments)
          (hb.arguments ∙ sym count)
          (hd.arguments ∙ (ap (λ c. length c.arguments) (sym (same-constructor S b d hb hd e number)) ∙ sym count)) parts.0,
      sides-moved S q q (behind m g new variable (over_first new (constructor_terms b.n b.number ps b.constructor)))
          (behind m g new variable (over_first new (group_proofs b.n b.number f b.constructor ps b.arguments d.arguments))) (λ t. t)
          (m + g) new (drop g s.equations) (λ t. refl) parts.1,
    )
  where
    m : ℕ
    m = length s.context

    new : ℕ
    new = length s.context + length b.constructor.arguments

    X : List Item
    X = argument_items b.n ps b.constructor

    count : length (argument_items b.n ps b.constructor) ≡ length b.constructor.arguments
    count = length-argument_items b.n ps b.constructor

-- ---- one step

-- the first equation, where its sides convert under an instantiation as they are in the step
first-sides : (S : Signature) → HasClosedBodies S → (s : State) (q : ℕ → Term) (e : Equation) (A u v : Term) → IsFirst S s e A u v
    → Converts S (inst q u) (inst q v) → SidesConvert S q (drop 1 s.equations) → SidesConvert S q s.equations
first-sides S closed s q e A u v first h rest =
    transport (SidesConvert S q) (sym first.first) (
      converts-trans (converts-inst S closed q first.left) (converts-trans h (converts-sym (converts-inst S closed q first.right))),
      transport (λ es. SidesConvert S q (drop 1 es)) first.first rest,
    )

map-passes : (r q : ℕ → Term) (side : Term → Term) (ts : List Term) → ((t : Term) → inst r (side t) ≡ inst q t)
    → map (inst r) (map side ts) ≡ map (inst q) ts
map-passes r q side [] passes = refl
map-passes r q side (t ∷ ts) passes = ap₂ ◌∷◌ (passes t) (map-passes r q side ts passes)

-- after a solution, where the two sides are the variable and the term
solve-unifies : (S : Signature) → HasClosedBodies S → (s t : State) (e : Equation) (x : ℕ) (A u l r : Term) → IsFirst S s e A l r
    → IsSolvable s x A u → ((q : ℕ → Term) → inst q (Var x) ≡ inst q u → inst q l ≡ inst q r)
    → IsUnifiedIn S (solved_state s e.place.level (level_of (length s.context) x) A u) t → IsUnifiedIn S s t
solve-unifies S closed s t e x A u l r first solvable become h = record {
  terms = q;
  solution = h.solution ∙ map-passes h.terms q _ s.solution passes;
  sides =
      first-sides S closed s q e A l r first
      (transport (Converts S (inst q l)) (become q agrees) same)
      (sides-solved S h.terms q s e.place.level (level_of (length s.context) x) A u passes h.sides);
}
  where
    there : level_of (length s.context) x < length s.context
    there = let lt : x < length s.context = solvable.variable in omega arith

    q : ℕ → Term
    q n = inst h.terms (solution_at s.context (level_of (length s.context) x) u n)

    passes : (w : Term)
        → inst h.terms (put (solved (length s.context) (order_without s.context (level_of (length s.context) x)) (level_of (length s.context) x) u) (length s.context) (length (order_without s.context (level_of (length s.context) x))) w)
        ≡ inst q w
    passes w =
        ap (inst h.terms) (solved-is_inst s.context (level_of (length s.context) x) u there solvable.term w)
        ∙ inst-inst h.terms (solution_at s.context (level_of (length s.context) x) u) w

    agrees : inst q (Var x) ≡ inst q u
    agrees =
        sym (inst-inst h.terms (solution_at s.context (level_of (length s.context) x) u) (Var x))
        ∙ (ap (inst h.terms) (solved-agrees s.context (level_of (length s.context) x) x u there solvable.variable refl solvable.term)
        ∙ inst-inst h.terms (solution_at s.context (level_of (length s.context) x) u) u)

-- after an injectivity of one equation
inject-unifies : (S : Signature) → HasClosedBodies S → (s t : State) (e : Equation) (A : Term) (b d : Built) → IsBuilt S b → IsBuilt S d
    → b.n ≡ d.n → b.number ≡ d.number → IsFirst S s e A (term_of b) (term_of d) → AreMembers S s 1 b d
    → IsUnifiedIn S (injected_state s 1 b.n b.number b.family b.constructor b.parameters b.arguments d.arguments) t
    → IsUnifiedIn S s t
inject-unifies S closed s t e A b d hb hd n number first members h =
    let parts = injected-sides S s h.terms 1 b.family b.parameters b d hb hd n number h.sides in
    record {
      terms = h.terms;
      solution = h.solution;
      sides =
          first-sides S closed s h.terms e A (term_of b) (term_of d) first
          (built-converts S h.terms b d n number (each-inst S closed h.terms b.parameters d.parameters members.parameters) parts.0)
          parts.1;
    }

-- after the injectivity of a group
group-unifies : (S : Signature) → HasClosedBodies S → (s t : State) (k : ℕ) (f : Family) (ps : List Term) (type : Term) (b d : Built)
    → IsBuilt S b → IsBuilt S d → b.n ≡ d.n → b.number ≡ d.number → IsGroup S s k b.n f ps type (term_of b) (term_of d)
    → AreMembers S s (k + 1) b d
    → IsUnifiedIn S (injected_state s (k + 1) b.n b.number f b.constructor ps b.arguments d.arguments) t → IsUnifiedIn S s t
group-unifies S closed s t k f ps type b d hb hd n number group members h =
    let parts = injected-sides S s h.terms (k + 1) f ps b d hb hd n number h.sides in
    let parameters = each-inst S closed h.terms b.parameters d.parameters members.parameters in
    record {
      terms = h.terms;
      solution = h.solution;
      sides =
          sides-group S h.terms k (k + 1) s.equations group.last refl group.is_last
          (sides-taken S closed h.terms k s.equations (targets_of b) (targets_of d)
          (transport (λ i. EachConverts S (take i (left_sides s.equations)) (targets_of b)) less members.left)
          (transport (λ i. EachConverts S (take i (right_sides s.equations)) (targets_of d)) less members.right)
          (targets parameters parts.0))
          (converts-trans (converts-inst S closed h.terms group.left)
          (converts-trans (built-converts S h.terms b d n number parameters parts.0)
          (converts-sym (converts-inst S closed h.terms group.right))))
          parts.1;
    }
  where
    less : k + 1 - 1 ≡ k
    less = omega arith

    targets : EachConverts S (map (inst h.terms) b.parameters) (map (inst h.terms) d.parameters)
        → EachConverts S (map (inst h.terms) b.arguments) (map (inst h.terms) d.arguments)
        → EachConverts S (map (inst h.terms) (targets_of b)) (map (inst h.terms) (targets_of d))
    targets hp ha =
        transport (λ ts. EachConverts S ts (map (inst h.terms) (targets_of d))) (sym (inst-values h.terms b.parameters b.arguments b.constructor.targets))
        (transport
        (EachConverts S (at_values (map (inst h.terms) b.parameters) (map (inst h.terms) b.arguments) b.constructor.targets))
        (ap (λ c. at_values (map (inst h.terms) d.parameters) (map (inst h.terms) d.arguments) c.targets) (same-constructor S b d hb hd n number)
        ∙ sym (inst-values h.terms d.parameters d.arguments d.constructor.targets))
        (values-each S closed (map (inst h.terms) b.parameters) (map (inst h.terms) d.parameters) (map (inst h.terms) b.arguments)
        (map (inst h.terms) d.arguments) b.constructor.targets hp ha))

-- after any step
step-unifies : (S : Signature) → HasClosedBodies S → (s u t : State) (step : Step) → Steps S s step u → IsCoherent S s step
    → IsUnifiedIn S u t → IsUnifiedIn S s t
step-unifies S closed s u t step (solve_right s' e x A w first solvable) coherent h =
    solve-unifies S closed s t e x A w w (Var x) first solvable (λ q agrees. sym agrees) h
step-unifies S closed s u t step (solve_left s' e x A w first solvable) coherent h =
    solve-unifies S closed s t e x A w (Var x) w first solvable (λ q agrees. agrees) h
step-unifies S closed s u t step (inject_group s' k f ps type b d hb hd n number group) coherent h =
    group-unifies S closed s t k f ps type b d hb hd n number group (coherent b d hb hd refl refl refl) h
step-unifies S closed s u t step (inject s' e A b d hb hd n number level indices first) coherent h =
    inject-unifies S closed s t e A b d hb hd n number first (coherent b d hb hd refl refl refl) h
step-unifies S closed s u t step (delete s' e A l r on first converts) coherent h = record {
  terms = h.terms;
  solution = h.solution;
  sides =
      first-sides S closed s h.terms e A l r first (converts-inst S closed h.terms converts)
      (sides-deleted S h.terms s e.place.level A l h.sides);
}

map-inst-var : (ts : List Term) → ts ≡ map (inst Var) ts
map-inst-var [] = refl
map-inst-var (t ∷ ts) = ap₂ ◌∷◌ (sym (inst-var t)) (map-inst-var ts)

-- the whole chain
pub chain-unifies : (S : Signature) (P : State → Step → Type 0) → HasClosedBodies S
    → ((s : State) (step : Step) → P s step → IsCoherent S s step) → (s t : State) (steps : List Step) → ChainWith S P s steps t
    → t.equations ≡ [] → IsUnifiedIn S s t
chain-unifies S P closed coherent s t steps (none s') end = record {
  terms = Var;
  solution = map-inst-var s.solution;
  sides = transport (SidesConvert S Var) (sym end) tt;
}
chain-unifies S P closed coherent s t steps (more s' u t' step rest p h chain) end =
    step-unifies S closed s u t step h (coherent s step p) (chain-unifies S P closed coherent u t rest chain end)
