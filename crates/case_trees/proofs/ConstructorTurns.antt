-- A turn of unification keeps track of a constructor that is to come to a term of the solution.
use Rattle.std.proofs.Common.{◌≡◌, ◌⊎◌, inl, inr, ℕ, zero, suc, ◌+◌, ◌<◌, ◌≤◌, ◌==◌, Bool, true, false, Option, Some, None, Result, Ok, Err, IfOk, List, [], ◌∷◌, length, take, slice_get, refl, sym, ap, ◌∙◌, subst as transport, arith}
use Rattle.std.proofs.lemmas.Bool.{eqb-true}
use Rattle.theory.specs.Terms.{Term, Var}
use Rattle.theory.specs.Signatures.{Signature}
use Rattle.theory.specs.SignatureScopes.{IsScoped}
use Rattle.core_terms.specs.Answers.{and_next}
use Rattle.core_terms.specs.declared.stop.Stop.{Stop}
use Rattle.kernel_reduce.specs.Comparison.{convertible_of}
use Rattle.kernel_reduce.specs.Reduction.{nesting, normal_of}
use Rattle.kernel_reduce.specs.Tidying.{tidy_of}
use Rattle.unification.specs.Built.{Built, built_of, is_fitting, has_no_indices}
use Rattle.unification.specs.Constructors.{constructor_turn, constructor_trial, injection_step}
use Rattle.unification.specs.Cycles.{cycle_trial}
use Rattle.unification.specs.Deletions.{deletion_step, delete, if_convertible, deletion_trial}
use Rattle.unification.specs.Groups.{Membership, membership_of, are_equations_of, group_turn, if_holds, on_membership, last_trial, group_trial, group_trials}
use Rattle.unification.specs.Heights.{bounded_state, injection_made}
use Rattle.unification.specs.Rules.{level_of}
use Rattle.unification.specs.ScopedStates.{IsReady, IsScopedState}
use Rattle.unification.specs.Solutions.{variable_in, is_free_of, solve_side, right_step, left_step, solve_sides, with_variable, solution_trial}
use Rattle.unification.specs.Solving.{solved_state, deleted_state}
use Rattle.unification.specs.States.{Equation, State}
use Rattle.unification.specs.Sticking.{stuck_trial}
use Rattle.unification.specs.Strategy.{first_trials, trials, turn_of}
use Rattle.unification.specs.Turns.{Turn, Done, Goes, Fails, Sticks, type_in}
use Rattle.unification.specs.declared.why.Why.TheVariants.{NeedsK}
use Rattle.unification.proofs.MovedStates.{injection_made-has}
use Rattle.unification.proofs.ScopedEquations.{bounded_state-has}
use Rattle.unification.proofs.SpentUnits.{any-answer}
use Rattle.unification.proofs.TurnLaws.{turn-has}
use Rattle.unification.proofs.TurnProperties.{FollowsWhole, first-at, tried}
use Rattle.unification.proofs.UnderInstances.{closed-bodies}
use Rattle.unification.proofs.Variables.{variable-is, variable-below}
use Rattle.case_trees.specs.HeadSteps.{Reaches, HasConstructor}
use Rattle.case_trees.proofs.Answered.{and_next-ok}
use Rattle.case_trees.proofs.ConstructorForms.{built-has, built-reached, normal-built, convertible-has}
use Rattle.case_trees.proofs.ConstructorStates.{AwaitsConstructor, HasOrAwaits, standing, awaits-solved, solves-last, awaits-deleted, injected-tracks, has-stepped}
use Rattle.case_trees.proofs.GoingSolutions.{solve_side-goes}
use Rattle.case_trees.proofs.GoingTurns.{OnGoing, MayGo, GoesWith, or_else-goes, cond-goes, goes_to-goes, tidy-goes, on_tidied-goes, fails_at-goes, sticks_at-goes, stuck_trial-goes, AreHeads, on_constructors-goes, cycle_trial-goes}
use Rattle.case_trees.proofs.ScopedPoints.{chain-scoped}

-- ---- groups

group_turn-tracks : (S : Signature) (n number level : ℕ) (s : State) (h : AwaitsConstructor S n number level s) (k : ℕ) (e : Equation) (m : Membership) (type : Term)
    → slice_get s.equations k ≡ Some e → (l : Term) (b : Built) (r : Term) (d : Built) (left : ℕ) → AreHeads S e.left e.right l b r d
    → GoesWith (HasOrAwaits S n number level) (group_turn S s k e m type l b r d) left
group_turn-tracks S n number level s h k e m type at l b r d left is =
    cond-goes (HasOrAwaits S n number level) (b.number == d.number) _ _ left
    (λ same. goes_to-goes (HasOrAwaits S n number level) (injection_step (k + 1) type l r b)
    (injection_made s (k + 1) b.n b.number m.family b.constructor m.parameters b.arguments d.arguments) left
    (injection_made-has (HasOrAwaits S n number level) s (k + 1) b.n b.number m.family b.constructor m.parameters b.arguments d.arguments
    (injected-tracks S n number level s h k e at l b r d is (eqb-true b.number d.number same) b.n b.number m.family b.constructor m.parameters b.arguments d.arguments)))
    (λ other. fails_at-goes (HasOrAwaits S n number level) S _ e.left e.right left)

membership-tracks : (S : Signature) (n number level : ℕ) (s : State) (h : AwaitsConstructor S n number level s) (k : ℕ) (e : Equation) (type : Term) (o : Option Membership)
    (left : ℕ) → slice_get s.equations k ≡ Some e → GoesWith (HasOrAwaits S n number level) (on_membership S s k e type o) left
membership-tracks S n number level s h k e type None left at = tt
membership-tracks S n number level s h k e type (Some m) left at =
    on_constructors-goes (HasOrAwaits S n number level) S (λ b. b.n == m.n) e.left e.right _ left (λ l b r d rest is.
    and_next-ok (λ holds. Unit {0}) (MayGo (HasOrAwaits S n number level)) (are_equations_of S m (take (k + 1) s.equations) rest) _
    (any-answer (are_equations_of S m (take (k + 1) s.equations) rest).0) (λ holds end any. by l b r d is holds end))
  where
    by : (l : Term) (b : Built) (r : Term) (d : Built) → AreHeads S e.left e.right l b r d → (holds : Bool) (end : ℕ)
        → GoesWith (HasOrAwaits S n number level) (if_holds holds (group_turn S s k e m type l b r d)) end
    by l b r d is true end = group_turn-tracks S n number level s h k e m type at l b r d end is
    by l b r d is false end = tt

last_trial-tracks : (S : Signature) (n number level : ℕ) (s : State) (h : AwaitsConstructor S n number level s) (k : ℕ) (o : Option Equation) (left : ℕ)
    → slice_get s.equations k ≡ o → GoesWith (HasOrAwaits S n number level) (last_trial S s k o) left
last_trial-tracks S n number level s h k None left at = tt
last_trial-tracks S n number level s h k (Some e) left at =
    tidy-goes (HasOrAwaits S n number level) S e.place.type left (λ type. on_membership S s k e type (membership_of S k type)) (λ type rest to.
    membership-tracks S n number level s h k e type (membership_of S k type) rest at)

group_trials-track : (S : Signature) (n number level : ℕ) (s : State) (h : AwaitsConstructor S n number level s) (k left : ℕ)
    → GoesWith (HasOrAwaits S n number level) (group_trials S s k) left
group_trials-track S n number level s h zero left = tt
group_trials-track S n number level s h (suc k) left =
    or_else-goes (HasOrAwaits S n number level) (group_trial S s (suc k)) (group_trials S s k) left
    (last_trial-tracks S n number level s h (suc k) (slice_get s.equations (suc k)) left refl) (λ rest. group_trials-track S n number level s h k rest)

-- ---- solution

-- the equation that is solved
record IsSolvedAt (S : Signature) (n number level : ℕ) (s : State) (e : Equation) : Type 0 where
  waits : AwaitsConstructor S n number level s
  at : slice_get s.equations 0 ≡ Some e
  left : IsScoped S (length s.context) e.left
  right : IsScoped S (length s.context) e.right

any-normal : (S : Signature) (t : Term) (left : ℕ) → IfOk (normal_of S true nesting t left).0 (λ w. Unit {0})
any-normal S t left = any-answer (normal_of S true nesting t left).0

-- a side of an equation before the last one
solves-before : (S : Signature) (n number level : ℕ) (s : State) (e : Equation) → IsReady S → (h : IsSolvedAt S n number level s e) → 1 ≤ length h.waits.before
    → (t u A : Term) (x : ℕ) (w : Term) → IsScoped S (length s.context) t → Reaches S t u → variable_in u ≡ Some x → is_free_of s x w ≡ true
    → HasOrAwaits S n number level (solved_state s e.place.level (level_of (length s.context) x) A w)
solves-before S n number level s e ready h le t u A x w scoped to is free =
    let low : x < length s.context = variable-below (transport (IsScoped S (length s.context)) (variable-is u x is) (chain-scoped S (length s.context) ready.scoped t u to scoped)) in
    inr (awaits-solved S n number level s h.waits e.place.level (level_of (length s.context) x) A w (omega arith) free le)

right-tracks : (S : Signature) (n number level : ℕ) (s : State) (e : Equation) → IsReady S → IsSolvedAt S n number level s e → (A u v : Term)
    → Reaches S e.left u → Reaches S e.right v → (left : ℕ) → GoesWith (HasOrAwaits S n number level) (solve_side S s e A u (right_step A v) (variable_in v)) left
right-tracks S n number level s e ready h A u v to also left = by (standing S n number level s h.waits 0 e h.at)
  where
    b : Built
    b = h.waits.built

    named : (w : Term) → HasConstructor S b.n b.number w → HasConstructor S n number w
    named w is =
        transport (λ k. HasConstructor S k number w) h.waits.family (transport (λ k. HasConstructor S b.n k w) h.waits.constructor is)

    all-named : (r : Result Term Stop) → IfOk r (HasConstructor S b.n b.number) → IfOk r (HasConstructor S n number)
    all-named (Ok w) is = named w is
    all-named (Err d) is = tt

    by : (0 + 1 ≤ length h.waits.before) ⊎ (h.waits.last ≡ e) → GoesWith (HasOrAwaits S n number level) (solve_side S s e A u (right_step A v) (variable_in v)) left
    by (inl le) =
        solve_side-goes (HasOrAwaits S n number level) S (λ w. Unit {0}) s e A u (right_step A v) (variable_in v) left tt (any-normal S u)
        (λ x w is q free. solves-before S n number level s e ready h (omega arith) e.right v A x w h.right also is free)
    by (inr last) =
        let built : built_of S u ≡ Some b =
        built-reached S e.left u b (transport (λ (x : Equation). built_of S x.left ≡ Some b) last h.waits.left) to in
        solve_side-goes (HasOrAwaits S n number level) S (HasConstructor S n number) s e A u (right_step A v) (variable_in v) left
        (named u (built-has S u b built)) (λ units. all-named (normal_of S true nesting u units).0 (normal-built S nesting u b units built))
        (λ x w is q free.
        let low : x < length s.context =
        variable-below (transport (IsScoped S (length s.context)) (variable-is v x is) (chain-scoped S (length s.context) ready.scoped e.right v also h.right)) in
        inl (solves-last S (closed-bodies S ready.scoped) n number level s h.waits e.place.level x A w low free
        (transport (λ (y : Equation). Reaches S y.right (Var x)) (sym last) (transport (Reaches S e.right) (variable-is v x is) also)) q))

-- the left side of the last equation is no variable
left-tracks : (S : Signature) (n number level : ℕ) (s : State) (e : Equation) → IsReady S → IsSolvedAt S n number level s e → (A u v : Term)
    → Reaches S e.left u → Reaches S e.right v → (left : ℕ) → GoesWith (HasOrAwaits S n number level) (solve_side S s e A v (left_step A u) (variable_in u)) left
left-tracks S n number level s e ready h A u v to also left =
    solve_side-goes (HasOrAwaits S n number level) S (λ w. Unit {0}) s e A v (left_step A u) (variable_in u) left tt (any-normal S v)
    (λ x w is q free. by x w is free (standing S n number level s h.waits 0 e h.at))
  where
    by : (x : ℕ) (w : Term) → variable_in u ≡ Some x → is_free_of s x w ≡ true → (0 + 1 ≤ length h.waits.before) ⊎ (h.waits.last ≡ e)
        → HasOrAwaits S n number level (solved_state s e.place.level (level_of (length s.context) x) A w)
    by x w is free (inl le) = solves-before S n number level s e ready h (omega arith) e.left u A x w h.left to is free
    by x w is free (inr last) =
        let built : built_of S u ≡ Some h.waits.built =
        built-reached S e.left u h.waits.built (transport (λ (x : Equation). built_of S x.left ≡ Some h.waits.built) last h.waits.left) to in
        let none : built_of S (Var x) ≡ Some h.waits.built = transport (λ t. built_of S t ≡ Some h.waits.built) (variable-is u x is) built in
        absurd (grind (arith, none))

solution_trial-tracks : (S : Signature) (n number level : ℕ) (s : State) (e : Equation) → IsReady S → IsSolvedAt S n number level s e → (left : ℕ)
    → GoesWith (HasOrAwaits S n number level) (solution_trial S s e) left
solution_trial-tracks S n number level s e ready h left =
    on_tidied-goes (HasOrAwaits S n number level) S e.left e.right _ left (λ u v rest to also. by u v rest to also (variable_in u) (variable_in v))
  where
    goes : (u v : Term) (rest : ℕ) → Reaches S e.left u → Reaches S e.right v
        → GoesWith (HasOrAwaits S n number level) (λ left. and_next (tidy_of S left (type_in e.type)) (λ A rest. solve_sides S s e A u v rest)) rest
    goes u v rest to also =
        tidy-goes (HasOrAwaits S n number level) S (type_in e.type) rest (λ A. solve_sides S s e A u v) (λ A end typed.
        or_else-goes (HasOrAwaits S n number level) (solve_side S s e A u (right_step A v) (variable_in v)) (solve_side S s e A v (left_step A u) (variable_in u)) end
        (right-tracks S n number level s e ready h A u v to also end) (λ units. left-tracks S n number level s e ready h A u v to also units))

    by : (u v : Term) (rest : ℕ) → Reaches S e.left u → Reaches S e.right v → (o o' : Option ℕ)
        → GoesWith (HasOrAwaits S n number level) (with_variable S s e u v o o') rest
    by u v rest to also None None = tt
    by u v rest to also None (Some y) = goes u v rest to also
    by u v rest to also (Some x) None = goes u v rest to also
    by u v rest to also (Some x) (Some y) = goes u v rest to also

-- ---- constructors, and deletion

constructor_trial-tracks : (S : Signature) (n number level : ℕ) (s : State) (e : Equation) → IsSolvedAt S n number level s e → (left : ℕ)
    → GoesWith (HasOrAwaits S n number level) (constructor_trial S s e) left
constructor_trial-tracks S n number level s e h left =
    on_constructors-goes (HasOrAwaits S n number level) S (λ b. is_fitting b.family) e.left e.right (constructor_turn S s e) left (λ l b r d rest is.
    cond-goes (HasOrAwaits S n number level) (b.number == d.number) _ _ rest
    (λ same. cond-goes (HasOrAwaits S n number level) (has_no_indices b.family) _ _ rest
    (λ plain. goes_to-goes (HasOrAwaits S n number level) (injection_step 1 (type_in e.type) l r b)
    (injection_made s 1 b.n b.number b.family b.constructor b.parameters b.arguments d.arguments) rest
    (injection_made-has (HasOrAwaits S n number level) s 1 b.n b.number b.family b.constructor b.parameters b.arguments d.arguments
    (injected-tracks S n number level s h.waits 0 e h.at l b r d is (eqb-true b.number d.number same) b.n b.number b.family b.constructor b.parameters b.arguments
    d.arguments)))
    (λ indexed. tt))
    (λ other. fails_at-goes (HasOrAwaits S n number level) S _ e.left e.right rest))

deleted-tracks : (S : Signature) (n number level : ℕ) (s : State) (e : Equation) (i : ℕ) (A u : Term) → IsSolvedAt S n number level s e
    → ((b : Built) → built_of S e.left ≡ Some b → HasConstructor S b.n b.number e.right) → HasOrAwaits S n number level (deleted_state s i A u)
deleted-tracks S n number level s e i A u h same = by (standing S n number level s h.waits 0 e h.at)
  where
    b : Built
    b = h.waits.built

    by : (0 + 1 ≤ length h.waits.before) ⊎ (h.waits.last ≡ e) → HasOrAwaits S n number level (deleted_state s i A u)
    by (inl le) = inr (awaits-deleted S n number level s h.waits i A u (omega arith))
    by (inr last) =
        let has = same b (transport (λ (x : Equation). built_of S x.left ≡ Some b) last h.waits.left) in
        inl (record {
          term = e.right;
          there = h.waits.right ∙ ap (λ (x : Equation). Some x.right) last;
          has = transport (λ k. HasConstructor S k number e.right) h.waits.family (transport (λ k. HasConstructor S b.n k e.right) h.waits.constructor has);
        })

deletion_trial-tracks : (S : Signature) (n number level : ℕ) (s : State) (e : Equation) → IsSolvedAt S n number level s e → (left : ℕ)
    → GoesWith (HasOrAwaits S n number level) (deletion_trial S s e) left
deletion_trial-tracks S n number level s e h left =
    and_next-ok (λ holds. holds ≡ true → Same) (MayGo (HasOrAwaits S n number level)) (convertible_of S nesting e.left e.right left) _
    (compared (convertible_of S nesting e.left e.right left).0 (λ b is. convertible-has S nesting e.left e.right b left is))
    (λ holds rest same. by holds rest same)
  where
    Same : Type 0
    Same = (b : Built) → built_of S e.left ≡ Some b → HasConstructor S b.n b.number e.right

    compared : (r : Result Bool Stop)
        → ((b : Built) → built_of S e.left ≡ Some b → IfOk r (λ holds. holds ≡ true → HasConstructor S b.n b.number e.right))
        → IfOk r (λ holds. holds ≡ true → Same)
    compared (Ok holds) k = λ yes b is. k b is yes
    compared (Err d) k = tt

    deletes : (rest : ℕ) → Same → GoesWith (HasOrAwaits S n number level) (delete S s e) rest
    deletes rest same =
        tidy-goes (HasOrAwaits S n number level) S (type_in e.type) rest _ (λ A middle to.
        on_tidied-goes (HasOrAwaits S n number level) S e.left e.right _ middle (λ u v end left_to right_to.
        goes_to-goes (HasOrAwaits S n number level) (deletion_step A u v) (bounded_state (deleted_state s e.place.level A u)) end
        (bounded_state-has (HasOrAwaits S n number level) (deleted_state s e.place.level A u) (deleted-tracks S n number level s e e.place.level A u h same))))

    by : (holds : Bool) (rest : ℕ) → (holds ≡ true → Same) → GoesWith (HasOrAwaits S n number level) (if_convertible S s e holds) rest
    by true rest same =
        cond-goes (HasOrAwaits S n number level) S.has_k _ _ rest (λ on. deletes rest (same refl)) (λ off. sticks_at-goes (HasOrAwaits S n number level) S NeedsK e.left e.right rest)
    by false rest same = tt

-- ---- all trials

first_trials-track : (S : Signature) (n number level : ℕ) (s : State) (e : Equation) → IsReady S → IsSolvedAt S n number level s e → (left : ℕ)
    → GoesWith (HasOrAwaits S n number level) (first_trials S s e) left
first_trials-track S n number level s e ready h left =
    or_else-goes (HasOrAwaits S n number level) (solution_trial S s e) _ left (solution_trial-tracks S n number level s e ready h left) (λ a.
    or_else-goes (HasOrAwaits S n number level) (constructor_trial S s e) _ a (constructor_trial-tracks S n number level s e h a) (λ b.
    or_else-goes (HasOrAwaits S n number level) (cycle_trial S e) _ b (cycle_trial-goes (HasOrAwaits S n number level) S e b) (λ c.
    or_else-goes (HasOrAwaits S n number level) (deletion_trial S s e) (stuck_trial S e) c (deletion_trial-tracks S n number level s e h c) (λ d.
    stuck_trial-goes (HasOrAwaits S n number level) S e d))))

trials-track : (S : Signature) (n number level : ℕ) (s : State) (es : List Equation) → IsReady S → IsScopedState S s → AwaitsConstructor S n number level s
    → s.equations ≡ es → (left : ℕ) → GoesWith (HasOrAwaits S n number level) (trials S s es) left
trials-track S n number level s [] ready scoped h first left = tt
trials-track S n number level s (e ∷ others) ready scoped h first left =
    let is = tried S s e others first scoped in
    or_else-goes (HasOrAwaits S n number level) (group_trials S s (length others)) (first_trials S s e) left
    (group_trials-track S n number level s h (length others) left)
    (λ rest. first_trials-track S n number level s e ready
    (record { waits = h; at = first-at s e others first; left = is.equation.left; right = is.equation.right }) rest)

-- a turn keeps track of the constructor
pub turn-tracks : (S : Signature) (n number level : ℕ) (s : State) → IsReady S → IsScopedState S s → HasOrAwaits S n number level s → (left : ℕ)
    → GoesWith (HasOrAwaits S n number level) (turn_of S s) left
turn-tracks S n number level s ready scoped (inr waits) left = trials-track S n number level s s.equations ready scoped waits refl left
turn-tracks S n number level s ready scoped (inl has) left =
    turn-has S s left (OnGoing (HasOrAwaits S n number level)) (λ turn rest is. by turn (is.right ready scoped).follows)
  where
    by : (turn : Turn) → FollowsWhole S s turn → OnGoing (HasOrAwaits S n number level) turn
    by Done follows = tt
    by (Goes step t) follows = inl (has-stepped S (closed-bodies S ready.scoped) n number level s t step follows has)
    by (Fails step u v) follows = tt
    by (Sticks why u v) follows = tt
