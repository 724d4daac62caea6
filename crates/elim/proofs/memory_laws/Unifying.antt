-- Unification.
use Rattle.std.proofs.Common.{ℕ, zero, suc, ◌+◌, ◌-◌, ◌==◌, Bool, true, false, cond, Option, Some, None, option_map, Result, List, [], ◌∷◌, length, slice_get, take}
use Rattle.theory.specs.Terms.{Term}
use Rattle.theory.specs.Families.{Argument, Constructor, Family}
use Rattle.theory.specs.Signatures.{Signature}
use Rattle.core_terms.specs.Answers.{Spent}
use Rattle.core_terms.specs.CaseTrees.{Step}
use Rattle.core_terms.specs.declared.stop.Stop.{Stop}
use Rattle.kernel_reduce.specs.Reduction.{nesting}
use Rattle.tele_eq.specs.Items.{Item}
use Rattle.tele_eq.specs.TelescopicEquality.{equations}
use Rattle.unification.specs.Built.{Built, built_of, has_no_indices, is_fitting}
use Rattle.unification.specs.Constructors.{conflict_step, constructor_trial, constructor_turn, injection_step, on_constructors, right_head, same_constructor, where_fits, with_built, with_heads}
use Rattle.unification.specs.Cycles.{Below, Search, among_arguments, below_constructor, bounded_found, by_less, by_room, by_units, cycle_at, cycle_search, cycle_trial, found_as, here_or, in_form, left_constructor, left_form, reduced_side, right_variable}
use Rattle.unification.specs.Deletions.{delete, deletion_step, deletion_trial, if_convertible}
use Rattle.unification.specs.Groups.{Membership, all_convertible, are_equations_of, group_trials, group_turn, if_holds, last_trial, membership_of, on_membership}
use Rattle.unification.specs.Heights.{bounded_items, bounded_state, equations_made, group_made, injection_made, start_made}
use Rattle.unification.specs.Runs as run
use Rattle.unification.specs.Runs.{Going, after, by_measure, by_size, by_variables, goes_on, one_turn, run_of, size_of_sides, unify_of}
use Rattle.unification.specs.Solutions.{solution_from, solution_trial, solve_side, solve_sides, solves, state_solved, variable_in, with_variable}
use Rattle.unification.specs.Injecting.{group_proofs, lifted}
use Rattle.unification.specs.Records.{argument_items, constructor_terms, family_items}
use Rattle.unification.specs.Solving.{deleted_state, solved_state}
use Rattle.unification.specs.States.{Equation, Problem, State, left_sides, right_sides, starting, types_as_they_stand}
use Rattle.unification.specs.Sticking.{stuck_trial}
use Rattle.unification.specs.Strategy.{first_trials, trials, turn_of}
use Rattle.unification.specs.Turns.{Trial, Turn, Done, Goes, Fails, Sticks, does_not_apply, fails_at, goes_to, on_tidied, or_else, sticks_at, type_in, unless_found}
use Rattle.unification.specs.declared.why.Why.{Why}
use Rattle.elim.specs.memory_laws.Foreseen.{IsForeseen}
use Rattle.elim.proofs.memory_laws.Runs.{Only, Ends, ok, now, done, next, and-then, either, either-ends, deep, lows}
use Rattle.elim.proofs.memory_laws.Kernel.{both-end, convertible, normal, some-low, tidy, whnf}

-- a computation has such a refusal alone, with any number of units
abbrev Tried : {A : Type 0} → (ℕ → Spent A) → Type 0
Tried run = (left : ℕ) → Ends IsForeseen (run left)

either-tried : {A : Type 0} (test : Bool) {first second : ℕ → Spent A} → Tried first → Tried second → Tried (cond test first second)
either-tried true h k left = h left
either-tried false h k left = k left

-- ---- trials

does-not : Tried does_not_apply
does-not left = done

goes-to : (step : Step) {made : Result State Stop} → Only IsForeseen made → Tried (goes_to step made)
goes-to step h left = next (now h) (λ s rest. done)

on-tidied : (S : Signature) (u v : Term) {go : Term → Term → Trial} → ((u v : Term) → Tried (go u v)) → Tried (on_tidied S u v go)
on-tidied S u v h left =
    next (next (tidy S left u) (λ u' rest. next (tidy S rest v) (λ v' end. done))) (λ sides rest. h sides.0 sides.1 rest)

fails : (S : Signature) (step : Step) (u v : Term) → Tried (fails_at S step u v)
fails S step u v left = on-tidied S u v (λ u' v' rest. done) left

sticks : (S : Signature) (why : Why) (u v : Term) → Tried (sticks_at S why u v)
sticks S why u v left = on-tidied S u v (λ u' v' rest. done) left

unless : (found : Option Turn) {second : Trial} → Tried second → Tried (unless_found found second)
unless (Some turn) h left = done
unless None h left = h left

or-else : {first second : Trial} → Tried first → Tried second → Tried (or_else first second)
or-else h k left = next (h left) (λ turn rest. unless turn k rest)

-- ---- heights

state-low : (s : State) → Only IsForeseen (bounded_state s)
state-low s = either _ ok deep

items-low : (X : List Item) → Only IsForeseen (bounded_items X)
items-low X = either _ ok deep

equations-low : (X : List Item) (us vs : List Term) → Only IsForeseen (equations_made X us vs)
equations-low X us vs = either _ (and-then (items-low X) (λ items. lows (equations items us vs))) deep

group-low : (n number : ℕ) (f : Family) (c : Constructor) (ps us vs : List Term) → Only IsForeseen (group_made n number f c ps us vs)
group-low n number f c ps us vs =
    let ps' = lifted (length c.arguments) ps in
    and-then (items-low (argument_items n ps' c)) (λ arguments.
    and-then (items-low (family_items n f ps')) (λ family.
    and-then (lows (constructor_terms n number ps' c)) (λ terms. lows (group_proofs n number f c ps us vs))))

injection-low : (s : State) (g n number : ℕ) (f : Family) (c : Constructor) (ps us vs : List Term)
    → Only IsForeseen (injection_made s g n number f c ps us vs)
injection-low s g n number f c ps us vs =
    and-then
    (and-then (equations-low (argument_items n ps c) us vs) (λ types.
    and-then (group-low n number f c ps us vs) (λ proofs. and-then (lows (constructor_terms n number ps c)) (λ terms. ok))))
    (λ made. state-low (record s { equations = made }))

start-low : (p : Problem) → Only IsForeseen (start_made p)
start-low p = and-then (equations-low p.telescope p.left p.right) (λ types. state-low (starting p types))

-- ---- solutions

solution-from : (S : Signature) (s : State) (x : ℕ) (u : Term) → Tried (solution_from S s x u)
solution-from S s x u left = either-ends _ done (next (normal S true nesting u left) (λ v rest. done))

solved : (S : Signature) (s : State) (x : ℕ) (A u : Term) → Tried (solves S s x A u)
solved S s x A u left = either-ends _ (solution-from S s x u left) done

state-after : (s : State) (e : Equation) (x : ℕ) (A : Term) (found : Option Term) → Only IsForeseen (state_solved s e x A found)
state-after s e x A None = ok
state-after s e x A (Some u) =
    and-then (state-low (solved_state s e.place.level (length s.context - (x + 1)) A u)) (λ t. ok {a = Some (u, t)})

side : (S : Signature) (s : State) (e : Equation) (A other : Term) (step : ℕ → Term → Step) (x : Option ℕ) → Tried (solve_side S s e A other step x)
side S s e A other step None left = done
side S s e A other step (Some x) left =
    next (next (solved S s x A other left) (λ found rest. now (state-after s e x A found))) (λ found rest. done)

sides : (S : Signature) (s : State) (e : Equation) (A u v : Term) → Tried (solve_sides S s e A u v)
sides S s e A u v = or-else (side S s e A u _ (variable_in v)) (side S s e A v _ (variable_in u))

one-variable : (S : Signature) (s : State) (e : Equation) (u v : Term) (x y : Option ℕ) → Tried (with_variable S s e u v x y)
one-variable S s e u v None None left = done
one-variable S s e u v None (Some y) left = next (tidy S left _) (λ A rest. sides S s e A u v rest)
one-variable S s e u v (Some x) y left = next (tidy S left _) (λ A rest. sides S s e A u v rest)

solution : (S : Signature) (s : State) (e : Equation) → Tried (solution_trial S s e)
solution S s e = on-tidied S e.left e.right (λ u v. one-variable S s e u v (variable_in u) (variable_in v))

-- ---- constructors

right : (S : Signature) (l v : Term) (b : Option Built) → Tried (right_head S l v b)
right S l v None left = done
right S l v (Some b) left = next (whnf S true left v) (λ r rest. done)

both-built : {go : (l : Term) (b : Built) (r : Term) (d : Built) → Trial} → ((l : Term) (b : Built) (r : Term) (d : Built) → Tried (go l b r d))
    → (l r : Term) (b d : Option Built) → Tried (with_built go l r b d)
both-built h l r (Some b) (Some d) left = h l b r d left
both-built h l r (Some b) None left = done
both-built h l r None d left = done

both-found : (S : Signature) {go : (l : Term) (b : Built) (r : Term) (d : Built) → Trial} → ((l : Term) (b : Built) (r : Term) (d : Built) → Tried (go l b r d))
    → (found : Option (Term × Term)) → Tried (with_heads S go found)
both-found S h None left = done
both-found S h (Some sides) left = both-built h sides.0 sides.1 (built_of S sides.0) (built_of S sides.1) left

constructors : (S : Signature) (fits : Built → Bool) (u v : Term) {go : (l : Term) (b : Built) (r : Term) (d : Built) → Trial}
    → ((l : Term) (b : Built) (r : Term) (d : Built) → Tried (go l b r d)) → Tried (on_constructors S fits u v go)
constructors S fits u v h left =
    next (next (whnf S true left u) (λ l rest. right S l v (where_fits fits (built_of S l)) rest)) (λ found rest. both-found S h found rest)

same : (s : State) (e : Equation) (l r : Term) (b d : Built) → Tried (same_constructor s e l r b d)
same s e l r b d =
    either-tried (has_no_indices b.family)
    (goes-to (injection_step 1 (type_in e.type) l r b)
    (injection-low s 1 b.n b.number b.family b.constructor b.parameters b.arguments d.arguments))
    does-not

constructor-turn : (S : Signature) (s : State) (e : Equation) (l : Term) (b : Built) (r : Term) (d : Built) → Tried (constructor_turn S s e l b r d)
constructor-turn S s e l b r d =
    either-tried (b.number == d.number) (same s e l r b d) (fails S (conflict_step 1 (type_in e.type) l r b d) e.left e.right)

constructor : (S : Signature) (s : State) (e : Equation) → Tried (constructor_trial S s e)
constructor S s e = constructors S (λ b. is_fitting b.family) e.left e.right (constructor-turn S s e)

-- ---- groups

all-convertible : (S : Signature) (types others : List Term) → Tried (all_convertible S types others)
all-convertible S (a ∷ types) (b ∷ others) left = both-end (convertible S nesting a b) (all-convertible S types others) left
all-convertible S (a ∷ types) [] left = done
all-convertible S [] others left = done

are-equations : (S : Signature) (m : Membership) (group : List Equation) → Tried (are_equations_of S m group)
are-equations S m group left =
    next (now {left = left} (equations-low (family_items m.n m.family m.parameters) (left_sides group) (right_sides group))) (λ types rest.
    all-convertible S (types_as_they_stand group) types rest)

if-holds : (test : Bool) {go : Trial} → Tried go → Tried (if_holds test go)
if-holds true h left = h left
if-holds false h left = done

turn : (S : Signature) (s : State) (k : ℕ) (e : Equation) (m : Membership) (type l : Term) (b : Built) (r : Term) (d : Built)
    → Tried (group_turn S s k e m type l b r d)
turn S s k e m type l b r d =
    either-tried (b.number == d.number)
    (goes-to (injection_step (k + 1) type l r b)
    (injection-low s (k + 1) b.n b.number m.family b.constructor m.parameters b.arguments d.arguments))
    (fails S (conflict_step (k + 1) type l r b d) e.left e.right)

membership : (S : Signature) (s : State) (k : ℕ) (e : Equation) (type : Term) (m : Option Membership) → Tried (on_membership S s k e type m)
membership S s k e type None left = done
membership S s k e type (Some m) left =
    constructors S (λ b. b.n == m.n) e.left e.right
    (λ l b r d rest. next (are-equations S m (take (k + 1) s.equations) rest) (λ holds end. if-holds holds (turn S s k e m type l b r d) end)) left

last : (S : Signature) (s : State) (k : ℕ) (e : Option Equation) → Tried (last_trial S s k e)
last S s k None left = done
last S s k (Some e) left = next (tidy S left e.place.type) (λ type rest. membership S s k e type (membership_of S k type) rest)

groups : (S : Signature) (s : State) (k : ℕ) → Tried (group_trials S s k)
groups S s zero left = done
groups S s (suc k) left = or-else (last S s (suc k) (slice_get s.equations (suc k))) (groups S s k) left

-- ---- cycles

found-as : {A B : Type 0} (f : A → B) {search : Search A} → Tried search → Tried (found_as f search)
found-as f h left = next (h left) (λ found rest. done)

here-or : {A : Type 0} (found : Option A) {search : Search A} → Tried search → Tried (here_or found search)
here-or (Some a) h left = done
here-or None h left = h left

abbrev Searches : Below → Type 0
Searches below = (before : ℕ) (t : Term) → Tried (below before t)

among : (S : Signature) {below : Below} → Searches below → (arguments : List Argument) (us : List Term) → Tried (among_arguments S below arguments us)
among S {below} h (a ∷ arguments) (u ∷ us) left =
    either-ends _
    (next (whnf S true left u) (λ v rest.
    next (h left v rest) (λ found end.
    here-or (option_map (λ w. w ∷ us) found) {search = found_as (λ ws. u ∷ ws) (among_arguments S below arguments us)}
    (found-as (λ ws. u ∷ ws) (among S h arguments us)) end)))
    (found-as (λ ws. u ∷ ws) (among S h arguments us) left)
among S h (a ∷ arguments) [] left = done
among S h [] us left = done

below-built : (S : Signature) (n : ℕ) {below : Below} → Searches below → (b : Option Built) → Tried (below_constructor S n below b)
below-built S n h None left = done
below-built S n h (Some b) left =
    either-tried _ (found-as _ (among S h b.constructor.arguments b.arguments)) (λ rest. done) left

formed : (S : Signature) (n x : ℕ) {below : Below} → Searches below → (t : Term) → Tried (in_form S n x below t)
formed S n x h t left = either-ends _ done (below-built S n h (built_of S t) left)

-- searches from each term
abbrev EachTried : (Term → Search Term) → Type 0
EachTried search = (t : Term) → Tried (search t)

less : {units room : Term → Search Term} → EachTried units → EachTried room → Searches (by_less units room)
less h k before t left = either-ends _ (h t left) (k t left)

room : (S : Signature) (n x : ℕ) {units : Term → Search Term} → EachTried units → (high : ℕ) → EachTried (by_room S n x units high)
room S n x h zero t left = now deep
room S n x h (suc high) t left = formed S n x (less h (room S n x h high)) t left

units : (S : Signature) (n x left : ℕ) → EachTried (by_units S n x left)
units S n x zero t rest = room S n x (λ u end. now deep) _ t rest
units S n x (suc left) t rest = room S n x (units S n x left) _ t rest

found-low : (found : Option Term) → Only IsForeseen (bounded_found found)
found-low None = ok
found-low (Some t) = some-low t

reduced : (S : Signature) (x : ℕ) (t : Term) (b : Option Built) → Tried (reduced_side S x t b)
reduced S x t None left = done
reduced S x t (Some b) left = either-ends _ (next (units S b.n x left t left) (λ found rest. now (found-low found))) done

at-cycle : (S : Signature) (e : Equation) (step : Term → Step) (found : Option Term) → Tried (cycle_at S e step found)
at-cycle S e step None left = done
at-cycle S e step (Some t) left = fails S (step t) e.left e.right left

searched : (S : Signature) (e : Equation) (x : ℕ) (step : Term → Step) (t : Term) → Tried (cycle_search S e x step t)
searched S e x step t left = next (reduced S x t (built_of S t) left) (λ found rest. at-cycle S e step found rest)

from-right : (S : Signature) (e : Equation) (l : Term) (x : Option ℕ) → Tried (right_variable S e l x)
from-right S e l None left = done
from-right S e l (Some x) left = searched S e x _ l left

from-built : (S : Signature) (e : Equation) (l : Term) (b : Option Built) → Tried (left_constructor S e l b)
from-built S e l None left = done
from-built S e l (Some b) left = either-ends _ (next (whnf S true left e.right) (λ r rest. from-right S e l (variable_in r) rest)) done

from-left : (S : Signature) (e : Equation) (l : Term) (x : Option ℕ) → Tried (left_form S e l x)
from-left S e l (Some x) left = next (whnf S true left e.right) (λ r rest. searched S e x _ r rest)
from-left S e l None left = from-built S e l (built_of S l) left

cycle : (S : Signature) (e : Equation) → Tried (cycle_trial S e)
cycle S e left = next (whnf S true left e.left) (λ l rest. from-left S e l (variable_in l) rest)

-- ---- deletions

deleted : (S : Signature) (s : State) (e : Equation) → Tried (delete S s e)
deleted S s e left = next (tidy S left (type_in e.type)) (λ A rest.
    on-tidied S e.left e.right (λ u v. goes-to (deletion_step A u v) (state-low (deleted_state s e.place.level A u))) rest)

if-converts : (S : Signature) (s : State) (e : Equation) (holds : Bool) → Tried (if_convertible S s e holds)
if-converts S s e true = either-tried S.has_k (deleted S s e) (sticks S _ e.left e.right)
if-converts S s e false = λ left. done

deletion : (S : Signature) (s : State) (e : Equation) → Tried (deletion_trial S s e)
deletion S s e left = next (convertible S nesting e.left e.right left) (λ holds rest. if-converts S s e holds rest)

-- ---- turns

stuck : (S : Signature) (e : Equation) → Tried (stuck_trial S e)
stuck S e = on-tidied S e.left e.right (λ u v left. done)

first : (S : Signature) (s : State) (e : Equation) → Tried (first_trials S s e)
first S s e = or-else (solution S s e) (or-else (constructor S s e) (or-else (cycle S e) (or-else (deletion S s e) (stuck S e))))

all-trials : (S : Signature) (s : State) (equations : List Equation) → Tried (trials S s equations)
all-trials S s [] left = done
all-trials S s (e ∷ rest) left = or-else (groups S s (length rest)) (first S s e) left

turns : (S : Signature) (s : State) → Tried (turn_of S s)
turns S s left = all-trials S s s.equations left

-- ---- runs

abbrev GoesOn : Going → Type 0
GoesOn go = (s : State) (left : ℕ) → Ends IsForeseen (go s left)

nowhere : GoesOn run.nowhere
nowhere s left = now deep

measured : {by-units by-variables by-sizes : Going} → GoesOn by-units → GoesOn by-variables → GoesOn by-sizes → (s : State) (left : ℕ)
    → GoesOn (by_measure by-units by-variables by-sizes s left)
measured h k l s left t rest = either-ends _ (h t rest) (either-ends _ (k t rest) (l t rest))

behind : {go : Going} → GoesOn go → (s : State) (found : Option Turn) (left : ℕ) → Ends IsForeseen (after go s found left)
behind h s (Some Done) left = done
behind h s (Some (Goes step t)) left = next (h t left) (λ outcome rest. done)
behind h s (Some (Fails step u v)) left = done
behind h s (Some (Sticks why u v)) left = done
behind h s None left = now deep

one : (S : Signature) {go : State → ℕ → Going} → ((s : State) (left : ℕ) → GoesOn (go s left)) → GoesOn (one_turn S go)
one S h s left = next (turns S s left) (λ found rest. behind (h s left) s found rest)

sizes : (S : Signature) {by-units by-variables : Going} → GoesOn by-units → GoesOn by-variables → (size : ℕ) → GoesOn (by_size S by-units by-variables size)
sizes S h k zero s left = one S (measured h k nowhere) s left
sizes S h k (suc size) s left = one S (measured h k (sizes S h k size)) s left

variables : (S : Signature) {by-units : Going} → GoesOn by-units → (count : ℕ) → GoesOn (by_variables S by-units count)
variables S h zero s left = sizes S h nowhere (size_of_sides s.equations) s left
variables S h (suc count) s left = sizes S h (variables S h count) (size_of_sides s.equations) s left

all-units : (S : Signature) (count : ℕ) → GoesOn (run.by_units S count)
all-units S zero s left = variables S nowhere (length s.context) s left
all-units S (suc count) s left = variables S (all-units S count) (length s.context) s left

pub unify : (S : Signature) (p : Problem) → Tried (unify_of S p)
unify S p left = next (now (start-low p)) (λ s rest. all-units S rest s rest)
