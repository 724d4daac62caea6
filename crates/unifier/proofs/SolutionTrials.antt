-- The turn of a trial of a solution.
use Rattle.std.proofs.Common.{◌≡◌, ℕ, ◌+◌, ◌-◌, Bool, true, false, ◌&&◌, not, cond, Option, Some, None, List, ◌∷◌, length, Result, Ok, Err, refl, sym, ap, ap₂, ◌∙◌, subst as transport}
use Rattle.std.proofs.lemmas.List.{length-map}
use Rattle.theory.specs.Terms.{Term}
use Rattle.theory.specs.Signatures.{Signature}
use Rattle.core_terms.specs.Answers.{Gives, IsUnforeseen, Runs, Spent, Unless, and_next, and_then, are_low}
use Rattle.core_terms.specs.CaseTrees.{Step}
use Rattle.core_terms.specs.Meanings.{tree_of, tele_of}
use Rattle.core_terms.specs.declared.term.Term as code
use Rattle.core_terms.specs.declared.stop.Stop.{Stop}
use Rattle.core_terms.specs.declared.stop.Stop.TheVariants.{Deep}
use Rattle.kernel_reduce.specs.Reduction.{answered, nesting, normal_of}
use Rattle.unification.specs.Heights.{are_low_equations, bounded_state}
use Rattle.tele_eq.specs.Levels.{has_level}
use Rattle.unification.specs.Occurrences.{dependants, lacks}
use Rattle.unification.specs.Solutions.{if_free, is_free_of, side_solved, left_step, right_step, solution_from, solve_side, solve_sides, solves, state_solved, turn_by, variable_in}
use Rattle.unification.specs.Solving.{solved_state}
use Rattle.unification.specs.States.{Equation, State}
use Rattle.unification.specs.Turns.{unless_found}

-- the variable and its dependants, as the code has them
pub lacks-of_code : (ctx : List code.Term) (n x p : ℕ) (moved : List ℕ) (t : Term) (r : Bool) → n ≡ length ctx → p ≡ n - (x + 1)
    → moved ≡ dependants (tele_of ctx) (length ctx - (x + 1)) → r ≡ not (has_level n (p ∷ moved) t)
    → r ≡ lacks (tele_of ctx) (length (tele_of ctx) - (x + 1)) t
lacks-of_code ctx n x p moved t r en ep em er =
    let many : n ≡ length (tele_of ctx) = en ∙ sym (length-map ctx tree_of) in
    let level : p ≡ length (tele_of ctx) - (x + 1) = ep ∙ ap (λ k. k - (x + 1)) many in
    let others : moved ≡ dependants (tele_of ctx) (length (tele_of ctx) - (x + 1)) =
    em ∙ ap (λ k. dependants (tele_of ctx) (k - (x + 1))) (sym (length-map ctx tree_of)) in
    er ∙ (ap (λ k. not (has_level k (p ∷ moved) t)) many ∙ ap₂ (λ k levels. not (has_level (length (tele_of ctx)) (k ∷ levels) t)) level others)

-- the answer of a call after a first part that was accepted
pub runs-behind : {A B X : Type 0} (f : A → B) (r : Result A Stop) (left : ℕ) (first : Spent X) (x : X) (go : X → ℕ → Spent B) (meant : Result B Stop)
    → (Ok x, left) ≡ first → go x left ≡ answered meant left → Gives f r meant → Runs f r left (and_next first go)
runs-behind f (Ok a) left first x go meant e g h = rw (← e) (rw g (ap (λ m. (m, left)) h))
runs-behind f (Err s) left first x go meant e g h = λ other. rw (← e) (rw g (ap (λ m. (m, left)) (h other)))

-- a state that is made is low
pub bounded-again : (s t : State) → Ok t ≡ bounded_state s → bounded_state t ≡ Ok t
bounded-again s t e = go (are_low s.context && (are_low_equations s.equations && are_low s.solution)) refl e
  where
    go : (b : Bool) → (are_low s.context && (are_low_equations s.equations && are_low s.solution)) ≡ b → ◌≡◌ {A = Result State Stop} (Ok t) (cond b (Ok s) (Err Deep)) → bounded_state t ≡ Ok t
    go true low e = let same : t ≡ s = cc in transport (λ t. bounded_state t ≡ Ok t) (sym same) (ap (λ b. cond {A = Result State Stop} b (Ok s) (Err Deep)) low)
    go false low e = absurd (cc)

-- ---- refusals

never : {A : Type 0} (e : Stop) (a : A) → ◌≡◌ {A = Result A Stop} (Err e) (Ok a) → ⊥
never e a k = absurd (cc)

-- a call that is refused only out of memory
pub refused-none : {A B : Type 0} (e : Stop) (a : A) (r : B) (meant : B) → Unless (IsUnforeseen e) (◌≡◌ {A = Result A Stop} (Err e) (Ok a))
    → Unless (IsUnforeseen e) (r ≡ meant)
refused-none e a r meant h = λ other. absurd (never e a (h other))

-- a refusal of the first part
pub refused-first : {A B : Type 0} (e : Stop) (left : ℕ) (first : Spent A) (go : A → ℕ → Spent B) → Unless (IsUnforeseen e) ((Err e, left) ≡ first)
    → Unless (IsUnforeseen e) ((Err e, left) ≡ and_next first go)
refused-first e left first go h = λ other. ap (λ r. and_next r go) (h other)

pub answered-first : {A B : Type 0} (a : A) (left : ℕ) (first : Spent A) (go : A → ℕ → Spent B) → (Ok a, left) ≡ first → go a left ≡ and_next first go
answered-first a left first go h = ap (λ r. and_next r go) h

-- ---- the term that solves a variable

pub solves-none : (S : Signature) (s : State) (x : ℕ) (A u : Term) (left : ℕ) → is_free_of s x A ≡ false → answered (Ok None) left ≡ solves S s x A u left
solves-none S s x A u left e = sym (ap (λ b. cond b (solution_from S s x u left) (answered (Ok None) left)) e)

pub solves-from : (S : Signature) (s : State) (x : ℕ) (A u : Term) (left : ℕ) → is_free_of s x A ≡ true → solution_from S s x u left ≡ solves S s x A u left
solves-from S s x A u left e = sym (ap (λ b. cond b (solution_from S s x u left) (answered (Ok None) left)) e)

pub solves-same : (S : Signature) (s : State) (x : ℕ) (A u : Term) (left : ℕ) → is_free_of s x A ≡ true → is_free_of s x u ≡ true
    → answered (Ok (Some u)) left ≡ solves S s x A u left
solves-same S s x A u left e k =
    sym (ap (λ b. cond b (answered (Ok (Some u)) left) (and_next (normal_of S true nesting u left) (λ v rest. answered (Ok (if_free s x v)) rest))) k)
    ∙ solves-from S s x A u left e

pub solves-normal : (S : Signature) (s : State) (x : ℕ) (A u : Term) (left : ℕ) → is_free_of s x A ≡ true → is_free_of s x u ≡ false
    → and_next (normal_of S true nesting u left) (λ v rest. answered (Ok (if_free s x v)) rest) ≡ solves S s x A u left
solves-normal S s x A u left e k =
    sym (ap (λ b. cond b (answered (Ok (Some u)) left) (and_next (normal_of S true nesting u left) (λ v rest. answered (Ok (if_free s x v)) rest))) k)
    ∙ solves-from S s x A u left e

-- after the normal form
pub solves-form : (S : Signature) (s : State) (x : ℕ) (A u v : Term) (left rest : ℕ) (b : Bool) → is_free_of s x A ≡ true → is_free_of s x u ≡ false
    → (Ok v, rest) ≡ normal_of S true nesting u left → is_free_of s x v ≡ b → answered (Ok (cond b (Some v) None)) rest ≡ solves S s x A u left
solves-form S s x A u v left rest b e k h f =
    sym (ap (λ b. answered (Ok (cond b (Some v) None)) rest) f)
    ∙ (answered-first v rest (normal_of S true nesting u left) (λ v rest. answered (Ok (if_free s x v)) rest) h ∙ solves-normal S s x A u left e k)

-- ---- with the next state

pub state-solved-is : (s : State) (e : Equation) (x p : ℕ) (A u : Term) → p ≡ length s.context - (x + 1)
    → state_solved s e x A (Some u) ≡ and_then (bounded_state (solved_state s e.place.level p A u)) (λ t. Ok (Some (u, t)))
state-solved-is s e x p A u h = ap (λ k. and_then (bounded_state (solved_state s e.place.level k A u)) (λ t. Ok (Some (u, t)))) (sym h)

pub level-of_code : (ctx : List code.Term) (n x p : ℕ) → n ≡ length ctx → p ≡ n - (x + 1) → p ≡ length (tele_of ctx) - (x + 1)
level-of_code ctx n x p en ep = ep ∙ ap (λ k. k - (x + 1)) (en ∙ sym (length-map ctx tree_of))

-- ---- a side that is a variable

pub side-refused : (S : Signature) (s : State) (e : Equation) (A other : Term) (step : ℕ → Term → Step) (v : Option ℕ) (x left rest : ℕ) (refusal : Stop)
    → Some x ≡ v → Unless (IsUnforeseen refusal) ((Err refusal, rest) ≡ side_solved S s e x A other left)
    → Unless (IsUnforeseen refusal) ((Err refusal, rest) ≡ solve_side S s e A other step v left)
side-refused S s e A other step v x left rest refusal is h =
    λ unless. refused-first refusal rest (side_solved S s e x A other left) (λ found rest. answered (Ok (turn_by (step x) found)) rest) h unless
    ∙ ap (λ v. solve_side S s e A other step v left) is

pub side-answered : (S : Signature) (s : State) (e : Equation) (A other : Term) (step : ℕ → Term → Step) (v : Option ℕ) (x left rest : ℕ)
    (found : Option (Term × State)) → Some x ≡ v → (Ok found, rest) ≡ side_solved S s e x A other left
    → (Ok (turn_by (step x) found), rest) ≡ solve_side S s e A other step v left
side-answered S s e A other step v x left rest found is h =
    answered-first found rest (side_solved S s e x A other left) (λ found rest. answered (Ok (turn_by (step x) found)) rest) h
    ∙ ap (λ v. solve_side S s e A other step v left) is

-- ---- the right side, and else the left one

pub sides-refused : (S : Signature) (s : State) (e : Equation) (A u v : Term) (x left rest : ℕ) (refusal : Stop)
    → Some x ≡ variable_in v → Unless (IsUnforeseen refusal) ((Err refusal, rest) ≡ side_solved S s e x A u left)
    → Unless (IsUnforeseen refusal) ((Err refusal, rest) ≡ solve_sides S s e A u v left)
sides-refused S s e A u v x left rest refusal is h =
    refused-first refusal rest (solve_side S s e A u (right_step A v) (variable_in v) left)
    (λ turn rest. unless_found turn (solve_side S s e A v (left_step A u) (variable_in u)) rest)
    (side-refused S s e A u (right_step A v) (variable_in v) x left rest refusal is h)

pub sides-answered : (S : Signature) (s : State) (e : Equation) (A u v : Term) (x left rest : ℕ) (found : Option (Term × State))
    → Some x ≡ variable_in v → (Ok found, rest) ≡ side_solved S s e x A u left
    → unless_found (turn_by (right_step A v x) found) (solve_side S s e A v (left_step A u) (variable_in u)) rest ≡ solve_sides S s e A u v left
sides-answered S s e A u v x left rest found is h =
    answered-first (turn_by (right_step A v x) found) rest (solve_side S s e A u (right_step A v) (variable_in v) left)
    (λ turn rest. unless_found turn (solve_side S s e A v (left_step A u) (variable_in u)) rest)
    (side-answered S s e A u (right_step A v) (variable_in v) x left rest found is h)
