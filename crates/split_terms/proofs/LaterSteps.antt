-- The term of a step around those of the later ones, which are made apart.
use Rattle.std.proofs.Common.{◌≡◌, ℕ, zero, suc, ◌+◌, ◌-◌, ◌&&◌, nat_lt, Bool, true, false, cond, Option, Some, None, Result, Ok, Err, List, [], ◌∷◌, ◌++◌, length, map, drop, get_or, refl, sym, ap, ◌∙◌}
use Rattle.theory.specs.Terms.{Term, Var, Sort, Lam, App, Const, Elim, AxiomK}
use Rattle.theory.specs.Signatures.{Signature, equality, equation}
use Rattle.theory.specs.Telescopes.{Telescope, applied, functions}
use Rattle.core_terms.specs.Answers.{and_then, is_low}
use Rattle.core_terms.specs.CaseTrees.{Step}
use Rattle.core_terms.specs.Levels.{run, variable}
use Rattle.core_terms.specs.declared.case_tree.Rule.{Rule}
use Rattle.core_terms.specs.declared.case_tree.Rule.TheVariants.{SolveRight, SolveLeft, Inject, Conflict, Cycle, Delete}
use Rattle.core_terms.specs.declared.stop.Stop.{Stop}
use Rattle.core_terms.specs.declared.stop.Stop.TheVariants.{Deep}
use Rattle.unification.specs.Occurrences.{dependants}
use Rattle.unification.specs.Rules.{level_of}
use Rattle.unification.specs.States.{types_as_they_stand}
use Rattle.tree_translation.specs.Comparisons.{Comparison, compared}
use Rattle.tree_translation.specs.Hidden.{widened_rule}
use Rattle.tree_translation.specs.Naming.{Naming, left_name}
use Rattle.tree_translation.specs.Replays.{kept, level_of_first, solved_standing, step_in}
use Rattle.tree_translation.specs.SolutionTerms.{delete_term, remaining_goal, solution_motive, solution_term}
use Rattle.tree_translation.specs.Splits.{is_absurd, is_last}
use Rattle.tree_translation.specs.Standings.{Standing, first_equations, further_equations, here, inside, placed_telescope, state_term}
use Rattle.run_terms.specs.outlines.Later.{at_head, in_body, is_variable, with_later}
use Rattle.run_terms.specs.CodeConfusions.{before_group, compared_made, confused_with, inject_made, inject_with, injection_motive}
use Rattle.run_terms.specs.CodeRuns.{after_step}
use Rattle.split_terms.specs.CodeRunTerms.{on_comparison_made, refutation_made, rule_made, run_made, sides_made, step_made}

-- ---- spines

abbrev AreVariables : List Term → Type 0
AreVariables [] = Unit {0}
AreVariables (t ∷ terms) = (is_variable t ≡ true) × AreVariables terms

append-variables : (xs ys : List Term) → AreVariables xs → AreVariables ys → AreVariables (xs ++ ys)
append-variables [] ys all others = others
append-variables (x ∷ xs) ys all others = (all.0, append-variables xs ys all.1 others)

run-variables : (depth start count : ℕ) → AreVariables (run depth start count)
run-variables depth start zero = tt
run-variables depth start (suc count) = (refl, run-variables depth (start + 1) count)

at-variables : (depth : ℕ) (levels moved : List ℕ) → AreVariables (map (λ j. variable depth (get_or levels j 0)) moved)
at-variables depth levels [] = tt
at-variables depth levels (j ∷ moved) = (refl, at-variables depth levels moved)

tested-variable : (b c : Bool) (k l m : ℕ) → is_variable (cond b (Var k) (cond c (Var l) (Var m))) ≡ true
tested-variable true c k l m = refl
tested-variable false true k l m = refl
tested-variable false false k l m = refl

here-variable : (s : Standing) (x : ℕ) → is_variable (here s (Var x)) ≡ true
here-variable s x = tested-variable (nat_lt x 0) (nat_lt x (length s.variables + 0)) _ _ _

with-arguments : (t : Term) (args : List Term) (N : Term) → AreVariables args → with_later (applied t args) N ≡ applied (with_later t N) args
with-arguments t [] N all = refl
with-arguments t (v ∷ args) N all =
    with-arguments (App t v) args N all.1
    ∙ ap (λ b. applied (cond b (App (with_later t N) v) (App t (in_body v N))) args) all.0

pub at-arguments : (t : Term) (args : List Term) (N : Term) → at_head (applied t args) N ≡ applied (at_head t N) args
at-arguments t [] N = refl
at-arguments t (a ∷ args) N = at-arguments (App t a) args N

pub in-functions : (tele : Telescope) (t N : Term) → in_body (functions tele t) N ≡ functions tele (in_body t N)
in-functions [] t N = refl
in-functions (a ∷ tele) t N = ap (Lam a) (in-functions tele t N)

no-variable : (tele : Telescope) (t : Term) → is_variable t ≡ false → is_variable (functions tele t) ≡ false
no-variable [] t e = e
no-variable (a ∷ tele) t e = refl

-- the argument before variables has another body
around : (h : Term) (tele more : Telescope) (variables : List Term) (N : Term) → AreVariables variables
    → with_later (applied (App h (functions tele (functions more (Sort 0)))) variables) N
    ≡ applied (App h (functions tele (functions more N))) variables
around h tele more variables N all =
    let m : Term = functions tele (functions more (Sort 0)) in
    with-arguments (App h m) variables N all
    ∙ (ap (λ b. applied (cond b (App (with_later h N) m) (App h (in_body m N))) variables)
    (no-variable tele (functions more (Sort 0)) (no-variable more (Sort 0) refl))
    ∙ ap (λ body. applied (App h body) variables)
    (in-functions tele (functions more (Sort 0)) N ∙ ap (functions tele) (in-functions more (Sort 0) N)))

-- ---- answers

pub mapped : {A : Type 0} (r : Result A Stop) (f g : A → Term) (h : Term → Term) → ((a : A) → f a ≡ h (g a))
    → ◌≡◌ {A = Result Term Stop} (and_then r (λ a. Ok (f a))) (and_then (and_then r (λ a. Ok (g a))) (λ t. Ok (h t)))
mapped (Ok a) f g h same = ap Ok (same a)
mapped (Err e) f g h same = refl

mapped-twice : {A B : Type 0} (r : Result A Stop) (q : Result B Stop) (f g : A → B → Term) (h : Term → Term)
    → ((a : A) (b : B) → f a b ≡ h (g a b))
    → ◌≡◌ {A = Result Term Stop} (and_then r (λ a. and_then q (λ b. Ok (f a b))))
    (and_then (and_then r (λ a. and_then q (λ b. Ok (g a b)))) (λ t. Ok (h t)))
mapped-twice (Ok a) q f g h same = mapped q (f a) (g a) h (same a)
mapped-twice (Err e) q f g h same = refl

unchanged : (r : Result Term Stop) → r ≡ and_then r (λ t. Ok t)
unchanged (Ok t) = refl
unchanged (Err e) = refl

pub alike : {A : Type 0} (r : Result A Stop) (f g : A → Result Term Stop) → ((a : A) → f a ≡ g a) → and_then r f ≡ and_then r g
alike (Ok a) f g same = same a
alike (Err e) f g same = refl

if-tested : (b : Bool) (made around : Result Term Stop) (h : Term → Result Term Stop) → made ≡ and_then around h
    → ◌≡◌ {A = Result Term Stop} (cond b made (Err Deep)) (and_then (cond b around (Err Deep)) h)
if-tested true made around h e = e
if-tested false made around h e = refl

-- ---- steps

solution-around : (head : Term) (s : Standing) (x : ℕ) (on_right : Bool) (A u : Term) (solved next : Standing) (N : Term)
    → with_later (solution_term head s x on_right A u solved (state_term next (Sort 0))) N
    ≡ solution_term head s x on_right A u solved (state_term next N)
solution-around head s x on_right A u solved next N =
    let p = level_of (length s.state.context) x in
    let moved = dependants s.state.context p in
    let fixed = map (λ j. get_or s.variables j 0) (kept s.state p) in
    around (App (App (App head (here s A)) (here s u)) (solution_motive s p on_right A u))
    (placed_telescope fixed (inside s) (drop (length fixed) solved.state.context))
    (placed_telescope next.variables next.depth (types_as_they_stand next.state.equations))
    (here s (Var x)
    ∷ (first_equations s 1 ++ (map (λ j. variable (inside s) (get_or s.variables j 0)) moved ++ further_equations s 1)))
    N (
      here-variable s x,
      append-variables (first_equations s 1) (map (λ j. variable (inside s) (get_or s.variables j 0)) moved ++ further_equations s 1)
          (run-variables (inside s) s.depth 1)
          (append-variables (map (λ j. variable (inside s) (get_or s.variables j 0)) moved) (further_equations s 1)
          (at-variables (inside s) s.variables moved)
          (run-variables (inside s) (s.depth + 1) (length s.state.equations - 1))),
    )

deletion-around : (L : ℕ) (s : Standing) (A u : Term) (next : Standing) (N : Term)
    → with_later (delete_term L s A u (state_term next (Sort 0))) N ≡ delete_term L s A u (state_term next N)
deletion-around L s A u next N =
    let i = level_of_first s.state.equations in
    let depth = inside s in
    around
    (App (App (App (AxiomK i L) (here s A)) (here s u))
    (Lam (equation i (here s A) (here s u) (here s u)) (remaining_goal s 1 s.variables (depth ∷ []) (depth + 1))))
    []
    (placed_telescope next.variables next.depth (types_as_they_stand next.state.equations))
    (first_equations s 1 ++ further_equations s 1)
    N
    (append-variables (first_equations s 1) (further_equations s 1) (run-variables (inside s) s.depth 1)
    (run-variables (inside s) (s.depth + 1) (length s.state.equations - 1)))

injection-around : (number : Naming) (L : ℕ) (s : Standing) (k : ℕ) (c : Comparison) (types : Telescope) (before : List Term) (next : Standing) (N : Term)
    → with_later (inject_with number L s k c types before (state_term next (Sort 0))) N
    ≡ inject_with number L s k c types before (state_term next N)
injection-around number L s k c types before next N =
    around (App (confused_with number L s k c before) (injection_motive s (k + 1) types))
    []
    (placed_telescope next.variables next.depth (types_as_they_stand next.state.equations))
    (further_equations s (k + 1))
    N
    (run-variables (inside s) (s.depth + (k + 1)) (length s.state.equations - (k + 1)))

-- a step whose sides are compared
found-around : (number : Naming) (L : ℕ) (s : Standing) (k : ℕ) (found : Option Comparison) (next : Standing) (N : Term)
    → ◌≡◌ {A = Result Term Stop} (on_comparison_made found (λ c. inject_made number L s k c (state_term next N)))
    (and_then (on_comparison_made found (λ c. inject_made number L s k c (state_term next (Sort 0)))) (λ t. Ok (with_later t N)))
found-around number L s k None next N = refl
found-around number L s k (Some c) next N =
    mapped-twice (compared_made s c) (before_group c k)
    (λ types before. inject_with number L s k c types before (state_term next N))
    (λ types before. inject_with number L s k c types before (state_term next (Sort 0)))
    (λ t. with_later t N)
    (λ types before. sym (injection-around number L s k c types before next N))

rule-around : (S : Signature) (number : Naming) (L : ℕ) (s : Standing) (step : Step) (rule : Rule) (next : Standing) (N : Term)
    → ◌≡◌ {A = Result Term Stop} (rule_made S number L s step rule (state_term next N))
    (and_then (rule_made S number L s step rule (state_term next (Sort 0))) (λ t. Ok (cond (is_last rule) t (with_later t N))))
rule-around S number L s step (SolveRight x) next N =
    ap Ok
    (sym (solution-around (Elim (equality (level_of_first s.state.equations)) L) s x true step.ty step.left (solved_standing s x step.ty step.left) next N))
rule-around S number L s step (SolveLeft x) next N =
    ap Ok
    (sym (solution-around (Const (number (left_name (level_of_first s.state.equations) L))) s x false step.ty step.right (solved_standing s x step.ty step.right) next N))
rule-around S number L s step Delete next N = ap Ok (sym (deletion-around L s step.ty step.left next N))
rule-around S number L s step (Inject n c) next N =
    if-tested (is_low step.left && is_low step.right) (sides_made S number L s step (Inject n c) (state_term next N))
    (sides_made S number L s step (Inject n c) (state_term next (Sort 0)))
    (λ t. Ok (with_later t N))
    (found-around number L s (step.group - 1) (compared S s.state step) next N)
rule-around S number L s step (Conflict n c d) next N =
    unchanged (cond (is_low step.left && is_low step.right) (refutation_made S number L s step) (Err Deep))
rule-around S number L s step (Cycle x) next N =
    unchanged (cond (is_low step.left && is_low step.right) (sides_made S number L s step (Cycle x) N) (Err Deep))

same-last : (n : ℕ) (hidden : List ℕ) (rule : Rule) → is_last (widened_rule n hidden rule) ≡ is_last rule
same-last n hidden (SolveRight x) = refl
same-last n hidden (SolveLeft x) = refl
same-last n hidden (Inject f c) = refl
same-last n hidden (Conflict f c d) = refl
same-last n hidden (Cycle x) = refl
same-last n hidden Delete = refl

pub step-around : (S : Signature) (number : Naming) (L : ℕ) (s : Standing) (step : Step) (next : Standing) (N : Term)
    → ◌≡◌ {A = Result Term Stop} (step_made S number L s step next N)
    (and_then (step_made S number L s step next (Sort 0)) (λ t. Ok (cond (is_last step.rule) t (with_later t N))))
step-around S number L s step next N =
    rule-around S number L s (step_in s step) (step_in s step).rule next N
    ∙ ap (λ b. and_then (step_made S number L s step next (Sort 0)) (λ t. Ok (cond b t (with_later t N))))
    (same-last (length s.state.context) s.hidden step.rule)

-- ---- the end of an absurd run is not read

last-step : (S : Signature) (number : Naming) (L : ℕ) (s : Standing) (step : Step) (next : Standing) (N other : Term) → is_last step.rule ≡ true
    → ◌≡◌ {A = Result Term Stop} (step_made S number L s step next N) (step_made S number L s step next other)
last-step S number L s step next N other e =
    let made = step_made S number L s step next (Sort 0) in
    step-around S number L s step next N
    ∙ (ap (λ b. and_then made (λ t. Ok (cond b t (with_later t N)))) e
    ∙ (sym (ap (λ b. and_then made (λ t. Ok (cond b t (with_later t other)))) e) ∙ sym (step-around S number L s step next other)))

pub absurd-run : (S : Signature) (number : Naming) (L : ℕ) (end other : Term) (steps : List Step) (s : Standing) → is_absurd steps ≡ true
    → ◌≡◌ {A = Result Term Stop} (run_made S number L end steps s) (run_made S number L other steps s)
absurd-run S number L end other [] s e = absurd (cc)
absurd-run S number L end other (step ∷ []) s e =
    alike (after_step S s step) (λ next. step_made S number L s step next (here next end)) (λ next. step_made S number L s step next (here next other))
    (λ next. last-step S number L s step next (here next end) (here next other) e)
absurd-run S number L end other (step ∷ more ∷ steps) s e =
    alike (after_step S s step)
    (λ next. and_then (run_made S number L end (more ∷ steps) next) (step_made S number L s step next))
    (λ next. and_then (run_made S number L other (more ∷ steps) next) (step_made S number L s step next))
    (λ next. ap (λ r. and_then r (step_made S number L s step next)) (absurd-run S number L end other (more ∷ steps) next e))
