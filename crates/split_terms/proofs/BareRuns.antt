-- The terms, the names and the ends of runs are the same where their standings are bare.
use Rattle.std.proofs.Common.{◌≡◌, ℕ, zero, suc, ◌-◌, ◌==◌, ◌&&◌, Bool, true, false, cond, Option, Some, None, Result, Ok, Err, List, [], ◌∷◌, ◌++◌, length, refl, sym, ap, ◌∙◌}
use Rattle.theory.specs.Families.{Constructor}
use Rattle.theory.specs.Signatures.{Signature}
use Rattle.theory.specs.Terms.{Term}
use Rattle.core_terms.specs.Answers.{and_then, is_low}
use Rattle.core_terms.specs.CaseTrees.{Step}
use Rattle.core_terms.specs.declared.case_tree.Rule.{Rule}
use Rattle.core_terms.specs.declared.case_tree.Rule.TheVariants.{SolveRight, SolveLeft, Inject, Conflict, Cycle, Delete}
use Rattle.core_terms.specs.declared.stop.Stop.{Stop}
use Rattle.core_terms.specs.declared.stop.Stop.TheVariants.{Deep}
use Rattle.unification.specs.Built.{Built, built_of}
use Rattle.unification.specs.States.{Problem, State, starting}
use Rattle.case_trees.specs.Problems.{Member, problem_of}
use Rattle.tree_translation.specs.Comparisons.{Comparison, compared, compared_by, compared_in}
use Rattle.tree_translation.specs.CycleTerms.{cycle_term}
use Rattle.tree_translation.specs.Naming.{Naming}
use Rattle.tree_translation.specs.Replays.{step_in, with_state}
use Rattle.tree_translation.specs.RunTerms.{compared_names, on_side}
use Rattle.tree_translation.specs.Splits.{Node}
use Rattle.tree_translation.specs.Standings.{Standing, state_term}
use Rattle.tree_translation.specs.TreeTerms.{node_of}
use Rattle.run_terms.specs.CodeConfusions.{conflict_made, inject_made}
use Rattle.run_terms.specs.CodeInjections.{injected_made}
use Rattle.run_terms.specs.CodeInjections as injections
use Rattle.run_terms.specs.CodeRuns.{after_comparison, after_rule, after_run, after_step, injected_if_there}
use Rattle.run_terms.specs.Made.{equations_made}
use Rattle.split_terms.specs.Bare.{bare, bare_standing, bare_state, bare_state_made, bared}
use Rattle.split_terms.specs.CodeRunTerms.{on_comparison_made, rule_made, rule_names_made, run_ended, run_made, step_made, step_names_made}
use Rattle.split_terms.specs.CodeSplits.{branch_ended, method_made, method_with, standing_made, standing_with}

-- ---- answers

pub same-answers : {A B : Type 0} (r : Result A Stop) (f g : A → Result B Stop) → ((a : A) → f a ≡ g a) → and_then r f ≡ and_then r g
same-answers (Ok a) f g same = same a
same-answers (Err e) f g same = refl

then-bare : {A : Type 0} (r : Result A Stop) (f : A → Standing)
    → ◌≡◌ {A = Result Standing Stop} (and_then r (λ a. Ok (bare (f a)))) (bared (and_then r (λ a. Ok (f a))))
then-bare (Ok a) f = refl
then-bare (Err e) f = refl

of-bared : {B : Type 0} (r : Result Standing Stop) (f : Standing → Result B Stop) → and_then (bared r) f ≡ and_then r (λ s. f (bare s))
of-bared (Ok s) f = refl
of-bared (Err e) f = refl

pub then-then : {A B C : Type 0} (r : Result A Stop) (f : A → Result B Stop) (g : B → Result C Stop)
    → and_then r (λ a. and_then (f a) g) ≡ and_then (and_then r f) g
then-then (Ok a) f g = refl
then-then (Err e) f g = refl

if-bare : (b : Bool) (r q : Result Standing Stop) → r ≡ bared q
    → ◌≡◌ {A = Result Standing Stop} (cond b r (Err Deep)) (bared (cond b q (Err Deep)))
if-bare true r q e = e
if-bare false r q e = refl

-- ---- comparisons

by-group : (s : State) (k : ℕ) (type : Term) (left right : Built) → compared_by (bare_state s) k type left right ≡ compared_by s k type left right
by-group s zero type left right = refl
by-group s (suc k) type left right = refl

compared-of : (s : State) (step : Step) (left right : Option Built) → compared_in (bare_state s) step left right ≡ compared_in s step left right
compared-of s step (Some left) (Some right) = ap Some (by-group s (step.group - 1) step.ty left right)
compared-of s step (Some left) None = refl
compared-of s step None right = refl

compared-bare : (S : Signature) (s : State) (step : Step) → compared S (bare_state s) step ≡ compared S s step
compared-bare S s step = compared-of s step (built_of S step.left) (built_of S step.right)

-- ---- next standings

found-bare : (s : Standing) (g : ℕ) (found : Option Comparison) → injected_if_there (bare s) g found ≡ bared (injected_if_there s g found)
found-bare s g None = refl
found-bare s g (Some c) =
    if-bare (length c.parameters == length c.family.parameters) (injections.standing_made (bare s) g c) (injections.standing_made s g c)
    (then-bare (injected_made s.state g c) (λ equations. with_state s (record s.state { equations = equations })))

rule-next : (S : Signature) (s : Standing) (step : Step) (rule : Rule) → after_rule S (bare s) step rule ≡ bared (after_rule S s step rule)
rule-next S s step (SolveRight x) = refl
rule-next S s step (SolveLeft x) = refl
rule-next S s step (Inject n c) =
    if-bare (is_low step.left && is_low step.right) (after_comparison S (bare s) step) (after_comparison S s step)
    (ap (injected_if_there (bare s) step.group) (compared-bare S s.state step) ∙ found-bare s step.group (compared S s.state step))
rule-next S s step (Conflict n c d) = refl
rule-next S s step (Cycle x) = refl
rule-next S s step Delete = refl

step-next : (S : Signature) (s : Standing) (step : Step) → after_step S (bare s) step ≡ bared (after_step S s step)
step-next S s step = rule-next S s (step_in s step) (step_in s step).rule

run-next : (S : Signature) (steps : List Step) (s : Standing) → after_run S steps (bare s) ≡ bared (after_run S steps s)
run-next S [] s = refl
run-next S (step ∷ steps) s =
    ap (λ r. and_then r (after_run S steps)) (step-next S s step)
    ∙ (of-bared (after_step S s step) (after_run S steps)
    ∙ (same-answers (after_step S s step) (λ next. after_run S steps (bare next)) (λ next. bared (after_run S steps next)) (run-next S steps)
    ∙ then-then (after_step S s step) (after_run S steps) (λ s. Ok (bare s))))

-- ---- terms

if-same : {A : Type 0} (b : Bool) (r q : Result A Stop) → r ≡ q → ◌≡◌ {A = Result A Stop} (cond b r (Err Deep)) (cond b q (Err Deep))
if-same b r q e = ap (λ r. cond b r (Err Deep)) e

on-found : (found : Option Comparison) (f g : Comparison → Result Term Stop) → ((c : Comparison) → f c ≡ g c)
    → on_comparison_made found f ≡ on_comparison_made found g
on-found None f g same = refl
on-found (Some c) f g same = same c

side-bare : (number : Naming) (L : ℕ) (s : Standing) (x : ℕ) (left right : Term) (from_left from_right : Option Built)
    → on_side left right from_left from_right (cycle_term number L (bare s) x) ≡ on_side left right from_left from_right (cycle_term number L s x)
side-bare number L s x left right from_left (Some b) = refl
side-bare number L s x left right (Some b) None = refl
side-bare number L s x left right None None = refl

rule-bare : (S : Signature) (number : Naming) (L : ℕ) (s : Standing) (step : Step) (rule : Rule) (N : Term)
    → rule_made S number L (bare s) step rule N ≡ rule_made S number L s step rule N
rule-bare S number L s step (SolveRight x) N = refl
rule-bare S number L s step (SolveLeft x) N = refl
rule-bare S number L s step (Inject n c) N =
    if-same (is_low step.left && is_low step.right) _ _
    (ap (λ found. on_comparison_made found (λ c. inject_made number L (bare s) (step.group - 1) c N)) (compared-bare S s.state step)
    ∙ on-found (compared S s.state step) (λ c. inject_made number L (bare s) (step.group - 1) c N) (λ c. inject_made number L s (step.group - 1) c N)
    (λ c. refl))
rule-bare S number L s step (Conflict n c d) N =
    if-same (is_low step.left && is_low step.right) _ _
    (ap (λ found. on_comparison_made found (conflict_made number L (bare s) (step.group - 1))) (compared-bare S s.state step)
    ∙ on-found (compared S s.state step) (conflict_made number L (bare s) (step.group - 1)) (conflict_made number L s (step.group - 1)) (λ c. refl))
rule-bare S number L s step (Cycle x) N =
    if-same (is_low step.left && is_low step.right) _ _
    (ap Ok (side-bare number L s x step.left step.right (built_of S step.left) (built_of S step.right)))
rule-bare S number L s step Delete N = refl

run-bare : (S : Signature) (number : Naming) (L : ℕ) (end : Term) (steps : List Step) (s : Standing)
    → run_made S number L end steps (bare s) ≡ run_made S number L end steps s
run-bare S number L end [] s = refl
run-bare S number L end (step ∷ steps) s =
    ap (λ r. and_then r (λ next. and_then (run_made S number L end steps next) (step_made S number L (bare s) step next))) (step-next S s step)
    ∙ (of-bared (after_step S s step) (λ next. and_then (run_made S number L end steps next) (step_made S number L (bare s) step next))
    ∙ same-answers (after_step S s step)
    (λ next. and_then (run_made S number L end steps (bare next)) (step_made S number L (bare s) step (bare next)))
    (λ next. and_then (run_made S number L end steps next) (step_made S number L s step next))
    (λ next.
    ap (λ r. and_then r (step_made S number L (bare s) step (bare next))) (run-bare S number L end steps next)
    ∙ same-answers (run_made S number L end steps next) (step_made S number L (bare s) step (bare next)) (step_made S number L s step next)
    (λ inner. rule-bare S number L s (step_in s step) (step_in s step).rule (state_term next inner))))

-- ---- names

names-of-rule : (S : Signature) (L : ℕ) (s : Standing) (step : Step) (rule : Rule) (names : List (List ℕ))
    → rule_names_made S L (bare s) step rule names ≡ rule_names_made S L s step rule names
names-of-rule S L s step (SolveRight x) names = refl
names-of-rule S L s step (SolveLeft x) names = refl
names-of-rule S L s step (Inject n c) names =
    if-same (is_low step.left && is_low step.right) _ _ (ap (λ found. Ok (names ++ compared_names L found)) (compared-bare S s.state step))
names-of-rule S L s step (Conflict n c d) names =
    if-same (is_low step.left && is_low step.right) _ _ (ap (λ found. Ok (names ++ compared_names L found)) (compared-bare S s.state step))
names-of-rule S L s step (Cycle x) names = refl
names-of-rule S L s step Delete names = refl

-- names, and a bare standing
abbrev ended_bared : Result (List (List ℕ) × Standing) Stop → Result (List (List ℕ) × Standing) Stop
ended_bared ended = and_then ended (λ r. Ok (r.0, bare r.1))

ended-bare : (S : Signature) (L : ℕ) (steps : List Step) (s : Standing) (names : List (List ℕ))
    → run_ended S L steps (bare s) names ≡ ended_bared (run_ended S L steps s names)
ended-bare S L [] s names = refl
ended-bare S L (step ∷ steps) s names =
    ap (λ r. and_then r (λ all. and_then (after_step S (bare s) step) (λ next. run_ended S L steps next all)))
    (names-of-rule S L s (step_in s step) (step_in s step).rule names)
    ∙ (same-answers (step_names_made S L s step names)
    (λ all. and_then (after_step S (bare s) step) (λ next. run_ended S L steps next all))
    (λ all. ended_bared (and_then (after_step S s step) (λ next. run_ended S L steps next all)))
    (λ all.
    ap (λ r. and_then r (λ next. run_ended S L steps next all)) (step-next S s step)
    ∙ (of-bared (after_step S s step) (λ next. run_ended S L steps next all)
    ∙ (same-answers (after_step S s step) (λ next. run_ended S L steps (bare next) all) (λ next. ended_bared (run_ended S L steps next all))
    (λ next. ended-bare S L steps next all)
    ∙ then-then (after_step S s step) (λ next. run_ended S L steps next all) (λ r. Ok (r.0, bare r.1)))))
    ∙ then-then (step_names_made S L s step names) (λ all. and_then (after_step S s step) (λ next. run_ended S L steps next all)) (λ r. Ok (r.0, bare r.1)))

-- ---- the standing of a constructor

standing-bare : (node : Node) (m : Member) (x number : ℕ) (c : Constructor) → bare_standing node m x number c ≡ bared (standing_made node m x number c)
standing-bare node m x number c = by (problem_of node.context x m number c)
  where
    by : (p : Problem)
        → ◌≡◌ {A = Result Standing Stop} (and_then (bare_state_made p) (λ state. Ok (standing_with node (length c.arguments) state)))
        (bared (and_then (and_then (equations_made p.telescope p.left p.right) (λ types. Ok (starting p types))) (λ state. Ok (standing_with node (length c.arguments) state))))
    by p = made p (equations_made p.telescope p.left p.right)
      where
        made : (p : Problem) (r : Result (List Term) Stop)
            → ◌≡◌ {A = Result Standing Stop}
            (and_then (and_then r (λ types. Ok (bare_state (starting p types)))) (λ state. Ok (standing_with node (length c.arguments) state)))
            (bared (and_then (and_then r (λ types. Ok (starting p types))) (λ state. Ok (standing_with node (length c.arguments) state))))
        made p (Ok types) = refl
        made p (Err e) = refl

on-standing : {B : Type 0} (node : Node) (m : Member) (x number : ℕ) (c : Constructor) (f : Standing → Result B Stop)
    → ((s : Standing) → f (bare s) ≡ f s) → and_then (bare_standing node m x number c) f ≡ and_then (standing_made node m x number c) f
on-standing node m x number c f same =
    ap (λ r. and_then r f) (standing-bare node m x number c)
    ∙ (of-bared (standing_made node m x number c) f
    ∙ same-answers (standing_made node m x number c) (λ s. f (bare s)) f same)

pub method-bare : (S : Signature) (number : Naming) (L : ℕ) (node : Node) (m : Member) (x at : ℕ) (c : Constructor) (steps : List Step) (end : Term)
    → ◌≡◌ {A = Result Term Stop}
    (and_then (bare_standing node m x at c) (λ s. and_then (run_made S number L end steps s) (λ inner. Ok (method_with m c s inner))))
    (method_made S number L node m x at c steps end)
method-bare S number L node m x at c steps end =
    on-standing node m x at c (λ s. and_then (run_made S number L end steps s) (λ inner. Ok (method_with m c s inner)))
    (λ s. ap (λ r. and_then r (λ inner. Ok (method_with m c s inner))) (run-bare S number L end steps s))

pub branch-ended-bare : (S : Signature) (L : ℕ) (node : Node) (m : Member) (x number : ℕ) (c : Constructor) (steps : List Step) (names : List (List ℕ))
    (nodes : List Node)
    → ◌≡◌ {A = Result (List (List ℕ) × List Node) Stop}
    (and_then (bare_standing node m x number c) (λ s. and_then (run_ended S L steps s names) (λ r. Ok (r.0, nodes ++ node_of r.1 ∷ []))))
    (branch_ended S L node m x number c steps names nodes)
branch-ended-bare S L node m x number c steps names nodes =
    on-standing node m x number c (λ s. and_then (run_ended S L steps s names) (λ r. Ok (r.0, nodes ++ node_of r.1 ∷ [])))
    (λ s.
    ap (λ ended. and_then ended (λ r. Ok (r.0, nodes ++ node_of r.1 ∷ []))) (ended-bare S L steps s names)
    ∙ sym (then-then (run_ended S L steps s names) (λ r. Ok (r.0, bare r.1)) (λ r. Ok (r.0, nodes ++ node_of r.1 ∷ []))))

-- a function that has the same value at the end of a run and at the bare end has it from a bare start too
pub end-bare : {B : Type 0} (S : Signature) (node : Node) (m : Member) (x number : ℕ) (c : Constructor) (steps : List Step) (f : Standing → Result B Stop)
    → ((s : Standing) → f (bare s) ≡ f s)
    → and_then (bare_standing node m x number c) (λ s. and_then (after_run S steps s) f)
    ≡ and_then (standing_made node m x number c) (λ s. and_then (after_run S steps s) f)
end-bare S node m x number c steps f same =
    on-standing node m x number c (λ s. and_then (after_run S steps s) f)
    (λ s.
    ap (λ r. and_then r f) (run-next S steps s)
    ∙ (of-bared (after_run S steps s) f ∙ same-answers (after_run S steps s) (λ s. f (bare s)) f same))
