-- The standing that the code answers after a step or a run is the one that is meant.
use Rattle.std.proofs.Common.{◌≡◌, ℕ, ◌==◌, ◌&&◌, Bool, true, false, cond, Option, Some, None, List, [], ◌∷◌, length, Result, Ok, Err, refl, sym, ap, ◌∙◌}
use Rattle.theory.specs.Terms.{Term}
use Rattle.theory.specs.Telescopes.{variables}
use Rattle.theory.specs.Signatures.{Signature}
use Rattle.core_terms.specs.Answers.{and_then, is_low}
use Rattle.core_terms.specs.CaseTrees.{Step}
use Rattle.core_terms.specs.declared.case_tree.Rule.{Rule}
use Rattle.core_terms.specs.declared.case_tree.Rule.TheVariants.{SolveRight, SolveLeft, Inject, Conflict, Cycle, Delete}
use Rattle.core_terms.specs.declared.stop.Stop.{Stop}
use Rattle.core_terms.specs.declared.stop.Stop.TheVariants.{Deep}
use Rattle.core_terms.proofs.Builders.{ok_is}
use Rattle.tele_eq.specs.Congruences.{congruences}
use Rattle.tele_eq.specs.Items.{Item}
use Rattle.tele_eq.specs.TelescopicEquality.{equations}
use Rattle.unification.specs.Injecting.{lifted, group_proofs, injected_equations}
use Rattle.unification.specs.Records.{argument_items, family_items}
use Rattle.unification.specs.States.{Equation, State}
use Rattle.unification.proofs.Counts.{length-equations}
use Rattle.unification.proofs.ScopedRecords.{length-argument_items}
use Rattle.problems.specs.CodeInjections.{equations_joined}
use Rattle.problems.proofs.InjectionRooms.{joined-same}
use Rattle.tree_translation.specs.Comparisons.{Comparison, compared}
use Rattle.tree_translation.specs.Replays.{behind_rule, behind_run, injected_standing, step_in, unless_compared, with_state}
use Rattle.tree_translation.specs.Standings.{Standing}
use Rattle.run_terms.specs.CodeInjections.{arguments_of, group_made, injected_made, standing_made, terms_at}
use Rattle.run_terms.specs.CodeRuns.{after_comparison, after_rule, after_run, after_step, injected_if_there}
use Rattle.run_terms.specs.Made.{are_low_sides, congruences_made, equations_made, is_low_map}
use Rattle.run_terms.proofs.MadeTerms.{if-both, if-low, made-equations}
use Rattle.entry_laws.specs.replay_laws.Laws.{AfterStepIsStep, AfterRunIsRun, AfterRunOnlyDeep}

-- an answer after a test
pub tested : {A : Type 0} (b : Bool) (r : Result A Stop) (x : A) → ◌≡◌ {A = Result A Stop} (cond b r (Err Deep)) (Ok x) → r ≡ Ok x
tested true r x e = e
tested false r x e = absurd (cc)

-- ---- an injectivity

congruences-are : (X Y : List Item) (terms us vs es proofs : List Term) → congruences_made X Y terms us vs es ≡ Ok proofs
    → proofs ≡ congruences X Y terms us vs es
congruences-are X Y terms us vs es proofs e =
    if-low (are_low_sides us vs es) (congruences X Y terms us vs es) proofs
    (tested (is_low_map X Y terms) (cond (are_low_sides us vs es) (Ok (congruences X Y terms us vs es)) (Err Deep)) proofs e)

group-is : (c : Comparison) (proofs : List Term) → group_made c ≡ Ok proofs
    → proofs ≡ group_proofs c.n c.left.number c.family c.left.constructor c.parameters c.left.arguments c.right.arguments
group-is c proofs e =
    let count = length c.left.constructor.arguments in
    let ps = lifted count c.parameters in
    congruences-are (argument_items c.n ps c.left.constructor) (family_items c.n c.family ps) (terms_at c ps) (lifted count c.left.arguments)
    (lifted count c.right.arguments) (variables count) proofs e

-- the code's equations from the parts that are meant
pub joined-is : (s : State) (g : ℕ) (c : Comparison) (types proofs : List Term)
    → types ≡ equations (arguments_of c) c.left.arguments c.right.arguments
    → proofs ≡ group_proofs c.n c.left.number c.family c.left.constructor c.parameters c.left.arguments c.right.arguments
    → equations_joined s g (arguments_of c) types c.left.arguments c.right.arguments (terms_at c c.parameters) proofs
    ≡ injected_equations s g c.n c.left.number c.family c.left.constructor c.parameters c.left.arguments c.right.arguments
joined-is s g c types proofs et ep =
    let us = c.left.arguments in
    let vs = c.right.arguments in
    joined-same s g c.n c.left.number c.family c.left.constructor c.parameters us vs (arguments_of c) types (terms_at c c.parameters) proofs refl et
    (ap length et ∙ (length-equations (arguments_of c) us vs ∙ length-argument_items c.n c.parameters c.left.constructor)) refl ep

injected-is : (s : State) (g : ℕ) (c : Comparison) (es : List Equation) → injected_made s g c ≡ Ok es
    → es ≡ injected_equations s g c.n c.left.number c.family c.left.constructor c.parameters c.left.arguments c.right.arguments
injected-is s g c es e =
    let us = c.left.arguments in
    let vs = c.right.arguments in
    let joined : List Term → List Term → Result (List Equation) Stop = λ types proofs.
    Ok (equations_joined s g (arguments_of c) types us vs (terms_at c c.parameters) proofs) in
    let first = if-both (equations_made (arguments_of c) us vs) (λ types. and_then (group_made c) (joined types)) es e in
    let second = if-both (group_made c) (joined first.0) es first.2 in
    sym (ok_is second.2)
    ∙ joined-is s g c first.0 second.0 (made-equations (arguments_of c) us vs first.0 first.1) (group-is c second.0 second.1)

standing-is : (s : Standing) (g : ℕ) (c : Comparison) (next : Standing) → standing_made s g c ≡ Ok next → next ≡ injected_standing s g c
standing-is s g c next e =
    let both = if-both (injected_made s.state g c) (λ es. Ok (with_state s (record s.state { equations = es }))) next e in
    sym (ok_is both.2) ∙ ap (λ es. with_state s (record s.state { equations = es })) (injected-is s.state g c both.0 both.1)

-- ---- steps

there-is : (s : Standing) (g : ℕ) (o : Option Comparison) (next : Standing) → injected_if_there s g o ≡ Ok next → next ≡ unless_compared s g o
there-is s g None next e = sym (ok_is e)
there-is s g (Some c) next e =
    standing-is s g c next (tested (length c.parameters == length c.family.parameters) (standing_made s g c) next e)

rule-is : (S : Signature) (s : Standing) (step : Step) (rule : Rule) (next : Standing) → after_rule S s step rule ≡ Ok next
    → next ≡ behind_rule S s step rule
rule-is S s step (SolveRight x) next e = sym (ok_is e)
rule-is S s step (SolveLeft x) next e = sym (ok_is e)
rule-is S s step (Inject n number) next e =
    there-is s step.group (compared S s.state step) next
    (tested (is_low step.left && is_low step.right) (after_comparison S s step) next e)
rule-is S s step Delete next e = sym (ok_is e)
rule-is S s step (Conflict n c d) next e = sym (ok_is e)
rule-is S s step (Cycle x) next e = sym (ok_is e)

pub after_step-is_step : AfterStepIsStep
after_step-is_step S s step next e = rule-is S s (step_in s step) (step_in s step).rule next e

pub after_run-is_run : AfterRunIsRun
after_run-is_run S [] s last e = sym (ok_is e)
after_run-is_run S (step ∷ steps) s last e =
    let both = if-both (after_step S s step) (after_run S steps) last e in
    after_run-is_run S steps both.0 last both.2 ∙ ap (behind_run S steps) (after_step-is_step S s step both.0 both.1)

-- ---- refusals

-- the refusal of an answer is Deep alone
abbrev pub OnlyDeep : {A : Type 0} → Result A Stop → Type 0
OnlyDeep r = (e : Stop) → r ≡ Err e → e ≡ Deep

deep-of : {A : Type 0} (x y : Stop) → ◌≡◌ {A = Result A Stop} (Err x) (Err y) → x ≡ y
deep-of x y e = cc

pub never : {A : Type 0} (a : A) → OnlyDeep (Ok a)
never a x e = absurd (cc)

itself : {A : Type 0} → OnlyDeep {A = A} (Err Deep)
itself x e = cc

pub if-deep : {A : Type 0} (b : Bool) (r : Result A Stop) → OnlyDeep r → OnlyDeep (cond b r (Err Deep))
if-deep true r h = h
if-deep false r h = itself

pub then-deep : {A B : Type 0} (r : Result A Stop) (go : A → Result B Stop) → OnlyDeep r → ((a : A) → OnlyDeep (go a)) → OnlyDeep (and_then r go)
then-deep (Ok a) go h k = k a
then-deep (Err z) go h k = λ x e. sym (deep-of z x e) ∙ h z refl

group-deep : (c : Comparison) → OnlyDeep (group_made c)
group-deep c = if-deep _ _ (if-deep _ _ (never _))

standing-deep : (s : Standing) (g : ℕ) (c : Comparison) → OnlyDeep (standing_made s g c)
standing-deep s g c =
    then-deep (injected_made s.state g c) _
    (then-deep (equations_made (arguments_of c) c.left.arguments c.right.arguments) _ (if-deep _ _ (never _)) (λ types.
    then-deep (group_made c) _ (group-deep c) (λ proofs. never _)))
    (λ es. never _)

there-deep : (s : Standing) (g : ℕ) (o : Option Comparison) → OnlyDeep (injected_if_there s g o)
there-deep s g None = never s
there-deep s g (Some c) = if-deep _ _ (standing-deep s g c)

pub rule-deep : (S : Signature) (s : Standing) (step : Step) (rule : Rule) → OnlyDeep (after_rule S s step rule)
rule-deep S s step (SolveRight x) = never _
rule-deep S s step (SolveLeft x) = never _
rule-deep S s step (Inject n number) = if-deep _ _ (there-deep s step.group (compared S s.state step))
rule-deep S s step Delete = never _
rule-deep S s step (Conflict n c d) = never _
rule-deep S s step (Cycle x) = never _

pub after_run-only_deep : AfterRunOnlyDeep
after_run-only_deep S [] s = never s
after_run-only_deep S (step ∷ steps) s =
    then-deep (after_step S s step) (after_run S steps) (rule-deep S s (step_in s step) (step_in s step).rule) (λ next. after_run-only_deep S steps next)
