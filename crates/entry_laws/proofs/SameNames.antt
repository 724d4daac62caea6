-- The names that trees and runs may mention are the same, whatever constants the types of a node's context have.
use Rattle.std.proofs.Common.{◌≡◌, ℕ, zero, suc, ◌+◌, ◌-◌, ◌||◌, nat_lt, Bool, true, false, cond, Option, Some, None, List, [], ◌∷◌, ◌++◌, map, length, take, drop, get_or, slice_get, refl, sym, ap, ap₂, ◌∙◌, subst}
use Rattle.std.proofs.lemmas.List.{map-append, length-map}
use Rattle.theory.specs.Terms.{Term, Var, Sort, Pi, Lam, App, Let, Const, Fam, Con, Elim, AxiomK}
use Rattle.theory.specs.Telescopes.{Telescope, applied}
use Rattle.theory.specs.Families.{Constructor, Family}
use Rattle.theory.specs.Signatures.{Signature, reflexivity}
use Rattle.theory.specs.Spines.{spine_of}
use Rattle.core_terms.specs.CaseTrees as tree
use Rattle.core_terms.specs.CaseTrees.{Step, Tree, Branch, Branches}
use Rattle.core_terms.specs.declared.case_tree.Rule.{Rule}
use Rattle.core_terms.specs.declared.case_tree.Rule.TheVariants.{SolveRight, SolveLeft, Inject, Conflict, Cycle, Delete}
use Rattle.core_sig.specs.Settling.{renumbered}
use Rattle.tele_eq.specs.Dependences.{has_variable}
use Rattle.tele_eq.specs.Items.{term_at}
use Rattle.tele_eq.specs.Environments.{Environment, put_variable, put_under, put}
use Rattle.tele_eq.specs.Levels.{place_in, has_level}
use Rattle.unification.specs.Built.{Built, built_of}
use Rattle.tele_eq.specs.TelescopicEquality.{equations}
use Rattle.core_terms.specs.Levels.{variable}
use Rattle.unification.specs.Groups.{lowered}
use Rattle.unification.specs.Injecting.{group_proofs, injected_state}
use Rattle.unification.specs.Moving.{over_first, behind, moved}
use Rattle.unification.specs.Occurrences.{dependants_from, dependants, without, order_without}
use Rattle.unification.specs.Records.{argument_items, constructor_terms}
use Rattle.unification.specs.Rules.{level_of}
use Rattle.unification.specs.Solving.{reordered, solved, new_context, solved_state, deleted_state}
use Rattle.unification.specs.States.{Equation, State, equations_at}
use Rattle.case_trees.specs.Problems.{Member, member_of}
use Rattle.tree_translation.specs.Naming.{left_name, case_name}
use Rattle.tree_translation.specs.Hidden.{widened, widened_number, widened_step}
use Rattle.tree_translation.specs.Comparisons.{compared_in, compared_by}
use Rattle.tree_translation.specs.Standings.{Standing, levels_from}
use Rattle.tree_translation.specs.Replays.{level_of_first, solved_standing, unless_compared, behind_rule, step_in, behind_step, behind_run}
use Rattle.tree_translation.specs.RunTerms.{compared_names, rule_names, run_names}
use Rattle.tree_translation.specs.Splits.{Node, branch_standing, methods_names, member_names, split_names}
use Rattle.tree_translation.specs.TreeTerms.{type_in, variable_in, node_behind, next_node, runs_of, tree_names, branches_names, branch_names}

-- ---- terms without their constants

-- a term with one constant for all
abbrev pub blank : Term → Term
blank t = renumbered (λ c. 0) t

abbrev pub blanks : List Term → List Term
blanks ts = map blank ts

pub blank-applied : (head : Term) (us : List Term) → blank (applied head us) ≡ applied (blank head) (blanks us)
blank-applied head [] = refl
blank-applied head (u ∷ us) = blank-applied (App head u) us

has_variable-blank : (n : ℕ) (t : Term) → has_variable n t ≡ has_variable n (blank t)
has_variable-blank n (Var v) = refl
has_variable-blank n (Pi a b) = ap₂ ◌||◌ (has_variable-blank n a) (has_variable-blank (n + 1) b)
has_variable-blank n (Lam a b) = ap₂ ◌||◌ (has_variable-blank n a) (has_variable-blank (n + 1) b)
has_variable-blank n (App f a) = ap₂ ◌||◌ (has_variable-blank n f) (has_variable-blank n a)
has_variable-blank n (Let a t b) = ap₂ ◌||◌ (ap₂ ◌||◌ (has_variable-blank n a) (has_variable-blank n t)) (has_variable-blank (n + 1) b)
has_variable-blank n (Sort i) = refl
has_variable-blank n (Const c) = refl
has_variable-blank n (Fam f) = refl
has_variable-blank n (Con f c) = refl
has_variable-blank n (Elim f m) = refl
has_variable-blank n (AxiomK i m) = refl

has_level-blank : (n : ℕ) (levels : List ℕ) (t : Term) → has_level n levels t ≡ has_level n levels (blank t)
has_level-blank n [] t = refl
has_level-blank n (p ∷ levels) t = ap₂ ◌||◌ (has_variable-blank (n - (p + 1)) t) (has_level-blank n levels t)

dependants_from-blank : (at : ℕ) (found : List ℕ) (tele : Telescope) → dependants_from at found tele ≡ dependants_from at found (blanks tele)
dependants_from-blank at found [] = refl
dependants_from-blank at found (a ∷ tele) =
    ap (λ b. cond b (at ∷ dependants_from (at + 1) (at ∷ found) tele) (dependants_from (at + 1) found tele)) (has_level-blank at found a)
    ∙ ap₂ (λ there others. cond (has_level at found (blank a)) (at ∷ there) others) (dependants_from-blank (at + 1) (at ∷ found) tele)
    (dependants_from-blank (at + 1) found tele)

drop-blank : (n : ℕ) (ts : List Term) → drop n (blanks ts) ≡ blanks (drop n ts)
drop-blank zero ts = refl
drop-blank (suc n) [] = refl
drop-blank (suc n) (t ∷ ts) = drop-blank n ts

length-blank : (ts : List Term) → length (blanks ts) ≡ length ts
length-blank ts = length-map ts blank

dependants-blank : (context : Telescope) (p : ℕ) → dependants context p ≡ dependants (blanks context) p
dependants-blank context p =
    dependants_from-blank (p + 1) (p ∷ []) (drop (p + 1) context) ∙ ap (dependants_from (p + 1) (p ∷ [])) (sym (drop-blank (p + 1) context))

order-blank : (context : Telescope) (p : ℕ) → order_without context p ≡ order_without (blanks context) p
order-blank context p =
    ap₂ (λ moved n. without (p ∷ moved) (levels_from 0 n) ++ moved) (dependants-blank context p) (sym (length-blank context))

term_at-blank : (ts : List Term) (j : ℕ) → term_at (blanks ts) j ≡ blank (term_at ts j)
term_at-blank [] j = refl
term_at-blank (t ∷ ts) zero = refl
term_at-blank (t ∷ ts) (suc j) = term_at-blank ts j

-- the terms of an environment without their constants
abbrev blanked : Environment → Environment
blanked s depth j = blank (s depth j)

blank-cond : (b : Bool) (t u : Term) → blank (cond b t u) ≡ cond b (blank t) (blank u)
blank-cond true t u = refl
blank-cond false t u = refl

put_variable-blank : (s : Environment) (size depth under n : ℕ) → blank (put_variable s size depth under n) ≡ put_variable (blanked s) size depth under n
put_variable-blank s size depth under n =
    blank-cond (nat_lt n under) (Var n) _
    ∙ ap (cond (nat_lt n under) (Var n)) (blank-cond (nat_lt n (size + under)) (s (depth + under) (size + under - (n + 1))) (Var (n - size + depth)))

put_under-blank : (s : Environment) (size depth under : ℕ) (t : Term) → blank (put_under s size depth under t) ≡ put_under (blanked s) size depth under (blank t)
put_under-blank s size depth under (Pi a b) = ap₂ Pi (put_under-blank s size depth under a) (put_under-blank s size depth (under + 1) b)
put_under-blank s size depth under (Lam a b) = ap₂ Lam (put_under-blank s size depth under a) (put_under-blank s size depth (under + 1) b)
put_under-blank s size depth under (App f a) = ap₂ App (put_under-blank s size depth under f) (put_under-blank s size depth under a)
put_under-blank s size depth under (Let a t b) =
    let e = put_under-blank s size depth under a in let f = put_under-blank s size depth under t in let g = put_under-blank s size depth (under + 1) b in cc
put_under-blank s size depth under (Var n) = put_variable-blank s size depth under n
put_under-blank s size depth under (Sort i) = refl
put_under-blank s size depth under (Const c) = refl
put_under-blank s size depth under (Fam f) = refl
put_under-blank s size depth under (Con f c) = refl
put_under-blank s size depth under (Elim f m) = refl
put_under-blank s size depth under (AxiomK i m) = refl

new_context-blank : (context : Telescope) (s : Environment) (depth : ℕ) (order : List ℕ)
    → blanks (new_context context s depth order) ≡ new_context (blanks context) (blanked s) depth order
new_context-blank context s depth [] = refl
new_context-blank context s depth (j ∷ order) =
    ap₂ ◌∷◌ (put_under-blank s j depth 0 (term_at context j) ∙ ap (put (blanked s) j depth) (sym (term_at-blank context j)))
    (new_context-blank context s (depth + 1) order)

-- ---- standings that differ in the constants of their contexts

abbrev equation_level : Equation → ℕ
equation_level e = e.place.level

abbrev equation_levels : List Equation → List ℕ
equation_levels es = map equation_level es

pub record IsLike (s t : Standing) : Type 0 where
  pub context : blanks s.state.context ≡ blanks t.state.context
  pub levels : equation_levels s.state.equations ≡ equation_levels t.state.equations
  pub hidden : s.hidden ≡ t.hidden

pub like-long : (xs ys : List Term) → blanks xs ≡ blanks ys → length xs ≡ length ys
like-long xs ys e = sym (length-blank xs) ∙ (ap length e ∙ length-blank ys)

levels-moved : (items types : Environment) (side : Term → Term) (size depth : ℕ) (es : List Equation)
    → equation_levels (moved items types side size depth es) ≡ equation_levels es
levels-moved items types side size depth [] = refl
levels-moved items types side size depth (e ∷ es) = ap (λ levels. e.place.level ∷ levels) (levels-moved items types side (size + 1) (depth + 1) es)

levels-drop : (n : ℕ) (es : List Equation) → equation_levels (drop n es) ≡ drop n (equation_levels es)
levels-drop zero es = refl
levels-drop (suc n) [] = refl
levels-drop (suc n) (e ∷ es) = levels-drop n es

solved-levels : (s : State) (i p : ℕ) (A u : Term) → equation_levels (solved_state s i p A u).equations ≡ drop 1 (equation_levels s.equations)
solved-levels s i p A u =
    let n = length s.context in
    let order = order_without s.context p in
    let m = length order in
    let s' = solved n order p u in
    let A' = put (reordered order) n m A in
    let u' = put (reordered order) n m u in
    let items = behind n 1 m s' (over_first m (u' ∷ [])) in
    let types = behind n 1 m s' (over_first m (reflexivity i A' u' ∷ [])) in
    levels-moved items types (put s' n m) (n + 1) m (drop 1 s.equations) ∙ levels-drop 1 s.equations

deleted-levels : (s : State) (i : ℕ) (A u : Term) → equation_levels (deleted_state s i A u).equations ≡ drop 1 (equation_levels s.equations)
deleted-levels s i A u =
    let n = length s.context in
    levels-moved (behind n 1 n variable (over_first n (u ∷ []))) (behind n 1 n variable (over_first n (reflexivity i A u ∷ []))) (λ t. t) (n + 1) n (drop 1 s.equations)
    ∙ levels-drop 1 s.equations

injected-levels : (s : State) (g n number : ℕ) (f : Family) (c : Constructor) (ps us vs : List Term)
    → equation_levels (injected_state s g n number f c ps us vs).equations
    ≡ equation_levels (equations_at (argument_items n ps c) (equations (argument_items n ps c) us vs) us vs) ++ drop g (equation_levels s.equations)
injected-levels s g n number f c ps us vs =
    let m = length s.context in
    let new = m + length c.arguments in
    let X = argument_items n ps c in
    let items = behind m g new variable (over_first new (constructor_terms n number ps c)) in
    let types = behind m g new variable (over_first new (group_proofs n number f c ps us vs)) in
    map-append equation_level (equations_at X (equations X us vs) us vs) (moved items types (λ t. t) (m + g) new (drop g s.equations))
    ∙ ap (λ levels. equation_levels (equations_at X (equations X us vs) us vs) ++ levels)
    (levels-moved items types (λ t. t) (m + g) new (drop g s.equations) ∙ levels-drop g s.equations)

-- the context after a solution, without constants, is made of the context without constants
solved_blank : (x : ℕ) (u : Term) → Telescope → Telescope
solved_blank x u b =
    let n = length b in
    let p = level_of n x in
    new_context b (blanked (solved n (order_without b p) p u)) 0 (order_without b p)

solved-blank : (x : ℕ) (u : Term) (context : Telescope)
    → (let n = length context in
    let p = level_of n x in
    blanks (new_context context (solved n (order_without context p) p u) 0 (order_without context p)) ≡ solved_blank x u (blanks context))
unfolding solved_blank
solved-blank x u context =
    let n = length context in
    let p = level_of n x in
    new_context-blank context (solved n (order_without context p) p u) 0 (order_without context p)
    ∙ (ap (λ order. new_context (blanks context) (blanked (solved n order p u)) 0 order) (order-blank context p)
    ∙ ap (λ m. new_context (blanks context) (blanked (solved m (order_without (blanks context) (level_of m x)) (level_of m x) u)) 0 (order_without (blanks context) (level_of m x)))
    (sym (length-blank context)))

-- the order of the variables without one of them
order_in : (x : ℕ) → Telescope → List ℕ
order_in x b = order_without b (level_of (length b) x)

order-in : (x : ℕ) (context : Telescope) → order_without context (level_of (length context) x) ≡ order_in x (blanks context)
unfolding order_in
order-in x context =
    order-blank context (level_of (length context) x) ∙ ap (λ m. order_without (blanks context) (level_of m x)) (sym (length-blank context))

solved-like : (s t : Standing) (x : ℕ) (A u : Term) → IsLike s t → IsLike (solved_standing s x A u) (solved_standing t x A u)
solved-like s t x A u h = record {
  context = solved-blank x u s.state.context ∙ (ap (solved_blank x u) h.context ∙ sym (solved-blank x u t.state.context));
  levels =
      solved-levels s.state (level_of_first s.state.equations) (level_of (length s.state.context) x) A u
      ∙ (ap (drop 1) h.levels ∙ sym (solved-levels t.state (level_of_first t.state.equations) (level_of (length t.state.context) x) A u));
  hidden =
      ap₂ (λ order hidden. map (place_in order) hidden)
      (order-in x s.state.context ∙ (ap (order_in x) h.context ∙ sym (order-in x t.state.context))) h.hidden;
}

replaced-like : (s t : Standing) (g n number : ℕ) (f : Family) (c : Constructor) (ps us vs : List Term) → IsLike s t
    → equation_levels (injected_state s.state g n number f c ps us vs).equations ≡ equation_levels (injected_state t.state g n number f c ps us vs).equations
replaced-like s t g n number f c ps us vs h =
    injected-levels s.state g n number f c ps us vs
    ∙ (ap (λ levels. equation_levels (equations_at (argument_items n ps c) (equations (argument_items n ps c) us vs) us vs) ++ drop g levels) h.levels
    ∙ sym (injected-levels t.state g n number f c ps us vs))

compared-like : (s t : Standing) (g k : ℕ) (type : Term) (left right : Built) → IsLike s t
    → IsLike (unless_compared s g (Some (compared_by s.state k type left right))) (unless_compared t g (Some (compared_by t.state k type left right)))
compared-like s t g zero type left right h = record {
  context = h.context;
  levels = replaced-like s t g left.n left.number left.family left.constructor left.parameters left.arguments right.arguments h;
  hidden = h.hidden;
}
compared-like s t g (suc k) type left right h = record {
  context = h.context;
  levels =
      replaced-like s t g left.n left.number left.family left.constructor (map (lowered (suc k)) (take (length (spine_of type) - suc k) (spine_of type))) left.arguments
      right.arguments h;
  hidden = h.hidden;
}

injected-like : (s t : Standing) (step : Step) (left right : Option Built) → IsLike s t
    → IsLike (unless_compared s step.group (compared_in s.state step left right)) (unless_compared t step.group (compared_in t.state step left right))
injected-like s t step (Some left) (Some right) h = compared-like s t step.group (step.group - 1) step.ty left right h
injected-like s t step (Some left) None h = h
injected-like s t step None right h = h

rule-like : (S : Signature) (s t : Standing) (step : Step) (rule : Rule) → IsLike s t → IsLike (behind_rule S s step rule) (behind_rule S t step rule)
rule-like S s t step (SolveRight x) h = solved-like s t x step.ty step.left h
rule-like S s t step (SolveLeft x) h = solved-like s t x step.ty step.right h
rule-like S s t step (Inject n number) h = injected-like s t step (built_of S step.left) (built_of S step.right) h
rule-like S s t step Delete h = record {
  context = h.context;
  levels =
      deleted-levels s.state (level_of_first s.state.equations) step.ty step.left
      ∙ (ap (drop 1) h.levels ∙ sym (deleted-levels t.state (level_of_first t.state.equations) step.ty step.left));
  hidden = h.hidden;
}
rule-like S s t step (Conflict n c d) h = h
rule-like S s t step (Cycle x) h = h

same-step : (s t : Standing) (step : Step) → IsLike s t → step_in s step ≡ step_in t step
same-step s t step h = ap₂ (λ n hidden. widened_step n hidden step) (like-long s.state.context t.state.context h.context) h.hidden

step-like : (S : Signature) (s t : Standing) (step : Step) → IsLike s t → IsLike (behind_step S s step) (behind_step S t step)
step-like S s t step h =
    subst (λ a. IsLike (behind_rule S s (step_in s step) (step_in s step).rule) (behind_rule S t a a.rule)) (same-step s t step h)
    (rule-like S s t (step_in s step) (step_in s step).rule h)

run-like : (S : Signature) (steps : List Step) (s t : Standing) → IsLike s t → IsLike (behind_run S steps s) (behind_run S steps t)
run-like S [] s t h = h
run-like S (step ∷ steps) s t h = run-like S steps (behind_step S s step) (behind_step S t step) (step-like S s t step h)

-- ---- names

first-level : (es es' : List Equation) → equation_levels es ≡ equation_levels es' → level_of_first es ≡ level_of_first es'
first-level es es' e = first es ∙ (ap (λ levels. get_or levels 0 0) e ∙ sym (first es'))
  where
    first : (es : List Equation) → level_of_first es ≡ get_or (equation_levels es) 0 0
    first [] = refl
    first (e ∷ es) = refl

compared-names : (L : ℕ) (s t : State) (step : Step) (left right : Option Built) → compared_names L (compared_in s step left right) ≡ compared_names L (compared_in t step left right)
compared-names L s t step (Some left) (Some right) = by (step.group - 1)
  where
    by : (k : ℕ) → compared_names L (Some (compared_by s k step.ty left right)) ≡ compared_names L (Some (compared_by t k step.ty left right))
    by zero = refl
    by (suc k) = refl
compared-names L s t step (Some left) None = refl
compared-names L s t step None right = refl

rule-names : (S : Signature) (L : ℕ) (s t : Standing) (step : Step) (rule : Rule) → IsLike s t → rule_names S L s step rule ≡ rule_names S L t step rule
rule-names S L s t step (SolveLeft x) h = ap (λ i. left_name i L ∷ []) (first-level s.state.equations t.state.equations h.levels)
rule-names S L s t step (Inject n c) h = compared-names L s.state t.state step (built_of S step.left) (built_of S step.right)
rule-names S L s t step (Conflict n c d) h = compared-names L s.state t.state step (built_of S step.left) (built_of S step.right)
rule-names S L s t step (SolveRight x) h = refl
rule-names S L s t step (Cycle x) h = refl
rule-names S L s t step Delete h = refl

run-names : (S : Signature) (L : ℕ) (steps : List Step) (s t : Standing) → IsLike s t → run_names S L steps s ≡ run_names S L steps t
run-names S L [] s t h = refl
run-names S L (step ∷ steps) s t h =
    ap₂ ◌++◌
    (rule-names S L s t (step_in s step) (step_in s step).rule h ∙ ap (λ a. rule_names S L t a a.rule) (same-step s t step h))
    (run-names S L steps (behind_step S s step) (behind_step S t step) (step-like S s t step h))

-- ---- nodes

pub record IsLikeNode (a b : Node) : Type 0 where
  pub context : blanks a.context ≡ blanks b.context
  pub hidden : a.hidden ≡ b.hidden

branch-like : (a b : Node) (m : Member) (x number : ℕ) (c : Constructor) → IsLikeNode a b → IsLike (branch_standing a m x number c) (branch_standing b m x number c)
branch-like a b m x number c h = record {
  context =
      map-append blank a.context (map (λ item. item.type) (argument_items m.n m.parameters c))
      ∙ (ap (λ context. context ++ blanks (map (λ item. item.type) (argument_items m.n m.parameters c))) h.context
      ∙ sym (map-append blank b.context (map (λ item. item.type) (argument_items m.n m.parameters c))));
  levels = refl;
  hidden = h.hidden;
}

methods-names : (S : Signature) (L : ℕ) (a b : Node) (m : Member) (x at : ℕ) (constructors : List Constructor) (runs : List (List Step)) → IsLikeNode a b
    → methods_names S L a m x at constructors runs ≡ methods_names S L b m x at constructors runs
methods-names S L a b m x at (c ∷ constructors) (steps ∷ runs) h =
    ap₂ ◌++◌ (run-names S L steps (branch_standing a m x at c) (branch_standing b m x at c) (branch-like a b m x at c h))
    (methods-names S L a b m x (at + 1) constructors runs h)
methods-names S L a b m x at (c ∷ constructors) [] h = refl
methods-names S L a b m x at [] runs h = refl

member-names : (S : Signature) (L : ℕ) (a b : Node) (x : ℕ) (runs : List (List Step)) (o : Option Member) → IsLikeNode a b
    → member_names S L a x runs o ≡ member_names S L b x runs o
member-names S L a b x runs None h = refl
member-names S L a b x runs (Some m) h = ap (λ names. case_name m.family L ∷ names) (methods-names S L a b m x 0 m.family.constructors runs h)

behind-like : (S : Signature) (a b : Node) (m : Member) (x number : ℕ) (steps : List Step) (o : Option Constructor) → IsLikeNode a b
    → IsLikeNode (node_behind S a m x number steps o) (node_behind S b m x number steps o)
behind-like S a b m x number steps None h = h
behind-like S a b m x number steps (Some c) h =
    let is = run-like S steps (branch_standing a m x number c) (branch_standing b m x number c) (branch-like a b m x number c h) in
    record { context = is.context; hidden = is.hidden }

pub next-like : (S : Signature) (a b : Node) (x number : ℕ) (steps : List Step) (o : Option Member) → IsLikeNode a b
    → IsLikeNode (next_node S a x number steps o) (next_node S b x number steps o)
next-like S a b x number steps None h = h
next-like S a b x number steps (Some m) h = behind-like S a b m x number steps (slice_get m.family.constructors number) h

same-type : (a b : Node) (type : Term) → IsLikeNode a b → type_in a type ≡ type_in b type
same-type a b type h = ap₂ (λ n hidden. widened n hidden type) (like-long a.context b.context h.context) h.hidden

same-variable : (a b : Node) (x : ℕ) → IsLikeNode a b → variable_in a x ≡ variable_in b x
same-variable a b x h = ap₂ (λ n hidden. widened_number n hidden x) (like-long a.context b.context h.context) h.hidden

-- ---- trees

mutual
  pub tree-names : (S : Signature) (L : ℕ) (t : Tree) (a b : Node) → IsLikeNode a b → tree_names S L t a ≡ tree_names S L t b
  tree-names S L (tree.Leaf clause context goal substitution terms binds) a b h = refl
  tree-names S L (tree.Split context x n type branches) a b h =
      ap₂ (λ y reduced. split_names S L a y reduced (runs_of branches) ++ branches_names S L branches a y (member_of S reduced) 0)
      (same-variable a b x h) (same-type a b type h)
      ∙ ap₂ ◌++◌ (member-names S L a b (variable_in b x) (runs_of branches) (member_of S (type_in b type)) h)
      (branches-names S L branches a b (variable_in b x) (member_of S (type_in b type)) 0 h)

  branches-names : (S : Signature) (L : ℕ) (branches : Branches) (a b : Node) (x : ℕ) (o : Option Member) (number : ℕ) → IsLikeNode a b
      → branches_names S L branches a x o number ≡ branches_names S L branches b x o number
  branches-names S L tree.nil a b x o number h = refl
  branches-names S L (tree.cons branch branches) a b x o number h =
      ap₂ ◌++◌ (branch-names S L branch a b x o number h) (branches-names S L branches a b x o (number + 1) h)

  branch-names : (S : Signature) (L : ℕ) (branch : Branch) (a b : Node) (x : ℕ) (o : Option Member) (number : ℕ) → IsLikeNode a b
      → branch_names S L branch a x o number ≡ branch_names S L branch b x o number
  branch-names S L (tree.Absurd steps context u v) a b x o number h = refl
  branch-names S L (tree.Solved steps origins subtree) a b x o number h =
      tree-names S L subtree (next_node S a x number steps o) (next_node S b x number steps o) (next-like S a b x number steps o h)
