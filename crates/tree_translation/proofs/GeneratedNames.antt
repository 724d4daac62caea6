-- The names that the terms of runs and split nodes may mention are all generated for families of the signature.
use Rattle.std.proofs.Common.{◌≡◌, ℕ, zero, suc, ◌+◌, ◌-◌, ◌==◌, Option, Some, None, List, [], ◌∷◌, length, All, IfSome, refl}
use Rattle.std.proofs.lemmas.List.Elements.{All-cons, All-append, All-nil}
use Rattle.theory.proofs.Lists.{only, both}
use Rattle.theory.specs.Terms.{Term, Fam, Var}
use Rattle.theory.specs.Spines.{head_of, spine_of}
use Rattle.theory.specs.Families.{Constructor}
use Rattle.theory.specs.Signatures.{Signature, FamilyOf, IsEntryAt}
use Rattle.core_terms.specs.CaseTrees.{Step}
use Rattle.core_terms.specs.declared.case_tree.Rule.{Rule}
use Rattle.core_terms.specs.declared.case_tree.Rule.TheVariants.{SolveRight, SolveLeft, Inject, Conflict, Cycle, Delete}
use Rattle.kernel_reduce.specs.Entries.{family_at}
use Rattle.kernel_reduce.proofs.LookUps.{family-found}
use Rattle.kernel_reduce.proofs.StepLaws.{some-next, some-cond}
use Rattle.unification.specs.States.{State}
use Rattle.unification.specs.Built.{Built, built_of}
use Rattle.unification.proofs.Constructors.{built-is}
use Rattle.case_trees.specs.Problems.{Member, member_with, member_at, member_of}
use Rattle.generators.specs.acyclic_gen.AcyclicEntries.{acyclic_name}
use Rattle.generators.specs.acyclic_gen.DirectEntries.{direct_name}
use Rattle.tree_translation.specs.Naming.{left_name, case_name}
use Rattle.tree_translation.specs.Standings.{Standing}
use Rattle.tree_translation.specs.Comparisons.{Comparison, compared, compared_in, compared_by}
use Rattle.tree_translation.specs.Replays.{level_of_first, behind_step, step_in}
use Rattle.tree_translation.specs.RunTerms.{compared_names, cycle_names, rule_names, run_names}
use Rattle.tree_translation.specs.Splits.{Node, branch_standing, methods_names, member_names, split_names}
use Rattle.tree_translation.specs.Laws.{IsGenerated, SplitNames}
use Rattle.tree_translation.proofs.NewNames.{longer, new-fresh, new-differ}

-- ---- families that are found

pub member_at-entry : (S : Signature) (h : Term) (spine : List Term) → IfSome (member_at S h spine) (λ m. IsEntryAt S m.n (FamilyOf m.family))
member_at-entry S (Fam n) spine =
    some-next (λ m. IsEntryAt S m.n (FamilyOf m.family)) (member_with n spine) (family_at S n) (λ f found.
    some-cond (λ m. IsEntryAt S m.n (FamilyOf m.family)) (length spine == length f.parameters + length f.indices) _ (λ test. family-found S n f found))
member_at-entry S (Var x) spine = tt
member_at-entry S _ spine = tt

-- the family of a member
pub member-entry : (S : Signature) (t : Term) → IfSome (member_of S t) (λ m. IsEntryAt S m.n (FamilyOf m.family))
member-entry S t = member_at-entry S (head_of t) (spine_of t)

pub built-entry : (S : Signature) (t : Term) (b : Built) → built_of S t ≡ Some b → IsEntryAt S b.n (FamilyOf b.family)
built-entry S t b e = (built-is S t b e).built.family

pub compared_by-entry : (S : Signature) (s : State) (k : ℕ) (type : Term) (left right : Built) → IsEntryAt S left.n (FamilyOf left.family)
    → (let c = compared_by s k type left right in IsEntryAt S c.n (FamilyOf c.family))
compared_by-entry S s zero type left right h = h
compared_by-entry S s (suc k) type left right h = h

pub compared_in-entry : (S : Signature) (s : State) (step : Step) (left right : Option Built)
    → ((b : Built) → left ≡ Some b → IsEntryAt S b.n (FamilyOf b.family))
    → IfSome (compared_in s step left right) (λ c. IsEntryAt S c.n (FamilyOf c.family))
compared_in-entry S s step (Some left) (Some right) h = compared_by-entry S s (step.group - 1) step.ty left right (h left refl)
compared_in-entry S s step (Some left) None h = tt
compared_in-entry S s step None right h = tt

-- the family of a comparison
pub compared-entry : (S : Signature) (s : State) (step : Step) → IfSome (compared S s step) (λ c. IsEntryAt S c.n (FamilyOf c.family))
compared-entry S s step = compared_in-entry S s step (built_of S step.left) (built_of S step.right) (built-entry S step.left)

-- ---- names of runs

pub compared-generated : (S : Signature) (L : ℕ) (o : Option Comparison) → IfSome o (λ c. IsEntryAt S c.n (FamilyOf c.family))
    → All (IsGenerated S) (compared_names L o)
compared-generated S L None h = All-nil (IsGenerated S)
compared-generated S L (Some c) h = only (IsGenerated S) _ (IsGenerated.noconf c.n c.left.number L c.family h refl)

pub cycle-generated : (S : Signature) (left right : Option Built)
    → ((b : Built) → left ≡ Some b → IsEntryAt S b.n (FamilyOf b.family)) → ((b : Built) → right ≡ Some b → IsEntryAt S b.n (FamilyOf b.family))
    → All (IsGenerated S) (cycle_names left right)
cycle-generated S left (Some b) h k =
    both (IsGenerated S) (direct_name b.family.name) (acyclic_name b.family.name)
    (IsGenerated.direct b.n b.family (k b refl) refl) (IsGenerated.acyclic b.n b.family (k b refl) refl)
cycle-generated S (Some b) None h k =
    All-cons (IsGenerated S) (direct_name b.family.name) (left_name b.family.level b.family.level ∷ acyclic_name b.family.name ∷ []) (IsGenerated.direct b.n b.family (h b refl) refl)
    (both (IsGenerated S) (left_name b.family.level b.family.level) (acyclic_name b.family.name)
    (IsGenerated.left b.family.level b.family.level refl) (IsGenerated.acyclic b.n b.family (h b refl) refl))
cycle-generated S None None h k = All-nil (IsGenerated S)

pub rule-generated : (S : Signature) (L : ℕ) (s : Standing) (step : Step) (rule : Rule) → All (IsGenerated S) (rule_names S L s step rule)
rule-generated S L s step (SolveRight x) = All-nil (IsGenerated S)
rule-generated S L s step (SolveLeft x) =
    only (IsGenerated S) (left_name (level_of_first s.state.equations) L) (IsGenerated.left (level_of_first s.state.equations) L refl)
rule-generated S L s step (Inject n c) = compared-generated S L (compared S s.state step) (compared-entry S s.state step)
rule-generated S L s step (Conflict n c d) = compared-generated S L (compared S s.state step) (compared-entry S s.state step)
rule-generated S L s step (Cycle x) =
    cycle-generated S (built_of S step.left) (built_of S step.right) (built-entry S step.left) (built-entry S step.right)
rule-generated S L s step Delete = All-nil (IsGenerated S)

-- the names of a run
pub run-generated : (S : Signature) (L : ℕ) (steps : List Step) (s : Standing) → All (IsGenerated S) (run_names S L steps s)
run-generated S L [] s = All-nil (IsGenerated S)
run-generated S L (step ∷ steps) s =
    All-append (IsGenerated S) (rule_names S L s (step_in s step) (step_in s step).rule) (run_names S L steps (behind_step S s step))
    (rule-generated S L s (step_in s step) (step_in s step).rule) (run-generated S L steps (behind_step S s step))

-- ---- names of split nodes

pub methods-generated : (S : Signature) (L : ℕ) (node : Node) (m : Member) (x at : ℕ) (constructors : List Constructor) (runs : List (List Step))
    → All (IsGenerated S) (methods_names S L node m x at constructors runs)
methods-generated S L node m x at (c ∷ constructors) (steps ∷ runs) =
    All-append (IsGenerated S) (run_names S L steps (branch_standing node m x at c)) (methods_names S L node m x (at + 1) constructors runs)
    (run-generated S L steps (branch_standing node m x at c)) (methods-generated S L node m x (at + 1) constructors runs)
methods-generated S L node m x at (c ∷ constructors) [] = All-nil (IsGenerated S)
methods-generated S L node m x at [] runs = All-nil (IsGenerated S)

pub member-generated : (S : Signature) (L : ℕ) (node : Node) (x : ℕ) (runs : List (List Step)) (o : Option Member)
    → IfSome o (λ m. IsEntryAt S m.n (FamilyOf m.family)) → All (IsGenerated S) (member_names S L node x runs o)
member-generated S L node x runs None h = All-nil (IsGenerated S)
member-generated S L node x runs (Some m) h =
    All-cons (IsGenerated S) (case_name m.family L) _ (IsGenerated.case m.n L m.family h refl)
    (methods-generated S L node m x 0 m.family.constructors runs)

pub split-generated : (S : Signature) (L : ℕ) (node : Node) (x : ℕ) (type : Term) (runs : List (List Step)) → All (IsGenerated S) (split_names S L node x type runs)
split-generated S L node x type runs = member-generated S L node x runs (member_of S type) (member-entry S type)

pub split_names-are : SplitNames
split_names-are S L node x type runs ends names given =
    let r = longer (IsGenerated S) names (split_names S L node x type runs) (split-generated S L node x type runs) in
    record { new = r.new; added = r.added; fresh = new-fresh names r.new r.is_new; generated = r.each; different = new-differ names r.new r.is_new }
