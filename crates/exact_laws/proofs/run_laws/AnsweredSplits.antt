-- The term and the names of a split node are made, unless the term is too high.
use Rattle.std.proofs.Common.{◌≡◌, ℕ, suc, ◌+◌, ◌<◌, ◌≤◌, cond, Option, Some, List, [], ◌∷◌, ◌++◌, length, map, slice_get, Result, Ok, Err, refl, sym, ap, ◌∙◌, subst as transport, arith}
use Rattle.std.proofs.lemmas.List.{length-append, length-map}
use Rattle.theory.specs.Terms.{Term, Var, App, Const, Fam, height, lift}
use Rattle.theory.specs.Telescopes.{Telescope, applied, products, variables}
use Rattle.theory.specs.Families.{Constructor}
use Rattle.theory.specs.SignatureScopes.{IsScoped, IsScopedConstructor, IsScopedTelescope}
use Rattle.theory.specs.Signatures.{Signature, FamilyOf, IsEntryAt}
use Rattle.theory.specs.WellFormed.{first_entries}
use Rattle.theory.proofs.AllOf.{all_at}
use Rattle.theory.proofs.Spines.{applied-append}
use Rattle.core_terms.specs.Answers.{and_then}
use Rattle.core_terms.specs.CaseTrees.{Step}
use Rattle.core_terms.specs.declared.stop.Stop.{Stop}
use Rattle.core_terms.specs.declared.stop.Stop.TheVariants.{Deep}
use Rattle.core_terms.proofs.Builders.{height-applied}
use Rattle.tele_eq.specs.Items.{Item}
use Rattle.tele_eq.specs.TelescopicEquality.{equations, reflexivities}
use Rattle.tele_eq.proofs.Positions.{length-each_position}
use Rattle.unification.specs.Injecting.{lifted}
use Rattle.unification.specs.Outcomes.{Outcome, steps_in}
use Rattle.unification.specs.Records.{argument_items, constructor_terms, family_items}
use Rattle.unification.specs.ScopedStates.{IsReady}
use Rattle.unification.specs.States.{Problem, equations_at, starting, types_as_they_stand}
use Rattle.unification.proofs.ScopedRecords.{length-family_items}
use Rattle.unification.proofs.Counts.{length-equations}
use Rattle.problems.specs.Conditions.{AreBelow, AreLow}
use Rattle.case_trees.specs.Problems.{Member, member_of, problem_of}
use Rattle.case_trees.specs.Standing.{Runs}
use Rattle.case_trees.proofs.ScopedProblems.{member-in, problem-scoped}
use Rattle.tree_translation.specs.Conditions.{AreRuns, IsEnd, IsSeen}
use Rattle.tree_translation.specs.Conditions.AreRuns.{none, more}
use Rattle.tree_translation.specs.Conditions.IsEnd.{solved as end_solved, absurd as end_absurd}
use Rattle.tree_translation.specs.Hidden.{widened, widened_number}
use Rattle.tree_translation.specs.Naming.{Naming, case_name}
use Rattle.tree_translation.specs.RunTerms.{run_names, run_term}
use Rattle.tree_translation.specs.Splits.{Node, behind_first, branch_standing, first_of, is_absurd, member_types, on_member, scrutinee, split_member, split_method, split_methods, split_motive}
use Rattle.tree_translation.specs.Standings.{Standing, problem_state, state_term}
use Rattle.theory.proofs.ScopedTypes.{length-variables}
use Rattle.tree_translation.proofs.SeenTerms.{widened-is, widening}
use Rattle.split_terms.specs.CodeRunTerms.{run_made, run_names_made}
use Rattle.split_terms.specs.CodeSplits.{branch_names_made, member_made, member_names_made, method_made, method_with, methods_names_made, motive_made, motive_with, split_end, split_head, split_member_made, split_option_made, standing_made, standing_with, state_made, with_methods}
use Rattle.split_terms.proofs.SplitsMade.{in-parts}
use Rattle.entry_laws.proofs.replay_laws.LowComparisons.{equations-there}
use Rattle.entry_laws.proofs.replay_laws.LowConfusions.{reflexivities-there}
use Rattle.entry_laws.proofs.replay_laws.LowInstances.{height-low}
use Rattle.entry_laws.proofs.replay_laws.LowParts.{low-appended, low-applied, low-equations, low-functions, low-placed_telescope, low-products, low-reflexivities}
use Rattle.entry_laws.proofs.replay_laws.SeenBranches.{branch-widens}
use Rattle.entry_laws.proofs.replay_laws.SeenMembers.{member-count, member-entry, member-instance, member-type, member_under}
use Rattle.exact_laws.specs.run_laws.Laws.{IsRun}
use Rattle.exact_laws.specs.run_laws.SplitLaws.{IsRunSplit, SplitAnswers, SplitNamesAnswer}
use Rattle.exact_laws.proofs.run_laws.AnsweredNames.{run_names-answer}
use Rattle.exact_laws.proofs.run_laws.AnsweredTerms.{run-answers}
use Rattle.exact_laws.proofs.run_laws.MadeSplits.{split_names-are_these}

-- ---- the parts of a low term

-- the type that is split is in the term
applied-more : (h h' : Term) (us : List Term) → height h ≤ height h' → height (applied h us) ≤ height (applied h' us)
applied-more h h' [] le = le
applied-more h h' (u ∷ us) le = applied-more (App h u) (App h' u) us (omega arith)

pub type-below : (n number : ℕ) (ps is : List Term) (motive : Term) (methods : List Term) (x : ℕ) (refls : List Term)
    → height (applied (Fam n) (ps ++ is)) ≤ height (applied (Const number) (ps ++ motive ∷ (methods ++ ((is ++ Var x ∷ []) ++ refls))))
type-below n number ps is motive methods x refls =
    let family = applied (Fam n) ps in
    let head = App (applied (Const number) ps) motive in
    let H = applied head methods in
    let a : height (applied (Fam n) ps) ≤ height (applied (Const number) ps) = applied-more (Fam n) (Const number) ps (omega arith) in
    let b : height head + length methods ≤ height (applied head methods) = height-applied head methods in
    let c : height (applied family is) ≤ height (applied H is) = applied-more family H is (omega arith) in
    let d : height (App (applied H is) (Var x)) + length refls ≤ height (applied (App (applied H is) (Var x)) refls) =
    height-applied (App (applied H is) (Var x)) refls in
    let e : applied (App (applied H is) (Var x)) refls ≡ applied (Const number) (ps ++ motive ∷ (methods ++ ((is ++ Var x ∷ []) ++ refls))) =
    ap (λ h. applied h refls) (sym (applied-append H is (Var x ∷ []))) ∙ in-parts (Const number) motive ps methods (is ++ Var x ∷ []) refls in
    let f : height (applied (Fam n) (ps ++ is)) ≡ height (applied family is) = ap height (applied-append (Fam n) ps is) in
    let g = ap height e in
    omega arith

pub record LowSplit (node : Node) (m : Member) (x : ℕ) (methods : List Term) : Type 0 where
  pub few : length m.family.indices + 1 ≤ 1000
  pub motive : height (split_motive node m x) ≤ 2000
  pub methods_low : AreLow methods
  pub refls : AreLow (reflexivities (family_items m.n m.family m.parameters) (scrutinee m x))

pub split-low : (node : Node) (m : Member) (x number : ℕ) (methods : List Term) → length m.indices ≡ length m.family.indices
    → height (applied (Const number)
    (m.parameters
    ++ split_motive node m x
    ∷ (methods ++ (scrutinee m x ++ reflexivities (family_items m.n m.family m.parameters) (scrutinee m x))))) ≤ 2000
    → LowSplit node m x methods
split-low node m x number methods count low =
    let X = family_items m.n m.family m.parameters in
    let us = scrutinee m x in
    let refls = reflexivities X us in
    let third = us ++ refls in
    let second = split_motive node m x ∷ (methods ++ third) in
    let whole = low-applied (Const number) (m.parameters ++ second) low in
    let after_parameters = low-appended m.parameters second whole.1 in
    let after_methods = low-appended methods third after_parameters.1.1 in
    let after_scrutinee = low-appended us refls after_methods.1 in
    let room : height (Const number) + length (m.parameters ++ second) ≤ 2000 = whole.0 in
    let a = length-append m.parameters second in
    let b = length-append methods third in
    let d = length-append us refls in
    let u = length-append m.indices (Var x ∷ []) in
    let r : length refls ≡ length X = length-each_position _ 0 (length X) in
    let f : length X ≡ length m.family.indices + 1 = length-family_items m.n m.family m.parameters in
    record {
      few = omega arith;
      motive = after_parameters.1.0;
      methods_low = after_methods.0;
      refls = after_scrutinee.1;
    }

-- ---- the motive and the end

length-scrutinee : (m : Member) (x : ℕ) → length (scrutinee m x) ≡ length m.indices + 1
length-scrutinee m x = length-append m.indices (Var x ∷ [])

motive-there : (node : Node) (m : Member) (x : ℕ) → length m.indices ≡ length m.family.indices → length m.family.indices + 1 ≤ 1000
    → height (split_motive node m x) ≤ 2000 → motive_made node m x ≡ Ok (split_motive node m x)
motive-there node m x same few low =
    let count = length m.indices + 1 in
    let X = family_items m.n m.family (lifted count m.parameters) in
    let us = variables count in
    let vs = lifted count (scrutinee m x) in
    let types = equations X us vs in
    let body = low-functions (member_types (family_items m.n m.family m.parameters)) (products types (lift node.goal (count + length types) 0)) low in
    let parts = low-products types (lift node.goal (count + length types) 0) body.1 in
    let ex : length X ≡ length m.family.indices + 1 = length-family_items m.n m.family (lifted count m.parameters) in
    let eu : length us ≡ count = length-variables count in
    let ev : length vs ≡ length (scrutinee m x) = length-map (scrutinee m x) (λ t. lift t count 0) in
    let es = length-scrutinee m x in
    let inner = low-equations X us vs (omega arith) (omega arith) parts.0 in
    ap (λ (r : Result (List Term) Stop). and_then r (λ types. Ok (motive_with node m types)))
    (equations-there X us vs (omega arith) inner.0 inner.1.0 inner.1.1)

end-there : (m : Member) (x : ℕ) (head : Term) → length m.indices ≡ length m.family.indices → length m.family.indices + 1 ≤ 1000
    → AreLow (reflexivities (family_items m.n m.family m.parameters) (scrutinee m x))
    → split_end m x head ≡ Ok (applied (applied head (scrutinee m x)) (reflexivities (family_items m.n m.family m.parameters) (scrutinee m x)))
end-there m x head same few low =
    let X = family_items m.n m.family m.parameters in
    let us = scrutinee m x in
    let ex : length X ≡ length m.family.indices + 1 = length-family_items m.n m.family m.parameters in
    let es = length-scrutinee m x in
    let inner = low-reflexivities X us (omega arith) low in
    ap (λ (r : Result (List Term) Stop). and_then r (λ refls. Ok (applied (applied head us) refls)))
    (reflexivities-there X us (omega arith) inner.0 inner.1)

-- ---- methods

types-standing : (X : List Item) (types us vs : List Term) → length types ≡ length X → length us ≡ length X → length vs ≡ length X
    → types_as_they_stand (equations_at X types us vs) ≡ types
types-standing [] [] us vs a b c = refl
types-standing [] (t ∷ types) us vs a b c = absurd (omega arith)
types-standing (x ∷ X) [] us vs a b c = absurd (omega arith)
types-standing (x ∷ X) (t ∷ types) [] vs a b c = absurd (omega arith)
types-standing (x ∷ X) (t ∷ types) (u ∷ us) [] a b c = absurd (omega arith)
types-standing (x ∷ X) (t ∷ types) (u ∷ us) (v ∷ vs) a b c =
    ap (λ types. t ∷ types) (types-standing X types us vs (omega arith) (omega arith) (omega arith))

-- the lists of a problem are as long as each other
pub record IsEven (p : Problem) : Type 0 where
  pub few : length p.telescope ≤ 1000
  pub left : length p.left ≡ length p.telescope
  pub right : length p.right ≡ length p.telescope

problem-even : (S : Signature) (context : Telescope) (x : ℕ) (m : Member) (number : ℕ) (c : Constructor) → IsReady S
    → IsEntryAt S m.n (FamilyOf m.family) → slice_get m.family.constructors number ≡ Some c
    → length m.indices ≡ length m.family.indices → length m.family.indices + 1 ≤ 1000 → IsEven (problem_of context x m number c)
problem-even S context x m number c ready at there same few =
    let count = length c.arguments in
    let targets : length c.targets ≡ length m.family.indices =
    (all_at (IsScopedConstructor (first_entries S (m.n + 1)) (length m.family.parameters) (length m.family.indices)) m.family.constructors number c there
    (ready.scoped m.n (FamilyOf m.family) at).constructors).target_count in
    let ex : length (family_items m.n m.family (lifted count m.parameters)) ≡ length m.family.indices + 1 =
    length-family_items m.n m.family (lifted count m.parameters) in
    let el : length (constructor_terms m.n number m.parameters c) ≡ length c.targets + 1 =
    length-append (map _ c.targets) (_ ∷ []) ∙ ap (λ k. k + 1) (length-map c.targets _) in
    let er : length (lifted count m.indices ++ Var (x + count) ∷ []) ≡ length m.indices + 1 =
    length-append (lifted count m.indices) (Var (x + count) ∷ []) ∙ ap (λ k. k + 1) (length-map m.indices (λ t. lift t count 0)) in
    record { few = omega arith; left = omega arith; right = omega arith }

state-there : (p : Problem) → IsEven p → AreLow (types_as_they_stand (problem_state p).equations) → state_made p ≡ Ok (problem_state p)
state-there p even low =
    let types = equations p.telescope p.left p.right in
    let standing = types-standing p.telescope types p.left p.right (length-equations p.telescope p.left p.right) even.left even.right in
    let inner = low-equations p.telescope p.left p.right even.left even.right (transport AreLow standing low) in
    ap (λ (r : Result (List Term) Stop). and_then r (λ types. Ok (starting p types)))
    (equations-there p.telescope p.left p.right even.few inner.0 inner.1.0 inner.1.1)

-- the facts of a low method
pub record LowMethod (S : Signature) (number : Naming) (L : ℕ) (node : Node) (m : Member) (x at : ℕ) (c : Constructor) (steps : List Step) (end : Term) : Type 0 where
  pub standing : standing_made node m x at c ≡ Ok (branch_standing node m x at c)
  pub inner : height (run_term S number L end steps (branch_standing node m x at c)) ≤ 2000

pub method-low : (S : Signature) (number : Naming) (L : ℕ) (node : Node) (m : Member) (x at : ℕ) (c : Constructor) (steps : List Step) (end : Term)
    → IsEven (problem_of node.context x m at c) → height (split_method S number L node m x at c steps end) ≤ 2000
    → LowMethod S number L node m x at c steps end
method-low S number L node m x at c steps end even low =
    let p = problem_of node.context x m at c in
    let s = branch_standing node m x at c in
    let inner = run_term S number L end steps s in
    let body = low-functions (member_types (argument_items m.n m.parameters c)) (state_term s inner) low in
    let state = low-functions _ inner body.1 in
    record {
      standing =
          ap (λ r. and_then r (λ state. Ok (standing_with node (length c.arguments) state)))
          (state-there p even (low-placed_telescope s.variables s.depth (types_as_they_stand s.state.equations) state.0));
      inner = state.1;
    }

end-steps : (steps : List Step) (outcome : Outcome) → IsEnd steps outcome → steps_in outcome ≡ steps
end-steps steps _ (end_solved context solution) = refl
end-steps steps _ (end_absurd context u v) = refl

-- the conditions on a branch
pub record IsBranch (S : Signature) (node : Node) (m : Member) (x at : ℕ) (c : Constructor) (steps : List Step) : Type 0 where
  pub even : IsEven (problem_of node.context x m at c)
  pub problem : Problem
  pub outcome : Outcome
  pub run : IsRun S problem outcome (branch_standing node m x at c)
  pub steps_same : steps_in outcome ≡ steps

method-there : (S : Signature) (number : Naming) (L : ℕ) (node : Node) (m : Member) (x at : ℕ) (c : Constructor) (steps : List Step) (end : Term)
    → IsBranch S node m x at c steps → height (split_method S number L node m x at c steps end) ≤ 2000
    → method_made S number L node m x at c steps end ≡ Ok (split_method S number L node m x at c steps end)
method-there S number L node m x at c steps end is low =
    let s = branch_standing node m x at c in
    let parts = method-low S number L node m x at c steps end is.even low in
    ap (λ (r : Result Standing Stop). and_then r (λ s. and_then (run_made S number L end steps s) (λ inner. Ok (method_with m c s inner)))) parts.standing
    ∙ ap (λ (r : Result Term Stop). and_then r (λ inner. Ok (method_with m c s inner)))
    (transport (λ steps. height (run_term S number L end steps s) ≤ 2000 → run_made S number L end steps s ≡ Ok (run_term S number L end steps s))
    is.steps_same (run-answers S is.problem is.outcome s number L end is.run) parts.inner)

-- the branches from a constructor on
data AreBranches (S : Signature) (node : Node) (m : Member) (x : ℕ) : (at : ℕ) → List Constructor → List (List Step) → Type 0 where
  no_branch : {at : ℕ} → AreBranches S node m x at [] []
  branch : {at : ℕ} {c : Constructor} {cs : List Constructor} {steps : List Step} {runs : List (List Step)} → IsBranch S node m x at c steps
      → AreBranches S node m x (at + 1) cs runs → AreBranches S node m x at (c ∷ cs) (steps ∷ runs)

methods-there : (S : Signature) (number : Naming) (L : ℕ) (node : Node) (m : Member) (x : ℕ) (head : Term) (at : ℕ) (cs : List Constructor)
    (runs : List (List Step)) (ends : List Term) → AreBranches S node m x at cs runs → AreLow (split_methods S number L node m x at cs runs ends)
    → with_methods head S number L node m x at cs runs ends ≡ Ok (applied head (split_methods S number L node m x at cs runs ends))
methods-there S number L node m x head at _ _ ends no_branch low = refl
methods-there S number L node m x head at (c ∷ cs) (steps ∷ runs) ends (branch is rest) low =
    let others = cond (is_absurd steps) ends (behind_first ends) in
    ap (λ (r : Result Term Stop). and_then r (λ method. with_methods (App head method) S number L node m x (at + 1) cs runs others))
    (method-there S number L node m x at c steps (first_of ends) is low.0)
    ∙ methods-there S number L node m x (App head (split_method S number L node m x at c steps (first_of ends))) (at + 1) cs runs others rest low.1

-- ---- the whole

member-there : (S : Signature) (number : Naming) (L : ℕ) (node : Node) (m : Member) (x : ℕ) (runs : List (List Step)) (ends : List Term)
    → length m.indices ≡ length m.family.indices → (length m.family.indices + 1 ≤ 1000 → AreBranches S node m x 0 m.family.constructors runs)
    → height (split_member S number L node m x runs ends) ≤ 2000
    → split_member_made S number L node m x runs ends ≡ Ok (split_member S number L node m x runs ends)
member-there S number L node m x runs ends same branches low =
    let cs = m.family.constructors in
    let us = scrutinee m x in
    let refls = reflexivities (family_items m.n m.family m.parameters) us in
    let motive = split_motive node m x in
    let methods = split_methods S number L node m x 0 cs runs ends in
    let parts = split-low node m x (number (case_name m.family L)) methods same low in
    let after : Result Term Stop → Result Term Stop = λ r.
    and_then r (λ motive. and_then (with_methods (split_head number L m motive) S number L node m x 0 cs runs ends) (split_end m x)) in
    ap after (motive-there node m x same parts.few parts.motive)
    ∙ (ap (λ (r : Result Term Stop). and_then r (split_end m x))
    (methods-there S number L node m x (split_head number L m motive) 0 cs runs ends (branches parts.few) parts.methods_low)
    ∙ (end-there m x (applied (split_head number L m motive) methods) same parts.few parts.refls
    ∙ ap (λ t. Ok t) (in-parts (Const (number (case_name m.family L))) motive m.parameters methods us refls)))

-- the constructors from a number on
abbrev StandFrom : Member → (at : ℕ) → List Constructor → Type 0
StandFrom m at cs = (i : ℕ) (c : Constructor) → slice_get cs i ≡ Some c → slice_get m.family.constructors (at + i) ≡ Some c

-- A split of variable x of a whole context, with its reduced type: variable y of what is seen, of the reduced type, which is m.
pub record IsSplitOver (S : Signature) (node : Node) (x : ℕ) (type : Term) (seen : Telescope) (y : ℕ) (reduced : Term) (m : Member) : Type 0 where
  pub ready : IsReady S
  pub is_seen : IsSeen node.context node.hidden seen
  pub hidden : AreBelow (length node.context) node.hidden
  pub inside : y < length seen
  pub variable : x ≡ widened_number (length node.context) node.hidden y
  pub type_seen : type ≡ widened (length node.context) node.hidden reduced
  pub is_member : member_of S reduced ≡ Some m
  pub context_scoped : IsScopedTelescope S 0 seen
  pub reduced_scoped : IsScoped S (length seen) reduced

-- the member over the whole context
abbrev pub whole_of : Node → Member → Member
whole_of node m = member_under (widening (length node.context) node.hidden) m

pub whole-member : (S : Signature) (node : Node) (x : ℕ) (type : Term) (seen : Telescope) (y : ℕ) (reduced : Term) (m : Member)
    → IsSplitOver S node x type seen y reduced m → member_of S type ≡ Some (whole_of node m)
whole-member S node x type seen y reduced m is =
    ap (member_of S) (is.type_seen ∙ widened-is (length node.context) node.hidden reduced)
    ∙ member-instance S (widening (length node.context) node.hidden) reduced m is.is_member

-- the run of a constructor
pub branch-run : (S : Signature) (node : Node) (x : ℕ) (type : Term) (seen : Telescope) (y : ℕ) (reduced : Term) (m : Member)
    → IsSplitOver S node x type seen y reduced m → (at : ℕ) (c : Constructor) (outcome : Outcome) → slice_get m.family.constructors at ≡ Some c
    → Runs S (problem_of seen y m at c) outcome → IsRun S (problem_of seen y m at c) outcome (branch_standing node (whole_of node m) x at c)
branch-run S node x type seen y reduced m is at c outcome there run = record {
  ready = is.ready;
  scoped = problem-scoped S seen y m at c is.ready is.context_scoped is.inside (member-in S (length seen) reduced m is.reduced_scoped is.is_member) there;
  runs = run;
  widens = branch-widens S node x y seen type reduced (whole_of node m) m at c is.is_seen is.hidden is.inside is.variable is.type_seen is.is_member
      (whole-member S node x type seen y reduced m is);
}

pub branch-there : (S : Signature) (node : Node) (x : ℕ) (type : Term) (seen : Telescope) (y : ℕ) (reduced : Term) (m : Member)
    → IsSplitOver S node x type seen y reduced m → length m.family.indices + 1 ≤ 1000 → (at : ℕ) (c : Constructor) (steps : List Step) (outcome : Outcome)
    → slice_get m.family.constructors at ≡ Some c → Runs S (problem_of seen y m at c) outcome → IsEnd steps outcome
    → IsBranch S node (whole_of node m) x at c steps
branch-there S node x type seen y reduced m is few at c steps outcome there run end =
    let here = whole-member S node x type seen y reduced m is in
    record {
      even =
          problem-even S node.context x (whole_of node m) at c is.ready (member-entry S type (whole_of node m) here) there
          (member-count S type (whole_of node m) here) few;
      problem = problem_of seen y m at c;
      outcome = outcome;
      run = branch-run S node x type seen y reduced m is at c outcome there run;
      steps_same = end-steps steps outcome end;
    }

branches-there : (S : Signature) (node : Node) (x : ℕ) (type : Term) (seen : Telescope) (y : ℕ) (reduced : Term) (m : Member)
    → IsSplitOver S node x type seen y reduced m → length m.family.indices + 1 ≤ 1000 → (at : ℕ) (cs : List Constructor) (runs : List (List Step))
    → StandFrom m at cs → AreRuns S seen y m at cs runs → AreBranches S node (whole_of node m) x at cs runs
branches-there S node x type seen y reduced m is few at _ _ stand none = no_branch
branches-there S node x type seen y reduced m is few at (c ∷ cs) (steps ∷ runs) stand (more outcome run end rest) =
    branch
    (branch-there S node x type seen y reduced m is few at c steps outcome
    (let e : at + 0 ≡ at = omega arith in transport (λ i. slice_get m.family.constructors i ≡ Some c) e (stand 0 c refl)) run end)
    (branches-there S node x type seen y reduced m is few (at + 1) cs runs
    (λ i c e. (let f : at + suc i ≡ at + 1 + i = omega arith in transport (λ j. slice_get m.family.constructors j ≡ Some c) f (stand (suc i) c e))) rest)

-- that of a split node
split-over : (S : Signature) (node : Node) (x : ℕ) (type : Term) (runs : List (List Step)) (is : IsRunSplit S node x type runs)
    → IsSplitOver S node x type is.split.seen is.split.y is.split.reduced is.split.member
split-over S node x type runs is = record {
  ready = is.ready;
  is_seen = is.split.is_seen;
  hidden = is.hidden;
  inside = is.split.inside;
  variable = is.split.variable;
  type_seen = is.split.type_seen;
  is_member = is.split.is_member;
  context_scoped = is.split.context_scoped;
  reduced_scoped = is.split.reduced_scoped;
}

all-branches : (S : Signature) (node : Node) (x : ℕ) (type : Term) (runs : List (List Step)) (is : IsRunSplit S node x type runs)
    → length is.split.member.family.indices + 1 ≤ 1000
    → AreBranches S node (whole_of node is.split.member) x 0 is.split.member.family.constructors runs
all-branches S node x type runs is few =
    branches-there S node x type is.split.seen is.split.y is.split.reduced is.split.member (split-over S node x type runs is) few 0
    is.split.member.family.constructors runs
    (λ i c e. (let f : i ≡ 0 + i = omega arith in transport (λ j. slice_get is.split.member.family.constructors j ≡ Some c) f e)) is.split.are_runs

-- the member of the whole context
run-member : (S : Signature) (node : Node) (x : ℕ) (type : Term) (runs : List (List Step)) (is : IsRunSplit S node x type runs)
    → member_of S type ≡ Some (whole_of node is.split.member)
run-member S node x type runs is =
    whole-member S node x type is.split.seen is.split.y is.split.reduced is.split.member (split-over S node x type runs is)

-- the type that is split is low
pub type-low : (S : Signature) (number : Naming) (L : ℕ) (node : Node) (m : Member) (x : ℕ) (type : Term) (runs : List (List Step)) (ends : List Term)
    → member_of S type ≡ Some m → height (split_member S number L node m x runs ends) ≤ 2000 → member_made S type ≡ Ok (Some m)
type-low S number L node m x type runs ends here low =
    let le =
    type-below m.n (number (case_name m.family L)) m.parameters m.indices (split_motive node m x)
    (split_methods S number L node m x 0 m.family.constructors runs ends) x (reflexivities (family_items m.n m.family m.parameters) (scrutinee m x)) in
    let e : height type ≡ height (applied (Fam m.n) (m.parameters ++ m.indices)) = ap height (member-type S type m here) in
    ap (λ b. cond {A = Result (Option Member) Stop} b (Ok (member_of S type)) (Err Deep)) (height-low type (omega arith)) ∙ ap (λ o. Ok o) here

pub split-answers : SplitAnswers
split-answers S number L node x type runs ends is low =
    let m = whole_of node is.split.member in
    let here = run-member S node x type runs is in
    let term : Member → Term = λ m. split_member S number L node m x runs ends in
    let low' : height (split_member S number L node m x runs ends) ≤ 2000 = transport (λ o. height (on_member o term) ≤ 2000) here low in
    ap (λ (r : Result (Option Member) Stop). and_then r (split_option_made S number L node x runs ends))
    (type-low S number L node m x type runs ends here low')
    ∙ (member-there S number L node m x runs ends (member-count S type m here) (all-branches S node x type runs is) low'
    ∙ sym (ap (λ o. Ok (on_member o term)) here))

-- ---- names

abbrev IsThere : Result (List (List ℕ)) Stop → Type 0
IsThere r = (all : List (List ℕ)) × (r ≡ Ok all)

branch-names : (S : Signature) (number : Naming) (L : ℕ) (node : Node) (m : Member) (x at : ℕ) (c : Constructor) (steps : List Step) (end : Term)
    (names : List (List ℕ)) → IsBranch S node m x at c steps → height (split_method S number L node m x at c steps end) ≤ 2000
    → IsThere (branch_names_made S L node m x at c steps names)
branch-names S number L node m x at c steps end names is low =
    let s = branch_standing node m x at c in
    let parts = method-low S number L node m x at c steps end is.even low in (
      names ++ run_names S L steps s,
      ap (λ (r : Result Standing Stop). and_then r (λ s. run_names_made S L steps s names)) parts.standing
          ∙ transport (λ steps. run_names_made S L steps s names ≡ Ok (names ++ run_names S L steps s)) is.steps_same
          (run_names-answer S is.problem is.outcome s L names is.run),
    )

methods-names : (S : Signature) (number : Naming) (L : ℕ) (node : Node) (m : Member) (x at : ℕ) (cs : List Constructor) (runs : List (List Step))
    (ends : List Term) (names : List (List ℕ)) → AreBranches S node m x at cs runs → AreLow (split_methods S number L node m x at cs runs ends)
    → IsThere (methods_names_made S L node m x at cs runs names)
methods-names S number L node m x at _ _ ends names no_branch low = (names, refl)
methods-names S number L node m x at (c ∷ cs) (steps ∷ runs) ends names (branch is rest) low =
    let first = branch-names S number L node m x at c steps (first_of ends) names is low.0 in
    let others =
    methods-names S number L node m x (at + 1) cs runs (cond (is_absurd steps) ends (behind_first ends)) first.0 rest low.1 in
    (others.0, ap (λ (r : Result (List (List ℕ)) Stop). and_then r (methods_names_made S L node m x (at + 1) cs runs)) first.1 ∙ others.1)

pub split_names-answer : SplitNamesAnswer
split_names-answer S number L node x type runs ends names is low =
    let m = whole_of node is.split.member in
    let here = run-member S node x type runs is in
    let term : Member → Term = λ m. split_member S number L node m x runs ends in
    let low' : height (split_member S number L node m x runs ends) ≤ 2000 = transport (λ o. height (on_member o term) ≤ 2000) here low in
    let parts =
    split-low node m x (number (case_name m.family L)) (split_methods S number L node m x 0 m.family.constructors runs ends) (member-count S type m here) low'
    in
    let made =
    methods-names S number L node m x 0 m.family.constructors runs ends (names ++ case_name m.family L ∷ []) (all-branches S node x type runs is parts.few)
    parts.methods_low in
    let whole =
    ap (λ (r : Result (Option Member) Stop). and_then r (member_names_made S L node x runs names)) (type-low S number L node m x type runs ends here low')
    ∙ made.1 in
    whole ∙ ap (λ all. Ok all) (split_names-are_these S L node x type runs names made.0 whole)
