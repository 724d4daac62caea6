-- The walk at a split of the tree, by what the code finds there.
use Rattle.std.proofs.Common.{◌≡◌, ℕ, ◌==◌, Bool, true, false, cond, Option, Some, None, option_and_then, option_map, Result, Ok, Err, refl, sym, ap, ◌∙◌}
use Rattle.theory.specs.Terms.{Term}
use Rattle.theory.specs.Signatures.{Signature}
use Rattle.core_terms.specs.Answers.{Spent, and_next, on_answer}
use Rattle.core_terms.specs.declared.stop.Stop.{Stop}
use Rattle.kernel_reduce.specs.Reduction.{answered, whnf_of}
use Rattle.kernel_reduce.specs.Tidying.{tidy_of}
use Rattle.unification.specs.Built.{Built, built_of}
use Rattle.unification.specs.Solutions.{variable_in}
use Rattle.unification.specs.declared.why.Why.TheVariants.{NotRigid}
use Rattle.case_trees.specs.Problems.{Member, member_of, type_of_variable}
use Rattle.clause_reports.specs.ProofWalks.{Place, Proof, Walking, Branching, Splitting, value_at, stuck_at, at_member, at_variable, at_other, at_head, split_variable, take_branch}
use Rattle.clause_reports.specs.Stops.{Reporting, Halts, Stuck, or_halts, halting}
use Rattle.proof_walks.specs.NodeWalks.{Node, again, splitting_by, splitting, walk_node, Met, met_as, met_in, constructor_met, Variable, if_own, kept_own, own_member, variable_with, variable_at, variable_met}

-- ---- the constructor that is found

abbrev at_met : Signature → (n : ℕ) → (t : Term) → Branching → Splitting → Option Met → Walking
at_met S n t branch split None p left = at_other S n t split p left
at_met S n t branch split (Some met) p left = branch met.number met.arguments p left

module _ (S : Signature) (n : ℕ) (t : Term) (branch : Branching) (split : Splitting) (p : Place) where
  by-test : (b : Built) (test : Bool) (left : ℕ)
      → cond test (branch b.number b.arguments p left) (at_other S n t split p left)
      ≡ at_met S n t branch split (cond test (Some (record { number = b.number; arguments = b.arguments })) None) p left
  by-test b true left = refl
  by-test b false left = refl

  by-built : (o : Option Built) (left : ℕ) → at_head S n t branch split o p left ≡ at_met S n t branch split (option_and_then (met_as n) o) p left
  by-built None left = refl
  by-built (Some b) left = by-test b (b.n == n) left

  by-form : (r : Result Term Stop) (left : ℕ)
      → on_answer (or_halts r) left (λ w rest. at_head S n t branch split (built_of S w) p rest)
      ≡ and_next (halting (on_answer r left (λ w rest. answered (Ok (met_in S n w)) rest))) (λ met rest. at_met S n t branch split met p rest)
  by-form (Err e) left = refl
  by-form (Ok w) left = by-built (built_of S w) left

module _ (S : Signature) (node : Node) (p : Place) (t : Term) (left mid : ℕ) (is : t ≡ value_at p.values node.variable) where
  abbrev met-walk : Option Met → ℕ → Reporting Proof
  met-walk met rest = at_met S node.family t (take_branch S node.branches) (splitting S node t) met p rest

  node-form : and_next (halting (constructor_met S node.family t left)) met-walk ≡ walk_node S node p left
  node-form =
      sym (by-form S node.family t (take_branch S node.branches) (splitting S node t) p (whnf_of S true left t).0 (whnf_of S true left t).1)
      ∙ ap (λ u. and_next (halting (whnf_of S true left u)) (λ w rest.
      at_head S node.family u (take_branch S node.branches) (splitting S node u) (built_of S w) p rest)) is

  pub node-refused : (e : Stop) → ◌≡◌ {A = Spent (Option Met)} (Err e, mid) (constructor_met S node.family t left)
      → ◌≡◌ {A = Reporting Proof} (Err (Halts e), mid) (walk_node S node p left)
  node-refused e h = ap (λ r. and_next (halting r) met-walk) h ∙ node-form

  pub node-met : (met : Met) → ◌≡◌ {A = Spent (Option Met)} (Ok (Some met), mid) (constructor_met S node.family t left)
      → take_branch S node.branches met.number met.arguments p mid ≡ walk_node S node p left
  node-met met h = ap (λ r. and_next (halting r) met-walk) h ∙ node-form

  pub node-other : ◌≡◌ {A = Spent (Option Met)} (Ok None, mid) (constructor_met S node.family t left)
      → at_other S node.family t (splitting S node t) p mid ≡ walk_node S node p left
  node-other h = ap (λ r. and_next (halting r) met-walk) h ∙ node-form

-- ---- the variable that is found

module _ (S : Signature) (node : Node) (t : Term) (p : Place) where
  abbrev after-variable : Option Variable → ℕ → Reporting Proof
  after-variable None left = stuck_at t p left
  after-variable (Some v) left = split_variable S (walk_node S (again node)) v.number v.type v.member p left

  own-test : (x : ℕ) (type : Term) (m : Member) (test : Bool) (left : ℕ)
      → cond test (split_variable S (walk_node S (again node)) x type m p left) (stuck_at t p left)
      ≡ after-variable (option_map (variable_with x type) (cond test (Some m) None)) left
  own-test x type m true left = refl
  own-test x type m false left = refl

  no-test : (test : Bool) (left : ℕ) → cond test (stuck_at t p left) (stuck_at t p left) ≡ stuck_at t p left
  no-test true left = refl
  no-test false left = refl

  by-splits : (splits : Bool) (x : ℕ) (type : Term) (m : Member) (left : ℕ)
      → cond (m.n == node.family) (splitting_by S splits node t x type m p left) (stuck_at t p left)
      ≡ after-variable (option_map (variable_with x type) (if_own splits node.family m)) left
  by-splits true x type m left = own-test x type m (m.n == node.family) left
  by-splits false x type m left = no-test (m.n == node.family) left

  by-member : (splits : Bool) (x : ℕ) (type : Term) (o : Option Member) (left : ℕ)
      → at_member node.family t (splitting_by S splits node t) x type o p left
      ≡ after-variable (option_map (variable_with x type) (kept_own splits node.family o)) left
  by-member splits x type None left = refl
  by-member splits x type (Some m) left = by-splits splits x type m left

  by-type : (splits : Bool) (x : ℕ) (r : Result Term Stop) (left : ℕ)
      → on_answer (or_halts r) left (λ type rest. at_member node.family t (splitting_by S splits node t) x type (member_of S type) p rest)
      ≡ and_next (halting (on_answer r left (λ type rest. answered (Ok (option_map (variable_with x type) (own_member S splits node.family type))) rest))) after-variable
  by-type splits x (Err e) left = refl
  by-type splits x (Ok type) left = by-member splits x type (member_of S type) left

  by-variable : (splits : Bool) (o : Option ℕ) (left : ℕ)
      → at_variable S node.family t (splitting_by S splits node t) o p left ≡ and_next (halting (variable_at S splits node.family p.context o left)) after-variable
  by-variable splits None left = refl
  by-variable splits (Some x) left =
      by-type splits x (whnf_of S true left (type_of_variable p.context x)).0 (whnf_of S true left (type_of_variable p.context x)).1

  by-tidied : (splits : Bool) (r : Result Term Stop) (left : ℕ)
      → on_answer (or_halts r) left (λ u rest. at_variable S node.family t (splitting_by S splits node t) (variable_in u) p rest)
      ≡ and_next (halting (on_answer r left (λ u rest. variable_at S splits node.family p.context (variable_in u) rest))) after-variable
  by-tidied splits (Err e) left = refl
  by-tidied splits (Ok u) left = by-variable splits (variable_in u) left

  module _ (left mid : ℕ) where
    other-form : and_next (halting (variable_met S node.splits node.family p.context t left)) after-variable
        ≡ at_other S node.family t (splitting S node t) p left
    other-form = sym (by-tidied node.splits (tidy_of S left t).0 (tidy_of S left t).1)

    pub other-refused : (e : Stop) → ◌≡◌ {A = Spent (Option Variable)} (Err e, mid) (variable_met S node.splits node.family p.context t left)
        → ◌≡◌ {A = Reporting Proof} (Err (Halts e), mid) (at_other S node.family t (splitting S node t) p left)
    other-refused e h = ap (λ r. and_next (halting r) after-variable) h ∙ other-form

    pub other-variable : (v : Variable) → ◌≡◌ {A = Spent (Option Variable)} (Ok (Some v), mid) (variable_met S node.splits node.family p.context t left)
        → split_variable S (walk_node S (again node)) v.number v.type v.member p mid ≡ at_other S node.family t (splitting S node t) p left
    other-variable v h = ap (λ r. and_next (halting r) after-variable) h ∙ other-form

    pub other-stuck : ◌≡◌ {A = Spent (Option Variable)} (Ok None, mid) (variable_met S node.splits node.family p.context t left)
        → ◌≡◌ {A = Reporting Proof} (Err (Stuck p.context t t NotRigid), mid) (at_other S node.family t (splitting S node t) p left)
    other-stuck h = ap (λ r. and_next (halting r) after-variable) h ∙ other-form
