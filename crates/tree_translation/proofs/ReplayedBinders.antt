-- Replaying keeps apart the binders of a standing's variables.
use Rattle.std.proofs.Common.{◌≡◌, ◌⊎◌, inl, inr, ℕ, ◌+◌, ◌<◌, ◌≤◌, Option, Some, None, List, [], ◌∷◌, ◌++◌, length, map, get_or, slice_get, All, refl, sym, ap, ap₂, ◌∙◌, subst, arith}
use Rattle.std.proofs.lemmas.List.{length-append, length-map}
use Rattle.theory.specs.Terms.{Term}
use Rattle.theory.specs.Signatures.{Signature}
use Rattle.core_terms.specs.CaseTrees.{Step}
use Rattle.core_terms.specs.declared.case_tree.Rule.{Rule}
use Rattle.core_terms.specs.declared.case_tree.Rule.TheVariants.{SolveRight, SolveLeft, Inject, Conflict, Cycle, Delete}
use Rattle.unification.specs.States.{State}
use Rattle.unification.specs.Rules.{level_of}
use Rattle.unification.specs.Occurrences.{dependants, order_without}
use Rattle.unification.specs.Solving.{solved}
use Rattle.unification.proofs.SolvedContexts.{length-new_context}
use Rattle.case_trees.proofs.SolvedOrders.{split-place}
use Rattle.tree_translation.specs.Standings.{Standing, inside, levels_from}
use Rattle.tree_translation.specs.Comparisons.{Comparison, compared}
use Rattle.tree_translation.specs.Replays.{kept, solved_standing, injected_standing, deleted_standing, unless_compared, behind_rule, behind_step, behind_run, step_in}
use Rattle.tree_translation.specs.Laws.{StandsApart, ReplayStandsApart}
use Rattle.tree_translation.proofs.LevelLists.{there-get, there-below, get-there, map-there, at-among, from-each, from-without, from-apart, length-levels, levels-at, each-below, without-among}

-- the levels of kept variables are below the context's length
kept-below : (s : State) (p k j : ℕ) → slice_get (kept s p) k ≡ Some j → j < length s.context
kept-below s p k j e =
    let r = without-among (p ∷ dependants s.context p) (levels_from 0 (length s.context)) j (at-among (kept s p) k j e) in
    let low : j < 0 + length s.context = each-below 0 (length s.context) j r.0 in
    omega arith

-- a kept variable with the level of its binder
record IsKept (s : Standing) (p k level : ℕ) : Type 0 where
  pub j : ℕ
  pub there : slice_get (kept s.state p) k ≡ Some j
  pub bound : slice_get s.variables j ≡ Some level

kept-is : (s : Standing) (p k level : ℕ) → length s.variables ≡ length s.state.context
    → slice_get (map (λ j. get_or s.variables j 0) (kept s.state p)) k ≡ Some level → IsKept s p k level
kept-is s p k level whole e =
    let r = map-there (λ j. get_or s.variables j 0) (kept s.state p) k level e in
    let low : r.source < length s.state.context = kept-below s.state p k r.source r.there in
    record {
      j = r.source;
      there = r.there;
      bound = there-get s.variables r.source 0 (omega arith) ∙ ap Some r.same;
    }

level-below : (n : ℕ) (levels : List ℕ) (k level : ℕ) → All (λ l. l < n) levels → slice_get levels k ≡ Some level → level < n
level-below n levels k level all e = subst (λ l. l < n) (get-there levels k level 0 e) (all k 0 (there-below levels k level e))

all-below : (n : ℕ) (levels : List ℕ) → ((k level : ℕ) → slice_get levels k ≡ Some level → level < n) → All (λ l. l < n) levels
all-below n levels h k d within = h k (get_or levels k d) (there-get levels k d within)

solved-apart : (s : Standing) (x : ℕ) (A u : Term) → StandsApart s → StandsApart (solved_standing s x A u)
solved-apart s x A u h = record {
  whole = length-append fixed (levels_from (inside s) moved)
      ∙ (ap₂ ◌+◌ (length-map (kept s.state p) (λ j. get_or s.variables j 0)) (length-levels (inside s) moved)
      ∙ (sym (length-append (kept s.state p) (dependants s.state.context p))
      ∙ sym (length-new_context s.state.context (solved (length s.state.context) (order_without s.state.context p) p u) 0 (order_without s.state.context p))));
  bound = all-below (inside s + moved) all (λ k level e. below level (split-place fixed (levels_from (inside s) moved) k level e));
  apart = λ i j level e f. same i j level (split-place fixed (levels_from (inside s) moved) i level e) (split-place fixed (levels_from (inside s) moved) j level f);
}
  where
    p : ℕ
    p = level_of (length s.state.context) x

    moved : ℕ
    moved = length (dependants s.state.context (level_of (length s.state.context) x))

    fixed : List ℕ
    fixed = map (λ j. get_or s.variables j 0) (kept s.state (level_of (length s.state.context) x))

    all : List ℕ
    all = map (λ j. get_or s.variables j 0) (kept s.state (level_of (length s.state.context) x))
        ++ levels_from (inside s) (length (dependants s.state.context (level_of (length s.state.context) x)))

    IsOne : ℕ → ℕ → Type 0
    IsOne k level = (slice_get fixed k ≡ Some level) ⊎ ((i : ℕ) × (k ≡ length fixed + i) × (slice_get (levels_from (inside s) moved) i ≡ Some level))

    low : (k level : ℕ) → slice_get fixed k ≡ Some level → level < s.depth
    low k level e = let r = kept-is s p k level h.whole e in level-below s.depth s.variables r.j level h.bound r.bound

    high : (i level : ℕ) → slice_get (levels_from (inside s) moved) i ≡ Some level → (level ≡ inside s + i) × (i < moved)
    high i level e = levels-at (inside s) moved i level e

    below : {k : ℕ} (level : ℕ) → (slice_get fixed k ≡ Some level) ⊎ ((i : ℕ) × (k ≡ length fixed + i) × (slice_get (levels_from (inside s) moved) i ≡ Some level))
        → level < inside s + moved
    below {k} level (inl e) = let less : level < s.depth = low k level e in omega arith
    below level (inr (i, place, e)) = let r = high i level e in let f : level ≡ inside s + i = r.0 in let g : i < moved = r.1 in omega arith

    same : (i j level : ℕ) → (slice_get fixed i ≡ Some level) ⊎ ((k : ℕ) × (i ≡ length fixed + k) × (slice_get (levels_from (inside s) moved) k ≡ Some level))
        → (slice_get fixed j ≡ Some level) ⊎ ((k : ℕ) × (j ≡ length fixed + k) × (slice_get (levels_from (inside s) moved) k ≡ Some level)) → i ≡ j
    same i j level (inl e) (inl f) =
        let one = kept-is s p i level h.whole e in
        let other = kept-is s p j level h.whole f in
        from-apart 0 (kept s.state p) i j one.j
        (from-without 0 (p ∷ dependants s.state.context p) (levels_from 0 (length s.state.context)) (from-each 0 (length s.state.context)))
        one.there (other.there ∙ ap Some (h.apart other.j one.j level other.bound one.bound))
    same i j level (inl e) (inr (k, place, f)) =
        let less : level < s.depth = low i level e in let g : level ≡ inside s + k = (high k level f).0 in absurd (omega arith)
    same i j level (inr (k, place, e)) (inl f) =
        let less : level < s.depth = low j level f in let g : level ≡ inside s + k = (high k level e).0 in absurd (omega arith)
    same i j level (inr (k, place, e)) (inr (l, other, f)) =
        let g : level ≡ inside s + k = (high k level e).0 in let g' : level ≡ inside s + l = (high l level f).0 in omega arith

-- the context stays, and the binders are further in
deeper-apart : (s t : Standing) → length t.state.context ≡ length s.state.context → t.variables ≡ s.variables → s.depth ≤ t.depth
    → StandsApart s → StandsApart t
deeper-apart s t same variables deeper h = record {
  whole = ap length variables ∙ (h.whole ∙ sym same);
  bound = subst (λ levels. All (λ level. level < t.depth) levels) (sym variables)
      (λ k d within. let low : get_or s.variables k d < s.depth = h.bound k d within in omega arith);
  apart = λ i j level e f.
      h.apart i j level (ap (λ levels. slice_get levels i) (sym variables) ∙ e) (ap (λ levels. slice_get levels j) (sym variables) ∙ f);
}

compared-apart : (s : Standing) (g : ℕ) (o : Option Comparison) → StandsApart s → StandsApart (unless_compared s g o)
compared-apart s g None h = h
compared-apart s g (Some c) h = deeper-apart s (injected_standing s g c) refl refl (omega arith) h

rule-apart : (S : Signature) (s : Standing) (step : Step) (rule : Rule) → StandsApart s → StandsApart (behind_rule S s step rule)
rule-apart S s step (SolveRight x) h = solved-apart s x step.ty step.left h
rule-apart S s step (SolveLeft x) h = solved-apart s x step.ty step.right h
rule-apart S s step (Inject n c) h = compared-apart s step.group (compared S s.state step) h
rule-apart S s step (Conflict n c d) h = h
rule-apart S s step (Cycle x) h = h
rule-apart S s step Delete h = deeper-apart s (deleted_standing s step.ty step.left) refl refl (omega arith) h

run-apart : (S : Signature) (steps : List Step) (s : Standing) → StandsApart s → StandsApart (behind_run S steps s)
run-apart S [] s h = h
run-apart S (step ∷ steps) s h =
    run-apart S steps (behind_step S s step) (rule-apart S s (step_in s step) (step_in s step).rule h)

pub replay_stands_apart : ReplayStandsApart
replay_stands_apart S s t steps standing chain widens h = run-apart S steps standing h
