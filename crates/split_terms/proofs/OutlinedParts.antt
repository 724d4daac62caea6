-- The parts of a split that are made around others, which come in outline.
use Rattle.std.proofs.Common.{◌≡◌, ℕ, Bool, true, false, cond, Result, Ok, Err, List, refl, sym, ap, ◌∙◌}
use Rattle.theory.specs.Families.{Constructor}
use Rattle.theory.specs.Signatures.{Signature}
use Rattle.theory.specs.Telescopes.{Telescope, applied, functions}
use Rattle.theory.specs.Terms.{Term, Sort}
use Rattle.core_terms.specs.Answers.{and_then}
use Rattle.core_terms.specs.CaseTrees.{Step}
use Rattle.core_terms.specs.declared.stop.Stop.{Stop}
use Rattle.unification.specs.Records.{family_items}
use Rattle.case_trees.specs.Problems.{Member}
use Rattle.tree_translation.specs.Naming.{Naming}
use Rattle.tree_translation.specs.RunTerms.{no_term}
use Rattle.tree_translation.specs.Splits.{Node, first_of, is_absurd, is_last, scrutinee}
use Rattle.tree_translation.specs.Standings.{Standing}
use Rattle.run_terms.specs.outlines.Later.{at_head, in_body, with_later}
use Rattle.run_terms.specs.Made.{reflexivities_made}
use Rattle.split_terms.specs.CodeRunTerms.{run_made, step_made}
use Rattle.split_terms.specs.CodeSplits.{method_made, method_with, split_end, standing_made}
use Rattle.split_terms.proofs.LaterSteps.{absurd-run, alike, at-arguments, in-functions, mapped, step-around}

-- ---- a step

module _ (S : Signature) (number : Naming) (L : ℕ) (s : Standing) (step : Step) (next : Standing) (N : Term) where
  pub step-deep : (e : Stop) → ◌≡◌ {A = Result Term Stop} (Err e) (step_made S number L s step next (Sort 0))
      → ◌≡◌ {A = Result Term Stop} (Err e) (step_made S number L s step next N)
  step-deep e h =
      ap (λ r. and_then r (λ t. Ok (cond (is_last step.rule) t (with_later t N)))) h ∙ sym (step-around S number L s step next N)

  step-made : (t : Term) → ◌≡◌ {A = Result Term Stop} (Ok t) (step_made S number L s step next (Sort 0))
      → ◌≡◌ {A = Result Term Stop} (Ok (cond (is_last step.rule) t (with_later t N))) (step_made S number L s step next N)
  step-made t h =
      ap (λ r. and_then r (λ t. Ok (cond (is_last step.rule) t (with_later t N)))) h ∙ sym (step-around S number L s step next N)

  pub step-later : (t : Term) → ◌≡◌ {A = Result Term Stop} (Ok t) (step_made S number L s step next (Sort 0)) → is_last step.rule ≡ false
      → ◌≡◌ {A = Result Term Stop} (Ok (with_later t N)) (step_made S number L s step next N)
  step-later t h last = sym (ap (λ b. Ok (cond b t (with_later t N))) last) ∙ step-made t h

-- ---- a method

pub method-body : (tele more : Telescope) (N : Term) → in_body (functions tele (functions more (Sort 0))) N ≡ functions tele (functions more N)
method-body tele more N =
    in-functions tele (functions more (Sort 0)) N ∙ ap (functions tele) (in-functions more (Sort 0) N)

-- an absurd run reads no end
pub method-end : (S : Signature) (number : Naming) (L : ℕ) (node : Node) (m : Member) (x at : ℕ) (c : Constructor) (steps : List Step) (ends : List Term)
    → ◌≡◌ {A = Result Term Stop} (method_made S number L node m x at c steps (cond (is_absurd steps) no_term (first_of ends)))
    (method_made S number L node m x at c steps (first_of ends))
method-end S number L node m x at c steps ends = by (is_absurd steps) refl
  where
    by : (b : Bool) → is_absurd steps ≡ b
        → ◌≡◌ {A = Result Term Stop} (method_made S number L node m x at c steps (cond b no_term (first_of ends)))
        (method_made S number L node m x at c steps (first_of ends))
    by true e =
        alike (standing_made node m x at c)
        (λ s. and_then (run_made S number L no_term steps s) (λ inner. Ok (method_with m c s inner)))
        (λ s. and_then (run_made S number L (first_of ends) steps s) (λ inner. Ok (method_with m c s inner)))
        (λ s. ap (λ r. and_then r (λ inner. Ok (method_with m c s inner))) (absurd-run S number L no_term (first_of ends) steps s e))
    by false e = refl

pub method-taken : (S : Signature) (number : Naming) (L : ℕ) (node : Node) (m : Member) (x at : ℕ) (c : Constructor) (steps : List Step) (ends : List Term)
    (end : Term) → end ≡ cond (is_absurd steps) no_term (first_of ends)
    → ◌≡◌ {A = Result Term Stop} (method_made S number L node m x at c steps end) (method_made S number L node m x at c steps (first_of ends))
method-taken S number L node m x at c steps ends end e =
    ap (method_made S number L node m x at c steps) e ∙ method-end S number L node m x at c steps ends

-- ---- the end of a split

end-around : (m : Member) (x : ℕ) (N : Term)
    → ◌≡◌ {A = Result Term Stop} (split_end m x N) (and_then (split_end m x (Sort 0)) (λ t. Ok (at_head t N)))
end-around m x N =
    mapped (reflexivities_made (family_items m.n m.family m.parameters) (scrutinee m x))
    (λ refls. applied (applied N (scrutinee m x)) refls)
    (λ refls. applied (applied (Sort 0) (scrutinee m x)) refls)
    (λ t. at_head t N)
    (λ refls.
    sym (at-arguments (applied (Sort 0) (scrutinee m x)) refls N ∙ ap (λ h. applied h refls) (at-arguments (Sort 0) (scrutinee m x) N)))

pub end-next : (m : Member) (x : ℕ) (N t : Term) → ◌≡◌ {A = Result Term Stop} (Ok t) (split_end m x (Sort 0))
    → ◌≡◌ {A = Result Term Stop} (Ok (at_head t N)) (split_end m x N)
end-next m x N t h = ap (λ r. and_then r (λ t. Ok (at_head t N))) h ∙ sym (end-around m x N)
