-- The walk that is made is that of the clause.
use Rattle.std.proofs.Common.{◌≡◌, ◌⊎◌, inl, inr, ℕ, zero, suc, Bool, true, false, ◌||◌, cond, is_none, Option, Some, None, option_and_then, Result, Ok, Err, List, refl, sym, ap, ◌∙◌}
use Rattle.theory.specs.Terms.{Term}
use Rattle.theory.specs.Telescopes.{Telescope}
use Rattle.theory.specs.Signatures.{Signature}
use Rattle.core_terms.specs.Answers.{and_next, and_then, are_low}
use Rattle.core_terms.specs.CaseTrees.{Tree, Walk}
use Rattle.core_terms.specs.declared.stop.Stop.{Stop}
use Rattle.core_terms.specs.declared.stop.Stop.TheVariants.{Deep}
use Rattle.tree_translation.specs.Plans.{Plan, own_part}
use Rattle.tree_translation.specs.Recursion.{recursion_at}
use Rattle.leaf_terms.specs.RecursionMade.{made_at}
use Rattle.clause_reports.specs.Equations.{Equation}
use Rattle.clause_reports.specs.ProofWalks.{Place, Proof, first_place, first_values, walk_of, walk_tree}
use Rattle.clause_reports.specs.Stops.{Reporting, answers, or_halts}
use Rattle.proof_walks.specs.Laws.{WalkAnswers, WalkIsMade}
use Rattle.proof_walks.specs.PlaceScopes.{is_scoped_place}
use Rattle.proof_walks.specs.Starts.{values_in_order, values_made, place_at, scoped_place, start_made}

-- ---- recursion

found-low : (S : Signature) (tele : Telescope) (position : Option ℕ) → (is_none position || are_low tele) ≡ true
    → made_at S tele position ≡ Ok (option_and_then (recursion_at S tele) position)
found-low S tele None e = refl
found-low S tele (Some j) e = rw e refl

found-high : (S : Signature) (tele : Telescope) (position : Option ℕ) → (is_none position || are_low tele) ≡ false
    → made_at S tele position ≡ Err Deep
found-high S tele None e = absurd (cc)
found-high S tele (Some j) e = rw e refl

module _ (S : Signature) (plan : Plan) (w : Walk) where
  abbrev is_low : Bool
  is_low = is_none plan.position || are_low (own_part plan).tele

  values-low : (k : ℕ) → is_low ≡ true → values_made S plan k w ≡ Ok (first_values S plan k w)
  values-low zero low = ap (λ found. and_then found (λ r. Ok (values_in_order plan w.terms r))) (found-low S (own_part plan).tele plan.position low)
  values-low (suc k) low = refl

  values-high : (k : ℕ) → is_low ≡ false → (values_made S plan k w ≡ Err Deep) ⊎ (values_made S plan k w ≡ Ok (first_values S plan k w))
  values-high zero high =
      inl (ap (λ found. and_then found (λ r. Ok (values_in_order plan w.terms r))) (found-high S (own_part plan).tele plan.position high))
  values-high (suc k) high = inr refl

  values-made : (k : ℕ) → (values_made S plan k w ≡ Err Deep) ⊎ (values_made S plan k w ≡ Ok (first_values S plan k w))
  values-made k = by is_low refl
    where
      by : (b : Bool) → is_low ≡ b → (values_made S plan k w ≡ Err Deep) ⊎ (values_made S plan k w ≡ Ok (first_values S plan k w))
      by true low = inr (values-low k low)
      by false high = values-high k high

  module _ (k : ℕ) (e : Equation) where
    abbrev from-values : Result (List Term) Stop → Result Place Stop
    from-values values = and_then values (λ values. scoped_place S (place_at e w.terms values))

    placed : (b : Bool) → is_scoped_place S (first_place S plan k w e) ≡ b → from-values (Ok (first_values S plan k w)) ≡ cond b (Ok (first_place S plan k w e)) (Err Deep)
    placed b same = ap (λ test. cond {A = Result Place Stop} test (Ok (first_place S plan k w e)) (Err Deep)) same

    place-made : (start_made S plan k w e ≡ Err Deep) ⊎ (start_made S plan k w e ≡ Ok (first_place S plan k w e))
    place-made = by (values-made k)
      where
        test : (b : Bool) → is_scoped_place S (first_place S plan k w e) ≡ b → values_made S plan k w ≡ Ok (first_values S plan k w)
            → (start_made S plan k w e ≡ Err Deep) ⊎ (start_made S plan k w e ≡ Ok (first_place S plan k w e))
        test true same made = inr (ap from-values made ∙ placed true same)
        test false same made = inl (ap from-values made ∙ placed false same)

        by : (values_made S plan k w ≡ Err Deep) ⊎ (values_made S plan k w ≡ Ok (first_values S plan k w))
            → (start_made S plan k w e ≡ Err Deep) ⊎ (start_made S plan k w e ≡ Ok (first_place S plan k w e))
        by (inl deep) = inl (ap from-values deep)
        by (inr made) = test (is_scoped_place S (first_place S plan k w e)) refl made

abbrev walk-from : Signature → Tree → ℕ → Result Place Stop → Reporting Proof
walk-from S t left start = and_next (answers (or_halts start) left) (λ p rest. walk_tree S t p rest)

pub walk-answers : WalkAnswers
walk-answers S plan k w e t left rest answer h other = by (place-made S plan w k e)
  where
    by : (start_made S plan k w e ≡ Err Deep) ⊎ (start_made S plan k w e ≡ Ok (first_place S plan k w e))
        → ◌≡◌ {A = Reporting Proof} (walk_of S plan k w e t left) (answer, rest)
    by (inl deep) = absurd (other (ap (λ (r : Reporting Proof). r.0) (sym h ∙ ap (walk-from S t left) deep)))
    by (inr made) = sym (ap (walk-from S t left) made) ∙ h

pub walk-is-made : WalkIsMade
walk-is-made S plan k w e t left low scoped =
    ap (walk-from S t left) (ap (from-values S plan w k e) (values-low S plan w k low) ∙ placed S plan w k e true scoped)
