-- The checker is Deep where it is given a term higher than 2,000: at once, or for a type that is wanted once the term has a type.
use Rattle.std.proofs.Common.{◌≡◌, ℕ, zero, suc, ◌<◌, true, Ok, Err, refl, sym, ap, ◌∙◌, subst}
use Rattle.theory.specs.Terms.{Term, height}
use Rattle.theory.specs.Telescopes.{Context}
use Rattle.theory.specs.Signatures.{Signature}
use Rattle.core_terms.specs.Answers.{and_next}
use Rattle.core_terms.specs.Verdicts.{Yes}
use Rattle.core_terms.specs.declared.stop.Stop.TheVariants.{Deep}
use Rattle.kernel_reduce.specs.Comparison.{subtype_of}
use Rattle.kernel_reduce.specs.Reduction.{answered, whnf_of}
use Rattle.kernel_reduce.proofs.HighTerms.{if-high, subtype-high_second}
use Rattle.kernel_check.specs.Checking.{if_typed, sort_of, compared, infer_of, infer_sort_of, check_of}

module _ (S : Signature) where
  pub infer-high : (room : ℕ) (G : Context) (t : Term) (left : ℕ) → 2000 < height t → answered (Err Deep) left ≡ infer_of S room G t left
  infer-high zero G t left h = refl
  infer-high (suc room) G t left h = if-high t _ left h

  pub infer_sort-high : (room : ℕ) (G : Context) (t : Term) (left : ℕ) → 2000 < height t → answered (Err Deep) left ≡ infer_sort_of S room G t left
  infer_sort-high zero G t left h = refl
  infer_sort-high (suc room) G t left h =
      ap (λ r. if_typed r (λ c rest. and_next (whnf_of S true rest c) (λ u end. answered (sort_of G u) end))) (infer-high room G t left h)

  pub check-high : (room : ℕ) (G : Context) (t wanted : Term) (left : ℕ) → 2000 < height t → answered (Err Deep) left ≡ check_of S room G t wanted left
  check-high zero G t wanted left h = refl
  check-high (suc room) G t wanted left h =
      ap (λ r. if_typed r (λ found rest. and_next (subtype_of S room found wanted rest) (λ holds end. answered (compared G found wanted holds) end))) (infer-high room G t left h)

  pub check-high_wanted : (room more : ℕ) (G : Context) (t wanted a : Term) (left rest : ℕ) → more ≡ suc room → 2000 < height wanted
      → answered (Ok (Yes a)) rest ≡ infer_of S room G t left → answered (Err Deep) rest ≡ check_of S more G t wanted left
  check-high_wanted room more G t wanted a left rest one h found =
      subst (λ n. answered (Err Deep) rest ≡ check_of S n G t wanted left) (sym one)
      (ap (λ r. and_next r (λ holds end. answered (compared G a wanted holds) end)) (subtype-high_second S room a wanted rest h)
      ∙ ap (λ r. if_typed r (λ b left. and_next (subtype_of S room b wanted left) (λ holds end. answered (compared G b wanted holds) end))) found)
