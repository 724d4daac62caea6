-- What is found at a split of the tree is what the code finds there.
use Rattle.std.proofs.Common.{◌≡◌, ◌≢◌, ℕ, ◌==◌, Bool, true, false, cond, Option, Some, None, IfOk, IfSome, option_map, option_and_then, Result, Ok, Err, length, drop, refl, sym, ap, ◌∙◌}
use Rattle.std.proofs.lemmas.Bool.Decides.{Decides-eqb}
use Rattle.std.proofs.lemmas.List.{length-map}
use Rattle.theory.specs.Spines.{spine_of}
use Rattle.theory.specs.Terms.{Term}
use Rattle.theory.specs.Signatures.{Signature}
use Rattle.theory.specs.SignatureScopes.{IsScoped}
use Rattle.core_terms.specs.Answers.{Gives, IsUnforeseen}
use Rattle.core_terms.specs.Meanings.{tree_of, tele_of}
use Rattle.core_terms.specs.declared.stop.Stop.{Stop}
use Rattle.core_terms.proofs.Answers.{stands-has}
use Rattle.kernel_reduce.specs.WellScoped.{AreScoped}
use Rattle.kernel_reduce.proofs.WellScoped.{scoped-all}
use Rattle.unification.specs.Built as pure
use Rattle.unification.specs.Built.{built_of}
use Rattle.problems.specs.CodeBuilt.{IfThere, IsBuiltAs}
use Rattle.problems.specs.declared.built.Built.{Built}
use Rattle.problems.proofs.BuiltCodes.{code-of, from_code, of-built}
use Rattle.case_trees.proofs.ScopedPoints.{built-parts}
use Rattle.proof_walks.specs.NodeWalks.{Met, met_as, met_in, met_from}
use Rattle.proof_walks.specs.WalkMeanings.{met_of}
use Rattle.proof_walks.specs.declared.nodes.Met as code

-- ---- a constructor

module _ (S : Signature) (n : ℕ) (w : Term) (b : Built) (there : IfThere (IsBuiltAs b) (built_of S w)) where
  whole : built_of S w ≡ Some (from_code b w)
  whole = of-built S w b (code-of S w b there)

  by-test : (test : Bool) → (b.family == n) ≡ test
      → met_in S n w ≡ cond test (Some (record { number = b.number; arguments = drop (length (tele_of b.record.now.params)) (spine_of w) })) None
  by-test test e =
      ap (option_and_then (met_as n)) whole
      ∙ ap (λ test. cond {A = Option Met} test (Some (record { number = b.number; arguments = drop (length (tele_of b.record.now.params)) (spine_of w) })) None) e

  -- it is of another family
  pub met-other : b.family ≢ n → ◌≡◌ {A = Result (Option Met) Stop} (Ok None) (Ok (met_in S n w))
  met-other other = ap Ok (sym (by (b.family == n) refl))
    where
      by : (test : Bool) → (b.family == n) ≡ test → met_in S n w ≡ None
      by true e = absurd (other ((Decides-eqb b.family n).0 e))
      by false e = by-test false e

  pub met-own : (count : ℕ) (met : Met) → b.family ≡ n → count ≡ length b.record.now.params → ◌≡◌ {A = Result Met Stop} (Ok met) (Ok (met_from b.number count w))
      → ◌≡◌ {A = Result (Option Met) Stop} (Ok (Some met)) (Ok (met_in S n w))
  met-own count met own same is =
      ap (λ (r : Result Met Stop). is-there r) is
      ∙ (ap (λ k. Ok (Some (met_from b.number k w))) (same ∙ sym (length-map b.record.now.params tree_of))
      ∙ ap Ok (sym (by-test true ((Decides-eqb b.family n).1 own))))
    where
      is-there : Result Met Stop → Result (Option Met) Stop
      is-there (Ok met) = Ok (Some met)
      is-there (Err e) = Err e

met-scoped : (S : Signature) (n m : ℕ) (w : Term) → IsScoped S m w → IfSome (met_in S n w) (λ met. AreScoped S m met.arguments)
met-scoped S n m w h = by (built_of S w) refl
  where
    test : (b : pure.Built) (t : Bool) → built_of S w ≡ Some b
        → IfSome (cond {A = Option Met} t (Some (record { number = b.number; arguments = b.arguments })) None) (λ met. AreScoped S m met.arguments)
    test b true e = scoped-all S m b.arguments (built-parts S m w b h e).arguments
    test b false e = tt

    by : (o : Option pure.Built) → built_of S w ≡ o → IfSome (option_and_then (met_as n) o) (λ met. AreScoped S m met.arguments)
    by None e = tt
    by (Some b) e = test b (b.n == n) e

each-met : (P : Met → Type 0) (o : Option code.Met) → IfSome (option_map met_of o) P → IfSome o (λ met. P (met_of met))
each-met P None h = tt
each-met P (Some met) h = h

each-answer : (P : Met → Type 0) (r : Result (Option code.Met) Stop) → IfOk r (λ o. IfSome (option_map met_of o) P) → IfOk r (λ o. IfSome o (λ met. P (met_of met)))
each-answer P (Ok o) h = each-met P o h
each-answer P (Err e) h = tt

-- the arguments of the constructor that a scoped term is found to be
pub arguments-scoped : (S : Signature) (n m : ℕ) (w : Term) (r : Result (Option code.Met) Stop) → IsScoped S m w → Gives (option_map met_of) r (Ok (met_in S n w))
    → IfOk r (λ found. IfSome found (λ met. AreScoped S m (tele_of met.arguments)))
arguments-scoped S n m w r h answer =
    each-answer (λ met. AreScoped S m met.arguments) r
    (stands-has IsUnforeseen (λ e. e) (option_map met_of) (λ o. IfSome o (λ met. AreScoped S m met.arguments)) r (Ok (met_in S n w)) answer (met-scoped S n m w h))
