-- The names in the declaration of a decision, and what they stand for.
use Rattle.std.proofs.Common.{◌≡◌, ℕ, ◌<◌, List, [], length, Option, Some, None, Result, Ok, Err, refl, ap, ◌∙◌, arith}
use Rattle.theory.specs.Signatures.{Signature}
use Rattle.core_terms.specs.Answers.{and_then}
use Rattle.core_sig.specs.Names.{find}
use Rattle.core_sig.specs.declared.entry.Found.{Found}
use Rattle.core_sig.specs.declared.entry.Found.TheVariants.{Entry as FoundEntry, Con as FoundCon}
use Rattle.surface_syntax.specs.declared.tree.Word.{Word}
use Rattle.resolve.specs.Families.{declared}
use Rattle.resolve.specs.declared.stop.ResolveStop.{ResolveStop}
use Rattle.function_session.specs.decisions.Naming.{named, named_as, number_found, number_named}
use Rattle.function_session.proofs.equation_laws.LeftShowing.{ok-is}

-- the type of a value
abbrev type-of : {A : Type 0} → A → Type 0
type-of {A} a = A

-- the names of a declaration
abbrev pub Named : Type 0
Named = type-of (named_as [] 0 0)

-- the word stands for entry n
abbrev pub StandsFor : Signature → Word → ℕ → Type 0
StandsFor S x n = number_named S x ≡ Ok n

-- what the names of a decision stand for
pub record AreNamed (S : Signature) (family into : Word) (d : Named) : Type 0 where
  pub family_found : StandsFor S family d.family
  pub into_found : StandsFor S into d.into

pub are-named : (S : Signature) (x family into : Word) (d : Named) → named S x family into ≡ Ok d → AreNamed S family into d
are-named S x family into d is = by (declared S [] x) (number_named S family) refl (number_named S into) refl is
  where
    by : (own : Result (List ℕ) ResolveStop) (f : Result ℕ ResolveStop) → number_named S family ≡ f → (i : Result ℕ ResolveStop) → number_named S into ≡ i
        → and_then own (λ name. and_then f (λ n. and_then i (λ m. Ok (named_as name n m)))) ≡ Ok d → AreNamed S family into d
    by (Ok name) (Ok n) hf (Ok m) hi e =
        let same : named_as name n m ≡ d = ok-is e in
        record { family_found = hf ∙ ap (λ (k : Named). Ok k.family) same; into_found = hi ∙ ap (λ (k : Named). Ok k.into) same }
    by (Ok name) (Ok n) hf (Err e) hi is = absurd cc
    by (Ok name) (Err e) hf i hi is = absurd cc
    by (Err e) f hf i hi is = absurd cc

-- a word that stands for an entry of the signature is the name of this entry
pub entry-found : (S : Signature) (x : Word) (n : ℕ) → StandsFor S x n → n < length S.entries → find S x.text ≡ Some (FoundEntry n)
entry-found S x n is within = by (find S x.text) refl is
  where
    by : (found : Option Found) → find S x.text ≡ found → number_found S x found ≡ Ok n → find S x.text ≡ Some (FoundEntry n)
    by (Some (FoundEntry m)) h e = let same : m ≡ n = ok-is e in h ∙ ap (λ k. Some (FoundEntry k)) same
    by (Some (FoundCon m c)) h e = let last : length S.entries ≡ n = ok-is e in absurd (omega (arith, last, within))
    by None h e = absurd cc
