-- The constructors of a family, as far as a loop along them has come.
use Rattle.std.proofs.Common.{◌≡◌, ℕ, ◌<◌, Ok, Err, List, [], ◌∷◌, ◌++◌, map, length, drop, get_or, ap, ap₂, sym, ◌∙◌, subst as transport, arith}
use Rattle.std.proofs.lemmas.List.{length-map, map-append}
use Rattle.theory.specs.Families.{Constructor, Family}
use Rattle.theory.specs.Signatures.{Signature}
use Rattle.core_terms.proofs.Lists.{map-item, count-more}
use Rattle.core_terms.proofs.Loops.{so_far, each-goes_on, each-stops}
use Rattle.core_sig.specs.Meanings.{constructor_of}
use Rattle.core_sig.specs.Raw.{raw_constructor_of}
use Rattle.core_sig.specs.declared.family.Constructor as code
use Rattle.core_sig.specs.declared.raw.RawCon.{RawCon}
use Rattle.family_check.specs.Families.{declare_constructor, declare_constructors}
use Rattle.family_check.specs.Outcomes.{FamilyStop, Outcome, ended}

module _ (S : Signature) (n : ℕ) (f : Family) (raws : List RawCon) (p : ℕ) (raw : RawCon) (left : ℕ) (made : List code.Constructor) (number : ℕ) (whole : Outcome (List Constructor))
    (before : whole ≡ so_far (map (constructor_of p) made) (declare_constructors S n f (length made) (drop (length made) (map raw_constructor_of raws)) left))
    (numbered : number ≡ length made) (lt : length made < length raws) (at : raw ≡ get_or raws (length made) raw) where
  -- the loop goes on,
  pub made-on : (more : List code.Constructor) (c : code.Constructor) (l : ℕ) → more ≡ made ++ c ∷ []
      → ended (Ok (constructor_of p c)) l ≡ declare_constructor S n f number (raw_constructor_of raw) left
      → whole ≡ so_far (map (constructor_of p) more) (declare_constructors S n f (length more) (drop (length more) (map raw_constructor_of raws)) l)
  made-on more c l is h =
      each-goes_on {S = Unit {0}} (λ s k raw. declare_constructor S n f k raw) (λ s raw. s) tt (map raw_constructor_of raws) (length made) (raw_constructor_of raw) left (map (constructor_of p) made) whole (constructor_of p c) l
      before (omega (arith, length-map raws raw_constructor_of)) (map-item raw_constructor_of raws (length made) raw at)
      (transport (λ k. ended (Ok (constructor_of p c)) l ≡ declare_constructor S n f k (raw_constructor_of raw) left) numbered h)
      ∙ ap₂ (λ xs k. so_far xs (declare_constructors S n f k (drop k (map raw_constructor_of raws)) l))
      (sym (ap (map (constructor_of p)) is ∙ map-append (constructor_of p) made (c ∷ []))) (count-more made more c is)

  -- or stops
  pub made-stop : (e : FamilyStop) (l : ℕ) → ended (Err e) l ≡ declare_constructor S n f number (raw_constructor_of raw) left → ended (Err e) l ≡ whole
  made-stop e l h =
      each-stops {S = Unit {0}} (λ s k raw. declare_constructor S n f k raw) (λ s raw. s) tt (map raw_constructor_of raws) (length made) (raw_constructor_of raw) left (map (constructor_of p) made) whole e l
      before (omega (arith, length-map raws raw_constructor_of)) (map-item raw_constructor_of raws (length made) raw at)
      (transport (λ k. ended (Err e) l ≡ declare_constructor S n f k (raw_constructor_of raw) left) numbered h)
