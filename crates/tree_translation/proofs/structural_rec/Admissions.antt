-- The admission of recursion at a position, over the values of the code.
use Rattle.std.proofs.Common.{◌≡◌, ℕ, ◌+◌, ◌-◌, Bool, true, false, ◌==◌, cond, None, List, length, take, drop, refl, sym, ap, ap₂, ◌∙◌, arith}
use Rattle.std.proofs.lemmas.Bool.{false≢true}
use Rattle.std.proofs.lemmas.Bool.Decides.{Decides-eqb}
use Rattle.std.proofs.lemmas.List.{length-map, length-drop, take-map, drop-map, take_all}
use Rattle.theory.specs.Terms.{Term}
use Rattle.theory.specs.Families.{Family}
use Rattle.core_terms.specs.Meanings.{tree_of, tele_of}
use Rattle.core_terms.specs.declared.term.Term as code
use Rattle.core_sig.specs.declared.family.Family.{Family as CodeFamily}
use Rattle.core_sig.specs.Meanings.{family_of}
use Rattle.tree_translation.specs.structural_rec.Positions.{admission_at, admission_with}

pub admission-whole : (tele : List Term) (j n : ℕ) (spine : List Term) (f : Family) → length spine ≡ length f.parameters + length f.indices
    → admission_with tele j n spine f ≡ admission_at tele j n (take (length f.parameters) spine) (drop (length f.parameters) spine)
admission-whole tele j n spine f counted = by (length spine == length f.parameters + length f.indices) refl
  where
    by : (b : Bool) → (length spine == length f.parameters + length f.indices) ≡ b
        → cond b (admission_at tele j n (take (length f.parameters) spine) (drop (length f.parameters) spine)) None ≡ admission_at tele j n (take (length f.parameters) spine) (drop (length f.parameters) spine)
    by true e = refl
    by false e = absurd (false≢true (sym e ∙ (Decides-eqb (length spine) (length f.parameters + length f.indices)).1 counted))

-- the spine of a type that is a family at all its arguments, split after the parameters
pub admission-split : (tele : List Term) (j n count : ℕ) (spine : List code.Term) (f : CodeFamily) → count ≡ length f.params
    → length spine ≡ count + length f.indices
    → admission_with tele j n (tele_of spine) (family_of f)
    ≡ admission_at tele j n (tele_of (take count spine)) (tele_of (take (length spine - count) (drop count spine)))
admission-split tele j n count spine f is counted =
    admission-whole tele j n (tele_of spine) (family_of f)
    (length-map spine tree_of ∙ (counted ∙ ap₂ (λ x y. x + y) (sym params) (sym (length-map f.indices (λ i. (tree_of i.ty, i.level))))))
    ∙ ap₂ (admission_at tele j n)
    (ap (λ k. take k (tele_of spine)) params ∙ take-map tree_of count spine)
    (ap (λ k. drop k (tele_of spine)) params ∙ (drop-map tree_of count spine ∙ sym (ap tele_of rest)))
  where
    params : length (tele_of f.params) ≡ count
    params = length-map f.params tree_of ∙ sym is

    rest : take (length spine - count) (drop count spine) ≡ drop count spine
    rest = take_all (length spine - count) (drop count spine) (omega (arith, length-drop count spine))
