-- Which levels of a list are left.
use Rattle.std.proofs.Common.{◌≡◌, ℕ, zero, suc, ◌+◌, ◌<◌, ◌≤◌, Bool, true, false, nat_lt, ◌&&◌, ap, ap₂, sym, ◌∙◌, arith}
use Rattle.std.specs.Prelude.{not}
use Rattle.std.specs.List.{list_any}
use Rattle.std.proofs.lemmas.Bool.Decides.{nat_tests}
use Rattle.theory.specs.Terms.{top}
use Rattle.theory.specs.Signatures.{Signature}
use Rattle.core_text.specs.LineReading.{is_instance, level_list, levels_left, some_level_left, identities_left}
use Rattle.core_text.specs.Reading.{is_left, some_left}
use Rattle.core_text.specs.declared.instances.Series.{Series}
use Rattle.core_text.specs.declared.instances.Series.TheVariants.{AxiomK}

list-at : (left : ℕ → Bool) (n k i : ℕ) → is_left (level_list left n k) i ≡ (nat_lt i k && left (n + i))
list-at left n zero i =
    let none : false ≡ nat_lt i zero = grind (arith, nat_tests) in
    ap (λ b. b && left (n + i)) none
list-at left n (suc k) zero =
    let first : true ≡ nat_lt zero (suc k) = grind (arith, nat_tests) in
    let same : n ≡ n + zero = omega arith in
    ap₂ (λ b j. b && left j) first same
list-at left n (suc k) (suc i) =
    let less : nat_lt i k ≡ nat_lt (suc i) (suc k) = grind (arith, nat_tests) in
    let same : n + 1 + i ≡ n + suc i = omega arith in
    list-at left (n + 1) k i ∙ ap₂ (λ b j. b && left j) less same

pub level_at : (S : Signature) (series : Series) (m : ℕ) → is_left (levels_left S series) m ≡ (nat_lt m top && not (list_any (is_instance series m) S.entries))
unfolding levels_left
level_at S series m =
    let same : 0 + m ≡ m = omega arith in
    list-at (λ k. not (list_any (is_instance series k) S.entries)) 0 top m ∙ ap (λ j. nat_lt m top && not (list_any (is_instance series j) S.entries)) same

identity_at : (S : Signature) (i : ℕ) → is_left (identities_left S) i ≡ (nat_lt i top && some_left (levels_left S (AxiomK i)) 0 top)
unfolding identities_left some_level_left
identity_at S i =
    let same : 0 + i ≡ i = omega arith in
    list-at (λ j. some_left (levels_left S (AxiomK j)) 0 top) 0 top i ∙ ap (λ j. nat_lt i top && some_left (levels_left S (AxiomK j)) 0 top) same

-- what code answers for an identity family: below `top` whether a level is left, and at `top` that none is
module _ (S : Signature) (i : ℕ) where
  pub identity-below : (b : Bool) → i < top → b ≡ some_left (levels_left S (AxiomK i)) 0 top → b ≡ is_left (identities_left S) i
  identity-below b below is =
      let low : nat_lt i top ≡ true = grind (arith, nat_tests, below) in
      is ∙ (sym (ap (λ t. t && some_left (levels_left S (AxiomK i)) 0 top) low) ∙ sym (identity_at S i))

  pub identity-above : top ≤ i → nat_lt i top ≡ is_left (identities_left S) i
  identity-above above =
      let high : nat_lt i top ≡ false = grind (arith, nat_tests, above) in
      high ∙ (sym (ap (λ t. t && some_left (levels_left S (AxiomK i)) 0 top) high) ∙ sym (identity_at S i))
