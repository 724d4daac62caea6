-- Calls that fit a pair fall lexicographically, and no chain of them goes on for ever.
use Rattle.std.proofs.Common.{◌≡◌, ◌≢◌, inl, inr, ℕ, zero, suc, ◌<◌, ◌≤◌, true, option_and_then, List, [], ◌∷◌, ◌++◌, length, refl, sym, ap, ◌∙◌, subst, arith}
use Rattle.theory.specs.Terms.{Term, Con, height, lift}
use Rattle.theory.specs.Spines.{head_of}
use Rattle.theory.specs.Families.{Family}
use Rattle.theory.specs.Signatures.{Signature, FamilyOf, IsEntryAt}
use Rattle.theory.proofs.Lists.{some_is}
use Rattle.kernel_reduce.specs.Entries.{family_in}
use Rattle.case_below_gen.specs.StrictParts.{IsStrictPart}
use Rattle.tele_eq.specs.Levels.{is_among}
use Rattle.tree_translation.specs.structural_rec.Calls.{Call}
use Rattle.tree_translation.specs.structural_rec.Laws.{IsFinitary, TakesNoConstructor}
use Rattle.tree_translation.specs.structural_rec.Orders.{recursive_positions}
use Rattle.tree_translation.proofs.structural_rec.LowerParts.{finitary-lower, lower-or-none, part-constructor, parts-end}
use Rattle.tree_translation.proofs.structural_rec.Members.{among-first}
use Rattle.tree_translation.proofs.structural_rec.RecursionOrders.{among-left, among-right}
use Rattle.lex_recursion.specs.Descents.{Falls, FallsToParts}
use Rattle.lex_recursion.specs.Descents.Falls.{by_first, by_second}
use Rattle.lex_recursion.specs.FittingPairs.{FitsPair}
use Rattle.lex_recursion.specs.Following.{fixed_behind}
use Rattle.lex_recursion.specs.PairLaws.{IsCallAt, IsLower}
use Rattle.lex_recursion.specs.Pairs.{IsPair, Pair}

-- ---- a call that fits

same-family : (S : Signature) (n : ℕ) (f g : Family) → IsEntryAt S n (FamilyOf f) → IsEntryAt S n (FamilyOf g) → f ≡ g
same-family S n f g one other = some_is (sym (ap (option_and_then family_in) one) ∙ ap (option_and_then family_in) other)

-- all that the first recursion goes over is fixed under the second one
first-fixed : (S : Signature) (tele : List Term) (p : Pair) → IsPair S tele p → is_among p.first p.inner.fixed ≡ true
first-fixed S tele p is =
    ap (is_among p.first) is.follows.fixed
    ∙ among-left p.first first (fixed_behind tele first p.second is.follows.parameters)
    (among-right p.first p.outer.fixed (p.outer.indices ++ p.first ∷ []) (among-right p.first p.outer.indices (p.first ∷ []) (among-first p.first [])))
  where
    first : List ℕ
    first = recursive_positions p.first p.outer

pub calls-fall : (S : Signature) (tele : List Term) (p : Pair) (terms : List Term) (c : Call) (f g : Family) (to from : Term × Term)
    → IsPair S tele p → IsCallAt S p terms c f g to from → FitsPair S (length tele) p terms c
    → FallsToParts p.outer.number f p.inner.number g to from
calls-fall S tele p terms c f g to from is at (inl one) =
    by_first
    (subst (λ h. IsStrictPart p.outer.number h to.0 from.0) (same-family S p.outer.number one.family f one.known at.outer)
    (subst (λ u. IsStrictPart p.outer.number one.family u from.0) (some_is (sym one.argument ∙ at.first_argument))
    (subst (λ t. IsStrictPart p.outer.number one.family one.part t) (ap (λ t. lift t c.under 0) (some_is (sym one.there ∙ at.first_term)) ∙ sym at.first_lifted)
    one.smaller)))
calls-fall S tele p terms c f g to from is at (inr other) =
    let kept = other.kept p.first (first-fixed S tele p is) in
    by_second
    (some_is (sym at.first_argument ∙ kept.argument) ∙ (ap (λ t. lift t c.under 0) (some_is (sym kept.there ∙ at.first_term)) ∙ sym at.first_lifted))
    (subst (λ h. IsStrictPart p.inner.number h to.1 from.1) (same-family S p.inner.number other.family g other.known at.inner)
    (subst (λ u. IsStrictPart p.inner.number other.family u from.1) (some_is (sym other.argument ∙ at.second_argument))
    (subst (λ t. IsStrictPart p.inner.number other.family other.part t) (ap (λ t. lift t c.under 0) (some_is (sym other.there ∙ at.second_term)) ∙ sym at.second_lifted)
    other.smaller)))

pub finitary-falls : (n : ℕ) (f : Family) (k : ℕ) (g : Family) (to from : Term × Term) → IsFinitary f → IsFinitary g
    → FallsToParts n f k g to from → Falls IsLower IsLower to from
finitary-falls n f k g to from first second (by_first part) = by_first (finitary-lower n f to.0 first part)
finitary-falls n f k g to from first second (by_second same part) = by_second same (finitary-lower k g to.1 second part)

-- ---- chains of such calls

record IsChain (n : ℕ) (f : Family) (k : ℕ) (g : Family) (chain : ℕ → Term × Term) : Type 0 where
  first_takes : (i : ℕ) → TakesNoConstructor n f (chain i).0
  second_takes : (i : ℕ) → TakesNoConstructor k g (chain i).1
  falls : (i : ℕ) → FallsToParts n f k g (chain (suc i)) (chain i)

chain-behind : (n : ℕ) (f : Family) (k : ℕ) (g : Family) (chain : ℕ → Term × Term) → IsChain n f k g chain → IsChain n f k g (λ i. chain (suc i))
chain-behind n f k g chain is = record { first_takes = λ i. is.first_takes (suc i); second_takes = λ i. is.second_takes (suc i); falls = λ i. is.falls (suc i) }

-- from a first term that is no constructor on, the first terms stay, and the second ones can't fall for ever
stays-end : (n : ℕ) (f : Family) (k : ℕ) (g : Family) (chain : ℕ → Term × Term) → IsChain n f k g chain
    → ((number : ℕ) → head_of (chain 0).0 ≢ Con n number) → ⊥
stays-end n f k g chain is other = parts-end k g (λ i. (chain i).1) is.second_takes second-part
  where
    no-part : (i : ℕ) → (chain i).0 ≡ (chain 0).0 → IsStrictPart n f (chain (suc i)).0 (chain i).0 → ⊥
    no-part i same part =
        let made = part-constructor n f (chain (suc i)).0 part in
        other made.0 (ap head_of (sym same) ∙ made.1)

    next : (i : ℕ) → (chain i).0 ≡ (chain 0).0 → FallsToParts n f k g (chain (suc i)) (chain i)
        → ((chain (suc i)).0 ≡ (chain 0).0) × IsStrictPart k g (chain (suc i)).1 (chain i).1
    next i same (by_first part) = absurd (no-part i same part)
    next i same (by_second stays part) = (stays ∙ same, part)

    stays : (i : ℕ) → (chain i).0 ≡ (chain 0).0
    stays zero = refl
    stays (suc i) = (next i (stays i) (is.falls i)).0

    second-part : (i : ℕ) → IsStrictPart k g (chain (suc i)).1 (chain i).1
    second-part i = (next i (stays i) (is.falls i)).1

-- a chain ends where its first term is a part
part-ends : (n : ℕ) (f : Family) (k : ℕ) (g : Family) (limit : ℕ)
    → ((chain : ℕ → Term × Term) → IsChain n f k g chain → height (chain 0).0 < limit → ⊥)
    → (chain : ℕ → Term × Term) → IsChain n f k g chain → height (chain 0).0 ≤ limit → IsStrictPart n f (chain 1).0 (chain 0).0 → ⊥
part-ends n f k g limit smaller chain is low part = elim (lower-or-none n f (chain 1).0 (is.first_takes 0) part) [
  | inl lower ↦ smaller (λ i. chain (suc i)) (chain-behind n f k g chain is) (omega arith)
  | inr other ↦ stays-end n f k g (λ i. chain (suc i)) (chain-behind n f k g chain is) other
]

-- where the second term is no constructor, the next first term is a part
none-ends : (n : ℕ) (f : Family) (k : ℕ) (g : Family) (limit : ℕ)
    → ((chain : ℕ → Term × Term) → IsChain n f k g chain → height (chain 0).0 < limit → ⊥)
    → (chain : ℕ → Term × Term) → IsChain n f k g chain → height (chain 0).0 ≤ limit → ((number : ℕ) → head_of (chain 0).1 ≢ Con k number) → ⊥
none-ends n f k g limit smaller chain is low other = by (is.falls 0)
  where
    by : FallsToParts n f k g (chain 1) (chain 0) → ⊥
    by (by_first part) = part-ends n f k g limit smaller chain is low part
    by (by_second stays part) = let made = part-constructor k g (chain 1).1 part in other made.0 made.1

-- chains of which each with a lower first term ends, by the height of the second term
second-ends : (n : ℕ) (f : Family) (k : ℕ) (g : Family) (limit : ℕ)
    → ((chain : ℕ → Term × Term) → IsChain n f k g chain → height (chain 0).0 < limit → ⊥)
    → (room : ℕ) (chain : ℕ → Term × Term) → IsChain n f k g chain → height (chain 0).0 ≤ limit → height (chain 0).1 < room → ⊥
second-ends n f k g limit smaller zero chain is low near = omega arith
second-ends n f k g limit smaller (suc room) chain is low near = by (is.falls 0) (second-ends n f k g limit smaller room (λ i. chain (suc i)))
  where
    by : FallsToParts n f k g (chain 1) (chain 0)
        → (IsChain n f k g (λ i. chain (suc i)) → height (chain 1).0 ≤ limit → height (chain 1).1 < room → ⊥) → ⊥
    by (by_first part) rest = part-ends n f k g limit smaller chain is low part
    by (by_second stays part) rest =
        let le : height (chain 1).0 ≤ limit = subst (λ t. height t ≤ limit) (sym stays) low in
        elim (lower-or-none k g (chain 1).1 (is.second_takes 0) part) [
          | inl lower ↦ rest (chain-behind n f k g chain is) le (omega arith)
          | inr other ↦ none-ends n f k g limit smaller (λ i. chain (suc i)) (chain-behind n f k g chain is) le other
        ]

-- all chains, by the height of the first term
first-ends : (n : ℕ) (f : Family) (k : ℕ) (g : Family) (room : ℕ) (chain : ℕ → Term × Term) → IsChain n f k g chain → height (chain 0).0 < room → ⊥
first-ends n f k g zero chain is near = omega arith
first-ends n f k g (suc room) chain is near =
    second-ends n f k g room (first-ends n f k g room) (suc (height (chain 0).1)) chain is (omega arith) (omega arith)

pub falls-end : (n : ℕ) (f : Family) (k : ℕ) (g : Family) (chain : ℕ → Term × Term) → ((i : ℕ) → TakesNoConstructor n f (chain i).0)
    → ((i : ℕ) → TakesNoConstructor k g (chain i).1) → ((i : ℕ) → FallsToParts n f k g (chain (suc i)) (chain i)) → ⊥
falls-end n f k g chain first second falls =
    first-ends n f k g (suc (height (chain 0).0)) chain (record { first_takes = first; second_takes = second; falls = falls }) (omega arith)
