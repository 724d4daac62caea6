-- The constructor and absurd patterns that are left: working leaves no more of them, and fewer where an open pair gets a constructor.
use Rattle.std.proofs.Common.{◌≡◌, ℕ, suc, ◌+◌, ◌≤◌, false, None, List, [], ◌∷◌, refl, sym, ap₂, ◌∙◌, arith}
use Rattle.std.proofs.lemmas.Bool.{true≢false, or_parts}
use Rattle.theory.specs.Terms.{Term}
use Rattle.theory.specs.Signatures.{Signature}
use Rattle.core_terms.specs.Patterns as pattern
use Rattle.core_terms.specs.Patterns.{Pat, Pats}
use Rattle.unification.specs.Built.{built_of}
use Rattle.case_trees.specs.HeadSteps.{HasConstructor}
use Rattle.case_trees.specs.Pairs.{Pair, Pairs, Waits, Binds, Passes, Keeps, Builds, Clashes, nil, cons, waiting, clashes, some_clashes, open_in, all_open, with_terms, all_with_terms, patterns_in, all_patterns, left_in, all_left}
use Rattle.case_trees.proofs.ConstructorForms.{constructor-form}
use Rattle.case_trees.proofs.HeadChains.{head-form}
use Rattle.case_trees.proofs.Looks.{AllPairs}
use Rattle.case_trees.proofs.OwnPlaces.{IsAsking}
use Rattle.case_trees.proofs.WalkStanding.{pairs-append, pairs-weaker}
use Rattle.case_trees.proofs.Workings as work
use Rattle.case_trees.proofs.Workings.{ReducesTo, Works, WorkAll, Becomes, AllBecome}

waiting-fewer : (pats : Pats) (terms : List Term) → all_left (waiting pats terms) ≤ all_patterns pats
waiting-fewer pattern.nil terms = omega arith
waiting-fewer (pattern.cons pat pats) [] = omega arith
waiting-fewer (pattern.cons pat pats) (t ∷ terms) = omega (arith, waiting-fewer pats terms)

mutual
  works-fewer : (S : Signature) (pat : Pat) (t : Term) (pair : Pair) → Works S pat t pair → left_in pair ≤ patterns_in pat
  works-fewer S _ _ _ (work.binds t) = omega arith
  works-fewer S _ _ _ (work.passes t) = omega arith
  works-fewer S _ _ _ (work.keeps written t) = omega arith
  works-fewer S _ _ _ (work.stays n number pats t w to e) = omega arith
  works-fewer S _ _ _ (work.builds n number pats t w b pairs to e same all) = omega (arith, work-fewer S pats b.arguments pairs all)
  works-fewer S _ _ _ (work.clash n number pats t w b to e other) = omega arith
  works-fewer S _ _ _ (work.absurd_stays t w to e) = omega arith
  works-fewer S _ _ _ (work.absurd_clash t w b to e) = omega arith

  work-fewer : (S : Signature) (pats : Pats) (terms : List Term) (pairs : Pairs) → WorkAll S pats terms pairs → all_left pairs ≤ all_patterns pats
  work-fewer S _ _ _ (work.no_patterns terms) = omega arith
  work-fewer S _ _ _ (work.no_terms pat pats) = omega arith
  work-fewer S _ _ _ (work.more pat pats t terms pair pairs one clean all) =
      omega (arith, works-fewer S pat t pair one, work-fewer S pats terms pairs all)
  work-fewer S _ _ _ (work.ends pat pats t terms pair one clash) = omega (arith, works-fewer S pat t pair one, waiting-fewer pats terms)

mutual
  becomes-fewer : (S : Signature) (pair new : Pair) → Becomes S pair new → left_in new ≤ left_in pair
  becomes-fewer S _ _ (work.worked pat t new one) = works-fewer S pat t new one
  becomes-fewer S _ _ (work.inside n number ps pairs new all) = all-fewer S pairs new all
  becomes-fewer S _ _ (work.bound t) = omega arith
  becomes-fewer S _ _ (work.passed t) = omega arith
  becomes-fewer S _ _ (work.kept written t) = omega arith
  becomes-fewer S _ _ (work.clashed pat t) = omega arith

  -- working leaves no more patterns
  pub all-fewer : (S : Signature) (pairs new : Pairs) → AllBecome S pairs new → all_left new ≤ all_left pairs
  all-fewer S _ _ work.none = omega arith
  all-fewer S _ _ (work.more pair new pairs others one clean all) = omega (arith, becomes-fewer S pair new one, all-fewer S pairs others all)
  all-fewer S _ _ (work.ends pair new pairs one clash) = omega (arith, becomes-fewer S pair new one)

mutual
  pair-same : (f : Term → Term) (pair : Pair) → left_in (with_terms f pair) ≡ left_in pair
  pair-same f (Waits pat t) = refl
  pair-same f (Binds t) = refl
  pair-same f (Passes t) = refl
  pair-same f (Keeps written t) = refl
  pair-same f (Builds n number ps pairs) = all-same f pairs
  pair-same f (Clashes pat t) = refl

  -- terms are of no account
  pub all-same : (f : Term → Term) (pairs : Pairs) → all_left (all_with_terms f pairs) ≡ all_left pairs
  all-same f nil = refl
  all-same f (cons pair pairs) = ap₂ (λ a b. a + b) (pair-same f pair) (all-same f pairs)

-- ---- open pairs

mutual
  pub data OpenIn : Pair → Pat → Term → Type 0 where
    here : (pat : Pat) (t : Term) → OpenIn (Waits pat t) pat t
    inside : (n number : ℕ) (ps : List Term) (pairs : Pairs) (pat : Pat) (t : Term) → SomeOpenIn pairs pat t → OpenIn (Builds n number ps pairs) pat t

  -- one of the pairs is open, with this pattern and term
  pub data SomeOpenIn : Pairs → Pat → Term → Type 0 where
    first : (pair : Pair) (pairs : Pairs) (pat : Pat) (t : Term) → OpenIn pair pat t → SomeOpenIn (cons pair pairs) pat t
    later : (pair : Pair) (pairs : Pairs) (pat : Pat) (t : Term) → SomeOpenIn pairs pat t → SomeOpenIn (cons pair pairs) pat t

mutual
  pair-there : (pair : Pair) → AllPairs (λ o. OpenIn pair o.0 o.1) (open_in pair)
  pair-there (Waits pat t) = (here pat t, tt)
  pair-there (Binds t) = tt
  pair-there (Passes t) = tt
  pair-there (Keeps written t) = tt
  pair-there (Builds n number ps pairs) =
      pairs-weaker (λ o. SomeOpenIn pairs o.0 o.1) (λ o. OpenIn (Builds n number ps pairs) o.0 o.1) (all_open pairs)
      (λ o is. inside n number ps pairs o.0 o.1 is) (all-there pairs)
  pair-there (Clashes pat t) = tt

  pub all-there : (pairs : Pairs) → AllPairs (λ o. SomeOpenIn pairs o.0 o.1) (all_open pairs)
  all-there nil = tt
  all-there (cons pair pairs) =
      pairs-append (λ o. SomeOpenIn (cons pair pairs) o.0 o.1) (open_in pair) (all_open pairs)
      (pairs-weaker (λ o. OpenIn pair o.0 o.1) (λ o. SomeOpenIn (cons pair pairs) o.0 o.1) (open_in pair)
      (λ o is. first pair pairs o.0 o.1 is) (pair-there pair))
      (pairs-weaker (λ o. SomeOpenIn pairs o.0 o.1) (λ o. SomeOpenIn (cons pair pairs) o.0 o.1) (all_open pairs)
      (λ o is. later pair pairs o.0 o.1 is) (all-there pairs))

asking-left : (pat : Pat) → IsAsking pat → 1 ≤ patterns_in pat
asking-left (pattern.Con n number pats) asks = omega arith
asking-left pattern.Absurd asks = omega arith
asking-left pattern.Bind asks = absurd asks
asking-left pattern.Wild asks = absurd asks
asking-left (pattern.Dot written) asks = absurd asks

mutual
  pair-left : (pair : Pair) (pat : Pat) (t : Term) → OpenIn pair pat t → IsAsking pat → 1 ≤ left_in pair
  pair-left _ _ _ (here pat t) asks = asking-left pat asks
  pair-left _ _ _ (inside n number ps pairs pat t some) asks = some-left pairs pat t some asks

  -- so long as a pair is open, a pattern is left
  pub some-left : (pairs : Pairs) (pat : Pat) (t : Term) → SomeOpenIn pairs pat t → IsAsking pat → 1 ≤ all_left pairs
  some-left _ _ _ (first pair pairs pat t one) asks = omega (arith, pair-left pair pat t one asks)
  some-left _ _ _ (later pair pairs pat t some) asks = omega (arith, some-left pairs pat t some asks)

-- ---- an open pair whose term gets a constructor

no-none : (S : Signature) (n number : ℕ) (t w : Term) → HasConstructor S n number t → ReducesTo S t w → built_of S w ≡ None → ⊥
no-none S n number t w has to none =
    let (b, (found, named)) = constructor-form S n number t w has (head-form S t w to) in
    absurd (grind (arith, sym none ∙ found))

works-falls : (S : Signature) (n number : ℕ) (pat : Pat) (t : Term) (pair : Pair) → HasConstructor S n number t → IsAsking pat → Works S pat t pair
    → clashes pair ≡ false → suc (left_in pair) ≤ patterns_in pat
works-falls S n number _ _ _ has asks (work.binds t) clean = absurd asks
works-falls S n number _ _ _ has asks (work.passes t) clean = absurd asks
works-falls S n number _ _ _ has asks (work.keeps written t) clean = absurd asks
works-falls S n number _ _ _ has asks (work.stays m k pats t w to e) clean = absurd (no-none S n number t w has to e)
works-falls S n number _ _ _ has asks (work.builds m k pats t w b pairs to e same all) clean = omega (arith, work-fewer S pats b.arguments pairs all)
works-falls S n number _ _ _ has asks (work.clash m k pats t w b to e other) clean = absurd (true≢false clean)
works-falls S n number _ _ _ has asks (work.absurd_stays t w to e) clean = absurd (no-none S n number t w has to e)
works-falls S n number _ _ _ has asks (work.absurd_clash t w b to e) clean = absurd (true≢false clean)

mutual
  pair-falls : (S : Signature) (n number : ℕ) (f : Term → Term) (pair new : Pair) (pat : Pat) (t : Term) → OpenIn pair pat t → IsAsking pat
      → HasConstructor S n number (f t) → Becomes S (with_terms f pair) new → clashes new ≡ false → suc (left_in new) ≤ left_in pair
  pair-falls S n number f _ _ _ _ (here pat t) asks has (work.worked _ _ new one) clean = works-falls S n number pat (f t) new has asks one clean
  pair-falls S n number f _ _ _ _ (inside m k ps pairs pat t some) asks has (work.inside _ _ _ _ new all) clean =
      all-falls S n number f pairs new pat t some asks has all clean

  -- fewer patterns are left where the term of an open pair gets a constructor
  pub all-falls : (S : Signature) (n number : ℕ) (f : Term → Term) (pairs new : Pairs) (pat : Pat) (t : Term) → SomeOpenIn pairs pat t → IsAsking pat
      → HasConstructor S n number (f t) → AllBecome S (all_with_terms f pairs) new → some_clashes new ≡ false → suc (all_left new) ≤ all_left pairs
  all-falls S n number f _ _ _ _ (first pair pairs pat t one) asks has (work.more _ new _ others become clear all) clean =
      omega (
        arith,
        pair-falls S n number f pair new pat t one asks has become clear,
        all-fewer S (all_with_terms f pairs) others all,
        all-same f pairs,
      )
  all-falls S n number f _ _ _ _ (later pair pairs pat t some) asks has (work.more _ new _ others become clear all) clean =
      omega (
        arith,
        becomes-fewer S (with_terms f pair) new become,
        pair-same f pair,
        all-falls S n number f pairs others pat t some asks has all (or_parts (clashes new) (some_clashes others) clean).1,
      )
  all-falls S n number f _ _ _ _ (first pair pairs pat t one) asks has (work.ends _ new _ become clash) clean =
      absurd (true≢false (sym clash ∙ (or_parts (clashes new) _ clean).0))
  all-falls S n number f _ _ _ _ (later pair pairs pat t some) asks has (work.ends _ new _ become clash) clean =
      absurd (true≢false (sym clash ∙ (or_parts (clashes new) _ clean).0))
