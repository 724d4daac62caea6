-- The conditions of the parts of a turn.
use Rattle.std.proofs.Common.{◌≡◌, ℕ, ◌≤◌, true, Option, Some, None, List, [], ◌∷◌, ap, sym, subst as transport}
use Rattle.theory.specs.Terms.{Term, height}
use Rattle.theory.specs.Signatures.{Signature}
use Rattle.theory.specs.SignatureScopes.{IsScoped}
use Rattle.core_terms.specs.Answers.{is_low, are_low}
use Rattle.core_terms.specs.Patterns.{Pat}
use Rattle.case_trees.specs.Pairs.{Pair, Pairs, Waits, Binds, Passes, Keeps, Builds, Clashes, nil, cons, or_later, clash_in, first_clash, all_open, is_low_pair, are_low_pairs}
use Rattle.case_trees.proofs.Looks.{AllPairs}
use Rattle.case_trees.proofs.WalkStanding.{all-open-scoped}
use Rattle.problems.proofs.LowTerms.{and-parts, low-height}
use Rattle.clause_walks.specs.OpenPairs.{AreScopedOpen}
use Rattle.clause_walks.specs.PairConditions.{AreKeptPairs}

as-open : (S : Signature) (n : ℕ) (pairs : List (Pat × Term)) → AllPairs (λ pair. IsScoped S n pair.1) pairs → AreScopedOpen S n pairs
as-open S n [] h = tt
as-open S n (pair ∷ pairs) h = (h.0, as-open S n pairs h.1)

-- the open pairs of kept ones
pub open-scoped : (S : Signature) (n : ℕ) (pairs : Pairs) → AreKeptPairs S n pairs → AreScopedOpen S n (all_open pairs)
open-scoped S n pairs h = as-open S n (all_open pairs) (all-open-scoped S n pairs h.scoped)

abbrev second : Term → Option (Pat × Term) → Term
second t (Some clash) = clash.1
second t None = t

either : (first later : Option (Pat × Term)) (clash : Pat × Term) → or_later first later ≡ Some clash
    → (first ≡ Some clash → is_low clash.1 ≡ true) → (later ≡ Some clash → is_low clash.1 ≡ true) → is_low clash.1 ≡ true
either (Some c) later clash e one other = one e
either None later clash e one other = other e

mutual
  clash-is_low : (pair : Pair) (clash : Pat × Term) → clash_in pair ≡ Some clash → is_low_pair pair ≡ true → is_low clash.1 ≡ true
  clash-is_low (Waits pat t) clash e low = absurd (cc)
  clash-is_low (Binds t) clash e low = absurd (cc)
  clash-is_low (Passes t) clash e low = absurd (cc)
  clash-is_low (Keeps written t) clash e low = absurd (cc)
  clash-is_low (Builds n number ps pairs) clash e low = first-is_low pairs clash e (and-parts (are_low ps) (are_low_pairs pairs) low).1
  clash-is_low (Clashes pat t) clash e low = let same : t ≡ clash.1 = ap (second t) e in transport (λ u. is_low u ≡ true) same low

  first-is_low : (pairs : Pairs) (clash : Pat × Term) → first_clash pairs ≡ Some clash → are_low_pairs pairs ≡ true → is_low clash.1 ≡ true
  first-is_low nil clash e low = absurd (cc)
  first-is_low (cons pair pairs) clash e low =
      let parts = and-parts (is_low_pair pair) (are_low_pairs pairs) low in
      either (clash_in pair) (first_clash pairs) clash e (λ at. clash-is_low pair clash at parts.0) (λ at. first-is_low pairs clash at parts.1)

-- the term of a clash
pub clash-low : (S : Signature) (n : ℕ) (pairs : Pairs) (clash : Pat × Term) → AreKeptPairs S n pairs → Some clash ≡ first_clash pairs → height clash.1 ≤ 2000
clash-low S n pairs clash h e = low-height clash.1 (first-is_low pairs clash (sym e) h.low)
