-- Lists of patterns over Nat against terms, as they are worked by hand. The family has number 0; `%0` is a variable of type Nat.
use native.Mathlib.Decide.{ℕ_discrete}
use Rattle.std.proofs.Common.{◌≡◌, true, false, Some, None, [], ◌∷◌, refl}
use Rattle.theory.specs.Terms.{Term, Var, Con, App}
use Rattle.theory.specs.Families.{Recursive}
use Rattle.theory.specs.Signatures.{Signature, FamilyOf}
use Rattle.core_terms.specs.Patterns as pattern
use Rattle.core_terms.specs.Patterns.{Pat, Bind, Wild, Absurd, Pats, nil, cons}
use Rattle.case_trees.specs.pattern_vectors.Matching.{matches_all, are_apart}
use Rattle.case_trees.specs.pattern_vectors.Meeting.{meet_all}

-- data Nat : Type 0 { zero : Nat ; suc : Nat -> Nat }
abbrev sample : Signature
sample = record {
  entries = FamilyOf (record {
    name = [];
    parameters = [];
    indices = [];
    level = 0;
    constructors = record { name = []; arguments = []; targets = [] } ∷ record { name = []; arguments = Recursive [] [] 0 ∷ []; targets = [] } ∷ [];
  }) ∷ [];
  has_k = false;
}

abbrev zero_term : Term
zero_term = Con 0 0

abbrev suc_term : Term → Term
suc_term t = App (Con 0 1) t

abbrev zero_pat : Pat
zero_pat = pattern.Con 0 0 nil

abbrev suc_pat : Pat → Pat
suc_pat pat = pattern.Con 0 1 (cons pat nil)

abbrev two : Pat → Pat → Pats
two a b = cons a (cons b nil)

-- (suc n) _ matches suc (suc %0), %0,
deep_matches : matches_all sample (two (suc_pat Bind) Wild) (suc_term (suc_term (Var 0)) ∷ Var 0 ∷ []) ≡ true
unfolding native.Mathlib.Decide.ℕ_discrete
deep_matches = refl

-- and (suc zero) _ is apart from it
deep_apart : are_apart sample (two (suc_pat zero_pat) Wild) (suc_term (suc_term (Var 0)) ∷ Var 0 ∷ []) ≡ true
unfolding native.Mathlib.Decide.ℕ_discrete
deep_apart = refl

-- zero zero against zero, %0 is neither
open_matches : matches_all sample (two zero_pat zero_pat) (zero_term ∷ Var 0 ∷ []) ≡ false
unfolding native.Mathlib.Decide.ℕ_discrete
open_matches = refl

open_apart : are_apart sample (two zero_pat zero_pat) (zero_term ∷ Var 0 ∷ []) ≡ false
unfolding native.Mathlib.Decide.ℕ_discrete
open_apart = refl

-- against %0, suc %0 it is apart, whatever the first column is
later_apart : are_apart sample (two zero_pat zero_pat) (Var 0 ∷ suc_term (Var 0) ∷ []) ≡ true
unfolding native.Mathlib.Decide.ℕ_discrete
later_apart = refl

-- a constructor without its argument is none: suc _ against suc alone is neither
partial_matches : matches_all sample (cons (suc_pat Wild) nil) (Con 0 1 ∷ []) ≡ false
unfolding native.Mathlib.Decide.ℕ_discrete
partial_matches = refl

partial_apart : are_apart sample (cons (suc_pat Wild) nil) (Con 0 1 ∷ []) ≡ false
unfolding native.Mathlib.Decide.ℕ_discrete
partial_apart = refl

-- ( ) is apart from zero, and not from a variable
absurd_apart : are_apart sample (cons Absurd nil) (zero_term ∷ []) ≡ true
unfolding native.Mathlib.Decide.ℕ_discrete
absurd_apart = refl

absurd_open : are_apart sample (cons Absurd nil) (Var 0 ∷ []) ≡ false
absurd_open = refl

-- zero m and _ (suc n) have zero (suc n) in common
common : meet_all (two zero_pat Bind) (two Wild (suc_pat Bind)) ≡ Some (two zero_pat (suc_pat Bind))
common = refl

-- suc m and suc zero have suc zero in common
common_inside : meet_all (cons (suc_pat Bind) nil) (cons (suc_pat zero_pat) nil) ≡ Some (cons (suc_pat zero_pat) nil)
unfolding native.Mathlib.Decide.ℕ_discrete
common_inside = refl

-- zero and suc n have nothing in common, neither have ( ) and m
clashing : meet_all (two zero_pat Bind) (two (suc_pat Bind) Bind) ≡ None
unfolding native.Mathlib.Decide.ℕ_discrete
clashing = refl

absurd_clashes : meet_all (cons Absurd nil) (cons Bind nil) ≡ None
absurd_clashes = refl
