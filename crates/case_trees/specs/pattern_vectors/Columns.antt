-- The columns of a list of patterns against terms, and where one of them is open: neither matched nor apart.
use Rattle.std.specs.Prelude.{◌≡◌, ℕ, IsTrue, Some, None, List, ◌∷◌}
use Rattle.theory.specs.Terms.{Term}
use Rattle.theory.specs.Families.{Constructor}
use Rattle.theory.specs.Signatures.{Signature}
use Rattle.core_terms.specs.Patterns.{Pat, Con, Absurd, Pats, nil, cons}
use Rattle.kernel_reduce.specs.Entries.{constructor_at}
use Rattle.unification.specs.Built.{Built, built_of}
use Rattle.case_trees.specs.pattern_vectors.Matching.{is_as_long}

abbrev mutual
  -- each constructor in a pattern has all its arguments
  pub IsWhole : Signature → Pat → Type 0
  IsWhole S (Con n number pats) =
      ((c : Constructor) → constructor_at S n number ≡ Some c → IsTrue (is_as_long pats c.arguments)) × AreWhole S pats
  IsWhole S pat = Unit {0}

  pub AreWhole : Signature → Pats → Type 0
  AreWhole S nil = Unit {0}
  AreWhole S (cons pat pats) = IsWhole S pat × AreWhole S pats

mutual
  -- A pattern asks for a constructor where the term is none with all its arguments: it is a variable, or stuck on one.
  pub data IsOpen (S : Signature) : Pat → Term → Type 0 where
    asks_constructor : (n number : ℕ) (pats : Pats) (t : Term) → built_of S t ≡ None → IsOpen S (Con n number pats) t
    asks_any : (t : Term) → built_of S t ≡ None → IsOpen S Absurd t
    inside : (n number : ℕ) (pats : Pats) (t : Term) (b : Built) → built_of S t ≡ Some b → b.n ≡ n → b.number ≡ number
        → SomeOpen S pats b.arguments → IsOpen S (Con n number pats) t

  pub data SomeOpen (S : Signature) : Pats → List Term → Type 0 where
    here : (pat : Pat) (pats : Pats) (t : Term) (terms : List Term) → IsOpen S pat t → SomeOpen S (cons pat pats) (t ∷ terms)
    there : (pat : Pat) (pats : Pats) (t : Term) (terms : List Term) → SomeOpen S pats terms → SomeOpen S (cons pat pats) (t ∷ terms)
