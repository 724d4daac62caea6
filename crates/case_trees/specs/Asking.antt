-- Where the patterns of a clause ask for a constructor, at terms that have none.
use Rattle.std.specs.Prelude.{◌≡◌, ℕ, true, false, None, Some, List, ◌∷◌}
use Rattle.theory.specs.Terms.{Term}
use Rattle.theory.specs.Signatures.{Signature}
use Rattle.core_terms.specs.Patterns as pattern
use Rattle.core_terms.specs.Patterns.{Pat, Pats}
use Rattle.kernel_reduce.specs.Laws.{IsHeadForm}
use Rattle.tele_eq.specs.ReflexivityLaws.{EachConverts}
use Rattle.unification.specs.Built.{Built, built_of}
use Rattle.case_trees.specs.pattern_vectors.Matching.{is_constructor}
use Rattle.case_trees.specs.Points.{Point}
use Rattle.case_trees.specs.Standing.{IsNode}

mutual
  -- OpenAt S pat t at u: within the pattern, against t, the pattern `at` asks for a constructor, and its term u is none.
  pub data OpenAt (S : Signature) : Pat → Term → Pat → Term → Type 0 where
    asks : (n number : ℕ) (pats : Pats) (t : Term) → built_of S t ≡ None → OpenAt S (pattern.Con n number pats) t (pattern.Con n number pats) t
    asks_any : (t : Term) → built_of S t ≡ None → OpenAt S pattern.Absurd t pattern.Absurd t
    inside : (n number : ℕ) (pats : Pats) (t : Term) (b : Built) (at : Pat) (u : Term) → built_of S t ≡ Some b → is_constructor n number b ≡ true
        → SomeOpenAt S pats b.arguments at u → OpenAt S (pattern.Con n number pats) t at u

  pub data SomeOpenAt (S : Signature) : Pats → List Term → Pat → Term → Type 0 where
    here : (pat : Pat) (pats : Pats) (t : Term) (terms : List Term) (at : Pat) (u : Term) → OpenAt S pat t at u
        → SomeOpenAt S (pattern.cons pat pats) (t ∷ terms) at u
    there : (pat : Pat) (pats : Pats) (t : Term) (terms : List Term) (at : Pat) (u : Term) → SomeOpenAt S pats terms at u
        → SomeOpenAt S (pattern.cons pat pats) (t ∷ terms) at u

-- At a point that splits lead to, with the terms as the clause has reduced them, the patterns of a clause ask for a constructor by the
-- pattern `at`; the tidied term there is u.
pub record Asks (S : Signature) (start p : Point) (pats : Pats) (at : Pat) (u : Term) : Type 0 where
  pub node : IsNode S start p
  pub terms : List Term
  pub converts : EachConverts S p.terms terms
  pub term : Term
  pub place : SomeOpenAt S pats terms at term
  pub tidied : IsHeadForm S false term u
