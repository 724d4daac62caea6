-- Laws of matching, and of the common patterns of two lists.
use Rattle.std.specs.Prelude.{◌≡◌, ℕ, IsTrue, true, false, ◌&&◌, Some, None, List, map}
use Rattle.theory.specs.Terms.{Term}
use Rattle.theory.specs.Substitutions.{inst}
use Rattle.theory.specs.Signatures.{Signature}
use Rattle.core_terms.specs.Patterns.{Pats}
use Rattle.case_trees.specs.pattern_vectors.Columns.{AreWhole, SomeOpen}
use Rattle.case_trees.specs.pattern_vectors.Matching.{is_as_long, matches_all, are_apart}
use Rattle.case_trees.specs.pattern_vectors.Meeting.{meet_all, SomeClash, AreColumns}

-- ---- matched, apart, open

-- no argument list is both matched and apart
abbrev pub MatchedIsNotApart : Type 0
MatchedIsNotApart = (S : Signature) (pats : Pats) (terms : List Term) → matches_all S pats terms ≡ true → are_apart S pats terms ≡ false

-- An argument list that is neither has a column in which a pattern asks for a constructor and the term is none.
abbrev pub NeitherIsOpen : Type 0
NeitherIsOpen =
    (S : Signature) (pats : Pats) (terms : List Term) → AreWhole S pats → IsTrue (is_as_long pats terms) → matches_all S pats terms ≡ false →
    are_apart S pats terms ≡ false → SomeOpen S pats terms

-- an argument list with such a column is not matched
abbrev pub OpenIsNotMatched : Type 0
OpenIsNotMatched = (S : Signature) (pats : Pats) (terms : List Term) → SomeOpen S pats terms → matches_all S pats terms ≡ false

-- whatever is put for the variables of the terms, matched terms stay matched,
abbrev pub MatchedStays : Type 0
MatchedStays =
    (S : Signature) (s : ℕ → Term) (pats : Pats) (terms : List Term) → matches_all S pats terms ≡ true →
    matches_all S pats (map (inst s) terms) ≡ true

-- and terms that are apart stay apart
abbrev pub ApartStays : Type 0
ApartStays =
    (S : Signature) (s : ℕ → Term) (pats : Pats) (terms : List Term) → are_apart S pats terms ≡ true →
    are_apart S pats (map (inst s) terms) ≡ true

-- ---- the common patterns of two lists

-- terms match it exactly where they match both
abbrev pub MeetIsBoth : Type 0
MeetIsBoth =
    (S : Signature) (a b both : Pats) (terms : List Term) → meet_all a b ≡ Some both →
    matches_all S both terms ≡ (matches_all S a terms && matches_all S b terms)

-- where there is nothing in common, no terms match both
abbrev pub NothingIsBoth : Type 0
NothingIsBoth =
    (S : Signature) (a b : Pats) (terms : List Term) → meet_all a b ≡ None →
    (matches_all S a terms && matches_all S b terms) ≡ false

-- two lists of patterns that clash have nothing in common,
abbrev pub ClashIsNone : Type 0
ClashIsNone = (a b : Pats) → SomeClash a b → meet_all a b ≡ None

-- and two that have nothing in common clash
abbrev pub NoneIsClash : Type 0
NoneIsClash = (a b : Pats) → AreColumns a b → meet_all a b ≡ None → SomeClash a b
