-- Names that a draft may mention, and a draft whose names are in the order of first mention.
use Rattle.std.specs.Prelude.{ℕ, cond, List, [], ◌∷◌, ◌++◌, map, get_or, Result}
use Rattle.theory.specs.Terms.{Term}
use Rattle.core_terms.specs.Answers.{and_then}
use Rattle.core_terms.specs.declared.stop.Stop.{Stop}
use Rattle.core_sig.specs.Drafts.{Draft, drafted}
use Rattle.core_sig.specs.Settling.{renumbered}
use Rattle.tele_eq.specs.Levels.{is_among}
use Rattle.tree_translation.specs.Naming.{Naming, mentions, number_among, number_in, once}

-- places, followed by one more where it is not there yet
abbrev pub with_new : (made : List ℕ) (i : ℕ) → List ℕ
with_new made i = cond (is_among i made) made (made ++ i ∷ [])

-- places, followed by those of others that are not there yet
abbrev pub all_new : (made places : List ℕ) → List ℕ
all_new made [] = made
all_new made (i ∷ places) = all_new (with_new made i) places

-- the places of the names that a type and a term mention
abbrev pub places_of : (base : ℕ) → (t u : Term) → List ℕ
places_of base t u = once [] (mentions base t ++ mentions base u)

abbrev pub names_at : (table : List (List ℕ)) → (places : List ℕ) → List (List ℕ)
names_at table places = map (λ i. get_or table i []) places

-- the draft of a type and a term with these names, of which they mention those at some places
abbrev pub renumbered_draft : (name : List ℕ) (base : ℕ) (table : List (List ℕ)) (places : List ℕ) (t u : Term) → Result Draft Stop
renumbered_draft name base table places t u =
    drafted name base (names_at table places) (renumbered (number_among base places) t) (renumbered (number_among base places) u)

-- the draft of a type and a term that are made with the numbers of these names
abbrev pub numbered : (name : List ℕ) (base : ℕ) (table : List (List ℕ)) (t u : Term) → Result Draft Stop
numbered name base table t u = renumbered_draft name base table (places_of base t u) t u

-- the draft of a type and a term that are made with the numbers of these names, and may be refused
abbrev pub numbered_made : (name : List ℕ) (base : ℕ) (table : List (List ℕ)) (type term : Naming → Result Term Stop) → Result Draft Stop
numbered_made name base table type term =
    and_then (type (number_in base table)) (λ t. and_then (term (number_in base table)) (numbered name base table t))
