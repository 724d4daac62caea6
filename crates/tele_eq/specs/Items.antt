-- A telescope whose types have levels.
use Rattle.std.specs.Prelude.{ℕ, zero, suc, ◌+◌, max, ◌≤◌, List, [], ◌∷◌, length, map, get_or}
use Rattle.theory.specs.Terms.{Term, Sort, height, free_of}
use Rattle.core_terms.specs.Bounds.{context_limit, most_height}
use Rattle.core_terms.specs.Meanings.{tree_of}
use Rattle.tele_eq.specs.declared.item.Item as code

-- a type, over the variables of the items before it, and its level
pub record Item : Type 0 where
  pub type : Term
  pub level : ℕ

abbrev pub item_of : code.Item → Item
item_of item = record { type = tree_of item.ty; level = item.level }

abbrev pub items_of : List code.Item → List Item
items_of items = map item_of items

-- the term at a position, counted from the outermost on
abbrev pub term_at : List Term → ℕ → Term
term_at terms position = get_or terms position (Sort 0)

-- the type at a position, and its level
abbrev pub type_at : List Item → ℕ → Term
type_at tele position = term_at (map (λ item. item.type) tele) position

abbrev pub level_at : List Item → ℕ → ℕ
level_at tele position = get_or (map (λ item. item.level) tele) position 0

-- the greatest of a level and those at some positions
abbrev pub greatest_level : List Item → ℕ → List ℕ → ℕ
greatest_level tele level [] = level
greatest_level tele level (position ∷ positions) = greatest_level tele (max level (level_at tele position)) positions

-- something for each of `count` positions from j on
abbrev pub each_position : {A : Type 0} → (ℕ → A) → (j count : ℕ) → List A
each_position f j zero = []
each_position f j (suc count) = f j ∷ each_position f (j + 1) count

-- all positions of a telescope
abbrev pub positions_of : List Item → List ℕ
positions_of X = each_position (λ j. j) 0 (length X)

-- a term with a bound for its height and for its free variables
abbrev pub IsSmall : Term → Type 0
IsSmall t = (height t ≤ most_height) × (free_of t ≤ context_limit)

abbrev pub AreSmallTerms : List Term → Type 0
AreSmallTerms [] = Unit {0}
AreSmallTerms (t ∷ terms) = IsSmall t × AreSmallTerms terms

-- the positions have a bound
abbrev pub AreUpTo : ℕ → List ℕ → Type 0
AreUpTo n [] = Unit {0}
AreUpTo n (position ∷ positions) = (position ≤ n) × AreUpTo n positions

-- the types of a telescope are small
abbrev pub AreSmall : List Item → Type 0
AreSmall tele = AreSmallTerms (map (λ item. item.type) tele)
