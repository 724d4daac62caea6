-- How renaming and instantiation change the free variables, the height and the sorts of a term.
use Rattle.std.specs.Prelude.{◌≡◌, ℕ, ◌+◌, ◌≤◌, ◌<◌, ◌↔◌}
use Rattle.theory.specs.Terms.{Term, height, free_of, SortsBelow}
use Rattle.theory.specs.Substitutions.{ren, inst}

-- a renaming of k variables to n
abbrev pub FreeOfRen : Type 0
FreeOfRen =
    (r : ℕ → ℕ) (t : Term) (k n : ℕ) → free_of t ≤ k → ((i : ℕ) → i < k → r i < n) → free_of (ren r t) ≤ n

-- an instantiation of k variables by terms in n
abbrev pub FreeOfInst : Type 0
FreeOfInst =
    (s : ℕ → Term) (t : Term) (k n : ℕ) → free_of t ≤ k → ((i : ℕ) → i < k → free_of (s i) ≤ n) → free_of (inst s t) ≤ n

-- a renaming keeps the height
abbrev pub HeightOfRen : Type 0
HeightOfRen = (r : ℕ → ℕ) (t : Term) → height (ren r t) ≡ height t

-- an instantiation loses no height, and gains at most what its terms have above a leaf
abbrev pub HeightOfInst : Type 0
HeightOfInst =
    (s : ℕ → Term) (t : Term) (n : ℕ) → ((i : ℕ) → height (s i) ≤ n) →
    (height t ≤ height (inst s t)) × (height (inst s t) + 1 ≤ height t + n)

-- a renaming keeps the sorts
abbrev pub SortsOfRen : Type 0
SortsOfRen = (r : ℕ → ℕ) (t : Term) (n : ℕ) → SortsBelow n t ↔ SortsBelow n (ren r t)

-- an instantiation brings no sorts but those of its terms
abbrev pub SortsOfInst : Type 0
SortsOfInst =
    (s : ℕ → Term) (t : Term) (n : ℕ) → SortsBelow n t → ((i : ℕ) → SortsBelow n (s i)) → SortsBelow n (inst s t)

-- and drops none
abbrev pub SortsBeforeInst : Type 0
SortsBeforeInst = (s : ℕ → Term) (t : Term) (n : ℕ) → SortsBelow n (inst s t) → SortsBelow n t
