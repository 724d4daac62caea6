-- A table of answers: for a tree and a depth, which tree stands for it there.
use Rattle.std.specs.Prelude.{◌≡◌, ℕ, ◌≤◌, List, IsTrue, ◌⊎◌}
use Rattle.std.specs.List.{IsAmong}
use Rattle.theory.specs.Terms.{Term, height}
use Rattle.term_pool.specs.Held.{Held}
use Rattle.term_pool.specs.declared.shifts.Shift.{Shift}

module _ {I : Type 0} where
  -- the row is of live ids, and its answer stands for what the tree means at the depth
  pub record ServesAt (meant : Term → ℕ → Term) (held : Held I) (row : Shift I) : Type 0 where
    pub live : IsTrue (held.live row.from)
    pub answers : IsTrue (held.live row.answer)
    pub tree : held.tree row.answer ≡ meant (held.tree row.from) row.depth
    pub low : height (meant (held.tree row.from) row.depth) ≤ 2000

  -- each row of the table serves
  pub record Serves (meant : Term → ℕ → Term) (held : Held I) (rows : List (Shift I)) : Type 0 where
    pub each : (row : Shift I) → IsAmong rows row → ServesAt meant held row

  -- what the rows of the table are about is live
  pub record AllLive (held : Held I) (rows : List (Shift I)) : Type 0 where
    pub each : (row : Shift I) → IsAmong rows row → IsTrue (held.live row.from)

  -- some row has this answer for an equal tree at the depth
  pub record IsAnswered (held : Held I) (rows : List (Shift I)) (t : I) (depth : ℕ) (answer : I) : Type 0 where
    pub row : Shift I
    pub among : IsAmong rows row
    pub depth_is : row.depth ≡ depth
    pub from : held.tree row.from ≡ held.tree t
    pub answer_is : row.answer ≡ answer

  -- the new table has no rows but the row and the old ones
  pub record IsWith (old : List (Shift I)) (row : Shift I) (new : List (Shift I)) : Type 0 where
    pub each : (other : Shift I) → IsAmong new other → (other ≡ row) ⊎ IsAmong old other
