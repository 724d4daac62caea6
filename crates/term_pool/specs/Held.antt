-- The state of a store, and how a call changes it.
use Rattle.std.specs.Prelude.{◌≡◌, ◌≢◌, ℕ, ◌<◌, ◌≤◌, ◌+◌, Bool, false, nat_le, if◌then◌else◌, IsTrue, ◌⊎◌, Option, None, Some, Result, Ok, Err, IfErr}
use Rattle.theory.specs.Terms.{Term, height}
use Rattle.core_terms.specs.Answers.{Unless}
use Rattle.core_terms.specs.Count.{Rose}
use Rattle.core_terms.specs.declared.stop.Stop.{Stop}
use Rattle.core_terms.specs.declared.stop.Stop.TheVariants.{Memory, Deep, PoolFull}
use Rattle.term_pool.specs.declared.row.Key.{Key}
use Rattle.term_pool.specs.declared.row.Row.{Row}
use Rattle.term_pool.specs.Parts.{IsPart}

-- The ids that are live, and the tree of each; whether there is room for no node more; the length of the signature that the
-- store was told; whether it keeps rows, the row that it keeps for a length and a key, and how often it found no memory for one.
pub record Held (I : Type 0) : Type 0 where
  pub live : I → Bool
  pub tree : I → Term
  pub full : Bool
  pub told : ℕ
  pub keeps_rows : Bool
  pub rows : ℕ → Key I → Option (Row I)
  pub missed : ℕ

module _ {I : Type 0} where
  -- ids stay live and keep their trees
  pub record Keeps (old new : Held I) : Type 0 where
    pub lives : (id : I) → IsTrue (old.live id) → IsTrue (new.live id)
    pub trees : (id : I) → IsTrue (old.live id) → new.tree id ≡ old.tree id
    pub keeps_rows : new.keeps_rows ≡ old.keeps_rows

  -- ids stay live and keep their trees, and nothing but nodes is new
  pub record Extends (old new : Held I) : Type 0 where
    pub lives : (id : I) → IsTrue (old.live id) → IsTrue (new.live id)
    pub trees : (id : I) → IsTrue (old.live id) → new.tree id ≡ old.tree id
    pub keeps_rows : new.keeps_rows ≡ old.keeps_rows
    pub told : new.told ≡ old.told
    pub rows : new.rows ≡ old.rows
    pub missed : new.missed ≡ old.missed

  -- each id that is new stands for a part of `meant`
  pub record AddsParts (old new : Held I) (meant : Term) : Type 0 where
    pub each : (id : I) → IsTrue (new.live id) → IsTrue (old.live id) ⊎ IsPart (new.tree id) meant

  -- The id that is answered is live and stands for `meant`, which is low enough. Deep is answered only for a tree that is too
  -- high under so many binders.
  abbrev pub MakesUnder : ℕ → Held I → Result I Stop → Term → Type 0
  MakesUnder under held (Ok id) meant = IsTrue (held.live id) × (held.tree id ≡ meant) × (height meant ≤ 2000)
  MakesUnder under held (Err e) meant = Unless (e ≡ Memory) (Unless (e ≡ PoolFull) ((e ≡ Deep) × (2000 < under + height meant)))

  abbrev pub Makes : Held I → Result I Stop → Term → Type 0
  Makes held result meant = MakesUnder 0 held result meant

  -- no live id stands for the tree
  abbrev pub IsNew : Held I → Term → Type 0
  IsNew held t = (id : I) → IsTrue (held.live id) → held.tree id ≢ t

  -- there is room for no node more, and no live id stands for some part of `meant`
  pub record Lacks (held : Held I) (meant : Term) : Type 0 where
    pub full : IsTrue held.full
    pub part : Term
    pub is_part : IsPart part meant
    pub is_new : IsNew held part

  -- PoolFull is answered only where the store has no room for a part of `meant`
  abbrev pub IsFullFor : {A : Type 0} → Held I → Result A Stop → Term → Type 0
  IsFullFor held result meant = IfErr result (λ e. e ≡ PoolFull → Lacks held meant)

  -- PoolFull is answered only where no live id stands for `meant` itself
  abbrev pub IsRefusedNew : {A : Type 0} → Held I → Result A Stop → Term → Type 0
  IsRefusedNew held result meant = IfErr result (λ e. e ≡ PoolFull → IsNew held meant)

  -- the row is kept for the key at the told length; or there was no memory for it, and the rows stay
  abbrev pub Takes : Held I → Held I → Key I → Row I → Type 0
  Takes old new key row =
      ((new.rows old.told key ≡ Some row) × (new.missed ≡ old.missed)) ⊎ ((new.rows ≡ old.rows) × Rose old.missed new.missed)

  -- the row is noted, if the store keeps rows, and each other row stays
  pub record Notes (old new : Held I) (key : Key I) (row : Row I) : Type 0 where
    pub takes : IsTrue old.keeps_rows → Takes old new key row
    pub idle : old.keeps_rows ≡ false → (new.rows ≡ old.rows) × (new.missed ≡ old.missed)
    pub others : (n : ℕ) (k : Key I) → ((n ≡ old.told) × (k ≡ key) → ⊥) → new.rows n k ≡ old.rows n k
    pub told : new.told ≡ old.told

  -- the store is told the length, and drops the rows of greater lengths, and no others
  pub record Tells (old new : Held I) (len : ℕ) : Type 0 where
    pub told : new.told ≡ len
    pub rows : (n : ℕ) (k : Key I) → new.rows n k ≡ (if nat_le n len then old.rows n k else None)
    pub missed : new.missed ≡ old.missed
