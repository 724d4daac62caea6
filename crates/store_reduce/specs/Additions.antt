-- The trees that a call adds to a store, and those for which it has no room, as far as a property says.
use Rattle.std.specs.Prelude.{◌≡◌, IsTrue, ◌⊎◌, Result, IfErr}
use Rattle.theory.specs.Terms.{Term}
use Rattle.core_terms.specs.declared.stop.Stop.{Stop}
use Rattle.core_terms.specs.declared.stop.Stop.TheVariants.{PoolFull}
use Rattle.term_pool.specs.Held.{Held, IsNew}

module _ {I : Type 0} where
  -- each id that is new stands for a tree that has P
  pub record AddsOnly (P : Term → Type 0) (old new : Held I) : Type 0 where
    pub each : (id : I) → IsTrue (new.live id) → IsTrue (old.live id) ⊎ P (new.tree id)

  -- there is room for no node more, and no live id stands for some tree that has P
  pub record LacksOne (P : Term → Type 0) (held : Held I) : Type 0 where
    pub full : IsTrue held.full
    pub part : Term
    pub has : P part
    pub is_new : IsNew held part

  -- PoolFull is answered only where the store has no room for some tree that has P
  abbrev pub IsFullOf : {A : Type 0} → (Term → Type 0) → Held I → Result A Stop → Type 0
  IsFullOf P held result = IfErr result (λ e. e ≡ PoolFull → LacksOne P held)
