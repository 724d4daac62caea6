-- The meanings of the code's values.
use Rattle.std.specs.Prelude.{◌≡◌, ◌==◌, Bool, IsTrue, List, map, All}
use Rattle.theory.specs.Terms as tree
use Rattle.core_sig.specs.Raw.{RawFamily}
use Rattle.term_pool.specs.Pools.{Pooled, pool_held}
use Rattle.term_pool.specs.declared.ids.Id.{Id}
use Rattle.shared_text.specs.Walks.{Walked}
use Rattle.shared_text.specs.declared.met.Met.{Met}
use Rattle.shared_text.specs.declared.term_writer.Texts.{Texts}
use Rattle.shared_text.specs.declared.written.FamilyIds.{FamilyIds}

-- the ids are the same
abbrev pub is_id : Id → Id → Bool
is_id a b = a.at == b.at

-- the trees of ids
abbrev pub trees : Pooled → List Id → List tree.Term
trees p ids = map (pool_held p).tree ids

-- the ids are live
abbrev pub AreLive : Pooled → List Id → Type 0
AreLive p ids = All (λ id. IsTrue ((pool_held p).live id)) ids

-- what was met is of live ids
pub record AreMet (p : Pooled) (m : Met) : Type 0 where
  pub found : AreLive p m.found
  pub again : AreLive p m.again

abbrev pub walked_of : Pooled → Met → Walked
walked_of p m = record { found = trees p m.found; again = trees p m.again }

-- ids of the terms
pub record AreIdsOf (p : Pooled) (ids : List Id) (ts : List tree.Term) : Type 0 where
  pub live : AreLive p ids
  pub terms : trees p ids ≡ ts

-- ids of the terms that the line of a family writes
pub record AreFamilyIds (p : Pooled) (ids : FamilyIds) (raw : RawFamily) : Type 0 where
  pub params : AreIdsOf p ids.params.items raw.parameters
  pub live : IsTrue ((pool_held p).live ids.ty)
  pub type : (pool_held p).tree ids.ty ≡ raw.type
  pub constructors : AreIdsOf p ids.cons.items (map (λ c. c.type) raw.constructors)

-- the shared terms where terms are written
abbrev pub shared_of : Texts → List tree.Term
shared_of texts = trees texts.pool.now texts.shared.now
