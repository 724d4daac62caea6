-- The ids of the terms of entries, in a store that holds the terms.
use Rattle.std.specs.Prelude.{◌≡◌, ℕ, ◌<◌, ◌≤◌, IsTrue, Option, None, Some, List, [], length, slice_get, All}
use Rattle.theory.specs.Terms.{Term, height}
use Rattle.theory.specs.Telescopes.{products, applied, weaken_by}
use Rattle.theory.specs.Families.{Constructor, Family, constructor_telescope, constructor_type, family_head, family_type}
use Rattle.theory.specs.Eliminators.{eliminator_type}
use Rattle.theory.specs.Scopes.{IsClosedFamily}
use Rattle.theory.specs.Signatures.{Entry, FamilyOf, EliminatorAt, AxiomKAt, Definition, axiom_k_type}
use Rattle.term_pool.specs.Held.{Held}
use Rattle.core_sig.specs.declared.entry_ids.ConstructorId.{ConstructorId}
use Rattle.core_sig.specs.declared.entry_ids.EntryId.{EntryId}
use Rattle.core_sig.specs.declared.entry_ids.EntryIds.{EntryIds}

-- the type of a constructor behind the parameters: (Ac) -> D p us_c
abbrev pub type_behind : ℕ → Family → Constructor → Term
type_behind n f c =
    products (constructor_telescope n f c) (applied (weaken_by (length c.arguments) (family_head n f)) c.targets)

-- each constructor's type is at most 2,000 high behind the parameters
abbrev pub AreLowBehind : ℕ → Family → Type 0
AreLowBehind n f = All (λ c. height (type_behind n f c) ≤ 2000) f.constructors

-- t is the type of the eliminator into Type m of the family that is entry n
pub record IsEliminatorType (entries : List Entry) (n m : ℕ) (t : Term) : Type 0 where
  pub family : Family
  pub entry : slice_get entries n ≡ Some (FamilyOf family)
  pub type : t ≡ eliminator_type n family m

-- t is the type of an entry among the entries
abbrev pub IsTypeOf : List Entry → Entry → Term → Type 0
IsTypeOf entries (FamilyOf f) t = t ≡ family_type f
IsTypeOf entries (EliminatorAt n m) t = IsEliminatorType entries n m t
IsTypeOf entries (AxiomKAt i m) t = t ≡ axiom_k_type i m
IsTypeOf entries (Definition name type body) t = t ≡ type

-- the lists are equally long, and P holds of each two elements that have one place
pub record Correspond {X Y : Type 0} (P : ℕ → X → Y → Type 0) (xs : List X) (ys : List Y) : Type 0 where
  pub count : length ys ≡ length xs
  pub each : (n : ℕ) (x : X) (y : Y) → slice_get xs n ≡ Some x → slice_get ys n ≡ Some y → P n x y

module _ {I : Type 0} where
  -- the id is live and stands for the term
  abbrev pub IsIdOf : Held I → I → Term → Type 0
  IsIdOf held id t = IsTrue (held.live id) × (held.tree id ≡ t) × (height t ≤ 2000)

  -- so it is where the term is at most 2,000 high; a higher one has no id
  abbrev pub IsIdWhereLow : Held I → Option I → Term → Type 0
  IsIdWhereLow held (Some id) t = IsIdOf held id t
  IsIdWhereLow held None t = 2000 < height t

  -- a definition has the id of its body, and no other entry has one
  abbrev pub IsBodyId : Held I → Entry → Option I → Type 0
  IsBodyId held (Definition name type body) (Some id) = IsIdOf held id body
  IsBodyId held (Definition name type body) None = ⊥
  IsBodyId held _ id = id ≡ None

  -- the ids of the type of a constructor of family n, behind the parameters and whole
  pub record IsConstructorId (held : Held I) (n : ℕ) (f : Family) (c : Constructor) (id : ConstructorId I) : Type 0 where
    pub behind : IsIdOf held id.behind (type_behind n f c)
    pub type : IsIdWhereLow held id.ty (constructor_type n f c)

  -- a family has the ids of its constructors, and no other entry has any
  abbrev pub AreConstructorIds : Held I → ℕ → Entry → List (ConstructorId I) → Type 0
  AreConstructorIds held n (FamilyOf f) ids = Correspond (λ number. IsConstructorId held n f) f.constructors ids
  AreConstructorIds held n _ ids = ids ≡ []

  -- the ids of the terms of entry n
  pub record StandsAt (held : Held I) (entries : List Entry) (n : ℕ) (e : Entry) (id : EntryId I) : Type 0 where
    pub meant : Term
    pub is_type : IsTypeOf entries e meant
    pub type : IsIdWhereLow held id.ty meant
    pub body : IsBodyId held e id.body
    pub constructors : AreConstructorIds held n e id.cons.items

  -- the ids of the terms of the entries
  pub record Stands (held : Held I) (entries : List Entry) (ids : EntryIds I) : Type 0 where
    pub each : Correspond (StandsAt held entries) entries ids.entries.items

-- entry n is a family without free variables
abbrev pub HasClosedFamily : List Entry → ℕ → Type 0
HasClosedFamily entries n = (f : Family) × (slice_get entries n ≡ Some (FamilyOf f)) × IsClosedFamily f

-- An entry that comes after the entries can have ids: the types of its constructors are at most 2,000 high behind the parameters, the body
-- of a definition is so too, and the family of an eliminator is there, and closed.
abbrev pub CanStand : List Entry → Entry → Type 0
CanStand entries (FamilyOf f) = AreLowBehind (length entries) f
CanStand entries (EliminatorAt n m) = HasClosedFamily entries n
CanStand entries (AxiomKAt i m) = Unit {0}
CanStand entries (Definition name type body) = height body ≤ 2000
