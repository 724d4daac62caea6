-- Signatures: the entries that a term may name by their numbers, in order, and whether axiom K is on.
use Rattle.std.specs.Prelude.{Some, ℕ, suc, ◌<◌, Bool, List, [], ◌∷◌, ◌++◌, map, flat_map, slice_get, ◌≡◌}
use Rattle.theory.specs.Terms.{Term, Var, Sort, Pi, App, Const, Fam, Con, Elim, AxiomK, IsClosed, top}
use Rattle.theory.specs.Families.{Family, Constructor, family_type, constructor_type}
use Rattle.theory.specs.PreludeFamilies.{equality_family}
use Rattle.theory.specs.Eliminators.{eliminator_type}

-- `EliminatorAt n m` is the instance at level m of the eliminator of family n, `AxiomKAt i m` that of K of Eq.i, and
-- `Definition name type body` a constant. A definition whose body is its own constant is provisional: it has a type
-- and no body.
pub data Entry : Type 0 where
  FamilyOf : Family → Entry
  EliminatorAt : ℕ → ℕ → Entry
  AxiomKAt : ℕ → ℕ → Entry
  Definition : List ℕ → Term → Term → Entry

pub record Signature : Type 0 where
  pub entries : List Entry
  pub has_k : Bool

-- entry n is e
abbrev pub IsEntryAt : Signature → ℕ → Entry → Type 0
IsEntryAt S n e = slice_get S.entries n ≡ Some e

-- the entries of S are the first ones of T, and both have K or neither has
pub record IsPrefix (S T : Signature) : Type 0 where
  pub more : List Entry
  pub entries : T.entries ≡ S.entries ++ more
  pub has_k : T.has_k ≡ S.has_k

-- no body has a free variable
abbrev pub HasClosedBodies : Signature → Type 0
HasClosedBodies S = (n : ℕ) (name : List ℕ) (type body : Term) → IsEntryAt S n (Definition name type body) → IsClosed body

-- the names that an entry brings
abbrev pub names_of : Entry → List (List ℕ)
names_of (FamilyOf f) = f.name ∷ map (λ c. c.name) f.constructors
names_of (EliminatorAt n m) = []
names_of (AxiomKAt i m) = []
names_of (Definition name type body) = name ∷ []

abbrev pub names : Signature → List (List ℕ)
names S = flat_map names_of S.entries

-- the entry number of the family Eq.i, whose one constructor is refl.i
abbrev pub equality : ℕ → ℕ
equality i = suc i

-- the signature has Eq.i as the prelude has it
pub record HasIdentity (S : Signature) (i : ℕ) : Type 0 where
  pub level : i < top
  pub entry : IsEntryAt S (equality i) (FamilyOf (equality_family i))

-- Eq.i A a b
abbrev pub equation : ℕ → Term → Term → Term → Term
equation i A a b = App (App (App (Fam (equality i)) A) a) b

-- refl.i A a
abbrev pub reflexivity : ℕ → Term → Term → Term
reflexivity i A a = App (App (Con (equality i) 0) A) a

-- the type of K: (A : Type i) -> (a : A) -> (P : Eq.i A a a -> Type m) -> P (refl.i A a) -> (e : Eq.i A a a) -> P e
-- (Streicher, "Investigations into intensional type theory", 1993)
abbrev pub axiom_k_type : ℕ → ℕ → Term
axiom_k_type i m =
    Pi (Sort i)
    (Pi (Var 0)
    (Pi (Pi (equation i (Var 1) (Var 0) (Var 0)) (Sort m))
    (Pi (App (Var 0) (reflexivity i (Var 2) (Var 1)))
    (Pi (equation i (Var 3) (Var 2) (Var 2)) (App (Var 2) (Var 0))))))

-- the types of constants and of the symbols that families and instances bring
pub data TypeOf (S : Signature) : Term → Term → Type 0 where
  constant : (n : ℕ) {name : List ℕ} {type body : Term} → IsEntryAt S n (Definition name type body) → TypeOf S (Const n) type
  family : (n : ℕ) {f : Family} → IsEntryAt S n (FamilyOf f) → TypeOf S (Fam n) (family_type f)
  constructor : (n number : ℕ) {f : Family} {c : Constructor} → IsEntryAt S n (FamilyOf f) → slice_get f.constructors number ≡ Some c
      → TypeOf S (Con n number) (constructor_type n f c)
  eliminator : (n m at : ℕ) {f : Family} → IsEntryAt S n (FamilyOf f) → IsEntryAt S at (EliminatorAt n m)
      → TypeOf S (Elim n m) (eliminator_type n f m)
  axiom_k : (i m at : ℕ) → IsEntryAt S at (AxiomKAt i m) → TypeOf S (AxiomK i m) (axiom_k_type i m)
