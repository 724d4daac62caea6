-- Declarations of the surface language as plain trees.
use Rattle.std.specs.Prelude.{ℕ, List, [], ◌∷◌, Option}
use Rattle.surface_syntax.specs.declared.tree.Word.{Word}

-- A term: functions and products over groups of binders, products without a name, an application to one argument or
-- more, a local definition, a sort, and a plain or dotted name. `None` among the names of a binder stands for `_`.
mutual
  pub data Surf : Type 0 where
    Lam : Binders → Surf → Surf
    Pi : Binders → Surf → Surf
    Arrow : Surf → Surf → Surf
    App : Surf → Surfs → Surf
    Let : Word → Surf → Surf → Surf → Surf
    Sort : ℕ → Surf
    Named : Word → Surf

  pub data Surfs : Type 0 where
    nil : Surfs
    cons : Surf → Surfs → Surfs

  pub data Binder : Type 0 where
    Group : List (Option Word) → Surf → Binder

  pub data Binders : Type 0 where
    no_binder : Binders
    bind : Binder → Binders → Binders

-- A pattern: a name, `_`, a forced term after a dot, `( )`, and a form in parentheses with or without arguments.
mutual
  pub data Pat : Type 0 where
    Name : Word → Pat
    Wild : Pat
    Dot : Surf → Pat
    Void : Pat
    Con : Word → Pats → Pat

  pub data Pats : Type 0 where
    no_pat : Pats
    arg : Pat → Pats → Pats

-- A clause: its head, its patterns, and its right side.
mutual
  pub data Right : Type 0 where
    Side : Surf → Right
    With : Surf → Clauses → Right
    Absurd : Right

  pub data Clause : Type 0 where
    Is : Word → List Pat → Right → Clause

  pub data Clauses : Type 0 where
    no_clause : Clauses
    also : Clause → Clauses → Clauses

-- a name with its type, as parameters and constructors have it
pub record Typed : Type 0 where
  pub name : Word
  pub ty : Surf

-- a family among those that refer to each other
pub record Member : Type 0 where
  pub name : Word
  pub ty : Surf
  pub cons : List Typed

pub data Decl : Type 0 where
  Def : (name : Word) (ty body : Surf) → Decl
  Decide : (name family decision : Word) → Decl
  Data : (name : Word) (params : List Typed) (ty : Surf) (cons : List Typed) → Decl
  Mutual : (params : List Typed) (members : List Member) (family tag : Word) (tags : List Word) → Decl
  Fun : (name : Word) (ty : Surf) (clauses : Clauses) → Decl

-- the trees of lists
abbrev pub surfs : List Surf → Surfs
surfs [] = nil
surfs (t ∷ ts) = cons t (surfs ts)

abbrev pub binders : List Binder → Binders
binders [] = no_binder
binders (b ∷ bs) = bind b (binders bs)

abbrev pub pats : List Pat → Pats
pats [] = no_pat
pats (p ∷ ps) = arg p (pats ps)

abbrev pub clauses : List Clause → Clauses
clauses [] = no_clause
clauses (c ∷ cs) = also c (clauses cs)
