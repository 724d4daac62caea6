-- Plans: what the entries of a function are made of.
use Rattle.std.specs.Prelude.{ℕ, Option, List, [], get_or}
use Rattle.theory.specs.Terms.{Term, Sort}
use Rattle.theory.specs.Telescopes.{Telescope}
use Rattle.core_terms.specs.CaseTrees.{Tree, Leaf, Walk}
use Rattle.core_terms.specs.Patterns.{Pats}

-- The function, or one of its helpers: the level at which it is translated; the telescope from which its walks start; the terms of its
-- columns, which are the telescope's variables, or for a helper the outer clause's terms; its goal, over the telescope; its tree; and
-- for each clause a right side, the clause's own walk and its patterns.
pub record Part : Type 0 where
  pub level : ℕ
  pub tele : Telescope
  pub terms : List Term
  pub goal : Term
  pub tree : Tree
  pub sides : List Term
  pub walks : List Walk
  pub pats : List Pats

-- A function over `base` entries: its name, its written type, the number of its patterns, its level, the position at which it is
-- recursive, if it is, and its parts, the function's own first. In right sides the function is the constant `base`, and helper k the
-- constant `base + k`.
pub record Plan : Type 0 where
  pub base : ℕ
  pub name : List ℕ
  pub type : Term
  pub arity : ℕ
  pub level : ℕ
  pub position : Option ℕ
  pub parts : List Part

-- a part that is read nowhere
abbrev pub no_part : Part
no_part = record {
  level = 0;
  tele = [];
  terms = [];
  goal = Sort 0;
  tree = Leaf 0 [] (Sort 0) [] [] [];
  sides = [];
  walks = [];
  pats = [];
}

-- the function's own part
abbrev pub own_part : Plan → Part
own_part plan = get_or plan.parts 0 no_part
