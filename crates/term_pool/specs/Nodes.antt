-- The tree of a node, where its parts are ids that stand for trees.
use Rattle.std.specs.Prelude.{Bool, IsTrue}
use Rattle.theory.specs.Terms as tree
use Rattle.term_pool.specs.declared.node.Node.{Node}
use Rattle.term_pool.specs.declared.node.Node.TheVariants.{Var, Sort, Pi, Lam, App, Let, Const, Fam, Con, Elim, AxiomK}

-- the tree of a node, by the trees of its parts
abbrev pub says : {I : Type 0} → (I → tree.Term) → Node I → tree.Term
says at (Var n) = tree.Var n
says at (Sort i) = tree.Sort i
says at (Pi a b) = tree.Pi (at a) (at b)
says at (Lam a b) = tree.Lam (at a) (at b)
says at (App f a) = tree.App (at f) (at a)
says at (Let a t b) = tree.Let (at a) (at t) (at b)
says at (Const c) = tree.Const c
says at (Fam f) = tree.Fam f
says at (Con f c) = tree.Con f c
says at (Elim f m) = tree.Elim f m
says at (AxiomK i m) = tree.AxiomK i m

-- each part of the node has P
abbrev pub AllParts : {I : Type 0} → (I → Type 0) → Node I → Type 0
AllParts P (Pi a b) = P a × P b
AllParts P (Lam a b) = P a × P b
AllParts P (App f a) = P f × P a
AllParts P (Let a t b) = P a × P t × P b
AllParts P _ = Unit {0}

-- each part of the node passes the test
abbrev pub AllPass : {I : Type 0} → (I → Bool) → Node I → Type 0
AllPass live node = AllParts (λ i. IsTrue (live i)) node
