-- The meanings of the code's trees.
use Rattle.std.specs.Prelude.{map}
use Rattle.surface_syntax.specs.Trees as pure
use Rattle.surface_syntax.specs.declared.tree.Binder.{Binder}
use Rattle.surface_syntax.specs.declared.tree.Surf.{Surf}
use Rattle.surface_syntax.specs.declared.tree.Surf.TheOpen as open_surf
use Rattle.surface_syntax.specs.declared.tree.Surf.TheFolds.{fold-Binder, fold-Surf}
use Rattle.surface_syntax.specs.declared.tree.SurfPat.{SurfPat}
use Rattle.surface_syntax.specs.declared.tree.SurfPat.TheOpen as open_pat
use Rattle.surface_syntax.specs.declared.tree.SurfPat.TheFolds.{fold-SurfPat}
use Rattle.surface_syntax.specs.declared.tree.SurfRight.{SurfRight}
use Rattle.surface_syntax.specs.declared.tree.SurfClause.{SurfClause}
use Rattle.surface_syntax.specs.declared.tree.SurfRight.TheOpen as open_clause
use Rattle.surface_syntax.specs.declared.tree.SurfRight.TheFolds.{fold-SurfRight, fold-SurfClause}
use Rattle.surface_syntax.specs.declared.tree.SurfParam.{SurfParam}
use Rattle.surface_syntax.specs.declared.tree.SurfCon.{SurfCon}
use Rattle.surface_syntax.specs.declared.tree.SurfMember.{SurfMember}
use Rattle.surface_syntax.specs.declared.tree.Decl.{Decl}
use Rattle.surface_syntax.specs.declared.tree.Decl.TheVariants.{Def, Decide, Data, Mutual, Fun}

-- a binder, once its type is given
abbrev pub binder_step : open_surf.Binder-F pure.Surf pure.Binder → pure.Binder
binder_step b = pure.Group b.names b.ty

-- a term, once its parts are given
abbrev pub surf_step : open_surf.Surf-F pure.Surf pure.Binder → pure.Surf
surf_step (open_surf.Lam bs b) = pure.Lam (pure.binders bs) b.value
surf_step (open_surf.Pi bs b) = pure.Pi (pure.binders bs) b.value
surf_step (open_surf.Arrow a b) = pure.Arrow a.value b.value
surf_step (open_surf.App f args) = pure.App f.value (pure.surfs args)
surf_step (open_surf.Let x a t b) = pure.Let x a.value t.value b.value
surf_step (open_surf.Sort i) = pure.Sort i
surf_step (open_surf.Named x) = pure.Named x

abbrev pub surf_of : Surf → pure.Surf
surf_of = fold-Surf pure.Surf pure.Binder surf_step binder_step

abbrev pub binder_of : Binder → pure.Binder
binder_of = fold-Binder pure.Surf pure.Binder surf_step binder_step

-- a pattern, once its arguments are given
abbrev pub pat_step : open_pat.SurfPat-F pure.Pat → pure.Pat
pat_step (open_pat.Named x) = pure.Name x
pat_step open_pat.Wild = pure.Wild
pat_step (open_pat.Dot t) = pure.Dot (surf_of t)
pat_step open_pat.Absurd = pure.Void
pat_step (open_pat.Con c ps) = pure.Con c (pure.pats ps)

abbrev pub pat_of : SurfPat → pure.Pat
pat_of = fold-SurfPat pure.Pat pat_step

-- the right side after the patterns, once the clauses of a `with` are given
abbrev pub right_step : open_clause.SurfRight-F pure.Right pure.Clause → pure.Right
right_step (open_clause.Side t) = pure.Side (surf_of t)
right_step (open_clause.With t cs) = pure.With (surf_of t) (pure.clauses cs)
right_step open_clause.Absurd = pure.Absurd

-- a clause, once its right side is given
abbrev pub clause_step : open_clause.SurfClause-F pure.Right pure.Clause → pure.Clause
clause_step c = pure.Is c.head (map pat_of c.pats) c.right

abbrev pub right_of : SurfRight → pure.Right
right_of = fold-SurfRight pure.Right pure.Clause right_step clause_step

abbrev pub clause_of : SurfClause → pure.Clause
clause_of = fold-SurfClause pure.Right pure.Clause right_step clause_step

abbrev pub param_of : SurfParam → pure.Typed
param_of p = record { name = p.name; ty = surf_of p.ty }

abbrev pub con_of : SurfCon → pure.Typed
con_of c = record { name = c.name; ty = surf_of c.ty }

abbrev pub member_of : SurfMember → pure.Member
member_of m = record { name = m.name; ty = surf_of m.ty; cons = map con_of m.cons }

abbrev pub decl_of : Decl → pure.Decl
decl_of (Def name ty body) = pure.Def name (surf_of ty) (surf_of body)
decl_of (Decide name family decision) = pure.Decide name family decision
decl_of (Data name params ty cons) = pure.Data name (map param_of params) (surf_of ty) (map con_of cons)
decl_of (Mutual params members family tag tags) = pure.Mutual (map param_of params) (map member_of members) family tag tags
decl_of (Fun name ty clauses) = pure.Fun name (surf_of ty) (pure.clauses (map clause_of clauses))
