-- Lists of arguments and binders after a place.
use Rattle.std.proofs.Common.{◌≡◌, ℕ, ◌+◌, ◌<◌, ◌≤◌, List, ◌∷◌, map, drop, length, get_or, ap, ap₂, sym, ◌∙◌, add-one, rules}
use Rattle.std.proofs.Math.ListN.{drop_of_length-le}
use Rattle.std.proofs.Math.Seq.{drop-cons}
use Rattle.surface_syntax.specs.Trees as surf
use Rattle.surface_syntax.specs.TreeMeanings.{surf_of, binder_of}
use Rattle.surface_syntax.specs.declared.tree.Surf.TheFolds.{the_lemmas}
use Rattle.surface_syntax.specs.declared.tree.Binder.{Binder}
use Rattle.theory.specs.Terms.{Term}
use Rattle.resolve.specs.Names.{Known, Scope}
use Rattle.resolve.specs.Resolving.{Answer, resolve, telescope, group}

pub binder_parts : (b : Binder) → binder_of b ≡ surf.Group b.names (surf_of b.ty)
binder_parts b = search (rules, the_lemmas)

-- the telescope from place k on begins with the group that is there
pub telescope_behind : (known : Known) (make : Term → Term → Term) (bs : List Binder) (k : ℕ) (b : Binder) (inner : Scope → Answer) (scope : Scope) → k < length bs → b ≡ get_or bs k b
    → telescope known make (surf.binders (map binder_of (drop k bs))) inner scope
    ≡ group make b.names (resolve known (surf_of b.ty)) (telescope known make (surf.binders (map binder_of (drop (k + 1) bs))) inner) scope
telescope_behind known make bs k b inner scope lt is =
    ap (λ bs. telescope known make (surf.binders (map binder_of bs)) inner scope) (drop-cons bs k b lt ∙ ap₂ ◌∷◌ (sym is) (ap (λ n. drop n bs) (sym (add-one k))))
    ∙ ap (λ b. telescope known make (surf.bind b (surf.binders (map binder_of (drop (k + 1) bs)))) inner scope) (binder_parts b)

-- nothing is after the last group
pub telescope_done : (known : Known) (make : Term → Term → Term) (bs : List Binder) (k : ℕ) (inner : Scope → Answer) (scope : Scope) → length bs ≤ k
    → telescope known make (surf.binders (map binder_of (drop k bs))) inner scope ≡ inner scope
telescope_done known make bs k inner scope end = ap (λ bs. telescope known make (surf.binders (map binder_of bs)) inner scope) (drop_of_length-le bs end)
