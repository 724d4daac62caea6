-- The equation of a clause: the function applied to the clause's terms, with each written dot as it is written, and the right side. It
-- is over the context of the clause's own walk, and the same is said at a leaf of the tree with the leaf's context, terms and bindings.
use Rattle.std.specs.Prelude.{ℕ, zero, suc, ◌-◌, nat_lt, cond, Option, Some, None, option_and_then, List, [], ◌∷◌, ◌++◌, get_or, length, take, Result, Ok}
use Rattle.std.specs.Option.{option_map_or}
use Rattle.theory.specs.Terms.{Term, Sort, Con, Const}
use Rattle.theory.specs.Telescopes.{Telescope, applied, variables, products}
use Rattle.theory.specs.Signatures.{Signature, equation}
use Rattle.theory.specs.Spines.{head_of}
use Rattle.core_terms.specs.Answers.{and_then, bounded}
use Rattle.core_terms.specs.CaseTrees.{Walk}
use Rattle.core_terms.specs.Patterns as pattern
use Rattle.core_terms.specs.Patterns.{Pat, Pats}
use Rattle.core_terms.specs.declared.stop.Stop.{Stop}
use Rattle.core_sig.specs.Names.{find}
use Rattle.core_sig.specs.Settling.{renumbered, entry_found}
use Rattle.unification.specs.Built.{Built, built_of}
use Rattle.case_trees.specs.Kept.{at_arguments}
use Rattle.case_trees.specs.Points.{under_solution}
use Rattle.tree_translation.specs.Mappings.{mapping, in_old_order}
use Rattle.tree_translation.specs.Naming.{motive_name, part_named, step_name}
use Rattle.clause_reports.specs.Generated.{all_name}
use Rattle.tree_translation.specs.Plans.{Plan, Part, no_part, own_part}
use Rattle.tree_translation.specs.Recursion.{Recursion, recursion_of, parameters_at, scrutinee_at, terms_at}
use Rattle.tree_translation.specs.RightSides.{is_helper}

-- ---- constants of a plan

-- the number of the entry with a name
abbrev pub number_of : Signature → (name : List ℕ) → ℕ
number_of S name = option_map_or (λ n. n) (option_and_then entry_found (find S name)) 0

abbrev pub part_name : Plan → (k : ℕ) → List ℕ
part_name plan k = part_named plan.name k

-- the function and its helpers get the numbers that they have in the signature, in place of those in the plan
abbrev pub own_number : Signature → Plan → (c : ℕ) → ℕ
own_number S plan c = cond (nat_lt c plan.base) c (number_of S (part_name plan (c - plan.base)))

abbrev pub in_signature : Signature → Plan → Term → Term
in_signature S plan t = renumbered (own_number S plan) t

-- ---- terms as the patterns show them

abbrev pub shown_built : (show : List Term → List Term) → (t : Term) → Option Built → Term
shown_built show t None = t
shown_built show t (Some b) = at_arguments b (show b.arguments)

abbrev mutual
  -- the term at a pattern, in which each dot is as it is written, with the clause's bindings
  pub shown : Signature → (written : Term → Term) → Pat → Term → Term
  shown S written (pattern.Dot t) u = written t
  shown S written (pattern.Con n number pats) u = shown_built (all_shown S written pats) u (built_of S u)
  shown S written pat u = u

  pub all_shown : Signature → (written : Term → Term) → Pats → List Term → List Term
  all_shown S written (pattern.cons pat pats) (u ∷ terms) = shown S written pat u ∷ all_shown S written pats terms
  all_shown S written _ terms = terms

-- ---- a clause at its own walk or at a leaf

-- The site of a clause of part k: a context and a goal there; terms for the variables of the part's telescope and for its columns;
-- the bindings of the clause; and terms for the variables of the context of the clause's own walk.
pub record Site : Type 0 where
  pub context : Telescope
  pub goal : Term
  pub substitution : List Term
  pub terms : List Term
  pub binds : List Term
  pub walked : List Term

pub record Equation : Type 0 where
  pub context : Telescope
  pub type : Term
  pub left : Term
  pub right : Term

-- the equation as a type, closed by products over its context
abbrev pub closed_type : (level : ℕ) → Equation → Term
closed_type level e = products e.context (equation level e.type e.left e.right)

-- D!all.L ps (F!motive F) (F!step F) is x, at terms of the function's telescope: the values of the recursion there
abbrev pub values_of_recursion : Signature → Plan → Recursion → List Term → Term
values_of_recursion S plan r terms =
    let at_fixed : List ℕ → Term = λ name. applied (Const (number_of S name)) (terms_at r.admission.fixed terms) in
    applied (Const (number_of S (all_name r.family plan.level)))
    (parameters_at (own_part plan).tele r terms
    ++ at_fixed (motive_name plan.name) ∷ at_fixed (step_name plan.name) ∷ scrutinee_at r terms)

-- the last argument of a helper: with recursion those values, at the terms of the function's own columns
abbrev pub last_argument : Signature → Plan → Option Recursion → (terms : List Term) → List Term
last_argument S plan None terms = []
last_argument S plan (Some r) terms = values_of_recursion S plan r (take plan.arity terms) ∷ []

-- The left side: the function at its columns' terms as the patterns show them, or a helper at the terms of its telescope.
abbrev pub left_side : Signature → Plan → (k : ℕ) → Pats → Site → Term
left_side S plan zero pats site =
    applied (Const (number_of S plan.name)) (all_shown S (λ t. in_signature S plan (under_solution site.binds t)) pats site.terms)
left_side S plan (suc k) pats site =
    applied (Const (number_of S (part_name plan (suc k))))
    (site.substitution ++ last_argument S plan (recursion_of S plan) site.terms)

-- The right side: a term with the clause's bindings, or the call of a helper over the context of the clause's own walk.
abbrev pub right_side : Signature → Plan → (side : Term) → Site → Term
right_side S plan side site =
    cond (is_helper plan.base (head_of side))
    (applied (in_signature S plan (under_solution site.walked side)) (last_argument S plan (recursion_of S plan) site.terms))
    (in_signature S plan (under_solution site.binds side))

-- the equation there, or Deep where a side is too high
abbrev pub equation_at : Signature → Plan → (k : ℕ) → Pats → (side : Term) → Site → Result Equation Stop
equation_at S plan k pats side site =
    and_then (bounded (left_side S plan k pats site)) (λ u.
    and_then (bounded (right_side S plan side site)) (λ v.
    Ok (record { context = site.context; type = site.goal; left = u; right = v })))

-- ---- of a clause of a plan

abbrev pub part_at : Plan → (k : ℕ) → Part
part_at plan k = get_or plan.parts k no_part

abbrev pub side_of : Part → (clause : ℕ) → Term
side_of part clause = get_or part.sides clause (Sort 0)

abbrev pub pats_of : Part → (clause : ℕ) → Pats
pats_of part clause = get_or part.pats clause pattern.nil

-- a clause at its own walk
abbrev pub walk_site : Walk → Site
walk_site w = record {
  context = w.ctx;
  goal = w.goal;
  substitution = w.subst;
  terms = w.terms;
  binds = w.binds;
  walked = variables (length w.ctx);
}

-- The equation of clause `clause` of part k, whose own walk is w.
abbrev pub equation_of : Signature → Plan → (k clause : ℕ) → Walk → Result Equation Stop
equation_of S plan k clause w =
    equation_at S plan k (pats_of (part_at plan k) clause) (side_of (part_at plan k) clause) (walk_site w)

-- a clause at a leaf of the tree, which starts from the variables in an order
abbrev pub leaf_site : (order : List ℕ) → Walk → Telescope → (goal : Term) → (substitution terms binds : List Term) → Site
leaf_site order w context goal substitution terms binds =
    let values = in_old_order order substitution in
    record {
      context = context;
      goal = goal;
      substitution = values;
      terms = terms;
      binds = binds;
      walked = mapping w values terms;
    }
