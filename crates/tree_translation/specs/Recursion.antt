-- Recursion at a position: the order of the function's variables, and the below value of a term.
use Rattle.std.specs.Prelude.{ℕ, Option, Some, None, option_map, option_and_then, List, [], ◌∷◌, ◌++◌, length, map, take, drop}
use Rattle.theory.specs.Terms.{Term, Const}
use Rattle.theory.specs.Substitutions.{inst, fill}
use Rattle.theory.specs.Telescopes.{Telescope, applied}
use Rattle.theory.specs.Eliminators.{no_variable}
use Rattle.theory.specs.Families.{Family}
use Rattle.theory.specs.Signatures.{Signature}
use Rattle.theory.specs.Spines.{spine_of}
use Rattle.kernel_reduce.specs.Entries.{family_at}
use Rattle.tele_eq.specs.Items.{term_at}
use Rattle.tele_eq.specs.Environments.{put}
use Rattle.unification.specs.Solving.{reordered, new_context}
use Rattle.tree_translation.specs.structural_rec.Positions.{Admission, admission}
use Rattle.tree_translation.specs.structural_rec.Orders.{recursive_positions, recursion_order}
use Rattle.tree_translation.specs.Naming.{Naming, below_name, motive_name}
use Rattle.tree_translation.specs.Plans.{Plan, own_part}
use Rattle.tree_translation.specs.Standings.{levels_from}

-- the position, its admission, and the family of its type
pub record Recursion : Type 0 where
  pub position : ℕ
  pub admission : Admission
  pub family : Family

abbrev pub recursion_with : (j : ℕ) → Admission → Family → Recursion
recursion_with j a f = record { position = j; admission = a; family = f }

abbrev pub recursion_at : Signature → Telescope → (j : ℕ) → Option Recursion
recursion_at S tele j =
    option_and_then (λ a. option_map (recursion_with j a) (family_at S a.number)) (admission S tele j)

-- at the position of the plan, or None without recursion
abbrev pub recursion_of : Signature → Plan → Option Recursion
recursion_of S plan = option_and_then (recursion_at S (own_part plan).tele) plan.position

-- ---- the order of variables

-- F, is and x: these positions come first
abbrev pub first_positions : Recursion → List ℕ
first_positions r = recursive_positions r.position r.admission

-- the old positions in their new order
abbrev pub order_of : (count : ℕ) → Option Recursion → List ℕ
order_of count None = levels_from 0 count
order_of count (Some r) = recursion_order count r.position r.admission

-- R: the other positions
abbrev pub remaining_positions : (count : ℕ) → Recursion → List ℕ
remaining_positions count r = drop (length (first_positions r)) (recursion_order count r.position r.admission)

-- the telescope in that order, and a goal over it
abbrev pub ordered_telescope : Telescope → (order : List ℕ) → Telescope
ordered_telescope tele order = new_context tele (reordered order) 0 order

abbrev pub ordered_term : (count : ℕ) (order : List ℕ) → Term → Term
ordered_term count order t = put (reordered order) count count t

-- ---- at terms of the function's telescope

-- the terms at some positions
abbrev pub terms_at : (positions : List ℕ) → List Term → List Term
terms_at positions terms = map (term_at terms) positions

-- ps: the parameters in the type of the position
abbrev pub parameters_at : Telescope → Recursion → List Term → List Term
parameters_at tele r terms =
    take (length r.family.parameters) (spine_of (inst (fill no_variable (take r.position terms)) (term_at tele r.position)))

-- F!motive F
abbrev pub motive_at : Naming → Plan → Recursion → List Term → Term
motive_at number plan r terms = applied (Const (number (motive_name plan.name))) (terms_at r.admission.fixed terms)

-- One of the recursions of a function, each inside those before it: the name of its motive, which is over the fixed terms, and the places
-- of the earlier below values among these.
pub record NamedRecursion : Type 0 where
  pub recursion : Recursion
  pub motive : List ℕ
  pub places : List ℕ

-- recursion at one position, if there is recursion: its motive is over the fixed terms alone
abbrev pub recursions_named : (motive : List ℕ) → Option Recursion → List NamedRecursion
recursions_named motive None = []
recursions_named motive (Some r) = record { recursion = r; motive = motive; places = [] } ∷ []

abbrev pub recursions_in : Plan → Option Recursion → List NamedRecursion
recursions_in plan r = recursions_named (motive_name plan.name) r

-- terms with values put in at these places, one after the other
abbrev pub with_values : (places : List ℕ) (values terms : List Term) → List Term
with_values (p ∷ places) (v ∷ values) terms = with_values places values (take p terms ++ v ∷ drop p terms)
with_values _ _ terms = terms

-- the motive of a recursion, at terms of the function's telescope and the earlier below values
abbrev pub motive_with : Naming → NamedRecursion → (terms values : List Term) → Term
motive_with number c terms values =
    applied (Const (number c.motive)) (with_values c.places values (terms_at c.recursion.admission.fixed terms))

-- is, x
abbrev pub scrutinee_at : Recursion → List Term → List Term
scrutinee_at r terms = terms_at (r.admission.indices ++ r.position ∷ []) terms

-- the type of the below value of a motive: D!below.L ps motive is x
abbrev pub below_with : Naming → Plan → Recursion → (motive : Term) → List Term → Term
below_with number plan r motive terms =
    applied (Const (number (below_name r.family plan.level)))
    (parameters_at (own_part plan).tele r terms ++ motive ∷ scrutinee_at r terms)

-- D!below.L ps (F!motive F) is x
abbrev pub below_type : Naming → Plan → Recursion → List Term → Term
below_type number plan r terms = below_with number plan r (motive_at number plan r terms) terms
