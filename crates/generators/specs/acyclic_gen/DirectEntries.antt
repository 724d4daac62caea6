-- `D!direct`: a motive at each part of a term, the parts along direct arguments alone (McBride, Goguen and McKinna, "A few
-- constructions on constructors", 2006). The motive P comes after the parameters.
use Rattle.std.specs.Prelude.{ℕ, ◌+◌, List, [], ◌∷◌, ◌++◌, length, Result, codes}
use Rattle.theory.specs.Terms.{Term, Var, Sort, Pi, App, Fam}
use Rattle.theory.specs.Prelude.{unit_type}
use Rattle.theory.specs.Families.{Family}
use Rattle.core_terms.specs.Levels.{variable, bind}
use Rattle.core_terms.specs.declared.levels.Binder.{Binder}
use Rattle.core_terms.specs.declared.levels.Binder.TheVariants.{Product, Function}
use Rattle.core_terms.specs.declared.stop.Stop.{Stop}
use Rattle.core_sig.specs.Shapes.{ConstructorShape, Shape, recursive_count}
use Rattle.core_sig.specs.Drafts.{Draft, drafted}
use Rattle.core_sig.specs.FamilyShapes.{family_shape}
use Rattle.case_below_gen.specs.CaseEntries.{closed_over}
use Rattle.case_below_gen.specs.Components.{pair_of}
use Rattle.case_below_gen.specs.CourseEntries.{applied_to_methods}
use Rattle.generators.specs.acyclic_gen.Statements.{carrier_at, directs}
use Rattle.generators.specs.acyclic_gen.Claims.{eliminator, method_over}
use Rattle.generators.specs.acyclic_gen.Answers.{unless_indexed}
use Rattle.generators.specs.declared.acyclic_gen.carrier.Carrier.{Carrier}
use Rattle.generators.specs.declared.acyclic_gen.claims.Claim.TheVariants.{Direct as Parts}
use Rattle.generators.specs.declared.acyclic_gen.direct_arguments.Direct.{Direct}
use Rattle.generators.specs.declared.acyclic_gen.stop.AcyclicStop.{AcyclicStop}

-- D p for family number n, where `D!direct` is a constant
abbrev pub carrier_of : (n : ℕ) (f : Shape) (direct : ℕ) → Carrier
carrier_of n f direct = record { family = n; level = f.level; params = length f.parameters; direct = direct }

-- Pair.l (Pair.l (P a) h) (.. Unit.l), with the hypothesis h of each direct argument a
abbrev pub parts_type : (q : Carrier) (depth : ℕ) → List Direct → Term
parts_type q depth [] = Fam (unit_type q.level)
parts_type q depth (d ∷ directs) =
    pair_of q.level
    (pair_of q.level (App (variable depth q.params) (variable depth d.argument)) (variable depth d.hypothesis))
    (parts_type q depth directs)

-- \arguments hypotheses. that tuple type, with a hypothesis h : (inner) -> Type l for each recursive argument
abbrev pub direct_method : (q : Carrier) (depth : ℕ) → ConstructorShape → Term
direct_method q depth c =
    let inside = depth + length c.arguments in
    method_over Parts q depth c (parts_type q (inside + recursive_count c.arguments) (directs depth inside c.arguments))

-- binds (p), (P : D p -> Type l) and (x : D p) around `end`
abbrev pub direct_over : (binder : Binder) (f : Shape) (q : Carrier) → Term → Term
direct_over binder f q end =
    closed_over binder f.parameters
    (bind binder (Pi (carrier_at q q.params) (Sort q.level)) (bind binder (carrier_at q (q.params + 1)) end))

-- (p) -> (P : D p -> Type l) -> D p -> Type l
abbrev pub direct_type : (f : Shape) (q : Carrier) → Term
direct_type f q = direct_over Product f q (Sort q.level)

-- \p P x. D!elim.(l+1) p (\x. Type l) methods x
abbrev pub direct_term : (f : Shape) (q : Carrier) → Term
direct_term f q =
    let inside = q.params + 2 in
    direct_over Function f q
    (App (applied_to_methods (λ number c. direct_method q inside c) 0 (eliminator Parts q inside) f.constructors) (Var 0))

abbrev pub direct_name : List ℕ → List ℕ
direct_name family = family ++ codes "!direct"

-- the entry for a family with a name and a shape, over `base` entries
abbrev pub direct_draft : (base : ℕ) (name : List ℕ) (n : ℕ) (f : Shape) → Result Draft Stop
direct_draft base name n f =
    drafted (direct_name name) base [] (direct_type f (carrier_of n f base)) (direct_term f (carrier_of n f base))

-- the draft, or Indexed if the family has indices
abbrev pub direct_of_shape : (base : ℕ) (name : List ℕ) (n : ℕ) (f : Shape) → Result Draft AcyclicStop
direct_of_shape base name n f = unless_indexed f.indices (direct_draft base name n f)

-- the entry `D!direct` for family number n, over `base` entries; it mentions no generated constant
abbrev pub direct_entry : (base n : ℕ) (f : Family) → Result Draft AcyclicStop
direct_entry base n f = direct_of_shape base f.name n (family_shape n f)
