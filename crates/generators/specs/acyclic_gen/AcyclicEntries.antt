-- `D!acyclic`: no term is a part of itself (McBride, Goguen and McKinna, "A few constructions on constructors", 2006).
use Rattle.std.specs.Prelude.{ℕ, ◌+◌, cond, List, [], ◌∷◌, ◌++◌, length, map, Result, codes}
use Rattle.theory.specs.Terms.{Term, Var, App, Con}
use Rattle.theory.specs.Prelude.{unit_type}
use Rattle.theory.specs.Families.{Family}
use Rattle.core_terms.specs.Levels.{variable, bind}
use Rattle.core_terms.specs.declared.levels.Binder.{Binder}
use Rattle.core_terms.specs.declared.levels.Binder.TheVariants.{Product, Function}
use Rattle.core_terms.specs.declared.stop.Stop.{Stop}
use Rattle.core_sig.specs.Shapes.{ArgumentShape, ConstructorShape, Shape, recursive_count}
use Rattle.core_sig.specs.Drafts.{Draft, drafted}
use Rattle.core_sig.specs.FamilyShapes.{family_shape}
use Rattle.case_below_gen.specs.CaseEntries.{closed_over}
use Rattle.case_below_gen.specs.Components.{pair_with}
use Rattle.generators.specs.acyclic_gen.Statements.{carrier_at, at_level, no_part, not_within, none_within, has_direct, directs}
use Rattle.generators.specs.acyclic_gen.Claims.{pushed_whole, eliminator, method_over}
use Rattle.generators.specs.acyclic_gen.Pushing.{pushing}
use Rattle.generators.specs.acyclic_gen.DirectEntries.{carrier_of, direct_name}
use Rattle.generators.specs.acyclic_gen.Answers.{unless_indexed}
use Rattle.generators.specs.declared.acyclic_gen.carrier.Carrier.{Carrier}
use Rattle.generators.specs.declared.acyclic_gen.claims.Claim.TheVariants.{Acyclic}
use Rattle.generators.specs.declared.acyclic_gen.claims.Push.{Push}
use Rattle.generators.specs.declared.acyclic_gen.direct_arguments.Direct.{Direct}
use Rattle.generators.specs.declared.acyclic_gen.stop.AcyclicStop.{AcyclicStop}

-- the push from another direct argument
abbrev pub with_part : Push → ℕ → Push
with_part push argument = record push { part = argument }

-- the tuple of `push a h` for each direct argument a with its hypothesis h
abbrev pub pushes : (q : Carrier) (constructors : List ConstructorShape) (push : Push) (own : List ArgumentShape) (depth : ℕ)
    → List Direct → Term
pushes q constructors push own depth [] = Con (unit_type q.level) 0
pushes q constructors push own depth (d ∷ directs) =
    let whole = pushed_whole push in
    pair_with q.level (not_within q depth whole (at_level d.argument)) (none_within q depth whole directs)
    (App (App (pushing q constructors (with_part push d.argument) own depth) (variable depth d.argument)) (variable depth d.hypothesis))
    (pushes q constructors push own depth directs)

-- \arguments hypotheses. that tuple, with a hypothesis (inner) -> D!direct p (ne (r inner)) (r inner) for each recursive argument
-- r, and the constant `D!noconf.c.0`
abbrev pub acyclic_method : (q : Carrier) (constructors : List ConstructorShape) (depth number noconf : ℕ) → ConstructorShape → Term
acyclic_method q constructors depth number noconf c =
    let count = length c.arguments in
    let inside = depth + count in
    let push : Push = record { constructor = number; noconf = noconf; first = depth; count = count; part = depth } in
    method_over Acyclic q depth c
    (pushes q constructors push c.arguments (inside + recursive_count c.arguments) (directs depth inside c.arguments))

-- the constant after that of a constructor with direct arguments
abbrev pub next_noconf : (noconf : ℕ) → List ArgumentShape → ℕ
next_noconf noconf arguments = cond (has_direct arguments) (noconf + 1) noconf

-- `head` applied to the methods for the constructors from `number` on; each constructor with direct arguments has a constant of
-- its own, and the first of them `noconf`
abbrev pub applied_to_acyclic_methods : (q : Carrier) (constructors : List ConstructorShape) (depth number noconf : ℕ) (head : Term)
    → List ConstructorShape → Term
applied_to_acyclic_methods q constructors depth number noconf head [] = head
applied_to_acyclic_methods q constructors depth number noconf head (c ∷ cs) =
    applied_to_acyclic_methods q constructors depth (number + 1) (next_noconf noconf c.arguments)
    (App head (acyclic_method q constructors depth number noconf c)) cs

-- binds (p) and (x : D p) around `end`
abbrev pub acyclic_over : (binder : Binder) (f : Shape) (q : Carrier) → Term → Term
acyclic_over binder f q end = closed_over binder f.parameters (bind binder (carrier_at q q.params) end)

-- (p) -> (x : D p) -> D!direct p (ne x) x
abbrev pub acyclic_type : (f : Shape) (q : Carrier) → Term
acyclic_type f q = acyclic_over Product f q (no_part q (q.params + 1) (at_level q.params) (at_level q.params))

-- \p x. D!elim.l p (\x. D!direct p (ne x) x) methods x
abbrev pub acyclic_term : (f : Shape) (q : Carrier) (noconf : ℕ) → Term
acyclic_term f q noconf =
    let inside = q.params + 1 in
    acyclic_over Function f q
    (App (applied_to_acyclic_methods q f.constructors inside 0 noconf (eliminator Acyclic q inside) f.constructors) (Var 0))

abbrev pub acyclic_name : List ℕ → List ℕ
acyclic_name family = family ++ codes "!acyclic"

-- `D!noconf.c.0`
abbrev pub noconf_name : (family constructor : List ℕ) → List ℕ
noconf_name family constructor = family ++ codes "!noconf." ++ constructor ++ codes ".0"

-- these names for the constructors with direct arguments
abbrev pub noconf_names : (family : List ℕ) → List (List ℕ) → List ConstructorShape → List (List ℕ)
noconf_names family (name ∷ names) (c ∷ constructors) =
    cond (has_direct c.arguments) (noconf_name family name ∷ noconf_names family names constructors)
    (noconf_names family names constructors)
noconf_names family _ _ = []

-- the name that the type mentions first, and those that the term mentions then
abbrev pub names_for : (family : List ℕ) → List (List ℕ) → List ConstructorShape → List (List ℕ)
names_for family names constructors = direct_name family ∷ noconf_names family names constructors

-- the entry for a family with a name, names of constructors and a shape, over `base` entries
abbrev pub acyclic_draft : (base : ℕ) (name : List ℕ) (constructors : List (List ℕ)) (n : ℕ) (f : Shape) → Result Draft Stop
acyclic_draft base name constructors n f =
    drafted (acyclic_name name) base (names_for name constructors f.constructors)
    (acyclic_type f (carrier_of n f base)) (acyclic_term f (carrier_of n f base) (base + 1))

-- this draft, or Indexed if the family has indices
abbrev pub acyclic_of_shape : (base : ℕ) (name : List ℕ) (constructors : List (List ℕ)) (n : ℕ) (f : Shape) → Result Draft AcyclicStop
acyclic_of_shape base name constructors n f = unless_indexed f.indices (acyclic_draft base name constructors n f)

-- the entry `D!acyclic` for family number n, over `base` entries; it mentions `D!direct`, and `D!noconf.c.0` for each
-- constructor c with direct arguments
abbrev pub acyclic_entry : (base n : ℕ) (f : Family) → Result Draft AcyclicStop
acyclic_entry base n f = acyclic_of_shape base f.name (map (λ c. c.name) f.constructors) n (family_shape n f)
