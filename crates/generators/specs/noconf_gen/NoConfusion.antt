-- `D!noconf.c.m` proves `D!nct.c.m` from the equations (McBride, Goguen and McKinna, "A few constructions on constructors", 2006;
-- Cockx and Devriese, "Proof-relevant unification", 2018): by telescopic J it is enough to have it for one member and
-- reflexivities.
use Rattle.std.specs.Prelude.{ℕ, ◌+◌, List, [], ◌∷◌, length, Result, codes}
use Rattle.theory.specs.Terms.{Term, Lam, Const}
use Rattle.theory.specs.Telescopes.{applied}
use Rattle.theory.specs.Families.{Family}
use Rattle.core_terms.specs.Levels.{variable, run}
use Rattle.core_terms.specs.declared.levels.Binder.{Binder}
use Rattle.core_terms.specs.declared.levels.Binder.TheVariants.{Product, Function}
use Rattle.core_terms.specs.declared.stop.Stop.{Stop}
use Rattle.core_sig.specs.Shapes.{ConstructorShape, Shape}
use Rattle.core_sig.specs.Drafts.{Draft, drafted, generated_name}
use Rattle.core_sig.specs.FamilyShapes.{family_shape}
use Rattle.tele_eq.specs.TelescopicEquality.{elimination, reflexivities}
use Rattle.generators.specs.noconf_gen.Compared.{argument_items, member_items, constructed}
use Rattle.generators.specs.noconf_gen.NoConfusionTypes.{variable_member, equations_over, motive_type, injective_type, members_over, constructor_at, confusion_level, constructor_mark, constructor_name}

-- \Q h. h refls, with Q : eqs(us, c p s; us, c p s) -> Type m and h : (es : eqs(Ac; s; s)) -> Q congs(es)
abbrev pub reflexive_base : (n : ℕ) (f : Shape) (number : ℕ) → ConstructorShape → (m depth : ℕ) → Term
reflexive_base n f number c m depth =
    let p = length f.parameters in
    let left = constructed n p (length f.indices) number p c in
    Lam (motive_type n f left left m depth)
    (Lam (injective_type n f number c p p depth (depth + 1))
    (applied (variable (depth + 2) (depth + 1))
    (reflexivities (argument_items p (depth + 2) c) (run (depth + 2) p (length c.arguments)))))

-- binds the members, and the equations of us, c p s and js, y, around `end`
abbrev pub equal_members_over : (binder : Binder) (n : ℕ) (f : Shape) (number : ℕ) → ConstructorShape → Term → Term
equal_members_over binder n f number c end =
    let p = length f.parameters in
    let k = length f.indices in
    let start = p + length c.arguments in
    members_over binder n f c
    (equations_over binder n f (constructed n p k number p c) (variable_member k start) (start + k + 1) end)

-- how many variables `D!noconf.c.m` is over: the parameters, the arguments, a member and the equations
abbrev pub whole_depth : (f : Shape) → ConstructorShape → ℕ
whole_depth f c = length f.parameters + length c.arguments + (length f.indices + 1) + (length f.indices + 1)

-- (p) -> (s : Ac) -> (js : I) -> (y : D p js) -> (E : eqs(us, c p s; js, y)) -> D!nct.c.m p s js y E
abbrev pub noconf_type : (n : ℕ) (f : Shape) (number : ℕ) → ConstructorShape → (nct : ℕ) → Term
noconf_type n f number c nct =
    let whole = whole_depth f c in
    equal_members_over Product n f number c (applied (Const nct) (run whole 0 whole))

-- tj(all of E; D!nct.c.m p s js y E; base; j), where D!nct.c.m is a constant
abbrev pub elimination_from : (n : ℕ) (f : Shape) (number : ℕ) → ConstructorShape → (j nct : ℕ) (base : Term) → Term
elimination_from n f number c j nct base =
    let p = length f.parameters in
    let k = length f.indices in
    let start = p + length c.arguments in
    let whole = start + (k + 1) + (k + 1) in
    elimination (member_items n f whole) j (applied (Const nct) (run whole 0 start)) base
    (constructed n p k number p c whole) (run whole start (k + 1)) (run whole (start + (k + 1)) (k + 1))

-- \p s js y E. tj(all of E; D!nct.c.m p s js y E; \Q h. h refls; j)
abbrev pub noconf_term : (n : ℕ) (f : Shape) (number : ℕ) → ConstructorShape → (m j nct : ℕ) → Term
noconf_term n f number c m j nct =
    let whole = whole_depth f c in
    equal_members_over Function n f number c (elimination_from n f number c j nct (reflexive_base n f number c m whole))

-- the entry for constructor c with the given number, of a family with a name and a shape, over `base` entries
abbrev pub noconf_of_constructor : (base : ℕ) (name : List ℕ) (n : ℕ) (f : Shape) (number : ℕ) (constructor : List ℕ) → ConstructorShape → (m : ℕ) → Result Draft Stop
noconf_of_constructor base name n f number constructor c m =
    drafted (generated_name name (constructor_mark (codes "!noconf.") constructor) m) base
    (generated_name name (constructor_mark (codes "!nct.") constructor) m ∷ [])
    (noconf_type n f number c base) (noconf_term n f number c m (confusion_level f m) base)

-- the entry `D!noconf.c.m` for family number n and a constructor of it, over `base` entries; it mentions `D!nct.c.m`
abbrev pub noconf_entry : (base n : ℕ) (f : Family) (number m : ℕ) → Result Draft Stop
noconf_entry base n f number m =
    let shape = family_shape n f in
    noconf_of_constructor base f.name n shape number (constructor_name f number) (constructor_at shape.constructors number) m
