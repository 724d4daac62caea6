-- The terms of cycles have constants of one kind, where the names that they may mention have numbers of that kind.
use Rattle.std.proofs.Common.{ℕ, zero, suc, ◌+◌, ◌-◌, ◌==◌, Bool, true, false, cond, Option, Some, None, List, [], ◌∷◌, ◌++◌, length, drop}
use Rattle.theory.specs.Terms.{Term, Var, App, Const, Fam, Con, Elim}
use Rattle.theory.specs.Substitutions.{fill}
use Rattle.theory.specs.Telescopes.{applied}
use Rattle.theory.specs.Spines.{spine_of}
use Rattle.theory.specs.Eliminators.{no_variable}
use Rattle.theory.specs.Signatures.{equality}
use Rattle.core_terms.specs.Levels.{variable, run}
use Rattle.core_sig.specs.Shapes.{ArgumentShape, ConstructorShape}
use Rattle.case_below_gen.specs.Components.{pair_of}
use Rattle.case_below_gen.specs.PartTests.{constructor_of}
use Rattle.case_below_gen.specs.Paths.{with_arguments}
use Rattle.case_below_gen.specs.Projections.{side_variable}
use Rattle.case_below_gen.specs.declared.sides.Side.{Side}
use Rattle.case_below_gen.specs.declared.sides.Side.TheVariants.{First, Second}
use Rattle.generators.specs.acyclic_gen.AcyclicEntries.{acyclic_name}
use Rattle.generators.specs.acyclic_gen.DirectEntries.{direct_name}
use Rattle.generators.specs.acyclic_gen.Statements.{carrier_at, head_at, point_at, at_level, equal, unequal_to, unequal, no_part, not_within, directs, none_within}
use Rattle.generators.specs.acyclic_gen.Pairings.{Pairing, Within, Several, side_type, projection, component}
use Rattle.generators.specs.declared.acyclic_gen.carrier.Carrier.{Carrier}
use Rattle.generators.specs.declared.acyclic_gen.direct_arguments.Direct.{Direct}
use Rattle.generators.specs.declared.acyclic_gen.point.Head.{Head}
use Rattle.generators.specs.declared.acyclic_gen.point.Head.TheVariants.{Variable, Constructor}
use Rattle.generators.specs.declared.acyclic_gen.point.Point.{Point}
use Rattle.unification.specs.Built.{Built}
use Rattle.tree_translation.specs.Naming.{Naming, left_name}
use Rattle.tree_translation.specs.Standings.{Standing, inside, here}
use Rattle.tree_translation.specs.CycleTerms.{Search, is_sought, is_below_along, said_of, component_along, component_for, cycle_motive, number_here, search_at, carrier_type, transported_acyclic, by_acyclicity, cycle_term}
use Rattle.tree_translation.specs.RunTerms.{on_side, cycle_names}
use Rattle.entry_laws.proofs.OnlyConstants.{Each, each-append, each-drop, HasOnly, only-chosen, only-inst, only-filled, only-applied, only-spine, only-run}
use Rattle.entry_laws.proofs.OnlyEquations.{only-equation_of, only-reflexivity}
use Rattle.entry_laws.proofs.OnlyFamilies.{BuiltOnly}
use Rattle.entry_laws.proofs.OnlyStates.{StandingOnly, OptionOnly, only-placed, only-all_placed}
use Rattle.entry_laws.proofs.OnlyPaths.{only-side_variable, only-pair_of}

-- ---- what is said of parts

only-carrier : {Q : ℕ → Type 0} (q : Carrier) (depth : ℕ) → HasOnly Q (carrier_at q depth)
only-carrier q depth =
    only-applied (applied (Fam q.family) (run depth 0 q.params)) (run depth 0 0) (only-applied (Fam q.family) (run depth 0 q.params) HasOnly.of_fam (only-run depth 0 q.params))
    (only-run depth 0 0)

only-head : {Q : ℕ → Type 0} (q : Carrier) (depth : ℕ) (head : Head) → HasOnly Q (head_at q depth head)
only-head q depth (Variable level) = HasOnly.of_var
only-head q depth (Constructor number) = only-applied (Con q.family number) (run depth 0 q.params) HasOnly.of_con (only-run _ _ _)

only-point : {Q : ℕ → Type 0} (q : Carrier) (depth : ℕ) (x : Point) → HasOnly Q (point_at q depth x)
only-point q depth x = only-applied (head_at q depth x.head) (run depth x.start x.count) (only-head q depth x.head) (only-run _ _ _)

only-equal : {Q : ℕ → Type 0} (q : Carrier) (depth : ℕ) (x : Point) (y : Term) → HasOnly Q y → HasOnly Q (equal q depth x y)
only-equal q depth x y h = only-equation_of q.level (carrier_at q depth) (point_at q depth x) y (only-carrier q depth) (only-point q depth x) h

only-unequal_to : {Q : ℕ → Type 0} (q : Carrier) (depth : ℕ) (x : Point) → HasOnly Q (unequal_to q depth x)
only-unequal_to q depth x = HasOnly.of_lam (only-carrier q depth) (HasOnly.of_pi (only-equal q (depth + 1) x (Var 0) HasOnly.of_var) HasOnly.of_fam)

only-unequal : {Q : ℕ → Type 0} (q : Carrier) (depth : ℕ) (x y : Point) → HasOnly Q (unequal q depth x y)
only-unequal q depth x y = HasOnly.of_app (only-unequal_to q depth x) (only-point q depth y)

only-no_part : {Q : ℕ → Type 0} (q : Carrier) (depth : ℕ) (x y : Point) → Q q.direct → HasOnly Q (no_part q depth x y)
only-no_part q depth x y direct =
    HasOnly.of_app
    (HasOnly.of_app (only-applied (Const q.direct) (run depth 0 q.params) (HasOnly.of_const direct) (only-run _ _ _)) (only-unequal_to q depth x))
    (only-point q depth y)

only-not_within : {Q : ℕ → Type 0} (q : Carrier) (depth : ℕ) (x y : Point) → Q q.direct → HasOnly Q (not_within q depth x y)
only-not_within q depth x y direct = only-pair_of q.level (unequal q depth x y) (no_part q depth x y) (only-unequal q depth x y) (only-no_part q depth x y direct)

only-none_within : {Q : ℕ → Type 0} (q : Carrier) (depth : ℕ) (x : Point) (ds : List Direct) → Q q.direct → HasOnly Q (none_within q depth x ds)
only-none_within q depth x [] direct = HasOnly.of_fam
only-none_within q depth x (d ∷ ds) direct =
    only-pair_of q.level (not_within q depth x (at_level d.argument)) (none_within q depth x ds) (only-not_within q depth x (at_level d.argument) direct)
    (only-none_within q depth x ds direct)

only-side_type : {Q : ℕ → Type 0} (side : Side) (q : Carrier) (depth : ℕ) (pairing : Pairing) → Q q.direct → HasOnly Q (side_type side q depth pairing)
only-side_type First q depth (Within x y) direct = only-unequal q depth x y
only-side_type Second q depth (Within x y) direct = only-no_part q depth x y direct
only-side_type First q depth (Several x d ds) direct = only-not_within q depth x (at_level d.argument) direct
only-side_type Second q depth (Several x d ds) direct = only-none_within q depth x ds direct

only-projection : {Q : ℕ → Type 0} (side : Side) (q : Carrier) (depth : ℕ) (pairing : Pairing) (pair : Term) → Q q.direct → HasOnly Q pair
    → HasOnly Q (projection side q depth pairing pair)
only-projection side q depth pairing pair direct h =
    let first = only-side_type First q depth pairing direct in
    let second = only-side_type Second q depth pairing direct in
    HasOnly.of_app
    (HasOnly.of_app
    (HasOnly.of_app (HasOnly.of_app (HasOnly.of_app HasOnly.of_elim first) second)
    (HasOnly.of_lam (only-pair_of q.level (side_type First q depth pairing) (side_type Second q depth pairing) first second) (only-side_type side q (depth + 1) pairing direct)))
    (HasOnly.of_lam first (HasOnly.of_lam (only-side_type Second q (depth + 1) pairing direct) (only-side_variable side))))
    h

only-component : {Q : ℕ → Type 0} (q : Carrier) (depth : ℕ) (x : Point) (wanted : ℕ) (ds : List Direct) (tuple : Term) → Q q.direct → HasOnly Q tuple
    → HasOnly Q (component q depth x wanted ds tuple)
only-component q depth x wanted [] tuple direct h = h
only-component q depth x wanted (d ∷ ds) tuple direct h =
    only-chosen (d.argument == wanted) (projection First q depth (Several x d ds) tuple) _ (only-projection First q depth (Several x d ds) tuple direct h)
    (only-component q depth x wanted ds (projection Second q depth (Several x d ds) tuple) direct (only-projection Second q depth (Several x d ds) tuple direct h))

-- ---- what is found

pub record SearchOnly (Q : ℕ → Type 0) (c : Search) : Type 0 where
  pub direct : Q c.carrier.direct
  pub parameters : Each (HasOnly Q) c.parameters

only-said : {Q : ℕ → Type 0} (c : Search) (side : Side) (whole : Term) (arguments : List ArgumentShape) (at : ℕ) (tuple : Term) → SearchOnly Q c → HasOnly Q whole
    → HasOnly Q tuple → HasOnly Q (said_of c side whole arguments at tuple)
only-said c side whole arguments at tuple hc hw ht =
    let q = c.carrier in
    let first = q.params + 1 in
    let last = first + length arguments in
    let rest = drop q.params (spine_of whole) ++ tuple ∷ [] in
    let found = component q (last + 1) (at_level q.params) (first + at) (directs first 0 arguments) (variable (last + 1) last) in
    only-inst (fill no_variable (c.parameters ++ Var c.x ∷ rest)) (projection side q (last + 1) (Within (at_level q.params) (at_level (first + at))) found)
    (only-filled (c.parameters ++ Var c.x ∷ rest)
    (each-append c.parameters (Var c.x ∷ rest) hc.parameters
    (Each.more HasOnly.of_var (each-append (drop q.params (spine_of whole)) (tuple ∷ []) (each-drop q.params (spine_of whole) (only-spine whole hw)) (Each.more ht Each.none)))))
    (only-projection side q (last + 1) (Within (at_level q.params) (at_level (first + at))) found hc.direct
    (only-component q (last + 1) (at_level q.params) (first + at) (directs first 0 arguments) (variable (last + 1) last) hc.direct HasOnly.of_var))

only-with : {Q : ℕ → Type 0} (o : Option ConstructorShape) (t : Term) (go : List ArgumentShape → Term) → HasOnly Q t → ((arguments : List ArgumentShape) → HasOnly Q (go arguments))
    → HasOnly Q (with_arguments o t go)
only-with None t go h each = h
only-with (Some c) t go h each = each c.arguments

only-component_along : {Q : ℕ → Type 0} (c : Search) (whole : Term) (arguments : List ArgumentShape) (at : ℕ) (t tuple : Term) → SearchOnly Q c → HasOnly Q whole
    → HasOnly Q t → HasOnly Q tuple → HasOnly Q (component_along c whole arguments at t tuple)
only-component_along c whole arguments (suc at) (App g r) tuple hc hw (HasOnly.of_app hg hr) h =
    only-chosen (is_below_along c arguments at g) (component_along c whole arguments at g tuple) _ (only-component_along c whole arguments at g tuple hc hw hg h)
    (only-chosen (is_sought c r) (said_of c First whole arguments at tuple) _ (only-said c First whole arguments at tuple hc hw h)
    (only-with (constructor_of c.family c.shape r) tuple _ h
    (λ inner.
    only-component_along c r inner (length inner) r (said_of c Second whole arguments at tuple) hc hr hr (only-said c Second whole arguments at tuple hc hw h))))
only-component_along c whole arguments zero t tuple hc hw ht h = h
only-component_along c whole arguments (suc at) t tuple hc hw ht h = h

only-component_for : {Q : ℕ → Type 0} (c : Search) (whole tuple : Term) → SearchOnly Q c → HasOnly Q whole → HasOnly Q tuple → HasOnly Q (component_for c whole tuple)
only-component_for c whole tuple hc hw h =
    only-with (constructor_of c.family c.shape whole) tuple _ h (λ arguments. only-component_along c whole arguments (length arguments) whole tuple hc hw hw h)

-- ---- acyclicity

only-cycle_motive : {Q : ℕ → Type 0} (q : Carrier) (from_left : Bool) → Q q.direct → HasOnly Q (cycle_motive q from_left)
only-cycle_motive q from_left direct =
    let depth = q.params + 1 in
    HasOnly.of_lam (only-carrier q depth)
    (HasOnly.of_lam
    (only-chosen from_left (equal q (depth + 1) (at_level q.params) (variable (depth + 1) depth)) (equal q (depth + 1) (at_level depth) (variable (depth + 1) q.params))
    (only-equal q (depth + 1) (at_level q.params) (variable (depth + 1) depth) HasOnly.of_var)
    (only-equal q (depth + 1) (at_level depth) (variable (depth + 1) q.params) HasOnly.of_var))
    (only-no_part q (depth + 2) (at_level q.params) (at_level depth) direct))

only-carrier_type : {Q : ℕ → Type 0} (c : Search) → SearchOnly Q c → HasOnly Q (carrier_type c)
only-carrier_type c hc = only-applied (Fam c.family) c.parameters HasOnly.of_fam hc.parameters

-- the numbers of the names that a cycle mentions
pub record CycleNumbers (Q : ℕ → Type 0) (number : Naming) (from_left : Bool) (b : Built) : Type 0 where
  pub direct : Q (number (direct_name b.family.name))
  pub acyclic : Q (number (acyclic_name b.family.name))
  pub head : HasOnly Q (cond from_left (Elim (equality b.family.level) b.family.level) (Const (number (left_name b.family.level b.family.level))))

only-transported : {Q : ℕ → Type 0} (number : Naming) (from_left : Bool) (b : Built) (c : Search) (side e : Term) → CycleNumbers Q number from_left b → SearchOnly Q c
    → HasOnly Q side → HasOnly Q e → HasOnly Q (transported_acyclic number from_left b c side e)
only-transported number from_left b c side e named hc hs he =
    only-applied _ _ named.head
    (Each.more (only-carrier_type c hc)
    (Each.more HasOnly.of_var
    (Each.more
    (only-inst (fill no_variable (c.parameters ++ Var c.x ∷ [])) (cycle_motive c.carrier from_left)
    (only-filled (c.parameters ++ Var c.x ∷ []) (each-append c.parameters (Var c.x ∷ []) hc.parameters (Each.more HasOnly.of_var Each.none)))
    (only-cycle_motive c.carrier from_left hc.direct))
    (Each.more (HasOnly.of_app (only-applied (Const (number (acyclic_name b.family.name))) c.parameters (HasOnly.of_const named.acyclic) hc.parameters) HasOnly.of_var)
    (Each.more hs (Each.more he Each.none))))))

only-by_acyclicity : {Q : ℕ → Type 0} (number : Naming) (L : ℕ) (s : Standing) (from_left : Bool) (b : Built) (side : Term) (c : Search)
    → CycleNumbers Q number from_left b → StandingOnly Q s → SearchOnly Q c → HasOnly Q side → HasOnly Q (by_acyclicity number L s from_left b side c)
only-by_acyclicity number L s from_left b side c named h hc hs =
    HasOnly.of_app
    (HasOnly.of_app HasOnly.of_elim (HasOnly.of_lam HasOnly.of_fam (only-placed s.variables (inside s + 1) s.goal h.goal)))
    (HasOnly.of_app
    (only-component_for c side (transported_acyclic number from_left b c side (Var (inside s - (s.depth + 1)))) hc hs
    (only-transported number from_left b c side (Var (inside s - (s.depth + 1))) named hc hs HasOnly.of_var))
    (only-reflexivity b.family.level (carrier_type c) (Var c.x) (only-carrier_type c hc) HasOnly.of_var))

only-one_side : {Q : ℕ → Type 0} (number : Naming) (L : ℕ) (s : Standing) (x : ℕ) (from_left : Bool) (b : Built) (side : Term) → CycleNumbers Q number from_left b
    → StandingOnly Q s → BuiltOnly Q b → HasOnly Q side → HasOnly Q (cycle_term number L s x from_left b side)
only-one_side number L s x from_left b side named h hb hs =
    only-by_acyclicity number L s from_left b (here s side) (search_at number s (number_here s x) b) named h
    (record { direct = named.direct; parameters = only-all_placed s.variables (inside s) b.parameters hb.parameters })
    (only-placed s.variables (inside s) side hs)

pub only-cycle_term : {Q : ℕ → Type 0} (number : Naming) (L : ℕ) (s : Standing) (x : ℕ) (left right : Term) (from_left from_right : Option Built)
    → Each (λ name. Q (number name)) (cycle_names from_left from_right) → StandingOnly Q s → HasOnly Q left → HasOnly Q right → OptionOnly (BuiltOnly Q) from_left
    → OptionOnly (BuiltOnly Q) from_right → HasOnly Q (on_side left right from_left from_right (cycle_term number L s x))
only-cycle_term number L s x left right (Some d) (Some b) (Each.more direct (Each.more acyclic all)) h hl hr hd hb =
    only-one_side number L s x true b right (record { direct = direct; acyclic = acyclic; head = HasOnly.of_elim }) h hb hr
only-cycle_term number L s x left right None (Some b) (Each.more direct (Each.more acyclic all)) h hl hr hd hb =
    only-one_side number L s x true b right (record { direct = direct; acyclic = acyclic; head = HasOnly.of_elim }) h hb hr
only-cycle_term number L s x left right (Some b) None (Each.more direct (Each.more back (Each.more acyclic all))) h hl hr hd hb =
    only-one_side number L s x false b left (record { direct = direct; acyclic = acyclic; head = HasOnly.of_const back }) h hd hl
only-cycle_term number L s x left right None None all h hl hr hd hb = HasOnly.of_sort
