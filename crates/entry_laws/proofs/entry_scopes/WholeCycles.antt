-- The terms of cycles are scoped, over a signature that begins with the prelude.
use Rattle.std.proofs.Common.{inl, inr, ℕ, zero, suc, ◌+◌, ◌-◌, ◌<◌, ◌≤◌, Bool, true, false, cond, Option, Some, None, List, [], ◌∷◌, ◌++◌, length, drop, refl, arith}
use Rattle.std.proofs.lemmas.Option.{slice_get_within}
use Rattle.theory.specs.Terms.{Term, Var, Sort, Pi, Lam, App, Let, Const, Fam, Con, Elim, AxiomK, top}
use Rattle.theory.specs.Substitutions.{fill}
use Rattle.theory.specs.Spines.{spine_of}
use Rattle.theory.specs.Eliminators.{no_variable}
use Rattle.theory.specs.Prelude.{prelude, empty_type, unit_type, pair_type, empty_family, equality_family}
use Rattle.theory.specs.Signatures.{Signature, Definition, FamilyOf, IsEntryAt, IsPrefix, equality}
use Rattle.theory.specs.SignatureScopes.{IsConstantNumber, IsFamilyNumber, HasEntries, IsScoped}
use Rattle.theory.proofs.ScopedTerms.{inst-scoped, spine-scoped, sort-scoped, var-scoped, scoped-app, lam-scoped, app-scoped}
use Rattle.theory.proofs.Widening.{prefix_keeps}
use Rattle.core_terms.specs.Levels.{variable}
use Rattle.core_sig.specs.DraftScopes.{IsDraftNumber, HasDraftEntries, IsDraftTerm}
use Rattle.core_sig.specs.Shapes.{ArgumentShape, ConstructorShape, by_kind, recursive_count}
use Rattle.core_sig.specs.declared.family.ArgKind.{ArgKind}
use Rattle.core_sig.specs.declared.family.ArgKind.TheVariants.{Plain, Recursive}
use Rattle.core_sig.proofs.PlacedDrafts.{lam-draft, draft-more, variable-draft}
use Rattle.case_below_gen.specs.PartTests.{constructor_of}
use Rattle.case_below_gen.specs.Paths.{with_arguments}
use Rattle.case_below_gen.specs.declared.sides.Side.{Side}
use Rattle.case_below_gen.specs.declared.sides.Side.TheVariants.{First, Second}
use Rattle.case_below_gen.proofs.ScopedCourses.{HasPairs, pairs-there}
use Rattle.generators.specs.acyclic_gen.AcyclicEntries.{acyclic_name}
use Rattle.generators.specs.acyclic_gen.DirectEntries.{direct_name}
use Rattle.generators.specs.acyclic_gen.Pairings.{Within, projection, component}
use Rattle.generators.specs.acyclic_gen.Statements.{at_level, equal, directs}
use Rattle.generators.proofs.acyclic_gen.ScopedStatements.{Drafted, IsCarrier, at_level-in, carrier-draft, equal-draft, no_part-draft, directs-below, projection-draft, component-draft}
use Rattle.unification.specs.Built.{Built}
use Rattle.unification.specs.ScopedStates.{IsReady}
use Rattle.unification.proofs.BuiltScopes.{IsBuiltIn}
use Rattle.tree_translation.specs.CycleTerms.{Search, is_sought, is_below_along, said_of, component_along, component_for, cycle_motive, search_at, carrier_type, transported_acyclic, cycle_term, number_here}
use Rattle.tree_translation.specs.Naming.{Naming, left_name}
use Rattle.tree_translation.specs.RunTerms.{on_side, cycle_names}
use Rattle.tree_translation.specs.Standings.{Standing, inside, here}
use Rattle.entry_laws.proofs.OnlyConstants.{Each, each-append, each-all, each-drop}
use Rattle.entry_laws.proofs.TableNames.{all-each}
use Rattle.entry_laws.proofs.entry_scopes.DraftSignatures.{with_count, numbers-there, ready-there}
use Rattle.entry_laws.proofs.entry_scopes.WholeStandings.{filled-scoped, IsWhole}
use Rattle.entry_laws.proofs.entry_scopes.WholeTerms.{applied-each, const-scoped, elim-scoped, equality-there, here-scoped, all-here-scoped, goal-scoped}

-- ---- drafts without names

whole-entries : (T : Signature) (base : ℕ) (t : Term) → HasDraftEntries T base 0 t → HasEntries T t
whole-entries T base (Pi a b) h = (whole-entries T base a h.0, whole-entries T base b h.1)
whole-entries T base (Lam a b) h = (whole-entries T base a h.0, whole-entries T base b h.1)
whole-entries T base (App f a) h = (whole-entries T base f h.0, whole-entries T base a h.1)
whole-entries T base (Let a t b) h = (whole-entries T base a h.0, whole-entries T base t h.1, whole-entries T base b h.2)
whole-entries T base (Const c) (inl is) = is.1
whole-entries T base (Const c) (inr (from, to)) = absurd (omega arith)
whole-entries T base (Fam n) h = h
whole-entries T base (Con n c) h = h
whole-entries T base (Elim n m) h = h
whole-entries T base (Var v) h = tt
whole-entries T base (Sort i) h = tt
whole-entries T base (AxiomK i m) h = tt

pub draft-whole : (T : Signature) (n : ℕ) (t : Term) → IsDraftTerm T (length T.entries) 0 n t → IsScoped T n t
draft-whole T n t h = record { variables = h.variables; entries = whole-entries T (length T.entries) t h.entries }

pub constant-named : (T : Signature) (c : ℕ) → IsConstantNumber T c → IsDraftNumber T (length T.entries) 0 c
constant-named T c is = inl (slice_get_within T.entries c (Definition is.0 is.1 is.2) is.3, is)

-- ---- the prelude

pub record HasPrelude (T : Signature) : Type 0 where
  pub empty : IsFamilyNumber T empty_type
  pub pairs : (m : ℕ) → m < top → HasPairs T m

pub prelude-there : (S : Signature) (count : ℕ) → IsPrefix (prelude S.has_k) S → HasPrelude (with_count S count)
prelude-there S count first = record {
  empty = (numbers-there S count).families empty_type (empty_family, (prefix_keeps first).entry empty_type (FamilyOf empty_family) refl);
  pairs = λ m low.
      let is = pairs-there S m first low in
      record {
        unit = (numbers-there S count).families (unit_type m) is.unit;
        empty_tuple = (numbers-there S count).constructors (unit_type m) 0 is.empty_tuple;
        pair = (numbers-there S count).families (pair_type m) is.pair;
        pairing = (numbers-there S count).constructors (pair_type m) 0 is.pairing;
      };
}

few-recursive : (arguments : List ArgumentShape) → recursive_count arguments ≤ length arguments
few-recursive [] = omega arith
few-recursive (a ∷ arguments) = by a.kind (few-recursive arguments)
  where
    by : (kind : ArgKind) → recursive_count arguments ≤ length arguments
        → by_kind kind (recursive_count arguments) (λ inner. recursive_count arguments + 1) ≤ suc (length arguments)
    by Plain low = omega arith
    by (Recursive inner) low = omega arith

-- ---- searches and their results

-- the search for a variable is over so many variables
pub record IsSearch (T : Signature) (d : ℕ) (c : Search) : Type 0 where
  pub carrier : IsCarrier T c.carrier
  pub direct : IsConstantNumber T c.carrier.direct
  pub family : IsFamilyNumber T c.family
  pub parameters : Each (IsScoped T d) c.parameters
  pub variable : c.x < d

module _ (T : Signature) (d : ℕ) (c : Search) (is : IsSearch T d c) where
  said-scoped : (side : Side) (whole : Term) (arguments : List ArgumentShape) (at : ℕ) (tuple : Term) → at < length arguments → IsScoped T d whole → IsScoped T d tuple
      → IsScoped T d (said_of c side whole arguments at tuple)
  said-scoped side whole arguments at tuple low hw ht =
      let q = c.carrier in
      let first = q.params + 1 in
      let last = first + length arguments in
      let rest = drop q.params (spine_of whole) ++ tuple ∷ [] in
      let values = c.parameters ++ Var c.x ∷ rest in
      let found = component q (last + 1) (at_level q.params) (first + at) (directs first 0 arguments) (variable (last + 1) last) in
      let told = projection side q (last + 1) (Within (at_level q.params) (at_level (first + at))) found in
      let named = constant-named T q.direct is.direct in
      let few = few-recursive arguments in
      let all : Each (IsScoped T d) values =
      each-append c.parameters (Var c.x ∷ rest) is.parameters
      (Each.more (var-scoped is.variable)
      (each-append (drop q.params (spine_of whole)) (tuple ∷ []) (each-drop q.params (spine_of whole) (each-all (IsScoped T d) (spine_of whole) (spine-scoped T d whole hw)))
      (Each.more ht Each.none))) in
      inst-scoped T (fill no_variable values) (last + 1) d told (λ v lt. filled-scoped T d values (all-each (IsScoped T d) values all) v)
      (draft-whole T (last + 1) told
      (projection-draft side q (last + 1) (Within (at_level q.params) (at_level (first + at))) found is.carrier named (omega arith)
      (at_level-in q.params (omega arith), at_level-in (first + at) (omega arith))
      (component-draft q (last + 1) (at_level q.params) (first + at) (directs first 0 arguments) (variable (last + 1) last) is.carrier named (omega arith)
      (at_level-in q.params (omega arith)) (directs-below first 0 (last + 1) arguments (omega arith) (omega arith)) (variable-draft last (omega arith)))))

  chosen-scoped : (b : Bool) (t u : Term) → IsScoped T d t → IsScoped T d u → IsScoped T d (cond b t u)
  chosen-scoped true t u h k = h
  chosen-scoped false t u h k = k

  with-scoped : (o : Option ConstructorShape) (t : Term) (go : List ArgumentShape → Term) → IsScoped T d t → ((arguments : List ArgumentShape) → IsScoped T d (go arguments))
      → IsScoped T d (with_arguments o t go)
  with-scoped None t go h each = h
  with-scoped (Some con) t go h each = each con.arguments

  along-scoped : (whole : Term) (arguments : List ArgumentShape) (at : ℕ) (t tuple : Term) → at ≤ length arguments → IsScoped T d whole → IsScoped T d t → IsScoped T d tuple
      → IsScoped T d (component_along c whole arguments at t tuple)
  along-scoped whole arguments (suc at) (App g r) tuple low hw ht h =
      let parts = scoped-app ht in
      let said = said-scoped Second whole arguments at tuple (omega arith) hw h in
      chosen-scoped (is_below_along c arguments at g) (component_along c whole arguments at g tuple) _ (along-scoped whole arguments at g tuple (omega arith) hw parts.0 h)
      (chosen-scoped (is_sought c r) (said_of c First whole arguments at tuple) _ (said-scoped First whole arguments at tuple (omega arith) hw h)
      (with-scoped (constructor_of c.family c.shape r) tuple _ h
      (λ inner. along-scoped r inner (length inner) r (said_of c Second whole arguments at tuple) (omega arith) parts.1 parts.1 said)))
  along-scoped whole arguments zero t tuple low hw ht h = h
  along-scoped whole arguments (suc at) t tuple low hw ht h = h

  component_for-scoped : (whole tuple : Term) → IsScoped T d whole → IsScoped T d tuple → IsScoped T d (component_for c whole tuple)
  component_for-scoped whole tuple hw h =
      with-scoped (constructor_of c.family c.shape whole) tuple _ h (λ arguments. along-scoped whole arguments (length arguments) whole tuple (omega arith) hw hw h)

  -- ---- acyclicity

  motive-scoped : (from_left : Bool) → IsScoped T (c.carrier.params + 1) (cycle_motive c.carrier from_left)
  motive-scoped from_left =
      let q = c.carrier in
      let depth = q.params + 1 in
      let named = constant-named T q.direct is.direct in
      draft-whole T depth (cycle_motive q from_left)
      (lam-draft (carrier-draft q depth is.carrier (omega arith))
      (lam-draft
      (chosen-draft from_left (equal q (depth + 1) (at_level q.params) (variable (depth + 1) depth)) (equal q (depth + 1) (at_level depth) (variable (depth + 1) q.params))
      (equal-draft q (depth + 1) (at_level q.params) (variable (depth + 1) depth) is.carrier (omega arith) (at_level-in q.params (omega arith)) (variable-draft depth (omega arith)))
      (equal-draft q (depth + 1) (at_level depth) (variable (depth + 1) q.params) is.carrier (omega arith) (at_level-in depth (omega arith)) (variable-draft q.params (omega arith))))
      (draft-more (omega arith) (no_part-draft q (depth + 2) (at_level q.params) (at_level depth) is.carrier named (omega arith) (at_level-in q.params (omega arith)) (at_level-in depth (omega arith))))))
    where
      chosen-draft : {m : ℕ} (b : Bool) (t u : Term) → Drafted T 0 m t → Drafted T 0 m u → Drafted T 0 m (cond b t u)
      chosen-draft true t u h k = h
      chosen-draft false t u h k = k

  carrier_type-scoped : IsScoped T d (carrier_type c)
  carrier_type-scoped = applied-each T d (Fam c.family) c.parameters (record { variables = omega arith; entries = is.family }) is.parameters

  pub transported-scoped : (number : Naming) (from_left : Bool) (b : Built) (side e : Term) → IsConstantNumber T (number (acyclic_name b.family.name))
      → IsScoped T d (cond from_left (Elim (equality b.family.level) b.family.level) (Const (number (left_name b.family.level b.family.level))))
      → IsScoped T d side → IsScoped T d e → IsScoped T d (transported_acyclic number from_left b c side e)
  transported-scoped number from_left b side e acyclic head hs he =
      let values = c.parameters ++ Var c.x ∷ [] in
      let all : Each (IsScoped T d) values = each-append c.parameters (Var c.x ∷ []) is.parameters (Each.more (var-scoped is.variable) Each.none) in
      applied-each T d _ _ head
      (Each.more carrier_type-scoped
      (Each.more (var-scoped is.variable)
      (Each.more
      (inst-scoped T (fill no_variable values) (c.carrier.params + 1) d (cycle_motive c.carrier from_left) (λ v lt. filled-scoped T d values (all-each (IsScoped T d) values all) v)
      (motive-scoped from_left))
      (Each.more
      (app-scoped (applied-each T d (Const (number (acyclic_name b.family.name))) c.parameters (const-scoped T d (number (acyclic_name b.family.name)) acyclic) is.parameters)
      (var-scoped is.variable))
      (Each.more hs (Each.more he Each.none))))))

-- ---- the term

-- the numbers of the names that a cycle mentions
pub record CycleConstants (T : Signature) (number : Naming) (from_left : Bool) (b : Built) : Type 0 where
  pub direct : IsConstantNumber T (number (direct_name b.family.name))
  pub acyclic : IsConstantNumber T (number (acyclic_name b.family.name))
  pub head : (d : ℕ) → IsScoped T d (cond from_left (Elim (equality b.family.level) b.family.level) (Const (number (left_name b.family.level b.family.level))))

module _ (S : Signature) (count : ℕ) (ready : IsReady S) (first : HasPrelude (with_count S count)) (w : Standing) (is : IsWhole (with_count S count) w) where
  pub family-low : (b : Built) → IsEntryAt (with_count S count) b.n (FamilyOf b.family) → b.family.level < top
  family-low b at = ((ready-there S count ready).scoped b.n (FamilyOf b.family) at).level

  one-scoped : (number : Naming) (L x : ℕ) (from_left : Bool) (b : Built) (side : Term) → 0 < inside w → CycleConstants (with_count S count) number from_left b
      → IsBuiltIn (with_count S count) (length w.state.context) b → IsScoped (with_count S count) (length w.state.context) side
      → IsScoped (with_count S count) (inside w) (cycle_term number L w x from_left b side)
  one-scoped number L x from_left b side some named hb hs =
      let T = with_count S count in
      let d = inside w in
      let c = search_at number w (number_here w x) b in
      let low = family-low b hb.entry in
      let l = b.family.level in
      let search : IsSearch T d c = record {
        carrier = record { family = (b.family, hb.entry); equality = equality-there T l (ready-there S count ready) low; pairs = first.pairs l low; empty = first.empty };
        direct = named.direct;
        family = (b.family, hb.entry);
        parameters = all-here-scoped S count ready w is b.parameters hb.parameters;
        variable = omega arith;
      } in
      let side_here = here-scoped S count ready w is d side (λ v. some) hs in
      let e : IsScoped T d (Var (inside w - (w.depth + 1))) = var-scoped (omega arith) in
      let type = carrier_type-scoped T d c search in
      app-scoped
      (app-scoped (elim-scoped T d empty_type L first.empty)
      (lam-scoped (record { variables = omega arith; entries = first.empty })
      (here-scoped S count ready w is (d + 1) w.goal (λ v. omega arith) (goal-scoped S count ready w is))))
      (app-scoped
      (component_for-scoped T d c search (here w side) (transported_acyclic number from_left b c (here w side) (Var (inside w - (w.depth + 1)))) side_here
      (transported-scoped T d c search number from_left b (here w side) (Var (inside w - (w.depth + 1))) named.acyclic (named.head d) side_here e))
      (app-scoped (app-scoped (record { variables = omega arith; entries = (equality_family l, ((ready-there S count ready).identities l low).entry, omega arith) }) type)
      (var-scoped search.variable)))

  -- a side that is a constructor
  abbrev pub SideIn : Option Built → Type 0
  SideIn None = Unit {0}
  SideIn (Some b) = IsBuiltIn (with_count S count) (length w.state.context) b

  pub cycle-scoped : (number : Naming) (L x : ℕ) (left right : Term) (from_left from_right : Option Built) → 0 < inside w
      → Each (λ name. IsConstantNumber (with_count S count) (number name)) (cycle_names from_left from_right) → IsScoped (with_count S count) (length w.state.context) left
      → IsScoped (with_count S count) (length w.state.context) right → SideIn from_left → SideIn from_right
      → IsScoped (with_count S count) (inside w) (on_side left right from_left from_right (cycle_term number L w x))
  cycle-scoped number L x left right (Some e) (Some b) some (Each.more direct (Each.more acyclic all)) hl hr he hb =
      one-scoped number L x true b right some
      (record { direct = direct; acyclic = acyclic; head = λ d. elim-scoped (with_count S count) d (equality b.family.level) b.family.level (equality-there (with_count S count) b.family.level (ready-there S count ready) (family-low b hb.entry)) })
      hb hr
  cycle-scoped number L x left right None (Some b) some (Each.more direct (Each.more acyclic all)) hl hr he hb =
      one-scoped number L x true b right some
      (record { direct = direct; acyclic = acyclic; head = λ d. elim-scoped (with_count S count) d (equality b.family.level) b.family.level (equality-there (with_count S count) b.family.level (ready-there S count ready) (family-low b hb.entry)) })
      hb hr
  cycle-scoped number L x left right (Some b) None some (Each.more direct (Each.more back (Each.more acyclic all))) hl hr hb he =
      one-scoped number L x false b left some
      (record { direct = direct; acyclic = acyclic; head = λ d. const-scoped (with_count S count) d (number (left_name b.family.level b.family.level)) back }) hb hl
  cycle-scoped number L x left right None None some all hl hr he hb = sort-scoped 0
