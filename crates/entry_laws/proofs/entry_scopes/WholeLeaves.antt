-- The term of a leaf is scoped, where the constants of its side are called with numbers of constants.
use Rattle.std.proofs.Common.{◌≡◌, ℕ, zero, suc, ◌+◌, ◌-◌, ◌<◌, ◌==◌, Bool, true, false, cond, Option, Some, None, List, [], ◌∷◌, ◌++◌, length, take, drop, sym, subst, arith}
use Rattle.std.specs.Option.{option_or}
use Rattle.theory.specs.Terms.{Term, Var, Sort, Pi, Lam, App, Let, Const, Fam, Con, Elim, AxiomK, lift}
use Rattle.theory.specs.Substitutions.{ren, up, inst, ups}
use Rattle.theory.specs.Telescopes.{applied}
use Rattle.theory.specs.Signatures.{Signature}
use Rattle.theory.specs.SignatureScopes.{IsConstantNumber, IsFamilyNumber, IsConstructorNumber, IsScoped}
use Rattle.theory.proofs.ScopedTerms.{HasNumbers, scoped-pi, scoped-lam, scoped-app, scoped-let, pi-scoped, lam-scoped, let-scoped, var-scoped, sort-scoped, scoped_over_more, lift-scoped}
use Rattle.core_terms.specs.CaseTrees.{Walk}
use Rattle.core_sig.specs.FamilyShapes.{family_shape}
use Rattle.case_below_gen.specs.Paths.{path_of}
use Rattle.case_below_gen.specs.PartTests.{has_part}
use Rattle.case_below_gen.proofs.ScopedCourses.{HasPairs}
use Rattle.tele_eq.specs.Items.{term_at, each_position}
use Rattle.tele_eq.specs.Levels.{place_in}
use Rattle.unification.specs.Injecting.{lifted}
use Rattle.unification.proofs.Cases.{first-of_two, second-of_two}
use Rattle.tree_translation.specs.Mappings.{have_one_constructor, found_in, found_along, found_among, or_sort, mapping, in_old_order}
use Rattle.tree_translation.specs.Naming.{Naming, below_name, motive_name, helper_name}
use Rattle.tree_translation.specs.Plans.{Plan}
use Rattle.tree_translation.specs.Recursion.{NamedRecursion, Recursion, terms_at, motive_with, with_values, recursions_in, remaining_positions}
use Rattle.tree_translation.specs.RightSides.{BelowValue, Place, descent_at, applied_path, call_by_path, call_in, belows_under, belows_behind, helper_call, constant_at, with_calls}
use Rattle.entry_laws.proofs.OnlyConstants.{Each, each-append, each-map, each-take, each-drop, each-get}
use Rattle.entry_laws.proofs.OnlyStates.{OptionOnly}
use Rattle.entry_laws.proofs.OnlyLeaves.{second-of-same, second-of-other}
use Rattle.entry_laws.proofs.entry_scopes.WholePaths.{Constructors, scoped-path_of}
use Rattle.entry_laws.proofs.entry_scopes.WholeTerms.{applied-each, const-scoped}

-- ---- terms whose constants are of one kind

-- a term over n variables with families of T, each constant of which has C
pub data IsOver (T : Signature) (C : ℕ → Type 0) : ℕ → Term → Type 0 where
  of_var : {n v : ℕ} → v < n → IsOver T C n (Var v)
  of_sort : {n i : ℕ} → IsOver T C n (Sort i)
  of_pi : {n : ℕ} {a b : Term} → IsOver T C n a → IsOver T C (n + 1) b → IsOver T C n (Pi a b)
  of_lam : {n : ℕ} {a b : Term} → IsOver T C n a → IsOver T C (n + 1) b → IsOver T C n (Lam a b)
  of_app : {n : ℕ} {f a : Term} → IsOver T C n f → IsOver T C n a → IsOver T C n (App f a)
  of_let : {n : ℕ} {a t b : Term} → IsOver T C n a → IsOver T C n t → IsOver T C (n + 1) b → IsOver T C n (Let a t b)
  of_const : {n c : ℕ} → C c → IsOver T C n (Const c)
  of_fam : {n f : ℕ} → IsFamilyNumber T f → IsOver T C n (Fam f)
  of_con : {n f c : ℕ} → IsConstructorNumber T f c → IsOver T C n (Con f c)
  of_elim : {n f m : ℕ} → IsFamilyNumber T f → IsOver T C n (Elim f m)
  of_axiom : {n i m : ℕ} → IsOver T C n (AxiomK i m)

up-below : (r : ℕ → ℕ) (n m : ℕ) → ((v : ℕ) → v < n → r v < m) → (v : ℕ) → v < n + 1 → up r v < m + 1
up-below r n m each zero lt = omega arith
up-below r n m each (suc v) lt = let low = each v (omega arith) in omega arith

pub over-same : {T : Signature} {C : ℕ → Type 0} (n m : ℕ) (t : Term) → n ≡ m → IsOver T C n t → IsOver T C m t
over-same {T} {C} n m t e h = subst (λ k. IsOver T C k t) e h

pub over-ren : {T : Signature} {C : ℕ → Type 0} (r : ℕ → ℕ) (n m : ℕ) (t : Term) → ((v : ℕ) → v < n → r v < m) → IsOver T C n t → IsOver T C m (ren r t)
over-ren r n m (Var v) each (IsOver.of_var lt) = IsOver.of_var (each v lt)
over-ren r n m (Sort i) each h = IsOver.of_sort
over-ren r n m (Pi a b) each (IsOver.of_pi h k) = IsOver.of_pi (over-ren r n m a each h) (over-ren (up r) (n + 1) (m + 1) b (up-below r n m each) k)
over-ren r n m (Lam a b) each (IsOver.of_lam h k) = IsOver.of_lam (over-ren r n m a each h) (over-ren (up r) (n + 1) (m + 1) b (up-below r n m each) k)
over-ren r n m (App f a) each (IsOver.of_app h k) = IsOver.of_app (over-ren r n m f each h) (over-ren r n m a each k)
over-ren r n m (Let a t b) each (IsOver.of_let h k l) =
    IsOver.of_let (over-ren r n m a each h) (over-ren r n m t each k) (over-ren (up r) (n + 1) (m + 1) b (up-below r n m each) l)
over-ren r n m (Const c) each (IsOver.of_const q) = IsOver.of_const q
over-ren r n m (Fam f) each (IsOver.of_fam q) = IsOver.of_fam q
over-ren r n m (Con f c) each (IsOver.of_con q) = IsOver.of_con q
over-ren r n m (Elim f l) each (IsOver.of_elim q) = IsOver.of_elim q
over-ren r n m (AxiomK i l) each h = IsOver.of_axiom

pub over-under : {T : Signature} {C : ℕ → Type 0} (s : ℕ → Term) (n m : ℕ) → ((v : ℕ) → v < n → IsOver T C m (s v)) → (v : ℕ) → v < n + 1 → IsOver T C (m + 1) (ups s v)
over-under s n m each zero lt = IsOver.of_var (omega arith)
over-under s n m each (suc v) lt = over-ren suc m (m + 1) (s v) (λ w low. omega arith) (each v (omega arith))

pub over-inst : {T : Signature} {C : ℕ → Type 0} (s : ℕ → Term) (n m : ℕ) (t : Term) → ((v : ℕ) → v < n → IsOver T C m (s v)) → IsOver T C n t → IsOver T C m (inst s t)
over-inst s n m (Var v) each (IsOver.of_var lt) = each v lt
over-inst s n m (Sort i) each h = IsOver.of_sort
over-inst s n m (Pi a b) each (IsOver.of_pi h k) = IsOver.of_pi (over-inst s n m a each h) (over-inst (ups s) (n + 1) (m + 1) b (over-under s n m each) k)
over-inst s n m (Lam a b) each (IsOver.of_lam h k) = IsOver.of_lam (over-inst s n m a each h) (over-inst (ups s) (n + 1) (m + 1) b (over-under s n m each) k)
over-inst s n m (App f a) each (IsOver.of_app h k) = IsOver.of_app (over-inst s n m f each h) (over-inst s n m a each k)
over-inst s n m (Let a t b) each (IsOver.of_let h k l) =
    IsOver.of_let (over-inst s n m a each h) (over-inst s n m t each k) (over-inst (ups s) (n + 1) (m + 1) b (over-under s n m each) l)
over-inst s n m (Const c) each (IsOver.of_const q) = IsOver.of_const q
over-inst s n m (Fam f) each (IsOver.of_fam q) = IsOver.of_fam q
over-inst s n m (Con f c) each (IsOver.of_con q) = IsOver.of_con q
over-inst s n m (Elim f l) each (IsOver.of_elim q) = IsOver.of_elim q
over-inst s n m (AxiomK i l) each h = IsOver.of_axiom

-- a term that is scoped over a signature with fewer entries
pub scoped-over : {C : ℕ → Type 0} (S T : Signature) (n : ℕ) (t : Term) → HasNumbers S T → ((c : ℕ) → IsConstantNumber S c → C c) → IsScoped S n t → IsOver T C n t
scoped-over S T n (Var v) more each h = IsOver.of_var (omega (arith, h.variables))
scoped-over S T n (Sort i) more each h = IsOver.of_sort
scoped-over S T n (Pi a b) more each h =
    let p = scoped-pi h in IsOver.of_pi (scoped-over S T n a more each p.0) (scoped-over S T (n + 1) b more each p.1)
scoped-over S T n (Lam a b) more each h =
    let p = scoped-lam h in IsOver.of_lam (scoped-over S T n a more each p.0) (scoped-over S T (n + 1) b more each p.1)
scoped-over S T n (App f a) more each h =
    let p = scoped-app h in IsOver.of_app (scoped-over S T n f more each p.0) (scoped-over S T n a more each p.1)
scoped-over S T n (Let a t b) more each h =
    let p = scoped-let h in IsOver.of_let (scoped-over S T n a more each p.0) (scoped-over S T n t more each p.1) (scoped-over S T (n + 1) b more each p.2)
scoped-over S T n (Const c) more each h = IsOver.of_const (each c h.entries)
scoped-over S T n (Fam f) more each h = IsOver.of_fam (more.families f h.entries)
scoped-over S T n (Con f c) more each h = IsOver.of_con (more.constructors f c h.entries)
scoped-over S T n (Elim f m) more each h = IsOver.of_elim (more.families f h.entries)
scoped-over S T n (AxiomK i m) more each h = IsOver.of_axiom

-- ---- what a comparison with the leaf says

chosen-there : (S : Signature) (m : ℕ) (b : Bool) (o : Option Term) → OptionOnly (IsScoped S m) o → OptionOnly (IsScoped S m) (cond b o None)
chosen-there S m true o h = h
chosen-there S m false o h = tt

or-there : (S : Signature) (m : ℕ) (o p : Option Term) → OptionOnly (IsScoped S m) o → OptionOnly (IsScoped S m) p → OptionOnly (IsScoped S m) (option_or o p)
or-there S m None p h k = k
or-there S m (Some t) p h k = h

mutual
  found-there : (S : Signature) (m x : ℕ) (w t : Term) → IsScoped S m t → OptionOnly (IsScoped S m) (found_in x w t)
  found-there S m x (Var v) t h = chosen-there S m (v == x) (Some t) h
  found-there S m x (App g r) (App k s) h =
      let p = scoped-app h in
      chosen-there S m (have_one_constructor (App g r) (App k s)) (option_or (found_along x g k) (found_in x r s))
      (or-there S m (found_along x g k) (found_in x r s) (along-there S m x g k p.0) (found-there S m x r s p.1))
  found-there S m x _ _ h = tt

  along-there : (S : Signature) (m x : ℕ) (w t : Term) → IsScoped S m t → OptionOnly (IsScoped S m) (found_along x w t)
  along-there S m x (App g r) (App k s) h =
      let p = scoped-app h in or-there S m (found_along x g k) (found_in x r s) (along-there S m x g k p.0) (found-there S m x r s p.1)
  along-there S m x _ _ h = tt

among-there : (S : Signature) (m x : ℕ) (ws ts : List Term) → Each (IsScoped S m) ts → OptionOnly (IsScoped S m) (found_among x ws ts)
among-there S m x (w ∷ ws) (t ∷ ts) (Each.more h all) = or-there S m (found_in x w t) (found_among x ws ts) (found-there S m x w t h) (among-there S m x ws ts all)
among-there S m x (w ∷ ws) [] h = tt
among-there S m x [] ts h = tt

sort-there : (S : Signature) (m : ℕ) (o : Option Term) → OptionOnly (IsScoped S m) o → IsScoped S m (or_sort o)
sort-there S m (Some t) h = h
sort-there S m None h = sort-scoped 0

each-there : (S : Signature) (m : ℕ) (f : ℕ → Term) (j count : ℕ) → ((i : ℕ) → IsScoped S m (f i)) → Each (IsScoped S m) (each_position f j count)
each-there S m f j zero each = Each.none
each-there S m f j (suc count) each = Each.more (each j) (each-there S m f (j + 1) count each)

pub mapping-there : (S : Signature) (m : ℕ) (w : Walk) (substitution terms : List Term) → Each (IsScoped S m) substitution → Each (IsScoped S m) terms
    → Each (IsScoped S m) (mapping w substitution terms)
mapping-there S m w substitution terms hs ht =
    let count = length w.ctx in
    each-there S m (λ j. or_sort (found_among (count - (j + 1)) (w.subst ++ w.terms) (substitution ++ terms))) 0 count
    (λ j. sort-there S m (found_among (count - (j + 1)) (w.subst ++ w.terms) (substitution ++ terms))
    (among-there S m (count - (j + 1)) (w.subst ++ w.terms) (substitution ++ terms) (each-append substitution terms hs ht)))

pub order-there : (S : Signature) (m : ℕ) (order : List ℕ) (substitution : List Term) → Each (IsScoped S m) substitution → Each (IsScoped S m) (in_old_order order substitution)
order-there S m order substitution all =
    each-there S m (λ i. term_at substitution (place_in order i)) 0 (length order) (λ i. each-get substitution (place_in order i) (Sort 0) (sort-scoped 0) all)

-- ---- calls

module _ (T : Signature) (number : Naming) (plan : Plan) where
  -- the names that recursion brings are constants, and the family has its entries
  pub record RecursionIn (r : Recursion) : Type 0 where
    pub below : IsConstantNumber T (number (below_name r.family plan.level))
    pub motive : IsConstantNumber T (number (motive_name plan.name))
    pub pairs : HasPairs T plan.level
    pub shape : Constructors T (family_shape r.admission.number r.family).constructors

  -- likewise those that one of the recursions of a tree brings
  pub record NamedIn (c : NamedRecursion) : Type 0 where
    pub below : IsConstantNumber T (number (below_name c.recursion.family plan.level))
    pub motive : IsConstantNumber T (number c.motive)
    pub pairs : HasPairs T plan.level
    pub shape : Constructors T (family_shape c.recursion.admission.number c.recursion.family).constructors

  pub named-in : (o : Option Recursion) → OptionOnly RecursionIn o → Each NamedIn (recursions_in plan o)
  named-in None h = Each.none
  named-in (Some r) h = Each.more (record { below = h.below; motive = h.motive; pairs = h.pairs; shape = h.shape }) Each.none

  -- a below value with its motive, over n variables
  pub record BelowIn (n : ℕ) (b : BelowValue) : Type 0 where
    pub below : IsConstantNumber T (number (below_name b.recursion.family plan.level))
    pub pairs : HasPairs T plan.level
    pub shape : Constructors T (family_shape b.recursion.admission.number b.recursion.family).constructors
    pub motive : IsScoped T n b.motive
    pub value : IsScoped T n b.value

  -- a leaf's place over n variables
  pub record PlaceIn (n : ℕ) (l : Place) : Type 0 where
    pub terms : Each (IsScoped T n) l.terms
    pub belows : Each (BelowIn n) l.belows

  pub some-terms : (d : ℕ) (positions : List ℕ) (terms : List Term) → Each (IsScoped T d) terms → Each (IsScoped T d) (terms_at positions terms)
  some-terms d [] terms all = Each.none
  some-terms d (p ∷ positions) terms all = Each.more (each-get terms p (Sort 0) (sort-scoped 0) all) (some-terms d positions terms all)

  lifted-there : (n under : ℕ) (terms : List Term) → Each (IsScoped T n) terms → Each (IsScoped T (n + under)) (lifted under terms)
  lifted-there n under terms all = each-map (λ t. lift t under 0) terms (λ t h. lift-scoped T n t under 0 h) all

  values-there : (d : ℕ) (places : List ℕ) (values terms : List Term) → Each (IsScoped T d) values → Each (IsScoped T d) terms
      → Each (IsScoped T d) (with_values places values terms)
  values-there d (p ∷ places) (v ∷ values) terms (Each.more h hv) ht =
      values-there d places values (take p terms ++ v ∷ drop p terms) hv
      (each-append (take p terms) (v ∷ drop p terms) (each-take p terms ht) (Each.more h (each-drop p terms ht)))
  values-there d (p ∷ places) [] terms hv ht = ht
  values-there d [] values terms hv ht = ht

  -- the motive of a recursion at scoped terms and values
  pub motive-there : (d : ℕ) (c : NamedRecursion) (terms values : List Term) → IsConstantNumber T (number c.motive) → Each (IsScoped T d) terms → Each (IsScoped T d) values
      → IsScoped T d (motive_with number c terms values)
  motive-there d c terms values named ht hv =
      let fixed = terms_at c.recursion.admission.fixed terms in
      applied-each T d (Const (number c.motive)) (with_values c.places values fixed) (const-scoped T d (number c.motive) named)
      (values-there d c.places values fixed hv (some-terms d c.recursion.admission.fixed terms ht))

  under-there : (n under : ℕ) (belows : List BelowValue) → Each (BelowIn n) belows → Each (BelowIn (n + under)) (belows_under under belows)
  under-there n under [] Each.none = Each.none
  under-there n under (b ∷ belows) (Each.more h all) =
      Each.more
      (record {
        below = h.below;
        pairs = h.pairs;
        shape = h.shape;
        motive = lift-scoped T n b.motive under 0 h.motive;
        value = lift-scoped T n b.value under 0 h.value;
      })
      (under-there n under belows all)

  applied-there : (d : ℕ) (r : Recursion) (arguments : List Term) (path : Term) → IsScoped T d path → Each (IsScoped T d) arguments
      → IsScoped T d (applied_path plan r arguments path)
  applied-there d r arguments path h ha =
      applied-each T d path (terms_at (remaining_positions plan.arity r) arguments ++ drop plan.arity arguments) h
      (each-append (terms_at (remaining_positions plan.arity r) arguments) (drop plan.arity arguments) (some-terms d (remaining_positions plan.arity r) arguments ha)
      (each-drop plan.arity arguments ha))

  cond-there : (d : ℕ) (test : Bool) (t u : Term) → IsScoped T d t → IsScoped T d u → IsScoped T d (cond test t u)
  cond-there d true t u h k = h
  cond-there d false t u h k = k

  call-there : (d : ℕ) (terms : List Term) (first : BelowValue) (arguments : List Term) (belows : List BelowValue) → Each (IsScoped T d) terms → BelowIn d first
      → Each (IsScoped T d) arguments → Each (BelowIn d) belows → IsScoped T d (call_by_path number plan terms first arguments belows)
  call-there d terms first arguments [] ht hf ha Each.none = applied-there d first.recursion arguments first.value hf.value ha
  call-there d terms first arguments (b ∷ belows) ht hf ha (Each.more h all) =
      let j = b.recursion.position in
      let descent = descent_at number plan b (term_at arguments j) in
      let whole = term_at terms j in
      cond-there d (has_part descent.family descent.shape descent.part whole) (applied_path plan b.recursion arguments (path_of descent whole b.value))
      (call_by_path number plan terms first arguments belows)
      (applied-there d b.recursion arguments (path_of descent whole b.value)
      (scoped-path_of T d descent whole b.value
      (record {
        below = h.below;
        pairs = h.pairs;
        constructors = h.shape;
        motive = h.motive;
        part = each-get arguments j (Sort 0) (sort-scoped 0) ha;
      })
      (each-get terms j (Sort 0) (sort-scoped 0) ht) h.value)
      ha)
      (call-there d terms first arguments belows ht hf ha all)

  in-there : (d : ℕ) (terms arguments : List Term) (belows : List BelowValue) → Each (IsScoped T d) terms → Each (BelowIn d) belows → Each (IsScoped T d) arguments
      → IsScoped T d (call_in number plan terms arguments belows)
  in-there d terms arguments [] ht Each.none ha = sort-scoped 0
  in-there d terms arguments (b ∷ belows) ht (Each.more h all) ha = call-there d terms b arguments (b ∷ belows) ht h ha (Each.more h all)

  module _ (n : ℕ) (l : Place) where
    -- the term for a constant of a side is scoped, at any scoped arguments
    abbrev pub CalledIn : ℕ → Type 0
    CalledIn c =
        (under : ℕ) (arguments : List Term) → Each (IsScoped T (n + under)) arguments → IsScoped T (n + under) (constant_at number plan l under c arguments)

    behind-there : (under : ℕ) (belows : List BelowValue) → Each (BelowIn n) belows → Each (IsScoped T (n + under)) (belows_behind under belows)
    behind-there under [] Each.none = Each.none
    behind-there under (b ∷ belows) (Each.more h all) = Each.more (lift-scoped T n b.value under 0 h.value) (behind-there under belows all)

    pub called-entry : (c : ℕ) → c < plan.base → IsConstantNumber T c → CalledIn c
    called-entry c low q under arguments all =
        subst (IsScoped T (n + under)) (sym (first-of_two c plan.base (applied (Const c) arguments) _ low)) (applied-each T (n + under) (Const c) arguments (const-scoped T (n + under) c q) all)

    pub called-function : (c : ℕ) → c ≡ plan.base → PlaceIn n l → CalledIn c
    called-function c same h under arguments all =
        subst (IsScoped T (n + under)) (sym (second-of_two c plan.base _ _ (omega arith)))
        (subst (IsScoped T (n + under)) (sym (second-of-same c plan.base (call_in number plan (lifted under l.terms) arguments (belows_under under l.belows)) _ same))
        (in-there (n + under) (lifted under l.terms) arguments (belows_under under l.belows) (lifted-there n under l.terms h.terms)
        (under-there n under l.belows h.belows) all))

    pub called-helper : (k : ℕ) → 0 < k → IsConstantNumber T (number (helper_name plan.name k)) → PlaceIn n l → CalledIn (plan.base + k)
    called-helper k high q h under arguments all =
        let at : plan.base + k - plan.base ≡ k = omega arith in
        subst (IsScoped T (n + under)) (sym (second-of_two (plan.base + k) plan.base _ _ (omega arith)))
        (subst (IsScoped T (n + under))
        (sym (second-of-other (plan.base + k) plan.base _ (helper_call number plan l under (plan.base + k - plan.base) arguments) (omega arith)))
        (applied-each T (n + under) (Const (number (helper_name plan.name (plan.base + k - plan.base)))) _
        (const-scoped T (n + under) (number (helper_name plan.name (plan.base + k - plan.base))) (subst (λ i. IsConstantNumber T (number (helper_name plan.name i))) (sym at) q))
        (each-append arguments (belows_behind under l.belows) all (behind-there under l.belows h.belows))))

    -- a term in which all calls are made
    pub calls-there : (under : ℕ) (arguments : List Term) (t : Term) → IsOver T CalledIn (n + under) t → Each (IsScoped T (n + under)) arguments
        → IsScoped T (n + under) (with_calls number plan l under arguments t)
    calls-there under arguments (App f a) (IsOver.of_app h k) all =
        calls-there under (with_calls number plan l under [] a ∷ arguments) f h (Each.more (calls-there under [] a k Each.none) all)
    calls-there under arguments (Const c) (IsOver.of_const q) all = q under arguments all
    calls-there under arguments (Pi a b) (IsOver.of_pi h k) all =
        applied-each T (n + under) _ arguments
        (pi-scoped (calls-there under [] a h Each.none)
        (scoped_over_more T (n + (under + 1)) (n + under + 1) _ (omega arith) (calls-there (under + 1) [] b (over-same (n + under + 1) (n + (under + 1)) b (omega arith) k) Each.none)))
        all
    calls-there under arguments (Lam a b) (IsOver.of_lam h k) all =
        applied-each T (n + under) _ arguments
        (lam-scoped (calls-there under [] a h Each.none)
        (scoped_over_more T (n + (under + 1)) (n + under + 1) _ (omega arith) (calls-there (under + 1) [] b (over-same (n + under + 1) (n + (under + 1)) b (omega arith) k) Each.none)))
        all
    calls-there under arguments (Let a t b) (IsOver.of_let h k m) all =
        applied-each T (n + under) _ arguments
        (let-scoped (calls-there under [] a h Each.none) (calls-there under [] t k Each.none)
        (scoped_over_more T (n + (under + 1)) (n + under + 1) _ (omega arith) (calls-there (under + 1) [] b (over-same (n + under + 1) (n + (under + 1)) b (omega arith) m) Each.none)))
        all
    calls-there under arguments (Var v) (IsOver.of_var lt) all = applied-each T (n + under) (Var v) arguments (var-scoped lt) all
    calls-there under arguments (Sort i) h all = applied-each T (n + under) (Sort i) arguments (sort-scoped i) all
    calls-there under arguments (Fam f) (IsOver.of_fam q) all = applied-each T (n + under) (Fam f) arguments (record { variables = omega arith; entries = q }) all
    calls-there under arguments (Con f c) (IsOver.of_con q) all = applied-each T (n + under) (Con f c) arguments (record { variables = omega arith; entries = q }) all
    calls-there under arguments (Elim f m) (IsOver.of_elim q) all = applied-each T (n + under) (Elim f m) arguments (record { variables = omega arith; entries = q }) all
    calls-there under arguments (AxiomK i m) h all = applied-each T (n + under) (AxiomK i m) arguments (record { variables = omega arith; entries = tt }) all
