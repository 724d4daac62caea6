-- Types of eliminators with variables by level are those of the theory.
use Rattle.std.proofs.Common.{◌≡◌, ℕ, suc, ◌+◌, ◌-◌, ◌≤◌, List, [], ◌∷◌, map, length, Err, inl, refl, ap, ap₂, sym, ◌∙◌, subst, subst₂, arith, All}
use Rattle.std.proofs.lemmas.Bool.Decides.{nat_tests}
use Rattle.std.proofs.lemmas.List.{length-map}
use Rattle.std.proofs.lemmas.List.Elements.{All-head, All-tail}
use Rattle.std.proofs.lemmas.Simd.{map-map}
use Rattle.theory.specs.Terms.{Term, height}
use Rattle.theory.specs.Terms.Term.{Var, Sort, Pi, App, Fam, Con}
use Rattle.theory.specs.Substitutions.{inst, ups, weaken}
use Rattle.theory.specs.Scopes.{IsTelescopeOver, IsConstructorOver, IsClosedFamily}
use Rattle.theory.specs.Telescopes.{Telescope, products, applied, arrows, variables, weaken_by, inst_telescope}
use Rattle.theory.specs.Families as pure
use Rattle.theory.specs.Families.{family_head, index_types}
use Rattle.theory.specs.Eliminators as spec
use Rattle.theory.specs.Eliminators.{method_types}
use Rattle.theory.proofs.Instances.{ren-is_inst}
use Rattle.theory.proofs.Instantiation.{inst-applied, inst-products, inst-weaken, ups_by}
use Rattle.theory.proofs.ScopedTypes.{length-inst_telescope}
use Rattle.core_terms.specs.Answers.{bounded}
use Rattle.core_terms.specs.declared.levels.Binder.TheVariants.{Product}
use Rattle.core_terms.specs.Levels.{variable, level_at, over, run}
use Rattle.core_terms.specs.Meanings.{tree_of, tele_of}
use Rattle.core_terms.specs.declared.stop.Stop.TheVariants.{Deep}
use Rattle.core_terms.proofs.Builders.{height-products}
use Rattle.core_terms.proofs.Placing.{Alike, height-over, alike-pi, alike-products, alike-over, alike-bounded, deep-unless, run-variables, run-further, run-weaken}
use Rattle.core_sig.specs.ByLevels.{family_at, motive_type, goal_type, hypotheses_over, conclusion, method_type, methods_over, eliminator_type}
use Rattle.core_sig.specs.Kinds.{HaveKinds, HasKinds}
use Rattle.core_sig.specs.Meanings.{constructor_of, family_of}
use Rattle.core_sig.specs.Shapes.{ConstructorShape, Shape, IsFew, HaveFewArguments, recursive_count, argument_shape, constructor_shape, shape_of, types_of}
use Rattle.core_sig.specs.declared.family.Constructor.{Constructor}
use Rattle.core_sig.specs.declared.family.Family.{Family}
use Rattle.core_sig.proofs.Arguments.{inst_telescope-var, index_types-of}
use Rattle.core_sig.proofs.ConstructorTypes.{ren-applied}
use Rattle.core_sig.proofs.EntryInstances.{ren-id, inst_telescope-inst, map-inst-weaken, inst-method_type, inst-weaken_by, inst-variables}
use Rattle.core_sig.proofs.Lists.{all-unmapped}
use Rattle.core_sig.proofs.MethodsByLevels.{AtParameters, none-yet, further, alike-method}

-- ---- the parameters after the motive and j methods

pub parameters-there : (p j : ℕ) → map (weaken_by j) (map weaken (variables p)) ≡ run (p + 1 + j) 0 p
parameters-there p j =
    ap (λ vs. map (weaken_by j) (map weaken vs)) (sym (run-variables p 0 p (omega arith)))
    ∙ (ap (map (weaken_by j)) (run-weaken p 0 p (omega arith)) ∙ run-further (p + 1) 0 p j (omega arith))

-- a symbol at them
pub symbol-there : (p j : ℕ) (symbol : Term) → weaken_by j symbol ≡ symbol → inst (λ v. Var (v + j)) (applied symbol (map weaken (variables p))) ≡ applied symbol (run (p + 1 + j) 0 p)
symbol-there p j symbol stays =
    sym (ren-is_inst (λ v. v + j) (applied symbol (map weaken (variables p))))
    ∙ (ren-applied (λ v. v + j) symbol (map weaken (variables p)) ∙ ap₂ applied stays (parameters-there p j))

pub placed-there : (p j : ℕ) → AtParameters p (p + 1 + j) (λ v. Var (suc v + j))
placed-there p j v lt =
    let e : level_at ((0, p) ∷ []) (p - (v + 1)) ≡ p - (v + 1) = grind (arith, nat_tests) in
    (omega arith, ap Var (omega arith))

-- ---- the motive and the goal

-- a product over the indices and the family at them, in a context where the parameters are placed
pub alike-indices : (n p depth k : ℕ) (s : ℕ → Term) (head : Term) (indices : Telescope) (x y : Term) → k ≡ length indices → IsTelescopeOver p indices → AtParameters p depth s → p ≤ depth → head ≡ applied (Fam n) (run depth 0 p) → Alike x y
    → Alike (over Product ((0, p) ∷ (depth, k) ∷ []) p depth indices (Pi (family_at n p (depth + k) depth k) x)) (products (inst_telescope s indices) (Pi (applied (weaken_by k head) (variables k)) y))
alike-indices n p depth k s head indices x y counted scoped placed le is same =
    alike-over Product ((0, p) ∷ (depth, k) ∷ []) p depth s indices _ _ (λ l lt. grind (arith, nat_tests)) (none-yet p depth k s placed) scoped
    (alike-pi _ _ _ _ (inl (sym domain)) same)
  where
    domain : applied (weaken_by k head) (variables k) ≡ family_at n p (depth + k) depth k
    domain =
        ap₂ applied
        (ap (weaken_by k) is
        ∙ (ren-applied (λ v. v + k) (Fam n) (run depth 0 p) ∙ ap (applied (Fam n)) (run-further depth 0 p k (omega arith))))
        (sym (run-variables (depth + k) depth k refl))

-- the goal after the motive and j methods
abbrev pub goal_of : (n p k : ℕ) → Telescope → Term
goal_of n p k indices =
    products (inst_telescope (λ v. Var (suc v)) indices)
    (Pi (applied (weaken_by k (applied (Fam n) (map weaken (variables p)))) (variables k))
    (App (applied (Var (k + 1)) (map weaken (variables k))) (Var 0)))

pub alike-goal : (n p j k : ℕ) (indices : Telescope) → k ≡ length indices → IsTelescopeOver p indices
    → Alike (over Product ((0, p) ∷ (p + 1 + j, k) ∷ []) p (p + 1 + j) indices (Pi (family_at n p (p + 1 + j + k) (p + 1 + j) k) (App (applied (variable (p + 1 + j + k + 1) p) (run (p + 1 + j + k + 1) (p + 1 + j) k)) (variable (p + 1 + j + k + 1) (p + 1 + j + k)))))
    (weaken_by j (goal_of n p k indices))
alike-goal n p j k indices counted scoped =
    subst (Alike _) (sym shown)
    (alike-indices n p depth k (λ v. Var (suc v + j)) (inst q head) indices _ _ counted scoped (placed-there p j) (omega arith) (symbol-there p j (Fam n) refl) (inl refl))
  where
    depth : ℕ
    depth = p + 1 + j

    q : ℕ → Term
    q v = Var (v + j)

    head : Term
    head = applied (Fam n) (map weaken (variables p))

    body : Term
    body = Pi (applied (weaken_by k head) (variables k)) (App (applied (Var (k + 1)) (map weaken (variables k))) (Var 0))

    motive : inst (ups (ups_by k q)) (Var (k + 1)) ≡ variable (depth + k + 1) p
    motive =
        (let e : k + 1 ≡ suc (0 + k) = omega arith in ap (λ i. inst (ups (ups_by k q)) (Var i)) e)
        ∙ (inst-weaken (ups_by k q) (weaken_by k (Var 0)) ∙ (ap weaken (inst-weaken_by k q (Var 0)) ∙ ap Var (omega arith)))

    indices_there : map (inst (ups (ups_by k q))) (map weaken (variables k)) ≡ run (depth + k + 1) depth k
    indices_there =
        map-inst-weaken (ups_by k q) (variables k)
        ∙ (ap (map weaken) (inst-variables k q ∙ sym (run-variables (depth + k) depth k refl)) ∙ run-weaken (depth + k) depth k (omega arith))

    shown : weaken_by j (goal_of n p k indices) ≡ products (inst_telescope (λ v. Var (suc v + j)) indices) (Pi (applied (weaken_by k (inst q head)) (variables k)) (App (applied (variable (depth + k + 1) p) (run (depth + k + 1) depth k)) (variable (depth + k + 1) (depth + k))))
    shown =
        ren-is_inst (λ v. v + j) (goal_of n p k indices)
        ∙ (inst-products q (inst_telescope (λ v. Var (suc v)) indices) body
        ∙ ap₂ products (inst_telescope-inst q (λ v. Var (suc v)) indices)
        (ap (λ i. inst (ups_by i q) body) (length-inst_telescope (λ v. Var (suc v)) indices ∙ sym counted)
        ∙ ap₂ Pi
        (inst-applied (ups_by k q) (weaken_by k head) (variables k) ∙ ap₂ applied (inst-weaken_by k q head) (inst-variables k q))
        (ap₂ App (inst-applied (ups (ups_by k q)) (Var (k + 1)) (map weaken (variables k)) ∙ ap₂ applied motive indices_there) (ap Var (omega arith)))))

-- ---- the methods and the whole

pub alike-methods : (n : ℕ) (f : pure.Family) (number j : ℕ) (cons : List Constructor) (end E : Term) → All (λ c. HaveKinds n f 0 c.args) cons → All (λ c. IsConstructorOver (length f.parameters) (constructor_of (length f.parameters) c)) cons
    → Alike end (weaken_by (j + length (map constructor_shape cons)) E)
    → Alike (methods_over n (length f.parameters) (length f.indices) (length f.parameters) number (length f.parameters + 1 + j) (map constructor_shape cons) end)
    (weaken_by j (arrows (method_types (λ v. Var (suc v)) n (map weaken (variables (length f.parameters))) (Var 0) number (map (constructor_of (length f.parameters)) cons)) E))
alike-methods n f number j [] end E kinds scoped same = subst (λ i. Alike end (weaken_by i E)) (omega arith) same
alike-methods n f number j (c ∷ cons) end E kinds scoped same =
    subst₂ Alike
    (ap (λ d. Pi (method_type n p k p number depth (constructor_shape c)) (methods_over n p k p (number + 1) d (map constructor_shape cons) end)) (omega arith))
    (sym (further j method behind ∙ ap (λ x. Pi x (weaken_by (j + 1) behind)) moved))
    (alike-pi (method_type n p k p number depth (constructor_shape c)) (spec.method_type (λ v. Var (suc v + j)) (applied (Fam n) (run depth 0 p)) (applied (Con n number) (run depth 0 p)) (variable depth p) (constructor_of p c))
    (methods_over n p k p (number + 1) (p + 1 + (j + 1)) (map constructor_shape cons) end) (weaken_by (j + 1) behind)
    (alike-method n f p number depth c (λ v. Var (suc v + j)) (All-head (λ c. HaveKinds n f 0 c.args) c cons kinds) (All-head (λ c. IsConstructorOver p (constructor_of p c)) c cons scoped) (omega arith) (omega arith) (placed-there p j))
    (alike-methods n f (number + 1) (j + 1) cons end E (All-tail (λ c. HaveKinds n f 0 c.args) c cons kinds) (All-tail (λ c. IsConstructorOver p (constructor_of p c)) c cons scoped)
    (subst (λ i. Alike end (weaken_by i E)) (omega arith) same)))
  where
    p : ℕ
    p = length f.parameters

    k : ℕ
    k = length f.indices

    depth : ℕ
    depth = p + 1 + j

    q : ℕ → Term
    q v = Var (v + j)

    ps : List Term
    ps = map weaken (variables p)

    method : Term
    method = spec.method_type (λ v. Var (suc v)) (applied (Fam n) ps) (applied (Con n number) ps) (Var 0) (constructor_of p c)

    behind : Term
    behind = arrows (method_types (λ v. Var (suc v)) n ps (Var 0) (number + 1) (map (constructor_of p) cons)) E

    moved : weaken_by j method ≡ spec.method_type (λ v. Var (suc v + j)) (applied (Fam n) (run depth 0 p)) (applied (Con n number) (run depth 0 p)) (variable depth p) (constructor_of p c)
    moved =
        ren-is_inst (λ v. v + j) method
        ∙ (inst-method_type q (λ v. Var (suc v)) (applied (Fam n) ps) (applied (Con n number) ps) (Var 0) (constructor_of p c)
        ∙ (ap (λ P. spec.method_type (λ v. Var (suc v + j)) (inst q (applied (Fam n) ps)) (inst q (applied (Con n number) ps)) P (constructor_of p c)) (ap Var (omega arith))
        ∙ ap₂ (λ head con. spec.method_type (λ v. Var (suc v + j)) head con (variable depth p) (constructor_of p c)) (symbol-there p j (Fam n) refl) (symbol-there p j (Con n number) refl)))

-- the type of an eliminator
pub alike-eliminator : (n : ℕ) (f : Family) (m : ℕ) → HasKinds n f → IsClosedFamily (family_of f) → Alike (eliminator_type n (shape_of f) m) (spec.eliminator_type n (family_of f) m)
alike-eliminator n f m kinds scoped =
    alike-products (tele_of f.params) _ _
    (alike-pi (motive_type n (shape_of f) m p) (spec.motive_type n (family_of f) m) _ _
    (subst (Alike (motive_type n (shape_of f) m p)) (ap₂ (λ i tele. products tele (Pi (applied (weaken_by i (family_head n (family_of f))) (variables i)) (Sort m))) (sym same_count) (inst_telescope-var indices ∙ sym same_types))
    (alike-indices n p p k Var (family_head n (family_of f)) indices (Sort m) (Sort m) counted indices_scoped here (omega arith) (ap (applied (Fam n)) (sym (run-variables p 0 p (omega arith)))) (inl refl)))
    (subst₂ Alike (ap₂ (λ i d. methods_over n p i p 0 d (map constructor_shape f.cons) goal) same_count (omega arith))
    (ren-id (λ v. v + 0) (methods p) (λ v. omega arith) ∙ ap methods parameters_counted)
    (alike-methods n (family_of f) 0 0 f.cons goal E kinds.constructors
    (subst (λ i. All (λ c. IsConstructorOver p (constructor_of i c)) f.cons) (sym parameters_counted) (all-unmapped (IsConstructorOver p) (constructor_of (length f.params)) f.cons scoped.constructors))
    (subst₂ (λ j e. Alike goal (weaken_by j e)) (omega arith) (ap₂ (goal_of n p) (sym same_count) (sym same_types))
    (alike-goal n p (length (map constructor_shape f.cons)) k indices counted indices_scoped)))))
  where
    p : ℕ
    p = length (tele_of f.params)

    indices : Telescope
    indices = types_of (map argument_shape f.indices)

    k : ℕ
    k = length (map argument_shape f.indices)

    counted : k ≡ length indices
    counted = sym (length-map (map argument_shape f.indices) (λ x. x.type))

    parameters_counted : p ≡ length f.params
    parameters_counted = length-map f.params tree_of

    same_count : length (family_of f).indices ≡ k
    same_count = length-map f.indices (λ i. (tree_of i.ty, i.level)) ∙ sym (length-map f.indices argument_shape)

    same_types : index_types (family_of f) ≡ indices
    same_types = index_types-of f ∙ sym (map-map (λ x. x.type) argument_shape f.indices)

    indices_scoped : IsTelescopeOver p indices
    indices_scoped = subst (IsTelescopeOver p) same_types scoped.indices

    here : AtParameters p p Var
    here v lt = let e : level_at ((0, p) ∷ []) (p - (v + 1)) ≡ p - (v + 1) = grind (arith, nat_tests) in (omega arith, ap Var (omega arith))

    E : Term
    E = goal_of n p (length (family_of f).indices) (index_types (family_of f))

    goal : Term
    goal = goal_type n (shape_of f) p (p + 1 + length (map constructor_shape f.cons))

    methods : ℕ → Term
    methods i = arrows (method_types (λ v. Var (suc v)) n (map weaken (variables p)) (Var 0) 0 (map (constructor_of i) f.cons)) E

-- a term over more than 2,000 parameters, indices, constructors or arguments is too high
few-arguments : (n p k motive number depth : ℕ) (cs : List ConstructorShape) (end : Term) → height (methods_over n p k motive number depth cs end) ≤ 2000 → HaveFewArguments cs × (length cs + height end ≤ height (methods_over n p k motive number depth cs end))
few-arguments n p k motive number depth [] end low = (tt, omega arith)
few-arguments n p k motive number depth (c ∷ cs) end low =
    let rest = few-arguments n p k motive (number + 1) (depth + 1) cs end (omega arith) in
    let count = length c.arguments in
    let inside = depth + count in
    let least = height-over Product ((0, p) ∷ (depth, count) ∷ []) p depth (types_of c.arguments) (hypotheses_over Product p k motive depth 0 inside c.arguments (conclusion n p motive number depth (inside + recursive_count c.arguments) c)) in
    let types = length-map c.arguments (λ a. a.type) in
    let tail = rest.1 in
    ((omega arith, rest.0), omega arith)

few-eliminator : (n : ℕ) (f : Shape) (m : ℕ) → height (eliminator_type n f m) ≤ 2000 → IsFew f
few-eliminator n f m low =
    let p = length f.parameters in
    let k = length f.indices in
    let goal = goal_type n f p (p + 1 + length f.constructors) in
    let methods = methods_over n p k p 0 (p + 1) f.constructors goal in
    let outer = height-products f.parameters (Pi (motive_type n f m p) methods) in
    let motive = height-over Product ((0, p) ∷ (p, k) ∷ []) p p (types_of f.indices) (Pi (family_at n p (p + k) p k) (Sort m)) in
    let types = length-map f.indices (λ a. a.type) in
    let inner = few-arguments n p k p 0 (p + 1) f.constructors goal (omega arith) in
    let tail = inner.1 in
    record { parameters = omega arith; indices = omega arith; constructors = omega arith; arguments = inner.0 }

-- the bounded types agree
pub eliminator-bounded : (n : ℕ) (f : Family) (m : ℕ) → HasKinds n f → IsClosedFamily (family_of f) → bounded (eliminator_type n (shape_of f) m) ≡ bounded (spec.eliminator_type n (family_of f) m)
eliminator-bounded n f m kinds scoped =
    alike-bounded (eliminator_type n (shape_of f) m) (spec.eliminator_type n (family_of f) m) (alike-eliminator n f m kinds scoped)

pub eliminator-deep : (n : ℕ) (f : Family) (m : ℕ) → HasKinds n f → IsClosedFamily (family_of f) → ¬ IsFew (shape_of f) → Err Deep ≡ bounded (spec.eliminator_type n (family_of f) m)
eliminator-deep n f m kinds scoped many =
    sym (deep-unless (eliminator_type n (shape_of f) m) (λ low. many (few-eliminator n (shape_of f) m low)))
    ∙ eliminator-bounded n f m kinds scoped
