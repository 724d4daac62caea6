-- The type of case analysis is that of the eliminator without hypotheses.
use Rattle.std.proofs.Common.{◌≡◌, ℕ, suc, ◌+◌, ◌-◌, ◌<◌, ◌≤◌, List, [], ◌∷◌, map, length, All, inl, refl, ap, ap₂, sym, ◌∙◌, subst, subst₂, arith}
use Rattle.std.proofs.lemmas.Bool.Decides.{nat_tests}
use Rattle.std.proofs.lemmas.List.{length-map}
use Rattle.std.proofs.lemmas.List.Elements.{All-head, All-tail}
use Rattle.std.proofs.lemmas.Simd.{map-map}
use Rattle.theory.specs.Terms.{Term, free_of}
use Rattle.theory.specs.Terms.Term.{Var, Sort, Pi, App, Fam, Con}
use Rattle.theory.specs.Substitutions.{inst, ups, weaken, fill}
use Rattle.theory.specs.Scopes.{IsTelescopeOver, IsConstructorOver, IsClosedFamily}
use Rattle.theory.specs.Telescopes.{Telescope, products, applied, arrows, variables, weaken_by, inst_telescope}
use Rattle.theory.specs.Families.{Argument, Constructor, Family, argument_types, family_head, index_types}
use Rattle.theory.specs.Eliminators as spec
use Rattle.theory.specs.Eliminators.{hypothesis_types, method_types}
use Rattle.theory.proofs.Instances.{ren-is_inst}
use Rattle.theory.proofs.Scopes.{scoped-arguments}
use Rattle.theory.proofs.ScopedTypes.{scoped-head}
use Rattle.core_terms.specs.declared.levels.Binder.TheVariants.{Product}
use Rattle.core_terms.specs.Levels.{variable, level_at, run}
use Rattle.core_terms.proofs.Placing.{IsPlaced, Alike, alike-pi, alike-products, alike-over, alike-bounded, placed-further, run-variables}
use Rattle.core_sig.specs.ByLevels.{motive_type, conclusion}
use Rattle.core_sig.specs.Shapes.{ArgumentShape, types_of}
use Rattle.core_sig.proofs.Arguments.{ups-same_var, weaken-weaken_by, inst_telescope-var}
use Rattle.core_sig.proofs.EliminatorsByLevels.{symbol-there, placed-there, alike-indices, goal_of, alike-goal}
use Rattle.core_sig.proofs.EntryInstances.{ren-id, inst-method_type}
use Rattle.core_sig.proofs.MethodsByLevels.{further}
use Rattle.core_sig.proofs.MethodsByLevels.{AtParameters, none-yet, all-there, alike-conclusion}
use Rattle.case_below_gen.specs.CaseEntries.{branch_type, branches_over, scrutinee_over, at_scrutinee, case_type}
use Rattle.case_below_gen.specs.CaseLaws.{plain_arguments, plain_constructor, without_recursion, CaseTypeWithoutHypotheses}
use Rattle.core_sig.specs.FamilyShapes.{argument_shapes, constructor_shape, family_shape}

-- ---- arguments

types-are : (n : ℕ) (f : Family) (at : ℕ) (arguments : List Argument) → types_of (argument_shapes n f at arguments) ≡ argument_types Var (weaken_by at (family_head n f)) arguments
types-are n f at [] = refl
types-are n f at (a ∷ arguments) =
    ap₂ ◌∷◌ refl
    (types-are n f (at + 1) arguments
    ∙ ap₂ (λ s h. argument_types s h arguments) (sym ups-same_var) (sym (weaken-weaken_by at (family_head n f))))

plain-types : (n : ℕ) (f : Family) (at : ℕ) (s : ℕ → Term) (head : Term) (arguments : List Argument) → argument_types s head (plain_arguments n f at arguments) ≡ inst_telescope s (types_of (argument_shapes n f at arguments))
plain-types n f at s head [] = refl
plain-types n f at s head (a ∷ arguments) = ap₂ ◌∷◌ refl (plain-types n f (at + 1) (ups s) (weaken head) arguments)

no-hypotheses : (n : ℕ) (f : Family) (at : ℕ) (s : ℕ → Term) (P : Term) (arguments : List Argument) (us : List Term) → hypothesis_types s P (plain_arguments n f at arguments) us ≡ []
no-hypotheses n f at s P [] us = refl
no-hypotheses n f at s P (a ∷ arguments) [] = refl
no-hypotheses n f at s P (a ∷ arguments) (u ∷ us) = no-hypotheses n f (at + 1) _ P arguments us

length-plain : (n : ℕ) (f : Family) (at : ℕ) (arguments : List Argument) → length (plain_arguments n f at arguments) ≡ length arguments
length-plain n f at [] = refl
length-plain n f at (a ∷ arguments) = ap suc (length-plain n f (at + 1) arguments)

length-shapes : (n : ℕ) (f : Family) (at : ℕ) (arguments : List Argument) → length (argument_shapes n f at arguments) ≡ length arguments
length-shapes n f at [] = refl
length-shapes n f at (a ∷ arguments) = ap suc (length-shapes n f (at + 1) arguments)

-- ---- methods

alike-branch : (n : ℕ) (f : Family) (motive number depth : ℕ) (c : Constructor) (s : ℕ → Term) → IsConstructorOver (length f.parameters) c → motive < depth → length f.parameters ≤ depth → AtParameters (length f.parameters) depth s
    → Alike (branch_type n (length f.parameters) motive number depth (constructor_shape n f c)) (spec.method_type s (applied (Fam n) (run depth 0 (length f.parameters))) (applied (Con n number) (run depth 0 (length f.parameters))) (variable depth motive) (plain_constructor n f c))
alike-branch n f motive number depth c s scoped low le placed =
    subst (Alike (branch_type n p motive number depth (constructor_shape n f c)))
    (ap₂ (λ tele k. products tele (E k)) (sym (plain-types n f 0 s (applied (Fam n) (run depth 0 p)) c.arguments)) (sym counted)
    ∙ ap (λ hs. products (argument_types s (applied (Fam n) (run depth 0 p)) plain) (arrows hs (E (length plain))))
    (sym (no-hypotheses n f 0 (λ v. weaken_by (length plain) (s v)) (weaken_by (length plain) (variable depth motive)) c.arguments (variables (length plain)))))
    (alike-over Product ((0, p) ∷ (depth, a) ∷ []) p depth s (types_of args) _ (E a) next (none-yet p depth a s placed) types_scoped concluded)
  where
    p : ℕ
    p = length f.parameters

    args : List ArgumentShape
    args = argument_shapes n f 0 c.arguments

    plain : List Argument
    plain = plain_arguments n f 0 c.arguments

    a : ℕ
    a = length args

    counted : length plain ≡ a
    counted = length-plain n f 0 c.arguments ∙ sym (length-shapes n f 0 c.arguments)

    E : ℕ → Term
    E k =
        App (applied (weaken_by k (variable depth motive)) (map (inst (fill (λ v. weaken_by k (s v)) (variables k))) c.targets))
        (applied (weaken_by k (applied (Con n number) (run depth 0 p))) (variables k))

    types_scoped : IsTelescopeOver p (types_of args)
    types_scoped =
        subst (IsTelescopeOver p)
        (ap (λ h. argument_types Var h c.arguments) (sym (ren-id (λ v. v + 0) (family_head n f) (λ v. omega arith))) ∙ sym (types-are n f 0 c.arguments))
        (scoped-arguments Var (family_head n f) c.arguments p p (λ i lt. omega arith) (scoped-head n f) scoped.arguments)

    next : (l : ℕ) → l < length (types_of args) → level_at ((0, p) ∷ (depth, a) ∷ []) (p + l) ≡ depth + l
    next l lt = grind (arith, nat_tests, length-map args (λ x. x.type))

    s' : ℕ → Term
    s' v = weaken_by a (s v)

    none : IsPlaced ((0, p) ∷ (depth, 0) ∷ []) (p + 0) (depth + a) s'
    none =
        subst (λ size. IsPlaced ((0, p) ∷ (depth, 0) ∷ []) size (depth + a) s') (omega arith)
        (placed-further ((0, p) ∷ (depth, 0) ∷ []) p depth a s (none-yet p depth 0 s placed))

    all : IsPlaced ((0, p) ∷ (depth, a) ∷ []) (p + a) (depth + a) (fill s' (variables a))
    all =
        subst (λ k. IsPlaced ((0, p) ∷ (depth, k) ∷ []) (p + k) (depth + a) (fill s' (variables a))) (omega arith)
        (all-there p depth 0 (depth + a) a s' (omega arith) (omega arith) none)

    motive_there : variable (depth + a) motive ≡ weaken_by a (variable depth motive)
    motive_there = ap Var (omega arith)

    end : ℕ → Term
    end d = conclusion n p motive number depth d (constructor_shape n f c)

    concluded : Alike (end (depth + a)) (E a)
    concluded =
        subst₂ (λ d u. Alike (end d) u) (omega arith)
        (ren-id (λ v. v + 0) _ (λ v. omega arith)
        ∙ ap (λ u. App (applied u (map (inst (fill s' (variables a))) c.targets)) (applied (weaken_by a (applied (Con n number) (run depth 0 p))) (variables a))) motive_there)
        (alike-conclusion n number p motive depth a 0 (depth + a) (fill s' (variables a)) c.targets refl low le all
        (subst (λ k. All (λ t. free_of t ≤ p + k) c.targets) (sym (length-shapes n f 0 c.arguments)) scoped.targets))

alike-branches : (n : ℕ) (f : Family) (number j : ℕ) (cons : List Constructor) (end E : Term) → All (IsConstructorOver (length f.parameters)) cons
    → Alike end (weaken_by (j + length (map (constructor_shape n f) cons)) E)
    → Alike (branches_over Product n (length f.parameters) (length f.parameters) number (length f.parameters + 1 + j) (map (constructor_shape n f) cons) end)
    (weaken_by j (arrows (method_types (λ v. Var (suc v)) n (map weaken (variables (length f.parameters))) (Var 0) number (map (plain_constructor n f) cons)) E))
alike-branches n f number j [] end E scoped same = subst (λ i. Alike end (weaken_by i E)) (omega arith) same
alike-branches n f number j (c ∷ cons) end E scoped same =
    subst₂ Alike
    (ap (λ d. Pi (branch_type n p p number depth (constructor_shape n f c)) (branches_over Product n p p (number + 1) d (map (constructor_shape n f) cons) end)) (omega arith))
    (sym (further j method behind ∙ ap (λ x. Pi x (weaken_by (j + 1) behind)) moved))
    (alike-pi (branch_type n p p number depth (constructor_shape n f c)) (spec.method_type (λ v. Var (suc v + j)) (applied (Fam n) (run depth 0 p)) (applied (Con n number) (run depth 0 p)) (variable depth p) (plain_constructor n f c))
    (branches_over Product n p p (number + 1) (p + 1 + (j + 1)) (map (constructor_shape n f) cons) end) (weaken_by (j + 1) behind)
    (alike-branch n f p number depth c (λ v. Var (suc v + j)) (All-head (IsConstructorOver p) c cons scoped) (omega arith) (omega arith) (placed-there p j))
    (alike-branches n f (number + 1) (j + 1) cons end E (All-tail (IsConstructorOver p) c cons scoped)
    (subst (λ i. Alike end (weaken_by i E)) (omega arith) same)))
  where
    p : ℕ
    p = length f.parameters

    depth : ℕ
    depth = p + 1 + j

    q : ℕ → Term
    q v = Var (v + j)

    ps : List Term
    ps = map weaken (variables p)

    method : Term
    method = spec.method_type (λ v. Var (suc v)) (applied (Fam n) ps) (applied (Con n number) ps) (Var 0) (plain_constructor n f c)

    behind : Term
    behind = arrows (method_types (λ v. Var (suc v)) n ps (Var 0) (number + 1) (map (plain_constructor n f) cons)) E

    moved : weaken_by j method ≡ spec.method_type (λ v. Var (suc v + j)) (applied (Fam n) (run depth 0 p)) (applied (Con n number) (run depth 0 p)) (variable depth p) (plain_constructor n f c)
    moved =
        ren-is_inst (λ v. v + j) method
        ∙ (inst-method_type q (λ v. Var (suc v)) (applied (Fam n) ps) (applied (Con n number) ps) (Var 0) (plain_constructor n f c)
        ∙ (ap (λ P. spec.method_type (λ v. Var (suc v + j)) (inst q (applied (Fam n) ps)) (inst q (applied (Con n number) ps)) P (plain_constructor n f c)) (ap Var (omega arith))
        ∙ ap₂ (λ head con. spec.method_type (λ v. Var (suc v + j)) head con (variable depth p) (plain_constructor n f c)) (symbol-there p j (Fam n) refl) (symbol-there p j (Con n number) refl)))

-- ---- the whole

alike-case : (n : ℕ) (f : Family) (m : ℕ) → IsClosedFamily f → Alike (case_type n (family_shape n f) m) (spec.eliminator_type n (without_recursion n f) m)
alike-case n f m scoped =
    alike-products f.parameters _ _
    (alike-pi (motive_type n (family_shape n f) m p) (spec.motive_type n f m) _ _
    (subst (Alike (motive_type n (family_shape n f) m p)) (ap₂ (λ i tele. products tele (Pi (applied (weaken_by i (family_head n f)) (variables i)) (Sort m))) (sym same_count) (inst_telescope-var indices ∙ sym same_types))
    (alike-indices n p p k Var (family_head n f) indices (Sort m) (Sort m) counted indices_scoped here (omega arith) (ap (applied (Fam n)) (sym (run-variables p 0 p (omega arith)))) (inl refl)))
    (subst₂ Alike (ap (λ d. branches_over Product n p p 0 d (map (constructor_shape n f) f.constructors) goal) (omega arith))
    (ren-id (λ v. v + 0) methods (λ v. omega arith))
    (alike-branches n f 0 0 f.constructors goal E scoped.constructors
    (subst₂ (λ j e. Alike goal (weaken_by j e)) (omega arith) (ap₂ (goal_of n p) (sym same_count) (sym same_types))
    (alike-goal n p (length (map (constructor_shape n f) f.constructors)) k indices counted indices_scoped)))))
  where
    p : ℕ
    p = length f.parameters

    shapes : List ArgumentShape
    shapes = (family_shape n f).indices

    indices : Telescope
    indices = types_of shapes

    k : ℕ
    k = length shapes

    counted : k ≡ length indices
    counted = sym (length-map shapes (λ x. x.type))

    same_count : length f.indices ≡ k
    same_count = sym (length-map f.indices _)

    same_types : index_types f ≡ indices
    same_types = sym (map-map (λ x. x.type) _ f.indices)

    indices_scoped : IsTelescopeOver p indices
    indices_scoped = subst (IsTelescopeOver p) same_types scoped.indices

    here : AtParameters p p Var
    here v lt = let e : level_at ((0, p) ∷ []) (p - (v + 1)) ≡ p - (v + 1) = grind (arith, nat_tests) in (omega arith, ap Var (omega arith))

    E : Term
    E = goal_of n p (length f.indices) (index_types f)

    depth : ℕ
    depth = p + 1 + length (map (constructor_shape n f) f.constructors)

    goal : Term
    goal = scrutinee_over Product n (family_shape n f) depth (at_scrutinee (depth + k + 1) depth k (variable (depth + k + 1) p))

    methods : Term
    methods = arrows (method_types (λ v. Var (suc v)) n (map weaken (variables p)) (Var 0) 0 (map (plain_constructor n f) f.constructors)) E

pub case-type : CaseTypeWithoutHypotheses
case-type n f m scoped = alike-bounded (case_type n (family_shape n f) m) (spec.eliminator_type n (without_recursion n f) m) (alike-case n f m scoped)
