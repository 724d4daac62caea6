-- Hypotheses and methods with variables by level are those of the theory.
use Rattle.std.proofs.Common.{◌≡◌, ℕ, suc, ◌+◌, ◌-◌, ◌<◌, ◌≤◌, Bool, true, false, nat_le, if◌then◌else◌, List, [], ◌∷◌, map, length, inl, inr, refl, ap, ap₂, sym, ◌∙◌, subst, subst₂, arith, All, zero}
use Rattle.std.proofs.lemmas.Bool.Decides.{nat_tests}
use mathlib.Core.Path.{fun_ext}
use Rattle.theory.specs.Terms.{Term, height, free_of}
use Rattle.theory.specs.Terms.Term.{Var, Pi, App, Fam, Con}
use Rattle.theory.specs.Substitutions.{inst, ups, weaken, extend, fill}
use Rattle.theory.specs.Scopes.{IsTelescopeOver, IsArgumentOver, AreArgumentsOver, IsConstructorOver}
use Rattle.theory.specs.Telescopes.{Telescope, applied, arrows, variables, weaken_by, products, inst_telescope}
use Rattle.theory.specs.Families as pure
use Rattle.theory.specs.Families.{recursive_type, family_head, argument_types}
use Rattle.theory.specs.Eliminators as spec
use Rattle.theory.specs.Eliminators.{hypothesis_types}
use Rattle.theory.proofs.Instances.{inst-var, ren-is_inst, ren-inst}
use Rattle.theory.proofs.Renaming.{ren-weaken}
use Rattle.core_terms.specs.declared.levels.Binder.TheVariants.{Product}
use Rattle.core_terms.specs.Levels.{variable, level_at, place, run}
use Rattle.core_terms.specs.Meanings.{tree_of, tele_of}
use Rattle.core_terms.proofs.Builders.{applied-push}
use Rattle.core_terms.proofs.Placing.{IsPlaced, Alike, alike-pi, alike-app, alike-place, alike-spine, placed-up, placed-extend, placed-kept, placed-further, variable-weaken, run-weaken, run-push, alike-over, run-variables, run-further}
use Rattle.core_sig.specs.ByLevels.{applied_to_targets, hypothesis_from, hypothesis_type, hypotheses_over, conclusion, method_type}
use Rattle.core_sig.specs.Kinds.{HasKind, HaveKinds}
use Rattle.core_sig.specs.Meanings.{argument_with, argument_of, constructor_of}
use Rattle.core_sig.specs.Shapes.{argument_shape, recursive_count, ArgumentShape, constructor_shape, types_of}
use Rattle.core_sig.specs.declared.family.ArgKind.{ArgKind}
use Rattle.core_sig.specs.declared.family.ArgKind.TheVariants.{Plain, Recursive}
use Rattle.core_sig.specs.declared.family.Arg.{Arg}
use Rattle.core_sig.proofs.Arguments.{ups-same_var, map-inst-var, weaken-weaken_by, argument_with-recursive, argument_types-inst, argument_types-of}
use Rattle.core_sig.proofs.ConstructorTypes.{ren-applied}
use Rattle.core_sig.proofs.EntryInstances.{inst-hypothesis_type, ren-id}
use Rattle.std.proofs.lemmas.List.{length-map}
use Rattle.std.proofs.lemmas.Simd.{map-map}
use Rattle.theory.proofs.Instantiation.{inst-applied}
use Rattle.theory.proofs.Scopes.{scoped-arguments}
use Rattle.theory.proofs.ScopedTypes.{scoped-head}
use Rattle.core_sig.specs.declared.family.Constructor.{Constructor}

-- a spine with another head, and its arguments placed
targets-applied : (runs : List (ℕ × ℕ)) (size depth : ℕ) (h x : Term) (ts : List Term) (j : ℕ) → applied_to_targets runs size depth h (length ts + j) (applied x ts) ≡ applied (applied_to_targets runs size depth h j x) (map (place runs size depth) ts)
targets-applied runs size depth h x [] j = ap (λ k. applied_to_targets runs size depth h k x) (omega arith)
targets-applied runs size depth h x (t ∷ ts) j =
    ap (λ k. applied_to_targets runs size depth h k (applied (App x t) ts)) (omega arith)
    ∙ targets-applied runs size depth h (App x t) ts (suc j)

-- an argument at its inner arguments, one more of them
inner-more : (depth r start i : ℕ) → depth ≡ start + i → r < depth → App (weaken (applied (variable depth r) (run depth start i))) (Var 0) ≡ applied (variable (depth + 1) r) (run (depth + 1) start (suc i))
inner-more depth r start i is lt =
    ap (λ f. App f (Var 0))
    (ren-applied suc (variable depth r) (run depth start i)
    ∙ ap₂ applied (variable-weaken depth r lt) (run-weaken depth start i (omega arith)))
    ∙ (ap (App (applied (variable (depth + 1) r) (run (depth + 1) start i))) (ap Var (omega arith))
    ∙ (sym (applied-push (variable (depth + 1) r) (run (depth + 1) start i) (variable (depth + 1) (start + i)))
    ∙ ap (applied (variable (depth + 1) r)) (sym (run-push (depth + 1) start i))))

-- the hypothesis for an argument, from the form of its type
alike-from : (runs : List (ℕ × ℕ)) (size depth motive r start i k : ℕ) (s : ℕ → Term) (head : Term) (inner : Telescope) (targets : List Term) → depth ≡ start + i → motive < depth → r < depth
    → ((l : ℕ) → l < length inner → level_at runs (size + l) ≡ depth + l) → IsPlaced runs size depth s → IsTelescopeOver size inner → All (λ t. free_of t ≤ size + length inner) targets → length targets ≡ k
    → Alike (hypothesis_from runs size depth motive r start k (length inner) (recursive_type Var head inner targets)) (spec.hypothesis_type s (variable depth motive) (applied (variable depth r) (run depth start i)) inner targets)
alike-from runs size depth motive r start i k s head [] targets is motive_low r_low next at scoped free counted =
    alike-app (applied_to_targets runs size depth (variable depth motive) k (applied head (map (inst Var) targets))) (applied (variable depth motive) (map (inst s) targets))
    (applied (variable depth r) (run depth start (depth - start))) (applied (variable depth r) (run depth start i))
    (subst (λ x. Alike x (applied (variable depth motive) (map (inst s) targets))) (sym shown)
    (alike-spine runs size depth s (variable depth motive) (variable depth motive) targets at (inl refl)
    (subst (λ n. All (λ t. free_of t ≤ n) targets) (omega arith) free)))
    (inl (let e : depth - start ≡ i = omega arith in ap (λ j. applied (variable depth r) (run depth start j)) e))
  where
    all_targets : k ≡ length targets + 0
    all_targets = omega arith

    shown : applied_to_targets runs size depth (variable depth motive) k (applied head (map (inst Var) targets)) ≡ applied (variable depth motive) (map (place runs size depth) targets)
    shown =
        ap₂ (λ j ts. applied_to_targets runs size depth (variable depth motive) j (applied head ts)) all_targets (map-inst-var targets)
        ∙ targets-applied runs size depth (variable depth motive) head targets 0
alike-from runs size depth motive r start i k s head (a ∷ inner) targets is motive_low r_low next at scoped free counted =
    alike-pi (place runs size depth (inst Var a)) (inst s a) _ _
    (subst (λ t. Alike (place runs size depth t) (inst s a)) (sym (inst-var a)) (alike-place runs size depth s a at scoped.0))
    (subst₂ Alike
    (ap (λ q. hypothesis_from runs (size + 1) (depth + 1) motive r start k (length inner) (recursive_type q (weaken head) inner targets)) (sym ups-same_var))
    (ap₂ (λ P u. spec.hypothesis_type (ups s) P u inner targets) (sym (variable-weaken depth motive motive_low)) (sym (inner-more depth r start i is r_low)))
    (alike-from runs (size + 1) (depth + 1) motive r start (suc i) k (ups s) (weaken head) inner targets (omega arith) (omega arith) (omega arith)
    further (placed-up runs size depth s here at) scoped.1 (subst (λ n. All (λ t. free_of t ≤ n) targets) (omega arith) free) counted))
  where
    here : level_at runs size ≡ depth
    here = (let e : size ≡ size + 0 = omega arith in ap (level_at runs) e) ∙ (next 0 (omega arith) ∙ omega arith)

    further : (l : ℕ) → l < length inner → level_at runs (size + 1 + l) ≡ depth + 1 + l
    further l lt = (let e : size + 1 + l ≡ size + suc l = omega arith in ap (level_at runs) e) ∙ (next (suc l) (omega arith) ∙ omega arith)

-- one argument more
pub placed-argument : (p first at depth rest : ℕ) (s : ℕ → Term) → depth ≡ first + at + suc rest → p ≤ depth → IsPlaced ((0, p) ∷ (first, at) ∷ []) (p + at) depth s → IsPlaced ((0, p) ∷ (first, at + 1) ∷ []) (p + (at + 1)) depth (extend s (Var rest))
placed-argument p first at depth rest s is le placed =
    subst₂ (λ size u. IsPlaced ((0, p) ∷ (first, at + 1) ∷ []) size depth (extend s u)) (omega arith) (ap Var (omega arith))
    (placed-extend ((0, p) ∷ (first, at) ∷ []) ((0, p) ∷ (first, at + 1) ∷ []) (p + at) depth (first + at) s
    (λ l lt. grind (arith, nat_tests)) (grind (arith, nat_tests)) (omega arith) placed)

-- ---- hypotheses

height-hypothesis : (s : ℕ → Term) (P r : Term) (inner : Telescope) (targets : List Term) → length inner < height (spec.hypothesis_type s P r inner targets)
height-hypothesis s P r [] targets = omega arith
height-hypothesis s P r (a ∷ inner) targets = omega (arith, height-hypothesis (ups s) (weaken P) (App (weaken r) (Var 0)) inner targets)

height-recursive : (s : ℕ → Term) (head : Term) (inner : Telescope) (targets : List Term) → length inner ≤ height (recursive_type s head inner targets)
height-recursive s head [] targets = omega arith
height-recursive s head (a ∷ inner) targets = omega (arith, height-recursive (ups s) (weaken head) inner targets)

-- the hypothesis for argument `at`
pub alike-hypothesis : (p k motive first at depth count : ℕ) (s : ℕ → Term) (head : Term) (inner : Telescope) (targets : List Term) (t : Term) → t ≡ recursive_type Var head inner targets → length inner ≡ count → length targets ≡ k
    → motive < depth → first + at < depth → IsPlaced ((0, p) ∷ (first, at) ∷ []) (p + at) depth s → IsTelescopeOver (p + at) inner → All (λ u. free_of u ≤ p + at + length inner) targets
    → Alike (hypothesis_type p k motive first at depth count t) (spec.hypothesis_type s (variable depth motive) (variable depth (first + at)) inner targets)
alike-hypothesis p k motive first at depth count s head inner targets t is inner_count target_count motive_low at_low placed scoped free = by (nat_le count 2000) refl
  where
    runs : List (ℕ × ℕ)
    runs = (0, p) ∷ (first, at) ∷ (depth, count) ∷ []

    made : Term
    made = hypothesis_from runs (p + at) depth motive (first + at) depth k count t

    wanted : Term
    wanted = spec.hypothesis_type s (variable depth motive) (variable depth (first + at)) inner targets

    alike : Alike made wanted
    alike =
        subst₂ (λ c u. Alike (hypothesis_from runs (p + at) depth motive (first + at) depth k c u) wanted) inner_count (sym is)
        (alike-from runs (p + at) depth motive (first + at) depth 0 k s head inner targets (omega arith) motive_low at_low
        (λ l lt. grind (arith, nat_tests))
        (placed-kept ((0, p) ∷ (first, at) ∷ []) runs (p + at) depth s (λ l lt. grind (arith, nat_tests)) placed)
        scoped free target_count)

    by : (b : Bool) → nat_le count 2000 ≡ b → Alike (hypothesis_type p k motive first at depth count t) wanted
    by true e = subst (λ u. Alike u wanted) (sym (ap (λ b. if b then made else t) e)) alike
    by false e =
        let many : 2000 < count = grind (arith, nat_tests) in
        let stays : hypothesis_type p k motive first at depth count t ≡ t = ap (λ b. if b then made else t) e in
        let here = ap height (stays ∙ is) in
        let least = height-recursive Var head inner targets in
        let wanted_least = height-hypothesis s (variable depth motive) (variable depth (first + at)) inner targets in
        inr (omega arith, omega arith)

-- the codomain after j binders more
pub further : (j : ℕ) (a b : Term) → weaken_by j (Pi a (weaken b)) ≡ Pi (weaken_by j a) (weaken_by (j + 1) b)
further j a b = ap (Pi (weaken_by j a)) (ren-weaken (λ n. n + j) b ∙ weaken-weaken_by j b)

-- ---- environments

-- `s` puts for each of p parameters the variable with its level
abbrev pub AtParameters : (p depth : ℕ) (s : ℕ → Term) → Type 0
AtParameters p depth s = IsPlaced ((0, p) ∷ []) p depth s

-- with arguments to come, of which none is there
pub none-yet : (p depth count : ℕ) (s : ℕ → Term) → AtParameters p depth s → IsPlaced ((0, p) ∷ (depth, count) ∷ []) p depth s
none-yet p depth count s placed = placed-kept ((0, p) ∷ []) ((0, p) ∷ (depth, count) ∷ []) p depth s (λ l lt. grind (arith, nat_tests)) placed

-- with all arguments
pub all-there : (p first at depth rest : ℕ) (s : ℕ → Term) → depth ≡ first + at + rest → p ≤ depth → IsPlaced ((0, p) ∷ (first, at) ∷ []) (p + at) depth s → IsPlaced ((0, p) ∷ (first, at + rest) ∷ []) (p + (at + rest)) depth (fill s (variables rest))
all-there p first at depth zero s is le placed = subst (λ k. IsPlaced ((0, p) ∷ (first, k) ∷ []) (p + k) depth s) (omega arith) placed
all-there p first at depth (suc rest) s is le placed =
    subst (λ k. IsPlaced ((0, p) ∷ (first, k) ∷ []) (p + k) depth (fill (extend s (Var rest)) (variables rest))) (omega arith)
    (all-there p first (at + 1) depth rest (extend s (Var rest)) (omega arith) le (placed-argument p first at depth rest s is le placed))

-- the parameters where they are placed
pub at-parameters : (p depth : ℕ) (s : ℕ → Term) → AtParameters p depth s → p ≤ depth → map (inst s) (variables p) ≡ run depth 0 p
at-parameters p depth s placed le = from p 0 (omega arith)
  where
    from : (count start : ℕ) → start + count ≡ p → map (inst s) (variables count) ≡ run depth start count
    from zero start is = refl
    from (suc count) start is =
        ap₂ ◌∷◌ (here (placed count (omega arith)).1) (from count (start + 1) (omega arith))
      where
        here : s count ≡ variable depth (level_at ((0, p) ∷ []) (p - (count + 1))) → s count ≡ variable depth start
        here e = e ∙ ap (variable depth) (grind (arith, nat_tests))

-- the motive at the targets and at the constructor, after h hypotheses
pub alike-conclusion : (n number p motive first a h depth : ℕ) (s : ℕ → Term) (targets : List Term) → depth ≡ first + a → motive < first → p ≤ first → IsPlaced ((0, p) ∷ (first, a) ∷ []) (p + a) depth s → All (λ t. free_of t ≤ p + a) targets
    → Alike (App (applied (variable (depth + h) motive) (map (place ((0, p) ∷ (first, a) ∷ []) (p + a) (depth + h)) targets)) (applied (applied (Con n number) (run (depth + h) 0 p)) (run (depth + h) first a)))
    (weaken_by h (App (applied (variable depth motive) (map (inst s) targets)) (applied (weaken_by a (applied (Con n number) (run first 0 p))) (variables a))))
alike-conclusion n number p motive first a h depth s targets is low le placed free =
    alike-app _ _ _ _
    (subst (Alike (applied (variable (depth + h) motive) (map (place ((0, p) ∷ (first, a) ∷ []) (p + a) (depth + h)) targets))) (sym shown)
    (alike-spine ((0, p) ∷ (first, a) ∷ []) (p + a) (depth + h) (λ v. weaken_by h (s v)) (variable (depth + h) motive) (variable (depth + h) motive) targets
    (placed-further ((0, p) ∷ (first, a) ∷ []) (p + a) depth h s placed) (inl refl) free))
    (inl (sym scrutinee))
  where
    shown : weaken_by h (applied (variable depth motive) (map (inst s) targets)) ≡ applied (variable (depth + h) motive) (map (inst (λ v. weaken_by h (s v))) targets)
    shown =
        ren-applied (λ v. v + h) (variable depth motive) (map (inst s) targets)
        ∙ ap₂ applied (ap Var (omega arith)) (map-map (weaken_by h) (inst s) targets ∙ ap (λ g. map g targets) (fun_ext (ren-inst (λ v. v + h) s)))

    scrutinee : weaken_by h (applied (weaken_by a (applied (Con n number) (run first 0 p))) (variables a)) ≡ applied (applied (Con n number) (run (depth + h) 0 p)) (run (depth + h) first a)
    scrutinee =
        ren-applied (λ v. v + h) (weaken_by a (applied (Con n number) (run first 0 p))) (variables a)
        ∙ ap₂ applied
        (ap (weaken_by h) (ren-applied (λ v. v + a) (Con n number) (run first 0 p) ∙ ap (applied (Con n number)) (run-further first 0 p a (omega arith)))
        ∙ (ren-applied (λ v. v + h) (Con n number) (run (first + a) 0 p)
        ∙ ap (applied (Con n number)) (run-further (first + a) 0 p h (omega arith) ∙ ap (λ d. run d 0 p) (omega arith))))
        (ap (map (weaken_by h)) (sym (run-variables depth first a is)) ∙ run-further depth first a h (omega arith))

module _ (n : ℕ) (f : pure.Family) where
  abbrev p : ℕ
  p = length f.parameters

  abbrev k : ℕ
  k = length f.indices

  -- the hypothesis for a recursive argument, after j others
  pub hypothesis-behind : (motive first at depth j count rest : ℕ) (s : ℕ → Term) (t : Term) (level : ℕ) → (kind : HasKind n f at (Recursive count) t) → IsArgumentOver (p + at) (argument_with p t level (Recursive count))
      → depth ≡ first + at + suc rest → motive < first → IsPlaced ((0, p) ∷ (first, at) ∷ []) (p + at) depth s
      → Alike (hypothesis_type p k motive first at (depth + j) count t) (weaken_by j (spec.hypothesis_type s (variable depth motive) (Var rest) kind.0 kind.1))
  hypothesis-behind motive first at depth j count rest s t level (inner, targets, counted, form) scoped is low placed =
      subst (Alike (hypothesis_type p k motive first at (depth + j) count t)) (sym moved)
      (alike-hypothesis p k motive first at (depth + j) count (λ v. weaken_by j (s v)) (weaken_by at (family_head n f)) inner targets t form.form counted form.target_count (omega arith) (omega arith)
      (placed-further ((0, p) ∷ (first, at) ∷ []) (p + at) depth j s placed) over.0 over.1)
    where
      over : IsArgumentOver (p + at) (pure.Recursive inner targets level)
      over = subst (IsArgumentOver (p + at)) (argument_with-recursive n f at count inner targets t level counted form) scoped

      q : ℕ → Term
      q v = Var (v + j)

      moved : weaken_by j (spec.hypothesis_type s (variable depth motive) (Var rest) inner targets) ≡ spec.hypothesis_type (λ v. weaken_by j (s v)) (variable (depth + j) motive) (variable (depth + j) (first + at)) inner targets
      moved =
          ren-is_inst (λ v. v + j) (spec.hypothesis_type s (variable depth motive) (Var rest) inner targets)
          ∙ (inst-hypothesis_type q s (variable depth motive) (Var rest) inner targets
          ∙ (ap (λ e. spec.hypothesis_type e (inst q (variable depth motive)) (inst q (Var rest)) inner targets) (fun_ext (λ v. sym (ren-is_inst (λ m. m + j) (s v))))
          ∙ ap₂ (λ P u. spec.hypothesis_type (λ v. weaken_by j (s v)) P u inner targets) (ap Var (omega arith)) (ap Var (omega arith))))

  -- the methods' types agree from an argument on, if they do from the argument after it on
  step : (motive first at depth j : ℕ) (rest : List Arg) (s : ℕ → Term) (end E : Term) (t : Term) (level : ℕ) (kind : ArgKind) → HasKind n f at kind t → IsArgumentOver (p + at) (argument_with p t level kind)
      → depth ≡ first + at + suc (length (map argument_shape rest)) → motive < first → IsPlaced ((0, p) ∷ (first, at) ∷ []) (p + at) depth s
      → Alike end (weaken_by (j + recursive_count (record { type = t; level = level; kind = kind } ∷ map argument_shape rest)) E)
      → ((i : ℕ) → Alike end (weaken_by (i + recursive_count (map argument_shape rest)) E)
      → Alike (hypotheses_over Product p k motive first (at + 1) (depth + i) (map argument_shape rest) end)
      (weaken_by i (arrows (hypothesis_types (extend s (Var (length (map argument_shape rest)))) (variable depth motive) (map (argument_of p) rest) (variables (length (map argument_shape rest)))) E)))
      → Alike (hypotheses_over Product p k motive first at (depth + j) (record { type = t; level = level; kind = kind } ∷ map argument_shape rest) end)
      (weaken_by j (arrows (hypothesis_types s (variable depth motive) (argument_with p t level kind ∷ map (argument_of p) rest) (variables (suc (length (map argument_shape rest))))) E))
  step motive first at depth j rest s end E t level Plain kind scoped is low placed same others = others j same
  step motive first at depth j rest s end E t level (Recursive count) kind scoped is low placed same others =
      subst (Alike (Pi (hypothesis_type p k motive first at (depth + j) count t) (hypotheses_over Product p k motive first (at + 1) (depth + j + 1) (map argument_shape rest) end)))
      (sym (ap (λ a. weaken_by j (arrows (hypothesis_types s (variable depth motive) (a ∷ map (argument_of p) rest) (variables (suc (length (map argument_shape rest))))) E)) (argument_with-recursive n f at count kind.0 kind.1 t level kind.2 kind.3)
      ∙ further j (spec.hypothesis_type s (variable depth motive) (Var (length (map argument_shape rest))) kind.0 kind.1) behind))
      (alike-pi (hypothesis_type p k motive first at (depth + j) count t) (weaken_by j (spec.hypothesis_type s (variable depth motive) (Var (length (map argument_shape rest))) kind.0 kind.1))
      (hypotheses_over Product p k motive first (at + 1) (depth + j + 1) (map argument_shape rest) end) (weaken_by (j + 1) behind)
      (hypothesis-behind motive first at depth j count (length (map argument_shape rest)) s t level kind scoped is low placed)
      (subst (λ d. Alike (hypotheses_over Product p k motive first (at + 1) d (map argument_shape rest) end) (weaken_by (j + 1) behind)) (omega arith)
      (others (j + 1) (subst (λ i. Alike end (weaken_by i E)) (omega arith) same))))
    where
      behind : Term
      behind = arrows (hypothesis_types (extend s (Var (length (map argument_shape rest)))) (variable depth motive) (map (argument_of p) rest) (variables (length (map argument_shape rest)))) E

  -- the hypotheses for arguments after `at` others, after j hypotheses
  pub alike-hypotheses : (motive first at depth j : ℕ) (args : List Arg) (s : ℕ → Term) (end E : Term) → HaveKinds n f at args → AreArgumentsOver (p + at) (map (argument_of p) args)
      → depth ≡ first + at + length (map argument_shape args) → motive < first → p ≤ first → IsPlaced ((0, p) ∷ (first, at) ∷ []) (p + at) depth s
      → Alike end (weaken_by (j + recursive_count (map argument_shape args)) E)
      → Alike (hypotheses_over Product p k motive first at (depth + j) (map argument_shape args) end)
      (weaken_by j (arrows (hypothesis_types s (variable depth motive) (map (argument_of p) args) (variables (length (map argument_shape args)))) E))
  alike-hypotheses motive first at depth j [] s end E kinds scoped is low le placed same =
      subst (λ i. Alike end (weaken_by i E)) (omega arith) same
  alike-hypotheses motive first at depth j (a ∷ args) s end E kinds scoped is low le placed same =
      step motive first at depth j args s end E (tree_of a.ty) a.level a.kind kinds.0 scoped.0 is low placed same
      (λ i here. alike-hypotheses motive first (at + 1) depth i args (extend s (Var (length (map argument_shape args)))) end E kinds.1
      (subst (λ m. AreArgumentsOver m (map (argument_of p) args)) (omega arith) scoped.1) (omega arith) low le
      (placed-argument p first at depth (length (map argument_shape args)) s is (omega arith) placed) here)

  -- family n at its parameters there
  pub head-there : (depth : ℕ) (s : ℕ → Term) → AtParameters p depth s → p ≤ depth → inst s (weaken_by 0 (family_head n f)) ≡ applied (Fam n) (run depth 0 p)
  head-there depth s placed le =
      ap (inst s) (ren-id (λ v. v + 0) (family_head n f) (λ v. omega arith))
      ∙ (inst-applied s (Fam n) (variables p) ∙ ap (applied (Fam n)) (at-parameters p depth s placed le))

  -- a method
  pub alike-method : (motive number depth : ℕ) (con : Constructor) (s : ℕ → Term) → HaveKinds n f 0 con.args → IsConstructorOver p (constructor_of p con) → motive < depth → p ≤ depth → AtParameters p depth s
      → Alike (method_type n p k motive number depth (constructor_shape con)) (spec.method_type s (applied (Fam n) (run depth 0 p)) (applied (Con n number) (run depth 0 p)) (variable depth motive) (constructor_of p con))
  alike-method motive number depth con s kinds scoped low le placed =
      subst (Alike (method_type n p k motive number depth (constructor_shape con)))
      (ap₂ (λ tele k. products tele (wanted k)) (sym types) (sym counted))
      (alike-over Product ((0, p) ∷ (depth, a) ∷ []) p depth s (types_of args) _ (wanted a) next (none-yet p depth a s placed) types_scoped
      (subst₂ (λ d u. Alike (hypotheses_over Product p k motive depth 0 d args end) u) (omega arith)
      (ren-id (λ v. v + 0) _ (λ v. omega arith) ∙ ap (λ u. arrows (hypothesis_types s' u pure_args (variables a)) (E a)) motive_there)
      (alike-hypotheses motive depth 0 (depth + a) 0 con.args s' end (E a) kinds (subst (λ k. AreArgumentsOver k pure_args) (omega arith) scoped.arguments) (omega arith) low le none concluded)))
    where
      args : List ArgumentShape
      args = map argument_shape con.args

      pure_args : List pure.Argument
      pure_args = map (argument_of p) con.args

      a : ℕ
      a = length args

      counted : length pure_args ≡ a
      counted = length-map con.args (argument_of p) ∙ sym (length-map con.args argument_shape)

      E : ℕ → Term
      E k =
          App (applied (weaken_by k (variable depth motive)) (map (inst (fill (λ v. weaken_by k (s v)) (variables k))) (tele_of con.targets)))
          (applied (weaken_by k (applied (Con n number) (run depth 0 p))) (variables k))

      wanted : ℕ → Term
      wanted k = arrows (hypothesis_types (λ v. weaken_by k (s v)) (weaken_by k (variable depth motive)) pure_args (variables k)) (E k)

      types : argument_types s (applied (Fam n) (run depth 0 p)) pure_args ≡ inst_telescope s (types_of args)
      types = ap (λ h. argument_types s h pure_args) (sym (head-there depth s placed le)) ∙ argument_types-inst n f 0 s con.args kinds

      types_scoped : IsTelescopeOver p (types_of args)
      types_scoped =
          subst (IsTelescopeOver p) (argument_types-of n f con.args kinds ∙ sym (map-map (λ x. x.type) argument_shape con.args))
          (scoped-arguments Var (family_head n f) pure_args p p (λ i lt. omega arith) (scoped-head n f) scoped.arguments)

      next : (l : ℕ) → l < length (types_of args) → level_at ((0, p) ∷ (depth, a) ∷ []) (p + l) ≡ depth + l
      next l lt = grind (arith, nat_tests, length-map args (λ x. x.type))

      s' : ℕ → Term
      s' v = weaken_by a (s v)

      none : IsPlaced ((0, p) ∷ (depth, 0) ∷ []) (p + 0) (depth + a) s'
      none =
          subst (λ size. IsPlaced ((0, p) ∷ (depth, 0) ∷ []) size (depth + a) s') (omega arith)
          (placed-further ((0, p) ∷ (depth, 0) ∷ []) p depth a s (none-yet p depth 0 s placed))

      all : IsPlaced ((0, p) ∷ (depth, a) ∷ []) (p + a) (depth + a) (fill s' (variables a))
      all =
          subst (λ k. IsPlaced ((0, p) ∷ (depth, k) ∷ []) (p + k) (depth + a) (fill s' (variables a))) (omega arith)
          (all-there p depth 0 (depth + a) a s' (omega arith) (omega arith) none)

      motive_there : variable (depth + a) motive ≡ weaken_by a (variable depth motive)
      motive_there = ap Var (omega arith)

      end : Term
      end = conclusion n p motive number depth (depth + a + recursive_count args) (constructor_shape con)

      concluded : Alike end (weaken_by (0 + recursive_count args) (E a))
      concluded =
          subst₂ (λ h u. Alike end (weaken_by h (App (applied u (map (inst (fill s' (variables a))) (tele_of con.targets))) (applied (weaken_by a (applied (Con n number) (run depth 0 p))) (variables a))))) (omega arith) motive_there
          (alike-conclusion n number p motive depth a (recursive_count args) (depth + a) (fill s' (variables a)) (tele_of con.targets) refl low le all
          (subst (λ k. All (λ t. free_of t ≤ p + k) (tele_of con.targets)) counted scoped.targets))
