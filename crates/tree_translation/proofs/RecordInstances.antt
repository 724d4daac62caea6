-- The parts of a family's record at parameters, with terms put for the variables of the context.
use Rattle.std.proofs.Common.{◌≡◌, ℕ, zero, suc, ◌+◌, ◌-◌, ◌≤◌, inl, inr, List, [], ◌∷◌, ◌++◌, length, map, refl, sym, ap, ap₂, ◌∙◌, subst, arith}
use mathlib.Core.Path.{fun_ext}
use Rattle.std.proofs.lemmas.List.{map-append, length-map}
use Rattle.theory.specs.Terms.{Term, Var, Fam, Con}
use Rattle.theory.specs.Substitutions.{inst, ups, fill}
use Rattle.theory.specs.Telescopes.{Telescope, applied, variables, weaken_by, inst_telescope}
use Rattle.theory.specs.Families.{Family, Constructor, level_of, index_types, argument_types}
use Rattle.theory.specs.Eliminators.{no_variable}
use Rattle.theory.proofs.Instances.{ren-ren, ren-same}
use Rattle.theory.proofs.ScopedTypes.{length-inst_telescope}
use Rattle.theory.proofs.Instantiation.{inst-applied, inst-fill, map-inst-inst}
use Rattle.core_sig.proofs.EntryInstances.{inst_telescope-inst, inst-argument_types}
use Rattle.tele_eq.specs.Items.{term_at, type_at, level_at}
use Rattle.tele_eq.proofs.Carrying.{ups_by, inst-none}
use Rattle.unification.specs.Records.{items_at, argument_items, family_items, constructor_terms}
use Rattle.unification.specs.Injecting.{lifted}
use Rattle.unification.proofs.Cases.{below-or_from, first-of_two, second-of_two}
use Rattle.unification.proofs.ScopedRecords.{length-argument_items}
use Rattle.tree_translation.proofs.ContextInstances.{moved-weakened, moved-lift, term-instance}
use Rattle.tree_translation.proofs.TelescopeInstances.{IsInstance}

-- ---- telescopes

-- under one binder, and then under k more
ups_by-inner : (k : ℕ) (s : ℕ → Term) (n : ℕ) → ups_by k (ups s) n ≡ ups_by (suc k) s n
ups_by-inner k s n = elim (below-or_from n k) [
  | inl lt ↦
      first-of_two n k (Var n) (weaken_by k (ups s (n - k))) lt ∙ sym (first-of_two n (suc k) (Var n) (weaken_by (suc k) (s (n - suc k))) (omega arith))
  | inr le ↦ second-of_two n k (Var n) (weaken_by k (ups s (n - k))) le ∙ by le (n - k) refl
]
  where
    by : k ≤ n → (i : ℕ) → i ≡ n - k → weaken_by k (ups s (n - k)) ≡ ups_by (suc k) s n
    by le zero e =
        let f : zero + k ≡ n = omega arith in
        ap (λ j. weaken_by k (ups s j)) (sym e)
        ∙ (ap Var f ∙ sym (first-of_two n (suc k) (Var n) (weaken_by (suc k) (s (n - suc k))) (omega arith)))
    by le (suc i) e =
        let f : n - suc k ≡ i = omega arith in
        ap (λ j. weaken_by k (ups s j)) (sym e)
        ∙ (ren-ren (λ v. v + k) suc (s i)
        ∙ (ren-same {r = λ v. suc v + k} {q = λ v. v + suc k} (s i) (λ v. omega arith)
        ∙ (ap (λ j. weaken_by (suc k) (s j)) (sym f)
        ∙ sym (second-of_two n (suc k) (Var n) (weaken_by (suc k) (s (n - suc k))) (omega arith)))))

inner-same : (k : ℕ) (s : ℕ → Term) → ups_by k (ups s) ≡ ups_by (suc k) s
inner-same k s = fun_ext (ups_by-inner k s)

-- a telescope with levels
pub items-instance : (s : ℕ → Term) (tele : Telescope) (levels : List ℕ) → IsInstance s (items_at tele levels) (items_at (inst_telescope s tele) levels)
items-instance s [] levels = record { count = refl; types = λ j. refl; levels = λ j. refl }
items-instance s (a ∷ tele) [] = record { count = refl; types = λ j. refl; levels = λ j. refl }
items-instance s (a ∷ tele) (l ∷ levels) =
    let rest = items-instance (ups s) tele levels in
    record { count = ap (λ k. suc k) rest.count; types = types rest; levels = level rest }
  where
    types : IsInstance (ups s) (items_at tele levels) (items_at (inst_telescope (ups s) tele) levels) → (j : ℕ)
        → inst (ups_by j s) (type_at (items_at (a ∷ tele) (l ∷ levels)) j) ≡ type_at (items_at (inst_telescope s (a ∷ tele)) (l ∷ levels)) j
    types rest zero = inst-none s a
    types rest (suc j) = ap (λ q. inst q (type_at (items_at tele levels) j)) (sym (inner-same j s)) ∙ rest.types j

    level : IsInstance (ups s) (items_at tele levels) (items_at (inst_telescope (ups s) tele) levels) → (j : ℕ)
        → level_at (items_at (inst_telescope s (a ∷ tele)) (l ∷ levels)) j ≡ level_at (items_at (a ∷ tele) (l ∷ levels)) j
    level rest zero = refl
    level rest (suc j) = rest.levels j

-- ---- terms at parameters

filled : (s : ℕ → Term) (ps : List Term) (v : ℕ) → inst s (fill no_variable ps v) ≡ fill no_variable (map (inst s) ps) v
filled s ps v = inst-fill s no_variable ps v

pub near-variables : (s : ℕ → Term) (k count : ℕ) → count ≤ k → map (inst (ups_by k s)) (variables count) ≡ variables count
near-variables s k zero le = refl
near-variables s k (suc count) le =
    ap₂ ◌∷◌ (first-of_two count k (Var count) (weaken_by k (s (count - k))) (omega arith)) (near-variables s k count (omega arith))

-- a symbol at parameters, and then at the nearest variables
head-instance : (s : ℕ → Term) (h : Term) (ps : List Term) (count : ℕ) → inst s h ≡ h
    → inst (ups_by count s) (applied (weaken_by count (applied h ps)) (variables count)) ≡ applied (weaken_by count (applied h (map (inst s) ps))) (variables count)
head-instance s h ps count closed =
    inst-applied (ups_by count s) (weaken_by count (applied h ps)) (variables count)
    ∙ ap₂ applied
    (moved-weakened s count (applied h ps) ∙ ap (weaken_by count) (inst-applied s h ps ∙ ap (λ head. applied head (map (inst s) ps)) closed))
    (near-variables s count count (omega arith))

-- ---- records

pub argument-instance : (s : ℕ → Term) (n : ℕ) (ps : List Term) (c : Constructor)
    → IsInstance s (argument_items n ps c) (argument_items n (map (inst s) ps) c)
argument-instance s n ps c =
    subst (λ tele. IsInstance s (argument_items n ps c) (items_at tele (map level_of c.arguments)))
    (inst-argument_types s (fill no_variable ps) (applied (Fam n) ps) c.arguments
    ∙ ap₂ (λ env head. argument_types env head c.arguments) (fun_ext (filled s ps)) (inst-applied s (Fam n) ps))
    (items-instance s (argument_types (fill no_variable ps) (applied (Fam n) ps) c.arguments) (map level_of c.arguments))

telescope-last : (s : ℕ → Term) (tele : Telescope) (a : Term)
    → inst_telescope s (tele ++ a ∷ []) ≡ inst_telescope s tele ++ inst (ups_by (length tele) s) a ∷ []
telescope-last s [] a = ap (λ t. t ∷ []) (sym (inst-none s a))
telescope-last s (b ∷ tele) a =
    ap (λ rest. inst s b ∷ rest)
    (telescope-last (ups s) tele a ∙ ap (λ q. inst_telescope (ups s) tele ++ inst q a ∷ []) (inner-same (length tele) s))

pub family-instance : (s : ℕ → Term) (n : ℕ) (f : Family) (ps : List Term) → IsInstance s (family_items n f ps) (family_items n f (map (inst s) ps))
family-instance s n f ps =
    subst (λ tele. IsInstance s (family_items n f ps) (items_at tele (map (λ i. i.1) f.indices ++ f.level ∷ [])))
    (telescope-last s (inst_telescope env (index_types f)) last
    ∙ ap₂ (λ types t. types ++ t ∷ [])
    (inst_telescope-inst s env (index_types f) ∙ ap (λ q. inst_telescope q (index_types f)) (fun_ext (filled s ps)))
    (ap (λ k. inst (ups_by k s) last) long ∙ head-instance s (Fam n) ps (length f.indices) refl))
    (items-instance s (inst_telescope env (index_types f) ++ last ∷ []) (map (λ i. i.1) f.indices ++ f.level ∷ []))
  where
    env : ℕ → Term
    env = fill no_variable ps

    last : Term
    last = applied (weaken_by (length f.indices) (applied (Fam n) ps)) (variables (length f.indices))

    long : length (inst_telescope (fill no_variable ps) (index_types f)) ≡ length f.indices
    long = length-inst_telescope (fill no_variable ps) (index_types f) ∙ length-map f.indices (λ i. i.0)

-- the targets of a constructor and the constructor, over its arguments
pub constructor-instance : (s : ℕ → Term) (n number : ℕ) (ps : List Term) (c : Constructor)
    → map (inst (ups_by (length c.arguments) s)) (constructor_terms n number ps c) ≡ constructor_terms n number (map (inst s) ps) c
constructor-instance s n number ps c =
    map-append (inst q) (map (inst (env ps)) c.targets) (head ∷ [])
    ∙ ap₂ (λ us t. us ++ t ∷ [])
    (map-inst-inst q (env ps) c.targets ∙ ap (λ r. map (inst r) c.targets) (fun_ext environment))
    (head-instance s (Con n number) ps count refl)
  where
    count : ℕ
    count = length c.arguments

    q : ℕ → Term
    q = ups_by (length c.arguments) s

    env : List Term → ℕ → Term
    env qs = fill (λ v. weaken_by (length c.arguments) (fill no_variable qs v)) (variables (length c.arguments))

    head : Term
    head = applied (weaken_by (length c.arguments) (applied (Con n number) ps)) (variables (length c.arguments))

    environment : (v : ℕ) → inst q (env ps v) ≡ env (map (inst s) ps) v
    environment v =
        inst-fill q (λ v. weaken_by count (fill no_variable ps v)) (variables count) v
        ∙ ap₂ (λ r us. fill r us v)
        (fun_ext (λ i. moved-weakened s count (fill no_variable ps i) ∙ ap (weaken_by count) (filled s ps i)))
        (near-variables s count count (omega arith))

-- over the arguments, which are as many as the places
pub constructor-at : (s : ℕ → Term) (n number : ℕ) (ps : List Term) (c : Constructor) (p : ℕ)
    → inst (ups_by (length (argument_items n ps c)) s) (term_at (constructor_terms n number ps c) p) ≡ term_at (constructor_terms n number (map (inst s) ps) c) p
constructor-at s n number ps c p =
    ap (λ k. inst (ups_by k s) (term_at (constructor_terms n number ps c) p)) (length-argument_items n ps c)
    ∙ (term-instance (ups_by (length c.arguments) s) (constructor_terms n number ps c) p
    ∙ ap (λ ts. term_at ts p) (constructor-instance s n number ps c))

pub lifted-instance : (s : ℕ → Term) (k : ℕ) (ts : List Term) → map (inst (ups_by k s)) (lifted k ts) ≡ lifted k (map (inst s) ts)
lifted-instance s k [] = refl
lifted-instance s k (t ∷ ts) = ap₂ ◌∷◌ (moved-lift s k t) (lifted-instance s k ts)
