-- The type of a constructor by its parts.
use Rattle.std.proofs.Common.{◌≡◌, ℕ, zero, suc, ◌+◌, ◌<◌, ◌≤◌, List, [], ◌∷◌, map, length, get_or, Err, Some, slice_get, option_map, refl, ap, ap₂, sym, ◌∙◌, subst, arith}
use Rattle.std.proofs.lemmas.List.{length-map}
use Rattle.std.proofs.lemmas.Option.{slice_get-map, slice_get-get_or}
use Rattle.theory.specs.Terms.{Term, height}
use Rattle.theory.specs.Terms.Term.{App, Fam, Var}
use Rattle.theory.specs.Substitutions.{ren}
use Rattle.theory.specs.Telescopes.{products, applied, variables, weaken_by}
use Rattle.theory.specs.Families as pure
use Rattle.theory.specs.Families.{argument_types, family_head}
use Rattle.theory.proofs.Lists.{some_is}
use Rattle.core_terms.specs.Meanings.{tree_of, tele_of}
use Rattle.core_terms.specs.Answers.{bounded}
use Rattle.core_terms.specs.Levels.{run}
use Rattle.core_terms.specs.declared.stop.Stop.TheVariants.{Deep}
use Rattle.core_sig.specs.ByLevels as levels
use Rattle.core_sig.specs.EntryIds.{type_behind}
use Rattle.core_sig.specs.Kinds.{HaveKinds, HasKinds}
use Rattle.core_sig.specs.Meanings.{argument_of, constructor_of, family_of}
use Rattle.core_sig.specs.declared.family.Constructor.{Constructor}
use Rattle.core_sig.specs.declared.family.Family.{Family}
use Rattle.core_sig.proofs.Arguments.{argument_types-of}
use Rattle.core_terms.proofs.Builders.{height-applied, height-products}
use Rattle.core_terms.proofs.Placing.{run-variables, run-further, deep-unless}

-- a renaming passes a spine
pub ren-applied : (r : ℕ → ℕ) (head : Term) (spine : List Term) → ren r (applied head spine) ≡ applied (ren r head) (map (ren r) spine)
ren-applied r head [] = refl
ren-applied r head (a ∷ spine) = ren-applied r (App head a) spine

-- the meaning of constructor number n of a family
pub constructor_at : (p : ℕ) (cons : List Constructor) (n : ℕ) (con : Constructor) (c : pure.Constructor) → n < length cons → con ≡ get_or cons n con → slice_get (map (constructor_of p) cons) n ≡ Some c → constructor_of p con ≡ c
constructor_at p cons n con c lt is at =
    some_is (ap (λ k. Some (constructor_of p k)) is ∙ (sym (slice_get-map (constructor_of p) cons n ∙ ap (λ o. option_map (constructor_of p) o) (slice_get-get_or cons n con lt)) ∙ at))

-- and the kinds of its arguments
pub kinds_at : (n : ℕ) (f : Family) (number : ℕ) (con : Constructor) → HasKinds n f → number < length f.cons → con ≡ get_or f.cons number con → HaveKinds n (family_of f) 0 con.args
kinds_at n f number con kinds lt is =
    subst (λ k. HaveKinds n (family_of f) 0 k.args) (sym is) (kinds.constructors number con lt)

-- the type of a constructor behind the parameters, with variables by level
pub type_behind-of : (n : ℕ) (f : Family) (con : Constructor) → HaveKinds n (family_of f) 0 con.args → type_behind n (family_of f) (constructor_of (length f.params) con) ≡ levels.type_behind n (length (tele_of f.params)) (map (λ a. tree_of a.ty) con.args) (tele_of con.targets)
type_behind-of n f con kinds =
    ap₂ products
    (ap (λ p. argument_types Var (family_head n (family_of f)) (map (argument_of p) con.args)) (sym counted) ∙ argument_types-of n (family_of f) con.args kinds)
    (ap (λ h. applied h (tele_of con.targets))
    (ren-applied (λ k. k + length (map (argument_of (length f.params)) con.args)) (Fam n) (variables p)
    ∙ ap (applied (Fam n))
    (ap (map (weaken_by (length (map (argument_of (length f.params)) con.args)))) (sym (run-variables p 0 p (omega arith)))
    ∙ (run-further p 0 p (length (map (argument_of (length f.params)) con.args)) (omega arith)
    ∙ ap (λ d. run d 0 p) (omega (arith, length-map con.args (argument_of (length f.params)), length-map con.args (λ a. tree_of a.ty)))))))
  where
    p : ℕ
    p = length (tele_of f.params)

    counted : p ≡ length f.params
    counted = length-map f.params tree_of

-- and whole
pub constructor_type-of : (n : ℕ) (f : Family) (con : Constructor) → HaveKinds n (family_of f) 0 con.args → pure.constructor_type n (family_of f) (constructor_of (length f.params) con) ≡ levels.constructor_type n (tele_of f.params) (map (λ a. tree_of a.ty) con.args) (tele_of con.targets)
constructor_type-of n f con kinds = ap (products (tele_of f.params)) (type_behind-of n f con kinds)

length-run : (depth start count : ℕ) → length (run depth start count) ≡ count
length-run depth start zero = refl
length-run depth start (suc count) = ap suc (length-run depth (start + 1) count)

-- there are as many parameters and arguments as the part behind the parameters is high, at most
behind-high : (n : ℕ) (f : Family) (con : Constructor) → HaveKinds n (family_of f) 0 con.args → height (type_behind n (family_of f) (constructor_of (length f.params) con)) ≤ 2000 → (length f.params ≤ 2000) × (length con.args ≤ 2000)
behind-high n f con kinds low =
    let types = map (λ a. tree_of a.ty) con.args in
    let p = length (tele_of f.params) in
    let spine = run (p + length types) 0 p in
    let outer = height-products types (applied (applied (Fam n) spine) (tele_of con.targets)) in
    let inner = height-applied (applied (Fam n) spine) (tele_of con.targets) in
    let head = height-applied (Fam n) spine in
    let whole = subst (λ t. height t ≤ 2000) (type_behind-of n f con kinds) low in
    let params = length-map f.params tree_of in
    let args = length-map con.args (λ a. tree_of a.ty) in
    let many = length-run (p + length types) 0 p in
    (omega arith, omega arith)

-- too many parameters or arguments make it too high, behind the parameters too
pub behind-deep : (n : ℕ) (f : Family) (con : Constructor) → HaveKinds n (family_of f) 0 con.args → ¬ ((length f.params ≤ 2000) × (length con.args ≤ 2000)) → Err Deep ≡ bounded (type_behind n (family_of f) (constructor_of (length f.params) con))
behind-deep n f con kinds many =
    sym (deep-unless (type_behind n (family_of f) (constructor_of (length f.params) con)) (λ low. many (behind-high n f con kinds low)))

pub constructor-deep : (n : ℕ) (f : Family) (con : Constructor) → HaveKinds n (family_of f) 0 con.args → ¬ ((length f.params ≤ 2000) × (length con.args ≤ 2000)) → Err Deep ≡ bounded (pure.constructor_type n (family_of f) (constructor_of (length f.params) con))
constructor-deep n f con kinds many =
    let behind = type_behind n (family_of f) (constructor_of (length f.params) con) in
    sym (deep-unless (products (tele_of f.params) behind)
    (λ low. let outer = height-products (tele_of f.params) behind in many (behind-high n f con kinds (omega arith))))
