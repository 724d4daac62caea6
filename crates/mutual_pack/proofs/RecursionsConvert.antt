-- The hypotheses of the packed family's eliminator convert to inductions at the recursive arguments.
use Rattle.std.proofs.Common.{◌≡◌, ℕ, zero, suc, ◌+◌, ◌-◌, ◌<◌, ◌≤◌, Bool, true, false, nat_lt, nat_le, cond, if◌then◌else◌, List, [], ◌∷◌, length, All, refl, ap, ap₂, sym, ◌∙◌, subst, subst₂, arith}
use Rattle.std.proofs.lemmas.Bool.Decides.{nat_tests}
use Rattle.std.proofs.lemmas.List.Elements.{All-head, All-tail}
use Rattle.theory.specs.Terms.{Term, height, free_of}
use Rattle.theory.specs.Terms.Term.{Var, App, Con}
use Rattle.theory.specs.Substitutions.{inst, ups, weaken, extend}
use Rattle.theory.specs.Telescopes.{Telescope, applied, weaken_by}
use Rattle.theory.specs.Families.{Argument, Plain, Recursive, Family, family_head, recursive_type}
use Rattle.theory.specs.Eliminators.{hypothesis, hypotheses}
use Rattle.theory.specs.Signatures.{Signature}
use Rattle.theory.specs.Conversion.{Converts}
use Rattle.theory.proofs.Congruence.{converts-sym, converts-app, converts-lam}
use Rattle.theory.proofs.Instances.{inst-same, inst-var, ren-is_inst}
use Rattle.core_terms.specs.Levels.{variable, run, level_at, place_under, place}
use Rattle.core_terms.proofs.Builders.{applied-push}
use Rattle.core_terms.proofs.Placing.{IsPlaced, place-inst, placed-up, placed-extend, placed-kept, variable-weaken, run-weaken, run-push}
use Rattle.core_sig.specs.FamilyShapes.{argument_shapes}
use Rattle.core_sig.proofs.ConstructorTypes.{ren-applied}
use Rattle.case_below_gen.specs.CourseLaws.{AreRegular}
use Rattle.case_below_gen.proofs.Functions.{converts-from}
use Rattle.mutual_pack.specs.declared.packed_family.PackedFamily.{PackedFamily}
use Rattle.mutual_pack.specs.Equations.{induction_at, recursion_from, recursion_at, applied_to_recursions}
use Rattle.mutual_pack.specs.Inductions.{at_inner, induction_size, eliminated}
use Rattle.mutual_pack.proofs.InductionsUnfold.{eliminated-relevel}

-- a recursive argument ends in the packed family at the tag of a member
abbrev pub HasTag : (tag members : ℕ) → Argument → Type 0
HasTag tag members (Plain type level) = Unit {0}
HasTag tag members (Recursive inner targets level) = (j : ℕ) × (j < members) × (targets ≡ Con tag j ∷ [])

-- each induction converts to the eliminator
abbrev pub Unfold : Signature → PackedFamily → (analysis : ℕ) → (inductions : List ℕ) → Type 0
Unfold S q analysis inductions =
    (k depth : ℕ) (x : Term) → k < q.members → induction_size q ≤ depth → Converts S (App (induction_at q inductions k depth) x) (App (App (eliminated q analysis depth) (Con q.tag k)) x)

-- ---- one binder more

eliminated-weaken : (q : PackedFamily) (analysis depth : ℕ) → induction_size q ≤ depth → weaken (eliminated q analysis depth) ≡ eliminated q analysis (depth + 1)
eliminated-weaken q analysis depth deep =
    ren-is_inst suc (eliminated q analysis depth)
    ∙ eliminated-relevel q analysis (λ v. Var (suc v)) depth (depth + 1) deep (omega arith) (λ l lt. variable-weaken depth l (omega arith))

inner-more : (r start depth : ℕ) → r < depth → start ≤ depth → App (weaken (at_inner r start depth)) (Var 0) ≡ at_inner r start (depth + 1)
inner-more r start depth below low =
    let count = depth - start in
    let head = variable (depth + 1) r in
    let more : suc count ≡ depth + 1 - start = omega arith in
    let last : Var 0 ≡ variable (depth + 1) (start + count) = ap Var (omega arith) in
    ap₂ App (ren-applied suc (variable depth r) (run depth start count) ∙ ap₂ applied (variable-weaken depth r below) (run-weaken depth start count (omega arith))) last
    ∙ (sym (applied-push head (run (depth + 1) start count) (variable (depth + 1) (start + count)))
    ∙ (ap (applied head) (sym (run-push (depth + 1) start count)) ∙ ap (λ k. applied head (run (depth + 1) start k)) more))

-- s puts each variable for itself
abbrev pub IsIdentity : (ℕ → Term) → Type 0
IsIdentity s = (v : ℕ) → s v ≡ Var v

pub identity-up : (s : ℕ → Term) → IsIdentity s → IsIdentity (ups s)
identity-up s each zero = refl
identity-up s each (suc v) = ap weaken (each v)

-- ---- one hypothesis

-- a low term of a record, where it is placed
placed-low : (runs : List (ℕ × ℕ)) (size depth : ℕ) (s : ℕ → Term) (t : Term) → IsPlaced runs size depth s → free_of t ≤ size → height t ≤ 2000 → place runs size depth t ≡ inst s t
placed-low runs size depth s t at free low =
    let test : nat_le (height t) 2000 ≡ true = grind (arith, nat_tests) in
    ap (λ b. if b then place_under runs size depth 0 t else t) test ∙ place-inst runs size depth s t at free

-- the next binders have the levels of the record's next variables
abbrev Continues : (runs : List (ℕ × ℕ)) (size depth count : ℕ) → Type 0
Continues runs size depth count = (i : ℕ) → i < count → level_at runs (size + i) ≡ depth + i

continues-here : (runs : List (ℕ × ℕ)) (size depth count : ℕ) → Continues runs size depth (suc count) → level_at runs size ≡ depth
continues-here runs size depth count next =
    let size-is : size ≡ size + 0 = omega arith in
    let depth-is : depth + 0 ≡ depth = omega arith in
    ap (level_at runs) size-is ∙ (next 0 (omega arith) ∙ depth-is)

continues-next : (runs : List (ℕ × ℕ)) (size depth count : ℕ) → Continues runs size depth (suc count) → Continues runs (size + 1) (depth + 1) count
continues-next runs size depth count next i lt =
    let size-is : size + 1 + i ≡ size + suc i = omega arith in
    let depth-is : depth + suc i ≡ depth + 1 + i = omega arith in
    ap (level_at runs) size-is ∙ (next (suc i) (omega arith) ∙ depth-is)

hypothesis-converts : (S : Signature) (q : PackedFamily) (analysis : ℕ) (inductions : List ℕ) → Unfold S q analysis inductions
    → (runs : List (ℕ × ℕ)) (size depth r start j : ℕ) (s own : ℕ → Term) (head : Term) (inner : Telescope) → j < q.members → induction_size q ≤ depth → r < depth → start ≤ depth
    → IsIdentity own → IsPlaced runs size depth s → Continues runs size depth (length inner) → free_of (recursive_type own head inner (Con q.tag j ∷ [])) ≤ size → height (recursive_type own head inner (Con q.tag j ∷ [])) ≤ 2000
    → Converts S (hypothesis s (eliminated q analysis depth) (at_inner r start depth) inner (Con q.tag j ∷ []))
    (recursion_from q inductions runs size depth r start (length inner) (recursive_type own head inner (Con q.tag j ∷ [])))
hypothesis-converts S q analysis inductions unfolds runs size depth r start j s own head [] member deep below low identity placed next free high =
    converts-sym (unfolds j depth (at_inner r start depth) member deep)
hypothesis-converts S q analysis inductions unfolds runs size depth r start j s own head (a ∷ inner) member deep below low identity placed next free high =
    converts-lam
    (converts-from (sym (placed-low runs size depth s (inst own a) placed (omega arith) (omega arith) ∙ ap (inst s) (inst-same a identity ∙ inst-var a))))
    (subst₂ (λ recursor x. Converts S (hypothesis (ups s) recursor x inner (Con q.tag j ∷ [])) (recursion_from q inductions runs (size + 1) (depth + 1) r start (length inner) (recursive_type (ups own) (weaken head) inner (Con q.tag j ∷ []))))
    (sym (eliminated-weaken q analysis depth deep)) (sym (inner-more r start depth below low))
    (hypothesis-converts S q analysis inductions unfolds runs (size + 1) (depth + 1) r start j (ups s) (ups own) (weaken head) inner member (omega arith) (omega arith) (omega arith)
    (identity-up own identity) (placed-up runs size depth s (continues-here runs size depth (length inner) next) placed) (continues-next runs size depth (length inner) next) (omega arith) (omega arith)))

-- ---- levels of parameters, of arguments and of inner ones

pub level-here : (start count level : ℕ) (runs : List (ℕ × ℕ)) → level < count → level_at ((start, count) ∷ runs) level ≡ start + level
level-here start count level runs lt =
    let test : nat_lt level count ≡ true = grind (arith, nat_tests) in ap (λ b. cond b (start + level) (level_at runs (level - count))) test

level-past : (start count level : ℕ) (runs : List (ℕ × ℕ)) → count ≤ level → level_at ((start, count) ∷ runs) level ≡ level_at runs (level - count)
level-past start count level runs le =
    let test : nat_lt level count ≡ false = grind (arith, nat_tests) in ap (λ b. cond b (start + level) (level_at runs (level - count))) test

-- the levels of a constructor's parameters and of its first arguments
abbrev pub levels : (params first at : ℕ) → List (ℕ × ℕ)
levels params first at = (0, params) ∷ (first, at) ∷ []

-- and of inner ones
abbrev levels_inside : (params first at depth count : ℕ) → List (ℕ × ℕ)
levels_inside params first at depth count = (0, params) ∷ (first, at) ∷ (depth, count) ∷ []

-- the next argument
level-next : (params first at : ℕ) → level_at (levels params first (at + 1)) (params + at) ≡ first + at
level-next params first at =
    let behind : params + at - params ≡ at = omega arith in
    level-past 0 params (params + at) ((first, at + 1) ∷ []) (omega arith)
    ∙ (ap (level_at ((first, at + 1) ∷ [])) behind ∙ level-here first (at + 1) at [] (omega arith))

-- what comes after the first arguments does not change their levels
level-kept : (params first at count l : ℕ) (more : List (ℕ × ℕ)) → at ≤ count → l < params + at → level_at ((0, params) ∷ (first, count) ∷ more) l ≡ level_at (levels params first at) l
level-kept params first at count l more le lt = go (nat_lt l params) refl
  where
    go : (b : Bool) → nat_lt l params ≡ b → cond b (0 + l) (level_at ((first, count) ∷ more) (l - params)) ≡ cond b (0 + l) (level_at ((first, at) ∷ []) (l - params))
    go true e = refl
    go false e =
        let low : l - params < at = grind (arith, nat_tests) in
        level-here first count (l - params) more (omega (arith, low)) ∙ sym (level-here first at (l - params) [] low)

continues-inside : (params first at depth count : ℕ) → Continues (levels_inside params first at depth count) (params + at) depth count
continues-inside params first at depth count i lt =
    let behind : params + at + i - params ≡ at + i = omega arith in
    let inside : at + i - at ≡ i = omega arith in
    level-past 0 params (params + at + i) ((first, at) ∷ (depth, count) ∷ []) (omega arith)
    ∙ (ap (level_at ((first, at) ∷ (depth, count) ∷ [])) behind
    ∙ (level-past first at (at + i) ((depth, count) ∷ []) (omega arith) ∙ (ap (level_at ((depth, count) ∷ [])) inside ∙ level-here depth count i [] lt)))

-- ---- all hypotheses

at-itself : (r depth : ℕ) → at_inner r depth depth ≡ variable depth r
at-itself r depth = let none : depth - depth ≡ 0 = omega arith in ap (λ k. applied (variable depth r) (run depth depth k)) none

-- one of them
recursion-converts : (S : Signature) (q : PackedFamily) (analysis : ℕ) (inductions : List ℕ) → Unfold S q analysis inductions
    → (first at depth : ℕ) (s : ℕ → Term) (head : Term) (inner : Telescope) (targets : List Term) (level : ℕ) → induction_size q ≤ depth → first + at < depth → IsPlaced (levels q.params first at) (q.params + at) depth s → HasTag q.tag q.members (Recursive inner targets level)
    → length inner ≤ 2000 → free_of (recursive_type Var head inner targets) ≤ q.params + at → height (recursive_type Var head inner targets) ≤ 2000
    → Converts S (hypothesis s (eliminated q analysis depth) (variable depth (first + at)) inner targets) (recursion_at q inductions first at depth (length inner) (recursive_type Var head inner targets))
recursion-converts S q analysis inductions unfolds first at depth s head inner targets level deep below placed (j, member, is) few free high =
    let runs = levels_inside q.params first at depth (length inner) in
    let ends = Con q.tag j ∷ [] in
    let t = recursive_type Var head inner ends in
    let test : true ≡ nat_le (length inner) 2000 = grind (arith, nat_tests) in
    let free-is : free_of t ≤ q.params + at = subst (λ us. free_of (recursive_type Var head inner us) ≤ q.params + at) is free in
    let high-is : height t ≤ 2000 = subst (λ us. height (recursive_type Var head inner us) ≤ 2000) is high in
    subst (λ us. Converts S (hypothesis s (eliminated q analysis depth) (variable depth (first + at)) inner us) (recursion_at q inductions first at depth (length inner) (recursive_type Var head inner us))) (sym is)
    (subst₂ (λ x b. Converts S (hypothesis s (eliminated q analysis depth) x inner ends) (if b then recursion_from q inductions runs (q.params + at) depth (first + at) depth (length inner) t else t))
    (at-itself (first + at) depth) test
    (hypothesis-converts S q analysis inductions unfolds runs (q.params + at) depth (first + at) depth j s Var head inner member deep below (omega arith) (λ v. refl)
    (placed-kept (levels q.params first at) runs (q.params + at) depth s (λ l lt. level-kept q.params first at at l ((depth, length inner) ∷ []) (omega arith) lt) placed)
    (continues-inside q.params first at depth (length inner)) free-is high-is))

-- a head at all of them
pub recursions-convert : (S : Signature) (q : PackedFamily) (analysis : ℕ) (inductions : List ℕ) → Unfold S q analysis inductions
    → (n : ℕ) (f : Family) (first at depth : ℕ) (s : ℕ → Term) (arguments : List Argument) (head other : Term) → induction_size q ≤ depth → first + at + length arguments ≤ depth → IsPlaced (levels q.params first at) (q.params + at) depth s
    → All (HasTag q.tag q.members) arguments → AreRegular q.params at (argument_shapes n f at arguments) → Converts S head other
    → Converts S (applied head (hypotheses s (eliminated q analysis depth) arguments (run depth (first + at) (length arguments)))) (applied_to_recursions q inductions first at depth other (argument_shapes n f at arguments))
recursions-convert S q analysis inductions unfolds n f first at depth s [] head other deep below placed tags regular alike = alike
recursions-convert S q analysis inductions unfolds n f first at depth s (a ∷ arguments) head other deep below placed tags regular alike =
    let runs = levels q.params first (at + 1) in
    let next = extend s (variable depth (first + at)) in
    let size : q.params + at + 1 ≡ q.params + (at + 1) = omega arith in
    let following : first + (at + 1) ≡ first + at + 1 = omega arith in
    let placed-next : IsPlaced runs (q.params + (at + 1)) depth next =
    subst (λ m. IsPlaced runs m depth next) size
    (placed-extend (levels q.params first at) runs (q.params + at) depth (first + at) s
    (λ l lt. level-kept q.params first at (at + 1) l [] (omega arith) lt) (level-next q.params first at) (omega arith) placed) in
    by
    (λ g h others converts.
    subst (λ m. Converts S (applied g (hypotheses next (eliminated q analysis depth) arguments (run depth m (length arguments)))) (applied_to_recursions q inductions first (at + 1) depth h (argument_shapes n f (at + 1) arguments))) following
    (recursions-convert S q analysis inductions unfolds n f first (at + 1) depth next arguments g h deep (omega arith) placed-next (All-tail (HasTag q.tag q.members) a arguments tags) others converts))
    a regular (All-head (HasTag q.tag q.members) a arguments tags)
  where
    R : Term
    R = eliminated q analysis depth

    u : Term
    u = variable depth (first + at)

    others : List Term
    others = run depth (first + at + 1) (length arguments)

    -- with what follows the argument
    by : ((g h : Term) → AreRegular q.params (at + 1) (argument_shapes n f (at + 1) arguments) → Converts S g h → Converts S (applied g (hypotheses (extend s u) R arguments others)) (applied_to_recursions q inductions first (at + 1) depth h (argument_shapes n f (at + 1) arguments)))
        → (a : Argument) → AreRegular q.params at (argument_shapes n f at (a ∷ arguments)) → HasTag q.tag q.members a
        → Converts S (applied head (hypotheses s R (a ∷ arguments) (u ∷ others))) (applied_to_recursions q inductions first at depth other (argument_shapes n f at (a ∷ arguments)))
    by rest (Plain type level) fits tag = rest head other fits.3 alike
    by rest (Recursive inner targets level) fits tag =
        rest (App head (hypothesis s R u inner targets)) (App other (recursion_at q inductions first at depth (length inner) (recursive_type Var (weaken_by at (family_head n f)) inner targets))) fits.3
        (converts-app alike
        (recursion-converts S q analysis inductions unfolds first at depth s (weaken_by at (family_head n f)) inner targets level deep (omega arith) placed tag fits.2 fits.0 fits.1))
