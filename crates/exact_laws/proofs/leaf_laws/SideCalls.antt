-- Terms that do not name the function are put into a right side in which no call is the argument of another. Still no call is.
use Rattle.std.proofs.Common.{◌≡◌, ℕ, zero, suc, ◌<◌, ◌==◌, ◌||◌, Bool, true, false, cond, List, [], ◌∷◌, length, get_or, refl, sym, ap, ap₂, ◌∙◌, arith}
use Rattle.std.proofs.lemmas.Bool.{true≢false, or_from}
use Rattle.std.proofs.lemmas.Bool.Decides.{nat_tests}
use Rattle.std.proofs.lemmas.List.{length-append}
use Rattle.std.proofs.lemmas.Option.{slice_get_within}
use Rattle.theory.specs.Terms.{Term, Var, Sort, Pi, Lam, App, Let, Const, Fam, Con, Elim, AxiomK}
use Rattle.theory.specs.Signatures.{Signature, Definition}
use Rattle.theory.specs.SignatureScopes.{IsScoped}
use Rattle.theory.specs.Spines.{head_of, spine_of}
use Rattle.theory.specs.Substitutions.{fill, inst, ren, up, ups}
use Rattle.theory.specs.Eliminators.{no_variable}
use Rattle.tree_translation.specs.structural_rec.Calls.{has_constant}
use Rattle.tree_translation.specs.Hidden.{visible}
use Rattle.tree_translation.specs.Plans.{Part, Plan}
use Rattle.tree_translation.specs.RightSides.{is_helper, no_walk, values_at}
use Rattle.tree_translation.specs.Mappings.{in_old_order, mapping}
use Rattle.tree_translation.specs.Standings.{all_placed}
use Rattle.leaf_terms.specs.CallsApart.{CallsStandApart, is_function}
use Rattle.leaf_terms.specs.CodeRightSides.{side_with}
use Rattle.entry_laws.proofs.OnlyConstants.{Each, HasOnly, only-filled, each-weaker}
use Rattle.entry_laws.proofs.OnlyFamilies.{only-scoped}
use Rattle.entry_laws.proofs.OnlyStates.{only-all_placed}
use Rattle.entry_laws.proofs.entry_scopes.WholeLeaves.{mapping-there, order-there}

-- ---- terms without the constant

record AreFalse (a b : Bool) : Type 0 where
  first : a ≡ false
  second : b ≡ false

or-false : (a b : Bool) → (a || b) ≡ false → AreFalse a b
or-false false b h = record { first = refl; second = h }
or-false true b h = absurd (true≢false h)

constant-ren : (base : ℕ) (r : ℕ → ℕ) (t : Term) → has_constant base (ren r t) ≡ has_constant base t
constant-ren base r (Pi a b) = ap₂ ◌||◌ (constant-ren base r a) (constant-ren base (up r) b)
constant-ren base r (Lam a b) = ap₂ ◌||◌ (constant-ren base r a) (constant-ren base (up r) b)
constant-ren base r (App f a) = ap₂ ◌||◌ (constant-ren base r f) (constant-ren base r a)
constant-ren base r (Let a t b) = ap₂ ◌||◌ (constant-ren base r a) (ap₂ ◌||◌ (constant-ren base r t) (constant-ren base (up r) b))
constant-ren base r (Const c) = refl
constant-ren base r (Var v) = refl
constant-ren base r (Sort i) = refl
constant-ren base r (Fam n) = refl
constant-ren base r (Con n c) = refl
constant-ren base r (Elim n m) = refl
constant-ren base r (AxiomK i m) = refl

-- the terms that are put for variables have no such constant
abbrev IsFree : (base : ℕ) → (ℕ → Term) → Type 0
IsFree base s = (v : ℕ) → has_constant base (s v) ≡ false

free-under : (base : ℕ) (s : ℕ → Term) → IsFree base s → IsFree base (ups s)
free-under base s h zero = refl
free-under base s h (suc v) = constant-ren base suc (s v) ∙ h v

-- ---- heads

head-constant : (base : ℕ) (t : Term) → is_function base (head_of t) ≡ true → has_constant base t ≡ true
head-constant base (App f a) e = ap (λ b. b || has_constant base a) (head-constant base f e)
head-constant base (Const c) e = e
head-constant base (Pi a b) e = absurd (true≢false (sym e))
head-constant base (Lam a b) e = absurd (true≢false (sym e))
head-constant base (Let a t b) e = absurd (true≢false (sym e))
head-constant base (Var v) e = absurd (true≢false (sym e))
head-constant base (Sort i) e = absurd (true≢false (sym e))
head-constant base (Fam n) e = absurd (true≢false (sym e))
head-constant base (Con n c) e = absurd (true≢false (sym e))
head-constant base (Elim n m) e = absurd (true≢false (sym e))
head-constant base (AxiomK i m) e = absurd (true≢false (sym e))

-- a call in an instance is one in the term
record IsCallIn (base : ℕ) (s : ℕ → Term) (f : Term) : Type 0 where
  head : is_function base (head_of f) ≡ true
  count : length (spine_of (inst s f)) ≡ length (spine_of f)

call-in : (base : ℕ) (s : ℕ → Term) (f : Term) → IsFree base s → is_function base (head_of (inst s f)) ≡ true → IsCallIn base s f
call-in base s (App g b) h e =
    let inner = call-in base s g h e in
    record {
      head = inner.head;
      count = (let one = length-append (spine_of (inst s g)) (inst s b ∷ []) in let other = length-append (spine_of g) (b ∷ []) in let same = inner.count in omega arith);
    }
call-in base s (Const c) h e = record { head = e; count = refl }
call-in base s (Var v) h e = absurd (true≢false (sym (head-constant base (s v) e) ∙ h v))
call-in base s (Pi a b) h e = absurd (true≢false (sym e))
call-in base s (Lam a b) h e = absurd (true≢false (sym e))
call-in base s (Let a t b) h e = absurd (true≢false (sym e))
call-in base s (Sort i) h e = absurd (true≢false (sym e))
call-in base s (Fam n) h e = absurd (true≢false (sym e))
call-in base s (Con n c) h e = absurd (true≢false (sym e))
call-in base s (Elim n m) h e = absurd (true≢false (sym e))
call-in base s (AxiomK i m) h e = absurd (true≢false (sym e))

-- in such a term calls are apart
free-apart : (base position : ℕ) (t : Term) → has_constant base t ≡ false → CallsStandApart base position t
free-apart base position (Pi a b) e =
    let parts = or-false (has_constant base a) (has_constant base b) e in (free-apart base position a parts.first, free-apart base position b parts.second)
free-apart base position (Lam a b) e =
    let parts = or-false (has_constant base a) (has_constant base b) e in (free-apart base position a parts.first, free-apart base position b parts.second)
free-apart base position (App f a) e =
    let parts = or-false (has_constant base f) (has_constant base a) e in
    (free-apart base position f parts.first, free-apart base position a parts.second, λ called place. absurd (true≢false (sym (head-constant base f called) ∙ parts.first)))
free-apart base position (Let a t b) e =
    let parts = or-false (has_constant base a) (has_constant base t || has_constant base b) e in
    let rest = or-false (has_constant base t) (has_constant base b) parts.second in
    (free-apart base position a parts.first, free-apart base position t rest.first, free-apart base position b rest.second)
free-apart base position (Const c) e = tt
free-apart base position (Var v) e = tt
free-apart base position (Sort i) e = tt
free-apart base position (Fam n) e = tt
free-apart base position (Con n c) e = tt
free-apart base position (Elim n m) e = tt
free-apart base position (AxiomK i m) e = tt

-- a term that is no call has an instance that is none
no-call-in : (base : ℕ) (s : ℕ → Term) (a : Term) → IsFree base s → is_function base (head_of a) ≡ false → is_function base (head_of (inst s a)) ≡ false
no-call-in base s a h none = by (is_function base (head_of (inst s a))) refl
  where
    by : (b : Bool) → is_function base (head_of (inst s a)) ≡ b → b ≡ false
    by false e = refl
    by true e = absurd (true≢false (sym (call-in base s a h e).head ∙ none))

apart-inst : (base position : ℕ) (s : ℕ → Term) (t : Term) → IsFree base s → CallsStandApart base position t → CallsStandApart base position (inst s t)
apart-inst base position s (Pi a b) h d = (apart-inst base position s a h d.0, apart-inst base position (ups s) b (free-under base s h) d.1)
apart-inst base position s (Lam a b) h d = (apart-inst base position s a h d.0, apart-inst base position (ups s) b (free-under base s h) d.1)
apart-inst base position s (App f a) h d = (
  apart-inst base position s f h d.0,
  apart-inst base position s a h d.1,
  λ called place. let is = call-in base s f h called in no-call-in base s a h (d.2 is.head (sym is.count ∙ place)),
)
apart-inst base position s (Let a t b) h d =
    (apart-inst base position s a h d.0, apart-inst base position s t h d.1, apart-inst base position (ups s) b (free-under base s h) d.2)
apart-inst base position s (Const c) h d = tt
apart-inst base position s (Var v) h d = free-apart base position (s v) (h v)
apart-inst base position s (Sort i) h d = tt
apart-inst base position s (Fam n) h d = tt
apart-inst base position s (Con n c) h d = tt
apart-inst base position s (Elim n m) h d = tt
apart-inst base position s (AxiomK i m) h d = tt

-- ---- the values of a leaf

only-free : (base : ℕ) (t : Term) → HasOnly (λ c. c < base) t → has_constant base t ≡ false
only-free base (Pi a b) (HasOnly.of_pi h k) = or_from _ _ (only-free base a h) (only-free base b k)
only-free base (Lam a b) (HasOnly.of_lam h k) = or_from _ _ (only-free base a h) (only-free base b k)
only-free base (App f a) (HasOnly.of_app h k) = or_from _ _ (only-free base f h) (only-free base a k)
only-free base (Let a t b) (HasOnly.of_let h k l) = or_from _ _ (only-free base a h) (or_from _ _ (only-free base t k) (only-free base b l))
only-free base (Const c) (HasOnly.of_const low) = apart c base low
  where
    apart : (c base : ℕ) → c < base → (c == base) ≡ false
    apart c base low = grind (arith, nat_tests)
only-free base (Var v) h = refl
only-free base (Sort i) h = refl
only-free base (Fam n) h = refl
only-free base (Con n c) h = refl
only-free base (Elim n m) h = refl
only-free base (AxiomK i m) h = refl

-- the right side at a leaf of a tree over the signature, in which the function is the next constant
pub side-apart : (S : Signature) (plan : Plan) (part : Part) (order : List ℕ) (position n : ℕ) (hidden : List ℕ) (m clause : ℕ) (substitution terms binds : List Term)
    → plan.base ≡ length S.entries → Each (IsScoped S m) substitution → Each (IsScoped S m) terms → Each (IsScoped S m) binds
    → CallsStandApart plan.base position (get_or part.sides clause (Sort 0))
    → CallsStandApart plan.base position (side_with plan part order (visible n hidden) n clause substitution terms binds)
side-apart S plan part order position n hidden m clause substitution terms binds same hs ht hb d =
    apart-inst plan.base position (fill no_variable (all_placed (visible n hidden) n values)) side free d
  where
    side : Term
    side = get_or part.sides clause (Sort 0)

    values : List Term
    values = values_at plan part order clause (get_or part.sides clause (Sort 0)) substitution terms binds

    chosen : (b : Bool) → Each (IsScoped S m) (cond b (mapping (get_or part.walks clause no_walk) (in_old_order order substitution) terms) binds)
    chosen true = mapping-there S m (get_or part.walks clause no_walk) (in_old_order order substitution) terms (order-there S m order substitution hs) ht
    chosen false = hb

    below : (c : ℕ) → c < length S.entries → c < plan.base
    below c lt = omega (arith, lt, same)

    old : Each (HasOnly (λ c. c < plan.base)) values
    old =
        each-weaker values
        (λ t is. only-scoped S m t (λ c constant. below c (slice_get_within S.entries c (Definition constant.0 constant.1 constant.2) constant.3)) is)
        (chosen (is_helper plan.base (head_of side)))

    free : IsFree plan.base (fill no_variable (all_placed (visible n hidden) n values))
    free v =
        only-free plan.base (fill no_variable (all_placed (visible n hidden) n values) v)
        (only-filled (all_placed (visible n hidden) n values) (only-all_placed (visible n hidden) n values old) v)
