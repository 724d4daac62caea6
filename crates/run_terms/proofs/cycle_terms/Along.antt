-- One argument of a spine more, where the number of arguments is known to be greater than 0.
use Rattle.std.proofs.Common.{◌≡◌, ℕ, zero, suc, ◌-◌, ◌<◌, Bool, true, false, ◌||◌, cond, List, Option, slice_get, ap, sym, ◌∙◌, arith}
use Rattle.theory.specs.Terms.{Term}
use Rattle.theory.specs.Terms.Term.{App}
use Rattle.core_sig.specs.Shapes.{ArgumentShape}
use Rattle.tree_translation.specs.CycleTerms.{Search, is_sought, if_direct, is_below_along, component_along}
use Rattle.run_terms.specs.cycle_terms.CodeCycles.{is_below, component_at}

below-along : (c : Search) (arguments : List ArgumentShape) (at : ℕ) (g r : Term) → 0 < at
    → (is_below_along c arguments (at - 1) g || if_direct (slice_get arguments (at - 1)) (is_sought c r || is_below c r)) ≡ is_below_along c arguments at (App g r)
below-along c arguments zero g r lt = absurd (omega arith)
below-along c arguments (suc at) g r lt =
    let before : suc at - 1 ≡ at = omega arith in
    ap (λ k. is_below_along c arguments k g || if_direct (slice_get arguments k) (is_sought c r || is_below c r)) before

component-along : (c : Search) (whole : Term) (arguments : List ArgumentShape) (at : ℕ) (g r tuple : Term) → 0 < at
    → cond (is_below_along c arguments (at - 1) g) (component_along c whole arguments (at - 1) g tuple) (component_at c whole arguments (at - 1) r tuple) ≡ component_along c whole arguments at (App g r) tuple
component-along c whole arguments zero g r tuple lt = absurd (omega arith)
component-along c whole arguments (suc at) g r tuple lt =
    let before : suc at - 1 ≡ at = omega arith in
    ap (λ k. cond (is_below_along c arguments k g) (component_along c whole arguments k g tuple) (component_at c whole arguments k r tuple)) before

-- the test along the arguments, if the earlier ones pass it or do not
pub below-first : (c : Search) (arguments : List ArgumentShape) (at : ℕ) (g r t : Term) (b : Bool) → t ≡ App g r → 0 < at → b ≡ is_below_along c arguments (at - 1) g → b ≡ true
    → b ≡ is_below_along c arguments at t
below-first c arguments at g r t b is lt tested holds =
    holds ∙ (ap (λ y. y || if_direct (slice_get arguments (at - 1)) (is_sought c r || is_below c r)) (sym holds ∙ tested)
    ∙ (below-along c arguments at g r lt ∙ ap (is_below_along c arguments at) (sym is)))

pub below-last : (c : Search) (arguments : List ArgumentShape) (at : ℕ) (g r t : Term) (o : Option ArgumentShape) (b x : Bool) → t ≡ App g r → 0 < at → b ≡ is_below_along c arguments (at - 1) g → b ≡ false
    → o ≡ slice_get arguments (at - 1) → x ≡ if_direct o (is_sought c r || is_below c r) → x ≡ is_below_along c arguments at t
below-last c arguments at g r t o b x is lt tested fails there last =
    last ∙ (ap (λ a. if_direct a (is_sought c r || is_below c r)) there
    ∙ (ap (λ y. y || if_direct (slice_get arguments (at - 1)) (is_sought c r || is_below c r)) (sym fails ∙ tested)
    ∙ (below-along c arguments at g r lt ∙ ap (is_below_along c arguments at) (sym is))))

pub component-last : (c : Search) (whole : Term) (arguments : List ArgumentShape) (at : ℕ) (g r t tuple : Term) (tested : Bool) → t ≡ App g r → 0 < at → tested ≡ is_below_along c arguments (at - 1) g → tested ≡ false
    → component_at c whole arguments (at - 1) r tuple ≡ component_along c whole arguments at t tuple
component-last c whole arguments at g r t tuple tested is lt test fails =
    ap (λ y. cond y (component_along c whole arguments (at - 1) g tuple) (component_at c whole arguments (at - 1) r tuple)) (sym fails ∙ test)
    ∙ (component-along c whole arguments at g r tuple lt ∙ ap (λ u. component_along c whole arguments at u tuple) (sym is))
