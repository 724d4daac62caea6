-- One argument of a spine more, where the number of arguments is known to be greater than 0.
use Rattle.std.proofs.Common.{◌≡◌, ℕ, zero, suc, ◌-◌, ◌<◌, Bool, true, false, ◌||◌, if◌then◌else◌, List, [], Option, Some, slice_get, ap, sym, ◌∙◌, arith}
use Rattle.theory.specs.Terms.{Term}
use Rattle.theory.specs.Terms.Term.{App}
use Rattle.core_sig.specs.Meanings.{behind}
use Rattle.core_sig.specs.Shapes.{ArgumentShape, Shape, by_kind}
use Rattle.core_sig.specs.declared.family.ArgKind.TheVariants.{Recursive}
use Rattle.case_below_gen.specs.declared.sides.Side.TheVariants.{First, Second}
use Rattle.case_below_gen.specs.PartTests.{is_applied, if_recursive, is_at, has_part_along, has_part}
use Rattle.case_below_gen.specs.Paths.{Descent, step_to, last_arguments, path_at, path_along, path_of}

pub part-along : (n : ℕ) (f : Shape) (part : Term) (arguments : List ArgumentShape) (at : ℕ) (g r : Term) → 0 < at
    → (has_part_along n f part arguments (at - 1) g || is_at part r (slice_get arguments (at - 1)) (has_part n f part r)) ≡ has_part_along n f part arguments at (App g r)
part-along n f part arguments zero g r lt = absurd (omega arith)
part-along n f part arguments (suc at) g r lt =
    let before : suc at - 1 ≡ at = omega arith in
    ap (λ k. has_part_along n f part arguments k g || is_at part r (slice_get arguments k) (has_part n f part r)) before

pub path-along : (d : Descent) (whole : Term) (arguments : List ArgumentShape) (at : ℕ) (g r b : Term) → 0 < at
    → (if has_part_along d.family d.shape d.part arguments (at - 1) g then path_along d whole arguments (at - 1) g b else path_at d whole arguments (at - 1) r b (path_of d r)) ≡ path_along d whole arguments at (App g r) b
path-along d whole arguments zero g r b lt = absurd (omega arith)
path-along d whole arguments (suc at) g r b lt =
    let before : suc at - 1 ≡ at = omega arith in
    ap (λ k. if has_part_along d.family d.shape d.part arguments k g then path_along d whole arguments k g b else path_at d whole arguments k r b (path_of d r)) before

-- the test along the arguments, if the earlier ones pass it or do not
pub part-first : (n : ℕ) (f : Shape) (part : Term) (arguments : List ArgumentShape) (at : ℕ) (g r t : Term) (b : Bool) → t ≡ App g r → 0 < at → b ≡ has_part_along n f part arguments (at - 1) g → b ≡ true → b ≡ has_part_along n f part arguments at t
part-first n f part arguments at g r t b is lt tested holds =
    holds ∙ (ap (λ x. x || is_at part r (slice_get arguments (at - 1)) (has_part n f part r)) (sym holds ∙ tested)
    ∙ (part-along n f part arguments at g r lt ∙ ap (has_part_along n f part arguments at) (sym is)))

pub part-last : (n : ℕ) (f : Shape) (part : Term) (arguments : List ArgumentShape) (at : ℕ) (g r t : Term) (o : Option ArgumentShape) (b x : Bool) → t ≡ App g r → 0 < at → b ≡ has_part_along n f part arguments (at - 1) g → b ≡ false
    → o ≡ slice_get arguments (at - 1) → x ≡ is_at part r o (has_part n f part r) → x ≡ has_part_along n f part arguments at t
part-last n f part arguments at g r t o b x is lt tested fails there last =
    last ∙ (ap (λ a. is_at part r a (has_part n f part r)) there
    ∙ (ap (λ y. y || is_at part r (slice_get arguments (at - 1)) (has_part n f part r)) (sym fails ∙ tested)
    ∙ (part-along n f part arguments at g r lt ∙ ap (has_part_along n f part arguments at) (sym is))))

pub path-last : (d : Descent) (whole : Term) (arguments : List ArgumentShape) (at : ℕ) (g r t b : Term) (tested : Bool) → t ≡ App g r → 0 < at → tested ≡ has_part_along d.family d.shape d.part arguments (at - 1) g → tested ≡ false
    → path_at d whole arguments (at - 1) r b (path_of d r) ≡ path_along d whole arguments at t b
path-last d whole arguments at g r t b tested is lt test fails =
    ap (λ y. if y then path_along d whole arguments (at - 1) g b else path_at d whole arguments (at - 1) r b (path_of d r)) (sym fails ∙ test)
    ∙ (path-along d whole arguments at g r b lt ∙ ap (λ u. path_along d whole arguments at u b) (sym is))

-- the path goes on inside an argument that is not the part itself
pub at-further : (d : Descent) (whole : Term) (arguments : List ArgumentShape) (at : ℕ) (r b : Term) (go_on : Term → Term) (a : ArgumentShape) (count : ℕ) (tested : Bool) → Some a ≡ slice_get arguments at → a.kind ≡ Recursive count → tested ≡ is_applied r count d.part → tested ≡ false
    → go_on (step_to d Second whole arguments at 0 a.type [] b) ≡ path_at d whole arguments at r b go_on
at-further d whole arguments at r b go_on a count tested there kind test fails =
    ap (λ y. if y then step_to d First whole arguments at count (behind count a.type) (last_arguments count d.part) b else go_on (step_to d Second whole arguments at 0 a.type [] b)) (sym fails ∙ test)
    ∙ (ap (λ k. by_kind k b (λ count. if is_applied r count d.part then step_to d First whole arguments at count (behind count a.type) (last_arguments count d.part) b else go_on (step_to d Second whole arguments at 0 a.type [] b))) (sym kind)
    ∙ ap (λ o. if_recursive o b (λ count type. if is_applied r count d.part then step_to d First whole arguments at count (behind count type) (last_arguments count d.part) b else go_on (step_to d Second whole arguments at 0 type [] b))) there)
