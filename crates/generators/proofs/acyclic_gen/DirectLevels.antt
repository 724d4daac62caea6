-- The direct arguments that are found.
use Rattle.std.proofs.Common.{◌≡◌, ℕ, ◌+◌, ◌≤◌, ◌<◌, Bool, true, false, ◌||◌, cond, List, [], ◌∷◌, length, refl, arith}
use Rattle.std.proofs.lemmas.Bool.{false≢true}
use Rattle.core_sig.specs.Shapes.{ArgumentShape, by_kind}
use Rattle.generators.specs.acyclic_gen.Statements.{is_direct, has_direct, directs}
use Rattle.generators.specs.acyclic_gen.Bounds.{AreNear}
use Rattle.generators.specs.declared.acyclic_gen.direct_arguments.Direct.{Direct}

abbrev found : (b : Bool) (argument hypothesis : ℕ) → List Direct → List Direct
found b argument hypothesis others = cond b (record { argument = argument; hypothesis = hypothesis } ∷ others) others

pub near-directs : (argument hypothesis : ℕ) (arguments : List ArgumentShape) → argument + length arguments ≤ 100000 → AreNear (directs argument hypothesis arguments)
near-directs argument hypothesis [] le = tt
near-directs argument hypothesis (a ∷ arguments) le =
    let next = by_kind a.kind hypothesis (λ count. hypothesis + 1) in
    by (is_direct a.kind) (directs (argument + 1) next arguments) (near-directs (argument + 1) next arguments (omega arith))
  where
    by : (b : Bool) (others : List Direct) → AreNear others → AreNear (found b argument hypothesis others)
    by true others near = (omega arith, near)
    by false others near = near

-- there are some exactly where an argument is direct
pub directs-some : (argument hypothesis : ℕ) (arguments : List ArgumentShape) → has_direct arguments ≡ true → 0 < length (directs argument hypothesis arguments)
directs-some argument hypothesis [] has = absurd (false≢true has)
directs-some argument hypothesis (a ∷ arguments) has =
    let next = by_kind a.kind hypothesis (λ count. hypothesis + 1) in
    by (is_direct a.kind) (directs (argument + 1) next arguments) (directs-some (argument + 1) next arguments) has
  where
    by : (b : Bool) (others : List Direct) → (has_direct arguments ≡ true → 0 < length others) → (b || has_direct arguments) ≡ true → 0 < length (found b argument hypothesis others)
    by true others some h = omega arith
    by false others some h = some h

pub has-directs : (argument hypothesis : ℕ) (arguments : List ArgumentShape) → 0 < length (directs argument hypothesis arguments) → has_direct arguments ≡ true
has-directs argument hypothesis [] some = absurd (omega arith)
has-directs argument hypothesis (a ∷ arguments) some =
    let next = by_kind a.kind hypothesis (λ count. hypothesis + 1) in
    by (is_direct a.kind) (directs (argument + 1) next arguments) (has-directs (argument + 1) next arguments) some
  where
    by : (b : Bool) (others : List Direct) → (0 < length others → has_direct arguments ≡ true) → 0 < length (found b argument hypothesis others) → (b || has_direct arguments) ≡ true
    by true others has some = refl
    by false others has some = has some
