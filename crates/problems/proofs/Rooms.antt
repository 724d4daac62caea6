-- The numbers in a state that is kept have room, and so have those of its parts.
use Rattle.std.proofs.Common.{◌≡◌, ℕ, zero, suc, ◌+◌, ◌≤◌, ◌<◌, Bool, true, false, ◌&&◌, cond, List, [], ◌∷◌, length, drop, length-drop, get_or, refl, subst as transport, Result, Ok, Err, All, arith}
use Rattle.std.proofs.lemmas.List.{length-map}
use Rattle.std.proofs.lemmas.List.Elements.{All-tail}
use Rattle.theory.specs.Terms.{Term, height, free_of}
use Rattle.theory.specs.Telescopes.{Telescope}
use Rattle.theory.specs.Signatures.{Signature, reflexivity}
use Rattle.theory.specs.SignatureScopes.{IsScoped, IsScopedTelescope}
use Rattle.core_terms.specs.Answers.{is_low, are_low}
use Rattle.core_terms.specs.Meanings.{tree_of, tele_of}
use Rattle.core_terms.specs.declared.term.Term as code
use Rattle.core_terms.specs.declared.stop.Stop.{Stop}
use Rattle.core_terms.specs.declared.stop.Stop.TheVariants.{Deep}
use Rattle.tele_eq.specs.Environments.{put}
use Rattle.unification.specs.Solving.{reordered}
use Rattle.unification.specs.Heights.{are_low_equations, bounded_state}
use Rattle.unification.specs.States.{Equation, State}
use Rattle.unification.specs.ScopedStates.{AreScopedEquations}
use Rattle.problems.specs.Conditions.{AreBehind, AreBelow, AreLow, AreOver, ArePut, AreTypesOver, HasRoom, HaveRoomFor, IsKept, IsOver, most_levels, most_depth}
use Rattle.problems.specs.Meanings.{equation_of, equations_of}
use Rattle.problems.specs.declared.state.Equation as equation
use Rattle.problems.proofs.PutTerms.{height-reordered}
use Rattle.problems.proofs.LowTerms.{and-parts, low-height}

-- ---- parts of lists

pub types-few : (n : ℕ) (tele : Telescope) → AreTypesOver n tele → n + length tele ≤ most_levels
types-few n [] h = omega arith
types-few n (a ∷ tele) h = let k = types-few (n + 1) tele h.1 in omega arith

pub types-low : (n : ℕ) (tele : Telescope) → AreTypesOver n tele → AreLow tele
types-low n [] h = tt
types-low n (a ∷ tele) h = (h.0.0, types-low (n + 1) tele h.1)

pub behind-few : (n size : ℕ) (equations : List Equation) → AreBehind n size equations → size + length equations ≤ most_levels
behind-few n size [] h = omega arith
behind-few n size (e ∷ equations) h = let k = behind-few n (size + 1) equations h.4 in omega arith

pub behind-drop : (n size g : ℕ) (equations : List Equation) → g ≤ length equations → AreBehind n size equations → AreBehind n (size + g) (drop g equations)
behind-drop n size zero equations le h = let e : size + 0 ≡ size = omega arith in rw e h
behind-drop n size (suc g) [] le h = absurd (omega arith)
behind-drop n size (suc g) (e ∷ equations) le h =
    let s : size + suc g ≡ size + 1 + g = omega arith in rw s (behind-drop n (size + 1) g equations (omega arith) h.4)

pub over-at : (n k : ℕ) (terms : List code.Term) (t : code.Term) → AreOver n (tele_of terms) → k < length terms → t ≡ get_or terms k t → IsOver n (tree_of t)
over-at n k [] t h lt e = absurd (omega arith)
over-at n zero (u ∷ terms) t h lt e = rw e h.0
over-at n (suc k) (u ∷ terms) t h lt e = over-at n k terms t h.1 (omega arith) e

over-types : (n k : ℕ) (tele : List code.Term) (t : code.Term) → AreTypesOver n (tele_of tele) → k < length tele → t ≡ get_or tele k t → IsOver (n + k) (tree_of t)
over-types n k [] t h lt e = absurd (omega arith)
over-types n zero (a ∷ tele) t h lt e = let k : n + 0 ≡ n = omega arith in rw (k, e) h.0
over-types n (suc k) (a ∷ tele) t h lt e =
    let s : n + suc k ≡ n + 1 + k = omega arith in rw s (over-types (n + 1) k tele t h.1 (omega arith) e)

-- the type at the first of the levels
pub over-first : (tele : List code.Term) (levels : List ℕ) (t : code.Term) → AreTypesOver 0 (tele_of tele) → AreBelow (length tele) levels
    → 1 ≤ length levels → t ≡ get_or tele (get_or levels 0 0) t → IsOver (get_or levels 0 0) (tree_of t)
over-first tele [] t h below some e = absurd (omega arith)
over-first tele (j ∷ levels) t h below some e =
    let k : 0 + j ≡ j = omega arith in
    transport (λ n. IsOver n (tree_of t)) k (over-types 0 j tele t h below.0 e)

-- how many types and equations a state has
pub code-few : (ctx : List code.Term) → AreTypesOver 0 (tele_of ctx) → length ctx ≤ most_levels
code-few ctx h = let k = types-few 0 (tele_of ctx) h in omega (arith, length-map ctx tree_of)

-- the equations after the first one
pub rest-few : (n depth : ℕ) (equations rest : List Equation) → AreBehind n n equations → depth ≤ n → rest ≡ drop 1 equations
    → depth + length rest ≤ 2147401000
rest-few n depth equations rest h le e =
    let k = behind-few n n equations h in
    let l = length-drop 1 equations in
    rw e (omega arith)

pub rest-room : (ctx : List code.Term) (equations : List Equation) (rest : List equation.Equation) (depth : ℕ)
    → AreBehind (length (tele_of ctx)) (length (tele_of ctx)) equations → depth ≤ length ctx → equations_of rest ≡ drop 1 equations
    → depth + length rest ≤ 2147401000
rest-room ctx equations rest depth h le e =
    let many = length-map ctx tree_of in
    let few = rest-few (length (tele_of ctx)) depth equations (equations_of rest) h (omega arith) e in
    omega (arith, length-map rest equation_of)

-- ---- terms that are put for the first equation

-- the solving term
pub put-here : (order : List ℕ) (size depth : ℕ) (t u : Term) → u ≡ put (reordered order) size depth t → height t ≤ 2000
    → free_of (put (reordered order) size depth t) ≤ depth → depth ≤ most_depth → ArePut depth (u ∷ [])
put-here order size depth t u e low free le =
    let h = height-reordered order size depth t in
    rw e (omega arith, free, le, tt)

-- its reflexivity
pub put-proof : (order : List ℕ) (size depth i : ℕ) (A B t u r : Term) → r ≡ reflexivity i B u → B ≡ put (reordered order) size depth A
    → u ≡ put (reordered order) size depth t → height A ≤ 2000 → height t ≤ 2000
    → free_of (put (reordered order) size depth A) ≤ depth → free_of (put (reordered order) size depth t) ≤ depth
    → depth ≤ most_depth → ArePut depth (r ∷ [])
put-proof order size depth i A B t u r er eB eu lowA lowt freeA freet le =
    let h = height-reordered order size depth A in
    let k = height-reordered order size depth t in
    rw (er, eB, eu) (omega arith, omega arith, le, tt)

pub put-room : (n by : ℕ) (terms : List Term) → ArePut n terms → by ≤ 2147500000 → HaveRoomFor by terms
put-room n by [] h le = tt
put-room n by (t ∷ terms) h le = let k = h.1 in let l = h.2 in (h.0, omega arith, put-room n by terms h.3 le)

-- ---- states that are kept

bounded-low : (s : State) → bounded_state s ≡ Ok s → (are_low s.context && (are_low_equations s.equations && are_low s.solution)) ≡ true
bounded-low s e = go (are_low s.context && (are_low_equations s.equations && are_low s.solution)) e
  where
    go : (b : Bool) → cond {A = Result State Stop} b (Ok s) (Err Deep) ≡ Ok s → b ≡ true
    go true e = refl
    go false e = absurd (cc)

pub context-room : (S : Signature) (n : ℕ) (tele : Telescope) → IsScopedTelescope S n tele → are_low tele ≡ true → n + length tele ≤ most_levels → AreTypesOver n tele
context-room S n [] scoped low few = omega arith
context-room S n (a ∷ tele) scoped low few =
    let parts = and-parts (is_low a) (are_low tele) low in
    ((low-height a parts.0, scoped.0.variables, omega arith), context-room S (n + 1) tele scoped.1 parts.1 (omega arith))

equations-room : (S : Signature) (n k : ℕ) (equations : List Equation) → AreScopedEquations S n k equations → are_low_equations equations ≡ true
    → n + k + length equations ≤ most_levels → AreBehind n (n + k) equations
equations-room S n k [] scoped low few = omega arith
equations-room S n k (e ∷ equations) scoped low few =
    let place = and-parts (is_low e.place.type) (is_low e.type && (is_low e.left && (is_low e.right && are_low_equations equations))) low in
    let type = and-parts (is_low e.type) (is_low e.left && (is_low e.right && are_low_equations equations)) place.1 in
    let left = and-parts (is_low e.left) (is_low e.right && are_low_equations equations) type.1 in
    let right = and-parts (is_low e.right) (are_low_equations equations) left.1 in
    let next : n + (k + 1) ≡ n + k + 1 = omega arith in (
      (low-height e.place.type place.0, scoped.0.place.variables, omega arith),
      (low-height e.type type.0, scoped.0.type.variables, omega arith),
      (low-height e.left left.0, scoped.0.left.variables, omega arith),
      (low-height e.right right.0, scoped.0.right.variables, omega arith),
      rw (← next) (equations-room S n (k + 1) equations scoped.1 right.1 (omega arith)),
    )

terms-room : (S : Signature) (n : ℕ) (terms : List Term) → All (IsScoped S n) terms → are_low terms ≡ true → n ≤ most_levels → AreOver n terms
terms-room S n [] scoped low few = tt
terms-room S n (t ∷ terms) scoped low few =
    let parts = and-parts (is_low t) (are_low terms) low in (
      (low-height t parts.0, (scoped 0 t (omega arith)).variables, omega arith),
      terms-room S n terms (All-tail (IsScoped S n) t terms scoped) parts.1 few,
    )

pub room-kept : (S : Signature) (s : State) → IsKept S s → HasRoom s
room-kept S s kept =
    let all = bounded-low s kept.low in
    let context = and-parts (are_low s.context) (are_low_equations s.equations && are_low s.solution) all in
    let others = and-parts (are_low_equations s.equations) (are_low s.solution) context.1 in
    let none : length s.context + 0 ≡ length s.context = omega arith in
    record {
      context = context-room S 0 s.context kept.scoped.context context.0 (omega (arith, kept.few));
      equations = rw none at (equations-room S (length s.context) 0 s.equations kept.scoped.equations others.0 (omega (arith, kept.few)));
      solution = terms-room S (length s.context) s.solution kept.scoped.solution others.1 (omega (arith, kept.few));
    }
