-- An equation over too many parameters, members, constructors or arguments is too high.
use Rattle.std.proofs.Common.{◌≡◌, ℕ, ◌+◌, Bool, true, false, ◌&&◌, cond, List, [], ◌∷◌, ◌++◌, length, get_or, Result, Ok, Err, refl, arith}
use Rattle.theory.specs.Terms.{Term}
use Rattle.theory.specs.Terms.Term.{Const}
use Rattle.theory.specs.Telescopes.{Telescope}
use Rattle.core_terms.specs.Answers.{is_low, are_low}
use Rattle.core_terms.specs.Levels.{run}
use Rattle.core_terms.specs.declared.stop.Stop.{Stop}
use Rattle.core_terms.specs.declared.stop.Stop.TheVariants.{Deep}
use Rattle.core_terms.proofs.Answers.{low-is}
use Rattle.core_terms.proofs.Builders.{height-applied}
use Rattle.core_sig.specs.Shapes.{ArgumentShape, ConstructorShape, Shape, types_of, HaveFewArguments}
use Rattle.mutual_pack.specs.declared.packed_family.PackedFamily.{PackedFamily}
use Rattle.mutual_pack.specs.MutualFamilies.{Packed}
use Rattle.mutual_pack.specs.Equations.{places, equation_telescope, left_side, right_side, equation_of}
use Rattle.mutual_pack.specs.Fitting.{FitsInduction}
use Rattle.mutual_pack.specs.Inductions.{packed_numbers, motive_types, method_type, method_types, induction_telescope, induction_size}
use Rattle.mutual_pack.proofs.PackedTypes.{both}
use Rattle.mutual_pack.proofs.Runs.{length-run}
use Rattle.mutual_pack.proofs.TooHigh.{method-least}

low-front : (xs ys : List Term) → are_low (xs ++ ys) ≡ true → are_low xs ≡ true
low-front [] ys low = refl
low-front (x ∷ xs) ys low = by (λ rest. low-front xs ys rest) (is_low x) low
  where
    by : (are_low (xs ++ ys) ≡ true → are_low xs ≡ true) → (b : Bool) → b && are_low (xs ++ ys) ≡ true → b && are_low xs ≡ true
    by within true rest = within rest
    by within false rest = absurd cc

low-behind : (xs ys : List Term) → are_low (xs ++ ys) ≡ true → are_low ys ≡ true
low-behind [] ys low = low
low-behind (x ∷ xs) ys low = low-behind xs ys (both (is_low x) (are_low (xs ++ ys)) low).1

few-methods : (q : PackedFamily) (owners : List ℕ) (number depth : ℕ) (cs : List ConstructorShape) → are_low (method_types q owners number depth cs) ≡ true → HaveFewArguments cs
few-methods q owners number depth [] low = tt
few-methods q owners number depth (c ∷ cs) low =
    let here = method_type q (get_or owners number 0) number depth c in
    let parts = both (is_low here) (are_low (method_types q owners (number + 1) (depth + 1) cs)) low in
    let least = method-least q (get_or owners number 0) number depth c in
    let most = low-is here parts.0 in
    (omega arith, few-methods q owners (number + 1) (depth + 1) cs parts.1)

few-equation : (packed : Packed) (f : Shape) (inductions : List ℕ) (k number : ℕ) (arguments : List ArgumentShape)
    → are_low (equation_telescope (packed_numbers packed f) packed.owners f arguments) ≡ true → is_low (left_side (packed_numbers packed f) inductions k number (length arguments)) ≡ true → FitsInduction packed f
few-equation packed f inductions k number arguments low left =
    let q = packed_numbers packed f in
    let x = induction_size q in
    let depth = x + length arguments in
    let head = Const (get_or inductions k 0) in
    let most = low-is (left_side q inductions k number (length arguments)) left in
    let spine = height-applied head (run depth 0 x) in
    let count = length-run depth 0 x in
    let methods = method_types q packed.owners 0 (q.params + q.members) f.constructors in
    let motives = motive_types q 0 q.params q.members in
    let outer = low-front (induction_telescope q packed.owners f) (places ((0, q.params) ∷ (x, length arguments) ∷ []) q.params x (types_of arguments)) low in
    let inner = low-behind motives methods (low-behind f.parameters (motives ++ methods) outer) in
    record {
      family = record { parameters = omega arith; constructors = omega arith; arguments = few-methods q packed.owners 0 (q.params + q.members) f.constructors inner };
      members = omega arith;
    }

-- an equation over what does not fit is Deep
pub equation-deep : (packed : Packed) (f : Shape) (inductions : List ℕ) (k number : ℕ) (arguments : List ArgumentShape) → ¬ FitsInduction packed f
    → Err Deep ≡ equation_of (packed_numbers packed f) packed.owners inductions f k number arguments
equation-deep packed f inductions k number arguments many =
    by (are_low tele) (is_low left) (is_low right) (few-equation packed f inductions k number arguments)
  where
    q : PackedFamily
    q = packed_numbers packed f

    tele : Telescope
    tele = equation_telescope q packed.owners f arguments

    left : Term
    left = left_side q inductions k number (length arguments)

    right : Term
    right = right_side q inductions number arguments

    by : (a b c : Bool) → (a ≡ true → b ≡ true → FitsInduction packed f) → ◌≡◌ {A = Result (Telescope × Term × Term) Stop} (Err Deep) (cond (a && (b && c)) (Ok (tele, left, right)) (Err Deep))
    by true true c fits = absurd (many (fits refl refl))
    by true false c fits = refl
    by false b c fits = refl
