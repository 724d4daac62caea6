-- The arguments of a constructor of the code's family are those of its shape.
use Rattle.std.proofs.Common.{◌≡◌, ℕ, zero, suc, ◌≤◌, List, [], ◌∷◌, map, length, slice_get, Some, refl, ap, ◌∙◌, arith}
use Rattle.std.proofs.lemmas.List.{length-map}
use Rattle.std.specs.Option.{option_map_or}
use Rattle.core_sig.specs.Shapes.{HaveFewArguments, argument_shape, constructor_shape}
use Rattle.core_sig.specs.declared.family.Constructor.{Constructor}

pub arguments_are : (cons : List Constructor) (i : ℕ) → option_map_or (λ c. c.arguments) (slice_get (map constructor_shape cons) i) [] ≡ option_map_or (λ (c : Constructor). map argument_shape c.args) (slice_get cons i) []
arguments_are [] i = refl
arguments_are (c ∷ cons) zero = refl
arguments_are (c ∷ cons) (suc i) = arguments_are cons i

pub few-arguments : (cons : List Constructor) (i : ℕ) (c : Constructor) → HaveFewArguments (map constructor_shape cons) → slice_get cons i ≡ Some c → length c.args ≤ 2000
few-arguments [] i c few at = absurd cc
few-arguments (d ∷ cons) zero c few at =
    let is : d ≡ c = cc in
    let counted : length (map argument_shape d.args) ≡ length c.args = length-map d.args argument_shape ∙ ap (λ (x : Constructor). length x.args) is in
    omega (arith, few.0)
few-arguments (d ∷ cons) (suc i) c few at = few-arguments cons i c few.1 at
