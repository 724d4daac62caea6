-- Values for the variables of a record, in two parts.
use Rattle.std.proofs.Common.{◌≡◌, ℕ, List, [], ◌∷◌, ◌++◌, refl, ap}
use mathlib.Core.Path.{fun_ext}
use Rattle.theory.specs.Terms.{Term}
use Rattle.theory.specs.Substitutions.{extend, fill}

pub fill-both : (s : ℕ → Term) (us vs : List Term) → fill s (us ++ vs) ≡ fill (fill s us) vs
fill-both s [] vs = ap (λ q. fill q vs) (fun_ext (λ n. refl))
fill-both s (u ∷ us) vs = fill-both (extend s u) us vs
