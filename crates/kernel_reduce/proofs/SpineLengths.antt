-- A spine has fewer arguments than its term is high.
use Rattle.std.proofs.Common.{◌+◌, ◌≤◌, [], ◌∷◌, length, arith}
use Rattle.std.proofs.lemmas.List.{length-append}
use Rattle.theory.specs.Terms.{Term, height}
use Rattle.theory.specs.Terms.Term.{App}
use Rattle.theory.specs.Spines.{spine_of}

pub spine_fits : (t : Term) → length (spine_of t) + 1 ≤ height t
spine_fits (App f a) = let h = spine_fits f in let e = length-append (spine_of f) (a ∷ []) in omega arith
spine_fits _ = omega arith
