-- Parts of small lists, and the arguments of a small term.
use Rattle.std.proofs.Common.{ℕ, zero, suc, List, [], ◌∷◌, ◌++◌, take, arith}
use Rattle.theory.specs.Terms.{Term, App}
use Rattle.theory.specs.Spines.{spine_of}
use Rattle.tele_eq.specs.Items.{IsSmall, AreSmallTerms}

pub small-take : (n : ℕ) (terms : List Term) → AreSmallTerms terms → AreSmallTerms (take n terms)
small-take zero terms h = tt
small-take (suc n) [] h = tt
small-take (suc n) (t ∷ terms) h = (h.0, small-take n terms h.1)

small-append : (terms : List Term) (t : Term) → AreSmallTerms terms → IsSmall t → AreSmallTerms (terms ++ t ∷ [])
small-append [] t h s = (s, tt)
small-append (u ∷ terms) t h s = (h.0, small-append terms t h.1 s)

pub small-spine : (t : Term) → IsSmall t → AreSmallTerms (spine_of t)
small-spine (App f a) h =
    let low = h.0 in
    let few = h.1 in
    small-append (spine_of f) a (small-spine f (omega arith, omega arith)) (omega arith, omega arith)
small-spine _ h = tt
