-- Derivations of iterated products.
use Rattle.std.proofs.Common.{ℕ, ◌∷◌, max}
use Rattle.theory.specs.Terms.{Term, Sort, Pi}
use Rattle.theory.specs.Telescopes.{Context}
use Rattle.theory.specs.Signatures.{Signature}
use Rattle.theory.specs.Typing.{IsContext, Has, bind, product}

-- a product whose codomain is derived in the context that its domain makes
pub pi : {S : Signature} {G : Context} {a b : Term} (i j : ℕ) → IsContext S G → Has S G a (Sort i) → (IsContext S (a ∷ G) → Has S (a ∷ G) b (Sort j))
    → Has S G (Pi a b) (Sort (max i j))
pi i j c domain codomain = product i j domain (codomain (bind i c domain))
