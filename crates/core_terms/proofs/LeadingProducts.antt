-- A term's leading products.
use Rattle.std.proofs.Common.{◌≡◌, Bool, true, false, [], ◌∷◌, ◌++◌, refl, ap, arith}
use Rattle.theory.specs.Terms.{Term}
use Rattle.theory.specs.Terms.Term.{Pi}
use Rattle.theory.specs.Telescopes.{Telescope, products}
use Rattle.core_terms.specs.Telescopes.{domains_of, end_of}

-- a term is products over its domains into its end
pub products-of_parts : (t : Term) → products (domains_of t) (end_of t) ≡ t
products-of_parts (Pi a b) = ap (Pi a) (products-of_parts b)
products-of_parts _ = refl

pub domains-products : (tele : Telescope) (body : Term) → domains_of (products tele body) ≡ tele ++ domains_of body
domains-products [] body = refl
domains-products (a ∷ tele) body = ap (λ ts. a ∷ ts) (domains-products tele body)

pub end-products : (tele : Telescope) (body : Term) → end_of (products tele body) ≡ end_of body
end-products [] body = refl
end-products (a ∷ tele) body = end-products tele body

abbrev pub is_product : Term → Bool
is_product (Pi a b) = true
is_product _ = false

-- a term that is no product ends where it begins
pub domains-ended : (t : Term) → is_product t ≡ false → domains_of t ≡ []
domains-ended (Pi a b) h = absurd (grind arith)
domains-ended _ h = refl

pub end-ended : (t : Term) → is_product t ≡ false → end_of t ≡ t
end-ended (Pi a b) h = absurd (grind arith)
end-ended _ h = refl

pub end-ends : (t : Term) → is_product (end_of t) ≡ false
end-ends (Pi a b) = end-ends b
end-ends _ = refl

-- a term without a domain is no product
pub not-product : (t : Term) → domains_of t ≡ [] → is_product t ≡ false
not-product (Pi a b) h = absurd (grind arith)
not-product _ h = refl
