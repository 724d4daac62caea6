-- How names of generated entries are put together.
use Rattle.std.proofs.Common.{◌≡◌, ℕ, zero, suc, ◌<◌, List, [], ◌∷◌, ◌++◌, map, length, get_or, ap, arith, append_assoc}
use Rattle.core_sig.specs.Meanings.{constructor_of}
use Rattle.core_sig.specs.declared.family.Constructor.{Constructor}

pub joined : (xs ys zs : List ℕ) → (xs ++ ys) ++ zs ≡ xs ++ (ys ++ zs)
joined xs ys zs = append_assoc xs ys zs

-- the name of a constructor
pub name-there : (cons : List Constructor) (p n : ℕ) (c : Constructor) → n < length cons → ((d : Constructor) → c ≡ get_or cons n d)
    → c.name ≡ get_or (map (λ k. k.name) (map (constructor_of p) cons)) n []
name-there [] p n c lt e = absurd (omega arith)
name-there (x ∷ cons) p zero c lt e = ap (λ k. k.name) (e c)
name-there (x ∷ cons) p (suc n) c lt e = name-there cons p n c (omega arith) e
