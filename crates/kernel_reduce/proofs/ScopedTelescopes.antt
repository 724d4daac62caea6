-- Parts of scoped telescopes, and telescopes one after the other.
use Rattle.std.proofs.Common.{◌≡◌, ℕ, zero, suc, ◌+◌, ◌<◌, ◌≤◌, [], ◌∷◌, ◌++◌, length, take, get_or, subst as transport, arith}
use Rattle.theory.specs.Terms.{Term}
use Rattle.theory.specs.Telescopes.{Telescope}
use Rattle.theory.specs.Signatures.{Signature}
use Rattle.theory.specs.SignatureScopes.{IsScoped, IsScopedTelescope}
use Rattle.theory.proofs.ScopedTerms.{scoped_over_more}

pub telescope-append : (S : Signature) (n : ℕ) (ps ts : Telescope) → IsScopedTelescope S n ps → IsScopedTelescope S (n + length ps) ts → IsScopedTelescope S n (ps ++ ts)
telescope-append S n [] ts h k = transport (λ m. IsScopedTelescope S m ts) (let e : n + length {A = Term} [] ≡ n = omega arith in e) k
telescope-append S n (p ∷ ps) ts h k =
    (h.0, telescope-append S (n + 1) ps ts h.1 (transport (λ m. IsScopedTelescope S m ts) (let e : n + length (p ∷ ps) ≡ n + 1 + length ps = omega arith in e) k))

pub telescope-parts : (S : Signature) (n : ℕ) (ps ts : Telescope) → IsScopedTelescope S n (ps ++ ts) → IsScopedTelescope S n ps × IsScopedTelescope S (n + length ps) ts
telescope-parts S n [] ts h = (tt, transport (λ m. IsScopedTelescope S m ts) (let e : n ≡ n + length {A = Term} [] = omega arith in e) h)
telescope-parts S n (p ∷ ps) ts h =
    let parts = telescope-parts S (n + 1) ps ts h.1 in
    ((h.0, parts.0), transport (λ m. IsScopedTelescope S m ts) (let e : n + 1 + length ps ≡ n + length (p ∷ ps) = omega arith in e) parts.1)

pub telescope-take : (S : Signature) (n k : ℕ) (ts : Telescope) → IsScopedTelescope S n ts → IsScopedTelescope S n (take k ts)
telescope-take S n zero ts h = tt
telescope-take S n (suc k) [] h = tt
telescope-take S n (suc k) (t ∷ ts) h = (h.0, telescope-take S (n + 1) k ts h.1)

pub telescope-at : (S : Signature) (n k : ℕ) (ts : Telescope) (d : Term) → k < length ts → IsScopedTelescope S n ts → IsScoped S (n + k) (get_or ts k d)
telescope-at S n k [] d lt h = absurd (omega arith)
telescope-at S n zero (t ∷ ts) d lt h = scoped_over_more S n (n + zero) t (omega arith) h.0
telescope-at S n (suc k) (t ∷ ts) d lt h =
    transport (λ m. IsScoped S m (get_or ts k d)) (let e : n + 1 + k ≡ n + suc k = omega arith in e) (telescope-at S (n + 1) k ts d (omega arith) h.1)

-- a telescope over more variables
pub telescope-more : (S : Signature) (n m : ℕ) (ts : Telescope) → n ≤ m → IsScopedTelescope S n ts → IsScopedTelescope S m ts
telescope-more S n m [] low h = tt
telescope-more S n m (t ∷ ts) low h = (scoped_over_more S n m t low h.0, telescope-more S (n + 1) (m + 1) ts (omega arith) h.1)
