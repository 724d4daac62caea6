-- Renaming beside weakening, a term put for the nearest variable, and at closed terms.
use Rattle.std.proofs.Common.{◌≡◌, ℕ, zero, suc, ◌+◌, sym, refl, ◌∙◌, arith}
use Rattle.theory.specs.Terms.{Term, IsClosed}
use Rattle.theory.specs.Terms.Term.{Var}
use Rattle.theory.specs.Substitutions.{ren, up, weaken, extend, put}
use Rattle.theory.specs.Telescopes.{weaken_by}
use Rattle.theory.proofs.Instances.{ren-same, ren-ren, ren-inst, inst-ren, inst-same, ren-is_inst}
use Rattle.theory.proofs.Instantiation.{inst-closed}

-- one binder further in
pub weaken_by-one : (t : Term) → weaken_by 1 t ≡ weaken t
weaken_by-one t = ren-same t (λ n. omega arith)

-- and one more
pub weaken_by-next : (t : Term) (k : ℕ) → weaken_by (suc k + 1) t ≡ weaken (weaken_by (k + 1) t)
weaken_by-next t k = ren-same t (λ n. omega arith) ∙ sym (ren-ren suc (λ n. n + (k + 1)) t)

-- a renaming under a binder passes weakening
pub ren-weaken : (r : ℕ → ℕ) (t : Term) → ren (up r) (weaken t) ≡ weaken (ren r t)
ren-weaken r t = ren-ren (up r) suc t ∙ sym (ren-ren suc r t)

ren-extend : (r : ℕ → ℕ) (u : Term) (n : ℕ) → ren r (extend Var u n) ≡ extend Var (ren r u) (up r n)
ren-extend r u zero = refl
ren-extend r u (suc n) = refl

-- a renaming passes a term put for the nearest variable
pub ren-put : (r : ℕ → ℕ) (b u : Term) → ren r (put u b) ≡ put (ren r u) (ren (up r) b)
ren-put r b u =
    ren-inst r (extend Var u) b ∙ (inst-same b (ren-extend r u) ∙ sym (inst-ren (extend Var (ren r u)) (up r) b))

-- a closed term is not changed by a renaming
pub ren-closed : (r : ℕ → ℕ) (t : Term) → IsClosed t → ren r t ≡ t
ren-closed r t closed = ren-is_inst r t ∙ inst-closed (λ n. Var (r n)) t closed
