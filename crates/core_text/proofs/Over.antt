-- The parts that a line over the entries of a signature may have.
use Rattle.std.proofs.Common.{◌≡◌, ℕ, suc, ◌+◌, Bool, true, false, List, [], ◌∷◌, ◌++◌, length, sym, subst, append_assoc, append-nil, arith}
use Rattle.theory.specs.Terms.{Term, Sort, Pi, Lam, App, Let}
use Rattle.theory.specs.Telescopes.{Telescope}
use Rattle.theory.specs.Signatures.{Signature}
use Rattle.core_sig.specs.Raw.{RawConstructor, RawFamily}
use Rattle.core_text.specs.EntryParts.{IsTermWith, AreTypesWith, AreConstructorsWith, IsFamilyWith}
use Rattle.core_text.specs.Spellings.{HasSymbols, IsNewName}

-- a term over n variables and the symbols of S; where `own` says so, also the family after its entries
abbrev pub IsTermOver : Signature → Bool → ℕ → Term → Type 0
IsTermOver S own n t = IsTermWith (HasSymbols S own) n t

abbrev pub AreTypesOver : Signature → ℕ → Telescope → Type 0
AreTypesOver S n tele = AreTypesWith (HasSymbols S false) n tele

-- constructors of the family `own` with p parameters, after those found
abbrev pub AreConstructorsOver : Signature → List ℕ → ℕ → List RawConstructor → List RawConstructor → Type 0
AreConstructorsOver S own p found cs = AreConstructorsWith (HasSymbols S true) (IsNewName S own) p found cs

abbrev pub IsFamilyOver : Signature → RawFamily → Type 0
IsFamilyOver S raw = IsFamilyWith (HasSymbols S) (IsNewName S) raw

-- ---- forms whose parts may be there

pub over-sort : (S : Signature) (own : Bool) (n : ℕ) → IsTermOver S own n (Sort 0)
over-sort S own n = record { symbols = omega arith; free = omega arith }

pub over-more : (S : Signature) (own : Bool) (n : ℕ) (t : Term) → IsTermOver S own 0 t → IsTermOver S own n t
over-more S own n t f = record { symbols = f.symbols; free = omega (arith, f.free) }

pub over-pi : (S : Signature) (own : Bool) (n : ℕ) (a b : Term) → IsTermOver S own n a → IsTermOver S own (n + 1) b → IsTermOver S own n (Pi a b)
over-pi S own n a b f g = record { symbols = (f.symbols, g.symbols); free = omega (arith, f.free, g.free) }

pub over-lam : (S : Signature) (own : Bool) (n : ℕ) (a b : Term) → IsTermOver S own n a → IsTermOver S own (n + 1) b → IsTermOver S own n (Lam a b)
over-lam S own n a b f g = record { symbols = (f.symbols, g.symbols); free = omega (arith, f.free, g.free) }

pub over-app : (S : Signature) (own : Bool) (n : ℕ) (f a : Term) → IsTermOver S own n f → IsTermOver S own n a → IsTermOver S own n (App f a)
over-app S own n f a g h = record { symbols = (g.symbols, h.symbols); free = omega (arith, g.free, h.free) }

pub over-let : (S : Signature) (own : Bool) (n : ℕ) (a t b : Term) → IsTermOver S own n a → IsTermOver S own n t → IsTermOver S own (n + 1) b → IsTermOver S own n (Let a t b)
over-let S own n a t b f g h = record {
  symbols = (f.symbols, g.symbols, h.symbols);
  free = omega (arith, f.free, g.free, h.free);
}

-- ---- lists with one more at the end

-- one type more
pub types-more : (S : Signature) (n : ℕ) (found : List Term) (a : Term) → AreTypesOver S n found → IsTermOver S false (n + length found) a → AreTypesOver S n (found ++ a ∷ [])
types-more S n [] a are is = (subst (λ k. IsTermOver S false k a) (none n) is, tt)
  where
    none : (n : ℕ) → n + 0 ≡ n
    none n = omega arith
types-more S n (b ∷ found) a are is = (are.0, types-more S (n + 1) found a are.1 (subst (λ k. IsTermOver S false k a) (more n (length found)) is))
  where
    more : (n k : ℕ) → n + suc k ≡ n + 1 + k
    more n k = omega arith

-- one constructor more after those before it
pub constructors-more : (S : Signature) (own : List ℕ) (p : ℕ) (before found : List RawConstructor) (c : RawConstructor) → AreConstructorsOver S own p before found → IsNewName S own (before ++ found) c.name → IsTermOver S true p c.type → AreConstructorsOver S own p before (found ++ c ∷ [])
constructors-more S own p before [] c are new over = (subst (λ f. IsNewName S own f c.name) (append-nil before) new, over, tt)
constructors-more S own p before (d ∷ found) c are new over =
    (are.0, are.1, constructors-more S own p (before ++ d ∷ []) found c are.2 (subst (λ f. IsNewName S own f c.name) (sym (append_assoc before (d ∷ []) found)) new) over)
