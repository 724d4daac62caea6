-- The ids of terms that are imported, and refusals that are only want of memory.
use Rattle.std.proofs.Common.{◌≡◌, ℕ, ◌+◌, ◌<◌, ◌≤◌, Bool, true, false, cond, Option, None, Result, Ok, Err, IfOk, OnErr, refl, sym, ◌∙◌, subst, arith}
use Rattle.std.proofs.lemmas.Bool.Decides.{nat_tests}
use Rattle.theory.specs.Terms.{Term, height}
use Rattle.core_terms.specs.Answers.{Gives, Unless, is_low, bounded}
use Rattle.theory.specs.Signatures.{axiom_k_type}
use Rattle.core_terms.specs.Meanings.{tree_of}
use Rattle.core_terms.specs.declared.stop.Stop.{Stop}
use Rattle.core_terms.specs.declared.term.Term as Code
use Rattle.core_terms.specs.declared.stop.Stop.TheVariants.{Memory, Fuel, Deep, PoolFull}
use Rattle.core_terms.proofs.Builders.{ok_is}
use Rattle.term_pool.specs.Held.{Held}
use Rattle.core_sig.specs.EntryIds.{IsIdWhereLow}
use Rattle.core_sig.specs.Refusals.{memory_for}

-- a term that is low enough is refused only for want of memory or of room
pub refused-low : (e : Stop) (t : Term) → height t ≤ 2000 → Unless (e ≡ Memory) (Unless (e ≡ PoolFull) ((e ≡ Deep) × (2000 < 0 + height t)))
    → memory_for e ≡ Memory
refused-low Memory t low h = refl
refused-low PoolFull t low h = refl
refused-low Fuel t low h = let high = (h (λ x. cc) (λ x. cc)).1 in absurd (omega arith)
refused-low Deep t low h = let high = (h (λ x. cc) (λ x. cc)).1 in absurd (omega arith)

by_test : (P : Result Term Stop → Type 0) (t : Term) → (is_low t ≡ true → P (Ok t)) → (is_low t ≡ false → P (Err Deep)) → P (bounded t)
by_test P t low high = go (is_low t) refl
  where
    go : (b : Bool) → is_low t ≡ b → P (cond b (Ok t) (Err Deep))
    go true e = low e
    go false e = high e

-- Deep is answered for a term that is too high
deep-high : (t : Term) → Err Deep ≡ bounded t → 2000 < height t
deep-high t = by_test (λ r. Err Deep ≡ r → 2000 < height t) t (λ low e. absurd cc) (λ high e. grind (arith, nat_tests))

pub made-deep : (t : Term) → Gives tree_of (Err Deep) (bounded t) → 2000 < height t
made-deep t gives = deep-high t (gives (λ x. cc))

-- and no other term for the one that is meant
pub bounded-is : (t u : Term) → Ok u ≡ bounded t → u ≡ t
bounded-is t u = by_test (λ r. Ok u ≡ r → u ≡ t) t (λ low e. ok_is e) (λ high e. absurd cc)

pub low-made : (t u : Term) → height t ≤ 2000 → Ok u ≡ bounded t → height u ≤ 2000
low-made t u low e = subst (λ v. height v ≤ 2000) (sym (bounded-is t u e)) low

low-bounded : (t : Term) → height t ≤ 2000 → bounded t ≡ Ok t
low-bounded t low = by_test (λ r. r ≡ Ok t) t (λ is. refl) (λ high. absurd (grind (arith, nat_tests)))

-- where the term is low enough, a maker's refusal is want of memory
pub refused-made : (e : Stop) (t : Term) → height t ≤ 2000 → Unless (e ≡ Memory) (Err e ≡ bounded t) → e ≡ Memory
refused-made Memory t low h = refl
refused-made Fuel t low h = let is = h (λ x. cc) ∙ low-bounded t low in absurd cc
refused-made Deep t low h = let is = h (λ x. cc) ∙ low-bounded t low in absurd cc
refused-made PoolFull t low h = let is = h (λ x. cc) ∙ low-bounded t low in absurd cc

-- the type of K is low enough
pub axiom_k-gives : (made : Result Code.Term Stop) (i m : ℕ) → Gives tree_of made (Ok (axiom_k_type i m)) → Gives tree_of made (bounded (axiom_k_type i m))
axiom_k-gives made i m h = subst (Gives tree_of made) (sym (low-bounded (axiom_k_type i m) (omega arith))) h

-- no id is right for a term that is too high
pub none-made : {I : Type 0} (held : Held I) (r : Result (Option I) Stop) (e : Stop) (t : Term) → IfOk r (λ id. (id ≡ None) × (e ≡ Deep))
    → Gives tree_of (Err e) (bounded t) → IfOk r (λ id. IsIdWhereLow held id t)
none-made held (Ok id) e t none gives =
    subst (λ o. IsIdWhereLow held o t) (sym none.0) (made-deep t (subst (λ x. Gives tree_of (Err x) (bounded t)) none.1 gives))
none-made held (Err x) e t none gives = tt

pub on_err : {A : Type 0} (P : Type 0) (r : Result A Stop) → P → OnErr r P
on_err P (Ok a) p = tt
on_err P (Err e) p = p
