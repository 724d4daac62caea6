-- Without K: no entry is an instance of it, and no term that has a type holds it.
use Rattle.std.proofs.Common.{◌≡◌, ℕ, false, sym, ◌∙◌, true≢false, inl, inr, arith}
use Rattle.theory.specs.Terms.{Term}
use Rattle.theory.specs.Terms.Term.{Var, Pi, Lam, App, Let, AxiomK}
use Rattle.theory.specs.Substitutions.{ups, inst, extend}
use Rattle.theory.specs.Telescopes.{Context}
use Rattle.theory.specs.Signatures.{Signature, AxiomKAt, IsEntryAt, TypeOf}
use Rattle.theory.specs.Signatures.TypeOf.{constant, family, constructor, eliminator, axiom_k}
use Rattle.theory.specs.Typing.{Has, IsType}
use Rattle.theory.specs.Typing.Has.{variable, sort, product, function, application, local, symbol, below, below_sort}
use Rattle.theory.specs.Typing.IsType.{is_sort, has_sort}
use Rattle.theory.specs.WellFormed.{IsWellFormed}
use Rattle.theory.specs.WellFormed.IsWellFormedSoFar.{whole, with_provisional}
use Rattle.theory.specs.AxiomKLaws.{LacksAxiomK, NoAxiomKEntry, NoAxiomKInDerivations}
use Rattle.theory.proofs.WellFormedness.{axiom_k_of}
use Rattle.theory.proofs.Pushing.{entry_of-pushed, so_far_typed}
use Rattle.theory.proofs.Validity.{valid}

no_entry : (S : Signature) → IsWellFormed S → S.has_k ≡ false → (n i m : ℕ) → ¬ (IsEntryAt S n (AxiomKAt i m))
no_entry S h off n i m at = true≢false (sym (axiom_k_of (h.each n (AxiomKAt i m) at)).on ∙ off)

-- no entry is an instance of K
pub no_axiom_k_entry : NoAxiomKEntry
no_axiom_k_entry S (whole h) off n i m at = no_entry S h off n i m at
no_axiom_k_entry _ (with_provisional S name type h distinct sorted) off n i m at = elim (entry_of-pushed S _ n _ at) [
  | inl earlier ↦ no_entry S h off n i m earlier
  | inr (place, same) ↦ absurd (grind arith)
]

-- an instantiation drops no K
lacks-before : (s : ℕ → Term) (t : Term) → LacksAxiomK (inst s t) → LacksAxiomK t
lacks-before s (Pi a b) h = (lacks-before s a h.0, lacks-before (ups s) b h.1)
lacks-before s (Lam a b) h = (lacks-before s a h.0, lacks-before (ups s) b h.1)
lacks-before s (App f a) h = (lacks-before s f h.0, lacks-before s a h.1)
lacks-before s (Let a t b) h = (lacks-before s a h.0, lacks-before s t h.1, lacks-before (ups s) b h.2)
lacks-before s (AxiomK i m) h = h
lacks-before s _ h = tt

lacks-symbol : {S : Signature} → ((n i m : ℕ) → ¬ (IsEntryAt S n (AxiomKAt i m))) → {t a : Term} → TypeOf S t a → LacksAxiomK t
lacks-symbol none (constant n at) = tt
lacks-symbol none (family n at) = tt
lacks-symbol none (constructor n number at chosen) = tt
lacks-symbol none (eliminator n m at found made) = tt
lacks-symbol none (axiom_k i m at made) = none at i m made

lacks-term : {S : Signature} → ((n i m : ℕ) → ¬ (IsEntryAt S n (AxiomKAt i m))) → {G : Context} {t a : Term} → Has S G t a → LacksAxiomK t
lacks-term none (variable n context at) = tt
lacks-term none (sort i context limit) = tt
lacks-term none (product i j da db) = (lacks-term none da, lacks-term none db)
lacks-term none (function i j da db dc) = (lacks-term none da, lacks-term none db)
lacks-term none (application df du) = (lacks-term none df, lacks-term none du)
lacks-term none (local {t = t} {b = b} i da dt db) =
    (lacks-term none da, lacks-term none dt, lacks-before (extend Var t) b (lacks-term none db))
lacks-term none (symbol context type) = lacks-symbol none type
lacks-term none (below i dt le db) = lacks-term none dt
lacks-term none (below_sort i dt le) = lacks-term none dt

lacks-type : {S : Signature} → ((n i m : ℕ) → ¬ (IsEntryAt S n (AxiomKAt i m))) → {G : Context} {a : Term} → IsType S G a → LacksAxiomK a
lacks-type none (is_sort i) = tt
lacks-type none (has_sort i d) = lacks-term none d

-- neither a term that has a type holds K, nor the type
pub no_axiom_k_in_derivations : NoAxiomKInDerivations
no_axiom_k_in_derivations S h off G t a d =
    let none = no_axiom_k_entry S h off in (lacks-term none d, lacks-type none (valid (so_far_typed S h) d))
