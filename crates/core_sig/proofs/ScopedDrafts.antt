-- Drafts whose terms are scoped: drafts made of scoped terms, and answers of calls.
use Rattle.std.proofs.Common.{ℕ, Bool, true, false, nat_le, if◌then◌else◌, List, length, Result, Ok, Err, IfOk, sym, subst as transport}
use Rattle.theory.specs.Terms.{Term, height}
use Rattle.theory.specs.Signatures.{Signature, Definition}
use Rattle.core_terms.specs.Answers.{Gives, and_then}
use Rattle.core_terms.specs.declared.stop.Stop.{Stop}
use Rattle.core_terms.specs.declared.stop.Stop.TheVariants.{Deep}
use Rattle.core_sig.specs.DraftScopes.{IsDraftTerm}
use Rattle.core_sig.specs.Drafts.{Draft, draft_of, drafted}
use Rattle.core_sig.specs.ScopedDrafts.{IsScopedDraft}
use Rattle.core_sig.specs.declared.entry.Draft.{Draft as DraftOfCode}

-- a definition of scoped terms
pub drafted-scoped : (T : Signature) (name : List ℕ) (base : ℕ) (names : List (List ℕ)) (type term : Term) → IsDraftTerm T base (length names) 0 type → IsDraftTerm T base (length names) 0 term → IfOk (drafted name base names type term) (IsScopedDraft T)
drafted-scoped T name base names type term h k = by (nat_le (height type) 2000) (nat_le (height term) 2000)
  where
    by : (b c : Bool)
        → IfOk (and_then (if b then Ok type else Err Deep) (λ t. and_then (if c then Ok term else Err Deep) (λ u. Ok (record { entry = Definition name t u; base = base; names = names })))) (IsScopedDraft T)
    by true true = (h, k)
    by true false = tt
    by false c = tt

-- the answer of a call is scoped if the meant one is
pub answer-scoped : (T : Signature) (result : Result DraftOfCode Stop) (meant : Result Draft Stop) → Gives draft_of result meant → IfOk meant (IsScopedDraft T) → IfOk result (λ d. IsScopedDraft T (draft_of d))
answer-scoped T (Ok d) meant is h = transport (λ r. IfOk r (IsScopedDraft T)) (sym is) h
answer-scoped T (Err e) meant is h = tt
