-- The ids of the types of a context that is written out, one more of them.
use Rattle.std.proofs.Common.{◌≡◌, ℕ, ◌+◌, ◌<◌, Option, List, [], ◌∷◌, ◌++◌, length, get_or, take, sym, subst₂}
use Rattle.core_terms.specs.Meanings.{tree_of}
use Rattle.core_terms.specs.declared.term.Term.{Term}
use Rattle.core_terms.proofs.Lists.{take-more}
use Rattle.core_sig.specs.EntryIds.{Correspond, IsIdWhereLow}
use Rattle.core_sig.proofs.StandingEntries.{correspond-map, correspond-push, where_low-stays}
use Rattle.term_pool.specs.Held.{Held, Extends}
use Rattle.kernel_check.specs.Scopes.{IsWritten}

pub types-more : {I : Type 0} (old new : Held I) (types : List Term) (k : ℕ) (ty : Term) (ids more : List (Option I)) (id : Option I) → Extends old new → k < length types
    → ty ≡ get_or types k ty → Correspond (IsWritten old) (take k types) ids → IsIdWhereLow new id (tree_of ty) → more ≡ ids ++ id ∷ []
    → Correspond (IsWritten new) (take (k + 1) types) more
types-more old new types k ty ids more id extends within is before made pushed =
    let kept = correspond-map (IsWritten old) (IsWritten new) (take k types) ids (λ n t o. where_low-stays old new extends o (tree_of t)) before in
    subst₂ (Correspond (IsWritten new)) (sym (take-more types k ty within is)) (sym pushed) (correspond-push (IsWritten new) (take k types) ids ty id kept made)
