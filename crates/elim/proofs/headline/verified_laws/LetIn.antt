-- Entries that the checker accepts one by one.
use Rattle.std.proofs.Common.{◌≡◌, ◌⊎◌, inl, inr, ℕ, ◌≤◌, List, [], ◌∷◌, length, refl, sym, ap, subst as transport, arith}
use Rattle.std.proofs.lemmas.List.{take-append-le, take_at}
use Rattle.std.proofs.lemmas.Option.{slice_get_within}
use Rattle.theory.specs.Signatures.{Signature, Entry, IsEntryAt}
use Rattle.theory.specs.WellFormed.{pushed, first_entries}
use Rattle.theory.proofs.Pushing.{entry_of-pushed}
use Rattle.elim.specs.refusal_laws.accepted_laws.Checked.{LetsIn, Checked, unchanged, one_more}

abbrev with_entries : Signature → List Entry → Signature
with_entries S es = record { entries = es; has_k = S.has_k }

first-pushed : (S : Signature) (e : Entry) (n : ℕ) → n ≤ length S.entries → first_entries S n ≡ first_entries (pushed S e) n
first-pushed S e n le = ap (with_entries S) (sym (take-append-le n S.entries (e ∷ []) le))

all-pushed : (S : Signature) (e : Entry) (n : ℕ) → n ≡ length S.entries → S ≡ first_entries (pushed S e) n
all-pushed S e n place = ap (with_entries S) (sym (take_at S.entries (e ∷ []) n (sym place)))

-- each entry after those of P is accepted after the entries before it
pub each-in : {fuel : ℕ} {P T : Signature} → Checked fuel P T → (n : ℕ) (e : Entry) → length P.entries ≤ n → IsEntryAt T n e
    → LetsIn (first_entries T n) fuel e
each-in {fuel} {P} unchanged n e le at = let lt = slice_get_within P.entries n e at in absurd (omega arith)
each-in {fuel} {P} (one_more T x h lets) n e le at = by (entry_of-pushed T x n e at) (each-in h n e le)
  where
    by : IsEntryAt T n e ⊎ ((n ≡ length T.entries) × (x ≡ e)) → (IsEntryAt T n e → LetsIn (first_entries T n) fuel e) → LetsIn (first_entries (pushed T x) n) fuel e
    by (inl before) rest =
        let lt = slice_get_within T.entries n e before in
        transport (λ U. LetsIn U fuel e) (first-pushed T x n (omega arith)) (rest before)
    by (inr (place, same)) rest =
        transport (λ y. LetsIn (first_entries (pushed T x) n) fuel y) same (transport (λ U. LetsIn U fuel x) (all-pushed T x n place) lets)

pub same-k : {fuel : ℕ} {S T : Signature} → Checked fuel S T → T.has_k ≡ S.has_k
same-k unchanged = refl
same-k (one_more T e h lets) = same-k h
