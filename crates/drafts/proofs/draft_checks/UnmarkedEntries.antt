-- Names without marks, entry by entry.
use Rattle.std.proofs.Common.{◌≡◌, ℕ, zero, suc, ◌+◌, ◌<◌, ◌≤◌, true, false, ◌&&◌, not, List, [], ◌∷◌, All, length, drop, slice_get, refl, sym, ap, ◌∙◌, arith}
use Rattle.std.proofs.lemmas.Bool.{not-true, and_parts}
use Rattle.std.proofs.lemmas.List.{drop_all}
use Rattle.std.proofs.lemmas.List.Elements.{All-cons, All-nil}
use Rattle.theory.specs.Families.{Constructor}
use Rattle.theory.specs.Signatures.{Entry, Signature}
use Rattle.theory.specs.Signatures.Entry.{FamilyOf, EliminatorAt, AxiomKAt, Definition}
use Rattle.drafts.specs.draft_entering.FreeNames.{is_marked, HasUnmarkedNames}
use Rattle.drafts.specs.entering_laws.Laws.{IsUnmarked}
use Rattle.drafts.proofs.entering_laws.OpenSignatures.{well_formed-open}
use Rattle.drafts.specs.draft_checks.Checks.{all_unmarked, are_unmarked, is_unmarked_at, is_unmarked_entry, unmarked}
use Rattle.drafts.specs.draft_checks.Laws.{UnmarkedIsOpen}

-- ---- from an entry on

from-entry : (n : ℕ) (entries : List Entry) → n < length entries
    → all_unmarked (drop n entries) ≡ (is_unmarked_at (slice_get entries n) && all_unmarked (drop (n + 1) entries))
from-entry n [] lt = absurd (omega arith)
from-entry zero (e ∷ entries) lt = refl
from-entry (suc n) (e ∷ entries) lt =
    let s : suc n + 1 ≡ suc (n + 1) = omega arith in
    from-entry n entries (omega arith) ∙ ap (λ k. is_unmarked_at (slice_get entries n) && all_unmarked (drop k (e ∷ entries))) (sym s)

pub marked-entry : (n : ℕ) (entries : List Entry) → n < length entries → is_unmarked_at (slice_get entries n) ≡ false → all_unmarked (drop n entries) ≡ false
marked-entry n entries lt is = from-entry n entries lt ∙ ap (λ b. b && all_unmarked (drop (n + 1) entries)) is

pub next-entry : (n : ℕ) (entries : List Entry) → n < length entries → is_unmarked_at (slice_get entries n) ≡ true
    → all_unmarked (drop n entries) ≡ all_unmarked (drop (n + 1) entries)
next-entry n entries lt is = from-entry n entries lt ∙ ap (λ b. b && all_unmarked (drop (n + 1) entries)) is

pub last-entry : (n : ℕ) (entries : List Entry) → length entries ≤ n → all_unmarked (drop n entries) ≡ true
last-entry n entries le = ap all_unmarked (drop_all n entries le)

-- ---- signatures without marks

constructors-tell : (cs : List Constructor) → are_unmarked cs ≡ true → All (λ c. is_marked c.name ≡ false) cs
constructors-tell [] h = All-nil (λ c. is_marked c.name ≡ false)
constructors-tell (c ∷ cs) h =
    let p = and_parts (not (is_marked c.name)) (are_unmarked cs) h in
    All-cons (λ k. is_marked k.name ≡ false) c cs (not-true (is_marked c.name) p.0) (constructors-tell cs p.1)

entry-tells : (e : Entry) → is_unmarked_entry e ≡ true → HasUnmarkedNames e
entry-tells (FamilyOf f) h =
    let p = and_parts (not (is_marked f.name)) (are_unmarked f.constructors) h in
    (not-true (is_marked f.name) p.0, constructors-tell f.constructors p.1)
entry-tells (EliminatorAt n m) h = tt
entry-tells (AxiomKAt i m) h = tt
entry-tells (Definition name type body) h = tt

entries-tell : (entries : List Entry) → all_unmarked entries ≡ true → All HasUnmarkedNames entries
entries-tell [] h = All-nil HasUnmarkedNames
entries-tell (e ∷ entries) h =
    let p = and_parts (is_unmarked_entry e) (all_unmarked entries) h in
    All-cons HasUnmarkedNames e entries (entry-tells e p.0) (entries-tell entries p.1)

pub unmarked-tells : (S : Signature) → unmarked S ≡ true → IsUnmarked S
unmarked-tells S h = entries-tell S.entries h

pub unmarked-open : UnmarkedIsOpen
unmarked-open S well prelude h = well_formed-open S well prelude (unmarked-tells S h)
