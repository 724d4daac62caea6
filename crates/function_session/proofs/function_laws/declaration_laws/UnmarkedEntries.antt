-- Entries that are no families leave the names of families and constructors without marks.
use Rattle.std.proofs.Common.{◌≡◌, true, List, [], ◌∷◌, ◌++◌, All, refl, sym, subst as transport}
use Rattle.std.proofs.lemmas.List.Elements.{All-head, All-tail}
use Rattle.std.proofs.lemmas.Bool.{and_parts, and_from}
use Rattle.theory.specs.Signatures.{Entry, FamilyOf, EliminatorAt, AxiomKAt, Definition, Signature}
use Rattle.drafts.specs.draft_checks.Checks.{all_unmarked, is_unmarked_entry, unmarked}
use Rattle.drafts.specs.draft_entering.Conditions.{Extends, IsNoFamily}

plain-entry : (e : Entry) → IsNoFamily e → is_unmarked_entry e ≡ true
plain-entry (FamilyOf f) h = absurd (h f refl)
plain-entry (EliminatorAt n m) h = refl
plain-entry (AxiomKAt i m) h = refl
plain-entry (Definition name type body) h = refl

plain-entries : (entries : List Entry) → All IsNoFamily entries → all_unmarked entries ≡ true
plain-entries [] h = refl
plain-entries (e ∷ entries) h =
    and_from (is_unmarked_entry e) (all_unmarked entries) (plain-entry e (All-head IsNoFamily e entries h))
    (plain-entries entries (All-tail IsNoFamily e entries h))

pub more-entries : (entries more : List Entry) → all_unmarked entries ≡ true → all_unmarked more ≡ true → all_unmarked (entries ++ more) ≡ true
more-entries [] more h k = k
more-entries (e ∷ entries) more h k =
    let p = and_parts (is_unmarked_entry e) (all_unmarked entries) h in
    and_from (is_unmarked_entry e) (all_unmarked (entries ++ more)) p.0 (more-entries entries more p.1 k)

pub stays-unmarked : (S T : Signature) → unmarked S ≡ true → Extends S T → unmarked T ≡ true
stays-unmarked S T h more =
    transport (λ entries. all_unmarked entries ≡ true) (sym more.entries) (more-entries S.entries more.more h (plain-entries more.more more.plain))
