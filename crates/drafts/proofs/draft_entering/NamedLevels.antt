-- The levels of a generated entry are read off its name, so entries at others have other names.
use Rattle.std.proofs.Common.{◌≡◌, ◌≢◌, ℕ, ◌+◌, ◌<◌, nat_lt, Bool, true, false, cond, ◌&&◌, Option, Some, None, List, [], ◌∷◌, ◌++◌, bytes_eq, codes, map, flat_map, refl, sym, ap, ◌∙◌, arith, append_assoc}
use Rattle.std.specs.Prelude.{option_and_then}
use Rattle.std.proofs.lemmas.Bool.{and_from}
use Rattle.std.proofs.lemmas.Bool.Decides.{nat_tests}
use Rattle.std.proofs.lemmas.Slice.Eq.{bytes_eq-Decides}
use Rattle.theory.specs.Terms.{top}
use Rattle.theory.specs.Families.{Family}
use Rattle.theory.specs.PreludeFamilies.{level_text}
use Rattle.theory.proofs.Lists.{some_is}
use Rattle.core_sig.specs.Drafts.{generated_name}
use Rattle.core_text.specs.SymbolLookup.{number_at_end, before_end}
use Rattle.core_text.proofs.SymbolForms.{level-at-end, word-at-end}
use Rattle.tree_translation.specs.Naming.{left_name}
use Rattle.clause_reports.specs.Generated.{at_level, levels, of_identities}
use Rattle.clause_reports.specs.Generated.Generated.{Left}
use Rattle.drafts.specs.draft_entering.FoundNames.{found_in, left_levels, level_of}
use Rattle.drafts.proofs.draft_entering.FamilyNames.{none-at-level, none-cons}
use Rattle.drafts.proofs.draft_entering.FoundAmong.{none-among, one-among}

-- a text and a name of which something else is read are different
other-text : {X : Type 0} (read : List ℕ → X) (text name : List ℕ) → read text ≢ read name → bytes_eq text name ≡ false
other-text read text name other = by (bytes_eq text name) refl
  where
    by : (b : Bool) → bytes_eq text name ≡ b → b ≡ false
    by true is = absurd (other (ap read ((bytes_eq-Decides text name).0 is)))
    by false is = refl

none-some : {X : Type 0} {x : X} → None ≡ Some x → ⊥
none-some e = cc

-- ---- entries of families

level-of-name : (family stem : List ℕ) (m : ℕ) → m < top → level_of (generated_name family (stem ++ 46 ∷ []) m) ≡ Some m
level-of-name family stem m lt =
    let low : nat_lt m top ≡ true = grind (arith, nat_tests) in
    ap (λ front. level_of (front ++ level_text m)) (sym (append_assoc family stem (46 ∷ [])))
    ∙ (ap (option_and_then (λ p. cond (nat_lt p.1 top) (Some p.1) None)) (level-at-end (family ++ stem) 46 m refl (omega arith))
    ∙ ap (λ b. cond b (Some m) None) low)

none-at-other : (name : List ℕ) (n : ℕ) (f : Family) (m : ℕ) → m < top → level_of name ≢ Some m → found_in name (at_level n f m) ≡ None
none-at-other name n f m lt other =
    none-at-level name n f m
    (λ stem. other-text level_of (generated_name f.name (stem ++ 46 ∷ []) m) name (λ same. other (sym same ∙ level-of-name f.name stem m lt)))

-- the entries of the family at the level that the name ends with
pub found-at-level : (name : List ℕ) (n : ℕ) (f : Family) (m : ℕ) → m < top → level_of name ≡ Some m
    → found_in name (flat_map (at_level n f) levels) ≡ found_in name (at_level n f m)
found-at-level name n f m lt is =
    one-among name (at_level n f) m 0 top (λ j le less ne. none-at-other name n f j (omega arith) (λ there. ne (some_is (sym there ∙ is)))) (omega arith) (omega arith)

-- the name ends with no level
pub found-at-none : (name : List ℕ) (n : ℕ) (f : Family) → level_of name ≡ None → found_in name (flat_map (at_level n f) levels) ≡ None
found-at-none name n f is =
    none-among name (at_level n f) 0 top (λ j le less. none-at-other name n f j (omega arith) (λ there. none-some (sym is ∙ there)))

-- ---- eliminations of equations by the left side

levels-of-left : (i m : ℕ) → i < top → m < top → left_levels (left_name i m) ≡ Some (i, m)
levels-of-left i m low lt =
    let within : (nat_lt i top && nat_lt m top) ≡ true = and_from (nat_lt i top) (nat_lt m top) (grind (arith, nat_tests)) (grind (arith, nat_tests)) in
    ap ends (ap (λ front. number_at_end (front ++ level_text m)) (sym (append_assoc equality (codes "!left") (46 ∷ []))) ∙ level-at-end (equality ++ codes "!left") 46 m refl (omega arith))
    ∙ (ap (λ front. ends (Some (front, m))) (append_assoc equality (codes "!left") (46 ∷ []))
    ∙ (ap (option_and_then (λ identity. option_and_then (both m) (number_at_end identity))) (word-at-end (codes "!left.") equality)
    ∙ (ap (option_and_then (both m)) (level-at-end (codes "Eq") 46 i refl (omega arith))
    ∙ ap (λ b. cond b (Some (i, m)) None) within)))
  where
    equality : List ℕ
    equality = codes "Eq." ++ level_text i

    both : ℕ → List ℕ × ℕ → Option (ℕ × ℕ)
    both k q = cond (nat_lt q.1 top && nat_lt k top) (Some (q.1, k)) None

    ends : Option (List ℕ × ℕ) → Option (ℕ × ℕ)
    ends = option_and_then (λ p. option_and_then (λ identity. option_and_then (both p.1) (number_at_end identity)) (before_end (codes "!left.") p.0))

none-left : (name : List ℕ) (i m : ℕ) → i < top → m < top → left_levels name ≢ Some (i, m) → found_in name (Left i m ∷ []) ≡ None
none-left name i m low lt other =
    none-cons name (Left i m) [] (other-text left_levels (left_name i m) name (λ same. other (sym same ∙ levels-of-left i m low lt))) refl

one-each : (i : ℕ) (ms : List ℕ) → map (Left i) ms ≡ flat_map (λ m. Left i m ∷ []) ms
one-each i [] = refl
one-each i (m ∷ ms) = ap (λ all. Left i m ∷ all) (one-each i ms)

none-at-identity : (name : List ℕ) (i : ℕ) → i < top → ((m : ℕ) → m < top → left_levels name ≢ Some (i, m)) → found_in name (map (Left i) levels) ≡ None
none-at-identity name i low other =
    ap (found_in name) (one-each i levels)
    ∙ none-among name (λ m. Left i m ∷ []) 0 top (λ m le lt. none-left name i m low (omega arith) (other m (omega arith)))

-- the entry at the levels that the name ends with
pub found-left : (name : List ℕ) (i m : ℕ) → i < top → m < top → left_levels name ≡ Some (i, m) → found_in name of_identities ≡ found_in name (Left i m ∷ [])
found-left name i m low lt is =
    one-among name (λ j. map (Left j) levels) i 0 top
    (λ j le less ne. none-at-identity name j (omega arith) (λ k few there. ne (ap (λ p. p.0) (some_is (sym there ∙ is))))) (omega arith) (omega arith)
    ∙ (ap (found_in name) (one-each i levels)
    ∙ one-among name (λ k. Left i k ∷ []) m 0 top
    (λ k le less ne. none-left name i k low (omega arith) (λ there. ne (ap (λ p. p.1) (some_is (sym there ∙ is))))) (omega arith) (omega arith))

-- the name does not end like one of them
pub found-no-left : (name : List ℕ) → left_levels name ≡ None → found_in name of_identities ≡ None
found-no-left name is =
    none-among name (λ i. map (Left i) levels) 0 top
    (λ i le less. none-at-identity name i (omega arith) (λ m lt there. none-some (sym is ∙ there)))
