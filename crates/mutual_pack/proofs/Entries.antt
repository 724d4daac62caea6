-- Drafts one after the other, and those for the code's family as for that of the signature.
use Rattle.std.proofs.Common.{◌≡◌, ℕ, List, [], ◌∷◌, ◌++◌, map, All, IfOk, Result, Ok, Err, Some, refl, ap, sym, subst}
use Rattle.std.proofs.lemmas.List.{map-append}
use Rattle.theory.specs.Families as pure
use Rattle.theory.specs.Signatures.{Signature, FamilyOf}
use Rattle.theory.specs.Terms.{Term}
use Rattle.core_terms.specs.Answers.{Gives}
use Rattle.core_terms.specs.declared.stop.Stop.{Stop}
use Rattle.core_terms.specs.declared.term.Term.{Term as TermOfCode}
use Rattle.core_sig.specs.Drafts.{Draft, draft_of, drafted}
use Rattle.core_sig.specs.Kinds.{HasKinds}
use Rattle.core_sig.specs.Meanings.{family_of}
use Rattle.core_sig.specs.ScopedDrafts.{IsScopedDraft}
use Rattle.core_sig.specs.Shapes.{shape_of}
use Rattle.core_sig.specs.declared.entry.Draft.{Draft as DraftOfCode}
use Rattle.core_sig.specs.declared.family.Family.{Family}
use Rattle.core_sig.proofs.ShapesOfCode.{shape-is}
use Rattle.tele_eq.proofs.Growing.{snoc-append}
use Rattle.mutual_pack.specs.Equations.{sides_of, induction_equation_of_shape, induction_equation}
use Rattle.mutual_pack.specs.Inductions.{after, packed_number, induction_entries_of_shape, induction_entries}
use Rattle.mutual_pack.specs.MutualFamilies.{Packed}

pub after_push : (made : List Draft) (d : Draft) (others : Result (List Draft) Stop) → after made (after (d ∷ []) others) ≡ after (made ++ d ∷ []) others
after_push made d (Ok ds) = ap Ok (sym (snoc-append made d ds))
after_push made d (Err e) = refl

pub after_none : (others : Result (List Draft) Stop) → after [] others ≡ others
after_none (Ok ds) = refl
after_none (Err e) = refl

pub ruleset following = (after_push, after_none, map-append)

-- a draft that is made of the same parts
pub drafted-same : (result : Result DraftOfCode Stop) (base : ℕ) (name' name : List ℕ) (names' names : List (List ℕ)) (type' type term' term : Term) → name' ≡ name → names' ≡ names → type' ≡ type → term' ≡ term
    → Gives draft_of result (drafted name' base names' type' term') → Gives draft_of result (drafted name base names type term)
drafted-same result base name' name names' names type' type term' term n ns t u given =
    subst (λ x. Gives draft_of result (drafted x base names type term)) n
    (subst (λ x. Gives draft_of result (drafted name' base x type term)) ns
    (subst (λ x. Gives draft_of result (drafted name' base names' x term)) t
    (subst (λ x. Gives draft_of result (drafted name' base names' type' x)) u given)))

pub found-family : (f : pure.Family) (code : Family) → Some (FamilyOf (family_of code)) ≡ Some (FamilyOf f) → family_of code ≡ f
found-family f code e = cc

-- the entries for the code's family are those for that of the signature
pub entries-are : (result : Result (List DraftOfCode) Stop) (base' base : ℕ) (packed : Packed) (f : pure.Family) (code : Family) → HasKinds (packed_number packed) code → base' ≡ base → family_of code ≡ f
    → Gives (map draft_of) result (induction_entries_of_shape base' packed (shape_of code)) → Gives (map draft_of) result (induction_entries base packed f)
entries-are result base' base packed f code kinds base-is is given =
    subst (λ b. Gives (map draft_of) result (induction_entries b packed f)) base-is
    (subst (λ g. Gives (map draft_of) result (induction_entries base' packed g)) is
    (subst (λ s. Gives (map draft_of) result (induction_entries_of_shape base' packed s)) (sym (shape-is (packed_number packed) code kinds)) given))

-- and so is the equation
pub equation-is : (result : Result (List TermOfCode × TermOfCode × TermOfCode) Stop) (S : Signature) (packed : Packed) (f : pure.Family) (code : Family) (member con : ℕ) → HasKinds (packed_number packed) code → family_of code ≡ f
    → Gives sides_of result (induction_equation_of_shape S packed (shape_of code) member con) → Gives sides_of result (induction_equation S packed f member con)
equation-is result S packed f code member con kinds is given =
    subst (λ g. Gives sides_of result (induction_equation S packed g member con)) is
    (subst (λ s. Gives sides_of result (induction_equation_of_shape S packed s member con)) (sym (shape-is (packed_number packed) code kinds)) given)

-- what is answered is scoped where what is meant is
pub answers-scoped : (T : Signature) (result : Result (List DraftOfCode) Stop) (meant : Result (List Draft) Stop) → Gives (map draft_of) result meant → IfOk meant (All (IsScopedDraft T)) → IfOk result (λ drafts. All (IsScopedDraft T) (map draft_of drafts))
answers-scoped T (Ok drafts) meant is h = subst (λ r. IfOk r (All (IsScopedDraft T))) (sym is) h
answers-scoped T (Err e) meant is h = tt
