-- The telescope of a family's indices and of the family at them, as the code makes it.
use Rattle.std.proofs.Common.{◌≡◌, ℕ, suc, List, [], ◌∷◌, ◌++◌, length, map, take, refl, ap, ap₂, sym, ◌∙◌, arith}
use Rattle.std.proofs.lemmas.List.{length-map}
use Rattle.std.proofs.lemmas.Simd.{map-map}
use Rattle.theory.specs.Terms.{Term, Fam}
use Rattle.theory.specs.Substitutions.{fill, ups}
use Rattle.theory.specs.Telescopes.{Telescope, applied, variables, weaken_by, inst_telescope}
use Rattle.theory.specs.Eliminators.{no_variable}
use Rattle.core_terms.specs.Meanings.{tree_of}
use Rattle.core_sig.specs.Meanings.{family_of}
use Rattle.core_sig.specs.declared.family.Arg.{Arg}
use Rattle.core_sig.specs.declared.family.Family.{Family}
use Rattle.core_sig.proofs.Arguments.{index_types-of}
use Rattle.unification.specs.Records.{items_at, family_items}
use Rattle.problems.proofs.RecordItems.{items-more}

length-inst : (s : ℕ → Term) (tele : Telescope) → length (inst_telescope s tele) ≡ length tele
length-inst s [] = refl
length-inst s (a ∷ tele) = ap suc (length-inst (ups s) tele)

pub family-items-are : (n : ℕ) (f : Family) (ps : List Term)
    → items_at (inst_telescope (fill no_variable ps) (map (λ a. tree_of a.ty) f.indices)) (map (λ a. a.level) f.indices)
    ++ record { type = applied (weaken_by (length f.indices) (applied (Fam n) ps)) (variables (length f.indices)); level = f.level } ∷ []
    ≡ family_items n (family_of f) ps
family-items-are n f ps =
    let s = fill no_variable ps in
    let types = inst_telescope s (map (λ a. tree_of a.ty) f.indices) in
    let levels = map (λ (a : Arg). a.level) f.indices in
    let whole : ℕ → Term = λ k. applied (weaken_by k (applied (Fam n) ps)) (variables k) in
    sym (ap₂ (λ tele more. items_at (inst_telescope s tele ++ whole (length {A = Term × ℕ} (map (λ (i : Arg). (tree_of i.ty, i.level)) f.indices)) ∷ []) (more ++ f.level ∷ []))
    (index_types-of f) (map-map (λ (i : Term × ℕ). i.1) (λ (a : Arg). (tree_of a.ty, a.level)) f.indices)
    ∙ (ap (λ k. items_at (types ++ whole k ∷ []) (levels ++ f.level ∷ [])) (length-map {B = Term × ℕ} f.indices (λ (i : Arg). (tree_of i.ty, i.level)))
    ∙ items-more types levels (whole (length f.indices)) f.level
    (length-map f.indices (λ a. a.level) ∙ sym (length-inst s (map (λ a. tree_of a.ty) f.indices) ∙ length-map f.indices (λ a. tree_of a.ty)))))

items-count : (tele : Telescope) (levels : List ℕ) → length levels ≡ length tele → length (items_at tele levels) ≡ length tele
items-count [] [] e = refl
items-count [] (i ∷ levels) e = absurd (omega arith)
items-count (a ∷ tele) [] e = absurd (omega arith)
items-count (a ∷ tele) (i ∷ levels) e = ap suc (items-count tele levels (omega arith))

take-first : {A : Type 0} (xs ys : List A) → take (length xs) (xs ++ ys) ≡ xs
take-first [] ys = refl
take-first (x ∷ xs) ys = ap (λ zs. x ∷ zs) (take-first xs ys)

-- those of the indices alone
pub indices-are : (n : ℕ) (f : Family) (ps : List Term)
    → items_at (inst_telescope (fill no_variable ps) (map (λ a. tree_of a.ty) f.indices)) (map (λ a. a.level) f.indices)
    ≡ take (length (family_of f).indices) (family_items n (family_of f) ps)
indices-are n f ps =
    let s = fill no_variable ps in
    let types = inst_telescope s (map (λ a. tree_of a.ty) f.indices) in
    let levels = map (λ (a : Arg). a.level) f.indices in
    let many = length-inst s (map (λ a. tree_of a.ty) f.indices) ∙ length-map f.indices (λ a. tree_of a.ty) in
    let same = length-map f.indices (λ a. a.level) ∙ sym many in
    let count = items-count types levels same ∙ (many ∙ sym (length-map {B = Term × ℕ} f.indices (λ (i : Arg). (tree_of i.ty, i.level)))) in
    sym (take-first (items_at types levels) _) ∙ ap₂ take count (family-items-are n f ps)
